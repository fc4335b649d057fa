-- What one action of an agenda does.
use Rattle.std.specs.Prelude.{◌≡◌, ℕ, ◌<◌, ◌≤◌, ◌⊎◌, pos, Bool, true, false, List, [], ◌∷◌, ◌++◌, length, None, Ok, Err}
use Rattle.std.specs.declared.result.Result.{Result}
use Rattle.qp_chart.specs.declared.actions.Plain.{Plain}
use Rattle.qp_chart.specs.declared.actions.Plain.TheVariants as action
use Rattle.qp_chart.specs.declared.checked.Chart.{Chart}
use Rattle.qp_chart.specs.Task.{Task, Do}
use Rattle.qp_model.specs.Told.{Told}
use Rattle.qp_model.specs.Pieces.{Point, tell}
use Rattle.qp_model.specs.Acts.{Config, Moment}
use Rattle.qp_model.specs.Step.{DoesLeft, tasks_left}
use Rattle.qp_model.specs.Standing.{AgendaReaches}
use Rattle.qp_calls.specs.declared.answers.RoomFault.{RoomFault}
use Rattle.qp_calls.specs.declared.did.Did.{Did}
use Rattle.qp_calls.specs.declared.did.Did.TheVariants as did
use Rattle.qp_calls.specs.declared.tokens.HeldEntry.{HeldEntry}
use Rattle.qp_calls.specs.LaneView.{LaneView, Grows, ceiling_in}
use Rattle.qp_calls.specs.Notes.{last_code, spills_told}
use Rattle.qp_calls.specs.Clauses.{IsFault}
use Rattle.qp_calls.specs.Deferring.{ChangeAlike, StandAll, kept_in}
use Rattle.qp_dispatch.specs.declared.lasting.Lasting.{Lasting}
use Rattle.qp_dispatch.specs.declared.act.Acted.{Acted}
use Rattle.qp_dispatch.specs.declared.act.Acted.TheVariants as acted
use Rattle.qp_dispatch.specs.Lasts.{config_of, actor_of}

-- what stood beside the deferred entries still does
abbrev pub StandBeside : Lasting → Lasting → LaneView → LaneView → Type 0
StandBeside k m v w =
    (others : List HeldEntry) → StandAll (k.list.entries.items ++ others) v → StandAll (m.list.entries.items ++ others) w

-- the lane has the ceiling that it had, and no `spill` if it had none
pub record Calm (v w : LaneView) : Type 0 where
  pub ceiling : ceiling_in 0 w.told ≡ ceiling_in 0 v.told
  pub spills : spills_told v.told ≡ false → spills_told w.told ≡ false

-- no action changes the leaf or the capacity of the deferred list, which stays within it
pub record ActionKeeps (k m : Lasting) : Type 0 where
  pub leaf : m.leaf ≡ k.leaf
  pub room : m.list.entries.capacity ≡ k.list.entries.capacity
  pub few : length (kept_in k.list) ≤ k.list.entries.capacity → length (kept_in m.list) ≤ k.list.entries.capacity

-- the action was done, and a scheduling point stands behind it
pub record ActDone (me : ℕ) (at : Moment) (p : Plain) (k m : Lasting) (v w : LaneView) : Type 0 where
  pub g : List Told
  pub grows : Grows g v w
  pub reaches : (chart : Chart) (ts : List Task) (leaf : ℕ)
      → AgendaReaches v.sys (actor_of me chart k) at (tasks_left (Do p ∷ ts) leaf) (config_of k) (tell g ++ Point ∷ []) (tasks_left ts leaf) (config_of m)
  pub calm : Calm v w
  pub keeps : ActionKeeps k m
  pub hands : ChangeAlike (kept_in k.list) (kept_in m.list) v w
  pub stand : StandBeside k m v w

-- the action ended in its assertion, with this code
pub record ActAsserts (me : ℕ) (at : Moment) (p : Plain) (code : ℕ) (k m : Lasting) (v w : LaneView) : Type 0 where
  pub g : List Told
  pub grows : Grows g v w
  pub does : (chart : Chart) (ts : List Task) → DoesLeft v.sys (actor_of me chart k) at None [] (Do p ∷ ts) (config_of k) (tell g) None
  pub some : 0 < code
  pub last : last_code w.told ≡ code
  pub stand : StandBeside k m v w

-- what was added begins what the action could add: with more records it would be done
pub record ActBegins (me : ℕ) (at : Moment) (p : Plain) (k : Lasting) (g : List Told) (v : LaneView) : Type 0 where
  pub rest : List Told
  pub after : Config
  pub few : length after.kept ≤ k.list.entries.capacity
  pub reaches : (chart : Chart) (ts : List Task) (leaf : ℕ)
      → AgendaReaches v.sys (actor_of me chart k) at (tasks_left (Do p ∷ ts) leaf) (config_of k) (tell (g ++ rest) ++ Point ∷ []) (tasks_left ts leaf) after

-- `room` refused: nothing was done, or the front of a flush
pub record ActCut (me : ℕ) (at : Moment) (p : Plain) (k m : Lasting) (v w : LaneView) : Type 0 where
  pub g : List Told
  pub grows : Grows g v w
  pub front : (g ≡ []) ⊎ ActBegins me at p k g v
  pub calm : Calm v w
  pub stand : StandBeside k m v w

abbrev pub ActsTo : ℕ → Moment → Plain → Lasting → Lasting → LaneView → LaneView → Acted → Type 0
ActsTo me at p k m v w acted.Done = ActDone me at p k m v w
ActsTo me at p k m v w (acted.Asserted code) = ActAsserts me at p code k m v w
ActsTo me at p k m v w (acted.Cut fault) = ActCut me at p k m v w × IsFault w fault

-- a publication goes by parts
abbrev pub is_publication : Plain → Bool
is_publication (action.Publish sig pars reserve) = true
is_publication p = false

-- `ok` takes the value that a call answers
abbrev pub OkTakes : Lasting → Lasting → Result Did RoomFault → Acted → Type 0
OkTakes k m (Ok (did.Value n)) a = (a ≡ acted.Done) × (m ≡ record k { ok = pos n })
OkTakes k m (Ok (did.Assert code)) a = (a ≡ acted.Asserted code) × (m ≡ k)
OkTakes k m (Err fault) a = (a ≡ acted.Cut fault) × (m ≡ k)
