-- Agendas, part after part.
use Rattle.std.specs.Prelude.{◌≡◌, ℕ, suc, ◌+◌, ◌*◌, ◌<◌, ◌≤◌, Bool, true, false, List, [], ◌∷◌, ◌++◌, map, length, Some, None, is_some}
use Rattle.std.specs.declared.option.Option.{Option}
use Rattle.std.specs.List.{AllByRecursion, list_all}
use Rattle.qp_chart.specs.declared.checked.Chart.{Chart}
use Rattle.qp_chart.specs.Task.{Task}
use Rattle.qp_model.specs.declared.systems.System.{System}
use Rattle.qp_model.specs.Parts.{members}
use Rattle.qp_model.specs.Pieces.{Piece, Point, records_in, tell}
use Rattle.qp_model.specs.Acts.{Config, Moment}
use Rattle.qp_model.specs.Step.{DoesLeft}
use Rattle.qp_model.specs.Standing.{AgendaReaches}
use Rattle.qp_model.specs.Able.{task_able}
use Rattle.qp_calls.specs.declared.tokens.HeldEntry.{HeldEntry}
use Rattle.qp_calls.specs.LaneView.{LaneView, Grows, ceiling_in}
use Rattle.qp_calls.specs.Notes.{last_code, spills_told}
use Rattle.qp_calls.specs.Clauses.{IsFault, entry_of}
use Rattle.qp_calls.specs.Deferring.{ChangeAlike, StandAll, kept_in}
use Rattle.qp_chart_compiled.specs.declared.compiled.Compiled.{Compiled}
use Rattle.qp_chart_compiled.specs.Compiled.{tasks_left_in}
use Rattle.qp_dispatch.specs.declared.lasting.Lasting.{Lasting}
use Rattle.qp_dispatch.specs.declared.part.Part.{Part}
use Rattle.qp_dispatch.specs.declared.part.Under.{Under}
use Rattle.qp_dispatch.specs.declared.runs.Home.{Home}
use Rattle.qp_dispatch.specs.declared.runs.Left.{Left}
use Rattle.qp_dispatch.specs.declared.runs.Ran.{Ran}
use Rattle.qp_dispatch.specs.declared.runs.Ran.TheVariants as ran
use Rattle.qp_dispatch.specs.declared.work.Work.{Work}
use Rattle.qp_dispatch.specs.Lasts.{config_of, actor_of, moment_of_work}
use Rattle.qp_dispatch.specs.Acting.{ActionKeeps}
use Rattle.qp_dispatch.specs.Parts.{Parts, IsPublishing, StandWith, held_by, left_by}
use Rattle.qp_dispatch.specs.SoundFor.{MayTask}

-- where an object runs: its system, its chart, the chart compiled, and its priority
pub record ObjectSetting : Type 0 where
  pub sys : System
  pub chart : Chart
  pub compiled : Compiled
  pub me : ℕ

abbrev pub object_setting : Home → ObjectSetting
object_setting home = record { sys = home.sys.now; chart = home.chart.now; compiled = home.compiled.now; me = home.me }

-- the tasks that are left
abbrev pub tasks_in : ObjectSetting → Left → List Task
tasks_in home left = tasks_left_in home.chart home.compiled left.agenda

-- the entry that a step works on
abbrev pub hand_of : Option HeldEntry → List HeldEntry
hand_of None = []
hand_of (Some e) = e ∷ []

-- What a run may rest on: its lane works for the object and serves it, and what is left names what the system has.
pub record MayRun (home : ObjectSetting) (hand : Option HeldEntry) (k : Lasting) (u : Option Under) (ts : List Task) (ceiling : ℕ) (v : LaneView) : Type 0 where
  pub of : v.sys ≡ home.sys
  pub mine : v.by ≡ home.me
  pub some : 0 < home.me
  pub serves : v.serves home.me ≡ true
  pub may : AllByRecursion (MayTask home.sys home.me hand) ts
  pub publishing : IsPublishing u v
  pub stand : StandAll (held_by k u ++ hand_of hand) v
  pub lane : ceiling ≡ ceiling_in 0 v.told

-- how much is left at most
abbrev pub weight_under : Option Under → ℕ
weight_under None = 0
weight_under (Some u) = suc (length (members u.publication.left))

abbrev pub weight : Option Under → List Task → ℕ
weight u ts = 34 * length ts + weight_under u

-- one part: which tasks it did, and that less is left
pub record PartDoes (home : ObjectSetting) (work : Work) (ceiling later : ℕ) (k : Lasting) (u : Option Under) (ts : List Task)
    (m : Lasting) (y : Option Under) (rest : List Task) (v w : LaneView) (part : Part) : Type 0 where
  pub pre : List Task
  pub split : ts ≡ pre ++ rest
  pub does : Parts home.me (moment_of_work work) pre ceiling later k u m y v w part
  pub less : weight y rest < weight u ts

-- nothing is left
pub record NothingLeft (ceiling later : ℕ) (k : Lasting) (u : Option Under) (ts : List Task) (m : Lasting) (y : Option Under) (v w : LaneView) : Type 0 where
  pub tasks : ts ≡ []
  pub none : u ≡ None
  pub after : y ≡ None
  pub lasting : m ≡ k
  pub still : later ≡ ceiling
  pub lane : w ≡ v

abbrev pub PartOf : ObjectSetting → Work → ℕ → ℕ → Lasting → Left → Lasting → Left → LaneView → LaneView → Option Part → Type 0
PartOf home work ceiling later k left m after v w None = NothingLeft ceiling later k left.under (tasks_in home left) m after.under v w
PartOf home work ceiling later k left m after v w (Some part) =
    PartDoes home work ceiling later k left.under (tasks_in home left) m after.under (tasks_in home after) v w part

-- These pieces came, from what was left to what is. Where the run stops at the first point, none is among them.
pub record Runs (stops : Bool) (home : ObjectSetting) (at : Moment) (ends : List Piece) (ceiling later : ℕ) (k : Lasting) (u : Option Under) (ts : List Task)
    (m : Lasting) (y : Option Under) (rest : List Task) (v w : LaneView) : Type 0 where
  pub ps : List Piece
  pub grows : Grows (records_in ps) v w
  pub plain : stops ≡ true → ps ≡ tell (records_in ps)
  pub reaches : (leaf : ℕ) → AgendaReaches v.sys (actor_of home.me home.chart k) at (left_by u ts leaf) (config_of k) (ps ++ ends) (left_by y rest leaf) (config_of m)
  pub done : List Task
  pub split : ts ≡ done ++ rest
  pub lane : ceiling ≡ ceiling_in 0 v.told → later ≡ ceiling_in 0 w.told
  pub spills : spills_told v.told ≡ false → spills_told w.told ≡ false
  pub keeps : ActionKeeps k m
  pub hands : ChangeAlike (map entry_of (held_by k u)) (map entry_of (held_by m y)) v w
  pub stand : StandWith k u m y v w
  pub publishing : IsPublishing y w

-- an assertion ended the agenda
pub record RunAsserts (stops : Bool) (home : ObjectSetting) (at : Moment) (code : ℕ) (k : Lasting) (u : Option Under) (ts : List Task)
    (m : Lasting) (y : Option Under) (v w : LaneView) : Type 0 where
  pub ps : List Piece
  pub grows : Grows (records_in ps) v w
  pub plain : stops ≡ true → ps ≡ tell (records_in ps)
  pub does : (leaf : ℕ) → DoesLeft v.sys (actor_of home.me home.chart k) at (left_by u ts leaf).publishing (left_by u ts leaf).posts
      (left_by u ts leaf).tasks (config_of k) ps None
  pub some : 0 < code
  pub last : last_code w.told ≡ code
  pub stand : StandWith k u m y v w

-- the pieces begin something that does the agenda
pub record RunCut (stops : Bool) (home : ObjectSetting) (at : Moment) (k : Lasting) (u : Option Under) (ts : List Task)
    (m : Lasting) (y : Option Under) (v w : LaneView) : Type 0 where
  pub ps : List Piece
  pub grows : Grows (records_in ps) v w
  pub plain : stops ≡ true → ps ≡ tell (records_in ps)
  pub begins : (leaf : ℕ) → (more : List Piece) × (end : Option Config)
      × DoesLeft v.sys (actor_of home.me home.chart k) at (left_by u ts leaf).publishing (left_by u ts leaf).posts
      (left_by u ts leaf).tasks (config_of k) (ps ++ more) end × (end ≡ None → records_in more ≡ [] → ⊥)
  pub spills : spills_told v.told ≡ false → spills_told w.told ≡ false
  pub stand : StandWith k u m y v w

abbrev pub RunsTo : Bool → ObjectSetting → Moment → ℕ → ℕ → Lasting → Left → Lasting → Left → LaneView → LaneView → Ran → Type 0
RunsTo stops home at ceiling later k left m after v w ran.Point =
    (stops ≡ true) × Runs stops home at (Point ∷ []) ceiling later k left.under (tasks_in home left) m after.under (tasks_in home after) v w
RunsTo stops home at ceiling later k left m after v w ran.Over =
    Runs stops home at [] ceiling later k left.under (tasks_in home left) m None [] v w
RunsTo stops home at ceiling later k left m after v w (ran.Asserted code) = RunAsserts stops home at code k left.under (tasks_in home left) m after.under v w
RunsTo stops home at ceiling later k left m after v w (ran.Cut fault) =
    RunCut stops home at k left.under (tasks_in home left) m after.under v w × IsFault w fault

-- the agenda can be done to its end
pub record CanEnd (home : ObjectSetting) (at : Moment) (k : Lasting) (ts : List Task) : Type 0 where
  pub able : list_all (task_able home.sys (is_some at.entry)) ts ≡ true
  pub few : length (kept_in k.list) ≤ k.list.entries.capacity
