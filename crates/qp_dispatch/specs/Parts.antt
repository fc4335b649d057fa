-- What one part of an agenda does: a task, or a part of a publication under way.
use Rattle.std.specs.Prelude.{◌≡◌, ℕ, ◌<◌, ◌≤◌, ◌⊎◌, false, List, [], ◌∷◌, ◌++◌, map, length, Some, None, ⊤}
use Rattle.std.specs.declared.option.Option.{Option}
use Rattle.qp_chart.specs.declared.checked.Chart.{Chart}
use Rattle.qp_chart.specs.Task.{Task}
use Rattle.qp_model.specs.declared.record.Rec.{Rec}
use Rattle.qp_model.specs.declared.bodies.Body.{Body}
use Rattle.qp_model.specs.Record.{item_of}
use Rattle.qp_model.specs.StepNotes.{note_of}
use Rattle.qp_model.specs.Told.{Told}
use Rattle.qp_model.specs.Parts.{members}
use Rattle.qp_model.specs.Pieces.{Piece, Point, tell}
use Rattle.qp_model.specs.Acts.{Config, Moment}
use Rattle.qp_model.specs.Step.{Publishing, Remainder, DoesLeft, tasks_left, publishing_left}
use Rattle.qp_model.specs.Standing.{AgendaReaches}
use Rattle.qp_calls.specs.declared.tokens.HeldEntry.{HeldEntry}
use Rattle.qp_calls.specs.LaneView.{LaneView, Grows, ceiling_in}
use Rattle.qp_calls.specs.Notes.{last_code, spills_told}
use Rattle.qp_calls.specs.Clauses.{IsFault, entry_of}
use Rattle.qp_calls.specs.Deferring.{ChangeAlike, StandAll}
use Rattle.qp_calls.specs.Publishing.{MembersAreObjects}
use Rattle.qp_dispatch.specs.declared.lasting.Lasting.{Lasting}
use Rattle.qp_dispatch.specs.declared.part.Part.{Part}
use Rattle.qp_dispatch.specs.declared.part.Part.TheVariants as part
use Rattle.qp_dispatch.specs.declared.part.Under.{Under}
use Rattle.qp_dispatch.specs.Lasts.{config_of, actor_of}
use Rattle.qp_dispatch.specs.Acting.{ActionKeeps}

-- a publication under way, as the definition has it
abbrev pub publishing_of : Under → Publishing
publishing_of u =
    record { entry = entry_of u.publication.entry; former = u.publication.former; members = members u.publication.all }

-- the tasks that are left, behind the publication if one is under way
abbrev pub left_by : Option Under → List Task → ℕ → Remainder
left_by None ts leaf = tasks_left ts leaf
left_by (Some u) ts leaf = publishing_left (publishing_of u) (members u.publication.left) ts leaf

abbrev pub entries_under : Option Under → List HeldEntry
entries_under None = []
entries_under (Some u) = u.publication.entry ∷ []

-- the entries that the object keeps beside that of its step
abbrev pub held_by : Lasting → Option Under → List HeldEntry
held_by k u = k.list.entries.items ++ entries_under u

-- a publication under way names objects alone, and restores the ceiling that it found
abbrev pub IsPublishing : Option Under → LaneView → Type 0
IsPublishing None v = ⊤
IsPublishing (Some u) v = MembersAreObjects v.sys u.publication.left × (u.ceiling ≡ u.publication.former)

-- what stood beside the object's entries still does
abbrev pub StandWith : Lasting → Option Under → Lasting → Option Under → LaneView → LaneView → Type 0
StandWith k u m y v w = (others : List HeldEntry) → StandAll (held_by k u ++ others) v → StandAll (held_by m y ++ others) w

-- These tasks were done, or a part of a publication. `ceiling` was that of the lane, and `later` is.
pub record PartGoes (me : ℕ) (at : Moment) (pre : List Task) (points : List Piece) (ceiling later : ℕ)
    (k : Lasting) (u : Option Under) (m : Lasting) (y : Option Under) (v w : LaneView) : Type 0 where
  pub g : List Told
  pub grows : Grows g v w
  pub reaches : (chart : Chart) (ts : List Task) (leaf : ℕ)
      → AgendaReaches v.sys (actor_of me chart k) at (left_by u (pre ++ ts) leaf) (config_of k) (tell g ++ points) (left_by y ts leaf) (config_of m)
  pub lane : ceiling ≡ ceiling_in 0 v.told → later ≡ ceiling_in 0 w.told
  pub spills : spills_told v.told ≡ false → spills_told w.told ≡ false
  pub keeps : ActionKeeps k m
  pub hands : ChangeAlike (map entry_of (held_by k u)) (map entry_of (held_by m y)) v w
  pub stand : StandWith k u m y v w
  pub publishing : IsPublishing y w

-- the part ended in an assertion with this code
pub record Asserts (me : ℕ) (at : Moment) (pre : List Task) (code : ℕ)
    (k : Lasting) (u : Option Under) (m : Lasting) (y : Option Under) (v w : LaneView) : Type 0 where
  pub g : List Told
  pub grows : Grows g v w
  pub does : (chart : Chart) (ts : List Task) (leaf : ℕ) → DoesLeft v.sys (actor_of me chart k) at (left_by u (pre ++ ts) leaf).publishing
      (left_by u (pre ++ ts) leaf).posts (left_by u (pre ++ ts) leaf).tasks (config_of k) (tell g) None
  pub some : 0 < code
  pub last : last_code w.told ≡ code
  pub stand : StandWith k u m y v w

-- with more records the part would be done
pub record GoesFurther (me : ℕ) (at : Moment) (pre : List Task) (k : Lasting) (u : Option Under) (g : List Told) (v : LaneView) : Type 0 where
  pub rest : List Told
  pub after : Config
  pub few : length after.kept ≤ k.list.entries.capacity
  pub reaches : (chart : Chart) (ts : List Task) (leaf : ℕ)
      → AgendaReaches v.sys (actor_of me chart k) at (left_by u (pre ++ ts) leaf) (config_of k) (tell (g ++ rest) ++ Point ∷ []) (tasks_left ts leaf) after

-- `room` refused: nothing was done, or a front of the part
pub record CutShort (me : ℕ) (at : Moment) (pre : List Task)
    (k : Lasting) (u : Option Under) (m : Lasting) (y : Option Under) (v w : LaneView) : Type 0 where
  pub g : List Told
  pub grows : Grows g v w
  pub front : (g ≡ []) ⊎ GoesFurther me at pre k u g v
  pub spills : spills_told v.told ≡ false → spills_told w.told ≡ false
  pub stand : StandWith k u m y v w

abbrev pub Parts : ℕ → Moment → List Task → ℕ → ℕ → Lasting → Option Under → Lasting → Option Under → LaneView → LaneView → Part → Type 0
Parts me at pre ceiling later k u m y v w part.On = PartGoes me at pre [] ceiling later k u m y v w
Parts me at pre ceiling later k u m y v w part.Point = PartGoes me at pre (Point ∷ []) ceiling later k u m y v w
Parts me at pre ceiling later k u m y v w (part.Asserted code) = Asserts me at pre code k u m y v w
Parts me at pre ceiling later k u m y v w (part.Cut fault) = CutShort me at pre k u m y v w × IsFault w fault

-- the note of a task was added, whatever the task that it is the note of
abbrev pub NotesTask : ℕ → Rec → LaneView → LaneView → Part → Type 0
NotesTask me r v w result = (at : Moment) (t : Task) (b : Body) (ceiling : ℕ) (k : Lasting)
    → note_of t ≡ Some b → item_of r ≡ record { of = me; body = b } → Parts me at (t ∷ []) ceiling ceiling k None k None v w result

-- a publication that goes on has fewer members left
abbrev pub FewerLeft : Under → Option Under → Type 0
FewerLeft from None = ⊤
FewerLeft from (Some u) = length (members u.publication.left) < length (members from.publication.left)
