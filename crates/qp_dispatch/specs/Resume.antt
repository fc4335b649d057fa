-- What going on with a step does: the records that come, and what is left.
use Rattle.std.specs.Prelude.{◌≡◌, ℕ, ◌<◌, ◌≤◌, ◌⊎◌, true, false, List, [], ◌∷◌, ◌++◌, map, length, Some, None, Ok, Err}
use Rattle.std.specs.declared.option.Option.{Option}
use Rattle.std.specs.declared.result.Result.{Result}
use Rattle.std.specs.List.{AllByRecursion, list_all}
use Rattle.qp_chart.specs.Expr.{Names}
use Rattle.qp_chart.specs.declared.checked.Chart.{Chart}
use Rattle.qp_chart.specs.Agenda.{start_plan, step_plan}
use Rattle.qp_chart.specs.Task.{Task}
use Rattle.qp_model.specs.declared.systems.System.{System}
use Rattle.qp_model.specs.declared.bodies.Entry as model
use Rattle.qp_model.specs.declared.bodies.Body.TheVariants as item
use Rattle.qp_model.specs.Record.{entry}
use Rattle.qp_model.specs.Told.{Told, Event, plain}
use Rattle.qp_model.specs.Pieces.{Piece, Point, records_in, tell}
use Rattle.qp_model.specs.Acts.{Config, Actor}
use Rattle.qp_model.specs.Step.{Remainder, StepGoesOn, moment, whole_step}
use Rattle.qp_model.specs.Course.{at_start}
use Rattle.qp_model.specs.Standing.{StepAdvances, AgendaReaches}
use Rattle.qp_model.specs.Able.{chart_able, task_able}
use Rattle.qp_model.specs.Stops as stop
use Rattle.qp_calls.specs.declared.tokens.HeldEntry.{HeldEntry}
use Rattle.qp_calls.specs.declared.tokens.HeldEntry.TheVariants as token
use Rattle.qp_calls.specs.LaneView.{LaneView, Grows, GrowsOf, ceiling_in}
use Rattle.qp_calls.specs.Notes.{last_code, spills_told}
use Rattle.qp_calls.specs.Halting.{HaltsDry, HaltsFull}
use Rattle.qp_calls.specs.Clauses.{Stops, entry_of, event_of}
use Rattle.qp_calls.specs.declared.answers.RoomFault.{RoomFault}
use Rattle.qp_calls.specs.Entries.{Released}
use Rattle.qp_calls.specs.Groups.{Refused}
use Rattle.qp_calls.specs.Deferring.{ChangeAlike, StandAll, kept_in}
use Rattle.qp_dispatch.specs.declared.lasting.Lasting.{Lasting}
use Rattle.qp_dispatch.specs.declared.steps.Going.{Going}
use Rattle.qp_dispatch.specs.declared.steps.Position.{Position}
use Rattle.qp_dispatch.specs.declared.steps.Position.TheVariants as stage
use Rattle.qp_dispatch.specs.declared.steps.Step.{Step}
use Rattle.qp_dispatch.specs.declared.steps.Step.TheVariants as step
use Rattle.qp_dispatch.specs.Lasts.{config_of, actor_of}
use Rattle.qp_dispatch.specs.Parts.{IsPublishing, held_by, left_by}
use Rattle.qp_dispatch.specs.SoundFor.{IsObjectWithTimers, MayTask}
use Rattle.qp_dispatch.specs.Runs.{ObjectSetting, hand_of, tasks_in}

-- the event of an entry, as the lane gives it; a static event has its signal alone
abbrev pub event_in_hand : HeldEntry → LaneView → Event
event_in_hand (token.Static sig) v = record { sig = sig; pars = [] }
event_in_hand (token.Pool h) v = v.event (entry h.pool h.block h.name)

-- the object and its chart: what its agendas name the system has, and each of them can be done to its end
pub record CanTakeSteps (sys : System) (me : ℕ) (chart : Chart) : Type 0 where
  pub home : IsObjectWithTimers sys me chart
  pub able : chart_able sys chart ≡ true
  pub start : AllByRecursion (MayTask sys me None) (start_plan chart).tasks
  pub steps : (hand : HeldEntry) (leaf : ℕ) (names : Names) (sig : ℕ) → AllByRecursion (MayTask sys me (Some hand)) (step_plan chart leaf names sig).tasks

-- the lane works for the object and serves it, has this ceiling, and no `spill`
pub record IsLaneOf (home : ObjectSetting) (ceiling : ℕ) (v : LaneView) : Type 0 where
  pub of : v.sys ≡ home.sys
  pub mine : v.by ≡ home.me
  pub serves : v.serves home.me ≡ true
  pub told : ceiling ≡ ceiling_in 0 v.told
  pub spills : spills_told v.told ≡ false

-- what is left of a step may be done
pub record IsGoing (home : ObjectSetting) (k : Lasting) (g : Going) (v : LaneView) : Type 0 where
  pub hand : HeldEntry
  pub is : g.work.entry ≡ Some hand
  pub may : AllByRecursion (MayTask home.sys home.me (Some hand)) (tasks_in home g.left)
  pub able : list_all (task_able home.sys true) (tasks_in home g.left) ≡ true
  pub publishing : IsPublishing g.left.under v
  pub stand : StandAll (held_by k g.left.under ++ hand ∷ []) v
  pub few : length (kept_in k.list) ≤ k.list.entries.capacity

-- a step was taken up: its entry may be handed in
pub record IsTaken (k : Lasting) (e : HeldEntry) (v : LaneView) : Type 0 where
  pub stand : StandAll (k.list.entries.items ++ e ∷ []) v
  pub few : length (kept_in k.list) ≤ k.list.entries.capacity

abbrev pub IsUnderWay : ObjectSetting → Lasting → Position → LaneView → Type 0
IsUnderWay home k stage.Between v = ⊥
IsUnderWay home k (stage.Taken e) v = IsTaken k e v
IsUnderWay home k (stage.Within g) v = IsGoing home k g v

-- the event and the entry of the step, and what is left of it
abbrev pub step_event : Position → LaneView → Event
step_event stage.Between v = at_start.event
step_event (stage.Taken e) v = event_in_hand e v
step_event (stage.Within g) v = event_of g.work.ev

abbrev pub entry_here : Option HeldEntry → model.Entry
entry_here None = entry 0 0 0
entry_here (Some e) = entry_of e

abbrev pub step_entry : Position → model.Entry
step_entry stage.Between = entry 0 0 0
step_entry (stage.Taken e) = entry_of e
step_entry (stage.Within g) = entry_here g.work.entry

abbrev pub remainder_of : ObjectSetting → Lasting → Position → LaneView → Remainder
remainder_of home k stage.Between v = left_by None [] k.leaf
remainder_of home k (stage.Taken e) v = whole_step (actor_of home.me home.chart k) (config_of k) (event_in_hand e v)
remainder_of home k (stage.Within g) v = left_by g.left.under (tasks_in home g.left) g.leaf

-- the entries that the object keeps: the deferred ones, those of a publication under way, and the step's own
abbrev pub step_entries : Position → List HeldEntry
step_entries stage.Between = []
step_entries (stage.Taken e) = e ∷ []
step_entries (stage.Within g) = hand_of g.work.entry

abbrev pub held_in : Lasting → Position → List HeldEntry
held_in k stage.Between = k.list.entries.items ++ []
held_in k (stage.Taken e) = k.list.entries.items ++ e ∷ []
held_in k (stage.Within g) = held_by k g.left.under ++ hand_of g.work.entry

-- records that begin something with which the step goes on; they aren't the whole of a step that asserts
abbrev pub BeginsOn : System → Actor → Event → model.Entry → Remainder → Config → List Told → Type 0
BeginsOn sys a ev e left c g = (more : List Piece) × (end : Option Config) × StepGoesOn sys a ev e left c (tell g ++ more) end × (end ≡ None → records_in more ≡ [] → ⊥)

-- the step went up to its next scheduling point
pub record ToPoint (home : ObjectSetting) (ceiling later : ℕ) (k : Lasting) (s : Position) (m : Lasting) (z : Position) (v w : LaneView) : Type 0 where
  pub g : List Told
  pub grows : Grows g v w
  pub advances : StepAdvances v.sys (actor_of home.me home.chart k) (step_event s v) (step_entry s) (remainder_of home k s v) (config_of k)
      (tell g ++ Point ∷ []) (remainder_of home m z w) (config_of m)
  -- of the step's agenda this was done, and the rest is left
  pub going : Going
  pub stands : z ≡ stage.Within going
  pub done : List Task
  pub split : (remainder_of home k s v).tasks ≡ done ++ (remainder_of home m z w).tasks
  pub reaches : AgendaReaches v.sys (actor_of home.me home.chart k) (moment (step_event s v) (step_entry s)) (remainder_of home k s v) (config_of k)
      (tell g ++ Point ∷ []) (remainder_of home m z w) (config_of m)
  pub same_event : step_event z w ≡ step_event s v
  pub same_entry : step_entry z ≡ step_entry s
  pub room : m.list.entries.capacity ≡ k.list.entries.capacity
  pub lane : IsLaneOf home later w
  pub under_way : IsUnderWay home m z w
  pub hands : ChangeAlike (map entry_of (held_in k s)) (map entry_of (held_in m z)) v w

-- the step went to its end, with the release
pub record ToEnd (home : ObjectSetting) (ceiling later : ℕ) (k : Lasting) (s : Position) (m : Lasting) (v w : LaneView) : Type 0 where
  pub g : List Told
  pub grows : Grows g v w
  pub goes : StepGoesOn v.sys (actor_of home.me home.chart k) (step_event s v) (step_entry s) (remainder_of home k s v) (config_of k) (tell g) (Some (config_of m))
  pub room : m.list.entries.capacity ≡ k.list.entries.capacity
  pub lane : IsLaneOf home later w
  pub few : length (kept_in m.list) ≤ m.list.entries.capacity
  pub hands : ChangeAlike (map entry_of (held_in k s)) (map entry_of m.list.entries.items) v w
  pub stand : StandAll m.list.entries.items w

-- an assertion ended the step, and the lane stopped with its code, which is that of the last record
pub record EndsAsserted (home : ObjectSetting) (k : Lasting) (s : Position) (m : Lasting) (z : Position) (v w : LaneView) : Type 0 where
  pub g : List Told
  pub mid : LaneView
  pub code : ℕ
  pub grows : Grows g v mid
  pub goes : StepGoesOn v.sys (actor_of home.me home.chart k) (step_event s v) (step_entry s) (remainder_of home k s v) (config_of k) (tell g) None
  pub some : 0 < code
  pub last : last_code mid.told ≡ code
  pub stops : Stops code mid w
  pub stand : StandAll (held_in m z) w

-- the lane had no room, spilled, and stopped
pub record EndsSpilled (home : ObjectSetting) (k : Lasting) (s : Position) (m : Lasting) (z : Position) (v w : LaneView) : Type 0 where
  pub g : List Told
  pub mid : LaneView
  pub full : LaneView
  pub grows : Grows g v mid
  pub begins : BeginsOn v.sys (actor_of home.me home.chart k) (step_event s v) (step_entry s) (remainder_of home k s v) (config_of k) g
  pub few : 999992 < length mid.told
  pub spills : GrowsOf 0 (plain (item.Spill (length mid.told)) ∷ []) mid full
  pub stops : Stops stop.spent_or_full full w
  pub stand : StandAll (held_in m z) w

-- memory was refused to a lane that isn't full, and it stopped
pub record EndsExhausted (home : ObjectSetting) (k : Lasting) (s : Position) (m : Lasting) (z : Position) (v w : LaneView) : Type 0 where
  pub g : List Told
  pub mid : LaneView
  pub grows : Grows g v mid
  pub begins : BeginsOn v.sys (actor_of home.me home.chart k) (step_event s v) (step_entry s) (remainder_of home k s v) (config_of k) g
  pub dry : HaltsDry mid w
  pub stand : StandAll (held_in m z) w

abbrev pub Resumes : ObjectSetting → ℕ → ℕ → Lasting → Position → Lasting → Position → LaneView → LaneView → Step → Type 0
Resumes home ceiling later k s m z v w step.Point = ToPoint home ceiling later k s m z v w
Resumes home ceiling later k s m z v w step.Done = (z ≡ stage.Between) × ToEnd home ceiling later k s m v w
Resumes home ceiling later k s m z v w step.Stopped = EndsAsserted home k s m z v w ⊎ EndsSpilled home k s m z v w
Resumes home ceiling later k s m z v w step.Memory = EndsExhausted home k s m z v w

-- a full lane told its `spill`, and one without memory did not; either has stopped
abbrev pub StepHalts : LaneView → LaneView → Step → Type 0
StepHalts v w step.Stopped = HaltsFull v w
StepHalts v w step.Memory = HaltsDry v w
StepHalts v w _ = ⊥

-- the entry of a step was released
abbrev pub ReleasesEntry : Option HeldEntry → LaneView → LaneView → Type 0
ReleasesEntry None v w = w ≡ v
ReleasesEntry (Some e) v w = Released (entry_of e) v w

abbrev pub StepReleases : Option HeldEntry → LaneView → LaneView → Result (Unit {0}) RoomFault → Type 0
StepReleases hand v w (Ok u) = ReleasesEntry hand v w
StepReleases hand v w (Err fault) = Refused fault v w
