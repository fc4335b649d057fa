-- What courses promise, in the words of the subject.
use Rattle.std.specs.Prelude.{◌≡◌, ◌↔◌, Bool, List, [], IsTrue, is_some, Some, ℕ, ◌∷◌, ◌++◌, IsFalse}
use Rattle.qp_chart.specs.Agenda.{step_plan, start_plan}
use Rattle.qp_chart.specs.declared.actions.Plain.{Plain}
use Rattle.qp_chart.specs.declared.checked.Chart.{Chart}
use Rattle.qp_chart.specs.Task.{Task, Do}
use Rattle.qp_model.specs.declared.systems.System.{System}
use Rattle.qp_model.specs.declared.systems.ObjectDef.{ObjectDef}
use Rattle.qp_model.specs.declared.bodies.Entry.{Entry}
use Rattle.qp_model.specs.declared.bodies.Body.TheVariants as item
use Rattle.qp_model.specs.Told.{Told, Event, plain}
use Rattle.qp_model.specs.Calls as call
use Rattle.qp_model.specs.Calls.{Deed, Calls, deed_of}
use Rattle.qp_model.specs.Parts.{timer_number}
use Rattle.qp_model.specs.Shapes.{ticks_fit}
use Rattle.qp_model.specs.Deferral.{kept_after}
use Rattle.qp_model.specs.Pieces.{Piece, records_in}
use Rattle.qp_model.specs.Acts.{Actor, Config, names_of, Moment, Does}
use Rattle.qp_model.specs.Step.{StepBehind, moment}
use Rattle.qp_model.specs.Course.{Cut, Whole, Follows, FollowsTo, actor, at_start, chart_at}
use Rattle.qp_model.specs.ObjectShape.{HasShape, asserts_last, asserts_none}
use Rattle.qp_model.specs.StepNotes.{notes_of, notes_in}

-- a step that runs to completion leaves just the notes of its agenda, in order
unfoldable pub StepsLeaveTheirNotes : Type 0
unfolding StepBehind records_in notes_in notes_of step_plan
StepsLeaveTheirNotes =
    (sys : System) (a : Actor) (ev : Event) (e : Entry) (c d : Config) (ps : List Piece) → StepBehind sys a ev e c ps (Some d)
    → notes_in (records_in ps) ≡ notes_of (step_plan a.chart c.leaf (names_of a c ev) ev.sig).tasks

-- no record of an object stands behind its assertion
unfoldable pub NothingFollowsAnAssertion : Type 0
unfolding FollowsTo asserts_last records_in
NothingFollowsAnAssertion = (sys : System) (d : ObjectDef) (cut : Cut) (ps : List Piece) → FollowsTo sys d cut ps → IsTrue (asserts_last (records_in ps))

-- a list is whole exactly where it is a course in which nothing was asserted
unfoldable pub WholeListsAssertNothing : Type 0
unfolding Follows FollowsTo records_in
WholeListsAssertNothing =
    (sys : System) (d : ObjectDef) (ps : List Piece) → FollowsTo sys d Whole ps ↔ (Follows sys d ps × IsTrue (asserts_none (records_in ps)))

-- what follows an object's chart has the shape of an object's records, with the same cut
unfoldable pub CoursesHaveTheirShape : Type 0
unfolding FollowsTo records_in
CoursesHaveTheirShape =
    (sys : System) (d : ObjectDef) (nils : Bool) (cut : Cut) (ps : List Piece) → FollowsTo sys d cut ps → HasShape sys d.priority nils cut (records_in ps)

-- what follows an object's chart defers, recalls and flushes as its deferred list allows
unfoldable pub CoursesKeepTheirList : Type 0
unfolding FollowsTo records_in kept_after
CoursesKeepTheirList = (sys : System) (d : ObjectDef) (cut : Cut) (ps : List Piece) → FollowsTo sys d cut ps → IsTrue (is_some (kept_after d.defer [] (records_in ps)))

-- `arm` or `rearm` of timer t of object o with these values, which no timer takes; `rearm` has no interval
pub data RefusesTicks (sys : System) (o t ticks interval : ℕ) (deed : Deed) : Type 0 where
  Arms : (timer : ℕ) → deed ≡ Calls (call.Arm timer ticks interval) → t ≡ timer_number sys.timers o timer → IsFalse (ticks_fit ticks interval)
      → RefusesTicks sys o t ticks interval deed
  Rearms : (timer : ℕ) → deed ≡ Calls (call.Rearm timer ticks) → t ≡ timer_number sys.timers o timer → interval ≡ 0 → IsFalse (ticks_fit ticks 0)
      → RefusesTicks sys o t ticks interval deed

-- the tasks of a start, or of a step over an event from a configuration
pub data IsAgenda (a : Actor) (at : Moment) (c : Config) (ts : List Task) : Type 0 where
  OfStart : at ≡ at_start → ts ≡ (start_plan a.chart).tasks → IsAgenda a at c ts
  OfStep : (ev : Event) (e : Entry) → at ≡ moment ev e → ts ≡ (step_plan a.chart c.leaf (names_of a c ev) ev.sig).tasks → IsAgenda a at c ts

-- An action of an agenda of the object, with the values that it has where the tasks before it have left the object, arms a timer or
-- arms it anew with these values, and no timer takes them.
pub record WereRefused (sys : System) (a : Actor) (t ticks interval : ℕ) : Type 0 where
  pub at : Moment
  pub first : Config
  pub done : List Task
  pub action : Plain
  pub left : List Task
  pub agenda : IsAgenda a at first (done ++ Do action ∷ left)
  pub reached : Config
  pub pieces : List Piece
  pub reaches : Does sys a at done first pieces (Some reached)
  pub refused : RefusesTicks sys a.o t ticks interval (deed_of (names_of a reached at.event) action)

-- assertion 4 shows the values that were refused
unfoldable pub AssertionShowsTicks : Type 0
unfolding FollowsTo records_in
AssertionShowsTicks =
    (sys : System) (d : ObjectDef) (cut : Cut) (ps : List Piece) → FollowsTo sys d cut ps
    → (earlier later : List Told) (t ticks interval : ℕ) → records_in ps ≡ earlier ++ plain (item.BadTicks t ticks interval) ∷ later
    → (chart : Chart) × (chart_at sys d.chart ≡ Some chart) × WereRefused sys (actor d chart) t ticks interval
