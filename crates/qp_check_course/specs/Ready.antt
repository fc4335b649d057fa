-- States from which an object's course can go on to an end.
use Rattle.std.specs.Prelude.{◌≡◌, ℕ, ◌≤◌, true, List, length, is_some, None}
use Rattle.std.specs.List.{list_all}
use Rattle.qp_chart.specs.Task.{Task}
use Rattle.qp_model.specs.declared.systems.System.{System}
use Rattle.qp_model.specs.declared.bodies.Entry.{Entry}
use Rattle.qp_model.specs.Told.{Told}
use Rattle.qp_model.specs.Calls.{Answer, Flushed}
use Rattle.qp_model.specs.Able.{task_able}
use Rattle.qp_model.specs.Acts.{Config, Actor}
use Rattle.qp_check_calls.specs.CallState.{CallState}
use Rattle.qp_check_calls.specs.CallStateNext.{stage_answer}
use Rattle.qp_check_calls.specs.Reads.{IsRestOfCall, IsOpen}
use Rattle.qp_check_course.specs.Goes.{Way, Stepping, moment_of}
use Rattle.qp_check_course.specs.Machine.{State, Between, Telling, Raising, AtPoint, InCall, AtPost, Releasing, Returning, Asserted}

-- the tasks have what they ask for
abbrev pub AreTasksAble : System → Way → List Task → Type 0
AreTasksAble sys way ts = list_all (task_able sys (is_some (moment_of way).entry)) ts ≡ true

-- the deferred list is within its capacity
abbrev pub IsWithin : Actor → Config → Type 0
IsWithin a c = length c.kept ≤ a.room

-- the rest of a call can go on, and leaves the deferred list within its capacity; it flushes no more entries than that
pub record CanGoOn (sys : System) (a : Actor) (way : Way) (rest : CallState) : Type 0 where
  pub some : IsOpen sys (moment_of way).entry rest
  pub within : (answer : Answer) (kept : List Entry) (g : List Told) → IsRestOfCall sys a.o (moment_of way).entry rest answer kept g → length kept ≤ a.room
  pub flushed : (n : ℕ) (kept : List Entry) (g : List Told) → IsRestOfCall sys a.o (moment_of way).entry rest (Flushed n) kept g → n ≤ a.room

-- the course can go on from this state
abbrev pub MayGoOnFrom : System → Actor → State → Type 0
MayGoOnFrom sys a (Between c) = IsWithin a c
MayGoOnFrom sys a (Telling way n ends ts leaf c) = AreTasksAble sys way ts × IsWithin a c
MayGoOnFrom sys a (Raising way ceiling ts leaf c) = AreTasksAble sys way ts × IsWithin a c
MayGoOnFrom sys a (AtPoint ev e ts leaf c) = AreTasksAble sys (Stepping ev e) ts × IsWithin a c
MayGoOnFrom sys a (InCall way inner rest ts leaf c) = (stage_answer rest.stage ≡ None) × CanGoOn sys a way rest × AreTasksAble sys way ts
MayGoOnFrom sys a (AtPost way rest ts leaf c) = CanGoOn sys a way rest × AreTasksAble sys way ts
MayGoOnFrom sys a (Releasing e c) = IsWithin a c
MayGoOnFrom sys a (Returning p b d c) = IsWithin a c
MayGoOnFrom sys a Asserted = Unit {0}
