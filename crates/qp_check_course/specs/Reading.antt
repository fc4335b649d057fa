-- A course read record by record.
use Rattle.std.specs.Prelude.{◌≡◌, List, ◌∷◌, Some, None}
use Rattle.std.specs.declared.option.Option.{Option}
use Rattle.qp_chart.specs.declared.checked.Chart.{Chart}
use Rattle.qp_model.specs.declared.systems.System.{System}
use Rattle.qp_model.specs.declared.systems.ObjectDef.{ObjectDef}
use Rattle.qp_model.specs.Told.{Told}
use Rattle.qp_model.specs.Course.{first_config}
use Rattle.qp_check_course.specs.AsState.{as_actor, as_state}
use Rattle.qp_check_course.specs.Followable.{IsFollowable}
use Rattle.qp_check_course.specs.Machine.{start_state}
use Rattle.qp_check_course.specs.Passing.{run_told}
use Rattle.qp_check_course.specs.Runs.{CanRun, IsAble, IsActorOf}
use Rattle.qp_check_course.specs.Standing.{FollowSomehow}
use Rattle.qp_check_course.specs.declared.reading.CourseReading.{CourseReading}

-- of all these records of the object, those that are left come next
pub record LeavesOf (sys : System) (d : ObjectDef) (r : CourseReading) (left all : List Told) : Type 0 where
  pub chart : Chart
  pub is : IsActorOf sys d r.who.sys.now chart (as_actor r.who)
  pub led : run_told r.who.sys.now (as_actor r.who) (as_state r.state) left ≡ run_told r.who.sys.now (as_actor r.who) (start_state (as_actor r.who) (first_config d)) all

-- one record more can be read
abbrev pub CanRead : CourseReading → Type 0
CanRead r = IsAble r.who.sys.now (as_actor r.who) × CanRun r.who.sys.now (as_actor r.who) (as_state r.state)

abbrev pub CourseHasBegun : System → ObjectDef → Option CourseReading → Type 0
CourseHasBegun sys d None = ⊥
CourseHasBegun sys d (Some r) = CanRead r × ((all : List Told) → LeavesOf sys d r all all)

-- a record was read; it can be, where the records follow the object's chart
abbrev pub ReadsOn : CourseReading → Told → Option CourseReading → Type 0
ReadsOn r t None =
    (sys : System) (d : ObjectDef) (left all : List Told) → LeavesOf sys d r (t ∷ left) all → IsFollowable sys d → FollowSomehow sys d all → ⊥
ReadsOn r t (Some later) =
    CanRead later × ((sys : System) (d : ObjectDef) (left all : List Told) → LeavesOf sys d r (t ∷ left) all → LeavesOf sys d later left all)
