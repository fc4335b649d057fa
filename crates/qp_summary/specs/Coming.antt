-- How far an object has come by some of its records.
use Rattle.std.specs.Prelude.{◌≡◌, ◌+◌, List, [], ◌∷◌, Some, None}
use Rattle.std.specs.declared.option.Option.{Option}
use Rattle.qp_model.specs.declared.systems.System.{System}
use Rattle.qp_model.specs.declared.systems.ObjectDef.{ObjectDef}
use Rattle.qp_model.specs.Lawful.{dispatched}
use Rattle.qp_model.specs.OutputSummary.{count_events_taken}
use Rattle.qp_model.specs.Told.{Told}
use Rattle.qp_check_course.specs.Followable.{IsFollowable}
use Rattle.qp_check_course.specs.Reading.{CanRead, LeavesOf}
use Rattle.qp_check_course.specs.Standing.{FollowSomehow}
use Rattle.qp_summary.specs.declared.coming.Came.{Came}

-- of all these records of the object, those that are left come next
pub record IsOnCourse (sys : System) (d : ObjectDef) (x : Came) (left all : List Told) : Type 0 where
  pub can : CanRead x.course
  pub taken : x.taken + count_events_taken left ≡ count_events_taken all
  pub leaves : LeavesOf sys d x.course (dispatched left) (dispatched all)

-- one record more; it can come, where the records follow the object's chart
abbrev pub CourseComesTo : Came → Told → Option Came → Type 0
CourseComesTo x t None =
    (sys : System) (d : ObjectDef) (left all : List Told) → IsOnCourse sys d x (t ∷ left) all → IsFollowable sys d → FollowSomehow sys d (dispatched all) → ⊥
CourseComesTo x t (Some y) = (sys : System) (d : ObjectDef) (left all : List Told) → IsOnCourse sys d x (t ∷ left) all → IsOnCourse sys d y left all

-- all of them
abbrev pub HasCome : System → ObjectDef → List Told → Option Came → Type 0
HasCome sys d all None = FollowSomehow sys d (dispatched all) → ⊥
HasCome sys d all (Some x) = IsOnCourse sys d x [] all
