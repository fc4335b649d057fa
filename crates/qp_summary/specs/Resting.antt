-- An object of which the run tells where it rests.
use Rattle.std.specs.Prelude.{List, Some, None}
use Rattle.std.specs.declared.option.Option.{Option}
use Rattle.qp_chart.specs.declared.checked.Chart.{Chart}
use Rattle.qp_model.specs.declared.systems.System.{System}
use Rattle.qp_model.specs.declared.systems.ObjectDef.{ObjectDef}
use Rattle.qp_model.specs.Acts.{Config}
use Rattle.qp_model.specs.OutputSummary.{CourseLeaves}
use Rattle.qp_model.specs.Told.{Told}
use Rattle.qp_kernel_end.specs.declared.rest.Rest.{Rest}
use Rattle.qp_kernel_end.specs.Rests.{IsRestIn}

-- where the rest is known, the course of these records leaves it
unfoldable pub LeavesRest : System → ObjectDef → Chart → List Told → Option Rest → Type 0
unfolding CourseLeaves
LeavesRest sys d chart ts None = Unit {0}
LeavesRest sys d chart ts (Some x) = (c : Config) × CourseLeaves sys d chart ts c × IsRestIn c x
