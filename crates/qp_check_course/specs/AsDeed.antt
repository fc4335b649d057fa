-- What an action does, as the definition sees it.
use Rattle.qp_model.specs.Calls as calls
use Rattle.qp_check_calls.specs.AsCall.{as_call}
use Rattle.qp_check_course.specs.declared.deeds.Deed.{Deed}
use Rattle.qp_check_course.specs.declared.deeds.Deed.TheVariants as own

abbrev pub as_deed : Deed → calls.Deed
as_deed (own.Sets var value) = calls.Sets var value
as_deed (own.Says value) = calls.Says value
as_deed (own.Calls x) = calls.Calls (as_call x)
