-- What is known beside a record, as the definition of records that are told sees it.
use Rattle.qp_model.specs.Told as told
use Rattle.qp_check_calls.specs.declared.told.Known.{Known}
use Rattle.qp_check_calls.specs.declared.told.Known.TheVariants as known

abbrev pub as_known : Known → told.Known
as_known known.Nothing = told.Nothing
as_known (known.OfEvent sig pars) = told.OfEvent (record { sig = sig; pars = pars })
as_known (known.Free n) = told.Free n
as_known (known.Left n) = told.Left n
as_known (known.Former ceiling) = told.Former ceiling
as_known (known.Member is) = told.Member is
