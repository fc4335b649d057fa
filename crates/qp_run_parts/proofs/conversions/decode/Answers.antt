use Rattle.std.proofs.Common.{refl}
use Rattle.qp_run_parts.proofs.ConversionLemmas.{told-written}
use Rattle.qp_run_parts.proofs.conversions.decode.Goals as goal

pub returns-in-Ok-clause-told : goal.returns-in-Ok-clause-told
returns-in-Ok-clause-told g c = told-written _ c.args.name.now _ _ _ _ c.write.result _ _ _ _ _ c.in-Ok.ensures.journal refl c.write.ensures
