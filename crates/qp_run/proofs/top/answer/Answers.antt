use Rattle.std.proofs.Common.{refl, sym}
use Rattle.qp_commands.proofs.LimitLemmas.{asked-limits}
use Rattle.qp_run_parts.proofs.VerdictLemmas.{told-unnamed}
use Rattle.qp_run_parts.proofs.SealLemmas.{unended-seals}
use Rattle.qp_run.proofs.top.answer.Goals as goal

pub returns-in-Ok-None-clause-told : goal.returns-in-Ok-None-clause-told
returns-in-Ok-None-clause-told g c = rw (sym c.in-Ok-None.ensures, c.in-Ok-None.field-0-is) (told-unnamed _)

pub returns-in-Ok-None-clause-seal : goal.returns-in-Ok-None-clause-seal
returns-in-Ok-None-clause-seal g c = unended-seals _ _ _ _ refl

pub returns-in-Err-clause-seal : goal.returns-in-Err-clause-seal
returns-in-Err-clause-seal g c = unended-seals _ _ _ _ refl

pub carry_out-status-requires-clause-limits : goal.carry_out-status-requires-clause-limits
carry_out-status-requires-clause-limits g c κs within = asked-limits _ _ (rw c.in-Ok-Some.field-0-is at c.in-Ok-Some.ensures)

pub returns-in-Ok-Some-clause-out : goal.returns-in-Ok-Some-clause-out
returns-in-Ok-Some-clause-out g c = rw (sym c.in-Ok-Some.ensures, c.in-Ok-Some.field-0-is) c.carry_out-status.ensures.out

pub returns-in-Ok-Some-clause-seal : goal.returns-in-Ok-Some-clause-seal
returns-in-Ok-Some-clause-seal g c = rw (sym c.in-Ok-Some.ensures, c.in-Ok-Some.field-0-is) c.carry_out-status.ensures.seal
