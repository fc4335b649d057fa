use Rattle.std.proofs.Common.{sym}
use Rattle.std.specs.Option.{is_some}
use Rattle.qp_model.proofs.TellingKindLemmas.{says-other}
use Rattle.qp_model.specs.Record.{body_of}
use Rattle.qp_summary.specs.Counting.{giver}
use Rattle.qp_summary.proofs.CountLemmas.{giver-alone, none-of}
use Rattle.qp_summary.proofs.blocks.giver.Goals as goal

pub returns-then-r-ne-NEW : goal.returns-then-r-ne-NEW
returns-then-r-ne-NEW c = sym (none-of (giver (body_of c.args.r.now)) (says-other (λ b. is_some (giver b)) 15 giver-alone c.args.r.now c.if-r-ne-NEW.true))
