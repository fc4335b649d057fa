use Rattle.std.proofs.Common.{sym}
use Rattle.std.specs.Option.{is_some}
use Rattle.qp_model.proofs.TellingKindLemmas.{says-other}
use Rattle.qp_model.specs.Record.{body_of}
use Rattle.qp_summary.specs.Counting.{taker}
use Rattle.qp_summary.proofs.CountLemmas.{taker-alone, none-of}
use Rattle.qp_summary.proofs.blocks.taker.Goals as goal

pub returns-then-r-ne-BACK : goal.returns-then-r-ne-BACK
returns-then-r-ne-BACK c = sym (none-of (taker (body_of c.args.r.now)) (says-other (λ b. is_some (taker b)) 19 taker-alone c.args.r.now c.if-r-ne-BACK.true))
