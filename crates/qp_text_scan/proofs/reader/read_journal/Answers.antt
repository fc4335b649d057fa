use Rattle.std.proofs.lemmas.Result.{IfOk-weaker}
use Rattle.qp_text.proofs.TextLaw.{Reads-is}
use Rattle.qp_text.proofs.TextRead.{reads_texts}
use Rattle.qp_text_scan.proofs.reader.read_journal.Goals as goal

pub returns-clause-text : goal.returns-clause-text
returns-clause-text c = IfOk-weaker c.read.result _ _ (λ found is. is.text) (Reads-is c.read.result c.args.bytes.now c.read.ensures)

pub returns-clause-range : goal.returns-clause-range
returns-clause-range c = IfOk-weaker c.read.result _ _ (λ found is. is.range) (Reads-is c.read.result c.args.bytes.now c.read.ensures)

pub returns-clause-form : goal.returns-clause-form
returns-clause-form c = IfOk-weaker c.read.result _ _ (λ found is. is.form) (Reads-is c.read.result c.args.bytes.now c.read.ensures)

pub returns-clause-only : goal.returns-clause-only
returns-clause-only c = reads_texts c.read.result c.args.bytes.now c.read.ensures
