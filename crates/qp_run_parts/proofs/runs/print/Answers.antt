use Rattle.qp_commands.specs.WordTable.{number_of_form}
use Rattle.qp_run_parts.proofs.FormLemmas.{lanes-end, lanes-few}
use Rattle.qp_run_parts.proofs.PrintedLemmas.{whole-printed}
use Rattle.qp_run_parts.proofs.runs.print.Goals as goal

pub ending_of-told-requires-clause-few : goal.ending_of-told-requires-clause-few
ending_of-told-requires-clause-few g c = lanes-few (number_of_form c.args.form) c.args.journal.now c.requires.range

pub ending_of-told-requires-clause-last : goal.ending_of-told-requires-clause-last
ending_of-told-requires-clause-last g c = lanes-end c.args.system.now c.args.journal.now c.requires.lawful

pub returns-in-Whole : goal.returns-in-Whole
returns-in-Whole g c =
    rw c.in-Whole.is (whole-printed c.args.system.now c.args.journal.now c.ending_of-told.result c.ending_of-told.ensures _ _ _ _ c.in-Whole.kind (number_of_form c.args.form) c.write.result
    (rw c.number.ensures at c.write.ensures))

pub returns-in-Summary : goal.returns-in-Summary
returns-in-Summary g c = rw c.in-Summary.is (c.summarize.ensures (number_of_form c.args.form))
