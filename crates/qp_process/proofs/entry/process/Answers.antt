use Rattle.qp_process.proofs.entry.process.Goals as goal

pub returns : goal.returns
returns g c = (_, c.program-ended.ensures)
