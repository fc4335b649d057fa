use Rattle.qp_calls.proofs.entries.unposted.Goals as goal

pub returns-in-None-clause-adds : goal.returns-in-None-clause-adds
returns-in-None-clause-adds g c = rw c.in-None.is c.leave.ensures

pub returns-in-Some-clause-adds : goal.returns-in-Some-clause-adds
returns-in-Some-clause-adds g c = rw c.in-Some.is c.drop_entry.ensures.released
