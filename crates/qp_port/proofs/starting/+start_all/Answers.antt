use Rattle.std.proofs.Common.{inl, inr}
use Rattle.qp_port.proofs.Rows.{ready-map, same-rows}
use Rattle.qp_port.proofs.starting.+start_all.Goals as goal

pub returns-then-not-start-clause-same : goal.returns-then-not-start-clause-same
returns-then-not-start-clause-same g t c =
    let laws = g.met.T.PhaseLane in
    let parts = c.in-Some.ensures.cases in
    rw parts.0 (c.start.ensures.same, same-rows g.T.PhaseLane.same laws.same_itself c.in-Some.rest.now)

pub returns-then-not-start-clause-alone : goal.returns-then-not-start-clause-alone
returns-then-not-start-clause-alone g t c =
    let laws = g.met.T.Starts in
    let parts = c.in-Some.ensures.cases in
    let all = rw parts.0 at c.requires in
    (c.start.ensures.alone, ready-map g.T.Starts.fresh g.T.Starts.alone laws.fresh_alone c.in-Some.rest.now all.1)

pub returns-then-not-start-clause-order : goal.returns-then-not-start-clause-order
returns-then-not-start-clause-order g t c =
    let parts = c.in-Some.ensures.cases in
    let all = rw parts.0 at c.requires in
    inr all.1

pub returns-clause-order : goal.returns-clause-order
returns-clause-order g t c = inl (c.start.ensures.started c.if-not-start.false, c.start_all.ensures.order)
