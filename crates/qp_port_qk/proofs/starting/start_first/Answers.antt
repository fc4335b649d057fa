use Rattle.std.proofs.Common.{inl, inr}
use Rattle.qp_port_phases.proofs.Keeping.{same-each}
use Rattle.qp_port_qk.proofs.Rows.{ready-map, rows-none}
use Rattle.qp_port_qk.proofs.starting.start_first.Goals as goal

pub returns-clause-each : goal.returns-clause-each
returns-clause-each g c =
    let parts = c.in-Some.ensures.cases in
    let all = rw parts.0 at c.requires.begins in
    (inr c.start.ensures.ended, ready-map g.T.Worker.ready _ (λ w h. inl h) _ all.1)

pub returns-clause-same : goal.returns-clause-same
returns-clause-same g c =
    let laws = g.met.T.PhaseLane in
    let parts = c.in-Some.ensures.cases in
    rw parts.0 (c.start.ensures.same, same-each g.T.PhaseLane.same laws.same_itself _)

pub returns-clause-ready : goal.returns-clause-ready
returns-clause-ready g c =
    let parts = c.in-Some.ensures.cases in
    let all = rw parts.0 at c.requires.begins in
    λ said. (c.start.ensures.ready said, all.1)

pub returns-clause-rows : goal.returns-clause-rows
returns-clause-rows g c = λ more. rows-none g.T.PhaseLane.numbers more c.start.new.self _ c.start.ensures.none

pub returns-clause-alone : goal.returns-clause-alone
returns-clause-alone g c =
    let laws = g.met.T.QkStarts in
    let parts = c.in-Some.ensures.cases in
    let blank = rw parts.0 at c.requires.blank in
    (c.start.ensures.alone, ready-map g.T.QkStarts.blank g.T.QkStarts.alone laws.blank_alone _ blank)

pub returns-clause-started : goal.returns-clause-started
returns-clause-started g c said =
    let laws = g.met.T.QkStarts in
    let parts = c.in-Some.ensures.cases in
    let blank = rw parts.0 at c.requires.blank in
    (c.start.ensures.started said, ready-map g.T.QkStarts.blank g.T.QkStarts.started laws.blank_started _ blank)
