use Rattle.qp_port.specs.Making.{IsFreshSource}
use Rattle.qp_port_lanes.specs.Workers.{SourcesMade}
use Rattle.qp_port.proofs.Coming.{adds-none, no-sources}
use Rattle.qp_port.proofs.making.+add_sources.Goals as goal

pub returns-in_default : goal.returns-in_default
returns-in_default g t c =
    let at = c.args.at.now in
    let none = c.in_default.ensures.cases in
    adds-none (λ w. w.lane) (SourcesMade (λ k w. IsFreshSource at.sys.now at.budget at.stim.now k w.sys.now w.budget w.turn w.job) c.args.source c.args.sources.now)
    (no-sources (λ k w. IsFreshSource at.sys.now at.budget at.stim.now k w.sys.now w.budget w.turn w.job) c.args.source c.args.sources.now none) c.args.lanes.now.items c.args.workers.now.items
