use Rattle.qp_port_qk.specs.Making.{IsFreshQkSource}
use Rattle.qp_port_lanes.specs.Workers.{SourcesMade}
use Rattle.qp_port_qk.proofs.Coming.{adds-none, none-made}
use Rattle.qp_port_qk.proofs.making.+add_sources.Goals as goal

pub returns-in_default : goal.returns-in_default
returns-in_default g n c =
    let at = c.args.at.now in
    let none = c.in_default.ensures.cases in
    adds-none (λ w. w.lane) (SourcesMade (λ k w. IsFreshQkSource at.sys.now at.budget at.stim.now k w.sys.now w.budget w.turn w.job) c.args.source c.args.sources.now)
    (none-made (λ k w. IsFreshQkSource at.sys.now at.budget at.stim.now k w.sys.now w.budget w.turn w.job) c.args.source c.args.sources.now none) c.args.lanes.now.items c.args.workers.now.items
