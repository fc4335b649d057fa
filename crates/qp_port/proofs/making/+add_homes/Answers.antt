use Rattle.std.proofs.Common.{◌∷◌, sym, subst}
use Rattle.qp_port.specs.declared.job.Job.TheVariants as job
use Rattle.qp_port.specs.Making.{HomesMade, IsThis, MadesHome}
use Rattle.qp_port_lanes.specs.Workers.{AddsAll, IsFreshWorker}
use Rattle.qp_port.proofs.Coming.{adds-more, adds-none, made-home, no-homes, on-ok}
use Rattle.qp_port.proofs.making.+add_homes.Goals as goal

pub returns-in_default : goal.returns-in_default
returns-in_default g t c =
    let at = c.args.at.now in
    let none = c.in_default.ensures.cases in
    adds-none (λ w. w.lane) (HomesMade (λ d w. MadesHome at.sys.now at.budget d w.sys.now w.budget w.turn w.job) c.args.objects.now)
    (no-homes (λ d w. MadesHome at.sys.now at.budget d w.sys.now w.budget w.turn w.job) c.args.objects.now none) c.args.lanes.now.items c.args.workers.now.items

pub returns : goal.returns
returns g t c =
    let at = c.args.at.now in
    let parts = c.in-Some.ensures.cases in
    let one = c.in-Some.one.now in
    let rest = c.in-Some.rest.now in
    let home = c.in_ok-home.home in
    on-ok _ _ c.add_homes.result
    (λ more.
    subst (λ ds. AddsAll (λ w. w.lane) (HomesMade (λ d w. MadesHome at.sys.now at.budget d w.sys.now w.budget w.turn w.job) ds) c.args.lanes.now.items c.args.workers.now.items c.add_homes.new.lanes.items c.add_homes.new.workers.items)
    (sym parts.0)
    (adds-more (λ w. w.lane) (λ w. IsFreshWorker at.sys.now at.budget w.sys.now w.budget w.turn × IsThis (job.Home home) w.job)
    (HomesMade (λ d w. MadesHome at.sys.now at.budget d w.sys.now w.budget w.turn w.job) rest)
    (HomesMade (λ d w. MadesHome at.sys.now at.budget d w.sys.now w.budget w.turn w.job) (one ∷ rest))
    (λ w us made others. (made-home at.sys.now at.budget one home w.sys.now w.budget w.turn w.job c.in_ok-home.ensures made.0 made.1, others))
    c.args.lanes.now.items c.args.workers.now.items c.add.new.lanes.items c.add.new.workers.items c.add_homes.new.lanes.items c.add_homes.new.workers.items
    c.in_ok-add.ensures more))
    c.add_homes.ensures
