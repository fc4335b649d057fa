use Rattle.std.proofs.Common.{◌∷◌, ap, sym, ◌∙◌, arith}
use Rattle.qp_port_qk.specs.Making.{MadesKernel, IsFreshQkSource}
use Rattle.qp_port_qk.proofs.Coming.{all-made, first-taken}
use Rattle.qp_port_qk.proofs.making.new_workers.Goals as goal

pub returns : goal.returns
returns g c =
    let at = c.args.at.now in
    let many = c.requires.many in
    let taken = first-taken c.args.lanes.items c.remove.result (omega (arith, many)) c.remove.ensures.value in
    let one = c.kernel_worker-worker.result in
    all-made (λ w. w.lane) (λ w. MadesKernel at.sys.now at.budget w.sys.now w.budget w.turn w.job) (λ k w. IsFreshQkSource at.sys.now at.budget at.stim.now k w.sys.now w.budget w.turn w.job)
    at.stim.now _ c.args.lanes.items _ _ one _ _ _ c.kernel_worker-worker.ensures.made c.in-Ok.ensures.items c.in-Ok-push.ensures.items
    (taken ∙ ap (λ xs. c.remove.result ∷ xs) (sym c.remove.ensures.items) ∙ ap (λ x. x ∷ c.remove.new.self.items) (sym c.kernel_worker-worker.ensures.lane)) (c.deref.ensures.value ∙ c.stim.view_is) c.in_ok-add_sources.ensures c.requires.many
