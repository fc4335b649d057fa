use Rattle.std.proofs.Common.{List, length, ap, arith, ◌∙◌}
use Rattle.qp_model.specs.declared.stimulus.Stim.{Stim}
use Rattle.qp_model.specs.declared.systems.System.{System}
use Rattle.qp_model.specs.declared.systems.ObjectDef.{ObjectDef}
use Rattle.qp_port.specs.Making.{MadesHome, MadesNothing, IsFreshSource}
use Rattle.qp_port.proofs.Coming.{all-homes_long, all-of, made-nothing, one-long}
use Rattle.qp_port.proofs.making.new_workers.Goals as goal

pub add_sources-requires-clause-enough : goal.add_sources-requires-clause-enough
add_sources-requires-clause-enough g c =
    let one = one-long _ _ _ _ _ _ c.in_ok-add.ensures in
    let homes = all-homes_long _ _ _ _ _ _ _ c.in_ok-add_homes.ensures in
    let listed = c.deref.ensures.value ∙ ap (λ (s : System). s.objects) c.sys.view_is in
    let sources = c.deref-2.ensures.value ∙ c.stim.view_is in
    let long = ap (λ (xs : List ObjectDef). length xs) listed in
    let more = ap (λ (xs : List (List Stim)). length xs) sources in
    let many = c.requires.many in
    omega (arith, one, homes, long, more, many)

pub returns : goal.returns
returns g c =
    let at = c.args.at.now in
    let listed = c.deref.ensures.value ∙ ap (λ (s : System). s.objects) c.sys.view_is in
    let sources = c.deref-2.ensures.value ∙ c.stim.view_is in
    all-of (λ w. w.lane) _ (λ w. MadesNothing at.sys.now at.budget w.sys.now w.budget w.turn w.job)
    (λ d w. MadesHome at.sys.now at.budget d w.sys.now w.budget w.turn w.job)
    (λ k w. IsFreshSource at.sys.now at.budget at.stim.now k w.sys.now w.budget w.turn w.job)
    (λ w h. made-nothing at.sys.now at.budget w.sys.now w.budget w.turn w.job h.0 h.1)
    at.sys.now.objects _ at.stim.now _ c.args.lanes.items _ _ _ _ _ _ _ c.in-Ok.ensures.items listed sources c.in_ok-add.ensures c.in_ok-add_homes.ensures c.in_ok-add_sources.ensures c.requires.many
