use Rattle.std.proofs.Common.{◌∙◌, ◌≤◌, List, length, ap, arith, refl, subst}
use Rattle.qp_model.specs.declared.systems.ObjectDef.{ObjectDef}
use Rattle.qp_model.specs.declared.systems.System.{System}
use Rattle.qp_plain.proofs.EmptyQueues.{empty-all, empty-more, empty-not, here, place-there}
use Rattle.qp_plain.proofs.world.PlainWorld.rests.Goals as goal

pub loop-d-init : goal.loop-d-init
loop-d-init c = refl

pub index-requires : goal.index-requires
index-requires c =
    let w = c.args.self.now in
    let listed = c.deref-d-items.ensures.value ∙ ap (λ (s : System). s.objects) c.sys.view_is in
    let at = here w c.deref-d-items.result.now c.loop-d.d-index c.d-item.result listed c.loop-d-test.true c.d-item.is in
    let lt = place-there w c.d-item.result.priority c.from.result at.object c.from.ensures in
    omega (arith, lt, w.queues.ok.0)

pub loop-d-preserved : goal.loop-d-preserved
loop-d-preserved c =
    let w = c.args.self.now in
    let listed = c.deref-d-items.ensures.value ∙ ap (λ (s : System). s.objects) c.sys.view_is in
    let at = here w c.deref-d-items.result.now c.loop-d.d-index c.d-item.result listed c.loop-d-test.true c.d-item.is in
    empty-more w c.loop-d.d-index c.from.result c.d-item.result c.index.result.now at c.from.ensures c.index.ensures c.counts-now.result c.counts-now.ensures.f c.counts-now.ensures.l c.counts-now.ensures.m
    c.loop-d.invariant (omega (arith, c.if-from.false, c.from-in-loop-d.ensures, c.from-in-loop-d-2.ensures, c.from-in-loop-d-3.ensures))

pub returns-then-from : goal.returns-then-from
returns-then-from c =
    let w = c.args.self.now in
    let listed = c.deref-d-items.ensures.value ∙ ap (λ (s : System). s.objects) c.sys.view_is in
    let at = here w c.deref-d-items.result.now c.loop-d.d-index c.d-item.result listed c.loop-d-test.true c.d-item.is in
    empty-not w c.loop-d.d-index c.from.result c.d-item.result c.index.result.now at c.from.ensures c.index.ensures c.counts-now.result c.counts-now.ensures.f c.counts-now.ensures.l c.counts-now.ensures.m
    (λ none. c.if-from.true (omega (arith, none, c.from-in-loop-d.ensures, c.from-in-loop-d-2.ensures, c.from-in-loop-d-3.ensures)))

pub returns : goal.returns
returns c =
    let w = c.args.self.now in
    let listed = c.deref-d-items.ensures.value ∙ ap (λ (s : System). s.objects) c.sys.view_is in
    empty-all w c.loop-d.d-index c.loop-d.invariant (subst (λ (xs : List ObjectDef). length xs ≤ c.loop-d.d-index) listed c.loop-d-test.false)
