use Rattle.std.proofs.Common.{◌≡◌, ◌∙◌, true, false, ap, sym, IsTrue}
use Rattle.qp_model.specs.declared.systems.System.{System}
use Rattle.qp_model.specs.declared.systems.ObjectDef.{ObjectDef}
use Rattle.qp_model.specs.Lawful.{deferral_holds}
use Rattle.qp_check.proofs.FindLemmas.{from-broken, from-last, from-next}
use Rattle.qp_check.proofs.object_tests.deferral_broken.Goals as goal

pub returns-then-not-branch : goal.returns-then-not-branch
returns-then-not-branch c =
    let P = λ (d : ObjectDef). IsTrue (deferral_holds c.args.sys.now c.args.j.now d) in
    let fails : deferral_holds c.args.sys.now c.args.j.now c.d-item.result ≡ false = sym c.in_ok-keeps_deferred.ensures ∙ c.if-not-branch.true in
    from-broken 17 P c.deref-d-items.result.now c.loop-d.d-index c.d-item.result c.loop-d-test.true c.d-item.is c.loop-d.invariant
    (λ h. let bad : true ≡ false = sym h ∙ fails in let absent : ⊥ = cc in absent)
    c.at_object.result (sym c.at_object.ensures.number) c.at_object.ensures.place c.args.sys.now.objects (c.deref-d-items.ensures.value ∙ ap (λ (s : System). s.objects) c.sys.view_is)

pub loop-d-preserved : goal.loop-d-preserved
loop-d-preserved c =
    let P = λ (d : ObjectDef). IsTrue (deferral_holds c.args.sys.now c.args.j.now d) in
    from-next 17 P c.deref-d-items.result.now c.loop-d.d-index c.d-item.result c.loop-d-test.true c.d-item.is c.loop-d.invariant
    (sym c.in_ok-keeps_deferred.ensures ∙ c.if-not-branch.false)

pub returns : goal.returns
returns c =
    let P = λ (d : ObjectDef). IsTrue (deferral_holds c.args.sys.now c.args.j.now d) in
    from-last 17 P c.deref-d-items.result.now c.loop-d.d-index c.loop-d-test.false c.loop-d.invariant c.args.sys.now.objects
    (c.deref-d-items.ensures.value ∙ ap (λ (s : System). s.objects) c.sys.view_is)
