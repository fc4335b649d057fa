use Rattle.std.proofs.Common.{◌≤◌, List, length, sym, ◌∙◌, ap, subst, arith, IsTrue}
use Rattle.qp_model.specs.declared.systems.ObjectDef.{ObjectDef}
use Rattle.qp_model.specs.declared.systems.System.{System}
use Rattle.qp_model.specs.WordLaw.{is_object}
use Rattle.qp_port_lanes.proofs.Glancing.{at, clear-all, clear-more, glances-none, glances-then, shows-entry}
use Rattle.qp_port_lanes.proofs.passing.look.Goals as goal

pub counts-c-requires : goal.counts-c-requires
counts-c-requires g c =
    let listed = c.deref-d-items.ensures.value ∙ ap (λ (s : System). s.objects) c.sys.view_is in
    let here = at c.args.sys.now c.deref-d-items.result.now c.loop-d.d-index c.d-item.result listed c.loop-d-test.true c.d-item.is in
    record { object = subst (λ (s : System). IsTrue (is_object s c.d-item.result.priority)) (sym (c.loop-d.invariant.along.keeps.sys ∙ c.requires)) here.object }

pub loop-d-init : goal.loop-d-init
loop-d-init g c = record { along = glances-none _; clear = tt }

pub returns-then-from : goal.returns-then-from
returns-then-from g c =
    let listed = c.deref-d-items.ensures.value ∙ ap (λ (s : System). s.objects) c.sys.view_is in
    let here = at c.args.sys.now c.deref-d-items.result.now c.loop-d.d-index c.d-item.result listed c.loop-d-test.true c.d-item.is in (
      glances-then _ (g.O.Ops.lane c.loop-d.ops) _ c.d-item.result.priority c.counts-c.result c.loop-d.invariant.along c.counts-c.ensures,
      shows-entry c.args.sys.now c.d-item.result.priority c.counts-c.result (g.O.Ops.lane c.loop-d.ops) _ here.object c.counts-c.ensures (omega (arith, c.if-from.true, c.from.ensures, c.from-in-loop-d.ensures, c.from-in-loop-d-2.ensures)),
    )

pub loop-d-preserved : goal.loop-d-preserved
loop-d-preserved g c =
    let listed = c.deref-d-items.ensures.value ∙ ap (λ (s : System). s.objects) c.sys.view_is in
    let here = at c.args.sys.now c.deref-d-items.result.now c.loop-d.d-index c.d-item.result listed c.loop-d-test.true c.d-item.is in
    record {
      along = glances-then _ (g.O.Ops.lane c.loop-d.ops) _ c.d-item.result.priority c.counts-c.result c.loop-d.invariant.along c.counts-c.ensures;
      clear = rw here.more (clear-more c.d-item.result.priority c.counts-c.result (g.O.Ops.lane c.loop-d.ops) _ c.counts-c.ensures (omega (arith, c.if-from.false, c.from.ensures, c.from-in-loop-d.ensures, c.from-in-loop-d-2.ensures)) _ c.loop-d.invariant.clear);
    }

pub returns : goal.returns
returns g c =
    let listed = c.deref-d-items.ensures.value ∙ ap (λ (s : System). s.objects) c.sys.view_is in
    (c.loop-d.invariant.along, clear-all c.args.sys.now c.loop-d.d-index _ c.loop-d.invariant.clear (subst (λ (xs : List ObjectDef). length xs ≤ c.loop-d.d-index) listed c.loop-d-test.false))
