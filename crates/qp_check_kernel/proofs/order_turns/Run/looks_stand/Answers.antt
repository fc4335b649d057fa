use Rattle.std.proofs.Common.{◌∙◌, sym, refl, subst, List, map, take, arith}
use Rattle.qp_model.specs.OneOrder.{Placed}
use Rattle.qp_check_kernel.specs.AsPlaced.{as_placed}
use Rattle.qp_check_kernel.specs.Turns.{IsProgress}
use Rattle.qp_check_lanes.proofs.ItemLemmas.{map-up_to}
use Rattle.qp_check_kernel.proofs.ProgressLemmas.{IsProgress-none, IsProgress-more, progress-small, looks-kept, looks-broken, looks-end}
use Rattle.qp_check_kernel.proofs.order_turns.Run.looks_stand.Goals as goal

pub loop-i-init : goal.loop-i-init
loop-i-init c = record {
  progress = IsProgress-none c.none-progress.result c.none-progress.ensures.begun c.none-progress.ensures.entered c.none-progress.ensures.left c.none-progress.ensures.last;
  same = λ r h. refl;
}

pub stands-requires : goal.stands-requires
stands-requires c k = omega (arith, (progress-small as_placed c.args.order.now c.loop-i.i c.loop-i.progress c.loop-i.invariant.progress c.loop-i.auto.i-end k).0)

pub returns-then-not-stands : goal.returns-then-not-stands
returns-then-not-stands c r h =
    sym (looks-broken as_placed c.args.order.now c.loop-i.i c.index-order-i.result c.loop-i-test.true c.index-order-i.is c.args.self.now c.loop-i.progress c.loop-i.invariant.progress r h
    c.stands.result c.stands.ensures c.if-not-stands.true)
    ∙ c.loop-i.invariant.same r h

pub note-requires-clause-begun : goal.note-requires-clause-begun
note-requires-clause-begun c k = omega (arith, (progress-small as_placed c.args.order.now c.loop-i.i c.loop-i.progress c.loop-i.invariant.progress c.loop-i.auto.i-end k).0)

pub note-requires-clause-entered : goal.note-requires-clause-entered
note-requires-clause-entered c k = omega (arith, (progress-small as_placed c.args.order.now c.loop-i.i c.loop-i.progress c.loop-i.invariant.progress c.loop-i.auto.i-end k).1)

pub note-requires-clause-left : goal.note-requires-clause-left
note-requires-clause-left c k = omega (arith, (progress-small as_placed c.args.order.now c.loop-i.i c.loop-i.progress c.loop-i.invariant.progress c.loop-i.auto.i-end k).2)

pub loop-i-preserved : goal.loop-i-preserved
loop-i-preserved c =
    let P : List Placed → Type 0 = λ before. IsProgress c.note.new.self before in
    record {
      progress =
          subst P (sym (map-up_to as_placed c.args.order.now c.loop-i.i c.index-order-i.result c.loop-i-test.true c.index-order-i.is))
          (IsProgress-more c.loop-i.progress c.note.new.self (map as_placed (take c.loop-i.i c.args.order.now)) (as_placed c.index-order-i.result) c.loop-i.invariant.progress
          c.in_ok-note.ensures.begun c.in_ok-note.ensures.entered c.in_ok-note.ensures.left c.in_ok-note.ensures.last);
      same = λ r h.
          sym (looks-kept as_placed c.args.order.now c.loop-i.i c.index-order-i.result c.loop-i-test.true c.index-order-i.is c.args.self.now c.loop-i.progress c.loop-i.invariant.progress r h
          c.stands.result c.stands.ensures c.if-not-stands.false)
          ∙ c.loop-i.invariant.same r h;
    }

pub returns : goal.returns
returns c r h = sym (looks-end as_placed c.args.order.now c.loop-i.i r (map as_placed (take c.loop-i.i c.args.order.now)) c.loop-i-test.false) ∙ c.loop-i.invariant.same r h
