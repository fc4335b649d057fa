use Rattle.std.proofs.Common.{◌+◌, ◌∙◌, suc, IsTrue, drop, get_or, length, refl, sym, ap, subst, arith}
use Rattle.std.specs.List.{list_any}
use Rattle.qp_table.specs.After.{fills_for, filled}
use Rattle.qp_table.specs.Asked.{is_asked}
use Rattle.qp_shared_loops.specs.Ends.{filling}
use Rattle.qp_shared_loops.proofs.Giving.{signal-written, value-left, value-written, kept-asked, kept-fresh}
use Rattle.qp_shared_loops.proofs.gives.write_event.Goals as goal

pub loop-at-init : goal.loop-at-init
loop-at-init c = record {
  same = c.fill.ensures.same;
  left =
      signal-written c.args.pool c.args.block c.args.ev.now.sig c.args.ev.now.pars.items c.args.seat.now.me.0 c.requires.left c.fill.new.seat.me.0
      (c.fill.ensures.told ∙ ap (filled c.args.seat.now.me.0 c.args.pool c.args.block 0) c.from.ensures)
      ∙ ap (λ ps. filling (fills_for c.args.pool c.args.block (0 + 1) (drop 0 ps)) c.args.seat.now.me.0) (sym c.as_slice-pars.ensures.value);
}

pub loop-at-preserved : goal.loop-at-preserved
loop-at-preserved c = let i = c.loop-at.invariant in record {
  same = (c.fill-in-loop-at.ensures.same.0 ∙ i.same.0, c.fill-in-loop-at.ensures.same.1 ∙ i.same.1);
  left = value-written c.args.pool c.args.block c.loop-at.at c.as_slice-pars.result.now _ c.args.seat.now.me.0 c.loop-at.seat.me.0 c.loop-at-test.true refl i.left c.fill-in-loop-at.new.seat.me.0 c.fill-in-loop-at.ensures.told;
}

pub fill-requires-in-loop-at-clause-own : goal.fill-requires-in-loop-at-clause-own
fill-requires-in-loop-at-clause-own c = c.loop-at.invariant.same.0 ∙ c.requires.own

pub fill-requires-in-loop-at-clause-fresh : goal.fill-requires-in-loop-at-clause-fresh
fill-requires-in-loop-at-clause-fresh c = kept-fresh c.args.pool c.args.block (fills_for c.args.pool c.args.block (c.loop-at.at + 1) (drop c.loop-at.at c.as_slice-pars.result.now)) c.args.seat.now.me.0 c.loop-at.seat.me.0 c.loop-at.invariant.left c.requires.fresh

pub fill-requires-in-loop-at-clause-left : goal.fill-requires-in-loop-at-clause-left
fill-requires-in-loop-at-clause-left c = value-left c.args.pool c.args.block c.loop-at.at c.as_slice-pars.result.now _ c.args.seat.now.me.0 c.loop-at.seat.me.0 c.loop-at-test.true refl c.loop-at.invariant.left

pub fill-requires-clause-asked : goal.fill-requires-clause-asked
fill-requires-clause-asked c = subst (λ n. IsTrue (list_any (is_asked c.args.pool c.args.block 0 n) c.args.seat.now.me.0.gives)) (sym c.from.ensures) (c.requires.asked 0 (omega arith))

pub fill-requires-in-loop-at-clause-asked : goal.fill-requires-in-loop-at-clause-asked
fill-requires-in-loop-at-clause-asked c =
    let ps = sym c.as_slice-pars.ensures.value in let inside = c.loop-at-test.true in let n = ap length ps in
    kept-asked c.args.pool c.args.block c.loop-at.at c.args.ev.now.sig c.args.ev.now.pars.items _ (fills_for c.args.pool c.args.block (c.loop-at.at + 1) (drop c.loop-at.at c.as_slice-pars.result.now)) c.args.seat.now.me.0 c.loop-at.seat.me.0
    (ap (λ xs. get_or xs c.loop-at.at 0) (sym ps)) c.loop-at.invariant.left (c.requires.asked (suc c.loop-at.at) (omega arith))
