use Rattle.std.proofs.Common.{◌≡◌, arith, subst}
use Rattle.std.proofs.lemmas.Result.{err_from_is_err_and}
use Rattle.qp_calls.specs.Deferring.{FlushesSome}
use Rattle.qp_calls.proofs.Flushing.{fault-still, flush-cut, flushed-all, flushes-more, flushes-none}
use Rattle.qp_calls.proofs.deferral.flush.Goals as goal

pub loop-i-init : goal.loop-i-init
loop-i-init g c = record { all = c.len-count.ensures; some = flushes-none c.args.list.now _ c.requires.kept }

pub loop-i-preserved : goal.loop-i-preserved
loop-i-preserved g c = record {
  all = c.loop-i.invariant.all;
  some = flushes-more c.loop-i._i c.args.list.now c.loop-i.list c.flush_one.new.list _ _ _ c.loop-i.invariant.some c.in_ok-flush_one.ensures;
}

pub returns-in_err-flush_one : goal.returns-in_err-flush_one
returns-in_err-flush_one g c =
    let p = err_from_is_err_and c.from_residual.result c.from_residual.ensures.1 in
    let e = c.in_err-flush_one.ensures in
    rw (p.1, p.2) (flush-cut c.loop-i._i c.args.list.now c.loop-i.list c.flush_one.new.list _ _ _ c.loop-i.invariant.some (omega (arith, c.loop-i.invariant.all)) e.0 e.1.0, fault-still c.in_err-flush_one.field-0.0 _ _ e.1.0 e.1.1)

pub returns : goal.returns
returns g c =
    let end : c.loop-i._i ≡ c.len-count.result = omega arith in
    flushed-all c.len-count.result c.args.list.now c.loop-i.list _ _
    (subst (λ n. FlushesSome n c.args.list.now c.loop-i.list (g.O.Ops.lane c.args.ops.now) (g.O.Ops.lane c.loop-i.ops)) end c.loop-i.invariant.some) c.loop-i.invariant.all
