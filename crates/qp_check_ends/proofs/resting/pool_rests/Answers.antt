use Rattle.std.proofs.Common.{◌∙◌, ap, sym, arith}
use Rattle.qp_model.specs.End.{block_rests}
use Rattle.qp_model.specs.History.{all_items}
use Rattle.qp_model.specs.Sites.{blocks_of}
use Rattle.qp_check_lanes.proofs.BlockLifeLemmas.{all_below-not}
use Rattle.qp_check_ends.proofs.RestingLemmas.{below-more, below-none}
use Rattle.qp_check_ends.proofs.resting.pool_rests.Goals as goal

pub loop-b-init : goal.loop-b-init
loop-b-init c = below-none (block_rests c.args.sys.now (all_items c.args.records.now) c.args.deferred.now c.args.p)

pub returns-then-not-branch : goal.returns-then-not-branch
returns-then-not-branch c =
    all_below-not (blocks_of c.args.sys.now c.args.p) (block_rests c.args.sys.now (all_items c.args.records.now) c.args.deferred.now c.args.p)
    c.loop-b.b (omega (arith, c.blocks_of-b-end.ensures, ap (blocks_of c.args.sys.now) c.from-own.ensures, c.loop-b-test.true)) (sym c.in_ok-block_rests.ensures ∙ c.if-not-branch.true)

pub loop-b-preserved : goal.loop-b-preserved
loop-b-preserved c =
    below-more (block_rests c.args.sys.now (all_items c.args.records.now) c.args.deferred.now c.args.p) c.loop-b.b c.loop-b.invariant
    (sym c.in_ok-block_rests.ensures ∙ c.if-not-branch.false)
