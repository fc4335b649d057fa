use Rattle.std.proofs.Common.{◌≡◌, ◌∙◌, ℕ, suc, ◌+◌, Bool, false, ap, sym, arith, length}
use Rattle.qp_model.specs.declared.systems.System.{System}
use Rattle.qp_model.specs.End.{block_rests, blocks_rest}
use Rattle.qp_model.specs.History.{all_items}
use Rattle.qp_model.specs.Lists.{all_below}
use Rattle.qp_model.specs.Sites.{blocks_of}
use Rattle.qp_check_lanes.proofs.BlockLifeLemmas.{all_below-not}
use Rattle.qp_check_ends.proofs.RestingLemmas.{below-more, below-none}
use Rattle.qp_check_ends.proofs.resting.blocks_rest.Goals as goal

pub returns-then-not-branch : goal.returns-then-not-branch
unfolding blocks_rest
returns-then-not-branch c =
    let sys = c.args.sys.now in
    let items = all_items c.args.records.now in
    let test : ℕ → Bool = λ p. all_below (blocks_of sys p) (block_rests sys items c.args.deferred.now p) in
    let next : suc c.loop-k.k ≡ c.loop-k.k + 1 = omega arith in
    let fails : test (suc c.loop-k.k) ≡ false = ap test next ∙ sym c.in_ok-pool_rests.ensures ∙ c.if-not-branch.true in
    all_below-not (length sys.pools) (λ k. test (suc k)) c.loop-k.k (omega (arith, c.len-k-end.ensures, c.loop-k-test.true, ap (λ (s : System). length s.pools) c.sys.view_is)) fails

pub loop-k-init : goal.loop-k-init
loop-k-init c =
    let sys = c.args.sys.now in
    let items = all_items c.args.records.now in
    let test : ℕ → Bool = λ p. all_below (blocks_of sys p) (block_rests sys items c.args.deferred.now p) in
    below-none (λ k. test (suc k))

pub loop-k-preserved : goal.loop-k-preserved
loop-k-preserved c =
    let sys = c.args.sys.now in
    let items = all_items c.args.records.now in
    let test : ℕ → Bool = λ p. all_below (blocks_of sys p) (block_rests sys items c.args.deferred.now p) in
    let next : suc c.loop-k.k ≡ c.loop-k.k + 1 = omega arith in
    below-more (λ k. test (suc k)) c.loop-k.k c.loop-k.invariant (ap test next ∙ sym c.in_ok-pool_rests.ensures ∙ c.if-not-branch.false)
