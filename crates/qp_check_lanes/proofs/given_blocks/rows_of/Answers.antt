use Rattle.std.proofs.Common.{◌∙◌, ◌++◌, ◌∷◌, [], ap, sym, take, cond, append-nil}
use Rattle.qp_model.specs.Record.{item_of}
use Rattle.qp_check_lanes.specs.GivenBlocks.{block_key}
use Rattle.qp_check_lanes.specs.Groups.{has_key, of_key}
use Rattle.qp_check_lanes.specs.Rows.{records_of_key}
use Rattle.qp_check_lanes.proofs.KeyLemmas.{row-put}
use Rattle.qp_check_lanes.proofs.WalkLemmas.{filter_front}
use Rattle.qp_check_lanes.proofs.given_blocks.rows_of.Goals as goal
use Rattle.qp_check_lanes.proofs.given_blocks.rows_of.Goals.{in-Some+in_ok-put-in-Some, in-None}

pub loop-r-init : goal.loop-r-init
unfolding of_key
loop-r-init c = λ b. c.none-rows.ensures (b, 0, 0)

pub loop-r-preserved : goal.loop-r-preserved
unfolding of_key
loop-r-preserved c = λ b.
    let i = item_of c.r-item.result.now in
    let before = of_key block_key b (take c.loop-r.r-index c.args.pool.now) in
    let next = filter_front (λ r. item_of r.now) c.pool.view_is c.deref-r-items.ensures.value c.loop-r.r-index c.r-item.result c.loop-r-test.true c.r-item.is (λ j. has_key b (block_key j)) in
    elim c.match-given_block.branch [
      | in-Some+in_ok-put-in-Some w ↦
          let n = w.in-Some.b in
          let is = sym c.given_block.ensures ∙ w.in-Some.is in
          ap (λ x. records_of_key x (b, 0, 0)) w.rows-is ∙ w.in_ok-put-in-Some.ensures (b, 0, 0) ∙ row-put n b _ before i (c.loop-r.invariant b) ∙ sym (next ∙ ap (λ k. before ++ cond (has_key b k) (i ∷ []) []) is)
      | in-None w ↦
          let is = sym c.given_block.ensures ∙ w.in-None.is in
          ap (λ x. records_of_key x (b, 0, 0)) w.rows-is ∙ c.loop-r.invariant b ∙ sym (next ∙ ap (λ k. before ++ cond (has_key b k) (i ∷ []) []) is ∙ append-nil before)
    ]
