use Rattle.std.proofs.Common.{rules, ◌∙◌, arith, take, get_or, append_assoc}
use Rattle.std.proofs.lemmas.List.{take_more}
use Rattle.qp_packed.specs.Packing.{spread, spread_one}
use Rattle.qp_packed.proofs.NumberLemmas.{spread-snoc}
use Rattle.qp_packed.proofs.pushing.add_numbers.Goals as goal

pub loop-x-init : goal.loop-x-init
unfolding spread
loop-x-init c = search rules

pub loop-x-preserved : goal.loop-x-preserved
loop-x-preserved c =
    record {
      items = rw (c.add_number.ensures.items, c.loop-x.invariant.items, take_more c.args.xs.now c.loop-x.x-index 0 c.loop-x-test.true, spread-snoc (take c.loop-x.x-index c.args.xs.now) (get_or c.args.xs.now c.loop-x.x-index 0))
          (append_assoc c.args.words.now.items (spread (take c.loop-x.x-index c.args.xs.now)) (spread_one (get_or c.args.xs.now c.loop-x.x-index 0)));
      capacity = c.add_number.ensures.capacity ∙ c.loop-x.invariant.capacity;
      len = omega (arith, c.add_number.ensures.len, c.loop-x.invariant.len);
    }
