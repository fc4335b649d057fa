use Rattle.std.proofs.Common.{◌≡◌, ◌-◌, length, sym, ◌∙◌, ap, arith}
use Rattle.qp_model.specs.Lists.{count_up}
use Rattle.qp_plain_words.specs.Places.{bit_places}
use Rattle.qp_plain_words.proofs.PlaceLemmas.{places-ones, length-count_up, ones-below}
use Rattle.qp_plain_words.proofs.pool.PoolWord.new.Goals as goal
use Rattle.qp_plain_words.proofs.pool.PoolWord.new.Goals.{then-blocks-eq32, else-blocks-eq32}

all : (c : goal.Joined-blocks-eq32) → bit_places c.if-blocks-eq32.bits ≡ count_up 0 c.args.blocks
all c = elim c.if-blocks-eq32.branch [
  | then-blocks-eq32 w ↦ rw (w.bits-is, w.if-blocks-eq32.true) (places-ones 32 (omega arith))
  | else-blocks-eq32 w ↦ ap bit_places w.bits-is ∙ ap bit_places (ones-below c.args.blocks c.requires w.if-blocks-eq32.false) ∙ places-ones c.args.blocks c.requires
]

pub invariant_of-result : goal.invariant_of-result
invariant_of-result c = sym (ap length (all c) ∙ length-count_up c.args.blocks 0)

pub returns : goal.returns
returns c = ap (λ xs. record { count = 0; free = xs }) (all c)
