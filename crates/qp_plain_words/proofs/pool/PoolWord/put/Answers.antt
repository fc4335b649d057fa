use Rattle.std.proofs.Common.{refl, ap, sym, ◌∙◌, arith}
use Rattle.qp_chart.specs.StateTree.{has}
use Rattle.qp_plain_words.proofs.PlaceLemmas.{bit-out, places-set, length-set, length-places}
use Rattle.qp_plain_words.proofs.pool.PoolWord.put.Goals as goal

pub overflow_add-self : goal.overflow_add-self
overflow_add-self c = let few = length-places c.self.inside.bits in record { fits = omega (arith, c.self.invariant, few) }

pub invariant_of-self : goal.invariant_of-self
invariant_of-self c =
    let out = bit-out c.self.inside.bits c.args.b c.requires.within (ap (λ w. has w.free c.args.b) c.self.view_is ∙ c.requires.out) in
    let more = length-set c.self.inside.bits c.args.b c.requires.within out in
    omega (arith, c.self.invariant, more)

pub returns : goal.returns
returns c =
    let out = bit-out c.self.inside.bits c.args.b c.requires.within (ap (λ w. has w.free c.args.b) c.self.view_is ∙ c.requires.out) in
    rw (places-set c.self.inside.bits c.args.b c.requires.within out, sym c.self.view_is) refl
