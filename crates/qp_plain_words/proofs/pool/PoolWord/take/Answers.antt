use Rattle.std.proofs.Common.{◌<◌, ap, sym, refl, length, ℕ, arith}
use Rattle.qp_plain_words.specs.Places.{bit_places}
use Rattle.qp_plain_words.proofs.PlaceLemmas.{Lowest, lowest, some-bit, places-clear, length-clear}
use Rattle.qp_plain_words.proofs.pool.PoolWord.take.Goals as goal

lowest-of : (bits : ℕ) → 0 < length (bit_places bits) → bits < 4294967296 → Lowest bits
lowest-of bits some few = lowest bits (some-bit bits some) few

pub overflow_shl-self : goal.overflow_shl-self
overflow_shl-self c = (lowest-of c.self.inside.bits (rw (ap (λ w. length w.free) c.self.view_is) c.requires.some) (omega arith)).within

pub invariant_of-self : goal.invariant_of-self
invariant_of-self c =
    let low = lowest-of c.self.inside.bits (rw (ap (λ w. length w.free) c.self.view_is) c.requires.some) (omega arith) in
    let less = length-clear c.self.inside.bits _ low.within low.one in
    omega (arith, c.self.invariant, less)

pub returns-clause-first : goal.returns-clause-first
returns-clause-first c =
    let low = lowest-of c.self.inside.bits (rw (ap (λ w. length w.free) c.self.view_is) c.requires.some) (omega arith) in
    rw (sym c.self.view_is) low.first

pub returns-clause-within : goal.returns-clause-within
returns-clause-within c = (lowest-of c.self.inside.bits (rw (ap (λ w. length w.free) c.self.view_is) c.requires.some) (omega arith)).within

pub returns-clause-new : goal.returns-clause-new
returns-clause-new c =
    let low = lowest-of c.self.inside.bits (rw (ap (λ w. length w.free) c.self.view_is) c.requires.some) (omega arith) in
    rw (places-clear c.self.inside.bits _ low.within, sym c.self.view_is) refl
