-- Remainders by the size of a ring: a quotient that was guessed and fits, and sizes that are powers of two.
use Rattle.std.proofs.Common.{◌≡◌, ℕ, ◌+◌, ◌-◌, ◌*◌, ◌%◌, ◌<◌, ◌≤◌, ◌^◌, Bool, true, false, not, ◌||◌, ◌==◌, ap, sym, refl, ◌∙◌, arith, bit_and, count_ones}
use Rattle.std.specs.Int.{is_power_of_two}
use Rattle.std.proofs.lemmas.Bool.{eqb-true, true≢false}
use Rattle.std.proofs.lemmas.Nat.{mod-mul-add, and_mask}
use Rattle.qp_model.specs.Lists.{all_below}
use Rattle.qp_model.proofs.ListLemmas.{all_below_at}

pub guessed : (n t s : ℕ) → t * s ≤ n → n - t * s < s → n - t * s ≡ n % s
guessed n t s low less =
    let split : n ≡ t * s + (n - t * s) = omega arith in
    sym (ap (λ k. k % s) split ∙ mod-mul-add t s (n - t * s) less)

-- where the size of a ring is a power of two, its other cells are numbered by the bits below it
is_masked : ℕ → Bool
is_masked ring = not (is_power_of_two (ring + 1)) || (ring + 1 == 2 ^ count_ones ring)

masks : all_below 256 is_masked ≡ true
unfolding all_below is_masked lib.Count.ones
masks = refl

-- what is or isn't, and is, is
either : (a b : Bool) → (not a || b) ≡ true → a ≡ true → b ≡ true
either true b h t = h
either false b h t = elim (true≢false (sym t)) [ ]

pub masked : (n ring : ℕ) → ring < 256 → is_power_of_two (ring + 1) ≡ true → bit_and n ring ≡ n % (ring + 1)
unfolding is_masked lib.Count.ones
masked n ring low power =
    let is : ring + 1 ≡ 2 ^ count_ones ring = eqb-true (ring + 1) (2 ^ count_ones ring) (either (is_power_of_two (ring + 1)) (ring + 1 == 2 ^ count_ones ring) (all_below_at 256 is_masked masks ring low) power) in
    let mask : ring ≡ 2 ^ count_ones ring - 1 = omega arith in
    ap (bit_and n) mask ∙ and_mask n (count_ones ring) ∙ ap (λ k. n % k) (sym is)
