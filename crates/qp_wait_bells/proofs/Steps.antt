-- Each step keeps the rule of the count, and that of a parker.
use Rattle.std.proofs.Common.{◌≡◌, ℕ, ◌+◌, ◌-◌, ◌/◌, ◌%◌, ◌^◌, ◌<◌, Bool, true, false, List, [], ◌∷◌, ◌++◌, slice_set, slice_index, length, refl, arith}
use mathlib.Core.Option.{some}
use lib.ListN.{get_elem?}
use Rattle.qp_wait_bells.specs.declared.tally.Tally.{Tally}
use Rattle.qp_wait_bells.specs.declared.parking.Notes.{Notes}
use Rattle.qp_wait_bells.specs.Tallies.{IsTallied, no_tally, sum_of, tally_sum, with_added, look_found, with_taken}
use Rattle.qp_wait_bells.specs.Parks.{HasNoted, with_note, with_park}
use Rattle.qp_wait_bells.proofs.Totals.{total-set, total-last}

-- the one word after a step
word-there : (words : List ℕ) (n : ℕ) → length words ≡ 1 → slice_index (slice_set words 0 n) 0 ≡ n
word-there [] n one = absurd (omega (arith, one))
word-there (x ∷ xs) n one = refl

still-one : (words : List ℕ) (n : ℕ) → length words ≡ 1 → length (slice_set words 0 n) ≡ 1
still-one [] n one = absurd (omega (arith, one))
still-one (x ∷ xs) n one = one

module _ (words : List ℕ) (views : List Tally) (id : ℕ) (v : Tally) (at : get_elem? views id ≡ some v) (small : slice_index words 0 < 18446744073709551616) where
  -- some were added
  pub adds : (n : ℕ) → IsTallied words views → IsTallied (slice_set words 0 ((slice_index words 0 + n) % 2 ^ 64)) (slice_set views id (with_added n v))
  adds n h =
      let there = word-there words ((slice_index words 0 + n) % 2 ^ 64) h.one in
      let added = total-set (λ (u : Tally). u.added) views id v (with_added n v) at in
      let taken = total-set (λ (u : Tally). u.taken) views id v (with_added n v) at in
      let is = h.is in
      record {
        one = still-one words ((slice_index words 0 + n) % 2 ^ 64) h.one;
        over = h.over + (slice_index words 0 + n) / 18446744073709551616;
        under = h.under;
        is = omega (arith, there, added, taken, is, small);
      }

  -- one was taken off
  pub takes : IsTallied words views → IsTallied (slice_set words 0 ((slice_index words 0 + (2 ^ 64 - 1)) % 2 ^ 64)) (slice_set views id (with_taken (slice_index words 0) v))
  takes h =
      let there = word-there words ((slice_index words 0 + (2 ^ 64 - 1)) % 2 ^ 64) h.one in
      let added = total-set (λ (u : Tally). u.added) views id v (with_taken (slice_index words 0) v) at in
      let taken = total-set (λ (u : Tally). u.taken) views id v (with_taken (slice_index words 0) v) at in
      let is = h.is in
      record {
        one = still-one words ((slice_index words 0 + (2 ^ 64 - 1)) % 2 ^ 64) h.one;
        over = h.over + (slice_index words 0 + 18446744073709551615) / 18446744073709551616;
        under = h.under + 1;
        is = omega (arith, there, added, taken, is, small);
      }

  -- it was looked at
  pub looks : IsTallied words views → IsTallied (slice_set words 0 (slice_index words 0)) (slice_set views id (look_found (slice_index words 0) v))
  looks h =
      let there = word-there words (slice_index words 0) h.one in
      let added = total-set (λ (u : Tally). u.added) views id v (look_found (slice_index words 0) v) at in
      let taken = total-set (λ (u : Tally). u.taken) views id v (look_found (slice_index words 0) v) at in
      let is = h.is in
      record { one = still-one words (slice_index words 0) h.one; over = h.over; under = h.under; is = omega (arith, there, added, taken, is) }

-- a seat with nothing in it was split off
pub parts : (words : List ℕ) (views : List Tally) (id : ℕ) (v : Tally) → get_elem? views id ≡ some v → IsTallied words views
    → IsTallied words (slice_set views id v ++ record { added = 0; taken = 0; empty_looks = 0; last_takes = 0 } ∷ [])
parts words views id v at h =
    let added = total-set (λ (u : Tally). u.added) views id v v at in
    let taken = total-set (λ (u : Tally). u.taken) views id v v at in
    let more = total-last (λ (u : Tally). u.added) (slice_set views id v) (record { added = 0; taken = 0; empty_looks = 0; last_takes = 0 }) in
    let fewer = total-last (λ (u : Tally). u.taken) (slice_set views id v) (record { added = 0; taken = 0; empty_looks = 0; last_takes = 0 }) in
    let is = h.is in
    record { one = h.one; over = h.over; under = h.under; is = omega (arith, added, taken, more, fewer, is) }

-- another seat was taken in
pub joins : (words : List ℕ) (views : List Tally) (id other : ℕ) (v w : Tally) → get_elem? views id ≡ some v → get_elem? (slice_set views id (sum_of v w)) other ≡ some w → IsTallied words views
    → IsTallied words (slice_set (slice_set views id (sum_of v w)) other no_tally)
joins words views id other v w at there h =
    let added = total-set (λ (u : Tally). u.added) views id v (sum_of v w) at in
    let taken = total-set (λ (u : Tally). u.taken) views id v (sum_of v w) at in
    let less = total-set (λ (u : Tally). u.added) (slice_set views id (sum_of v w)) other w no_tally there in
    let fewer = total-set (λ (u : Tally). u.taken) (slice_set views id (sum_of v w)) other w no_tally there in
    let is = h.is in
    record { one = h.one; over = h.over; under = h.under; is = omega (arith, added, taken, less, fewer, is) }

module _ (views : List Notes) (id : ℕ) (v : Notes) (at : get_elem? views id ≡ some v) where
  -- a note was given
  pub notes : (was : Bool) → HasNoted was views → HasNoted true (slice_set views id (with_note v))
  notes was h =
      let given = total-set (λ (u : Notes). u.given) views id v (with_note v) at in
      let parks = total-set (λ (u : Notes). u.parks) views id v (with_note v) at in
      by was h given parks
    where
      by : (was : Bool) → HasNoted was views
          → tally_sum (λ (u : Notes). u.given) (slice_set views id (with_note v)) + v.given ≡ tally_sum (λ (u : Notes). u.given) views + (v.given + 1)
          → tally_sum (λ (u : Notes). u.parks) (slice_set views id (with_note v)) + v.parks ≡ tally_sum (λ (u : Notes). u.parks) views + v.parks
          → HasNoted true (slice_set views id (with_note v))
      by true h given parks = omega (arith, h, given, parks)
      by false h given parks = omega (arith, h, given, parks)

  -- it was taken by a park
  pub parks : HasNoted true views → HasNoted false (slice_set views id (with_park v))
  parks h =
      let given = total-set (λ (u : Notes). u.given) views id v (with_park v) at in
      let made = total-set (λ (u : Notes). u.parks) views id v (with_park v) at in
      omega (arith, h, given, made)

  -- a pass with nothing in it was split off
  pub forks : (was : Bool) → HasNoted was views → HasNoted was (slice_set views id v ++ record { given = 0; parks = 0 } ∷ [])
  forks was h =
      let given = total-set (λ (u : Notes). u.given) views id v v at in
      let made = total-set (λ (u : Notes). u.parks) views id v v at in
      let more = total-last (λ (u : Notes). u.given) (slice_set views id v) (record { given = 0; parks = 0 }) in
      let fewer = total-last (λ (u : Notes). u.parks) (slice_set views id v) (record { given = 0; parks = 0 }) in
      omega (arith, h, given, made, more, fewer)
