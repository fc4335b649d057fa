-- The rule of the count.
use Rattle.std.specs.Prelude.{◌≡◌, ℕ, ◌+◌, ◌*◌, ◌^◌, ◌==◌, Bool, if◌then◌else◌, List, [], ◌∷◌, length, slice_index}
use Rattle.qp_wait_bells.specs.declared.tally.Tally.{Tally}

-- f of each, added up
abbrev pub tally_sum : {V : Type 0} → (V → ℕ) → List V → ℕ
tally_sum f [] = 0
tally_sum f (v ∷ vs) = f v + tally_sum f vs

abbrev pub one_where : Bool → ℕ
one_where b = if b then 1 else 0

-- a seat without a step
abbrev pub no_tally : Tally
no_tally = record { added = 0; taken = 0; empty_looks = 0; last_takes = 0 }

abbrev pub with_added : ℕ → Tally → Tally
with_added n v = record v { added = v.added + n }

-- one was taken off where n were on the count
abbrev pub with_taken : ℕ → Tally → Tally
with_taken n v = record v { taken = v.taken + 1; last_takes = v.last_takes + one_where (n == 1) }

-- a look found n there
abbrev pub look_found : ℕ → Tally → Tally
look_found n v = record v { empty_looks = v.empty_looks + one_where (n == 0) }

abbrev pub sum_of : Tally → Tally → Tally
sum_of v w = record { added = v.added + w.added; taken = v.taken + w.taken; empty_looks = v.empty_looks + w.empty_looks; last_takes = v.last_takes + w.last_takes }

-- The word is all that was added less all that was taken off, modulo 2^64.
pub record IsTallied (words : List ℕ) (views : List Tally) : Type 0 where
  pub one : length words ≡ 1
  pub over : ℕ
  pub under : ℕ
  pub is : slice_index words 0 + tally_sum (λ v. v.taken) views + over * 2 ^ 64 ≡ tally_sum (λ v. v.added) views + under * 2 ^ 64
