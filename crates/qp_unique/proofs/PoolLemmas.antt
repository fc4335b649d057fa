-- A block that is given out is one of its pool.
use Rattle.std.proofs.Common.{◌≡◌, ℕ, zero, suc, ◌+◌, ◌<◌, ◌≤◌, ◌==◌, nat_lt, Bool, true, false, not, ◌&&◌, cond, List, [], ◌∷◌, ◌++◌, subst, arith}
use Rattle.std.proofs.lemmas.Bool.{and_parts}
use Rattle.std.proofs.lemmas.Bool.Decides.{nat_tests}
use Rattle.std.specs.List.{AllByRecursion}
use Rattle.qp_chart.specs.StateTree.{has}
use Rattle.qp_model.specs.declared.bodies.Body.{Body}
use Rattle.qp_model.specs.declared.bodies.Body.TheVariants.{New, Back}
use Rattle.qp_model.specs.Record.{Item}
use Rattle.qp_model.specs.Lists.{count_up, without_all, with_number, is_first}
use Rattle.qp_model.specs.Machine.{allowed_from, is_allowed}
use Rattle.qp_model.specs.FreeBlocks.{Pool, pool_next, pool_may, free_blocks}

-- a pool of so many blocks
module _ (size : ℕ) where
  abbrev AllBelow : List ℕ → Type 0
  AllBelow bs = AllByRecursion (λ b. b < size) bs

  counted-below : (from n : ℕ) → from + n ≤ size → AllBelow (count_up from n)
  counted-below from zero h = tt
  counted-below from (suc n) h = (omega (arith, h), counted-below (from + 1) n (omega (arith, h)))

  without-below : (b : ℕ) (bs : List ℕ) → AllBelow bs → AllBelow (without_all b bs)
  without-below b [] h = tt
  without-below b (c ∷ bs) h = by (c == b) (without-below b bs h.1)
    where
      by : (same : Bool) → AllBelow (without_all b bs) → AllBelow (cond same (without_all b bs) (c ∷ without_all b bs))
      by true later = later
      by false later = (h.0, later)

  with-below : (b : ℕ) (bs : List ℕ) → b < size → AllBelow bs → AllBelow (with_number b bs)
  with-below b [] lt h = (lt, tt)
  with-below b (c ∷ bs) lt h = by (nat_lt b c) (b == c) (with-below b bs lt h.1)
    where
      by : (below same : Bool) → AllBelow (with_number b bs) → AllBelow (cond below (b ∷ c ∷ bs) (cond same (c ∷ bs) (c ∷ with_number b bs)))
      by true same later = (lt, h)
      by false true later = h
      by false false later = (h.0, later)

  first-below : (b : ℕ) (bs : List ℕ) → AllBelow bs → is_first b bs ≡ true → b < size
  first-below b [] h first = absurd (cc)
  first-below b (c ∷ bs) h first = let test : (c == b) ≡ true = first in let same : c ≡ b = grind (arith, nat_tests) in subst (λ x. x < size) same h.0

  pub back-below : (s : Pool) (p n b to : ℕ) → pool_may size s (Back p n b to) ≡ true → b < size
  back-below s p n b to may =
      let test : ((n == s.count) && nat_lt b size && not (has s.free b)) ≡ true = may in
      let lt : nat_lt b size ≡ true = (and_parts _ _ (and_parts _ _ test).0).1 in
      grind (arith, nat_tests)

  step-below : (s : Pool) (body : Body) → AllBelow s.free → pool_may size s body ≡ true → AllBelow (pool_next s body).free
  step-below s (New p n b from sig pars) h may = without-below b s.free h
  step-below s (Back p n b to) h may = with-below b s.free (back-below s p n b to may) h
  step-below s body h may = h

  module _ (o p n b from sig : ℕ) (pars : List ℕ) (later : List Item) where
    given-from : (s : Pool) (before : List Item) → AllBelow s.free
        → allowed_from (free_blocks size) s (before ++ record { of = o; body = New p n b from sig pars } ∷ later) ≡ true → b < size
    unfolding allowed_from
    given-from s [] h allowed = first-below b s.free h ((and_parts _ _ (and_parts _ _ allowed).0).1)
    given-from s (i ∷ is) h allowed = let parts = and_parts _ _ allowed in given-from (pool_next s i.body) is (step-below s i.body h parts.0) parts.1

    pub given-below : (before : List Item) → is_allowed (free_blocks size) (before ++ record { of = o; body = New p n b from sig pars } ∷ later) ≡ true → b < size
    unfolding is_allowed
    given-below before allowed = given-from (free_blocks size).first before (counted-below 0 size (omega arith)) allowed
