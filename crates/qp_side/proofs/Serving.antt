-- Which objects a seat serves that was given, and which are left; what a system has room for.
use Rattle.std.proofs.Common.{◌≡◌, ℕ, ◌+◌, ◌-◌, ◌&&◌, ◌||◌, not, Bool, true, false, cond, eqb, eqb-true, true≢false, List, [], ◌∷◌, IsTrue, refl, sym, ap, ◌∙◌, arith}
use Rattle.std.specs.Int.{bit_at}
use Rattle.std.specs.List.{list_any}
use Rattle.qp_model.specs.declared.systems.System.{System}
use Rattle.qp_model.specs.Sound.{IsSound}
use Rattle.qp_model.specs.WordLaw.{is_object}
use Rattle.qp_table.specs.Counting.{many}
use Rattle.qp_table.specs.Rule.{is_serve}
use Rattle.qp_table.specs.After.{passing, failing}
use Rattle.qp_table.specs.First.{first_serves}
use Rattle.qp_table.specs.declared.view.Serve.{Serve}
use Rattle.qp_table.proofs.Start.{object-within, serves-once}
use Rattle.qp_side.specs.Seats.{in_set}
use Rattle.qp_side.specs.Rule.{SideFitting}
use Rattle.qp_side.specs.Seat.{is_in}

pub fitting-of : (sys : System) → IsSound sys → SideFitting sys
fitting-of sys sound = record {
  few_signals = sound.few_signals;
  few_timers = sound.few_timers;
  objects = λ o h. let w = object-within sys sound o h in (w.0, w.1);
}

any-none : (o : ℕ) (xs : List Serve) → many (is_serve o) xs ≡ 0 → list_any (is_serve o) xs ≡ false
any-none o [] e = refl
any-none o (x ∷ xs) e = go (is_serve o x) e (any-none o xs)
  where
    go : (b : Bool) → cond {A = ℕ} b 1 0 + many (is_serve o) xs ≡ 0 → (many (is_serve o) xs ≡ 0 → list_any (is_serve o) xs ≡ false) → (b || list_any (is_serve o) xs) ≡ false
    go true z r = absurd (omega arith)
    go false z r = r (omega arith)

any-some : (o : ℕ) (xs : List Serve) → many (is_serve o) xs ≡ 1 → list_any (is_serve o) xs ≡ true
any-some o [] e = absurd (omega arith)
any-some o (x ∷ xs) e = go (is_serve o x) e (any-some o xs)
  where
    go : (b : Bool) → cond {A = ℕ} b 1 0 + many (is_serve o) xs ≡ 1 → (many (is_serve o) xs ≡ 1 → list_any (is_serve o) xs ≡ true) → (b || list_any (is_serve o) xs) ≡ true
    go true z r = refl
    go false z r = r (omega arith)

-- the root serves every object at first
pub all-served : (sys : System) → IsSound sys → (o : ℕ) → list_any (is_serve o) (first_serves sys 32) ≡ is_object sys o
all-served sys sound o = go (is_object sys o) (serves-once sys sound o)
  where
    go : (b : Bool) → many (is_serve o) (first_serves sys 32) ≡ cond {A = ℕ} b 1 0 → list_any (is_serve o) (first_serves sys 32) ≡ b
    go true e = any-some o (first_serves sys 32) e
    go false e = any-none o (first_serves sys 32) e

-- of the objects of a set, and of all others
module _ (set o : ℕ) where
  same-bit : (x : Serve) → is_serve o x ≡ true → in_set set x ≡ is_in set o
  same-bit x is = ap (λ z. eqb (bit_at set (z - 1)) 1) (eqb-true x.object o is)

  pub given-serves : (xs : List Serve) → list_any (is_serve o) (passing (in_set set) xs) ≡ (list_any (is_serve o) xs && is_in set o)
  given-serves [] = refl
  given-serves (x ∷ xs) = go (is_serve o x) refl (in_set set x) refl (is_in set o) refl (list_any (is_serve o) xs) (given-serves xs)
    where
      go : (b : Bool) → is_serve o x ≡ b → (t : Bool) → in_set set x ≡ t → (i : Bool) → is_in set o ≡ i → (a : Bool) → list_any (is_serve o) (passing (in_set set) xs) ≡ (a && i) → list_any (is_serve o) (cond t (x ∷ passing (in_set set) xs) (passing (in_set set) xs)) ≡ ((b || a) && i)
      go true b_is true t_is true i_is a r = ap (λ y. y || list_any (is_serve o) (passing (in_set set) xs)) b_is
      go true b_is true t_is false i_is a r = absurd (true≢false (sym t_is ∙ (same-bit x b_is ∙ i_is)))
      go true b_is false t_is true i_is a r = absurd (true≢false (sym i_is ∙ (sym (same-bit x b_is) ∙ t_is)))
      go true b_is false t_is false i_is true r = r
      go true b_is false t_is false i_is false r = r
      go false b_is true t_is i i_is a r = ap (λ y. y || list_any (is_serve o) (passing (in_set set) xs)) b_is ∙ r
      go false b_is false t_is i i_is a r = r

  pub left-serves : (xs : List Serve) → list_any (is_serve o) (failing (in_set set) xs) ≡ (list_any (is_serve o) xs && not (is_in set o))
  left-serves [] = refl
  left-serves (x ∷ xs) = go (is_serve o x) refl (in_set set x) refl (is_in set o) refl (list_any (is_serve o) xs) (left-serves xs)
    where
      go : (b : Bool) → is_serve o x ≡ b → (t : Bool) → in_set set x ≡ t → (i : Bool) → is_in set o ≡ i → (a : Bool) → list_any (is_serve o) (failing (in_set set) xs) ≡ (a && not i) → list_any (is_serve o) (cond t (failing (in_set set) xs) (x ∷ failing (in_set set) xs)) ≡ ((b || a) && not i)
      go true b_is false t_is false i_is a r = ap (λ y. y || list_any (is_serve o) (failing (in_set set) xs)) b_is
      go true b_is false t_is true i_is a r = absurd (true≢false (sym i_is ∙ (sym (same-bit x b_is) ∙ t_is)))
      go true b_is true t_is false i_is a r = absurd (true≢false (sym t_is ∙ (same-bit x b_is ∙ i_is)))
      go true b_is true t_is true i_is true r = r
      go true b_is true t_is true i_is false r = r
      go false b_is false t_is i i_is a r = ap (λ y. y || list_any (is_serve o) (failing (in_set set) xs)) b_is ∙ r
      go false b_is true t_is i i_is a r = r

  -- a seat serves just the objects of its set, where the root served them
  pub serves-set : (xs : List Serve) → (IsTrue (is_in set o) → IsTrue (list_any (is_serve o) xs)) → list_any (is_serve o) (passing (in_set set) xs) ≡ is_in set o
  serves-set xs had = given-serves xs ∙ go (is_in set o) had
    where
      go : (i : Bool) → (i ≡ true → list_any (is_serve o) xs ≡ true) → (list_any (is_serve o) xs && i) ≡ i
      go true h = ap (λ b. b && true) (h refl)
      go false h = off (list_any (is_serve o) xs)
        where
          off : (b : Bool) → (b && false) ≡ false
          off true = refl
          off false = refl
