-- Walks from a state outwards: after i turns of n, `path_of chart (n - i) at` is still to come.
use Rattle.std.proofs.Common.{◌≡◌, ◌≢◌, ℕ, zero, suc, ◌+◌, ◌-◌, ◌<◌, ◌≤◌, ◌==◌, Bool, true, false, List, [], ◌∷◌, ◌++◌, length, refl, sym, ◌∙◌, ap, Option, Some, None, arith, append_assoc, append-nil}
use Rattle.std.specs.List.{find}
use Rattle.std.proofs.lemmas.Bool.Decides.{nat_tests}
use Rattle.qp_chart.specs.declared.checked.State.{State}
use Rattle.qp_chart.specs.declared.checked.Chart.{Chart}
use Rattle.qp_chart.specs.StateTree.{has, parent_of, path_of, up}

-- at first the whole path
pub all-left : (chart : Chart) (items : List State) (s : ℕ) → items ≡ chart.state → path_of chart (length items - 0) (Some s) ≡ up chart s
unfolding up
all-left chart items s e = let fuel : length items - 0 ≡ length chart.state = omega (arith, ap length e) in ap (λ n. path_of chart n (Some s)) fuel

-- one state less
pub one-less : (chart : Chart) (n i s : ℕ) (at next : Option ℕ) → at ≡ Some s → next ≡ parent_of chart s → i < n
    → path_of chart (n - i) at ≡ s ∷ path_of chart (n - (i + 1)) next
unfolding path_of
one-less chart n i s at next is e h =
    let fuel : n - i ≡ suc (n - (i + 1)) = omega arith in
    ap (λ o. path_of chart (n - i) o) is ∙ ap (λ m. path_of chart m (Some s)) fuel ∙ ap (λ o. s ∷ path_of chart (n - (i + 1)) o) (sym e)

-- beyond the top nothing is left
pub top-left : (chart : Chart) (n : ℕ) (at : Option ℕ) → at ≡ None → path_of chart n at ≡ []
unfolding path_of
top-left chart n at is = ap (λ o. path_of chart n o) is ∙ by n
  where
    by : (m : ℕ) → path_of chart m None ≡ []
    by zero = refl
    by (suc m) = refl

-- nor after the last turn
pub none-left : (chart : Chart) (n i : ℕ) (at : Option ℕ) → n ≤ i → path_of chart (n - i) at ≡ []
unfolding path_of
none-left chart n i at h = let fuel : n - i ≡ 0 = omega arith in ap (λ m. path_of chart m at) fuel

-- the states so far, and those that are left
pub kept-more : (xs ys path rest whole : List ℕ) (s : ℕ) → ys ≡ xs ++ s ∷ [] → path ≡ s ∷ rest → xs ++ path ≡ whole → ys ++ rest ≡ whole
kept-more xs ys path rest whole s e is h = ap (λ zs. zs ++ rest) e ∙ append_assoc xs (s ∷ []) rest ∙ ap (λ zs. xs ++ zs) (sym is) ∙ h

pub kept-all : (xs path whole : List ℕ) → path ≡ [] → xs ++ path ≡ whole → xs ≡ whole
kept-all xs path whole is h = sym (append-nil xs) ∙ ap (λ zs. xs ++ zs) (sym is) ∙ h

-- whether a state is among those that are left
pub has-first : (path rest : List ℕ) (s y : ℕ) (whole : Bool) → path ≡ s ∷ rest → s ≡ y → has path y ≡ whole → true ≡ whole
has-first path rest s y whole is same h = sym here ∙ ap (λ zs. has zs y) (sym is) ∙ h
  where
    here : has (s ∷ rest) y ≡ true
    here = let b : (s == y) ≡ true = grind (arith, nat_tests) in rw b refl

pub has-later : (path rest : List ℕ) (s y : ℕ) (whole : Bool) → path ≡ s ∷ rest → s ≢ y → has path y ≡ whole → has rest y ≡ whole
has-later path rest s y whole is differ h = sym here ∙ ap (λ zs. has zs y) (sym is) ∙ h
  where
    here : has (s ∷ rest) y ≡ has rest y
    here = let b : (s == y) ≡ false = grind (arith, nat_tests) in rw b refl

-- the first of those left that passes a test
pub find-first : (p : ℕ → Bool) (path rest : List ℕ) (s : ℕ) (whole : Option ℕ) → path ≡ s ∷ rest → p s ≡ true → find p path ≡ whole → Some s ≡ whole
find-first p path rest s whole is passed h = sym here ∙ ap (λ zs. find p zs) (sym is) ∙ h
  where
    here : find p (s ∷ rest) ≡ Some s
    here = rw passed refl

pub find-later : (p : ℕ → Bool) (path rest : List ℕ) (s : ℕ) (whole : Option ℕ) → path ≡ s ∷ rest → p s ≡ false → find p path ≡ whole → find p rest ≡ whole
find-later p path rest s whole is failed h = sym here ∙ ap (λ zs. find p zs) (sym is) ∙ h
  where
    here : find p (s ∷ rest) ≡ find p rest
    here = rw failed refl

-- what an empty rest gives is the whole
pub at-end : {X : Type 0} (f : List ℕ → X) (path : List ℕ) (whole : X) → path ≡ [] → f path ≡ whole → f [] ≡ whole
at-end f path whole is h = ap f (sym is) ∙ h
