-- Paths that reach the top make a tree.
use Rattle.std.proofs.Common.{◌≡◌, ℕ, zero, suc, [], ◌∷◌, length, refl, sym, ◌∙◌, ap, subst, Option, Some, None}
use Rattle.qp_chart.specs.declared.checked.Chart.{Chart}
use Rattle.qp_chart.specs.StateTree.{parent_of, path_of, up, outer, IsTree}
use Rattle.qp_chart.specs.TreeLaws.{PathsThatEndAreTrees, MainStateIsNearest, ExitsWalkOut}
use Rattle.qp_chart.proofs.MainStateLemmas.{main_state-nearest, exited-self, exited-next}

path_of-none : (chart : Chart) (n : ℕ) → path_of chart n None ≡ []
unfolding path_of
path_of-none chart zero = refl
path_of-none chart (suc n) = refl

-- a path that reached the top stays when it may be longer
path_of-more : (chart : Chart) (n : ℕ) (s : Option ℕ) → outer chart n s ≡ None → path_of chart (suc n) s ≡ path_of chart n s
unfolding path_of outer
path_of-more chart zero None h = refl
path_of-more chart zero (Some s) h = absurd (cc)
path_of-more chart (suc n) None h = refl
path_of-more chart (suc n) (Some s) h = ap (λ path. s ∷ path) (path_of-more chart n (parent_of chart s) h)

module _ (chart : Chart) (n : ℕ) where
  -- a path of suc n places
  path-top : (s : ℕ) → parent_of chart s ≡ None → path_of chart (suc n) (Some s) ≡ s ∷ []
  unfolding path_of
  path-top s e = rw e (ap (λ path. s ∷ path) (path_of-none chart n))

  path-inner : (s p : ℕ) → parent_of chart s ≡ Some p → outer chart (suc n) (Some s) ≡ None → path_of chart (suc n) (Some s) ≡ s ∷ path_of chart (suc n) (Some p)
  unfolding path_of outer
  path-inner s p e ends =
      let ended : outer chart n (Some p) ≡ None = subst (λ x. outer chart n x ≡ None) e ends in
      ap (λ x. s ∷ path_of chart n x) e ∙ ap (λ path. s ∷ path) (sym (path_of-more chart n (Some p) ended))

no_states : (chart : Chart) → outer chart 0 (Some 0) ≡ None → ⊥
unfolding outer
no_states chart h = cc

pub paths_that_end_are_trees : PathsThatEndAreTrees
unfolding PathsThatEndAreTrees up
paths_that_end_are_trees chart ends = by (length chart.state) refl
  where
    by : (n : ℕ) → length chart.state ≡ n → IsTree chart
    by zero is = absurd (no_states chart (subst (λ k. outer chart k (Some 0) ≡ None) is (ends 0)))
    by (suc n) is = record {
      top = λ s e. subst (λ k. path_of chart k (Some s) ≡ s ∷ []) (sym is) (path-top chart n s e);
      inner = λ s p e.
          subst (λ k. path_of chart k (Some s) ≡ s ∷ path_of chart k (Some p)) (sym is)
          (path-inner chart n s p e (subst (λ k. outer chart k (Some s) ≡ None) is (ends s)));
    }

pub main_state_is_nearest : MainStateIsNearest
unfolding MainStateIsNearest
main_state_is_nearest chart tree s t differ = main_state-nearest chart tree s t differ

pub exits_walk_out : ExitsWalkOut
unfolding ExitsWalkOut
exits_walk_out chart tree m = record { none = exited-self chart tree m; next = λ s p e h differ. exited-next chart tree m s p e h differ }
