-- What the two kernels of one thread have in common.
use Rattle.std.proofs.Common.{◌≡◌, ℕ, ◌+◌, ◌==◌, Bool, true, false, ◌||◌, cond, List, [], ◌∷◌, refl, sym, ◌∙◌, ap, subst, inl, inr, arith}
use Rattle.std.specs.Prelude.{◌⊎◌}
use Rattle.std.proofs.lemmas.Bool.Decides.{nat_tests}
use Rattle.qp_model.specs.declared.stimulus.Stim.{Stim}
use Rattle.qp_model.specs.declared.stimulus.Stim.TheVariants as stim
use Rattle.qp_model.specs.declared.systems.System.{System}
use Rattle.qp_model.specs.Kernels.{sim, qk, port, qv, has_one_order}
use Rattle.qp_model.specs.Sources.{Settles, StimFits, SourceEnd, EndsIn, SourceRuns}
use Rattle.qp_model.specs.Told.{Told}
use Rattle.qp_kernel.specs.Turning.{Terms, kernel_in}
use Rattle.qp_kernel.specs.ZeroEnds.{most_rows}

one-order_is : (kernel : ℕ) → has_one_order kernel ≡ true → (kernel ≡ sim) ⊎ (kernel ≡ qv)
one-order_is kernel one = by (kernel == sim) refl
  where
    by : (b : Bool) → (kernel == sim) ≡ b → (kernel ≡ sim) ⊎ (kernel ≡ qv)
    by true e = inl (grind (arith, nat_tests, e))
    by false e = let other : (kernel == qv) ≡ true = ap (λ b. b || (kernel == qv)) (sym e) ∙ one in inr (grind (arith, nat_tests, other))

pub one-order_no-port : (kernel : ℕ) → has_one_order kernel ≡ true → (kernel == port) ≡ false
one-order_no-port kernel one = by (one-order_is kernel one)
  where
    by : (kernel ≡ sim) ⊎ (kernel ≡ qv) → (kernel == port) ≡ false
    by (inl e) = rw e refl
    by (inr e) = rw e refl

-- a run whose sources have no threads is under one of them
pub one-order : (terms : Terms) → terms.threaded ≡ false → has_one_order (kernel_in terms) ≡ true
one-order terms single = rw single (by terms.cooperative)
  where
    by : (b : Bool) → ((cond b qv sim == sim) || (cond b qv sim == qv)) ≡ true
    by true = refl
    by false = refl

-- and at most one row at the base has no step
pub one-row : (terms : Terms) (idle : ℕ) → terms.threaded ≡ false → most_rows (kernel_in terms) idle ≡ 1
one-row terms idle single = rw single (by terms.cooperative)
  where
    by : (b : Bool) → cond (cond b qv sim == qk) idle 1 ≡ 1
    by true = refl
    by false = refl

-- lane 0 is read under them
pub one-order_kernel : (kernel : ℕ) → has_one_order kernel ≡ true → ((kernel == sim) || (kernel == qk) || (kernel == qv)) ≡ true
one-order_kernel kernel one = by (one-order_is kernel one)
  where
    by : (kernel ≡ sim) ⊎ (kernel ≡ qv) → ((kernel == sim) || (kernel == qk) || (kernel == qv)) ≡ true
    by (inl e) = rw e refl
    by (inr e) = rw e refl

-- The lane of a source is what it is under `sim`: no try of a `settle` stands in it, and a `stim` has its look's number.

fits-alike : (sys : System) (s : Stim) (asserted : Bool) (g : List Told) → StimFits sys sim s asserted g → StimFits sys qv s asserted g
unfolding StimFits Settles
fits-alike sys (stim.Post to ev margin reserve) asserted g h = h
fits-alike sys _ asserted g h = h

ends-alike : (sys : System) (s : Stim) (end : SourceEnd) (g : List Told) → EndsIn sys sim s end g → EndsIn sys qv s end g
unfolding EndsIn StimFits Settles
ends-alike sys (stim.Post to ev margin reserve) _ g h = h
ends-alike sys _ _ g h = h

runs-on : (sys : System) (k : ℕ) (ss : List Stim) (end : SourceEnd) (g : List Told) → SourceRuns sys sim k ss end g → SourceRuns sys qv k ss end g
unfolding SourceRuns
runs-on sys k [] end g h = h
runs-on sys k (s ∷ ss) end g (inl h) = inl h
runs-on sys k (s ∷ ss) end g (inr (inl h)) = inr (inl (h.0, h.1, h.2, h.3, ends-alike sys s end h.1 h.4))
runs-on sys k (s ∷ ss) end g (inr (inr h)) = inr (inr (h.0, h.1, h.2, h.3, h.4, fits-alike sys s false h.1 h.5, runs-on sys (k + 1) ss end h.2 h.6))

pub runs-alike : (sys : System) (kernel : ℕ) → has_one_order kernel ≡ true → (k : ℕ) (ss : List Stim) (end : SourceEnd) (g : List Told) → SourceRuns sys sim k ss end g → SourceRuns sys kernel k ss end g
runs-alike sys kernel one k ss end g h = by (one-order_is kernel one)
  where
    by : (kernel ≡ sim) ⊎ (kernel ≡ qv) → SourceRuns sys kernel k ss end g
    by (inl e) = subst (λ n. SourceRuns sys n k ss end g) (sym e) h
    by (inr e) = subst (λ n. SourceRuns sys n k ss end g) (sym e) (runs-on sys k ss end g h)
