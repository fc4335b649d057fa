-- The lane of a source, stimulus by stimulus.
use Rattle.std.proofs.Common.{◌≡◌, ℕ, suc, ◌+◌, Bool, true, false, List, [], ◌∷◌, ◌++◌, length, refl, sym, ◌∙◌, ap, subst, inl, inr, arith, append_assoc, append-nil}
use Rattle.std.specs.Prelude.{◌≢◌}
use Rattle.qp_model.specs.declared.stimulus.Stim.{Stim}
use Rattle.qp_model.specs.declared.stimulus.Stim.TheVariants as stim
use Rattle.qp_model.specs.declared.systems.System.{System}
use Rattle.qp_model.specs.declared.bodies.Body.TheVariants as body
use Rattle.qp_model.specs.Told.{Told, plain}
use Rattle.qp_model.specs.Sources.{StimFits, EndsIn, SourceEnd, AllDone, BeforeStimulus, AtAssert, InStimulus, look_may, SourceRuns}

module _ (sys : System) (kernel : ℕ) where
  none-done : (s : Stim) (g : List Told) → EndsIn sys kernel s AllDone g → ⊥
  unfolding EndsIn
  none-done stim.Settle g h = h
  none-done (stim.Post to ev margin reserve) g h = h
  none-done (stim.Publish ev reserve) g h = h
  none-done (stim.Tick rate) g h = h

  ends-asserted : (s : Stim) (one : List Told) → StimFits sys kernel s true one → EndsIn sys kernel s AtAssert one
  unfolding EndsIn
  ends-asserted stim.Settle one h = h
  ends-asserted (stim.Post to ev margin reserve) one h = h
  ends-asserted (stim.Publish ev reserve) one h = h
  ends-asserted (stim.Tick rate) one h = h

  ends-cut : (s : Stim) (one back : List Told) (asserted : Bool) → back ≢ [] → StimFits sys kernel s asserted (one ++ back) → EndsIn sys kernel s InStimulus one
  unfolding EndsIn
  ends-cut stim.Settle one back asserted some h = (back, some, asserted, h)
  ends-cut (stim.Post to ev margin reserve) one back asserted some h = (back, some, asserted, h)
  ends-cut (stim.Publish ev reserve) one back asserted some h = (back, some, asserted, h)
  ends-cut (stim.Tick rate) one back asserted some h = (back, some, asserted, h)

  -- whole stimuli, and what comes behind them
  pub runs-append : (k : ℕ) (done left : List Stim) (end : SourceEnd) (g h : List Told) → SourceRuns sys kernel k done AllDone g → SourceRuns sys kernel (k + length done) left end h
      → SourceRuns sys kernel k (done ++ left) end (g ++ h)
  unfolding SourceRuns
  runs-append k [] left end g h whole more =
      let zero_more : k + 0 ≡ k = omega arith in
      rw whole.0 (subst (λ n. SourceRuns sys kernel n left end h) zero_more more)
  runs-append k (s ∷ done) left end g h (inl (none, wrong)) more = absurd (cc)
  runs-append k (s ∷ done) left end g h (inr (inl (look, one, is, may, ends))) more = absurd (none-done s one ends)
  runs-append k (s ∷ done) left end g h (inr (inr (look, one, rest, is, may, fits, others))) more =
      let next : k + suc (length done) ≡ (k + 1) + length done = omega arith in
      inr (inr (
        look,
        one,
        rest ++ h,
        ap (λ x. x ++ h) is ∙ ap (λ x. plain (body.Stim k look) ∷ x) (append_assoc one rest h),
        may,
        fits,
        runs-append (k + 1) done left end rest h others (subst (λ n. SourceRuns sys kernel n left end h) next more),
      ))

  -- nothing has been done yet
  pub runs-new : SourceRuns sys kernel 1 [] AllDone []
  unfolding SourceRuns
  runs-new = (refl, refl)

  module _ (done : List Stim) (g : List Told) (whole : SourceRuns sys kernel 1 done AllDone g) (s : Stim) (left : List Stim) where
    -- a whole stimulus comes
    pub runs-stimulus : (look : ℕ) (one : List Told) → look_may kernel look ≡ true → StimFits sys kernel s false one
        → SourceRuns sys kernel 1 (done ++ s ∷ []) AllDone (g ++ plain (body.Stim (1 + length done) look) ∷ one)
    unfolding SourceRuns
    runs-stimulus look one may fits =
        runs-append 1 done (s ∷ []) AllDone g (plain (body.Stim (1 + length done) look) ∷ one) whole
        (inr (inr (look, one, [], ap (λ x. plain (body.Stim (1 + length done) look) ∷ x) (sym (append-nil one)), may, fits, (refl, refl))))

    -- the lane stops before it
    pub runs-before : SourceRuns sys kernel 1 (done ++ s ∷ left) BeforeStimulus g
    unfolding SourceRuns
    runs-before = subst (λ x. SourceRuns sys kernel 1 (done ++ s ∷ left) BeforeStimulus x) (append-nil g) (runs-append 1 done (s ∷ left) BeforeStimulus g [] whole (inl (refl, refl)))

    -- it ends in its assertion
    pub runs-asserted : (look : ℕ) (one : List Told) → look_may kernel look ≡ true → StimFits sys kernel s true one
        → SourceRuns sys kernel 1 (done ++ s ∷ left) AtAssert (g ++ plain (body.Stim (1 + length done) look) ∷ one)
    unfolding SourceRuns
    runs-asserted look one may fits =
        runs-append 1 done (s ∷ left) AtAssert g (plain (body.Stim (1 + length done) look) ∷ one) whole (inr (inl (look, one, refl, may, ends-asserted s one fits)))

    -- a `spill` cuts it
    pub runs-cut : (look : ℕ) (one back : List Told) (asserted : Bool) → look_may kernel look ≡ true → back ≢ [] → StimFits sys kernel s asserted (one ++ back)
        → SourceRuns sys kernel 1 (done ++ s ∷ left) InStimulus (g ++ plain (body.Stim (1 + length done) look) ∷ one)
    unfolding SourceRuns
    runs-cut look one back asserted may some fits =
        runs-append 1 done (s ∷ left) InStimulus g (plain (body.Stim (1 + length done) look) ∷ one) whole (inr (inl (look, one, refl, may, ends-cut s one back asserted some fits)))
