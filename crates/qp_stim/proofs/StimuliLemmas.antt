-- The sources of a text, line by line.
use Rattle.std.proofs.Common.{◌≡◌, ℕ, ◌+◌, List, [], ◌∷◌, ◌++◌, length, Ok, Err, refl, ap}
use Rattle.std.specs.declared.result.Result.{Result}
use Rattle.qp_model.specs.declared.stimulus.Stim.{Stim}
use Rattle.qp_stim.specs.declared.verdict.LineStep.{LineStep}
use Rattle.qp_stim.specs.Names.{Dictionary}
use Rattle.qp_stim.specs.Codes.{step_of}
use Rattle.qp_stim.specs.Stimuli.{add_to_last, sources_after, fails_at, read_on}
use Rattle.qp_model.specs.Results.{◌>>=◌}

pub add_to_last-last : (s : Stim) (sources : List (List Stim)) (last : List Stim) → add_to_last s (sources ++ last ∷ []) ≡ sources ++ (last ++ s ∷ []) ∷ []
add_to_last-last s [] last = refl
add_to_last-last s (x ∷ []) last = refl
add_to_last-last s (x ∷ y ∷ xs) last = ap (λ l. x ∷ l) (add_to_last-last s (y ∷ xs) last)

-- a line that is refused
pub read_on-Err : (names : Dictionary) (n : ℕ) (sources : List (List Stim)) (text : List ℕ) (more : List (List ℕ)) (code : ℕ)
    → step_of names (length sources) text ≡ Err code → read_on names n sources (text ∷ more) ≡ Err (record { line = n; code = code })
unfolding read_on
read_on-Err names n sources text more code h =
    ap (λ (r : Result LineStep ℕ). fails_at n r >>= λ step. read_on names (n + 1) (sources_after sources step) more) h

-- a line that isn't
pub read_on-Ok : (names : Dictionary) (n : ℕ) (sources : List (List Stim)) (text : List ℕ) (more : List (List ℕ)) (step : LineStep)
    → step_of names (length sources) text ≡ Ok step → read_on names n sources (text ∷ more) ≡ read_on names (n + 1) (sources_after sources step) more
unfolding read_on
read_on-Ok names n sources text more step h =
    ap (λ (r : Result LineStep ℕ). fails_at n r >>= λ s. read_on names (n + 1) (sources_after sources s) more) h

-- the end of the text
pub read_on-end : (names : Dictionary) (n : ℕ) (sources : List (List Stim)) → read_on names n sources [] ≡ Ok sources
unfolding read_on
read_on-end names n sources = refl
