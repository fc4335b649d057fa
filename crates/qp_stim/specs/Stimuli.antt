-- The stimuli of a text, or its first fault.
use Rattle.std.specs.Prelude.{ℕ, ◌+◌, List, [], ◌∷◌, ◌++◌, length, Ok, Err}
use Rattle.std.specs.declared.result.Result.{Result}
use Rattle.qp_model.specs.declared.stimulus.Stim.{Stim}
use Rattle.qp_model.specs.declared.systems.System.{System}
use Rattle.qp_stim.specs.declared.verdict.LineStep.{LineStep}
use Rattle.qp_stim.specs.declared.verdict.LineStep.TheVariants.{Skips, Opens, Adds}
use Rattle.qp_stim.specs.Parts.{lines}
use Rattle.qp_stim.specs.Names.{Dictionary, dictionary_of}
use Rattle.qp_stim.specs.Codes.{step_of}
use Rattle.qp_model.specs.Results.{◌>>=◌}

-- the first line with a code, and its lowest code
pub record FaultLine : Type 0 where
  pub line : ℕ
  pub code : ℕ

-- the last source has one more stimulus
abbrev pub add_to_last : Stim → List (List Stim) → List (List Stim)
add_to_last s [] = []
add_to_last s (source ∷ []) = (source ++ s ∷ []) ∷ []
add_to_last s (source ∷ next ∷ more) = source ∷ add_to_last s (next ∷ more)

-- the sources after a line
abbrev pub sources_after : List (List Stim) → LineStep → List (List Stim)
sources_after sources Skips = sources
sources_after sources Opens = sources ++ [] ∷ []
sources_after sources (Adds s) = add_to_last s sources

abbrev pub fails_at : {A : Type 0} → ℕ → Result A ℕ → Result A FaultLine
fails_at n (Ok x) = Ok x
fails_at n (Err code) = Err (record { line = n; code = code })

-- the sources after these lines, the first of which has number n
unfoldable pub read_on : Dictionary → ℕ → List (List Stim) → List (List ℕ) → Result (List (List Stim)) FaultLine
unfolding step_of
read_on names n sources [] = Ok sources
read_on names n sources (text ∷ more) = do
  step ← fails_at n (step_of names (length sources) text)
  read_on names (n + 1) (sources_after sources step) more

-- the sources of a text in order, or the first line with a code
unfoldable pub stimuli_of : System → List ℕ → Result (List (List Stim)) FaultLine
unfolding read_on
stimuli_of sys text = read_on (dictionary_of sys) 1 [] (lines text)
