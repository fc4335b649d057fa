-- The system and the stimuli that one number makes.
use Rattle.std.specs.Prelude.{◌≡◌, ℕ, List, Ok}
use Rattle.qp_model.specs.declared.stimulus.Stim.{Stim}
use Rattle.qp_model.specs.declared.systems.System.{System}
use Rattle.qp_model.specs.Sound.{IsSound}
use Rattle.qp_stim.specs.Rules.{StimuliFit}
use Rattle.qp_stim.specs.Stimuli.{stimuli_of}
use Rattle.qp_system.specs.SystemOf.{IsSystemOf}
use Rattle.qp_system.specs.Files.{system_text, stimuli_text}

-- They are those of the two files. So the system meets the rules of system files, and the stimuli fit it.
pub record IsMade (n : ℕ) (sys : System) (stimuli : List (List Stim)) : Type 0 where
  pub system : IsSystemOf system_text sys
  pub sound : IsSound sys
  pub sources : stimuli_of sys (stimuli_text n) ≡ Ok stimuli
  pub fit : StimuliFit sys stimuli
