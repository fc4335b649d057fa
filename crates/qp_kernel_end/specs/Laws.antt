-- What the outcome of a journal is.
use Rattle.std.specs.Prelude.{◌≡◌, List}
use Rattle.qp_model.specs.declared.journals.Journal.{Journal}
use Rattle.qp_model.specs.declared.stimulus.Stim.{Stim}
use Rattle.qp_model.specs.declared.systems.System.{System}
use Rattle.qp_model.specs.Lawful.{Lawful}
use Rattle.qp_kernel_end.specs.Outcome.{end_by, outcome_of}

-- a lawful journal states the end of its outcome
abbrev pub OutcomeIsTheEnd : Type 0
OutcomeIsTheEnd = (sys : System) (stimuli : List (List Stim)) (j : Journal) → Lawful sys stimuli j → end_by (outcome_of j) ≡ j.end
