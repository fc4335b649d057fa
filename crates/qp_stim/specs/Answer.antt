-- What a reader of stimuli answers.
use Rattle.std.specs.Prelude.{◌≡◌, List, Ok, Err, ⊤}
use Rattle.std.specs.declared.result.Result.{Result}
use Rattle.qp_model.specs.declared.stimulus.Stim.{Stim}
use Rattle.qp_stim.specs.declared.fault.StimFault.{StimFault}
use Rattle.qp_stim.specs.declared.fault.StimFault.TheVariants.{Memory, Line}
use Rattle.qp_stim.specs.Stimuli.{FaultLine}

abbrev pub FaultIs : StimFault → Result (List (List Stim)) FaultLine → Type 0
FaultIs Memory text = ⊤
FaultIs (Line number code) text = text ≡ Err (record { line = number; code = code })

-- the stimuli of the text or its first fault, unless memory ran out
abbrev pub StimuliAnswers : Result (List (List Stim)) StimFault → Result (List (List Stim)) FaultLine → Type 0
StimuliAnswers (Ok stimuli) text = text ≡ Ok stimuli
StimuliAnswers (Err fault) text = FaultIs fault text
