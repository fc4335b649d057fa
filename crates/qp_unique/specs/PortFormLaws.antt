-- Which journals can be written.
use Rattle.std.specs.Prelude.{◌≡◌, ◌<◌, ◌≤◌, List, length}
use Rattle.qp_model.specs.declared.journals.Journal.{Journal}
use Rattle.qp_model.specs.declared.stimulus.Stim.{Stim}
use Rattle.qp_model.specs.declared.systems.System.{System}
use Rattle.qp_model.specs.Kernels.{port}
use Rattle.qp_model.specs.Lawful.{Lawful}
use Rattle.qp_model.specs.Sound.{IsSound}
use Rattle.qp_model.specs.Limits.{budget_limit}
use Rattle.qp_unique.specs.FormLaws.{CanBeWritten}

-- a lawful journal of `port`, of at most 16 sources and with a budget of 1 to 1,000,000, can be written in form 1, and so in form 2, which knows all that form 1 knows
abbrev pub PortHasForms : Type 0
PortHasForms =
    (sys : System) (stimuli : List (List Stim)) (j : Journal) → IsSound sys → length stimuli ≤ 16 → j.kernel ≡ port → 0 < j.budget → j.budget ≤ budget_limit → Lawful sys stimuli j
    → CanBeWritten 1 j
