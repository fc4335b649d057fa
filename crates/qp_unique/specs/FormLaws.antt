-- Which journals can be written.
use Rattle.std.specs.Prelude.{◌≡◌, ℕ, ◌<◌, ◌≤◌, true, List, length}
use Rattle.qp_model.specs.declared.journals.Journal.{Journal}
use Rattle.qp_model.specs.declared.stimulus.Stim.{Stim}
use Rattle.qp_model.specs.declared.systems.System.{System}
use Rattle.qp_model.specs.Kernels.{sim, qk, qv}
use Rattle.qp_model.specs.Lawful.{Lawful}
use Rattle.qp_model.specs.Output.{has_form, is_in_range}
use Rattle.qp_model.specs.Sound.{IsSound}
use Rattle.qp_model.specs.Limits.{budget_limit}

-- a journal that has this form and is in range for it, so that it has a text and frames
pub record CanBeWritten (form : ℕ) (j : Journal) : Type 0 where
  pub has : has_form form j ≡ true
  pub range : is_in_range form j ≡ true

-- a lawful journal of `sim`, of at most 16 sources and with a budget of 1 to 1,000,000, can be written in form 1, and so in form 2, which knows all that form 1 knows
abbrev pub SimHasForms : Type 0
SimHasForms =
    (sys : System) (stimuli : List (List Stim)) (j : Journal) → IsSound sys → length stimuli ≤ 16 → j.kernel ≡ sim → 0 < j.budget → j.budget ≤ budget_limit → Lawful sys stimuli j
    → CanBeWritten 1 j

-- and so can one of `qk`
abbrev pub QkHasForms : Type 0
QkHasForms =
    (sys : System) (stimuli : List (List Stim)) (j : Journal) → IsSound sys → length stimuli ≤ 16 → j.kernel ≡ qk → 0 < j.budget → j.budget ≤ budget_limit → Lawful sys stimuli j
    → CanBeWritten 1 j

-- and one of `qv` in form 2
abbrev pub QvHasForm : Type 0
QvHasForm =
    (sys : System) (stimuli : List (List Stim)) (j : Journal) → IsSound sys → length stimuli ≤ 16 → j.kernel ≡ qv → 0 < j.budget → j.budget ≤ budget_limit → Lawful sys stimuli j
    → CanBeWritten 2 j
