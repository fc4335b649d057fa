-- What it means that no definition fails, and that a journal has one verdict.
use Rattle.std.specs.Prelude.{◌≡◌, ◌<◌, ◌↔◌, List}
use Rattle.std.specs.List.{AllByRecursion}
use Rattle.qp_model.specs.declared.systems.System.{System}
use Rattle.qp_model.specs.declared.stimulus.Stim.{Stim}
use Rattle.qp_model.specs.declared.journals.Journal.{Journal}
use Rattle.qp_model.specs.Lawful.{Lawful}
use Rattle.qp_check_words.specs.declared.verdict.Verdict.{Verdict}
use Rattle.qp_check.specs.Judged.{AllHold, IsVerdict, trials}

-- Where objects are numbered by bytes, no definition fails at any site exactly where the journal is lawful.
abbrev pub LawfulWhereNoneFails : Type 0
LawfulWhereNoneFails =
    (sys : System) (stimuli : List (List Stim)) (j : Journal) → AllByRecursion (λ d. d.priority < 256) sys.objects
    → AllHold (trials sys stimuli j) ↔ Lawful sys stimuli j

-- A journal has one verdict.
abbrev pub VerdictsAreOne : Type 0
VerdictsAreOne =
    (sys : System) (stimuli : List (List Stim)) (j : Journal) (v w : Verdict) → IsVerdict (trials sys stimuli j) v → IsVerdict (trials sys stimuli j) w → v ≡ w
