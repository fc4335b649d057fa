-- What a call that writes a summary leaves in the sink.
use Rattle.std.specs.Prelude.{◌≡◌, ℕ, List, Option, Result, MatchResult}
use Rattle.std.specs.List.{flat_map}
use Rattle.qp_base.specs.Counts.{Rose}
use Rattle.qp_base.specs.Sink.{appended, AppendsPrefix}
use Rattle.qp_model.specs.declared.journals.Journal.{Journal}
use Rattle.qp_model.specs.declared.stimulus.Stim.{Stim}
use Rattle.qp_model.specs.declared.systems.System.{System}
use Rattle.qp_model.specs.Lawful.{Lawful}
use Rattle.qp_model.specs.OutputSummary.{IsSummary}
use Rattle.qp_summary.specs.declared.summary.SummaryFault.{SummaryFault}
use Rattle.qp_summary.specs.declared.summary.SummaryFault.TheVariants as fault

-- the journal is lawful for some stimuli
abbrev pub HasStimuli : System → Journal → Type 0
HasStimuli sys j = (stimuli : List (List Stim)) × Lawful sys stimuli j

-- lines one after another
abbrev pub lines_joined : List (List ℕ) → List ℕ
lines_joined lines = flat_map (λ line. line) lines

-- nothing was written where memory was refused; where a put failed its fault was counted, and the bytes are a front of the summary
unfoldable pub SummaryFails : SummaryFault → System → Journal → Option (List ℕ) → Option (List ℕ) → ℕ → ℕ → Type 0
unfolding IsSummary
SummaryFails fault.Memory sys j old new faults_old faults_new = (new ≡ old) × (faults_new ≡ faults_old)
SummaryFails fault.Failed sys j old new faults_old faults_new =
    (lines : List (List ℕ)) × IsSummary sys j lines × AppendsPrefix old (lines_joined lines) new × Rose faults_old faults_new

-- what was written is the journal's summary
unfoldable pub Writes : {T : Type 0} → Result T SummaryFault → System → Journal → Option (List ℕ) → Option (List ℕ) → ℕ → ℕ → Type 0
unfolding IsSummary SummaryFails
Writes result sys j old new faults_old faults_new =
    MatchResult result
    (λ _. (lines : List (List ℕ)) × IsSummary sys j lines × (new ≡ appended old (lines_joined lines)) × (faults_new ≡ faults_old))
    (λ e. SummaryFails e sys j old new faults_old faults_new)
