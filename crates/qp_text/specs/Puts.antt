-- What a call that writes in several puts does to a sink.
use Rattle.std.specs.Prelude.{◌≡◌, ℕ, List, Option, Result, MatchResult}
use Rattle.qp_base.specs.Counts.{Rose}
use Rattle.qp_base.specs.Sink.{appended, AppendsPrefix}

-- all the bytes were written without a fault, or a put failed, its fault was counted, and some of the first bytes were written
abbrev pub Puts : {T E : Type 0} → Result T E → List ℕ → Option (List ℕ) → Option (List ℕ) → ℕ → ℕ → Type 0
Puts result bytes old new faults_old faults_new =
    MatchResult result
    (λ _. (new ≡ appended old bytes) × (faults_new ≡ faults_old))
    (λ _. AppendsPrefix old bytes new × Rose faults_old faults_new)
