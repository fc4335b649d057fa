-- What follows from the tests of words.
use Rattle.std.proofs.Common.{◌≡◌, ◌∙◌, List, sym, Some, None}
use Rattle.std.specs.declared.option.Option.{Option}
use Rattle.std.specs.Prelude.{MatchOption}
use Rattle.qp_model.specs.declared.systems.System.{System}
use Rattle.qp_model.specs.declared.journals.Journal.{Journal}
use Rattle.qp_model.specs.WordLaw.{Words}
use Rattle.qp_model.proofs.ObjectLemmas.{priorities-are_bytes}
use Rattle.qp_check_words.specs.declared.verdict.Broken.{Broken}
use Rattle.qp_check_words.specs.declared.verdict.Verdict.{Verdict}
use Rattle.qp_check_words.specs.declared.verdict.Verdict.TheVariants as verdict
use Rattle.qp_check.specs.Judgeable.{IsJudgeable}
use Rattle.qp_check.specs.Judged.{Finds, IsVerdict, Trial, word_trials}
use Rattle.qp_check_words.specs.WordRules.{first_broken, word_tries}
use Rattle.qp_check.proofs.FindLemmas.{finds-tries}
use Rattle.qp_check_words.proofs.LawLemmas.{none_fails_where_words_hold}

module _ (sys : System) (j : Journal) (o : Option Broken) (is : o ≡ first_broken (word_tries sys j.lanes)) where
  pub words-found : Finds (word_trials sys j) o
  unfolding word_trials
  words-found = rw is (finds-tries (word_tries sys j.lanes))

  pub words-keep : IsJudgeable sys → o ≡ None → Words sys j.lanes
  words-keep judgeable none = (none_fails_where_words_hold sys j.lanes (priorities-are_bytes sys.objects judgeable.priorities)).0 (sym is ∙ none)

-- what is said of the first that fails
pub said-right : (ts : List Trial) (o : Option Broken) (v : Verdict) → MatchOption o (v ≡ verdict.Lawful) (λ b. v ≡ verdict.Broken b.definition b.site) → Finds ts o → IsVerdict ts v
said-right ts None v is found = rw is found
said-right ts (Some b) v is found = rw is found
