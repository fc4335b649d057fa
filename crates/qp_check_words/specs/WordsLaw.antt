-- What it means that no definition of words fails.
use Rattle.std.specs.Prelude.{◌≡◌, ◌<◌, ◌↔◌, List, None}
use Rattle.std.specs.List.{AllByRecursion}
use Rattle.qp_model.specs.declared.record.Rec.{Rec}
use Rattle.qp_model.specs.declared.systems.System.{System}
use Rattle.qp_model.specs.WordLaw.{Words}
use Rattle.qp_check_words.specs.WordRules.{first_broken, word_tries}

-- Where objects are numbered by bytes, no definition of words fails exactly where the words of the system keep their law.
abbrev pub NoneFailsWhereWordsHold : Type 0
NoneFailsWhereWordsHold =
    (sys : System) (lanes : List (List Rec)) → AllByRecursion (λ d. d.priority < 256) sys.objects
    → (first_broken (word_tries sys lanes) ≡ None) ↔ Words sys lanes
