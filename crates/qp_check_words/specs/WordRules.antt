-- The first definition of words that fails, and its first site.
use Rattle.std.specs.Prelude.{ℕ, Bool, true, false, ◌&&◌, List, [], ◌∷◌, map, if◌then◌else◌, Some, None}
use Rattle.std.specs.declared.option.Option.{Option}
use Rattle.std.specs.List.{filter, flat_map}
use Rattle.qp_model.specs.declared.record.Rec.{Rec}
use Rattle.qp_model.specs.declared.systems.System.{System}
use Rattle.qp_model.specs.declared.words.Word.{Word}
use Rattle.qp_model.specs.declared.words.Word.TheVariants as word
use Rattle.qp_model.specs.Record.{Item}
use Rattle.qp_model.specs.History.{all_items, hist, is_numbered, marks_rise}
use Rattle.qp_model.specs.Machine.{is_allowed, is_shown}
use Rattle.qp_model.specs.FreeBlocks.{free_blocks}
use Rattle.qp_model.specs.References.{references}
use Rattle.qp_model.specs.Line.{line}
use Rattle.qp_model.specs.Subscribers.{subscribers}
use Rattle.qp_model.specs.TimeEvents.{time_event}
use Rattle.qp_model.specs.Lives.{has_lives}
use Rattle.qp_model.specs.Sites.{ring_of, blocks_of}
use Rattle.qp_check_words.specs.SystemWords.{words_of}
use Rattle.qp_check_words.specs.declared.verdict.Broken.{Broken}
use Rattle.qp_check_words.specs.declared.verdict.Site.{Site}
use Rattle.qp_check_words.specs.declared.verdict.Site.TheVariants as site
use Rattle.qp_check_words.specs.declared.rules.Rule.{Rule}
use Rattle.qp_check_words.specs.declared.rules.Rule.TheVariants as rule

-- a definition at a site, and whether it holds there
pub record Try : Type 0 where
  pub definition : ℕ
  pub site : Site
  pub holds : Bool

-- the first of these that fails
unfoldable pub first_broken : List Try → Option Broken
first_broken [] = None
first_broken (t ∷ ts) = if t.holds then first_broken ts else Some (record { definition = t.definition; site = t.site })

abbrev pub site_of : Word → Site
site_of (word.Pool p) = site.Pool p
site_of (word.Block p b) = site.Block p b
site_of (word.Queue a) = site.Queue a
site_of (word.Signal s) = site.Signal s
site_of (word.Timer t) = site.Timer t

-- the number that `check` prints
abbrev pub definition_of_rule : Rule → ℕ
definition_of_rule rule.DrawnNumbers = 9
definition_of_rule rule.FreeBlocks = 10
definition_of_rule rule.References = 11
definition_of_rule rule.Lives = 12
definition_of_rule rule.Line = 13
definition_of_rule rule.ShownNumbers = 14
definition_of_rule rule.Subscribers = 16
definition_of_rule rule.TimeEvents = 18

-- in the order in which they are tried
abbrev pub word_rules : List Rule
word_rules =
    rule.DrawnNumbers ∷ rule.FreeBlocks ∷ rule.References ∷ rule.Lives ∷ rule.Line ∷ rule.ShownNumbers ∷ rule.Subscribers ∷ rule.TimeEvents ∷ []

-- numbers drawn and shown are of all words, each other definition of one kind
abbrev pub is_site : Rule → Word → Bool
is_site rule.DrawnNumbers w = true
is_site rule.ShownNumbers w = true
is_site rule.FreeBlocks (word.Pool p) = true
is_site rule.References (word.Block p b) = true
is_site rule.Lives (word.Block p b) = true
is_site rule.Line (word.Queue a) = true
is_site rule.Subscribers (word.Signal s) = true
is_site rule.TimeEvents (word.Timer t) = true
is_site _ _ = false

-- each operation of this history of the word is allowed in its turn
unfoldable pub operations_allowed : System → Word → List Item → Bool
operations_allowed sys (word.Pool p) h = is_allowed (free_blocks (blocks_of sys p)) h
operations_allowed sys (word.Block p b) h = is_allowed references h
operations_allowed sys (word.Queue a) h = is_allowed (line (ring_of sys a)) h
operations_allowed sys (word.Signal s) h = is_allowed subscribers h
operations_allowed sys (word.Timer t) h = is_allowed time_event h

-- all that is shown of the word is as its history gives it
unfoldable pub shown_right : System → Word → List Item → Bool
shown_right sys (word.Pool p) items = is_shown (free_blocks (blocks_of sys p)) (word.Pool p) items
shown_right sys (word.Block p b) items = is_shown references (word.Block p b) items
shown_right sys (word.Queue a) items = is_shown (line (ring_of sys a)) (word.Queue a) items
shown_right sys (word.Signal s) items = is_shown subscribers (word.Signal s) items
shown_right sys (word.Timer t) items = is_shown time_event (word.Timer t) items

-- the block's lives are as they must be
unfoldable pub lives_hold : Word → List Item → Bool
lives_hold (word.Block p b) items = has_lives b (hist (word.Pool p) items) (hist (word.Block p b) items)
lives_hold _ items = true

-- the definition holds at the word
unfoldable pub rule_holds : System → List (List Rec) → Rule → Word → Bool
unfolding lives_hold operations_allowed shown_right
rule_holds sys lanes rule.DrawnNumbers w = is_numbered w (all_items lanes)
rule_holds sys lanes rule.Lives w = lives_hold w (all_items lanes)
rule_holds sys lanes rule.ShownNumbers w = shown_right sys w (all_items lanes) && marks_rise w lanes
rule_holds sys lanes _ w = operations_allowed sys w (hist w (all_items lanes))

-- the definition at each of its sites among these words
abbrev pub tries_at : (Rule → Word → Bool) → Rule → List Word → List Try
tries_at holds r words = map (λ w. record { definition = definition_of_rule r; site = site_of w; holds = holds r w }) (filter (λ w. is_site r w) words)

-- the definitions, each at its sites
abbrev pub tries_by : (Rule → Word → Bool) → List Rule → List Word → List Try
tries_by holds rules words = flat_map (λ r. tries_at holds r words) rules

-- all definitions of words at all their sites, in the order in which they are tried
unfoldable pub word_tries : System → List (List Rec) → List Try
unfolding rule_holds words_of
word_tries sys lanes = tries_by (rule_holds sys lanes) word_rules (words_of sys)
