-- Each definition of words at one word, by the records on it.
use Rattle.std.specs.Prelude.{ℕ, ◌+◌, Bool, true, ◌&&◌, List, length}
use Rattle.std.specs.List.{list_all}
use Rattle.qp_model.specs.declared.record.Rec.{Rec}
use Rattle.qp_model.specs.declared.systems.System.{System}
use Rattle.qp_model.specs.declared.words.Word.{Word}
use Rattle.qp_model.specs.declared.words.Word.TheVariants as word
use Rattle.qp_model.specs.Record.{Item}
use Rattle.qp_model.specs.History.{all_items, hist, touch}
use Rattle.qp_model.specs.Machine.{Machine, is_allowed}
use Rattle.qp_model.specs.FreeBlocks.{free_blocks}
use Rattle.qp_model.specs.References.{references}
use Rattle.qp_model.specs.Line.{line}
use Rattle.qp_model.specs.Subscribers.{subscribers}
use Rattle.qp_model.specs.TimeEvents.{time_event}
use Rattle.qp_model.specs.Lives.{has_lives}
use Rattle.qp_model.specs.Sites.{ring_of, blocks_of}
use Rattle.qp_check_lanes.specs.Groups.{grouped}
use Rattle.qp_check_words.specs.Marks.{shown_key, shows_within}
use Rattle.qp_check_lanes.specs.WordState.{shows_from}
use Rattle.qp_check_words.specs.declared.rules.Rule.{Rule}
use Rattle.qp_check_words.specs.declared.rules.Rule.TheVariants as rule
use Rattle.qp_check_words.specs.WordRules.{rule_holds}

-- Of records on one word with this history: what they show is within it, and is what the word held there.
unfoldable pub shown_of : {S : Type 0} → Machine S → List Item → List Item → Bool
unfolding grouped shows_from
shown_of m history touched =
    list_all (λ i. shows_within (length history) (touch i)) touched && shows_from m m.first history (grouped shown_key (length history + 1) touched)

-- what is shown of the word by the records on it, whose history this is; none shows a block's word
unfoldable pub shown_at : System → Word → List Item → List Item → Bool
unfolding shown_of
shown_at sys (word.Pool p) touched history = shown_of (free_blocks (blocks_of sys p)) history touched
shown_at sys (word.Block p b) touched history = true
shown_at sys (word.Queue a) touched history = shown_of (line (ring_of sys a)) history touched
shown_at sys (word.Signal s) touched history = shown_of subscribers history touched
shown_at sys (word.Timer t) touched history = shown_of time_event history touched

-- the lives of a block whose references are allowed
unfoldable pub lives_of : ℕ → List Item → List Item → Bool
lives_of b pool block = is_allowed references block && has_lives b pool block

-- the definition holds at the word; that of lives counts where that of references holds
unfoldable pub rule_test : System → List (List Rec) → Rule → Word → Bool
unfolding lives_of rule_holds
rule_test sys lanes rule.Lives (word.Block p b) = lives_of b (hist (word.Pool p) (all_items lanes)) (hist (word.Block p b) (all_items lanes))
rule_test sys lanes r w = rule_holds sys lanes r w
