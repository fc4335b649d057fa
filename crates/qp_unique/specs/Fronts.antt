-- What the words hold after some records of a run, in their order.
use Rattle.std.specs.Prelude.{ℕ, Bool, true, List}
use Rattle.std.specs.declared.option.Option.{Option}
use Rattle.std.specs.List.{filter}
use Rattle.qp_model.specs.declared.words.Word.{Word}
use Rattle.qp_model.specs.declared.words.Word.TheVariants as word
use Rattle.qp_model.specs.declared.systems.System.{System}
use Rattle.qp_model.specs.declared.bodies.Entry.{Entry}
use Rattle.qp_model.specs.declared.bodies.Body.{Body}
use Rattle.qp_model.specs.Record.{Item}
use Rattle.qp_model.specs.Told.{Event}
use Rattle.qp_model.specs.History.{Touch, Draws, Shows, Neither, touch, touch_of, drawn_on}
use Rattle.qp_model.specs.Machine.{after}
use Rattle.qp_model.specs.FreeBlocks.{free_blocks}
use Rattle.qp_model.specs.References.{references}
use Rattle.qp_model.specs.Lives.{life_of}
use Rattle.qp_model.specs.Line.{line}
use Rattle.qp_model.specs.Subscribers.{subscribers}
use Rattle.qp_model.specs.TimeEvents.{time_event}
use Rattle.qp_model.specs.Sites.{ring_of, blocks_of}
use Rattle.qp_model.specs.WordLaw.{is_pool, is_block, is_object, is_signal, is_timer}
use Rattle.qp_unique.specs.Held.{WordsHeld}

-- the records that draw numbers of a word, in order
unfoldable pub draws_of_word : Word → List Item → List Item
draws_of_word w items = filter (λ i. drawn_on w (touch i)) items

-- what the words hold after these records
unfoldable pub held_after : System → (Entry → Option Event) → ℕ → List Item → WordsHeld
unfolding after draws_of_word ring_of
held_after sys events ceiling items = record {
  pools = λ p. after (free_blocks (blocks_of sys p)) (draws_of_word (word.Pool p) items);
  blocks = λ p b. after references (draws_of_word (word.Block p b) items);
  lives = λ p b. after (life_of b) (draws_of_word (word.Pool p) items);
  lines = λ a. after (line (ring_of sys a)) (draws_of_word (word.Queue a) items);
  sets = λ s. after subscribers (draws_of_word (word.Signal s) items);
  clocks = λ t. after time_event (draws_of_word (word.Timer t) items);
  ceiling = ceiling;
  events = events;
}

-- the system has the word
unfoldable pub is_word_of : System → Word → Bool
unfolding is_block is_object
is_word_of sys (word.Pool p) = is_pool sys p
is_word_of sys (word.Block p b) = is_block sys p b
is_word_of sys (word.Queue a) = is_object sys a
is_word_of sys (word.Signal s) = is_signal sys s
is_word_of sys (word.Timer t) = is_timer sys t

abbrev pub touches_its : System → Touch → Bool
touches_its sys (Draws w mark) = is_word_of sys w
touches_its sys (Shows w mark) = is_word_of sys w
touches_its sys Neither = true

-- the word that a record of o draws a number of, or shows, is the system's
unfoldable pub names_its : System → ℕ → Body → Bool
unfolding is_word_of
names_its sys o b = touches_its sys (touch_of o b)
