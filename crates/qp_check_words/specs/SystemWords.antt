-- The words of a system.
use Rattle.std.specs.Prelude.{ℕ, List, ◌++◌, map, length}
use Rattle.std.specs.List.{filter, flat_map}
use Rattle.qp_model.specs.declared.systems.System.{System}
use Rattle.qp_model.specs.declared.words.Word.{Word}
use Rattle.qp_model.specs.declared.words.Word.TheVariants as word
use Rattle.qp_model.specs.Lists.{count_up}
use Rattle.qp_model.specs.Sites.{blocks_of}
use Rattle.qp_model.specs.WordLaw.{is_object}

-- the words of the system, by kind and ascending
abbrev pub pool_words : System → List Word
pool_words sys = map (λ p. word.Pool p) (count_up 1 (length sys.pools))

abbrev pub words_of_pool : System → ℕ → List Word
words_of_pool sys p = map (λ b. word.Block p b) (count_up 0 (blocks_of sys p))

abbrev pub block_words : System → List Word
block_words sys = flat_map (words_of_pool sys) (count_up 1 (length sys.pools))

abbrev pub queue_words : System → List Word
queue_words sys = map (λ a. word.Queue a) (filter (λ a. is_object sys a) (count_up 0 256))

abbrev pub signal_words : System → List Word
signal_words sys = map (λ s. word.Signal s) (count_up 4 (length sys.signals))

abbrev pub timer_words : System → List Word
timer_words sys = map (λ t. word.Timer t) (count_up 1 (length sys.timers))

unfoldable pub words_of : System → List Word
words_of sys = pool_words sys ++ block_words sys ++ queue_words sys ++ signal_words sys ++ timer_words sys
