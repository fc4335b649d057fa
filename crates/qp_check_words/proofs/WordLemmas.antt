-- A definition at a word of the system, by the records on it.
use Rattle.std.proofs.Common.{◌≡◌, ℕ, ◌^◌, ◌<◌, true, false, List, [], ◌∷◌, length, refl}
use Rattle.std.specs.List.{list_all}
use Rattle.qp_model.specs.declared.systems.System.{System}
use Rattle.qp_model.specs.declared.words.Word.{Word}
use Rattle.qp_model.specs.declared.words.Word.TheVariants as word
use Rattle.qp_model.specs.declared.bodies.Body.{Body}
use Rattle.qp_model.specs.declared.bodies.Body.TheVariants.{Nil}
use Rattle.qp_model.specs.Record.{Item}
use Rattle.qp_model.specs.History.{touch, touch_of, hist, shown_on}
use Rattle.qp_model.specs.Machine.{is_shown, shown_by}
use Rattle.qp_model.specs.References.{references}
use Rattle.qp_model.specs.FreeBlocks.{free_blocks}
use Rattle.qp_model.specs.Line.{line}
use Rattle.qp_model.specs.Subscribers.{subscribers}
use Rattle.qp_model.specs.TimeEvents.{time_event}
use Rattle.qp_model.specs.Sites.{ring_of, blocks_of}
use Rattle.qp_check_words.specs.Marks.{touched}
use Rattle.qp_check_words.specs.WordRules.{shown_right}
use Rattle.qp_check_words.specs.Judging.{shown_at}
use Rattle.qp_check_words.proofs.ShownLemmas.{shown-touched}
use Rattle.qp_model.proofs.MachineLemmas.{shown_by-none}

-- no record shows a block's word
block-shown : (p b o : ℕ) (body : Body) → shown_on (word.Block p b) (touch_of o body) ≡ false
block-shown p b o (Nil f l m) = refl
block-shown p b o _ = refl

block-all : (p b : ℕ) (h xs : List Item) → list_all (λ i. shown_by references (word.Block p b) h i.body (touch i)) xs ≡ true
block-all p b h [] = refl
block-all p b h (i ∷ is) = rw (shown_by-none references (word.Block p b) h i.body (touch i) (block-shown p b i.of i.body), block-all p b h is) refl

-- what is shown of a word, by the records on it and its history
pub shown-right : (sys : System) (w : Word) (items : List Item) → length (hist w items) < 2 ^ 64 → shown_right sys w items ≡ shown_at sys w (touched w items) (hist w items)
unfolding shown_right shown_at is_shown
shown-right sys (word.Pool p) items short = shown-touched (free_blocks (blocks_of sys p)) (word.Pool p) items (hist (word.Pool p) items) short
shown-right sys (word.Block p b) items short = block-all p b (hist (word.Block p b) items) items
shown-right sys (word.Queue a) items short = shown-touched (line (ring_of sys a)) (word.Queue a) items (hist (word.Queue a) items) short
shown-right sys (word.Signal s) items short = shown-touched subscribers (word.Signal s) items (hist (word.Signal s) items) short
shown-right sys (word.Timer t) items short = shown-touched time_event (word.Timer t) items (hist (word.Timer t) items) short
