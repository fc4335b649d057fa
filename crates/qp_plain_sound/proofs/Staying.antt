-- What words hold stays when a record comes at the end of a lane that draws no number of theirs.
use Rattle.std.proofs.Common.{◌≡◌, ℕ, false, List, [], ◌∷◌, ◌++◌, refl, ap, IsTrue, None}
use Rattle.std.specs.List.{list_all}
use Rattle.qp_model.specs.declared.record.Rec.{Rec}
use Rattle.qp_model.specs.declared.words.Word.TheVariants as word
use Rattle.qp_model.specs.declared.systems.System.{System}
use Rattle.qp_model.specs.Record.{Item, item_of}
use Rattle.qp_model.specs.History.{touch, drawn_on}
use Rattle.qp_model.specs.Machine.{after}
use Rattle.qp_model.specs.FreeBlocks.{free_blocks}
use Rattle.qp_model.specs.References.{references}
use Rattle.qp_model.specs.Line.{line}
use Rattle.qp_model.specs.Subscribers.{subscribers}
use Rattle.qp_model.specs.Lives.{life_of}
use Rattle.qp_model.specs.Sites.{ring_of, blocks_of}
use Rattle.qp_model.specs.WordLaw.{is_object, is_signal}
use Rattle.qp_model.proofs.WordLemmas.{hist-stays}
use Rattle.qp_calls.specs.Tokens.{Token}
use Rattle.qp_calls.specs.Counting.{times}
use Rattle.qp_plain_sound.specs.WordStates.{pool_in, life_in, refs_in, line_in, set_in, cell_in, cell_after}
use Rattle.qp_plain_sound.specs.Sound.{entries_in, queued, queues, is_token_of, is_good}
use Rattle.qp_plain_sound.proofs.Times.{sum-same}

module _ (sys : System) (before : List (List Rec)) (lane : List Rec) (behind : List (List Rec)) (r : Rec) (i : Item) (is : item_of r ≡ i) where
  abbrev pub old_lanes : List (List Rec)
  old_lanes = before ++ lane ∷ behind

  abbrev pub new_lanes : List (List Rec)
  new_lanes = before ++ (lane ++ r ∷ []) ∷ behind

  pub pool-stays : (p : ℕ) → drawn_on (word.Pool p) (touch i) ≡ false → pool_in sys new_lanes p ≡ pool_in sys old_lanes p
  unfolding pool_in
  pool-stays p other = ap (after (free_blocks (blocks_of sys p))) (hist-stays before lane behind r i is (word.Pool p) other)

  pub life-stays : (p b : ℕ) → drawn_on (word.Pool p) (touch i) ≡ false → life_in new_lanes p b ≡ life_in old_lanes p b
  unfolding life_in
  life-stays p b other = ap (after (life_of b)) (hist-stays before lane behind r i is (word.Pool p) other)

  pub cell-stays : (p b : ℕ) → drawn_on (word.Pool p) (touch i) ≡ false → cell_in new_lanes p b ≡ cell_in old_lanes p b
  unfolding cell_in
  cell-stays p b other = ap (cell_after b None) (hist-stays before lane behind r i is (word.Pool p) other)

  pub refs-stays : (p b : ℕ) → drawn_on (word.Block p b) (touch i) ≡ false → refs_in new_lanes p b ≡ refs_in old_lanes p b
  unfolding refs_in
  refs-stays p b other = ap (after references) (hist-stays before lane behind r i is (word.Block p b) other)

  pub line-stays : (a : ℕ) → drawn_on (word.Queue a) (touch i) ≡ false → line_in sys new_lanes a ≡ line_in sys old_lanes a
  unfolding line_in
  line-stays a other = ap (after (line (ring_of sys a))) (hist-stays before lane behind r i is (word.Queue a) other)

  pub set-stays : (s : ℕ) → drawn_on (word.Signal s) (touch i) ≡ false → set_in new_lanes s ≡ set_in old_lanes s
  unfolding set_in
  set-stays s other = ap (after subscribers) (hist-stays before lane behind r i is (word.Signal s) other)

  pub entries_in-stays : (a : ℕ) → drawn_on (word.Queue a) (touch i) ≡ false → entries_in sys new_lanes a ≡ entries_in sys old_lanes a
  unfolding entries_in
  entries_in-stays a other = rw (line-stays a other) refl

  pub queued-stays : (t : Token) → ((a : ℕ) → drawn_on (word.Queue a) (touch i) ≡ false) → queued sys new_lanes t ≡ queued sys old_lanes t
  unfolding queued
  queued-stays t other = sum-same queues _ _ (λ a lt. ap (times (is_token_of t)) (entries_in-stays a (other a)))

  -- entries and subscribers
  pub entries-stay : ((a : ℕ) → drawn_on (word.Queue a) (touch i) ≡ false)
      → ((a : ℕ) → IsTrue (is_object sys a) → IsTrue (list_all (is_good sys) (line_in sys old_lanes a).entries))
      → (a : ℕ) → IsTrue (is_object sys a) → IsTrue (list_all (is_good sys) (line_in sys new_lanes a).entries)
  entries-stay other good a h = rw (line-stays a (other a)) (good a h)

  pub subscribed-stay : ((s : ℕ) → drawn_on (word.Signal s) (touch i) ≡ false)
      → ((s : ℕ) → IsTrue (is_signal sys s) → IsTrue (list_all (is_object sys) (set_in old_lanes s).members))
      → (s : ℕ) → IsTrue (is_signal sys s) → IsTrue (list_all (is_object sys) (set_in new_lanes s).members)
  subscribed-stay other members s h = rw (set-stays s (other s)) (members s h)
