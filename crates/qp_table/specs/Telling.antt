-- What a glance, a record and a meeting do to what is seen of a lane.
use Rattle.std.specs.Prelude.{◌≡◌, ℕ, ◌≤◌, max, Bool, true, false, List, if◌then◌else◌, IsTrue, Some, None}
use Rattle.std.specs.List.{list_any}
use Rattle.qp_model.specs.declared.systems.System.{System}
use Rattle.qp_model.specs.declared.words.Word.{Word}
use Rattle.qp_model.specs.declared.words.Word.TheVariants as word
use Rattle.qp_model.specs.History.{same_word, mark_of, touch_of}
use Rattle.qp_model.specs.Told.{ToldItem}
use Rattle.qp_table.specs.Counting.{Each}
use Rattle.qp_table.specs.Rule.{mark_in, is_serve, is_lifo, is_take_of, records}
use Rattle.qp_table.specs.declared.view.Glance.{Glance}
use Rattle.qp_table.specs.declared.view.View.{View}
use Rattle.qp_calls.specs.LaneView.{LaneView, Shown, shown_from}
use Rattle.qp_table.specs.Words.{place_of, is_here, value_seen}

-- x was seen of the word w, which the system has, as no earlier value; and else nothing new was seen
pub record Saw (sys : System) (w : Word) (v u : View) (x : ℕ) : Type 0 where
  pub here : IsTrue (is_here sys w)
  pub value : value_seen sys w u.seen ≡ x
  pub others : (y : Word) → IsTrue (is_here sys y) → same_word w y ≡ false → value_seen sys y u.seen ≡ value_seen sys y v.seen
  pub le : mark_in (place_of w) (value_seen sys w v.seen) ≤ mark_in (place_of w) x
  pub same : mark_in (place_of w) (value_seen sys w v.seen) ≡ mark_in (place_of w) x → value_seen sys w v.seen ≡ x

-- the last-in posts and takes of a queue that the lane serves are those of its records
abbrev pub OwnTold : ℕ → ℕ → ℕ → View → Type 0
OwnTold a l m v = IsTrue (list_any (is_serve a) v.serves) → (l ≡ records (is_lifo a) v.logs) × (m ≡ records (is_take_of a) v.logs)

-- the mark of w becomes k and no other changes; no mark falls, and what was shown at a mark that stays is shown still
pub record Rises (w : Word) (k : ℕ) (old new : Word → ℕ) (was now : Word → Shown) : Type 0 where
  pub here : new w ≡ k
  pub rise : (y : Word) → old y ≤ new y
  pub others : (y : Word) → same_word w y ≡ false → new y ≡ old y
  pub shown : (y : Word) → new y ≡ old y → now y ≡ was y

-- what a record does to marks: it touches w alone, whose mark is k then
pub record Touches (w : Word) (k : ℕ) (t : ToldItem) : Type 0 where
  pub marks : (y : Word) → mark_of y (touch_of t.of t.told.body) ≡ (if same_word w y then Some k else None)
  pub only : (y : Word) → shown_from y t.told.body ≡ None

-- and one that gives out a block: it touches the pool's word w, and shows the block's word b
pub record TouchesTwo (w : Word) (k : ℕ) (b : Word) (j : ℕ) (t : ToldItem) : Type 0 where
  pub marks : (y : Word) → mark_of y (touch_of t.of t.told.body) ≡ (if same_word w y then Some k else None)
  pub shows : (y : Word) → shown_from y t.told.body ≡ (if same_word b y then Some j else None)
  pub apart : same_word w b ≡ false

abbrev pub is_on_table : Word → Bool
is_on_table (word.Signal s) = false
is_on_table (word.Timer t) = false
is_on_table w = true

-- glances of one word at one number of operations are of one value
abbrev pub AreOfOne : (ℕ → ℕ → ℕ) → List Glance → Type 0
AreOfOne was seen = Each (λ (g : Glance). g.value ≡ was g.word (mark_in g.word g.value)) seen

-- One lane has seen what the other has, too. Only its marks, and what was shown there, change.
pub record Meets (old other new : LaneView) : Type 0 where
  pub same : new ≡ record old { mark = new.mark; shown = new.shown }
  pub mark : (w : Word) → IsTrue (is_on_table w) → new.mark w ≡ max (old.mark w) (other.mark w)
  pub mine : (w : Word) → new.mark w ≡ old.mark w → new.shown w ≡ old.shown w
  pub theirs : (w : Word) → IsTrue (is_on_table w) → new.mark w ≡ other.mark w → new.shown w ≡ other.shown w
