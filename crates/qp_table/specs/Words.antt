-- What a lane has seen of each word of the event table.
use Rattle.std.specs.Prelude.{◌≡◌, ℕ, ◌/◌, ◌%◌, ◌≤◌, eqb, ltb, Bool, false, List, [], ◌∷◌, cond, count_ones}
use Rattle.qp_model.specs.declared.systems.System.{System}
use Rattle.qp_model.specs.declared.words.Word.{Word}
use Rattle.qp_model.specs.declared.words.Word.TheVariants as word
use Rattle.qp_model.specs.Machine.{after}
use Rattle.qp_model.specs.FreeBlocks.{free_blocks}
use Rattle.qp_model.specs.References.{references}
use Rattle.qp_model.specs.Line.{line}
use Rattle.qp_model.specs.Sites.{ring_of, blocks_of}
use Rattle.qp_model.specs.WordLaw.{is_pool, is_block, is_object}
use Rattle.qp_table.specs.Rule.{pool_at, block_at, queue_at, pool_value, refs_value, line_value, mark_in}
use Rattle.qp_table.specs.declared.view.Glance.{Glance}
use Rattle.qp_table.specs.declared.view.View.{View}
use Rattle.qp_calls.specs.LaneView.{Shown, FreeBlocks, References, Counts, NotShown, first_shown}

-- where the word stands in the table
abbrev pub place_of : Word → ℕ
place_of (word.Pool p) = pool_at p
place_of (word.Block p b) = block_at p b
place_of (word.Queue a) = queue_at a
place_of _ = 0

-- a word of the event table that the system has
abbrev pub is_here : System → Word → Bool
is_here sys (word.Pool p) = is_pool sys p
is_here sys (word.Block p b) = is_block sys p b
is_here sys (word.Queue a) = is_object sys a
is_here sys _ = false

-- what it has before its first operation
abbrev pub first_value : System → Word → ℕ
first_value sys (word.Pool p) = pool_value (after (free_blocks (blocks_of sys p)) [])
first_value sys (word.Block p b) = refs_value (after references [])
first_value sys (word.Queue a) = line_value (after (line (ring_of sys a)) [])
first_value sys _ = 0

-- of two values of the word at w the one with more operations
abbrev pub later : ℕ → ℕ → ℕ → ℕ
later w x y = cond (ltb (mark_in w x) (mark_in w y)) y x

-- the value with the most operations that was seen of the word at w, x before all
unfoldable pub latest : ℕ → ℕ → List Glance → ℕ
latest w x [] = x
latest w x (g ∷ gs) = latest w (cond (eqb g.word w) (later w x g.value) x) gs

unfoldable pub value_seen : System → Word → List Glance → ℕ
unfolding latest
value_seen sys w seen = latest (place_of w) (first_value sys w) seen

-- the most operations of the word that the lane knows of, and what it showed there
unfoldable pub mark_seen : System → List Glance → Word → ℕ
unfolding value_seen
mark_seen sys seen w = cond (is_here sys w) (mark_in (place_of w) (value_seen sys w seen)) 0

abbrev pub as_shown : Word → ℕ → Shown
as_shown (word.Pool p) x = FreeBlocks (count_ones (x % 4294967296))
as_shown (word.Block p b) x = References (x % 4294967296)
as_shown (word.Queue a) x = Counts (x % 2097152) (x / 2097152 % 2097152) (x / 4398046511104)
as_shown _ x = NotShown

unfoldable pub shown_seen : System → List Glance → Word → Shown
unfolding value_seen
shown_seen sys seen w = cond {A = Shown} (is_here sys w) (as_shown w (value_seen sys w seen)) (first_shown sys w)

-- of the word, which has the value x now, nothing was seen with more operations, and nothing else with as many
pub record Ahead (sys : System) (w : Word) (v : View) (x : ℕ) : Type 0 where
  pub le : mark_in (place_of w) (value_seen sys w v.seen) ≤ mark_in (place_of w) x
  pub same : mark_in (place_of w) (value_seen sys w v.seen) ≡ mark_in (place_of w) x → value_seen sys w v.seen ≡ x
