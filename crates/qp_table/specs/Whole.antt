-- What the view that has all lanes knows at the end.
use Rattle.std.specs.Prelude.{◌≡◌, ℕ, ◌+◌, ◌/◌, ◌%◌, ◌<◌, ◌≤◌, eqb, List, [], ◌∷◌, cond, IsTrue, slice_index, length, take}
use mathlib.Core.Option.{some}
use lib.ListN.{get_elem?}
use Rattle.qp_model.specs.declared.record.Rec.{Rec}
use Rattle.qp_model.specs.declared.systems.System.{System}
use Rattle.qp_model.specs.WordLaw.{is_pool, is_block, is_object}
use Rattle.qp_model.specs.declared.words.Word.TheVariants as word
use Rattle.qp_model.specs.Record.{Item}
use Rattle.qp_model.specs.History.{hist, all_items}
use Rattle.qp_model.specs.Machine.{after}
use Rattle.qp_model.specs.FreeBlocks.{free_blocks}
use Rattle.qp_model.specs.References.{references}
use Rattle.qp_model.specs.Line.{line}
use Rattle.qp_model.specs.Sites.{ring_of, blocks_of}
use Rattle.qp_table.specs.Counting.{Each, many}
use Rattle.qp_table.specs.Now.{Now, LeavesWords}
use Rattle.qp_table.specs.Rule.{is_log, is_number, is_spot, is_ref, free_bit, lives, in_lines, on_queue, mark_in, pool_at, block_at, queue_at, pool_value, refs_value, line_value, Was, IsKnown, Shows, HasEvent}
use Rattle.qp_model.specs.Lists.{count_up}
use Rattle.qp_table.specs.declared.view.SeatLog.{SeatLog}
use Rattle.qp_table.specs.declared.view.CellPlace.{CellPlace}
use Rattle.qp_table.specs.declared.view.Serve.{Serve}
use Rattle.qp_table.specs.declared.view.Glance.{Glance}
use Rattle.qp_table.specs.declared.view.View.{View}
use Rattle.qp_table.specs.After.{rec_of, reference_dropped, glanced}

-- a glance lies behind what the word shows, or is it
abbrev pub GlanceIsBehind : List ℕ → Glance → Type 0
GlanceIsBehind words g = (mark_in g.word g.value ≤ mark_in g.word (slice_index words g.word)) × (mark_in g.word g.value ≡ mark_in g.word (slice_index words g.word) → g.value ≡ slice_index words g.word)

-- what words were after each of their operations but the last is what these records give
pub record PastOf (sys : System) (items : List Item) (was : Was) : Type 0 where
  pub pool : (p k : ℕ) → IsTrue (is_pool sys p) → k < length (hist (word.Pool p) items) → was (pool_at p) k ≡ pool_value (after (free_blocks (blocks_of sys p)) (take k (hist (word.Pool p) items)))
  pub refs : (p b k : ℕ) → IsTrue (is_block sys p b) → k < length (hist (word.Block p b) items) → was (block_at p b) k ≡ refs_value (after references (take k (hist (word.Block p b) items)))
  pub line : (a k : ℕ) → IsTrue (is_object sys a) → k < length (hist (word.Queue a) items) → was (queue_at a) k ≡ line_value (after (line (ring_of sys a)) (take k (hist (word.Queue a) items)))

-- The lanes are those of the rule: each log of the view is the lane of its number, each lane number is a log's or was never
-- handed out, and the lanes of the latter have no records. The logs may stand in any order.
pub record IsWholeView (sys : System) (v : View) : Type 0 where
  pub now : Now
  pub words : List ℕ
  pub was : Was
  pub lanes : List (List Rec)
  pub count : length lanes ≡ 49
  pub own : Each (λ (g : SeatLog). get_elem? lanes g.number ≡ some g.recs) v.logs
  pub once : (n : ℕ) → n < 49 → many (is_log n) v.logs + many (is_number n) v.lane_numbers ≡ 1
  pub rest : (n : ℕ) → n < 49 → 0 < many (is_number n) v.lane_numbers → get_elem? lanes n ≡ some []
  pub leaves : LeavesWords sys lanes now
  pub shows : Shows sys words now
  pub glances : Each (GlanceIsBehind words) v.seen
  pub seen : Each (λ (g : Glance). g.value ≡ was g.word (mark_in g.word g.value)) v.seen
  pub past : PastOf sys (all_items lanes) was
  pub contents : Each (IsKnown sys lanes now) v.contents
  pub event : (p b : ℕ) → IsTrue (is_block sys p b) → HasEvent sys (now.content p b)
  pub place : (p b : ℕ) → free_bit now p b + many (is_spot p b) v.fresh + many (is_spot p b) v.used + lives (now.refs p b).names ≡ cond (is_block sys p b) 1 0
  pub hand : (p b k : ℕ) → 0 < p → many (is_ref p b k) v.hands + in_lines now p b k ≡ many (λ r. eqb r k) (now.refs p b).names

-- of what was seen of the word, nothing has more operations
abbrev pub SeenBelow : ℕ → ℕ → List Glance → Type 0
SeenBelow w k seen = Each (λ (g : Glance). g.word ≡ w → mark_in w g.value ≤ k) seen

-- What a drop tells: the view after it, that a reference was there, and that the lane has seen no later operation
abbrev pub Dropped : ℕ → ℕ → ℕ → ℕ → View → ℕ → View → Type 0
Dropped o p b r v n u = (u ≡ reference_dropped v (block_at p b) (n + 4294967295) (rec_of 18 o (p ∷ b ∷ (n / 4294967296) ∷ r ∷ [])) p b r) × (0 < n % 4294967296) × SeenBelow (block_at p b) (n / 4294967296) v.seen × (block_at p b < 4224)

-- What a look of the view with all lanes tells
abbrev pub TellsAll : System → View → ℕ → View → Type 0
TellsAll sys v n u = (u ≡ glanced v 0 n) × IsWholeView sys v

-- the first states of all words
abbrev pub first_now : System → Now
first_now sys = record {
  pool = λ p. record { count = 0; free = cond (is_pool sys p) (count_up 0 (blocks_of sys p)) [] };
  refs = λ p b. record { count = 0; names = [] };
  edge = λ p b. 0;
  content = λ p b. [];
  line = λ a. record { entries = []; f = 0; l = 0; m = 0 };
}

-- lane 0 is handed out, the others not yet
abbrev pub later_lanes : List ℕ
later_lanes = count_up 1 48

-- an object that may be handed over: it has no last-in post and no take, and none is under way
pub record Unused (takes : List CellPlace) (x : Serve) : Type 0 where
  pub lifos : x.lifos ≡ 0
  pub takes_made : x.takes ≡ 0
  pub still : many (on_queue x.object) takes ≡ 0
