-- The rule of the event table: its words, and the views of all lanes.
use Rattle.std.specs.Prelude.{◌≡◌, ◌≢◌, ℕ, ◌+◌, ◌-◌, ◌*◌, ◌/◌, ◌%◌, ◌^◌, ◌<◌, ◌≤◌, ltb, eqb, List, [], ◌∷◌, Bool, false, cond, ◌&&◌, length, slice_index, IsTrue}
use mathlib.Core.Option.{some}
use lib.ListN.{get_elem?}
use Rattle.qp_chart.specs.StateTree.{has}
use Rattle.qp_model.specs.declared.record.Rec.{Rec}
use Rattle.qp_model.specs.declared.bodies.Entry.{Entry}
use Rattle.qp_model.specs.declared.systems.System.{System}
use Rattle.qp_model.specs.FreeBlocks.{Pool}
use Rattle.qp_model.specs.References.{Refs}
use Rattle.qp_model.specs.Line.{Line}
use Rattle.qp_model.specs.Sites.{ring_of, blocks_of}
use Rattle.qp_model.specs.WordLaw.{is_pool, is_block, is_object}
use Rattle.qp_model.specs.Parts.{is_static, params_of}
use Rattle.qp_model.specs.Record.{item_of}
use Rattle.qp_model.specs.declared.bodies.Body.{Body}
use Rattle.qp_model.specs.declared.bodies.Body.TheVariants.{Took, Lifo}
use Rattle.qp_table.specs.Counting.{Each, sum_over, many, upto}
use Rattle.qp_table.specs.Now.{Now, LeavesWords}
use Rattle.std.specs.Prelude.{take, Some, None}
use Rattle.qp_model.specs.declared.words.Word.TheVariants as word
use Rattle.qp_model.specs.History.{hist, all_items}
use Rattle.qp_model.specs.Machine.{after}
use Rattle.qp_model.specs.FreeBlocks.{free_blocks}
use Rattle.qp_model.specs.References.{references}
use Rattle.qp_model.specs.Line.{line}
use Rattle.qp_model.specs.Told.{Event}
use Rattle.qp_model.specs.Knowing.{last_given}
use Rattle.qp_table.specs.declared.view.Content.{Content}
use Rattle.qp_table.specs.declared.view.SeatLog.{SeatLog}
use Rattle.qp_table.specs.declared.view.Spot.{Spot}
use Rattle.qp_table.specs.declared.view.Fill.{Fill}
use Rattle.qp_table.specs.declared.view.PendingGive.{PendingGive}
use Rattle.qp_table.specs.declared.view.CellPlace.{CellPlace}
use Rattle.qp_table.specs.declared.view.Serve.{Serve}
use Rattle.qp_table.specs.declared.view.Glance.{Glance}
use Rattle.qp_table.specs.declared.view.View.{View}

-- the words of the event table: those of pools, blocks, queues and cells, then the event words
abbrev pub table_words : ℕ
table_words = 21128

-- Where each word stands: pools, blocks, queues, cells, then the event words
abbrev pub pool_at : ℕ → ℕ
pool_at p = 8 * p

abbrev pub block_at : ℕ → ℕ → ℕ
block_at p b = 128 + 8 * (32 * p + b)

abbrev pub queue_at : ℕ → ℕ
queue_at a = 4224 + 8 * a

abbrev pub cell_at : ℕ → ℕ → ℕ
cell_at a j = 4488 + 256 * a + j

abbrev pub event_word_at : ℕ → ℕ → ℕ → ℕ
event_word_at p b j = 12936 + 16 * (32 * p + b) + j

-- sizes that the layout has room for
pub record Fitting (sys : System) : Type 0 where
  pub pools : (p b : ℕ) → IsTrue (is_block sys p b) → (0 < p) × (p < 16) × (b < 32)
  pub small : (p : ℕ) → IsTrue (is_pool sys p) → (p < 16) × (blocks_of sys p ≤ 32)
  pub objects : (a : ℕ) → IsTrue (is_object sys a) → (a < 33) × (ring_of sys a < 256)
  pub signals : (sig : ℕ) → IsTrue (is_static sys sig) → sig < 65536
  pub few_signals : length sys.signals ≤ 200
  pub params : (sig : ℕ) → params_of sys sig ≤ 8

-- the number with these bits
abbrev pub bits_value : List ℕ → ℕ
bits_value [] = 0
bits_value (b ∷ bs) = 2 ^ b + bits_value bs

abbrev pub pool_value : Pool → ℕ
pool_value s = s.count * 4294967296 + bits_value s.free

abbrev pub refs_value : Refs → ℕ
refs_value s = s.count * 4294967296 + length s.names

abbrev pub line_value : Line → ℕ
line_value s = s.f + s.l * 2097152 + s.m * 4398046511104

-- how many operations a word shows
abbrev pub mark_in : ℕ → ℕ → ℕ
mark_in w x = cond (ltb w 4224) (x / 4294967296) (x % 2097152 + x / 2097152 % 2097152 + x / 4398046511104)

-- the words show the states
pub record Shows (sys : System) (words : List ℕ) (now : Now) : Type 0 where
  pub wide : length words ≡ table_words
  pub pools : (p : ℕ) → IsTrue (is_pool sys p) → slice_index words (pool_at p) ≡ pool_value (now.pool p)
  pub blocks : (p b : ℕ) → IsTrue (is_block sys p b) → slice_index words (block_at p b) ≡ refs_value (now.refs p b)
  pub queues : (a : ℕ) → IsTrue (is_object sys a) → slice_index words (queue_at a) ≡ line_value (now.line a)

abbrev pub is_log : ℕ → SeatLog → Bool
is_log n g = eqb g.number n

abbrev pub is_number : ℕ → ℕ → Bool
is_number n k = eqb k n

-- The lanes' records stand in the views. Each lane number is in one view: as that of a log, or as one that was never handed out.
pub record Logs (lanes : List (List Rec)) (views : List View) : Type 0 where
  pub count : length lanes ≡ 49
  pub own : (id : ℕ) (v : View) → get_elem? views id ≡ some v → Each (λ (g : SeatLog). get_elem? lanes g.number ≡ some g.recs) v.logs
  pub once : (n : ℕ) → n < 49 → sum_over (λ (v : View). many (is_log n) v.logs) views + sum_over (λ (v : View). many (is_number n) v.lane_numbers) views ≡ 1
  pub later : (n : ℕ) → n < 49 → 0 < sum_over (λ (v : View). many (is_number n) v.lane_numbers) views → get_elem? lanes n ≡ some []
  pub rights : sum_over (λ (v : View). length v.logs + length v.lane_numbers) views ≡ 49
  pub room : Each (λ (lane : List Rec). length lane ≤ 1000001) lanes

-- a view with no lane and no right to any has nothing
pub record Idle (v : View) : Type 0 where
  pub fresh : v.fresh ≡ []
  pub used : v.used ≡ []
  pub hands : v.hands ≡ []
  pub gives : v.gives ≡ []
  pub fills : v.fills ≡ []
  pub claims : v.claims ≡ []
  pub takes : v.takes ≡ []

abbrev pub AllIdle : List View → Type 0
AllIdle views = (id : ℕ) (v : View) → get_elem? views id ≡ some v → length v.logs + length v.lane_numbers ≡ 0 → Idle v

abbrev pub is_spot : ℕ → ℕ → Spot → Bool
is_spot p b x = eqb x.pool p && eqb x.block b

abbrev pub is_spot_at : ℕ → ℕ → ℕ → Spot → Bool
is_spot_at p b n x = is_spot p b x && eqb x.at n

abbrev pub is_ref : ℕ → ℕ → ℕ → Entry → Bool
is_ref p b k e = (eqb e.pool p && eqb e.block b) && eqb e.name k

-- 1 where the block is free
abbrev pub free_bit : Now → ℕ → ℕ → ℕ
free_bit now p b = cond (has (now.pool p).free b) 1 0

-- 1 where the block has a reference
abbrev pub lives : List ℕ → ℕ
lives [] = 0
lives (r ∷ rs) = 1

abbrev pub spots : (View → List Spot) → List View → ℕ → ℕ → ℕ
spots part views p b = sum_over (λ v. many (is_spot p b) (part v)) views

abbrev pub spots_at : (View → List Spot) → List View → ℕ → ℕ → ℕ → ℕ
spots_at part views p b n = sum_over (λ v. many (is_spot_at p b n) (part v)) views

-- how often the reference stands in the queues
abbrev pub in_lines : Now → ℕ → ℕ → ℕ → ℕ
in_lines now p b k = upto 33 (λ a. many (is_ref p b k) (now.line a).entries)

-- each block is in one place, and each reference too
pub record Tokens (sys : System) (views : List View) (now : Now) : Type 0 where
  pub place : (p b : ℕ) → free_bit now p b + spots (λ v. v.fresh) views p b + spots (λ v. v.used) views p b + lives (now.refs p b).names ≡ cond (is_block sys p b) 1 0
  pub hand : (p b k : ℕ) → 0 < p → sum_over (λ (v : View). many (is_ref p b k) v.hands) views + in_lines now p b k ≡ many (λ r. eqb r k) (now.refs p b).names
  -- a fresh block has had no operation in its life, a used one has; each token says how many operations its block had
  pub begun : (p b n : ℕ) → 0 < spots_at (λ v. v.fresh) views p b n → (now.edge p b ≡ n) × ((now.refs p b).count ≡ n)
  pub worn : (p b n : ℕ) → 0 < spots_at (λ v. v.used) views p b n → (now.edge p b < n) × ((now.refs p b).count ≡ n)
  -- each reference that stands was made in the block's life
  pub named : (p b : ℕ) → Each (λ r. now.edge p b ≤ r) (now.refs p b).names

abbrev pub is_fill : ℕ → ℕ → ℕ → Fill → Bool
is_fill p b j x = (eqb x.pool p && eqb x.block b) && eqb x.place j

abbrev pub fills_of : ℕ → ℕ → Fill → Bool
fills_of p b x = eqb x.pool p && eqb x.block b

abbrev pub fills_with : ℕ → ℕ → ℕ → ℕ → Fill → Bool
fills_with p b j n x = is_fill p b j x && eqb x.value n

abbrev pub gives_of : ℕ → ℕ → PendingGive → Bool
gives_of p b g = eqb g.pool p && eqb g.block b

-- a signal of the system, and as many parameters as its events have
pub record IsContent (sys : System) (sig : ℕ) (pars : List ℕ) : Type 0 where
  pub from : 4 ≤ sig
  pub within : sig < length sys.signals + 4
  pub params : length pars ≡ params_of sys sig

-- a block that was given out has an event of the system
abbrev pub HasEvent : System → List ℕ → Type 0
HasEvent sys [] = Unit {0}
HasEvent sys (sig ∷ pars) = IsContent sys sig pars

-- a give under way knows the block's content
abbrev pub Tells : Now → PendingGive → Type 0
Tells now g = g.event ≡ now.content g.pool g.block

-- what a view has of blocks that it was given stands beside these blocks
pub record Beside (now : Now) (v : View) : Type 0 where
  pub fills : (p b : ℕ) → many (fills_of p b) v.fills ≤ 9 * many (is_spot p b) v.fresh
  pub gives : (p b : ℕ) → many (gives_of p b) v.gives ≤ many (is_spot p b) v.fresh
  pub told : Each (Tells now) v.gives

-- the event words of a block are its content, but for those still to be written, which the view has that has the block fresh
pub record Events (sys : System) (words : List ℕ) (views : List View) (now : Now) : Type 0 where
  pub few : (p b : ℕ) → IsTrue (is_block sys p b) → length (now.content p b) ≤ 9
  pub word : (p b j : ℕ) → IsTrue (is_block sys p b) → j < length (now.content p b) → sum_over (λ (v : View). many (is_fill p b j) v.fills) views ≡ 0 → slice_index words (event_word_at p b j) ≡ slice_index (now.content p b) j
  pub right : (p b j n : ℕ) → n ≢ slice_index (now.content p b) j → sum_over (λ (v : View). many (fills_with p b j n) v.fills) views ≡ 0
  pub beside : (id : ℕ) (v : View) → get_elem? views id ≡ some v → Beside now v
  pub event : (p b : ℕ) → IsTrue (is_block sys p b) → HasEvent sys (now.content p b)

-- an entry in line: its cell, and its stage: 0 claimed, 1 laid, 2 being taken
pub record InLine : Type 0 where
  pub entry : Entry
  pub cell : ℕ
  pub stage : ℕ

-- an entry as a cell has it; a static one has its signal as its block
abbrev pub code : Entry → ℕ
code e = 9223372036854775808 + cond (eqb e.pool 0) e.block (e.pool * 9007199254740992 + e.block * 281474976710656 + e.name)

-- an entry that fits a cell; a static one has a static signal of the system
pub record Codable (sys : System) (e : Entry) : Type 0 where
  pub static : e.pool ≡ 0 → IsTrue (is_static sys e.block) × (e.block < 65536) × (e.name ≡ 0)
  pub pooled : 0 < e.pool → (e.pool < 16) × (e.block < 32) × (e.name < 281474976710656)

-- what the cell contains
abbrev pub cell_value : ℕ → List InLine → ℕ
cell_value j [] = 0
cell_value j (i ∷ is) = cond (eqb i.cell j) (cond (eqb i.stage 1) (code i.entry) 0) (cell_value j is)

-- the cells follow on one another, round a ring of n
abbrev pub Run : ℕ → ℕ → List InLine → Type 0
Run n b [] = Unit {0}
Run n b (i ∷ is) = (i.cell ≡ b % n) × Run n (b + 1) is

-- only the first may be under way
abbrev pub OnlyFirst : List InLine → Type 0
OnlyFirst [] = Unit {0}
OnlyFirst (i ∷ is) = Each (λ (j : InLine). j.stage ≢ 2) is

abbrev pub entries_of : List InLine → List Entry
entries_of [] = []
entries_of (i ∷ is) = i.entry ∷ entries_of is

abbrev pub is_entry : Entry → Entry → Bool
is_entry d e = (eqb e.pool d.pool && eqb e.block d.block) && eqb e.name d.name

abbrev pub is_item : ℕ → ℕ → Entry → InLine → Bool
is_item stage j e i = (eqb i.stage stage && eqb i.cell j) && is_entry e i.entry

abbrev pub is_place : ℕ → ℕ → Entry → CellPlace → Bool
is_place a j e x = (eqb x.queue a && eqb x.cell j) && is_entry e x.entry

abbrev pub on_queue : ℕ → CellPlace → Bool
on_queue a x = eqb x.queue a

abbrev pub is_serve : ℕ → Serve → Bool
is_serve a x = eqb x.object a

abbrev pub Items : Type 0
Items = ℕ → List InLine

-- one queue of n cells: its line, and its cells
pub record QueueCells (sys : System) (n : ℕ) (words : List ℕ) (a : ℕ) (s : Line) (items : List InLine) : Type 0 where
  pub some_cell : (0 < n) × (n ≤ 256)
  pub same : entries_of items ≡ s.entries
  pub run : Run n (s.m + (n - 1) * s.l) items
  pub short : length items ≤ n
  pub cells : (j : ℕ) → j < n → slice_index words (cell_at a j) ≡ cell_value j items
  pub first : OnlyFirst items
  pub staged : Each (λ (i : InLine). i.stage < 3) items
  pub bounded : Each (Codable sys) s.entries
  pub counted : length items + s.m ≡ s.f + s.l

-- a record of a last-in post to queue a, and of a take of it
abbrev pub lifo_on : ℕ → ℕ → Body → Bool
lifo_on a o (Lifo f l m e) = eqb o a
lifo_on a o _ = false

abbrev pub took_on : ℕ → ℕ → Body → Bool
took_on a o (Took f l m e) = eqb o a
took_on a o _ = false

abbrev pub is_lifo : ℕ → Rec → Bool
is_lifo a r = lifo_on a (item_of r).of (item_of r).body

abbrev pub is_take_of : ℕ → Rec → Bool
is_take_of a r = took_on a (item_of r).of (item_of r).body

-- how many of these records the logs have
abbrev pub records : (Rec → Bool) → List SeatLog → ℕ
records t logs = sum_over (λ (g : SeatLog). many t g.recs) logs

-- the last-in posts and takes of a queue are those of the lane that serves it
pub record Served (now : Now) (logs : List SeatLog) (x : Serve) : Type 0 where
  pub lifos : (now.line x.object).l ≡ x.lifos
  pub takes : (now.line x.object).m ≡ x.takes
  pub few : x.lifos + x.takes ≤ 1000001
  pub lifos_are : x.lifos ≡ records (is_lifo x.object) logs
  pub takes_are : x.takes ≡ records (is_take_of x.object) logs

-- what a view serves, and that it has no last-in post and no take of another queue
pub record Serves (now : Now) (v : View) : Type 0 where
  pub counts : Each (Served now v.logs) v.serves
  pub within : sum_over (λ (x : Serve). x.lifos + x.takes) v.serves ≤ sum_over (λ (g : SeatLog). length g.recs) v.logs
  pub others : (a : ℕ) → many (is_serve a) v.serves ≡ 0 → (records (is_lifo a) v.logs ≡ 0) × (records (is_take_of a) v.logs ≡ 0)
  pub taking : (a : ℕ) → many (on_queue a) v.takes ≤ many (is_serve a) v.serves

pub record Queues (sys : System) (words : List ℕ) (views : List View) (now : Now) (items : Items) : Type 0 where
  pub queue : (a : ℕ) → IsTrue (is_object sys a) → QueueCells sys (ring_of sys a + 1) words a (now.line a) (items a)
  pub none : (a : ℕ) → is_object sys a ≡ false → (items a ≡ []) × ((now.line a).entries ≡ [])
  pub claims : (a j : ℕ) (e : Entry) → sum_over (λ (v : View). many (is_place a j e) v.claims) views ≡ many (is_item 0 j e) (items a)
  pub takes : (a j : ℕ) (e : Entry) → sum_over (λ (v : View). many (is_place a j e) v.takes) views ≡ many (is_item 2 j e) (items a)
  pub serves : (a : ℕ) → sum_over (λ (v : View). many (is_serve a) v.serves) views ≡ cond (is_object sys a) 1 0
  pub home : (id : ℕ) (v : View) → get_elem? views id ≡ some v → Serves now v

-- What was seen of a word lies behind it or is it, and is one value for one number of operations
abbrev pub Was : Type 0
Was = ℕ → ℕ → ℕ

pub record Seen (words : List ℕ) (views : List View) (was : Was) : Type 0 where
  pub now : (w : ℕ) → w < 4488 → slice_index words w ≡ was w (mark_in w (slice_index words w))
  pub each : (id : ℕ) (v : View) → get_elem? views id ≡ some v
      → Each (λ (g : Glance). (g.word < 4488) × (mark_in g.word g.value ≤ mark_in g.word (slice_index words g.word)) × (g.value ≡ was g.word (mark_in g.word g.value))) v.seen

-- What a word was after so many operations is the packed state that its history gives there
pub record Past (sys : System) (lanes : List (List Rec)) (was : Was) : Type 0 where
  pub pool : (p k : ℕ) → IsTrue (is_pool sys p) → k < length (hist (word.Pool p) (all_items lanes)) → was (pool_at p) k ≡ pool_value (after (free_blocks (blocks_of sys p)) (take k (hist (word.Pool p) (all_items lanes))))
  pub refs : (p b k : ℕ) → IsTrue (is_block sys p b) → k < length (hist (word.Block p b) (all_items lanes)) → was (block_at p b) k ≡ refs_value (after references (take k (hist (word.Block p b) (all_items lanes))))
  pub line : (a k : ℕ) → IsTrue (is_object sys a) → k < length (hist (word.Queue a) (all_items lanes)) → was (queue_at a) k ≡ line_value (after (line (ring_of sys a)) (take k (hist (word.Queue a) (all_items lanes))))

-- a content as an event
abbrev pub event_of_content : List ℕ → Event
event_of_content [] = record { sig = 0; pars = [] }
event_of_content (sig ∷ pars) = record { sig = sig; pars = pars }

-- What was read of an entry is its event: that of the life in which its reference was made
pub record IsKnown (sys : System) (lanes : List (List Rec)) (now : Now) (q : Content) : Type 0 where
  pub static : q.entry.pool ≡ 0 → q.event ≡ q.entry.block ∷ []
  pub block : 0 < q.entry.pool → IsTrue (is_block sys q.entry.pool q.entry.block)
  pub made : 0 < q.entry.pool → q.entry.name < (now.refs q.entry.pool q.entry.block).count
  pub given : 0 < q.entry.pool → last_given q.entry.block q.entry.name None (hist (word.Pool q.entry.pool) (all_items lanes)) ≡ Some (event_of_content q.event)

abbrev pub AllKnown : System → List (List Rec) → Now → List View → Type 0
AllKnown sys lanes now views = (id : ℕ) (v : View) → get_elem? views id ≡ some v → Each (IsKnown sys lanes now) v.contents

pub record Holds (sys : System) (words : List ℕ) (views : List View) : Type 0 where
  pub lanes : List (List Rec)
  pub now : Now
  pub items : Items
  pub was : Was
  pub fitting : Fitting sys
  pub leaves : LeavesWords sys lanes now
  pub shows : Shows sys words now
  pub logs : Logs lanes views
  pub idle : AllIdle views
  pub tokens : Tokens sys views now
  pub events : Events sys words views now
  pub queues : Queues sys words views now items
  pub seen : Seen words views was
  pub past : Past sys lanes was
  pub contents : AllKnown sys lanes now views
