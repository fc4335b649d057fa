-- What each step of a lane tells it: of its view before, the number found and its view after.
use Rattle.std.specs.Prelude.{◌≡◌, ◌≢◌, ℕ, ◌+◌, ◌-◌, ◌*◌, ◌/◌, ◌%◌, ◌<◌, ◌≤◌, eqb, leb, ◌&&◌, Bool, List, [], ◌∷◌, cond, Some, None, length, slice_index, count_ones}
use Rattle.std.specs.declared.option.Option.{Option}
use Rattle.std.specs.Int.{bit_at}
use Rattle.std.specs.Option.{unwrap_or}
use Rattle.qp_model.specs.declared.record.Rec.{Rec}
use Rattle.qp_model.specs.declared.systems.System.{System}
use Rattle.qp_model.specs.declared.bodies.Entry.{Entry}
use Rattle.qp_model.specs.declared.words.Word.{Word}
use Rattle.qp_model.specs.declared.words.Word.TheVariants as word
use Rattle.qp_model.specs.Sites.{ring_of}
use Rattle.qp_table.specs.Counting.{many}
use Rattle.qp_table.specs.Rule.{pool_at, block_at, queue_at, mark_in, is_spot, Codable, code, HasEvent, IsContent}
use Rattle.qp_table.specs.After.{rec_of, ref, glanced, noted, began, gave, doubled, reference_dropped, put_back, read_from, filled, learned, claimed, put_first, laid, emptied, view_took}
use Rattle.qp_table.specs.declared.view.View.{View}
use Rattle.qp_table.specs.QueueLaws.{f_in, l_in, m_in, cells_of}
use Rattle.qp_table.specs.Words.{value_seen, Ahead}
use Rattle.qp_table.specs.Lane.{event_seen}
use Rattle.qp_table.specs.Telling.{Saw, OwnTold}

-- a word was found to be n, and x was seen of it
pub record WordTold (sys : System) (w : Word) (v u : View) (n x : ℕ) : Type 0 where
  pub found : Ahead sys w v n
  pub saw : Saw sys w v u x

-- a block of a system has such a place
abbrev pub HasPlace : ℕ → ℕ → Type 0
HasPlace p b = (0 < p) × (p < 16) × (b < 32)

-- the content of a block that was given out: an event of the system
abbrev pub IsGivenEvent : System → List ℕ → Type 0
IsGivenEvent sys event = HasEvent sys event × (0 < length event)

-- Blocks.

-- a reference is dropped: the word counted one, and no block of this place is used here
abbrev pub DropTold : System → ℕ → ℕ → ℕ → ℕ → View → ℕ → View → Type 0
DropTold sys o p b k v n u =
    (u ≡ reference_dropped v (block_at p b) (n + 4294967295) (rec_of 18 o (p ∷ b ∷ (n / 4294967296) ∷ k ∷ [])) p b k)
    × WordTold sys (word.Block p b) v u n (n + 4294967295) × (0 < n % 4294967296) × (many (is_spot p b) v.used ≡ 0)

-- the first reference: the word counted none, and the lane learns the event
abbrev pub FirstTold : System → ℕ → ℕ → ℕ → View → ℕ → View → Type 0
FirstTold sys o p b v n u =
    (event : List ℕ)
    × (u ≡ learned (began v (block_at p b) (n + 4294967297) (rec_of 17 o (p ∷ b ∷ (n / 4294967296) ∷ [])) p b (n / 4294967296)) (ref p b (n / 4294967296)) event)
    × WordTold sys (word.Block p b) v u n (n + 4294967297) × (n % 4294967296 ≡ 0) × IsGivenEvent sys event × HasPlace p b

-- another one: the word counted some, no block of this place is fresh or used here, and the lane learns the event
abbrev pub MoreTold : System → ℕ → ℕ → ℕ → View → ℕ → View → Type 0
MoreTold sys o p b v n u =
    (event : List ℕ)
    × (u ≡ learned (doubled v (block_at p b) (n + 4294967297) (rec_of 17 o (p ∷ b ∷ (n / 4294967296) ∷ [])) p b (n / 4294967296)) (ref p b (n / 4294967296)) event)
    × WordTold sys (word.Block p b) v u n (n + 4294967297) × (0 < n % 4294967296) × (many (is_spot p b) v.fresh ≡ 0) × (many (is_spot p b) v.used ≡ 0) × IsGivenEvent sys event × HasPlace p b

-- A used block comes back, whose life ended at m operations. The lane has seen no more of them.
abbrev pub BackTold : System → ℕ → ℕ → ℕ → ℕ → ℕ → View → ℕ → View → Type 0
BackTold sys o p b m k v n u =
    (u ≡ put_back v (pool_at p) (n + k) (rec_of 19 o (p ∷ (n / 4294967296) ∷ b ∷ m ∷ [])) p b)
    × WordTold sys (word.Pool p) v u n (n + k) × (mark_in (block_at p b) (value_seen sys (word.Block p b) v.seen) ≤ m)

-- where the life of a fresh block begins: at m operations, and with no reference
abbrev pub FromTold : System → ℕ → ℕ → ℕ → View → ℕ → View → Type 0
FromTold sys p b m v n u = (u ≡ read_from v (block_at p b) n p b) × WordTold sys (word.Block p b) v u n n × (n / 4294967296 ≡ m) × (n % 4294967296 ≡ 0)

-- an event word is written
abbrev pub FillTold : ℕ → ℕ → ℕ → ℕ → View → ℕ → View → Type 0
FillTold p b j x v n u = u ≡ filled v p b j x

-- Queues.

-- a queue's word was found to be n, and x was seen of it
pub record QueueTold (sys : System) (a : ℕ) (v u : View) (n x : ℕ) : Type 0 where
  pub found : Ahead sys (word.Queue a) v n
  pub saw : Saw sys (word.Queue a) v u x
  pub mark : mark_in (queue_at a) x ≡ x % 2097152 + x / 2097152 % 2097152 + x / 4398046511104
  pub small : n % 2097152 + n / 2097152 % 2097152 ≤ 3000000
  pub takes : n / 4398046511104 ≤ n % 2097152 + n / 2097152 % 2097152
  pub own : OwnTold a (n / 2097152 % 2097152) (n / 4398046511104) v

-- a look without a record, and with the record `seen`
abbrev pub LookTold : System → ℕ → View → ℕ → View → Type 0
LookTold sys a v n u = (u ≡ glanced v (queue_at a) n) × QueueTold sys a v u n n

abbrev pub SeenTold : System → ℕ → View → ℕ → View → Type 0
SeenTold sys a v n u = (u ≡ noted v (queue_at a) n (rec_of 7 0 (a ∷ (n % 2097152) ∷ (n / 2097152 % 2097152) ∷ (n / 4398046511104) ∷ []))) × QueueTold sys a v u n n

-- the look of a take: with the record `nil` where the queue is empty and no such record has these counts yet
abbrev pub nil_rec : ℕ → ℕ → Rec
nil_rec a x = rec_of 6 a ((x % 2097152) ∷ (x / 2097152 % 2097152) ∷ (x / 4398046511104) ∷ [])

abbrev pub nil_at : (ℕ → Bool) → ℕ → View → ℕ → View
nil_at is_new a v x = cond (eqb (f_in x + l_in x) (m_in x) && is_new x) (noted v (queue_at a) x (nil_rec a x)) (glanced v (queue_at a) x)

abbrev pub NilTold : System → (ℕ → Bool) → ℕ → View → ℕ → View → Type 0
NilTold sys is_new a v n u = (u ≡ nil_at is_new a v n) × QueueTold sys a v u n n

-- the free entries at these counts
abbrev pub free_in : ℕ → ℕ → ℕ
free_in ring x = ring + 1 - (x % 2097152 + x / 2097152 % 2097152 - x / 4398046511104)

-- the record of a post that finds at most the margin free; a post without a margin finds the queue full
abbrev pub refusal_rec : Option ℕ → ℕ → ℕ → ℕ → Rec
refusal_rec (Some k) o a x = rec_of 22 o (a ∷ (x % 2097152) ∷ (x / 2097152 % 2097152) ∷ (x / 4398046511104) ∷ k ∷ [])
refusal_rec None o a x = rec_of 42 o (1 ∷ a ∷ (x % 2097152) ∷ (x / 2097152 % 2097152) ∷ (x / 4398046511104) ∷ [])

-- a look before a post: with that record where too few are free
abbrev pub eyed_for : ℕ → ℕ → ℕ → Option ℕ → View → ℕ → View
eyed_for ring a o margin v x = cond (leb (free_in ring x) (unwrap_or margin 0)) (noted v (queue_at a) x (refusal_rec margin o a x)) (glanced v (queue_at a) x)

abbrev pub EyeTold : System → ℕ → ℕ → Option ℕ → View → ℕ → View → Type 0
EyeTold sys a o margin v n u = (u ≡ eyed_for (ring_of sys a) a o margin v n) × QueueTold sys a v u n n

-- the entry is claimed at the counts x
abbrev pub claimed_at : ℕ → ℕ → ℕ → Entry → View → ℕ → View
claimed_at ring a o e v x = claimed v a (x + 1) (rec_of 20 o (a ∷ (x % 2097152 + 1) ∷ (x / 2097152 % 2097152) ∷ (x / 4398046511104) ∷ e.pool ∷ e.block ∷ e.name ∷ [])) (x % 2097152 % (ring + 1)) e (mark_in (queue_at a) (x + 1))

-- a try: the entry is claimed, or the word shows more operations than it was seen with
abbrev pub TryTold : System → ℕ → ℕ → Option ℕ → Entry → View → ℕ → ℕ → View → Type 0
TryTold sys a o margin e v old n u =
    (n ≡ old → (u ≡ claimed_at (ring_of sys a) a o e v old) × QueueTold sys a v u old (old + 1))
    × (n ≢ old → (mark_in (queue_at a) old < mark_in (queue_at a) n) × EyeTold sys a o margin v n u)

-- the cell of a claim is written
abbrev pub LayTold : ℕ → ℕ → Entry → View → ℕ → View → Type 0
LayTold a j e v n u = u ≡ laid v a j e

-- the front cell is emptied: nothing was there and nothing changed, or the entry is under way
abbrev pub SwapTold : System → ℕ → ℕ → View → ℕ → View → Type 0
SwapTold sys a j v n u = (n ≡ 0 → u ≡ v) × (n ≢ 0 → (e : Entry) × Codable sys e × (n ≡ code e) × (u ≡ emptied v a j e))

-- the entry of a take is freed, and a pooled one's event learned
abbrev pub freed : ℕ → ℕ → Entry → View → ℕ → View
freed a j e v n = view_took v a (n + 4398046511104) (rec_of 5 a ((n % 2097152) ∷ (n / 2097152 % 2097152) ∷ (n / 4398046511104 + 1) ∷ e.pool ∷ e.block ∷ e.name ∷ [])) j e

abbrev pub FreeTold : System → ℕ → ℕ → Entry → View → ℕ → View → Type 0
FreeTold sys a j e v n u =
    (event : List ℕ) × (u ≡ cond {A = View} (eqb e.pool 0) (freed a j e v n) (learned (freed a j e v n) e event)) × QueueTold sys a v u n (n + 4398046511104) × (0 < e.pool → IsGivenEvent sys event × HasPlace e.pool e.block)

-- a look before a last-in post, and a try: the entry is claimed for the cell before the front
abbrev pub eyed_last : ℕ → ℕ → View → ℕ → View
eyed_last ring a v x = cond (eqb (free_in ring x) 0) (noted v (queue_at a) x (rec_of 42 a (5 ∷ a ∷ (x % 2097152) ∷ (x / 2097152 % 2097152) ∷ (x / 4398046511104) ∷ []))) (glanced v (queue_at a) x)

abbrev pub EyeLastTold : System → ℕ → View → ℕ → View → Type 0
EyeLastTold sys a v n u = (u ≡ eyed_last (ring_of sys a) a v n) × QueueTold sys a v u n n

abbrev pub before_front : System → ℕ → ℕ → ℕ
before_front sys a x = (m_in x + (cells_of sys a - 1) * l_in x + (cells_of sys a - 1)) % cells_of sys a

abbrev pub put_first_at : System → ℕ → Entry → View → ℕ → View
put_first_at sys a e v x = put_first v a (x + 2097152) (rec_of 21 a ((x % 2097152) ∷ (x / 2097152 % 2097152 + 1) ∷ (x / 4398046511104) ∷ e.pool ∷ e.block ∷ e.name ∷ [])) (before_front sys a x) e (mark_in (queue_at a) (x + 2097152))

abbrev pub LastTold : System → ℕ → Entry → View → ℕ → ℕ → View → Type 0
LastTold sys a e v old n u =
    (n ≡ old → (u ≡ put_first_at sys a e v old) × QueueTold sys a v u old (old + 2097152))
    × (n ≢ old → (mark_in (queue_at a) old < mark_in (queue_at a) n) × EyeLastTold sys a v n u)

-- a word of the event of a reference in hand, which the lane has learned: the signal at place 0, then its parameters
abbrev pub ReadTold : System → ℕ → ℕ → ℕ → ℕ → View → ℕ → View → Type 0
ReadTold sys p b k j v n u =
    let e = event_seen v.contents (ref p b k) in
    (u ≡ v) × IsContent sys e.sig e.pars × (j ≤ length e.pars → n ≡ slice_index (e.sig ∷ e.pars) j)

-- Pools.

-- how many blocks a pool's word has free
abbrev pub free_of : ℕ → ℕ
free_of x = count_ones (x % 4294967296)

-- the record of a give that finds at most the reserve free; without a reserve it finds none
abbrev pub shortage_rec : Option ℕ → ℕ → ℕ → ℕ → Rec
shortage_rec (Some k) o p x = rec_of 16 o (p ∷ (x / 4294967296) ∷ free_of x ∷ k ∷ [])
shortage_rec None o p x = rec_of 42 o (2 ∷ p ∷ (x / 4294967296) ∷ 0 ∷ [])

-- a look before a give: with that record where too few are free
abbrev pub eyed_pool : ℕ → ℕ → Option ℕ → View → ℕ → View
eyed_pool p o reserve v x = cond (leb (free_of x) (unwrap_or reserve 0)) (noted v (pool_at p) x (shortage_rec reserve o p x)) (glanced v (pool_at p) x)

abbrev pub EyePoolTold : System → ℕ → ℕ → Option ℕ → View → ℕ → View → Type 0
EyePoolTold sys p o reserve v n u = (u ≡ eyed_pool p o reserve v n) × WordTold sys (word.Pool p) v u n n

-- the block's bit is the lowest of the map
abbrev pub IsLowest : ℕ → ℕ → Type 0
IsLowest b m = (bit_at m b ≡ 1) × ((i : ℕ) → i < b → bit_at m i ≡ 0)

-- A try: the lowest free block is given out, whose life begins at `from` operations; or the word shows more operations than it was
-- seen with.
abbrev pub GiveTold : System → ℕ → ℕ → Option ℕ → ℕ → ℕ → List ℕ → View → ℕ → ℕ → ℕ → View → Type 0
GiveTold sys p o reserve b sig pars v old new n u =
    (n ≡ old → (from : ℕ) × (u ≡ gave v (pool_at p) new (rec_of 15 o (p ∷ (old / 4294967296) ∷ b ∷ from ∷ sig ∷ pars)) p b from (sig ∷ pars)) × WordTold sys (word.Pool p) v u old new × (free_of new + 1 ≡ free_of old) × HasPlace p b)
    × (n ≢ old → (mark_in (pool_at p) old < mark_in (pool_at p) n) × EyePoolTold sys p o reserve v n u)
