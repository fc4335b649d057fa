-- What the loops on shared words end with.
use Rattle.std.specs.Prelude.{◌≡◌, ℕ, ◌+◌, ◌-◌, ◌*◌, ◌/◌, ◌%◌, ◌^◌, ◌<◌, ◌≤◌, eqb, ◌&&◌, Bool, true, false, IsTrue, List, [], ◌∷◌, cond, Some, None}
use Rattle.std.specs.List.{list_any}
use Rattle.std.specs.declared.option.Option.{Option}
use Rattle.std.specs.Option.{unwrap_or}
use Rattle.qp_model.specs.declared.systems.System.{System}
use Rattle.qp_model.specs.declared.bodies.Entry.{Entry}
use Rattle.qp_model.specs.Sites.{ring_of}
use Rattle.qp_model.specs.declared.words.Word.TheVariants as word
use Rattle.qp_calls.specs.declared.tokens.HeldEntry as token
use Rattle.qp_calls.specs.declared.tokens.HeldEntry.TheVariants as entries
use Rattle.qp_calls.specs.Clauses.{entry_of}
use Rattle.qp_table.specs.Rule.{pool_at, block_at, queue_at, Codable, IsContent}
use Rattle.qp_table.specs.After.{noted, rec_of, laid, emptied, learned, gave, read_from, SeesMore, full_rec}
use Rattle.qp_table.specs.declared.view.Fill.{Fill}
use Rattle.qp_table.specs.declared.view.Glance.{Glance}
use Rattle.qp_table.specs.declared.view.View.{View}
use Rattle.qp_table.specs.QueueLaws.{f_in, l_in, m_in}
use Rattle.qp_table.specs.Lane.{event_seen}
use Rattle.qp_table.specs.Told.{QueueTold, free_in, refusal_rec, claimed_at, put_first_at, before_front, freed, NilTold, IsGivenEvent, HasPlace, WordTold, free_of, shortage_rec, IsLowest}
use Rattle.qp_shared_loops.specs.declared.gives.Life.{Life}

-- the word at w was seen as x
abbrev pub was_seen_as : List Glance → ℕ → ℕ → Bool
was_seen_as seen w x = list_any (λ (g : Glance). eqb g.word w && eqb g.value x) seen

-- the same view, which has seen other glances
abbrev pub seeing : List Glance → View → View
seeing glances v = record v { seen = glances }

-- The entry is claimed where the queue's word was x, with more entries free than the margin. Nothing else changed but what was seen.
-- The count of first-in posts stays within its bits.
pub record Claims (sys : System) (a o : ℕ) (margin : Option ℕ) (e : Entry) (v : View) (x : ℕ) (u : View) : Type 0 where
  pub glances : List Glance
  pub more : SeesMore v.seen glances
  pub is : u ≡ claimed_at (ring_of sys a) a o e (seeing glances v) x
  pub enough : unwrap_or margin 0 < free_in (ring_of sys a) x
  pub fits : f_in x + 1 < 2097152
  pub told : QueueTold sys a v u x (x + 1)

-- Where the word was found as x, at most the margin was free: there is the record of it, and nothing is claimed.
pub record ClaimsNone (sys : System) (a o : ℕ) (margin : Option ℕ) (v : View) (x : ℕ) (u : View) : Type 0 where
  pub glances : List Glance
  pub more : SeesMore v.seen glances
  pub is : u ≡ noted (seeing glances v) (queue_at a) x (refusal_rec margin o a x)
  pub few : free_in (ring_of sys a) x ≤ unwrap_or margin 0
  pub told : QueueTold sys a v u x x

abbrev pub ClaimEnds : System → ℕ → ℕ → Option ℕ → Entry → View → ℕ → Bool → View → Type 0
ClaimEnds sys a o margin e v x true u = Claims sys a o margin e v x u
ClaimEnds sys a o margin e v x false u = ClaimsNone sys a o margin v x u

-- the queue has no more entries than cells
abbrev pub FitsCells : System → ℕ → ℕ → Type 0
FitsCells sys a x = f_in x + l_in x ≤ m_in x + (ring_of sys a + 1)

-- The same of a last-in post by the object whose queue it is, where an entry is free.
pub record PutsFirst (sys : System) (a : ℕ) (e : Entry) (v : View) (x : ℕ) (u : View) : Type 0 where
  pub glances : List Glance
  pub more : SeesMore v.seen glances
  pub is : u ≡ put_first_at sys a e (seeing glances v) x
  pub enough : 0 < free_in (ring_of sys a) x
  pub fits : l_in x + 1 < 2097152
  pub told : QueueTold sys a v u x (x + 2097152)

pub record PutsNone (sys : System) (a : ℕ) (v : View) (x : ℕ) (u : View) : Type 0 where
  pub glances : List Glance
  pub more : SeesMore v.seen glances
  pub is : u ≡ noted (seeing glances v) (queue_at a) x (full_rec a x)
  pub few : free_in (ring_of sys a) x ≡ 0
  pub short : FitsCells sys a x
  pub told : QueueTold sys a v u x x

abbrev pub LastInEnds : System → ℕ → Entry → View → ℕ → Bool → View → Type 0
LastInEnds sys a e v x true u = PutsFirst sys a e v x u
LastInEnds sys a e v x false u = PutsNone sys a v x u

-- The entry is claimed, and its cell laid: that behind the last, round the ring.
pub record LoopPosts (sys : System) (a o : ℕ) (margin : Option ℕ) (e : Entry) (v : View) (x : ℕ) (u : View) : Type 0 where
  pub glances : List Glance
  pub more : SeesMore v.seen glances
  pub is : u ≡ laid (claimed_at (ring_of sys a) a o e (seeing glances v) x) a (f_in x % (ring_of sys a + 1)) e
  pub enough : unwrap_or margin 0 < free_in (ring_of sys a) x
  pub fits : f_in x + 1 < 2097152
  pub told : QueueTold sys a v u x (x + 1)

abbrev pub PostEnds : System → ℕ → ℕ → Option ℕ → Entry → View → ℕ → Bool → View → Type 0
PostEnds sys a o margin e v x true u = LoopPosts sys a o margin e v x u
PostEnds sys a o margin e v x false u = ClaimsNone sys a o margin v x u

-- The same of a last-in post, whose cell is that before the front.
pub record LoopPostsFirst (sys : System) (a : ℕ) (e : Entry) (v : View) (x : ℕ) (u : View) : Type 0 where
  pub glances : List Glance
  pub more : SeesMore v.seen glances
  pub is : u ≡ laid (put_first_at sys a e (seeing glances v) x) a (before_front sys a x) e
  pub enough : 0 < free_in (ring_of sys a) x
  pub fits : l_in x + 1 < 2097152
  pub told : QueueTold sys a v u x (x + 2097152)

abbrev pub PostFirstEnds : System → ℕ → Entry → View → ℕ → Bool → View → Type 0
PostFirstEnds sys a e v x true u = LoopPostsFirst sys a e v x u
PostFirstEnds sys a e v x false u = PutsNone sys a v x u

-- the event that is known of a reference is one of the system
abbrev pub KnowsEvent : System → Entry → View → Type 0
KnowsEvent sys e u = 0 < e.pool → IsContent sys (event_seen u.contents e).sig (event_seen u.contents e).pars

-- a reference is to a block of a pool
abbrev pub IsReference : token.HeldEntry → Type 0
IsReference (entries.Static sig) = Unit {0}
IsReference (entries.Pool h) = 0 < h.pool

-- The entry e was taken where the queue's word was x: its cell was emptied, then it was freed, and a pooled one's event was learned.
pub record LoopTakes (sys : System) (a : ℕ) (e : Entry) (v : View) (x : ℕ) (u : View) : Type 0 where
  pub glances : List Glance
  pub more : SeesMore v.seen glances
  pub cell : ℕ
  pub event : List ℕ
  pub is : u ≡ cond {A = View} (eqb e.pool 0) (freed a cell e (emptied (seeing glances v) a cell e) x) (learned (freed a cell e (emptied (seeing glances v) a cell e) x) e event)
  pub codable : Codable sys e
  pub content : 0 < e.pool → IsGivenEvent sys event × HasPlace e.pool e.block
  pub knows : KnowsEvent sys e u
  pub some : m_in x < f_in x + l_in x
  pub told : QueueTold sys a v u x (x + 4398046511104)

-- The queue was empty: there is the record of it where the word is new.
abbrev pub LoopTakesNone : System → (ℕ → Bool) → ℕ → View → ℕ → View → Type 0
LoopTakesNone sys is_new a v x u = NilTold sys is_new a v x u × (f_in x + l_in x ≡ m_in x)

abbrev pub TakeEnds : System → (ℕ → Bool) → ℕ → View → ℕ → Option token.HeldEntry → View → Type 0
TakeEnds sys is_new a v x (Some e) u = LoopTakes sys a (entry_of e) v x u × IsReference e
TakeEnds sys is_new a v x None u = LoopTakesNone sys is_new a v x u

-- the front cell was laid with the entry e, and is empty now
abbrev pub Empties : System → ℕ → ℕ → token.HeldEntry → View → View → Type 0
Empties sys a cell e v u = Codable sys (entry_of e) × (u ≡ emptied v a cell (entry_of e)) × IsReference e

-- the same view, with these event words to be written
abbrev pub filling : List Fill → View → View
filling fills v = record v { fills = fills }

-- the pool's word after block b was given out where it was x, and the view then
abbrev pub word_without : ℕ → ℕ → ℕ
word_without x b = x + 4294967296 - 2 ^ b

abbrev pub given_at : ℕ → ℕ → ℕ → ℕ → ℕ → List ℕ → View → ℕ → View
given_at p o b from sig pars v x = gave v (pool_at p) (word_without x b) (rec_of 15 o (p ∷ (x / 4294967296) ∷ b ∷ from ∷ sig ∷ pars)) p b from (sig ∷ pars)

-- The lowest free block was given out where the pool's word was x, with more blocks free than the reserve. Nothing else changed but what
-- was seen.
pub record LoopGivesBlock (sys : System) (p o : ℕ) (reserve : Option ℕ) (sig : ℕ) (pars : List ℕ) (v : View) (x b : ℕ) (u : View) : Type 0 where
  pub glances : List Glance
  pub more : SeesMore v.seen glances
  pub looked : IsTrue (was_seen_as glances (pool_at p) x)
  pub from : ℕ
  pub is : u ≡ given_at p o b from sig pars (seeing glances v) x
  pub enough : unwrap_or reserve 0 < free_of x
  pub lowest : IsLowest b (x % 4294967296)
  pub left : free_of (word_without x b) + 1 ≡ free_of x
  pub counted : word_without x b / 4294967296 ≡ x / 4294967296 + 1
  pub place : HasPlace p b
  pub told : WordTold sys (word.Pool p) v u x (word_without x b)

-- Where the word was found as x, at most the reserve was free: there is the record of it, and nothing is given out.
pub record LoopGivesNone (sys : System) (p o : ℕ) (reserve : Option ℕ) (v : View) (x : ℕ) (u : View) : Type 0 where
  pub glances : List Glance
  pub more : SeesMore v.seen glances
  pub is : u ≡ noted (seeing glances v) (pool_at p) x (shortage_rec reserve o p x)
  pub few : free_of x ≤ unwrap_or reserve 0
  pub told : WordTold sys (word.Pool p) v u x x

abbrev pub BlockEnds : System → ℕ → ℕ → Option ℕ → ℕ → List ℕ → View → ℕ → Option ℕ → View → Type 0
BlockEnds sys p o reserve sig pars v x (Some b) u = LoopGivesBlock sys p o reserve sig pars v x b u
BlockEnds sys p o reserve sig pars v x None u = LoopGivesNone sys p o reserve v x u

-- The same, and then the block's event was written and its word looked at, which shows after how many operations its life begins, and
-- that no reference stands. `mid` is a view between the two looks.
pub record LoopGives (sys : System) (p o : ℕ) (reserve : Option ℕ) (sig : ℕ) (pars : List ℕ) (v : View) (x b from : ℕ) (u : View) : Type 0 where
  pub glances : List Glance
  pub more : SeesMore v.seen glances
  pub looked : IsTrue (was_seen_as glances (pool_at p) x)
  pub is : u ≡ read_from (filling [] (given_at p o b from sig pars (seeing glances v) x)) (block_at p b) (from * 4294967296) p b
  pub enough : unwrap_or reserve 0 < free_of x
  pub lowest : IsLowest b (x % 4294967296)
  pub left : free_of (word_without x b) + 1 ≡ free_of x
  pub counted : word_without x b / 4294967296 ≡ x / 4294967296 + 1
  pub place : HasPlace p b
  pub mid : View
  pub told : WordTold sys (word.Pool p) v mid x (word_without x b)
  pub shown : WordTold sys (word.Block p b) mid u (from * 4294967296) (from * 4294967296)

abbrev pub GiveEnds : System → ℕ → ℕ → Option ℕ → ℕ → List ℕ → View → ℕ → Option Life → View → Type 0
GiveEnds sys p o reserve sig pars v x (Some life) u = LoopGives sys p o reserve sig pars v x life.block life.from u
GiveEnds sys p o reserve sig pars v x None u = LoopGivesNone sys p o reserve v x u
