-- Which record may come next: its numbers are those of its word, and its tokens stand in the hands.
use Rattle.std.specs.Prelude.{◌≡◌, ℕ, ◌+◌, ◌-◌, ◌<◌, ◌≤◌, true, false, ◌⊎◌, List, ◌∷◌, length, IsTrue, IsFalse}
use Rattle.qp_chart.specs.StateTree.{has}
use Rattle.qp_model.specs.declared.record.Rec.{Rec}
use Rattle.qp_model.specs.declared.systems.System.{System}
use Rattle.qp_model.specs.declared.bodies.Entry.{Entry}
use Rattle.qp_model.specs.declared.bodies.Body.{Body}
use Rattle.qp_model.specs.declared.bodies.Body.TheVariants.{Took, Nil, Seen, New, Short, Inc, Dec, Back, Post, Lifo, Full, Pub, Sub, Unsub, Same, Arm, Disarm, Rearm, Idle, Tick, Fire, NoEntry, NoBlock, Armed, NoLifo}
use Rattle.qp_model.specs.Lists.{is_first}
use Rattle.qp_model.specs.Told.{Event}
use Rattle.qp_model.specs.Subscribers.{bits_of_set}
use Rattle.qp_model.specs.Sites.{ring_of}
use Rattle.qp_model.specs.WordLaw.{is_block, is_object, is_pool, is_signal, is_timer}
use Rattle.qp_calls.specs.Tokens.{Token, Held, Loose, token_of, stands}
use Rattle.qp_plain_sound.specs.WordStates.{pool_in, refs_in, line_in, set_in, clock_in}
use Rattle.qp_plain_sound.specs.Sound.{is_good, is_event}

-- Blocks.

-- the lowest free block of a pool is given out; `from` counts the operations of its word
pub record MayGive (sys : System) (lanes : List (List Rec)) (p n b from : ℕ) (ev : Event) : Type 0 where
  pub block : IsTrue (is_block sys p b)
  pub number : n ≡ (pool_in sys lanes p).count
  pub lowest : IsTrue (is_first b (pool_in sys lanes p).free)
  pub since : from ≡ (refs_in lanes p b).count
  pub event : IsTrue (is_event sys ev)

-- a reference is made: the first one to a block in the hands, or another one beside one in the hands
pub record MayMake (sys : System) (lanes : List (List Rec)) (hands : List Token) (p b r : ℕ) : Type 0 where
  pub block : IsTrue (is_block sys p b)
  pub number : r ≡ (refs_in lanes p b).count
  pub token : IsTrue (stands (Loose p b false) hands) ⊎ ((k : ℕ) × IsTrue (stands (Held p b k) hands))

pub record MayDrop (sys : System) (lanes : List (List Rec)) (hands : List Token) (p b d k : ℕ) : Type 0 where
  pub block : IsTrue (is_block sys p b)
  pub number : d ≡ (refs_in lanes p b).count
  pub token : IsTrue (stands (Held p b k) hands)

-- `to` counts the operations of the block's word
pub record MayGiveBack (sys : System) (lanes : List (List Rec)) (hands : List Token) (p n b to : ℕ) : Type 0 where
  pub block : IsTrue (is_block sys p b)
  pub number : n ≡ (pool_in sys lanes p).count
  pub until : to ≡ (refs_in lanes p b).count
  pub token : IsTrue (stands (Loose p b true) hands)

-- n operations, after which so many blocks are free
pub record IsPool (sys : System) (lanes : List (List Rec)) (p n free : ℕ) : Type 0 where
  pub pool : IsTrue (is_pool sys p)
  pub number : n ≡ (pool_in sys lanes p).count
  pub free_blocks : free ≡ length (pool_in sys lanes p).free

-- Queues.

-- the counts of the queue of a
pub record IsQueue (sys : System) (lanes : List (List Rec)) (a f l m : ℕ) : Type 0 where
  pub object : IsTrue (is_object sys a)
  pub firsts : f ≡ (line_in sys lanes a).f
  pub lasts : l ≡ (line_in sys lanes a).l
  pub takes : m ≡ (line_in sys lanes a).m

-- an entry that may be posted: it is static, or its reference stands in the hands
pub record IsOwned (sys : System) (hands : List Token) (e : Entry) : Type 0 where
  pub good : IsTrue (is_good sys e)
  pub token : (e.pool ≡ 0) ⊎ IsTrue (stands (token_of e) hands)

-- a post; the counts are those before it
pub record MayPost (sys : System) (lanes : List (List Rec)) (hands : List Token) (a f l m : ℕ) (e : Entry) : Type 0 where
  pub queue : IsQueue sys lanes a f l m
  pub room : length (line_in sys lanes a).entries ≤ ring_of sys a
  pub owned : IsOwned sys hands e

-- a take of the front entry; the counts are those before it
pub record MayTake (sys : System) (lanes : List (List Rec)) (a f l m : ℕ) (e : Entry) : Type 0 where
  pub queue : IsQueue sys lanes a f l m
  pub others : List Entry
  pub front : (line_in sys lanes a).entries ≡ e ∷ others

-- Signals and time events.

-- n operations of the signal's word
pub record HasSignalOps (sys : System) (lanes : List (List Rec)) (sig n : ℕ) : Type 0 where
  pub signal : IsTrue (is_signal sys sig)
  pub number : n ≡ (set_in lanes sig).count

-- n operations of the timer's word, after which this is its counter
pub record HasTimerOps (sys : System) (lanes : List (List Rec)) (t n counter : ℕ) : Type 0 where
  pub timer : IsTrue (is_timer sys t)
  pub number : n ≡ (clock_in lanes t).count
  pub is_counter : counter ≡ (clock_in lanes t).counter

-- a post and a take state the counts after them
abbrev pub BeforePost : (ℕ → Type 0) → ℕ → Type 0
BeforePost P f = (k : ℕ) × (f ≡ k + 1) × P k

-- All kinds. A record that is on no word may always come.
unfoldable pub May : System → List (List Rec) → List Token → ℕ → Body → Type 0
unfolding is_object
May sys lanes hands o (New p n b from sig pars) = MayGive sys lanes p n b from (record { sig = sig; pars = pars })
May sys lanes hands o (Inc p b r) = MayMake sys lanes hands p b r
May sys lanes hands o (Dec p b d k) = MayDrop sys lanes hands p b d k
May sys lanes hands o (Back p n b to) = MayGiveBack sys lanes hands p n b to
May sys lanes hands o (Short p n free reserve) = IsPool sys lanes p n free × (free ≤ reserve)
May sys lanes hands o (NoBlock p n free) = IsPool sys lanes p n free × (free ≡ 0)
May sys lanes hands o (Post a f l m e) = BeforePost (λ k. MayPost sys lanes hands a k l m e) f
May sys lanes hands o (Lifo f l m e) = BeforePost (λ k. MayPost sys lanes hands o f k m e) l
May sys lanes hands o (Took f l m e) = BeforePost (λ k. MayTake sys lanes o f l k e) m
May sys lanes hands o (Seen p f l m) = IsQueue sys lanes p f l m
May sys lanes hands o (Nil f l m) = IsQueue sys lanes o f l m × (f + l ≡ m)
May sys lanes hands o (Full a f l m margin) = IsQueue sys lanes a f l m × (ring_of sys a + 1 - (f + l - m) ≤ margin)
May sys lanes hands o (NoEntry a f l m) = IsQueue sys lanes a f l m × (f + l - m ≡ ring_of sys a + 1)
May sys lanes hands o (NoLifo a f l m) = IsQueue sys lanes a f l m × (f + l - m ≡ ring_of sys a + 1)
May sys lanes hands o (Sub sig n) =
    HasSignalOps sys lanes sig n × IsFalse (has (set_in lanes sig).members o) × IsTrue (is_object sys o)
May sys lanes hands o (Unsub sig n) = HasSignalOps sys lanes sig n × IsTrue (has (set_in lanes sig).members o)
May sys lanes hands o (Same sig n) = HasSignalOps sys lanes sig n
May sys lanes hands o (Pub sig n set) = HasSignalOps sys lanes sig n × (set ≡ bits_of_set (set_in lanes sig).members)
May sys lanes hands o (Arm t n ticks interval) = HasTimerOps sys lanes t n 0
May sys lanes hands o (Disarm t n former) = HasTimerOps sys lanes t n former × (0 < former)
May sys lanes hands o (Rearm t n former ticks) = HasTimerOps sys lanes t n former
May sys lanes hands o (Idle t n) = HasTimerOps sys lanes t n 0
May sys lanes hands o (Armed t n counter) = HasTimerOps sys lanes t n counter × (0 < counter)
May sys lanes hands o (Tick t n counter) = HasTimerOps sys lanes t n (counter + 1) × (0 < counter)
May sys lanes hands o (Fire t n reload) = HasTimerOps sys lanes t n 1 × (reload ≡ (clock_in lanes t).interval)
May sys lanes hands o _ = Unit {0}
