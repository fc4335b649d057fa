-- What the words hold at one moment of a run, and which records may come next by it.
use Rattle.std.specs.Prelude.{◌≡◌, ℕ, ◌+◌, ◌==◌, Bool, true, ◌&&◌, length, IsTrue}
use Rattle.std.specs.declared.option.Option.{Option}
use Rattle.qp_chart.specs.StateTree.{has}
use Rattle.qp_model.specs.declared.systems.System.{System}
use Rattle.qp_model.specs.declared.bodies.Entry.{Entry}
use Rattle.qp_model.specs.declared.bodies.Body.{Body}
use Rattle.qp_model.specs.declared.bodies.Body.TheVariants.{Took, Nil, Seen, New, Short, Inc, Dec, Back, Post, Lifo, Full, Pub, Lock, Sub, Unsub, Same, Arm, Disarm, Rearm, Idle, Tick, Fire, NoEntry, NoBlock, Armed, NoLifo}
use Rattle.qp_model.specs.Told.{Event, Known, Nothing, Free, Left, Former, Member, Told}
use Rattle.qp_model.specs.Knowing.{event_known}
use Rattle.qp_model.specs.Sites.{ring_of, blocks_of}
use Rattle.qp_model.specs.FreeBlocks.{Pool, pool_may, pool_says}
use Rattle.qp_model.specs.References.{Refs, refs_next, refs_may}
use Rattle.qp_model.specs.Lives.{Life, life_may}
use Rattle.qp_model.specs.Line.{Line, line_may, line_says}
use Rattle.qp_model.specs.Subscribers.{Subscribers, subscribers_may, subscribers_says}
use Rattle.qp_model.specs.TimeEvents.{Clock, clock_may, clock_says}

-- what each word holds, the ceiling of the lane, and the events of entries
pub record WordsHeld : Type 0 where
  pub pools : ℕ → Pool
  pub blocks : ℕ → ℕ → Refs
  pub lives : ℕ → ℕ → Life
  pub lines : ℕ → Line
  pub sets : ℕ → Subscribers
  pub clocks : ℕ → Clock
  pub ceiling : ℕ
  pub events : Entry → Option Event

-- each queue holds what was posted and not taken
pub record IsCounted (h : WordsHeld) : Type 0 where
  pub counted : (a : ℕ) → length (h.lines a).entries + (h.lines a).m ≡ (h.lines a).f + (h.lines a).l

-- the operation of a record of o is allowed, with the next number of its word; or what it shows is what the word holds
unfoldable pub comes_next : System → WordsHeld → ℕ → Body → Bool
unfolding ring_of
comes_next sys h o (Took f l m e) = line_may (ring_of sys o) (h.lines o) (Took f l m e)
comes_next sys h o (Nil f l m) = line_says (ring_of sys o) (h.lines o) (Nil f l m)
comes_next sys h o (Seen p f l m) = line_says (ring_of sys p) (h.lines p) (Seen p f l m)
comes_next sys h o (Post a f l m e) = line_may (ring_of sys a) (h.lines a) (Post a f l m e)
comes_next sys h o (Lifo f l m e) = line_may (ring_of sys o) (h.lines o) (Lifo f l m e)
comes_next sys h o (Full a f l m margin) = line_says (ring_of sys a) (h.lines a) (Full a f l m margin)
comes_next sys h o (NoEntry a f l m) = line_says (ring_of sys a) (h.lines a) (NoEntry a f l m)
comes_next sys h o (NoLifo a f l m) = line_says (ring_of sys a) (h.lines a) (NoLifo a f l m)
comes_next sys h o (New p n b from sig pars) =
    pool_may (blocks_of sys p) (h.pools p) (New p n b from sig pars) && life_may b (h.lives p b) (New p n b from sig pars)
comes_next sys h o (Back p n b to) = pool_may (blocks_of sys p) (h.pools p) (Back p n b to) && life_may b (h.lives p b) (Back p n b to)
comes_next sys h o (Short p n free reserve) = (n == (h.pools p).count) && pool_says (h.pools p) (Short p n free reserve)
comes_next sys h o (NoBlock p n free) = (n == (h.pools p).count) && pool_says (h.pools p) (NoBlock p n free)
comes_next sys h o (Inc p b r) = refs_may (h.blocks p b) (Inc p b r)
comes_next sys h o (Dec p b d k) = refs_may (h.blocks p b) (Dec p b d k)
comes_next sys h o (Sub sig n) = subscribers_may (h.sets sig) o (Sub sig n)
comes_next sys h o (Unsub sig n) = subscribers_may (h.sets sig) o (Unsub sig n)
comes_next sys h o (Pub sig n set) = (n == (h.sets sig).count) && subscribers_says (h.sets sig) (Pub sig n set)
comes_next sys h o (Same sig n) = n == (h.sets sig).count
comes_next sys h o (Arm t n ticks interval) = clock_may (h.clocks t) (Arm t n ticks interval)
comes_next sys h o (Disarm t n former) = clock_may (h.clocks t) (Disarm t n former)
comes_next sys h o (Rearm t n former ticks) = clock_may (h.clocks t) (Rearm t n former ticks)
comes_next sys h o (Tick t n counter) = clock_may (h.clocks t) (Tick t n counter)
comes_next sys h o (Fire t n reload) = clock_may (h.clocks t) (Fire t n reload)
comes_next sys h o (Idle t n) = (n == (h.clocks t).count) && clock_says (h.clocks t) (Idle t n)
comes_next sys h o (Armed t n counter) = (n == (h.clocks t).count) && clock_says (h.clocks t) (Armed t n counter)
comes_next sys h o b = true

-- what is known beside it
unfoldable pub known_then : WordsHeld → ℕ → Body → Known
known_then h o (Took f l m e) = event_known (h.events e)
known_then h o (New p n b from sig pars) = Free (length (h.pools p).free)
known_then h o (Dec p b d k) = Left (length (refs_next (h.blocks p b) (Dec p b d k)).names)
known_then h o (Lock c) = Former h.ceiling
known_then h o (Same sig n) = Member (has (h.sets sig).members o)
known_then h o b = Nothing

-- the record of o, as it is told, may come next
pub record MayComeNext (sys : System) (h : WordsHeld) (o : ℕ) (t : Told) : Type 0 where
  pub may : IsTrue (comes_next sys h o t.body)
  pub known : t.known ≡ known_then h o t.body
