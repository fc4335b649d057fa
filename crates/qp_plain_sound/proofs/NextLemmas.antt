-- What every kind of record does to its word: it draws the next number, or shows how many there were.
use Rattle.std.proofs.Common.{◌≡◌, ℕ, suc, ◌+◌, List, refl, ◌∙◌, ap, arith}
use Rattle.qp_model.specs.declared.record.Rec.{Rec}
use Rattle.qp_model.specs.declared.words.Word.TheVariants as word
use Rattle.qp_model.specs.declared.systems.System.{System}
use Rattle.qp_model.specs.declared.bodies.Body.{Body}
use Rattle.qp_model.specs.declared.bodies.Body.TheVariants.{Took, Nil, Seen, New, Short, Inc, Dec, Back, Post, Lifo, Full, Pub, Sub, Unsub, Same, Arm, Disarm, Rearm, Idle, Tick, Fire, NoEntry, NoBlock, Armed, NoLifo}
use Rattle.qp_model.specs.Record.{Item}
use Rattle.qp_model.specs.History.{Draws, Shows, touch_of, total, all_items}
use Rattle.qp_model.specs.WordLaw.{Words}
use Rattle.qp_calls.specs.Tokens.{Token}
use Rattle.qp_plain_sound.specs.May.{May, IsQueue}
use Rattle.qp_plain_sound.proofs.Marks.{Next, Drawing, Showing, Silent}
use Rattle.qp_plain_sound.proofs.Standing.{pool-count, refs-count, line-count, set-count, clock-count, block-pool}

-- What each kind does to its word.
module _ (sys : System) (lanes : List (List Rec)) (words : Words sys lanes) (hands : List Token) where
  abbrev items : List Item
  items = all_items lanes

  pub queue_total : (a f l m : ℕ) → IsQueue sys lanes a f l m → f + l + m ≡ total (word.Queue a) items
  queue_total a f l m q = rw (q.firsts, q.lasts, q.takes) (line-count sys lanes words a q.object)

  pub next-of : (o : ℕ) (b : Body) → May sys lanes hands o b → Next items (touch_of o b)
  unfolding May
  next-of o (New p n b from sig pars) m = Drawing (word.Pool p) (ap (λ x. Draws (word.Pool p) (suc x)) (m.number ∙ pool-count sys lanes words p (block-pool sys p b m.block).0)) (words.pools p (block-pool sys p b m.block).0).numbers
  next-of o (Inc p b r) m = Drawing (word.Block p b) (ap (λ x. Draws (word.Block p b) (suc x)) (m.number ∙ refs-count sys lanes words p b m.block)) (words.blocks p b m.block).numbers
  next-of o (Dec p b d k) m = Drawing (word.Block p b) (ap (λ x. Draws (word.Block p b) (suc x)) (m.number ∙ refs-count sys lanes words p b m.block)) (words.blocks p b m.block).numbers
  next-of o (Back p n b to) m = Drawing (word.Pool p) (ap (λ x. Draws (word.Pool p) (suc x)) (m.number ∙ pool-count sys lanes words p (block-pool sys p b m.block).0)) (words.pools p (block-pool sys p b m.block).0).numbers
  next-of o (Short p n free reserve) m = Showing (word.Pool p) (ap (Shows (word.Pool p)) (m.0.number ∙ pool-count sys lanes words p m.0.pool))
  next-of o (NoBlock p n free) m = Showing (word.Pool p) (ap (Shows (word.Pool p)) (m.0.number ∙ pool-count sys lanes words p m.0.pool))
  next-of o (Post a f l m e) may = let q = queue_total a may.0 l m may.2.queue in let is : f ≡ may.0 + 1 = may.1 in Drawing (word.Queue a) (ap (Draws (word.Queue a)) (omega (arith, q, is))) (words.queues a may.2.queue.object).numbers
  next-of o (Lifo f l m e) may = let q = queue_total o f may.0 m may.2.queue in let is : l ≡ may.0 + 1 = may.1 in Drawing (word.Queue o) (ap (Draws (word.Queue o)) (omega (arith, q, is))) (words.queues o may.2.queue.object).numbers
  next-of o (Took f l m e) may = let q = queue_total o f l may.0 may.2.queue in let is : m ≡ may.0 + 1 = may.1 in Drawing (word.Queue o) (ap (Draws (word.Queue o)) (omega (arith, q, is))) (words.queues o may.2.queue.object).numbers
  next-of o (Seen p f l m) may = Showing (word.Queue p) (ap (Shows (word.Queue p)) (queue_total p f l m may))
  next-of o (Nil f l m) may = Showing (word.Queue o) (ap (Shows (word.Queue o)) (queue_total o f l m may.0))
  next-of o (Full a f l m margin) may = Showing (word.Queue a) (ap (Shows (word.Queue a)) (queue_total a f l m may.0))
  next-of o (NoEntry a f l m) may = Showing (word.Queue a) (ap (Shows (word.Queue a)) (queue_total a f l m may.0))
  next-of o (NoLifo a f l m) may = Showing (word.Queue a) (ap (Shows (word.Queue a)) (queue_total a f l m may.0))
  next-of o (Sub sig n) m = Drawing (word.Signal sig) (ap (λ x. Draws (word.Signal sig) (suc x)) (m.0.number ∙ set-count sys lanes words sig m.0.signal)) (words.signals sig m.0.signal).numbers
  next-of o (Unsub sig n) m = Drawing (word.Signal sig) (ap (λ x. Draws (word.Signal sig) (suc x)) (m.0.number ∙ set-count sys lanes words sig m.0.signal)) (words.signals sig m.0.signal).numbers
  next-of o (Same sig n) m = Showing (word.Signal sig) (ap (Shows (word.Signal sig)) (m.number ∙ set-count sys lanes words sig m.signal))
  next-of o (Pub sig n set) m = Showing (word.Signal sig) (ap (Shows (word.Signal sig)) (m.0.number ∙ set-count sys lanes words sig m.0.signal))
  next-of o (Arm t n ticks interval) m = Drawing (word.Timer t) (ap (λ x. Draws (word.Timer t) (suc x)) (m.number ∙ clock-count sys lanes words t m.timer)) (words.timers t m.timer).numbers
  next-of o (Disarm t n former) m = Drawing (word.Timer t) (ap (λ x. Draws (word.Timer t) (suc x)) (m.0.number ∙ clock-count sys lanes words t m.0.timer)) (words.timers t m.0.timer).numbers
  next-of o (Rearm t n former ticks) m = Drawing (word.Timer t) (ap (λ x. Draws (word.Timer t) (suc x)) (m.number ∙ clock-count sys lanes words t m.timer)) (words.timers t m.timer).numbers
  next-of o (Idle t n) m = Showing (word.Timer t) (ap (Shows (word.Timer t)) (m.number ∙ clock-count sys lanes words t m.timer))
  next-of o (Armed t n counter) m = Showing (word.Timer t) (ap (Shows (word.Timer t)) (m.0.number ∙ clock-count sys lanes words t m.0.timer))
  next-of o (Tick t n counter) m = Drawing (word.Timer t) (ap (λ x. Draws (word.Timer t) (suc x)) (m.0.number ∙ clock-count sys lanes words t m.0.timer)) (words.timers t m.0.timer).numbers
  next-of o (Fire t n reload) m = Drawing (word.Timer t) (ap (λ x. Draws (word.Timer t) (suc x)) (m.0.number ∙ clock-count sys lanes words t m.0.timer)) (words.timers t m.0.timer).numbers
  next-of o _ m = Silent refl
