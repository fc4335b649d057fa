-- Records that are given, made once more: the world behind each.
use Rattle.std.proofs.Common.{◌≡◌, ℕ, suc, ◌+◌, ◌-◌, ◌/◌, ◌^◌, ◌==◌, true, false, List, [], ◌∷◌, ◌++◌, length, drop, slice_set, refl, sym, ◌∙◌, ap, subst, arith, Option, Some, None}
use Rattle.std.proofs.lemmas.Bool.Decides.{nat_tests}
use Rattle.qp_base.specs.declared.event.Ev.{Ev}
use Rattle.qp_model.specs.declared.record.Rec.{Rec}
use Rattle.qp_model.specs.declared.words.Word.{Word}
use Rattle.qp_model.specs.declared.bodies.Entry as model
use Rattle.qp_model.specs.declared.bodies.Body.{Body}
use Rattle.qp_model.specs.declared.bodies.Body.TheVariants.{Took, New, Inc, Dec, Back, Post, Lifo, Sub, Unsub}
use Rattle.qp_model.specs.Record.{item_of}
use Rattle.qp_model.specs.History.{drawn_on, touch_of}
use Rattle.qp_model.specs.Lists.{is_first, with_number, without_all}
use Rattle.qp_model.specs.FreeBlocks.{Pool}
use Rattle.qp_model.specs.Line.{Line}
use Rattle.qp_model.specs.TimeEvents.{Clock, clock_next}
use Rattle.qp_model.specs.Sites.{ring_of}
use Rattle.qp_calls.specs.declared.tokens.HeldEntry.{HeldEntry}
use Rattle.qp_calls.specs.Clauses.{entry_of, event_of}
use Rattle.qp_plain_words.specs.declared.block.BlockWord.{BlockWord}
use Rattle.qp_plain_words.specs.declared.signal.SignalWord.{SignalWord}
use Rattle.qp_plain_words.specs.Queue.{Queue, TakesFront}
use Rattle.qp_plain_words.proofs.SetLemmas.{set-put, members-put, set-take}
use Rattle.qp_plain_sound.specs.Sound.{hands_in}
use Rattle.qp_plain_sound.specs.WordStates.{pool_in, refs_in, line_in, set_in, clock_in}
use Rattle.qp_plain_sound.proofs.FreeLemmas.{length-without_one}
use Rattle.qp_plain_sound.proofs.Standing.{block-pool}
use Rattle.qp_plain_sound.proofs.Standing as standing
use Rattle.qp_plain.specs.declared.book.Book.{Book}
use Rattle.qp_plain.specs.declared.world.PlainWorld.{PlainWorld}
use Rattle.qp_plain.specs.Book.{BookGains, lists_of}
use Rattle.qp_plain.specs.Repeat.{MayAt, MayRepeat}
use Rattle.qp_plain.specs.Tables.{SignalIs, block_place}
use Rattle.qp_plain.specs.World.{WorldHolds}
use Rattle.qp_plain.proofs.Calling.{BlockIs}
use Rattle.qp_plain.proofs.QueueCalls.{moved-holds}
use Rattle.qp_plain.proofs.Turns.{block-moves, cells-back, cells-give, pool-moves, quiet, signal-moves, timer-moves}
use Rattle.qp_plain.proofs.BlockTable as block_table
use Rattle.qp_plain.proofs.QueueTable as queue_table
use Rattle.qp_plain.proofs.SignalTable as signal_table
use Rattle.qp_plain.proofs.TimerTable as timer_table
use Rattle.qp_plain.proofs.RepeatFacts.{may-of, new-may, back-may, inc-may, dec-may, post-may, lifo-may, take-may, sub-may, unsub-may, OnTimer}

-- The world behind the record.
module _ (w : PlainWorld) (b : Book) (r : Rec) (gains : BookGains r w.book b) (next : MayRepeat r w) where
  says-of : (body : Body) → (item_of r).body ≡ body → item_of r ≡ record { of = (item_of r).of; body = body }
  says-of body says = ap (λ x. record { of = (item_of r).of; body = x }) says

  of-may : (body : Body) → (item_of r).body ≡ body → MayAt w (item_of r).of body
  of-may body says = may-of w r next body says

  -- no word changes
  pub still-again : ((v : Word) → drawn_on v (touch_of (item_of r).of (item_of r).body) ≡ false)
      → WorldHolds w.sys.now (lists_of b) b.order.items w.pools.items w.blocks.items w.cells.items w.queues.items w.signals.items w.timers.items
  still-again off = quiet w b r gains (item_of r).of (item_of r).body refl next.may off

  pub timer-again : (t k : ℕ) (on : OnTimer w (item_of r).of (item_of r).body t) (q after : Clock) → k ≡ t → q ≡ clock_in (lists_of w.book) t → after ≡ clock_next q (item_of r).body
      → WorldHolds w.sys.now (lists_of b) b.order.items w.pools.items w.blocks.items w.cells.items w.queues.items w.signals.items (slice_set w.timers.items (k - 1) after)
  timer-again t k on q after at now is =
      timer_table.put w b t k after at
      (timer-moves w b r gains (item_of r).of (item_of r).body refl next.may t on.n after on.timer on.draws on.number (is ∙ ap (λ x. clock_next x (item_of r).body) now))

  -- an object comes to the subscribers, and goes
  pub sub-again : (g n k : ℕ) (q after : SignalWord) → (item_of r).body ≡ Sub g n → k ≡ g → SignalIs q (set_in (lists_of w.book) g) → after.ops ≡ q.ops + 1
      → after.set ≡ q.set + 2 ^ (item_of r).of / 2
      → WorldHolds w.sys.now (lists_of b) b.order.items w.pools.items w.blocks.items w.cells.items w.queues.items (slice_set w.signals.items (k - 4) after) w.timers.items
  sub-again g n k q after says at q_is ops set =
      let may = sub-may w r next g n says in
      let in_range = w.holds.limits.objects (item_of r).of may.2 in
      signal_table.put w b g k after at
      (signal-moves w b r gains (item_of r).of (Sub g n) (says-of (Sub g n) says) (of-may (Sub g n) says) g n after may.0.signal refl may.0.number
      (record {
        ops = ops ∙ ap (λ x. x + 1) q_is.ops;
        set = set ∙ ap (λ x. x + 2 ^ (item_of r).of / 2) q_is.set ∙ sym (set-put (set_in (lists_of w.book) g).members (item_of r).of may.1);
        members = members-put (set_in (lists_of w.book) g).members (item_of r).of in_range.0 in_range.1 q_is.members may.1;
      }))

  pub unsub-again : (g n k : ℕ) (q after : SignalWord) → (item_of r).body ≡ Unsub g n → k ≡ g → SignalIs q (set_in (lists_of w.book) g) → after.ops ≡ q.ops + 1
      → after.set + 2 ^ (item_of r).of / 2 ≡ q.set
      → WorldHolds w.sys.now (lists_of b) b.order.items w.pools.items w.blocks.items w.cells.items w.queues.items (slice_set w.signals.items (k - 4) after) w.timers.items
  unsub-again g n k q after says at q_is ops set =
      let may = unsub-may w r next g n says in
      let t = set-take (set_in (lists_of w.book) g).members (item_of r).of q_is.members may.1 in
      signal_table.put w b g k after at
      (signal-moves w b r gains (item_of r).of (Unsub g n) (says-of (Unsub g n) says) (of-may (Unsub g n) says) g n after may.0.signal refl may.0.number
      (record { ops = ops ∙ ap (λ x. x + 1) q_is.ops; set = omega (arith, set, t.bits, q_is.set); members = t.members }))

  -- an entry comes at the end of a queue, or in front, or is taken
  pub post-again : (a f l m : ℕ) (e : model.Entry) (x : HeldEntry) (k : ℕ) (q after : Queue) → (item_of r).body ≡ Post a f l m e → k ≡ a
      → q ≡ record { line = line_in w.sys.now (lists_of w.book) a; ring = ring_of w.sys.now a } → entry_of x ≡ e → after.ring ≡ q.ring
      → after.line ≡ record q.line { entries = q.line.entries ++ entry_of x ∷ []; f = q.line.f + 1 }
      → WorldHolds w.sys.now (lists_of b) b.order.items w.pools.items w.blocks.items w.cells.items (slice_set w.queues.items k after) w.signals.items w.timers.items
  post-again a f l m e x k q after says at q_is entry ring line =
      let may = post-may w r next a f l m e says in
      let now = may.2.queue in
      let its = ap (λ (z : Queue). z.line) q_is in
      let count : f + l + m ≡ suc (q.line.f + q.line.l + q.line.m) =
      omega (arith, may.1, now.firsts, now.lasts, now.takes, ap (λ z. z.f) its, ap (λ z. z.l) its, ap (λ z. z.m) its) in
      queue_table.put w b a k after at
      (moved-holds w b r gains a q.line.f q.line.l q.line.m q now.object q_is refl refl refl (item_of r).of (f + l + m) (Post a f l m e) after (says-of (Post a f l m e) says) (of-may (Post a f l m e) says) refl count ring
      (line ∙ ap (λ z. record q.line { entries = q.line.entries ++ z ∷ []; f = q.line.f + 1 }) entry))

  pub lifo-again : (f l m : ℕ) (e : model.Entry) (x : HeldEntry) (k : ℕ) (q after : Queue) → (item_of r).body ≡ Lifo f l m e → k ≡ (item_of r).of
      → q ≡ record { line = line_in w.sys.now (lists_of w.book) (item_of r).of; ring = ring_of w.sys.now (item_of r).of } → entry_of x ≡ e → after.ring ≡ q.ring
      → after.line ≡ record q.line { entries = entry_of x ∷ q.line.entries; l = q.line.l + 1 }
      → WorldHolds w.sys.now (lists_of b) b.order.items w.pools.items w.blocks.items w.cells.items (slice_set w.queues.items k after) w.signals.items w.timers.items
  lifo-again f l m e x k q after says at q_is entry ring line =
      let may = lifo-may w r next f l m e says in
      let now = may.2.queue in
      let its = ap (λ (z : Queue). z.line) q_is in
      let count : f + l + m ≡ suc (q.line.f + q.line.l + q.line.m) =
      omega (arith, may.1, now.firsts, now.lasts, now.takes, ap (λ z. z.f) its, ap (λ z. z.l) its, ap (λ z. z.m) its) in
      queue_table.put w b (item_of r).of k after at
      (moved-holds w b r gains (item_of r).of q.line.f q.line.l q.line.m q now.object q_is refl refl refl (item_of r).of (f + l + m) (Lifo f l m e) after (says-of (Lifo f l m e) says) (of-may (Lifo f l m e) says) refl count ring
      (line ∙ ap (λ z. record q.line { entries = z ∷ q.line.entries; l = q.line.l + 1 }) entry))

  taken : (q after : Line) (e : model.Entry) (others : List model.Entry) (x : Option HeldEntry) → q.entries ≡ e ∷ others → TakesFront q after x
      → after ≡ record { entries = drop 1 q.entries; f = q.f; l = q.l; m = q.m + 1 }
  taken q after e others None front h = let wrong = sym h.0 ∙ front in absurd (cc)
  taken q after e others (Some y) front h = h.1 ∙ ap (λ z. record q { entries = z; m = q.m + 1 }) (sym (ap (drop 1) h.0))

  pub take-again : (f l m : ℕ) (e : model.Entry) (x : Option HeldEntry) (k : ℕ) (q after : Queue) → (item_of r).body ≡ Took f l m e → k ≡ (item_of r).of
      → q ≡ record { line = line_in w.sys.now (lists_of w.book) (item_of r).of; ring = ring_of w.sys.now (item_of r).of } → after.ring ≡ q.ring → TakesFront q.line after.line x
      → WorldHolds w.sys.now (lists_of b) b.order.items w.pools.items w.blocks.items w.cells.items (slice_set w.queues.items k after) w.signals.items w.timers.items
  take-again f l m e x k q after says at q_is ring takes =
      let may = take-may w r next f l m e says in
      let now = may.2.queue in
      let its = ap (λ (z : Queue). z.line) q_is in
      let count : f + l + m ≡ suc (q.line.f + q.line.l + q.line.m) =
      omega (arith, may.1, now.firsts, now.lasts, now.takes, ap (λ z. z.f) its, ap (λ z. z.l) its, ap (λ z. z.m) its) in
      queue_table.put w b (item_of r).of k after at
      (moved-holds w b r gains (item_of r).of q.line.f q.line.l q.line.m q now.object q_is refl refl refl (item_of r).of (f + l + m) (Took f l m e) after (says-of (Took f l m e) says) (of-may (Took f l m e) says) refl count ring
      (taken q.line after.line e may.2.others x (ap (λ z. z.entries) its ∙ may.2.front) takes))

  -- a reference is made, and dropped
  pub inc-again : (p c n at : ℕ) (q after : BlockWord) → (item_of r).body ≡ Inc p c n → at ≡ block_place p c → BlockIs w p c q → after ≡ record { ops = q.ops + 1; refs = q.refs + 1 }
      → WorldHolds w.sys.now (lists_of b) b.order.items w.pools.items (slice_set w.blocks.items at after) w.cells.items w.queues.items w.signals.items w.timers.items
  inc-again p c n at q after says there q_is is =
      let may = inc-may w r next p c n says in
      let more : after.refs ≡ suc (length (refs_in (lists_of w.book) p c).names) = ap (λ x. x.refs) is ∙ up q.refs ∙ ap suc q_is.refs in
      block_table.put w b p c at after there
      (block-moves w b r gains (item_of r).of (Inc p c n) (says-of (Inc p c n) says) (of-may (Inc p c n) says) p c n after may.block refl may.number (ap (λ x. x.ops) is ∙ ap (λ x. x + 1) q_is.ops) more)
    where
      up : (x : ℕ) → x + 1 ≡ suc x
      up x = omega arith

  pub dec-again : (p c n k at : ℕ) (q after : BlockWord) → (item_of r).body ≡ Dec p c n k → at ≡ block_place p c → BlockIs w p c q → after.ops ≡ q.ops + 1 → after.refs + 1 ≡ q.refs
      → WorldHolds w.sys.now (lists_of b) b.order.items w.pools.items (slice_set w.blocks.items at after) w.cells.items w.queues.items w.signals.items w.timers.items
  dec-again p c n k at q after says there q_is ops refs =
      let may = dec-may w r next p c n k says in
      let stand = standing.held-stands w.sys.now (lists_of w.book) (hands_in w.sys.now (lists_of w.book) w.book.order.items) w.holds.world.sound p c may.block k may.token in
      let less = length-without_one (refs_in (lists_of w.book) p c).names k stand in
      block_table.put w b p c at after there
      (block-moves w b r gains (item_of r).of (Dec p c n k) (says-of (Dec p c n k) says) (of-may (Dec p c n k) says) p c n after may.block refl may.number (ops ∙ ap (λ x. x + 1) q_is.ops) (omega (arith, refs, less, q_is.refs)))

  put-pool : (p k : ℕ) (x : Pool) (cells : List Ev) → k ≡ p → WorldHolds w.sys.now (lists_of b) b.order.items (slice_set w.pools.items (p - 1) x) w.blocks.items cells w.queues.items w.signals.items w.timers.items
      → WorldHolds w.sys.now (lists_of b) b.order.items (slice_set w.pools.items (k - 1) x) w.blocks.items cells w.queues.items w.signals.items w.timers.items
  put-pool p k x cells at h = subst (λ z. WorldHolds w.sys.now (lists_of b) b.order.items (slice_set w.pools.items (z - 1) x) w.blocks.items cells w.queues.items w.signals.items w.timers.items) (sym at) h

  -- a block comes back, and is given out
  pub back-again : (p n c to k : ℕ) (q after : Pool) → (item_of r).body ≡ Back p n c to → k ≡ p → q ≡ pool_in w.sys.now (lists_of w.book) p
      → after ≡ record { count = q.count + 1; free = with_number c q.free }
      → WorldHolds w.sys.now (lists_of b) b.order.items (slice_set w.pools.items (k - 1) after) w.blocks.items w.cells.items w.queues.items w.signals.items w.timers.items
  back-again p n c to k q after says at q_is is =
      let may = back-may w r next p n c to says in
      let pool = (block-pool w.sys.now p c may.block).0 in
      put-pool p k after w.cells.items at
      (pool-moves w b r gains (item_of r).of (Back p n c to) (says-of (Back p n c to) says) (of-may (Back p n c to) says) p n after w.cells.items pool refl may.number
      (is ∙ ap (λ (x : Pool). record { count = x.count + 1; free = with_number c x.free }) q_is) (cells-back w b r gains (item_of r).of p n c to (says-of (Back p n c to) says) pool may.number))

  same-first : (x y : ℕ) (xs : List ℕ) → is_first x xs ≡ true → is_first y xs ≡ true → x ≡ y
  same-first x y [] h k = absurd (cc)
  same-first x y (z ∷ zs) h k = let a : z ≡ x = number z x h in let b : z ≡ y = number z y k in sym a ∙ b
    where
      number : (x y : ℕ) → (x == y) ≡ true → x ≡ y
      number x y e = grind (arith, nat_tests)

  pub new-again : (p n c from sig : ℕ) (pars : List ℕ) (k at first : ℕ) (e : Ev) (q after : Pool) → (item_of r).body ≡ New p n c from sig pars → k ≡ p → at ≡ block_place p c
      → q ≡ pool_in w.sys.now (lists_of w.book) p → is_first first q.free ≡ true → after ≡ record { count = q.count + 1; free = without_all first q.free }
      → event_of e ≡ record { sig = sig; pars = pars }
      → WorldHolds w.sys.now (lists_of b) b.order.items (slice_set w.pools.items (k - 1) after) w.blocks.items (slice_set w.cells.items at e) w.queues.items w.signals.items w.timers.items
  new-again p n c from sig pars k at first e q after says k_is at_is q_is lowest is stored =
      let may = new-may w r next p n c from sig pars says in
      let pool = (block-pool w.sys.now p c may.block).0 in
      let same : first ≡ c = same-first first c (pool_in w.sys.now (lists_of w.book) p).free (subst (λ (x : Pool). is_first first x.free ≡ true) q_is lowest) may.lowest in
      put-pool p k after (slice_set w.cells.items at e) k_is
      (subst (λ z. WorldHolds w.sys.now (lists_of b) b.order.items (slice_set w.pools.items (p - 1) after) w.blocks.items (slice_set w.cells.items z e) w.queues.items w.signals.items w.timers.items) (sym at_is)
      (pool-moves w b r gains (item_of r).of (New p n c from sig pars) (says-of (New p n c from sig pars) says) (of-may (New p n c from sig pars) says) p n after (slice_set w.cells.items (block_place p c) e) pool refl may.number
      (is ∙ ap (λ x. record { count = q.count + 1; free = without_all x q.free }) same ∙ ap (λ (x : Pool). record { count = x.count + 1; free = without_all c x.free }) q_is)
      (cells-give w b r gains (item_of r).of p n c from sig pars e (says-of (New p n c from sig pars) says) pool may.block may.number stored)))
