-- A sound world stays sound, whatever record may come.
use Rattle.std.proofs.Common.{◌≡◌, ℕ, suc, ◌+◌, ◌<◌, ◌≤◌, true, false, List, [], ◌∷◌, ◌++◌, length, take, refl, sym, ◌∙◌, ap, subst, arith, IsTrue, ◌⊎◌, inl, inr, take_all}
use Rattle.std.specs.List.{list_all}
use Rattle.std.proofs.lemmas.Bool.{and_from}
use Rattle.qp_chart.specs.StateTree.{has}
use Rattle.qp_model.specs.declared.record.Rec.{Rec}
use Rattle.qp_model.specs.declared.words.Word.TheVariants as word
use Rattle.qp_model.specs.declared.systems.System.{System}
use Rattle.qp_model.specs.declared.bodies.Entry.{Entry}
use Rattle.qp_model.specs.declared.bodies.Body.{Body}
use Rattle.qp_model.specs.declared.bodies.Body.TheVariants.{Took, Nil, Seen, New, Short, Inc, Dec, Back, Post, Lifo, Full, Pub, Sub, Unsub, Same, Arm, Disarm, Rearm, Idle, Tick, Fire, NoEntry, NoBlock, Armed, NoLifo}
use Rattle.qp_model.specs.Record.{item_of}
use Rattle.qp_model.specs.Told.{Event, Left}
use Rattle.qp_model.specs.Lists.{without_one, without_all}
use Rattle.qp_model.specs.History.{Draws, hist, total, all_items}
use Rattle.qp_model.specs.Machine.{after}
use Rattle.qp_model.specs.References.{references}
use Rattle.qp_model.specs.FreeBlocks.{Pool, free_blocks}
use Rattle.qp_model.specs.Subscribers.{Subscribers, subscribers}
use Rattle.qp_model.specs.TimeEvents.{Clock, time_event}
use Rattle.qp_model.specs.Line.{Line, line}
use Rattle.qp_model.specs.Sites.{ring_of, blocks_of}
use Rattle.qp_model.specs.Knowing.{known_of, references_after}
use Rattle.qp_model.specs.WordLaw.{is_object, is_pool, is_signal, is_timer}
use Rattle.qp_model.proofs.WordLemmas.{Held as HeldWord}
use Rattle.qp_model.proofs.LineLemmas.{held-seen, held-nil, held-full, held-no_entry, held-no_lifo}
use Rattle.qp_model.proofs.ReferenceLemmas.{held-short, held-no_block}
use Rattle.qp_model.proofs.SideLemmas.{held-sub, held-unsub, held-same, held-pub, held-arm, held-disarm, held-rearm, held-tick, held-fire, held-idle, held-armed}
use Rattle.qp_model.proofs.ListLemmas.{all-without}
use Rattle.qp_calls.specs.Tokens.{Token, Held, Loose, stands, hands_of, with_left, take_out}
use Rattle.qp_plain_sound.specs.WordStates.{pool_in, refs_in, line_in, set_in, clock_in}
use Rattle.qp_plain_sound.specs.Sound.{Sound, facts_in, queues}
use Rattle.qp_plain_sound.specs.May.{May, MayGive, MayMake, MayDrop, MayGiveBack, MayPost, MayTake, IsQueue, HasSignalOps}
use Rattle.qp_plain_sound.proofs.Standing.{refs-long, set-count, clock-count, held-line}
use Rattle.qp_plain_sound.proofs.SoundBlocks.{sound-first, sound-again, sound-dec, dec-refs}
use Rattle.qp_plain_sound.proofs.SoundPools.{sound-new, sound-back}
use Rattle.qp_plain_sound.proofs.SoundQueues.{sound-post, sound-lifo, sound-took}
use Rattle.qp_plain_sound.proofs.SoundSides.{sound-silent, sound-pool_shown, sound-queue_shown, sound-signal_shown, sound-timer_shown, sound-timer_drawn, sound-signal_drawn}

module _ (sys : System) (before : List (List Rec)) (lane : List Rec) (behind : List (List Rec)) (r : Rec)
    (hands : List Token) (old : Sound sys (before ++ lane ∷ behind) hands) (few : (a : ℕ) → IsTrue (is_object sys a) → a < queues) where
  abbrev old_lanes : List (List Rec)
  old_lanes = before ++ lane ∷ behind

  abbrev new_lanes : List (List Rec)
  new_lanes = before ++ (lane ++ r ∷ []) ∷ behind

  -- the record is of object o and says this
  abbrev Says : ℕ → Body → Type 0
  Says o b = item_of r ≡ record { of = o; body = b }

  held_pool : (p : ℕ) → IsTrue (is_pool sys p) → HeldWord Pool (free_blocks (blocks_of sys p)) (word.Pool p) old_lanes (pool_in sys old_lanes p)
  unfolding pool_in
  held_pool p h = record { keeps = old.words.pools p h; state = refl }

  held_set : (s : ℕ) → IsTrue (is_signal sys s) → HeldWord Subscribers subscribers (word.Signal s) old_lanes (set_in old_lanes s)
  unfolding set_in
  held_set s h = record { keeps = old.words.signals s h; state = refl }

  held_clock : (t : ℕ) → IsTrue (is_timer sys t) → HeldWord Clock time_event (word.Timer t) old_lanes (clock_in old_lanes t)
  unfolding clock_in
  held_clock t h = record { keeps = old.words.timers t h; state = refl }

  -- Blocks.

  keeps-new : (o p n b from : ℕ) (ev : Event) → Says o (New p n b from ev.sig ev.pars) → MayGive sys old_lanes p n b from ev → Sound sys new_lanes (Loose p b false ∷ hands)
  keeps-new o p n b from ev is m =
      sound-new sys before lane behind r hands old p b m.block o from ev (is ∙ ap (λ x. record { of = o; body = New p x b from ev.sig ev.pars }) m.number) m.lowest m.since m.event

  keeps-inc : (o p b n : ℕ) → Says o (Inc p b n) → MayMake sys old_lanes hands p b n → Sound sys new_lanes (Held p b n ∷ take_out (Loose p b false) hands)
  keeps-inc o p b n is m = subst (λ x. Sound sys new_lanes (Held p b x ∷ take_out (Loose p b false) hands)) (sym m.number) (go m.token)
    where
      says : Says o (Inc p b (refs_in old_lanes p b).count)
      says = is ∙ ap (λ x. record { of = o; body = Inc p b x }) m.number

      go : IsTrue (stands (Loose p b false) hands) ⊎ ((k : ℕ) × IsTrue (stands (Held p b k) hands)) → Sound sys new_lanes (Held p b (refs_in old_lanes p b).count ∷ take_out (Loose p b false) hands)
      go (inl loose) = sound-first sys before lane behind r hands old p b m.block o says loose
      go (inr held) = sound-again sys before lane behind r hands old p b m.block held.0 o says held.1

  -- after the record so many references are left
  pub left-now : (o p b d k : ℕ) → Says o (Dec p b d k) → MayDrop sys old_lanes hands p b d k → references_after (facts_in sys new_lanes) p b d ≡ length (without_one k (refs_in old_lanes p b).names)
  unfolding references_after refs_in
  left-now o p b d k is m =
      let long = refs-long sys old_lanes old.words p b m.block in
      let now = dec-refs sys before lane behind r hands old p b m.block k o (is ∙ ap (λ x. record { of = o; body = Dec p b x k }) m.number) m.token in
      let longer = refs-long sys new_lanes (sound-dec sys before lane behind r hands old p b m.block k o (is ∙ ap (λ x. record { of = o; body = Dec p b x k }) m.number) m.token).words p b m.block in
      let count : (refs_in new_lanes p b).count ≡ (refs_in old_lanes p b).count + 1 = ap (λ x. x.count) now in
      let is_d : d ≡ (refs_in old_lanes p b).count = m.number in
      let whole : take (d + 1) (hist (word.Block p b) (all_items new_lanes)) ≡ hist (word.Block p b) (all_items new_lanes) = take_all (d + 1) (hist (word.Block p b) (all_items new_lanes)) (omega (arith, longer, count, is_d)) in
      ap (λ h. length (after references h).names) whole ∙ ap (λ x. length x.names) now

  keeps-dec : (o p b d k : ℕ) → Says o (Dec p b d k) → MayDrop sys old_lanes hands p b d k
      → Sound sys new_lanes (with_left p b (Left (references_after (facts_in sys new_lanes) p b d)) (take_out (Held p b k) hands))
  keeps-dec o p b d k is m =
      subst (λ x. Sound sys new_lanes (with_left p b (Left x) (take_out (Held p b k) hands))) (sym (left-now o p b d k is m))
      (sound-dec sys before lane behind r hands old p b m.block k o (is ∙ ap (λ x. record { of = o; body = Dec p b x k }) m.number) m.token)

  keeps-back : (o p n b to : ℕ) → Says o (Back p n b to) → MayGiveBack sys old_lanes hands p n b to → Sound sys new_lanes (take_out (Loose p b true) hands)
  keeps-back o p n b to is m =
      sound-back sys before lane behind r hands old p b m.block o to (is ∙ ap (λ x. record { of = o; body = Back p x b to }) m.number) m.until m.token

  -- Queues.

  keeps-post : (o a f l m k : ℕ) (e : Entry) → Says o (Post a f l m e) → f ≡ k + 1 → MayPost sys old_lanes hands a k l m e → Sound sys new_lanes (hands_of hands (Post a f l m e) (Left 0))
  keeps-post o a f l m k e is up p =
      sound-post sys before lane behind r hands old a o e p.queue.object (few a p.queue.object)
      (is ∙ ap (λ x. record { of = o; body = Post a x l m e }) (up ∙ ap (λ x. x + 1) p.queue.firsts) ∙ ap (λ x. record { of = o; body = Post a ((line_in sys old_lanes a).f + 1) x m e }) p.queue.lasts
      ∙ ap (λ x. record { of = o; body = Post a ((line_in sys old_lanes a).f + 1) (line_in sys old_lanes a).l x e }) p.queue.takes)
      p.room p.owned.good p.owned.token

  keeps-lifo : (o f l m k : ℕ) (e : Entry) → Says o (Lifo f l m e) → l ≡ k + 1 → MayPost sys old_lanes hands o f k m e → Sound sys new_lanes (hands_of hands (Lifo f l m e) (Left 0))
  keeps-lifo o f l m k e is up p =
      sound-lifo sys before lane behind r hands old o e p.queue.object (few o p.queue.object)
      (is ∙ ap (λ x. record { of = o; body = Lifo x l m e }) p.queue.firsts ∙ ap (λ x. record { of = o; body = Lifo (line_in sys old_lanes o).f x m e }) (up ∙ ap (λ x. x + 1) p.queue.lasts)
      ∙ ap (λ x. record { of = o; body = Lifo (line_in sys old_lanes o).f ((line_in sys old_lanes o).l + 1) x e }) p.queue.takes)
      p.room p.owned.good p.owned.token

  keeps-took : (o f l m k : ℕ) (e : Entry) → Says o (Took f l m e) → m ≡ k + 1 → MayTake sys old_lanes o f l k e → Sound sys new_lanes (hands_of hands (Took f l m e) (Left 0))
  keeps-took o f l m k e is up p =
      sound-took sys before lane behind r hands old o e p.others p.queue.object (few o p.queue.object)
      (is ∙ ap (λ x. record { of = o; body = Took x l m e }) p.queue.firsts ∙ ap (λ x. record { of = o; body = Took (line_in sys old_lanes o).f x m e }) p.queue.lasts
      ∙ ap (λ x. record { of = o; body = Took (line_in sys old_lanes o).f (line_in sys old_lanes o).l x e }) (up ∙ ap (λ x. x + 1) p.queue.takes))
      p.front

  -- the record with the counts of its queue
  with_counts : (P : ℕ → ℕ → ℕ → Body) (o a f l m : ℕ) → IsQueue sys old_lanes a f l m → Says o (P f l m)
      → Says o (P (line_in sys old_lanes a).f (line_in sys old_lanes a).l (line_in sys old_lanes a).m)
  with_counts P o a f l m q is =
      is ∙ ap (λ x. record { of = o; body = P x l m }) q.firsts ∙ ap (λ x. record { of = o; body = P (line_in sys old_lanes a).f x m }) q.lasts
      ∙ ap (λ x. record { of = o; body = P (line_in sys old_lanes a).f (line_in sys old_lanes a).l x }) q.takes

  line_held : (a : ℕ) → IsTrue (is_object sys a) → HeldWord Line (line (ring_of sys a)) (word.Queue a) old_lanes (line_in sys old_lanes a)
  line_held a h = held-line sys old_lanes old.words a h

  -- Signals.

  set_draws : (sig n : ℕ) → HasSignalOps sys old_lanes sig n → Draws (word.Signal sig) (suc n) ≡ Draws (word.Signal sig) (suc (total (word.Signal sig) (all_items old_lanes)))
  set_draws sig n m = ap (λ x. Draws (word.Signal sig) (suc x)) (m.number ∙ set-count sys old_lanes old.words sig m.signal)

  set_state : (sig : ℕ) (s : Subscribers) → HeldWord Subscribers subscribers (word.Signal sig) new_lanes s → set_in new_lanes sig ≡ s
  unfolding set_in
  set_state sig s held = held.state

  keeps-sub : (o sig n : ℕ) → Says o (Sub sig n) → HasSignalOps sys old_lanes sig n → has (set_in old_lanes sig).members o ≡ false → IsTrue (is_object sys o) → Sound sys new_lanes hands
  keeps-sub o sig n is m none object =
      sound-signal_drawn sys before lane behind r _ is hands old sig m.signal (set_draws sig n m) (λ h. held.keeps)
      (subst (λ x. IsTrue (list_all (is_object sys) x.members)) (sym (set_state sig _ held)) (and_from _ _ object (all-without (is_object sys) o (set_in old_lanes sig).members (old.subscribed sig m.signal))))
    where
      held : HeldWord Subscribers subscribers (word.Signal sig) new_lanes (record { count = (set_in old_lanes sig).count + 1; members = o ∷ without_all o (set_in old_lanes sig).members })
      held = held-sub before lane behind r sig (set_in old_lanes sig) (held_set sig m.signal) o (is ∙ ap (λ x. record { of = o; body = Sub sig x }) m.number) none

  keeps-unsub : (o sig n : ℕ) → Says o (Unsub sig n) → HasSignalOps sys old_lanes sig n → has (set_in old_lanes sig).members o ≡ true → Sound sys new_lanes hands
  keeps-unsub o sig n is m there =
      sound-signal_drawn sys before lane behind r _ is hands old sig m.signal (set_draws sig n m) (λ h. held.keeps)
      (subst (λ x. IsTrue (list_all (is_object sys) x.members)) (sym (set_state sig _ held)) (all-without (is_object sys) o (set_in old_lanes sig).members (old.subscribed sig m.signal)))
    where
      held : HeldWord Subscribers subscribers (word.Signal sig) new_lanes (record { count = (set_in old_lanes sig).count + 1; members = without_all o (set_in old_lanes sig).members })
      held = held-unsub before lane behind r sig (set_in old_lanes sig) (held_set sig m.signal) o (is ∙ ap (λ x. record { of = o; body = Unsub sig x }) m.number) there

  -- Every kind.
  pub sound-stays : (o : ℕ) (b : Body) → Says o b → May sys old_lanes hands o b → Sound sys new_lanes (hands_of hands b (known_of (facts_in sys new_lanes) o 0 b))
  unfolding May known_of
  sound-stays o (New p n b from sig pars) is m = keeps-new o p n b from (record { sig = sig; pars = pars }) is m
  sound-stays o (Inc p b n) is m = keeps-inc o p b n is m
  sound-stays o (Dec p b d k) is m = keeps-dec o p b d k is m
  sound-stays o (Back p n b to) is m = keeps-back o p n b to is m
  sound-stays o (Short p n free reserve) is m =
      sound-pool_shown sys before lane behind r _ is hands old p n refl
      (λ h. (held-short before lane behind r (blocks_of sys p) p (pool_in sys old_lanes p) (held_pool p h) o reserve
      (is ∙ ap (λ x. record { of = o; body = Short p x free reserve }) m.0.number ∙ ap (λ x. record { of = o; body = Short p (pool_in sys old_lanes p).count x reserve }) m.0.free_blocks)
      (subst (λ x. x ≤ reserve) m.0.free_blocks m.1)).keeps)
  sound-stays o (NoBlock p n free) is m =
      sound-pool_shown sys before lane behind r _ is hands old p n refl
      (λ h. (held-no_block before lane behind r (blocks_of sys p) p (pool_in sys old_lanes p) (held_pool p h) o
      (is ∙ ap (λ x. record { of = o; body = NoBlock p x free }) m.0.number ∙ ap (λ x. record { of = o; body = NoBlock p (pool_in sys old_lanes p).count x }) m.1)
      (sym m.0.free_blocks ∙ m.1)).keeps)
  sound-stays o (Post a f l m e) is p = keeps-post o a f l m p.0 e is p.1 p.2
  sound-stays o (Lifo f l m e) is p = keeps-lifo o f l m p.0 e is p.1 p.2
  sound-stays o (Took f l m e) is p = keeps-took o f l m p.0 e is p.1 p.2
  sound-stays o (Seen p f l m) is q =
      sound-queue_shown sys before lane behind r _ is hands old p (f + l + m) refl
      (λ h. (held-seen before lane behind r (ring_of sys p) p (line_in sys old_lanes p) (line_held p h) o (with_counts (λ x y z. Seen p x y z) o p f l m q is)).keeps)
  sound-stays o (Nil f l m) is q =
      sound-queue_shown sys before lane behind r _ is hands old o (f + l + m) refl
      (λ h. (held-nil before lane behind r (ring_of sys o) o (line_in sys old_lanes o) (line_held o h) (with_counts (λ x y z. Nil x y z) o o f l m q.0 is)
      (rw (sym q.0.firsts, sym q.0.lasts, sym q.0.takes) q.1)).keeps)
  sound-stays o (Full a f l m margin) is q =
      sound-queue_shown sys before lane behind r _ is hands old a (f + l + m) refl
      (λ h. (held-full before lane behind r (ring_of sys a) a (line_in sys old_lanes a) (line_held a h) o margin (with_counts (λ x y z. Full a x y z margin) o a f l m q.0 is)
      (rw (sym q.0.firsts, sym q.0.lasts, sym q.0.takes) q.1)).keeps)
  sound-stays o (NoEntry a f l m) is q =
      sound-queue_shown sys before lane behind r _ is hands old a (f + l + m) refl
      (λ h. (held-no_entry before lane behind r (ring_of sys a) a (line_in sys old_lanes a) (line_held a h) o (with_counts (λ x y z. NoEntry a x y z) o a f l m q.0 is)
      (rw (sym q.0.firsts, sym q.0.lasts, sym q.0.takes) q.1)).keeps)
  sound-stays o (NoLifo a f l m) is q =
      sound-queue_shown sys before lane behind r _ is hands old a (f + l + m) refl
      (λ h. (held-no_lifo before lane behind r (ring_of sys a) a (line_in sys old_lanes a) (line_held a h) o (with_counts (λ x y z. NoLifo a x y z) o a f l m q.0 is)
      (rw (sym q.0.firsts, sym q.0.lasts, sym q.0.takes) q.1)).keeps)
  sound-stays o (Sub sig n) is m = keeps-sub o sig n is m.0 m.1 m.2
  sound-stays o (Unsub sig n) is m = keeps-unsub o sig n is m.0 m.1
  sound-stays o (Same sig n) is m =
      sound-signal_shown sys before lane behind r _ is hands old sig n refl
      (λ h. (held-same before lane behind r sig (set_in old_lanes sig) (held_set sig h) o (is ∙ ap (λ x. record { of = o; body = Same sig x }) m.number)).keeps)
  sound-stays o (Pub sig n set) is m =
      sound-signal_shown sys before lane behind r _ is hands old sig n refl
      (λ h. (held-pub before lane behind r sig (set_in old_lanes sig) (held_set sig h) o
      (is ∙ ap (λ x. record { of = o; body = Pub sig x set }) m.0.number ∙ ap (λ x. record { of = o; body = Pub sig (set_in old_lanes sig).count x }) m.1)).keeps)
  sound-stays o (Arm t n ticks interval) is m =
      sound-timer_drawn sys before lane behind r _ is hands old t m.timer (ap (λ x. Draws (word.Timer t) (suc x)) (m.number ∙ clock-count sys old_lanes old.words t m.timer))
      (λ h. (held-arm before lane behind r t (clock_in old_lanes t) (held_clock t h) o ticks interval (is ∙ ap (λ x. record { of = o; body = Arm t x ticks interval }) m.number) (sym m.is_counter)).keeps)
  sound-stays o (Disarm t n former) is m =
      sound-timer_drawn sys before lane behind r _ is hands old t m.0.timer (ap (λ x. Draws (word.Timer t) (suc x)) (m.0.number ∙ clock-count sys old_lanes old.words t m.0.timer))
      (λ h. (held-disarm before lane behind r t (clock_in old_lanes t) (held_clock t h) o
      (is ∙ ap (λ x. record { of = o; body = Disarm t x former }) m.0.number ∙ ap (λ x. record { of = o; body = Disarm t (clock_in old_lanes t).count x }) m.0.is_counter)
      (subst (λ x. 0 < x) m.0.is_counter m.1)).keeps)
  sound-stays o (Rearm t n former ticks) is m =
      sound-timer_drawn sys before lane behind r _ is hands old t m.timer (ap (λ x. Draws (word.Timer t) (suc x)) (m.number ∙ clock-count sys old_lanes old.words t m.timer))
      (λ h. (held-rearm before lane behind r t (clock_in old_lanes t) (held_clock t h) o ticks
      (is ∙ ap (λ x. record { of = o; body = Rearm t x former ticks }) m.number ∙ ap (λ x. record { of = o; body = Rearm t (clock_in old_lanes t).count x ticks }) m.is_counter)).keeps)
  sound-stays o (Idle t n) is m =
      sound-timer_shown sys before lane behind r _ is hands old t n refl
      (λ h. (held-idle before lane behind r t (clock_in old_lanes t) (held_clock t h) o (is ∙ ap (λ x. record { of = o; body = Idle t x }) m.number) (sym m.is_counter)).keeps)
  sound-stays o (Armed t n counter) is m =
      sound-timer_shown sys before lane behind r _ is hands old t n refl
      (λ h. (held-armed before lane behind r t (clock_in old_lanes t) (held_clock t h) o
      (is ∙ ap (λ x. record { of = o; body = Armed t x counter }) m.0.number ∙ ap (λ x. record { of = o; body = Armed t (clock_in old_lanes t).count x }) m.0.is_counter)
      (subst (λ x. 0 < x) m.0.is_counter m.1)).keeps)
  sound-stays o (Tick t n counter) is m =
      sound-timer_drawn sys before lane behind r _ is hands old t m.0.timer (ap (λ x. Draws (word.Timer t) (suc x)) (m.0.number ∙ clock-count sys old_lanes old.words t m.0.timer))
      (λ h. (held-tick before lane behind r t (clock_in old_lanes t) (held_clock t h) o counter (is ∙ ap (λ x. record { of = o; body = Tick t x counter }) m.0.number) (sym m.0.is_counter) m.1).keeps)
  sound-stays o (Fire t n reload) is m =
      sound-timer_drawn sys before lane behind r _ is hands old t m.0.timer (ap (λ x. Draws (word.Timer t) (suc x)) (m.0.number ∙ clock-count sys old_lanes old.words t m.0.timer))
      (λ h. (held-fire before lane behind r t (clock_in old_lanes t) (held_clock t h) o
      (is ∙ ap (λ x. record { of = o; body = Fire t x reload }) m.0.number ∙ ap (λ x. record { of = o; body = Fire t (clock_in old_lanes t).count x }) m.1) (sym m.0.is_counter)).keeps)
  sound-stays o _ is m = sound-silent sys before lane behind r _ is hands old refl
