-- Records that are given, made once more: what each says of its word.
use Rattle.std.proofs.Common.{◌≡◌, ℕ, suc, ◌+◌, ◌-◌, ◌<◌, ◌≤◌, ◌==◌, ◌≢◌, ◌&&◌, nat_le, nat_lt, slice_get, if◌then◌else◌, Bool, true, false, List, [], ◌∷◌, length, refl, sym, ◌∙◌, ap, subst, arith, IsTrue, IsFalse, Option, Some, None}
use Rattle.std.specs.Int.{bit_at}
use Rattle.std.specs.Option.{option_map_or}
use Rattle.std.proofs.lemmas.Bool.{and_parts}
use Rattle.std.proofs.lemmas.Bool.Decides.{nat_tests}
use Rattle.std.proofs.lemmas.Nat.Bits.{bit_at-lt}
use Rattle.std.proofs.lemmas.Option.{slice_get_within}
use Rattle.qp_chart.specs.StateTree.{has}
use Rattle.qp_model.specs.declared.record.Rec.{Rec}
use Rattle.qp_model.specs.declared.words.Word.{Word}
use Rattle.qp_model.specs.declared.words.Word.TheVariants as word
use Rattle.qp_model.specs.declared.bodies.Entry as model
use Rattle.qp_model.specs.declared.bodies.Body.{Body}
use Rattle.qp_model.specs.declared.bodies.Body.TheVariants.{Took, Nil, New, Inc, Dec, Back, Post, Lifo, Sub, Unsub, Arm, Disarm, Rearm, Tick, Fire, Spill}
use Rattle.qp_model.specs.Record.{item_of}
use Rattle.qp_model.specs.Ends.{is_spill, spills_in}
use Rattle.qp_model.specs.History.{Draws, drawn_on, lane_items, touch_of}
use Rattle.qp_model.specs.Lists.{is_first}
use Rattle.qp_model.specs.TimeEvents.{Clock, clock_next}
use Rattle.qp_model.specs.Sites.{ring_of}
use Rattle.qp_model.specs.declared.systems.SignalDef.{SignalDef}
use Rattle.qp_model.specs.declared.systems.System.{System}
use Rattle.qp_model.specs.Parts.{is_static, params_of}
use Rattle.qp_model.specs.Sound.{IsSound}
use Rattle.qp_model.specs.WordLaw.{is_block, is_object, is_signal, is_timer}
use Rattle.qp_model.proofs.ListLemmas.{list_all-has}
use Rattle.qp_calls.specs.declared.answers.Tick.TheVariants as ticked
use Rattle.qp_calls.specs.declared.answers.Tick as answer
use Rattle.qp_calls.specs.Tokens.{Loose, stands}
use Rattle.qp_plain_words.specs.declared.signal.SignalWord.{SignalWord}
use Rattle.qp_plain_words.specs.Queue.{Queue}
use Rattle.qp_plain_words.specs.Ticked.{TicksTo, counted_down}
use Rattle.qp_plain_words.proofs.SetLemmas.{has-bit}
use Rattle.qp_plain_sound.specs.May.{May, MayGive, MayMake, MayDrop, MayGiveBack, BeforePost, MayPost, MayTake, IsQueue, HasSignalOps, HasTimerOps}
use Rattle.qp_plain_sound.specs.Sound.{hands_in, is_event, is_good}
use Rattle.qp_plain_sound.specs.WordStates.{pool_in, line_in, set_in, clock_in}
use Rattle.qp_plain_sound.proofs.Standing.{out-not_free}
use Rattle.qp_plain_sound.proofs.Times.{stands-times}
use Rattle.qp_plain.specs.declared.world.PlainWorld.{PlainWorld}
use Rattle.qp_plain.specs.Book.{lists_of}
use Rattle.qp_calls_log.specs.Lane.{is_plain, spill_place}
use Rattle.qp_plain.specs.LaneLaws.{lane-here}
use Rattle.qp_plain.specs.Repeat.{CountsDown, FitsTimer, FitsToken, MayAt, MayRepeat, SetsTo, is_still, lane_in}
use Rattle.qp_plain.specs.Tables.{SignalIs}
use Rattle.qp_plain.proofs.Few.{line-few}
use Rattle.qp_plain.proofs.Holding.{block-in}
use Rattle.qp_calls_log.proofs.LogLemmas.{length-kinds, no-spills, regular}
use Rattle.qp_plain.proofs.SignalTable as signal_table
use Rattle.qp_model.proofs.RecordLemmas.{lane-length}

-- What the record says of its word, and of its tokens.
module _ (w : PlainWorld) (r : Rec) (next : MayRepeat r w) where
  pub may-of : (body : Body) → (item_of r).body ≡ body → MayAt w (item_of r).of body
  may-of body says = subst (MayAt w (item_of r).of) says next.may

  pub new-may : (p n b from sig : ℕ) (pars : List ℕ) → (item_of r).body ≡ New p n b from sig pars → MayGive w.sys.now (lists_of w.book) p n b from (record { sig = sig; pars = pars })
  unfolding May
  new-may p n b from sig pars says = may-of (New p n b from sig pars) says

  pub back-may : (p n b to : ℕ) → (item_of r).body ≡ Back p n b to → MayGiveBack w.sys.now (lists_of w.book) (hands_in w.sys.now (lists_of w.book) w.book.order.items) p n b to
  unfolding May
  back-may p n b to says = may-of (Back p n b to) says

  pub inc-may : (p b k : ℕ) → (item_of r).body ≡ Inc p b k → MayMake w.sys.now (lists_of w.book) (hands_in w.sys.now (lists_of w.book) w.book.order.items) p b k
  unfolding May
  inc-may p b k says = may-of (Inc p b k) says

  pub dec-may : (p b d k : ℕ) → (item_of r).body ≡ Dec p b d k → MayDrop w.sys.now (lists_of w.book) (hands_in w.sys.now (lists_of w.book) w.book.order.items) p b d k
  unfolding May
  dec-may p b d k says = may-of (Dec p b d k) says

  pub post-may : (a f l m : ℕ) (e : model.Entry) → (item_of r).body ≡ Post a f l m e
      → BeforePost (λ k. MayPost w.sys.now (lists_of w.book) (hands_in w.sys.now (lists_of w.book) w.book.order.items) a k l m e) f
  unfolding May
  post-may a f l m e says = may-of (Post a f l m e) says

  pub lifo-may : (f l m : ℕ) (e : model.Entry) → (item_of r).body ≡ Lifo f l m e
      → BeforePost (λ k. MayPost w.sys.now (lists_of w.book) (hands_in w.sys.now (lists_of w.book) w.book.order.items) (item_of r).of f k m e) l
  unfolding May
  lifo-may f l m e says = may-of (Lifo f l m e) says

  pub take-may : (f l m : ℕ) (e : model.Entry) → (item_of r).body ≡ Took f l m e → BeforePost (λ k. MayTake w.sys.now (lists_of w.book) (item_of r).of f l k e) m
  unfolding May
  take-may f l m e says = may-of (Took f l m e) says

  pub sub-may : (g n : ℕ) → (item_of r).body ≡ Sub g n
      → HasSignalOps w.sys.now (lists_of w.book) g n × IsFalse (has (set_in (lists_of w.book) g).members (item_of r).of) × IsTrue (is_object w.sys.now (item_of r).of)
  unfolding May
  sub-may g n says = may-of (Sub g n) says

  pub unsub-may : (g n : ℕ) → (item_of r).body ≡ Unsub g n → HasSignalOps w.sys.now (lists_of w.book) g n × IsTrue (has (set_in (lists_of w.book) g).members (item_of r).of)
  unfolding May
  unsub-may g n says = may-of (Unsub g n) says

  pub arm-may : (t n ticks interval : ℕ) → (item_of r).body ≡ Arm t n ticks interval → HasTimerOps w.sys.now (lists_of w.book) t n 0
  unfolding May
  arm-may t n ticks interval says = may-of (Arm t n ticks interval) says

  pub nil-may : (f l m : ℕ) → (item_of r).body ≡ Nil f l m → IsQueue w.sys.now (lists_of w.book) (item_of r).of f l m
  unfolding May
  nil-may f l m says = (may-of (Nil f l m) says).0

-- Time events.

-- the record draws on the time event t, which is one of the system, and its number is that of the operations
pub record OnTimer (w : PlainWorld) (o : ℕ) (body : Body) (t : ℕ) : Type 0 where
  pub n : ℕ
  pub timer : IsTrue (is_timer w.sys.now t)
  pub number : n ≡ (clock_in (lists_of w.book) t).count
  pub draws : touch_of o body ≡ Draws (word.Timer t) (suc n)

pub arm-on : (w : PlainWorld) (r : Rec) → MayRepeat r w → (t n ticks interval : ℕ) → (item_of r).body ≡ Arm t n ticks interval → OnTimer w (item_of r).of (item_of r).body t
arm-on w r next t n ticks interval says =
    let is = arm-may w r next t n ticks interval says in
    record { n = n; timer = is.timer; number = is.number; draws = ap (touch_of (item_of r).of) says }

pub arm-next : (s : Clock) (body : Body) (t n ticks interval : ℕ) → body ≡ Arm t n ticks interval → record { count = s.count + 1; counter = ticks; interval = interval } ≡ clock_next s body
arm-next s body t n ticks interval says = sym (ap (clock_next s) says)

pub set-on : (w : PlainWorld) (o t ticks : ℕ) (body : Body) → SetsTo t ticks body → MayAt w o body → OnTimer w o body t
unfolding May
set-on w o t ticks (Disarm u n former) sets may = subst (OnTimer w o (Disarm u n former)) sets.0 (record { n = n; timer = may.0.timer; number = may.0.number; draws = refl })
set-on w o t ticks (Rearm u n former stated) sets may = subst (OnTimer w o (Rearm u n former stated)) sets.0 (record { n = n; timer = may.timer; number = may.number; draws = refl })
set-on w o t ticks _ sets may = absurd sets

pub set-next : (s : Clock) (t ticks : ℕ) (body : Body) → SetsTo t ticks body → counted_down s ticks ≡ clock_next s body
set-next s t ticks (Disarm u n former) sets = ap (counted_down s) sets.1
set-next s t ticks (Rearm u n former stated) sets = ap (counted_down s) sets.1
set-next s t ticks _ sets = absurd sets

pub tick-on : (w : PlainWorld) (o t : ℕ) (body : Body) → CountsDown t body → MayAt w o body → OnTimer w o body t
unfolding May
tick-on w o t (Tick u n counter) is may = subst (OnTimer w o (Tick u n counter)) is (record { n = n; timer = may.0.timer; number = may.0.number; draws = refl })
tick-on w o t (Fire u n reload) is may = subst (OnTimer w o (Fire u n reload)) is (record { n = n; timer = may.0.timer; number = may.0.number; draws = refl })
tick-on w o t _ is may = absurd is

pub tick-next : (w : PlainWorld) (o t : ℕ) (body : Body) (s after : Clock) (x : answer.Tick) → CountsDown t body → MayAt w o body → s ≡ clock_in (lists_of w.book) t → TicksTo s after x → after ≡ clock_next s body
unfolding May
tick-next w o t (Tick u n counter) s after x is may now ticks =
    let its : s.counter ≡ counter + 1 = ap (λ c. c.counter) now ∙ ap (λ k. (clock_in (lists_of w.book) k).counter) (sym is) ∙ sym may.0.is_counter in
    go x ticks its may.1
  where
    go : (x : answer.Tick) → TicksTo s after x → s.counter ≡ counter + 1 → 0 < counter → after ≡ counted_down s counter
    go ticked.Idle h its some = absurd (omega (arith, h.0, its))
    go ticked.Down h its some = let same : after.counter ≡ counter = omega (arith, h.2, its) in h.0 ∙ ap (counted_down s) same
    go ticked.Fired h its some = absurd (omega (arith, h.0, its, some))
tick-next w o t (Fire u n reload) s after x is may now ticks =
    let its : s.counter ≡ 1 = ap (λ c. c.counter) now ∙ ap (λ k. (clock_in (lists_of w.book) k).counter) (sym is) ∙ sym may.0.is_counter in
    let load : s.interval ≡ reload = ap (λ c. c.interval) now ∙ ap (λ k. (clock_in (lists_of w.book) k).interval) (sym is) ∙ sym may.1 in
    go x ticks its load
  where
    go : (x : answer.Tick) → TicksTo s after x → s.counter ≡ 1 → s.interval ≡ reload → after ≡ counted_down s reload
    go ticked.Idle h its load = absurd (omega (arith, h.0, its))
    go ticked.Down h its load = absurd (omega (arith, h.1, h.2, its))
    go ticked.Fired h its load = h.1 ∙ ap (counted_down s) load
tick-next w o t _ s after x is may now ticks = absurd is

-- a block in the hands isn't free
pub loose-not_free : (w : PlainWorld) (p c : ℕ) → IsTrue (is_block w.sys.now p c) → IsTrue (stands (Loose p c true) (hands_in w.sys.now (lists_of w.book) w.book.order.items))
    → has (pool_in w.sys.now (lists_of w.book) p).free c ≡ false
loose-not_free w p c block loose =
    let some = stands-times (Loose p c true) (hands_in w.sys.now (lists_of w.book) w.book.order.items) loose in
    let out = ((w.holds.world.sound.block p c block).used_is some).1 in
    out-not_free w.sys.now (lists_of w.book) (hands_in w.sys.now (lists_of w.book) w.book.order.items) w.holds.world.sound p c block out

-- Records that change no word.
pub still-plain : (b : Body) → is_still b ≡ true → is_plain b ≡ true
still-plain (Nil f l m) still = absurd (cc)
still-plain (Spill n) still = absurd (cc)
still-plain _ still = refl

pub still-off : (v : Word) (o : ℕ) (b : Body) → is_still b ≡ true → drawn_on v (touch_of o b) ≡ false
still-off v o (New p n b from sig pars) still = absurd (cc)
still-off v o (Back p n b to) still = absurd (cc)
still-off v o (Inc p b r) still = absurd (cc)
still-off v o (Dec p b d k) still = absurd (cc)
still-off v o (Post a f l m e) still = absurd (cc)
still-off v o (Lifo f l m e) still = absurd (cc)
still-off v o (Took f l m e) still = absurd (cc)
still-off v o (Sub sig n) still = absurd (cc)
still-off v o (Unsub sig n) still = absurd (cc)
still-off v o (Arm t n ticks interval) still = absurd (cc)
still-off v o (Disarm t n former) still = absurd (cc)
still-off v o (Rearm t n former ticks) still = absurd (cc)
still-off v o (Tick t n counter) still = absurd (cc)
still-off v o (Fire t n reload) still = absurd (cc)
still-off v o _ still = refl

pub set-plain : (t ticks : ℕ) (b : Body) → SetsTo t ticks b → is_plain b ≡ true
set-plain t ticks (Disarm u n former) sets = refl
set-plain t ticks (Rearm u n former stated) sets = refl
set-plain t ticks _ sets = absurd sets

pub tick-plain : (t : ℕ) (b : Body) → CountsDown t b → is_plain b ≡ true
tick-plain t (Tick u n counter) is = refl
tick-plain t (Fire u n reload) is = refl
tick-plain t _ is = absurd is

pub set-fits : (t ticks : ℕ) (b : Body) → SetsTo t ticks b → FitsTimer b → ticks < 65536
set-fits t ticks (Disarm u n former) sets fits = omega (arith, sets.1)
set-fits t ticks (Rearm u n former stated) sets fits = subst (λ x. x < 65536) (sym sets.1) fits
set-fits t ticks _ sets fits = absurd sets

-- Numbers of words and objects fit their types.
pub block-bytes : (w : PlainWorld) (p c : ℕ) → IsTrue (is_block w.sys.now p c) → (p < 256) × (c < 256)
block-bytes w p c h = let at = block-in w.sys.now w.holds.limits p c h in (omega (arith, at.pools), omega (arith, at.blocks))

-- a static signal
static-fits : (sys : System) (g : ℕ) → IsSound sys → IsTrue (is_static sys g) → g < 65536
unfolding is_static
static-fits sys g sound h = below (slice_get sys.signals (g - 4)) refl (and_parts (nat_le 4 g) (option_map_or (λ d. d.fixed) (slice_get sys.signals (g - 4)) false) h).1
  where
    below : (o : Option SignalDef) → slice_get sys.signals (g - 4) ≡ o → option_map_or (λ d. d.fixed) o false ≡ true → g < 65536
    below None at fixed = absurd (cc)
    below (Some d) at fixed = let lt = slice_get_within sys.signals (g - 4) d at in omega (arith, lt, sound.few_signals)

-- an entry that may stand in a queue
pub entry-fits : (w : PlainWorld) (e : model.Entry) → IsSound w.sys.now → IsTrue (is_good w.sys.now e) → FitsToken e
entry-fits w e sound good = go (e.pool == 0) refl good
  where
    go : (b : Bool) → (e.pool == 0) ≡ b → IsTrue (if b then (is_static w.sys.now e.block && (e.name == 0)) else is_block w.sys.now e.pool e.block) → FitsToken e
    go true is h =
        let none : e.pool ≡ 0 = grind (arith, nat_tests) in
        let parts = and_parts (is_static w.sys.now e.block) (e.name == 0) h in
        let bare : (e.name == 0) ≡ true = parts.1 in
        let name : e.name ≡ 0 = grind (arith, nat_tests) in
        let few : e.block < 65536 = static-fits w.sys.now e.block sound parts.0 in
        record { pool = omega (arith, none); static = λ x. (few, name); block = λ some. absurd (omega (arith, some, none)) }
    go false is h =
        let bytes = block-bytes w e.pool e.block h in
        let some : e.pool ≢ 0 = grind (arith, nat_tests) in
        record { pool = bytes.0; static = λ x. absurd (some x); block = λ x. bytes.1 }

-- there is room in the queue
pub room-now : (w : PlainWorld) (a : ℕ) (q : Queue) → q ≡ record { line = line_in w.sys.now (lists_of w.book) a; ring = ring_of w.sys.now a }
    → length (line_in w.sys.now (lists_of w.book) a).entries ≤ ring_of w.sys.now a → length q.line.entries ≤ q.ring
room-now w a q is room = subst (λ (x : Queue). length x.line.entries ≤ x.ring) (sym is) room

-- the bit of an object that comes to a signal, or goes
pub sub-bit : (w : PlainWorld) (g o : ℕ) (q : SignalWord) → IsTrue (is_object w.sys.now o) → has (set_in (lists_of w.book) g).members o ≡ false → SignalIs q (set_in (lists_of w.book) g)
    → bit_at q.set (o - 1) ≡ 0
sub-bit w g o q object out is =
    let in_range = w.holds.limits.objects o object in
    let bit = has-bit (set_in (lists_of w.book) g).members is.members o in_range.0 in_range.1 in
    signal_table.bit-none (bit_at q.set (o - 1)) (bit_at-lt q.set (o - 1)) (sym out ∙ bit ∙ ap (λ x. bit_at x (o - 1) == 1) (sym is.set))

pub unsub-in : (w : PlainWorld) (g o : ℕ) → IsTrue (is_signal w.sys.now g) → has (set_in (lists_of w.book) g).members o ≡ true → (0 < o) × (o ≤ 32)
unsub-in w g o signal there =
    w.holds.limits.objects o (list_all-has (is_object w.sys.now) (set_in (lists_of w.book) g).members o (w.holds.world.sound.subscribed g signal) there)

pub unsub-bit : (w : PlainWorld) (g o : ℕ) (q : SignalWord) → IsTrue (is_signal w.sys.now g) → has (set_in (lists_of w.book) g).members o ≡ true → SignalIs q (set_in (lists_of w.book) g)
    → bit_at q.set (o - 1) ≡ 1
unsub-bit w g o q signal there is =
    let in_range = unsub-in w g o signal there in
    let bit = has-bit (set_in (lists_of w.book) g).members is.members o in_range.0 in_range.1 in
    signal_table.bit-one (bit_at q.set (o - 1)) (sym there ∙ bit ∙ ap (λ x. bit_at x (o - 1) == 1) (sym is.set))

-- The lane chosen.
pub first-here : (w : PlainWorld) → spills_in (lane_items (lane_in w)) ≡ false → w.book.here.spilled ≡ false
first-here w none =
    let here : spills_in (lane_items w.book.here.recs.items) ≡ false =
    subst (λ (l : List Rec). spills_in (lane_items l) ≡ false) (lane-here w.book.others.items w.book.at w.book.here w.book.within) none in
    let zero_of = no-spills (lane_items w.book.here.recs.items) here in
    kept w.book.here.spilled (omega (arith, zero_of, w.book.here.spills))
  where
    kept : (b : Bool) → spill_place b ≡ 1 → b ≡ false
    kept true e = absurd (cc)
    kept false e = refl

pub few-here : (w : PlainWorld) → length (lane_in w) < 1000000 → regular (lane_items w.book.here.recs.items) < 1000000
few-here w less =
    let here : length w.book.here.recs.items < 1000000 = subst (λ (l : List Rec). length l < 1000000) (lane-here w.book.others.items w.book.at w.book.here w.book.within) less in
    let all = length-kinds (lane_items w.book.here.recs.items) in
    let long = lane-length w.book.here.recs.items in
    omega (arith, here, all, long)

-- the counts of a queue fit their type
pub counts-fit : (w : PlainWorld) (a f l m : ℕ) → IsQueue w.sys.now (lists_of w.book) a f l m → (f < 4294967296) × (l < 4294967296) × (m < 4294967296)
counts-fit w a f l m queue =
    let le = line-few w.sys.now w.book w.holds.world.sound.words a queue.object in
    (omega (arith, le, queue.firsts), omega (arith, le, queue.lasts), omega (arith, le, queue.takes))

pub seat-of : (w : PlainWorld) (a f l m : ℕ) → IsQueue w.sys.now (lists_of w.book) a f l m → a < 33
seat-of w a f l m queue = let few = w.holds.limits.objects a queue.object in omega (arith, few.1)

-- some block is free where one is the first
pub some-free : (b : ℕ) (xs : List ℕ) → is_first b xs ≡ true → 0 < length xs
some-free b [] h = absurd (cc)
some-free b (x ∷ xs) h = omega arith

-- so does the signal of an event
pub signal-fits : (w : PlainWorld) (sig : ℕ) (pars : List ℕ) → IsSound w.sys.now → IsTrue (is_event w.sys.now (record { sig = sig; pars = pars })) → sig < 65536
signal-fits w sig pars sound event =
    let parts = and_parts (nat_le 4 sig && nat_lt sig (length w.sys.now.signals + 4)) (length pars == params_of w.sys.now sig) event in
    let few : nat_lt sig (length w.sys.now.signals + 4) ≡ true = (and_parts (nat_le 4 sig) (nat_lt sig (length w.sys.now.signals + 4)) parts.0).1 in
    let less : sig < length w.sys.now.signals + 4 = grind (arith, nat_tests) in
    omega (arith, less, sound.few_signals)

-- what is left when all others are taken away changes no word
pub record Rest (b : Body) : Type 0 where
  pub new : (p n c from sig : ℕ) (pars : List ℕ) → b ≡ New p n c from sig pars → ⊥
  pub back : (p n c to : ℕ) → b ≡ Back p n c to → ⊥
  pub inc : (p c r : ℕ) → b ≡ Inc p c r → ⊥
  pub dec : (p c d k : ℕ) → b ≡ Dec p c d k → ⊥
  pub post : (a f l m : ℕ) (e : model.Entry) → b ≡ Post a f l m e → ⊥
  pub lifo : (f l m : ℕ) (e : model.Entry) → b ≡ Lifo f l m e → ⊥
  pub took : (f l m : ℕ) (e : model.Entry) → b ≡ Took f l m e → ⊥
  pub sub : (sig n : ℕ) → b ≡ Sub sig n → ⊥
  pub unsub : (sig n : ℕ) → b ≡ Unsub sig n → ⊥
  pub arm : (t n ticks interval : ℕ) → b ≡ Arm t n ticks interval → ⊥
  pub disarm : (t n former : ℕ) → b ≡ Disarm t n former → ⊥
  pub rearm : (t n former ticks : ℕ) → b ≡ Rearm t n former ticks → ⊥
  pub tick : (t n counter : ℕ) → b ≡ Tick t n counter → ⊥
  pub fire : (t n reload : ℕ) → b ≡ Fire t n reload → ⊥
  pub nil : (f l m : ℕ) → b ≡ Nil f l m → ⊥
  pub spill : (n : ℕ) → b ≡ Spill n → ⊥

pub rest-still : (b : Body) → Rest b → is_still b ≡ true
rest-still (New p n c from sig pars) h = absurd (h.new p n c from sig pars refl)
rest-still (Back p n c to) h = absurd (h.back p n c to refl)
rest-still (Inc p c r) h = absurd (h.inc p c r refl)
rest-still (Dec p c d k) h = absurd (h.dec p c d k refl)
rest-still (Post a f l m e) h = absurd (h.post a f l m e refl)
rest-still (Lifo f l m e) h = absurd (h.lifo f l m e refl)
rest-still (Took f l m e) h = absurd (h.took f l m e refl)
rest-still (Sub sig n) h = absurd (h.sub sig n refl)
rest-still (Unsub sig n) h = absurd (h.unsub sig n refl)
rest-still (Arm t n ticks interval) h = absurd (h.arm t n ticks interval refl)
rest-still (Disarm t n former) h = absurd (h.disarm t n former refl)
rest-still (Rearm t n former ticks) h = absurd (h.rearm t n former ticks refl)
rest-still (Tick t n counter) h = absurd (h.tick t n counter refl)
rest-still (Fire t n reload) h = absurd (h.fire t n reload refl)
rest-still (Nil f l m) h = absurd (h.nil f l m refl)
rest-still (Spill n) h = absurd (h.spill n refl)
rest-still _ h = refl

pub rest-regular : (b : Body) → ((n : ℕ) → b ≡ Spill n → ⊥) → is_spill b ≡ false
rest-regular (Spill n) h = absurd (h n refl)
rest-regular _ h = refl
