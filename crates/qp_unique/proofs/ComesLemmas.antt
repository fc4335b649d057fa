-- Each record of a run comes next by what the words hold after the records before it.
use Rattle.std.proofs.Common.{◌≡◌, ◌∙◌, ℕ, suc, ◌+◌, ◌<◌, ◌≤◌, ◌==◌, nat_lt, true, ◌&&◌, List, [], ◌∷◌, ◌++◌, length, take, refl, sym, ap, subst, arith}
use Rattle.std.proofs.lemmas.Bool.{and_from}
use Rattle.std.proofs.lemmas.Bool.Decides.{nat_tests}
use Rattle.std.specs.declared.option.Option.{Option}
use Rattle.std.specs.List.{AllByRecursion}
use Rattle.qp_chart.specs.StateTree.{has}
use Rattle.qp_model.specs.declared.record.Rec.{Rec}
use Rattle.qp_model.specs.declared.words.Word.{Word}
use Rattle.qp_model.specs.declared.words.Word.TheVariants as word
use Rattle.qp_model.specs.declared.systems.System.{System}
use Rattle.qp_model.specs.declared.bodies.Entry.{Entry}
use Rattle.qp_model.specs.declared.bodies.Body.{Body}
use Rattle.qp_model.specs.declared.bodies.Body.TheVariants.{Took, Nil, Seen, New, Short, Inc, Dec, Back, Post, Lifo, Full, Pub, Lock, Sub, Unsub, Same, Arm, Disarm, Rearm, Idle, Tick, Fire, NoEntry, NoBlock, Armed, NoLifo}
use Rattle.qp_model.specs.Record.{Item}
use Rattle.qp_model.specs.Told.{Event, Free, Left, Member}
use Rattle.qp_model.specs.Knowing.{known_of, free_before, references_after, set_at, event_of_entry, event_known}
use Rattle.qp_model.specs.History.{all_items, hist, total, touch_of, drawn_on, Draws, Shows}
use Rattle.qp_model.specs.Places.{is_next, in_order}
use Rattle.qp_model.specs.Machine.{Machine, after, is_allowed}
use Rattle.qp_model.specs.FreeBlocks.{free_blocks}
use Rattle.qp_model.specs.References.{Refs, references}
use Rattle.qp_model.specs.Lives.{life_of}
use Rattle.qp_model.specs.Line.{line}
use Rattle.qp_model.specs.Subscribers.{subscribers}
use Rattle.qp_model.specs.TimeEvents.{time_event}
use Rattle.qp_model.specs.Sites.{ring_of, blocks_of}
use Rattle.qp_model.specs.WordLaw.{Keeps, Words, is_pool, is_block}
use Rattle.qp_model.proofs.MachineLemmas.{Counts, after-append}
use Rattle.qp_model.proofs.WordLawLemmas.{free_blocks-counts, subscribers-counts, time_event-counts}
use Rattle.qp_unique.specs.Held.{comes_next, known_then}
use Rattle.qp_unique.specs.Fronts.{draws_of_word, held_after, names_its, is_word_of}
use Rattle.qp_unique.proofs.PoolLemmas.{back-below, given-below}
use Rattle.qp_unique.proofs.FrontLemmas.{is-next, hist-next, drawn-below, may-next, says-next, count-next, take-front, take-next}
use Rattle.qp_model.proofs.PromiseLemmas.{pool_has}
use Rattle.qp_model.proofs.HistoryLemmas.{same_word-refl}

-- a record of o
abbrev said : ℕ → Body → Item
said o b = record { of = o; body = b }

module _ (sys : System) (lanes : List (List Rec)) (words : Words sys lanes) (order : List Item)
    (inside : (P : Item → Type 0) → AllByRecursion P (all_items lanes) → AllByRecursion P order) (ordered : in_order [] order ≡ true)
    (xs ys : List Item) where
  -- a record of o stands at this place
  abbrev At : ℕ → Body → Type 0
  At o b = order ≡ xs ++ record { of = o; body = b } ∷ ys

  -- an operation of the word is allowed
  draws : {S : Type 0} (m : Machine S) (w : Word) (mark o : ℕ) (b : Body) → Keeps S m w lanes → At o b → touch_of o b ≡ Draws w mark
      → m.may (after m (draws_of_word w xs)) (said o b) ≡ true
  draws m w mark o b keeps at is =
      may-next (all_items lanes) order inside ordered w keeps.numbers m keeps.allowed xs (said o b) ys at
      (subst (λ t. drawn_on w t ≡ true) (sym is) (same_word-refl w))

  -- what shows it says what it holds
  shows : {S : Type 0} (m : Machine S) (w : Word) (mark o : ℕ) (b : Body) → Keeps S m w lanes → At o b → touch_of o b ≡ Shows w mark
      → (mark ≡ total w xs) × (total w xs ≤ total w (all_items lanes)) × (m.says (after m (draws_of_word w xs)) b ≡ true)
  shows m w mark o b keeps at is = says-next (all_items lanes) order inside ordered w keeps.numbers m keeps.allowed keeps.shown xs (said o b) ys mark at is

  -- with the count of its operations
  counts : {S : Type 0} (m : Machine S) (w : Word) (mark o : ℕ) (b : Body) → Counts S m → Keeps S m w lanes → At o b → touch_of o b ≡ Shows w mark
      → (mark == m.count (after m (draws_of_word w xs))) ≡ true
  counts m w mark o b rises keeps at is =
      let one = shows m w mark o b keeps at is in
      let two : m.count (after m (draws_of_word w xs)) ≡ total w xs =
      count-next (all_items lanes) order inside ordered w keeps.numbers m keeps.allowed rises xs (said o b ∷ ys) at one.1 in
      let three : mark ≡ total w xs = one.0 in
      grind (arith, nat_tests)

  both-counts : {S : Type 0} (m : Machine S) (w : Word) (mark o : ℕ) (b : Body) → Counts S m → Keeps S m w lanes → At o b → touch_of o b ≡ Shows w mark
      → ((mark == m.count (after m (draws_of_word w xs))) && m.says (after m (draws_of_word w xs)) b) ≡ true
  both-counts m w mark o b rises keeps at is = and_from _ _ (counts m w mark o b rises keeps at is) (shows m w mark o b keeps at is).2

  -- the lives of a block
  lived : (p c : ℕ) (o : ℕ) (b : Body) (mark : ℕ) → is_block sys p c ≡ true → At o b → touch_of o b ≡ Draws (word.Pool p) mark
      → (life_of c).may (after (life_of c) (draws_of_word (word.Pool p) xs)) (said o b) ≡ true
  lived p c o b mark block at is =
      may-next (all_items lanes) order inside ordered (word.Pool p) (words.pools p (pool_has sys p c block)).numbers (life_of c) (words.lives p c block).alternate
      xs (said o b) ys at (subst (λ t. drawn_on (word.Pool p) t ≡ true) (sym is) (same_word-refl (word.Pool p)))

  -- the number drawn is that of the operations before
  drawn-number : (w : Word) (n o : ℕ) (b : Body) → At o b → touch_of o b ≡ Draws w (suc n) → n ≡ total w xs
  unfolding is_next
  drawn-number w n o b at is =
      let next : is_next xs (Draws w (suc n)) ≡ true = subst (λ t. is_next xs t ≡ true) is (is-next (all_items lanes) order inside ordered xs (said o b) ys at) in
      let same : (suc n == suc (total w xs)) ≡ true = next in
      grind (arith, nat_tests)

  -- a block given out or put back is its pool's
  given : (p n b from sig o : ℕ) (pars : List ℕ) → is_pool sys p ≡ true → At o (New p n b from sig pars) → is_block sys p b ≡ true
  unfolding is_block
  given p n b from sig o pars pool at =
      let keeps = words.pools p pool in
      let rest = hist-next (all_items lanes) order inside ordered (word.Pool p) keeps.numbers xs (said o (New p n b from sig pars)) ys at (same_word-refl (word.Pool p)) in
      let lt : b < blocks_of sys p =
      given-below (blocks_of sys p) o p n b from sig pars rest.0 (draws_of_word (word.Pool p) xs) (subst (λ zs. is_allowed (free_blocks (blocks_of sys p)) zs ≡ true) rest.1 keeps.allowed) in
      let below : nat_lt b (blocks_of sys p) ≡ true = grind (arith, nat_tests) in
      and_from _ _ pool below

  back : (p n b to o : ℕ) → is_pool sys p ≡ true → At o (Back p n b to) → is_block sys p b ≡ true
  unfolding is_block
  back p n b to o pool at =
      let may = draws (free_blocks (blocks_of sys p)) (word.Pool p) (suc n) o (Back p n b to) (words.pools p pool) at refl in
      let lt : b < blocks_of sys p = back-below (blocks_of sys p) (after (free_blocks (blocks_of sys p)) (draws_of_word (word.Pool p) xs)) p n b to may in
      let below : nat_lt b (blocks_of sys p) ≡ true = grind (arith, nat_tests) in
      and_from _ _ pool below

  module _ (events : Entry → Option Event) (c : ℕ) where
    pub comes-front : (o : ℕ) (b : Body) → At o b → names_its sys o b ≡ true → comes_next sys (held_after sys events c xs) o b ≡ true
    unfolding names_its is_word_of comes_next held_after
    comes-front o (Took f l m e) at h = draws (line (ring_of sys o)) (word.Queue o) (f + l + m) o (Took f l m e) (words.queues o h) at refl
    comes-front o (Nil f l m) at h = (shows (line (ring_of sys o)) (word.Queue o) (f + l + m) o (Nil f l m) (words.queues o h) at refl).2
    comes-front o (Seen p f l m) at h = (shows (line (ring_of sys p)) (word.Queue p) (f + l + m) o (Seen p f l m) (words.queues p h) at refl).2
    comes-front o (Post a f l m e) at h = draws (line (ring_of sys a)) (word.Queue a) (f + l + m) o (Post a f l m e) (words.queues a h) at refl
    comes-front o (Lifo f l m e) at h = draws (line (ring_of sys o)) (word.Queue o) (f + l + m) o (Lifo f l m e) (words.queues o h) at refl
    comes-front o (Full a f l m k) at h = (shows (line (ring_of sys a)) (word.Queue a) (f + l + m) o (Full a f l m k) (words.queues a h) at refl).2
    comes-front o (NoEntry a f l m) at h = (shows (line (ring_of sys a)) (word.Queue a) (f + l + m) o (NoEntry a f l m) (words.queues a h) at refl).2
    comes-front o (NoLifo a f l m) at h = (shows (line (ring_of sys a)) (word.Queue a) (f + l + m) o (NoLifo a f l m) (words.queues a h) at refl).2
    comes-front o (New p n b from sig pars) at h =
        and_from _ _ (draws (free_blocks (blocks_of sys p)) (word.Pool p) (suc n) o (New p n b from sig pars) (words.pools p h) at refl)
        (lived p b o (New p n b from sig pars) (suc n) (given p n b from sig o pars h at) at refl)
    comes-front o (Back p n b to) at h =
        and_from _ _ (draws (free_blocks (blocks_of sys p)) (word.Pool p) (suc n) o (Back p n b to) (words.pools p h) at refl)
        (lived p b o (Back p n b to) (suc n) (back p n b to o h at) at refl)
    comes-front o (Short p n free reserve) at h =
        both-counts (free_blocks (blocks_of sys p)) (word.Pool p) n o (Short p n free reserve) (free_blocks-counts (blocks_of sys p)) (words.pools p h) at refl
    comes-front o (NoBlock p n free) at h =
        both-counts (free_blocks (blocks_of sys p)) (word.Pool p) n o (NoBlock p n free) (free_blocks-counts (blocks_of sys p)) (words.pools p h) at refl
    comes-front o (Inc p b r) at h = draws references (word.Block p b) (suc r) o (Inc p b r) (words.blocks p b h) at refl
    comes-front o (Dec p b d k) at h = draws references (word.Block p b) (suc d) o (Dec p b d k) (words.blocks p b h) at refl
    comes-front o (Sub sig n) at h = draws subscribers (word.Signal sig) (suc n) o (Sub sig n) (words.signals sig h) at refl
    comes-front o (Unsub sig n) at h = draws subscribers (word.Signal sig) (suc n) o (Unsub sig n) (words.signals sig h) at refl
    comes-front o (Pub sig n set) at h = both-counts subscribers (word.Signal sig) n o (Pub sig n set) subscribers-counts (words.signals sig h) at refl
    comes-front o (Same sig n) at h = counts subscribers (word.Signal sig) n o (Same sig n) subscribers-counts (words.signals sig h) at refl
    comes-front o (Arm t n ticks interval) at h = draws time_event (word.Timer t) (suc n) o (Arm t n ticks interval) (words.timers t h) at refl
    comes-front o (Disarm t n former) at h = draws time_event (word.Timer t) (suc n) o (Disarm t n former) (words.timers t h) at refl
    comes-front o (Rearm t n former ticks) at h = draws time_event (word.Timer t) (suc n) o (Rearm t n former ticks) (words.timers t h) at refl
    comes-front o (Tick t n counter) at h = draws time_event (word.Timer t) (suc n) o (Tick t n counter) (words.timers t h) at refl
    comes-front o (Fire t n reload) at h = draws time_event (word.Timer t) (suc n) o (Fire t n reload) (words.timers t h) at refl
    comes-front o (Idle t n) at h = both-counts time_event (word.Timer t) n o (Idle t n) time_event-counts (words.timers t h) at refl
    comes-front o (Armed t n counter) at h = both-counts time_event (word.Timer t) n o (Armed t n counter) time_event-counts (words.timers t h) at refl
    comes-front o b at h = refl

    -- what is known beside it; the event of an entry taken is as told
    pub known-front : (o : ℕ) (b : Body) → At o b → names_its sys o b ≡ true → ((f l m : ℕ) (e : Entry) → b ≡ Took f l m e → event_of_entry (record { sys = sys; items = all_items lanes }) e ≡ events e)
        → known_of (record { sys = sys; items = all_items lanes }) o c b ≡ known_then (held_after sys events c xs) o b
    unfolding names_its is_word_of known_of known_then held_after free_before references_after set_at
    known-front o (Took f l m e) at h event = ap event_known (event f l m e refl)
    known-front o (New p n b from sig pars) at h event =
        let pool = words.pools p h in
        let number : n ≡ total (word.Pool p) xs = drawn-number (word.Pool p) n o (New p n b from sig pars) at refl in
        let few : total (word.Pool p) xs < total (word.Pool p) (all_items lanes) =
        drawn-below (all_items lanes) order inside ordered (word.Pool p) pool.numbers xs (said o (New p n b from sig pars)) ys at (same_word-refl (word.Pool p)) in
        let front = take-front (all_items lanes) order inside ordered (word.Pool p) pool.numbers xs (said o (New p n b from sig pars) ∷ ys) at (omega (arith, few)) in
        ap (λ (zs : List Item). Free (length (after (free_blocks (blocks_of sys p)) zs).free)) (ap (λ k. take k (hist (word.Pool p) (all_items lanes))) number ∙ front)
    known-front o (Dec p b d k) at h event =
        let block = words.blocks p b h in
        let number : d ≡ total (word.Block p b) xs = drawn-number (word.Block p b) d o (Dec p b d k) at refl in
        let next = take-next (all_items lanes) order inside ordered (word.Block p b) block.numbers xs (said o (Dec p b d k)) ys at (same_word-refl (word.Block p b)) in
        let size : d + 1 ≡ suc (total (word.Block p b) xs) = omega (arith, number) in
        ap (λ (zs : List Item). Left (length (after references zs).names)) (ap (λ k. take k (hist (word.Block p b) (all_items lanes))) size ∙ next)
        ∙ ap (λ (s : Refs). Left (length s.names)) (after-append references (draws_of_word (word.Block p b) xs) (said o (Dec p b d k)))
    known-front o (Lock ceiling) at h event = refl
    known-front o (Same sig n) at h event =
        let set = words.signals sig h in
        let one = shows subscribers (word.Signal sig) n o (Same sig n) set at refl in
        let front = take-front (all_items lanes) order inside ordered (word.Signal sig) set.numbers xs (said o (Same sig n) ∷ ys) at one.1 in
        ap (λ (zs : List Item). Member (has (after subscribers zs).members o)) (ap (λ k. take k (hist (word.Signal sig) (all_items lanes))) one.0 ∙ front)
    known-front o b at h event = refl
