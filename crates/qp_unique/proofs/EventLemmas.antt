-- What the records before an entry is taken tell of its event stays, along an order in which one thread makes them.
use Rattle.std.proofs.Common.{◌≡◌, ◌∙◌, ℕ, ◌<◌, ◌==◌, nat_lt, Bool, true, false, cond, List, [], ◌∷◌, ◌++◌, map, length, Some, None, IsTrue, refl, sym, ap, subst, arith, append-nil, append_assoc, ◌⊎◌, inl, inr}
use Rattle.std.specs.declared.option.Option.{Option}
use Rattle.std.proofs.lemmas.Bool.Decides.{nat_tests}
use Rattle.std.proofs.lemmas.List.{map-append}
use Rattle.std.proofs.lemmas.List.Elements.{filter-append}
use Rattle.qp_model.specs.declared.record.Rec.{Rec}
use Rattle.qp_model.specs.declared.words.Word.{Word}
use Rattle.qp_model.specs.declared.words.Word.TheVariants as word
use Rattle.qp_model.specs.declared.systems.System.{System}
use Rattle.qp_model.specs.declared.bodies.Entry.{Entry}
use Rattle.qp_model.specs.declared.bodies.Body.{Body}
use Rattle.qp_model.specs.declared.bodies.Body.TheVariants.{Took, New, Back}
use Rattle.qp_model.specs.Record.{Item}
use Rattle.qp_model.specs.Told.{Event}
use Rattle.qp_model.specs.History.{touch, touch_of, drawn_as, drawn_on, hist, is_numbered, total}
use Rattle.qp_model.specs.Knowing.{event_of_entry, given_by, known_of, last_given, life_event}
use Rattle.qp_model.specs.Places.{in_order}
use Rattle.qp_model.specs.OneOrder.{Placed, items_placed}
use Rattle.qp_model.specs.Settled.{Settled}
use Rattle.qp_model.specs.WordLaw.{is_block, is_object}
use Rattle.qp_model.proofs.HistoryLemmas.{hist-draws, hist-other, is_numbered-draws, is_numbered-other, length-hist, no-hist, in_order-at, in_order-front}
use Rattle.qp_model.proofs.KnowingLemmas.{IsLater, back-fresh, known-stays, new-fresh, settled-stays, next-draws}
use Rattle.qp_model.proofs.EventLemmas.{event_known-same}
use Rattle.qp_plain_sound.specs.Log.{log_of}
use Rattle.qp_plain_sound.specs.May.{May}
use Rattle.qp_plain_sound.specs.Sound.{SoundWorld, hands_in}
use Rattle.qp_plain_sound.specs.WordStates.{refs_in}
use Rattle.qp_plain_sound.proofs.LaterLemmas.{front-stands}
use Rattle.qp_plain_sound.proofs.LogTotals.{total-log}
use Rattle.qp_plain_sound.proofs.Standing.{names-in, refs-count}
use Rattle.qp_plain_sound.proofs.NewLemmas.{none-numbered}
use Rattle.qp_replay.proofs.Histories.{on_word}
use Rattle.qp_unique.proofs.FrontLemmas.{from-behind}

-- Numbers in an order.

pub ordered-numbered : (w : Word) (xs : List Item) → in_order [] xs ≡ true → is_numbered w xs ≡ true
ordered-numbered w = from-behind (λ xs. in_order [] xs ≡ true → is_numbered w xs ≡ true) (λ h. none-numbered w) more
  where
    more : (xs : List Item) (i : Item) → (in_order [] xs ≡ true → is_numbered w xs ≡ true) → in_order [] (xs ++ i ∷ []) ≡ true → is_numbered w (xs ++ i ∷ []) ≡ true
    more xs i before h = by (drawn_on w (touch i)) refl
      where
        same : xs ++ [] ≡ xs
        same = append-nil xs

        old : is_numbered w (xs ++ []) ≡ true
        old = ap (is_numbered w) same ∙ before (in_order-front [] xs (i ∷ []) h)

        by : (b : Bool) → drawn_on w (touch i) ≡ b → is_numbered w (xs ++ i ∷ []) ≡ true
        by true on =
            let next = next-draws w xs (touch i) on (in_order-at [] xs i [] h) in
            is_numbered-draws w xs i [] old (ap (λ us. drawn_as w (total w us) (touch i)) same ∙ next)
        by false off = is_numbered-other w xs i [] off old

-- the history of a word is the records on it, in their order
pub ordered-hist : (w : Word) (xs : List Item) → in_order [] xs ≡ true → hist w xs ≡ on_word w xs
ordered-hist w = from-behind (λ xs. in_order [] xs ≡ true → hist w xs ≡ on_word w xs) (λ h. no-hist w) more
  where
    more : (xs : List Item) (i : Item) → (in_order [] xs ≡ true → hist w xs ≡ on_word w xs) → in_order [] (xs ++ i ∷ []) ≡ true → hist w (xs ++ i ∷ []) ≡ on_word w (xs ++ i ∷ [])
    more xs i before h = by (drawn_on w (touch i)) refl
      where
        same : xs ++ [] ≡ xs
        same = append-nil xs

        front : in_order [] xs ≡ true
        front = in_order-front [] xs (i ∷ []) h

        split : on_word w (xs ++ i ∷ []) ≡ on_word w xs ++ cond (drawn_on w (touch i)) (i ∷ []) []
        split = filter-append (λ j. drawn_on w (touch j)) xs (i ∷ [])

        by : (b : Bool) → drawn_on w (touch i) ≡ b → hist w (xs ++ i ∷ []) ≡ on_word w (xs ++ i ∷ [])
        by true on =
            let next = next-draws w xs (touch i) on (in_order-at [] xs i [] h) in
            hist-draws w xs i [] (ap (is_numbered w) same ∙ ordered-numbered w xs front) (ap (λ us. drawn_as w (total w us) (touch i)) same ∙ next)
            ∙ ap (λ us. hist w us ++ i ∷ []) same ∙ ap (λ us. us ++ i ∷ []) (before front) ∙ sym (split ∙ ap (λ b. on_word w xs ++ cond b (i ∷ []) []) on)
        by false off =
            hist-other w xs i [] off ∙ ap (hist w) same ∙ before front ∙ sym (split ∙ ap (λ b. on_word w xs ++ cond b (i ∷ []) []) off ∙ append-nil (on_word w xs))

-- the event of an entry, by the histories of its pool and its block
pub event-by : (sys : System) (xs ys : List Item) (e : Entry) → ((e.pool ≡ 0 → ⊥) → (hist (word.Pool e.pool) xs ≡ hist (word.Pool e.pool) ys) × (hist (word.Block e.pool e.block) xs ≡ hist (word.Block e.pool e.block) ys))
    → event_of_entry (record { sys = sys; items = xs }) e ≡ event_of_entry (record { sys = sys; items = ys }) e
unfolding event_of_entry life_event
event-by sys xs ys e same = by (e.pool == 0) refl
  where
    its : List Item → List Item → Option Event
    its pool block = cond (nat_lt e.name (length block)) (last_given e.block e.name None pool) None

    by : (b : Bool) → (e.pool == 0) ≡ b
        → cond b (Some (record { sig = e.block; pars = [] })) (its (hist (word.Pool e.pool) xs) (hist (word.Block e.pool e.block) xs))
        ≡ cond b (Some (record { sig = e.block; pars = [] })) (its (hist (word.Pool e.pool) ys) (hist (word.Block e.pool e.block) ys))
    by true is = refl
    by false is =
        let both = same (λ z. let yes : (e.pool == 0) ≡ true = grind (arith, nat_tests, z) in cc) in
        ap (λ pool. its pool (hist (word.Block e.pool e.block) xs)) both.0 ∙ ap (λ block. its (hist (word.Pool e.pool) ys) block) both.1

-- A sound world that has made the records so far, and may make the next.
pub record Stood (sys : System) (xs : List Item) (i : Item) : Type 0 where
  pub lanes : List (List Rec)
  pub order : List ℕ
  pub world : SoundWorld sys lanes order
  pub log : map (λ (x : Placed). x.item) (log_of lanes order) ≡ xs
  pub may : May sys lanes (hands_in sys lanes order) i.of i.body

module _ (sys : System) (xs : List Item) (i : Item) (s : Stood sys xs i) (ordered : in_order [] (xs ++ i ∷ []) ≡ true) where
  before : in_order [] xs ≡ true
  before = in_order-front [] xs (i ∷ []) ordered

  -- a block's history is as long as its word counts
  long : (p b : ℕ) → is_block sys p b ≡ true → (refs_in s.lanes p b).count ≡ length (hist (word.Block p b) xs)
  long p b h =
      refs-count sys s.lanes s.world.sound.words p b h ∙ sym (total-log (word.Block p b) s.lanes s.order s.world.orders)
      ∙ ap (total (word.Block p b)) s.log ∙ sym (length-hist (word.Block p b) xs (ordered-numbered (word.Block p b) xs before))

  fresh : (c : Body) → May sys s.lanes (hands_in sys s.lanes s.order) i.of c → (p b r : ℕ) → drawn_on (word.Pool p) (touch_of i.of c) ≡ true → r < length (hist (word.Block p b) xs)
      → (e : Option Event) → given_by b r e c ≡ e
  unfolding May
  fresh (New q n c from sig pars) may p b r on lt e =
      let same : q ≡ p = let test : (q == p) ≡ true = on in grind (arith, nat_tests) in
      new-fresh (λ x y. hist (word.Block x y) xs) q n c from sig pars (may.since ∙ long q c may.block) p b r (ap word.Pool same) lt e
  fresh (Back q n c to) may p b r on lt e =
      let same : q ≡ p = let test : (q == p) ≡ true = on in grind (arith, nat_tests) in
      back-fresh (λ x y. hist (word.Block x y) xs) q n c to (may.until ∙ long q c may.block) p b r (ap word.Pool same) lt e
  fresh c may p b r on lt e = refl

  later : IsLater xs i []
  later =
      let same : xs ++ [] ≡ xs = append-nil xs in
      record {
        next = λ w on. (
          ap (is_numbered w) same ∙ ordered-numbered w xs before,
          ap (λ us. drawn_as w (total w us) (touch i)) same ∙ next-draws w xs (touch i) on (in_order-at [] xs i [] ordered),
        );
        fresh = λ p b r on lt e. fresh i.body s.may p b r on (subst (λ us. r < length (hist (word.Block p b) us)) same lt) e;
      }

  -- so the event of an entry whose reference was made stays
  pub event-on : (e : Entry) → Settled xs (Took 0 0 0 e) → event_of_entry (record { sys = sys; items = xs ++ i ∷ [] }) e ≡ event_of_entry (record { sys = sys; items = xs }) e
  unfolding known_of
  event-on e settled =
      let same : xs ++ [] ≡ xs = append-nil xs in
      let old : Settled (xs ++ []) (Took 0 0 0 e) = subst (λ us. Settled us (Took 0 0 0 e)) (sym same) settled in
      let known = known-stays sys xs i [] later 0 0 (Took 0 0 0 e) old in
      event_known-same _ _ known ∙ ap (λ us. event_of_entry (record { sys = sys; items = us }) e) same

  pub settled-on : (e : Entry) → Settled xs (Took 0 0 0 e) → Settled (xs ++ i ∷ []) (Took 0 0 0 e)
  settled-on e settled = settled-stays sys xs i [] later (Took 0 0 0 e) (subst (λ us. Settled us (Took 0 0 0 e)) (sym (append-nil xs)) settled)

  -- an entry that is taken has a reference that was made
  pub taken-settled : (f l m : ℕ) (e : Entry) → i.body ≡ Took f l m e → Settled xs (Took 0 0 0 e) × ((e.pool ≡ 0 → ⊥) → IsTrue (is_block sys e.pool e.block))
  unfolding Settled May
  taken-settled f l m e is = by (e.pool == 0) refl
    where
      may : May sys s.lanes (hands_in sys s.lanes s.order) i.of (Took f l m e)
      may = subst (May sys s.lanes (hands_in sys s.lanes s.order) i.of) is s.may

      by : (b : Bool) → (e.pool == 0) ≡ b → ((e.pool ≡ 0) ⊎ (e.name < length (hist (word.Block e.pool e.block) xs))) × ((e.pool ≡ 0 → ⊥) → IsTrue (is_block sys e.pool e.block))
      by true z = let zero_is : e.pool ≡ 0 = grind (arith, nat_tests) in (inl zero_is, λ some. absurd (some zero_is))
      by false z =
          let some : 0 < e.pool = grind (arith, nat_tests) in
          let take = may.2 in
          let object : is_object sys i.of ≡ true = take.queue.object in
          let at = front-stands sys s.lanes (hands_in sys s.lanes s.order) s.world.sound i.of e take.others object (s.world.few i.of object) some take.front in
          let below = (names-in sys s.lanes s.world.sound.words e.pool e.block at.0).below e.name at.1 in
          let size = long e.pool e.block at.0 in
          (inr (omega (arith, below, size)), λ pooled. at.0)

-- Along a whole order.
module _ (sys : System) (all : List Placed) (ordered : in_order [] (items_placed all) ≡ true)
    (stood : (xs : List Placed) (z : Placed) (ys : List Placed) → all ≡ xs ++ z ∷ ys → Stood sys (items_placed xs) z.item) where
  up-to : (xs : List Placed) (z : Placed) (ys : List Placed) → all ≡ xs ++ z ∷ ys → in_order [] (items_placed xs ++ z.item ∷ []) ≡ true
  up-to xs z ys split =
      let whole = ap items_placed split ∙ map-append (λ (x : Placed). x.item) xs (z ∷ ys) ∙ sym (append_assoc (items_placed xs) (z.item ∷ []) (items_placed ys)) in
      in_order-front [] (items_placed xs ++ z.item ∷ []) (items_placed ys) (subst (λ us. in_order [] us ≡ true) whole ordered)

  stays : (xs ys : List Placed) (e : Entry) → all ≡ xs ++ ys → Settled (items_placed xs) (Took 0 0 0 e)
      → event_of_entry (record { sys = sys; items = items_placed all }) e ≡ event_of_entry (record { sys = sys; items = items_placed xs }) e
  stays xs [] e split settled = ap (λ us. event_of_entry (record { sys = sys; items = items_placed us }) e) (split ∙ append-nil xs)
  stays xs (z ∷ ys) e split settled =
      let s = stood xs z ys split in
      let front = up-to xs z ys split in
      let more : items_placed (xs ++ z ∷ []) ≡ items_placed xs ++ z.item ∷ [] = map-append (λ (x : Placed). x.item) xs (z ∷ []) in
      let on : Settled (items_placed (xs ++ z ∷ [])) (Took 0 0 0 e) = subst (λ us. Settled us (Took 0 0 0 e)) (sym more) (settled-on sys (items_placed xs) z.item s front e settled) in
      stays (xs ++ z ∷ []) ys e (split ∙ sym (append_assoc xs (z ∷ []) ys)) on
      ∙ ap (λ us. event_of_entry (record { sys = sys; items = us }) e) more ∙ event-on sys (items_placed xs) z.item s front e settled

  -- what the records before an entry is taken tell of its event, all of them tell
  pub taken-stays : (xs : List Placed) (z : Placed) (ys : List Placed) (f l m : ℕ) (e : Entry) → all ≡ xs ++ z ∷ ys → z.item.body ≡ Took f l m e
      → (event_of_entry (record { sys = sys; items = items_placed all }) e ≡ event_of_entry (record { sys = sys; items = items_placed xs }) e) × ((e.pool ≡ 0 → ⊥) → IsTrue (is_block sys e.pool e.block))
  taken-stays xs z ys f l m e split is =
      let at = taken-settled sys (items_placed xs) z.item (stood xs z ys split) (up-to xs z ys split) f l m e is in
      (stays xs (z ∷ ys) e split at.0, at.1)
