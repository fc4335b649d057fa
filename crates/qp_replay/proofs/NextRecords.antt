-- The next record of a serial order: its words are then as it says.
use Rattle.std.proofs.Common.{◌≡◌, ◌∙◌, ℕ, zero, suc, ◌+◌, ◌-◌, ◌<◌, ◌≤◌, ◌==◌, nat_lt, nat_le, Bool, true, false, not, ◌&&◌, ◌||◌, cond, List, [], ◌∷◌, ◌++◌, length, take, refl, append-nil, append_assoc, sym, ap, subst, arith, ◌⊎◌, inl, inr, Some, IsTrue}
use Rattle.std.specs.List.{cons_option, list_all}
use Rattle.std.proofs.lemmas.Bool.{and_parts, eqb-true, leb-true, ltb-true, not-true}
use Rattle.std.proofs.lemmas.Bool.Decides.{nat_tests}
use Rattle.std.proofs.lemmas.List.Elements.{filter-append, filter_map-append}
use Rattle.qp_chart.specs.StateTree.{has}
use Rattle.qp_model.specs.declared.record.Rec.{Rec}
use Rattle.qp_model.specs.declared.words.Word.{Word}
use Rattle.qp_model.specs.declared.words.Word.TheVariants as word
use Rattle.qp_model.specs.declared.systems.System.{System}
use Rattle.qp_model.specs.declared.bodies.Entry.{Entry}
use Rattle.qp_model.specs.declared.bodies.Body.{Body}
use Rattle.qp_model.specs.declared.bodies.Body.TheVariants as item
use Rattle.qp_model.specs.Record.{Item}
use Rattle.qp_model.specs.History.{Touch, Draws, Shows, touch, touch_of, same_word, drawn_on, all_items, hist, total}
use Rattle.qp_model.specs.Machine.{Machine, after, is_allowed, is_shown, shown_by}
use Rattle.qp_model.specs.FreeBlocks.{free_blocks}
use Rattle.qp_model.specs.References.{references}
use Rattle.qp_model.specs.Line.{Line, line, is_front}
use Rattle.qp_model.specs.Subscribers.{subscribers, bits_of_set}
use Rattle.qp_model.specs.TimeEvents.{time_event}
use Rattle.qp_model.specs.Sites.{blocks_of, ring_of}
use Rattle.qp_model.specs.WordLaw.{Keeps, Words, is_block, is_object, is_pool, is_signal, is_timer}
use Rattle.qp_model.specs.Places.{IsSerial, RecordPlace, in_order, is_next, item_at, items_at}
use Rattle.qp_model.proofs.MachineLemmas.{count-after, is_allowed-at}
use Rattle.qp_model.proofs.WordLawLemmas.{free_blocks-counts, subscribers-counts, time_event-counts}
use Rattle.qp_calls.specs.Tokens.{Token, Held, Loose, stands, token_of}
use Rattle.qp_calls.specs.Counting.{count_of}
use Rattle.qp_calls.proofs.CountLemmas.{is_in, count-stands}
use Rattle.qp_plain_sound.specs.May.{May, IsOwned, IsQueue}
use Rattle.qp_plain_sound.specs.Sound.{SoundWorld, is_good}
use Rattle.qp_plain_sound.specs.WordStates.{clock_in, line_in, pool_in, refs_in, set_in}
use Rattle.qp_plain_sound.proofs.Times.{stands-times}
use Rattle.qp_replay.proofs.SerialLemmas.{all-of}
use Rattle.qp_replay.proofs.Histories.{hist-line, on_word}
use Rattle.qp_model.proofs.RecordLemmas.{same_entry-is}
use Rattle.qp_model.proofs.HistoryLemmas.{same_word-refl}

pub items-split : (lanes : List (List Rec)) (A B : List RecordPlace) (x : RecordPlace) (i : Item) → item_at lanes x ≡ Some i → items_at lanes (A ++ x ∷ B) ≡ items_at lanes A ++ i ∷ items_at lanes B
unfolding items_at
items-split lanes A B x i at = filter_map-append (λ y. item_at lanes y) A (x ∷ B) ∙ ap (λ o. items_at lanes A ++ cons_option o (items_at lanes B)) at

pub items-push : (lanes : List (List Rec)) (A : List RecordPlace) (x : RecordPlace) (i : Item) → item_at lanes x ≡ Some i → items_at lanes (A ++ x ∷ []) ≡ items_at lanes A ++ i ∷ []
unfolding items_at
items-push lanes A x i at = filter_map-append (λ y. item_at lanes y) A (x ∷ []) ∙ ap (λ o. items_at lanes A ++ cons_option o []) at

-- the next record has the next number of its word
next-at : (before xs ys : List Item) (i : Item) → in_order before (xs ++ i ∷ ys) ≡ true → is_next (before ++ xs) (touch i) ≡ true
unfolding in_order
next-at before [] ys i h = subst (λ b. is_next b (touch i) ≡ true) (sym (append-nil before)) (and_parts _ _ h).0
next-at before (x ∷ xs) ys i h = subst (λ b. is_next b (touch i) ≡ true) (append_assoc before (x ∷ []) xs) (next-at (before ++ x ∷ []) xs ys i (and_parts _ _ h).1)

front-take : {A : Type 0} (xs ys : List A) (n : ℕ) → n ≡ length xs → take n (xs ++ ys) ≡ xs
front-take [] ys zero is = refl
front-take [] ys (suc n) is = absurd (omega (arith, is))
front-take (x ∷ xs) ys zero is = absurd (omega (arith, is))
front-take (x ∷ xs) ys (suc n) is = ap (λ zs. x ∷ zs) (front-take xs ys n (omega (arith, is)))

module _ (sys : System) (lanes : List (List Rec)) (order A B : List RecordPlace) (x : RecordPlace) (i : Item) (serial : IsSerial lanes order) (split : order ≡ A ++ x ∷ B)
    (at : item_at lanes x ≡ Some i) (words : Words sys lanes) (W : List (List Rec)) (O : List ℕ) (hists : (w : Word) → hist w (all_items W) ≡ on_word w (items_at lanes A)) where
  ordered : in_order [] (items_at lanes order) ≡ true
  ordered = serial.numbers

  parts : items_at lanes order ≡ items_at lanes A ++ i ∷ items_at lanes B
  parts = ap (items_at lanes) split ∙ items-split lanes A B x i at

  pub next : is_next (items_at lanes A) (touch i) ≡ true
  next = next-at [] (items_at lanes A) (items_at lanes B) i (subst (λ is. in_order [] is ≡ true) parts ordered)

  total-now : (w : Word) → total w (items_at lanes A) ≡ length (hist w (all_items W))
  unfolding total
  total-now w = sym (ap length (hists w))

  -- the law's history of a word: what the world has of it, and then the rest
  pub history : {S : Type 0} (m : Machine S) (w : Word) → Keeps S m w lanes → hist w (all_items lanes) ≡ hist w (all_items W) ++ on_word w (i ∷ items_at lanes B)
  history m w keeps =
      hist-line lanes order serial.all ordered w keeps.numbers ∙ ap (on_word w) parts ∙ filter-append (λ k. drawn_on w (touch k)) (items_at lanes A) (i ∷ items_at lanes B)
      ∙ ap (λ h. h ++ on_word w (i ∷ items_at lanes B)) (sym (hists w))

  pub drawn : {S : Type 0} (m : Machine S) (w : Word) (mark : ℕ) → Keeps S m w lanes → touch i ≡ Draws w mark → m.may (after m (hist w (all_items W))) i ≡ true
  drawn m w mark keeps draws =
      let on : drawn_on w (touch i) ≡ true = ap (drawn_on w) draws ∙ same_word-refl w in
      let rest : on_word w (i ∷ items_at lanes B) ≡ i ∷ on_word w (items_at lanes B) = ap (λ b. cond b (i ∷ on_word w (items_at lanes B)) (on_word w (items_at lanes B))) on in
      let whole : is_allowed m (hist w (all_items W) ++ i ∷ on_word w (items_at lanes B)) ≡ true =
      subst (λ h. is_allowed m h ≡ true) (history m w keeps ∙ ap (λ h. hist w (all_items W) ++ h) rest) keeps.allowed in
      is_allowed-at m (hist w (all_items W)) (on_word w (items_at lanes B)) i whole

  record Says {S : Type 0} (m : Machine S) (w : Word) (n : ℕ) : Type 0 where
    number : n ≡ length (hist w (all_items W))
    says : m.says (after m (hist w (all_items W))) i.body ≡ true

  all-at : {X : Type 0} (p : X → Bool) (xs ys : List X) (y : X) → list_all p (xs ++ y ∷ ys) ≡ true → p y ≡ true
  all-at p [] ys y h = (and_parts _ _ h).0
  all-at p (z ∷ xs) ys y h = all-at p xs ys y (and_parts _ _ h).1

  shown : {S : Type 0} (m : Machine S) (w : Word) (n : ℕ) → Keeps S m w lanes → touch i ≡ Shows w n → Says m w n
  unfolding is_shown shown_by is_next
  shown m w n keeps shows =
      let test : (n == total w (items_at lanes A)) ≡ true = subst (λ t. is_next (items_at lanes A) t ≡ true) shows next in
      let number : n ≡ length (hist w (all_items W)) = eqb-true n (total w (items_at lanes A)) test ∙ total-now w in
      let all : list_all (λ k. shown_by m w (hist w (all_items lanes)) k.body (touch k)) (items_at lanes A ++ i ∷ items_at lanes B) ≡ true =
      subst (λ is. list_all (λ k. shown_by m w (hist w (all_items lanes)) k.body (touch k)) is ≡ true) parts
      (all-of lanes order serial.all (λ k. shown_by m w (hist w (all_items lanes)) k.body (touch k)) keeps.shown) in
      let here : shown_by m w (hist w (all_items lanes)) i.body (touch i) ≡ true = all-at (λ k. shown_by m w (hist w (all_items lanes)) k.body (touch k)) (items_at lanes A) (items_at lanes B) i all in
      let there : cond (same_word w w) (nat_le n (length (hist w (all_items lanes))) && m.says (after m (take n (hist w (all_items lanes)))) i.body) true ≡ true =
      subst (λ t. shown_by m w (hist w (all_items lanes)) i.body t ≡ true) shows here in
      let both : (nat_le n (length (hist w (all_items lanes))) && m.says (after m (take n (hist w (all_items lanes)))) i.body) ≡ true =
      subst (λ u. cond u (nat_le n (length (hist w (all_items lanes))) && m.says (after m (take n (hist w (all_items lanes)))) i.body) true ≡ true) (same_word-refl w) there in
      let front : take n (hist w (all_items lanes)) ≡ hist w (all_items W) =
      ap (take n) (history m w keeps) ∙ front-take (hist w (all_items W)) (on_word w (i ∷ items_at lanes B)) n number in
      record {
        number = number;
        says = subst (λ h. m.says (after m h) i.body ≡ true) front
            (and_parts (nat_le n (length (hist w (all_items lanes)))) (m.says (after m (take n (hist w (all_items lanes)))) i.body) both).1;
      }

  -- What the world's words hold then.
  module _ (world : SoundWorld sys W O) (G H : List Token) (few : (t : Token) → count_of t H ≤ count_of t G) where
    pub stands-too : (t : Token) → IsTrue (stands t H) → IsTrue (stands t G)
    stands-too t h = let some = stands-times t H h in let less = few t in count-stands t G (omega (arith, some, less))

    pub pool-drawn : (p mark : ℕ) → IsTrue (is_pool sys p) → touch i ≡ Draws (word.Pool p) mark → (free_blocks (blocks_of sys p)).may (pool_in sys W p) i ≡ true
    unfolding pool_in
    pool-drawn p mark h draws = drawn (free_blocks (blocks_of sys p)) (word.Pool p) mark (words.pools p h) draws

    pool-shown : (p n : ℕ) → IsTrue (is_pool sys p) → touch i ≡ Shows (word.Pool p) n → (n ≡ (pool_in sys W p).count) × ((free_blocks (blocks_of sys p)).says (pool_in sys W p) i.body ≡ true)
    unfolding pool_in
    pool-shown p n h shows =
        let s = shown (free_blocks (blocks_of sys p)) (word.Pool p) n (words.pools p h) shows in
        let count = count-after (free_blocks (blocks_of sys p)) (free_blocks-counts (blocks_of sys p)) (hist (word.Pool p) (all_items W)) (world.sound.words.pools p h).allowed in
        (s.number ∙ sym count, s.says)

    refs-drawn : (p b mark : ℕ) → IsTrue (is_block sys p b) → touch i ≡ Draws (word.Block p b) mark → references.may (refs_in W p b) i ≡ true
    unfolding refs_in
    refs-drawn p b mark h draws = drawn references (word.Block p b) mark (words.blocks p b h) draws

    line-drawn : (a mark : ℕ) → IsTrue (is_object sys a) → touch i ≡ Draws (word.Queue a) mark → (line (ring_of sys a)).may (line_in sys W a) i ≡ true
    unfolding line_in
    line-drawn a mark h draws = drawn (line (ring_of sys a)) (word.Queue a) mark (words.queues a h) draws

    line-shown : (a n : ℕ) → IsTrue (is_object sys a) → touch i ≡ Shows (word.Queue a) n → (line (ring_of sys a)).says (line_in sys W a) i.body ≡ true
    unfolding line_in
    line-shown a n h shows = (shown (line (ring_of sys a)) (word.Queue a) n (words.queues a h) shows).says

    set-drawn : (sig mark : ℕ) → IsTrue (is_signal sys sig) → touch i ≡ Draws (word.Signal sig) mark → subscribers.may (set_in W sig) i ≡ true
    unfolding set_in
    set-drawn sig mark h draws = drawn subscribers (word.Signal sig) mark (words.signals sig h) draws

    set-shown : (sig n : ℕ) → IsTrue (is_signal sys sig) → touch i ≡ Shows (word.Signal sig) n → (n ≡ (set_in W sig).count) × (subscribers.says (set_in W sig) i.body ≡ true)
    unfolding set_in
    set-shown sig n h shows =
        let s = shown subscribers (word.Signal sig) n (words.signals sig h) shows in
        let count = count-after subscribers subscribers-counts (hist (word.Signal sig) (all_items W)) (world.sound.words.signals sig h).allowed in
        (s.number ∙ sym count, s.says)

    clock-drawn : (t mark : ℕ) → IsTrue (is_timer sys t) → touch i ≡ Draws (word.Timer t) mark → time_event.may (clock_in W t) i ≡ true
    unfolding clock_in
    clock-drawn t mark h draws = drawn time_event (word.Timer t) mark (words.timers t h) draws

    clock-shown : (t n : ℕ) → IsTrue (is_timer sys t) → touch i ≡ Shows (word.Timer t) n → (n ≡ (clock_in W t).count) × (time_event.says (clock_in W t) i.body ≡ true)
    unfolding clock_in
    clock-shown t n h shows =
        let s = shown time_event (word.Timer t) n (words.timers t h) shows in
        let count = count-after time_event time_event-counts (hist (word.Timer t) (all_items W)) (world.sound.words.timers t h).allowed in
        (s.number ∙ sym count, s.says)

    counts-is : (a f l m : ℕ) → IsTrue (is_object sys a) → (((line_in sys W a).f == f) && ((line_in sys W a).l == l) && ((line_in sys W a).m == m)) ≡ true → IsQueue sys W a f l m
    counts-is a f l m h test =
        let two = and_parts (((line_in sys W a).f == f) && ((line_in sys W a).l == l)) ((line_in sys W a).m == m) test in
        let one = and_parts ((line_in sys W a).f == f) ((line_in sys W a).l == l) two.0 in
        record { object = h; firsts = sym (eqb-true (line_in sys W a).f f one.0); lasts = sym (eqb-true (line_in sys W a).l l one.1); takes = sym (eqb-true (line_in sys W a).m m two.1) }

    owned-is : (e : Entry) → IsTrue (is_good sys e) → IsTrue (is_in e H) → IsOwned sys G e
    owned-is e good inside = record { good = good; token = go (e.pool == 0) refl inside }
      where
        go : (u : Bool) → (e.pool == 0) ≡ u → (u || stands (token_of e) H) ≡ true → (e.pool ≡ 0) ⊎ IsTrue (stands (token_of e) G)
        go true is h = inl (eqb-true e.pool 0 is)
        go false is h = inr (stands-too (token_of e) h)

    some-is : (n : ℕ) → not (n == 0) ≡ true → 0 < n
    some-is n h = grind (arith, nat_tests, h)

    -- Kinds of records, each of object o.
    module _ (o : ℕ) where
      abbrev Is : Body → Type 0
      Is b = i ≡ record { of = o; body = b }

      touches : (b : Body) (t : Touch) → Is b → touch_of o b ≡ t → touch i ≡ t
      touches b t is same = ap touch is ∙ same

      pub took-may : (f l m : ℕ) (e : Entry) → Is (item.Took f l m e) → IsTrue (is_object sys o) → May sys W G o (item.Took f l m e)
      unfolding May
      took-may f l m e is h =
          let may : (((f == s.f) && (l == s.l) && (m == s.m + 1)) && is_front e s.entries) ≡ true = subst (λ k. (line (ring_of sys o)).may (line_in sys W o) k ≡ true) is (line-drawn o (f + l + m) h (touches (item.Took f l m e) _ is refl)) in
          let all = and_parts ((f == s.f) && (l == s.l) && (m == s.m + 1)) (is_front e s.entries) may in
          let two = and_parts ((f == s.f) && (l == s.l)) (m == s.m + 1) all.0 in
          let one = and_parts (f == s.f) (l == s.l) two.0 in (
            s.m,
            eqb-true m (s.m + 1) two.1,
            record {
              queue = record { object = h; firsts = eqb-true f s.f one.0; lasts = eqb-true l s.l one.1; takes = refl };
              others = (first s.entries all.1).0;
              front = (first s.entries all.1).1;
            },
          )
        where
          s : Line
          s = line_in sys W o

          first : (es : List Entry) → is_front e es ≡ true → (others : List Entry) × (es ≡ e ∷ others)
          first [] h = absurd (cc)
          first (y ∷ ys) h = (ys, ap (λ z. z ∷ ys) (same_entry-is y e h))

      pub post-may : (a f l m : ℕ) (e : Entry) → Is (item.Post a f l m e) → IsTrue (is_object sys a) → IsTrue (is_good sys e) → IsTrue (is_in e H) → May sys W G o (item.Post a f l m e)
      unfolding May
      post-may a f l m e is h good inside =
          let may : (((f == s.f + 1) && (l == s.l) && (m == s.m)) && nat_le (length s.entries) (ring_of sys a)) ≡ true =
          subst (λ k. (line (ring_of sys a)).may (line_in sys W a) k ≡ true) is (line-drawn a (f + l + m) h (touches (item.Post a f l m e) _ is refl)) in
          let all = and_parts ((f == s.f + 1) && (l == s.l) && (m == s.m)) (nat_le (length s.entries) (ring_of sys a)) may in
          let two = and_parts ((f == s.f + 1) && (l == s.l)) (m == s.m) all.0 in
          let one = and_parts (f == s.f + 1) (l == s.l) two.0 in (
            s.f,
            eqb-true f (s.f + 1) one.0,
            record {
              queue = record { object = h; firsts = refl; lasts = eqb-true l s.l one.1; takes = eqb-true m s.m two.1 };
              room = leb-true (length s.entries) (ring_of sys a) all.1;
              owned = owned-is e good inside;
            },
          )
        where
          s : Line
          s = line_in sys W a

      pub lifo-may : (f l m : ℕ) (e : Entry) → Is (item.Lifo f l m e) → IsTrue (is_object sys o) → IsTrue (is_good sys e) → IsTrue (is_in e H) → May sys W G o (item.Lifo f l m e)
      unfolding May
      lifo-may f l m e is h good inside =
          let may : (((f == s.f) && (l == s.l + 1) && (m == s.m)) && nat_le (length s.entries) (ring_of sys o)) ≡ true =
          subst (λ k. (line (ring_of sys o)).may (line_in sys W o) k ≡ true) is (line-drawn o (f + l + m) h (touches (item.Lifo f l m e) _ is refl)) in
          let all = and_parts ((f == s.f) && (l == s.l + 1) && (m == s.m)) (nat_le (length s.entries) (ring_of sys o)) may in
          let two = and_parts ((f == s.f) && (l == s.l + 1)) (m == s.m) all.0 in
          let one = and_parts (f == s.f) (l == s.l + 1) two.0 in (
            s.l,
            eqb-true l (s.l + 1) one.1,
            record {
              queue = record { object = h; firsts = eqb-true f s.f one.0; lasts = refl; takes = eqb-true m s.m two.1 };
              room = leb-true (length s.entries) (ring_of sys o) all.1;
              owned = owned-is e good inside;
            },
          )
        where
          s : Line
          s = line_in sys W o

      pub seen-may : (p f l m : ℕ) → Is (item.Seen p f l m) → IsTrue (is_object sys p) → May sys W G o (item.Seen p f l m)
      unfolding May
      seen-may p f l m is h =
          counts-is p f l m h (subst (λ b. (line (ring_of sys p)).says (line_in sys W p) b ≡ true) (ap (λ k. k.body) is) (line-shown p (f + l + m) h (touches (item.Seen p f l m) _ is refl)))

      pub nil-may : (f l m : ℕ) → Is (item.Nil f l m) → IsTrue (is_object sys o) → May sys W G o (item.Nil f l m)
      unfolding May
      nil-may f l m is h =
          let says : ((((s.f == f) && (s.l == l)) && (s.m == m)) && (f + l == m)) ≡ true =
          subst (λ b. (line (ring_of sys o)).says (line_in sys W o) b ≡ true) (ap (λ k. k.body) is) (line-shown o (f + l + m) h (touches (item.Nil f l m) _ is refl)) in
          let all = and_parts (((s.f == f) && (s.l == l)) && (s.m == m)) (f + l == m) says in
          (counts-is o f l m h all.0, eqb-true (f + l) m all.1)
        where
          s : Line
          s = line_in sys W o

      pub full-may : (a f l m margin : ℕ) → Is (item.Full a f l m margin) → IsTrue (is_object sys a) → May sys W G o (item.Full a f l m margin)
      unfolding May
      full-may a f l m margin is h =
          let says : ((((s.f == f) && (s.l == l)) && (s.m == m)) && nat_le (ring_of sys a + 1 - (f + l - m)) margin) ≡ true =
          subst (λ b. (line (ring_of sys a)).says (line_in sys W a) b ≡ true) (ap (λ k. k.body) is) (line-shown a (f + l + m) h (touches (item.Full a f l m margin) _ is refl)) in
          let all = and_parts (((s.f == f) && (s.l == l)) && (s.m == m)) (nat_le (ring_of sys a + 1 - (f + l - m)) margin) says in
          (counts-is a f l m h all.0, leb-true (ring_of sys a + 1 - (f + l - m)) margin all.1)
        where
          s : Line
          s = line_in sys W a

      pub no_entry-may : (a f l m : ℕ) → Is (item.NoEntry a f l m) → IsTrue (is_object sys a) → May sys W G o (item.NoEntry a f l m)
      unfolding May
      no_entry-may a f l m is h =
          let says : ((((s.f == f) && (s.l == l)) && (s.m == m)) && (f + l - m == ring_of sys a + 1)) ≡ true =
          subst (λ b. (line (ring_of sys a)).says (line_in sys W a) b ≡ true) (ap (λ k. k.body) is) (line-shown a (f + l + m) h (touches (item.NoEntry a f l m) _ is refl)) in
          let all = and_parts (((s.f == f) && (s.l == l)) && (s.m == m)) (f + l - m == ring_of sys a + 1) says in
          (counts-is a f l m h all.0, eqb-true (f + l - m) (ring_of sys a + 1) all.1)
        where
          s : Line
          s = line_in sys W a

      pub no_lifo-may : (a f l m : ℕ) → Is (item.NoLifo a f l m) → IsTrue (is_object sys a) → May sys W G o (item.NoLifo a f l m)
      unfolding May
      no_lifo-may a f l m is h =
          let says : ((((s.f == f) && (s.l == l)) && (s.m == m)) && (f + l - m == ring_of sys a + 1)) ≡ true =
          subst (λ b. (line (ring_of sys a)).says (line_in sys W a) b ≡ true) (ap (λ k. k.body) is) (line-shown a (f + l + m) h (touches (item.NoLifo a f l m) _ is refl)) in
          let all = and_parts (((s.f == f) && (s.l == l)) && (s.m == m)) (f + l - m == ring_of sys a + 1) says in
          (counts-is a f l m h all.0, eqb-true (f + l - m) (ring_of sys a + 1) all.1)
        where
          s : Line
          s = line_in sys W a

      pub short-may : (p n free reserve : ℕ) → Is (item.Short p n free reserve) → IsTrue (is_pool sys p) → May sys W G o (item.Short p n free reserve)
      unfolding May
      short-may p n free reserve is h =
          let s = pool-shown p n h (touches (item.Short p n free reserve) _ is refl) in
          let says : ((length (pool_in sys W p).free == free) && nat_le free reserve) ≡ true = subst (λ b. (free_blocks (blocks_of sys p)).says (pool_in sys W p) b ≡ true) (ap (λ k. k.body) is) s.1 in
          let all = and_parts (length (pool_in sys W p).free == free) (nat_le free reserve) says in
          (record { pool = h; number = s.0; free_blocks = sym (eqb-true (length (pool_in sys W p).free) free all.0) }, leb-true free reserve all.1)

      pub no_block-may : (p n free : ℕ) → Is (item.NoBlock p n free) → IsTrue (is_pool sys p) → May sys W G o (item.NoBlock p n free)
      unfolding May
      no_block-may p n free is h =
          let s = pool-shown p n h (touches (item.NoBlock p n free) _ is refl) in
          let says : ((length (pool_in sys W p).free == free) && (free == 0)) ≡ true = subst (λ b. (free_blocks (blocks_of sys p)).says (pool_in sys W p) b ≡ true) (ap (λ k. k.body) is) s.1 in
          let all = and_parts (length (pool_in sys W p).free == free) (free == 0) says in
          (record { pool = h; number = s.0; free_blocks = sym (eqb-true (length (pool_in sys W p).free) free all.0) }, eqb-true free 0 all.1)

      pub inc-may : (p b r : ℕ) → Is (item.Inc p b r) → IsTrue (is_block sys p b) → IsTrue (stands (Loose p b false) H) ⊎ ((k : ℕ) × IsTrue (stands (Held p b k) H)) → May sys W G o (item.Inc p b r)
      unfolding May
      inc-may p b r is h token =
          let may : (r == (refs_in W p b).count) ≡ true = subst (λ k. references.may (refs_in W p b) k ≡ true) is (refs-drawn p b (suc r) h (touches (item.Inc p b r) _ is refl)) in
          record {
            block = h;
            number = eqb-true r (refs_in W p b).count may;
            token = elim token [ inl loose ↦ inl (stands-too (Loose p b false) loose) | inr other ↦ inr (other.0, stands-too (Held p b other.0) other.1) ];
          }

      pub dec-may : (p b d k : ℕ) → Is (item.Dec p b d k) → IsTrue (is_block sys p b) → IsTrue (stands (Held p b k) H) → May sys W G o (item.Dec p b d k)
      unfolding May
      dec-may p b d k is h token =
          let may : ((d == (refs_in W p b).count) && has (refs_in W p b).names k) ≡ true = subst (λ j. references.may (refs_in W p b) j ≡ true) is (refs-drawn p b (suc d) h (touches (item.Dec p b d k) _ is refl)) in
          record { block = h; number = eqb-true d (refs_in W p b).count (and_parts _ _ may).0; token = stands-too (Held p b k) token }

      pub sub-may : (sig n : ℕ) → Is (item.Sub sig n) → IsTrue (is_signal sys sig) → IsTrue (is_object sys o) → May sys W G o (item.Sub sig n)
      unfolding May
      sub-may sig n is h object =
          let may : ((n == (set_in W sig).count) && not (has (set_in W sig).members o)) ≡ true = subst (λ k. subscribers.may (set_in W sig) k ≡ true) is (set-drawn sig (suc n) h (touches (item.Sub sig n) _ is refl)) in
          let all = and_parts (n == (set_in W sig).count) (not (has (set_in W sig).members o)) may in
          (record { signal = h; number = eqb-true n (set_in W sig).count all.0 }, not-true (has (set_in W sig).members o) all.1, object)

      pub unsub-may : (sig n : ℕ) → Is (item.Unsub sig n) → IsTrue (is_signal sys sig) → May sys W G o (item.Unsub sig n)
      unfolding May
      unsub-may sig n is h =
          let may : ((n == (set_in W sig).count) && has (set_in W sig).members o) ≡ true = subst (λ k. subscribers.may (set_in W sig) k ≡ true) is (set-drawn sig (suc n) h (touches (item.Unsub sig n) _ is refl)) in
          let all = and_parts (n == (set_in W sig).count) (has (set_in W sig).members o) may in
          (record { signal = h; number = eqb-true n (set_in W sig).count all.0 }, all.1)

      pub same-may : (sig n : ℕ) → Is (item.Same sig n) → IsTrue (is_signal sys sig) → May sys W G o (item.Same sig n)
      unfolding May
      same-may sig n is h = record { signal = h; number = (set-shown sig n h (touches (item.Same sig n) _ is refl)).0 }

      pub pub-may : (sig n set : ℕ) → Is (item.Pub sig n set) → IsTrue (is_signal sys sig) → May sys W G o (item.Pub sig n set)
      unfolding May
      pub-may sig n set is h =
          let s = set-shown sig n h (touches (item.Pub sig n set) _ is refl) in
          let says : (bits_of_set (set_in W sig).members == set) ≡ true = subst (λ b. subscribers.says (set_in W sig) b ≡ true) (ap (λ k. k.body) is) s.1 in
          (record { signal = h; number = s.0 }, sym (eqb-true (bits_of_set (set_in W sig).members) set says))

      pub arm-may : (t n ticks interval : ℕ) → Is (item.Arm t n ticks interval) → IsTrue (is_timer sys t) → May sys W G o (item.Arm t n ticks interval)
      unfolding May
      arm-may t n ticks interval is h =
          let may : ((n == (clock_in W t).count) && ((clock_in W t).counter == 0)) ≡ true =
          subst (λ k. time_event.may (clock_in W t) k ≡ true) is (clock-drawn t (suc n) h (touches (item.Arm t n ticks interval) _ is refl)) in
          let all = and_parts (n == (clock_in W t).count) ((clock_in W t).counter == 0) may in
          record { timer = h; number = eqb-true n (clock_in W t).count all.0; is_counter = sym (eqb-true (clock_in W t).counter 0 all.1) }

      pub disarm-may : (t n former : ℕ) → Is (item.Disarm t n former) → IsTrue (is_timer sys t) → May sys W G o (item.Disarm t n former)
      unfolding May
      disarm-may t n former is h =
          let may : (((n == (clock_in W t).count) && ((clock_in W t).counter == former)) && not (former == 0)) ≡ true =
          subst (λ k. time_event.may (clock_in W t) k ≡ true) is (clock-drawn t (suc n) h (touches (item.Disarm t n former) _ is refl)) in
          let all = and_parts ((n == (clock_in W t).count) && ((clock_in W t).counter == former)) (not (former == 0)) may in
          let two = and_parts (n == (clock_in W t).count) ((clock_in W t).counter == former) all.0 in
          (record { timer = h; number = eqb-true n (clock_in W t).count two.0; is_counter = sym (eqb-true (clock_in W t).counter former two.1) }, some-is former all.1)

      pub rearm-may : (t n former ticks : ℕ) → Is (item.Rearm t n former ticks) → IsTrue (is_timer sys t) → May sys W G o (item.Rearm t n former ticks)
      unfolding May
      rearm-may t n former ticks is h =
          let may : ((n == (clock_in W t).count) && ((clock_in W t).counter == former)) ≡ true =
          subst (λ k. time_event.may (clock_in W t) k ≡ true) is (clock-drawn t (suc n) h (touches (item.Rearm t n former ticks) _ is refl)) in
          let two = and_parts (n == (clock_in W t).count) ((clock_in W t).counter == former) may in
          record { timer = h; number = eqb-true n (clock_in W t).count two.0; is_counter = sym (eqb-true (clock_in W t).counter former two.1) }

      pub tick-may : (t n counter : ℕ) → Is (item.Tick t n counter) → IsTrue (is_timer sys t) → May sys W G o (item.Tick t n counter)
      unfolding May
      tick-may t n counter is h =
          let may : (((n == (clock_in W t).count) && ((clock_in W t).counter == counter + 1)) && nat_lt 0 counter) ≡ true =
          subst (λ k. time_event.may (clock_in W t) k ≡ true) is (clock-drawn t (suc n) h (touches (item.Tick t n counter) _ is refl)) in
          let all = and_parts ((n == (clock_in W t).count) && ((clock_in W t).counter == counter + 1)) (nat_lt 0 counter) may in
          let two = and_parts (n == (clock_in W t).count) ((clock_in W t).counter == counter + 1) all.0 in
          (record { timer = h; number = eqb-true n (clock_in W t).count two.0; is_counter = sym (eqb-true (clock_in W t).counter (counter + 1) two.1) }, ltb-true 0 counter all.1)

      pub fire-may : (t n reload : ℕ) → Is (item.Fire t n reload) → IsTrue (is_timer sys t) → May sys W G o (item.Fire t n reload)
      unfolding May
      fire-may t n reload is h =
          let may : (((n == (clock_in W t).count) && ((clock_in W t).counter == 1)) && (reload == (clock_in W t).interval)) ≡ true =
          subst (λ k. time_event.may (clock_in W t) k ≡ true) is (clock-drawn t (suc n) h (touches (item.Fire t n reload) _ is refl)) in
          let all = and_parts ((n == (clock_in W t).count) && ((clock_in W t).counter == 1)) (reload == (clock_in W t).interval) may in
          let two = and_parts (n == (clock_in W t).count) ((clock_in W t).counter == 1) all.0 in
          (record { timer = h; number = eqb-true n (clock_in W t).count two.0; is_counter = sym (eqb-true (clock_in W t).counter 1 two.1) }, eqb-true reload (clock_in W t).interval all.1)

      pub idle-may : (t n : ℕ) → Is (item.Idle t n) → IsTrue (is_timer sys t) → May sys W G o (item.Idle t n)
      unfolding May
      idle-may t n is h =
          let s = clock-shown t n h (touches (item.Idle t n) _ is refl) in
          let says : ((clock_in W t).counter == 0) ≡ true = subst (λ b. time_event.says (clock_in W t) b ≡ true) (ap (λ k. k.body) is) s.1 in
          record { timer = h; number = s.0; is_counter = sym (eqb-true (clock_in W t).counter 0 says) }

      pub armed-may : (t n counter : ℕ) → Is (item.Armed t n counter) → IsTrue (is_timer sys t) → May sys W G o (item.Armed t n counter)
      unfolding May
      armed-may t n counter is h =
          let s = clock-shown t n h (touches (item.Armed t n counter) _ is refl) in
          let says : (((clock_in W t).counter == counter) && not (counter == 0)) ≡ true = subst (λ b. time_event.says (clock_in W t) b ≡ true) (ap (λ k. k.body) is) s.1 in
          let all = and_parts ((clock_in W t).counter == counter) (not (counter == 0)) says in
          (record { timer = h; number = s.0; is_counter = sym (eqb-true (clock_in W t).counter counter all.0) }, some-is counter all.1)
