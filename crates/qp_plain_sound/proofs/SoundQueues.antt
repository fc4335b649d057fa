-- Entries are posted and taken, and records that change no block and no queue: a sound world stays sound.
use Rattle.std.proofs.Common.{◌≡◌, ◌≢◌, ℕ, suc, ◌+◌, ◌<◌, ◌≤◌, ◌==◌, Bool, true, false, ◌&&◌, cond, List, [], ◌∷◌, ◌++◌, length, refl, sym, ◌∙◌, ap, subst, arith, IsTrue, ◌⊎◌, inl, inr}
use Rattle.std.specs.List.{list_all}
use Rattle.std.proofs.lemmas.Bool.{and_from, and_parts}
use Rattle.std.proofs.lemmas.List.Folds.{list_all-append}
use Rattle.std.proofs.lemmas.Bool.Decides.{nat_tests}
use Rattle.qp_chart.specs.StateTree.{has}
use Rattle.qp_model.specs.declared.record.Rec.{Rec}
use Rattle.qp_model.specs.declared.words.Word.TheVariants as word
use Rattle.qp_model.specs.declared.systems.System.{System}
use Rattle.qp_model.specs.declared.bodies.Entry.{Entry}
use Rattle.qp_model.specs.declared.bodies.Body.TheVariants.{Post, Lifo, Took}
use Rattle.qp_model.specs.Record.{Item, item_of}
use Rattle.qp_model.specs.History.{Draws, touch, drawn_on, all_items, lane_items}
use Rattle.qp_model.specs.Line.{Line}
use Rattle.qp_model.specs.Sites.{ring_of}
use Rattle.qp_model.specs.Parts.{is_static}
use Rattle.qp_model.specs.WordLaw.{Words, is_block, is_object, is_signal}
use Rattle.qp_model.proofs.WordLawLemmas.{words-queue}
use Rattle.qp_model.proofs.KnowingLemmas.{IsLater}
use Rattle.qp_model.proofs.LineLemmas.{held-post, held-lifo, held-took}
use Rattle.qp_calls.specs.Tokens.{Token, Held, Loose, token_of, take_out, stands, with_entry, without_entry}
use Rattle.qp_calls.specs.Counting.{one_if, times, count_of}
use Rattle.qp_plain_sound.specs.WordStates.{life_in, refs_in, line_in, set_in}
use Rattle.qp_plain_sound.specs.Sound.{Sound, BlockIn, queued, queues, entries_in, names_block, is_good, is_token_of}
use Rattle.qp_plain_sound.proofs.Times.{times-take_out, times-other, all-take_out, sum-change, times-append}
use Rattle.qp_plain_sound.proofs.Blocks.{ok-same, ok-moved}
use Rattle.qp_plain_sound.proofs.Staying.{life-stays, cell-stays, refs-stays, line-stays, entries_in-stays, queued-stays, entries-stay, subscribed-stay}
use Rattle.qp_plain_sound.proofs.Standing.{block-pool, held-line, line-count}
use Rattle.qp_plain_sound.proofs.SoundParts.{same-block, later-next, event-kept}

-- An entry and the tokens without it, or with it.
module _ (hands : List Token) where
  entry-out : (e : Entry) → (e.pool ≡ 0) ⊎ (stands (token_of e) hands ≡ true) → (p b n : ℕ) → 0 < p
      → count_of (Held p b n) (without_entry e hands) + one_if (is_token_of (Held p b n) e) ≡ count_of (Held p b n) hands
  entry-out e h p b n some = go (e.pool == 0) refl h
    where
      absent : (e.pool == 0) ≡ true → one_if (is_token_of (Held p b n) e) ≡ 0
      absent t =
          let fixed : e.pool ≡ 0 = grind (arith, nat_tests) in
          let other : (p == e.pool) ≡ false = rw fixed (above p some) in
          rw other refl
        where
          above : (p : ℕ) → 0 < p → (p == 0) ≡ false
          above p lt = grind (arith, nat_tests)

      go : (v : Bool) → (e.pool == 0) ≡ v → (e.pool ≡ 0) ⊎ (stands (token_of e) hands ≡ true)
          → count_of (Held p b n) (cond v hands (take_out (token_of e) hands)) + one_if (is_token_of (Held p b n) e) ≡ count_of (Held p b n) hands
      go true t k = let z = absent t in omega (arith, z)
      go false t (inl fixed) = let wrong : (e.pool == 0) ≡ true = grind (arith, nat_tests) in let bad : false ≡ true = sym t ∙ wrong in absurd (cc)
      go false t (inr stand) = times-take_out (token_of e) (Held p b n) hands stand

  loose-out : (e : Entry) (p b : ℕ) (u : Bool) → count_of (Loose p b u) (without_entry e hands) ≡ count_of (Loose p b u) hands
  loose-out e p b u = go (e.pool == 0)
    where
      go : (v : Bool) → count_of (Loose p b u) (cond v hands (take_out (token_of e) hands)) ≡ count_of (Loose p b u) hands
      go true = refl
      go false = times-other (token_of e) (Loose p b u) hands refl

  named-out : (sys : System) (e : Entry) → IsTrue (list_all (names_block sys) hands) → list_all (names_block sys) (without_entry e hands) ≡ true
  named-out sys e tokens = go (e.pool == 0)
    where
      go : (v : Bool) → list_all (names_block sys) (cond v hands (take_out (token_of e) hands)) ≡ true
      go true = tokens
      go false = all-take_out (names_block sys) (token_of e) hands tokens

  entry-in : (e : Entry) (p b n : ℕ) → 0 < p → count_of (Held p b n) (with_entry e hands) ≡ count_of (Held p b n) hands + one_if (is_token_of (Held p b n) e)
  unfolding times
  entry-in e p b n some = go (e.pool == 0) refl
    where
      above : (p : ℕ) → 0 < p → (p == 0) ≡ false
      above p lt = grind (arith, nat_tests)

      go : (v : Bool) → (e.pool == 0) ≡ v → count_of (Held p b n) (cond v hands (token_of e ∷ hands)) ≡ count_of (Held p b n) hands + one_if (is_token_of (Held p b n) e)
      go true t =
          let fixed : e.pool ≡ 0 = grind (arith, nat_tests) in
          let other : (p == e.pool) ≡ false = rw fixed (above p some) in
          let z : one_if (is_token_of (Held p b n) e) ≡ 0 = rw other refl in
          omega (arith, z)
      go false t = omega arith

  loose-in : (e : Entry) (p b : ℕ) (u : Bool) → count_of (Loose p b u) (with_entry e hands) ≡ count_of (Loose p b u) hands
  unfolding times
  loose-in e p b u = go (e.pool == 0)
    where
      go : (v : Bool) → count_of (Loose p b u) (cond v hands (token_of e ∷ hands)) ≡ count_of (Loose p b u) hands
      go true = refl
      go false = omega arith

  named-in : (sys : System) (e : Entry) → is_good sys e ≡ true → IsTrue (list_all (names_block sys) hands) → list_all (names_block sys) (with_entry e hands) ≡ true
  named-in sys e good tokens = go (e.pool == 0) good
    where
      go : (v : Bool) → cond v (is_static sys e.block && (e.name == 0)) (is_block sys e.pool e.block) ≡ true → list_all (names_block sys) (cond v hands (token_of e ∷ hands)) ≡ true
      go true g = tokens
      go false g = and_from _ _ g tokens

pub entries-of : (sys : System) (lanes : List (List Rec)) (a : ℕ) → IsTrue (is_object sys a) → entries_in sys lanes a ≡ (line_in sys lanes a).entries
unfolding entries_in
entries-of sys lanes a h = rw h refl

module _ (sys : System) (before : List (List Rec)) (lane : List Rec) (behind : List (List Rec)) (r : Rec) where
  abbrev old_lanes : List (List Rec)
  old_lanes = before ++ lane ∷ behind

  abbrev new_lanes : List (List Rec)
  new_lanes = before ++ (lane ++ r ∷ []) ∷ behind

  module _ (hands : List Token) (old : Sound sys old_lanes hands) where
    -- A record that draws no number on a pool, a block, a queue or a signal.
    pub sound-quiet : (i : Item) (is : item_of r ≡ i) → IsLater (all_items before ++ lane_items lane) i (all_items behind) → Words sys new_lanes
        → ((p : ℕ) → drawn_on (word.Pool p) (touch i) ≡ false) → ((p b : ℕ) → drawn_on (word.Block p b) (touch i) ≡ false)
        → ((a : ℕ) → drawn_on (word.Queue a) (touch i) ≡ false)
        → ((s : ℕ) → IsTrue (is_signal sys s) → IsTrue (list_all (is_object sys) (set_in new_lanes s).members)) → Sound sys new_lanes hands
    sound-quiet i is later words pool block queue subscribed = record {
      words = words;
      block = λ q c k. same-block sys old_lanes new_lanes hands hands old q c k (life-stays sys before lane behind r i is q c (pool q)) (refs-stays sys before lane behind r i is q c (block q c))
          (λ n. refl) (λ n. queued-stays sys before lane behind r i is (Held q c n) queue) (λ u. refl);
      event = λ q c k. event-kept sys before lane behind r i is later hands old q c k (life-stays sys before lane behind r i is q c (pool q)) (cell-stays sys before lane behind r i is q c (pool q))
          (λ n has_it. subst (λ x. IsTrue (has x.names n)) (refs-stays sys before lane behind r i is q c (block q c)) has_it);
      tokens = old.tokens;
      entries = entries-stay sys before lane behind r i is queue old.entries;
      subscribed = subscribed;
    }

    -- A record that changes the line of queue a.
    module _ (a : ℕ) (h : IsTrue (is_object sys a)) (few : a < queues) (i : Item) (is : item_of r ≡ i) (now : Line) (now_is : line_in sys new_lanes a ≡ now)
        (draws : touch i ≡ Draws (word.Queue a) (suc ((line_in sys old_lanes a).f + (line_in sys old_lanes a).l + (line_in sys old_lanes a).m))) where
      pool : (p : ℕ) → drawn_on (word.Pool p) (touch i) ≡ false
      pool p = rw draws refl

      block : (p b : ℕ) → drawn_on (word.Block p b) (touch i) ≡ false
      block p b = rw draws refl

      signal : (s : ℕ) → drawn_on (word.Signal s) (touch i) ≡ false
      signal s = rw draws refl

      others : (c : ℕ) → (a == c) ≡ false → drawn_on (word.Queue c) (touch i) ≡ false
      others c e = rw (draws, e) refl

      differ : (c : ℕ) → a ≢ c → (a == c) ≡ false
      differ c e = grind (arith, nat_tests)

      moved-later : IsLater (all_items before ++ lane_items lane) i (all_items behind)
      moved-later =
          later-next sys before lane behind r i is (word.Queue a) (draws ∙ ap (λ n. Draws (word.Queue a) (suc n)) (line-count sys old_lanes old.words a h))
          (old.words.queues a h).numbers (λ q c n same. absurd (cc))

      queued-change : (t : Token) → queued sys new_lanes t + times (is_token_of t) (line_in sys old_lanes a).entries ≡ queued sys old_lanes t + times (is_token_of t) now.entries
      unfolding queued
      queued-change t =
          let sums = sum-change queues a (λ c. times (is_token_of t) (entries_in sys old_lanes c)) (λ c. times (is_token_of t) (entries_in sys new_lanes c)) few
          (λ c e. ap (times (is_token_of t)) (entries_in-stays sys before lane behind r i is c (others c (differ c e)))) in
          let was : times (is_token_of t) (entries_in sys old_lanes a) ≡ times (is_token_of t) (line_in sys old_lanes a).entries = ap (times (is_token_of t)) (entries-of sys old_lanes a h) in
          let is_now : times (is_token_of t) (entries_in sys new_lanes a) ≡ times (is_token_of t) now.entries = ap (times (is_token_of t)) (entries-of sys new_lanes a h) ∙ ap (λ q. times (is_token_of t) q.entries) now_is in
          omega (arith, sums, was, is_now)

      -- a reference goes between the hands and the queue
      sound-moved : (have : List Token) → Words sys new_lanes → list_all (names_block sys) have ≡ true → list_all (is_good sys) now.entries ≡ true
          → ((p b n : ℕ) → 0 < p → count_of (Held p b n) have + times (is_token_of (Held p b n)) now.entries ≡ count_of (Held p b n) hands + times (is_token_of (Held p b n)) (line_in sys old_lanes a).entries)
          → ((p b : ℕ) (u : Bool) → count_of (Loose p b u) have ≡ count_of (Loose p b u) hands) → Sound sys new_lanes have
      sound-moved have words named good held loose = record {
        words = words;
        block = λ q c k. moved q c k;
        event = λ q c k. event-kept sys before lane behind r i is moved-later hands old q c k (life-stays sys before lane behind r i is q c (pool q)) (cell-stays sys before lane behind r i is q c (pool q))
            (λ n has_it. subst (λ x. IsTrue (has x.names n)) (refs-stays sys before lane behind r i is q c (block q c)) has_it);
        tokens = named;
        entries = λ c k. entries c k (a == c) refl;
        subscribed = subscribed-stay sys before lane behind r i is signal old.subscribed;
      }
        where
          entries : (c : ℕ) → IsTrue (is_object sys c) → (u : Bool) → (a == c) ≡ u → list_all (is_good sys) (line_in sys new_lanes c).entries ≡ true
          entries c k true e = let at : a ≡ c = grind (arith, nat_tests) in subst (λ x. list_all (is_good sys) (line_in sys new_lanes x).entries ≡ true) at (rw now_is good)
          entries c k false e = rw (line-stays sys before lane behind r i is c (others c e)) (old.entries c k)

          moved : (q c : ℕ) → IsTrue (is_block sys q c) → BlockIn sys new_lanes have q c
          moved q c k =
              ok-same (life_in old_lanes q c) (life_in new_lanes q c) (refs_in old_lanes q c) (refs_in new_lanes q c)
              (λ n. count_of (Held q c n) have) (λ n. queued sys new_lanes (Held q c n)) (λ n. count_of (Held q c n) have) (λ n. queued sys new_lanes (Held q c n))
              (count_of (Loose q c false) hands) (count_of (Loose q c true) hands) (count_of (Loose q c false) have) (count_of (Loose q c true) have)
              (life-stays sys before lane behind r i is q c (pool q)) (refs-stays sys before lane behind r i is q c (block q c)) (λ n. refl) (λ n. refl) (loose q c false) (loose q c true)
              (ok-moved (life_in old_lanes q c) (refs_in old_lanes q c) (λ n. count_of (Held q c n) hands) (λ n. queued sys old_lanes (Held q c n))
              _ _ _ _ (λ n. let m = held q c n (block-pool sys q c k).2 in let z = queued-change (Held q c n) in omega (arith, m, z)) (old.block q c k))

    abbrev queue_line : ℕ → Line
    queue_line a = line_in sys old_lanes a

    -- an entry is posted, static or from the hands
    pub sound-post : (a o : ℕ) (e : Entry) → IsTrue (is_object sys a) → a < queues
        → item_of r ≡ record { of = o; body = Post a ((queue_line a).f + 1) (queue_line a).l (queue_line a).m e }
        → length (queue_line a).entries ≤ ring_of sys a → is_good sys e ≡ true → (e.pool ≡ 0) ⊎ (stands (token_of e) hands ≡ true)
        → Sound sys new_lanes (without_entry e hands)
    unfolding line_in times
    sound-post a o e h few is room good stand =
        let held = held-post before lane behind r (ring_of sys a) a (queue_line a) (held-line sys old_lanes old.words a h) o e is room in
        sound-moved a h few _ is (record { entries = (queue_line a).entries ++ e ∷ []; f = (queue_line a).f + 1; l = (queue_line a).l; m = (queue_line a).m }) held.state
        (ap (Draws (word.Queue a)) (omega arith)) (without_entry e hands)
        (words-queue sys before lane behind r _ is old.words a _ (inl refl) (λ k. held.keeps))
        (named-out hands sys e old.tokens) (all-append (is_good sys) (queue_line a).entries e (old.entries a h) good)
        (λ p b n some. let out = entry-out hands e stand p b n some in let more = times-append (is_token_of (Held p b n)) (queue_line a).entries (e ∷ []) in omega (arith, out, more))
        (loose-out hands e)
      where
        all-append : (p : Entry → Bool) (xs : List Entry) (x : Entry) → list_all p xs ≡ true → p x ≡ true → list_all p (xs ++ x ∷ []) ≡ true
        all-append p xs x h k = rw (list_all-append p xs (x ∷ []), h, k) refl

    -- an entry is posted last-in
    pub sound-lifo : (a : ℕ) (e : Entry) → IsTrue (is_object sys a) → a < queues
        → item_of r ≡ record { of = a; body = Lifo (queue_line a).f ((queue_line a).l + 1) (queue_line a).m e }
        → length (queue_line a).entries ≤ ring_of sys a → is_good sys e ≡ true → (e.pool ≡ 0) ⊎ (stands (token_of e) hands ≡ true)
        → Sound sys new_lanes (without_entry e hands)
    unfolding line_in times
    sound-lifo a e h few is room good stand =
        let held = held-lifo before lane behind r (ring_of sys a) a (queue_line a) (held-line sys old_lanes old.words a h) e is room in
        sound-moved a h few _ is (record { entries = e ∷ (queue_line a).entries; f = (queue_line a).f; l = (queue_line a).l + 1; m = (queue_line a).m })
        held.state (ap (Draws (word.Queue a)) (omega arith)) (without_entry e hands)
        (words-queue sys before lane behind r _ is old.words a _ (inl refl) (λ k. held.keeps))
        (named-out hands sys e old.tokens) (and_from _ _ good (old.entries a h))
        (λ p b n some. let out = entry-out hands e stand p b n some in omega (arith, out))
        (loose-out hands e)

    -- the front entry is taken
    pub sound-took : (a : ℕ) (e : Entry) (rest : List Entry) → IsTrue (is_object sys a) → a < queues
        → item_of r ≡ record { of = a; body = Took (queue_line a).f (queue_line a).l ((queue_line a).m + 1) e }
        → (queue_line a).entries ≡ e ∷ rest → Sound sys new_lanes (with_entry e hands)
    unfolding line_in times
    sound-took a e rest h few is front =
        let held = held-took before lane behind r (ring_of sys a) a (queue_line a) (held-line sys old_lanes old.words a h) e rest is front in
        let good : list_all (is_good sys) (e ∷ rest) ≡ true = rw front at (old.entries a h) in
        sound-moved a h few _ is (record { entries = rest; f = (queue_line a).f; l = (queue_line a).l; m = (queue_line a).m + 1 })
        held.state (ap (Draws (word.Queue a)) (omega arith)) (with_entry e hands)
        (words-queue sys before lane behind r _ is old.words a _ (inl refl) (λ k. held.keeps))
        (named-in hands sys e (and_parts _ _ good).0 old.tokens) (and_parts _ _ good).1
        (λ p b n some. let more = entry-in hands e p b n some in let fewer : times (is_token_of (Held p b n)) (queue_line a).entries ≡ one_if (is_token_of (Held p b n) e) + times (is_token_of (Held p b n)) rest = rw front refl in omega (arith, more, fewer))
        (loose-in hands e)
