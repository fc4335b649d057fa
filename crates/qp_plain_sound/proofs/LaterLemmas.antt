-- A record that may come is later than all that is known, and what it states of its own word has been reached.
use Rattle.std.proofs.Common.{◌≡◌, ℕ, zero, suc, ◌+◌, ◌<◌, ◌≤◌, ◌==◌, Bool, true, false, List, [], ◌∷◌, ◌++◌, length, refl, sym, ◌∙◌, ap, subst, arith, IsTrue, ◌⊎◌, inl, inr, Option}
use Rattle.std.specs.List.{list_all}
use Rattle.std.proofs.lemmas.Bool.{and_from, and_parts, le-leb, lt-ltb, or_right}
use Rattle.std.proofs.lemmas.Bool.Decides.{nat_tests}
use Rattle.qp_chart.specs.StateTree.{has}
use Rattle.qp_model.specs.declared.record.Rec.{Rec}
use Rattle.qp_model.specs.declared.words.Word.{Word}
use Rattle.qp_model.specs.declared.words.Word.TheVariants as word
use Rattle.qp_model.specs.declared.systems.System.{System}
use Rattle.qp_model.specs.declared.bodies.Entry.{Entry}
use Rattle.qp_model.specs.declared.bodies.Body.{Body}
use Rattle.qp_model.specs.declared.bodies.Body.TheVariants.{Took, New, Inc, Dec, Back, Post, Lifo, Same}
use Rattle.qp_model.specs.Record.{Item, item_of, entry}
use Rattle.qp_model.specs.Told.{Event}
use Rattle.qp_model.specs.History.{Draws, touch, touch_of, same_word, drawn_on, hist, total, all_items, lane_items}
use Rattle.qp_model.specs.Knowing.{given_by}
use Rattle.qp_model.specs.Settled.{is_settled}
use Rattle.qp_model.specs.WordLaw.{Words, is_block, is_object, is_pool, is_signal}
use Rattle.qp_model.proofs.HistoryLemmas.{length-hist}
use Rattle.qp_model.proofs.WordLemmas.{all_items-split, all_items-grown}
use Rattle.qp_model.proofs.KnowingLemmas.{IsLater, later-undrawn, new-fresh, back-fresh, settled-stays}
use Rattle.qp_model.proofs.SettledLemmas.{settled-from, settled-to}
use Rattle.qp_calls.specs.Tokens.{Token, Held, token_of, stands}
use Rattle.qp_calls.specs.Counting.{one_if, times}
use Rattle.qp_calls.proofs.HandLemmas.{same-self}
use Rattle.qp_plain_sound.specs.WordStates.{pool_in, refs_in, line_in, set_in}
use Rattle.qp_plain_sound.specs.Sound.{Sound, sum_below, queued, queues, entries_in, is_token_of, is_good, is_made, handles_made, all_made, names_block}
use Rattle.qp_plain_sound.specs.May.{May}
use Rattle.qp_plain_sound.proofs.Times.{has-times, all-stands}
use Rattle.qp_plain_sound.proofs.Marks.{Next, Drawing, Showing, Silent, total-on, total-rises}
use Rattle.qp_plain_sound.proofs.NextLemmas.{next-of}
use Rattle.qp_plain_sound.proofs.Standing.{pool-count, refs-count, refs-long, set-count, block-pool, names-in, held-stands}
use Rattle.qp_plain_sound.proofs.SoundParts.{later-next}
use Rattle.qp_plain_sound.proofs.SoundQueues.{entries-of}
use Rattle.qp_model.proofs.LineLemmas.{same_number}

-- Each kind.
module _ (sys : System) (before : List (List Rec)) (lane : List Rec) (behind : List (List Rec)) (r : Rec) (o : ℕ) (b : Body)
    (is : item_of r ≡ record { of = o; body = b }) where
  abbrev old_lanes : List (List Rec)
  old_lanes = before ++ lane ∷ behind

  abbrev i : Item
  i = record { of = o; body = b }

  -- a block given out begins a life of no reference made so far, and one that comes back ends it behind all of them
  fresh-of : (words : Words sys old_lanes) (hands : List Token) (c : Body) → May sys old_lanes hands o c → (p d n : ℕ) → drawn_on (word.Pool p) (touch_of o c) ≡ true
      → n < length (hist (word.Block p d) (all_items old_lanes)) → (e : Option Event) → given_by d n e c ≡ e
  unfolding May
  fresh-of words hands (New q k c from sig pars) m p d n on lt e =
      new-fresh (λ x y. hist (word.Block x y) (all_items old_lanes)) q k c from sig pars (m.since ∙ refs-long sys old_lanes words q c m.block) p d n
      (ap word.Pool (same q p on)) lt e
    where
      same : (x y : ℕ) → (x == y) ≡ true → x ≡ y
      same x y h = grind (arith, nat_tests)
  fresh-of words hands (Back q k c to) m p d n on lt e =
      back-fresh (λ x y. hist (word.Block x y) (all_items old_lanes)) q k c to (m.until ∙ refs-long sys old_lanes words q c m.block) p d n
      (ap word.Pool (same q p on)) lt e
    where
      same : (x y : ℕ) → (x == y) ≡ true → x ≡ y
      same x y h = grind (arith, nat_tests)
  fresh-of words hands _ m p d n on lt e = refl

  pub later-of : (words : Words sys old_lanes) (hands : List Token) → May sys old_lanes hands o b → IsLater (all_items before ++ lane_items lane) i (all_items behind)
  later-of words hands m = go (next-of sys old_lanes words hands o b m)
    where
      drawn : (w : Word) (n p : ℕ) → touch i ≡ Draws w n → w ≡ word.Pool p → drawn_on (word.Pool p) (touch i) ≡ true
      drawn w n p draws same = rw draws (subst (λ v. same_word v (word.Pool p) ≡ true) (sym same) (same_number p))

      go : Next (all_items old_lanes) (touch i) → IsLater (all_items before ++ lane_items lane) i (all_items behind)
      go (Drawing w draws numbers) =
          later-next sys before lane behind r i is w draws numbers (λ p d n same lt e. fresh-of words hands b m p d n (drawn w _ p draws same) lt e)
      go (Showing w shows) = later-undrawn (all_items before ++ lane_items lane) i (all_items behind) (λ v. rw shows refl)
      go (Silent none) = later-undrawn (all_items before ++ lane_items lane) i (all_items behind) (λ v. rw none refl)

-- What was made stays made.
module _ (sys : System) (xs : List Item) (i : Item) (ys : List Item) (later : IsLater xs i ys) where
  pub made-stays : (e : Entry) → is_made (xs ++ ys) e ≡ true → is_made (xs ++ i ∷ ys) e ≡ true
  unfolding is_made is_settled
  made-stays e h = settled-to (xs ++ i ∷ ys) (Took 0 0 0 e) (settled-stays sys xs i ys later (Took 0 0 0 e) (settled-from (xs ++ ys) (Took 0 0 0 e) h))

  handles-stays : (b : Body) → handles_made (xs ++ ys) b ≡ true → handles_made (xs ++ i ∷ ys) b ≡ true
  handles-stays (Took f l m e) h = made-stays e h
  handles-stays (Inc p b r) h = made-stays (entry p b r) h
  handles-stays (Dec p b d k) h = made-stays (entry p b k) h
  handles-stays (Post a f l m e) h = made-stays e h
  handles-stays (Lifo f l m e) h = made-stays e h
  handles-stays _ h = refl

  pub all_made-stays : (lane : List Item) → all_made (xs ++ ys) lane ≡ true → all_made (xs ++ i ∷ ys) lane ≡ true
  unfolding all_made
  all_made-stays [] h = refl
  all_made-stays (j ∷ js) h = and_from _ _ (handles-stays j.body (and_parts _ _ h).0) (all_made-stays js (and_parts _ _ h).1)

-- Entries in queues and hands were made.
part-of-sum : (n : ℕ) (f : ℕ → ℕ) (a : ℕ) → a < n → f a ≤ sum_below n f
unfolding sum_below
part-of-sum zero f a lt = absurd (omega (arith, lt))
part-of-sum (suc n) f a lt = go (a == n) refl (part-of-sum n f a)
  where
    go : (u : Bool) → (a == n) ≡ u → (a < n → f a ≤ sum_below n f) → f a ≤ sum_below n f + f n
    go true e later = let is : a ≡ n = grind (arith, nat_tests) in let same : f a ≡ f n = ap f is in omega (arith, same)
    go false e later = let less : a < n = grind (arith, nat_tests) in let k = later less in omega (arith, k)

module _ (sys : System) (lanes : List (List Rec)) (hands : List Token) (sound : Sound sys lanes hands) where
  -- a reference that stands was made
  pub standing-made : (p b n : ℕ) → IsTrue (is_block sys p b) → has (refs_in lanes p b).names n ≡ true → is_made (all_items lanes) (entry p b n) ≡ true
  unfolding is_made
  standing-made p b n h stands =
      let below = (names-in sys lanes sound.words p b h).below n stands in
      let long = refs-long sys lanes sound.words p b h in
      let lt : n < length (hist (word.Block p b) (all_items lanes)) = omega (arith, below, long) in
      or_right (p == 0) _ (grind (arith, nat_tests))

  -- so was one in the hands
  pub held-is_made : (p b n : ℕ) → stands (Held p b n) hands ≡ true → is_made (all_items lanes) (entry p b n) ≡ true
  held-is_made p b n stand =
      let h = all-stands (names_block sys) (Held p b n) hands sound.tokens stand in
      standing-made p b n h (held-stands sys lanes hands sound p b h n stand)

  static-made : (e : Entry) → e.pool ≡ 0 → is_made (all_items lanes) e ≡ true
  unfolding is_made
  static-made e fixed = rw fixed refl

  pub owned-made : (e : Entry) → (e.pool ≡ 0) ⊎ IsTrue (stands (token_of e) hands) → is_made (all_items lanes) e ≡ true
  owned-made e (inl fixed) = static-made e fixed
  owned-made e (inr stand) = held-is_made e.pool e.block e.name stand

  -- the front entry of a queue stands, unless it is static
  pub front-stands : (a : ℕ) (e : Entry) (others : List Entry) → IsTrue (is_object sys a) → a < queues → 0 < e.pool → (line_in sys lanes a).entries ≡ e ∷ others
      → IsTrue (is_block sys e.pool e.block) × IsTrue (has (refs_in lanes e.pool e.block).names e.name)
  unfolding queued times
  front-stands a e others h few some front =
      let good : is_good sys e ≡ true = (and_parts _ _ (subst (λ es. list_all (is_good sys) es ≡ true) front (sound.entries a h))).0 in
      let pooled : (e.pool == 0) ≡ false = grind (arith, nat_tests) in
      let block : is_block sys e.pool e.block ≡ true = rw pooled at good in
      let self : one_if (is_token_of (token_of e) e) ≡ 1 = ap one_if (same-self (token_of e)) in
      let front_is : entries_in sys lanes a ≡ e ∷ others = entries-of sys lanes a h ∙ front in
      let here : times (is_token_of (token_of e)) (entries_in sys lanes a) ≡ one_if (is_token_of (token_of e) e) + times (is_token_of (token_of e)) others = ap (times (is_token_of (token_of e))) front_is in
      let part = part-of-sum queues (λ c. times (is_token_of (token_of e)) (entries_in sys lanes c)) a few in
      let owned = (sound.block e.pool e.block block).owned e.name in
      (block, has-times (refs_in lanes e.pool e.block).names e.name (omega (arith, self, here, part, owned)))

  -- and was made
  pub front-made : (a : ℕ) (e : Entry) (others : List Entry) → IsTrue (is_object sys a) → a < queues → (line_in sys lanes a).entries ≡ e ∷ others → is_made (all_items lanes) e ≡ true
  front-made a e others h few front = go (e.pool == 0) refl
    where
      go : (u : Bool) → (e.pool == 0) ≡ u → is_made (all_items lanes) e ≡ true
      go true t = static-made e (grind (arith, nat_tests))
      go false t =
          let some : 0 < e.pool = grind (arith, nat_tests) in
          let at = front-stands a e others h few some front in
          standing-made e.pool e.block e.name at.0 at.1

-- What the record itself states has been reached in the world after it.
module _ (sys : System) (before : List (List Rec)) (lane : List Rec) (behind : List (List Rec)) (r : Rec) (o : ℕ) (b : Body)
    (is : item_of r ≡ record { of = o; body = b }) (hands : List Token) (old : Sound sys (before ++ lane ∷ behind) hands) (few : (a : ℕ) → IsTrue (is_object sys a) → a < queues)
    (may : May sys (before ++ lane ∷ behind) hands o b) (words : Words sys (before ++ (lane ++ r ∷ []) ∷ behind)) where
  abbrev lanes : List (List Rec)
  lanes = before ++ lane ∷ behind

  abbrev new_lanes : List (List Rec)
  new_lanes = before ++ (lane ++ r ∷ []) ∷ behind

  abbrev this : Item
  this = record { of = o; body = b }

  split : all_items lanes ≡ (all_items before ++ lane_items lane) ++ all_items behind
  split = all_items-split before lane behind

  grown : all_items new_lanes ≡ (all_items before ++ lane_items lane) ++ this ∷ all_items behind
  grown = all_items-grown before lane behind r this is

  still-made : (e : Entry) → is_made (all_items lanes) e ≡ true → is_made (all_items new_lanes) e ≡ true
  still-made e h =
      subst (λ z. is_made z e ≡ true) (sym grown)
      (made-stays sys (all_items before ++ lane_items lane) this (all_items behind) (later-of sys before lane behind r o b is old.words hands may) e (subst (λ z. is_made z e ≡ true) split h))

  -- the operations of a word by which it was drawn are one more now
  rises : (w : Word) → drawn_on w (touch this) ≡ true → total w (all_items new_lanes) ≡ suc (total w (all_items lanes))
  rises w on = ap (total w) grown ∙ total-on (all_items before ++ lane_items lane) this (all_items behind) w on ∙ ap (λ z. suc (total w z)) (sym split)

  more : (w : Word) → total w (all_items lanes) ≤ total w (all_items new_lanes)
  more w = let t = total-rises (all_items before ++ lane_items lane) this (all_items behind) w in let a = ap (total w) grown in let c = ap (total w) split in omega (arith, t, a, c)

  -- the operations of a word that it draws are more than it states
  long-pool : (p n : ℕ) → IsTrue (is_pool sys p) → n ≡ (pool_in sys lanes p).count → total (word.Pool p) (all_items new_lanes) ≡ suc (total (word.Pool p) (all_items lanes))
      → n < length (hist (word.Pool p) (all_items new_lanes))
  long-pool p n h is_n up =
      let was = pool-count sys lanes old.words p h in
      let now = length-hist (word.Pool p) (all_items new_lanes) (words.pools p h).numbers in
      omega (arith, is_n, up, was, now)

  long-block : (p c n : ℕ) → IsTrue (is_block sys p c) → n ≡ (refs_in lanes p c).count → total (word.Block p c) (all_items new_lanes) ≡ suc (total (word.Block p c) (all_items lanes))
      → n < length (hist (word.Block p c) (all_items new_lanes))
  long-block p c n h is_n up =
      let was = refs-count sys lanes old.words p c h in
      let now = length-hist (word.Block p c) (all_items new_lanes) (words.blocks p c h).numbers in
      omega (arith, is_n, up, was, now)

  long-signal : (s n : ℕ) → IsTrue (is_signal sys s) → n ≡ (set_in lanes s).count → n ≤ length (hist (word.Signal s) (all_items new_lanes))
  long-signal s n h is_n =
      let was = set-count sys lanes old.words s h in
      let now = length-hist (word.Signal s) (all_items new_lanes) (words.signals s h).numbers in
      let up = more (word.Signal s) in
      omega (arith, is_n, up, was, now)

  taken-made : (f l m : ℕ) (e : Entry) → May sys lanes hands o (Took f l m e) → is_made (all_items new_lanes) e ≡ true
  unfolding May
  taken-made f l m e t = still-made e (front-made sys lanes hands old o e t.2.others t.2.queue.object (few o t.2.queue.object) t.2.front)

  pub settled-now : is_settled (all_items new_lanes) b ≡ true
  unfolding is_settled is_made May
  settled-now = go b may (λ w on. rises w on)
    where
      go : (c : Body) → May sys lanes hands o c → ((w : Word) → drawn_on w (touch_of o c) ≡ true → total w (all_items new_lanes) ≡ suc (total w (all_items lanes)))
          → is_settled (all_items new_lanes) c ≡ true
      go (Took f l m e) t up = taken-made f l m e t
      go (New p n c from sig pars) t up =
          let lt = long-pool p n (block-pool sys p c t.block).0 t.number (up (word.Pool p) (same_number p)) in
          le-leb n (length (hist (word.Pool p) (all_items new_lanes))) (omega (arith, lt))
      go (Dec p c d k) t up = lt-ltb d _ (long-block p c d t.block t.number (up (word.Block p c) (and_from _ _ (same_number p) (same_number c))))
      go (Same sig n) t up = le-leb n _ (long-signal sig n t.signal t.number)
      go _ t up = refl

  pub handled-now : handles_made (all_items new_lanes) b ≡ true
  unfolding is_made May
  handled-now = go b may (λ w on. rises w on)
    where
      go : (c : Body) → May sys lanes hands o c → ((w : Word) → drawn_on w (touch_of o c) ≡ true → total w (all_items new_lanes) ≡ suc (total w (all_items lanes)))
          → handles_made (all_items new_lanes) c ≡ true
      go (Took f l m e) t up = taken-made f l m e t
      go (Inc p c n) t up = or_right (p == 0) _ (lt-ltb n _ (long-block p c n t.block t.number (up (word.Block p c) (and_from _ _ (same_number p) (same_number c)))))
      go (Dec p c d k) t up = still-made (entry p c k) (held-is_made sys lanes hands old p c k t.token)
      go (Post a f l m e) t up = still-made e (owned-made sys lanes hands old e t.2.owned.token)
      go (Lifo f l m e) t up = still-made e (owned-made sys lanes hands old e t.2.owned.token)
      go _ t up = refl
