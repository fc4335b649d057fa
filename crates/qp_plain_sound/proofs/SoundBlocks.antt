-- References are made and dropped: a sound world stays sound.
use Rattle.std.proofs.Common.{◌≡◌, ℕ, suc, ◌+◌, ◌<◌, ◌≤◌, ◌==◌, nat_le, Bool, true, false, ◌&&◌, ◌||◌, List, [], ◌∷◌, ◌++◌, length, refl, sym, ◌∙◌, ap, subst, arith, IsTrue, inl, None}
use Rattle.std.specs.List.{list_all}
use Rattle.std.proofs.lemmas.Bool.{and_from}
use Rattle.std.proofs.lemmas.Bool.Decides.{nat_tests}
use Rattle.qp_chart.specs.StateTree.{has}
use Rattle.qp_model.specs.declared.record.Rec.{Rec}
use Rattle.qp_model.specs.declared.words.Word.TheVariants as word
use Rattle.qp_model.specs.declared.systems.System.{System}
use Rattle.qp_model.specs.declared.bodies.Body.TheVariants.{Inc, Dec}
use Rattle.qp_model.specs.Record.{item_of, entry}
use Rattle.qp_model.specs.Told.{Left}
use Rattle.qp_model.specs.Lists.{without_one}
use Rattle.qp_model.specs.History.{Draws, hist, all_items, lane_items}
use Rattle.qp_model.specs.Machine.{after}
use Rattle.qp_model.specs.Lives.{life_of, edges}
use Rattle.qp_model.specs.Knowing.{event_of_entry, last_given}
use Rattle.qp_model.specs.WordLaw.{Words, is_block}
use Rattle.qp_model.proofs.WordLemmas.{hist-stays}
use Rattle.qp_model.proofs.KnowingLemmas.{IsLater}
use Rattle.qp_model.proofs.LifeLemmas.{edge-within}
use Rattle.qp_model.proofs.ReferenceLemmas.{Alive, held-inc, held-dec, words-inc, words-dec}
use Rattle.qp_calls.specs.Tokens.{Token, Held, Loose, same_token, take_out, stands, with_left}
use Rattle.qp_calls.specs.Counting.{one_if, times, count_of}
use Rattle.qp_calls.proofs.HandLemmas.{same-self}
use Rattle.qp_plain_sound.specs.WordStates.{life_in, refs_in, cell_in, cell_after}
use Rattle.qp_plain_sound.specs.Sound.{Sound, BlockIn, EventIn, facts_in, queued, names_block}
use Rattle.qp_plain_sound.proofs.Times.{times-take_out, times-other, take_out-absent, stands-times, all-take_out}
use Rattle.qp_plain_sound.proofs.Blocks.{ok-same, ok-inc, ok-dec, refs_of, none}
use Rattle.qp_plain_sound.proofs.Events.{has-without, cell-last, edges-within, event-life}
use Rattle.qp_plain_sound.proofs.Staying.{life-stays, cell-stays, refs-stays, queued-stays, entries-stay, subscribed-stay}
use Rattle.qp_plain_sound.proofs.Standing.{block-pool, refs-count, refs-long, held-refs, held-stands, referred-out, referred-alive}
use Rattle.qp_plain_sound.proofs.SoundParts.{flipped, each-block, same-block, later-next, event_of-stays, event-kept}
use Rattle.qp_model.proofs.LineLemmas.{same_number}
use Rattle.qp_model.proofs.NumberLemmas.{eqb-sym}

module _ (sys : System) (before : List (List Rec)) (lane : List Rec) (behind : List (List Rec)) (r : Rec) where
  abbrev old_lanes : List (List Rec)
  old_lanes = before ++ lane ∷ behind

  abbrev new_lanes : List (List Rec)
  new_lanes = before ++ (lane ++ r ∷ []) ∷ behind

  module _ (hands : List Token) (old : Sound sys old_lanes hands) (p b : ℕ) (h : IsTrue (is_block sys p b)) where
    abbrev refs_now : ℕ
    refs_now = (refs_in old_lanes p b).count

    -- A reference is made to a block that is alive and not loose any more.
    module _ (o : ℕ) (is : item_of r ≡ record { of = o; body = Inc p b refs_now })
        (alive : Alive b (hist (word.Pool p) (all_items old_lanes)) (hist (word.Block p b) (all_items old_lanes)))
        (no_fresh : count_of (Loose p b false) (take_out (Loose p b false) hands) ≡ 0) (no_used : count_of (Loose p b true) hands ≡ 0) where
      abbrev made : List Token
      made = Held p b refs_now ∷ take_out (Loose p b false) hands

      made-words : Words sys new_lanes
      unfolding refs_in
      made-words = words-inc sys before lane behind r old.words p b (refs_in old_lanes p b) refl o (λ k. alive) is

      pub made-refs : refs_in new_lanes p b ≡ refs_of (refs_now + 1) (refs_now ∷ (refs_in old_lanes p b).names)
      unfolding refs_in
      made-refs = (held-inc before lane behind r p b (refs_in old_lanes p b) (held-refs sys old_lanes old.words p b h) o is).state

      made-out : (life_in old_lanes p b).out ≡ true
      unfolding life_in
      made-out = alive.out

      made-here : BlockIn sys new_lanes made p b
      unfolding times
      made-here =
          ok-same (life_in old_lanes p b) (life_in new_lanes p b) (refs_of (refs_now + 1) (refs_now ∷ (refs_in old_lanes p b).names)) (refs_in new_lanes p b)
          (λ n. count_of (Held p b n) made) (λ n. queued sys old_lanes (Held p b n)) (λ n. count_of (Held p b n) made) (λ n. queued sys new_lanes (Held p b n))
          0 0 (count_of (Loose p b false) made) (count_of (Loose p b true) made)
          (life-stays sys before lane behind r _ is p b refl) made-refs (λ n. refl) (λ n. queued-stays sys before lane behind r _ is (Held p b n) (λ a. refl)) (omega (arith, no_fresh))
          (let u = times-other (Loose p b false) (Loose p b true) hands differ in omega (arith, u, no_used))
          (ok-inc (life_in old_lanes p b) (refs_in old_lanes p b) _ _ _ _ 0 _ 0 made-out (λ n. counts n) refl refl (old.block p b h))
        where
          differ : same_token (Loose p b true) (Loose p b false) ≡ false
          differ = rw (same_number p, same_number b) refl

          counts : (n : ℕ) → one_if (same_token (Held p b n) (Held p b refs_now)) + count_of (Held p b n) (take_out (Loose p b false) hands) ≡ count_of (Held p b n) hands + one_if (refs_now == n)
          counts n =
              let u = times-other (Loose p b false) (Held p b n) hands refl in
              let same : one_if (same_token (Held p b n) (Held p b refs_now)) ≡ one_if (refs_now == n) = rw (same_number p, same_number b) (ap one_if (eqb-sym n refs_now)) in
              omega (arith, u, same)

      made-there : (q c : ℕ) → IsTrue (is_block sys q c) → ((p == q) && (b == c)) ≡ false → BlockIn sys new_lanes made q c
      unfolding times
      made-there q c k other =
          same-block sys old_lanes new_lanes hands made old q c k (life-stays sys before lane behind r _ is q c refl) (refs-stays sys before lane behind r _ is q c other)
          (λ n. let u = times-other (Loose p b false) (Held q c n) hands refl in let z = held_other n in omega (arith, u, z))
          (λ n. queued-stays sys before lane behind r _ is (Held q c n) (λ a. refl))
          (λ u. let t = times-other (Loose p b false) (Loose q c u) hands (rw (flipped p b q c other) refl) in omega (arith, t))
        where
          held_other : (n : ℕ) → one_if (same_token (Held q c n) (Held p b refs_now)) ≡ 0
          held_other n = rw (flipped p b q c other) refl

      -- The new reference has the event of the block.
      made-event : event_of_entry (facts_in sys new_lanes) (entry p b refs_now) ≡ cell_in new_lanes p b
      unfolding cell_in
      made-event =
          let long = refs-long sys new_lanes made-words p b h in
          let count : (refs_in new_lanes p b).count ≡ refs_now + 1 = ap (λ x. x.count) made-refs in
          let made_now : refs_now < length (hist (word.Block p b) (all_items new_lanes)) = omega (arith, long, count) in
          let was = refs-long sys old_lanes old.words p b h in
          let within = edges-within b (hist (word.Pool p) (all_items old_lanes)) (hist (word.Block p b) (all_items old_lanes)) (old.words.lives p b h) in
          let upto : IsTrue (list_all (λ n. nat_le n refs_now) (edges b (hist (word.Pool p) (all_items old_lanes)))) =
          subst (λ x. IsTrue (list_all (λ n. nat_le n x) (edges b (hist (word.Pool p) (all_items old_lanes))))) (sym was) within in
          event-life (facts_in sys new_lanes) p b refs_now (block-pool sys p b h).2 made_now
          ∙ ap (last_given b refs_now None) pool_same
          ∙ cell-last b refs_now None (hist (word.Pool p) (all_items old_lanes)) upto
          ∙ sym (ap (cell_after b None) pool_same)
        where
          pool_same : hist (word.Pool p) (all_items new_lanes) ≡ hist (word.Pool p) (all_items old_lanes)
          pool_same = hist-stays before lane behind r _ is (word.Pool p) refl

      made-later : IsLater (all_items before ++ lane_items lane) (record { of = o; body = Inc p b refs_now }) (all_items behind)
      made-later =
          later-next sys before lane behind r _ is (word.Block p b) (ap (λ n. Draws (word.Block p b) (suc n)) (refs-count sys old_lanes old.words p b h))
          (old.words.blocks p b h).numbers (λ q c n same. absurd (cc))

      made-events : (q c : ℕ) → IsTrue (is_block sys q c) → EventIn sys new_lanes q c
      made-events = each-block sys (EventIn sys new_lanes) p b here (λ q c k other. event-kept sys before lane behind r _ is made-later hands old q c k
          (life-stays sys before lane behind r _ is q c refl) (cell-stays sys before lane behind r _ is q c refl)
          (λ n has_it. subst (λ x. IsTrue (has x.names n)) (refs-stays sys before lane behind r _ is q c other) has_it))
        where
          here : EventIn sys new_lanes p b
          here = record {
            good = rw (life-stays sys before lane behind r _ is p b refl, cell-stays sys before lane behind r _ is p b refl) (old.event p b h).good;
            same = λ n has_it. each n (refs_now == n) refl (subst (λ x. IsTrue (has x.names n)) made-refs has_it);
          }
            where
              each : (n : ℕ) (u : Bool) → (refs_now == n) ≡ u → (u || has (refs_in old_lanes p b).names n) ≡ true → event_of_entry (facts_in sys new_lanes) (entry p b n) ≡ cell_in new_lanes p b
              each n true e k = let at : refs_now ≡ n = grind (arith, nat_tests) in subst (λ x. event_of_entry (facts_in sys new_lanes) (entry p b x) ≡ cell_in new_lanes p b) at made-event
              each n false e k =
                  event_of-stays sys before lane behind r _ is made-later hands old p b n h k ∙ (old.event p b h).same n k
                  ∙ sym (cell-stays sys before lane behind r _ is p b refl)

      sound-made : Sound sys new_lanes made
      sound-made = record {
        words = made-words;
        block = each-block sys (BlockIn sys new_lanes made) p b made-here made-there;
        event = made-events;
        tokens = and_from _ _ h (all-take_out (names_block sys) (Loose p b false) hands old.tokens);
        entries = entries-stay sys before lane behind r _ is (λ a. refl) old.entries;
        subscribed = subscribed-stay sys before lane behind r _ is (λ s. refl) old.subscribed;
      }

    -- the first reference to a block that is in the hands, unused
    pub sound-first : (o : ℕ) → item_of r ≡ record { of = o; body = Inc p b refs_now } → stands (Loose p b false) hands ≡ true
        → Sound sys new_lanes (Held p b refs_now ∷ take_out (Loose p b false) hands)
    unfolding life_in
    sound-first o is stand =
        let some = stands-times (Loose p b false) hands stand in
        let fresh = (old.block p b h).fresh_is (omega (arith, some)) in
        let gone = times-take_out (Loose p b false) (Loose p b false) hands stand in
        let self : one_if (same_token (Loose p b false) (Loose p b false)) ≡ 1 = rw (same-self (Loose p b false)) refl in
        let lone = (old.block p b h).lone in
        sound-made o is (record { out = out_is fresh.1; going = inl (edge_is (fresh.2 ∙ refs-long sys old_lanes old.words p b h)) })
        (omega (arith, some, gone, self, lone)) (omega (arith, some, lone))
      where
        out_is : (life_in old_lanes p b).out ≡ true → (after (life_of b) (hist (word.Pool p) (all_items old_lanes))).out ≡ true
        out_is e = e

        edge_is : (life_in old_lanes p b).edge ≡ length (hist (word.Block p b) (all_items old_lanes))
            → (after (life_of b) (hist (word.Pool p) (all_items old_lanes))).edge ≡ length (hist (word.Block p b) (all_items old_lanes))
        edge_is e = e

    -- another reference to a block with one in the hands
    pub sound-again : (k o : ℕ) → item_of r ≡ record { of = o; body = Inc p b refs_now } → stands (Held p b k) hands ≡ true
        → Sound sys new_lanes (Held p b refs_now ∷ take_out (Loose p b false) hands)
    sound-again k o is stand =
        let s = held-stands sys old_lanes hands old p b h k stand in
        let no_fresh = none (refs_in old_lanes p b) _ k s (λ some. ((old.block p b h).fresh_is some).0) in
        let no_used = none (refs_in old_lanes p b) _ k s (λ some. ((old.block p b h).used_is some).0) in
        let less = fewer (Loose p b false) hands in
        sound-made o is (referred-alive sys old_lanes hands old p b h k s) (omega (arith, no_fresh, less)) no_used
      where
        fewer : (t : Token) (xs : List Token) → count_of t (take_out t xs) ≤ count_of t xs
        fewer t xs = go (stands t xs) refl
          where
            go : (v : Bool) → stands t xs ≡ v → count_of t (take_out t xs) ≤ count_of t xs
            go true e = let n = times-take_out t t xs e in omega (arith, n)
            go false e = rw (take_out-absent t xs e) (omega arith)

    -- A reference in the hands is dropped.
    module _ (k o : ℕ) (is : item_of r ≡ record { of = o; body = Dec p b refs_now k }) (stand : stands (Held p b k) hands ≡ true) where
      abbrev left : List ℕ
      left = without_one k (refs_in old_lanes p b).names

      abbrev let_go : List Token
      let_go = with_left p b (Left (length left)) (take_out (Held p b k) hands)

      standing : has (refs_in old_lanes p b).names k ≡ true
      standing = held-stands sys old_lanes hands old p b h k stand

      dec-words : Words sys new_lanes
      unfolding refs_in
      dec-words = words-dec sys before lane behind r old.words p b (refs_in old_lanes p b) refl o k (λ x. referred-alive sys old_lanes hands old p b h k standing) is standing

      pub dec-refs : refs_in new_lanes p b ≡ refs_of (refs_now + 1) left
      unfolding refs_in
      dec-refs = (held-dec before lane behind r p b (refs_in old_lanes p b) (held-refs sys old_lanes old.words p b h) o k is standing).state

      dec-edge : (life_in old_lanes p b).edge ≤ refs_now
      unfolding life_in
      dec-edge =
          let e = edge-within b (hist (word.Pool p) (all_items old_lanes)) (hist (word.Block p b) (all_items old_lanes)) (old.words.lives p b h) in
          let c = refs-long sys old_lanes old.words p b h in
          omega (arith, e, c)

      -- the tokens after it, by how many references are left
      dec-held : (xs : List ℕ) (n : ℕ) → count_of (Held p b n) (with_left p b (Left (length xs)) (take_out (Held p b k) hands)) + one_if (k == n) ≡ count_of (Held p b n) hands
      unfolding times
      dec-held xs n = go xs
        where
          same : one_if (same_token (Held p b n) (Held p b k)) ≡ one_if (k == n)
          same = rw (same_number p, same_number b) (ap one_if (eqb-sym n k))

          go : (xs : List ℕ) → count_of (Held p b n) (with_left p b (Left (length xs)) (take_out (Held p b k) hands)) + one_if (k == n) ≡ count_of (Held p b n) hands
          go [] = let t = times-take_out (Held p b k) (Held p b n) hands stand in let e = same in omega (arith, t, e)
          go (x ∷ xs) = let t = times-take_out (Held p b k) (Held p b n) hands stand in let e = same in omega (arith, t, e)

      abbrev more : List ℕ → ℕ
      more [] = 1
      more (x ∷ xs) = 0

      dec-fresh : (xs : List ℕ) → count_of (Loose p b false) (with_left p b (Left (length xs)) (take_out (Held p b k) hands)) ≡ count_of (Loose p b false) hands
      unfolding times
      dec-fresh [] =
          let t = times-other (Held p b k) (Loose p b false) hands refl in
          let z : one_if (same_token (Loose p b false) (Loose p b true)) ≡ 0 = rw (same_number p, same_number b) refl in
          omega (arith, t, z)
      dec-fresh (x ∷ xs) = times-other (Held p b k) (Loose p b false) hands refl

      dec-used : (xs : List ℕ) → count_of (Loose p b true) (with_left p b (Left (length xs)) (take_out (Held p b k) hands)) ≡ count_of (Loose p b true) hands + more xs
      unfolding times
      dec-used [] =
          let t = times-other (Held p b k) (Loose p b true) hands refl in
          let z : one_if (same_token (Loose p b true) (Loose p b true)) ≡ 1 = rw (same_number p, same_number b) refl in
          omega (arith, t, z)
      dec-used (x ∷ xs) = let t = times-other (Held p b k) (Loose p b true) hands refl in omega (arith, t)

      last : (xs : List ℕ) → 0 < more xs → xs ≡ []
      last [] lt = refl
      last (x ∷ xs) lt = absurd (omega (arith, lt))

      whole : (xs : List ℕ) → xs ≡ [] → more xs ≡ 1
      whole [] e = refl
      whole (x ∷ xs) e = absurd (cc)

      few : (xs : List ℕ) → more xs ≤ 1
      few [] = omega arith
      few (x ∷ xs) = omega arith

      dec-here : BlockIn sys new_lanes let_go p b
      dec-here =
          ok-same (life_in old_lanes p b) (life_in new_lanes p b) (refs_of (refs_now + 1) left) (refs_in new_lanes p b)
          (λ n. count_of (Held p b n) let_go) (λ n. queued sys old_lanes (Held p b n)) (λ n. count_of (Held p b n) let_go) (λ n. queued sys new_lanes (Held p b n))
          (count_of (Loose p b false) hands) (count_of (Loose p b true) hands + more left) (count_of (Loose p b false) let_go) (count_of (Loose p b true) let_go)
          (life-stays sys before lane behind r _ is p b refl) dec-refs (λ n. refl) (λ n. queued-stays sys before lane behind r _ is (Held p b n) (λ a. refl)) (dec-fresh left) (dec-used left)
          (ok-dec (life_in old_lanes p b) (refs_in old_lanes p b) (λ n. count_of (Held p b n) hands) (λ n. count_of (Held p b n) let_go) (λ n. queued sys old_lanes (Held p b n)) k _ _
          (referred-out sys old_lanes hands old p b h k standing) standing (λ n. dec-held left n) dec-edge (old.block p b h) left refl (more left) (last left) (whole left) (few left))

      dec-there : (q c : ℕ) → IsTrue (is_block sys q c) → ((p == q) && (b == c)) ≡ false → BlockIn sys new_lanes let_go q c
      unfolding times
      dec-there q c j other =
          same-block sys old_lanes new_lanes hands let_go old q c j (life-stays sys before lane behind r _ is q c refl) (refs-stays sys before lane behind r _ is q c other)
          (λ n. held left n) (λ n. queued-stays sys before lane behind r _ is (Held q c n) (λ a. refl)) (λ u. loose left u)
        where
          flip : ((q == p) && (c == b)) ≡ false
          flip = flipped p b q c other

          held : (xs : List ℕ) (n : ℕ) → count_of (Held q c n) (with_left p b (Left (length xs)) (take_out (Held p b k) hands)) ≡ count_of (Held q c n) hands
          held [] n = let t = times-other (Held p b k) (Held q c n) hands (rw flip refl) in omega (arith, t)
          held (x ∷ xs) n = times-other (Held p b k) (Held q c n) hands (rw flip refl)

          loose : (xs : List ℕ) (u : Bool) → count_of (Loose q c u) (with_left p b (Left (length xs)) (take_out (Held p b k) hands)) ≡ count_of (Loose q c u) hands
          loose [] u =
              let t = times-other (Held p b k) (Loose q c u) hands refl in
              let z : one_if (same_token (Loose q c u) (Loose p b true)) ≡ 0 = rw flip refl in
              omega (arith, t, z)
          loose (x ∷ xs) u = times-other (Held p b k) (Loose q c u) hands refl

      dec-later : IsLater (all_items before ++ lane_items lane) (record { of = o; body = Dec p b refs_now k }) (all_items behind)
      dec-later =
          later-next sys before lane behind r _ is (word.Block p b) (ap (λ n. Draws (word.Block p b) (suc n)) (refs-count sys old_lanes old.words p b h))
          (old.words.blocks p b h).numbers (λ q c n same. absurd (cc))

      dec-events : (q c : ℕ) → IsTrue (is_block sys q c) → EventIn sys new_lanes q c
      dec-events = each-block sys (EventIn sys new_lanes) p b
          (kept p b h (λ n has_it. has-without (refs_in old_lanes p b).names k n (subst (λ x. IsTrue (has x.names n)) dec-refs has_it)))
          (λ q c j other. kept q c j (λ n has_it. subst (λ x. IsTrue (has x.names n)) (refs-stays sys before lane behind r _ is q c other) has_it))
        where
          kept : (q c : ℕ) → IsTrue (is_block sys q c) → ((n : ℕ) → IsTrue (has (refs_in new_lanes q c).names n) → IsTrue (has (refs_in old_lanes q c).names n)) → EventIn sys new_lanes q c
          kept q c j fewer = event-kept sys before lane behind r _ is dec-later hands old q c j (life-stays sys before lane behind r _ is q c refl) (cell-stays sys before lane behind r _ is q c refl) fewer

      pub sound-dec : Sound sys new_lanes let_go
      sound-dec = record {
        words = dec-words;
        block = each-block sys (BlockIn sys new_lanes let_go) p b dec-here dec-there;
        event = dec-events;
        tokens = named left;
        entries = entries-stay sys before lane behind r _ is (λ a. refl) old.entries;
        subscribed = subscribed-stay sys before lane behind r _ is (λ s. refl) old.subscribed;
      }
        where
          named : (xs : List ℕ) → list_all (names_block sys) (with_left p b (Left (length xs)) (take_out (Held p b k) hands)) ≡ true
          named [] = and_from _ _ h (all-take_out (names_block sys) (Held p b k) hands old.tokens)
          named (x ∷ xs) = all-take_out (names_block sys) (Held p b k) hands old.tokens
