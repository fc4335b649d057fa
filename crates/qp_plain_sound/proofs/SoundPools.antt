-- Blocks are given out and come back: a sound world stays sound.
use Rattle.std.proofs.Common.{◌≡◌, ℕ, suc, ◌<◌, ◌==◌, Bool, true, false, ◌&&◌, cond, List, [], ◌∷◌, ◌++◌, length, refl, sym, ◌∙◌, ap, subst, arith, IsTrue, take_all, Option, Some, None}
use Rattle.std.proofs.lemmas.Bool.{and_from, not-true}
use Rattle.std.proofs.lemmas.Bool.Decides.{nat_tests}
use Rattle.qp_chart.specs.StateTree.{has}
use Rattle.qp_model.specs.declared.record.Rec.{Rec}
use Rattle.qp_model.specs.declared.words.Word.TheVariants as word
use Rattle.qp_model.specs.declared.systems.System.{System}
use Rattle.qp_model.specs.declared.bodies.Body.TheVariants.{New, Back}
use Rattle.qp_model.specs.Record.{Item, item_of}
use Rattle.qp_model.specs.Told.{Event}
use Rattle.qp_model.specs.Lists.{is_first}
use Rattle.qp_model.specs.History.{Draws, touch, drawn_on, hist, all_items, lane_items}
use Rattle.qp_model.specs.Machine.{after}
use Rattle.qp_model.specs.References.{references}
use Rattle.qp_model.specs.FreeBlocks.{free_blocks}
use Rattle.qp_model.specs.Lives.{Life, life_of, life_next, refs_at, is_empty}
use Rattle.qp_model.specs.Sites.{blocks_of}
use Rattle.qp_model.specs.WordLaw.{Words, is_block, is_pool}
use Rattle.qp_model.proofs.MachineLemmas.{after-append}
use Rattle.qp_model.proofs.WordLemmas.{hist-held-draws}
use Rattle.qp_model.proofs.WordLawLemmas.{free_blocks-counts}
use Rattle.qp_model.proofs.KnowingLemmas.{IsLater, new-fresh, back-fresh}
use Rattle.qp_model.proofs.ReferenceLemmas.{words-new, words-back}
use Rattle.qp_calls.specs.Tokens.{Token, Held, Loose, same_token, take_out, stands}
use Rattle.qp_calls.specs.Counting.{one_if, times, count_of}
use Rattle.qp_plain_sound.specs.WordStates.{pool_in, life_in, refs_in, cell_in, cell_after, cell_next}
use Rattle.qp_plain_sound.specs.Sound.{Sound, BlockIn, EventIn, queued, names_block, is_event}
use Rattle.qp_plain_sound.proofs.Times.{times-take_out, times-other, stands-times, all-take_out}
use Rattle.qp_plain_sound.proofs.Blocks.{ok-same, ok-new, ok-back}
use Rattle.qp_plain_sound.proofs.Events.{cell-append}
use Rattle.qp_plain_sound.proofs.Staying.{life-stays, cell-stays, refs-stays, queued-stays, entries-stay, subscribed-stay}
use Rattle.qp_plain_sound.proofs.Standing.{block-pool, pool-count, refs-long, free-life, out-not_free}
use Rattle.qp_plain_sound.proofs.SoundParts.{flipped, each-block, same-block, later-next, event-kept}
use Rattle.qp_model.proofs.LineLemmas.{same_number}

module _ (sys : System) (before : List (List Rec)) (lane : List Rec) (behind : List (List Rec)) (r : Rec) where
  abbrev old_lanes : List (List Rec)
  old_lanes = before ++ lane ∷ behind

  abbrev new_lanes : List (List Rec)
  new_lanes = before ++ (lane ++ r ∷ []) ∷ behind

  module _ (hands : List Token) (old : Sound sys old_lanes hands) (p b : ℕ) (h : IsTrue (is_block sys p b)) where
    in_pool : IsTrue (is_pool sys p)
    in_pool = (block-pool sys p b h).0

    -- A record that draws the next number of the pool: what it does to the lives and cells of its blocks.
    module _ (i : Item) (is : item_of r ≡ i) (draws : touch i ≡ Draws (word.Pool p) (suc (pool_in sys old_lanes p).count)) where
      pool-grows : hist (word.Pool p) (all_items new_lanes) ≡ hist (word.Pool p) (all_items old_lanes) ++ i ∷ []
      unfolding pool_in
      pool-grows =
          hist-held-draws before lane behind r i is (free_blocks (blocks_of sys p)) (word.Pool p) (pool_in sys old_lanes p) (free_blocks-counts (blocks_of sys p))
          (record { keeps = old.words.pools p in_pool; state = refl })
          (rw (draws, same_number p, same_number (suc (pool_in sys old_lanes p).count)) refl)

      life-next : (c : ℕ) → life_in new_lanes p c ≡ life_next c (life_in old_lanes p c) i.body
      unfolding life_in
      life-next c = ap (after (life_of c)) pool-grows ∙ after-append (life_of c) (hist (word.Pool p) (all_items old_lanes)) i

      cell-more : (c : ℕ) → cell_in new_lanes p c ≡ cell_next c (cell_in old_lanes p c) i.body
      unfolding cell_in
      cell-more c = ap (cell_after c None) pool-grows ∙ cell-append c None (hist (word.Pool p) (all_items old_lanes)) i

      -- a block on which the record isn't
      module _ (leaves : (c : ℕ) → (b == c) ≡ false → ((l : Life) → life_next c l i.body ≡ l) × ((e : Option Event) → cell_next c e i.body ≡ e))
          (elsewhere : (q : ℕ) → (p == q) ≡ false → drawn_on (word.Pool q) (touch i) ≡ false) where
        other-life : (q c : ℕ) → ((p == q) && (b == c)) ≡ false → (life_in new_lanes q c ≡ life_in old_lanes q c) × (cell_in new_lanes q c ≡ cell_in old_lanes q c)
        other-life q c other = go (p == q) (b == c) refl refl other
          where
            go : (u v : Bool) → (p == q) ≡ u → (b == c) ≡ v → (u && v) ≡ false → (life_in new_lanes q c ≡ life_in old_lanes q c) × (cell_in new_lanes q c ≡ cell_in old_lanes q c)
            go true true e f k = absurd (cc)
            go true false e f k =
                let p_is : p ≡ q = grind (arith, nat_tests) in
                subst (λ x. (life_in new_lanes x c ≡ life_in old_lanes x c) × (cell_in new_lanes x c ≡ cell_in old_lanes x c)) p_is
                (life-next c ∙ (leaves c f).0 (life_in old_lanes p c), cell-more c ∙ (leaves c f).1 (cell_in old_lanes p c))
            go false v e f k = (life-stays sys before lane behind r i is q c (elsewhere q e), cell-stays sys before lane behind r i is q c (elsewhere q e))

    -- A block is given out.
    module _ (o from : ℕ) (ev : Event) (is : item_of r ≡ record { of = o; body = New p (pool_in sys old_lanes p).count b from ev.sig ev.pars })
        (first : is_first b (pool_in sys old_lanes p).free ≡ true) (from_is : from ≡ (refs_in old_lanes p b).count) (good : IsTrue (is_event sys ev)) where
      abbrev given_out : List Token
      given_out = Loose p b false ∷ hands

      in_list : (xs : List ℕ) → is_first b xs ≡ true → has xs b ≡ true
      in_list [] e = cc
      in_list (x ∷ xs) e = rw e refl

      free_out : (life_in old_lanes p b).out ≡ false
      free_out = not-true _ (sym (free-life sys old_lanes old.words p b h) ∙ in_list _ first)

      new-words : Words sys new_lanes
      unfolding pool_in
      new-words =
          words-new sys before lane behind r old.words p (pool_in sys old_lanes p) refl b o from ev.sig ev.pars is first (from_is ∙ refs-long sys old_lanes old.words p b h)

      new-leaves : (c : ℕ) → (b == c) ≡ false → ((l : Life) → cond (b == c) (record { out = true; edge = from }) l ≡ l) × ((e : Option Event) → cond (b == c) (Some (record { sig = ev.sig; pars = ev.pars })) e ≡ e)
      new-leaves c e = rw e (λ l. refl, λ x. refl)

      new-other : (q c : ℕ) → ((p == q) && (b == c)) ≡ false → (life_in new_lanes q c ≡ life_in old_lanes q c) × (cell_in new_lanes q c ≡ cell_in old_lanes q c)
      new-other = other-life _ is refl new-leaves (λ q e. e)

      new-here : BlockIn sys new_lanes given_out p b
      unfolding times
      new-here =
          ok-same (record { out = true; edge = from }) (life_in new_lanes p b) (refs_in old_lanes p b) (refs_in new_lanes p b)
          (λ n. count_of (Held p b n) hands) (λ n. queued sys old_lanes (Held p b n)) (λ n. count_of (Held p b n) given_out) (λ n. queued sys new_lanes (Held p b n))
          (suc (count_of (Loose p b false) hands)) (count_of (Loose p b true) hands) (count_of (Loose p b false) given_out) (count_of (Loose p b true) given_out)
          (life-next _ is refl b ∙ rw (same_number b) refl) (refs-stays sys before lane behind r _ is p b refl) (λ n. omega arith)
          (λ n. queued-stays sys before lane behind r _ is (Held p b n) (λ a. refl))
          (let z : one_if (same_token (Loose p b false) (Loose p b false)) ≡ 1 = rw (same_number p, same_number b) refl in omega (arith, z))
          (let z : one_if (same_token (Loose p b true) (Loose p b false)) ≡ 0 = rw (same_number p, same_number b) refl in omega (arith, z))
          (ok-new (life_in old_lanes p b) (refs_in old_lanes p b) _ _ _ _ from free_out from_is (old.block p b h))

      new-there : (q c : ℕ) → IsTrue (is_block sys q c) → ((p == q) && (b == c)) ≡ false → BlockIn sys new_lanes given_out q c
      unfolding times
      new-there q c k other =
          same-block sys old_lanes new_lanes hands given_out old q c k (new-other q c other).0 (refs-stays sys before lane behind r _ is q c refl) (λ n. omega arith)
          (λ n. queued-stays sys before lane behind r _ is (Held q c n) (λ a. refl)) (λ u. let z = loose u in omega (arith, z))
        where
          loose : (u : Bool) → one_if (same_token (Loose q c u) (Loose p b false)) ≡ 0
          loose u = rw (flipped p b q c other) refl

      new-later : IsLater (all_items before ++ lane_items lane) (record { of = o; body = New p (pool_in sys old_lanes p).count b from ev.sig ev.pars }) (all_items behind)
      new-later =
          later-next sys before lane behind r _ is (word.Pool p) (ap (λ n. Draws (word.Pool p) (suc n)) (pool-count sys old_lanes old.words p in_pool))
          (old.words.pools p in_pool).numbers
          (λ q c n same lt e. new-fresh (λ x y. hist (word.Block x y) (all_items old_lanes)) p (pool_in sys old_lanes p).count b from ev.sig ev.pars (from_is ∙ refs-long sys old_lanes old.words p b h) q c n same lt e)

      new-events : (q c : ℕ) → IsTrue (is_block sys q c) → EventIn sys new_lanes q c
      new-events = each-block sys (EventIn sys new_lanes) p b here (λ q c k other. event-kept sys before lane behind r _ is new-later hands old q c k
          (new-other q c other).0 (new-other q c other).1 (λ n has_it. subst (λ x. IsTrue (has x.names n)) (refs-stays sys before lane behind r _ is q c refl) has_it))
        where
          cell_now : cell_in new_lanes p b ≡ Some ev
          cell_now = cell-more _ is refl b ∙ rw (same_number b) refl

          none : (refs_in new_lanes p b).names ≡ []
          none = ap (λ x. x.names) (refs-stays sys before lane behind r _ is p b refl) ∙ (old.block p b h).idle free_out

          here : EventIn sys new_lanes p b
          here = record {
            good = λ out. rw cell_now good;
            same = λ n has_it. let wrong = rw none at has_it in absurd (cc);
          }

      pub sound-new : Sound sys new_lanes given_out
      sound-new = record {
        words = new-words;
        block = each-block sys (BlockIn sys new_lanes given_out) p b new-here new-there;
        event = new-events;
        tokens = and_from _ _ h old.tokens;
        entries = entries-stay sys before lane behind r _ is (λ a. refl) old.entries;
        subscribed = subscribed-stay sys before lane behind r _ is (λ s. refl) old.subscribed;
      }

    -- A block comes back.
    module _ (o to : ℕ) (is : item_of r ≡ record { of = o; body = Back p (pool_in sys old_lanes p).count b to })
        (to_is : to ≡ (refs_in old_lanes p b).count) (stand : stands (Loose p b true) hands ≡ true) where
      abbrev gone : List Token
      gone = take_out (Loose p b true) hands

      some : 0 < count_of (Loose p b true) hands
      some = stands-times (Loose p b true) hands stand

      used : ((refs_in old_lanes p b).names ≡ []) × ((life_in old_lanes p b).out ≡ true) × ((life_in old_lanes p b).edge < (refs_in old_lanes p b).count)
      used = (old.block p b h).used_is some

      empty_block : is_empty (refs_at (length (hist (word.Block p b) (all_items old_lanes))) (hist (word.Block p b) (all_items old_lanes))) ≡ true
      unfolding refs_at refs_in
      empty_block =
          let whole = take_all (length (hist (word.Block p b) (all_items old_lanes))) (hist (word.Block p b) (all_items old_lanes)) (omega arith) in
          rw (ap (λ x. (after references x).names) whole ∙ used.0) refl

      edge_before : (after (life_of b) (hist (word.Pool p) (all_items old_lanes))).edge < length (hist (word.Block p b) (all_items old_lanes))
      unfolding life_in
      edge_before = let e = used.2 in let c = refs-long sys old_lanes old.words p b h in omega (arith, e, c)

      back-words : Words sys new_lanes
      unfolding pool_in
      back-words =
          words-back sys before lane behind r old.words p (pool_in sys old_lanes p) refl b o to is (block-pool sys p b h).1 (out-not_free sys old_lanes hands old p b h used.1)
          (to_is ∙ refs-long sys old_lanes old.words p b h) edge_before empty_block

      back-leaves : (c : ℕ) → (b == c) ≡ false → ((l : Life) → cond (b == c) (record { out = false; edge = to }) l ≡ l) × ((e : Option Event) → cond (b == c) None e ≡ e)
      back-leaves c e = rw e (λ l. refl, λ x. refl)

      back-other : (q c : ℕ) → ((p == q) && (b == c)) ≡ false → (life_in new_lanes q c ≡ life_in old_lanes q c) × (cell_in new_lanes q c ≡ cell_in old_lanes q c)
      back-other = other-life _ is refl back-leaves (λ q e. e)

      back-here : BlockIn sys new_lanes gone p b
      back-here =
          ok-same (record { out = false; edge = to }) (life_in new_lanes p b) (refs_in old_lanes p b) (refs_in new_lanes p b)
          (λ n. count_of (Held p b n) hands) (λ n. queued sys old_lanes (Held p b n)) (λ n. count_of (Held p b n) gone) (λ n. queued sys new_lanes (Held p b n))
          (count_of (Loose p b false) hands) (count_of (Loose p b true) gone) (count_of (Loose p b false) gone) (count_of (Loose p b true) gone)
          (life-next _ is refl b ∙ rw (same_number b) refl) (refs-stays sys before lane behind r _ is p b refl)
          (λ n. times-other (Loose p b true) (Held p b n) hands refl) (λ n. queued-stays sys before lane behind r _ is (Held p b n) (λ a. refl))
          (times-other (Loose p b true) (Loose p b false) hands (rw (same_number p, same_number b) refl)) refl
          (ok-back (life_in old_lanes p b) (refs_in old_lanes p b) _ _ _ (count_of (Loose p b true) hands) (count_of (Loose p b true) gone) to some
          (let t = times-take_out (Loose p b true) (Loose p b true) hands stand in
          let z : one_if (same_token (Loose p b true) (Loose p b true)) ≡ 1 = rw (same_number p, same_number b) refl in omega (arith, t, z)) (old.block p b h))

      back-there : (q c : ℕ) → IsTrue (is_block sys q c) → ((p == q) && (b == c)) ≡ false → BlockIn sys new_lanes gone q c
      back-there q c k other =
          same-block sys old_lanes new_lanes hands gone old q c k (back-other q c other).0 (refs-stays sys before lane behind r _ is q c refl)
          (λ n. times-other (Loose p b true) (Held q c n) hands refl) (λ n. queued-stays sys before lane behind r _ is (Held q c n) (λ a. refl))
          (λ u. times-other (Loose p b true) (Loose q c u) hands (rw (flipped p b q c other) refl))

      back-later : IsLater (all_items before ++ lane_items lane) (record { of = o; body = Back p (pool_in sys old_lanes p).count b to }) (all_items behind)
      back-later =
          later-next sys before lane behind r _ is (word.Pool p) (ap (λ n. Draws (word.Pool p) (suc n)) (pool-count sys old_lanes old.words p in_pool))
          (old.words.pools p in_pool).numbers
          (λ q c n same lt e. back-fresh (λ x y. hist (word.Block x y) (all_items old_lanes)) p (pool_in sys old_lanes p).count b to (to_is ∙ refs-long sys old_lanes old.words p b h) q c n same lt e)

      back-events : (q c : ℕ) → IsTrue (is_block sys q c) → EventIn sys new_lanes q c
      back-events = each-block sys (EventIn sys new_lanes) p b here (λ q c k other. event-kept sys before lane behind r _ is back-later hands old q c k
          (back-other q c other).0 (back-other q c other).1 (λ n has_it. subst (λ x. IsTrue (has x.names n)) (refs-stays sys before lane behind r _ is q c refl) has_it))
        where
          out_now : (life_in new_lanes p b).out ≡ false
          out_now = ap (λ x. x.out) (life-next _ is refl b) ∙ rw (same_number b) refl

          none : (refs_in new_lanes p b).names ≡ []
          none = ap (λ x. x.names) (refs-stays sys before lane behind r _ is p b refl) ∙ used.0

          here : EventIn sys new_lanes p b
          here = record {
            good = λ out. let wrong : true ≡ false = sym out ∙ out_now in absurd (cc);
            same = λ n has_it. let wrong = rw none at has_it in absurd (cc);
          }

      pub sound-back : Sound sys new_lanes gone
      sound-back = record {
        words = back-words;
        block = each-block sys (BlockIn sys new_lanes gone) p b back-here back-there;
        event = back-events;
        tokens = all-take_out (names_block sys) (Loose p b true) hands old.tokens;
        entries = entries-stay sys before lane behind r _ is (λ a. refl) old.entries;
        subscribed = subscribed-stay sys before lane behind r _ is (λ s. refl) old.subscribed;
      }
