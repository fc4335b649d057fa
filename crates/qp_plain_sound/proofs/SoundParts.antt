-- Blocks and events that a record leaves as they were, when it comes at the end of a lane that stands among others.
use Rattle.std.proofs.Common.{◌≡◌, ℕ, suc, ◌<◌, ◌==◌, Bool, true, false, ◌&&◌, List, [], ◌∷◌, ◌++◌, length, refl, sym, ◌∙◌, ap, subst, arith, IsTrue, inr, Option}
use Rattle.std.proofs.lemmas.Bool.Decides.{nat_tests}
use Rattle.qp_chart.specs.StateTree.{has}
use Rattle.qp_model.specs.declared.record.Rec.{Rec}
use Rattle.qp_model.specs.declared.words.Word.{Word}
use Rattle.qp_model.specs.declared.words.Word.TheVariants as word
use Rattle.qp_model.specs.declared.systems.System.{System}
use Rattle.qp_model.specs.Record.{Item, item_of, entry}
use Rattle.qp_model.specs.Told.{Event}
use Rattle.qp_model.specs.History.{Draws, touch, hist, total, is_numbered, all_items, lane_items}
use Rattle.qp_model.specs.Knowing.{event_of_entry, given_by}
use Rattle.qp_model.specs.WordLaw.{is_block}
use Rattle.qp_model.proofs.WordLemmas.{all_items-split, all_items-grown}
use Rattle.qp_model.proofs.KnowingLemmas.{IsLater, later-draws}
use Rattle.qp_model.proofs.NumberLemmas.{eqb-sym}
use Rattle.qp_calls.specs.Tokens.{Token, Held, Loose}
use Rattle.qp_calls.specs.Counting.{count_of}
use Rattle.qp_plain_sound.specs.WordStates.{life_in, refs_in, cell_in}
use Rattle.qp_plain_sound.specs.Sound.{Sound, BlockIn, EventIn, facts_in, queued}
use Rattle.qp_plain_sound.proofs.Blocks.{ok-same}
use Rattle.qp_plain_sound.proofs.Events.{event-stays}
use Rattle.qp_plain_sound.proofs.Standing.{names-in, refs-long}

pub flipped : (p b q c : ℕ) → ((p == q) && (b == c)) ≡ false → ((q == p) && (c == b)) ≡ false
flipped p b q c other = rw (eqb-sym q p, eqb-sym c b) other

-- what holds of one block, and of all others, holds of each
pub each-block : (sys : System) (P : ℕ → ℕ → Type 0) (p b : ℕ) → P p b → ((q c : ℕ) → IsTrue (is_block sys q c) → ((p == q) && (b == c)) ≡ false → P q c)
    → (q c : ℕ) → IsTrue (is_block sys q c) → P q c
each-block sys P p b here others q c k = go (p == q) (b == c) refl refl
  where
    go : (u v : Bool) → (p == q) ≡ u → (b == c) ≡ v → P q c
    go true true e f =
        let p_is : p ≡ q = grind (arith, nat_tests) in
        let b_is : b ≡ c = grind (arith, nat_tests) in
        subst (λ x. P q x) b_is (subst (λ x. P x b) p_is here)
    go true false e f = others q c k (rw (e, f) refl)
    go false v e f = others q c k (rw e refl)

-- a block that the record and the hands leave as it was
pub same-block : (sys : System) (lanes more : List (List Rec)) (hands have : List Token) → Sound sys lanes hands → (q c : ℕ) → IsTrue (is_block sys q c)
    → life_in more q c ≡ life_in lanes q c → refs_in more q c ≡ refs_in lanes q c
    → ((n : ℕ) → count_of (Held q c n) have ≡ count_of (Held q c n) hands) → ((n : ℕ) → queued sys more (Held q c n) ≡ queued sys lanes (Held q c n))
    → ((u : Bool) → count_of (Loose q c u) have ≡ count_of (Loose q c u) hands) → BlockIn sys more have q c
same-block sys lanes more hands have old q c k life refs held queue loose =
    ok-same (life_in lanes q c) (life_in more q c) (refs_in lanes q c) (refs_in more q c)
    (λ n. count_of (Held q c n) hands) (λ n. queued sys lanes (Held q c n)) (λ n. count_of (Held q c n) have) (λ n. queued sys more (Held q c n))
    (count_of (Loose q c false) hands) (count_of (Loose q c true) hands) (count_of (Loose q c false) have) (count_of (Loose q c true) have)
    life refs held queue (loose false) (loose true) (old.block q c k)

module _ (sys : System) (before : List (List Rec)) (lane : List Rec) (behind : List (List Rec)) (r : Rec) (i : Item) (is : item_of r ≡ i) where
  abbrev pub old_lanes : List (List Rec)
  old_lanes = before ++ lane ∷ behind

  abbrev pub new_lanes : List (List Rec)
  new_lanes = before ++ (lane ++ r ∷ []) ∷ behind

  abbrev pub front : List Item
  front = all_items before ++ lane_items lane

  abbrev pub back : List Item
  back = all_items behind

  abbrev pub Later : Type 0
  Later = IsLater front i back

  -- a record that draws the next number of a word, and is no edge of a life but at the end of its block's history
  pub later-next : (w : Word) → touch i ≡ Draws w (suc (total w (all_items old_lanes))) → IsTrue (is_numbered w (all_items old_lanes))
      → ((p b n : ℕ) → w ≡ word.Pool p → n < length (hist (word.Block p b) (all_items old_lanes)) → (e : Option Event) → given_by b n e i.body ≡ e) → Later
  later-next w draws numbers given =
      let split : all_items old_lanes ≡ front ++ back = all_items-split before lane behind in
      later-draws front i back w
      (subst (λ z. touch i ≡ Draws w (suc (total w z))) split draws)
      (subst (λ z. IsTrue (is_numbered w z)) split numbers)
      (subst (λ z. (p b n : ℕ) → w ≡ word.Pool p → n < length (hist (word.Block p b) z) → (e : Option Event) → given_by b n e i.body ≡ e) split given)

  module _ (later : Later) (hands : List Token) (old : Sound sys old_lanes hands) where
    -- the event of a reference that stands stays
    pub event_of-stays : (q c n : ℕ) → IsTrue (is_block sys q c) → IsTrue (has (refs_in old_lanes q c).names n)
        → event_of_entry (facts_in sys new_lanes) (entry q c n) ≡ event_of_entry (facts_in sys old_lanes) (entry q c n)
    event_of-stays q c n k stands =
        let below = (names-in sys old_lanes old.words q c k).below n stands in
        let long = refs-long sys old_lanes old.words q c k in
        let made : n < length (hist (word.Block q c) (all_items old_lanes)) = omega (arith, below, long) in
        let split : all_items old_lanes ≡ front ++ back = all_items-split before lane behind in
        let grown : all_items new_lanes ≡ front ++ i ∷ back = all_items-grown before lane behind r i is in
        ap (λ z. event_of_entry (record { sys = sys; items = z }) (entry q c n)) grown
        ∙ event-stays sys front i back later (entry q c n) (inr (subst (λ z. n < length (hist (word.Block q c) z)) split made))
        ∙ sym (ap (λ z. event_of_entry (record { sys = sys; items = z }) (entry q c n)) split)

    -- so the events of a block that gets no reference stay
    pub event-kept : (q c : ℕ) → IsTrue (is_block sys q c) → life_in new_lanes q c ≡ life_in old_lanes q c → cell_in new_lanes q c ≡ cell_in old_lanes q c
        → ((n : ℕ) → IsTrue (has (refs_in new_lanes q c).names n) → IsTrue (has (refs_in old_lanes q c).names n)) → EventIn sys new_lanes q c
    event-kept q c k life cell fewer = record {
      good = rw (life, cell) (old.event q c k).good;
      same = λ n stands. event_of-stays q c n k (fewer n stands) ∙ (old.event q c k).same n (fewer n stands) ∙ sym cell;
    }
