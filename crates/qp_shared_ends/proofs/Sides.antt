-- The records of the side table at the end.
use Rattle.std.proofs.Common.{◌≡◌, ℕ, true, false, List, [], ◌∷◌, ◌++◌, replicate, refl, sym, ◌∙◌, ap, subst, arith, IsTrue, IsPermutation, None}
use Rattle.std.specs.List.{list_all}
use Rattle.std.proofs.lemmas.Bool.{and_from, and_parts}
use Rattle.std.proofs.lemmas.List.Folds.{list_all-append}
use Rattle.std.proofs.lemmas.List.Sorted.{IsPermutation-sym}
use Rattle.qp_model.specs.declared.record.Rec.{Rec}
use Rattle.qp_model.specs.declared.systems.System.{System}
use Rattle.qp_model.specs.declared.words.Word.{Word}
use Rattle.qp_model.specs.declared.words.Word.TheVariants as word
use Rattle.qp_model.specs.Lists.{never_falls}
use Rattle.qp_model.specs.History.{Touch, Draws, Shows, Neither, touch, mark_of, marks, marks_rise, hist, is_numbered, lane_items, all_items}
use Rattle.qp_model.specs.Machine.{Machine, after, is_allowed, is_shown}
use Rattle.qp_model.specs.Subscribers.{Subscribers, subscribers}
use Rattle.qp_model.specs.TimeEvents.{time_event}
use Rattle.qp_model.specs.WordLaw.{Keeps, is_object, is_signal}
use Rattle.qp_model_order.proofs.Orders.{keeps-ordered, hist-ordered}
use Rattle.qp_plain_sound.specs.WordStates.{set_in}
use Rattle.qp_table.specs.Counting.{Each}
use Rattle.qp_table.specs.TwoTables.{on_side, Thins, SideWords}
use Rattle.qp_table.proofs.Thin.{hist-thins}
use Rattle.qp_side.specs.Laws.{IsSideWhole}
use Rattle.qp_side.specs.declared.view.SideView.{SideView}
use Rattle.qp_shared_ends.specs.Lanes.{lanes_recs}
use Rattle.qp_shared_ends.proofs.Ordering.{lanes-ordered, empties}

-- the words of the side table
signal-covered : (c : ℕ) (u : Touch) → on_side u ≡ false → mark_of (word.Signal c) u ≡ None
signal-covered c (Draws (word.Signal s) n) e = absurd (cc)
signal-covered c (Draws (word.Timer s) n) e = refl
signal-covered c (Shows (word.Signal s) n) e = absurd (cc)
signal-covered c (Shows (word.Timer s) n) e = refl
signal-covered c Neither e = refl
signal-covered c (Draws (word.Pool q) n) e = refl
signal-covered c (Draws (word.Block q b) n) e = refl
signal-covered c (Draws (word.Queue a) n) e = refl
signal-covered c (Shows (word.Pool q) n) e = refl
signal-covered c (Shows (word.Block q b) n) e = refl
signal-covered c (Shows (word.Queue a) n) e = refl

-- lanes without records are no matter of a word's law
keeps-bare : {S : Type 0} (m : Machine S) (w : Word) (xs : List (List Rec)) (k : ℕ) → Keeps S m w (xs ++ replicate k []) → Keeps S m w xs
unfolding marks_rise
keeps-bare m w xs k law = let e = empties xs k in record {
  numbers = subst (λ z. is_numbered w z ≡ true) e law.numbers;
  allowed = subst (λ z. is_allowed m (hist w z) ≡ true) e law.allowed;
  shown = subst (λ z. is_shown m w z ≡ true) e law.shown;
  marks = (and_parts (marks_rise w xs) (marks_rise w (replicate k [])) (sym (list_all-append (λ (l : List Rec). never_falls (marks w (lane_items l))) xs (replicate k [])) ∙ law.marks)).0;
}

module _ (sys : System) (s : SideView) (side : IsSideWhole sys s) where
  order : (k : ℕ) × IsPermutation (lanes_recs s.view.logs ++ replicate k []) side.lanes
  order = let count = side.count in lanes-ordered side.lanes s.view.logs s.view.lane_numbers side.own (λ n l. side.once n (omega arith)) (λ n l mine. side.rest n (omega arith) mine)

  turned : IsPermutation side.lanes (lanes_recs s.view.logs ++ replicate order.0 [])
  turned = IsPermutation-sym (lanes_recs s.view.logs ++ replicate order.0 []) side.lanes order.1

  kept : {S : Type 0} (m : Machine S) (w : Word) → Keeps S m w side.lanes → Keeps S m w (lanes_recs s.view.logs)
  kept m w law = keeps-bare m w (lanes_recs s.view.logs) order.0 (keeps-ordered side.lanes (lanes_recs s.view.logs ++ replicate order.0 []) turned w m law)

  pub side-words : SideWords sys (lanes_recs s.view.logs)
  side-words = record {
    signals = λ n h. kept subscribers (word.Signal n) (side.leaves.law.signals n h);
    timers = λ n h. kept time_event (word.Timer n) (side.leaves.law.timers n h);
  }

  module _ (js : List (List Rec)) (thin : Thins (λ i. on_side (touch i)) js (lanes_recs s.view.logs)) where
    pub signal-hist : (n : ℕ) → IsTrue (is_signal sys n) → hist (word.Signal n) (all_items js) ≡ hist (word.Signal n) (all_items side.lanes)
    signal-hist n h =
        sym (hist-thins (word.Signal n) (λ i. on_side (touch i)) (λ i e. signal-covered n (touch i) e) js (lanes_recs s.view.logs) thin)
        ∙ (ap (hist (word.Signal n)) (sym (empties (lanes_recs s.view.logs) order.0))
        ∙ hist-ordered side.lanes (lanes_recs s.view.logs ++ replicate order.0 []) turned (word.Signal n) (side.leaves.law.signals n h).numbers)

    pub subscribers-known : (n : ℕ) → IsTrue (is_signal sys n) → IsTrue (list_all (is_object sys) (set_in js n).members)
    unfolding set_in
    subscribers-known n h = subst (λ (z : Subscribers). list_all (is_object sys) z.members ≡ true) (sym (ap (after subscribers) (signal-hist n h) ∙ side.leaves.set n h)) (each-all (side.now.set n).members (side.shows.members n h).known)
      where
        each-all : (xs : List ℕ) → Each (λ o. IsTrue (is_object sys o)) xs → list_all (is_object sys) xs ≡ true
        each-all [] e = refl
        each-all (x ∷ xs) e = and_from (is_object sys x) (list_all (is_object sys) xs) e.0 (each-all xs e.1)
