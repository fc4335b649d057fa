-- Places of words, how large their numbers get, and lists with one element changed.
use Rattle.std.proofs.Common.{◌≡◌, ℕ, ◌+◌, ◌<◌, ◌≤◌, ◌≢◌, nat_lt, nat_le, Bool, true, false, cond, List, [], ◌∷◌, length, set, get_or, refl, sym, ap, subst, ◌∙◌, ⊎_elim, arith, eqb, eq-eqb, ne_eqb, ltb, IsTrue}
use Rattle.std.proofs.lemmas.Bool.{and_parts}
use Rattle.std.proofs.lemmas.Bool.Decides.{nat_tests}
use mathlib.Core.Option.{some}
use lib.ListN.{get_elem?}
use Rattle.atomic_table.proofs.Lists.{at_set}
use Rattle.qp_model.specs.declared.record.Rec.{Rec}
use Rattle.qp_model.specs.declared.systems.System.{System}
use Rattle.qp_model.specs.declared.words.Word.{Word}
use Rattle.qp_model.specs.History.{hist, all_items}
use Rattle.qp_model.specs.Machine.{Machine, after}
use Rattle.qp_model.specs.WordLaw.{Keeps, is_signal, is_timer}
use Rattle.qp_model.proofs.HistoryLemmas.{length-hist, total-length}
use Rattle.qp_model.proofs.MachineLemmas.{Counts, count-after}
use Rattle.qp_table.specs.Counting.{Each}
use Rattle.qp_table.specs.Now.{at}
use Rattle.qp_table.specs.Rule.{mark_in, Was}
use Rattle.qp_table.specs.declared.view.Glance.{Glance}
use Rattle.qp_table.proofs.Views.{SawFrom}
use Rattle.qp_table.specs.Words.{later, latest}
use Rattle.qp_side.specs.Rule.{SideFitting}
use Rattle.qp_side.specs.Laws.{SideWordsStandApart}
use Rattle.qp_table.proofs.Bounds.{all-length}
use Rattle.qp_table.proofs.Facts.{zero-mark}

pub apart-words : SideWordsStandApart
apart-words s r t u ls lr pt lt pu lu = (omega arith, omega arith, (λ e. omega arith), (λ e. omega arith))

module _ (sys : System) (fits : SideFitting sys) where
  pub signal-low : (s : ℕ) → IsTrue (is_signal sys s) → s < 204
  signal-low s h = let b = and_parts (nat_le 4 s) (nat_lt s (length sys.signals + 4)) h in let y : nat_lt s (length sys.signals + 4) ≡ true = b.1 in
      let l : s < length sys.signals + 4 = grind (arith, nat_tests) in let f = fits.few_signals in omega arith

  pub timer-low : (t : ℕ) → IsTrue (is_timer sys t) → (0 < t) × (t ≤ 64)
  timer-low t h = let b = and_parts (nat_lt 0 t) (nat_le t (length sys.timers)) h in let x : nat_lt 0 t ≡ true = b.0 in let y : nat_le t (length sys.timers) ≡ true = b.1 in
      let lo : 0 < t = grind (arith, nat_tests) in let hi : t ≤ length sys.timers = grind (arith, nat_tests) in let f = fits.few_timers in (lo, omega arith)

-- a word has at most so many operations
pub few-operations : {S : Type 0} (m : Machine S) (w : Word) (lanes : List (List Rec)) (s : S) → Counts S m → Keeps S m w lanes → after m (hist w (all_items lanes)) ≡ s → length lanes ≡ 49 → Each (λ (l : List Rec). length l ≤ 1000001) lanes → m.count s ≤ 49000049
few-operations m w lanes s counts k is count room =
    let c : m.count s ≡ _ = ap m.count (sym is) ∙ (count-after m counts (hist w (all_items lanes)) k.allowed ∙ length-hist w (all_items lanes) k.numbers) in
    let t = total-length w (all_items lanes) in let r = all-length 1000001 lanes room in omega arith

module _ {X : Type 0} (p : ℕ) (x : X) (f : ℕ → X) where
  pub at-here : at p x f p ≡ x
  at-here = ap (λ (t : Bool). cond {A = X} t x (f p)) (eq-eqb p p refl)

  pub at-else : (q : ℕ) → q ≢ p → at p x f q ≡ f q
  at-else q ne = ap (λ (t : Bool). cond {A = X} t x (f q)) (ne_eqb q p ne)

module _ {A : Type 0} where
  -- all fit still, where one is changed to one that fits
  pub fits : (P Q : A → Type 0) (xs : List A) (id : ℕ) (u : A) → ((j : ℕ) (v : A) → j ≢ id → get_elem? xs j ≡ some v → P v → Q v) → Q u → ((j : ℕ) (v : A) → get_elem? xs j ≡ some v → P v) → (j : ℕ) (v : A) → get_elem? (set xs id u) j ≡ some v → Q v
  fits P Q xs id u keep mine all j v e = ⊎_elim (λ (t : (j ≡ id) × (u ≡ v)). subst Q t.1 mine) (λ (t : (j ≢ id) × (get_elem? xs j ≡ some v)). keep j v t.0 t.1 (all j v t.1)) (at_set xs id j u v e)

-- Glances.

module _ (words : List ℕ) (was : Was) (first : (w : ℕ) → was w 0 ≡ 0) where
  abbrev Past : ℕ → ℕ → Type 0
  Past w y = (mark_in w y ≤ mark_in w (get_or words w 0)) × (y ≡ was w (mark_in w y))

  later-case : (w x y : ℕ) → Past w x → Past w y → (t : Bool) → Past w (cond {A = ℕ} t y x)
  later-case w x y a b true = b
  later-case w x y a b false = a

  latest-past : (w x : ℕ) (seen : List Glance) → Past w x → Each (SawFrom words was) seen → Past w (latest w x seen)
  unfolding latest
  latest-past w x [] p e = p
  latest-past w x (g ∷ seen) p e = latest-past w (cond (eqb g.word w) (later w x g.value) x) seen (go (eqb g.word w) refl) e.1
    where
      go : (t : Bool) → eqb g.word w ≡ t → Past w (cond {A = ℕ} t (later w x g.value) x)
      go true is = later-case w x g.value p (subst (λ z. Past z g.value) (eqb-is g.word w is) (e.0.1, e.0.2)) (ltb (mark_in w x) (mark_in w g.value))
        where
          eqb-is : (a b : ℕ) → eqb a b ≡ true → a ≡ b
          eqb-is a b h = grind (arith, nat_tests)
      go false is = p

  -- of a word, nothing was seen with more operations than it has
  pub seen-past : (w : ℕ) (seen : List Glance) → Each (SawFrom words was) seen → (mark_in w (latest w 0 seen) ≤ mark_in w (get_or words w 0)) × (latest w 0 seen ≡ was w (mark_in w (latest w 0 seen)))
  seen-past w seen e = let z = zero-mark w in latest-past w 0 seen (omega arith, sym (ap (was w) z ∙ first w)) e
