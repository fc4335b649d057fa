-- The law of words in another order of lanes.
use Rattle.std.proofs.Common.{◌≡◌, ℕ, zero, suc, ◌<◌, ◌==◌, Bool, true, ◌&&◌, List, [], ◌∷◌, ◌++◌, length, refl, sym, ◌∙◌, ap, subst, arith, eqb-true, append-nil, IsPermutation}
use Rattle.std.specs.List.{filter, list_all}
use Rattle.std.proofs.lemmas.Bool.{and_from, and_parts}
use Rattle.std.proofs.lemmas.List.Elements.{All-from_recursion, recursion_from_All}
use Rattle.std.proofs.lemmas.List.Folds.{list_all-append}
use Rattle.std.proofs.lemmas.List.Sorted.{All-permutation}
use Rattle.qp_model.specs.declared.record.Rec.{Rec}
use Rattle.qp_model.specs.declared.words.Word.{Word}
use Rattle.qp_model.specs.declared.words.Word.TheVariants as word
use Rattle.qp_model.specs.declared.systems.System.{System}
use Rattle.qp_model.specs.Record.{Item}
use Rattle.qp_model.specs.Lists.{all_below, never_falls}
use Rattle.qp_model.specs.History.{touch, marks, marks_rise, drawn_on, drawn_below, drawn_as, hist, numbered, total, is_numbered, lane_items, all_items}
use Rattle.qp_model.specs.Machine.{Machine, is_allowed, is_shown, shown_by}
use Rattle.qp_model.specs.FreeBlocks.{free_blocks}
use Rattle.qp_model.specs.References.{references}
use Rattle.qp_model.specs.Line.{line}
use Rattle.qp_model.specs.Subscribers.{subscribers}
use Rattle.qp_model.specs.TimeEvents.{time_event}
use Rattle.qp_model.specs.Lives.{HasLives}
use Rattle.qp_model.specs.Sites.{ring_of, blocks_of}
use Rattle.qp_model.specs.WordLaw.{Keeps, Words, is_pool, is_block}
use Rattle.qp_model.proofs.ListLemmas.{all_below_at, all_below_from}
use Rattle.qp_model.proofs.WordLemmas.{all_items-append}
use Rattle.qp_model_order.proofs.Records.{all-each, each-all, all-ordered, count-ordered, one-ordered}

pool-of : (sys : System) (p b : ℕ) → is_block sys p b ≡ true → is_pool sys p ≡ true
unfolding is_block
pool-of sys p b h = (and_parts _ _ h).0

module _ (xs ys : List (List Rec)) (order : IsPermutation xs ys) (w : Word) where
  total-ordered : total w (all_items ys) ≡ total w (all_items xs)
  unfolding total
  total-ordered = count-ordered xs ys order (λ i. drawn_on w (touch i))

  pub numbers-ordered : is_numbered w (all_items xs) ≡ true → is_numbered w (all_items ys) ≡ true
  unfolding is_numbered
  numbers-ordered h = and_from _ _
      (subst (λ n. list_all (λ i. drawn_below w n (touch i)) (all_items ys) ≡ true) (sym total-ordered) (all-ordered xs ys order (λ i. drawn_below w (total w (all_items xs)) (touch i)) (and_parts _ _ h).0))
      (subst (λ n. all_below n (λ k. length (filter (λ i. drawn_as w k (touch i)) (all_items ys)) == 1) ≡ true) (sym total-ordered)
      (all_below_from (total w (all_items xs)) (λ k. length (filter (λ i. drawn_as w k (touch i)) (all_items ys)) == 1)
      (λ k lt. ap (λ n. n == 1) (count-ordered xs ys order (λ i. drawn_as w k (touch i)))
      ∙ all_below_at (total w (all_items xs)) (λ k. length (filter (λ i. drawn_as w k (touch i)) (all_items xs)) == 1) (and_parts _ _ h).1 k lt)))

  once : is_numbered w (all_items xs) ≡ true → (k : ℕ) → k < total w (all_items xs) → length (filter (λ i. drawn_as w k (touch i)) (all_items xs)) ≡ 1
  unfolding is_numbered
  once h k lt = eqb-true _ 1 (all_below_at (total w (all_items xs)) (λ k. length (filter (λ i. drawn_as w k (touch i)) (all_items xs)) == 1) (and_parts _ _ h).1 k lt)

  numbered-ordered : (n : ℕ) → ((k : ℕ) → k < n → length (filter (λ i. drawn_as w k (touch i)) (all_items xs)) ≡ 1) → numbered w (all_items ys) n ≡ numbered w (all_items xs) n
  unfolding numbered
  numbered-ordered zero h = refl
  numbered-ordered (suc n) h = let r = numbered-ordered n (λ k lt. h k (omega arith)) in let o = one-ordered xs ys order (λ i. drawn_as w n (touch i)) (h n (omega arith)) in λ i. r i ++ o i

  pub hist-ordered : is_numbered w (all_items xs) ≡ true → hist w (all_items ys) ≡ hist w (all_items xs)
  unfolding hist
  hist-ordered h = ap (numbered w (all_items ys)) total-ordered ∙ numbered-ordered (total w (all_items xs)) (once h)

  rise-ordered : marks_rise w xs ≡ true → marks_rise w ys ≡ true
  unfolding marks_rise
  rise-ordered h = each-all rises ys (recursion_from_All (λ l. rises l ≡ true) ys (All-permutation (λ l. rises l ≡ true) xs ys order (All-from_recursion (λ l. rises l ≡ true) xs (all-each rises xs h))))
    where
      rises : List Rec → Bool
      rises l = never_falls (marks w (lane_items l))

  pub keeps-ordered : {S : Type 0} (m : Machine S) → Keeps S m w xs → Keeps S m w ys
  unfolding is_shown
  keeps-ordered m k = let e = hist-ordered k.numbers in record {
    numbers = numbers-ordered k.numbers;
    allowed = subst (λ z. is_allowed m z ≡ true) (sym e) k.allowed;
    shown = subst (λ z. list_all (λ i. shown_by m w z i.body (touch i)) (all_items ys) ≡ true) (sym e) (all-ordered xs ys order (λ i. shown_by m w (hist w (all_items xs)) i.body (touch i)) k.shown);
    marks = rise-ordered k.marks;
  }

module _ (sys : System) where
  pub words-ordered : (xs ys : List (List Rec)) → IsPermutation xs ys → Words sys xs → Words sys ys
  words-ordered xs ys order law = record {
    pools = λ p h. keeps-ordered xs ys order (word.Pool p) (free_blocks (blocks_of sys p)) (law.pools p h);
    blocks = λ p b h. keeps-ordered xs ys order (word.Block p b) references (law.blocks p b h);
    lives = λ p b h. subst (λ (z : List Item × List Item). HasLives b z.0 z.1)
        (λ i. (sym (hist-ordered xs ys order (word.Pool p) (law.pools p (pool-of sys p b h)).numbers) i, sym (hist-ordered xs ys order (word.Block p b) (law.blocks p b h).numbers) i)) (law.lives p b h);
    queues = λ a h. keeps-ordered xs ys order (word.Queue a) (line (ring_of sys a)) (law.queues a h);
    signals = λ s h. keeps-ordered xs ys order (word.Signal s) subscribers (law.signals s h);
    timers = λ t h. keeps-ordered xs ys order (word.Timer t) time_event (law.timers t h);
  }

  -- lanes with the same records, whose marks rise too
  module _ (xs ys : List (List Rec)) (same : all_items ys ≡ all_items xs) (rise : (w : Word) → marks_rise w xs ≡ true → marks_rise w ys ≡ true) where
    keeps-alike : {S : Type 0} (m : Machine S) (w : Word) → Keeps S m w xs → Keeps S m w ys
    keeps-alike m w k = record { numbers = rw same k.numbers; allowed = rw same k.allowed; shown = rw same k.shown; marks = rise w k.marks }

    words-alike : Words sys xs → Words sys ys
    words-alike law = record {
      pools = λ p h. keeps-alike (free_blocks (blocks_of sys p)) (word.Pool p) (law.pools p h);
      blocks = λ p b h. keeps-alike references (word.Block p b) (law.blocks p b h);
      lives = λ p b h. rw same (law.lives p b h);
      queues = λ a h. keeps-alike (line (ring_of sys a)) (word.Queue a) (law.queues a h);
      signals = λ s h. keeps-alike subscribers (word.Signal s) (law.signals s h);
      timers = λ t h. keeps-alike time_event (word.Timer t) (law.timers t h);
    }

  empty-same : (xs : List (List Rec)) → all_items (xs ++ [] ∷ []) ≡ all_items xs
  unfolding all_items lane_items
  empty-same xs = all_items-append xs ([] ∷ []) ∙ append-nil (all_items xs)

  empty-rises : (xs : List (List Rec)) (w : Word) → marks_rise w (xs ++ [] ∷ []) ≡ (marks_rise w xs && true)
  unfolding marks_rise lane_items
  empty-rises xs w = list_all-append (λ l. never_falls (marks w (lane_items l))) xs ([] ∷ [])

  pub words-filled : (xs : List (List Rec)) → Words sys xs → Words sys (xs ++ [] ∷ [])
  words-filled xs = words-alike xs (xs ++ [] ∷ []) (empty-same xs) (λ w h. empty-rises xs w ∙ and_from _ _ h refl)

  pub words-emptied : (xs : List (List Rec)) → Words sys (xs ++ [] ∷ []) → Words sys xs
  words-emptied xs = words-alike (xs ++ [] ∷ []) xs (sym (empty-same xs)) (λ w h. (and_parts _ _ (sym (empty-rises xs w) ∙ h)).0)
