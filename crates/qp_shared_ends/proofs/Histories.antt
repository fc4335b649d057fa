-- Of words of the event table the whole lanes have the histories of the rule's lanes.
use Rattle.std.proofs.Common.{◌≡◌, ◌≢◌, ℕ, zero, suc, ◌+◌, true, false, not, List, [], ◌∷◌, ◌++◌, length, replicate, refl, sym, ◌∙◌, ap, subst, arith, IsTrue, IsPermutation, None}
use Rattle.std.proofs.lemmas.List.{append_assoc}
use Rattle.std.proofs.lemmas.List.Sorted.{IsPermutation-sym}
use mathlib.Core.Option.{some}
use lib.ListN.{get_elem?}
use Rattle.qp_chart.specs.StateTree.{has}
use Rattle.qp_model.specs.declared.record.Rec.{Rec}
use Rattle.qp_model.specs.declared.systems.System.{System}
use Rattle.qp_model.specs.declared.words.Word.{Word}
use Rattle.qp_model.specs.declared.words.Word.TheVariants as word
use Rattle.qp_model.specs.Record.{Item}
use Rattle.qp_model.specs.History.{Touch, Draws, Shows, Neither, touch, mark_of, hist, is_numbered, all_items}
use Rattle.qp_model.specs.Machine.{after}
use Rattle.qp_model.specs.FreeBlocks.{Pool, free_blocks}
use Rattle.qp_model.specs.References.{references}
use Rattle.qp_model.specs.Line.{line}
use Rattle.qp_model.specs.Lives.{life_of}
use Rattle.qp_model.specs.Sites.{ring_of, blocks_of}
use Rattle.qp_model.specs.WordLaw.{Words, is_pool, is_block, is_object}
use Rattle.qp_model.proofs.LifeLemmas.{free-out}
use Rattle.qp_model_order.proofs.Orders.{words-ordered, words-emptied, hist-ordered}
use Rattle.qp_plain_sound.specs.WordStates.{pool_in, life_in, refs_in, line_in}
use Rattle.qp_table.specs.Counting.{sum_over, many}
use Rattle.qp_table.specs.TwoTables.{on_table, on_side, Thins, SideWords}
use Rattle.qp_table.specs.Now.{content_from}
use Rattle.qp_table.specs.Rule.{is_log, is_number, Idle, Holds}
use Rattle.qp_table.specs.declared.view.View.{View}
use Rattle.qp_table.proofs.Counting.{alone-total, many-le}
use Rattle.qp_table.proofs.Views.{total-two}
use Rattle.qp_table.proofs.Steps.{pool-of}
use Rattle.qp_table.proofs.Thin.{hist-thins, words-joined}
use Rattle.qp_port_law.specs.Sealed.{is_event_table_word}
use Rattle.qp_shared_ends.specs.Lanes.{lanes_recs}
use Rattle.qp_shared_ends.proofs.Ordering.{lanes-ordered, empties}

-- a record that isn't of the table touches no word of it
covered : (w : Word) → is_event_table_word w ≡ true → (u : Touch) → on_table u ≡ false → mark_of w u ≡ None
covered w h Neither e = refl
covered (word.Signal c) h (Draws x n) e = absurd (cc)
covered (word.Signal c) h (Shows x n) e = absurd (cc)
covered (word.Timer c) h (Draws x n) e = absurd (cc)
covered (word.Timer c) h (Shows x n) e = absurd (cc)
covered (word.Pool p) h (Draws (word.Signal s) n) e = refl
covered (word.Pool p) h (Draws (word.Timer s) n) e = refl
covered (word.Pool p) h (Shows (word.Signal s) n) e = refl
covered (word.Pool p) h (Shows (word.Timer s) n) e = refl
covered (word.Pool p) h (Draws (word.Pool q) n) e = absurd (cc)
covered (word.Pool p) h (Draws (word.Block q b) n) e = refl
covered (word.Pool p) h (Draws (word.Queue a) n) e = refl
covered (word.Pool p) h (Shows (word.Pool q) n) e = absurd (cc)
covered (word.Pool p) h (Shows (word.Block q b) n) e = refl
covered (word.Pool p) h (Shows (word.Queue a) n) e = refl
covered (word.Block p b) h (Draws (word.Signal s) n) e = refl
covered (word.Block p b) h (Draws (word.Timer s) n) e = refl
covered (word.Block p b) h (Shows (word.Signal s) n) e = refl
covered (word.Block p b) h (Shows (word.Timer s) n) e = refl
covered (word.Block p b) h (Draws (word.Pool q) n) e = refl
covered (word.Block p b) h (Draws (word.Block q c) n) e = absurd (cc)
covered (word.Block p b) h (Draws (word.Queue a) n) e = refl
covered (word.Block p b) h (Shows (word.Pool q) n) e = refl
covered (word.Block p b) h (Shows (word.Block q c) n) e = absurd (cc)
covered (word.Block p b) h (Shows (word.Queue a) n) e = refl
covered (word.Queue c) h (Draws (word.Signal s) n) e = refl
covered (word.Queue c) h (Draws (word.Timer s) n) e = refl
covered (word.Queue c) h (Shows (word.Signal s) n) e = refl
covered (word.Queue c) h (Shows (word.Timer s) n) e = refl
covered (word.Queue c) h (Draws (word.Pool q) n) e = refl
covered (word.Queue c) h (Draws (word.Block q b) n) e = refl
covered (word.Queue c) h (Draws (word.Queue a) n) e = absurd (cc)
covered (word.Queue c) h (Shows (word.Pool q) n) e = refl
covered (word.Queue c) h (Shows (word.Block q b) n) e = refl
covered (word.Queue c) h (Shows (word.Queue a) n) e = absurd (cc)

replicate-last : (k : ℕ) → replicate {A = List Rec} (suc k) [] ≡ replicate k [] ++ [] ∷ []
replicate-last zero = refl
replicate-last (suc k) = ap (λ l. [] ∷ l) (replicate-last k)

words-bare : (sys : System) (xs : List (List Rec)) (k : ℕ) → Words sys (xs ++ replicate k []) → Words sys xs
words-bare sys xs zero law = subst (Words sys) (nil xs) law
  where
    nil : (xs : List (List Rec)) → xs ++ [] ≡ xs
    nil [] = refl
    nil (x ∷ xs) = ap (λ l. x ∷ l) (nil xs)
words-bare sys xs (suc k) law = words-bare sys xs k (words-emptied sys (xs ++ replicate k []) (subst (Words sys) (ap (λ l. xs ++ l) (replicate-last k) ∙ sym (append_assoc xs (replicate k []) ([] ∷ []))) law))

-- What only the view that has all lanes has
module _ (sys : System) (words : List ℕ) (views : List View) (holds : Holds sys words views) (id : ℕ) (v : View) (at_id : get_elem? views id ≡ some v) (all : length v.logs + length v.lane_numbers ≡ 49) where
  no-rights : (j : ℕ) (z : View) → j ≢ id → get_elem? views j ≡ some z → length z.logs + length z.lane_numbers ≡ 0
  no-rights j z ne there = let t = total-two (λ (y : View). length y.logs + length y.lane_numbers) views id j v z at_id there (λ e. ne (sym e)) in let r = holds.logs.rights in omega arith

  pub alone : (f : View → ℕ) → ((z : View) → Idle z → f z ≡ 0) → sum_over f views ≡ f v
  alone f h = alone-total f views id v at_id (λ j z ne there. h z (holds.idle j z there (no-rights j z ne there)))

  logs-alone : (n : ℕ) → sum_over (λ (z : View). many (is_log n) z.logs) views ≡ many (is_log n) v.logs
  logs-alone n = alone-total (λ (z : View). many (is_log n) z.logs) views id v at_id (λ j z ne there. let r = no-rights j z ne there in let l = many-le (is_log n) z.logs in omega arith)

  numbers-alone : (n : ℕ) → sum_over (λ (z : View). many (is_number n) z.lane_numbers) views ≡ many (is_number n) v.lane_numbers
  numbers-alone n = alone-total (λ (z : View). many (is_number n) z.lane_numbers) views id v at_id (λ j z ne there. let r = no-rights j z ne there in let l = many-le (is_number n) z.lane_numbers in omega arith)

  order : (k : ℕ) × IsPermutation (lanes_recs v.logs ++ replicate k []) holds.lanes
  order = let count = holds.logs.count in lanes-ordered holds.lanes v.logs v.lane_numbers (holds.logs.own id v at_id)
      (λ n l. let a = logs-alone n in let b = numbers-alone n in let o = holds.logs.once n (omega arith) in omega arith)
      (λ n l mine. holds.logs.later n (omega arith) (let b = numbers-alone n in omega arith))

  -- and lanes whose records of the event table are those of its logs
  module _ (js : List (List Rec)) (thin : Thins (λ i. on_table (touch i)) js (lanes_recs v.logs)) where
    abbrev items : List Item
    items = all_items js

    abbrev past : List Item
    past = all_items holds.lanes

    pub hist-same : (w : Word) → is_event_table_word w ≡ true → is_numbered w past ≡ true → hist w items ≡ hist w past
    hist-same w on numbers = let o = order in
        sym (hist-thins w (λ i. on_table (touch i)) (λ i e. covered w on (touch i) e) js (lanes_recs v.logs) thin)
        ∙ (ap (hist w) (sym (empties (lanes_recs v.logs) o.0))
        ∙ hist-ordered holds.lanes (lanes_recs v.logs ++ replicate o.0 []) (IsPermutation-sym (lanes_recs v.logs ++ replicate o.0 []) holds.lanes o.1) w numbers)

    pub words-whole : (side : List (List Rec)) → Thins (λ i. on_side (touch i)) js side → SideWords sys side → Words sys js
    words-whole side beside law = let o = order in words-joined sys js (lanes_recs v.logs) side thin beside
        (words-bare sys (lanes_recs v.logs) o.0 (words-ordered sys holds.lanes (lanes_recs v.logs ++ replicate o.0 []) (IsPermutation-sym (lanes_recs v.logs ++ replicate o.0 []) holds.lanes o.1) holds.leaves.law)) law

    pub pool-hist : (p : ℕ) → IsTrue (is_pool sys p) → hist (word.Pool p) items ≡ hist (word.Pool p) past
    pool-hist p h = hist-same (word.Pool p) refl (holds.leaves.law.pools p h).numbers

    pub block-hist : (p b : ℕ) → IsTrue (is_block sys p b) → hist (word.Block p b) items ≡ hist (word.Block p b) past
    block-hist p b h = hist-same (word.Block p b) refl (holds.leaves.law.blocks p b h).numbers

    pub queue-hist : (a : ℕ) → IsTrue (is_object sys a) → hist (word.Queue a) items ≡ hist (word.Queue a) past
    queue-hist a h = hist-same (word.Queue a) refl (holds.leaves.law.queues a h).numbers

    -- the states of all words at the end
    pub pool-is : (p : ℕ) → IsTrue (is_pool sys p) → pool_in sys js p ≡ holds.now.pool p
    unfolding pool_in
    pool-is p h = ap (after (free_blocks (blocks_of sys p))) (pool-hist p h) ∙ holds.leaves.pool p h

    pub refs-is : (p b : ℕ) → IsTrue (is_block sys p b) → refs_in js p b ≡ holds.now.refs p b
    unfolding refs_in
    refs-is p b h = ap (after references) (block-hist p b h) ∙ holds.leaves.refs p b h

    pub line-is : (a : ℕ) → IsTrue (is_object sys a) → line_in sys js a ≡ holds.now.line a
    unfolding line_in
    line-is a h = ap (after (line (ring_of sys a))) (queue-hist a h) ∙ holds.leaves.line a h

    pub edge-is : (p b : ℕ) → IsTrue (is_block sys p b) → (life_in js p b).edge ≡ holds.now.edge p b
    unfolding life_in
    edge-is p b h = ap (λ is. (after (life_of b) is).edge) (pool-hist p (pool-of sys p b h).0) ∙ holds.leaves.edge p b h

    pub content-is : (p b : ℕ) → IsTrue (is_block sys p b) → content_from b [] (hist (word.Pool p) items) ≡ holds.now.content p b
    content-is p b h = ap (content_from b []) (pool-hist p (pool-of sys p b h).0) ∙ holds.leaves.content p b h

    -- a block is free exactly where it isn't given out
    pub free-is : (p b : ℕ) → IsTrue (is_block sys p b) → has (holds.now.pool p).free b ≡ not (life_in js p b).out
    unfolding life_in pool_in
    free-is p b h = let z = pool-of sys p b h in ap (λ (s : Pool). has s.free b) (sym (pool-is p z.0)) ∙ free-out (blocks_of sys p) b (hist (word.Pool p) items) z.1
