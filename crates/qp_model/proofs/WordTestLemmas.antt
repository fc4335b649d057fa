-- The law of words from its tests.
use Rattle.std.proofs.Common.{◌≡◌, ℕ, zero, suc, ◌+◌, ◌-◌, ◌<◌, ◌==◌, nat_lt, nat_le, Bool, true, false, ◌&&◌, cond, List, [], ◌∷◌, length, refl, subst, IsTrue, Some, arith}
use Rattle.std.specs.Prelude.{is_some}
use Rattle.std.specs.List.{list_all, find}
use Rattle.std.proofs.lemmas.Bool.{and_parts}
use Rattle.std.proofs.lemmas.Bool.Decides.{nat_tests}
use Rattle.qp_model.specs.declared.record.Rec.{Rec}
use Rattle.qp_model.specs.declared.systems.System.{System}
use Rattle.qp_model.specs.declared.systems.ObjectDef.{ObjectDef}
use Rattle.qp_model.specs.declared.words.Word.{Word}
use Rattle.qp_model.specs.declared.words.Word.TheVariants as word
use Rattle.qp_model.specs.Record.{Item}
use Rattle.qp_model.specs.Lists.{all_below}
use Rattle.qp_model.specs.History.{hist, all_items}
use Rattle.qp_model.specs.Machine.{Machine}
use Rattle.qp_model.specs.FreeBlocks.{Pool, free_blocks}
use Rattle.qp_model.specs.References.{references}
use Rattle.qp_model.specs.Line.{Line, line}
use Rattle.qp_model.specs.Subscribers.{Subscribers, subscribers}
use Rattle.qp_model.specs.TimeEvents.{Clock, time_event}
use Rattle.qp_model.specs.Lives.{HasLives, has_lives}
use Rattle.qp_model.specs.Sites.{object_at, ring_of, blocks_of}
use Rattle.qp_model.specs.WordLaw.{Keeps, keeps, Words, words_hold, pools_hold, blocks_hold, queues_hold, signals_hold, timers_hold, is_pool, is_block, is_object, is_signal, is_timer}
use Rattle.qp_model.proofs.ListLemmas.{all_below_at}

pub keeps-is : {S : Type 0} (m : Machine S) (w : Word) (lanes : List (List Rec)) → keeps m w lanes ≡ true → Keeps S m w lanes
unfolding keeps
keeps-is m w lanes h = record {
  numbers = (and_parts _ _ (and_parts _ _ (and_parts _ _ h).0).0).0;
  allowed = (and_parts _ _ (and_parts _ _ (and_parts _ _ h).0).0).1;
  shown = (and_parts _ _ (and_parts _ _ h).0).1;
  marks = (and_parts _ _ h).1;
}

pub has_lives-is : (b : ℕ) (pool block : List Item) → has_lives b pool block ≡ true → HasLives b pool block
unfolding has_lives
has_lives-is b pool block h = record {
  alternate = (and_parts _ _ (and_parts _ _ (and_parts _ _ h).0).0).0;
  empty = (and_parts _ _ (and_parts _ _ (and_parts _ _ h).0).0).1;
  cover = (and_parts _ _ (and_parts _ _ h).0).1;
  referred = (and_parts _ _ h).1;
}

found_passes : (p : ℕ → Bool) (a : ℕ) (ds : List ObjectDef) → list_all (λ d. p d.priority) ds ≡ true → is_some (find (λ d. d.priority == a) ds) ≡ true → p a ≡ true
found_passes p a [] h some = cc
found_passes p a (d ∷ ds) h some = go (found_passes p a ds (and_parts _ _ h).1) (d.priority == a) refl some
  where
    go : (is_some (find (λ d. d.priority == a) ds) ≡ true → p a ≡ true) → (same : Bool) → (d.priority == a) ≡ same → is_some (cond same (Some d) (find (λ d. d.priority == a) ds)) ≡ true → p a ≡ true
    go later true e k =
        let is : d.priority ≡ a = grind (arith, nat_tests) in
        subst (λ n. p n ≡ true) is (and_parts _ _ h).0
    go later false e k = later k

module _ (sys : System) (lanes : List (List Rec)) where
  pub pools-from : pools_hold sys lanes ≡ true → (p : ℕ) → IsTrue (is_pool sys p) → Keeps Pool (free_blocks (blocks_of sys p)) (word.Pool p) lanes
  unfolding pools_hold
  pools-from h zero is = cc
  pools-from h (suc k) is =
      let in_range : k < length sys.pools = grind (arith, nat_tests) in
      keeps-is (free_blocks (blocks_of sys (suc k))) (word.Pool (suc k)) lanes
      (all_below_at (length sys.pools) (λ k. keeps (free_blocks (blocks_of sys (suc k))) (word.Pool (suc k)) lanes) h k in_range)

  block_at : blocks_hold sys lanes ≡ true → (p b : ℕ) → IsTrue (is_block sys p b)
      → (keeps references (word.Block p b) lanes && has_lives b (hist (word.Pool p) (all_items lanes)) (hist (word.Block p b) (all_items lanes))) ≡ true
  unfolding blocks_hold is_block
  block_at h zero b is = cc
  block_at h (suc k) b is =
      let pool : is_pool sys (suc k) ≡ true = (and_parts _ _ is).0 in
      let below : nat_lt b (blocks_of sys (suc k)) ≡ true = (and_parts _ _ is).1 in
      let in_range : k < length sys.pools = grind (arith, nat_tests) in
      let in_pool : b < blocks_of sys (suc k) = grind (arith, nat_tests) in
      all_below_at (blocks_of sys (suc k)) (λ b. keeps references (word.Block (suc k) b) lanes && has_lives b (hist (word.Pool (suc k)) (all_items lanes)) (hist (word.Block (suc k) b) (all_items lanes)))
      (all_below_at (length sys.pools) (λ k. all_below (blocks_of sys (suc k)) (λ b. keeps references (word.Block (suc k) b) lanes && has_lives b (hist (word.Pool (suc k)) (all_items lanes)) (hist (word.Block (suc k) b) (all_items lanes)))) h k in_range)
      b in_pool

  pub queues-from : queues_hold sys lanes ≡ true → (a : ℕ) → IsTrue (is_object sys a) → Keeps Line (line (ring_of sys a)) (word.Queue a) lanes
  unfolding queues_hold is_object object_at
  queues-from h a is = keeps-is (line (ring_of sys a)) (word.Queue a) lanes (found_passes (λ a. keeps (line (ring_of sys a)) (word.Queue a) lanes) a sys.objects h is)

  pub signals-from : signals_hold sys lanes ≡ true → (s : ℕ) → IsTrue (is_signal sys s) → Keeps Subscribers subscribers (word.Signal s) lanes
  unfolding signals_hold
  signals-from h s is =
      let low : nat_le 4 s ≡ true = (and_parts _ _ is).0 in
      let high : nat_lt s (length sys.signals + 4) ≡ true = (and_parts _ _ is).1 in
      let in_range : s - 4 < length sys.signals = grind (arith, nat_tests) in
      let back : (s - 4) + 4 ≡ s = grind (arith, nat_tests) in
      keeps-is subscribers (word.Signal s) lanes
      (subst (λ n. keeps subscribers (word.Signal n) lanes ≡ true) back (all_below_at (length sys.signals) (λ k. keeps subscribers (word.Signal (k + 4)) lanes) h (s - 4) in_range))

  pub timers-from : timers_hold sys lanes ≡ true → (t : ℕ) → IsTrue (is_timer sys t) → Keeps Clock time_event (word.Timer t) lanes
  unfolding timers_hold
  timers-from h zero is = cc
  timers-from h (suc k) is =
      let in_range : k < length sys.timers = grind (arith, nat_tests) in
      keeps-is time_event (word.Timer (suc k)) lanes
      (all_below_at (length sys.timers) (λ k. keeps time_event (word.Timer (suc k)) lanes) h k in_range)

  -- a journal's words keep the law where the tests hold
  pub words-from : IsTrue (words_hold sys lanes) → Words sys lanes
  unfolding words_hold
  words-from h =
      let blocks : blocks_hold sys lanes ≡ true = (and_parts _ _ (and_parts _ _ (and_parts _ _ (and_parts _ _ h).0).0).0).1 in
      record {
        pools = pools-from (and_parts _ _ (and_parts _ _ (and_parts _ _ (and_parts _ _ h).0).0).0).0;
        blocks = λ p b is. keeps-is references (word.Block p b) lanes (and_parts _ _ (block_at blocks p b is)).0;
        lives = λ p b is. has_lives-is b (hist (word.Pool p) (all_items lanes)) (hist (word.Block p b) (all_items lanes)) (and_parts _ _ (block_at blocks p b is)).1;
        queues = queues-from (and_parts _ _ (and_parts _ _ (and_parts _ _ h).0).0).1;
        signals = signals-from (and_parts _ _ (and_parts _ _ h).0).1;
        timers = timers-from (and_parts _ _ h).1;
      }
