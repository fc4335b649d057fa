-- What holds at all words of a system.
use Rattle.std.proofs.Common.{◌≡◌, ℕ, zero, suc, ◌+◌, ◌<◌, ◌≤◌, ◌==◌, nat_lt, nat_le, Bool, true, false, ◌&&◌, cond, List, [], ◌∷◌, ◌++◌, length, map, refl, ap, sym, ◌∙◌, subst, Some, arith}
use Rattle.std.specs.Prelude.{is_some}
use Rattle.std.specs.List.{filter, flat_map, find, list_all, AllByRecursion}
use Rattle.std.proofs.lemmas.Bool.{and_from, and_parts, le-leb, leb-true, lt-ltb}
use Rattle.std.proofs.lemmas.Bool.Decides.{nat_tests}
use Rattle.std.proofs.lemmas.List.Folds.{list_all-append}
use Rattle.qp_model.specs.declared.systems.System.{System}
use Rattle.qp_model.specs.declared.systems.ObjectDef.{ObjectDef}
use Rattle.qp_model.specs.declared.words.Word.{Word}
use Rattle.qp_model.specs.declared.words.Word.TheVariants as word
use Rattle.qp_model.specs.Lists.{count_up}
use Rattle.qp_model.specs.Sites.{blocks_of, object_at}
use Rattle.qp_model.specs.WordLaw.{is_pool, is_block, is_object, is_signal, is_timer}
use Rattle.qp_check_words.specs.SystemWords.{words_of, pool_words, words_of_pool, block_words, queue_words, signal_words, timer_words}

all-counted : (f : ℕ → Word) (p : Word → Bool) (k n : ℕ) → ((j : ℕ) → k ≤ j → j < k + n → p (f j) ≡ true) → list_all p (map f (count_up k n)) ≡ true
all-counted f p k zero h = refl
all-counted f p k (suc n) h = and_from _ _ (h k (omega arith) (omega arith)) (all-counted f p (k + 1) n (λ j ge lt. h j (omega arith) (omega arith)))

all-pieces : (g : ℕ → List Word) (p : Word → Bool) (k n : ℕ) → ((j : ℕ) → k ≤ j → j < k + n → list_all p (g j) ≡ true) → list_all p (flat_map g (count_up k n)) ≡ true
all-pieces g p k zero h = refl
all-pieces g p k (suc n) h = list_all-append p (g k) (flat_map g (count_up (k + 1) n)) ∙ and_from _ _ (h k (omega arith) (omega arith)) (all-pieces g p (k + 1) n (λ j ge lt. h j (omega arith) (omega arith)))

-- the test holds at each word of the system
pub record AllSites (sys : System) (p : Word → Bool) : Type 0 where
  pub pools : (q : ℕ) → is_pool sys q ≡ true → p (word.Pool q) ≡ true
  pub blocks : (q b : ℕ) → is_block sys q b ≡ true → p (word.Block q b) ≡ true
  pub queues : (a : ℕ) → is_object sys a ≡ true → p (word.Queue a) ≡ true
  pub signals : (s : ℕ) → is_signal sys s ≡ true → p (word.Signal s) ≡ true
  pub timers : (t : ℕ) → is_timer sys t ≡ true → p (word.Timer t) ≡ true

counted-at : (f : ℕ → Word) (p : Word → Bool) (k n : ℕ) → list_all p (map f (count_up k n)) ≡ true → (j : ℕ) → k ≤ j → j < k + n → p (f j) ≡ true
counted-at f p k zero h j ge lt = absurd (omega arith)
counted-at f p k (suc n) h j ge lt = go (j == k) refl (counted-at f p (k + 1) n (and_parts _ _ h).1 j)
  where
    go : (b : Bool) → (j == k) ≡ b → (k + 1 ≤ j → j < k + 1 + n → p (f j) ≡ true) → p (f j) ≡ true
    go true e later = let is : k ≡ j = grind (arith, nat_tests) in subst (λ i. p (f i) ≡ true) is (and_parts _ _ h).0
    go false e later =
        let ne : j ≡ k → ⊥ = grind (arith, nat_tests) in
        later (omega arith) (omega arith)

pieces-at : (g : ℕ → List Word) (p : Word → Bool) (k n : ℕ) → list_all p (flat_map g (count_up k n)) ≡ true → (j : ℕ) → k ≤ j → j < k + n → list_all p (g j) ≡ true
pieces-at g p k zero h j ge lt = absurd (omega arith)
pieces-at g p k (suc n) h j ge lt = go (j == k) refl (sym (list_all-append p (g k) (flat_map g (count_up (k + 1) n))) ∙ h) (pieces-at g p (k + 1) n)
  where
    go : (b : Bool) → (j == k) ≡ b → (list_all p (g k) && list_all p (flat_map g (count_up (k + 1) n))) ≡ true
        → (list_all p (flat_map g (count_up (k + 1) n)) ≡ true → (j : ℕ) → k + 1 ≤ j → j < k + 1 + n → list_all p (g j) ≡ true) → list_all p (g j) ≡ true
    go true e both later = let is : k ≡ j = grind (arith, nat_tests) in subst (λ i. list_all p (g i) ≡ true) is (and_parts _ _ both).0
    go false e both later =
        let ne : j ≡ k → ⊥ = grind (arith, nat_tests) in
        later (and_parts _ _ both).1 j (omega arith) (omega arith)

passed-at : (f : ℕ → Word) (p : Word → Bool) (q : ℕ → Bool) (k n : ℕ) → list_all p (map f (filter q (count_up k n))) ≡ true → (j : ℕ) → k ≤ j → j < k + n → q j ≡ true → p (f j) ≡ true
passed-at f p q k zero h j ge lt passes = absurd (omega arith)
passed-at f p q k (suc n) h j ge lt passes = go (j == k) refl (q k) refl h (passed-at f p q (k + 1) n)
  where
    go : (b : Bool) → (j == k) ≡ b → (c : Bool) → q k ≡ c → list_all p (map f (cond c (k ∷ filter q (count_up (k + 1) n)) (filter q (count_up (k + 1) n)))) ≡ true
        → (list_all p (map f (filter q (count_up (k + 1) n))) ≡ true → (j : ℕ) → k + 1 ≤ j → j < k + 1 + n → q j ≡ true → p (f j) ≡ true) → p (f j) ≡ true
    go true e true f2 all later = let is : k ≡ j = grind (arith, nat_tests) in subst (λ i. p (f i) ≡ true) is (and_parts _ _ all).0
    go true e false f2 all later = let is : k ≡ j = grind (arith, nat_tests) in let no : q j ≡ false = ap q (sym is) ∙ f2 in cc
    go false e true f2 all later =
        let ne : j ≡ k → ⊥ = grind (arith, nat_tests) in
        later (and_parts _ _ all).1 j (omega arith) (omega arith) passes
    go false e false f2 all later =
        let ne : j ≡ k → ⊥ = grind (arith, nat_tests) in
        later all j (omega arith) (omega arith) passes

passed-all : (f : ℕ → Word) (p : Word → Bool) (q : ℕ → Bool) (k n : ℕ) → ((j : ℕ) → q j ≡ true → p (f j) ≡ true) → list_all p (map f (filter q (count_up k n))) ≡ true
passed-all f p q k zero h = refl
passed-all f p q k (suc n) h = go (q k) refl (passed-all f p q (k + 1) n h)
  where
    go : (c : Bool) → q k ≡ c → list_all p (map f (filter q (count_up (k + 1) n))) ≡ true → list_all p (map f (cond c (k ∷ filter q (count_up (k + 1) n)) (filter q (count_up (k + 1) n)))) ≡ true
    go true e later = and_from _ _ (h k e) later
    go false e later = later

byte-objects : (ds : List ObjectDef) (a : ℕ) → AllByRecursion (λ d. d.priority < 256) ds → is_some (find (λ d. d.priority == a) ds) ≡ true → a < 256
byte-objects [] a all h = cc
byte-objects (d ∷ ds) a all h = go (d.priority == a) refl h (byte-objects ds a all.1)
  where
    go : (b : Bool) → (d.priority == a) ≡ b → is_some (cond b (Some d) (find (λ d. d.priority == a) ds)) ≡ true → (is_some (find (λ d. d.priority == a) ds) ≡ true → a < 256) → a < 256
    go true e k later = let is : d.priority ≡ a = grind (arith, nat_tests) in let below : d.priority < 256 = all.0 in omega arith
    go false e k later = later k

module _ (sys : System) (p : Word → Bool) where
  parts : (xs ys : List Word) → list_all p (xs ++ ys) ≡ true → (list_all p xs ≡ true) × (list_all p ys ≡ true)
  parts xs ys h = and_parts _ _ (sym (list_all-append p xs ys) ∙ h)

  whole : (xs ys : List Word) → list_all p xs ≡ true → list_all p ys ≡ true → list_all p (xs ++ ys) ≡ true
  whole xs ys h k = list_all-append p xs ys ∙ and_from _ _ h k

  above-zero : (n : ℕ) → nat_lt 0 n ≡ true → 1 ≤ n
  above-zero n h = grind (arith, nat_tests)

  below-zero : (m n : ℕ) → nat_lt m n ≡ true → m < 0 + n
  below-zero m n h = grind (arith, nat_tests)

  pool-range : (q : ℕ) → is_pool sys q ≡ true → (1 ≤ q) × (q < 1 + length sys.pools)
  pool-range q is = (above-zero q (and_parts (nat_lt 0 q) (nat_le q (length sys.pools)) is).0, omega (arith, leb-true q (length sys.pools) (and_parts (nat_lt 0 q) (nat_le q (length sys.pools)) is).1))

  signal-range : (s : ℕ) → is_signal sys s ≡ true → (4 ≤ s) × (s < 4 + length sys.signals)
  signal-range s is =
      (leb-true 4 s (and_parts (nat_le 4 s) (nat_lt s (length sys.signals + 4)) is).0, omega (arith, below-zero s (length sys.signals + 4) (and_parts (nat_le 4 s) (nat_lt s (length sys.signals + 4)) is).1))

  timer-range : (t : ℕ) → is_timer sys t ≡ true → (1 ≤ t) × (t < 1 + length sys.timers)
  timer-range t is = (above-zero t (and_parts (nat_lt 0 t) (nat_le t (length sys.timers)) is).0, omega (arith, leb-true t (length sys.timers) (and_parts (nat_lt 0 t) (nat_le t (length sys.timers)) is).1))

  pub sites-from : AllByRecursion (λ d. d.priority < 256) sys.objects → list_all p (words_of sys) ≡ true → AllSites sys p
  unfolding words_of is_object object_at is_block
  sites-from bytes h =
      let with_timers = parts (pool_words sys ++ block_words sys ++ queue_words sys ++ signal_words sys) (timer_words sys) h in
      let with_signals = parts (pool_words sys ++ block_words sys ++ queue_words sys) (signal_words sys) with_timers.0 in
      let with_queues = parts (pool_words sys ++ block_words sys) (queue_words sys) with_signals.0 in
      let with_blocks = parts (pool_words sys) (block_words sys) with_queues.0 in
      record {
        pools = λ q is. let r = pool-range q is in counted-at (λ n. word.Pool n) p 1 (length sys.pools) with_blocks.0 q r.0 r.1;
        blocks = λ q b is.
            let r = pool-range q (and_parts (is_pool sys q) (nat_lt b (blocks_of sys q)) is).0 in
            let less : b < 0 + blocks_of sys q = below-zero b (blocks_of sys q) (and_parts (is_pool sys q) (nat_lt b (blocks_of sys q)) is).1 in
            counted-at (λ n. word.Block q n) p 0 (blocks_of sys q) (pieces-at (words_of_pool sys) p 1 (length sys.pools) with_blocks.1 q r.0 r.1) b (omega arith) less;
        queues = λ a is. passed-at (λ n. word.Queue n) p (λ a. is_object sys a) 0 256 with_queues.1 a (omega arith) (omega (arith, byte-objects sys.objects a bytes is)) is;
        signals = λ s is. let r = signal-range s is in counted-at (λ n. word.Signal n) p 4 (length sys.signals) with_signals.1 s r.0 r.1;
        timers = λ t is. let r = timer-range t is in counted-at (λ n. word.Timer n) p 1 (length sys.timers) with_timers.1 t r.0 r.1;
      }

  pub sites-to : AllSites sys p → list_all p (words_of sys) ≡ true
  unfolding words_of is_block
  sites-to s =
      whole (pool_words sys ++ block_words sys ++ queue_words sys ++ signal_words sys) (timer_words sys)
      (whole (pool_words sys ++ block_words sys ++ queue_words sys) (signal_words sys)
      (whole (pool_words sys ++ block_words sys) (queue_words sys)
      (whole (pool_words sys) (block_words sys)
      (all-counted (λ n. word.Pool n) p 1 (length sys.pools) (λ q ge lt. s.pools q (pool q ge lt)))
      (all-pieces (words_of_pool sys) p 1 (length sys.pools) (λ q ge lt. all-counted (λ b. word.Block q b) p 0 (blocks_of sys q) (λ b from less. s.blocks q b (and_from _ _ (pool q ge lt) (lt-ltb b (blocks_of sys q) (omega arith)))))))
      (passed-all (λ n. word.Queue n) p (λ a. is_object sys a) 0 256 s.queues))
      (all-counted (λ n. word.Signal n) p 4 (length sys.signals) (λ n ge lt. s.signals n (and_from _ _ (le-leb 4 n ge) (lt-ltb n (length sys.signals + 4) (omega arith))))))
      (all-counted (λ n. word.Timer n) p 1 (length sys.timers) (λ n ge lt. s.timers n (and_from _ _ (lt-ltb 0 n (omega arith)) (le-leb n (length sys.timers) (omega arith)))))
    where
      pool : (q : ℕ) → 1 ≤ q → q < 1 + length sys.pools → is_pool sys q ≡ true
      pool q ge lt = and_from _ _ (lt-ltb 0 q (omega arith)) (le-leb q (length sys.pools) (omega arith))
