-- The entries of a queue by the log: as many came as its posts count, and as many went as its takes.
use Rattle.std.proofs.Common.{◌≡◌, ℕ, zero, suc, ◌+◌, ◌<◌, ◌≤◌, ◌==◌, nat_lt, nat_le, Bool, true, false, ◌&&◌, List, [], ◌∷◌, ◌++◌, length, refl, sym, ◌∙◌, ap, arith, IsTrue}
use Rattle.std.specs.List.{count_by, filter, list_all}
use Rattle.std.proofs.lemmas.Bool.{and_from, and_parts, and_right}
use Rattle.std.proofs.lemmas.Bool.Decides.{nat_tests}
use Rattle.std.proofs.lemmas.List.Sums.{length-filter}
use Rattle.qp_model.specs.declared.record.Rec.{Rec}
use Rattle.qp_model.specs.declared.words.Word.{Word}
use Rattle.qp_model.specs.declared.words.Word.TheVariants as word
use Rattle.qp_model.specs.declared.systems.System.{System}
use Rattle.qp_model.specs.declared.bodies.Body.{Body}
use Rattle.qp_model.specs.declared.bodies.Body.TheVariants.{Took, Post, Lifo}
use Rattle.qp_model.specs.Record.{Item}
use Rattle.qp_model.specs.History.{Touch, Draws, touch, touch_of, same_word, drawn_on, drawn_as, drawn_below, numbered, hist, all_items, total, is_numbered}
use Rattle.qp_model.specs.Machine.{after, after_from, is_allowed, allowed_from}
use Rattle.qp_model.specs.Line.{Line, line, line_may, line_next}
use Rattle.qp_model.specs.OneOrder.{Placed, enters, leaves, items_placed}
use Rattle.qp_model.specs.Sites.{ring_of}
use Rattle.qp_model.specs.WordLaw.{is_object}
use Rattle.qp_model.proofs.HistoryLemmas.{drawn_as-on, filtered-pass}
use Rattle.qp_calls.specs.Counting.{one_if, times}
use Rattle.qp_plain_sound.specs.Log.{log_of}
use Rattle.qp_plain_sound.specs.Sound.{SoundWorld}
use Rattle.qp_plain_sound.specs.WordStates.{line_in}
use Rattle.qp_plain_sound.proofs.LogTotals.{times-log}
use Rattle.qp_plain_sound.proofs.Times.{times-append}

-- A record stands once among those that draw a number of its word.

-- how often a touch stands among the numbers below n, where it counts
among : Word → Touch → Bool → ℕ → ℕ
among w t counts zero = 0
among w t counts (suc n) = among w t counts n + one_if (drawn_as w n t && counts)

not_counted : (w : Word) (t : Touch) (n : ℕ) → among w t false n ≡ 0
unfolding among
not_counted w t zero = refl
not_counted w t (suc n) = omega (arith, not_counted w t n, go (drawn_as w n t))
  where
    go : (u : Bool) → one_if (u && false) ≡ 0
    go true = refl
    go false = refl

none_yet : (w v : Word) (mark n : ℕ) (b : Bool) → n < mark → among w (Draws v mark) b n ≡ 0
unfolding among
none_yet w v mark zero b lt = refl
none_yet w v mark (suc n) b lt =
    let other : (mark == suc n) ≡ false = grind (arith, nat_tests) in
    omega (arith, none_yet w v mark n b (omega (arith, lt)), go (same_word v w) (mark == suc n) other)
  where
    go : (u x : Bool) → x ≡ false → one_if ((u && x) && b) ≡ 0
    go true x h = rw h refl
    go false x h = refl

once : (w v : Word) (mark n : ℕ) (b : Bool) → same_word v w ≡ true → 0 < mark → mark ≤ n → among w (Draws v mark) b n ≡ one_if b
unfolding among
once w v mark zero b on some few = absurd (omega (arith, some, few))
once w v mark (suc n) b on some few = go (mark == suc n) refl (once w v mark n b on some)
  where
    go : (u : Bool) → (mark == suc n) ≡ u → (mark ≤ n → among w (Draws v mark) b n ≡ one_if b)
        → among w (Draws v mark) b n + one_if ((same_word v w && (mark == suc n)) && b) ≡ one_if b
    go true is ih =
        let same : mark ≡ suc n = grind (arith, nat_tests) in
        rw (on, is) (omega (arith, none_yet w v mark n b (omega (arith, same))))
    go false is ih =
        let other : mark ≤ n = grind (arith, nat_tests) in
        rw (on, is) (omega (arith, ih other))

counted_once : (w : Word) (t : Touch) (n : ℕ) (b : Bool) → drawn_on w t ≡ true → drawn_below w n t ≡ true → among w t b n ≡ one_if b
counted_once w (Draws v mark) n b on below =
    let both : (nat_lt 0 mark && nat_le mark n) ≡ true = rw on at below in
    let some : nat_lt 0 mark ≡ true = (and_parts (nat_lt 0 mark) (nat_le mark n) both).0 in
    let few : nat_le mark n ≡ true = (and_parts (nat_lt 0 mark) (nat_le mark n) both).1 in
    let above : 0 < mark = grind (arith, nat_tests) in
    let within : mark ≤ n = grind (arith, nat_tests) in
    once w v mark n b on above within
counted_once w _ n b on below = absurd (cc)

filter_times : (p q : Item → Bool) (i : Item) (is : List Item) → times p (filter q (i ∷ is)) ≡ times p (filter q is) + one_if (q i && p i)
unfolding times
filter_times p q i is = go (q i) refl
  where
    go : (u : Bool) → q i ≡ u → times p (filter q (i ∷ is)) ≡ times p (filter q is) + one_if (u && p i)
    go true h = rw h (omega arith)
    go false h = rw h (omega arith)

numbered-cons : (p : Item → Bool) (w : Word) (i : Item) (is : List Item) (n : ℕ) → times p (numbered w (i ∷ is) n) ≡ times p (numbered w is n) + among w (touch i) (p i) n
unfolding numbered among
numbered-cons p w i is zero = omega arith
numbered-cons p w i is (suc n) =
    let q : Item → Bool = λ j. drawn_as w n (touch j) in
    times-append p (numbered w (i ∷ is) n) (filter q (i ∷ is))
    ∙ omega (arith, numbered-cons p w i is n, filter_times p q i is, times-append p (numbered w is n) (filter q is))

numbered-none : (w : Word) (n : ℕ) → numbered w [] n ≡ []
unfolding numbered
numbered-none w zero = refl
numbered-none w (suc n) = ap (λ x. x ++ []) (numbered-none w n)

-- records that draw a number of the word count alike in its history
numbered-times : (p : Item → Bool) (w : Word) (n : ℕ) (is : List Item) → ((i : Item) → p i ≡ true → drawn_on w (touch i) ≡ true)
    → list_all (λ i. drawn_below w n (touch i)) is ≡ true → times p (numbered w is n) ≡ times p is
unfolding times
numbered-times p w n [] on below = ap (times p) (numbered-none w n)
numbered-times p w n (i ∷ is) on below =
    let parts = and_parts _ _ below in
    numbered-cons p w i is n ∙ go (p i) refl (numbered-times p w n is on parts.1) parts.0
  where
    go : (u : Bool) → p i ≡ u → times p (numbered w is n) ≡ times p is → drawn_below w n (touch i) ≡ true
        → times p (numbered w is n) + among w (touch i) u n ≡ one_if u + times p is
    go true h ih few = omega (arith, ih, counted_once w (touch i) n true (on i h) few)
    go false h ih few = omega (arith, ih, not_counted w (touch i) n)

all-both : (p : Item → Bool) (xs ys : List Item) → list_all p xs ≡ true → list_all p ys ≡ true → list_all p (xs ++ ys) ≡ true
all-both p [] ys h k = k
all-both p (x ∷ xs) ys h k = let parts = and_parts _ _ h in and_from _ _ parts.0 (all-both p xs ys parts.1 k)

numbered-on : (w : Word) (is : List Item) (n : ℕ) → list_all (λ i. drawn_on w (touch i)) (numbered w is n) ≡ true
unfolding numbered
numbered-on w is zero = refl
numbered-on w is (suc n) =
    all-both (λ i. drawn_on w (touch i)) (numbered w is n) (filter (λ i. drawn_as w n (touch i)) is) (numbered-on w is n)
    (filtered-pass (λ i. drawn_on w (touch i)) (λ i. drawn_as w n (touch i)) is (λ i h. drawn_as-on w n (touch i) h))

-- The operations of a queue.

enters_on : (a o : ℕ) (b : Body) → enters a (record { of = o; body = b }) ≡ true → drawn_on (word.Queue a) (touch_of o b) ≡ true
enters_on a o (Post to f l m e) h = h
enters_on a o (Lifo f l m e) h = h
enters_on a o _ h = absurd (cc)

leaves_on : (a o : ℕ) (b : Body) → leaves a (record { of = o; body = b }) ≡ true → drawn_on (word.Queue a) (touch_of o b) ≡ true
leaves_on a o (Took f l m e) h = (and_parts _ _ h).0
leaves_on a o _ h = absurd (let no : false ≡ true = sym (and_right (o == a) false refl) ∙ h in cc)

-- what came and went by these operations
record Moved (a : ℕ) (s t : Line) (is : List Item) : Type 0 where
  came : t.f + t.l ≡ (s.f + s.l) + times (λ i. enters a i) is
  went : t.m ≡ s.m + times (λ i. leaves a i) is

moves : (ring a : ℕ) (s : Line) (is : List Item) → list_all (λ i. drawn_on (word.Queue a) (touch i)) is ≡ true → allowed_from (line ring) s is ≡ true → Moved a s (after_from (line ring) s is) is
unfolding after_from allowed_from times
moves ring a s [] on may = record { came = omega arith; went = omega arith }
moves ring a s (i ∷ is) on may =
    let parts = and_parts _ _ on in
    let right = and_parts _ _ may in
    step i.body parts.0 right.0 (moves ring a (line_next s i.body) is parts.1 right.1)
  where
    step : (b : Body) → drawn_on (word.Queue a) (touch_of i.of b) ≡ true → line_may ring s b ≡ true → Moved a (line_next s b) (after_from (line ring) (line_next s i.body) is) is
        → Moved a s (after_from (line ring) (line_next s i.body) is) (record { of = i.of; body = b } ∷ is)
    step (Post to f l m e) here right rest =
        let no : (i.of == a) && false ≡ false = and_right (i.of == a) false refl in
        record { came = rw here (omega (arith, rest.came)); went = rw no (omega (arith, rest.went)) }
    step (Lifo f l m e) here right rest =
        let no : (i.of == a) && false ≡ false = and_right (i.of == a) false refl in
        record { came = rw here (omega (arith, rest.came)); went = rw no (omega (arith, rest.went)) }
    step (Took f l m e) here right rest = record { came = omega (arith, rest.came); went = rw here (omega (arith, rest.went)) }
    step _ here right rest = absurd (cc)

filtered-times : {X : Type 0} (p : X → Bool) (xs : List X) → length (filter p xs) ≡ times p xs
unfolding times
filtered-times p [] = refl
filtered-times p (x ∷ xs) = go (p x) refl (filtered-times p xs)
  where
    go : (u : Bool) → p x ≡ u → length (filter p xs) ≡ times p xs → length (filter p (x ∷ xs)) ≡ one_if u + times p xs
    go true h ih = rw h (omega (arith, ih))
    go false h ih = rw h (omega (arith, ih))

pub count-times : {X : Type 0} (p : X → Bool) (xs : List X) → count_by p xs ≡ times p xs
count-times p xs = sym (length-filter p xs) ∙ filtered-times p xs

items-times : (p : Item → Bool) (log : List Placed) → times (λ x. p x.item) log ≡ times p (items_placed log)
unfolding times
items-times p [] = refl
items-times p (x ∷ log) = ap (λ n. one_if (p x.item) + n) (items-times p log)

module _ (sys : System) (lanes : List (List Rec)) (order : List ℕ) (world : SoundWorld sys lanes order) (a : ℕ) (object : IsTrue (is_object sys a)) where
  -- a test of the queue's operations counts alike in the log and in the history
  by_log : (p : Item → Bool) → ((i : Item) → p i ≡ true → drawn_on (word.Queue a) (touch i) ≡ true)
      → count_by (λ x. p x.item) (log_of lanes order) ≡ times p (hist (word.Queue a) (all_items lanes))
  unfolding hist is_numbered
  by_log p on =
      let w : Word = word.Queue a in
      let below = (and_parts _ _ (world.sound.words.queues a object).numbers).0 in
      count-times (λ x. p x.item) (log_of lanes order) ∙ items-times p (log_of lanes order) ∙ times-log p lanes order world.orders
      ∙ sym (numbered-times p w (total w (all_items lanes)) (all_items lanes) on below)

  moved : Moved a (record { entries = []; f = 0; l = 0; m = 0 }) (line_in sys lanes a) (hist (word.Queue a) (all_items lanes))
  unfolding line_in after hist is_allowed
  moved =
      moves (ring_of sys a) a (record { entries = []; f = 0; l = 0; m = 0 }) (hist (word.Queue a) (all_items lanes))
      (numbered-on (word.Queue a) (all_items lanes) (total (word.Queue a) (all_items lanes))) (world.sound.words.queues a object).allowed

  pub entered-counts : count_by (λ x. enters a x.item) (log_of lanes order) ≡ (line_in sys lanes a).f + (line_in sys lanes a).l
  entered-counts = by_log (λ i. enters a i) (λ i h. enters_on a i.of i.body h) ∙ omega (arith, moved.came)

  pub left-counts : count_by (λ x. leaves a x.item) (log_of lanes order) ≡ (line_in sys lanes a).m
  left-counts = by_log (λ i. leaves a i) (λ i h. leaves_on a i.of i.body h) ∙ omega (arith, moved.went)
