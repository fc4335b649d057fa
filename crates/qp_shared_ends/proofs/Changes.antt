-- Changes of subscribers by one object, and the numbers that they draw.
use Rattle.std.proofs.Common.{◌≡◌, ◌≢◌, ℕ, zero, suc, ◌<◌, ◌≤◌, ◌==◌, nat_le, Bool, true, false, not, ◌&&◌, ◌||◌, cond, List, [], ◌∷◌, ◌++◌, length, take, refl, sym, ◌∙◌, ap, arith, eqb, eqb-true, length-append}
use Rattle.std.specs.List.{filter, list_all}
use Rattle.std.proofs.lemmas.Bool.{and_from, and_parts}
use Rattle.std.proofs.lemmas.Bool.Decides.{nat_tests}
use Rattle.std.proofs.lemmas.List.{take_all, take-append-le}
use Rattle.std.proofs.lemmas.List.Elements.{filter-append}
use Rattle.std.proofs.lemmas.List.Folds.{list_all-append}
use Rattle.qp_chart.specs.StateTree.{has}
use Rattle.qp_model.specs.declared.words.Word.{Word}
use Rattle.qp_model.specs.declared.words.Word.TheVariants as word
use Rattle.qp_model.specs.declared.bodies.Body.{Body}
use Rattle.qp_model.specs.declared.bodies.Body.TheVariants.{Sub, Unsub}
use Rattle.qp_model.specs.Record.{Item}
use Rattle.qp_model.specs.Lists.{without_all}
use Rattle.qp_model.specs.History.{Touch, Draws, Shows, Neither, touch, touch_of, drawn_on, drawn_as, numbered, total, is_numbered, hist}
use Rattle.qp_model.specs.Machine.{after_from}
use Rattle.qp_model.specs.Subscribers.{Subscribers, subscribers, subscribers_next}
use Rattle.qp_model.proofs.ListLemmas.{all_below_at}
use Rattle.qp_model.proofs.HistoryLemmas.{drawn_as-on, filtered-pass, same_word-refl}
use Rattle.qp_table.proofs.Bounds.{has-without}
use Rattle.qp_side.specs.Rule.{member_by_body, member_by}
use Rattle.qp_shared_lane.specs.Holds.{member_over}

-- the record changes whether object o subscribes to signal s
abbrev pub changes : ℕ → ℕ → ℕ → Body → Bool
changes o s of (Sub sig n) = eqb sig s && eqb of o
changes o s of (Unsub sig n) = eqb sig s && eqb of o
changes o s of _ = false

abbrev pub is_change : ℕ → ℕ → Item → Bool
is_change o s i = changes o s i.of i.body

pub change-draws : (o s of : ℕ) (b : Body) → changes o s of b ≡ true → (n : ℕ) × (touch_of of b ≡ Draws (word.Signal s) (suc n))
change-draws o s of (Sub sig n) h = (n, ap (λ z. Draws (word.Signal z) (suc n)) (eqb-true sig s (and_parts (eqb sig s) (eqb of o) h).0))
change-draws o s of (Unsub sig n) h = (n, ap (λ z. Draws (word.Signal z) (suc n)) (eqb-true sig s (and_parts (eqb sig s) (eqb of o) h).0))
change-draws o s of _ h = absurd (cc)

-- Records that draw numbers of a word, each with a mark of at least m
abbrev pub AtLeast : Word → ℕ → List Item → Type 0
AtLeast w m [] = Unit {0}
AtLeast w m (i ∷ is) = (n : ℕ) × (touch i ≡ Draws w n) × (m ≤ n) × AtLeast w m is

-- in the order of their marks, which are 1 to top
abbrev pub InOrder : Word → ℕ → List Item → Type 0
InOrder w top [] = Unit {0}
InOrder w top (i ∷ is) = (n : ℕ) × (touch i ≡ Draws w n) × (0 < n) × (n ≤ top) × AtLeast w n is × InOrder w top is

drawn-at : (w : Word) (i : Item) (m n : ℕ) → touch i ≡ Draws w m → m ≡ suc n → drawn_as w n (touch i) ≡ true
drawn-at w i m n h e = let test : (m == suc n) ≡ true = grind (arith, nat_tests, e) in let same = same_word-refl w in rw (h, same) test

drawn-not : (w : Word) (i : Item) (m n : ℕ) → touch i ≡ Draws w m → m ≢ suc n → drawn_as w n (touch i) ≡ false
drawn-not w i m n h e = let test : (m == suc n) ≡ false = grind (arith, nat_tests, e) in let same = same_word-refl w in rw (h, same) test

filter-below : (w : Word) (m n : ℕ) (is : List Item) → AtLeast w m is → suc n < m → filter (λ i. drawn_as w n (touch i)) is ≡ []
filter-below w m n [] h below = refl
filter-below w m n (i ∷ is) h below =
    let k = h.0 in let least = h.2 in let other : k ≢ suc n = λ e. absurd (omega arith) in
    rw (drawn-not w i k n h.1 other) (filter-below w m n is h.3 below)

numbered-below : (w : Word) (m n : ℕ) (is : List Item) → AtLeast w m is → n < m → numbered w is n ≡ []
unfolding numbered
numbered-below w m zero is h below = refl
numbered-below w m (suc n) is h below =
    let less : n < m = omega arith in
    rw (numbered-below w m n is h less, filter-below w m n is h below) refl

-- records with greater marks behind are no matter
pub numbered-front : (w : Word) (m n : ℕ) (xs ys : List Item) → AtLeast w m ys → n < m → numbered w (xs ++ ys) n ≡ numbered w xs n
unfolding numbered
numbered-front w m zero xs ys h below = refl
numbered-front w m (suc n) xs ys h below =
    let less : n < m = omega arith in
    let last : filter (λ i. drawn_as w n (touch i)) (xs ++ ys) ≡ filter (λ i. drawn_as w n (touch i)) xs = filter-append (λ i. drawn_as w n (touch i)) xs ys ∙ (ap (λ l. filter (λ i. drawn_as w n (touch i)) xs ++ l) (filter-below w m n ys h below) ∙ nil (filter (λ i. drawn_as w n (touch i)) xs)) in
    (λ i. numbered-front w m n xs ys h less i ++ last i)
  where
    nil : (l : List Item) → l ++ [] ≡ l
    nil [] = refl
    nil (x ∷ l) = ap (λ k. x ∷ k) (nil l)

-- a record whose mark is not above the others' comes first
numbered-cons : (w : Word) (m n : ℕ) (i : Item) (is : List Item) → touch i ≡ Draws w m → 0 < m → AtLeast w m is → m ≤ n → numbered w (i ∷ is) n ≡ i ∷ numbered w is n
unfolding numbered
numbered-cons w m zero i is h some least within = absurd (omega arith)
numbered-cons w m (suc n) i is h some least within = go (nat_le m n) refl (λ le. numbered-cons w m n i is h some least le)
  where
    go : (b : Bool) → nat_le m n ≡ b → (m ≤ n → numbered w (i ∷ is) n ≡ i ∷ numbered w is n) → numbered w (i ∷ is) (suc n) ≡ i ∷ numbered w is (suc n)
    go true e before =
        let le : m ≤ n = grind (arith, nat_tests, e) in
        let other : m ≢ suc n = λ is. absurd (omega arith) in
        rw (before le, drawn-not w i m n h other) refl
    go false e before =
        let last : m ≡ suc n = grind (arith, nat_tests, e, within) in
        let less : n < m = omega arith in
        rw (numbered-below w m n (i ∷ is) (m, h, omega arith, least) less, numbered-below w m n is least less, drawn-at w i m n h last) refl

-- records in the order of their marks are their own history
pub numbered-order : (w : Word) (n : ℕ) (is : List Item) → InOrder w n is → numbered w is n ≡ is
unfolding numbered
numbered-order w n [] h = numbered-none w n
  where
    numbered-none : (w : Word) (n : ℕ) → numbered w [] n ≡ []
    numbered-none w zero = refl
    numbered-none w (suc n) = rw (numbered-none w n) refl
numbered-order w n (i ∷ is) h = numbered-cons w h.0 n i is h.1 h.2 h.4 h.3 ∙ ap (λ xs. i ∷ xs) (numbered-order w n is h.5)

-- tests may change places
filter-swap : {X : Type 0} (p q : X → Bool) (xs : List X) → filter p (filter q xs) ≡ filter q (filter p xs)
filter-swap p q [] = refl
filter-swap {X} p q (x ∷ xs) = go (p x) refl (q x) refl (filter-swap p q xs)
  where
    go : (a : Bool) → p x ≡ a → (b : Bool) → q x ≡ b → filter p (filter q xs) ≡ filter q (filter p xs) → filter p (cond b (x ∷ filter q xs) (filter q xs)) ≡ filter q (cond a (x ∷ filter p xs) (filter p xs))
    go true e true f h = (λ i. cond (e i) (x ∷ filter p (filter q xs)) (filter p (filter q xs))) ∙ (ap (λ l. x ∷ l) h ∙ sym (λ i. cond (f i) (x ∷ filter q (filter p xs)) (filter q (filter p xs))))
    go true e false f h = h ∙ sym (λ i. cond (f i) (x ∷ filter q (filter p xs)) (filter q (filter p xs)))
    go false e true f h = (λ i. cond (e i) (x ∷ filter p (filter q xs)) (filter p (filter q xs))) ∙ h
    go false e false f h = h

pub numbered-filter : (w : Word) (p : Item → Bool) (items : List Item) (n : ℕ) → filter p (numbered w items n) ≡ numbered w (filter p items) n
unfolding numbered
numbered-filter w p items zero = refl
numbered-filter w p items (suc n) = filter-append p (numbered w items n) (filter (λ i. drawn_as w n (touch i)) items) ∙ (λ i. numbered-filter w p items n i ++ filter-swap p (λ i. drawn_as w n (touch i)) items i)

-- the first n of a history
long : (w : Word) (items : List Item) (n : ℕ) → ((k : ℕ) → k < n → (length (filter (λ j. drawn_as w k (touch j)) items) == 1) ≡ true) → length (numbered w items n) ≡ n
unfolding numbered
long w items zero h = refl
long w items (suc n) h =
    let before : length (numbered w items n) ≡ n = long w items n (λ k lt. h k (omega arith)) in
    let one : length (filter (λ j. drawn_as w n (touch j)) items) ≡ 1 = eqb-true (length (filter (λ j. drawn_as w n (touch j)) items)) 1 (h n (omega arith)) in
    omega (arith, length-append (numbered w items n) (filter (λ j. drawn_as w n (touch j)) items))

take-numbered : (w : Word) (items : List Item) (m n : ℕ) → ((k : ℕ) → k < m → (length (filter (λ j. drawn_as w k (touch j)) items) == 1) ≡ true) → n ≤ m → take n (numbered w items m) ≡ numbered w items n
unfolding numbered
take-numbered w items zero zero h le = refl
take-numbered w items zero (suc n) h le = absurd (omega arith)
take-numbered w items (suc m) n h le = go (nat_le n m) refl (λ l. take-numbered w items m n (λ k lt. h k (omega arith)) l)
  where
    go : (b : Bool) → nat_le n m ≡ b → (n ≤ m → take n (numbered w items m) ≡ numbered w items n) → take n (numbered w items m ++ filter (λ j. drawn_as w m (touch j)) items) ≡ numbered w items n
    go true e r = let l : n ≤ m = grind (arith, nat_tests, e) in let all = long w items m (λ k lt. h k (omega arith)) in take-append-le n (numbered w items m) (filter (λ j. drawn_as w m (touch j)) items) (omega arith) ∙ r l
    go false e r = let is : n ≡ suc m = grind (arith, nat_tests, e, le) in let all = long w items (suc m) h in
        take_all n (numbered w items m ++ filter (λ j. drawn_as w m (touch j)) items) (omega arith) ∙ ap (numbered w items) (sym is)

pub take-hist : (w : Word) (items : List Item) (n : ℕ) → is_numbered w items ≡ true → n ≤ length (hist w items) → take n (hist w items) ≡ numbered w items n
unfolding hist is_numbered
take-hist w items n h le =
    let each = all_below_at (total w items) (λ k. length (filter (λ i. drawn_as w k (touch i)) items) == 1) (and_parts _ _ h).1 in
    take-numbered w items (total w items) n each (let l = long w items (total w items) each in omega arith)

-- what draws on a signal's word is a change of its subscribers
drawn-is : (s : ℕ) (u : Touch) → drawn_on (word.Signal s) u ≡ true → (n : ℕ) × (u ≡ Draws (word.Signal s) n)
drawn-is s (Draws (word.Signal t) n) h = (n, ap (λ z. Draws (word.Signal z) n) (eqb-true t s h))
drawn-is s (Draws (word.Timer t) n) h = absurd (cc)
drawn-is s (Draws (word.Pool p) n) h = absurd (cc)
drawn-is s (Draws (word.Block p b) n) h = absurd (cc)
drawn-is s (Draws (word.Queue a) n) h = absurd (cc)
drawn-is s (Shows v n) h = absurd (cc)
drawn-is s Neither h = absurd (cc)

and-not : (a b : Bool) → b ≡ false → (a && not b) ≡ a
and-not true false e = refl
and-not false false e = refl
and-not a true e = absurd (cc)

and-off : (a : Bool) → (a && not true) ≡ false
and-off true = refl
and-off false = refl

member-next : (o sig of n : ℕ) (s : Subscribers) (b : Body) → touch_of of b ≡ Draws (word.Signal sig) n → has (subscribers_next s of b).members o ≡ member_by_body o sig of b (has s.members o)
member-next o sig of n s (Sub t k) h = go (eqb of o) refl
  where
    here : eqb t sig ≡ true
    here = same t (suc k) h
      where
        same : (t k : ℕ) → Draws (word.Signal t) k ≡ Draws (word.Signal sig) n → eqb t sig ≡ true
        same t k e = let is : t ≡ sig = cc in grind (arith, nat_tests, is)

    go : (c : Bool) → eqb of o ≡ c → (c || has (without_all of s.members) o) ≡ cond (eqb t sig && c) true (has s.members o)
    go true e = sym (λ i. cond (here i && true) true (has s.members o))
    go false e = has-without of o s.members ∙ (and-not (has s.members o) (eqb of o) e ∙ sym (λ i. cond (here i && false) true (has s.members o)))
member-next o sig of n s (Unsub t k) h = go (eqb of o) refl
  where
    here : eqb t sig ≡ true
    here = same t (suc k) h
      where
        same : (t k : ℕ) → Draws (word.Signal t) k ≡ Draws (word.Signal sig) n → eqb t sig ≡ true
        same t k e = let is : t ≡ sig = cc in grind (arith, nat_tests, is)

    go : (c : Bool) → eqb of o ≡ c → has (without_all of s.members) o ≡ cond (eqb t sig && c) false (has s.members o)
    go true e = has-without of o s.members ∙ (ap (λ z. has s.members o && not z) e ∙ (and-off (has s.members o) ∙ sym (λ i. cond (here i && true) false (has s.members o))))
    go false e = has-without of o s.members ∙ (and-not (has s.members o) (eqb of o) e ∙ sym (λ i. cond (here i && false) false (has s.members o)))
member-next o sig of n s _ h = refl

pub member-after : (o sig : ℕ) (s : Subscribers) (xs : List Item) → list_all (λ i. drawn_on (word.Signal sig) (touch i)) xs ≡ true → has (after_from subscribers s xs).members o ≡ member_over o sig (has s.members o) xs
unfolding after_from member_over
member-after o sig s [] h = refl
member-after o sig s (i ∷ xs) h =
    let p = and_parts (drawn_on (word.Signal sig) (touch i)) (list_all (λ i. drawn_on (word.Signal sig) (touch i)) xs) h in
    let d = drawn-is sig (touch i) p.0 in
    member-after o sig (subscribers_next s i.of i.body) xs p.1 ∙ ap (λ b. member_over o sig b xs) (member-next o sig i.of d.0 s i.body d.1)

pub numbered-drawn : (w : Word) (items : List Item) (n : ℕ) → list_all (λ i. drawn_on w (touch i)) (numbered w items n) ≡ true
unfolding numbered
numbered-drawn w items zero = refl
numbered-drawn w items (suc n) = list_all-append (λ i. drawn_on w (touch i)) (numbered w items n) (filter (λ i. drawn_as w n (touch i)) items)
    ∙ and_from _ _ (numbered-drawn w items n) (filtered-pass (λ i. drawn_on w (touch i)) (λ i. drawn_as w n (touch i)) items (λ i h. drawn_as-on w n (touch i) h))

-- other records are no matter
unchanged : (o s of : ℕ) (b : Body) (m : Bool) → changes o s of b ≡ false → member_by_body o s of b m ≡ m
unchanged o s of (Sub sig n) m h = λ i. cond (h i) true m
unchanged o s of (Unsub sig n) m h = λ i. cond (h i) false m
unchanged o s of _ m h = refl

pub member-changes : (o s : ℕ) (m : Bool) (xs : List Item) → member_over o s m (filter (is_change o s) xs) ≡ member_over o s m xs
unfolding member_over
member-changes o s m [] = refl
member-changes o s m (i ∷ xs) = go (is_change o s i) refl (λ b. member-changes o s b xs)
  where
    go : (t : Bool) → is_change o s i ≡ t → ((b : Bool) → member_over o s b (filter (is_change o s) xs) ≡ member_over o s b xs)
        → member_over o s m (cond t (i ∷ filter (is_change o s) xs) (filter (is_change o s) xs)) ≡ member_over o s (member_by o s i m) xs
    go true e r = r (member_by o s i m)
    go false e r = r m ∙ ap (λ b. member_over o s b xs) (sym (unchanged o s i.of i.body m e))
