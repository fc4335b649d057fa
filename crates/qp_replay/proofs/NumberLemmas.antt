-- Records in an order that keeps what must stand before what have the numbers of their word's operations, where the word's numbers are
-- drawn once each and nothing beyond them is shown.
use Rattle.std.proofs.Common.{◌≡◌, ◌∙◌, ℕ, zero, suc, ◌+◌, ◌≤◌, ◌<◌, ◌==◌, nat_lt, nat_le, Bool, true, false, not, ◌&&◌, ◌||◌, cond, List, [], ◌∷◌, ◌++◌, length, ⊎_elim, refl, sym, ap, subst, arith, append_assoc, length-append}
use Rattle.std.specs.List.{filter, list_all}
use Rattle.std.proofs.lemmas.Bool.{and_from, and_parts, cases_eq, cases_lt, le-leb, lt-ltb}
use Rattle.std.proofs.lemmas.Bool.Decides.{nat_tests}
use Rattle.std.proofs.lemmas.List.Elements.{filter-append}
use Rattle.qp_model.specs.declared.words.Word.{Word}
use Rattle.qp_model.specs.Record.{Item}
use Rattle.qp_model.specs.History.{Touch, Draws, Shows, Neither, touch, drawn_as, drawn_on, same_word, total}
use Rattle.qp_model.specs.Places.{is_next, touch_first}
use Rattle.qp_model.proofs.ListLemmas.{filter-none, all-push}
use Rattle.qp_model.proofs.KnowingLemmas.{same_word-is}
use Rattle.qp_model.proofs.HistoryLemmas.{same_word-refl, total-snoc}
use Rattle.qp_replay.specs.Numbers.{is_next_where, numbers_stand}

-- where it draws a number of w, its mark is at most c, or above it; where it draws or shows one, it is from 1 on, or from 0 on, to n
abbrev pub draws_to : Word → ℕ → Touch → Bool
draws_to w c (Draws v m) = not (same_word v w) || nat_le m c
draws_to w c _ = true

abbrev pub draws_above : Word → ℕ → Touch → Bool
draws_above w c (Draws v m) = not (same_word v w) || nat_lt c m
draws_above w c _ = true

abbrev pub marks_to : Word → ℕ → Touch → Bool
marks_to w n (Draws v m) = not (same_word v w) || nat_le m n
marks_to w n (Shows v m) = not (same_word v w) || nat_le m n
marks_to w n Neither = true

-- none of these must stand before the touch
abbrev pub none_first : Touch → List Item → Bool
none_first t is = list_all (λ k. not (touch_first (touch k) t)) is

abbrev pub is_sorted : List Item → Bool
is_sorted [] = true
is_sorted (i ∷ is) = none_first (touch i) is && is_sorted is

-- none of the later ones must stand before one of the former
abbrev pub all_behind : List Item → List Item → Bool
all_behind former later = list_all (λ k. list_all (λ a. not (touch_first (touch k) (touch a))) former) later

unfoldable pub drawn : Word → ℕ → List Item → ℕ
drawn w n is = length (filter (λ i. drawn_as w n (touch i)) is)

-- touches by their words
to-not : (w : Word) (c n : ℕ) (t : Touch) → c ≤ n → draws_to w c t ≡ true → drawn_as w n t ≡ false
to-not w c n (Draws v m) le h = go (same_word v w) h
  where
    go : (s : Bool) → (not s || nat_le m c) ≡ true → (s && (m == suc n)) ≡ false
    go false h = refl
    go true h = grind (arith, nat_tests, h, le)
to-not w c n (Shows v m) le h = refl
to-not w c n Neither le h = refl

above-not : (w : Word) (c n : ℕ) (t : Touch) → n < c → draws_above w c t ≡ true → drawn_as w n t ≡ false
above-not w c n (Draws v m) less h = go (same_word v w) h
  where
    go : (s : Bool) → (not s || nat_lt c m) ≡ true → (s && (m == suc n)) ≡ false
    go false h = refl
    go true h = grind (arith, nat_tests, h, less)
above-not w c n (Shows v m) less h = refl
above-not w c n Neither less h = refl

-- what must not stand before a touch of w draws none of the numbers that must
first-not : (w : Word) (n : ℕ) (t u : Touch) → ((v : Word) → same_word v w ≡ true → touch_first (Draws v (suc n)) t ≡ true) → not (touch_first u t) ≡ true → drawn_as w n u ≡ false
first-not w n t (Draws v m) must h = go (same_word v w) refl (m == suc n) refl
  where
    go : (s : Bool) → same_word v w ≡ s → (b : Bool) → (m == suc n) ≡ b → (s && b) ≡ false
    go false e b f = refl
    go true e false f = refl
    go true e true f =
        let is : m ≡ suc n = grind (arith, nat_tests) in
        let yes : touch_first (Draws v m) t ≡ true = ap (λ k. touch_first (Draws v k) t) is ∙ must v e in
        let no : not true ≡ true = ap not (sym yes) ∙ h in absurd (cc no)
first-not w n t (Shows v m) must h = refl
first-not w n t Neither must h = refl

-- the other way round: what the touch must not stand before
behind-not : (w : Word) (n : ℕ) (t u : Touch) → ((v : Word) → same_word v w ≡ true → touch_first t (Draws v (suc n)) ≡ true) → not (touch_first t u) ≡ true → drawn_as w n u ≡ false
behind-not w n t (Draws v m) must h = go (same_word v w) refl (m == suc n) refl
  where
    go : (s : Bool) → same_word v w ≡ s → (b : Bool) → (m == suc n) ≡ b → (s && b) ≡ false
    go false e b f = refl
    go true e false f = refl
    go true e true f =
        let is : m ≡ suc n = grind (arith, nat_tests) in
        let yes : touch_first t (Draws v m) ≡ true = ap (λ k. touch_first t (Draws v k)) is ∙ must v e in
        let no : not true ≡ true = ap not (sym yes) ∙ h in absurd (cc no)
behind-not w n t (Shows v m) must h = refl
behind-not w n t Neither must h = refl

none-drawn : (w : Word) (n : ℕ) (q : Item → Bool) (is : List Item) → ((i : Item) → q i ≡ true → drawn_as w n (touch i) ≡ false) → list_all q is ≡ true → drawn w n is ≡ 0
unfolding drawn
none-drawn w n q is each all = ap length (filter-none (λ i. drawn_as w n (touch i)) q is each all)

drawn-split : (w : Word) (n : ℕ) (A : List Item) (i : Item) (B : List Item) → drawn w n (A ++ i ∷ B) ≡ drawn w n A + (cond (drawn_as w n (touch i)) 1 0 + drawn w n B)
unfolding drawn
drawn-split w n A i B =
    let p : Item → Bool = λ i. drawn_as w n (touch i) in
    ap length (filter-append p A (i ∷ B)) ∙ length-append (filter p A) (filter p (i ∷ B)) ∙ ap (λ k. length (filter p A) + k) (go (drawn_as w n (touch i)) (filter p B))
  where
    go : (b : Bool) (xs : List Item) → length (cond b (i ∷ xs) xs) ≡ cond b 1 0 + length xs
    go true xs = omega arith
    go false xs = omega arith

-- What is kept while an order is walked: the records so far and those to come.
pub record Inv (w : Word) (all : ℕ) (A B : List Item) : Type 0 where
  pub once : (n : ℕ) → n < all → drawn w n (A ++ B) ≡ 1
  pub within : list_all (λ i. marks_to w all (touch i)) B ≡ true
  pub low : list_all (λ i. draws_to w (total w A) (touch i)) A ≡ true
  pub high : list_all (λ i. draws_above w (total w A) (touch i)) B ≡ true
  pub part : total w A ≤ all

pub record Sorted (A B : List Item) : Type 0 where
  pub behind : all_behind A B ≡ true
  pub sorted : is_sorted B ≡ true

-- the next record on the word has its number
next-draw : (w : Word) (all : ℕ) (A : List Item) (i : Item) (B : List Item) (m : ℕ) → Inv w all A (i ∷ B) → Sorted A (i ∷ B) → touch i ≡ Draws w m → m ≡ suc (total w A)
next-draw w all A i B m inv order is = ⊎_elim (λ e. e) (λ ne. absurd (wrong ne)) (cases_eq m (suc (total w A)))
  where
    wrong : (m ≡ suc (total w A) → ⊥) → ⊥
    wrong ne =
        let c = total w A in
        let here = same_word-refl w in
        let above : draws_above w c (touch i) ≡ true = (and_parts _ _ inv.high).0 in
        let to : marks_to w all (touch i) ≡ true = (and_parts _ _ inv.within).0 in
        let up : nat_lt c m ≡ true = rw (is, here) at above in
        let down : nat_le m all ≡ true = rw (is, here) at to in
        let less : suc c < m = grind (arith, nat_tests, up, ne) in
        let some : c < all = grind (arith, nat_tests, less, down) in
        let former : drawn w c A ≡ 0 = none-drawn w c (λ k. draws_to w c (touch k)) A (λ k h. to-not w c c (touch k) (omega arith) h) inv.low in
        let later : drawn w c B ≡ 0 = none-drawn w c (λ k. not (touch_first (touch k) (touch i))) B (λ k h. first-not w c (touch i) (touch k) (λ v e. rw is (and_from _ _ e (lt-ltb (suc c) m less))) h) (and_parts _ _ order.sorted).0 in
        let mine : drawn_as w c (touch i) ≡ false = rw is (apart (same_word w w) ne) in
        let one = sym (drawn-split w c A i B) ∙ inv.once c some in
        let none : cond {A = ℕ} (drawn_as w c (touch i)) 1 0 ≡ 0 = rw mine refl in
        omega (arith, one, former, later, none)
      where
        apart : (s : Bool) → (m ≡ suc (total w A) → ⊥) → (s && (m == suc (total w A))) ≡ false
        apart false ne = refl
        apart true ne = grind (arith, nat_tests, ne)

same-sym : (v w : Word) → same_word v w ≡ true → same_word w v ≡ true
same-sym v w e = subst (λ x. same_word x v ≡ true) (same_word-is v w e) (same_word-refl v)

-- the next record that shows the word shows its number
next-show : (w : Word) (all : ℕ) (A : List Item) (i : Item) (B : List Item) (m : ℕ) → Inv w all A (i ∷ B) → Sorted A (i ∷ B) → touch i ≡ Shows w m → m ≡ total w A
next-show w all A i B m inv order is = ⊎_elim (λ e. e) (λ ne. ⊎_elim (λ less. absurd (too-low less)) (λ le. absurd (too-high (omega (arith, le, ne)))) (cases_lt m (total w A))) (cases_eq m (total w A))
  where
    mine : (n : ℕ) → cond {A = ℕ} (drawn_as w n (touch i)) 1 0 ≡ 0
    mine n = rw is refl

    too-low : m < total w A → ⊥
    too-low less = go (total w A) refl less
      where
        go : (c : ℕ) → total w A ≡ c → m < c → ⊥
        go zero e less = omega (arith, less)
        go (suc n) e less =
            let some : n < all = omega (arith, e, inv.part) in
            let former : drawn w n A ≡ 0 = none-drawn w n (λ a. not (touch_first (touch i) (touch a))) A (λ a h. behind-not w n (touch i) (touch a) (λ v same. rw is (and_from _ _ (same-sym v w same) (lt-ltb m (suc n) less))) h) (and_parts _ _ order.behind).0 in
            let later : drawn w n B ≡ 0 = none-drawn w n (λ k. draws_above w (total w A) (touch k)) B (λ k h. above-not w (total w A) n (touch k) (omega (arith, e)) h) (and_parts _ _ inv.high).1 in
            let one = sym (drawn-split w n A i B) ∙ inv.once n some in
            let none = mine n in
            omega (arith, one, former, later, none)

    too-high : total w A < m → ⊥
    too-high less =
        let c = total w A in
        let here = same_word-refl w in
        let to : marks_to w all (touch i) ≡ true = (and_parts _ _ inv.within).0 in
        let down : nat_le m all ≡ true = rw (is, here) at to in
        let some : c < all = grind (arith, nat_tests, less, down) in
        let former : drawn w c A ≡ 0 = none-drawn w c (λ k. draws_to w c (touch k)) A (λ k h. to-not w c c (touch k) (omega arith) h) inv.low in
        let later : drawn w c B ≡ 0 = none-drawn w c (λ k. not (touch_first (touch k) (touch i))) B (λ k h. first-not w c (touch i) (touch k) (λ v e. rw is (and_from _ _ e (le-leb (suc c) m less))) h) (and_parts _ _ order.sorted).0 in
        let one = sym (drawn-split w c A i B) ∙ inv.once c some in
        let none = mine c in
        omega (arith, one, former, later, none)

list_all-map : {X : Type 0} (p q : X → Bool) (xs : List X) → ((x : X) → p x ≡ true → q x ≡ true) → list_all p xs ≡ true → list_all q xs ≡ true
list_all-map p q [] each all = refl
list_all-map p q (x ∷ xs) each all = let parts = and_parts (p x) (list_all p xs) all in and_from _ _ (each x parts.0) (list_all-map p q xs each parts.1)

pub list_all-two : {X : Type 0} (p q r : X → Bool) (xs : List X) → ((x : X) → p x ≡ true → q x ≡ true → r x ≡ true) → list_all p xs ≡ true → list_all q xs ≡ true → list_all r xs ≡ true
list_all-two p q r [] each all also = refl
list_all-two p q r (x ∷ xs) each all also =
    let one = and_parts (p x) (list_all p xs) all in
    let two = and_parts (q x) (list_all q xs) also in
    and_from _ _ (each x one.0 two.0) (list_all-two p q r xs each one.1 two.1)

pub sorted-more : (A : List Item) (i : Item) (B : List Item) → Sorted A (i ∷ B) → Sorted (A ++ i ∷ []) B
sorted-more A i B order = record {
  behind = list_all-two (λ k. list_all (λ a. not (touch_first (touch k) (touch a))) A) (λ k. not (touch_first (touch k) (touch i))) (λ k. list_all (λ a. not (touch_first (touch k) (touch a))) (A ++ i ∷ [])) B
      (λ k p q. all-push (λ a. not (touch_first (touch k) (touch a))) A i p q) (and_parts _ _ order.behind).1 (and_parts _ _ order.sorted).0;
  sorted = (and_parts _ _ order.sorted).1;
}

to-more : (w : Word) (c d : ℕ) (t : Touch) → c ≤ d → draws_to w c t ≡ true → draws_to w d t ≡ true
to-more w c d (Draws v m) le h = go (same_word v w) h
  where
    go : (s : Bool) → (not s || nat_le m c) ≡ true → (not s || nat_le m d) ≡ true
    go false h = refl
    go true h = grind (arith, nat_tests, h, le)
to-more w c d (Shows v m) le h = refl
to-more w c d Neither le h = refl

raised : (w : Word) (c : ℕ) (B : List Item) → list_all (λ k. draws_above w c (touch k)) B ≡ true → drawn w c B ≡ 0 → list_all (λ k. draws_above w (suc c) (touch k)) B ≡ true
unfolding drawn
raised w c [] all none = refl
raised w c (k ∷ ks) all none =
    let parts = and_parts (draws_above w c (touch k)) _ all in
    let remaining = split (drawn_as w c (touch k)) refl none in
    and_from _ _ (one (touch k) parts.0 remaining.0) (raised w c ks parts.1 remaining.1)
  where
    split : (b : Bool) → drawn_as w c (touch k) ≡ b → length (cond b (k ∷ filter (λ i. drawn_as w c (touch i)) ks) (filter (λ i. drawn_as w c (touch i)) ks)) ≡ 0 → (drawn_as w c (touch k) ≡ false) × (length (filter (λ i. drawn_as w c (touch i)) ks) ≡ 0)
    split true e h = absurd (omega (arith, h))
    split false e h = (e, h)

    one : (t : Touch) → draws_above w c t ≡ true → drawn_as w c t ≡ false → draws_above w (suc c) t ≡ true
    one (Draws v m) above not-it = go (same_word v w) above not-it
      where
        go : (s : Bool) → (not s || nat_lt c m) ≡ true → (s && (m == suc c)) ≡ false → (not s || nat_lt (suc c) m) ≡ true
        go false h f = refl
        go true h f = grind (arith, nat_tests, h, f)
    one (Shows v m) above not-it = refl
    one Neither above not-it = refl

inv-draw : (w : Word) (all : ℕ) (A : List Item) (i : Item) (B : List Item) (m : ℕ) → Inv w all A (i ∷ B) → Sorted A (i ∷ B) → touch i ≡ Draws w m → Inv w all (A ++ i ∷ []) B
inv-draw w all A i B m inv order is =
    let c = total w A in
    let here = same_word-refl w in
    let next : m ≡ suc c = next-draw w all A i B m inv order is in
    let on : drawn_on w (touch i) ≡ true = rw is here in
    let more : total w (A ++ i ∷ []) ≡ suc c = total-snoc w A i ∙ ap (λ b. c + cond b 1 0) on ∙ plus c in
    let to : marks_to w all (touch i) ≡ true = (and_parts _ _ inv.within).0 in
    let down : nat_le m all ≡ true = rw (is, here) at to in
    let some : c < all = grind (arith, nat_tests, next, down) in
    let former : drawn w c A ≡ 0 = none-drawn w c (λ k. draws_to w c (touch k)) A (λ k h. to-not w c c (touch k) (omega arith) h) inv.low in
    let it-is : drawn_as w c (touch i) ≡ true = rw is (and_from _ _ here (same m (suc c) next)) in
    let mine : cond {A = ℕ} (drawn_as w c (touch i)) 1 0 ≡ 1 = rw it-is refl in
    let one = sym (drawn-split w c A i B) ∙ inv.once c some in
    let later : drawn w c B ≡ 0 = omega (arith, one, former, mine) in
    let last : draws_to w (suc c) (touch i) ≡ true = rw (is, here) (le-leb m (suc c) (omega (arith, next))) in
    record {
      once = λ n less. ap (drawn w n) (append_assoc A (i ∷ []) B) ∙ inv.once n less;
      within = (and_parts _ _ inv.within).1;
      low = rw more (all-push (λ k. draws_to w (suc c) (touch k)) A i (list_all-map (λ k. draws_to w c (touch k)) (λ k. draws_to w (suc c) (touch k)) A (λ k h. to-more w c (suc c) (touch k) (omega arith) h) inv.low) last);
      high = rw more (raised w c B (and_parts _ _ inv.high).1 later);
      part = omega (arith, more, some);
    }
  where
    plus : (c : ℕ) → c + 1 ≡ suc c
    plus c = omega arith

    same : (a b : ℕ) → a ≡ b → (a == b) ≡ true
    same a b e = grind (arith, nat_tests, e)

inv-other : (w : Word) (all : ℕ) (A : List Item) (i : Item) (B : List Item) → Inv w all A (i ∷ B) → drawn_on w (touch i) ≡ false → Inv w all (A ++ i ∷ []) B
inv-other w all A i B inv off =
    let c = total w A in
    let more : total w (A ++ i ∷ []) ≡ c = total-snoc w A i ∙ ap (λ b. c + cond b 1 0) off ∙ plus c in
    record {
      once = λ n less. ap (drawn w n) (append_assoc A (i ∷ []) B) ∙ inv.once n less;
      within = (and_parts _ _ inv.within).1;
      low = rw more (all-push (λ k. draws_to w c (touch k)) A i inv.low (free (touch i) off));
      high = rw more (and_parts _ _ inv.high).1;
      part = omega (arith, more, inv.part);
    }
  where
    plus : (c : ℕ) → c + 0 ≡ c
    plus c = omega arith

    free : (t : Touch) → drawn_on w t ≡ false → draws_to w (total w A) t ≡ true
    free (Draws v m) h = rw h refl
    free (Shows v m) h = refl
    free Neither h = refl

-- all records have their numbers
pub all-numbered : (test : Word → Bool) (all : Word → ℕ) (A B : List Item) → ((w : Word) → test w ≡ true → Inv w (all w) A B) → Sorted A B → numbers_stand test A B ≡ true
unfolding numbers_stand is_next
all-numbered test all A [] inv order = refl
all-numbered test all A (i ∷ B) inv order = and_from _ _ (here (touch i) refl) (all-numbered test all (A ++ i ∷ []) B (λ w known. there w known (touch i) refl) (sorted-more A i B order))
  where
    same : (a b : ℕ) → a ≡ b → (a == b) ≡ true
    same a b e = grind (arith, nat_tests, e)

    here : (t : Touch) → touch i ≡ t → is_next_where test A t ≡ true
    here (Draws v m) is = go (test v) refl
      where
        go : (b : Bool) → test v ≡ b → (not b || (m == suc (total v A))) ≡ true
        go false e = refl
        go true e = same m (suc (total v A)) (next-draw v (all v) A i B m (inv v e) order is)
    here (Shows v m) is = go (test v) refl
      where
        go : (b : Bool) → test v ≡ b → (not b || (m == total v A)) ≡ true
        go false e = refl
        go true e = same m (total v A) (next-show v (all v) A i B m (inv v e) order is)
    here Neither is = refl

    there : (w : Word) → test w ≡ true → (t : Touch) → touch i ≡ t → Inv w (all w) (A ++ i ∷ []) B
    there w known (Draws v m) is = go (same_word v w) refl
      where
        go : (b : Bool) → same_word v w ≡ b → Inv w (all w) (A ++ i ∷ []) B
        go true e = inv-draw w (all w) A i B m (inv w known) order (is ∙ ap (λ x. Draws x m) (same_word-is v w e))
        go false e = inv-other w (all w) A i B (inv w known) (rw is e)
    there w known (Shows v m) is = inv-other w (all w) A i B (inv w known) (rw is refl)
    there w known Neither is = inv-other w (all w) A i B (inv w known) (rw is refl)
