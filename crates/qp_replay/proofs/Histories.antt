-- The history of a word is the records on it in the order, where the order is serial.
use Rattle.std.proofs.Common.{◌≡◌, ◌∙◌, ℕ, zero, suc, ◌+◌, ◌<◌, ◌≤◌, ◌==◌, Bool, true, false, cond, List, [], ◌∷◌, ◌++◌, length, get_or, take, filter, refl, sym, ap, subst, arith, Option, Some, None}
use Rattle.std.specs.Prelude.{slice_get, IsPermutation}
use Rattle.std.specs.List.{All, AllByRecursion, cons_option}
use Rattle.std.proofs.Math.Seq.{take-suc}
use Rattle.std.proofs.lemmas.Bool.{and_parts}
use Rattle.std.proofs.lemmas.Bool.Decides.{nat_tests}
use Rattle.std.proofs.lemmas.List.{take_all}
use Rattle.std.proofs.lemmas.List.Sorted.{All-permutation}
use Rattle.std.proofs.lemmas.Option.{slice_get-get_or}
use Rattle.qp_model.specs.declared.record.Rec.{Rec}
use Rattle.qp_model.specs.declared.words.Word.{Word}
use Rattle.qp_model.specs.Record.{Item}
use Rattle.qp_model.specs.History.{touch, drawn_on, drawn_as, all_items, hist, numbered, is_numbered, total}
use Rattle.qp_model.specs.Places.{RecordPlace, in_order, is_next, item_at, items_at, places}
use Rattle.qp_model.proofs.ListLemmas.{all_below_at}
use Rattle.qp_replay.proofs.SerialLemmas.{items-places, same-count}
use Rattle.qp_replay.proofs.NamedRecords.{all-passing}
use Rattle.qp_replay.proofs.LaneRecords.{all-filter}
use Rattle.qp_model.proofs.PromiseLemmas.{one_of}
use Rattle.qp_model.proofs.HistoryLemmas.{total-append}
use Rattle.qp_model.proofs.KnowingLemmas.{next-draws}

-- Elements by their places in a list, and by recursion.

pub by-index : {A : Type 0} (P : A → Type 0) (xs : List A) → AllByRecursion P xs → All P xs
by-index P [] h k d less = absurd (omega (arith, less))
by-index P (x ∷ xs) h zero d less = h.0
by-index P (x ∷ xs) h (suc k) d less = by-index P xs h.1 k d (omega (arith, less))

pub from-index : {A : Type 0} (P : A → Type 0) (xs : List A) → All P xs → AllByRecursion P xs
from-index P [] h = tt
from-index P (x ∷ xs) h = (h 0 x (omega arith), from-index P xs (λ k d less. h (suc k) d (omega (arith, less))))

module _ (lanes : List (List Rec)) where
  abbrev AtPlace : (Item → Type 0) → RecordPlace → Type 0
  AtPlace P x = (i : Item) → item_at lanes x ≡ Some i → P i

  at-places : (P : Item → Type 0) (xs : List RecordPlace) → AllByRecursion P (items_at lanes xs) → AllByRecursion (AtPlace P) xs
  unfolding items_at
  at-places P [] h = tt
  at-places P (x ∷ xs) h = go (item_at lanes x) refl h (at-places P xs)
    where
      go : (o : Option Item) → item_at lanes x ≡ o → AllByRecursion P (cons_option o (items_at lanes xs)) → (AllByRecursion P (items_at lanes xs) → AllByRecursion (AtPlace P) xs)
          → AtPlace P x × AllByRecursion (AtPlace P) xs
      go None is h more = ((λ i at. absurd (none i (sym is ∙ at))), more h)
        where
          none : (i : Item) → None ≡ Some i → ⊥
          none i e = absurd (cc)
      go (Some k) is h more = ((λ i at. subst P (some (sym is ∙ at)) h.0), more h.1)
        where
          some : {i : Item} → Some k ≡ Some i → k ≡ i
          some e = cc

  from-places : (P : Item → Type 0) (xs : List RecordPlace) → AllByRecursion (AtPlace P) xs → AllByRecursion P (items_at lanes xs)
  unfolding items_at
  from-places P [] h = tt
  from-places P (x ∷ xs) h = go (item_at lanes x) refl (from-places P xs h.1)
    where
      go : (o : Option Item) → item_at lanes x ≡ o → AllByRecursion P (items_at lanes xs) → AllByRecursion P (cons_option o (items_at lanes xs))
      go None is more = more
      go (Some i) is more = (h.0 i is, more)

  -- what holds of all records holds of them in an order
  pub ordered-all : (P : Item → Type 0) (order : List RecordPlace) → IsPermutation (places lanes) order → AllByRecursion P (all_items lanes) → AllByRecursion P (items_at lanes order)
  unfolding places
  ordered-all P order all h =
      from-places P order
      (from-index (AtPlace P) order
      (All-permutation (AtPlace P) (places lanes) order all (by-index (AtPlace P) (places lanes) (at-places P (places lanes) (subst (AllByRecursion P) (sym (items-places lanes)) h)))))

-- Numbers in an order.

total-one : (w : Word) (i : Item) (b : Bool) → drawn_on w (touch i) ≡ b → total w (i ∷ []) ≡ cond b 1 0
unfolding total
total-one w i true is = rw is refl
total-one w i false is = rw is refl

abbrev pub on_word : Word → List Item → List Item
on_word w items = filter (λ i. drawn_on w (touch i)) items

-- in an order the records on a word draw its numbers one after another
nth-draws : (w : Word) (before items : List Item) → in_order before items ≡ true → (n : ℕ) (z : Item) → slice_get (on_word w items) n ≡ Some z → drawn_as w (total w before + n) (touch z) ≡ true
unfolding in_order
nth-draws w before [] ordered n z at = absurd (cc)
nth-draws w before (i ∷ is) ordered n z at =
    go (drawn_on w (touch i)) refl n at (λ m later. nth-draws w (before ++ i ∷ []) is parts.1 m z later)
  where
    parts : (is_next before (touch i) ≡ true) × (in_order (before ++ i ∷ []) is ≡ true)
    parts = and_parts (is_next before (touch i)) (in_order (before ++ i ∷ []) is) ordered

    go : (b : Bool) → drawn_on w (touch i) ≡ b → (n : ℕ) → slice_get (cond b (i ∷ on_word w is) (on_word w is)) n ≡ Some z
        → ((m : ℕ) → slice_get (on_word w is) m ≡ Some z → drawn_as w (total w (before ++ i ∷ []) + m) (touch z) ≡ true)
        → drawn_as w (total w before + n) (touch z) ≡ true
    go false on n at later =
        let more : total w (before ++ i ∷ []) + n ≡ total w before + n = (let sum = total-append w before (i ∷ []) in let none = total-one w i false on in omega (arith, sum, none)) in
        subst (λ k. drawn_as w k (touch z) ≡ true) more (later n at)
    go true on zero at later =
        let first : i ≡ z = cc in
        let here : total w before ≡ total w before + zero = omega arith in
        subst (λ k. drawn_as w k (touch z) ≡ true) here (subst (λ x. drawn_as w (total w before) (touch x) ≡ true) first (next-draws w before (touch i) on parts.0))
    go true on (suc m) at later =
        let more : total w (before ++ i ∷ []) + m ≡ total w before + suc m = (let sum = total-append w before (i ∷ []) in let one = total-one w i true on in omega (arith, sum, one)) in
        subst (λ k. drawn_as w k (touch z) ≡ true) more (later m at)

one-is : {A : Type 0} (P : A → Type 0) (xs : List A) (n : ℕ) (d : A) → AllByRecursion P xs → n < length xs → P (get_or xs n d)
one-is P [] n d h less = absurd (omega (arith, less))
one-is P (x ∷ xs) zero d h less = h.0
one-is P (x ∷ xs) (suc n) d h less = one-is P xs n d h.1 (omega (arith, less))

module _ (lanes : List (List Rec)) (order : List RecordPlace) (all : IsPermutation (places lanes) order) (ordered : in_order [] (items_at lanes order) ≡ true) (w : Word)
    (numbers : is_numbered w (all_items lanes) ≡ true) where
  line : List Item
  line = on_word w (items_at lanes order)

  count : total w (all_items lanes) ≡ length line
  unfolding total line
  count = sym (same-count lanes order all (λ i. drawn_on w (touch i)))

  -- the record that draws a number is the same
  same-record : (n : ℕ) (y d : Item) → filter (λ i. drawn_as w n (touch i)) (all_items lanes) ≡ y ∷ [] → n < length line → get_or line n d ≡ y
  unfolding line total
  same-record n y d only less =
      let known : AllByRecursion (λ i. drawn_as w n (touch i) ≡ true → i ≡ y) (all_items lanes) =
      all-passing (λ i. i ≡ y) (λ i. drawn_as w n (touch i)) (all_items lanes) (subst (AllByRecursion (λ i. i ≡ y)) (sym only) (refl, tt)) in
      let there = ordered-all lanes (λ i. drawn_as w n (touch i) ≡ true → i ≡ y) order all known in
      let on = all-filter (λ i. drawn_as w n (touch i) ≡ true → i ≡ y) (λ i. drawn_on w (touch i)) (items_at lanes order) there in
      let draws = nth-draws w [] (items_at lanes order) ordered n (get_or line n d) (slice_get-get_or line n d less) in
      let same : 0 + n ≡ n = omega arith in
      one-is (λ i. drawn_as w n (touch i) ≡ true → i ≡ y) line n d on less (subst (λ k. drawn_as w k (touch (get_or line n d)) ≡ true) same draws)

  numbered-take : (n : ℕ) → n ≤ length line → numbered w (all_items lanes) n ≡ take n line
  unfolding numbered is_numbered
  numbered-take zero le = refl
  numbered-take (suc n) le =
      let less : n < total w (all_items lanes) = omega (arith, le, count) in
      let within : n < length line = omega (arith, le) in
      let test = all_below_at (total w (all_items lanes)) (λ n. length (filter (λ i. drawn_as w n (touch i)) (all_items lanes)) == 1) (and_parts _ _ numbers).1 n less in
      let size : length (filter (λ i. drawn_as w n (touch i)) (all_items lanes)) ≡ 1 = grind (arith, nat_tests, test) in
      let found = one_of (filter (λ i. drawn_as w n (touch i)) (all_items lanes)) size in
      let last : get_or line n found.0 ≡ found.0 = same-record n found.0 found.0 found.1 within in
      ap (λ xs. xs ++ filter (λ i. drawn_as w n (touch i)) (all_items lanes)) (numbered-take n (omega (arith, le)))
      ∙ ap (λ xs. take n line ++ xs) (found.1 ∙ ap (λ y. y ∷ []) (sym last))
      ∙ sym (take-suc line n found.0 within)

  pub hist-line : hist w (all_items lanes) ≡ on_word w (items_at lanes order)
  unfolding hist line
  hist-line =
      let whole : total w (all_items lanes) ≤ length line = omega (arith, count) in
      numbered-take (total w (all_items lanes)) whole ∙ ap (λ n. take n line) count ∙ take_all (length line) line (omega arith)
