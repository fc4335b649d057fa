-- In the order of a run the operations of a word come as its history has them.
use Rattle.std.proofs.Common.{◌≡◌, ◌∙◌, ℕ, zero, suc, ◌+◌, ◌-◌, ◌<◌, ◌≤◌, ◌==◌, nat_le, nat_lt, Bool, true, false, not, ◌&&◌, ◌||◌, cond, List, [], ◌∷◌, ◌++◌, length, take, refl, sym, ap, arith, append_assoc, append-nil, length-append}
use Rattle.std.specs.List.{AllByRecursion, filter, list_all}
use Rattle.std.proofs.Math.Seq.{take-append_seam}
use Rattle.std.proofs.lemmas.Bool.{and_parts}
use Rattle.std.proofs.lemmas.Bool.Decides.{nat_tests}
use Rattle.std.proofs.lemmas.List.Elements.{filter-append}
use Rattle.qp_model.specs.declared.words.Word.{Word}
use Rattle.qp_model.specs.History.{Draws, Neither, Shows, Touch, drawn_as, drawn_below, drawn_on, hist, is_numbered, numbered, same_word, total, touch}
use Rattle.qp_model.specs.Places.{in_order, is_next}
use Rattle.qp_model.specs.Record.{Item}
use Rattle.qp_model.proofs.ListLemmas.{all_below_at}
use Rattle.qp_model.proofs.TakenLemmas.{list_all-at}
use Rattle.qp_model.proofs.KnowingLemmas.{next-draws}

-- the record stands among these
pub record Stands (all : List Item) (i : Item) : Type 0 where
  pub front : List Item
  pub back : List Item
  pub at : all ≡ front ++ i ∷ back

stands-parts : (all pre xs post : List Item) → all ≡ pre ++ (xs ++ post) → AllByRecursion (Stands all) xs
stands-parts all pre [] post is = tt
stands-parts all pre (x ∷ xs) post is = (
  record { front = pre; back = xs ++ post; at = is },
  stands-parts all (pre ++ x ∷ []) xs post (is ∙ sym (append_assoc pre (x ∷ []) (xs ++ post))),
)

-- each record of a part stands among all
pub stands-all : (all pre xs post : List Item) → all ≡ pre ++ (xs ++ post) → AllByRecursion (Stands all) xs
stands-all all pre xs post is = stands-parts all pre xs post is

pub stands-each : (p : Item → Bool) (all : List Item) (i : Item) → Stands all i → list_all p all ≡ true → p i ≡ true
stands-each p all i at h = let there : list_all p (at.front ++ i ∷ at.back) ≡ true = rw at.at at h in list_all-at p at.front i at.back there

-- the only one of a list
only-one : (xs ys : List Item) (i : Item) → length (xs ++ i ∷ ys) ≡ 1 → xs ++ i ∷ ys ≡ i ∷ []
only-one [] [] i e = refl
only-one [] (y ∷ ys) i e = absurd (omega (arith, e))
only-one (x ∷ xs) ys i e = absurd (omega (arith, e, length-append xs (i ∷ ys)))

only-filtered : (p : Item → Bool) (xs : List Item) (i : Item) (ys : List Item) → p i ≡ true → length (filter p (xs ++ i ∷ ys)) ≡ 1
    → filter p (xs ++ i ∷ ys) ≡ i ∷ []
only-filtered p xs i ys is one =
    let parts : filter p (xs ++ i ∷ ys) ≡ filter p xs ++ i ∷ filter p ys = filter-append p xs (i ∷ ys) ∙ rw is refl in
    let count : length (filter p xs ++ i ∷ filter p ys) ≡ 1 = ap length (sym parts) ∙ one in
    parts ∙ only-one (filter p xs) (filter p ys) i count

-- ---- the order, record by record

drawn-within : (w : Word) (n most : ℕ) (t : Touch) → drawn_as w n t ≡ true → drawn_below w most t ≡ true → n < most
drawn-within w n most (Draws v mark) is below = by (same_word v w) (and_parts _ _ is).0 below
  where
    by : (b : Bool) → b ≡ true → (not b || (nat_lt 0 mark && nat_le mark most)) ≡ true → n < most
    by true e h = let here : (mark == suc n) ≡ true = (and_parts (same_word v w) (mark == suc n) is).1 in grind (arith, nat_tests, h, here)
    by false e h = absurd (cc)
drawn-within w n most (Shows v mark) is below = cc
drawn-within w n most Neither is below = cc

module _ (w : Word) (all : List Item) (numbers : is_numbered w all ≡ true) where
  abbrev pub draws : Item → Bool
  draws i = drawn_on w (touch i)

  -- the numbers are drawn once each
  once : (n : ℕ) → n < total w all → length (filter (λ j. drawn_as w n (touch j)) all) ≡ 1
  unfolding is_numbered
  once n within =
      let one : (length (filter (λ j. drawn_as w n (touch j)) all) == 1) ≡ true =
      all_below_at (total w all) (λ n. length (filter (λ j. drawn_as w n (touch j)) all) == 1) (and_parts _ _ numbers).1 n within in
      grind (arith, nat_tests, one)

  its-only : (n : ℕ) (i : Item) → Stands all i → drawn_as w n (touch i) ≡ true → filter (λ j. drawn_as w n (touch j)) all ≡ i ∷ []
  unfolding is_numbered
  its-only n i at is =
      let below : drawn_below w (total w all) (touch i) ≡ true = stands-each (λ j. drawn_below w (total w all) (touch j)) all i at (and_parts _ _ numbers).0 in
      let one : length (filter (λ j. drawn_as w n (touch j)) all) ≡ 1 = once n (drawn-within w n (total w all) (touch i) is below) in
      let there : length (filter (λ j. drawn_as w n (touch j)) (at.front ++ i ∷ at.back)) ≡ 1 = rw at.at at one in
      ap (filter (λ j. drawn_as w n (touch j))) at.at ∙ only-filtered (λ j. drawn_as w n (touch j)) at.front i at.back is there

  filter-last : (before : List Item) (i : Item) → filter draws (before ++ i ∷ []) ≡ filter draws before ++ cond (draws i) (i ∷ []) []
  filter-last before i = filter-append draws before (i ∷ [])

  history-next : (before : List Item) (i : Item) → Stands all i → is_next before (touch i) ≡ true → filter draws before ≡ numbered w all (total w before)
      → filter draws (before ++ i ∷ []) ≡ numbered w all (total w (before ++ i ∷ []))
  unfolding total numbered
  history-next before i at next so_far = by (draws i) refl
    where
      by : (b : Bool) → draws i ≡ b → filter draws (before ++ i ∷ []) ≡ numbered w all (total w (before ++ i ∷ []))
      by true e =
          let longer : filter draws (before ++ i ∷ []) ≡ filter draws before ++ i ∷ [] = filter-last before i ∙ rw e refl in
          let count : length (filter draws before ++ i ∷ []) ≡ suc (length (filter draws before)) = omega (arith, length-append (filter draws before) (i ∷ [])) in
          let own = its-only (total w before) i at (next-draws w before (touch i) e next) in
          let total_is : total w (before ++ i ∷ []) ≡ suc (total w before) = ap length longer ∙ count in
          longer ∙ ap (λ xs. xs ++ i ∷ []) so_far ∙ ap (λ xs. numbered w all (total w before) ++ xs) (sym own) ∙ ap (numbered w all) (sym total_is)
      by false e =
          let same : filter draws (before ++ i ∷ []) ≡ filter draws before = filter-last before i ∙ rw e (append-nil (filter draws before)) in
          rw same so_far

  -- so the operations among the first records of the order are the first of the history
  pub history-prefix : (before xs : List Item) → AllByRecursion (Stands all) xs → in_order before xs ≡ true → filter draws before ≡ numbered w all (total w before)
      → filter draws (before ++ xs) ≡ numbered w all (total w (before ++ xs))
  unfolding in_order
  history-prefix before [] each order so_far = rw (append-nil before) so_far
  history-prefix before (x ∷ xs) each order so_far =
      let parts = and_parts (is_next before (touch x)) _ order in
      let next = history-next before x each.0 parts.0 so_far in
      rw (append_assoc before (x ∷ []) xs) at (history-prefix (before ++ x ∷ []) xs each.1 parts.1 next)

  pub history-first : (xs : List Item) → AllByRecursion (Stands all) xs → in_order [] xs ≡ true → filter draws xs ≡ numbered w all (total w xs)
  unfolding total numbered
  history-first xs each order = history-prefix [] xs each order refl

  length-first : (n : ℕ) → n ≤ total w all → length (numbered w all n) ≡ n
  unfolding numbered
  length-first zero within = refl
  length-first (suc n) within =
      omega (
        arith,
        length-first n (omega (arith, within)),
        once n (omega (arith, within)),
        length-append (numbered w all n) (filter (λ j. drawn_as w n (touch j)) all),
      )

  record Longer (n m : ℕ) : Type 0 where
    rest : List Item
    is : numbered w all m ≡ numbered w all n ++ rest

  longer : (n k : ℕ) → Longer n (n + k)
  unfolding numbered
  longer n zero = let same : n + 0 ≡ n = omega arith in record { rest = []; is = rw same (sym (append-nil (numbered w all n))) }
  longer n (suc k) =
      let next : n + suc k ≡ suc (n + k) = omega arith in
      let before = longer n k in
      let last = filter (λ j. drawn_as w (n + k) (touch j)) all in
      record {
        rest = before.rest ++ last;
        is = rw next (ap (λ xs. xs ++ last) before.is ∙ append_assoc (numbered w all n) before.rest last);
      }

  pub first-part : (n : ℕ) → n ≤ total w all → (rest : List Item) × (hist w all ≡ numbered w all n ++ rest)
  unfolding hist
  first-part n within =
      let sum : n + (total w all - n) ≡ total w all = omega (arith, within) in
      let found = longer n (total w all - n) in
      (found.rest, rw sum at found.is)

  pub first-taken : (n : ℕ) → n ≤ total w all → take n (hist w all) ≡ numbered w all n
  first-taken n within =
      let parts = first-part n within in
      let long = length-first n within in
      let seam : take (length (numbered w all n)) (numbered w all n ++ parts.0) ≡ numbered w all n = take-append_seam (numbered w all n) parts.0 in
      ap (take n) parts.1 ∙ rw long at seam
