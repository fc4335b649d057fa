-- Tables of what a word held, made in a walk over its history and read by number.
use Rattle.std.proofs.Common.{◌≡◌, ℕ, zero, suc, ◌+◌, ◌-◌, ◌<◌, ◌≤◌, ◌==◌, min, nat_lt, Bool, true, false, cond, List, [], ◌∷◌, ◌++◌, length, take, refl, ap, sym, ◌∙◌, append_assoc, arith}
use Rattle.std.proofs.lemmas.Bool.Decides.{nat_tests}
use Rattle.qp_model.specs.declared.bodies.Body.TheVariants.{Dec}
use Rattle.qp_model.specs.Record.{Item}
use Rattle.qp_model.specs.Lists.{without_one}
use Rattle.qp_model.specs.Machine.{Machine, after_from}
use Rattle.qp_model.specs.References.{Refs, refs_next}
use Rattle.qp_check_lanes.specs.Standing.{times_in}
use Rattle.qp_check_lanes.proofs.StandingLemmas.{places-within_length}
use Rattle.qp_check_lanes.specs.WordTotals.{count_in}
use Rattle.qp_check_lanes.specs.declared.word_totals.CountsByNumber.{CountsByNumber}
use Rattle.qp_check_knowledge.specs.KnownTables.{AreReferencesCounted, value_at, values_from}

module _ {S A : Type 0} (m : Machine S) (f : S → A) where
  pub length-values : (s : S) (h : List Item) → length (values_from m f s h) ≡ suc (length h)
  unfolding values_from
  length-values s [] = refl
  length-values s (i ∷ is) = ap suc (length-values (m.next s i) is)

  -- the value at a number is that after so many operations
  pub value-at : (d : A) (s : S) (h : List Item) (n : ℕ) → value_at d (values_from m f s h) n ≡ f (after_from m s (take n h))
  unfolding values_from after_from
  value-at d s [] zero = refl
  value-at d s [] (suc n) =
      let e : min (suc n) (1 - 1) ≡ 0 = omega arith in
      rw e refl
  value-at d s (i ∷ is) zero =
      let e : min zero (suc (length (values_from m f (m.next s i) is)) - 1) ≡ 0 = omega arith in
      rw e refl
  value-at d s (i ∷ is) (suc n) =
      let e : min (suc n) (suc (length (values_from m f (m.next s i) is)) - 1) ≡ suc (min n (length (values_from m f (m.next s i) is) - 1)) = omega (arith, length-values (m.next s i) is) in
      rw e (value-at d (m.next s i) is n)

  module _ (front whole : List A) (s : S) (left : List Item) (goes : whole ≡ front ++ values_from m f s left) (x : A) (is : x ≡ f s) where
    -- an operation more
    pub values-next : (rest : List Item) (i : Item) → left ≡ i ∷ rest → (t : S) → t ≡ m.next s i → whole ≡ (front ++ x ∷ []) ++ values_from m f t rest
    unfolding values_from
    values-next rest i begins t next =
        goes ∙ ap (λ l. front ++ values_from m f s l) begins
        ∙ ap (λ y. front ++ y ∷ values_from m f (m.next s i) rest) (sym is)
        ∙ sym (append_assoc front (x ∷ []) (values_from m f (m.next s i) rest))
        ∙ ap (λ u. (front ++ x ∷ []) ++ values_from m f u rest) (sym next)

    -- behind the last
    pub values-last : left ≡ [] → front ++ x ∷ [] ≡ whole
    unfolding values_from
    values-last none = ap (λ y. front ++ y ∷ []) is ∙ sym (goes ∙ ap (λ l. front ++ values_from m f s l) none)

-- how often a number stands where one place of another is taken out
places-dropped : (j k : ℕ) (xs : List ℕ) → times_in j (without_one k xs) ≡ times_in j xs - cond (k == j) 1 0
places-dropped j k [] = go (k == j)
  where
    go : (b : Bool) → 0 ≡ 0 - cond b 1 0
    go true = omega arith
    go false = omega arith
places-dropped j k (x ∷ xs) = go (x == k) refl (k == j) refl (x == j) refl (places-dropped j k xs)
  where
    go : (a : Bool) → (x == k) ≡ a → (b : Bool) → (k == j) ≡ b → (c : Bool) → (x == j) ≡ c
        → times_in j (without_one k xs) ≡ times_in j xs - cond (k == j) 1 0
        → times_in j (cond a xs (x ∷ without_one k xs)) ≡ cond c (suc (times_in j xs)) (times_in j xs) - cond b 1 0
    go true e true f true g h = omega arith
    go true e true f false g h = let bad : (x == j) ≡ true = grind (arith, nat_tests) in absurd (cc)
    go true e false f true g h = let bad : (k == j) ≡ true = grind (arith, nat_tests) in absurd (cc)
    go true e false f false g h = omega arith
    go false e true f true g h = let bad : (x == k) ≡ true = grind (arith, nat_tests) in absurd (cc)
    go false e true f false g h = rw g (h ∙ ap (λ b. times_in j xs - cond b 1 0) f)
    go false e false f true g h =
        let i : times_in j (without_one k xs) ≡ times_in j xs - 0 = h ∙ ap (λ b. times_in j xs - cond b 1 0) f in
        rw g (omega (arith, i))
    go false e false f false g h =
        let i : times_in j (without_one k xs) ≡ times_in j xs - 0 = h ∙ ap (λ b. times_in j xs - cond b 1 0) f in
        rw g i

length-dropped : (k : ℕ) (xs : List ℕ) → length (without_one k xs) ≡ length xs - cond (nat_lt 0 (times_in k xs)) 1 0
length-dropped k [] = omega arith
length-dropped k (x ∷ xs) = go (x == k) (length-dropped k xs) (places-within xs)
  where
    places-within : (ys : List ℕ) → times_in k ys ≤ length ys
    places-within [] = omega arith
    places-within (y ∷ ys) = one (y == k) (places-within ys)
      where
        one : (b : Bool) → times_in k ys ≤ length ys → cond b (suc (times_in k ys)) (times_in k ys) ≤ suc (length ys)
        one true h = omega arith
        one false h = omega arith

    some : (n : ℕ) → nat_lt 0 (suc n) ≡ true
    some n = grind (arith, nat_tests)

    go : (a : Bool) → length (without_one k xs) ≡ length xs - cond (nat_lt 0 (times_in k xs)) 1 0 → times_in k xs ≤ length xs
        → length (cond a xs (x ∷ without_one k xs)) ≡ suc (length xs) - cond (nat_lt 0 (cond a (suc (times_in k xs)) (times_in k xs))) 1 0
    go true h w = rw (some (times_in k xs)) (omega arith)
    go false h w = last (nat_lt 0 (times_in k xs)) refl h
      where
        last : (b : Bool) → nat_lt 0 (times_in k xs) ≡ b → length (without_one k xs) ≡ length xs - cond (nat_lt 0 (times_in k xs)) 1 0
            → suc (length (without_one k xs)) ≡ suc (length xs) - cond b 1 0
        last true e h =
            let i : length (without_one k xs) ≡ length xs - 1 = h ∙ ap (λ b. length xs - cond b 1 0) e in
            let at_least : 0 < times_in k xs = grind (arith, nat_tests) in
            omega (arith, i, w, at_least)
        last false e h =
            let i : length (without_one k xs) ≡ length xs - 0 = h ∙ ap (λ b. length xs - cond b 1 0) e in
            omega (arith, i)

module _ (s : Refs) (counts new : CountsByNumber) (total : ℕ) (h : AreReferencesCounted s counts total) where
  pub counted-each : (q : ℕ) → count_in counts q ≤ total
  counted-each q = omega (arith, h.each q, h.all, places-within_length q s.names)

  counted_dec : (p b d k left : ℕ) → ((q : ℕ) → count_in new q ≡ count_in counts q - cond (k == q) 1 0)
      → left ≡ total - cond (nat_lt 0 (times_in k s.names)) 1 0 → AreReferencesCounted (refs_next s (Dec p b d k)) new left
  counted_dec p b d k left taken is = record {
    each = λ j. taken j ∙ ap (λ n. n - cond (k == j) 1 0) (h.each j) ∙ sym (places-dropped j k s.names);
    all = is ∙ ap (λ n. n - cond (nat_lt 0 (times_in k s.names)) 1 0) h.all ∙ sym (length-dropped k s.names);
  }

  -- a reference is dropped where it stands, and else nothing changes
  pub counted-dec : (p b d k left : ℕ) (found : Bool) → ((q : ℕ) → count_in new q ≡ count_in counts q - cond (k == q) 1 0)
      → found ≡ nat_lt 0 (count_in counts k) → left ≡ total - cond found 1 0 → AreReferencesCounted (refs_next s (Dec p b d k)) new left
  counted-dec p b d k left found taken is less =
      counted_dec p b d k left taken (less ∙ ap (λ b. total - cond b 1 0) (is ∙ ap (nat_lt 0) (h.each k)))
