-- Records that nothing ends, and records behind them.
use Rattle.std.proofs.Common.{◌≡◌, ℕ, suc, ◌+◌, ◌==◌, Bool, true, false, ◌||◌, List, [], ◌∷◌, ◌++◌, length, refl, subst, arith, Option}
use Rattle.std.specs.List.{list_any, list_all}
use Rattle.std.proofs.lemmas.Bool.{and_from, or_parts}
use Rattle.qp_model.specs.declared.bodies.Body.{Body}
use Rattle.qp_model.specs.declared.bodies.Body.TheVariants as body
use Rattle.qp_model.specs.Record.{Item}
use Rattle.qp_model.specs.Ends.{is_assert, is_spent, is_spill, is_end, spills_cut, ends_last, spills_in}
use Rattle.qp_model.specs.End.{spents_follow, spills_state, shown_entry, spill_states}
use Rattle.qp_model.specs.Lawful.{spill_cuts}

-- no record ends a lane
abbrev pub are_calm : List Item → Bool
are_calm is = list_any (λ i. is_end i.body) is

pub calm-parts : (b : Body) → is_end b ≡ false → (is_assert b ≡ false) × (is_spent b ≡ false) × (is_spill b ≡ false)
calm-parts b h =
    let one = or_parts (is_assert b || is_spent b) (is_spill b) h in
    let two = or_parts (is_assert b) (is_spent b) one.0 in
    (two.0, two.1, one.1)

calm-head : (i : Item) (is : List Item) → are_calm (i ∷ is) ≡ false → (is_end i.body ≡ false) × (are_calm is ≡ false)
calm-head i is h = or_parts (is_end i.body) (are_calm is) h

pub calm-no_spill : (is : List Item) → are_calm is ≡ false → spills_in is ≡ false
calm-no_spill [] h = refl
calm-no_spill (i ∷ is) h =
    let parts = calm-head i is h in
    let none : spills_in is ≡ false = calm-no_spill is parts.1 in
    rw ((calm-parts i.body parts.0).2, none) refl

pub calm-no_assert : (is : List Item) → are_calm is ≡ false → list_any (λ i. is_assert i.body) is ≡ false
calm-no_assert [] h = refl
calm-no_assert (i ∷ is) h =
    let parts = calm-head i is h in
    let none : list_any (λ i. is_assert i.body) is ≡ false = calm-no_assert is parts.1 in
    rw ((calm-parts i.body parts.0).0, none) refl

ends_last-cons : (i : Item) (is : List Item) → is_end i.body ≡ false → ends_last is ≡ true → ends_last (i ∷ is) ≡ true
unfolding ends_last
ends_last-cons i [] h k = refl
ends_last-cons i (j ∷ is) h k = rw h k

pub calm-ends_last : (xs ys : List Item) → are_calm xs ≡ false → ends_last ys ≡ true → ends_last (xs ++ ys) ≡ true
calm-ends_last [] ys h k = k
calm-ends_last (i ∷ is) ys h k = let parts = calm-head i is h in ends_last-cons i (is ++ ys) parts.0 (calm-ends_last is ys parts.1 k)

spills_cut-cons : (end : ℕ) (i : Item) (is : List Item) → is_spill i.body ≡ false → spills_cut end is ≡ true → spills_cut end (i ∷ is) ≡ true
unfolding spills_cut
spills_cut-cons end i [] h k = rw h refl
spills_cut-cons end i (j ∷ is) h k = rw h k

pub calm-spills_cut : (end : ℕ) (xs ys : List Item) → are_calm xs ≡ false → spills_cut end ys ≡ true → spills_cut end (xs ++ ys) ≡ true
calm-spills_cut end [] ys h k = k
calm-spills_cut end (i ∷ is) ys h k = let parts = calm-head i is h in spills_cut-cons end i (is ++ ys) (calm-parts i.body parts.0).2 (calm-spills_cut end is ys parts.1 k)

pub calm-spents_follow : (xs ys : List Item) (shown : Option ℕ) → are_calm xs ≡ false → ((s : Option ℕ) → spents_follow s ys ≡ true) → spents_follow shown (xs ++ ys) ≡ true
unfolding spents_follow
calm-spents_follow [] ys shown h k = k shown
calm-spents_follow (i ∷ is) ys shown h k = let parts = calm-head i is h in rw (calm-parts i.body parts.0).1 (calm-spents_follow is ys (shown_entry i) parts.1 k)

pub calm-states : (n : ℕ) (xs ys : List Item) → are_calm xs ≡ false → spills_state (n + length xs) ys ≡ true → spills_state n (xs ++ ys) ≡ true
unfolding spills_state
calm-states n [] ys h k = let same : n + 0 ≡ n = omega arith in subst (λ m. spills_state m ys ≡ true) same k
calm-states n (i ∷ is) ys h k =
    let parts = calm-head i is h in
    let same : n + suc (length is) ≡ (n + 1) + length is = omega arith in
    and_from _ _ (states i.body (calm-parts i.body parts.0).2) (calm-states (n + 1) is ys parts.1 (subst (λ m. spills_state m ys ≡ true) same k))
  where
    states : (b : Body) → is_spill b ≡ false → spill_states n b ≡ true
    states (body.Spill len) h = absurd (cc)
    states _ h = refl

-- a test that passes all but some of the records that end a lane
pub calm-all : (p : Item → Bool) (xs ys : List Item) → ((i : Item) → is_end i.body ≡ false → p i ≡ true) → are_calm xs ≡ false → list_all p ys ≡ true → list_all p (xs ++ ys) ≡ true
calm-all p [] ys passes h k = k
calm-all p (i ∷ is) ys passes h k = let parts = calm-head i is h in and_from _ _ (passes i parts.0) (calm-all p is ys passes parts.1 k)

-- where no `spill` stands none cuts
pub no_spill-cuts : (o : ℕ) (is : List Item) → spills_in is ≡ false → spill_cuts o is ≡ false
no_spill-cuts o [] h = refl
no_spill-cuts o (i ∷ []) h = refl
no_spill-cuts o (i ∷ j ∷ []) h =
    let rest = (or_parts (is_spill i.body) (is_spill j.body || false) h).1 in
    let none = (or_parts (is_spill j.body) false rest).0 in
    rw none refl
no_spill-cuts o (i ∷ j ∷ k ∷ is) h = no_spill-cuts o (j ∷ k ∷ is) (or_parts (is_spill i.body) (spills_in (j ∷ k ∷ is)) h).1

-- a `spill` cuts the object of the record right before it
pub spill_cuts-last : (o n : ℕ) (xs : List Item) (i : Item) → spill_cuts o (xs ++ i ∷ record { of = 0; body = body.Spill n } ∷ []) ≡ (i.of == o)
spill_cuts-last o n [] i = refl
spill_cuts-last o n (x ∷ []) i = refl
spill_cuts-last o n (x ∷ y ∷ xs) i = longer xs (spill_cuts-last o n (y ∷ xs) i)
  where
    longer : (xs : List Item) → spill_cuts o (y ∷ xs ++ i ∷ record { of = 0; body = body.Spill n } ∷ []) ≡ (i.of == o)
        → spill_cuts o (x ∷ y ∷ xs ++ i ∷ record { of = 0; body = body.Spill n } ∷ []) ≡ (i.of == o)
    longer [] h = h
    longer (z ∷ zs) h = h

-- Records among which neither a `spent` nor a `spill` stands.
abbrev pub IsMild : List Item → Type 0
IsMild [] = Unit {0}
IsMild (i ∷ is) = (is_spent i.body ≡ false) × (is_spill i.body ≡ false) × IsMild is

pub mild-follow : (shown : Option ℕ) (xs ys : List Item) → IsMild xs → ((s : Option ℕ) → spents_follow s ys ≡ true) → spents_follow shown (xs ++ ys) ≡ true
unfolding spents_follow
mild-follow shown [] ys h k = k shown
mild-follow shown (i ∷ is) ys h k = rw h.0 (mild-follow (shown_entry i) is ys h.2 k)

pub mild-cut : (end : ℕ) (xs ys : List Item) → IsMild xs → spills_cut end ys ≡ true → spills_cut end (xs ++ ys) ≡ true
mild-cut end [] ys h k = k
mild-cut end (i ∷ is) ys h k = spills_cut-cons end i (is ++ ys) h.1 (mild-cut end is ys h.2 k)

pub mild-states : (n : ℕ) (xs ys : List Item) → IsMild xs → spills_state (n + length xs) ys ≡ true → spills_state n (xs ++ ys) ≡ true
unfolding spills_state
mild-states n [] ys h k = let same : n + 0 ≡ n = omega arith in subst (λ m. spills_state m ys ≡ true) same k
mild-states n (i ∷ is) ys h k =
    let same : n + suc (length is) ≡ (n + 1) + length is = omega arith in
    and_from _ _ (no_spill-states i.body h.1) (mild-states (n + 1) is ys h.2 (subst (λ m. spills_state m ys ≡ true) same k))
  where
    no_spill-states : (b : Body) → is_spill b ≡ false → spill_states n b ≡ true
    no_spill-states (body.Spill len) h = absurd (cc)
    no_spill-states _ h = refl

pub mild-all : (p : Item → Bool) (xs ys : List Item) → ((i : Item) → is_spent i.body ≡ false → p i ≡ true) → IsMild xs → list_all p ys ≡ true → list_all p (xs ++ ys) ≡ true
mild-all p [] ys passes h k = k
mild-all p (i ∷ is) ys passes h k = and_from _ _ (passes i h.0) (mild-all p is ys passes h.2 k)

pub mild-no_spill : (xs : List Item) → IsMild xs → spills_in xs ≡ false
mild-no_spill [] h = refl
mild-no_spill (i ∷ is) h = let rest : spills_in is ≡ false = mild-no_spill is h.2 in rw (h.1, rest) refl
