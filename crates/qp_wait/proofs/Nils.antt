-- Which `nil` records a turn adds, and how many steps begin.
use Rattle.std.proofs.Common.{◌≡◌, ◌⊎◌, ℕ, zero, suc, ◌+◌, ◌<◌, ◌≤◌, ◌==◌, nat_lt, Bool, true, false, ◌||◌, List, [], ◌∷◌, ◌++◌, length, length-append, append-nil, append_assoc, refl, sym, ◌∙◌, ap, subst, inl, inr, arith}
use Rattle.std.specs.List.{list_any}
use Rattle.std.proofs.lemmas.Bool.{or_parts}
use Rattle.std.proofs.lemmas.Bool.Decides.{nat_tests}
use Rattle.qp_model.specs.declared.bodies.Body.{Body}
use Rattle.qp_model.specs.declared.bodies.Body.TheVariants as body
use Rattle.qp_model.specs.Ends.{is_nil}
use Rattle.qp_model.specs.Told.{ToldItem, for_object, plain}
use Rattle.qp_model.proofs.NumberLemmas.{count-append}
use Rattle.qp_wait.specs.Parked.{is_empty_look, is_park_place}
use Rattle.qp_kernel.specs.Turning.{seen_told}
use Rattle.qp_port_lanes.specs.Takes.{AddsEmpty, AddsNoTake, AddsTook, is_take}
use Rattle.qp_model.specs.OutputSummary.{is_took}
use Rattle.qp_wait.specs.Waiting.{holds_place, is_nil_at, steps_in}
use Rattle.qp_model.proofs.LineLemmas.{same_number}

or-true : (b : Bool) → (b || true) ≡ true
or-true true = refl
or-true false = refl

-- Places.

pub holds-last : (ks : List ℕ) (n : ℕ) → holds_place (ks ++ n ∷ []) n ≡ true
holds-last [] n = ap (λ b. b || false) (same_number n)
holds-last (k ∷ ks) n = ap (λ b. (k == n) || b) (holds-last ks n) ∙ or-true (k == n)

pub holds-more : (ks : List ℕ) (k n : ℕ) → holds_place ks k ≡ true → holds_place (ks ++ n ∷ []) k ≡ true
holds-more [] k n h = absurd (cc)
holds-more (j ∷ ks) k n h = by (j == k) h (holds-more ks k n)
  where
    by : (b : Bool) → (b || holds_place ks k) ≡ true → (holds_place ks k ≡ true → holds_place (ks ++ n ∷ []) k ≡ true) → (b || holds_place (ks ++ n ∷ []) k) ≡ true
    by true h rest = refl
    by false h rest = rest h

-- no `nil` stands beyond the end
pub nil-inside : (xs : List ToldItem) (n : ℕ) → is_nil_at xs n ≡ true → n < length xs
nil-inside [] zero h = absurd (cc)
nil-inside [] (suc n) h = absurd (cc)
nil-inside (x ∷ xs) zero h = omega arith
nil-inside (x ∷ xs) (suc n) h = let rest = nil-inside xs n h in omega (arith, rest)

pub nil-beyond : (xs : List ToldItem) (n : ℕ) → length xs ≤ n → is_nil_at xs n ≡ false
nil-beyond [] zero most = refl
nil-beyond [] (suc n) most = refl
nil-beyond (x ∷ xs) zero most = absurd (omega (arith, most))
nil-beyond (x ∷ xs) (suc n) most = nil-beyond xs n (omega (arith, most))

-- nor a look
pub look-inside : (me : ℕ) (xs : List ToldItem) (n : ℕ) → is_park_place me xs n ≡ true → n < length xs
look-inside me [] zero h = absurd (cc)
look-inside me [] (suc n) h = absurd (cc)
look-inside me (x ∷ xs) zero h = omega arith
look-inside me (x ∷ xs) (suc n) h = let rest = look-inside me xs n h in omega (arith, rest)

-- the last record
nil-end : (xs : List ToldItem) (t : ToldItem) → is_nil_at (xs ++ t ∷ []) (length xs) ≡ is_nil t.told.body
nil-end [] t = refl
nil-end (x ∷ xs) t = nil-end xs t

look-end : (me : ℕ) (xs : List ToldItem) (t : ToldItem) → is_park_place me (xs ++ t ∷ []) (length xs) ≡ is_empty_look me t.of t.told.body
look-end me [] t = refl
look-end me (x ∷ xs) t = look-end me xs t

take-nil : (b : Body) → is_take b ≡ false → (is_nil b ≡ false) × (is_took b ≡ false)
take-nil (body.Took f l m e) h = absurd (cc)
take-nil (body.Nil f l m) h = absurd (cc)
take-nil _ h = (refl, refl)

took-nil : (b : Body) → is_took b ≡ true → is_nil b ≡ false
took-nil (body.Took f l m e) h = refl
took-nil (body.Nil f l m) h = absurd (cc)
took-nil _ h = absurd (cc)

-- one among records without takes
nil-none : (ts : List ToldItem) (n : ℕ) → list_any (λ t. is_take t.told.body) ts ≡ false → is_nil_at ts n ≡ true → ⊥
nil-none [] zero none h = absurd (cc)
nil-none [] (suc n) none h = absurd (cc)
nil-none (t ∷ ts) zero none h = let apart = (take-nil t.told.body (or_parts (is_take t.told.body) (list_any (λ t. is_take t.told.body) ts) none).0).0 in absurd (cc)
nil-none (t ∷ ts) (suc n) none h = nil-none ts n (or_parts (is_take t.told.body) (list_any (λ t. is_take t.told.body) ts) none).1 h

nil-front : (xs ts : List ToldItem) (n : ℕ) → list_any (λ t. is_take t.told.body) ts ≡ false → is_nil_at (xs ++ ts) n ≡ true → is_nil_at xs n ≡ true
nil-front [] ts n none h = absurd (nil-none ts n none h)
nil-front (x ∷ xs) ts zero none h = h
nil-front (x ∷ xs) ts (suc n) none h = nil-front xs ts n none h

-- one behind one record more
nil-one : (xs : List ToldItem) (t : ToldItem) (n : ℕ) → is_nil_at (xs ++ t ∷ []) n ≡ true → (is_nil_at xs n ≡ true) ⊎ (n ≡ length xs)
nil-one [] t zero h = inr refl
nil-one [] t (suc n) h = let inside = nil-inside (t ∷ []) (suc n) h in absurd (omega (arith, inside))
nil-one (x ∷ xs) t zero h = inl h
nil-one (x ∷ xs) t (suc n) h = by (nil-one xs t n h)
  where
    by : (is_nil_at xs n ≡ true) ⊎ (n ≡ length xs) → (is_nil_at xs n ≡ true) ⊎ (suc n ≡ suc (length xs))
    by (inl a) = inl a
    by (inr b) = inr (ap suc b)

-- Steps.

pub steps-append : (xs ys : List ToldItem) → steps_in (xs ++ ys) ≡ steps_in xs + steps_in ys
steps-append xs ys = count-append (λ t. is_took t.told.body) xs ys

pub steps-none : (ts : List ToldItem) → list_any (λ t. is_take t.told.body) ts ≡ false → steps_in ts ≡ 0
steps-none [] none = refl
steps-none (t ∷ ts) none =
    let parts = or_parts (is_take t.told.body) (list_any (λ t. is_take t.told.body) ts) none in
    let apart = (take-nil t.told.body parts.0).1 in
    rw apart (steps-none ts parts.1)

pub steps-one : (t : ToldItem) → is_took t.told.body ≡ true → steps_in (t ∷ []) ≡ 1
steps-one t took = rw took refl

-- Each `nil` of a turn stands among its parks, behind more records.
module _ (old : List ToldItem) (ks : List ℕ) where
  abbrev pub AreParked : List ToldItem → Type 0
  AreParked told = (n : ℕ) → length old ≤ n → is_nil_at told n ≡ true → holds_place ks n ≡ true

  -- no take is among them
  pub parked-none : (told ts : List ToldItem) → AreParked told → list_any (λ t. is_take t.told.body) ts ≡ false → AreParked (told ++ ts)
  parked-none told ts all none n most h = all n most (nil-front told ts n none h)

  -- an entry was taken
  pub parked-took : (told : List ToldItem) (t : ToldItem) → AreParked told → is_took t.told.body ≡ true → AreParked (told ++ t ∷ [])
  parked-took told t all took n most h = by (nil-one told t n h)
    where
      by : (is_nil_at told n ≡ true) ⊎ (n ≡ length told) → holds_place ks n ≡ true
      by (inl a) = all n most a
      by (inr b) =
          let here : is_nil t.told.body ≡ true = sym (nil-end told t) ∙ subst (λ k. is_nil_at (told ++ t ∷ []) k ≡ true) b h in
          let apart = took-nil t.told.body took in
          absurd (cc)

  -- the queue was found empty
  module _ (me : ℕ) (told new : List ToldItem) (all : AreParked told) (e : AddsEmpty me told new) where
    one-nil : (n : ℕ) → length old ≤ n → is_nil_at new n ≡ true → (holds_place ks n ≡ true) ⊎ ((n + 1 ≡ length new) × (is_park_place me new n ≡ true))
    one-nil n most h = by e.told
      where
        is-empty : is_empty_look me me (body.Nil e.f e.l e.m) ≡ true
        is-empty = rw (same_number me, e.empty) (same_number e.m)

        by : (new ≡ told) ⊎ ((new ≡ told ++ for_object me (plain (body.Nil e.f e.l e.m)) ∷ []) ⊎ (new ≡ told ++ seen_told me e.f e.l e.m ∷ [])) → (holds_place ks n ≡ true) ⊎ ((n + 1 ≡ length new) × (is_park_place me new n ≡ true))
        by (inl same) = inl (all n most (subst (λ xs. is_nil_at xs n ≡ true) same h))
        by (inr (inl same)) = one (nil-one told (for_object me (plain (body.Nil e.f e.l e.m))) n (subst (λ xs. is_nil_at xs n ≡ true) same h))
          where
            one : (is_nil_at told n ≡ true) ⊎ (n ≡ length told) → (holds_place ks n ≡ true) ⊎ ((n + 1 ≡ length new) × (is_park_place me new n ≡ true))
            one (inl a) = inl (all n most a)
            one (inr b) =
                let long = ap length same ∙ length-append told (for_object me (plain (body.Nil e.f e.l e.m)) ∷ []) in
                inr (
                  omega (arith, b, long),
                  subst (λ xs. is_park_place me xs n ≡ true) (sym same)
                      (subst (λ k. is_park_place me (told ++ for_object me (plain (body.Nil e.f e.l e.m)) ∷ []) k ≡ true) (sym b) (look-end me told (for_object me (plain (body.Nil e.f e.l e.m))) ∙ is-empty)),
                )
        by (inr (inr same)) = one (nil-one told (seen_told me e.f e.l e.m) n (subst (λ xs. is_nil_at xs n ≡ true) same h))
          where
            one : (is_nil_at told n ≡ true) ⊎ (n ≡ length told) → (holds_place ks n ≡ true) ⊎ ((n + 1 ≡ length new) × (is_park_place me new n ≡ true))
            one (inl a) = inl (all n most a)
            one (inr b) =
                let apart : false ≡ true = sym (nil-end told (seen_told me e.f e.l e.m)) ∙ subst (λ k. is_nil_at (told ++ seen_told me e.f e.l e.m ∷ []) k ≡ true) b (subst (λ xs. is_nil_at xs n ≡ true) same h) in
                absurd (cc)

    -- and the lane parked behind its last look
    pub empty-parked : (p : ℕ) → is_park_place me new p ≡ true → ((k : ℕ) → p < k → is_park_place me new k ≡ false)
        → (n : ℕ) → length old ≤ n → is_nil_at new n ≡ true → holds_place (ks ++ p ∷ []) n ≡ true
    empty-parked p look last n most h = by (one-nil n most h)
      where
        same : n + 1 ≡ length new → is_park_place me new n ≡ true → (b : Bool) → nat_lt p n ≡ b → n ≡ p
        same end here true test =
            let less : p < n = grind (arith, nat_tests, test) in
            let apart = last n less in
            absurd (cc)
        same end here false test =
            let most : n ≤ p = grind (arith, nat_tests, test) in
            let inside = look-inside me new p look in
            omega (arith, end, most, inside)

        by : (holds_place ks n ≡ true) ⊎ ((n + 1 ≡ length new) × (is_park_place me new n ≡ true)) → holds_place (ks ++ p ∷ []) n ≡ true
        by (inl a) = holds-more ks n p a
        by (inr b) = subst (λ k. holds_place (ks ++ p ∷ []) k ≡ true) (sym (same b.0 b.1 (nat_lt p n) refl)) (holds-last ks p)

    -- or its turn is over
    pub empty-last : (n : ℕ) → length old ≤ n → is_nil_at new n ≡ true → (holds_place ks n ≡ true) ⊎ ((k : ℕ) → n < k → is_nil_at new k ≡ false)
    empty-last n most h = by (one-nil n most h)
      where
        by : (holds_place ks n ≡ true) ⊎ ((n + 1 ≡ length new) × (is_park_place me new n ≡ true)) → (holds_place ks n ≡ true) ⊎ ((k : ℕ) → n < k → is_nil_at new k ≡ false)
        by (inl a) = inl a
        by (inr b) = inr (λ k less. nil-beyond new k (let end = b.0 in omega (arith, less, end)))

-- More records, in which so many steps begin.
pub record Begins (n : ℕ) (old new : List ToldItem) : Type 0 where
  pub ts : List ToldItem
  pub told : new ≡ old ++ ts
  pub steps : steps_in ts ≡ n

pub begins-none : (old new : List ToldItem) → AddsNoTake old new → Begins 0 old new
begins-none old new a = record { ts = a.ts; told = a.told; steps = steps-none a.ts a.none }

pub begins-took : (old new : List ToldItem) → AddsTook old new → Begins 1 old new
begins-took old new a = record { ts = a.t ∷ []; told = a.told; steps = steps-one a.t a.took }

pub begins-empty : (me : ℕ) (old new : List ToldItem) → AddsEmpty me old new → Begins 0 old new
begins-empty me old new a = by a.told
  where
    by : (new ≡ old) ⊎ ((new ≡ old ++ for_object me (plain (body.Nil a.f a.l a.m)) ∷ []) ⊎ (new ≡ old ++ seen_told me a.f a.l a.m ∷ [])) → Begins 0 old new
    by (inl same) = record { ts = []; told = same ∙ sym (append-nil old); steps = refl }
    by (inr (inl same)) = record { ts = for_object me (plain (body.Nil a.f a.l a.m)) ∷ []; told = same; steps = refl }
    by (inr (inr same)) = record { ts = seen_told me a.f a.l a.m ∷ []; told = same; steps = refl }

pub begins-then : (n m : ℕ) (old mid new : List ToldItem) → Begins n old mid → Begins m mid new → Begins (n + m) old new
begins-then n m old mid new one two = record {
  ts = one.ts ++ two.ts;
  told = two.told ∙ ap (λ l. l ++ two.ts) one.told ∙ append_assoc old one.ts two.ts;
  steps = let both = steps-append one.ts two.ts in let first = one.steps in let second = two.steps in omega (arith, both, first, second);
}
