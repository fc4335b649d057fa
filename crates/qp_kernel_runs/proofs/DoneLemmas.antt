-- Where no source may act at the base and all queues are empty, all stimuli are done.
use Rattle.std.proofs.Common.{◌≡◌, ℕ, zero, suc, ◌+◌, ◌-◌, Bool, true, false, ◌&&◌, cond, List, [], ◌∷◌, ◌++◌, map, length, take, drop, refl, sym, ◌∙◌, ap, Option, Some, None}
use Rattle.std.specs.List.{find, enumerate_from}
use Rattle.std.specs.Option.{option_map}
use Rattle.qp_model.specs.declared.stimulus.Stim.{Stim}
use Rattle.qp_model.specs.declared.stimulus.Stim.TheVariants as stim
use Rattle.qp_model.specs.declared.systems.System.{System}
use Rattle.qp_model.specs.OneOrder.{Placed, begun, acted_last, all_empty, may_act, stimuli_after, turned, acts_next}

-- nothing is left behind as many as were done
pub take-all : {A : Type 0} (n : ℕ) (xs : List A) → drop (length (take n xs)) xs ≡ [] → take n xs ≡ xs
take-all zero [] h = refl
take-all zero (x ∷ xs) h = absurd (cc)
take-all (suc n) [] h = refl
take-all (suc n) (x ∷ xs) h = ap (λ ys. x ∷ ys) (take-all n xs h)

-- where a test fails for each, none is found
find-none : {A : Type 0} (p : A → Bool) (xs ys : List A) → find p (xs ++ ys) ≡ None → (find p xs ≡ None) × (find p ys ≡ None)
find-none p [] ys h = (refl, h)
find-none p (x ∷ xs) ys h = by (p x) h (find-none p xs ys)
  where
    by : (b : Bool) → cond b (Some x) (find p (xs ++ ys)) ≡ None → (find p (xs ++ ys) ≡ None → (find p xs ≡ None) × (find p ys ≡ None))
        → (cond b (Some x) (find p xs) ≡ None) × (find p ys ≡ None)
    by true e later = absurd (cc)
    by false e later = later e

find-parts : {A : Type 0} (p : A → Bool) (n : ℕ) (xs : List A) → find p (take n xs) ≡ None → find p (drop n xs) ≡ None → find p xs ≡ None
find-parts p zero xs a b = b
find-parts p (suc n) [] a b = refl
find-parts p (suc n) (x ∷ xs) a b = by (p x) a (λ e. find-parts p n xs e b)
  where
    by : (u : Bool) → cond u (Some x) (find p (take n xs)) ≡ None → (find p (take n xs) ≡ None → find p xs ≡ None) → cond u (Some x) (find p xs) ≡ None
    by true e later = absurd (cc)
    by false e later = later e

turned-none : {A : Type 0} (p : A → Bool) (n : ℕ) (xs : List A) → find p (turned n xs) ≡ None → find p xs ≡ None
turned-none p n xs h = let parts = find-none p (drop n xs) (take n xs) h in find-parts p n xs parts.1 parts.0

may-none : (ss : List Stim) → may_act true ss ≡ false → ss ≡ []
may-none [] h = refl
may-none (s ∷ ss) h = absurd (by s h)
  where
    by : (s : Stim) → may_act true (s ∷ ss) ≡ false → ⊥
    by (stim.Post to ev margin reserve) e = cc
    by (stim.Publish ev reserve) e = cc
    by (stim.Tick rate) e = cc
    by stim.Settle e = cc

-- no source that is counted from n has a stimulus left
abbrev pub LeftNone : List Placed → ℕ → List (List Stim) → Type 0
LeftNone before n [] = Unit {0}
LeftNone before n (ss ∷ more) = (drop (begun before n) ss ≡ []) × LeftNone before (n + 1) more

pub none-left : (sys : System) (stimuli : List (List Stim)) (before : List Placed) → all_empty sys before ≡ true → acts_next sys stimuli before true ≡ None → LeftNone before 1 stimuli
unfolding acts_next stimuli_after
none-left sys stimuli before empty none = each 1 stimuli (turned-none may (acted_last 0 before) (stimuli_after before stimuli) (mapped (λ (x : ℕ × List Stim). record { source = x.0; place = begun before x.0 + 1 }) none))
  where
    may : (ℕ × List Stim) → Bool
    may x = may_act (true && all_empty sys before) x.1

    mapped : {A B : Type 0} (f : A → B) {o : Option A} → option_map f o ≡ None → o ≡ None
    mapped f {o = None} e = refl
    mapped f {o = Some x} e = absurd (cc)

    each : (n : ℕ) (more : List (List Stim)) → find may (map (λ x. (x.0, drop (begun before x.0) x.1)) (enumerate_from n more)) ≡ None → LeftNone before n more
    each n [] h = tt
    each n (ss ∷ more) h = by (may (n, drop (begun before n) ss)) refl h (each (n + 1) more)
      where
        by : (b : Bool) → may (n, drop (begun before n) ss) ≡ b
            → cond b (Some (n, drop (begun before n) ss)) (find may (map (λ x. (x.0, drop (begun before x.0) x.1)) (enumerate_from (n + 1) more))) ≡ None
            → (find may (map (λ x. (x.0, drop (begun before x.0) x.1)) (enumerate_from (n + 1) more)) ≡ None → LeftNone before (n + 1) more)
            → LeftNone before n (ss ∷ more)
        by true is e later = absurd (cc)
        by false is e later = (may-none (drop (begun before n) ss) (ap (λ r. may_act r (drop (begun before n) ss)) (sym empty) ∙ is), later e)
