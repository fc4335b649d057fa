-- The parameters that the reader keeps.
use Rattle.std.proofs.Common.{◌≡◌, ℕ, ◌+◌, ◌^◌, ◌<◌, ◌≤◌, ◌⊎◌, inl, inr, Bool, true, false, cond, not, ◌&&◌, ◌||◌, ◌==◌, nat_lt, List, [], ◌∷◌, ◌++◌, length, Some, None, Ok, Err, refl, sym, ◌∙◌, ap, arith, append_assoc, length-append, is_some}
use Rattle.std.specs.declared.option.Option.{Option}
use Rattle.std.specs.Option.{option_map}
use Rattle.std.proofs.Math.Bool.{and-true, and_assoc}
use Rattle.std.proofs.lemmas.Bool.{and_parts, ltb-true}
use Rattle.std.proofs.lemmas.Bool.Decides.{nat_tests}
use Rattle.std.proofs.lemmas.List.{append-nil}
use Rattle.arrayvec.specs.ArrayVec.{ArrayVec}
use Rattle.qp_stim.specs.declared.heard.Pars.{Pars}
use Rattle.qp_stim.specs.declared.names.Signal.{Signal}
use Rattle.qp_stim.specs.declared.verdict.LineStep.{LineStep}
use Rattle.qp_stim.specs.Numbers.{number_of_token}
use Rattle.qp_stim.specs.Grammar.{numbers_of_tokens}
use Rattle.qp_chart_text.specs.Tokens.{◌>>=◌}
use Rattle.qp_stim.specs.Codes.{all_fit, source_stands}
use Rattle.qp_stim.specs.Reading.{no_pars, with_par, with_pars, admits}
use Rattle.qp_model.specs.WordOf.{fitting_number}
use Rattle.qp_stim.proofs.NumbersLemmas.{held-small}

none_by : (p : Pars) (o : Option ℕ) (os : Option (List ℕ)) → option_map fitting_number o ≡ None
    → option_map (with_pars p) (o >>= λ n. os >>= λ ns. Some (n ∷ ns)) ≡ None
none_by p None os h = refl
none_by p (Some n) os h = cc

-- a token that is no number
pub numbers_of-None : (p : Pars) (token : List ℕ) (more : List (List ℕ)) → option_map fitting_number (number_of_token token) ≡ None
    → option_map (with_pars p) (numbers_of_tokens (token ∷ more)) ≡ None
unfolding numbers_of_tokens
numbers_of-None p token more h = none_by p (number_of_token token) (numbers_of_tokens more) h

more_by : (p : Pars) (o : Option ℕ) (os : Option (List ℕ)) (n : Option ℕ) → option_map fitting_number o ≡ Some n
    → option_map (with_pars p) (o >>= λ n. os >>= λ ns. Some (n ∷ ns)) ≡ option_map (with_pars (with_par p n)) os
more_by p None os n h = cc
more_by p (Some k) None n h = refl
more_by p (Some k) (Some ks) n h = let same : fitting_number k ≡ n = cc in ap (λ x. Some (with_pars (with_par p x) ks)) same

-- a token that is one
pub numbers_of-Some : (p : Pars) (token : List ℕ) (more : List (List ℕ)) (n : Option ℕ) → option_map fitting_number (number_of_token token) ≡ Some n
    → option_map (with_pars p) (numbers_of_tokens (token ∷ more)) ≡ option_map (with_pars (with_par p n)) (numbers_of_tokens more)
unfolding numbers_of_tokens
numbers_of-Some p token more n h = more_by p (number_of_token token) (numbers_of_tokens more) n h

pub numbers_of-end : (p : Pars) → option_map (with_pars p) (numbers_of_tokens []) ≡ Some p
unfolding numbers_of_tokens
numbers_of-end p = refl

full_by : (p : Pars) (n : ℕ) (b : Bool) → (cond b (record p { many = true }) (record p { kept = record { items = p.kept.items ++ n ∷ [] } })).fit ≡ p.fit
full_by p n true = refl
full_by p n false = refl

fit_by : (p : Pars) (n : ℕ) (b : Bool) → (with_par p (cond b (Some n) None)).fit ≡ (p.fit && b)
fit_by p n true = full_by p n (length p.kept.items == 8) ∙ and_yes p.fit
  where
    and_yes : (b : Bool) → b ≡ (b && true)
    and_yes true = refl
    and_yes false = refl
fit_by p n false = and_no p.fit
  where
    and_no : (b : Bool) → false ≡ (b && false)
    and_no true = refl
    and_no false = refl

-- whether all parameters fit
pub with_pars-fit : (p : Pars) (ns : List ℕ) → (with_pars p ns).fit ≡ (p.fit && all_fit ns)
with_pars-fit p [] = sym (and-true p.fit)
with_pars-fit p (n ∷ ns) =
    with_pars-fit (with_par p (fitting_number n)) ns
    ∙ ap (λ b. b && all_fit ns) (fit_by p n (nat_lt n (2 ^ 64)))
    ∙ and_assoc p.fit (nat_lt n (2 ^ 64)) (all_fit ns)

-- a parameter that fits, and for which there is room
with_par-room : (p : Pars) (n : ℕ) → nat_lt n (2 ^ 64) ≡ true → length p.kept.items < 8
    → with_par p (fitting_number n) ≡ record p { kept = record { items = p.kept.items ++ n ∷ [] } }
with_par-room p n fits room =
    let some : fitting_number n ≡ Some n = held-small n (ltb-true n (2 ^ 64) fits) in
    let short : (length p.kept.items == 8) ≡ false = grind (arith, nat_tests) in
    ap (with_par p) some ∙ ap (λ b. cond b (record p { many = true }) (record p { kept = record { items = p.kept.items ++ n ∷ [] } })) short

with_par-full : (p : Pars) (n : ℕ) → nat_lt n (2 ^ 64) ≡ true → length p.kept.items ≡ 8 → with_par p (fitting_number n) ≡ record p { many = true }
with_par-full p n fits full =
    let some : fitting_number n ≡ Some n = held-small n (ltb-true n (2 ^ 64) fits) in
    let long : (length p.kept.items == 8) ≡ true = grind (arith, nat_tests) in
    ap (with_par p) some ∙ ap (λ b. cond b (record p { many = true }) (record p { kept = record { items = p.kept.items ++ n ∷ [] } })) long

-- few parameters are all kept
pub with_pars-few : (items : List ℕ) (fit many : Bool) (ns : List ℕ) → all_fit ns ≡ true → length items + length ns ≤ 8
    → with_pars (record { kept = record { items = items }; fit = fit; many = many }) ns ≡ record { kept = record { items = items ++ ns }; fit = fit; many = many }
with_pars-few items fit many [] all few = ap (λ (l : List ℕ). let p : Pars = record { kept = record { items = l }; fit = fit; many = many } in p) (sym (append-nil items))
with_pars-few items fit many (n ∷ ns) all few =
    let parts = and_parts (nat_lt n (2 ^ 64)) (all_fit ns) all in
    ap (λ p. with_pars p ns) (with_par-room (record { kept = record { items = items }; fit = fit; many = many }) n parts.0 (omega arith))
    ∙ with_pars-few (items ++ n ∷ []) fit many ns parts.1 (omega (arith, length-append {A = ℕ}))
    ∙ ap (λ (l : List ℕ). let p : Pars = record { kept = record { items = l }; fit = fit; many = many } in p) (append_assoc items (n ∷ []) ns)

-- many parameters are noticed
pub with_pars-many : (p : Pars) (ns : List ℕ) → all_fit ns ≡ true → length p.kept.items ≤ 8 → ((p.many ≡ true) ⊎ (8 < length p.kept.items + length ns))
    → (with_pars p ns).many ≡ true
with_pars-many p [] all room (inl h) = h
with_pars-many p [] all room (inr h) = absurd (omega arith)
with_pars-many p (n ∷ ns) all room h =
    let parts = and_parts (nat_lt n (2 ^ 64)) (all_fit ns) all in
    let full : length p.kept.items ≡ 8 → (with_pars (with_par p (fitting_number n)) ns).many ≡ true = λ eight.
    ap (λ q. (with_pars q ns).many) (with_par-full p n parts.0 eight)
    ∙ with_pars-many (record p { many = true }) ns parts.1 room (inl refl) in
    let room' : length p.kept.items < 8 → (with_pars (with_par p (fitting_number n)) ns).many ≡ true = λ short.
    ap (λ q. (with_pars q ns).many) (with_par-room p n parts.0 short)
    ∙ with_pars-many (record p { kept = record { items = p.kept.items ++ n ∷ [] } }) ns parts.1 (omega (arith, length-append {A = ℕ}))
    (elim h [ inl m ↦ inl m | inr l ↦ inr (omega (arith, length-append {A = ℕ})) ]) in
    elim (eight_or p.kept.items room) [ inl e ↦ full e | inr l ↦ room' l ]
  where
    eight_or : (items : List ℕ) → length items ≤ 8 → (length items ≡ 8) ⊎ (length items < 8)
    eight_or items h = grind arith

not_equal : (n k : ℕ) → k < n → not (n == k) ≡ true
not_equal n k h = grind (arith, nat_tests)

few_or_many : (pars : List ℕ) → (length pars ≤ 8) ⊎ (8 < length pars)
few_or_many pars = grind arith

-- where a parameter is out of range
admits-out : (sources : ℕ) (signal : Signal) (p : Pars) (reserve : Option ℕ) (step : LineStep) → p.fit ≡ false → admits sources signal p reserve step ≡ Err 3
admits-out sources signal p reserve step h =
    ap (λ b. cond (not b || (signal.fixed && is_some reserve)) (Err 3) (cond (sources == 0) (Err 4) (cond (p.many || not (length p.kept.items == signal.params)) (Err 5) (Ok step)))) h

-- where there are more than eight
admits-many : (sources : ℕ) (signal : Signal) (p : Pars) (reserve : Option ℕ) (a b : LineStep) → p.many ≡ true
    → admits sources signal p reserve a ≡ source_stands sources (not p.fit || (signal.fixed && is_some reserve)) true b
admits-many sources signal p reserve a b h =
    ap (λ m. cond (not p.fit || (signal.fixed && is_some reserve)) (Err 3) (cond (sources == 0) (Err 4) (cond (m || not (length p.kept.items == signal.params)) (Err 5) (Ok a)))) h

stands-out : (sources : ℕ) (fit fixed wrong : Bool) (step : LineStep) → fit ≡ false → Err 3 ≡ source_stands sources (not fit || fixed) wrong step
stands-out sources true fixed wrong step h = cc
stands-out sources false fixed wrong step h = refl

admits_by : (sources : ℕ) (signal : Signal) (pars : List ℕ) (reserve : Option ℕ) (made : ArrayVec ℕ → LineStep) → signal.params ≤ 8
    → (fits : Bool) → all_fit pars ≡ fits
    → admits sources signal (with_pars no_pars pars) reserve (made (with_pars no_pars pars).kept)
    ≡ source_stands sources (not (all_fit pars) || (signal.fixed && is_some reserve)) (not (length pars == signal.params)) (made (record { items = pars }))
admits_by sources signal pars reserve made few false h =
    admits-out sources signal (with_pars no_pars pars) reserve (made (with_pars no_pars pars).kept) (with_pars-fit no_pars pars ∙ h)
    ∙ stands-out sources (all_fit pars) (signal.fixed && is_some reserve) (not (length pars == signal.params)) (made (record { items = pars })) h
admits_by sources signal pars reserve made few true h =
    elim (few_or_many pars) [
      | inl le ↦
          ap (λ p. admits sources signal p reserve (made p.kept)) (with_pars-few [] true false pars h (omega (arith, le)))
          ∙ ap (λ b. source_stands sources (not b || (signal.fixed && is_some reserve)) (not (length pars == signal.params)) (made (record { items = pars }))) (sym h)
      | inr gt ↦
          admits-many sources signal (with_pars no_pars pars) reserve (made (with_pars no_pars pars).kept) (made (record { items = pars }))
          (with_pars-many no_pars pars h (omega arith) (inr (omega (arith, gt))))
          ∙ ap (λ b. source_stands sources (not b || (signal.fixed && is_some reserve)) true (made (record { items = pars }))) (with_pars-fit no_pars pars)
          ∙ ap (λ w. source_stands sources (not (all_fit pars) || (signal.fixed && is_some reserve)) w (made (record { items = pars })))
          (sym (not_equal (length pars) signal.params (omega arith)))
    ]

-- the codes 3 to 5 of the parameters, by what was kept of them
pub admits-pars : (sources : ℕ) (signal : Signal) (pars : List ℕ) (reserve : Option ℕ) (made : ArrayVec ℕ → LineStep) → signal.params ≤ 8
    → admits sources signal (with_pars no_pars pars) reserve (made (with_pars no_pars pars).kept)
    ≡ source_stands sources (not (all_fit pars) || (signal.fixed && is_some reserve)) (not (length pars == signal.params)) (made (record { items = pars }))
admits-pars sources signal pars reserve made few = admits_by sources signal pars reserve made few (all_fit pars) refl
