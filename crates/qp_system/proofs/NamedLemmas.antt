-- Charts by their names and numbers.
use Rattle.std.proofs.Common.{◌≡◌, ℕ, suc, ◌+◌, ◌-◌, ◌≤◌, Bool, true, false, not, nat_lt, cond, List, [], ◌∷◌, length, Some, None, refl, sym, ◌∙◌, ap, arith}
use Rattle.std.specs.declared.option.Option.{Option}
use Rattle.std.specs.Option.{is_none, option_map}
use Rattle.std.specs.List.{find, position_or_len, slice_get}
use Rattle.std.specs.Str.{bytes_eq}
use Rattle.std.proofs.lemmas.Bool.Decides.{nat_tests}
use Rattle.std.proofs.lemmas.Option.{none-some}
use Rattle.qp_chart_names.specs.Numbering.{number_in}
use Rattle.qp_chart_names.specs.declared.raw.RawChart.{RawChart}
use Rattle.qp_chart_names.proofs.NumberingLemmas.{number_in-above, bytes_eq-sym}
use Rattle.qp_system.specs.SystemOf.{chart_names}
use Rattle.qp_system.specs.Placed.{chart_place}
use Rattle.qp_model.proofs.NumberLemmas.{one-more}

-- the first chart of a name
abbrev pub first_named : List RawChart → List ℕ → Option RawChart
first_named charts name = find (λ c. bytes_eq c.name name) charts

-- the chart of this number, where the first has number k, is the first of its name
abbrev pub IsNamed : ℕ → List RawChart → List ℕ → ℕ → Type 0
IsNamed k charts name n = (c : RawChart) × (slice_get charts (n - k) ≡ Some c) × (first_named charts name ≡ Some c)

-- a number is that of the first chart of the name
pub number-names : (k : ℕ) (charts : List RawChart) (name : List ℕ) (n : ℕ) → number_in k (chart_names charts) name ≡ Some n → IsNamed k charts name n
unfolding number_in
number-names k [] name n h = absurd (none-some n h)
number-names k (c ∷ cs) name n h = by (λ e. number-names (k + 1) cs name n e) (bytes_eq name c.name) refl h
  where
    after : k + 1 ≤ n → n - k ≡ suc (n - (k + 1))
    after high = omega (arith, high)

    by : (number_in (k + 1) (chart_names cs) name ≡ Some n → IsNamed (k + 1) cs name n)
        → (b : Bool) → bytes_eq name c.name ≡ b → cond {A = Option ℕ} b (Some k) (number_in (k + 1) (chart_names cs) name) ≡ Some n → IsNamed k (c ∷ cs) name n
    by later true test e =
        let here : k ≡ n = cc in
        let start : n - k ≡ 0 = omega (arith, here) in
        let found : bytes_eq c.name name ≡ true = bytes_eq-sym c.name name ∙ test in
        (c, rw start refl, rw found refl)
    by later false test e =
        let rest = later e in
        let high = number_in-above (k + 1) (chart_names cs) name n e in
        let passed : bytes_eq c.name name ≡ false = bytes_eq-sym c.name name ∙ test in
        (rest.0, rw (after high) rest.1, rw passed rest.2)

none-later : {A B : Type 0} (b : Bool) (x : A) (y : B) (l : Option A) (r : Option B) → is_none l ≡ is_none r → is_none (cond {A = Option A} b (Some x) l) ≡ is_none (cond {A = Option B} b (Some y) r)
none-later true x y l r h = refl
none-later false x y l r h = h

-- a name that is declared has a number
pub number-none : (k : ℕ) (charts : List RawChart) (name : List ℕ) → is_none (number_in k (chart_names charts) name) ≡ is_none (first_named charts name)
unfolding number_in
number-none k [] name = refl
number-none k (c ∷ cs) name =
    rw (bytes_eq-sym c.name name) (none-later (bytes_eq name c.name) k c (number_in (k + 1) (chart_names cs) name) (first_named cs name) (number-none (k + 1) cs name))

none-less : (n : ℕ) → nat_lt 0 (suc n) ≡ true
none-less n = grind (arith, nat_tests)

-- the place of the first chart of a name, or how many there are
abbrev passed_by : List RawChart → List ℕ → ℕ
passed_by charts name = position_or_len (λ c. bytes_eq c.name name) charts

-- the number of a chart's name, by its place
pub number-position : (k : ℕ) (charts : List RawChart) (name : List ℕ) → number_in k (chart_names charts) name ≡ option_map (λ i. k + i) (chart_place charts name)
unfolding number_in
number-position k [] name = refl
number-position k (c ∷ cs) name = rw (bytes_eq-sym name c.name) (by (number-position (k + 1) cs name) (bytes_eq c.name name))
  where
    shifted : (b : Bool) → option_map (λ i. (k + 1) + i) (cond {A = Option ℕ} b (Some (passed_by cs name)) None) ≡ option_map (λ i. k + i) (cond {A = Option ℕ} b (Some (1 + passed_by cs name)) None)
    shifted true = let same : (k + 1) + passed_by cs name ≡ k + (1 + passed_by cs name) = omega arith in ap (λ n. Some n) same
    shifted false = refl

    by : number_in (k + 1) (chart_names cs) name ≡ option_map (λ i. (k + 1) + i) (cond {A = Option ℕ} (nat_lt (passed_by cs name) (length cs)) (Some (passed_by cs name)) None)
        → (b : Bool) → cond {A = Option ℕ} b (Some k) (number_in (k + 1) (chart_names cs) name)
        ≡ option_map (λ i. k + i) (cond {A = Option ℕ} (nat_lt (cond (not b) (1 + passed_by cs name) 0) (suc (length cs))) (Some (cond (not b) (1 + passed_by cs name) 0)) None)
    by later true = let same : k ≡ k + 0 = omega arith in ap (λ n. Some n) same ∙ ap (λ b. option_map (λ i. k + i) (cond {A = Option ℕ} b (Some 0) None)) (sym (none-less (length cs)))
    by later false = later ∙ shifted (nat_lt (passed_by cs name) (length cs)) ∙ ap (λ b. option_map (λ i. k + i) (cond {A = Option ℕ} b (Some (1 + passed_by cs name)) None)) (sym (one-more (passed_by cs name) (length cs)))
