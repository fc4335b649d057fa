-- What the readers of records prove of each form: its numbers are those of a list of its length, and any other list is none of it.
use Rattle.std.proofs.Common.{◌≡◌, ◌≤◌, ◌<◌, ℕ, List, [], ◌∷◌, length, get_or, refl, arith}
use Rattle.qp_model.specs.declared.bodies.Body.{Body}
use Rattle.qp_model.specs.declared.bodies.Body.TheVariants.{Malformed}
use Rattle.qp_model.specs.Record.{plain_body, one, two, three, four, five, six, seven}

pub is-bare : (x : Body) (nums : List ℕ) → length nums < 1 → x ≡ plain_body x nums
is-bare x [] most = refl
is-bare x (y ∷ more) most = absurd (omega arith)

pub above-bare : (x : Body) (nums : List ℕ) → 1 ≤ length nums → Malformed ≡ plain_body x nums
above-bare x [] many = absurd (omega arith)
above-bare x (y ∷ more) many = refl

pub is-one : (x : ℕ → Body) (nums : List ℕ) → 1 ≤ length nums → length nums < 2 → x (get_or nums 0 0) ≡ one x nums
is-one x [] least most = absurd (omega arith)
is-one x (a ∷ []) least most = refl
is-one x (a ∷ y ∷ more) least most = absurd (omega arith)

pub below-one : (x : ℕ → Body) (nums : List ℕ) → length nums < 1 → Malformed ≡ one x nums
below-one x [] few = refl
below-one x (a ∷ more) few = absurd (omega arith)

pub above-one : (x : ℕ → Body) (nums : List ℕ) → 2 ≤ length nums → Malformed ≡ one x nums
above-one x [] many = absurd (omega arith)
above-one x (a ∷ []) many = absurd (omega arith)
above-one x (a ∷ y ∷ more) many = refl

pub is-two : (x : ℕ → ℕ → Body) (nums : List ℕ) → 2 ≤ length nums → length nums < 3 → x (get_or nums 0 0) (get_or nums 1 0) ≡ two x nums
is-two x [] least most = absurd (omega arith)
is-two x (a ∷ []) least most = absurd (omega arith)
is-two x (a ∷ b ∷ []) least most = refl
is-two x (a ∷ b ∷ y ∷ more) least most = absurd (omega arith)

pub below-two : (x : ℕ → ℕ → Body) (nums : List ℕ) → length nums < 2 → Malformed ≡ two x nums
below-two x [] few = refl
below-two x (a ∷ []) few = refl
below-two x (a ∷ b ∷ more) few = absurd (omega arith)

pub above-two : (x : ℕ → ℕ → Body) (nums : List ℕ) → 3 ≤ length nums → Malformed ≡ two x nums
above-two x [] many = absurd (omega arith)
above-two x (a ∷ []) many = absurd (omega arith)
above-two x (a ∷ b ∷ []) many = absurd (omega arith)
above-two x (a ∷ b ∷ y ∷ more) many = refl

pub is-three : (x : ℕ → ℕ → ℕ → Body) (nums : List ℕ) → 3 ≤ length nums → length nums < 4 → x (get_or nums 0 0) (get_or nums 1 0) (get_or nums 2 0) ≡ three x nums
is-three x [] least most = absurd (omega arith)
is-three x (a ∷ []) least most = absurd (omega arith)
is-three x (a ∷ b ∷ []) least most = absurd (omega arith)
is-three x (a ∷ b ∷ c ∷ []) least most = refl
is-three x (a ∷ b ∷ c ∷ y ∷ more) least most = absurd (omega arith)

pub below-three : (x : ℕ → ℕ → ℕ → Body) (nums : List ℕ) → length nums < 3 → Malformed ≡ three x nums
below-three x [] few = refl
below-three x (a ∷ []) few = refl
below-three x (a ∷ b ∷ []) few = refl
below-three x (a ∷ b ∷ c ∷ more) few = absurd (omega arith)

pub above-three : (x : ℕ → ℕ → ℕ → Body) (nums : List ℕ) → 4 ≤ length nums → Malformed ≡ three x nums
above-three x [] many = absurd (omega arith)
above-three x (a ∷ []) many = absurd (omega arith)
above-three x (a ∷ b ∷ []) many = absurd (omega arith)
above-three x (a ∷ b ∷ c ∷ []) many = absurd (omega arith)
above-three x (a ∷ b ∷ c ∷ y ∷ more) many = refl

pub is-four : (x : ℕ → ℕ → ℕ → ℕ → Body) (nums : List ℕ) → 4 ≤ length nums → length nums < 5 → x (get_or nums 0 0) (get_or nums 1 0) (get_or nums 2 0) (get_or nums 3 0) ≡ four x nums
is-four x [] least most = absurd (omega arith)
is-four x (a ∷ []) least most = absurd (omega arith)
is-four x (a ∷ b ∷ []) least most = absurd (omega arith)
is-four x (a ∷ b ∷ c ∷ []) least most = absurd (omega arith)
is-four x (a ∷ b ∷ c ∷ d ∷ []) least most = refl
is-four x (a ∷ b ∷ c ∷ d ∷ y ∷ more) least most = absurd (omega arith)

pub below-four : (x : ℕ → ℕ → ℕ → ℕ → Body) (nums : List ℕ) → length nums < 4 → Malformed ≡ four x nums
below-four x [] few = refl
below-four x (a ∷ []) few = refl
below-four x (a ∷ b ∷ []) few = refl
below-four x (a ∷ b ∷ c ∷ []) few = refl
below-four x (a ∷ b ∷ c ∷ d ∷ more) few = absurd (omega arith)

pub above-four : (x : ℕ → ℕ → ℕ → ℕ → Body) (nums : List ℕ) → 5 ≤ length nums → Malformed ≡ four x nums
above-four x [] many = absurd (omega arith)
above-four x (a ∷ []) many = absurd (omega arith)
above-four x (a ∷ b ∷ []) many = absurd (omega arith)
above-four x (a ∷ b ∷ c ∷ []) many = absurd (omega arith)
above-four x (a ∷ b ∷ c ∷ d ∷ []) many = absurd (omega arith)
above-four x (a ∷ b ∷ c ∷ d ∷ y ∷ more) many = refl

pub is-five : (x : ℕ → ℕ → ℕ → ℕ → ℕ → Body) (nums : List ℕ) → 5 ≤ length nums → length nums < 6 → x (get_or nums 0 0) (get_or nums 1 0) (get_or nums 2 0) (get_or nums 3 0) (get_or nums 4 0) ≡ five x nums
is-five x [] least most = absurd (omega arith)
is-five x (a ∷ []) least most = absurd (omega arith)
is-five x (a ∷ b ∷ []) least most = absurd (omega arith)
is-five x (a ∷ b ∷ c ∷ []) least most = absurd (omega arith)
is-five x (a ∷ b ∷ c ∷ d ∷ []) least most = absurd (omega arith)
is-five x (a ∷ b ∷ c ∷ d ∷ e ∷ []) least most = refl
is-five x (a ∷ b ∷ c ∷ d ∷ e ∷ y ∷ more) least most = absurd (omega arith)

pub below-five : (x : ℕ → ℕ → ℕ → ℕ → ℕ → Body) (nums : List ℕ) → length nums < 5 → Malformed ≡ five x nums
below-five x [] few = refl
below-five x (a ∷ []) few = refl
below-five x (a ∷ b ∷ []) few = refl
below-five x (a ∷ b ∷ c ∷ []) few = refl
below-five x (a ∷ b ∷ c ∷ d ∷ []) few = refl
below-five x (a ∷ b ∷ c ∷ d ∷ e ∷ more) few = absurd (omega arith)

pub above-five : (x : ℕ → ℕ → ℕ → ℕ → ℕ → Body) (nums : List ℕ) → 6 ≤ length nums → Malformed ≡ five x nums
above-five x [] many = absurd (omega arith)
above-five x (a ∷ []) many = absurd (omega arith)
above-five x (a ∷ b ∷ []) many = absurd (omega arith)
above-five x (a ∷ b ∷ c ∷ []) many = absurd (omega arith)
above-five x (a ∷ b ∷ c ∷ d ∷ []) many = absurd (omega arith)
above-five x (a ∷ b ∷ c ∷ d ∷ e ∷ []) many = absurd (omega arith)
above-five x (a ∷ b ∷ c ∷ d ∷ e ∷ y ∷ more) many = refl

pub is-six : (x : ℕ → ℕ → ℕ → ℕ → ℕ → ℕ → Body) (nums : List ℕ) → 6 ≤ length nums → length nums < 7 → x (get_or nums 0 0) (get_or nums 1 0) (get_or nums 2 0) (get_or nums 3 0) (get_or nums 4 0) (get_or nums 5 0) ≡ six x nums
is-six x [] least most = absurd (omega arith)
is-six x (a ∷ []) least most = absurd (omega arith)
is-six x (a ∷ b ∷ []) least most = absurd (omega arith)
is-six x (a ∷ b ∷ c ∷ []) least most = absurd (omega arith)
is-six x (a ∷ b ∷ c ∷ d ∷ []) least most = absurd (omega arith)
is-six x (a ∷ b ∷ c ∷ d ∷ e ∷ []) least most = absurd (omega arith)
is-six x (a ∷ b ∷ c ∷ d ∷ e ∷ f ∷ []) least most = refl
is-six x (a ∷ b ∷ c ∷ d ∷ e ∷ f ∷ y ∷ more) least most = absurd (omega arith)

pub below-six : (x : ℕ → ℕ → ℕ → ℕ → ℕ → ℕ → Body) (nums : List ℕ) → length nums < 6 → Malformed ≡ six x nums
below-six x [] few = refl
below-six x (a ∷ []) few = refl
below-six x (a ∷ b ∷ []) few = refl
below-six x (a ∷ b ∷ c ∷ []) few = refl
below-six x (a ∷ b ∷ c ∷ d ∷ []) few = refl
below-six x (a ∷ b ∷ c ∷ d ∷ e ∷ []) few = refl
below-six x (a ∷ b ∷ c ∷ d ∷ e ∷ f ∷ more) few = absurd (omega arith)

pub above-six : (x : ℕ → ℕ → ℕ → ℕ → ℕ → ℕ → Body) (nums : List ℕ) → 7 ≤ length nums → Malformed ≡ six x nums
above-six x [] many = absurd (omega arith)
above-six x (a ∷ []) many = absurd (omega arith)
above-six x (a ∷ b ∷ []) many = absurd (omega arith)
above-six x (a ∷ b ∷ c ∷ []) many = absurd (omega arith)
above-six x (a ∷ b ∷ c ∷ d ∷ []) many = absurd (omega arith)
above-six x (a ∷ b ∷ c ∷ d ∷ e ∷ []) many = absurd (omega arith)
above-six x (a ∷ b ∷ c ∷ d ∷ e ∷ f ∷ []) many = absurd (omega arith)
above-six x (a ∷ b ∷ c ∷ d ∷ e ∷ f ∷ y ∷ more) many = refl

pub is-seven : (x : ℕ → ℕ → ℕ → ℕ → ℕ → ℕ → ℕ → Body) (nums : List ℕ) → 7 ≤ length nums → length nums < 8 → x (get_or nums 0 0) (get_or nums 1 0) (get_or nums 2 0) (get_or nums 3 0) (get_or nums 4 0) (get_or nums 5 0) (get_or nums 6 0) ≡ seven x nums
is-seven x [] least most = absurd (omega arith)
is-seven x (a ∷ []) least most = absurd (omega arith)
is-seven x (a ∷ b ∷ []) least most = absurd (omega arith)
is-seven x (a ∷ b ∷ c ∷ []) least most = absurd (omega arith)
is-seven x (a ∷ b ∷ c ∷ d ∷ []) least most = absurd (omega arith)
is-seven x (a ∷ b ∷ c ∷ d ∷ e ∷ []) least most = absurd (omega arith)
is-seven x (a ∷ b ∷ c ∷ d ∷ e ∷ f ∷ []) least most = absurd (omega arith)
is-seven x (a ∷ b ∷ c ∷ d ∷ e ∷ f ∷ g ∷ []) least most = refl
is-seven x (a ∷ b ∷ c ∷ d ∷ e ∷ f ∷ g ∷ y ∷ more) least most = absurd (omega arith)

pub below-seven : (x : ℕ → ℕ → ℕ → ℕ → ℕ → ℕ → ℕ → Body) (nums : List ℕ) → length nums < 7 → Malformed ≡ seven x nums
below-seven x [] few = refl
below-seven x (a ∷ []) few = refl
below-seven x (a ∷ b ∷ []) few = refl
below-seven x (a ∷ b ∷ c ∷ []) few = refl
below-seven x (a ∷ b ∷ c ∷ d ∷ []) few = refl
below-seven x (a ∷ b ∷ c ∷ d ∷ e ∷ []) few = refl
below-seven x (a ∷ b ∷ c ∷ d ∷ e ∷ f ∷ []) few = refl
below-seven x (a ∷ b ∷ c ∷ d ∷ e ∷ f ∷ g ∷ more) few = absurd (omega arith)

pub above-seven : (x : ℕ → ℕ → ℕ → ℕ → ℕ → ℕ → ℕ → Body) (nums : List ℕ) → 8 ≤ length nums → Malformed ≡ seven x nums
above-seven x [] many = absurd (omega arith)
above-seven x (a ∷ []) many = absurd (omega arith)
above-seven x (a ∷ b ∷ []) many = absurd (omega arith)
above-seven x (a ∷ b ∷ c ∷ []) many = absurd (omega arith)
above-seven x (a ∷ b ∷ c ∷ d ∷ []) many = absurd (omega arith)
above-seven x (a ∷ b ∷ c ∷ d ∷ e ∷ []) many = absurd (omega arith)
above-seven x (a ∷ b ∷ c ∷ d ∷ e ∷ f ∷ []) many = absurd (omega arith)
above-seven x (a ∷ b ∷ c ∷ d ∷ e ∷ f ∷ g ∷ []) many = absurd (omega arith)
above-seven x (a ∷ b ∷ c ∷ d ∷ e ∷ f ∷ g ∷ y ∷ more) many = refl
