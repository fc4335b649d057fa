-- Which records the parts of a turn add: those of takes, and others.
use Rattle.std.specs.Prelude.{◌≡◌, ◌⊎◌, ℕ, ◌+◌, Bool, true, false, List, [], ◌∷◌, ◌++◌, Ok, Err}
use Rattle.std.specs.declared.result.Result.{Result}
use Rattle.std.specs.List.{list_any}
use Rattle.qp_model.specs.declared.bodies.Body.{Body}
use Rattle.qp_model.specs.declared.bodies.Body.TheVariants.{Took, Nil}
use Rattle.qp_model.specs.Told.{ToldItem, for_object, plain}
use Rattle.qp_kernel.specs.Turning.{seen_told}
use Rattle.qp_kernel_turns.specs.declared.halting.Halt.{Halt}
use Rattle.qp_port_lanes.specs.declared.home.Home.{Home}
use Rattle.qp_model.specs.OutputSummary.{is_took}

-- a record of a take: of an entry, or of an empty queue
abbrev pub is_take : Body → Bool
is_take (Took f l m e) = true
is_take (Nil f l m) = true
is_take _ = false

-- more records came, and none of a take
pub record AddsNoTake (old new : List ToldItem) : Type 0 where
  pub ts : List ToldItem
  pub told : new ≡ old ++ ts
  pub none : list_any (λ t. is_take t.told.body) ts ≡ false

-- an entry was taken
pub record AddsTook (old new : List ToldItem) : Type 0 where
  pub t : ToldItem
  pub told : new ≡ old ++ t ∷ []
  pub took : is_took t.told.body ≡ true

-- the queue of object `me` was found empty: one record came that says so, or none
pub record AddsEmpty (me : ℕ) (old new : List ToldItem) : Type 0 where
  pub f : ℕ
  pub l : ℕ
  pub m : ℕ
  pub empty : f + l ≡ m
  pub told : (new ≡ old) ⊎ ((new ≡ old ++ for_object me (plain (Nil f l m)) ∷ []) ⊎ (new ≡ old ++ seen_told me f l m ∷ []))

-- the turn is over, with no other step under way than before
abbrev pub TakesNoMore : Home → Home → List ToldItem → List ToldItem → Type 0
TakesNoMore x y old new = AddsNoTake old new × (y.busy ≡ x.busy)

-- where the queue is looked at in the place of a take
abbrev pub LookTakes : Home → Home → List ToldItem → List ToldItem → Result (Unit {0}) Halt → Type 0
LookTakes x y old new (Ok u) = AddsEmpty x.me old new
LookTakes x y old new (Err h) = TakesNoMore x y old new

-- where a step begins
abbrev pub BeginTakes : Home → Home → List ToldItem → List ToldItem → Result Bool Halt → Type 0
BeginTakes x y old new (Ok true) = AddsTook old new
BeginTakes x y old new (Ok false) = AddsEmpty x.me old new
BeginTakes x y old new (Err h) = TakesNoMore x y old new

-- and within a step
abbrev pub FinishTakes : Home → Home → List ToldItem → List ToldItem → Result (Unit {0}) Halt → Type 0
FinishTakes x y old new (Ok u) = AddsNoTake old new
FinishTakes x y old new (Err h) = TakesNoMore x y old new
