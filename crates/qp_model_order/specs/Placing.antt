-- Records by their places in the order of a run.
use Rattle.std.specs.Prelude.{◌≡◌, ℕ, Bool, true, not, ◌||◌, List, [], ◌∷◌, map, None}
use Rattle.qp_model.specs.declared.bodies.Body.TheVariants as body
use Rattle.qp_model.specs.Record.{Item}
use Rattle.qp_model.specs.Ends.{is_spill}
use Rattle.qp_model.specs.OneOrder.{Placed, stim_of, look_of}
use Rattle.qp_model_order.specs.RunOrder.{placed}

abbrev pub look_item : ℕ → ℕ → Item
look_item n floor = record { of = 0; body = body.Look n floor }

abbrev pub stim_item : ℕ → ℕ → Item
stim_item p k = record { of = 0; body = body.Stim p k }

abbrev pub spill_item : ℕ → Item
spill_item n = record { of = 0; body = body.Spill n }

-- the records of a lane, each with the lane
abbrev pub all_placed : ℕ → List Item → List Placed
all_placed lane is = map (placed lane) is

-- no look is among them
abbrev pub LooksNone : List Item → Type 0
LooksNone [] = Unit {0}
LooksNone (i ∷ is) = (look_of i.body ≡ None) × LooksNone is

-- the records behind a `stim`: no other `stim`, and no `spill` where none may cut the stimulus
abbrev pub AreBehind : Bool → List Item → Type 0
AreBehind cuts [] = Unit {0}
AreBehind cuts (i ∷ is) = (stim_of i.body ≡ None) × ((cuts || not (is_spill i.body)) ≡ true) × AreBehind cuts is
