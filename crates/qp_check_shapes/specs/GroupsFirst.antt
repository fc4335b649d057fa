-- What the first record of a group tells.
use Rattle.std.specs.Prelude.{ℕ, ◌==◌, nat_le, Bool, false, List, [], ◌∷◌, if◌then◌else◌, Some, None}
use Rattle.std.specs.declared.option.Option.{Option}
use Rattle.qp_model.specs.declared.bodies.Body.{Body}
use Rattle.qp_model.specs.declared.bodies.Body.TheVariants as item
use Rattle.qp_model.specs.Told.{Told, Known, Nothing, Former}
use Rattle.qp_model.specs.Groups.{is_move}
use Rattle.qp_check_shapes.specs.ShapeRelease.{when}

-- a note beside which nothing is known
abbrev pub is_told_move : Body → Known → Bool
is_told_move body Nothing = is_move body
is_told_move body known = false

-- the ceiling before it was raised
abbrev pub former_of : Body → Known → Option ℕ
former_of (item.Lock ceiling) (Former former) = if nat_le former ceiling then Some former else None
former_of body known = None

-- behind a record that restores this ceiling
abbrev pub unlock_first : ℕ → Body → Known → List Told → Option (List Told)
unlock_first former (item.Unlock ceiling) Nothing rest = when (ceiling == former) rest
unlock_first former body known rest = None

abbrev pub behind_unlock : ℕ → List Told → Option (List Told)
behind_unlock former [] = None
behind_unlock former (t ∷ rest) = unlock_first former t.body t.known rest

-- behind `done`
abbrev pub done_first : Body → Known → List Told → Option (List Told)
done_first item.Done Nothing rest = Some rest
done_first body known rest = None

abbrev pub behind_done : List Told → Option (List Told)
behind_done [] = None
behind_done (t ∷ rest) = done_first t.body t.known rest
