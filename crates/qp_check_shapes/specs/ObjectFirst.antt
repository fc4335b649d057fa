-- What the first records of an object's turns tell.
use Rattle.std.specs.Prelude.{◌==◌, nat_lt, Bool, true, false, ◌&&◌, ◌||◌, List, [], ◌∷◌, length, Some, None}
use Rattle.std.specs.declared.option.Option.{Option}
use Rattle.qp_model.specs.declared.bodies.Entry.{Entry}
use Rattle.qp_model.specs.declared.bodies.Body.{Body}
use Rattle.qp_model.specs.declared.bodies.Body.TheVariants as item
use Rattle.qp_model.specs.Told.{Told, Known, Nothing, Left}
use Rattle.qp_model.specs.ObjectShape.{is_head}
use Rattle.qp_check_shapes.specs.ShapeRelease.{when, behind_back}
use Rattle.qp_check_shapes.specs.ShapePublication.{is_nothing_behind}
use Rattle.qp_check_shapes.specs.ObjectRead.{looks_at_queue}

-- the entry that a step takes
abbrev pub taken_first : Body → Known → Option Entry
taken_first (item.Took f l m e) known = Some e
taken_first body known = None

abbrev pub entry_taken_first : List Told → Option Entry
entry_taken_first [] = None
entry_taken_first (t ∷ rest) = taken_first t.body t.known

-- which row handles the event, or that none does
abbrev pub tells_head : Body → Known → Bool
tells_head body Nothing = is_head body
tells_head body known = false

abbrev pub behind_second : List Told → Option (List Told)
behind_second [] = None
behind_second (t ∷ rest) = when (tells_head t.body t.known) rest

-- behind a step's first two records
abbrev pub behind_head : List Told → Option (List Told)
behind_head [] = None
behind_head (t ∷ rest) = behind_second rest

-- behind a queue found empty, or looked at, where that is recorded
abbrev pub look_first : Bool → Body → Known → List Told → Option (List Told)
look_first nils body Nothing rest = when (looks_at_queue body && nils) rest
look_first nils body known rest = None

abbrev pub behind_look : Bool → List Told → Option (List Told)
behind_look nils [] = None
behind_look nils (t ∷ rest) = look_first nils t.body t.known rest

-- behind `begin`
abbrev pub begin_first : Body → Known → List Told → Option (List Told)
begin_first item.Begin Nothing rest = Some rest
begin_first body known rest = None

abbrev pub behind_begin : List Told → Option (List Told)
behind_begin [] = None
behind_begin (t ∷ rest) = begin_first t.body t.known rest

-- `spent` and nothing behind it, or nothing at all
abbrev pub spent_first : Body → Known → List Told → Bool
spent_first item.Spent Nothing rest = length rest == 0
spent_first body known rest = false

abbrev pub is_spent_list : List Told → Bool
is_spent_list [] = true
is_spent_list (t ∷ rest) = spent_first t.body t.known rest

-- a front of the release of an entry
abbrev pub drop_front : Entry → Body → Known → List Told → Bool
drop_front e (item.Dec p b d k) (Left left) rest =
    (p == e.pool) && (b == e.block) && (k == e.name) && ((length rest == 0) || (left == 0) && is_nothing_behind (behind_back p b d rest))
drop_front e body known rest = false

abbrev pub release_first : Entry → List Told → Bool
release_first e [] = true
release_first e (t ∷ rest) = nat_lt 0 e.pool && drop_front e t.body t.known rest
