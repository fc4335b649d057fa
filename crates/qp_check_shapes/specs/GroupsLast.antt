-- What an object's records are made of, by how its list may end.
use Rattle.std.specs.Prelude.{◌≡◌, ℕ, ◌==◌, Bool, true, false, ◌⊎◌, List, [], length, None}
use Rattle.std.specs.declared.option.Option.{Option}
use Rattle.qp_model.specs.declared.systems.System.{System}
use Rattle.qp_model.specs.declared.bodies.Entry.{Entry}
use Rattle.qp_model.specs.Told.{Told}
use Rattle.qp_model.specs.Shapes.{Drops}
use Rattle.qp_model.specs.Groups.{IsLast}
use Rattle.qp_model.specs.Course.{Cut, Whole, Stopped, Anywhere}
use Rattle.qp_check_shapes.specs.ShapeAction.{IsWhole, IsFront}
use Rattle.qp_check_shapes.specs.ObjectRead.{Kinds}

-- what may stand last behind whole actions: anywhere, any front of an action or of a call that ends in its assertion
unfoldable pub LastOf : System → ℕ → Cut → Option Entry → List Told → Type 0
LastOf sys o Whole now g = IsLast sys o now false g
LastOf sys o Stopped now g = IsLast sys o now true g
LastOf sys o Anywhere now g = (g ≡ []) ⊎ IsFront sys o now g

-- a start doesn't stop at a scheduling point
abbrev pub start_cut : Cut → Cut
start_cut Stopped = Whole
start_cut cut = cut

abbrev pub is_cut : Cut → Bool
is_cut Whole = false
is_cut cut = true

abbrev pub is_anywhere : Cut → Bool
is_anywhere Anywhere = true
is_anywhere cut = false

-- no records, where an object needn't have begun
abbrev pub is_unbegun : Cut → List Told → Bool
is_unbegun Whole told = false
is_unbegun cut told = length told == 0

abbrev pub group_kinds : System → ℕ → Cut → Kinds
group_kinds sys o cut = record {
  act = IsWhole sys o;
  last = LastOf sys o cut;
  first = LastOf sys o (start_cut cut) None;
  release = Drops;
  cuts = is_cut cut;
  anywhere = is_anywhere cut;
}
