-- Whole actions, calls that end in their assertions, publications up to a post, and fronts of either.
use Rattle.std.specs.Prelude.{ℕ, List, ◌++◌, ◌⊎◌, IsTrue}
use Rattle.std.specs.declared.option.Option.{Option}
use Rattle.qp_model.specs.declared.systems.System.{System}
use Rattle.qp_model.specs.declared.bodies.Entry.{Entry}
use Rattle.qp_model.specs.Told.{Told}
use Rattle.qp_model.specs.Calls as call
use Rattle.qp_model.specs.Calls.{Call, Answer, Granted, is_assertion}
use Rattle.qp_model.specs.Shapes.{FitsAny}
use Rattle.qp_model.specs.Groups.{ends_in_post}
use Rattle.qp_check_shapes.specs.ShapeUnit.{IsUnit}

-- the records of an action: those of a unit, or of a publication that is made whole
pub data IsWhole (sys : System) (o : ℕ) (now : Option Entry) (g : List Told) : Type 0 where
  OfUnit : IsUnit sys o now g → IsWhole sys o now g
  OfPublication : (sig : ℕ) (pars : List ℕ) (reserve : Option ℕ) → FitsAny sys o now (call.Publish sig pars reserve) Granted g → IsWhole sys o now g

-- all of them are those of a call that ends in its assertion
abbrev pub IsCut : System → ℕ → Option Entry → List Told → Type 0
IsCut sys o now g = (x : Call) × (answer : Answer) × FitsAny sys o now x answer g × IsTrue (is_assertion answer)

-- they are those of a publication up to one of its posts
abbrev pub StopsInside : System → ℕ → Option Entry → List Told → Type 0
StopsInside sys o now g =
    (sig : ℕ) × (pars : List ℕ) × (reserve : Option ℕ) × (answer : Answer) × (back : List Told)
    × FitsAny sys o now (call.Publish sig pars reserve) answer (g ++ back) × IsTrue (ends_in_post g)

-- they begin an action, or a call that ends in its assertion
abbrev pub IsFront : System → ℕ → Option Entry → List Told → Type 0
IsFront sys o now g = (back : List Told) × (IsWhole sys o now (g ++ back) ⊎ IsCut sys o now (g ++ back))
