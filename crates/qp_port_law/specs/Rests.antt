-- Where objects rest, by what their lanes tell.
use Rattle.std.specs.Prelude.{List, [], ◌∷◌, ⊤}
use Rattle.std.specs.List.{AllByRecursion}
use Rattle.qp_model.specs.declared.systems.System.{System}
use Rattle.qp_model.specs.declared.systems.ObjectDef.{ObjectDef}
use Rattle.qp_calls.specs.LaneView.{LaneView}
use Rattle.qp_kernel.specs.ZeroEnds.{own_told}
use Rattle.qp_kernel_end.specs.declared.rest.Rest.{Rest}
use Rattle.qp_kernel_end.specs.Rests.{IsRestOf}

-- those of each of these objects show what its lane leaves
abbrev pub AreTold : System → List Rest → List ObjectDef → List LaneView → Type 0
AreTold sys rests [] [] = ⊤
AreTold sys rests (d ∷ ds) (v ∷ vs) = AllByRecursion (IsRestOf sys d (own_told d.priority v.told)) rests × AreTold sys rests ds vs
AreTold sys rests [] (v ∷ vs) = ⊥
AreTold sys rests (d ∷ ds) [] = ⊥
