-- Where the objects of a run rest.
use Rattle.std.specs.Prelude.{◌≡◌, ℕ, false, List, Some}
use Rattle.std.specs.List.{AllByRecursion}
use Rattle.qp_chart.specs.StateTree.{has}
use Rattle.qp_model.specs.declared.systems.System.{System}
use Rattle.qp_model.specs.Told.{ToldItem}
use Rattle.qp_dispatch.specs.declared.objects.Turn.{Turn}
use Rattle.qp_dispatch.specs.declared.objects.Turn.TheVariants as turn
use Rattle.qp_kernel.specs.ZeroEnds.{own_told}
use Rattle.qp_kernel_end.specs.declared.rest.Rest.{Rest}
use Rattle.qp_kernel_end.specs.Rests.{AreRests}
use Rattle.qp_kernel_turns.specs.declared.objects.Objects.{Objects}
use Rattle.qp_kernel_turns.specs.Objects.{leaf_in, vars_in}

-- what an object shows whose step isn't under way
pub record IsShown (xs : Objects) (stack : List ℕ) (x : Rest) : Type 0 where
  pub free : has stack x.priority ≡ false
  pub leaf : leaf_in xs.slots.items x.priority ≡ Some x.leaf
  pub vars : x.vars.items ≡ vars_in xs.slots.items x.priority

abbrev pub ObjectsShow : Objects → List ℕ → List Rest → Type 0
ObjectsShow xs stack rests = AllByRecursion (IsShown xs stack) rests

-- the rests behind a turn, by the records of its lane
abbrev pub RestsAfter : System → List ToldItem → Turn → List Rest → Type 0
RestsAfter sys told turn.Idle rests = AreRests sys (λ o. own_told o told) rests
RestsAfter sys told turn.Stopped rests = AreRests sys (λ o. own_told o told) rests
RestsAfter sys told turn.Memory rests = Unit {0}
