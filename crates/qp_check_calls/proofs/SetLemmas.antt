-- What a publication's set leaves.
use Rattle.std.proofs.Common.{◌≡◌, ℕ, ◌==◌, refl, ◌∙◌}
use Rattle.std.specs.declared.option.Option.{Option}
use Rattle.qp_model.specs.declared.bodies.Entry.{Entry}
use Rattle.qp_model.specs.declared.bodies.Body.{Body}
use Rattle.qp_model.specs.declared.bodies.Body.TheVariants as item
use Rattle.qp_model.specs.Told.{Known, Nothing}
use Rattle.qp_model.specs.Parts.{members}
use Rattle.qp_check_calls.specs.CallState.{CallStage}
use Rattle.qp_check_calls.specs.CallStateNext.{only, raises, set_next}

pub set-next-is : (o sig s n set from : ℕ) (e : Entry) (r : Option CallStage) (x : CallStage) (body : Body) (known : Known)
    → r ≡ only (s == from) x → x ≡ raises o e (members set) → from ≡ sig → body ≡ item.Pub s n set → known ≡ Nothing → r ≡ set_next o sig e body known
unfolding set_next
set-next-is o sig s n set from e r x body known is all same is_body is_known = is ∙ rw (all, same, is_body, is_known) refl
