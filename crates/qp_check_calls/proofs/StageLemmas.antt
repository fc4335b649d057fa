-- Tests that are passed.
use Rattle.std.proofs.Common.{◌≡◌, Bool, true, false, Some, refl}
use Rattle.qp_check_calls.specs.CallState.{CallStage}
use Rattle.qp_check_calls.specs.CallStateNext.{only}

-- a test that is passed, and the stage behind it
pub only-passed : (passed : Bool) (s next : CallStage) → only passed s ≡ Some next → (passed ≡ true) × (s ≡ next)
only-passed true s next h = (refl, cc)
only-passed false s next h = absurd (cc)
