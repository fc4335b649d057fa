use Rattle.std.proofs.Common.{◌∷◌, []}
use Rattle.qp_chart_names.specs.declared.place.Part.TheVariants.{Key, Pos}
use Rattle.qp_chart_names.specs.Keys.{SIGNAL}
use Rattle.qp_chart_names.specs.Codes.{NO_POOL}
use Rattle.qp_chart_names.specs.Faults.{fault_if}
use Rattle.qp_system.specs.Between.{is_without_pool}
use Rattle.qp_system.proofs.PassLemmas.{Passed}
use Rattle.qp_system.proofs.between.pools_pass.Given as goal

abbrev pub invariant-loop-i : goal.invariant-loop-i
invariant-loop-i l = Passed (λ k s. fault_if (is_without_pool l.pools s) NO_POOL (Key SIGNAL ∷ Pos k ∷ [])) l.signals l.i
