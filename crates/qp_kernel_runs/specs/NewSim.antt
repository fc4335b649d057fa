-- Worlds begun.
use Rattle.std.specs.Prelude.{◌≡◌, List, []}
use Rattle.qp_model.specs.declared.stimulus.Stim.{Stim}
use Rattle.qp_plain.specs.declared.world.PlainWorld.{PlainWorld}
use Rattle.qp_plain.specs.NewWorld.{chosen, log_in}
use Rattle.qp_plain.specs.WorldView.{world_view}
use Rattle.qp_kernel_runs.specs.declared.world.SimWorld.{SimWorld}
use Rattle.qp_kernel_runs.specs.Seating.{seated}
use Rattle.qp_kernel_runs.specs.SimView.{sim_view}

-- no record has been made, and lane 0 is chosen
pub record IsNewSim (w : PlainWorld) : Type 0 where
  pub log : log_in w ≡ []
  pub first : chosen w ≡ 0

-- the plain world with these stimuli, of which none has happened
abbrev pub IsSim : PlainWorld → List (List Stim) → SimWorld → Type 0
IsSim plain stimuli w = sim_view w ≡ seated stimuli [] (world_view plain)
