-- What a source that acts leaves.
use Rattle.std.specs.Prelude.{◌≡◌, ℕ, ◌+◌, List, [], ◌∷◌, ◌++◌, length, get_or, Bool, true, false}
use Rattle.qp_model.specs.declared.stimulus.Stim.{Stim}
use Rattle.qp_model.specs.declared.systems.System.{System}
use Rattle.qp_model.specs.Told.{Told}
use Rattle.qp_kernel.specs.Happenings.{told_by_source}
use Rattle.qp_plain.specs.WorldView.{world_view}
use Rattle.qp_calls_stimulus.specs.declared.doing.Stimulated.{Stimulated}
use Rattle.qp_calls_stimulus.specs.declared.doing.Stimulated.TheVariants as stimulated
use Rattle.qp_kernel_runs.specs.declared.world.SimWorld.{SimWorld}
use Rattle.qp_kernel_runs.specs.Choosing.{left_of}
use Rattle.qp_kernel_runs.specs.Visiting.{VisitLeaves, Amounts}

-- the run goes on only where all records came
abbrev pub is_halt : Stimulated → Bool
is_halt stimulated.Done = false
is_halt _ = true

-- The source in this place, from 0, did its next stimulus as far as the answer tells.
pub record HasActed (j : ℕ) (sys : System) (look : ℕ) (old new : SimWorld) (answer : Stimulated) : Type 0 where
  pub s : Stim
  pub left : List Stim
  pub its : left_of old.stim.now old.begun.items j ≡ s ∷ left
  pub g : List Told
  pub leaves : VisitLeaves (j + 1) g (world_view old.plain) (world_view new.plain)
  pub happened : new.done.list ≡ old.done.list ++ (record { at = length (world_view old.plain).told; source = j + 1; told = g }) ∷ []
  pub amounts : Amounts sys s (get_or old.begun.items j 0 + 1) look (length (told_by_source (j + 1) old.done.list)) g (world_view old.plain) (world_view new.plain) answer
  pub plan : new.stim.now ≡ old.stim.now
