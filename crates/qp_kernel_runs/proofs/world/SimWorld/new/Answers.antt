use Rattle.std.proofs.Common.{◌≡◌, ℕ, false, List, length, replicate, sym, ◌∙◌, ap, subst}
use Rattle.qp_calls.specs.LaneView.{Happening}
use Rattle.qp_plain.specs.WorldView.{world_view}
use Rattle.qp_kernel_runs.specs.SimHolds.{SimHolds}
use Rattle.qp_kernel_runs.proofs.Beginning.{sim-begins}
use Rattle.qp_kernel_runs.proofs.world.SimWorld.new.Goals as goal

pub invariant_of-result : goal.invariant_of-result
invariant_of-result c =
    let long : c.len.result ≡ length c.args.stim.now = cc in
    let zero : c.in-Ok.begun.items ≡ replicate c.len.result 0 = c.in-Ok.ensures.items_if_clones_equal (λ y e. cc) in
    record {
      holds =
          subst (λ (hs : List Happening). SimHolds c.args.stim.now c.in-Ok.begun.items 0 false hs (world_view c.args.plain)) (sym c.new.ensures)
          (sim-begins c.args.plain c.requires.first c.args.stim.now c.in-Ok.begun.items c.requires.lanes (zero ∙ ap (λ (n : ℕ). replicate n 0) long));
    }
