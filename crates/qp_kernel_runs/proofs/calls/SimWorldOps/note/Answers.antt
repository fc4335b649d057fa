use Rattle.qp_plain.specs.WorldView.{world_view}
use Rattle.qp_kernel_runs.proofs.Seated as seated
use Rattle.qp_kernel_runs.proofs.Kept as kept
use Rattle.qp_kernel_runs.proofs.calls.SimWorldOps.note.Goals as goal

pub note-requires : goal.note-requires
note-requires c = seated.may-note c.args.self.now.stim.now c.args.self.now.done.list (world_view c.args.self.now.plain) (world_view c.args.self.now.plain) c.args.r c.requires

pub invariant_of-self : goal.invariant_of-self
invariant_of-self c = record { holds = kept.gained c.args.self.now c.note.new.self _ c.note.ensures.grows }

pub returns-clause-grows : goal.returns-clause-grows
returns-clause-grows c =
    seated.notes c.args.self.now.stim.now c.args.self.now.done.list (world_view c.args.self.now.plain) (world_view c.note.new.self) c.args.r c.note.ensures.grows
