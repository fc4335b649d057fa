-- A worker may go to another thread, with what runs in it.
use denote.Ref.{NamedLft}
use denote.RattleType.{RattleType}
use denote.Param.Send.{IsSend, IsSync, sendable}
use Rattle.std.proofs.Crossing.{crosses}
use Rattle.circular_buffer.proofs.Crosses.{Cells-send, Deed-send}
use Rattle.qp_model.proofs.CrossingLemmas.{system-sync}
use Rattle.qp_chart_compiled.specs.contracts.compiled.Compiled as compiled
use Rattle.qp_dispatch.specs.contracts.lasting.Lasting as lasting
use Rattle.qp_dispatch.specs.contracts.steps.Going as going
use Rattle.qp_dispatch.specs.contracts.steps.Position as position
use Rattle.qp_dispatch.specs.contracts.objects.Object as object
use Rattle.qp_dispatch.specs.contracts.objects.Turn as turn
use Rattle.qp_kernel_turns.specs.contracts.objects.Slot as slot
use Rattle.qp_kernel_turns.specs.contracts.objects.Objects as objects
use Rattle.qp_kernel.specs.contracts.kernel.Kernel as kernel
use Rattle.qp_model.specs.contracts.stimulus.Stimuli as stimuli
use Rattle.qp_port_lanes.specs.contracts.cursor.Cursor as cursor
use Rattle.qp_port_qk.specs.contracts.job.QkJob as job
use Rattle.qp_port_qk.specs.contracts.worker.QkWorker as worker

compiled-send : IsSend compiled.the_field.row
compiled-send = search (crosses, sendable) depth 60 fits 100000

lasting-send : IsSend lasting.the_field.row
lasting-send = search (Cells-send, Deed-send, crosses, sendable) depth 60 fits 100000

going-send : IsSend going.the_field.row
going-send = search (crosses, sendable) depth 60 fits 100000

position-send : IsSend position.the_field.row
position-send = let a = going-send in search (crosses, sendable) depth 60 fits 100000

object-send : IsSend object.the_field.row
object-send =
    let a = compiled-send in
    let b = lasting-send in
    let c = position-send in
    search (crosses, sendable) depth 60 fits 100000

turn-send : IsSend turn.the_field.row
turn-send = search sendable depth 20

slot-send : IsSend slot.the_field.row
slot-send = let a = object-send in search (crosses, sendable) depth 60 fits 100000

objects-send : IsSend objects.the_field.row
objects-send = let a = slot-send in search (crosses, sendable) depth 60 fits 100000

kernel-send : IsSend kernel.the_field.row
kernel-send = search (crosses, sendable) depth 60 fits 100000

stimuli-sync : IsSync stimuli.the_field.row
stimuli-sync = search (crosses, sendable) depth 60 fits 100000

cursor-send : (κ : NamedLft) → IsSend (cursor.the_field κ).row
cursor-send κ = let a = stimuli-sync in search (crosses, sendable) depth 60 fits 100000

job-send : (κ : NamedLft) → IsSend (job.the_field κ).row
job-send κ =
    let a = objects-send in
    let b = kernel-send in
    let c = cursor-send κ in
    search (crosses, sendable) depth 60 fits 100000

pub worker-send : (κ : NamedLft) (W G : RattleType) → IsSend W → IsSync G → IsSend (worker.the_row κ W G)
worker-send κ W G w g =
    let s = system-sync in
    let t = turn-send in
    let j = job-send κ in
    search (crosses, sendable) depth 60 fits 100000
