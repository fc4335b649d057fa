-- A ringing lane, and a cord, may go to another thread.
use denote.Ref.{NamedLft}
use denote.Param.Send.{IsSend, sendable}
use Rattle.std.proofs.Crossing.{crosses, sync}
use Rattle.atomic_table.proofs.owned.Table.TheSendSync as table
use Rattle.atomic_table.proofs.shared.Seat.TheSendSync as seat
use Rattle.qp_shared.proofs.CrossingLemmas.{shared-lane-field}
use Rattle.qp_wait_rings.specs.contracts.cord.Cord as cord
use Rattle.qp_wait_rings.specs.contracts.ringing.RingingLane as its

pub cord-send : IsSend cord.the_field.row
cord-send = search (crosses, sendable, sync, table.the_sync, table.the_send, seat.the_send) depth 60

pub ringing-send : (ν : NamedLft) → IsSend (its.the_field ν).row
ringing-send ν =
    let a = shared-lane-field ν in
    let b = cord-send in
    search (crosses, sendable, table.the_sync, seat.the_send) depth 60
