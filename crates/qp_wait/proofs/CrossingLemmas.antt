-- A lane may go to another thread.
use denote.Ref.{NamedLft}
use denote.Param.Send.{IsSend, sendable}
use Rattle.std.proofs.Crossing.{crosses, sync}
use Rattle.atomic_table.proofs.owned.Table.TheSendSync as table
use Rattle.atomic_table.proofs.shared.Seat.TheSendSync as seat
use Rattle.std.proofs.option.Option.TheSendSync as option
use Rattle.qp_wait_rings.proofs.CrossingLemmas.{cord-send, ringing-send}
use Rattle.qp_wait.specs.contracts.farewells.Farewells as farewells
use Rattle.qp_wait.specs.contracts.closings.Closings as closings
use Rattle.qp_wait.specs.contracts.perch.Perch as perch
use Rattle.qp_wait.specs.contracts.lane.BellLane as its

farewells-send : IsSend farewells.the_field.row
farewells-send = let a = cord-send in search (crosses, sendable) depth 60

closings-send : (ν : NamedLft) → IsSend (closings.the_field ν).row
closings-send ν = search (crosses, sendable, table.the_sync, seat.the_send) depth 60

perch-send : IsSend perch.the_field.row
perch-send = search (crosses, sendable, sync, table.the_sync, table.the_send, seat.the_send) depth 60

pub bell-lane-send : (ν : NamedLft) → IsSend (its.the_row ν)
bell-lane-send ν =
    let a = ringing-send ν in
    let b = farewells-send in
    let c = closings-send ν in
    let d = perch-send in
    search (crosses, sendable, option.the_send) depth 60
