-- A seat may go to another thread.
use denote.Ref.{NamedLft}
use denote.Param.Send.{IsSend, sendable}
use Rattle.std.proofs.Crossing.{crosses}
use Rattle.atomic_table.proofs.owned.Table.TheSendSync as table
use Rattle.atomic_table.proofs.shared.Seat.TheSendSync as seat
use Rattle.qp_side.specs.contracts.seat.SideSeat as its

-- for a type that has a seat in a field
pub side-send : (ν : NamedLft) → IsSend (its.the_field ν).row
side-send ν = search (crosses, sendable, table.the_sync, seat.the_send) depth 40
