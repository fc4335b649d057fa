-- Lanes may go to another thread, and several threads may use the tables at once.
use denote.Ref.{NamedLft}
use denote.Struct.Declared.{shape}
use denote.Param.Send.{IsSend, IsSync, sendable, struct_send, struct_sync}
use Rattle.std.proofs.Crossing.{crosses, sync}
use Rattle.atomic_table.proofs.owned.Table.TheSendSync as table
use Rattle.atomic_table.proofs.shared.Seat.TheSendSync as seat
use Rattle.qp_model.proofs.CrossingLemmas.{system-sync}
use Rattle.std.proofs.option.Option.TheSendSync as option
use Rattle.qp_model.specs.contracts.systems.System as system
use Rattle.qp_model.specs.contracts.record.Rec as rec
use Rattle.qp_calls.specs.contracts.answers.Counts as counts
use Rattle.qp_calls_log.specs.contracts.codes.Codes as codes
use Rattle.qp_calls_log.specs.contracts.log.Log as log
use Rattle.qp_side.proofs.CrossingLemmas.{side-send}
use Rattle.qp_shared_lane.specs.contracts.ends.Ends as ends
use Rattle.qp_shared_lane.specs.contracts.lane.LaneState as lane
use Rattle.qp_shared_lane.specs.contracts.rings.Rings as rings
use Rattle.qp_shared.specs.contracts.lane.SharedLane as its
use Rattle.qp_shared.specs.contracts.shared.Shared as words

sys-sync : IsSync system.the_row
sys-sync = let s = system-sync in search sendable depth 20

rec-send : IsSend rec.the_field.row
rec-send = search (crosses, sendable) depth 40

counts-send : IsSend counts.the_field.row
counts-send = search (crosses, sendable) depth 40

codes-send : IsSend codes.the_field.row
codes-send = search (crosses, sendable) depth 40

log-send : IsSend log.the_field.row
log-send =
    let a = rec-send in
    let b = counts-send in
    let c = codes-send in
    search (crosses, sendable, option.the_send) depth 40

rings-send : (ν : NamedLft) → IsSend (rings.the_field ν).row
rings-send ν = let system = sys-sync in search (crosses, sendable) depth 40

ends-send : IsSend ends.the_field.row
ends-send = search (crosses, sendable) depth 40

lane-send : (ν : NamedLft) → IsSend (lane.the_field ν).row
lane-send ν =
    let system = sys-sync in
    let lengths = rings-send ν in
    let records = log-send in
    let beside = side-send ν in
    let lives = ends-send in
    struct_send (shape (lane.the_type ν)) (
      search sendable depth 40,
      (
        search sendable depth 40,
        (
          search (crosses, sendable, table.the_sync) depth 40,
          (
            search (sendable, seat.the_send) depth 40,
            (
              search sendable depth 40,
              (
                search sendable depth 40,
                (
                  search sendable depth 40,
                  (
                    search sendable depth 40,
                    (
                      search sendable depth 40,
                      (
                        search sendable depth 40,
                        (
                          search sendable depth 40,
                          tt,
                        ),
                      ),
                    ),
                  ),
                ),
              ),
            ),
          ),
        ),
      ),
    )

-- for a type that has a lane in a field
pub shared-lane-field : (ν : NamedLft) → IsSend (its.the_field ν).row
shared-lane-field ν = let a = lane-send ν in search (crosses, sendable) depth 40

pub shared-lane-send : (ν : NamedLft) → IsSend (its.the_row ν)
shared-lane-send ν = let a = lane-send ν in search (crosses, sendable) depth 40

tables-fields : (ν : NamedLft) → IsSync (words.the_field ν).row
tables-fields ν =
    let system = sys-sync in
    struct_sync (shape (words.the_type ν)) (
      search sendable depth 40,
      (
        search sendable depth 40,
        (
          search (crosses, sendable, sync, table.the_field_sync) depth 40,
          (
            search (crosses, sendable, sync, table.the_field_sync) depth 40,
            tt,
          ),
        ),
      ),
    )

pub tables-sync : (ν : NamedLft) → IsSync (words.the_row ν)
tables-sync ν = let a = tables-fields ν in search (crosses, sendable) depth 40
