use Rattle.std.proofs.Common.{sym}
use Rattle.qp_check_ends.proofs.JournalEndLemmas.{asserted-is, spent-is, quiet-is}
use Rattle.qp_check_ends.proofs.journal_end.end_of_records.Goals as goal

pub returns-then-some_lane_asserts : goal.returns-then-some_lane_asserts
returns-then-some_lane_asserts c = sym (asserted-is c.args.j.now.lanes (sym c.if-some_lane_asserts.ensures))

pub returns-then-some_lane_ends : goal.returns-then-some_lane_ends
returns-then-some_lane_ends c = sym (spent-is c.args.j.now.lanes (sym c.if-some_lane_asserts.ensures) (sym c.if-some_lane_ends.ensures))

pub returns-else-some_lane_ends : goal.returns-else-some_lane_ends
returns-else-some_lane_ends c = sym (quiet-is c.args.j.now.lanes (sym c.if-some_lane_asserts.ensures) (sym c.if-some_lane_ends.ensures))
