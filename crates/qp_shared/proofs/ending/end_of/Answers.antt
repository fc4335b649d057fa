use Rattle.std.proofs.Common.{sym}
use Rattle.qp_shared.proofs.Ends.{asserted-is, spent-is, quiet-is}
use Rattle.qp_shared.proofs.ending.end_of.Goals as goal

pub returns-then-some_asserts : goal.returns-then-some_asserts
returns-then-some_asserts c = sym (asserted-is c.args.lanes.now (sym c.if-some_asserts.ensures))

pub returns-then-some_ends : goal.returns-then-some_ends
returns-then-some_ends c = sym (spent-is c.args.lanes.now (sym c.if-some_asserts.ensures) (sym c.if-some_ends.ensures))

pub returns-else-some_ends : goal.returns-else-some_ends
returns-else-some_ends c = sym (quiet-is c.args.lanes.now (sym c.if-some_asserts.ensures) (sym c.if-some_ends.ensures))
