use Rattle.std.proofs.Common.{arith}
use Rattle.qp_packed.proofs.NumberReads.{begins, waits, room, goes, ends}
use Rattle.qp_packed.proofs.cursor.numbers_into.Goals as goal

pub loop-mark-init : goal.loop-mark-init
loop-mark-init c = rw c.requires.none (begins c.args.mark c.args.words.now c.requires.marked)

pub number_of-number-requires : goal.number_of-number-requires
number_of-number-requires c = waits _ _ _ _ _ c.loop-mark.invariant c.loop-mark-test.true

pub push-requires : goal.push-requires
push-requires c = (omega arith, room _ _ _ _ _ c.loop-mark.invariant c.loop-mark-test.true)

pub loop-mark-preserved : goal.loop-mark-preserved
loop-mark-preserved c = rw c.push.ensures.items (goes _ _ _ _ _ c.loop-mark.invariant c.loop-mark-test.true _ _ c.number_of-number.ensures)

pub returns-clause-numbers : goal.returns-clause-numbers
returns-clause-numbers c = (ends _ _ _ _ _ c.loop-mark.invariant c.loop-mark-test.false).0

pub returns-clause-behind : goal.returns-clause-behind
returns-clause-behind c = (ends _ _ _ _ _ c.loop-mark.invariant c.loop-mark-test.false).1
