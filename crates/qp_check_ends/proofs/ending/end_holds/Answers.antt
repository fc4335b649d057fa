use Rattle.std.proofs.Common.{◌∙◌, sym}
use Rattle.qp_check_ends.proofs.EndingLemmas.{end-broken, end-quiet, end-stopped}
use Rattle.qp_check_ends.proofs.ending.end_holds.Goals as goal

pub returns-then-not-end_is_right : goal.returns-then-not-end_is_right
returns-then-not-end_is_right c = end-broken c.args.sys.now c.args.j.now (sym c.end_is_right.ensures ∙ c.if-not-end_is_right.true)

pub returns-then-j-ne-QUIET : goal.returns-then-j-ne-QUIET
returns-then-j-ne-QUIET c = end-stopped c.args.sys.now c.args.j.now (sym c.end_is_right.ensures ∙ c.if-not-end_is_right.false) c.if-j-ne-QUIET.true

pub returns : goal.returns
returns c = end-quiet c.args.sys.now c.args.j.now (sym c.end_is_right.ensures ∙ c.if-not-end_is_right.false) c.if-j-ne-QUIET.false c.in_ok-rests.rests c.in_ok-rests.ensures
