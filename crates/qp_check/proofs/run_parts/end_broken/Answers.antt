use Rattle.std.proofs.Common.{refl, inl}
use Rattle.qp_model.specs.Lawful.{EndHolds}
use Rattle.qp_check.specs.Judged.{end_trials}
use Rattle.qp_check_shapes.proofs.GroupsDecideLemmas.{denied, decided}
use Rattle.qp_check.proofs.run_parts.end_broken.Goals as goal

pub returns-then-branch : goal.returns-then-branch
unfolding end_trials
returns-then-branch c = (decided (EndHolds c.args.sys.now c.args.j.now) c.in_ok-end_holds.field-0 c.in_ok-end_holds.ensures c.if-branch.true, tt)

pub returns : goal.returns
unfolding end_trials
returns c = inl (denied (EndHolds c.args.sys.now c.args.j.now) c.in_ok-end_holds.field-0 c.in_ok-end_holds.ensures c.if-branch.false, refl, refl)
