use Rattle.std.proofs.Common.{sym}
use Rattle.qp_check_calls.specs.AsPiece.{as_cut}
use Rattle.qp_check_shapes.specs.GroupsLast.{group_kinds}
use Rattle.qp_check_shapes.proofs.ObjectTestLemmas.{end-breaks-off, end-releases, end-not, end-uncut}
use Rattle.qp_check_shapes.proofs.ObjectShapeLemmas.{uncut-nowhere}
use Rattle.qp_check_shapes.proofs.object_shape.ends_step.Goals as goal

pub returns-then-not-is_cut : goal.returns-then-not-is_cut
returns-then-not-is_cut c =
    end-uncut (group_kinds c.args.scene.now.sys.now c.args.scene.now.o (as_cut c.args.cut)) c.args.e c.args.told.now (sym c.if-not-is_cut.ensures) (uncut-nowhere (as_cut c.args.cut) (sym c.if-not-is_cut.ensures))

pub returns-then-breaks_off : goal.returns-then-breaks_off
returns-then-breaks_off c = end-breaks-off (group_kinds c.args.scene.now.sys.now c.args.scene.now.o (as_cut c.args.cut)) c.args.e c.args.told.now (sym c.if-not-is_cut.ensures) c.if-breaks_off.ensures

pub returns-then-is_anywhere : goal.returns-then-is_anywhere
returns-then-is_anywhere c =
    end-releases (group_kinds c.args.scene.now.sys.now c.args.scene.now.o (as_cut c.args.cut)) c.args.e c.args.told.now c.ends_in_release.result (sym c.if-is_anywhere.ensures) c.if-breaks_off.ensures
    c.ends_in_release.ensures

pub returns-else-is_anywhere : goal.returns-else-is_anywhere
returns-else-is_anywhere c =
    end-not (group_kinds c.args.scene.now.sys.now c.args.scene.now.o (as_cut c.args.cut)) c.args.e c.args.told.now (sym c.if-is_anywhere.ensures) c.if-breaks_off.ensures
