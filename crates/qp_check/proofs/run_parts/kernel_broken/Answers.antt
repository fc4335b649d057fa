use Rattle.std.proofs.Common.{◌==◌, refl, inl}
use Rattle.qp_model.specs.Kernels.{port}
use Rattle.qp_model.specs.Lawful.{KernelHolds}
use Rattle.qp_check.specs.Judged.{kernel_trials}
use Rattle.qp_check.proofs.RunPartLemmas.{asked, asked-fails, asked-not, no-port, other-kernel}
use Rattle.qp_check_shapes.proofs.GroupsDecideLemmas.{denied, decided}
use Rattle.qp_check.proofs.run_parts.kernel_broken.Goals as goal

pub returns-then-j-eq-PORT : goal.returns-then-j-eq-PORT
unfolding kernel_trials
returns-then-j-eq-PORT c = (asked-not c.args.sys.now c.args.j.now (KernelHolds c.args.sys.now c.args.j.now) (c.args.j.now.kernel == port) (other-kernel c.args.sys.now c.args.j.now c.if-j-eq-PORT.true), tt)

pub returns-then-branch : goal.returns-then-branch
unfolding kernel_trials
returns-then-branch c =
    let K = KernelHolds c.args.sys.now c.args.j.now in
    (asked c.args.sys.now c.args.j.now K (c.args.j.now.kernel == port) (no-port c.args.sys.now c.args.j.now c.if-j-eq-PORT.false) (decided K c.in_ok-kernel_holds.field-0 c.in_ok-kernel_holds.ensures c.if-branch.true), tt)

pub returns : goal.returns
unfolding kernel_trials
returns c =
    let K = KernelHolds c.args.sys.now c.args.j.now in
    inl (asked-fails c.args.sys.now c.args.j.now K (c.args.j.now.kernel == port) (no-port c.args.sys.now c.args.j.now c.if-j-eq-PORT.false) (denied K c.in_ok-kernel_holds.field-0 c.in_ok-kernel_holds.ensures c.if-branch.false), refl, refl)
