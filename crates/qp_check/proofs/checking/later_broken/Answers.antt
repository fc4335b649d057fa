use Rattle.std.proofs.Common.{◌++◌, Some}
use Rattle.qp_check.specs.Judged.{end_trials, kernel_trials, lane_trials, object_trials}
use Rattle.qp_check.proofs.FindLemmas.{finds-before, finds-behind, found, found-none}
use Rattle.qp_check.proofs.checking.later_broken.Goals as goal

pub returns-in-Some : goal.returns-in-Some
returns-in-Some c =
    let objects = object_trials c.args.sys.now c.args.j.now in
    finds-before objects (kernel_trials c.args.sys.now c.args.j.now ++ (lane_trials c.args.sys.now c.args.stim.now c.args.j.now ++ end_trials c.args.sys.now c.args.j.now)) c.in-Some.broken
    (found objects c.in_ok-objects.objects c.in-Some.broken c.in_ok-objects.ensures c.in-Some.is)

pub returns-in-Some-kernel : goal.returns-in-Some-kernel
returns-in-Some-kernel c =
    let objects = object_trials c.args.sys.now c.args.j.now in
    let kernel = kernel_trials c.args.sys.now c.args.j.now in
    let behind = lane_trials c.args.sys.now c.args.stim.now c.args.j.now ++ end_trials c.args.sys.now c.args.j.now in
    finds-behind objects (kernel ++ behind) (Some c.in-Some-kernel.broken) (found-none objects c.in_ok-objects.objects c.in_ok-objects.ensures c.in-None.is)
    (finds-before kernel behind c.in-Some-kernel.broken (found kernel c.in_ok-kernel.kernel c.in-Some-kernel.broken c.in_ok-kernel.ensures c.in-Some-kernel.is))

pub returns-in-Some-lanes : goal.returns-in-Some-lanes
returns-in-Some-lanes c =
    let objects = object_trials c.args.sys.now c.args.j.now in
    let kernel = kernel_trials c.args.sys.now c.args.j.now in
    let lanes = lane_trials c.args.sys.now c.args.stim.now c.args.j.now in
    let end = end_trials c.args.sys.now c.args.j.now in
    finds-behind objects (kernel ++ (lanes ++ end)) (Some c.in-Some-lanes.broken) (found-none objects c.in_ok-objects.objects c.in_ok-objects.ensures c.in-None.is)
    (finds-behind kernel (lanes ++ end) (Some c.in-Some-lanes.broken) (found-none kernel c.in_ok-kernel.kernel c.in_ok-kernel.ensures c.in-None-kernel.is)
    (finds-before lanes end c.in-Some-lanes.broken (found lanes c.in_ok-lanes.lanes c.in-Some-lanes.broken c.in_ok-lanes.ensures c.in-Some-lanes.is)))

pub returns : goal.returns
returns c =
    let objects = object_trials c.args.sys.now c.args.j.now in
    let kernel = kernel_trials c.args.sys.now c.args.j.now in
    let lanes = lane_trials c.args.sys.now c.args.stim.now c.args.j.now in
    let end = end_trials c.args.sys.now c.args.j.now in
    finds-behind objects (kernel ++ (lanes ++ end)) c.in_ok-end.end (found-none objects c.in_ok-objects.objects c.in_ok-objects.ensures c.in-None.is)
    (finds-behind kernel (lanes ++ end) c.in_ok-end.end (found-none kernel c.in_ok-kernel.kernel c.in_ok-kernel.ensures c.in-None-kernel.is)
    (finds-behind lanes end c.in_ok-end.end (found-none lanes c.in_ok-lanes.lanes c.in_ok-lanes.ensures c.in-None-lanes.is) c.in_ok-end.ensures))
