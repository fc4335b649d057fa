use Rattle.std.proofs.Common.{◌≡◌, ◌∙◌, ap}
use Rattle.std.specs.List.{AllByRecursion}
use Rattle.qp_model.specs.declared.systems.System.{System}
use Rattle.qp_model.specs.declared.systems.ObjectDef.{ObjectDef}
use Rattle.qp_model.specs.Course.{FollowsTo}
use Rattle.qp_model.specs.History.{lane_items}
use Rattle.qp_model.specs.Home.{lane_at}
use Rattle.qp_model.specs.Lawful.{cut_of, facts_of, setting_of}
use Rattle.qp_model.specs.Points.{lane_pieces}
use Rattle.qp_check.proofs.SourceFindLemmas.{all-broken, all-first, all-last, all-next}
use Rattle.qp_check_shapes.proofs.GroupsDecideLemmas.{denied, decided, decides-no, decides-yes}
use Rattle.qp_check.proofs.run_parts.points_stand.Goals as goal

pub loop-d-init : goal.loop-d-init
loop-d-init c = all-first _ _

pub returns-then-not-branch : goal.returns-then-not-branch
returns-then-not-branch c =
    let P = λ (d : ObjectDef). FollowsTo c.args.sys.now d (cut_of c.args.sys.now c.args.j.now d.priority) (lane_pieces (facts_of c.args.sys.now c.args.j.now) (setting_of c.args.sys.now c.args.j.now) d.priority (lane_items (lane_at c.args.j.now 0))) in
    let same : c.deref-d-items.result.now ≡ c.args.sys.now.objects = c.deref-d-items.ensures.value ∙ ap (λ (s : System). s.objects) c.sys.view_is in
    decides-no (AllByRecursion P c.args.sys.now.objects)
    (λ h. all-broken P c.deref-d-items.result.now c.loop-d.d-index c.d-item.result c.loop-d-test.true c.d-item.is c.loop-d.invariant
    (denied (P c.d-item.result) c.in_ok-has_its_points.field-0 c.in_ok-has_its_points.ensures c.if-not-branch.true) (rw same h))

pub loop-d-preserved : goal.loop-d-preserved
loop-d-preserved c =
    let P = λ (d : ObjectDef). FollowsTo c.args.sys.now d (cut_of c.args.sys.now c.args.j.now d.priority) (lane_pieces (facts_of c.args.sys.now c.args.j.now) (setting_of c.args.sys.now c.args.j.now) d.priority (lane_items (lane_at c.args.j.now 0))) in
    all-next P c.deref-d-items.result.now c.loop-d.d-index c.d-item.result c.loop-d-test.true c.d-item.is c.loop-d.invariant
    (decided (P c.d-item.result) c.in_ok-has_its_points.field-0 c.in_ok-has_its_points.ensures c.if-not-branch.false)

pub returns : goal.returns
returns c =
    let P = λ (d : ObjectDef). FollowsTo c.args.sys.now d (cut_of c.args.sys.now c.args.j.now d.priority) (lane_pieces (facts_of c.args.sys.now c.args.j.now) (setting_of c.args.sys.now c.args.j.now) d.priority (lane_items (lane_at c.args.j.now 0))) in
    let same : c.deref-d-items.result.now ≡ c.args.sys.now.objects = c.deref-d-items.ensures.value ∙ ap (λ (s : System). s.objects) c.sys.view_is in
    decides-yes (AllByRecursion P c.args.sys.now.objects) (all-last P c.deref-d-items.result.now c.loop-d.d-index c.loop-d-test.false c.loop-d.invariant c.args.sys.now.objects same)
