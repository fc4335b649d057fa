use Rattle.std.proofs.Common.{◌≡◌, ◌∙◌, ◌+◌, refl}
use Rattle.qp_model.specs.History.{lane_items}
use Rattle.qp_model.specs.Home.{lane_at}
use Rattle.qp_model.specs.Lawful.{facts_of, lanes_before}
use Rattle.qp_check_words.specs.declared.verdict.Site.TheVariants as site
use Rattle.qp_model.specs.Sources.{IsSourceLane}
use Rattle.qp_check.proofs.SourceFindLemmas.{sources-broken, sources-first, sources-last, sources-next}
use Rattle.qp_check_shapes.proofs.GroupsDecideLemmas.{denied, decided}
use Rattle.qp_check.proofs.run_parts.sources_broken.Goals as goal

pub loop-i-init : goal.loop-i-init
loop-i-init c = sources-first c.args.sys.now c.args.j.now c.deref-source-items.result.now c.lanes_before-first.result

pub loop-i-preserved : goal.loop-i-preserved
loop-i-preserved c =
    let sys = c.args.sys.now in
    let j = c.args.j.now in
    let at : c.lane_at.result.now ≡ lane_at j (c.lanes_before-first.result + c.loop-i.i) = c.lane_at.ensures in
    let held : IsSourceLane (facts_of sys j) j.kernel j.end c.source-item.result (lane_items c.lane_at.result.now) =
    decided (IsSourceLane (facts_of sys j) j.kernel j.end c.source-item.result (lane_items c.lane_at.result.now)) c.in_ok-is_source_lane.field-0 c.in_ok-is_source_lane.ensures c.if-not-branch.false in
    sources-next sys j c.deref-source-items.result.now c.lanes_before-first.result c.loop-i.i c.source-item.result c.loop-i-test.true c.source-item.is c.loop-i.invariant (rw (← at) held)

pub returns-then-not-branch : goal.returns-then-not-branch
returns-then-not-branch c =
    let sys = c.args.sys.now in
    let j = c.args.j.now in
    let at : c.lane_at.result.now ≡ lane_at j (c.lanes_before-first.result + c.loop-i.i) = c.lane_at.ensures in
    let fails : IsSourceLane (facts_of sys j) j.kernel j.end c.source-item.result (lane_items c.lane_at.result.now) → ⊥ =
    denied (IsSourceLane (facts_of sys j) j.kernel j.end c.source-item.result (lane_items c.lane_at.result.now)) c.in_ok-is_source_lane.field-0 c.in_ok-is_source_lane.ensures c.if-not-branch.true in
    sources-broken sys j c.deref-source-items.result.now c.lanes_before-first.result c.loop-i.i c.source-item.result c.loop-i-test.true c.source-item.is c.loop-i.invariant
    (rw (← at) fails) (record { definition = 20; site = site.Lane (c.lanes_before-first.result + c.loop-i.i) }) refl refl
    (lanes_before sys j) c.args.stim.now c.lanes_before-first.ensures.value (c.deref-source-items.ensures.value ∙ c.stim.view_is)

pub returns : goal.returns
returns c =
    sources-last c.args.sys.now c.args.j.now c.deref-source-items.result.now c.lanes_before-first.result c.loop-i.i c.loop-i-test.false c.loop-i.invariant
    (lanes_before c.args.sys.now c.args.j.now) c.args.stim.now c.lanes_before-first.ensures.value (c.deref-source-items.ensures.value ∙ c.stim.view_is)
