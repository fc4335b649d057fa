use Rattle.std.proofs.Common.{◌≡◌, ◌∙◌, ◌+◌}
use Rattle.std.specs.Prelude.{⊤}
use Rattle.std.specs.Bool.{MatchBool}
use Rattle.qp_model.specs.Ends.{spills_in}
use Rattle.qp_model.specs.History.{lane_items}
use Rattle.qp_model.specs.Home.{lane_at}
use Rattle.qp_model.specs.Lawful.{SpillStands, SpillsStand}
use Rattle.qp_check.proofs.SourceFindLemmas.{spills-broken, spills-first, spills-last, spills-next}
use Rattle.qp_check_shapes.proofs.GroupsDecideLemmas.{denied, decided, decides-no, decides-yes}
use Rattle.qp_check.proofs.run_parts.spills_stand.Goals as goal

pub loop-i-init : goal.loop-i-init
loop-i-init c = spills-first c.args.sys.now c.args.j.now c.args.cuts c.deref-source-items.result.now

pub returns-then-not-branch : goal.returns-then-not-branch
returns-then-not-branch c =
    let sys = c.args.sys.now in
    let j = c.args.j.now in
    let lane = c.lane_at.result.now in
    let at : lane ≡ lane_at j (c.loop-i.i + 1) = c.lane_at.ensures in
    let May = MatchBool (spills_in (lane_items lane)) (SpillStands sys j c.args.cuts c.source-item.result (lane_items lane)) ⊤ in
    let fails : May → ⊥ = denied May c.in_ok-may_spill.field-0 c.in_ok-may_spill.ensures c.if-not-branch.true in
    let same : c.deref-source-items.result.now ≡ c.args.stim.now = c.deref-source-items.ensures.value ∙ c.stim.view_is in
    decides-no (SpillsStand sys j c.args.cuts 1 c.args.stim.now)
    (λ h. spills-broken sys j c.args.cuts c.deref-source-items.result.now c.loop-i.i c.source-item.result c.loop-i-test.true c.source-item.is c.loop-i.invariant (rw (← at) fails) (rw same h))

pub loop-i-preserved : goal.loop-i-preserved
loop-i-preserved c =
    let sys = c.args.sys.now in
    let j = c.args.j.now in
    let lane = c.lane_at.result.now in
    let at : lane ≡ lane_at j (c.loop-i.i + 1) = c.lane_at.ensures in
    let May = MatchBool (spills_in (lane_items lane)) (SpillStands sys j c.args.cuts c.source-item.result (lane_items lane)) ⊤ in
    let held : May = decided May c.in_ok-may_spill.field-0 c.in_ok-may_spill.ensures c.if-not-branch.false in
    spills-next sys j c.args.cuts c.deref-source-items.result.now c.loop-i.i c.source-item.result c.loop-i-test.true c.source-item.is c.loop-i.invariant (rw (← at) held)

pub returns : goal.returns
returns c =
    let same : c.deref-source-items.result.now ≡ c.args.stim.now = c.deref-source-items.ensures.value ∙ c.stim.view_is in
    decides-yes (SpillsStand c.args.sys.now c.args.j.now c.args.cuts 1 c.args.stim.now)
    (rw (← same) (spills-last c.args.sys.now c.args.j.now c.args.cuts c.deref-source-items.result.now c.loop-i.i c.loop-i-test.false c.loop-i.invariant))
