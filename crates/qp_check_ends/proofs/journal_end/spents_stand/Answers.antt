use Rattle.std.proofs.Common.{◌∙◌, ap, sym}
use Rattle.qp_model.specs.declared.journals.Journal.{Journal}
use Rattle.qp_model.specs.End.{spents_hold}
use Rattle.qp_check_ends.proofs.JournalEndLemmas.{spents_hold-broken, spents_hold-kept, spents_hold-end}
use Rattle.qp_check_ends.proofs.journal_end.spents_stand.Goals as goal

pub returns-then-not-lane_spents_stand : goal.returns-then-not-lane_spents_stand
returns-then-not-lane_spents_stand c =
    sym (spents_hold-broken c.args.sys.now c.args.j.now c.deref-lane-items.result.now c.loop-n.n c.lane-item.result c.loop-n-test.true c.lane-item.is
    c.deref.result.now (c.deref.ensures.value ∙ c.lane.view_is) (sym c.lane_spents_stand.ensures ∙ c.if-not-lane_spents_stand.true))
    ∙ c.loop-n.invariant ∙ ap (spents_hold c.args.sys.now c.args.j.now 0) (c.deref-lane-items.ensures.value ∙ ap (λ (j : Journal). j.lanes) c.j.view_is)

pub loop-n-preserved : goal.loop-n-preserved
loop-n-preserved c =
    sym (spents_hold-kept c.args.sys.now c.args.j.now c.deref-lane-items.result.now c.loop-n.n c.lane-item.result c.loop-n-test.true c.lane-item.is
    c.deref.result.now (c.deref.ensures.value ∙ c.lane.view_is) (sym c.lane_spents_stand.ensures ∙ c.if-not-lane_spents_stand.false))
    ∙ c.loop-n.invariant

pub returns : goal.returns
returns c =
    sym (spents_hold-end c.args.sys.now c.args.j.now c.deref-lane-items.result.now c.loop-n.n c.loop-n-test.false)
    ∙ c.loop-n.invariant ∙ ap (spents_hold c.args.sys.now c.args.j.now 0) (c.deref-lane-items.ensures.value ∙ ap (λ (j : Journal). j.lanes) c.j.view_is)
