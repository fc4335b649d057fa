use Rattle.std.proofs.Common.{◌∙◌, ap, sym, drop}
use Rattle.qp_model.specs.OneOrder.{may_act}
use Rattle.qp_check_lanes.specs.WordTotals.{count_in}
use Rattle.qp_check_kernel.proofs.TurnLemmas.{first-acts, first-passes, first-none}
use Rattle.qp_check_kernel.proofs.source_turn.Progress.first.Goals as goal

pub returns-then-acts : goal.returns-then-acts
returns-then-acts c =
    sym (first-acts c.args.rests (count_in c.args.self.now.begun) c.args.k c.args.sources.now c.loop-i.i c.index-sources-i.result c.loop-i-test.true c.index-sources-i.is
    (ap (λ n. may_act c.args.rests (drop n c.index-sources-i.result)) (sym c.at.ensures) ∙ sym c.acts.ensures ∙ c.if-acts.true))
    ∙ c.loop-i.invariant

pub loop-i-preserved : goal.loop-i-preserved
loop-i-preserved c =
    sym (first-passes c.args.rests (count_in c.args.self.now.begun) c.args.k c.args.sources.now c.loop-i.i c.index-sources-i.result c.loop-i-test.true c.index-sources-i.is
    (ap (λ n. may_act c.args.rests (drop n c.index-sources-i.result)) (sym c.at.ensures) ∙ sym c.acts.ensures ∙ c.if-acts.false))
    ∙ c.loop-i.invariant

pub returns : goal.returns
returns c = sym (first-none c.args.rests (count_in c.args.self.now.begun) c.args.k c.args.sources.now c.loop-i.i c.loop-i-test.false) ∙ c.loop-i.invariant
