use Rattle.std.proofs.Common.{rules, ◌∙◌, ap, sym, refl}
use Rattle.std.proofs.lemmas.Bool.{not-true, not-false}
use Rattle.std.proofs.lemmas.List.{take_all}
use Rattle.std.specs.BTreeSet.{contains}
use Rattle.qp_model.specs.HomeLane.{all_differ}
use Rattle.qp_check_lanes.specs.Keys.{key_cmp}
use Rattle.qp_check_knowledge.proofs.HomeLaneLemmas.{differ-next, differ-not, seen-next}
use Rattle.qp_check_knowledge.proofs.told_home.all_differ.Goals as goal

pub loop-counts-init : goal.loop-counts-init
unfolding all_differ
loop-counts-init c = record { seen = λ q. search rules; differ = refl }

pub returns-then-not-branch : goal.returns-then-not-branch
returns-then-not-branch c =
    differ-not c.args.all.now c.loop-counts.counts-index _ _ c.loop-counts-test.true refl (λ q. contains key_cmp c.loop-counts.seen q) c.loop-counts.invariant.seen
    (not-false _ (sym c.in_ok-insert.ensures.added ∙ c.if-not-branch.true))

pub loop-counts-preserved : goal.loop-counts-preserved
loop-counts-preserved c = record {
  seen =
      seen-next c.args.all.now c.loop-counts.counts-index _ _ c.loop-counts-test.true refl (λ q. contains key_cmp c.loop-counts.seen q) c.loop-counts.invariant.seen
      (λ q. contains key_cmp c.insert.new.self q) c.in_ok-insert.ensures.updates.0;
  differ =
      differ-next c.args.all.now c.loop-counts.counts-index _ _ c.loop-counts-test.true refl (λ q. contains key_cmp c.loop-counts.seen q) c.loop-counts.invariant.seen
      (not-true _ (sym c.in_ok-insert.ensures.added ∙ c.if-not-branch.false)) c.loop-counts.invariant.differ;
}

pub returns : goal.returns
returns c = sym c.loop-counts.invariant.differ ∙ ap all_differ (take_all c.loop-counts.counts-index c.args.all.now c.loop-counts-test.false)
