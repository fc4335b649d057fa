use Rattle.std.proofs.Common.{◌≡◌, ◌∙◌, ◌∷◌, [], true, false, sym, inl, inr, Some}
use Rattle.qp_check.specs.Judged.{lane_trials, order_trial, source_trials}
use Rattle.qp_model.specs.Lawful.{lanes_before}
use Rattle.qp_check.proofs.FindLemmas.{finds-before, finds-behind, finds-fails, found, found-none}
use Rattle.qp_check.proofs.JudgedLemmas.{hold-both}
use Rattle.qp_check.proofs.RunPartLemmas.{AreWhole}
use Rattle.qp_check_shapes.proofs.GroupsDecideLemmas.{denied, decided}
use Rattle.qp_check.proofs.run_parts.lanes_broken.Goals as goal

pub returns-then-not-lane_zero_stands : goal.returns-then-not-lane_zero_stands
unfolding lane_trials
returns-then-not-lane_zero_stands c =
    inl (
      λ h. let bad : true ≡ false = sym h ∙ sym c.lane_zero_stands.ensures ∙ c.if-not-lane_zero_stands.true in let absent : ⊥ = cc in absent,
      sym c.no_sources.ensures.0,
      sym c.no_sources.ensures.1,
    )

pub returns-in-Some : goal.returns-in-Some
unfolding lane_trials
returns-in-Some c =
    let sources = source_trials c.args.sys.now c.args.j.now (lanes_before c.args.sys.now c.args.j.now) c.args.stim.now in
    let whole = order_trial c.args.sys.now c.args.stim.now c.args.j.now in
    inr (
      sym c.lane_zero_stands.ensures ∙ c.if-not-lane_zero_stands.false,
      finds-before sources (whole ∷ []) c.in-Some.broken (found sources c.in_ok-sources.sources c.in-Some.broken c.in_ok-sources.ensures c.in-Some.is),
    )

pub returns-then-branch : goal.returns-then-branch
unfolding lane_trials order_trial
returns-then-branch c =
    let sources = source_trials c.args.sys.now c.args.j.now (lanes_before c.args.sys.now c.args.j.now) c.args.stim.now in
    let whole = order_trial c.args.sys.now c.args.stim.now c.args.j.now in (
      sym c.lane_zero_stands.ensures ∙ c.if-not-lane_zero_stands.false,
      hold-both sources (whole ∷ []) (found-none sources c.in_ok-sources.sources c.in_ok-sources.ensures c.in-None.is)
          (decided (AreWhole c.args.sys.now c.args.stim.now c.args.j.now) c.in_ok-lanes_hold.field-0 c.in_ok-lanes_hold.ensures c.if-branch.true, tt),
    )

pub returns : goal.returns
unfolding lane_trials order_trial
returns c =
    let sources = source_trials c.args.sys.now c.args.j.now (lanes_before c.args.sys.now c.args.j.now) c.args.stim.now in
    let whole = order_trial c.args.sys.now c.args.stim.now c.args.j.now in
    let broken = c.no_sources-2.result in
    inr (
      sym c.lane_zero_stands.ensures ∙ c.if-not-lane_zero_stands.false,
      finds-behind sources (whole ∷ []) (Some broken) (found-none sources c.in_ok-sources.sources c.in_ok-sources.ensures c.in-None.is)
          (finds-fails whole [] (denied (AreWhole c.args.sys.now c.args.stim.now c.args.j.now) c.in_ok-lanes_hold.field-0 c.in_ok-lanes_hold.ensures c.if-branch.false) broken
          (sym c.no_sources-2.ensures.0) (sym c.no_sources-2.ensures.1)),
    )
