use Rattle.std.proofs.Common.{◌∙◌, ◌==◌, ◌/◌, ◌^◌, ◌<◌, ◌≤◌, suc, refl, ap, sym, arith, drop, get_or}
use Rattle.std.proofs.Math.Seq.{drop-cons}
use Rattle.qp_model.specs.Subscribers.{bits_of_set}
use Rattle.qp_check_lanes.proofs.BitLemmas.{bit-large, bits-above}
use Rattle.qp_check_lanes.proofs.signals.are_bits_of.Goals as goal

pub returns-in-None : goal.returns-in-None
returns-in-None c =
    let p = get_or c.args.members.now c.loop-p.p-index 0 in
    let large : 2 ^ 64 ≤ 2 ^ p / 2 = bit-large p (c.in-None.ensures.none refl) in
    let above : c.loop-p.left < 2 ^ p / 2 = omega (arith, large, c.loop-p.auto.left-fits) in
    sym (c.loop-p.invariant ∙ ap (λ ps. bits_of_set ps == c.loop-p.left) (drop-cons c.args.members.now c.loop-p.p-index 0 c.loop-p-test.true) ∙ bits-above p (drop (suc c.loop-p.p-index) c.args.members.now) c.loop-p.left above)
