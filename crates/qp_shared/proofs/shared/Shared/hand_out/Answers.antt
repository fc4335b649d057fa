use Rattle.std.proofs.Common.{◌≡◌, ◌∙◌, ◌+◌, ◌<◌, ℕ, ◌∷◌, [], ◌++◌, length, sym, ap, subst, append_assoc, length-append, arith}
use Rattle.std.specs.Vec.Iter.{into_iter_items}
use Rattle.qp_shared.specs.Lane.{lane_view}
use Rattle.qp_shared.specs.Starting.{HasLeft}
use Rattle.qp_shared.proofs.Handing.{given-more, given-one, left-more}
use Rattle.qp_shared.proofs.shared.Shared.hand_out.Goals as goal

pub loop-log-preserved : goal.loop-log-preserved
loop-log-preserved c =
    let at = c.loop-log in
    let steps : into_iter_items at.log-iterator ≡ c.in-Some.log ∷ into_iter_items c.next.new.self = c.in-Some.ensures.steps.0 in
    let k : ℕ = c.len-number.result + 1 in
    let is : c.len-number.result ≡ length at.lanes.items = c.len-number.ensures ∙ at.lanes.ok.0 in
    let here : k ≡ length at.yielded + 1 = ap (λ n. n + 1) (is ∙ at.invariant.3) in
    let later : 0 < k = omega arith in
    let more : length (at.yielded ++ c.in-Some.log ∷ []) ≡ length at.yielded + 1 = length-append at.yielded (c.in-Some.log ∷ []) in
    let has : HasLeft c.args.self.now c.args.port k at.root = subst (λ n. HasLeft c.args.self.now c.args.port n at.root) (sym here) at.invariant.4 in (
      append_assoc at.yielded (c.in-Some.log ∷ []) _ ∙ rw (← steps) at.invariant.0,
      (let was = at.invariant.1 in let gone = c.in-Some.ensures.steps.1 in let short = ap length steps in omega arith),
      c.push_reserved.ensures.capacity ∙ at.invariant.2,
      (let long = ap length c.push_reserved.ensures.items in let sum = length-append at.lanes.items (c.give-lane.result ∷ []) in let was = at.invariant.3 in omega arith),
      subst (λ n. HasLeft c.args.self.now c.args.port n c.give-lane.new.root) (ap (λ n. n + 1) here ∙ sym (ap (λ n. n + 1) more))
          (left-more c.args.self.now c.args.port c.requires.sound k c.objects_for-objects.result later c.objects_for-objects.ensures at.root has c.give-lane.new.root c.give-lane.ensures.root c.give-lane.ensures.left),
      given-more c.args.self.now c.args.count c.args.port at.lanes.items c.push_reserved.new.self.items c.give-lane.result k (ap (λ n. n + 1) is) c.push_reserved.ensures.items at.invariant.5
          (given-one c.args.self.now c.args.port c.requires.sound k c.objects_for-objects.result later c.objects_for-objects.ensures at.root has c.args.count (lane_view c.give-lane.result) c.give-lane.ensures.lane),
    )
