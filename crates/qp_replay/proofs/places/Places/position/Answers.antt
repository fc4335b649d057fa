use Rattle.std.proofs.Common.{◌∙◌, ◌<◌, length, get_or, ap, sym, subst, below_more}
use Rattle.std.proofs.lemmas.List.{get_or-map}
use Rattle.qp_model.specs.Places.{RecordPlace}
use Rattle.qp_replay.specs.declared.marks.At.{At}
use Rattle.qp_replay.specs.Remaining.{record_place}
use Rattle.qp_replay.proofs.places.Places.position.Goals as goal
use Rattle.qp_replay.proofs.places.Places.position.Goals.{else-x-at-via-then-x-at+else-x-at-2, else-x-at-via-else-x-at}

pub loop-i-preserved : goal.loop-i-preserved
loop-i-preserved c = below_more _ _ c.loop-i.invariant (λ h.
    let f : At → RecordPlace = λ x. record_place x.lane x.place in
    let d : At = record { lane = 0; place = 0 } in
    let i = c.loop-i.i in
    let items = c.self.inside.items.items in
    let same = c.deref-x-items.ensures.value in
    let within : i < length items = subst (λ l. i < length l) same c.loop-i-test.true in
    let here = ap (λ l. f (get_or l i d)) same ∙ sym (get_or-map f items i d (record_place c.args.at.lane c.args.at.place) within) ∙ ap (λ l. get_or l i (record_place c.args.at.lane c.args.at.place)) c.self.view_is ∙ h in
    elim c.else-x-at.branch [ else-x-at-via-then-x-at+else-x-at-2 w ↦ w.if-x-at-2.false (ap (λ x. x.at) here) | else-x-at-via-else-x-at w ↦ w.if-x-at.false (ap (λ x. x.lane) here) ])
