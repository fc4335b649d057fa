use Rattle.std.proofs.Common.{◌≡◌, ◌∙◌, ◌∷◌, List, true, false, get_or, set, Contains, refl, ap, sym, subst, arith}
use Rattle.std.proofs.lemmas.List.{get_or_default}
use Rattle.qp_model.specs.Places.{RecordPlace}
use Rattle.qp_replay.specs.Orders.{IsCycle}
use Rattle.qp_replay.specs.Remaining.{head, record_place}
use Rattle.qp_replay.proofs.OrderLemmas.{same-place}
use Rattle.qp_replay.proofs.CycleLemmas.{Walked, is-cycle, met-lane, next-there, unmet-less, walk-on, walk-over}
use Rattle.qp_replay.proofs.cycle.cycle.Goals as goal

pub index-requires : goal.index-requires
index-requires c = omega (arith, met-lane c.args.remaining.now c.walk.met.items c.walk.walk c.walk.lane c.walk.invariant, c.walk.met.ok.0)

pub index_mut-requires : goal.index_mut-requires
index_mut-requires c = omega (arith, met-lane c.args.remaining.now c.walk.met.items c.walk.walk c.walk.lane c.walk.invariant, c.walk.met.ok.0)

pub head-requires-in-walk : goal.head-requires-in-walk
head-requires-in-walk c = next-there c.args.remaining.now c.walk.met.items c.walk.walk c.walk.lane c.walk.invariant (record_place c.before-first.result.lane c.before-first.result.place) c.before-first.ensures

pub walk-smaller : goal.walk-smaller
walk-smaller c =
    let within = met-lane c.args.remaining.now c.walk.met.items c.walk.walk c.walk.lane c.walk.invariant in
    unmet-less c.walk.met.items c.walk.lane within (get_or_default c.walk.met.items c.walk.lane false c.index.result.now within ∙ sym c.index.ensures ∙ c.walk-test.true)

pub walk-smaller-in-Continue-branch-3 : goal.walk-smaller-in-Continue-branch-3
walk-smaller-in-Continue-branch-3 c =
    let within = met-lane c.args.remaining.now c.walk.met.items c.walk.walk c.walk.lane c.walk.invariant in
    unmet-less c.walk.met.items c.walk.lane within (get_or_default c.walk.met.items c.walk.lane false c.index.result.now within ∙ sym c.index.ensures ∙ c.walk-test.true)

pub walk-preserved : goal.walk-preserved
walk-preserved c =
    let st = c.args.remaining.now in
    let b = record_place c.before-first.result.lane c.before-first.result.place in
    let same : head st b.lane ≡ b = same-place (head st b.lane) b refl (sym (ap (λ x. x.at) c.head-in-walk.ensures) ∙ c.if-head-first.false) in
    subst (λ (w : List RecordPlace). Walked st (set c.walk.met.items c.walk.lane true) w b.lane) (sym (c.in_ok-put_first.ensures ∙ ap (λ x. x ∷ c.walk.walk) c.head.ensures))
    (walk-on st c.walk.met.items c.walk.walk c.walk.lane c.walk.invariant b c.before-first.ensures same)

pub walk-preserved-in-Continue-branch-3 : goal.walk-preserved-in-Continue-branch-3
walk-preserved-in-Continue-branch-3 c =
    let st = c.args.remaining.now in
    let b = record_place c.before-first.result.lane c.before-first.result.place in
    subst (λ (w : List RecordPlace). Walked st (set c.walk.met.items c.walk.lane true) w b.lane) (sym (c.in_ok-put_first-2.ensures ∙ ap (λ w. b ∷ w) (c.in_ok-put_first.ensures ∙ ap (λ x. x ∷ c.walk.walk) c.head.ensures)))
    (walk-over st c.walk.met.items c.walk.walk c.walk.lane c.walk.invariant b c.before-first.ensures (λ e. c.if-head-first.true (ap (λ x. x.at) c.head-in-walk.ensures ∙ ap (λ x. x.at) e)))

pub position-turn-requires : goal.position-turn-requires
position-turn-requires c =
    let st = c.args.remaining.now in
    let within = met-lane st c.walk.met.items c.walk.walk c.walk.lane c.walk.invariant in
    subst (λ x. Contains c.walk.walk x) (sym c.head-2.ensures) (c.walk.invariant.seen c.walk.lane (get_or_default c.walk.met.items c.walk.lane false c.index.result.now within ∙ sym c.index.ensures ∙ c.walk-test.false))

pub returns : goal.returns
returns c =
    let st = c.args.remaining.now in
    let h = head st c.walk.lane in
    subst (λ (w : List RecordPlace). IsCycle st.lanes w) (sym c.cut_behind.ensures) (is-cycle st.lanes h c.walk.walk c.position-turn.result c.walk.invariant.chain c.walk.invariant.stand c.position-turn.ensures.within (subst (λ x. get_or c.walk.walk c.position-turn.result x ≡ x) c.head-2.ensures c.position-turn.ensures.found))
