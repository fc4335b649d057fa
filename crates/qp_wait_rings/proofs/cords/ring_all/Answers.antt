use Rattle.std.proofs.Common.{◌≡◌, ◌<◌, ◌+◌, ◌%◌, ◌^◌, suc, ap, arith, length, slice_set, subst, sym, ◌∙◌}
use Rattle.qp_wait_rings.specs.declared.cord.Cord.{Cord}
use Rattle.qp_wait_rings.proofs.CordLemmas.{HavePulled, all-objects, all-pulls, got, pulled-one}
use Rattle.qp_wait_rings.proofs.cords.ring_all.Goals as goal

pub loop-place-preserved : goal.loop-place-preserved
loop-place-preserved c =
    let at = c.loop-place in
    let inside : at.place < length at.cords = omega arith in
    let back = sym c.index-cords-place.is in
    let up : suc at.place ≡ at.place + 1 = omega arith in
    subst (λ n. HavePulled n c.args.cords.now (slice_set at.cords at.place c.pull.new.self)) up
    (pulled-one at.place c.args.cords.now at.cords c.index-cords-place.result c.pull.new.self at.invariant (got at.cords at.place c.index-cords-place.result inside c.index-cords-place.is) (c.pull.ensures.same ∙ ap (λ (x : Cord). x.object) back) (c.pull.ensures.pulls ∙ ap (λ (x : Cord). (x.pulls + 1) % 2 ^ 64) back))

pub returns-clause-pulls : goal.returns-clause-pulls
returns-clause-pulls c =
    let at = c.loop-place in
    let all : at.place ≡ length c.args.cords.now = omega arith in
    all-pulls c.args.cords.now at.cords (subst (λ n. HavePulled n c.args.cords.now at.cords) all at.invariant)

pub returns-clause-objects : goal.returns-clause-objects
returns-clause-objects c =
    let at = c.loop-place in
    let all : at.place ≡ length c.args.cords.now = omega arith in
    all-objects c.args.cords.now at.cords (subst (λ n. HavePulled n c.args.cords.now at.cords) all at.invariant)
