use Rattle.std.proofs.Common.{◌≡◌, ◌<◌, ◌≤◌, ◌+◌, ◌%◌, ◌^◌, ◌==◌, true, false, ap, arith, sym, subst, length, get_or, slice_set, ◌∙◌}
use Rattle.std.proofs.lemmas.Bool.Decides.{nat_tests}
use Rattle.qp_model.proofs.AbleLemmas.{some-same}
use Rattle.qp_wait_rings.specs.declared.cord.Cord.{Cord}
use Rattle.qp_wait_rings.specs.Cords.{RingsOne, has_cord}
use Rattle.qp_wait_rings.proofs.CordLemmas.{got, none-more, rings-at, somewhere}
use Rattle.qp_wait_rings.proofs.cords.ring.Goals as goal

pub returns-then-cords-place : goal.returns-then-cords-place
returns-then-cords-place c =
    let at = c.loop-place in
    let its = c.if-cords-place.true in
    let here = c.index-cords-place.result in
    let is : (here.object == c.args.a) ≡ true = grind (arith, nat_tests, its) in
    let again = c.index-cords-place-then-cords-place.result in
    let inside : at.place < length at.cords = omega arith in
    let there = got at.cords at.place here inside c.index-cords-place.is in
    let same : here ≡ again = some-same (sym there ∙ got at.cords at.place again inside c.index-cords-place-then-cords-place.is) in
    let back : get_or at.cords at.place again ≡ here = sym c.index-cords-place-then-cords-place.is ∙ sym same in
    subst (λ cs. RingsOne c.args.a cs (slice_set at.cords at.place c.pull.new.self)) at.invariant.0
    (rings-at c.args.a at.cords at.place here c.pull.new.self there at.invariant.1 is
    (c.pull.ensures.same ∙ ap (λ (x : Cord). x.object) back) (c.pull.ensures.pulls ∙ ap (λ (x : Cord). (x.pulls + 1) % 2 ^ 64) back))

pub loop-place-preserved : goal.loop-place-preserved
loop-place-preserved c =
    let at = c.loop-place in
    let other = c.if-cords-place.false in
    let here = c.index-cords-place.result in
    let apart : (here.object == c.args.a) ≡ false = grind (arith, nat_tests, other) in
    let inside : at.place < length at.cords = omega arith in
    (at.invariant.0, none-more c.args.a at.cords at.place here at.invariant.1 (got at.cords at.place here inside c.index-cords-place.is) apart)

pub returns : goal.returns
returns c =
    let at = c.loop-place in
    let all : length at.cords ≤ at.place = omega arith in
    absurd (somewhere c.args.a at.cords (λ k x less there. at.invariant.1 k x (omega (arith, less, all)) there) (subst (λ cs. has_cord c.args.a cs ≡ true) (sym at.invariant.0) c.requires))
