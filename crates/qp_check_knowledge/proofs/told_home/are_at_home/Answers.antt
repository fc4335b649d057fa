use Rattle.std.proofs.Common.{◌≡◌, ◌∙◌, suc, true, false, length, ap, sym, refl, arith}
use Rattle.qp_check_knowledge.proofs.HomeLaneLemmas.{home-next, home-end}
use Rattle.qp_check_knowledge.proofs.told_home.are_at_home.Goals as goal

pub loop-r-init : goal.loop-r-init
loop-r-init c = record { rest = refl; few = omega arith }

pub loop-r-preserved : goal.loop-r-preserved
loop-r-preserved c =
    let longer : length c.loop-r.left.now ≡ suc (length c.in-Some.rest.now) = ap length c.in-Some.ensures.cases.0 in
    record {
      rest =
          c.loop-r.invariant.rest
          ∙ home-next c.args.o c.args.budget c.args.cuts c.loop-r.taken c.loop-r.left.now c.in-Some.r.now c.in-Some.rest.now c.in-Some.ensures.cases.0 c.has_spent-spent.result c.cuts_before.result true
          c.has_spent-spent.ensures c.cuts_before.ensures c.if-not-is_at_home.ensures c.taken_by-taken.result c.taken_by-taken.ensures.exact;
      few = omega (arith, c.taken_by-taken.ensures.few, c.loop-r.invariant.few, longer);
    }

pub loop-r-smaller : goal.loop-r-smaller
loop-r-smaller c = let longer : length c.loop-r.left.now ≡ suc (length c.in-Some.rest.now) = ap length c.in-Some.ensures.cases.0 in omega (arith, longer)

pub taken_by-taken-requires : goal.taken_by-taken-requires
taken_by-taken-requires c =
    let longer : length c.loop-r.left.now ≡ suc (length c.in-Some.rest.now) = ap length c.in-Some.ensures.cases.0 in
    omega (arith, c.loop-r.invariant.few, longer)

pub returns-then-not-is_at_home : goal.returns-then-not-is_at_home
returns-then-not-is_at_home c =
    sym (c.loop-r.invariant.rest
    ∙ home-next c.args.o c.args.budget c.args.cuts c.loop-r.taken c.loop-r.left.now c.in-Some.r.now c.in-Some.rest.now c.in-Some.ensures.cases.0 c.has_spent-spent.result c.cuts_before.result false
    c.has_spent-spent.ensures c.cuts_before.ensures c.if-not-is_at_home.ensures _ refl)

pub returns-in-None : goal.returns-in-None
returns-in-None c = sym (c.loop-r.invariant.rest ∙ home-end c.args.o c.args.budget c.args.cuts c.loop-r.taken c.loop-r.left.now c.in-None.ensures.cases)
