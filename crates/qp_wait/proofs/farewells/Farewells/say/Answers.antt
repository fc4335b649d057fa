use Rattle.std.proofs.Common.{◌≡◌, ◌+◌, ◌%◌, ◌^◌, true, ap, length, map, subst, sym, ◌∙◌}
use Rattle.qp_wait_rings.specs.declared.cord.Cord.{Cord}
use Rattle.qp_wait.specs.Parked.{have_all}
use Rattle.qp_wait_rings.proofs.CordLemmas.{whole, long-as}
use Rattle.qp_wait.proofs.Saying.{all-said}
use Rattle.qp_wait.proofs.farewells.Farewells.say.Goals as goal

pub invariant_of-self : goal.invariant_of-self
invariant_of-self c =
    let f = c.args.self.now in
    let lent = c.as_mut_slice.ensures.value in
    let long = long-as c.as_mut_slice.result.now c.ring_all.new.cords c.ring_all.ensures.objects ∙ ap length lent in
    let len = sym c.as_mut_slice.ensures.len ∙ ap length lent in
    record {
      all =
          subst (λ cs. have_all ((f.said + 1) % 2 ^ 64) cs ≡ true) (sym (whole f.cords.len c.ring_all.new.cords f.cords.items len long))
          (all-said f.said f.cords.items c.ring_all.new.cords f.all (c.ring_all.ensures.pulls ∙ ap (map (λ (x : Cord). (x.pulls + 1) % 2 ^ 64)) lent));
    }
