use Rattle.std.proofs.Common.{◌≡◌, ◌∙◌, ◌+◌, ◌-◌, ℕ, List, subst, drop, arith, ap, get_or}
use Rattle.qp_stim.specs.Names.{object_in}
use Rattle.qp_stim.specs.Maps.{text_in}
use Rattle.qp_stim.proofs.NamesLemmas.{text_in-object}
use Rattle.qp_stim.proofs.names.objects_of.Goals as goal

pub loop-place-preserved : goal.loop-place-preserved
loop-place-preserved c =
    let back : c.loop-place.place ≡ (c.loop-place.place - 1) + 1 = omega arith in
    let P : ℕ → Type 0 = λ i. (name : List ℕ) → text_in c.loop-place.objects name ≡ object_in (drop i c.args.sys.now.objects) name in
    record {
      in_range = omega (arith, c.loop-place.invariant.in_range);
      known = text_in-object c.as_bytes.result.now c.loop-place.objects c.insert.new.self (c.loop-place.place - 1) c.args.sys.now.objects c.index-object.result.now
          c.in_ok-insert.ensures.updates (omega (arith, c.loop-place.invariant.in_range)) (c.index-object.ensures ∙ ap (λ s. get_or s.objects (c.loop-place.place - 1) c.index-object.result.now) c.sys.view_is) (c.as_bytes.ensures.value ∙ c.as_str.ensures)
          (subst P back c.loop-place.invariant.known);
    }
