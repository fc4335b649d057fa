use Rattle.std.proofs.Common.{◌≡◌, ◌∙◌, ◌+◌, ◌-◌, ℕ, List, subst, drop, arith, ap, get_or}
use Rattle.qp_stim.specs.Names.{signal_in}
use Rattle.qp_stim.specs.Maps.{text_in}
use Rattle.qp_stim.proofs.NamesLemmas.{text_in-signal}
use Rattle.qp_stim.proofs.names.signals_of.Goals as goal

pub loop-place-preserved : goal.loop-place-preserved
loop-place-preserved c =
    let back : c.loop-place.place ≡ (c.loop-place.place - 1) + 1 = omega arith in
    let P : ℕ → Type 0 = λ i. (name : List ℕ) → text_in c.loop-place.signals name ≡ signal_in (i + 4) (drop i c.args.sys.now.signals) name in
    let shift : c.loop-place.place - 1 + 1 + 4 ≡ c.loop-place.place - 1 + 4 + 1 = omega arith in
    let Q : ℕ → Type 0 = λ n. (name : List ℕ) → text_in c.loop-place.signals name ≡ signal_in n (drop (c.loop-place.place - 1 + 1) c.args.sys.now.signals) name in
    record {
      in_range = omega (arith, c.loop-place.invariant.in_range);
      known = text_in-signal c.as_bytes.result.now c.loop-place.signals c.insert.new.self (c.loop-place.place - 1) (c.loop-place.place - 1 + 4) c.args.sys.now.signals c.index-signal.result.now
          c.in_ok-insert.ensures.updates (omega (arith, c.loop-place.invariant.in_range)) (c.index-signal.ensures ∙ ap (λ s. get_or s.signals (c.loop-place.place - 1) c.index-signal.result.now) c.sys.view_is) (c.as_bytes.ensures.value ∙ c.as_str.ensures)
          (subst Q shift (subst P back c.loop-place.invariant.known));
    }
