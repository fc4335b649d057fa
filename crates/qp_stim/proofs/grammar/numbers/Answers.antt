use Rattle.std.proofs.Common.{◌∙◌, ap, sym, ℕ, List, Bor}
use Rattle.std.specs.declared.option.Option.{Option}
use Rattle.std.specs.Option.{option_map}
use Rattle.qp_stim.specs.Grammar.{numbers_of_tokens}
use Rattle.qp_stim.specs.Reading.{parts_left, with_pars}
use Rattle.qp_stim.proofs.PartsLemmas.{parts_left-cut}
use Rattle.qp_stim.proofs.ParsLemmas.{numbers_of-None, numbers_of-Some, numbers_of-end}
use Rattle.qp_stim.proofs.grammar.numbers.Goals as goal

pub returns-in_err-number : goal.returns-in_err-number
returns-in_err-number c =
    let parts = parts_left-cut 44 c.loop-rest.rest c.in-Some.text c.cut.result.0.now c.cut.result.1 c.in-Some.is c.cut.ensures.front c.cut.ensures.rest in
    let none = numbers_of-None c.loop-rest.pars c.cut.result.0.now (parts_left 44 (option_map (λ r. r.now) c.cut.result.1)) (sym c.number.ensures ∙ c.in_err-number.was) in
    c.from_residual.ensures ∙ sym (ap (λ l. option_map (with_pars c.loop-rest.pars) (numbers_of_tokens l)) parts ∙ none) ∙ c.loop-rest.invariant

pub loop-rest-preserved : goal.loop-rest-preserved
loop-rest-preserved c =
    let parts = parts_left-cut 44 c.loop-rest.rest c.in-Some.text c.cut.result.0.now c.cut.result.1 c.in-Some.is c.cut.ensures.front c.cut.ensures.rest in
    let more = parts_left 44 (option_map (λ (r : Bor (List ℕ)). r.now) c.cut.result.1) in
    let some = numbers_of-Some c.loop-rest.pars c.cut.result.0.now more c.in_ok-number.field-0 (sym c.number.ensures ∙ c.in_ok-number.was) in
    ap (λ p. option_map (with_pars p) (numbers_of_tokens more)) c.add.ensures
    ∙ sym (ap (λ l. option_map (with_pars c.loop-rest.pars) (numbers_of_tokens l)) parts ∙ some) ∙ c.loop-rest.invariant

pub returns : goal.returns
returns c =
    let end = ap (λ (r : Option (Bor (List ℕ))). option_map (with_pars c.loop-rest.pars) (numbers_of_tokens (parts_left 44 (option_map (λ x. x.now) r)))) c.in_default.is in
    sym (end ∙ numbers_of-end c.loop-rest.pars) ∙ c.loop-rest.invariant
