use Rattle.std.proofs.Common.{◌==◌, ◌∙◌, ◌+◌, ◌-◌, ◌≤◌, ap, sym, arith, length, length-drop, drop, Some, ℕ}
use Rattle.std.specs.Option.{option_map}
use Rattle.std.proofs.lemmas.List.{take_all}
use Rattle.qp_stim.proofs.PartsLemmas.{position-None, position-Some}
use Rattle.qp_stim.proofs.tokens.cut.Goals as goal

pub returns-in-None-clause-front : goal.returns-in-None-clause-front
returns-in-None-clause-front c =
    position-None (λ b. b == c.args.separator) c.args.text.now (sym c.place_of.ensures ∙ c.in-None.is)

pub returns-in-None-clause-rest : goal.returns-in-None-clause-rest
returns-in-None-clause-rest c =
    ap (option_map (λ (place : ℕ). drop (place + 1) c.args.text.now)) (sym c.in-None.is ∙ c.place_of.ensures)

pub returns-in-Some-clause-front : goal.returns-in-Some-clause-front
returns-in-Some-clause-front c =
    position-Some (λ b. b == c.args.separator) c.args.text.now c.in-Some.place (sym c.place_of.ensures ∙ c.in-Some.is)

pub returns-in-Some-clause-rest : goal.returns-in-Some-clause-rest
returns-in-Some-clause-rest c =
    let whole : length (drop (c.in-Some.place + 1) c.args.text.now) ≤ length c.args.text.now - (c.in-Some.place + 1) = omega (arith, length-drop {A = ℕ}) in
    ap Some (take_all _ _ whole) ∙ ap (option_map (λ (place : ℕ). drop (place + 1) c.args.text.now)) (sym c.in-Some.is ∙ c.place_of.ensures)
