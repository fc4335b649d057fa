use Rattle.std.proofs.Common.{◌≡◌, ◌∙◌, true, nat_lt, nat_le, ap, sym, subst, arith}
use Rattle.std.proofs.lemmas.Bool.{and_from}
use Rattle.std.proofs.lemmas.Bool.Decides.{nat_tests}
use Rattle.qp_model.specs.Touches.{as_word}
use Rattle.qp_model.specs.History.{Draws, Shows}
use Rattle.qp_replay.specs.Marks.{has_mark}
use Rattle.qp_replay.specs.Remaining.{IsRemaining, LaneFronts}
use Rattle.qp_replay.proofs.RemainingLemmas.{draw-blocks, draw-free, match-map, none-free, show-blocks, show-free}
use Rattle.qp_replay.proofs.remaining.Remaining.blocker.Goals as goal

pub returns-in-Some : goal.returns-in-Some
returns-in-Some c =
    let draws = c.self.inside.draws in
    let shows = c.self.inside.shows in
    let remaining = subst (λ (s : LaneFronts). IsRemaining s.lanes s.fronts draws shows) c.self.view_is c.self.invariant in
    let v = as_word c.in-Draws.word in
    let x = c.in-Some.x in
    let found = c.in-Some.ensures in
    let less : nat_lt found.0 c.in-Draws.mark ≡ true = grind (arith, nat_tests, found.1) in
    draw-blocks c.args.self.now draws shows c.args.lane v found.0 x.lane x.place (Draws v c.in-Draws.mark) remaining (sym c.in-Draws.ensures)
    (ap (λ k. has_mark draws k (found.0, x.lane, x.place)) (sym c.key_of.ensures) ∙ found.2) (λ u same. and_from _ _ same less)

pub returns-in-None : goal.returns-in-None
returns-in-None c =
    let st = c.args.self.now in
    let draws = c.self.inside.draws in
    let shows = c.self.inside.shows in
    let remaining = subst (λ (s : LaneFronts). IsRemaining s.lanes s.fronts draws shows) c.self.view_is c.self.invariant in
    let v = as_word c.in-Draws.word in
    let mark = c.in-Draws.mark in
    match-map c.below-in-None.result _ _ _ _ c.below-in-None.ensures
    (λ none.
    draw-free st draws shows c.args.lane v mark remaining (sym c.in-Draws.ensures) (λ e h. c.in-None.ensures e (ap (λ k. has_mark draws k e) c.key_of.ensures ∙ h))
    (λ e h. none e (ap (λ k. has_mark shows k e) c.key_of-in-None.ensures ∙ h)))
    (λ x found.
    let less : nat_lt found.0 mark ≡ true = grind (arith, nat_tests, found.1) in
    show-blocks st draws shows c.args.lane v found.0 x.lane x.place (Draws v mark) remaining (sym c.in-Draws.ensures)
    (ap (λ k. has_mark shows k (found.0, x.lane, x.place)) (sym c.key_of-in-None.ensures) ∙ found.2) (λ u same. and_from _ _ same less))

pub returns-in-Shows : goal.returns-in-Shows
returns-in-Shows c =
    let st = c.args.self.now in
    let draws = c.self.inside.draws in
    let shows = c.self.inside.shows in
    let remaining = subst (λ (s : LaneFronts). IsRemaining s.lanes s.fronts draws shows) c.self.view_is c.self.invariant in
    let v = as_word c.in-Shows.word in
    let mark = c.in-Shows.mark in
    match-map c.within.result _ _ _ _ c.within.ensures
    (λ none. show-free st draws shows c.args.lane v mark remaining (sym c.in-Shows.ensures) (λ e h. none e (ap (λ k. has_mark draws k e) c.key_of-in-Shows.ensures ∙ h)))
    (λ x found.
    let le : nat_le found.0 mark ≡ true = grind (arith, nat_tests, found.1) in
    draw-blocks st draws shows c.args.lane v found.0 x.lane x.place (Shows v mark) remaining (sym c.in-Shows.ensures)
    (ap (λ k. has_mark draws k (found.0, x.lane, x.place)) (sym c.key_of-in-Shows.ensures) ∙ found.2) (λ u same. and_from _ _ same le))

pub returns-in-Neither : goal.returns-in-Neither
returns-in-Neither c = let a = c.in-Neither.ensures in none-free c.args.self.now c.args.lane (sym a)
