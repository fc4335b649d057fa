use Rattle.std.proofs.Common.{◌≡◌, List, [], ◌∷◌, ◌++◌, sym, ap, subst, refl, ◌∙◌}
use Rattle.qp_table.specs.First.{first_serves}
use Rattle.qp_core.specs.Runs.{first_seat}
use Rattle.qp_core.specs.Standing.{TableHolds}
use Rattle.qp_core_steps.specs.declared.seats.Seat.{Seat}
use Rattle.qp_core.proofs.FirstLemmas.{first-is, first-holds}
use Rattle.qp_core.proofs.state.CoreState.new.Goals as goal

pub returns-clause-first : goal.returns-clause-first
returns-clause-first c =
    first-is c.args.sys.now c.args.lanes _ c.requires.sound refl refl c.in_ok-words.ensures.wide c.in_ok-words.ensures.each
    (c.in_ok-add_seat.ensures.ok ∙ (ap (λ (ys : List Seat). ys ++ c.in_ok-seat.seat ∷ []) c.no_items-seats.ensures ∙ ap (λ (x : Seat). x ∷ []) c.in_ok-seat.ensures))

pub returns-clause-kept : goal.returns-clause-kept
returns-clause-kept c =
    let seats_are : c.add_seat.new.seats ≡ first_seat (first_serves c.args.sys.now 32) ∷ [] = c.in_ok-add_seat.ensures.ok ∙ (ap (λ (ys : List Seat). ys ++ c.in_ok-seat.seat ∷ []) c.no_items-seats.ensures ∙ ap (λ (x : Seat). x ∷ []) c.in_ok-seat.ensures) in
    subst (TableHolds c.args.sys.now c.args.lanes c.in_ok-words.words) (sym seats_are) (first-holds c.args.sys.now c.args.lanes c.in_ok-words.words c.requires.sound c.requires.few c.in_ok-words.ensures.wide c.in_ok-words.ensures.each)
