use Rattle.std.proofs.Common.{◌≡◌, not, subst, sym}
use Rattle.qp_check_ends.specs.Tries.{SetHolds, with_seen, repeats}
use Rattle.qp_check_ends.proofs.TryLemmas.{new-holds}
use Rattle.qp_check_ends.proofs.tries.is_new.Goals as goal

pub returns-in_ok-insert-in-Some : goal.returns-in_ok-insert-in-Some
returns-in_ok-insert-in-Some c = λ xs held.
    subst (λ k. (c.in_ok-insert-in-Some.field-0 ≡ not (repeats xs k)) × SetHolds c.insert.new.self (with_seen xs k)) (sym c.in-Some.is)
    (new-holds c.args.seen.now c.insert.new.self c.in-Some.key c.in_ok-insert-in-Some.field-0 c.in_ok-insert-in-Some.ensures.added c.in_ok-insert-in-Some.ensures.updates.0 xs held)
