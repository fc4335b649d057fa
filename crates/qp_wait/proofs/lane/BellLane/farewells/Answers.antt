use Rattle.std.proofs.Common.{◌∙◌}
use Rattle.qp_wait.specs.Lane.{bell_view}
use Rattle.qp_wait_rings.proofs.CordLemmas.{cord-there}
use Rattle.qp_wait.proofs.Parking.{both-notes, count-all, given-count}
use Rattle.qp_wait.specs.Lane.{given_in}
use Rattle.qp_wait.proofs.lane.BellLane.farewells.Goals as goal

pub returns-clause-notes : goal.returns-clause-notes
returns-clause-notes c a is =
    let l = c.args.self.now in
    let posts = l.ringing.cords.items in
    let cords = l.farewells.cords.items in
    let there = cord-there a cords (bell_view l).sys l.parked.objects is in
    both-notes (given_in a posts) (given_in a cords) _ _ (given-count a posts ∙ l.ringing.rung.rang a) (given-count a cords ∙ count-all a l.farewells.said cords l.farewells.all there)
