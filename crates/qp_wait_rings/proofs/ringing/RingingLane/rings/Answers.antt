use Rattle.std.proofs.Common.{◌≡◌, ap, arith, ◌∙◌}
use Rattle.std.specs.List.{count_by}
use Rattle.qp_shared.specs.Lane.{lane_view}
use Rattle.qp_shared.specs.LaneLaws.{keeps-limit}
use Rattle.qp_wait_rings.specs.Cords.{notes_given}
use Rattle.qp_wait_rings.specs.Records.{posts_on}
use Rattle.qp_wait_rings.proofs.CordLemmas.{few-posts}
use Rattle.qp_wait_rings.proofs.ringing.RingingLane.rings.Goals as goal

pub overflow_cast-result : goal.overflow_cast-result
overflow_cast-result c =
    let l = c.args.self.now in
    let few = few-posts c.args.a (lane_view l.lane) (keeps-limit l.lane) in
    let is : c.pulls_of.result ≡ count_by (posts_on c.args.a) (lane_view l.lane).told = c.pulls_of.ensures ∙ ap (notes_given c.args.a) c.as_slice.ensures.value ∙ l.rung.rang c.args.a in
    omega (arith, few, is)

pub returns : goal.returns
returns c = let l = c.args.self.now in c.pulls_of.ensures ∙ ap (notes_given c.args.a) c.as_slice.ensures.value ∙ l.rung.rang c.args.a
