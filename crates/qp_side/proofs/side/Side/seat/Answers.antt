use Rattle.std.proofs.Common.{ap, ◌∙◌}
use Rattle.qp_side.specs.Seat.{serves_object}
use Rattle.qp_side.proofs.Serving.{serves-set, left-serves}
use Rattle.qp_side.proofs.side.Side.seat.Goals as goal

pub returns-clause-serves : goal.returns-clause-serves
returns-clause-serves c = λ o some. ap (λ v. serves_object v o) c.give_seat-seat.ensures.seat ∙ serves-set c.args.serves o c.args.root.now.seat.me.0.view.serves (c.requires.serves o some)

pub returns-clause-rest : goal.returns-clause-rest
returns-clause-rest c = λ o some. ap (λ v. serves_object v o) c.give_seat-seat.ensures.root ∙ left-serves c.args.serves o c.args.root.now.seat.me.0.view.serves
