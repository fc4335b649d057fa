use Rattle.std.proofs.Common.{sym, ap, subst, ◌∙◌}
use Rattle.qp_side.specs.Rule.{SideFitting}
use Rattle.qp_side.specs.Seat.{serves_object}
use Rattle.qp_side.proofs.Serving.{fitting-of, all-served}
use Rattle.qp_side.proofs.side.Side.new.Goals as goal

pub invariant_of-result : goal.invariant_of-result
invariant_of-result c = record { wide = c.in_ok-words.ensures.wide; fitting = subst SideFitting (sym c.in_ok-words.ensures.key) (fitting-of c.args.sys.now c.requires) }

pub returns-clause-serves : goal.returns-clause-serves
returns-clause-serves c = λ o. ap (λ v. serves_object v o) c.in_ok-words.ensures.view ∙ all-served c.args.sys.now c.requires o
