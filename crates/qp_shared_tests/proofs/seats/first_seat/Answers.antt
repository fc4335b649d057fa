use Rattle.std.proofs.Common.{sym, ap, ◌∙◌}
use Rattle.qp_model.specs.WordLaw.{is_object}
use Rattle.qp_shared_tests.proofs.Sets.{only-one}
use Rattle.qp_shared_tests.proofs.seats.first_seat.Goals as goal

pub seat-requires-clause-serves : goal.seat-requires-clause-serves
seat-requires-clause-serves c = λ o some h. c.requires.all o ∙ (ap (is_object c.args.sys.now) (only-one o some h) ∙ (sym c.has_object.ensures ∙ c.if-not-has_object.false))
