use Rattle.std.proofs.Common.{sym, ◌∙◌, ap, Option}
use Rattle.qp_model.specs.declared.bodies.Entry.{Entry}
use Rattle.qp_check_calls.specs.CallStateNext.{call_state_next}
use Rattle.qp_check_course.specs.AsState.{as_actor, as_way}
use Rattle.qp_check_course.proofs.CanLemmas.{call-next}
use Rattle.qp_check_course.proofs.tell.called.Goals as goal

pub posted-requires-clause-can : goal.posted-requires-clause-can
posted-requires-clause-can c =
    call-next c.args.who.now.sys.now (as_actor c.args.who.now) c.requires.able (as_way c.args.way) c.args.rest c.in-Some.more c.args.told.now
    (sym c.in-Some.is ∙ c.in_ok-more.ensures ∙ ap (λ (e : Option Entry). call_state_next c.args.who.now.sys.now c.args.who.now.o e c.args.rest c.args.told.now) c.entry-entry.ensures) c.requires.can
