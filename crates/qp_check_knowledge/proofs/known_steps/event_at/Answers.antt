use Rattle.std.proofs.Common.{◌∙◌, cond, None, ap, sym}
use Rattle.qp_model.specs.Knowing.{event_known}
use Rattle.qp_check_knowledge.specs.KnownSteps.{last_from}
use Rattle.qp_check_knowledge.proofs.known_steps.event_at.Goals as goal

pub returns-then-not-has_drawn : goal.returns-then-not-has_drawn
returns-then-not-has_drawn c =
    ap (λ b. event_known (cond b (last_from c.args.name None c.args.known.now.steps) None)) (sym c.if-not-has_drawn.true ∙ c.has_drawn.ensures)

pub returns : goal.returns
returns c =
    c.event_given.ensures ∙ ap (λ b. event_known (cond b (last_from c.args.name None c.args.known.now.steps) None)) (sym c.if-not-has_drawn.false ∙ c.has_drawn.ensures)
