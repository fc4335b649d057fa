use Rattle.std.proofs.Common.{◌∙◌, ap, sym}
use Rattle.qp_check_calls.specs.AsKnown.{as_known}
use Rattle.qp_check_calls.proofs.SetLemmas.{set-next-is}
use Rattle.qp_check_calls.proofs.puts.set_next.Goals as goal

pub returns-in-Pub-Nothing : goal.returns-in-Pub-Nothing
returns-in-Pub-Nothing c =
    set-next-is _ _ _ _ _ _ _ _ _ _ _ c.only.ensures c.publishes_to.ensures c.from.ensures
    (ap (λ t. t.body) (sym c.told.view_is) ∙ c.in-Pub-Nothing.is-0)
    (ap (λ t. t.known) (sym c.told.view_is) ∙ ap as_known c.in-Pub-Nothing.is-1)
