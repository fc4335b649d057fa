use Rattle.std.proofs.Common.{◌∙◌, ap, sym}
use Rattle.qp_model.specs.Parts.{is_static}
use Rattle.qp_calls.specs.Clauses.{event_of}
use Rattle.qp_calls.proofs.Posting.{made-static}
use Rattle.qp_calls.proofs.entries.make_entry.Goals as goal

pub returns-then-is_static : goal.returns-then-is_static
returns-then-is_static g c =
    made-static c.args.sys.now (event_of c.args.ev.now) c.args.reserve _ c.requires.of
    (ap (λ x. is_static c.args.sys.now x) (sym c.from.ensures) ∙ sym c.is_static.ensures ∙ c.if-is_static.true)
