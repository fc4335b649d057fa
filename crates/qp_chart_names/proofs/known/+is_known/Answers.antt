use Rattle.std.proofs.Common.{◌∙◌, sym, ap}
use Rattle.qp_chart_text.specs.Terms.{term_of}
use Rattle.qp_chart_names.specs.Known.{words, knows}
use Rattle.qp_chart_names.proofs.KnownLemmas.{any_named}
use Rattle.qp_chart_names.proofs.known.+is_known.Goals as goal

pub returns-in-Var : goal.returns-in-Var
unfolding term_of knows
returns-in-Var t c =
    c.has_name.ensures ∙ any_named c.in-Var.name c.args.vars.now ∙ ap (λ e. knows (words c.args.vars.now) (term_of e)) (sym c.in-Var.is)
