use Rattle.std.proofs.Common.{◌∙◌, sym, ap, subst}
use Rattle.qp_chart_text.specs.declared.trees.Expr.{Expr}
use Rattle.qp_chart.specs.Tree as bound
use Rattle.qp_chart_text.specs.Terms.{term_of}
use Rattle.qp_chart.specs.Binding.{Binds}
use Rattle.qp_chart_names.specs.Known.{words, knows}
use Rattle.qp_chart.proofs.BindingLemmas.{binds_place, no_place}
use Rattle.qp_chart.proofs.binding.+resolve.Goals as goal

pub returns-in-Some-clause-ok : goal.returns-in-Some-clause-ok
unfolding term_of
returns-in-Some-clause-ok t c =
    let P : Expr → Type 0 = λ e. Binds (words c.args.vars.now) c.args.params (term_of e) (bound.Var c.in-Some.v) in
    subst P (sym c.in-Var.is) (binds_place c.in-Var.name c.args.vars.now c.args.params c.in-Some.v (sym c.in-Some.ensures))

pub returns-in-None-clause-refused : goal.returns-in-None-clause-refused
unfolding term_of knows
returns-in-None-clause-refused t c =
    ap (λ e. knows (words c.args.vars.now) (term_of e)) c.in-Var.is ∙ no_place c.in-Var.name c.args.vars.now (sym c.in-None.ensures)
