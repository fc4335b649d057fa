-- Actions whose events have at most eight parameters.
use Rattle.std.specs.Prelude.{◌≤◌, length}
use Rattle.qp_chart.specs.declared.actions.Plain.{Plain}
use Rattle.qp_chart.specs.declared.actions.Plain.TheVariants as action

abbrev pub MakesFew : Plain → Type 0
MakesFew (action.Post to sig pars margin reserve) = length pars ≤ 8
MakesFew (action.Lifo sig pars reserve) = length pars ≤ 8
MakesFew (action.Publish sig pars reserve) = length pars ≤ 8
MakesFew plain = Unit {0}
