use Rattle.std.proofs.Common.{◌∙◌}
use Rattle.qp_chart_names.specs.Numbering.{number_of_name}
use Rattle.qp_chart_names.proofs.places.NumbersByName.get.Goals as goal

pub returns : goal.returns
unfolding number_of_name
returns c = c.copied.ensures ∙ c.get.ensures.value
