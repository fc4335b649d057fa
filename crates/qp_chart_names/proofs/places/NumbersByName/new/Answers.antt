use Rattle.std.proofs.Common.{refl}
use Rattle.qp_chart_names.specs.Numbering.{number_of_name}
use Rattle.qp_chart_names.proofs.places.NumbersByName.new.Goals as goal

pub returns : goal.returns
unfolding number_of_name
returns c = λ name. rw c.new.ensures.empty refl
