-- The sources of the lines that were read.
use Rattle.std.specs.Prelude.{List, ◌++◌}
use Rattle.std.specs.Option.{option_to_list}
use Rattle.qp_model.specs.declared.stimulus.Stim.{Stim}
use Rattle.qp_stim.specs.declared.sources.Sources.{Sources}

abbrev pub gathered : Sources → List (List Stim)
gathered s = s.whole.items ++ option_to_list s.standing
