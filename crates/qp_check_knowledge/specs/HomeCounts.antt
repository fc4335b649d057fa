-- The counts that records of a home lane show.
use Rattle.std.specs.Prelude.{ℕ}
use Rattle.std.specs.declared.option.Option.{Option}
use Rattle.qp_model.specs.declared.bodies.Body.{Body}
use Rattle.qp_model.specs.HomeLane.{nil_counts, seen_counts}
use Rattle.qp_check_knowledge.specs.declared.told_home.Showing.{Showing}
use Rattle.qp_check_knowledge.specs.declared.told_home.Showing.TheVariants as showing

abbrev pub counts_by : Showing → Body → Option (ℕ × ℕ × ℕ)
counts_by showing.Nil b = nil_counts b
counts_by showing.Seen b = seen_counts b
