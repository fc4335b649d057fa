-- The answer on a run, by its journal.
use Rattle.qp_model.specs.declared.journals.Journal.{Journal}
use Rattle.qp_kernel_end.specs.declared.journal.Outcome.{Outcome}
use Rattle.qp_kernel_end.specs.declared.journal.Outcome.TheVariants as outcome
use Rattle.qp_kernel_end.specs.Outcome.{outcome_of}
use Rattle.qp_run_parts.specs.declared.status.Status.{Status}
use Rattle.qp_run_parts.specs.declared.status.Status.TheVariants.{Done, Asserted, Spent}

abbrev pub status_of : Outcome → Status
status_of outcome.Quiet = Done
status_of (outcome.Asserted code lane) = Asserted code lane
status_of (outcome.Spent lane) = Spent lane

-- what the records of the journal say: the code of the assertion in the lowest lane in which one stands; else the lowest lane in which a
-- `spent` or a `spill` stands; else the run was done
unfoldable pub ending_of : Journal → Status
unfolding outcome_of
ending_of j = status_of (outcome_of j)
