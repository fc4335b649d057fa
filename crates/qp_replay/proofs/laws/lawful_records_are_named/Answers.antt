use Rattle.qp_replay.proofs.NamedRecords.{named-records}
use Rattle.qp_replay.proofs.laws.lawful_records_are_named.Goals as goal

pub returns : goal.returns
returns c = named-records
