use Rattle.toml.specs.View.{table_view}
use Rattle.qp_system_tables.proofs.DocumentLemmas.{FromBytes-tree}
use Rattle.qp_system_tables.proofs.document.raw_of_bytes.Goals as goal

pub returns-in-Ok : goal.returns-in-Ok
returns-in-Ok c =
    FromBytes-tree c.raw_system.result c.args.bytes.now (table_view c.in-Ok.table) c.in-Ok.ensures.ok.0 c.in-Ok.ensures.ok.1 c.raw_system.ensures
