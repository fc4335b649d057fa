use Rattle.std.proofs.Common.{◌∙◌, ap}
use Rattle.toml.specs.Data.{get_member}
use Rattle.toml.specs.View.{table_view}
use Rattle.toml.proofs.Views.{table_get}
use Rattle.qp_system_tables.specs.Tree.{at_key}
use Rattle.qp_system_tables.proofs.section.Section.value.Goals as goal

pub returns : goal.returns
unfolding at_key
returns c =
    table_get c.get.result c.word.result.now c.args.self.table.now.entries c.get.ensures.value
    ∙ ap (λ word. get_member word (table_view c.args.self.table.now)) c.word.ensures
