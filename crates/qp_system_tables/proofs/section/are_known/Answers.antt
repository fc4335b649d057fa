use Rattle.std.proofs.Common.{◌∙◌, sym}
use Rattle.qp_system_tables.proofs.KeyLemmas.{all_known-entries}
use Rattle.qp_system_tables.proofs.section.are_known.Goals as goal

pub returns : goal.returns
returns c = c.has_known_keys.ensures ∙ sym (all_known-entries c.args.keys.now c.args.table.now.entries)
