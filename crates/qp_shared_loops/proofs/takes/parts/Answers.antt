use Rattle.std.proofs.Common.{ap, sym, ◌∙◌}
use Rattle.qp_model.specs.Record.{entry}
use Rattle.qp_calls.specs.Clauses.{entry_of}
use Rattle.qp_shared_loops.proofs.takes.parts.Goals as goal

pub returns-in-Static : goal.returns-in-Static
unfolding entry_of
returns-in-Static c = ap entry_of c.in-Static.is

pub returns-in-Pool : goal.returns-in-Pool
unfolding entry_of
returns-in-Pool c = ap entry_of c.in-Pool.is ∙ (λ i. entry (sym c.pool.ensures i) (sym (c.from.ensures ∙ c.block.ensures) i) (sym c.name.ensures i))
