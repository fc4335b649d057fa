use Rattle.std.proofs.Common.{◌≡◌, length, take}
use Rattle.qp_model.specs.Record.{entry}
use Rattle.qp_dispatch.proofs.steps.read_block.Given as goal

-- the parameters so far
abbrev pub invariant-loop-j : goal.invariant-loop-j
invariant-loop-j g l =
    record {
      made : l.pars.items ≡ take l.j ((g.O.Ops.lane l.fn.ops).event (entry l.fn.h.pool l.fn.h.block l.fn.h.name)).pars;
      count : length l.pars.items ≡ l.j;
      still : g.O.Ops.lane l.ops ≡ g.O.Ops.lane l.fn.ops;
    }
