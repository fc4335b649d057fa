-- What is counted of a worker.
use Rattle.std.specs.Prelude.{◌≤◌, true}
use Rattle.std.proofs.Common.{arith}
use Rattle.qp_calls.specs.LaneView.{LaneView}
use Rattle.qp_port_phases.specs.Rows.{CountsOn, Numbers}

-- nothing: rows of looks are counted of a kernel alone
abbrev pub uncounted : Numbers
uncounted = record { rows = 0; settles = 0; lost = true }

pub counts-none : (v : LaneView) → CountsOn v uncounted uncounted
counts-none v = record {
  lost = λ e. e;
  settles = λ e. omega arith;
  rows = λ e. omega arith;
  pending = λ e p is sees. omega arith;
}

pub none-more : (n : Numbers) → n.rows ≤ n.rows
none-more n = omega arith
