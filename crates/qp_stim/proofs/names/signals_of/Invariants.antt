use Rattle.std.proofs.Common.{◌≡◌, ◌≤◌, ◌+◌, List, ℕ, length, drop}
use Rattle.qp_stim.specs.Names.{signal_in}
use Rattle.qp_stim.specs.Maps.{text_in}
use Rattle.qp_stim.proofs.names.signals_of.Given as goal

abbrev pub invariant-loop-place : goal.invariant-loop-place
invariant-loop-place l = record {
  in_range : l.place ≤ length l.sys.signals;
  known : (name : List ℕ) → text_in l.signals name ≡ signal_in (l.place + 4) (drop l.place l.sys.signals) name;
}

abbrev pub decreases-loop-place : goal.decreases-loop-place
decreases-loop-place l = l.place
