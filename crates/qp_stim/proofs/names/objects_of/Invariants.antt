use Rattle.std.proofs.Common.{◌≡◌, ◌≤◌, List, ℕ, length, drop}
use Rattle.qp_stim.specs.Names.{object_in}
use Rattle.qp_stim.specs.Maps.{text_in}
use Rattle.qp_stim.proofs.names.objects_of.Given as goal

abbrev pub invariant-loop-place : goal.invariant-loop-place
invariant-loop-place l = record {
  in_range : l.place ≤ length l.sys.objects;
  known : (name : List ℕ) → text_in l.objects name ≡ object_in (drop l.place l.sys.objects) name;
}

abbrev pub decreases-loop-place : goal.decreases-loop-place
decreases-loop-place l = l.place
