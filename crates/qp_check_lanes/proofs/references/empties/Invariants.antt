use Rattle.std.proofs.Common.{◌≡◌, ◌≤◌, ◌++◌, drop, take, length}
use Rattle.qp_model.specs.Machine.{is_allowed, allowed_from, after}
use Rattle.qp_model.specs.References.{references}
use Rattle.qp_check_lanes.specs.Standing.{ReferencesStand, empties, empties_from}
use Rattle.qp_check_lanes.proofs.references.empties.Given as goal

abbrev pub invariant-loop-r : goal.invariant-loop-r
invariant-loop-r l = record {
  stands : ReferencesStand (after references (take l.r-index l.history)) l.refs.flags.items l.refs.standing;
  bounded : l.refs.standing ≤ length l.refs.flags.items;
  allowed : is_allowed references l.history ≡ allowed_from references (after references (take l.r-index l.history)) (drop l.r-index l.history);
  empty : empties l.history ≡ l.empties.items ++ empties_from (after references (take l.r-index l.history)) (drop l.r-index l.history);
}
