use Rattle.std.proofs.Common.{◌≡◌, nat_le, is_some, map, drop}
use Rattle.std.specs.List.{list_any}
use Rattle.qp_model.specs.Parts.{first_pool}
use Rattle.qp_check_ends.proofs.scene.has_room.Given as goal

abbrev pub invariant-loop-d : goal.invariant-loop-d
invariant-loop-d l = is_some (first_pool (map (λ d. d.size) l.pools) l.n) ≡ list_any (λ size. nat_le l.n size) (map (λ d. d.size) (drop l.d-index l.pools))
