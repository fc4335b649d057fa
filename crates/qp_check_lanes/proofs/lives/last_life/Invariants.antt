use Rattle.std.proofs.Common.{◌≡◌, take, drop}
use Rattle.qp_model.specs.Machine.{after, is_allowed, allowed_from}
use Rattle.qp_model.specs.Lives.{life_of}
use Rattle.qp_check_lanes.specs.BlockLives.{life_at}
use Rattle.qp_check_lanes.proofs.lives.last_life.Given as goal

abbrev pub invariant-loop-r : goal.invariant-loop-r
invariant-loop-r l = record {
  state : life_at l.life.out l.life.edge ≡ after (life_of l.b) (take l.r-index l.own);
  allowed : is_allowed (life_of l.b) l.own ≡ allowed_from (life_of l.b) (after (life_of l.b) (take l.r-index l.own)) (drop l.r-index l.own);
}
