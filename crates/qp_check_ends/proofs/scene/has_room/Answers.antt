use Rattle.std.proofs.Common.{map}
use Rattle.qp_model.specs.declared.systems.PoolDef.{PoolDef}
use Rattle.qp_check_ends.proofs.PoolLemmas.{pool-any}
use Rattle.qp_check_ends.proofs.scene.has_room.Goals as goal

pub loop-d-init : goal.loop-d-init
loop-d-init c = pool-any (map (λ (d : PoolDef). d.size) c.args.pools.now) c.args.n
