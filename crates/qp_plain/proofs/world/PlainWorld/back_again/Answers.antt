use Rattle.std.proofs.Common.{refl, ◌∙◌, ap, arith}
use Rattle.qp_chart.specs.StateTree.{has}
use Rattle.qp_plain_sound.proofs.Standing.{block-pool}
use Rattle.qp_calls_log.specs.Lane.{is_plain}
use Rattle.qp_plain.proofs.Calling.{stop-stays, pool-at}
use Rattle.qp_plain.proofs.Few.{pool-few}
use Rattle.qp_plain.proofs.Holding.{pool-in, block-in}
use Rattle.qp_plain.proofs.RepeatFacts.{back-may, block-bytes, loose-not_free}
use Rattle.qp_plain.proofs.RepeatHolds.{back-again}
use Rattle.qp_plain.proofs.world.PlainWorld.back_again.Goals as goal

pub overflow_sub-p : goal.overflow_sub-p
overflow_sub-p c = let w = c.args.self.now in let at = pool-in w.sys.now c.args.p ((block-pool w.sys.now c.args.p c.args.b (back-may w c.args.rec c.requires.next c.args.p c.requires.says.0 c.args.b c.requires.says.1 c.requires.says.2).block).0) in omega (arith, at.0)

pub index_mut-requires : goal.index_mut-requires
index_mut-requires c =
    let w = c.args.self.now in
    let at = pool-in w.sys.now c.args.p ((block-pool w.sys.now c.args.p c.args.b (back-may w c.args.rec c.requires.next c.args.p c.requires.says.0 c.args.b c.requires.says.1 c.requires.says.2).block).0) in
    omega (arith, at.0, at.1, w.holds.pools_hold.long, w.pools.ok.0)

pub put-requires-clause-few : goal.put-requires-clause-few
put-requires-clause-few c =
    let w = c.args.self.now in
    let le = pool-few w.sys.now w.book w.holds.world.sound.words c.args.p ((block-pool w.sys.now c.args.p c.args.b (back-may w c.args.rec c.requires.next c.args.p c.requires.says.0 c.args.b c.requires.says.1 c.requires.says.2).block).0) in
    let is = ap (λ x. x.count) (pool-at w c.args.p c.args.p c.index_mut.result.now ((block-pool w.sys.now c.args.p c.args.b (back-may w c.args.rec c.requires.next c.args.p c.requires.says.0 c.args.b c.requires.says.1 c.requires.says.2).block).0) refl c.index_mut.ensures.value) in
    omega (arith, le, is)

pub overflow_cast-b : goal.overflow_cast-b
overflow_cast-b c = let w = c.args.self.now in record { fits = (block-bytes w c.args.p c.args.b (back-may w c.args.rec c.requires.next c.args.p c.requires.says.0 c.args.b c.requires.says.1 c.requires.says.2).block).1 }

pub put-requires-clause-within : goal.put-requires-clause-within
put-requires-clause-within c = let w = c.args.self.now in (block-in w.sys.now w.holds.limits c.args.p c.args.b (back-may w c.args.rec c.requires.next c.args.p c.requires.says.0 c.args.b c.requires.says.1 c.requires.says.2).block).blocks

pub put-requires-clause-out : goal.put-requires-clause-out
put-requires-clause-out c =
    let w = c.args.self.now in
    let may = back-may w c.args.rec c.requires.next c.args.p c.requires.says.0 c.args.b c.requires.says.1 c.requires.says.2 in
    ap (λ x. has x.free c.args.b) (pool-at w c.args.p c.args.p c.index_mut.result.now ((block-pool w.sys.now c.args.p c.args.b (back-may w c.args.rec c.requires.next c.args.p c.requires.says.0 c.args.b c.requires.says.1 c.requires.says.2).block).0) refl c.index_mut.ensures.value) ∙ loose-not_free w c.args.p c.args.b may.block may.token

pub add-requires-clause-plain : goal.add-requires-clause-plain
add-requires-clause-plain c = ap is_plain c.requires.says.2

pub invariant_of-self : goal.invariant_of-self
invariant_of-self c =
    let w = c.args.self.now in
    record {
      holds = back-again w c.add.new.self c.args.rec c.add.ensures.gains c.requires.next c.args.p c.requires.says.0 c.args.b c.requires.says.1 c.args.p c.index_mut.result.now c.put.new.self c.requires.says.2 refl
          (pool-at w c.args.p c.args.p c.index_mut.result.now ((block-pool w.sys.now c.args.p c.args.b (back-may w c.args.rec c.requires.next c.args.p c.requires.says.0 c.args.b c.requires.says.1 c.requires.says.2).block).0) refl c.index_mut.ensures.value) c.put.ensures;
      stops = stop-stays w.stop w.book c.add.new.self c.add.ensures.gains.stays w.stops;
    }

pub returns : goal.returns
returns c = record { sys_is = refl; by_is = refl; stop_is = refl; gains = c.add.ensures.gains }
