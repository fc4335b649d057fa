use Rattle.std.proofs.Common.{refl, ap}
use Rattle.qp_calls_log.specs.Lane.{is_plain}
use Rattle.qp_plain.proofs.BlockTable.{small, small-refs}
use Rattle.qp_plain.proofs.Calling.{stop-stays, block-at}
use Rattle.qp_plain.proofs.Holding.{block-in}
use Rattle.qp_plain.proofs.RepeatFacts.{inc-may, block-bytes}
use Rattle.qp_plain.proofs.RepeatHolds.{inc-again}
use Rattle.qp_plain.proofs.world.PlainWorld.inc_again.Goals as goal

pub overflow_cast-p : goal.overflow_cast-p
overflow_cast-p c = let w = c.args.self.now in record { fits = (block-bytes w c.args.p c.args.b (inc-may w c.args.rec c.requires.next c.args.p c.args.b c.requires.says.0 c.requires.says.1).block).0 }

pub overflow_cast-b : goal.overflow_cast-b
overflow_cast-b c = let w = c.args.self.now in record { fits = (block-bytes w c.args.p c.args.b (inc-may w c.args.rec c.requires.next c.args.p c.args.b c.requires.says.0 c.requires.says.1).block).1 }

pub place-requires-clause-some : goal.place-requires-clause-some
place-requires-clause-some c = let w = c.args.self.now in (block-in w.sys.now w.holds.limits c.args.p c.args.b (inc-may w c.args.rec c.requires.next c.args.p c.args.b c.requires.says.0 c.requires.says.1).block).some

pub place-requires-clause-pools : goal.place-requires-clause-pools
place-requires-clause-pools c = let w = c.args.self.now in (block-in w.sys.now w.holds.limits c.args.p c.args.b (inc-may w c.args.rec c.requires.next c.args.p c.args.b c.requires.says.0 c.requires.says.1).block).pools

pub place-requires-clause-blocks : goal.place-requires-clause-blocks
place-requires-clause-blocks c = let w = c.args.self.now in (block-in w.sys.now w.holds.limits c.args.p c.args.b (inc-may w c.args.rec c.requires.next c.args.p c.args.b c.requires.says.0 c.requires.says.1).block).blocks

pub make-requires-clause-ops : goal.make-requires-clause-ops
make-requires-clause-ops c = let w = c.args.self.now in small w c.args.p c.args.b c.index_mut.result.now (inc-may w c.args.rec c.requires.next c.args.p c.args.b c.requires.says.0 c.requires.says.1).block (block-at w c.args.p c.args.b c.place.result c.index_mut.result.now (inc-may w c.args.rec c.requires.next c.args.p c.args.b c.requires.says.0 c.requires.says.1).block c.place.ensures.value c.index_mut.ensures.value)

pub make-requires-clause-refs : goal.make-requires-clause-refs
make-requires-clause-refs c = let w = c.args.self.now in small-refs w c.args.p c.args.b c.index_mut.result.now (inc-may w c.args.rec c.requires.next c.args.p c.args.b c.requires.says.0 c.requires.says.1).block (block-at w c.args.p c.args.b c.place.result c.index_mut.result.now (inc-may w c.args.rec c.requires.next c.args.p c.args.b c.requires.says.0 c.requires.says.1).block c.place.ensures.value c.index_mut.ensures.value)

pub add-requires-clause-plain : goal.add-requires-clause-plain
add-requires-clause-plain c = ap is_plain c.requires.says.1

pub invariant_of-self : goal.invariant_of-self
invariant_of-self c =
    let w = c.args.self.now in
    record {
      holds = inc-again w c.add.new.self c.args.rec c.add.ensures.gains c.requires.next c.args.p c.args.b c.requires.says.0 c.place.result c.index_mut.result.now c.make.new.self c.requires.says.1 c.place.ensures.value
          (block-at w c.args.p c.args.b c.place.result c.index_mut.result.now (inc-may w c.args.rec c.requires.next c.args.p c.args.b c.requires.says.0 c.requires.says.1).block c.place.ensures.value c.index_mut.ensures.value) c.make.ensures.new;
      stops = stop-stays w.stop w.book c.add.new.self c.add.ensures.gains.stays w.stops;
    }

pub returns : goal.returns
returns c = record { sys_is = refl; by_is = refl; stop_is = refl; gains = c.add.ensures.gains }
