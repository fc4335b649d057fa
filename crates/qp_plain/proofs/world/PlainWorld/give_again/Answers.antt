use Rattle.std.proofs.Common.{refl, ◌∙◌, ap, arith}
use Rattle.qp_model.specs.Lists.{is_first}
use Rattle.qp_plain_sound.proofs.Standing.{block-pool}
use Rattle.qp_calls_log.specs.Lane.{is_plain}
use Rattle.qp_plain.proofs.Calling.{stop-stays, pool-at}
use Rattle.qp_plain.proofs.Few.{pool-few}
use Rattle.qp_plain.proofs.Holding.{pool-in, block-in}
use Rattle.qp_plain.proofs.RepeatFacts.{new-may, block-bytes, signal-fits, some-free}
use Rattle.qp_plain.proofs.RepeatHolds.{new-again}
use Rattle.qp_plain.proofs.world.PlainWorld.give_again.Goals as goal

pub overflow_sub-p : goal.overflow_sub-p
overflow_sub-p c = let w = c.args.self.now in let at = pool-in w.sys.now c.args.p ((block-pool w.sys.now c.args.p c.args.b (new-may w c.args.rec c.requires.next c.args.p c.requires.says.0 c.args.b c.requires.says.1 c.args.sig c.args.pars c.requires.says.2).block).0) in omega (arith, at.0)

pub index_mut-requires : goal.index_mut-requires
index_mut-requires c =
    let w = c.args.self.now in
    let at = pool-in w.sys.now c.args.p ((block-pool w.sys.now c.args.p c.args.b (new-may w c.args.rec c.requires.next c.args.p c.requires.says.0 c.args.b c.requires.says.1 c.args.sig c.args.pars c.requires.says.2).block).0) in
    omega (arith, at.0, at.1, w.holds.pools_hold.long, w.pools.ok.0)

pub take-requires-clause-few : goal.take-requires-clause-few
take-requires-clause-few c =
    let w = c.args.self.now in
    let le = pool-few w.sys.now w.book w.holds.world.sound.words c.args.p ((block-pool w.sys.now c.args.p c.args.b (new-may w c.args.rec c.requires.next c.args.p c.requires.says.0 c.args.b c.requires.says.1 c.args.sig c.args.pars c.requires.says.2).block).0) in
    let is = ap (λ x. x.count) (pool-at w c.args.p c.args.p c.index_mut.result.now ((block-pool w.sys.now c.args.p c.args.b (new-may w c.args.rec c.requires.next c.args.p c.requires.says.0 c.args.b c.requires.says.1 c.args.sig c.args.pars c.requires.says.2).block).0) refl c.index_mut.ensures.value) in
    omega (arith, le, is)

pub take-requires-clause-some : goal.take-requires-clause-some
take-requires-clause-some c =
    let w = c.args.self.now in
    let may = new-may w c.args.rec c.requires.next c.args.p c.requires.says.0 c.args.b c.requires.says.1 c.args.sig c.args.pars c.requires.says.2 in
    some-free c.args.b c.index_mut.result.now.free (ap (λ x. is_first c.args.b x.free) (pool-at w c.args.p c.args.p c.index_mut.result.now ((block-pool w.sys.now c.args.p c.args.b (new-may w c.args.rec c.requires.next c.args.p c.requires.says.0 c.args.b c.requires.says.1 c.args.sig c.args.pars c.requires.says.2).block).0) refl c.index_mut.ensures.value) ∙ may.lowest)

pub overflow_cast-p : goal.overflow_cast-p
overflow_cast-p c = let w = c.args.self.now in record { fits = (block-bytes w c.args.p c.args.b (new-may w c.args.rec c.requires.next c.args.p c.requires.says.0 c.args.b c.requires.says.1 c.args.sig c.args.pars c.requires.says.2).block).0 }

pub overflow_cast-b : goal.overflow_cast-b
overflow_cast-b c = let w = c.args.self.now in record { fits = (block-bytes w c.args.p c.args.b (new-may w c.args.rec c.requires.next c.args.p c.requires.says.0 c.args.b c.requires.says.1 c.args.sig c.args.pars c.requires.says.2).block).1 }

pub overflow_cast-sig : goal.overflow_cast-sig
overflow_cast-sig c = let w = c.args.self.now in record { fits = signal-fits w c.args.sig c.args.pars c.requires.sound (new-may w c.args.rec c.requires.next c.args.p c.requires.says.0 c.args.b c.requires.says.1 c.args.sig c.args.pars c.requires.says.2).event }

pub place-requires-clause-some : goal.place-requires-clause-some
place-requires-clause-some c = let w = c.args.self.now in (block-in w.sys.now w.holds.limits c.args.p c.args.b (new-may w c.args.rec c.requires.next c.args.p c.requires.says.0 c.args.b c.requires.says.1 c.args.sig c.args.pars c.requires.says.2).block).some

pub place-requires-clause-pools : goal.place-requires-clause-pools
place-requires-clause-pools c = let w = c.args.self.now in (block-in w.sys.now w.holds.limits c.args.p c.args.b (new-may w c.args.rec c.requires.next c.args.p c.requires.says.0 c.args.b c.requires.says.1 c.args.sig c.args.pars c.requires.says.2).block).pools

pub place-requires-clause-blocks : goal.place-requires-clause-blocks
place-requires-clause-blocks c = let w = c.args.self.now in (block-in w.sys.now w.holds.limits c.args.p c.args.b (new-may w c.args.rec c.requires.next c.args.p c.requires.says.0 c.args.b c.requires.says.1 c.args.sig c.args.pars c.requires.says.2).block).blocks

pub add-requires-clause-plain : goal.add-requires-clause-plain
add-requires-clause-plain c = ap is_plain c.requires.says.2

pub invariant_of-self : goal.invariant_of-self
invariant_of-self c =
    let w = c.args.self.now in
    record {
      holds = new-again w c.add.new.self c.args.rec c.add.ensures.gains c.requires.next c.args.p c.requires.says.0 c.args.b c.requires.says.1 c.args.sig c.args.pars c.args.p c.place.result c.take.result _ c.index_mut.result.now c.take.new.self c.requires.says.2 refl c.place.ensures.value
          (pool-at w c.args.p c.args.p c.index_mut.result.now ((block-pool w.sys.now c.args.p c.args.b (new-may w c.args.rec c.requires.next c.args.p c.requires.says.0 c.args.b c.requires.says.1 c.args.sig c.args.pars c.requires.says.2).block).0) refl c.index_mut.ensures.value) c.take.ensures.first c.take.ensures.new (ap (λ x. record { sig = c.args.sig; pars = x }) c.pars.view_is);
      stops = stop-stays w.stop w.book c.add.new.self c.add.ensures.gains.stays w.stops;
    }

pub returns : goal.returns
returns c = record { sys_is = refl; by_is = refl; stop_is = refl; gains = c.add.ensures.gains }
