use Rattle.std.proofs.Common.{refl}
use Rattle.qp_plain.proofs.Calling.{stop-stays}
use Rattle.qp_plain.proofs.RepeatFacts.{still-off, still-plain}
use Rattle.qp_plain.proofs.RepeatHolds.{still-again}
use Rattle.qp_plain.proofs.world.PlainWorld.note_again.Goals as goal

pub add-requires-clause-plain : goal.add-requires-clause-plain
add-requires-clause-plain c = still-plain _ c.requires.still

pub invariant_of-self : goal.invariant_of-self
invariant_of-self c =
    let w = c.args.self.now in
    record {
      holds = still-again w c.add.new.self c.args.rec c.add.ensures.gains c.requires.next (λ v. still-off v _ _ c.requires.still);
      stops = stop-stays w.stop w.book c.add.new.self c.add.ensures.gains.stays w.stops;
    }

pub returns : goal.returns
returns c = record { sys_is = refl; by_is = refl; stop_is = refl; gains = c.add.ensures.gains }
