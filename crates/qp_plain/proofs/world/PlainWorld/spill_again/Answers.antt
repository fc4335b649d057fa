use Rattle.std.proofs.Common.{refl, ap}
use Rattle.qp_model.specs.Ends.{is_spill}
use Rattle.qp_model.specs.History.{drawn_on, touch_of}
use Rattle.qp_model.specs.Record.{item_of}
use Rattle.qp_plain.proofs.Calling.{stop-stays}
use Rattle.qp_plain.proofs.RepeatFacts.{first-here}
use Rattle.qp_plain.proofs.RepeatHolds.{still-again}
use Rattle.qp_plain.proofs.world.PlainWorld.spill_again.Goals as goal

pub add_spill-requires-clause-spill : goal.add_spill-requires-clause-spill
add_spill-requires-clause-spill c = ap is_spill c.requires.says.1

pub add_spill-requires-clause-first : goal.add_spill-requires-clause-first
add_spill-requires-clause-first c = first-here c.args.self.now c.requires.next.goes_on

pub invariant_of-self : goal.invariant_of-self
invariant_of-self c =
    let w = c.args.self.now in
    record {
      holds = still-again w c.add_spill.new.self c.args.rec c.add_spill.ensures.gains c.requires.next (λ v. ap (λ x. drawn_on v (touch_of (item_of c.args.rec).of x)) c.requires.says.1);
      stops = stop-stays w.stop w.book c.add_spill.new.self c.add_spill.ensures.gains.stays w.stops;
    }

pub returns : goal.returns
returns c = record { sys_is = refl; by_is = refl; stop_is = refl; gains = c.add_spill.ensures.gains }
