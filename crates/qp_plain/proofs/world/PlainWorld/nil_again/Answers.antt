use Rattle.std.proofs.Common.{refl, ap}
use Rattle.qp_model.specs.History.{drawn_on, touch_of}
use Rattle.qp_model.specs.Record.{item_of}
use Rattle.qp_plain.proofs.Calling.{stop-stays}
use Rattle.qp_plain.proofs.RepeatFacts.{nil-may, counts-fit, seat-of}
use Rattle.qp_plain.proofs.RepeatHolds.{still-again}
use Rattle.qp_plain.proofs.world.PlainWorld.nil_again.Goals as goal

pub overflow_cast-now : goal.overflow_cast-now
overflow_cast-now c = let w = c.args.self.now in record { fits = (counts-fit w _ c.args.f c.args.l c.args.m (nil-may w c.args.rec c.requires.next c.args.f c.args.l c.args.m c.requires.says)).0 }

pub overflow_cast-now-2 : goal.overflow_cast-now-2
overflow_cast-now-2 c = let w = c.args.self.now in record { fits = (counts-fit w _ c.args.f c.args.l c.args.m (nil-may w c.args.rec c.requires.next c.args.f c.args.l c.args.m c.requires.says)).1 }

pub overflow_cast-now-3 : goal.overflow_cast-now-3
overflow_cast-now-3 c = let w = c.args.self.now in record { fits = (counts-fit w _ c.args.f c.args.l c.args.m (nil-may w c.args.rec c.requires.next c.args.f c.args.l c.args.m c.requires.says)).2 }

pub add_nil-requires-clause-nil : goal.add_nil-requires-clause-nil
unfolding item_of
add_nil-requires-clause-nil c = ap (λ x. record { of = c.args.rec.of; body = x }) c.requires.says

pub add_nil-requires-clause-queue : goal.add_nil-requires-clause-queue
unfolding item_of
add_nil-requires-clause-queue c = let w = c.args.self.now in seat-of w _ c.args.f c.args.l c.args.m (nil-may w c.args.rec c.requires.next c.args.f c.args.l c.args.m c.requires.says)

pub invariant_of-self : goal.invariant_of-self
invariant_of-self c =
    let w = c.args.self.now in
    record {
      holds = still-again w c.add_nil.new.self c.args.rec c.add_nil.ensures.gains c.requires.next (λ v. ap (λ x. drawn_on v (touch_of (item_of c.args.rec).of x)) c.requires.says);
      stops = stop-stays w.stop w.book c.add_nil.new.self c.add_nil.ensures.gains.stays w.stops;
    }

pub returns : goal.returns
returns c = record { sys_is = refl; by_is = refl; stop_is = refl; gains = c.add_nil.ensures.gains }
