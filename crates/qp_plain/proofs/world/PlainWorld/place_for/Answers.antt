use Rattle.std.proofs.Common.{◌≡◌, Bool, true, false, refl, sym, ◌∙◌, subst}
use Rattle.qp_model.specs.declared.record.Rec.{Rec}
use Rattle.qp_model.specs.Ends.{is_spill}
use Rattle.qp_model.specs.Record.{body_of, item_of}
use Rattle.qp_plain.specs.declared.book.Book.{Book}
use Rattle.qp_plain.specs.declared.world.PlainWorld.{PlainWorld}
use Rattle.qp_plain.specs.Book.{BookKeeps, lists_of}
use Rattle.qp_plain.specs.World.{WorldHolds}
use Rattle.qp_plain.proofs.Calling.{stop-stays}
use Rattle.qp_plain.proofs.RepeatFacts.{few-here}
use Rattle.qp_plain.proofs.world.PlainWorld.place_for.Goals as goal

-- whether the record is a `spill`
spill-is : (r : Rec) (b x : Bool) → b ≡ is_spill (body_of r) → b ≡ x → is_spill (item_of r).body ≡ x
unfolding item_of
spill-is r b x is e = sym is ∙ e

moved : (w : PlainWorld) (b : Book) → BookKeeps w.book b → WorldHolds w.sys.now (lists_of b) b.order.items w.pools.items w.blocks.items w.cells.items w.queues.items w.signals.items w.timers.items
moved w b keeps =
    subst (λ ls. WorldHolds w.sys.now ls b.order.items w.pools.items w.blocks.items w.cells.items w.queues.items w.signals.items w.timers.items) (sym keeps.lists)
    (subst (λ xs. WorldHolds w.sys.now (lists_of w.book) xs w.pools.items w.blocks.items w.cells.items w.queues.items w.signals.items w.timers.items) (sym keeps.order) w.holds)

pub returns-then-is_spill-clause-ok : goal.returns-then-is_spill-clause-ok
returns-then-is_spill-clause-ok c = λ regular. let wrong : true ≡ false = sym (spill-is c.args.rec.now c.is_spill.result true c.is_spill.ensures c.if-is_spill.true) ∙ regular in absurd (cc)

pub returns-then-is_spill-clause-keeps : goal.returns-then-is_spill-clause-keeps
returns-then-is_spill-clause-keeps c = record {
  sys_is = refl;
  by_is = refl;
  stop_is = refl;
  keeps = record { lists = refl; order = refl; stays = record { others = refl; at = refl; stops = refl; answered = refl } };
}

pub place-requires : goal.place-requires
place-requires c = few-here c.args.self.now (c.requires.few (spill-is c.args.rec.now c.is_spill.result false c.is_spill.ensures c.if-is_spill.false))

pub invariant_of-self : goal.invariant_of-self
invariant_of-self c = record {
  holds = moved c.args.self.now c.place.new.self c.place.ensures.keeps;
  stops = stop-stays c.args.self.now.stop c.args.self.now.book c.place.new.self c.place.ensures.keeps.stays c.args.self.now.stops;
}

pub returns-clause-keeps : goal.returns-clause-keeps
returns-clause-keeps c = record { sys_is = refl; by_is = refl; stop_is = refl; keeps = c.place.ensures.keeps }
