use Rattle.std.proofs.Common.{ℕ, ◌<◌, sym, subst}
use Rattle.qp_model.specs.declared.bodies.Entry.{Entry}
use Rattle.qp_calls.specs.Clauses.{entry_of}
use Rattle.qp_table.specs.Counting.{many}
use Rattle.qp_table.specs.Rule.{is_place}
use Rattle.qp_table.specs.Told.{FreeTold}
use Rattle.qp_shared_words.specs.Nils.{is_new}
use Rattle.qp_shared_loops.specs.Ends.{KnowsEvent}
use Rattle.qp_shared_loops.proofs.Taking.{knows-front, seen-some, take-there, takes-it}
use Rattle.qp_shared_loops.proofs.takes.take_entry.Goals as goal

pub empty_when_laid-entry-requires-clause-front : goal.empty_when_laid-entry-requires-clause-front
empty_when_laid-entry-requires-clause-front g c = knows-front c.args.words.now.shared.key c.args.object c.args.ring c.front-cell.result c.args.seat.now.me.0 c.look_before_take-found.new.seat.me.0 c.look_before_take-found.result
    (seen-some c.args.words.now.shared.key (is_new c.args.last) c.args.object c.args.seat.now.me.0 c.look_before_take-found.new.seat.me.0 c.look_before_take-found.result c.look_before_take-found.ensures.told c.if-found-lifos.false)
    c.requires.room c.requires.serves c.requires.idle c.requires.ring c.front-cell.ensures.value

pub free_entry-now-requires-clause-take : goal.free_entry-now-requires-clause-take
free_entry-now-requires-clause-take g c =
    subst (λ (z : ℕ × Entry). 0 < many (is_place c.args.object z.0 z.1) c.empty_when_laid-entry.new.seat.me.0.takes) (λ i. (sym c.from.ensures i, c.parts-pool.ensures i))
    (take-there c.args.object c.front-cell.result (entry_of c.empty_when_laid-entry.result) c.look_before_take-found.new.seat.me.0 c.empty_when_laid-entry.new.seat.me.0 c.empty_when_laid-entry.ensures.emptied.1)

pub returns-clause-ends : goal.returns-clause-ends
returns-clause-ends g c = (
  takes-it c.args.words.now.shared.key c.args.object c.args.seat.now.me.0 c.look_before_take-found.new.seat.me.0 c.empty_when_laid-entry.new.seat.me.0 c.free_entry-now.new.seat.me.0 c.look_before_take-found.result c.free_entry-now.result c.front-cell.result (entry_of c.empty_when_laid-entry.result)
      (seen-some c.args.words.now.shared.key (is_new c.args.last) c.args.object c.args.seat.now.me.0 c.look_before_take-found.new.seat.me.0 c.look_before_take-found.result c.look_before_take-found.ensures.told c.if-found-lifos.false)
      c.if-found-lifos.false c.requires.serves c.empty_when_laid-entry.ensures.emptied.1
      (subst (λ (z : ℕ × Entry). FreeTold c.args.words.now.shared.key c.args.object z.0 z.1 c.empty_when_laid-entry.new.seat.me.0 c.free_entry-now.result c.free_entry-now.new.seat.me.0) (λ i. (c.from.ensures i, sym c.parts-pool.ensures i)) c.free_entry-now.ensures.told)
      c.empty_when_laid-entry.ensures.emptied.0
      (subst (λ (e : Entry). KnowsEvent c.args.words.now.shared.key e c.free_entry-now.new.seat.me.0) (sym c.parts-pool.ensures) c.free_entry-now.ensures.event),
  c.empty_when_laid-entry.ensures.emptied.2,
)
