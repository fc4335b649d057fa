use Rattle.std.proofs.Common.{ℕ, [], subst}
use Rattle.std.specs.declared.option.Option.{Option}
use Rattle.qp_shared_loops.specs.Ends.{BlockEnds}
use Rattle.qp_shared_loops.proofs.Giving.{is-fresh, is-asked, gives-all, kept-fresh}
use Rattle.qp_shared_loops.proofs.gives.give_block.Goals as goal

pub write_event-requires-clause-fresh : goal.write_event-requires-clause-fresh
write_event-requires-clause-fresh g c =
    is-fresh c.args.words.now.shared.key c.args.pool c.args.by c.args.reserve c.args.ev.now.sig c.args.ev.now.pars.items c.args.seat.now.me.0 c.give_lowest-found.result.0 c.in-Some.block c.give_lowest-found.new.seat.me.0
    (subst (λ (o : Option ℕ). BlockEnds c.args.words.now.shared.key c.args.pool c.args.by c.args.reserve c.args.ev.now.sig c.args.ev.now.pars.items c.args.seat.now.me.0 c.give_lowest-found.result.0 o c.give_lowest-found.new.seat.me.0) c.in-Some.is c.give_lowest-found.ensures.ends)

pub write_event-requires-clause-asked : goal.write_event-requires-clause-asked
write_event-requires-clause-asked g c =
    is-asked c.args.words.now.shared.key c.args.pool c.args.by c.args.reserve c.args.ev.now.sig c.args.ev.now.pars.items c.args.seat.now.me.0 c.give_lowest-found.result.0 c.in-Some.block c.give_lowest-found.new.seat.me.0
    (subst (λ (o : Option ℕ). BlockEnds c.args.words.now.shared.key c.args.pool c.args.by c.args.reserve c.args.ev.now.sig c.args.ev.now.pars.items c.args.seat.now.me.0 c.give_lowest-found.result.0 o c.give_lowest-found.new.seat.me.0) c.in-Some.is c.give_lowest-found.ensures.ends)

pub read_beginning-from-requires-clause-fresh : goal.read_beginning-from-requires-clause-fresh
read_beginning-from-requires-clause-fresh g c =
    kept-fresh c.args.pool c.in-Some.block [] c.give_lowest-found.new.seat.me.0 c.write_event.new.seat.me.0 c.write_event.ensures.written
    (is-fresh c.args.words.now.shared.key c.args.pool c.args.by c.args.reserve c.args.ev.now.sig c.args.ev.now.pars.items c.args.seat.now.me.0 c.give_lowest-found.result.0 c.in-Some.block c.give_lowest-found.new.seat.me.0
    (subst (λ (o : Option ℕ). BlockEnds c.args.words.now.shared.key c.args.pool c.args.by c.args.reserve c.args.ev.now.sig c.args.ev.now.pars.items c.args.seat.now.me.0 c.give_lowest-found.result.0 o c.give_lowest-found.new.seat.me.0) c.in-Some.is c.give_lowest-found.ensures.ends))

pub returns-in-Some-clause-ends : goal.returns-in-Some-clause-ends
returns-in-Some-clause-ends g c =
    gives-all c.args.words.now.shared.key c.args.pool c.args.by c.args.reserve c.args.ev.now.sig c.args.ev.now.pars.items c.args.seat.now.me.0 c.give_lowest-found.result.0 c.in-Some.block c.give_lowest-found.new.seat.me.0
    (subst (λ (o : Option ℕ). BlockEnds c.args.words.now.shared.key c.args.pool c.args.by c.args.reserve c.args.ev.now.sig c.args.ev.now.pars.items c.args.seat.now.me.0 c.give_lowest-found.result.0 o c.give_lowest-found.new.seat.me.0) c.in-Some.is c.give_lowest-found.ensures.ends)
    c.write_event.new.seat.me.0 c.read_beginning-from.new.seat.me.0 c.read_beginning-from.result c.write_event.ensures.written c.read_beginning-from.ensures.told
