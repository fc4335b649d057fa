use Rattle.std.proofs.Common.{arith, sym, subst}
use Rattle.qp_table.specs.After.{WordSteps}
use Rattle.qp_table.specs.Told.{FillTold}
use Rattle.qp_table.proofs.StepLawLemmas.{fills_tell}
use Rattle.qp_shared_words.proofs.blocks.fill.Goals as goal

pub store-requires-clause-own : goal.store-requires-clause-own
store-requires-clause-own c = let p = c.requires.place.1 in let b = c.requires.place.2 in let j = c.requires.low in let w = c.requires.wide in let at = c.event_at.ensures in (c.requires.own, omega arith)

pub store-requires-clause-keeps : goal.store-requires-clause-keeps
store-requires-clause-keeps c = subst (λ w. WordSteps c.args.words.now.shared.key c.args.seat.now.id c.args.seat.now.me.0 w (λ n. c.args.value) (FillTold c.args.pool c.args.block c.args.place c.args.value c.args.seat.now.me.0)) (sym c.event_at.ensures)
    (fills_tell c.args.words.now.shared.key c.args.seat.now.id c.args.seat.now.me.0 c.args.pool c.args.block c.args.place c.args.value c.requires.fresh c.requires.low c.requires.left c.requires.asked)
