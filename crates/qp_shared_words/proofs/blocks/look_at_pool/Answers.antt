use Rattle.std.proofs.Common.{◌<◌, arith, sym, subst}
use Rattle.qp_table.specs.After.{WordSteps}
use Rattle.qp_table.specs.Told.{EyePoolTold}
use Rattle.qp_table.proofs.StepLawLemmas.{pool_eyes_tell}
use Rattle.qp_shared_words.proofs.Still.{with-few}
use Rattle.qp_shared_words.proofs.blocks.look_at_pool.Goals as goal

pub look-requires-clause-own : goal.look-requires-clause-own
look-requires-clause-own c = let p = c.requires.small in let w = c.requires.wide in let at = c.pool_at.ensures in (c.requires.own, omega arith)

pub look-requires-clause-keeps : goal.look-requires-clause-keeps
look-requires-clause-keeps c = subst (λ w. WordSteps c.args.words.now.shared.key c.args.seat.now.id c.args.seat.now.me.0 w (λ n. n) (λ n u. EyePoolTold c.args.words.now.shared.key c.args.pool c.args.by c.args.reserve c.args.seat.now.me.0 n u × (n < 9223372036854775808))) (sym c.pool_at.ensures)
    (with-few c.args.words.now.shared.key c.args.seat.now.id c.args.seat.now.me.0 c.args.pool (λ n. n) (EyePoolTold c.args.words.now.shared.key c.args.pool c.args.by c.args.reserve c.args.seat.now.me.0) c.requires.pool
    (pool_eyes_tell c.args.words.now.shared.key c.args.seat.now.id c.args.seat.now.me.0 c.requires.room c.args.pool c.requires.pool c.args.by c.args.reserve))

pub returns-clause-told : goal.returns-clause-told
returns-clause-told c = c.look.ensures.told.0

pub returns-clause-few : goal.returns-clause-few
returns-clause-few c = c.look.ensures.told.1
