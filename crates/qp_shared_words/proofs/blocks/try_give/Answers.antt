use Rattle.std.proofs.Common.{◌+◌, ◌-◌, ◌<◌, arith, sym, subst, ap, ◌∙◌, eqb}
use prog.Atomic.{either}
use Rattle.qp_table.specs.After.{WordSteps}
use Rattle.qp_table.specs.Told.{GiveTold}
use Rattle.qp_table.proofs.StepLawLemmas.{gives_tell}
use Rattle.qp_shared_words.proofs.Still.{with-few}
use Rattle.qp_shared_words.proofs.blocks.try_give.Goals as goal

pub bit_of-requires : goal.bit_of-requires
bit_of-requires g c = c.requires.small.1

pub exchange-requires-clause-own : goal.exchange-requires-clause-own
exchange-requires-clause-own g c = let p = c.requires.small.0 in let w = c.requires.wide in let at = c.pool_at.ensures in (c.requires.own, omega arith)

pub exchange-requires-clause-keeps : goal.exchange-requires-clause-keeps
exchange-requires-clause-keeps g c = subst (λ w. WordSteps c.args.words.now.shared.key c.args.seat.now.id c.args.seat.now.me.0 w (λ n. either (eqb n c.args.old) (c.args.old + 4294967296 - c.bit_of.result) n) (λ n u. GiveTold c.args.words.now.shared.key c.args.pool c.args.by c.args.reserve c.args.block c.args.ev.now.sig c.args.ev.now.pars.items c.args.seat.now.me.0 c.args.old (c.args.old + 4294967296 - c.bit_of.result) n u × (n < 9223372036854775808))) (sym c.pool_at.ensures)
    (with-few c.args.words.now.shared.key c.args.seat.now.id c.args.seat.now.me.0 c.args.pool (λ n. either (eqb n c.args.old) (c.args.old + 4294967296 - c.bit_of.result) n) (GiveTold c.args.words.now.shared.key c.args.pool c.args.by c.args.reserve c.args.block c.args.ev.now.sig c.args.ev.now.pars.items c.args.seat.now.me.0 c.args.old (c.args.old + 4294967296 - c.bit_of.result)) c.requires.pool
    (gives_tell c.args.words.now.shared.key c.args.seat.now.id c.args.seat.now.me.0 c.requires.room c.args.pool c.requires.pool c.args.by c.args.reserve c.args.block c.args.ev.now.sig c.args.ev.now.pars.items c.args.old (c.args.old + 4294967296 - c.bit_of.result) c.requires.done c.requires.fits c.requires.content c.requires.last c.requires.lowest
    (let m = c.bit_of.ensures.most in ap (λ k. c.args.old + 4294967296 - c.bit_of.result + k) (sym c.bit_of.ensures.value) ∙ omega arith)))

pub returns-clause-told : goal.returns-clause-told
returns-clause-told g c = subst (λ k. GiveTold c.args.words.now.shared.key c.args.pool c.args.by c.args.reserve c.args.block c.args.ev.now.sig c.args.ev.now.pars.items c.args.seat.now.me.0 c.args.old (c.args.old + 4294967296 - k) c.exchange.result c.exchange.new.seat.me.0) c.bit_of.ensures.value c.exchange.ensures.told.0

pub returns-clause-few : goal.returns-clause-few
returns-clause-few g c = c.exchange.ensures.told.1
