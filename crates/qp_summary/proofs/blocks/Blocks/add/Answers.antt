use Rattle.std.proofs.Common.{refl, sym}
use Rattle.qp_model.specs.Record.{item_of}
use Rattle.qp_summary.proofs.CountLemmas.{back-more, block-skip, given-more}
use Rattle.qp_summary.proofs.blocks.Blocks.add.Goals as goal

pub returns-in-Some : goal.returns-in-Some
unfolding item_of
returns-in-Some c = λ size items are. given-more items (item_of c.args.r.now) size c.args.self.now _ c.in-Some.p (sym c.in-Some.ensures) c.add.ensures refl are

pub returns-in-Some-taker : goal.returns-in-Some-taker
unfolding item_of
returns-in-Some-taker c = λ size items are.
    back-more items (item_of c.args.r.now) size c.args.self.now _ c.in-Some-taker.p (sym c.in-None.ensures) (sym c.in-Some-taker.ensures) refl c.add-in-Some-taker.ensures are

pub returns-in-None-taker : goal.returns-in-None-taker
unfolding item_of
returns-in-None-taker c = λ size items are. block-skip items (item_of c.args.r.now) size c.args.self.now (sym c.in-None.ensures) (sym c.in-None-taker.ensures) are
