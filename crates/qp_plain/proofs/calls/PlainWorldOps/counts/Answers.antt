use Rattle.std.proofs.Common.{◌∙◌, ap, arith}
use Rattle.qp_plain.specs.Book.{lists_of, purses_of}
use Rattle.qp_plain.proofs.Calling.{queue-at}
use Rattle.qp_plain_sound.proofs.CallQueues.{counts-read}
use Rattle.qp_plain.proofs.QueueTable.{mine, there}
use Rattle.qp_plain.proofs.calls.PlainWorldOps.counts.Goals as goal

pub index-requires : goal.index-requires
index-requires c = let lt = there c.args.self.now c.args.p c.from.result (mine c.args.self.now c.args.p c.requires.object) c.from.ensures in omega (arith, lt, c.args.self.now.queues.ok.0)

pub returns : goal.returns
returns c =
    let w = c.args.self.now in
    let is = queue-at w c.args.p c.from.result c.index.result.now (mine c.args.self.now c.args.p c.requires.object) c.from.ensures c.index.ensures in
    let line = ap (λ x. x.line) is in
    counts-read w.sys.now (lists_of w.book) w.book.order.items w.book.at w.book.here.spare w.by w.book.here.stops.list w.book.here.answered.list (purses_of w.book) c.args.p c.counts.result w.holds.world
    (record { object = (mine c.args.self.now c.args.p c.requires.object); firsts = c.counts.ensures.f ∙ ap (λ x. x.f) line; lasts = c.counts.ensures.l ∙ ap (λ x. x.l) line; takes = c.counts.ensures.m ∙ ap (λ x. x.m) line })
