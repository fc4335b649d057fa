use Rattle.std.proofs.Common.{ap}
use Rattle.qp_plain_sound.specs.View.{view_of}
use Rattle.qp_plain.specs.Book.{lists_of, purses_of}
use Rattle.qp_plain.proofs.calls.PlainWorldOps.by.Goals as goal

pub returns-clause-former : goal.returns-clause-former
unfolding view_of
returns-clause-former c = c.replace.ensures.value

pub returns-clause-set : goal.returns-clause-set
unfolding view_of
returns-clause-set c = ap (λ x. view_of c.args.self.now.sys.now (lists_of c.args.self.now.book) c.args.self.now.book.order.items c.args.self.now.book.at c.args.self.now.book.here.spare x c.args.self.now.book.here.stops.list c.args.self.now.book.here.answered.list (purses_of c.args.self.now.book)) c.replace.ensures.after
