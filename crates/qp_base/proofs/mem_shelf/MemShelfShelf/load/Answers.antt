use Rattle.qp_base.proofs.mem_shelf.MemShelfShelf.load.Goals as goal

pub returns-then-matches-clause-tells : goal.returns-then-matches-clause-tells
returns-then-matches-clause-tells c = rw (← c.self.view_is) c.copy-answer.ensures.tells

pub returns-else-matches-clause-tells : goal.returns-else-matches-clause-tells
returns-else-matches-clause-tells c = rw (← c.self.view_is) c.copy-answer.ensures.tells
