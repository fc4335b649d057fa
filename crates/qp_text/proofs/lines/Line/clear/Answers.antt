use Rattle.std.proofs.Common.{arith}
use Rattle.std.proofs.lemmas.List.{drop_all}
use Rattle.qp_text.proofs.lines.Line.clear.Goals as goal

pub returns : goal.returns
returns c = drop_all 324 c.self.inside.room (search (arith))
