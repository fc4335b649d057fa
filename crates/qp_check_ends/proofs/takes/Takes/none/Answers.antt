use Rattle.std.proofs.lemmas.List.{get_or-replicate}
use Rattle.qp_check_ends.proofs.takes.Takes.none.Goals as goal

pub returns : goal.returns
returns c o h = get_or-replicate 256 o 0 0 h
