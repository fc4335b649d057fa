use Rattle.std.proofs.lemmas.List.{get_or-replicate}
use Rattle.qp_shared_lane.proofs.ends.Ends.none.Goals as goal

pub returns : goal.returns
returns c = λ i lt. get_or-replicate 512 i 0 0 lt
