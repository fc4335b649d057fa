use Rattle.qp_model.proofs.PromiseLemmas.{given_out_unreferenced as law}
use Rattle.qp_model.proofs.promises.blocks_are_given_out_unreferenced.Goals as goal

pub returns : goal.returns
returns c = law
