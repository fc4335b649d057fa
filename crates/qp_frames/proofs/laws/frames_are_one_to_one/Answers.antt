use Rattle.qp_frames.proofs.FramesLaw.{frames_are_one_to_one as law}
use Rattle.qp_frames.proofs.laws.frames_are_one_to_one.Goals as goal

pub returns : goal.returns
returns c = law
