use Rattle.qp_frames.proofs.FramesLaw.{frames_have_no_fault as law}
use Rattle.qp_frames.proofs.laws.frames_have_no_fault.Goals as goal

pub returns : goal.returns
returns c = law
