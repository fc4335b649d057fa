use Rattle.qp_frames.proofs.FramesLaw.{faults_stay as law}
use Rattle.qp_frames.proofs.laws.faults_stay.Goals as goal

pub returns : goal.returns
returns c = law
