use Rattle.qp_frames.proofs.FramesLaw.{decoding_is_exact as law}
use Rattle.qp_frames.proofs.laws.decoding_is_exact.Goals as goal

pub returns : goal.returns
returns c = law
