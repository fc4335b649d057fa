use Rattle.std.proofs.Common.{◌∙◌, sym, ap}
use Rattle.qp_frames.specs.Stream.{state_of}
use Rattle.qp_frames.proofs.FramesLaw.{ended_frames, fault_frames}
use Rattle.qp_frames.proofs.decoder.Decoder.end.Goals as goal

pub returns-in-Some-clause-frames : goal.returns-in-Some-clause-frames
returns-in-Some-clause-frames c =
    let old = sym c.self.view_is ∙ ap (state_of c.self.inside.stream) c.in-Some.is in
    λ bytes led. fault_frames c.in-Some.fault bytes (rw old at led)

pub returns-in-None-clause-frames : goal.returns-in-None-clause-frames
returns-in-None-clause-frames c =
    let old = sym c.self.view_is ∙ ap (state_of c.self.inside.stream) c.in-None.is in
    λ bytes led. ended_frames c.end.result c.self.inside.stream bytes c.end.ensures (rw old at led)
