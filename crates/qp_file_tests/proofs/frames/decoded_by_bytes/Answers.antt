use Rattle.std.proofs.Common.{subst, sym, take}
use Rattle.std.proofs.lemmas.List.{take_more}
use Rattle.qp_frames.specs.Faults.{IsDecoderOf}
use Rattle.qp_frames.proofs.FramesLaw.{found_form, found_range}
use Rattle.qp_file_tests.proofs.frames.decoded_by_bytes.Goals as goal

pub loop-b-preserved : goal.loop-b-preserved
loop-b-preserved c =
    let bytes = c.args.stream.now in
    let i = c.loop-b.b-index in
    subst (IsDecoderOf c.feed.new.self) (sym (take_more bytes i 0 c.loop-b-test.true)) (c.feed.ensures.stands (take i bytes) c.loop-b.invariant)

pub returns-clause-form : goal.returns-clause-form
returns-clause-form c =
    let bytes = take c.loop-b.b-index c.args.stream.now in
    found_form c.end.result bytes (c.end.ensures.frames bytes c.loop-b.invariant)

pub returns-clause-range : goal.returns-clause-range
returns-clause-range c =
    let bytes = take c.loop-b.b-index c.args.stream.now in
    found_range c.end.result bytes (c.end.ensures.frames bytes c.loop-b.invariant)
