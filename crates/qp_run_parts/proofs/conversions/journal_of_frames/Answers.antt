use Rattle.std.proofs.Common.{[], rules}
use Rattle.qp_run_parts.specs.Conversions.{RefusesFile, frame_refusal}
use Rattle.qp_commands.specs.declared.values.Kind.TheVariants.{Frames}
use Rattle.qp_run_parts.proofs.ConversionLemmas.{fed-refuses, frames-refuse}
use Rattle.qp_run_parts.proofs.conversions.journal_of_frames.Goals as goal

pub returns-in_err-feed-clause-refused : goal.returns-in_err-feed-clause-refused
returns-in_err-feed-clause-refused c =
    let fault = c.in_err-feed.field-0.0 in
    let fact : RefusesFile Frames c.args.bytes.now (frame_refusal fault) =
    fed-refuses c.feed.new.self fault c.args.bytes.now c.in_err-feed.ensures.answer (c.in_err-feed.ensures.stands [] c.new-decoder.ensures) in
    search (rules, fact)

pub returns-in_err-end-clause-refused : goal.returns-in_err-end-clause-refused
returns-in_err-end-clause-refused c =
    let fault = c.in_err-end.field-0.0 in
    let fact : RefusesFile Frames c.args.bytes.now (frame_refusal fault) =
    frames-refuse fault c.args.bytes.now (c.in_err-end.ensures.exact c.args.bytes.now (c.in_ok-feed.ensures.stands [] c.new-decoder.ensures)) in
    search (rules, fact)
