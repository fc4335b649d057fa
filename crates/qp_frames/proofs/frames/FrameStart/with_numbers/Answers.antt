use Rattle.std.proofs.Common.{◌≡◌, true}
use Rattle.qp_model.specs.Vocabulary.{has_count}
use Rattle.qp_text.proofs.VocabularyLemmas.{count-small}
use Rattle.qp_frames.proofs.frames.FrameStart.with_numbers.Goals as goal

pub returns-then-has_count-clause-count : goal.returns-then-has_count-clause-count
returns-then-has_count-clause-count c =
    let has : has_count c.args.id c.args.nums ≡ true =
    rw (← c.nums.view_is, ← c.as_slice.ensures.value, ← c.has_count.ensures) c.if-has_count.true in
    count-small c.args.id c.args.nums has
