use Rattle.qp_shared_ends.specs.Lanes.{lanes_recs}
use Rattle.qp_shared_ends.proofs.Histories.{words-whole}
use Rattle.qp_shared_ends.proofs.Sounding.{block-in}
use Rattle.qp_shared_ends.proofs.Sides.{side-words, subscribers-known}
use Rattle.qp_shared_ends.proofs.Contents.{event-in, tokens-named, entries-good}
use Rattle.qp_shared_ends.proofs.laws.ends_are_sound.Goals as goal

pub returns : goal.returns
returns c sys v s js hands end side thin beside are = record {
  words = words-whole sys end.words end.views end.holds end.id v end.is end.all js thin (lanes_recs s.view.logs) beside (side-words sys s side);
  block = λ p b h. block-in sys v end js thin hands are p b h;
  event = λ p b h. event-in sys v end js thin p b h;
  tokens = tokens-named sys v end js thin hands are;
  entries = λ a h. entries-good sys v end js thin a h;
  subscribed = λ n h. subscribers-known sys s side js beside n h;
}
