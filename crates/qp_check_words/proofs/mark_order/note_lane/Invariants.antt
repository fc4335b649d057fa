use Rattle.std.proofs.Common.{◌≡◌, ◌||◌, not, take}
use Rattle.std.specs.BTreeSet.{contains}
use Rattle.qp_model.specs.declared.words.Word.{Word}
use Rattle.qp_model.specs.History.{lane_items}
use Rattle.qp_check_lanes.specs.Keys.{key_cmp, key_of}
use Rattle.qp_check_words.specs.MarkOrder.{last_mark, mark_at}
use Rattle.qp_check_words.specs.Marks.{rises_from, touched}
use Rattle.qp_check_words.proofs.mark_order.note_lane.Given as goal

abbrev pub invariant-loop-r : goal.invariant-loop-r
invariant-loop-r l = record {
  last : (w : Word) → mark_at l.last (key_of w) ≡ last_mark 0 (touched w (lane_items (take l.r-index l.lane)));
  falls : (w : Word) → contains key_cmp l.falls (key_of w) ≡ (contains key_cmp l.initial.falls (key_of w) || not (rises_from 0 (touched w (lane_items (take l.r-index l.lane)))));
}
