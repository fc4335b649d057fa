-- What a stimulus left in the lane of its source.
use Rattle.std.specs.Prelude.{List, [], length, drop, get_or}
use Rattle.qp_model.specs.Knowing.{told_alone}
use Rattle.qp_calls.specs.LaneView.{LaneView, Happening}
use Rattle.qp_kernel.specs.Happenings.{told_by_source}

-- The lane of the source that has acted tells what has happened since these: all that it tells beyond them.
unfoldable pub newest : List Happening → LaneView → Happening
unfolding told_by_source
newest hs v = record {
  at = length (get_or v.aside.told 0 []);
  source = v.lane;
  told = drop (length (told_by_source v.lane hs)) (told_alone v.told);
}
