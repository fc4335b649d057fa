use Rattle.std.proofs.Common.{◌≡◌, ◌++◌, length, true}
use Rattle.std.specs.List.{list_all}
use Rattle.qp_model.specs.Output.{items_of_lanes}
use Rattle.qp_model.specs.OutputText.{lines_text}
use Rattle.qp_text_scan.specs.Readable.{is_readable_lane}
use Rattle.qp_text_scan.proofs.lanes.read_lanes.Given as goal

abbrev pub invariant-loop-number : goal.invariant-loop-number
invariant-loop-number l = record {
  so_far : l.text ≡ lines_text l.form (items_of_lanes 0 l.lanes.items) ++ l.rest;
  readable : list_all (is_readable_lane l.form) l.lanes.items ≡ true;
  count : length l.lanes.items ≡ l.number;
}
