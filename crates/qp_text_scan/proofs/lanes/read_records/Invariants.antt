use Rattle.std.proofs.Common.{◌≡◌, ◌≤◌, ◌++◌, map, length, true}
use Rattle.std.specs.List.{list_all}
use Rattle.qp_model.specs.Output.{record_item}
use Rattle.qp_model.specs.OutputText.{lines_text}
use Rattle.qp_text_scan.specs.Readable.{is_readable}
use Rattle.qp_text_scan.proofs.lanes.read_records.Given as goal

abbrev pub invariant-loop : goal.invariant-loop
invariant-loop l = record {
  so_far : l.text ≡ lines_text l.form (map record_item l.records.items) ++ l.rest;
  readable : list_all (is_readable l.form) l.records.items ≡ true;
  few : length l.records.items ≤ l.counter;
}
