use Rattle.std.proofs.Common.{◌≡◌, ◌==◌, length, drop}
use Rattle.std.specs.List.{list_all}
use Rattle.qp_model.specs.declared.words.Word.TheVariants as word
use Rattle.qp_model.specs.History.{all_items, hist}
use Rattle.qp_model.specs.Line.{line}
use Rattle.qp_model.specs.Machine.{after}
use Rattle.qp_model.specs.Sites.{ring_of}
use Rattle.qp_check_ends.proofs.resting.lines_empty.Given as goal

abbrev pub invariant-loop-d : goal.invariant-loop-d
invariant-loop-d l =
    list_all (λ d. length (after (line (ring_of l.sys d.priority)) (hist (word.Queue d.priority) (all_items l.records))).entries == 0) (drop l.d-index l.d-items)
    ≡ list_all (λ d. length (after (line (ring_of l.sys d.priority)) (hist (word.Queue d.priority) (all_items l.records))).entries == 0) l.d-items
