use Rattle.std.proofs.Common.{take, ◌++◌, codes}
use Rattle.std.specs.Fmt.{HasWritten, IsPlainFormatter}
use Rattle.std.specs.List.{flat_map}
use Rattle.qp_chart_names.specs.Paths.{part_text}
use Rattle.qp_chart_names.proofs.place.PathDisplay.fmt.Given as goal

abbrev pub invariant-loop-part : goal.invariant-loop-part
invariant-loop-part g l =
    IsPlainFormatter l.initial.f → HasWritten g.W.Write.write_str_gives l.initial.f (flat_map (λ part. codes "." ++ part_text part) (take l.part-index l.rest)) l.f
