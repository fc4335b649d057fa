use Rattle.std.proofs.Common.{◌≡◌, take, ◌++◌}
use Rattle.qp_chart_names.proofs.place.extend.Given as goal

abbrev pub invariant-loop-part : goal.invariant-loop-part
invariant-loop-part l = l.all.items ≡ l.initial.all.items ++ take l.part-index l.parts
