use Rattle.std.proofs.Common.{List, ℕ, arith}
use Rattle.qp_chart_names.proofs.NumberingLemmas.{IsNumbering-none, IsNumbering-more}
use Rattle.qp_chart_names.proofs.tables.numbered.Goals as goal

pub loop-i-init : goal.loop-i-init
loop-i-init c = IsNumbering-none c.args.first _ c.new-places.ensures

pub loop-i-preserved : goal.loop-i-preserved
loop-i-preserved c =
    IsNumbering-more (λ (n : (List ℕ)). n) c.args.first c.args.names.now c.loop-i.i c.index-names-i.result c.loop-i.places c.add.new.self _ _
    c.loop-i-test.true c.index-names-i.is (omega arith) c.loop-i.invariant c.in_ok-add.ensures
