use Rattle.std.proofs.Common.{◌≡◌, true, [], refl}
use Rattle.qp_chart.specs.declared.checked.State.{State}
use Rattle.qp_model.specs.declared.systems.System.{System}
use Rattle.qp_model.specs.Able.{state_able}
use Rattle.qp_check_tests.proofs.EmptyLemmas.{found-empty}
use Rattle.qp_check_tests.proofs.courses.has_no_action.Goals as goal

idle : (s : State) → s.entry ≡ [] → s.exit ≡ [] → s.init_do ≡ [] → s.row ≡ [] → (sys : System) → state_able sys s ≡ true
unfolding state_able
idle s entry exit first row sys = rw (entry, exit, first, row) refl

pub returns : goal.returns
returns c = λ last.
    idle c.args.s.now (found-empty c.is_empty.result c.entry.result.now c.args.s.now.entry c.is_empty.ensures c.entry.ensures c.if-not-is_empty.false)
    (found-empty c.is_empty-2.result c.exit.result.now c.args.s.now.exit c.is_empty-2.ensures c.exit.ensures c.if-not-is_empty-2.false)
    (found-empty c.is_empty-3.result c.init_do.result.now c.args.s.now.init_do c.is_empty-3.ensures c.init_do.ensures c.if-not-is_empty-3.false)
    (found-empty c.is_empty-4.result c.row.result.now c.args.s.now.row c.is_empty-4.ensures c.row.ensures last)
