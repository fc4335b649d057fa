use Rattle.std.proofs.Common.{◌≡◌, true, false, sym, refl}
use Rattle.std.proofs.lemmas.Result.{err_from_is_err_and}
use Rattle.qp_chart.specs.ChartFaults.{init_fault, is_astray}
use Rattle.qp_chart.specs.Parents.{is_below_in, parents_of}
use Rattle.qp_chart_names.specs.RawNumbers.{state_number}
use Rattle.qp_chart_names.proofs.FaultLemmas.{found-first, found-next, none-next, none-last, undeclared-None, fault_if-true, fault_if-false}
use Rattle.qp_chart.proofs.state_check.checked_init.Goals as goal

pub returns-in_default-clause-ok : goal.returns-in_default-clause-ok
unfolding init_fault
returns-in_default-clause-ok c = rw c.in_default.is (refl, tt)

pub returns-in_err-target-clause-fault : goal.returns-in_err-target-clause-fault
unfolding init_fault
returns-in_err-target-clause-fault c =
    let p = err_from_is_err_and c.from_residual.result c.from_residual.ensures.1 in
    rw (p.1, p.2, c.in-Some.is) (found-first _ _ _ c.in_err-target.ensures.fault)

pub returns-then-not-is_below-clause-fault : goal.returns-then-not-is_below-clause-fault
unfolding init_fault
returns-then-not-is_below-clause-fault c =
    let s = c.args.scope.now in
    let number = c.in_ok-target.ensures.ok in
    let below : is_below_in (parents_of s.chart.now) c.in_ok-target.target c.args.place ≡ false = rw c.requires at (sym c.if-not-is_below.ensures) in
    let astray : true ≡ is_astray s.chart.now c.args.place (state_number s.chart.now c.in-Some.name) = rw (number, below) refl in
    rw c.in-Some.is (found-next _ _ _ (undeclared-None _ number) (found-first _ _ _ (fault_if-true _ _ _ _ astray c.below.ensures)))

pub returns-clause-ok : goal.returns-clause-ok
unfolding init_fault
returns-clause-ok c =
    let s = c.args.scope.now in
    let number = c.in_ok-target.ensures.ok in
    let below : is_below_in (parents_of s.chart.now) c.in_ok-target.target c.args.place ≡ true = rw c.requires at (sym c.if-not-is_below.ensures) in
    let astray : false ≡ is_astray s.chart.now c.args.place (state_number s.chart.now c.in-Some.name) = rw (number, below) refl in
    rw c.in-Some.is (none-next _ _ (undeclared-None _ number) (none-next _ _ (fault_if-false _ _ _ astray) none-last), number)
