use Rattle.std.proofs.Common.{◌≡◌, ◌∙◌, ap}
use Rattle.std.proofs.lemmas.Result.{err_from_is_err_and}
use Rattle.qp_chart_names.specs.declared.raw.RawState.{RawState}
use Rattle.qp_chart_names.specs.declared.raw.RawTimer.{RawTimer}
use Rattle.qp_chart_names.specs.Known.{words}
use Rattle.qp_chart_names.specs.RawNumbers.{timer_names, state_names}
use Rattle.qp_chart_names.specs.NameFaults.{doubles_fault}
use Rattle.qp_chart_names.proofs.NumberingLemmas.{words-map}
use Rattle.qp_chart_names.proofs.FaultLemmas.{found-first, found-next, none-next, none-last}
use Rattle.qp_chart_names.proofs.tables.distinct_names.Goals as goal

pub returns-in_err-timers-2-clause-fault : goal.returns-in_err-timers-2-clause-fault
unfolding doubles_fault
returns-in_err-timers-2-clause-fault c =
    let timers : words c.as_slice-2.result.now ≡ timer_names c.args.raw.now.timer = ap words (c.as_slice-2.ensures.value ∙ c.in_ok-timers.ensures) ∙ rw c.as_slice.ensures (words-map (λ (t : RawTimer). t.name) _) in
    let p = err_from_is_err_and c.from_residual-in_err-timers-2.result c.from_residual-in_err-timers-2.ensures.1 in
    rw (p.1, p.2, ← timers) (found-first _ _ _ c.in_err-timers-2.ensures.fault)

pub returns-in_err-states-2-clause-fault : goal.returns-in_err-states-2-clause-fault
unfolding doubles_fault
returns-in_err-states-2-clause-fault c =
    let timers : words c.as_slice-2.result.now ≡ timer_names c.args.raw.now.timer = ap words (c.as_slice-2.ensures.value ∙ c.in_ok-timers.ensures) ∙ rw c.as_slice.ensures (words-map (λ (t : RawTimer). t.name) _) in
    let states : words c.as_slice-4.result.now ≡ state_names c.args.raw.now.state = ap words (c.as_slice-4.ensures.value ∙ c.in_ok-states.ensures) ∙ rw c.as_slice-3.ensures (words-map (λ (t : RawState). t.name) _) in
    let p = err_from_is_err_and c.from_residual-in_err-states-2.result c.from_residual-in_err-states-2.ensures.1 in
    rw (p.1, p.2, ← timers, ← states) (found-next _ _ _ c.in_ok-timers-2.ensures.ok.0 (found-first _ _ _ c.in_err-states-2.ensures.fault))

pub returns-clause-ok : goal.returns-clause-ok
unfolding doubles_fault
returns-clause-ok c =
    let timers : words c.as_slice-2.result.now ≡ timer_names c.args.raw.now.timer = ap words (c.as_slice-2.ensures.value ∙ c.in_ok-timers.ensures) ∙ rw c.as_slice.ensures (words-map (λ (t : RawTimer). t.name) _) in
    let states : words c.as_slice-4.result.now ≡ state_names c.args.raw.now.state = ap words (c.as_slice-4.ensures.value ∙ c.in_ok-states.ensures) ∙ rw c.as_slice-3.ensures (words-map (λ (t : RawState). t.name) _) in
    let timer_table = rw timers at c.in_ok-timers-2.ensures.ok in
    let state_table = rw states at c.in_ok-states-2.ensures.ok in
    (none-next _ _ timer_table.0 (none-next _ _ state_table.0 none-last), timer_table.1, state_table.1)
