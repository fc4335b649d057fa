use Rattle.std.proofs.Common.{◌≡◌, ℕ, ◌+◌, ◌<◌, ◌≤◌, Bool, true, List, [], length, take, get_or, refl, ◌∙◌}
use Rattle.std.specs.List.{list_all}
use Rattle.std.proofs.lemmas.List.{take_all}
use Rattle.std.proofs.lemmas.List.Folds.{list_all_more}
use Rattle.qp_chart.specs.declared.actions.Act.{Act}
use Rattle.qp_chart.specs.declared.checked.State.{State}
use Rattle.qp_chart.specs.declared.checked.Chart.{Chart}
use Rattle.qp_model.specs.declared.systems.System.{System}
use Rattle.qp_model.specs.Able.{state_able, chart_able}
use Rattle.qp_check_tests.proofs.EmptyLemmas.{found-empty}
use Rattle.qp_check_tests.proofs.courses.is_idle.Goals as goal

one-more : (p : State → Bool) (items states : List State) (i : ℕ) (s : State) → items ≡ states → i < length items → s ≡ get_or items i s → list_all p (take i states) ≡ true → p s ≡ true
    → list_all p (take (i + 1) states) ≡ true
one-more p items states i s same lt is below here =
    let within = rw same at lt in
    let there = rw same at is in
    list_all_more p states i s within ∙ rw (below, ← there, here) refl

idle : (chart : Chart) (acts : List Act) (items : List State) (i : ℕ) → acts ≡ [] → acts ≡ chart.init_do → items ≡ chart.state → length items ≤ i → (sys : System)
    → list_all (state_able sys) (take i chart.state) ≡ true → chart_able sys chart ≡ true
unfolding chart_able
idle chart acts items i none first states le sys able =
    let all = rw states at le in
    let none_first = rw first at none in
    let able_all = rw (take_all i chart.state all) at able in
    rw (none_first, able_all) refl

pub loop-s-preserved : goal.loop-s-preserved
loop-s-preserved c = λ sys.
    one-more (state_able sys) c.state-s-items.result.now c.args.chart.now.state c.loop-s.s-index c.s-item.result c.state-s-items.ensures c.loop-s-test.true c.s-item.is (c.loop-s.invariant sys)
    (c.has_no_action.ensures c.if-not-has_no_action.false sys)

pub returns : goal.returns
returns c = λ last sys.
    idle c.args.chart.now c.init_do.result.now c.state-s-items.result.now c.loop-s.s-index
    (found-empty c.is_empty.result c.init_do.result.now c.init_do.result.now c.is_empty.ensures refl last) c.init_do.ensures c.state-s-items.ensures c.loop-s-test.false sys (c.loop-s.invariant sys)
