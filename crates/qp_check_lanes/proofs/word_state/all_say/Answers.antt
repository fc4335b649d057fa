use Rattle.std.proofs.Common.{◌∙◌, ◌&&◌, ◌+◌, drop, ap, sym}
use Rattle.qp_model.specs.Record.{item_of}
use Rattle.qp_check_lanes.specs.WordState.{all_say}
use Rattle.qp_check_lanes.proofs.WalkLemmas.{test_rest}
use Rattle.qp_check_lanes.proofs.word_state.all_say.Goals as goal

pub returns-then-not-says : goal.returns-then-not-says
unfolding item_of
returns-then-not-says g c =
    let m = g.H.WordState.machine c.args.held.now in
    let s = g.H.WordState.state c.args.held.now in
    let rest = test_rest (λ r. item_of r.now) c.shown.view_is c.deref-r-items.ensures.value c.loop-r.r-index c.r-item.result c.loop-r-test.true c.r-item.is (λ i. m.says s i.body) in
    let told = c.if-not-says.ensures ∙ ap (m.says s) c.body.ensures in
    sym (c.loop-r.invariant ∙ rest ∙ ap (λ b. b && all_say m s (drop (c.loop-r.r-index + 1) c.args.shown.now)) (sym told))

pub loop-r-preserved : goal.loop-r-preserved
unfolding item_of
loop-r-preserved g c =
    let m = g.H.WordState.machine c.args.held.now in
    let s = g.H.WordState.state c.args.held.now in
    let rest = test_rest (λ r. item_of r.now) c.shown.view_is c.deref-r-items.ensures.value c.loop-r.r-index c.r-item.result c.loop-r-test.true c.r-item.is (λ i. m.says s i.body) in
    let told = c.if-not-says.ensures ∙ ap (m.says s) c.body.ensures in
    c.loop-r.invariant ∙ rest ∙ ap (λ b. b && all_say m s (drop (c.loop-r.r-index + 1) c.args.shown.now)) (sym told)
