use Rattle.std.proofs.Common.{◌∙◌, ap, sym, refl, arith}
use Rattle.qp_model.specs.Record.{item_of, body_of}
use Rattle.qp_model.specs.Machine.{is_allowed, allowed_from}
use Rattle.qp_check_lanes.proofs.WalkLemmas.{rest_seen, rest_none}
use Rattle.qp_check_lanes.proofs.WordStateLemmas.{allowed-not, allowed-next, count-step}
use Rattle.qp_check_lanes.proofs.word_state.is_allowed.Goals as goal

pub loop-r-init : goal.loop-r-init
unfolding is_allowed
loop-r-init g c = record { same = refl; rest = ap (λ s. allowed_from (g.H.WordState.machine c.args.held) s c.args.history.now) (sym c.requires.first); counted = omega (arith, c.requires.none) }

pub returns-then-not-allows : goal.returns-then-not-allows
unfolding item_of
returns-then-not-allows g c =
    let begins = rest_seen (λ r. item_of r.now) c.history.view_is c.deref-r-items.ensures.value c.loop-r.r-index c.r-item.result c.loop-r-test.true c.r-item.is in
    allowed-not (g.H.WordState.machine c.args.held) (g.H.WordState.machine c.loop-r.held) c.loop-r.invariant.same (g.H.WordState.state c.loop-r.held) c.r-item.result.now.of (body_of c.r-item.result.now) c.body-body.result c.body-body.ensures
    _ _ _ begins c.loop-r.invariant.rest c.if-not-allows.ensures

pub loop-r-preserved : goal.loop-r-preserved
unfolding item_of
loop-r-preserved g c =
    let begins = rest_seen (λ r. item_of r.now) c.history.view_is c.deref-r-items.ensures.value c.loop-r.r-index c.r-item.result c.loop-r-test.true c.r-item.is in
    record {
      same = c.in_ok-apply.ensures.same ∙ c.loop-r.invariant.same;
      rest =
          allowed-next (g.H.WordState.machine c.args.held) (g.H.WordState.machine c.loop-r.held) c.loop-r.invariant.same (g.H.WordState.state c.loop-r.held) c.r-item.result.now.of (body_of c.r-item.result.now) c.body-body.result c.body-body.ensures
          _ _ _ begins c.loop-r.invariant.rest c.if-not-allows.ensures (g.H.WordState.state c.apply.new.self) c.in_ok-apply.ensures.next;
      counted = count-step (g.H.WordState.machine c.args.held) (g.H.WordState.machine c.loop-r.held) c.loop-r.invariant.same (g.H.WordState.state c.loop-r.held) (g.H.WordState.state c.apply.new.self) c.loop-r.r-index c.in_ok-apply.ensures.counted c.loop-r.invariant.counted;
    }

pub returns : goal.returns
unfolding allowed_from
returns g c = sym (c.loop-r.invariant.rest ∙ ap (allowed_from (g.H.WordState.machine c.args.held) (g.H.WordState.state c.loop-r.held)) (rest_none (λ r. item_of r.now) c.history.view_is c.deref-r-items.ensures.value c.loop-r.r-index c.loop-r-test.false))
