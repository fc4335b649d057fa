use Rattle.std.proofs.Common.{◌∙◌, ap, sym, refl, arith}
use Rattle.qp_model.specs.Record.{item_of, body_of}
use Rattle.qp_model.specs.Machine.{after_from}
use Rattle.qp_check_lanes.proofs.WalkLemmas.{rest_seen, rest_none}
use Rattle.qp_check_lanes.proofs.WordStateLemmas.{count-step}
use Rattle.qp_check_lanes.proofs.WordStateLemmas.{run-next}
use Rattle.qp_check_lanes.proofs.word_state.run.Goals as goal

pub loop-r-init : goal.loop-r-init
loop-r-init g c = record { same = refl; rest = refl; counted = omega (arith, c.requires) }

pub loop-r-preserved : goal.loop-r-preserved
unfolding item_of
loop-r-preserved g c =
    let begins = rest_seen (λ r. item_of r.now) c.history.view_is c.deref-r-items.ensures.value c.loop-r.r-index c.r-item.result c.loop-r-test.true c.r-item.is in
    record {
      same = c.in_ok-apply.ensures.same ∙ c.loop-r.invariant.same;
      rest =
          run-next (g.H.WordState.machine c.args.held.now) (g.H.WordState.machine c.loop-r.held) c.loop-r.invariant.same (g.H.WordState.state c.loop-r.held) c.r-item.result.now.of (body_of c.r-item.result.now) c.body.result c.body.ensures
          _ _ _ begins c.loop-r.invariant.rest (g.H.WordState.state c.apply.new.self) c.in_ok-apply.ensures.next;
      counted = count-step (g.H.WordState.machine c.args.held.now) (g.H.WordState.machine c.loop-r.held) c.loop-r.invariant.same (g.H.WordState.state c.loop-r.held) (g.H.WordState.state c.apply.new.self) c.loop-r.r-index c.in_ok-apply.ensures.counted c.loop-r.invariant.counted;
    }

pub returns : goal.returns
unfolding after_from
returns g c = sym (c.loop-r.invariant.rest ∙ ap (after_from (g.H.WordState.machine c.args.held.now) (g.H.WordState.state c.loop-r.held)) (rest_none (λ r. item_of r.now) c.history.view_is c.deref-r-items.ensures.value c.loop-r.r-index c.loop-r-test.false))
