use Rattle.std.proofs.Common.{◌≡◌, ◌∙◌, ◌+◌, ◌<◌, ◌≤◌, ◌∷◌, ap, sym, refl, arith, drop, length, []}
use Rattle.std.proofs.lemmas.List.{drop_all}
use Rattle.qp_model.specs.Record.{item_of, body_of}
use Rattle.qp_check_lanes.specs.WordState.{shows_from}
use Rattle.qp_check_lanes.proofs.WalkLemmas.{rest_seen, rest_none, rest_at, length_seen}
use Rattle.qp_check_lanes.proofs.WordStateLemmas.{shows-not, shows-next, shows-last, count-step}
use Rattle.qp_check_lanes.proofs.word_state.is_shown.Goals as goal

pub returns-then-not-all_say : goal.returns-then-not-all_say
unfolding item_of
returns-then-not-all_say g c =
    let n = c.loop-n.n in
    let begins = rest_seen (λ r. item_of r.now) c.history.view_is c.deref-r-items.ensures.value n c.r-item.result c.loop-n-test.true c.r-item.is in
    let long = length_seen (λ r. item_of r.now) c.history.view_is c.deref-r-items.ensures.value in
    let within : n < length c.shown.inside.items.items = omega (arith, ap length c.shown.view_is, c.requires.places, long, c.loop-n-test.true) in
    let shows : drop n c.args.shown.now ≡ c.index.result.now ∷ drop (n + 1) c.args.shown.now = rw (← c.shown.view_is) (rest_at c.shown.inside.items.items n c.index.result.now within c.index.ensures) in
    shows-not (g.H.WordState.machine c.args.held) (g.H.WordState.machine c.loop-n.held) c.loop-n.invariant.same (g.H.WordState.state c.loop-n.held) c.r-item.result.now.of (body_of c.r-item.result.now) (body_of c.r-item.result.now) refl
    (shows_from (g.H.WordState.machine c.args.held) (g.H.WordState.machine c.args.held).first c.args.history.now c.args.shown.now)
    (drop n c.args.history.now) (drop (n + 1) c.args.history.now) (drop n c.args.shown.now) (drop (n + 1) c.args.shown.now) c.index.result.now begins shows c.loop-n.invariant.rest c.if-not-all_say.ensures

pub loop-n-preserved : goal.loop-n-preserved
unfolding item_of
loop-n-preserved g c =
    let n = c.loop-n.n in
    let begins = rest_seen (λ r. item_of r.now) c.history.view_is c.deref-r-items.ensures.value n c.r-item.result c.loop-n-test.true c.r-item.is in
    let long = length_seen (λ r. item_of r.now) c.history.view_is c.deref-r-items.ensures.value in
    let within : n < length c.shown.inside.items.items = omega (arith, ap length c.shown.view_is, c.requires.places, long, c.loop-n-test.true) in
    let shows : drop n c.args.shown.now ≡ c.index.result.now ∷ drop (n + 1) c.args.shown.now = rw (← c.shown.view_is) (rest_at c.shown.inside.items.items n c.index.result.now within c.index.ensures) in
    record {
      same = c.in_ok-apply.ensures.same ∙ c.loop-n.invariant.same;
      rest =
          shows-next (g.H.WordState.machine c.args.held) (g.H.WordState.machine c.loop-n.held) c.loop-n.invariant.same (g.H.WordState.state c.loop-n.held) c.r-item.result.now.of (body_of c.r-item.result.now) c.body.result c.body.ensures
          (shows_from (g.H.WordState.machine c.args.held) (g.H.WordState.machine c.args.held).first c.args.history.now c.args.shown.now)
          (drop n c.args.history.now) (drop (n + 1) c.args.history.now) (drop n c.args.shown.now) (drop (n + 1) c.args.shown.now) c.index.result.now begins shows c.loop-n.invariant.rest c.if-not-all_say.ensures
          (g.H.WordState.state c.apply.new.self) c.in_ok-apply.ensures.next;
      counted = count-step (g.H.WordState.machine c.args.held) (g.H.WordState.machine c.loop-n.held) c.loop-n.invariant.same (g.H.WordState.state c.loop-n.held) (g.H.WordState.state c.apply.new.self) n c.in_ok-apply.ensures.counted c.loop-n.invariant.counted;
    }

pub returns : goal.returns
returns g c =
    let n = c.loop-n.n in
    let none = rest_none (λ r. item_of r.now) c.history.view_is c.deref-r-items.ensures.value n c.loop-n-test.false in
    let long = length_seen (λ r. item_of r.now) c.history.view_is c.deref-r-items.ensures.value in
    let at : c.len.result ≡ n = omega (arith, c.len.ensures, c.history.inside.items.ok.0, ap length c.deref-r-items.ensures.value, c.loop-n-test.false, c.loop-n.auto.n-end) in
    let within : c.len.result < length c.shown.inside.items.items = omega (arith, ap length c.shown.view_is, c.requires.places, long, at, c.loop-n-test.false, c.loop-n.auto.n-end) in
    let beyond : length c.shown.inside.items.items ≤ c.len.result + 1 = omega (arith, ap length c.shown.view_is, c.requires.places, long, at, c.loop-n-test.false, c.loop-n.auto.n-end) in
    let last : drop n c.args.shown.now ≡ c.index-2.result.now ∷ [] =
    ap (λ k. drop k c.args.shown.now) (sym at) ∙ rw (← c.shown.view_is) (rest_at c.shown.inside.items.items c.len.result c.index-2.result.now within c.index-2.ensures ∙ ap (λ ys. c.index-2.result.now ∷ ys) (drop_all (c.len.result + 1) c.shown.inside.items.items beyond)) in
    c.all_say-2.ensures
    ∙ shows-last (g.H.WordState.machine c.args.held) (g.H.WordState.machine c.loop-n.held) c.loop-n.invariant.same (g.H.WordState.state c.loop-n.held)
    (shows_from (g.H.WordState.machine c.args.held) (g.H.WordState.machine c.args.held).first c.args.history.now c.args.shown.now)
    (drop n c.args.history.now) (drop n c.args.shown.now) c.index-2.result.now none last c.loop-n.invariant.rest
