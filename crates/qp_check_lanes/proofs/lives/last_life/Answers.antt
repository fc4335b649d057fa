use Rattle.std.proofs.Common.{◌≡◌, ◌∙◌, ◌+◌, ap, sym, refl, take, drop, arith}
use Rattle.qp_model.specs.Record.{item_of, body_of}
use Rattle.qp_model.specs.Machine.{after, after_from, is_allowed, allowed_from}
use Rattle.qp_model.specs.Lives.{life_of, life_next, life_may}
use Rattle.qp_model.proofs.MachineLemmas.{after-append}
use Rattle.qp_check_lanes.proofs.WalkLemmas.{rest_seen, front_seen, rest_none, length_seen}
use Rattle.std.proofs.lemmas.List.{take_all}
use Rattle.qp_check_lanes.proofs.WordStateLemmas.{allowed-not, allowed-next}
use Rattle.qp_check_lanes.proofs.lives.last_life.Goals as goal

pub loop-r-init : goal.loop-r-init
unfolding after after_from is_allowed
loop-r-init c = record { state = refl; allowed = refl }

pub returns-then-not-allows : goal.returns-then-not-allows
unfolding item_of
returns-then-not-allows c =
    let i = c.loop-r.r-index in
    let m = life_of c.args.b in
    let begins = rest_seen (λ r. item_of r.now) c.own.view_is c.deref-r-items.ensures.value i c.r-item.result c.loop-r-test.true c.r-item.is in
    let s = after m (take i c.args.own.now) in
    sym (allowed-not m m refl s c.r-item.result.now.of (body_of c.r-item.result.now) c.body-body.result c.body-body.ensures
    (is_allowed m c.args.own.now) (drop i c.args.own.now) (drop (i + 1) c.args.own.now) begins c.loop-r.invariant.allowed (c.if-not-allows.ensures ∙ ap (λ t. life_may c.args.b t c.body-body.result) c.loop-r.invariant.state))

pub loop-r-preserved : goal.loop-r-preserved
unfolding item_of
loop-r-preserved c =
    let i = c.loop-r.r-index in
    let m = life_of c.args.b in
    let h = c.args.own.now in
    let begins = rest_seen (λ r. item_of r.now) c.own.view_is c.deref-r-items.ensures.value i c.r-item.result c.loop-r-test.true c.r-item.is in
    let grows = front_seen (λ r. item_of r.now) c.own.view_is c.deref-r-items.ensures.value i c.r-item.result c.loop-r-test.true c.r-item.is in
    let s = after m (take i h) in
    let item = item_of c.r-item.result.now in
    let next : after m (take (i + 1) h) ≡ life_next c.args.b s c.body-body.result = ap (after m) grows ∙ after-append m (take i h) item ∙ ap (life_next c.args.b s) (sym c.body-body.ensures) in
    record {
      state = c.after-life.ensures ∙ ap (λ t. life_next c.args.b t c.body-body.result) c.loop-r.invariant.state ∙ sym next;
      allowed =
          allowed-next m m refl s c.r-item.result.now.of (body_of c.r-item.result.now) c.body-body.result c.body-body.ensures
          (is_allowed m h) (drop i h) (drop (i + 1) h) begins c.loop-r.invariant.allowed (c.if-not-allows.ensures ∙ ap (λ t. life_may c.args.b t c.body-body.result) c.loop-r.invariant.state) (after m (take (i + 1) h)) next;
    }

pub returns : goal.returns
unfolding allowed_from
returns c =
    let h = c.args.own.now in
    let m = life_of c.args.b in
    let i = c.loop-r.r-index in
    let none = rest_none (λ r. item_of r.now) c.own.view_is c.deref-r-items.ensures.value i c.loop-r-test.false in
    let long = length_seen (λ r. item_of r.now) c.own.view_is c.deref-r-items.ensures.value in
    let all : take i h ≡ h = take_all i h (omega (arith, long, c.loop-r-test.false)) in
    (c.loop-r.invariant.allowed ∙ ap (allowed_from m (after m (take i h))) none, c.loop-r.invariant.state ∙ ap (after m) all)
