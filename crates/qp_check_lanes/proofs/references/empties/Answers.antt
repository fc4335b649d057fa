use Rattle.std.proofs.Common.{◌≡◌, ◌∙◌, ◌+◌, ◌++◌, ◌∷◌, [], true, ap, sym, refl, take, drop, append_assoc, ◌==◌}
use Rattle.qp_model.specs.Record.{item_of, body_of}
use Rattle.qp_model.specs.Machine.{after, after_from, is_allowed, allowed_from}
use Rattle.qp_model.specs.References.{references, refs_may, refs_next}
use Rattle.qp_model.specs.Lives.{is_empty}
use Rattle.qp_model.proofs.MachineLemmas.{after-append}
use Rattle.qp_check_lanes.specs.Standing.{empties, empties_from}
use Rattle.qp_check_lanes.proofs.WalkLemmas.{rest_seen, front_seen, rest_none}
use Rattle.qp_check_lanes.proofs.StandingLemmas.{is_empty-standing}
use Rattle.qp_check_lanes.proofs.WordStateLemmas.{allowed-not, allowed-next}
use Rattle.qp_check_lanes.proofs.references.empties.Goals as goal

pub loop-r-init : goal.loop-r-init
unfolding after after_from is_allowed empties
loop-r-init c = record { stands = c.new-refs.ensures.stands; bounded = c.new-refs.ensures.bounded; allowed = refl; empty = ap (λ xs. xs ++ empties_from references.first c.args.history.now) (sym c.new-empties.ensures.items) }

pub returns-then-not-allows : goal.returns-then-not-allows
unfolding item_of
returns-then-not-allows c =
    let i = c.loop-r.r-index in
    let begins = rest_seen (λ r. item_of r.now) c.history.view_is c.deref-r-items.ensures.value i c.r-item.result c.loop-r-test.true c.r-item.is in
    let s = after references (take i c.args.history.now) in
    sym (allowed-not references references refl s c.r-item.result.now.of (body_of c.r-item.result.now) c.body-body.result c.body-body.ensures
    (is_allowed references c.args.history.now) (drop i c.args.history.now) (drop (i + 1) c.args.history.now) begins c.loop-r.invariant.allowed (c.if-not-allows.ensures s c.loop-r.invariant.stands))

pub loop-r-preserved : goal.loop-r-preserved
unfolding item_of empties_from
loop-r-preserved c =
    let i = c.loop-r.r-index in
    let h = c.args.history.now in
    let begins = rest_seen (λ r. item_of r.now) c.history.view_is c.deref-r-items.ensures.value i c.r-item.result c.loop-r-test.true c.r-item.is in
    let grows = front_seen (λ r. item_of r.now) c.history.view_is c.deref-r-items.ensures.value i c.r-item.result c.loop-r-test.true c.r-item.is in
    let s = after references (take i h) in
    let item = item_of c.r-item.result.now in
    let next : after references (take (i + 1) h) ≡ references.next s item = ap (after references) grows ∙ after-append references (take i h) item in
    let told : (c.loop-r.refs.standing == 0) ≡ is_empty s.names = is_empty-standing s.names c.loop-r.refs.standing c.loop-r.invariant.stands.total in
    let may : refs_may s (body_of c.r-item.result.now) ≡ true = sym (c.if-not-allows.ensures s c.loop-r.invariant.stands ∙ ap (refs_may s) c.body-body.ensures) in
    let may_body : refs_may s c.body-body.result ≡ true = sym (c.if-not-allows.ensures s c.loop-r.invariant.stands) in
    let moved : references.next s item ≡ refs_next s c.body-body.result = ap (refs_next s) (sym c.body-body.ensures) in
    record {
      stands = rw (next, moved) (c.in_ok-apply.ensures.stands s c.loop-r.invariant.stands may_body);
      bounded = c.in_ok-apply.ensures.bounded;
      allowed =
          allowed-next references references refl s c.r-item.result.now.of (body_of c.r-item.result.now) c.body-body.result c.body-body.ensures
          (is_allowed references h) (drop i h) (drop (i + 1) h) begins c.loop-r.invariant.allowed (c.if-not-allows.ensures s c.loop-r.invariant.stands) (after references (take (i + 1) h)) (next ∙ moved);
      empty =
          c.loop-r.invariant.empty
          ∙ ap (λ xs. c.loop-r.empties.items ++ empties_from s xs) begins
          ∙ sym (append_assoc c.loop-r.empties.items (is_empty s.names ∷ []) (empties_from (references.next s item) (drop (i + 1) h)))
          ∙ ap (λ xs. xs ++ empties_from (references.next s item) (drop (i + 1) h)) (ap (λ b. c.loop-r.empties.items ++ b ∷ []) (sym told) ∙ sym c.in_ok-push.ensures.items)
          ∙ ap (λ t. c.push.new.self.items ++ empties_from t (drop (i + 1) h)) (sym next);
    }

pub returns : goal.returns
unfolding empties_from allowed_from
returns c =
    let none = rest_none (λ r. item_of r.now) c.history.view_is c.deref-r-items.ensures.value c.loop-r.r-index c.loop-r-test.false in
    let h = c.args.history.now in
    let s = after references (take c.loop-r.r-index h) in
    let told : (c.loop-r.refs.standing == 0) ≡ is_empty s.names = is_empty-standing s.names c.loop-r.refs.standing c.loop-r.invariant.stands.total in (
      c.loop-r.invariant.allowed ∙ ap (allowed_from references s) none,
      c.in_ok-push-2.ensures.items
          ∙ ap (λ b. c.loop-r.empties.items ++ b ∷ []) told
          ∙ sym (c.loop-r.invariant.empty ∙ ap (λ xs. c.loop-r.empties.items ++ empties_from s xs) none),
    )
