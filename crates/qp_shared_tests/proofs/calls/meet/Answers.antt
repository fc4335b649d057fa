use Rattle.std.proofs.Common.{refl, sym, ◌∙◌, subst}
use Rattle.std.specs.Prelude.{IsTrue}
use Rattle.qp_model.specs.WordLaw.{is_object}
use Rattle.qp_calls.specs.Clauses.{FitsPool, event_of}
use Rattle.qp_shared.specs.Lane.{lane_view}
use Rattle.qp_shared_tests.proofs.LaneLemmas.{lane-of}
use Rattle.qp_shared_tests.proofs.SameLanes.{same-then}
use Rattle.qp_shared_tests.proofs.calls.meet.Goals as goal

pub post_go-posted-requires-clause-of : goal.post_go-posted-requires-clause-of
post_go-posted-requires-clause-of c = (c.in_ok-first.ensures.each 1 (lane_view c.in_ok-first.second) refl).sys_is ∙ c.in-Ok.ensures.system

pub counts_behind-counts-requires-clause-object : goal.counts_behind-counts-requires-clause-object
counts_behind-counts-requires-clause-object c =
    subst (λ s. IsTrue (is_object s 1)) (sym ((c.in_ok-first.ensures.each 0 (lane_view c.in_ok-first.first) refl).sys_is ∙ c.in-Ok.ensures.system)) c.requires.one

pub counts_behind-counts-requires-clause-together : goal.counts_behind-counts-requires-clause-together
counts_behind-counts-requires-clause-together c =
    let zero = c.in_ok-first.ensures.each 0 (lane_view c.in_ok-first.first) refl in
    let one = c.in_ok-first.ensures.each 1 (lane_view c.in_ok-first.second) refl in
    let same = c.post_go-posted.ensures in
    record { world = same.world ∙ (one.world_is ∙ sym zero.world_is); sys = same.sys ∙ (one.sys_is ∙ sym zero.sys_is) }

pub leave_one-requires-clause-fits : goal.leave_one-requires-clause-fits
leave_one-requires-clause-fits c =
    let one = c.in_ok-first.ensures.each 1 (lane_view c.in_ok-first.second) refl in
    subst (λ s. FitsPool s 1 (event_of c.args.ev.now)) (sym (c.counts_behind-counts.ensures.other.sys ∙ (c.post_go-posted.ensures.sys ∙ (one.sys_is ∙ c.in-Ok.ensures.system)))) c.requires.fits

pub seal_pair-sealed-requires-clause-first : goal.seal_pair-sealed-requires-clause-first
seal_pair-sealed-requires-clause-first c = lane-of c.in-Ok.shared 2 0 _ _ (lane_view c.in_ok-first.first) _ c.in_ok-first.ensures refl c.counts_behind-counts.ensures.lane

pub seal_pair-sealed-requires-clause-second : goal.seal_pair-sealed-requires-clause-second
seal_pair-sealed-requires-clause-second c =
    lane-of c.in-Ok.shared 2 1 _ _ (lane_view c.in_ok-first.second) _ c.in_ok-first.ensures refl
    (same-then _ _ _ (same-then _ _ _ c.post_go-posted.ensures c.counts_behind-counts.ensures.other) c.leave_one.ensures)
