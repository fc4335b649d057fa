use denote.Param.Send.{sendable}
use Rattle.std.proofs.Common.{refl, sym, subst}
use Rattle.qp_shared.specs.Lane.{lane_view}
use Rattle.qp_shared.proofs.CrossingLemmas.{shared-lane-send}
use Rattle.qp_shared_tests.specs.Lanes.{IsPlayer, IsSame}
use Rattle.qp_shared_tests.proofs.LaneLemmas.{first-plays, lane-of}
use Rattle.qp_shared_tests.proofs.SameLanes.{same-itself}
use Rattle.qp_shared_tests.proofs.posts.contend.Goals as goal

pub beside-second-requires-send-O : goal.beside-second-requires-send-O
beside-second-requires-send-O g c κs within = search (sendable, shared-lane-send) depth 20

pub beside-second-requires-clause-one : goal.beside-second-requires-clause-one
beside-second-requires-clause-one g c κs within =
    let at = c.player-one.result.at in
    subst (λ l. IsPlayer at.sys.now at.ev.now at.me at.to (lane_view l)) (sym c.player-one.ensures.lane)
    (subst (λ t. IsPlayer t.sys.now t.ev.now t.me t.to (lane_view c.in_ok-first.second)) (sym c.player-one.ensures.at)
    (first-plays c.in-Ok.shared c.args.sys.now c.args.ev.now 1 1 2 _ (lane_view c.in_ok-first.second) c.in-Ok.ensures.system c.in_ok-first.ensures refl c.requires.one_stands c.requires.one c.requires.two c.requires))

pub beside-second-requires-clause-two : goal.beside-second-requires-clause-two
beside-second-requires-clause-two g c κs within =
    let at = c.player-two.result.at in
    subst (λ l. IsPlayer at.sys.now at.ev.now at.me at.to (lane_view l)) (sym c.player-two.ensures.lane)
    (subst (λ t. IsPlayer t.sys.now t.ev.now t.me t.to (lane_view c.in_ok-first.last)) (sym c.player-two.ensures.at)
    (first-plays c.in-Ok.shared c.args.sys.now c.args.ev.now 2 2 1 _ (lane_view c.in_ok-first.last) c.in-Ok.ensures.system c.in_ok-first.ensures refl c.requires.two_stands c.requires.two c.requires.one c.requires))

pub seal_triple-sealed-requires-clause-first : goal.seal_triple-sealed-requires-clause-first
seal_triple-sealed-requires-clause-first g c = lane-of c.in-Ok.shared 3 0 _ _ (lane_view c.in_ok-first.first) _ c.in_ok-first.ensures refl (same-itself _)

pub seal_triple-sealed-requires-clause-second : goal.seal_triple-sealed-requires-clause-second
seal_triple-sealed-requires-clause-second g c =
    lane-of c.in-Ok.shared 3 1 _ _ (lane_view c.in_ok-first.second) _ c.in_ok-first.ensures refl
    (subst (λ l. IsSame (lane_view l) (lane_view c.beside-second.result.0)) c.player-one.ensures.lane c.beside-second.ensures.one)

pub seal_triple-sealed-requires-clause-last : goal.seal_triple-sealed-requires-clause-last
seal_triple-sealed-requires-clause-last g c =
    lane-of c.in-Ok.shared 3 2 _ _ (lane_view c.in_ok-first.last) _ c.in_ok-first.ensures refl
    (subst (λ l. IsSame (lane_view l) (lane_view c.beside-second.result.1)) c.player-two.ensures.lane c.beside-second.ensures.two)
