use Rattle.std.proofs.Common.{◌≡◌, ◌∙◌, ◌<◌, [], length, get_or, ap, arith}
use Rattle.std.proofs.lemmas.List.{get_or_default}
use Rattle.qp_replay.specs.Remaining.{front, record_place}
use Rattle.qp_replay.proofs.RemainingLemmas.{lane-of, lane-small}
use Rattle.qp_replay.proofs.remaining.Remaining.head.Goals as goal

pub overflow_cast-result : goal.overflow_cast-result
overflow_cast-result c =
    let st = c.args.self.now in
    omega (arith, (lane-of st.lanes c.args.lane (front st c.args.lane) c.requires).0, ap (λ s. length s.lanes) c.self.view_is, c.self.invariant.small.count)

pub index-front-requires : goal.index-front-requires
index-front-requires c =
    let st = c.args.self.now in
    omega (arith, (lane-of st.lanes c.args.lane (front st c.args.lane) c.requires).0, ap (λ s. length s.lanes) c.self.view_is, c.self.invariant.each, c.self.inside.fronts.ok.0)

pub overflow_cast-result-2 : goal.overflow_cast-result-2
overflow_cast-result-2 c =
    let st = c.args.self.now in
    let found = lane-of st.lanes c.args.lane (front st c.args.lane) c.requires in
    let within : c.args.lane < length c.self.inside.fronts.items = omega (arith, found.0, ap (λ s. length s.lanes) c.self.view_is, c.self.invariant.each) in
    let at : c.index-front.result.now ≡ front st c.args.lane = c.index-front.ensures ∙ get_or_default c.self.inside.fronts.items c.args.lane c.index-front.result.now 0 within ∙ ap (λ s. front s c.args.lane) c.self.view_is in
    omega (arith, at, found.1, lane-small c.self.inside.lanes.now c.self.invariant.small.lengths c.args.lane, ap (λ s. length (get_or s.lanes c.args.lane [])) c.self.view_is)

pub returns : goal.returns
returns c =
    let st = c.args.self.now in
    let found = lane-of st.lanes c.args.lane (front st c.args.lane) c.requires in
    let within : c.args.lane < length c.self.inside.fronts.items = omega (arith, found.0, ap (λ s. length s.lanes) c.self.view_is, c.self.invariant.each) in
    let at : c.index-front.result.now ≡ front st c.args.lane = c.index-front.ensures ∙ get_or_default c.self.inside.fronts.items c.args.lane c.index-front.result.now 0 within ∙ ap (λ s. front s c.args.lane) c.self.view_is in
    ap (record_place c.args.lane) at
