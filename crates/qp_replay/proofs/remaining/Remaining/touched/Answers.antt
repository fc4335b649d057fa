use Rattle.std.proofs.Common.{◌≡◌, ◌∙◌, ◌<◌, length, ap, sym, arith}
use Rattle.std.proofs.lemmas.List.{get_or_default}
use Rattle.qp_model.specs.Touches.{as_touch}
use Rattle.qp_replay.specs.Remaining.{front}
use Rattle.qp_replay.proofs.RemainingLemmas.{lane-of, next-at, touch-of}
use Rattle.qp_replay.proofs.remaining.Remaining.touched.Goals as goal

pub index-requires : goal.index-requires
index-requires c =
    let st = c.args.self.now in
    omega (arith, (lane-of st.lanes c.args.lane (front st c.args.lane) c.requires).0, ap (λ s. length s.lanes) c.self.view_is, c.self.invariant.each, c.self.inside.fronts.ok.0)

pub touched_at-requires : goal.touched_at-requires
touched_at-requires c =
    let st = c.args.self.now in
    let found = lane-of st.lanes c.args.lane (front st c.args.lane) c.requires in
    let within : c.args.lane < length c.self.inside.fronts.items = omega (arith, found.0, ap (λ s. length s.lanes) c.self.view_is, c.self.invariant.each) in
    let at : c.index.result.now ≡ front st c.args.lane = c.index.ensures ∙ get_or_default c.self.inside.fronts.items c.args.lane c.index.result.now 0 within ∙ ap (λ s. front s c.args.lane) c.self.view_is in
    next-at st c.self.inside.lanes.now c.args.lane c.index.result.now (ap (λ s. s.lanes) (sym c.self.view_is)) at c.requires

pub returns : goal.returns
returns c =
    let st = c.args.self.now in
    let found = lane-of st.lanes c.args.lane (front st c.args.lane) c.requires in
    let within : c.args.lane < length c.self.inside.fronts.items = omega (arith, found.0, ap (λ s. length s.lanes) c.self.view_is, c.self.invariant.each) in
    let at : c.index.result.now ≡ front st c.args.lane = c.index.ensures ∙ get_or_default c.self.inside.fronts.items c.args.lane c.index.result.now 0 within ∙ ap (λ s. front s c.args.lane) c.self.view_is in
    touch-of st c.self.inside.lanes.now c.args.lane c.index.result.now (as_touch c.touched_at.result) (ap (λ s. s.lanes) (sym c.self.view_is)) at c.touched_at.ensures
