use Rattle.std.proofs.Common.{◌≡◌, ◌∙◌, ◌<◌, [], length, get_or, ap, sym, arith, length-set}
use Rattle.std.proofs.lemmas.List.{get_or_default}
use Rattle.qp_model.specs.Places.{item_at, touch_at}
use Rattle.qp_model.specs.Touches.{as_touch}
use Rattle.qp_replay.specs.Remaining.{draws_mark, front, record_place, shows_mark}
use Rattle.qp_replay.proofs.RemainingLemmas.{lane-of, lane-small, passed-mark}
use Rattle.qp_replay.proofs.remaining.Remaining.pass.Goals as goal

pub index_mut-requires : goal.index_mut-requires
index_mut-requires c =
    let st = c.args.self.now in
    omega (arith, (lane-of st.lanes c.args.lane (front st c.args.lane) c.requires).0, ap (λ s. length s.lanes) c.self.view_is, c.self.invariant.each, c.self.inside.fronts.ok.0)

pub overflow_add-index_mut : goal.overflow_add-index_mut
overflow_add-index_mut c =
    let st = c.args.self.now in
    let found = lane-of st.lanes c.args.lane (front st c.args.lane) c.requires in
    let within : c.args.lane < length c.self.inside.fronts.items = omega (arith, found.0, ap (λ s. length s.lanes) c.self.view_is, c.self.invariant.each) in
    let at : c.index_mut.result.now ≡ front st c.args.lane = c.index_mut.ensures.value ∙ get_or_default c.self.inside.fronts.items c.args.lane c.index_mut.result.now 0 within ∙ ap (λ s. front s c.args.lane) c.self.view_is in
    omega (arith, at, found.1, lane-small c.self.inside.lanes.now c.self.invariant.small.lengths c.args.lane, ap (λ s. length (get_or s.lanes c.args.lane [])) c.self.view_is)

pub invariant_of-self : goal.invariant_of-self
invariant_of-self c =
    let st = c.args.self.now in
    let lane = c.args.lane in
    let fronts = c.self.inside.fronts.items in
    let lanes = c.self.inside.lanes.now in
    let found = lane-of st.lanes lane (front st lane) c.requires in
    let within : lane < length fronts = omega (arith, found.0, ap (λ s. length s.lanes) c.self.view_is, c.self.invariant.each) in
    let value : c.index_mut.result.now ≡ get_or fronts lane 0 = c.index_mut.ensures.value ∙ get_or_default fronts lane c.index_mut.result.now 0 within in
    let at : c.head-at.result.place ≡ get_or fronts lane 0 = ap (λ p. p.at) c.head-at.ensures ∙ ap (λ s. front s lane) (sym c.self.view_is) in
    let there : c.head-at.result.lane ≡ lane = ap (λ p. p.lane) c.head-at.ensures in
    let t : as_touch c.touched-touched.result ≡ touch_at (item_at lanes (record_place lane (get_or fronts lane 0))) = c.touched-touched.ensures ∙ ap (λ s. touch_at (item_at s.lanes (record_place lane (front s lane)))) (sym c.self.view_is) in
    record {
      small = c.self.invariant.small;
      each = rw length-set c.self.invariant.each;
      draws_are = λ w m n k.
          passed-mark fronts lane n k c.head-at.result.lane c.head-at.result.place c.index_mut.result.now (draws_mark w m (touch_at (item_at lanes (record_place n k)))) (draws_mark w m (as_touch c.touched-touched.result)) _ _ within
          (λ e f. ap (λ i. draws_mark w m (touch_at (item_at lanes (record_place i k)))) e ∙ ap (λ j. draws_mark w m (touch_at (item_at lanes (record_place lane j)))) f ∙ ap (draws_mark w m) (sym t)) there at value (c.self.invariant.draws_are w m n k)
          (c.take_mark.ensures.draws w m n k);
      shows_are = λ w m n k.
          passed-mark fronts lane n k c.head-at.result.lane c.head-at.result.place c.index_mut.result.now (shows_mark w m (touch_at (item_at lanes (record_place n k)))) (shows_mark w m (as_touch c.touched-touched.result)) _ _ within
          (λ e f. ap (λ i. shows_mark w m (touch_at (item_at lanes (record_place i k)))) e ∙ ap (λ j. shows_mark w m (touch_at (item_at lanes (record_place lane j)))) f ∙ ap (shows_mark w m) (sym t)) there at value (c.self.invariant.shows_are w m n k)
          (c.take_mark.ensures.shows w m n k);
    }
