use Rattle.std.proofs.Common.{◌≡◌, ◌∙◌, ◌+◌, ◌++◌, ◌∷◌, [], ◌==◌, ◌&&◌, ◌||◌, Bool, Option, length, get_or, nat_le, take, refl, ap, sym, arith, length-take}
use Rattle.std.proofs.lemmas.List.{take_all, take_more}
use Rattle.qp_model.specs.Record.{Item}
use Rattle.qp_model.specs.Places.{item_at, touch_at}
use Rattle.qp_check_lanes.specs.Keys.{key_of}
use Rattle.qp_replay.specs.Marks.{has_mark}
use Rattle.qp_replay.specs.Remaining.{draws_mark, record_place, record_in, shows_mark}
use Rattle.qp_replay.proofs.RemainingLemmas.{lane-next, length-fronts, one-front-more, no-lane, none-passed}
use Rattle.qp_replay.proofs.remaining.Remaining.of.Goals as goal

pub loop-n-init : goal.loop-n-init
loop-n-init c = record {
  fronts = c.new-fronts.ensures.items;
  draws = λ w m i k. c.none-draws.ensures (key_of w) (m, i, k) ∙ ap (λ o. draws_mark w m (touch_at o)) (sym (no-lane i k));
  shows = λ w m i k. c.none-shows.ensures (key_of w) (m, i, k) ∙ ap (λ o. shows_mark w m (touch_at o)) (sym (no-lane i k));
}

pub loop-n-preserved : goal.loop-n-preserved
loop-n-preserved c =
    let at = c.loop-n.n in
    let lane = c.lane-item.result in
    let xs = c.deref-lane-items.result.now in
    let same = c.deref-lane-items.ensures.value ∙ c.lanes.view_is in
    let front = take at c.args.lanes.now in
    let next : take (at + 1) c.args.lanes.now ≡ front ++ lane ∷ [] = rw (← same) (take_more xs at lane c.loop-n-test.true ∙ ap (λ h. take at xs ++ h ∷ []) (sym c.lane-item.is)) in
    let long : length front ≡ at = rw length-take (omega (arith, c.loop-n-test.true, ap length same)) in
    record {
      fronts = one-front-more at c.loop-n.fronts.items _ c.loop-n.invariant.fronts c.in_ok-push.ensures.items;
      draws = λ w m i k. let f : Option Item → Bool = λ o. draws_mark w m (touch_at o) in
          lane-next f refl front lane i k _ _ (c.loop-n.invariant.draws w m i k) (c.in_ok-put_lane.ensures.draws w m i k ∙ ap (λ a. has_mark c.loop-n.draws (key_of w) (m, i, k) || ((a == i) && f (record_in lane k))) (sym long)) ∙ ap (λ l. f (item_at l (record_place i k))) (sym next);
      shows = λ w m i k. let f : Option Item → Bool = λ o. shows_mark w m (touch_at o) in
          lane-next f refl front lane i k _ _ (c.loop-n.invariant.shows w m i k) (c.in_ok-put_lane.ensures.shows w m i k ∙ ap (λ a. has_mark c.loop-n.shows (key_of w) (m, i, k) || ((a == i) && f (record_in lane k))) (sym long)) ∙ ap (λ l. f (item_at l (record_place i k))) (sym next);
    }

pub invariant_of-result : goal.invariant_of-result
invariant_of-result c =
    let same = c.deref-lane-items.ensures.value ∙ c.lanes.view_is in
    let all : take c.loop-n.n c.args.lanes.now ≡ c.args.lanes.now = rw (← same) (take_all c.loop-n.n c.deref-lane-items.result.now c.loop-n-test.false) in
    record {
      small = c.requires;
      each = ap length c.loop-n.invariant.fronts ∙ length-fronts c.loop-n.n ∙ omega (arith, c.loop-n-test.false, c.loop-n.auto.n-end, ap length same);
      draws_are = λ w m i k.
          c.loop-n.invariant.draws w m i k ∙ ap (λ l. draws_mark w m (touch_at (item_at l (record_place i k)))) all ∙ none-passed c.loop-n.n i k _ ∙ ap (λ fs. nat_le (get_or fs i 0) k && draws_mark w m (touch_at (item_at c.args.lanes.now (record_place i k)))) (sym c.loop-n.invariant.fronts);
      shows_are = λ w m i k.
          c.loop-n.invariant.shows w m i k ∙ ap (λ l. shows_mark w m (touch_at (item_at l (record_place i k)))) all ∙ none-passed c.loop-n.n i k _ ∙ ap (λ fs. nat_le (get_or fs i 0) k && shows_mark w m (touch_at (item_at c.args.lanes.now (record_place i k)))) (sym c.loop-n.invariant.fronts);
    }
