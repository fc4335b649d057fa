use Rattle.std.proofs.Common.{◌≡◌, ◌∙◌, ◌+◌, ◌++◌, ◌∷◌, [], ◌==◌, ◌&&◌, ◌||◌, Bool, Option, Some, length, take, refl, ap, sym, arith, length-take}
use Rattle.std.proofs.lemmas.List.{take_more}
use Rattle.qp_model.specs.Record.{Item, item_of}
use Rattle.qp_model.specs.Places.{touch_at}
use Rattle.qp_check_lanes.specs.Keys.{key_of}
use Rattle.qp_replay.specs.Marks.{has_mark}
use Rattle.qp_replay.specs.Remaining.{draws_mark, record_in, shows_mark}
use Rattle.qp_replay.proofs.RemainingLemmas.{put-next, put-none}
use Rattle.qp_replay.proofs.remaining.put_lane.Goals as goal

pub loop-k-init : goal.loop-k-init
loop-k-init c = record {
  draws = λ w m i k. put-none (λ o. draws_mark w m (touch_at o)) refl (has_mark c.args.draws.now (key_of w) (m, i, k)) (c.args.n == i) k;
  shows = λ w m i k. put-none (λ o. shows_mark w m (touch_at o)) refl (has_mark c.args.shows.now (key_of w) (m, i, k)) (c.args.n == i) k;
}

pub loop-k-preserved : goal.loop-k-preserved
loop-k-preserved c =
    let at = c.loop-k.k in
    let r = c.r-item.result in
    let xs = c.deref-r-items.result.now in
    let same = c.deref-r-items.ensures.value ∙ c.lane.view_is in
    let front = take at c.args.lane.now in
    let next : take (at + 1) c.args.lane.now ≡ front ++ r ∷ [] = rw (← same) (take_more xs at r c.loop-k-test.true ∙ ap (λ h. take at xs ++ h ∷ []) (sym c.r-item.is)) in
    let long : length front ≡ at = rw length-take (omega (arith, c.loop-k-test.true, ap length same)) in
    record {
      draws = λ w m i k. let f : Option Item → Bool = λ o. draws_mark w m (touch_at o) in
          put-next f refl front r k (has_mark c.args.draws.now (key_of w) (m, i, k)) (c.args.n == i) _ _ (c.loop-k.invariant.draws w m i k) (c.in_ok-put_record.ensures.draws w m i k ∙ ap (λ a. has_mark c.loop-k.draws (key_of w) (m, i, k) || (draws_mark w m (touch_at (Some (item_of r))) && ((c.args.n == i) && (a == k)))) (sym long))
          ∙ ap (λ l. has_mark c.args.draws.now (key_of w) (m, i, k) || ((c.args.n == i) && f (record_in l k))) (sym next);
      shows = λ w m i k. let f : Option Item → Bool = λ o. shows_mark w m (touch_at o) in
          put-next f refl front r k (has_mark c.args.shows.now (key_of w) (m, i, k)) (c.args.n == i) _ _ (c.loop-k.invariant.shows w m i k) (c.in_ok-put_record.ensures.shows w m i k ∙ ap (λ a. has_mark c.loop-k.shows (key_of w) (m, i, k) || (shows_mark w m (touch_at (Some (item_of r))) && ((c.args.n == i) && (a == k)))) (sym long))
          ∙ ap (λ l. has_mark c.args.shows.now (key_of w) (m, i, k) || ((c.args.n == i) && f (record_in l k))) (sym next);
    }
