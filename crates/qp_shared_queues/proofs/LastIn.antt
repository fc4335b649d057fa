-- What contracts see of last-in posts, by how their loops end.
use Rattle.std.proofs.Common.{◌≡◌, ℕ, ◌+◌, ◌/◌, ◌%◌, ◌≤◌, List, [], ◌∷◌, Bool, true, false, refl, sym, ap, subst, ◌∙◌, arith}
use Rattle.std.specs.List.{list_any}
use Rattle.qp_model.specs.declared.record.Rec.{Rec}
use Rattle.qp_model.specs.declared.words.Word.TheVariants as word
use Rattle.qp_model.specs.declared.bodies.Body.TheVariants.{Lifo, NoLifo}
use Rattle.qp_model.specs.Record.{item_of}
use Rattle.qp_table.specs.Rule.{queue_at, mark_in, is_serve}
use Rattle.qp_table.specs.After.{rec_of, full_rec, SeesMore}
use Rattle.qp_table.specs.declared.view.View.{View}
use Rattle.qp_table.specs.QueueLaws.{f_in, l_in, m_in}
use Rattle.qp_table.proofs.Looks.{no_lifo-says}
use Rattle.qp_table.proofs.Marks.{high-mark}
use Rattle.qp_table.proofs.QueueSteps.{lifo-says}
use Rattle.qp_calls.specs.declared.tokens.HeldEntry.{HeldEntry}
use Rattle.qp_calls.specs.declared.answers.Claim.{Claim}
use Rattle.qp_calls.specs.Clauses.{entry_of, ClaimsFront, PutsFront, PutsNot, FewTries, draws_claimed}
use Rattle.qp_calls_log.specs.declared.log.Log.{Log}
use Rattle.qp_table.specs.Words.{value_seen}
use Rattle.qp_table.specs.Lane.{lane_of}
use Rattle.qp_table.specs.Told.{before_front}
use Rattle.qp_shared_loops.specs.Ends.{PutsNone, LoopPostsFirst, PostFirstEnds}
use Rattle.qp_shared_lane.specs.declared.lane.LaneState.{LaneState}
use Rattle.qp_shared_lane.specs.Lane.{state_view}
use Rattle.qp_shared_lane.specs.More.{IsPut}
use Rattle.qp_shared_queues.specs.Bodies.{lifo_body}
use Rattle.qp_shared_queues.proofs.Views.{Alike, sees-last}
use Rattle.qp_shared_queues.proofs.Lane.{then_view, ThenHolds, lane-mark-was, lane-mark-then}
use Rattle.qp_shared_queues.proofs.Noting.{neutral-no_lifo, noted-holds, noted-adds, noted-shows}
use Rattle.qp_shared_queues.proofs.Posting.{StandsIn, lifo-is, lifo-own, bump-serves, claims-gone, posted-holds, posted-adds, posted-shows}
use Rattle.qp_shared_queues.proofs.Claiming.{AnswerIs, last-raised}

module _ (l : LaneState) (e : HeldEntry) (x : ℕ) (u : View) (h : Log) (more : List ℕ) (rec : Rec) (stands : StandsIn (entry_of e) l) (put : IsPut rec 0 l.log l.numbers.list h more) where
  -- refused
  module _ (c : PutsNone l.sys.now l.by l.seat.me.0 x u) (says : item_of rec ≡ record { of = l.by; body = NoLifo l.by (f_in x) (l_in x) (m_in x) }) where
    pub full-holds : ThenHolds l h more u
    full-holds = noted-holds l l.by l.by x _ (NoLifo l.by (f_in x) (l_in x) (m_in x)) c.glances rec (full_rec l.by x) u h more c.is c.more c.told.saw c.told.mark put says (no_lifo-says l.by l.by (f_in x) (l_in x) (m_in x)) (neutral-no_lifo l.by (f_in x) (l_in x) (m_in x) l.by)

    pub puts-not : h.spare + 1 ≡ l.log.spare → PutsNot e e (f_in x) (l_in x) (m_in x) (state_view l) (then_view l h more u)
    unfolding lane_of
    puts-not spare = record {
      adds = noted-adds l l.by l.by x _ (NoLifo l.by (f_in x) (l_in x) (m_in x)) c.glances rec (full_rec l.by x) u h more c.is c.more c.told.saw c.told.mark put says (no_lifo-says l.by l.by (f_in x) (l_in x) (m_in x)) (neutral-no_lifo l.by (f_in x) (l_in x) (m_in x) l.by) spare;
      given_back = refl;
      full = let n = c.few in let s = c.short in omega arith;
      shows = noted-shows l l.by l.by x _ (NoLifo l.by (f_in x) (l_in x) (m_in x)) c.glances rec (full_rec l.by x) u h more c.is c.more c.told.saw c.told.mark put says (no_lifo-says l.by l.by (f_in x) (l_in x) (m_in x)) (neutral-no_lifo l.by (f_in x) (l_in x) (m_in x) l.by) (f_in x) (l_in x) (m_in x) refl refl refl c.told.own;
    }

  -- posted
  module _ (c : LoopPostsFirst l.sys.now l.by (entry_of e) l.seat.me.0 x u) (says : item_of rec ≡ record { of = l.by; body = Lifo (f_in x) (l_in x + 1) (m_in x) (entry_of e) }) where
    abbrev q : Rec
    q = rec_of 21 l.by ((x % 2097152) ∷ (x / 2097152 % 2097152 + 1) ∷ (x / 4398046511104) ∷ (entry_of e).pool ∷ (entry_of e).block ∷ (entry_of e).name ∷ [])

    alike : Alike l.seat.me.0 u
    alike = record {
      lane_numbers = ap (λ (z : View). z.lane_numbers) c.is;
      serves = λ o. ap (λ (z : View). list_any (is_serve o) z.serves) c.is ∙ bump-serves l.by 1 0 o l.seat.me.0.serves;
      fresh = ap (λ (z : View). z.fresh) c.is;
      used = ap (λ (z : View). z.used) c.is;
      fills = ap (λ (z : View). z.fills) c.is;
      claims = ap (λ (z : View). z.claims) c.is ∙ claims-gone l.by (before_front l.sys.now l.by x) (entry_of e) (mark_in (queue_at l.by) (x + 2097152)) l.seat.me.0.claims l.holds.still.claims;
      takes = ap (λ (z : View). z.takes) c.is;
      gives = ap (λ (z : View). z.gives) c.is;
    }

    sees : SeesMore l.seat.me.0.seen u.seen
    sees = sees-last l.seat.me.0 u c.glances (record { word = queue_at l.by; value = x + 2097152 }) c.more (ap (λ (z : View). z.seen) c.is)

    mark_is : mark_in (queue_at l.by) (x + 2097152) ≡ f_in x + (l_in x + 1) + m_in x
    mark_is = let r = last-raised x c.fits in let r0 = r.0 in let r1 = r.1 in let r2 = r.2 in let m = c.told.mark in omega arith

    pub first-holds : ThenHolds l h more u
    first-holds = posted-holds l (entry_of e) stands l.by l.by (x + 2097152) (f_in x + (l_in x + 1) + m_in x) (Lifo (f_in x) (l_in x + 1) (m_in x) (entry_of e)) rec q u h more (ap (λ (z : View). z.logs) c.is) alike (ap (λ (z : View). z.hands) c.is) (ap (λ (z : View). z.contents) c.is) sees c.told.saw mark_is put says
        (lifo-says l.by (f_in x) (l_in x + 1) (m_in x) (entry_of e)) (lifo-is l.by (f_in x) (l_in x + 1) (m_in x) (entry_of e))

    pub puts-front : h.spare + 1 ≡ l.log.spare → PutsFront e (state_view l) (then_view l h more u)
    unfolding lane_of
    puts-front spare = record {
      f = f_in x;
      l = l_in x + 1;
      m = m_in x;
      adds = posted-adds l (entry_of e) stands l.by l.by (x + 2097152) (f_in x + (l_in x + 1) + m_in x) (Lifo (f_in x) (l_in x + 1) (m_in x) (entry_of e)) rec q u h more (ap (λ (z : View). z.logs) c.is) alike (ap (λ (z : View). z.hands) c.is) (ap (λ (z : View). z.contents) c.is) sees c.told.saw mark_is put says
          (lifo-says l.by (f_in x) (l_in x + 1) (m_in x) (entry_of e)) (lifo-is l.by (f_in x) (l_in x + 1) (m_in x) (entry_of e)) spare;
      enough = let n = c.enough in omega arith;
      up = let was = lane-mark-was l l.by (x + 2097152) _ u c.told.saw mark_is in let now = lane-mark-then l l.by (x + 2097152) _ u c.told.saw mark_is h more in let le = c.told.found.le in let hm = high-mark (queue_at l.by) x (omega arith) in omega arith;
      shows = let r = last-raised x c.fits in
          posted-shows l (entry_of e) stands l.by l.by (x + 2097152) (f_in x + (l_in x + 1) + m_in x) (Lifo (f_in x) (l_in x + 1) (m_in x) (entry_of e)) rec q u h more (ap (λ (z : View). z.logs) c.is) alike (ap (λ (z : View). z.hands) c.is) (ap (λ (z : View). z.contents) c.is) sees c.told.saw mark_is put says
          (lifo-says l.by (f_in x) (l_in x + 1) (m_in x) (entry_of e)) (lifo-is l.by (f_in x) (l_in x + 1) (m_in x) (entry_of e)) (f_in x) (l_in x + 1) (m_in x) (l_in x) (m_in x) r.0 r.1 r.2 (λ y y_is. lifo-own l.by (f_in x) (l_in x + 1) (m_in x) (l_in x) (m_in x) (entry_of e) y y_is) c.told.own;
    }

  pub lifo-holds : (posted : Bool) → PostFirstEnds l.sys.now l.by (entry_of e) l.seat.me.0 x posted u → item_of rec ≡ record { of = l.by; body = lifo_body posted l.by (f_in x) (l_in x) (m_in x) (entry_of e) } → ThenHolds l h more u
  lifo-holds true ends says = first-holds ends says
  lifo-holds false ends says = full-holds ends says

  pub lifos-for : (posted : Bool) (r : Claim) → PostFirstEnds l.sys.now l.by (entry_of e) l.seat.me.0 x posted u → item_of rec ≡ record { of = l.by; body = lifo_body posted l.by (f_in x) (l_in x) (m_in x) (entry_of e) } → AnswerIs posted e (f_in x) (l_in x) (m_in x) r → h.spare + 1 ≡ l.log.spare → ClaimsFront e (state_view l) (then_view l h more u) r
  lifos-for true r ends says is spare = subst (ClaimsFront e (state_view l) (then_view l h more u)) (sym is) (puts-front ends says spare)
  lifos-for false r ends says is spare = subst (ClaimsFront e (state_view l) (then_view l h more u)) (sym is) (puts-not ends says spare)

  pub lifo-tries : (posted : Bool) (r : Claim) (before after : ℕ) → PostFirstEnds l.sys.now l.by (entry_of e) l.seat.me.0 x posted u → AnswerIs posted e (f_in x) (l_in x) (m_in x) r → before ≤ after
      → after + mark_in (queue_at l.by) (value_seen l.sys.now (word.Queue l.by) l.seat.me.0.seen) ≤ before + 1 + mark_in (queue_at l.by) x → FewTries (word.Queue (state_view l).by) (draws_claimed r) before after (state_view l) (then_view l h more u)
  unfolding lane_of
  lifo-tries true r before after ends is up few = subst (λ (z : Claim). FewTries (word.Queue l.by) (draws_claimed z) before after (state_view l) (then_view l h more u)) (sym is) (record {
    up = up;
    few =
        let was = lane-mark-was l l.by (x + 2097152) (mark_in (queue_at l.by) (x + 2097152)) u ends.told.saw refl in let now = lane-mark-then l l.by (x + 2097152) (mark_in (queue_at l.by) (x + 2097152)) u ends.told.saw refl h more in
        let r = last-raised x ends.fits in let r0 = r.0 in let r1 = r.1 in let r2 = r.2 in let hm = high-mark (queue_at l.by) x (omega arith) in let hn = high-mark (queue_at l.by) (x + 2097152) (omega arith) in omega arith;
  })
  lifo-tries false r before after ends is up few = subst (λ (z : Claim). FewTries (word.Queue l.by) (draws_claimed z) before after (state_view l) (then_view l h more u)) (sym is) (record {
    up = up;
    few = let was = lane-mark-was l l.by x (mark_in (queue_at l.by) x) u ends.told.saw refl in let now = lane-mark-then l l.by x (mark_in (queue_at l.by) x) u ends.told.saw refl h more in omega arith;
  })
