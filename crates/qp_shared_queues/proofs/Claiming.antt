-- What contracts see of posts, by how their loops end.
use Rattle.std.proofs.Common.{◌≡◌, ℕ, ◌+◌, ◌-◌, ◌/◌, ◌%◌, ◌<◌, ◌≤◌, List, [], ◌∷◌, Bool, true, false, refl, sym, ap, subst, ◌∙◌, arith, lt-ltb}
use Rattle.std.specs.List.{list_any}
use Rattle.std.specs.Bool.{MatchBool}
use Rattle.std.specs.declared.option.Option.{Option}
use Rattle.std.specs.Prelude.{Some, None}
use Rattle.std.specs.Option.{unwrap_or}
use Rattle.qp_model.specs.declared.record.Rec.{Rec}
use Rattle.qp_model.specs.declared.words.Word.TheVariants as word
use Rattle.qp_model.specs.declared.bodies.Body.TheVariants.{Post}
use Rattle.qp_model.specs.Record.{item_of}
use Rattle.qp_model.specs.Parts.{room_before}
use Rattle.qp_model.specs.Sites.{ring_of}
use Rattle.qp_table.specs.Rule.{queue_at, mark_in, is_serve}
use Rattle.qp_table.specs.After.{rec_of, SeesMore}
use Rattle.qp_table.specs.declared.view.View.{View}
use Rattle.qp_table.specs.QueueLaws.{f_in, l_in, m_in}
use Rattle.qp_table.proofs.Looks.{full-says, no_entry-says}
use Rattle.qp_table.proofs.Marks.{high-mark}
use Rattle.qp_table.proofs.QueueSteps.{post-says}
use Rattle.qp_calls.specs.declared.tokens.HeldEntry.{HeldEntry}
use Rattle.qp_calls.specs.declared.answers.Claim.{Claim}
use Rattle.qp_calls.specs.declared.answers.Claim.TheVariants as answer
use Rattle.qp_calls.specs.Clauses.{entry_of, ClaimsEntry, PostsIt, PostsNot, FewTries, draws_claimed, refusal_of}
use Rattle.qp_calls_log.specs.declared.log.Log.{Log}
use Rattle.qp_table.specs.Words.{value_seen}
use Rattle.qp_table.specs.Lane.{lane_of}
use Rattle.qp_table.specs.Told.{refusal_rec}
use Rattle.qp_shared_loops.specs.Ends.{ClaimsNone, LoopPosts, PostEnds}
use Rattle.qp_shared_lane.specs.declared.lane.LaneState.{LaneState}
use Rattle.qp_shared_lane.specs.Lane.{state_view}
use Rattle.qp_shared_lane.specs.More.{IsPut}
use Rattle.qp_shared_queues.specs.Bodies.{post_body}
use Rattle.qp_shared_queues.proofs.Views.{Alike, sees-last}
use Rattle.qp_shared_queues.proofs.Lane.{then_view, ThenHolds, lane-mark-was, lane-mark-then}
use Rattle.qp_shared_queues.proofs.Noting.{IsNeutral, neutral-full, neutral-no_entry, noted-holds, noted-adds, noted-shows}
use Rattle.qp_shared_queues.proofs.Posting.{StandsIn, post-is, claims-gone, posted-holds, posted-adds, posted-shows}

-- the answer, by whether the entry was posted
abbrev pub AnswerIs : Bool → HeldEntry → ℕ → ℕ → ℕ → Claim → Type 0
AnswerIs posted e f lc m r = MatchBool posted (r ≡ answer.Done) (r ≡ answer.Short e f lc m)

-- a refused post, with a margin and without
refusal-says : (margin : Option ℕ) (o a x : ℕ) → item_of (refusal_rec margin o a x) ≡ record { of = o; body = refusal_of margin a (f_in x) (l_in x) (m_in x) }
refusal-says (Some k) o a x = full-says o a (f_in x) (l_in x) (m_in x) k
refusal-says None o a x = no_entry-says o a (f_in x) (l_in x) (m_in x)

refusal-neutral : (margin : Option ℕ) (o a f lc m : ℕ) → IsNeutral a (f + lc + m) o (refusal_of margin a f lc m)
refusal-neutral (Some k) o a f lc m = neutral-full a f lc m o k
refusal-neutral None o a f lc m = neutral-no_entry a f lc m o

-- counts raised by one
first-raised : (x : ℕ) → f_in x + 1 < 2097152 → (f_in (x + 1) ≡ f_in x + 1) × (l_in (x + 1) ≡ l_in x) × (m_in (x + 1) ≡ m_in x)
first-raised x fits = (omega arith, omega arith, omega arith)

pub last-raised : (x : ℕ) → l_in x + 1 < 2097152 → (f_in (x + 2097152) ≡ f_in x) × (l_in (x + 2097152) ≡ l_in x + 1) × (m_in (x + 2097152) ≡ m_in x)
last-raised x fits = (omega arith, omega arith, omega arith)

-- A first-in post.
module _ (l : LaneState) (a : ℕ) (margin : Option ℕ) (e : HeldEntry) (x : ℕ) (u : View) (h : Log) (more : List ℕ) (rec : Rec) (stands : StandsIn (entry_of e) l) (put : IsPut rec 0 l.log l.numbers.list h more) where
  -- refused
  module _ (c : ClaimsNone l.sys.now a l.by margin l.seat.me.0 x u) (says : item_of rec ≡ record { of = l.by; body = refusal_of margin a (f_in x) (l_in x) (m_in x) }) where
    pub refused-holds : ThenHolds l h more u
    refused-holds = noted-holds l a l.by x _ (refusal_of margin a (f_in x) (l_in x) (m_in x)) c.glances rec (refusal_rec margin l.by a x) u h more c.is c.more c.told.saw c.told.mark put says (refusal-says margin l.by a x) (refusal-neutral margin l.by a (f_in x) (l_in x) (m_in x))

    pub posts-not : h.spare + 1 ≡ l.log.spare → PostsNot a e e margin (f_in x) (l_in x) (m_in x) (state_view l) (then_view l h more u)
    unfolding lane_of
    posts-not spare = record {
      adds = noted-adds l a l.by x _ (refusal_of margin a (f_in x) (l_in x) (m_in x)) c.glances rec (refusal_rec margin l.by a x) u h more c.is c.more c.told.saw c.told.mark put says (refusal-says margin l.by a x) (refusal-neutral margin l.by a (f_in x) (l_in x) (m_in x)) spare;
      given_back = refl;
      few = c.few;
      shows = noted-shows l a l.by x _ (refusal_of margin a (f_in x) (l_in x) (m_in x)) c.glances rec (refusal_rec margin l.by a x) u h more c.is c.more c.told.saw c.told.mark put says (refusal-says margin l.by a x) (refusal-neutral margin l.by a (f_in x) (l_in x) (m_in x)) (f_in x) (l_in x) (m_in x) refl refl refl c.told.own;
    }

  -- posted
  module _ (c : LoopPosts l.sys.now a l.by margin (entry_of e) l.seat.me.0 x u) (says : item_of rec ≡ record { of = l.by; body = Post a (f_in x + 1) (l_in x) (m_in x) (entry_of e) }) where
    abbrev q : Rec
    q = rec_of 20 l.by (a ∷ (x % 2097152 + 1) ∷ (x / 2097152 % 2097152) ∷ (x / 4398046511104) ∷ (entry_of e).pool ∷ (entry_of e).block ∷ (entry_of e).name ∷ [])

    alike : Alike l.seat.me.0 u
    alike = record {
      lane_numbers = ap (λ (z : View). z.lane_numbers) c.is;
      serves = λ o. ap (λ (z : View). list_any (is_serve o) z.serves) c.is;
      fresh = ap (λ (z : View). z.fresh) c.is;
      used = ap (λ (z : View). z.used) c.is;
      fills = ap (λ (z : View). z.fills) c.is;
      claims = ap (λ (z : View). z.claims) c.is ∙ claims-gone a (f_in x % (ring_of l.sys.now a + 1)) (entry_of e) (mark_in (queue_at a) (x + 1)) l.seat.me.0.claims l.holds.still.claims;
      takes = ap (λ (z : View). z.takes) c.is;
      gives = ap (λ (z : View). z.gives) c.is;
    }

    sees : SeesMore l.seat.me.0.seen u.seen
    sees = sees-last l.seat.me.0 u c.glances (record { word = queue_at a; value = x + 1 }) c.more (ap (λ (z : View). z.seen) c.is)

    mark_is : mark_in (queue_at a) (x + 1) ≡ f_in x + 1 + l_in x + m_in x
    mark_is = let r = first-raised x c.fits in let r0 = r.0 in let r1 = r.1 in let r2 = r.2 in let m = c.told.mark in omega arith

    pub posted-first-holds : ThenHolds l h more u
    posted-first-holds = posted-holds l (entry_of e) stands a l.by (x + 1) (f_in x + 1 + l_in x + m_in x) (Post a (f_in x + 1) (l_in x) (m_in x) (entry_of e)) rec q u h more (ap (λ (z : View). z.logs) c.is) alike (ap (λ (z : View). z.hands) c.is) (ap (λ (z : View). z.contents) c.is) sees c.told.saw mark_is put says
        (post-says l.by a (f_in x + 1) (l_in x) (m_in x) (entry_of e)) (post-is a (f_in x + 1) (l_in x) (m_in x) l.by (entry_of e))

    pub posts-it : h.spare + 1 ≡ l.log.spare → PostsIt a e margin (state_view l) (then_view l h more u)
    unfolding lane_of room_before
    posts-it spare = record {
      f = f_in x + 1;
      l = l_in x;
      m = m_in x;
      adds = posted-adds l (entry_of e) stands a l.by (x + 1) (f_in x + 1 + l_in x + m_in x) (Post a (f_in x + 1) (l_in x) (m_in x) (entry_of e)) rec q u h more (ap (λ (z : View). z.logs) c.is) alike (ap (λ (z : View). z.hands) c.is) (ap (λ (z : View). z.contents) c.is) sees c.told.saw mark_is put says
          (post-says l.by a (f_in x + 1) (l_in x) (m_in x) (entry_of e)) (post-is a (f_in x + 1) (l_in x) (m_in x) l.by (entry_of e)) spare;
      enough = lt-ltb (unwrap_or margin 0) (ring_of l.sys.now a + 1 - (f_in x + 1 - 1 + l_in x - m_in x)) (let n = c.enough in omega arith);
      up = let was = lane-mark-was l a (x + 1) _ u c.told.saw mark_is in let now = lane-mark-then l a (x + 1) _ u c.told.saw mark_is h more in let le = c.told.found.le in let hm = high-mark (queue_at a) x (omega arith) in omega arith;
      shows = let r = first-raised x c.fits in
          posted-shows l (entry_of e) stands a l.by (x + 1) (f_in x + 1 + l_in x + m_in x) (Post a (f_in x + 1) (l_in x) (m_in x) (entry_of e)) rec q u h more (ap (λ (z : View). z.logs) c.is) alike (ap (λ (z : View). z.hands) c.is) (ap (λ (z : View). z.contents) c.is) sees c.told.saw mark_is put says
          (post-says l.by a (f_in x + 1) (l_in x) (m_in x) (entry_of e)) (post-is a (f_in x + 1) (l_in x) (m_in x) l.by (entry_of e)) (f_in x + 1) (l_in x) (m_in x) (l_in x) (m_in x) r.0 r.1 r.2 (λ y y_is. y_is) c.told.own;
    }

-- either
module _ (l : LaneState) (a : ℕ) (margin : Option ℕ) (e : HeldEntry) (x : ℕ) (u : View) (h : Log) (more : List ℕ) (rec : Rec) (stands : StandsIn (entry_of e) l) (put : IsPut rec 0 l.log l.numbers.list h more) where
  pub claim-holds : (posted : Bool) → PostEnds l.sys.now a l.by margin (entry_of e) l.seat.me.0 x posted u → item_of rec ≡ record { of = l.by; body = post_body posted margin a (f_in x) (l_in x) (m_in x) (entry_of e) } → ThenHolds l h more u
  claim-holds true ends says = posted-first-holds l a margin e x u h more rec stands put ends says
  claim-holds false ends says = refused-holds l a margin e x u h more rec stands put ends says

  pub claims-for : (posted : Bool) (r : Claim) → PostEnds l.sys.now a l.by margin (entry_of e) l.seat.me.0 x posted u → item_of rec ≡ record { of = l.by; body = post_body posted margin a (f_in x) (l_in x) (m_in x) (entry_of e) } → AnswerIs posted e (f_in x) (l_in x) (m_in x) r → h.spare + 1 ≡ l.log.spare → ClaimsEntry a e margin (state_view l) (then_view l h more u) r
  claims-for true r ends says is spare = subst (ClaimsEntry a e margin (state_view l) (then_view l h more u)) (sym is) (posts-it l a margin e x u h more rec stands put ends says spare)
  claims-for false r ends says is spare = subst (ClaimsEntry a e margin (state_view l) (then_view l h more u)) (sym is) (posts-not l a margin e x u h more rec stands put ends says spare)

  -- the tries of its loop
  pub claim-tries : (posted : Bool) (r : Claim) (before after : ℕ) → PostEnds l.sys.now a l.by margin (entry_of e) l.seat.me.0 x posted u → AnswerIs posted e (f_in x) (l_in x) (m_in x) r → before ≤ after
      → after + mark_in (queue_at a) (value_seen l.sys.now (word.Queue a) l.seat.me.0.seen) ≤ before + 1 + mark_in (queue_at a) x → FewTries (word.Queue a) (draws_claimed r) before after (state_view l) (then_view l h more u)
  claim-tries true r before after ends is up few = subst (λ (z : Claim). FewTries (word.Queue a) (draws_claimed z) before after (state_view l) (then_view l h more u)) (sym is) (record {
    up = up;
    few =
        let was = lane-mark-was l a (x + 1) (mark_in (queue_at a) (x + 1)) u ends.told.saw refl in let now = lane-mark-then l a (x + 1) (mark_in (queue_at a) (x + 1)) u ends.told.saw refl h more in
        let r = first-raised x ends.fits in let r0 = r.0 in let r1 = r.1 in let r2 = r.2 in let hm = high-mark (queue_at a) x (omega arith) in let hn = high-mark (queue_at a) (x + 1) (omega arith) in omega arith;
  })
  claim-tries false r before after ends is up few = subst (λ (z : Claim). FewTries (word.Queue a) (draws_claimed z) before after (state_view l) (then_view l h more u)) (sym is) (record {
    up = up;
    few =
        let was = lane-mark-was l a x (mark_in (queue_at a) x) u ends.told.saw refl in let now = lane-mark-then l a x (mark_in (queue_at a) x) u ends.told.saw refl h more in omega arith;
  })
