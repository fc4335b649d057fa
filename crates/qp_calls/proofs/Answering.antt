-- Groups as the parts that they are made of.
use Rattle.std.proofs.Common.{◌≡◌, ℕ, ◌+◌, ◌-◌, ◌==◌, nat_lt, Bool, true, false, List, [], ◌∷◌, ◌++◌, refl, sym, ◌∙◌, ap, subst, IsTrue, Option, Some, None, inl, inr, if◌then◌else◌}
use Rattle.std.specs.Option.{unwrap_or}
use Rattle.qp_model.specs.declared.systems.System.{System}
use Rattle.qp_model.specs.declared.bodies.Entry as model
use Rattle.qp_model.specs.Told.{Told, Event}
use Rattle.qp_model.specs.Calls as call
use Rattle.qp_model.specs.Calls.{Call, Answer, Granted, Refused, AtQueue, AtFront}
use Rattle.qp_model.specs.Parts.{is_static, room_before, sizes_of}
use Rattle.qp_model.specs.Sites.{ring_of}
use Rattle.qp_model.specs.Shapes.{Fits, Posts, PostsFront, PostsNew, PostsNewFront, Forwards, MakesNew, MakesAgainNow, NoBlockFor}
use Rattle.qp_calls.specs.declared.did.Did.{Did}
use Rattle.qp_calls.specs.declared.tokens.HeldEntry.{HeldEntry}
use Rattle.qp_calls.specs.Tokens.{Token, take_out, token_of, with_entry, without_entry}
use Rattle.qp_calls.specs.LaneView.{LaneView, Roomier}
use Rattle.qp_calls.specs.Clauses.{entry_of}
use Rattle.qp_calls.specs.Entries.{Again, Made, PostsEntry, PostsFirst, Released, Unmade}
use Rattle.qp_calls.specs.Groups.{CallAnswers}
use Rattle.qp_calls.proofs.Growing.{grows-room, grows-then}
use Rattle.qp_calls.proofs.Releasing.{take_out-first}

-- room first
pub answers-room : (now : Option model.Entry) (c : Call) (d : Did) (a r w : LaneView) → Roomier a r → CallAnswers r.sys r.by now c d r w → CallAnswers a.sys a.by now c d a w
answers-room now c d a r w room h =
    let sys : r.sys ≡ a.sys = rw room.same refl in
    let by : r.by ≡ a.by = rw room.same refl in
    record {
      answer = h.answer;
      g = h.g;
      said = h.said;
      grows = grows-room h.g a r w room h.grows;
      fits = subst (λ s. Fits s a.by now c h.answer h.g) sys (subst (λ o. Fits r.sys o now c h.answer h.g) by h.fits);
      hands = λ is. h.hands is ∙ rw room.same refl;
    }

-- whether a signal is static stays
pub static-here : (a r : LaneView) (sys : System) (sig : ℕ) (b : Bool) → Roomier a r → a.sys ≡ sys → is_static sys sig ≡ b → b ≡ is_static r.sys sig
static-here a r sys sig b room of is =
    let same : r.sys ≡ sys = rw room.same of in
    rw same (sym is)

-- an entry that came and went
pub without-with : (e : model.Entry) (hands : List Token) → without_entry e (with_entry e hands) ≡ hands
without-with e hands = go (e.pool == 0)
  where
    go : (u : Bool) → (if u then (if u then hands else token_of e ∷ hands) else take_out (token_of e) (if u then hands else token_of e ∷ hands)) ≡ hands
    go true = refl
    go false = take_out-first (token_of e) hands

-- a post after its head
pub with_head : (ring other to : ℕ) (margin : Option ℕ) (head : List Told) (e : model.Entry) (answer : Answer) (g : List Told)
    → ring ≡ other → Posts ring to margin [] e answer g → Posts other to margin head e answer (head ++ g)
unfolding Posts room_before
with_head ring other to margin head e Granted g is h = (h.0, h.1, h.2, ap (λ x. head ++ x) h.3, subst (λ r. IsTrue (nat_lt (unwrap_or margin 0) (r + 1 - (h.0 - 1 + h.1 - h.2)))) is h.4)
with_head ring other to (Some k) head e Refused g is h = (h.0, h.1, h.2, h.3, ap (λ x. head ++ x) h.4, h.5)
with_head ring other to None head e AtQueue g is h = (h.0, h.1, h.2, ap (λ x. head ++ x) h.3)
with_head ring other to margin head e _ g is h = absurd h

pub with_front_head : (o by : ℕ) (head : List Told) (e : model.Entry) (answer : Answer) (g : List Told)
    → by ≡ o → PostsFront by [] e answer g → PostsFront o head e answer (head ++ g)
unfolding PostsFront
with_front_head o by head e Granted g is h = (h.0, h.1, h.2, ap (λ x. head ++ x) h.3)
with_front_head o by head e AtFront g is h = rw (sym is) (h.0, h.1, h.2, ap (λ x. head ++ x) h.3)
with_front_head o by head e _ g is h = absurd h

-- a new event is made and posted
pub post-answers : (now : Option model.Entry) (to : ℕ) (ev : Event) (margin reserve : Option ℕ) (made : HeldEntry) (d : Did) (fixed : Bool) (r v w : LaneView)
    → fixed ≡ is_static r.sys ev.sig → Made fixed ev reserve made r v → PostsEntry to margin (entry_of made) d v w
    → CallAnswers r.sys r.by now (call.Post to ev.sig ev.pars margin reserve) d r w
unfolding Fits PostsNew
post-answers now to ev margin reserve made d fixed r v w is_fixed first post = record {
  answer = post.answer;
  g = first.head ++ post.g;
  said = post.said;
  grows = grows-then first.head post.g r v w first.grows post.grows;
  fits =
      inr (
        first.head,
        entry_of made,
        subst (λ b. MakesNew b (sizes_of r.sys) ev.sig ev.pars reserve first.head (entry_of made)) is_fixed first.makes,
        with_head (ring_of v.sys to) (ring_of r.sys to) to margin first.head (entry_of made) post.answer post.g (ap (λ s. ring_of s to) first.grows.sys) post.fits,
      );
  hands = λ is. post.hands is ∙ ap (λ x. without_entry (entry_of made) x) first.hands ∙ without-with (entry_of made) r.hands;
}

-- or it finds no block
pub unmade-answers : (now : Option model.Entry) (to : ℕ) (ev : Event) (margin reserve : Option ℕ) (d : Did) (fixed : Bool) (r v : LaneView)
    → fixed ≡ is_static r.sys ev.sig → Unmade fixed ev reserve d r v → CallAnswers r.sys r.by now (call.Post to ev.sig ev.pars margin reserve) d r v
unfolding Fits PostsNew
unmade-answers now to ev margin reserve d fixed r v is_fixed h = record {
  answer = h.answer;
  g = h.g;
  said = h.said;
  grows = h.grows;
  fits = inl (subst (λ b. NoBlockFor b (sizes_of r.sys) ev.pars reserve h.answer h.g) is_fixed h.none);
  hands = λ is. h.hands;
}

-- the same last-in
pub front-answers : (now : Option model.Entry) (ev : Event) (reserve : Option ℕ) (made : HeldEntry) (d : Did) (fixed : Bool) (r v w : LaneView)
    → fixed ≡ is_static r.sys ev.sig → Made fixed ev reserve made r v → PostsFirst (entry_of made) d v w → CallAnswers r.sys r.by now (call.Lifo ev.sig ev.pars reserve) d r w
unfolding Fits PostsNewFront
front-answers now ev reserve made d fixed r v w is_fixed first post = record {
  answer = post.answer;
  g = first.head ++ post.g;
  said = post.said;
  grows = grows-then first.head post.g r v w first.grows post.grows;
  fits =
      inr (
        first.head,
        entry_of made,
        subst (λ b. MakesNew b (sizes_of r.sys) ev.sig ev.pars reserve first.head (entry_of made)) is_fixed first.makes,
        with_front_head r.by v.by first.head (entry_of made) post.answer post.g first.grows.by post.fits,
      );
  hands = λ is. post.hands is ∙ ap (λ x. without_entry (entry_of made) x) first.hands ∙ without-with (entry_of made) r.hands;
}

pub unmade-front : (now : Option model.Entry) (ev : Event) (reserve : Option ℕ) (d : Did) (fixed : Bool) (r v : LaneView)
    → fixed ≡ is_static r.sys ev.sig → Unmade fixed ev reserve d r v → CallAnswers r.sys r.by now (call.Lifo ev.sig ev.pars reserve) d r v
unfolding Fits PostsNewFront
unmade-front now ev reserve d fixed r v is_fixed h = record {
  answer = h.answer;
  g = h.g;
  said = h.said;
  grows = h.grows;
  fits = inl (subst (λ b. NoBlockFor b (sizes_of r.sys) ev.pars reserve h.answer h.g) is_fixed h.none);
  hands = λ is. h.hands;
}

-- the event of an entry is posted once more
pub forward-answers : (e : model.Entry) (to : ℕ) (margin : Option ℕ) (made : HeldEntry) (d : Did) (r v w : LaneView)
    → Again e made r v → PostsEntry to margin (entry_of made) d v w → CallAnswers r.sys r.by (Some e) (call.Forward to margin) d r w
unfolding Fits Forwards MakesAgainNow
forward-answers e to margin made d r v w first post = record {
  answer = post.answer;
  g = first.head ++ post.g;
  said = post.said;
  grows = grows-then first.head post.g r v w first.grows post.grows;
  fits = (
    first.head,
    entry_of made,
    first.again,
    with_head (ring_of v.sys to) (ring_of r.sys to) to margin first.head (entry_of made) post.answer post.g (ap (λ s. ring_of s to) first.grows.sys) post.fits,
  );
  hands = λ is. post.hands is ∙ ap (λ x. without_entry (entry_of made) x) first.hands ∙ without-with (entry_of made) r.hands;
}

pub released-room : (e : model.Entry) (a r w : LaneView) → Roomier a r → Released e r w → Released e a w
released-room e a r w room h = record {
  g = h.g;
  grows = grows-room h.g a r w room h.grows;
  drops = h.drops;
  hands = h.hands ∙ ap (λ x. without_entry e x) (rw room.same refl);
}
