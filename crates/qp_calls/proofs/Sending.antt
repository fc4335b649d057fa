-- A source's publication, member by member.
use Rattle.std.proofs.Common.{◌≡◌, ℕ, zero, suc, ◌+◌, ◌-◌, ◌<◌, nat_lt, Bool, true, false, List, [], ◌∷◌, ◌++◌, length, refl, sym, ◌∙◌, ap, subst, arith, append_assoc, IsTrue, Option, Some, None, Result, Ok, Err, inl, inr}
use Rattle.std.specs.Prelude.{◌≢◌, ◌⊎◌}
use Rattle.std.proofs.lemmas.Bool.{lt-ltb}
use Rattle.std.proofs.lemmas.List.{append-nil}
use Rattle.std.specs.List.{list_all}
use Rattle.qp_model.specs.declared.systems.System.{System}
use Rattle.qp_model.specs.declared.bodies.Entry as model
use Rattle.qp_model.specs.declared.bodies.Body.TheVariants as item
use Rattle.qp_model.specs.Record.{entry}
use Rattle.qp_model.specs.Told.{Told, Event, plain}
use Rattle.qp_model.specs.Calls as call
use Rattle.qp_model.specs.Calls.{Answer, Granted, Refused, AtQueue, AtPool}
use Rattle.qp_model.specs.Parts.{is_static, first_pool, members, room_before, sizes_of}
use Rattle.qp_model.specs.Sites.{ring_of}
use Rattle.qp_model.specs.Sound.{IsSound}
use Rattle.qp_model.specs.Shapes.{Fits, Drops, MakesAgain, again_by, MakesNew, NoBlockFor, Posts, PostsOne, PostsToAll, PostsUpTo, Publishes, PublishesFirst, PublishesLast, raising, restoring}
use Rattle.qp_model.specs.WordLaw.{is_object}
use Rattle.qp_calls.specs.declared.answers.RoomFault.{RoomFault}
use Rattle.qp_calls.specs.declared.did.Did.{Did}
use Rattle.qp_calls.specs.declared.did.Did.TheVariants as did
use Rattle.qp_calls.specs.declared.tokens.HeldEntry.{HeldEntry}
use Rattle.qp_calls.specs.declared.tokens.HeldEntry.TheVariants as token
use Rattle.qp_calls.specs.Tokens.{Hold, without_entry}
use Rattle.qp_calls.specs.LaneView.{LaneView, Grows, Roomier}
use Rattle.qp_calls.specs.Clauses.{IsEvent, EntryStands, StandsHold, entry_of}
use Rattle.qp_calls.specs.Entries.{Released}
use Rattle.qp_calls.specs.Groups.{CallAnswers}
use Rattle.qp_calls.specs.Publishing.{Announced, MembersAreObjects, PostsAgain, PostsAll, PostsCut, PostsUpToFull, PostsSome, PostsWhole, PublishCut, PublishesAll}
use Rattle.qp_calls.proofs.Growing.{gains-none, grows-room, grows-then, stands-still}
use Rattle.qp_calls.proofs.FirstPool.{pool_of_sound}
use Rattle.qp_calls.proofs.Answering.{without-with}
use Rattle.qp_calls.proofs.Flushing.{could_drop}
use Rattle.qp_calls.proofs.Announcing.{members-none, one-asserted, one-granted}
use Rattle.qp_model.proofs.TakenLemmas.{list_all-at}

-- Posts to several members.

sends-one : (rings : ℕ → ℕ) (e : model.Entry) (sent : List ℕ) (to : ℕ) (posts one : List Told) → PostsToAll rings e sent posts → PostsOne (rings to) e to Granted one
    → PostsToAll rings e (sent ++ to ∷ []) (posts ++ one)
unfolding PostsToAll
sends-one rings e [] to posts one h k = rw h (one, [], sym (append-nil one), k, refl)
sends-one rings e (a ∷ sent) to posts one h k = (h.0, h.1 ++ one, ap (λ x. x ++ one) h.2 ∙ append_assoc h.0 h.1 one, h.3, sends-one rings e sent to h.1 one h.4 k)

sends-up_to : (rings : ℕ → ℕ) (e : model.Entry) (sent : List ℕ) (to : ℕ) (others : List ℕ) (posts one : List Told) → PostsToAll rings e sent posts → PostsOne (rings to) e to AtQueue one
    → PostsUpTo rings e (sent ++ to ∷ others) (posts ++ one)
unfolding PostsToAll PostsUpTo
sends-up_to rings e [] to others posts one h k = rw h (inl k)
sends-up_to rings e (a ∷ sent) to others posts one h k =
    inr (h.0, h.1 ++ one, ap (λ x. x ++ one) h.2 ∙ append_assoc h.0 h.1 one, h.3, sends-up_to rings e sent to others h.1 one h.4 k)

sends-all : (rings : ℕ → ℕ) (e : model.Entry) (sent others : List ℕ) (posts rest : List Told) → PostsToAll rings e sent posts → PostsToAll rings e others rest
    → PostsToAll rings e (sent ++ others) (posts ++ rest)
unfolding PostsToAll
sends-all rings e [] others posts rest h k = rw h k
sends-all rings e (a ∷ sent) others posts rest h k = (h.0, h.1 ++ rest, ap (λ x. x ++ rest) h.2 ∙ append_assoc h.0 h.1 rest, h.3, sends-all rings e sent others h.1 rest h.4 k)

-- What could still be sent.

could_again : (e : model.Entry) → (head : List Told) × (made : model.Entry) × MakesAgain e head made
unfolding MakesAgain
could_again e = go e.pool
  where
    go : (p : ℕ) → (head : List Told) × (made : model.Entry) × again_by p e head made
    go zero = ([], e, (refl, refl))
    go (suc p) = (plain (item.Inc e.pool e.block 0) ∷ [], entry e.pool e.block 0, (0, refl, refl))

could_post : (ring : ℕ) (e : model.Entry) (to : ℕ) → (g : List Told) × PostsOne ring e to Granted g
unfolding PostsOne Posts room_before
could_post ring e to =
    let a = could_again e in
    (a.0 ++ (plain (item.Post to 1 0 0 a.1) ∷ []), (a.0, a.1, a.2, (1, 0, 0, refl, free ring)))
  where
    free : (r : ℕ) → nat_lt 0 (r + 1 - (1 - 1 + 0 - 0)) ≡ true
    free r = lt-ltb 0 (r + 1 - (1 - 1 + 0 - 0)) (omega arith)

-- a post is a record at least
post_some : (ring : ℕ) (e : model.Entry) (to : ℕ) (g : List Told) → PostsOne ring e to Granted g → g ≢ []
unfolding PostsOne Posts
post_some ring e to g h none = no _ h.0 (sym h.3.3 ∙ none)
  where
    no : (x : Told) (xs : List Told) → xs ++ x ∷ [] ≡ [] → ⊥
    no x [] is = absurd (cc)
    no x (y ∷ ys) is = absurd (cc)

some-front : (g h : List Told) → g ≢ [] → g ++ h ≢ []
some-front [] h some none = some refl
some-front (t ∷ g) h some none = absurd (cc)

some-back : (g h : List Told) → h ≢ [] → g ++ h ≢ []
some-back [] h some none = some none
some-back (t ∷ g) h some none = absurd (cc)

could_post_all : (rings : ℕ → ℕ) (e : model.Entry) (others : List ℕ) → (g : List Told) × PostsToAll rings e others g
unfolding PostsToAll
could_post_all rings e [] = ([], refl)
could_post_all rings e (a ∷ others) =
    let one = could_post (rings a) e a in
    let rest = could_post_all rings e others in
    (one.0 ++ rest.0, (one.0, rest.0, refl, one.1, rest.1))

could_some : (rings : ℕ → ℕ) (e : model.Entry) (a : ℕ) (others : List ℕ) → (could_post_all rings e (a ∷ others)).0 ≢ []
unfolding could_post_all
could_some rings e a others = let one = could_post (rings a) e a in some-front one.0 (could_post_all rings e others).0 (post_some (rings a) e a one.0 one.1)

-- The loop over the members.

pub some-none : (e : model.Entry) (all : ℕ) (a : LaneView) → PostsSome e all all a a
unfolding PostsToAll
some-none e all a = record { sent = []; posts = []; split = refl; grows = gains-none a; fits = refl; hands = refl }

same_sys : (a v r : LaneView) (e : model.Entry) (all left : ℕ) → PostsSome e all left a v → Roomier v r → r.sys ≡ a.sys
same_sys a v r e all left some room = let here : r.sys ≡ v.sys = rw room.same refl in here ∙ some.grows.sys

pub some-more : (e : model.Entry) (all left to rest n : ℕ) (a v r w : LaneView) → PostsSome e all left a v → Roomier v r → members left ≡ to ∷ members rest
    → PostsAgain e to (did.Value n) r w → PostsSome e all rest a w
some-more e all left to rest n a v r w some room first post =
    let one : PostsOne (ring_of r.sys to) e to Granted post.g = one-granted (ring_of r.sys to) to n e post.answer post.g post.said post.fits in
    let here : PostsOne (ring_of a.sys to) e to Granted post.g = subst (λ s. PostsOne (ring_of s to) e to Granted post.g) (same_sys a v r e all left some room) one in
    record {
      sent = some.sent ++ to ∷ [];
      posts = some.posts ++ post.g;
      split = some.split ∙ ap (λ x. some.sent ++ x) first ∙ sym (append_assoc some.sent (to ∷ []) (members rest));
      grows = grows-then some.posts post.g a v w some.grows (grows-room post.g v r w room post.grows);
      fits = sends-one (λ x. ring_of a.sys x) e some.sent to some.posts post.g some.fits here;
      hands = post.hands refl ∙ rw room.same some.hands;
    }

pub some-assert : (e : model.Entry) (all left to rest code : ℕ) (a v r w : LaneView) → PostsSome e all left a v → Roomier v r → members left ≡ to ∷ members rest
    → PostsAgain e to (did.Assert code) r w → (code ≡ 1) × PostsUpToFull e all a w
some-assert e all left to rest code a v r w some room first post =
    let end = one-asserted (ring_of r.sys to) to code e post.answer post.g post.said post.fits in
    let here : PostsOne (ring_of a.sys to) e to AtQueue post.g = subst (λ s. PostsOne (ring_of s to) e to AtQueue post.g) (same_sys a v r e all left some room) end.1 in
    let split : members all ≡ some.sent ++ to ∷ members rest = some.split ∙ ap (λ x. some.sent ++ x) first in (
      end.0,
      record {
        g = some.posts ++ post.g;
        grows = grows-then some.posts post.g a v w some.grows (grows-room post.g v r w room post.grows);
        fits =
            subst (λ ms. PostsUpTo (λ x. ring_of a.sys x) e ms (some.posts ++ post.g)) (sym split)
            (sends-up_to (λ x. ring_of a.sys x) e some.sent to (members rest) some.posts post.g some.fits here);
      },
    )

-- `room` refused before the next post
pub some-cut : (e : model.Entry) (all left to rest : ℕ) (a v w : LaneView) → PostsSome e all left a v → w ≡ v → members left ≡ to ∷ members rest → PostsCut e all a w
some-cut e all left to rest a v w some same first =
    let rings = λ (x : ℕ). ring_of a.sys x in
    let could = could_post_all rings e (to ∷ members rest) in
    record {
      g = some.posts;
      rest = could.0;
      grows = subst (λ x. Grows some.posts a x) (sym same) some.grows;
      fits =
          subst (λ ms. PostsToAll (λ x. ring_of a.sys x) e ms (some.posts ++ could.0)) (sym (some.split ∙ ap (λ x. some.sent ++ x) first))
          (sends-all rings e some.sent (to ∷ members rest) some.posts could.0 some.fits could.1);
      some = inr (could_some rings e to (members rest));
    }

all_sent : (all left : ℕ) (sent : List ℕ) → members all ≡ sent ++ members left → left ≡ 0 → sent ≡ members all
all_sent all left sent split none = sym (append-nil sent) ∙ ap (λ x. sent ++ x) (sym (members-none left none)) ∙ sym split

-- or before the release
pub some-kept : (e : model.Entry) (all left : ℕ) (a v w : LaneView) → PostsSome e all left a v → left ≡ 0 → w ≡ v → 0 < e.pool → PostsCut e all a w
some-kept e all left a v w some none same pooled = record {
  g = some.posts;
  rest = [];
  grows = subst (λ x. Grows some.posts a x) (sym same) some.grows;
  fits =
      subst (λ g. PostsToAll (λ x. ring_of a.sys x) e (members all) g) (sym (append-nil some.posts))
      (subst (λ ms. PostsToAll (λ x. ring_of a.sys x) e ms some.posts) (all_sent all left some.sent some.split none) some.fits);
  some = inl pooled;
}

pub some-whole : (e : model.Entry) (all left : ℕ) (a v r w : LaneView) → PostsSome e all left a v → left ≡ 0 → Roomier v r → Released e r w → PostsWhole e all a w
some-whole e all left a v r w some none room rel =
    let split : some.sent ≡ members all = all_sent all left some.sent some.split none in
    let hands : r.hands ≡ a.hands = rw room.same some.hands in
    record {
      posts = some.posts;
      last = rel.g;
      grows = grows-then some.posts rel.g a v w some.grows (grows-room rel.g v r w room rel.grows);
      fits = subst (λ ms. PostsToAll (λ x. ring_of a.sys x) e ms some.posts) split some.fits;
      drops = rel.drops;
      hands = rel.hands ∙ ap (λ x. without_entry e x) hands;
    }

-- a static event has no release
pub some-fixed : (sig all left : ℕ) (a w : LaneView) → PostsSome (entry 0 sig 0) all left a w → left ≡ 0 → PostsWhole (entry 0 sig 0) all a w
unfolding Drops
some-fixed sig all left a w some none = record {
  posts = some.posts;
  last = [];
  grows = subst (λ g. Grows g a w) (sym (append-nil some.posts)) some.grows;
  fits = subst (λ ms. PostsToAll (λ x. ring_of a.sys x) (entry 0 sig 0) ms some.posts) (all_sent all left some.sent some.split none) some.fits;
  drops = refl;
  hands = some.hands;
}

-- the same by the entry's token
pub kept-left : (made : HeldEntry) (h : Hold) (all left : ℕ) (a v w : LaneView) → made ≡ token.Pool h → EntryStands made v → PostsSome (entry_of made) all left a v → left ≡ 0 → w ≡ v
    → PostsCut (entry_of made) all a w
unfolding entry_of
kept-left made h all left a v w is stands some none same =
    let pooled : StandsHold h v = subst (λ x. EntryStands x v) is stands in
    let at : PostsSome (entry h.pool h.block h.name) all left a v = subst (λ x. PostsSome (entry_of x) all left a v) is some in
    rw is (some-kept (entry h.pool h.block h.name) all left a v w at none same pooled.0)

pub released-whole : (made : HeldEntry) (h : Hold) (all left : ℕ) (a v r w : LaneView) → made ≡ token.Pool h → PostsSome (entry_of made) all left a v → left ≡ 0 → Roomier v r
    → Released (entry h.pool h.block h.name) r w → PostsWhole (entry_of made) all a w
unfolding entry_of
released-whole made h all left a v r w is some none room rel =
    let at : PostsSome (entry h.pool h.block h.name) all left a v = subst (λ x. PostsSome (entry_of x) all left a v) is some in
    rw is (some-whole (entry h.pool h.block h.name) all left a v r w at none room rel)

pub fixed-whole : (made : HeldEntry) (sig all left : ℕ) (a w : LaneView) → made ≡ token.Static sig → PostsSome (entry_of made) all left a w → left ≡ 0 → PostsWhole (entry_of made) all a w
unfolding entry_of
fixed-whole made sig all left a w is some none =
    let at : PostsSome (entry 0 sig 0) all left a w = subst (λ x. PostsSome (entry_of x) all left a w) is some in
    rw is (some-fixed sig all left a w at none)

-- the next member is an object
pub next-object : (e : model.Entry) (all left to rest : ℕ) (a v r : LaneView) → PostsSome e all left a v → Roomier v r → members left ≡ to ∷ members rest → MembersAreObjects a.sys all
    → IsTrue (is_object r.sys to)
next-object e all left to rest a v r some room first objects =
    let split : members all ≡ some.sent ++ to ∷ members rest = some.split ∙ ap (λ x. some.sent ++ x) first in
    let whole : list_all (λ x. is_object a.sys x) (some.sent ++ to ∷ members rest) ≡ true = subst (λ ms. list_all (λ x. is_object a.sys x) ms ≡ true) split objects in
    rw (same_sys a v r e all left some room) (list_all-at (λ x. is_object a.sys x) some.sent to (members rest) whole)

-- The whole publication.

pub no_raise : (former : ℕ) (ms : List ℕ) → raising 0 former ms ≡ []
unfolding raising
no_raise former [] = refl
no_raise former (a ∷ ms) = refl

pub no_restore : (former : ℕ) (ms : List ℕ) → restoring 0 former ms ≡ []
unfolding restoring
no_restore former [] = refl
no_restore former (a ∷ ms) = refl

-- its beginning, as a source makes it
first-source : (ev : Event) (reserve : Option ℕ) (made : HeldEntry) (all : ℕ) (fixed : Bool) (a r v : LaneView) → Roomier a r → fixed ≡ is_static r.sys ev.sig
    → (first : Announced fixed ev reserve made all r v)
    → PublishesFirst (is_static a.sys ev.sig) (sizes_of a.sys) 0 ev.sig ev.pars reserve (entry_of made) 0 (members all) (first.head ++ (plain (item.Pub ev.sig first.number all) ∷ []))
unfolding PublishesFirst
first-source ev reserve made all fixed a r v room is_fixed first =
    let sys : r.sys ≡ a.sys = rw room.same refl in
    let here : MakesNew (is_static r.sys ev.sig) (sizes_of r.sys) ev.sig ev.pars reserve first.head (entry_of made) =
    subst (λ b. MakesNew b (sizes_of r.sys) ev.sig ev.pars reserve first.head (entry_of made)) is_fixed first.makes in
    let makes : MakesNew (is_static a.sys ev.sig) (sizes_of a.sys) ev.sig ev.pars reserve first.head (entry_of made) =
    subst (λ s. MakesNew (is_static s ev.sig) (sizes_of s) ev.sig ev.pars reserve first.head (entry_of made)) sys here in
    (first.head, first.number, all, makes, refl, ap (λ x. first.head ++ (plain (item.Pub ev.sig first.number all) ∷ x)) (sym (no_raise 0 (members all))))

last-source : (e : model.Entry) (ms : List ℕ) (last : List Told) → Drops e last → PublishesLast 0 e 0 ms last
unfolding PublishesLast
last-source e ms last drops = (last, drops, ap (λ x. x ++ last) (sym (no_restore 0 ms)))

pub publish-value : (ev : Event) (reserve : Option ℕ) (made : HeldEntry) (all n : ℕ) (fixed : Bool) (a r v w : LaneView) → Roomier a r → fixed ≡ is_static r.sys ev.sig
    → Announced fixed ev reserve made all r v → (n ≡ 1) → PostsWhole (entry_of made) all v w → CallAnswers a.sys 0 None (call.Publish ev.sig ev.pars reserve) (did.Value n) a w
unfolding Fits Publishes
publish-value ev reserve made all n fixed a r v w room is_fixed first one whole =
    let sys : v.sys ≡ a.sys = let here : r.sys ≡ a.sys = rw room.same refl in first.grows.sys ∙ here in
    let begin : List Told = first.head ++ (plain (item.Pub ev.sig first.number all) ∷ []) in
    let posts : PostsToAll (λ x. ring_of a.sys x) (entry_of made) (members all) whole.posts =
    subst (λ s. PostsToAll (λ x. ring_of s x) (entry_of made) (members all) whole.posts) sys whole.fits in
    record {
      answer = Granted;
      g = begin ++ (whole.posts ++ whole.last);
      said = ap (λ k. did.Value k) one;
      grows = grows-room (begin ++ (whole.posts ++ whole.last)) a r w room (grows-then begin (whole.posts ++ whole.last) r v w first.grows whole.grows);
      fits = (
        entry_of made,
        0,
        members all,
        begin,
        whole.posts,
        whole.last,
        first-source ev reserve made all fixed a r v room is_fixed first,
        posts,
        last-source (entry_of made) (members all) whole.last whole.drops,
        refl,
      );
      hands = λ is. whole.hands ∙ ap (λ x. without_entry (entry_of made) x) first.hands ∙ without-with (entry_of made) r.hands ∙ rw room.same refl;
    }

pub publish-assert : (ev : Event) (reserve : Option ℕ) (made : HeldEntry) (all code : ℕ) (fixed : Bool) (a r v w : LaneView) → Roomier a r → fixed ≡ is_static r.sys ev.sig
    → Announced fixed ev reserve made all r v → (code ≡ 1) → PostsUpToFull (entry_of made) all v w → CallAnswers a.sys 0 None (call.Publish ev.sig ev.pars reserve) (did.Assert code) a w
unfolding Fits Publishes
publish-assert ev reserve made all code fixed a r v w room is_fixed first one front =
    let sys : v.sys ≡ a.sys = let here : r.sys ≡ a.sys = rw room.same refl in first.grows.sys ∙ here in
    let begin : List Told = first.head ++ (plain (item.Pub ev.sig first.number all) ∷ []) in
    let posts : PostsUpTo (λ x. ring_of a.sys x) (entry_of made) (members all) front.g =
    subst (λ s. PostsUpTo (λ x. ring_of s x) (entry_of made) (members all) front.g) sys front.fits in
    record {
      answer = AtQueue;
      g = begin ++ front.g;
      said = ap (λ k. did.Assert k) one;
      grows = grows-room (begin ++ front.g) a r w room (grows-then begin front.g r v w first.grows front.grows);
      fits = (entry_of made, 0, members all, begin, front.g, first-source ev reserve made all fixed a r v room is_fixed first, posts, refl);
      hands = λ is. absurd (cc);
    }

pub publish-cut : (ev : Event) (reserve : Option ℕ) (made : HeldEntry) (all : ℕ) (fixed : Bool) (a r v w : LaneView) → Roomier a r → fixed ≡ is_static r.sys ev.sig
    → Announced fixed ev reserve made all r v → PostsCut (entry_of made) all v w → PublishCut ev reserve a w
unfolding Fits Publishes
publish-cut ev reserve made all fixed a r v w room is_fixed first cut =
    let sys : v.sys ≡ a.sys = let here : r.sys ≡ a.sys = rw room.same refl in first.grows.sys ∙ here in
    let begin : List Told = first.head ++ (plain (item.Pub ev.sig first.number all) ∷ []) in
    let end = could_drop (entry_of made) in
    let posts : PostsToAll (λ x. ring_of a.sys x) (entry_of made) (members all) (cut.g ++ cut.rest) =
    subst (λ s. PostsToAll (λ x. ring_of s x) (entry_of made) (members all) (cut.g ++ cut.rest)) sys cut.fits in
    record {
      answer = Granted;
      g = begin ++ cut.g;
      rest = cut.rest ++ end.0;
      grows = grows-room (begin ++ cut.g) a r w room (grows-then begin cut.g r v w first.grows cut.grows);
      fits = (
        entry_of made,
        0,
        members all,
        begin,
        cut.g ++ cut.rest,
        end.0,
        first-source ev reserve made all fixed a r v room is_fixed first,
        posts,
        last-source (entry_of made) (members all) end.0 end.1,
        append_assoc begin cut.g (cut.rest ++ end.0) ∙ ap (λ x. begin ++ x) (sym (append_assoc cut.g cut.rest end.0)),
      );
      some = missing cut.some;
    }
  where
    missing : (0 < (entry_of made).pool) ⊎ (cut.rest ≢ []) → cut.rest ++ (could_drop (entry_of made)).0 ≢ []
    missing (inl pooled) = some-back cut.rest (could_drop (entry_of made)).0 ((could_drop (entry_of made)).2 pooled)
    missing (inr some) = some-front cut.rest (could_drop (entry_of made)).0 some

pub publish-all : (ev : Event) (reserve : Option ℕ) (made : HeldEntry) (all : ℕ) (fixed : Bool) (a r v w : LaneView) → Roomier a r → fixed ≡ is_static r.sys ev.sig
    → Announced fixed ev reserve made all r v → (result : Result Did RoomFault) → PostsAll (entry_of made) all v w result → PublishesAll ev reserve a w result
publish-all ev reserve made all fixed a r v w room is first (Ok (did.Value n)) h = publish-value ev reserve made all n fixed a r v w room is first h.0 h.1
publish-all ev reserve made all fixed a r v w room is first (Ok (did.Assert code)) h = publish-assert ev reserve made all code fixed a r v w room is first h.0 h.1
publish-all ev reserve made all fixed a r v w room is first (Err fault) h = (publish-cut ev reserve made all fixed a r v w room is first h.0, h.1)

-- Publications that could be made at all.

could_static : (sizes : List ℕ) (rings : ℕ → ℕ) (sig : ℕ) (pars : List ℕ) (reserve : Option ℕ) → (g : List Told) × Publishes true sizes rings 0 sig pars reserve Granted g × (g ≢ [])
unfolding Publishes PublishesFirst PublishesLast PostsToAll MakesNew Drops raising restoring
could_static sizes rings sig pars reserve =
    let first : List Told = plain (item.Pub sig 0 0) ∷ [] in
    (first ++ ([] ++ []), (entry 0 sig 0, 0, [], first, [], [], ([], 0, 0, (refl, refl), sym (members-none 0 refl), refl), refl, ([], refl, refl), refl), λ none. absurd (cc))

could_refuse : (sizes : List ℕ) (rings : ℕ → ℕ) (sig : ℕ) (pars : List ℕ) (p : ℕ) → first_pool sizes (length pars) ≡ Some p → (reserve : Option ℕ)
    → (answer : Answer) × ((g : List Told) × Publishes false sizes rings 0 sig pars reserve answer g × (g ≢ []))
unfolding Publishes NoBlockFor
could_refuse sizes rings sig pars p pool None = (AtPool, (plain (item.NoBlock p 0 0) ∷ [], (p, 0, 0, refl, pool, refl), λ none. absurd (cc)))
could_refuse sizes rings sig pars p pool (Some k) = (Refused, (plain (item.Short p 0 0 k) ∷ [], (p, 0, 0, refl, pool, refl), λ none. absurd (cc)))

could_publish : (sys : System) (ev : Event) (reserve : Option ℕ) → IsSound sys → IsEvent sys ev
    → (answer : Answer) × ((g : List Told) × Publishes (is_static sys ev.sig) (sizes_of sys) (λ x. ring_of sys x) 0 ev.sig ev.pars reserve answer g × (g ≢ []))
could_publish sys ev reserve sound is = go (is_static sys ev.sig) refl
  where
    go : (b : Bool) → is_static sys ev.sig ≡ b → (answer : Answer) × ((g : List Told) × Publishes b (sizes_of sys) (λ x. ring_of sys x) 0 ev.sig ev.pars reserve answer g × (g ≢ []))
    go true h = (Granted, could_static (sizes_of sys) (λ x. ring_of sys x) ev.sig ev.pars reserve)
    go false h =
        let pool = pool_of_sound sys ev sound is h in
        could_refuse (sizes_of sys) (λ x. ring_of sys x) ev.sig ev.pars pool.number pool.first reserve

-- `room` refused at once
pub publish-none : (ev : Event) (reserve : Option ℕ) (a w : LaneView) → IsSound a.sys → IsEvent a.sys ev → w ≡ a → PublishCut ev reserve a w
unfolding Fits
publish-none ev reserve a w sound is same =
    let could = could_publish a.sys ev reserve sound is in
    record { answer = could.0; g = []; rest = could.1.0; grows = subst (λ x. Grows [] a x) (sym same) (gains-none a); fits = could.1.1; some = could.1.2 }

-- the entry of a publication stands on after a post
pub after-post : (e : HeldEntry) (to n : ℕ) (v r w : LaneView) → EntryStands e v → Roomier v r → PostsAgain (entry_of e) to (did.Value n) r w → EntryStands e w
after-post e to n v r w stands room post =
    let sys : r.sys ≡ v.sys = rw room.same refl in
    let hands : r.hands ≡ v.hands = rw room.same refl in
    stands-still e v w (post.hands refl ∙ hands) (post.grows.sys ∙ sys) stands
