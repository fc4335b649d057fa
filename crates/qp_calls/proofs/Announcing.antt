-- Publications as the parts that they are made of.
use Rattle.std.proofs.Common.{◌≡◌, ℕ, max, Bool, true, false, List, [], ◌∷◌, ◌++◌, map, refl, sym, ◌∙◌, ap, subst, arith, append_assoc, Option, Some, None, ◌⊎◌, inl, inr}
use Rattle.qp_model.specs.declared.bodies.Entry as model
use Rattle.qp_model.specs.declared.bodies.Body.TheVariants as item
use Rattle.qp_model.specs.Told.{Told, Event, plain, raised, for_object}
use Rattle.qp_model.specs.Calls as call
use Rattle.qp_model.specs.Calls.{Answer, Granted, Refused, Flushed, AtQueue, AtPool, AtTimer, AtTicks, AtFront}
use Rattle.qp_model.specs.Parts.{is_static, members, members_below, sizes_of}
use Rattle.qp_model.specs.Sites.{ring_of}
use Rattle.qp_model.specs.Shapes.{Fits, MakesAgain, MakesNew, MakesBlock, NoBlockFor, Posts, PostsOne, Publishes, PublishesFirst, PublishesLast, raising, restoring}
use Rattle.qp_calls.specs.declared.did.Did.{Did}
use Rattle.qp_calls.specs.declared.did.Did.TheVariants as did
use Rattle.qp_calls.specs.declared.publication.Publication.{Publication}
use Rattle.qp_calls.specs.declared.tokens.HeldEntry.{HeldEntry}
use Rattle.qp_calls.specs.Tokens.{with_entry, without_entry, hands_after, hands_by}
use Rattle.qp_calls.specs.LaneView.{LaneView, Grows, AddsTold, Roomier, ceiling_in}
use Rattle.qp_calls.specs.Clauses.{ReadsSubscribers, EntryStands, entry_of}
use Rattle.qp_calls.specs.Entries.{Again, Made, PostsEntry, Released, Unmade, did_of}
use Rattle.qp_calls.specs.Groups.{CallAnswers}
use Rattle.qp_calls.specs.Publishing.{Announced, MembersAreObjects, BeginsGoing, EndsGoing, GoesOnAssert, GoesOnGoing, Marks, PostsAgain}
use Rattle.qp_calls.proofs.Growing.{gains-none, grows-room, grows-then, stands-still}
use Rattle.qp_calls.proofs.Answering.{with_head, without-with}
use Rattle.qp_calls.proofs.NoteLemmas.{ceiling-append}

pub_hands : (sig n set : ℕ) (a v : LaneView) → Grows (plain (item.Pub sig n set) ∷ []) a v → v.hands ≡ a.hands
unfolding hands_after hands_by
pub_hands sig n set a v g = g.hands

pub announced : (fixed : Bool) (ev : Event) (reserve : Option ℕ) (made : HeldEntry) (set : ℕ) (a v w : LaneView) → Made fixed ev reserve made a v → ReadsSubscribers ev.sig v w set → Announced fixed ev reserve made set a w
announced fixed ev reserve made set a v w first reads =
    let number = reads.0 in
    let adds = reads.1 in
    let hands : w.hands ≡ v.hands = pub_hands ev.sig number set v w adds.grows in
    record {
      head = first.head;
      number = number;
      grows = grows-then first.head (plain (item.Pub ev.sig number set) ∷ []) a v w first.grows adds.grows;
      makes = first.makes;
      stands = stands-still made v w hands adds.grows.sys first.stands;
      hands = hands ∙ first.hands;
      objects = reads.2;
      spare = omega (arith, first.spare, adds.spare);
    }

-- The ceiling.

members-zero : members 0 ≡ []
unfolding members members_below
members-zero = refl

pub members-none : (set : ℕ) → set ≡ 0 → members set ≡ []
members-none set h = ap members h ∙ members-zero

lock_hands : (c former : ℕ) (a v : LaneView) → Grows (raised c former ∷ []) a v → v.hands ≡ a.hands
unfolding hands_after hands_by
lock_hands c former a v g = g.hands

unlock_hands : (c : ℕ) (a v : LaneView) → Grows (plain (item.Unlock c) ∷ []) a v → v.hands ≡ a.hands
unfolding hands_after hands_by
unlock_hands c a v g = g.hands

pub raise-none : (former set : ℕ) (a : LaneView) → set ≡ 0 → Marks (raising 1 former (members set)) a a
unfolding raising
raise-none former set a h = rw (members-none set h) (record { grows = gains-none a; hands = refl; spare = omega arith })

pub lower-none : (former set : ℕ) (a : LaneView) → set ≡ 0 → Marks (restoring 1 former (members set)) a a
unfolding restoring
lower-none former set a h = rw (members-none set h) (record { grows = gains-none a; hands = refl; spare = omega arith })

pub raise-some : (former set top rest : ℕ) (a q w : LaneView) → members set ≡ top ∷ members rest → q ≡ a → former ≡ ceiling_in 0 a.told
    → AddsTold (raised (max former top) (ceiling_in 0 q.told) ∷ []) q w → Marks (raising 1 former (members set)) a w
unfolding raising
raise-some former set top rest a q w is same ceiling adds =
    let there : AddsTold (raised (max former top) (ceiling_in 0 a.told) ∷ []) a w = subst (λ x. AddsTold (raised (max former top) (ceiling_in 0 x.told) ∷ []) x w) same adds in
    let here : AddsTold (raised (max former top) former ∷ []) a w = subst (λ c. AddsTold (raised (max former top) c ∷ []) a w) (sym ceiling) there in
    rw is (record { grows = here.grows; hands = lock_hands (max former top) former a w here.grows; spare = omega (arith, here.spare) })

pub lower-some : (former set top : ℕ) (rest : List ℕ) (a q w : LaneView) → members set ≡ top ∷ rest → q ≡ a → AddsTold (plain (item.Unlock former) ∷ []) q w
    → Marks (restoring 1 former (members set)) a w
unfolding restoring
lower-some former set top rest a q w is same adds =
    let here : AddsTold (plain (item.Unlock former) ∷ []) a w = subst (λ x. AddsTold (plain (item.Unlock former) ∷ []) x w) same adds in
    rw is (record { grows = here.grows; hands = unlock_hands former a w here.grows; spare = omega (arith, here.spare) })

-- an entry is made at no other ceiling
ceiling-made : (fixed : Bool) (sizes : List ℕ) (sig : ℕ) (pars : List ℕ) (reserve : Option ℕ) (head : List Told) (e : model.Entry) (o c n set : ℕ)
    → MakesNew fixed sizes sig pars reserve head e → ceiling_in c (map (for_object o) (head ++ (plain (item.Pub sig n set) ∷ []))) ≡ c
unfolding MakesNew MakesBlock ceiling_in
ceiling-made true sizes sig pars reserve head e o c n set h = rw h.0 refl
ceiling-made false sizes sig pars reserve head e o c n set h = rw h.6 refl

pub announced-ceiling : (fixed : Bool) (ev : Event) (reserve : Option ℕ) (made : HeldEntry) (set : ℕ) (a r w : LaneView)
    → Roomier a r → Announced fixed ev reserve made set r w → ceiling_in 0 w.told ≡ ceiling_in 0 a.told
announced-ceiling fixed ev reserve made set a r w room h =
    let told : r.told ≡ a.told = rw room.same refl in
    ap (λ ts. ceiling_in 0 ts) h.grows.told
    ∙ ceiling-append 0 r.told (map (for_object r.by) (h.head ++ (plain (item.Pub ev.sig h.number set) ∷ [])))
    ∙ ceiling-made fixed (sizes_of r.sys) ev.sig ev.pars reserve h.head (entry_of made) r.by (ceiling_in 0 r.told) h.number set h.makes
    ∙ ap (λ ts. ceiling_in 0 ts) told

-- One post.

pub posts-again : (e : model.Entry) (to : ℕ) (made : HeldEntry) (d : Did) (r v w : LaneView) → Again e made r v → PostsEntry to None (entry_of made) d v w → PostsAgain e to d r w
unfolding PostsOne
posts-again e to made d r v w first post = record {
  answer = post.answer;
  g = first.head ++ post.g;
  said = post.said;
  grows = grows-then first.head post.g r v w first.grows post.grows;
  fits = (
    first.head,
    entry_of made,
    first.again,
    with_head (ring_of v.sys to) (ring_of r.sys to) to None first.head (entry_of made) post.answer post.g (ap (λ s. ring_of s to) first.grows.sys) post.fits,
  );
  hands = λ is. post.hands is ∙ ap (λ x. without_entry (entry_of made) x) first.hands ∙ without-with (entry_of made) r.hands;
}

no_other : (ring to : ℕ) (head : List Told) (e : model.Entry) (answer : Answer) (g : List Told) → Posts ring to None head e answer g → (answer ≡ Granted) ⊎ (answer ≡ AtQueue)
unfolding Posts
no_other ring to head e Granted g h = inl refl
no_other ring to head e AtQueue g h = inr refl
no_other ring to head e _ g h = absurd h

pub one-granted : (ring to n : ℕ) (e : model.Entry) (answer : Answer) (g : List Told) → did.Value n ≡ did_of answer → PostsOne ring e to answer g → PostsOne ring e to Granted g
unfolding PostsOne
one-granted ring to n e answer g said h = go (no_other ring to h.0 h.1 answer g h.3)
  where
    go : (answer ≡ Granted) ⊎ (answer ≡ AtQueue) → (head : List Told) × (again : model.Entry) × MakesAgain e head again × Posts ring to None head again Granted g
    go (inl is) = (h.0, h.1, h.2, subst (λ a. Posts ring to None h.0 h.1 a g) is h.3)
    go (inr is) = let both : did.Value n ≡ did_of AtQueue = said ∙ ap did_of is in absurd (cc)

pub one-asserted : (ring to code : ℕ) (e : model.Entry) (answer : Answer) (g : List Told) → did.Assert code ≡ did_of answer → PostsOne ring e to answer g
    → (code ≡ 1) × PostsOne ring e to AtQueue g
unfolding PostsOne
one-asserted ring to code e answer g said h = go (no_other ring to h.0 h.1 answer g h.3)
  where
    go : (answer ≡ Granted) ⊎ (answer ≡ AtQueue) → (code ≡ 1) × ((head : List Told) × (again : model.Entry) × MakesAgain e head again × Posts ring to None head again AtQueue g)
    go (inl is) = let both : did.Assert code ≡ did_of Granted = said ∙ ap did_of is in absurd (cc)
    go (inr is) = let both : did.Assert code ≡ did_of AtQueue = said ∙ ap did_of is in (cc, (h.0, h.1, h.2, subst (λ a. Posts ring to None h.0 h.1 a g) is h.3))

-- A handler's publication.

unmade-publishes : (fixed : Bool) (sizes : List ℕ) (rings : ℕ → ℕ) (o sig : ℕ) (pars : List ℕ) (reserve : Option ℕ) (answer : Answer) (g : List Told)
    → NoBlockFor fixed sizes pars reserve answer g → Publishes fixed sizes rings o sig pars reserve answer g
unfolding Publishes NoBlockFor
unmade-publishes fixed sizes rings o sig pars None Granted g h = absurd h
unmade-publishes fixed sizes rings o sig pars (Some k) Granted g h = absurd h
unmade-publishes fixed sizes rings o sig pars None AtQueue g h = absurd h
unmade-publishes fixed sizes rings o sig pars (Some k) AtQueue g h = absurd h
unmade-publishes fixed sizes rings o sig pars reserve Refused g h = h
unmade-publishes fixed sizes rings o sig pars reserve (Flushed n) g h = h
unmade-publishes fixed sizes rings o sig pars reserve AtPool g h = h
unmade-publishes fixed sizes rings o sig pars reserve AtTimer g h = h
unmade-publishes fixed sizes rings o sig pars reserve AtTicks g h = h
unmade-publishes fixed sizes rings o sig pars reserve AtFront g h = h

none-here : (ev : Event) (reserve : Option ℕ) (d : Did) (fixed : Bool) (a r v : LaneView) → Roomier a r → fixed ≡ is_static r.sys ev.sig → (h : Unmade fixed ev reserve d r v)
    → NoBlockFor (is_static a.sys ev.sig) (sizes_of a.sys) ev.pars reserve h.answer h.g
none-here ev reserve d fixed a r v room is h =
    let sys : r.sys ≡ a.sys = rw room.same refl in
    let none : NoBlockFor (is_static r.sys ev.sig) (sizes_of r.sys) ev.pars reserve h.answer h.g =
    subst (λ b. NoBlockFor b (sizes_of r.sys) ev.pars reserve h.answer h.g) is h.none in
    subst (λ s. NoBlockFor (is_static s ev.sig) (sizes_of s) ev.pars reserve h.answer h.g) sys none

-- no block, after room
pub unmade-room : (ev : Event) (reserve : Option ℕ) (d : Did) (fixed : Bool) (a r v : LaneView) → Roomier a r → fixed ≡ is_static r.sys ev.sig → Unmade fixed ev reserve d r v
    → Unmade (is_static a.sys ev.sig) ev reserve d a v
unmade-room ev reserve d fixed a r v room is h = record {
  answer = h.answer;
  g = h.g;
  said = h.said;
  grows = grows-room h.g a r v room h.grows;
  none = none-here ev reserve d fixed a r v room is h;
  hands = h.hands ∙ rw room.same refl;
}

-- no block: the call's own answer, for any object
pub unmade-publish : (o : ℕ) (ev : Event) (reserve : Option ℕ) (d : Did) (fixed : Bool) (a r v : LaneView) → Roomier a r → fixed ≡ is_static r.sys ev.sig → Unmade fixed ev reserve d r v
    → CallAnswers a.sys o None (call.Publish ev.sig ev.pars reserve) d a v
unfolding Fits
unmade-publish o ev reserve d fixed a r v room is h = record {
  answer = h.answer;
  g = h.g;
  said = h.said;
  grows = grows-room h.g a r v room h.grows;
  fits = unmade-publishes (is_static a.sys ev.sig) (sizes_of a.sys) (λ x. ring_of a.sys x) o ev.sig ev.pars reserve h.answer h.g (none-here ev reserve d fixed a r v room is h);
  hands = λ v_is. h.hands ∙ rw room.same refl;
}

pub begins-going : (ev : Event) (reserve : Option ℕ) (made : HeldEntry) (all former : ℕ) (fixed : Bool) (p : Publication) (a r v w : LaneView) → Roomier a r → fixed ≡ is_static r.sys ev.sig
    → Announced fixed ev reserve made all r v → Marks (raising 1 former (members all)) v w → p ≡ record { entry = made; all = all; left = all; former = former }
    → BeginsGoing ev reserve former p a w
unfolding PublishesFirst
begins-going ev reserve made all former fixed p a r v w room is_fixed first marks is =
    let sys : r.sys ≡ a.sys = rw room.same refl in
    let hands : r.hands ≡ a.hands = rw room.same refl in
    let one : List Told = first.head ++ (plain (item.Pub ev.sig first.number all) ∷ []) in
    let up : List Told = raising 1 former (members all) in
    let flat : one ++ up ≡ first.head ++ (plain (item.Pub ev.sig first.number all) ∷ up) = append_assoc first.head (plain (item.Pub ev.sig first.number all) ∷ []) up in
    let grown : Grows (one ++ up) a w = grows-room (one ++ up) a r w room (grows-then one up r v w first.grows marks.grows) in
    let made_here : MakesNew (is_static r.sys ev.sig) (sizes_of r.sys) ev.sig ev.pars reserve first.head (entry_of made) =
    subst (λ b. MakesNew b (sizes_of r.sys) ev.sig ev.pars reserve first.head (entry_of made)) is_fixed first.makes in
    let makes : MakesNew (is_static a.sys ev.sig) (sizes_of a.sys) ev.sig ev.pars reserve first.head (entry_of made) =
    subst (λ s. MakesNew (is_static s ev.sig) (sizes_of s) ev.sig ev.pars reserve first.head (entry_of made)) sys made_here in
    let here : BeginsGoing ev reserve former (record { entry = made; all = all; left = all; former = former }) a w = record {
      g = first.head ++ (plain (item.Pub ev.sig first.number all) ∷ up);
      grows = subst (λ g. Grows g a w) flat grown;
      fits = (first.head, first.number, all, makes, refl, refl);
      left = refl;
      former = refl;
      objects = subst (λ s. MembersAreObjects s all) (sym marks.grows.sys) first.objects;
      stands = stands-still made v w marks.hands marks.grows.sys first.stands;
      hands = marks.hands ∙ first.hands ∙ ap (λ x. with_entry (entry_of made) x) hands;
    } in
    subst (λ x. BeginsGoing ev reserve former x a w) (sym is) here

pub goes-on : (p : Publication) (to left n : ℕ) (a r w : LaneView) → Roomier a r → members p.left ≡ to ∷ members left → EntryStands p.entry a → PostsAgain (entry_of p.entry) to (did.Value n) r w
    → GoesOnGoing p (record p { left = left }) a w
goes-on p to left n a r w room first stands post =
    let sys : r.sys ≡ a.sys = rw room.same refl in
    let hands : w.hands ≡ a.hands = post.hands refl ∙ rw room.same refl in
    let grown : Grows post.g a w = grows-room post.g a r w room post.grows in
    record {
      to = to;
      others = members left;
      first = first;
      rest = refl;
      same = refl;
      g = post.g;
      grows = grown;
      fits = subst (λ s. PostsOne (ring_of s to) (entry_of p.entry) to Granted post.g) sys (one-granted (ring_of r.sys to) to n (entry_of p.entry) post.answer post.g post.said post.fits);
      stands = stands-still p.entry a w hands grown.sys stands;
      hands = hands;
    }

pub goes-on-assert : (p : Publication) (to left code : ℕ) (a r w : LaneView) → Roomier a r → members p.left ≡ to ∷ members left → PostsAgain (entry_of p.entry) to (did.Assert code) r w
    → GoesOnAssert p (did.Assert code) a w
goes-on-assert p to left code a r w room first post =
    let sys : r.sys ≡ a.sys = rw room.same refl in
    let end = one-asserted (ring_of r.sys to) to code (entry_of p.entry) post.answer post.g post.said post.fits in
    let one : code ≡ 1 = end.0 in
    record {
      to = to;
      others = members left;
      first = first;
      said = ap (λ c. did.Assert c) one;
      g = post.g;
      grows = grows-room post.g a r w room post.grows;
      fits = subst (λ s. PostsOne (ring_of s to) (entry_of p.entry) to AtQueue post.g) sys end.1;
    }

pub ends-going : (p : Publication) (a r v w : LaneView) → Roomier a r → Marks (restoring 1 p.former (members p.all)) r v → Released (entry_of p.entry) v w → EndsGoing p (did.Value 1) a w
unfolding PublishesLast
ends-going p a r v w room marks rel =
    let down : List Told = restoring 1 p.former (members p.all) in
    record {
      said = refl;
      g = down ++ rel.g;
      grows = grows-room (down ++ rel.g) a r w room (grows-then down rel.g r v w marks.grows rel.grows);
      fits = (rel.g, rel.drops, refl);
      hands = rel.hands ∙ ap (λ x. without_entry (entry_of p.entry) x) (marks.hands ∙ rw room.same refl);
    }
