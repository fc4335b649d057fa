-- Recalls as the parts that they are made of.
use Rattle.std.proofs.Common.{◌≡◌, ℕ, Bool, true, false, List, [], ◌∷◌, ◌++◌, drop, slice_get, refl, sym, ◌∙◌, ap, subst, arith, Some, None}
use Rattle.qp_model.specs.declared.bodies.Entry as model
use Rattle.qp_model.specs.declared.bodies.Body.TheVariants as item
use Rattle.qp_model.specs.Told.{Told, plain}
use Rattle.qp_model.specs.Calls as call
use Rattle.qp_model.specs.Calls.{Answer, Granted, Refused, AtFront}
use Rattle.qp_model.specs.Deferral.{keep, kept_after, KeepsDeferred}
use Rattle.qp_model.specs.Line.{same_entry}
use Rattle.qp_model.specs.Shapes.{Fits, Recalls, MakesAgain, PostsFront}
use Rattle.qp_model.proofs.DeferralLemmas.{kept-append, kept-calm}
use Rattle.qp_model.proofs.FitsLemmas.{calm-drops}
use Rattle.circular_buffer.specs.Buffer.{Buffer}
use Rattle.qp_calls.specs.declared.deferred.Deferred.{Deferred}
use Rattle.qp_calls.specs.declared.did.Did.{Did}
use Rattle.qp_calls.specs.declared.did.Did.TheVariants as did
use Rattle.qp_calls.specs.declared.tokens.HeldEntry.{HeldEntry}
use Rattle.qp_calls.specs.declared.tokens.HeldEntry.TheVariants as token
use Rattle.qp_calls.specs.Tokens.{Token, Held, with_entry, without_entry, hands_after, hands_by}
use Rattle.qp_calls.specs.LaneView.{LaneView, Grows, AddsTold, Roomier}
use Rattle.qp_calls.specs.Clauses.{EntryStands, entry_of}
use Rattle.qp_calls.specs.Entries.{Again, PostsFirst, Released, did_of, is_value}
use Rattle.qp_calls.specs.Deferring.{AnswersKept, FlushesEntry, RecallsOne, StandAll, kept_in, tokens_in}
use Rattle.qp_calls.proofs.HandLemmas.{stands-with}
use Rattle.qp_calls.proofs.Growing.{grows-room, grows-then, stands-still}
use Rattle.qp_calls.proofs.CountLemmas.{count-with, count-without, stand-front, stand-rest, stand-same, stand-still, stand-tail, stands-in}
use Rattle.qp_calls.proofs.Answering.{with_front_head, without-with}
use Rattle.qp_calls.proofs.Keeping.{kept-again}
use Rattle.qp_model.proofs.LineLemmas.{same_number}

-- the records of a last-in post leave the list
kept-posted : (room : ℕ) (kept : List model.Entry) (o : ℕ) (head g : List Told) (e k : model.Entry) (answer : Answer)
    → MakesAgain k head e → PostsFront o head e answer g → kept_after room kept g ≡ Some kept
unfolding PostsFront kept_after keep
kept-posted room kept o head g e k Granted again h = rw h.3 (kept-append room kept kept head _ (kept-again room kept k e head again))
kept-posted room kept o head g e k AtFront again h = rw h.3 (kept-append room kept kept head _ (kept-again room kept k e head again))
kept-posted room kept o head g e k _ again h = absurd h

-- what a value or an assertion says of a last-in post
granted : (answer : Answer) (n o : ℕ) (e : model.Entry) (g : List Told) → did.Value n ≡ did_of answer → PostsFront o [] e answer g → answer ≡ Granted
unfolding PostsFront
granted Granted n o e g said h = refl
granted AtFront n o e g said h = absurd (cc)
granted _ n o e g said h = absurd h

asserted : (answer : Answer) (code o : ℕ) (e : model.Entry) (g : List Told) → did.Assert code ≡ did_of answer → PostsFront o [] e answer g → answer ≡ AtFront
unfolding PostsFront
asserted AtFront code o e g said h = refl
asserted Granted code o e g said h = absurd (cc)
asserted _ code o e g said h = absurd h

note_hands : (k : model.Entry) (a v : LaneView) → Grows (plain (item.Recall k) ∷ []) a v → v.hands ≡ a.hands
unfolding hands_after hands_by
note_hands k a v g = g.hands

pub recalled-value : (k : HeldEntry) (made : HeldEntry) (n : ℕ) (a v x y w : LaneView)
    → AddsTold (plain (item.Recall (entry_of k)) ∷ []) a v → Again (entry_of k) made v x → PostsFirst (entry_of made) (did.Value n) x y → Released (entry_of k) y w
    → RecallsOne (entry_of k) (did.Value n) a w
unfolding Recalls
recalled-value k made n a v x y w note again post rel =
    let one : List Told = again.head ++ post.g in
    let is : post.answer ≡ Granted = granted post.answer n x.by (entry_of made) post.g post.said post.fits in
    let by : x.by ≡ a.by = again.grows.by ∙ note.grows.by in
    let fits : PostsFront a.by again.head (entry_of made) Granted one =
    subst (λ z. PostsFront a.by again.head (entry_of made) z one) is (with_front_head a.by x.by again.head (entry_of made) post.answer post.g by post.fits) in
    let grown : Grows one v y = grows-then again.head post.g v x y again.grows post.grows in
    let hands : y.hands ≡ a.hands =
    post.hands refl ∙ ap (λ z. without_entry (entry_of made) z) again.hands ∙ without-with (entry_of made) v.hands ∙ note_hands (entry_of k) a v note.grows in
    record {
      answer = Granted;
      g = one ++ rel.g;
      said = post.said ∙ ap did_of is;
      grows = grows-then (plain (item.Recall (entry_of k)) ∷ []) (one ++ rel.g) a v w note.grows (grows-then one rel.g v y w grown rel.grows);
      fits = (entry_of k, entry_of made, again.head, one, rel.g, again.again, fits, rel.drops, refl);
      calm = λ room kept.
          kept-append room kept kept one rel.g (kept-posted room kept a.by again.head one (entry_of made) (entry_of k) Granted again.again fits)
          ∙ kept-calm room kept rel.g (calm-drops (entry_of k) rel.g rel.drops);
      hands = λ v_is. rel.hands ∙ ap (λ z. without_entry (entry_of k) z) hands;
      left = λ no. absurd (cc);
    }

pub recalled-assert : (k : HeldEntry) (made : HeldEntry) (code : ℕ) (a v x y w : LaneView)
    → AddsTold (plain (item.Recall (entry_of k)) ∷ []) a v → Again (entry_of k) made v x → PostsFirst (entry_of made) (did.Assert code) x y → w ≡ y
    → RecallsOne (entry_of k) (did.Assert code) a w
unfolding Recalls
recalled-assert k made code a v x y w note again post left =
    let one : List Told = again.head ++ post.g in
    let is : post.answer ≡ AtFront = asserted post.answer code x.by (entry_of made) post.g post.said post.fits in
    let by : x.by ≡ a.by = again.grows.by ∙ note.grows.by in
    let fits : PostsFront a.by again.head (entry_of made) AtFront one =
    subst (λ z. PostsFront a.by again.head (entry_of made) z one) is (with_front_head a.by x.by again.head (entry_of made) post.answer post.g by post.fits) in
    let grown : Grows one v y = grows-then again.head post.g v x y again.grows post.grows in
    let hands : w.hands ≡ with_entry (entry_of made) a.hands =
    rw left (post.left refl ∙ again.hands ∙ ap (λ z. with_entry (entry_of made) z) (note_hands (entry_of k) a v note.grows)) in
    record {
      answer = AtFront;
      g = one;
      said = post.said ∙ ap did_of is;
      grows = subst (λ z. Grows (plain (item.Recall (entry_of k)) ∷ one) a z) (sym left) (grows-then (plain (item.Recall (entry_of k)) ∷ []) one a v y note.grows grown);
      fits = (entry_of k, entry_of made, again.head, one, again.again, fits, refl);
      calm = λ room kept. kept-posted room kept a.by again.head one (entry_of made) (entry_of k) AtFront again.again fits;
      hands = λ v_is. absurd (cc);
      left = λ no t. let more = count-with t (entry_of made) a.hands in rw hands (omega (arith, more));
    }

-- an entry that stood still does where an entry came and went, or came alone
pub recalled-stands : (k : HeldEntry) (made : HeldEntry) (n : ℕ) (a v x y : LaneView)
    → AddsTold (plain (item.Recall (entry_of k)) ∷ []) a v → Again (entry_of k) made v x → PostsFirst (entry_of made) (did.Value n) x y → EntryStands k a → EntryStands k y
recalled-stands k made n a v x y note again post h =
    stands-still k a y
    (post.hands refl ∙ ap (λ z. without_entry (entry_of made) z) again.hands ∙ without-with (entry_of made) v.hands ∙ note_hands (entry_of k) a v note.grows)
    (post.grows.sys ∙ again.grows.sys ∙ note.grows.sys) h

-- the first of a list
pub front-is : {X : Type 0} (xs : List X) (x : X) → Some x ≡ slice_get xs 0 → xs ≡ x ∷ drop 1 xs
front-is [] x h = absurd (cc)
front-is (y ∷ ys) x h = let same : x ≡ y = cc in rw same refl

pub none-is : {X : Type 0} (xs : List X) → None ≡ slice_get xs 0 → xs ≡ []
none-is [] h = refl
none-is (y ∷ ys) h = absurd (cc)

pub entry-same : (e : model.Entry) → same_entry e e ≡ true
entry-same e = rw (same_number e.pool, same_number e.block, same_number e.name) refl

-- the oldest entry of the list is recalled
pub recall-kept : (k : HeldEntry) (kept more : Deferred) (d : Did) (a r q w : LaneView) → Roomier a r → q ≡ r → RecallsOne (entry_of k) d q w
    → kept.entries.items ≡ k ∷ more.entries.items → more.entries.capacity ≡ kept.entries.capacity → StandAll kept.entries.items a → AnswersKept None call.Recall d kept more a w
unfolding Fits KeepsDeferred kept_after keep
recall-kept k kept more d a r q w room same one items cap stand =
    let note : Told = plain (item.Recall (entry_of k)) in
    let by : q.by ≡ a.by = rw (same, room.same) refl in
    let sys : q.sys ≡ a.sys = rw (same, room.same) refl in
    let hands : q.hands ≡ a.hands = rw (same, room.same) refl in
    let grown : Grows (note ∷ one.g) a w = grows-room (note ∷ one.g) a r w room (subst (λ x. Grows (note ∷ one.g) x w) same one.grows) in
    let listed : kept_in kept ≡ entry_of k ∷ kept_in more = rw items refl in
    let all : StandAll (k ∷ more.entries.items) a = subst (λ xs. StandAll xs a) items stand in
    record {
      answer = one.answer;
      g = note ∷ one.g;
      said = one.said;
      grows = grown;
      fits = subst (λ o. Recalls o one.answer (note ∷ one.g)) by one.fits;
      room = cap;
      keeps = rw (listed, entry-same (entry_of k)) (one.calm kept.entries.capacity (kept_in more));
      hands = λ is t.
          let less = count-without t (entry_of k) a.hands (stands-in k a (stand-front k more.entries.items a all)) in
          let front = count-with t (entry_of k) (kept_in_tokens more) in
          rw (one.hands is, hands, listed) (omega (arith, less, front));
      stand = go (is_value d) refl all grown.sys;
    }
  where
    kept_in_tokens : Deferred → List Token
    kept_in_tokens list = tokens_in (kept_in list)

    go : (b : Bool) → is_value d ≡ b → StandAll (k ∷ more.entries.items) a → w.sys ≡ a.sys → StandAll more.entries.items w
    go true is all sys = stand-rest k more.entries.items a w all (one.hands is ∙ ap (λ z. without_entry (entry_of k) z) (rw (same, room.same) refl)) sys
    go false is all sys =
        stand-still more.entries.items a w (stand-tail k more.entries.items a all) (λ t. let le = one.left is t in let h : q.hands ≡ a.hands = rw (same, room.same) refl in rw h at le) sys

no_recall_hands : (v w : LaneView) → Grows (plain item.NoRecall ∷ []) v w → w.hands ≡ v.hands
unfolding hands_after hands_by
no_recall_hands v w g = g.hands

-- an empty list
pub recall-none : (kept more : Deferred) (a r q w : LaneView) → Roomier a r → q ≡ r → AddsTold (plain item.NoRecall ∷ []) q w → kept.entries.items ≡ [] → more.entries.items ≡ []
    → more.entries.capacity ≡ kept.entries.capacity → StandAll kept.entries.items a → AnswersKept None call.Recall (did.Value 0) kept more a w
unfolding Fits Recalls KeepsDeferred kept_after keep
recall-none kept more a r q w room same one items none cap stand =
    let grown : Grows (plain item.NoRecall ∷ []) a w = grows-room (plain item.NoRecall ∷ []) a r w room (subst (λ x. Grows (plain item.NoRecall ∷ []) x w) same one.grows) in
    let hands : w.hands ≡ a.hands = no_recall_hands a w grown in
    record {
      answer = Refused;
      g = plain item.NoRecall ∷ [];
      said = refl;
      grows = grown;
      fits = refl;
      room = cap;
      keeps = rw (items, none) refl;
      hands = λ is t. rw (hands, items, none) refl;
      stand = rw none (stand-same [] a w (subst (λ xs. StandAll xs a) items stand) hands grown.sys);
    }

-- what is left of a list whose first entry was taken
pub popped : (kept more : Buffer HeldEntry) (k : HeldEntry) → Some k ≡ slice_get kept.items 0 → more ≡ record { items = drop 1 kept.items; capacity = kept.capacity } → kept.items ≡ k ∷ more.items
popped kept more k first is = rw is (front-is kept.items k first)

pub popped-none : (kept more : Buffer HeldEntry) → more ≡ record { items = drop 1 kept.items; capacity = kept.capacity } → kept.items ≡ [] → more.items ≡ []
popped-none kept more is none = rw (is, none) refl

pub popped-cap : (kept more : Buffer HeldEntry) → more ≡ record { items = drop 1 kept.items; capacity = kept.capacity } → more.capacity ≡ kept.capacity
popped-cap kept more is = rw is refl

-- the first entry may be handed in
pub front-stands_here : (items : List HeldEntry) (k : HeldEntry) (a r q : LaneView) → Roomier a r → q ≡ r → Some k ≡ slice_get items 0 → StandAll items a → EntryStands k q
front-stands_here items k a r q room same first stand =
    let all : StandAll (k ∷ drop 1 items) a = subst (λ xs. StandAll xs a) (front-is items k first) stand in
    stands-still k a q (rw (same, room.same) refl) (rw (same, room.same) refl) (stand-front k (drop 1 items) a all)

flush_hands : (k : model.Entry) (a v : LaneView) → Grows (plain (item.Flush k) ∷ []) a v → v.hands ≡ a.hands
unfolding hands_after hands_by
flush_hands k a v g = g.hands

-- it may still be handed in after the note that it is flushed
pub flushed-stands : (k : HeldEntry) (q v : LaneView) → AddsTold (plain (item.Flush (entry_of k)) ∷ []) q v → EntryStands k q → EntryStands k v
flushed-stands k q v note h = stands-still k q v (flush_hands (entry_of k) q v note.grows) note.grows.sys h

-- the oldest entry of the list is dropped
pub flushed-one : (k : HeldEntry) (kept more : Deferred) (a r q v w : LaneView) → Roomier a r → q ≡ r → AddsTold (plain (item.Flush (entry_of k)) ∷ []) q v → Released (entry_of k) v w
    → kept.entries.items ≡ k ∷ more.entries.items → more.entries.capacity ≡ kept.entries.capacity → FlushesEntry kept more a w
flushed-one k kept more a r q v w room same note rel items cap =
    let one : List Told = plain (item.Flush (entry_of k)) ∷ [] in
    let hands : q.hands ≡ a.hands = rw (same, room.same) refl in
    record {
      k = k;
      rel = rel.g;
      grows = grows-room (one ++ rel.g) a r w room (subst (λ x. Grows (one ++ rel.g) x w) same (grows-then one rel.g q v w note.grows rel.grows));
      drops = rel.drops;
      items = items;
      room = cap;
      hands = rel.hands ∙ ap (λ z. without_entry (entry_of k) z) (flush_hands (entry_of k) q v note.grows ∙ hands);
    }

-- an entry that stood still does where another came
pub recalled-left : (k : HeldEntry) (made : HeldEntry) (code : ℕ) (a v x y : LaneView)
    → AddsTold (plain (item.Recall (entry_of k)) ∷ []) a v → Again (entry_of k) made v x → PostsFirst (entry_of made) (did.Assert code) x y → EntryStands k a → EntryStands k y
recalled-left k made code a v x y note again post h =
    more k h
    (post.left refl ∙ again.hands ∙ ap (λ z. with_entry (entry_of made) z) (note_hands (entry_of k) a v note.grows))
    (post.grows.sys ∙ again.grows.sys ∙ note.grows.sys)
  where
    more : (j : HeldEntry) → EntryStands j a → y.hands ≡ with_entry (entry_of made) a.hands → y.sys ≡ a.sys → EntryStands j y
    more (token.Static sig) s hands sys = rw sys s
    more (token.Pool j) s hands sys = (s.0, rw hands (stands-with (Held j.pool j.block j.name) (entry_of made) a.hands s.1))

pub recall_noted-stands : (k : HeldEntry) (a v : LaneView) → AddsTold (plain (item.Recall (entry_of k)) ∷ []) a v → EntryStands k a → EntryStands k v
recall_noted-stands k a v note h = stands-still k a v (note_hands (entry_of k) a v note.grows) note.grows.sys h
