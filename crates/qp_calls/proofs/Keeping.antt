-- Deferral as the parts that it is made of.
use Rattle.std.proofs.Common.{◌≡◌, ℕ, zero, suc, ◌-◌, ◌<◌, nat_lt, Bool, true, false, not, List, [], ◌∷◌, ◌++◌, length, drop, refl, ◌∙◌, ap, subst, arith, Some}
use Rattle.std.proofs.lemmas.Bool.{ltb-true}
use Rattle.std.proofs.lemmas.List.{map-append, length-append, length-map}
use Rattle.qp_model.specs.declared.bodies.Entry as model
use Rattle.qp_model.specs.declared.bodies.Body.TheVariants.{Defer, NoDefer}
use Rattle.qp_model.specs.Told.{Told, plain}
use Rattle.qp_model.specs.Calls as call
use Rattle.qp_model.specs.Calls.{Granted, Refused}
use Rattle.qp_model.specs.Deferral.{keep, kept_after, KeepsDeferred}
use Rattle.qp_model.specs.Shapes.{Fits, Defers, MakesAgain, again_by, MakesAgainNow}
use Rattle.qp_model.proofs.DeferralLemmas.{kept-append}
use Rattle.qp_calls.specs.declared.deferred.Deferred.{Deferred}
use Rattle.qp_calls.specs.declared.did.Did.TheVariants as did
use Rattle.qp_calls.specs.declared.tokens.HeldEntry.{HeldEntry}
use Rattle.qp_calls.specs.Tokens.{with_entry, hands_after, hands_by}
use Rattle.qp_calls.specs.LaneView.{LaneView, Grows, AddsTold, Roomier}
use Rattle.qp_calls.specs.Clauses.{EntryStands, entry_of}
use Rattle.qp_calls.specs.Entries.{Again}
use Rattle.qp_calls.specs.Deferring.{AnswersKept, StandAll, kept_in}
use Rattle.qp_calls.proofs.Growing.{grows-room, grows-then, stands-still}
use Rattle.qp_calls.proofs.CountLemmas.{count-with, stand-more, stand-same, tokens-append}

-- the records of another reference leave the list
pub kept-again : (room : ℕ) (kept : List model.Entry) (e made : model.Entry) (head : List Told) → MakesAgain e head made → kept_after room kept head ≡ Some kept
unfolding MakesAgain kept_after keep
kept-again room kept e made head h = go e.pool h
  where
    go : (p : ℕ) → again_by p e head made → kept_after room kept head ≡ Some kept
    go zero h = rw h.0 refl
    go (suc p) h = rw h.1 refl

defer_hands : (e : model.Entry) (v w : LaneView) → Grows (plain (Defer e) ∷ []) v w → w.hands ≡ v.hands
unfolding hands_after hands_by
defer_hands e v w g = g.hands

no_defer_hands : (v w : LaneView) → Grows (plain NoDefer ∷ []) v w → w.hands ≡ v.hands
unfolding hands_after hands_by
no_defer_hands v w g = g.hands

-- a full list
pub defer-full : (e : model.Entry) (kept : Deferred) (a r q w : LaneView) → Roomier a r → q ≡ r → AddsTold (plain NoDefer ∷ []) q w
    → nat_lt (length kept.entries.items) kept.entries.capacity ≡ false → StandAll kept.entries.items a → AnswersKept (Some e) call.Defer (did.Value 0) kept kept a w
unfolding Fits Defers KeepsDeferred kept_after keep
defer-full e kept a r q w room same one full stand =
    let grown : Grows (plain NoDefer ∷ []) a w = grows-room (plain NoDefer ∷ []) a r w room (subst (λ x. Grows (plain NoDefer ∷ []) x w) same one.grows) in
    let hands : w.hands ≡ a.hands = no_defer_hands a w grown in
    record {
      answer = Refused;
      g = plain NoDefer ∷ [];
      said = refl;
      grows = grown;
      fits = refl;
      room = refl;
      keeps = rw (length-map kept.entries.items entry_of, full) refl;
      hands = λ is t. rw hands refl;
      stand = stand-same kept.entries.items a w stand hands grown.sys;
    }

-- the entry comes to the end of the list
pub defer-done : (e : model.Entry) (made : HeldEntry) (kept more : Deferred) (a r q v w : LaneView) → Roomier a r → q ≡ r → Again e made q v
    → AddsTold (plain (Defer (entry_of made)) ∷ []) v w → nat_lt (length kept.entries.items) kept.entries.capacity ≡ true
    → more.entries ≡ record { items = kept.entries.items ++ made ∷ []; capacity = kept.entries.capacity } → StandAll kept.entries.items a
    → AnswersKept (Some e) call.Defer (did.Value 1) kept more a w
unfolding Fits Defers MakesAgainNow KeepsDeferred kept_after keep
defer-done e made kept more a r q v w room same again one some more_is stand =
    let cap = kept.entries.capacity in
    let note : Told = plain (Defer (entry_of made)) in
    let first : Grows again.head a v = grows-room again.head a r v room (subst (λ x. Grows again.head x v) same again.grows) in
    let kept_hands : q.hands ≡ a.hands = rw (same, room.same) refl in
    let hands : w.hands ≡ with_entry (entry_of made) a.hands =
    defer_hands (entry_of made) v w one.grows ∙ again.hands ∙ ap (λ x. with_entry (entry_of made) x) kept_hands in
    let sys : w.sys ≡ a.sys = one.grows.sys ∙ first.sys in
    let items : more.entries.items ≡ kept.entries.items ++ made ∷ [] = rw more_is refl in
    let listed : kept_in more ≡ kept_in kept ++ entry_of made ∷ [] = rw (items, map-append entry_of kept.entries.items (made ∷ [])) refl in
    let stands : EntryStands made w = stands-still made v w (defer_hands (entry_of made) v w one.grows) one.grows.sys again.stands in
    record {
      answer = Granted;
      g = again.head ++ note ∷ [];
      said = refl;
      grows = grows-then again.head (note ∷ []) a v w first one.grows;
      fits = (again.head, entry_of made, again.again, refl);
      room = rw more_is refl;
      keeps =
          kept-append cap (kept_in kept) (kept_in kept) again.head (note ∷ []) (kept-again cap (kept_in kept) e (entry_of made) again.head again.again)
          ∙ rw (length-map kept.entries.items entry_of, some, listed) refl;
      hands = λ is t.
          let more_hands = count-with t (entry_of made) a.hands in
          let more_listed = tokens-append t (kept_in kept) (entry_of made) in
          rw (hands, listed) (omega (arith, more_hands, more_listed));
      stand = rw items (stand-more kept.entries.items made a w stand stands hands sys);
    }

pub is_full : (b : Bool) → true ≡ not b → b ≡ false
is_full true h = absurd (cc)
is_full false h = refl

pub is_open : (b : Bool) → false ≡ not b → b ≡ true
is_open true h = refl
is_open false h = absurd (cc)

-- the last of as many as there is room for, and one more
pub pushed : {X : Type 0} (xs : List X) (x : X) (cap : ℕ) → nat_lt (length xs) cap ≡ true → drop (length (xs ++ x ∷ []) - cap) (xs ++ x ∷ []) ≡ xs ++ x ∷ []
pushed xs x cap h =
    let lt : length xs < cap = ltb-true (length xs) cap h in
    let none : length (xs ++ x ∷ []) - cap ≡ 0 = simp length-append (omega arith) in
    rw none refl
