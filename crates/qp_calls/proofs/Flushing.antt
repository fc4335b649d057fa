-- Flushes entry by entry.
use Rattle.std.proofs.Common.{◌≡◌, ℕ, zero, suc, ◌+◌, ◌<◌, List, [], ◌∷◌, ◌++◌, map, length, refl, sym, ◌∙◌, ap, subst, arith, append_assoc, Some, None, inl}
use Rattle.std.proofs.lemmas.List.{append-nil}
use Rattle.std.specs.Prelude.{◌≢◌}
use Rattle.qp_model.specs.declared.bodies.Entry as model
use Rattle.qp_model.specs.declared.bodies.Body.TheVariants as item
use Rattle.qp_model.specs.Told.{Told, plain, dropped}
use Rattle.qp_model.specs.Calls as call
use Rattle.qp_model.specs.Calls.{Flushed}
use Rattle.qp_model.specs.Deferral.{keep, kept_after, KeepsDeferred}
use Rattle.qp_model.specs.Shapes.{Fits, Flushes, Drops, releases_by}
use Rattle.qp_model.proofs.DeferralLemmas.{kept-append, kept-calm}
use Rattle.qp_model.proofs.FitsLemmas.{calm-drops}
use Rattle.qp_calls.specs.declared.answers.RoomFault.{RoomFault}
use Rattle.qp_calls.specs.declared.deferred.Deferred.{Deferred}
use Rattle.qp_calls.specs.declared.did.Did.TheVariants as did
use Rattle.qp_calls.specs.LaneView.{LaneView}
use Rattle.qp_calls.specs.Clauses.{IsFault, entry_of}
use Rattle.qp_calls.specs.Deferring.{AnswersKept, FlushCut, FlushesEntry, FlushesSome, StandAll, kept_in, tokens_in}
use Rattle.qp_calls.proofs.Growing.{gains-none, grows-then}
use Rattle.qp_calls.proofs.CountLemmas.{count-with, count-without, stand-front, stand-rest, stands-in}
use Rattle.qp_calls.proofs.Recalling.{entry-same}
use Rattle.qp_model.proofs.ListLemmas.{nothing-left}

flushes-append : (n m : ℕ) (g h : List Told) → Flushes n g → Flushes m h → Flushes (n + m) (g ++ h)
unfolding Flushes
flushes-append zero m g h a b =
    let same : m ≡ 0 + m = omega arith in
    rw a (subst (λ j. Flushes j h) same b)
flushes-append (suc n) m g h a b =
    let same : suc (n + m) ≡ suc n + m = omega arith in
    let on : Flushes (suc (n + m)) (g ++ h) = (
      a.0,
      a.1,
      a.2 ++ h,
      a.3,
      flushes-append n m a.2 h a.4 b,
      ap (λ x. x ++ h) a.5 ∙ ap (λ x. plain (item.Flush a.0) ∷ x) (append_assoc a.1 a.2 h),
    ) in
    subst (λ j. Flushes j (g ++ h)) same on

pub could_drop : (e : model.Entry) → (rel : List Told) × Drops e rel × (0 < e.pool → rel ≢ [])
unfolding Drops
could_drop e = go e.pool
  where
    go : (p : ℕ) → (rel : List Told) × releases_by p e rel × (0 < p → rel ≢ [])
    go zero = ([], refl, λ some none. absurd (omega (arith, some)))
    go (suc p) = (dropped e.pool e.block 0 e.name 1 ∷ [], inl (0, 0, refl), λ some none. absurd (cc))

-- what a flush of these entries could add
could_flush : (es : List model.Entry) → (h : List Told) × Flushes (length es) h
unfolding Flushes
could_flush [] = ([], refl)
could_flush (e ∷ es) =
    let drop = could_drop e in
    let on = could_flush es in
    (plain (item.Flush e) ∷ (drop.0 ++ on.0), (e, drop.0, on.0, drop.1, on.1, refl))

flushed-first : (cap : ℕ) (k : model.Entry) (ks : List model.Entry) (rel : List Told) → Drops k rel → kept_after cap (k ∷ ks) (plain (item.Flush k) ∷ rel) ≡ Some ks
unfolding kept_after keep
flushed-first cap k ks rel drops = rw (entry-same k) (kept-calm cap ks rel (calm-drops k rel drops))

pub flushes-none : (list : Deferred) (a : LaneView) → StandAll list.entries.items a → FlushesSome 0 list list a a
unfolding Flushes kept_after
flushes-none list a stand = record {
  g = [];
  grows = gains-none a;
  flushes = refl;
  count = omega arith;
  room = refl;
  keeps = refl;
  hands = λ t. refl;
  stand = stand;
}

pub flushes-more : (n : ℕ) (kept mid more : Deferred) (a v w : LaneView) → FlushesSome n kept mid a v → FlushesEntry mid more v w → FlushesSome (n + 1) kept more a w
unfolding Flushes
flushes-more n kept mid more a v w some one =
    let k = entry_of one.k in
    let last : List Told = plain (item.Flush k) ∷ one.rel in
    let listed : kept_in mid ≡ k ∷ kept_in more = ap (λ xs. map entry_of xs) one.items in
    let all : StandAll (one.k ∷ more.entries.items) v = subst (λ xs. StandAll xs v) one.items some.stand in
    let step : Flushes 1 last = (k, one.rel, [], one.drops, refl, ap (λ x. plain (item.Flush k) ∷ x) (sym (append-nil one.rel))) in
    let sizes : length mid.entries.items ≡ length (one.k ∷ more.entries.items) = ap (λ xs. length xs) one.items in
    record {
      g = some.g ++ last;
      grows = grows-then some.g last a v w some.grows one.grows;
      flushes = flushes-append n 1 some.g last some.flushes step;
      count = omega (arith, some.count, sizes);
      room = one.room ∙ some.room;
      keeps =
          kept-append kept.entries.capacity (kept_in kept) (kept_in mid) some.g last some.keeps
          ∙ rw listed (flushed-first kept.entries.capacity k (kept_in more) one.rel one.drops);
      hands = λ t.
          let less = count-without t k v.hands (stands-in one.k v (stand-front one.k more.entries.items v all)) in
          let front = count-with t k (tokens_in (kept_in more)) in
          let so_far = rw listed at some.hands t in
          rw one.hands (omega (arith, less, front, so_far));
      stand = stand-rest one.k more.entries.items v w all one.hands one.grows.sys;
    }

-- the whole list was flushed
pub flushed-all : (n : ℕ) (kept more : Deferred) (a w : LaneView) → FlushesSome n kept more a w → n ≡ length kept.entries.items → AnswersKept None call.Flush (did.Value n) kept more a w
unfolding Fits KeepsDeferred
flushed-all n kept more a w some all =
    let left : length more.entries.items ≡ 0 = omega (arith, some.count) in
    let none : more.entries.items ≡ [] = nothing-left more.entries.items left in
    record {
      answer = Flushed n;
      g = some.g;
      said = refl;
      grows = some.grows;
      fits = some.flushes;
      room = some.room;
      keeps = (some.keeps, ap (λ xs. map entry_of xs) none);
      hands = λ is. some.hands;
      stand = some.stand;
    }

-- a part of it was, and a whole flush could go on
pub flush-cut : (n : ℕ) (kept mid more : Deferred) (a v w : LaneView) → FlushesSome n kept mid a v → n < length kept.entries.items → more ≡ mid → w ≡ v → FlushCut kept more a w
unfolding Fits
flush-cut n kept mid more a v w some few list lane =
    let rest = could_flush (kept_in mid) in
    let here : FlushCut kept mid a v = record {
      left = omega (arith, some.count, few);
      answer = Flushed (n + length (kept_in mid));
      g = some.g;
      rest = rest.0;
      grows = some.grows;
      fits = flushes-append n (length (kept_in mid)) some.g rest.0 some.flushes rest.1;
      room = some.room;
      keeps = some.keeps;
      hands = some.hands;
      stand = some.stand;
    } in
    subst (λ x. FlushCut kept x a w) (sym list) (subst (λ x. FlushCut kept mid a x) (sym lane) here)

-- the fault of a lane that stayed as it was
pub fault-still : (f : RoomFault) (v w : LaneView) → w ≡ v → IsFault v f → IsFault w f
fault-still f v w same h = subst (λ x. IsFault x f) (sym same) h
