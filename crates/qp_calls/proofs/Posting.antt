-- Entries that are made and posted.
use Rattle.std.proofs.Common.{◌≡◌, ℕ, ◌<◌, true, false, List, [], ◌∷◌, length, refl, sym, ◌∙◌, ap, subst, arith, IsTrue, Option, Some, None}
use Rattle.qp_model.specs.declared.systems.System.{System}
use Rattle.qp_model.specs.declared.bodies.Entry as model
use Rattle.qp_model.specs.declared.bodies.Body.TheVariants.{Inc, Short, NoBlock, Post, Lifo, Full, NoEntry, NoLifo}
use Rattle.qp_model.specs.Told.{Event, plain, told_new}
use Rattle.qp_model.specs.Calls.{Granted, Refused, AtQueue, AtPool, AtFront}
use Rattle.qp_model.specs.Parts.{is_static, first_pool, sizes_of}
use Rattle.qp_model.specs.Shapes.{Posts, PostsFront, MakesBlock, MakesNew, NoBlockFor}
use Rattle.qp_calls.specs.declared.did.Did.{Did}
use Rattle.qp_calls.specs.declared.did.Did.TheVariants as did
use Rattle.qp_calls.specs.declared.tokens.Fresh.{Fresh}
use Rattle.qp_calls.specs.declared.tokens.HeldEntry.{HeldEntry}
use Rattle.qp_calls.specs.declared.tokens.HeldEntry.TheVariants as token
use Rattle.qp_calls.specs.Tokens.{Hold, Held, Loose, take_out, without_entry, hands_after, hands_by}
use Rattle.qp_calls.specs.LaneView.{LaneView, Grows}
use Rattle.qp_calls.specs.Clauses.{GivesOut, GivesNone, Makes, PostsIt, PostsNot, PutsFront, PutsNot, EntryStands, StandsFresh, entry_of}
use Rattle.qp_calls.specs.Entries.{Made, Unmade, PostsEntry, PostsFirst, Refuses, Released, Unposted, is_value}
use Rattle.qp_calls.proofs.Growing.{grows-then, gains-none, stands-still}
use Rattle.qp_calls.proofs.HandLemmas.{held-first, loose-first}
use Rattle.qp_calls.proofs.Releasing.{take_out-first, with-pool}

-- an assertion is no value
no_value : (d : Did) (code : ℕ) → d ≡ did.Assert code → IsTrue (is_value d) → ⊥
no_value d code same is = let e : false ≡ true = rw same at is in cc

-- Posts.

post_hands : (to f l m : ℕ) (e : model.Entry) (a v : LaneView) → Grows (plain (Post to f l m e) ∷ []) a v → v.hands ≡ without_entry e a.hands
unfolding hands_after hands_by
post_hands to f l m e a v g = g.hands

lifo_hands : (f l m : ℕ) (e : model.Entry) (a v : LaneView) → Grows (plain (Lifo f l m e) ∷ []) a v → v.hands ≡ without_entry e a.hands
unfolding hands_after hands_by
lifo_hands f l m e a v g = g.hands

-- a refused post leaves the hands as they were
full_hands : (margin : Option ℕ) (to f l m : ℕ) (e same : HeldEntry) (a v : LaneView) → PostsNot to e same margin f l m a v → v.hands ≡ a.hands
unfolding hands_after hands_by
full_hands (Some k) to f l m e same a v h = h.adds.grows.hands
full_hands None to f l m e same a v h = h.adds.grows.hands

-- the entry comes back
pub back-stands : (margin : Option ℕ) (to f l m : ℕ) (e same : HeldEntry) (a v : LaneView) → PostsNot to e same margin f l m a v → EntryStands e a → EntryStands same v
back-stands margin to f l m e same a v h s =
    subst (λ x. EntryStands x v) (sym h.given_back) (stands-still e a v (full_hands margin to f l m e same a v h) h.adds.grows.sys s)

pub posted-done : (to : ℕ) (e : HeldEntry) (margin : Option ℕ) (a v : LaneView) → PostsIt to e margin a v → PostsEntry to margin (entry_of e) (did.Value 1) a v
unfolding Posts
posted-done to e margin a v h = record {
  answer = Granted;
  g = plain (Post to h.f h.l h.m (entry_of e)) ∷ [];
  said = refl;
  grows = h.adds.grows;
  fits = (h.f, h.l, h.m, refl, h.enough);
  hands = λ is. post_hands to h.f h.l h.m (entry_of e) a v h.adds.grows;
}

pub posted-short : (margin : Option ℕ) (to f l m : ℕ) (e same : HeldEntry) (d : Did) (a v w : LaneView)
    → PostsNot to e same margin f l m a v → Refuses margin 1 d → Unposted margin (entry_of same) v w → PostsEntry to margin (entry_of e) d a w
unfolding Posts
posted-short (Some k) to f l m e same d a v w h said rel =
    let is : Released (entry_of e) v w = subst (λ x. Released (entry_of x) v w) h.given_back rel in
    record {
      answer = Refused;
      g = plain (Full to f l m k) ∷ is.g;
      said = said;
      grows = grows-then (plain (Full to f l m k) ∷ []) is.g a v w h.adds.grows is.grows;
      fits = (f, l, m, is.g, refl, is.drops);
      hands = λ v_is. is.hands ∙ ap (λ x. without_entry (entry_of e) x) (full_hands (Some k) to f l m e same a v h);
    }
posted-short None to f l m e same d a v w h said rel = record {
  answer = AtQueue;
  g = plain (NoEntry to f l m) ∷ [];
  said = said;
  grows = subst (λ x. Grows (plain (NoEntry to f l m) ∷ []) a x) (sym rel) h.adds.grows;
  fits = (f, l, m, refl);
  hands = λ is. absurd (no_value d 1 said is);
}

-- Last-in posts.

pub front-done : (e : HeldEntry) (a v : LaneView) → PutsFront e a v → PostsFirst (entry_of e) (did.Value 1) a v
unfolding PostsFront
front-done e a v h = record {
  answer = Granted;
  g = plain (Lifo h.f h.l h.m (entry_of e)) ∷ [];
  said = refl;
  grows = h.adds.grows;
  fits = (h.f, h.l, h.m, refl);
  hands = λ is. lifo_hands h.f h.l h.m (entry_of e) a v h.adds.grows;
  left = λ is. absurd (cc);
  spare = omega (arith, h.adds.spare);
}

no_lifo_hands : (e same : HeldEntry) (f l m : ℕ) (a v : LaneView) → PutsNot e same f l m a v → v.hands ≡ a.hands
unfolding hands_after hands_by
no_lifo_hands e same f l m a v h = h.adds.grows.hands

pub front-stands : (e same : HeldEntry) (f l m : ℕ) (a v : LaneView) → PutsNot e same f l m a v → EntryStands e a → EntryStands same v
front-stands e same f l m a v h s =
    subst (λ x. EntryStands x v) (sym h.given_back) (stands-still e a v (no_lifo_hands e same f l m a v h) h.adds.grows.sys s)

pub front-short : (e same : HeldEntry) (f l m : ℕ) (a v w : LaneView) → PutsNot e same f l m a v → w ≡ v → PostsFirst (entry_of e) (did.Assert 5) a w
unfolding PostsFront
front-short e same f l m a v w h left =
    subst (λ x. PostsFirst (entry_of e) (did.Assert 5) a x) (sym left)
    (record {
      answer = AtFront;
      g = plain (NoLifo a.by f l m) ∷ [];
      said = refl;
      grows = h.adds.grows;
      fits = (f, l, m, refl);
      hands = λ is. absurd (no_value (did.Assert 5) 5 refl is);
      left = λ is. no_lifo_hands e same f l m a v h;
      spare = omega (arith, h.adds.spare);
    })

-- New events.

given_hands : (p n b from sig free : ℕ) (pars : List ℕ) (a v : LaneView) → Grows (told_new p n b from sig pars free ∷ []) a v → v.hands ≡ Loose p b false ∷ a.hands
unfolding hands_after hands_by
given_hands p n b from sig free pars a v g = g.hands

inc_hands : (p b r : ℕ) (v w : LaneView) → Grows (plain (Inc p b r) ∷ []) v w → w.hands ≡ Held p b r ∷ take_out (Loose p b false) v.hands
unfolding hands_after hands_by
inc_hands p b r v w g = g.hands

-- a block that was given out stands in the hands
pub given-stands : (p : ℕ) (reserve : Option ℕ) (ev : Event) (f : Fresh) (a v : LaneView) → 0 < p → GivesOut p reserve ev f a v → StandsFresh f v
given-stands p reserve ev f a v some h =
    let unused : f.used ≡ false = h.unused in (
      rw h.its_pool some,
      rw (h.its_pool, unused, given_hands p h.number f.block h.from ev.sig h.free ev.pars a v h.adds.grows) (loose-first p f.block false a.hands),
    )

pub made-given : (p : ℕ) (reserve : Option ℕ) (ev : Event) (f : Fresh) (made : Hold) (a v w : LaneView)
    → 0 < p → first_pool (sizes_of a.sys) (length ev.pars) ≡ Some p → GivesOut p reserve ev f a v → Makes f.pool f.block 1 v w made → Made false ev reserve (token.Pool made) a w
unfolding MakesNew MakesBlock entry_of
made-given p reserve ev f made a v w some pool h first =
    let same : made.pool ≡ p = first.its_pool ∙ h.its_pool in
    let block : made.block ≡ f.block = first.its_block in
    let inc : Grows (plain (Inc p made.block made.name) ∷ []) v w =
    subst (λ x. Grows (plain (Inc x made.block made.name) ∷ []) v w) h.its_pool
    (subst (λ x. Grows (plain (Inc f.pool x made.name) ∷ []) v w) (sym block) first.adds.grows) in
    let new : Grows (told_new p h.number made.block h.from ev.sig ev.pars h.free ∷ []) a v =
    subst (λ x. Grows (told_new p h.number x h.from ev.sig ev.pars h.free ∷ []) a v) (sym block) h.adds.grows in
    let hands : w.hands ≡ Held p made.block made.name ∷ a.hands =
    inc_hands p made.block made.name v w inc
    ∙ rw (given_hands p h.number made.block h.from ev.sig h.free ev.pars a v new, take_out-first (Loose p made.block false) a.hands) refl in
    record {
      head = told_new p h.number made.block h.from ev.sig ev.pars h.free ∷ plain (Inc p made.block made.name) ∷ [];
      grows = grows-then (told_new p h.number made.block h.from ev.sig ev.pars h.free ∷ []) (plain (Inc p made.block made.name) ∷ []) a v w new inc;
      makes = (p, h.number, made.block, h.from, h.free, made.name, refl, rw same refl, pool, h.enough);
      stands = (rw same some, rw (same, hands) (held-first p made.block made.name a.hands));
      hands = rw same (hands ∙ sym (with-pool p made.block made.name a.hands some));
      spare = omega (arith, h.adds.spare, first.adds.spare);
    }

pub made-static : (sys : System) (ev : Event) (reserve : Option ℕ) (a : LaneView)
    → a.sys ≡ sys → is_static sys ev.sig ≡ true → Made (is_static sys ev.sig) ev reserve (token.Static ev.sig) a a
unfolding MakesNew entry_of
made-static sys ev reserve a of fixed = record {
  head = [];
  grows = gains-none a;
  makes = rw fixed (refl, refl);
  stands = rw (of, fixed) refl;
  hands = refl;
  spare = omega arith;
}

none_hands : (reserve : Option ℕ) (p n free : ℕ) (a v : LaneView) → GivesNone p reserve n free a v → v.hands ≡ a.hands
unfolding hands_after hands_by
none_hands (Some k) p n free a v h = h.adds.grows.hands
none_hands None p n free a v h = h.adds.grows.hands

pub unmade-short : (reserve : Option ℕ) (p n free : ℕ) (ev : Event) (d : Did) (a v : LaneView)
    → first_pool (sizes_of a.sys) (length ev.pars) ≡ Some p → GivesNone p reserve n free a v → Refuses reserve 2 d → Unmade false ev reserve d a v
unfolding NoBlockFor
unmade-short (Some k) p n free ev d a v pool h said = record {
  answer = Refused;
  g = plain (Short p n free k) ∷ [];
  said = said;
  grows = h.adds.grows;
  none = (p, n, free, refl, pool, refl);
  hands = none_hands (Some k) p n free a v h;
}
unmade-short None p n free ev d a v pool h said = record {
  answer = AtPool;
  g = plain (NoBlock p n free) ∷ [];
  said = said;
  grows = h.adds.grows;
  none = (p, n, free, refl, pool, refl);
  hands = none_hands None p n free a v h;
}
