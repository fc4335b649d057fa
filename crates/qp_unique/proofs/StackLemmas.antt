-- The steps under way in lane 0: each is of an object above those that it interrupts. So an object whose step is done has no other.
use Rattle.std.proofs.Common.{◌≡◌, ◌∙◌, ℕ, ◌+◌, ◌<◌, ◌≤◌, ◌==◌, nat_lt, max, Bool, true, false, not, ◌&&◌, cond, List, [], ◌∷◌, map, Some, refl, sym, ap, subst, inl, inr, ◌⊎◌, arith}
use Rattle.std.proofs.lemmas.Bool.Decides.{nat_tests}
use Rattle.std.specs.List.{filter, find, AllByRecursion}
use Rattle.qp_model.specs.declared.systems.System.{System}
use Rattle.qp_model.specs.declared.systems.ObjectDef.{ObjectDef}
use Rattle.qp_model.specs.Record.{Item}
use Rattle.qp_model.specs.Kernels.{qk, qv}
use Rattle.qp_model.specs.WordLaw.{is_object}
use Rattle.qp_model.specs.KernelLane.{role_of, Setting, threshold_of, floor_in, above, Upcoming, Inside, Looking, Chosen, Ended, Resting, Again, Over, Halted, Reading, base_ended, found_none, looking_at, unread}
use Rattle.qp_unique.proofs.KernelLemmas.{Slot, Starts, Runs, Releases, IsLook, IsSeen, IsTook, IsSpent, IsRest, IsDone, GoesOn, IsOwned}
use Rattle.qp_replay.proofs.SourceRecords.{own-objects}
use Rattle.qp_model.proofs.KernelLaneLemmas.{AllByRecursion-reverse}

-- what is found is of the list, and passes
pub found-in : (test : ObjectDef → Bool) (ds : List ObjectDef) (d : ObjectDef) → find test ds ≡ Some d → (P : ObjectDef → Type 0) → AllByRecursion P ds → P d × (test d ≡ true)
found-in test [] d h P all = absurd (cc)
found-in test (x ∷ xs) d h P all = by (test x) refl h (λ k. found-in test xs d k P all.1)
  where
    by : (b : Bool) → test x ≡ b → cond b (Some x) (find test xs) ≡ Some d → (find test xs ≡ Some d → P d × (test d ≡ true)) → P d × (test d ≡ true)
    by true e h later = let same : x ≡ d = cc in (subst P same all.0, subst (λ y. test y ≡ true) same e)
    by false e h later = later h

-- the objects of a system
module _ (sys : System) where
  abbrev pub IsObject : ℕ → Type 0
  IsObject p = is_object sys p ≡ true

  pub all-named : AllByRecursion IsObject (map (λ d. d.priority) sys.objects)
  all-named = own-objects sys

  pub above-named : (floor : ℕ) → AllByRecursion (λ p. IsObject p × (floor < p)) (above sys floor)
  unfolding above
  above-named floor = AllByRecursion-reverse (λ p. IsObject p × (floor < p)) _ (kept sys.objects all-named)
    where
      kept : (ds : List ObjectDef) → AllByRecursion IsObject (map (λ d. d.priority) ds) → AllByRecursion (λ p. IsObject p × (floor < p)) (map (λ d. d.priority) (filter (λ d. nat_lt floor d.priority) ds))
      kept [] h = tt
      kept (d ∷ ds) h = by (nat_lt floor d.priority) refl (kept ds h.1)
        where
          by : (b : Bool) → nat_lt floor d.priority ≡ b → AllByRecursion (λ p. IsObject p × (floor < p)) (map (λ d. d.priority) (filter (λ d. nat_lt floor d.priority) ds))
              → AllByRecursion (λ p. IsObject p × (floor < p)) (map (λ d. d.priority) (cond b (d ∷ filter (λ d. nat_lt floor d.priority) ds) (filter (λ d. nat_lt floor d.priority) ds)))
          by true e rest = ((h.0, let less : floor < d.priority = grind (arith, nat_tests, e) in less), rest)
          by false e rest = rest

  -- each of the objects is below this one
  abbrev pub Below : List ℕ → ℕ → Type 0
  Below os p = AllByRecursion (λ q. q < p) os

  abbrev pub Descends : List ℕ → Type 0
  Descends [] = Unit {0}
  Descends (o ∷ os) = IsObject o × Below os o × Descends os

  -- those that may be chosen are above those that run
  abbrev pub PlaceStacked : List ℕ → Upcoming → Type 0
  PlaceStacked running (Looking p others) = AllByRecursion (λ q. IsObject q × Below running q) (p ∷ others)
  PlaceStacked running (Chosen p) = IsObject p × Below running p
  PlaceStacked running (Ended p) = IsObject p × Below running p
  PlaceStacked running place = Unit {0}

  abbrev pub StartsInside : List ℕ → Upcoming → Type 0
  StartsInside [] place = Unit {0}
  StartsInside (o ∷ others) place = place ≡ Inside

  pub record Stacked (k : Reading) : Type 0 where
    pub running : Descends k.running
    pub place : PlaceStacked k.running k.place
    pub unstarted : AllByRecursion IsObject k.unstarted
    pub starts : StartsInside k.unstarted k.place

  pub stacked-first : Stacked (unread sys)
  unfolding unread
  stacked-first = record { running = tt; place = tt; unstarted = all-named; starts = by (map (λ d. d.priority) sys.objects) }
    where
      by : (us : List ℕ) → StartsInside us Inside
      by [] = tt
      by (u ∷ us) = refl

  below-less : (os : List ℕ) (p q : ℕ) → p < q → Below os p → Below os q
  below-less [] p q less h = tt
  below-less (o ∷ os) p q less h = (let first : o < p = h.0 in omega (arith, first, less), below-less os p q less h.1)

  -- an object's priority is at most its threshold, and that at most 32
  abbrev pub IsBounded : Type 0
  IsBounded = (p : ℕ) → IsObject p → (p ≤ threshold_of sys p) × (threshold_of sys p ≤ 32)

-- the thresholds of a sound system
module _ (s : Setting) (bounded : IsBounded s.sys) where
  -- above the floor within a step stands an object above the one that runs; in the cooperative kernel none does
  higher : (ceiling : ℕ) (os : List ℕ) (q : ℕ) → Descends s.sys os → IsObject s.sys q → floor_in s.sys s.kernel os ceiling < q → Below s.sys os q
  unfolding floor_in
  higher ceiling [] q descends its less = tt
  higher ceiling (o ∷ outer) q descends its less = by (s.kernel == qv) less
    where
      by : (b : Bool) → cond b 32 (max (threshold_of s.sys o) ceiling) < q → Below s.sys (o ∷ outer) q
      by true less =
          let over : 32 < q = less in
          let most : q ≤ threshold_of s.sys q = (bounded q its).0 in
          let least : threshold_of s.sys q ≤ 32 = (bounded q its).1 in
          absurd (omega (arith, over, most, least))
      by false less =
          let over : max (threshold_of s.sys o) ceiling < q = less in
          let le : o ≤ threshold_of s.sys o = (bounded o descends.0).0 in
          let first : o < q = omega (arith, over, le) in
          (first, below-less s.sys outer o q first descends.1)

  all-higher : (ceiling : ℕ) (os : List ℕ) → Descends s.sys os → (ps : List ℕ) → AllByRecursion (λ q. IsObject s.sys q × (floor_in s.sys s.kernel os ceiling < q)) ps
      → AllByRecursion (λ q. IsObject s.sys q × Below s.sys os q) ps
  all-higher ceiling os descends [] h = tt
  all-higher ceiling os descends (p ∷ ps) h = ((h.0.0, higher ceiling os p descends h.0.0 h.0.1), all-higher ceiling os descends ps h.1)

  -- what is above the floor is above what runs
  above-running : (k : Reading) → Descends s.sys k.running
      → AllByRecursion (λ q. IsObject s.sys q × Below s.sys k.running q) (above s.sys (floor_in s.sys s.kernel k.running k.ceiling))
  above-running k descends = all-higher k.ceiling k.running descends _ (above-named s.sys (floor_in s.sys s.kernel k.running k.ceiling))

  -- a row's next look at an object, or its end
  based : (k : Reading) → Stacked s.sys k → k.unstarted ≡ [] → Stacked s.sys (base_ended s k)
  based k h none = by (not (s.kernel == qk) && s.has_stimulus k.looks)
    where
      by : (b : Bool) → Stacked s.sys (cond b (record k { place = Again }) (record k { place = Over; idle = cond k.stepped k.idle (k.idle + 1); stepped = false }))
      by true = record { running = h.running; place = tt; unstarted = h.unstarted; starts = rw none tt }
      by false = record { running = h.running; place = tt; unstarted = h.unstarted; starts = rw none tt }

  looked : (k : Reading) (ps : List ℕ) → Stacked s.sys k → k.unstarted ≡ [] → AllByRecursion (λ q. IsObject s.sys q × Below s.sys k.running q) ps → Stacked s.sys (looking_at s k ps)
  looked k (p ∷ others) h none all = record { running = h.running; place = all; unstarted = h.unstarted; starts = rw none tt }
  looked k [] h none all = by k.running
    where
      rests : (b : Bool) → Stacked s.sys (cond b (record k { place = Resting }) (base_ended s k))
      rests true = record { running = h.running; place = tt; unstarted = h.unstarted; starts = rw none tt }
      rests false = based k h none

      by : (os : List ℕ) → Stacked s.sys (found_none s k os)
      by [] = rests (s.kernel == qv)
      by (o ∷ outer) = record { running = h.running; place = tt; unstarted = h.unstarted; starts = rw none tt }

  -- without its place
  replaced : (k : Reading) (place : Upcoming) → Stacked s.sys k → k.unstarted ≡ [] → PlaceStacked s.sys k.running place → Stacked s.sys (record k { place = place })
  replaced k place h none at = record { running = h.running; place = at; unstarted = h.unstarted; starts = rw none tt }

  pub stacked-next : (k next : Reading) (i : Item) → Slot s k next i → Stacked s.sys k → Stacked s.sys next
  stacked-next k next i (Starts p others some of own run place left looks) h = by left
    where
      inside : k.place ≡ Inside
      inside = subst (λ us. StartsInside s.sys us k.place) some h.starts

      running_is : Descends s.sys next.running
      running_is = rw run h.running

      place_is : PlaceStacked s.sys next.running next.place
      place_is = rw (run, place) h.place

      begun : AllByRecursion (IsObject s.sys) others
      begun = (subst (AllByRecursion (IsObject s.sys)) some h.unstarted).1

      starts : (us : List ℕ) → StartsInside s.sys us next.place
      starts [] = tt
      starts (u ∷ us) = place ∙ inside

      by : (next.unstarted ≡ others) ⊎ (next.unstarted ≡ k.unstarted) → Stacked s.sys next
      by (inl e) = record { running = running_is; place = place_is; unstarted = rw e begun; starts = starts next.unstarted }
      by (inr e) = record { running = running_is; place = place_is; unstarted = rw e h.unstarted; starts = starts next.unstarted }
  stacked-next k next i (Runs p outer none at run of own (IsDone ends is)) h =
      let all : Descends s.sys (p ∷ outer) = subst (Descends s.sys) run h.running in
      rw is (record { running = all.2; place = (all.0, all.1); unstarted = h.unstarted; starts = rw none tt })
  stacked-next k next i (Runs p outer none at run of own (GoesOn us rs pl looks)) h =
      record { running = rw rs h.running; place = rw (rs, pl) h.place; unstarted = rw us h.unstarted; starts = rw (us, none) tt }
  stacked-next k next i (Releases p none at of role is) h = subst (Stacked s.sys) is h
  stacked-next k next i (IsLook none may at is) h =
      subst (Stacked s.sys) is
      (looked (record k { looks = k.looks + 1 }) _ (record { running = h.running; place = h.place; unstarted = h.unstarted; starts = h.starts }) none (above-running k h.running))
  stacked-next k next i (IsSeen p others f l m none at item is) h =
      let all : AllByRecursion (λ q. IsObject s.sys q × Below s.sys k.running q) (p ∷ others) = subst (PlaceStacked s.sys k.running) at h.place in
      subst (Stacked s.sys) is (by (nat_lt m (f + l)) all)
    where
      by : (b : Bool) → AllByRecursion (λ q. IsObject s.sys q × Below s.sys k.running q) (p ∷ others) → Stacked s.sys (cond b (record k { place = Chosen p }) (looking_at s k others))
      by true all = replaced k (Chosen p) h none all.0
      by false all = looked k others h none all.1
  stacked-next k next i (IsTook p f l m e none at item is) h =
      let above : IsObject s.sys p × Below s.sys k.running p = subst (PlaceStacked s.sys k.running) at h.place in
      subst (Stacked s.sys) is (record { running = (above.0, above.1, h.running); place = tt; unstarted = h.unstarted; starts = rw none tt })
  stacked-next k next i (IsSpent p none at item is) h = subst (Stacked s.sys) is (replaced k Halted h none tt)
  stacked-next k next i (IsRest none at item is) h = subst (Stacked s.sys) is (based k h none)

-- a look ends in no step that is done
unbased : (s : Setting) (k : Reading) (p : ℕ) → (base_ended s k).place ≡ Ended p → ⊥
unbased s k p = by (not (s.kernel == qk) && s.has_stimulus k.looks)
  where
    by : (b : Bool) → (cond b (record k { place = Again }) (record k { place = Over; idle = cond k.stepped k.idle (k.idle + 1); stepped = false })).place ≡ Ended p → ⊥
    by true e = cc
    by false e = cc

unended : (s : Setting) (k : Reading) (ps : List ℕ) (p : ℕ) → (looking_at s k ps).place ≡ Ended p → ⊥
unended s k (q ∷ others) p e = cc
unended s k [] p e = by k.running e
  where
    rests : (b : Bool) → (cond b (record k { place = Resting }) (base_ended s k)).place ≡ Ended p → ⊥
    rests true e = cc
    rests false e = unbased s k p e

    by : (os : List ℕ) → (found_none s k os).place ≡ Ended p → ⊥
    by [] e = rests (s.kernel == qv) e
    by (o ∷ outer) e = cc

-- the last record before the release of p, or of it, is one of p
pub ended-last : (s : Setting) (k next : Reading) (i : Item) (p : ℕ) → Slot s k next i → Stacked s.sys k → next.place ≡ Ended p → (i.of ≡ p) × IsOwned (role_of i.body)
ended-last s k next i p (Starts q others some of own run place left looks) h at =
    let inside : k.place ≡ Inside = subst (λ us. StartsInside s.sys us k.place) some h.starts in
    let wrong : Inside ≡ Ended p = sym inside ∙ sym place ∙ at in absurd (cc)
ended-last s k next i p (Runs q outer none place run of own (IsDone ends is)) h at =
    let same : Ended q ≡ Ended p = sym (ap (λ (x : Reading). x.place) is) ∙ at in
    let e : q ≡ p = cc in
    (of ∙ e, own)
ended-last s k next i p (Runs q outer none place run of own (GoesOn us rs pl looks)) h at = let wrong : Inside ≡ Ended p = sym place ∙ sym pl ∙ at in absurd (cc)
ended-last s k next i p (Releases q none place of role is) h at =
    let same : Ended q ≡ Ended p = sym place ∙ ap (λ (x : Reading). x.place) is ∙ at in
    let e : q ≡ p = cc in
    (of ∙ e, rw role tt)
ended-last s k next i p (IsLook none may item is) h at = absurd (unended s (record k { looks = k.looks + 1 }) _ p (ap (λ (x : Reading). x.place) is ∙ at))
ended-last s k next i p (IsSeen q others f l m none place item is) h at = absurd (by (nat_lt m (f + l)) (ap (λ (x : Reading). x.place) is ∙ at))
  where
    by : (b : Bool) → (cond b (record k { place = Chosen q }) (looking_at s k others)).place ≡ Ended p → ⊥
    by true e = cc
    by false e = unended s k others p e
ended-last s k next i p (IsTook q f l m e none place item is) h at = let wrong : Inside ≡ Ended p = ap (λ (x : Reading). x.place) is ∙ at in absurd (cc)
ended-last s k next i p (IsSpent q none place item is) h at = let wrong : Halted ≡ Ended p = ap (λ (x : Reading). x.place) is ∙ at in absurd (cc)
ended-last s k next i p (IsRest none place item is) h at = absurd (unbased s k p (ap (λ (x : Reading). x.place) is ∙ at))

-- p isn't under way
abbrev pub NotOf : List ℕ → ℕ → Type 0
NotOf os p = AllByRecursion (λ q. q ≡ p → ⊥) os

abbrev pub PlaceAway : ℕ → Upcoming → Type 0
PlaceAway p (Ended q) = q ≡ p → ⊥
PlaceAway p place = Unit {0}

pub record Away (p : ℕ) (k : Reading) : Type 0 where
  pub started : k.unstarted ≡ []
  pub running : NotOf k.running p
  pub place : PlaceAway p k.place

pub below-not : (sys : System) (os : List ℕ) (p : ℕ) → Below sys os p → NotOf os p
below-not sys [] p h = tt
below-not sys (o ∷ os) p h = (λ e. let less : o < p = h.0 in absurd (omega (arith, less, e)), below-not sys os p h.1)

-- a look leaves the place of no step that was done
pub away-looked : (s : Setting) (k : Reading) (ps : List ℕ) (p : ℕ) → k.unstarted ≡ [] → NotOf k.running p → Away p (looking_at s k ps)
away-looked s k (q ∷ others) p none run = record { started = none; running = run; place = tt }
away-looked s k [] p none run = by k.running
  where
    based : (b : Bool) → Away p (cond b (record k { place = Again }) (record k { place = Over; idle = cond k.stepped k.idle (k.idle + 1); stepped = false }))
    based true = record { started = none; running = run; place = tt }
    based false = record { started = none; running = run; place = tt }

    rests : (b : Bool) → Away p (cond b (record k { place = Resting }) (base_ended s k))
    rests true = record { started = none; running = run; place = tt }
    rests false = based (not (s.kernel == qk) && s.has_stimulus k.looks)

    by : (os : List ℕ) → Away p (found_none s k os)
    by [] = rests (s.kernel == qv)
    by (o ∷ outer) = record { started = none; running = run; place = tt }
