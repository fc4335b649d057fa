-- A stimulus in the lane of its source, seen from lane 0.
use Rattle.std.proofs.Common.{◌≡◌, ◌≢◌, ℕ, zero, suc, ◌<◌, ◌≤◌, ◌==◌, Bool, true, false, ◌||◌, List, [], ◌∷◌, ◌++◌, map, length, get_or, slice_set, refl, sym, ◌∙◌, ap, subst, arith, IsTrue}
use Rattle.std.specs.List.{list_all, list_any}
use Rattle.std.proofs.lemmas.Bool.Decides.{nat_tests}
use Rattle.std.proofs.lemmas.List.{get_or-set_same, set-get_or}
use Rattle.std.proofs.lemmas.Bool.{and_right}
use Rattle.qp_model.specs.declared.words.Word.{Word}
use Rattle.qp_model.specs.declared.bodies.Entry.{Entry}
use Rattle.qp_model.specs.Told.{Told, ToldItem, for_object}
use Rattle.qp_model.proofs.ListLemmas.{slice_set-twice}
use Rattle.qp_calls.specs.Tokens.{token_of, stands}
use Rattle.qp_calls.specs.LaneView.{LaneView, Purse, placed_by, is_known, handled_in, is_codeless}
use Rattle.qp_plain_sound.specs.View.{view_of}
use Rattle.qp_plain.specs.declared.world.PlainWorld.{PlainWorld}
use Rattle.qp_plain.specs.Book.{lists_of, no_purse, purses_of}
use Rattle.qp_plain.specs.NewWorld.{GoesTo, chosen, lanes_in}
use Rattle.qp_plain.specs.WorldView.{world_view}
use Rattle.qp_kernel.specs.Interrupting.{IsLaneKept}
use Rattle.qp_kernel_runs.specs.Visiting.{VisitLeaves, OtherHasStopped}
use Rattle.qp_kernel_runs.proofs.Worlds.{tolds, purses, told-here, told-aside, lane-is, no-name, long, within, long-aside, long-beside, own_purse, purse-here, told-other, purse-other, purses-aside, tolds-stay, purses-stay}

-- What two views have alike where another lane is chosen between them.
pub record Alike (v w : LaneView) : Type 0 where
  pub sys : w.sys ≡ v.sys
  pub serves : (o : ℕ) → w.serves o ≡ v.serves o
  pub mark : (x : Word) → w.mark x ≡ v.mark x
  pub shown : (x : Word) → w.shown x ≡ v.shown x
  pub own : (a : ℕ) → w.own a ≡ v.own a
  pub event : (e : Entry) → w.event e ≡ v.event e
  pub hands : w.hands ≡ v.hands
  pub plan : w.plan ≡ v.plan
  pub log : w.log ≡ v.log
  pub known : (e : Entry) → is_known w e ≡ is_known v e

any-set : {X : Type 0} (p : X → Bool) (xs : List X) (k : ℕ) (y d : X) → k < length xs → p y ≡ false → (p (get_or xs k d) || list_any p (slice_set xs k y)) ≡ list_any p xs
any-set p [] k y d lt none = absurd (omega (arith, lt))
any-set p (x ∷ xs) zero y d lt none = rw none refl
any-set p (x ∷ xs) (suc k) y d lt none = swap (p x) (p (get_or xs k d)) (list_any p (slice_set xs k y)) ∙ ap (λ u. p x || u) (any-set p xs k y d (omega (arith, lt)) none)
  where
    swap : (u a b : Bool) → (a || (u || b)) ≡ (u || (a || b))
    swap true true b = refl
    swap true false b = refl
    swap false a b = refl

module _ (w : PlainWorld) where
  -- what is known, by the records of all lanes
  known-by : (e : Entry) → is_known (world_view w) e ≡ (((e.pool == 0) || stands (token_of e) (world_view w).hands) || list_any (handled_in (token_of e)) (tolds w))
  unfolding is_known
  known-by e =
      rw (told-here w, told-aside w)
      (group ((e.pool == 0) || stands (token_of e) (world_view w).hands) (handled_in (token_of e) (get_or (tolds w) (chosen w) [])) (list_any (handled_in (token_of e)) (slice_set (tolds w) (chosen w) []))
      ∙ ap (λ u. ((e.pool == 0) || stands (token_of e) (world_view w).hands) || u) (any-set (handled_in (token_of e)) (tolds w) (chosen w) [] [] (within w) refl))
    where
      group : (a b c : Bool) → ((a || b) || c) ≡ (a || (b || c))
      group true b c = refl
      group false b c = refl

module _ (lane : ℕ) (old new : PlainWorld) (goes : GoesTo lane old new) where
  same : world_view new
      ≡ view_of old.sys.now (lists_of old.book) old.book.order.items new.book.at new.book.here.spare old.by new.book.here.stops.list new.book.here.answered.list (purses_of new.book)
  same =
      ap (λ x. view_of x (lists_of new.book) new.book.order.items new.book.at new.book.here.spare new.by new.book.here.stops.list new.book.here.answered.list (purses_of new.book)) goes.sys_is
      ∙ ap (λ x. view_of old.sys.now x new.book.order.items new.book.at new.book.here.spare new.by new.book.here.stops.list new.book.here.answered.list (purses_of new.book)) (ap (map (λ g. g.recs.items)) goes.logs)
      ∙ ap (λ x. view_of old.sys.now (lists_of old.book) x new.book.at new.book.here.spare new.by new.book.here.stops.list new.book.here.answered.list (purses_of new.book)) goes.order
      ∙ ap (λ x. view_of old.sys.now (lists_of old.book) old.book.order.items new.book.at new.book.here.spare x new.book.here.stops.list new.book.here.answered.list (purses_of new.book)) goes.by_is

  hands-same : (world_view new).hands ≡ (world_view old).hands
  unfolding view_of
  hands-same = ap (λ v. v.hands) same

  pub goes-alike : Alike (world_view old) (world_view new)
  unfolding view_of
  goes-alike = record {
    sys = ap (λ v. v.sys) same;
    serves = λ o. ap (λ v. v.serves o) same;
    mark = λ x. ap (λ v. v.mark x) same;
    shown = λ x. ap (λ v. v.shown x) same;
    own = λ a. ap (λ v. v.own a) same;
    event = λ e. ap (λ v. v.event e) same;
    hands = hands-same;
    plan = refl;
    log = ap (λ v. v.log) same;
    known = λ e.
        known-by new e
        ∙ ap (λ hs. ((e.pool == 0) || stands (token_of e) hs) || list_any (handled_in (token_of e)) (tolds new)) hands-same
        ∙ ap (λ ts. ((e.pool == 0) || stands (token_of e) (world_view old).hands) || list_any (handled_in (token_of e)) ts) (tolds-stay lane old new goes)
        ∙ sym (known-by old e);
  }

  by-same : (world_view new).by ≡ (world_view old).by
  unfolding view_of
  by-same = ap (λ v. v.by) same

  pub goes-by : (world_view new).by ≡ (world_view old).by
  goes-by = by-same

-- the lanes of a world, by its view
whole-tolds : (w : PlainWorld) → tolds w ≡ slice_set (world_view w).aside.told (world_view w).lane (world_view w).told
whole-tolds w =
    sym (ap (λ xs. slice_set xs (world_view w).lane (world_view w).told) (told-aside w)
    ∙ ap (λ k. slice_set (slice_set (tolds w) (chosen w) []) k (world_view w).told) (lane-is w)
    ∙ slice_set-twice (tolds w) (chosen w) [] (world_view w).told
    ∙ ap (slice_set (tolds w) (chosen w)) (told-here w)
    ∙ set-get_or (tolds w) (chosen w) [])

whole-purses : (w : PlainWorld) → purses w ≡ slice_set (world_view w).aside.purses (world_view w).lane (own_purse w)
whole-purses w =
    sym (ap (λ xs. slice_set xs (world_view w).lane (own_purse w)) (purses-aside w)
    ∙ ap (λ k. slice_set (slice_set (purses w) (chosen w) no_purse) k (own_purse w)) (lane-is w)
    ∙ slice_set-twice (purses w) (chosen w) no_purse (own_purse w)
    ∙ ap (slice_set (purses w) (chosen w)) (purse-here w)
    ∙ set-get_or (purses w) (chosen w) no_purse)

-- another object is set
module _ (w u : PlainWorld) (b : ℕ) (set : world_view u ≡ record (world_view w) { by = b }) where
  set-tolds : tolds u ≡ tolds w
  set-tolds = whole-tolds u ∙ ap (λ v. slice_set v.aside.told v.lane v.told) set ∙ sym (whole-tolds w)

  set-purses : purses u ≡ purses w
  set-purses =
      whole-purses u
      ∙ ap (λ v. slice_set v.aside.purses v.lane (record { spare = v.spare; stops = v.stops; answered = v.answered })) set ∙ sym (whole-purses w)

  set-alike : Alike (world_view w) (world_view u)
  unfolding is_known
  set-alike = record {
    sys = ap (λ v. v.sys) set;
    serves = λ o. ap (λ v. v.serves o) set;
    mark = λ x. ap (λ v. v.mark x) set;
    shown = λ x. ap (λ v. v.shown x) set;
    own = λ a. ap (λ v. v.own a) set;
    event = λ e. ap (λ v. v.event e) set;
    hands = ap (λ v. v.hands) set;
    plan = ap (λ v. v.plan) set;
    log = ap (λ v. v.log) set;
    known = λ e. ap (λ v. is_known v e) set;
  }

  set-lane : chosen u ≡ chosen w
  set-lane = sym (lane-is u) ∙ ap (λ v. v.lane) set ∙ lane-is w

-- the lane of a source, chosen
pub there-sys : (source : ℕ) (a b c : PlainWorld) → GoesTo source a b → world_view c ≡ record (world_view b) { by = 0 } → (world_view c).sys ≡ (world_view a).sys
there-sys source a b c go set = ap (λ v. v.sys) set ∙ (goes-alike source a b go).sys

pub there-told : (source : ℕ) (a b c : PlainWorld) → chosen a ≡ 0 → 0 < source → GoesTo source a b → world_view c ≡ record (world_view b) { by = 0 }
    → (world_view c).told ≡ get_or (world_view a).aside.told source []
there-told source a b c home some go set =
    told-here c ∙ ap (λ k. get_or (tolds c) k []) (set-lane b c 0 set ∙ go.at) ∙ ap (λ xs. get_or xs source []) (set-tolds b c 0 set ∙ tolds-stay source a b go)
    ∙ sym (told-other a source (λ q. omega (arith, some, q, home)))

pub alike-then : (a b c : LaneView) → Alike a b → Alike b c → Alike a c
alike-then a b c f g = record {
  sys = g.sys ∙ f.sys;
  serves = λ o. g.serves o ∙ f.serves o;
  mark = λ x. g.mark x ∙ f.mark x;
  shown = λ x. g.shown x ∙ f.shown x;
  own = λ o. g.own o ∙ f.own o;
  event = λ e. g.event e ∙ f.event e;
  hands = g.hands ∙ f.hands;
  plan = g.plan ∙ f.plan;
  log = g.log ∙ f.log;
  known = λ e. g.known e ∙ f.known e;
}

-- The lane chosen gains these records, and may hand in a code.
pub record Went (ts : List ToldItem) (v w : LaneView) : Type 0 where
  pub sys : w.sys ≡ v.sys
  pub told : w.told ≡ v.told ++ ts
  pub serves : (o : ℕ) → w.serves o ≡ v.serves o
  pub rise : (x : Word) → v.mark x ≤ w.mark x
  pub shown : (x : Word) → w.mark x ≡ v.mark x → w.shown x ≡ v.shown x
  pub own : (a : ℕ) → w.own a ≡ v.own a
  pub event : (e : Entry) → IsTrue (is_known v e) → w.event e ≡ v.event e
  pub plan : w.plan ≡ v.plan
  pub lane : w.lane ≡ v.lane
  pub log : w.log ≡ v.log ++ map (placed_by v.lane) ts
  pub aside : w.aside ≡ v.aside

-- the lane of the source is chosen, works for no object, and then lane 0 is chosen again
module _ (source former : ℕ) (a b c d e f : PlainWorld) (home : chosen a ≡ 0) (some : 0 < source) (go : GoesTo source a b) (set : world_view c ≡ record (world_view b) { by = 0 })
    (was : former ≡ (world_view b).by) (reset : world_view e ≡ record (world_view d) { by = former }) (back : GoesTo 0 e f) (ts : List ToldItem) (went : Went ts (world_view c) (world_view d)) where
  pub before : Alike (world_view a) (world_view c)
  before = alike-then (world_view a) (world_view b) (world_view c) (goes-alike source a b go) (set-alike b c 0 set)

  pub behind : Alike (world_view d) (world_view f)
  behind = alike-then (world_view d) (world_view e) (world_view f) (set-alike d e former reset) (goes-alike 0 e f back)

  pub lane_there : chosen c ≡ source
  lane_there = set-lane b c 0 set ∙ go.at

  lane_still : chosen d ≡ source
  lane_still = sym (lane-is d) ∙ went.lane ∙ lane-is c ∙ lane_there

  pub tolds_first : tolds c ≡ tolds a
  tolds_first = set-tolds b c 0 set ∙ tolds-stay source a b go

  tolds_last : tolds f ≡ tolds d
  tolds_last = tolds-stay 0 e f back ∙ set-tolds d e former reset

  purses_first : purses c ≡ purses a
  purses_first = set-purses b c 0 set ∙ purses-stay source a b go

  purses_last : purses f ≡ purses d
  purses_last = purses-stay 0 e f back ∙ set-purses d e former reset

  others_told : (k : ℕ) → k ≢ source → get_or (tolds f) k [] ≡ get_or (tolds a) k []
  others_told k other =
      ap (λ xs. get_or xs k []) tolds_last ∙ sym (told-other d k (λ q. other (q ∙ lane_still))) ∙ ap (λ x. get_or x.told k []) went.aside
      ∙ told-other c k (λ q. other (q ∙ lane_there)) ∙ ap (λ xs. get_or xs k []) tolds_first

  others_purse : (k : ℕ) → k ≢ source → get_or (purses f) k no_purse ≡ get_or (purses a) k no_purse
  others_purse k other =
      ap (λ xs. get_or xs k no_purse) purses_last ∙ sym (purse-other d k (λ q. other (q ∙ lane_still))) ∙ ap (λ x. get_or x.purses k no_purse) went.aside
      ∙ purse-other c k (λ q. other (q ∙ lane_there)) ∙ ap (λ xs. get_or xs k no_purse) purses_first

  its_told : get_or (tolds f) source [] ≡ get_or (tolds a) source [] ++ ts
  its_told =
      ap (λ xs. get_or xs source []) tolds_last ∙ ap (λ k. get_or (tolds d) k []) (sym lane_still) ∙ sym (told-here d) ∙ went.told
      ∙ ap (λ l. l ++ ts) (told-here c ∙ ap (λ k. get_or (tolds c) k []) lane_there ∙ ap (λ xs. get_or xs source []) tolds_first)

  away : 0 ≢ source
  away q = omega (arith, some, q)

  purse_home : own_purse f ≡ own_purse a
  purse_home =
      purse-here f ∙ ap (λ k. get_or (purses f) k no_purse) back.at ∙ others_purse 0 away ∙ ap (λ k. get_or (purses a) k no_purse) (sym home) ∙ sym (purse-here a)

  told_home : (world_view f).told ≡ (world_view a).told
  told_home =
      told-here f ∙ ap (λ k. get_or (tolds f) k []) back.at ∙ others_told 0 away ∙ ap (λ k. get_or (tolds a) k []) (sym home) ∙ sym (told-here a)

  log_gains : (world_view f).log ≡ (world_view a).log ++ map (placed_by source) ts
  log_gains =
      behind.log ∙ went.log ∙ ap (λ l. l ++ map (placed_by (world_view c).lane) ts) before.log
      ∙ ap (λ k. (world_view a).log ++ map (placed_by k) ts) (lane-is c ∙ lane_there)

  lane_kept : IsLaneKept (world_view a) (world_view f)
  lane_kept = record {
    world = no-name f ∙ sym (no-name a);
    lane = lane-is f ∙ back.at ∙ sym home ∙ sym (lane-is a);
    log = (map (placed_by source) ts, log_gains);
    sys = behind.sys ∙ went.sys ∙ before.sys;
    told = told_home;
    spare = ap (λ p. p.spare) purse_home;
    by = goes-by 0 e f back ∙ ap (λ v. v.by) reset ∙ was ∙ goes-by source a b go;
    serves = λ o. behind.serves o ∙ went.serves o ∙ before.serves o;
    rise = λ x.
        let one = before.mark x in
        let two = went.rise x in
        let three = behind.mark x in
        omega (arith, one, two, three);
    shown = λ x same.
        let one = before.mark x in
        let three = behind.mark x in
        let mid : (world_view d).mark x ≡ (world_view c).mark x = omega (arith, one, three, same) in
        behind.shown x ∙ went.shown x mid ∙ before.shown x;
    stops = ap (λ p. p.stops) purse_home;
    own = λ o. behind.own o ∙ went.own o ∙ before.own o;
    event = λ x known. behind.event x ∙ went.event x (before.known x ∙ known) ∙ before.event x;
    plan = behind.plan ∙ went.plan ∙ before.plan;
  }

  same_lanes : lanes_in f ≡ lanes_in a
  same_lanes =
      sym (long f) ∙ ap length tolds_last ∙ long d ∙ sym (long-aside d) ∙ ap (λ x. length x.told) went.aside ∙ long-aside c ∙ sym (long c) ∙ ap length tolds_first ∙ long a

  pub source-leaves : (g : List Told) → ts ≡ map (for_object 0) g → VisitLeaves source g (world_view a) (world_view f)
  source-leaves g is = record {
    kept = lane_kept;
    answered = ap (λ p. p.answered) purse_home;
    lane = lane-is f ∙ back.at ∙ sym home ∙ sym (lane-is a);
    log = log_gains ∙ ap (λ l. (world_view a).log ++ map (placed_by source) l) is;
    told =
        told-other f source (λ q. away (sym (q ∙ back.at))) ∙ its_told ∙ ap (λ l. get_or (tolds a) source [] ++ l) is
        ∙ ap (λ l. l ++ map (for_object 0) g) (sym (told-other a source (λ q. away (sym (q ∙ home)))));
    others = λ k other. by k other (k == 0) refl;
    lanes = long-aside f ∙ same_lanes ∙ sym (long-aside a);
    purses = long-beside f ∙ same_lanes ∙ sym (long-beside a);
  }
    where
      self-none : (w : PlainWorld) → chosen w ≡ 0 → get_or (world_view w).aside.told 0 [] ≡ []
      self-none w at =
          ap (λ xs. get_or xs 0 []) (told-aside w) ∙ ap (λ k. get_or (slice_set (tolds w) k []) 0 []) at
          ∙ get_or-set_same (tolds w) 0 [] [] (subst (λ k. k < length (tolds w)) at (within w))

      by : (k : ℕ) → k ≢ source → (u : Bool) → (k == 0) ≡ u → get_or (world_view f).aside.told k [] ≡ get_or (world_view a).aside.told k []
      by k other true q =
          let zero_is : k ≡ 0 = grind (arith, nat_tests) in
          ap (λ n. get_or (world_view f).aside.told n []) zero_is ∙ self-none f back.at ∙ sym (self-none a home) ∙ ap (λ n. get_or (world_view a).aside.told n []) (sym zero_is)
      by k other false q =
          let far : k ≢ 0 = grind (arith, nat_tests) in
          told-other f k (λ p. far (p ∙ back.at)) ∙ others_told k other ∙ sym (told-other a k (λ p. far (p ∙ home)))

  -- a code of the source is seen from lane 0
  pub source-stopped : is_codeless (own_purse d) ≡ false → source < lanes_in a → OtherHasStopped (world_view f)
  source-stopped coded few =
      none-all (world_view f).aside.purses source no_purse (subst (λ n. source < n) (sym (long-beside f ∙ same_lanes)) few)
      (ap is_codeless (purse-other f source (λ q. away (sym (q ∙ back.at))) ∙ ap (λ xs. get_or xs source no_purse) purses_last
      ∙ ap (λ k. get_or (purses d) k no_purse) (sym lane_still) ∙ sym (purse-here d)) ∙ coded)
    where
      none-all : (ps : List Purse) (k : ℕ) (p : Purse) → k < length ps → is_codeless (get_or ps k p) ≡ false → list_all is_codeless ps ≡ false
      none-all [] k p lt h = absurd (omega (arith, lt))
      none-all (x ∷ ps) zero p lt h = rw h refl
      none-all (x ∷ ps) (suc k) p lt h = and_right (is_codeless x) _ (none-all ps k p (omega (arith, lt)) h)
