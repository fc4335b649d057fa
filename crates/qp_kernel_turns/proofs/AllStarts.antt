-- The starts of all objects, one behind another.
use Rattle.std.proofs.Common.{◌≡◌, ◌≢◌, ℕ, zero, suc, ◌+◌, ◌-◌, ◌<◌, ◌≤◌, ◌==◌, false, List, [], ◌∷◌, ◌++◌, map, length, drop, refl, sym, ◌∙◌, ap, subst, Some, arith}
use Rattle.std.specs.Prelude.{◌⊎◌, get_or, slice_get}
use Rattle.std.specs.List.{AllByRecursion}
use Rattle.std.proofs.lemmas.Bool.Decides.{nat_tests}
use Rattle.qp_chart.specs.StateTree.{has}
use Rattle.qp_model.specs.declared.systems.System.{System}
use Rattle.qp_model.specs.declared.systems.ObjectDef.{ObjectDef}
use Rattle.qp_model.specs.Laws.{Ascend}
use Rattle.qp_model.specs.Sound.{IsSound}
use Rattle.qp_model.specs.Told.{ToldItem, untold}
use Rattle.qp_calls.specs.LaneView.{Gains, LaneView}
use Rattle.qp_calls.specs.Notes.{last_code}
use Rattle.qp_calls.proofs.Growing.{gains-none, gains-then}
use Rattle.qp_dispatch.specs.declared.steps.Step.{Step}
use Rattle.qp_dispatch.specs.declared.steps.Step.TheVariants as step
use Rattle.std.proofs.lemmas.List.{map-append}
use Rattle.qp_model_order.specs.SourceRun.{untold_all}
use Rattle.qp_kernel.specs.Starts.{AreStarts, IsStartAlone}
use Rattle.qp_kernel.proofs.StartsLemmas.{alone-then, starts-none, starts-then}
use Rattle.qp_kernel.specs.Happenings.{IsInOrder, has_no_stim}
use Rattle.qp_kernel_turns.specs.declared.objects.Objects.{Objects}
use Rattle.qp_kernel_turns.specs.Objects.{MayStartAt, StartsAt}
use Rattle.qp_kernel_turns.specs.Knowing.{IsObjectWithChart, KnowsAt}
use Rattle.qp_kernel_turns.specs.Starting.{AllStarted, GrowsAlong, GrowsAndStops, HasBegun, HaveBegun, StartStopped, StartsAll, StartsOne, priorities_from}
use Rattle.qp_kernel_turns.proofs.Places.{follow-none, follow-then}
use Rattle.qp_kernel_turns.proofs.SoundObjects.{named}
use Rattle.qp_kernel_turns.proofs.Fresh.{all-begun}
use Rattle.qp_kernel_turns.proofs.Starts.{done-grows, done-knows, done-order, done-unstim, may-start, opened, refused-grows, stopped-rows, stopped-start, stopped-turn, threshold-is}
use Rattle.qp_kernel.specs.Turning.{Terms, under}
use Rattle.qp_model.proofs.AbleLemmas.{some-same}

-- The next object.

none-above : (p : ℕ) (ds : List ObjectDef) → AllByRecursion (λ d. p < d.priority) ds → has (map (λ d. d.priority) ds) p ≡ false
none-above p [] all = refl
none-above p (d ∷ ds) all = let lt = all.0 in let other : (d.priority == p) ≡ false = grind (arith, nat_tests) in rw other (none-above p ds all.1)

-- what is left behind an object at its place does not have it
pub record IsNext (P : ObjectDef → Type 0) (ds : List ObjectDef) (n : ℕ) (d : ObjectDef) : Type 0 where
  pub left : drop n ds ≡ d ∷ drop (suc n) ds
  pub holds : P d
  pub apart : has (map (λ x. x.priority) (drop (suc n) ds)) d.priority ≡ false

pub next-is : (P : ObjectDef → Type 0) (ds : List ObjectDef) (n : ℕ) (d : ObjectDef) → slice_get ds n ≡ Some d → AllByRecursion P ds → Ascend ds → IsNext P ds n d
next-is P [] n d at all ascend = absurd (cc)
next-is P (x ∷ xs) zero d at all ascend =
    let same : x ≡ d = some-same at in
    record {
      left = ap (λ y. y ∷ xs) same;
      holds = subst P same all.0;
      apart = subst (λ y. has (map (λ z. z.priority) xs) y.priority ≡ false) same (none-above x.priority xs ascend.1);
    }
next-is P (x ∷ xs) (suc n) d at all ascend = let next = next-is P xs n d at all.1 ascend.2 in record { left = next.left; holds = next.holds; apart = next.apart }

some-there : (ds : List ObjectDef) (n : ℕ) (d : ObjectDef) → slice_get ds n ≡ Some d → 0 < length ds
some-there [] n d at = absurd (cc)
some-there (x ∷ xs) n d at = omega arith

-- The object at a place, which is the first that has not started.
module _ (sys : System) (sound : IsSound sys) (place : ℕ) (d : ObjectDef) (at : slice_get sys.objects place ≡ Some d) (xs : Objects) (v : LaneView) (b : HaveBegun sys (priorities_from sys place) xs v) where
  next : IsNext (λ x. IsObjectWithChart sys x.priority) sys.objects place d
  next = next-is (λ x. IsObjectWithChart sys x.priority) sys.objects place d at (named sys sound) sound.ascend

  abbrev others : List ℕ
  others = priorities_from sys (place + 1)

  behind-place : suc place ≡ place + 1
  behind-place = omega arith

  apart-next : has others d.priority ≡ false
  apart-next = subst (λ k. has (priorities_from sys k) d.priority ≡ false) behind-place next.apart

  here : HaveBegun sys (d.priority ∷ others) xs v
  here = subst (λ ps. HaveBegun sys ps xs v) (ap (map (λ x. x.priority)) next.left ∙ ap (λ k. d.priority ∷ priorities_from sys k) behind-place) b

  -- what holds by all terms holds by these
  abbrev any : Terms
  any = under false 0

  pub may-start-next : MayStartAt sys xs.ceiling d.priority xs v
  may-start-next = may-start sys sound any d.priority others xs v next.holds apart-next (here.knows any)

  pub starts-next : (level : ℕ) (ys : Objects) (w : LaneView) (answer : Step) → StartsAt sys level d.priority xs ys v w answer → StartsOne sys (place + 1) xs (record ys { ceiling = level }) v w answer
  starts-next level ys w step.Point r = let o = opened sys sound any d.priority others xs v next.holds apart-next (here.knows any) level ys w step.Point r in absurd (o.1.1)
  starts-next level ys w step.Done r = (record { knows = knows; order = order; no_stim = no_stim }, grows)
    where
      knows : (terms : Terms) → KnowsAt (HasBegun sys others) sys terms 0 [] (record ys { ceiling = level }) w
      knows terms =
          let o = opened sys sound terms d.priority others xs v next.holds apart-next (here.knows terms) level ys w step.Done r in
          done-knows sys sound terms d.priority others xs v next.holds apart-next (here.knows terms) level r.later o.0 w (record ys { ceiling = level }) o.2 r.put.slots refl
          (threshold-is sys sound terms d.priority others xs v next.holds apart-next (here.knows terms) level ys w step.Done r) o.1.0 o.1.1

      order : IsInOrder sys 0 w
      order =
          let o = opened sys sound any d.priority others xs v next.holds apart-next (here.knows any) level ys w step.Done r in
          done-order sys sound any d.priority others xs v next.holds apart-next (here.knows any) level r.later o.0 w (record ys { ceiling = level }) o.2 r.put.slots refl
          (threshold-is sys sound any d.priority others xs v next.holds apart-next (here.knows any) level ys w step.Done r) o.1.0 o.1.1 b.order

      no_stim : has_no_stim w
      no_stim =
          let o = opened sys sound any d.priority others xs v next.holds apart-next (here.knows any) level ys w step.Done r in
          done-unstim sys sound any d.priority others xs v next.holds apart-next (here.knows any) level r.later o.0 w (record ys { ceiling = level }) o.2 r.put.slots refl
          (threshold-is sys sound any d.priority others xs v next.holds apart-next (here.knows any) level ys w step.Done r) o.1.0 o.1.1 b.no_stim

      grows : GrowsAlong 1 xs v (record ys { ceiling = level }) w
      grows =
          let o = opened sys sound any d.priority others xs v next.holds apart-next (here.knows any) level ys w step.Done r in
          done-grows sys sound any d.priority others xs v next.holds apart-next (here.knows any) level r.later o.0 w (record ys { ceiling = level }) o.2 r.put.slots refl
          (threshold-is sys sound any d.priority others xs v next.holds apart-next (here.knows any) level ys w step.Done r) o.1.0 o.1.1
  starts-next level ys w step.Stopped r =
      stopped-start sys sound any d.priority others xs v next.holds apart-next (here.knows any) (some-there sys.objects place d at) level ys w r b.order
      (λ terms. stopped-turn sys sound terms d.priority others xs v next.holds apart-next (here.knows terms) level ys w r)
      (λ terms. stopped-rows sys sound terms d.priority others xs v next.holds apart-next (here.knows terms) level ys w r)
  starts-next level ys w step.Memory r =
      let o = opened sys sound any d.priority others xs v next.holds apart-next (here.knows any) level ys w step.Memory r in
      refused-grows sys sound any d.priority others xs v next.holds apart-next (here.knows any) r.later.object.lasting o.0 w o.2 o.1.1

-- what an index finds
pub got-is : {A : Type 0} (xs : List A) (p : ℕ) (x y : A) → p < length xs → x ≡ get_or xs p y → slice_get xs p ≡ Some x
got-is [] p x y lt is = absurd (omega (arith, lt))
got-is (z ∷ zs) zero x y lt is = ap Some (sym is)
got-is (z ∷ zs) (suc p) x y lt is = got-is zs p x y (omega (arith, lt)) is

-- Starts behind one another.

pub along-then : (n m : ℕ) (xs : Objects) (u : LaneView) (ys : Objects) (v : LaneView) (zs : Objects) (w : LaneView) → GrowsAlong n xs u ys v → GrowsAlong m ys v zs w → GrowsAlong (n + m) xs u zs w
along-then n m xs u ys v zs w one two = record {
  ts = one.ts ++ two.ts;
  gains = gains-then one.ts two.ts u v w one.gains two.gains;
  hands = follow-then xs u ys v zs w one.hands two.hands;
  are = subst (AreStarts (n + m)) (sym (map-append untold one.ts two.ts)) (starts-then n m (untold_all one.ts) (untold_all two.ts) one.are two.are);
}

pub stops-behind : (code : ℕ) (u v w : LaneView) (ts : List ToldItem) → Gains ts u v → GrowsAndStops code v w → GrowsAndStops code u w
stops-behind code u v w ts gains h = record { ts = ts ++ h.ts; mid = h.mid; gains = gains-then ts h.ts u v h.mid gains h.gains; stops = h.stops }

pub stopped-behind : (sys : System) (n : ℕ) (u v w : LaneView) (ts : List ToldItem) → n < length sys.objects → Gains ts u v → AreStarts n (untold_all ts) → (h : StartStopped sys v w) → h.before ≡ 0 → StartStopped sys u w
stopped-behind sys n u v w ts lt gains are h none = record {
  turn = λ terms. let t = h.turn terms in record { zero = t.zero; why = subst (λ a. (0 < last_code w.told) ⊎ (length a < length w.answered)) gains.answered t.why };
  none = h.none;
  order = h.order;
  code = h.code;
  some = h.some;
  last = h.last;
  grows = record { ts = ts ++ h.grows.ts; mid = h.grows.mid; gains = gains-then ts h.grows.ts u v h.grows.mid gains h.grows.gains; stops = h.grows.stops };
  before = n;
  left = lt;
  alone = λ r more.
      let split : r ≡ n + (r - n) = omega (arith, more) in
      subst (IsStartAlone r) (sym (map-append untold ts h.grows.ts)) (alone-then n (r - n) r (untold_all ts) (untold_all h.grows.ts) split are (h.alone (r - n) (omega (arith, more, none))));
}

-- the last start was not done
pub all-behind : (sys : System) (n place : ℕ) (xs : Objects) (u : LaneView) (ys : Objects) (v : LaneView) (zs : Objects) (w : LaneView) (answer : Step) → answer ≢ step.Done → n < length sys.objects → GrowsAlong n xs u ys v
    → StartsOne sys place ys zs v w answer → StartsAll sys xs zs u w answer
all-behind sys n place xs u ys v zs w step.Point not_done lt along h = h
all-behind sys n place xs u ys v zs w step.Done not_done lt along h = absurd (not_done refl)
all-behind sys n place xs u ys v zs w step.Stopped not_done lt along h = stopped-behind sys n u v w along.ts lt along.gains along.are h.0 h.1
all-behind sys n place xs u ys v zs w step.Memory not_done lt along h = stops-behind 7 u v w along.ts along.gains h

-- nothing is left behind the last place
drop-whole : {A : Type 0} (xs : List A) (n : ℕ) → length xs ≤ n → drop n xs ≡ []
drop-whole [] zero le = refl
drop-whole [] (suc n) le = refl
drop-whole (x ∷ xs) zero le = absurd (omega (arith, le))
drop-whole (x ∷ xs) (suc n) le = drop-whole xs n (omega (arith, le))

pub all-started : (sys : System) (place : ℕ) (xs : Objects) (u : LaneView) (ys : Objects) (v : LaneView) → place ≡ length sys.objects → HaveBegun sys (priorities_from sys place) ys v → GrowsAlong place xs u ys v → AllStarted sys xs ys u v
all-started sys place xs u ys v is b along =
    let none : priorities_from sys place ≡ [] = ap (map (λ d. d.priority)) (drop-whole sys.objects place (omega (arith, is))) in
    let h : HaveBegun sys [] ys v = subst (λ ps. HaveBegun sys ps ys v) none b in
    record { knows = λ terms. all-begun sys terms ys v (h.knows terms); base = h.knows; order = h.order; no_stim = h.no_stim; grows = subst (λ n. GrowsAlong n xs u ys v) is along }

pub along-none : (xs : Objects) (v : LaneView) → GrowsAlong 0 xs v xs v
along-none xs v = record { ts = []; gains = gains-none v; hands = follow-none xs v v refl; are = starts-none }
