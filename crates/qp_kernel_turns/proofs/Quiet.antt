-- The records of a start, and the lane that has them.
use Rattle.std.proofs.Common.{◌≡◌, ℕ, true, false, not, ◌||◌, List, [], ◌∷◌, ◌++◌, map, refl, sym, ap, subst, Option, Some, None}
use Rattle.std.specs.List.{list_any}
use Rattle.std.proofs.lemmas.Bool.{and_parts, or_parts, not-true}
use Rattle.qp_model.specs.declared.systems.System.{System}
use Rattle.qp_model.specs.declared.bodies.Body.{Body}
use Rattle.qp_model.specs.declared.bodies.Body.TheVariants as body
use Rattle.qp_model.specs.Acts.{Actor, Config}
use Rattle.qp_model.specs.Course.{Starts}
use Rattle.qp_model.specs.Ends.{ends_last, is_end}
use Rattle.qp_model.specs.Pieces.{tell}
use Rattle.qp_model.specs.Points.{is_look}
use Rattle.qp_model.specs.Told.{Told, ToldItem, for_object, plain, untold}
use Rattle.qp_model.specs.OneOrder.{look_of}
use Rattle.qp_model_order.specs.Placing.{LooksNone}
use Rattle.qp_model_order.specs.SourceRun.{untold_all}
use Rattle.qp_calls.specs.Clauses.{Stops}
use Rattle.qp_calls.specs.LaneView.{Gains, LaneView, is_known}
use Rattle.qp_dispatch.specs.Objects.{works_for}
use Rattle.qp_kernel.specs.Happenings.{IsOrderEnded}
use Rattle.qp_kernel.specs.Turning.{spill_told}
use Rattle.qp_kernel.proofs.TurnLemmas.{start-failed, start-form}
use Rattle.qp_kernel.proofs.ToldPieces.{AreOwn, own-not_look}
use Rattle.qp_kernel.proofs.ZeroLemmas.{AreDrops, drop-not_look}

-- Records of a start: no look is among them, and an assertion only last.

pub record IsQuiet (p : ℕ) (g : List Told) : Type 0 where
  pub calm : list_any (λ t. is_end t.body) g ≡ false
  pub lookless : LooksNone (untold_all (map (for_object p) g))

no-look : (b : Body) → is_look b ≡ false → look_of b ≡ None
no-look (body.Look n floor) h = absurd (cc)
no-look _ h = refl

pub own-lookless : (p : ℕ) (g : List Told) → AreOwn g → LooksNone (untold_all (map (for_object p) g))
own-lookless p [] own = tt
own-lookless p (t ∷ g) own = (no-look t.body (own-not_look t.body own.0), own-lookless p g own.2)

drops-quiet : (p : ℕ) (g : List Told) → AreDrops g → IsQuiet p g
drops-quiet p [] drops = record { calm = refl; lookless = tt }
drops-quiet p (t ∷ g) drops =
    let is = drop-not_look t.body drops.0 in
    let rest = drops-quiet p g drops.1 in
    record { calm = rw (is.2) (rest.calm); lookless = (no-look t.body is.0, rest.lookless) }

-- a step or a start to its end
pub done-quiet : (p : ℕ) (g rel : List Told) → AreOwn g → list_any (λ t. is_end t.body) g ≡ false → AreDrops rel → IsQuiet p (g ++ plain body.Done ∷ rel)
done-quiet p [] rel own calm drops = let rest = drops-quiet p rel drops in record { calm = rest.calm; lookless = (refl, rest.lookless) }
done-quiet p (t ∷ g) rel own calm drops =
    let parts = or_parts (is_end t.body) (list_any (λ x. is_end x.body) g) calm in
    let rest = done-quiet p g rel own.2 parts.1 drops in
    record { calm = rw (parts.0) (rest.calm); lookless = (no-look t.body (own-not_look t.body own.0), rest.lookless) }

quiet-front : (p : ℕ) (g more : List Told) → IsQuiet p (g ++ more) → IsQuiet p g
quiet-front p [] more q = record { calm = refl; lookless = tt }
quiet-front p (t ∷ g) more q =
    let parts = or_parts (is_end t.body) (list_any (λ x. is_end x.body) (g ++ more)) q.calm in
    let rest = quiet-front p g more (record { calm = parts.1; lookless = q.lookless.1 }) in
    record { calm = rw (parts.0) (rest.calm); lookless = (q.lookless.0, rest.lookless) }

ends-quiet : (p : ℕ) (g : List Told) (u : Told) (more : List Told) → AreOwn (g ++ u ∷ more) → ends_last (map untold (map (for_object p) (g ++ u ∷ more))) ≡ true → IsQuiet p g
unfolding ends_last
ends-quiet p [] u more own last = record { calm = refl; lookless = tt }
ends-quiet p (t ∷ []) u more own last =
    let parts = and_parts (not (is_end t.body)) (ends_last (map untold (map (for_object p) (u ∷ more)))) last in
    record { calm = rw (not-true (is_end t.body) parts.0) refl; lookless = (no-look t.body (own-not_look t.body own.0), tt) }
ends-quiet p (t ∷ z ∷ g) u more own last =
    let parts = and_parts (not (is_end t.body)) (ends_last (map untold (map (for_object p) ((z ∷ g) ++ u ∷ more)))) last in
    let rest = ends-quiet p (z ∷ g) u more own.2 parts.1 in
    record { calm = rw (not-true (is_end t.body) parts.0) (rest.calm); lookless = (no-look t.body (own-not_look t.body own.0), rest.lookless) }

pub whole-quiet : (sys : System) (a : Actor) (p : ℕ) (first : Config) (g : List Told) (c : Config) → Starts sys a first (tell g) (Some c) → IsQuiet p g
whole-quiet sys a p first g c starts = let form = start-form sys a first g c starts in subst (IsQuiet p) (sym form.whole) (done-quiet p form.front [] form.own form.calm tt)

pub cut-quiet : (sys : System) (a : Actor) (p : ℕ) (first : Config) (g more : List Told) (end : Option Config) → Starts sys a first (tell (g ++ more)) end → (end ≡ None → more ≡ [] → ⊥) → IsQuiet p g
cut-quiet sys a p first g more (Some c) starts left = quiet-front p g more (whole-quiet sys a p first (g ++ more) c starts)
cut-quiet sys a p first g [] None starts left = absurd (left refl refl)
cut-quiet sys a p first g (u ∷ more) None starts left = let form = start-failed sys a p first (g ++ u ∷ more) starts in ends-quiet p g u more form.own form.ends

pub calm-items : (p : ℕ) (g : List Told) → list_any (λ i. is_end i.body) (untold_all (map (for_object p) g)) ≡ list_any (λ t. is_end t.body) g
calm-items p [] = refl
calm-items p (t ∷ g) = ap (λ b. is_end t.body || b) (calm-items p g)

pub spill-last : (n : ℕ) → ends_last (untold_all (spill_told n ∷ [])) ≡ true
unfolding ends_last
spill-last n = refl

-- The same lane, for another object.
pub gains-set : (o r : ℕ) (ts : List ToldItem) (a b : LaneView) → Gains ts (works_for o a) b → Gains ts (works_for r a) (works_for r b)
unfolding is_known
gains-set o r ts a b h = record {
  world = h.world;
  sys = h.sys;
  told = h.told;
  by = refl;
  serves = h.serves;
  stops = h.stops;
  answered = h.answered;
  asked = h.asked;
  mark = h.mark;
  rise = h.rise;
  between = h.between;
  shown = h.shown;
  own = h.own;
  event = h.event;
  hands = h.hands;
  plan = h.plan;
  happened = h.happened;
  lane = h.lane;
  log = h.log;
  aside = h.aside;
}

-- a lane that has stopped has the order that it had
pub ended-stops : (sys : System) (end code : ℕ) (v w : LaneView) → Stops code v w → IsOrderEnded sys end v → IsOrderEnded sys end w
ended-stops sys end code v w stops h = subst (IsOrderEnded sys end) (sym stops) (record { cuts = h.cuts; order = h.order; sources = h.sources })
