-- Lanes given out and taken in, one after another.
use Rattle.std.proofs.Common.{true, false, not, ◌&&◌, eqb, ◌==◌, Result, Ok, Err, IfOk, ne_eqb, ◌≡◌, ◌∙◌, ℕ, zero, suc, ◌+◌, ◌-◌, ◌<◌, Bool, List, [], ◌∷◌, ◌++◌, length, map, slice_get, Some, refl, sym, ap, subst, arith, append_assoc}
use Rattle.std.specs.List.{list_any}
use Rattle.std.specs.Option.{option_map_or}
use Rattle.std.proofs.lemmas.List.{map-append, length-map}
use Rattle.qp_model.specs.Sound.{IsSound}
use Rattle.qp_model.specs.WordLaw.{is_object}
use Rattle.qp_model.specs.declared.record.Rec.{Rec}
use Rattle.qp_calls.specs.LaneView.{LaneView}
use Rattle.qp_table.specs.Counting.{Each}
use Rattle.qp_table.specs.Rule.{is_serve}
use Rattle.qp_table.specs.After.{passing, failing, views_joined}
use Rattle.qp_table.specs.declared.view.View.{View}
use Rattle.qp_side.specs.Told.{both_of}
use Rattle.qp_side.specs.declared.view.SideView.{SideView}
use Rattle.qp_shared_lane.specs.declared.lane.LaneState.{LaneState}
use Rattle.qp_side.specs.Seats.{in_set}
use Rattle.qp_shared_ends.specs.Joining.{all_both, all_joined, recs_in, side_of, table_of}
use Rattle.qp_shared.specs.declared.lane.SharedLane.{SharedLane}
use Rattle.qp_shared.specs.declared.shared.Shared.{Shared}
use Rattle.qp_shared.specs.declared.shared.Root.{Root}
use Rattle.qp_shared.specs.Ending.{lane_states}
use Rattle.qp_shared.specs.Lane.{lane_view}
use Rattle.qp_shared.specs.Starting.{AreFirst, AreGiven, FirstLane, HasLeft, IsGiven, IsRootAt, IsNewLaneOf, lane_serves, root_serves, objects_for, rest_of, serves_all, serves_one, world_name}
use Rattle.qp_shared.proofs.Serving.{gets, none-left}
use Rattle.qp_model.proofs.ListLemmas.{and-true}

-- one in the midst
pub each-mid : (P : LaneState → Type 0) (ys : List SharedLane) (l : SharedLane) (zs : List SharedLane) → Each P (lane_states (ys ++ l ∷ zs)) → P l.state
each-mid P [] l zs e = e.0
each-mid P (y ∷ ys) l zs e = each-mid P ys l zs e.1

-- one lane more
pub joined-more : (ys : List SharedLane) (l : SharedLane) (v : View) → all_joined v (map table_of (lane_states (ys ++ l ∷ []))) ≡ views_joined (all_joined v (map table_of (lane_states ys))) (table_of l.state)
joined-more [] l v = refl
joined-more (y ∷ ys) l v = joined-more ys l (views_joined v (table_of y.state))

pub both-more : (ys : List SharedLane) (l : SharedLane) (v : SideView) → all_both v (map side_of (lane_states (ys ++ l ∷ []))) ≡ both_of (all_both v (map side_of (lane_states ys))) (side_of l.state)
both-more [] l v = refl
both-more (y ∷ ys) l v = both-more ys l (both_of v (side_of y.state))

pub recs-more : (ys : List SharedLane) (l : SharedLane) (front now new : List (List Rec)) → now ≡ front ++ map recs_in (lane_states ys) → new ≡ now ++ recs_in l.state ∷ [] → new ≡ front ++ map recs_in (lane_states (ys ++ l ∷ []))
recs-more ys l front now new was is =
    is ∙ ap (λ xs. xs ++ recs_in l.state ∷ []) was ∙ append_assoc front (map recs_in (lane_states ys)) (recs_in l.state ∷ []) ∙ ap (λ xs. front ++ xs) (sym (snoc ys))
  where
    snoc : (ys : List SharedLane) → map recs_in (lane_states (ys ++ l ∷ [])) ≡ map recs_in (lane_states ys) ++ recs_in l.state ∷ []
    snoc [] = refl
    snoc (y ∷ ys) = ap (λ xs. recs_in y.state ∷ xs) (snoc ys)

-- what holds of each one by its number, one more
snoc-each : (P : ℕ → LaneView → Type 0) (k : ℕ) (vs : List LaneView) (v : LaneView) → ((i : ℕ) (u : LaneView) → slice_get vs i ≡ Some u → P (k + i) u) → P (k + length vs) v
    → (i : ℕ) (u : LaneView) → slice_get (vs ++ v ∷ []) i ≡ Some u → P (k + i) u
snoc-each P k [] v e p zero u at = let is : v ≡ u = cc in subst (P (k + 0)) is p
snoc-each P k [] v e p (suc i) u at = absurd (cc)
snoc-each P k (x ∷ xs) v e p zero u at = e zero u at
snoc-each P k (x ∷ xs) v e p (suc i) u at =
    let up : suc k + i ≡ k + suc i = omega arith in let long : k + suc (length xs) ≡ suc k + length xs = omega arith in
    subst (λ n. P n u) up (snoc-each P (suc k) xs v (λ i u at. let down : k + suc i ≡ suc k + i = omega arith in subst (λ n. P n u) down (e (suc i) u at)) (subst (λ n. P n v) long p) i u at)

pub given-more : (s : Shared) (count : ℕ) (port : Bool) (ls now : List SharedLane) (l : SharedLane) (k : ℕ) → k ≡ length ls + 1 → now ≡ ls ++ l ∷ [] → AreGiven s count port (map lane_view ls) → IsGiven s k count (lane_serves s.sys.now port k) (lane_view l)
    → AreGiven s count port (map lane_view now)
given-more s count port ls now l k is new e p =
    let P : ℕ → LaneView → Type 0 = (λ i v. IsGiven s (i + 1) count (lane_serves s.sys.now port (i + 1)) v) in
    let last : k ≡ 0 + length (map lane_view ls) + 1 = let long = length-map ls lane_view in omega arith in
    let all = snoc-each P 0 (map lane_view ls) (lane_view l) (λ i u at. let z : i ≡ 0 + i = omega arith in subst (λ n. P n u) z (e i u at))
    (subst (λ n. IsGiven s n count (lane_serves s.sys.now port n) (lane_view l)) last p) in
    subst (AreGiven s count port) (sym (ap (map lane_view) new ∙ map-append lane_view ls (l ∷ []))) (λ i u at. let z : 0 + i ≡ i = omega arith in subst (λ n. P n u) z (all i u at))

module _ (s : Shared) (port : Bool) (sound : IsSound s.sys.now) (k m : ℕ) (later : 0 < k) (set : m ≡ objects_for s.sys.now port k) (old : Root) (has : HasLeft s port k old) where
  pub left-more : (new : Root) → IsRootAt s (k + 1) new → new.seat.me.0.serves ≡ failing (in_set m) old.seat.me.0.serves → HasLeft s port (k + 1) new
  left-more new root is = record {
    root = root;
    serves = λ o. ap (list_any (is_serve o)) is ∙ (ap (λ m. list_any (is_serve o) (failing (in_set m) old.seat.me.0.serves)) set ∙ (gets s.sys.now sound k o later old.seat.me.0.serves port (has.serves o)).1);
  }

  pub given-one : (count : ℕ) (v : LaneView) → IsGiven s k count (λ o. list_any (is_serve o) (passing (in_set m) old.seat.me.0.serves)) v → IsGiven s k count (lane_serves s.sys.now port k) v
  given-one count v g = record {
    starts = g.starts;
    serve = λ o. g.serve o ∙ (ap (λ m. list_any (is_serve o) (passing (in_set m) old.seat.me.0.serves)) set ∙ (gets s.sys.now sound k o later old.seat.me.0.serves port (has.serves o)).0);
  }

-- all lanes are first ones, where each serves what it should
pub first-ones : (s : Shared) (n : ℕ) (port : Bool) (serves : ℕ → ℕ → Bool) (vs : List LaneView) → ((o : ℕ) → root_serves s.sys.now port n o ≡ serves 0 o) → ((i o : ℕ) → lane_serves s.sys.now port (i + 1) o ≡ serves (i + 1) o)
    → length vs ≡ n → FirstLane s n port vs → AreGiven s n port (rest_of vs) → AreFirst s n serves vs
first-ones s n port serves [] zero-is more-are long none others = absurd none
first-ones s n port serves (v ∷ vs) zero-is more-are long one others = record {
  count = long;
  each = λ i u at. starts i u at;
  serve = λ i u at o. serve i u at o;
}
  where
    starts : (i : ℕ) (u : LaneView) → slice_get (v ∷ vs) i ≡ Some u → IsNewLaneOf (world_name s n) s.sys.now i u
    starts zero u at = let is : v ≡ u = cc in subst (IsNewLaneOf (world_name s n) s.sys.now 0) is one.starts
    starts (suc i) u at = let up : i + 1 ≡ suc i = omega arith in subst (λ k. IsNewLaneOf (world_name s n) s.sys.now k u) up (others i u at).starts

    serve : (i : ℕ) (u : LaneView) → slice_get (v ∷ vs) i ≡ Some u → (o : ℕ) → u.serves o ≡ serves i o
    serve zero u at o = let is : v ≡ u = cc in subst (λ u. u.serves o ≡ serves 0 o) is (one.serve o ∙ zero-is o)
    serve (suc i) u at o = let up : i + 1 ≡ suc i = omega arith in (others i u at).serve o ∙ (more-are i o ∙ ap (λ k. serves k o) up)

not-zero : (i : ℕ) → eqb (i + 1) 0 ≡ false
not-zero i = ne_eqb (i + 1) 0 (λ e. absurd (omega arith))

pub all-first : (s : Shared) (n : ℕ) (vs : List LaneView) → length vs ≡ n → FirstLane s n false vs → AreGiven s n false (rest_of vs) → AreFirst s n (serves_all s.sys.now) vs
all-first s n vs = first-ones s n false (serves_all s.sys.now) vs (λ o. and-true (is_object s.sys.now o)) (λ i o. sym (λ t. not-zero i t && is_object s.sys.now o))

pub port-first : (s : Shared) (sound : IsSound s.sys.now) (n : ℕ) → length s.sys.now.objects < n → (vs : List LaneView) → length vs ≡ n → FirstLane s n true vs → AreGiven s n true (rest_of vs) → AreFirst s n (serves_one s.sys.now) vs
port-first s sound n enough vs = first-ones s n true (serves_one s.sys.now) vs (λ o. none-left s.sys.now sound n o enough)
    (λ i o. sym (λ t. not (not-zero i t) && option_map_or (λ d. d.priority == o) (slice_get s.sys.now.objects (i + 1 - 1)) false))

-- what holds of a result, by three that do
pub three-ok : {A E : Type 0} (r : Result A E) (P Q R S : A → Type 0) → IfOk r P → IfOk r Q → IfOk r R → ((a : A) → P a → Q a → R a → S a) → IfOk r S
three-ok (Ok a) P Q R S p q r f = f a p q r
three-ok (Err e) P Q R S p q r f = tt
