-- All lanes are taken in.
use Rattle.std.proofs.Common.{◌≡◌, ◌∙◌, ℕ, suc, ◌+◌, ◌-◌, ◌<◌, ◌==◌, eqb, Bool, true, false, cond, List, [], ◌∷◌, ◌++◌, length, map, slice_index_or, refl, sym, ap, subst, arith, length-append}
use Rattle.std.specs.List.{count_by, remove}
use Rattle.std.proofs.lemmas.List.{length-map}
use Rattle.std.proofs.lemmas.List.Sums.{sum_by-append}
use Rattle.qp_model.proofs.ListLemmas.{nothing-left}
use Rattle.qp_model.specs.declared.systems.System.{System}
use Rattle.qp_calls.specs.LaneView.{LaneView}
use Rattle.qp_table.specs.Counting.{Each}
use Rattle.qp_table.specs.After.{views_joined}
use Rattle.qp_table.specs.declared.view.View.{View}
use Rattle.qp_side.specs.Told.{both_of}
use Rattle.qp_side.specs.declared.view.SideView.{SideView}
use Rattle.qp_table.specs.Lane.{lane_number, lane_of}
use Rattle.qp_shared_lane.specs.declared.lane.LaneState.{LaneState}
use Rattle.qp_shared_lane.specs.Lane.{state_view}
use Rattle.qp_shared_lane.proofs.LawLemmas.{worlds_name_tables}
use Rattle.qp_shared_ends.specs.Joining.{all_both, all_joined, recs_in, side_of, table_of}
use Rattle.qp_shared.specs.declared.lane.SharedLane.{SharedLane}
use Rattle.qp_shared.specs.declared.shared.Shared.{Shared}
use Rattle.qp_shared.specs.Ending.{AreAll, IsOn, lane_states}
use Rattle.qp_shared.specs.Lane.{lane_view, shared_records}
use Rattle.qp_shared.specs.Starting.{world_name}

-- the first one, taken out
pub front : {A : Type 0} (xs : List A) (x : A) (rest : List A) → 0 < length xs → x ≡ slice_index_or xs 0 x → rest ≡ remove xs 0 → xs ≡ x ∷ rest
front [] x rest some is left = absurd (omega arith)
front (y ∷ ys) x rest some is left = (λ i. sym is i ∷ ys) ∙ (λ i. x ∷ sym left i)

pub same-views : (ls : List SharedLane) → map lane_view ls ≡ map state_view (lane_states ls)
same-views [] = refl
same-views (l ∷ ls) = ap (λ vs. lane_view l ∷ vs) (same-views ls)

pub same-records : (ls : List SharedLane) → map shared_records ls ≡ map recs_in (lane_states ls)
same-records [] = refl
same-records (l ∷ ls) = ap (λ vs. shared_records l ∷ vs) (same-records ls)

-- a lane of this world is on its tables, which became so many
is-on : (s : Shared) (n : ℕ) (l : LaneState) → (state_view l).world ≡ world_name s n → IsOn s.words.shared.table_id s.side.shared.table_id l × (l.count ≡ n)
unfolding lane_of
is-on s n l same =
    let names = worlds_name_tables l.words.now.shared.table_id l.side.words.now.shared.table_id s.words.shared.table_id s.side.shared.table_id l.count n same in
    ((l.own ∙ names.0, l.side.own ∙ names.1, nothing-left l.side.seat.me.1 l.side.bare), names.2)

pub are-on : (s : Shared) (n : ℕ) (ls : List SharedLane) → Each (λ (v : LaneView). v.world ≡ world_name s n) (map lane_view ls) → Each (IsOn s.words.shared.table_id s.side.shared.table_id) (lane_states ls)
are-on s n [] e = tt
are-on s n (l ∷ ls) e = ((is-on s n l.state e.0).0, are-on s n ls e.1)

pub of-system : (sys : System) (ls : List SharedLane) → Each (λ (v : LaneView). v.sys ≡ sys) (map lane_view ls) → Each (λ (l : LaneState). l.sys.now ≡ sys) (lane_states ls)
unfolding lane_of
of-system sys [] e = tt
of-system sys (l ∷ ls) e = (e.0, of-system sys ls e.1)

-- how many numbers a lane has on each table
abbrev pub share : LaneState → ℕ
share l = length l.seat.me.0.logs + length l.seat.me.0.lane_numbers

abbrev pub side_share : LaneState → ℕ
side_share l = length l.side.seat.me.0.view.logs + length l.side.seat.me.0.view.lane_numbers

unfoldable pub sum_of : (LaneState → ℕ) → List SharedLane → ℕ
sum_of f [] = 0
sum_of f (l ∷ ls) = f l.state + sum_of f ls

joined-sum : (ls : List SharedLane) (v : View) → length (all_joined v (map table_of (lane_states ls))).logs + length (all_joined v (map table_of (lane_states ls))).lane_numbers ≡ length v.logs + length v.lane_numbers + sum_of share ls
unfolding sum_of
joined-sum [] v = omega arith
joined-sum (l ∷ ls) v =
    let w : View = l.state.seat.me.0 in
    let r = joined-sum ls (views_joined v w) in let a = length-append v.logs w.logs in let b = length-append v.lane_numbers w.lane_numbers in
    r ∙ (let z : length (v.logs ++ w.logs) + length (v.lane_numbers ++ w.lane_numbers) + sum_of share ls ≡ length v.logs + length v.lane_numbers + (length w.logs + length w.lane_numbers + sum_of share ls) = omega arith in z)

both-sum : (ls : List SharedLane) (v : SideView) → length (all_both v (map side_of (lane_states ls))).view.logs + length (all_both v (map side_of (lane_states ls))).view.lane_numbers ≡ length v.view.logs + length v.view.lane_numbers + sum_of side_share ls
unfolding sum_of
both-sum [] v = omega arith
both-sum (l ∷ ls) v =
    let w : SideView = l.state.side.seat.me.0 in
    let r = both-sum ls (both_of v w) in let a = length-append v.view.logs w.view.logs in let b = length-append v.view.lane_numbers w.view.lane_numbers in
    r ∙ (let z : length (v.view.logs ++ w.view.logs) + length (v.view.lane_numbers ++ w.view.lane_numbers) + sum_of side_share ls ≡ length v.view.logs + length v.view.lane_numbers + (length w.view.logs + length w.view.lane_numbers + sum_of side_share ls) = omega arith in z)

-- each has one number, but lane 0 all that were given to none
abbrev pub Shares : ℕ → (LaneState → ℕ) → LaneState → Type 0
Shares n f l = (f l ≡ cond (eqb (state_view l).lane 0) (50 - n) 1) × (0 < f l)

abbrev zeros : List SharedLane → ℕ
zeros ls = count_by (λ (v : LaneView). v.lane == 0) (map lane_view ls)

one-zero : (l : SharedLane) (ls : List SharedLane) → zeros (l ∷ ls) ≡ cond {A = ℕ} (eqb (lane_view l).lane 0) 1 0 + zeros ls
one-zero l ls = sum_by-append (λ (v : LaneView). cond {A = ℕ} (v.lane == 0) 1 0) (lane_view l ∷ []) (map lane_view ls) ∙ same (cond (eqb (lane_view l).lane 0) 1 0) (zeros ls)
  where
    same : (x y : ℕ) → 0 + x + y ≡ x + y
    same x y = omega arith

without-zero : (n : ℕ) (f : LaneState → ℕ) (ls : List SharedLane) → Each (Shares n f) (lane_states ls) → zeros ls ≡ 0 → sum_of f ls ≡ length ls
unfolding sum_of
without-zero n f [] e z = refl
without-zero n f (l ∷ ls) e z = go (eqb (state_view l.state).lane 0) e.0.0 (sym (one-zero l ls) ∙ z) (without-zero n f ls e.1)
  where
    go : (b : Bool) → f l.state ≡ cond b (50 - n) 1 → cond {A = ℕ} b 1 0 + zeros ls ≡ 0 → (zeros ls ≡ 0 → sum_of f ls ≡ length ls) → f l.state + sum_of f ls ≡ suc (length ls)
    go true is z r = absurd (omega arith)
    go false is z r = let a = r (omega arith) in omega arith

with-zero : (n : ℕ) (f : LaneState → ℕ) (ls : List SharedLane) → Each (Shares n f) (lane_states ls) → zeros ls ≡ 1 → (sum_of f ls + 1 ≡ 50 - n + length ls) × (n < 50)
unfolding sum_of
with-zero n f [] e z = let h : ◌≡◌ {A = ℕ} 0 1 = z in absurd (omega arith)
with-zero n f (l ∷ ls) e z = go (eqb (state_view l.state).lane 0) e.0.0 (sym (one-zero l ls) ∙ z) (without-zero n f ls e.1) (with-zero n f ls e.1)
  where
    go : (b : Bool) → f l.state ≡ cond b (50 - n) 1 → cond {A = ℕ} b 1 0 + zeros ls ≡ 1 → (zeros ls ≡ 0 → sum_of f ls ≡ length ls) → (zeros ls ≡ 1 → (sum_of f ls + 1 ≡ 50 - n + length ls) × (n < 50))
        → (f l.state + sum_of f ls + 1 ≡ 50 - n + suc (length ls)) × (n < 50)
    go true is z r q = let a = r (omega arith) in let some : 0 < f l.state = e.0.1 in (omega arith, omega arith)
    go false is z r q = let a = q (omega arith) in let a0 = a.0 in (omega arith, a.1)

shares : (s : Shared) (n : ℕ) (ls : List SharedLane) → Each (λ (v : LaneView). v.world ≡ world_name s n) (map lane_view ls) → Each (Shares n share) (lane_states ls) × Each (Shares n side_share) (lane_states ls)
unfolding lane_of lane_number
shares s n [] e = (tt, tt)
shares s n (l ∷ ls) e =
    let r = shares s n ls e.1 in let g : LaneState = l.state in let count = (is-on s n g e.0).1 in let one = g.holds.lane in let side_one = g.holds.side_lane in
    let a : share g ≡ cond (eqb (lane_number g.seat.me.0) 0) (50 - n) 1 = subst (λ k. share g ≡ cond (eqb (lane_number g.seat.me.0) 0) (50 - k) 1) count g.holds.rights in
    let b : side_share g ≡ cond (eqb (lane_number g.seat.me.0) 0) (50 - n) 1 = subst (λ k. side_share g ≡ cond (eqb (lane_number g.seat.me.0) 0) (50 - k) 1) count g.holds.side_rights in
    let p : 0 < share g = omega arith in let q : 0 < side_share g = omega arith in
    (((a, p), r.0), ((b, q), r.1))

-- all of them together have all numbers
pub all-numbers : (s : Shared) (ls : List SharedLane) → AreAll s (map lane_view ls) → (sum_of share ls ≡ 49) × (sum_of side_share ls ≡ 49)
all-numbers s ls all =
    let n : ℕ = length (map lane_view ls) in let long : n ≡ length ls = length-map ls lane_view in
    let e = shares s n ls all.worlds in let zero_once = all.once 0 all.some in
    let a = with-zero n share ls e.0 zero_once in let b = with-zero n side_share ls e.1 zero_once in
    let a0 = a.0 in let a1 = a.1 in let b0 = b.0 in
    (omega arith, omega arith)

-- taken into the first one
pub whole-table : (s : Shared) (first : SharedLane) (others : List SharedLane) → AreAll s (map lane_view (first ∷ others))
    → length (all_joined (table_of first.state) (map table_of (lane_states others))).logs + length (all_joined (table_of first.state) (map table_of (lane_states others))).lane_numbers ≡ 49
unfolding sum_of
whole-table s first others all = joined-sum others (table_of first.state) ∙ (all-numbers s (first ∷ others) all).0

pub whole-side : (s : Shared) (first : SharedLane) (others : List SharedLane) → AreAll s (map lane_view (first ∷ others))
    → length (all_both (side_of first.state) (map side_of (lane_states others))).view.logs + length (all_both (side_of first.state) (map side_of (lane_states others))).view.lane_numbers ≡ 49
unfolding sum_of
whole-side s first others all = both-sum others (side_of first.state) ∙ (all-numbers s (first ∷ others) all).1
