-- The root, before and after a lane was given out.
use Rattle.std.proofs.Common.{◌≡◌, ℕ, suc, ◌+◌, ◌-◌, ◌<◌, ◌≤◌, Bool, cond, List, [], ◌∷◌, refl, sym, ◌∙◌, ap, arith, eq-eqb, ne_eqb}
use Rattle.qp_model.specs.Lists.{count_up}
use Rattle.qp_table.specs.Counting.{many, without}
use Rattle.qp_table.specs.Rule.{is_number}
use Rattle.qp_table.specs.After.{empty_view, newcomer, passing, failing}
use Rattle.qp_table.specs.declared.view.Serve.{Serve}
use Rattle.qp_table.specs.declared.view.View.{View}
use Rattle.qp_side.specs.Told.{side_root, root_less, seat_with}
use Rattle.qp_side.specs.declared.view.SideView.{SideView}
use Rattle.qp_shared_ends.specs.Seats.{root_left, lane_new, as_lane_seat}
use Rattle.qp_shared.specs.Starting.{AreFirstViews}
use Rattle.qp_shared_ends.proofs.Marks.{length-up}

numbers-are : (k : ℕ) → k < 49 → count_up k (49 - k) ≡ k ∷ count_up (k + 1) (49 - (k + 1))
numbers-are k few = ap (count_up k) (let e : 49 - k ≡ suc (49 - (k + 1)) = omega arith in e)

without-first : (k : ℕ) → k < 49 → without (is_number k) (count_up k (49 - k)) ≡ count_up (k + 1) (49 - (k + 1))
without-first k few = ap (without (is_number k)) (numbers-are k few) ∙ (λ i. cond (eq-eqb k k refl i) (count_up (k + 1) (49 - (k + 1))) (k ∷ without (is_number k) (count_up (k + 1) (49 - (k + 1)))))

without-second : (k : ℕ) → 0 < k → k < 49 → without (is_number k) (0 ∷ count_up k (49 - k)) ≡ 0 ∷ count_up (k + 1) (49 - (k + 1))
without-second k some few = (λ i. cond (ne_eqb 0 k (λ e. absurd (omega arith)) i) (count_up k (49 - k)) (0 ∷ without (is_number k) (count_up k (49 - k)))) ∙ ap (λ l. 0 ∷ l) (without-first k few)

pub number-left : (k : ℕ) → k < 49 → 0 < many (is_number k) (count_up k (49 - k))
number-left k few = let one = ap (λ (t : Bool). cond {A = ℕ} t 1 0) (eq-eqb k k refl) in let e = ap (many (is_number k)) (numbers-are k few) in omega arith

-- the views of a lane that is given out
pub given-views : (number count : ℕ) (t : Serve → Bool) (old : View) (beside : SideView) (v : View) (s : SideView) → 0 < number → v ≡ lane_new number t old → s ≡ seat_with number t beside → beside.view.serves ≡ old.serves → AreFirstViews number count v s
given-views number count t old beside v s some is side same =
    let serves : passing t old.serves ≡ v.serves = ap (λ (z : View). z.serves) (sym is) in record {
      numbers = [];
      side_numbers = [];
      table = is ∙ (λ i. record empty_view { logs = record { number = number; recs = [] } ∷ []; serves = serves i });
      side = side ∙ (λ i. record { view = record empty_view { logs = record { number = number; recs = [] } ∷ []; serves = (ap (passing t) same ∙ serves) i }; stops = []; answered = [] });
      rights = sym (ap (λ (b : Bool). cond b (50 - count) 1) (ne_eqb number 0 (λ e. absurd (omega arith))));
      side_rights = sym (ap (λ (b : Bool). cond b (50 - count) 1) (ne_eqb number 0 (λ e. absurd (omega arith))));
    }

-- the root then
pub root-left : (k : ℕ) (t : Serve → Bool) (old new : View) → k < 49 → old ≡ newcomer (count_up k (49 - k)) old.serves → new ≡ root_left k t old → new ≡ newcomer (count_up (k + 1) (49 - (k + 1))) new.serves
root-left k t old new few is left =
    let there : new ≡ root_left k t (newcomer (count_up k (49 - k)) old.serves) = left ∙ ap (root_left k t) is in
    let serves : failing t old.serves ≡ new.serves = ap (λ (z : View). z.serves) (sym there) in
    there ∙ (λ i. newcomer (without-first k few i) (serves i))

pub side-left : (k : ℕ) (t : Serve → Bool) (old new : SideView) (xs ys : List Serve) → 0 < k → k < 49 → old ≡ side_root (0 ∷ count_up k (49 - k)) xs → new ≡ root_less k t old → failing t xs ≡ ys
    → new ≡ side_root (0 ∷ count_up (k + 1) (49 - (k + 1))) ys
side-left k t old new xs ys some few is left serves = left ∙ (ap (root_less k t) is ∙ (λ i. side_root (without-second k some few i) (serves i)))

-- the views of the root as lane 0
pub kept-views : (count : ℕ) (v : View) (beside s : SideView) → count ≤ 49 → v ≡ newcomer (count_up count (49 - count)) v.serves → beside ≡ side_root (0 ∷ count_up count (49 - count)) v.serves → s ≡ as_lane_seat 0 beside → AreFirstViews 0 count v s
kept-views count v beside s few is side number = let l = length-up count (49 - count) in record {
  numbers = count_up count (49 - count);
  side_numbers = count_up count (49 - count);
  table = is;
  side = number ∙ ap (as_lane_seat 0) side;
  rights = omega arith;
  side_rights = omega arith;
}

-- the root of a new table
pub new-root : (xs : List Serve) (v : View) → v ≡ newcomer (count_up 1 48) xs → v ≡ newcomer (count_up 1 (49 - 1)) v.serves
new-root xs v is = is ∙ (λ i. newcomer (count_up 1 48) (sym (ap (λ (z : View). z.serves) is) i))

pub new-side : (xs : List Serve) (v : View) (s : SideView) → v ≡ newcomer (count_up 1 48) xs → s ≡ side_root (count_up 0 49) xs → s ≡ side_root (0 ∷ count_up 1 (49 - 1)) v.serves
new-side xs v s is side = side ∙ (λ i. side_root (count_up 0 49) (sym (ap (λ (z : View). z.serves) is) i))
