-- Tries on a time event, one behind another.
use Rattle.std.proofs.Common.{◌≡◌, ℕ, ◌<◌, ◌≤◌, sym, ap, subst, ◌∙◌, arith}
use Rattle.qp_table.specs.Rule.{mark_in}
use Rattle.qp_side.specs.Rule.{timer_at}
use Rattle.qp_side.specs.Told.{last_seen, SideSaw}
use Rattle.qp_side.specs.declared.view.SideView.{SideView}
use Rattle.qp_side.specs.Tries.{side_seeing}

-- only what was seen has changed, and of the time event's word x was seen last
pub record SideSeen (t : ℕ) (v u : SideView) (x : ℕ) : Type 0 where
  pub is : u ≡ side_seeing u.view.seen v
  pub saw : SideSaw (timer_at t) v u x x
  pub few : x < 288230376151711744

pub saw-then : (w : ℕ) (v z u : SideView) (y n x : ℕ) → SideSaw w v z y y → SideSaw w z u n x → SideSaw w v u n x
saw-then w v z u y n x a b =
    let le : mark_in w y ≤ mark_in w n = subst (λ k. mark_in w k ≤ mark_in w n) a.value b.le in
    let le' = a.le in record {
      le = omega arith;
      same = λ e. let s : mark_in w (last_seen w v) ≡ mark_in w y = omega arith in a.same s ∙ (sym a.value ∙ b.same (ap (mark_in w) (a.value ∙ sym (a.same s)) ∙ e));
      value = b.value;
      rises = b.rises;
      others = λ q ne. b.others q ne ∙ a.others q ne;
    }
