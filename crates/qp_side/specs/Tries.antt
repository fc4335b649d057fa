-- What the tries on a time event end with.
use Rattle.std.specs.Prelude.{◌≡◌, ℕ, ◌+◌, ◌-◌, ◌*◌, ◌/◌, ◌<◌, eqb, Bool, true, false, List, [], ◌∷◌, cond}
use Rattle.qp_model.specs.declared.record.Rec.{Rec}
use Rattle.qp_table.specs.After.{rec_of}
use Rattle.qp_table.specs.declared.view.Glance.{Glance}
use Rattle.qp_side.specs.Rule.{timer_at}
use Rattle.qp_side.specs.Told.{side_noted, SideSaw, counter_in, interval_in, tick_rec}
use Rattle.qp_side.specs.declared.view.SideView.{SideView}

-- the same view, which has seen other glances
abbrev pub side_seeing : List Glance → SideView → SideView
side_seeing glances v = record v { view = record v.view { seen = glances } }

-- The word at w was found to be n, with this record, and is x then. Nothing else changed but what was seen.
pub record SideNotes (w : ℕ) (r : Rec) (v : SideView) (n x : ℕ) (u : SideView) : Type 0 where
  pub glances : List Glance
  pub is : u ≡ side_noted (side_seeing glances v) w x r
  pub saw : SideSaw w v u n x

-- armed where the counter was 0
abbrev pub ArmEnds : ℕ → ℕ → ℕ → ℕ → SideView → ℕ → Bool → SideView → Type 0
ArmEnds o t ticks interval v n true u = SideNotes (timer_at t) (rec_of 34 o (t ∷ (n / 4294967296) ∷ ticks ∷ interval ∷ [])) v n ((n / 4294967296 + 1) * 4294967296 + interval * 65536 + ticks) u
ArmEnds o t ticks interval v n false u = SideNotes (timer_at t) (rec_of 42 o (3 ∷ t ∷ (n / 4294967296) ∷ counter_in n ∷ [])) v n n u × (0 < counter_in n) × (n < 288230376151711744)

abbrev pub IdleEnds : ℕ → ℕ → SideView → ℕ → SideView → Type 0
IdleEnds o t v n u = SideNotes (timer_at t) (rec_of 37 o (t ∷ (n / 4294967296) ∷ [])) v n n u

-- disarmed where the counter wasn't 0
abbrev pub DisarmEnds : ℕ → ℕ → SideView → ℕ → Bool → SideView → Type 0
DisarmEnds o t v n true u = SideNotes (timer_at t) (rec_of 35 o (t ∷ (n / 4294967296) ∷ counter_in n ∷ [])) v n (n + 4294967296 - counter_in n) u × (0 < counter_in n)
DisarmEnds o t v n false u = IdleEnds o t v n u

abbrev pub RearmEnds : ℕ → ℕ → ℕ → SideView → ℕ → SideView → Type 0
RearmEnds o t ticks v n u = SideNotes (timer_at t) (rec_of 36 o (t ∷ (n / 4294967296) ∷ counter_in n ∷ ticks ∷ [])) v n (n + 4294967296 + ticks - counter_in n) u

-- ticked where the counter wasn't 0
abbrev pub TickEnds : ℕ → ℕ → SideView → ℕ → Bool → SideView → Type 0
TickEnds o t v n true u = SideNotes (timer_at t) (tick_rec t n) v n (n + 4294967295 + cond (eqb (counter_in n) 1) (interval_in n) 0) u × (0 < counter_in n)
TickEnds o t v n false u = IdleEnds o t v n u
