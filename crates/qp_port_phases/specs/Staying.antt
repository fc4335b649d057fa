-- Turns of a lane that stays in its thread over rounds.
use Rattle.std.specs.Prelude.{List, [], ◌∷◌, ⊤}
use Rattle.qp_port_phases.specs.Rows.{CountsBy, Numbers}

-- the same lane, which may take another turn, and came to the end of no row without a step
pub record GoesOn {T : Type 0} (Ready : T → Type 0) (Same : T → T → Type 0) (numbers : T → Numbers) (a b : T) : Type 0 where
  pub ready : Ready b
  pub same : Same a b
  pub counts : CountsBy 0 (numbers a) (numbers b)

-- a lane took its first turn, and went on over the rounds
pub record WorkerStays {T : Type 0} (Turned : T → T → Type 0) (Ready : T → Type 0) (Same : T → T → Type 0) (numbers : T → Numbers) (a b : T) : Type 0 where
  pub first : T
  pub turned : Turned a first
  pub on : GoesOn Ready Same numbers first b

-- the first of them became so
abbrev pub FirstIs : {T : Type 0} → (T → T → Type 0) → List T → List T → Type 0
FirstIs So [] ys = ⊤
FirstIs So (x ∷ xs) [] = ⊥
FirstIs So (x ∷ xs) (y ∷ ys) = So x y
