-- What meetings and looks leave of a lane, and rows of lanes.
use Rattle.std.specs.Prelude.{◌≡◌, ℕ, Bool, List, [], ◌∷◌, ⊤, IsTrue}
use Rattle.std.specs.List.{AllByRecursion}
use Rattle.qp_model.specs.WordLaw.{is_object}
use Rattle.qp_calls.specs.LaneView.{LaneView}
use Rattle.qp_calls_log.specs.Meeting.{IsTogether}
use Rattle.qp_port_phases.specs.Rows.{Numbers}

-- each lane of a row is of the table of the first, and these are objects of its system
abbrev pub AreTogether : {T : Type 0} → (T → LaneView) → LaneView → List T → Type 0
AreTogether view v [] = ⊤
AreTogether view v (x ∷ xs) = IsTogether v (view x) × AreTogether view v xs

-- all lanes of a row are of one table
abbrev pub IsTable : {T : Type 0} → (T → LaneView) → List T → Type 0
IsTable view [] = ⊤
IsTable view (x ∷ xs) = AreTogether view (view x) xs

abbrev pub AreObjects : LaneView → List ℕ → Type 0
AreObjects v ps = AllByRecursion (λ p. IsTrue (is_object v.sys p)) ps

abbrev pub AreOneTable : {T : Type 0} → (T → LaneView) → List ℕ → List T → Type 0
AreOneTable view objects [] = ⊤
AreOneTable view objects (first ∷ others) = AreTogether view (view first) others × AreObjects (view first) objects

-- the same worker, which may still take a turn, and stands where it stood
pub record Kept {T : Type 0} (Ready : T → Type 0) (Same : T → T → Type 0) (waits remains : T → Bool) (numbers : T → Numbers) (a b : T) : Type 0 where
  pub ready : Ready b
  pub same : Same a b
  pub waits_still : waits b ≡ waits a
  pub remains_still : remains b ≡ remains a
  pub numbers_still : numbers b ≡ numbers a

abbrev pub KeepEach : {T : Type 0} → (T → Type 0) → (T → T → Type 0) → (T → Bool) → (T → Bool) → (T → Numbers) → List T → List T → Type 0
KeepEach Ready Same waits remains numbers [] [] = ⊤
KeepEach Ready Same waits remains numbers (x ∷ xs) (y ∷ ys) = Kept Ready Same waits remains numbers x y × KeepEach Ready Same waits remains numbers xs ys
KeepEach Ready Same waits remains numbers [] (y ∷ ys) = ⊥
KeepEach Ready Same waits remains numbers (x ∷ xs) [] = ⊥

abbrev pub SameEach : {T : Type 0} → (T → T → Type 0) → List T → List T → Type 0
SameEach Same [] [] = ⊤
SameEach Same (x ∷ xs) (y ∷ ys) = Same x y × SameEach Same xs ys
SameEach Same [] (y ∷ ys) = ⊥
SameEach Same (x ∷ xs) [] = ⊥
