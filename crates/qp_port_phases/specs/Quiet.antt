-- When the phases of a run are over.
use Rattle.std.specs.Prelude.{◌≡◌, ◌⊎◌, ℕ, ◌+◌, ◌<◌, ◌≤◌, Bool, true, false, List, [], ◌∷◌, length, IsTrue}
use Rattle.std.specs.List.{AllByRecursion, list_all, list_any}
use Rattle.qp_model.specs.declared.words.Word.TheVariants as word
use Rattle.qp_model.specs.Stops as stop
use Rattle.qp_calls.specs.LaneView.{LaneView, Counts, is_codeless}
use Rattle.qp_port_phases.specs.Floors.{AllUnder}

-- each knows of at most as many operations of each word as v
abbrev pub AllBelow : {T : Type 0} → (T → LaneView) → LaneView → List T → Type 0
AllBelow view v xs = AllUnder view v.mark xs

-- the queue of p was seen empty
pub record IsEmpty (v : LaneView) (p : ℕ) : Type 0 where
  pub f : ℕ
  pub l : ℕ
  pub m : ℕ
  pub shown : v.shown (word.Queue p) ≡ Counts f l m
  pub empty : f + l ≡ m

abbrev pub AreEmpty : List ℕ → LaneView → Type 0
AreEmpty ps v = AllByRecursion (IsEmpty v) ps

-- the lane handed in no code and found none, and no other lane of its world did
abbrev pub IsUnstopped : LaneView → Type 0
IsUnstopped v = (v.stops ≡ []) × (v.answered ≡ []) × IsTrue (list_all is_codeless v.aside.purses)

-- the first lane knows of as many operations as each other, saw all queues empty and the stop word at 0, and no lane has a stimulus left
pub record IsQuiet {T : Type 0} (view : T → LaneView) (remains : T → Bool) (objects : List ℕ) (first : T) (others : List T) : Type 0 where
  pub below : AllBelow view (view first) others
  pub empty : AreEmpty objects (view first)
  pub none : list_any remains others ≡ false
  pub unstopped : IsUnstopped (view first)

abbrev pub HasEnded : {T : Type 0} → (T → LaneView) → (T → Bool) → List ℕ → List T → Type 0
HasEnded view remains objects [] = ⊥
HasEnded view remains objects (first ∷ others) = IsQuiet view remains objects first others

-- 7 tells of want of memory
abbrev pub IsCodeOf : Bool → ℕ → Type 0
IsCodeOf true code = code ≡ stop.memory
IsCodeOf false code = (0 < code) × (code ≤ 6)

-- The lane has just found a code in the stop word, in this call: it found more codes than before, or has handed in one since.
pub record HasFoundCode (memory : Bool) (v w : LaneView) : Type 0 where
  pub code : ℕ
  pub others : List ℕ
  pub answered : w.answered ≡ code ∷ others
  pub which : IsCodeOf memory code
  pub handed : length v.stops ≤ length w.stops
  pub now : (length v.answered ≤ length others) ⊎ (length v.stops < length w.stops)

abbrev pub FirstFound : {T : Type 0} → (T → LaneView) → Bool → List T → List T → Type 0
FirstFound view memory (x ∷ xs) (y ∷ ys) = HasFoundCode memory (view x) (view y)
FirstFound view memory _ _ = ⊥
