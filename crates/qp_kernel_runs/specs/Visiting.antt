-- A stimulus in the lane of its source, as lane 0 sees it.
use Rattle.std.specs.Prelude.{◌≡◌, ◌≢◌, ◌⊎◌, ℕ, ◌+◌, ◌<◌, Bool, true, false, List, [], ◌∷◌, ◌++◌, map, length, get_or, IsFalse, IsTrue}
use Rattle.std.specs.List.{list_all}
use Rattle.qp_model.specs.declared.stimulus.Stim.{Stim}
use Rattle.qp_model.specs.declared.systems.System.{System}
use Rattle.qp_model.specs.declared.words.Word.TheVariants as word
use Rattle.qp_model.specs.declared.bodies.Body.TheVariants as body
use Rattle.qp_model.specs.Told.{Told, plain, for_object}
use Rattle.qp_model.specs.Sources.{StimFits}
use Rattle.qp_model.specs.WordLaw.{is_object}
use Rattle.qp_calls.specs.LaneView.{LaneView, Happening, Counts, placed_by, is_codeless}
use Rattle.qp_kernel.specs.Interrupting.{IsLaneKept}
use Rattle.qp_calls_stimulus.specs.declared.doing.Stimulated.{Stimulated}
use Rattle.qp_calls_stimulus.specs.declared.doing.Stimulated.TheVariants as stimulated
use Rattle.qp_calls_stimulus.specs.Stimulating.{begun_records}

-- The lane of the source gained these records, and the lane chosen is as it was.
pub record VisitLeaves (source : ℕ) (g : List Told) (v w : LaneView) : Type 0 where
  pub kept : IsLaneKept v w
  pub answered : w.answered ≡ v.answered
  pub lane : w.lane ≡ v.lane
  pub log : w.log ≡ v.log ++ map (placed_by source) (map (for_object 0) g)
  pub told : get_or w.aside.told source [] ≡ get_or v.aside.told source [] ++ map (for_object 0) g
  pub others : (k : ℕ) → k ≢ source → get_or w.aside.told k [] ≡ get_or v.aside.told k []
  pub lanes : length w.aside.told ≡ length v.aside.told
  pub purses : length w.aside.purses ≡ length v.aside.purses

-- every queue is empty
abbrev pub Rests : LaneView → Type 0
Rests v = (p : ℕ) → IsTrue (is_object v.sys p) → (f l m : ℕ) × (v.shown (word.Queue p) ≡ Counts f l m) × (f + l ≡ m)

-- a lane beside this one has handed in a code
abbrev pub OtherHasStopped : LaneView → Type 0
OtherHasStopped w = IsFalse (list_all is_codeless w.aside.purses)

-- the records up to an assertion
pub record EndsInAssertion (sys : System) (s : Stim) (place look : ℕ) (g : List Told) : Type 0 where
  pub one : List Told
  pub is : g ≡ begun_records place look one
  pub fits : (kernel : ℕ) → StimFits sys kernel s true one

-- the records up to the `spill` of a lane that had so many
pub record EndsInSpill (sys : System) (s : Stim) (place look had : ℕ) (g : List Told) : Type 0 where
  pub one : List Told
  pub back : List Told
  pub asserted : Bool
  pub size : ℕ
  pub is : g ≡ begun_records place look (one ++ plain (body.Spill size) ∷ [])
  pub fits : (kernel : ℕ) → StimFits sys kernel s asserted (one ++ back)
  pub some : back ≢ []
  pub states : size ≡ had + (1 + length one)
  pub full : 999992 < size

-- the `spill` alone
pub record EndsAtOnce (had : ℕ) (g : List Told) : Type 0 where
  pub is : g ≡ plain (body.Spill had) ∷ []
  pub full : 999992 < had

-- what the records are, by the answer
abbrev pub Amounts : System → Stim → ℕ → ℕ → ℕ → List Told → LaneView → LaneView → Stimulated → Type 0
Amounts sys s place look had g v w stimulated.Done =
    (one : List Told) × (g ≡ begun_records place look one) × ((kernel : ℕ) → StimFits sys kernel s false one) × (w.hands ≡ v.hands)
Amounts sys s place look had g v w stimulated.Tried = ⊥
Amounts sys s place look had g v w stimulated.Stopped =
    OtherHasStopped w × (EndsInAssertion sys s place look g ⊎ EndsInSpill sys s place look had g ⊎ EndsAtOnce had g)
Amounts sys s place look had g v w stimulated.Memory = OtherHasStopped w

pub record Visits (source : ℕ) (sys : System) (s : Stim) (place look : ℕ) (hs more : List Happening) (v w : LaneView) (answer : Stimulated) : Type 0 where
  pub g : List Told
  pub leaves : VisitLeaves source g v w
  pub more_are : more ≡ hs ++ (record { at = length v.told; source = source; told = g }) ∷ []
  pub amounts : Amounts sys s place look (length (get_or v.aside.told source [])) g v w answer
