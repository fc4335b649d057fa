-- What a look lets happen in a world: at most one stimulus, in another lane than the kernel's.
use Rattle.std.specs.Prelude.{◌≡◌, ◌≢◌, ◌⊎◌, ℕ, ◌+◌, ◌-◌, ◌<◌, ◌≤◌, Bool, true, false, ◌&&◌, List, [], ◌∷◌, ◌++◌, length, drop, get_or, IsTrue, Some, None}
use Rattle.std.specs.List.{list_all}
use Rattle.qp_model.specs.declared.stimulus.Stim.{Stim}
use Rattle.qp_model.specs.declared.words.Word.{Word}
use Rattle.qp_model.specs.declared.bodies.Entry.{Entry}
use Rattle.qp_model.specs.declared.bodies.Body.TheVariants as body
use Rattle.qp_model.specs.Told.{Told, plain}
use Rattle.qp_model.specs.Kernels.{sim}
use Rattle.qp_model.specs.OneOrder.{Placed, acts_next}
use Rattle.qp_model.specs.Sources.{StimFits}
use Rattle.qp_calls.specs.LaneView.{LaneView, is_codeless, is_known, no_code}
use Rattle.qp_kernel.specs.declared.world.Irq.{Irq}
use Rattle.qp_kernel.specs.declared.world.Irq.TheVariants as irq
use Rattle.qp_kernel.specs.Happenings.{lane_order, told_by_source, has_no_stim}

-- the lane chosen, its records, the codes that it handed to `stop` and the object set by `by` are as they were; words may have gone on, and
-- records of another lane may have come behind those of the log
pub record IsLaneKept (old new : LaneView) : Type 0 where
  pub world : new.world ≡ old.world
  pub lane : new.lane ≡ old.lane
  pub log : (more : List Placed) × (new.log ≡ old.log ++ more)
  pub sys : new.sys ≡ old.sys
  pub told : new.told ≡ old.told
  pub spare : new.spare ≡ old.spare
  pub by : new.by ≡ old.by
  pub serves : (o : ℕ) → new.serves o ≡ old.serves o
  pub rise : (w : Word) → old.mark w ≤ new.mark w
  pub shown : (w : Word) → new.mark w ≡ old.mark w → new.shown w ≡ old.shown w
  pub stops : new.stops ≡ old.stops
  pub own : (a : ℕ) → new.own a ≡ old.own a
  pub event : (e : Entry) → IsTrue (is_known old e) → new.event e ≡ old.event e
  pub plan : new.plan ≡ old.plan

-- the stop word wasn't found set, and the hands are as they were
pub record IsUntouched (old new : LaneView) : Type 0 where
  pub kept : IsLaneKept old new
  pub answered : new.answered ≡ old.answered
  pub hands : new.hands ≡ old.hands

-- the stimuli of a source, which is counted from 1
abbrev pub source_stimuli : List (List Stim) → ℕ → List Stim
source_stimuli plan source = get_or plan (source - 1) []

-- This stimulus of this source, by its place from 1, is the one that acts in a look; others are left behind it.
pub record Acts (v : LaneView) (base : Bool) (source place : ℕ) (s : Stim) : Type 0 where
  pub some : 0 < source
  pub few : source ≤ length v.plan
  pub counted : 0 < place
  pub left : List Stim
  pub its : drop (place - 1) (source_stimuli v.plan source) ≡ s ∷ left
  pub next : has_no_stim v → acts_next v.sys v.plan (lane_order v) base ≡ Some (record { source = source; place = place })

-- it came to these records in the lane of its source
abbrev pub Comes : ℕ → List Told → LaneView → LaneView → Type 0
Comes source g old new = new.happened ≡ old.happened ++ (record { at = length old.told; source = source; told = g }) ∷ []

-- with all its records
pub record Happens (look : ℕ) (base : Bool) (old new : LaneView) : Type 0 where
  pub untouched : IsUntouched old new
  pub source : ℕ
  pub place : ℕ
  pub s : Stim
  pub one : List Told
  pub acts : Acts old base source place s
  pub fits : StimFits old.sys sim s false one
  pub comes : Comes source (plain (body.Stim place look) ∷ one) old new

-- with its assertion
pub record HappensToFail (look : ℕ) (base : Bool) (old new : LaneView) : Type 0 where
  pub source : ℕ
  pub place : ℕ
  pub s : Stim
  pub one : List Told
  pub acts : Acts old base source place s
  pub fits : StimFits old.sys sim s true one
  pub comes : Comes source (plain (body.Stim place look) ∷ one) old new

-- up to the `spill` of its lane
pub record HappensInPart (look : ℕ) (base : Bool) (old new : LaneView) : Type 0 where
  pub source : ℕ
  pub place : ℕ
  pub s : Stim
  pub one : List Told
  pub back : List Told
  pub asserted : Bool
  pub size : ℕ
  pub acts : Acts old base source place s
  pub some : back ≢ []
  pub fits : StimFits old.sys sim s asserted (one ++ back)
  pub states : size ≡ length (told_by_source source old.happened) + (1 + length one)
  pub full : 999992 < size
  pub comes : Comes source (plain (body.Stim place look) ∷ (one ++ plain (body.Spill size) ∷ [])) old new

-- not at all, since its lane was full
pub record FindsNoRoom (base : Bool) (old new : LaneView) : Type 0 where
  pub source : ℕ
  pub place : ℕ
  pub s : Stim
  pub size : ℕ
  pub acts : Acts old base source place s
  pub states : size ≡ length (told_by_source source old.happened)
  pub full : 999992 < size
  pub comes : Comes source (plain (body.Spill size) ∷ []) old new

-- no source may act
pub record HasNone (acts base : Bool) (old new : LaneView) : Type 0 where
  pub untouched : IsUntouched old new
  pub happened : new.happened ≡ old.happened
  pub asked : acts ≡ false → new.asked ≡ old.asked
  pub none : acts ≡ true → has_no_stim old → acts_next old.sys old.plan (lane_order old) base ≡ None

-- no lane of the world has handed in a code or found one
abbrev pub is_unset : LaneView → Bool
is_unset v = no_code v.stops && no_code v.answered && list_all is_codeless v.aside.purses

-- the stop word was found set, or the stimulus set it
pub record IsStopped (look : ℕ) (base : Bool) (old new : LaneView) : Type 0 where
  pub kept : IsLaneKept old new
  pub code : ℕ
  pub answered : new.answered ≡ code ∷ old.answered
  pub why : ((new.happened ≡ old.happened) × (is_unset old ≡ false)) ⊎ HappensToFail look base old new ⊎ HappensInPart look base old new ⊎ FindsNoRoom base old new

-- What a look with this count let happen; `acts` tells whether the world has sources that act in looks, and `base` that no step is under way.
-- Without such sources the answer is `Nothing`.
abbrev pub Interrupts : Bool → ℕ → Bool → LaneView → LaneView → Irq → Type 0
Interrupts acts look base old new irq.Happened = (acts ≡ true) × Happens look base old new
Interrupts acts look base old new irq.Nothing = HasNone acts base old new
Interrupts acts look base old new irq.Stopped = (acts ≡ true) × IsStopped look base old new
Interrupts acts look base old new irq.Memory = (acts ≡ true) × IsLaneKept old new
