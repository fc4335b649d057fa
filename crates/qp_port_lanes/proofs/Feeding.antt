-- A lane hands in 7 for want of memory alone.
use Rattle.std.proofs.Common.{◌≡◌, ◌⊎◌, ℕ, ◌≤◌, ◌==◌, ◌||◌, Bool, true, false, [], ◌∷◌, refl, sym, ◌∙◌, ap, subst, inl, inr, arith}
use Rattle.std.specs.List.{list_any}
use Rattle.std.proofs.lemmas.Bool.Decides.{nat_tests}
use Rattle.qp_model.specs.declared.systems.System.{System}
use Rattle.qp_calls.specs.LaneView.{LaneView}
use Rattle.qp_calls.specs.Notes.{last_code}
use Rattle.qp_dispatch.specs.declared.objects.Turn.{Turn}
use Rattle.qp_dispatch.specs.declared.objects.Turn.TheVariants as turn
use Rattle.qp_kernel_turns.specs.Lanes.{HandsCode, HasFound, LaneTurns}
use Rattle.qp_port_phases.specs.declared.lanes.Passed.{Passed}
use Rattle.qp_port_phases.specs.declared.lanes.Passed.TheVariants as passed
use Rattle.qp_port_lanes.specs.declared.cursor.Cursor.{Cursor}
use Rattle.qp_port_lanes.specs.Answers.{Feeds, IsFed, is_idle, is_short, turn_by}
use Rattle.qp_port_lanes.specs.Passing.{CursorPasses}
use Rattle.qp_port_lanes.specs.SourceTurning.{SourceTurns}
use Rattle.qp_port_lanes.proofs.Seeing.{SeenMore}
use Rattle.qp_calls_log.proofs.NoteLemmas.{last-small}

pub fed-same : (v w : LaneView) → w.stops ≡ v.stops → IsFed v → IsFed w
fed-same v w same h = subst (λ codes. list_any (λ code. code == 7) codes ≡ false) (sym same) h

-- one more code, which isn't 7
fed-one : (code : ℕ) (v w : LaneView) → code ≤ 6 → w.stops ≡ code ∷ v.stops → IsFed v → IsFed w
fed-one code v w small one h =
    let other : (code == 7) ≡ false = grind (arith, nat_tests, small) in
    subst (λ codes. list_any (λ c. c == 7) codes ≡ false) (sym one) (ap (λ b. b || list_any (λ c. c == 7) v.stops) other ∙ h)

fed-why : (v w : LaneView) → HandsCode v w ⊎ HasFound v w → IsFed v → IsFed w
fed-why v w (inl k) h = fed-one (last_code w.told) v w (last-small w.told) k.stops h
fed-why v w (inr k) h = fed-same v w k.stops h

pub fed-new : (v : LaneView) → v.stops ≡ [] → IsFed v
fed-new v none = subst (λ codes. list_any (λ code. code == 7) codes ≡ false) (sym none) refl

pub fed-seen : (v w : LaneView) → SeenMore v w → IsFed v → IsFed w
fed-seen v w more h = fed-same v w more.stops h

-- a turn that came to its end isn't short of memory
pub idle-long : (t : Turn) → is_idle t ≡ true → is_short t ≡ false
idle-long turn.Idle idle = refl
idle-long turn.Stopped idle = refl
idle-long turn.Memory idle = absurd (cc)

pub same-feeds : (v w : LaneView) (t : Turn) → w.stops ≡ v.stops → Feeds v w t
same-feeds v w t same long h = fed-same v w same h

pub lane-feeds : (acts : Bool) (v w : LaneView) (t : Turn) → LaneTurns acts v w t → Feeds v w t
lane-feeds acts v w turn.Idle k long h = fed-same v w k.stops h
lane-feeds acts v w turn.Stopped k long h = fed-why v w k.handed h
lane-feeds acts v w turn.Memory k long h = absurd (cc)

pub source-feeds : (sys : System) (x y : Cursor) (v w : LaneView) (t : Turn) → SourceTurns sys x y v w t → Feeds v w t
source-feeds sys x y v w turn.Idle k long h = fed-same v w k.goes.stops h
source-feeds sys x y v w turn.Stopped k long h = fed-why v w k.why h
source-feeds sys x y v w turn.Memory k long h = absurd (cc)

pub passes-feed : (sys : System) (x y : Cursor) (v w : LaneView) (p : Passed) → CursorPasses sys x y v w p → Feeds v w (turn_by p)
passes-feed sys x y v w passed.Yes k long h = fed-same v w k.stays.along.stops h
passes-feed sys x y v w (passed.Found q now) k long h = fed-same v w k.stays.along.stops h
passes-feed sys x y v w passed.Stopped k long h = fed-why v w k.stops.why h
passes-feed sys x y v w passed.Memory k long h = absurd (cc)
