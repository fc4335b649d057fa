-- The kernel's lane through calls and parts of a turn.
use Rattle.std.proofs.Common.{◌≡◌, ℕ, suc, ◌≤◌, ◌<◌, Bool, true, false, List, [], ◌∷◌, ◌++◌, map, length, refl, sym, ◌∙◌, ap, subst, inl, inr, Option, Some, None, arith, append_assoc, append-nil}
use Rattle.qp_chart.specs.declared.checked.Chart.{Chart}
use Rattle.qp_model.specs.declared.systems.System.{System}
use Rattle.qp_model.specs.Course.{chart_at}
use Rattle.qp_model.specs.declared.record.Rec.{Rec}
use Rattle.qp_model.specs.declared.bodies.Body.TheVariants as body
use Rattle.qp_model.specs.Record.{item_of}
use Rattle.qp_model.specs.Told.{Told, ToldItem, for_object, plain}
use Rattle.qp_calls.specs.declared.answers.Counts.{Counts}
use Rattle.qp_calls.specs.declared.tokens.HeldEntry.{HeldEntry}
use Rattle.qp_calls.specs.Clauses.{Sees, Stops, TakesIt}
use Rattle.qp_calls.specs.LaneView.{Advances, Gains, Grows, GrowsOf, LaneView, Roomier, placed_by}
use Rattle.qp_calls.specs.Notes.{last_code, told_note}
use Rattle.qp_calls.proofs.Advancing.{advances-gains, advances-none, advances-still, advances-then}
use Rattle.qp_calls.proofs.Growing.{gains-none, room-then}
use Rattle.qp_calls.proofs.NoteLemmas.{last-snoc}
use Rattle.qp_dispatch.specs.declared.steps.Step.{Step}
use Rattle.qp_dispatch.specs.declared.steps.Step.TheVariants as step
use Rattle.qp_dispatch.specs.Objects.{ResumesAs, works_for}
use Rattle.qp_kernel.specs.Interrupting.{Happens, HasNone, IsLaneKept, IsStopped}
use Rattle.qp_kernel.specs.Turning.{seen_told, spill_told}
use Rattle.qp_kernel_turns.specs.declared.halting.Halt.{Halt}
use Rattle.qp_kernel_turns.specs.declared.halting.Halt.TheVariants as halt
use Rattle.qp_kernel_turns.specs.declared.objects.Objects.{Objects}
use Rattle.qp_kernel_turns.specs.Halting.{TurnHalts, asked_once}
use Rattle.qp_kernel_turns.specs.Lanes.{HandsIn, KeepsLane, LaneGoes, LaneHalts, LaneStarts}
use Rattle.qp_kernel_turns.specs.Objects.{ResumesAt}
use Rattle.qp_kernel_turns.specs.Starting.{StartsAll}
use Rattle.qp_kernel_turns.proofs.Turns.{noted}

-- One part behind another.

pub keeps-then : (acts : Bool) (u v w : LaneView) → KeepsLane acts u v → KeepsLane acts v w → KeepsLane acts u w
keeps-then acts u v w one two = record {
  same = record {
    sys = two.same.sys ∙ one.same.sys;
    lane = two.same.lane ∙ one.same.lane;
    world = two.same.world ∙ one.same.world;
    plan = two.same.plan ∙ one.same.plan;
    happened = refl;
    serves = λ o. two.same.serves o ∙ one.same.serves o;
    advances = advances-then u v w one.same.advances two.same.advances;
  };
  still = λ apart. two.still apart ∙ one.still apart;
  asks = λ apart. let a = one.asks apart in let b = two.asks apart in omega (arith, a, b);
  told = (one.told.0 ++ two.told.0, two.told.1 ∙ ap (λ l. l ++ two.told.0) one.told.1 ∙ append_assoc u.told one.told.0 two.told.0);
  log = (one.log.0 ++ two.log.0, two.log.1 ∙ ap (λ l. l ++ two.log.0) one.log.1 ∙ append_assoc u.log one.log.0 two.log.0);
}

pub goes-then : (acts : Bool) (u v w : LaneView) → LaneGoes acts u v → LaneGoes acts v w → LaneGoes acts u w
goes-then acts u v w one two = record {
  keeps = keeps-then acts u v w one.keeps two.keeps;
  stops = two.stops ∙ one.stops;
  answered = two.answered ∙ one.answered;
}

pub halts-then : (acts : Bool) (u v w : LaneView) (h : Halt) → LaneGoes acts u v → LaneHalts acts v w h → LaneHalts acts u w h
halts-then acts u v w h one two = record { keeps = keeps-then acts u v w one.keeps two.keeps; handed = by h two.handed }
  where
    by : (h : Halt) → HandsIn v w h → HandsIn u w h
    by halt.Stopped (inl c) = inl (record { some = c.some; stops = c.stops ∙ ap (λ l. last_code w.told ∷ l) one.stops })
    by halt.Stopped (inr f) = inr (record { found = subst (λ l. length l < length w.answered) one.answered f.found; stops = f.stops ∙ one.stops })
    by halt.Memory s = s ∙ ap (λ l. 7 ∷ l) one.stops

-- what nothing happened in is no matter of the world
pub keeps-any : (acts : Bool) (v w : LaneView) → KeepsLane false v w → KeepsLane acts v w
keeps-any acts v w k = record { same = k.same; still = λ apart. k.still refl; asks = λ apart. k.asks refl; told = k.told; log = k.log }

pub goes-any : (acts : Bool) (v w : LaneView) → LaneGoes false v w → LaneGoes acts v w
goes-any acts v w g = record { keeps = keeps-any acts v w g.keeps; stops = g.stops; answered = g.answered }

pub halts-any : (acts : Bool) (v w : LaneView) (h : Halt) → LaneHalts false v w h → LaneHalts acts v w h
halts-any acts v w h l = record { keeps = keeps-any acts v w l.keeps; handed = l.handed }

-- One call.

-- records that an object added, or none in particular
pub keeps-gains : (acts : Bool) (o r : ℕ) (ts : List ToldItem) (v m w : LaneView) → Gains ts (works_for o v) m → w ≡ works_for r m → KeepsLane acts v w
keeps-gains acts o r ts v m w g is = record {
  same = record {
    sys = ap (λ u. u.sys) is ∙ g.sys;
    lane = ap (λ u. u.lane) is ∙ g.lane;
    world = ap (λ u. u.world) is ∙ g.world;
    plan = ap (λ u. u.plan) is ∙ g.plan;
    happened = refl;
    serves = λ p. ap (λ u. u.serves p) is ∙ g.serves p;
    advances = subst (Advances v) (sym is) (advances-gains ts (works_for o v) m g);
  };
  still = λ apart. ap (λ u. u.happened) is ∙ g.happened;
  asks = λ apart. let same : w.asked ≡ v.asked = ap (λ u. u.asked) is ∙ g.asked in omega (arith, same);
  told = (ts, ap (λ u. u.told) is ∙ g.told);
  log = (map (placed_by v.lane) ts, ap (λ u. u.log) is ∙ g.log);
}

pub gains-goes : (acts : Bool) (ts : List ToldItem) (v w : LaneView) → Gains ts v w → LaneGoes acts v w
gains-goes acts ts v w g = record {
  keeps = record {
    same = record { sys = g.sys; lane = g.lane; world = g.world; plan = g.plan; happened = refl; serves = g.serves; advances = advances-gains ts v w g };
    still = λ apart. g.happened;
    asks = λ apart. let same = g.asked in omega (arith, same);
    told = (ts, g.told);
    log = (map (placed_by v.lane) ts, g.log);
  };
  stops = g.stops;
  answered = g.answered;
}

pub goes-none : (acts : Bool) (v : LaneView) → LaneGoes acts v v
goes-none acts v = gains-goes acts [] v v (gains-none v)

-- a question in vain is no matter of the records
pub goes-once : (acts : Bool) (v : LaneView) → LaneGoes acts v (asked_once v)
goes-once acts v = record {
  keeps = record {
    same = record { sys = refl; lane = refl; world = refl; plan = refl; happened = refl; serves = λ o. refl; advances = advances-none v };
    still = λ apart. refl;
    asks = λ apart. omega arith;
    told = ([], sym (append-nil v.told));
    log = ([], sym (append-nil v.log));
  };
  stops = refl;
  answered = refl;
}

-- and records behind it
pub asked-goes : (acts : Bool) (ts : List ToldItem) (v w : LaneView) → Gains ts (asked_once v) w → LaneGoes acts v w
asked-goes acts ts v w g = goes-then acts v (asked_once v) w (goes-once acts v) (gains-goes acts ts (asked_once v) w g)

-- the codes that a lane handed in and found, and its questions, are no part of what is kept
pub keeps-codes : (acts : Bool) (v m : LaneView) (stops answered : List ℕ) (asked : ℕ) → m.asked ≤ asked → KeepsLane acts v m → KeepsLane acts v (record m { stops = stops; answered = answered; asked = asked })
keeps-codes acts v m stops answered asked more k = record {
  same = record { sys = k.same.sys; lane = k.same.lane; world = k.same.world; plan = k.same.plan; happened = refl; serves = k.same.serves; advances = k.same.advances };
  still = k.still;
  asks = λ apart. let a = k.asks apart in omega (arith, a, more);
  told = k.told;
  log = k.log;
}

pub keeps-stops : (acts : Bool) (code : ℕ) (v m w : LaneView) → KeepsLane acts v m → Stops code m w → KeepsLane acts v w
keeps-stops acts code v m w k stops = subst (KeepsLane acts v) (sym stops) (keeps-codes acts v m (code ∷ m.stops) m.answered m.asked (omega arith) k)

-- the lane hands in the code of its last record
pub stops-code : (acts : Bool) (code : ℕ) (v m w : LaneView) → LaneGoes acts v m → 0 < code → last_code m.told ≡ code → Stops code m w → LaneHalts acts v w halt.Stopped
stops-code acts code v m w goes some last stops =
    let here : last_code w.told ≡ code = ap (λ u. last_code u.told) stops ∙ last in
    record {
      keeps = keeps-stops acts code v m w goes.keeps stops;
      handed = inl (record {
        some = subst (λ n. 0 < n) (sym here) some;
        stops = ap (λ u. u.stops) stops ∙ ap (λ l. code ∷ l) goes.stops ∙ ap (λ n. n ∷ v.stops) (sym here);
      });
    }

-- it hands in 7
pub stops-memory : (acts : Bool) (v m w : LaneView) → LaneGoes acts v m → Stops 7 m w → LaneHalts acts v w halt.Memory
stops-memory acts v m w goes stops = record {
  keeps = keeps-stops acts 7 v m w goes.keeps stops;
  handed = ap (λ u. u.stops) stops ∙ ap (λ l. 7 ∷ l) goes.stops;
}

-- it finds the stop word set
pub finds-stop : (acts : Bool) (code : ℕ) (v m w : LaneView) → LaneGoes acts v m → w ≡ record m { answered = code ∷ m.answered; asked = suc m.asked } → LaneHalts acts v w halt.Stopped
finds-stop acts code v m w goes is = record {
  keeps = subst (KeepsLane acts v) (sym is) (keeps-codes acts v m m.stops (code ∷ m.answered) (suc m.asked) (omega arith) goes.keeps);
  handed = inr (record {
    found = rw (is, goes.answered) (omega arith);
    stops = ap (λ u. u.stops) is ∙ goes.stops;
  });
}

spill-code : (ts : List ToldItem) (n : ℕ) → last_code (ts ++ spill_told n ∷ []) ≡ 6
spill-code ts n = last-snoc ts (spill_told n)

-- what `ready` says where the run doesn't go on
pub halts-lane : (acts : Bool) (v w : LaneView) (h : Halt) → TurnHalts v w h → LaneHalts acts v w h
halts-lane acts v w halt.Memory h = stops-memory acts v (asked_once v) w (goes-once acts v) h.stops
halts-lane acts v w halt.Stopped (inl h) = finds-stop acts h.code v v w (goes-none acts v) h.answered
halts-lane acts v w halt.Stopped (inr h) =
    stops-code acts 6 v h.full w (asked-goes acts (spill_told (length v.told) ∷ []) v h.full h.spills) (omega arith)
    (ap last_code h.spills.told ∙ spill-code v.told (length v.told)) h.stops

-- a look in which nothing happened
pub kept-still : (acts : Bool) (v w : LaneView) → IsLaneKept v w → w.happened ≡ v.happened → (acts ≡ false → w.asked ≡ v.asked) → KeepsLane acts v w
kept-still acts v w k still asked = record {
  same = record { sys = k.sys; lane = k.lane; world = k.world; plan = k.plan; happened = refl; serves = k.serves; advances = advances-still v w k.told k.rise };
  still = λ apart. still;
  asks = λ apart. let same = asked apart in omega (arith, same);
  told = ([], k.told ∙ sym (append-nil v.told));
  log = k.log;
}

-- one in which something may have happened
pub kept-acts : (acts : Bool) (v w : LaneView) → acts ≡ true → IsLaneKept v w → KeepsLane acts v w
kept-acts acts v w acting k = record {
  same = record { sys = k.sys; lane = k.lane; world = k.world; plan = k.plan; happened = refl; serves = k.serves; advances = advances-still v w k.told k.rise };
  still = λ apart. let wrong : true ≡ false = sym acting ∙ apart in absurd (cc);
  asks = λ apart. let wrong : true ≡ false = sym acting ∙ apart in absurd (cc);
  told = ([], k.told ∙ sym (append-nil v.told));
  log = k.log;
}

pub happened-goes : (acts base : Bool) (n : ℕ) (v w : LaneView) → acts ≡ true → Happens n base v w → LaneGoes acts v w
happened-goes acts base n v w acting h = record { keeps = kept-acts acts v w acting h.untouched.kept; stops = h.untouched.kept.stops; answered = h.untouched.answered }

pub nothing-goes : (acts base : Bool) (v w : LaneView) → HasNone acts base v w → LaneGoes acts v w
nothing-goes acts base v w h = record { keeps = kept-still acts v w h.untouched.kept h.happened h.asked; stops = h.untouched.kept.stops; answered = h.untouched.answered }

pub stopped-halts : (acts base : Bool) (n : ℕ) (u v w : LaneView) → acts ≡ true → LaneGoes acts u v → IsStopped n base v w → LaneHalts acts u w halt.Stopped
stopped-halts acts base n u v w acting goes h = record {
  keeps = keeps-then acts u v w goes.keeps (kept-acts acts v w acting h.kept);
  handed = inr (record { found = rw (h.answered, goes.answered) (omega arith); stops = h.kept.stops ∙ goes.stops });
}

pub memory-halts : (acts : Bool) (u v m w : LaneView) → acts ≡ true → LaneGoes acts u v → IsLaneKept v m → Stops 7 m w → LaneHalts acts u w halt.Memory
memory-halts acts u v m w acting goes kept stops = record {
  keeps = keeps-stops acts 7 u m w (keeps-then acts u v m goes.keeps (kept-acts acts v m acting kept)) stops;
  handed = ap (λ x. x.stops) stops ∙ ap (λ l. 7 ∷ l) (kept.stops ∙ goes.stops);
}

-- A visit.
module _ (acts : Bool) (p : ℕ) (c : Counts) (v v1 v2 : LaneView) (room : Roomier (asked_once v) v1) (sees : Sees p v1 v2 c) where
  pub seen-lane : LaneGoes acts v v2
  seen-lane = asked-goes acts (seen_told p c.f c.l c.m ∷ []) v v2 (room-then (seen_told p c.f c.l c.m ∷ []) (asked_once v) v1 v2 room sees.0.grows)

  pub spent-lane : (r : Rec) (v3 v4 : LaneView) → item_of r ≡ record { of = p; body = body.Spent } → GrowsOf r.of (told_note r v2) v2 v3 → Stops 6 v3 v4 → LaneHalts acts v v4 halt.Stopped
  spent-lane r v3 v4 is grown stops =
      let spent : GrowsOf p (plain body.Spent ∷ []) v2 v3 = noted p body.Spent r v2 v3 is grown in
      stops-code acts 6 v v3 v4 (goes-then acts v v2 v3 seen-lane (gains-goes acts (for_object p (plain body.Spent) ∷ []) v2 v3 spent)) (omega arith)
      (ap last_code spent.told ∙ last-snoc v2.told (for_object p (plain body.Spent))) stops

  pub took-lane : (e : HeldEntry) (v3 v4 : LaneView) → v3 ≡ asked_once v2 → TakesIt p e v3 v4 → LaneGoes acts v v4
  took-lane e v3 v4 still takes = goes-then acts v v3 v4 (subst (LaneGoes acts v) (sym still) (goes-then acts v v2 (asked_once v2) seen-lane (goes-once acts v2))) (gains-goes acts _ v3 v4 takes.adds.grows)

  -- with two questions
  pub took-asks : (e : HeldEntry) (v3 v4 : LaneView) → v3 ≡ asked_once v2 → TakesIt p e v3 v4 → v4.asked ≡ suc (suc v.asked)
  took-asks e v3 v4 still takes =
      let first : v2.asked ≡ suc v.asked = (room-then (seen_told p c.f c.l c.m ∷ []) (asked_once v) v1 v2 room sees.0.grows).asked in
      let second : v3.asked ≡ suc v2.asked = ap (λ u. u.asked) still in
      let same = takes.adds.grows.asked in
      omega (arith, first, second, same)

-- The step of an object, and starts.

abbrev pub LaneSteps : LaneView → LaneView → Step → Type 0
LaneSteps v w step.Point = LaneGoes false v w
LaneSteps v w step.Done = LaneGoes false v w
LaneSteps v w step.Stopped = LaneHalts false v w halt.Stopped
LaneSteps v w step.Memory = LaneHalts false v w halt.Memory

module _ (o r : ℕ) (v : LaneView) where
  grown : (g : List Told) (m w : LaneView) → Grows g (works_for o v) m → w ≡ works_for r m → LaneGoes false v w
  grown g m w grows is = record {
    keeps = keeps-gains false o r (map (for_object o) g) v m w grows is;
    stops = ap (λ u. u.stops) is ∙ grows.stops;
    answered = ap (λ u. u.answered) is ∙ grows.answered;
  }

pub resumed-lane : (sys : System) (ceiling level p : ℕ) (xs ys : Objects) (v w : LaneView) (answer : Step) → ResumesAt sys ceiling level p xs ys v w answer → LaneSteps v w answer
resumed-lane sys ceiling level p xs ys v w answer at = by answer (chart_at sys at.slot.object.chart) at.resumes.0 at.resumes.1 at.resumes.2
  where
    by : (answer : Step) (chart : Option Chart) (m : LaneView) → ResumesAs chart sys ceiling level at.slot.object at.later.object (works_for at.slot.object.me v) m answer → w ≡ works_for v.by m → LaneSteps v w answer
    by answer None m h is = absurd h
    by step.Point (Some chart) m h is = grown at.slot.object.me v.by v h.1.g m w h.1.grows is
    by step.Done (Some chart) m h is = grown at.slot.object.me v.by v h.1.1.g m w h.1.1.grows is
    by step.Stopped (Some chart) m (same, inl a) is =
        stops-code false a.code v (works_for v.by a.mid) w (grown at.slot.object.me v.by v a.g a.mid (works_for v.by a.mid) a.grows refl) a.some a.last (is ∙ ap (works_for v.by) a.stops)
    by step.Stopped (Some chart) m (same, inr b) is =
        let first = grown at.slot.object.me v.by v b.g b.mid (works_for v.by b.mid) b.grows refl in
        let spilled : LaneGoes false (works_for v.by b.mid) (works_for v.by b.full) = record {
          keeps = keeps-gains false b.mid.by v.by (spill_told (length b.mid.told) ∷ []) (works_for v.by b.mid) b.full (works_for v.by b.full) b.spills refl;
          stops = b.spills.stops;
          answered = b.spills.answered;
        } in
        stops-code false 6 v (works_for v.by b.full) w (goes-then false v (works_for v.by b.mid) (works_for v.by b.full) first spilled) (omega arith)
        (ap last_code b.spills.told ∙ spill-code b.mid.told (length b.mid.told)) (is ∙ ap (works_for v.by) b.stops)
    by step.Memory (Some chart) m h is =
        stops-memory false v (works_for v.by h.1.mid) w (grown at.slot.object.me v.by v h.1.g h.1.mid (works_for v.by h.1.mid) h.1.grows refl) (is ∙ ap (works_for v.by) h.1.dry.stops)

pub started-lane : (sys : System) (xs ys : Objects) (v w : LaneView) (answer : Step) → StartsAll sys xs ys v w answer → LaneStarts v w answer
started-lane sys xs ys v w step.Point h = h
started-lane sys xs ys v w step.Done h = gains-goes false h.grows.ts v w h.grows.gains
started-lane sys xs ys v w step.Stopped h =
    stops-code false h.code v h.grows.mid w (gains-goes false h.grows.ts v h.grows.mid h.grows.gains) h.some (ap (λ u. last_code u.told) (sym h.grows.stops) ∙ h.last) h.grows.stops
started-lane sys xs ys v w step.Memory h = stops-memory false v h.mid w (gains-goes false h.ts v h.mid h.gains) h.stops

-- a look and a scan
pub looked-scanned : (acts : Bool) (u a b d : LaneView) → LaneGoes acts u a → LaneGoes acts a b → LaneGoes acts b d → LaneGoes acts u d
looked-scanned acts u a b d before look scan = goes-then acts u b d (goes-then acts u a b before look) scan
