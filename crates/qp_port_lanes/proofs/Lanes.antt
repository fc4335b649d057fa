-- The lane through the start and a step of its object.
use Rattle.std.proofs.Common.{ℕ, ◌≡◌, false, [], ◌∷◌, map, length, refl, sym, ap, inl, inr, Option, Some, None, ◌∙◌, arith, List, append-nil}
use Rattle.qp_model.specs.declared.systems.System.{System}
use Rattle.qp_chart.specs.declared.checked.Chart.{Chart}
use Rattle.qp_model.specs.Course.{chart_at}
use Rattle.qp_model.specs.Told.{Told, ToldItem, for_object}
use Rattle.qp_calls.specs.declared.answers.Counts as counts
use Rattle.qp_calls.specs.Clauses.{Counted}
use Rattle.qp_calls.specs.LaneView.{Gains, Grows, LaneView}
use Rattle.qp_calls.specs.Notes.{last_code}
use Rattle.qp_calls.proofs.Advancing.{advances-looks}
use Rattle.qp_calls.proofs.NoteLemmas.{last-snoc}
use Rattle.qp_dispatch.specs.declared.objects.Object.{Object}
use Rattle.qp_dispatch.specs.declared.steps.Step.{Step}
use Rattle.qp_dispatch.specs.declared.steps.Step.TheVariants as step
use Rattle.qp_dispatch.specs.Objects.{ObjectResumes, ObjectStarts, ResumesAs, StartsAs, works_for}
use Rattle.qp_kernel.specs.Turning.{spill_told}
use Rattle.qp_kernel_turns.specs.Lanes.{LaneGoes, LaneStarts}
use Rattle.qp_kernel_turns.proofs.Lanes.{LaneSteps, goes-then, keeps-gains, stops-code, stops-memory}

-- a look that adds nothing
pub counts-goes : (p : ℕ) (v w : LaneView) (c : counts.Counts) → Counted p v w c → LaneGoes false v w
counts-goes p v w c looks = record {
  keeps = record {
    same = record { sys = looks.0.sys; lane = looks.0.lane; world = looks.0.world; plan = looks.0.plan; happened = refl; serves = looks.0.serves; advances = advances-looks _ _ _ v w looks.0 };
    still = λ apart. looks.0.happened;
    asks = λ apart. let same = looks.0.asked in omega (arith, same);
    told = ([], looks.0.told ∙ sym (append-nil v.told));
    log = ([], looks.0.log ∙ sym (append-nil v.log));
  };
  stops = looks.0.stops;
  answered = looks.0.answered;
}

-- records, while the lane works for an object
gains-goes : (o r : ℕ) (ts : List ToldItem) (v m w : LaneView) → Gains ts (works_for o v) m → w ≡ works_for r m → LaneGoes false v w
gains-goes o r ts v m w g is = record {
  keeps = keeps-gains false o r ts v m w g is;
  stops = ap (λ u. u.stops) is ∙ g.stops;
  answered = ap (λ u. u.answered) is ∙ g.answered;
}

grown : (o r : ℕ) (v : LaneView) (g : List Told) (m w : LaneView) → Grows g (works_for o v) m → w ≡ works_for r m → LaneGoes false v w
grown o r v g m w grows is = gains-goes o r (map (for_object o) g) v m w grows is

-- and the `spill` behind them
spilled : (o r : ℕ) (v : LaneView) (g : List Told) (m full : LaneView) → Grows g (works_for o v) m → Gains (spill_told (length m.told) ∷ []) m full → LaneGoes false v (works_for r full)
spilled o r v g m full grows spills =
    goes-then false v (works_for r m) (works_for r full) (grown o r v g m (works_for r m) grows refl) (gains-goes m.by r (spill_told (length m.told) ∷ []) (works_for r m) full (works_for r full) spills refl)

spilled-code : (m full : LaneView) → Gains (spill_told (length m.told) ∷ []) m full → last_code full.told ≡ 6
spilled-code m full spills = ap last_code spills.told ∙ last-snoc m.told (spill_told (length m.told))

pub resumed : (sys : System) (ceiling level : ℕ) (x y : Object) (v w : LaneView) (answer : Step) → ObjectResumes sys ceiling level x y v w answer → LaneSteps v w answer
resumed sys ceiling level x y v w answer r = by answer (chart_at sys x.chart) r.0 r.1 r.2
  where
    by : (answer : Step) (chart : Option Chart) (m : LaneView) → ResumesAs chart sys ceiling level x y (works_for x.me v) m answer → w ≡ works_for v.by m → LaneSteps v w answer
    by answer None m h is = absurd h
    by step.Point (Some chart) m h is = grown x.me v.by v h.1.g m w h.1.grows is
    by step.Done (Some chart) m h is = grown x.me v.by v h.1.1.g m w h.1.1.grows is
    by step.Stopped (Some chart) m (same, inl a) is =
        stops-code false a.code v (works_for v.by a.mid) w (grown x.me v.by v a.g a.mid (works_for v.by a.mid) a.grows refl) a.some a.last (is ∙ ap (works_for v.by) a.stops)
    by step.Stopped (Some chart) m (same, inr b) is =
        stops-code false 6 v (works_for v.by b.full) w (spilled x.me v.by v b.g b.mid b.full b.grows b.spills) (omega arith) (spilled-code b.mid b.full b.spills) (is ∙ ap (works_for v.by) b.stops)
    by step.Memory (Some chart) m h is =
        stops-memory false v (works_for v.by h.1.mid) w (grown x.me v.by v h.1.g h.1.mid (works_for v.by h.1.mid) h.1.grows refl) (is ∙ ap (works_for v.by) h.1.dry.stops)

pub started : (sys : System) (level : ℕ) (x y : Object) (v w : LaneView) (answer : Step) → ObjectStarts sys level x y v w answer → LaneStarts v w answer
started sys level x y v w answer r = by answer (chart_at sys x.chart) r.0 r.1 r.2
  where
    by : (answer : Step) (chart : Option Chart) (m : LaneView) → StartsAs chart sys level x y (works_for x.me v) m answer → w ≡ works_for v.by m → LaneStarts v w answer
    by answer None m h is = absurd h
    by step.Point (Some chart) m h is = h.1
    by step.Done (Some chart) m h is = grown x.me v.by v h.1.g m w h.1.grows is
    by step.Stopped (Some chart) m (same, inl a) is =
        stops-code false a.code v (works_for v.by a.mid) w (grown x.me v.by v a.g a.mid (works_for v.by a.mid) a.grows refl) a.some a.last (is ∙ ap (works_for v.by) a.stops)
    by step.Stopped (Some chart) m (same, inr b) is =
        stops-code false 6 v (works_for v.by b.full) w (spilled x.me v.by v b.g b.mid b.full b.grows b.spills) (omega arith) (spilled-code b.mid b.full b.spills) (is ∙ ap (works_for v.by) b.stops)
    by step.Memory (Some chart) m h is =
        stops-memory false v (works_for v.by h.1.mid) w (grown x.me v.by v h.1.g h.1.mid (works_for v.by h.1.mid) h.1.grows refl) (is ∙ ap (works_for v.by) h.1.dry.stops)
