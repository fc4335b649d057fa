-- An object in its lane, from its start on.
use Rattle.std.proofs.Common.{◌≡◌, ℕ, ◌≤◌, ◌-◌, ◌==◌, cond, Bool, true, false, List, [], ◌∷◌, map, length, refl, sym, ◌∙◌, ap, subst, Some, arith}
use Rattle.std.specs.Prelude.{IsTrue}
use Rattle.std.specs.List.{find}
use Rattle.std.proofs.lemmas.Bool.Decides.{nat_tests}
use Rattle.qp_chart.specs.declared.checked.Chart.{Chart}
use Rattle.qp_model.specs.declared.systems.System.{System}
use Rattle.qp_model.specs.declared.systems.ObjectDef.{ObjectDef}
use Rattle.qp_model.specs.declared.record.Rec.{Rec}
use Rattle.qp_model.specs.declared.bodies.Body.TheVariants.{Look}
use Rattle.qp_model.specs.Record.{item_of}
use Rattle.qp_model.specs.Course.{chart_at}
use Rattle.qp_model.specs.Sites.{object_at}
use Rattle.qp_model.specs.Sound.{IsSound, IsSoundObject}
use Rattle.qp_model.specs.Told.{plain, told_took}
use Rattle.qp_model.specs.WordLaw.{is_object}
use Rattle.qp_model.proofs.NumberLemmas.{number-owned}
use Rattle.qp_model.proofs.ObjectLemmas.{found-passes}
use Rattle.qp_calls.specs.declared.tokens.HeldEntry.{HeldEntry}
use Rattle.qp_calls.specs.Clauses.{TakesIt, entry_of}
use Rattle.qp_calls.specs.Deferring.{StandAll}
use Rattle.qp_calls.specs.LaneView.{GrowsOf, LaneView, Roomier}
use Rattle.qp_calls.specs.Notes.{told_note}
use Rattle.qp_calls.specs.Tokens.{hands_after, hands_by}
use Rattle.qp_calls.proofs.CountLemmas.{stand-same, none-stand}
use Rattle.qp_dispatch.specs.declared.objects.Object.{Object}
use Rattle.qp_dispatch.specs.declared.lasting.Lasting.{Lasting}
use Rattle.qp_dispatch.specs.declared.steps.Position.{Position}
use Rattle.qp_dispatch.specs.declared.steps.Position.TheVariants as standing
use Rattle.qp_dispatch.specs.declared.steps.Step.{Step}
use Rattle.qp_dispatch.specs.declared.steps.Step.TheVariants as step
use Rattle.qp_dispatch.specs.Objects.{BeginsStep, IsNewObject, IsServedObject, MayResume, MayStart, ObjectResumes, ObjectStarts, ResumesAs, StartsAs, setting_for, works_for}
use Rattle.qp_dispatch.specs.Resume.{CanTakeSteps, IsUnderWay}
use Rattle.qp_dispatch.specs.Runs.{ObjectSetting}
use Rattle.qp_dispatch.specs.SoundFor.{IsObjectWithTimers}
use Rattle.qp_dispatch.proofs.SoundAble.{sound-ready}
use Rattle.qp_dispatch.proofs.Taking.{taken-is}
use Rattle.qp_dispatch.proofs.Naming.{publishing-still}
use Rattle.qp_plain_tests.specs.declared.actor.Actor.{Actor}
use Rattle.qp_plain_tests.specs.StepTrial.{AfterPart, AfterStart, IsBase, IsKnownActor, IsOnItsWay, IsResting, IsUnstarted}
use Rattle.qp_plain_tests.proofs.StepLanes.{base-lane, base-quiet, base-room, lane-base, look-told}

-- An object of a sound system.

found-priority : (o : ℕ) (ds : List ObjectDef) (d : ObjectDef) → find (λ x. x.priority == o) ds ≡ Some d → d.priority ≡ o
found-priority o [] d h = absurd (cc)
found-priority o (x ∷ xs) d h = by (found-priority o xs d) (x.priority == o) refl h
  where
    by : (find (λ y. y.priority == o) xs ≡ Some d → d.priority ≡ o) → (b : Bool) → (x.priority == o) ≡ b → cond b (Some x) (find (λ y. y.priority == o) xs) ≡ Some d → d.priority ≡ o
    by go true test h =
        let same : x ≡ d = cc in
        let is : x.priority ≡ o = grind (arith, nat_tests, test) in
        subst (λ y. y.priority ≡ o) same is
    by go false test h = go h

priority-is : (sys : System) (o : ℕ) (d : ObjectDef) → object_at sys o ≡ Some d → d.priority ≡ o
unfolding object_at
priority-is sys o d found = found-priority o sys.objects d found

some-priority : (sys : System) → IsSound sys → (o : ℕ) (d : ObjectDef) → object_at sys o ≡ Some d → 1 ≤ d.priority
unfolding object_at
some-priority sys sound o d found = (found-passes (IsSoundObject sys.charts) o sys.objects d sound.objects found).some_priority

home : (sys : System) → IsSound sys → (o : ℕ) (d : ObjectDef) (chart : Chart) → object_at sys o ≡ Some d → chart_at sys d.chart ≡ Some chart → IsTrue (is_object sys o) → IsObjectWithTimers sys o chart
home sys sound o d chart found its is = record {
  sound = sound;
  some = let same = priority-is sys o d found in let few = some-priority sys sound o d found in omega (arith, same, few);
  object = is;
  timers = λ place some few.
      let n = number-owned sys sound o place d chart found its some few in
      record { some = n.some; few = let most = sound.few_timers in omega (arith, n.few, most); timer = n.timer; there = n.there; owner = n.owner };
}

pub new-unstarted : (sys : System) (a : Actor) → IsSound sys → IsTrue (is_object sys a.me) → IsNewObject sys a.me a.object → IsUnstarted sys a
new-unstarted sys a sound is new =
    let me : a.object.me ≡ a.me = new.made.me ∙ priority-is sys a.me new.object new.of in
    record {
      known = record {
        me = me;
        object = is;
        chart = new.chart;
        is = ap (chart_at sys) new.made.of ∙ new.has;
        ready = subst (λ o. CanTakeSteps sys o new.chart) (sym me) (sound-ready sys a.me new.chart (new.object.chart - 1) (home sys sound a.me new.object new.chart new.of new.has is) new.has);
        compiled = new.made.compiled;
      };
      unstarted = new.made.unstarted;
      between = new.made.between;
      empty = new.made.first.empty;
    }

-- Its start.

at-home : (sys : System) (a : Actor) (v : LaneView) (k : IsKnownActor sys a) → IsBase sys a.ceiling v → IsServedObject sys a.ceiling a.object (works_for a.object.me v)
at-home sys a v k b = record { chart = k.chart; is = k.is; ready = k.ready; compiled = k.compiled; lane = base-lane sys a.ceiling (setting_for sys k.chart a.object) v refl b }

pub may-start : (sys : System) (a : Actor) (v : LaneView) → IsUnstarted sys a → IsBase sys a.ceiling v → MayStart sys a.ceiling a.object (works_for a.object.me v)
may-start sys a v u b = record {
  at = at-home sys a v u.known b;
  unstarted = u.unstarted;
  few = subst (λ (es : List HeldEntry). length (map entry_of es) ≤ a.object.lasting.list.entries.capacity) (sym u.empty) (omega arith);
  stand = subst (λ es. StandAll es (works_for a.object.me v)) (sym u.empty) (none-stand (works_for a.object.me v));
}

still-known : (sys : System) (a b : Actor) → b.me ≡ a.me → b.object.me ≡ a.object.me → b.object.chart ≡ a.object.chart → b.object.compiled ≡ a.object.compiled → IsKnownActor sys a → IsKnownActor sys b
still-known sys a b me own chart compiled k = record {
  me = own ∙ k.me ∙ sym me;
  object = subst (λ o. IsTrue (is_object sys o)) (sym me) k.object;
  chart = k.chart;
  is = ap (chart_at sys) chart ∙ k.is;
  ready = subst (λ o. CanTakeSteps sys o k.chart) (sym own) k.ready;
  compiled = rw compiled k.compiled;
}

-- the lane works for another object, or again for this one
pub stand-for : (es : List HeldEntry) (o : ℕ) (mid w : LaneView) → w ≡ works_for o mid → StandAll es mid → StandAll es w
stand-for es o mid w is all = stand-same es mid w all (ap (λ x. x.hands) is) (ap (λ x. x.sys) is)

pub started : (sys : System) (a b : Actor) (v w : LaneView) (answer : Step) → IsUnstarted sys a → IsBase sys a.ceiling v → b.me ≡ a.me → ObjectStarts sys b.ceiling a.object b.object v w answer
    → AfterStart sys b w answer
started sys a b v w answer u base me h = by answer h.2 (subst (λ c. StartsAs c sys b.ceiling a.object b.object (works_for a.object.me v) h.0 answer) u.known.is h.1)
  where
    by : (answer : Step) → w ≡ works_for v.by h.0 → StartsAs (Some u.known.chart) sys b.ceiling a.object b.object (works_for a.object.me v) h.0 answer → AfterStart sys b w answer
    by step.Done is s =
        let same = s.0 in
        let d = s.1 in
        record {
          base = lane-base sys a.ceiling b.ceiling v.by d.g (setting_for sys u.known.chart a.object) v h.0 w base d.grows d.lane is;
          known = still-known sys a b me (ap (λ x. x.me) same) (ap (λ x. x.chart) same) (ap (λ x. x.compiled) same) u.known;
          started = ap (λ x. x.started) same;
          between = ap (λ x. x.stage) same ∙ u.between;
          few = d.few;
          stand = stand-for b.object.lasting.list.entries.items v.by h.0 w is d.stand;
        }
    by step.Point is s = tt
    by step.Stopped is s = tt
    by step.Memory is s = tt

-- Its steps.

-- a step under way, in a lane with the same tokens
way-still : (place : ObjectSetting) (k : Lasting) (s : Position) (v w : LaneView) → w.hands ≡ v.hands → w.sys ≡ v.sys → IsUnderWay place k s v → IsUnderWay place k s w
way-still place k standing.Between v w hands same h = h
way-still place k (standing.Taken e) v w hands same h = record { stand = stand-same _ v w h.stand hands same; few = h.few }
way-still place k (standing.Within g) v w hands same h = record {
  hand = h.hand;
  is = h.is;
  may = h.may;
  able = h.able;
  publishing = publishing-still g.left.under v w same h.publishing;
  stand = stand-same _ v w h.stand hands same;
  few = h.few;
}

pub may-resume : (sys : System) (a : Actor) (v : LaneView) → IsOnItsWay sys a v → MayResume sys a.ceiling a.object (works_for a.object.me v)
unfolding at-home
may-resume sys a v w = record {
  at = at-home sys a v w.known w.base;
  under_way = way-still (setting_for sys w.known.chart a.object) a.object.lasting a.object.stage v (works_for a.object.me v) refl refl w.under_way;
}

pub resumed : (sys : System) (a b : Actor) (v w : LaneView) (answer : Step) → IsOnItsWay sys a v → b.me ≡ a.me → ObjectResumes sys a.ceiling b.ceiling a.object b.object v w answer
    → AfterPart sys b w answer
unfolding still-known
resumed sys a b v w answer u me h = by answer h.2 (subst (λ c. ResumesAs c sys a.ceiling b.ceiling a.object b.object (works_for a.object.me v) h.0 answer) u.known.is h.1)
  where
    same-home : b.object ≡ record (a.object) { lasting = b.object.lasting; stage = b.object.stage } → setting_for sys u.known.chart b.object ≡ setting_for sys u.known.chart a.object
    same-home same = rw same refl

    by : (answer : Step) → w ≡ works_for v.by h.0 → ResumesAs (Some u.known.chart) sys a.ceiling b.ceiling a.object b.object (works_for a.object.me v) h.0 answer → AfterPart sys b w answer
    by step.Point is s =
        let same = s.0 in
        let p = s.1 in
        record {
          base = lane-base sys a.ceiling b.ceiling v.by p.g (setting_for sys u.known.chart a.object) v h.0 w u.base p.grows p.lane is;
          known = still-known sys a b me (ap (λ x. x.me) same) (ap (λ x. x.chart) same) (ap (λ x. x.compiled) same) u.known;
          started = ap (λ x. x.started) same ∙ u.started;
          under_way = subst (λ place. IsUnderWay place b.object.lasting b.object.stage w) (sym (same-home same))
              (way-still (setting_for sys u.known.chart a.object) b.object.lasting b.object.stage h.0 w (ap (λ x. x.hands) is) (ap (λ x. x.sys) is) p.under_way);
        }
    by step.Done is s =
        let same = s.0 in
        let e = s.1.1 in
        record {
          base = lane-base sys a.ceiling b.ceiling v.by e.g (setting_for sys u.known.chart a.object) v h.0 w u.base e.grows e.lane is;
          known = still-known sys a b me (ap (λ x. x.me) same) (ap (λ x. x.chart) same) (ap (λ x. x.compiled) same) u.known;
          started = ap (λ x. x.started) same ∙ u.started;
          between = s.1.0;
          few = e.few;
          stand = stand-for b.object.lasting.list.entries.items v.by h.0 w is e.stand;
        }
    by step.Stopped is s = tt
    by step.Memory is s = tt

-- it takes up an entry
pub taken-up : (sys : System) (a : Actor) (y : Object) (e : HeldEntry) (u v w : LaneView) → IsResting sys a u → Roomier u v → TakesIt a.me e v w → BeginsStep e a.object y → IsOnItsWay sys (record a { object = y }) w
taken-up sys a y e u v w r room t begins =
    let base = base-quiet sys a.ceiling a.me (told_took t.f t.l t.m (entry_of e) (w.event (entry_of e)) ∷ []) v w t.adds.grows refl (base-room sys a.ceiling u v room r.base) in
    let stand : StandAll a.object.lasting.list.entries.items v = stand-same a.object.lasting.list.entries.items u v r.stand (rw room.same refl) (rw room.same refl) in
    rw begins (record {
      base = base;
      known = record { me = r.known.me; object = r.known.object; chart = r.known.chart; is = r.known.is; ready = r.known.ready; compiled = r.known.compiled };
      started = r.started;
      under_way = taken-is a.object.lasting a.me e v w stand r.few t;
    })

-- a look behind a part of its step
looked-hands : (o k floor : ℕ) (v w : LaneView) → GrowsOf o (plain (Look k floor) ∷ []) v w → w.hands ≡ v.hands
unfolding hands_after hands_by
looked-hands o k floor v w grows = grows.hands

pub marked : (sys : System) (a : Actor) (p k floor : ℕ) (r : Rec) (u v w : LaneView) → IsOnItsWay sys a u → Roomier u v → item_of r ≡ record { of = 0; body = Look k floor }
    → GrowsOf r.of (told_note r v) v w → IsOnItsWay sys (record a { points = p }) w
marked sys a p k floor r u v w way room is noted =
    let grows = subst (λ g. GrowsOf r.of g v w) (look-told 0 k floor r v is) noted in
    let hands : w.hands ≡ u.hands = looked-hands r.of k floor v w grows ∙ rw room.same refl in
    let of : w.sys ≡ u.sys = grows.sys ∙ rw room.same refl in
    record {
      base = base-quiet sys a.ceiling r.of (plain (Look k floor) ∷ []) v w grows refl (base-room sys a.ceiling u v room way.base);
      known = record { me = way.known.me; object = way.known.object; chart = way.known.chart; is = way.known.is; ready = way.known.ready; compiled = way.known.compiled };
      started = way.started;
      under_way = way-still (setting_for sys way.known.chart a.object) a.object.lasting a.object.stage u w hands of way.under_way;
    }
