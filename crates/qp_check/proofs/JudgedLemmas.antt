-- All definitions hold at all their sites exactly where the journal is lawful.
use Rattle.std.proofs.Common.{◌≡◌, ℕ, ◌+◌, ◌<◌, Bool, true, false, List, [], ◌∷◌, ◌++◌, cond, refl, IsTrue, Some, None}
use Rattle.std.specs.List.{AllByRecursion}
use Rattle.qp_model.specs.declared.stimulus.Stim.{Stim}
use Rattle.qp_model.specs.declared.systems.System.{System}
use Rattle.qp_model.specs.declared.systems.ObjectDef.{ObjectDef}
use Rattle.qp_model.specs.declared.journals.Journal.{Journal}
use Rattle.qp_model.specs.Lawful.{Lawful, ObjectHolds, ShapesHold, deferral_holds, CourseHolds, SourceLanes, lanes_before}
use Rattle.qp_check.specs.Judged.{Trial, AllHold, as_trials, at_objects, source_trials, word_trials, object_trials, kernel_trials, lane_trials, order_trial, end_trials, trials}
use Rattle.qp_check.specs.Law.{LawfulWhereNoneFails}
use Rattle.qp_check_words.specs.WordRules.{Try, first_broken, word_tries}
use Rattle.qp_check_words.proofs.LawLemmas.{none_fails_where_words_hold}

pub hold-parts : (xs ys : List Trial) → AllHold (xs ++ ys) → AllHold xs × AllHold ys
hold-parts [] ys h = (tt, h)
hold-parts (t ∷ ts) ys h = let rest = hold-parts ts ys h.1 in ((h.0, rest.0), rest.1)

pub hold-both : (xs ys : List Trial) → AllHold xs → AllHold ys → AllHold (xs ++ ys)
hold-both [] ys h k = k
hold-both (t ∷ ts) ys h k = (h.0, hold-both ts ys h.1 k)

-- tests
pub tries-none : (ts : List Try) → AllHold (as_trials ts) → first_broken ts ≡ None
unfolding first_broken
tries-none [] h = refl
tries-none (t ∷ ts) h = let e : t.holds ≡ true = h.0 in rw e (tries-none ts h.1)

pub none-tries : (ts : List Try) → first_broken ts ≡ None → AllHold (as_trials ts)
unfolding first_broken
none-tries [] h = tt
none-tries (t ∷ ts) h = go t.holds refl h (none-tries ts)
  where
    go : (b : Bool) → t.holds ≡ b → cond b (first_broken ts) (Some (record { definition = t.definition; site = t.site })) ≡ None → (first_broken ts ≡ None → AllHold (as_trials ts)) → IsTrue t.holds × AllHold (as_trials ts)
    go true e k later = (e, later k)
    go false e k later = let bad : ⊥ = cc in absurd bad

-- objects
objects-from : (n : ℕ) (P : ObjectDef → Type 0) (ds : List ObjectDef) → AllHold (at_objects n P ds) → AllByRecursion P ds
objects-from n P [] h = tt
objects-from n P (d ∷ ds) h = (h.0, objects-from n P ds h.1)

objects-to : (n : ℕ) (P : ObjectDef → Type 0) (ds : List ObjectDef) → AllByRecursion P ds → AllHold (at_objects n P ds)
objects-to n P [] h = tt
objects-to n P (d ∷ ds) h = (h.0, objects-to n P ds h.1)

module _ (sys : System) (j : Journal) where
  all-three : (ds : List ObjectDef) → AllByRecursion (ShapesHold sys j) ds → AllByRecursion (λ d. IsTrue (deferral_holds sys j d)) ds → AllByRecursion (CourseHolds sys j) ds → AllByRecursion (ObjectHolds sys j) ds
  all-three [] a b c = tt
  all-three (d ∷ ds) a b c = (record { shapes = a.0; deferral = b.0; course = c.0 }, all-three ds a.1 b.1 c.1)

  shapes-of : (ds : List ObjectDef) → AllByRecursion (ObjectHolds sys j) ds → AllByRecursion (ShapesHold sys j) ds
  shapes-of [] h = tt
  shapes-of (d ∷ ds) h = (h.0.shapes, shapes-of ds h.1)

  deferral-of : (ds : List ObjectDef) → AllByRecursion (ObjectHolds sys j) ds → AllByRecursion (λ d. IsTrue (deferral_holds sys j d)) ds
  deferral-of [] h = tt
  deferral-of (d ∷ ds) h = (h.0.deferral, deferral-of ds h.1)

  course-of : (ds : List ObjectDef) → AllByRecursion (ObjectHolds sys j) ds → AllByRecursion (CourseHolds sys j) ds
  course-of [] h = tt
  course-of (d ∷ ds) h = (h.0.course, course-of ds h.1)

  -- sources
  lanes-from : (n : ℕ) (stimuli : List (List Stim)) → AllHold (source_trials sys j n stimuli) → SourceLanes sys j n stimuli
  unfolding source_trials SourceLanes
  lanes-from n [] h = tt
  lanes-from n (ss ∷ more) h = (h.0, lanes-from (n + 1) more h.1)

  lanes-to : (n : ℕ) (stimuli : List (List Stim)) → SourceLanes sys j n stimuli → AllHold (source_trials sys j n stimuli)
  unfolding source_trials SourceLanes
  lanes-to n [] h = tt
  lanes-to n (ss ∷ more) h = (h.0, lanes-to (n + 1) more h.1)

  objects-hold : AllHold (object_trials sys j) → AllByRecursion (ObjectHolds sys j) sys.objects
  unfolding object_trials
  objects-hold h =
      let shapes = at_objects 15 (ShapesHold sys j) sys.objects in
      let deferral = at_objects 17 (λ d. IsTrue (deferral_holds sys j d)) sys.objects in
      let course = at_objects 7 (CourseHolds sys j) sys.objects in
      let upper = hold-parts (shapes ++ deferral) course h in
      let lower = hold-parts shapes deferral upper.0 in
      all-three sys.objects
      (objects-from 15 (ShapesHold sys j) sys.objects lower.0)
      (objects-from 17 (λ d. IsTrue (deferral_holds sys j d)) sys.objects lower.1)
      (objects-from 7 (CourseHolds sys j) sys.objects upper.1)

  hold-objects : AllByRecursion (ObjectHolds sys j) sys.objects → AllHold (object_trials sys j)
  unfolding object_trials
  hold-objects h =
      let shapes = at_objects 15 (ShapesHold sys j) sys.objects in
      let deferral = at_objects 17 (λ d. IsTrue (deferral_holds sys j d)) sys.objects in
      let course = at_objects 7 (CourseHolds sys j) sys.objects in
      hold-both (shapes ++ deferral) course
      (hold-both shapes deferral
      (objects-to 15 (ShapesHold sys j) sys.objects (shapes-of sys.objects h))
      (objects-to 17 (λ d. IsTrue (deferral_holds sys j d)) sys.objects (deferral-of sys.objects h)))
      (objects-to 7 (CourseHolds sys j) sys.objects (course-of sys.objects h))

  module _ (stimuli : List (List Stim)) (bytes : AllByRecursion (λ d. d.priority < 256) sys.objects) where
    lawful-from : AllHold (trials sys stimuli j) → Lawful sys stimuli j
    unfolding trials word_trials kernel_trials lane_trials order_trial end_trials
    lawful-from h =
        let behind_lanes = lane_trials sys stimuli j ++ end_trials sys j in
        let behind_kernel = kernel_trials sys j ++ behind_lanes in
        let words = hold-parts (word_trials sys j) (object_trials sys j ++ behind_kernel) h in
        let objects = hold-parts (object_trials sys j) behind_kernel words.1 in
        let kernel = hold-parts (kernel_trials sys j) behind_lanes objects.1 in
        let lanes = hold-parts (lane_trials sys stimuli j) (end_trials sys j) kernel.1 in
        let sources = hold-parts (source_trials sys j (lanes_before sys j) stimuli) (order_trial sys stimuli j ∷ []) lanes.0.1 in
        record {
          words = (none_fails_where_words_hold sys j.lanes bytes).0 (tries-none (word_tries sys j.lanes) words.0);
          objects = objects-hold objects.0;
          kernel = kernel.0.0;
          sources = record {
            lanes = lanes-from (lanes_before sys j) stimuli sources.0;
            empty = lanes.0.0;
            count = sources.1.0.0;
            order = sources.1.0.1;
          };
          end = lanes.1.0;
        }

    lawful-to : Lawful sys stimuli j → AllHold (trials sys stimuli j)
    unfolding trials word_trials kernel_trials lane_trials order_trial end_trials
    lawful-to h =
        let behind_lanes = lane_trials sys stimuli j ++ end_trials sys j in
        let behind_kernel = kernel_trials sys j ++ behind_lanes in
        hold-both (word_trials sys j) (object_trials sys j ++ behind_kernel) (none-tries (word_tries sys j.lanes) ((none_fails_where_words_hold sys j.lanes bytes).1 h.words))
        (hold-both (object_trials sys j) behind_kernel (hold-objects h.objects)
        (hold-both (kernel_trials sys j) behind_lanes (h.kernel, tt)
        (hold-both (lane_trials sys stimuli j) (end_trials sys j)
        (h.sources.empty, hold-both (source_trials sys j (lanes_before sys j) stimuli) (order_trial sys stimuli j ∷ []) (lanes-to (lanes_before sys j) stimuli h.sources.lanes) ((h.sources.count, h.sources.order), tt))
        (h.end, tt))))

pub lawful_where_none_fails : LawfulWhereNoneFails
lawful_where_none_fails = λ sys stimuli j bytes. (lawful-from sys j stimuli bytes, lawful-to sys j stimuli bytes)
