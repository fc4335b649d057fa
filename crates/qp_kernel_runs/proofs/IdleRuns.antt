-- A run that comes to its end by itself leaves a lawful journal.
use Rattle.std.proofs.Common.{◌≡◌, ℕ, ◌+◌, ◌<◌, ◌==◌, Bool, true, false, ◌≤◌, cond, List, [], ◌∷◌, map, length, take, drop, refl, sym, ◌∙◌, ap, subst, arith, Option, Some, None}
use Rattle.std.specs.Option.{is_some}
use Rattle.std.specs.List.{list_all, count_by, find, AllByRecursion}
use Rattle.std.proofs.lemmas.Bool.Decides.{nat_tests}
use Rattle.qp_model.specs.declared.record.Rec.{Rec}
use Rattle.qp_model.specs.declared.stimulus.Stim.{Stim}
use Rattle.qp_model.specs.declared.systems.System.{System}
use Rattle.qp_model.specs.declared.systems.ObjectDef.{ObjectDef}
use Rattle.qp_model.specs.declared.journals.Journal.{Journal}
use Rattle.qp_model.specs.declared.words.Word.TheVariants as word
use Rattle.qp_model.specs.Told.{Told, ToldItem, for_object}
use Rattle.qp_model.specs.History.{all_items}
use Rattle.qp_model.specs.Kernels.{sim}
use Rattle.qp_model.specs.Knowing.{told_alone}
use Rattle.qp_model.specs.Lawful.{Lawful, source_lanes, deferred_of}
use Rattle.qp_model.specs.OneOrder.{enters, leaves, all_empty, begun, stim_of}
use Rattle.qp_model.specs.Sites.{object_at}
use Rattle.qp_model.specs.WordLaw.{is_object}
use Rattle.qp_model.specs.Sound.{IsSound}
use Rattle.qp_model.specs.Ends.{quiet}
use Rattle.qp_model.specs.End.{lines_empty, blocks_rest}
use Rattle.qp_calls.specs.Counting.{count_of}
use Rattle.qp_calls.specs.Deferring.{tokens_in}
use Rattle.qp_calls.specs.LaneView.{LaneView, Counts, Shown}
use Rattle.qp_model_order.specs.RunOrder.{has_stim, RunsInOrder}
use Rattle.qp_model_order.specs.SourceRun.{SourceGoes, untold_all}
use Rattle.qp_plain_sound.specs.Sound.{hands_in}
use Rattle.qp_plain_sound.specs.WordStates.{line_in}
use Rattle.qp_plain_sound.specs.Ending.{OnlyDeferred}
use Rattle.qp_plain_sound.specs.View.{counts_of, shown_in}
use Rattle.qp_plain_sound.proofs.EndLemmas.{quiet-end}
use Rattle.qp_plain_sound.proofs.LawLemmas.{by-the_book}
use Rattle.qp_plain_sound.proofs.Standing.{line-in}
use Rattle.qp_kernel.specs.Stages.{is_resting}
use Rattle.qp_kernel.specs.Run.{SourcesGo}
use Rattle.qp_kernel.specs.QuietRun.{IsQuietRun}
use Rattle.qp_kernel.specs.Turning.{AreAble, Terms, kernel_in}
use Rattle.qp_kernel.specs.Laws.{kept_by}
use Rattle.qp_kernel.specs.Happenings.{SourcesMarch, begun_by, lane_told, lanes_of, lane_order, told_by_source}
use Rattle.qp_kernel.proofs.ZeroLawful.{IsFound, all-found}
use Rattle.qp_kernel.proofs.DeferredLemmas.{deferred_are_kept, no-port}
use Rattle.qp_kernel.proofs.QuietRuns.{quiet_runs_are_lawful}
use Rattle.qp_kernel_runs.specs.Left.{IsLeft, IsIdle}
use Rattle.qp_kernel_runs.proofs.LeftLemmas.{zero-told, zero-items, source-told, sources-are}
use Rattle.qp_kernel_runs.proofs.StoppedRuns.{words-hold, numbers-are, lanes-roomy, count-is}
use Rattle.qp_kernel_runs.proofs.DoneLemmas.{LeftNone, none-left, take-all}
use Rattle.qp_kernel.proofs.HappeningLemmas.{begun-told, runs-count}

module _ (sys : System) (stimuli : List (List Stim)) (lanes : List (List Rec)) (v : LaneView) (left : IsLeft sys stimuli lanes v) (j : Journal) (at : j.lanes ≡ lanes)
    (terms : Terms) (idle : IsIdle sys terms v) (sound : IsSound sys) where
  found : AllByRecursion (IsFound sys.objects) sys.objects
  found = all-found sys.objects sound.ascend

  found-at : (a : ℕ) (d : ObjectDef) → object_at sys a ≡ Some d → d.priority ≡ a
  unfolding object_at
  found-at a d is = go sys.objects is
    where
      go : (ds : List ObjectDef) → find (λ x. x.priority == a) ds ≡ Some d → d.priority ≡ a
      go [] e = absurd (cc)
      go (x ∷ xs) e = by (x.priority == a) refl e (go xs)
        where
          by : (b : Bool) → (x.priority == a) ≡ b → cond b (Some x) (find (λ y. y.priority == a) xs) ≡ Some d → (find (λ y. y.priority == a) xs ≡ Some d → d.priority ≡ a) → d.priority ≡ a
          by true t e later = let same : x ≡ d = cc in let is : x.priority ≡ a = grind (arith, nat_tests, t) in ap (λ (y : ObjectDef). y.priority) (sym same) ∙ is
          by false t e later = later e

  back : (g : List Told) → told_alone (map (for_object 0) g) ≡ g
  back [] = refl
  back (t ∷ ts) = ap (λ us. t ∷ us) (back ts)

  -- each queue is empty, as it was seen
  no-entries : (a : ℕ) (d : ObjectDef) → object_at sys a ≡ Some d → object_at sys d.priority ≡ Some d → d.priority ≡ a
      → ((line_in sys lanes a).entries ≡ []) × ((line_in sys lanes a).f + (line_in sys lanes a).l ≡ (line_in sys lanes a).m)
  unfolding shown_in is_object
  no-entries a d at_a at_d same =
      let e = idle.empties d at_d in
      let shows : Counts e.0 e.1 e.2 ≡ counts_of (line_in sys lanes d.priority) = sym e.3 ∙ left.shown (word.Queue d.priority) in
      let f_is : e.0 ≡ (line_in sys lanes d.priority).f = ap firsts shows in
      let l_is : e.1 ≡ (line_in sys lanes d.priority).l = ap lasts shows in
      let m_is : e.2 ≡ (line_in sys lanes d.priority).m = ap takes shows in
      let line = line-in sys lanes (by-the_book sys lanes left.order 0 0 0 [] [] [] left.world).words d.priority (ap is_some at_d) in
      let all = e.4 in
      let counted = line.counted in
      let none : length (line_in sys lanes d.priority).entries ≡ 0 = omega (arith, f_is, l_is, m_is, counted, all) in
      let spent : (line_in sys lanes d.priority).f + (line_in sys lanes d.priority).l ≡ (line_in sys lanes d.priority).m = omega (arith, f_is, l_is, m_is, all) in
      subst (λ p. ((line_in sys lanes p).entries ≡ []) × ((line_in sys lanes p).f + (line_in sys lanes p).l ≡ (line_in sys lanes p).m)) same
      (empty (line_in sys lanes d.priority).entries none, spent)
    where
      firsts : Shown → ℕ
      firsts (Counts f l m) = f
      firsts _ = 0

      lasts : Shown → ℕ
      lasts (Counts f l m) = l
      lasts _ = 0

      takes : Shown → ℕ
      takes (Counts f l m) = m
      takes _ = 0

      empty : {A : Type 0} (xs : List A) → length xs ≡ 0 → xs ≡ []
      empty [] e = refl
      empty (x ∷ xs) e = absurd (omega (arith, e))

  all-empty : all_empty sys (lane_order v) ≡ true
  unfolding all_empty is_object object_at
  all-empty = go sys.objects found
    where
      go : (ds : List ObjectDef) → AllByRecursion (IsFound sys.objects) ds
          → list_all (λ d. count_by (λ x. enters d.priority x.item) (lane_order v) == count_by (λ x. leaves d.priority x.item) (lane_order v)) ds ≡ true
      go [] h = refl
      go (d ∷ ds) h =
          let is = no-entries d.priority d h.0.0 h.0.0 refl in
          let came = left.entered d.priority (ap is_some h.0.0) in
          let went = left.left d.priority (ap is_some h.0.0) in
          let spent = is.1 in
          let same : (count_by (λ x. enters d.priority x.item) (lane_order v) == count_by (λ x. leaves d.priority x.item) (lane_order v)) ≡ true = grind (arith, nat_tests, came, went, spent) in
          rw (same, go ds h.1) refl

  none : LeftNone (lane_order v) 1 v.plan
  none = none-left sys v.plan (lane_order v) all-empty idle.next

  went-on : (n : ℕ) (more : List (List Stim)) → 0 < n → n + length more ≡ length lanes → LeftNone (lane_order v) n more → SourcesMarch sys n more v.happened → SourcesGo sys j n more
  unfolding SourcesMarch SourcesGo
  went-on n [] some all h m = tt
  went-on n (ss ∷ more) some all h m =
      let alone : told_alone (lane_told n v.happened) ≡ told_by_source n v.happened = back (told_by_source n v.happened) in
      let count = runs-count sys 1 (take (begun_by n v.happened) ss) (told_alone (lane_told n v.happened)) m.0.runs in
      let begins = begun-told n 0 (untold_all v.told) v.happened some in
      let as_many : begun (lane_order v) n ≡ length (take (begun_by n v.happened) ss) = begins ∙ ap (count_by (λ (t : Told). is_some (stim_of t.body))) (sym alone) ∙ count in
      let done : take (begun_by n v.happened) ss ≡ ss = take-all (begun_by n v.happened) ss (subst (λ k. drop k ss ≡ []) as_many h.0) in (
        subst (λ (ts : List ToldItem). SourceGoes sys sim ss ts) (sym (source-told sys stimuli lanes v left j at n some (omega (arith, all)))) (subst (λ xs. SourceGoes sys sim xs (lane_told n v.happened)) done m.0),
        went-on (n + 1) more (omega arith) (omega (arith, all)) h.1 m.1,
      )

  deferred-is : j.kernel ≡ kernel_in terms → deferred_of sys j sys.objects ≡ kept_by idle.keeps sys.objects
  deferred-is kernel =
      deferred_are_kept sys terms idle.state j idle.keeps sound kernel (zero-told sys stimuli lanes v left j at ∙ sym idle.told) idle.stands idle.owed idle.rest

  only : j.kernel ≡ kernel_in terms → OnlyDeferred sys lanes (hands_in sys lanes left.order) (deferred_of sys j sys.objects)
  unfolding is_object
  only kernel = record {
    queues = λ a h. queue a (object_at sys a) refl h;
    hands_are = λ t. ap (count_of t) (sym left.hands) ∙ idle.hands t ∙ ap (λ es. count_of t (tokens_in es)) (sym (deferred-is kernel));
  }
    where
      queue : (a : ℕ) (o : Option ObjectDef) → object_at sys a ≡ o → is_some o ≡ true → (line_in sys lanes a).entries ≡ []
      queue a None is h = absurd (cc)
      queue a (Some d) is h =
          let same : d.priority ≡ a = found-at a d is in
          (no-entries a d is (ap (λ o. object_at sys o) same ∙ is) same).0

  pub idle-is_quiet : AreAble sys → j.kernel ≡ kernel_in terms → j.budget ≡ terms.budget → j.end ≡ quiet → IsQuietRun sys stimuli j idle.state
  idle-is_quiet able kernel same end =
      let sources = sources-are sys stimuli lanes v left j at (no-port terms j.kernel kernel) in
      let rests = quiet-end sys lanes (hands_in sys lanes left.order) (deferred_of sys j sys.objects) left.world.sound (only kernel) in
      record {
        sound = sound;
        able = able;
        terms = terms;
        single = idle.single;
        kernel = kernel;
        budget_is = same;
        words = words-hold sys stimuli lanes v left j at;
        count = count-is sys stimuli lanes v left j at;
        room = lanes-roomy sys stimuli lanes v left j at;
        log = lane_order v;
        numbers = numbers-are sys stimuli lanes v left j at;
        told = zero-told sys stimuli lanes v left j at ∙ sym idle.told;
        now = λ n few. ap (λ x. has_stim x n) sources ∙ idle.now n (subst (λ k. n ≤ k) idle.settled few);
        stands = idle.stands;
        owed = idle.owed;
        started = idle.started;
        base = idle.base;
        over = idle.over;
        rest = λ d is. ap is_resting (idle.rest d is);
        looks = idle.looks;
        order =
            subst (λ x. RunsInOrder sys stimuli idle.looks x (source_lanes sys j) (lane_order v)) (sym (zero-items sys stimuli lanes v left j at))
            (subst (λ x. RunsInOrder sys stimuli idle.looks (untold_all v.told) x (lane_order v)) (sym sources)
            (subst (λ p. RunsInOrder sys p idle.looks (untold_all v.told) (lanes_of v) (lane_order v)) left.plan idle.in_order.order));
        sources = went-on 1 stimuli (omega arith) (sym left.count) (subst (LeftNone (lane_order v) 1) left.plan none) (subst (λ p. SourcesMarch sys 1 p v.happened) left.plan idle.in_order.sources);
        end = end;
        queues = subst (λ (ls : List (List Rec)). lines_empty sys (all_items ls) ≡ true) (sym at) rests.0;
        blocks = subst (λ (ls : List (List Rec)). blocks_rest sys (all_items ls) (deferred_of sys j sys.objects) ≡ true) (sym at) rests.1;
      }

  pub idle-lawful : AreAble sys → j.kernel ≡ kernel_in terms → j.budget ≡ terms.budget → j.end ≡ quiet → Lawful sys stimuli j
  idle-lawful able kernel same end = quiet_runs_are_lawful sys stimuli j idle.state (idle-is_quiet able kernel same end)
