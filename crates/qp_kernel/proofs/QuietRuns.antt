-- A run that comes to its end by itself is a run that has ended.
use Rattle.std.proofs.Common.{◌≡◌, ℕ, suc, ◌+◌, ◌==◌, Bool, true, false, cond, List, [], ◌∷◌, ◌++◌, map, length, drop, refl, sym, ◌∙◌, ap, subst, arith, Some, append-nil}
use Rattle.std.specs.Prelude.{slice_get}
use Rattle.std.specs.Option.{unwrap_or}
use Rattle.std.specs.List.{list_any, find, AllByRecursion}
use Rattle.std.proofs.lemmas.Bool.Decides.{nat_tests}
use Rattle.qp_model.specs.declared.record.Rec.{Rec}
use Rattle.qp_model.specs.declared.stimulus.Stim.{Stim}
use Rattle.qp_model.specs.declared.systems.System.{System}
use Rattle.qp_model.specs.declared.journals.Journal.{Journal}
use Rattle.qp_model.specs.History.{all_items, lane_items}
use Rattle.qp_model.specs.Home.{lane_at}
use Rattle.qp_model.specs.Knowing.{told_lane}
use Rattle.qp_model.specs.Kernels.{has_one_order}
use Rattle.qp_model.specs.Sites.{object_at}
use Rattle.qp_model.specs.Ends.{is_end, quiet}
use Rattle.qp_model.specs.End.{end_of}
use Rattle.qp_model.specs.Lawful.{facts_of, source_lanes}
use Rattle.qp_model.proofs.TakenLemmas.{drop-head}
use Rattle.qp_model_order.specs.RunOrder.{has_stim, EndsInOrder}
use Rattle.qp_model.specs.Told.{untold}
use Rattle.qp_model_order.proofs.CalmLemmas.{calm-no_assert}
use Rattle.qp_model_order.proofs.StimLemmas.{any-both}
use Rattle.qp_model_order.proofs.RunLemmas.{ends-zero}
use Rattle.qp_model_order.proofs.SourceLanes.{source_lane_is_whole, untold-lane}
use Rattle.qp_kernel.specs.ZeroEnds.{ZeroEnds}
use Rattle.qp_kernel.specs.Run.{SourcesGo, SourcesEnd, IsRun}
use Rattle.qp_kernel.specs.QuietRun.{IsQuietRun}
use Rattle.qp_kernel.specs.Turning.{AreNumbered, KernelState, kernel_in}
use Rattle.qp_kernel.specs.Laws.{QuietRunsAreLawful}
use Rattle.qp_kernel.proofs.AlikeKernels.{one-order, one-row}
use Rattle.qp_kernel.proofs.ZeroEndLemmas.{zero-quiet}
use Rattle.qp_kernel.proofs.ZeroLawful.{IsFound, all-found}
use Rattle.qp_kernel.proofs.LawfulLemmas.{lawful}
use Rattle.qp_kernel.proofs.OrderGrowth.{none-last}

-- what is found among objects of which each is so is so
find-all : {A : Type 0} (P : A → Type 0) (p : A → Bool) (xs : List A) (x : A) → AllByRecursion P xs → find p xs ≡ Some x → P x
find-all P p [] x all is = absurd (cc)
find-all P p (y ∷ ys) x all is = by (p y) is (find-all P p ys x all.1)
  where
    by : (b : Bool) → cond b (Some y) (find p ys) ≡ Some x → (find p ys ≡ Some x → P x) → P x
    by true e later = let same : y ≡ x = cc in subst P same all.0
    by false e later = later e

numbered : (sys : System) → AllByRecursion (IsFound sys.objects) sys.objects → AreNumbered sys
unfolding object_at
numbered sys found d at = (find-all (IsFound sys.objects) (λ x. x.priority == d.priority) sys.objects d found at).1

module _ (sys : System) (stimuli : List (List Stim)) (j : Journal) (s : KernelState) (run : IsQuietRun sys stimuli j s) where
  whole-sources : (n : ℕ) (more : List (List Stim)) → SourcesGo sys j n more → SourcesEnd sys j false n more
  unfolding SourcesGo SourcesEnd
  whole-sources n [] h = tt
  whole-sources n (ss ∷ more) h = (source_lane_is_whole sys j.end false ss (told_lane (facts_of sys j) 0 (lane_items (lane_at j n))) h.0, whole-sources (n + 1) more h.1)

  calm-rest : (n : ℕ) (ls : List (List Rec)) (more : List (List Stim)) → drop n j.lanes ≡ ls → SourcesGo sys j n more → length ls ≡ length more → list_any (λ i. is_end i.body) (all_items ls) ≡ false
  unfolding SourcesGo all_items
  calm-rest n [] more at h len = refl
  calm-rest n (l ∷ ls) [] at h len = absurd (omega (arith, len))
  calm-rest n (l ∷ ls) (ss ∷ more) at h len =
      let behind = drop-head n j.lanes l ls at in
      let here : lane_at j n ≡ l = ap (λ x. unwrap_or x []) behind.0 in
      let shorter : length ls ≡ length more = omega (arith, len) in
      let calm : list_any (λ i. is_end i.body) (lane_items l) ≡ false =
      ap (λ x. list_any (λ i. is_end i.body) (lane_items x)) (sym here) ∙ ap (list_any (λ i. is_end i.body)) (sym (untold-lane (facts_of sys j) 0 (lane_items (lane_at j n)))) ∙ h.0.calm in
      any-both (λ i. is_end i.body) (lane_items l) (all_items ls) calm (calm-rest (n + 1) ls more behind.1 h.1 shorter)

  calm-all : (ls : List (List Rec)) → j.lanes ≡ ls → list_any (λ i. is_end i.body) (all_items ls) ≡ false
  unfolding all_items
  calm-all [] at = refl
  calm-all (l ∷ ls) at =
      let first : lane_at j 0 ≡ l = ap (λ x. unwrap_or (slice_get x 0) []) at in
      let all : length j.lanes ≡ suc (length ls) = ap length at in
      let count = run.count in
      let len : length ls ≡ length stimuli = omega (arith, all, count) in
      let calm : list_any (λ i. is_end i.body) (lane_items l) ≡ false =
      ap (λ x. list_any (λ i. is_end i.body) (lane_items x)) (sym first)
      ∙ ap (list_any (λ i. is_end i.body)) (sym (untold-lane (facts_of sys j) 0 (lane_items (lane_at j 0))) ∙ ap (map untold) run.told) ∙ run.stands.calm in
      any-both (λ i. is_end i.body) (lane_items l) (all_items ls) calm (calm-rest 1 ls stimuli (ap (drop 1) at) run.sources len)

  unended : end_of (all_items j.lanes) ≡ 0
  unended = let calm = calm-all j.lanes refl in rw (calm-no_assert (all_items j.lanes) calm, calm) refl

  zero : ZeroEnds sys j.kernel j.budget j.end 1 (told_lane (facts_of sys j) 0 (lane_items (lane_at j 0))) (has_stim (source_lanes sys j))
  zero =
      let ends = zero-quiet sys (kernel_in run.terms) run.terms.budget s.told s.now (has_stim (source_lanes sys j)) s.upto s.reading s.owed s.stages s.entries run.stands run.now run.owed run.started run.base run.over
      (numbered sys (all-found sys.objects run.sound.ascend)) run.able run.rest in
      subst (λ ts. ZeroEnds sys j.kernel j.budget j.end 1 ts (has_stim (source_lanes sys j))) (sym run.told)
      (subst (λ e. ZeroEnds sys j.kernel j.budget e 1 s.told (has_stim (source_lanes sys j))) (sym run.end)
      (subst (λ k. ZeroEnds sys k j.budget quiet 1 s.told (has_stim (source_lanes sys j))) (sym run.kernel)
      (subst (λ n. ZeroEnds sys (kernel_in run.terms) n quiet 1 s.told (has_stim (source_lanes sys j))) (sym run.budget_is)
      (subst (λ most. ZeroEnds sys (kernel_in run.terms) run.terms.budget quiet most s.told (has_stim (source_lanes sys j))) (one-row run.terms s.reading.idle run.single) ends))))

  one : has_one_order j.kernel ≡ true
  one = ap has_one_order run.kernel ∙ one-order run.terms run.single

  order : EndsInOrder sys stimuli (lane_items (lane_at j 0)) (source_lanes sys j) false run.log
  order =
      let ends = ends-zero sys stimuli run.looks (lane_items (lane_at j 0)) (source_lanes sys j) run.log run.order [] tt none-last in
      subst (λ x. EndsInOrder sys stimuli x (source_lanes sys j) false run.log) (append-nil (lane_items (lane_at j 0)))
      (subst (λ x. EndsInOrder sys stimuli (lane_items (lane_at j 0) ++ []) (source_lanes sys j) false x) (append-nil run.log) ends)

  is-run : IsRun sys stimuli j
  is-run = record {
    sound = run.sound;
    kernel = one;
    words = run.words;
    count = run.count;
    room = run.room;
    log = run.log;
    numbers = run.numbers;
    zero = zero;
    cuts = false;
    sources = whole-sources 1 stimuli run.sources;
    order = order;
    stated = let is : j.end ≡ end_of (all_items j.lanes) = run.end ∙ sym unended in grind (arith, nat_tests, is);
    queues = λ e. run.queues;
    blocks = λ e. run.blocks;
  }

pub quiet_runs_are_lawful : QuietRunsAreLawful
quiet_runs_are_lawful sys stimuli j s run = lawful sys stimuli j (is-run sys stimuli j s run)
