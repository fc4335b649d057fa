-- The lanes of a run under `qk` leave a lawful journal.
use Rattle.std.proofs.Common.{◌≡◌, ℕ, suc, ◌+◌, ◌≤◌, true, List, [], ◌∷◌, ◌++◌, map, length, refl, sym, ◌∙◌, ap, subst, arith, append-nil}
use Rattle.std.specs.List.{flat_map}
use Rattle.qp_model.specs.declared.stimulus.Stim.{Stim}
use Rattle.qp_model.specs.declared.systems.System.{System}
use Rattle.qp_model.specs.declared.journals.Journal.{Journal}
use Rattle.qp_model.specs.declared.bodies.Entry.{Entry}
use Rattle.qp_model.specs.History.{all_items, lane_items}
use Rattle.qp_model.specs.Home.{lane_at}
use Rattle.qp_model.specs.Knowing.{told_lane}
use Rattle.qp_model.specs.Kernels.{qk}
use Rattle.qp_model.specs.End.{lines_empty, blocks_rest}
use Rattle.qp_model.specs.Lawful.{facts_of, deferred_of, source_lanes}
use Rattle.qp_model_order.specs.RunOrder.{has_stim}
use Rattle.qp_calls.specs.LaneView.{LaneView}
use Rattle.qp_kernel.specs.Laws.{kept_by}
use Rattle.qp_kernel.specs.Turning.{under_qk}
use Rattle.qp_kernel.specs.ZeroEnds.{ZeroEnds}
use Rattle.qp_kernel.proofs.DeferredLemmas.{deferred_are_kept}
use Rattle.qp_kernel.proofs.ZeroEndLemmas.{more-rows}
use Rattle.qp_port_law.proofs.Resting.{quiet_runs_rest}
use Rattle.qp_port_law.specs.QkRun.{most_idle, IsQkRun}
use Rattle.qp_port_law.proofs.QkBlind.{qk-blind}
use Rattle.qp_port_law.proofs.QkLawful.{lawful}
use Rattle.qp_port_law.specs.SealedLaws.{SealedQkLanesAreLawful}
use Rattle.qp_port_law.specs.QkLanes.{AreQkLanes, QkRests}
use Rattle.qp_port_law.proofs.LaneLemmas.{flat-none, none-in, settles-all, sources-count, sources-leave}

module _ (sys : System) (stimuli : List (List Stim)) (budget : ℕ) (first : LaneView) (sources : List LaneView) (j : Journal) (are : AreQkLanes sys stimuli budget first sources j) where
  abbrev vs : List LaneView
  vs = first ∷ sources

  lanes-many : length j.lanes ≡ 1 + length stimuli
  lanes-many =
      let all : length j.lanes ≡ suc (length sources) = are.seals.count in
      let each = sources-count sys qk j.end stimuli sources are.leave in
      omega (arith, all, each)

  told-is : told_lane (facts_of sys j) 0 (lane_items (lane_at j 0)) ≡ first.told
  told-is = are.seals.told 0 first refl

  few : are.most ≤ most_idle j
  few = let rows = are.rows in let all = settles-all sys qk budget vs j are.seals in omega (arith, rows, all)

  zero : ZeroEnds sys qk j.budget j.end (most_idle j) (told_lane (facts_of sys j) 0 (lane_items (lane_at j 0))) (has_stim (source_lanes sys j))
  zero =
      subst (λ ts. ZeroEnds sys qk j.budget j.end (most_idle j) ts (has_stim (source_lanes sys j))) (sym told-is)
      (subst (λ b. ZeroEnds sys qk b j.end (most_idle j) first.told (has_stim (source_lanes sys j))) (sym are.seals.budget_is)
      (qk-blind sys are.now (has_stim (source_lanes sys j)) (more-rows few are.zero)))

  deferred-is : (rests : QkRests sys budget first sources) → deferred_of sys j sys.objects ≡ kept_by rests.keeps sys.objects
  deferred-is rests =
      deferred_are_kept sys (under_qk budget) rests.state j rests.keeps are.sound are.seals.kernel_is (told-is ∙ rests.told) rests.stands rests.owed rests.rest

  rest : QkRests sys budget first sources → (lines_empty sys (all_items j.lanes) ≡ true) × (blocks_rest sys (all_items j.lanes) (deferred_of sys j sys.objects) ≡ true)
  rest rests =
      let entries : List (List Entry) = kept_by rests.keeps sys.objects ∷ map (λ v. []) sources in
      let ends = quiet_runs_rest sys qk budget vs j 0 first entries are.seals refl rests.looks (rests.hands, none-in sources rests.idle) in
      let flat : flat_map (λ es. es) entries ≡ kept_by rests.keeps sys.objects =
      ap (λ es. kept_by rests.keeps sys.objects ++ es) (flat-none sources) ∙ append-nil (kept_by rests.keeps sys.objects) in
      (ends.0, subst (λ es. blocks_rest sys (all_items j.lanes) es ≡ true) (flat ∙ sym (deferred-is rests)) ends.1)

  is-run : IsQkRun sys stimuli j
  is-run = record {
    sound = are.sound;
    kernel = are.seals.kernel_is;
    words = are.seals.sound.words;
    count = lanes-many;
    room = are.seals.room;
    zero = zero;
    sources = sources-leave sys qk budget vs j are.seals (first ∷ []) stimuli sources refl are.leave;
    stated = are.seals.stated;
    queues = λ end. (rest (are.rests end)).0;
    blocks = λ end. (rest (are.rests end)).1;
  }

pub sealed-qk : SealedQkLanesAreLawful
sealed-qk sys stimuli budget first sources j are = lawful sys stimuli j (is-run sys stimuli budget first sources j are)
