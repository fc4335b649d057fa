-- The lanes of a run under `port` leave a lawful journal.
use Rattle.std.proofs.Common.{◌≡◌, ℕ, suc, ◌+◌, true, List, [], ◌∷◌, ◌++◌, map, length, refl, sym, ◌∙◌, ap, subst, arith}
use Rattle.std.proofs.lemmas.List.{length-append}
use Rattle.qp_model.specs.declared.record.Rec.{Rec}
use Rattle.qp_model.specs.declared.stimulus.Stim.{Stim}
use Rattle.qp_model.specs.declared.systems.System.{System}
use Rattle.qp_model.specs.declared.journals.Journal.{Journal}
use Rattle.qp_model.specs.declared.bodies.Entry.{Entry}
use Rattle.qp_model.specs.History.{all_items, lane_items}
use Rattle.qp_model.specs.Home.{lane_at}
use Rattle.qp_model.specs.Kernels.{port}
use Rattle.qp_model.specs.End.{lines_empty, blocks_rest}
use Rattle.qp_model.specs.Lawful.{facts_of, deferred_of}
use Rattle.qp_model_order.specs.SourceRun.{untold_all}
use Rattle.qp_model_order.proofs.SourceLanes.{untold-lane}
use Rattle.qp_calls.specs.LaneView.{LaneView}
use Rattle.qp_calls.specs.Counting.{count_of}
use Rattle.qp_kernel.specs.Laws.{kept_by}
use Rattle.qp_port_law.proofs.Resting.{quiet_runs_rest}
use Rattle.qp_port_law.specs.PortRun.{IsPortRun, SourcesLeave}
use Rattle.qp_port_law.proofs.HomesKept.{homes-kept}
use Rattle.qp_port_law.proofs.PortLawful.{lawful}
use Rattle.qp_port_law.specs.SealedLaws.{SealedPortRunsAreLawful}
use Rattle.qp_port_law.specs.PortLanes.{ArePortLanes, PortRests}
use Rattle.qp_port_law.proofs.LaneLemmas.{flat-kept, homes-count, homes-end, homes-rest, kept-in, sources-count, sources-leave}

no-records : (l : List Rec) → lane_items l ≡ [] → l ≡ []
unfolding lane_items
no-records [] h = refl
no-records (r ∷ l) h = absurd (cc)

module _ (sys : System) (stimuli : List (List Stim)) (budget : ℕ) (first : LaneView) (homes sources : List LaneView) (j : Journal) (are : ArePortLanes sys stimuli budget first homes sources j) where
  abbrev vs : List LaneView
  vs = first ∷ homes ++ sources

  homes-many : length homes ≡ length sys.objects
  homes-many = homes-count sys budget j.end sys.objects homes are.ends

  sources-many : length sources ≡ length stimuli
  sources-many = sources-count sys port j.end stimuli sources are.leave

  lanes-many : length j.lanes ≡ length sys.objects + 1 + length stimuli
  lanes-many =
      let all : length j.lanes ≡ suc (length (homes ++ sources)) = are.seals.count in
      let both = length-append homes sources in
      let a = homes-many in
      let b = sources-many in
      omega (arith, all, both, a, b)

  nothing : lane_at j 0 ≡ []
  nothing =
      no-records (lane_at j 0)
      (sym (untold-lane (facts_of sys j) 0 (lane_items (lane_at j 0))) ∙ ap untold_all (are.seals.told 0 first refl ∙ are.empty))

  left : SourcesLeave sys j (length sys.objects + 1) stimuli
  left =
      let places : suc (length homes) ≡ length sys.objects + 1 = let a = homes-many in omega (arith, a) in
      subst (λ n. SourcesLeave sys j n stimuli) places (sources-leave sys port budget vs j are.seals (first ∷ homes) stimuli sources refl are.leave)

  deferred-is : (rests : PortRests sys first homes sources) → deferred_of sys j sys.objects ≡ kept_by rests.keeps sys.objects
  deferred-is rests = homes-kept sys j rests.keeps are.sound are.seals.kernel_is (homes-rest sys port budget vs j are.seals rests.keeps (first ∷ []) sys.objects homes sources refl rests.rests)

  rest : PortRests sys first homes sources → (lines_empty sys (all_items j.lanes) ≡ true) × (blocks_rest sys (all_items j.lanes) (deferred_of sys j sys.objects) ≡ true)
  rest rests =
      let entries : List (List Entry) = [] ∷ map (λ d. (rests.keeps d.priority).kept) sys.objects ++ map (λ v. []) sources in
      let ends = quiet_runs_rest sys port budget vs j 0 first entries are.seals refl rests.looks
      ((λ t. ap (count_of t) rests.none), kept-in sys rests.keeps sys.objects homes sources rests.rests rests.idle) in
      (ends.0, subst (λ es. blocks_rest sys (all_items j.lanes) es ≡ true) (flat-kept rests.keeps sys.objects sources ∙ sym (deferred-is rests)) ends.1)

  is-run : IsPortRun sys stimuli j
  is-run = record {
    sound = are.sound;
    kernel = are.seals.kernel_is;
    words = are.seals.sound.words;
    count = lanes-many;
    room = are.seals.room;
    empty = nothing;
    homes = homes-end sys port budget vs j are.seals (first ∷ []) sys.objects homes sources refl are.ends;
    sources = left;
    stated = are.seals.stated;
    queues = λ end. (rest (are.rests end)).0;
    blocks = λ end. (rest (are.rests end)).1;
  }

pub sealed-port : SealedPortRunsAreLawful
sealed-port sys stimuli budget first homes sources j are = lawful sys stimuli j (is-run sys stimuli budget first homes sources j are)
