-- A run of the kernel of one thread leaves a lawful journal.
use Rattle.std.proofs.Common.{◌≡◌, ℕ, suc, ◌+◌, ◌==◌, Bool, true, false, List, [], ◌∷◌, map, length, drop, refl, sym, ◌∙◌, ap, subst, inl, inr, arith}
use Rattle.std.specs.Prelude.{⊤, ◌⊎◌}
use Rattle.std.specs.Bool.{MatchBool}
use Rattle.std.specs.Option.{unwrap_or}
use Rattle.std.specs.List.{list_any, list_all, filter_map, AllByRecursion}
use Rattle.std.proofs.lemmas.Bool.Decides.{nat_tests}
use Rattle.qp_model.specs.declared.record.Rec.{Rec}
use Rattle.qp_model.specs.declared.stimulus.Stim.{Stim}
use Rattle.qp_model.specs.declared.systems.System.{System}
use Rattle.qp_model.specs.declared.journals.Journal.{Journal}
use Rattle.qp_model.specs.Record.{Item}
use Rattle.qp_model.specs.History.{lane_items}
use Rattle.qp_model.specs.Knowing.{Facts, told_lane}
use Rattle.qp_model.specs.Kernels.{sim, port, has_one_order}
use Rattle.qp_model.specs.Home.{lane_at}
use Rattle.qp_model.specs.Ends.{is_spent, spills_in, spills_cut, ends_last}
use Rattle.qp_model.specs.End.{spills_state}
use Rattle.qp_model.specs.Sources.{AllDone, BeforeStimulus, InStimulus, SourceRuns, IsSourceLane, source_records, entry_seen, none_twice, may_end}
use Rattle.qp_model.specs.OneOrder.{looks_right, IsOneOrder, items_placed}
use Rattle.qp_model.specs.Places.{in_order}
use Rattle.qp_model.specs.Lawful.{facts_of, lanes_before, KernelHolds, SourceLanes, SpillStands, SpillsStand, one_thread, OrderHolds, SourcesHold, EndHolds, Lawful}
use Rattle.qp_model.proofs.TakenLemmas.{drop-head}
use Rattle.qp_model_order.specs.SourceRun.{cut_at, SourceEnds}
use Rattle.qp_model.specs.Told.{untold}
use Rattle.qp_kernel.specs.Run.{SourcesEnd, IsRun}
use Rattle.qp_kernel.proofs.AlikeKernels.{one-order_kernel, one-order_no-port, runs-alike}
use Rattle.qp_model_order.proofs.SourceLanes.{untold-lane}
use Rattle.qp_kernel.proofs.TellLemmas.{source-lane}
use Rattle.qp_kernel.proofs.ZeroLawful.{IsBeside, objects, kernel, end-holds}

match-true : (b : Bool) (A : Type 0) → b ≡ true → A → MatchBool b A ⊤
match-true true A h a = a
match-true false A h a = tt

match-false : (b : Bool) (A : Type 0) → b ≡ false → A → MatchBool b ⊤ A
match-false true A h a = tt
match-false false A h a = a

module _ (sys : System) (stimuli : List (List Stim)) (j : Journal) (run : IsRun sys stimuli j) where
  abbrev w : Facts
  w = facts_of sys j

  no_port : (j.kernel == port) ≡ false
  no_port = one-order_no-port j.kernel run.kernel

  -- The sources.
  one_before : lanes_before sys j ≡ 1
  one_before = rw no_port refl

  module _ (ss : List Stim) (is : List Item) (h : SourceEnds sys sim j.end run.cuts ss (told_lane (facts_of sys j) 0 is)) where
    same-items : map untold (told_lane (facts_of sys j) 0 is) ≡ is
    same-items = untold-lane w 0 is

    alone-here : list_all (λ i. i.of == 0) is ≡ true
    alone-here = ap (list_all (λ i. i.of == 0)) (sym same-items) ∙ h.alone

    beside : IsBeside is
    beside = record {
      alone = alone-here;
      ends = ap ends_last (sym same-items) ∙ h.ends;
      unspent = ap (list_any (λ i. is_spent i.body)) (sym same-items) ∙ h.unspent;
      states = ap (spills_state 0) (sym same-items) ∙ h.states;
    }

    spills-here : spills_in is ≡ spills_in (map untold (told_lane (facts_of sys j) 0 is))
    spills-here = ap spills_in (sym same-items)

    runs-here : SourceRuns sys j.kernel 1 ss h.stop (source_records w is)
    runs-here =
        (subst (SourceRuns sys j.kernel 1 ss h.stop) (sym (source-lane w is alone-here)) (runs-alike sys j.kernel run.kernel 1 ss h.stop _ h.runs))

    is-lane : IsSourceLane w j.kernel j.end ss is
    unfolding facts_of none_twice
    is-lane = record {
      alone = alone-here;
      spills = ap (spills_cut j.end) (sym same-items) ∙ h.spills;
      tries = ap none_twice (ap (filter_map (λ i. entry_seen i.body)) (sym same-items) ∙ h.settled);
      stimuli = (h.stop, runs-here, ap (λ b. may_end j.end b h.stop) spills-here ∙ h.may);
    }

    stands-here : spills_in is ≡ true → (b : Bool) → run.cuts ≡ b → SpillStands sys j b ss is
    unfolding SpillStands
    stands-here any true e =
        let cut : h.stop ≡ InStimulus = subst (λ b. cut_at b h.stop) e (h.cut (sym spills-here ∙ any)) in
        subst (λ stop. SourceRuns sys j.kernel 1 ss stop (source_records w is)) cut runs-here
    stands-here any false e =
        by (subst (λ b. cut_at b h.stop) e (h.cut (sym spills-here ∙ any)))
      where
        by : (h.stop ≡ BeforeStimulus) ⊎ (h.stop ≡ AllDone)
            → SourceRuns sys j.kernel 1 ss BeforeStimulus (source_records w is) ⊎ SourceRuns sys j.kernel 1 ss AllDone (source_records w is)
        by (inl e) = inl (subst (λ stop. SourceRuns sys j.kernel 1 ss stop (source_records w is)) e runs-here)
        by (inr e) = inr (subst (λ stop. SourceRuns sys j.kernel 1 ss stop (source_records w is)) e runs-here)

    spill-here : MatchBool (spills_in is) (SpillStands sys j run.cuts ss is) ⊤
    spill-here = by (spills_in is) refl
      where
        by : (b : Bool) → spills_in is ≡ b → MatchBool b (SpillStands sys j run.cuts ss is) ⊤
        by true e = stands-here e run.cuts refl
        by false e = tt

  lanes-from : (n : ℕ) (more : List (List Stim)) → SourcesEnd sys j run.cuts n more → SourceLanes sys j n more
  unfolding SourceLanes SourcesEnd facts_of
  lanes-from n [] h = tt
  lanes-from n (ss ∷ more) h = (is-lane ss (lane_items (lane_at j n)) h.0, lanes-from (n + 1) more h.1)

  spills-from : (n : ℕ) (more : List (List Stim)) → SourcesEnd sys j run.cuts n more → SpillsStand sys j run.cuts n more
  unfolding SpillsStand SourcesEnd
  spills-from n [] h = tt
  spills-from n (ss ∷ more) h = (spill-here ss (lane_items (lane_at j n)) h.0, spills-from (n + 1) more h.1)

  one-order : IsOneOrder (one_thread sys stimuli j run.cuts)
  unfolding one_thread
  one-order =
      let merged = run.order.merged in
      record {
        placed = run.order.stand;
        turns = ap (looks_right (one_thread sys stimuli j run.cuts) []) merged ∙ run.order.turns;
        numbers = ap (λ xs. in_order [] (items_placed xs)) merged ∙ run.numbers;
        ends = ap (λ xs. ends_last (items_placed xs)) merged ∙ run.order.ends;
        free = run.order.free;
      }

  sources : SourcesHold sys stimuli j
  unfolding OrderHolds
  sources = record {
    lanes = subst (λ n. SourceLanes sys j n stimuli) (sym one_before) (lanes-from 1 stimuli run.sources);
    empty = rw no_port refl;
    count = rw one_before (counted run.count);
    order = match-true (has_one_order j.kernel) (OrderHolds sys stimuli j) has_one (run.cuts, spills-from 1 stimuli run.sources, one-order);
  }
    where
      has_one : has_one_order j.kernel ≡ true
      has_one = run.kernel

      counted : length j.lanes ≡ 1 + length stimuli → (length j.lanes == 1 + length stimuli) ≡ true
      counted e = grind (arith, nat_tests, e)

  -- The lanes behind lane 0.
  each : (n : ℕ) (ls : List (List Rec)) (more : List (List Stim)) → drop n j.lanes ≡ ls → SourcesEnd sys j run.cuts n more → length ls ≡ length more → AllByRecursion (λ l. IsBeside (lane_items l)) ls
  unfolding SourcesEnd
  each n [] more at h len = tt
  each n (l ∷ ls) [] at h len = absurd (omega (arith, len))
  each n (l ∷ ls) (ss ∷ more) at h len =
      let behind = drop-head n j.lanes l ls at in
      let here_l : lane_at j n ≡ l = ap (λ x. unwrap_or x []) behind.0 in
      let shorter : length ls ≡ length more = omega (arith, len) in
      (subst (λ x. IsBeside (lane_items x)) here_l (beside ss (lane_items (lane_at j n)) h.0), each (n + 1) ls more behind.1 h.1 shorter)

  pub lawful : Lawful sys stimuli j
  lawful = record {
    words = run.words;
    objects = objects sys j 1 run.sound no_port run.zero;
    kernel = match-false (j.kernel == port) (KernelHolds sys j) no_port (kernel sys j 1 run.sound no_port run.zero (one-order_kernel j.kernel run.kernel) (omega arith));
    sources = sources;
    end = by j.lanes refl;
  }
    where
      by : (ls : List (List Rec)) → j.lanes ≡ ls → EndHolds sys j
      by [] at = let none : length j.lanes ≡ 0 = ap length at in let count = run.count in absurd (omega (arith, none, count))
      by (l ∷ ls) at =
          let all : length j.lanes ≡ suc (length ls) = ap length at in
          let count = run.count in
          let same : length ls ≡ length stimuli = omega (arith, all, count) in
          end-holds sys j 1 run.sound no_port run.zero l ls at (each 1 ls stimuli (ap (drop 1) at) run.sources same) run.stated run.room run.queues run.blocks
