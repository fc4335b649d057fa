-- The laws of lawful journals.
use Rattle.std.proofs.Common.{◌≡◌, ◌≢◌, ℕ, suc, zero, ◌+◌, ◌<◌, ◌==◌, nat_lt, Bool, true, false, not, ◌||◌, cond, List, [], ◌∷◌, length, refl, sym, ◌∙◌, subst, Some, None, arith}
use Rattle.std.specs.Prelude.{⊤, IsTrue}
use Rattle.std.specs.declared.option.Option.{Option}
use Rattle.std.specs.Bool.{MatchBool}
use Rattle.std.specs.List.{list_all, count_by, AllByRecursion}
use Rattle.std.proofs.lemmas.Bool.{or_cases, and_parts}
use Rattle.std.proofs.lemmas.Bool.Decides.{nat_tests}
use Rattle.qp_model.specs.declared.stimulus.Stim.{Stim}
use Rattle.qp_model.specs.declared.words.Word.TheVariants as word
use Rattle.qp_model.specs.declared.systems.System.{System}
use Rattle.qp_model.specs.declared.systems.ObjectDef.{ObjectDef}
use Rattle.qp_model.specs.declared.journals.Journal.{Journal}
use Rattle.qp_model.specs.Record.{Item}
use Rattle.qp_model.specs.Lists.{all_below}
use Rattle.qp_model.specs.History.{all_items, lane_items, hist}
use Rattle.qp_model.specs.Machine.{after}
use Rattle.qp_model.specs.Line.{line}
use Rattle.qp_model.specs.Sites.{ring_of, blocks_of}
use Rattle.qp_model.specs.WordLaw.{is_pool, is_block}
use Rattle.qp_model.specs.Kernels.{port, qv}
use Rattle.qp_model.specs.Home.{lane_at}
use Rattle.qp_model.specs.KernelLane.{Reading, lane_read}
use Rattle.qp_model.specs.Ends.{quiet, end_asserted, spent, spills_in}
use Rattle.qp_model.specs.Sources.{SourceRuns, SourceEnd, AllDone, may_end, source_records}
use Rattle.qp_model.specs.End.{end_of, lines_empty, block_rests, blocks_rest}
use Rattle.qp_model.specs.Lawful.{KernelHolds, SourceLanes, EndHolds, reading_holds, is_settle, setting_of, facts_of, lanes_before, deferred_of}
use Rattle.qp_model.specs.Laws.{StepsBeginAboveTheFloor, CooperativeStepsStandAlone, KernelRestsWhereAllAreEmpty, QuietEndLeavesNothing, QueueIsEmpty, BlockRests, StimuliDone}
use Rattle.qp_model.proofs.ListLemmas.{all_below_at}
use Rattle.qp_model.proofs.KernelLaneLemmas.{steps_begin_above, steps_stand_alone, rests_where_empty}

-- every kernel but `port` has its lane
kernel_lane : (j : Journal) (K : Type 0) → j.kernel ≢ port → MatchBool (j.kernel == port) ⊤ K → K
kernel_lane j K other h = go (j.kernel == port) refl h
  where
    go : (b : Bool) → (j.kernel == port) ≡ b → MatchBool b ⊤ K → K
    go true e h = let is : j.kernel ≡ port = grind (arith, nat_tests, e) in absurd (other is)
    go false e h = h

-- lane 0 was read to its end
reading : (j : Journal) (lane : List Item) (n : ℕ) (o : Option Reading) → IsTrue (reading_holds j lane n o) → (k : Reading) × (o ≡ Some k)
reading j lane n None h = absurd (cc)
reading j lane n (Some k) h = (k, refl)

pub steps_begin_above_the_floor : StepsBeginAboveTheFloor
unfolding setting_of
steps_begin_above_the_floor sys stimuli j h other =
    let lane0 : KernelHolds sys j = kernel_lane j (KernelHolds sys j) other h.kernel in
    let read = reading j (lane_items (lane_at j 0)) (count_by (λ i. is_settle i.body) (all_items j.lanes)) (lane_read (setting_of sys j) (lane_items (lane_at j 0))) lane0.lane in
    steps_begin_above (setting_of sys j) (lane_items (lane_at j 0)) read.0 read.1

pub cooperative_steps_stand_alone : CooperativeStepsStandAlone
unfolding setting_of
cooperative_steps_stand_alone sys stimuli j h is limit =
    let other : j.kernel ≢ port = λ e. let no : qv ≡ port = sym is ∙ e in absurd (omega (arith, no)) in
    let lane0 : KernelHolds sys j = kernel_lane j (KernelHolds sys j) other h.kernel in
    let read = reading j (lane_items (lane_at j 0)) (count_by (λ i. is_settle i.body) (all_items j.lanes)) (lane_read (setting_of sys j) (lane_items (lane_at j 0))) lane0.lane in
    steps_stand_alone (setting_of sys j) (lane_items (lane_at j 0)) read.0 is limit read.1

pub kernel_rests_where_all_are_empty : KernelRestsWhereAllAreEmpty
unfolding setting_of
kernel_rests_where_all_are_empty sys stimuli j h other =
    let lane0 : KernelHolds sys j = kernel_lane j (KernelHolds sys j) other h.kernel in
    let read = reading j (lane_items (lane_at j 0)) (count_by (λ i. is_settle i.body) (all_items j.lanes)) (lane_read (setting_of sys j) (lane_items (lane_at j 0))) lane0.lane in
    rests_where_empty (setting_of sys j) (lane_items (lane_at j 0)) read.0 read.1

-- what is asked in a quiet end
in_quiet : (n : ℕ) (b : Bool) → n ≡ quiet → IsTrue (not (n == quiet) || b) → b ≡ true
in_quiet n b is h = let rest : (not (quiet == quiet) || b) ≡ true = subst (λ x. (not (x == quiet) || b) ≡ true) is h in rest

-- a list with no element
no_length : {A : Type 0} → (xs : List A) → (length xs == 0) ≡ true → xs ≡ []
no_length [] h = refl
no_length (x ∷ xs) h = let none : suc (length xs) ≡ 0 = grind (arith, nat_tests, h) in absurd (omega (arith, none))

queues_empty : (sys : System) (j : Journal) (ds : List ObjectDef)
    → list_all (λ d. length (after (line (ring_of sys d.priority)) (hist (word.Queue d.priority) (all_items j.lanes))).entries == 0) ds ≡ true
    → AllByRecursion (QueueIsEmpty sys j) ds
unfolding QueueIsEmpty
queues_empty sys j [] h = tt
queues_empty sys j (d ∷ ds) h = (no_length _ (and_parts _ _ h).0, queues_empty sys j ds (and_parts _ _ h).1)

blocks_at_rest : (sys : System) (j : Journal) → blocks_rest sys (all_items j.lanes) (deferred_of sys j sys.objects) ≡ true → (p b : ℕ) → IsTrue (is_block sys p b) → BlockRests sys j p b
unfolding blocks_rest block_rests is_block BlockRests
blocks_at_rest sys j h zero b is = cc
blocks_at_rest sys j h (suc k) b is =
    let pool : is_pool sys (suc k) ≡ true = (and_parts _ _ is).0 in
    let below : nat_lt b (blocks_of sys (suc k)) ≡ true = (and_parts _ _ is).1 in
    let in_range : k < length sys.pools = grind (arith, nat_tests, pool) in
    let in_pool : b < blocks_of sys (suc k) = grind (arith, nat_tests, below) in
    let all = all_below_at (length sys.pools) (λ k. all_below (blocks_of sys (suc k)) (block_rests sys (all_items j.lanes) (deferred_of sys j sys.objects) (suc k))) h k in_range in
    or_cases _ _ (all_below_at (blocks_of sys (suc k)) (block_rests sys (all_items j.lanes) (deferred_of sys j sys.objects) (suc k)) all b in_pool)

all_done : (spills : Bool) (stop : SourceEnd) → may_end quiet spills stop ≡ true → stop ≡ AllDone
all_done spills AllDone h = refl
all_done spills _ h = cc

sources_done : (sys : System) (j : Journal) → j.end ≡ quiet → (n : ℕ) (stimuli : List (List Stim)) → SourceLanes sys j n stimuli → StimuliDone sys j n stimuli
unfolding SourceLanes StimuliDone
sources_done sys j is n [] h = tt
sources_done sys j is n (ss ∷ more) h =
    let lane = lane_items (lane_at j n) in
    let stop = h.0.stimuli.0 in
    let quietly : may_end quiet (spills_in lane) stop ≡ true = subst (λ e. may_end e (spills_in lane) stop ≡ true) is h.0.stimuli.2 in
    let done : stop ≡ AllDone = all_done (spills_in lane) stop quietly in
    (subst (λ e. SourceRuns sys j.kernel 1 ss e (source_records (facts_of sys j) lane)) done h.0.stimuli.1, sources_done sys j is (n + 1) more h.1)

nothing_stands : (a b : Bool) → (quiet == cond a end_asserted (cond b spent quiet)) ≡ true → b ≡ false
nothing_stands true b h = cc
nothing_stands false true h = cc
nothing_stands false false h = refl

pub quiet_end_leaves_nothing : QuietEndLeavesNothing
unfolding EndHolds lines_empty
quiet_end_leaves_nothing sys stimuli j h is = record {
  queues = queues_empty sys j sys.objects (in_quiet j.end (lines_empty sys (all_items j.lanes)) is h.end.queues);
  blocks = blocks_at_rest sys j (in_quiet j.end (blocks_rest sys (all_items j.lanes) (deferred_of sys j sys.objects)) is h.end.blocks);
  done = sources_done sys j is (lanes_before sys j) stimuli h.sources.lanes;
  whole = nothing_stands _ _ (subst (λ e. (e == end_of (all_items j.lanes)) ≡ true) is h.end.stated);
}
