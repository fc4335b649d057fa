-- A run in which each object has a lane of its own leaves a lawful journal.
use Rattle.std.proofs.Common.{◌≡◌, ℕ, suc, ◌+◌, ◌<◌, ◌≤◌, ◌==◌, nat_le, Bool, true, false, not, ◌&&◌, ◌||◌, cond, List, [], ◌∷◌, ◌++◌, map, length, drop, refl, sym, ◌∙◌, ap, subst, arith, None, append_assoc, append-nil}
use Rattle.std.specs.Prelude.{⊤, slice_get}
use Rattle.std.specs.Bool.{MatchBool}
use Rattle.std.specs.Option.{unwrap_or, is_some}
use Rattle.std.specs.List.{list_all, count_by, find, AllByRecursion}
use Rattle.std.proofs.lemmas.Bool.{and_from, and_parts, not-false}
use Rattle.std.proofs.lemmas.Bool.Decides.{nat_tests}
use Rattle.qp_model.specs.declared.record.Rec.{Rec}
use Rattle.qp_model.specs.declared.stimulus.Stim.{Stim}
use Rattle.qp_model.specs.declared.systems.System.{System}
use Rattle.qp_model.specs.declared.systems.ObjectDef.{ObjectDef}
use Rattle.qp_model.specs.declared.journals.Journal.{Journal}
use Rattle.qp_model.specs.Record.{Item}
use Rattle.qp_model.specs.Told.{ToldItem}
use Rattle.qp_model.specs.History.{all_items, lane_items}
use Rattle.qp_model.specs.Knowing.{Facts, told_lane, records_of}
use Rattle.qp_model.specs.Laws.{Ascend}
use Rattle.qp_model.specs.Kernels.{port, has_one_order}
use Rattle.qp_model.specs.Home.{lane_at, home_of, by_object, own_items, as_own, home_records}
use Rattle.qp_model.specs.HomeLane.{is_home_lane}
use Rattle.qp_model.specs.Pieces.{records_in}
use Rattle.qp_model.specs.Deferral.{kept_after}
use Rattle.qp_model.specs.Ends.{is_turn_mark, is_spent, may_cut, ends_last}
use Rattle.qp_model.specs.End.{spills_state, takes_of, took_count, spent_right, spents_follow, spents_hold}
use Rattle.qp_model.specs.Course.{Whole, Stopped, Anywhere, FollowsTo}
use Rattle.qp_model.specs.ObjectShape.{HasShape}
use Rattle.qp_model.specs.Lawful.{facts_of, spill_cuts, cut_of, deferral_holds, dispatched, CourseHolds, ObjectHolds, lanes_before, SourceLanes, SourcesHold, EndHolds, KernelHolds, OrderHolds, Lawful}
use Rattle.qp_model.proofs.DeferralLemmas.{follows-deferral, kept-filter}
use Rattle.qp_model.proofs.HomeLemmas.{AreBelow, Splits, split-homes, below-next}
use Rattle.qp_model.proofs.KnowingLemmas.{records_of-told}
use Rattle.qp_model.proofs.TakenLemmas.{drop-head}
use Rattle.qp_model.proofs.NumberLemmas.{count-append}
use Rattle.qp_model.proofs.ListLemmas.{every-test}
use Rattle.qp_model_order.specs.SourceRun.{untold_all}
use Rattle.qp_kernel.specs.ZeroEnds.{cut_in, own_told}
use Rattle.qp_model_order.proofs.SourceLanes.{untold-lane}
use Rattle.qp_kernel.proofs.ZeroLawful.{all-found, mark-other, quietly, unspent-follow, unspent-right, IsFound}
use Rattle.qp_port_law.specs.Homes.{home_told, is_spent_home, HomeEnds}
use Rattle.qp_port_law.specs.SourcesLeft.{SourceLeaves}
use Rattle.qp_port_law.specs.PortRun.{HomesEnd, SourcesLeave, IsPortRun}
use Rattle.qp_port_law.proofs.HomePlaces.{home-at, next-count}
use Rattle.qp_model.proofs.MeaningLemmas.{none_below}
use Rattle.qp_port_law.proofs.HomeTold.{own-looks, takes-none}
use Rattle.qp_port_law.proofs.LeavingLemmas.{lanes-from, leaves-beside}

module _ (sys : System) (stimuli : List (List Stim)) (j : Journal) (run : IsPortRun sys stimuli j) where
  abbrev w : Facts
  w = facts_of sys j

  is_port : (j.kernel == port) ≡ true
  is_port = rw run.kernel refl

  one_before : lanes_before sys j ≡ length sys.objects + 1
  one_before = rw is_port refl

  -- One object, with its lane.
  module _ (front : List ObjectDef) (d : ObjectDef) (ds : List ObjectDef) (at : front ++ d ∷ ds ≡ sys.objects) (below : AllByRecursion (λ x. x.priority < d.priority) front)
      (ends : HomeEnds sys d j.budget j.end (told_lane (facts_of sys j) 0 (lane_items (lane_at j (length front + 1))))) where
    abbrev lane : List Item
    lane = lane_items (lane_at j (length front + 1))

    abbrev told : List ToldItem
    told = told_lane (facts_of sys j) 0 (lane_items (lane_at j (length front + 1)))

    home-is : home_of sys j d.priority ≡ length front + 1
    home-is = home-at sys j run.kernel front d ds at below

    items-are : untold_all told ≡ lane
    items-are = untold-lane w 0 lane

    cut-is : cut_of sys j d.priority ≡ cut_in j.end d.priority (untold_all told)
    unfolding cut_of
    cut-is = ap (λ n. cond (may_cut j.end) (cond (spill_cuts d.priority (lane_items (lane_at j n))) Anywhere Stopped) Whole) home-is ∙ ap (cut_in j.end d.priority) (sym items-are)

    own-is : by_object w j d.priority ≡ own_told d.priority told
    unfolding by_object facts_of
    own-is = ap (λ n. records_of w d.priority 0 (lane_items (lane_at j n))) home-is ∙ records_of-told w d.priority 0 lane

    home_records-are : home_records w j d.priority ≡ home_told d.priority told
    unfolding home_records own_items facts_of
    home_records-are =
        ap (λ b. records_of w d.priority 0 (own_items b d.priority (lane_items (lane_at j (home_of sys j d.priority))))) is_port
        ∙ ap (λ n. records_of w d.priority 0 (map (as_own d.priority) (lane_items (lane_at j n)))) home-is
        ∙ records_of-told w d.priority 0 (map (as_own d.priority) lane) ∙ ap (λ ts. own_told d.priority ts) (own-looks w d.priority 0 lane)

    follows : FollowsTo sys d (cut_of sys j d.priority) ends.ps
    follows = subst (λ c. FollowsTo sys d c ends.ps) (sym cut-is) ends.follows

    bare-is : records_in ends.ps ≡ dispatched (by_object w j d.priority)
    bare-is = ends.bare_is ∙ ap dispatched (sym own-is)

    shape : HasShape sys d.priority (j.kernel == port) (cut_of sys j d.priority) (home_records w j d.priority)
    shape =
        subst (HasShape sys d.priority (j.kernel == port) (cut_of sys j d.priority)) (sym home_records-are)
        (subst (λ c. HasShape sys d.priority (j.kernel == port) c (home_told d.priority told)) (sym cut-is)
        (subst (λ b. HasShape sys d.priority b (cut_in j.end d.priority (untold_all told)) (home_told d.priority told)) (sym is_port) ends.shape))

    at_home : is_home_lane d.priority j.budget (may_cut j.end) (lane_items (lane_at j (home_of sys j d.priority))) ≡ true
    at_home = ap (λ n. is_home_lane d.priority j.budget (may_cut j.end) (lane_items (lane_at j n))) home-is ∙ ap (is_home_lane d.priority j.budget (may_cut j.end)) (sym items-are) ∙ ends.home

    home_in : (not (j.kernel == port) || is_home_lane d.priority j.budget (may_cut j.end) (lane_items (lane_at j (home_of sys j d.priority)))) ≡ true
    home_in = subst (λ b. (not b || is_home_lane d.priority j.budget (may_cut j.end) (lane_items (lane_at j (home_of sys j d.priority)))) ≡ true) (sym is_port) at_home

    deferral : deferral_holds sys j d ≡ true
    unfolding deferral_holds
    deferral =
        ap is_some (sym (kept-filter d.defer (λ t. not (is_turn_mark t.body)) (λ t h. mark-other t.body (not-false (is_turn_mark t.body) h)) [] (by_object w j d.priority)))
        ∙ ap (λ g. is_some (kept_after d.defer [] g)) (sym bare-is) ∙ follows-deferral sys d (cut_of sys j d.priority) ends.ps follows

    pub object : ObjectHolds sys j d
    unfolding CourseHolds
    object = record {
      shapes = record { shape = shape; home = home_in };
      deferral = deferral;
      course = (ends.ps, bare-is, follows);
    }

    -- a `spent` of the lane stands where it may, where o takes in no other lane
    spent-each : took_count (all_items j.lanes) d.priority ≡ took_count lane d.priority → (is : List Item) → list_all (is_spent_home d.priority j.budget lane) is ≡ true
        → list_all (spent_right sys j (length front + 1)) is ≡ true
    spent-each all [] h = refl
    spent-each all (i ∷ is) h =
        let parts = and_parts (is_spent_home d.priority j.budget lane i) (list_all (is_spent_home d.priority j.budget lane) is) h in
        and_from (spent_right sys j (length front + 1) i) (list_all (spent_right sys j (length front + 1)) is) (by (is_spent i.body) parts.0) (spent-each all is parts.1)
      where
        by : (b : Bool) → (not b || ((i.of == d.priority) && (took_count lane d.priority == j.budget))) ≡ true
            → (not b || ((home_of sys j i.of == length front + 1) && (took_count (all_items j.lanes) i.of == j.budget))) ≡ true
        by false h = refl
        by true h =
            let two = and_parts (i.of == d.priority) (took_count lane d.priority == j.budget) h in
            let same : i.of ≡ d.priority = grind (arith, nat_tests, two.0) in
            let home : (length front + 1 == length front + 1) ≡ true = grind (arith, nat_tests) in
            rw (same, home-is, all, home, two.1) refl

    pub spents-here : took_count (all_items j.lanes) d.priority ≡ took_count lane d.priority → list_all (spent_right sys j (length front + 1)) lane ≡ true
    spents-here all = spent-each all lane (subst (λ x. list_all (is_spent_home d.priority j.budget x) x ≡ true) items-are ends.spent)

    pub follow-here : spents_follow None lane ≡ true
    follow-here = ap (spents_follow None) (sym items-are) ∙ ends.spents

    pub last-here : ends_last lane ≡ true
    last-here = ap ends_last (sym items-are) ∙ ends.ends

    pub states-here : spills_state 0 lane ≡ true
    states-here = ap (spills_state 0) (sym items-are) ∙ ends.states

    pub few-here : took_count lane d.priority ≤ j.budget
    few-here = subst (λ x. took_count x d.priority ≤ j.budget) items-are ends.budgets

  -- Each object, with its lane, from lane n on.
  module _ (Q : ℕ → ObjectDef → Type 0)
      (go : (front : List ObjectDef) (d : ObjectDef) (ds : List ObjectDef) → front ++ d ∷ ds ≡ sys.objects → AllByRecursion (λ x. x.priority < d.priority) front
      → HomeEnds sys d j.budget j.end (told_lane (facts_of sys j) 0 (lane_items (lane_at j (length front + 1)))) → Q (length front + 1) d) where
    abbrev Each : ℕ → List ObjectDef → Type 0
    Each n [] = ⊤
    Each n (d ∷ ds) = Q n d × Each (n + 1) ds

    each-from : (front ds : List ObjectDef) (n : ℕ) → front ++ ds ≡ sys.objects → n ≡ length front + 1 → AreBelow front ds → Ascend ds → HomesEnd sys j n ds → Each n ds
    unfolding HomesEnd
    each-from front [] n at here below rise h = tt
    each-from front (d ∷ ds) n at here below rise h = (
      subst (λ k. Q k d) (sym here) (go front d ds at below.0 (subst (λ k. HomeEnds sys d j.budget j.end (told_lane (facts_of sys j) 0 (lane_items (lane_at j k)))) here h.0)),
      each-from (front ++ d ∷ []) ds (n + 1) (append_assoc front (d ∷ []) ds ∙ at) (next-count front d n here) (below-next front d ds below.1 rise.1) rise.2 h.1,
    )

    pub each-home : Each 1 sys.objects
    each-home = each-from [] sys.objects 1 refl refl (none_below sys.objects) run.sound.ascend run.homes

  objects : AllByRecursion (ObjectHolds sys j) sys.objects
  objects = flat sys.objects 1 (each-home (λ n d. ObjectHolds sys j d) (λ front d ds at below ends. object front d ds at below ends))
    where
      flat : (ds : List ObjectDef) (n : ℕ) → Each (λ n d. ObjectHolds sys j d) (λ front d ds at below ends. object front d ds at below ends) n ds → AllByRecursion (ObjectHolds sys j) ds
      flat [] n h = tt
      flat (d ∷ ds) n h = (h.0, flat ds (n + 1) h.1)

  -- The sources.
  source-lanes : SourceLanes sys j (length sys.objects + 1) stimuli
  source-lanes = lanes-from sys j (length sys.objects + 1) stimuli run.sources

  sources : SourcesHold sys stimuli j
  sources = record {
    lanes = subst (λ n. SourceLanes sys j n stimuli) (sym one_before) source-lanes;
    empty = rw run.empty none-or;
    count = rw one_before (counted (length j.lanes) run.count);
    order = subst (λ k. MatchBool (has_one_order k) (OrderHolds sys stimuli j) ⊤) (sym run.kernel) tt;
  }
    where
      none-or : (not (j.kernel == port) || true) ≡ true
      none-or = by (not (j.kernel == port))
        where
          by : (b : Bool) → (b || true) ≡ true
          by true = refl
          by false = refl

      counted : (n : ℕ) → n ≡ length sys.objects + 1 + length stimuli → (n == length sys.objects + 1 + length stimuli) ≡ true
      counted n e = grind (arith, nat_tests, e)

  -- Where an object takes.
  count-lanes : (p : Item → Bool) (xs ys : List (List Rec)) → count_by p (all_items (xs ++ ys)) ≡ count_by p (all_items xs) + count_by p (all_items ys)
  unfolding all_items
  count-lanes p [] ys = omega arith
  count-lanes p (x ∷ xs) ys =
      let later = count-lanes p xs ys in
      let one = count-append p (lane_items x) (all_items (xs ++ ys)) in
      let two = count-append p (lane_items x) (all_items xs) in
      omega (arith, later, one, two)

  module _ (l : List Rec) (ls : List (List Rec)) (split : j.lanes ≡ l ∷ ls) where
    first-none : l ≡ []
    first-none = sym (ap (λ x. unwrap_or (slice_get x 0) []) split) ∙ run.empty

    rest-count : length ls ≡ length sys.objects + length stimuli
    rest-count = let all : length j.lanes ≡ suc (length ls) = ap length split in let count = run.count in omega (arith, all, count)

    takes-all : (o : ℕ) → 0 < o → is_some (find (λ d. d.priority == o) sys.objects) ≡ true → took_count (all_items j.lanes) o ≡ took_count (lane_items (lane_at j (home_of sys j o))) o
    unfolding took_count all_items
    takes-all o some found =
        let s : Splits sys j run.kernel stimuli source-lanes o some ls = split-homes sys j run.kernel stimuli source-lanes o some [] sys.objects 1 ls refl refl (ap (drop 1) split) rest-count (none_below sys.objects) run.sound.ascend objects found in
        let before : count_by (takes_of o) (all_items s.front) ≡ 0 = takes-none o (all_items s.front) s.before in
        let behind : count_by (takes_of o) (all_items s.back) ≡ 0 = takes-none o (all_items s.back) s.behind in
        let parts = count-lanes (takes_of o) s.front (s.lane ∷ s.back) in
        let one = count-append (takes_of o) (lane_items s.lane) (all_items s.back) in
        let whole : count_by (takes_of o) (all_items j.lanes) ≡ count_by (takes_of o) (all_items ls) =
        ap (λ x. count_by (takes_of o) (all_items x)) split ∙ ap (λ x. count_by (takes_of o) (lane_items x ++ all_items ls)) first-none in
        whole ∙ ap (λ x. count_by (takes_of o) (all_items x)) s.parts ∙ omega (arith, parts, one, before, behind) ∙ ap (λ x. count_by (takes_of o) (lane_items x)) (sym s.home)

    found-at : (front : List ObjectDef) (d : ObjectDef) (ds : List ObjectDef) → (P : ObjectDef → Type 0) → AllByRecursion P (front ++ d ∷ ds) → P d
    found-at [] d ds P h = h.0
    found-at (x ∷ front) d ds P h = found-at front d ds P h.1

    found : AllByRecursion (IsFound sys.objects) sys.objects
    found = all-found sys.objects run.sound.ascend

    -- what holds of lane n, by its records, of all lanes behind lane 0
    module _ (P : ℕ → List Item → Type 0)
        (home-go : (front : List ObjectDef) (d : ObjectDef) (ds : List ObjectDef) → front ++ d ∷ ds ≡ sys.objects → AllByRecursion (λ x. x.priority < d.priority) front
        → HomeEnds sys d j.budget j.end (told_lane (facts_of sys j) 0 (lane_items (lane_at j (length front + 1)))) → P (length front + 1) (lane_items (lane_at j (length front + 1))))
        (source-go : (n : ℕ) (ss : List Stim) (is : List Item) → SourceLeaves sys j.kernel j.end ss (told_lane (facts_of sys j) 0 is) → P n is) where
      abbrev AllFrom : ℕ → List (List Rec) → Type 0
      AllFrom n [] = ⊤
      AllFrom n (x ∷ xs) = P n (lane_items x) × AllFrom (n + 1) xs

      sources-go : (n : ℕ) (xs : List (List Rec)) (more : List (List Stim)) → drop n j.lanes ≡ xs → SourcesLeave sys j n more → length xs ≡ length more → AllFrom n xs
      unfolding SourcesLeave
      sources-go n [] more at h len = tt
      sources-go n (x ∷ xs) [] at h len = absurd (omega (arith, len))
      sources-go n (x ∷ xs) (ss ∷ more) at h len =
          let behind = drop-head n j.lanes x xs at in
          let here_l : lane_at j n ≡ x = ap (λ y. unwrap_or y []) behind.0 in
          let shorter : length xs ≡ length more = omega (arith, len) in
          (subst (λ y. P n (lane_items y)) here_l (source-go n ss (lane_items (lane_at j n)) h.0), sources-go (n + 1) xs more behind.1 h.1 shorter)

      homes-go : (front ds : List ObjectDef) (n : ℕ) (xs : List (List Rec)) → front ++ ds ≡ sys.objects → n ≡ length front + 1 → AreBelow front ds → Ascend ds → HomesEnd sys j n ds
          → drop n j.lanes ≡ xs → length xs ≡ length ds + length stimuli → AllFrom n xs
      unfolding HomesEnd
      homes-go front [] n xs at here below rise h lanes len =
          let all : length front ≡ length sys.objects = ap length (sym (append-nil front) ∙ at) in
          let behind : length sys.objects + 1 ≡ n = omega (arith, all, here) in
          let shorter : length xs ≡ length stimuli = omega (arith, len) in
          sources-go n xs stimuli lanes (subst (λ k. SourcesLeave sys j k stimuli) behind run.sources) shorter
      homes-go front (d ∷ ds) n [] at here below rise h lanes len = absurd (omega (arith, len))
      homes-go front (d ∷ ds) n (x ∷ xs) at here below rise h lanes len =
          let behind = drop-head n j.lanes x xs lanes in
          let here_l : lane_at j n ≡ x = ap (λ y. unwrap_or y []) behind.0 in
          let shorter : length xs ≡ length ds + length stimuli = omega (arith, len) in
          let one : P n (lane_items (lane_at j n)) =
          subst (λ k. P k (lane_items (lane_at j k))) (sym here)
          (home-go front d ds at below.0 (subst (λ k. HomeEnds sys d j.budget j.end (told_lane (facts_of sys j) 0 (lane_items (lane_at j k)))) here h.0)) in (
            subst (λ y. P n (lane_items y)) here_l one,
            homes-go (front ++ d ∷ []) ds (n + 1) xs (append_assoc front (d ∷ []) ds ∙ at) (next-count front d n here) (below-next front d ds below.1 rise.1) rise.2 h.1 behind.1 shorter,
          )

      all-go : AllFrom 1 ls
      all-go = homes-go [] sys.objects 1 ls refl refl (none_below sys.objects) run.sound.ascend run.homes (ap (drop 1) split) rest-count

    -- the same of a test that asks nothing of the lane's number
    module _ (p : List Item → Bool) (nil : p [] ≡ true)
        (home-go : (front : List ObjectDef) (d : ObjectDef) (ds : List ObjectDef) → front ++ d ∷ ds ≡ sys.objects → AllByRecursion (λ x. x.priority < d.priority) front
        → HomeEnds sys d j.budget j.end (told_lane (facts_of sys j) 0 (lane_items (lane_at j (length front + 1)))) → p (lane_items (lane_at j (length front + 1))) ≡ true)
        (source-go : (ss : List Stim) (is : List Item) → SourceLeaves sys j.kernel j.end ss (told_lane (facts_of sys j) 0 is) → p is ≡ true) where
      no-items : lane_items l ≡ []
      unfolding lane_items
      no-items = ap lane_items first-none

      tests-from : (n : ℕ) (xs : List (List Rec)) → AllFrom (λ n is. p is ≡ true) home-go (λ n. source-go) n xs → list_all (λ x. p (lane_items x)) xs ≡ true
      tests-from n [] h = refl
      tests-from n (x ∷ xs) h = and_from (p (lane_items x)) (list_all (λ x. p (lane_items x)) xs) h.0 (tests-from (n + 1) xs h.1)

      tests : list_all (λ x. p (lane_items x)) j.lanes ≡ true
      tests =
          ap (list_all (λ x. p (lane_items x))) split
          ∙ and_from (p (lane_items l)) (list_all (λ x. p (lane_items x)) ls) (ap p no-items ∙ nil) (tests-from 1 ls (all-go (λ n is. p is ≡ true) home-go (λ n. source-go)))

    abbrev Spents : ℕ → List Item → Type 0
    Spents n is = (list_all (spent_right sys j n) is ≡ true) × (spents_follow None is ≡ true)

    home-spents : (front : List ObjectDef) (d : ObjectDef) (ds : List ObjectDef) → front ++ d ∷ ds ≡ sys.objects → AllByRecursion (λ x. x.priority < d.priority) front
        → HomeEnds sys d j.budget j.end (told_lane (facts_of sys j) 0 (lane_items (lane_at j (length front + 1)))) → Spents (length front + 1) (lane_items (lane_at j (length front + 1)))
    home-spents front d ds at below ends =
        let is = found-at front d ds (IsFound sys.objects) (subst (AllByRecursion (IsFound sys.objects)) (sym at) found) in
        let all = takes-all d.priority is.1 (ap is_some is.0) ∙ ap (λ n. took_count (lane_items (lane_at j n)) d.priority) (home-at sys j run.kernel front d ds at below) in
        (spents-here front d ds at below ends all, follow-here front d ds at below ends)

    source-spents : (n : ℕ) (ss : List Stim) (is : List Item) → SourceLeaves sys j.kernel j.end ss (told_lane (facts_of sys j) 0 is) → Spents n is
    source-spents n ss is h =
        let none = (leaves-beside sys j ss is h).unspent in
        (unspent-right sys j n is none, unspent-follow None is none)

    spents-from : (n : ℕ) (xs : List (List Rec)) → AllFrom Spents home-spents source-spents n xs → spents_hold sys j n xs ≡ true
    unfolding spents_hold
    spents-from n [] h = refl
    spents-from n (x ∷ xs) h = rw (h.0.0, h.0.1, spents-from (n + 1) xs h.1) refl

    spents : spents_hold sys j 0 j.lanes ≡ true
    unfolding spents_hold spents_follow lane_items
    spents =
        ap (spents_hold sys j 0) split ∙ ap (λ x. spents_hold sys j 0 (x ∷ ls)) first-none ∙ spents-from 1 ls (all-go Spents home-spents source-spents)

    budget-here : (front : List ObjectDef) (d : ObjectDef) (ds : List ObjectDef) → front ++ d ∷ ds ≡ sys.objects → AllByRecursion (λ x. x.priority < d.priority) front
        → HomeEnds sys d j.budget j.end (told_lane (facts_of sys j) 0 (lane_items (lane_at j (length front + 1)))) → nat_le (took_count (all_items j.lanes) d.priority) j.budget ≡ true
    budget-here front d ds at below ends =
        let is = found-at front d ds (IsFound sys.objects) (subst (AllByRecursion (IsFound sys.objects)) (sym at) found) in
        let all : took_count (all_items j.lanes) d.priority ≡ took_count (lane_items (lane_at j (length front + 1))) d.priority =
        takes-all d.priority is.1 (ap is_some is.0) ∙ ap (λ n. took_count (lane_items (lane_at j n)) d.priority) (home-at sys j run.kernel front d ds at below) in
        let few = few-here front d ds at below ends in
        grind (arith, nat_tests, all, few)

    end-holds : EndHolds sys j
    unfolding EndHolds ends_last spills_state
    end-holds = record {
      stated = run.stated;
      last = tests ends_last refl last-here (λ ss is h. (leaves-beside sys j ss is h).ends);
      spents = spents;
      spills = tests (spills_state 0) refl states-here (λ ss is h. (leaves-beside sys j ss is h).states);
      room = run.room;
      budgets = every-test (λ d. nat_le (took_count (all_items j.lanes) d.priority) j.budget) sys.objects (flat sys.objects 1 (each-home (λ n d. nat_le (took_count (all_items j.lanes) d.priority) j.budget ≡ true) budget-here));
      queues = quietly j.end run.queues;
      blocks = quietly j.end run.blocks;
    }
      where
        flat : (ds : List ObjectDef) (n : ℕ) → Each (λ n d. nat_le (took_count (all_items j.lanes) d.priority) j.budget ≡ true) budget-here n ds
            → AllByRecursion (λ d. nat_le (took_count (all_items j.lanes) d.priority) j.budget ≡ true) ds
        flat [] n h = tt
        flat (d ∷ ds) n h = (h.0, flat ds (n + 1) h.1)

  pub lawful : Lawful sys stimuli j
  lawful = record {
    words = run.words;
    objects = objects;
    kernel = subst (λ b. MatchBool b ⊤ (KernelHolds sys j)) (sym is_port) tt;
    sources = sources;
    end = by j.lanes refl;
  }
    where
      by : (xs : List (List Rec)) → j.lanes ≡ xs → EndHolds sys j
      by [] at = let none : length j.lanes ≡ 0 = ap length at in let count = run.count in absurd (omega (arith, none, count))
      by (l ∷ ls) at = end-holds l ls at
