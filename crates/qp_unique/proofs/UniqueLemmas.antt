-- A lawful journal of a run with one thread without a `spill` is the only one of its kernel.
use Rattle.std.proofs.Common.{◌≡◌, ◌∙◌, append-nil, not, nat_le, ℕ, suc, ◌+◌, ◌<◌, ◌≤◌, ◌==◌, Bool, true, false, ◌||◌, cond, List, [], ◌∷◌, ◌++◌, map, length, Some, None, refl, sym, ap, subst, inl, inr, ◌⊎◌, arith}
use Rattle.std.proofs.lemmas.Bool.Decides.{nat_tests}
use Rattle.std.proofs.lemmas.Bool.{and_parts, or_parts}
use Rattle.std.proofs.lemmas.List.{length-append, length-map, map-append}
use Rattle.std.specs.declared.option.Option.{Option}
use Rattle.std.specs.Option.{option_map_or, is_some}
use Rattle.std.specs.List.{filter, find, list_all, list_any, count_by, AllByRecursion}
use Rattle.qp_chart.specs.declared.checked.Chart.{Chart}
use Rattle.qp_model.specs.declared.record.Rec.{Rec}
use Rattle.qp_model.specs.declared.stimulus.Stim.{Stim}
use Rattle.qp_model.specs.declared.systems.System.{System}
use Rattle.qp_model.specs.declared.systems.ObjectDef.{ObjectDef}
use Rattle.qp_model.specs.declared.journals.Journal.{Journal}
use Rattle.qp_model.specs.declared.bodies.Body.{Body}
use Rattle.qp_model.specs.declared.bodies.Body.TheVariants as body
use Rattle.qp_model.specs.Record.{Item}
use Rattle.qp_model.specs.Sound.{IsSound, IsSoundObject}
use Rattle.qp_model.specs.Ends.{is_spill, is_end, is_assert, is_spent, spills_in, may_cut}
use Rattle.qp_model.specs.End.{end_of, takes_of}
use Rattle.qp_model.specs.History.{all_items, lane_items}
use Rattle.qp_model.specs.Home.{lane_at}
use Rattle.qp_model.specs.Kernels.{has_one_order}
use Rattle.qp_model.specs.Sites.{object_at}
use Rattle.qp_model.specs.WordLaw.{is_object}
use Rattle.qp_model.specs.KernelLane.{Setting, Reading, floor_in, role_of, threshold_of, lane_on, unread, is_whole_reading}
use Rattle.qp_model.specs.OneOrder.{Placed, acts_next, is_stim_at, is_turn}
use Rattle.qp_model.specs.Lawful.{Lawful, EndHolds, facts_of, setting_of, source_lanes}
use Rattle.qp_check_course.specs.Followable.{IsFollowable}
use Rattle.qp_model_order.specs.RunOrder.{has_stim}
use Rattle.qp_model_order.specs.Placing.{look_item}
use Rattle.qp_unique.proofs.KernelLemmas.{Slot, Starts, Runs, Releases, IsLook, IsSeen, IsTook, IsSpent, IsRest}
use Rattle.qp_unique.specs.Tidy.{unspilt_order, unspilt, has_short_lanes, spill_free, IsTidy, LacksStimulus}
use Rattle.qp_unique.specs.Laws.{ShortJournalsLeaveNoSpill, TidyJournalsAreOne}
use Rattle.qp_unique.proofs.StackLemmas.{IsBounded, found-in, IsObject}
use Rattle.qp_unique.proofs.LoopLemmas.{agree-first, front-order, lane-at}
use Rattle.qp_unique.proofs.SourceSteps.{lane_in-append}
use Rattle.qp_model.proofs.AbleLemmas.{some-same}
use Rattle.qp_unique.proofs.EqualLemmas.{same-lanes, zero-is}
use Rattle.qp_unique.proofs.JournalLemmas.{Threaded, threaded, all-split, lane0-is, raw-zero, raw-sources, ends-run, each-unspilt, unspilt-each, lane-each, has_spilt, kept_sources, kept_zero, turns-kept}
use Rattle.qp_unique.proofs.SideLemmas.{kernel-read, raw-read, unspilt-zero, course-of, unmarked-of, comes-of, counted-of}
use Rattle.qp_unique.proofs.SideParts.{slot-at, source-of, placed-of, within-of, spent-of, lane-unspilt, lane-stood, late-of, turn-of, has-of, long-at, long-zero, any-find, each-by, joined-each, kept-at}
use Rattle.qp_unique.proofs.Sides.{Mode, HasKernel, Side, HasEnded, Lacking, MayPart, in_kernel, order_of, lane_in}
use Rattle.qp_model.proofs.NumberLemmas.{every-append}
use Rattle.qp_model.proofs.RecordLemmas.{lane-length}

-- tests of elements
none-each : {A : Type 0} (p : A → Bool) (xs : List A) → list_any p xs ≡ false → AllByRecursion (λ x. p x ≡ false) xs
none-each p [] h = tt
none-each p (x ∷ xs) h = by (p x) refl h (λ k. none-each p xs k)
  where
    by : (b : Bool) → p x ≡ b → (b || list_any p xs) ≡ false → (list_any p xs ≡ false → AllByRecursion (λ x. p x ≡ false) xs) → (p x ≡ false) × AllByRecursion (λ x. p x ≡ false) xs
    by true e h later = absurd (cc)
    by false e h later = (e, later h)

each-none : {A : Type 0} (p : A → Bool) (xs : List A) → AllByRecursion (λ x. p x ≡ false) xs → list_any p xs ≡ false
each-none p [] h = refl
each-none p (x ∷ xs) h = rw h.0 (each-none p xs h.1)

lane-none : (p : Item → Bool) (xs : List Placed) (j : ℕ) → AllByRecursion (λ (z : Placed). p z.item ≡ false) xs → AllByRecursion (λ i. p i ≡ false) (lane_in xs j)
lane-none p [] j h = tt
lane-none p (x ∷ xs) j h = by (x.lane == j) (lane-none p xs j h.1)
  where
    by : (b : Bool) → AllByRecursion (λ i. p i ≡ false) (lane_in xs j) → AllByRecursion (λ i. p i ≡ false) (map (λ (z : Placed). z.item) (cond b (x ∷ filter (λ z. z.lane == j) xs) (filter (λ z. z.lane == j) xs)))
    by true rest = (h.0, rest)
    by false rest = rest

unasserted : (is : List Item) → AllByRecursion (λ i. is_end i.body ≡ false) is → list_any (λ i. is_assert i.body) is ≡ false
unasserted [] h = refl
unasserted (i ∷ is) h = rw (by (is_assert i.body) (is_spent i.body) (is_spill i.body) h.0) (unasserted is h.1)
  where
    by : (b c d : Bool) → (b || c || d) ≡ false → b ≡ false
    by true c d h = absurd (cc)
    by false c d h = refl

-- a run that stopped early has a record that ends it
cut-end : (items : List Item) (end : ℕ) → (end == end_of items) ≡ true → may_cut end ≡ true → list_any (λ i. is_end i.body) items ≡ false → ⊥
cut-end items end stated cut none =
    let e1 : end ≡ end_of items = grind (arith, nat_tests) in
    let calm : list_any (λ i. is_assert i.body) items ≡ false = unasserted items (none-each (λ i. is_end i.body) items none) in
    let e2 : end ≡ 0 = e1 ∙ rw (calm, none) refl in
    let no : may_cut 0 ≡ true = subst (λ n. may_cut n ≡ true) e2 cut in
    cc

-- a lane without a `spill` is as it is without one
kept-same : (is : List Item) → spills_in is ≡ false → unspilt is ≡ is
kept-same [] h = refl
kept-same (i ∷ is) h = let parts = or_parts (is_spill i.body) _ h in by (is_spill i.body) parts.0 (kept-same is parts.1)
  where
    by : (b : Bool) → b ≡ false → unspilt is ≡ is → cond (not b) (i ∷ unspilt is) (unspilt is) ≡ i ∷ is
    by true e h = absurd (cc)
    by false e h = ap (λ us. i ∷ us) h

kept-all : (ls : List (List Item)) → list_any spills_in ls ≡ false → map (λ lane. unspilt lane) ls ≡ ls
kept-all [] h = refl
kept-all (l ∷ ls) h = let parts = or_parts (spills_in l) _ h in λ n. kept-same l parts.0 n ∷ kept-all ls parts.1 n

kept-few : (is : List Item) → length (unspilt is) ≤ length is
kept-few [] = omega arith
kept-few (i ∷ is) = by (not (is_spill i.body)) (kept-few is)
  where
    by : (b : Bool) → length (unspilt is) ≤ length is → length (cond b (i ∷ unspilt is) (unspilt is)) ≤ suc (length is)
    by true h = omega (arith, h)
    by false h = omega (arith, h)

-- the lanes of a short journal
short-each : (lanes : List (List Rec)) → list_all (λ lane. nat_le (length lane) spill_free) lanes ≡ true → AllByRecursion (λ l. length l ≤ spill_free) (map (λ lane. lane_items lane) lanes)
short-each [] h = tt
short-each (l ∷ ls) h =
    let parts = and_parts (nat_le (length l) spill_free) _ h in
    let few : length l ≤ spill_free = let test : nat_le (length l) spill_free ≡ true = parts.0 in grind (arith, nat_tests) in
    (rw (lane-length l) few, short-each ls parts.1)

-- a front and what it is a front of are the same where it goes both ways
fronts-one : (xs ys zs us : List Placed) → xs ≡ ys ++ zs → ys ≡ xs ++ us → xs ≡ ys
fronts-one xs ys [] us one two = one ∙ append-nil ys
fronts-one xs ys (z ∷ zs) us one two =
    let first = ap length one ∙ length-append ys (z ∷ zs) in
    let second = ap length two ∙ length-append xs us in
    absurd (omega (arith, first, second))

module _ (sys : System) (stimuli : List (List Stim)) (sound : IsSound sys) (followable : AllByRecursion (IsFollowable sys) sys.objects) where
  bounded : IsBounded sys
  unfolding is_object object_at threshold_of
  bounded p h = by (find (λ d. d.priority == p) sys.objects) refl h
    where
      by : (o : Option ObjectDef) → find (λ d. d.priority == p) sys.objects ≡ o → is_some o ≡ true
          → (p ≤ option_map_or (λ d. d.threshold) (find (λ d. d.priority == p) sys.objects) 0) × (option_map_or (λ d. d.threshold) (find (λ d. d.priority == p) sys.objects) 0 ≤ 32)
      by None e h = absurd (cc)
      by (Some d) e h =
          let at = found-in (λ x. x.priority == p) sys.objects d e (IsSoundObject sys.charts) sound.objects in
          let own : d.priority ≡ p = let test : (d.priority == p) ≡ true = at.1 in grind (arith, nat_tests) in
          let le : d.priority ≤ d.threshold = at.0.threshold in
          rw e (omega (arith, own, le), at.0.few_thresholds)

  positive : (p : ℕ) → IsObject sys p → p ≡ 0 → ⊥
  unfolding is_object object_at
  positive p h zero_is = by (find (λ d. d.priority == p) sys.objects) refl h
    where
      by : (o : Option ObjectDef) → find (λ d. d.priority == p) sys.objects ≡ o → is_some o ≡ true → ⊥
      by None e h = cc
      by (Some d) e h =
          let at = found-in (λ x. x.priority == p) sys.objects d e (IsSoundObject sys.charts) sound.objects in
          let own : d.priority ≡ p = let test : (d.priority == p) ≡ true = at.1 in grind (arith, nat_tests) in
          let some : 1 ≤ d.priority = at.0.some_priority in
          omega (arith, own, some, zero_is)

  follow : (p : ℕ) (d : ObjectDef) → object_at sys p ≡ Some d → IsFollowable sys d
  unfolding object_at
  follow p d is = (found-in (λ x. x.priority == p) sys.objects d is (IsFollowable sys) followable).0

  abbrev charts : (p : ℕ) (d : ObjectDef) → object_at sys p ≡ Some d → Chart
  charts p d is = (follow p d is).its

  object-there : (p : ℕ) (d : ObjectDef) → object_at sys p ≡ Some d → IsObject sys p
  unfolding is_object
  object-there p d is = rw is refl

  module _ (j : Journal) (mode : Mode) (law : Lawful sys stimuli j) (single : HasKernel mode.kernel j) (its_budget : j.budget ≡ mode.budget) (tidy : IsTidy sys j) where
    t : Threaded sys stimuli j
    t = threaded sys stimuli j law single

    abbrev side : Side sys charts stimuli mode
    unfolding unspilt_order setting_of
    side = record {
      w = facts_of sys j;
      has = (setting_of sys j).has_stimulus;
      lane0 = kept_zero j;
      sources = kept_sources sys j;
      cuts = true;
      spilt = has_spilt sys j;
      halts = spills_in (lane_items (lane_at j 0));
      last = (kernel-read sys stimuli j law single t).0;
      read = (kernel-read sys stimuli j law single t).1;
      unspilt = unspilt-zero sys stimuli j law single t;
      unspilt_sources = λ front l back is. each-unspilt l (lane-unspilt sys stimuli j law single t front l back is);
      course = λ p d is. course-of sys stimuli j law single t follow (λ q e at. positive q (object-there q e at)) p d is;
      unmarked = unmarked-of sys stimuli j law single t;
      comes = comes-of sys stimuli j law single t tidy;
      counted = counted-of sys stimuli j law single t tidy;
      turn = turn-of sys stimuli j law single t;
      late = late-of sys stimuli j law single t;
      has_is = has-of sys stimuli j law single t;
      source = source-of sys stimuli j law single t;
      ends = ends-run sys stimuli j t;
      placed_so = placed-of sys stimuli j law single t;
      within = λ xs p f l m e ys is some there. subst (λ b. count_by (λ (z : Placed). takes_of p z.item) xs < b) its_budget (within-of sys stimuli j law single t xs p f l m e ys is some there);
      spent = λ xs p ys is some. spent-of sys stimuli j law single t xs p ys is some ∙ its_budget;
    }

    -- where no lane ended with a `spill`
    module _ (clean : has_spilt sys j ≡ false) where
      zero-clean : lane_items (lane_at j 0) ≡ kept_zero j
      zero-clean = sym (kept-same (lane_items (lane_at j 0)) (or_parts (spills_in (lane_items (lane_at j 0))) _ clean).0)

      sources-clean : source_lanes sys j ≡ kept_sources sys j
      sources-clean = sym (kept-all (source_lanes sys j) (or_parts (spills_in (lane_items (lane_at j 0))) _ clean).1)

      -- each record of the lanes has what those of the order have
      all-by : (P : Item → Type 0) → AllByRecursion P (kept_zero j) → AllByRecursion (λ l. AllByRecursion P l) (kept_sources sys j) → AllByRecursion P (all_items j.lanes)
      all-by P zero_has sources_have =
          let others : AllByRecursion P (all_items t.others) =
          joined-each P t.others (subst (AllByRecursion (λ l. AllByRecursion P l)) (sym sources-clean ∙ t.sources_are) sources_have) in
          subst (AllByRecursion P) (sym (all-split sys stimuli j t))
          (every-append P (lane_items t.first) (all_items t.others) (subst (AllByRecursion P) (sym zero-clean ∙ lane0-is sys stimuli j t) zero_has) others)

      ended : HasEnded sys charts stimuli mode side
      unfolding EndHolds side unspilt_order
      ended = by (raw-read sys stimuli j law single t).2 (list_any (λ (z : Placed). is_end z.item.body) (order_of sys charts stimuli mode side)) refl
        where
          last-same : (raw-read sys stimuli j law single t).0 ≡ (kernel-read sys stimuli j law single t).0
          last-same =
              some-same (sym (raw-read sys stimuli j law single t).1 ∙ ap (lane_on (in_kernel mode.kernel sys (setting_of sys j).has_stimulus) (unread sys)) zero-clean ∙ (kernel-read sys stimuli j law single t).1)

          by : (may_cut j.end ≡ true) ⊎ (is_whole_reading mode.kernel (raw-read sys stimuli j law single t).0 ≡ true) → (b : Bool) → list_any (λ (z : Placed). is_end z.item.body) (order_of sys charts stimuli mode side) ≡ b
              → HasEnded sys charts stimuli mode side
          by (inr whole) b e = inl (subst (λ (k : Reading). is_whole_reading mode.kernel k ≡ true) last-same whole)
          by (inl cut) true e = inr e
          by (inl cut) false e =
              let none = none-each (λ (z : Placed). is_end z.item.body) (order_of sys charts stimuli mode side) e in
              let zero_none : AllByRecursion (λ i. is_end i.body ≡ false) (kept_zero j) =
              subst (AllByRecursion (λ i. is_end i.body ≡ false)) (zero-is true (kept_sources sys j) (kept_zero j)) (lane-none (λ i. is_end i.body) (order_of sys charts stimuli mode side) 0 none) in
              let sources_none : AllByRecursion (λ l. AllByRecursion (λ i. is_end i.body ≡ false) l) (kept_sources sys j) =
              each-by (λ l. AllByRecursion (λ i. is_end i.body ≡ false) l) (kept_sources sys j)
              (λ front l back is. subst (AllByRecursion (λ i. is_end i.body ≡ false)) (sym (lane-stood sys stimuli j law single t front l back is))
              (lane-none (λ i. is_end i.body) (order_of sys charts stimuli mode side) (1 + length front) none)) in
              absurd (cut-end (all_items j.lanes) j.end law.end.stated cut (each-none (λ i. is_end i.body) (all_items j.lanes) (all-by (λ i. is_end i.body ≡ false) zero_none sources_none)))

stim-zero : (b : Body) → is_stim_at 0 b ≡ true → (p : ℕ) × (b ≡ body.Stim p 0)
stim-zero (body.Stim p n) h = let e : n ≡ 0 = let test : (n == 0) ≡ true = h in grind (arith, nat_tests) in (p, ap (body.Stim p) e)
stim-zero b h = absurd (cc)

-- looks are numbered from 1
look-number : (s : Setting) (k next : Reading) (floor : ℕ) → Slot s k next (look_item 0 floor) → ⊥
unfolding role_of
look-number s k next floor (Starts q more vs of own r place left looks) = own
look-number s k next floor (Runs q others none place r of own went) = own
look-number s k next floor (Releases q none place of role is) = cc
look-number s k next floor (IsLook none may item is) =
    let same : body.Look 0 floor ≡ body.Look (k.looks + 1) (floor_in s.sys s.kernel k.running k.ceiling) = ap (λ (x : Item). x.body) item in
    let no : 0 ≡ k.looks + 1 = ap (λ d. by d) same in
    omega (arith, no)
  where
    by : Body → ℕ
    by (body.Look n floor) = n
    by b = 0
look-number s k next floor (IsSeen q others f l m none place item is) = let no : body.Look 0 floor ≡ body.Seen q f l m = ap (λ (x : Item). x.body) item in cc
look-number s k next floor (IsTook q f l m e none place item is) = let no : body.Look 0 floor ≡ body.Took f l m e = ap (λ (x : Item). x.body) item in cc
look-number s k next floor (IsSpent q none place item is) = let no : body.Look 0 floor ≡ body.Spent = ap (λ (x : Item). x.body) item in cc
look-number s k next floor (IsRest none place item is) = let no : body.Look 0 floor ≡ body.Rest k.looks = ap (λ (x : Item). x.body) item in cc

-- all records by their lanes
abbrev joined_items : List (List Item) → List Item
joined_items [] = []
joined_items (l ∷ ls) = l ++ joined_items ls

joined : (lanes : List (List Rec)) → all_items lanes ≡ joined_items (map (λ lane. lane_items lane) lanes)
unfolding all_items
joined [] = refl
joined (l ∷ ls) = ap (λ is. lane_items l ++ is) (joined ls)

module _ (sys : System) (stimuli : List (List Stim)) (j : Journal) (t : Threaded sys stimuli j) where
  lanes-are : map (λ lane. lane_items lane) j.lanes ≡ lane_items (lane_at j 0) ∷ source_lanes sys j
  lanes-are = ap (map (λ lane. lane_items lane)) t.lanes ∙ ap (λ l. l ∷ map (λ lane. lane_items lane) t.others) (sym (lane0-is sys stimuli j t)) ∙ ap (λ ls. lane_items (lane_at j 0) ∷ ls) (sym t.sources_are)

  sized : length (kept_sources sys j) ≡ length stimuli
  sized = length-map (source_lanes sys j) (λ lane. unspilt lane) ∙ ap length t.sources_are ∙ length-map t.others (λ lane. lane_items lane) ∙ t.size

  module _ (law : Lawful sys stimuli j) {kernel : ℕ} (single : HasKernel kernel j) where
    -- no stimulus stands in a look 0, since there is none
    unlooked : (setting_of sys j).has_stimulus 0 ≡ false
    unfolding setting_of
    unlooked = has-of sys stimuli j law single t 0 ∙ by (has_stim (kept_sources sys j) 0) refl
      where
        by : (b : Bool) → has_stim (kept_sources sys j) 0 ≡ b → has_stim (kept_sources sys j) 0 ≡ false
        by false e = e
        by true e =
            let lane = any-find (λ lane. list_any (λ i. is_stim_at 0 i.body) lane) (kept_sources sys j) e in
            let one = any-find (λ (i : Item). is_stim_at 0 i.body) lane.1 lane.4 in
            let stim = stim-zero one.1.body one.4 in
            let look = placed-of sys stimuli j law single t lane.0 lane.1 lane.2 lane.3 one.0 one.1 one.2 one.3 stim.0 0 stim.1 in
            let at = slot-at sys stimuli j law single t look.0 (look_item 0 look.1) look.2 look.3 in
            absurd (look-number (in_kernel kernel sys (setting_of sys j).has_stimulus) at.0 at.1 look.1 at.2)

    -- without a `spill` among the records no lane ended with one, and the other way round
    clean-of : list_any (λ x. is_spill x.body) (all_items j.lanes) ≡ false → has_spilt sys j ≡ false
    clean-of none =
        let each = unspilt-each (all_items j.lanes) none in
        rw (each-unspilt (lane_items (lane_at j 0)) (raw-zero sys stimuli j t (λ i. is_spill i.body ≡ false) each)) (lanes (source_lanes sys j) (raw-sources sys stimuli j t (λ i. is_spill i.body ≡ false) each))
      where
        lanes : (ls : List (List Item)) → AllByRecursion (λ l. AllByRecursion (λ i. is_spill i.body ≡ false) l) ls → list_any spills_in ls ≡ false
        lanes [] h = refl
        lanes (l ∷ ls) h = rw (each-unspilt l h.0) (lanes ls h.1)

    -- a short journal has none
    module _ (short : has_short_lanes j ≡ true) where
      shorts : (length (lane_items (lane_at j 0)) ≤ spill_free) × AllByRecursion (λ l. length l ≤ spill_free) (source_lanes sys j)
      shorts =
          let each = short-each j.lanes short in
          let split = subst (AllByRecursion (λ l. length l ≤ spill_free)) (ap (map (λ lane. lane_items lane)) t.lanes) each in
          (subst (λ l. length l ≤ spill_free) (sym (lane0-is sys stimuli j t)) split.0, subst (AllByRecursion (λ l. length l ≤ spill_free)) (sym t.sources_are) split.1)

      short-zero : spill_free < length (kept_zero j) → ⊥
      short-zero long =
          let most = shorts.0 in
          let few = kept-few (lane_items (lane_at j 0)) in
          omega (arith, long, most, few)

      short-source : (before : List (List Item)) (l : List Item) (behind : List (List Item)) → kept_sources sys j ≡ before ++ l ∷ behind → spill_free < length l → ⊥
      short-source before l behind is long =
          let at = kept-at (source_lanes sys j) before l behind is in
          let most = lane-each (λ l. length l ≤ spill_free) at.0 at.1 at.2 (source_lanes sys j) at.3 shorts.1 in
          let few = kept-few at.1 in
          let same : length (unspilt at.1) ≡ length l = ap length at.4 in
          omega (arith, long, most, few, same)

      short-clean : has_spilt sys j ≡ false
      short-clean = by (spills_in (lane_items (lane_at j 0))) refl (list_any spills_in (source_lanes sys j)) refl
        where
          by : (b : Bool) → spills_in (lane_items (lane_at j 0)) ≡ b → (c : Bool) → list_any spills_in (source_lanes sys j) ≡ c → has_spilt sys j ≡ false
          by true e c f = absurd (short-zero (long-zero sys stimuli j law single t e))
          by false e true f =
              let lane = any-find spills_in (source_lanes sys j) f in
              let are = ap (map (λ lane. unspilt lane)) lane.3 ∙ map-append (λ lane. unspilt lane) lane.0 (lane.1 ∷ lane.2) in
              absurd (short-source (map (λ lane. unspilt lane) lane.0) (unspilt lane.1) (map (λ lane. unspilt lane) lane.2) are (long-at sys stimuli j law single t lane.0 lane.1 lane.2 lane.3 lane.4))
          by false e false f = rw (e, f) refl

-- two lawful and tidy journals of one system, its stimuli, one kernel and a budget
module _ (sys : System) (stimuli : List (List Stim)) (i j : Journal) (sound : IsSound sys) (followable : AllByRecursion (IsFollowable sys) sys.objects)
    (law_i : Lawful sys stimuli i) (law_j : Lawful sys stimuli j) (mode : Mode) (single_i : HasKernel mode.kernel i) (single_j : HasKernel mode.kernel j) (budget_i : i.budget ≡ mode.budget) (budget_j : j.budget ≡ mode.budget)
    (tidy_i : IsTidy sys i) (tidy_j : IsTidy sys j) where
  abbrev side_i : Side sys (charts sys stimuli sound followable) stimuli mode
  side_i = side sys stimuli sound followable i mode law_i single_i budget_i tidy_i

  abbrev side_j : Side sys (charts sys stimuli sound followable) stimuli mode
  side_j = side sys stimuli sound followable j mode law_j single_j budget_j tidy_j

  abbrev thread_i : Threaded sys stimuli i
  thread_i = t sys stimuli sound followable i mode law_i single_i budget_i tidy_i

  abbrev thread_j : Threaded sys stimuli j
  thread_j = t sys stimuli sound followable j mode law_j single_j budget_j tidy_j

  sizes : length (kept_sources sys i) ≡ length (kept_sources sys j)
  sizes = sized sys stimuli i thread_i ∙ sym (sized sys stimuli j thread_j)

  -- the second goes on behind the first, or they needn't go on alike
  goes-behind : has_spilt sys i ≡ false
      → ((zs : List Placed) × (unspilt_order sys i ≡ unspilt_order sys j ++ zs)) ⊎ MayPart sys (charts sys stimuli sound followable) stimuli mode side_i side_j
  unfolding side unspilt_order
  goes-behind clean =
      front-order sys (charts sys stimuli sound followable) stimuli mode (bounded sys stimuli sound followable) (positive sys stimuli sound followable) side_i side_j
      (ended sys stimuli sound followable i mode law_i single_i budget_i tidy_i clean) sizes (kept_zero i) (kept_zero j) [] [] (unread sys)
      (agree-first sys (charts sys stimuli sound followable) stimuli mode (bounded sys stimuli sound followable) (positive sys stimuli sound followable) side_i side_j
      (unlooked sys stimuli i thread_i law_i single_i ∙ sym (unlooked sys stimuli j thread_j law_j single_j)))

  -- the same lanes, where neither has a `spill`
  lanes-one : has_spilt sys i ≡ false → has_spilt sys j ≡ false → unspilt_order sys i ≡ unspilt_order sys j → map (λ lane. lane_items lane) i.lanes ≡ map (λ lane. lane_items lane) j.lanes
  unfolding side unspilt_order
  lanes-one clean_i clean_j same =
      let both = same-lanes sys (charts sys stimuli sound followable) stimuli mode (bounded sys stimuli sound followable) (positive sys stimuli sound followable) side_i side_j same sizes
      (λ before l behind is. lane-stood sys stimuli i law_i single_i thread_i before l behind is) (λ before l behind is. lane-stood sys stimuli j law_j single_j thread_j before l behind is) in
      let zeros : lane_items (lane_at i 0) ≡ lane_items (lane_at j 0) =
      zero-clean sys stimuli sound followable i mode law_i single_i budget_i tidy_i clean_i ∙ both.0 ∙ sym (zero-clean sys stimuli sound followable j mode law_j single_j budget_j tidy_j clean_j) in
      let sources : source_lanes sys i ≡ source_lanes sys j =
      sources-clean sys stimuli sound followable i mode law_i single_i budget_i tidy_i clean_i ∙ both.1 ∙ sym (sources-clean sys stimuli sound followable j mode law_j single_j budget_j tidy_j clean_j) in
      lanes-are sys stimuli i thread_i ∙ (λ n. zeros n ∷ sources n) ∙ sym (lanes-are sys stimuli j thread_j)

  -- a lane of the second that ended with a `spill` is a front of one of the first
  spilt-long : (zs : List Placed) → unspilt_order sys i ≡ unspilt_order sys j ++ zs → has_short_lanes i ≡ true → has_spilt sys j ≡ true → ⊥
  unfolding unspilt_order
  spilt-long zs is short spilt = by (spills_in (lane_items (lane_at j 0))) refl spilt
    where
      behind : (m : ℕ) → lane_in (unspilt_order sys i) m ≡ lane_in (unspilt_order sys j) m ++ lane_in zs m
      behind m = ap (λ us. lane_in us m) is ∙ lane_in-append (unspilt_order sys j) zs m

      zeros : (k : Journal) → lane_in (unspilt_order sys k) 0 ≡ kept_zero k
      zeros k = zero-is true (kept_sources sys k) (kept_zero k)

      at-zero : spills_in (lane_items (lane_at j 0)) ≡ true → ⊥
      at-zero e =
          let long = long-zero sys stimuli j law_j single_j thread_j e in
          let size = ap length (sym (zeros i) ∙ behind 0 ∙ ap (λ us. us ++ lane_in zs 0) (zeros j)) ∙ length-append (kept_zero j) (lane_in zs 0) in
          short-zero sys stimuli i thread_i law_i single_i short (omega (arith, long, size))

      at-source : list_any spills_in (source_lanes sys j) ≡ true → ⊥
      at-source some =
          let lane = any-find spills_in (source_lanes sys j) some in
          let long = long-at sys stimuli j law_j single_j thread_j lane.0 lane.1 lane.2 lane.3 lane.4 in
          let front = map (λ lane. unspilt lane) lane.0 in
          let are : kept_sources sys j ≡ front ++ unspilt lane.1 ∷ map (λ lane. unspilt lane) lane.2 = ap (map (λ lane. unspilt lane)) lane.3 ∙ map-append (λ lane. unspilt lane) lane.0 (lane.1 ∷ lane.2) in
          let stands = lane-stood sys stimuli j law_j single_j thread_j front (unspilt lane.1) (map (λ lane. unspilt lane) lane.2) are in
          let count = ap length are ∙ length-append front (unspilt lane.1 ∷ map (λ lane. unspilt lane) lane.2) in
          let same = sizes in
          let own = lane-at (kept_sources sys i) (length front) (omega (arith, count, same)) in
          let its : own.1 ≡ lane_in (unspilt_order sys i) (1 + length front) =
          lane-stood sys stimuli i law_i single_i thread_i own.0 own.1 own.2 own.3 ∙ ap (λ n. lane_in (unspilt_order sys i) (1 + n)) own.4 in
          let size = ap length (its ∙ behind (1 + length front) ∙ ap (λ us. us ++ lane_in zs (1 + length front)) (sym stands)) ∙ length-append (unspilt lane.1) (lane_in zs (1 + length front)) in
          short-source sys stimuli i thread_i law_i single_i short own.0 own.1 own.2 own.3 (omega (arith, long, size))

      by : (b : Bool) → spills_in (lane_items (lane_at j 0)) ≡ b → (b || list_any spills_in (source_lanes sys j)) ≡ true → ⊥
      by true e h = at-zero e
      by false e h = at-source h

-- without a lane that ended with a `spill` none stands among the records
clean-items : (sys : System) (stimuli : List (List Stim)) (j : Journal) (tj : Threaded sys stimuli j) → has_spilt sys j ≡ false → list_any (λ x. is_spill x.body) (all_items j.lanes) ≡ false
clean-items sys stimuli j tj none =
    let parts = or_parts (spills_in (lane_items (lane_at j 0))) _ none in
    each-none (λ x. is_spill x.body) (all_items j.lanes)
    (subst (AllByRecursion (λ x. is_spill x.body ≡ false)) (sym (all-split sys stimuli j tj))
    (every-append (λ x. is_spill x.body ≡ false) (lane_items tj.first) (all_items tj.others)
    (subst (AllByRecursion (λ x. is_spill x.body ≡ false)) (lane0-is sys stimuli j tj) (unspilt-each (lane_items (lane_at j 0)) parts.0))
    (joined-each (λ x. is_spill x.body ≡ false) tj.others (subst (AllByRecursion (λ l. AllByRecursion (λ x. is_spill x.body ≡ false) l)) tj.sources_are (lanes (source_lanes sys j) parts.1)))))
  where
    lanes : (ls : List (List Item)) → list_any spills_in ls ≡ false → AllByRecursion (λ l. AllByRecursion (λ x. is_spill x.body ≡ false) l) ls
    lanes [] h = tt
    lanes (l ∷ ls) h = let both = or_parts (spills_in l) _ h in (unspilt-each l both.0, lanes ls both.1)

-- a journal of its own kernel, and one of the same
own-kernel : (j : Journal) → has_one_order j.kernel ≡ true → HasKernel j.kernel j
own-kernel j single = record { is = refl; one = single }

same-kernel : (i j : Journal) → has_one_order i.kernel ≡ true → j.kernel ≡ i.kernel → HasKernel i.kernel j
same-kernel i j single kernels = record { is = kernels; one = single }

abbrev mode_of : (j : Journal) → has_one_order j.kernel ≡ true → Mode
mode_of j single = record { kernel = j.kernel; one = single; budget = j.budget }

-- a short journal has no `spill`
pub short_journals_are_unspilt : (sys : System) (stimuli : List (List Stim)) (j : Journal) → Lawful sys stimuli j → has_one_order j.kernel ≡ true → has_short_lanes j ≡ true → list_any (λ x. is_spill x.body) (all_items j.lanes) ≡ false
short_journals_are_unspilt sys stimuli j law one short =
    let tj = threaded sys stimuli j law (own-kernel j one) in
    clean-items sys stimuli j tj (short-clean sys stimuli j tj law (own-kernel j one) short)

pub short_journals_leave_no_spill : ShortJournalsLeaveNoSpill
unfolding side
short_journals_leave_no_spill sys stimuli i j sound followable law_i law_j single kernels budgets short tidy_i tidy_j =
    let ti = threaded sys stimuli i law_i (own-kernel i single) in
    let tj = threaded sys stimuli j law_j (same-kernel i j single kernels) in
    by tj (goes-behind sys stimuli i j sound followable law_i law_j (mode_of i single) (own-kernel i single) (same-kernel i j single kernels) refl (sym budgets) tidy_i tidy_j (short-clean sys stimuli i ti law_i (own-kernel i single) short)) (has_spilt sys j) refl
  where
    by : (tj : Threaded sys stimuli j)
        → ((zs : List Placed) × (unspilt_order sys i ≡ unspilt_order sys j ++ zs))
        ⊎ MayPart sys (charts sys stimuli sound followable) stimuli (mode_of i single) (side sys stimuli sound followable i (mode_of i single) law_i (own-kernel i single) refl tidy_i) (side sys stimuli sound followable j (mode_of i single) law_j (same-kernel i j single kernels) (sym budgets) tidy_j)
        → (b : Bool) → has_spilt sys j ≡ b → (list_any (λ x. is_spill x.body) (all_items j.lanes) ≡ false) ⊎ LacksStimulus sys stimuli j
    by tj (inl (zs, is)) false e = inl (clean-items sys stimuli j tj e)
    by tj (inl (zs, is)) true e = absurd (spilt-long sys stimuli i j sound followable law_i law_j (mode_of i single) (own-kernel i single) (same-kernel i j single kernels) refl (sym budgets) tidy_i tidy_j zs is short e)
    by tj (inr (spilt, inl (before, l, behind, are, long))) b e =
        absurd (short-source sys stimuli i (threaded sys stimuli i law_i (own-kernel i single)) law_i (own-kernel i single) short before l behind are long)
    by tj (inr (spilt, inr (inl lacking))) b e =
        absurd (short-zero sys stimuli i (threaded sys stimuli i law_i (own-kernel i single)) law_i (own-kernel i single) short (long-zero sys stimuli i law_i (own-kernel i single) (threaded sys stimuli i law_i (own-kernel i single)) lacking.halts))
    by tj (inr (spilt, inr (inr lacking))) b e = inr (lacks-of lacking)
      where
        lacks-of : Lacking sys (charts sys stimuli sound followable) stimuli (mode_of i single) (side sys stimuli sound followable j (mode_of i single) law_j (same-kernel i j single kernels) (sym budgets) tidy_j) → LacksStimulus sys stimuli j
        lacks-of lacking = record {
          spilt = lacking.halts;
          before = lacking.before;
          number = lacking.number;
          floor = lacking.floor;
          behind = lacking.behind;
          look = lacking.look;
          lacks = ap (λ ts. is_turn (acts_next sys stimuli lacking.before (lacking.floor == 0)) ts) (sym (turns-kept 1 lacking.number (source_lanes sys j))) ∙ lacking.lacks;
        }

pub tidy_journals_are_one : TidyJournalsAreOne
unfolding EndHolds side
tidy_journals_are_one sys stimuli i j sound followable law_i law_j single kernels budgets unspilt_i unspilt_j tidy_i tidy_j =
    let ti = threaded sys stimuli i law_i (own-kernel i single) in
    let tj = threaded sys stimuli j law_j (same-kernel i j single kernels) in
    let clean_i = clean-of sys stimuli i ti law_i (own-kernel i single) unspilt_i in
    let clean_j = clean-of sys stimuli j tj law_j (same-kernel i j single kernels) unspilt_j in
    let one = alike clean_i clean_j (goes-behind sys stimuli i j sound followable law_i law_j (mode_of i single) (own-kernel i single) (same-kernel i j single kernels) refl (sym budgets) tidy_i tidy_j clean_i) in
    let two = alike clean_j clean_i (goes-behind sys stimuli j i sound followable law_j law_i (mode_of i single) (same-kernel i j single kernels) (own-kernel i single) (sym budgets) refl tidy_j tidy_i clean_j) in
    let same : unspilt_order sys i ≡ unspilt_order sys j = fronts-one (unspilt_order sys i) (unspilt_order sys j) one.0 two.0 one.1 two.1 in
    let lanes = lanes-one sys stimuli i j sound followable law_i law_j (mode_of i single) (own-kernel i single) (same-kernel i j single kernels) refl (sym budgets) tidy_i tidy_j clean_i clean_j same in
    let items : all_items i.lanes ≡ all_items j.lanes = joined i.lanes ∙ ap joined_items lanes ∙ sym (joined j.lanes) in
    let one_end : (i.end == end_of (all_items i.lanes)) ≡ true = law_i.end.stated in
    let two_end : (j.end == end_of (all_items j.lanes)) ≡ true = law_j.end.stated in
    let three : i.end ≡ end_of (all_items i.lanes) = grind (arith, nat_tests) in
    let four : j.end ≡ end_of (all_items j.lanes) = grind (arith, nat_tests) in
    (lanes, three ∙ ap end_of items ∙ sym four)
  where
    alike : {mode : Mode} {P : Type 0} {a b : Side sys (charts sys stimuli sound followable) stimuli mode} → a.spilt ≡ false → b.spilt ≡ false
        → P ⊎ MayPart sys (charts sys stimuli sound followable) stimuli mode a b → P
    alike none_a none_b (inl goes) = goes
    alike none_a none_b (inr (inl spilt, part)) = absurd (let no : true ≡ false = sym spilt ∙ none_a in cc)
    alike none_a none_b (inr (inr spilt, part)) = absurd (let no : true ≡ false = sym spilt ∙ none_b in cc)
