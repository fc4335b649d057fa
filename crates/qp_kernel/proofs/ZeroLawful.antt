-- A journal whose lane 0 is the home of every object, and whose other lanes have no record of an object.
use Rattle.std.proofs.Common.{◌≡◌, ℕ, ◌+◌, ◌<◌, ◌≤◌, ◌==◌, nat_lt, nat_le, Bool, true, false, not, ◌&&◌, ◌||◌, cond, List, [], ◌∷◌, map, refl, sym, ◌∙◌, ap, subst, arith, Option, Some, None}
use Rattle.std.specs.Prelude.{slice_get}
use Rattle.std.specs.Option.{unwrap_or, is_some}
use Rattle.std.specs.List.{list_any, list_all, count_by, find, AllByRecursion}
use Rattle.std.proofs.lemmas.Bool.{and_from, and_parts, or_parts, not-false}
use Rattle.std.proofs.lemmas.Bool.Decides.{nat_tests}
use Rattle.qp_chart.specs.declared.checked.Chart.{Chart}
use Rattle.qp_model.specs.declared.record.Rec.{Rec}
use Rattle.qp_model.specs.declared.systems.System.{System}
use Rattle.qp_model.specs.declared.systems.ObjectDef.{ObjectDef}
use Rattle.qp_model.specs.declared.journals.Journal.{Journal}
use Rattle.qp_model.specs.declared.bodies.Body.{Body}
use Rattle.qp_model.specs.declared.bodies.Body.TheVariants as body
use Rattle.qp_model.specs.Record.{Item}
use Rattle.qp_model.specs.Told.{ToldItem, untold}
use Rattle.qp_model.specs.History.{all_items, lane_items}
use Rattle.qp_model.specs.Knowing.{Facts, told_lane, records_of}
use Rattle.qp_model.specs.Laws.{Ascend}
use Rattle.qp_model.specs.Sound.{IsSound, IsSoundObject}
use Rattle.qp_model.specs.Kernels.{sim, qk, port, qv}
use Rattle.qp_model.specs.Home.{lane_at, home_of, by_object, home_records}
use Rattle.qp_model.specs.Pieces.{records_in}
use Rattle.qp_model.specs.Sites.{object_at}
use Rattle.qp_model.specs.KernelLane.{Setting, Reading, lane_on, lane_read, unread}
use Rattle.qp_model.specs.Points.{lane_pieces}
use Rattle.qp_model.specs.Deferral.{kept_after}
use Rattle.qp_model.specs.Ends.{is_turn_mark, is_spent, spills_cut, may_cut, ends_last, quiet}
use Rattle.qp_model.specs.End.{end_of, has_room, lines_empty, blocks_rest, spills_state, takes_of, took_count, spent_right, spents_follow, shown_entry, spents_hold}
use Rattle.qp_model.specs.Course.{Whole, Stopped, Anywhere, FollowsTo, chart_at}
use Rattle.qp_model.specs.ObjectShape.{HasShape}
use Rattle.qp_model.specs.Lawful.{facts_of, deferred_of, spill_cuts, cut_of, deferral_holds, dispatched, CourseHolds, ObjectHolds, source_lanes, setting_of, is_settle, reading_holds, KernelHolds, EndHolds}
use Rattle.qp_model.proofs.DeferralLemmas.{follows-deferral, kept-filter}
use Rattle.qp_model.proofs.FitsLemmas.{is_deferral}
use Rattle.qp_model.proofs.HomeLemmas.{home_records-kernel}
use Rattle.qp_model.proofs.KnowingLemmas.{records_of-told}
use Rattle.qp_model_order.specs.RunOrder.{has_stim}
use Rattle.qp_kernel.specs.LaneZero.{told_pieces, setting}
use Rattle.qp_kernel.specs.ZeroEnds.{cut_in, may_stand, is_spent_right, own_told, ZeroEnds}
use Rattle.qp_kernel.proofs.BareLemmas.{bare-told}
use Rattle.qp_model_order.proofs.SourceLanes.{untold-lane}
use Rattle.qp_kernel.proofs.TellLemmas.{pieces-lane}
use Rattle.qp_kernel.proofs.ZeroLemmas.{count-cons}
use Rattle.qp_model.proofs.NumberLemmas.{count-append}
use Rattle.qp_model.proofs.ListLemmas.{every-test}

pub all-zip : {A : Type 0} (P Q R : A → Type 0) (xs : List A) → ((x : A) → P x → Q x → R x) → AllByRecursion P xs → AllByRecursion Q xs → AllByRecursion R xs
all-zip P Q R [] go p q = tt
all-zip P Q R (x ∷ xs) go p q = (go x p.0 q.0, all-zip P Q R xs go p.1 q.1)

all-map : {A : Type 0} (P R : A → Type 0) (xs : List A) → ((x : A) → P x → R x) → AllByRecursion P xs → AllByRecursion R xs
all-map P R [] go p = tt
all-map P R (x ∷ xs) go p = (go x p.0, all-map P R xs go p.1)

-- each object of ascending ones is found by its priority
abbrev pub IsFound : List ObjectDef → ObjectDef → Type 0
IsFound ds d = (find (λ x. x.priority == d.priority) ds ≡ Some d) × (0 < d.priority)

pub all-found : (ds : List ObjectDef) → Ascend ds → AllByRecursion (IsFound ds) ds
all-found [] h = tt
all-found (x ∷ ds) h =
    let self : (x.priority == x.priority) ≡ true = grind (arith, nat_tests) in
    ((rw self refl, h.0), all-zip (λ d. x.priority < d.priority) (IsFound ds) (IsFound (x ∷ ds)) ds behind h.1 (all-found ds h.2))
  where
    behind : (d : ObjectDef) → x.priority < d.priority → IsFound ds d → IsFound (x ∷ ds) d
    behind d lt found = let other : (x.priority == d.priority) ≡ false = grind (arith, nat_tests, lt) in (rw other found.0, found.1)

pub mark-other : (b : Body) → is_turn_mark b ≡ true → is_deferral b ≡ false
unfolding is_deferral
mark-other (body.Nil f l m) h = refl
mark-other body.Spent h = refl
mark-other (body.Defer e) h = absurd (cc)
mark-other body.NoDefer h = absurd (cc)
mark-other (body.Recall e) h = absurd (cc)
mark-other body.NoRecall h = absurd (cc)
mark-other (body.Flush e) h = absurd (cc)
mark-other _ h = refl

pub unspent-right : (sys : System) (j : Journal) (n : ℕ) (is : List Item) → list_any (λ i. is_spent i.body) is ≡ false → list_all (spent_right sys j n) is ≡ true
unspent-right sys j n [] h = refl
unspent-right sys j n (i ∷ is) h = let parts = or_parts (is_spent i.body) (list_any (λ i. is_spent i.body) is) h in rw (parts.0, unspent-right sys j n is parts.1) refl

pub unspent-follow : (shown : Option ℕ) (is : List Item) → list_any (λ i. is_spent i.body) is ≡ false → spents_follow shown is ≡ true
unfolding spents_follow
unspent-follow shown [] h = refl
unspent-follow shown (i ∷ is) h = let parts = or_parts (is_spent i.body) (list_any (λ i. is_spent i.body) is) h in rw parts.0 (unspent-follow (shown_entry i) is parts.1)

-- what a quiet end leaves
pub quietly : (end : ℕ) {b : Bool} → (end ≡ quiet → b ≡ true) → (not (end == quiet) || b) ≡ true
quietly end {b} h = by (end == quiet) refl
  where
    by : (v : Bool) → (end == quiet) ≡ v → (not v || b) ≡ true
    by true e = let is : end ≡ quiet = grind (arith, nat_tests, e) in h is
    by false e = refl

-- a lane without a record of an object, whose end stands where it may
pub record IsBeside (is : List Item) : Type 0 where
  pub alone : list_all (λ i. i.of == 0) is ≡ true
  pub ends : ends_last is ≡ true
  pub unspent : list_any (λ i. is_spent i.body) is ≡ false
  pub states : spills_state 0 is ≡ true

module _ (sys : System) (j : Journal) (most : ℕ) (sound : IsSound sys) (no_port : (j.kernel == port) ≡ false)
    (zero : ZeroEnds sys j.kernel j.budget j.end most (told_lane (facts_of sys j) 0 (lane_items (lane_at j 0))) (has_stim (source_lanes sys j))) where
  abbrev w : Facts
  w = facts_of sys j

  abbrev lane0 : List Item
  lane0 = lane_items (lane_at j 0)

  abbrev told0 : List ToldItem
  told0 = told_lane (facts_of sys j) 0 (lane_items (lane_at j 0))

  abbrev here : Setting
  here = setting sys j.kernel (has_stim (source_lanes sys j))

  home-is : (o : ℕ) → home_of sys j o ≡ 0
  unfolding home_of
  home-is o = rw no_port refl

  items-are : map untold told0 ≡ lane0
  items-are = untold-lane w 0 lane0

  setting-is : setting_of sys j ≡ here
  unfolding setting_of
  setting-is = refl

  reads : lane_on here (unread sys) lane0 ≡ Some zero.last
  reads = ap (lane_on here (unread sys)) (sym items-are) ∙ zero.read

  read-is : lane_read (setting_of sys j) lane0 ≡ Some zero.last
  unfolding lane_read
  read-is = ap (λ s. lane_read s lane0) setting-is ∙ reads

  pieces-are : (o : ℕ) → lane_pieces w (setting_of sys j) o lane0 ≡ told_pieces here o (unread sys) told0
  unfolding lane_pieces unread facts_of
  pieces-are o = ap (λ s. lane_pieces w s o lane0) setting-is ∙ pieces-lane w here o (unread sys) zero.last lane0 reads

  cut-is : (o : ℕ) → cut_of sys j o ≡ cut_in j.end o (map untold told0)
  unfolding cut_of
  cut-is o = ap (λ n. cond (may_cut j.end) (cond (spill_cuts o (lane_items (lane_at j n))) Anywhere Stopped) Whole) (home-is o) ∙ ap (cut_in j.end o) (sym items-are)

  own-is : (o : ℕ) → by_object w j o ≡ own_told o told0
  unfolding by_object facts_of
  own-is o = ap (λ n. records_of w o 0 (lane_items (lane_at j n))) (home-is o) ∙ records_of-told w o 0 lane0

  -- One object.
  module _ (d : ObjectDef) (chart : Chart) (at : object_at sys d.priority ≡ Some d) (is : chart_at sys d.chart ≡ Some chart) where
    follows : FollowsTo sys d (cut_of sys j d.priority) (told_pieces here d.priority (unread sys) told0)
    follows = subst (λ c. FollowsTo sys d c (told_pieces here d.priority (unread sys) told0)) (sym (cut-is d.priority)) (zero.follows d chart at is)

    shape : HasShape sys d.priority (j.kernel == port) (cut_of sys j d.priority) (home_records w j d.priority)
    shape =
        subst (HasShape sys d.priority (j.kernel == port) (cut_of sys j d.priority)) (sym (home_records-kernel w j d.priority no_port ∙ own-is d.priority))
        (subst (λ c. HasShape sys d.priority (j.kernel == port) c (own_told d.priority told0)) (sym (cut-is d.priority))
        (subst (λ b. HasShape sys d.priority b (cut_in j.end d.priority (map untold told0)) (own_told d.priority told0)) (sym no_port) (zero.shapes d chart at is)))

    bare-is : records_in (told_pieces here d.priority (unread sys) told0) ≡ dispatched (by_object w j d.priority)
    bare-is = bare-told here d.priority (unread sys) told0 ∙ ap dispatched (sym (own-is d.priority))

    deferral : deferral_holds sys j d ≡ true
    unfolding deferral_holds
    deferral =
        ap is_some (sym (kept-filter d.defer (λ t. not (is_turn_mark t.body)) (λ t h. mark-other t.body (not-false (is_turn_mark t.body) h)) [] (by_object w j d.priority)))
        ∙ ap (λ g. is_some (kept_after d.defer [] g)) (sym bare-is) ∙ follows-deferral sys d (cut_of sys j d.priority) (told_pieces here d.priority (unread sys) told0) follows

    object : ObjectHolds sys j d
    unfolding CourseHolds
    object = record {
      shapes = record { shape = shape; home = rw no_port refl };
      deferral = deferral;
      course = (told_pieces here d.priority (unread sys) told0, bare-is, follows);
    }

    points : FollowsTo sys d (cut_of sys j d.priority) (lane_pieces w (setting_of sys j) d.priority lane0)
    points = subst (FollowsTo sys d (cut_of sys j d.priority)) (sym (pieces-are d.priority)) follows

  found : AllByRecursion (IsFound sys.objects) sys.objects
  found = all-found sys.objects sound.ascend

  pub objects : AllByRecursion (ObjectHolds sys j) sys.objects
  unfolding object_at
  objects =
      all-zip (IsFound sys.objects) (IsSoundObject sys.charts) (ObjectHolds sys j) sys.objects
      (λ d at its. object d its.its at.0 its.is_its) found sound.objects

  -- a kernel that reads lane 0, with no more rows at the base without a step than it may have
  pub kernel : ((j.kernel == sim) || (j.kernel == qk) || (j.kernel == qv)) ≡ true → most ≤ count_by (λ i. is_settle i.body) (all_items j.lanes) + 1 → KernelHolds sys j
  unfolding object_at
  kernel reads_it rows = record {
    lane = rw read-is (reading zero.last zero.idle zero.stands);
    points =
        all-zip (IsFound sys.objects) (IsSoundObject sys.charts) (λ d. FollowsTo sys d (cut_of sys j d.priority) (lane_pieces w (setting_of sys j) d.priority lane0)) sys.objects
        (λ d at its. points d its.its at.0 its.is_its) found sound.objects;
  }
    where
      reading : (last : Reading) → last.idle ≤ most → may_stand j.kernel j.end last (map untold told0) ≡ true
          → reading_holds j lane0 (count_by (λ i. is_settle i.body) (all_items j.lanes)) (Some last) ≡ true
      reading last idle stands =
          let few : nat_le last.idle (count_by (λ i. is_settle i.body) (all_items j.lanes) + 1) ≡ true = grind (arith, nat_tests, idle, rows) in
          let cut : spills_cut j.end lane0 ≡ true = ap (spills_cut j.end) (sym items-are) ∙ zero.spills in
          let stand : may_stand j.kernel j.end last lane0 ≡ true = ap (may_stand j.kernel j.end last) (sym items-are) ∙ stands in
          rw (reads_it, few, cut) stand

  takes-none : (o : ℕ) (is : List Item) → 0 < o → list_all (λ i. i.of == 0) is ≡ true → count_by (takes_of o) is ≡ 0
  takes-none o [] some h = refl
  takes-none o (i ∷ is) some h =
      let parts = and_parts (i.of == 0) (list_all (λ i. i.of == 0) is) h in
      count-cons (takes_of o) i is (no i some parts.0) ∙ takes-none o is some parts.1
    where
      and-false : (b : Bool) → (b && false) ≡ false
      and-false true = refl
      and-false false = refl

      no : (i : Item) → 0 < o → (i.of == 0) ≡ true → takes_of o i ≡ false
      no i some e = let zero_of : i.of ≡ 0 = grind (arith, nat_tests, e) in let other : (i.of == o) ≡ false = grind (arith, nat_tests, zero_of, some) in rw (other, and-false) refl

  module _ (l : List Rec) (ls : List (List Rec)) (split : j.lanes ≡ l ∷ ls) (others : AllByRecursion (λ l. IsBeside (lane_items l)) ls) where
    first-is : lane_at j 0 ≡ l
    first-is = ap (λ x. unwrap_or (slice_get x 0) []) split

    rest : (P : List Item → Type 0) → ((is : List Item) → IsBeside is → P is) → AllByRecursion (λ l. P (lane_items l)) ls
    rest P go = all-map (λ l. IsBeside (lane_items l)) (λ l. P (lane_items l)) ls (λ l h. go (lane_items l) h) others

    tests : (p : List Item → Bool) → p lane0 ≡ true → AllByRecursion (λ l. p (lane_items l) ≡ true) ls → list_all (λ l. p (lane_items l)) j.lanes ≡ true
    tests p one others = ap (list_all (λ l. p (lane_items l))) split ∙ and_from (p (lane_items l)) (list_all (λ l. p (lane_items l)) ls) (ap (λ x. p (lane_items x)) (sym first-is) ∙ one) (every-test (λ l. p (lane_items l)) ls others)

    takes-rest : (o : ℕ) (ls : List (List Rec)) → 0 < o → AllByRecursion (λ l. list_all (λ i. i.of == 0) (lane_items l) ≡ true) ls → count_by (takes_of o) (all_items ls) ≡ 0
    unfolding all_items
    takes-rest o [] some h = refl
    takes-rest o (l ∷ ls) some h =
        let here_l = takes-none o (lane_items l) some h.0 in
        let more = takes-rest o ls some h.1 in
        count-append (takes_of o) (lane_items l) (all_items ls) ∙ rw (here_l, more) refl

    takes-all : (o : ℕ) → 0 < o → took_count (all_items j.lanes) o ≡ took_count lane0 o
    unfolding took_count all_items
    takes-all o some =
        let none = takes-rest o ls some (rest (λ is. list_all (λ i. i.of == 0) is ≡ true) (λ is h. h.alone)) in
        let parts = count-append (takes_of o) (lane_items l) (all_items ls) in
        ap (λ x. count_by (takes_of o) (all_items x)) split ∙ (omega (arith, parts, none)) ∙ ap (λ x. count_by (takes_of o) (lane_items x)) (sym first-is)

    spent-own : (i : Item) → is_spent_right j.budget lane0 i ≡ true → spent_right sys j 0 i ≡ true
    spent-own i h = by (is_spent i.body) h
      where
        by : (b : Bool) → (not b || (nat_lt 0 i.of && (took_count lane0 i.of == j.budget))) ≡ true → (not b || ((home_of sys j i.of == 0) && (took_count (all_items j.lanes) i.of == j.budget))) ≡ true
        by false h = refl
        by true h =
            let parts = and_parts (nat_lt 0 i.of) (took_count lane0 i.of == j.budget) h in
            let some : 0 < i.of = grind (arith, nat_tests, parts.0) in
            rw (home-is i.of, takes-all i.of some, parts.1) refl

    spent-each : (is : List Item) → list_all (is_spent_right j.budget lane0) is ≡ true → list_all (spent_right sys j 0) is ≡ true
    spent-each [] h = refl
    spent-each (i ∷ is) h = let parts = and_parts (is_spent_right j.budget lane0 i) (list_all (is_spent_right j.budget lane0) is) h in rw (spent-own i parts.0, spent-each is parts.1) refl

    spents-rest : (n : ℕ) (ls : List (List Rec)) → AllByRecursion (λ l. list_any (λ i. is_spent i.body) (lane_items l) ≡ false) ls → spents_hold sys j n ls ≡ true
    unfolding spents_hold
    spents-rest n [] h = refl
    spents-rest n (l ∷ ls) h = rw (unspent-right sys j n (lane_items l) h.0, unspent-follow None (lane_items l) h.0, spents-rest (n + 1) ls h.1) refl

    spents : spents_hold sys j 0 j.lanes ≡ true
    unfolding spents_hold
    spents =
        let right : list_all (spent_right sys j 0) (lane_items l) ≡ true =
        ap (λ x. list_all (spent_right sys j 0) (lane_items x)) (sym first-is)
        ∙ spent-each lane0 (subst (λ x. list_all (is_spent_right j.budget x) x ≡ true) items-are zero.spent) in
        let follow : spents_follow None (lane_items l) ≡ true = ap (λ x. spents_follow None (lane_items x)) (sym first-is) ∙ ap (spents_follow None) (sym items-are) ∙ zero.spents in
        let later = spents-rest 1 ls (rest (λ is. list_any (λ i. is_spent i.body) is ≡ false) (λ is h. h.unspent)) in
        ap (spents_hold sys j 0) split ∙ rw (right, follow, later) refl

    -- what else the end asks is known of the run
    pub end-holds : (j.end == end_of (all_items j.lanes)) ≡ true → list_all (λ lane. has_room (lane_items lane)) j.lanes ≡ true
        → (j.end ≡ quiet → lines_empty sys (all_items j.lanes) ≡ true) → (j.end ≡ quiet → blocks_rest sys (all_items j.lanes) (deferred_of sys j sys.objects) ≡ true)
        → EndHolds sys j
    unfolding EndHolds
    end-holds stated room queues blocks = record {
      stated = stated;
      last =
          tests ends_last (ap ends_last (sym items-are) ∙ zero.ends)
          (rest (λ is. ends_last is ≡ true) (λ is h. h.ends));
      spents = spents;
      spills =
          tests (spills_state 0) (ap (spills_state 0) (sym items-are) ∙ zero.states)
          (rest (λ is. spills_state 0 is ≡ true) (λ is h. h.states));
      room = room;
      budgets =
          every-test (λ d. nat_le (took_count (all_items j.lanes) d.priority) j.budget) sys.objects
          (all-map (IsFound sys.objects) (λ d. nat_le (took_count (all_items j.lanes) d.priority) j.budget ≡ true) sys.objects (λ d f. within d f.1) found);
      queues = quietly j.end queues;
      blocks = quietly j.end blocks;
    }
      where
        within : (d : ObjectDef) → 0 < d.priority → nat_le (took_count (all_items j.lanes) d.priority) j.budget ≡ true
        within d some =
            let few = zero.budgets d.priority in
            let same : took_count (all_items j.lanes) d.priority ≡ took_count (map untold told0) d.priority = takes-all d.priority some ∙ ap (λ x. took_count x d.priority) (sym items-are) in
            grind (arith, nat_tests, few, same)
