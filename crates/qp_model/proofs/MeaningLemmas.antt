-- An object's steps are the statechart meaning of the events that its queue gave, in order.
use Rattle.std.proofs.Common.{◌≡◌, ◌≢◌, ℕ, suc, ◌+◌, ◌<◌, ◌==◌, Bool, true, false, not, ◌||◌, cond, List, [], ◌∷◌, ◌++◌, length, drop, refl, sym, ◌∙◌, ap, subst, Some, None, append-nil, append_assoc, arith}
use Rattle.std.specs.Prelude.{IsTrue}
use Rattle.std.specs.declared.option.Option.{Option}
use Rattle.std.specs.Option.{is_some, unwrap_or}
use Rattle.std.specs.List.{filter_map, find, slice_get, AllByRecursion}
use Rattle.std.proofs.lemmas.Bool.Decides.{nat_tests}
use Rattle.qp_chart.specs.declared.checked.Chart.{Chart}
use Rattle.qp_model.specs.declared.record.Rec.{Rec}
use Rattle.qp_model.specs.declared.stimulus.Stim.{Stim}
use Rattle.qp_model.specs.declared.words.Word.TheVariants as word
use Rattle.qp_model.specs.declared.systems.ObjectDef.{ObjectDef}
use Rattle.qp_model.specs.declared.systems.System.{System}
use Rattle.qp_model.specs.declared.journals.Journal.{Journal}
use Rattle.qp_model.specs.declared.bodies.Entry.{Entry}
use Rattle.qp_model.specs.declared.bodies.Body.{Body}
use Rattle.qp_model.specs.declared.bodies.Body.TheVariants as body
use Rattle.qp_model.specs.Told.{Told}
use Rattle.qp_model.specs.History.{lane_items, all_items, hist}
use Rattle.qp_model.specs.Line.{Line, line}
use Rattle.qp_model.specs.Sites.{object_at, ring_of}
use Rattle.qp_model.specs.WordLaw.{Keeps, is_object}
use Rattle.qp_model.specs.Kernels.{port}
use Rattle.qp_model.specs.Home.{lane_at, home_of, by_object}
use Rattle.qp_model.specs.Pieces.{Piece, records_in}
use Rattle.qp_model.specs.Acts.{Config}
use Rattle.qp_model.specs.Course.{Course, first_config, actor, chart_at, FollowsAs, Follows, FollowsTo, Cut, Whole, Stopped, Anywhere}
use Rattle.qp_model.specs.Ends.{is_turn_mark, quiet}
use Rattle.qp_model.specs.Lawful.{Lawful, ObjectHolds, CourseHolds, SourceLanes, lanes_before, facts_of, cut_of, dispatched}
use Rattle.qp_model.specs.Laws.{Ascend, taken_entry, entries_taken_by, entries_taken_in, TakesWhatItsQueueGives, LivesByItsChart, StepsAreTheMeaning}
use Rattle.qp_model.proofs.CourseLemmas.{through-follows}
use Rattle.qp_model.proofs.GroupLemmas.{bare-append}
use Rattle.qp_model.proofs.TakenLemmas.{filter_map-filter, history-takes, told-takes, entry_for, kernel_takes}
use Rattle.qp_model.proofs.HomeLemmas.{AreBelow, split-homes}
use Rattle.qp_model.proofs.TookLemmas.{taken_in-append, course-takes}

mark-none : (b : Body) → not (is_turn_mark b) ≡ false → taken_entry b ≡ None
mark-none (body.Took f l m e) h = absurd (cc)
mark-none _ h = refl

-- the marks of turns without a step take nothing
dispatched-takes : (ts : List Told) → entries_taken_in (dispatched ts) ≡ entries_taken_in ts
unfolding entries_taken_in
dispatched-takes ts = filter_map-filter (λ t. taken_entry t.body) (λ t. not (is_turn_mark t.body)) (λ t e. mark-none t.body e) ts

cut-quiet : (sys : System) (j : Journal) (o : ℕ) → j.end ≡ quiet → cut_of sys j o ≡ Whole
unfolding cut_of
cut-quiet sys j o is = rw is refl

-- pieces that follow the chart are a course over the entries that their records take
as_course : (sys : System) (d : ObjectDef) (o : Option Chart) (ps : List Piece) → FollowsAs sys d o ps
    → (chart : Chart) × (o ≡ Some chart) × ((end : Option Config) × Course sys (actor d chart) (first_config d) (entries_taken_in (records_in ps)) ps end)
unfolding FollowsAs
as_course sys d None ps h = absurd h
as_course sys d (Some chart) ps (es, end, course) =
    (chart, refl, (end, subst (λ xs. Course sys (actor d chart) (first_config d) xs ps end) (sym (course-takes sys (actor d chart) (first_config d) es ps end course)) course))

lives : (sys : System) (j : Journal) (d : ObjectDef) → entries_taken_in (by_object (facts_of sys j) j d.priority) ≡ entries_taken_by d.priority (hist (word.Queue d.priority) (all_items j.lanes))
    → ObjectHolds sys j d → LivesByItsChart sys j d
unfolding CourseHolds Follows FollowsTo records_in entries_taken_in
lives sys j d takes h = by_cut (cut_of sys j d.priority) refl h.course.2
  where
    ps : List Piece
    ps = h.course.0

    given : List Entry
    given = entries_taken_by d.priority (hist (word.Queue d.priority) (all_items j.lanes))

    taken : entries_taken_in (records_in ps) ≡ given
    taken = ap entries_taken_in h.course.1 ∙ dispatched-takes (by_object (facts_of sys j) j d.priority) ∙ takes

    -- with what is left out
    cut_course : (back : List Piece) → (j.end ≡ quiet → (back ≡ []) × (entries_taken_in (records_in back) ≡ [])) → Follows sys d (ps ++ back) → LivesByItsChart sys j d
    cut_course back whole follows = record {
      chart = found.0;
      is_its = found.1;
      done = ps;
      left = back;
      more = entries_taken_in (records_in back);
      end = found.2.0;
      records = h.course.1;
      course = subst (λ xs. Course sys (actor d found.0) (first_config d) xs (ps ++ back) found.2.0)
          (ap entries_taken_in (bare-append ps back) ∙ taken_in-append (records_in ps) (records_in back) ∙ ap (λ xs. xs ++ entries_taken_in (records_in back)) taken) found.2.1;
      whole = whole;
    }
      where
        found : (chart : Chart) × (chart_at sys d.chart ≡ Some chart) × ((end : Option Config) × Course sys (actor d chart) (first_config d) (entries_taken_in (records_in (ps ++ back))) (ps ++ back) end)
        found = as_course sys d (chart_at sys d.chart) (ps ++ back) follows

    by_cut : (cut : Cut) → cut_of sys j d.priority ≡ cut → FollowsTo sys d cut ps → LivesByItsChart sys j d
    by_cut Whole is follows = cut_course [] (λ q. (refl, refl)) (subst (Follows sys d) (sym (append-nil ps)) (through-follows sys d ps follows))
    by_cut Stopped is (back, follows, place) = cut_course back (λ q. let other : Whole ≡ Stopped = sym (cut-quiet sys j d.priority q) ∙ is in absurd (cc)) follows
    by_cut Anywhere is (back, follows) = cut_course back (λ q. let other : Whole ≡ Anywhere = sym (cut-quiet sys j d.priority q) ∙ is in absurd (cc)) follows

-- an object of the list is found by its priority
found_at : (front : List ObjectDef) (d : ObjectDef) (rest : List ObjectDef) → is_some (find (λ x. x.priority == d.priority) (front ++ d ∷ rest)) ≡ true
found_at [] d rest = let self : (d.priority == d.priority) ≡ true = grind (arith, nat_tests) in rw self refl
found_at (x ∷ front) d rest = go (x.priority == d.priority) (found_at front d rest)
  where
    go : (b : Bool) → is_some (find (λ y. y.priority == d.priority) (front ++ d ∷ rest)) ≡ true → is_some (cond b (Some x) (find (λ y. y.priority == d.priority) (front ++ d ∷ rest))) ≡ true
    go true h = refl
    go false h = h

pub none_below : (ds : List ObjectDef) → AreBelow [] ds
none_below [] = tt
none_below (d ∷ ds) = (tt, none_below ds)

-- in `port` too an object takes what its queue gives
port_takes : (sys : System) (stimuli : List (List Stim)) (j : Journal) → Lawful sys stimuli j → j.kernel ≡ port → Ascend sys.objects → (o : ℕ) → 0 < o → IsTrue (is_object sys o)
    → entries_taken_in (by_object (facts_of sys j) j o) ≡ entries_taken_by o (hist (word.Queue o) (all_items j.lanes))
unfolding by_object entries_taken_by facts_of all_items is_object object_at
port_takes sys stimuli j h is_port rise o some is = go j.lanes refl
  where
    asked : j.kernel ≡ port → (not (j.kernel == port) || (length (lane_at j 0) == 0)) ≡ true → (length (lane_at j 0) == 0) ≡ true
    asked e k = subst (λ x. (not (x == port) || (length (lane_at j 0) == 0)) ≡ true) e k

    homes : lanes_before sys j ≡ length sys.objects + 1
    homes = rw is_port refl

    no_records : (l : List Rec) → (length l == 0) ≡ true → l ≡ []
    no_records [] e = refl
    no_records (r ∷ l) e = let none : length (r ∷ l) ≡ 0 = grind (arith, nat_tests, e) in absurd (omega (arith, none))

    go : (lanes : List (List Rec)) → j.lanes ≡ lanes → entries_taken_in (by_object (facts_of sys j) j o) ≡ entries_taken_by o (hist (word.Queue o) (all_items j.lanes))
    go [] at =
        let count : length j.lanes ≡ lanes_before sys j + length stimuli = grind (arith, nat_tests, h.sources.count) in
        let none : length j.lanes ≡ 0 = ap length at in
        absurd (omega (arith, count, homes, none))
    go (l ∷ ls) at =
        let count : length j.lanes ≡ lanes_before sys j + length stimuli = grind (arith, nat_tests, h.sources.count) in
        let whole : length j.lanes ≡ suc (length ls) = ap length at in
        let rest : length ls ≡ length sys.objects + length stimuli = omega (arith, count, homes, whole) in
        let sources : SourceLanes sys j (length sys.objects + 1) stimuli = subst (λ n. SourceLanes sys j n stimuli) homes h.sources.lanes in
        let split = split-homes sys j is_port stimuli sources o some [] sys.objects 1 ls refl refl (ap (drop 1) at) rest (none_below sys.objects) rise h.objects is in
        let first : lane_at j 0 ≡ l = ap (λ x. unwrap_or (slice_get x 0) []) at in
        let empty : l ≡ [] = no_records l (subst (λ x. (length x == 0) ≡ true) first (asked is_port h.sources.empty)) in
        let parts : j.lanes ≡ ([] ∷ split.front) ++ split.lane ∷ split.back = at ∙ ap (λ x. x ∷ ls) empty ∙ ap (λ xs. [] ∷ xs) split.parts in
        let keeps : Keeps Line (line (ring_of sys o)) (word.Queue o) (([] ∷ split.front) ++ split.lane ∷ split.back) = subst (Keeps Line (line (ring_of sys o)) (word.Queue o)) parts (h.words.queues o is) in
        let given = history-takes o (ring_of sys o) ([] ∷ split.front) split.lane split.back keeps split.before split.behind in
        told-takes (facts_of sys j) o 0 (lane_items (lane_at j (home_of sys j o)))
        ∙ ap (λ x. filter_map (entry_for o) (lane_items x)) split.home
        ∙ sym given ∙ ap (λ x. filter_map (entry_for o) (hist (word.Queue o) (all_items x))) (sym parts)

takes_given : (sys : System) (stimuli : List (List Stim)) (j : Journal) → Lawful sys stimuli j → Ascend sys.objects → (o : ℕ) → 0 < o → IsTrue (is_object sys o)
    → entries_taken_in (by_object (facts_of sys j) j o) ≡ entries_taken_by o (hist (word.Queue o) (all_items j.lanes))
takes_given sys stimuli j h rise o some is = go (j.kernel == port) refl
  where
    go : (b : Bool) → (j.kernel == port) ≡ b → entries_taken_in (by_object (facts_of sys j) j o) ≡ entries_taken_by o (hist (word.Queue o) (all_items j.lanes))
    go true e = let is_port : j.kernel ≡ port = grind (arith, nat_tests, e) in port_takes sys stimuli j h is_port rise o some is
    go false e = let other : j.kernel ≢ port = grind (arith, nat_tests, e) in kernel_takes sys stimuli j h other o some is

-- the same for each object of the system
all_take : (sys : System) (stimuli : List (List Stim)) (j : Journal) → Lawful sys stimuli j → Ascend sys.objects → (front ds : List ObjectDef) → front ++ ds ≡ sys.objects → Ascend ds
    → AllByRecursion (λ d. entries_taken_in (by_object (facts_of sys j) j d.priority) ≡ entries_taken_by d.priority (hist (word.Queue d.priority) (all_items j.lanes))) ds
unfolding is_object object_at
all_take sys stimuli j h rise front [] at named = tt
all_take sys stimuli j h rise front (d ∷ ds) at named =
    let is : is_some (find (λ x. x.priority == d.priority) sys.objects) ≡ true = subst (λ xs. is_some (find (λ x. x.priority == d.priority) xs) ≡ true) at (found_at front d ds) in
    let next : (front ++ d ∷ []) ++ ds ≡ sys.objects = append_assoc front (d ∷ []) ds ∙ at in
    (takes_given sys stimuli j h rise d.priority named.0 is, all_take sys stimuli j h rise (front ++ d ∷ []) ds next named.2)

pub takes_what_its_queue_gives : TakesWhatItsQueueGives
takes_what_its_queue_gives sys stimuli j h rise = all_take sys stimuli j h rise [] sys.objects refl rise

all_live : (sys : System) (j : Journal) (ds : List ObjectDef)
    → AllByRecursion (λ d. entries_taken_in (by_object (facts_of sys j) j d.priority) ≡ entries_taken_by d.priority (hist (word.Queue d.priority) (all_items j.lanes))) ds
    → AllByRecursion (ObjectHolds sys j) ds → AllByRecursion (LivesByItsChart sys j) ds
all_live sys j [] takes holds = tt
all_live sys j (d ∷ ds) takes holds = (lives sys j d takes.0 holds.0, all_live sys j ds takes.1 holds.1)

pub steps_are_the_meaning : StepsAreTheMeaning
steps_are_the_meaning sys stimuli j h rise = all_live sys j sys.objects (takes_what_its_queue_gives sys stimuli j h rise) h.objects
