-- The lanes of sources and the budgets of a lawful journal of a run with one thread.
use Rattle.std.proofs.Common.{◌≡◌, ◌∙◌, ◌⊎◌, inl, inr, append-nil, ℕ, suc, ◌+◌, ◌<◌, ◌≤◌, ◌==◌, nat_le, nat_lt, Bool, true, false, not, ◌&&◌, ◌||◌, cond, List, [], ◌∷◌, ◌++◌, map, length, drop, get_or, Some, None, refl, sym, ap, subst, arith}
use Rattle.std.proofs.lemmas.Bool.{and_from, and_parts, ne_eqb, or_right}
use Rattle.std.proofs.lemmas.Bool.Decides.{nat_tests}
use Rattle.std.proofs.lemmas.List.{append_assoc, length-append, map-append}
use Rattle.std.proofs.lemmas.List.Sums.{sum_by-cons}
use Rattle.std.specs.declared.option.Option.{Option}
use Rattle.std.specs.Option.{is_some, option_map, option_map_or, option_and_then}
use Rattle.std.specs.List.{cons_option, list_all, list_any, count_by, AllByRecursion}
use Rattle.qp_chart.specs.StateTree.{has}
use Rattle.qp_model.specs.declared.record.Rec.{Rec}
use Rattle.qp_model.specs.declared.stimulus.Stim.{Stim}
use Rattle.qp_model.specs.declared.systems.System.{System}
use Rattle.qp_model.specs.declared.systems.ObjectDef.{ObjectDef}
use Rattle.qp_model.specs.declared.journals.Journal.{Journal}
use Rattle.qp_model.specs.declared.bodies.Entry.{Entry}
use Rattle.qp_model.specs.declared.bodies.Body.{Body}
use Rattle.qp_model.specs.declared.bodies.Body.TheVariants as body
use Rattle.qp_model.specs.Record.{Item}
use Rattle.qp_model.specs.Knowing.{records_of}
use Rattle.qp_model.specs.Ends.{is_spill, is_end, is_spent, spills_cut, spills_in, may_cut}
use Rattle.qp_model.specs.End.{spill_states, spills_state, takes_of, took_count, spent_right, spents_hold}
use Rattle.qp_model.specs.History.{all_items, lane_items}
use Rattle.qp_model.specs.Home.{lane_at, home_of}
use Rattle.qp_model.specs.Sites.{object_at}
use Rattle.qp_model.specs.KernelLane.{Reading, lane_on, lane_next, unread}
use Rattle.qp_model.specs.OneOrder.{Placed, acts_next, is_stim_at, is_turn, no_look, turns_at, with_stimuli, parts_of_look, look_of, stim_of, look_numbers, stims_placed, items_placed}
use Rattle.qp_model.specs.Sources.{SourceEnd, InStimulus, IsSourceLane, SourceRuns, source_records, may_end}
use Rattle.qp_model.specs.Kernels.{port}
use Rattle.qp_model.specs.Lawful.{Lawful, EndHolds, SourceLanes, facts_of, setting_of, source_lanes, lanes_before, one_thread}
use Rattle.qp_model.proofs.KernelRowLemmas.{lane_on-append}
use Rattle.qp_check_ends.specs.SourceState.{SourceState, Between, source_after, source_stops, stops_after}
use Rattle.qp_check_ends.proofs.LawLemmas.{call-laws}
use Rattle.qp_check_ends.proofs.StopLemmas.{lane-stops}
use Rattle.qp_check_ends.proofs.LaneLemmas.{runs-flag}
use Rattle.qp_model_order.specs.RunOrder.{placed, has_stim}
use Rattle.qp_model_order.specs.Placing.{look_item}
use Rattle.qp_unique.specs.Tidy.{unspilt_order, spill_free, unspilt}
use Rattle.qp_unique.proofs.SourceSteps.{lane_in-append}
use Rattle.qp_unique.proofs.KernelLemmas.{Slot, slot-of}
use Rattle.qp_unique.proofs.StackLemmas.{found-in}
use Rattle.qp_unique.proofs.ItemLemmas.{none-at}
use Rattle.qp_unique.proofs.LoopLemmas.{look-whole}
use Rattle.qp_unique.proofs.RunLanes.{lane-stands, look-body}
use Rattle.qp_unique.proofs.JournalLemmas.{parts-all, Threaded, all-split, lane0-is, inside, ends-run, turn-at, each-unspilt, lane-each, drop-at, has_spilt, kept_sources, kept_zero, lanes-kept, lanes-none, spill-no_look}
use Rattle.qp_unique.proofs.SideLemmas.{all-of, kernel-read, unspilt-zero, has_one}
use Rattle.qp_unique.proofs.Sides.{Lined, LongFront, HasKernel, in_kernel, no-port, lane_in}
use Rattle.qp_model.proofs.NumberLemmas.{every-append, count-append}
use Rattle.qp_model.proofs.TakenLemmas.{list_all-at}
use Rattle.qp_model.proofs.ListLemmas.{every-parts}

each-object : (p : ObjectDef → Bool) (ds : List ObjectDef) → list_all p ds ≡ true → AllByRecursion (λ d. p d ≡ true) ds
each-object p [] h = tt
each-object p (d ∷ ds) h = let parts = and_parts _ _ h in (parts.0, each-object p ds parts.1)

-- a look with this number
look-found : (lane : List Item) (n : ℕ) → has (look_numbers lane) n ≡ true → (front : List Item) × (i : Item) × (floor : ℕ) × (back : List Item) × (lane ≡ front ++ i ∷ back) × (look_of i.body ≡ Some (n, floor))
look-found [] n h = absurd (cc)
look-found (i ∷ is) n h = by (look_of i.body) refl h (λ k. look-found is n k)
  where
    by : (o : Option (ℕ × ℕ)) → look_of i.body ≡ o → has (cons_option (option_map (λ l. l.0) o) (look_numbers is)) n ≡ true
        → (has (look_numbers is) n ≡ true → (front : List Item) × (x : Item) × (floor : ℕ) × (back : List Item) × (is ≡ front ++ x ∷ back) × (look_of x.body ≡ Some (n, floor)))
        → (front : List Item) × (x : Item) × (floor : ℕ) × (back : List Item) × (i ∷ is ≡ front ++ x ∷ back) × (look_of x.body ≡ Some (n, floor))
    by None e h later = let more = later h in (i ∷ more.0, more.1, more.2, more.3, ap (λ us. i ∷ us) more.4, more.5)
    by (Some l) e h later = on (l.0 == n) refl h
      where
        on : (c : Bool) → (l.0 == n) ≡ c → (c || has (look_numbers is) n) ≡ true → (front : List Item) × (x : Item) × (floor : ℕ) × (back : List Item) × (i ∷ is ≡ front ++ x ∷ back) × (look_of x.body ≡ Some (n, floor))
        on true same h = let number : l.0 ≡ n = grind (arith, nat_tests) in ([], i, l.1, is, refl, e ∙ ap (λ m. Some (m, l.1)) number)
        on false same h = let more = later h in (i ∷ more.0, more.1, more.2, more.3, ap (λ us. i ∷ us) more.4, more.5)

count-items : (f : Item → Bool) (xs : List Placed) → count_by (λ (z : Placed). f z.item) xs ≡ count_by f (items_placed xs)
count-items f [] = refl
count-items f (x ∷ xs) = sum_by-cons (λ (z : Placed). cond (f z.item) 1 0) x xs ∙ ap (λ n. cond (f x.item) 1 0 + n) (count-items f xs) ∙ sym (sum_by-cons (λ i. cond (f i) 1 0) x.item (items_placed xs))

count-none : (f : Item → Bool) (xs : List Item) → AllByRecursion (λ i. f i ≡ false) xs → count_by f xs ≡ 0
count-none f [] h = refl
count-none f (x ∷ xs) h = sum_by-cons (λ i. cond (f i) 1 0) x xs ∙ rw h.0 (let rest = count-none f xs h.1 in omega (arith, rest))

count-merged : (f : Item → Bool) (cuts : Bool) (sources : List (List Item)) (lane0 : List Item) → AllByRecursion (λ l. AllByRecursion (λ i. f i ≡ false) l) sources
    → count_by f (items_placed (with_stimuli cuts sources lane0)) ≡ count_by f lane0
unfolding with_stimuli
count-merged f cuts sources [] h = refl
count-merged f cuts sources (i ∷ is) h =
    sum_by-cons (λ i. cond (f i) 1 0) i (items_placed (own (look_of i.body) ++ with_stimuli cuts sources is))
    ∙ ap (λ n. cond (f i) 1 0 + n) (ap (count_by f) (map-append (λ (z : Placed). z.item) (own (look_of i.body)) (with_stimuli cuts sources is)) ∙ count-append f (items_placed (own (look_of i.body))) (items_placed (with_stimuli cuts sources is))
    ∙ ap (λ n. n + count_by f (items_placed (with_stimuli cuts sources is))) (none (look_of i.body)) ∙ zero-plus ∙ count-merged f cuts sources is h)
    ∙ sym (sum_by-cons (λ i. cond (f i) 1 0) i is)
  where
    own : Option (ℕ × ℕ) → List Placed
    own o = option_map_or (λ (l : ℕ × ℕ). parts_of_look 1 l.0 cuts sources) o []

    zero-plus : 0 + count_by f (items_placed (with_stimuli cuts sources is)) ≡ count_by f (items_placed (with_stimuli cuts sources is))
    zero-plus = omega arith

    none : (o : Option (ℕ × ℕ)) → count_by f (items_placed (own o)) ≡ 0
    none None = refl
    none (Some l) = count-none f (items_placed (parts_of_look 1 l.0 cuts sources)) (parts-all (λ i. f i ≡ false) 1 l.0 cuts sources h)

-- what is true of each lane by its place
pub each-by : (P : List Item → Type 0) (ls : List (List Item)) → ((front : List (List Item)) (l : List Item) (back : List (List Item)) → ls ≡ front ++ l ∷ back → P l) → AllByRecursion P ls
each-by P [] h = tt
each-by P (l ∷ ls) h = (h [] l ls refl, each-by P ls (λ front x back is. h (l ∷ front) x back (ap (λ us. l ∷ us) is)))

pub joined-each : (P : Item → Type 0) (ls : List (List Rec)) → AllByRecursion (λ l. AllByRecursion P l) (map (λ lane. lane_items lane) ls) → AllByRecursion P (all_items ls)
unfolding all_items
joined-each P [] h = tt
joined-each P (l ∷ ls) h = every-append P (lane_items l) (all_items ls) h.0 (joined-each P ls h.1)

-- ---- lanes without a `spill`

all-kept : (p : Item → Bool) (is : List Item) → list_all p is ≡ true → list_all p (unspilt is) ≡ true
all-kept p [] h = refl
all-kept p (i ∷ is) h = let parts = and_parts (p i) _ h in by (not (is_spill i.body)) parts.0 (all-kept p is parts.1)
  where
    by : (b : Bool) → p i ≡ true → list_all p (unspilt is) ≡ true → list_all p (cond b (i ∷ unspilt is) (unspilt is)) ≡ true
    by true first rest = and_from (p i) _ first rest
    by false first rest = rest

numbers-kept : (is : List Item) → look_numbers (unspilt is) ≡ look_numbers is
numbers-kept [] = refl
numbers-kept (i ∷ is) = by (is_spill i.body) refl (numbers-kept is)
  where
    by : (b : Bool) → is_spill i.body ≡ b → look_numbers (unspilt is) ≡ look_numbers is
        → look_numbers (cond (not b) (i ∷ unspilt is) (unspilt is)) ≡ cons_option (option_map (λ l. l.0) (look_of i.body)) (look_numbers is)
    by false e h = ap (λ us. cons_option (option_map (λ (l : ℕ × ℕ). l.0) (look_of i.body)) us) h
    by true e h = h ∙ sym (ap (λ (o : Option (ℕ × ℕ)). cons_option (option_map (λ (l : ℕ × ℕ). l.0) o) (look_numbers is)) (spill-no_look i.body e))

count-kept : (p : ℕ) (is : List Item) → count_by (takes_of p) (unspilt is) ≡ count_by (takes_of p) is
count-kept p [] = refl
count-kept p (i ∷ is) = by (is_spill i.body) refl (count-kept p is) ∙ sym (sum_by-cons (λ x. cond {A = ℕ} (takes_of p x) 1 0) i is)
  where
    untaken : (b : Body) → is_spill b ≡ true → takes_of p (record { of = i.of; body = b }) ≡ false
    untaken (body.Took f l m e) h = absurd (cc)
    untaken b h = refl

    by : (b : Bool) → is_spill i.body ≡ b → count_by (takes_of p) (unspilt is) ≡ count_by (takes_of p) is
        → count_by (takes_of p) (cond (not b) (i ∷ unspilt is) (unspilt is)) ≡ cond {A = ℕ} (takes_of p i) 1 0 + count_by (takes_of p) is
    by false e h = sum_by-cons (λ x. cond {A = ℕ} (takes_of p x) 1 0) i (unspilt is) ∙ ap (λ n. cond {A = ℕ} (takes_of p i) 1 0 + n) h
    by true e h =
        let none : cond {A = ℕ} (takes_of p i) 1 0 ≡ 0 = ap (λ b. cond {A = ℕ} b 1 0) (untaken i.body e) in
        omega (arith, h, none)

-- a lane and the one that it is without its `spill`
pub kept-at : (ls front : List (List Item)) (l : List Item) (back : List (List Item)) → map (λ lane. unspilt lane) ls ≡ front ++ l ∷ back
    → (before : List (List Item)) × (raw : List Item) × (behind : List (List Item)) × (ls ≡ before ++ raw ∷ behind) × (unspilt raw ≡ l) × (length before ≡ length front)
kept-at [] [] l back is = absurd (cc)
kept-at [] (f ∷ front) l back is = absurd (cc)
kept-at (r ∷ ls) [] l back is = let same : unspilt r ≡ l = cc in ([], r, ls, refl, same, refl)
kept-at (r ∷ ls) (f ∷ front) l back is =
    let rest : map (λ lane. unspilt lane) ls ≡ front ++ l ∷ back = cc in
    let more = kept-at ls front l back rest in
    (r ∷ more.0, more.1, more.2, ap (λ us. r ∷ us) more.3, more.4, ap suc more.5)

-- a lane that ended with a `spill` has more records before it than are free of one
long-lane : (end n : ℕ) (is : List Item) → spills_cut end is ≡ true → spills_state n is ≡ true → spills_in is ≡ true → spill_free < n + length (unspilt is)
unfolding spills_cut spills_state spill_free
long-lane end n [] cut states h = absurd (cc)
long-lane end n (i ∷ []) cut states h = by i.body refl (or-first (is_spill i.body) h)
  where
    or-first : (b : Bool) → (b || false) ≡ true → b ≡ true
    or-first true h = refl
    or-first false h = absurd (cc)

    by : (b : Body) → i.body ≡ b → is_spill b ≡ true → 999992 < n + length (unspilt (i ∷ []))
    by (body.Spill len) e is =
        let here : spill_states n (body.Spill len) ≡ true = subst (λ b. spill_states n b ≡ true) e (and_parts (spill_states n i.body) _ states).0 in
        let test : nat_lt 999992 n ≡ true = (and_parts (len == n) _ here).1 in
        let less : 999992 < n = grind (arith, nat_tests) in
        omega (arith, less)
    by b e is = absurd (cc)
long-lane end n (i ∷ j ∷ is) cut states h =
    let parts = and_parts (not (is_spill i.body)) _ cut in
    by (is_spill i.body) refl parts.0 h (λ k. long-lane end (n + 1) (j ∷ is) parts.1 (and_parts (spill_states n i.body) _ states).1 k)
  where
    by : (b : Bool) → is_spill i.body ≡ b → not b ≡ true → (b || spills_in (j ∷ is)) ≡ true → (spills_in (j ∷ is) ≡ true → 999992 < n + 1 + length (unspilt (j ∷ is)))
        → 999992 < n + length (cond (not b) (i ∷ unspilt (j ∷ is)) (unspilt (j ∷ is)))
    by true e first h later = absurd (cc)
    by false e first h later = let more = later h in omega (arith, more)

states-each : (lanes : List (List Rec)) → list_all (λ lane. spills_state 0 (lane_items lane)) lanes ≡ true → AllByRecursion (λ l. spills_state 0 l ≡ true) (map (λ lane. lane_items lane) lanes)
states-each [] h = tt
states-each (l ∷ ls) h = let parts = and_parts _ _ h in (parts.0, states-each ls parts.1)

-- without looks the order is lane 0 alone
bare-order : (cuts : Bool) (sources : List (List Item)) (back : List Item) → no_look (with_stimuli cuts sources back) ≡ true → (m : ℕ) → lane_in (with_stimuli cuts sources back) (1 + m) ≡ []
unfolding with_stimuli
bare-order cuts sources [] h m = refl
bare-order cuts sources (i ∷ is) h m =
    let parts = and_parts (not (is_some (look_of i.body))) _ h in
    by (look_of i.body) parts.0 parts.1 (λ k. bare-order cuts sources is k m)
  where
    by : (o : Option (ℕ × ℕ)) → not (is_some o) ≡ true → no_look (option_map_or (λ (l : ℕ × ℕ). parts_of_look 1 l.0 cuts sources) o [] ++ with_stimuli cuts sources is) ≡ true
        → (no_look (with_stimuli cuts sources is) ≡ true → lane_in (with_stimuli cuts sources is) (1 + m) ≡ [])
        → lane_in (placed 0 i ∷ (option_map_or (λ (l : ℕ × ℕ). parts_of_look 1 l.0 cuts sources) o [] ++ with_stimuli cuts sources is)) (1 + m) ≡ []
    by None none rest later =
        let other : (0 == 1 + m) ≡ false = ne_eqb 0 (1 + m) (λ e. omega (arith, e)) in
        rw other (later rest)
    by (Some l) none rest later = absurd (cc)

-- a `spill` begins no stimulus
has-kept : (n : ℕ) (ls : List (List Item)) → has_stim ls n ≡ has_stim (map (λ lane. unspilt lane) ls) n
has-kept n [] = refl
has-kept n (l ∷ ls) = λ k. own l k || has-kept n ls k
  where
    none : (b : Body) → is_spill b ≡ true → is_stim_at n b ≡ false
    none (body.Stim p m) h = absurd (cc)
    none b h = refl

    own : (is : List Item) → list_any (λ i. is_stim_at n i.body) is ≡ list_any (λ i. is_stim_at n i.body) (unspilt is)
    own [] = refl
    own (i ∷ is) = by (is_spill i.body) refl (own is)
      where
        by : (b : Bool) → is_spill i.body ≡ b → list_any (λ i. is_stim_at n i.body) is ≡ list_any (λ i. is_stim_at n i.body) (unspilt is)
            → (is_stim_at n i.body || list_any (λ i. is_stim_at n i.body) is) ≡ list_any (λ i. is_stim_at n i.body) (cond (not b) (i ∷ unspilt is) (unspilt is))
        by false e h = ap (λ b. is_stim_at n i.body || b) h
        by true e h = rw (none i.body e) h

any-at : {A : Type 0} (p : A → Bool) (front : List A) (x : A) (back : List A) → p x ≡ true → list_any p (front ++ x ∷ back) ≡ true
any-at p [] x back h = rw h refl
any-at p (y ∷ front) x back h = by (p y) (any-at p front x back h)
  where
    by : (b : Bool) → list_any p (front ++ x ∷ back) ≡ true → (b || list_any p (front ++ x ∷ back)) ≡ true
    by true h = refl
    by false h = h

pub any-find : {A : Type 0} (p : A → Bool) (xs : List A) → list_any p xs ≡ true → (front : List A) × (x : A) × (back : List A) × (xs ≡ front ++ x ∷ back) × (p x ≡ true)
any-find p [] h = absurd (cc)
any-find {A} p (x ∷ xs) h = by (p x) refl h (λ k. any-find p xs k)
  where
    by : (b : Bool) → p x ≡ b → (b || list_any p xs) ≡ true → (list_any p xs ≡ true → (front : List A) × (y : A) × (back : List A) × (xs ≡ front ++ y ∷ back) × (p y ≡ true))
        → (front : List A) × (y : A) × (back : List A) × (x ∷ xs ≡ front ++ y ∷ back) × (p y ≡ true)
    by true e h later = ([], x, xs, refl, e)
    by false e h later = let more = later h in (x ∷ more.0, more.1, more.2, ap (λ us. x ∷ us) more.3, more.4)

-- a `spent` shows that the budget is taken
spents-each : (sys : System) (j : Journal) (n : ℕ) (lanes : List (List Rec)) → spents_hold sys j n lanes ≡ true
    → AllByRecursion (λ i. is_spent i.body ≡ true → took_count (all_items j.lanes) i.of ≡ j.budget) (all_items lanes)
unfolding spents_hold all_items
spents-each sys j n [] h = tt
spents-each sys j n (l ∷ ls) h =
    let parts = and_parts _ _ h in
    every-append _ (lane_items l) (all_items ls) (each (lane_items l) (and_parts _ _ parts.0).0) (spents-each sys j (n + 1) ls parts.1)
  where
    right : (i : Item) → spent_right sys j n i ≡ true → is_spent i.body ≡ true → took_count (all_items j.lanes) i.of ≡ j.budget
    right i h spent =
        let one : (not true || ((home_of sys j i.of == n) && (took_count (all_items j.lanes) i.of == j.budget))) ≡ true =
        subst (λ b. (not b || ((home_of sys j i.of == n) && (took_count (all_items j.lanes) i.of == j.budget))) ≡ true) spent h in
        let two : (took_count (all_items j.lanes) i.of == j.budget) ≡ true = (and_parts (home_of sys j i.of == n) (took_count (all_items j.lanes) i.of == j.budget) one).1 in
        grind (arith, nat_tests)

    each : (is : List Item) → list_all (spent_right sys j n) is ≡ true → AllByRecursion (λ i. is_spent i.body ≡ true → took_count (all_items j.lanes) i.of ≡ j.budget) is
    each [] h = tt
    each (i ∷ is) h = let parts = and_parts _ _ h in (λ spent. right i parts.0 spent, each is parts.1)

module _ (sys : System) (stimuli : List (List Stim)) (j : Journal) (law : Lawful sys stimuli j) {kernel : ℕ} (single : HasKernel kernel j) (t : Threaded sys stimuli j) where
  -- the lane of a source by its place
  source-nth : (n : ℕ) (sss : List (List Stim)) (recs : List (List Rec)) → drop n j.lanes ≡ recs → length recs ≡ length sss → SourceLanes sys j n sss
      → (front : List (List Item)) (l : List Item) (back : List (List Item)) → map (λ lane. lane_items lane) recs ≡ front ++ l ∷ back
      → IsSourceLane (facts_of sys j) j.kernel j.end (get_or sss (length front) []) l
  unfolding SourceLanes
  source-nth n [] [] at size lanes [] l back is = absurd (cc)
  source-nth n [] [] at size lanes (f ∷ front) l back is = absurd (cc)
  source-nth n [] (r ∷ recs) at size lanes front l back is = absurd (let no : suc (length recs) ≡ 0 = size in omega (arith, no))
  source-nth n (ss ∷ sss) [] at size lanes front l back is = absurd (let no : 0 ≡ suc (length sss) = size in omega (arith, no))
  source-nth n (ss ∷ sss) (r ∷ recs) at size lanes [] l back is =
      let here : lane_items r ≡ l = cc in
      let own : lane_items (lane_at j n) ≡ l = ap lane_items (drop-at j.lanes n r recs at).0 ∙ here in
      subst (IsSourceLane (facts_of sys j) j.kernel j.end ss) own lanes.0
  source-nth n (ss ∷ sss) (r ∷ recs) at size lanes (f ∷ front) l back is =
      let fewer : suc (length recs) ≡ suc (length sss) = size in
      let rest : map (λ lane. lane_items lane) recs ≡ front ++ l ∷ back = cc in
      source-nth (n + 1) sss recs (drop-at j.lanes n r recs at).1 (omega (arith, fewer)) lanes.1 front l back rest

  pub lane-unspilt : (front : List (List Item)) (l : List Item) (back : List (List Item)) → kept_sources sys j ≡ front ++ l ∷ back → AllByRecursion (λ i. is_spill i.body ≡ false) l
  lane-unspilt front l back is = lane-each (λ l. AllByRecursion (λ i. is_spill i.body ≡ false) l) front l back (kept_sources sys j) is (lanes-none (source_lanes sys j))

  -- where it ended with a `spill` it is long
  pub long-at : (front : List (List Item)) (raw : List Item) (back : List (List Item)) → source_lanes sys j ≡ front ++ raw ∷ back → spills_in raw ≡ true → spill_free < length (unspilt raw)
  unfolding EndHolds
  long-at front raw back is spilt =
      let states : AllByRecursion (λ l. spills_state 0 l ≡ true) (source_lanes sys j) =
      subst (AllByRecursion (λ l. spills_state 0 l ≡ true)) (sym t.sources_are)
      (states-each t.others (and_parts _ _ (subst (λ ls. list_all (λ lane. spills_state 0 (lane_items lane)) ls ≡ true) t.lanes law.end.spills)).1) in
      let long = long-lane j.end 0 raw (lane-each (λ l. spills_cut j.end l ≡ true) front raw back (source_lanes sys j) is t.sources_cut)
      (lane-each (λ l. spills_state 0 l ≡ true) front raw back (source_lanes sys j) is states) spilt in
      omega (arith, long)

  pub long-zero : spills_in (lane_items (lane_at j 0)) ≡ true → spill_free < length (kept_zero j)
  unfolding EndHolds
  long-zero spilt =
      let states : spills_state 0 (lane_items t.first) ≡ true = (and_parts _ _ (subst (λ ls. list_all (λ lane. spills_state 0 (lane_items lane)) ls ≡ true) t.lanes law.end.spills)).0 in
      let long = long-lane j.end 0 (lane_items (lane_at j 0)) t.zero_cut (subst (λ l. spills_state 0 (lane_items l) ≡ true) (sym t.zero_is) states) spilt in
      omega (arith, long)

  its-lane : (front : List (List Item)) (l : List Item) (back : List (List Item)) → source_lanes sys j ≡ front ++ l ∷ back → IsSourceLane (facts_of sys j) j.kernel j.end (get_or stimuli (length front) []) l
  its-lane front l back is =
      let no_port : (j.kernel == port) ≡ false = no-port single in
      let one : lanes_before sys j ≡ 1 = rw no_port refl in
      source-nth 1 stimuli t.others (ap (drop 1) t.lanes) t.size (subst (λ n. SourceLanes sys j n stimuli) one law.sources.lanes) front l back (sym t.sources_are ∙ is)

  pub source-of : (front : List (List Item)) (l : List Item) (back : List (List Item)) → kept_sources sys j ≡ front ++ l ∷ back
      → (list_all (λ i. i.of == 0) l ≡ true) × (end : SourceState) × (stop : SourceEnd)
      × (source_after sys kernel (Some (Between 1 (get_or stimuli (length front) []))) (records_of (facts_of sys j) 0 0 l) ≡ Some end)
      × (source_stops kernel end stop ≡ true) × (stop ≡ InStimulus → (has_spilt sys j ≡ true) × (spill_free < length l))
  unfolding source_records facts_of
  source-of front l back is =
      let at = kept-at (source_lanes sys j) front l back is in
      let lane = its-lane at.0 at.1 at.2 at.3 in
      let runs = lane.stimuli in
      let whole : source_records (facts_of sys j) at.1 ≡ records_of (facts_of sys j) 0 0 l = ap (records_of (facts_of sys j) 0 0) at.4 in
      let goes : SourceRuns sys kernel 1 (get_or stimuli (length front) []) runs.0 (records_of (facts_of sys j) 0 0 l) =
      subst (λ n. SourceRuns sys kernel 1 (get_or stimuli n []) runs.0 (records_of (facts_of sys j) 0 0 l)) at.5
      (subst (λ ts. SourceRuns sys kernel 1 (get_or stimuli (length at.0) []) runs.0 ts) whole (subst (λ k. SourceRuns sys k 1 (get_or stimuli (length at.0) []) runs.0 (source_records (facts_of sys j) at.1)) single.is runs.1)) in
      let stops = runs-flag _ _ (lane-stops call-laws sys kernel 1 (get_or stimuli (length front) []) runs.0 (records_of (facts_of sys j) 0 0 l)) goes in
      let end = by (source_after sys kernel (Some (Between 1 (get_or stimuli (length front) []))) (records_of (facts_of sys j) 0 0 l)) refl runs.0 stops in (
        subst (λ x. list_all (λ i. i.of == 0) x ≡ true) at.4 (all-kept (λ i. i.of == 0) at.1 lane.alone),
        end.0,
        runs.0,
        end.1,
        end.2,
        λ e. let spilt = within runs.0 (spills_in at.1) e runs.2 in (
          or_right (spills_in (lane_items (lane_at j 0))) (list_any spills_in (source_lanes sys j))
              (ap (list_any spills_in) at.3 ∙ any-at spills_in at.0 at.1 at.2 spilt),
          subst (λ x. spill_free < length x) at.4 (long-at at.0 at.1 at.2 at.3 spilt),
        ),
      )
    where
      by : (o : Option SourceState) → source_after sys kernel (Some (Between 1 (get_or stimuli (length front) []))) (records_of (facts_of sys j) 0 0 l) ≡ o → (stop : SourceEnd) → stops_after kernel o stop ≡ true
          → (end : SourceState) × (source_after sys kernel (Some (Between 1 (get_or stimuli (length front) []))) (records_of (facts_of sys j) 0 0 l) ≡ Some end) × (source_stops kernel end stop ≡ true)
      by None e stop h = absurd (cc)
      by (Some end) e stop h = (end, e, h)

      within : (stop : SourceEnd) (spills : Bool) → stop ≡ InStimulus → may_end j.end spills stop ≡ true → spills ≡ true
      within stop spills e may =
          let one : (may_cut j.end && spills) ≡ true = subst (λ s. may_end j.end spills s ≡ true) e may in
          (and_parts (may_cut j.end) spills one).1

  -- a record of lane 0 may come where it stands
  pub slot-at : (front : List Item) (i : Item) (back : List Item) → kept_zero j ≡ front ++ i ∷ back → (k next : Reading) × Slot (in_kernel kernel sys (has_one sys stimuli j law single t)) k next i
  unfolding lane_on
  slot-at front i back is =
      let read = kernel-read sys stimuli j law single t in
      let whole : lane_on (in_kernel kernel sys (has_one sys stimuli j law single t)) (unread sys) (front ++ i ∷ back) ≡ Some read.0 =
      subst (λ l. lane_on (in_kernel kernel sys (has_one sys stimuli j law single t)) (unread sys) l ≡ Some read.0) is read.1 in
      let unspilt = (none-at (λ x. is_spill x.body) front i back (subst (λ l. spills_in l ≡ false) is (unspilt-zero sys stimuli j law single t))).0 in
      by unspilt (lane_on (in_kernel kernel sys (has_one sys stimuli j law single t)) (unread sys) front) read.0 (sym (lane_on-append (in_kernel kernel sys (has_one sys stimuli j law single t)) (unread sys) front (i ∷ back)) ∙ whole)
    where
      by : is_spill i.body ≡ false → (o : Option Reading) (last : Reading) → option_and_then (λ m. lane_on (in_kernel kernel sys (has_one sys stimuli j law single t)) m (i ∷ back)) o ≡ Some last
          → (k next : Reading) × Slot (in_kernel kernel sys (has_one sys stimuli j law single t)) k next i
      by unspilt None last h = absurd (cc)
      by unspilt (Some k) last h = on (lane_next (in_kernel kernel sys (has_one sys stimuli j law single t)) k i) refl h
        where
          on : (r : Option Reading) → lane_next (in_kernel kernel sys (has_one sys stimuli j law single t)) k i ≡ r → option_and_then (λ m. lane_on (in_kernel kernel sys (has_one sys stimuli j law single t)) m back) r ≡ Some last
              → (k next : Reading) × Slot (in_kernel kernel sys (has_one sys stimuli j law single t)) k next i
          on None e h = absurd (cc)
          on (Some next) e h = (k, next, slot-of (in_kernel kernel sys (has_one sys stimuli j law single t)) single.one k next i unspilt e)

  pub at-place : (front : List Item) (i : Item) (back : List Item) → kept_zero j ≡ front ++ i ∷ back → (n floor : ℕ) → i.body ≡ body.Look n floor → i ≡ look_item n floor
  at-place front i back is n floor look =
      let at = slot-at front i back is in look-whole (in_kernel kernel sys (has_one sys stimuli j law single t)) at.0 at.1 i n floor at.2 look

  -- each stimulus stands in a look
  pub placed-of : (before : List (List Item)) (l : List Item) (behind : List (List Item)) → kept_sources sys j ≡ before ++ l ∷ behind → (xs : List Item) (i : Item) (ys : List Item) → l ≡ xs ++ i ∷ ys
      → (p n : ℕ) → i.body ≡ body.Stim p n → (front : List Item) × (floor : ℕ) × (back : List Item) × (kept_zero j ≡ front ++ look_item n floor ∷ back)
  unfolding stims_placed one_thread
  placed-of before l behind is xs i ys split p n stim =
      let all = t.ordered.placed in
      let at = kept-at (source_lanes sys j) before l behind is in
      let raw = list_all-at (λ lane. list_all (λ i. option_map_or (λ s. has (look_numbers (lane_items (lane_at j 0))) s.1) (stim_of i.body) true) lane) at.0 at.1 at.2 (subst (λ ls. list_all (λ lane. list_all (λ i. option_map_or (λ s. has (look_numbers (lane_items (lane_at j 0))) s.1) (stim_of i.body) true) lane) ls ≡ true) at.3 all) in
      let lane = subst (λ us. list_all (λ i. option_map_or (λ s. has (look_numbers (lane_items (lane_at j 0))) s.1) (stim_of i.body) true) us ≡ true) at.4
      (all-kept (λ i. option_map_or (λ s. has (look_numbers (lane_items (lane_at j 0))) s.1) (stim_of i.body) true) at.1 raw) in
      let one = list_all-at (λ i. option_map_or (λ s. has (look_numbers (lane_items (lane_at j 0))) s.1) (stim_of i.body) true) xs i ys (subst (λ us. list_all (λ i. option_map_or (λ s. has (look_numbers (lane_items (lane_at j 0))) s.1) (stim_of i.body) true) us ≡ true) split lane) in
      let two : has (look_numbers (lane_items (lane_at j 0))) n ≡ true =
      subst (λ d. option_map_or (λ s. has (look_numbers (lane_items (lane_at j 0))) s.1) (stim_of d) true ≡ true) stim one in
      let found = look-found (kept_zero j) n (ap (λ us. has us n) (numbers-kept (lane_items (lane_at j 0))) ∙ two) in
      let whole = at-place found.0 found.1 found.3 found.4 n found.2 (look-body found.1.body (n, found.2) found.5) in
      (found.0, found.2, found.3, found.4 ∙ ap (λ x. found.0 ++ x ∷ found.3) whole)

  -- the lanes of sources are of no object
  raw-own : (front : List (List Item)) (l : List Item) (back : List (List Item)) → source_lanes sys j ≡ front ++ l ∷ back → AllByRecursion (λ i. (i.of == 0) ≡ true) l
  raw-own front l back is = all-of (λ i. i.of == 0) l (its-lane front l back is).alone

  untaken : (p : ℕ) → (p ≡ 0 → ⊥) → (is : List Item) → AllByRecursion (λ i. (i.of == 0) ≡ true) is → AllByRecursion (λ i. takes_of p i ≡ false) is
  untaken p some [] h = tt
  untaken p some (i ∷ is) h = (by i.body (let e : i.of ≡ 0 = let test : (i.of == 0) ≡ true = h.0 in grind (arith, nat_tests) in e), untaken p some is h.1)
    where
      by : (b : Body) → i.of ≡ 0 → takes_of p (record { of = i.of; body = b }) ≡ false
      by (body.Took f l m e) of = rw of (ne_eqb 0 p (λ z. some (sym z)))
      by b of = refl

  sources-untaken : (p : ℕ) → (p ≡ 0 → ⊥) → AllByRecursion (λ l. AllByRecursion (λ i. takes_of p i ≡ false) l) (source_lanes sys j)
  sources-untaken p some = each-by (λ l. AllByRecursion (λ i. takes_of p i ≡ false) l) (source_lanes sys j) (λ front l back is. untaken p some l (raw-own front l back is))

  -- how many entries an object has taken
  pub count-order : (p : ℕ) → (p ≡ 0 → ⊥) → count_by (takes_of p) (items_placed (unspilt_order sys j)) ≡ count_by (takes_of p) (all_items j.lanes)
  unfolding unspilt_order
  count-order p some =
      let each = sources-untaken p some in
      let others : count_by (takes_of p) (all_items t.others) ≡ 0 = count-none (takes_of p) (all_items t.others) (joined-each (λ i. takes_of p i ≡ false) t.others (subst (AllByRecursion (λ l. AllByRecursion (λ i. takes_of p i ≡ false) l)) t.sources_are each)) in
      let whole : count_by (takes_of p) (all_items j.lanes) ≡ count_by (takes_of p) (lane_items t.first) + count_by (takes_of p) (all_items t.others) =
      ap (count_by (takes_of p)) (all-split sys stimuli j t) ∙ count-append (takes_of p) (lane_items t.first) (all_items t.others) in
      let zero_is : count_by (takes_of p) (lane_items (lane_at j 0)) ≡ count_by (takes_of p) (lane_items t.first) = ap (count_by (takes_of p)) (lane0-is sys stimuli j t) in
      let merged : count_by (takes_of p) (items_placed (with_stimuli true (kept_sources sys j) (kept_zero j))) ≡ count_by (takes_of p) (kept_zero j) =
      count-merged (takes_of p) true (kept_sources sys j) (kept_zero j) (lanes-kept (λ i. takes_of p i ≡ false) (source_lanes sys j) each) in
      let bare : count_by (takes_of p) (kept_zero j) ≡ count_by (takes_of p) (lane_items (lane_at j 0)) = count-kept p (lane_items (lane_at j 0)) in
      omega (arith, others, whole, zero_is, merged, bare)

  -- a look has the stimulus that acts in it, or none
  pub turn-of : (xs : List Placed) (n floor : ℕ) (ys : List Placed) → unspilt_order sys j ≡ xs ++ placed 0 (look_item n floor) ∷ ys
      → (is_turn (acts_next sys stimuli xs (floor == 0)) (turns_at 1 n (kept_sources sys j)) ≡ true) ⊎ (turns_at 1 n (kept_sources sys j) ≡ [])
  turn-of xs n floor ys is = by (turn-at sys stimuli j t xs n floor ys is)
    where
      by : (is_turn (acts_next sys stimuli xs (floor == 0)) (turns_at 1 n (kept_sources sys j)) ≡ true)
          ⊎ ((has_spilt sys j ≡ true) × (no_look ys ≡ true) × (turns_at 1 n (kept_sources sys j) ≡ []))
          → (is_turn (acts_next sys stimuli xs (floor == 0)) (turns_at 1 n (kept_sources sys j)) ≡ true) ⊎ (turns_at 1 n (kept_sources sys j) ≡ [])
      by (inl right) = inl right
      by (inr (spilt, last, none)) = inr none

  pub has-of : (n : ℕ) → has_one sys stimuli j law single t n ≡ has_stim (kept_sources sys j) n
  unfolding setting_of
  has-of n = has-kept n (source_lanes sys j)

  -- the lanes in the order
  lined-of : Lined sys stimuli
  unfolding unspilt_order
  lined-of = record {
    kernel = kernel;
    w = facts_of sys j;
    has = has_one sys stimuli j law single t;
    lane0 = kept_zero j;
    sources = kept_sources sys j;
    cuts = true;
    unspilt_sources = λ front l back is. each-unspilt l (lane-unspilt front l back is);
    turn = turn-of;
    has_is = has-of;
    source = λ front l back is. let s = source-of front l back is in (s.0, s.1, s.2, s.3);
    placed_so = placed-of;
  }

  -- each source's lane stands in the order, all of it
  pub lane-stood : (before : List (List Item)) (l : List Item) (behind : List (List Item)) → kept_sources sys j ≡ before ++ l ∷ behind → l ≡ lane_in (unspilt_order sys j) (1 + length before)
  unfolding unspilt_order lined-of
  lane-stood before l behind is = lane-stands sys stimuli lined-of (λ xs i ys is n floor look. at-place xs i ys is n floor look) before l behind is

  -- a look may lack its stimulus only where lane 0 ended with a `spill`, or a source's lane did, which then stands before the look
  pub late-of : (xs : List Placed) (n floor : ℕ) (back : List Item) → unspilt_order sys j ≡ xs ++ placed 0 (look_item n floor) ∷ with_stimuli true (kept_sources sys j) back
      → is_turn (acts_next sys stimuli xs (floor == 0)) (turns_at 1 n (kept_sources sys j)) ≡ false
      → (has_spilt sys j ≡ true) × ((spills_in (lane_items (lane_at j 0)) ≡ true) ⊎ LongFront (length (kept_sources sys j)) xs)
  late-of xs n floor back is lacks = by (turn-at sys stimuli j t xs n floor (with_stimuli true (kept_sources sys j) back) is)
    where
      at-source : no_look (with_stimuli true (kept_sources sys j) back) ≡ true → list_any spills_in (source_lanes sys j) ≡ true → LongFront (length (kept_sources sys j)) xs
      at-source last some =
          let lane = any-find spills_in (source_lanes sys j) some in
          let long = long-at lane.0 lane.1 lane.2 lane.3 lane.4 in
          let are : kept_sources sys j ≡ map (λ lane. unspilt lane) lane.0 ++ unspilt lane.1 ∷ map (λ lane. unspilt lane) lane.2 =
          ap (map (λ lane. unspilt lane)) lane.3 ∙ map-append (λ lane. unspilt lane) lane.0 (lane.1 ∷ lane.2) in
          let m = length (map (λ lane. unspilt lane) lane.0) in
          let stands = lane-stood (map (λ lane. unspilt lane) lane.0) (unspilt lane.1) (map (λ lane. unspilt lane) lane.2) are in
          let zero_other : (0 == 1 + m) ≡ false = ne_eqb 0 (1 + m) (λ e. omega (arith, e)) in
          let none : lane_in (placed 0 (look_item n floor) ∷ with_stimuli true (kept_sources sys j) back) (1 + m) ≡ [] = rw zero_other (bare-order true (kept_sources sys j) back last m) in
          let split : lane_in (unspilt_order sys j) (1 + m) ≡ lane_in xs (1 + m) =
          ap (λ zs. lane_in zs (1 + m)) is ∙ lane_in-append xs (placed 0 (look_item n floor) ∷ with_stimuli true (kept_sources sys j) back) (1 + m)
          ∙ ap (λ zs. lane_in xs (1 + m) ++ zs) none ∙ append-nil (lane_in xs (1 + m)) in
          let size = ap length are ∙ length-append (map (λ lane. unspilt lane) lane.0) (unspilt lane.1 ∷ map (λ lane. unspilt lane) lane.2) in
          (m, omega (arith, size), subst (λ l. spill_free < length l) (stands ∙ split) long)

      by : (is_turn (acts_next sys stimuli xs (floor == 0)) (turns_at 1 n (kept_sources sys j)) ≡ true)
          ⊎ ((has_spilt sys j ≡ true) × (no_look (with_stimuli true (kept_sources sys j) back) ≡ true) × (turns_at 1 n (kept_sources sys j) ≡ []))
          → (has_spilt sys j ≡ true) × ((spills_in (lane_items (lane_at j 0)) ≡ true) ⊎ LongFront (length (kept_sources sys j)) xs)
      by (inl right) = absurd (let no : true ≡ false = sym right ∙ lacks in cc)
      by (inr (spilt, last, none)) = (spilt, on (spills_in (lane_items (lane_at j 0))) refl spilt)
        where
          on : (b : Bool) → spills_in (lane_items (lane_at j 0)) ≡ b → (b || list_any spills_in (source_lanes sys j)) ≡ true → (spills_in (lane_items (lane_at j 0)) ≡ true) ⊎ LongFront (length (kept_sources sys j)) xs
          on true e h = inl e
          on false e h = inr (at-source last h)

  module _ (xs : List Placed) (p : ℕ) (b : Body) (ys : List Placed) (is : unspilt_order sys j ≡ xs ++ placed 0 (record { of = p; body = b }) ∷ ys) (some : p ≡ 0 → ⊥) where
    counted-here : count_by (λ (z : Placed). takes_of p z.item) xs + (cond (takes_of p (record { of = p; body = b })) 1 0 + count_by (λ (z : Placed). takes_of p z.item) ys) ≡ took_count (all_items j.lanes) p
    unfolding took_count
    counted-here =
        let whole = ap (count_by (λ (z : Placed). takes_of p z.item)) is ∙ count-append (λ (z : Placed). takes_of p z.item) xs (placed 0 (record { of = p; body = b }) ∷ ys) in
        let cons = sum_by-cons (λ (z : Placed). cond (takes_of p z.item) 1 0) (placed 0 (record { of = p; body = b })) ys in
        let items : count_by (λ (z : Placed). takes_of p z.item) (unspilt_order sys j) ≡ count_by (takes_of p) (items_placed (unspilt_order sys j)) = count-items (takes_of p) (unspilt_order sys j) in
        sym (whole ∙ ap (λ n. count_by (λ (z : Placed). takes_of p z.item) xs + n) cons) ∙ items ∙ count-order p some

  pub within-of : (xs : List Placed) (p f l m : ℕ) (e : Entry) (ys : List Placed) → unspilt_order sys j ≡ xs ++ placed 0 (record { of = p; body = body.Took f l m e }) ∷ ys
      → (p ≡ 0 → ⊥) → (object_at sys p ≡ None → ⊥) → count_by (λ (z : Placed). takes_of p z.item) xs < j.budget
  unfolding object_at EndHolds
  within-of xs p f l m e ys is some there = by (object_at sys p) refl
    where
      by : (o : Option ObjectDef) → object_at sys p ≡ o → count_by (λ (z : Placed). takes_of p z.item) xs < j.budget
      by None none = absurd (there none)
      by (Some d) found =
          let at = found-in (λ x. x.priority == p) sys.objects d found (λ d. nat_le (took_count (all_items j.lanes) d.priority) j.budget ≡ true)
          (each-object (λ d. nat_le (took_count (all_items j.lanes) d.priority) j.budget) sys.objects law.end.budgets) in
          let own : d.priority ≡ p = let test : (d.priority == p) ≡ true = at.1 in grind (arith, nat_tests) in
          let most : took_count (all_items j.lanes) p ≤ j.budget = let test : nat_le (took_count (all_items j.lanes) p) j.budget ≡ true = subst (λ o. nat_le (took_count (all_items j.lanes) o) j.budget ≡ true) own at.0 in grind (arith, nat_tests) in
          let self : (p == p) ≡ true = grind (arith, nat_tests) in
          let one : count_by (λ (z : Placed). takes_of p z.item) xs + (1 + count_by (λ (z : Placed). takes_of p z.item) ys) ≡ took_count (all_items j.lanes) p =
          subst (λ c. count_by (λ (z : Placed). takes_of p z.item) xs + (cond c 1 0 + count_by (λ (z : Placed). takes_of p z.item) ys) ≡ took_count (all_items j.lanes) p) self
          (counted-here xs p (body.Took f l m e) ys is some) in
          omega (arith, most, one)

  pub spent-of : (xs : List Placed) (p : ℕ) (ys : List Placed) → unspilt_order sys j ≡ xs ++ placed 0 (record { of = p; body = body.Spent }) ∷ ys → (p ≡ 0 → ⊥) → count_by (λ (z : Placed). takes_of p z.item) xs ≡ j.budget
  unfolding EndHolds
  spent-of xs p ys is some =
      let each = inside sys stimuli j t (λ i. is_spent i.body ≡ true → took_count (all_items j.lanes) i.of ≡ j.budget) (spents-each sys j 0 j.lanes law.end.spents) in
      let split : items_placed (unspilt_order sys j) ≡ items_placed xs ++ record { of = p; body = body.Spent } ∷ items_placed ys = ap items_placed is ∙ map-append (λ (z : Placed). z.item) xs _ in
      let took : took_count (all_items j.lanes) p ≡ j.budget = (every-parts (λ i. is_spent i.body ≡ true → took_count (all_items j.lanes) i.of ≡ j.budget) (items_placed xs) _ (subst (AllByRecursion (λ i. is_spent i.body ≡ true → took_count (all_items j.lanes) i.of ≡ j.budget)) split each)).1.0 refl in
      let here = counted-here xs p body.Spent ys is some in
      let none : count_by (λ (z : Placed). takes_of p z.item) ys ≡ 0 = by ys is in
      omega (arith, took, here, none)
    where
      by : (us : List Placed) → unspilt_order sys j ≡ xs ++ placed 0 (record { of = p; body = body.Spent }) ∷ us → count_by (λ (z : Placed). takes_of p z.item) us ≡ 0
      by [] e = refl
      by (u ∷ us) e =
          let last = ends-run sys stimuli j t (xs ++ placed 0 (record { of = p; body = body.Spent }) ∷ []) u us (e ∙ sym (append_assoc xs (placed 0 (record { of = p; body = body.Spent }) ∷ []) (u ∷ us))) in
          let no : true ≡ false = sym refl ∙ (none-at (λ (z : Placed). is_end z.item.body) xs (placed 0 (record { of = p; body = body.Spent })) [] last).0 in
          absurd (cc)
