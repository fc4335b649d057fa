-- What is known of a lawful, tidy journal of a run with one thread.
use Rattle.std.proofs.Common.{◌≡◌, ◌∙◌, ℕ, ◌+◌, ◌==◌, Bool, true, false, not, ◌||◌, cond, List, [], ◌∷◌, ◌++◌, length, Some, None, refl, sym, ap, subst, inl, inr, ◌⊎◌, arith, append-nil}
use Rattle.std.proofs.lemmas.Bool.{and_parts, ne_eqb, not-true}
use Rattle.std.proofs.lemmas.Bool.Decides.{nat_tests}
use Rattle.std.proofs.lemmas.List.{append_assoc, map-append}
use Rattle.std.proofs.lemmas.List.Elements.{filter-append}
use Rattle.std.specs.declared.option.Option.{Option}
use Rattle.std.specs.Option.{option_and_then}
use Rattle.std.specs.List.{filter, list_all, list_any, AllByRecursion}
use Rattle.qp_chart.specs.declared.checked.Chart.{Chart}
use Rattle.qp_model.specs.declared.stimulus.Stim.{Stim}
use Rattle.qp_model.specs.declared.words.Word.{Word}
use Rattle.qp_model.specs.declared.words.Word.TheVariants as word
use Rattle.qp_model.specs.declared.systems.System.{System}
use Rattle.qp_model.specs.declared.systems.ObjectDef.{ObjectDef}
use Rattle.qp_model.specs.declared.journals.Journal.{Journal}
use Rattle.qp_model.specs.declared.bodies.Entry.{Entry}
use Rattle.qp_model.specs.declared.bodies.Body.{Body}
use Rattle.qp_model.specs.declared.bodies.Body.TheVariants as body
use Rattle.qp_model.specs.Record.{Item}
use Rattle.qp_model.specs.Told.{Event}
use Rattle.qp_model.specs.Knowing.{Facts, told, records_of, event_of_entry, ceiling_after}
use Rattle.qp_model.specs.Ends.{is_nil, is_spill, is_assert, is_end, is_turn_mark, spills_in, spills_cut, ends_last, may_cut}
use Rattle.qp_model.specs.History.{all_items, lane_items, hist, is_numbered, drawn_on, touch, touch_of}
use Rattle.qp_model.specs.Machine.{Machine, after, after_from, is_allowed, allowed_from}
use Rattle.qp_model.specs.Line.{line}
use Rattle.qp_model.proofs.MachineLemmas.{is_allowed-append}
use Rattle.qp_model.specs.Home.{lane_at, home_of, own_items, home_records}
use Rattle.qp_model.specs.Kernels.{port}
use Rattle.qp_model.specs.Places.{in_order}
use Rattle.qp_model.specs.Sites.{object_at, ring_of}
use Rattle.qp_model.specs.Course.{Cut, Whole, Stopped, Anywhere, FollowsTo, actor, first_config}
use Rattle.qp_model.specs.Pieces.{ends_at_point}
use Rattle.qp_model.specs.ObjectShape.{CutGroups}
use Rattle.qp_model.specs.KernelLane.{Setting, Halted, Reading, lane_read, lane_on, lane_next, role_next, role_of, unread, is_whole_reading}
use Rattle.qp_model.proofs.KernelRowLemmas.{lane_on-append, lane_on-then, pieces_in-then, no-row}
use Rattle.qp_model.specs.Points.{lane_pieces, pieces_at, pieces_in}
use Rattle.qp_model.specs.OneOrder.{Placed, items_placed}
use Rattle.qp_model.specs.Lawful.{Lawful, ObjectHolds, EndHolds, facts_of, setting_of, cut_of, spill_cuts, reading_holds}
use Rattle.qp_model.specs.WordLaw.{is_object}
use Rattle.qp_model.proofs.LineLemmas.{line_is}
use Rattle.qp_model.proofs.ListLemmas.{every-parts}
use Rattle.qp_check_course.specs.Machine.{State, state_after, start_state, is_course_end as is_end_of_course, expects_point}
use Rattle.qp_check_course.specs.Decided.{reads_to, may_be_cut as list_may_end, ends_well}
use Rattle.qp_check_course.specs.Followable.{IsFollowable}
use Rattle.qp_check_course.proofs.FollowLemmas.{pieces-decided}
use Rattle.qp_unique.specs.Held.{IsCounted, MayComeNext}
use Rattle.qp_unique.specs.Fronts.{held_after, draws_of_word, is_word_of, names_its}
use Rattle.qp_unique.specs.Tidy.{unspilt_order, unspilt, IsTidy}
use Rattle.qp_unique.proofs.FrontLemmas.{from-behind, may-next}
use Rattle.qp_unique.proofs.ComesLemmas.{comes-front, known-front}
use Rattle.qp_unique.proofs.StackLemmas.{found-in}
use Rattle.qp_unique.proofs.NilLemmas.{Nilless, cut-nilless}
use Rattle.qp_unique.proofs.JournalLemmas.{Threaded, kept_zero, inside, in-order, each-unspilt, cut-shape, kept-front, kept-none}
use Rattle.qp_unique.proofs.Sides.{EndsOwn, MayEnd, HasKernel, in_kernel, no-port, held_to}
use Rattle.qp_check_ends.proofs.LaneLemmas.{runs-flag}

pub all-of : (p : Item → Bool) (xs : List Item) → list_all p xs ≡ true → AllByRecursion (λ i. p i ≡ true) xs
all-of p [] h = tt
all-of p (x ∷ xs) h = let parts = and_parts _ _ h in (parts.0, all-of p xs parts.1)

-- a record that finds the queue empty is told
nil-among : (w : Facts) (o f l m : ℕ) (i : Item) (ys : List Item) → i.of ≡ o → i.body ≡ body.Nil f l m → (c : ℕ) (xs : List Item) → Nilless (records_of w o c (xs ++ i ∷ ys)) → ⊥
unfolding records_of told
nil-among w o f l m i ys of nil c [] h =
    let own : (i.of == o) ≡ true = grind (arith, nat_tests) in
    let one = subst (λ b. Nilless (cond b (told w o c i.body ∷ records_of w o (ceiling_after c i.body) ys) (records_of w o (ceiling_after c i.body) ys))) own h in
    let parts = and_parts _ _ one in
    let no : not true ≡ true = subst (λ d. not (is_nil d) ≡ true) nil parts.0 in
    cc
nil-among w o f l m i ys of nil c (x ∷ xs) h = by (x.of == o) h (λ k. nil-among w o f l m i ys of nil (ceiling_after c x.body) xs k)
  where
    by : (b : Bool) → Nilless (cond b (told w o c x.body ∷ records_of w o (ceiling_after c x.body) (xs ++ i ∷ ys)) (records_of w o (ceiling_after c x.body) (xs ++ i ∷ ys)))
        → (Nilless (records_of w o (ceiling_after c x.body) (xs ++ i ∷ ys)) → ⊥) → ⊥
    by true h later = later (and_parts _ _ h).1
    by false h later = later h

none : (w : Word) {S : Type 0} (m : Machine S) → is_allowed m (draws_of_word w []) ≡ true
unfolding is_allowed allowed_from draws_of_word
none w m = refl

log-snoc : (w : Word) (zs : List Item) (i : Item) → draws_of_word w (zs ++ i ∷ []) ≡ draws_of_word w zs ++ cond (drawn_on w (touch i)) (i ∷ []) []
unfolding draws_of_word
log-snoc w zs i = filter-append (λ j. drawn_on w (touch j)) zs (i ∷ [])

-- what was drawn before a place was allowed
allowed-front : (all order : List Item) (inside : (P : Item → Type 0) → AllByRecursion P all → AllByRecursion P order) (ordered : in_order [] order ≡ true) (w : Word) (numbers : is_numbered w all ≡ true)
    {S : Type 0} (m : Machine S) (allowed : is_allowed m (hist w all) ≡ true) (xs ys : List Item) → order ≡ xs ++ ys → is_allowed m (draws_of_word w xs) ≡ true
allowed-front all order inside ordered w numbers m allowed xs ys is =
    from-behind (λ zs. (us : List Item) → order ≡ zs ++ us → is_allowed m (draws_of_word w zs) ≡ true) (λ us e. none w m) (λ zs i before us e. more zs i before us e) xs ys is
  where
    more : (zs : List Item) (i : Item) → ((us : List Item) → order ≡ zs ++ us → is_allowed m (draws_of_word w zs) ≡ true) → (us : List Item) → order ≡ (zs ++ i ∷ []) ++ us → is_allowed m (draws_of_word w (zs ++ i ∷ [])) ≡ true
    more zs i before us e =
        let at : order ≡ zs ++ i ∷ us = e ∙ append_assoc zs (i ∷ []) us in
        by (drawn_on w (touch i)) refl (before (i ∷ us) at) (λ h. may-next all order inside ordered w numbers m allowed zs i us at h)
      where
        by : (b : Bool) → drawn_on w (touch i) ≡ b → is_allowed m (draws_of_word w zs) ≡ true → (drawn_on w (touch i) ≡ true → m.may (after m (draws_of_word w zs)) i ≡ true) → is_allowed m (draws_of_word w (zs ++ i ∷ [])) ≡ true
        by true h old may = subst (λ us. is_allowed m us ≡ true) (sym (log-snoc w zs i ∙ ap (λ c. draws_of_word w zs ++ cond c (i ∷ []) []) h)) (is_allowed-append m (draws_of_word w zs) i old (may h))
        by false h old may = subst (λ us. is_allowed m us ≡ true) (sym (log-snoc w zs i ∙ ap (λ c. draws_of_word w zs ++ cond c (i ∷ []) []) h ∙ append-nil (draws_of_word w zs))) old

-- a queue that the system doesn't have
queue-named : (sys : System) (a o : ℕ) (b : Body) → names_its sys o b ≡ true → drawn_on (word.Queue a) (touch_of o b) ≡ true → is_object sys a ≡ true
unfolding names_its is_word_of
queue-named sys a o (body.Took f l m e) named drawn = let same : o ≡ a = let test : (o == a) ≡ true = drawn in grind (arith, nat_tests) in subst (λ x. is_object sys x ≡ true) same named
queue-named sys a o (body.Lifo f l m e) named drawn = let same : o ≡ a = let test : (o == a) ≡ true = drawn in grind (arith, nat_tests) in subst (λ x. is_object sys x ≡ true) same named
queue-named sys a o (body.Post c f l m e) named drawn = let same : c ≡ a = let test : (c == a) ≡ true = drawn in grind (arith, nat_tests) in subst (λ x. is_object sys x ≡ true) same named
queue-named sys a o b named drawn = absurd (cc)

queue-none : (sys : System) (a : ℕ) → is_object sys a ≡ false → (xs : List Item) → AllByRecursion (λ i. names_its sys i.of i.body ≡ true) xs → draws_of_word (word.Queue a) xs ≡ []
unfolding draws_of_word
queue-none sys a out [] h = refl
queue-none sys a out (i ∷ is) h = by (drawn_on (word.Queue a) (touch i)) refl (queue-none sys a out is h.1)
  where
    by : (b : Bool) → drawn_on (word.Queue a) (touch i) ≡ b → filter (λ j. drawn_on (word.Queue a) (touch j)) is ≡ [] → cond b (i ∷ filter (λ j. drawn_on (word.Queue a) (touch j)) is) (filter (λ j. drawn_on (word.Queue a) (touch j)) is) ≡ []
    by true e later = let no : true ≡ false = sym (queue-named sys a i.of i.body h.0 e) ∙ out in absurd (cc)
    by false e later = later

empty : (ring : ℕ) → length (after (line ring) []).entries + (after (line ring) []).m ≡ (after (line ring) []).f + (after (line ring) []).l
unfolding after after_from
empty ring = refl

-- a `spill` that lane 0 reads is of no object
spill-none : (w : Facts) (s : Setting) (p : ℕ) → (p ≡ 0 → ⊥) → (k : Reading) (i : Item) → is_spill i.body ≡ true → (last : Reading) → lane_on s k (i ∷ []) ≡ Some last → pieces_at w p k i ≡ []
unfolding pieces_at lane_on lane_next role_next role_of
spill-none w s p some k i is_one last read = by i.body is_one read
  where
    by : (b : Body) → is_spill b ≡ true → option_and_then (λ n. lane_on s n []) (lane_next s k (record { of = i.of; body = b })) ≡ Some last → pieces_at w p k (record { of = i.of; body = b }) ≡ []
    by (body.Spill n) h read = on (i.of == 0) refl read
      where
        on : (c : Bool) → (i.of == 0) ≡ c → option_and_then (λ n. lane_on s n []) (cond c (Some (record k { unstarted = []; place = Halted })) None) ≡ Some last
            → pieces_at w p k (record { of = i.of; body = body.Spill n }) ≡ []
        on true e read =
            let zero_is : i.of ≡ 0 = grind (arith, nat_tests) in
            let other : (i.of == p) ≡ false = rw zero_is (ne_eqb 0 p (λ e. some (sym e))) in
            rw (other, no-row p k.place k.running) refl
        on false e read = absurd (cc)
    by b h read = absurd (cc)

-- where a `spill` cuts an object its record stands right before it
spill-behind : (end o : ℕ) (is : List Item) → spills_cut end is ≡ true → ends_last is ≡ true → spill_cuts o is ≡ true → (us : List Item) × (i : Item) × (unspilt is ≡ us ++ i ∷ []) × (i.of ≡ o) × (is_end i.body ≡ false)
unfolding spills_cut ends_last
spill-behind end o [] cut last h = absurd (cc)
spill-behind end o (i ∷ []) cut last h = absurd (cc)
spill-behind end o (i ∷ j ∷ []) cut last h =
    let parts = and_parts (is_spill j.body) _ h in
    let own : i.of ≡ o = let test : (i.of == o) ≡ true = parts.1 in grind (arith, nat_tests) in
    let first : is_spill i.body ≡ false = not-true (is_spill i.body) (and_parts (not (is_spill i.body)) _ cut).0 in
    ([], i, rw (first, parts.0) refl, own, not-true (is_end i.body) (and_parts (not (is_end i.body)) _ last).0)
spill-behind end o (i ∷ j ∷ k ∷ is) cut last h =
    let first : is_spill i.body ≡ false = not-true (is_spill i.body) (and_parts (not (is_spill i.body)) _ cut).0 in
    let more = spill-behind end o (j ∷ k ∷ is) (and_parts (not (is_spill i.body)) _ cut).1 (and_parts (not (is_end i.body)) _ last).1 h in
    (i ∷ more.0, more.1, by (is_spill i.body) first more.2, more.3, more.4)
  where
    by : {us : List Item} (b : Bool) → b ≡ false → unspilt (j ∷ k ∷ is) ≡ us → cond (not b) (i ∷ unspilt (j ∷ k ∷ is)) (unspilt (j ∷ k ∷ is)) ≡ i ∷ us
    by true no_one split = absurd (cc)
    by false none split = ap (λ us. i ∷ us) split

turn-mark : (b : Body) → (is_turn_mark b ≡ false) ⊎ ((f l m : ℕ) × (b ≡ body.Nil f l m)) ⊎ (b ≡ body.Spent)
turn-mark (body.Nil f l m) = inr (inl (f, l, m, refl))
turn-mark body.Spent = inr (inr refl)
turn-mark b = inl refl

raw-ends : (sys : System) (stimuli : List (List Stim)) (j : Journal) → Lawful sys stimuli j → Threaded sys stimuli j → ends_last (lane_items (lane_at j 0)) ≡ true
unfolding EndHolds
raw-ends sys stimuli j law t =
    let all = subst (λ ls. list_all (λ lane. ends_last (lane_items lane)) ls ≡ true) t.lanes law.end.last in
    ap (λ lane. ends_last (lane_items lane)) t.zero_is ∙ (and_parts (ends_last (lane_items t.first)) _ all).0

module _ (sys : System) (stimuli : List (List Stim)) (j : Journal) (law : Lawful sys stimuli j) {kernel : ℕ} (single : HasKernel kernel j) (t : Threaded sys stimuli j) where
  abbrev pub has_one : ℕ → Bool
  has_one = (setting_of sys j).has_stimulus

  setting-is : setting_of sys j ≡ in_kernel kernel sys has_one
  unfolding setting_of
  setting-is = ap (λ k. record { sys = sys; kernel = k; has_stimulus = (setting_of sys j).has_stimulus }) single.is

  abbrev pub raw_lane : List Item
  raw_lane = lane_items (lane_at j 0)

  abbrev pub zero_lane : List Item
  zero_lane = kept_zero j

  -- lane 0 has been read
  pub raw-read : (last : Reading) × (lane_on (in_kernel kernel sys has_one) (unread sys) raw_lane ≡ Some last) × ((may_cut j.end ≡ true) ⊎ (is_whole_reading kernel last ≡ true))
  unfolding lane_read
  raw-read = by _ (lane_read (setting_of sys j) raw_lane) (ap (λ s. lane_on s (unread s.sys) raw_lane) setting-is) t.kernel.lane
    where
      by : (settles : ℕ) (o : Option Reading) → o ≡ lane_on (in_kernel kernel sys has_one) (unread sys) raw_lane → reading_holds j raw_lane settles o ≡ true
          → (last : Reading) × (lane_on (in_kernel kernel sys has_one) (unread sys) raw_lane ≡ Some last) × ((may_cut j.end ≡ true) ⊎ (is_whole_reading kernel last ≡ true))
      by settles None e h = absurd (cc)
      by settles (Some k) e h = (k, sym e, on (may_cut j.end) refl (and_parts _ _ h).1)
        where
          on : (b : Bool) → may_cut j.end ≡ b → cond b ((length k.unstarted == 0) || list_any (λ i. is_assert i.body) raw_lane) (is_whole_reading j.kernel k) ≡ true → (may_cut j.end ≡ true) ⊎ (is_whole_reading kernel k ≡ true)
          on true e h = inl e
          on false e h = inr (subst (λ n. is_whole_reading n k ≡ true) single.is h)

  -- and so it has without its `spill`
  pub kernel-read : (last : Reading) × (lane_on (in_kernel kernel sys has_one) (unread sys) zero_lane ≡ Some last)
  kernel-read =
      let front = kept-front j.end raw_lane t.zero_cut in
      by front.0 (lane_on (in_kernel kernel sys has_one) (unread sys) zero_lane) refl
      (sym (lane_on-append (in_kernel kernel sys has_one) (unread sys) zero_lane front.0) ∙ ap (lane_on (in_kernel kernel sys has_one) (unread sys)) (sym front.1) ∙ raw-read.1)
    where
      by : (rest : List Item) (o : Option Reading) → lane_on (in_kernel kernel sys has_one) (unread sys) zero_lane ≡ o → option_and_then (λ m. lane_on (in_kernel kernel sys has_one) m rest) o ≡ Some raw-read.0
          → (last : Reading) × (lane_on (in_kernel kernel sys has_one) (unread sys) zero_lane ≡ Some last)
      by rest None e h = absurd (cc)
      by rest (Some last) e h = (last, e)

  pub unspilt-zero : spills_in zero_lane ≡ false
  unspilt-zero = each-unspilt zero_lane (kept-none raw_lane)

  -- a list is cut anywhere only by a `spill` right behind a record of its own
  cut-is : (o : ℕ) → (cut_of sys j o ≡ Whole) ⊎ ((cut_of sys j o ≡ Stopped) ⊎ (spill_cuts o raw_lane ≡ true))
  unfolding cut_of home_of
  cut-is o =
      let no_port : (j.kernel == port) ≡ false = no-port single in
      let home : home_of sys j o ≡ 0 = rw no_port refl in
      by (may_cut j.end) (spill_cuts o (lane_items (lane_at j (home_of sys j o)))) (ap (λ n. spill_cuts o (lane_items (lane_at j n))) home)
    where
      by : (b c : Bool) → c ≡ spill_cuts o raw_lane
          → (cond b (cond c Anywhere Stopped) Whole ≡ Whole) ⊎ ((cond b (cond c Anywhere Stopped) Whole ≡ Stopped) ⊎ (spill_cuts o raw_lane ≡ true))
      by true true e = inr (inr (sym e))
      by true false e = inr (inl refl)
      by false c e = inl refl

  -- a `spill` is no piece of an object
  pieces-same : (p : ℕ) → (p ≡ 0 → ⊥) → (w : Facts) → pieces_in w (in_kernel kernel sys has_one) p (unread sys) raw_lane ≡ pieces_in w (in_kernel kernel sys has_one) p (unread sys) zero_lane
  unfolding pieces_in lane_on
  pieces-same p some w = by (cut-shape j.end raw_lane t.zero_cut)
    where
      by : (raw_lane ≡ zero_lane) ⊎ ((s : Item) × (is_spill s.body ≡ true) × (raw_lane ≡ zero_lane ++ s ∷ []))
          → pieces_in w (in_kernel kernel sys has_one) p (unread sys) raw_lane ≡ pieces_in w (in_kernel kernel sys has_one) p (unread sys) zero_lane
      by (inl same) = ap (pieces_in w (in_kernel kernel sys has_one) p (unread sys)) same
      by (inr (s, is_one, split)) =
          let k = kernel-read.0 in
          let read : lane_on (in_kernel kernel sys has_one) k (s ∷ []) ≡ Some raw-read.0 =
          sym (lane_on-then (in_kernel kernel sys has_one) (unread sys) k zero_lane (s ∷ []) kernel-read.1) ∙ ap (lane_on (in_kernel kernel sys has_one) (unread sys)) (sym split) ∙ raw-read.1 in
          let none : pieces_at w p k s ≡ [] = spill-none w (in_kernel kernel sys has_one) p some k s is_one raw-read.0 read in
          ap (pieces_in w (in_kernel kernel sys has_one) p (unread sys)) split ∙ pieces_in-then w (in_kernel kernel sys has_one) p (unread sys) k zero_lane (s ∷ []) kernel-read.1
          ∙ ap (λ ps. pieces_in w (in_kernel kernel sys has_one) p (unread sys) zero_lane ++ (ps ++ [])) none ∙ append-nil _

  -- no queue is found empty by an object
  pub unmarked-of : (xs : List Item) (i : Item) (ys : List Item) → zero_lane ≡ xs ++ i ∷ ys → (object_at sys i.of ≡ None → ⊥) → (f l m : ℕ) → i.body ≡ body.Nil f l m → ⊥
  unfolding object_at home_records home_of own_items facts_of
  unmarked-of xs i ys split there f l m nil = by (object_at sys i.of) refl
    where
      rest : List Item
      rest = (kept-front j.end raw_lane t.zero_cut).0

      whole : raw_lane ≡ xs ++ i ∷ (ys ++ rest)
      whole = (kept-front j.end raw_lane t.zero_cut).1 ∙ ap (λ us. us ++ rest) split ∙ append_assoc xs (i ∷ ys) rest

      no_port : (j.kernel == port) ≡ false
      no_port = no-port single

      nil-in : (w : Facts) (c : ℕ) (xs : List Item) → Nilless (records_of w i.of c (xs ++ i ∷ (ys ++ rest))) → ⊥
      nil-in w c xs h = nil-among w i.of f l m i (ys ++ rest) refl nil c xs h

      by : (o : Option ObjectDef) → object_at sys i.of ≡ o → ⊥
      by None e = there e
      by (Some d) e =
          let found = found-in (λ x. x.priority == i.of) sys.objects d e (ObjectHolds sys j) law.objects in
          let test : (d.priority == i.of) ≡ true = found.1 in
          let own : d.priority ≡ i.of = grind (arith, nat_tests) in
          let groups = found.0.shapes.shape.groups in
          let nils = cut-nilless sys d.priority (cut_of sys j d.priority) (home_records (facts_of sys j) j d.priority)
          (subst (λ b. CutGroups sys d.priority b (cut_of sys j d.priority) (home_records (facts_of sys j) j d.priority)) no_port groups) in
          let home : home_of sys j d.priority ≡ 0 = rw no_port refl in
          let records : home_records (facts_of sys j) j d.priority ≡ records_of (facts_of sys j) i.of 0 (xs ++ i ∷ (ys ++ rest)) =
          ap (λ b. records_of (facts_of sys j) d.priority 0 (own_items b d.priority (lane_items (lane_at j (home_of sys j d.priority))))) no_port
          ∙ ap (λ n. records_of (facts_of sys j) d.priority 0 (lane_items (lane_at j n))) home ∙ ap (λ o. records_of (facts_of sys j) o 0 raw_lane) own
          ∙ ap (records_of (facts_of sys j) i.of 0) whole in
          nil-in (facts_of sys j) 0 xs (subst Nilless records nils)

  module _ (followable : (p : ℕ) (d : ObjectDef) → object_at sys p ≡ Some d → IsFollowable sys d) (positive : (p : ℕ) (d : ObjectDef) → object_at sys p ≡ Some d → p ≡ 0 → ⊥) where
    abbrev pub chart_of : (p : ℕ) (d : ObjectDef) → object_at sys p ≡ Some d → Chart
    chart_of p d is = (followable p d is).its

    pub course-of : (p : ℕ) (d : ObjectDef) (is : object_at sys p ≡ Some d)
        → (end : State) × (state_after sys (actor d (chart_of p d is)) (start_state (actor d (chart_of p d is)) (first_config d)) (pieces_in (facts_of sys j) (in_kernel kernel sys has_one) p (unread sys) zero_lane) ≡ Some end)
        × (MayEnd (ends_at_point (pieces_in (facts_of sys j) (in_kernel kernel sys has_one) p (unread sys) zero_lane)) end ⊎ EndsOwn p zero_lane)
    unfolding object_at lane_pieces facts_of reads_to
    course-of p d is =
        let found = found-in (λ x. x.priority == p) sys.objects d is
        (λ d. FollowsTo sys d (cut_of sys j d.priority) (lane_pieces (facts_of sys j) (setting_of sys j) d.priority raw_lane)) t.kernel.points in
        let test : (d.priority == p) ≡ true = found.1 in
        let own : d.priority ≡ p = grind (arith, nat_tests) in
        let moved : FollowsTo sys d (cut_of sys j p) (pieces_in (facts_of sys j) (in_kernel kernel sys has_one) p (unread sys) zero_lane) =
        subst (FollowsTo sys d (cut_of sys j p)) (pieces-same p (positive p d is) (facts_of sys j))
        (subst (λ s. FollowsTo sys d (cut_of sys j p) (pieces_in (facts_of sys j) s p (unread sys) raw_lane)) setting-is
        (subst (λ o. FollowsTo sys d (cut_of sys j o) (pieces_in (facts_of sys j) (setting_of sys j) o (unread sys) raw_lane)) own found.0)) in
        let reads = runs-flag _ _ (pieces-decided sys d (followable p d is) (cut_of sys j p) (pieces_in (facts_of sys j) (in_kernel kernel sys has_one) p (unread sys) zero_lane)) moved in
        by (state_after sys (actor d (chart_of p d is)) (start_state (actor d (chart_of p d is)) (first_config d)) (pieces_in (facts_of sys j) (in_kernel kernel sys has_one) p (unread sys) zero_lane)) refl
        (and_parts _ _ reads).0 (cut-is p)
      where
        either : (b c : Bool) (s : State) (at : Bool) → (at || (is_end_of_course s || expects_point s)) ≡ true → MayEnd at s
        either b c s true h = inr (inr refl)
        either b c s false h = on (is_end_of_course s) refl h
          where
            on : (x : Bool) → is_end_of_course s ≡ x → (x || expects_point s) ≡ true → MayEnd false s
            on true e h = inl e
            on false e h = inr (inl h)

        may : (cut : Cut) (s : State) (at : Bool) → (cut ≡ Whole) ⊎ ((cut ≡ Stopped) ⊎ (spill_cuts p raw_lane ≡ true)) → list_may_end cut at s ≡ true → MayEnd at s ⊎ EndsOwn p zero_lane
        may cut s at (inl e) h = inl (inl (subst (λ c. list_may_end c at s ≡ true) e h))
        may cut s at (inr (inl e)) h = inl (either true true s at (subst (λ c. list_may_end c at s ≡ true) e h))
        may cut s at (inr (inr e)) h =
            let last = spill-behind j.end p raw_lane t.zero_cut (raw-ends sys stimuli j law t) e in
            inr (last.0, last.1, last.2, last.3, unmarked last.0 last.1 last.2 last.3 (turn-mark last.1.body) last.4)
          where
            unmarked : (us : List Item) (i : Item) → zero_lane ≡ us ++ i ∷ [] → i.of ≡ p → (is_turn_mark i.body ≡ false) ⊎ ((f l m : ℕ) × (i.body ≡ body.Nil f l m)) ⊎ (i.body ≡ body.Spent)
                → is_end i.body ≡ false → is_turn_mark i.body ≡ false
            unmarked us i split own (inl none) unended = none
            unmarked us i split own (inr (inl (f, l, m, nil))) unended =
                absurd (unmarked-of us i [] split (λ none. let no : None ≡ Some d = sym none ∙ ap (object_at sys) own ∙ is in cc) f l m nil)
            unmarked us i split own (inr (inr spent)) unended = absurd (let no : is_end body.Spent ≡ false = subst (λ b. is_end b ≡ false) spent unended in cc)

        by : (o : Option State)
            → state_after sys (actor d (chart_of p d is)) (start_state (actor d (chart_of p d is)) (first_config d)) (pieces_in (facts_of sys j) (in_kernel kernel sys has_one) p (unread sys) zero_lane) ≡ o
            → ends_well (cut_of sys j p) (ends_at_point (pieces_in (facts_of sys j) (in_kernel kernel sys has_one) p (unread sys) zero_lane)) o ≡ true
            → (cut_of sys j p ≡ Whole) ⊎ ((cut_of sys j p ≡ Stopped) ⊎ (spill_cuts p raw_lane ≡ true))
            → (end : State) × (state_after sys (actor d (chart_of p d is)) (start_state (actor d (chart_of p d is)) (first_config d)) (pieces_in (facts_of sys j) (in_kernel kernel sys has_one) p (unread sys) zero_lane) ≡ Some end)
            × (MayEnd (ends_at_point (pieces_in (facts_of sys j) (in_kernel kernel sys has_one) p (unread sys) zero_lane)) end ⊎ EndsOwn p zero_lane)
        by None e h cut = absurd (cc)
        by (Some s) e h cut = (s, e, may (cut_of sys j p) s _ cut h)

  -- each record of the order names words of the system
  module _ (tidy : IsTidy sys j) where
    named-each : AllByRecursion (λ i. names_its sys i.of i.body ≡ true) (items_placed (unspilt_order sys j))
    named-each = inside sys stimuli j t (λ i. names_its sys i.of i.body ≡ true) (all-of (λ i. names_its sys i.of i.body) (all_items j.lanes) tidy.named)

    order-items : (xs : List Placed) (x : Placed) (ys : List Placed) → unspilt_order sys j ≡ xs ++ x ∷ ys → items_placed (unspilt_order sys j) ≡ items_placed xs ++ x.item ∷ items_placed ys
    order-items xs x ys is = ap items_placed is ∙ map-append (λ (z : Placed). z.item) xs (x ∷ ys)

    pub comes-of : (xs : List Placed) (x : Placed) (ys : List Placed) (c : ℕ) → unspilt_order sys j ≡ xs ++ x ∷ ys → MayComeNext sys (held_to sys c xs) x.item.of (told (facts_of sys j) x.item.of c x.item.body)
    unfolding told facts_of
    comes-of xs x ys c is =
        let at = order-items xs x ys is in
        let named = (every-parts (λ i. names_its sys i.of i.body ≡ true) (items_placed xs) (x.item ∷ items_placed ys) (subst (AllByRecursion (λ i. names_its sys i.of i.body ≡ true)) at named-each)).1.0 in
        let events : Entry → Option Event = λ e. event_of_entry (record { sys = sys; items = items_placed xs }) e in
        record {
          may = comes-front sys j.lanes law.words (items_placed (unspilt_order sys j)) (inside sys stimuli j t) (in-order sys stimuli j t) (items_placed xs) (items_placed ys) events c x.item.of x.item.body at named;
          known = known-front sys j.lanes law.words (items_placed (unspilt_order sys j)) (inside sys stimuli j t) (in-order sys stimuli j t) (items_placed xs) (items_placed ys) events c x.item.of x.item.body at named
              (λ f l m e took. tidy.events xs x ys f l m e is took);
        }

    pub counted-of : (xs ys : List Placed) (c : ℕ) → unspilt_order sys j ≡ xs ++ ys → IsCounted (held_to sys c xs)
    unfolding held_after is_object
    counted-of xs ys c is = record { counted = λ a. by a (is_object sys a) refl }
      where
        whole : items_placed (unspilt_order sys j) ≡ items_placed xs ++ items_placed ys
        whole = ap items_placed is ∙ map-append (λ (z : Placed). z.item) xs ys

        by : (a : ℕ) (b : Bool) → is_object sys a ≡ b
            → length (after (line (ring_of sys a)) (draws_of_word (word.Queue a) (items_placed xs))).entries + (after (line (ring_of sys a)) (draws_of_word (word.Queue a) (items_placed xs))).m
            ≡ (after (line (ring_of sys a)) (draws_of_word (word.Queue a) (items_placed xs))).f + (after (line (ring_of sys a)) (draws_of_word (word.Queue a) (items_placed xs))).l
        by a true e =
            let queue = law.words.queues a e in
            (line_is (ring_of sys a) (draws_of_word (word.Queue a) (items_placed xs))
            (allowed-front (all_items j.lanes) (items_placed (unspilt_order sys j)) (inside sys stimuli j t) (in-order sys stimuli j t) (word.Queue a) queue.numbers (line (ring_of sys a)) queue.allowed (items_placed xs) (items_placed ys) whole)).counted
        by a false e =
            let none = queue-none sys a e (items_placed xs) (every-parts (λ i. names_its sys i.of i.body ≡ true) (items_placed xs) (items_placed ys) (subst (AllByRecursion (λ i. names_its sys i.of i.body ≡ true)) whole named-each)).0 in
            subst (λ zs. length (after (line (ring_of sys a)) zs).entries + (after (line (ring_of sys a)) zs).m ≡ (after (line (ring_of sys a)) zs).f + (after (line (ring_of sys a)) zs).l) (sym none) (empty (ring_of sys a))
