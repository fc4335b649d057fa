-- A lawful journal of a run with one thread without a `spill` is tidy, and so the only one of its kernel.
use Rattle.std.proofs.Common.{◌≡◌, ◌∙◌, ◌⊎◌, inl, inr, append-nil, not, ℕ, zero, suc, ◌+◌, ◌<◌, ◌≤◌, ◌==◌, nat_le, nat_lt, Bool, true, false, cond, List, [], ◌∷◌, ◌++◌, map, length, get_or, Some, None, refl, sym, ap, subst, arith}
use Rattle.std.proofs.lemmas.Bool.{and_from, and_parts, false≢true, ne_eqb, not-true}
use Rattle.std.proofs.lemmas.Bool.Decides.{nat_tests}
use Rattle.std.proofs.lemmas.List.{append_assoc, length-map, map-append}
use Rattle.std.specs.declared.option.Option.{Option}
use Rattle.std.specs.Option.{option_map_or}
use Rattle.std.specs.List.{filter, list_all, AllByRecursion}
use Rattle.qp_model.specs.declared.record.Rec.{Rec}
use Rattle.qp_model.specs.declared.bodies.Body.{Body}
use Rattle.qp_model.specs.declared.bodies.Body.TheVariants as body
use Rattle.qp_model.specs.declared.words.Word.{Word}
use Rattle.qp_model.specs.declared.words.Word.TheVariants as word
use Rattle.qp_model.specs.declared.stimulus.Stim.{Stim}
use Rattle.qp_model.specs.declared.systems.System.{System}
use Rattle.qp_model.specs.declared.journals.Journal.{Journal}
use Rattle.qp_model.specs.Record.{Item}
use Rattle.qp_model.specs.KindSorts.{is_malformed}
use Rattle.qp_model.specs.Sound.{IsSound}
use Rattle.qp_model.specs.Ends.{is_spill, spills_cut}
use Rattle.qp_model.specs.History.{Touch, Draws, Shows, Neither, touch, touch_of, all_items, hist, is_numbered, lane_items}
use Rattle.qp_model.specs.Home.{lane_at}
use Rattle.qp_model.specs.Lawful.{facts_of, source_lanes}
use Rattle.qp_model.specs.OneOrder.{Placed, with_stimuli, parts_of_look, look_of, spills_from, items_placed}
use Rattle.qp_model.specs.Places.{IsSerial, RecordPlace, in_order, is_next}
use Rattle.qp_model.proofs.NumberLemmas.{every-append}
use Rattle.qp_model_order.specs.RunOrder.{placed}
use Rattle.qp_model_order.specs.Placing.{all_placed}
use Rattle.qp_stim.specs.Rules.{StimuliFit}
use Rattle.qp_plain_sound.specs.May.{May}
use Rattle.qp_plain_sound.specs.Sound.{hands_in}
use Rattle.qp_plain_sound.proofs.Standing.{block-pool}
use Rattle.qp_replay.specs.Numbers.{is_on, has_word as has_its_word}
use Rattle.qp_replay.proofs.NamedRecords.{named-records}
use Rattle.qp_replay.specs.RerunLaws.{RerunGoesOn, made}
use Rattle.qp_replay.proofs.Histories.{hist-line, on_word}
use Rattle.qp_replay.proofs.OneThread.{one-thread}
use Rattle.qp_unique.specs.Fronts.{is_word_of, names_its, touches_its}
use Rattle.qp_unique.specs.Tidy.{unspilt_order, unspilt, IsTidy, LacksStimulus}
use Rattle.qp_unique.proofs.EqualLemmas.{part-elsewhere, zero-is}
use Rattle.qp_unique.proofs.JournalLemmas.{Threaded, threaded, kept_sources, kept_zero, lane-each, lane0-is, in-order}
use Rattle.qp_unique.proofs.SideParts.{lane-stood}
use Rattle.qp_unique.proofs.Sides.{HasKernel, lane_in}
use Rattle.qp_unique.proofs.KernelLemmas.{no-threads}
use Rattle.qp_unique.proofs.SourceSteps.{lane_in-append, lane_in-other, lane_in-own}
use Rattle.qp_unique.proofs.UniqueLemmas.{short_journals_are_unspilt, short_journals_leave_no_spill, tidy_journals_are_one}
use Rattle.qp_unique.proofs.CountLemmas.{is_kept_by, is_said_by}
use Rattle.qp_model.specs.Kernels.{qv}
use Rattle.qp_unique.proofs.FormLemmas.{each-kept}
use Rattle.qp_unique.specs.JournalLaws.{IsOneThreadJournal, IsUnspilt, ShortJournalsAreUnspilt, OneThreadJournalsAreOne, OneThreadJournalsAreTidy, UnspiltJournalsAreOne}
use Rattle.qp_unique.proofs.FollowLemmas.{sound-followable}
use Rattle.qp_unique.proofs.RecordLemmas.{rec_in, lanes-of}
use Rattle.qp_unique.proofs.PlaceLemmas.{here, items-back, place_behind, placed-back, places-serial, places_of, places_of-append}
use Rattle.qp_unique.proofs.EventLemmas.{Stood, event-by, ordered-hist, taken-stays}
use Rattle.qp_check_lanes.proofs.ItemLemmas.{items-none}
use Rattle.qp_model_order.proofs.StimLemmas.{items-placed}

-- Which lanes an order has.

parts-beyond : (lane k : ℕ) (cuts : Bool) (ls : List (List Item)) (j : ℕ) → lane + length ls ≤ j → lane_in (parts_of_look lane k cuts ls) j ≡ []
unfolding parts_of_look
parts-beyond lane k cuts [] j few = refl
parts-beyond lane k cuts (l ∷ ls) j few =
    let more : lane + suc (length ls) ≤ j = few in
    let here = part-elsewhere lane j k cuts false l (ne_eqb lane j (λ e. omega (arith, more, e))) in
    lane_in-append _ (parts_of_look (lane + 1) k cuts ls) j ∙ ap (λ us. us ++ lane_in (parts_of_look (lane + 1) k cuts ls) j) here ∙ parts-beyond (lane + 1) k cuts ls j (omega (arith, more))

order-beyond : (cuts : Bool) (sources : List (List Item)) (lane0 : List Item) (j : ℕ) → 1 + length sources ≤ j → lane_in (with_stimuli cuts sources lane0) j ≡ []
unfolding with_stimuli
order-beyond cuts sources [] j few = refl
order-beyond cuts sources (i ∷ is) j few =
    lane_in-append (placed 0 i ∷ []) (own (look_of i.body) ++ with_stimuli cuts sources is) j
    ∙ ap (λ b. map (λ (x : Placed). x.item) (cond b (placed 0 i ∷ []) []) ++ lane_in (own (look_of i.body) ++ with_stimuli cuts sources is) j) other
    ∙ lane_in-append (own (look_of i.body)) (with_stimuli cuts sources is) j ∙ ap (λ us. us ++ lane_in (with_stimuli cuts sources is) j) (none (look_of i.body)) ∙ order-beyond cuts sources is j few
  where
    own : Option (ℕ × ℕ) → List Placed
    own o = option_map_or (λ (l : ℕ × ℕ). parts_of_look 1 l.0 cuts sources) o []

    other : (0 == j) ≡ false
    other = ne_eqb 0 j (λ e. omega (arith, few, e))

    none : (o : Option (ℕ × ℕ)) → lane_in (own o) j ≡ []
    none None = refl
    none (Some l) = parts-beyond 1 l.0 cuts sources j few

split-at : (ls : List (List Rec)) (m : ℕ) → m < length ls → (before : List (List Rec)) × (behind : List (List Rec)) × (ls ≡ before ++ get_or ls m [] ∷ behind) × (length before ≡ m)
split-at [] m less = absurd (omega (arith, less))
split-at (l ∷ ls) zero less = ([], ls, refl, refl)
split-at (l ∷ ls) (suc m) less = let more = split-at ls m (omega (arith, less)) in (l ∷ more.0, more.1, ap (λ us. l ∷ us) more.2, ap suc more.3)

beyond : (ls : List (List Rec)) (m : ℕ) → length ls ≤ m → get_or ls m [] ≡ []
beyond [] m few = refl
beyond (l ∷ ls) zero few = absurd (omega (arith, few))
beyond (l ∷ ls) (suc m) few = beyond ls m (omega (arith, few))

-- The two tests of a record's word are the same.
same-word_test : (sys : System) (w : Word) → has_its_word sys w ≡ is_word_of sys w
unfolding is_word_of
same-word_test sys (word.Pool p) = refl
same-word_test sys _ = refl

names-all : (sys : System) (is : List Item) → list_all (λ i. is_on (has_its_word sys) (touch i)) is ≡ true → list_all (λ i. names_its sys i.of i.body) is ≡ true
unfolding names_its
names-all sys [] h = refl
names-all sys (i ∷ is) h = let parts = and_parts _ _ h in and_from _ _ (by (touch i) parts.0) (names-all sys is parts.1)
  where
    by : (t : Touch) → is_on (has_its_word sys) t ≡ true → touches_its sys t ≡ true
    by (Draws w mark) h = sym (same-word_test sys w) ∙ h
    by (Shows w mark) h = sym (same-word_test sys w) ∙ h
    by Neither h = refl

-- ---- the `spill` that a lane ended with

abbrev spills : List Item → List Item
spills lane = filter (λ i. is_spill i.body) lane

-- it stands last
cut-parts : (end : ℕ) (is : List Item) → spills_cut end is ≡ true → unspilt is ++ spills is ≡ is
unfolding spills_cut
cut-parts end [] h = refl
cut-parts end (i ∷ []) h = by (is_spill i.body)
  where
    by : (b : Bool) → cond (not b) (i ∷ []) [] ++ cond b (i ∷ []) [] ≡ i ∷ []
    by true = refl
    by false = refl
cut-parts end (i ∷ j ∷ is) h =
    let parts = and_parts (not (is_spill i.body)) _ h in
    by (is_spill i.body) (not-true (is_spill i.body) parts.0) (cut-parts end (j ∷ is) parts.1)
  where
    by : (b : Bool) → b ≡ false → unspilt (j ∷ is) ++ spills (j ∷ is) ≡ j ∷ is
        → cond (not b) (i ∷ unspilt (j ∷ is)) (unspilt (j ∷ is)) ++ cond b (i ∷ spills (j ∷ is)) (spills (j ∷ is)) ≡ i ∷ j ∷ is
    by true e later = absurd (cc)
    by false e later = ap (λ us. i ∷ us) later

-- those of the sources, in their lanes
spills-below : (lane : ℕ) (ls : List (List Item)) (a : ℕ) → a < lane → lane_in (spills_from lane ls) a ≡ []
unfolding spills_from
spills-below lane [] a less = refl
spills-below lane (l ∷ ls) a less =
    lane_in-append (all_placed lane (spills l)) (spills_from (lane + 1) ls) a
    ∙ ap (λ us. us ++ lane_in (spills_from (lane + 1) ls) a) (lane_in-other lane a (spills l) (ne_eqb lane a (λ e. omega (arith, less, e))))
    ∙ spills-below (lane + 1) ls a (omega (arith, less))

spills-beyond : (lane : ℕ) (ls : List (List Item)) (a : ℕ) → lane + length ls ≤ a → lane_in (spills_from lane ls) a ≡ []
unfolding spills_from
spills-beyond lane [] a most = refl
spills-beyond lane (l ∷ ls) a most =
    let more : lane + suc (length ls) ≤ a = most in
    lane_in-append (all_placed lane (spills l)) (spills_from (lane + 1) ls) a
    ∙ ap (λ us. us ++ lane_in (spills_from (lane + 1) ls) a) (lane_in-other lane a (spills l) (ne_eqb lane a (λ e. omega (arith, more, e))))
    ∙ spills-beyond (lane + 1) ls a (omega (arith, more))

spills-at : (lane : ℕ) (front : List (List Item)) (l : List Item) (back : List (List Item)) → lane_in (spills_from lane (front ++ l ∷ back)) (lane + length front) ≡ spills l
unfolding spills_from
spills-at lane [] l back =
    let same : lane + 0 ≡ lane = omega arith in
    ap (λ a. lane_in (spills_from lane (l ∷ back)) a) same
    ∙ lane_in-append (all_placed lane (spills l)) (spills_from (lane + 1) back) lane
    ∙ (λ n. lane_in-own lane (spills l) n ++ spills-below (lane + 1) back lane (omega arith) n) ∙ append-nil (spills l)
spills-at lane (f ∷ front) l back =
    let next : lane + suc (length front) ≡ (lane + 1) + length front = omega arith in
    ap (λ a. lane_in (spills_from lane (f ∷ (front ++ l ∷ back))) a) next
    ∙ lane_in-append (all_placed lane (spills f)) (spills_from (lane + 1) (front ++ l ∷ back)) ((lane + 1) + length front)
    ∙ ap (λ us. us ++ lane_in (spills_from (lane + 1) (front ++ l ∷ back)) ((lane + 1) + length front))
    (lane_in-other lane ((lane + 1) + length front) (spills f) (ne_eqb lane ((lane + 1) + length front) (λ e. omega (arith, e))))
    ∙ spills-at (lane + 1) front l back

spills-each : (is : List Item) → AllByRecursion (λ i. is_spill i.body ≡ true) (spills is)
spills-each [] = tt
spills-each (i ∷ is) = by (is_spill i.body) refl (spills-each is)
  where
    by : (b : Bool) → is_spill i.body ≡ b → AllByRecursion (λ i. is_spill i.body ≡ true) (spills is) → AllByRecursion (λ i. is_spill i.body ≡ true) (cond b (i ∷ spills is) (spills is))
    by true e h = (e, h)
    by false e h = h

from-each : (lane : ℕ) (ls : List (List Item)) → AllByRecursion (λ i. is_spill i.body ≡ true) (items_placed (spills_from lane ls))
unfolding spills_from
from-each lane [] = tt
from-each lane (l ∷ ls) =
    subst (AllByRecursion (λ i. is_spill i.body ≡ true)) (sym (map-append (λ (z : Placed). z.item) (all_placed lane (spills l)) (spills_from (lane + 1) ls)))
    (every-append (λ i. is_spill i.body ≡ true) _ _ (subst (AllByRecursion (λ i. is_spill i.body ≡ true)) (sym (items-placed lane (spills l))) (spills-each l)) (from-each (lane + 1) ls))

-- a `spill` has no number
spills-next : (before ys : List Item) → AllByRecursion (λ i. is_spill i.body ≡ true) ys → in_order before ys ≡ true
unfolding in_order is_next
spills-next before [] h = refl
spills-next before (y ∷ ys) h = and_from _ _ (by y.body h.0) (spills-next (before ++ y ∷ []) ys h.1)
  where
    by : (b : Body) → is_spill b ≡ true → is_next before (touch_of y.of b) ≡ true
    by (body.Spill n) h = refl
    by b h = absurd (cc)

order-spills : (before xs ys : List Item) → in_order before xs ≡ true → AllByRecursion (λ i. is_spill i.body ≡ true) ys → in_order before (xs ++ ys) ≡ true
unfolding in_order
order-spills before [] ys h each = spills-next before ys each
order-spills before (x ∷ xs) ys h each = let parts = and_parts (is_next before (touch x)) _ h in and_from _ _ parts.0 (order-spills (before ++ x ∷ []) xs ys parts.1 each)

module _ (sys : System) (stimuli : List (List Stim)) (j : Journal) (sound : IsSound sys) (fit : StimuliFit sys stimuli) (its : IsOneThreadJournal sys stimuli j) where
  single : HasKernel j.kernel j
  single = record { is = refl; one = its.one_thread }

  t : Threaded sys stimuli j
  t = threaded sys stimuli j its.lawful single

  -- the order of the run, and then what lanes ended with
  abbrev last : List Placed
  last = all_placed 0 (spills (lane_items (lane_at j 0))) ++ spills_from 1 (source_lanes sys j)

  abbrev all : List Placed
  all = unspilt_order sys j ++ last

  last-each : AllByRecursion (λ i. is_spill i.body ≡ true) (items_placed last)
  last-each =
      subst (AllByRecursion (λ i. is_spill i.body ≡ true)) (sym (map-append (λ (z : Placed). z.item) (all_placed 0 (spills (lane_items (lane_at j 0)))) (spills_from 1 (source_lanes sys j))))
      (every-append (λ i. is_spill i.body ≡ true) _ _ (subst (AllByRecursion (λ i. is_spill i.body ≡ true)) (sym (items-placed 0 (spills (lane_items (lane_at j 0))))) (spills-each (lane_items (lane_at j 0))))
      (from-each 1 (source_lanes sys j)))

  numbers : in_order [] (items_placed all) ≡ true
  numbers =
      subst (λ us. in_order [] us ≡ true) (sym (map-append (λ (z : Placed). z.item) (unspilt_order sys j) last))
      (order-spills [] (items_placed (unspilt_order sys j)) (items_placed last) (in-order sys stimuli j t) last-each)

  in-last : (a : ℕ) → (a ≡ 0 → ⊥) → lane_in last a ≡ lane_in (spills_from 1 (source_lanes sys j)) a
  in-last a some =
      lane_in-append (all_placed 0 (spills (lane_items (lane_at j 0)))) (spills_from 1 (source_lanes sys j)) a
      ∙ ap (λ us. us ++ lane_in (spills_from 1 (source_lanes sys j)) a) (lane_in-other 0 a (spills (lane_items (lane_at j 0))) (ne_eqb 0 a (λ e. some (sym e))))

  -- each lane stands in it, all of it
  source-lane : (m : ℕ) → m < length t.others → lane_in all (1 + m) ≡ lane_items (get_or t.others m [])
  source-lane m less =
      let at = split-at t.others m less in
      let raw = lane_items (get_or t.others m []) in
      let front = map (λ lane. lane_items lane) at.0 in
      let back = map (λ lane. lane_items lane) at.1 in
      let are : source_lanes sys j ≡ front ++ raw ∷ back = t.sources_are ∙ ap (map (λ lane. lane_items lane)) at.2 ∙ map-append (λ lane. lane_items lane) at.0 (get_or t.others m [] ∷ at.1) in
      let size : length front ≡ m = length-map at.0 (λ lane. lane_items lane) ∙ at.3 in
      let kept : kept_sources sys j ≡ map (λ lane. unspilt lane) front ++ unspilt raw ∷ map (λ lane. unspilt lane) back =
      ap (map (λ lane. unspilt lane)) are ∙ map-append (λ lane. unspilt lane) front (raw ∷ back) in
      let kept_size : length (map (λ lane. unspilt lane) front) ≡ m = length-map front (λ lane. unspilt lane) ∙ size in
      let first : lane_in (unspilt_order sys j) (1 + m) ≡ unspilt raw =
      ap (λ n. lane_in (unspilt_order sys j) (1 + n)) (sym kept_size)
      ∙ sym (lane-stood sys stimuli j its.lawful single t (map (λ lane. unspilt lane) front) (unspilt raw) (map (λ lane. unspilt lane) back) kept) in
      let second : lane_in last (1 + m) ≡ spills raw =
      in-last (1 + m) (λ e. omega (arith, e)) ∙ ap (λ n. lane_in (spills_from 1 (source_lanes sys j)) (1 + n)) (sym size)
      ∙ ap (λ ls. lane_in (spills_from 1 ls) (1 + length front)) are ∙ spills-at 1 front raw back in
      lane_in-append (unspilt_order sys j) last (1 + m) ∙ (λ n. first n ++ second n)
      ∙ cut-parts j.end raw (lane-each (λ l. spills_cut j.end l ≡ true) front raw back (source_lanes sys j) are t.sources_cut)

  zero-lane : lane_in all 0 ≡ lane_items (lane_at j 0)
  unfolding unspilt_order
  zero-lane =
      let zero_raw = lane_items (lane_at j 0) in
      let second : lane_in last 0 ≡ spills zero_raw =
      lane_in-append (all_placed 0 (spills zero_raw)) (spills_from 1 (source_lanes sys j)) 0
      ∙ (λ n. lane_in-own 0 (spills zero_raw) n ++ spills-below 1 (source_lanes sys j) 0 (omega arith) n) ∙ append-nil (spills zero_raw) in
      lane_in-append (unspilt_order sys j) last 0 ∙ (λ n. zero-is true (kept_sources sys j) (kept_zero j) n ++ second n) ∙ cut-parts j.end zero_raw t.zero_cut

  lanes-are : (a : ℕ) → lane_in all a ≡ lane_items (get_or j.lanes a [])
  unfolding unspilt_order
  lanes-are zero = zero-lane ∙ lane0-is sys stimuli j t ∙ ap (λ ls. lane_items (get_or ls 0 [])) (sym t.lanes)
  lanes-are (suc m) = by (nat_lt m (length t.others)) refl ∙ ap (λ ls. lane_items (get_or ls (suc m) [])) (sym t.lanes)
    where
      by : (b : Bool) → nat_lt m (length t.others) ≡ b → lane_in all (suc m) ≡ lane_items (get_or t.others m [])
      by true e = let less : m < length t.others = grind (arith, nat_tests) in let next : suc m ≡ 1 + m = omega arith in ap (lane_in all) next ∙ source-lane m less
      by false e =
          let few : length t.others ≤ m = grind (arith, nat_tests) in
          let size : length (source_lanes sys j) ≡ length t.others = ap length t.sources_are ∙ length-map t.others (λ lane. lane_items lane) in
          let kept : length (kept_sources sys j) ≡ length (source_lanes sys j) = length-map (source_lanes sys j) (λ lane. unspilt lane) in
          let none : lane_in last (suc m) ≡ [] = in-last (suc m) (λ e. omega (arith, e)) ∙ spills-beyond 1 (source_lanes sys j) (suc m) (omega (arith, few, size)) in
          lane_in-append (unspilt_order sys j) last (suc m)
          ∙ (λ n. order-beyond true (kept_sources sys j) (kept_zero j) (suc m) (omega (arith, few, size, kept)) n ++ none n)
          ∙ sym (ap lane_items (beyond t.others m few) ∙ items-none)

  abbrev order : List RecordPlace
  order = places_of [] all

  serial : IsSerial j.lanes order
  serial = places-serial j.lanes all lanes-are numbers

  -- at each place of it stands a sound world that may make the next record
  stood : (xs : List Placed) (z : Placed) (ys : List Placed) → all ≡ xs ++ z ∷ ys → Stood sys (items_placed xs) z.item
  stood xs z ys split =
      let cut : order ≡ places_of [] xs ++ place_behind xs z ∷ places_of (xs ++ z ∷ []) ys = ap (places_of []) split ∙ places_of-append [] xs (z ∷ ys) in
      let goes : RerunGoesOn sys j.lanes (places_of [] xs) (place_behind xs z ∷ places_of (xs ++ z ∷ []) ys) =
      (one-thread sys stimuli j order sound fit its.lawful serial).0 (places_of [] xs) (place_behind xs z ∷ places_of (xs ++ z ∷ []) ys) cut in
      let at = here j.lanes all lanes-are xs z ys split in
      let next = goes.next (place_behind xs z) (places_of (xs ++ z ∷ []) ys) at.r refl at.is in
      record {
        lanes = (made j.lanes (places_of [] xs)).lanes;
        order = (made j.lanes (places_of [] xs)).order;
        world = goes.sound;
        log = ap items_placed (goes.log ∙ placed-back j.lanes all lanes-are [] xs (z ∷ ys) split);
        may = subst (λ (i : Item). May sys (made j.lanes (places_of [] xs)).lanes (hands_in sys (made j.lanes (places_of [] xs)).lanes (made j.lanes (places_of [] xs)).order) i.of i.body) at.item next.may;
      }

  -- the history of a word is the same in the order
  hist-order : (w : Word) → is_numbered w (all_items j.lanes) ≡ true → hist w (all_items j.lanes) ≡ hist w (items_placed all)
  hist-order w its_numbers =
      hist-line j.lanes order serial.all serial.numbers w its_numbers ∙ ap (on_word w) (items-back j.lanes all lanes-are [] all refl) ∙ sym (ordered-hist w (items_placed all) numbers)

  tidy : IsTidy sys j
  unfolding facts_of
  tidy = record {
    named = names-all sys (all_items j.lanes) (named-records sys stimuli j sound fit its.lawful);
    events = λ xs x ys f l m e split is.
        let at = taken-stays sys all numbers stood xs x (ys ++ last) f l m e (ap (λ us. us ++ last) split ∙ append_assoc xs (x ∷ ys) last) is in
        event-by sys (all_items j.lanes) (items_placed all) e
        (λ some. (
          hist-order (word.Pool e.pool) (its.lawful.words.pools e.pool (block-pool sys e.pool e.block (at.1 some)).0).numbers,
          hist-order (word.Block e.pool e.block) (its.lawful.words.blocks e.pool e.block (at.1 some)).numbers,
        ))
        ∙ at.0;
  }

pub each-tidy : OneThreadJournalsAreTidy
each-tidy sys stimuli j sound fit its = tidy sys stimuli j sound fit its

-- what a record says that is kept is something
said-kept : (rests : Bool) (i : Item) → is_kept_by rests i ≡ true → is_malformed i.body ≡ false
said-kept rests i kept = by i.body (and_parts (nat_le i.of 32) _ kept).1
  where
    by : (b : Body) → is_said_by rests b ≡ true → is_malformed b ≡ false
    by body.Malformed said = absurd (false≢true said)
    by _ said = refl

-- so the records of such a journal are told by what they say
module _ (sys : System) (stimuli : List (List Stim)) (sound : IsSound sys) (fit : StimuliFit sys stimuli) where
  recs-back : (j : Journal) → IsOneThreadJournal sys stimuli j → map (map rec_in) (map (λ lane. lane_items lane) j.lanes) ≡ j.lanes
  recs-back j its =
      lanes-of (is_kept_by (j.kernel == qv)) (said-kept (j.kernel == qv)) j.lanes
      (each-kept sys stimuli j sound fit.few (j.kernel == qv) j.kernel refl (no-threads j.kernel its.one_thread).1 its.lawful refl)

  one-journal : (i j : Journal) → IsOneThreadJournal sys stimuli i → IsOneThreadJournal sys stimuli j → j.kernel ≡ i.kernel → i.budget ≡ j.budget
      → map (λ lane. lane_items lane) i.lanes ≡ map (λ lane. lane_items lane) j.lanes → i.end ≡ j.end → i ≡ j
  one-journal i j one two same_kernel budgets same ends =
      let kernels : i.kernel ≡ j.kernel = sym same_kernel in
      let lanes : i.lanes ≡ j.lanes = sym (recs-back i one) ∙ ap (map (map rec_in)) same ∙ recs-back j two in
      λ n. record { kernel = kernels n; budget = budgets n; lanes = lanes n; end = ends n }

-- of two in which no lane ended with a `spill`
pub unspilt-one : UnspiltJournalsAreOne
unspilt-one sys stimuli i j sound fit one two kernels budgets none_i none_j =
    let same = tidy_journals_are_one sys stimuli i j sound (sound-followable sys sound) one.lawful two.lawful one.one_thread kernels budgets none_i none_j
    (tidy sys stimuli i sound fit one) (tidy sys stimuli j sound fit two) in
    sym (one-journal sys stimuli sound fit i j one two kernels budgets same.0 same.1)

pub short-unspilt : ShortJournalsAreUnspilt
short-unspilt sys stimuli j its short = short_journals_are_unspilt sys stimuli j its.lawful its.one_thread short

pub all-one : OneThreadJournalsAreOne
all-one sys stimuli i j sound fit one two kernels budgets short =
    by (short_journals_leave_no_spill sys stimuli i j sound (sound-followable sys sound) one.lawful two.lawful one.one_thread kernels budgets short (tidy sys stimuli i sound fit one) (tidy sys stimuli j sound fit two))
  where
    by : IsUnspilt j ⊎ LacksStimulus sys stimuli j → (j ≡ i) ⊎ LacksStimulus sys stimuli j
    by (inl none) = inl (unspilt-one sys stimuli i j sound fit one two kernels budgets (short-unspilt sys stimuli i one short) none)
    by (inr lacks) = inr lacks
