-- The lane of a source, by the ends that are found.
use Rattle.std.proofs.Common.{◌≡◌, ℕ, ◌==◌, Bool, true, false, ◌&&◌, ◌||◌, ◌⊎◌, List, refl, sym, subst, inl, inr}
use Rattle.std.specs.List.{list_all, filter_map}
use Rattle.std.proofs.lemmas.Bool.{or_right}
use Rattle.qp_model.specs.declared.stimulus.Stim.{Stim}
use Rattle.qp_model.specs.declared.systems.System.{System}
use Rattle.qp_model.specs.declared.journals.Journal.{Journal}
use Rattle.qp_model.specs.Record.{Item}
use Rattle.qp_model.specs.Told.{Told}
use Rattle.qp_model.specs.Knowing.{Facts}
use Rattle.qp_model.specs.Ends.{may_cut, spills_in, spills_cut}
use Rattle.qp_model.specs.Sources.{SourceEnd, AllDone, BeforeStimulus, AfterTry, AtAssert, InStimulus, SourceRuns, IsSourceLane, may_end, none_twice, entry_seen, source_records}
use Rattle.qp_model.specs.Lawful.{SpillStands, facts_of}
use Rattle.qp_check_calls.specs.Decides.{Decides}
use Rattle.qp_check_ends.specs.AsSource.{stops_at, some_may_end, may_spill}
use Rattle.qp_check_ends.specs.Tries.{entries_seen}
use Rattle.qp_check_ends.specs.declared.stops.Stops.{Stops}
use Rattle.qp_check_ends.proofs.RecordLemmas.{decides}

-- an end with its flag
allowed : (stops : Stops) (end : ℕ) (spills : Bool) → some_may_end stops end spills ≡ true → (stop : SourceEnd) × (stops_at stops stop ≡ true) × (may_end end spills stop ≡ true)
allowed stops end spills h = by stops.all_done (may_cut end) stops.before_stimulus stops.after_try stops.at_assert stops.in_stimulus spills refl refl refl refl refl refl refl h
  where
    by : (all cut before after at within spilt : Bool) → stops.all_done ≡ all → may_cut end ≡ cut → stops.before_stimulus ≡ before → stops.after_try ≡ after
        → stops.at_assert ≡ at → stops.in_stimulus ≡ within → spills ≡ spilt → (all || (cut && (before || after || at || (within && spilt)))) ≡ true
        → (stop : SourceEnd) × (stops_at stops stop ≡ true) × (may_end end spills stop ≡ true)
    by true cut before after at within spilt e0 e1 e2 e3 e4 e5 e6 h = (AllDone, e0, refl)
    by false false before after at within spilt e0 e1 e2 e3 e4 e5 e6 h = absurd (cc)
    by false true true after at within spilt e0 e1 e2 e3 e4 e5 e6 h = (BeforeStimulus, e2, e1)
    by false true false true at within spilt e0 e1 e2 e3 e4 e5 e6 h = (AfterTry, e3, e1)
    by false true false false true within spilt e0 e1 e2 e3 e4 e5 e6 h = (AtAssert, e4, e1)
    by false true false false false true true e0 e1 e2 e3 e4 e5 e6 h = (InStimulus, e5, rw (e1, e6) refl)
    by false true false false false true false e0 e1 e2 e3 e4 e5 e6 h = absurd (cc)
    by false true false false false false spilt e0 e1 e2 e3 e4 e5 e6 h = absurd (cc)

is-allowed : (stops : Stops) (end : ℕ) (spills : Bool) (stop : SourceEnd) → stops_at stops stop ≡ true → may_end end spills stop ≡ true → some_may_end stops end spills ≡ true
is-allowed stops end spills AllDone e h = rw e refl
is-allowed stops end spills BeforeStimulus e h = rw (e, h) (or_right stops.all_done true refl)
is-allowed stops end spills AfterTry e h = by stops.all_done stops.before_stimulus
  where
    by : (a b : Bool) → (a || (may_cut end && (b || stops.after_try || stops.at_assert || (stops.in_stimulus && spills)))) ≡ true
    by true b = refl
    by false true = rw h refl
    by false false = rw (e, h) refl
is-allowed stops end spills AtAssert e h = by stops.all_done stops.before_stimulus stops.after_try
  where
    by : (a b c : Bool) → (a || (may_cut end && (b || c || stops.at_assert || (stops.in_stimulus && spills)))) ≡ true
    by true b c = refl
    by false true c = rw h refl
    by false false true = rw h refl
    by false false false = rw (e, h) refl
is-allowed stops end spills InStimulus e h = by stops.all_done stops.before_stimulus stops.after_try stops.at_assert (may_cut end) spills refl refl h
  where
    by : (a b c d cut spilt : Bool) → may_cut end ≡ cut → spills ≡ spilt → (cut && spilt) ≡ true
        → (a || (cut && (b || c || d || (stops.in_stimulus && spilt)))) ≡ true
    by true b c d cut spilt e1 e2 k = refl
    by false b c d false spilt e1 e2 k = absurd (cc)
    by false b c d true false e1 e2 k = absurd (cc)
    by false true c d true true e1 e2 k = refl
    by false false true d true true e1 e2 k = refl
    by false false false true true true e1 e2 k = refl
    by false false false false true true e1 e2 k = rw e refl

flag-runs : (b : Bool) (P : Type 0) → Decides b P → b ≡ true → P
unfolding Decides
flag-runs true P d e = d
flag-runs false P d e = absurd (cc)

pub runs-flag : (b : Bool) (P : Type 0) → Decides b P → P → b ≡ true
unfolding Decides
runs-flag true P d p = refl
runs-flag false P d p = absurd (d p)

module _ (w : Facts) (kernel end : ℕ) (ss : List Stim) (lane : List Item) (told : List Told) (sys : System) (same : w.sys ≡ sys) (records : told ≡ source_records w lane) where
  moved : (stop : SourceEnd) → SourceRuns sys kernel 1 ss stop told → SourceRuns w.sys kernel 1 ss stop (source_records w lane)
  moved stop h = subst (λ sys. SourceRuns sys kernel 1 ss stop (source_records w lane)) (sym same) (subst (SourceRuns sys kernel 1 ss stop) records h)

  back : (stop : SourceEnd) → SourceRuns w.sys kernel 1 ss stop (source_records w lane) → SourceRuns sys kernel 1 ss stop told
  back stop h = subst (SourceRuns sys kernel 1 ss stop) (sym records) (subst (λ sys. SourceRuns sys kernel 1 ss stop (source_records w lane)) same h)

  -- its records are of an object
  pub lane-of : list_all (λ i. i.of == 0) lane ≡ false → IsSourceLane w kernel end ss lane → ⊥
  lane-of h is = let alone : list_all (λ i. i.of == 0) lane ≡ true = is.alone in cc

  -- a `spill` cuts nothing
  pub lane-spills : spills_cut end lane ≡ false → IsSourceLane w kernel end ss lane → ⊥
  lane-spills h is = let spills : spills_cut end lane ≡ true = is.spills in cc

  -- two tries end alike
  pub lane-twice : none_twice (entries_seen lane) ≡ false → IsSourceLane w kernel end ss lane → ⊥
  unfolding entries_seen
  lane-twice h is = let tries : none_twice (filter_map (λ (i : Item). entry_seen i.body) lane) ≡ true = is.tries in cc

  pub lane-decides : list_all (λ i. i.of == 0) lane ≡ true → spills_cut end lane ≡ true → none_twice (entries_seen lane) ≡ true → (stops : Stops)
      → ((stop : SourceEnd) → Decides (stops_at stops stop) (SourceRuns sys kernel 1 ss stop told))
      → Decides (some_may_end stops end (spills_in lane)) (IsSourceLane w kernel end ss lane)
  unfolding entries_seen
  lane-decides alone spills tries stops runs = decides (some_may_end stops end (spills_in lane)) (IsSourceLane w kernel end ss lane) holds fails
    where
      holds : some_may_end stops end (spills_in lane) ≡ true → IsSourceLane w kernel end ss lane
      holds e =
          let some = allowed stops end (spills_in lane) e in
          record { alone = alone; spills = spills; tries = tries; stimuli = (some.0, moved some.0 (flag-runs (stops_at stops some.0) _ (runs some.0) some.1), some.2) }

      fails : some_may_end stops end (spills_in lane) ≡ false → IsSourceLane w kernel end ss lane → ⊥
      fails e is =
          let flag : stops_at stops is.stimuli.0 ≡ true = runs-flag (stops_at stops is.stimuli.0) _ (runs is.stimuli.0) (back is.stimuli.0 is.stimuli.1) in
          let some : some_may_end stops end (spills_in lane) ≡ true = is-allowed stops end (spills_in lane) is.stimuli.0 flag is.stimuli.2 in
          cc

-- one of two
decides-either : (a b : Bool) (P Q : Type 0) → Decides a P → Decides b Q → Decides (a || b) (P ⊎ Q)
unfolding Decides
decides-either true b P Q p q = inl p
decides-either false true P Q p q = inr q
decides-either false false P Q p q = both
  where
    both : P ⊎ Q → ⊥
    both (inl h) = p h
    both (inr h) = q h

module _ (sys : System) (j : Journal) (kernel : ℕ) (ss : List Stim) (lane : List Item) (told : List Told) (same : j.kernel ≡ kernel) (records : told ≡ source_records (facts_of sys j) lane) (stops : Stops)
    (runs : (stop : SourceEnd) → Decides (stops_at stops stop) (SourceRuns sys kernel 1 ss stop told)) where
  runs-at : (stop : SourceEnd) → Decides (stops_at stops stop) (SourceRuns sys j.kernel 1 ss stop (source_records (facts_of sys j) lane))
  runs-at stop =
      subst (λ k. Decides (stops_at stops stop) (SourceRuns sys k 1 ss stop (source_records (facts_of sys j) lane))) (sym same)
      (subst (λ g. Decides (stops_at stops stop) (SourceRuns sys kernel 1 ss stop g)) records (runs stop))

  pub spill-decides : (cuts : Bool) → Decides (may_spill stops cuts) (SpillStands sys j cuts ss lane)
  unfolding SpillStands
  spill-decides true = runs-at InStimulus
  spill-decides false = decides-either stops.before_stimulus stops.all_done _ _ (runs-at BeforeStimulus) (runs-at AllDone)
