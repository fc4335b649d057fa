-- The lane of a source, with tries, while the run goes on, and where it ends.
use Rattle.std.proofs.Common.{◌≡◌, ℕ, ◌+◌, ◌<◌, ◌==◌, Bool, true, false, not, ◌||◌, List, [], ◌∷◌, ◌++◌, map, length, refl, sym, ◌∙◌, ap, subst, arith, append-nil}
use Rattle.std.specs.Prelude.{◌≢◌}
use Rattle.std.specs.List.{list_all, list_any, filter_map}
use Rattle.std.proofs.lemmas.Bool.{or_parts}
use Rattle.std.proofs.lemmas.List.{length-map}
use Rattle.std.proofs.lemmas.List.Elements.{filter_map-append}
use Rattle.std.proofs.lemmas.List.Folds.{list_any-append}
use Rattle.qp_model.specs.declared.stimulus.Stim.{Stim}
use Rattle.qp_model.specs.declared.systems.System.{System}
use Rattle.qp_model.specs.declared.bodies.Body.TheVariants as body
use Rattle.qp_model.specs.Record.{Item}
use Rattle.qp_model.specs.Told.{Told, ToldItem, plain, for_object, untold}
use Rattle.qp_model.specs.Knowing.{told_alone}
use Rattle.qp_model.specs.Kernels.{sim, may_try}
use Rattle.qp_model.specs.Ends.{is_spent, is_spill, is_end, may_cut, spills_in, spills_cut, ends_last}
use Rattle.qp_model.specs.End.{spills_state}
use Rattle.qp_model.specs.Sources.{StimFits, SourceEnd, AllDone, AtAssert, InStimulus, SourceRuns, entry_seen, look_may, may_end, none_twice}
use Rattle.qp_model_order.specs.SourceRun.{untold_all, source_told}
use Rattle.qp_model_order.specs.Placing.{AreBehind, spill_item}
use Rattle.qp_model_order.specs.Stimulus.{source_items}
use Rattle.qp_model_order.specs.Laws.{stimulus_told}
use Rattle.qp_model_order.proofs.CalmLemmas.{calm-no_spill, calm-ends_last, calm-spills_cut, calm-states, IsMild, mild-cut, mild-states, mild-no_spill}
use Rattle.qp_model_order.proofs.StimLemmas.{any-both}
use Rattle.qp_model_order.proofs.SourceLemmas.{runs-stimulus, runs-asserted, runs-cut}
use Rattle.qp_model_order.proofs.StimulusForm.{stimulus-form, stimulus-items, cut-plain, cut-items}
use Rattle.qp_model.proofs.FitsLemmas.{all-append}
use Rattle.qp_model.proofs.KnowingLemmas.{told-source}
use Rattle.qp_port_law.specs.SourcesLeft.{SourceLeaves}
use Rattle.qp_port_lanes.specs.CursorAt.{tries_in}
use Rattle.qp_model_order.proofs.SourceLanes.{stated, stim-ends, alone-source, unspilled, calm-unspent, plain-mild, untold-append, alone-append, source_told-append}

pub tries-append : (ts us : List ToldItem) → tries_in (ts ++ us) ≡ tries_in ts ++ tries_in us
tries-append ts us = ap (λ x. filter_map (λ i. entry_seen i.body) x) (untold-append ts us) ∙ filter_map-append (λ i. entry_seen i.body) (untold_all ts) (untold_all us)

pub tries-quiet : (ts us : List ToldItem) → tries_in us ≡ [] → tries_in (ts ++ us) ≡ tries_in ts
tries-quiet ts us none = tries-append ts us ∙ ap (λ x. tries_in ts ++ x) none ∙ append-nil (tries_in ts)

pub no-look : (kernel : ℕ) → may_try kernel ≡ true → look_may kernel 0 ≡ true
no-look kernel may = rw may refl

-- the lane of a source that has nothing in it that ends a lane, up to here
pub record Calm (told : List ToldItem) : Type 0 where
  pub alone : list_all (λ i. i.of == 0) (untold_all told) ≡ true
  pub calm : list_any (λ i. is_end i.body) (untold_all told) ≡ false
  pub tries : none_twice (tries_in told) ≡ true

-- whole stimuli are done
pub record Done (sys : System) (done : List Stim) (told : List ToldItem) : Type 0 where
  pub is_calm : Calm told
  pub runs : (kernel : ℕ) → may_try kernel ≡ true → SourceRuns sys kernel 1 done AllDone (told_alone told)

-- nothing ends the lane
pub still : (sys : System) (kernel end : ℕ) (ss : List Stim) (told : List ToldItem) (stop : SourceEnd) → Calm told
    → SourceRuns sys kernel 1 ss stop (told_alone told) → may_end end false stop ≡ true → SourceLeaves sys kernel end ss told
unfolding spills_cut ends_last spills_state
still sys kernel end ss told stop old runs may =
    let none = calm-no_spill (untold_all told) old.calm in
    let whole = append-nil (untold_all told) in
    record {
      alone = old.alone;
      spills = ap (spills_cut end) (sym whole) ∙ calm-spills_cut end (untold_all told) [] old.calm refl;
      tries = old.tries;
      stop = stop;
      runs = subst (SourceRuns sys kernel 1 ss stop) (sym (unspilled told none)) runs;
      may = ap (λ b. may_end end b stop) none ∙ may;
      ends = ap ends_last (sym whole) ∙ calm-ends_last (untold_all told) [] old.calm refl;
      unspent = calm-unspent (untold_all told) old.calm;
      states = ap (spills_state 0) (sym whole) ∙ calm-states 0 (untold_all told) [] old.calm refl;
    }

-- the lane has no room, where it may stop
pub full-lane : (sys : System) (kernel end : ℕ) (ss : List Stim) (told : List ToldItem) (stop : SourceEnd) (n : ℕ) → may_cut end ≡ true → Calm told
    → SourceRuns sys kernel 1 ss stop (told_alone told) → may_end end true stop ≡ true
    → n ≡ length told → 999992 < n → SourceLeaves sys kernel end ss (told ++ for_object 0 (plain (body.Spill n)) ∷ [])
unfolding spills_cut ends_last spills_state
full-lane sys kernel end ss told stop n early old runs may count many =
    let spill = for_object 0 (plain (body.Spill n)) ∷ [] in
    let whole = untold-append told spill in
    let none = calm-no_spill (untold_all told) old.calm in
    let spilled : spills_in (untold_all (told ++ spill)) ≡ true = ap spills_in whole ∙ any-last (untold_all told) n in
    let long : length (untold_all told) ≡ length told = length-map told untold in
    let at : n ≡ 0 + length (untold_all told) = omega (arith, long, count) in
    record {
      alone = rw whole (all-append (λ i. i.of == 0) (untold_all told) (spill_item n ∷ []) old.alone refl);
      spills = rw whole (calm-spills_cut end (untold_all told) (spill_item n ∷ []) old.calm early);
      tries = ap none_twice (tries-quiet told spill refl) ∙ old.tries;
      stop = stop;
      runs = subst (SourceRuns sys kernel 1 ss stop) (sym (source_told-append told spill ∙ append-nil (source_told told) ∙ unspilled told none)) runs;
      may = ap (λ b. may_end end b stop) spilled ∙ may;
      ends = rw whole (calm-ends_last (untold_all told) (spill_item n ∷ []) old.calm refl);
      unspent = rw whole (any-both (λ i. is_spent i.body) (untold_all told) (spill_item n ∷ []) (calm-unspent (untold_all told) old.calm) refl);
      states = rw whole (calm-states 0 (untold_all told) (spill_item n ∷ []) old.calm (stated n (0 + length (untold_all told)) at many));
    }
  where
    any-last : (is : List Item) (k : ℕ) → spills_in (is ++ spill_item k ∷ []) ≡ true
    any-last [] k = refl
    any-last (i ∷ is) k = go (is_spill i.body) (any-last is k)
      where
        go : (b : Bool) → spills_in (is ++ spill_item k ∷ []) ≡ true → (b || spills_in (is ++ spill_item k ∷ [])) ≡ true
        go true h = refl
        go false h = h

-- The stimulus behind whole ones.
module _ (sys : System) (done : List Stim) (told : List ToldItem) (old : Done sys done told) (s : Stim) where
  abbrev block : List Told → List ToldItem
  block one = stimulus_told (1 + length done) 0 one

  -- it is whole
  pub done-more : (one : List Told) → ((kernel : ℕ) → StimFits sys kernel s false one) → Done sys (done ++ s ∷ []) (told ++ block one)
  done-more one fits =
      let items = stimulus-items false one (stimulus-form sys s false one (fits sim)) in
      let quiet : tries_in (block one) ≡ [] = items.seen in
      record {
        is_calm = record {
          alone = rw (untold-append told (block one)) (all-append (λ i. i.of == 0) (untold_all told) (untold_all (block one)) old.is_calm.alone (alone-source one));
          calm = rw (untold-append told (block one)) (any-both (λ i. is_end i.body) (untold_all told) (untold_all (block one)) old.is_calm.calm (items.calm refl));
          tries = ap none_twice (tries-quiet told (block one) quiet) ∙ old.is_calm.tries;
        };
        runs = λ kernel may. rw (alone-append told (plain (body.Stim (1 + length done) 0) ∷ one)) (runs-stimulus sys kernel done (told_alone told) (old.runs kernel may) s [] 0 one (no-look kernel may) (fits kernel));
      }

  pub quiet-more : (one : List Told) → ((kernel : ℕ) → StimFits sys kernel s false one) → tries_in (block one) ≡ []
  quiet-more one fits = (stimulus-items false one (stimulus-form sys s false one (fits sim))).seen

  -- it ends in its assertion
  pub asserted-lane : (kernel end : ℕ) (left : List Stim) (one : List Told) → may_try kernel ≡ true → may_cut end ≡ true → ((kernel : ℕ) → StimFits sys kernel s true one)
      → SourceLeaves sys kernel end (done ++ s ∷ left) (told ++ block one)
  unfolding spills_cut spills_state
  asserted-lane kernel end left one try early fits =
      let calm = old.is_calm.calm in
      let items = stimulus-items true one (stimulus-form sys s true one (fits sim)) in
      let whole = untold-append told (block one) in
      let mild : IsMild (untold_all (block one)) = (refl, refl, mild-from (source_items one) items.behind items.unspent) in
      let alone_block = append-nil (untold_all (block one)) in
      let none : spills_in (untold_all (told ++ block one)) ≡ false = ap spills_in whole ∙ any-both (λ i. is_spill i.body) (untold_all told) (untold_all (block one)) (calm-no_spill (untold_all told) calm) (mild-no_spill (untold_all (block one)) mild) in
      let quiet : tries_in (block one) ≡ [] = items.seen in
      record {
        alone = rw whole (all-append (λ i. i.of == 0) (untold_all told) (untold_all (block one)) old.is_calm.alone (alone-source one));
        spills = rw whole (calm-spills_cut end (untold_all told) (untold_all (block one)) calm (ap (spills_cut end) (sym alone_block) ∙ mild-cut end (untold_all (block one)) [] mild refl));
        tries = ap none_twice (tries-quiet told (block one) quiet) ∙ old.is_calm.tries;
        stop = AtAssert;
        runs =
            subst (SourceRuns sys kernel 1 (done ++ s ∷ left) AtAssert) (sym (unspilled (told ++ block one) none ∙ alone-append told (plain (body.Stim (1 + length done) 0) ∷ one)))
            (runs-asserted sys kernel done (told_alone told) (old.runs kernel try) s left 0 one (no-look kernel try) (fits kernel));
        may = early;
        ends = rw whole (calm-ends_last (untold_all told) (untold_all (block one)) calm (stim-ends (1 + length done) 0 (source_items one) items.ends));
        unspent = rw whole (any-both (λ i. is_spent i.body) (untold_all told) (untold_all (block one)) (calm-unspent (untold_all told) calm) items.unspent);
        states =
            rw whole (calm-states 0 (untold_all told) (untold_all (block one)) calm
            (ap (spills_state (0 + length (untold_all told))) (sym alone_block) ∙ mild-states (0 + length (untold_all told)) (untold_all (block one)) [] mild refl));
      }
    where
      mild-from : (is : List Item) → AreBehind false is → list_any (λ i. is_spent i.body) is ≡ false → IsMild is
      mild-from [] h k = tt
      mild-from (i ∷ is) h k = let parts = or_parts (is_spent i.body) (list_any (λ i. is_spent i.body) is) k in (parts.0, not-false (is_spill i.body) h.1, mild-from is h.2 parts.1)
        where
          not-false : (b : Bool) → (false || not b) ≡ true → b ≡ false
          not-false true e = absurd (cc)
          not-false false e = refl

  -- a `spill` cuts it
  pub cut-lane : (kernel end : ℕ) (left : List Stim) (n : ℕ) (one back : List Told) (asserted : Bool) → may_try kernel ≡ true → may_cut end ≡ true
      → back ≢ [] → ((kernel : ℕ) → StimFits sys kernel s asserted (one ++ back)) → n ≡ length told + (1 + length one) → 999992 < n
      → SourceLeaves sys kernel end (done ++ s ∷ left) (told ++ (block one ++ for_object 0 (plain (body.Spill n)) ∷ []))
  unfolding spills_cut spills_state ends_last
  cut-lane kernel end left n one back asserted try early some fits count many =
      let calm = old.is_calm.calm in
      let spill = for_object 0 (plain (body.Spill n)) ∷ [] in
      let last = spill_item n ∷ [] in
      let whole : untold_all (told ++ (block one ++ spill)) ≡ untold_all told ++ (untold_all (block one) ++ last) = untold-append told (block one ++ spill) ∙ ap (λ x. untold_all told ++ x) (untold-append (block one) spill) in
      let is = cut-plain asserted one back some (stimulus-form sys s asserted (one ++ back) (fits sim)) in
      let items = cut-items asserted one back n some (stimulus-form sys s asserted (one ++ back) (fits sim)) in
      let mild : IsMild (untold_all (block one)) = (refl, refl, plain-mild one is) in
      let spilled : spills_in (untold_all (told ++ (block one ++ spill))) ≡ true =
      ap spills_in whole ∙ list_any-append (λ i. is_spill i.body) (untold_all told) (untold_all (block one) ++ last) ∙ rw (calm-no_spill (untold_all told) calm, list_any-append (λ i. is_spill i.body) (untold_all (block one)) last, mild-no_spill (untold_all (block one)) mild) refl in
      let long : length (untold_all told) ≡ length told = length-map told untold in
      let wide : length (untold_all (block one)) ≡ 1 + length one = length-map (map (for_object 0) (plain (body.Stim (1 + length done) 0) ∷ one)) untold ∙ length-map (plain (body.Stim (1 + length done) 0) ∷ one) (for_object 0) ∙ omega arith in
      let at : n ≡ 0 + length (untold_all told) + length (untold_all (block one)) = omega (arith, long, wide, count) in
      let quiet : tries_in (block one ++ spill) ≡ [] = tries-whole items.seen in
      record {
        alone = rw whole (all-append (λ i. i.of == 0) (untold_all told) (untold_all (block one) ++ last) old.is_calm.alone (all-append (λ i. i.of == 0) (untold_all (block one)) last (alone-source one) refl));
        spills = rw whole (calm-spills_cut end (untold_all told) (untold_all (block one) ++ last) calm (mild-cut end (untold_all (block one)) last mild early));
        tries = ap none_twice (tries-quiet told (block one ++ spill) quiet) ∙ old.is_calm.tries;
        stop = InStimulus;
        runs =
            subst (SourceRuns sys kernel 1 (done ++ s ∷ left) InStimulus)
            (sym (source_told-append told (block one ++ spill) ∙ ap (λ x. source_told told ++ x) (source_told-append (block one) spill ∙ append-nil (source_told (block one)))
            ∙ ap (λ x. x ++ source_told (block one)) (unspilled told (calm-no_spill (untold_all told) calm))
            ∙ ap (λ x. told_alone told ++ x) (unspilled (block one) (mild-no_spill (untold_all (block one)) mild) ∙ told-source (plain (body.Stim (1 + length done) 0) ∷ one))))
            (runs-cut sys kernel done (told_alone told) (old.runs kernel try) s left 0 one back asserted (no-look kernel try) some (fits kernel));
        may = ap (λ b. may_end end b InStimulus) spilled ∙ rw early refl;
        ends = rw whole (calm-ends_last (untold_all told) (untold_all (block one) ++ last) calm (stim-ends (1 + length done) 0 (source_items one ++ last) items.ends));
        unspent = rw whole (any-both (λ i. is_spent i.body) (untold_all told) (untold_all (block one) ++ last) (calm-unspent (untold_all told) calm) items.unspent);
        states =
            rw whole (calm-states 0 (untold_all told) (untold_all (block one) ++ last) calm
            (mild-states (0 + length (untold_all told)) (untold_all (block one)) last mild (stated n (0 + length (untold_all told) + length (untold_all (block one))) at many)));
      }
    where
      tries-whole : filter_map (λ i. entry_seen i.body) (source_items one ++ spill_item n ∷ []) ≡ [] → tries_in (block one ++ for_object 0 (plain (body.Spill n)) ∷ []) ≡ []
      tries-whole none = ap (λ x. filter_map (λ i. entry_seen i.body) x) (untold-append (block one) (for_object 0 (plain (body.Spill n)) ∷ [])) ∙ none
