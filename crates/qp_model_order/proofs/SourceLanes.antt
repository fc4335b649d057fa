-- The lane of a source while the run goes on, and where it ends.
use Rattle.std.proofs.Common.{◌≡◌, ℕ, ◌+◌, ◌<◌, ◌==◌, nat_lt, Bool, true, false, not, ◌&&◌, List, [], ◌∷◌, ◌++◌, map, length, refl, sym, ◌∙◌, ap, subst, inl, arith, append-nil}
use Rattle.std.specs.Prelude.{◌≢◌}
use Rattle.std.specs.List.{list_all, list_any, filter}
use Rattle.std.proofs.lemmas.Bool.{or_parts}
use Rattle.std.proofs.lemmas.List.{map-append, length-map}
use Rattle.std.proofs.lemmas.List.Elements.{filter_map-append, filter-append}
use Rattle.std.proofs.lemmas.List.Folds.{list_any-append}
use Rattle.std.proofs.lemmas.Bool.Decides.{nat_tests}
use Rattle.qp_model.specs.declared.stimulus.Stim.{Stim}
use Rattle.qp_model.specs.declared.systems.System.{System}
use Rattle.qp_model.specs.declared.bodies.Body.TheVariants as body
use Rattle.qp_model.specs.Record.{Item}
use Rattle.qp_model.specs.Told.{Told, ToldItem, plain, for_object, untold}
use Rattle.qp_model.specs.Knowing.{Facts, told, ceiling_after, told_lane, told_alone}
use Rattle.qp_model.specs.Kernels.{sim}
use Rattle.qp_model.specs.Ends.{is_spent, is_spill, is_end, may_cut, spills_in, spills_cut, ends_last}
use Rattle.qp_model.specs.End.{spills_state}
use Rattle.qp_model.specs.Sources.{StimFits, SourceEnd, AllDone, BeforeStimulus, AtAssert, InStimulus, SourceRuns, entry_seen, may_end}
use Rattle.qp_model_order.specs.SourceRun.{untold_all, source_told, SourceGoes, SourceEnds}
use Rattle.qp_model_order.specs.Placing.{AreBehind, spill_item}
use Rattle.qp_model_order.specs.Stimulus.{ArePlain, source_items}
use Rattle.qp_model_order.specs.Laws.{stimulus_told, SourceLaneGoesOn, SourceLaneIsWhole, SourceLaneStops}
use Rattle.qp_model_order.proofs.CalmLemmas.{calm-parts, calm-no_spill, calm-ends_last, calm-spills_cut, calm-states, IsMild, mild-cut, mild-states, mild-no_spill}
use Rattle.qp_model_order.proofs.StimLemmas.{any-both}
use Rattle.qp_model_order.proofs.SourceLemmas.{runs-stimulus, runs-before, runs-asserted, runs-cut}
use Rattle.qp_model_order.proofs.StimulusForm.{stimulus-form, stimulus-items, cut-plain, cut-items}
use Rattle.qp_model.proofs.FitsLemmas.{all-append}
use Rattle.qp_model.proofs.KnowingLemmas.{told-source}

-- a finished lane as it is told
pub untold-lane : (w : Facts) (c : ℕ) (is : List Item) → untold_all (told_lane w c is) ≡ is
unfolding told_lane told
untold-lane w c [] = refl
untold-lane w c (i ∷ is) = ap (λ js. i ∷ js) (untold-lane w (ceiling_after c i.body) is)

pub untold-append : (ts us : List ToldItem) → untold_all (ts ++ us) ≡ untold_all ts ++ untold_all us
untold-append ts us = map-append untold ts us

pub alone-source : (g : List Told) → list_all (λ i. i.of == 0) (source_items g) ≡ true
alone-source [] = refl
alone-source (t ∷ ts) = alone-source ts

pub alone-append : (ts : List ToldItem) (g : List Told) → told_alone (ts ++ map (for_object 0) g) ≡ told_alone ts ++ g
alone-append ts g = map-append (λ t. t.told) ts (map (for_object 0) g) ∙ ap (λ x. told_alone ts ++ x) (told-source g)

-- records without a `spill` are all told
pub unspilled : (ts : List ToldItem) → spills_in (untold_all ts) ≡ false → source_told ts ≡ told_alone ts
unspilled [] h = refl
unspilled (t ∷ ts) h = let parts = or_parts (is_spill t.told.body) (spills_in (untold_all ts)) h in rw parts.0 (ap (λ x. t.told ∷ x) (unspilled ts parts.1))

pub source_told-append : (ts us : List ToldItem) → source_told (ts ++ us) ≡ source_told ts ++ source_told us
source_told-append ts us = ap told_alone (filter-append (λ t. not (is_spill t.told.body)) ts us) ∙ map-append (λ t. t.told) (filter (λ t. not (is_spill t.told.body)) ts) (filter (λ t. not (is_spill t.told.body)) us)

pub calm-unspent : (is : List Item) → list_any (λ i. is_end i.body) is ≡ false → list_any (λ i. is_spent i.body) is ≡ false
calm-unspent [] h = refl
calm-unspent (i ∷ is) h = let parts = or_parts (is_end i.body) (list_any (λ i. is_end i.body) is) h in rw ((calm-parts i.body parts.0).1, calm-unspent is parts.1) refl

pub stimulus-plain : (p look : ℕ) (one : List Told) → untold_all (stimulus_told p look one) ≡ record { of = 0; body = body.Stim p look } ∷ source_items one
stimulus-plain p look one = refl

pub source_lane_goes_on : SourceLaneGoesOn
source_lane_goes_on sys done told old s look one fits =
    let items = stimulus-items false one (stimulus-form sys s false one fits) in
    let block = stimulus_told (1 + length done) look one in
    record {
      alone = rw (untold-append told block) (all-append (λ i. i.of == 0) (untold_all told) (untold_all block) old.alone (alone-source one));
      runs = rw (alone-append told (plain (body.Stim (1 + length done) look) ∷ one)) (runs-stimulus sys sim done (told_alone told) old.runs s [] look one refl fits);
      calm = rw (untold-append told block) (any-both (λ i. is_end i.body) (untold_all told) (untold_all block) old.calm (items.calm refl));
      settled = rw (untold-append told block, filter_map-append (λ i. entry_seen i.body) (untold_all told) (untold_all block), old.settled) items.seen;
    }

-- nothing ends the lane
pub still : (sys : System) (end : ℕ) (cuts : Bool) (done ss : List Stim) (told : List ToldItem) (stop : SourceEnd) → SourceGoes sys sim done told
    → SourceRuns sys sim 1 ss stop (told_alone told) → may_end end false stop ≡ true → SourceEnds sys sim end cuts ss told
unfolding spills_cut ends_last spills_state
still sys end cuts done ss told stop old runs may =
    let none = calm-no_spill (untold_all told) old.calm in
    let whole = append-nil (untold_all told) in
    record {
      alone = old.alone;
      spills = ap (spills_cut end) (sym whole) ∙ calm-spills_cut end (untold_all told) [] old.calm refl;
      stop = stop;
      runs = subst (SourceRuns sys sim 1 ss stop) (sym (unspilled told none)) runs;
      may = ap (λ b. may_end end b stop) none ∙ may;
      cut = λ any. absurd (let wrong : true ≡ false = sym any ∙ none in cc);
      settled = old.settled;
      ends = ap ends_last (sym whole) ∙ calm-ends_last (untold_all told) [] old.calm refl;
      unspent = calm-unspent (untold_all told) old.calm;
      states = ap (spills_state 0) (sym whole) ∙ calm-states 0 (untold_all told) [] old.calm refl;
    }

pub source_lane_is_whole : SourceLaneIsWhole
source_lane_is_whole sys end cuts ss told old = still sys end cuts ss ss told AllDone old old.runs refl

pub mild-from : (is : List Item) → AreBehind false is → list_any (λ i. is_spent i.body) is ≡ false → IsMild is
mild-from [] h k = tt
mild-from (i ∷ is) h k =
    let parts = or_parts (is_spent i.body) (list_any (λ i. is_spent i.body) is) k in
    (parts.0, not-true (is_spill i.body) h.1, mild-from is h.2 parts.1)
  where
    not-true : (b : Bool) → not b ≡ true → b ≡ false
    not-true true h = absurd (cc)
    not-true false h = refl

pub plain-mild : (g : List Told) → ArePlain g → IsMild (source_items g)
plain-mild [] h = tt
plain-mild (t ∷ ts) h = let parts = calm-parts t.body h.0.calm in (parts.1, parts.2, plain-mild ts h.1)

pub stim-ends : (p look : ℕ) (is : List Item) → ends_last is ≡ true → ends_last (record { of = 0; body = body.Stim p look } ∷ is) ≡ true
unfolding ends_last
stim-ends p look [] h = refl
stim-ends p look (i ∷ is) h = h

pub stated : (n at : ℕ) → n ≡ at → 999992 < n → ((n == at) && nat_lt 999992 at && true) ≡ true
stated n at same many =
    let one : (n == at) ≡ true = grind (arith, nat_tests, same) in
    let two : nat_lt 999992 at ≡ true = grind (arith, nat_tests, many, same) in
    rw (one, two) refl

-- the lane has no room for the next stimulus
pub full-lane : (sys : System) (end : ℕ) (done : List Stim) (told : List ToldItem) (s : Stim) (left : List Stim) (n : ℕ) → may_cut end ≡ true → SourceGoes sys sim done told
    → n ≡ length told → 999992 < n → SourceEnds sys sim end false (done ++ s ∷ left) (told ++ for_object 0 (plain (body.Spill n)) ∷ [])
unfolding spills_cut ends_last spills_state
full-lane sys end done told s left n early old count many =
    let spill = for_object 0 (plain (body.Spill n)) ∷ [] in
    let whole = untold-append told spill in
    let none = calm-no_spill (untold_all told) old.calm in
    let long : length (untold_all told) ≡ length told = length-map told untold in
    let at : n ≡ 0 + length (untold_all told) = omega (arith, long, count) in
    record {
      alone = rw whole (all-append (λ i. i.of == 0) (untold_all told) (spill_item n ∷ []) old.alone refl);
      spills = rw whole (calm-spills_cut end (untold_all told) (spill_item n ∷ []) old.calm early);
      stop = BeforeStimulus;
      runs =
          subst (SourceRuns sys sim 1 (done ++ s ∷ left) BeforeStimulus) (sym (source_told-append told spill ∙ append-nil (source_told told) ∙ unspilled told none))
          (runs-before sys sim done (told_alone told) old.runs s left);
      may = early;
      cut = λ any. inl refl;
      settled = rw (whole, filter_map-append (λ i. entry_seen i.body) (untold_all told) (spill_item n ∷ []), old.settled) refl;
      ends = rw whole (calm-ends_last (untold_all told) (spill_item n ∷ []) old.calm refl);
      unspent = rw whole (any-both (λ i. is_spent i.body) (untold_all told) (spill_item n ∷ []) (calm-unspent (untold_all told) old.calm) refl);
      states = rw whole (calm-states 0 (untold_all told) (spill_item n ∷ []) old.calm (stated n (0 + length (untold_all told)) at many));
    }

-- the stimulus ends in its assertion
pub asserted-lane : (sys : System) (end : ℕ) (cuts : Bool) (done : List Stim) (told : List ToldItem) (s : Stim) (left : List Stim) (look : ℕ) (one : List Told) → may_cut end ≡ true → SourceGoes sys sim done told
    → StimFits sys sim s true one → SourceEnds sys sim end cuts (done ++ s ∷ left) (told ++ stimulus_told (1 + length done) look one)
unfolding spills_cut spills_state
asserted-lane sys end cuts done told s left look one early old fits =
    let items = stimulus-items true one (stimulus-form sys s true one fits) in
    let block = stimulus_told (1 + length done) look one in
    let whole = untold-append told block in
    let mild : IsMild (untold_all block) = (refl, refl, mild-from (source_items one) items.behind items.unspent) in
    let alone_block = append-nil (untold_all block) in
    let none : spills_in (untold_all (told ++ block)) ≡ false = ap spills_in whole ∙ any-both (λ i. is_spill i.body) (untold_all told) (untold_all block) (calm-no_spill (untold_all told) old.calm) (mild-no_spill (untold_all block) mild) in
    record {
      alone = rw whole (all-append (λ i. i.of == 0) (untold_all told) (untold_all block) old.alone (alone-source one));
      spills = rw whole (calm-spills_cut end (untold_all told) (untold_all block) old.calm (ap (spills_cut end) (sym alone_block) ∙ mild-cut end (untold_all block) [] mild refl));
      stop = AtAssert;
      runs =
          subst (SourceRuns sys sim 1 (done ++ s ∷ left) AtAssert) (sym (unspilled (told ++ block) none ∙ alone-append told (plain (body.Stim (1 + length done) look) ∷ one)))
          (runs-asserted sys sim done (told_alone told) old.runs s left look one refl fits);
      may = early;
      cut = λ any. absurd (let wrong : true ≡ false = sym any ∙ none in cc);
      settled = rw (whole, filter_map-append (λ i. entry_seen i.body) (untold_all told) (untold_all block), old.settled) items.seen;
      ends = rw whole (calm-ends_last (untold_all told) (untold_all block) old.calm (stim-ends (1 + length done) look (source_items one) items.ends));
      unspent = rw whole (any-both (λ i. is_spent i.body) (untold_all told) (untold_all block) (calm-unspent (untold_all told) old.calm) items.unspent);
      states =
          rw whole (calm-states 0 (untold_all told) (untold_all block) old.calm
          (ap (spills_state (0 + length (untold_all told))) (sym alone_block) ∙ mild-states (0 + length (untold_all told)) (untold_all block) [] mild refl));
    }

-- a `spill` cuts the stimulus
pub cut-lane : (sys : System) (end : ℕ) (done : List Stim) (told : List ToldItem) (s : Stim) (left : List Stim) (look n : ℕ) (one back : List Told) (asserted : Bool) → may_cut end ≡ true → SourceGoes sys sim done told
    → back ≢ [] → StimFits sys sim s asserted (one ++ back) → n ≡ length told + (1 + length one) → 999992 < n
    → SourceEnds sys sim end true (done ++ s ∷ left) (told ++ (stimulus_told (1 + length done) look one ++ for_object 0 (plain (body.Spill n)) ∷ []))
unfolding spills_cut spills_state ends_last
cut-lane sys end done told s left look n one back asserted early old some fits count many =
    let block = stimulus_told (1 + length done) look one in
    let spill = for_object 0 (plain (body.Spill n)) ∷ [] in
    let last = spill_item n ∷ [] in
    let whole : untold_all (told ++ (block ++ spill)) ≡ untold_all told ++ (untold_all block ++ last) = untold-append told (block ++ spill) ∙ ap (λ x. untold_all told ++ x) (untold-append block spill) in
    let is = cut-plain asserted one back some (stimulus-form sys s asserted (one ++ back) fits) in
    let items = cut-items asserted one back n some (stimulus-form sys s asserted (one ++ back) fits) in
    let mild : IsMild (untold_all block) = (refl, refl, plain-mild one is) in
    let spilled : spills_in (untold_all (told ++ (block ++ spill))) ≡ true =
    ap spills_in whole ∙ list_any-append (λ i. is_spill i.body) (untold_all told) (untold_all block ++ last) ∙ rw (calm-no_spill (untold_all told) old.calm, list_any-append (λ i. is_spill i.body) (untold_all block) last, mild-no_spill (untold_all block) mild) refl in
    let long : length (untold_all told) ≡ length told = length-map told untold in
    let wide : length (untold_all block) ≡ 1 + length one = length-map (map (for_object 0) (plain (body.Stim (1 + length done) look) ∷ one)) untold ∙ length-map (plain (body.Stim (1 + length done) look) ∷ one) (for_object 0) ∙ omega arith in
    let at : n ≡ 0 + length (untold_all told) + length (untold_all block) = omega (arith, long, wide, count) in
    record {
      alone = rw whole (all-append (λ i. i.of == 0) (untold_all told) (untold_all block ++ last) old.alone (all-append (λ i. i.of == 0) (untold_all block) last (alone-source one) refl));
      spills = rw whole (calm-spills_cut end (untold_all told) (untold_all block ++ last) old.calm (mild-cut end (untold_all block) last mild early));
      stop = InStimulus;
      runs =
          subst (SourceRuns sys sim 1 (done ++ s ∷ left) InStimulus)
          (sym (source_told-append told (block ++ spill) ∙ ap (λ x. source_told told ++ x) (source_told-append block spill ∙ append-nil (source_told block))
          ∙ ap (λ x. x ++ source_told block) (unspilled told (calm-no_spill (untold_all told) old.calm))
          ∙ ap (λ x. told_alone told ++ x) (unspilled block (mild-no_spill (untold_all block) mild) ∙ told-source (plain (body.Stim (1 + length done) look) ∷ one))))
          (runs-cut sys sim done (told_alone told) old.runs s left look one back asserted refl some fits);
      may = ap (λ b. may_end end b InStimulus) spilled ∙ rw early refl;
      cut = λ any. refl;
      settled = rw (whole, filter_map-append (λ i. entry_seen i.body) (untold_all told) (untold_all block ++ last), old.settled) items.seen;
      ends = rw whole (calm-ends_last (untold_all told) (untold_all block ++ last) old.calm (stim-ends (1 + length done) look (source_items one ++ last) items.ends));
      unspent = rw whole (any-both (λ i. is_spent i.body) (untold_all told) (untold_all block ++ last) (calm-unspent (untold_all told) old.calm) items.unspent);
      states =
          rw whole (calm-states 0 (untold_all told) (untold_all block ++ last) old.calm
          (mild-states (0 + length (untold_all told)) (untold_all block) last mild (stated n (0 + length (untold_all told) + length (untold_all block)) at many)));
    }

pub source_lane_stops : SourceLaneStops
source_lane_stops sys end done told early old s left = (
  λ cuts. still sys end cuts done (done ++ s ∷ left) told BeforeStimulus old (runs-before sys sim done (told_alone told) old.runs s left) early,
  λ n count many. full-lane sys end done told s left n early old count many,
  λ cuts look one fits. asserted-lane sys end cuts done told s left look one early old fits,
  λ look n one back asserted some fits count many. cut-lane sys end done told s left look n one back asserted early old some fits count many,
)
