-- A home lane where its run ends.
use Rattle.std.proofs.Common.{◌≡◌, ℕ, ◌+◌, ◌<◌, ◌==◌, nat_lt, Bool, true, false, cond, List, [], ◌∷◌, ◌++◌, length, refl, sym, ◌∙◌, ap, subst, inl, inr, arith, Option, Some, None, append_assoc, append-nil}
use Rattle.std.specs.Prelude.{◌⊎◌, ◌≢◌}
use Rattle.std.specs.List.{list_all, list_any}
use Rattle.std.proofs.lemmas.Bool.{and_from}
use Rattle.std.proofs.lemmas.Bool.Decides.{nat_tests}
use Rattle.std.proofs.lemmas.List.{length-map, map-append}
use Rattle.qp_chart.specs.declared.checked.Chart.{Chart}
use Rattle.qp_model.specs.declared.systems.System.{System}
use Rattle.qp_model.specs.declared.systems.ObjectDef.{ObjectDef}
use Rattle.qp_model.specs.declared.bodies.Entry.{Entry}
use Rattle.qp_model.specs.declared.bodies.Body.TheVariants as body
use Rattle.qp_model.specs.Record.{Item}
use Rattle.qp_model.specs.Told.{Told, ToldItem, Event, for_object, plain, untold}
use Rattle.qp_model.specs.Pieces.{Piece, Point, records_in, tell, ends_at_point}
use Rattle.qp_model.specs.Acts.{Config}
use Rattle.qp_model.specs.Able.{chart_able}
use Rattle.qp_model.specs.Ends.{is_end, may_cut, ends_last}
use Rattle.qp_model.specs.End.{took_count, spents_follow, spills_state}
use Rattle.qp_model.specs.HomeLane.{are_at_home, is_home_lane, all_differ}
use Rattle.qp_model.specs.ObjectShape.{CutGroups, ObjectGroups, BrokenStep, IsTurn, LooksOnly, Ends, OutOfBudget, BreaksStep}
use Rattle.qp_model.specs.Step.{Remainder, StepGoesOn, Step}
use Rattle.qp_model.specs.Course.{Cut, Stopped, Anywhere, FollowsTo, Starts, Course, actor, first_config, chart_at}
use Rattle.qp_model.specs.Lawful.{spill_cuts, dispatched}
use Rattle.qp_model.proofs.CourseLemmas.{course-start, ends-point, follows-anywhere, follows-course, follows-stopped}
use Rattle.qp_model.proofs.CutLemmas.{step-cut}
use Rattle.qp_model.proofs.GroupLemmas.{bare-append, bare-tell}
use Rattle.qp_model.proofs.SequenceLemmas.{sequence-none, sequence-snoc}
use Rattle.qp_model.proofs.ShapeLemmas.{StartShape, StepShape, groups-of, starts-shape, step-shape, turn-step}
use Rattle.qp_model.proofs.StepLemmas.{goes_on-completes}
use Rattle.qp_model_order.specs.SourceRun.{untold_all}
use Rattle.qp_model_order.proofs.CalmLemmas.{calm-all, calm-parts, calm-ends_last, calm-spents_follow, calm-states, mild-all, mild-follow, mild-states, spill_cuts-last}
use Rattle.qp_model_order.proofs.SourceLanes.{stated, untold-append}
use Rattle.qp_kernel.specs.Stages as stage
use Rattle.qp_kernel.specs.Stages.{ComesTo}
use Rattle.qp_kernel.specs.Turning.{seen_told, spill_told}
use Rattle.qp_kernel.specs.ZeroEnds.{cut_in, own_told}
use Rattle.qp_kernel.proofs.BareLemmas.{own-append}
use Rattle.qp_kernel.proofs.TurnLemmas.{CutForm, WithinIt, BehindIt, FailedForm, cut-form, failed-form, start-cut, start-failed}
use Rattle.qp_kernel.proofs.WaitLemmas.{follows-unstarted, follows-waiting, stopped-anywhere}
use Rattle.qp_kernel.proofs.ZeroLemmas.{ends-told}
use Rattle.qp_calls.specs.LaneView.{Own}
use Rattle.qp_port_law.specs.Homes.{home_told, is_spent_home, HomeEnds}
use Rattle.qp_port_law.specs.HomeLanes.{nils_in, looks_in, LooksOnce, IsHomeLane, IsPartHome, IsWholeHome}
use Rattle.qp_port_law.proofs.HomeRecords.{at-home_then, AreInside, of_it, other-zero, own-inside, drops-inside, inside-then, inside-home, inside-takes, inside-nils, inside-looks, inside-dispatched, inside-mild, own-of, home-of, home-append, dispatched-append, nils-append, looks-append, ends-asserts}
use Rattle.qp_model.proofs.LineLemmas.{same_number}
use Rattle.qp_port_law.proofs.HomeGrows.{home-at_end, home-new, took-more}
use Rattle.qp_port_law.proofs.HomeSteps.{course-bare, course-goes, part-groups, part-own, step-bare}

-- no record of the last ones breaks what a lane's end asks
pub record AreLast (o budget : ℕ) (told ts : List ToldItem) (es : List Entry) : Type 0 where
  pub at : are_at_home o budget true (length es) (untold_all ts) ≡ true
  pub nils : nils_in ts ≡ []
  pub looks : all_differ (looks_in (told ++ ts)) ≡ true
  pub ends : ends_last (untold_all ts) ≡ true
  pub spents : (shown : Option ℕ) → spents_follow shown (untold_all ts) ≡ true
  pub spent : list_all (is_spent_home o budget (untold_all (told ++ ts))) (untold_all ts) ≡ true
  pub states : spills_state (length told) (untold_all ts) ≡ true
  pub takes : took_count (untold_all ts) o ≡ 0

-- the looks of a lane that has looked once, or not at all, differ
pub looks-differ : (looked : Bool) (own : Own) (xs : List (ℕ × ℕ × ℕ)) → LooksOnce looked own xs → all_differ xs ≡ true
unfolding all_differ
looks-differ false own xs h = subst (λ x. all_differ x ≡ true) (sym h) refl
looks-differ true own xs h = subst (λ x. all_differ x ≡ true) (sym h.1) refl

module _ (sys : System) (d : ObjectDef) (budget : ℕ) (own : Own) (looked : Bool) (told : List ToldItem) (es : List Entry) (lane : IsHomeLane d.priority budget own looked told es) (end : ℕ) (early : may_cut end ≡ true) where
  abbrev o : ℕ
  o = d.priority

  -- Last records come to the lane.
  pub ends-by : (ts : List ToldItem) → AreLast d.priority budget told ts es → CutGroups sys d.priority true (cut_in end d.priority (untold_all (told ++ ts))) (home_told d.priority (told ++ ts))
      → (ps : List Piece) → records_in ps ≡ dispatched (own_told d.priority (told ++ ts)) → FollowsTo sys d (cut_in end d.priority (untold_all (told ++ ts))) ps → HomeEnds sys d budget end (told ++ ts)
  unfolding is_home_lane
  ends-by ts last groups ps bare_is follows =
      let whole = untold-append told ts in
      let ends : ends_last (untold_all (told ++ ts)) ≡ true = rw whole (calm-ends_last (untold_all told) (untold_all ts) lane.calm last.ends) in
      let counted : 0 + length (untold_all told) ≡ length told = let long : length (untold_all told) ≡ length told = length-map told untold in omega (arith, long) in
      record {
        shape = record { groups = groups; last = ends-asserts d.priority (told ++ ts) ends };
        home =
            subst (λ cuts. is_home_lane d.priority budget cuts (untold_all (told ++ ts)) ≡ true) (sym early)
            (and_from _ _ (and_from _ _ (home-at_end d.priority budget own looked told ts es lane last.at)
            (ap all_differ (nils-append told ts ∙ ap (λ xs. nils_in told ++ xs) last.nils ∙ append-nil (nils_in told)) ∙ lane.nils.differ)) last.looks);
        ps = ps;
        bare_is = bare_is;
        follows = follows;
        ends = ends;
        spents = rw whole (calm-spents_follow (untold_all told) (untold_all ts) None lane.calm last.spents);
        spent =
            subst (λ is. list_all (is_spent_home d.priority budget (untold_all (told ++ ts))) is ≡ true) (sym whole)
            (calm-all (is_spent_home d.priority budget (untold_all (told ++ ts))) (untold_all told) (untold_all ts) (λ i h. rw (calm-parts i.body h).1 refl) lane.calm last.spent);
        states = rw whole (calm-states 0 (untold_all told) (untold_all ts) lane.calm (subst (λ n. spills_state n (untold_all ts) ≡ true) (sym counted) last.states));
        budgets = let took = took-more d.priority told ts (length es) 0 lane.took last.takes in let few = lane.budgets in omega (arith, took, few);
      }

  -- however a list that stops is cut
  stopped-or_cut : (P : Cut → Type 0) (lane : List Item) → P Stopped → P Anywhere → P (cut_in end d.priority lane)
  stopped-or_cut P lane a b = rw early (by (spill_cuts d.priority lane))
    where
      by : (c : Bool) → P (cond c Anywhere Stopped)
      by true = b
      by false = a

  -- Last records where a lane may stop.
  pub ends-stopped : (ts : List ToldItem) → AreLast d.priority budget told ts es → (home_told d.priority (told ++ ts) ≡ []) ⊎ ObjectGroups sys d.priority true true (home_told d.priority (told ++ ts))
      → (ps : List Piece) → records_in ps ≡ dispatched (own_told d.priority (told ++ ts)) → FollowsTo sys d Stopped ps → HomeEnds sys d budget end (told ++ ts)
  unfolding CutGroups
  ends-stopped ts last groups ps bare_is follows =
      ends-by ts last
      (stopped-or_cut (λ cut. CutGroups sys d.priority true cut (home_told d.priority (told ++ ts))) (untold_all (told ++ ts)) groups ([], nothing groups))
      ps bare_is
      (stopped-or_cut (λ cut. FollowsTo sys d cut ps) (untold_all (told ++ ts)) follows (stopped-anywhere sys d ps follows))
    where
      nothing : (home_told d.priority (told ++ ts) ≡ []) ⊎ ObjectGroups sys d.priority true true (home_told d.priority (told ++ ts))
          → (home_told d.priority (told ++ ts) ++ [] ≡ []) ⊎ ObjectGroups sys d.priority true true (home_told d.priority (told ++ ts) ++ [])
      nothing h = subst (λ x. (x ≡ []) ⊎ ObjectGroups sys d.priority true true x) (sym (append-nil (home_told d.priority (told ++ ts)))) h

  -- Last records that a `spill` cuts.
  pub ends-cut : (ts : List ToldItem) → AreLast d.priority budget told ts es → spill_cuts d.priority (untold_all (told ++ ts)) ≡ true
      → (back : List Told) → ObjectGroups sys d.priority true true (home_told d.priority (told ++ ts) ++ back)
      → (ps : List Piece) → records_in ps ≡ dispatched (own_told d.priority (told ++ ts)) → FollowsTo sys d Anywhere ps → HomeEnds sys d budget end (told ++ ts)
  unfolding CutGroups
  ends-cut ts last cuts back groups ps bare_is follows =
      let cut : cut_in end d.priority (untold_all (told ++ ts)) ≡ Anywhere = rw (early, cuts) refl in
      ends-by ts last (subst (λ c. CutGroups sys d.priority true c (home_told d.priority (told ++ ts))) (sym cut) (back, inr groups)) ps bare_is (subst (λ c. FollowsTo sys d c ps) (sym cut) follows)

  -- no record more
  pub last-none : AreLast d.priority budget told [] es
  unfolding are_at_home ends_last spents_follow spills_state took_count
  last-none = record {
    at = refl;
    nils = refl;
    looks = ap all_differ (ap looks_in (append-nil told)) ∙ looks-differ looked own (looks_in told) lane.looks;
    ends = refl;
    spents = λ shown. refl;
    spent = refl;
    states = refl;
    takes = refl;
  }

  -- records of a start or a step that come to their assertion
  pub last-failed : (g : List Told) → FailedForm d.priority g → AreLast d.priority budget told (of_it d.priority g) es
  unfolding spents_follow spills_state
  last-failed g form =
      let inside = own-inside g form.own in
      let mild = inside-mild d.priority g inside in
      let none : untold_all (of_it d.priority g) ++ [] ≡ untold_all (of_it d.priority g) = append-nil (untold_all (of_it d.priority g)) in
      let test = is_spent_home d.priority budget (untold_all (told ++ of_it d.priority g)) in
      record {
        at = inside-home d.priority budget true (length es) g inside;
        nils = inside-nils d.priority g inside;
        looks =
            ap all_differ (looks-append told (of_it d.priority g) ∙ ap (λ xs. looks_in told ++ xs) (inside-looks d.priority g inside) ∙ append-nil (looks_in told))
            ∙ looks-differ looked own (looks_in told) lane.looks;
        ends = form.ends;
        spents = λ shown. ap (spents_follow shown) (sym none) ∙ mild-follow shown (untold_all (of_it d.priority g)) [] mild (λ s. refl);
        spent = ap (list_all test) (sym none) ∙ mild-all test (untold_all (of_it d.priority g)) [] (λ i h. rw h refl) mild refl;
        states = ap (spills_state (length told)) (sym none) ∙ mild-states (length told) (untold_all (of_it d.priority g)) [] mild refl;
        takes = inside-takes d.priority g inside;
      }

  -- records of a start or a step, and a `spill`
  pub last-spilled : (g : List Told) (n : ℕ) → 0 < d.priority → AreInside g → list_any (λ t. is_end t.body) g ≡ false → n ≡ length told + length g → 999992 < n
      → AreLast d.priority budget told (of_it d.priority g ++ spill_told n ∷ []) es
  unfolding are_at_home ends_last spents_follow spills_state took_count
  last-spilled g n some inside calm count many =
      let mild = inside-mild d.priority g inside in
      let front : List Item = untold_all (of_it d.priority g) in
      let parts : untold_all (of_it d.priority g ++ spill_told n ∷ []) ≡ front ++ record { of = 0; body = body.Spill n } ∷ [] = untold-append (of_it d.priority g) (spill_told n ∷ []) in
      let quiet : list_any (λ i. is_end i.body) front ≡ false = ends-told d.priority g calm in
      let test = is_spent_home d.priority budget (untold_all (told ++ (of_it d.priority g ++ spill_told n ∷ []))) in
      record {
        at = rw parts (at-spill (length es) g inside);
        nils = nils-append (of_it d.priority g) (spill_told n ∷ []) ∙ ap (λ xs. xs ++ []) (inside-nils d.priority g inside);
        looks =
            ap all_differ (looks-append told (of_it d.priority g ++ spill_told n ∷ [])
            ∙ ap (λ xs. looks_in told ++ xs) (looks-append (of_it d.priority g) (spill_told n ∷ []) ∙ ap (λ xs. xs ++ []) (inside-looks d.priority g inside)) ∙ append-nil (looks_in told))
            ∙ looks-differ looked own (looks_in told) lane.looks;
        ends = rw parts (calm-ends_last front (record { of = 0; body = body.Spill n } ∷ []) quiet refl);
        spents = λ shown. rw parts (mild-follow shown front (record { of = 0; body = body.Spill n } ∷ []) mild (λ s. refl));
        spent = rw parts (mild-all test front (record { of = 0; body = body.Spill n } ∷ []) (λ i h. rw h refl) mild refl);
        states =
            let long : length front ≡ length g = length-map (of_it d.priority g) untold ∙ length-map g (for_object d.priority) in
            let at : n ≡ length told + length front = omega (arith, long, count) in
            rw parts (mild-states (length told) front (record { of = 0; body = body.Spill n } ∷ []) mild (stated n (length told + length front) at many));
        takes = took-more d.priority (of_it d.priority g) (spill_told n ∷ []) 0 0 (inside-takes d.priority g inside) refl;
      }
    where
      at-spill : (k : ℕ) (g : List Told) → AreInside g → are_at_home d.priority budget true k (untold_all (of_it d.priority g) ++ record { of = 0; body = body.Spill n } ∷ []) ≡ true
      at-spill k g inside =
          at-home_then d.priority budget true k (untold_all (of_it d.priority g)) (record { of = 0; body = body.Spill n } ∷ []) (inside-home d.priority budget false k g inside) refl

-- a `spill` behind records of the object stands right behind one
cuts-own : (o n : ℕ) (xs : List Item) (t : Told) (g : List Told) → spill_cuts o (xs ++ (untold_all (of_it o (t ∷ g)) ++ record { of = 0; body = body.Spill n } ∷ [])) ≡ true
cuts-own o n xs t [] = spill_cuts-last o n xs (record { of = o; body = t.body }) ∙ same_number o
cuts-own o n xs t (u ∷ g) =
    subst (λ is. spill_cuts o is ≡ true) (append_assoc xs (record { of = o; body = t.body } ∷ []) (untold_all (of_it o (u ∷ g)) ++ record { of = 0; body = body.Spill n } ∷ []))
    (cuts-own o n (xs ++ record { of = o; body = t.body } ∷ []) u g)

cuts-behind : (o n : ℕ) (told : List ToldItem) (t : Told) (g : List Told) → spill_cuts o (untold_all (told ++ (of_it o (t ∷ g) ++ spill_told n ∷ []))) ≡ true
cuts-behind o n told t g =
    ap (spill_cuts o) (untold-append told (of_it o (t ∷ g) ++ spill_told n ∷ []) ∙ ap (λ x. untold_all told ++ x) (untold-append (of_it o (t ∷ g)) (spill_told n ∷ [])))
    ∙ cuts-own o n (untold_all told) t g

-- another look, which shows an entry
looks-another : (looked : Bool) (own : Own) (xs : List (ℕ × ℕ × ℕ)) (f l m : ℕ) → l ≡ own.l → m ≡ own.m → m < f + l → LooksOnce looked own xs → all_differ (xs ++ (f, l, m) ∷ []) ≡ true
unfolding all_differ
looks-another false own xs f l m l_is m_is some h = subst (λ x. all_differ (x ++ (f, l, m) ∷ []) ≡ true) (sym h) refl
looks-another true own xs f l m l_is m_is some h =
    let empty = h.2 in
    let first = h.0 in
    let other : (h.0 == f) ≡ false = grind (arith, nat_tests, empty, l_is, m_is, some) in
    subst (λ x. all_differ (x ++ (f, l, m) ∷ []) ≡ true) (sym h.1) (rw other refl)

module _ (sys : System) (d : ObjectDef) (chart : Chart) (some : 0 < d.priority) (its : chart_at sys d.chart ≡ Some chart) (able : chart_able sys chart ≡ true) (budget : ℕ) (end : ℕ) (early : may_cut end ≡ true) where
  -- The object hasn't started.
  pub unstarted-ends : HomeEnds sys d budget end []
  unfolding records_in
  unstarted-ends =
      let own : Own = record { l = 0; m = 0 } in
      ends-stopped sys d budget own false [] [] (home-new d.priority budget own) end early [] (last-none sys d budget own false [] [] (home-new d.priority budget own) end early) (inl refl) [] refl
      (follows-unstarted sys d chart its able)

  -- Its start ends in its assertion.
  pub start-fails : (g : List Told) → Starts sys (actor d chart) (first_config d) (tell g) None → HomeEnds sys d budget end (of_it d.priority g)
  unfolding StartShape ObjectGroups
  start-fails g starts =
      let own : Own = record { l = 0; m = 0 } in
      let new = home-new d.priority budget own in
      let form = start-failed sys (actor d chart) d.priority (first_config d) g starts in
      let broken = starts-shape sys (actor d chart) (first_config d) (tell g) None starts in
      ends-stopped sys d budget own false [] [] new end early (of_it d.priority g) (last-failed sys d budget own false [] [] new end early g form)
      (inr (subst (ObjectGroups sys d.priority true true) (bare-tell g ∙ sym (home-of d.priority g some)) (inl (refl, broken))))
      (tell g) (bare-tell g ∙ sym (ap dispatched (own-of d.priority g) ∙ inside-dispatched d.priority g (own-inside g form.own)))
      (follows-stopped sys d chart its [] (tell g) None (course-start sys (actor d chart) (first_config d) (tell g) None starts))

  -- a `spill` is no record of the object
  spill-home : (n : ℕ) → home_told d.priority (spill_told n ∷ []) ≡ []
  spill-home n = rw (other-zero d.priority some).1 refl

  spill-own : (n : ℕ) → own_told d.priority (spill_told n ∷ []) ≡ []
  spill-own n = rw (other-zero d.priority some).1 refl

  home-spilled : (told : List ToldItem) (g : List Told) (n : ℕ) → home_told d.priority (told ++ (of_it d.priority g ++ spill_told n ∷ [])) ≡ home_told d.priority (told ++ of_it d.priority g)
  home-spilled told g n =
      ap (home_told d.priority) (sym (append_assoc told (of_it d.priority g) (spill_told n ∷ []))) ∙ home-append d.priority (told ++ of_it d.priority g) (spill_told n ∷ [])
      ∙ ap (λ x. home_told d.priority (told ++ of_it d.priority g) ++ x) (spill-home n) ∙ append-nil (home_told d.priority (told ++ of_it d.priority g))

  own-spilled : (told : List ToldItem) (g : List Told) (n : ℕ) → own_told d.priority (told ++ (of_it d.priority g ++ spill_told n ∷ [])) ≡ own_told d.priority (told ++ of_it d.priority g)
  own-spilled told g n =
      ap (own_told d.priority) (sym (append_assoc told (of_it d.priority g) (spill_told n ∷ []))) ∙ own-append d.priority (told ++ of_it d.priority g) (spill_told n ∷ [])
      ∙ ap (λ x. own_told d.priority (told ++ of_it d.priority g) ++ x) (spill-own n) ∙ append-nil (own_told d.priority (told ++ of_it d.priority g))

  -- Its start is cut by a `spill`.
  pub start-is_cut : (g : List Told) (n : ℕ) (qs : List Piece) (last : Option Config) → qs ≢ [] → list_any (λ t. is_end t.body) g ≡ false → Starts sys (actor d chart) (first_config d) (tell g ++ qs) last
      → n ≡ length g → 999992 < n → HomeEnds sys d budget end (of_it d.priority g ++ spill_told n ∷ [])
  unfolding StartShape ObjectGroups
  start-is_cut g n qs last left calm starts count many =
      let own : Own = record { l = 0; m = 0 } in
      let new = home-new d.priority budget own in
      let inside = own-inside g (start-cut sys (actor d chart) (first_config d) g qs last left calm starts) in
      ends-cut sys d budget own false [] [] new end early (of_it d.priority g ++ spill_told n ∷ [])
      (last-spilled sys d budget own false [] [] new end early g n some inside calm (omega (arith, count)) many) (cuts g count) (records_in qs)
      (subst (ObjectGroups sys d.priority true true) (bare-append (tell g) qs ∙ ap (λ x. x ++ records_in qs) (bare-tell g ∙ sym (home-spilled [] g n ∙ home-of d.priority g some)))
      (by last (starts-shape sys (actor d chart) (first_config d) (tell g ++ qs) last starts)))
      (tell g) (bare-tell g ∙ sym (ap dispatched (own-spilled [] g n ∙ own-of d.priority g) ∙ inside-dispatched d.priority g inside))
      (follows-anywhere sys d chart its [] (tell g) qs last (course-start sys (actor d chart) (first_config d) (tell g ++ qs) last starts))
    where
      cuts : (g : List Told) → n ≡ length g → spill_cuts d.priority (untold_all (of_it d.priority g ++ spill_told n ∷ [])) ≡ true
      cuts [] count = absurd (omega (arith, count, many))
      cuts (t ∷ g) count = cuts-behind d.priority n [] t g

      by : (last : Option Config) → StartShape sys d.priority last (records_in (tell g ++ qs)) → ObjectGroups sys d.priority true true (records_in (tell g ++ qs))
      by None broken = inl (refl, broken)
      by (Some c) whole =
          subst (ObjectGroups sys d.priority true true) (append-nil (records_in (tell g ++ qs)))
          (groups-of sys d.priority true true (records_in (tell g ++ qs)) [] [] whole (sequence-none (IsTurn sys d.priority true)) (Ends refl))

  module _ (own : Own) (looked : Bool) (told : List ToldItem) (es : List Entry) (lane : IsHomeLane d.priority budget own looked told es) where
    -- The object rests, and its lane stops.
    module _ (points : ℕ) (c : Config) (whole : IsWholeHome sys d chart told es points c) where
      follows : FollowsTo sys d Stopped whole.ps
      follows =
          follows-waiting sys d chart its able false es whole.ps (stage.Resting c)
          (subst (λ ps. ComesTo sys (actor d chart) (first_config d) es ps (stage.Resting c)) (sym (append-nil whole.ps)) whole.comes) refl

      rests-groups : ObjectGroups sys d.priority true true (home_told d.priority told)
      rests-groups =
          subst (ObjectGroups sys d.priority true true) (ap (λ x. whole.start ++ x) (append-nil whole.turns) ∙ sym whole.groups)
          (groups-of sys d.priority true true whole.start whole.turns [] whole.begins whole.goes (Ends refl))

      -- in another lane
      pub waiting-ends : HomeEnds sys d budget end told
      waiting-ends =
          subst (HomeEnds sys d budget end) (append-nil told)
          (ends-stopped sys d budget own looked told es lane end early [] (last-none sys d budget own looked told es lane end early)
          (inr (subst (λ ts. ObjectGroups sys d.priority true true (home_told d.priority ts)) (sym (append-nil told)) rests-groups))
          whole.ps (whole.bare_is ∙ ap (λ ts. dispatched (own_told d.priority ts)) (sym (append-nil told))) follows)

      -- without room for what comes next
      pub full-ends : (n : ℕ) → n ≡ length told → 999992 < n → HomeEnds sys d budget end (told ++ spill_told n ∷ [])
      full-ends n count many =
          ends-stopped sys d budget own looked told es lane end early (spill_told n ∷ []) (last-spilled sys d budget own looked told es lane end early [] n some tt refl (omega (arith, count)) many)
          (inr (subst (ObjectGroups sys d.priority true true) (sym (home-spilled told [] n ∙ ap (home_told d.priority) (append-nil told))) rests-groups))
          whole.ps (whole.bare_is ∙ ap dispatched (sym (own-spilled told [] n ∙ ap (own_told d.priority) (append-nil told)))) follows

      -- at its budget, where its queue is seen with an entry
      pub spent-ends : (f l m : ℕ) → l ≡ own.l → m ≡ own.m → m < f + l → length es ≡ budget
          → HomeEnds sys d budget end (told ++ seen_told d.priority f l m ∷ for_object d.priority (plain body.Spent) ∷ [])
      unfolding are_at_home ends_last spents_follow spills_state took_count
      spent-ends f l m l_is m_is entry spent =
          ends-stopped sys d budget own looked told es lane end early last
          (record {
            at = rw (self, at) refl;
            nils = refl;
            looks = ap all_differ (looks-append told last) ∙ looks-another looked own (looks_in told) f l m l_is m_is entry lane.looks;
            ends = refl;
            spents = λ shown. rw (yes, self) refl;
            spent = rw (self, all) refl;
            states = refl;
            takes = refl;
          })
          (inr (subst (ObjectGroups sys d.priority true true) (sym (home-append d.priority told last ∙ ap (λ x. home_told d.priority told ++ x) home_last ∙ ap (λ x. x ++ marks) whole.groups
          ∙ append_assoc whole.start whole.turns marks ∙ ap (λ x. whole.start ++ x) (sym (append_assoc whole.turns (plain (body.Seen d.priority f l m) ∷ []) (plain body.Spent ∷ [])))))
          (groups-of sys d.priority true true whole.start (whole.turns ++ plain (body.Seen d.priority f l m) ∷ []) (plain body.Spent ∷ []) whole.begins
          (sequence-snoc (IsTurn sys d.priority true) whole.turns (plain (body.Seen d.priority f l m) ∷ []) whole.goes (LooksOnly d.priority f l m refl refl)) (OutOfBudget refl))))
          whole.ps
          (whole.bare_is ∙ sym (ap dispatched (own-append d.priority told last) ∙ dispatched-append (own_told d.priority told) (own_told d.priority last)
          ∙ ap (λ x. dispatched (own_told d.priority told) ++ dispatched x) own_last ∙ append-nil (dispatched (own_told d.priority told))))
          follows
        where
          last : List ToldItem
          last = seen_told d.priority f l m ∷ for_object d.priority (plain body.Spent) ∷ []

          marks : List Told
          marks = plain (body.Seen d.priority f l m) ∷ plain body.Spent ∷ []

          self : (d.priority == d.priority) ≡ true
          self = grind (arith, nat_tests)

          at : (length es == budget) ≡ true
          at = grind (arith, nat_tests, spent)

          yes : nat_lt m (f + l) ≡ true
          yes = grind (arith, nat_tests, entry)

          all : (took_count (untold_all (told ++ (seen_told d.priority f l m ∷ for_object d.priority (plain body.Spent) ∷ []))) d.priority == budget) ≡ true
          all =
              let took = took-more d.priority told (seen_told d.priority f l m ∷ for_object d.priority (plain body.Spent) ∷ []) (length es) 0 lane.took refl in
              grind (arith, nat_tests, took, spent)

          home_last : home_told d.priority (seen_told d.priority f l m ∷ for_object d.priority (plain body.Spent) ∷ []) ≡ plain (body.Seen d.priority f l m) ∷ plain body.Spent ∷ []
          home_last = rw ((other-zero d.priority some).0, self) (rw self refl)

          own_last : own_told d.priority (seen_told d.priority f l m ∷ for_object d.priority (plain body.Spent) ∷ []) ≡ plain body.Spent ∷ []
          own_last = rw ((other-zero d.priority some).1, self) refl

    -- A step is under way.
    module _ (waits : Bool) (points : ℕ) (ev : Event) (e : Entry) (left : Remainder) (c : Config) (part : IsPartHome sys d chart waits told es points ev e left c) where
      -- It ends in its assertion.
      pub step-fails : (g : List Told) → StepGoesOn sys (actor d chart) ev e left c (tell g) None → HomeEnds sys d budget end (told ++ of_it d.priority g)
      unfolding StepShape
      step-fails g goes =
          let form = failed-form sys (actor d chart) ev e left c part.ready.closing d.priority g goes in
          let inside = own-inside g form.own in
          let broken : BrokenStep sys d.priority (records_in part.step ++ g) =
          subst (BrokenStep sys d.priority) (step-bare sys d chart some waits told es points ev e left c part g) (step-shape sys (actor d chart) e part.first (part.step ++ tell g) None (part.goes (tell g) None goes)) in
          ends-stopped sys d budget own looked told es lane end early (of_it d.priority g) (last-failed sys d budget own looked told es lane end early g form)
          (inr (subst (ObjectGroups sys d.priority true true) (sym (part-groups sys d chart some waits told es points ev e left c part g ∙ append_assoc part.whole.start part.whole.turns (records_in part.step ++ g)))
          (groups-of sys d.priority true true part.whole.start part.whole.turns (records_in part.step ++ g) part.whole.begins part.whole.goes (BreaksStep refl broken))))
          (part.whole.ps ++ (part.step ++ tell g))
          (course-bare sys d chart some waits told es points ev e left c part g ∙ sym (part-own sys d chart some waits told es points ev e left c part g inside))
          (follows-stopped sys d chart its es (part.whole.ps ++ (part.step ++ tell g)) None (course-goes sys d chart some waits told es points ev e left c part (tell g) None goes))

      -- It is cut by a `spill`.
      pub step-is_cut : (g : List Told) (n : ℕ) (qs : List Piece) (last : Option Config) → list_any (λ t. is_end t.body) g ≡ false → StepGoesOn sys (actor d chart) ev e left c (tell g ++ qs) last
          → n ≡ length told + length g → 999992 < n
          → HomeEnds sys d budget end (told ++ (of_it d.priority g ++ spill_told n ∷ []))
      unfolding StepShape
      step-is_cut g n qs last calm goes count many =
          let inside = cut-inside (cut-form sys (actor d chart) ev e left c part.ready.closing g qs last calm goes) in
          let start = part.whole.start in
          let turns = part.whole.turns in
          let all : (start ++ turns) ++ (records_in part.step ++ (g ++ records_in qs)) ≡ home_told d.priority (told ++ (of_it d.priority g ++ spill_told n ∷ [])) ++ records_in qs =
          ap (λ x. (start ++ turns) ++ x) (sym (append_assoc (records_in part.step) g (records_in qs))) ∙ sym (append_assoc (start ++ turns) (records_in part.step ++ g) (records_in qs))
          ∙ ap (λ x. x ++ records_in qs) (sym (home-spilled told g n ∙ part-groups sys d chart some waits told es points ev e left c part g)) in
          let pieces : records_in (part.step ++ (tell g ++ qs)) ≡ records_in part.step ++ (g ++ records_in qs) =
          bare-append part.step (tell g ++ qs) ∙ ap (λ x. records_in part.step ++ x) (bare-append (tell g) qs ∙ ap (λ x. x ++ records_in qs) (bare-tell g)) in
          let course : Course sys (actor d chart) (first_config d) es ((part.whole.ps ++ (part.step ++ tell g)) ++ qs) last =
          subst (λ x. Course sys (actor d chart) (first_config d) es x last)
          (ap (λ x. part.whole.ps ++ x) (sym (append_assoc part.step (tell g) qs)) ∙ sym (append_assoc part.whole.ps (part.step ++ tell g) qs))
          (course-goes sys d chart some waits told es points ev e left c part (tell g ++ qs) last goes) in
          ends-cut sys d budget own looked told es lane end early (of_it d.priority g ++ spill_told n ∷ [])
          (last-spilled sys d budget own looked told es lane end early g n some inside calm count many) cuts (records_in qs)
          (subst (ObjectGroups sys d.priority true true) all
          (by last (subst (StepShape sys d.priority last) pieces (step-shape sys (actor d chart) e part.first (part.step ++ (tell g ++ qs)) last (part.goes (tell g ++ qs) last goes)))))
          (part.whole.ps ++ (part.step ++ tell g))
          (course-bare sys d chart some waits told es points ev e left c part g ∙ sym (ap dispatched (own-spilled told g n) ∙ part-own sys d chart some waits told es points ev e left c part g inside))
          (follows-anywhere sys d chart its es (part.whole.ps ++ (part.step ++ tell g)) qs last course)
        where
          cuts : spill_cuts d.priority (untold_all (told ++ (of_it d.priority g ++ spill_told n ∷ []))) ≡ true
          cuts =
              let records : part.back ++ (of_it d.priority g ++ spill_told n ∷ []) ≡ of_it d.priority (part.took ∷ (part.records ++ g)) ++ spill_told n ∷ [] =
              ap (λ x. x ++ (of_it d.priority g ++ spill_told n ∷ [])) part.back_is ∙ sym (append_assoc (of_it d.priority (part.took ∷ part.records)) (of_it d.priority g) (spill_told n ∷ []))
              ∙ ap (λ x. x ++ spill_told n ∷ []) (sym (map-append (for_object d.priority) (part.took ∷ part.records) g)) in
              ap (λ x. spill_cuts d.priority (untold_all (x ++ (of_it d.priority g ++ spill_told n ∷ [])))) part.told_is
              ∙ ap (λ x. spill_cuts d.priority (untold_all x)) (append_assoc part.front part.back (of_it d.priority g ++ spill_told n ∷ []))
              ∙ ap (λ x. spill_cuts d.priority (untold_all (part.front ++ x))) records
              ∙ cuts-behind d.priority n part.front part.took (part.records ++ g)

          cut-inside : CutForm g → AreInside g
          cut-inside (WithinIt own) = own-inside g own
          cut-inside (BehindIt front rel whole own drops) = subst AreInside (sym whole) (inside-then front (plain body.Done ∷ rel) (own-inside front own) (refl, drops-inside rel drops))

          by : (last : Option Config) → StepShape sys d.priority last (records_in part.step ++ (g ++ records_in qs))
              → ObjectGroups sys d.priority true true ((part.whole.start ++ part.whole.turns) ++ (records_in part.step ++ (g ++ records_in qs)))
          by None broken =
              subst (ObjectGroups sys d.priority true true) (sym (append_assoc part.whole.start part.whole.turns (records_in part.step ++ (g ++ records_in qs))))
              (groups-of sys d.priority true true part.whole.start part.whole.turns (records_in part.step ++ (g ++ records_in qs)) part.whole.begins part.whole.goes (BreaksStep refl broken))
          by (Some after) one =
              subst (ObjectGroups sys d.priority true true)
              (ap (λ x. part.whole.start ++ x) (append-nil (part.whole.turns ++ (records_in part.step ++ (g ++ records_in qs)))) ∙ sym (append_assoc part.whole.start part.whole.turns (records_in part.step ++ (g ++ records_in qs))))
              (groups-of sys d.priority true true part.whole.start (part.whole.turns ++ (records_in part.step ++ (g ++ records_in qs))) [] part.whole.begins
              (turn-step sys d.priority true part.whole.turns (records_in part.step ++ (g ++ records_in qs)) part.whole.goes one) (Ends refl))

      -- It waits at a scheduling point, where its lane stops in another.
      pub step-stops : waits ≡ true → HomeEnds sys d budget end told
      unfolding StepShape FollowsTo
      step-stops stands =
          let rest = goes_on-completes sys (actor d chart) ev e left c part.ready.able part.ready.room in
          let before = (part.point stands).0 in
          let same : part.step ≡ before ++ Point ∷ [] = (part.point stands).1 in
          let course = course-goes sys d chart some waits told es points ev e left c part rest.0 rest.1 rest.2 in
          let at : ends_at_point (part.whole.ps ++ part.step) ≡ true =
          ap ends_at_point (ap (λ x. part.whole.ps ++ x) same ∙ sym (append_assoc part.whole.ps before (Point ∷ []))) ∙ ends-point (part.whole.ps ++ before) in
          let groups : home_told d.priority told ≡ part.whole.start ++ (part.whole.turns ++ records_in part.step) =
          ap (home_told d.priority) (sym (append-nil told)) ∙ part-groups sys d chart some waits told es points ev e left c part []
          ∙ ap (λ x. (part.whole.start ++ part.whole.turns) ++ x) (append-nil (records_in part.step)) ∙ append_assoc part.whole.start part.whole.turns (records_in part.step) in
          let own_is : records_in (part.whole.ps ++ part.step) ≡ dispatched (own_told d.priority told) =
          bare-append part.whole.ps part.step
          ∙ sym (ap (λ x. dispatched (own_told d.priority x)) (sym (append-nil told)) ∙ part-own sys d chart some waits told es points ev e left c part [] tt ∙ ap (λ x. records_in part.whole.ps ++ x) (append-nil (records_in part.step))) in
          subst (HomeEnds sys d budget end) (append-nil told)
          (ends-stopped sys d budget own looked told es lane end early [] (last-none sys d budget own looked told es lane end early)
          (inr (subst (λ ts. ObjectGroups sys d.priority true true (home_told d.priority ts)) (sym (append-nil told))
          (subst (ObjectGroups sys d.priority true true) (sym groups) (cut part.step refl before same rest.0 rest.1 (part.goes rest.0 rest.1 rest.2)))))
          (part.whole.ps ++ part.step) (own_is ∙ ap (λ ts. dispatched (own_told d.priority ts)) (sym (append-nil told))) (
            rest.0,
            follows-course sys d chart its es ((part.whole.ps ++ part.step) ++ rest.0) rest.1
                (subst (λ x. Course sys (actor d chart) (first_config d) es x rest.1) (sym (append_assoc part.whole.ps part.step rest.0)) course),
            inl at,
          ))
        where
          whole-step : (end : Option Config) → StepShape sys d.priority end (records_in part.step) → ObjectGroups sys d.priority true true (part.whole.start ++ (part.whole.turns ++ records_in part.step))
          whole-step None broken = groups-of sys d.priority true true part.whole.start part.whole.turns (records_in part.step) part.whole.begins part.whole.goes (BreaksStep refl broken)
          whole-step (Some after) one =
              subst (ObjectGroups sys d.priority true true) (ap (λ x. part.whole.start ++ x) (append-nil (part.whole.turns ++ records_in part.step)))
              (groups-of sys d.priority true true part.whole.start (part.whole.turns ++ records_in part.step) [] part.whole.begins
              (turn-step sys d.priority true part.whole.turns (records_in part.step) part.whole.goes one) (Ends refl))

          cut : (xs : List Piece) → part.step ≡ xs → (before : List Piece) → part.step ≡ before ++ Point ∷ [] → (qs : List Piece) (last : Option Config)
              → Step sys (actor d chart) e part.first (part.step ++ qs) last → ObjectGroups sys d.priority true true (part.whole.start ++ (part.whole.turns ++ records_in part.step))
          cut [] is before same qs last one = absurd (none before (sym is ∙ same))
            where
              none : (before : List Piece) → [] ≡ before ++ Point ∷ [] → ⊥
              none [] e = absurd (cc)
              none (p ∷ before) e = absurd (cc)
          cut (p ∷ f) is before same qs last one =
              by (step-cut sys (actor d chart) e part.first (part.step ++ qs) last p f qs one (ap (λ x. x ++ qs) (sym is)) (inl (ap ends_at_point (sym is ∙ same) ∙ ends-point before)))
            where
              by : BrokenStep sys d.priority (records_in (p ∷ f)) ⊎ (qs ≡ []) → ObjectGroups sys d.priority true true (part.whole.start ++ (part.whole.turns ++ records_in part.step))
              by (inl broken) =
                  groups-of sys d.priority true true part.whole.start part.whole.turns (records_in part.step) part.whole.begins part.whole.goes
                  (BreaksStep refl (subst (λ x. BrokenStep sys d.priority (records_in x)) (sym is) broken))
              by (inr none) =
                  whole-step last
                  (step-shape sys (actor d chart) e part.first part.step last
                  (subst (λ x. Step sys (actor d chart) e part.first x last) (ap (λ x. part.step ++ x) none ∙ append-nil part.step) one))
