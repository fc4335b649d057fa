-- The start of an object: to its end, or to the end of its lane.
use Rattle.std.proofs.Common.{◌≡◌, ℕ, ◌≤◌, ◌==◌, cond, Bool, true, false, List, [], ◌∷◌, ◌++◌, map, length, refl, sym, ◌∙◌, ap, subst, inl, inr, Option, Some, None, arith, append-nil}
use Rattle.std.specs.List.{find, list_all}
use Rattle.std.proofs.lemmas.Bool.Decides.{nat_tests}
use Rattle.std.proofs.lemmas.List.{length-map, map-append}
use Rattle.qp_chart.specs.declared.checked.Chart.{Chart}
use Rattle.qp_model.specs.declared.systems.System.{System}
use Rattle.qp_model.specs.declared.systems.ObjectDef.{ObjectDef}
use Rattle.qp_model.specs.Acts.{Config}
use Rattle.qp_model.specs.Course.{Starts, actor, chart_at, first_config}
use Rattle.qp_model.specs.Ends.{may_cut}
use Rattle.qp_model.specs.Pieces.{Piece, Tell, tell}
use Rattle.qp_model.specs.Sites.{object_at}
use Rattle.qp_model.specs.Sound.{IsSound}
use Rattle.qp_model.specs.Told.{Told, ToldItem, for_object}
use Rattle.qp_model.proofs.AbleLemmas.{some-same}
use Rattle.qp_calls.specs.Clauses.{entry_of}
use Rattle.qp_calls.specs.Counting.{count_of, times}
use Rattle.qp_calls.specs.Deferring.{StandAll, is_named, tokens_in}
use Rattle.qp_calls.specs.LaneView.{Grows, LaneView, Own, ceiling_in}
use Rattle.qp_calls.specs.Notes.{spills_told}
use Rattle.qp_calls.specs.Tokens.{Token}
use Rattle.qp_chart_compiled.specs.Compiled.{IsCompiled}
use Rattle.qp_dispatch.specs.declared.lasting.Lasting.{Lasting}
use Rattle.qp_dispatch.specs.declared.objects.Object.{Object}
use Rattle.qp_dispatch.specs.declared.steps.Position.TheVariants as standing
use Rattle.qp_dispatch.specs.declared.steps.Step.{Step}
use Rattle.qp_dispatch.specs.declared.steps.Step.TheVariants as step
use Rattle.qp_dispatch.specs.Lasts.{actor_of, config_of}
use Rattle.qp_dispatch.specs.Objects.{MayStart, ObjectStarts, StartsAs, setting_for, works_for}
use Rattle.qp_dispatch.specs.Resume.{held_in}
use Rattle.qp_dispatch.specs.Resume.{CanTakeSteps as ObjectReady}
use Rattle.qp_dispatch.specs.Runs.{ObjectSetting}
use Rattle.qp_dispatch.specs.Starting.{StartAsserted, StartDone, StartSpilled}
use Rattle.qp_model_order.specs.SourceRun.{untold_all}
use Rattle.qp_kernel.specs.Turning.{spill_told}
use Rattle.qp_kernel.proofs.TurnLemmas.{start-cut, start-failed, start-form}
use Rattle.qp_kernel.specs.Starts.{AreStarts, IsStartAlone}
use Rattle.qp_kernel.proofs.StartsLemmas.{done-spills, done-starts, own-alone, own-spills}
use Rattle.qp_port_law.specs.Homes.{HomeEnds}
use Rattle.qp_kernel_turns.specs.Knowing.{own_count}
use Rattle.qp_kernel_turns.proofs.Quiet.{cut-quiet}
use Rattle.qp_kernel_turns.proofs.SoundObjects.{ready}
use Rattle.qp_port_law.specs.HomeLaws.{IsHomeOf, HomeRests}
use Rattle.qp_port_law.proofs.HomeLaws.{full_home_ends, home_start_fails, home_start_is_cut, home_starts}
use Rattle.qp_port_lanes.specs.declared.home.Home.{Home}
use Rattle.qp_port_lanes.specs.At.{HasEmptyLane, IsHome, IsUnstartedHome}
use Rattle.qp_port_lanes.specs.Turning.{HomeStarts, HomeStops, StartsAlone}
use Rattle.qp_port_lanes.proofs.Resting.{home-of}

-- what is found at a priority has it
found-priority : (o : ℕ) (ds : List ObjectDef) (d : ObjectDef) → find (λ x. x.priority == o) ds ≡ Some d → d.priority ≡ o
found-priority o [] d h = absurd (cc)
found-priority o (x ∷ xs) d h = by (x.priority == o) refl (λ at. found-priority o xs d at) h
  where
    by : (b : Bool) → (x.priority == o) ≡ b → (find (λ y. y.priority == o) xs ≡ Some d → d.priority ≡ o) → cond b (Some x) (find (λ y. y.priority == o) xs) ≡ Some d → d.priority ≡ o
    by true is go at = let same : x ≡ d = some-same at in let here : x.priority ≡ o = grind (arith, nat_tests) in ap (λ y. y.priority) (sym same) ∙ here
    by false is go at = go at

priority-is : (sys : System) (o : ℕ) (d : ObjectDef) → object_at sys o ≡ Some d → d.priority ≡ o
unfolding object_at
priority-is sys o d h = found-priority o sys.objects d h

module _ (sys : System) (sound : IsSound sys) (x : Home) (v : LaneView) (made : IsUnstartedHome sys x.me x) (empty : HasEmptyLane sys x.me v) where
  abbrev d : ObjectDef
  d = made.object.object

  abbrev chart : Chart
  chart = made.object.chart

  abbrev V : LaneView
  V = works_for x.object.me v

  abbrev home : ObjectSetting
  home = setting_for sys chart x.object

  abbrev k : Lasting
  k = x.object.lasting

  number : d.priority ≡ x.me
  number = priority-is sys x.me d made.object.of

  found : object_at sys d.priority ≡ Some d
  found = ap (object_at sys) number ∙ made.object.of

  is-me : x.object.me ≡ d.priority
  is-me = made.object.made.me

  has-chart : chart_at sys x.object.chart ≡ Some chart
  has-chart = ap (chart_at sys) made.object.made.of ∙ made.object.has

  its : IsHomeOf sys d chart
  its = home-of sys sound d chart found made.object.has

  serves : v.serves d.priority ≡ true
  serves = ap v.serves number ∙ empty.serves

  -- it may start
  pub may-start : MayStart sys x.ceiling x.object V
  unfolding times ceiling_in
  may-start = record {
    at = record {
      chart = chart;
      is = has-chart;
      ready = subst (λ p. ObjectReady sys p chart) (sym is-me) (ready sys sound d chart found made.object.has);
      compiled = made.object.made.compiled;
      lane = record {
        of = empty.of;
        mine = refl;
        serves = ap v.serves is-me ∙ serves;
        told = made.ceiling ∙ sym (ap (ceiling_in 0) empty.told);
        spills = ap spills_told empty.told;
      };
    };
    unstarted = made.object.made.unstarted;
    few = subst (λ es. length (map entry_of es) ≤ k.list.entries.capacity) (sym made.object.made.first.empty) (omega arith);
    stand = subst (λ es. StandAll es V) (sym made.object.made.first.empty) (record { named = refl; counts = λ t. omega arith });
  }

  is-actor : actor_of x.object.me chart k ≡ actor d chart
  is-actor = ap (λ i. record { o = i; chart = chart; room = k.list.entries.capacity }) is-me ∙ ap (λ r. record { o = d.priority; chart = chart; room = r }) made.object.made.first.room

  starts-as : (ps : List Piece) (end : Option Config) → Starts V.sys (actor_of x.object.me chart k) (config_of k) ps end → Starts sys (actor d chart) (first_config d) ps end
  starts-as ps end h =
      subst (λ c. Starts sys (actor d chart) c ps end) made.object.made.first.config
      (subst (λ a. Starts sys a (config_of k) ps end) is-actor (subst (λ s. Starts s (actor_of x.object.me chart k) (config_of k) ps end) empty.of h))

  grown : (g : List Told) (mid : LaneView) → Grows g V mid → mid.told ≡ map (for_object d.priority) g
  grown g mid grows = grows.told ∙ ap (λ ts. ts ++ map (for_object x.object.me) g) empty.told ∙ ap (λ p. map (for_object p) g) is-me

  -- It comes to its end.
  done : (budget level : ℕ) (y : Object) (mid w : LaneView) → w ≡ works_for v.by mid → y ≡ record (x.object) { lasting = y.lasting; started = true } → StartDone home level k y.lasting V mid
      → IsHome sys budget (record x { object = y; ceiling = level }) w
  done budget level y mid w w-is same t = record {
    d = d;
    chart = chart;
    at = record {
      found = found;
      its = made.object.has;
      me = sym number;
      object = ap (λ z. z.me) same ∙ is-me;
      of = ap (λ z. z.chart) same ∙ made.object.made.of;
      compiled = subst (λ z. IsCompiled chart z.compiled) (sym same) made.object.made.compiled;
      room = t.room ∙ made.object.made.first.room;
      named = subst (λ es. list_all (is_named sys) es ≡ true) (sym held) (subst (λ s. list_all (is_named s) y.lasting.list.entries.items ≡ true) (t.grows.sys ∙ empty.of) t.stand.named);
      lane = ap (λ u. u.sys) w-is ∙ t.grows.sys ∙ empty.of;
      serves = ap (λ u. u.serves d.priority) w-is ∙ t.grows.serves d.priority ∙ serves;
      ceiling = t.lane.told ∙ sym (ap (λ u. ceiling_in 0 u.told) w-is);
      spills = ap (λ u. spills_told u.told) w-is ∙ t.lane.spills;
      only = λ n. ap (λ u. count_of n u.hands) w-is ∙ only n;
    };
    es = [];
    points = 0;
    c = config_of y.lasting;
    calm = made.calm;
    rest = record { started = ap (λ z. z.started) same; between = between; config = refl; few = t.few };
    taken = ap (λ z. z.taken) same ∙ made.object.made.taken;
    records = subst (λ b. HomeRests sys d chart budget (w.own d.priority) b w.told [] 0 (config_of y.lasting)) (sym made.unseen)
        (subst (λ ts. HomeRests sys d chart budget (w.own d.priority) false ts [] 0 (config_of y.lasting)) (sym (ap (λ u. u.told) w-is ∙ grown t.g mid t.grows))
        (home_starts sys d chart budget (w.own d.priority) t.g (config_of y.lasting) its (starts-as (tell t.g) (Some (config_of y.lasting)) t.starts)));
    asked = let none : y.taken ≡ 0 = ap (λ z. z.taken) same ∙ made.object.made.taken in omega (arith, none);
  }
    where
      between : y.stage ≡ standing.Between
      between = ap (λ z. z.stage) same ∙ made.object.made.between

      held : held_in y.lasting y.stage ≡ y.lasting.list.entries.items
      held = ap (held_in y.lasting) between ∙ append-nil y.lasting.list.entries.items

      only : (n : Token) → count_of n mid.hands ≡ own_count n y
      only n =
          let changed = t.hands n in
          let none : count_of n v.hands ≡ count_of n [] = ap (count_of n) empty.hands in
          let kept : count_of n (tokens_in (map entry_of k.list.entries.items)) ≡ count_of n [] = ap (λ es. count_of n (tokens_in (map entry_of es))) made.object.made.first.empty in
          let after : own_count n y ≡ count_of n (tokens_in (map entry_of y.lasting.list.entries.items)) = ap (λ es. count_of n (tokens_in (map entry_of es))) held in
          omega (arith, changed, none, kept, after)

  -- Its lane ends.

  stops-with : (budget : ℕ) (y : Home) (w : LaneView) (told : List ToldItem) → w.told ≡ told → y.object.started ≡ false → ((end : ℕ) → may_cut end ≡ true → HomeEnds sys d budget end told) → HomeStops sys budget x.me y w
  stops-with budget y w told same unstarted ends = record {
    ends = λ e at end early.
        let is : d ≡ e = some-same (sym made.object.of ∙ at) in
        subst (λ (i : ObjectDef). HomeEnds sys i budget end w.told) is (subst (HomeEnds sys d budget end) (sym same) (ends end early));
    rests = λ e c at is started calm. let wrong : true ≡ false = sym started ∙ unstarted in absurd (cc);
  }

  asserts : (budget : ℕ) (y : Home) (mid w : LaneView) → w ≡ works_for v.by mid → y.object.started ≡ false → StartAsserted home k y.object.lasting V mid → HomeStops sys budget x.me y w
  asserts budget y mid w w-is unstarted a =
      stops-with budget y w (map (for_object d.priority) a.g) (ap (λ u. u.told) w-is ∙ ap (λ u. u.told) a.stops ∙ grown a.g a.mid a.grows) unstarted
      (λ end early. home_start_fails sys d chart budget end a.g its early (starts-as (tell a.g) None a.starts))

  spills : (budget : ℕ) (y : Home) (mid w : LaneView) → w ≡ works_for v.by mid → y.object.started ≡ false → StartSpilled home k y.object.lasting V mid → HomeStops sys budget x.me y w
  spills budget y mid w w-is unstarted b =
      stops-with budget y w (map (for_object d.priority) b.g ++ spill_told (length b.mid.told) ∷ [])
      (ap (λ u. u.told) w-is ∙ ap (λ u. u.told) b.stops ∙ b.spills.told ∙ ap (λ ts. ts ++ spill_told (length b.mid.told) ∷ []) (grown b.g b.mid b.grows)) unstarted (λ end early. by end early b.begins.0 refl b.begins.1 refl)
    where
      begins : Starts sys (actor d chart) (first_config d) (tell (b.g ++ b.begins.0)) b.begins.1
      begins = starts-as (tell (b.g ++ b.begins.0)) b.begins.1 b.begins.2

      -- behind its last record, or within
      by : (end : ℕ) → may_cut end ≡ true → (more : List Told) → b.begins.0 ≡ more → (last : Option Config) → b.begins.1 ≡ last
          → HomeEnds sys d budget end (map (for_object d.priority) b.g ++ spill_told (length b.mid.told) ∷ [])
      by end early [] none None last = absurd (b.begins.3 last none)
      by end early [] none (Some c) last =
          let whole : b.g ++ b.begins.0 ≡ b.g = ap (λ h. b.g ++ h) none ∙ append-nil b.g in
          let own : Own = record { l = 0; m = 0 } in
          full_home_ends sys d chart budget end own false (map (for_object d.priority) b.g) [] 0 c (length b.mid.told) its early
          (home_starts sys d chart budget own b.g c its
          (subst (λ h. Starts sys (actor d chart) (first_config d) (tell h) (Some c)) whole (subst (λ z. Starts sys (actor d chart) (first_config d) (tell (b.g ++ b.begins.0)) z) last begins)))
          (ap length (grown b.g b.mid b.grows)) b.few
      by end early (u ∷ more) some last is =
          home_start_is_cut sys d chart budget end b.g (length b.mid.told) (tell b.begins.0) b.begins.1 its early (λ none. let wrong : tell (u ∷ more) ≡ [] = sym (ap tell some) ∙ none in cc)
          (cut-quiet sys (actor d chart) d.priority (first_config d) b.g b.begins.0 b.begins.1 begins b.begins.3).calm
          (subst (λ ps. Starts sys (actor d chart) (first_config d) ps b.begins.1) (map-append Tell b.g b.begins.0) begins)
          (ap length (grown b.g b.mid b.grows) ∙ length-map b.g (for_object d.priority)) b.few

  pub after-start : (level : ℕ) (y : Object) (w : LaneView) (answer : Step) → ObjectStarts sys level x.object y v w answer → HomeStarts sys x.me (record x { object = y; ceiling = level }) w answer
  after-start level y w answer r = by answer r.0 (subst (λ c. StartsAs c sys level x.object y V r.0 answer) has-chart r.1) r.2
    where
      by : (answer : Step) (mid : LaneView) → StartsAs (Some chart) sys level x.object y V mid answer → w ≡ works_for v.by mid → HomeStarts sys x.me (record x { object = y; ceiling = level }) w answer
      by step.Point mid (same, t) is = t
      by step.Done mid (same, t) is = λ budget. done budget level y mid w is same t
      by step.Stopped mid (same, inl a) is = λ budget. asserts budget (record x { object = y; ceiling = level }) mid w is (ap (λ z. z.started) same) a
      by step.Stopped mid (same, inr b) is = λ budget. spills budget (record x { object = y; ceiling = level }) mid w is (ap (λ z. z.started) same) b
      by step.Memory mid (same, t) is = tt

  -- Nothing else stands in the lane.

  alone-done : (level : ℕ) (y : Object) (mid w : LaneView) → w ≡ works_for v.by mid → StartDone home level k y.lasting V mid → AreStarts 1 (untold_all w.told)
  alone-done level y mid w w-is t =
      let form = start-form sys (actor d chart) (first_config d) t.g (config_of y.lasting) (starts-as (tell t.g) (Some (config_of y.lasting)) t.starts) in
      subst (λ ts. AreStarts 1 (untold_all ts)) (sym (ap (λ u. u.told) w-is ∙ grown t.g mid t.grows)) (done-starts d.priority t.g form.front form.whole form.own)

  alone-asserts : (y : Object) (mid w : LaneView) → w ≡ works_for v.by mid → StartAsserted home k y.lasting V mid → IsStartAlone 1 (untold_all w.told)
  alone-asserts y mid w w-is a =
      let form = start-failed sys (actor d chart) d.priority (first_config d) a.g (starts-as (tell a.g) None a.starts) in
      subst (λ ts. IsStartAlone 1 (untold_all ts)) (sym (ap (λ u. u.told) w-is ∙ ap (λ u. u.told) a.stops ∙ grown a.g a.mid a.grows)) (own-alone 0 d.priority a.g form.own)

  alone-spills : (y : Object) (mid w : LaneView) → w ≡ works_for v.by mid → StartSpilled home k y.lasting V mid → IsStartAlone 1 (untold_all w.told)
  alone-spills y mid w w-is b =
      subst (λ ts. IsStartAlone 1 (untold_all ts))
      (sym (ap (λ u. u.told) w-is ∙ ap (λ u. u.told) b.stops ∙ b.spills.told ∙ ap (λ ts. ts ++ spill_told (length b.mid.told) ∷ []) (grown b.g b.mid b.grows)))
      (by b.begins.0 refl b.begins.1 refl)
    where
      begins : Starts sys (actor d chart) (first_config d) (tell (b.g ++ b.begins.0)) b.begins.1
      begins = starts-as (tell (b.g ++ b.begins.0)) b.begins.1 b.begins.2

      -- behind its last record, or within
      by : (more : List Told) → b.begins.0 ≡ more → (last : Option Config) → b.begins.1 ≡ last → IsStartAlone 1 (untold_all (map (for_object d.priority) b.g ++ spill_told (length b.mid.told) ∷ []))
      by [] none None last = absurd (b.begins.3 last none)
      by [] none (Some c) last =
          let whole : b.g ++ b.begins.0 ≡ b.g = ap (λ h. b.g ++ h) none ∙ append-nil b.g in
          let form = start-form sys (actor d chart) (first_config d) b.g c
          (subst (λ h. Starts sys (actor d chart) (first_config d) (tell h) (Some c)) whole (subst (λ z. Starts sys (actor d chart) (first_config d) (tell (b.g ++ b.begins.0)) z) last begins)) in
          done-spills 0 d.priority (length b.mid.told) b.g form.front form.whole form.own
      by (u ∷ more) some last is =
          own-spills 0 d.priority (length b.mid.told) b.g
          (start-cut sys (actor d chart) (first_config d) b.g (tell b.begins.0) b.begins.1 (λ none. let wrong : tell (u ∷ more) ≡ [] = sym (ap tell some) ∙ none in cc)
          (cut-quiet sys (actor d chart) d.priority (first_config d) b.g b.begins.0 b.begins.1 begins b.begins.3).calm
          (subst (λ ps. Starts sys (actor d chart) (first_config d) ps b.begins.1) (map-append Tell b.g b.begins.0) begins))

  pub alone-start : (level : ℕ) (y : Object) (w : LaneView) (answer : Step) → ObjectStarts sys level x.object y v w answer → StartsAlone w answer
  alone-start level y w answer r = by answer r.0 (subst (λ c. StartsAs c sys level x.object y V r.0 answer) has-chart r.1) r.2
    where
      by : (answer : Step) (mid : LaneView) → StartsAs (Some chart) sys level x.object y V mid answer → w ≡ works_for v.by mid → StartsAlone w answer
      by step.Point mid (same, t) is = t
      by step.Done mid (same, t) is = alone-done level y mid w is t
      by step.Stopped mid (same, inl a) is = alone-asserts y mid w is a
      by step.Stopped mid (same, inr b) is = alone-spills y mid w is b
      by step.Memory mid (same, t) is = tt
