-- Where an object stands is where its course has come to.
use Rattle.std.proofs.Common.{◌≡◌, ◌+◌, true, false, ◌&&◌, List, [], ◌∷◌, ◌++◌, refl, sym, ◌∙◌, ap, subst, inl, Option, Some, None, arith}
use Rattle.std.proofs.lemmas.Bool.Decides.{nat_tests}
use Rattle.std.specs.List.{count_by}
use Rattle.std.proofs.lemmas.Option.{none-some}
use Rattle.qp_chart.specs.declared.checked.Chart.{Chart}
use Rattle.qp_chart.specs.Agenda.{start_plan}
use Rattle.qp_model.specs.declared.systems.System.{System}
use Rattle.qp_model.specs.declared.systems.ObjectDef.{ObjectDef}
use Rattle.qp_model.specs.declared.bodies.Entry.{Entry}
use Rattle.qp_model.specs.declared.bodies.Body.TheVariants as item
use Rattle.qp_model.specs.Told.{Told, plain, dropped}
use Rattle.qp_model.specs.Pieces.{Piece, Tell, records_in}
use Rattle.qp_model.specs.Acts.{Config, Actor}
use Rattle.qp_model.specs.Course.{Course, FollowsTo, actor, chart_at, first_config}
use Rattle.qp_model.specs.CourseLaws.{NothingFollowsAnAssertion}
use Rattle.qp_model.specs.ObjectShape.{asserts_last, asserts_none}
use Rattle.qp_model.specs.OutputSummary.{is_took, is_done_record, all_done, begins_nothing}
use Rattle.qp_model.proofs.CourseLawLemmas.{nothing_follows_an_assertion}
use Rattle.qp_model.proofs.GroupLemmas.{bare-append}
use Rattle.qp_model.proofs.LastLemmas.{quiet-append}
use Rattle.qp_model.proofs.ThroughLemmas.{course-fails}
use Rattle.qp_check_calls.specs.Decides.{Decides}
use Rattle.qp_check_calls.proofs.BeginLemmas.{reads-begin}
use Rattle.qp_check_calls.proofs.OpenLemmas.{open-begin, open-next}
use Rattle.qp_check_calls.proofs.ReadLemmas.{reads-next, reads-whole}
use Rattle.qp_check_calls.proofs.SomeLemmas.{open-reads}
use Rattle.qp_check_course.specs.Followable.{IsFollowable}
use Rattle.qp_check_course.specs.Goes.{Aim, MeetsAim, Starting, CourseGoes}
use Rattle.qp_check_course.specs.Machine.{State, Between, Releasing, Returning, Goes, start_state}
use Rattle.qp_check_course.specs.Passing.{run_told, is_none_told, told_well, told_to, asserts_where_cut}
use Rattle.qp_check_course.specs.Standing.{config_left_in, ShowsLeft, FollowSomehow, LeavesAt, StandsAt}
use Rattle.qp_check_course.specs.declared.standing.Standing.{Standing}
use Rattle.qp_check_course.proofs.CourseLemmas.{goes-course, steps-none}
use Rattle.qp_check_course.proofs.DoneLemmas.{open_of, open_in, start-under, told-counts, told-quiet}
use Rattle.qp_check_course.proofs.FollowLemmas.{records-decided}
use Rattle.qp_check_course.proofs.SettleLemmas.{back-settle}
use Rattle.qp_check_course.proofs.ToldLemmas.{told-goes}
use Rattle.qp_model.proofs.AbleLemmas.{some-same}

-- the course ends in this configuration
abbrev at : Config → Aim
at c = λ d. d ≡ c

-- what may still come where no step is under way: nothing, or the rest of a release
abbrev Stays : System → Actor → State → Config → Type 0
Stays sys a s c = (back : List Piece) × Goes sys a (at c) s back × (begins_nothing back ≡ true) × (asserts_none (records_in back) ≡ true)

rests : (sys : System) (a : Actor) (s : State) (c : Config) → config_left_in s ≡ Some c → Stays sys a s c
unfolding Goes records_in
rests sys a (Between d) c h = ([], steps-none sys a (at c) d cc, refl, refl)
rests sys a (Releasing e d) c h = (
  Tell (dropped e.pool e.block 0 e.name 1) ∷ [],
  (dropped e.pool e.block 0 e.name 1 ∷ [], [], inl (0, 0, refl), refl, steps-none sys a (at c) d cc),
  refl,
  refl,
)
rests sys a (Returning p b k d) c h =
    (Tell (plain (item.Back p 0 b (k + 1))) ∷ [], (0, ([], refl, steps-none sys a (at c) d cc)), refl, refl)
rests sys a s c h = absurd (none-some _ h)

module _ (sys : System) (d : ObjectDef) (f : IsFollowable sys d) (g : List Told) (follow : FollowSomehow sys d g) where
  abbrev a : Actor
  a = actor d f.its

  -- the same records, read from the object that is found
  pub read-at : (chart : Chart) → chart_at sys d.chart ≡ Some chart → (own : System) (b : Actor) → own ≡ sys → b ≡ actor d chart → (s : State)
      → s ≡ start_state b (first_config d) → run_told own b s g ≡ run_told sys (actor d f.its) (start_state (actor d f.its) (first_config d)) g
  read-at chart found own b same is s begun =
      let its : chart ≡ f.its = some-same (sym found ∙ f.is_its) in
      ap (λ x. run_told own b x g) begun ∙ ap (λ x. run_told x b (start_state b (first_config d)) g) same
      ∙ ap (λ x. run_told sys x (start_state x (first_config d)) g) (is ∙ ap (actor d) its)

  last-asserts : asserts_last g ≡ true
  unfolding FollowSomehow NothingFollowsAnAssertion
  last-asserts = subst (λ us. asserts_last us ≡ true) follow.2 (nothing_follows_an_assertion sys d follow.0 follow.1 follow.3)

  -- the records are read
  pub are-read : run_told sys a (start_state a (first_config d)) g ≡ None → ⊥
  unfolding FollowSomehow told_to Decides
  are-read none =
      let decided = records-decided sys d f follow.0 g in
      let no : told_to sys d f.its follow.0 g ≡ false = ap (λ o. told_well a follow.0 (is_none_told g) o && asserts_where_cut follow.0 g) none in
      let denied : Decides false ((ps : List Piece) × (records_in ps ≡ g) × FollowsTo sys d follow.0 ps) =
      subst (λ b. Decides b ((ps : List Piece) × (records_in ps ≡ g) × FollowsTo sys d follow.0 ps)) no decided in
      denied (follow.1, follow.2, follow.3)

  module _ (s : State) (read : run_told sys a (start_state a (first_config d)) g ≡ Some s) where
    counted : count_by (λ t. is_done_record t.body) g + open_in s ≡ count_by (λ t. is_took t.body) g + 1
    counted =
        let under = start-under a (first_config d) in
        told-counts sys a g (start_state a (first_config d)) s read under.0 ∙ ap (λ n. count_by (λ t. is_took t.body) g + n) under.1

    quiet : open_in s ≡ 0 → asserts_none g ≡ true
    quiet rests = told-quiet sys a g (start_state a (first_config d)) s read (start-under a (first_config d)).0 rests last-asserts

    -- the course comes there
    leaves : (c : Config) → config_left_in s ≡ Some c → LeavesAt sys d f.its g c
    unfolding LeavesAt CourseGoes start_state
    leaves c is =
        let rest = rests sys a s c is in
        let whole = told-goes reads-begin reads-whole reads-next open-begin open-next open-reads sys a f.able (at c) g (start_state a (first_config d)) s rest.0 read rest.1 in
        let from : CourseGoes sys a (at c) (first_config d) (whole.0 ++ rest.0) =
        back-settle reads-begin sys a (at c) Starting (start_plan f.its).leaf (start_plan f.its).tasks (first_config d) (whole.0 ++ rest.0) whole.2 in
        let course = goes-course sys a (at c) (first_config d) (whole.0 ++ rest.0) from in
        ended whole.0 rest.0 whole.1 rest.2 rest.3 course.0 course.1 course.2 course.3
      where
        ended : (ps back : List Piece) → records_in ps ≡ g → begins_nothing back ≡ true → asserts_none (records_in back) ≡ true → (es : List Entry) (end : Option Config)
            → Course sys a (first_config d) es (ps ++ back) end → MeetsAim (at c) end → LeavesAt sys d f.its g c
        ended ps back same begins none es None course met =
            let rests : open_in s ≡ 0 = ap open_of is in
            let all : asserts_none (records_in (ps ++ back)) ≡ true =
            subst (λ us. asserts_none us ≡ true) (sym (bare-append ps back ∙ ap (λ us. us ++ records_in back) same)) (quiet-append g (records_in back) (quiet rests) none) in
            absurd (course-fails sys a (first_config d) es (ps ++ back) course all)
        ended ps back same begins none es (Some e) course met =
            (ps, back, es, same, begins, subst (λ x. Course sys a (first_config d) es (ps ++ back) (Some x)) met course)

    -- what is told of it
    pub stands-at : (x : Option Standing) → ShowsLeft (config_left_in s) x → StandsAt sys d g x
    unfolding StandsAt
    stands-at x shows = by (config_left_in s) refl x shows
      where
        by : (o : Option Config) → config_left_in s ≡ o → (x : Option Standing) → ShowsLeft o x → StandsAt sys d g x
        by None is x shows =
            let under : open_in s ≡ 1 = ap open_of is in
            let counts = counted in
            let short : all_done g ≡ false = grind (arith, nat_tests, under, counts) in
            subst (StandsAt sys d g) (sym shows) short
        by (Some c) is None shows = absurd shows
        by (Some c) is (Some x) shows =
            let over : open_in s ≡ 0 = ap open_of is in
            let counts = counted in
            let whole : all_done g ≡ true = grind (arith, nat_tests, over, counts) in
            (whole, f.its, c, f.is_its, leaves c is, shows)
