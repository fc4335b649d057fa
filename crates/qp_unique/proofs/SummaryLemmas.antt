-- A course has one configuration behind its records, and so a journal has one summary.
use Rattle.std.proofs.Common.{◌≡◌, ◌∙◌, ℕ, ◌+◌, ◌≤◌, ◌==◌, Bool, true, false, not, cond, List, [], ◌∷◌, ◌++◌, refl, sym, ap, subst, Some, arith}
use Rattle.std.specs.Prelude.{codes, decimal}
use Rattle.std.specs.Bool.{MatchBool}
use Rattle.std.specs.Option.{option_and_then}
use Rattle.std.specs.List.{AllByRecursion, count_by}
use Rattle.std.proofs.lemmas.Bool.{and_parts}
use Rattle.std.proofs.lemmas.Bool.Decides.{nat_tests}
use Rattle.std.proofs.lemmas.List.Sums.{sum_by-cons}
use Rattle.qp_chart.specs.declared.checked.Chart.{Chart}
use Rattle.qp_chart.specs.Agenda.{start_plan}
use Rattle.qp_model.specs.declared.systems.System.{System}
use Rattle.qp_model.specs.declared.systems.ObjectDef.{ObjectDef}
use Rattle.qp_model.specs.declared.journals.Journal.{Journal}
use Rattle.qp_model.specs.declared.bodies.Body.{Body}
use Rattle.qp_model.specs.declared.bodies.Body.TheVariants as body
use Rattle.qp_model.specs.Able.{chart_able}
use Rattle.qp_model.specs.Acts.{Config, Actor}
use Rattle.qp_model.specs.Course.{Steps, actor, chart_at, first_config}
use Rattle.qp_model.specs.Ends.{is_turn_mark}
use Rattle.qp_model.specs.History.{all_items}
use Rattle.qp_model.specs.Home.{by_object}
use Rattle.qp_model.specs.Lawful.{dispatched, facts_of}
use Rattle.qp_model.specs.OutputSummary.{is_took, is_done_record, count_events_taken, all_done, begins_nothing, CourseLeaves, config_text, IsStateText, IsObjectLine, AreObjectLines, IsSummary, pool_lines}
use Rattle.qp_model.specs.Pieces.{Piece, Tell, Point, records_in, tell}
use Rattle.qp_model.specs.Step.{Step}
use Rattle.qp_model.specs.Told.{Told, plain, told_took}
use Rattle.qp_check_calls.proofs.BeginLemmas.{reads-begin}
use Rattle.qp_check_calls.proofs.OpenLemmas.{open-begin, open-next}
use Rattle.qp_check_calls.proofs.ReadLemmas.{reads-next, reads-whole}
use Rattle.qp_check_calls.proofs.SomeLemmas.{open-reads}
use Rattle.qp_check_course.specs.Followable.{IsFollowable}
use Rattle.qp_check_course.specs.Goes.{Aim, MeetsAim, Starting, StepsGo, CourseGoes}
use Rattle.qp_check_course.specs.Machine.{State, Between, AtPoint, AtPost, Releasing, Returning, Goes, expects_point, state_next, start_state, tell_next}
use Rattle.qp_check_course.specs.Passing.{pass, run_told}
use Rattle.qp_check_course.specs.Ready.{MayGoOnFrom}
use Rattle.qp_check_course.specs.Standing.{config_left_in}
use Rattle.qp_check_course.proofs.CourseLemmas.{course-goes}
use Rattle.qp_check_course.proofs.DoneLemmas.{open_in, start-under, told-counts, one_if}
use Rattle.qp_check_course.proofs.NextLemmas.{goes-next}
use Rattle.qp_check_course.proofs.PassLemmas.{pass-none, pass-point}
use Rattle.qp_check_course.proofs.ReadyLemmas.{ready-next}
use Rattle.qp_check_course.proofs.RunLemmas.{begun, under}
use Rattle.qp_check_course.proofs.SettleLemmas.{into-settle}
use Rattle.qp_unique.specs.JournalLaws.{SummariesAreOne}
use Rattle.qp_unique.proofs.FollowLemmas.{sound-followable}
use Rattle.qp_model.proofs.AbleLemmas.{some-same}
use Rattle.qp_model.proofs.KindLemmas.{mark-is-no-take}

-- what begins nothing begins nothing further back
begins-behind : (ps qs : List Piece) → begins_nothing (ps ++ qs) ≡ true → begins_nothing qs ≡ true
unfolding records_in
begins-behind [] qs none = none
begins-behind (Tell t ∷ ps) qs none = begins-behind ps qs (and_parts (not (is_took t.body)) _ none).1
begins-behind (Point ∷ ps) qs none = begins-behind ps qs none

begins-points : (ps qs : List Piece) → records_in ps ≡ [] → begins_nothing qs ≡ true → begins_nothing (ps ++ qs) ≡ true
unfolding records_in
begins-points [] qs points none = none
begins-points (Tell t ∷ ps) qs points none = absurd (cc)
begins-points (Point ∷ ps) qs points none = begins-points ps qs points none

module _ (sys : System) (a : Actor) (able : chart_able sys a.chart ≡ true) (c : Config) where
  -- the course ends in this configuration
  abbrev Here : Aim
  Here = λ d. d ≡ c

  -- where a record comes next no point does
  no-point : (s later : State) (t : Told) → tell_next sys a s t ≡ Some later → expects_point s ≡ false
  unfolding tell_next
  no-point (AtPoint ev e ts leaf d) later t is = absurd (cc)
  no-point (AtPost way rest ts leaf d) later t is = absurd (cc)
  no-point s later t is = refl

  -- records were read from a state on, and what is left of the pieces comes from the later one on
  abbrev Read : State → List Told → List Piece → Type 0
  Read s g back = (later : State) × (tail : List Piece) × (run_told sys a s g ≡ Some later) × (records_in tail ≡ []) × Goes sys a Here later (tail ++ back)

  point-read : (ps back : List Piece) (s later : State) → pass a later ≡ pass a s → Goes sys a Here s (Point ∷ (ps ++ back)) → (g : List Told) → records_in ps ≡ g
      → Read later g back → Read s g back
  unfolding records_in run_told
  point-read ps back s later same h [] none read = (s, Point ∷ ps, refl, none, h)
  point-read ps back s later same h (t ∷ g) is read =
      (read.0, read.1, ap (λ x. option_and_then (λ more. run_told sys a more g) (tell_next sys a x t)) (sym same) ∙ read.2, read.3, read.4)

  read-on : (ps back : List Piece) (s : State) → MayGoOnFrom sys a s → Goes sys a Here s (ps ++ back) → Read s (records_in ps) back
  unfolding run_told state_next records_in
  read-on [] back s ready h = (s, [], refl, refl, h)
  read-on (Tell t ∷ ps) back s ready h =
      let step = goes-next reads-begin reads-whole reads-next sys a Here s (Tell t) (ps ++ back) (under sys a s ready) h in
      let rest = read-on ps back step.0 (ready-next reads-begin reads-next open-begin open-next sys a able s (Tell t) step.0 step.1 ready) step.2 in
      let passed : tell_next sys a (pass a s) t ≡ Some step.0 = ap (λ x. tell_next sys a x t) (pass-none a s (no-point s step.0 t step.1)) ∙ step.1 in
      (rest.0, rest.1, ap (λ o. option_and_then (λ later. run_told sys a later (records_in ps)) o) passed ∙ rest.2, rest.3, rest.4)
  read-on (Point ∷ ps) back s ready h =
      let step = goes-next reads-begin reads-whole reads-next sys a Here s Point (ps ++ back) (under sys a s ready) h in
      let rest = read-on ps back step.0 (ready-next reads-begin reads-next open-begin open-next sys a able s Point step.0 step.1 ready) step.2 in
      point-read ps back s step.0 (pass-point a s step.0 step.1) h (records_in ps) refl rest

  -- between steps, where none begins, the course has come to its end
  stays : (d : Config) (zs : List Piece) → begins_nothing zs ≡ true → StepsGo sys a Here d zs → d ≡ c
  unfolding StepsGo Steps Step records_in
  stays d zs none ([], end, (is, same), met) = subst (MeetsAim Here) same met
  stays d zs none (e ∷ es, end, (one, rest, mid, split, (f, l, m, ev, more, began, behind), steps), met) =
      let is : zs ≡ Tell (told_took f l m e ev) ∷ (more ++ rest) = split ∙ ap (λ us. us ++ rest) began in
      let wrong : begins_nothing (Tell (told_took f l m e ev) ∷ (more ++ rest)) ≡ true = subst (λ us. begins_nothing us ≡ true) is none in
      absurd (cc)

  -- so where no step is under way that is its configuration
  lands : (s : State) (zs : List Piece) → open_in s ≡ 0 → begins_nothing zs ≡ true → Goes sys a Here s zs → config_left_in s ≡ Some c
  unfolding Goes
  lands (Between d) zs over none h = ap Some (stays d zs none h)
  lands (Releasing e d) zs over none (rel, rest, drops, is, more) =
      ap Some (stays d rest (begins-behind (tell rel) rest (subst (λ us. begins_nothing us ≡ true) is none)) more)
  lands (Returning p b k d) zs over none (n, (rest, is, more)) =
      ap Some (stays d rest (begins-behind (Tell (plain (body.Back p n b (k + 1))) ∷ []) rest (subst (λ us. begins_nothing us ≡ true) is none)) more)
  lands s zs over none h = let wrong : 1 ≡ 0 = over in absurd (omega (arith, wrong))

-- ---- what is counted of an object's records is counted of those of its start and its steps

no-done : (b : Body) → is_turn_mark b ≡ true → is_done_record b ≡ false
no-done body.Done mark = absurd (cc)
no-done b mark = refl

module _ (p : Body → Bool) (other : (b : Body) → is_turn_mark b ≡ true → p b ≡ false) where
  counts : (ts : List Told) → count_by (λ t. p t.body) (dispatched ts) ≡ count_by (λ t. p t.body) ts
  counts [] = refl
  counts (t ∷ ts) = by (counts ts) (is_turn_mark t.body) refl ∙ sym (first ts)
    where
      first : (us : List Told) → count_by (λ t. p t.body) (t ∷ us) ≡ one_if (p t.body) + count_by (λ t. p t.body) us
      first us = sum_by-cons (λ (x : Told). one_if (p x.body)) t us

      by : count_by (λ t. p t.body) (dispatched ts) ≡ count_by (λ t. p t.body) ts → (b : Bool) → is_turn_mark t.body ≡ b
          → count_by (λ t. p t.body) (cond (not b) (t ∷ dispatched ts) (dispatched ts)) ≡ one_if (p t.body) + count_by (λ t. p t.body) ts
      by same true mark =
          let none = ap one_if (other t.body mark) in
          omega (arith, none, same)
      by same false mark = first (dispatched ts) ∙ ap (λ n. one_if (p t.body) + n) same

dispatched-done : (ts : List Told) → all_done (dispatched ts) ≡ all_done ts
dispatched-done ts = λ i. counts is_done_record no-done ts i == counts is_took mark-is-no-take ts i + 1

-- ---- an object

module _ (sys : System) (d : ObjectDef) (chart : Chart) (able : chart_able sys chart ≡ true) (ts : List Told) (done : all_done ts ≡ true) where
  abbrev a : Actor
  a = actor d chart

  abbrev start : State
  start = start_state (actor d chart) (first_config d)

  -- its records lead to a state that has the configuration which the course leaves
  comes-to : (c : Config) → CourseLeaves sys d chart ts c → (s : State) × (run_told sys a start (dispatched ts) ≡ Some s) × (config_left_in s ≡ Some c)
  unfolding CourseLeaves CourseGoes start_state
  comes-to c (ps, back, es, is, none, course) =
      let from : CourseGoes sys a (Here sys a able c) (first_config d) (ps ++ back) = course-goes sys a (Here sys a able c) (first_config d) es (ps ++ back) (Some c) course refl in
      let goes = into-settle reads-begin reads-whole sys a (Here sys a able c) Starting (start_plan chart).leaf (start_plan chart).tasks (first_config d) (ps ++ back) from in
      let within : 0 ≤ d.defer = omega arith in
      let ready : MayGoOnFrom sys a start = begun reads-begin reads-whole reads-next open-begin open-next open-reads sys a able (first_config d) within in
      let read = read-on sys a able c ps back start ready goes in
      let led : run_told sys a start (dispatched ts) ≡ Some read.0 = ap (run_told sys a start) (sym is) ∙ read.2 in
      (read.0, led, lands sys a able c read.0 (read.1 ++ back) (over read.0 led) (begins-points read.1 back read.3 none) read.4)
    where
      over : (s : State) → run_told sys (actor d chart) (start_state (actor d chart) (first_config d)) (dispatched ts) ≡ Some s → open_in s ≡ 0
      over s led =
          let begins = start-under a (first_config d) in
          let counted = told-counts sys a (dispatched ts) start s led begins.0 in
          let one = begins.1 in
          let whole : all_done (dispatched ts) ≡ true = dispatched-done ts ∙ done in
          grind (arith, nat_tests, counted, one, whole)

  one-left : (c e : Config) → CourseLeaves sys d chart ts c → CourseLeaves sys d chart ts e → c ≡ e
  one-left c e first second =
      let x = comes-to c first in
      let y = comes-to e second in
      some-same (sym x.2 ∙ ap config_left_in (some-same (sym x.1 ∙ y.1)) ∙ y.2)

one-text : (sys : System) (d : ObjectDef) → IsFollowable sys d → (ts : List Told) (x y : List ℕ) → IsStateText sys d (chart_at sys d.chart) ts x → IsStateText sys d (chart_at sys d.chart) ts y → x ≡ y
unfolding IsStateText
one-text sys d f ts x y one two = by (all_done ts) refl (subst (λ o. IsStateText sys d o ts x) f.is_its one) (subst (λ o. IsStateText sys d o ts y) f.is_its two)
  where
    by : (b : Bool) → all_done ts ≡ b → MatchBool b ((c : Config) × CourseLeaves sys d f.its ts c × (x ≡ config_text f.its c)) (x ≡ codes "-")
        → MatchBool b ((c : Config) × CourseLeaves sys d f.its ts c × (y ≡ config_text f.its c)) (y ≡ codes "-") → x ≡ y
    by true done (c, first, is) (e, second, are) = is ∙ ap (config_text f.its) (one-left sys d f.its f.able ts done c e first second) ∙ sym are
    by false done is are = is ∙ sym are

one-line : (sys : System) (j : Journal) (d : ObjectDef) → IsFollowable sys d → (x y : List ℕ) → IsObjectLine sys j d x → IsObjectLine sys j d y → x ≡ y
unfolding IsObjectLine
one-line sys j d f x y (one, first, is) (two, second, are) =
    let ts : List Told = by_object (facts_of sys j) j d.priority in
    is ∙ ap (λ text. codes "object " ++ d.name ++ 32 ∷ decimal (count_events_taken ts) ++ 32 ∷ text ++ codes "\n") (one-text sys d f ts one two first second) ∙ sym are

same-lines : (sys : System) (j : Journal) (ds : List ObjectDef) → AllByRecursion (IsFollowable sys) ds → (xs ys : List (List ℕ)) → AreObjectLines sys j ds xs → AreObjectLines sys j ds ys → xs ≡ ys
unfolding AreObjectLines
same-lines sys j [] f xs ys one two = one ∙ sym two
same-lines sys j (d ∷ ds) f xs ys (x, xs', first, more, is) (y, ys', second, others, are) =
    is ∙ (λ i. one-line sys j d f.0 x y first second i ∷ same-lines sys j ds f.1 xs' ys' more others i) ∙ sym are

pub one-summary : SummariesAreOne
unfolding IsSummary
one-summary sys j xs ys sound (first, one, is) (second, two, are) =
    is ∙ ap (λ objects. (codes "end " ++ decimal j.end ++ codes "\n") ∷ objects ++ pool_lines (all_items j.lanes) 1 sys.pools) (same-lines sys j sys.objects (sound-followable sys sound) first second one two) ∙ sym are
