-- An object in its lane comes to rest, and goes on.
use Rattle.std.proofs.Common.{◌≡◌, ℕ, suc, ◌+◌, ◌<◌, Bool, true, false, List, [], ◌∷◌, ◌++◌, refl, sym, ◌∙◌, ap, subst, arith, Option, Some, append_assoc, append-nil}
use Rattle.std.specs.List.{list_any}
use Rattle.qp_chart.specs.declared.checked.Chart.{Chart}
use Rattle.qp_model.specs.declared.systems.System.{System}
use Rattle.qp_model.specs.declared.systems.ObjectDef.{ObjectDef}
use Rattle.qp_model.specs.declared.bodies.Entry.{Entry}
use Rattle.qp_model.specs.declared.bodies.Body.TheVariants as body
use Rattle.qp_model.specs.Told.{Told, ToldItem, Event, for_object, plain, told_took}
use Rattle.qp_model.specs.Pieces.{Piece, Tell, Point, records_in, tell}
use Rattle.qp_model.specs.Acts.{Config}
use Rattle.qp_model.specs.Able.{chart_able}
use Rattle.qp_model.specs.Ends.{is_end}
use Rattle.qp_model.specs.Step.{Remainder, StepGoesOn, Step, StepBehind, DoesLeft, whole_step}
use Rattle.qp_model.specs.Course.{actor, first_config, Starts, Course}
use Rattle.qp_model.specs.Standing.{StepAdvances, Leaves}
use Rattle.qp_model.specs.Lawful.{dispatched}
use Rattle.qp_model.specs.ObjectShape.{StartGroup, StepGroup, IsTurn}
use Rattle.qp_model.proofs.CourseLemmas.{course-snoc}
use Rattle.qp_model.proofs.GroupLemmas.{bare-append, bare-tell}
use Rattle.qp_model.proofs.SequenceLemmas.{sequence-none, sequence-snoc}
use Rattle.qp_model.proofs.ShapeLemmas.{StartShape, StepShape, starts-shape, step-shape, turn-step}
use Rattle.qp_model.proofs.StepLemmas.{goes_on-completes}
use Rattle.qp_model_order.proofs.StimLemmas.{any-both}
use Rattle.std.proofs.lemmas.List.{map-append}
use Rattle.qp_kernel.specs.Stages as stage
use Rattle.qp_kernel.specs.Stages.{ComesTo, IsReady}
use Rattle.qp_kernel.specs.ZeroEnds.{own_told}
use Rattle.qp_kernel.proofs.AgendaLemmas.{whole-ready}
use Rattle.qp_kernel.proofs.BareLemmas.{own-append}
use Rattle.qp_kernel.proofs.KeptLemmas.{course-within}
use Rattle.qp_kernel.proofs.StageLemmas.{comes-started}
use Rattle.qp_kernel.proofs.TurnLemmas.{DoneForm, StartForm, done-form, inner-calm, inner-own, point-inner, start-form}
use Rattle.qp_kernel.proofs.ZeroLemmas.{drops-calm}
use Rattle.qp_port_law.specs.Homes.{home_told}
use Rattle.qp_port_law.specs.HomeLanes.{IsPartHome, IsWholeHome, points_in}
use Rattle.qp_port_law.proofs.HomeRecords.{AreInside, of_it, own-inside, drops-inside, inside-then, inside-dispatched, own-of, home-of, home-append, dispatched-append}

-- the records of a start, and of a step that comes to its end
pub started-inside : (g : List Told) → StartForm g → AreInside g
started-inside g form = subst AreInside (sym form.whole) (inside-then form.front (plain body.Done ∷ []) (own-inside form.front form.own) (refl, tt))

pub started-calm : (g : List Told) → StartForm g → list_any (λ t. is_end t.body) g ≡ false
started-calm g form =
    subst (λ x. list_any (λ t. is_end t.body) x ≡ false) (sym form.whole) (any-both (λ (t : Told). is_end t.body) form.front (plain body.Done ∷ []) form.calm refl)

pub done-inside : (g : List Told) → DoneForm g → AreInside g
done-inside g form = subst AreInside (sym form.whole) (inside-then form.front (plain body.Done ∷ form.rel) (own-inside form.front form.own) (refl, drops-inside form.rel form.drops))

pub done-calm : (g : List Told) → DoneForm g → list_any (λ t. is_end t.body) g ≡ false
done-calm g form =
    subst (λ x. list_any (λ t. is_end t.body) x ≡ false) (sym form.whole)
    (any-both (λ (t : Told). is_end t.body) form.front (plain body.Done ∷ form.rel) form.calm (drops-calm form.rel form.drops))

-- Scheduling points.
pub points-tell : (g : List Told) → points_in (tell g) ≡ 0
points-tell [] = refl
points-tell (t ∷ g) = points-tell g

pub points-append : (ps qs : List Piece) → points_in (ps ++ qs) ≡ points_in ps + points_in qs
points-append [] qs = omega arith
points-append (Point ∷ ps) qs = let r = points-append ps qs in omega (arith, r)
points-append (Tell t ∷ ps) qs = points-append ps qs

took-points : (n : ℕ) (t : Told) → n + points_in (Tell t ∷ []) ≡ n
took-points n t = omega arith

point-points : (before points : ℕ) (step : List Piece) (g : List Told) → before + points_in step ≡ points → before + points_in (step ++ (tell g ++ Point ∷ [])) ≡ suc points
point-points before points step g are =
    let one = points-append step (tell g ++ Point ∷ []) in
    let two = points-append (tell g) (Point ∷ []) in
    let none = points-tell g in
    let last : points_in (Point ∷ []) ≡ 1 = refl in
    omega (arith, one, two, none, last, are)

done-points : (before points : ℕ) (ps step : List Piece) (g : List Told) → points_in ps ≡ before → before + points_in step ≡ points → points_in (ps ++ (step ++ tell g)) ≡ points
done-points before points ps step g first are =
    let one = points-append ps (step ++ tell g) in
    let two = points-append step (tell g) in
    let none = points-tell g in
    omega (arith, one, two, none, first, are)

module _ (sys : System) (d : ObjectDef) (chart : Chart) (some : 0 < d.priority) where
  -- It has started.
  pub whole-started : (g : List Told) (c : Config) → Starts sys (actor d chart) (first_config d) (tell g) (Some c) → IsWholeHome sys d chart (of_it d.priority g) [] 0 c
  unfolding ComesTo StartShape
  whole-started g c starts =
      let form = start-form sys (actor d chart) (first_config d) g c starts in
      record {
        start = g;
        turns = [];
        begins = subst (StartGroup sys d.priority) (bare-tell g) (starts-shape sys (actor d chart) (first_config d) (tell g) (Some c) starts);
        goes = sequence-none (IsTurn sys d.priority true);
        groups = home-of d.priority g some ∙ sym (append-nil g);
        ps = tell g;
        bare_is = bare-tell g ∙ sym (ap dispatched (own-of d.priority g) ∙ inside-dispatched d.priority g (started-inside g form));
        comes =
            subst (λ ps. ComesTo sys (actor d chart) (first_config d) [] ps (stage.Resting c)) (append-nil (tell g))
            (comes-started sys (actor d chart) (first_config d) [] [] c g starts (omega arith) (refl, refl));
        points_are = points-tell g;
      }

  -- A turn without a step comes: the queue was found empty, or looked at.
  pub whole-mark : (told : List ToldItem) (es : List Entry) (points : ℕ) (c : Config) (t : ToldItem) (one : Told) → IsTurn sys d.priority true (one ∷ []) → home_told d.priority (t ∷ []) ≡ one ∷ []
      → dispatched (own_told d.priority (t ∷ [])) ≡ [] → IsWholeHome sys d chart told es points c → IsWholeHome sys d chart (told ++ t ∷ []) es points c
  whole-mark told es points c t one turn home none whole = record {
    start = whole.start;
    turns = whole.turns ++ one ∷ [];
    begins = whole.begins;
    goes = sequence-snoc (IsTurn sys d.priority true) whole.turns (one ∷ []) whole.goes turn;
    groups =
        home-append d.priority told (t ∷ []) ∙ ap (λ x. home_told d.priority told ++ x) home ∙ ap (λ x. x ++ one ∷ []) whole.groups
        ∙ append_assoc whole.start whole.turns (one ∷ []);
    ps = whole.ps;
    bare_is =
        whole.bare_is
        ∙ sym (ap dispatched (own-append d.priority told (t ∷ [])) ∙ dispatched-append (own_told d.priority told) (own_told d.priority (t ∷ []))
        ∙ ap (λ x. dispatched (own_told d.priority told) ++ x) none ∙ append-nil (dispatched (own_told d.priority told)));
    points_are = whole.points_are;
    comes = whole.comes;
  }

  -- It takes an entry up: its step begins.
  pub part-took : (told : List ToldItem) (es : List Entry) (points : ℕ) (c : Config) (f l m : ℕ) (e : Entry) (ev : Event) → chart_able sys chart ≡ true → IsWholeHome sys d chart told es points c
      → IsPartHome sys d chart false (told ++ for_object d.priority (told_took f l m e ev) ∷ []) (es ++ e ∷ []) points ev e (whole_step (actor d chart) c ev) c
  unfolding ComesTo StepGoesOn DoesLeft Step StepBehind whole_step records_in
  part-took told es points c f l m e ev able whole = record {
    front = told;
    back = for_object d.priority (told_took f l m e ev) ∷ [];
    told_is = refl;
    took = told_took f l m e ev;
    records = [];
    back_is = refl;
    others = es;
    es_are = refl;
    first = c;
    before = points;
    whole = whole;
    step = Tell (told_took f l m e ev) ∷ [];
    groups = home-of d.priority (told_took f l m e ev ∷ []) some;
    bare_is = ap dispatched (own-of d.priority (told_took f l m e ev ∷ []));
    points_are = took-points points (told_took f l m e ev);
    goes = λ qs end k. (f, l, m, ev, qs, refl, k);
    ready =
        let parts = whole-ready sys (actor d chart) c ev able in
        record { able = parts.0; closing = parts.1; room = whole.comes.1 };
    point = λ yes. absurd (cc);
  }

  module _ (waits : Bool) (told : List ToldItem) (es : List Entry) (points : ℕ) (ev : Event) (e : Entry) (left : Remainder) (c : Config) (part : IsPartHome sys d chart waits told es points ev e left c) where
    -- what is told, with records of the step behind it
    pub part-groups : (g : List Told) → home_told d.priority (told ++ of_it d.priority g) ≡ (part.whole.start ++ part.whole.turns) ++ (records_in part.step ++ g)
    part-groups g =
        ap (λ x. home_told d.priority (x ++ of_it d.priority g)) part.told_is
        ∙ ap (home_told d.priority) (append_assoc part.front part.back (of_it d.priority g))
        ∙ home-append d.priority part.front (part.back ++ of_it d.priority g)
        ∙ ap (λ x. home_told d.priority part.front ++ x) (home-append d.priority part.back (of_it d.priority g) ∙ ap (λ x. home_told d.priority part.back ++ x) (home-of d.priority g some))
        ∙ ap (λ x. home_told d.priority part.front ++ (x ++ g)) part.groups
        ∙ ap (λ x. x ++ (records_in part.step ++ g)) part.whole.groups

    pub part-own : (g : List Told) → AreInside g → dispatched (own_told d.priority (told ++ of_it d.priority g)) ≡ records_in part.whole.ps ++ (records_in part.step ++ g)
    part-own g inside =
        ap (λ x. dispatched (own_told d.priority (x ++ of_it d.priority g))) part.told_is
        ∙ ap (λ x. dispatched (own_told d.priority x)) (append_assoc part.front part.back (of_it d.priority g))
        ∙ ap dispatched (own-append d.priority part.front (part.back ++ of_it d.priority g))
        ∙ dispatched-append (own_told d.priority part.front) (own_told d.priority (part.back ++ of_it d.priority g))
        ∙ ap (λ x. dispatched (own_told d.priority part.front) ++ x)
        (ap dispatched (own-append d.priority part.back (of_it d.priority g)) ∙ dispatched-append (own_told d.priority part.back) (own_told d.priority (of_it d.priority g))
        ∙ ap (λ x. dispatched (own_told d.priority part.back) ++ x) (ap dispatched (own-of d.priority g) ∙ inside-dispatched d.priority g inside)
        ∙ ap (λ x. x ++ g) part.bare_is)
        ∙ ap (λ x. x ++ (records_in part.step ++ g)) (sym part.whole.bare_is)

    pub step-bare : (g : List Told) → records_in (part.step ++ tell g) ≡ records_in part.step ++ g
    step-bare g = bare-append part.step (tell g) ∙ ap (λ x. records_in part.step ++ x) (bare-tell g)

    pub course-bare : (g : List Told) → records_in (part.whole.ps ++ (part.step ++ tell g)) ≡ records_in part.whole.ps ++ (records_in part.step ++ g)
    course-bare g = bare-append part.whole.ps (part.step ++ tell g) ∙ ap (λ x. records_in part.whole.ps ++ x) (step-bare g)

    -- the course with the step, whatever ends it
    pub course-goes : (qs : List Piece) (end : Option Config) → StepGoesOn sys (actor d chart) ev e left c qs end → Course sys (actor d chart) (first_config d) es (part.whole.ps ++ (part.step ++ qs)) end
    unfolding ComesTo Leaves
    course-goes qs end goes =
        subst (λ xs. Course sys (actor d chart) (first_config d) xs (part.whole.ps ++ (part.step ++ qs)) end) (sym part.es_are)
        (course-snoc sys (actor d chart) (first_config d) part.others e part.first part.whole.ps (part.step ++ qs) end part.whole.comes.0 (part.goes qs end goes))

    -- The step comes to its next scheduling point.
    pub point-inside : (later : Remainder) (after : Config) (g : List Told) → StepAdvances sys (actor d chart) ev e left c (tell g ++ Point ∷ []) later after → IsReady sys (actor d chart) later after
        → AreInside g × (list_any (λ t. is_end t.body) g ≡ false)
    unfolding StepAdvances
    point-inside later after g goes ready =
        let rest = goes_on-completes sys (actor d chart) ev e later after ready.able ready.room in
        let inner = point-inner sys (actor d chart) ev e left c part.ready.closing g rest.0 rest.1
        (subst (λ x. StepGoesOn sys (actor d chart) ev e left c x rest.1) (append_assoc (tell g) (Point ∷ []) rest.0) (goes rest.0 rest.1 rest.2)) in
        (own-inside g (inner-own g inner), inner-calm g inner)

    pub part-point : (later : Remainder) (after : Config) (g : List Told) → StepAdvances sys (actor d chart) ev e left c (tell g ++ Point ∷ []) later after → IsReady sys (actor d chart) later after
        → IsPartHome sys d chart true (told ++ of_it d.priority g) es (suc points) ev e later after
    unfolding StepAdvances records_in
    part-point later after g goes ready =
        let inside = (point-inside later after g goes ready).0 in
        let bare-step : records_in (part.step ++ (tell g ++ Point ∷ [])) ≡ records_in part.step ++ g =
        bare-append part.step (tell g ++ Point ∷ []) ∙ ap (λ x. records_in part.step ++ x) (bare-append (tell g) (Point ∷ []) ∙ append-nil (records_in (tell g)) ∙ bare-tell g) in
        record {
          front = part.front;
          back = part.back ++ of_it d.priority g;
          told_is = ap (λ x. x ++ of_it d.priority g) part.told_is ∙ append_assoc part.front part.back (of_it d.priority g);
          took = part.took;
          records = part.records ++ g;
          back_is = ap (λ x. x ++ of_it d.priority g) part.back_is ∙ sym (map-append (for_object d.priority) (part.took ∷ part.records) g);
          others = part.others;
          es_are = part.es_are;
          first = part.first;
          before = part.before;
          whole = part.whole;
          step = part.step ++ (tell g ++ Point ∷ []);
          groups =
              home-append d.priority part.back (of_it d.priority g) ∙ ap (λ x. home_told d.priority part.back ++ x) (home-of d.priority g some) ∙ ap (λ x. x ++ g) part.groups ∙ sym bare-step;
          bare_is =
              ap dispatched (own-append d.priority part.back (of_it d.priority g)) ∙ dispatched-append (own_told d.priority part.back) (own_told d.priority (of_it d.priority g))
              ∙ ap (λ x. dispatched (own_told d.priority part.back) ++ x) (ap dispatched (own-of d.priority g) ∙ inside-dispatched d.priority g inside)
              ∙ ap (λ x. x ++ g) part.bare_is ∙ sym bare-step;
          points_are = point-points part.before points part.step g part.points_are;
          goes = λ qs end k.
              subst (λ x. Step sys (actor d chart) e part.first x end) (sym (append_assoc part.step (tell g ++ Point ∷ []) qs)) (part.goes ((tell g ++ Point ∷ []) ++ qs) end (goes qs end k));
          ready = ready;
          point = λ yes. (part.step ++ tell g, sym (append_assoc part.step (tell g) (Point ∷ [])));
        }

    -- The step comes to its end.
    pub part-done : (after : Config) (g : List Told) → StepGoesOn sys (actor d chart) ev e left c (tell g) (Some after) → IsWholeHome sys d chart (told ++ of_it d.priority g) es points after
    unfolding ComesTo Leaves StepShape
    part-done after g goes =
        let form = done-form sys (actor d chart) ev e left c part.ready.closing g after goes in
        let one : StepGroup sys d.priority (records_in part.step ++ g) =
        subst (StepGroup sys d.priority) (step-bare g) (step-shape sys (actor d chart) e part.first (part.step ++ tell g) (Some after) (part.goes (tell g) (Some after) goes)) in
        let course = course-goes (tell g) (Some after) goes in
        record {
          start = part.whole.start;
          turns = part.whole.turns ++ (records_in part.step ++ g);
          begins = part.whole.begins;
          goes = turn-step sys d.priority true part.whole.turns (records_in part.step ++ g) part.whole.goes one;
          groups = part-groups g ∙ append_assoc part.whole.start part.whole.turns (records_in part.step ++ g);
          ps = part.whole.ps ++ (part.step ++ tell g);
          bare_is = course-bare g ∙ sym (part-own g (done-inside g form));
          points_are = done-points part.before points part.whole.ps part.step g part.whole.points_are part.points_are;
          comes = (course, course-within sys (actor d chart) (first_config d) after es (part.whole.ps ++ (part.step ++ tell g)) (omega arith) course);
        }
