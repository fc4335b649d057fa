-- An object's whole course, read from the front.
use Rattle.std.proofs.Common.{◌≡◌, ℕ, List, [], ◌∷◌, ◌++◌, refl, sym, ◌∙◌, ap, subst, Option, Some, None, append_assoc, append-nil}
use Rattle.qp_chart.specs.Agenda.{step_plan, start_plan}
use Rattle.qp_model.specs.declared.systems.System.{System}
use Rattle.qp_model.specs.declared.bodies.Entry.{Entry}
use Rattle.qp_model.specs.Told.{Told, Event, told_took}
use Rattle.qp_model.specs.Pieces.{Piece, Tell, records_in, tell}
use Rattle.qp_model.specs.Acts.{Config, Actor, Does, names_of}
use Rattle.qp_model.specs.Step.{Closes, StepBehind, Step, at_leaf, moment}
use Rattle.qp_model.specs.Course.{Starts, Steps, Course, at_start}
use Rattle.qp_check_course.specs.Goes.{Aim, anywhere, MeetsAim, Starting, Stepping, TasksGo, StepsGo, Closing, LeftGoes, StepGoes, CourseGoes}
use Rattle.qp_check_course.proofs.GoesLemmas.{does-go, go-does, Outcome}

-- where nothing is asked, each end does
pub any-end : (end : Option Config) → MeetsAim anywhere end
any-end None = tt
any-end (Some c) = tt

module _ (sys : System) (a : Actor) (aim : Aim) where
  -- nothing comes after an assertion
  steps-after : (es : List Entry) (rest : List Piece) (end : Option Config) → Steps sys a es None rest end → rest ≡ []
  unfolding Steps
  steps-after [] rest end h = h.0
  steps-after (e ∷ es) rest end h = absurd h

  -- a step over an entry, and the steps after it
  pub step-goes : (ev : Event) (e : Entry) (c : Config) (one rest : List Piece) (mid : Option Config) (es : List Entry) (end : Option Config)
      → StepBehind sys a ev e c one mid → Steps sys a es mid rest end → MeetsAim aim end
      → StepGoes sys a aim ev e c (one ++ rest)
  unfolding StepBehind StepGoes LeftGoes Closes Closing StepsGo
  step-goes ev e c one rest mid es end h k met = by h.0 h.1 h.2 h.3 h.4 h.5 (subst (λ o. Steps sys a es o rest end) h.6 k)
    where
      by : (body : List Piece) (rel : List Told) (inner : Option Config)
          → Does sys a (moment ev e) (step_plan a.chart c.leaf (names_of a c ev) ev.sig).tasks c body inner → Closes e inner rel → one ≡ body ++ tell rel
          → Steps sys a es (at_leaf (step_plan a.chart c.leaf (names_of a c ev) ev.sig).leaf inner) rest end
          → TasksGo sys a (Stepping ev e) (Closing sys a aim (Stepping ev e) (step_plan a.chart c.leaf (names_of a c ev) ev.sig).leaf) (step_plan a.chart c.leaf (names_of a c ev) ev.sig).tasks c (one ++ rest)
      by body rel None does closes is steps =
          let nothing : tell rel ++ rest ≡ [] = ap (λ zs. tell zs ++ rest) closes ∙ steps-after es rest end steps in
          subst (TasksGo sys a (Stepping ev e) (Closing sys a aim (Stepping ev e) (step_plan a.chart c.leaf (names_of a c ev) ev.sig).leaf) (step_plan a.chart c.leaf (names_of a c ev) ev.sig).tasks c) (sym (ap (λ zs. zs ++ rest) is ∙ append_assoc body (tell rel) rest))
          (does-go sys a (Stepping ev e) (Closing sys a aim (Stepping ev e) (step_plan a.chart c.leaf (names_of a c ev) ev.sig).leaf) (step_plan a.chart c.leaf (names_of a c ev) ev.sig).tasks c body None (tell rel ++ rest) does nothing)
      by body rel (Some d) does closes is steps =
          subst (TasksGo sys a (Stepping ev e) (Closing sys a aim (Stepping ev e) (step_plan a.chart c.leaf (names_of a c ev) ev.sig).leaf) (step_plan a.chart c.leaf (names_of a c ev) ev.sig).tasks c) (sym (ap (λ zs. zs ++ rest) is ∙ append_assoc body (tell rel) rest))
          (does-go sys a (Stepping ev e) (Closing sys a aim (Stepping ev e) (step_plan a.chart c.leaf (names_of a c ev) ev.sig).leaf) (step_plan a.chart c.leaf (names_of a c ev) ev.sig).tasks c body (Some d) (tell rel ++ rest) does (rel, rest, closes, refl, (es, end, steps, met)))

  -- and back
  pub goes-step : (ev : Event) (e : Entry) (c : Config) (ps : List Piece)
      → StepGoes sys a aim ev e c ps
      → (one rest : List Piece) × (mid : Option Config) × (es : List Entry) × (end : Option Config) × (ps ≡ one ++ rest) × StepBehind sys a ev e c one mid × Steps sys a es mid rest end × MeetsAim aim end
  unfolding StepBehind StepGoes LeftGoes Closes Closing StepsGo Steps
  goes-step ev e c ps h = let split = go-does sys a (Stepping ev e) (Closing sys a aim (Stepping ev e) (step_plan a.chart c.leaf (names_of a c ev) ev.sig).leaf) (step_plan a.chart c.leaf (names_of a c ev) ev.sig).tasks c ps h in by split.0 split.1 split.2 split.3 split.4 split.5
    where
      by : (body : List Piece) (mid : Option Config) (after : List Piece)
          → Does sys a (moment ev e) (step_plan a.chart c.leaf (names_of a c ev) ev.sig).tasks c body mid
          → Outcome (Closing sys a aim (Stepping ev e) (step_plan a.chart c.leaf (names_of a c ev) ev.sig).leaf) mid after → ps ≡ body ++ after
          → (one rest : List Piece) × (mid : Option Config) × (es : List Entry) × (end : Option Config) × (ps ≡ one ++ rest) × StepBehind sys a ev e c one mid × Steps sys a es mid rest end × MeetsAim aim end
      by body None after does nothing is =
          (body, [], None, [], None, is ∙ ap (λ zs. body ++ zs) nothing, (body, [], None, does, refl, sym (append-nil body), refl), (refl, refl), tt)
      by body (Some d) after does (rel, rest, drops, split, (es, end, steps, met)) is =
          (body ++ tell rel, rest, _, es, end, is ∙ ap (λ zs. body ++ zs) split ∙ sym (append_assoc body (tell rel) rest), (body, rel, Some d, does, drops, refl, refl), steps, met)

  -- between steps: what comes next is a `took`, and then its step
  pub took-goes : (c : Config) (p : Piece) (ps : List Piece) → StepsGo sys a aim c (p ∷ ps)
      → (f l m : ℕ) × (e : Entry) × (ev : Event) × (p ≡ Tell (told_took f l m e ev)) × StepGoes sys a aim ev e c ps
  unfolding StepsGo Steps Step
  took-goes c p ps ([], end, steps, met) = absurd (cc)
  took-goes c p ps (e ∷ es, end, (one, rest, mid, split, (f, l, m, ev, inner, is, step), steps), met) =
      let whole : p ∷ ps ≡ Tell (told_took f l m e ev) ∷ (inner ++ rest) = split ∙ ap (λ zs. zs ++ rest) is in
      let same : p ≡ Tell (told_took f l m e ev) = cc in
      let others : ps ≡ inner ++ rest = cc in
      (f, l, m, e, ev, same, subst (StepGoes sys a aim ev e c) (sym others) (step-goes ev e c inner rest mid es end step steps met))

  -- and back
  pub goes-took : (c : Config) (f l m : ℕ) (e : Entry) (ev : Event) (ps : List Piece) → StepGoes sys a aim ev e c ps → StepsGo sys a aim c (Tell (told_took f l m e ev) ∷ ps)
  unfolding StepsGo Steps Step
  goes-took c f l m e ev ps h = by (goes-step ev e c ps h)
    where
      by : ((one rest : List Piece) × (mid : Option Config) × (es : List Entry) × (end : Option Config) × (ps ≡ one ++ rest) × StepBehind sys a ev e c one mid × Steps sys a es mid rest end × MeetsAim aim end)
          → StepsGo sys a aim c (Tell (told_took f l m e ev) ∷ ps)
      by (one, rest, mid, es, end, is, step, steps, met) =
          (e ∷ es, end, (Tell (told_took f l m e ev) ∷ one, rest, mid, ap (λ zs. Tell (told_took f l m e ev) ∷ zs) is, (f, l, m, ev, one, refl, step), steps), met)

  -- nothing need come between steps
  pub steps-none : (c : Config) → aim c → StepsGo sys a aim c []
  unfolding StepsGo Steps
  steps-none c met = ([], Some c, (refl, refl), met)

  -- a whole course
  pub course-goes : (first : Config) (es : List Entry) (ps : List Piece) (end : Option Config) → Course sys a first es ps end → MeetsAim aim end → CourseGoes sys a aim first ps
  unfolding Course Starts CourseGoes LeftGoes Closing StepsGo
  course-goes first es ps end (start, rest, mid, split, (all, inner, does, is, leaves), steps) met =
      by inner does (subst (λ o. Steps sys a es o rest end) leaves steps)
    where
      by : (inner : Option Config) → Does sys a at_start (start_plan a.chart).tasks first all inner → Steps sys a es (at_leaf (start_plan a.chart).leaf inner) rest end
          → TasksGo sys a Starting (Closing sys a aim Starting (start_plan a.chart).leaf) (start_plan a.chart).tasks first ps
      by None does steps =
          subst (TasksGo sys a Starting (Closing sys a aim Starting (start_plan a.chart).leaf) (start_plan a.chart).tasks first) (sym (split ∙ ap (λ zs. zs ++ rest) is))
          (does-go sys a Starting (Closing sys a aim Starting (start_plan a.chart).leaf) (start_plan a.chart).tasks first all None rest does (steps-after es rest end steps))
      by (Some d) does steps =
          subst (TasksGo sys a Starting (Closing sys a aim Starting (start_plan a.chart).leaf) (start_plan a.chart).tasks first) (sym (split ∙ ap (λ zs. zs ++ rest) is))
          (does-go sys a Starting (Closing sys a aim Starting (start_plan a.chart).leaf) (start_plan a.chart).tasks first all (Some d) rest does (es, end, steps, met))

  -- and back
  pub goes-course : (first : Config) (ps : List Piece) → CourseGoes sys a aim first ps → (es : List Entry) × (end : Option Config) × Course sys a first es ps end × MeetsAim aim end
  unfolding Course Starts CourseGoes LeftGoes Closing StepsGo Steps
  goes-course first ps h = let split = go-does sys a Starting (Closing sys a aim Starting (start_plan a.chart).leaf) (start_plan a.chart).tasks first ps h in by split.0 split.1 split.2 split.3 split.4 split.5
    where
      by : (body : List Piece) (mid : Option Config) (after : List Piece) → Does sys a at_start (start_plan a.chart).tasks first body mid
          → Outcome (Closing sys a aim Starting (start_plan a.chart).leaf) mid after → ps ≡ tell (records_in body) ++ after
          → (es : List Entry) × (end : Option Config) × Course sys a first es ps end × MeetsAim aim end
      by body None after does nothing is =
          ([], None, (tell (records_in body), after, None, is, (body, None, does, refl, refl), (nothing, refl)), tt)
      by body (Some d) after does (es, end, steps, met) is =
          (es, end, (tell (records_in body), after, _, is, (body, Some d, does, refl, refl), steps), met)
