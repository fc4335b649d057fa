-- The records of an object's course, for the tokens that they use.
use Rattle.std.proofs.Common.{◌≡◌, ◌∙◌, ℕ, ◌+◌, ◌≤◌, Bool, true, false, List, [], ◌∷◌, ◌++◌, refl, sym, ap, subst, arith, Option, Some, None}
use Rattle.std.specs.Prelude.{⊤, slice_set}
use Rattle.std.specs.Bool.{MatchBool}
use Rattle.std.specs.List.{AllByRecursion}
use Rattle.qp_chart.specs.Expr.{Names}
use Rattle.qp_chart.specs.declared.checked.Chart.{Chart}
use Rattle.qp_chart.specs.Task.{Task, Begin, Run, Unhandled, Exit, Enter, Init, Done, Do, Raise, Restore}
use Rattle.qp_chart.specs.Agenda.{start_plan, step_plan}
use Rattle.qp_model.specs.declared.systems.System.{System}
use Rattle.qp_model.specs.declared.systems.ObjectDef.{ObjectDef}
use Rattle.qp_model.specs.declared.bodies.Entry.{Entry}
use Rattle.qp_model.specs.declared.bodies.Body.TheVariants as item
use Rattle.qp_model.specs.Told.{Told, Event, plain, raised, told_took}
use Rattle.qp_model.specs.Calls.{Deed, Sets, Says, Calls, deed_of, ok_after, is_assertion}
use Rattle.qp_model.specs.Pieces.{Piece, Tell, Point, records_in, tell, pieces_of}
use Rattle.qp_model.specs.Acts.{Config, Actor, Moment, DoesDeed, DoesTask, Does, names_of}
use Rattle.qp_model.specs.Step.{StepBehind, Step, Closes, moment, at_leaf}
use Rattle.qp_model.specs.Course.{Cut, Whole, Stopped, Anywhere, FollowsTo, Follows, FollowsAs, Course, Starts, Steps, actor, at_start, chart_at, first_config}
use Rattle.qp_model.proofs.CourseLemmas.{through-follows}
use Rattle.qp_model.proofs.GroupLemmas.{bare-append, bare-tell, bare-pieces_of}
use Rattle.qp_calls.specs.Counting.{times}
use Rattle.qp_calls.specs.Tokens.{Token, hands_by}
use Rattle.qp_calls.proofs.CountLemmas.{count_in, count-with}
use Rattle.qp_replay.proofs.CallRecords.{Bag, CallNames, Claims, Named, Leads, Lin, Rules, NowGood, held, call-leads, call-ends, drops-leads, leads-append, leads-less, leads-nil, known-front, known-back, lin-front, still}

-- what a deed of object o names
abbrev pub DeedNames : Named → System → ℕ → Deed → Type 0
DeedNames N sys o (Calls x) = CallNames N sys o x
DeedNames N sys o _ = ⊤

-- the same of a task, whatever its names stand for
abbrev pub TaskNames : Named → System → ℕ → Task → Type 0
TaskNames N sys o (Do p) = (names : Names) → names.me ≡ o → DeedNames N sys o (deed_of names p)
TaskNames N sys o _ = ⊤

-- what all actions of a chart name
pub record ChartNames (N : Named) (sys : System) (o : ℕ) (chart : Chart) : Type 0 where
  pub start : AllByRecursion (TaskNames N sys o) (start_plan chart).tasks
  pub steps : (leaf : ℕ) (names : Names) (sig : ℕ) → AllByRecursion (TaskNames N sys o) (step_plan chart leaf names sig).tasks

module _ (sys : System) (a : Actor) (P : Claims) (rules : Rules sys P) (home : P.names.Object a.o) (has : ChartNames P.names sys a.o a.chart) where
  abbrev AllKnown : List Told → Type 0
  AllKnown g = AllByRecursion P.Knows g

  abbrev AllGood : List Entry → Type 0
  AllGood es = AllByRecursion P.Good es

  abbrev KeptGood : Option Config → Type 0
  KeptGood None = ⊤
  KeptGood (Some c) = AllGood c.kept

  -- the hands between tasks: the entry at hand and the deferred ones
  abbrev hand_of : Option Entry → List Entry → Bag
  hand_of now kept = held sys a.o P rules now kept

  -- and at the end, which an assertion may be
  abbrev end_bag : Option Entry → Option Config → Bag
  end_bag now None = λ t. 0
  end_bag now (Some c) = hand_of now c.kept

  -- the records may be made, and leave these hands and a deferred list of good entries
  record Goes (B : Bag) (g : List Told) (now : Option Entry) (end : Option Config) : Type 0 where
    leads : Leads sys a.o P B g (end_bag now end)
    good : AllKnown g → KeptGood end

  goes-same : (B : Bag) (g h : List Told) (now : Option Entry) (end : Option Config) → g ≡ h → Goes B h now end → Goes B g now end
  goes-same B g h now end is goes = subst (λ x. Goes B x now end) (sym is) goes

  -- two lists, the second of which rests on what the first leaves
  both : (B M : Bag) (g h : List Told) (now : Option Entry) (end : Option Config) → Leads sys a.o P B g M → (AllKnown g → Goes M h now end) → Goes B (g ++ h) now end
  both B M g h now end first later = record {
    leads = leads-append sys a.o P B M (end_bag now end) g h first (λ k. (later k).leads);
    good = λ k. (later (known-front sys a.o P g h k)).good (known-back sys a.o P g h k);
  }

  note : (B : Bag) (t : Told) (ps rest : List Piece) (now : Option Entry) (end : Option Config) → Leads sys a.o P B (t ∷ []) B → ps ≡ Tell t ∷ rest → Goes B (records_in rest) now end → Goes B (records_in ps) now end
  unfolding records_in
  note B t ps rest now end first is goes = goes-same B (records_in ps) (t ∷ records_in rest) now end (ap records_in is) (both B B (t ∷ []) (records_in rest) now end first (λ k. goes))

  module _ (at : Moment) (good : NowGood sys a.o P rules at.entry) where
    abbrev B_of : Config → Bag
    B_of c = hand_of at.entry c.kept

    module _ (ts : List Task) (end : Option Config) (ps : List Piece)
        (later : (d : Config) (rest : List Piece) → AllGood d.kept → Does sys a at ts d rest end → Goes (B_of d) (records_in rest) at.entry end) where
      deed-goes : (c : Config) (deed : Deed) → DeedNames P.names sys a.o deed → AllGood c.kept
          → DoesDeed sys a at.entry c (λ d rest. Does sys a at ts d rest end) (end ≡ None) deed ps → Goes (B_of c) (records_in ps) at.entry end
      unfolding DoesDeed records_in hands_by
      deed-goes c (Sets var value) names all (rest, is, does) =
          goes-same (B_of c) (records_in ps) (records_in rest) at.entry end (ap records_in is) (later (record c { vars = slice_set c.vars var value }) rest all does)
      deed-goes c (Says value) names all (rest, is, does) =
          note (B_of c) (plain (item.Say value)) ps (Point ∷ rest) at.entry end (still sys a.o P (B_of c) (plain (item.Say value)) (λ H. tt) (λ H. refl)) is (later c rest all does)
      deed-goes c (Calls x) names all (answer, g, kept, fits, keeps, h) = either (is_assertion answer) refl h
        where
          either : (b : Bool) → is_assertion answer ≡ b
              → MatchBool b ((ps ≡ pieces_of x g) × (end ≡ None))
              ((rest : List Piece) × (ps ≡ pieces_of x g ++ (Point ∷ rest)) × Does sys a at ts (record c { ok = ok_after answer c.ok; kept = kept }) rest end)
              → Goes (B_of c) (records_in ps) at.entry end
          either true e (is, none) =
              goes-same (B_of c) (records_in ps) g at.entry end (ap records_in is ∙ bare-pieces_of x g)
              (subst (λ d. Goes (B_of c) g at.entry d) (sym none) (record { leads = call-ends sys a.o P rules at.entry a.room c.kept kept x answer g names good all e fits keeps; good = λ k. tt }))
          either false e (rest, is, does) =
              let does_call = call-leads sys a.o P rules at.entry a.room c.kept kept x answer g names good all e fits keeps in
              let next : Config = record c { ok = ok_after answer c.ok; kept = kept } in
              goes-same (B_of c) (records_in ps) (g ++ records_in rest) at.entry end
              (ap records_in is ∙ bare-append (pieces_of x g) (Point ∷ rest) ∙ ap (λ us. us ++ records_in rest) (bare-pieces_of x g))
              (both (B_of c) (B_of next) g (records_in rest) at.entry end does_call.0 (λ k. later next rest (does_call.1 k) does))

      mute : (c : Config) (t : Told) (rest : List Piece) → Leads sys a.o P (B_of c) (t ∷ []) (B_of c) → AllGood c.kept → ps ≡ Tell t ∷ rest → Does sys a at ts c rest end → Goes (B_of c) (records_in ps) at.entry end
      mute c t rest first all is does = note (B_of c) t ps rest at.entry end first is (later c rest all does)

      task-goes : (c : Config) (task : Task) → TaskNames P.names sys a.o task → AllGood c.kept
          → DoesTask sys a at c (λ d rest. Does sys a at ts d rest end) (end ≡ None) task ps → Goes (B_of c) (records_in ps) at.entry end
      unfolding DoesTask records_in hands_by
      task-goes c (Do p) names all h = deed-goes c (deed_of (names_of a c at.event) p) (names (names_of a c at.event) refl) all h
      task-goes c (Raise ceiling) names all (former, (rest, is, does)) =
          note (B_of c) (raised _ former) ps rest at.entry end (still sys a.o P (B_of c) (raised _ former) (λ H. tt) (λ H. refl)) is (later (record c { former = former }) rest all does)
      task-goes c Restore names all (more, is, (rest, point, does)) =
          note (B_of c) (plain (item.Unlock c.former)) ps more at.entry end (still sys a.o P (B_of c) (plain (item.Unlock c.former)) (λ H. tt) (λ H. refl)) is
          (goes-same (B_of c) (records_in more) (records_in rest) at.entry end (ap records_in point) (later c rest all does))
      task-goes c Begin names all (rest, is, does) = mute c (plain item.Begin) rest (still sys a.o P (B_of c) (plain item.Begin) (λ H. tt) (λ H. refl)) all is does
      task-goes c (Run s n) names all (rest, is, does) = mute c (plain (item.Run s n)) rest (still sys a.o P (B_of c) (plain (item.Run s n)) (λ H. tt) (λ H. refl)) all is does
      task-goes c Unhandled names all (rest, is, does) = mute c (plain item.Unhandled) rest (still sys a.o P (B_of c) (plain item.Unhandled) (λ H. tt) (λ H. refl)) all is does
      task-goes c (Exit s) names all (rest, is, does) = mute c (plain (item.Exit s)) rest (still sys a.o P (B_of c) (plain (item.Exit s)) (λ H. tt) (λ H. refl)) all is does
      task-goes c (Enter s) names all (rest, is, does) = mute c (plain (item.Enter s)) rest (still sys a.o P (B_of c) (plain (item.Enter s)) (λ H. tt) (λ H. refl)) all is does
      task-goes c (Init s) names all (rest, is, does) = mute c (plain (item.Init s)) rest (still sys a.o P (B_of c) (plain (item.Init s)) (λ H. tt) (λ H. refl)) all is does
      task-goes c Done names all (rest, is, does) = mute c (plain item.Done) rest (still sys a.o P (B_of c) (plain item.Done) (λ H. tt) (λ H. refl)) all is does

    does-goes : (ts : List Task) (c : Config) (ps : List Piece) (end : Option Config) → AllByRecursion (TaskNames P.names sys a.o) ts → AllGood c.kept → Does sys a at ts c ps end
        → Goes (B_of c) (records_in ps) at.entry end
    unfolding Does records_in
    does-goes [] c ps end names all (is, last) =
        goes-same (B_of c) (records_in ps) [] at.entry end (ap records_in is) (subst (λ d. Goes (B_of c) [] at.entry d) (sym last) (record { leads = leads-nil sys a.o P (B_of c); good = λ k. all }))
    does-goes (task ∷ ts) c ps end names all h = task-goes ts end ps (λ d rest kept does. does-goes ts d rest end names.1 kept does) c task names.0 all h

  -- between steps
  abbrev rest_of : List Entry → Bag
  rest_of kept = hand_of None kept

  at-leaf : (B : Bag) (g : List Told) (leaf : ℕ) (mid end : Option Config) → end ≡ at_leaf leaf mid → Goes B g None mid → Goes B g None end
  at-leaf B g leaf None end is goes = subst (λ d. Goes B g None d) (sym is) goes
  at-leaf B g leaf (Some c) end is goes = subst (λ d. Goes B g None d) (sym is) (record { leads = goes.leads; good = goes.good })

  start-goes : (c : Config) (ps : List Piece) (end : Option Config) → AllGood c.kept → Starts sys a c ps end → Goes (rest_of c.kept) (records_in ps) None end
  unfolding Starts
  start-goes c ps end all (whole, mid, does, is, last) =
      let goes = does-goes at_start tt (start_plan a.chart).tasks c whole mid has.start all does in
      goes-same (rest_of c.kept) (records_in ps) (records_in whole) None end (ap records_in is ∙ bare-tell (records_in whole)) (at-leaf (rest_of c.kept) (records_in whole) _ mid end last goes)

  closes-goes : (e : Entry) (mid : Option Config) (rel : List Told) → P.Good e → KeptGood mid → Closes e mid rel → Goes (end_bag (Some e) mid) rel None mid
  unfolding Closes
  closes-goes e None rel good kept h = goes-same (λ t. 0) rel [] None None h (record { leads = leads-nil sys a.o P (λ t. 0); good = λ k. tt })
  closes-goes e (Some c) rel good kept h = record {
    leads = leads-less sys a.o P (λ t. count_in t e + rest_of c.kept t) (end_bag (Some e) (Some c)) (rest_of c.kept) (rest_of c.kept) rel (λ t. omega arith) (λ t. omega arith) (drops-leads sys a.o P rules e rel (rest_of c.kept) good h);
    good = λ k. kept;
  }

  took-leads : (f l m : ℕ) (e : Entry) (ev : Event) (B : Bag) → Leads sys a.o P B (told_took f l m e ev ∷ []) (λ t. count_in t e + B t)
  unfolding hands_by
  took-leads f l m e ev B H within = ((home, λ k. tt), λ k t. let w = within t in let more = count-with t e H in omega (arith, w, more))

  step-goes : (e : Entry) (c : Config) (ps : List Piece) (end : Option Config) → AllGood c.kept → Step sys a e c ps end → Goes (rest_of c.kept) (records_in ps) None end
  unfolding Step StepBehind records_in
  step-goes e c ps end all (f, l, m, ev, rest, is, (body, rel, mid, does, closes, split, last)) =
      let whole : records_in ps ≡ told_took f l m e ev ∷ (records_in body ++ rel) =
      ap records_in is ∙ ap (λ us. told_took f l m e ev ∷ us) (ap records_in split ∙ bare-append body (tell rel) ∙ ap (λ us. records_in body ++ us) (bare-tell rel)) in
      let goes : P.Knows (told_took f l m e ev) → Goes (hand_of (Some e) c.kept) (records_in body) (Some e) mid =
      λ k. does-goes (moment ev e) (rules.takes f l m e ev k) (step_plan a.chart c.leaf (names_of a c ev) ev.sig).tasks c body mid (has.steps c.leaf (names_of a c ev) ev.sig) all does in
      let took = leads-less sys a.o P (rest_of c.kept) (rest_of c.kept) (λ t. count_in t e + rest_of c.kept t) (hand_of (Some e) c.kept) (told_took f l m e ev ∷ []) (λ t. omega arith) (λ t. omega arith)
      (took-leads f l m e ev (rest_of c.kept)) in
      at-leaf (rest_of c.kept) (records_in ps) _ mid end last
      (goes-same (rest_of c.kept) (records_in ps) (told_took f l m e ev ∷ (records_in body ++ rel)) None mid whole
      (both (rest_of c.kept) (hand_of (Some e) c.kept) (told_took f l m e ev ∷ []) (records_in body ++ rel) None mid took
      (λ k. let g = goes k.0 in both (hand_of (Some e) c.kept) (end_bag (Some e) mid) (records_in body) rel None mid g.leads (λ j. closes-goes e mid rel (rules.takes f l m e ev k.0) (g.good j) closes))))

  steps-go : (es : List Entry) (c : Option Config) (ps : List Piece) (end : Option Config) → KeptGood c → Steps sys a es c ps end → Goes (end_bag None c) (records_in ps) None end
  unfolding Steps records_in
  steps-go [] c ps end all (is, last) =
      goes-same (end_bag None c) (records_in ps) [] None end (ap records_in is) (subst (λ d. Goes (end_bag None c) [] None d) (sym last) (record { leads = leads-nil sys a.o P (end_bag None c); good = λ k. all }))
  steps-go (e ∷ es) None ps end all h = absurd h
  steps-go (e ∷ es) (Some c) ps end all (first, rest, mid, is, step, more) =
      let goes = step-goes e c first mid all step in
      goes-same (rest_of c.kept) (records_in ps) (records_in first ++ records_in rest) None end (ap records_in is ∙ bare-append first rest)
      (both (rest_of c.kept) (end_bag None mid) (records_in first) (records_in rest) None end goes.leads (λ k. steps-go es mid rest end (goes.good k) more))

  pub course-lin : (c : Config) (es : List Entry) (ps : List Piece) (end : Option Config) → c.kept ≡ [] → Course sys a c es ps end → Lin sys a.o P [] (records_in ps)
  unfolding Course times
  course-lin c es ps end none (start, rest, mid, is, starts, steps) =
      let all : AllGood c.kept = subst AllGood (sym none) tt in
      let goes = start-goes c start mid all starts in
      let whole = both (rest_of c.kept) (end_bag None mid) (records_in start) (records_in rest) None end goes.leads (λ k. steps-go es mid rest end (goes.good k) steps) in
      subst (Lin sys a.o P []) (sym (ap records_in is ∙ bare-append start rest)) (whole.leads [] (λ t. subst (λ es. rest_of es t ≤ 0) (sym none) (nothing t))).0
    where
      nothing : (t : Token) → rest_of [] t ≤ 0
      nothing t = omega arith

-- what follows an object's chart, cut or not
module _ (sys : System) (d : ObjectDef) (P : Claims) (rules : Rules sys P)
    (home : P.names.Object d.priority) (has : (chart : Chart) → chart_at sys d.chart ≡ Some chart → ChartNames P.names sys d.priority chart) where
  follows-lin : (ps : List Piece) → Follows sys d ps → Lin sys d.priority P [] (records_in ps)
  unfolding Follows FollowsAs
  follows-lin ps h = by (chart_at sys d.chart) refl h
    where
      by : (o : Option Chart) → chart_at sys d.chart ≡ o → FollowsAs sys d o ps → Lin sys d.priority P [] (records_in ps)
      by None is h = absurd h
      by (Some chart) is (es, end, course) = course-lin sys (actor d chart) P rules home (has chart is) (first_config d) es ps end refl course

  more-lin : (ps back : List Piece) → Follows sys d (ps ++ back) → Lin sys d.priority P [] (records_in ps)
  more-lin ps back h = lin-front sys d.priority P [] (records_in ps) (records_in back) (subst (Lin sys d.priority P []) (bare-append ps back) (follows-lin (ps ++ back) h))

  pub cut-lin : (cut : Cut) (ps : List Piece) → FollowsTo sys d cut ps → Lin sys d.priority P [] (records_in ps)
  unfolding FollowsTo
  cut-lin Whole ps h = follows-lin ps (through-follows sys d ps h)
  cut-lin Stopped ps h = more-lin ps h.0 h.1
  cut-lin Anywhere ps h = more-lin ps h.0 h.1
