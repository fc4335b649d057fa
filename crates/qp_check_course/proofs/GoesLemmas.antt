-- Tasks done one after another, and what comes after them, read from the front.
use Rattle.std.proofs.Common.{◌≡◌, Bool, true, false, List, [], ◌∷◌, ◌++◌, refl, sym, ◌∙◌, ap, subst, Option, Some, None, append_assoc, append-nil}
use Rattle.std.specs.Prelude.{slice_set, max}
use Rattle.std.specs.Bool.{MatchBool}
use Rattle.qp_chart.specs.Task.{Task, Begin, Run, Unhandled, Exit, Enter, Init, Done, Do, Raise, Restore}
use Rattle.qp_model.specs.declared.systems.System.{System}
use Rattle.qp_model.specs.declared.bodies.Body.TheVariants as item
use Rattle.qp_model.specs.Told.{Told, plain, raised}
use Rattle.qp_model.specs.Calls.{Call, Deed, Sets, Says, Calls, deed_of, ok_after, is_assertion}
use Rattle.qp_model.specs.Pieces.{Piece, Tell, Point, records_in, tell, pieces_of}
use Rattle.qp_model.specs.Acts.{Config, Actor, names_of, Later, DoesCall, DoesDeed, Notes, DoesTask, Does}
use Rattle.qp_model.proofs.GroupLemmas.{bare-append, bare-pieces_of}
use Rattle.qp_check_course.specs.Goes.{Way, Starting, Stepping, moment_of, Ends, call_pieces, CallGoes, DeedGoes, TaskGoes, TasksGo}
use Rattle.qp_model.proofs.PublicationLemmas.{tell-append}

-- the pieces of tasks as the list has them: those of a start stand there without points
abbrev pub pieces_by : Way → List Piece → List Piece
pieces_by Starting ps = tell (records_in ps)
pieces_by (Stepping ev e) ps = ps

-- what comes after tasks: nothing, where an assertion ended them
abbrev pub Outcome : Later → Option Config → List Piece → Type 0
Outcome later None rest = rest ≡ []
Outcome later (Some d) rest = later d rest

by-nil : (way : Way) → pieces_by way [] ≡ []
unfolding records_in
by-nil Starting = refl
by-nil (Stepping ev e) = refl

by-tell : (way : Way) (t : Told) (ps : List Piece) → pieces_by way (Tell t ∷ ps) ≡ Tell t ∷ pieces_by way ps
unfolding records_in
by-tell Starting t ps = refl
by-tell (Stepping ev e) t ps = refl

by-call : (way : Way) (x : Call) (g : List Told) (ps : List Piece) → pieces_by way (pieces_of x g ++ ps) ≡ call_pieces way x g ++ pieces_by way ps
by-call (Stepping ev e) x g ps = refl
by-call Starting x g ps =
    ap tell (bare-append (pieces_of x g) ps) ∙ tell-append (records_in (pieces_of x g)) (records_in ps) ∙ ap (λ zs. tell zs ++ tell (records_in ps)) (bare-pieces_of x g)

by-alone : (way : Way) (x : Call) (g : List Told) → pieces_by way (pieces_of x g) ≡ call_pieces way x g
by-alone (Stepping ev e) x g = refl
by-alone Starting x g = ap tell (bare-pieces_of x g)

-- the point of an action that is done
ends-on : (way : Way) (later : List Piece → Type 0) (rest after : List Piece) → later (pieces_by way rest ++ after)
    → Ends way later (pieces_by way (Point ∷ rest) ++ after)
unfolding records_in
ends-on Starting later rest after h = h
ends-on (Stepping ev e) later rest after h = (rest ++ after, refl, h)

-- What comes after a task that is done, in the words of its list.
module _ (sys : System) (a : Actor) (way : Way) (c : Config) (first : Later) (failed : Type 0) (second : Later) (after : List Piece)
    (go : (d : Config) (zs : List Piece) → first d zs → second d (pieces_by way zs ++ after)) (no : failed → after ≡ []) where
  notes-on : (t : Told) (one two : List Piece → Type 0) (xs : List Piece) → ((zs : List Piece) → one zs → two (pieces_by way zs ++ after))
      → Notes t one xs → Notes t two (pieces_by way xs ++ after)
  notes-on t one two xs on h =
      (pieces_by way h.0 ++ after, ap (λ zs. pieces_by way zs ++ after) h.1 ∙ ap (λ zs. zs ++ after) (by-tell way t h.0), on h.0 h.2)

  call-on : (x : Call) (xs : List Piece) → DoesCall sys a (moment_of way).entry c first failed x xs → CallGoes sys a way c second x (pieces_by way xs ++ after)
  unfolding DoesCall CallGoes
  call-on x xs h = (h.0, h.1, h.2, h.3, h.4, either (is_assertion h.0) h.5)
    where
      either : (b : Bool)
          → MatchBool b ((xs ≡ pieces_of x h.1) × failed)
          ((rest : List Piece) × (xs ≡ pieces_of x h.1 ++ (Point ∷ rest)) × first (record c { ok = ok_after h.0 c.ok; kept = h.2 }) rest)
          → MatchBool b (pieces_by way xs ++ after ≡ call_pieces way x h.1)
          ((rest : List Piece) × (pieces_by way xs ++ after ≡ call_pieces way x h.1 ++ rest) × Ends way (second (record c { ok = ok_after h.0 c.ok; kept = h.2 })) rest)
      either true k =
          ap (λ zs. pieces_by way zs ++ after) k.0 ∙ ap (λ zs. zs ++ after) (by-alone way x h.1) ∙ ap (λ zs. call_pieces way x h.1 ++ zs) (no k.1)
          ∙ append-nil (call_pieces way x h.1)
      either false k = (
        pieces_by way (Point ∷ k.0) ++ after,
        ap (λ zs. pieces_by way zs ++ after) k.1 ∙ ap (λ zs. zs ++ after) (by-call way x h.1 (Point ∷ k.0))
            ∙ append_assoc (call_pieces way x h.1) (pieces_by way (Point ∷ k.0)) after,
        ends-on way _ k.0 after (go _ k.0 k.2),
      )

  deed-on : (d : Deed) (xs : List Piece) → DoesDeed sys a (moment_of way).entry c first failed d xs → DeedGoes sys a way c second d (pieces_by way xs ++ after)
  unfolding DoesDeed DeedGoes
  deed-on (Sets var value) xs h =
      let on : Ends way (second (record c { vars = slice_set c.vars var value })) (pieces_by way (Point ∷ h.0) ++ after) = ends-on way _ h.0 after (go _ h.0 h.2) in
      subst (λ zs. Ends way (second (record c { vars = slice_set c.vars var value })) (pieces_by way zs ++ after)) (sym h.1) on
  deed-on (Says value) xs h = notes-on (plain (item.Say value)) (λ zs. (rest : List Piece) × (zs ≡ Point ∷ rest) × first c rest) (Ends way (second c)) xs
      (λ zs k. subst (λ us. Ends way (second c) (pieces_by way us ++ after)) (sym k.1) (ends-on way _ k.0 after (go c k.0 k.2)))
      (Point ∷ h.0, h.1, (h.0, refl, h.2))
  deed-on (Calls x) xs h = call-on x xs h

  task-on : (t : Task) (xs : List Piece) → DoesTask sys a (moment_of way) c first failed t xs → TaskGoes sys a way c second t (pieces_by way xs ++ after)
  unfolding DoesTask TaskGoes
  task-on (Do p) xs h = deed-on (deed_of (names_of a c (moment_of way).event) p) xs h
  task-on (Raise ceiling) xs h = (h.0, notes-on (raised (max h.0 ceiling) h.0) (first (record c { former = h.0 })) (second (record c { former = h.0 })) xs (go _) h.1)
  task-on Restore xs h =
      notes-on (plain (item.Unlock c.former)) (λ zs. (rest : List Piece) × (zs ≡ Point ∷ rest) × first c rest) (Ends way (second c)) xs
      (λ zs k. subst (λ us. Ends way (second c) (pieces_by way us ++ after)) (sym k.1) (ends-on way _ k.0 after (go c k.0 k.2))) h
  task-on Begin xs h = notes-on (plain item.Begin) (first c) (second c) xs (go c) h
  task-on (Run s k) xs h = notes-on (plain (item.Run s k)) (first c) (second c) xs (go c) h
  task-on Unhandled xs h = notes-on (plain item.Unhandled) (first c) (second c) xs (go c) h
  task-on (Exit s) xs h = notes-on (plain (item.Exit s)) (first c) (second c) xs (go c) h
  task-on (Enter s) xs h = notes-on (plain (item.Enter s)) (first c) (second c) xs (go c) h
  task-on (Init s) xs h = notes-on (plain (item.Init s)) (first c) (second c) xs (go c) h
  task-on Done xs h = notes-on (plain item.Done) (first c) (second c) xs (go c) h

-- tasks that are done, and what comes after them
pub does-go : (sys : System) (a : Actor) (way : Way) (later : Later) (ts : List Task) (c : Config) (body : List Piece) (mid : Option Config) (after : List Piece)
    → Does sys a (moment_of way) ts c body mid → Outcome later mid after → TasksGo sys a way later ts c (pieces_by way body ++ after)
unfolding Does TasksGo
does-go sys a way later [] c body mid after h k =
    let now : later c after = subst (λ o. Outcome later o after) h.1 k in
    subst (later c) (sym (ap (λ zs. pieces_by way zs ++ after) h.0 ∙ ap (λ zs. zs ++ after) (by-nil way))) now
does-go sys a way later (t ∷ ts) c body mid after h k =
    task-on sys a way c (λ d rest. Does sys a (moment_of way) ts d rest mid) (mid ≡ None) (λ d rest. TasksGo sys a way later ts d rest) after
    (λ d zs first. does-go sys a way later ts d zs mid after first k) (λ e. subst (λ o. Outcome later o after) e k) t body h

-- the point of an action, in the words of what the action left
ends-back : (way : Way) (later : List Piece → Type 0) (ps : List Piece) → Ends way later ps
    → (rest : List Piece) × later rest × ((body after : List Piece) → rest ≡ pieces_by way body ++ after → ps ≡ pieces_by way (Point ∷ body) ++ after)
unfolding records_in
ends-back Starting later ps h = (ps, h, λ body after e. e)
ends-back (Stepping ev e) later ps h = (h.0, h.2, λ body after e. h.1 ∙ ap (λ zs. Point ∷ zs) e)

-- these pieces begin with what a relation leaves, and then comes what comes after it
abbrev pub Splits : Way → Later → (List Piece → Option Config → Type 0) → List Piece → Type 0
Splits way later R ps =
    (body : List Piece) × (mid : Option Config) × (after : List Piece) × R body mid × Outcome later mid after × (ps ≡ pieces_by way body ++ after)

module _ (sys : System) (a : Actor) (way : Way) (later : Later) (ts : List Task) (c : Config)
    (go : (d : Config) (zs : List Piece) → TasksGo sys a way later ts d zs → Splits way later (λ body mid. Does sys a (moment_of way) ts d body mid) zs) where
  abbrev Left : Later
  Left d rest = TasksGo sys a way later ts d rest

  notes-back : (t : Told) (one : List Piece → Type 0) (R : List Piece → Option Config → Type 0) (ps : List Piece) → ((zs : List Piece) → one zs → Splits way later R zs)
      → Notes t one ps → Splits way later (λ body mid. Notes t (λ zs. R zs mid) body) ps
  notes-back t one R ps back h =
      let rest = back h.0 h.2 in (
        Tell t ∷ rest.0,
        rest.1,
        rest.2,
        (rest.0, refl, rest.3),
        rest.4,
        h.1 ∙ ap (λ zs. Tell t ∷ zs) rest.5 ∙ ap (λ zs. zs ++ rest.2) (sym (by-tell way t rest.0)),
      )

  ended-back : (d : Config) (ps : List Piece) → Ends way (Left d) ps
      → Splits way later (λ body mid. (rest : List Piece) × (body ≡ Point ∷ rest) × Does sys a (moment_of way) ts d rest mid) ps
  ended-back d ps h =
      let end = ends-back way (Left d) ps h in
      let rest = go d end.0 end.1 in
      (Point ∷ rest.0, rest.1, rest.2, (rest.0, refl, rest.3), rest.4, end.2 rest.0 rest.2 rest.5)

  call-back : (x : Call) (ps : List Piece) → CallGoes sys a way c Left x ps
      → Splits way later (λ body mid. DoesCall sys a (moment_of way).entry c (λ d rest. Does sys a (moment_of way) ts d rest mid) (mid ≡ None) x body) ps
  unfolding CallGoes DoesCall
  call-back x ps h = by (is_assertion h.0) refl h.5
    where
      by : (b : Bool) → is_assertion h.0 ≡ b
          → MatchBool b (ps ≡ call_pieces way x h.1)
          ((rest : List Piece) × (ps ≡ call_pieces way x h.1 ++ rest) × Ends way (Left (record c { ok = ok_after h.0 c.ok; kept = h.2 })) rest)
          → Splits way later (λ body mid. DoesCall sys a (moment_of way).entry c (λ d rest. Does sys a (moment_of way) ts d rest mid) (mid ≡ None) x body) ps
      by true is k = (
        pieces_of x h.1,
        None,
        [],
        (h.0, h.1, h.2, h.3, h.4, rw is (refl, refl)),
        refl,
        k ∙ sym (by-alone way x h.1) ∙ sym (append-nil (pieces_by way (pieces_of x h.1))),
      )
      by false is k =
          let rest = ended-back (record c { ok = ok_after h.0 c.ok; kept = h.2 }) k.0 k.2 in
          let body : List Piece = rest.3.0 in (
            pieces_of x h.1 ++ (Point ∷ body),
            rest.1,
            rest.2,
            (h.0, h.1, h.2, h.3, h.4, rw is (body, refl, rest.3.2)),
            rest.4,
            k.1 ∙ ap (λ zs. call_pieces way x h.1 ++ zs) (rest.5 ∙ ap (λ zs. pieces_by way zs ++ rest.2) rest.3.1)
                ∙ sym (append_assoc (call_pieces way x h.1) (pieces_by way (Point ∷ body)) rest.2)
                ∙ ap (λ zs. zs ++ rest.2) (sym (by-call way x h.1 (Point ∷ body))),
          )

  deed-back : (d : Deed) (ps : List Piece) → DeedGoes sys a way c Left d ps
      → Splits way later (λ body mid. DoesDeed sys a (moment_of way).entry c (λ d rest. Does sys a (moment_of way) ts d rest mid) (mid ≡ None) d body) ps
  unfolding DeedGoes DoesDeed
  deed-back (Sets var value) ps h = ended-back (record c { vars = slice_set c.vars var value }) ps h
  deed-back (Says value) ps h =
      let rest = notes-back (plain (item.Say value)) (Ends way (Left c)) (λ body mid. (rest : List Piece) × (body ≡ Point ∷ rest) × Does sys a (moment_of way) ts c rest mid) ps (ended-back c) h in
      (rest.0, rest.1, rest.2, (rest.3.2.0, rest.3.1 ∙ ap (λ zs. Tell (plain (item.Say value)) ∷ zs) rest.3.2.1, rest.3.2.2), rest.4, rest.5)
  deed-back (Calls x) ps h = call-back x ps h

  note-back : (t : Told) (d : Config) (ps : List Piece) → Notes t (Left d) ps
      → Splits way later (λ body mid. Notes t (λ zs. Does sys a (moment_of way) ts d zs mid) body) ps
  note-back t d ps h = notes-back t (Left d) (λ body mid. Does sys a (moment_of way) ts d body mid) ps (go d) h

  task-back : (t : Task) (ps : List Piece) → TaskGoes sys a way c Left t ps
      → Splits way later (λ body mid. DoesTask sys a (moment_of way) c (λ d rest. Does sys a (moment_of way) ts d rest mid) (mid ≡ None) t body) ps
  unfolding TaskGoes DoesTask
  task-back (Do p) ps h = deed-back (deed_of (names_of a c (moment_of way).event) p) ps h
  task-back (Raise ceiling) ps h =
      let rest = note-back (raised (max h.0 ceiling) h.0) (record c { former = h.0 }) ps h.1 in (rest.0, rest.1, rest.2, (h.0, rest.3), rest.4, rest.5)
  task-back Restore ps h =
      notes-back (plain (item.Unlock c.former)) (Ends way (Left c)) (λ body mid. (rest : List Piece) × (body ≡ Point ∷ rest) × Does sys a (moment_of way) ts c rest mid) ps (ended-back c) h
  task-back Begin ps h = note-back (plain item.Begin) c ps h
  task-back (Run s k) ps h = note-back (plain (item.Run s k)) c ps h
  task-back Unhandled ps h = note-back (plain item.Unhandled) c ps h
  task-back (Exit s) ps h = note-back (plain (item.Exit s)) c ps h
  task-back (Enter s) ps h = note-back (plain (item.Enter s)) c ps h
  task-back (Init s) ps h = note-back (plain (item.Init s)) c ps h
  task-back Done ps h = note-back (plain item.Done) c ps h

-- and back: what goes on as tasks and what comes after them begins with tasks that are done
pub go-does : (sys : System) (a : Actor) (way : Way) (later : Later) (ts : List Task) (c : Config) (ps : List Piece)
    → TasksGo sys a way later ts c ps → Splits way later (λ body mid. Does sys a (moment_of way) ts c body mid) ps
unfolding Does TasksGo
go-does sys a way later [] c ps h = ([], Some c, ps, (refl, refl), h, ap (λ zs. zs ++ ps) (sym (by-nil way)))
go-does sys a way later (t ∷ ts) c ps h = task-back sys a way later ts c (λ d zs k. go-does sys a way later ts d zs k) t ps h
