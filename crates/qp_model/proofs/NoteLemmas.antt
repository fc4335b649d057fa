-- The notes among the records of a step are those of its agenda.
use Rattle.std.proofs.Common.{◌≡◌, Bool, true, false, ◌&&◌, ◌||◌, List, [], ◌∷◌, ◌++◌, refl, ◌∙◌, ap, inl, inr, ◌⊎◌, Option, Some, None, append-nil}
use Rattle.std.specs.Bool.{MatchBool}
use Rattle.std.specs.List.{list_all, cons_option}
use Rattle.qp_chart.specs.Task.{Task, Begin, Run, Unhandled, Exit, Enter, Init, Done, Do, Raise, Restore}
use Rattle.qp_chart.specs.Agenda.{step_plan}
use Rattle.qp_model.specs.declared.systems.System.{System}
use Rattle.qp_model.specs.declared.bodies.Body.{Body}
use Rattle.qp_model.specs.declared.bodies.Body.TheVariants as item
use Rattle.qp_model.specs.Told.{Told}
use Rattle.qp_model.specs.Calls.{Call, Deed, Sets, Says, Calls, deed_of, ok_after, is_assertion}
use Rattle.qp_model.specs.Pieces.{Piece, Point, records_in, tell, pieces_of}
use Rattle.qp_model.specs.Acts.{Config, Actor, Moment, Later, DoesCall, DoesDeed, DoesTask, Does, names_of}
use Rattle.qp_model.specs.Step.{StepBehind, Closes, at_leaf, moment}
use Rattle.qp_model.specs.StepNotes.{note_of, is_step_note, notes_of, step_note_in, notes_in}
use Rattle.qp_model.specs.CourseLaws.{StepsLeaveTheirNotes}
use Rattle.qp_model.proofs.GroupLemmas.{bare-append, bare-tell, bare-pieces_of}
use Rattle.qp_model.proofs.FitsLemmas.{is_calm, is_deferral, Usual, usual, Ending, Answers, fits-usual, calm-drops}

-- one or no note
option_list : Option Body → List Body
option_list None = []
option_list (Some b) = b ∷ []

pub notes-append : (g h : List Told) → notes_in (g ++ h) ≡ notes_in g ++ notes_in h
unfolding notes_in
notes-append [] h = refl
notes-append (t ∷ g) h = by (step_note_in t) (notes-append g h)
  where
    by : (o : Option Body) → notes_in (g ++ h) ≡ notes_in g ++ notes_in h → cons_option o (notes_in (g ++ h)) ≡ cons_option o (notes_in g) ++ notes_in h
    by None e = e
    by (Some b) e = ap (λ us. b ∷ us) e

-- a usual record is no note
usual-noteless : (b : Body) → (is_calm b || is_deferral b) ≡ true → is_step_note b ≡ false
unfolding is_calm is_deferral
usual-noteless item.Begin h = absurd (cc)
usual-noteless (item.Run s k) h = absurd (cc)
usual-noteless item.Unhandled h = absurd (cc)
usual-noteless (item.Exit s) h = absurd (cc)
usual-noteless (item.Enter s) h = absurd (cc)
usual-noteless (item.Init s) h = absurd (cc)
usual-noteless item.Done h = absurd (cc)
usual-noteless b h = refl

pub notes-usual : (g : List Told) → Usual g → notes_in g ≡ []
unfolding notes_in
notes-usual [] h = refl
notes-usual (t ∷ g) h = by (is_calm t.body || is_deferral t.body) refl h (notes-usual g)
  where
    by : (b : Bool) → (is_calm t.body || is_deferral t.body) ≡ b → (b && list_all (λ t. is_calm t.body || is_deferral t.body) g) ≡ true → (Usual g → notes_in g ≡ [])
        → notes_in (t ∷ g) ≡ []
    by false is h go = absurd (cc)
    by true is h go = rw (usual-noteless t.body is) (go h)

module _ (sys : System) (a : Actor) (at : Moment) where
  -- the notes of a task, and then what is to come; or an assertion
  NotesThen : List Body → Later → List Piece → Type 0
  NotesThen notes later ps = (d : Config) × (rest : List Piece) × (notes_in (records_in ps) ≡ notes ++ notes_in (records_in rest)) × later d rest

  call-noteless : (c : Config) (later : Later) (failed : Type 0) (x : Call) (ps : List Piece) → DoesCall sys a at.entry c later failed x ps → NotesThen [] later ps ⊎ failed
  unfolding DoesCall NotesThen Answers records_in
  call-noteless c later failed x ps h = by (is_assertion h.0) (fits-usual sys a.o at.entry x h.0 h.1 h.3) h.5
    where
      by : (b : Bool) → MatchBool b (Ending Usual h.0 h.1) (Usual h.1)
          → MatchBool b ((ps ≡ pieces_of x h.1) × failed) ((rest : List Piece) × (ps ≡ pieces_of x h.1 ++ (Point ∷ rest)) × later (record c { ok = ok_after h.0 c.ok; kept = h.2 }) rest)
          → NotesThen [] later ps ⊎ failed
      by true u k = inr k.1
      by false u k = inl (
        record c { ok = ok_after h.0 c.ok; kept = h.2 },
        k.0,
        ap notes_in (ap records_in k.1 ∙ bare-append (pieces_of x h.1) (Point ∷ k.0) ∙ ap (λ us. us ++ records_in k.0) (bare-pieces_of x h.1))
            ∙ notes-append h.1 (records_in k.0) ∙ ap (λ us. us ++ notes_in (records_in k.0)) (notes-usual h.1 u),
        k.2,
      )

  task-notes : (c : Config) (later : Later) (failed : Type 0) (t : Task) (ps : List Piece) → DoesTask sys a at c later failed t ps → NotesThen (option_list (note_of t)) later ps ⊎ failed
  unfolding DoesTask DoesDeed NotesThen notes_in records_in option_list
  task-notes c later failed (Do p) ps h = by (deed_of (names_of a c at.event) p) h
    where
      by : (d : Deed) → DoesDeed sys a at.entry c later failed d ps → NotesThen [] later ps ⊎ failed
      by (Sets var value) h = inl (_, h.0, ap (λ us. notes_in (records_in us)) h.1, h.2)
      by (Says value) h = inl (c, h.0, ap (λ us. notes_in (records_in us)) h.1, h.2)
      by (Calls x) h = call-noteless c later failed x ps h
  task-notes c later failed (Raise ceiling) ps h = inl (record c { former = h.0 }, h.1.0, ap (λ us. notes_in (records_in us)) h.1.1, h.1.2)
  task-notes c later failed Restore ps h = inl (c, h.2.0, ap (λ us. notes_in (records_in us)) h.1 ∙ ap (λ us. notes_in (records_in us)) h.2.1, h.2.2)
  task-notes c later failed _ ps h = inl (c, h.0, ap (λ us. notes_in (records_in us)) h.1, h.2)

  -- tasks that are done to their end leave just their notes
  pub does-notes : (ts : List Task) (c d : Config) (ps : List Piece) → Does sys a at ts c ps (Some d) → notes_in (records_in ps) ≡ notes_of ts
  unfolding Does NotesThen notes_in notes_of records_in option_list
  does-notes [] c d ps h = ap (λ us. notes_in (records_in us)) h.0
  does-notes (t ∷ ts) c d ps h =
      by (λ f rest k. does-notes ts f d rest k) (task-notes c (λ f rest. Does sys a at ts f rest (Some d)) (Some d ≡ None) t ps h)
    where
      more : (o : Option Body) (us : List Body) → option_list o ++ us ≡ cons_option o us
      more None us = refl
      more (Some b) us = refl

      by : ((f : Config) (rest : List Piece) → Does sys a at ts f rest (Some d) → notes_in (records_in rest) ≡ notes_of ts)
          → NotesThen (option_list (note_of t)) (λ f rest. Does sys a at ts f rest (Some d)) ps ⊎ (Some d ≡ None) → notes_in (records_in ps) ≡ notes_of (t ∷ ts)
      by go (inl k) = k.2 ∙ ap (λ us. option_list (note_of t) ++ us) (go k.0 k.1 k.3) ∙ more (note_of t) (notes_of ts)
      by go (inr wrong) = absurd (cc)

-- a step that runs to completion leaves just the notes of its agenda
pub steps_leave_their_notes : StepsLeaveTheirNotes
unfolding StepsLeaveTheirNotes StepBehind Closes
steps_leave_their_notes sys a ev e c d ps h = by h.2 h.3 h.4 h.6
  where
    by : (mid : Option Config) → Does sys a (moment ev e) (step_plan a.chart c.leaf (names_of a c ev) ev.sig).tasks c h.0 mid → Closes e mid h.1
        → Some d ≡ at_leaf (step_plan a.chart c.leaf (names_of a c ev) ev.sig).leaf mid → notes_in (records_in ps) ≡ notes_of (step_plan a.chart c.leaf (names_of a c ev) ev.sig).tasks
    by None does closes ends = absurd (cc)
    by (Some f) does closes ends =
        ap notes_in (ap records_in h.5 ∙ bare-append h.0 (tell h.1) ∙ ap (λ us. records_in h.0 ++ us) (bare-tell h.1))
        ∙ notes-append (records_in h.0) h.1 ∙ ap (λ us. notes_in (records_in h.0) ++ us) (notes-usual h.1 (usual h.1 (calm-drops e h.1 closes))) ∙ append-nil (notes_in (records_in h.0))
        ∙ does-notes sys a (moment ev e) (step_plan a.chart c.leaf (names_of a c ev) ev.sig).tasks c f h.0 does
