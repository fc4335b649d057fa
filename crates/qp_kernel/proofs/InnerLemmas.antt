-- What a step or a start leaves until its `done`: records of its inside, with points between them.
use Rattle.std.proofs.Common.{◌≡◌, max, Bool, true, false, not, ◌||◌, List, [], ◌∷◌, ◌++◌, refl, sym, ◌∙◌, ap, inl, inr, Option, Some, None, append_assoc, append-nil}
use Rattle.std.specs.Prelude.{⊤, ◌⊎◌}
use Rattle.std.specs.Bool.{MatchBool}
use Rattle.std.specs.List.{list_all}
use Rattle.std.specs.Option.{is_some}
use Rattle.std.proofs.lemmas.Bool.{and_parts, not-true}
use Rattle.qp_chart.specs.Task.{Task, Begin, Run, Unhandled, Exit, Enter, Init, Done, Do, Raise, Restore}
use Rattle.qp_model.specs.declared.systems.System.{System}
use Rattle.qp_model.specs.declared.bodies.Body.{Body}
use Rattle.qp_model.specs.declared.bodies.Body.TheVariants as item
use Rattle.qp_model.specs.Told.{Told, plain, raised}
use Rattle.qp_model.specs.Calls as call
use Rattle.qp_model.specs.Calls.{Call, Answer, Deed, Sets, Says, Calls, deed_of, ok_after, is_assertion}
use Rattle.qp_model.specs.Pieces.{Piece, Tell, Point, tell, piece_of, with_points, pieces_of}
use Rattle.qp_model.specs.Acts.{Config, Actor, Moment, Later, DoesCall, DoesDeed, DoesTask, Does, names_of}
use Rattle.qp_model.specs.KernelLane.{role_of}
use Rattle.qp_model.specs.Ends.{is_turn_mark, is_end, is_assert}
use Rattle.qp_model.specs.OneOrder.{stim_of}
use Rattle.qp_model.proofs.FitsLemmas.{is_calm, is_deferral, Usual, Ending, Answers, fits-usual, assertion_of}
use Rattle.qp_model.proofs.KernelRowLemmas.{IsOwnRole}
use Rattle.qp_kernel.specs.Stages.{is_done_task, closes}
use Rattle.qp_model.proofs.PublicationLemmas.{tell-append, with_points-append}

-- a record of the inside of a step
pub record IsInner (b : Body) : Type 0 where
  pub own : IsOwnRole (role_of b)
  pub unmarked : is_turn_mark b ≡ false
  pub calm : is_end b ≡ false
  pub unstim : is_some (stim_of b) ≡ false

abbrev pub AreInner : List Piece → Type 0
AreInner [] = ⊤
AreInner (Tell t ∷ ps) = IsInner t.body × AreInner ps
AreInner (Point ∷ ps) = AreInner ps

pub inner-append : (ps qs : List Piece) → AreInner ps → AreInner qs → AreInner (ps ++ qs)
inner-append [] qs a b = b
inner-append (Tell t ∷ ps) qs a b = (a.0, inner-append ps qs a.1 b)
inner-append (Point ∷ ps) qs a b = inner-append ps qs a b

usual-inner : (b : Body) → (is_calm b || is_deferral b) ≡ true → IsInner b
unfolding is_calm is_deferral role_of
usual-inner (item.Took f l m e) h = absurd (cc)
usual-inner (item.Nil f l m) h = absurd (cc)
usual-inner (item.Seen p f l m) h = absurd (cc)
usual-inner item.Done h = absurd (cc)
usual-inner item.Spent h = absurd (cc)
usual-inner (item.Spill n) h = absurd (cc)
usual-inner (item.Look n floor) h = absurd (cc)
usual-inner (item.Rest n) h = absurd (cc)
usual-inner (item.NoEntry a f l m) h = absurd (cc)
usual-inner (item.NoBlock p n free) h = absurd (cc)
usual-inner (item.Armed t n c) h = absurd (cc)
usual-inner (item.BadTicks t n i) h = absurd (cc)
usual-inner (item.NoLifo a f l m) h = absurd (cc)
usual-inner (item.Stim i k) h = absurd (cc)
usual-inner _ h = record { own = tt; unmarked = refl; calm = refl; unstim = refl }

tell-inner : (g : List Told) → Usual g → AreInner (tell g)
tell-inner [] h = tt
tell-inner (t ∷ ts) h =
    let parts = and_parts (is_calm t.body || is_deferral t.body) (list_all (λ t. is_calm t.body || is_deferral t.body) ts) h in
    (usual-inner t.body parts.0, tell-inner ts parts.1)

points-inner : (g : List Told) → Usual g → AreInner (with_points g)
unfolding with_points
points-inner [] h = tt
points-inner (t ∷ ts) h =
    let parts = and_parts (is_calm t.body || is_deferral t.body) (list_all (λ t. is_calm t.body || is_deferral t.body) ts) h in
    inner-append (piece_of t t.body) (with_points ts) (one t.body (usual-inner t.body parts.0)) (points-inner ts parts.1)
  where
    one : (b : Body) → IsInner t.body → AreInner (piece_of t b)
    one (item.Post a f l m e) h = (h, tt)
    one _ h = (h, tt)

call-inner : (x : Call) (g : List Told) → Usual g → AreInner (pieces_of x g)
unfolding pieces_of
call-inner (call.Publish sig pars reserve) g h = points-inner g h
call-inner _ g h = tell-inner g h

-- an assertion has no point behind it
assert-piece : (t : Told) (b : Body) (answer : Answer) → assertion_of b ≡ Some answer → (piece_of t b ≡ Tell t ∷ []) × (is_assert b ≡ true)
assert-piece t (item.NoEntry a f l m) answer h = (refl, refl)
assert-piece t (item.NoBlock p n free) answer h = (refl, refl)
assert-piece t (item.Armed x n c) answer h = (refl, refl)
assert-piece t (item.BadTicks x n i) answer h = (refl, refl)
assert-piece t (item.NoLifo a f l m) answer h = (refl, refl)
assert-piece t _ answer h = absurd (cc)

-- the pieces of a call that ends in its assertion
asserted-last : (x : Call) (front : List Told) (t : Told) (answer : Answer) → assertion_of t.body ≡ Some answer → pieces_of x (front ++ t ∷ []) ≡ pieces_of x front ++ Tell t ∷ []
unfolding pieces_of with_points
asserted-last (call.Publish sig pars reserve) front t answer h =
    with_points-append front (t ∷ []) ∙ ap (λ x. with_points front ++ x) (append-nil (piece_of t t.body) ∙ (assert-piece t t.body answer h).0)
asserted-last _ front t answer h = tell-append front (t ∷ [])

-- pieces of the inside, and then what is to come
abbrev pub InnerThen : Later → List Piece → Type 0
InnerThen later ps = (front : List Piece) × AreInner front × (d : Config) × (rest : List Piece) × (ps ≡ front ++ rest) × later d rest

-- or an assertion behind them
abbrev pub FailsIn : Type 0 → List Piece → Type 0
FailsIn failed ps = (front : List Piece) × AreInner front × (t : Told) × (is_assert t.body ≡ true) × (ps ≡ front ++ Tell t ∷ []) × failed

module _ (sys : System) (a : Actor) (at : Moment) where
  call-form : (c : Config) (later : Later) (failed : Type 0) (x : Call) (ps : List Piece) → DoesCall sys a at.entry c later failed x ps → InnerThen later ps ⊎ FailsIn failed ps
  unfolding DoesCall Answers Ending
  call-form c later failed x ps h = by (is_assertion h.0) (fits-usual sys a.o at.entry x h.0 h.1 h.3) h.5
    where
      by : (b : Bool) → MatchBool b (Ending Usual h.0 h.1) (Usual h.1)
          → MatchBool b ((ps ≡ pieces_of x h.1) × failed) ((rest : List Piece) × (ps ≡ pieces_of x h.1 ++ (Point ∷ rest)) × later (record c { ok = ok_after h.0 c.ok; kept = h.2 }) rest)
          → InnerThen later ps ⊎ FailsIn failed ps
      by true u k =
          inr (pieces_of x u.0, call-inner x u.0 u.2, u.1, (assert-piece u.1 u.1.body h.0 u.3).1, k.0 ∙ ap (pieces_of x) u.4 ∙ asserted-last x u.0 u.1 h.0 u.3, k.1)
      by false u k =
          inl (
            pieces_of x h.1 ++ Point ∷ [],
            inner-append (pieces_of x h.1) (Point ∷ []) (call-inner x h.1 u) tt,
            record c { ok = ok_after h.0 c.ok; kept = h.2 },
            k.0,
            k.1 ∙ sym (append_assoc (pieces_of x h.1) (Point ∷ []) k.0),
            k.2,
          )

  -- a task but the last
  task-form : (c : Config) (later : Later) (failed : Type 0) (t : Task) (ps : List Piece) → is_done_task t ≡ false → DoesTask sys a at c later failed t ps → InnerThen later ps ⊎ FailsIn failed ps
  unfolding DoesTask DoesDeed role_of
  task-form c later failed (Do p) ps other h = by (deed_of (names_of a c at.event) p) h
    where
      by : (d : Deed) → DoesDeed sys a at.entry c later failed d ps → InnerThen later ps ⊎ FailsIn failed ps
      by (Sets var value) h = inl (Point ∷ [], tt, _, h.0, h.1, h.2)
      by (Says value) h = inl (Tell (plain (item.Say value)) ∷ Point ∷ [], (record { own = tt; unmarked = refl; calm = refl; unstim = refl }, tt), c, h.0, h.1, h.2)
      by (Calls x) h = call-form c later failed x ps h
  task-form c later failed (Raise ceiling) ps other h = inl (Tell (raised (max h.0 ceiling) h.0) ∷ [], (record { own = tt; unmarked = refl; calm = refl; unstim = refl }, tt), record c { former = h.0 }, h.1.0, h.1.1, h.1.2)
  task-form c later failed Restore ps other h =
      inl (Tell (plain (item.Unlock c.former)) ∷ Point ∷ [], (record { own = tt; unmarked = refl; calm = refl; unstim = refl }, tt), c, h.2.0, h.1 ∙ ap (λ x. Tell (plain (item.Unlock c.former)) ∷ x) h.2.1, h.2.2)
  task-form c later failed Begin ps other h = inl (Tell (plain item.Begin) ∷ [], (record { own = tt; unmarked = refl; calm = refl; unstim = refl }, tt), c, h.0, h.1, h.2)
  task-form c later failed (Run s k) ps other h = inl (Tell (plain (item.Run s k)) ∷ [], (record { own = tt; unmarked = refl; calm = refl; unstim = refl }, tt), c, h.0, h.1, h.2)
  task-form c later failed Unhandled ps other h = inl (Tell (plain item.Unhandled) ∷ [], (record { own = tt; unmarked = refl; calm = refl; unstim = refl }, tt), c, h.0, h.1, h.2)
  task-form c later failed (Exit s) ps other h = inl (Tell (plain (item.Exit s)) ∷ [], (record { own = tt; unmarked = refl; calm = refl; unstim = refl }, tt), c, h.0, h.1, h.2)
  task-form c later failed (Enter s) ps other h = inl (Tell (plain (item.Enter s)) ∷ [], (record { own = tt; unmarked = refl; calm = refl; unstim = refl }, tt), c, h.0, h.1, h.2)
  task-form c later failed (Init s) ps other h = inl (Tell (plain (item.Init s)) ∷ [], (record { own = tt; unmarked = refl; calm = refl; unstim = refl }, tt), c, h.0, h.1, h.2)
  task-form c later failed Done ps other h = absurd (cc)

  -- an agenda to its `done`, or to an assertion
  pub record Form (ps : List Piece) (mid : Option Config) : Type 0 where
    pub front : List Piece
    pub inner : AreInner front
    pub last : Told
    pub whole : ps ≡ front ++ Tell last ∷ []
    pub which : ((last ≡ plain item.Done) × ((d : Config) × (mid ≡ Some d))) ⊎ ((is_assert last.body ≡ true) × (mid ≡ None))

  form-behind : (front rest ps : List Piece) (mid : Option Config) → AreInner front → ps ≡ front ++ rest → Form rest mid → Form ps mid
  form-behind front rest ps mid inner is f = record {
    front = front ++ f.front;
    inner = inner-append front f.front inner f.inner;
    last = f.last;
    whole = is ∙ ap (λ x. front ++ x) f.whole ∙ sym (append_assoc front f.front (Tell f.last ∷ []));
    which = f.which;
  }

  form-failed : (ps : List Piece) (mid : Option Config) → FailsIn (mid ≡ None) ps → Form ps mid
  form-failed ps mid h = record { front = h.0; inner = h.1; last = h.2; whole = h.4; which = inr (h.3, h.5) }

  pub does-form : (ts : List Task) (c : Config) (ps : List Piece) (mid : Option Config) → closes ts ≡ true → Does sys a at ts c ps mid → Form ps mid
  unfolding Does DoesTask
  does-form [] c ps mid closing h = absurd (cc)
  does-form (t ∷ []) c ps mid closing h = by t closing h
    where
      by : (t : Task) → is_done_task t ≡ true → DoesTask sys a at c (λ d rest. (rest ≡ []) × (mid ≡ Some d)) (mid ≡ None) t ps → Form ps mid
      by Done closing h = record { front = []; inner = tt; last = plain item.Done; whole = h.1 ∙ ap (λ x. Tell (plain item.Done) ∷ x) h.2.0; which = inl (refl, (c, h.2.1)) }
      by _ closing h = absurd (cc)
  does-form (t ∷ u ∷ ts) c ps mid closing h =
      let parts = and_parts (not (is_done_task t)) (closes (u ∷ ts)) closing in
      by (task-form c (λ d rest. Does sys a at (u ∷ ts) d rest mid) (mid ≡ None) t ps (not-true (is_done_task t) parts.0) h) (λ d rest k. does-form (u ∷ ts) d rest mid parts.1 k)
    where
      by : InnerThen (λ d rest. Does sys a at (u ∷ ts) d rest mid) ps ⊎ FailsIn (mid ≡ None) ps → ((d : Config) (rest : List Piece) → Does sys a at (u ∷ ts) d rest mid → Form rest mid) → Form ps mid
      by (inl k) go = form-behind k.0 k.3 ps mid k.1 k.4 (go k.2 k.3 k.5)
      by (inr k) go = form-failed ps mid k
