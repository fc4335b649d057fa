-- What tasks leave are groups: so an object's course gives the shape of its records.
use Rattle.std.proofs.Common.{◌≡◌, ℕ, max, Bool, true, false, List, [], ◌∷◌, ◌++◌, map, refl, sym, ◌∙◌, ap, subst, inl, inr, ◌⊎◌, Option, None, append_assoc}
use Rattle.std.specs.Bool.{MatchBool}
use Rattle.qp_chart.specs.declared.actions.Plain.{Plain}
use Rattle.qp_chart.specs.Task.{Task, Do, Restore}
use Rattle.qp_model.specs.declared.systems.System.{System}
use Rattle.qp_model.specs.declared.bodies.Entry.{Entry}
use Rattle.qp_model.specs.declared.bodies.Body.{Body}
use Rattle.qp_model.specs.declared.bodies.Body.TheVariants as item
use Rattle.qp_model.specs.Told.{Told, plain, raised}
use Rattle.qp_model.specs.Calls as call
use Rattle.qp_model.specs.Calls.{Call, Answer, Deed, Sets, Says, Calls, deed_of, ok_after, is_assertion}
use Rattle.qp_model.specs.Shapes.{Fits}
use Rattle.qp_model.specs.Pieces.{Piece, Tell, Point, records_in, tell, piece_of, with_points, pieces_of}
use Rattle.qp_model.specs.Acts.{Config, Actor, Moment, Later, DoesCall, DoesDeed, DoesTask, Does, names_of}
use Rattle.qp_model.specs.Sequence.{Sequence, EachPart}
use Rattle.qp_model.specs.Groups.{IsAction, SaysValue, MakesCall, Actions, IsGroup, IsMove, IsAct, IsLocked, Groups, IsLast, Asserts, BreaksOff, Plainly, UnderCeiling}
use Rattle.qp_model.proofs.SequenceLemmas.{sequence-none, sequence-one, sequence-append}
use Rattle.qp_model.proofs.FitsLemmas.{fits-any}
use Rattle.qp_model.proofs.BlockLemmas.{Block, Exits, Enters, Inits, Acts, Locks, spread}

-- the records of a call are an action, or what stands last
pub call-action : (sys : System) (o : ℕ) (now : Option Entry) (x : Call) (answer : Answer) (g : List Told) → Fits sys o now x answer g → is_assertion answer ≡ false → IsAction sys o now g
call-action sys o now x answer g h is = let any = fits-any sys o now x answer g h in MakesCall any.0 answer any.1 is

pub call-asserts : (sys : System) (o : ℕ) (now : Option Entry) (stops : Bool) (x : Call) (answer : Answer) (g : List Told) → Fits sys o now x answer g → is_assertion answer ≡ true
    → IsLast sys o now stops g
call-asserts sys o now stops x answer g h is = let any = fits-any sys o now x answer g h in Asserts any.0 answer any.1 is

pub bare-append : (ps qs : List Piece) → records_in (ps ++ qs) ≡ records_in ps ++ records_in qs
unfolding records_in
bare-append [] qs = refl
bare-append (Tell t ∷ ps) qs = ap (λ ts. t ∷ ts) (bare-append ps qs)
bare-append (Point ∷ ps) qs = bare-append ps qs

pub bare-tell : (g : List Told) → records_in (tell g) ≡ g
unfolding records_in
bare-tell [] = refl
bare-tell (t ∷ g) = ap (λ ts. t ∷ ts) (bare-tell g)

pub bare-with_points : (g : List Told) → records_in (with_points g) ≡ g
unfolding records_in with_points
bare-with_points [] = refl
bare-with_points (t ∷ g) = bare-append (piece_of t t.body) (with_points g) ∙ ap (λ ts. ts ++ records_in (with_points g)) (one t.body) ∙ ap (λ ts. t ∷ ts) (bare-with_points g)
  where
    one : (b : Body) → records_in (piece_of t b) ≡ t ∷ []
    one (item.Post a f l m e) = refl
    one b = refl

pub bare-pieces_of : (x : Call) (g : List Told) → records_in (pieces_of x g) ≡ g
unfolding pieces_of
bare-pieces_of (call.Publish sig pars reserve) g = bare-with_points g
bare-pieces_of _ g = bare-tell g

each-group : (sys : System) (o : ℕ) (now : Option Entry) (parts : List (List Told)) → EachPart (IsAction sys o now) parts → EachPart (IsGroup sys o now) parts
unfolding EachPart
each-group sys o now [] h = tt
each-group sys o now (part ∷ parts) h = (IsAct h.0, each-group sys o now parts h.1)

-- actions are groups
pub actions-groups : (sys : System) (o : ℕ) (now : Option Entry) (g : List Told) → Actions sys o now g → Groups sys o now g
unfolding Actions Groups Sequence EachPart
actions-groups sys o now g h = (h.0, each-group sys o now h.0 h.1, h.2)

module _ (sys : System) (a : Actor) (at : Moment) (stops : Bool) where
  -- whole actions, and then what is to come
  abbrev pub ActionsThen : Config → Later → List Piece → Type 0
  ActionsThen c later ps =
      (g : List Told) × (d : Config) × (rest : List Piece) × Actions sys a.o at.entry g × (d.former ≡ c.former) × (records_in ps ≡ g ++ records_in rest) × later d rest

  -- actions of which the last ends in its assertion
  abbrev pub ActionsFail : Type 0 → List Piece → Type 0
  ActionsFail failed ps =
      (inner last : List Told) × Actions sys a.o at.entry inner × IsLast sys a.o at.entry stops last × (records_in ps ≡ inner ++ last) × failed

  deed-parts : (c : Config) (later : Later) (failed : Type 0) (d : Deed) (ps : List Piece) → DoesDeed sys a at.entry c later failed d ps
      → ActionsThen c later ps ⊎ ActionsFail failed ps
  unfolding DoesDeed DoesCall records_in Actions
  deed-parts c later failed (Sets var value) ps h = inl ([], _, h.0, sequence-none (IsAction sys a.o at.entry), refl, ap records_in h.1, h.2)
  deed-parts c later failed (Says value) ps h =
      inl (plain (item.Say value) ∷ [], c, h.0, sequence-one (IsAction sys a.o at.entry) (plain (item.Say value) ∷ []) (SaysValue value refl), refl, ap records_in h.1, h.2)
  deed-parts c later failed (Calls x) ps h = by_assertion (is_assertion h.0) refl h.5
    where
      by_assertion : (b : Bool) → is_assertion h.0 ≡ b
          → MatchBool b ((ps ≡ pieces_of x h.1) × failed) ((rest : List Piece) × (ps ≡ pieces_of x h.1 ++ (Point ∷ rest)) × later (record c { ok = ok_after h.0 c.ok; kept = h.2 }) rest)
          → ActionsThen c later ps ⊎ ActionsFail failed ps
      by_assertion true is k =
          inr ([], h.1, sequence-none (IsAction sys a.o at.entry), call-asserts sys a.o at.entry stops x h.0 h.1 h.3 is, ap records_in k.0 ∙ bare-pieces_of x h.1, k.1)
      by_assertion false is k =
          inl (
            h.1,
            record c { ok = ok_after h.0 c.ok; kept = h.2 },
            k.0,
            sequence-one (IsAction sys a.o at.entry) h.1 (call-action sys a.o at.entry x h.0 h.1 h.3 is),
            refl,
            ap records_in k.1 ∙ bare-append (pieces_of x h.1) (Point ∷ k.0) ∙ ap (λ ts. ts ++ records_in k.0) (bare-pieces_of x h.1),
            k.2,
          )

  -- the actions of `locked`
  plains-parts : (acts : List Plain) (ts : List Task) (c : Config) (ps : List Piece) (end : Option Config) → Does sys a at (map Do acts ++ ts) c ps end
      → ActionsThen c (λ d rest. Does sys a at ts d rest end) ps ⊎ ActionsFail (end ≡ None) ps
  unfolding Does DoesTask Actions
  plains-parts [] ts c ps end h = inl ([], c, ps, sequence-none (IsAction sys a.o at.entry), refl, refl, h)
  plains-parts (p ∷ acts) ts c ps end h =
      either (λ d rest k. plains-parts acts ts d rest end k) (deed-parts c (λ d rest. Does sys a at (map Do acts ++ ts) d rest end) (end ≡ None) (deed_of (names_of a c at.event) p) ps h)
    where
      either : ((d : Config) (rest : List Piece) → Does sys a at (map Do acts ++ ts) d rest end
          → ActionsThen d (λ f rest. Does sys a at ts f rest end) rest ⊎ ActionsFail (end ≡ None) rest)
          → ActionsThen c (λ d rest. Does sys a at (map Do acts ++ ts) d rest end) ps ⊎ ActionsFail (end ≡ None) ps
          → ActionsThen c (λ d rest. Does sys a at ts d rest end) ps ⊎ ActionsFail (end ≡ None) ps
      either later (inr k) = inr k
      either later (inl k) = next (later k.1 k.2 k.6)
        where
          next : ActionsThen k.1 (λ f rest. Does sys a at ts f rest end) k.2 ⊎ ActionsFail (end ≡ None) k.2
              → ActionsThen c (λ d rest. Does sys a at ts d rest end) ps ⊎ ActionsFail (end ≡ None) ps
          next (inl n) = inl (
            k.0 ++ n.0,
            n.1,
            n.2,
            sequence-append (IsAction sys a.o at.entry) k.0 n.0 k.3 n.3,
            n.4 ∙ k.4,
            k.5 ∙ ap (λ us. k.0 ++ us) n.5 ∙ sym (append_assoc k.0 n.0 (records_in n.2)),
            n.6,
          )
          next (inr n) = inr (
            k.0 ++ n.0,
            n.1,
            sequence-append (IsAction sys a.o at.entry) k.0 n.0 k.3 n.2,
            n.3,
            k.5 ∙ ap (λ us. k.0 ++ us) n.4 ∙ sym (append_assoc k.0 n.0 n.1),
            n.5,
          )

  -- whole groups, and then what is to come
  abbrev pub GroupsThen : Later → List Piece → Type 0
  GroupsThen later ps = (g : List Told) × (d : Config) × (rest : List Piece) × Groups sys a.o at.entry g × (records_in ps ≡ g ++ records_in rest) × later d rest

  -- groups that break off by an assertion
  abbrev pub GroupsFail : Type 0 → List Piece → Type 0
  GroupsFail failed ps = BreaksOff sys a.o at.entry stops (records_in ps) × failed

  -- a group more in front
  group-then : (later : Later) (g : List Told) (ps rest : List Piece) → IsGroup sys a.o at.entry g → records_in ps ≡ g ++ records_in rest → GroupsThen later rest → GroupsThen later ps
  unfolding Groups
  group-then later g ps rest one is k = (
    g ++ k.0,
    k.1,
    k.2,
    sequence-append (IsGroup sys a.o at.entry) g k.0 (sequence-one (IsGroup sys a.o at.entry) g one) k.3,
    is ∙ ap (λ us. g ++ us) k.4 ∙ sym (append_assoc g k.0 (records_in k.2)),
    k.5,
  )

  pub breaks-cons : (g bs : List Told) → Groups sys a.o at.entry g → BreaksOff sys a.o at.entry stops bs → BreaksOff sys a.o at.entry stops (g ++ bs)
  unfolding Groups
  breaks-cons g bs one (Plainly whole last gs l is) =
      Plainly (g ++ whole) last (sequence-append (IsGroup sys a.o at.entry) g whole one gs) l (ap (λ us. g ++ us) is ∙ sym (append_assoc g whole last))
  breaks-cons g bs one (UnderCeiling former ceiling whole inner last gs acts l is) =
      UnderCeiling former ceiling (g ++ whole) inner last (sequence-append (IsGroup sys a.o at.entry) g whole one gs) acts l
      (ap (λ us. g ++ us) is ∙ sym (append_assoc g whole (raised (max former ceiling) former ∷ (inner ++ last))))

  group-fail : (failed : Type 0) (g : List Told) (ps rest : List Piece) → IsGroup sys a.o at.entry g → records_in ps ≡ g ++ records_in rest → GroupsFail failed rest → GroupsFail failed ps
  unfolding Groups
  group-fail failed g ps rest one is k =
      (subst (λ us. BreaksOff sys a.o at.entry stops us) (sym is) (breaks-cons g (records_in rest) (sequence-one (IsGroup sys a.o at.entry) g one) k.0), k.1)

  either-group : (later : Later) (failed : Type 0) (g : List Told) (ps rest : List Piece) → IsGroup sys a.o at.entry g → records_in ps ≡ g ++ records_in rest
      → GroupsThen later rest ⊎ GroupsFail failed rest → GroupsThen later ps ⊎ GroupsFail failed ps
  either-group later failed g ps rest one is (inl k) = inl (group-then later g ps rest one is k)
  either-group later failed g ps rest one is (inr k) = inr (group-fail failed g ps rest one is k)

  -- what blocks leave, and then what is to come
  pub blocks-parts : (bs : List Block) (ts : List Task) (c : Config) (ps : List Piece) (end : Option Config) → Does sys a at (spread bs ++ ts) c ps end
      → GroupsThen (λ d rest. Does sys a at ts d rest end) ps ⊎ GroupsFail (end ≡ None) ps
  unfolding spread Does DoesTask Groups Actions records_in
  blocks-parts [] ts c ps end h = inl ([], c, ps, sequence-none (IsGroup sys a.o at.entry), refl, h)
  blocks-parts (Exits s ∷ bs) ts c ps end h =
      either-group (λ d rest. Does sys a at ts d rest end) (end ≡ None) (plain (item.Exit s) ∷ []) ps h.0 (IsMove (item.Exit s) refl refl) (ap records_in h.1) (blocks-parts bs ts c h.0 end h.2)
  blocks-parts (Enters s ∷ bs) ts c ps end h =
      either-group (λ d rest. Does sys a at ts d rest end) (end ≡ None) (plain (item.Enter s) ∷ []) ps h.0 (IsMove (item.Enter s) refl refl) (ap records_in h.1) (blocks-parts bs ts c h.0 end h.2)
  blocks-parts (Inits s ∷ bs) ts c ps end h =
      either-group (λ d rest. Does sys a at ts d rest end) (end ≡ None) (plain (item.Init s) ∷ []) ps h.0 (IsMove (item.Init s) refl refl) (ap records_in h.1) (blocks-parts bs ts c h.0 end h.2)
  blocks-parts (Acts p ∷ bs) ts c ps end h =
      either (λ d rest k. blocks-parts bs ts d rest end k) (deed-parts c (λ d rest. Does sys a at (spread bs ++ ts) d rest end) (end ≡ None) (deed_of (names_of a c at.event) p) ps h)
    where
      grouped : (g : List Told) → Sequence (IsAction sys a.o at.entry) g → Sequence (IsGroup sys a.o at.entry) g
      grouped g s = actions-groups sys a.o at.entry g s

      either : ((d : Config) (rest : List Piece) → Does sys a at (spread bs ++ ts) d rest end
          → GroupsThen (λ f more. Does sys a at ts f more end) rest ⊎ GroupsFail (end ≡ None) rest)
          → ActionsThen c (λ d rest. Does sys a at (spread bs ++ ts) d rest end) ps ⊎ ActionsFail (end ≡ None) ps
          → GroupsThen (λ d rest. Does sys a at ts d rest end) ps ⊎ GroupsFail (end ≡ None) ps
      either later (inr k) = inr (subst (λ us. BreaksOff sys a.o at.entry stops us) (sym k.4) (Plainly k.0 k.1 (grouped k.0 k.2) k.3 refl), k.5)
      either later (inl k) = next (later k.1 k.2 k.6)
        where
          next : GroupsThen (λ f more. Does sys a at ts f more end) k.2 ⊎ GroupsFail (end ≡ None) k.2
              → GroupsThen (λ d rest. Does sys a at ts d rest end) ps ⊎ GroupsFail (end ≡ None) ps
          next (inl n) = inl (
            k.0 ++ n.0,
            n.1,
            n.2,
            sequence-append (IsGroup sys a.o at.entry) k.0 n.0 (grouped k.0 k.3) n.3,
            k.5 ∙ ap (λ us. k.0 ++ us) n.4 ∙ sym (append_assoc k.0 n.0 (records_in n.2)),
            n.5,
          )
          next (inr n) = inr (subst (λ us. BreaksOff sys a.o at.entry stops us) (sym k.5) (breaks-cons k.0 (records_in k.2) (grouped k.0 k.3) n.0), n.1)
  blocks-parts (Locks ceiling acts ∷ bs) ts c ps end h =
      either (λ d rest k. blocks-parts bs ts d rest end k)
      (plains-parts acts (Restore ∷ (spread bs ++ ts)) (record c { former = h.0 }) h.1.0 end
      (subst (λ us. Does sys a at us (record c { former = h.0 }) h.1.0 end) (append_assoc (map Do acts) (Restore ∷ spread bs) ts) h.1.2))
    where
      raises : records_in ps ≡ raised (max h.0 ceiling) h.0 ∷ records_in h.1.0
      raises = ap records_in h.1.1

      either : ((d : Config) (rest : List Piece) → Does sys a at (spread bs ++ ts) d rest end
          → GroupsThen (λ f more. Does sys a at ts f more end) rest ⊎ GroupsFail (end ≡ None) rest)
          → ActionsThen (record c { former = h.0 }) (λ d rest. Does sys a at (Restore ∷ (spread bs ++ ts)) d rest end) h.1.0 ⊎ ActionsFail (end ≡ None) h.1.0
          → GroupsThen (λ d rest. Does sys a at ts d rest end) ps ⊎ GroupsFail (end ≡ None) ps
      either later (inr k) = inr (
        UnderCeiling h.0 ceiling [] k.0 k.1 (sequence-none (IsGroup sys a.o at.entry)) k.2 k.3 (raises ∙ ap (λ us. raised (max h.0 ceiling) h.0 ∷ us) k.4),
        k.5,
      )
      either later (inl k) =
          -- k.6: the `unlock`, a point, and the rest
          either-group (λ d rest. Does sys a at ts d rest end) (end ≡ None)
          (raised (max h.0 ceiling) h.0 ∷ (k.0 ++ (plain (item.Unlock h.0) ∷ [])))
          ps k.6.2.0
          (IsLocked h.0 ceiling k.0 k.3 refl)
          whole
          (later k.1 k.6.2.0 k.6.2.2)
        where
          unlocks : records_in k.2 ≡ plain (item.Unlock h.0) ∷ records_in k.6.2.0
          unlocks = ap records_in k.6.1 ∙ ap (λ f. plain (item.Unlock f) ∷ records_in k.6.0) k.4 ∙ ap (λ us. plain (item.Unlock h.0) ∷ records_in us) k.6.2.1

          whole : records_in ps ≡ (raised (max h.0 ceiling) h.0 ∷ (k.0 ++ (plain (item.Unlock h.0) ∷ []))) ++ records_in k.6.2.0
          whole =
              raises ∙ ap (λ us. raised (max h.0 ceiling) h.0 ∷ us)
              (k.5 ∙ ap (λ us. k.0 ++ us) unlocks ∙ sym (append_assoc k.0 (plain (item.Unlock h.0) ∷ []) (records_in k.6.2.0)))
