-- What is left of an agenda after each note, action, post of a publication, and mark: of a start or of a step.
use Rattle.std.proofs.Common.{◌≡◌, ℕ, max, true, false, List, [], ◌∷◌, ◌++◌, slice_set, refl, subst, inl, inr, Option, Some, None, append_assoc, append-nil}
use Rattle.std.specs.Prelude.{ℤ, pos}
use Rattle.qp_chart.specs.declared.actions.Plain.{Plain}
use Rattle.qp_chart.specs.Task.{Task, Begin, Run, Unhandled, Exit, Enter, Init, Done, Do, Raise, Restore}
use Rattle.qp_model.specs.declared.systems.System.{System}
use Rattle.qp_model.specs.declared.bodies.Entry.{Entry}
use Rattle.qp_model.specs.declared.bodies.Body.{Body}
use Rattle.qp_model.specs.declared.bodies.Body.TheVariants as item
use Rattle.qp_model.specs.Told.{Told, plain, raised}
use Rattle.qp_model.specs.Calls as call
use Rattle.qp_model.specs.Calls.{Call, Answer, Granted, AtQueue, Sets, Says, Calls, deed_of, ok_after, is_assertion}
use Rattle.qp_model.specs.Parts.{is_static, sizes_of}
use Rattle.qp_model.specs.Sites.{ring_of}
use Rattle.qp_model.specs.Shapes.{Fits, PostsOne, PublishesFirst, PublishesLast}
use Rattle.qp_model.specs.Deferral.{KeepsDeferred}
use Rattle.qp_model.specs.Pieces.{Piece, Tell, Point, tell, pieces_of}
use Rattle.qp_model.specs.Acts.{Config, Actor, Moment, DoesCall, DoesDeed, DoesTask, Does, names_of}
use Rattle.qp_model.specs.Step.{Publishing, GoesOnPublishing, Remainder, DoesLeft, tasks_left, publishing_left}
use Rattle.qp_model.specs.Standing.{AgendaReaches}
use Rattle.qp_model.specs.StepNotes.{note_of}
use Rattle.qp_model.proofs.PublicationLemmas.{publishes-begun}

module _ (sys : System) (a : Actor) (at : Moment) where
  pub reaches-none : (left : Remainder) (c : Config) → AgendaReaches sys a at left c [] left c
  unfolding AgendaReaches
  reaches-none left c body mid h = h

  pub reaches-trans : (left next later : Remainder) (c d f : Config) (g h : List Piece)
      → AgendaReaches sys a at left c g next d → AgendaReaches sys a at next d h later f → AgendaReaches sys a at left c (g ++ h) later f
  unfolding AgendaReaches
  reaches-trans left next later c d f g h one two body mid k = rw append_assoc (one (h ++ body) mid (two body mid k))

  -- nothing is left: these pieces do the agenda
  pub reaches-done : (left : Remainder) (leaf : ℕ) (c d : Config) (g : List Piece) → AgendaReaches sys a at left c g (tasks_left [] leaf) d
      → DoesLeft sys a at left.publishing left.posts left.tasks c g (Some d)
  unfolding AgendaReaches DoesLeft Does tasks_left
  reaches-done left leaf c d g go = subst (λ us. DoesLeft sys a at left.publishing left.posts left.tasks c us (Some d)) (append-nil g) (go [] (Some d) (refl, refl))

  -- an agenda that reached a place from which it ends in an assertion does so
  pub reaches-asserted : (left later : Remainder) (c d : Config) (g h : List Piece) → AgendaReaches sys a at left c g later d
      → DoesLeft sys a at later.publishing later.posts later.tasks d h None → DoesLeft sys a at left.publishing left.posts left.tasks c (g ++ h) None
  unfolding AgendaReaches
  reaches-asserted left later c d g h go k = go h None k

  module _ (ts : List Task) (leaf : ℕ) (c : Config) where
    -- a note
    pub reaches-note : (t : Task) (b : Body) → note_of t ≡ Some b → AgendaReaches sys a at (tasks_left (t ∷ ts) leaf) c (Tell (plain b) ∷ []) (tasks_left ts leaf) c
    unfolding AgendaReaches DoesLeft Does DoesTask tasks_left
    reaches-note t b is = by_task t is
      where
        with_note : (t : Task) (n : Body) → n ≡ b → AgendaReaches sys a at (tasks_left (t ∷ ts) leaf) c (Tell (plain n) ∷ []) (tasks_left ts leaf) c
            → AgendaReaches sys a at (tasks_left (t ∷ ts) leaf) c (Tell (plain b) ∷ []) (tasks_left ts leaf) c
        with_note t n same go = subst (λ x. AgendaReaches sys a at (tasks_left (t ∷ ts) leaf) c (Tell (plain x) ∷ []) (tasks_left ts leaf) c) same go

        by_task : (t : Task) → note_of t ≡ Some b → AgendaReaches sys a at (tasks_left (t ∷ ts) leaf) c (Tell (plain b) ∷ []) (tasks_left ts leaf) c
        by_task Begin is = with_note Begin item.Begin (cc) (λ body mid h. (body, refl, h))
        by_task (Run s k) is = with_note (Run s k) (item.Run s k) (cc) (λ body mid h. (body, refl, h))
        by_task Unhandled is = with_note Unhandled item.Unhandled (cc) (λ body mid h. (body, refl, h))
        by_task (Exit s) is = with_note (Exit s) (item.Exit s) (cc) (λ body mid h. (body, refl, h))
        by_task (Enter s) is = with_note (Enter s) (item.Enter s) (cc) (λ body mid h. (body, refl, h))
        by_task (Init s) is = with_note (Init s) (item.Init s) (cc) (λ body mid h. (body, refl, h))
        by_task Done is = with_note Done item.Done (cc) (λ body mid h. (body, refl, h))
        by_task Restore is = absurd (cc)
        by_task _ is = absurd (cc)

    -- `locked` begins: the ceiling is raised
    pub reaches-raise : (ceiling former : ℕ)
        → AgendaReaches sys a at (tasks_left (Raise ceiling ∷ ts) leaf) c (Tell (raised (max former ceiling) former) ∷ []) (tasks_left ts leaf) (record c { former = former })
    unfolding AgendaReaches DoesLeft Does DoesTask tasks_left
    reaches-raise ceiling former body mid h = (former, (body, refl, h))

    -- `locked` ends: the former ceiling is restored, and the action is whole
    pub reaches-restore : AgendaReaches sys a at (tasks_left (Restore ∷ ts) leaf) c (Tell (plain (item.Unlock c.former)) ∷ Point ∷ []) (tasks_left ts leaf) c
    unfolding AgendaReaches DoesLeft Does DoesTask tasks_left
    reaches-restore body mid h = (Point ∷ body, refl, (body, refl, h))

    -- an assignment
    pub reaches-set : (p : Plain) (var : ℕ) (value : ℤ) → deed_of (names_of a c at.event) p ≡ Sets var value
        → AgendaReaches sys a at (tasks_left (Do p ∷ ts) leaf) c (Point ∷ []) (tasks_left ts leaf) (record c { vars = slice_set c.vars var value })
    unfolding AgendaReaches DoesLeft Does DoesTask DoesDeed tasks_left
    reaches-set p var value is body mid h = rw is (body, refl, h)

    -- `say`
    pub reaches-say : (p : Plain) (value : ℕ) → deed_of (names_of a c at.event) p ≡ Says value
        → AgendaReaches sys a at (tasks_left (Do p ∷ ts) leaf) c (Tell (plain (item.Say value)) ∷ Point ∷ []) (tasks_left ts leaf) c
    unfolding AgendaReaches DoesLeft Does DoesTask DoesDeed tasks_left
    reaches-say p value is body mid h = rw is (body, refl, h)

    -- a call that goes on
    pub reaches-call : (p : Plain) (x : Call) (answer : Answer) (g : List Told) (kept : List Entry) → deed_of (names_of a c at.event) p ≡ Calls x
        → Fits sys a.o at.entry x answer g → KeepsDeferred a.room x g c.kept kept → is_assertion answer ≡ false
        → AgendaReaches sys a at (tasks_left (Do p ∷ ts) leaf) c (pieces_of x g ++ Point ∷ []) (tasks_left ts leaf) (record c { ok = ok_after answer c.ok; kept = kept })
    unfolding AgendaReaches DoesLeft Does DoesTask DoesDeed DoesCall tasks_left
    reaches-call p x answer g kept is fits keeps on body mid h = rw is (answer, g, kept, fits, keeps, rw on (body, append_assoc (pieces_of x g) (Point ∷ []) body, h))

    -- a call that ends in its assertion
    pub does_left-asserted : (p : Plain) (x : Call) (answer : Answer) (g : List Told) (kept : List Entry) → deed_of (names_of a c at.event) p ≡ Calls x
        → Fits sys a.o at.entry x answer g → KeepsDeferred a.room x g c.kept kept → is_assertion answer ≡ true
        → DoesLeft sys a at None [] (Do p ∷ ts) c (pieces_of x g) None
    unfolding DoesLeft Does DoesTask DoesDeed DoesCall
    does_left-asserted p x answer g kept is fits keeps asserted = rw is (answer, g, kept, fits, keeps, rw asserted (refl, refl))

    -- a publication begins
    pub reaches-publish : (p : Plain) (sig : ℕ) (pars : List ℕ) (reserve : Option ℕ) (under : Publishing) (g : List Told)
        → deed_of (names_of a c at.event) p ≡ Calls (call.Publish sig pars reserve)
        → PublishesFirst (is_static sys sig) (sizes_of sys) a.o sig pars reserve under.entry under.former under.members g
        → AgendaReaches sys a at (tasks_left (Do p ∷ ts) leaf) c (tell g) (publishing_left under under.members ts leaf) c
    unfolding AgendaReaches DoesLeft Does DoesTask DoesDeed tasks_left publishing_left
    reaches-publish p sig pars reserve under g is begins body mid h =
        rw is (
        publishes-begun sys a at.entry c (λ d rest. Does sys a at ts d rest mid) (mid ≡ None) sig pars reserve under.entry under.former under.members g body begins h)

    module _ (under : Publishing) (to : ℕ) (others : List ℕ) (g : List Told) where
      -- a publication posts
      pub reaches-post : PostsOne (ring_of sys to) under.entry to Granted g
          → AgendaReaches sys a at (publishing_left under (to ∷ others) ts leaf) c (tell g ++ Point ∷ []) (publishing_left under others ts leaf) c
      unfolding AgendaReaches DoesLeft GoesOnPublishing publishing_left
      reaches-post post body mid h = inr (g, body, post, append_assoc (tell g) (Point ∷ []) body, h)

      -- a publication finds no entry for a post
      pub does_left-cut : PostsOne (ring_of sys to) under.entry to AtQueue g → DoesLeft sys a at (Some under) (to ∷ others) ts c (tell g) None
      unfolding DoesLeft GoesOnPublishing
      does_left-cut post = inl (g, post, refl, refl)

    -- a publication ends
    pub reaches-published : (under : Publishing) (g : List Told) → PublishesLast a.o under.entry under.former under.members g
        → AgendaReaches sys a at (publishing_left under [] ts leaf) c (tell g ++ Point ∷ []) (tasks_left ts leaf) (record c { ok = pos 1 })
    unfolding AgendaReaches DoesLeft GoesOnPublishing tasks_left publishing_left
    reaches-published under g last body mid h = (g, body, last, append_assoc (tell g) (Point ∷ []) body, h)
