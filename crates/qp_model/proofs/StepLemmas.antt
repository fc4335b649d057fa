-- A step under way, task by task: what is left of it after each note, action, post of a publication, and mark.
use Rattle.std.proofs.Common.{◌≡◌, ℕ, ◌≤◌, true, false, List, [], ◌∷◌, ◌++◌, length, refl, sym, ◌∙◌, ap, inl, Option, Some, None, append_assoc, append-nil}
use Rattle.std.specs.Prelude.{pos}
use Rattle.std.specs.List.{list_all}
use Rattle.qp_chart.specs.Agenda.{start_plan}
use Rattle.qp_model.specs.declared.systems.System.{System}
use Rattle.qp_model.specs.declared.bodies.Entry.{Entry}
use Rattle.qp_model.specs.declared.bodies.Body.TheVariants as item
use Rattle.qp_model.specs.Told.{Told, Event, plain}
use Rattle.qp_model.specs.Shapes.{Drops, Posts, PostsOne, PublishesLast, restoring}
use Rattle.qp_model.specs.Pieces.{Piece, Point, records_in, tell}
use Rattle.qp_model.specs.Acts.{Config, Actor, Does}
use Rattle.qp_model.specs.Step.{Publishing, GoesOnPublishing, Remainder, DoesLeft, StepGoesOn, Closes, at_leaf, moment, tasks_left}
use Rattle.qp_model.specs.Course.{Starts, at_start}
use Rattle.qp_model.specs.Standing.{StepAdvances, AgendaReaches}
use Rattle.qp_model.specs.Able.{task_able}
use Rattle.qp_model.proofs.ReachLemmas.{reaches-done}
use Rattle.qp_model.proofs.Completes.{completes, release, release_drops, again_any}

module _ (sys : System) (a : Actor) (ev : Event) (e : Entry) where
  -- a step advances as its agenda reaches
  pub advances-reaches : (left later : Remainder) (c d : Config) (g : List Piece) → left.leaf ≡ later.leaf
      → AgendaReaches sys a (moment ev e) left c g later d → StepAdvances sys a ev e left c g later d
  unfolding StepAdvances AgendaReaches StepGoesOn
  advances-reaches left later c d g same go qs end h =
      (g ++ h.0, h.1, h.2, go h.0 h.2 h.3, h.4, ap (λ us. g ++ us) h.5 ∙ sym (append_assoc g h.0 (tell h.1)), h.6 ∙ ap (λ leaf. at_leaf leaf h.2) (sym same))

  -- a step whose agenda ends in an assertion ends there
  pub goes_on-failed : (left : Remainder) (c : Config) (g : List Piece) → DoesLeft sys a (moment ev e) left.publishing left.posts left.tasks c g None
      → StepGoesOn sys a ev e left c g None
  unfolding StepGoesOn Closes
  goes_on-failed left c g does = (g, [], None, does, refl, sym (append-nil g), refl)

  -- nothing is left but the release
  pub goes_on-done : (leaf : ℕ) (c : Config) (rel : List Told) → Drops e rel → StepGoesOn sys a ev e (tasks_left [] leaf) c (tell rel) (Some (record c { leaf = leaf }))
  unfolding StepGoesOn Closes DoesLeft Does tasks_left
  goes_on-done leaf c rel drops = ([], rel, Some c, (refl, refl), drops, refl, refl)

-- the last records that a publication may have
last_any : (o : ℕ) (e : Entry) (former : ℕ) (ms : List ℕ) → (g : List Told) × PublishesLast o e former ms g
unfolding PublishesLast Drops
last_any o e former ms = (restoring o former ms ++ release e.pool e, (release e.pool e, release_drops e.pool e, refl))

-- a step under way can be brought to its end
pub goes_on-completes : (sys : System) (a : Actor) (ev : Event) (e : Entry) (left : Remainder) (c : Config)
    → list_all (task_able sys true) left.tasks ≡ true → length c.kept ≤ a.room → (qs : List Piece) × (end : Option Config) × StepGoesOn sys a ev e left c qs end
unfolding StepGoesOn Closes DoesLeft GoesOnPublishing PostsOne Posts Drops
goes_on-completes sys a ev e left c able within =
    let done = can left.publishing left.posts in
    let rel = closed done.0 done.1 in
    (done.0 ++ tell rel.0, at_leaf left.leaf done.1, (done.0, rel.0, done.1, done.2, rel.1, refl, refl))
  where
    closed : (body : List Piece) (mid : Option Config) → (rel : List Told) × Closes e mid rel
    closed body None = ([], refl)
    closed body (Some d) = (release e.pool e, release_drops e.pool e)

    -- what is left of the agenda can be done
    Can : Option Publishing → List ℕ → Type 0
    Can p posts = (body : List Piece) × (mid : Option Config) × DoesLeft sys a (moment ev e) p posts left.tasks c body mid

    can : (p : Option Publishing) (posts : List ℕ) → Can p posts
    can None posts = completes sys a (moment ev e) left.tasks c able within
    can (Some p) [] =
        let last = last_any a.o p.entry p.former p.members in
        let rest = completes sys a (moment ev e) left.tasks (record c { ok = pos 1 }) able within in
        (tell last.0 ++ (Point ∷ rest.0), rest.1, (last.0, rest.0, last.1, refl, rest.2))
    can (Some p) (to ∷ others) =
        let made = again_any p.entry in
        let g : List Told = made.0 ++ (plain (item.NoEntry to 0 0 0) ∷ []) in
        (tell g, None, inl (g, (made.0, made.1, made.2, (0, 0, 0, refl)), refl, refl))

-- a start can be brought to its end
pub starts-completes : (sys : System) (a : Actor) (first : Config) → list_all (task_able sys false) (start_plan a.chart).tasks ≡ true → length first.kept ≤ a.room
    → (ps : List Piece) × (end : Option Config) × Starts sys a first ps end
unfolding Starts
starts-completes sys a first able within =
    let done = completes sys a at_start (start_plan a.chart).tasks first able within in
    (tell (records_in done.0), at_leaf (start_plan a.chart).leaf done.1, (done.0, done.1, done.2, refl, refl))

-- a start whose agenda is done
pub starts-reaches : (sys : System) (a : Actor) (first d : Config) (leaf : ℕ) (g : List Piece)
    → AgendaReaches sys a at_start (tasks_left (start_plan a.chart).tasks leaf) first g (tasks_left [] leaf) d
    → Starts sys a first (tell (records_in g)) (Some (record d { leaf = (start_plan a.chart).leaf }))
unfolding Starts DoesLeft tasks_left
starts-reaches sys a first d leaf g go = (g, Some d, reaches-done sys a at_start (tasks_left (start_plan a.chart).tasks leaf) leaf first d g go, refl, refl)

-- a start whose agenda ends in an assertion
pub starts-failed : (sys : System) (a : Actor) (first : Config) (g : List Piece) → DoesLeft sys a at_start None [] (start_plan a.chart).tasks first g None
    → Starts sys a first (tell (records_in g)) None
unfolding Starts DoesLeft
starts-failed sys a first g does = (g, None, does, refl, refl)
