-- The agendas of a chart that has what its actions ask for.
use Rattle.std.proofs.Common.{◌≡◌, ℕ, zero, suc, ◌+◌, ◌-◌, ◌==◌, Bool, true, false, ◌&&◌, List, [], ◌∷◌, ◌++◌, length, map, refl, subst, Option, Some, None, cond}
use Rattle.std.specs.Prelude.{slice_get}
use Rattle.std.specs.List.{list_all}
use Rattle.std.proofs.lemmas.Bool.{and_from, and_parts}
use Rattle.qp_chart.specs.Expr.{Names}
use Rattle.qp_chart.specs.declared.actions.Plain.{Plain}
use Rattle.qp_chart.specs.declared.actions.Plain.TheVariants as action
use Rattle.qp_chart.specs.declared.actions.Act.{Act}
use Rattle.qp_chart.specs.declared.actions.Act.TheVariants as act
use Rattle.qp_chart.specs.declared.checked.Row.{Row}
use Rattle.qp_chart.specs.declared.checked.State.{State}
use Rattle.qp_chart.specs.declared.checked.Chart.{Chart}
use Rattle.qp_chart.specs.StateTree.{state_at, up}
use Rattle.qp_chart.specs.Handler.{Handler, passes, first_row, handler_at, rows_of, handler_on, handler}
use Rattle.qp_chart.specs.MainState.{main_state, exited, entered}
use Rattle.qp_chart.specs.Task.{Task, Done, Do, Restore, act_tasks, tasks_of, acts_at, exits, entries}
use Rattle.qp_chart.specs.Drill.{init_of, initial, drill_to, drill}
use Rattle.qp_chart.specs.Agenda.{crossing, transition, moves, handled, ended, step_plan, start_plan}
use Rattle.qp_model.specs.declared.systems.System.{System}
use Rattle.qp_model.proofs.FitsLemmas.{all-append}
use Rattle.qp_model.specs.Able.{is_able, task_able, act_able, state_able, chart_able}

-- an element of a list that passes
pub all-get : {X : Type 0} (f : X → Bool) (xs : List X) (k : ℕ) (x : X) → list_all f xs ≡ true → slice_get xs k ≡ Some x → f x ≡ true
all-get f [] k x h is = absurd (cc)
all-get f (y ∷ ys) zero x h is = let same : y ≡ x = cc in subst (λ z. f z ≡ true) same (and_parts (f y) (list_all f ys) h).0
all-get f (y ∷ ys) (suc k) x h is = all-get f ys k x (and_parts (f y) (list_all f ys) h).1 is

pub some-same : {X : Type 0} {x y : X} → Some x ≡ Some y → x ≡ y
some-same e = cc

pub handler_is : ℕ → ℕ × Row → Handler
handler_is s found = record { state = s; place = found.0; row = found.1 }

module _ (sys : System) where
  -- without an entry at hand is harder
  able-more : (p : Plain) → is_able sys false p ≡ true → is_able sys true p ≡ true
  unfolding is_able
  able-more (action.Post to sig pars margin reserve) h = h
  able-more (action.Lifo sig pars reserve) h = h
  able-more (action.Publish sig pars reserve) h = h
  able-more _ h = refl

  task-more : (t : Task) → task_able sys false t ≡ true → task_able sys true t ≡ true
  unfolding task_able
  task-more (Do p) h = able-more p h
  task-more _ h = refl

  pub tasks-more : (ts : List Task) → list_all (task_able sys false) ts ≡ true → list_all (task_able sys true) ts ≡ true
  tasks-more [] h = refl
  tasks-more (t ∷ ts) h =
      and_from (task_able sys true t) (list_all (task_able sys true) ts) (task-more t (and_parts (task_able sys false t) (list_all (task_able sys false) ts) h).0)
      (tasks-more ts (and_parts (task_able sys false t) (list_all (task_able sys false) ts) h).1)

  module _ (at_hand : Bool) where
    plains-able : (ps : List Plain) → list_all (is_able sys at_hand) ps ≡ true → list_all (task_able sys at_hand) (map Do ps) ≡ true
    unfolding task_able
    plains-able [] h = refl
    plains-able (p ∷ ps) h =
        and_from (is_able sys at_hand p) (list_all (task_able sys at_hand) (map Do ps)) (and_parts (is_able sys at_hand p) (list_all (is_able sys at_hand) ps) h).0
        (plains-able ps (and_parts (is_able sys at_hand p) (list_all (is_able sys at_hand) ps) h).1)

    act-able : (x : Act) → act_able sys at_hand x ≡ true → list_all (task_able sys at_hand) (act_tasks x) ≡ true
    unfolding act_able act_tasks task_able
    act-able (act.Plain p) h = and_from (is_able sys at_hand p) true h refl
    act-able (act.Locked c ps) h = all-append (task_able sys at_hand) (map Do ps) (Restore ∷ []) (plains-able ps h) refl

    acts-able : (xs : List Act) → list_all (act_able sys at_hand) xs ≡ true → list_all (task_able sys at_hand) (tasks_of xs) ≡ true
    unfolding tasks_of
    acts-able [] h = refl
    acts-able (x ∷ xs) h =
        all-append (task_able sys at_hand) (act_tasks x) (tasks_of xs) (act-able x (and_parts (act_able sys at_hand x) (list_all (act_able sys at_hand) xs) h).0)
        (acts-able xs (and_parts (act_able sys at_hand x) (list_all (act_able sys at_hand) xs) h).1)

  -- what a state that passes has
  record StateAble (s : State) : Type 0 where
    entry : list_all (act_able sys false) s.entry ≡ true
    exit : list_all (act_able sys false) s.exit ≡ true
    init_do : list_all (act_able sys false) s.init_do ≡ true
    row : list_all (λ row. list_all (act_able sys true) row.acts) s.row ≡ true

  state-able : (s : State) → state_able sys s ≡ true → StateAble s
  unfolding state_able
  state-able s h = record {
    entry = (and_parts a b (and_parts (a && b) c (and_parts ((a && b) && c) d h).0).0).0;
    exit = (and_parts a b (and_parts (a && b) c (and_parts ((a && b) && c) d h).0).0).1;
    init_do = (and_parts (a && b) c (and_parts ((a && b) && c) d h).0).1;
    row = (and_parts ((a && b) && c) d h).1;
  }
    where
      a : Bool
      a = list_all (act_able sys false) s.entry

      b : Bool
      b = list_all (act_able sys false) s.exit

      c : Bool
      c = list_all (act_able sys false) s.init_do

      d : Bool
      d = list_all (λ row. list_all (act_able sys true) row.acts) s.row

  module _ (chart : Chart) (able : chart_able sys chart ≡ true) where
    init_acts : list_all (act_able sys false) chart.init_do ≡ true
    unfolding chart_able
    init_acts = (and_parts (list_all (act_able sys false) chart.init_do) (list_all (state_able sys) chart.state) able).0

    states : list_all (state_able sys) chart.state ≡ true
    unfolding chart_able
    states = (and_parts (list_all (act_able sys false) chart.init_do) (list_all (state_able sys) chart.state) able).1

    state-at : (s : ℕ) (x : State) → state_at chart s ≡ Some x → StateAble x
    unfolding state_at
    state-at s x is = state-able x (all-get (state_able sys) chart.state (s - 1) x states is)

    -- the actions of one kind of any state
    part-able : (part : State → List Act) → ((x : State) → StateAble x → list_all (act_able sys false) (part x) ≡ true) → (s : ℕ)
        → list_all (task_able sys false) (tasks_of (acts_at part (state_at chart s))) ≡ true
    unfolding tasks_of
    part-able part go s = by_state (state_at chart s) refl
      where
        by_state : (o : Option State) → state_at chart s ≡ o → list_all (task_able sys false) (tasks_of (acts_at part o)) ≡ true
        by_state None is = refl
        by_state (Some x) is = acts-able false (part x) (go x (state-at s x is))

    exits-able : (path : List ℕ) → list_all (task_able sys false) (exits chart path) ≡ true
    unfolding exits task_able
    exits-able [] = refl
    exits-able (s ∷ path) = all-append (task_able sys false) (tasks_of (acts_at (λ x. x.exit) (state_at chart s))) (exits chart path) (part-able (λ x. x.exit) (λ x h. h.exit) s) (exits-able path)

    entries-able : (path : List ℕ) → list_all (task_able sys false) (entries chart path) ≡ true
    unfolding entries task_able
    entries-able [] = refl
    entries-able (s ∷ path) = all-append (task_able sys false) (tasks_of (acts_at (λ x. x.entry) (state_at chart s))) (entries chart path) (part-able (λ x. x.entry) (λ x h. h.entry) s) (entries-able path)

    initial-able : (s t : ℕ) → list_all (task_able sys false) (initial chart s t) ≡ true
    unfolding initial task_able
    initial-able s t = all-append (task_able sys false) (tasks_of (acts_at (λ x. x.init_do) (state_at chart s))) (entries chart (entered chart (Some s) t)) (part-able (λ x. x.init_do) (λ x h. h.init_do) s) (entries-able (entered chart (Some s) t))

    drill_to-able : (n s : ℕ) (to : Option ℕ) → list_all (task_able sys false) (drill_to chart n s to).tasks ≡ true
    unfolding drill_to
    drill_to-able n s None = refl
    drill_to-able zero s (Some t) = refl
    drill_to-able (suc n) s (Some t) = all-append (task_able sys false) (initial chart s t) (drill_to chart n t (init_of chart t)).tasks (initial-able s t) (drill_to-able n t (init_of chart t))

    drill-able : (s : ℕ) → list_all (task_able sys false) (drill chart s).tasks ≡ true
    unfolding drill
    drill-able s = drill_to-able (length chart.state) s (init_of chart s)

    transition-able : (leaf s t : ℕ) → list_all (task_able sys false) (transition chart leaf s t).tasks ≡ true
    unfolding transition crossing
    transition-able leaf s t =
        all-append (task_able sys false) (exits chart (exited chart (main_state chart s t) leaf) ++ entries chart (entered chart (main_state chart s t) t)) (drill chart t).tasks
        (all-append (task_able sys false) (exits chart (exited chart (main_state chart s t) leaf)) (entries chart (entered chart (main_state chart s t) t)) (exits-able (exited chart (main_state chart s t) leaf)) (entries-able (entered chart (main_state chart s t) t)))
        (drill-able t)

    moves-able : (leaf s : ℕ) (to : Option ℕ) → list_all (task_able sys false) (moves chart leaf s to).tasks ≡ true
    unfolding moves
    moves-able leaf s None = refl
    moves-able leaf s (Some t) = transition-able leaf s t

    -- a row that is found passes
    first_row-able : (names : Names) (sig k : ℕ) (rows : List Row) (found : ℕ × Row) → list_all (λ row. list_all (act_able sys true) row.acts) rows ≡ true
        → first_row names sig k rows ≡ Some found → list_all (act_able sys true) found.1.acts ≡ true
    unfolding first_row
    first_row-able names sig k [] found h is = absurd (cc)
    first_row-able names sig k (row ∷ rows) found h is =
        by_test (first_row-able names sig (k + 1) rows found (and_parts (list_all (act_able sys true) row.acts) (list_all (λ row. list_all (act_able sys true) row.acts) rows) h).1)
        ((row.on == sig) && passes names row.when) is
      where
        by_test : (first_row names sig (k + 1) rows ≡ Some found → list_all (act_able sys true) found.1.acts ≡ true)
            → (b : Bool) → cond b (Some (k, row)) (first_row names sig (k + 1) rows) ≡ Some found → list_all (act_able sys true) found.1.acts ≡ true
        by_test later true e =
            let same : (k, row) ≡ found = some-same e in
            subst (λ x. list_all (act_able sys true) x.1.acts ≡ true) same (and_parts (list_all (act_able sys true) row.acts) (list_all (λ row. list_all (act_able sys true) row.acts) rows) h).0
        by_test later false e = later e

    -- a handler's row passes
    handler_on-able : (names : Names) (sig : ℕ) (path : List ℕ) (h : Handler) → handler_on chart names sig path ≡ Some h → list_all (act_able sys true) h.row.acts ≡ true
    unfolding handler_on handler_is
    handler_on-able names sig [] h is = absurd (cc)
    handler_on-able names sig (s ∷ outer) h is = by_state (handler_on-able names sig outer h) (state_at chart s) refl (first_row names sig 1 (rows_of (state_at chart s))) refl is
      where
        by_state : (handler_on chart names sig outer ≡ Some h → list_all (act_able sys true) h.row.acts ≡ true) → (o : Option State) → state_at chart s ≡ o
            → (found : Option (ℕ × Row)) → first_row names sig 1 (rows_of (state_at chart s)) ≡ found
            → handler_at s found (handler_on chart names sig outer) ≡ Some h → list_all (act_able sys true) h.row.acts ≡ true
        by_state later o at None none is = later is
        by_state later None at (Some found) none is =
            let nothing : first_row names sig 1 [] ≡ Some found = subst (λ x. first_row names sig 1 (rows_of x) ≡ Some found) at none in
            let same : handler_is s found ≡ h = some-same is in
            subst (λ y. list_all (act_able sys true) y.row.acts ≡ true) same (first_row-able names sig 1 [] found refl nothing)
        by_state later (Some x) at (Some found) some is =
            let here : first_row names sig 1 x.row ≡ Some found = subst (λ y. first_row names sig 1 (rows_of y) ≡ Some found) at some in
            let good = first_row-able names sig 1 x.row found (state-at s x at).row here in
            let same : handler_is s found ≡ h = some-same is in
            subst (λ y. list_all (act_able sys true) y.row.acts ≡ true) same good

    -- the agenda of any step
    pub step-able : (leaf : ℕ) (names : Names) (sig : ℕ) → list_all (task_able sys true) (step_plan chart leaf names sig).tasks ≡ true
    unfolding step_plan handled handler task_able
    step-able leaf names sig = by_handler (handler_on chart names sig (up chart leaf)) refl
      where
        by_handler : (o : Option Handler) → handler_on chart names sig (up chart leaf) ≡ o → list_all (task_able sys true) (ended (handled chart leaf o)).tasks ≡ true
        by_handler None is = refl
        by_handler (Some h) is =
            all-append (task_able sys true) (tasks_of h.row.acts ++ (moves chart leaf h.state h.row.to).tasks) (Done ∷ [])
            (all-append (task_able sys true) (tasks_of h.row.acts) (moves chart leaf h.state h.row.to).tasks (acts-able true h.row.acts (handler_on-able names sig (up chart leaf) h is))
            (tasks-more (moves chart leaf h.state h.row.to).tasks (moves-able leaf h.state h.row.to)))
            refl

    -- the agenda of the start
    pub start-able : list_all (task_able sys false) (start_plan chart).tasks ≡ true
    unfolding start_plan task_able
    start-able =
        all-append (task_able sys false) ((tasks_of chart.init_do ++ entries chart (entered chart None chart.init)) ++ (drill chart chart.init).tasks) (Done ∷ [])
        (all-append (task_able sys false) (tasks_of chart.init_do ++ entries chart (entered chart None chart.init)) (drill chart chart.init).tasks
        (all-append (task_able sys false) (tasks_of chart.init_do) (entries chart (entered chart None chart.init)) (acts-able false chart.init_do init) (entries-able (entered chart None chart.init)))
        (drill-able chart.init))
        refl
      where
        init : list_all (act_able sys false) chart.init_do ≡ true
        init = init_acts
