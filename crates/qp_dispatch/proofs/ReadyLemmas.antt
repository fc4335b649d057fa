-- The agendas of an object's chart name what the system has.
use Rattle.std.proofs.Common.{◌≡◌, ℕ, zero, suc, ◌+◌, ◌-◌, ◌==◌, Bool, true, false, ◌&&◌, List, [], ◌∷◌, ◌++◌, length, map, refl, subst, Option, Some, None, cond}
use Rattle.std.specs.Prelude.{IsSome}
use Rattle.std.specs.List.{AllByRecursion}
use Rattle.qp_chart.specs.Expr.{Names}
use Rattle.qp_chart.specs.declared.actions.Plain.{Plain}
use Rattle.qp_chart.specs.declared.actions.Act.{Act}
use Rattle.qp_chart.specs.declared.actions.Act.TheVariants as act
use Rattle.qp_chart.specs.declared.checked.Row.{Row}
use Rattle.qp_chart.specs.declared.checked.State.{State}
use Rattle.qp_chart.specs.declared.checked.Chart.{Chart}
use Rattle.qp_chart.specs.StateTree.{state_at, up}
use Rattle.qp_chart.specs.Handler.{Handler, passes, first_row, handler_at, rows_of, handler_on, handler}
use Rattle.qp_chart.specs.MainState.{main_state, exited, entered}
use Rattle.qp_chart.specs.Task.{Task, Done, Do, Restore, act_tasks, tasks_of, acts_at, exits, entries}
use Rattle.qp_chart.specs.Drill.{init_of, initial, drill_to, drill}
use Rattle.qp_chart.specs.Agenda.{crossing, transition, moves, handled, ended, step_plan, start_plan}
use Rattle.qp_model.specs.declared.systems.System.{System}
use Rattle.qp_model.specs.Able.{chart_able}
use Rattle.qp_model.specs.SoundChart.{IsSoundAct, IsSoundChart, IsSoundPlain, IsSoundRow, IsSoundState}
use Rattle.qp_calls.specs.declared.tokens.HeldEntry.{HeldEntry}
use Rattle.qp_dispatch.specs.SoundFor.{IsObjectWithTimers, MayAct, MayTask}
use Rattle.qp_dispatch.specs.Resume.{CanTakeSteps}
use Rattle.qp_model.proofs.AbleLemmas.{some-same}
use Rattle.qp_model.proofs.NumberLemmas.{every-append}
use Rattle.qp_model.proofs.ListLemmas.{every-at}

not-some : {A : Type 0} → IsSome {T = ℕ} None → A
not-some e = absurd (cc)

handler_is : ℕ → ℕ × Row → Handler
handler_is s found = record { state = s; place = found.0; row = found.1 }

module _ (sys : System) (me : ℕ) (chart : Chart) (home : IsObjectWithTimers sys me chart) (sound : IsSoundChart sys chart) where
  module _ (hand : Option HeldEntry) where
    abbrev May : List Task → Type 0
    May ts = AllByRecursion (MayTask sys me hand) ts

    may-append : (xs ys : List Task) → May xs → May ys → May (xs ++ ys)
    may-append xs ys h k = every-append (MayTask sys me hand) xs ys h k

    module _ (inside : Option ℕ) (at_hand : IsSome inside → IsSome hand) where
      plain-may : (p : Plain) → IsSoundPlain sys chart inside p → MayAct sys me hand p
      plain-may p h = record { chart = chart; inside = inside; home = home; plain = h; at_hand = at_hand }

      plains-may : (ps : List Plain) → AllByRecursion (IsSoundPlain sys chart inside) ps → May (map Do ps)
      plains-may [] h = tt
      plains-may (p ∷ ps) h = (plain-may p h.0, plains-may ps h.1)

      act-may : (x : Act) → IsSoundAct sys chart inside x → May (act_tasks x)
      unfolding act_tasks
      act-may (act.Plain p) h = (plain-may p h, tt)
      act-may (act.Locked c ps) h = (tt, may-append (map Do ps) (Restore ∷ []) (plains-may ps h.2) (tt, tt))

      acts-may : (xs : List Act) → AllByRecursion (IsSoundAct sys chart inside) xs → May (tasks_of xs)
      unfolding tasks_of
      acts-may [] h = tt
      acts-may (x ∷ xs) h = may-append (act_tasks x) (tasks_of xs) (act-may x h.0) (acts-may xs h.1)

    state-sound : (s : ℕ) (x : State) → state_at chart s ≡ Some x → IsSoundState sys chart x
    unfolding state_at
    state-sound s x is = every-at (IsSoundState sys chart) chart.state sound.states (s - 1) x is

    -- the actions of one kind of any state
    part-may : (part : State → List Act) → ((x : State) → IsSoundState sys chart x → AllByRecursion (IsSoundAct sys chart None) (part x)) → (s : ℕ)
        → May (tasks_of (acts_at part (state_at chart s)))
    unfolding tasks_of
    part-may part go s = by_state (state_at chart s) refl
      where
        by_state : (o : Option State) → state_at chart s ≡ o → May (tasks_of (acts_at part o))
        by_state None is = tt
        by_state (Some x) is = acts-may None (λ none. not-some none) (part x) (go x (state-sound s x is))

    exits-may : (path : List ℕ) → May (exits chart path)
    unfolding exits
    exits-may [] = tt
    exits-may (s ∷ path) = (tt, may-append (tasks_of (acts_at (λ x. x.exit) (state_at chart s))) (exits chart path) (part-may (λ x. x.exit) (λ x h. h.exit) s) (exits-may path))

    entries-may : (path : List ℕ) → May (entries chart path)
    unfolding entries
    entries-may [] = tt
    entries-may (s ∷ path) = (tt, may-append (tasks_of (acts_at (λ x. x.entry) (state_at chart s))) (entries chart path) (part-may (λ x. x.entry) (λ x h. h.entry) s) (entries-may path))

    initial-may : (s t : ℕ) → May (initial chart s t)
    unfolding initial
    initial-may s t =
        (tt, may-append (tasks_of (acts_at (λ x. x.init_do) (state_at chart s))) (entries chart (entered chart (Some s) t)) (part-may (λ x. x.init_do) (λ x h. h.init_do) s) (entries-may (entered chart (Some s) t)))

    drill_to-may : (n s : ℕ) (to : Option ℕ) → May (drill_to chart n s to).tasks
    unfolding drill_to
    drill_to-may n s None = tt
    drill_to-may zero s (Some t) = tt
    drill_to-may (suc n) s (Some t) = may-append (initial chart s t) (drill_to chart n t (init_of chart t)).tasks (initial-may s t) (drill_to-may n t (init_of chart t))

    drill-may : (s : ℕ) → May (drill chart s).tasks
    unfolding drill
    drill-may s = drill_to-may (length chart.state) s (init_of chart s)

    transition-may : (leaf s t : ℕ) → May (transition chart leaf s t).tasks
    unfolding transition crossing
    transition-may leaf s t =
        may-append (exits chart (exited chart (main_state chart s t) leaf) ++ entries chart (entered chart (main_state chart s t) t)) (drill chart t).tasks
        (may-append (exits chart (exited chart (main_state chart s t) leaf)) (entries chart (entered chart (main_state chart s t) t)) (exits-may (exited chart (main_state chart s t) leaf))
        (entries-may (entered chart (main_state chart s t) t)))
        (drill-may t)

    moves-may : (leaf s : ℕ) (to : Option ℕ) → May (moves chart leaf s to).tasks
    unfolding moves
    moves-may leaf s None = tt
    moves-may leaf s (Some t) = transition-may leaf s t

  -- a row that is found is sound
  first_row-sound : (names : Names) (sig k : ℕ) (rows : List Row) (found : ℕ × Row) → AllByRecursion (IsSoundRow sys chart) rows → first_row names sig k rows ≡ Some found → IsSoundRow sys chart found.1
  unfolding first_row
  first_row-sound names sig k [] found h is = absurd (cc)
  first_row-sound names sig k (row ∷ rows) found h is = by_test (first_row-sound names sig (k + 1) rows found h.1) ((row.on == sig) && passes names row.when) is
    where
      by_test : (first_row names sig (k + 1) rows ≡ Some found → IsSoundRow sys chart found.1) → (b : Bool) → cond b (Some (k, row)) (first_row names sig (k + 1) rows) ≡ Some found
          → IsSoundRow sys chart found.1
      by_test later true e =
          let same : (k, row) ≡ found = some-same e in
          subst (λ x. IsSoundRow sys chart x.1) same h.0
      by_test later false e = later e

  -- a handler's row is sound
  handler_on-sound : (names : Names) (sig : ℕ) (path : List ℕ) (h : Handler) → handler_on chart names sig path ≡ Some h → IsSoundRow sys chart h.row
  unfolding handler_on handler_is
  handler_on-sound names sig [] h is = absurd (cc)
  handler_on-sound names sig (s ∷ outer) h is = by_state (handler_on-sound names sig outer h) (state_at chart s) refl (first_row names sig 1 (rows_of (state_at chart s))) refl is
    where
      by_state : (handler_on chart names sig outer ≡ Some h → IsSoundRow sys chart h.row) → (o : Option State) → state_at chart s ≡ o
          → (found : Option (ℕ × Row)) → first_row names sig 1 (rows_of (state_at chart s)) ≡ found
          → handler_at s found (handler_on chart names sig outer) ≡ Some h → IsSoundRow sys chart h.row
      by_state later o at None none is = later is
      by_state later None at (Some found) none is =
          let nothing : first_row names sig 1 [] ≡ Some found = subst (λ x. first_row names sig 1 (rows_of x) ≡ Some found) at none in
          let same : handler_is s found ≡ h = some-same is in
          subst (λ y. IsSoundRow sys chart y.row) same (first_row-sound names sig 1 [] found tt nothing)
      by_state later (Some x) at (Some found) some is =
          let here : first_row names sig 1 x.row ≡ Some found = subst (λ y. first_row names sig 1 (rows_of y) ≡ Some found) at some in
          let same : handler_is s found ≡ h = some-same is in
          subst (λ y. IsSoundRow sys chart y.row) same (first_row-sound names sig 1 x.row found (state-sound None s x at).rows here)

  -- the agenda of any step
  step-may : (hand : HeldEntry) (leaf : ℕ) (names : Names) (sig : ℕ) → AllByRecursion (MayTask sys me (Some hand)) (step_plan chart leaf names sig).tasks
  unfolding step_plan handled handler
  step-may hand leaf names sig = by_handler (handler_on chart names sig (up chart leaf)) refl
    where
      by_handler : (o : Option Handler) → handler_on chart names sig (up chart leaf) ≡ o → AllByRecursion (MayTask sys me (Some hand)) (ended (handled chart leaf o)).tasks
      by_handler None is = (tt, (tt, tt))
      by_handler (Some h) is =
          let row : IsSoundRow sys chart h.row = handler_on-sound names sig (up chart leaf) h is in (
            tt,
            may-append (Some hand) (tasks_of h.row.acts ++ (moves chart leaf h.state h.row.to).tasks) (Done ∷ [])
                (may-append (Some hand) (tasks_of h.row.acts) (moves chart leaf h.state h.row.to).tasks (acts-may (Some hand) (Some row.signal.params) (λ some. refl) h.row.acts row.acts)
                (moves-may (Some hand) leaf h.state h.row.to))
                (tt, tt),
          )

  -- the agenda of the start
  start-may : AllByRecursion (MayTask sys me None) (start_plan chart).tasks
  unfolding start_plan
  start-may = (
    tt,
    may-append None ((tasks_of chart.init_do ++ entries chart (entered chart None chart.init)) ++ (drill chart chart.init).tasks) (Done ∷ [])
        (may-append None (tasks_of chart.init_do ++ entries chart (entered chart None chart.init)) (drill chart chart.init).tasks
        (may-append None (tasks_of chart.init_do) (entries chart (entered chart None chart.init)) (acts-may None None (λ none. not-some none) chart.init_do sound.init_do) (entries-may None (entered chart None chart.init)))
        (drill-may None chart.init))
        (tt, tt),
  )

  -- a sound object whose actions have what they ask for
  pub home-ready : chart_able sys chart ≡ true → CanTakeSteps sys me chart
  home-ready able = record { home = home; able = able; start = start-may; steps = step-may }
