-- The agenda of a step or a start as blocks: notes, actions, and actions under a raised ceiling.
use Rattle.std.proofs.Common.{◌≡◌, ◌⊎◌, inl, inr, ℕ, zero, suc, List, [], ◌∷◌, ◌++◌, length, map, refl, sym, ◌∙◌, ap, Option, Some, None, append_assoc}
use Rattle.qp_chart.specs.Expr.{Names}
use Rattle.qp_chart.specs.declared.actions.Plain.{Plain}
use Rattle.qp_chart.specs.declared.actions.Act.{Act}
use Rattle.qp_chart.specs.declared.actions.Act.TheVariants as act
use Rattle.qp_chart.specs.declared.checked.Chart.{Chart}
use Rattle.qp_chart.specs.StateTree.{state_at}
use Rattle.qp_chart.specs.Handler.{Handler, handler}
use Rattle.qp_chart.specs.MainState.{main_state, exited, entered}
use Rattle.qp_chart.specs.Task.{Task, Begin, Run, Unhandled, Exit, Enter, Init, Done, Do, Raise, Restore, act_tasks, tasks_of, acts_at, exits, entries}
use Rattle.qp_chart.specs.Drill.{init_of, initial, drill_to, drill}
use Rattle.qp_chart.specs.Agenda.{crossing, transition, moves, handled, ended, step_plan, start_plan}

pub data Block : Type 0 where
  Exits : (s : ℕ) → Block
  Enters : (s : ℕ) → Block
  Inits : (s : ℕ) → Block
  Acts : (p : Plain) → Block
  Locks : (ceiling : ℕ) (ps : List Plain) → Block

-- the tasks of some blocks
unfoldable pub spread : List Block → List Task
spread [] = []
spread (Exits s ∷ bs) = Exit s ∷ spread bs
spread (Enters s ∷ bs) = Enter s ∷ spread bs
spread (Inits s ∷ bs) = Init s ∷ spread bs
spread (Acts p ∷ bs) = Do p ∷ spread bs
spread (Locks ceiling ps ∷ bs) = Raise ceiling ∷ (map Do ps ++ (Restore ∷ spread bs))

-- the tasks are those of some blocks
unfoldable pub Blocks : List Task → Type 0
unfolding spread
Blocks ts = (bs : List Block) × (ts ≡ spread bs)

spread-append : (bs cs : List Block) → spread (bs ++ cs) ≡ spread bs ++ spread cs
unfolding spread
spread-append [] cs = refl
spread-append (Exits s ∷ bs) cs = ap (λ ts. Exit s ∷ ts) (spread-append bs cs)
spread-append (Enters s ∷ bs) cs = ap (λ ts. Enter s ∷ ts) (spread-append bs cs)
spread-append (Inits s ∷ bs) cs = ap (λ ts. Init s ∷ ts) (spread-append bs cs)
spread-append (Acts p ∷ bs) cs = ap (λ ts. Do p ∷ ts) (spread-append bs cs)
spread-append (Locks ceiling ps ∷ bs) cs =
    ap (λ ts. Raise ceiling ∷ (map Do ps ++ (Restore ∷ ts))) (spread-append bs cs)
    ∙ ap (λ ts. Raise ceiling ∷ ts) (sym (append_assoc (map Do ps) (Restore ∷ spread bs) (spread cs)))

pub blocks-none : Blocks []
unfolding Blocks spread
blocks-none = ([], refl)

one_exit : (s : ℕ) → Blocks (Exit s ∷ [])
unfolding Blocks spread
one_exit s = (Exits s ∷ [], refl)

one_enter : (s : ℕ) → Blocks (Enter s ∷ [])
unfolding Blocks spread
one_enter s = (Enters s ∷ [], refl)

one_init : (s : ℕ) → Blocks (Init s ∷ [])
unfolding Blocks spread
one_init s = (Inits s ∷ [], refl)

pub blocks-append : (ts us : List Task) → Blocks ts → Blocks us → Blocks (ts ++ us)
unfolding Blocks
blocks-append ts us h k = (h.0 ++ k.0, ap (λ vs. vs ++ us) h.1 ∙ ap (λ vs. spread h.0 ++ vs) k.1 ∙ sym (spread-append h.0 k.0))

blocks-act : (x : Act) → Blocks (act_tasks x)
unfolding Blocks spread act_tasks
blocks-act (act.Plain p) = (Acts p ∷ [], refl)
blocks-act (act.Locked c ps) = (Locks c ps ∷ [], refl)

pub blocks-acts : (xs : List Act) → Blocks (tasks_of xs)
unfolding tasks_of
blocks-acts [] = blocks-none
blocks-acts (x ∷ xs) = blocks-append (act_tasks x) (tasks_of xs) (blocks-act x) (blocks-acts xs)

module _ (chart : Chart) where
  blocks-exits : (path : List ℕ) → Blocks (exits chart path)
  unfolding exits
  blocks-exits [] = blocks-none
  blocks-exits (s ∷ path) =
      blocks-append (Exit s ∷ tasks_of (acts_at (λ x. x.exit) (state_at chart s))) (exits chart path)
      (blocks-append (Exit s ∷ []) (tasks_of (acts_at (λ x. x.exit) (state_at chart s))) (one_exit s) (blocks-acts (acts_at (λ x. x.exit) (state_at chart s))))
      (blocks-exits path)

  blocks-entries : (path : List ℕ) → Blocks (entries chart path)
  unfolding entries
  blocks-entries [] = blocks-none
  blocks-entries (s ∷ path) =
      blocks-append (Enter s ∷ tasks_of (acts_at (λ x. x.entry) (state_at chart s))) (entries chart path)
      (blocks-append (Enter s ∷ []) (tasks_of (acts_at (λ x. x.entry) (state_at chart s))) (one_enter s) (blocks-acts (acts_at (λ x. x.entry) (state_at chart s))))
      (blocks-entries path)

  blocks-initial : (s t : ℕ) → Blocks (initial chart s t)
  unfolding initial
  blocks-initial s t =
      blocks-append (Init s ∷ tasks_of (acts_at (λ x. x.init_do) (state_at chart s))) (entries chart (entered chart (Some s) t))
      (blocks-append (Init s ∷ []) (tasks_of (acts_at (λ x. x.init_do) (state_at chart s))) (one_init s) (blocks-acts (acts_at (λ x. x.init_do) (state_at chart s))))
      (blocks-entries (entered chart (Some s) t))

  blocks-drill_to : (n s : ℕ) (to : Option ℕ) → Blocks (drill_to chart n s to).tasks
  unfolding drill_to
  blocks-drill_to n s None = blocks-none
  blocks-drill_to zero s (Some t) = blocks-none
  blocks-drill_to (suc n) s (Some t) = blocks-append (initial chart s t) (drill_to chart n t (init_of chart t)).tasks (blocks-initial s t) (blocks-drill_to n t (init_of chart t))

  blocks-drill : (s : ℕ) → Blocks (drill chart s).tasks
  unfolding drill
  blocks-drill s = blocks-drill_to (length chart.state) s (init_of chart s)

  blocks-transition : (leaf s t : ℕ) → Blocks (transition chart leaf s t).tasks
  unfolding transition crossing
  blocks-transition leaf s t =
      blocks-append (exits chart (exited chart (main_state chart s t) leaf) ++ entries chart (entered chart (main_state chart s t) t)) (drill chart t).tasks
      (blocks-append (exits chart (exited chart (main_state chart s t) leaf)) (entries chart (entered chart (main_state chart s t) t)) (blocks-exits (exited chart (main_state chart s t) leaf)) (blocks-entries (entered chart (main_state chart s t) t)))
      (blocks-drill t)

  blocks-moves : (leaf s : ℕ) (to : Option ℕ) → Blocks (moves chart leaf s to).tasks
  unfolding moves
  blocks-moves leaf s None = blocks-none
  blocks-moves leaf s (Some t) = blocks-transition leaf s t

  -- a step: its handler, blocks, `done`
  pub step-blocks : (leaf : ℕ) (names : Names) (sig : ℕ)
      → (head : Task) × (ts : List Task) × ((head ≡ Unhandled) ⊎ ((s k : ℕ) × (head ≡ Run s k))) × Blocks ts × ((step_plan chart leaf names sig).tasks ≡ head ∷ (ts ++ (Done ∷ [])))
  unfolding step_plan handled
  step-blocks leaf names sig = by_handler (handler chart names sig leaf)
    where
      by_handler : (o : Option Handler)
          → (head : Task) × (ts : List Task) × ((head ≡ Unhandled) ⊎ ((s k : ℕ) × (head ≡ Run s k))) × Blocks ts × ((ended (handled chart leaf o)).tasks ≡ head ∷ (ts ++ (Done ∷ [])))
      by_handler None = (Unhandled, [], inl refl, blocks-none, refl)
      by_handler (Some h) = (
        Run h.state h.place,
        tasks_of h.row.acts ++ (moves chart leaf h.state h.row.to).tasks,
        inr (h.state, h.place, refl),
        blocks-append (tasks_of h.row.acts) (moves chart leaf h.state h.row.to).tasks (blocks-acts h.row.acts) (blocks-moves leaf h.state h.row.to),
        refl,
      )

  -- a start: `begin`, blocks, `done`
  pub start-blocks : (ts : List Task) × Blocks ts × ((start_plan chart).tasks ≡ Begin ∷ (ts ++ (Done ∷ [])))
  unfolding start_plan
  start-blocks = (
    (tasks_of chart.init_do ++ entries chart (entered chart None chart.init)) ++ (drill chart chart.init).tasks,
    blocks-append (tasks_of chart.init_do ++ entries chart (entered chart None chart.init)) (drill chart chart.init).tasks
        (blocks-append (tasks_of chart.init_do) (entries chart (entered chart None chart.init)) (blocks-acts chart.init_do) (blocks-entries (entered chart None chart.init)))
        (blocks-drill chart.init),
    refl,
  )
