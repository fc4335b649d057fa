-- What is left of an agenda, and the step that a choice makes.
use Rattle.std.proofs.Common.{◌≡◌, ℕ, zero, suc, ◌+◌, ◌-◌, ◌<◌, ◌≤◌, ◌==◌, ◌%◌, Bool, true, false, ◌&&◌, ◌⊎◌, inl, inr, List, [], ◌∷◌, ◌++◌, length, get_or, take, drop, cond, drop-cons, refl, sym, ◌∙◌, ap, subst, Option, Some, None, arith, add-one}
use Rattle.std.specs.List.{slice_get, find, filter}
use Rattle.std.proofs.lemmas.List.{drop_all, length-map}
use Rattle.std.proofs.lemmas.Option.{slice_get_past, none-some}
use Rattle.std.specs.Option.{option_and_then}
use Rattle.std.proofs.Math.Nat.{mod-lt}
use Rattle.std.proofs.lemmas.Bool.{false≢true}
use Rattle.std.proofs.lemmas.Bool.Decides.{nat_tests}
use Rattle.qp_chart.specs.Task.{Task}
use Rattle.qp_chart.specs.declared.checked.Row.{Row}
use Rattle.qp_chart.specs.declared.checked.Chart.{Chart}
use Rattle.qp_chart.specs.Expr.{Names}
use Rattle.qp_chart_names.specs.Pairs.{Corresponds}
use Rattle.qp_chart.specs.StateTree.{state_at, parent_of, path_of, up}
use Rattle.qp_chart.specs.Handler.{Handler, passes, first_row, handler_at, handler_on, rows_of, handler}
use Rattle.qp_chart.specs.Agenda.{handled, ended, step_plan}
use Rattle.qp_chart_compiled.specs.declared.agenda.Agenda.{Agenda}
use Rattle.qp_chart_compiled.specs.declared.agenda.Plan.{Plan}
use Rattle.qp_chart_compiled.specs.declared.choice.Choice.{Choice}
use Rattle.qp_chart_compiled.specs.declared.code.Code.{Code}
use Rattle.qp_chart_compiled.specs.declared.compiled.Compiled.{Compiled}
use Rattle.qp_chart_compiled.specs.AsTask.{first_task}
use Rattle.qp_chart_compiled.specs.Codes.{row_at, task_at, tasks_at}
use Rattle.qp_chart_compiled.specs.Rows.{rows_from, rows_on, leaves_rest, is_open, is_open_at, first_open}
use Rattle.qp_chart_compiled.specs.Compiled.{IsPlan, IsChoice, IsCompiled, between, tasks_left_of, tasks_left_in, choices_in, classes_at, classes_of}
use Rattle.qp_chart_tree.proofs.WalkLemmas.{top-left}

-- nothing stands between a place and one that isn't behind it
between-none : (from to : ℕ) (ts : List Task) → to ≤ from → between from to ts ≡ []
between-none from to ts h = let none : to - from ≡ 0 = omega (arith, h) in ap (λ n. take n (drop from ts)) none

-- the first of what stands behind a place
between-first : (chart : Chart) (from to : ℕ) (codes : List Code) (x : Code) → from < to → slice_get codes from ≡ Some x → first_task (between from to (tasks_at chart codes)) ≡ Some (task_at chart x)
between-first chart from to codes x h e = along codes from to h e
  where
    along : (codes : List Code) (from to : ℕ) → from < to → slice_get codes from ≡ Some x → first_task (between from to (tasks_at chart codes)) ≡ Some (task_at chart x)
    along [] from to h e = absurd (none-some x e)
    along (y ∷ ys) zero zero h e = absurd (omega (arith, h))
    along (y ∷ ys) zero (suc to) h e = let all : suc to - 0 ≡ suc to = omega arith in rw all (ap option_task e)
      where
        option_task : Option Code → Option Task
        option_task None = None
        option_task (Some z) = Some (task_at chart z)
    along (y ∷ ys) (suc from) zero h e = absurd (omega (arith, h))
    along (y ∷ ys) (suc from) (suc to) h e = let same : suc to - suc from ≡ to - from = omega arith in rw same (along ys from to (omega (arith, h)) e)

-- past the last code nothing is left
between-past : (chart : Chart) (from to : ℕ) (codes : List Code) → length codes ≤ from → between from to (tasks_at chart codes) ≡ []
between-past chart from to codes h =
    let count : length (tasks_at chart codes) ≤ from = omega (arith, h, length-map codes (task_at chart)) in
    ap (λ ts. take (to - from) ts) (drop_all from (tasks_at chart codes) count) ∙ take-nil (to - from)
  where
    take-nil : (n : ℕ) → take {A = Task} n [] ≡ []
    take-nil zero = refl
    take-nil (suc n) = refl

drop-next : (n : ℕ) (ts : List Task) → drop (suc n) ts ≡ drop 1 (drop n ts)
drop-next zero ts = refl
drop-next (suc n) [] = refl
drop-next (suc n) (t ∷ ts) = drop-next n ts

take-next : (n : ℕ) (ts : List Task) → take n (drop 1 ts) ≡ drop 1 (take (suc n) ts)
take-next zero [] = refl
take-next (suc n) [] = refl
take-next n (t ∷ ts) = refl

-- one place further
between-next : (from to : ℕ) (ts : List Task) → from < to → between (from + 1) to ts ≡ drop 1 (between from to ts)
between-next from to ts h =
    let count : to - from ≡ suc (to - suc from) = omega (arith, h) in
    rw (add-one, count) (ap (λ us. take (to - suc from) us) (drop-next from ts) ∙ take-next (to - suc from) (drop from ts))

pub next-none : (chart : Chart) (c : Compiled) (agenda : Agenda) → agenda.to ≤ agenda.from → None ≡ first_task (tasks_left_in chart c agenda)
unfolding tasks_left_in
next-none chart c agenda h = ap first_task (sym (between-none agenda.from agenda.to (tasks_at chart c.codes.items) h))

pub next-past : (chart : Chart) (c : Compiled) (agenda : Agenda) → slice_get c.codes.items agenda.from ≡ None → None ≡ first_task (tasks_left_in chart c agenda)
unfolding tasks_left_in
next-past chart c agenda h = ap first_task (sym (between-past chart agenda.from agenda.to c.codes.items (past c.codes.items agenda.from h)))
  where
    past : (codes : List Code) (i : ℕ) → slice_get codes i ≡ None → length codes ≤ i
    past [] i e = omega arith
    past (x ∷ xs) zero e = absurd (none-some x (sym e))
    past (x ∷ xs) (suc i) e = omega (arith, past xs i e)

pub next-some : (chart : Chart) (c : Compiled) (agenda : Agenda) (x : Code) (t : Task) → agenda.from < agenda.to → slice_get c.codes.items agenda.from ≡ Some x → t ≡ task_at chart x
    → Some t ≡ first_task (tasks_left_in chart c agenda)
unfolding tasks_left_in
next-some chart c agenda x t h e is = ap Some is ∙ sym (between-first chart agenda.from agenda.to c.codes.items x h e)

pub advance-one : (chart : Chart) (c : Compiled) (agenda : Agenda) → agenda.from < agenda.to
    → tasks_left_in chart c (record { from = agenda.from + 1; to = agenda.to }) ≡ drop 1 (tasks_left_in chart c agenda)
unfolding tasks_left_in
advance-one chart c agenda h = between-next agenda.from agenda.to (tasks_at chart c.codes.items) h

pub advance-none : (chart : Chart) (c : Compiled) (agenda : Agenda) → agenda.to ≤ agenda.from → tasks_left_in chart c agenda ≡ drop 1 (tasks_left_in chart c agenda)
unfolding tasks_left_in
advance-none chart c agenda h =
    let none = between-none agenda.from agenda.to (tasks_at chart c.codes.items) h in
    none ∙ ap (λ ts. drop 1 ts) (sym none)

module _ (chart : Chart) (names : Names) (sig : ℕ) where
  -- the choice at a place, and those behind it
  open-step : (choices : List Choice) (i : ℕ) (d : Choice) → i < length choices
      → first_open chart names sig (drop i choices)
      ≡ cond (is_open_at names sig (row_at chart (get_or choices i d).state (get_or choices i d).place)) (Some (get_or choices i d).plan) (first_open chart names sig (drop (i + 1) choices))
  unfolding first_open
  open-step choices i d h =
      let rest : drop i choices ≡ get_or choices i d ∷ drop (i + 1) choices = rw add-one (drop-cons choices i d h) in
      ap (λ xs. first_open chart names sig xs) rest

  pub open-here : (choices : List Choice) (i : ℕ) (d : Choice) (b : Bool) (whole : Option Plan) → i < length choices
      → b ≡ is_open_at names sig (row_at chart (get_or choices i d).state (get_or choices i d).place) → b ≡ true → first_open chart names sig (drop i choices) ≡ whole
      → Some (get_or choices i d).plan ≡ whole
  open-here choices i d b whole h e test k =
      sym (open-step choices i d h ∙ ap (λ t. cond t (Some (get_or choices i d).plan) (first_open chart names sig (drop (i + 1) choices))) (sym e ∙ test)) ∙ k

  pub open-later : (choices : List Choice) (i : ℕ) (d : Choice) (b : Bool) (whole : Option Plan) → i < length choices
      → b ≡ is_open_at names sig (row_at chart (get_or choices i d).state (get_or choices i d).place) → b ≡ false → first_open chart names sig (drop i choices) ≡ whole
      → first_open chart names sig (drop (i + 1) choices) ≡ whole
  open-later choices i d b whole h e test k =
      sym (open-step choices i d h ∙ ap (λ t. cond t (Some (get_or choices i d).plan) (first_open chart names sig (drop (i + 1) choices))) (sym e ∙ test)) ∙ k

  pub open-none : (choices : List Choice) (i : ℕ) (whole : Option Plan) → length choices ≤ i → first_open chart names sig (drop i choices) ≡ whole → None ≡ whole
  unfolding first_open
  open-none choices i whole h k = ap (λ xs. first_open chart names sig xs) (sym (drop_all i choices h)) ∙ k

  -- the row is open
  opens : Handler → Bool
  opens h = is_open names sig h.row

  -- the handler is the first open row of the path
  handler-from : (s k : ℕ) (rows : List Row) (rest : List Handler) → handler_at s (first_row names sig k rows) (find opens rest) ≡ find opens (rows_from s k rows ++ rest)
  unfolding first_row rows_from opens
  handler-from s k [] rest = refl
  handler-from s k (row ∷ rows) rest = by (handler-from s (k + 1) rows rest) (is_open names sig row)
    where
      by : handler_at s (first_row names sig (k + 1) rows) (find opens rest) ≡ find opens (rows_from s (k + 1) rows ++ rest) → (b : Bool) → handler_at s (cond b (Some (k, row)) (first_row names sig (k + 1) rows)) (find opens rest)
          ≡ cond b (Some (record { state = s; place = k; row = row })) (find opens (rows_from s (k + 1) rows ++ rest))
      by later true = refl
      by later false = later

  handler-on : (path : List ℕ) → handler_on chart names sig path ≡ find opens (rows_on chart path)
  unfolding handler_on rows_on
  handler-on [] = refl
  handler-on (s ∷ outer) =
      ap (λ o. handler_at s (first_row names sig 1 (rows_of (state_at chart s))) o) (handler-on outer) ∙ handler-from s 1 (rows_of (state_at chart s)) (rows_on chart outer)

  find-filter : (q : Handler → Bool) → ((h : Handler) → opens h ≡ true → q h ≡ true) → (hs : List Handler) → find opens (filter q hs) ≡ find opens hs
  find-filter q has [] = refl
  find-filter q has (h ∷ hs) = by (find-filter q has hs) (q h) (opens h) refl refl
    where
      by : find opens (filter q hs) ≡ find opens hs → (a b : Bool) → q h ≡ a → opens h ≡ b → find opens (cond a (h ∷ filter q hs) (filter q hs)) ≡ cond b (Some h) (find opens hs)
      by later true true e f = rw f refl
      by later true false e f = rw f later
      by later false true e f = absurd (false≢true (sym e ∙ has h f))
      by later false false e f = later

  -- an open row is for a signal that leaves the same rest
  open-rest : (width : ℕ) (h : Handler) → opens h ≡ true → leaves_rest width (sig % width) h ≡ true
  unfolding opens
  open-rest width h test =
      let first_task : (h.row.on == sig) ≡ true = left (h.row.on == sig) (passes names h.row.when) test in
      let same : h.row.on ≡ sig = grind (arith, nat_tests) in
      let rest : (h.row.on % width) ≡ (sig % width) = ap (λ n. n % width) same in
      grind (arith, nat_tests)
    where
      left : (a b : Bool) → (a && b) ≡ true → a ≡ true
      left true b e = refl
      left false b e = e

  -- the first open row and the plan of its choice
  abbrev Picks : List Task → ℕ → Option Handler → Option Plan → Type 0
  Picks ts leaf None None = Unit {0}
  Picks ts leaf None (Some plan) = ⊥
  Picks ts leaf (Some h) None = ⊥
  Picks ts leaf (Some h) (Some plan) = IsPlan ts (ended (handled chart leaf (Some h))) plan

  picked : (ts : List Task) (leaf : ℕ) (hs : List Handler) (xs : List Choice) → Corresponds (IsChoice chart ts leaf) hs xs → Picks ts leaf (find opens hs) (first_open chart names sig xs)
  unfolding Corresponds first_open opens
  picked ts leaf [] [] h = tt
  picked ts leaf [] (x ∷ xs) h = absurd h
  picked ts leaf (y ∷ ys) [] h = absurd h
  picked ts leaf (y ∷ ys) (x ∷ xs) h = subst (λ b. Picks ts leaf (find opens (y ∷ ys)) (cond b (Some x.plan) (first_open chart names sig xs))) (sym same) (by (picked ts leaf ys xs h.1) (is_open names sig y.row))
    where
      same : is_open_at names sig (row_at chart x.state x.place) ≡ is_open names sig y.row
      same = rw (h.0.state, h.0.place, h.0.row) refl

      by : Picks ts leaf (find opens ys) (first_open chart names sig xs) → (b : Bool) → Picks ts leaf (cond b (Some y) (find opens ys)) (cond b (Some x.plan) (first_open chart names sig xs))
      by later true = h.0.plan
      by later false = later

  none-open : first_open chart names sig [] ≡ None
  unfolding first_open
  none-open = refl

  -- a state that the chart hasn't got handles nothing
  handles-none : (leaf : ℕ) → state_at chart leaf ≡ None → handler_on chart names sig (leaf ∷ []) ≡ None
  unfolding handler_on first_row
  handles-none leaf none = ap (λ o. handler_at leaf (first_row names sig 1 (rows_of o)) None) none

  no-path : handler_on chart names sig [] ≡ None
  unfolding handler_on
  no-path = refl

  path-past : (n leaf : ℕ) → state_at chart leaf ≡ None → (path_of chart n (Some leaf) ≡ []) ⊎ (path_of chart n (Some leaf) ≡ leaf ∷ [])
  unfolding path_of parent_of
  path-past zero leaf none = inl refl
  path-past (suc n) leaf none = inr (ap (λ path. leaf ∷ path) (top-left chart n (parent_of chart leaf) (ap (λ o. option_and_then (λ x. x.parent) o) none)))

  handler-past : (leaf : ℕ) → length chart.state < leaf → handler chart names sig leaf ≡ None
  unfolding handler up state_at
  handler-past leaf h = by (path-past (length chart.state) leaf none)
    where
      none : state_at chart leaf ≡ None
      none = slice_get_past chart.state (leaf - 1) (omega (arith, h))

      by : (up chart leaf ≡ []) ⊎ (up chart leaf ≡ leaf ∷ []) → handler_on chart names sig (up chart leaf) ≡ None
      by (inl e) = ap (λ path. handler_on chart names sig path) e ∙ no-path
      by (inr e) = ap (λ path. handler_on chart names sig path) e ∙ handles-none leaf none

below-or : (i n : ℕ) → (i < n) ⊎ (n ≤ i)
below-or i zero = inr (omega arith)
below-or zero (suc n) = inl (omega arith)
below-or (suc i) (suc n) = by (below-or i n)
  where
    by : (i < n) ⊎ (n ≤ i) → (suc i < suc n) ⊎ (suc n ≤ suc i)
    by (inl below) = inl (omega (arith, below))
    by (inr past) = inr (omega (arith, past))

module _ (chart : Chart) (c : Compiled) (is : IsCompiled chart c) (leaf : ℕ) (names : Names) (sig : ℕ) where
  -- what is picked among the choices of a leaf
  step-picks : Picks chart names sig (tasks_at chart c.codes.items) leaf (handler chart names sig leaf) (first_open chart names sig (choices_in (classes_at c.leaves.items leaf) (sig % c.width)))
  unfolding handler
  step-picks = by (below-or leaf (length c.leaves.items))
    where
      ts : List Task
      ts = tasks_at chart c.codes.items

      rest : ℕ
      rest = sig % c.width

      by : (leaf < length c.leaves.items) ⊎ (length c.leaves.items ≤ leaf)
          → Picks chart names sig ts leaf (handler chart names sig leaf) (first_open chart names sig (choices_in (classes_at c.leaves.items leaf) rest))
      by (inl below) =
          let its = is.each leaf below in
          let small : rest < length (classes_at c.leaves.items leaf) = subst (λ n. rest < n) (sym its.whole) (mod-lt sig is.some) in
          let found = picked chart names sig ts leaf _ _ (its.each rest small) in
          subst (λ o. Picks chart names sig ts leaf o (first_open chart names sig (choices_in (classes_at c.leaves.items leaf) rest)))
          (find-filter chart names sig (leaves_rest c.width rest) (open-rest chart names sig c.width) (rows_on chart (up chart leaf)) ∙ sym (handler-on chart names sig (up chart leaf)))
          found
      by (inr past) =
          let none : classes_at c.leaves.items leaf ≡ [] = ap classes_of (slice_get_past c.leaves.items leaf past) in
          let away : handler chart names sig leaf ≡ None = handler-past chart names sig leaf (omega (arith, past, is.whole)) in
          let nothing : first_open chart names sig (choices_in (classes_at c.leaves.items leaf) rest) ≡ None =
          ap (λ classes. first_open chart names sig (choices_in classes rest)) none ∙ none-open chart names sig in
          subst (λ o. Picks chart names sig ts leaf o (first_open chart names sig (choices_in (classes_at c.leaves.items leaf) rest))) (sym away)
          (subst (λ o. Picks chart names sig ts leaf None o) (sym nothing) tt)

  pub step-some : (plan : Plan) (found : Option Plan) (choices : List Choice) → choices ≡ choices_in (classes_at c.leaves.items leaf) (sig % c.width)
      → found ≡ first_open chart names sig choices → found ≡ Some plan
      → (tasks_left_in chart c plan.agenda ≡ (step_plan chart leaf names sig).tasks) × (plan.leaf ≡ (step_plan chart leaf names sig).leaf)
  unfolding tasks_left_in step_plan
  step-some plan found choices e f some = by (handler chart names sig leaf) (subst (λ o. Picks chart names sig (tasks_at chart c.codes.items) leaf (handler chart names sig leaf) o) same step-picks)
    where
      same : first_open chart names sig (choices_in (classes_at c.leaves.items leaf) (sig % c.width)) ≡ Some plan
      same = ap (λ xs. first_open chart names sig xs) (sym e) ∙ sym f ∙ some

      by : (o : Option Handler) → Picks chart names sig (tasks_at chart c.codes.items) leaf o (Some plan)
          → (tasks_left_of (tasks_at chart c.codes.items) plan.agenda ≡ (ended (handled chart leaf o)).tasks) × (plan.leaf ≡ (ended (handled chart leaf o)).leaf)
      by None h = absurd h
      by (Some y) h = (h.tasks, h.leaf)

  pub step-none : (found : Option Plan) (choices : List Choice) → choices ≡ choices_in (classes_at c.leaves.items leaf) (sig % c.width)
      → found ≡ first_open chart names sig choices → found ≡ None
      → (tasks_left_in chart c c.unhandled ≡ (step_plan chart leaf names sig).tasks) × (leaf ≡ (step_plan chart leaf names sig).leaf)
  unfolding tasks_left_in step_plan handled
  step-none found choices e f none = by (handler chart names sig leaf) (subst (λ o. Picks chart names sig (tasks_at chart c.codes.items) leaf (handler chart names sig leaf) o) same step-picks)
    where
      same : first_open chart names sig (choices_in (classes_at c.leaves.items leaf) (sig % c.width)) ≡ None
      same = ap (λ xs. first_open chart names sig xs) (sym e) ∙ sym f ∙ none

      by : (o : Option Handler) → Picks chart names sig (tasks_at chart c.codes.items) leaf o None
          → (tasks_left_of (tasks_at chart c.codes.items) c.unhandled ≡ (ended (handled chart leaf o)).tasks) × (leaf ≡ (ended (handled chart leaf o)).leaf)
      by None h = (is.unhandled, refl)
      by (Some y) h = absurd h
