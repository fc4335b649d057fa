-- Paths of faults within a chart have at most six parts.
use Rattle.std.proofs.Common.{◌≡◌, ℕ, ◌+◌, ◌≤◌, Bool, true, false, List, [], ◌∷◌, ◌++◌, length, Some, None, sym, ap, arith}
use Rattle.std.specs.Bool.{⊤}
use Rattle.std.specs.declared.option.Option.{Option}
use Rattle.std.specs.Option.{option_or}
use Rattle.qp_chart_names.specs.declared.place.Part.{Part}
use Rattle.qp_chart_names.specs.declared.place.Part.TheVariants.{Key, Pos}
use Rattle.qp_chart_names.specs.declared.raw.Names.{Names}
use Rattle.qp_chart_names.specs.declared.raw.RawChart.{RawChart}
use Rattle.qp_chart_names.specs.declared.raw.RawTimer.{RawTimer}
use Rattle.qp_chart_names.specs.declared.raw.RawState.{RawState}
use Rattle.qp_chart_names.specs.declared.raw.RawRow.{RawRow}
use Rattle.qp_chart_names.specs.Faults.{Fault, fault, fault_if, first_of, first_in}
use Rattle.qp_chart_text.specs.Terms.{Term, Command}
use Rattle.qp_chart_names.specs.ActionFaults.{action_fault, guard_fault, text_fault, text_at, texts_fault, when_fault}
use Rattle.qp_chart.specs.Parents.{loop_at, depth_at, tree_fault}
use Rattle.qp_chart.specs.ChartFaults.{timer_fault, parent_at, init_fault, row_fault, row_fault_at, rows_fault, state_fault, frame_fault, body_fault, parts_fault, chart_fault, state_place, row_place}
use Rattle.qp_chart_names.specs.NameFaults.{undeclared, undeclared_key, double_at, double_fault, doubles_fault}

-- the path of the fault, if there is one, has at most six parts
abbrev pub Short : Option Fault → Type 0
Short None = ⊤
Short (Some f) = length f.path ≤ 6

short-or : (a b : Option Fault) → Short a → Short b → Short (option_or a b)
short-or None b ha hb = hb
short-or (Some f) b ha hb = ha

short-head : (o : Option Fault) (os : List (Option Fault)) → Short o → Short (first_of os) → Short (first_of (o ∷ os))
unfolding first_of
short-head o os ho hos = short-or o (first_of os) ho hos

short-end : Short (first_of [])
unfolding first_of
short-end = tt

short-if : (test : Bool) (code : ℕ) (path : List Part) → length path ≤ 6 → Short (fault_if test code path)
short-if true code path h = h
short-if false code path h = tt

short-in : {A : Type 0} (f : ℕ → A → Option Fault) (k : ℕ) (xs : List A) → ((n : ℕ) (x : A) → Short (f n x)) → Short (first_in f k xs)
unfolding first_in
short-in f k [] h = tt
short-in f k (x ∷ xs) h = short-or (f k x) (first_in f (k + 1) xs) (h k x) (short-in f (k + 1) xs h)

short-undeclared : (o : Option ℕ) (path : List Part) → length path ≤ 6 → Short (undeclared o path)
short-undeclared None path h = h
short-undeclared (Some n) path h = tt

short-key : (number : List ℕ → Option ℕ) (key : Option (List ℕ)) (path : List Part) → length path ≤ 6 → Short (undeclared_key number key path)
short-key number None path h = tt
short-key number (Some name) path h = short-undeclared (number name) path h

short-action : (names : Names) (chart : RawChart) (inside : Option ℕ) (place : List Part) (c : Option Command) → length place ≤ 6 → Short (action_fault names chart inside place c)
unfolding action_fault
short-action names chart inside place None h = h
short-action names chart inside place (Some c) h =
    short-head _ _ (short-if _ _ place h) (short-head _ _ (short-if _ _ place h) (short-head _ _ (short-if _ _ place h) short-end))

short-guard : (chart : RawChart) (params : ℕ) (place : List Part) (t : Option Term) → length place ≤ 6 → Short (guard_fault chart params place t)
unfolding guard_fault
short-guard chart params place None h = h
short-guard chart params place (Some t) h = short-head _ _ (short-if _ _ place h) (short-head _ _ (short-if _ _ place h) short-end)

short-when : (chart : RawChart) (params : ℕ) (place : List Part) (t : Option (List ℕ)) → length place ≤ 6 → Short (when_fault chart params place t)
unfolding when_fault
short-when chart params place None h = tt
short-when chart params place (Some text) h = short-guard chart params place _ h

short-texts : (names : Names) (chart : RawChart) (inside : Option ℕ) (at : List Part) (list : ℕ) (texts : List (List ℕ)) → ((n : ℕ) → length (at ++ Key list ∷ Pos n ∷ []) ≤ 6)
    → Short (texts_fault names chart inside at list texts)
unfolding texts_fault text_at text_fault
short-texts names chart inside at list texts h =
    short-in (λ n text. text_fault names chart inside (at ++ Key list ∷ Pos n ∷ []) text) 1 texts (λ n text. short-action names chart inside (at ++ Key list ∷ Pos n ∷ []) _ (h n))

short-double : (list : ℕ) (names : List (List ℕ)) → Short (double_fault list names)
unfolding double_fault double_at
short-double list names = short-in (double_at list names) 1 names (λ n x. short-if _ _ _ (omega arith))

short-timer : (names : Names) (k : ℕ) (t : RawTimer) → Short (timer_fault names k t)
unfolding timer_fault
short-timer names k t = short-head _ _ (short-undeclared _ _ (omega arith)) (short-head _ _ (short-if _ _ _ (omega arith)) short-end)

short-parent : (chart : RawChart) (k : ℕ) (s : RawState) → Short (parent_at chart k s)
unfolding parent_at
short-parent chart k s = short-key _ s.parent _ (omega arith)

short-tree : (parents : List (Option ℕ)) → Short (tree_fault parents)
unfolding tree_fault loop_at depth_at
short-tree parents =
    short-head _ _ (short-in (loop_at parents) 1 parents (λ k p. short-if _ _ _ (omega arith)))
    (short-head _ _ (short-in (depth_at parents) 1 parents (λ k p. short-if _ _ _ (omega arith))) short-end)

short-init : (chart : RawChart) (k : ℕ) (init : Option (List ℕ)) → Short (init_fault chart k init)
unfolding init_fault
short-init chart k None = tt
short-init chart k (Some name) = short-head _ _ (short-undeclared _ _ (omega arith)) (short-head _ _ (short-if _ _ _ (omega arith)) short-end)

short-row : (names : Names) (chart : RawChart) (k j : ℕ) (earlier : List RawRow) (row : RawRow) → Short (row_fault names chart (row_place k j) earlier row)
unfolding row_fault
short-row names chart k j earlier row =
    short-head _ _ (short-undeclared _ _ (omega arith))
    (short-head _ _ (short-if _ _ _ (omega arith))
    (short-head _ _ (short-when chart _ _ row.when (omega arith))
    (short-head _ _ (short-texts names chart _ (row_place k j) _ row.acts (λ n. omega arith))
    (short-head _ _ (short-key _ row.to _ (omega arith)) short-end))))

short-rows : (names : Names) (chart : RawChart) (k : ℕ) (rows : List RawRow) → Short (rows_fault names chart k rows)
unfolding rows_fault row_fault_at
short-rows names chart k rows = short-in (row_fault_at names chart k rows) 1 rows (λ j row. short-row names chart k j _ row)

short-state : (names : Names) (chart : RawChart) (k : ℕ) (s : RawState) → Short (state_fault names chart k s)
unfolding state_fault
short-state names chart k s =
    short-head _ _ (short-texts names chart None (state_place k) _ s.entry (λ n. omega arith))
    (short-head _ _ (short-texts names chart None (state_place k) _ s.exit (λ n. omega arith))
    (short-head _ _ (short-init chart k s.init)
    (short-head _ _ (short-texts names chart None (state_place k) _ s.init_do (λ n. omega arith))
    (short-head _ _ (short-rows names chart k s.row) short-end))))

short-frame : (names : Names) (chart : RawChart) → Short (frame_fault names chart)
unfolding frame_fault
short-frame names chart =
    short-head _ _ (short-in (timer_fault names) 1 chart.timer (short-timer names))
    (short-head _ _ (short-in (parent_at chart) 1 chart.state (short-parent chart))
    (short-head _ _ (short-tree _) short-end))

short-doubles : (chart : RawChart) → Short (doubles_fault chart)
unfolding doubles_fault
short-doubles chart = short-head _ _ (short-double _ _) (short-head _ _ (short-double _ _) short-end)

short-body : (names : Names) (chart : RawChart) → Short (body_fault names chart)
unfolding body_fault
short-body names chart =
    short-head _ _ (short-undeclared _ _ (omega arith))
    (short-head _ _ (short-texts names chart None [] _ chart.init_do (λ n. omega arith))
    (short-head _ _ (short-in (state_fault names chart) 1 chart.state (short-state names chart)) short-end))

short-parts : (names : Names) (chart : RawChart) → Short (parts_fault names chart)
unfolding parts_fault
short-parts names chart =
    short-head _ _ (short-frame names chart)
    (short-head _ _ (short-body names chart) short-end)

pub short-chart : (names : Names) (chart : RawChart) → Short (chart_fault names chart)
unfolding chart_fault
short-chart names chart =
    short-head _ _ (short-doubles chart)
    (short-head _ _ (short-parts names chart) short-end)

-- the path of a fault that was found
pub short-found : (o : Option Fault) (code : ℕ) (path : List Part) → Short o → o ≡ fault code path → length path ≤ 6
short-found None code path h e = cc
short-found (Some f) code path h e = let same : f ≡ record { code = code; path = path } = cc in rw (sym (ap (λ (g : Fault). length g.path) same)) h
