-- The systems and stimuli of the journals.
use Rattle.std.specs.Prelude.{ℕ, Bool, true, false, List, [], ◌∷◌, pos, Some, None}
use Rattle.std.specs.declared.option.Option.{Option}
use Rattle.qp_chart.specs.declared.checked.Chart.{Chart}
use Rattle.qp_chart.specs.declared.checked.State.{State}
use Rattle.qp_chart.specs.declared.checked.Row.{Row}
use Rattle.qp_chart.specs.declared.checked.Timer.{Timer}
use Rattle.qp_chart.specs.declared.actions.Act.{Act}
use Rattle.qp_chart.specs.declared.actions.Act.TheVariants as act
use Rattle.qp_chart.specs.declared.actions.Plain.{Plain}
use Rattle.qp_chart.specs.declared.actions.Plain.TheVariants as action
use Rattle.qp_chart.specs.declared.actions.Target.TheVariants as target
use Rattle.qp_chart.specs.declared.expression.Bound.{Bound}
use Rattle.qp_chart.specs.Tree.{Num, Ok}
use Rattle.qp_model.specs.declared.systems.SignalDef.{SignalDef}
use Rattle.qp_model.specs.declared.systems.ObjectDef.{ObjectDef}
use Rattle.qp_model.specs.declared.systems.TimerDef.{TimerDef}
use Rattle.qp_model.specs.declared.systems.System.{System}
use Rattle.qp_model.specs.declared.stimulus.Stim.{Stim}
use Rattle.qp_model.specs.declared.stimulus.Stim.TheVariants as stim

-- names say nothing here
abbrev pub unnamed : (List ℕ)
unnamed = []

-- a signal by its count of parameters, and whether it is static
abbrev pub signal : ℕ → Bool → SignalDef
signal n fixed = record { name = unnamed; params = n; fixed = fixed }

-- an object by its chart, its priority, its threshold and the length of its ring
abbrev pub object : ℕ → ℕ → ℕ → ℕ → ObjectDef
object chart priority threshold ring = record { name = unnamed; chart = chart; priority = priority; threshold = threshold; ring = ring; defer = 0; vars = [] }

-- a state by its parent and its rows
abbrev pub state : Option ℕ → List Row → State
state parent rows = record { name = unnamed; parent = parent; entry = []; exit = []; init = None; init_do = []; row = rows }

-- a chart by its initial state, its initial actions, its timers and its states
abbrev pub chart : ℕ → List Act → List Timer → List State → Chart
chart init init_do timers states = record { name = unnamed; init = init; init_do = init_do; vars = []; timer = timers; state = states }

-- a row by its signal, its guard, its actions and its target
abbrev pub row : ℕ → Option Bound → List Act → Option ℕ → Row
row on when acts to = record { on = on; when = when; acts = acts; to = to }

-- one state with these rows
abbrev pub one_state : List Act → List Timer → List Row → Chart
one_state init_do timers rows = chart 1 init_do timers (state None rows ∷ [])

abbrev pub number : ℕ → Bound
number n = Num (pos n)

-- a lamp goes from its state `off` to `on` on signal 4
abbrev pub lamp : System
lamp = record {
  pools = [];
  signals = signal 0 true ∷ [];
  charts = chart 1 [] [] (state None (row 4 None [] (Some 2) ∷ []) ∷ state None [] ∷ []) ∷ [];
  objects = object 1 1 1 1 ∷ [];
  timers = [];
}

-- signals GO (static), N (one parameter), X, TA and TB (static): 4 to 8
abbrev pub five_signals : List SignalDef
five_signals = signal 0 true ∷ signal 1 false ∷ signal 0 true ∷ signal 0 true ∷ signal 0 true ∷ []

-- one object of a chart with a ring of this length, and a pool of two blocks
abbrev pub one : ℕ → Chart → List TimerDef → System
one ring chart timers = record {
  pools = record { size = 1; blocks = 2 } ∷ [];
  signals = five_signals;
  charts = chart ∷ [];
  objects = object 1 1 1 ring ∷ [];
  timers = timers;
}

abbrev pub post_with_margin : ℕ → Act
post_with_margin v = act.Plain (action.Post target.Me 5 (number v ∷ []) (Some 1) None)

-- on GO it posts itself two events, each only where an entry more is free
abbrev pub careful : System
careful = one 1 (one_state [] [] (row 4 None (post_with_margin 5 ∷ post_with_margin 6 ∷ act.Plain (action.Say Ok) ∷ []) None ∷ [])) []

abbrev pub post_x : ℕ → Plain
post_x o = action.Post (target.Object o) 6 [] None None

-- on GO the lowest object posts X to the highest, and then, locked at 3, to both others
abbrev pub low_chart : Chart
low_chart = one_state [] [] (row 4 None
    (act.Plain (post_x 4) ∷ act.Locked 3 (post_x 3 ∷ post_x 4 ∷ action.Say (number 1) ∷ []) ∷ act.Plain (action.Say (number 2)) ∷ []) None ∷ [])

-- objects of priorities 1, 3 and 4; the lowest with this threshold, the highest with this chart
abbrev pub three_levels : ℕ → Chart → System
three_levels threshold top = record {
  pools = record { size = 1; blocks = 2 } ∷ [];
  signals = five_signals;
  charts = low_chart ∷ one_state [] [] [] ∷ top ∷ [];
  objects = object 1 1 threshold 1 ∷ object 2 3 3 1 ∷ object 3 4 4 1 ∷ [];
  timers = [];
}

-- the others handle no event
abbrev pub levels : ℕ → System
levels threshold = three_levels threshold (one_state [] [] [])

-- a static event for object 1
abbrev pub send : ℕ → Stim
send sig = stim.Post 1 (record { sig = sig; pars = record { items = [] } }) None None

abbrev pub nothing : List (List Stim)
nothing = []

-- one source, which posts GO
abbrev pub go_once : List (List Stim)
go_once = (send 4 ∷ []) ∷ []

abbrev pub go_twice : List (List Stim)
go_twice = (send 4 ∷ send 4 ∷ []) ∷ []
