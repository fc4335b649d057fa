-- Journals with their summaries, whose systems have names.
use Rattle.std.specs.Prelude.{codes, ℕ, pos, negsuc, true, List, [], ◌∷◌, ◌++◌, decimal, Some, None}
use Rattle.qp_chart.specs.declared.checked.Chart.{Chart}
use Rattle.qp_chart.specs.declared.checked.State.{State}
use Rattle.qp_chart.specs.declared.checked.Row.{Row}
use Rattle.qp_model.specs.declared.systems.ObjectDef.{ObjectDef}
use Rattle.qp_model.specs.declared.systems.System.{System}
use Rattle.qp_model_rows.specs.Systems.{row, signal}

abbrev pub named : List ℕ → (List ℕ)
named bytes = bytes

abbrev pub named_state : List ℕ → List Row → State
named_state text rows = record { name = named text; parent = None; entry = []; exit = []; init = None; init_do = []; row = rows }

-- the lamp of the first example, with a variable that nothing changes
abbrev pub named_chart : Chart
named_chart = record {
  name = named (codes "lamp");
  init = 1;
  init_do = [];
  vars = (named (codes "a"), pos 7) ∷ (named (codes "b"), pos 0) ∷ [];
  timer = [];
  state = named_state (codes "off") (row 4 None [] (Some 2) ∷ []) ∷ named_state (codes "on") [] ∷ [];
}

abbrev pub named_lamp_object : ObjectDef
named_lamp_object = record {
  name = named (codes "lamp");
  chart = 1;
  priority = 1;
  threshold = 1;
  ring = 1;
  defer = 0;
  vars = pos 7 ∷ negsuc 2 ∷ [];
}

abbrev pub named_lamp : System
named_lamp = record {
  pools = record { size = 1; blocks = 2 } ∷ [];
  signals = signal 0 true ∷ [];
  charts = named_chart ∷ [];
  objects = named_lamp_object ∷ [];
  timers = [];
}

-- where it stands when it was switched on: `on a=7 b=-3`
abbrev pub switched_text : List ℕ
switched_text = codes "on a=" ++ (decimal 7 ++ (codes " b=-" ++ (decimal 3 ++ [])))

-- `end 0`, `object lamp 1 on a=7 b=-3` and `pool 1 given 0 back 0`
abbrev pub switched_summary : List (List ℕ)
switched_summary =
    (codes "end " ++ decimal 0 ++ codes "\n")
    ∷ (codes "object " ++ codes "lamp" ++ 32 ∷ decimal 1 ++ 32 ∷ switched_text ++ codes "\n")
    ∷ (codes "pool " ++ decimal 1 ++ codes " given " ++ decimal 0 ++ codes " back " ++ decimal 0 ++ codes "\n")
    ∷ []
