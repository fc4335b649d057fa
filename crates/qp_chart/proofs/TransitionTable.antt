-- The table of transitions: a contains b, b contains c, and so on to f; a contains g, which contains h; k stands at the top.
use Rattle.std.specs.Prelude.{◌≡◌, refl, ℕ, List, [], ◌∷◌, Some, None}
use Rattle.std.specs.declared.option.Option.{Option}
use Rattle.qp_chart.specs.declared.checked.State.{State}
use Rattle.qp_chart.specs.declared.checked.Chart.{Chart}
use Rattle.qp_chart.specs.Task.{Task, Exit, Enter, Init}
use Rattle.qp_chart.specs.Agenda.{transition}

abbrev anonymous : (List ℕ)
anonymous = []

-- a state without actions and rows
abbrev state : Option ℕ → Option ℕ → State
state parent init = record { name = anonymous; parent = parent; entry = []; exit = []; init = init; init_do = []; row = [] }

-- a to h are 1 to 8, and k is 9; b has an initial transition to e
abbrev tree : Chart
tree = record {
  name = anonymous;
  init = 6;
  init_do = [];
  vars = [];
  timer = [];
  state =
      state None None ∷ state (Some 1) (Some 5) ∷ state (Some 2) None ∷ state (Some 3) None ∷ state (Some 4) None
      ∷ state (Some 5) None ∷ state (Some 1) None ∷ state (Some 7) None ∷ state None None ∷ [];
}

-- where a transition from the leaf f leads
abbrev Leads : ℕ → ℕ → List Task → ℕ → Type 0
Leads s t tasks leaf = transition tree 6 s t ≡ record { tasks = tasks; leaf = leaf }

f_to_f : Leads 6 6 (Exit 6 ∷ Enter 6 ∷ []) 6
unfolding transition
f_to_f = refl

c_to_c : Leads 3 3 (Exit 6 ∷ Exit 5 ∷ Exit 4 ∷ Exit 3 ∷ Enter 3 ∷ []) 3
unfolding transition
c_to_c = refl

c_to_d : Leads 3 4 (Exit 6 ∷ Exit 5 ∷ Exit 4 ∷ Enter 4 ∷ []) 4
unfolding transition
c_to_d = refl

c_to_f : Leads 3 6 (Exit 6 ∷ Exit 5 ∷ Exit 4 ∷ Enter 4 ∷ Enter 5 ∷ Enter 6 ∷ []) 6
unfolding transition
c_to_f = refl

f_to_e : Leads 6 5 (Exit 6 ∷ []) 5
unfolding transition
f_to_e = refl

e_to_b : Leads 5 2 (Exit 6 ∷ Exit 5 ∷ Exit 4 ∷ Exit 3 ∷ Init 2 ∷ Enter 3 ∷ Enter 4 ∷ Enter 5 ∷ []) 5
unfolding transition
e_to_b = refl

b_to_g : Leads 2 7 (Exit 6 ∷ Exit 5 ∷ Exit 4 ∷ Exit 3 ∷ Exit 2 ∷ Enter 7 ∷ []) 7
unfolding transition
b_to_g = refl

d_to_h : Leads 4 8 (Exit 6 ∷ Exit 5 ∷ Exit 4 ∷ Exit 3 ∷ Exit 2 ∷ Enter 7 ∷ Enter 8 ∷ []) 8
unfolding transition
d_to_h = refl

f_to_k : Leads 6 9 (Exit 6 ∷ Exit 5 ∷ Exit 4 ∷ Exit 3 ∷ Exit 2 ∷ Exit 1 ∷ Enter 9 ∷ []) 9
unfolding transition
f_to_k = refl

a_to_a : Leads 1 1 (Exit 6 ∷ Exit 5 ∷ Exit 4 ∷ Exit 3 ∷ Exit 2 ∷ Exit 1 ∷ Enter 1 ∷ []) 1
unfolding transition
a_to_a = refl
