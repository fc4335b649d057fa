-- Runs of schedules.
use Rattle.std.specs.Prelude.{◌≡◌, ℕ, ◌<◌, true, false, List, [], ◌∷◌, take, slice_get, slice_index, cond, Some, Ok, Err, IsTrue, ⊤}
use Rattle.std.specs.declared.result.Result.{Result}
use Rattle.qp_model.specs.declared.systems.System.{System}
use Rattle.qp_model.specs.WordLaw.{is_object}
use Rattle.qp_table.specs.Counting.{Each, many}
use Rattle.qp_table.specs.Rule.{cell_at, is_serve, Shows}
use Rattle.qp_table.specs.declared.view.Serve.{Serve}
use Rattle.qp_table.specs.QueueLaws.{cells_of}
use Rattle.qp_table.specs.Whole.{first_now}
use Rattle.qp_table.specs.First.{IsFreshServe}
use Rattle.qp_core.specs.State.{bare_seat, may_apply, Applies}
use Rattle.qp_core.specs.Standing.{TableHolds}
use Rattle.qp_core_steps.specs.declared.seats.Seat.{Seat}
use Rattle.qp_core.specs.declared.state.CoreState.{CoreState}
use Rattle.qp_core.specs.declared.runs.CoreFault.{CoreFault}
use Rattle.qp_core.specs.declared.runs.CoreFault.TheVariants as fault
use Rattle.qp_core_steps.specs.declared.ops.Op.{Op}

-- the rule of the event table holds of the state
abbrev pub HoldsOf : CoreState → Type 0
HoldsOf s = TableHolds s.sys.now s.lanes s.words s.seats

-- seat 0, which alone stands at first
abbrev pub first_seat : List Serve → Seat
first_seat xs = record (bare_seat 0 true) { logs = record { number = 0; recs = [] } ∷ []; serves = xs }

-- the first state: all blocks are free, all queues are empty, and seat 0 serves every object
pub record IsFirstState (sys : System) (lanes : ℕ) (s : CoreState) : Type 0 where
  pub sys_is : s.sys.now ≡ sys
  pub lanes_is : s.lanes ≡ lanes
  pub shows : Shows sys s.words (first_now sys)
  pub cells : (a j : ℕ) → IsTrue (is_object sys a) → j < cells_of sys a → slice_index s.words (cell_at a j) ≡ 0
  pub serves : List Serve
  pub seat : s.seats ≡ first_seat serves ∷ []
  pub all_objects : (a : ℕ) → many (is_serve a) serves ≡ cond (is_object sys a) 1 0
  pub fresh : Each IsFreshServe serves

-- the steps lead from the one state to the other, each of them allowed where it is made
abbrev pub CoreRuns : CoreState → List (ℕ × Op) → CoreState → Type 0
CoreRuns s [] t = t ≡ s
CoreRuns s ((n, o) ∷ rest) t = (u : CoreState) × (may_apply s n o ≡ true) × Applies s n o u × CoreRuns u rest t

-- they lead there from the first state, and the rule holds there
abbrev pub LeadsTo : System → ℕ → List (ℕ × Op) → CoreState → Type 0
LeadsTo sys lanes steps t = (s : CoreState) × IsFirstState sys lanes s × CoreRuns s steps t × HoldsOf t

-- the step at this place, behind those that were made
abbrev pub RefusesStep : System → ℕ → List (ℕ × Op) → ℕ → Type 0
RefusesStep sys lanes steps place = (t : CoreState) × (n : ℕ) × (o : Op) × LeadsTo sys lanes (take place steps) t × (slice_get steps place ≡ Some (n, o)) × (may_apply t n o ≡ false)

-- a run ends in a state with the rule, or names its first step that isn't allowed
abbrev pub EndsAs : System → ℕ → List (ℕ × Op) → Result CoreState CoreFault → Type 0
EndsAs sys lanes steps (Ok t) = LeadsTo sys lanes steps t
EndsAs sys lanes steps (Err (fault.NotAllowed place)) = RefusesStep sys lanes steps place
EndsAs sys lanes steps (Err fault.Memory) = ⊤
