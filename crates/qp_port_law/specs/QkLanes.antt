-- The lanes of a run under `qk`, sealed into a journal.
use Rattle.std.specs.Prelude.{◌≡◌, ℕ, ◌+◌, ◌≤◌, Bool, List, ◌∷◌, IsTrue, Some}
use Rattle.qp_model.specs.declared.stimulus.Stim.{Stim}
use Rattle.qp_model.specs.declared.systems.System.{System}
use Rattle.qp_model.specs.declared.systems.ObjectDef.{ObjectDef}
use Rattle.qp_model.specs.declared.journals.Journal.{Journal}
use Rattle.qp_model.specs.Acts.{Config}
use Rattle.qp_model.specs.Kernels.{qk}
use Rattle.qp_model.specs.Sites.{object_at}
use Rattle.qp_model.specs.Sound.{IsSound}
use Rattle.qp_model.specs.Ends.{quiet}
use Rattle.qp_model.specs.WordLaw.{is_object}
use Rattle.qp_calls.specs.Counting.{count_of}
use Rattle.qp_calls.specs.Deferring.{tokens_in}
use Rattle.qp_calls.specs.LaneView.{LaneView}
use Rattle.qp_calls.specs.Tokens.{Token}
use Rattle.qp_kernel.specs.Laws.{kept_by}
use Rattle.qp_kernel.specs.Stages as stage
use Rattle.qp_kernel.specs.Turning.{KernelState, Stands, under_qk}
use Rattle.qp_kernel.specs.ZeroEnds.{ZeroEnds}
use Rattle.qp_port_law.specs.QuietLaws.{IsLastLook}
use Rattle.qp_port_law.specs.Sealed.{SealsLanes}
use Rattle.qp_port_law.specs.Lanes.{HaveNone, SourcesAre, settles_in}

-- Nothing is left undone: lane 0 saw every queue empty last, each object rests, and lane 0 has just their deferred entries in its hands.
pub record QkRests (sys : System) (budget : ℕ) (first : LaneView) (sources : List LaneView) : Type 0 where
  pub looks : (a : ℕ) → IsTrue (is_object sys a) → IsLastLook (first ∷ sources) a first
  pub state : KernelState
  pub told : first.told ≡ state.told
  pub stands : Stands sys (under_qk budget) state
  pub owed : state.owed ≡ 0
  pub keeps : ℕ → Config
  pub rest : (d : ObjectDef) → object_at sys d.priority ≡ Some d → state.stages d.priority ≡ stage.Resting (keeps d.priority)
  pub hands : (t : Token) → count_of t first.hands ≡ count_of t (tokens_in (kept_by keeps sys.objects))
  pub idle : HaveNone sources

-- Lane 0 is the kernel's, with no more rows at the base without a step than it may have, whichever looks it is read with; each source has its own
-- lane; where the end is quiet, nothing is left undone.
pub record AreQkLanes (sys : System) (stimuli : List (List Stim)) (budget : ℕ) (first : LaneView) (sources : List LaneView) (j : Journal) : Type 0 where
  pub sound : IsSound sys
  pub seals : SealsLanes sys qk budget (first ∷ sources) j
  pub most : ℕ
  pub now : ℕ → Bool
  pub zero : ZeroEnds sys qk budget j.end most first.told now
  pub rows : most ≤ settles_in (first ∷ sources) + 1
  pub leave : SourcesAre sys qk j.end stimuli sources
  pub rests : j.end ≡ quiet → QkRests sys budget first sources
