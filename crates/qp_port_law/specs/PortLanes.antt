-- The lanes of a run under `port`, sealed into a journal.
use Rattle.std.specs.Prelude.{◌≡◌, ℕ, List, [], ◌∷◌, ◌++◌, IsTrue}
use Rattle.qp_model.specs.declared.stimulus.Stim.{Stim}
use Rattle.qp_model.specs.declared.systems.System.{System}
use Rattle.qp_model.specs.declared.journals.Journal.{Journal}
use Rattle.qp_model.specs.Acts.{Config}
use Rattle.qp_model.specs.Kernels.{port}
use Rattle.qp_model.specs.Sound.{IsSound}
use Rattle.qp_model.specs.Ends.{quiet}
use Rattle.qp_model.specs.WordLaw.{is_object}
use Rattle.qp_calls.specs.LaneView.{LaneView}
use Rattle.qp_port_law.specs.QuietLaws.{IsLastLook}
use Rattle.qp_port_law.specs.Sealed.{SealsLanes}
use Rattle.qp_port_law.specs.Lanes.{AreAtRest, HaveNone, HomesAre, SourcesAre}

-- Nothing is left undone: the first lane saw every queue empty last, each object rests, and no other lane has anything in its hands.
pub record PortRests (sys : System) (first : LaneView) (homes sources : List LaneView) : Type 0 where
  pub looks : (a : ℕ) → IsTrue (is_object sys a) → IsLastLook (first ∷ homes ++ sources) a first
  pub keeps : ℕ → Config
  pub rests : AreAtRest sys keeps sys.objects homes
  pub none : first.hands ≡ []
  pub idle : HaveNone sources

-- The first lane has nothing, each object and each source has its own; where the end is quiet, nothing is left undone.
pub record ArePortLanes (sys : System) (stimuli : List (List Stim)) (budget : ℕ) (first : LaneView) (homes sources : List LaneView) (j : Journal) : Type 0 where
  pub sound : IsSound sys
  pub seals : SealsLanes sys port budget (first ∷ homes ++ sources) j
  pub empty : first.told ≡ []
  pub ends : HomesAre sys budget j.end sys.objects homes
  pub leave : SourcesAre sys port j.end stimuli sources
  pub rests : j.end ≡ quiet → PortRests sys first homes sources
