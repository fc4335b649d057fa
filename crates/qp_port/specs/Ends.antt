-- The lanes of a run that has ended.
use Rattle.std.specs.Prelude.{◌≡◌, ℕ, Bool, true, List, [], ◌∷◌, ◌++◌}
use Rattle.qp_model.specs.declared.stimulus.Stim.{Stim}
use Rattle.qp_model.specs.declared.systems.System.{System}
use Rattle.qp_model.specs.Ends.{may_cut, quiet}
use Rattle.qp_model.specs.Kernels.{port}
use Rattle.qp_calls.specs.LaneView.{LaneView}
use Rattle.qp_kernel_end.specs.declared.rest.Rest.{Rest}
use Rattle.qp_port_law.specs.Lanes.{HomesAre, SourcesAre}
use Rattle.qp_port_law.specs.PortLanes.{PortRests}
use Rattle.qp_port_law.specs.Rests.{AreTold}
use Rattle.qp_port_law.specs.StartsFirst.{HomesStartFirst}

-- those of objects and sources, for each end of a run that stopped early
pub record MayEndEarly (sys : System) (stimuli : List (List Stim)) (budget : ℕ) (homes sources : List LaneView) : Type 0 where
  pub homes_end : (end : ℕ) → may_cut end ≡ true → HomesAre sys budget end sys.objects homes
  pub sources_end : (end : ℕ) → may_cut end ≡ true → SourcesAre sys port end stimuli sources

-- nothing was left to be done
pub record MayEndQuietly (sys : System) (stimuli : List (List Stim)) (budget : ℕ) (first : LaneView) (homes sources : List LaneView) : Type 0 where
  pub homes_end : HomesAre sys budget quiet sys.objects homes
  pub sources_end : SourcesAre sys port quiet stimuli sources
  pub rests : PortRests sys first homes sources

-- The lanes of such a run; where it tells that nothing was left, nothing was. The rests are of objects in these lanes.
pub record HasRun (sys : System) (stimuli : List (List Stim)) (budget : ℕ) (done : Bool) (rests : List Rest) (vs : List LaneView) : Type 0 where
  pub first : LaneView
  pub homes : List LaneView
  pub sources : List LaneView
  pub are : vs ≡ first ∷ homes ++ sources
  pub empty : first.told ≡ []
  pub early : MayEndEarly sys stimuli budget homes sources
  pub quietly : done ≡ true → MayEndQuietly sys stimuli budget first homes sources
  pub told : AreTold sys rests sys.objects homes
  pub starts : HomesStartFirst homes sources
