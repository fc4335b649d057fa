-- What a system has so that the course of one of its objects can be followed.
use Rattle.std.specs.Prelude.{◌≡◌, true, [], ◌∷◌, Some}
use Rattle.qp_chart.specs.declared.checked.Chart.{Chart}
use Rattle.qp_model.specs.declared.systems.System.{System}
use Rattle.qp_model.specs.declared.systems.ObjectDef.{ObjectDef}
use Rattle.qp_model.specs.Able.{chart_able}
use Rattle.qp_model.specs.Course.{chart_at}

-- a system whose one pool has room for eight parameters, and in which no signal is static
abbrev pub with_eight : System
with_eight = record { pools = record { size = 8; blocks = 1 } ∷ []; signals = []; charts = []; objects = []; timers = [] }

-- the object has its chart, whose actions have what they ask for, and make events of at most eight parameters
pub record IsFollowable (sys : System) (d : ObjectDef) : Type 0 where
  pub its : Chart
  pub is_its : chart_at sys d.chart ≡ Some its
  pub able : chart_able sys its ≡ true
  pub few : chart_able with_eight its ≡ true
