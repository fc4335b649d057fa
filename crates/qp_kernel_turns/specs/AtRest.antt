-- Where objects rest when a run stops.
use Rattle.std.specs.Prelude.{◌≡◌, false, List, Some}
use Rattle.qp_chart.specs.StateTree.{has}
use Rattle.qp_chart.specs.declared.checked.Chart.{Chart}
use Rattle.qp_model.specs.declared.systems.System.{System}
use Rattle.qp_model.specs.declared.systems.ObjectDef.{ObjectDef}
use Rattle.qp_model.specs.Course.{chart_at}
use Rattle.qp_model.specs.OutputSummary.{CourseLeaves}
use Rattle.qp_model.specs.Sites.{object_at}
use Rattle.qp_model.specs.Told.{ToldItem}
use Rattle.qp_dispatch.specs.Lasts.{config_of}
use Rattle.qp_dispatch.specs.declared.objects.Turn.{Turn}
use Rattle.qp_dispatch.specs.declared.objects.Turn.TheVariants as turn
use Rattle.qp_kernel.specs.ZeroEnds.{own_told}
use Rattle.qp_kernel_turns.specs.declared.halting.Halt.{Halt}
use Rattle.qp_kernel_turns.specs.declared.halting.Halt.TheVariants as halt
use Rattle.qp_kernel_turns.specs.declared.objects.Objects.{Objects}
use Rattle.qp_kernel_turns.specs.declared.objects.Slot.{Slot}
use Rattle.qp_kernel_turns.specs.Objects.{IsAt}
use Rattle.qp_kernel_turns.specs.Turning.{Stand}

-- the object stands at its priority, and the course of its records leaves what it has
pub record RestsAt (sys : System) (d : ObjectDef) (chart : Chart) (xs : Objects) (told : List ToldItem) : Type 0 where
  pub slot : Slot
  pub there : IsAt xs d.priority slot
  pub leaves : CourseLeaves sys d chart (own_told d.priority told) (config_of slot.object.lasting)

-- so do all objects whose steps aren't under way
abbrev pub OthersRest : System → Stand → Type 0
OthersRest sys s =
    (d : ObjectDef) (chart : Chart) → object_at sys d.priority ≡ Some d → chart_at sys d.chart ≡ Some chart → has s.stack d.priority ≡ false
    → RestsAt sys d chart s.objects s.lane.told

-- where the run stops
abbrev pub HaltsAtRest : System → Stand → Halt → Type 0
HaltsAtRest sys s halt.Stopped = OthersRest sys s
HaltsAtRest sys s halt.Memory = Unit {0}

abbrev pub StopsAtRest : System → Stand → Turn → Type 0
StopsAtRest sys s turn.Stopped = OthersRest sys s
StopsAtRest sys s turn.Idle = Unit {0}
StopsAtRest sys s turn.Memory = Unit {0}
