-- The lanes that objects have for themselves, where they rest.
use Rattle.std.specs.Prelude.{◌≡◌, ℕ, ◌+◌, List, [], ◌∷◌, Some, ⊤}
use Rattle.qp_chart.specs.declared.checked.Chart.{Chart}
use Rattle.qp_model.specs.declared.systems.System.{System}
use Rattle.qp_model.specs.declared.systems.ObjectDef.{ObjectDef}
use Rattle.qp_model.specs.declared.journals.Journal.{Journal}
use Rattle.qp_model.specs.declared.bodies.Entry.{Entry}
use Rattle.qp_model.specs.Told.{ToldItem}
use Rattle.qp_model.specs.History.{lane_items}
use Rattle.qp_model.specs.Home.{lane_at}
use Rattle.qp_model.specs.Knowing.{told_lane}
use Rattle.qp_model.specs.Pieces.{Piece, records_in}
use Rattle.qp_model.specs.Acts.{Config}
use Rattle.qp_model.specs.Course.{actor, first_config, chart_at}
use Rattle.qp_model.specs.Lawful.{facts_of, dispatched}
use Rattle.qp_kernel.specs.Stages as stage
use Rattle.qp_kernel.specs.Stages.{ComesTo}
use Rattle.qp_kernel.specs.ZeroEnds.{own_told}

-- by the records of its lane the object rests so
pub record RestsWith (sys : System) (d : ObjectDef) (c : Config) (told : List ToldItem) : Type 0 where
  pub ps : List Piece
  pub bare_is : records_in ps ≡ dispatched (own_told d.priority told)
  pub es : List Entry
  pub comes : (chart : Chart) → chart_at sys d.chart ≡ Some chart → ComesTo sys (actor d chart) (first_config d) es ps (stage.Resting c)

-- these objects rest so, by their lanes from lane n on
unfoldable pub HomesRest : System → Journal → (ℕ → Config) → ℕ → List ObjectDef → Type 0
unfolding facts_of lane_items told_lane
HomesRest sys j keeps n [] = ⊤
HomesRest sys j keeps n (d ∷ ds) = RestsWith sys d (keeps d.priority) (told_lane (facts_of sys j) 0 (lane_items (lane_at j n))) × HomesRest sys j keeps (n + 1) ds
