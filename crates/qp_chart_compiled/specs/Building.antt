-- What is added while a chart is compiled.
use Rattle.std.specs.Prelude.{◌≡◌, ℕ, suc, List, ◌++◌, length}
use Rattle.qp_chart.specs.declared.checked.Chart.{Chart}
use Rattle.qp_chart_names.specs.Pairs.{Corresponds}
use Rattle.qp_chart.specs.Handler.{Handler}
use Rattle.qp_chart.specs.Task.{Task}
use Rattle.qp_chart.specs.Drill as drill
use Rattle.qp_chart_compiled.specs.Compiled.{IsPlan, IsChoice, IsLeaf, AreLeaves}
use Rattle.qp_chart_compiled.specs.declared.agenda.Plan.{Plan}
use Rattle.qp_chart_compiled.specs.declared.choice.Choice.{Choice}
use Rattle.qp_chart_compiled.specs.declared.choice.Choices.{Choices}
use Rattle.qp_chart_compiled.specs.declared.choice.Leaf.{Leaf}

-- tasks stand behind the old ones
abbrev pub AppendsTasks : List Task → List Task → Type 0
AppendsTasks old new = (more : List Task) × (new ≡ old ++ more)

-- a plan more stands behind the old tasks
pub record Places (whole : drill.Plan) (old new : List Task) (plan : Plan) : Type 0 where
  pub more : AppendsTasks old new
  pub placed : IsPlan new whole plan

-- these rows stand behind the old choices
pub record Offers (chart : Chart) (leaf : ℕ) (rows : List Handler) (old new : List Task) (before after : List Choice) : Type 0 where
  pub more : AppendsTasks old new
  pub choices : (hs : List Handler) → Corresponds (IsChoice chart old leaf) hs before → Corresponds (IsChoice chart new leaf) (hs ++ rows) after

-- a leaf more, with the codes of its choices
pub record MakesLeaf (chart : Chart) (width leaf : ℕ) (old new : List Task) (classes : List Choices) : Type 0 where
  pub more : AppendsTasks old new
  pub made : IsLeaf chart new width leaf classes

-- the leaves of all states, with the codes of their choices
pub record MakesLeaves (chart : Chart) (width : ℕ) (old new : List Task) (leaves : List Leaf) : Type 0 where
  pub more : AppendsTasks old new
  pub whole : length leaves ≡ suc (length chart.state)
  pub each : AreLeaves chart new width leaves
