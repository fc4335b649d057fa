-- The summaries of journals.
use Rattle.std.proofs.Common.{refl, ◌++◌, List, [], ◌∷◌}
use Rattle.qp_model.specs.declared.bodies.Body.TheVariants as item
use Rattle.qp_model.specs.Record.{entry}
use Rattle.qp_model.specs.Told.{plain, told_took}
use Rattle.qp_model.specs.Pieces.{Piece, Tell, tell}
use Rattle.qp_model.specs.OutputSummary.{IsSummary, CourseLeaves}
use Rattle.qp_model_rows.specs.Summaries.{named_lamp, switched_summary}
use Rattle.qp_model_rows.specs.Journals.{switched}

start : List Piece
start = Tell (plain item.Begin) ∷ Tell (plain (item.Enter 1)) ∷ Tell (plain item.Done) ∷ []

body : List Piece
body = Tell (plain (item.Run 1 1)) ∷ Tell (plain (item.Exit 1)) ∷ Tell (plain (item.Enter 2)) ∷ Tell (plain item.Done) ∷ []

step : List Piece
unfolding body
step = Tell (told_took 1 0 1 (entry 0 4 0) (record { sig = 4; pars = [] })) ∷ (body ++ tell [])

pieces : List Piece
unfolding start step
pieces = start ++ (step ++ [])

pub summed_up : IsSummary named_lamp switched switched_summary
unfolding IsSummary CourseLeaves pieces start step body
summed_up = (
  _,
  (_, [], (_, (_, (pieces, [], entry 0 4 0 ∷ [], refl, refl, (start, step ++ [], _, refl, (start, _, (_, refl, (_, refl, (_, refl, (refl, refl)))), refl, refl), (step, [], _, refl, (1, 0, 1, record { sig = 4; pars = [] }, body ++ tell [], refl, (body, [], _, (_, refl, (_, refl, (_, refl, (_, refl, (refl, refl))))), refl, refl, refl)), (refl, refl)))), refl), refl), refl, refl),
  refl,
)
