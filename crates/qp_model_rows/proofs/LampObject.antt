-- The lamp that is switched on once: its records with their scheduling points, which follow its course and have their shape.
use Rattle.std.proofs.Common.{refl, ◌++◌, inr, false, List, [], ◌∷◌}
use Rattle.qp_model.specs.declared.bodies.Body.TheVariants as item
use Rattle.qp_model.specs.Record.{entry}
use Rattle.qp_model.specs.Told.{OfEvent, plain, told_took}
use Rattle.qp_model.specs.Pieces.{Piece, Tell, tell}
use Rattle.qp_model.specs.Course.{FollowsThrough, Whole}
use Rattle.qp_model.specs.Groups.{IsMove}
use Rattle.qp_model.specs.ObjectShape.{HasShape, CutGroups, StepGroup, BrokenStep, asserts_last, Dispatches, Ends}
use Rattle.qp_model.specs.Shapes.{Fits, FitsAny}
use Rattle.qp_model.specs.Groups.{Actions, Groups}
use Rattle.qp_model_rows.specs.Systems.{lamp, object}

unfoldable pub lamp_1_body_1 : List Piece
lamp_1_body_1 = Tell (plain (item.Run 1 1)) ∷ Tell (plain (item.Exit 1)) ∷ Tell (plain (item.Enter 2)) ∷ Tell (plain item.Done) ∷ []

unfoldable pub lamp_1_step_1 : List Piece
unfolding lamp_1_body_1
lamp_1_step_1 = Tell (told_took 1 0 1 (entry 0 4 0) (record { sig = 4; pars = [] })) ∷ (lamp_1_body_1 ++ tell ([]))

unfoldable pub lamp_1_start : List Piece
lamp_1_start = Tell (plain item.Begin) ∷ Tell (plain (item.Enter 1)) ∷ Tell (plain item.Done) ∷ []

unfoldable pub lamp_1_pieces : List Piece
unfolding lamp_1_start lamp_1_step_1
lamp_1_pieces = lamp_1_start ++ (lamp_1_step_1 ++ [])

pub lamp_1_follows : FollowsThrough lamp (object 1 1 1 1) lamp_1_pieces
unfolding FollowsThrough lamp_1_pieces lamp_1_start lamp_1_step_1 lamp_1_body_1
lamp_1_follows = (entry 0 4 0 ∷ [], _, (lamp_1_start, lamp_1_step_1 ++ [], _, refl, (Tell (plain item.Begin) ∷ Tell (plain (item.Enter 1)) ∷ Tell (plain item.Done) ∷ [], _, (_, refl, (_, refl, (_, refl, (refl, refl)))), refl, refl), (lamp_1_step_1, [], _, refl, (1, 0, 1, record { sig = 4; pars = [] }, lamp_1_body_1 ++ tell ([]), refl, (lamp_1_body_1, [], _, (_, refl, (_, refl, (_, refl, (_, refl, (refl, refl))))), refl, refl, refl)), (refl, refl))))

pub lamp_1_shape : HasShape lamp 1 false Whole (plain item.Begin ∷ plain (item.Enter 1) ∷ plain item.Done ∷ told_took 1 0 1 (entry 0 4 0) (record { sig = 4; pars = [] }) ∷ plain (item.Run 1 1) ∷ plain (item.Exit 1) ∷ plain (item.Enter 2) ∷ plain item.Done ∷ [])
unfolding CutGroups StepGroup BrokenStep Groups Actions FitsAny Fits asserts_last
lamp_1_shape = record { groups = inr (plain item.Begin ∷ plain (item.Enter 1) ∷ plain item.Done ∷ [], told_took 1 0 1 (entry 0 4 0) (record { sig = 4; pars = [] }) ∷ plain (item.Run 1 1) ∷ plain (item.Exit 1) ∷ plain (item.Enter 2) ∷ plain item.Done ∷ [], [], (plain (item.Enter 1) ∷ [], ((plain (item.Enter 1) ∷ []) ∷ [], (IsMove (item.Enter 1) refl refl, tt), refl), refl), ((told_took 1 0 1 (entry 0 4 0) (record { sig = 4; pars = [] }) ∷ plain (item.Run 1 1) ∷ plain (item.Exit 1) ∷ plain (item.Enter 2) ∷ plain item.Done ∷ []) ∷ [], (Dispatches (entry 0 4 0, told_took 1 0 1 (entry 0 4 0) (record { sig = 4; pars = [] }) ∷ plain (item.Run 1 1) ∷ [], plain (item.Exit 1) ∷ plain (item.Enter 2) ∷ [], [], (1, 0, 1, OfEvent (record { sig = 4; pars = [] }), item.Run 1 1, refl, refl), ((plain (item.Exit 1) ∷ []) ∷ (plain (item.Enter 2) ∷ []) ∷ [], (IsMove (item.Exit 1) refl refl, (IsMove (item.Enter 2) refl refl, tt)), refl), refl, refl), tt), refl), Ends refl, refl); last = refl }
