-- The three objects of `levels`: their records with their scheduling points, which follow their courses and have their shape, whatever the
-- threshold t of the lowest, the takes m that its second post finds, which leave room, and the posts f that the highest finds at its first take.
use Rattle.std.proofs.Common.{ℕ, ◌-◌, nat_lt, IsTrue, refl, ◌++◌, inr, false, List, [], ◌∷◌, None}
use Rattle.qp_model.specs.declared.bodies.Body.TheVariants as item
use Rattle.qp_model.specs.Record.{entry}
use Rattle.qp_model.specs.Told.{OfEvent, plain, told_took, raised}
use Rattle.qp_model.specs.Calls as call
use Rattle.qp_model.specs.Calls.{Granted}
use Rattle.qp_model.specs.Pieces.{Piece, Tell, Point, tell}
use Rattle.qp_model.specs.Course.{FollowsThrough, Whole}
use Rattle.qp_model.specs.Groups.{IsMove, IsAct, IsLocked, SaysValue, MakesCall}
use Rattle.qp_model.specs.ObjectShape.{HasShape, CutGroups, StepGroup, BrokenStep, asserts_last, Dispatches, Ends}
use Rattle.qp_model.specs.Shapes.{Fits, FitsAny}
use Rattle.qp_model.specs.Groups.{Actions, Groups}
use Rattle.qp_model_rows.specs.Systems.{levels, object}

unfoldable pub low_body_1 : (m : ℕ) → List Piece
low_body_1 m = Tell (plain (item.Run 1 1)) ∷ Tell (plain (item.Post 4 1 0 0 (entry 0 6 0))) ∷ Point ∷ Tell (raised 3 0) ∷ Tell (plain (item.Post 3 1 0 0 (entry 0 6 0))) ∷ Point ∷ Tell (plain (item.Post 4 2 0 m (entry 0 6 0))) ∷ Point ∷ Tell (plain (item.Say 1)) ∷ Point ∷ Tell (plain (item.Unlock 0)) ∷ Point ∷ Tell (plain (item.Say 2)) ∷ Point ∷ Tell (plain item.Done) ∷ []

unfoldable pub low_step_1 : (m : ℕ) → List Piece
unfolding low_body_1
low_step_1 m = Tell (told_took 1 0 1 (entry 0 4 0) (record { sig = 4; pars = [] })) ∷ ((low_body_1 m) ++ tell ([]))

unfoldable pub low_start : List Piece
low_start = Tell (plain item.Begin) ∷ Tell (plain (item.Enter 1)) ∷ Tell (plain item.Done) ∷ []

unfoldable pub low_pieces : (m : ℕ) → List Piece
unfolding low_start low_step_1
low_pieces m = low_start ++ ((low_step_1 m) ++ [])

pub low_follows : (t m : ℕ) → IsTrue (nat_lt 0 (2 - (1 - m))) → FollowsThrough (levels t) (object 1 1 t 1) (low_pieces m)
unfolding FollowsThrough low_pieces low_start low_step_1 low_body_1
low_follows t m room = (entry 0 4 0 ∷ [], _, (low_start, (low_step_1 m) ++ [], _, refl, (Tell (plain item.Begin) ∷ Tell (plain (item.Enter 1)) ∷ Tell (plain item.Done) ∷ [], _, (_, refl, (_, refl, (_, refl, (refl, refl)))), refl, refl), ((low_step_1 m), [], _, refl, (1, 0, 1, record { sig = 4; pars = [] }, (low_body_1 m) ++ tell ([]), refl, ((low_body_1 m), [], _, (_, refl, (Granted, plain (item.Post 4 1 0 0 (entry 0 6 0)) ∷ [], [], (inr ([], entry 0 6 0, (refl, refl), (1, 0, 0, refl, refl))), refl, (_, refl, (0, (_, refl, (Granted, plain (item.Post 3 1 0 0 (entry 0 6 0)) ∷ [], [], (inr ([], entry 0 6 0, (refl, refl), (1, 0, 0, refl, refl))), refl, (_, refl, (Granted, plain (item.Post 4 2 0 m (entry 0 6 0)) ∷ [], [], (inr ([], entry 0 6 0, (refl, refl), (2, 0, m, refl, room))), refl, (_, refl, (_, refl, (_, refl, (_, refl, (_, refl, (_, refl, (refl, refl))))))))))))))), refl, refl, refl)), (refl, refl))))

pub low_shape : (t m : ℕ) → IsTrue (nat_lt 0 (2 - (1 - m))) → HasShape (levels t) 1 false Whole (plain item.Begin ∷ plain (item.Enter 1) ∷ plain item.Done ∷ told_took 1 0 1 (entry 0 4 0) (record { sig = 4; pars = [] }) ∷ plain (item.Run 1 1) ∷ plain (item.Post 4 1 0 0 (entry 0 6 0)) ∷ raised 3 0 ∷ plain (item.Post 3 1 0 0 (entry 0 6 0)) ∷ plain (item.Post 4 2 0 m (entry 0 6 0)) ∷ plain (item.Say 1) ∷ plain (item.Unlock 0) ∷ plain (item.Say 2) ∷ plain item.Done ∷ [])
unfolding CutGroups StepGroup BrokenStep Groups Actions FitsAny Fits asserts_last
low_shape t m room = record { groups = inr (plain item.Begin ∷ plain (item.Enter 1) ∷ plain item.Done ∷ [], told_took 1 0 1 (entry 0 4 0) (record { sig = 4; pars = [] }) ∷ plain (item.Run 1 1) ∷ plain (item.Post 4 1 0 0 (entry 0 6 0)) ∷ raised 3 0 ∷ plain (item.Post 3 1 0 0 (entry 0 6 0)) ∷ plain (item.Post 4 2 0 m (entry 0 6 0)) ∷ plain (item.Say 1) ∷ plain (item.Unlock 0) ∷ plain (item.Say 2) ∷ plain item.Done ∷ [], [], (plain (item.Enter 1) ∷ [], ((plain (item.Enter 1) ∷ []) ∷ [], (IsMove (item.Enter 1) refl refl, tt), refl), refl), ((told_took 1 0 1 (entry 0 4 0) (record { sig = 4; pars = [] }) ∷ plain (item.Run 1 1) ∷ plain (item.Post 4 1 0 0 (entry 0 6 0)) ∷ raised 3 0 ∷ plain (item.Post 3 1 0 0 (entry 0 6 0)) ∷ plain (item.Post 4 2 0 m (entry 0 6 0)) ∷ plain (item.Say 1) ∷ plain (item.Unlock 0) ∷ plain (item.Say 2) ∷ plain item.Done ∷ []) ∷ [], (Dispatches (entry 0 4 0, told_took 1 0 1 (entry 0 4 0) (record { sig = 4; pars = [] }) ∷ plain (item.Run 1 1) ∷ [], plain (item.Post 4 1 0 0 (entry 0 6 0)) ∷ raised 3 0 ∷ plain (item.Post 3 1 0 0 (entry 0 6 0)) ∷ plain (item.Post 4 2 0 m (entry 0 6 0)) ∷ plain (item.Say 1) ∷ plain (item.Unlock 0) ∷ plain (item.Say 2) ∷ [], [], (1, 0, 1, OfEvent (record { sig = 4; pars = [] }), item.Run 1 1, refl, refl), ((plain (item.Post 4 1 0 0 (entry 0 6 0)) ∷ []) ∷ (raised 3 0 ∷ plain (item.Post 3 1 0 0 (entry 0 6 0)) ∷ plain (item.Post 4 2 0 m (entry 0 6 0)) ∷ plain (item.Say 1) ∷ plain (item.Unlock 0) ∷ []) ∷ (plain (item.Say 2) ∷ []) ∷ [], (IsAct (MakesCall (call.Post 4 6 [] None None) Granted (inr ([], entry 0 6 0, (refl, refl), (1, 0, 0, refl, refl))) refl), (IsLocked 0 3 (plain (item.Post 3 1 0 0 (entry 0 6 0)) ∷ plain (item.Post 4 2 0 m (entry 0 6 0)) ∷ plain (item.Say 1) ∷ []) ((plain (item.Post 3 1 0 0 (entry 0 6 0)) ∷ []) ∷ (plain (item.Post 4 2 0 m (entry 0 6 0)) ∷ []) ∷ (plain (item.Say 1) ∷ []) ∷ [], (MakesCall (call.Post 3 6 [] None None) Granted (inr ([], entry 0 6 0, (refl, refl), (1, 0, 0, refl, refl))) refl, (MakesCall (call.Post 4 6 [] None None) Granted (inr ([], entry 0 6 0, (refl, refl), (2, 0, m, refl, room))) refl, (SaysValue 1 refl, tt))), refl) refl, (IsAct (SaysValue 2 refl), tt))), refl), refl, refl), tt), refl), Ends refl, refl); last = refl }

unfoldable pub middle_body_1 : List Piece
middle_body_1 = Tell (plain item.Unhandled) ∷ Tell (plain item.Done) ∷ []

unfoldable pub middle_step_1 : List Piece
unfolding middle_body_1
middle_step_1 = Tell (told_took 1 0 1 (entry 0 6 0) (record { sig = 6; pars = [] })) ∷ (middle_body_1 ++ tell ([]))

unfoldable pub middle_start : List Piece
middle_start = Tell (plain item.Begin) ∷ Tell (plain (item.Enter 1)) ∷ Tell (plain item.Done) ∷ []

unfoldable pub middle_pieces : List Piece
unfolding middle_start middle_step_1
middle_pieces = middle_start ++ (middle_step_1 ++ [])

pub middle_follows : (t : ℕ) → FollowsThrough (levels t) (object 2 3 3 1) middle_pieces
unfolding FollowsThrough middle_pieces middle_start middle_step_1 middle_body_1
middle_follows t = (entry 0 6 0 ∷ [], _, (middle_start, middle_step_1 ++ [], _, refl, (Tell (plain item.Begin) ∷ Tell (plain (item.Enter 1)) ∷ Tell (plain item.Done) ∷ [], _, (_, refl, (_, refl, (_, refl, (refl, refl)))), refl, refl), (middle_step_1, [], _, refl, (1, 0, 1, record { sig = 6; pars = [] }, middle_body_1 ++ tell ([]), refl, (middle_body_1, [], _, (_, refl, (_, refl, (refl, refl))), refl, refl, refl)), (refl, refl))))

pub middle_shape : (t : ℕ) → HasShape (levels t) 3 false Whole (plain item.Begin ∷ plain (item.Enter 1) ∷ plain item.Done ∷ told_took 1 0 1 (entry 0 6 0) (record { sig = 6; pars = [] }) ∷ plain item.Unhandled ∷ plain item.Done ∷ [])
unfolding CutGroups StepGroup BrokenStep Groups Actions FitsAny Fits asserts_last
middle_shape t = record { groups = inr (plain item.Begin ∷ plain (item.Enter 1) ∷ plain item.Done ∷ [], told_took 1 0 1 (entry 0 6 0) (record { sig = 6; pars = [] }) ∷ plain item.Unhandled ∷ plain item.Done ∷ [], [], (plain (item.Enter 1) ∷ [], ((plain (item.Enter 1) ∷ []) ∷ [], (IsMove (item.Enter 1) refl refl, tt), refl), refl), ((told_took 1 0 1 (entry 0 6 0) (record { sig = 6; pars = [] }) ∷ plain item.Unhandled ∷ plain item.Done ∷ []) ∷ [], (Dispatches (entry 0 6 0, told_took 1 0 1 (entry 0 6 0) (record { sig = 6; pars = [] }) ∷ plain item.Unhandled ∷ [], [], [], (1, 0, 1, OfEvent (record { sig = 6; pars = [] }), item.Unhandled, refl, refl), ([], tt, refl), refl, refl), tt), refl), Ends refl, refl); last = refl }

unfoldable pub high_body_1 : List Piece
high_body_1 = Tell (plain item.Unhandled) ∷ Tell (plain item.Done) ∷ []

unfoldable pub high_step_1 : (f : ℕ) → List Piece
unfolding high_body_1
high_step_1 f = Tell (told_took f 0 1 (entry 0 6 0) (record { sig = 6; pars = [] })) ∷ (high_body_1 ++ tell ([]))

unfoldable pub high_body_2 : List Piece
high_body_2 = Tell (plain item.Unhandled) ∷ Tell (plain item.Done) ∷ []

unfoldable pub high_step_2 : List Piece
unfolding high_body_2
high_step_2 = Tell (told_took 2 0 2 (entry 0 6 0) (record { sig = 6; pars = [] })) ∷ (high_body_2 ++ tell ([]))

unfoldable pub high_start : List Piece
high_start = Tell (plain item.Begin) ∷ Tell (plain (item.Enter 1)) ∷ Tell (plain item.Done) ∷ []

unfoldable pub high_pieces : (f : ℕ) → List Piece
unfolding high_start high_step_1 high_step_2
high_pieces f = high_start ++ ((high_step_1 f) ++ (high_step_2 ++ []))

pub high_follows : (t f : ℕ) → FollowsThrough (levels t) (object 3 4 4 1) (high_pieces f)
unfolding FollowsThrough high_pieces high_start high_step_1 high_step_2 high_body_1 high_body_2
high_follows t f = (entry 0 6 0 ∷ entry 0 6 0 ∷ [], _, (high_start, (high_step_1 f) ++ (high_step_2 ++ []), _, refl, (Tell (plain item.Begin) ∷ Tell (plain (item.Enter 1)) ∷ Tell (plain item.Done) ∷ [], _, (_, refl, (_, refl, (_, refl, (refl, refl)))), refl, refl), ((high_step_1 f), high_step_2 ++ [], _, refl, (f, 0, 1, record { sig = 6; pars = [] }, high_body_1 ++ tell ([]), refl, (high_body_1, [], _, (_, refl, (_, refl, (refl, refl))), refl, refl, refl)), (high_step_2, [], _, refl, (2, 0, 2, record { sig = 6; pars = [] }, high_body_2 ++ tell ([]), refl, (high_body_2, [], _, (_, refl, (_, refl, (refl, refl))), refl, refl, refl)), (refl, refl)))))

pub high_shape : (t f : ℕ) → HasShape (levels t) 4 false Whole (plain item.Begin ∷ plain (item.Enter 1) ∷ plain item.Done ∷ told_took f 0 1 (entry 0 6 0) (record { sig = 6; pars = [] }) ∷ plain item.Unhandled ∷ plain item.Done ∷ told_took 2 0 2 (entry 0 6 0) (record { sig = 6; pars = [] }) ∷ plain item.Unhandled ∷ plain item.Done ∷ [])
unfolding CutGroups StepGroup BrokenStep Groups Actions FitsAny Fits asserts_last
high_shape t f = record { groups = inr (plain item.Begin ∷ plain (item.Enter 1) ∷ plain item.Done ∷ [], told_took f 0 1 (entry 0 6 0) (record { sig = 6; pars = [] }) ∷ plain item.Unhandled ∷ plain item.Done ∷ told_took 2 0 2 (entry 0 6 0) (record { sig = 6; pars = [] }) ∷ plain item.Unhandled ∷ plain item.Done ∷ [], [], (plain (item.Enter 1) ∷ [], ((plain (item.Enter 1) ∷ []) ∷ [], (IsMove (item.Enter 1) refl refl, tt), refl), refl), ((told_took f 0 1 (entry 0 6 0) (record { sig = 6; pars = [] }) ∷ plain item.Unhandled ∷ plain item.Done ∷ []) ∷ (told_took 2 0 2 (entry 0 6 0) (record { sig = 6; pars = [] }) ∷ plain item.Unhandled ∷ plain item.Done ∷ []) ∷ [], (Dispatches (entry 0 6 0, told_took f 0 1 (entry 0 6 0) (record { sig = 6; pars = [] }) ∷ plain item.Unhandled ∷ [], [], [], (f, 0, 1, OfEvent (record { sig = 6; pars = [] }), item.Unhandled, refl, refl), ([], tt, refl), refl, refl), (Dispatches (entry 0 6 0, told_took 2 0 2 (entry 0 6 0) (record { sig = 6; pars = [] }) ∷ plain item.Unhandled ∷ [], [], [], (2, 0, 2, OfEvent (record { sig = 6; pars = [] }), item.Unhandled, refl, refl), ([], tt, refl), refl, refl), tt)), refl), Ends refl, refl); last = refl }
