-- Records as the log of a world has them.
use Rattle.std.proofs.Common.{◌≡◌, ℕ, List, [], ◌∷◌, map, refl, ap}
use Rattle.qp_model.specs.Told.{ToldItem}
use Rattle.qp_calls.specs.LaneView.{placed_by}
use Rattle.qp_model_order.specs.Placing.{all_placed}
use Rattle.qp_model_order.specs.SourceRun.{untold_all}

pub placed-untold : (lane : ℕ) (ts : List ToldItem) → map (placed_by lane) ts ≡ all_placed lane (untold_all ts)
placed-untold lane [] = refl
placed-untold lane (t ∷ ts) = ap (λ xs. placed_by lane t ∷ xs) (placed-untold lane ts)
