-- What is known of a lane whose posts ring.
use Rattle.std.specs.Prelude.{◌≡◌, ℕ, List, map}
use Rattle.std.proofs.Props.{props}
use Rattle.std.specs.List.{count_by}
use Rattle.qp_model.specs.Sources.{priorities}
use Rattle.qp_calls.specs.LaneView.{LaneView}
use Rattle.qp_wait_rings.specs.declared.cord.Cord.{Cord}
use Rattle.qp_wait_rings.specs.Cords.{notes_given}
use Rattle.qp_wait_rings.specs.Records.{is_claim, tells_refusal, posts_on}

-- Over all of its records the lane gave a note for each post, added one for each claim, and took one off for each that was refused.
pub record HasRung (opened refused : ℕ) (cords : List Cord) (v : LaneView) : Type 0 where
  pub objects : map (λ c. c.object) cords ≡ priorities v.sys
  pub rang : (a : ℕ) → notes_given a cords ≡ count_by (posts_on a) v.told
  pub opened_is : opened ≡ count_by is_claim v.told
  pub refused_is : refused ≡ count_by tells_refusal v.told

pub HasRung-prop : (opened refused : ℕ) (cords : List Cord) (v : LaneView) → IsProp (HasRung opened refused cords v)
HasRung-prop opened refused cords v = hlevel props
