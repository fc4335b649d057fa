-- Rows of looks at the base, and whether they have a step.
use Rattle.std.specs.Prelude.{◌≡◌, ℕ, true, List, map}
use Rattle.std.specs.Option.{unwrap_or}
use Rattle.qp_model.specs.declared.systems.System.{System}
use Rattle.qp_model.specs.KernelLane.{Reading, lane_read, looking_at, unread}
use Rattle.qp_model_order.specs.RunOrder.{has_stim}
use Rattle.qp_model.specs.Told.{untold}
use Rattle.qp_calls.specs.LaneView.{LaneView}
use Rattle.qp_kernel.specs.Happenings.{lanes_of}
use Rattle.qp_kernel.specs.LaneZero.{setting}
use Rattle.qp_kernel.specs.Turning.{Terms, kernel_in}

-- how far the lane has been read
abbrev pub reading_in : System → Terms → LaneView → Reading
reading_in sys terms v = unwrap_or (lane_read (setting sys (kernel_in terms) (has_stim (lanes_of v))) (map untold v.told)) (unread sys)

-- no row at the base has ended, and none has got its first step
pub record SameRow (k r : Reading) : Type 0 where
  pub stepped : r.stepped ≡ k.stepped
  pub idle : r.idle ≡ k.idle

-- no row at the base has ended, and the one that goes on has a step
pub record HasStep (k r : Reading) : Type 0 where
  pub stepped : r.stepped ≡ true
  pub idle : r.idle ≡ k.idle

-- since v one look was added, and these objects are still to be looked at
pub record InRow (sys : System) (terms : Terms) (others : List ℕ) (v w : LaneView) : Type 0 where
  pub here : Reading
  pub row : SameRow (reading_in sys terms v) here
  pub same : reading_in sys terms w ≡ looking_at (setting sys (kernel_in terms) (has_stim (lanes_of w))) here others
