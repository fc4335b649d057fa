-- What a start does: the records that come, and what the object has behind them.
use Rattle.std.specs.Prelude.{◌≡◌, ℕ, ◌<◌, ◌≤◌, ◌⊎◌, List, [], ◌∷◌, ◌++◌, map, length, Some, None}
use Rattle.std.specs.declared.option.Option.{Option}
use Rattle.qp_model.specs.declared.bodies.Body.TheVariants as item
use Rattle.qp_model.specs.Told.{Told, plain}
use Rattle.qp_model.specs.Pieces.{tell}
use Rattle.qp_model.specs.Acts.{Config}
use Rattle.qp_model.specs.Course.{Starts}
use Rattle.qp_model.specs.Stops as stop
use Rattle.qp_calls.specs.LaneView.{LaneView, Grows, GrowsOf}
use Rattle.qp_calls.specs.Clauses.{Stops, entry_of}
use Rattle.qp_calls.specs.Notes.{last_code}
use Rattle.qp_calls.specs.Halting.{HaltsDry}
use Rattle.qp_calls.specs.Deferring.{ChangeAlike, StandAll, kept_in}
use Rattle.qp_dispatch.specs.declared.lasting.Lasting.{Lasting}
use Rattle.qp_dispatch.specs.declared.steps.Step.{Step}
use Rattle.qp_dispatch.specs.declared.steps.Step.TheVariants as step
use Rattle.qp_dispatch.specs.Lasts.{config_of, actor_of}
use Rattle.qp_dispatch.specs.Runs.{ObjectSetting}
use Rattle.qp_dispatch.specs.Resume.{IsLaneOf}

-- the start ran to its end
pub record StartDone (home : ObjectSetting) (later : ℕ) (k m : Lasting) (v w : LaneView) : Type 0 where
  pub g : List Told
  pub grows : Grows g v w
  pub starts : Starts v.sys (actor_of home.me home.chart k) (config_of k) (tell g) (Some (config_of m))
  pub room : m.list.entries.capacity ≡ k.list.entries.capacity
  pub lane : IsLaneOf home later w
  pub few : length (kept_in m.list) ≤ m.list.entries.capacity
  pub hands : ChangeAlike (map entry_of k.list.entries.items) (map entry_of m.list.entries.items) v w
  pub stand : StandAll m.list.entries.items w

-- an assertion ended it, and the lane stopped with its code, which is that of the last record
pub record StartAsserted (home : ObjectSetting) (k m : Lasting) (v w : LaneView) : Type 0 where
  pub g : List Told
  pub mid : LaneView
  pub code : ℕ
  pub grows : Grows g v mid
  pub starts : Starts v.sys (actor_of home.me home.chart k) (config_of k) (tell g) None
  pub some : 0 < code
  pub last : last_code mid.told ≡ code
  pub stops : Stops code mid w
  pub stand : StandAll m.list.entries.items w

-- records that begin a start; they aren't the whole of one that asserts
abbrev pub BeginsStart : ObjectSetting → Lasting → List Told → LaneView → Type 0
BeginsStart home k g v =
    (more : List Told) × (end : Option Config) × Starts v.sys (actor_of home.me home.chart k) (config_of k) (tell (g ++ more)) end
    × (end ≡ None → more ≡ [] → ⊥)

-- the lane had no room, spilled, and stopped
pub record StartSpilled (home : ObjectSetting) (k m : Lasting) (v w : LaneView) : Type 0 where
  pub g : List Told
  pub mid : LaneView
  pub full : LaneView
  pub grows : Grows g v mid
  pub begins : BeginsStart home k g v
  pub few : 999992 < length mid.told
  pub spills : GrowsOf 0 (plain (item.Spill (length mid.told)) ∷ []) mid full
  pub stops : Stops stop.spent_or_full full w
  pub stand : StandAll m.list.entries.items w

-- memory was refused to a lane that isn't full, and it stopped
pub record StartExhausted (home : ObjectSetting) (k m : Lasting) (v w : LaneView) : Type 0 where
  pub g : List Told
  pub mid : LaneView
  pub grows : Grows g v mid
  pub begins : BeginsStart home k g v
  pub dry : HaltsDry mid w
  pub stand : StandAll m.list.entries.items w

-- no start stands at a point
abbrev pub StartsTo : ObjectSetting → ℕ → Lasting → Lasting → LaneView → LaneView → Step → Type 0
StartsTo home later k m v w step.Point = ⊥
StartsTo home later k m v w step.Done = StartDone home later k m v w
StartsTo home later k m v w step.Stopped = StartAsserted home k m v w ⊎ StartSpilled home k m v w
StartsTo home later k m v w step.Memory = StartExhausted home k m v w
