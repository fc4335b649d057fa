-- How far an object has come, as a kernel knows it between two calls, and what its pieces so far have to do with that.
use Rattle.std.specs.Prelude.{◌≡◌, ◌≤◌, List, [], ◌∷◌, ◌++◌, length, true, Bool, false, not, ◌&&◌}
use Rattle.std.specs.List.{list_all}
use Rattle.qp_chart.specs.Task.{Task, Done}
use Rattle.qp_model.specs.declared.systems.System.{System}
use Rattle.qp_model.specs.declared.bodies.Entry.{Entry}
use Rattle.qp_model.specs.Told.{Event}
use Rattle.qp_model.specs.Pieces.{Piece, Point}
use Rattle.qp_model.specs.Acts.{Actor, Config}
use Rattle.qp_model.specs.Step.{Remainder}
use Rattle.qp_model.specs.Able.{task_able}
use Rattle.qp_model.specs.Standing.{Between, Within, Leaves}

-- it hasn't started; it rests between two steps; it has taken an entry up and nothing more; or it waits at a scheduling point of its step
pub data Stage : Type 0 where
  Unstarted : Stage
  Resting : (c : Config) → Stage
  Begun : (ev : Event) (e : Entry) (left : Remainder) (c : Config) → Stage
  Paused : (ev : Event) (e : Entry) (left : Remainder) (c : Config) → Stage

abbrev pub is_done_task : Task → Bool
is_done_task Done = true
is_done_task _ = false

-- `done` is the last of these tasks, and none but it
abbrev pub closes : List Task → Bool
closes [] = false
closes (t ∷ []) = is_done_task t
closes (t ∷ u ∷ ts) = not (is_done_task t) && closes (u ∷ ts)

-- what is left of a step can be brought to its end, which is `done`: its actions have what they ask for, and the deferred list has its room
pub record IsReady (sys : System) (a : Actor) (left : Remainder) (c : Config) : Type 0 where
  pub able : list_all (task_able sys true) left.tasks ≡ true
  pub closing : closes left.tasks ≡ true
  pub room : length c.kept ≤ a.room

-- the pieces over these entries leave the object so
unfoldable pub ComesTo : System → Actor → Config → List Entry → List Piece → Stage → Type 0
unfolding Leaves
ComesTo sys a first es ps Unstarted = (ps ≡ []) × (es ≡ [])
ComesTo sys a first es ps (Resting c) = Leaves sys a first es ps (Between c) × (length c.kept ≤ a.room)
ComesTo sys a first es ps (Begun ev e left c) = Leaves sys a first es ps (Within ev e left c) × IsReady sys a left c
ComesTo sys a first es ps (Paused ev e left c) =
    (front : List Piece) × (ps ≡ front ++ Point ∷ []) × Leaves sys a first es ps (Within ev e left c) × IsReady sys a left c

-- the object may stay so where the run stops: it isn't within a part of a step
abbrev pub may_wait : Stage → Bool
may_wait (Begun ev e left c) = false
may_wait _ = true

abbrev pub is_resting : Stage → Bool
is_resting (Resting c) = true
is_resting _ = false
