-- What the lane that serves a queue knows of its front.
use Rattle.std.specs.Prelude.{◌≡◌, ℕ, ◌<◌, IsTrue, length}
use Rattle.std.specs.List.{list_any}
use Rattle.qp_model.specs.declared.systems.System.{System}
use Rattle.qp_table.specs.Counting.{many}
use Rattle.qp_table.specs.Rule.{on_queue, is_serve, is_lifo, is_take_of, records}
use Rattle.qp_table.specs.QueueLaws.{front_cell}
use Rattle.qp_table.specs.declared.view.View.{View}

-- The lane serves the object a, and no take of it is under way. By the last-in posts and the takes in its own records the front entry
-- of the queue lies in cell j.
pub record KnowsFront (sys : System) (a j : ℕ) (v : View) : Type 0 where
  pub serves : IsTrue (list_any (is_serve a) v.serves)
  pub log : 0 < length v.logs
  pub idle : many (on_queue a) v.takes ≡ 0
  pub cell : j ≡ front_cell sys a (records (is_lifo a) v.logs) (records (is_take_of a) v.logs)
