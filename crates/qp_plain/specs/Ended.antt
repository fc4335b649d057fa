-- Worlds ended.
use Rattle.std.specs.Prelude.{◌≡◌, ℕ, List, IsTrue}
use Rattle.qp_model.specs.declared.record.Rec.{Rec}
use Rattle.qp_model.specs.WordLaw.{Words, is_block}
use Rattle.qp_plain_sound.specs.Log.{Orders}
use Rattle.qp_plain_sound.specs.Ending.{BlockStands}
use Rattle.qp_plain_sound.specs.Sound.{hands_in}
use Rattle.qp_plain.specs.declared.world.PlainWorld.{PlainWorld}
use Rattle.qp_plain.specs.Book.{lists_of, logs_of}
use Rattle.qp_plain.specs.World.{StopIs, WorldHolds}

-- These are the lanes of the world. All words keep their laws, and the world's tables are what the laws say; each block
-- is free, loose in the hands, or has exactly the references of queues and hands.
pub record IsEnded (w : PlainWorld) (lanes : List (List Rec)) : Type 0 where
  pub lanes_are : lanes ≡ lists_of w.book
  pub orders : Orders lanes w.book.order.items
  pub words : Words w.sys.now lanes
  pub tables : WorldHolds w.sys.now lanes w.book.order.items w.pools.items w.blocks.items w.cells.items w.queues.items w.signals.items w.timers.items
  pub stands : (p b : ℕ) → IsTrue (is_block w.sys.now p b) → BlockStands w.sys.now lanes (hands_in w.sys.now lanes w.book.order.items) p b
  pub stop : StopIs w.stop (logs_of w.book)
