-- A record with its lane, as the order of a run with one thread sees it.
use Rattle.qp_model.specs.Record.{Item, item_of}
use Rattle.qp_model.specs.OneOrder as order
use Rattle.qp_check_kernel.specs.declared.stimulus_index.Placed.{Placed}

abbrev pub as_placed : Placed → order.Placed
as_placed x = record { lane = x.lane; item = item_of x.rec.now }

-- what the record says
abbrev pub said_at : Placed → Item
said_at x = item_of x.rec.now
