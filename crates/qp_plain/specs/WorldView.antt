-- What contracts see of a world.
use Rattle.qp_calls.specs.LaneView.{LaneView}
use Rattle.qp_plain_sound.specs.View.{view_of}
use Rattle.qp_plain.specs.declared.world.PlainWorld.{PlainWorld}
use Rattle.qp_plain.specs.Book.{lists_of, purses_of}

-- the lane chosen
abbrev pub world_view : PlainWorld → LaneView
world_view w =
    view_of w.sys.now (lists_of w.book) w.book.order.items w.book.at w.book.here.spare w.by w.book.here.stops.list w.book.here.answered.list (purses_of w.book)
