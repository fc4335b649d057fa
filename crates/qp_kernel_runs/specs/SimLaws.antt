-- The laws of lane 0: they are those of the plain world, whose records, spare and codes it has.
use Rattle.qp_calls.specs.LaneLaws.{IsWithinLimit, HasCauses}
use Rattle.qp_plain.specs.Book.{purses_of}
use Rattle.qp_plain.specs.LaneLaws as plain
use Rattle.qp_kernel_runs.specs.declared.world.SimWorld.{SimWorld}
use Rattle.qp_kernel_runs.specs.SimView.{sim_view}

pub keeps-limit : (w : SimWorld) → IsWithinLimit (sim_view w)
keeps-limit w =
    plain.keeps-limit w.plain.sys.now w.plain.book.others.items w.plain.book.order.items w.plain.book.at w.plain.book.here w.plain.by (purses_of w.plain.book) w.plain.book.within

pub has-causes : (w : SimWorld) → HasCauses (sim_view w)
has-causes w =
    plain.has-causes w.plain.sys.now w.plain.book.others.items w.plain.book.order.items w.plain.book.at w.plain.book.here w.plain.by (purses_of w.plain.book) w.plain.book.within
