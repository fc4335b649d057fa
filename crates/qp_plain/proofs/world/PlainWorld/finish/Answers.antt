use Rattle.std.proofs.Common.{◌≡◌, List, sym, subst}
use Rattle.qp_model.specs.declared.record.Rec.{Rec}
use Rattle.qp_plain_sound.proofs.EndLemmas.{every-block}
use Rattle.qp_plain.specs.declared.world.PlainWorld.{PlainWorld}
use Rattle.qp_plain.specs.Book.{lists_of}
use Rattle.qp_plain.specs.Ended.{IsEnded}
use Rattle.qp_plain.specs.World.{WorldHolds}
use Rattle.qp_plain.proofs.world.PlainWorld.finish.Goals as goal

ended : (w : PlainWorld) (lanes : List (List Rec)) → lanes ≡ lists_of w.book → IsEnded w lanes
ended w lanes is =
    let holds : WorldHolds w.sys.now lanes w.book.order.items w.pools.items w.blocks.items w.cells.items w.queues.items w.signals.items w.timers.items =
    subst (λ ls. WorldHolds w.sys.now ls w.book.order.items w.pools.items w.blocks.items w.cells.items w.queues.items w.signals.items w.timers.items) (sym is) w.holds in
    record {
      lanes_are = is;
      orders = holds.world.orders;
      words = holds.world.sound.words;
      tables = holds;
      stands = every-block w.sys.now lanes w.book.order.items holds.world;
      stop = w.stops;
    }

pub returns : goal.returns
returns c = ended c.args.self _ c.finish.ensures
