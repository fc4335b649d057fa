use Rattle.std.proofs.Common.{◌≡◌, ℕ, List, [], length, replicate, refl, sym, ap, subst}
use Rattle.qp_base.specs.declared.event.Ev.{Ev}
use Rattle.qp_model.specs.declared.systems.System.{System}
use Rattle.qp_model.specs.FreeBlocks.{Pool}
use Rattle.qp_model.specs.TimeEvents.{Clock}
use Rattle.qp_model.specs.Sound.{IsSound}
use Rattle.qp_plain_words.specs.declared.block.BlockWord.{BlockWord}
use Rattle.qp_plain_words.specs.declared.signal.SignalWord.{SignalWord}
use Rattle.qp_plain_words.specs.Queue.{Queue}
use Rattle.qp_plain_sound.specs.Log.{log_of}
use Rattle.qp_plain.specs.declared.book.Book.{Book}
use Rattle.qp_plain.specs.Book.{lists_of}
use Rattle.qp_plain.specs.Fresh.{tabulated, free_pool, first_queue, IsNewBook}
use Rattle.qp_plain.specs.Tables.{free_block, no_signal, no_clock}
use Rattle.qp_plain.specs.World.{WorldHolds}
use Rattle.qp_plain.proofs.FreshLemmas.{blocks-few, stop-new, view-new, world-new}
use Rattle.qp_plain.proofs.world.PlainWorld.new.Goals as goal

whole : (sys : System) (n : ℕ) (b : Book) (pools : List Pool) (blocks : List BlockWord) (cells : List Ev) (queues : List Queue) (signals : List SignalWord) (timers : List Clock)
    → IsSound sys → IsNewBook n b → pools ≡ tabulated (free_pool sys) (length sys.pools) → blocks ≡ replicate 480 free_block → length cells ≡ 480 → queues ≡ tabulated (first_queue sys) 33
    → signals ≡ tabulated (λ k. no_signal) (length sys.signals) → timers ≡ tabulated (λ k. no_clock) (length sys.timers)
    → WorldHolds sys (lists_of b) b.order.items pools blocks cells queues signals timers
whole sys n b pools blocks cells queues signals timers sound new ps bs cs qs ss ts =
    subst (λ z. WorldHolds sys (lists_of b) b.order.items z blocks cells queues signals timers) (sym ps)
    (subst (λ z. WorldHolds sys (lists_of b) b.order.items (tabulated (free_pool sys) (length sys.pools)) blocks cells z signals timers) (sym qs)
    (subst (λ z. WorldHolds sys (lists_of b) b.order.items (tabulated (free_pool sys) (length sys.pools)) blocks cells (tabulated (first_queue sys) 33) z timers) (sym ss)
    (subst (λ z. WorldHolds sys (lists_of b) b.order.items (tabulated (free_pool sys) (length sys.pools)) blocks cells (tabulated (first_queue sys) 33) (tabulated (λ k. no_signal) (length sys.signals)) z) (sym ts)
    (world-new sys n b blocks cells sound new bs cs))))

no-log : (n : ℕ) (b : Book) → IsNewBook n b → log_of (lists_of b) b.order.items ≡ []
unfolding log_of
no-log n b new = ap (log_of (lists_of b)) new.order

pub pools-requires : goal.pools-requires
pools-requires c = blocks-few c.args.sys.now c.requires.sound

pub invariant_of-result : goal.invariant_of-result
invariant_of-result c = record {
  holds = whole c.args.sys.now c.args.lanes c.in_ok-book.book c.in_ok-pools.pools.items c.in-Ok.blocks.items c.in_ok-cells.cells.items c.in_ok-queues.queues.items c.in_ok-signals.signals.items c.in_ok-timers.timers.items
      c.requires.sound c.in_ok-book.ensures c.in_ok-pools.ensures c.in-Ok.ensures.items c.in_ok-cells.ensures c.in_ok-queues.ensures c.in_ok-signals.ensures c.in_ok-timers.ensures;
  stops = stop-new c.args.lanes c.in_ok-book.book c.in_ok-book.ensures;
}

pub returns : goal.returns
returns c = record {
  sys_is = refl;
  view = view-new c.args.sys.now c.args.lanes c.in_ok-book.book c.requires.some c.in_ok-book.ensures;
  log = no-log c.args.lanes c.in_ok-book.book c.in_ok-book.ensures;
  lanes = c.in_ok-book.ensures.long;
  first = c.in_ok-book.ensures.at;
  stop_is = refl;
  silent = (stop-new c.args.lanes c.in_ok-book.book c.in_ok-book.ensures).fits;
}
