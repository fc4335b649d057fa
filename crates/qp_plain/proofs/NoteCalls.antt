-- Notes.
use Rattle.std.proofs.Common.{refl, ap}
use Rattle.qp_model.specs.declared.record.Rec.{Rec}
use Rattle.qp_model.specs.Record.{item_of, body_of}
use Rattle.qp_model.specs.History.{drawn_on}
use Rattle.qp_calls.specs.LaneView.{GrowsOf}
use Rattle.qp_calls.specs.Notes.{MayNote, told_note}
use Rattle.qp_plain_sound.specs.Sound.{SoundWorld}
use Rattle.qp_plain_sound.proofs.LawLemmas.{note-added}
use Rattle.qp_calls_log.specs.LaneLaws.{TellsLog}
use Rattle.qp_calls_log.proofs.NoteLemmas.{note-off}
use Rattle.qp_plain.specs.declared.book.Book.{Book}
use Rattle.qp_plain.specs.declared.world.PlainWorld.{PlainWorld}
use Rattle.qp_plain.specs.Book.{BookGains, lists_of, purses_of}
use Rattle.qp_plain.specs.LaneLaws.{tells-log}
use Rattle.qp_plain.specs.World.{WorldHolds}
use Rattle.qp_plain.specs.WorldView.{world_view}
use Rattle.qp_plain.proofs.Holding.{holds-quiet}
use Rattle.qp_plain.proofs.Calling.{step_at, view_with}
use Rattle.qp_plain.proofs.Turns.{now-seen}

-- the lane chosen tells its log
pub here-tells : (w : PlainWorld) → TellsLog w.book.here (world_view w)
here-tells w = tells-log w.sys.now w.book.others.items w.book.order.items w.book.at w.book.here w.by (purses_of w.book) w.book.within

module _ (w : PlainWorld) (b : Book) (r : Rec) (gains : BookGains r w.book b) (may : MayNote r (world_view w)) where
  both : SoundWorld w.sys.now (lists_of b) b.order.items × GrowsOf r.of (told_note r (world_view w)) (world_view w) (view_with w b)
  both = let x = note-added (step_at w b r) w.holds.world gains.grown may in (x.0, now-seen w b r gains (λ v. GrowsOf r.of (told_note r (world_view w)) (world_view w) v) x.1)

  pub note-grows : GrowsOf r.of (told_note r (world_view w)) (world_view w) (view_with w b)
  note-grows = both.1

  pub note-holds : WorldHolds w.sys.now (lists_of b) b.order.items w.pools.items w.blocks.items w.cells.items w.queues.items w.signals.items w.timers.items
  unfolding MayNote item_of
  note-holds =
      holds-quiet (step_at w b r) r.of (body_of r) gains.grown refl w.pools.items w.blocks.items w.cells.items w.queues.items w.signals.items w.timers.items w.holds both.0
      (λ v. ap (drawn_on v) (note-off (world_view w) r may))
