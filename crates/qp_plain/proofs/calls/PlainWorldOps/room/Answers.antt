use Rattle.std.proofs.Common.{◌≡◌, ◌+◌, ◌≤◌, length, refl, sym, ◌∙◌, ap, subst, arith, Ok, Err}
use Rattle.qp_plain_sound.specs.View.{view_of}
use Rattle.qp_plain.specs.declared.book.Book.{Book}
use Rattle.qp_plain.specs.declared.world.PlainWorld.{PlainWorld}
use Rattle.qp_plain.specs.Book.{lists_of, purses_of}
use Rattle.qp_plain.specs.World.{WorldHolds}
use Rattle.qp_plain.specs.WorldView.{world_view}
use Rattle.qp_plain.proofs.Calling.{view_with, stop-stays, purses-same}
use Rattle.qp_calls.specs.LaneView.{Roomier}
use Rattle.qp_plain.specs.Book.{BookKeeps, IsRoomFault}
use Rattle.qp_calls_log.specs.LaneLaws.{told-items}
use Rattle.qp_plain.proofs.NoteCalls.{here-tells}
use Rattle.qp_calls.specs.declared.answers.RoomFault.{RoomFault}
use Rattle.qp_calls.specs.declared.answers.RoomFault.TheVariants as fault
use Rattle.qp_calls.specs.Clauses.{Faults}
use Rattle.std.specs.Result.{IfErr, OnErr, OnOk}
use Rattle.std.specs.declared.result.Result.{Result}
use Rattle.qp_plain.proofs.calls.PlainWorldOps.room.Goals as goal
use Rattle.qp_model.proofs.RecordLemmas.{lane-length}

told-here : (w : PlainWorld) → length (world_view w).told ≡ length w.book.here.recs.items
told-here w = told-items w.book.here (world_view w) (here-tells w) ∙ lane-length w.book.here.recs.items

moved : (w : PlainWorld) (b : Book) → BookKeeps w.book b → WorldHolds w.sys.now (lists_of b) b.order.items w.pools.items w.blocks.items w.cells.items w.queues.items w.signals.items w.timers.items
moved w b keeps =
    subst (λ ls. WorldHolds w.sys.now ls b.order.items w.pools.items w.blocks.items w.cells.items w.queues.items w.signals.items w.timers.items) (sym keeps.lists)
    (subst (λ xs. WorldHolds w.sys.now (lists_of w.book) xs w.pools.items w.blocks.items w.cells.items w.queues.items w.signals.items w.timers.items) (sym keeps.order) w.holds)

same-view : (w : PlainWorld) (b : Book) → BookKeeps w.book b → view_with w b ≡ view_of w.sys.now (lists_of w.book) w.book.order.items w.book.at b.here.spare w.by w.book.here.stops.list w.book.here.answered.list (purses_of w.book)
same-view w b keeps =
    ap (λ x. view_of w.sys.now x b.order.items b.at b.here.spare w.by b.here.stops.list b.here.answered.list (purses_of b)) keeps.lists
    ∙ ap (λ x. view_of w.sys.now (lists_of w.book) x b.at b.here.spare w.by b.here.stops.list b.here.answered.list (purses_of b)) keeps.order
    ∙ ap (λ x. view_of w.sys.now (lists_of w.book) w.book.order.items x b.here.spare w.by b.here.stops.list b.here.answered.list (purses_of b)) keeps.stays.at
    ∙ ap (λ x. view_of w.sys.now (lists_of w.book) w.book.order.items w.book.at b.here.spare w.by x b.here.answered.list (purses_of b)) keeps.stays.stops
    ∙ ap (λ x. view_of w.sys.now (lists_of w.book) w.book.order.items w.book.at b.here.spare w.by w.book.here.stops.list x (purses_of b)) keeps.stays.answered
    ∙ ap (λ x. view_of w.sys.now (lists_of w.book) w.book.order.items w.book.at b.here.spare w.by w.book.here.stops.list w.book.here.answered.list x) (purses-same w.book b keeps.stays.others keeps.stays.at)

roomier : (w : PlainWorld) (b : Book) → BookKeeps w.book b → w.book.here.spare ≤ b.here.spare → Roomier (world_view w) (view_with w b)
unfolding view_of
roomier w b keeps more = subst (λ v. Roomier (world_view w) v) (sym (same-view w b keeps)) (record { same = refl; more = more })

refused : (w : PlainWorld) (b : Book) (r : Result (Unit {0}) RoomFault) → BookKeeps w.book b → OnErr r (b.here.spare ≡ w.book.here.spare) → OnErr r (view_with w b ≡ world_view w)
refused w b (Ok u) keeps same = tt
refused w b (Err f) keeps same =
    same-view w b keeps
    ∙ ap (λ x. view_of w.sys.now (lists_of w.book) w.book.order.items w.book.at x w.by w.book.here.stops.list w.book.here.answered.list (purses_of w.book)) same

faults : (w : PlainWorld) (r : Result (Unit {0}) RoomFault) → OnOk r (length w.book.here.recs.items + 8 ≤ 1000000) → IfErr r (IsRoomFault w.book) → Faults (world_view w) r
faults w (Ok u) free err = let long = told-here w in omega (arith, long, free)
faults w (Err fault.Memory) free err = let long = told-here w in omega (arith, long, err)
faults w (Err (fault.LaneFull len)) free err = (err.0 ∙ sym (told-here w), err.1)

pub invariant_of-self : goal.invariant_of-self
invariant_of-self c = record { holds = moved c.args.self.now c.room.new.self c.room.ensures.keeps; stops = stop-stays c.args.self.now.stop c.args.self.now.book c.room.new.self c.room.ensures.keeps.stays c.args.self.now.stops }

pub returns-clause-ok : goal.returns-clause-ok
unfolding view_of
returns-clause-ok c = c.room.ensures.ok

pub returns-clause-err : goal.returns-clause-err
returns-clause-err c = faults c.args.self.now c.room.result c.room.ensures.free c.room.ensures.err

pub returns-clause-refused : goal.returns-clause-refused
returns-clause-refused c = refused c.args.self.now c.room.new.self c.room.result c.room.ensures.keeps c.room.ensures.refused

pub returns-clause-stays : goal.returns-clause-stays
returns-clause-stays c = roomier c.args.self.now c.room.new.self c.room.ensures.keeps c.room.ensures.more
