use Rattle.std.proofs.Common.{◌≡◌, ℕ, List, ◌∷◌, refl, sym, ◌∙◌, ap, subst}
use Rattle.qp_plain_sound.specs.View.{view_of}
use Rattle.qp_plain.specs.declared.book.Book.{Book}
use Rattle.qp_plain.specs.declared.world.PlainWorld.{PlainWorld}
use Rattle.qp_plain.specs.Book.{lists_of, purses_of}
use Rattle.qp_plain.specs.World.{WorldHolds}
use Rattle.qp_plain.specs.WorldView.{world_view}
use Rattle.qp_plain.proofs.Calling.{view_with, purses-same}
use Rattle.qp_plain.specs.Book.{Hands, logs_of}
use Rattle.qp_plain.specs.World.{StopIs}
use Rattle.qp_plain.proofs.NoteCalls.{here-tells}
use Rattle.qp_plain.proofs.Stopping.{not-zero, stop-first, stop-later}
use Rattle.qp_calls_log.proofs.NoteLemmas.{code-within, stop-caused}
use Rattle.qp_calls.specs.Clauses.{Stops}
use Rattle.qp_plain.proofs.calls.PlainWorldOps.stop.Goals as goal

moved : (w : PlainWorld) (b : Book) → lists_of b ≡ lists_of w.book → b.order.items ≡ w.book.order.items
    → WorldHolds w.sys.now (lists_of b) b.order.items w.pools.items w.blocks.items w.cells.items w.queues.items w.signals.items w.timers.items
moved w b lists order =
    subst (λ ls. WorldHolds w.sys.now ls b.order.items w.pools.items w.blocks.items w.cells.items w.queues.items w.signals.items w.timers.items) (sym lists)
    (subst (λ xs. WorldHolds w.sys.now (lists_of w.book) xs w.pools.items w.blocks.items w.cells.items w.queues.items w.signals.items w.timers.items) (sym order) w.holds)

same-view : (w : PlainWorld) (b : Book) (stops answered : List ℕ) → lists_of b ≡ lists_of w.book → b.order.items ≡ w.book.order.items → b.at ≡ w.book.at → b.here.spare ≡ w.book.here.spare
    → b.here.stops.list ≡ stops → b.here.answered.list ≡ answered → b.others.items ≡ w.book.others.items
    → view_with w b ≡ view_of w.sys.now (lists_of w.book) w.book.order.items w.book.at w.book.here.spare w.by stops answered (purses_of w.book)
same-view w b stops answered lists order at spare s a others =
    ap (λ x. view_of w.sys.now x b.order.items b.at b.here.spare w.by b.here.stops.list b.here.answered.list (purses_of b)) lists
    ∙ ap (λ x. view_of w.sys.now (lists_of w.book) x b.at b.here.spare w.by b.here.stops.list b.here.answered.list (purses_of b)) order
    ∙ ap (λ x. view_of w.sys.now (lists_of w.book) w.book.order.items x b.here.spare w.by b.here.stops.list b.here.answered.list (purses_of b)) at
    ∙ ap (λ x. view_of w.sys.now (lists_of w.book) w.book.order.items w.book.at x w.by b.here.stops.list b.here.answered.list (purses_of b)) spare
    ∙ ap (λ x. view_of w.sys.now (lists_of w.book) w.book.order.items w.book.at w.book.here.spare w.by x b.here.answered.list (purses_of b)) s
    ∙ ap (λ x. view_of w.sys.now (lists_of w.book) w.book.order.items w.book.at w.book.here.spare w.by stops x (purses_of b)) a
    ∙ ap (λ x. view_of w.sys.now (lists_of w.book) w.book.order.items w.book.at w.book.here.spare w.by stops answered x) (purses-same w.book b others at)

handed : (w : PlainWorld) (b : Book) (code : ℕ) → Hands code w.book b → Stops code (world_view w) (view_with w b)
unfolding view_of
handed w b code h = same-view w b (code ∷ w.book.here.stops.list) w.book.here.answered.list h.lists h.order h.at h.spare h.stops h.answered h.others

pub hand-requires : goal.hand-requires
hand-requires c = stop-caused c.args.self.now.book.here (world_view c.args.self.now) c.args.code (here-tells c.args.self.now) c.requires

pub invariant_of-self : goal.invariant_of-self
invariant_of-self c =
    let w = c.args.self.now in
    let h = c.hand.ensures in
    let within = code-within (world_view w) c.args.code c.requires in
    record { holds = moved w c.hand.new.self h.lists h.order; stops = stop-first c.args.code w.book c.hand.new.self h within.0 within.1 w.book.within (subst (λ x. StopIs x (logs_of w.book)) c.if-self-eq0.true w.stops) }

pub invariant_of-self-else-self-eq0 : goal.invariant_of-self-else-self-eq0
invariant_of-self-else-self-eq0 c =
    let w = c.args.self.now in
    let h = c.hand.ensures in
    record { holds = moved w c.hand.new.self h.lists h.order; stops = stop-later w.stop c.args.code w.book c.hand.new.self h c.if-self-eq0.false w.book.within w.stops }

pub returns-then-self-eq0 : goal.returns-then-self-eq0
returns-then-self-eq0 c = record { hands = handed c.args.self.now c.hand.new.self c.args.code c.hand.ensures; word = rw c.if-self-eq0.true refl }

pub returns-else-self-eq0 : goal.returns-else-self-eq0
returns-else-self-eq0 c = record { hands = handed c.args.self.now c.hand.new.self c.args.code c.hand.ensures; word = rw (not-zero c.args.self.now.stop c.if-self-eq0.false) refl }
