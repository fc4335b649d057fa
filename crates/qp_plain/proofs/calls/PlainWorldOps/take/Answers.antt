use Rattle.std.proofs.Common.{◌≡◌, ℕ, ◌+◌, ◌<◌, get_or, slice_set, sym, ◌∙◌, ap, subst, arith, IsTrue}
use Rattle.qp_plain_words.specs.Queue.{Queue}
use Rattle.qp_plain_sound.specs.View.{view_of}
use Rattle.qp_model.specs.WordLaw.{is_object}
use Rattle.qp_plain.specs.declared.book.Book.{Book}
use Rattle.qp_plain.specs.declared.world.PlainWorld.{PlainWorld}
use Rattle.qp_plain.specs.Book.{lists_of, purses_of}
use Rattle.qp_plain.specs.World.{WorldHolds}
use Rattle.qp_plain.specs.WorldView.{world_view}
use Rattle.qp_plain.proofs.Calling.{stop-stays, queue-at}
use Rattle.qp_model.specs.declared.bodies.Body.TheVariants.{Took}
use Rattle.qp_calls.specs.LaneView.{NotShown}
use Rattle.qp_calls.specs.Clauses.{last_nil, same_counts}
use Rattle.qp_model.specs.History.{lane_items}
use Rattle.qp_plain_sound.proofs.CallQueues.{take-finds_none}
use Rattle.qp_calls_log.specs.Lane.{last_nil_in}
use Rattle.qp_calls_log.specs.LaneLaws.{told-nil}
use Rattle.qp_plain.proofs.NoteCalls.{here-tells}
use Rattle.qp_plain.proofs.QueueCalls as queue
use Rattle.qp_plain.proofs.QueueTable.{there, put, kept, few, mine}
use Rattle.qp_plain.proofs.calls.PlainWorldOps.take.Goals as goal

same-queue : (a b : Queue) → a.line ≡ b.line → a.ring ≡ b.ring → a ≡ b
same-queue a b line ring = ap (λ x. record { line = x; ring = a.ring }) line ∙ ap (λ x. record { line = b.line; ring = x }) ring

left : (w : PlainWorld) (b : Book) (k : ℕ) (q x : Queue) → x ≡ q → q ≡ get_or w.queues.items k q → WorldHolds w.sys.now (lists_of b) b.order.items w.pools.items w.blocks.items w.cells.items w.queues.items w.signals.items w.timers.items
    → WorldHolds w.sys.now (lists_of b) b.order.items w.pools.items w.blocks.items w.cells.items (slice_set w.queues.items k x) w.signals.items w.timers.items
left w b k q x is e h = subst (λ z. WorldHolds w.sys.now (lists_of b) b.order.items w.pools.items w.blocks.items w.cells.items (slice_set w.queues.items k z) w.signals.items w.timers.items) (sym is) (kept w b k q e h)

-- what the lane told last of the queue
nil-is : (w : PlainWorld) (a : ℕ) → last_nil a NotShown (world_view w).told ≡ last_nil_in a NotShown (lane_items w.book.here.recs.items)
nil-is w a = told-nil a NotShown (world_view w).told ∙ ap (last_nil_in a NotShown) (here-tells w).told

within : (w : PlainWorld) (a : ℕ) → IsTrue (is_object w.sys.now a) → a < 33
within w a h = let few = w.holds.limits.objects a h in omega (arith, few.1)

pub index_mut-word-requires : goal.index_mut-word-requires
index_mut-word-requires g c = let lt = there c.args.self.now c.args.me c.from.result (mine c.args.self.now c.args.me c.requires.object) c.from.ensures in omega (arith, lt, c.args.self.now.queues.ok.0)

pub take-requires : goal.take-requires
take-requires g c = let le = few c.args.self.now c.args.me c.index_mut-word.result.now (mine c.args.self.now c.args.me c.requires.object) (queue-at c.args.self.now c.args.me c.from.result c.index_mut-word.result.now (mine c.args.self.now c.args.me c.requires.object) c.from.ensures c.index_mut-word.ensures.value) in record { few = omega (arith, le) }

pub overflow_add-now : goal.overflow_add-now
overflow_add-now g c = let le = few c.args.self.now c.args.me c.index_mut-word.result.now (mine c.args.self.now c.args.me c.requires.object) (queue-at c.args.self.now c.args.me c.from.result c.index_mut-word.result.now (mine c.args.self.now c.args.me c.requires.object) c.from.ensures c.index_mut-word.ensures.value) in record { fits = omega (arith, le, c.counts-now.ensures.m) }

pub add-requires-clause-room : goal.add-requires-clause-room
unfolding view_of
add-requires-clause-room g c = c.requires.room

pub invariant_of-self : goal.invariant_of-self
invariant_of-self g c = record {
  holds = put c.args.self.now c.add.new.self c.args.me c.from.result c.take.new.self c.from.ensures (queue.take-holds c.args.self.now c.add.new.self c.took.result c.add.ensures.gains c.args.me c.counts-now.result.f c.counts-now.result.l c.counts-now.result.m c.index_mut-word.result.now (mine c.args.self.now c.args.me c.requires.object) (queue-at c.args.self.now c.args.me c.from.result c.index_mut-word.result.now (mine c.args.self.now c.args.me c.requires.object) c.from.ensures c.index_mut-word.ensures.value) c.counts-now.ensures.f c.counts-now.ensures.l c.counts-now.ensures.m c.in-Some.e c.take.new.self (c.took.ensures ∙ ap (λ x. record { of = c.args.me; body = Took c.counts-now.result.f c.counts-now.result.l (c.counts-now.result.m + 1) x }) c.stated.ensures) c.in-Some.ensures.takes.0 c.in-Some.ensures.ring c.in-Some.ensures.takes.1);
  stops = stop-stays c.args.self.now.stop c.args.self.now.book c.add.new.self c.add.ensures.gains.stays c.args.self.now.stops;
}

pub returns-in-Some : goal.returns-in-Some
returns-in-Some g c = queue.take-it c.args.self.now c.add.new.self c.took.result c.add.ensures.gains c.args.me c.counts-now.result.f c.counts-now.result.l c.counts-now.result.m c.index_mut-word.result.now (mine c.args.self.now c.args.me c.requires.object) (queue-at c.args.self.now c.args.me c.from.result c.index_mut-word.result.now (mine c.args.self.now c.args.me c.requires.object) c.from.ensures c.index_mut-word.ensures.value) c.counts-now.ensures.f c.counts-now.ensures.l c.counts-now.ensures.m c.add.ensures.spare c.in-Some.e c.take.new.self.line.entries c.in-Some.ensures.token (c.took.ensures ∙ ap (λ x. record { of = c.args.me; body = Took c.counts-now.result.f c.counts-now.result.l (c.counts-now.result.m + 1) x }) c.stated.ensures) c.in-Some.ensures.takes.0

pub tells-requires : goal.tells-requires
tells-requires g c = within c.args.self.now c.args.me (mine c.args.self.now c.args.me c.requires.object)

pub add_nil-requires-clause-room : goal.add_nil-requires-clause-room
unfolding view_of
add_nil-requires-clause-room g c = c.requires.room

pub add_nil-requires-clause-queue : goal.add_nil-requires-clause-queue
add_nil-requires-clause-queue g c = within c.args.self.now c.args.me (mine c.args.self.now c.args.me c.requires.object)

pub invariant_of-self-then-not-tells : goal.invariant_of-self-then-not-tells
invariant_of-self-then-not-tells g c = record {
  holds = left c.args.self.now c.add_nil.new.self c.from.result c.index_mut-word.result.now c.take.new.self (same-queue c.take.new.self c.index_mut-word.result.now c.in-None.ensures.takes.1 c.in-None.ensures.ring) c.index_mut-word.ensures.value (queue.nil-holds c.args.self.now c.add_nil.new.self c.nil.result c.add_nil.ensures.gains c.args.me c.counts-now.result.f c.counts-now.result.l c.counts-now.result.m c.index_mut-word.result.now (mine c.args.self.now c.args.me c.requires.object) (queue-at c.args.self.now c.args.me c.from.result c.index_mut-word.result.now (mine c.args.self.now c.args.me c.requires.object) c.from.ensures c.index_mut-word.ensures.value) c.counts-now.ensures.f c.counts-now.ensures.l c.counts-now.ensures.m c.nil.ensures c.in-None.ensures.takes.0);
  stops = stop-stays c.args.self.now.stop c.args.self.now.book c.add_nil.new.self c.add_nil.ensures.gains.stays c.args.self.now.stops;
}

pub invariant_of-self-else-not-tells : goal.invariant_of-self-else-not-tells
invariant_of-self-else-not-tells g c = record { holds = left c.args.self.now c.args.self.now.book c.from.result c.index_mut-word.result.now c.take.new.self (same-queue c.take.new.self c.index_mut-word.result.now c.in-None.ensures.takes.1 c.in-None.ensures.ring) c.index_mut-word.ensures.value c.args.self.now.holds; stops = c.args.self.now.stops }

pub returns-then-not-tells : goal.returns-then-not-tells
returns-then-not-tells g c = queue.take-none c.args.self.now c.add_nil.new.self c.nil.result c.add_nil.ensures.gains c.args.me c.counts-now.result.f c.counts-now.result.l c.counts-now.result.m c.index_mut-word.result.now (mine c.args.self.now c.args.me c.requires.object) (queue-at c.args.self.now c.args.me c.from.result c.index_mut-word.result.now (mine c.args.self.now c.args.me c.requires.object) c.from.ensures c.index_mut-word.ensures.value) c.counts-now.ensures.f c.counts-now.ensures.l c.counts-now.ensures.m c.add_nil.ensures.spare c.nil.ensures c.in-None.ensures.takes.0 (ap (λ x. same_counts x c.counts-now.result.f c.counts-now.result.l c.counts-now.result.m) (nil-is c.args.self.now c.args.me) ∙ sym c.tells.ensures ∙ c.if-not-tells.true)

pub returns-else-not-tells : goal.returns-else-not-tells
returns-else-not-tells g c =
    let w = c.args.self.now in
    let is = (queue-at c.args.self.now c.args.me c.from.result c.index_mut-word.result.now (mine c.args.self.now c.args.me c.requires.object) c.from.ensures c.index_mut-word.ensures.value) in
    let line = ap (λ x. x.line) is in
    take-finds_none w.sys.now (lists_of w.book) w.book.order.items w.book.at w.book.here.spare w.by w.book.here.stops.list w.book.here.answered.list (purses_of w.book) c.args.me
    c.counts-now.result.f c.counts-now.result.l c.counts-now.result.m w.holds.world
    (record { object = (mine c.args.self.now c.args.me c.requires.object); firsts = c.counts-now.ensures.f ∙ ap (λ x. x.f) line; lasts = c.counts-now.ensures.l ∙ ap (λ x. x.l) line; takes = c.counts-now.ensures.m ∙ ap (λ x. x.m) line })
    (ap (λ x. x.entries) (sym line) ∙ c.in-None.ensures.takes.0)
    (ap (λ x. same_counts x c.counts-now.result.f c.counts-now.result.l c.counts-now.result.m) (nil-is w c.args.me) ∙ sym c.tells.ensures ∙ c.if-not-tells.false)
