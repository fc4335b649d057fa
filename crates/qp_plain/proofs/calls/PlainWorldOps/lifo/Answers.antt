use Rattle.std.proofs.Common.{◌≡◌, ◌≢◌, ℕ, ◌+◌, ◌-◌, ◌≤◌, length, refl, ◌∙◌, ap, arith, IsTrue}
use Rattle.qp_model.specs.declared.words.Word.TheVariants as word
use Rattle.qp_plain_words.specs.Queue.{Queue}
use Rattle.qp_plain_sound.specs.View.{view_of}
use Rattle.qp_plain_sound.specs.WordStates.{line_in}
use Rattle.qp_model.specs.WordLaw.{is_object}
use Rattle.qp_model.specs.Sites.{ring_of}
use Rattle.qp_plain.specs.declared.world.PlainWorld.{PlainWorld}
use Rattle.qp_plain.specs.Book.{lists_of}
use Rattle.qp_plain.specs.WorldView.{world_view}
use Rattle.qp_plain.proofs.Calling.{view_with, stop-stays, queue-at}
use Rattle.qp_plain.proofs.Mays.{room-is, stands-token}
use Rattle.qp_plain.proofs.Turns.{tries-drawn, tries-shown}
use Rattle.qp_model.specs.declared.bodies.Body.TheVariants.{Lifo}
use Rattle.qp_plain.proofs.QueueCalls as queue
use Rattle.qp_plain.proofs.QueueTable.{there, put, kept, few}
use Rattle.qp_plain.proofs.SignalTable.{mine}
use Rattle.qp_plain.proofs.calls.PlainWorldOps.lifo.Goals as goal

full : (w : PlainWorld) (b : ℕ) (q : Queue) (free : ℕ) → IsTrue (is_object w.sys.now b) → q ≡ record { line = line_in w.sys.now (lists_of w.book) b; ring = ring_of w.sys.now b }
    → free ≡ q.ring + 1 - length q.line.entries → free ≡ 0 → length q.line.entries ≡ q.ring + 1
full w b q free h is e none =
    let at = room-is w b _ _ _ (record { object = h; firsts = refl; lasts = refl; takes = refl }) in
    let long = ap (λ x. length x.line.entries) is in
    let ring = ap (λ x. x.ring) is in
    omega (arith, at.fits, long, ring, e, none)

room : (ring n free : ℕ) → free ≡ ring + 1 - n → free ≢ 0 → n ≤ ring
room ring n free e some = omega (arith, e, some)

pub index_mut-word-requires : goal.index_mut-word-requires
index_mut-word-requires g c = let lt = there c.args.self.now c.args.self.now.by c.from.result (mine c.args.self.now c.requires.object) c.from.ensures in omega (arith, lt, c.args.self.now.queues.ok.0)

pub add-requires-clause-room : goal.add-requires-clause-room
unfolding view_of
add-requires-clause-room g c = c.requires.room

pub add-requires-2-clause-room : goal.add-requires-2-clause-room
unfolding view_of
add-requires-2-clause-room g c = c.requires.room

pub invariant_of-self : goal.invariant_of-self
invariant_of-self g c = record {
  holds = kept c.args.self.now c.add.new.self c.from.result c.index_mut-word.result.now c.index_mut-word.ensures.value (queue.lifo-not-holds c.args.self.now c.add.new.self c.no_lifo.result c.add.ensures.gains c.args.self.now.by c.counts-now.result.f c.counts-now.result.l c.counts-now.result.m c.index_mut-word.result.now (mine c.args.self.now c.requires.object) (queue-at c.args.self.now c.args.self.now.by c.from.result c.index_mut-word.result.now (mine c.args.self.now c.requires.object) c.from.ensures c.index_mut-word.ensures.value) c.counts-now.ensures.f c.counts-now.ensures.l c.counts-now.ensures.m refl c.no_lifo.ensures (full c.args.self.now c.args.self.now.by c.index_mut-word.result.now c.free.result (mine c.args.self.now c.requires.object) (queue-at c.args.self.now c.args.self.now.by c.from.result c.index_mut-word.result.now (mine c.args.self.now c.requires.object) c.from.ensures c.index_mut-word.ensures.value) c.free.ensures c.if-free-eq0.true));
  stops = stop-stays c.args.self.now.stop c.args.self.now.book c.add.new.self c.add.ensures.gains.stays c.args.self.now.stops;
}

pub returns-then-free-eq0-clause-claims : goal.returns-then-free-eq0-clause-claims
returns-then-free-eq0-clause-claims g c = queue.lifo-not c.args.self.now c.add.new.self c.no_lifo.result c.add.ensures.gains c.args.self.now.by c.counts-now.result.f c.counts-now.result.l c.counts-now.result.m c.index_mut-word.result.now (mine c.args.self.now c.requires.object) (queue-at c.args.self.now c.args.self.now.by c.from.result c.index_mut-word.result.now (mine c.args.self.now c.requires.object) c.from.ensures c.index_mut-word.ensures.value) c.counts-now.ensures.f c.counts-now.ensures.l c.counts-now.ensures.m c.add.ensures.spare c.args.e refl c.no_lifo.ensures (full c.args.self.now c.args.self.now.by c.index_mut-word.result.now c.free.result (mine c.args.self.now c.requires.object) (queue-at c.args.self.now c.args.self.now.by c.from.result c.index_mut-word.result.now (mine c.args.self.now c.requires.object) c.from.ensures c.index_mut-word.ensures.value) c.free.ensures c.if-free-eq0.true)

pub returns-then-free-eq0-clause-tries : goal.returns-then-free-eq0-clause-tries
unfolding view_of
returns-then-free-eq0-clause-tries g c =
    tries-shown (word.Queue c.args.self.now.by) c.args.steps.now c.step.new.self (world_view c.args.self.now) (view_with c.args.self.now c.add.new.self) c.step.ensures
    ((returns-then-free-eq0-clause-claims g c).adds.grows.rise (word.Queue c.args.self.now.by))

pub overflow_add-now : goal.overflow_add-now
overflow_add-now g c = let le = few c.args.self.now c.args.self.now.by c.index_mut-word.result.now (mine c.args.self.now c.requires.object) (queue-at c.args.self.now c.args.self.now.by c.from.result c.index_mut-word.result.now (mine c.args.self.now c.requires.object) c.from.ensures c.index_mut-word.ensures.value) in record { fits = omega (arith, le, c.counts-now.ensures.l) }

pub post_front-requires-clause-few : goal.post_front-requires-clause-few
post_front-requires-clause-few g c = let le = few c.args.self.now c.args.self.now.by c.index_mut-word.result.now (mine c.args.self.now c.requires.object) (queue-at c.args.self.now c.args.self.now.by c.from.result c.index_mut-word.result.now (mine c.args.self.now c.requires.object) c.from.ensures c.index_mut-word.ensures.value) in omega (arith, le)

pub post_front-requires-clause-token : goal.post_front-requires-clause-token
post_front-requires-clause-token g c = stands-token c.args.self.now c.args.e c.requires.stands

pub invariant_of-self-2 : goal.invariant_of-self-2
invariant_of-self-2 g c = record {
  holds = put c.args.self.now c.add-2.new.self c.args.self.now.by c.from.result c.post_front.new.self c.from.ensures (queue.lifo-holds c.args.self.now c.add-2.new.self c.lifo-rec.result c.add-2.ensures.gains c.args.self.now.by c.counts-now.result.f c.counts-now.result.l c.counts-now.result.m c.index_mut-word.result.now (mine c.args.self.now c.requires.object) (queue-at c.args.self.now c.args.self.now.by c.from.result c.index_mut-word.result.now (mine c.args.self.now c.requires.object) c.from.ensures c.index_mut-word.ensures.value) c.counts-now.ensures.f c.counts-now.ensures.l c.counts-now.ensures.m c.args.e c.post_front.new.self refl (c.lifo-rec.ensures ∙ ap (λ x. record { of = c.args.self.now.by; body = Lifo c.counts-now.result.f (c.counts-now.result.l + 1) c.counts-now.result.m x }) c.stated.ensures) c.requires.stands (room _ _ _ c.free.ensures c.if-free-eq0.false) c.post_front.ensures.ring c.post_front.ensures.line);
  stops = stop-stays c.args.self.now.stop c.args.self.now.book c.add-2.new.self c.add-2.ensures.gains.stays c.args.self.now.stops;
}

pub returns-clause-claims : goal.returns-clause-claims
returns-clause-claims g c = queue.lifo-it c.args.self.now c.add-2.new.self c.lifo-rec.result c.add-2.ensures.gains c.args.self.now.by c.counts-now.result.f c.counts-now.result.l c.counts-now.result.m c.index_mut-word.result.now (mine c.args.self.now c.requires.object) (queue-at c.args.self.now c.args.self.now.by c.from.result c.index_mut-word.result.now (mine c.args.self.now c.requires.object) c.from.ensures c.index_mut-word.ensures.value) c.counts-now.ensures.f c.counts-now.ensures.l c.counts-now.ensures.m c.add-2.ensures.spare c.args.e refl (c.lifo-rec.ensures ∙ ap (λ x. record { of = c.args.self.now.by; body = Lifo c.counts-now.result.f (c.counts-now.result.l + 1) c.counts-now.result.m x }) c.stated.ensures) c.requires.stands (room _ _ _ c.free.ensures c.if-free-eq0.false)

pub returns-clause-tries : goal.returns-clause-tries
unfolding view_of
returns-clause-tries g c =
    tries-drawn (word.Queue c.args.self.now.by) c.args.steps.now c.step.new.self (world_view c.args.self.now) (view_with c.args.self.now c.add-2.new.self) c.step.ensures (returns-clause-claims g c).up
