use Rattle.std.proofs.Common.{◌≡◌, ℕ, ◌+◌, ◌-◌, ◌<◌, ◌≤◌, ◌∙◌, ap, arith}
use Rattle.qp_model.specs.declared.words.Word.TheVariants as word
use Rattle.qp_plain_sound.specs.View.{view_of}
use Rattle.qp_plain.specs.WorldView.{world_view}
use Rattle.qp_plain.proofs.Calling.{view_with, stop-stays, queue-at}
use Rattle.qp_plain.proofs.Mays.{stands-token}
use Rattle.qp_plain.proofs.Turns.{tries-drawn, tries-shown}
use Rattle.qp_model.specs.declared.bodies.Body.TheVariants.{Post}
use Rattle.qp_plain.proofs.QueueCalls as queue
use Rattle.qp_plain.proofs.QueueTable.{mine, there, put, kept, few}
use Rattle.qp_plain.proofs.calls.PlainWorldOps.claim.Goals as goal

short-of : (free from margin x : ℕ) → free ≡ x → from ≡ margin → {y : ℕ} → margin ≡ y → free ≤ from → x ≤ y
short-of free from margin x a b c le = omega (arith, a, b, c, le)

enough-of : (free from margin x : ℕ) → free ≡ x → from ≡ margin → {y : ℕ} → margin ≡ y → from < free → y < x
enough-of free from margin x a b c lt = omega (arith, a, b, c, lt)

room : (ring n : ℕ) (m : ℕ) → m < ring + 1 - n → n ≤ ring
room ring n m lt = omega (arith, lt)

pub index_mut-word-requires : goal.index_mut-word-requires
index_mut-word-requires g c = let lt = there c.args.self.now c.args.to c.from.result (mine c.args.self.now c.args.to c.requires.object) c.from.ensures in omega (arith, lt, c.args.self.now.queues.ok.0)

pub add-requires-clause-room : goal.add-requires-clause-room
unfolding view_of
add-requires-clause-room g c = c.requires.room

pub add-requires-2-clause-room : goal.add-requires-2-clause-room
unfolding view_of
add-requires-2-clause-room g c = c.requires.room

pub invariant_of-self : goal.invariant_of-self
invariant_of-self g c = record {
  holds = kept c.args.self.now c.add.new.self c.from.result c.index_mut-word.result.now c.index_mut-word.ensures.value (queue.claim-not-holds c.args.self.now c.add.new.self c.refusal.result c.add.ensures.gains c.args.to c.counts-now.result.f c.counts-now.result.l c.counts-now.result.m c.index_mut-word.result.now (mine c.args.self.now c.args.to c.requires.object) (queue-at c.args.self.now c.args.to c.from.result c.index_mut-word.result.now (mine c.args.self.now c.args.to c.requires.object) c.from.ensures c.index_mut-word.ensures.value) c.counts-now.ensures.f c.counts-now.ensures.l c.counts-now.ensures.m c.args.margin c.refusal.ensures (short-of _ _ _ _ c.free.ensures c.from-2.ensures c.unwrap_or.ensures c.if-free-from.true));
  stops = stop-stays c.args.self.now.stop c.args.self.now.book c.add.new.self c.add.ensures.gains.stays c.args.self.now.stops;
}

pub returns-then-free-from-clause-claims : goal.returns-then-free-from-clause-claims
returns-then-free-from-clause-claims g c = queue.claim-not c.args.self.now c.add.new.self c.refusal.result c.add.ensures.gains c.args.to c.counts-now.result.f c.counts-now.result.l c.counts-now.result.m c.index_mut-word.result.now (mine c.args.self.now c.args.to c.requires.object) (queue-at c.args.self.now c.args.to c.from.result c.index_mut-word.result.now (mine c.args.self.now c.args.to c.requires.object) c.from.ensures c.index_mut-word.ensures.value) c.counts-now.ensures.f c.counts-now.ensures.l c.counts-now.ensures.m c.add.ensures.spare c.args.e c.args.margin c.refusal.ensures (short-of _ _ _ _ c.free.ensures c.from-2.ensures c.unwrap_or.ensures c.if-free-from.true)

pub returns-then-free-from-clause-tries : goal.returns-then-free-from-clause-tries
returns-then-free-from-clause-tries g c =
    tries-shown (word.Queue c.args.to) c.args.steps.now c.step.new.self (world_view c.args.self.now) (view_with c.args.self.now c.add.new.self) c.step.ensures
    ((returns-then-free-from-clause-claims g c).adds.grows.rise (word.Queue c.args.to))

pub overflow_add-now : goal.overflow_add-now
overflow_add-now g c = let le = few c.args.self.now c.args.to c.index_mut-word.result.now (mine c.args.self.now c.args.to c.requires.object) (queue-at c.args.self.now c.args.to c.from.result c.index_mut-word.result.now (mine c.args.self.now c.args.to c.requires.object) c.from.ensures c.index_mut-word.ensures.value) in record { fits = omega (arith, le, c.counts-now.ensures.f) }

pub post-requires-clause-few : goal.post-requires-clause-few
post-requires-clause-few g c = let le = few c.args.self.now c.args.to c.index_mut-word.result.now (mine c.args.self.now c.args.to c.requires.object) (queue-at c.args.self.now c.args.to c.from.result c.index_mut-word.result.now (mine c.args.self.now c.args.to c.requires.object) c.from.ensures c.index_mut-word.ensures.value) in omega (arith, le)

pub post-requires-clause-token : goal.post-requires-clause-token
post-requires-clause-token g c = stands-token c.args.self.now c.args.e c.requires.stands

pub invariant_of-self-2 : goal.invariant_of-self-2
invariant_of-self-2 g c = record {
  holds = put c.args.self.now c.add-2.new.self c.args.to c.from.result c.post.new.self c.from.ensures (queue.claim-holds c.args.self.now c.add-2.new.self c.post-rec.result c.add-2.ensures.gains c.args.to c.counts-now.result.f c.counts-now.result.l c.counts-now.result.m c.index_mut-word.result.now (mine c.args.self.now c.args.to c.requires.object) (queue-at c.args.self.now c.args.to c.from.result c.index_mut-word.result.now (mine c.args.self.now c.args.to c.requires.object) c.from.ensures c.index_mut-word.ensures.value) c.counts-now.ensures.f c.counts-now.ensures.l c.counts-now.ensures.m c.args.e c.post.new.self (c.post-rec.ensures ∙ ap (λ x. record { of = c.args.self.now.by; body = Post c.args.to (c.counts-now.result.f + 1) c.counts-now.result.l c.counts-now.result.m x }) c.stated.ensures) c.requires.stands (room _ _ _ (enough-of _ _ _ _ c.free.ensures c.from-2.ensures c.unwrap_or.ensures c.if-free-from.false)) c.post.ensures.ring c.post.ensures.line);
  stops = stop-stays c.args.self.now.stop c.args.self.now.book c.add-2.new.self c.add-2.ensures.gains.stays c.args.self.now.stops;
}

pub returns-clause-claims : goal.returns-clause-claims
returns-clause-claims g c = queue.claim-it c.args.self.now c.add-2.new.self c.post-rec.result c.add-2.ensures.gains c.args.to c.counts-now.result.f c.counts-now.result.l c.counts-now.result.m c.index_mut-word.result.now (mine c.args.self.now c.args.to c.requires.object) (queue-at c.args.self.now c.args.to c.from.result c.index_mut-word.result.now (mine c.args.self.now c.args.to c.requires.object) c.from.ensures c.index_mut-word.ensures.value) c.counts-now.ensures.f c.counts-now.ensures.l c.counts-now.ensures.m c.add-2.ensures.spare c.args.e c.args.margin (c.post-rec.ensures ∙ ap (λ x. record { of = c.args.self.now.by; body = Post c.args.to (c.counts-now.result.f + 1) c.counts-now.result.l c.counts-now.result.m x }) c.stated.ensures) c.requires.stands (enough-of _ _ _ _ c.free.ensures c.from-2.ensures c.unwrap_or.ensures c.if-free-from.false)

pub returns-clause-tries : goal.returns-clause-tries
returns-clause-tries g c =
    tries-drawn (word.Queue c.args.to) c.args.steps.now c.step.new.self (world_view c.args.self.now) (view_with c.args.self.now c.add-2.new.self) c.step.ensures (returns-clause-claims g c).up
