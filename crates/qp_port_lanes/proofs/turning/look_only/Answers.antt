use Rattle.std.proofs.Common.{◌∙◌, ◌+◌, ◌≤◌, ◌++◌, ◌∷◌, [], ap, append_assoc, refl, subst, arith, inl, inr, false}
use Rattle.qp_model.specs.declared.bodies.Body.TheVariants as body
use Rattle.qp_model.specs.Told.{for_object, plain}
use Rattle.qp_calls.specs.Notes.{last_code}
use Rattle.qp_calls.proofs.Noting.{may-note}
use Rattle.qp_calls.proofs.NoteLemmas.{last-snoc}
use Rattle.qp_kernel.specs.Turning.{seen_told}
use Rattle.qp_kernel_turns.proofs.Lanes.{gains-goes, goes-then, stops-code}
use Rattle.qp_kernel_turns.proofs.Turns.{noted}
use Rattle.qp_port_lanes.specs.Turning.{StaysEmpty}
use Rattle.qp_port_lanes.proofs.Never.{never-same, never-spent, never-then}
use Rattle.qp_port_lanes.proofs.Resting.{object-in, seen-idles, stops-spent, unlooked}
use Rattle.qp_port_lanes.proofs.turning.look_only.Goals as goal

pub seen-now-requires-clause-object : goal.seen-now-requires-clause-object
seen-now-requires-clause-object g c =
    let lane = g.O.Ops.lane in
    let sys = c.args.sys.now in
    let x = c.args.home.now in
    let look = subst (StaysEmpty sys c.args.budget x (lane c.args.ops.now) (lane c.stays_empty.new.ops)) c.if-stays_empty.false c.stays_empty.ensures in
    object-in sys look.home.d look.home.chart x (lane c.stays_empty.new.ops) (lane c.stays_empty.new.ops) look.home.at refl

pub returns-then-from-clause-goes : goal.returns-then-from-clause-goes
returns-then-from-clause-goes g c =
    let lane = g.O.Ops.lane in
    let sys = c.args.sys.now in
    let x = c.args.home.now in
    let look = subst (StaysEmpty sys c.args.budget x (lane c.args.ops.now) (lane c.stays_empty.new.ops)) c.if-stays_empty.false c.stays_empty.ensures in
    let none : c.seen-now.result.f + c.seen-now.result.l ≤ c.seen-now.result.m = omega (arith, c.if-from.true, c.from.ensures, c.from-2.ensures, c.from-3.ensures) in
    seen-idles sys c.requires.sound c.args.budget x (lane c.stays_empty.new.ops) look.home (lane c.seen-now.new.self) c.seen-now.result c.seen-now.ensures
    (unlooked sys c.requires.sound c.args.budget x (lane c.stays_empty.new.ops) look.home (lane c.seen-now.new.self) c.seen-now.result look.entry c.seen-now.ensures none) c.requires.full none

pub returns-then-from-clause-lane : goal.returns-then-from-clause-lane
returns-then-from-clause-lane g c =
    let lane = g.O.Ops.lane in
    let look = subst (StaysEmpty c.args.sys.now c.args.budget c.args.home.now (lane c.args.ops.now) (lane c.stays_empty.new.ops)) c.if-stays_empty.false c.stays_empty.ensures in
    goes-then false (lane c.args.ops.now) (lane c.stays_empty.new.ops) (lane c.seen-now.new.self) look.goes (gains-goes false _ (lane c.stays_empty.new.ops) (lane c.seen-now.new.self) c.seen-now.ensures.0.grows)

pub note-requires : goal.note-requires
note-requires g c =
    let lane = g.O.Ops.lane in
    let look = subst (StaysEmpty c.args.sys.now c.args.budget c.args.home.now (lane c.args.ops.now) (lane c.stays_empty.new.ops)) c.if-stays_empty.false c.stays_empty.ensures in
    let one = look.spare in
    let two = c.seen-now.ensures.0.spare in
    let room = c.requires.room in
    may-note c.args.home.now.me body.Spent c.spent.result _ c.spent.ensures refl (omega (arith, one, two, room))

pub stop-requires : goal.stop-requires
stop-requires g c =
    let lane = g.O.Ops.lane in
    let spent = noted c.args.home.now.me body.Spent c.spent.result (lane c.seen-now.new.self) (lane c.note.new.self) c.spent.ensures c.note.ensures.grows in
    inr (omega arith, ap last_code spent.told ∙ last-snoc (lane c.seen-now.new.self).told (for_object c.args.home.now.me (plain body.Spent)))

pub returns-clause-goes : goal.returns-clause-goes
returns-clause-goes g c =
    let lane = g.O.Ops.lane in
    let sys = c.args.sys.now in
    let x = c.args.home.now in
    let look = subst (StaysEmpty sys c.args.budget x (lane c.args.ops.now) (lane c.stays_empty.new.ops)) c.if-stays_empty.false c.stays_empty.ensures in
    let spent = noted x.me body.Spent c.spent.result (lane c.seen-now.new.self) (lane c.note.new.self) c.spent.ensures c.note.ensures.grows in
    stops-spent sys c.requires.sound c.args.budget x (lane c.stays_empty.new.ops) look.home (lane c.seen-now.new.self) (lane c.note.new.self) (lane c.stop.new.self) c.seen-now.result c.seen-now.ensures
    (omega (arith, c.if-from.false, c.from.ensures, c.from-2.ensures, c.from-3.ensures)) c.requires.full spent c.stop.ensures

pub returns-clause-never : goal.returns-clause-never
returns-clause-never g c =
    let lane = g.O.Ops.lane in
    let x = c.args.home.now in
    let look = subst (StaysEmpty c.args.sys.now c.args.budget x (lane c.args.ops.now) (lane c.stays_empty.new.ops)) c.if-stays_empty.false c.stays_empty.ensures in
    let spent = noted x.me body.Spent c.spent.result (lane c.seen-now.new.self) (lane c.note.new.self) c.spent.ensures c.note.ensures.grows in
    never-then (lane c.args.ops.now) (lane c.stays_empty.new.ops) (lane c.stop.new.self) (never-same (lane c.args.ops.now) (lane c.stays_empty.new.ops) look.told)
    (never-spent x.me c.seen-now.result (lane c.stays_empty.new.ops) (lane c.seen-now.new.self) (lane c.note.new.self) (lane c.stop.new.self) c.seen-now.ensures
    (omega (arith, c.if-from.false, c.from.ensures, c.from-2.ensures, c.from-3.ensures)) spent c.stop.ensures)

pub returns-clause-lane : goal.returns-clause-lane
returns-clause-lane g c =
    let lane = g.O.Ops.lane in
    let look = subst (StaysEmpty c.args.sys.now c.args.budget c.args.home.now (lane c.args.ops.now) (lane c.stays_empty.new.ops)) c.if-stays_empty.false c.stays_empty.ensures in
    let spent = noted c.args.home.now.me body.Spent c.spent.result (lane c.seen-now.new.self) (lane c.note.new.self) c.spent.ensures c.note.ensures.grows in
    stops-code false 6 (lane c.args.ops.now) (lane c.note.new.self) (lane c.stop.new.self)
    (goes-then false (lane c.args.ops.now) (lane c.stays_empty.new.ops) (lane c.note.new.self) look.goes
    (goes-then false (lane c.stays_empty.new.ops) (lane c.seen-now.new.self) (lane c.note.new.self) (gains-goes false _ (lane c.stays_empty.new.ops) (lane c.seen-now.new.self) c.seen-now.ensures.0.grows)
    (gains-goes false _ (lane c.seen-now.new.self) (lane c.note.new.self) spent)))
    (omega arith) (ap last_code spent.told ∙ last-snoc (lane c.seen-now.new.self).told (for_object c.args.home.now.me (plain body.Spent))) c.stop.ensures

pub returns-then-stays_empty-clause-takes : goal.returns-then-stays_empty-clause-takes
returns-then-stays_empty-clause-takes g c =
    let lane = g.O.Ops.lane in
    let stays = subst (StaysEmpty c.args.sys.now c.args.budget c.args.home.now (lane c.args.ops.now) (lane c.stays_empty.new.ops)) c.if-stays_empty.true c.stays_empty.ensures in
    let empty = stays.0.empty in
    record { f = empty.f; l = empty.l; m = empty.m; empty = empty.none; told = inl stays.2 }

pub returns-then-from-clause-takes : goal.returns-then-from-clause-takes
returns-then-from-clause-takes g c =
    let lane = g.O.Ops.lane in
    let r = c.seen-now.result in
    let most = c.seen-now.ensures.2 in
    let look = subst (StaysEmpty c.args.sys.now c.args.budget c.args.home.now (lane c.args.ops.now) (lane c.stays_empty.new.ops)) c.if-stays_empty.false c.stays_empty.ensures in
    record {
      f = r.f;
      l = r.l;
      m = r.m;
      empty = omega (arith, most, c.if-from.true, c.from.ensures, c.from-2.ensures, c.from-3.ensures);
      told = inr (inr (c.seen-now.ensures.0.grows.told ∙ ap (λ ts. ts ++ seen_told c.args.home.now.me r.f r.l r.m ∷ []) look.told));
    }

pub returns-clause-takes : goal.returns-clause-takes
returns-clause-takes g c =
    let lane = g.O.Ops.lane in
    let r = c.seen-now.result in
    let me = c.args.home.now.me in
    let look = subst (StaysEmpty c.args.sys.now c.args.budget c.args.home.now (lane c.args.ops.now) (lane c.stays_empty.new.ops)) c.if-stays_empty.false c.stays_empty.ensures in
    let spent = noted me body.Spent c.spent.result (lane c.seen-now.new.self) (lane c.note.new.self) c.spent.ensures c.note.ensures.grows in
    let told = (lane c.args.ops.now).told in (
      record {
        ts = seen_told me r.f r.l r.m ∷ for_object me (plain body.Spent) ∷ [];
        told =
            ap (λ u. u.told) c.stop.ensures ∙ spent.told ∙ ap (λ ts. ts ++ for_object me (plain body.Spent) ∷ []) (c.seen-now.ensures.0.grows.told ∙ ap (λ ts. ts ++ seen_told me r.f r.l r.m ∷ []) look.told)
            ∙ append_assoc told (seen_told me r.f r.l r.m ∷ []) (for_object me (plain body.Spent) ∷ []);
        none = refl;
      },
      refl,
    )
