use Rattle.std.proofs.Common.{ap, false, length, refl, subst, sym, true, ◌≡◌, ◌≤◌, ◌∙◌}
use Rattle.qp_calls.specs.Clauses.{Stops}
use Rattle.qp_kernel.specs.Interrupting.{is_unset}
use Rattle.qp_kernel_turns.specs.Halting.{asked_once}
use Rattle.qp_kernel_turns.proofs.Ordered.{unset-by}
use Rattle.qp_wait.specs.Wrapped.{ringing_view}
use Rattle.qp_wait.specs.Lane.{LooksAtCount, bell_view}
use Rattle.qp_wait.specs.Pausing.{HasLook}
use Rattle.qp_wait.proofs.Parts.{looked, parked-then, rests-same, rests-then}
use Rattle.qp_wait.proofs.pausing.pause.Goals as goal

pub returns-then-is_over-clause-pauses : goal.returns-then-is_over-clause-pauses
returns-then-is_over-clause-pauses g c = looked true c.args.lane.now c.is_over.new.self (subst (λ b. LooksAtCount b c.args.lane.now c.is_over.new.self) c.if-is_over.true c.is_over.ensures)

pub park-requires-clause-look : goal.park-requires-clause-look
park-requires-clause-look g c =
    subst (λ v. HasLook c.args.me v.told) (sym c.in_default.ensures.stops.0) (subst (λ r. HasLook c.args.me (ringing_view r).told) (sym c.is_over.ensures.ringing) c.requires.look)

pub returns-clause-pauses : goal.returns-clause-pauses
returns-clause-pauses g c =
    let some = subst (λ b. LooksAtCount b c.args.lane.now c.is_over.new.self) c.if-is_over.false c.is_over.ensures in
    let one = looked false c.args.lane.now c.is_over.new.self some in
    let asks = c.in_default.ensures.stops.0 in (
      parked-then c.args.me c.args.lane.now _ c.park.new.lane (rests-then c.args.lane.now c.is_over.new.self _ one.rests (rests-same c.is_over.new.self _ refl refl))
          (ap (λ v. v.told) asks ∙ ap (λ v. v.told) one.lane) one.parks c.in-Ok.ensures.0,
      c.in-Ok.ensures.1 ∙ asks ∙ ap (λ v. asked_once v) one.lane,
    )

pub park-requires-clause-found : goal.park-requires-clause-found
park-requires-clause-found g c = c.in_default.ensures.found ∙ ap (λ r. r.found) c.is_over.ensures.ringing ∙ c.requires.found

pub returns-clause-unset : goal.returns-clause-unset
returns-clause-unset g c =
    let e = c.in_default.ensures.stops in
    let now = ringing_view c.is_over.new.self.ringing in
    subst (λ r. is_unset (ringing_view r) ≡ true) c.is_over.ensures.ringing (unset-by now e.1 e.2 e.3)

pub park-requires-clause-few : goal.park-requires-clause-few
park-requires-clause-few g c =
    subst (λ v. length v.told ≤ 1000000) (sym c.in_default.ensures.stops.0) (subst (λ r. length (ringing_view r).told ≤ 1000000) (sym c.is_over.ensures.ringing) c.requires.few)

pub returns-in_default-park-clause-pauses : goal.returns-in_default-park-clause-pauses
returns-in_default-park-clause-pauses g c =
    let x = c.args.lane.now in
    let p = c.park.new.lane in
    let some = subst (λ b. LooksAtCount b x c.is_over.new.self) c.if-is_over.false c.is_over.ensures in
    let one = looked false x c.is_over.new.self some in
    let asks = c.in_default.ensures.stops.0 in
    let none = c.in_default-park.ensures in
    let same : bell_view p ≡ asked_once (bell_view x) = none.lane ∙ asks ∙ ap (λ v. asked_once v) one.lane in
    record {
      rests = rests-then x p _ (rests-then x _ p (rests-then x c.is_over.new.self _ one.rests (rests-same c.is_over.new.self _ refl refl)) none.rests) (rests-same p _ refl refl);
      stops = subst (λ v. Stops 7 v (ringing_view c.stop.new.self)) same c.stop.ensures;
      parks = none.parks ∙ one.parks;
    }
