-- A lane stays the same one, whatever its calls do.
use Rattle.std.proofs.Common.{◌≡◌, ℕ, ◌+◌, Bool, true, false, List, [], ◌∷◌, refl, ◌∙◌, Option, Ok, Err}
use Rattle.std.specs.Prelude.{IfOk, IfErr}
use Rattle.std.specs.declared.result.Result.{Result}
use Rattle.std.specs.Bool.{MatchBool}
use Rattle.qp_base.specs.declared.event.Ev.{Ev}
use Rattle.qp_model.specs.declared.bodies.Entry as model
use Rattle.qp_model.specs.declared.bodies.Body.TheVariants.{Nil}
use Rattle.qp_model.specs.declared.systems.System.{System}
use Rattle.qp_model.specs.declared.words.Word.TheVariants as word
use Rattle.qp_model.specs.Calls.{Call}
use Rattle.qp_model.specs.Told.{Event, ToldItem, plain}
use Rattle.qp_calls.specs.declared.answers.Counts as answered
use Rattle.qp_calls.specs.declared.answers.Give.{Give}
use Rattle.qp_calls.specs.declared.answers.Give.TheVariants as give
use Rattle.qp_calls.specs.declared.answers.RoomFault.{RoomFault}
use Rattle.qp_calls.specs.declared.answers.Take.{Take}
use Rattle.qp_calls.specs.declared.answers.Take.TheVariants as take
use Rattle.qp_calls.specs.declared.did.Did.{Did}
use Rattle.qp_calls.specs.Clauses.{Counted, GivesBlock, Takes, last_nil, same_counts}
use Rattle.qp_calls.specs.Groups.{CallReturns, EndsStep, Refused}
use Rattle.qp_calls.specs.LaneView.{AddsOf, Counts, Gains, LaneView, Looks, NotShown, Roomier}
use Rattle.qp_calls_log.specs.Meeting.{Met}
use Rattle.qp_shared_tests.specs.Lanes.{IsPlayer, IsSame}

pub same-itself : (v : LaneView) → IsSame v v
same-itself v = record { sys = refl; number = refl; world = refl; serves = λ o. refl }

pub same-then : (u v w : LaneView) → IsSame u v → IsSame v w → IsSame u w
same-then u v w h k = record {
  sys = k.sys ∙ h.sys;
  number = k.number ∙ h.number;
  world = k.world ∙ h.world;
  serves = λ o. k.serves o ∙ h.serves o;
}

pub same-equal : (v w : LaneView) → w ≡ v → IsSame v w
same-equal v w e = rw e (same-itself v)

pub same-gains : (ts : List ToldItem) (v w : LaneView) → Gains ts v w → IsSame v w
same-gains ts v w g = record { sys = g.sys; number = g.lane; world = g.world; serves = g.serves }

pub same-room : (v w : LaneView) → Roomier v w → IsSame v w
same-room v w room = record { sys = rw room.same refl; number = rw room.same refl; world = rw room.same refl; serves = λ o. rw room.same refl }

pub same-met : (v u w : LaneView) → Met v u w → IsSame v w
same-met v u w met = record { sys = rw met.same refl; number = rw met.same refl; world = rw met.same refl; serves = λ o. rw met.same refl }

pub same-counted : (p : ℕ) (v w : LaneView) (c : answered.Counts) → Counted p v w c → IsSame v w
same-counted p v w c h = let looks = h.0 in record { sys = looks.sys; number = looks.lane; world = looks.world; serves = looks.serves }

pub same-call : (now : Option model.Entry) (c : Call) (v w : LaneView) (r : Result Did RoomFault) → CallReturns now c v w r → IsSame v w
same-call now c v w (Ok d) h = same-gains _ v w h.grows
same-call now c v w (Err fault) h = same-equal v w h.0

pub same-given : (pool : ℕ) (reserve : Option ℕ) (ev : Event) (v w : LaneView) (g : Give) → GivesBlock pool reserve ev v w g → IsSame v w
same-given pool reserve ev v w (give.Given f) h = same-gains _ v w h.adds.grows
same-given pool reserve ev v w (give.Short n free) h = same-gains _ v w h.adds.grows

none-same : (me f l m : ℕ) (v w : LaneView) (b : Bool) → MatchBool b (Looks (word.Queue me) (f + l + m) (Counts f l m) v w) (AddsOf me (plain (Nil f l m) ∷ []) v w) → IsSame v w
none-same me f l m v w true looks = record { sys = looks.sys; number = looks.lane; world = looks.world; serves = looks.serves }
none-same me f l m v w false adds = same-gains _ v w adds.grows

pub same-taken : (me : ℕ) (v w : LaneView) (t : Take) → Takes me v w t → IsSame v w
same-taken me v w (take.Taken e) h = same-gains _ v w h.adds.grows
same-taken me v w (take.Empty f l m) h = none-same me f l m v w (same_counts (last_nil me NotShown v.told) f l m) h.adds

pub same-ended : (e : model.Entry) (v w : LaneView) (r : Result Did RoomFault) → IfOk r (λ d. EndsStep e d v w) → IfErr r (λ fault. Refused fault v w) → IsSame v w
same-ended e v w (Ok d) ends refused = same-gains _ v w ends.released.grows
same-ended e v w (Err fault) ends refused = same-equal v w refused.0

-- A player stays one.
pub plays-on : (sys : System) (ev : Ev) (me to : ℕ) (v w : LaneView) → IsSame v w → IsPlayer sys ev me to v → IsPlayer sys ev me to w
plays-on sys ev me to v w same h = record {
  sound = h.sound;
  of = same.sys ∙ h.of;
  mine = h.mine;
  other = h.other;
  serves = same.serves me ∙ h.serves;
  fixed = h.fixed;
  event = h.event;
  pooled = h.pooled;
}
