-- A question in vain leaves all as it was, but for the count of questions.
use Rattle.std.proofs.Common.{◌≡◌, ℕ, suc, ◌+◌, ◌≤◌, true, List, [], ◌∷◌, ◌++◌, refl, sym, ◌∙◌, arith, append-nil, Option, Some, None}
use Rattle.qp_model.specs.declared.systems.System.{System}
use Rattle.qp_calls.specs.Deferring.{StandAll}
use Rattle.qp_calls.specs.LaneView.{LaneView}
use Rattle.qp_calls.specs.declared.tokens.HeldEntry.{HeldEntry}
use Rattle.qp_calls.specs.declared.tokens.HeldEntry.TheVariants as token
use Rattle.qp_calls.proofs.Advancing.{advances-none}
use Rattle.qp_dispatch.specs.declared.lasting.Lasting.{Lasting}
use Rattle.qp_dispatch.specs.declared.steps.Position.{Position}
use Rattle.qp_dispatch.specs.declared.steps.Position.TheVariants as standing
use Rattle.qp_dispatch.specs.Objects.{setting_for}
use Rattle.qp_dispatch.specs.Parts.{IsPublishing, held_by}
use Rattle.qp_dispatch.specs.declared.part.Under.{Under}
use Rattle.qp_dispatch.specs.Resume.{IsUnderWay, step_event, remainder_of}
use Rattle.qp_dispatch.specs.Runs.{ObjectSetting}
use Rattle.qp_kernel_turns.specs.Halting.{asked_once}
use Rattle.qp_port_lanes.specs.declared.cursor.Cursor.{Cursor}
use Rattle.qp_port_lanes.specs.declared.home.Home.{Home}
use Rattle.qp_port_lanes.specs.At.{IsBusyHome}
use Rattle.qp_port_lanes.specs.CursorAt.{IsCursorAt}
use Rattle.qp_port_lanes.specs.Laws.{LaneSeesMore}
use Rattle.qp_port_lanes.specs.SourceTurning.{CursorGoes}
use Rattle.qp_port_lanes.proofs.Standing.{stay}

-- A source.

more-once : (v : LaneView) → LaneSeesMore v (asked_once v)
more-once v = record { sys = refl; told = refl; by = refl; hands = refl; rise = λ p. omega arith; shown = λ p e. refl; asked = omega arith }

pub cursor-once : (sys : System) (x : Cursor) (v : LaneView) → IsCursorAt sys x v → CursorGoes sys x x v (asked_once v)
cursor-once sys x v at = record {
  at = stay sys x v (asked_once v) at (more-once v);
  stim = refl;
  source = refl;
  lane = refl;
  settling = refl;
  further = omega arith;
  bare = λ k low high. absurd (omega (arith, low, high));
  ts = [];
  told = sym (append-nil v.told);
  hands = refl;
  stops = refl;
  answered = refl;
  keeps = record { sys = refl; lane = refl; world = refl; plan = refl; happened = refl; serves = λ o. refl; advances = advances-none v };
}

-- A step at a scheduling point.

stand-once : (es : List HeldEntry) (v : LaneView) → StandAll es v → StandAll es (asked_once v)
stand-once es v h = record { named = h.named; counts = h.counts }

publishing-once : (u : Option Under) (v : LaneView) → IsPublishing u v → IsPublishing u (asked_once v)
publishing-once None v h = h
publishing-once (Some u) v h = h

under-way-once : (home : ObjectSetting) (k : Lasting) (st : Position) (v : LaneView) → IsUnderWay home k st v → IsUnderWay home k st (asked_once v)
under-way-once home k standing.Between v h = h
under-way-once home k (standing.Taken e) v h = record { stand = stand-once (k.list.entries.items ++ e ∷ []) v h.stand; few = h.few }
under-way-once home k (standing.Within g) v h = record {
  hand = h.hand;
  is = h.is;
  may = h.may;
  able = h.able;
  publishing = publishing-once g.left.under v h.publishing;
  stand = stand-once (held_by k g.left.under ++ h.hand ∷ []) v h.stand;
  few = h.few;
}

event-once : (st : Position) (v : LaneView) → step_event st (asked_once v) ≡ step_event st v
event-once standing.Between v = refl
event-once (standing.Taken (token.Static sig)) v = refl
event-once (standing.Taken (token.Pool h)) v = refl
event-once (standing.Within g) v = refl

left-once : (home : ObjectSetting) (k : Lasting) (st : Position) (v : LaneView) → remainder_of home k st (asked_once v) ≡ remainder_of home k st v
left-once home k standing.Between v = refl
left-once home k (standing.Taken (token.Static sig)) v = refl
left-once home k (standing.Taken (token.Pool h)) v = refl
left-once home k (standing.Within g) v = refl

-- it waits there, and owes no question
pub busy-once : (sys : System) (budget : ℕ) (x : Home) (v : LaneView) → IsBusyHome sys budget true x v → (b : IsBusyHome sys budget true x (asked_once v)) × (x.object.taken + b.points ≤ suc v.asked)
busy-once sys budget x v h = (
  record {
    d = h.d;
    chart = h.chart;
    at = record {
      found = h.at.found;
      its = h.at.its;
      me = h.at.me;
      object = h.at.object;
      of = h.at.of;
      compiled = h.at.compiled;
      room = h.at.room;
      named = h.at.named;
      lane = h.at.lane;
      serves = h.at.serves;
      ceiling = h.at.ceiling;
      spills = h.at.spills;
      only = h.at.only;
    };
    es = h.es;
    points = h.points;
    ev = h.ev;
    e = h.e;
    left = h.left;
    c = h.c;
    busy = h.busy;
    unseen = h.unseen;
    turn = record {
      started = h.turn.started;
      under_way = under-way-once (setting_for sys h.chart x.object) x.object.lasting x.object.stage v h.turn.under_way;
      event = h.turn.event ∙ sym (event-once x.object.stage v);
      entry = h.turn.entry;
      left = h.turn.left ∙ sym (left-once (setting_for sys h.chart x.object) x.object.lasting x.object.stage v);
      config = h.turn.config;
    };
    taken = h.taken;
    records = h.records;
    asked = let had = h.asked in omega (arith, had);
  },
  let had = h.asked in omega (arith, had),
)
