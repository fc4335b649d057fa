-- A lane that has only seen more: one that met another, looked at counts or asked whether it was stopped.
use Rattle.std.proofs.Common.{◌≡◌, ℕ, suc, ◌≤◌, List, ◌∷◌, length, ap, arith, Option, Some, None}
use Rattle.qp_model.specs.declared.words.Word.TheVariants as word
use Rattle.qp_calls.specs.declared.answers.Counts as counts
use Rattle.qp_calls.specs.Clauses.{Counted, Stopped}
use Rattle.qp_calls.specs.LaneView.{LaneView}
use Rattle.qp_calls_log.specs.Meeting.{Met}
use Rattle.qp_kernel_turns.specs.Lanes.{SameLane}
use Rattle.qp_port_lanes.specs.Laws.{LaneSeesMore}
use Rattle.qp_calls.proofs.Advancing.{advances-looks, advances-same, looks-rise}
use Rattle.qp_calls_log.proofs.Meetings.{advances-met}

-- nothing of it changed but what it has seen, and the codes that it found
pub record SeenMore (v w : LaneView) : Type 0 where
  pub sees : LaneSeesMore v w
  pub same : SameLane v w
  pub own : (a : ℕ) → w.own a ≡ v.own a
  pub stops : w.stops ≡ v.stops
  pub heard : length v.answered ≤ length w.answered

pub seen-met : (v u w : LaneView) → Met v u w → SeenMore v w
seen-met v u w h = record {
  sees = record {
    sys = ap (λ x. x.sys) h.same;
    told = ap (λ x. x.told) h.same;
    by = ap (λ x. x.by) h.same;
    hands = ap (λ x. x.hands) h.same;
    rise = λ p. let most = h.mark (word.Queue p) in omega (arith, most);
    shown = λ p. h.own (word.Queue p);
    asked = let same = ap (λ x. x.asked) h.same in omega (arith, same);
  };
  same = record {
    sys = ap (λ x. x.sys) h.same;
    lane = ap (λ x. x.lane) h.same;
    world = ap (λ x. x.world) h.same;
    plan = ap (λ x. x.plan) h.same;
    happened = ap (λ x. x.happened) h.same;
    serves = λ o. ap (λ x. x.serves o) h.same;
    advances = advances-met v u w h;
  };
  own = λ a. ap (λ x. x.own a) h.same;
  stops = ap (λ x. x.stops) h.same;
  heard = let same = ap (λ x. length x.answered) h.same in omega (arith, same);
}

pub seen-counted : (p : ℕ) (v w : LaneView) (c : counts.Counts) → Counted p v w c → SeenMore v w
seen-counted p v w c h = record {
  sees = record {
    sys = h.0.sys;
    told = h.0.told;
    by = h.0.by;
    hands = h.0.hands;
    rise = λ q. looks-rise (word.Queue p) _ _ v w h.0 (word.Queue q);
    shown = λ q. h.0.shown (word.Queue q);
    asked = let same = h.0.asked in omega (arith, same);
  };
  same = record { sys = h.0.sys; lane = h.0.lane; world = h.0.world; plan = h.0.plan; happened = h.0.happened; serves = h.0.serves; advances = advances-looks _ _ _ v w h.0 };
  own = h.0.own;
  stops = h.0.stops;
  heard = let same = ap length h.0.answered in omega (arith, same);
}

seen-answered : (v w : LaneView) (codes : List ℕ) → w ≡ record v { answered = codes; asked = suc v.asked } → length v.answered ≤ length codes → SeenMore v w
seen-answered v w codes e more = record {
  sees = record {
    sys = ap (λ x. x.sys) e;
    told = ap (λ x. x.told) e;
    by = ap (λ x. x.by) e;
    hands = ap (λ x. x.hands) e;
    rise = λ p. let same = ap (λ x. x.mark (word.Queue p)) e in omega (arith, same);
    shown = λ p still. ap (λ x. x.shown (word.Queue p)) e;
    asked = let one = ap (λ x. x.asked) e in omega (arith, one);
  };
  same = record {
    sys = ap (λ x. x.sys) e;
    lane = ap (λ x. x.lane) e;
    world = ap (λ x. x.world) e;
    plan = ap (λ x. x.plan) e;
    happened = ap (λ x. x.happened) e;
    serves = λ o. ap (λ x. x.serves o) e;
    advances = advances-same v w (ap (λ x. x.told) e) (ap (λ x. x.mark) e);
  };
  own = λ a. ap (λ x. x.own a) e;
  stops = ap (λ x. x.stops) e;
  heard = let same = ap (λ x. length x.answered) e in omega (arith, same, more);
}

pub seen-stopped : (v w : LaneView) (code : Option ℕ) → Stopped v w code → SeenMore v w
seen-stopped v w None h = seen-answered v w v.answered h.0 (omega arith)
seen-stopped v w (Some code) h = seen-answered v w (code ∷ v.answered) h.0 (omega arith)
