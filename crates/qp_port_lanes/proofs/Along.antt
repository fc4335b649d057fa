-- The lane of a source goes on.
use Rattle.std.proofs.Common.{◌≡◌, ◌++◌, List, [], refl, sym, ◌∙◌, ap, arith, append_assoc, append-nil}
use Rattle.qp_model.specs.Told.{ToldItem}
use Rattle.qp_calls.specs.LaneView.{Gains, LaneView, Roomier}
use Rattle.qp_calls.proofs.Advancing.{advances-none}
use Rattle.qp_kernel_turns.specs.Halting.{asked_once}
use Rattle.qp_port_lanes.specs.Passing.{Glances, GoesAlong}
use Rattle.qp_port_lanes.proofs.Going.{same-gains}
use Rattle.qp_port_lanes.proofs.Turned.{same-then}

pub along-none : (v : LaneView) → GoesAlong v v
along-none v = record {
  ts = [];
  told = sym (append-nil v.told);
  hands = refl;
  stops = refl;
  answered = refl;
  asked = omega arith;
  keeps = record { sys = refl; lane = refl; world = refl; plan = refl; happened = refl; serves = λ o. refl; advances = advances-none v };
}

-- by a question in vain
pub along-once : (v : LaneView) → GoesAlong v (asked_once v)
along-once v = record {
  ts = [];
  told = sym (append-nil v.told);
  hands = refl;
  stops = refl;
  answered = refl;
  asked = omega arith;
  keeps = record { sys = refl; lane = refl; world = refl; plan = refl; happened = refl; serves = λ o. refl; advances = advances-none v };
}

pub along-glances : (v w : LaneView) → Glances v w → GoesAlong v w
along-glances v w g = record { ts = []; told = g.told ∙ sym (append-nil v.told); hands = g.hands; stops = g.stops; answered = g.answered; asked = let same = g.asked in omega (arith, same); keeps = g.keeps }

pub along-room : (v w : LaneView) → Roomier (asked_once v) w → GoesAlong v w
along-room v w room = record {
  ts = [];
  told = rw room.same (sym (append-nil v.told));
  hands = rw room.same refl;
  stops = rw room.same refl;
  answered = rw room.same refl;
  asked = let one = ap (λ u. u.asked) room.same in omega (arith, one);
  keeps = rw room.same (record { sys = refl; lane = refl; world = refl; plan = refl; happened = refl; serves = λ o. refl; advances = advances-none v });
}

pub along-gains : (ts : List ToldItem) (v w : LaneView) → Gains ts v w → w.hands ≡ v.hands → GoesAlong v w
along-gains ts v w g hands = record { ts = ts; told = g.told; hands = hands; stops = g.stops; answered = g.answered; asked = let same = g.asked in omega (arith, same); keeps = same-gains ts v w g }

pub along-then : (u v w : LaneView) → GoesAlong u v → GoesAlong v w → GoesAlong u w
along-then u v w a b = record {
  ts = a.ts ++ b.ts;
  told = b.told ∙ ap (λ ts. ts ++ b.ts) a.told ∙ append_assoc u.told a.ts b.ts;
  hands = b.hands ∙ a.hands;
  stops = b.stops ∙ a.stops;
  answered = b.answered ∙ a.answered;
  asked = let one = a.asked in let two = b.asked in omega (arith, one, two);
  keeps = same-then u v w a.keeps b.keeps;
}
