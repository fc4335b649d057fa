-- What the parts of a turn leave of a lane's counts, and of its object.
use Rattle.std.proofs.Common.{◌≡◌, ℕ, ◌+◌, ◌<◌, ◌%◌, ◌^◌, Bool, true, false, [], ◌∷◌, ◌++◌, ◌∙◌, ap, subst, arith, Ok, Err, OnOk, OnErr}
use Rattle.std.specs.declared.result.Result.{Result}
use Rattle.qp_base.specs.declared.faults.Memory.{Memory}
use Rattle.qp_model.specs.declared.systems.System.{System}
use Rattle.qp_model.specs.Sound.{IsSound}
use Rattle.qp_calls.specs.LaneView.{LaneView}
use Rattle.qp_kernel_turns.specs.declared.halting.Halt.{Halt}
use Rattle.qp_kernel_turns.specs.declared.halting.Halt.TheVariants as halt
use Rattle.qp_kernel_turns.specs.Halting.{asked_once}
use Rattle.qp_kernel_turns.specs.Lanes.{LaneGoes, LaneHalts}
use Rattle.qp_kernel_turns.proofs.Lanes.{finds-stop, goes-once, goes-then, stops-memory}
use Rattle.qp_port_lanes.specs.declared.home.Home.{Home}
use Rattle.qp_port_lanes.specs.At.{IsHome}
use Rattle.qp_port_lanes.specs.Turning.{HomeHalts}
use Rattle.qp_port_lanes.proofs.Resting.{stops-found}
use Rattle.qp_wait_bells.specs.Tallies.{one_where}
use Rattle.qp_wait.specs.Wrapped.{lane_view, ringing_view}
use Rattle.qp_wait.specs.declared.lane.BellLane.{BellLane}
use Rattle.qp_wait.specs.Lane.{KeepsPerch, LooksAtCount, bell_view}
use Rattle.qp_wait.specs.Parked.{is_park_place, parks_of}
use Rattle.qp_wait.specs.Pausing.{HasNotParked, HasParkedAt, IsStopFound, Parks, Pauses, LaneRests}
use Rattle.qp_wait.specs.Steps.{ClosesStep, FinishesOne, KeepsCounts}

-- One is taken off behind a step.
pub finishes-one : (was is : Bool) (x y z : BellLane) → KeepsCounts x y → ClosesStep was is y z → FinishesOne was is x z
finishes-one was is x y z keeps c = record {
  perch = c.counts.perch ∙ keeps.perch;
  ended = c.counts.ended ∙ ap (λ n. (n + 1) % 2 ^ 64) keeps.ended;
  added = c.counts.added ∙ keeps.added;
  looks = c.counts.looks ∙ keeps.looks;
  last = c.counts.last;
  lasts = c.counts.lasts ∙ ap (λ n. n + one_where c.counts.last) keeps.lasts;
  so_far = c.counts.so_far;
  n = c.counts.n;
  first = c.counts.first;
  said = let same = keeps.said in let more = c.counts.said in omega (arith, same, more);
}

-- A park, and where none was made.

pub rests-same : (x w : BellLane) → w.closings ≡ x.closings → w.farewells ≡ x.farewells → LaneRests false x w
rests-same x w closings farewells = record {
  ended = ap (λ c. c.ended) closings;
  added = ap (λ c. c.seat.me.0.added) closings;
  looks = let same = ap (λ c. c.seat.me.0.empty_looks) closings in omega (arith, same);
  lasts = ap (λ c. c.seat.me.0.last_takes) closings;
  said = ap (λ f. f.said) farewells;
}

module _ (x w : BellLane) (keeps : KeepsPerch x w) where
  kept : LaneRests false x w
  kept = rests-same x w keeps.closings keeps.farewells

  pub parks-by : (me place : ℕ) (r : Result (Unit {0}) Memory) → (is_park_place me (bell_view x).told place ≡ true) × ((k : ℕ) → place < k → is_park_place me (bell_view x).told k ≡ false)
      → OnOk r (parks_of w.perch ≡ parks_of x.perch ++ place ∷ []) → OnErr r (parks_of w.perch ≡ parks_of x.perch) → Parks me x w r
  parks-by me place (Ok u) look one two =
      let same : bell_view w ≡ bell_view x = ap lane_view keeps.ringing.lane in
      (record { rests = kept; told = ap (λ v. v.told) same; place = place; look = look.0; last = look.1; parks = one; spent = keeps.ringing.found }, same)
  parks-by me place (Err e) look one two = record { rests = kept; lane = ap lane_view keeps.ringing.lane; parks = two }

pub looked : (over : Bool) (x y : BellLane) → LooksAtCount over x y → HasNotParked over x y
looked over x y looks = record {
  rests = record { ended = looks.ended; added = looks.added; looks = looks.looks; lasts = looks.lasts; said = ap (λ f. f.said) looks.farewells };
  lane = ap ringing_view looks.ringing;
  parks = ap parks_of looks.perch;
}

pub rests-then : (x y w : BellLane) → LaneRests false x y → LaneRests false y w → LaneRests false x w
rests-then x y w one two = record {
  ended = two.ended ∙ one.ended;
  added = two.added ∙ one.added;
  looks = let first = one.looks in let second = two.looks in omega (arith, first, second);
  lasts = two.lasts ∙ one.lasts;
  said = two.said ∙ one.said;
}

pub parked-then : (me : ℕ) (x y w : BellLane) → LaneRests false x y → (bell_view y).told ≡ (bell_view x).told → parks_of y.perch ≡ parks_of x.perch → HasParkedAt me y w → HasParkedAt me x w
parked-then me x y w rests told parks two = record {
  rests = rests-then x y w rests two.rests;
  told = two.told ∙ told;
  place = two.place;
  look = subst (λ ts. is_park_place me ts two.place ≡ true) told two.look;
  last = λ k less. subst (λ ts. is_park_place me ts k ≡ false) told (two.last k less);
  parks = two.parks ∙ ap (λ ks. ks ++ two.place ∷ []) parks;
  spent = two.spent;
}

-- The run stops where the queue was found empty.
module _ (sys : System) (sound : IsSound sys) (budget : ℕ) (y : Home) (z w : BellLane) (home : IsHome sys budget y (bell_view z)) where
  pub pause-stops : IsStopFound z w → HomeHalts sys budget y.me y (bell_view w) halt.Stopped
  pause-stops s = stops-found sys sound budget y (bell_view z) home (bell_view w) (ap (λ v. v.told) s.found.0)

  pub pause-halts : (u : LaneView) (h : Halt) → LaneGoes false u (bell_view z) → Pauses y.me z w (Err h) → (HomeHalts sys budget y.me y (bell_view w) h) × (LaneHalts false u (bell_view w) h)
  pause-halts u halt.Stopped goes s = (pause-stops s, finds-stop false s.code u (bell_view z) (bell_view w) goes s.found.0)
  pause-halts u halt.Memory goes s = (tt, stops-memory false u (asked_once (bell_view z)) (bell_view w) (goes-then false u (bell_view z) (asked_once (bell_view z)) goes (goes-once false (bell_view z))) s.stops)

pub pause-rests : (me : ℕ) (z w : BellLane) (h : Halt) → Pauses me z w (Err h) → ((bell_view w).told ≡ (bell_view z).told) × LaneRests false z w × (parks_of w.perch ≡ parks_of z.perch)
pause-rests me z w halt.Stopped s = (ap (λ v. v.told) s.found.0, s.rests, s.parks)
pause-rests me z w halt.Memory s = (ap (λ v. v.told) s.stops, s.rests, s.parks)
