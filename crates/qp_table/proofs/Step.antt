-- A step of one view keeps the rule where it keeps its parts.
use Rattle.std.proofs.Common.{◌≡◌, ℕ, ◌+◌, ◌<◌, ◌≤◌, List, [], ◌∷◌, ◌++◌, length, set, get_or, refl, sym, ap, subst, arith, length-append}
use mathlib.Core.Option.{some}
use lib.ListN.{get_elem?}
use Rattle.qp_model.specs.declared.record.Rec.{Rec}
use Rattle.qp_model.specs.declared.systems.System.{System}
use Rattle.qp_model.specs.Record.{Item}
use Rattle.qp_table.specs.Counting.{Each}
use Rattle.qp_table.specs.Now.{Now, at_two, LeavesWords}
use Rattle.qp_table.specs.Rule.{Shows, Logs, Idle, AllIdle, Tokens, Events, Items, Queues, Seen, IsKnown, AllKnown, Holds, mark_in}
use Rattle.qp_table.specs.After.{logged}
use Rattle.qp_table.specs.declared.view.SeatLog.{SeatLog}
use Rattle.qp_table.specs.declared.view.Content.{Content}
use Rattle.qp_table.specs.declared.view.View.{View}
use Rattle.qp_table.proofs.Views.{split-at, fits-set, logs-noted, logs-kept, idle-set, seen-drawn, seen-looked}
use Rattle.qp_table.proofs.Counting.{each-map}
use Rattle.qp_table.proofs.Growth.{Grows, past-drawn, past-shown, known-kept}

-- where the lane of a log stands among all lanes
pub record Lane (lanes : List (List Rec)) (g : SeatLog) : Type 0 where
  pub before : List (List Rec)
  pub behind : List (List Rec)
  pub is : lanes ≡ before ++ g.recs ∷ behind
  pub place : length before ≡ g.number
  pub inside : length before < 49

-- the lane of a view's own log
pub own-lane : (lanes : List (List Rec)) (views : List View) (id : ℕ) (v : View) (g : SeatLog) (gs : List SeatLog) → Logs lanes views → get_elem? views id ≡ some v → v.logs ≡ g ∷ gs → Lane lanes g
own-lane lanes views id v g gs logs at_id head =
    let mine = subst (λ (ls : List SeatLog). Each (λ (g : SeatLog). get_elem? lanes g.number ≡ some g.recs) ls) head (logs.own id v at_id) in
    let s = split-at lanes g.number g.recs mine.0 in
    let e = ap length s.2 in let c = logs.count in
    record { before = s.0; behind = s.1; is = s.2; place = s.3; inside = omega (arith, length-append s.0 (g.recs ∷ s.1)) }

logged-some : (r : Rec) (v u : View) (g : SeatLog) (gs : List SeatLog) → v.logs ≡ g ∷ gs → u.logs ≡ logged r v.logs → 0 < length u.logs
logged-some r v u g gs head e = rw (e, head) (omega arith)

module _ (sys : System) (words : List ℕ) (views : List View) (holds : Holds sys words views) (id : ℕ) (v : View) (at_id : get_elem? views id ≡ some v) (g : SeatLog) (gs : List SeatLog) (head : v.logs ≡ g ∷ gs) (room : length g.recs ≤ 1000000) where
  abbrev pub lane : Lane holds.lanes g
  lane = own-lane holds.lanes views id v g gs holds.logs at_id head

  abbrev pub more_lanes : Rec → List (List Rec)
  more_lanes r = lane.before ++ (g.recs ++ r ∷ []) ∷ lane.behind

  -- what the lanes leave, with this lane in its place
  pub leaves-here : LeavesWords sys (lane.before ++ g.recs ∷ lane.behind) holds.now
  leaves-here = subst (λ l. LeavesWords sys l holds.now) lane.is holds.leaves

  logs-more : (r : Rec) (u : View) → u.logs ≡ logged r v.logs → u.lane_numbers ≡ v.lane_numbers → Logs (more_lanes r) (set views id u)
  logs-more r u logs rest = logs-noted lane.before g.recs lane.behind views id v u g gs r (subst (λ l. Logs l views) lane.is holds.logs) at_id head (sym lane.place) lane.inside room logs rest

  idle-more : (r : Rec) (u : View) → u.logs ≡ logged r v.logs → AllIdle (set views id u)
  idle-more r u logs = idle-set views id u holds.idle (λ none_left. let s = logged-some r v u g gs head logs in absurd (omega arith))

  grows-lanes : (r : Rec) (next : Now) (i : Item) → Grows sys (lane.before ++ g.recs ∷ lane.behind) (more_lanes r) holds.now next i → Grows sys holds.lanes (more_lanes r) holds.now next i
  grows-lanes r next i grows = subst (λ l. Grows sys l (more_lanes r) holds.now next i) (sym lane.is) grows

  -- what was read of entries lasts
  contents-kept : (r : Rec) (next : Now) (i : Item) (u : View) → u.contents ≡ v.contents → Grows sys (lane.before ++ g.recs ∷ lane.behind) (more_lanes r) holds.now next i → AllKnown sys (more_lanes r) next (set views id u)
  contents-kept r next i u same grows =
      let keep : (xs : List Content) → Each (IsKnown sys holds.lanes holds.now) xs → Each (IsKnown sys (more_lanes r) next) xs = (λ xs e. each-map (IsKnown sys holds.lanes holds.now) (IsKnown sys (more_lanes r) next) (known-kept sys words views holds (more_lanes r) next i (grows-lanes r next i grows)) xs e) in
      fits-set (λ z. Each (IsKnown sys holds.lanes holds.now) z.contents) (λ z. Each (IsKnown sys (more_lanes r) next) z.contents) views id u (λ j z ne there o. keep z.contents o) (rw same (keep v.contents (holds.contents id v at_id))) holds.contents

  -- a step that draws a number on the word w, which then shows n
  pub drawn-step : (w n : ℕ) (r : Rec) (next : Now) (items : Items) (u : View) → LeavesWords sys (more_lanes r) next → Shows sys (set words w n) next → Tokens sys (set views id u) next → Events sys (set words w n) (set views id u) next → Queues sys (set words w n) (set views id u) next items
      → w < 4488 → mark_in w (get_or words w 0) < mark_in w n → u.logs ≡ logged r v.logs → u.lane_numbers ≡ v.lane_numbers → u.seen ≡ v.seen ++ record { word = w; value = n } ∷ [] → u.contents ≡ v.contents → (i : Item) → Grows sys (lane.before ++ g.recs ∷ lane.behind) (more_lanes r) holds.now next i → Holds sys (set words w n) (set views id u)
  drawn-step w n r next items u leaves shows tokens events queues low more logs rest seen contents i grows = let wd = holds.shows.wide in record {
    lanes = more_lanes r;
    now = next;
    items = items;
    was = at_two w (mark_in w n) n holds.was;
    fitting = holds.fitting;
    leaves = leaves;
    shows = shows;
    logs = logs-more r u logs rest;
    idle = idle-more r u logs;
    tokens = tokens;
    events = events;
    queues = queues;
    seen = seen-drawn words views holds.was id v u w n holds.seen at_id low (omega arith) more seen;
    past = past-drawn sys words views holds (more_lanes r) next i (grows-lanes r next i grows) w n more;
    contents = contents-kept r next i u contents grows;
  }

  -- a look at the word w, with a record of what it shows
  pub shown-step : (w : ℕ) (r : Rec) (u : View) → LeavesWords sys (more_lanes r) holds.now → Tokens sys (set views id u) holds.now → Events sys words (set views id u) holds.now → Queues sys words (set views id u) holds.now holds.items
      → w < 4488 → u.logs ≡ logged r v.logs → u.lane_numbers ≡ v.lane_numbers → u.seen ≡ v.seen ++ record { word = w; value = get_or words w 0 } ∷ [] → u.contents ≡ v.contents → (i : Item) → Grows sys (lane.before ++ g.recs ∷ lane.behind) (more_lanes r) holds.now holds.now i → Holds sys words (set views id u)
  shown-step w r u leaves tokens events queues low logs rest seen contents i grows = record {
    lanes = more_lanes r;
    now = holds.now;
    items = holds.items;
    was = holds.was;
    fitting = holds.fitting;
    leaves = leaves;
    shows = holds.shows;
    logs = logs-more r u logs rest;
    idle = idle-more r u logs;
    tokens = tokens;
    events = events;
    queues = queues;
    seen = seen-looked words words views holds.was id v u w (get_or words w 0) holds.seen at_id low (λ x l. refl) refl seen;
    past = past-shown sys words views holds (more_lanes r) holds.now i (grows-lanes r holds.now i grows);
    contents = contents-kept r holds.now i u contents grows;
  }

-- a step without a record, on a word without a number, or on none
pub plain-step : (sys : System) (words after : List ℕ) (views : List View) (holds : Holds sys words views) (id : ℕ) (v u : View) → get_elem? views id ≡ some v → (items : Items)
    → Shows sys after holds.now → Tokens sys (set views id u) holds.now → Events sys after (set views id u) holds.now → Queues sys after (set views id u) holds.now items
    → u.logs ≡ v.logs → u.lane_numbers ≡ v.lane_numbers → (length u.logs + length u.lane_numbers ≡ 0 → Idle u) → Seen after (set views id u) holds.was → Each (IsKnown sys holds.lanes holds.now) u.contents → Holds sys after (set views id u)
plain-step sys words after views holds id v u at_id items shows tokens events queues logs rest idle seen contents = record {
  lanes = holds.lanes;
  now = holds.now;
  items = items;
  was = holds.was;
  fitting = holds.fitting;
  leaves = holds.leaves;
  shows = shows;
  logs = logs-kept holds.lanes views id v u holds.logs at_id logs rest;
  idle = idle-set views id u holds.idle idle;
  tokens = tokens;
  events = events;
  queues = queues;
  seen = seen;
  past = holds.past;
  contents = fits-set (λ z. Each (IsKnown sys holds.lanes holds.now) z.contents) (λ z. Each (IsKnown sys holds.lanes holds.now) z.contents) views id u (λ j z ne there o. o) contents holds.contents;
}
