-- What a lane may do: it has room where it has spare, and its tokens stand in its view.
use Rattle.std.proofs.Common.{◌≡◌, ◌+◌, ◌<◌, ◌≤◌, ◌||◌, List, [], ◌∷◌, Bool, true, false, cond, length, refl, ap, arith}
use Rattle.std.specs.List.{list_any}
use Rattle.qp_model.specs.declared.record.Rec.{Rec}
use Rattle.qp_model.specs.Record.{Item}
use Rattle.qp_model.specs.History.{touch, lane_items}
use Rattle.qp_model.proofs.RecordLemmas.{lane-length}
use Rattle.qp_table.specs.TwoTables.{on_side}
use Rattle.qp_table.specs.After.{HasRoom}
use Rattle.qp_table.specs.declared.view.SeatLog as table_log
use Rattle.qp_table.specs.declared.view.View.{View}
use Rattle.qp_calls.specs.Tokens.{Token, same_token, stands, hands_after}
use Rattle.qp_calls_log.specs.declared.log.Log.{Log}
use Rattle.qp_calls_log.proofs.LogLemmas.{length-kinds}
use Rattle.qp_table.specs.Lane.{lane_of, own_of_logs, own_recs, event_seen, tokens}
use Rattle.qp_table.proofs.Saying.{has-room, filter-length}
use Rattle.qp_shared_lane.specs.Holds.{told_by, on_side_of, recs_of}
use Rattle.qp_shared_lane.specs.Laws.{SpareGivesRoom, HandsStand, LanesTellTheirLogs}
use Rattle.qp_shared_lane.proofs.Telling.{told-bare}

-- a log with spare has at most 1,000,000 records
pub few-records : (g : Log) → 0 < g.spare → length g.recs.items ≤ 1000000
few-records g spare = let a = lane-length g.recs.items in let b = length-kinds (lane_items g.recs.items) in let c = g.few in let d = g.spills in omega arith

side-length : (recs : List Rec) → length (on_side_of recs) ≤ length recs
unfolding on_side_of
side-length recs = let f = filter-length (λ (i : Item). on_side (touch i)) (lane_items recs) in let l = lane-length recs in omega arith

side-room : (v : View) (logs : List table_log.SeatLog) → v.logs ≡ logs → length logs ≡ 1 → length (own_of_logs logs) ≤ 1000000 → HasRoom v
side-room v [] is one room = absurd (omega arith)
side-room v (g ∷ []) is one room = record { own = g; others = []; is = is; room = rw is (let l = lane-length g.recs in omega arith) }
side-room v (g ∷ h ∷ gs) is one room = absurd (omega arith)

few-own : (logs : List table_log.SeatLog) → length (own_of_logs logs) ≤ 1000000 → length (recs_of logs) ≤ 1000000
few-own [] few = omega arith
few-own (g ∷ gs) few = let l = lane-length g.recs in omega arith

pub spare-gives : SpareGivesRoom
unfolding own_recs
spare-gives sys count ceiling g numbers v s holds spare =
    let few = few-records g spare in
    let own : length (own_of_logs s.view.logs) ≤ 1000000 = let t = side-length g.recs.items in let e = ap length holds.same_side in omega arith in
    record {
      table = has-room v g.recs.items holds.lane holds.same few;
      side = side-room s.view s.view.logs refl holds.side_lane own;
      few = few-own s.view.logs own;
    }

some-token : (t : Token) (hs : List Token) → list_any (λ x. same_token t x) hs ≡ true → 0 < tokens t hs
some-token t [] h = absurd (cc)
some-token t (x ∷ xs) h = go (same_token t x) h (some-token t xs)
  where
    go : (u : Bool) → (u || list_any (λ x. same_token t x) xs) ≡ true → (list_any (λ x. same_token t x) xs ≡ true → 0 < tokens t xs) → 0 < cond u 1 0 + tokens t xs
    go true h r = omega arith
    go false h r = let z = r h in omega arith

pub hands-stand : HandsStand
unfolding stands
hands-stand sys count ceiling g numbers v s holds t is = let z = some-token t (hands_after [] (told_by g numbers v)) is in let e = holds.hands t in omega arith

pub tells-log : LanesTellTheirLogs
unfolding lane_of
tells-log world sys by count ceiling g numbers v s holds = record { told = told-bare (event_seen v.contents) g.recs.items numbers holds.beside; spare = refl; stops = refl }
