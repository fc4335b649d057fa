-- A lane that has seen what another has.
use Rattle.std.proofs.Common.{◌≡◌, ℕ, ◌+◌, ◌≤◌, max, Bool, true, false, cond, List, [], ◌∷◌, ◌++◌, length, refl, sym, ◌∙◌, ap, arith}
use Rattle.std.proofs.lemmas.List.{append-nil}
use Rattle.qp_model.specs.declared.systems.System.{System}
use Rattle.qp_model.specs.declared.words.Word.{Word}
use Rattle.qp_model.specs.declared.words.Word.TheVariants as word
use Rattle.qp_model.specs.Told.{ToldItem}
use Rattle.qp_model.specs.WordLaw.{is_signal, is_timer}
use Rattle.qp_calls.specs.LaneView.{LaneView, NotShown}
use Rattle.qp_calls_log.specs.declared.log.Log.{Log}
use Rattle.qp_calls_log.specs.Meeting.{Met}
use Rattle.qp_table.specs.After.{views_joined, onlooker}
use Rattle.qp_table.specs.Rule.{mark_in}
use Rattle.qp_table.specs.declared.view.Glance.{Glance}
use Rattle.qp_table.specs.declared.view.SeatLog as table_log
use Rattle.qp_table.specs.declared.view.Serve.{Serve}
use Rattle.qp_table.specs.declared.view.View.{View}
use Rattle.qp_table.specs.Words.{latest, mark_seen, shown_seen}
use Rattle.qp_table.specs.Lane.{LaneContext, lane_of, lane_mark, lane_number, own_recs}
use Rattle.qp_table.specs.Telling.{Meets}
use Rattle.qp_table.proofs.ViewLawLemmas.{meets_see_both}
use Rattle.qp_table.proofs.Meeting.{latest-mark}
use Rattle.qp_side.specs.Rule.{signal_at, timer_at}
use Rattle.qp_side.specs.Told.{last_seen, served_by, both_of, side_onlooker}
use Rattle.qp_side.specs.declared.view.SideView.{SideView}
use Rattle.qp_shared_lane.specs.Holds.{LaneHolds, told_by}
use Rattle.qp_side.specs.Seat.{side_mark}
use Rattle.qp_shared_lane.specs.Lane.{lane_context, lane_with, state_view}
use Rattle.qp_shared_lane.specs.declared.lane.LaneState.{LaneState}
use Rattle.qp_shared_lane.proofs.LawLemmas.{looks_keep_the_lane, worlds_name_tables}
use Rattle.qp_shared_ends.specs.Seats.{IsOnePast}

-- a view with what another has seen
abbrev pub met : View → View → View
met v w = record v { seen = v.seen ++ w.seen }

pub joined-onlooker : (v w : View) → views_joined v (onlooker w) ≡ met v w
joined-onlooker v w = λ i. record {
  logs = append-nil v.logs i;
  lane_numbers = append-nil v.lane_numbers i;
  fresh = append-nil v.fresh i;
  used = append-nil v.used i;
  hands = append-nil v.hands i;
  gives = append-nil v.gives i;
  fills = append-nil v.fills i;
  claims = append-nil v.claims i;
  takes = append-nil v.takes i;
  serves = append-nil v.serves i;
  contents = append-nil v.contents i;
  seen = v.seen ++ w.seen;
}

-- lanes of one world are on one table
pub same-table : (l o : LaneState) → (state_view o).world ≡ (state_view l).world → o.words.now.shared.table_id ≡ l.words.now.shared.table_id
unfolding lane_of
same-table l o e = (worlds_name_tables o.words.now.shared.table_id o.side.words.now.shared.table_id l.words.now.shared.table_id l.side.words.now.shared.table_id o.count l.count e).0

-- on both
pub same-side_table : (l o : LaneState) → (state_view o).world ≡ (state_view l).world → o.side.words.now.shared.table_id ≡ l.side.words.now.shared.table_id
unfolding lane_of
same-side_table l o e = (worlds_name_tables o.words.now.shared.table_id o.side.words.now.shared.table_id l.words.now.shared.table_id l.side.words.now.shared.table_id o.count l.count e).1

same-system : (l o : LaneState) → (state_view o).sys ≡ (state_view l).sys → o.sys.now ≡ l.sys.now
unfolding lane_of
same-system l o e = e

-- a seat on the side table with what another has seen
abbrev pub heard : SideView → SideView → SideView
heard s z = record s { view = record s.view { seen = s.view.seen ++ z.view.seen } }

served-still : (logs : List table_log.SeatLog) (xs : List Serve) → length logs ≡ 1 → served_by logs xs ≡ xs
served-still [] xs one = absurd (omega (arith, one))
served-still (g ∷ gs) xs one = refl

pub heard-onlooker : (s z : SideView) → length s.view.logs ≡ 1 → both_of s (side_onlooker z) ≡ heard s z
heard-onlooker s z one = λ i. record {
  view = record (joined-onlooker s.view z.view i) { serves = served-still s.view.logs s.view.serves one i };
  stops = append-nil s.stops i;
  answered = append-nil s.answered i;
}

max-left : (a b : ℕ) → a ≤ max a b
max-left a b = omega arith

heard-one : (b : Bool) (w : ℕ) (xs ys : List Glance) → cond b (mark_in w (latest w 0 (xs ++ ys))) 0 ≡ max (cond b (mark_in w (latest w 0 xs)) 0) (cond b (mark_in w (latest w 0 ys)) 0)
heard-one true w xs ys = latest-mark w 0 xs ys
heard-one false w xs ys = refl

-- its marks of signals and time events
heard-marks : (sys : System) (s z : SideView) (x : Word) → side_mark sys (heard s z) x ≡ max (side_mark sys s x) (side_mark sys z x)
heard-marks sys s z (word.Signal k) = heard-one (is_signal sys k) (signal_at k) s.view.seen z.view.seen
heard-marks sys s z (word.Timer k) = heard-one (is_timer sys k) (timer_at k) s.view.seen z.view.seen
heard-marks sys s z (word.Pool p) = refl
heard-marks sys s z (word.Block p b) = refl
heard-marks sys s z (word.Queue a) = refl

module _ (world : List ℕ) (sys : System) (by count ceiling : ℕ) (g : Log) (numbers : List ℕ) (v w : View) (s z : SideView) (other : LaneContext) (theirs : List ToldItem) (more : ℕ) (same : other.sys ≡ sys) (past : IsOnePast sys (met v w)) (side_is : (x : Word) → other.side x ≡ side_mark sys z x) where
  abbrev at : LaneContext
  at = lane_context world sys by g v s

  both : Meets (lane_of at (told_by g numbers v) g.spare v) (lane_of other theirs more w) (lane_of at (told_by g numbers v) g.spare (met v w))
  both = meets_see_both at other (told_by g numbers v) theirs g.spare more v w past.was same past.one past.first

  meets-as : Meets (lane_with world sys by g numbers v s) (lane_of other theirs more w) (lane_with world sys by g numbers (met v w) s)
  unfolding lane_number
  meets-as = both

  abbrev together : LaneView
  together = lane_with world sys by g numbers (met v w) (heard s z)

  same-is : together ≡ record (lane_with world sys by g numbers v s) { mark = together.mark; shown = together.shown }
  unfolding lane_of lane_number
  same-is = refl

  marks-are : (x : Word) → together.mark x ≡ max ((lane_with world sys by g numbers v s).mark x) ((lane_of other theirs more w).mark x)
  unfolding lane_of lane_number
  marks-are (word.Pool p) = both.mark (word.Pool p) refl
  marks-are (word.Block p b) = both.mark (word.Block p b) refl
  marks-are (word.Queue a) = both.mark (word.Queue a) refl
  marks-are (word.Signal k) = heard-marks sys s z (word.Signal k) ∙ ap (max (side_mark sys s (word.Signal k))) (sym (side_is (word.Signal k)))
  marks-are (word.Timer k) = heard-marks sys s z (word.Timer k) ∙ ap (max (side_mark sys s (word.Timer k))) (sym (side_is (word.Timer k)))

  mine : (x : Word) → together.mark x ≡ (lane_with world sys by g numbers v s).mark x → together.shown x ≡ (lane_with world sys by g numbers v s).shown x
  unfolding lane_of lane_number shown_seen
  mine (word.Pool p) e = both.mine (word.Pool p) e
  mine (word.Block p b) e = both.mine (word.Block p b) e
  mine (word.Queue a) e = both.mine (word.Queue a) e
  mine (word.Signal k) e = refl
  mine (word.Timer k) e = refl

  theirs-too : (x : Word) → together.mark x ≡ (lane_of other theirs more w).mark x → together.shown x ≡ (lane_of other theirs more w).shown x
  unfolding lane_of lane_number shown_seen
  theirs-too (word.Pool p) e = both.theirs (word.Pool p) refl e
  theirs-too (word.Block p b) e = both.theirs (word.Block p b) refl e
  theirs-too (word.Queue a) e = both.theirs (word.Queue a) refl e
  theirs-too (word.Signal k) e = refl
  theirs-too (word.Timer k) e = refl

  pub lane-meets : Met (lane_with world sys by g numbers v s) (lane_of other theirs more w) (lane_with world sys by g numbers (met v w) (heard s z))
  lane-meets = record { same = same-is; mark = marks-are; own = mine; its = theirs-too }

  rise : (x : Word) → mark_seen sys v.seen x ≤ mark_seen sys (v.seen ++ w.seen) x
  unfolding mark_seen lane_of
  rise (word.Pool p) = let k = both.mark (word.Pool p) refl in let l = max-left (lane_mark sys v.seen at.side (word.Pool p)) (lane_mark other.sys w.seen other.side (word.Pool p)) in omega arith
  rise (word.Block p b) = let k = both.mark (word.Block p b) refl in let l = max-left (lane_mark sys v.seen at.side (word.Block p b)) (lane_mark other.sys w.seen other.side (word.Block p b)) in omega arith
  rise (word.Queue a) = let k = both.mark (word.Queue a) refl in let l = max-left (lane_mark sys v.seen at.side (word.Queue a)) (lane_mark other.sys w.seen other.side (word.Queue a)) in omega arith
  rise (word.Signal k) = omega arith
  rise (word.Timer k) = omega arith

  pub lane-keeps : LaneHolds sys count ceiling g numbers v s → LaneHolds sys count ceiling g numbers (met v w) (heard s z)
  unfolding lane_number own_recs
  lane-keeps h = (looks_keep_the_lane world sys by count ceiling g numbers v s (met v w) (heard s z) (word.Pool 0) 0 NotShown h
      (record {
        logs = refl;
        number = refl;
        lane_numbers = refl;
        serves = λ o. refl;
        grown = λ e has. (has, refl);
        read = h.read;
        still = record { fills = h.still.fills; claims = h.still.claims; takes = h.still.takes; done = h.still.done; begun = h.still.begun };
        placed = h.placed;
        worn = λ p b n l. let a = h.worn p b n l in let r = rise (word.Block p b) in omega arith;
        rise = rise;
        seen = (w.seen, refl);
      })
      (record {
        logs = refl;
        number = refl;
        lane_numbers = refl;
        serves = refl;
        rise = λ k is. let e = latest-mark (signal_at k) 0 s.view.seen z.view.seen in let l = max-left (mark_in (signal_at k) (last_seen (signal_at k) s)) (mark_in (signal_at k) (last_seen (signal_at k) z)) in omega (arith, e, l);
        stops = refl;
        answered = refl;
      })
      (record { same = refl; same_side = refl; hands_are = λ x. refl })).holds
