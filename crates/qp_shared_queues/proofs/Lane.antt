-- A lane after a call on a queue, as its caller sees it.
use Rattle.std.proofs.Common.{◌≡◌, ℕ, ◌+◌, ◌/◌, ◌%◌, ◌<◌, List, [], ◌∷◌, refl, sym, ap, subst, ◌∙◌, arith, IsTrue}
use Rattle.std.specs.List.{list_any}
use Rattle.qp_model.specs.declared.record.Rec.{Rec}
use Rattle.qp_model.specs.declared.words.Word.TheVariants as word
use Rattle.qp_model.specs.Told.{Told, ToldItem, for_object}
use Rattle.qp_model.specs.WordLaw.{is_object}
use Rattle.qp_table.specs.Counting.{many}
use Rattle.qp_table.specs.Rule.{queue_at, mark_in, on_queue, is_serve}
use Rattle.qp_table.specs.After.{HasRoom}
use Rattle.qp_table.specs.declared.view.View.{View}
use Rattle.qp_calls.specs.LaneView.{LaneView, Counts, Gains, AddsOf, Looks, Own, own_of, own_after}
use Rattle.qp_calls.specs.Clauses.{AreOwn, ShowsQueue}
use Rattle.qp_calls.specs.Tokens.{hands_after}
use Rattle.qp_calls_log.specs.declared.log.Log.{Log}
use Rattle.qp_table.specs.Words.{value_seen, mark_seen, shown_seen}
use Rattle.qp_table.specs.Lane.{lane_of, lane_mark}
use Rattle.qp_table.specs.Telling.{Saw, OwnTold, Rises}
use Rattle.qp_table.proofs.Gaining.{mark-here, mark-was, shown-here, saw-rises}
use Rattle.qp_table.proofs.Own.{own-is}
use Rattle.qp_shared_lane.specs.declared.lane.LaneState.{LaneState}
use Rattle.qp_shared_lane.specs.Holds.{LaneHolds, told_by}
use Rattle.qp_side.specs.Seat.{side_mark}
use Rattle.qp_shared_lane.specs.Lane.{lane_with, world_of_lane, state_view}
use Rattle.qp_shared_lane.specs.More.{IsPut, ViewFollows, SideFollows, AddsNothing, OnTable}
use Rattle.qp_shared_lane.specs.Laws.{LaneGainsRecord, LookKept}
use Rattle.qp_shared_lane.proofs.LawLemmas.{table_records_keep_the_lane, looks_keep_the_lane, spare_gives_room}

-- the lane with another log and another view of the event table
abbrev pub then_view : LaneState → Log → List ℕ → View → LaneView
then_view l h more u = lane_with (world_of_lane l) l.sys.now l.by h more u l.side.seat.me.0

abbrev pub ThenHolds : LaneState → Log → List ℕ → View → Type 0
ThenHolds l h more u = LaneHolds l.sys.now l.count l.ceiling h more u l.side.seat.me.0

-- what the lane tells
abbrev pub told_in : LaneState → List ToldItem
told_in l = told_by l.log l.numbers.list l.seat.me.0

module _ (l : LaneState) where
  pub own-there : (a lc mc : ℕ) → OwnTold a lc mc l.seat.me.0 → AreOwn a lc mc (state_view l)
  unfolding lane_of
  own-there a lc mc told serves = own-is a lc mc _ l.log.recs.items l.numbers.list l.seat.me.0 l.holds.beside l.holds.lane l.holds.same told serves

  pub serves-there : (o : ℕ) → IsTrue ((state_view l).serves o) → IsTrue (list_any (is_serve o) l.seat.me.0.serves)
  unfolding lane_of
  serves-there o h = h

  pub object-there : (o : ℕ) → IsTrue (is_object (state_view l).sys o) → IsTrue (is_object l.sys.now o)
  unfolding lane_of
  object-there o h = h

  pub object-key : (o : ℕ) → IsTrue (is_object (state_view l).sys o) → IsTrue (is_object l.words.now.shared.key o)
  object-key o h = subst (λ s. IsTrue (is_object s o)) (sym l.key) (object-there o h)

  pub object-small : (o : ℕ) → IsTrue (is_object (state_view l).sys o) → o < 33
  object-small o h = (l.holds.fitting.objects o (object-there o h)).0

  pub by-object-key : IsTrue (is_object (state_view l).sys (state_view l).by) → IsTrue (is_object l.words.now.shared.key l.by)
  unfolding lane_of
  by-object-key h = object-key l.by h

  pub by-object-small : IsTrue (is_object (state_view l).sys (state_view l).by) → l.by < 33
  unfolding lane_of
  by-object-small h = object-small l.by h

  pub by-serves : IsTrue ((state_view l).serves (state_view l).by) → IsTrue (list_any (is_serve l.by) l.seat.me.0.serves)
  unfolding lane_of
  by-serves h = h

  pub idle : (o : ℕ) → many (on_queue o) l.seat.me.0.takes ≡ 0
  idle o = ap (many (on_queue o)) l.holds.still.takes

  pub no-claim : (o : ℕ) → many (on_queue o) l.seat.me.0.claims ≡ 0
  no-claim o = ap (many (on_queue o)) l.holds.still.claims

  pub spare-is : 0 < (state_view l).spare → 0 < l.log.spare
  unfolding lane_of
  spare-is h = h

  pub room : 0 < (state_view l).spare → HasRoom l.seat.me.0
  room h = (spare_gives_room l.sys.now l.count l.ceiling l.log l.numbers.list l.seat.me.0 l.side.seat.me.0 l.holds (spare-is h)).table

module _ (l : LaneState) (a x k : ℕ) (u : View) (saw : Saw l.sys.now (word.Queue a) l.seat.me.0 u x) (mark_is : mark_in (queue_at a) x ≡ k) where
  pub mark-then : mark_seen l.sys.now u.seen (word.Queue a) ≡ k
  mark-then = mark-here l.sys.now (word.Queue a) l.seat.me.0 u x saw ∙ mark_is

  -- the lane's mark of the queue, before and after
  pub lane-mark-was : (state_view l).mark (word.Queue a) ≡ mark_in (queue_at a) (value_seen l.sys.now (word.Queue a) l.seat.me.0.seen)
  unfolding lane_of
  lane-mark-was = mark-was l.sys.now (word.Queue a) l.seat.me.0 u x saw

  pub lane-mark-then : (h : Log) (more : List ℕ) → (then_view l h more u).mark (word.Queue a) ≡ k
  unfolding lane_of
  lane-mark-then h more = mark-then

  pub says-then : (h : Log) (more : List ℕ) (f lc m : ℕ) → x % 2097152 ≡ f → x / 2097152 % 2097152 ≡ lc → x / 4398046511104 ≡ m → (then_view l h more u).shown (word.Queue a) ≡ Counts f lc m
  unfolding lane_of
  says-then h more f lc m ef el em = shown-here l.sys.now (word.Queue a) l.seat.me.0 u x saw ∙ (λ i. Counts (ef i) (el i) (em i))

  -- a record more
  module _ (o : ℕ) (g : Told) (h : Log) (more : List ℕ) (rec : Rec) (put : IsPut rec 0 l.log l.numbers.list h more) (on : OnTable l.sys.now (hands_after [] (told_in l)) l.seat.me.0 u rec 0 (for_object o g) (word.Queue a) k) where
    kept : LaneGainsRecord (world_of_lane l) l.sys.now l.by l.count l.ceiling l.log l.numbers.list l.seat.me.0 l.side.seat.me.0 h more u l.side.seat.me.0 l.ceiling (for_object o g)
    kept = table_records_keep_the_lane (world_of_lane l) l.sys.now l.by l.count l.ceiling l.log l.numbers.list l.seat.me.0 l.side.seat.me.0 h more u rec 0 (for_object o g) (word.Queue a) k l.holds put on

    pub holds-then : ThenHolds l h more u
    holds-then = kept.holds

    pub gains-then : Gains (for_object o g ∷ []) (state_view l) (then_view l h more u)
    gains-then = kept.gains

    pub adds-then : h.spare + 1 ≡ l.log.spare → AddsOf o (g ∷ []) (state_view l) (then_view l h more u)
    unfolding lane_of
    adds-then spare = record { grows = kept.gains; spare = spare }

    -- its own last-in posts and takes, where the record makes of those before what it makes
    pub own-then : (lc mc l' m' : ℕ) → ((c : Own) → c ≡ record { l = lc; m = mc } → own_of a c o g.body ≡ record { l = l'; m = m' }) → OwnTold a lc mc l.seat.me.0 → AreOwn a l' m' (then_view l h more u)
    unfolding own_after
    own-then lc mc l' m' step told serves =
        let z = own-there l a lc mc told (sym (kept.gains.serves a) ∙ serves) in
        let c : (state_view l).own a ≡ record { l = lc; m = mc } = (λ i. record { l = sym z.0 i; m = sym z.1 i }) in
        let e : (then_view l h more u).own a ≡ record { l = l'; m = m' } = kept.gains.own a ∙ step ((state_view l).own a) c in
        (ap (λ (y : Own). y.l) (sym e), ap (λ (y : Own). y.m) (sym e))

  -- a look without one
  module _ (follows : ViewFollows l.sys.now l.seat.me.0 u) (adds : AddsNothing l.seat.me.0 u l.side.seat.me.0 l.side.seat.me.0) (f lc m : ℕ) (ef : x % 2097152 ≡ f) (el : x / 2097152 % 2097152 ≡ lc) (em : x / 4398046511104 ≡ m) where
    rises : Rises (word.Queue a) k (lane_mark l.sys.now l.seat.me.0.seen (side_mark l.sys.now l.side.seat.me.0)) (lane_mark l.sys.now u.seen (side_mark l.sys.now l.side.seat.me.0)) (shown_seen l.sys.now l.seat.me.0.seen) (shown_seen l.sys.now u.seen)
    rises = subst (λ j. Rises (word.Queue a) j (lane_mark l.sys.now l.seat.me.0.seen (side_mark l.sys.now l.side.seat.me.0)) (lane_mark l.sys.now u.seen (side_mark l.sys.now l.side.seat.me.0)) (shown_seen l.sys.now l.seat.me.0.seen) (shown_seen l.sys.now u.seen))
        mark_is (saw-rises l.sys.now (side_mark l.sys.now l.side.seat.me.0) (word.Queue a) l.seat.me.0 u x saw).0

    side-still : SideFollows l.sys.now l.side.seat.me.0 l.side.seat.me.0
    side-still = record { logs = refl; number = refl; lane_numbers = refl; serves = refl; rise = λ j on. omega arith; stops = refl; answered = refl }

    look-kept : LookKept (world_of_lane l) l.sys.now l.by l.count l.ceiling l.log l.numbers.list l.seat.me.0 l.side.seat.me.0 u l.side.seat.me.0 (word.Queue a) k (Counts f lc m)
    look-kept = looks_keep_the_lane (world_of_lane l) l.sys.now l.by l.count l.ceiling l.log l.numbers.list l.seat.me.0 l.side.seat.me.0 u l.side.seat.me.0 (word.Queue a) k (Counts f lc m) l.holds follows side-still adds

    pub look-holds : ThenHolds l l.log l.numbers.list u
    look-holds = look-kept.holds

    pub look-looks : Looks (word.Queue a) k (Counts f lc m) (state_view l) (then_view l l.log l.numbers.list u)
    look-looks = look-kept.looks rises (shown-here l.sys.now (word.Queue a) l.seat.me.0 u x saw ∙ (λ i. Counts (ef i) (el i) (em i)))

    look-own : OwnTold a lc m l.seat.me.0 → AreOwn a lc m (then_view l l.log l.numbers.list u)
    look-own told serves =
        let z = own-there l a lc m told (sym (look-looks.serves a) ∙ serves) in
        let e = look-looks.own a in
        (z.0 ∙ ap (λ (y : Own). y.l) (sym e), z.1 ∙ ap (λ (y : Own). y.m) (sym e))

    pub look-shows : OwnTold a lc m l.seat.me.0 → ShowsQueue a f lc m (then_view l l.log l.numbers.list u)
    look-shows told = record { says = says-then l.log l.numbers.list f lc m ef el em; own = look-own told }
