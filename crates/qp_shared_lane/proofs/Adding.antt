-- A record of the event table, and a note.
use Rattle.std.proofs.Common.{◌≡◌, ℕ, ◌≤◌, List, [], ◌∷◌, ◌++◌, Bool, true, false, cond, map, length, refl, sym, ap, subst, ◌∙◌, arith, IsTrue, Option, Some, None, if◌then◌else◌}
use Rattle.std.specs.List.{filter, list_any}
use Rattle.std.specs.Option.{unwrap_or}
use Rattle.std.proofs.lemmas.List.{append-nil, map-append}
use Rattle.std.proofs.lemmas.List.Elements.{filter-append}
use Rattle.qp_model.specs.declared.record.Rec.{Rec}
use Rattle.qp_model.specs.declared.systems.System.{System}
use Rattle.qp_model.specs.declared.words.Word.{Word}
use Rattle.qp_model.specs.declared.words.Word.TheVariants as word
use Rattle.qp_model.specs.declared.bodies.Body.{Body}
use Rattle.qp_model.specs.declared.bodies.Body.TheVariants.{Took, New, Inc, Dec, Back, Post, Lifo, Lock, Unlock, Sub, Unsub, Same}
use Rattle.qp_model.specs.Record.{Item, item_of}
use Rattle.qp_model.specs.Told.{Known, ToldItem}
use Rattle.qp_model.specs.History.{Touch, Draws, Shows, Neither, mark_of, touch, touch_of, lane_items, same_word}
use Rattle.qp_model.specs.Knowing.{ceiling_after}
use Rattle.qp_model.specs.WordLaw.{is_signal}
use Rattle.qp_model.proofs.RecordLemmas.{lane_items-more}
use Rattle.qp_table.specs.TwoTables.{on_table, on_side}
use Rattle.qp_table.specs.Rule.{mark_in, is_serve}
use Rattle.qp_table.specs.After.{logged}
use Rattle.qp_table.specs.declared.view.SeatLog as table_log
use Rattle.qp_table.specs.declared.view.View.{View}
use Rattle.qp_calls.specs.Tokens.{Token, token_of, hands_of, hands_by, hands_after, handles}
use Rattle.qp_calls.specs.LaneView.{Gains, codes_in, mark_or, mark_by, mark_after, shown_from, placed_by, own_after}
use Rattle.qp_calls.proofs.Advancing.{between-one}
use Rattle.qp_calls.proofs.HandLemmas.{hands-append}
use Rattle.qp_calls.proofs.Growing.{own-append}
use Rattle.qp_calls_log.specs.declared.log.Log.{Log}
use Rattle.qp_table.specs.Words.{is_here, mark_seen, shown_seen}
use Rattle.qp_table.specs.Lane.{lane_of, lane_mark, own_of_logs, own_recs, on_table_of, event_seen, told_as, tokens, lane_number}
use Rattle.qp_table.specs.Telling.{Rises, Touches, is_on_table}
use Rattle.qp_table.proofs.Gaining.{mark-here, mark-rises, saw-rises, side-rises, bool-dec}
use Rattle.qp_table.proofs.Places.{same-is}
use Rattle.qp_table.proofs.Saying.{same-more, logged-one, logged-number}
use Rattle.qp_side.specs.Rule.{signal_at}
use Rattle.qp_side.specs.Told.{last_seen}
use Rattle.qp_side.specs.declared.view.SideView.{SideView}
use Rattle.qp_shared_lane.specs.Holds.{LaneHolds, told_by, on_side_of, is_borne_out, SubscriberIs, FormerIs}
use Rattle.qp_side.specs.Seat.{side_mark}
use Rattle.qp_shared_lane.specs.Lane.{lane_with}
use Rattle.qp_shared_lane.specs.More.{IsPut, ViewFollows, SideFollows, AddsRecord, OnTable, OnSide, IsNoted}
use Rattle.qp_shared_lane.specs.Laws.{LaneGainsRecord, TableRecordsKeepTheLane, SideRecordsKeepTheLane, NotesKeepTheLane}
use Rattle.qp_shared_lane.proofs.Keeping.{more-holds, told-is, more-gains}

-- A record of one table is none of the other.

table-off : (t : Touch) → on_table t ≡ true → on_side t ≡ false
table-off (Draws (word.Pool p) n) h = refl
table-off (Draws (word.Block p b) n) h = refl
table-off (Draws (word.Queue a) n) h = refl
table-off (Draws (word.Signal a) n) h = absurd (cc)
table-off (Draws (word.Timer a) n) h = absurd (cc)
table-off (Shows (word.Pool p) n) h = refl
table-off (Shows (word.Block p b) n) h = refl
table-off (Shows (word.Queue a) n) h = refl
table-off (Shows (word.Signal a) n) h = absurd (cc)
table-off (Shows (word.Timer a) n) h = absurd (cc)
table-off Neither h = absurd (cc)

filter-skips : (p : Item → Bool) (is : List Item) (i : Item) → p i ≡ false → filter p (is ++ i ∷ []) ≡ filter p is
filter-skips p is i off = filter-append p is (i ∷ []) ∙ (ap (λ (b : Bool). filter p is ++ cond {A = List Item} b (i ∷ []) []) off ∙ append-nil (filter p is))

pub side-skips : (recs : List Rec) (r : Rec) → on_side (touch (item_of r)) ≡ false → on_side_of (recs ++ r ∷ []) ≡ on_side_of recs
unfolding on_side_of
side-skips recs r off = ap (filter (λ i. on_side (touch i))) (lane_items-more recs r) ∙ filter-skips (λ i. on_side (touch i)) (lane_items recs) (item_of r) off

side-case : (q : Rec) (logs : List table_log.SeatLog) → length logs ≡ 1 → own_of_logs (logged q logs) ≡ own_of_logs logs ++ item_of q ∷ []
side-case q [] one = absurd (omega arith)
side-case q (g ∷ gs) one = lane_items-more g.recs q

-- a record more on the side table, in the lane's list and in its view
side-more : (v : View) (recs : List Rec) (r q : Rec) → length v.logs ≡ 1 → on_side_of recs ≡ own_recs v → item_of r ≡ item_of q → on_side (touch (item_of q)) ≡ true → (u : View) → u.logs ≡ logged q v.logs → on_side_of (recs ++ r ∷ []) ≡ own_recs u
unfolding on_side_of own_recs
side-more v recs r q one same is on u logs =
    ap (filter (λ i. on_side (touch i))) (lane_items-more recs r)
    ∙ (filter-append (λ i. on_side (touch i)) (lane_items recs) (item_of r ∷ [])
    ∙ (ap (λ (b : Bool). filter (λ i. on_side (touch i)) (lane_items recs) ++ cond {A = List Item} b (item_of r ∷ []) []) (ap (λ (i : Item). on_side (touch i)) is ∙ on)
    ∙ ((λ i. same i ++ is i ∷ []) ∙ (sym (side-case q v.logs one) ∙ ap own_of_logs (sym logs)))))

pub table-skips : (recs : List Rec) (r : Rec) → on_table (touch (item_of r)) ≡ false → on_table_of (recs ++ r ∷ []) ≡ on_table_of recs
unfolding on_table_of
table-skips recs r off = ap (filter (λ i. on_table (touch i))) (lane_items-more recs r) ∙ filter-skips (λ i. on_table (touch i)) (lane_items recs) (item_of r) off

-- and says nothing of ceilings and subscribers
table-former : (o c : ℕ) (b : Body) (k : Known) → on_table (touch_of o b) ≡ true → FormerIs c b k
table-former o c (Lock x) k h = absurd (cc)
table-former o c _ k h = tt

table-subscriber : (serves : ℕ → Bool) (before : List Item) (o : ℕ) (b : Body) (k : Known) → on_table (touch_of o b) ≡ true → SubscriberIs serves before o b k
table-subscriber serves before o (Sub s n) k h = absurd (cc)
table-subscriber serves before o (Unsub s n) k h = absurd (cc)
table-subscriber serves before o (Same s n) k h = absurd (cc)
table-subscriber serves before o _ k h = tt

table-ceiling : (o c : ℕ) (b : Body) → on_table (touch_of o b) ≡ true → ceiling_after c b ≡ c
table-ceiling o c (Lock x) h = absurd (cc)
table-ceiling o c (Unlock x) h = absurd (cc)
table-ceiling o c _ h = refl

side-still : (sys : System) (s : SideView) → SideFollows sys s s
side-still sys s = record { logs = refl; number = refl; lane_numbers = refl; serves = refl; rise = λ k there. omega arith; stops = refl; answered = refl }

-- the mark of a record that touches w alone
touched : (w : Word) (k : ℕ) (t : ToldItem) (y : Word) (n : ℕ) → Touches w k t → mark_of y (touch_of t.of t.told.body) ≡ Some n → (same_word w y ≡ true) × (k ≡ n)
touched w k t y n touches e = go (same_word w y) refl (sym (touches.marks y) ∙ e)
  where
    some-is : (a b : ℕ) → Some a ≡ Some b → a ≡ b
    some-is a b e = ap (λ (o : Option ℕ). unwrap_or o 0) e

    go : (b : Bool) → same_word w y ≡ b → (if b then Some k else None) ≡ Some n → (same_word w y ≡ true) × (k ≡ n)
    go true is e = (is, some-is k n e)
    go false is e = absurd (cc)

module _ (world : List ℕ) (sys : System) (by count ceiling : ℕ) (g : Log) (numbers : List ℕ) (v : View) (s : SideView) (h : Log) (more : List ℕ) (u : View) (rec : Rec) (number : ℕ) (t : ToldItem) (w : Word) (k : ℕ)
    (holds : LaneHolds sys count ceiling g numbers v s) (put : IsPut rec number g numbers h more) (step : OnTable sys (hands_after [] (told_by g numbers v)) v u rec number t w k) where
  item-is : (λ (i : Item). touch i) (item_of rec) ≡ touch_of t.of t.told.body
  item-is = ap (λ (x : ToldItem). touch_of x.of x.told.body) step.told

  follows : ViewFollows sys v u
  follows = record {
    logs = ap length step.logs ∙ logged-one step.as_seen v.logs;
    number = logged-number step.as_seen v u step.logs;
    lane_numbers = step.lane_numbers;
    serves = step.serves;
    grown = step.grown;
    read = step.read;
    still = step.still;
    placed = step.placed;
    worn = step.worn;
    rise = mark-rises sys w v u step.found step.saw;
    seen = step.seen;
  }

  marked : (y : Word) (n : ℕ) → IsTrue (is_on_table y) → mark_of y (touch_of t.of t.told.body) ≡ Some n → n ≤ mark_seen sys u.seen y
  marked y n on e = let z = touched w k t y n step.touches e in let z1 = z.1 in
      subst (λ x. n ≤ mark_seen sys u.seen x) (same-is w y z.0) (let m = mark-here sys w v u step.found step.saw in let j = step.mark in omega arith)

  side-marked : (j n : ℕ) → mark_of (word.Signal j) (touch_of t.of t.told.body) ≡ Some n → n ≤ mark_in (signal_at j) (last_seen (signal_at j) s)
  side-marked j n e = let z = touched w k t (word.Signal j) n step.touches e in none (word-is (same-is w (word.Signal j) z.0))
    where
      word-is : w ≡ word.Signal j → is_here sys (word.Signal j) ≡ true
      word-is is = subst (λ x. is_here sys x ≡ true) is step.saw.here

      none : is_here sys (word.Signal j) ≡ true → n ≤ mark_in (signal_at j) (last_seen (signal_at j) s)
      none wrong = absurd (cc)

  adds : AddsRecord sys (λ o. list_any (is_serve o) v.serves) g.recs.items (hands_after [] (told_by g numbers v)) ceiling u s rec number t
  adds = record {
    told = step.told;
    same = same-more v g.recs.items rec step.as_seen holds.lane holds.same step.says (ap (λ (i : Item). on_table (touch i)) (sym step.says) ∙ (ap on_table item-is ∙ step.on)) u step.logs;
    same_side = side-skips g.recs.items rec (ap on_side item-is ∙ table-off (touch_of t.of t.told.body) step.on) ∙ holds.same_side;
    hands_are = step.hands_are;
    handled = step.handled;
    marked = marked;
    side_marked = λ j n there e. side-marked j n e;
    borne = step.borne;
    subscriber = table-subscriber (λ o. list_any (is_serve o) v.serves) (lane_items g.recs.items) t.of t.told.body t.told.known step.on;
    former = table-former t.of ceiling t.told.body t.told.known step.on;
  }

  pub table-kept : LaneGainsRecord world sys by count ceiling g numbers v s h more u s ceiling t
  table-kept = record {
    holds = subst (λ c. LaneHolds sys count c h more u s) (table-ceiling t.of ceiling t.told.body step.on) (more-holds sys count ceiling g numbers v s holds h more u s rec number t put follows (side-still sys s) adds);
    told = told-is sys count ceiling g numbers v s holds h more u s rec number t put follows (side-still sys s) adds;
    gains = more-gains sys count ceiling g numbers v s holds h more u s rec number t put follows (side-still sys s) adds world by w k
        (subst (λ n. Rises w n (lane_mark sys v.seen (side_mark sys s)) (lane_mark sys u.seen (side_mark sys s)) (shown_seen sys v.seen) (shown_seen sys u.seen)) step.mark (saw-rises sys (side_mark sys s) w v u step.found step.saw).0) step.touches;
  }

-- A record of the side table is none of the event table, moves no token and handles none.

side-off : (t : Touch) → on_side t ≡ true → on_table t ≡ false
side-off (Draws (word.Pool p) n) h = absurd (cc)
side-off (Draws (word.Block p b) n) h = absurd (cc)
side-off (Draws (word.Queue a) n) h = absurd (cc)
side-off (Draws (word.Signal a) n) h = refl
side-off (Draws (word.Timer a) n) h = refl
side-off (Shows (word.Pool p) n) h = absurd (cc)
side-off (Shows (word.Block p b) n) h = absurd (cc)
side-off (Shows (word.Queue a) n) h = absurd (cc)
side-off (Shows (word.Signal a) n) h = refl
side-off (Shows (word.Timer a) n) h = refl
side-off Neither h = refl

side-moves : (o : ℕ) (b : Body) (k : Known) (hands : List Token) → on_side (touch_of o b) ≡ true → hands_of hands b k ≡ hands
side-moves o (Took f l m e) k hands h = absurd (cc)
side-moves o (New p n b from sig pars) k hands h = absurd (cc)
side-moves o (Inc p b r) k hands h = absurd (cc)
side-moves o (Dec p b d r) k hands h = absurd (cc)
side-moves o (Back p n b to) k hands h = absurd (cc)
side-moves o (Post a f l m e) k hands h = absurd (cc)
side-moves o (Lifo f l m e) k hands h = absurd (cc)
side-moves o _ k hands h = refl

side-handles : (o : ℕ) (b : Body) (x : Token) → on_side (touch_of o b) ≡ true → handles x b ≡ false
side-handles o (Took f l m e) x h = absurd (cc)
side-handles o (Inc p b r) x h = absurd (cc)
side-handles o (Dec p b d r) x h = absurd (cc)
side-handles o (Post a f l m e) x h = absurd (cc)
side-handles o (Lifo f l m e) x h = absurd (cc)
side-handles o _ x h = refl

side-former : (o c : ℕ) (b : Body) (k : Known) → on_side (touch_of o b) ≡ true → FormerIs c b k
side-former o c (Lock x) k h = absurd (cc)
side-former o c _ k h = tt

side-ceiling : (o c : ℕ) (b : Body) → on_side (touch_of o b) ≡ true → ceiling_after c b ≡ c
side-ceiling o c (Lock x) h = absurd (cc)
side-ceiling o c (Unlock x) h = absurd (cc)
side-ceiling o c _ h = refl

signal-mark : (sys : System) (s : SideView) (j : ℕ) → IsTrue (is_signal sys j) → side_mark sys s (word.Signal j) ≡ mark_in (signal_at j) (last_seen (signal_at j) s)
signal-mark sys s j there = ap (λ (b : Bool). cond {A = ℕ} b (mark_in (signal_at j) (last_seen (signal_at j) s)) 0) there

off-table : (x : Word) → is_on_table x ≡ true → is_on_table x ≡ false → {P : Type 0} → P
off-table x a b = absurd (cc)

pub table-records : TableRecordsKeepTheLane
table-records world sys by count ceiling g numbers v s h more u rec number t w k holds put step = table-kept world sys by count ceiling g numbers v s h more u rec number t w k holds put step

stays-at : (sys : System) (count ceiling : ℕ) (g : Log) (numbers : List ℕ) (v : View) (s : SideView) → LaneHolds sys count ceiling g numbers v s → ViewFollows sys v v
stays-at sys count ceiling g numbers v s holds = record {
  logs = refl;
  number = refl;
  lane_numbers = refl;
  serves = λ o. refl;
  grown = λ e has. (has, refl);
  read = holds.read;
  still = holds.still;
  placed = holds.placed;
  worn = holds.worn;
  rise = λ w. omega arith;
  seen = ([], sym (append-nil v.seen));
}

module _ (world : List ℕ) (sys : System) (by count ceiling : ℕ) (g : Log) (numbers : List ℕ) (v : View) (s : SideView) (h : Log) (more : List ℕ) (z : SideView) (rec : Rec) (number : ℕ) (t : ToldItem) (w : Word) (k : ℕ)
    (holds : LaneHolds sys count ceiling g numbers v s) (put : IsPut rec number g numbers h more) (step : OnSide sys (λ o. list_any (is_serve o) v.serves) g.recs.items s z rec number t w k) where
  side-told : told_as (event_seen v.contents) (item_of rec) number ≡ t
  side-told = step.told (event_seen v.contents)

  side-item : touch (item_of rec) ≡ touch_of t.of t.told.body
  side-item = ap (λ (x : ToldItem). touch_of x.of x.told.body) side-told

  side-rise : (y : Word) → side_mark sys s y ≤ side_mark sys z y
  side-rise y = bool-dec (same_word w y)
      (λ is. subst (λ x. side_mark sys s x ≤ side_mark sys z x) (same-is w y is) (let a = step.rise in let b = step.here in omega arith))
      (λ other. let e = step.others y other in omega arith)

  side-follows : SideFollows sys s z
  side-follows = record {
    logs = ap length step.logs ∙ logged-one step.as_seen s.view.logs;
    number = logged-number step.as_seen s.view z.view step.logs;
    lane_numbers = step.lane_numbers;
    serves = step.serves_stay;
    rise = λ j there. let a = signal-mark sys s j there in let b = signal-mark sys z j there in let c = side-rise (word.Signal j) in omega arith;
    stops = step.stops;
    answered = step.answered;
  }

  side-adds : AddsRecord sys (λ o. list_any (is_serve o) v.serves) g.recs.items (hands_after [] (told_by g numbers v)) ceiling v z rec number t
  unfolding hands_by
  side-adds = record {
    told = side-told;
    same = table-skips g.recs.items rec (ap on_table side-item ∙ side-off (touch_of t.of t.told.body) step.on) ∙ holds.same;
    same_side = side-more s.view g.recs.items rec step.as_seen holds.side_lane holds.same_side step.says (ap (λ (i : Item). on_side (touch i)) (sym step.says) ∙ (ap on_side side-item ∙ step.on)) z.view step.logs;
    hands_are = λ x. ap (tokens x) (side-moves t.of t.told.body t.told.known (hands_after [] (told_by g numbers v)) step.on) ∙ holds.hands x;
    handled = λ e is. let off = side-handles t.of t.told.body (token_of e) step.on in absurd (cc);
    marked = λ y n on e. let q = touched w k t y n step.touches e in off-table y on (subst (λ x. is_on_table x ≡ false) (same-is w y q.0) step.word_is);
    side_marked = λ j n there e. let q = touched w k t (word.Signal j) n step.touches e in let q1 = q.1 in
        let m : side_mark sys z (word.Signal j) ≡ k = subst (λ x. side_mark sys z x ≡ k) (same-is w (word.Signal j) q.0) step.here in let a = signal-mark sys z j there in omega arith;
    borne = step.borne v.seen;
    subscriber = step.subscriber;
    former = side-former t.of ceiling t.told.body t.told.known step.on;
  }

  pub side-kept : LaneGainsRecord world sys by count ceiling g numbers v s h more v z ceiling t
  side-kept = record {
    holds = subst (λ c. LaneHolds sys count c h more v z) (side-ceiling t.of ceiling t.told.body step.on) (more-holds sys count ceiling g numbers v s holds h more v z rec number t put (stays-at sys count ceiling g numbers v s holds) side-follows side-adds);
    told = told-is sys count ceiling g numbers v s holds h more v z rec number t put (stays-at sys count ceiling g numbers v s holds) side-follows side-adds;
    gains = more-gains sys count ceiling g numbers v s holds h more v z rec number t put (stays-at sys count ceiling g numbers v s holds) side-follows side-adds world by w k
        (side-rises sys v w k (side_mark sys s) (side_mark sys z) step.word_is step.here step.rise step.others) step.touches;
  }

pub side-records : SideRecordsKeepTheLane
side-records world sys by count ceiling g numbers v s h more z rec number t w k holds put step = side-kept world sys by count ceiling g numbers v s h more z rec number t w k holds put step

module _ (world : List ℕ) (sys : System) (by count ceiling : ℕ) (g : Log) (numbers : List ℕ) (v : View) (s : SideView) (h : Log) (more : List ℕ) (rec : Rec) (number : ℕ) (t : ToldItem)
    (holds : LaneHolds sys count ceiling g numbers v s) (put : IsPut rec number g numbers h more) (note : IsNoted rec number ceiling t) where
  as-told : told_as (event_seen v.contents) (item_of rec) number ≡ t
  as-told = note.told (event_seen v.contents)

  off-is : touch (item_of rec) ≡ Neither
  off-is = ap (λ (x : ToldItem). touch_of x.of x.told.body) as-told ∙ note.off

  stays : ViewFollows sys v v
  stays = record {
    logs = refl;
    number = refl;
    lane_numbers = refl;
    serves = λ o. refl;
    grown = λ e has. (has, refl);
    read = holds.read;
    still = holds.still;
    placed = holds.placed;
    worn = holds.worn;
    rise = λ w. omega arith;
    seen = ([], sym (append-nil v.seen));
  }

  no-mark : (w : Word) (n : ℕ) {P : Type 0} → mark_of w (touch_of t.of t.told.body) ≡ Some n → P
  no-mark w n e = none (ap (mark_of w) (sym note.off) ∙ e)
    where
      none : {P : Type 0} → mark_of w Neither ≡ Some n → P
      none e = absurd (cc)

  note-adds : AddsRecord sys (λ o. list_any (is_serve o) v.serves) g.recs.items (hands_after [] (told_by g numbers v)) ceiling v s rec number t
  note-adds = record {
    told = as-told;
    same = table-skips g.recs.items rec (ap on_table off-is) ∙ holds.same;
    same_side = side-skips g.recs.items rec (ap on_side off-is) ∙ holds.same_side;
    hands_are = λ x. ap (tokens x) (note.moves (hands_after [] (told_by g numbers v))) ∙ holds.hands x;
    handled = λ e is. let off = note.handles_none (token_of e) in absurd (cc);
    marked = λ w n on e. no-mark w n e;
    side_marked = λ k n there e. no-mark (word.Signal k) n e;
    borne = note-borne t.told.body t.told.known note.off;
    subscriber = note-subscriber t.told.body t.told.known note.off;
    former = note.former;
  }
    where
      note-borne : (b : Body) (k : Known) → touch_of t.of b ≡ Neither → is_borne_out sys v.seen b k ≡ true
      note-borne (New p n b from sig pars) k e = absurd (cc)
      note-borne (Dec p b d r) k e = absurd (cc)
      note-borne (Same sig n) k e = absurd (cc)
      note-borne _ k e = refl

      note-subscriber : (b : Body) (k : Known) → touch_of t.of b ≡ Neither → SubscriberIs (λ o. list_any (is_serve o) v.serves) (lane_items g.recs.items) t.of b k
      note-subscriber (Sub s n) k e = absurd (cc)
      note-subscriber (Unsub s n) k e = absurd (cc)
      note-subscriber (Same s n) k e = absurd (cc)
      note-subscriber _ k e = tt

  note-holds : LaneHolds sys count (ceiling_after ceiling t.told.body) h more v s
  note-holds = more-holds sys count ceiling g numbers v s holds h more v s rec number t put stays (side-still sys s) note-adds

  note-told : told_by h more v ≡ told_by g numbers v ++ t ∷ []
  note-told = told-is sys count ceiling g numbers v s holds h more v s rec number t put stays (side-still sys s) note-adds

  note-marks : (w : Word) (n : ℕ) → mark_after w n (t ∷ []) ≡ n
  unfolding mark_after mark_by
  note-marks w n = (λ i. mark_or (mark_or n (mark_of w (note.off i))) (shown_from w t.told.body)) ∙ shows-none t.told.body note.off
    where
      shows-none : (b : Body) → touch_of t.of b ≡ Neither → mark_or n (shown_from w b) ≡ n
      shows-none (New p m b from sig pars) e = absurd (cc)
      shows-none _ e = refl

  note-gains : Gains (t ∷ []) (lane_with world sys by g numbers v s) (lane_with world sys by h more v s)
  unfolding lane_of
  note-gains = record {
    world = refl;
    sys = refl;
    told = note-told;
    by = refl;
    serves = λ o. refl;
    stops = put.stops;
    answered = ap codes_in put.answered;
    asked = ap length put.answered;
    mark = λ w. sym (note-marks w (lane_mark sys v.seen (side_mark sys s) w));
    rise = λ w. omega arith;
    between = λ w. between-one w (lane_mark sys v.seen (side_mark sys s) w) (lane_mark sys v.seen (side_mark sys s) w) t (sym (note-marks w (lane_mark sys v.seen (side_mark sys s) w))) (omega arith);
    shown = λ w e. refl;
    own = λ a. ap (own_after a (record { l = 0; m = 0 })) note-told ∙ own-append a (record { l = 0; m = 0 }) (told_by g numbers v) (t ∷ []);
    event = λ e known. refl;
    hands = ap (hands_after []) note-told ∙ hands-append [] (told_by g numbers v) (t ∷ []);
    plan = refl;
    happened = refl;
    lane = refl;
    log = ap (map (placed_by (lane_number v))) note-told ∙ map-append (placed_by (lane_number v)) (told_by g numbers v) (t ∷ []);
    aside = refl;
  }

pub notes-keep : NotesKeepTheLane
notes-keep world sys by count ceiling g numbers v s h more rec number t holds put note = record {
  holds = note-holds world sys by count ceiling g numbers v s h more rec number t holds put note;
  told = note-told world sys by count ceiling g numbers v s h more rec number t holds put note;
  gains = note-gains world sys by count ceiling g numbers v s h more rec number t holds put note;
}
