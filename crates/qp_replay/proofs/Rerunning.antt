-- A world run along a serial order: each next record may be made, and in the end the world's records are the journal's.
use Rattle.std.proofs.Common.{◌≡◌, ◌∙◌, ℕ, zero, suc, ◌+◌, ◌<◌, ◌≤◌, ◌==◌, nat_lt, Bool, true, false, not, ◌||◌, cond, List, [], ◌∷◌, ◌++◌, length, take, drop, map, refl, sym, ap, subst, arith, Option, Some, None, IsTrue, if◌then◌else◌}
use Rattle.std.specs.Prelude.{get_or, slice_get}
use Rattle.std.specs.Option.{option_and_then}
use Rattle.std.specs.List.{count_by}
use Rattle.std.proofs.lemmas.Bool.{and_parts}
use Rattle.std.proofs.lemmas.Bool.Decides.{nat_tests}
use Rattle.std.proofs.lemmas.List.{append-nil, length-map, length-set, take_all}
use Rattle.std.proofs.lemmas.List.Sums.{sum_by-cons}
use Rattle.std.proofs.lemmas.Option.{slice_get-get_or, slice_get_within, same_Some}
use Rattle.qp_model.specs.declared.record.Rec.{Rec}
use Rattle.qp_model.specs.declared.stimulus.Stim.{Stim}
use Rattle.qp_model.specs.declared.systems.System.{System}
use Rattle.qp_model.specs.declared.journals.Journal.{Journal}
use Rattle.qp_model.specs.declared.bodies.Body.{Body}
use Rattle.qp_model.specs.declared.bodies.Body.TheVariants as item
use Rattle.qp_model.specs.Record.{item_of}
use Rattle.qp_model.specs.End.{has_room}
use Rattle.qp_model.specs.Ends.{is_spill, spills_in}
use Rattle.qp_model.specs.History.{lane_items}
use Rattle.qp_model.specs.Kernels.{port}
use Rattle.qp_model.specs.Places.{IsSerial, RecordPlace}
use Rattle.qp_model.specs.Shapes.{ticks_fit}
use Rattle.qp_model.specs.Sound.{IsSound}
use Rattle.qp_model.specs.Lawful.{Lawful}
use Rattle.qp_stim.specs.Rules.{StimuliFit}
use Rattle.qp_calls.specs.Counting.{times}
use Rattle.qp_plain_sound.specs.Log.{Orders, empty_lanes, lane_recs, log_of, with_record}
use Rattle.qp_plain_sound.specs.May.{May}
use Rattle.qp_plain_sound.specs.Sound.{hands_in}
use Rattle.qp_plain_sound.proofs.NewLemmas.{no-lane}
use Rattle.qp_plain.specs.declared.world.PlainWorld.{PlainWorld}
use Rattle.qp_plain.specs.Book.{lists_of, logs_of}
use Rattle.qp_plain.specs.Books.{log_recs}
use Rattle.qp_plain.specs.NewWorld.{GoesTo, IsNewWorld, lanes_in}
use Rattle.qp_plain.specs.Repeat.{FitsTimer, LaneIsWithin, MayRepeat, Remains, Repeats, lane_in}
use Rattle.qp_replay.specs.declared.marks.At.{At}
use Rattle.qp_replay.specs.Remaining.{record_place}
use Rattle.qp_replay.specs.RerunLaws.{ComesNext, TicksFit, World, made, made_on, record_at, with_next}
use Rattle.qp_replay.specs.Rerun.{MayGoNext, IsRerun, world_in}
use Rattle.qp_replay.proofs.OneThread.{a_record, empty-length, lanes-same, made-push, one-thread, room-before}

-- ticks that fit a timer fit its word
pub fits-timer : (b : Body) → TicksFit b → FitsTimer b
unfolding ticks_fit
fits-timer (item.Arm t n ticks interval) h =
    let p = and_parts _ _ h in
    let q = and_parts _ _ p.0 in
    (below ticks q.1, below interval p.1)
  where
    below : (x : ℕ) → nat_lt x 65536 ≡ true → x < 65536
    below x e = grind (arith, nat_tests)
fits-timer (item.Rearm t n former ticks) h = below ticks (and_parts _ _ (and_parts _ _ h).0).1
  where
    below : (x : ℕ) → nat_lt x 65536 ≡ true → x < 65536
    below x e = grind (arith, nat_tests)
fits-timer _ h = tt

-- A journal has at least one lane, and at most 49.
pub lanes-some : (sys : System) (stimuli : List (List Stim)) (j : Journal) → Lawful sys stimuli j → 0 < length j.lanes
lanes-some sys stimuli j lawful = go (j.kernel == port) (lawful.sources.count)
  where
    go : (u : Bool) → IsTrue (length j.lanes == (if u then length sys.objects + 1 else 1) + length stimuli) → 0 < length j.lanes
    go true h = let is : length j.lanes ≡ length sys.objects + 1 + length stimuli = grind (arith, nat_tests, h) in omega (arith, is)
    go false h = let is : length j.lanes ≡ 1 + length stimuli = grind (arith, nat_tests, h) in omega (arith, is)

pub lanes-few : (sys : System) (stimuli : List (List Stim)) (j : Journal) → IsSound sys → StimuliFit sys stimuli → Lawful sys stimuli j → length j.lanes ≤ 49
lanes-few sys stimuli j sound fit lawful = go (j.kernel == port) (lawful.sources.count)
  where
    go : (u : Bool) → IsTrue (length j.lanes == (if u then length sys.objects + 1 else 1) + length stimuli) → length j.lanes ≤ 49
    go true h = let is : length j.lanes ≡ length sys.objects + 1 + length stimuli = grind (arith, nat_tests, h) in omega (arith, is, sound.few_objects, fit.few)
    go false h = let is : length j.lanes ≡ 1 + length stimuli = grind (arith, nat_tests, h) in omega (arith, is, fit.few)

-- The record at a place, as it is read.
at-place : (lanes : List (List Rec)) (n k : ℕ) (r : Rec) → record_at lanes (record_place n k) ≡ Some r → (l : List Rec) × (slice_get lanes n ≡ Some l) × (slice_get l k ≡ Some r)
at-place lanes n k r at = go (slice_get lanes n) refl at
  where
    go : (o : Option (List Rec)) → slice_get lanes n ≡ o → option_and_then (λ lane. slice_get lane k) o ≡ Some r → (l : List Rec) × (slice_get lanes n ≡ Some l) × (slice_get l k ≡ Some r)
    go None e h = absurd (cc)
    go (Some l) e h = (l, e, h)

pub lane-within : (lanes : List (List Rec)) (n k : ℕ) (r : Rec) → record_at lanes (record_place n k) ≡ Some r → n < length lanes
lane-within lanes n k r at = let f = at-place lanes n k r at in slice_get_within lanes n f.0 f.1

lane-read : (lanes : List (List Rec)) (n k : ℕ) (r : Rec) → record_at lanes (record_place n k) ≡ Some r → (lane : List Rec) → lane ≡ get_or lanes n lane → slice_get lane k ≡ Some r
lane-read lanes n k r at lane is =
    let f = at-place lanes n k r at in
    let same : f.0 ≡ lane = same_Some f.0 lane (sym f.1 ∙ slice_get-get_or lanes n lane (lane-within lanes n k r at) ∙ ap Some (sym is)) in
    subst (λ (l : List Rec). slice_get l k ≡ Some r) same f.2

pub place-within : (lanes : List (List Rec)) (n k : ℕ) (r : Rec) → record_at lanes (record_place n k) ≡ Some r → (lane : List Rec) → lane ≡ get_or lanes n lane → k < length lane
place-within lanes n k r at lane is = slice_get_within lane k r (lane-read lanes n k r at lane is)

pub record-read : (lanes : List (List Rec)) (n k : ℕ) (r : Rec) → record_at lanes (record_place n k) ≡ Some r → (lane : List Rec) (x : Rec) → lane ≡ get_or lanes n lane → x ≡ get_or lane k x → x ≡ r
record-read lanes n k r at lane x is here =
    let read = lane-read lanes n k r at lane is in
    here ∙ same_Some (get_or lane k x) r (sym (slice_get-get_or lane k x (slice_get_within lane k r read)) ∙ read)

-- One step: the lane is chosen, there is a place, and the record is made.

-- a world in which the lane is chosen, and else the same
pub record Chosen (w v : PlainWorld) (lane : ℕ) : Type 0 where
  pub sys_is : v.sys.now ≡ w.sys.now
  pub lists : lists_of v.book ≡ lists_of w.book
  pub order : v.book.order.items ≡ w.book.order.items
  pub lanes : lanes_in v ≡ lanes_in w
  pub at : v.book.at ≡ lane

pub goes-to : (w v : PlainWorld) (lane : ℕ) → GoesTo lane w v → Chosen w v lane
goes-to w v lane goes = record { sys_is = goes.sys_is; lists = ap (map log_recs) goes.logs; order = goes.order; lanes = goes.lanes; at = goes.at }

pub remains : (w v u : PlainWorld) (lane : ℕ) → Chosen w v lane → Remains v u → Chosen w u lane
remains w v u lane c r = record {
  sys_is = r.sys_is ∙ c.sys_is;
  lists = r.keeps.lists ∙ c.lists;
  order = r.keeps.order ∙ c.order;
  lanes = ap length r.keeps.stays.others ∙ c.lanes;
  at = r.keeps.stays.at ∙ c.at;
}

lane-now : (w v : PlainWorld) (lane : ℕ) → Chosen w v lane → lane_in v ≡ lane_recs (lists_of w.book) lane
lane-now w v lane c = ap (λ (ls : List (List Rec)). lane_recs ls v.book.at) c.lists ∙ ap (lane_recs (lists_of w.book)) c.at

module _ (lanes : List (List Rec)) (x : RecordPlace) (w : PlainWorld) (goes : MayGoNext lanes x w) (r : Rec) (is : r ≡ goes.rec) (v : PlainWorld) (c : Chosen w v x.lane) where
  pub is-within : LaneIsWithin r v
  is-within regular =
      subst (λ (l : List Rec). length l < 1000000) (sym (lane-now w v x.lane c)) (goes.few (ap (λ (y : Rec). is_spill (item_of y).body) (sym is) ∙ regular))

  pub is-sound : IsSound v.sys.now
  is-sound = subst IsSound (sym c.sys_is) goes.sound

  pub may-repeat : MayRepeat r v
  may-repeat = record {
    may = subst (λ (s : System). May s (lists_of v.book) (hands_in s (lists_of v.book) v.book.order.items) (item_of r).of (item_of r).body) (sym c.sys_is)
        (subst (λ ls. May w.sys.now ls (hands_in w.sys.now ls v.book.order.items) (item_of r).of (item_of r).body) (sym c.lists)
        (subst (λ o. May w.sys.now (lists_of w.book) (hands_in w.sys.now (lists_of w.book) o) (item_of r).of (item_of r).body) (sym c.order)
        (subst (λ (y : Rec). May w.sys.now (lists_of w.book) (hands_in w.sys.now (lists_of w.book) w.book.order.items) (item_of y).of (item_of y).body) (sym is) goes.next.may)));
    fits = subst (λ (y : Rec). FitsTimer (item_of y).body) (sym is) (fits-timer (item_of goes.rec).body goes.next.ticks);
    goes_on = subst (λ (l : List Rec). spills_in (lane_items l) ≡ false) (sym (lane-now w v x.lane c)) goes.next.goes_on;
  }

  pub is-made : (u : PlainWorld) → Repeats r v u → world_in u ≡ with_next (world_in w) x.lane (record_at lanes x)
  is-made u made =
      let lists : lists_of u.book ≡ with_record (lists_of w.book) x.lane goes.rec =
      made.gains.grown.lanes_are ∙ ap (λ ls. with_record ls v.book.at r) c.lists ∙ ap (λ a. with_record (lists_of w.book) a r) c.at ∙ ap (with_record (lists_of w.book) x.lane) is in
      let order : u.book.order.items ≡ w.book.order.items ++ x.lane ∷ [] = made.gains.grown.order_is ∙ ap (λ o. o ++ v.book.at ∷ []) c.order ∙ ap (λ a. w.book.order.items ++ a ∷ []) c.at in
      ap (λ (ls : List (List Rec)). record { lanes = ls; order = u.book.order.items }) lists ∙ ap (λ o. record { lanes = with_record (lists_of w.book) x.lane goes.rec; order = o }) order
      ∙ sym (ap (with_next (world_in w) x.lane) goes.there)

  pub same-system : (u : PlainWorld) → Repeats r v u → u.sys.now ≡ w.sys.now
  same-system u made = made.sys_is ∙ c.sys_is

  pub same-lanes : (u : PlainWorld) → Repeats r v u → lanes_in u ≡ lanes_in w
  same-lanes u made = ap length made.gains.stays.others ∙ c.lanes

-- The records of a new world.
no-order : (lanes : List (List Rec)) (order : List ℕ) → Orders lanes order → log_of lanes order ≡ [] → order ≡ []
unfolding log_of times
no-order lanes [] orders none = refl
no-order lanes (a ∷ order) orders none = go (lane_recs lanes a) refl
  where
    self : (a == a) ≡ true
    self = grind (arith, nat_tests)

    some : 0 < length (lane_recs lanes a)
    some = let is = orders a in let one : times (λ x. x == a) (a ∷ order) ≡ 1 + times (λ x. x == a) order = rw self refl in omega (arith, is, one)

    go : (l : List Rec) → lane_recs lanes a ≡ l → a ∷ order ≡ []
    go [] e = absurd (let long = ap length e in omega (arith, long, some))
    go (r ∷ rs) e = absurd (let wrong = rw e at none in cc)

all-empty : (n : ℕ) (lanes : List (List Rec)) → length lanes ≡ n → Orders lanes [] → lanes ≡ empty_lanes n
unfolding times
all-empty n lanes long orders =
    lanes-same lanes (empty_lanes n) (long ∙ sym (empty-length n)) (λ a less. none (lane_recs lanes a) (orders a) ∙ sym (no-lane n a))
  where
    none : (l : List Rec) → 0 ≡ length l → l ≡ []
    none [] e = refl
    none (r ∷ rs) e = absurd (omega (arith, e))

pub new-world : (sys : System) (n : ℕ) (w : PlainWorld) → IsNewWorld sys n w → world_in w ≡ record { lanes = empty_lanes n; order = [] }
new-world sys n w new =
    let order = no-order (lists_of w.book) w.book.order.items w.holds.world.orders new.log in
    let long : length (lists_of w.book) ≡ n = length-map (logs_of w.book) log_recs ∙ length-set w.book.others.items w.book.at w.book.here ∙ new.lanes in
    let lanes = all-empty n (lists_of w.book) long (subst (Orders (lists_of w.book)) order w.holds.world.orders) in
    ap (λ x. record { lanes = x; order = w.book.order.items }) lanes ∙ ap (λ x. record { lanes = empty_lanes n; order = x }) order

pub begins : (sys : System) (lanes : List (List Rec)) (n : ℕ) (w : PlainWorld) → IsNewWorld sys n w → n ≡ length lanes → world_in w ≡ made lanes []
unfolding made made_on
begins sys lanes n w new long = new-world sys n w new ∙ ap (λ k. record { lanes = empty_lanes k; order = [] }) long

-- A list of places, up to one of them.
abbrev pub place_of : At → RecordPlace
place_of x = record_place x.lane x.place

pub split-at : (xs : List At) (i : ℕ) (d : At) → i < length xs → map place_of xs ≡ map place_of (take i xs) ++ place_of (get_or xs i d) ∷ map place_of (drop (suc i) xs)
split-at [] i d less = absurd (omega (arith, less))
split-at (x ∷ xs) zero d less = refl
split-at (x ∷ xs) (suc i) d less = ap (λ ys. place_of x ∷ ys) (split-at xs i d (omega (arith, less)))

pub one-more : (xs : List At) (i : ℕ) (d : At) → i < length xs → map place_of (take i xs) ++ place_of (get_or xs i d) ∷ [] ≡ map place_of (take (suc i) xs)
one-more [] i d less = absurd (omega (arith, less))
one-more (x ∷ xs) zero d less = refl
one-more (x ∷ xs) (suc i) d less = ap (λ ys. place_of x ∷ ys) (one-more xs i d (omega (arith, less)))

pub all-taken : (xs : List At) (i : ℕ) → length xs ≤ i → map place_of (take i xs) ≡ map place_of xs
all-taken xs i le = ap (map place_of) (take_all i xs le)

-- a record behind n others in its lane, none of which is a `spill`, stands within the limit
few-before : (l : List Rec) (n : ℕ) (r : Rec) → slice_get l n ≡ Some r → spills_in (lane_items (take n l)) ≡ false → is_spill (item_of r).body ≡ false → has_room (lane_items l) ≡ true → n < 1000000
unfolding has_room lane_items
few-before l n r at none regular room =
    let less = go l n at none in
    let within : count_by (λ i. not (is_spill i.body)) (lane_items l) ≤ 1000000 = grind (arith, nat_tests, room) in
    omega (arith, less, within)
  where
    go : (l : List Rec) (n : ℕ) → slice_get l n ≡ Some r → spills_in (lane_items (take n l)) ≡ false → n < count_by (λ i. not (is_spill i.body)) (lane_items l)
    go [] n at none = absurd (cc)
    go (x ∷ xs) zero at none =
        let same : x ≡ r = cc in
        let one : is_spill (item_of x).body ≡ false = ap (λ y. is_spill (item_of y).body) same ∙ regular in
        let sum = sum_by-cons (λ i. cond (not (is_spill i.body)) 1 0) (item_of x) (map item_of xs) in
        let first : ◌≡◌ {A = ℕ} (cond (not (is_spill (item_of x).body)) 1 0) 1 = rw one refl in
        omega (arith, sum, first)
    go (x ∷ xs) (suc n) at none = split (is_spill (item_of x).body) refl none (λ h. go xs n at h)
      where
        split : (b : Bool) → is_spill (item_of x).body ≡ b → (b || spills_in (lane_items (take n xs))) ≡ false
            → (spills_in (lane_items (take n xs)) ≡ false → n < count_by (λ i. not (is_spill i.body)) (lane_items xs)) → suc n < count_by (λ i. not (is_spill i.body)) (lane_items (x ∷ xs))
        split true e h later = absurd (cc)
        split false e h later =
            let more = later h in
            let sum = sum_by-cons (λ i. cond (not (is_spill i.body)) 1 0) (item_of x) (map item_of xs) in
            let first : ◌≡◌ {A = ℕ} (cond (not (is_spill (item_of x).body)) 1 0) 1 = rw e refl in
            omega (arith, sum, first, more)

-- Along the order.
module _ (sys : System) (stimuli : List (List Stim)) (j : Journal) (order : List RecordPlace) (sound : IsSound sys) (fit : StimuliFit sys stimuli) (lawful : Lawful sys stimuli j)
    (serial : IsSerial j.lanes order) where
  pub goes-next : (front behind : List RecordPlace) (x : RecordPlace) → order ≡ front ++ x ∷ behind → (w : PlainWorld) → w.sys.now ≡ sys → world_in w ≡ made j.lanes front
      → lanes_in w ≡ length j.lanes → MayGoNext j.lanes x w
  goes-next front behind x split w sys_is made_is wide =
      let rec = a_record sys stimuli j order sound fit lawful serial front behind x split in
      let law = (one-thread sys stimuli j order sound fit lawful serial).0 front (x ∷ behind) split in
      let next = law.next x behind rec.0 refl rec.1 in
      let stand = room-before sys stimuli j order sound fit lawful serial front behind x rec.0 split rec.1 in
      record {
        sound = subst IsSound (sym sys_is) sound;
        lane = subst (λ n. x.lane < n) (sym wide) stand.within;
        rec = rec.0;
        there = rec.1;
        next = subst (λ (s : System). ComesNext s (world_in w) x.lane rec.0) (sym sys_is) (subst (λ (v : World). ComesNext sys v x.lane rec.0) (sym made_is) next);
        few = λ regular. subst (λ (v : World). length (lane_recs v.lanes x.lane) < 1000000) (sym made_is)
            (subst (λ n. n < 1000000) (sym stand.long) (few-before (lane_recs j.lanes x.lane) x.at rec.0 stand.there (subst (λ (l : List Rec). spills_in (lane_items l) ≡ false) stand.before next.goes_on) regular stand.room));
      }

  pub made-next : (front behind : List RecordPlace) (x : RecordPlace) → order ≡ front ++ x ∷ behind → (w after : World) → w ≡ made j.lanes front → after ≡ with_next w x.lane (record_at j.lanes x)
      → after ≡ made j.lanes (front ++ x ∷ [])
  made-next front behind x split w after is next =
      let rec = a_record sys stimuli j order sound fit lawful serial front behind x split in
      next ∙ ap (λ (v : World). with_next v x.lane (record_at j.lanes x)) is ∙ ap (with_next (made j.lanes front) x.lane) rec.1 ∙ made-push j.lanes front x rec.0 rec.1

  pub all-made : (w : PlainWorld) → w.sys.now ≡ sys → world_in w ≡ made j.lanes order → IsRerun sys j.lanes order w
  all-made w sys_is is =
      let law = one-thread sys stimuli j order sound fit lawful serial in
      record {
        sys_is = sys_is;
        log = ap (λ (v : World). log_of v.lanes v.order) is ∙ (law.0 order [] (sym (append-nil order))).log;
        lanes_are = ap (λ (v : World). v.lanes) is ∙ law.1;
      }
