-- One thread makes a lawful journal's records along a serial order of it.
use Rattle.std.proofs.Common.{◌≡◌, ◌∙◌, ℕ, zero, suc, ◌+◌, ◌<◌, ◌≤◌, ◌==◌, nat_lt, Bool, true, false, ◌&&◌, List, [], ◌∷◌, ◌++◌, length, take, refl, sym, ap, subst, arith, Some, append_assoc}
use Rattle.std.specs.Prelude.{slice_get, IsPermutation}
use Rattle.std.specs.List.{AllByRecursion, cons_option, list_all}
use Rattle.std.specs.Option.{option_and_then, option_map}
use Rattle.std.proofs.lemmas.Bool.{and_parts, eqb-true}
use Rattle.std.proofs.lemmas.Bool.Decides.{nat_tests}
use Rattle.std.proofs.lemmas.List.{append-nil, take_all}
use Rattle.std.proofs.lemmas.List.Elements.{filter_map-append}
use Rattle.std.proofs.lemmas.List.Sorted.{All-permutation}
use Rattle.qp_model.specs.declared.record.Rec.{Rec}
use Rattle.qp_model.specs.declared.stimulus.Stim.{Stim}
use Rattle.qp_model.specs.declared.systems.System.{System}
use Rattle.qp_model.specs.declared.journals.Journal.{Journal}
use Rattle.qp_model.specs.declared.bodies.Body.{Body}
use Rattle.qp_model.specs.declared.bodies.Body.TheVariants as item
use Rattle.qp_model.specs.Record.{Item, item_of}
use Rattle.qp_model.specs.History.{all_items, hist, lane_items}
use Rattle.qp_model.specs.Knowing.{records_of}
use Rattle.qp_model.specs.Home.{lane_at}
use Rattle.qp_model.specs.Places.{IsSerial, RecordPlace, items_at, places, places_from, places_in}
use Rattle.qp_model.specs.Sound.{IsSound}
use Rattle.qp_model.specs.End.{has_room}
use Rattle.qp_model.specs.Lawful.{EndHolds, Lawful, facts_of}
use Rattle.qp_stim.specs.Rules.{StimuliFit}
use Rattle.qp_calls.specs.Counting.{count_of, times}
use Rattle.qp_calls.specs.Tokens.{Token, hands_after}
use Rattle.qp_plain_sound.specs.Log.{empty_lanes, lane_recs, log_of, with_record}
use Rattle.qp_plain_sound.specs.Sound.{SoundWorld, hands_in, sum_below, told_log}
use Rattle.qp_plain_sound.proofs.EndLemmas.{sum-none}
use Rattle.qp_plain_sound.proofs.Logs.{log-grows}
use Rattle.qp_plain_sound.proofs.NewLemmas.{new-sound, no-items, no-lane}
use Rattle.qp_replay.specs.RerunLaws.{RerunGoesOn, OneThreadMakesIt, TicksFit, World, made, made_on, placed_at, record_at, with_next}
use Rattle.qp_replay.proofs.NextMay.{TookGood, claims, rules-known}
use Rattle.qp_replay.proofs.Along.{Along, Found, along-next, at-record, get-lane, items-get, local, may-this, owned, unspilled, uses-this, world-next}
use Rattle.qp_replay.proofs.Fronts.{below, in-lane, stands-there, tally-permutation, tally-same}
use Rattle.qp_replay.proofs.Histories.{by-index, from-index}
use Rattle.qp_replay.proofs.LaneSpills.{spill-last}
use Rattle.qp_replay.proofs.CallRecords.{Lin, Uses}
use Rattle.qp_replay.proofs.OwnerRecords.{owners-lin}
use Rattle.qp_replay.proofs.NamedRecords.{chart-names, stimuli-names}
use Rattle.qp_model.proofs.NumberLemmas.{every-append, every}
use Rattle.qp_model.proofs.HistoryLemmas.{no-hist}
use Rattle.qp_model.proofs.ListLemmas.{some-there, every-there}

-- Places of records.

record There (lanes : List (List Rec)) (x : RecordPlace) : Type 0 where
  lane : x.lane < length lanes
  place : x.at < length (lane_recs lanes x.lane)

-- a place of these lanes, the first of which has number k
record From (k : ℕ) (ls : List (List Rec)) (x : RecordPlace) : Type 0 where
  m : ℕ
  is : x.lane ≡ k + m
  lane : m < length ls
  place : x.at < length (lane_recs ls m)

in-one : (k at n : ℕ) (rs : List Rec) → at + length rs ≡ n → AllByRecursion (λ x. (x.lane ≡ k) × (x.at < n)) (places_in k at rs)
unfolding places_in
in-one k at n [] is = tt
in-one k at n (r ∷ rs) is = ((refl, omega (arith, is)), in-one k (suc at) n rs (omega (arith, is)))

all-from-lane : (k : ℕ) (ls : List (List Rec)) → AllByRecursion (From k ls) (places_from k ls)
unfolding places_from
all-from-lane k [] = tt
all-from-lane k (l ∷ ls) =
    every-append (From k (l ∷ ls)) (places_in k 0 l) (places_from (suc k) ls)
    (every (λ x. (x.lane ≡ k) × (x.at < length l)) (From k (l ∷ ls)) (λ x h. let same = h.0 in record { m = 0; is = omega (arith, same); lane = omega arith; place = h.1 }) (places_in k 0 l)
    (in-one k 0 (length l) l (omega arith)))
    (every (From (suc k) ls) (From k (l ∷ ls)) (λ x h. let same = h.is in let less = h.lane in record { m = suc h.m; is = omega (arith, same); lane = omega (arith, less); place = h.place })
    (places_from (suc k) ls) (all-from-lane (suc k) ls))

all-there : (lanes : List (List Rec)) → AllByRecursion (There lanes) (places lanes)
unfolding places
all-there lanes = every (From 0 lanes) (There lanes) (λ x h. one x h.m h.is h.lane h.place) (places_from 0 lanes) (all-from-lane 0 lanes)
  where
    one : (x : RecordPlace) (m : ℕ) → x.lane ≡ 0 + m → m < length lanes → x.at < length (lane_recs lanes m) → There lanes x
    one x m is lane place =
        let same : m ≡ x.lane = omega (arith, is) in record { lane = subst (λ k. k < length lanes) same lane; place = subst (λ k. x.at < length (lane_recs lanes k)) same place }

ordered-there : (lanes : List (List Rec)) (order : List RecordPlace) → IsPermutation (places lanes) order → AllByRecursion (There lanes) order
ordered-there lanes order all = from-index (There lanes) order (All-permutation (There lanes) (places lanes) order all (by-index (There lanes) (places lanes) (all-there lanes)))

-- the record at a place, both ways
at-lane : (lanes : List (List Rec)) (x : RecordPlace) → x.lane < length lanes → record_at lanes x ≡ slice_get (lane_recs lanes x.lane) x.at
at-lane lanes x less = ap (λ o. option_and_then (λ lane. slice_get lane x.at) o) (get-lane lanes x.lane less)

-- a bound of the objects
top : List Item → ℕ
top [] = 0
top (i ∷ is) = suc i.of + top is

all-below-top : (n : ℕ) (is : List Item) → top is ≤ n → AllByRecursion (λ i. i.of < n) is
unfolding top
all-below-top n [] le = tt
all-below-top n (i ∷ is) le = (omega (arith, le), all-below-top n is (omega (arith, le)))

-- Lists.

pub lanes-same : (xs ys : List (List Rec)) → length xs ≡ length ys → ((a : ℕ) → a < length ys → lane_recs xs a ≡ lane_recs ys a) → xs ≡ ys
lanes-same [] [] long same = refl
lanes-same [] (y ∷ ys) long same = absurd (omega (arith, long))
lanes-same (x ∷ xs) [] long same = absurd (omega (arith, long))
lanes-same (x ∷ xs) (y ∷ ys) long same =
    let first : x ≡ y = same 0 (omega arith) in
    let others : xs ≡ ys = lanes-same xs ys (omega (arith, long)) (λ a less. same (suc a) (omega (arith, less))) in
    ap (λ z. z ∷ xs) first ∙ ap (λ zs. y ∷ zs) others

pub empty-length : (n : ℕ) → length (empty_lanes n) ≡ n
empty-length zero = refl
empty-length (suc n) = let more = empty-length n in omega (arith, more)

made_on-append : (lanes : List (List Rec)) (w : World) (xs ys : List RecordPlace) → made_on lanes w (xs ++ ys) ≡ made_on lanes (made_on lanes w xs) ys
unfolding made_on
made_on-append lanes w [] ys = refl
made_on-append lanes w (x ∷ xs) ys = made_on-append lanes (with_next w x.lane (record_at lanes x)) xs ys

pub made-push : (lanes : List (List Rec)) (A : List RecordPlace) (x : RecordPlace) (r : Rec) → record_at lanes x ≡ Some r → with_next (made lanes A) x.lane (Some r) ≡ made lanes (A ++ x ∷ [])
unfolding made made_on
made-push lanes A x r at =
    ap (with_next (made lanes A) x.lane) (sym at) ∙ sym (made_on-append lanes (record { lanes = empty_lanes (length lanes); order = [] }) A (x ∷ []))

placed-push : (lanes : List (List Rec)) (A : List RecordPlace) (x : RecordPlace) (r : Rec) → record_at lanes x ≡ Some r
    → placed_at lanes (A ++ x ∷ []) ≡ placed_at lanes A ++ record { lane = x.lane; item = item_of r } ∷ []
unfolding placed_at
placed-push lanes A x r at =
    filter_map-append (λ y. option_map (λ s. record { lane = y.lane; item = item_of s }) (record_at lanes y)) A (x ∷ [])
    ∙ ap (λ o. placed_at lanes A ++ cons_option (option_map (λ s. record { lane = x.lane; item = item_of s }) o) []) at

module _ (sys : System) (stimuli : List (List Stim)) (j : Journal) (order : List RecordPlace) (sound : IsSound sys) (fit : StimuliFit sys stimuli) (lawful : Lawful sys stimuli j)
    (serial : IsSerial j.lanes order) where
  owners : (a o : ℕ) → Lin sys o (claims sys) [] (records_of (facts_of sys j) o 0 (lane_items (lane_at j a)))
  owners a o = owners-lin sys stimuli j (claims sys) (rules-known sys) (λ is. tt) sound (stimuli-names sys stimuli fit) lawful (chart-names sys sound) a o

  objects : ℕ
  objects = top (all_items j.lanes)

  -- where the world stands
  record State (w : World) (A : List RecordPlace) : Type 0 where
    world : SoundWorld sys w.lanes w.order
    along : Along sys j objects A w.lanes w.order
    log : log_of w.lanes w.order ≡ placed_at j.lanes A

  there : AllByRecursion (There j.lanes) order
  there = ordered-there j.lanes order serial.all

  bound : (x : RecordPlace) (r : Rec) → Found j.lanes x r → (item_of r).of < objects
  unfolding objects
  bound x r f =
      items-get (λ i. i.of < top (all_items j.lanes)) (lane_recs j.lanes x.lane) x.at r
      (at-record (λ i. i.of < top (all_items j.lanes)) j.lanes x.lane (all-below-top (top (all_items j.lanes)) (all_items j.lanes) (omega arith))) f.is

  found : (A B : List RecordPlace) (x : RecordPlace) (r : Rec) → order ≡ A ++ x ∷ B → record_at j.lanes x ≡ Some r → Found j.lanes x r
  found A B x r split at =
      let here = every-there (There j.lanes) A x B (subst (AllByRecursion (There j.lanes)) split there) in
      record { within = here.lane; place = here.place; is = sym (at-lane j.lanes x here.lane) ∙ at }

  pub a_record : (A B : List RecordPlace) (x : RecordPlace) → order ≡ A ++ x ∷ B → (r : Rec) × (record_at j.lanes x ≡ Some r)
  a_record A B x split =
      let here = every-there (There j.lanes) A x B (subst (AllByRecursion (There j.lanes)) split there) in
      let got = some-there (lane_recs j.lanes x.lane) x.at here.place in
      (got.0, at-lane j.lanes x here.lane ∙ got.1)

  place : (A B : List RecordPlace) (x : RecordPlace) (r : Rec) → order ≡ A ++ x ∷ B → Found j.lanes x r → times (λ y. y.lane == x.lane) A ≡ x.at
  place A B x r split f = (stands-there j.lanes order A B x serial split f.within f.place).count

  next-state : (w : World) (A B : List RecordPlace) (x : RecordPlace) (r : Rec) → order ≡ A ++ x ∷ B → record_at j.lanes x ≡ Some r → State w A → State (with_next w x.lane (Some r)) (A ++ x ∷ [])
  next-state w A B x r split at s =
      let f = found A B x r split at in
      let wide = s.along.wide in
      let less = f.within in
      record {
        world = world-next sys stimuli j sound fit lawful owners order A B x r serial split f (place A B x r split f) w.lanes w.order s.world objects s.along (bound x r f);
        along = along-next sys stimuli j sound fit lawful owners order A B x r serial split f (place A B x r split f) w.lanes w.order s.world objects s.along (bound x r f);
        log =
            log-grows w.lanes (with_record w.lanes x.lane r) w.order (w.order ++ x.lane ∷ []) x.lane r s.world.orders
            (record { within = omega (arith, wide, less); lanes_are = refl; order_is = refl })
            ∙ ap (λ l. l ++ record { lane = x.lane; item = item_of r } ∷ []) s.log ∙ sym (placed-push j.lanes A x r at);
      }

  walk : (A xs B : List RecordPlace) → order ≡ A ++ (xs ++ B) → State (made j.lanes A) A → State (made j.lanes (A ++ xs)) (A ++ xs)
  walk A [] B split s = subst (λ z. State (made j.lanes z) z) (sym (append-nil A)) s
  walk A (x ∷ xs) B split s =
      let rec = a_record A (xs ++ B) x split in
      let one : State (made j.lanes (A ++ x ∷ [])) (A ++ x ∷ []) =
      subst (λ w. State w (A ++ x ∷ [])) (made-push j.lanes A x rec.0 rec.1) (next-state (made j.lanes A) A (xs ++ B) x rec.0 split rec.1 s) in
      let more = walk (A ++ x ∷ []) xs B (split ∙ sym (append_assoc A (x ∷ []) (xs ++ B))) one in
      subst (λ z. State (made j.lanes z) z) (append_assoc A (x ∷ []) xs) more

  none-owned : (n : ℕ) (t : Token) → owned sys j (empty_lanes n) (length j.lanes) objects t ≡ 0
  unfolding owned local records_of lane_items times
  none-owned n t =
      sum-none (length j.lanes) (λ a. sum_below objects (λ o. count_of t (local sys j (empty_lanes n) a o)))
      (λ a. sum-none objects (λ o. count_of t (local sys j (empty_lanes n) a o)) (λ o. rw (no-lane n a) refl))

  nothing-taken : AllByRecursion (λ i. TookGood sys i.body) (lane_items [])
  unfolding lane_items
  nothing-taken = tt

  start : State (made j.lanes []) []
  unfolding made made_on placed_at log_of hands_in told_log hands_after times items_at
  start = record {
    world = new-sound sys (length j.lanes) sound;
    along = record {
      wide = empty-length (length j.lanes);
      fronts = λ a. no-lane (length j.lanes) a ∙ sym (ap (λ l. take (length l) (lane_recs j.lanes a)) (no-lane (length j.lanes) a));
      counts = λ a. ap length (no-lane (length j.lanes) a);
      hists = λ w. ap (hist w) (no-items (length j.lanes)) ∙ no-hist w;
      sums = λ t. sym (none-owned (length j.lanes) t);
      took = λ a. subst (λ l. AllByRecursion (λ i. TookGood sys i.body) (lane_items l)) (sym (no-lane (length j.lanes) a)) nothing-taken;
    };
    log = refl;
  }

  state : (front behind : List RecordPlace) → order ≡ front ++ behind → State (made j.lanes front) front
  state front behind split = walk [] front behind split start

  -- where the next record of the order stands: the world has what the lane has before it
  pub record RoomBefore (front : List RecordPlace) (x : RecordPlace) (r : Rec) : Type 0 where
    pub within : x.lane < length j.lanes
    pub there : slice_get (lane_recs j.lanes x.lane) x.at ≡ Some r
    pub long : length (lane_recs (made j.lanes front).lanes x.lane) ≡ x.at
    pub before : lane_recs (made j.lanes front).lanes x.lane ≡ take x.at (lane_recs j.lanes x.lane)
    pub room : has_room (lane_items (lane_recs j.lanes x.lane)) ≡ true

  pub room-before : (front behind : List RecordPlace) (x : RecordPlace) (r : Rec) → order ≡ front ++ x ∷ behind → record_at j.lanes x ≡ Some r → RoomBefore front x r
  unfolding EndHolds
  room-before front behind x r split at =
      let f = found front behind x r split at in
      let s = state front (x ∷ behind) split in
      let long = s.along.counts x.lane ∙ place front behind x r split f in
      record {
        within = f.within;
        there = f.is;
        long = long;
        before = s.along.fronts x.lane ∙ ap (λ n. take n (lane_recs j.lanes x.lane)) long;
        room = all-at (λ l. has_room (lane_items l)) j.lanes x.lane lawful.end.room f.within;
      }
    where
      all-at : (p : List Rec → Bool) (ls : List (List Rec)) (a : ℕ) → list_all p ls ≡ true → a < length ls → p (lane_recs ls a) ≡ true
      all-at p [] a h less = absurd (omega (arith, less))
      all-at p (l ∷ ls) zero h less = (and_parts _ _ h).0
      all-at p (l ∷ ls) (suc a) h less = all-at p ls a (and_parts _ _ h).1 (omega (arith, less))

  ticks-of : (o : ℕ) (H : List Token) (b : Body) → Uses o (claims sys) H b → TicksFit b
  ticks-of o H (item.Arm t n ticks interval) h = h.1
  ticks-of o H (item.Rearm t n former ticks) h = h.1
  ticks-of o H b h = tt

  goes-on : (front behind : List RecordPlace) → order ≡ front ++ behind → RerunGoesOn sys j.lanes front behind
  goes-on front behind split = record {
    sound = s.world;
    log = s.log;
    next = λ x others r is at.
        let here = split ∙ ap (λ b. front ++ b) is in
        let f = found front others x r here at in
        record {
          may = may-this sys stimuli j sound fit lawful owners order front others x r serial here f (place front others x r here f) (made j.lanes front).lanes (made j.lanes front).order s.world objects s.along (bound x r f);
          ticks =
              ticks-of (item_of r).of (local sys j (made j.lanes front).lanes x.lane (item_of r).of) (item_of r).body
              (uses-this sys stimuli j sound fit lawful owners order front others x r serial here f (place front others x r here f) (made j.lanes front).lanes (made j.lanes front).order s.world objects s.along (bound x r f));
          goes_on = unspilled sys stimuli j sound fit lawful owners order front others x r serial here f (place front others x r here f) (made j.lanes front).lanes (made j.lanes front).order s.world objects s.along (bound x r f)
              (spill-last sys stimuli j sound lawful x.lane);
        };
  }
    where
      s : State (made j.lanes front) front
      s = state front behind split

  -- in the end all records are made
  lane-count : (a : ℕ) → a < length j.lanes → times (λ y. y.lane == a) order ≡ length (lane_recs j.lanes a)
  unfolding places
  lane-count a less =
      tally-permutation (λ y. y.lane == a) (places j.lanes) order serial.all
      ∙ tally-same (λ y. y.lane == a) (below a (length (lane_recs j.lanes a))) (places j.lanes) (every (There j.lanes) (λ y. (y.lane == a) ≡ below a (length (lane_recs j.lanes a)) y) one (places j.lanes) (all-there j.lanes))
      ∙ in-lane a (length (lane_recs j.lanes a)) 0 a j.lanes (omega arith) less (omega arith)
    where
      one : (y : RecordPlace) → There j.lanes y → (y.lane == a) ≡ below a (length (lane_recs j.lanes a)) y
      one y h = go (y.lane == a) refl
        where
          go : (u : Bool) → (y.lane == a) ≡ u → u ≡ (u && nat_lt y.at (length (lane_recs j.lanes a)))
          go false e = refl
          go true e =
              let same : y.lane ≡ a = eqb-true y.lane a e in
              let few : y.at < length (lane_recs j.lanes a) = subst (λ k. y.at < length (lane_recs j.lanes k)) same h.place in
              let test : nat_lt y.at (length (lane_recs j.lanes a)) ≡ true = grind (arith, nat_tests, few) in
              sym test

  all-made : (made j.lanes order).lanes ≡ j.lanes
  all-made = lanes-same (made j.lanes order).lanes j.lanes s.along.wide lane
    where
      s : State (made j.lanes order) order
      s = state order [] (sym (append-nil order))

      lane : (a : ℕ) → a < length j.lanes → lane_recs (made j.lanes order).lanes a ≡ lane_recs j.lanes a
      lane a less = s.along.fronts a ∙ ap (λ n. take n (lane_recs j.lanes a)) (s.along.counts a ∙ lane-count a less) ∙ take_all (length (lane_recs j.lanes a)) (lane_recs j.lanes a) (omega arith)

pub one-thread : OneThreadMakesIt
one-thread sys stimuli j order sound fit lawful serial = (goes-on sys stimuli j order sound fit lawful serial, all-made sys stimuli j order sound fit lawful serial)
