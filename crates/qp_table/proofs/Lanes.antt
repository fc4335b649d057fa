-- Views are added, and what one has goes to another: a lane number, objects, or all.
use Rattle.std.proofs.Common.{◌≡◌, ℕ, zero, suc, ◌+◌, ◌<◌, ◌≤◌, ◌≢◌, List, [], ◌∷◌, ◌++◌, Bool, true, false, cond, length, set, refl, sym, ap, subst, ◌∙◌, ⊎_elim, arith, eqb, eq-eqb, eqb-true, length-append}
use mathlib.Core.Option.{some, some-ne-none}
use mathlib.Core.Logic.{dite}
use native.Mathlib.Decide.{ℕ_discrete}
use lib.ListN.{get_elem?}
use Rattle.atomic_table.proofs.Lists.{at_set, at_snoc, set_else}
use Rattle.qp_model.specs.declared.record.Rec.{Rec}
use Rattle.qp_model.specs.declared.bodies.Entry.{Entry}
use Rattle.qp_model.specs.declared.systems.System.{System}
use Rattle.qp_model.specs.WordLaw.{is_object}
use Rattle.qp_table.specs.Counting.{Each, sum_over, many, without}
use Rattle.qp_table.specs.Now.{Now}
use Rattle.qp_table.specs.Rule.{Was, is_log, is_number, Logs, Idle, AllIdle, is_spot, is_spot_at, is_ref, is_fill, fills_with, fills_of, gives_of, Tells, Beside, is_place, on_queue, is_serve, is_lifo, is_take_of, records, Served, Serves, IsKnown, AllKnown, Holds}
use Rattle.qp_table.specs.Whole.{Unused}
use Rattle.qp_table.specs.After.{passing, failing, empty_view, onlooker, granting, granted, handing, handed, views_joined}
use Rattle.qp_table.specs.declared.view.SeatLog.{SeatLog}
use Rattle.qp_table.specs.declared.view.Spot.{Spot}
use Rattle.qp_table.specs.declared.view.Fill.{Fill}
use Rattle.qp_table.specs.declared.view.CellPlace.{CellPlace}
use Rattle.qp_table.specs.declared.view.Serve.{Serve}
use Rattle.qp_table.specs.declared.view.View.{View}
use Rattle.qp_table.proofs.Counting.{each-snoc, each-map, total-set, total-at, total-snoc, total-append, many-without, cond-le}
use Rattle.qp_table.proofs.Tokens.{b2n}
use Rattle.qp_table.proofs.Views.{total-two, SawFrom}

pub each-append : {A : Type 0} (P : A → Type 0) (xs ys : List A) → Each P xs → Each P ys → Each P (xs ++ ys)
each-append P [] ys p q = q
each-append P (x ∷ xs) ys p q = (p.0, each-append P xs ys p.1 q)

pub many-append : {A : Type 0} (t : A → Bool) (xs ys : List A) → many t (xs ++ ys) ≡ many t xs + many t ys
many-append t xs ys = total-append (λ x. cond (t x) 1 0) xs ys

abbrev Own : List (List Rec) → View → Type 0
Own lanes v = Each (λ (g : SeatLog). get_elem? lanes g.number ≡ some g.recs) v.logs

-- other views, with the same tokens in all
pub record SameTokens (other views : List View) : Type 0 where
  pub fresh : (t : Spot → Bool) → sum_over (λ (v : View). many t v.fresh) other ≡ sum_over (λ (v : View). many t v.fresh) views
  pub used : (t : Spot → Bool) → sum_over (λ (v : View). many t v.used) other ≡ sum_over (λ (v : View). many t v.used) views
  pub hands : (t : Entry → Bool) → sum_over (λ (v : View). many t v.hands) other ≡ sum_over (λ (v : View). many t v.hands) views
  pub fills : (t : Fill → Bool) → sum_over (λ (v : View). many t v.fills) other ≡ sum_over (λ (v : View). many t v.fills) views
  pub claims : (t : CellPlace → Bool) → sum_over (λ (v : View). many t v.claims) other ≡ sum_over (λ (v : View). many t v.claims) views
  pub takes : (t : CellPlace → Bool) → sum_over (λ (v : View). many t v.takes) other ≡ sum_over (λ (v : View). many t v.takes) views
  pub serves : (t : Serve → Bool) → sum_over (λ (v : View). many t v.serves) other ≡ sum_over (λ (v : View). many t v.serves) views

module _ (sys : System) (words : List ℕ) (views other : List View) (holds : Holds sys words views) (same : SameTokens other views) where
  -- the rule over the other views, where each of them keeps its own facts
  pub rearranged : Logs holds.lanes other → AllIdle other → ((id : ℕ) (v : View) → get_elem? other id ≡ some v → Serves holds.now v) → ((id : ℕ) (v : View) → get_elem? other id ≡ some v → Each (SawFrom words holds.was) v.seen)
      → ((id : ℕ) (v : View) → get_elem? other id ≡ some v → Beside holds.now v) → AllKnown sys holds.lanes holds.now other → Holds sys words other
  rearranged logs idle home seen beside contents =
      record {
        lanes = holds.lanes;
        now = holds.now;
        items = holds.items;
        was = holds.was;
        fitting = holds.fitting;
        leaves = holds.leaves;
        shows = holds.shows;
        logs = logs;
        idle = idle;
        tokens = record {
          place = λ p b. rw (same.fresh (is_spot p b), same.used (is_spot p b)) (holds.tokens.place p b);
          hand = λ p b k l. rw (same.hands (is_ref p b k)) (holds.tokens.hand p b k l);
          begun = λ p b n h. holds.tokens.begun p b n (rw (sym (same.fresh (is_spot_at p b n))) h);
          worn = λ p b n h. holds.tokens.worn p b n (rw (sym (same.used (is_spot_at p b n))) h);
          named = holds.tokens.named;
        };
        events = record {
          few = holds.events.few;
          word = λ p b j h l gone. holds.events.word p b j h l (sym (same.fills (is_fill p b j)) ∙ gone);
          right = λ p b j n ne. same.fills (fills_with p b j n) ∙ holds.events.right p b j n ne;
          beside = beside;
          event = holds.events.event;
        };
        queues = record {
          queue = holds.queues.queue;
          none = holds.queues.none;
          claims = λ a j e. rw (same.claims (is_place a j e)) (holds.queues.claims a j e);
          takes = λ a j e. rw (same.takes (is_place a j e)) (holds.queues.takes a j e);
          serves = λ a. same.serves (is_serve a) ∙ holds.queues.serves a;
          home = home;
        };
        seen = record { now = holds.seen.now; each = seen };
        past = holds.past;
        contents = contents;
      }

-- A view with nothing is added
module _ (sys : System) (words : List ℕ) (views : List View) (holds : Holds sys words views) where
  abbrev more : List View
  more = views ++ empty_view ∷ []

  more-sum : (f : View → ℕ) → f empty_view ≡ 0 → sum_over f more ≡ sum_over f views
  more-sum f empty = let b = total-snoc f views empty_view in omega arith

  each-more : (P : View → Type 0) → P empty_view → ((i : ℕ) (z : View) → get_elem? views i ≡ some z → P z) → (i : ℕ) (z : View) → get_elem? more i ≡ some z → P z
  each-more P empty all i z e = ⊎_elim (λ (t : get_elem? views i ≡ some z). all i z t) (λ (t : empty_view ≡ z). subst P t empty) (at_snoc views empty_view z i e)

  pub adds-nothing : Holds sys words more
  adds-nothing = rearranged sys words views more holds
      (record {
        fresh = λ t. more-sum (λ z. many t z.fresh) refl;
        used = λ t. more-sum (λ z. many t z.used) refl;
        hands = λ t. more-sum (λ z. many t z.hands) refl;
        fills = λ t. more-sum (λ z. many t z.fills) refl;
        claims = λ t. more-sum (λ z. many t z.claims) refl;
        takes = λ t. more-sum (λ z. many t z.takes) refl;
        serves = λ t. more-sum (λ z. many t z.serves) refl;
      })
      (record {
        count = holds.logs.count;
        own = each-more (Own holds.lanes) tt holds.logs.own;
        once = λ n l. rw (more-sum (λ z. many (is_log n) z.logs) refl, more-sum (λ z. many (is_number n) z.lane_numbers) refl) (holds.logs.once n l);
        later = λ n l some_rest. holds.logs.later n l (rw (sym (more-sum (λ z. many (is_number n) z.lane_numbers) refl)) some_rest);
        rights = more-sum (λ z. length z.logs + length z.lane_numbers) refl ∙ holds.logs.rights;
        room = holds.logs.room;
      })
      (each-more (λ z. length z.logs + length z.lane_numbers ≡ 0 → Idle z) (λ h. record { fresh = refl; used = refl; hands = refl; gives = refl; fills = refl; claims = refl; takes = refl }) holds.idle)
      (each-more (Serves holds.now) (record { counts = tt; within = omega arith; others = λ a h. (refl, refl); taking = λ a. omega arith }) holds.queues.home)
      (each-more (λ z. Each (SawFrom words holds.was) z.seen) tt holds.seen.each)
      (each-more (Beside holds.now) (record { fills = λ p b. omega arith; gives = λ p b. omega arith; told = tt }) holds.events.beside)
      (each-more (λ z. Each (IsKnown sys holds.lanes holds.now) z.contents) tt holds.contents)

-- two views have what two others had
pub record Swapped (v w v' w' : View) : Type 0 where
  pub fresh : (t : Spot → Bool) → many t v'.fresh + many t w'.fresh ≡ many t v.fresh + many t w.fresh
  pub used : (t : Spot → Bool) → many t v'.used + many t w'.used ≡ many t v.used + many t w.used
  pub hands : (t : Entry → Bool) → many t v'.hands + many t w'.hands ≡ many t v.hands + many t w.hands
  pub fills : (t : Fill → Bool) → many t v'.fills + many t w'.fills ≡ many t v.fills + many t w.fills
  pub claims : (t : CellPlace → Bool) → many t v'.claims + many t w'.claims ≡ many t v.claims + many t w.claims
  pub takes : (t : CellPlace → Bool) → many t v'.takes + many t w'.takes ≡ many t v.takes + many t w.takes
  pub serves : (t : Serve → Bool) → many t v'.serves + many t w'.serves ≡ many t v.serves + many t w.serves
  pub lanes : (n : ℕ) → (many (is_log n) v'.logs + many (is_log n) w'.logs) + (many (is_number n) v'.lane_numbers + many (is_number n) w'.lane_numbers) ≡ (many (is_log n) v.logs + many (is_log n) w.logs) + (many (is_number n) v.lane_numbers + many (is_number n) w.lane_numbers)
  pub fewer : (n : ℕ) → many (is_number n) v'.lane_numbers + many (is_number n) w'.lane_numbers ≤ many (is_number n) v.lane_numbers + many (is_number n) w.lane_numbers
  pub rights : (length v'.logs + length v'.lane_numbers) + (length w'.logs + length w'.lane_numbers) ≡ (length v.logs + length v.lane_numbers) + (length w.logs + length w.lane_numbers)

-- what one view keeps for itself
pub record Keeps (sys : System) (lanes : List (List Rec)) (words : List ℕ) (now : Now) (was : Was) (z : View) : Type 0 where
  pub own : Own lanes z
  pub idle : length z.logs + length z.lane_numbers ≡ 0 → Idle z
  pub home : Serves now z
  pub seen : Each (SawFrom words was) z.seen
  pub beside : Beside now z
  pub contents : Each (IsKnown sys lanes now) z.contents

module _ (sys : System) (words : List ℕ) (views : List View) (holds : Holds sys words views) where
  abbrev KeepsHere : View → Type 0
  KeepsHere z = Keeps sys holds.lanes words holds.now holds.was z

  pub keeps : (i : ℕ) (z : View) → get_elem? views i ≡ some z → KeepsHere z
  keeps i z e = record { own = holds.logs.own i z e; idle = holds.idle i z e; home = holds.queues.home i z e; seen = holds.seen.each i z e; beside = holds.events.beside i z e; contents = holds.contents i z e }

  module _ (id : ℕ) (v : View) (at_id : get_elem? views id ≡ some v) (from : ℕ) (w : View) (apart : from ≢ id) (there : get_elem? views from ≡ some w) (v' w' : View) where
    abbrev mid : List View
    mid = set views id v'

    abbrev after : List View
    after = set mid from w'

    from-mid : get_elem? mid from ≡ some w
    from-mid = set_else views id from v' apart ∙ there

    same-sum : (f : View → ℕ) → f v' + f w' ≡ f v + f w → sum_over f after ≡ sum_over f views
    same-sum f both = let a = total-set f views id v v' at_id in let b = total-set f mid from w w' from-mid in omega arith

    sum-fewer : (f : View → ℕ) → f v' + f w' ≤ f v + f w → sum_over f after ≤ sum_over f views
    sum-fewer f both = let a = total-set f views id v v' at_id in let b = total-set f mid from w w' from-mid in omega arith

    each-view : KeepsHere v' → KeepsHere w' → (i : ℕ) (z : View) → get_elem? after i ≡ some z → KeepsHere z
    each-view left right i z e = ⊎_elim (λ (t : (i ≡ from) × (w' ≡ z)). subst KeepsHere t.1 right)
        (λ (t : (i ≢ from) × (get_elem? mid i ≡ some z)). ⊎_elim (λ (s : (i ≡ id) × (v' ≡ z)). subst KeepsHere s.1 left) (λ (s : (i ≢ id) × (get_elem? views i ≡ some z)). keeps i z s.1) (at_set views id i v' z t.1)) (at_set mid from i w' z e)

    pub swaps : Swapped v w v' w' → KeepsHere v' → KeepsHere w' → Holds sys words after
    swaps x left right = rearranged sys words views after holds
        (record {
          fresh = λ t. same-sum (λ z. many t z.fresh) (x.fresh t);
          used = λ t. same-sum (λ z. many t z.used) (x.used t);
          hands = λ t. same-sum (λ z. many t z.hands) (x.hands t);
          fills = λ t. same-sum (λ z. many t z.fills) (x.fills t);
          claims = λ t. same-sum (λ z. many t z.claims) (x.claims t);
          takes = λ t. same-sum (λ z. many t z.takes) (x.takes t);
          serves = λ t. same-sum (λ z. many t z.serves) (x.serves t);
        })
        (record {
          count = holds.logs.count;
          own = λ i z e. (each-view left right i z e).own;
          once = λ n l. let a = total-set (λ (z : View). many (is_log n) z.logs) views id v v' at_id in let b = total-set (λ (z : View). many (is_log n) z.logs) mid from w w' from-mid in
              let c = total-set (λ (z : View). many (is_number n) z.lane_numbers) views id v v' at_id in let d = total-set (λ (z : View). many (is_number n) z.lane_numbers) mid from w w' from-mid in let o = holds.logs.once n l in let s = x.lanes n in omega arith;
          later = λ n l some_rest. holds.logs.later n l (let f = sum-fewer (λ z. many (is_number n) z.lane_numbers) (x.fewer n) in omega arith);
          rights = same-sum (λ z. length z.logs + length z.lane_numbers) x.rights ∙ holds.logs.rights;
          room = holds.logs.room;
        })
        (λ i z e. (each-view left right i z e).idle) (λ i z e. (each-view left right i z e).home) (λ i z e. (each-view left right i z e).seen) (λ i z e. (each-view left right i z e).beside) (λ i z e. (each-view left right i z e).contents)

    -- no two views serve one object
    serves-apart : (a : ℕ) → 0 < many (is_serve a) v.serves → many (is_serve a) w.serves ≡ 0
    serves-apart a h = let t = holds.queues.serves a in let c = cond-le (is_object sys a) in let two = total-two (λ (z : View). many (is_serve a) z.serves) views id from v w at_id there (λ e. apart (sym e)) in omega arith

-- What a list of served objects has
own-each : (all xs : List Serve) → ((a : ℕ) → many (is_serve a) xs ≤ many (is_serve a) all) → Each (λ (x : Serve). 0 < many (is_serve x.object) all) xs
own-each all [] h = tt
own-each all (x ∷ xs) h = (let a = h x.object in let one = ap b2n (eq-eqb x.object x.object refl) in omega arith, own-each all xs (λ a. let b = h a in omega arith))

each-both : {A : Type 0} (P Q R : A → Type 0) → ((x : A) → P x → Q x → R x) → (xs : List A) → Each P xs → Each Q xs → Each R xs
each-both P Q R f [] p q = tt
each-both P Q R f (x ∷ xs) p q = (f x p.0 q.0, each-both P Q R f xs p.1 q.1)

records-append : (t : Rec → Bool) (xs ys : List SeatLog) → records t (xs ++ ys) ≡ records t xs + records t ys
records-append t xs ys = total-append (λ (g : SeatLog). many t g.recs) xs ys

-- One view takes over another
module _ (sys : System) (words : List ℕ) (views : List View) (holds : Holds sys words views) (id : ℕ) (v : View) (at_id : get_elem? views id ≡ some v) (from : ℕ) (w : View) (apart : from ≢ id) (there : get_elem? views from ≡ some w) where
  left : Keeps sys holds.lanes words holds.now holds.was v
  left = keeps sys words views holds id v at_id

  right : Keeps sys holds.lanes words holds.now holds.was w
  right = keeps sys words views holds from w there

  joined-home : Serves holds.now (views_joined v w)
  joined-home = let p = left.home in let q = right.home in record {
    counts = each-append (Served holds.now (v.logs ++ w.logs)) v.serves w.serves
        (each-both (λ (x : Serve). 0 < many (is_serve x.object) v.serves) (Served holds.now v.logs) (Served holds.now (v.logs ++ w.logs))
        (λ x mine e. let o = q.others x.object (serves-apart sys words views holds id v at_id from w apart there v w x.object mine) in let o0 = o.0 in let o1 = o.1 in record {
          lifos = e.lifos;
          takes = e.takes;
          few = e.few;
          lifos_are = let r = records-append (is_lifo x.object) v.logs w.logs in let z = e.lifos_are in omega arith;
          takes_are = let r = records-append (is_take_of x.object) v.logs w.logs in let z = e.takes_are in omega arith;
        }) v.serves (own-each v.serves v.serves (λ a. omega arith)) p.counts)
        (each-both (λ (x : Serve). 0 < many (is_serve x.object) w.serves) (Served holds.now w.logs) (Served holds.now (v.logs ++ w.logs))
        (λ x mine e. let o = p.others x.object (serves-apart sys words views holds from w there id v (λ e. apart (sym e)) at_id v w x.object mine) in let o0 = o.0 in let o1 = o.1 in record {
          lifos = e.lifos;
          takes = e.takes;
          few = e.few;
          lifos_are = let r = records-append (is_lifo x.object) v.logs w.logs in let z = e.lifos_are in omega arith;
          takes_are = let r = records-append (is_take_of x.object) v.logs w.logs in let z = e.takes_are in omega arith;
        }) w.serves (own-each w.serves w.serves (λ a. omega arith)) q.counts);
    within = let a = p.within in let b = q.within in let c = total-append (λ (x : Serve). x.lifos + x.takes) v.serves w.serves in let d = total-append (λ (g : SeatLog). length g.recs) v.logs w.logs in omega arith;
    others = λ a h. let s = many-append (is_serve a) v.serves w.serves in let x = p.others a (omega arith) in let y = q.others a (omega arith) in let x0 = x.0 in let x1 = x.1 in let y0 = y.0 in let y1 = y.1 in
        let l = records-append (is_lifo a) v.logs w.logs in let m = records-append (is_take_of a) v.logs w.logs in (omega arith, omega arith);
    taking = λ a. let x = p.taking a in let y = q.taking a in let c = many-append (on_queue a) v.takes w.takes in let d = many-append (is_serve a) v.serves w.serves in omega arith;
  }

  pub joins : Holds sys words (set (set views id (views_joined v w)) from empty_view)
  joins = swaps sys words views holds id v at_id from w apart there (views_joined v w) empty_view
      (record {
        fresh = λ t. let a = many-append t v.fresh w.fresh in omega arith;
        used = λ t. let a = many-append t v.used w.used in omega arith;
        hands = λ t. let a = many-append t v.hands w.hands in omega arith;
        fills = λ t. let a = many-append t v.fills w.fills in omega arith;
        claims = λ t. let a = many-append t v.claims w.claims in omega arith;
        takes = λ t. let a = many-append t v.takes w.takes in omega arith;
        serves = λ t. let a = many-append t v.serves w.serves in omega arith;
        lanes = λ n. let a = many-append (is_log n) v.logs w.logs in let b = many-append (is_number n) v.lane_numbers w.lane_numbers in omega arith;
        fewer = λ n. let b = many-append (is_number n) v.lane_numbers w.lane_numbers in omega arith;
        rights = let a = length-append v.logs w.logs in let b = length-append v.lane_numbers w.lane_numbers in omega arith;
      })
      (record {
        own = each-append (λ (g : SeatLog). get_elem? holds.lanes g.number ≡ some g.recs) v.logs w.logs left.own right.own;
        idle = λ h. let e = length-append v.logs w.logs in let f = length-append v.lane_numbers w.lane_numbers in let a = left.idle (omega arith) in let b = right.idle (omega arith) in record {
          fresh = λ i. a.fresh i ++ b.fresh i;
          used = λ i. a.used i ++ b.used i;
          hands = λ i. a.hands i ++ b.hands i;
          gives = λ i. a.gives i ++ b.gives i;
          fills = λ i. a.fills i ++ b.fills i;
          claims = λ i. a.claims i ++ b.claims i;
          takes = λ i. a.takes i ++ b.takes i;
        };
        home = joined-home;
        seen = each-append (SawFrom words holds.was) v.seen w.seen left.seen right.seen;
        beside = let p = left.beside in let q = right.beside in record {
          fills = λ a b. let x = p.fills a b in let y = q.fills a b in let f = many-append (fills_of a b) v.fills w.fills in let g = many-append (is_spot a b) v.fresh w.fresh in omega arith;
          gives = λ a b. let x = p.gives a b in let y = q.gives a b in let f = many-append (gives_of a b) v.gives w.gives in let g = many-append (is_spot a b) v.fresh w.fresh in omega arith;
          told = each-append (Tells holds.now) v.gives w.gives p.told q.told;
        };
        contents = each-append (IsKnown sys holds.lanes holds.now) v.contents w.contents left.contents right.contents;
      })
      (record {
        own = tt;
        idle = λ h. record { fresh = refl; used = refl; hands = refl; gives = refl; fills = refl; claims = refl; takes = refl };
        home = record { counts = tt; within = omega arith; others = λ a h. (refl, refl); taking = λ a. omega arith };
        seen = tt;
        beside = record { fills = λ p b. omega arith; gives = λ p b. omega arith; told = tt };
        contents = tt;
      })

  -- A view with nothing sees what another has seen
  pub looks-on : w ≡ empty_view → Holds sys words (set (set views id v) from (onlooker v))
  looks-on empty = swaps sys words views holds id v at_id from w apart there v (onlooker v)
      (subst (λ (y : View). Swapped v y v (onlooker v)) (sym empty) (record {
        fresh = λ t. refl;
        used = λ t. refl;
        hands = λ t. refl;
        fills = λ t. refl;
        claims = λ t. refl;
        takes = λ t. refl;
        serves = λ t. refl;
        lanes = λ n. refl;
        fewer = λ n. omega arith;
        rights = refl;
      }))
      left
      (record {
        own = tt;
        idle = λ h. record { fresh = refl; used = refl; hands = refl; gives = refl; fills = refl; claims = refl; takes = refl };
        home = record { counts = tt; within = omega arith; others = λ a h. (refl, refl); taking = λ a. omega arith };
        seen = left.seen;
        beside = record { fills = λ p b. omega arith; gives = λ p b. omega arith; told = tt };
        contents = tt;
      })

  -- A lane number that was never handed out goes to another view; a view that has given up its last number has nothing else
  pub grants : (n : ℕ) → n < 49 → 0 < many (is_number n) v.lane_numbers → (length v.logs ≡ 0 → Idle v) → Holds sys words (set (set views id (granting n v)) from (granted n w))
  grants n few mine idle = swaps sys words views holds id v at_id from w apart there (granting n v) (granted n w)
      (record {
        fresh = λ t. refl;
        used = λ t. refl;
        hands = λ t. refl;
        fills = λ t. refl;
        claims = λ t. refl;
        takes = λ t. refl;
        serves = λ t. refl;
        lanes = λ k. let a = many-append (is_log k) w.logs (record { number = n; recs = [] } ∷ []) in let b = less k in omega arith;
        fewer = λ k. let b = less k in omega arith;
        rights = let a = length-append w.logs (record { number = n; recs = [] } ∷ []) in let b = fewer-one v.lane_numbers mine in omega arith;
      })
      (record {
        own = left.own;
        idle = λ h. let i = idle (omega arith) in record { fresh = i.fresh; used = i.used; hands = i.hands; gives = i.gives; fills = i.fills; claims = i.claims; takes = i.takes };
        home = record { counts = left.home.counts; within = left.home.within; others = left.home.others; taking = left.home.taking };
        seen = left.seen;
        beside = record { fills = left.beside.fills; gives = left.beside.gives; told = left.beside.told };
        contents = left.contents;
      })
      (record {
        own = each-snoc (λ (g : SeatLog). get_elem? holds.lanes g.number ≡ some g.recs) w.logs (record { number = n; recs = [] }) right.own
            (holds.logs.later n few (let t = total-at (λ (z : View). many (is_number n) z.lane_numbers) views id v at_id in omega arith));
        idle = λ h. let a = length-append w.logs (record { number = n; recs = [] } ∷ []) in absurd (omega arith);
        home = record {
          counts = each-map (Served holds.now w.logs) (Served holds.now (w.logs ++ record { number = n; recs = [] } ∷ []))
              (λ x e. record { lifos = e.lifos; takes = e.takes; few = e.few; lifos_are = e.lifos_are ∙ sym (no-more (is_lifo x.object)); takes_are = e.takes_are ∙ sym (no-more (is_take_of x.object)) }) w.serves right.home.counts;
          within = let a = right.home.within in let b = total-append (λ (g : SeatLog). length g.recs) w.logs (record { number = n; recs = [] } ∷ []) in omega arith;
          others = λ a h. let o = right.home.others a h in (no-more (is_lifo a) ∙ o.0, no-more (is_take_of a) ∙ o.1);
          taking = right.home.taking;
        };
        seen = right.seen;
        beside = record { fills = right.beside.fills; gives = right.beside.gives; told = right.beside.told };
        contents = right.contents;
      })
    where
      no-more : (t : Rec → Bool) → records t (w.logs ++ record { number = n; recs = [] } ∷ []) ≡ records t w.logs
      no-more t = let a = records-append t w.logs (record { number = n; recs = [] } ∷ []) in omega arith

      less : (k : ℕ) → many (is_number k) (without (is_number n) v.lane_numbers) + b2n (eqb n k) ≡ many (is_number k) v.lane_numbers
      less k = many-without (is_number n) (is_number k) (eqb n k) (λ x e. ap (λ z. eqb z k) (eqb-true x n e)) v.lane_numbers mine

      fewer-one : (xs : List ℕ) → 0 < many (is_number n) xs → length (without (is_number n) xs) + 1 ≡ length xs
      fewer-one [] h = absurd (omega arith)
      fewer-one (x ∷ xs) h = go (eqb x n) (fewer-one xs) h
        where
          go : (t : Bool) → (0 < many (is_number n) xs → length (without (is_number n) xs) + 1 ≡ length xs) → 0 < cond t 1 0 + many (is_number n) xs → length (cond t xs (x ∷ without (is_number n) xs)) + 1 ≡ suc (length xs)
          go true r l = omega arith
          go false r l = let q = r (omega arith) in omega arith

passing-many : (t : Serve → Bool) (p : Serve → Bool) (xs : List Serve) → many p (failing t xs) + many p (passing t xs) ≡ many p xs
passing-many t p [] = refl
passing-many t p (x ∷ xs) = go (t x) (passing-many t p xs)
  where
    go : (b : Bool) → many p (failing t xs) + many p (passing t xs) ≡ many p xs → many p (cond b (failing t xs) (x ∷ failing t xs)) + many p (cond b (x ∷ passing t xs) (passing t xs)) ≡ many p (x ∷ xs)
    go true h = omega arith
    go false h = omega arith

passing-each : (P : Serve → Type 0) (t : Serve → Bool) (xs : List Serve) → Each P xs → Each P (failing t xs) × Each P (passing t xs)
passing-each P t [] e = (tt, tt)
passing-each P t (x ∷ xs) e = go (t x) (passing-each P t xs e.1)
  where
    go : (b : Bool) → Each P (failing t xs) × Each P (passing t xs) → Each P (cond b (failing t xs) (x ∷ failing t xs)) × Each P (cond b (x ∷ passing t xs) (passing t xs))
    go true h = (h.0, (e.0, h.1))
    go false h = ((e.0, h.0), h.1)

passing-total : (f : Serve → ℕ) (t : Serve → Bool) (xs : List Serve) → sum_over f (failing t xs) + sum_over f (passing t xs) ≡ sum_over f xs
passing-total f t [] = refl
passing-total f t (x ∷ xs) = go (t x) (passing-total f t xs)
  where
    go : (b : Bool) → sum_over f (failing t xs) + sum_over f (passing t xs) ≡ sum_over f xs → sum_over f (cond b (failing t xs) (x ∷ failing t xs)) + sum_over f (cond b (x ∷ passing t xs) (passing t xs)) ≡ sum_over f (x ∷ xs)
    go true h = omega arith
    go false h = omega arith

none-made : (ps : List CellPlace) (xs : List Serve) → Each (Unused ps) xs → sum_over (λ (x : Serve). x.lifos + x.takes) xs ≡ 0
none-made ps [] e = refl
none-made ps (x ∷ xs) e = let r = none-made ps xs e.1 in let a = e.0 in let l = a.lifos in let m = a.takes_made in omega arith

-- one of the list is this object
find-serve : (P : Serve → Type 0) (a : ℕ) (xs : List Serve) → 0 < many (is_serve a) xs → Each P xs → (x : Serve) × (x.object ≡ a) × P x
find-serve P a [] h e = absurd (omega arith)
find-serve P a (x ∷ xs) h e = go (eqb x.object a) refl (find-serve P a xs) h
  where
    go : (t : Bool) → eqb x.object a ≡ t → (0 < many (is_serve a) xs → Each P xs → (x : Serve) × (x.object ≡ a) × P x) → 0 < cond t 1 0 + many (is_serve a) xs → (x : Serve) × (x.object ≡ a) × P x
    go true is r l = (x, eqb-true x.object a is, e.0)
    go false is r l = r (omega arith) e.1

-- Objects go from one view to another
module _ (sys : System) (words : List ℕ) (views : List View) (holds : Holds sys words views) (id : ℕ) (v : View) (at_id : get_elem? views id ≡ some v) (from : ℕ) (w : View) (apart : from ≢ id) (there : get_elem? views from ≡ some w) (t : Serve → Bool) (unused : Each (Unused v.takes) (passing t v.serves)) where
  left-keeps : Keeps sys holds.lanes words holds.now holds.was v
  left-keeps = keeps sys words views holds id v at_id

  right-keeps : Keeps sys holds.lanes words holds.now holds.was w
  right-keeps = keeps sys words views holds from w there

  abbrev Counted : Serve → Type 0
  Counted x = Served holds.now v.logs x × Unused v.takes x

  counted : Each Counted (passing t v.serves)
  counted = each-both (Served holds.now v.logs) (Unused v.takes) Counted (λ x p q. (p, q)) (passing t v.serves) (passing-each (Served holds.now v.logs) t v.serves left-keeps.home.counts).1 unused

  -- what goes has no record here and nothing under way
  gone : (a : ℕ) → 0 < many (is_serve a) (passing t v.serves) → (records (is_lifo a) v.logs ≡ 0) × (records (is_take_of a) v.logs ≡ 0) × (many (on_queue a) v.takes ≡ 0)
  gone a h = let f = find-serve Counted a (passing t v.serves) h counted in let c = f.2.0 in let u = f.2.1 in
      subst (λ (z : ℕ). (records (is_lifo z) v.logs ≡ 0) × (records (is_take_of z) v.logs ≡ 0) × (many (on_queue z) v.takes ≡ 0)) f.1 (sym c.lifos_are ∙ u.lifos, sym c.takes_are ∙ u.takes_made, u.still)

  pub hands-over : Holds sys words (set (set views id (handing t v)) from (handed t v w))
  hands-over = swaps sys words views holds id v at_id from w apart there (handing t v) (handed t v w)
      (record {
        fresh = λ t. refl;
        used = λ t. refl;
        hands = λ t. refl;
        fills = λ t. refl;
        claims = λ t. refl;
        takes = λ t. refl;
        serves = λ p. let a = many-append p w.serves (passing t v.serves) in let b = passing-many t p v.serves in omega arith;
        lanes = λ n. refl;
        fewer = λ n. omega arith;
        rights = refl;
      })
      (record {
        own = left-keeps.own;
        idle = λ h. let i = left-keeps.idle h in record { fresh = i.fresh; used = i.used; hands = i.hands; gives = i.gives; fills = i.fills; claims = i.claims; takes = i.takes };
        home = record {
          counts = (passing-each (Served holds.now v.logs) t v.serves left-keeps.home.counts).0;
          within = let a = passing-total (λ (x : Serve). x.lifos + x.takes) t v.serves in let b = left-keeps.home.within in omega arith;
          others = λ a h. let s = passing-many t (is_serve a) v.serves in dite (ℕ_discrete (many (is_serve a) (passing t v.serves)) 0)
              (λ none_goes. left-keeps.home.others a (omega arith))
              (λ some_goes. let g = gone a (omega arith) in (g.0, g.1));
          taking = λ a. let s = passing-many t (is_serve a) v.serves in let o = left-keeps.home.taking a in dite (ℕ_discrete (many (is_serve a) (passing t v.serves)) 0)
              (λ none_goes. omega arith)
              (λ some_goes. let g = gone a (omega arith) in let g2 = g.2 in omega arith);
        };
        seen = left-keeps.seen;
        beside = record { fills = left-keeps.beside.fills; gives = left-keeps.beside.gives; told = left-keeps.beside.told };
        contents = left-keeps.contents;
      })
      (record {
        own = right-keeps.own;
        idle = λ h. let i = right-keeps.idle h in record { fresh = i.fresh; used = i.used; hands = i.hands; gives = i.gives; fills = i.fills; claims = i.claims; takes = i.takes };
        home = record {
          counts = each-append (Served holds.now w.logs) w.serves (passing t v.serves) right-keeps.home.counts
              (each-both (λ (x : Serve). 0 < many (is_serve x.object) v.serves) Counted (Served holds.now w.logs)
              (λ x mine e. let o = right-keeps.home.others x.object (serves-apart sys words views holds id v at_id from w apart there v w x.object mine) in let c = e.0 in let u = e.1 in record {
                lifos = c.lifos;
                takes = c.takes;
                few = c.few;
                lifos_are = u.lifos ∙ sym o.0;
                takes_are = u.takes_made ∙ sym o.1;
              }) (passing t v.serves) (own-each v.serves (passing t v.serves) (λ a. let s = passing-many t (is_serve a) v.serves in omega arith)) counted);
          within = let a = right-keeps.home.within in let b = total-append (λ (x : Serve). x.lifos + x.takes) w.serves (passing t v.serves) in let c = none-made v.takes (passing t v.serves) unused in omega arith;
          others = λ a h. let s = many-append (is_serve a) w.serves (passing t v.serves) in right-keeps.home.others a (omega arith);
          taking = λ a. let o = right-keeps.home.taking a in let s = many-append (is_serve a) w.serves (passing t v.serves) in omega arith;
        };
        seen = right-keeps.seen;
        beside = record { fills = right-keeps.beside.fills; gives = right-keeps.beside.gives; told = right-keeps.beside.told };
        contents = right-keeps.contents;
      })

-- Where a view is added at the end and then changed
module _ {A : Type 0} where
  pub set-last : (xs : List A) (x y : A) → set (xs ++ x ∷ []) (length xs) y ≡ xs ++ y ∷ []
  set-last [] x y = refl
  set-last (z ∷ xs) x y = ap (λ zs. z ∷ zs) (set-last xs x y)

  pub set-longer : (xs ys : List A) (i : ℕ) (x y : A) → get_elem? xs i ≡ some x → set (xs ++ ys) i y ≡ set xs i y ++ ys
  set-longer [] ys i x y e = absurd (some-ne-none x (sym e))
  set-longer (z ∷ xs) ys zero x y e = refl
  set-longer (z ∷ xs) ys (suc i) x y e = ap (λ zs. z ∷ zs) (set-longer xs ys i x y e)
