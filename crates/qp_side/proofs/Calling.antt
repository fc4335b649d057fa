-- What the steps of a call come to.
use Rattle.std.proofs.Common.{◌≡◌, ℕ, ◌+◌, ◌-◌, ◌*◌, ◌/◌, ◌%◌, ◌<◌, ◌≤◌, ◌==◌, nat_lt, nat_le, ◌||◌, ◌^◌, zero, suc, if◌then◌else◌, Bool, true, false, cond, eqb, eq-eqb, eqb-true, true≢false, List, [], ◌∷◌, ◌++◌, length, IsTrue, refl, sym, ap, subst, ◌∙◌, arith}
use mathlib.Core.Logic.{dite}
use native.Mathlib.Decide.{ℕ_discrete}
use Rattle.std.proofs.lemmas.Bool.{and_from}
use Rattle.std.proofs.lemmas.Bool.Decides.{nat_tests}
use Rattle.std.proofs.lemmas.Option.{slice_get_within}
use Rattle.std.proofs.lemmas.Nat.Bits.{bit_at-lt}
use Rattle.std.specs.Bool.{MatchBool}
use Rattle.std.specs.Int.{bit_at}
use Rattle.std.specs.List.{list_all, list_any}
use Rattle.qp_model.specs.declared.record.Rec.{Rec}
use Rattle.qp_model.specs.declared.systems.System.{System}
use Rattle.qp_model.specs.declared.words.Word.{Word}
use Rattle.qp_model.specs.declared.words.Word.TheVariants as word
use Rattle.qp_chart.specs.StateTree.{has}
use Rattle.qp_model.specs.Parts.{members, members_below, OwnsTimer}
use Rattle.qp_model.specs.Subscribers.{bits_of_set}
use Rattle.qp_model.specs.WordLaw.{is_object, is_signal, is_timer}
use Rattle.qp_plain_words.proofs.SetLemmas.{has-bit}
use Rattle.qp_table.specs.Counting.{Each, sum_over, many}
use Rattle.qp_table.specs.Rule.{is_serve}
use Rattle.qp_table.specs.declared.view.Serve.{Serve}
use Rattle.qp_table.specs.After.{rec_of, logged, HasRoom}
use Rattle.qp_table.specs.declared.view.SeatLog.{SeatLog}
use Rattle.qp_side.specs.Rule.{signal_at, timer_at, SideFitting, AreSubscribers}
use Rattle.qp_side.specs.Told.{side_glanced, side_noted, bit_value, bit_in, EyeSignalTold, SubTold, UnsubTold, PubTold, SideSaw, counter_in, interval_in, last_seen}
use Rattle.qp_side.specs.declared.view.SideView.{SideView}
use Rattle.qp_side.specs.Seat.{StaysAs, first_recs, side_recs, SideAdds}
use Rattle.qp_side.specs.Tries.{side_seeing, SideNotes, ArmEnds, IdleEnds, DisarmEnds, RearmEnds, TickEnds}
use Rattle.qp_side.specs.Calls.{SideDraws, ObjectComes, IsThere, ObjectGoes, SideIsAway, IsArmed, WasArmed, IsDisarmed, IsFired, IsDown, SideSubscribes, SideUnsubscribes, ShowsSet, ArmsTimer, DisarmsTimer, RearmsTimer, SideTicksTimer, IsIdleTimer, SideTries, own_draw}
use Rattle.qp_side.proofs.Following.{saw-then}
use Rattle.qp_side.proofs.Marks.{signal-adds, signal-draws, timer-adds, timer-draws, timer-mark}

-- a seat's own log has room for a record
pub room-of : (v : SideView) → length v.view.logs ≡ 1 → length (side_recs v) ≤ 1000000 → HasRoom v.view
room-of v one few = go v.view.logs refl
  where
    go : (gs : List SeatLog) → v.view.logs ≡ gs → HasRoom v.view
    go [] is = let e = ap length is in absurd (omega arith)
    go (g ∷ gs) is =
        let e : length v.view.logs ≡ length (g ∷ gs) = ap length is in
        let r : length g.recs ≤ 1000000 = subst (λ (ls : List SeatLog). length (first_recs ls) ≤ 1000000) is few in
        let none : gs ≡ [] = empty gs (omega arith) in
        record { own = g; others = gs; is = is; room = subst (λ (ls : List SeatLog). sum_over (λ (x : SeatLog). length x.recs) ls < 1000001) (sym (is ∙ ap (λ xs. g ∷ xs) none)) (omega arith) }
      where
        empty : (xs : List SeatLog) → length xs ≡ 0 → xs ≡ []
        empty [] e = refl
        empty (x ∷ xs) e = absurd (omega arith)

pub room-after : (v z : SideView) → z.view.logs ≡ v.view.logs → HasRoom v.view → HasRoom z.view
room-after v z same r = record { own = r.own; others = r.others; is = same ∙ r.is; room = subst (λ (ls : List SeatLog). sum_over (λ (x : SeatLog). length x.recs) ls < 1000001) (sym same) r.room }

pub some-serve : (o : ℕ) (xs : List Serve) → IsTrue (list_any (is_serve o) xs) → 0 < many (is_serve o) xs
some-serve o [] h = absurd (true≢false (sym h))
some-serve o (x ∷ xs) h = go (is_serve o x) h (some-serve o xs)
  where
    go : (t : Bool) → (t || list_any (is_serve o) xs) ≡ true → (list_any (is_serve o) xs ≡ true → 0 < many (is_serve o) xs) → 0 < cond {A = ℕ} t 1 0 + many (is_serve o) xs
    go true e r = omega arith
    go false e r = let z = r e in omega arith

-- Signals.

bit-off : (o x : ℕ) → eqb (bit_in o x) 1 ≡ false → bit_in o x ≡ 0
bit-off o x off = let l = bit_at-lt (x % 4294967296) (o - 1) in dite (ℕ_discrete (bit_in o x) 1) (λ e. absurd (true≢false (sym (eq-eqb (bit_in o x) 1 e) ∙ off))) (λ ne. omega arith)

-- a look that adds no record, and one that does
module _ (bit o s : ℕ) (v z : SideView) (x : ℕ) (told : EyeSignalTold bit o s v x z) where
  pub just-looked : eqb (bit_in o x) bit ≡ false → z ≡ side_glanced v (signal_at s) x
  just-looked off = told.0 ∙ ap (λ (t : Bool). cond {A = SideView} t (side_noted v (signal_at s) x (rec_of 33 o (s ∷ (x / 4294967296) ∷ []))) (side_glanced v (signal_at s) x)) off

  -- where it adds none, the seat has its room and its objects still
  pub looked-room : eqb (bit_in o x) bit ≡ false → HasRoom v.view → HasRoom z.view
  looked-room off room = room-after v z (ap (λ (y : SideView). y.view.logs) (just-looked off)) room

  pub looked-serves : eqb (bit_in o x) bit ≡ false → IsTrue (list_any (is_serve o) v.view.serves) → 0 < many (is_serve o) z.view.serves
  looked-serves off h = some-serve o z.view.serves (subst (λ (xs : List Serve). IsTrue (list_any (is_serve o) xs)) (sym (ap (λ (y : SideView). y.view.serves) (just-looked off))) h)

  looked-same : eqb (bit_in o x) bit ≡ true → SideNotes (signal_at s) (rec_of 33 o (s ∷ (x / 4294967296) ∷ [])) v x x z
  looked-same on = record {
    glances = v.view.seen;
    is = told.0 ∙ ap (λ (t : Bool). cond {A = SideView} t (side_noted v (signal_at s) x (rec_of 33 o (s ∷ (x / 4294967296) ∷ []))) (side_glanced v (signal_at s) x)) on;
    saw = told.1;
  }

  then-noted : eqb (bit_in o x) bit ≡ false → (r : Rec) (u : SideView) (n y : ℕ) → u ≡ side_noted z (signal_at s) y r → SideSaw (signal_at s) z u n y → SideNotes (signal_at s) r v n y u
  then-noted off r u n y is saw = record {
    glances = z.view.seen;
    is = is ∙ subst (λ (q : SideView). side_noted q (signal_at s) y r ≡ side_noted (side_seeing q.view.seen v) (signal_at s) y r) (sym (just-looked off)) refl;
    saw = saw-then (signal_at s) v z u x n y told.1 saw;
  }

module _ (sys : System) (fit : SideFitting sys) (o s : ℕ) (signal : IsTrue (is_signal sys s)) (v : SideView) where
  -- `same` and `sub`
  pub there-already : (z : SideView) (x : ℕ) (r : Rec) → EyeSignalTold 1 o s v x z → eqb (bit_in o x) 1 ≡ true → r ≡ rec_of 33 o (s ∷ (x / 4294967296) ∷ []) → SideSubscribes sys o s v r z
  there-already z x r told on is = subst (λ (q : Rec). SideSubscribes sys o s v q z) (sym is) (record { n = x / 4294967296; is = refl; adds = signal-adds sys fit s signal v z x x _ (looked-same 1 o s v z x told on); was = told.2 ∙ on })

  pub comes-now : (z u : SideView) (x n : ℕ) (r : Rec) → EyeSignalTold 1 o s v x z → eqb (bit_in o x) 1 ≡ false → SubTold o s z n u → r ≡ rec_of 31 o (s ∷ (n / 4294967296) ∷ []) → SideSubscribes sys o s v r u
  comes-now z u x n r told off put is = subst (λ (q : Rec). SideSubscribes sys o s v q u) (sym is) (record {
    n = n / 4294967296;
    is = refl;
    draws = signal-draws sys fit s signal v u n (n + (4294967296 + bit_value o)) _ (then-noted 1 o s v z x told off _ u n (n + (4294967296 + bit_value o)) put.0 put.1) put.2;
    was = told.2 ∙ off;
  })

  -- `same` and `unsub`
  pub away-already : (z : SideView) (x : ℕ) (r : Rec) → EyeSignalTold 0 o s v x z → eqb (bit_in o x) 1 ≡ false → r ≡ rec_of 33 o (s ∷ (x / 4294967296) ∷ []) → SideUnsubscribes sys o s v r z
  away-already z x r told off is = subst (λ (q : Rec). SideUnsubscribes sys o s v q z) (sym is) (record { n = x / 4294967296; is = refl; adds = signal-adds sys fit s signal v z x x _ (looked-same 0 o s v z x told (eq-eqb (bit_in o x) 0 (bit-off o x off))); was = told.2 ∙ off })

  pub bit-on : (x : ℕ) → eqb (bit_in o x) 1 ≡ true → eqb (bit_in o x) 0 ≡ false
  bit-on x on = ap (λ k. eqb k 0) (eqb-true (bit_in o x) 1 on)

  pub goes-now : (z u : SideView) (x n : ℕ) (r : Rec) → EyeSignalTold 0 o s v x z → eqb (bit_in o x) 1 ≡ true → UnsubTold o s z n u → r ≡ rec_of 32 o (s ∷ (n / 4294967296) ∷ []) → SideUnsubscribes sys o s v r u
  goes-now z u x n r told on taken is = subst (λ (q : Rec). SideUnsubscribes sys o s v q u) (sym is) (record {
    n = n / 4294967296;
    is = refl;
    draws = signal-draws sys fit s signal v u n (n + (4294967296 - bit_value o)) _ (then-noted 0 o s v z x told (bit-on x on) _ u n (n + (4294967296 - bit_value o)) taken.0 taken.1) taken.2;
    was = told.2 ∙ on;
  })

-- Time events.

-- the word after each operation has one operation more
armed-more : (n ticks interval : ℕ) → ticks < 65536 → interval < 65536 → ((n / 4294967296 + 1) * 4294967296 + interval * 65536 + ticks) / 4294967296 ≡ n / 4294967296 + 1
armed-more n ticks interval a b = omega arith

disarmed-more : (n : ℕ) → (n + 4294967296 - counter_in n) / 4294967296 ≡ n / 4294967296 + 1
disarmed-more n = omega arith

rearmed-more : (n ticks : ℕ) → ticks < 65536 → (n + 4294967296 + ticks - counter_in n) / 4294967296 ≡ n / 4294967296 + 1
rearmed-more n ticks a = omega arith

ticked-more : (n : ℕ) → 0 < counter_in n → (n + 4294967295 + cond (eqb (counter_in n) 1) (interval_in n) 0) / 4294967296 ≡ n / 4294967296 + 1
ticked-more n some = go (eqb (counter_in n) 1) refl
  where
    go : (b : Bool) → eqb (counter_in n) 1 ≡ b → (n + 4294967295 + cond b (interval_in n) 0) / 4294967296 ≡ n / 4294967296 + 1
    go true is = let e = eqb-true (counter_in n) 1 is in omega arith
    go false is = omega arith

module _ (sys : System) (fit : SideFitting sys) (o t : ℕ) (timer : IsTrue (is_timer sys t)) (v u : SideView) (n : ℕ) where
  idle-here : (r : Rec) → IdleEnds o t v n u → r ≡ rec_of 37 o (t ∷ (n / 4294967296) ∷ []) → IsIdleTimer sys o t v (rec_of 37 o (t ∷ (n / 4294967296) ∷ [])) u
  idle-here r ends is = record { n = n / 4294967296; is = refl; adds = timer-adds sys fit t timer v u n n _ ends }

  pub arms : (ticks interval : ℕ) (r : Rec) → ticks < 65536 → interval < 65536 → ArmEnds o t ticks interval v n true u → r ≡ rec_of 34 o (t ∷ (n / 4294967296) ∷ ticks ∷ interval ∷ []) → ArmsTimer sys o t ticks interval v r u
  arms ticks interval r a b ends is = subst (λ (q : Rec). ArmsTimer sys o t ticks interval v q u) (sym is) (record { n = n / 4294967296; is = refl; draws = timer-draws sys fit t timer v u n _ _ ends (armed-more n ticks interval a b) })

  pub arms-not : (ticks interval : ℕ) (r : Rec) → ArmEnds o t ticks interval v n false u → r ≡ rec_of 42 o (3 ∷ t ∷ (n / 4294967296) ∷ counter_in n ∷ []) → ArmsTimer sys o t ticks interval v r u
  arms-not ticks interval r ends is = subst (λ (q : Rec). ArmsTimer sys o t ticks interval v q u) (sym is) (record { n = n / 4294967296; counter = counter_in n; is = refl; adds = timer-adds sys fit t timer v u n n _ ends.0; few = let s = ends.2 in omega arith; some = ends.1; small = omega arith })

  pub disarms : (r : Rec) → DisarmEnds o t v n true u → r ≡ rec_of 35 o (t ∷ (n / 4294967296) ∷ counter_in n ∷ []) → DisarmsTimer sys o t v r u
  disarms r ends is = subst (λ (q : Rec). DisarmsTimer sys o t v q u) (sym is) (record { n = n / 4294967296; former = counter_in n; is = refl; draws = timer-draws sys fit t timer v u n _ _ ends.0 (disarmed-more n); some = ends.1; small = omega arith })

  pub disarms-not : (r : Rec) → DisarmEnds o t v n false u → r ≡ rec_of 37 o (t ∷ (n / 4294967296) ∷ []) → DisarmsTimer sys o t v r u
  disarms-not r ends is = subst (λ (q : Rec). DisarmsTimer sys o t v q u) (sym is) (idle-here r ends is)

  pub rearms : (ticks : ℕ) (r : Rec) → ticks < 65536 → RearmEnds o t ticks v n u → r ≡ rec_of 36 o (t ∷ (n / 4294967296) ∷ counter_in n ∷ ticks ∷ []) → RearmsTimer sys o t ticks v r u
  rearms ticks r a ends is = record { n = n / 4294967296; former = counter_in n; is = is; draws = subst (λ (q : Rec). SideDraws sys (word.Timer t) (n / 4294967296) q v u) (sym is) (timer-draws sys fit t timer v u n _ _ ends (rearmed-more n ticks a)); small = omega arith }

  pub fires : (r : Rec) → TickEnds o t v n true u → eqb (counter_in n) 1 ≡ true → r ≡ rec_of 39 0 (t ∷ (n / 4294967296) ∷ interval_in n ∷ []) → SideTicksTimer sys o t v r u
  fires r ends last is = subst (λ (q : Rec). SideTicksTimer sys o t v q u) (sym is) (record {
    n = n / 4294967296;
    reload = interval_in n;
    is = refl;
    draws = subst (λ (q : Rec). SideDraws sys (word.Timer t) (n / 4294967296) q v u) (ap (λ (b : Bool). cond {A = Rec} b (rec_of 39 0 (t ∷ (n / 4294967296) ∷ interval_in n ∷ [])) (rec_of 38 0 (t ∷ (n / 4294967296) ∷ (counter_in n - 1) ∷ []))) last)
        (timer-draws sys fit t timer v u n _ _ ends.0 (ticked-more n ends.1));
  })

  pub falls : (r : Rec) → TickEnds o t v n true u → eqb (counter_in n) 1 ≡ false → r ≡ rec_of 38 0 (t ∷ (n / 4294967296) ∷ (counter_in n - 1) ∷ []) → SideTicksTimer sys o t v r u
  falls r ends last is = subst (λ (q : Rec). SideTicksTimer sys o t v q u) (sym is) (record {
    n = n / 4294967296;
    counter = counter_in n - 1;
    is = refl;
    draws = subst (λ (q : Rec). SideDraws sys (word.Timer t) (n / 4294967296) q v u) (ap (λ (b : Bool). cond {A = Rec} b (rec_of 39 0 (t ∷ (n / 4294967296) ∷ interval_in n ∷ [])) (rec_of 38 0 (t ∷ (n / 4294967296) ∷ (counter_in n - 1) ∷ []))) last)
        (timer-draws sys fit t timer v u n _ _ ends.0 (ticked-more n ends.1));
    some = let s = ends.1 in dite (ℕ_discrete (counter_in n) 1) (λ e. absurd (true≢false (sym (eq-eqb (counter_in n) 1 e) ∙ last))) (λ ne. omega arith);
  })

  pub ticks-not : (r : Rec) → TickEnds o t v n false u → r ≡ rec_of 37 o (t ∷ (n / 4294967296) ∷ []) → SideTicksTimer sys o t v r u
  ticks-not r ends is = subst (λ (q : Rec). SideTicksTimer sys o t v q u) (sym is) (idle-here r ends is)

  -- tries that end with an operation, and those that don't
  module _ (x before after kind by : ℕ) (nums : List ℕ) (r q : Rec) (is : r ≡ rec_of kind by nums) (notes : SideNotes (timer_at t) q v n x u) (up : before ≤ after) where
    tries-one : own_draw kind ≡ 1 → x / 4294967296 ≡ n / 4294967296 + 1 → after + last_seen (timer_at t) v / 4294967296 ≤ before + 1 + n / 4294967296 → SideTries sys (word.Timer t) r before after v u
    tries-one own more few = let a = timer-mark sys fit t timer v in let b = timer-mark sys fit t timer u in let k : own_draw r.kind ≡ own_draw kind = ap (λ (z : Rec). own_draw z.kind) is in
        let e : last_seen (timer_at t) u / 4294967296 ≡ x / 4294967296 = ap (λ z. z / 4294967296) notes.saw.value in record { up = up; few = omega arith }

    tries-none : own_draw kind ≡ 0 → x / 4294967296 ≡ n / 4294967296 → after + last_seen (timer_at t) v / 4294967296 ≤ before + 0 + n / 4294967296 → SideTries sys (word.Timer t) r before after v u
    tries-none own same few = let a = timer-mark sys fit t timer v in let b = timer-mark sys fit t timer u in let k : own_draw r.kind ≡ own_draw kind = ap (λ (z : Rec). own_draw z.kind) is in
        let e : last_seen (timer_at t) u / 4294967296 ≡ x / 4294967296 = ap (λ z. z / 4294967296) notes.saw.value in record { up = up; few = omega arith }

  module _ (before after : ℕ) (r : Rec) (up : before ≤ after) where
    pub arm-tries : (ticks interval : ℕ) → ticks < 65536 → interval < 65536 → ArmEnds o t ticks interval v n true u → r ≡ rec_of 34 o (t ∷ (n / 4294967296) ∷ ticks ∷ interval ∷ []) → after + last_seen (timer_at t) v / 4294967296 ≤ before + 1 + n / 4294967296 → SideTries sys (word.Timer t) r before after v u
    arm-tries ticks interval a b ends is few = tries-one _ before after 34 o _ r _ is ends up refl (armed-more n ticks interval a b) few

    pub armed-tries : (ticks interval : ℕ) → ArmEnds o t ticks interval v n false u → r ≡ rec_of 42 o (3 ∷ t ∷ (n / 4294967296) ∷ counter_in n ∷ []) → after + last_seen (timer_at t) v / 4294967296 ≤ before + 0 + n / 4294967296 → SideTries sys (word.Timer t) r before after v u
    armed-tries ticks interval ends is few = tries-none n before after 42 o _ r _ is ends.0 up refl refl few

    pub disarm-tries : DisarmEnds o t v n true u → r ≡ rec_of 35 o (t ∷ (n / 4294967296) ∷ counter_in n ∷ []) → after + last_seen (timer_at t) v / 4294967296 ≤ before + 1 + n / 4294967296 → SideTries sys (word.Timer t) r before after v u
    disarm-tries ends is few = tries-one _ before after 35 o _ r _ is ends.0 up refl (disarmed-more n) few

    pub idle-tries : IdleEnds o t v n u → r ≡ rec_of 37 o (t ∷ (n / 4294967296) ∷ []) → after + last_seen (timer_at t) v / 4294967296 ≤ before + 0 + n / 4294967296 → SideTries sys (word.Timer t) r before after v u
    idle-tries ends is few = tries-none n before after 37 o _ r _ is ends up refl refl few

    pub rearm-tries : (ticks : ℕ) → ticks < 65536 → RearmEnds o t ticks v n u → r ≡ rec_of 36 o (t ∷ (n / 4294967296) ∷ counter_in n ∷ ticks ∷ []) → after + last_seen (timer_at t) v / 4294967296 ≤ before + 1 + n / 4294967296 → SideTries sys (word.Timer t) r before after v u
    rearm-tries ticks a ends is few = tries-one _ before after 36 o _ r _ is ends up refl (rearmed-more n ticks a) few

    -- a tick that fires, and one that doesn't
    pub tick-tries : (kind : ℕ) (nums : List ℕ) → TickEnds o t v n true u → r ≡ rec_of kind 0 nums → own_draw kind ≡ 1 → after + last_seen (timer_at t) v / 4294967296 ≤ before + 1 + n / 4294967296 → SideTries sys (word.Timer t) r before after v u
    tick-tries kind nums ends is own few = tries-one _ before after kind 0 nums r _ is ends.0 up own (ticked-more n ends.1) few

-- members of a set of objects are objects
each-has : (P : ℕ → Type 0) (p : ℕ) (ms : List ℕ) → Each P ms → has ms p ≡ true → P p
each-has P p [] e h = absurd (true≢false (sym h))
each-has P p (m ∷ ms) e h = go (m == p) refl h (each-has P p ms e.1)
  where
    go : (b : Bool) → (m == p) ≡ b → (b || has ms p) ≡ true → (has ms p ≡ true → P p) → P p
    go true is q r = subst P (eqb-true m p is) e.0
    go false is q r = r q

below-known : (sys : System) (ms : List ℕ) (n : ℕ) → n ≤ 32 → AreSubscribers sys ms → list_all (λ a. is_object sys a) (members_below n (bits_of_set ms)) ≡ true
unfolding members_below
below-known sys ms zero le are = refl
below-known sys ms (suc n) le are = go ((bits_of_set ms / 2 ^ n) % 2 == 1) refl (below-known sys ms n (omega arith) are)
  where
    go : (b : Bool) → ((bits_of_set ms / 2 ^ n) % 2 == 1) ≡ b → list_all (λ a. is_object sys a) (members_below n (bits_of_set ms)) ≡ true → list_all (λ a. is_object sys a) (if b then suc n ∷ members_below n (bits_of_set ms) else members_below n (bits_of_set ms)) ≡ true
    go false is rest = rest
    go true is rest =
        let e : suc n - 1 ≡ n = omega arith in
        let there : has ms (suc n) ≡ true = has-bit ms are.once (suc n) (omega arith) le ∙ (ap (λ k. bit_at (bits_of_set ms) k == 1) e ∙ is) in
        and_from (is_object sys (suc n)) _ (each-has (λ a. IsTrue (is_object sys a)) (suc n) ms are.known there) rest

members-known : (sys : System) (ms : List ℕ) (set : ℕ) → set ≡ bits_of_set ms → AreSubscribers sys ms → IsTrue (list_all (λ a. is_object sys a) (members set))
unfolding members
members-known sys ms set is are = subst (λ z. list_all (λ a. is_object sys a) (members_below 32 z) ≡ true) (sym is) (below-known sys ms 32 (omega arith) are)

-- the subscribers
module _ (sys : System) (fit : SideFitting sys) (o s : ℕ) (signal : IsTrue (is_signal sys s)) (v u : SideView) where
  pub shows-set : (n : ℕ) (r : Rec) → PubTold sys o s v n u → r ≡ rec_of 23 o (s ∷ (n / 4294967296) ∷ (n % 4294967296) ∷ []) → ShowsSet sys o s v r u
  shows-set n r told is = record {
    n = n / 4294967296;
    set = n % 4294967296;
    is = is;
    adds = subst (λ (q : Rec). SideAdds sys (word.Signal s) (n / 4294967296) q v u) (sym is) (signal-adds sys fit s signal v u n n _ (record { glances = v.view.seen; is = told.1; saw = told.2 }));
    small = omega arith;
    known = members-known sys told.0 (n % 4294967296) told.3 told.4;
  }

-- an object's time event is one of the system
pub owned-timer : (sys : System) (o t : ℕ) → OwnsTimer sys o t → IsTrue (is_timer sys t)
owned-timer sys o t owns = let l = slice_get_within sys.timers (t - 1) owns.timer owns.there in let p = owns.some in and_from (nat_lt 0 t) (nat_le t (length sys.timers)) (grind (arith, nat_tests)) (grind (arith, nat_tests))

-- codes that are all one
pub one-code : (code : ℕ) (cs : List ℕ) → Each (λ k. k ≡ code) cs → IsTrue (list_all (λ c. c == code) cs)
one-code code [] e = refl
one-code code (c ∷ cs) e = and_from (c == code) _ (eq-eqb c code e.0) (one-code code cs e.1)

-- The record that a call answers is the last of the seat's own log.
module _ (sys : System) (w : Word) (r : Rec) (v u : SideView) where
  pub stays-as : (a : (k : ℕ) × SideAdds sys w k r v u) → StaysAs v u
  stays-as a = record {
    serves = ap (λ (z : SideView). z.view.serves) a.1.rest;
    lane_numbers = ap (λ (z : SideView). z.view.lane_numbers) a.1.rest;
    stops = ap (λ (z : SideView). z.stops) a.1.rest;
    answered = ap (λ (z : SideView). z.answered) a.1.rest;
  }

  pub more-recs : length v.view.logs ≡ 1 → (a : (k : ℕ) × SideAdds sys w k r v u) → side_recs u ≡ side_recs v ++ r ∷ []
  more-recs one a = ap first_recs a.1.logs ∙ go v.view.logs one
    where
      go : (gs : List SeatLog) → length gs ≡ 1 → first_recs (logged r gs) ≡ first_recs gs ++ r ∷ []
      go [] e = absurd (omega arith)
      go (g ∷ gs) e = refl

module _ (sys : System) (o : ℕ) (v : SideView) (r : Rec) (u : SideView) where
  pub subscribes-adds : (s : ℕ) (b : Bool) → MatchBool b (ObjectComes sys o s v r u) (IsThere sys o s v r u) → (k : ℕ) × SideAdds sys (word.Signal s) k r v u
  subscribes-adds s true a = (_, a.draws.adds)
  subscribes-adds s false a = (_, a.adds)

  pub unsubscribes-adds : (s : ℕ) (b : Bool) → MatchBool b (ObjectGoes sys o s v r u) (SideIsAway sys o s v r u) → (k : ℕ) × SideAdds sys (word.Signal s) k r v u
  unsubscribes-adds s true a = (_, a.draws.adds)
  unsubscribes-adds s false a = (_, a.adds)

  pub arms-adds : (t ticks interval : ℕ) (b : Bool) → MatchBool b (IsArmed sys o t ticks interval v r u) (WasArmed sys o t v r u) → (k : ℕ) × SideAdds sys (word.Timer t) k r v u
  arms-adds t ticks interval true a = (_, a.draws.adds)
  arms-adds t ticks interval false a = (_, a.adds)

  pub disarms-adds : (t : ℕ) (b : Bool) → MatchBool b (IsDisarmed sys o t v r u) (IsIdleTimer sys o t v r u) → (k : ℕ) × SideAdds sys (word.Timer t) k r v u
  disarms-adds t true a = (_, a.draws.adds)
  disarms-adds t false a = (_, a.adds)

  pub ticks-adds : (t : ℕ) (idle fired : Bool) → MatchBool idle (IsIdleTimer sys o t v r u) (MatchBool fired (IsFired sys t v r u) (IsDown sys t v r u)) → (k : ℕ) × SideAdds sys (word.Timer t) k r v u
  ticks-adds t true fired a = (_, a.adds)
  ticks-adds t false true a = (_, a.draws.adds)
  ticks-adds t false false a = (_, a.draws.adds)
