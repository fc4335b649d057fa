-- The view that has all lanes knows the whole, and the start.
use Rattle.std.proofs.Common.{◌≡◌, ℕ, zero, suc, ◌+◌, ◌<◌, ◌≤◌, ◌≢◌, nat_lt, List, [], ◌∷◌, Bool, true, false, cond, ◌&&◌, length, replicate, get_or, refl, sym, ap, subst, ◌∙◌, arith, eqb, eq-eqb, ne_eqb, IsTrue}
use Rattle.std.proofs.lemmas.Bool.Decides.{nat_tests}
use mathlib.Core.Option.{some, some-injective, some-ne-none}
use mathlib.Core.Logic.{dite}
use native.Mathlib.Decide.{ℕ_discrete}
use lib.ListN.{get_elem?}
use Rattle.qp_chart.specs.StateTree.{has}
use Rattle.qp_model.specs.declared.record.Rec.{Rec}
use Rattle.qp_model.specs.declared.systems.System.{System}
use Rattle.qp_model.specs.declared.words.Word.{Word}
use Rattle.qp_model.specs.declared.words.Word.TheVariants as word
use Rattle.qp_model.specs.Lists.{count_up}
use Rattle.qp_model.specs.History.{hist, numbered, total as total_drawn, all_items}
use Rattle.qp_model.specs.FreeBlocks.{free_blocks}
use Rattle.qp_model.specs.References.{references}
use Rattle.qp_model.specs.Line.{line}
use Rattle.qp_model.specs.Lives.{life_of}
use Rattle.qp_model.specs.Sites.{ring_of, blocks_of}
use Rattle.qp_model.specs.WordLaw.{is_pool, is_block, is_object}
use Rattle.qp_model.proofs.BeginningLemmas.{all_items-empty, held-first, words-first}
use Rattle.qp_table.specs.Counting.{Each, sum_over, many, upto}
use Rattle.qp_table.specs.Now.{content_from}
use Rattle.qp_table.specs.Rule.{cell_at, Fitting, Shows, is_log, is_number, Idle, is_spot, Beside, is_ref, is_serve, Served, Serves, mark_in, Holds}
use Rattle.qp_table.specs.After.{newcomer}
use Rattle.qp_table.specs.declared.view.SeatLog.{SeatLog}
use Rattle.qp_table.specs.declared.view.Serve.{Serve}
use Rattle.qp_table.specs.declared.view.Glance.{Glance}
use Rattle.qp_table.specs.declared.view.View.{View}
use Rattle.qp_table.proofs.Counting.{each-map, many-le}
use Rattle.qp_table.proofs.Views.{total-two, SawFrom}
use Rattle.qp_table.specs.Whole.{GlanceIsBehind, IsWholeView, first_now, later_lanes}

no-total : {A : Type 0} (f : A → ℕ) (xs : List A) (i : ℕ) (x : A) → get_elem? xs i ≡ some x → ((j : ℕ) (y : A) → j ≢ i → get_elem? xs j ≡ some y → f y ≡ 0) → sum_over f xs ≡ f x
no-total f [] i x e h = absurd (some-ne-none x (sym e))
no-total f (y ∷ xs) zero x e h = let a = ap f (some-injective y x e) in let z = none f xs (λ j z q. h (suc j) z (λ w. omega arith) q) in omega arith
  where
    none : {A : Type 0} (f : A → ℕ) (xs : List A) → ((j : ℕ) (y : A) → get_elem? xs j ≡ some y → f y ≡ 0) → sum_over f xs ≡ 0
    none f [] h = refl
    none f (x ∷ xs) h = let a = h 0 x refl in let b = none f xs (λ j y e. h (suc j) y e) in omega arith
no-total f (y ∷ xs) (suc i) x e h = let a = h 0 y (λ w. omega arith) refl in let r = no-total f xs i x e (λ j z n q. h (suc j) z (λ w. n (omega arith)) q) in omega arith

-- What the view with all lanes knows
module _ (sys : System) (words : List ℕ) (views : List View) (holds : Holds sys words views) (id : ℕ) (v : View) (at_id : get_elem? views id ≡ some v) (all : length v.logs + length v.lane_numbers ≡ 49) where
  others-idle : (j : ℕ) (z : View) → j ≢ id → get_elem? views j ≡ some z → Idle z
  others-idle j z ne there = holds.idle j z there (let t = total-two (λ (y : View). length y.logs + length y.lane_numbers) views id j v z at_id there (λ e. ne (sym e)) in let r = holds.logs.rights in omega arith)

  -- no other view has a log, nor a lane number
  logs-alone : (n : ℕ) → sum_over (λ (z : View). many (is_log n) z.logs) views ≡ many (is_log n) v.logs
  logs-alone n = no-total (λ (z : View). many (is_log n) z.logs) views id v at_id (λ j z ne there. let t = total-two (λ (y : View). length y.logs + length y.lane_numbers) views id j v z at_id there (λ e. ne (sym e)) in let r = holds.logs.rights in let l = many-le (is_log n) z.logs in omega arith)

  numbers-alone : (n : ℕ) → sum_over (λ (z : View). many (is_number n) z.lane_numbers) views ≡ many (is_number n) v.lane_numbers
  numbers-alone n = no-total (λ (z : View). many (is_number n) z.lane_numbers) views id v at_id (λ j z ne there. let t = total-two (λ (y : View). length y.logs + length y.lane_numbers) views id j v z at_id there (λ e. ne (sym e)) in let r = holds.logs.rights in let l = many-le (is_number n) z.lane_numbers in omega arith)

  alone : (f : View → ℕ) → ((z : View) → Idle z → f z ≡ 0) → sum_over f views ≡ f v
  alone f h = no-total f views id v at_id (λ j z ne there. h z (others-idle j z ne there))

  pub whole : IsWholeView sys v
  whole = record {
    now = holds.now;
    words = words;
    was = holds.was;
    lanes = holds.lanes;
    count = holds.logs.count;
    own = holds.logs.own id v at_id;
    once = λ n few. let l = logs-alone n in let k = numbers-alone n in let o = holds.logs.once n few in omega arith;
    rest = λ n few mine. holds.logs.later n few (let k = numbers-alone n in omega arith);
    leaves = holds.leaves;
    shows = holds.shows;
    glances = each-map (SawFrom words holds.was) (GlanceIsBehind words) (λ g s. (s.1, λ e. s.2 ∙ (ap (holds.was g.word) e ∙ sym (holds.seen.now g.word s.0)))) v.seen (holds.seen.each id v at_id);
    seen = each-map (SawFrom words holds.was) (λ (g : Glance). g.value ≡ holds.was g.word (mark_in g.word g.value)) (λ g s. s.2) v.seen (holds.seen.each id v at_id);
    past = record { pool = holds.past.pool; refs = holds.past.refs; line = holds.past.line };
    contents = holds.contents id v at_id;
    event = holds.events.event;
    place = λ p b. let t = holds.tokens.place p b in
        let f = alone (λ z. many (is_spot p b) z.fresh) (λ z i. ap (many (is_spot p b)) i.fresh) in let u = alone (λ z. many (is_spot p b) z.used) (λ z i. ap (many (is_spot p b)) i.used) in omega arith;
    hand = λ p b k l. let t = holds.tokens.hand p b k l in let f = alone (λ z. many (is_ref p b k) z.hands) (λ z i. ap (many (is_ref p b k)) i.hands) in omega arith;
  }

-- The start
has-up : (from n b : ℕ) → from ≤ b → has (count_up from n) b ≡ nat_lt b (from + n)
has-up from zero b le = sym (grind (arith, nat_tests))
has-up from (suc n) b le = dite (ℕ_discrete from b)
    (λ e. let t : nat_lt b (from + suc n) ≡ true = grind (arith, nat_tests) in rw (eq-eqb from b e, t) refl)
    (λ ne. rw (ne_eqb from b ne) (has-up (from + 1) n b (omega arith) ∙ (let same : (from + 1) + n ≡ from + suc n = omega arith in ap (nat_lt b) same)))

free-first : (sys : System) (p b : ℕ) → has (cond (is_pool sys p) (count_up 0 (blocks_of sys p)) []) b ≡ is_block sys p b
unfolding is_block
free-first sys p b = go (is_pool sys p)
  where
    go : (t : Bool) → has (cond t (count_up 0 (blocks_of sys p)) []) b ≡ (t && nat_lt b (blocks_of sys p))
    go true = has-up 0 (blocks_of sys p) b (omega arith) ∙ (let same : 0 + blocks_of sys p ≡ blocks_of sys p = omega arith in ap (nat_lt b) same)
    go false = refl

none-at : (w : Word) → length (hist w (all_items (replicate 49 []))) ≡ 0
unfolding hist numbered total_drawn
none-at w = rw all_items-empty refl

content-first : (p b : ℕ) → content_from b [] (hist (word.Pool p) (all_items (replicate 49 []))) ≡ []
unfolding hist numbered total_drawn content_from
content-first p b = rw all_items-empty refl

upto-none : (n : ℕ) → upto n (λ a. 0) ≡ 0
upto-none zero = refl
upto-none (suc n) = let r = upto-none n in omega arith

alone-view : (P : View → Type 0) (v : View) → P v → (id : ℕ) (u : View) → get_elem? (v ∷ []) id ≡ some u → P u
alone-view P v p zero u e = subst P (some-injective v u e) p
alone-view P v p (suc id) u e = absurd (some-ne-none u (sym e))

pub replicate-get : (n k : ℕ) → k < n → get_elem? {A = List Rec} (replicate n []) k ≡ some []
replicate-get zero k l = absurd (omega arith)
replicate-get (suc n) zero l = refl
replicate-get (suc n) (suc k) l = replicate-get n k (omega arith)

pub replicate-each : (n : ℕ) → Each (λ (l : List Rec). length l ≤ 1000001) (replicate n [])
replicate-each zero = tt
replicate-each (suc n) = (omega arith, replicate-each n)

up-many : (from k n : ℕ) → (n < from → many (is_number n) (count_up from k) ≡ 0) × (from + k ≤ n → many (is_number n) (count_up from k) ≡ 0) × (from ≤ n → n < from + k → many (is_number n) (count_up from k) ≡ 1)
up-many from zero n = ((λ h. refl), (λ h. refl), λ h l. absurd (omega arith))
up-many from (suc k) n = let r = up-many (from + 1) k n in let a = r.0 in let b = r.1 in let c = r.2 in dite (ℕ_discrete from n)
    (λ e. let one : cond {A = ℕ} (eqb from n) 1 0 ≡ 1 = ap (λ (t : Bool). cond {A = ℕ} t 1 0) (eq-eqb from n e) in
    ((λ h. absurd (omega arith)), (λ h. absurd (omega arith)), λ h l. let z = a (omega arith) in omega arith))
    (λ ne. let none_here : cond {A = ℕ} (eqb from n) 1 0 ≡ 0 = ap (λ (t : Bool). cond {A = ℕ} t 1 0) (ne_eqb from n ne) in
    ((λ h. let z = a (omega arith) in omega arith), (λ h. let z = b (omega arith) in omega arith), λ h l. let z = c (omega arith) (omega arith) in omega arith))

pub lane-once : (n : ℕ) → n < 49 → cond {A = ℕ} (eqb 0 n) 1 0 + many (is_number n) (count_up 1 48) ≡ 1
lane-once n l = let u = up-many 1 48 n in dite (ℕ_discrete 0 n)
    (λ e. let one : cond {A = ℕ} (eqb 0 n) 1 0 ≡ 1 = ap (λ (t : Bool). cond {A = ℕ} t 1 0) (eq-eqb 0 n e) in let z = u.0 (omega arith) in omega arith)
    (λ ne. let none_here : cond {A = ℕ} (eqb 0 n) 1 0 ≡ 0 = ap (λ (t : Bool). cond {A = ℕ} t 1 0) (ne_eqb 0 n ne) in let z = u.2 (omega arith) (omega arith) in omega arith)

pub opens : (sys : System) (words : List ℕ) (xs : List Serve) → Fitting sys → Shows sys words (first_now sys) → ((a j : ℕ) → IsTrue (is_object sys a) → j < ring_of sys a + 1 → get_or words (cell_at a j) 0 ≡ 0)
    → ((a : ℕ) → many (is_serve a) xs ≡ cond (is_object sys a) 1 0) → Each (λ (x : Serve). (x.lifos ≡ 0) × (x.takes ≡ 0)) xs → Holds sys words (newcomer later_lanes xs ∷ [])
opens sys words xs fitting shows cells serves zeros = record {
  lanes = replicate 49 [];
  now = first_now sys;
  items = λ a. [];
  was = λ w k. get_or words w 0;
  fitting = fitting;
  leaves = record {
    law = words-first sys 49;
    pool = λ p h. (held-first (free_blocks (blocks_of sys p)) (word.Pool p) 49).state ∙ (λ i. record { count = 0; free = cond (sym h i) (count_up 0 (blocks_of sys p)) [] });
    refs = λ p b h. (held-first references (word.Block p b) 49).state;
    edge = λ p b h. ap (λ t. t.edge) (held-first (life_of b) (word.Pool p) 49).state;
    content = λ p b h. content-first p b;
    line = λ a h. (held-first (line (ring_of sys a)) (word.Queue a) 49).state;
  };
  shows = shows;
  logs = record {
    count = refl;
    own = alone-view (λ z. Each (λ (g : SeatLog). get_elem? (replicate 49 []) g.number ≡ some g.recs) z.logs) (newcomer later_lanes xs) (refl, tt);
    once = λ n l. let o = lane-once n l in omega arith;
    later = λ n l far. replicate-get 49 n l;
    rights = refl;
    room = replicate-each 49;
  };
  idle = alone-view (λ z. length z.logs + length z.lane_numbers ≡ 0 → Idle z) (newcomer later_lanes xs) (λ h. absurd (omega arith));
  tokens = record {
    place = λ p b. let f = ap (λ (t : Bool). cond {A = ℕ} t 1 0) (free-first sys p b) in omega arith;
    hand = λ p b k l. let u = upto-none 33 in omega arith;
    begun = λ p b n h. absurd (omega arith);
    worn = λ p b n h. absurd (omega arith);
    named = λ p b. tt;
  };
  events = record {
    few = λ p b h. omega arith;
    word = λ p b j h l gone. absurd (omega arith);
    right = λ p b j n ne. refl;
    beside = alone-view (Beside (first_now sys)) (newcomer later_lanes xs) (record { fills = λ p b. omega arith; gives = λ p b. omega arith; told = tt });
    event = λ p b h. tt;
  };
  queues = record {
    queue = λ a h. let f = fitting.objects a h in let f1 = f.1 in record { some_cell = (omega arith, omega arith); same = refl; run = tt; short = omega arith; cells = λ j l. cells a j h l; first = tt; staged = tt; bounded = tt; counted = refl };
    none = λ a no. (refl, refl);
    claims = λ a j e. refl;
    takes = λ a j e. refl;
    serves = λ a. let s = serves a in omega arith;
    home = alone-view (Serves (first_now sys)) (newcomer later_lanes xs) (record { counts = counted xs zeros; within = let z = summed xs zeros in omega arith; others = λ a h. (refl, refl); taking = λ a. omega arith });
  };
  seen = record { now = λ w l. refl; each = alone-view (λ z. Each _ z.seen) (newcomer later_lanes xs) tt };
  past = record {
    pool = λ p k h l. let e = none-at (word.Pool p) in absurd (omega arith);
    refs = λ p b k h l. let e = none-at (word.Block p b) in absurd (omega arith);
    line = λ a k h l. let e = none-at (word.Queue a) in absurd (omega arith);
  };
  contents = alone-view (λ z. Each _ z.contents) (newcomer later_lanes xs) tt;
}
  where
    summed : (ys : List Serve) → Each (λ (x : Serve). (x.lifos ≡ 0) × (x.takes ≡ 0)) ys → sum_over (λ (x : Serve). x.lifos + x.takes) ys ≡ 0
    summed [] e = refl
    summed (x ∷ ys) e = let a = e.0.0 in let b = e.0.1 in let r = summed ys e.1 in omega arith

    counted : (ys : List Serve) → Each (λ (x : Serve). (x.lifos ≡ 0) × (x.takes ≡ 0)) ys → Each (Served (first_now sys) (record { number = 0; recs = [] } ∷ [])) ys
    counted [] e = tt
    counted (x ∷ ys) e = let a = e.0.0 in let b = e.0.1 in (record { lifos = sym e.0.0; takes = sym e.0.1; few = omega arith; lifos_are = e.0.0; takes_are = e.0.1 }, counted ys e.1)
