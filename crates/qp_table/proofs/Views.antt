-- The views, when one of them has a record or a glance more.
use Rattle.std.proofs.Common.{◌≡◌, ℕ, zero, suc, ◌+◌, ◌<◌, ◌≤◌, ◌≢◌, List, [], ◌∷◌, ◌++◌, Bool, true, false, cond, length, set, get_or, refl, sym, ap, subst, ◌∙◌, inl, inr, ⊎_elim, arith, eqb, eq-eqb, length-append, get_or-set_same, get_or-set_other}
use mathlib.Core.Option.{some, some-injective, some-ne-none}
use mathlib.Core.Logic.{dite}
use native.Mathlib.Decide.{ℕ_discrete}
use lib.ListN.{get_elem?}
use Rattle.atomic_table.proofs.Lists.{at_set}
use Rattle.qp_model.specs.declared.record.Rec.{Rec}
use Rattle.qp_model.specs.Record.{Item, item_of}
use Rattle.qp_table.specs.Counting.{Each, sum_over, many}
use Rattle.qp_table.specs.Now.{at_two}
use Rattle.qp_table.specs.Rule.{mark_in, is_log, is_number, is_lifo, is_take_of, lifo_on, took_on, records, Logs, Idle, AllIdle, Was, Seen}
use Rattle.qp_table.specs.After.{logged}
use Rattle.qp_table.specs.declared.view.SeatLog.{SeatLog}
use Rattle.qp_table.specs.declared.view.Glance.{Glance}
use Rattle.qp_table.specs.declared.view.View.{View}
use Rattle.qp_table.proofs.Counting.{each-map, each-snoc, total-set, total-at, many-snoc}
use Rattle.qp_table.proofs.Growing.{two-here, two-else}

module _ {A : Type 0} where
  pub split-at : (xs : List A) (n : ℕ) (x : A) → get_elem? xs n ≡ some x → (before : List A) × (behind : List A) × (xs ≡ before ++ x ∷ behind) × (length before ≡ n)
  split-at [] n x e = absurd (some-ne-none x (sym e))
  split-at (y ∷ ys) zero x e = ([], ys, (λ i. some-injective y x e i ∷ ys), refl)
  split-at (y ∷ ys) (suc n) x e = let r = split-at ys n x e in (y ∷ r.0, r.1, (λ i. y ∷ r.2 i), ap suc r.3)

  pub mid-here : (before : List A) (x : A) (behind : List A) → get_elem? (before ++ x ∷ behind) (length before) ≡ some x
  mid-here [] x behind = refl
  mid-here (y ∷ before) x behind = mid-here before x behind

  pub mid-else : (before : List A) (x z : A) (behind : List A) (j : ℕ) → j ≢ length before → get_elem? (before ++ z ∷ behind) j ≡ get_elem? (before ++ x ∷ behind) j
  mid-else [] x z behind zero ne = absurd (ne refl)
  mid-else [] x z behind (suc j) ne = refl
  mid-else (y ∷ before) x z behind zero ne = refl
  mid-else (y ∷ before) x z behind (suc j) ne = mid-else before x z behind j (λ e. ne (ap suc e))

  pub mid-length : (before : List A) (x z : A) (behind : List A) → length (before ++ z ∷ behind) ≡ length (before ++ x ∷ behind)
  mid-length [] x z behind = refl
  mid-length (y ∷ before) x z behind = ap suc (mid-length before x z behind)

  pub each-mid : (P : A → Type 0) (before : List A) (x z : A) (behind : List A) → P z → Each P (before ++ x ∷ behind) → Each P (before ++ z ∷ behind)
  each-mid P [] x z behind p e = (p, e.1)
  each-mid P (y ∷ before) x z behind p e = (e.0, each-mid P before x z behind p e.1)

  -- two different ones of a sum
  pub total-two : (f : A → ℕ) (xs : List A) (i j : ℕ) (v w : A) → get_elem? xs i ≡ some v → get_elem? xs j ≡ some w → i ≢ j → f v + f w ≤ sum_over f xs
  total-two f [] i j v w a b ne = absurd (some-ne-none v (sym a))
  total-two f (x ∷ xs) zero zero v w a b ne = absurd (ne refl)
  total-two f (x ∷ xs) zero (suc j) v w a b ne = let s : f x ≡ f v = ap f (some-injective x v a) in let t = total-at f xs j w b in omega arith
  total-two f (x ∷ xs) (suc i) zero v w a b ne = let s : f x ≡ f w = ap f (some-injective x w b) in let t = total-at f xs i v a in omega arith
  total-two f (x ∷ xs) (suc i) (suc j) v w a b ne = let t = total-two f xs i j v w a b (λ e. ne (ap suc e)) in omega arith

pub same-total : (f : View → ℕ) (views : List View) (id : ℕ) (v u : View) → get_elem? views id ≡ some v → f u ≡ f v → sum_over f (set views id u) ≡ sum_over f views
same-total f views id v u at e = let t = total-set f views id v u at in omega arith

-- all views fit still, where one is changed to one that fits
pub fits-set : (P Q : View → Type 0) (views : List View) (id : ℕ) (u : View) → ((j : ℕ) (v : View) → j ≢ id → get_elem? views j ≡ some v → P v → Q v) → Q u → ((j : ℕ) (v : View) → get_elem? views j ≡ some v → P v) → (j : ℕ) (v : View) → get_elem? (set views id u) j ≡ some v → Q v
fits-set P Q views id u keep mine all j v e = ⊎_elim (λ (t : (j ≡ id) × (u ≡ v)). subst Q t.1 mine) (λ (t : (j ≢ id) × (get_elem? views j ≡ some v)). keep j v t.0 t.1 (all j v t.1)) (at_set views id j u v e)

cond-zero : (n m : ℕ) (t : Bool) → eqb n m ≡ t → cond {A = ℕ} t 1 0 ≡ 0 → n ≢ m
cond-zero n m true e z = absurd (omega arith)
cond-zero n m false e z = λ s. let c : eqb n m ≡ true = eq-eqb n m s in let d : cond {A = ℕ} (eqb n m) 1 0 ≡ 1 = ap (λ (b : Bool). cond {A = ℕ} b 1 0) c in let f : cond {A = ℕ} (eqb n m) 1 0 ≡ 0 = ap (λ (b : Bool). cond {A = ℕ} b 1 0) e in omega arith

-- where no log has the number
pub none-logged : (n : ℕ) (gs : List SeatLog) → many (is_log n) gs ≡ 0 → Each (λ (g : SeatLog). g.number ≢ n) gs
none-logged n [] e = tt
none-logged n (g ∷ gs) e = (cond-zero g.number n (eqb g.number n) refl (omega arith), none-logged n gs (omega arith))

logged-many : (n : ℕ) (r : Rec) (gs : List SeatLog) → many (is_log n) (logged r gs) ≡ many (is_log n) gs
logged-many n r [] = refl
logged-many n r (g ∷ gs) = refl

logged-length : (r : Rec) (gs : List SeatLog) → length (logged r gs) ≡ length gs
logged-length r [] = refl
logged-length r (g ∷ gs) = refl

module _ (before : List (List Rec)) (lane : List Rec) (behind : List (List Rec)) where
  abbrev Own : List (List Rec) → View → Type 0
  Own lanes v = Each (λ (g : SeatLog). get_elem? lanes g.number ≡ some g.recs) v.logs

  still-there : (new : List Rec) (gs : List SeatLog) → Each (λ (g : SeatLog). g.number ≢ length before) gs → Each (λ (g : SeatLog). get_elem? (before ++ lane ∷ behind) g.number ≡ some g.recs) gs
      → Each (λ (g : SeatLog). get_elem? (before ++ new ∷ behind) g.number ≡ some g.recs) gs
  still-there new [] n e = tt
  still-there new (g ∷ gs) n e = (mid-else before lane new behind g.number n.0 ∙ e.0, still-there new gs n.1 e.1)

  -- a record more in the lane whose log stands first in the view
  pub logs-noted : (views : List View) (id : ℕ) (v u : View) (g : SeatLog) (gs : List SeatLog) (r : Rec) → Logs (before ++ lane ∷ behind) views → get_elem? views id ≡ some v → v.logs ≡ g ∷ gs → g.number ≡ length before
      → length before < 49 → length lane ≤ 1000000 → u.logs ≡ logged r v.logs → u.lane_numbers ≡ v.lane_numbers → Logs (before ++ (lane ++ r ∷ []) ∷ behind) (set views id u)
  logs-noted views id v u g gs r old at head number inside room logs rest =
      let n : ℕ = length before in
      let here : many (is_log (length before)) v.logs ≡ 1 + many (is_log (length before)) gs = ap (many (is_log (length before))) head ∙ (let e : cond {A = ℕ} (eqb g.number (length before)) 1 0 ≡ 1 = ap (λ (b : Bool). cond {A = ℕ} b 1 0) (eq-eqb g.number (length before) number) in omega arith) in
      let one = old.once (length before) inside in
      let top = total-at (λ (z : View). many (is_log (length before)) z.logs) views id v at in
      let mine : some g.recs ≡ some lane = sym (subst (λ (ls : List SeatLog). Each (λ (g : SeatLog). get_elem? (before ++ lane ∷ behind) g.number ≡ some g.recs) ls) head (old.own id v at)).0 ∙ (ap (get_elem? (before ++ lane ∷ behind)) number ∙ mid-here before lane behind) in
      let is_lane : g.recs ≡ lane = some-injective g.recs lane mine in
      let rests : (k : ℕ) → sum_over (λ (z : View). many (is_number k) z.lane_numbers) (set views id u) ≡ sum_over (λ (z : View). many (is_number k) z.lane_numbers) views = (λ k. same-total (λ (z : View). many (is_number k) z.lane_numbers) views id v u at (ap (many (is_number k)) rest)) in record {
        count = mid-length before lane (lane ++ r ∷ []) behind ∙ old.count;
        own = fits-set (Own (before ++ lane ∷ behind)) (Own (before ++ (lane ++ r ∷ []) ∷ behind)) views id u
            (λ j w ne there o. still-there (lane ++ r ∷ []) w.logs (none-logged (length before) w.logs (let t = total-two (λ (z : View). many (is_log (length before)) z.logs) views id j v w at there (λ e. ne (sym e)) in omega arith)) o)
            (subst (λ (ls : List SeatLog). Each (λ (g : SeatLog). get_elem? (before ++ (lane ++ r ∷ []) ∷ behind) g.number ≡ some g.recs) ls) (sym (logs ∙ ap (logged r) head)) (
              ap (get_elem? (before ++ (lane ++ r ∷ []) ∷ behind)) number ∙ (mid-here before (lane ++ r ∷ []) behind ∙ (λ i. some (sym is_lane i ++ r ∷ []))),
              still-there (lane ++ r ∷ []) gs (none-logged (length before) gs (omega arith)) (subst (λ (ls : List SeatLog). Each (λ (g : SeatLog). get_elem? (before ++ lane ∷ behind) g.number ≡ some g.recs) ls) head (old.own id v at)).1,
            ))
            old.own;
        once = λ k l. let o = old.once k l in let s = same-total (λ (z : View). many (is_log k) z.logs) views id v u at (ap (many (is_log k)) logs ∙ logged-many k r v.logs) in rw (s, rests k) o;
        later = λ k l far. let far' : 0 < sum_over (λ (z : View). many (is_number k) z.lane_numbers) views = rw (sym (rests k)) far in
            mid-else before lane (lane ++ r ∷ []) behind k (λ e. let q : 0 < sum_over (λ (z : View). many (is_number (length before)) z.lane_numbers) views = subst (λ (n : ℕ). 0 < sum_over (λ (z : View). many (is_number n) z.lane_numbers) views) e far' in absurd (omega arith)) ∙ old.later k l far';
        rights = same-total (λ (z : View). length z.logs + length z.lane_numbers) views id v u at (λ i. (ap length logs ∙ logged-length r v.logs) i + length (rest i)) ∙ old.rights;
        room = each-mid (λ (l : List Rec). length l ≤ 1000001) before lane (lane ++ r ∷ []) behind (let e = length-append lane (r ∷ []) in omega arith) old.room;
      }

-- a step with no record
pub logs-kept : (lanes : List (List Rec)) (views : List View) (id : ℕ) (v u : View) → Logs lanes views → get_elem? views id ≡ some v → u.logs ≡ v.logs → u.lane_numbers ≡ v.lane_numbers → Logs lanes (set views id u)
logs-kept lanes views id v u old at logs rest =
    let rests : (k : ℕ) → sum_over (λ (z : View). many (is_number k) z.lane_numbers) (set views id u) ≡ sum_over (λ (z : View). many (is_number k) z.lane_numbers) views = (λ k. same-total (λ (z : View). many (is_number k) z.lane_numbers) views id v u at (ap (many (is_number k)) rest)) in record {
      count = old.count;
      own = fits-set (λ z. Each (λ (g : SeatLog). get_elem? lanes g.number ≡ some g.recs) z.logs) (λ z. Each (λ (g : SeatLog). get_elem? lanes g.number ≡ some g.recs) z.logs) views id u (λ j w ne there o. o) (rw logs (old.own id v at)) old.own;
      once = λ k l. let o = old.once k l in let s = same-total (λ (z : View). many (is_log k) z.logs) views id v u at (ap (many (is_log k)) logs) in rw (s, rests k) o;
      later = λ k l far. old.later k l (rw (sym (rests k)) far);
      rights = same-total (λ (z : View). length z.logs + length z.lane_numbers) views id v u at (λ i. length (logs i) + length (rest i)) ∙ old.rights;
      room = old.room;
    }

-- The last-in posts and takes among a view's records stay, and its records grow
pub record Quiet (v u : View) : Type 0 where
  pub lifos : (a : ℕ) → records (is_lifo a) u.logs ≡ records (is_lifo a) v.logs
  pub takes : (a : ℕ) → records (is_take_of a) u.logs ≡ records (is_take_of a) v.logs
  pub longer : sum_over (λ (g : SeatLog). length g.recs) v.logs ≤ sum_over (λ (g : SeatLog). length g.recs) u.logs

logs-longer : (r : Rec) (gs : List SeatLog) → sum_over (λ (g : SeatLog). length g.recs) gs ≤ sum_over (λ (g : SeatLog). length g.recs) (logged r gs)
logs-longer r [] = omega arith
logs-longer r (g ∷ gs) = omega (arith, length-append g.recs (r ∷ []))

-- what a record adds to a count of records
pub records-logged : (t : Rec → Bool) (r : Rec) (gs : List SeatLog) → 0 < length gs → records t (logged r gs) ≡ records t gs + cond (t r) 1 0
records-logged t r [] pos = absurd (omega arith)
records-logged t r (g ∷ gs) pos = let m = many-snoc t g.recs r in omega arith

records-quiet : (t : Rec → Bool) (r : Rec) (gs : List SeatLog) → t r ≡ false → records t (logged r gs) ≡ records t gs
records-quiet t r [] off = refl
records-quiet t r (g ∷ gs) off = let m = many-snoc t g.recs r in let z = ap (λ (b : Bool). cond {A = ℕ} b 1 0) off in omega arith

pub quiet-same : (v u : View) → u.logs ≡ v.logs → Quiet v u
quiet-same v u e = record { lifos = λ a. ap (records (is_lifo a)) e; takes = λ a. ap (records (is_take_of a)) e; longer = rw e (omega arith) }

-- a record that is neither
pub quiet-noted : (r : Rec) (i : Item) (v u : View) → item_of r ≡ i → ((a : ℕ) → lifo_on a i.of i.body ≡ false) → ((a : ℕ) → took_on a i.of i.body ≡ false) → u.logs ≡ logged r v.logs → Quiet v u
quiet-noted r i v u is no_lifo no_take e = record {
  lifos = λ a. ap (records (is_lifo a)) e ∙ records-quiet (is_lifo a) r v.logs (ap (λ (x : Item). lifo_on a x.of x.body) is ∙ no_lifo a);
  takes = λ a. ap (records (is_take_of a)) e ∙ records-quiet (is_take_of a) r v.logs (ap (λ (x : Item). took_on a x.of x.body) is ∙ no_take a);
  longer = rw e (logs-longer r v.logs);
}

-- a lane may hold what it likes
pub idle-set : (views : List View) (id : ℕ) (u : View) → AllIdle views → (length u.logs + length u.lane_numbers ≡ 0 → Idle u) → AllIdle (set views id u)
idle-set views id u all mine = fits-set (λ z. length z.logs + length z.lane_numbers ≡ 0 → Idle z) (λ z. length z.logs + length z.lane_numbers ≡ 0 → Idle z) views id u (λ j w ne there o. o) mine all

abbrev pub SawFrom : List ℕ → Was → Glance → Type 0
SawFrom words was g = (g.word < 4488) × (mark_in g.word g.value ≤ mark_in g.word (get_or words g.word 0)) × (g.value ≡ was g.word (mark_in g.word g.value))

-- what was seen, after a word below 4488 was written with more operations, and seen so
pub seen-drawn : (words : List ℕ) (views : List View) (was : Was) (id : ℕ) (v u : View) (w n : ℕ) → Seen words views was → get_elem? views id ≡ some v → w < 4488 → w < length words → mark_in w (get_or words w 0) < mark_in w n
    → u.seen ≡ v.seen ++ record { word = w; value = n } ∷ [] → Seen (set words w n) (set views id u) (at_two w (mark_in w n) n was)
seen-drawn words views was id v u w n old at low inside more seen =
    let new : Was = at_two w (mark_in w n) n was in
    let w_is : get_or (set words w n) w 0 ≡ n = get_or-set_same words w n 0 inside in
    let keep : (g : Glance) → SawFrom words was g → SawFrom (set words w n) new g = (λ g s. dite (ℕ_discrete g.word w)
    (λ e. let m : mark_in g.word g.value < mark_in w n = (let t : mark_in g.word (get_or words g.word 0) ≡ mark_in w (get_or words w 0) = ap (λ (x : ℕ). mark_in x (get_or words x 0)) e in let s1 = s.1 in omega arith) in
    let there : mark_in g.word (get_or (set words w n) g.word 0) ≡ mark_in w n = ap (λ (x : ℕ). mark_in x (get_or (set words w n) x 0)) e ∙ ap (mark_in w) w_is in
    (s.0, rw there (omega arith), s.2 ∙ sym (two-else w (mark_in w n) n was g.word (mark_in g.word g.value) (inr (λ z. omega arith)))))
    (λ ne. (s.0, rw (get_or-set_other words w g.word n 0 ne) s.1, s.2 ∙ sym (two-else w (mark_in w n) n was g.word (mark_in g.word g.value) (inl ne))))) in record {
      now = λ x l. dite (ℕ_discrete x w)
          (λ e. subst (λ (z : ℕ). get_or (set words w n) z 0 ≡ new z (mark_in z (get_or (set words w n) z 0))) (sym e) (rw w_is (sym (two-here w (mark_in w n) n was))))
          (λ ne. rw (get_or-set_other words w x n 0 ne) (old.now x l ∙ sym (two-else w (mark_in w n) n was x (mark_in x (get_or words x 0)) (inl ne))));
      each = fits-set (λ z. Each (SawFrom words was) z.seen) (λ z. Each (SawFrom (set words w n) new) z.seen) views id u
          (λ j z ne there o. each-map (SawFrom words was) (SawFrom (set words w n) new) keep z.seen o)
          (subst (Each (SawFrom (set words w n) new)) (sym seen) (each-snoc (SawFrom (set words w n) new) v.seen (record { word = w; value = n }) (each-map (SawFrom words was) (SawFrom (set words w n) new) keep v.seen (old.each id v at))
          (low, rw w_is (omega arith), sym (two-here w (mark_in w n) n was))))
          old.each;
    }

-- after a look
pub seen-looked : (words after : List ℕ) (views : List View) (was : Was) (id : ℕ) (v u : View) (w n : ℕ) → Seen words views was → get_elem? views id ≡ some v → w < 4488 → ((x : ℕ) → x < 4488 → get_or after x 0 ≡ get_or words x 0) → n ≡ get_or words w 0
    → u.seen ≡ v.seen ++ record { word = w; value = n } ∷ [] → Seen after (set views id u) was
seen-looked words after views was id v u w n old at low stay is seen =
    let keep : (g : Glance) → SawFrom words was g → SawFrom after was g = (λ g s. (s.0, rw (stay g.word s.0) s.1, s.2)) in record {
      now = λ x l. rw (stay x l) (old.now x l);
      each = fits-set (λ z. Each (SawFrom words was) z.seen) (λ z. Each (SawFrom after was) z.seen) views id u
          (λ j z ne there o. each-map (SawFrom words was) (SawFrom after was) keep z.seen o)
          (subst (Each (SawFrom after was)) (sym seen) (each-snoc (SawFrom after was) v.seen (record { word = w; value = n }) (each-map (SawFrom words was) (SawFrom after was) keep v.seen (old.each id v at))
          (low, rw (stay w low, is) (omega arith), is ∙ (old.now w low ∙ ap (λ (x : ℕ). was w (mark_in w x)) (sym is)))))
          old.each;
    }

-- after a step that sees no word with a number
pub seen-kept : (words after : List ℕ) (views : List View) (was : Was) (id : ℕ) (v u : View) → Seen words views was → get_elem? views id ≡ some v → ((x : ℕ) → x < 4488 → get_or after x 0 ≡ get_or words x 0)
    → u.seen ≡ v.seen → Seen after (set views id u) was
seen-kept words after views was id v u old at stay seen =
    let keep : (g : Glance) → SawFrom words was g → SawFrom after was g = (λ g s. (s.0, rw (stay g.word s.0) s.1, s.2)) in record {
      now = λ x l. rw (stay x l) (old.now x l);
      each = fits-set (λ z. Each (SawFrom words was) z.seen) (λ z. Each (SawFrom after was) z.seen) views id u
          (λ j z ne there o. each-map (SawFrom words was) (SawFrom after was) keep z.seen o)
          (subst (Each (SawFrom after was)) (sym seen) (each-map (SawFrom words was) (SawFrom after was) keep v.seen (old.each id v at)))
          old.each;
    }
