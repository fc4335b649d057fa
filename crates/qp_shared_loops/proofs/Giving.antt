-- Looks and tries of a give, the event that is written, and the beginning that is read.
use Rattle.std.proofs.Common.{◌≡◌, ◌≢◌, ℕ, suc, ◌+◌, ◌*◌, ◌/◌, ◌<◌, ◌==◌, ◌&&◌, ◌||◌, nat_lt, List, [], ◌∷◌, ◌++◌, eqb, length, drop, get_or, Bool, true, false, cond, refl, sym, ap, subst, ◌∙◌, arith, add-one, drop-cons, eq-eqb, IsTrue}
use Rattle.std.specs.List.{list_any}
use Rattle.std.proofs.lemmas.Bool.{and_from, or_left, or_right}
use Rattle.std.proofs.lemmas.Bool.{lt-leb}
use Rattle.std.proofs.lemmas.Bool.Decides.{nat_tests}
use Rattle.std.proofs.lemmas.List.Folds.{list_any-append}
use Rattle.std.specs.declared.option.Option.{Option}
use Rattle.std.specs.Option.{unwrap_or}
use Rattle.qp_model.specs.declared.systems.System.{System}
use Rattle.qp_model.specs.declared.words.Word.TheVariants as word
use Rattle.qp_table.specs.Counting.{many, without}
use Rattle.qp_table.specs.Rule.{pool_at, block_at, mark_in, is_spot, is_spot_at, fills_with}
use Rattle.qp_table.specs.After.{glanced, noted, spot, begun_give, fills_for, filled, read_from, SeesMore}
use Rattle.qp_table.specs.declared.view.Fill.{Fill}
use Rattle.qp_table.specs.declared.view.Glance.{Glance}
use Rattle.qp_table.specs.declared.view.View.{View}
use Rattle.qp_table.proofs.Counting.{many-snoc}
use Rattle.qp_table.specs.Asked.{is_asked}
use Rattle.qp_table.proofs.Gaining.{saw-then}
use Rattle.qp_table.specs.Told.{WordTold, FromTold, EyePoolTold, GiveTold, eyed_pool, shortage_rec, free_of}
use Rattle.qp_shared_loops.proofs.Following.{sees-one, sees-then, ahead-then}
use Rattle.qp_shared_loops.specs.Ends.{was_seen_as, seeing, filling, word_without, given_at, LoopGivesBlock, LoopGives}

-- Only what was seen has changed, and of a pool's word x was seen last
pub record PoolSeen (sys : System) (p : ℕ) (v u : View) (x : ℕ) : Type 0 where
  pub is : u ≡ seeing u.seen v
  pub more : SeesMore v.seen u.seen
  pub looked : IsTrue (was_seen_as u.seen (pool_at p) x)
  pub told : WordTold sys (word.Pool p) v u x x

-- a look that shows enough free blocks, and a try that another one came before
module _ (sys : System) (p o : ℕ) (reserve : Option ℕ) where
  eyed-some : (v : View) (x : ℕ) → unwrap_or reserve 0 < free_of x → eyed_pool p o reserve v x ≡ glanced v (pool_at p) x
  eyed-some v x lt = ap (λ (t : Bool). cond {A = View} t (noted v (pool_at p) x (shortage_rec reserve o p x)) (glanced v (pool_at p) x)) (lt-leb _ _ lt)

  seen-here : (xs : List Glance) (x : ℕ) → was_seen_as (xs ++ record { word = pool_at p; value = x } ∷ []) (pool_at p) x ≡ true
  seen-here xs x = list_any-append (λ (g : Glance). eqb g.word (pool_at p) && eqb g.value x) xs (record { word = pool_at p; value = x } ∷ [])
      ∙ or_right (was_seen_as xs (pool_at p) x) _ (or_left (eqb (pool_at p) (pool_at p) && eqb x x) false (and_from (eqb (pool_at p) (pool_at p)) (eqb x x) (eq-eqb (pool_at p) (pool_at p) refl) (eq-eqb x x refl)))

  pub pool-looked : (v u : View) (x : ℕ) → EyePoolTold sys p o reserve v x u → unwrap_or reserve 0 < free_of x → PoolSeen sys p v u x
  pool-looked v u x t enough =
      let is : u ≡ glanced v (pool_at p) x = t.0 ∙ eyed-some v x enough in
      record {
        is = is ∙ ap (λ (z : View). seeing z.seen v) (sym is);
        more = sees-one v u (record { word = pool_at p; value = x }) is;
        looked = ap (λ (z : View). was_seen_as z.seen (pool_at p) x) is ∙ seen-here v.seen x;
        told = t.1;
      }

  pub gives-on : (b sig : ℕ) (pars : List ℕ) (v z u : View) (old new x : ℕ) → PoolSeen sys p v z old → GiveTold sys p o reserve b sig pars z old new x u → x ≢ old → unwrap_or reserve 0 < free_of x
      → PoolSeen sys p v u x × (mark_in (pool_at p) old < mark_in (pool_at p) x)
  gives-on b sig pars v z u old new x seen told other enough =
      let t = told.1 other in let s = pool-looked z u x t.1 enough in (
        record {
          is = s.is ∙ ap (λ (y : View). seeing u.seen y) seen.is;
          more = sees-then v.seen z.seen u.seen seen.more s.more;
          looked = s.looked;
          told = record { found = ahead-then sys (word.Pool p) v z old x seen.told.saw s.told.found; saw = saw-then sys (word.Pool p) v z u old x seen.told.saw s.told.saw };
        },
        t.0,
      )

-- The event words.

value-here : (p b j n : ℕ) → fills_with p b j n (record { pool = p; block = b; place = j; value = n }) ≡ true
value-here p b j n = λ i. ((eq-eqb p p refl i && eq-eqb b b refl i) && eq-eqb j j refl i) && eq-eqb n n refl i

first-left : (p b j n : ℕ) (ns : List ℕ) → 0 < many (fills_with p b j n) (fills_for p b j (n ∷ ns))
first-left p b j n ns = subst (λ (t : Bool). 0 < cond {A = ℕ} t 1 0 + many (fills_with p b j n) (fills_for p b (suc j) ns)) (sym (value-here p b j n)) (omega arith)

first-written : (p b j n : ℕ) (ns : List ℕ) → without (fills_with p b j n) (fills_for p b j (n ∷ ns)) ≡ fills_for p b (suc j) ns
first-written p b j n ns = ap (λ (t : Bool). cond {A = List Fill} t (fills_for p b (suc j) ns) (record { pool = p; block = b; place = j; value = n } ∷ without (fills_with p b j n) (fills_for p b (suc j) ns))) (value-here p b j n)

module _ (p b sig : ℕ) (pars : List ℕ) (v : View) (left : v.fills ≡ fills_for p b 0 (sig ∷ pars)) where
  pub signal-written : (u : View) → u ≡ filled v p b 0 sig → u ≡ filling (fills_for p b (0 + 1) (drop 0 pars)) v
  signal-written u is = is ∙ ap (λ (xs : List Fill). filling xs v) (ap (without (fills_with p b 0 sig)) left ∙ first-written p b 0 sig pars)

module _ (p b k : ℕ) (ns : List ℕ) (n : ℕ) (v u : View) (inside : k < length ns) (n_is : n ≡ get_or ns k 0) (is : u ≡ filling (fills_for p b (k + 1) (drop k ns)) v) where
  left-now : u.fills ≡ fills_for p b (k + 1) (n ∷ drop (suc k) ns)
  left-now = ap (λ (z : View). z.fills) is ∙ ap (fills_for p b (k + 1)) (drop-cons ns k 0 inside ∙ ap (λ y. y ∷ drop (suc k) ns) (sym n_is))

  pub value-left : 0 < many (fills_with p b (k + 1) n) u.fills
  value-left = subst (λ (xs : List Fill). 0 < many (fills_with p b (k + 1) n) xs) (sym left-now) (first-left p b (k + 1) n (drop (suc k) ns))

  pub value-written : (w : View) → w ≡ filled u p b (k + 1) n → w ≡ filling (fills_for p b (k + 1 + 1) (drop (k + 1) ns)) v
  value-written w step =
      step
      ∙ (ap (λ (xs : List Fill). filling xs u) (ap (without (fills_with p b (k + 1) n)) left-now ∙ first-written p b (k + 1) n (drop (suc k) ns))
      ∙ (ap (filling (fills_for p b (suc (k + 1)) (drop (suc k) ns))) is
      ∙ (λ i. filling (fills_for p b (sym (add-one (k + 1)) i) (drop (sym (add-one k) i) ns)) v)))

pub kept-asked : (p b k : ℕ) (sig : ℕ) (ns : List ℕ) (n : ℕ) (fills : List Fill) (v u : View) → n ≡ get_or ns k 0 → u ≡ filling fills v
    → IsTrue (list_any (is_asked p b (suc k) (get_or (sig ∷ ns) (suc k) 0)) v.gives) → IsTrue (list_any (is_asked p b (k + 1) n) u.gives)
kept-asked p b k sig ns n fills v u n_is is h = subst (λ (z : View). IsTrue (list_any (is_asked p b (k + 1) n) z.gives)) (sym is)
    (subst (λ (z : ℕ × ℕ). IsTrue (list_any (is_asked p b z.0 z.1) v.gives)) (λ i. (sym (add-one k) i, sym n_is i)) h)

pub kept-fresh : (p b : ℕ) (fills : List Fill) (v u : View) → u ≡ filling fills v → 0 < many (is_spot p b) v.fresh → 0 < many (is_spot p b) u.fresh
kept-fresh p b fills v u is h = subst (λ (z : View). 0 < many (is_spot p b) z.fresh) (sym is) h

-- The block's own word.

module _ (sys : System) (p o : ℕ) (reserve : Option ℕ) (sig : ℕ) (pars : List ℕ) (v : View) (x b : ℕ) (z : View) (e : LoopGivesBlock sys p o reserve sig pars v x b z) where
  spot-here : (from : ℕ) → is_spot_at p b from (spot p b from) ≡ true
  spot-here from = λ i. (eq-eqb p p refl i && eq-eqb b b refl i) && eq-eqb from from refl i

  begins-there : 0 < many (is_spot_at p b e.from) z.fresh
  begins-there = subst (λ (y : View). 0 < many (is_spot_at p b e.from) y.fresh) (sym e.is)
      (let m = many-snoc (is_spot_at p b e.from) v.fresh (spot p b e.from) in let one : cond {A = ℕ} (is_spot_at p b e.from (spot p b e.from)) 1 0 ≡ 1 = ap (λ (t : Bool). cond {A = ℕ} t 1 0) (spot-here e.from) in omega arith)

  -- the give asks for each word of the event
  pub is-asked : (j : ℕ) → j < length (sig ∷ pars) → IsTrue (list_any (is_asked p b j (get_or (sig ∷ pars) j 0)) z.gives)
  is-asked j inside = subst (λ (y : View). IsTrue (list_any (is_asked p b j (get_or (sig ∷ pars) j 0)) y.gives)) (sym e.is)
      (list_any-append (is_asked p b j (get_or (sig ∷ pars) j 0)) v.gives (begun_give p b (sig ∷ pars) ∷ [])
      ∙ or_right (list_any (is_asked p b j (get_or (sig ∷ pars) j 0)) v.gives) (is_asked p b j (get_or (sig ∷ pars) j 0) (begun_give p b (sig ∷ pars)) || false)
      (or_left (is_asked p b j (get_or (sig ∷ pars) j 0) (begun_give p b (sig ∷ pars))) false
      (and_from ((eqb p p && eqb b b) && nat_lt j (length (sig ∷ pars))) (get_or (sig ∷ pars) j 0 == get_or (sig ∷ pars) j 0)
      (and_from (eqb p p && eqb b b) (nat_lt j (length (sig ∷ pars))) (and_from (eqb p p) (eqb b b) (eq-eqb p p refl) (eq-eqb b b refl)) (grind (arith, nat_tests)))
      (eq-eqb (get_or (sig ∷ pars) j 0) (get_or (sig ∷ pars) j 0) refl))))

  pub is-fresh : 0 < many (is_spot p b) z.fresh
  is-fresh = subst (λ (y : View). 0 < many (is_spot p b) y.fresh) (sym e.is)
      (let m = many-snoc (is_spot p b) v.fresh (spot p b e.from) in let one : cond {A = ℕ} (is_spot p b (spot p b e.from)) 1 0 ≡ 1 = (λ i. cond {A = ℕ} (eq-eqb p p refl i && eq-eqb b b refl i) 1 0) in omega arith)

  kept-told : (fills : List Fill) (n k : ℕ) → WordTold sys (word.Pool p) v z n k → WordTold sys (word.Pool p) v (filling fills z) n k
  kept-told fills n k t = record { found = t.found; saw = record { here = t.saw.here; value = t.saw.value; others = t.saw.others; le = t.saw.le; same = t.saw.same } }

  pub gives-all : (y u : View) (n : ℕ) → y ≡ filling [] z → ((at : ℕ) → 0 < many (is_spot_at p b at) y.fresh → FromTold sys p b at y n u) → LoopGives sys p o reserve sig pars v x b (n / 4294967296) u
  gives-all y u n y_is told =
      let t = told e.from (subst (λ (q : View). 0 < many (is_spot_at p b e.from) q.fresh) (sym y_is) begins-there) in
      let even = t.3 in
      let whole : n ≡ n / 4294967296 * 4294967296 = omega arith in
      record {
        glances = e.glances;
        more = e.more;
        looked = e.looked;
        is =
            t.0
            ∙ (ap (λ (q : View). read_from q (block_at p b) n p b) (y_is ∙ ap (filling []) e.is)
            ∙ (λ i. read_from (filling [] (given_at p o b (sym t.2 i) sig pars (seeing e.glances v) x)) (block_at p b) (whole i) p b));
        enough = e.enough;
        lowest = e.lowest;
        left = e.left;
        counted = e.counted;
        place = e.place;
        mid = y;
        told = subst (λ (q : View). WordTold sys (word.Pool p) v q x (word_without x b)) (sym y_is) (kept-told [] x (word_without x b) e.told);
        shown = subst (λ k. WordTold sys (word.Block p b) y u k k) whole t.1;
      }
