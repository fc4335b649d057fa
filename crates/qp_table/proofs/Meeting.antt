-- A lane that has seen what another has.
use Rattle.std.proofs.Common.{◌≡◌, ℕ, ◌<◌, ◌≤◌, max, List, [], ◌∷◌, ◌++◌, Bool, true, false, cond, refl, sym, ap, subst, ◌∙◌, arith, eqb, ltb, ltb-true, ltb-false, lt-ltb, le-ltb, eqb-true, IsTrue}
use Rattle.std.proofs.Math.Nat.{max-eq_left, max-eq_right}
use Rattle.qp_model.specs.declared.systems.System.{System}
use Rattle.qp_model.specs.declared.words.Word.{Word}
use Rattle.qp_model.specs.declared.words.Word.TheVariants as word
use Rattle.qp_table.specs.Rule.{Was, mark_in}
use Rattle.qp_table.specs.declared.view.Glance.{Glance}
use Rattle.qp_calls.specs.LaneView.{Shown, first_shown}
use Rattle.qp_table.specs.Words.{place_of, is_here, first_value, later, latest, value_seen, mark_seen, shown_seen, as_shown}
use Rattle.qp_table.specs.Lane.{lane_of, lane_mark}
use Rattle.qp_table.specs.Telling.{is_on_table, AreOfOne}
use Rattle.qp_table.specs.ViewLaws.{MeetsSeeBoth}

pub both : {P : Type 0} (t : Bool) → (t ≡ true → P) → (t ≡ false → P) → P
both true f g = f refl
both false f g = g refl

-- the later of two values
pick-right : (w x y : ℕ) → mark_in w x < mark_in w y → later w x y ≡ y
pick-right w x y l = ap (λ (t : Bool). cond {A = ℕ} t y x) (lt-ltb (mark_in w x) (mark_in w y) l)

pick-left : (w x y : ℕ) → mark_in w y ≤ mark_in w x → later w x y ≡ x
pick-left w x y l = ap (λ (t : Bool). cond {A = ℕ} t y x) (le-ltb (mark_in w x) (mark_in w y) l)

case : (w x y : ℕ) {P : Type 0} → (mark_in w x < mark_in w y → later w x y ≡ y → P) → (mark_in w y ≤ mark_in w x → later w x y ≡ x → P) → P
case w x y f g = both (ltb (mark_in w x) (mark_in w y))
    (λ e. let l = ltb-true (mark_in w x) (mark_in w y) e in f l (pick-right w x y l))
    (λ e. let l = ltb-false (mark_in w x) (mark_in w y) e in g l (pick-left w x y l))

-- a glance between, from two values of which the second isn't later
later-between : (w a x g l : ℕ) → mark_in w x ≤ mark_in w a → mark_in w x ≤ mark_in w l → later w (later w a g) l ≡ later w a (later w (later w x g) l)
later-between w a x g l le low = case w a g
    (λ ag is_g. case w g l
    (λ gl is_l. ap (λ z. later w z l) is_g ∙ (is_l ∙ sym (ap (later w a) (ap (λ z. later w z l) (pick-right w x g (omega arith)) ∙ is_l) ∙ pick-right w a l (omega arith))))
    (λ lg is_g2. ap (λ z. later w z l) is_g ∙ (is_g2 ∙ sym (ap (later w a) (ap (λ z. later w z l) (pick-right w x g (omega arith)) ∙ is_g2) ∙ is_g))))
    (λ ga is_a. case w x g
    (λ xg is_g. case w g l
    (λ gl is_l. ap (λ z. later w z l) is_a ∙ sym (ap (later w a) (ap (λ z. later w z l) is_g ∙ is_l)))
    (λ lg is_g2. ap (λ z. later w z l) is_a ∙ (pick-left w a l (omega arith) ∙ sym (ap (later w a) (ap (λ z. later w z l) is_g ∙ is_g2) ∙ is_a))))
    (λ gx is_x. case w x l
    (λ xl is_l. ap (λ z. later w z l) is_a ∙ sym (ap (later w a) (ap (λ z. later w z l) is_x ∙ is_l)))
    (λ lx is_x2. ap (λ z. later w z l) is_a ∙ (pick-left w a l (omega arith) ∙ sym (ap (later w a) (ap (λ z. later w z l) is_x ∙ is_x2) ∙ pick-left w a x (omega arith))))))

later-le : (w x y : ℕ) → mark_in w x ≤ mark_in w (later w x y)
later-le w x y = case w x y (λ l is. let e = ap (mark_in w) is in omega arith) (λ l is. let e = ap (mark_in w) is in omega arith)

later-mark : (w x y : ℕ) → mark_in w (later w x y) ≡ max (mark_in w x) (mark_in w y)
later-mark w x y = case w x y (λ l is. ap (mark_in w) is ∙ sym (max-eq_right (let k = l in omega arith))) (λ l is. ap (mark_in w) is ∙ sym (max-eq_left l))

latest-le : (w x : ℕ) (ys : List Glance) → mark_in w x ≤ mark_in w (latest w x ys)
unfolding latest
latest-le w x [] = omega arith
latest-le w x (g ∷ ys) = go (eqb g.word w) (latest-le w (cond (eqb g.word w) (later w x g.value) x) ys)
  where
    go : (t : Bool) → mark_in w (cond {A = ℕ} t (later w x g.value) x) ≤ mark_in w (latest w (cond {A = ℕ} t (later w x g.value) x) ys) → mark_in w x ≤ mark_in w (latest w (cond {A = ℕ} t (later w x g.value) x) ys)
    go true h = let l = later-le w x g.value in omega arith
    go false h = h

-- the latest of glances behind others is the later of both
latest-from : (w a x : ℕ) (ys : List Glance) → mark_in w x ≤ mark_in w a → latest w a ys ≡ later w a (latest w x ys)
unfolding latest
latest-from w a x [] le = sym (pick-left w a x le)
latest-from w a x (g ∷ ys) le = go (eqb g.word w)
    (λ a x le. latest-from w a x ys le)
  where
    go : (t : Bool) → ((a x : ℕ) → mark_in w x ≤ mark_in w a → latest w a ys ≡ later w a (latest w x ys)) → latest w (cond {A = ℕ} t (later w a g.value) a) ys ≡ later w a (latest w (cond {A = ℕ} t (later w x g.value) x) ys)
    go true rest =
        rest (later w a g.value) x (let l = later-le w a g.value in omega arith)
        ∙ (later-between w a x g.value (latest w x ys) le (latest-le w x ys)
        ∙ ap (later w a) (sym (rest (later w x g.value) x (later-le w x g.value))))
    go false rest = rest a x le

latest-append : (w x : ℕ) (xs ys : List Glance) → latest w x (xs ++ ys) ≡ latest w (latest w x xs) ys
unfolding latest
latest-append w x [] ys = refl
latest-append w x (g ∷ xs) ys = latest-append w (cond (eqb g.word w) (later w x g.value) x) xs ys

latest-both : (w x : ℕ) (xs ys : List Glance) → latest w x (xs ++ ys) ≡ later w (latest w x xs) (latest w x ys)
latest-both w x xs ys = latest-append w x xs ys ∙ latest-from w (latest w x xs) x ys (latest-le w x xs)

-- so its mark is the greater of both
pub latest-mark : (w x : ℕ) (xs ys : List Glance) → mark_in w (latest w x (xs ++ ys)) ≡ max (mark_in w (latest w x xs)) (mark_in w (latest w x ys))
latest-mark w x xs ys = ap (mark_in w) (latest-both w x xs ys) ∙ later-mark w (latest w x xs) (latest w x ys)

-- what was seen is what the word was
later-was : (was : Was) (w x y : ℕ) → x ≡ was w (mark_in w x) → y ≡ was w (mark_in w y) → later w x y ≡ was w (mark_in w (later w x y))
later-was was w x y a b = go (ltb (mark_in w x) (mark_in w y))
  where
    go : (t : Bool) → cond {A = ℕ} t y x ≡ was w (mark_in w (cond {A = ℕ} t y x))
    go true = b
    go false = a

latest-was : (was : Was) (w x : ℕ) (ys : List Glance) → AreOfOne was ys → x ≡ was w (mark_in w x) → latest w x ys ≡ was w (mark_in w (latest w x ys))
unfolding latest
latest-was was w x [] all h = h
latest-was was w x (g ∷ ys) all h = go (eqb g.word w) refl (λ x k. latest-was was w x ys all.1 k)
  where
    go : (t : Bool) → eqb g.word w ≡ t → ((x : ℕ) → x ≡ was w (mark_in w x) → latest w x ys ≡ was w (mark_in w (latest w x ys)))
        → latest w (cond {A = ℕ} t (later w x g.value) x) ys ≡ was w (mark_in w (latest w (cond {A = ℕ} t (later w x g.value) x) ys))
    go true is rest = rest (later w x g.value) (later-was was w x g.value h (subst (λ z. g.value ≡ was z (mark_in z g.value)) (eqb-true g.word w is) all.0))
    go false is rest = rest x h

one-front : (was : Was) (xs ys : List Glance) → AreOfOne was (xs ++ ys) → AreOfOne was xs
one-front was [] ys h = tt
one-front was (x ∷ xs) ys h = (h.0, one-front was xs ys h.1)

one-back : (was : Was) (xs ys : List Glance) → AreOfOne was (xs ++ ys) → AreOfOne was ys
one-back was [] ys h = h
one-back was (x ∷ xs) ys h = one-back was xs ys h.1

module _ (sys : System) (xs ys : List Glance) (was : Was) (all : AreOfOne was (xs ++ ys)) (first : (w : Word) → IsTrue (is_here sys w) → first_value sys w ≡ was (place_of w) (mark_in (place_of w) (first_value sys w))) where
  value-both : (w : Word) → value_seen sys w (xs ++ ys) ≡ later (place_of w) (value_seen sys w xs) (value_seen sys w ys)
  unfolding value_seen
  value-both w = latest-both (place_of w) (first_value sys w) xs ys

  value-was : (w : Word) → IsTrue (is_here sys w) → (zs : List Glance) → AreOfOne was zs → value_seen sys w zs ≡ was (place_of w) (mark_in (place_of w) (value_seen sys w zs))
  unfolding value_seen
  value-was w h zs one = latest-was was (place_of w) (first_value sys w) zs one (first w h)

  mark-both : (w : Word) → mark_seen sys (xs ++ ys) w ≡ max (mark_seen sys xs w) (mark_seen sys ys w)
  unfolding mark_seen
  mark-both w = go (is_here sys w)
    where
      go : (t : Bool) → cond {A = ℕ} t (mark_in (place_of w) (value_seen sys w (xs ++ ys))) 0 ≡ max (cond {A = ℕ} t (mark_in (place_of w) (value_seen sys w xs)) 0) (cond {A = ℕ} t (mark_in (place_of w) (value_seen sys w ys)) 0)
      go true = ap (mark_in (place_of w)) (value-both w) ∙ later-mark (place_of w) (value_seen sys w xs) (value_seen sys w ys)
      go false = refl

  -- where the mark is one of theirs, so is what was shown
  shown-mine : (w : Word) → mark_seen sys (xs ++ ys) w ≡ mark_seen sys xs w → shown_seen sys (xs ++ ys) w ≡ shown_seen sys xs w
  unfolding mark_seen shown_seen
  shown-mine w = go (is_here sys w)
    where
      go : (t : Bool) → cond {A = ℕ} t (mark_in (place_of w) (value_seen sys w (xs ++ ys))) 0 ≡ cond {A = ℕ} t (mark_in (place_of w) (value_seen sys w xs)) 0
          → cond {A = Shown} t (as_shown w (value_seen sys w (xs ++ ys))) (first_shown sys w) ≡ cond {A = Shown} t (as_shown w (value_seen sys w xs)) (first_shown sys w)
      go true e = ap (as_shown w) (value-both w ∙ case (place_of w) (value_seen sys w xs) (value_seen sys w ys)
          (λ l is. let k = ap (mark_in (place_of w)) (value-both w ∙ is) in absurd (omega arith))
          (λ l is. is))
      go false e = refl

  shown-theirs : (w : Word) → mark_seen sys (xs ++ ys) w ≡ mark_seen sys ys w → shown_seen sys (xs ++ ys) w ≡ shown_seen sys ys w
  unfolding mark_seen shown_seen
  shown-theirs w = go (is_here sys w) refl
    where
      go : (t : Bool) → is_here sys w ≡ t → cond {A = ℕ} t (mark_in (place_of w) (value_seen sys w (xs ++ ys))) 0 ≡ cond {A = ℕ} t (mark_in (place_of w) (value_seen sys w ys)) 0
          → cond {A = Shown} t (as_shown w (value_seen sys w (xs ++ ys))) (first_shown sys w) ≡ cond {A = Shown} t (as_shown w (value_seen sys w ys)) (first_shown sys w)
      go true here e = ap (as_shown w) (value-was w here (xs ++ ys) all ∙ (ap (was (place_of w)) e ∙ sym (value-was w here ys (one-back was xs ys all))))
      go false here e = refl

pub meets : MeetsSeeBoth
unfolding lane_of shown_seen
meets at other told theirs spare more v u was same all first = record {
  same = refl;
  mark = mark;
  mine = mine;
  theirs = their;
}
  where
    mark : (w : Word) → IsTrue (is_on_table w) → lane_mark at.sys (v.seen ++ u.seen) at.side w ≡ max (lane_mark at.sys v.seen at.side w) (lane_mark other.sys u.seen other.side w)
    mark (word.Pool p) on = mark-both at.sys v.seen u.seen was all first (word.Pool p) ∙ ap (λ s. max (mark_seen at.sys v.seen (word.Pool p)) (mark_seen s u.seen (word.Pool p))) (sym same)
    mark (word.Block p b) on = mark-both at.sys v.seen u.seen was all first (word.Block p b) ∙ ap (λ s. max (mark_seen at.sys v.seen (word.Block p b)) (mark_seen s u.seen (word.Block p b))) (sym same)
    mark (word.Queue a) on = mark-both at.sys v.seen u.seen was all first (word.Queue a) ∙ ap (λ s. max (mark_seen at.sys v.seen (word.Queue a)) (mark_seen s u.seen (word.Queue a))) (sym same)
    mark (word.Signal s) on = absurd (cc)
    mark (word.Timer t) on = absurd (cc)

    mine : (w : Word) → lane_mark at.sys (v.seen ++ u.seen) at.side w ≡ lane_mark at.sys v.seen at.side w → shown_seen at.sys (v.seen ++ u.seen) w ≡ shown_seen at.sys v.seen w
    mine (word.Pool p) e = shown-mine at.sys v.seen u.seen was all first (word.Pool p) e
    mine (word.Block p b) e = shown-mine at.sys v.seen u.seen was all first (word.Block p b) e
    mine (word.Queue a) e = shown-mine at.sys v.seen u.seen was all first (word.Queue a) e
    mine (word.Signal s) e = refl
    mine (word.Timer t) e = refl

    their-of : (w : Word) → mark_seen at.sys (v.seen ++ u.seen) w ≡ mark_seen other.sys u.seen w → shown_seen at.sys (v.seen ++ u.seen) w ≡ shown_seen other.sys u.seen w
    their-of w e = shown-theirs at.sys v.seen u.seen was all first w (e ∙ ap (λ s. mark_seen s u.seen w) same) ∙ ap (λ s. shown_seen s u.seen w) (sym same)

    their : (w : Word) → IsTrue (is_on_table w) → lane_mark at.sys (v.seen ++ u.seen) at.side w ≡ lane_mark other.sys u.seen other.side w → shown_seen at.sys (v.seen ++ u.seen) w ≡ shown_seen other.sys u.seen w
    their (word.Pool p) on e = their-of (word.Pool p) e
    their (word.Block p b) on e = their-of (word.Block p b) e
    their (word.Queue a) on e = their-of (word.Queue a) e
    their (word.Signal s) on e = absurd (cc)
    their (word.Timer t) on e = absurd (cc)
