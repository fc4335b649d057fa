-- A lane that has a glance more, and one that has a record more.
use Rattle.std.proofs.Common.{◌≡◌, ℕ, ◌≤◌, List, [], ◌∷◌, ◌++◌, Bool, true, false, cond, refl, sym, ap, subst, ◌∙◌, arith, eqb, ltb, eqb-true, eq-eqb, lt-ltb, IsTrue, if◌then◌else◌}
use mathlib.Core.Logic.{dite}
use native.Mathlib.Decide.{ℕ_discrete}
use Rattle.std.specs.Prelude.{Some, None}
use Rattle.std.proofs.lemmas.List.{map-append}
use Rattle.qp_model.specs.declared.systems.System.{System}
use Rattle.qp_model.specs.declared.words.Word.{Word}
use Rattle.qp_model.specs.declared.words.Word.TheVariants as word
use Rattle.qp_model.specs.Told.{ToldItem}
use Rattle.qp_model.specs.History.{same_word}
use Rattle.qp_table.specs.Rule.{mark_in, Fitting}
use Rattle.qp_table.specs.declared.view.Glance.{Glance}
use Rattle.qp_table.specs.declared.view.View.{View}
use Rattle.qp_calls.specs.LaneView.{Shown, first_shown, mark_or, mark_by, mark_after, placed_by}
use Rattle.qp_calls.proofs.Advancing.{between-one}
use Rattle.qp_calls.proofs.HandLemmas.{hands-append}
use Rattle.qp_calls.proofs.Growing.{own-append}
use Rattle.qp_table.specs.Words.{place_of, is_here, first_value, later, latest, value_seen, mark_seen, shown_seen, as_shown, Ahead}
use Rattle.qp_table.specs.Lane.{lane_of, lane_mark}
use Rattle.qp_table.specs.Telling.{Saw, Touches, TouchesTwo, is_on_table}
use Rattle.qp_table.specs.ViewLaws.{SeenWordsRise, SideWordsRise, RecordsGain, GivesGain, LooksShow}
use Rattle.qp_table.proofs.Places.{apart, same-itself, same-is, latest-more}

pub bool-dec : (b : Bool) {P : Type 0} → (b ≡ true → P) → (b ≡ false → P) → P
bool-dec true t f = t refl
bool-dec false t f = f refl

pub later-here : (w y x : ℕ) → mark_in w y ≤ mark_in w x → (mark_in w y ≡ mark_in w x → y ≡ x) → later w y x ≡ x
later-here w y x le same = go (ltb (mark_in w y) (mark_in w x)) refl
  where
    go : (t : Bool) → ltb (mark_in w y) (mark_in w x) ≡ t → cond {A = ℕ} t x y ≡ x
    go true e = refl
    go false e = dite (ℕ_discrete (mark_in w y) (mark_in w x)) same (λ ne. let t : ltb (mark_in w y) (mark_in w x) ≡ true = lt-ltb (mark_in w y) (mark_in w x) (omega arith) in absurd (cc))

-- a glance more
pub glance-saw : (sys : System) (w : Word) (v u : View) (x : ℕ) → Fitting sys → IsTrue (is_here sys w) → u.seen ≡ v.seen ++ record { word = place_of w; value = x } ∷ [] → Ahead sys w v x → Saw sys w v u x
unfolding value_seen
glance-saw sys w v u x fits here seen ahead = record {
  here = here;
  value =
      ap (latest (place_of w) (first_value sys w)) seen
      ∙ (latest-more (place_of w) (first_value sys w) v.seen (record { word = place_of w; value = x })
      ∙ (ap (λ (t : Bool). cond {A = ℕ} t (later (place_of w) (latest (place_of w) (first_value sys w) v.seen) x) (latest (place_of w) (first_value sys w) v.seen)) (eq-eqb (place_of w) (place_of w) refl)
      ∙ later-here (place_of w) (value_seen sys w v.seen) x ahead.le ahead.same));
  others = λ y there other.
      ap (latest (place_of y) (first_value sys y)) seen
      ∙ (latest-more (place_of y) (first_value sys y) v.seen (record { word = place_of w; value = x })
      ∙ go y there other (eqb (place_of w) (place_of y)) refl);
  le = ahead.le;
  same = ahead.same;
}
  where
    go : (y : Word) → IsTrue (is_here sys y) → same_word w y ≡ false → (t : Bool) → eqb (place_of w) (place_of y) ≡ t → cond {A = ℕ} t (later (place_of y) (latest (place_of y) (first_value sys y) v.seen) x) (latest (place_of y) (first_value sys y) v.seen) ≡ latest (place_of y) (first_value sys y) v.seen
    go y there other true e = let is : w ≡ y = apart sys fits w y here there (eqb-true (place_of w) (place_of y) e) in
        let t : same_word w y ≡ true = ap (same_word w) (sym is) ∙ same-itself w in absurd (cc)
    go y there other false e = refl

-- one glance after another at the same word
pub saw-then : (sys : System) (w : Word) (v u z : View) (x y : ℕ) → Saw sys w v u x → Saw sys w u z y → Saw sys w v z y
saw-then sys w v u z x y a b =
    let le : mark_in (place_of w) x ≤ mark_in (place_of w) y = subst (λ n. mark_in (place_of w) n ≤ mark_in (place_of w) y) a.value b.le in
    let le' = a.le in record {
      here = a.here;
      value = b.value;
      others = λ k there other. b.others k there other ∙ a.others k there other;
      le = omega arith;
      same = λ e. let s : mark_in (place_of w) (value_seen sys w v.seen) ≡ mark_in (place_of w) x = omega arith in a.same s ∙ (sym a.value ∙ b.same (ap (mark_in (place_of w)) (a.value ∙ sym (a.same s)) ∙ e));
    }

module _ (sys : System) (w : Word) (v u : View) (x : ℕ) (saw : Saw sys w v u x) where
  pub mark-here : mark_seen sys u.seen w ≡ mark_in (place_of w) x
  unfolding mark_seen
  mark-here = ap (λ (t : Bool). cond {A = ℕ} t (mark_in (place_of w) (value_seen sys w u.seen)) 0) saw.here ∙ ap (mark_in (place_of w)) saw.value

  pub mark-was : mark_seen sys v.seen w ≡ mark_in (place_of w) (value_seen sys w v.seen)
  unfolding mark_seen
  mark-was = ap (λ (t : Bool). cond {A = ℕ} t (mark_in (place_of w) (value_seen sys w v.seen)) 0) saw.here

  pub shown-here : shown_seen sys u.seen w ≡ as_shown w x
  unfolding shown_seen
  shown-here = ap (λ (t : Bool). cond {A = Shown} t (as_shown w (value_seen sys w u.seen)) (first_shown sys w)) saw.here ∙ ap (as_shown w) saw.value

  shown-was : shown_seen sys v.seen w ≡ as_shown w (value_seen sys w v.seen)
  unfolding shown_seen
  shown-was = ap (λ (t : Bool). cond {A = Shown} t (as_shown w (value_seen sys w v.seen)) (first_shown sys w)) saw.here

  pub mark-else : (y : Word) → same_word w y ≡ false → mark_seen sys u.seen y ≡ mark_seen sys v.seen y
  unfolding mark_seen
  mark-else y other = go (is_here sys y) refl
    where
      go : (t : Bool) → is_here sys y ≡ t → cond {A = ℕ} t (mark_in (place_of y) (value_seen sys y u.seen)) 0 ≡ cond {A = ℕ} t (mark_in (place_of y) (value_seen sys y v.seen)) 0
      go true e = ap (mark_in (place_of y)) (saw.others y e other)
      go false e = refl

  pub shown-else : (y : Word) → same_word w y ≡ false → shown_seen sys u.seen y ≡ shown_seen sys v.seen y
  unfolding shown_seen
  shown-else y other = go (is_here sys y) refl
    where
      go : (t : Bool) → is_here sys y ≡ t → cond {A = Shown} t (as_shown y (value_seen sys y u.seen)) (first_shown sys y) ≡ cond {A = Shown} t (as_shown y (value_seen sys y v.seen)) (first_shown sys y)
      go true e = ap (as_shown y) (saw.others y e other)
      go false e = refl

  pub mark-rises : (y : Word) → mark_seen sys v.seen y ≤ mark_seen sys u.seen y
  mark-rises y = bool-dec (same_word w y)
      (λ is. subst (λ z. mark_seen sys v.seen z ≤ mark_seen sys u.seen z) (same-is w y is) (rw (mark-here, mark-was) saw.le))
      (λ other. let e = mark-else y other in omega arith)

  pub shown-stays : (y : Word) → mark_seen sys u.seen y ≡ mark_seen sys v.seen y → shown_seen sys u.seen y ≡ shown_seen sys v.seen y
  shown-stays y same = bool-dec (same_word w y)
      (λ is. subst (λ z. mark_seen sys u.seen z ≡ mark_seen sys v.seen z → shown_seen sys u.seen z ≡ shown_seen sys v.seen z) (same-is w y is)
      (λ e. shown-here ∙ (ap (as_shown w) (sym (saw.same (sym mark-was ∙ (sym e ∙ mark-here)))) ∙ sym shown-was)) same)
      (λ other. shown-else y other)

-- the marks of all words
mark-is : (sys : System) (seen : List Glance) (side : Word → ℕ) (w : Word) → IsTrue (is_here sys w) → lane_mark sys seen side w ≡ mark_seen sys seen w
mark-is sys seen side (word.Pool p) h = refl
mark-is sys seen side (word.Block p b) h = refl
mark-is sys seen side (word.Queue a) h = refl
mark-is sys seen side (word.Signal s) h = absurd (cc)
mark-is sys seen side (word.Timer t) h = absurd (cc)

pub saw-rises : SeenWordsRise
unfolding shown_seen
saw-rises sys side w v u x saw = (
  record {
    here = mark-is sys u.seen side w saw.here ∙ mark-here sys w v u x saw;
    rise = rise;
    others = others;
    shown = stays;
  },
  shown-here sys w v u x saw,
)
  where
    rise : (y : Word) → lane_mark sys v.seen side y ≤ lane_mark sys u.seen side y
    rise (word.Pool p) = mark-rises sys w v u x saw (word.Pool p)
    rise (word.Block p b) = mark-rises sys w v u x saw (word.Block p b)
    rise (word.Queue a) = mark-rises sys w v u x saw (word.Queue a)
    rise (word.Signal s) = omega arith
    rise (word.Timer t) = omega arith

    others : (y : Word) → same_word w y ≡ false → lane_mark sys u.seen side y ≡ lane_mark sys v.seen side y
    others (word.Pool p) other = mark-else sys w v u x saw (word.Pool p) other
    others (word.Block p b) other = mark-else sys w v u x saw (word.Block p b) other
    others (word.Queue a) other = mark-else sys w v u x saw (word.Queue a) other
    others (word.Signal s) other = refl
    others (word.Timer t) other = refl

    stays : (y : Word) → lane_mark sys u.seen side y ≡ lane_mark sys v.seen side y → shown_seen sys u.seen y ≡ shown_seen sys v.seen y
    stays (word.Pool p) e = shown-stays sys w v u x saw (word.Pool p) e
    stays (word.Block p b) e = shown-stays sys w v u x saw (word.Block p b) e
    stays (word.Queue a) e = shown-stays sys w v u x saw (word.Queue a) e
    stays (word.Signal s) e = refl
    stays (word.Timer t) e = refl

pub side-rises : SideWordsRise
side-rises sys v w k old new off is le same = record {
  here = here w off is;
  rise = rise;
  others = others;
  shown = λ y e. refl;
}
  where
    here : (w : Word) → is_on_table w ≡ false → new w ≡ k → lane_mark sys v.seen new w ≡ k
    here (word.Pool p) off e = absurd (cc)
    here (word.Block p b) off e = absurd (cc)
    here (word.Queue a) off e = absurd (cc)
    here (word.Signal s) off e = e
    here (word.Timer t) off e = e

    risen : (y : Word) → old y ≤ new y
    risen y = bool-dec (same_word w y)
        (λ h. subst (λ z. old z ≤ new z) (same-is w y h) (let e = is in omega arith))
        (λ other. let e = same y other in omega arith)

    rise : (y : Word) → lane_mark sys v.seen old y ≤ lane_mark sys v.seen new y
    rise (word.Pool p) = omega arith
    rise (word.Block p b) = omega arith
    rise (word.Queue a) = omega arith
    rise (word.Signal s) = risen (word.Signal s)
    rise (word.Timer t) = risen (word.Timer t)

    others : (y : Word) → same_word w y ≡ false → lane_mark sys v.seen new y ≡ lane_mark sys v.seen old y
    others (word.Pool p) other = refl
    others (word.Block p b) other = refl
    others (word.Queue a) other = refl
    others (word.Signal s) other = same (word.Signal s) other
    others (word.Timer t) other = same (word.Timer t) other

mark-one : (w : Word) (k : ℕ) (t : ToldItem) → Touches w k t → (y : Word) (n : ℕ) → mark_after y n (t ∷ []) ≡ cond (same_word w y) k n
unfolding mark_after mark_by
mark-one w k t touches y n = (λ i. mark_or (mark_or n (touches.marks y i)) (touches.only y i)) ∙ go (same_word w y)
  where
    go : (b : Bool) → mark_or (mark_or n (if b then Some k else None)) None ≡ cond {A = ℕ} b k n
    go true = refl
    go false = refl

mark-two : (w b : Word) (k j : ℕ) (t : ToldItem) → TouchesTwo w k b j t → (y : Word) (n : ℕ) → mark_after y n (t ∷ []) ≡ cond (same_word b y) j (cond (same_word w y) k n)
unfolding mark_after mark_by
mark-two w b k j t touches y n = (λ i. mark_or (mark_or n (touches.marks y i)) (touches.shows y i)) ∙ go (same_word w y) (same_word b y)
  where
    go : (x z : Bool) → mark_or (mark_or n (if x then Some k else None)) (if z then Some j else None) ≡ cond {A = ℕ} z j (cond {A = ℕ} x k n)
    go true true = refl
    go true false = refl
    go false true = refl
    go false false = refl

pub gains : RecordsGain
unfolding lane_of
gains at side told spare more v u w k t r touches keeps = record {
  world = refl;
  sys = refl;
  told = refl;
  by = refl;
  serves = keeps.serves;
  stops = refl;
  answered = refl;
  asked = refl;
  mark = mark_is;
  rise = r.rise;
  between = λ y. between-one y (lane_mark at.sys v.seen at.side y) (lane_mark at.sys u.seen side y) t (mark_is y) (r.rise y);
  shown = r.shown;
  own = λ a. own-append a (record { l = 0; m = 0 }) told (t ∷ []);
  event = keeps.events;
  hands = hands-append [] told (t ∷ []);
  plan = refl;
  happened = refl;
  lane = refl;
  log = map-append (placed_by at.number) told (t ∷ []);
  aside = refl;
}
  where
    mark_is : (y : Word) → lane_mark at.sys u.seen side y ≡ mark_after y (lane_mark at.sys v.seen at.side y) (t ∷ [])
    mark_is y = bool-dec (same_word w y)
        (λ is. subst (λ z. lane_mark at.sys u.seen side z ≡ k) (same-is w y is) r.here ∙ sym (mark-one w k t touches y (lane_mark at.sys v.seen at.side y) ∙ ap (λ (b : Bool). cond {A = ℕ} b k (lane_mark at.sys v.seen at.side y)) is))
        (λ other. r.others y other ∙ sym (mark-one w k t touches y (lane_mark at.sys v.seen at.side y) ∙ ap (λ (b : Bool). cond {A = ℕ} b k (lane_mark at.sys v.seen at.side y)) other))

pub gains-two : GivesGain
unfolding lane_of
gains-two at told spare more v z u w b k j t r q touches keeps = record {
  world = refl;
  sys = refl;
  told = refl;
  by = refl;
  serves = keeps.serves;
  stops = refl;
  answered = refl;
  asked = refl;
  mark = mark_is;
  rise = risen;
  between = λ y. between-one y (lane_mark at.sys v.seen at.side y) (lane_mark at.sys u.seen at.side y) t (mark_is y) (risen y);
  shown = λ y e. let a = r.rise y in let c = q.rise y in q.shown y (omega arith) ∙ r.shown y (omega arith);
  own = λ a. own-append a (record { l = 0; m = 0 }) told (t ∷ []);
  event = keeps.events;
  hands = hands-append [] told (t ∷ []);
  plan = refl;
  happened = refl;
  lane = refl;
  log = map-append (placed_by at.number) told (t ∷ []);
  aside = refl;
}
  where
    after_two : (y : Word) → mark_after y (lane_mark at.sys v.seen at.side y) (t ∷ []) ≡ cond (same_word b y) j (cond (same_word w y) k (lane_mark at.sys v.seen at.side y))
    after_two y = mark-two w b k j t touches y (lane_mark at.sys v.seen at.side y)

    risen : (y : Word) → lane_mark at.sys v.seen at.side y ≤ lane_mark at.sys u.seen at.side y
    risen y = let a = r.rise y in let c = q.rise y in omega arith

    mark_is : (y : Word) → lane_mark at.sys u.seen at.side y ≡ mark_after y (lane_mark at.sys v.seen at.side y) (t ∷ [])
    mark_is y = bool-dec (same_word b y)
        (λ is. subst (λ c. lane_mark at.sys u.seen at.side c ≡ j) (same-is b y is) q.here ∙ sym (after_two y ∙ ap (λ (c : Bool). cond {A = ℕ} c j (cond {A = ℕ} (same_word w y) k (lane_mark at.sys v.seen at.side y))) is))
        (λ other. q.others y other ∙ (bool-dec (same_word w y)
        (λ is. subst (λ c. lane_mark at.sys z.seen at.side c ≡ k) (same-is w y is) r.here ∙ ap (λ (c : Bool). cond {A = ℕ} c k (lane_mark at.sys v.seen at.side y)) (sym is))
        (λ off. r.others y off ∙ ap (λ (c : Bool). cond {A = ℕ} c k (lane_mark at.sys v.seen at.side y)) (sym off))
        ∙ sym (after_two y ∙ ap (λ (c : Bool). cond {A = ℕ} c j (cond {A = ℕ} (same_word w y) k (lane_mark at.sys v.seen at.side y))) other)))

pub looks : LooksShow
unfolding lane_of
looks at side told spare v u w k x r says keeps = record {
  world = refl;
  sys = refl;
  told = refl;
  spare = refl;
  by = refl;
  serves = keeps.serves;
  stops = refl;
  answered = refl;
  asked = refl;
  here = r.here;
  rise = let a = r.rise w in let e = r.here in omega arith;
  mark = r.others;
  says = says;
  shown = r.shown;
  own = λ a. refl;
  event = keeps.events;
  hands = refl;
  plan = refl;
  happened = refl;
  lane = refl;
  log = refl;
  aside = refl;
}
