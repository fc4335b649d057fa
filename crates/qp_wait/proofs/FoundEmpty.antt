-- A queue that was found empty stands so in its lane.
use Rattle.std.proofs.Common.{◌≡◌, ◌⊎◌, ℕ, suc, ◌+◌, ◌≤◌, ◌==◌, Bool, true, false, not, ◌&&◌, List, [], ◌∷◌, length, cond, refl, sym, ◌∙◌, ap, subst, inl, inr, arith, Option, Some, None}
use Rattle.std.specs.List.{cons_option, count_by, filter_map}
use Rattle.std.proofs.lemmas.List.Sums.{sum_by-cons}
use Rattle.std.proofs.lemmas.Bool.{and_from, and_parts, or_parts}
use Rattle.std.proofs.lemmas.Bool.Decides.{nat_tests}
use Rattle.qp_model.specs.declared.bodies.Body.{Body}
use Rattle.qp_model.specs.declared.bodies.Body.TheVariants as body
use Rattle.qp_model.specs.declared.systems.System.{System}
use Rattle.qp_model.specs.Ends.{is_spill}
use Rattle.qp_model.specs.HomeLane.{are_at_home, is_at_home, seen_counts, count_taken}
use Rattle.qp_model.specs.Told.{ToldItem}
use Rattle.qp_model.proofs.AbleLemmas.{some-same}
use Rattle.qp_model_order.specs.SourceRun.{untold_all}
use Rattle.qp_calls.specs.Clauses.{last_nil, nil_by}
use Rattle.qp_calls.specs.LaneLaws.{IsWithinLimit}
use Rattle.qp_calls.specs.LaneView.{Counts, LaneView, NotShown, Shown}
use Rattle.qp_calls.specs.Notes.{spills_told}
use Rattle.qp_port_law.specs.HomeLanes.{LooksOnce, looks_in}
use Rattle.qp_port_lanes.specs.declared.home.Home.{Home}
use Rattle.qp_port_lanes.specs.Turning.{HomeIdles}
use Rattle.qp_wait.specs.Parked.{is_empty_look}
use Rattle.qp_wait.specs.Pausing.{HasLook}

pub same-test : (n m : ℕ) → n ≡ m → (n == m) ≡ true
same-test n m is = grind (arith, nat_tests, is)

counts-f : (g k n f l m : ℕ) → Counts g k n ≡ Counts f l m → (g ≡ f) × (k ≡ l) × (n ≡ m)
counts-f g k n f l m h = (cc, cc, cc)

-- by its last `nil`
nil-first : (p : ℕ) (x : Shown) (o : ℕ) (b : Body) (f l m : ℕ) → f + l ≡ m → nil_by p x o b ≡ Counts f l m → (x ≡ Counts f l m) ⊎ (is_empty_look p o b ≡ true)
nil-first p x o (body.Nil g k n) f l m empty h = by (o == p) refl h
  where
    by : (b : Bool) → (o == p) ≡ b → cond b (Counts g k n) x ≡ Counts f l m → (x ≡ Counts f l m) ⊎ (((o == p) && (g + k == n)) ≡ true)
    by true own here =
        let parts = counts-f g k n f l m here in
        let one = parts.0 in
        let two = parts.1 in
        let three = parts.2 in
        inr (and_from (o == p) (g + k == n) own (same-test (g + k) n (omega (arith, empty, one, two, three))))
    by false own here = inl here
nil-first p x o _ f l m empty h = inl h

pub nil-there : (p : ℕ) (x : Shown) (told : List ToldItem) (f l m : ℕ) → f + l ≡ m → last_nil p x told ≡ Counts f l m → (x ≡ Counts f l m) ⊎ HasLook p told
unfolding last_nil
nil-there p x [] f l m empty h = inl h
nil-there p x (t ∷ told) f l m empty h = by (nil-there p (nil_by p x t.of t.told.body) told f l m empty h)
  where
    one : (x ≡ Counts f l m) ⊎ (is_empty_look p t.of t.told.body ≡ true) → (x ≡ Counts f l m) ⊎ HasLook p (t ∷ told)
    one (inl a) = inl a
    one (inr b) = inr (0, b)

    by : (nil_by p x t.of t.told.body ≡ Counts f l m) ⊎ HasLook p told → (x ≡ Counts f l m) ⊎ HasLook p (t ∷ told)
    by (inl a) = one (nil-first p x t.of t.told.body f l m empty a)
    by (inr b) = inr (suc b.0, b.1)

-- by a look in the place of a take
seen-first : (o : ℕ) (spent cut : Bool) (p : ℕ) (b : Body) (f l m : ℕ) → is_at_home o spent cut p b ≡ true → seen_counts b ≡ Some (f, l, m) → f + l ≡ m → is_empty_look o p b ≡ true
seen-first o spent cut p (body.Seen q g k n) f l m home h empty =
    let parts = and_parts ((p == 0) && (q == o)) spent home in
    let own = (and_parts (p == 0) (q == o) parts.0).1 in
    let same = some-same h in
    let one = ap (λ x. x.0) same in
    let two = ap (λ x. x.1) same in
    let three = ap (λ x. x.2) same in
    and_from (q == o) (g + k == n) own (same-test (g + k) n (omega (arith, empty, one, two, three)))
seen-first o spent cut p _ f l m home h empty = absurd (cc)

pub seen-there : (o budget n : ℕ) (told : List ToldItem) (f l m : ℕ) → are_at_home o budget false n (untold_all told) ≡ true → filter_map (λ i. seen_counts i.body) (untold_all told) ≡ (f, l, m) ∷ [] → f + l ≡ m
    → HasLook o told
unfolding are_at_home
seen-there o budget n [] f l m home h empty = absurd (cc)
seen-there o budget n (t ∷ told) f l m home h empty =
    let parts = and_parts (is_at_home o (n == budget) (false && (length (untold_all told) == 0)) t.of t.told.body) (are_at_home o budget false (count_taken n t.told.body) (untold_all told)) home in
    by (seen_counts t.told.body) refl h parts.0 (seen-there o budget (count_taken n t.told.body) told f l m parts.1)
  where
    by : (x : Option (ℕ × ℕ × ℕ)) → seen_counts t.told.body ≡ x → cons_option x (filter_map (λ i. seen_counts i.body) (untold_all told)) ≡ (f, l, m) ∷ []
        → is_at_home o (n == budget) (false && (length (untold_all told) == 0)) t.of t.told.body ≡ true
        → (filter_map (λ i. seen_counts i.body) (untold_all told) ≡ (f, l, m) ∷ [] → f + l ≡ m → HasLook o told) → HasLook o (t ∷ told)
    by None is all here rest = let later = rest all empty in (suc later.0, later.1)
    by (Some y) is all here rest =
        let first : y ≡ (f, l, m) = cc in
        (0, seen-first o (n == budget) (false && (length (untold_all told) == 0)) t.of t.told.body f l m here (is ∙ ap Some first) empty)

abbrev one_if : Bool → ℕ
one_if b = cond b 1 0

counts-one : (b : Bool) → b ≡ false → one_if (not b) ≡ 1
counts-one b h = rw h refl

-- records without a `spill`
pub calm-count : (told : List ToldItem) → spills_told told ≡ false → count_by (λ t. not (is_spill t.told.body)) told ≡ length told
calm-count [] h = refl
calm-count (t ∷ told) h =
    let parts = or_parts (is_spill t.told.body) (spills_told told) h in
    let apart = parts.0 in
    let rest = calm-count told parts.1 in
    let one = counts-one (is_spill t.told.body) apart in
    let all : count_by (λ u. not (is_spill u.told.body)) (t ∷ told) ≡ one_if (not (is_spill t.told.body)) + count_by (λ u. not (is_spill u.told.body)) told = sum_by-cons (λ u. cond (not (is_spill u.told.body)) 1 0) t told in
    omega (arith, rest, one, all)

module _ (sys : System) (budget : ℕ) (y : Home) (w : LaneView) (h : HomeIdles sys budget y w) where
  -- the lane tells that the queue was found empty
  pub idles-look : HasLook y.me w.told
  idles-look = by y.looked refl
    where
      seen : LooksOnce true (w.own h.home.d.priority) (looks_in w.told) → HasLook y.me w.told
      seen once =
          subst (λ o. HasLook o w.told) (sym h.home.at.me)
          (seen-there h.home.d.priority budget 0 w.told once.0 (w.own h.home.d.priority).l (w.own h.home.d.priority).m h.home.records.0.home once.1 once.2)

      none : (NotShown ≡ Counts h.empty.f h.empty.l h.empty.m) ⊎ HasLook y.me w.told → HasLook y.me w.told
      none (inl a) = absurd (cc)
      none (inr b) = b

      by : (b : Bool) → y.looked ≡ b → HasLook y.me w.told
      by true is = seen (subst (λ b. LooksOnce b (w.own h.home.d.priority) (looks_in w.told)) is h.home.records.0.looks)
      by false is = none (nil-there y.me NotShown w.told h.empty.f h.empty.l h.empty.m h.empty.none (h.told is))

  -- and has no more records than a lane may have without a `spill`
  pub idles-few : IsWithinLimit w → length w.told ≤ 1000000
  idles-few within =
      let all = calm-count w.told h.home.at.spills in
      omega (arith, within, all)
