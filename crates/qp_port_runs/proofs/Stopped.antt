-- A run in which a lane has stopped doesn't end quietly, where no lane handed in 7.
use Rattle.std.proofs.Common.{◌≡◌, ◌++◌, inl, inr, ℕ, zero, suc, ◌<◌, ◌==◌, nat_lt, Bool, true, false, ◌&&◌, ◌||◌, List, [], ◌∷◌, length, map, Some, slice_get, unwrap_or, cond, refl, sym, ◌∙◌, ap, subst, arith}
use Rattle.std.specs.List.{list_all, list_any, AllByRecursion}
use Rattle.std.proofs.lemmas.Bool.{and_parts}
use Rattle.std.proofs.lemmas.Bool.Decides.{nat_tests}
use Rattle.qp_chart.specs.StateTree.{has}
use Rattle.qp_model.specs.declared.record.Rec.{Rec}
use Rattle.qp_model.specs.declared.bodies.Body.{Body}
use Rattle.qp_model.specs.declared.bodies.Body.TheVariants.{NoEntry, NoBlock, Armed, BadTicks, NoLifo, Spent, Spill}
use Rattle.qp_model.specs.declared.journals.Journal.{Journal}
use Rattle.qp_model.specs.declared.systems.System.{System}
use Rattle.qp_model.specs.Ends.{is_assert, is_end, quiet}
use Rattle.qp_model.specs.History.{all_items, lane_items}
use Rattle.qp_model.specs.Home.{lane_at}
use Rattle.qp_model.specs.Lawful.{facts_of}
use Rattle.qp_model.specs.Record.{Item}
use Rattle.qp_model.specs.Told.{ToldItem}
use Rattle.qp_calls.specs.LaneLaws.{HasCauses, is_caused}
use Rattle.qp_calls.specs.LaneView.{LaneView}
use Rattle.qp_calls.specs.Notes.{last_code, stop_code}
use Rattle.qp_plain_sound.proofs.ViewLemmas.{any-told}
use Rattle.qp_port_phases.specs.Stopping.{AnyStopped, HasStopped}
use Rattle.qp_port_lanes.specs.Answers.{IsFed}
use Rattle.qp_port_law.specs.Sealed.{IsLaneAt, SealsLanes}
use Rattle.qp_shared.specs.declared.lane.SharedLane.{SharedLane}
use Rattle.qp_shared.specs.Lane.{lane_view}
use Rattle.qp_shared.specs.LaneLaws.{has-causes}
use Rattle.qp_model.proofs.LineLemmas.{same_number}

-- a record with a code ends its lane
ends-by : (b : Body) (code : ℕ) → nat_lt 0 code ≡ true → (stop_code b == code) ≡ true → is_end b ≡ true
ends-by (NoEntry a f l m) code more h = refl
ends-by (NoBlock p n free) code more h = refl
ends-by (Armed t n c) code more h = refl
ends-by (BadTicks t n i) code more h = refl
ends-by (NoLifo a f l m) code more h = refl
ends-by Spent code more h = refl
ends-by (Spill n) code more h = refl
ends-by _ code more h = absurd (let a : 0 < code = grind (arith, nat_tests, more) in let b : 0 ≡ code = grind (arith, nat_tests, h) in omega (arith, a, b))

any-more : {A : Type 0} (p q : A → Bool) (xs : List A) → ((x : A) → p x ≡ true → q x ≡ true) → list_any p xs ≡ true → list_any q xs ≡ true
any-more p q [] f h = h
any-more p q (x ∷ xs) f h = by (p x) (q x) (f x) (any-more p q xs f) h
  where
    by : (a b : Bool) → (a ≡ true → b ≡ true) → (list_any p xs ≡ true → list_any q xs ≡ true) → (a || list_any p xs) ≡ true → (b || list_any q xs) ≡ true
    by a true one rest h = refl
    by true false one rest h = absurd (let wrong : false ≡ true = one refl in cc)
    by false false one rest h = rest h

any-front : {A : Type 0} (p : A → Bool) (xs ys : List A) → list_any p xs ≡ true → list_any p (xs ++ ys) ≡ true
any-front p [] ys h = absurd (cc)
any-front p (x ∷ xs) ys h = by (p x) (any-front p xs ys) h
  where
    by : (a : Bool) → (list_any p xs ≡ true → list_any p (xs ++ ys) ≡ true) → (a || list_any p xs) ≡ true → (a || list_any p (xs ++ ys)) ≡ true
    by true rest h = refl
    by false rest h = rest h

any-back : {A : Type 0} (p : A → Bool) (xs ys : List A) → list_any p ys ≡ true → list_any p (xs ++ ys) ≡ true
any-back p [] ys h = h
any-back p (x ∷ xs) ys h = by (p x) (any-back p xs ys h)
  where
    by : (a : Bool) → list_any p (xs ++ ys) ≡ true → (a || list_any p (xs ++ ys)) ≡ true
    by true h = refl
    by false h = h

any-lane : (p : Item → Bool) (lanes : List (List Rec)) (n : ℕ) → list_any p (lane_items (unwrap_or (slice_get lanes n) [])) ≡ true → list_any p (all_items lanes) ≡ true
unfolding all_items lane_items
any-lane p [] zero h = h
any-lane p [] (suc n) h = h
any-lane p (lane ∷ lanes) zero h = any-front p (lane_items lane) (all_items lanes) h
any-lane p (lane ∷ lanes) (suc n) h = any-back p (lane_items lane) (all_items lanes) (any-lane p lanes n h)

-- a lane that has stopped stands somewhere
stopped-at : (vs : List LaneView) → AnyStopped vs → (n : ℕ) × (v : LaneView) × IsLaneAt vs n v × HasStopped v
stopped-at [] h = absurd h
stopped-at (v ∷ vs) (inl one) = (0, v, refl, one)
stopped-at (v ∷ vs) (inr rest) = let r = stopped-at vs rest in (suc r.0, r.1, r.2, r.3)

all-at : (P : LaneView → Type 0) (vs : List LaneView) (n : ℕ) (v : LaneView) → AllByRecursion P vs → IsLaneAt vs n v → P v
all-at P [] zero v all at = absurd (cc)
all-at P [] (suc n) v all at = absurd (cc)
all-at P (w ∷ vs) zero v all at = let same : w ≡ v = some-same at in subst P same all.0
  where
    some-same : {x y : LaneView} → Some x ≡ Some y → x ≡ y
    some-same h = ap (λ o. unwrap_or o w) h
all-at P (w ∷ vs) (suc n) v all at = all-at P vs n v all.1 at

-- what holds of all codes holds of one
holds-of : (p : ℕ → Bool) (xs : List ℕ) (x : ℕ) → list_all p xs ≡ true → has xs x ≡ true → p x ≡ true
holds-of p [] x all h = absurd (cc)
holds-of p (y ∷ xs) x all h = let parts = and_parts (p y) (list_all p xs) all in by (y == x) refl parts.0 (holds-of p xs x parts.1) h
  where
    by : (b : Bool) → (y == x) ≡ b → p y ≡ true → (has xs x ≡ true → p x ≡ true) → (b || has xs x) ≡ true → p x ≡ true
    by true is one rest h = let same : y ≡ x = grind (arith, nat_tests, is) in subst (λ z. p z ≡ true) same one
    by false is one rest h = rest h

module _ (sys : System) (kernel budget : ℕ) (vs : List LaneView) (j : Journal) (seals : SealsLanes sys kernel budget vs j) where
  -- some lane handed in a code
  handed-in : AnyStopped vs → (m code : ℕ) × (u : LaneView) × IsLaneAt vs m u × (has u.stops code ≡ true)
  handed-in any = let r = stopped-at vs any in by r.0 r.1 r.2 r.3
    where
      found : (n : ℕ) (v : LaneView) (codes : List ℕ) → IsLaneAt vs n v → v.answered ≡ codes → 0 < length codes → (m code : ℕ) × (u : LaneView) × IsLaneAt vs m u × (has u.stops code ≡ true)
      found n v [] at is some = absurd (omega (arith, some))
      found n v (c ∷ codes) at is some =
          let its : has v.answered c ≡ true = subst (λ xs. has xs c ≡ true) (sym is) (ap (λ b. b || has codes c) (same_number c)) in
          let r = seals.handed n c v at its in (r.0, c, r.1, r.2, r.3)

      by : (n : ℕ) (v : LaneView) → IsLaneAt vs n v → HasStopped v → (m code : ℕ) × (u : LaneView) × IsLaneAt vs m u × (has u.stops code ≡ true)
      by n v at (inl h) = (n, last_code v.told, v, at, subst (λ xs. has xs (last_code v.told) ≡ true) (sym h.stops) (ap (λ b. b || has h.others (last_code v.told)) (same_number (last_code v.told))))
      by n v at (inr some) = found n v v.answered at refl some

  -- and its record ends the run
  pub not-quiet : AllByRecursion HasCauses vs → AllByRecursion IsFed vs → AnyStopped vs → (j.end == quiet) ≡ false
  not-quiet causes fed any =
      let r = handed-in any in
      let u = r.2 in
      let caused = holds-of (is_caused u.told) u.stops r.1 (all-at HasCauses vs r.0 u causes r.3) r.4 in
      let none = all-at IsFed vs r.0 u fed r.3 in
      let parts = by u r.1 (r.1 == 7) refl r.4 none caused in
      let rest = and_parts (nat_lt 0 r.1) (list_any (λ t. stop_code t.told.body == r.1) u.told) parts in
      let ends : list_any (λ t. is_end t.told.body) u.told ≡ true = any-more (λ t. stop_code t.told.body == r.1) (λ t. is_end t.told.body) u.told (λ t. ends-by t.told.body r.1 rest.0) rest.1 in
      let there = sym (any-told is_end (facts_of sys j) 0 (lane_items (lane_at j r.0))) ∙ ap (list_any (λ (t : ToldItem). is_end t.told.body)) (seals.told r.0 u r.3) ∙ ends in
      let all = any-lane (λ i. is_end i.body) j.lanes r.0 there in
      last (list_any (λ i. is_assert i.body) (all_items j.lanes)) (list_any (λ i. is_end i.body) (all_items j.lanes)) all seals.stated
    where
      by : (u : LaneView) (code : ℕ) (b : Bool) → (code == 7) ≡ b → has u.stops code ≡ true → has u.stops 7 ≡ false → (b || (nat_lt 0 code && list_any (λ t. stop_code t.told.body == code) u.told)) ≡ true → (nat_lt 0 code && list_any (λ t. stop_code t.told.body == code) u.told) ≡ true
      by u code true is here none h = absurd (let same : code ≡ 7 = grind (arith, nat_tests, is) in let both : has u.stops 7 ≡ true = subst (λ c. has u.stops c ≡ true) same here in cc)
      by u code false is here none h = h

      last : (a e : Bool) → e ≡ true → (j.end == cond a 3 (cond e 4 0)) ≡ true → (j.end == quiet) ≡ false
      last true e is h = let same : j.end ≡ 3 = grind (arith, nat_tests, h) in subst (λ n. (n == 0) ≡ false) (sym same) refl
      last false true is h = let same : j.end ≡ 4 = grind (arith, nat_tests, h) in subst (λ n. (n == 0) ≡ false) (sym same) refl
      last false false is h = absurd (cc)

pub all-caused : (ls : List SharedLane) → AllByRecursion HasCauses (map lane_view ls)
all-caused [] = tt
all-caused (l ∷ ls) = (has-causes l, all-caused ls)

-- an end that isn't quiet, by another word for it
pub loud : (a b : ℕ) → a ≡ b → (b == 0) ≡ false → a ≡ 0 → ⊥
loud a b same never is = let zero : b ≡ 0 = sym same ∙ is in let test : (b == 0) ≡ true = subst (λ n. (n == 0) ≡ true) (sym zero) refl in absurd (cc)
