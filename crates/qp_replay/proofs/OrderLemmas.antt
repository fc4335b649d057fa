-- An order so far, and one record more in it.
use Rattle.std.proofs.Common.{◌≡◌, ◌≢◌, ◌∙◌, ℕ, zero, suc, ◌+◌, ◌-◌, ◌≤◌, ◌<◌, ◌==◌, nat_lt, Bool, true, false, ◌&&◌, Some, List, [], ◌∷◌, ◌++◌, length, get_or, set, take, replicate, Contains, IsTrue, ◌⊎◌, ⊎_elim, inl, inr, refl, sym, ap, subst, arith, add-one, append_assoc, append-nil, get_or-set_same, get_or-set_other, length-set}
use Rattle.std.specs.Prelude.{slice_get, IsPermutation}
use Rattle.std.proofs.lemmas.Bool.{cases_eq, cases_lt, lt-ltb}
use Rattle.std.proofs.lemmas.Bool.Decides.{nat_tests}
use Rattle.std.proofs.lemmas.List.{take_all}
use Rattle.std.proofs.lemmas.List.Elements.{Contains-append_left, Contains-push, Contains-push_cases}
use Rattle.std.proofs.lemmas.List.Sorted.{IsPermutation-append_right, IsPermutation-cons, IsPermutation-middle, IsPermutation-refl, IsPermutation-sym, IsPermutation-to_front, IsPermutation-trans}
use Rattle.std.proofs.lemmas.Option.{get_or_from_slice_get, slice_get_within}
use Rattle.qp_model.specs.declared.record.Rec.{Rec}
use Rattle.qp_model.specs.History.{Touch, Draws, Shows, Neither, same_word}
use Rattle.qp_model.specs.Places.{RecordPlace, item_at, must_precede, places, places_from, places_in, touch_at, touch_first}
use Rattle.qp_replay.specs.Orders.{GoesNext, GoesNextEach, IsLowestOrder, IsUnblocked, is_record}
use Rattle.qp_replay.specs.Remaining.{Blocks, HasNext, MayGo, LaneFronts, front, head, record_place}
use Rattle.qp_replay.proofs.RemainingLemmas.{lane-of, length-fronts, no-front, record-test}

-- the places of the records that stand in the order, lane by lane
unfoldable pub taken : ℕ → List (List Rec) → List ℕ → List RecordPlace
unfolding places_in
taken lane [] fronts = []
taken lane (l ∷ ls) [] = []
taken lane (l ∷ ls) (f ∷ fs) = places_in lane 0 (take f l) ++ taken (suc lane) ls fs

-- how many records don't stand in it
unfoldable pub left : List (List Rec) → List ℕ → ℕ
left [] fronts = 0
left (l ∷ ls) [] = 0
left (l ∷ ls) (f ∷ fs) = (length l - f) + left ls fs

-- with the next record of a lane
abbrev pub passed_on : LaneFronts → ℕ → LaneFronts
passed_on st n = record { lanes = st.lanes; fronts = set st.fronts n (front st n + 1) }

-- The order so far has just the records before the fronts, and keeps all that is asked of an order.
pub record Kept (st : LaneFronts) (order : List RecordPlace) : Type 0 where
  pub each : length st.fronts ≡ length st.lanes
  pub all : IsPermutation (taken 0 st.lanes st.fronts) order
  pub stand : (x : RecordPlace) → Contains order x → IsTrue (is_record st.lanes x) × (x.at < front st x.lane)
  pub passed : (x : RecordPlace) → IsTrue (is_record st.lanes x) → x.at < front st x.lane → Contains order x
  pub lowest : GoesNextEach st.lanes [] order
  pub closed : (x y : RecordPlace) → Contains order y → IsTrue (is_record st.lanes x) → IsTrue (must_precede st.lanes x y) → Contains order x
  pub pairs : (i j : ℕ) (x y : RecordPlace) → slice_get order i ≡ Some x → slice_get order j ≡ Some y → IsTrue (must_precede st.lanes x y) → i < j

-- no record stands before itself
touch-irreflexive : (t : Touch) → touch_first t t ≡ false
touch-irreflexive (Draws v m) = let no : nat_lt m m ≡ false = grind (arith, nat_tests) in rw no (go (same_word v v))
  where
    go : (a : Bool) → (a && false) ≡ false
    go true = refl
    go false = refl
touch-irreflexive (Shows v m) = refl
touch-irreflexive Neither = refl

pub irreflexive : (lanes : List (List Rec)) (x : RecordPlace) → must_precede lanes x x ≡ false
unfolding must_precede
irreflexive lanes x =
    let here : (x.lane == x.lane) ≡ true = grind (arith, nat_tests) in
    let no : nat_lt x.at x.at ≡ false = grind (arith, nat_tests) in
    rw (here, no) (touch-irreflexive (touch_at (item_at lanes x)))

-- in one lane
pub lane-first : (lanes : List (List Rec)) (x y : RecordPlace) → x.lane ≡ y.lane → x.at < y.at → IsTrue (must_precede lanes x y)
unfolding must_precede
lane-first lanes x y same less =
    let here : (x.lane == y.lane) ≡ true = grind (arith, nat_tests) in
    let yes : nat_lt x.at y.at ≡ true = grind (arith, nat_tests) in
    rw (here, yes) refl

pub same-place : (x y : RecordPlace) → x.lane ≡ y.lane → x.at ≡ y.at → x ≡ y
same-place x y l a = λ i. record { lane = l i; at = a i }

-- one place more
slice-last : (order : List RecordPlace) (x a : RecordPlace) (i : ℕ) → slice_get (order ++ x ∷ []) i ≡ Some a → (slice_get order i ≡ Some a) ⊎ ((i ≡ length order) × (a ≡ x))
slice-last [] x a zero h = inr (refl, cc)
slice-last [] x a (suc i) h = absurd (cc h)
slice-last (y ∷ ys) x a zero h = inl h
slice-last (y ∷ ys) x a (suc i) h = ⊎_elim (λ s. inl s) (λ s. inr (ap suc s.0, s.1)) (slice-last ys x a i h)

contains-at : (order : List RecordPlace) (i : ℕ) (x : RecordPlace) → slice_get order i ≡ Some x → Contains order x
contains-at order i x h = (i, slice_get_within order i x h, get_or_from_slice_get order i x x h)

goes-more : (lanes : List (List Rec)) (before xs : List RecordPlace) (x : RecordPlace) → GoesNextEach lanes before xs → GoesNext lanes (before ++ xs) x → GoesNextEach lanes before (xs ++ x ∷ [])
goes-more lanes before [] x on next = (subst (λ l. GoesNext lanes l x) (append-nil before) next, tt)
goes-more lanes before (y ∷ ys) x on next = (on.0, goes-more lanes (before ++ y ∷ []) ys x on.1 (subst (λ l. GoesNext lanes l x) (sym (append_assoc before (y ∷ []) ys)) next))

-- places of a longer front
places-more : (lane at : ℕ) (l : List Rec) (k : ℕ) → k < length l → places_in lane at (take (suc k) l) ≡ places_in lane at (take k l) ++ record_place lane (at + k) ∷ []
unfolding places_in
places-more lane at [] k less = absurd (omega (arith, less))
places-more lane at (r ∷ rs) zero less = ap (λ n. record_place lane n ∷ []) (omega arith)
places-more lane at (r ∷ rs) (suc k) less =
    ap (λ l. record_place lane at ∷ l) (places-more lane (suc at) rs k (omega (arith, less))) ∙ ap (λ n. record_place lane at ∷ (places_in lane (suc at) (take k rs) ++ record_place lane n ∷ [])) (omega arith)

pub taken-more : (lane : ℕ) (lanes : List (List Rec)) (fronts : List ℕ) (n : ℕ) → n < length fronts → get_or fronts n 0 < length (get_or lanes n [])
    → IsPermutation (taken lane lanes (set fronts n (get_or fronts n 0 + 1))) (record_place (lane + n) (get_or fronts n 0) ∷ taken lane lanes fronts)
unfolding taken
taken-more lane [] fronts n within less = absurd (omega (arith, less))
taken-more lane (l ∷ ls) [] n within less = absurd (omega (arith, within))
taken-more lane (l ∷ ls) (f ∷ fs) zero within less =
    let more : places_in lane 0 (take (f + 1) l) ≡ places_in lane 0 (take f l) ++ record_place lane f ∷ [] = rw add-one (places-more lane 0 l f less ∙ ap (λ k. places_in lane 0 (take f l) ++ record_place lane k ∷ []) (omega arith)) in
    let remaining = taken (suc lane) ls fs in
    let P = places_in lane 0 (take f l) in
    let whole : P ++ (record_place lane f ∷ remaining) ≡ places_in lane 0 (take (f + 1) l) ++ remaining = sym (ap (λ (z : List RecordPlace). z ++ remaining) more ∙ append_assoc P (record_place lane f ∷ []) remaining) in
    let at : lane ≡ lane + 0 = omega arith in
    subst (λ (z : List RecordPlace). IsPermutation z (record_place (lane + 0) f ∷ (P ++ remaining))) whole (subst (λ k. IsPermutation (P ++ (record_place lane f ∷ remaining)) (record_place k f ∷ (P ++ remaining))) at (IsPermutation-middle P (record_place lane f) remaining))
taken-more lane (l ∷ ls) (f ∷ fs) (suc n) within less =
    let k = get_or fs n 0 in
    let P = places_in lane 0 (take f l) in
    let T = taken (suc lane) ls fs in
    let at : suc lane + n ≡ lane + suc n = omega arith in
    let more = IsPermutation-trans _ _ _ (IsPermutation-append_right P _ _ (taken-more (suc lane) ls fs n (omega (arith, within)) less)) (IsPermutation-middle P (record_place (suc lane + n) k) T) in
    subst (λ i. IsPermutation (P ++ taken (suc lane) ls (set fs n (k + 1))) (record_place i k ∷ (P ++ T))) at more

-- fewer are left
pub left-less : (lanes : List (List Rec)) (fronts : List ℕ) (n : ℕ) → n < length fronts → get_or fronts n 0 < length (get_or lanes n []) → left lanes (set fronts n (get_or fronts n 0 + 1)) < left lanes fronts
unfolding left
left-less [] fronts n within less = absurd (omega (arith, less))
left-less (l ∷ ls) [] n within less = absurd (omega (arith, within))
left-less (l ∷ ls) (f ∷ fs) zero within less = omega (arith, less)
left-less (l ∷ ls) (f ∷ fs) (suc n) within less = let remaining = left-less ls fs n (omega (arith, within)) less in omega (arith, remaining)

-- at first nothing is taken, and in the end all
pub taken-none : (lane : ℕ) (lanes : List (List Rec)) (size : ℕ) → taken lane lanes (replicate size 0) ≡ []
unfolding taken places_in
taken-none lane [] size = refl
taken-none lane (l ∷ ls) zero = refl
taken-none lane (l ∷ ls) (suc size) = taken-none (suc lane) ls size

pub taken-all : (lane : ℕ) (lanes : List (List Rec)) (fronts : List ℕ) → length fronts ≡ length lanes → ((n : ℕ) → length (get_or lanes n []) ≤ get_or fronts n 0) → taken lane lanes fronts ≡ places_from lane lanes
unfolding taken places_from
taken-all lane [] fronts each all = refl
taken-all lane (l ∷ ls) [] each all = absurd (omega (arith, each))
taken-all lane (l ∷ ls) (f ∷ fs) each all =
    let front : take f l ≡ l = take_all f l (all 0) in
    rw (front, taken-all (suc lane) ls fs (omega (arith, each)) (λ n. all (suc n))) refl

pub nothing-kept : (lanes : List (List Rec)) → Kept (record { lanes = lanes; fronts = replicate (length lanes) 0 }) []
nothing-kept lanes = record {
  each = length-fronts (length lanes);
  all = subst (λ l. IsPermutation l []) (sym (taken-none 0 lanes (length lanes))) (IsPermutation-refl []);
  stand = λ x h. absurd (omega (arith, h.1));
  passed = λ x is less. let none = no-front (length lanes) x.lane in absurd (omega (arith, less, none));
  lowest = tt;
  closed = λ x y h is first. absurd (omega (arith, h.1));
  pairs = λ i j x y a b first. absurd (cc a);
}

module _ (st : LaneFronts) (order : List RecordPlace) (n : ℕ) (kept : Kept st order) (go : MayGo st n) (lowest : (k : ℕ) → k < n → MayGo st k → ⊥) where
  within : (n < length st.lanes) × (front st n < length (get_or st.lanes n []))
  within = lane-of st.lanes n (front st n) go.next

  among : n < length st.fronts
  among = omega (arith, within.0, kept.each)

  front-here : front (passed_on st n) n ≡ front st n + 1
  front-here = let lt = among in rw get_or-set_same

  front-there : (k : ℕ) → k ≢ n → front (passed_on st n) k ≡ front st k
  front-there k ne = rw get_or-set_other

  fresh : Contains order (head st n) → ⊥
  fresh h = let old = (kept.stand (head st n) h).1 in omega (arith, old)

  ready : IsUnblocked st.lanes order (head st n)
  ready x is first = ⊎_elim (λ less. kept.passed x is less) (λ le. absurd (go.free x (record { waits = record { stands = is; behind = le }; first = first }))) (cases_lt x.at (front st x.lane))

  no-lower : (y : RecordPlace) → y.lane < n → IsTrue (is_record st.lanes y) → (Contains order y → ⊥) → IsUnblocked st.lanes order y → ⊥
  no-lower y less is new before = lowest y.lane less (record { next = next; free = free })
    where
      behind : front st y.lane ≤ y.at
      behind = ⊎_elim (λ less. absurd (new (kept.passed y is less))) (λ le. le) (cases_lt y.at (front st y.lane))

      next : HasNext st y.lane
      next =
          let at = (lane-of st.lanes y.lane y.at is).1 in
          let small : nat_lt (front st y.lane) (length (get_or st.lanes y.lane [])) ≡ true = grind (arith, nat_tests, at, behind) in
          record-test st.lanes y.lane (front st y.lane) ∙ small

      free : (x : RecordPlace) → Blocks st y.lane x → ⊥
      free x b = ⊎_elim same apart (cases_eq (front st y.lane) y.at)
        where
          old : Contains order x → ⊥
          old h = let at = (kept.stand x h).1 in let le = b.waits.behind in omega (arith, at, le)

          same : front st y.lane ≡ y.at → ⊥
          same e = old (before x b.waits.stands (subst (λ z. IsTrue (must_precede st.lanes x z)) (same-place (head st y.lane) y refl e) b.first))

          apart : (front st y.lane ≡ y.at → ⊥) → ⊥
          apart ne =
              let less : front st y.lane < y.at = omega (arith, behind, ne) in
              let h = before (head st y.lane) next (lane-first st.lanes (head st y.lane) y refl less) in
              let at = (kept.stand (head st y.lane) h).1 in omega (arith, at)

  goes-next : GoesNext st.lanes order (head st n)
  goes-next = record { stands = go.next; fresh = fresh; ready = ready; lowest = no-lower }

  stand-more : (x : RecordPlace) → Contains (order ++ head st n ∷ []) x → IsTrue (is_record st.lanes x) × (x.at < front (passed_on st n) x.lane)
  stand-more x h = ⊎_elim old new (Contains-push_cases order (head st n) x h)
    where
      old : Contains order x → IsTrue (is_record st.lanes x) × (x.at < front (passed_on st n) x.lane)
      old h = let was = kept.stand x h in (was.0, ⊎_elim (here was.1) (there was.1) (cases_eq x.lane n))
        where
          here : x.at < front st x.lane → x.lane ≡ n → x.at < front (passed_on st n) x.lane
          here less e = subst (λ k. x.at < front (passed_on st n) k) (sym e) (let was : x.at < front st n = subst (λ k. x.at < front st k) e less in let up = front-here in omega (arith, was, up))

          there : x.at < front st x.lane → (x.lane ≡ n → ⊥) → x.at < front (passed_on st n) x.lane
          there less ne = let same = front-there x.lane ne in omega (arith, less, same)

      new : head st n ≡ x → IsTrue (is_record st.lanes x) × (x.at < front (passed_on st n) x.lane)
      new e = subst (λ z. IsTrue (is_record st.lanes z) × (z.at < front (passed_on st n) z.lane)) e (go.next, let up = front-here in omega (arith, up))

  passed-more : (x : RecordPlace) → IsTrue (is_record st.lanes x) → x.at < front (passed_on st n) x.lane → Contains (order ++ head st n ∷ []) x
  passed-more x is less = ⊎_elim here there (cases_eq x.lane n)
    where
      there : (x.lane ≡ n → ⊥) → Contains (order ++ head st n ∷ []) x
      there ne = let same = front-there x.lane ne in Contains-append_left order (head st n ∷ []) x (kept.passed x is (omega (arith, less, same)))

      here : x.lane ≡ n → Contains (order ++ head st n ∷ []) x
      here e =
          let up : front (passed_on st n) x.lane ≡ front st x.lane + 1 = subst (λ k. front (passed_on st n) k ≡ front st k + 1) (sym e) front-here in
          ⊎_elim (λ less. Contains-append_left order (head st n ∷ []) x (kept.passed x is less))
          (λ le. let at : front st n ≡ x.at = subst (λ k. front st k ≡ x.at) e (omega (arith, le, less, up)) in subst (Contains (order ++ head st n ∷ [])) (same-place (head st n) x (sym e) at) (Contains-push order (head st n)))
          (cases_lt x.at (front st x.lane))

  closed-more : (x y : RecordPlace) → Contains (order ++ head st n ∷ []) y → IsTrue (is_record st.lanes x) → IsTrue (must_precede st.lanes x y) → Contains (order ++ head st n ∷ []) x
  closed-more x y h is first =
      Contains-append_left order (head st n ∷ []) x
      (⊎_elim (λ old. kept.closed x y old is first) (λ e. ready x is (subst (λ z. IsTrue (must_precede st.lanes x z)) (sym e) first)) (Contains-push_cases order (head st n) y h))

  pairs-more : (i j : ℕ) (x y : RecordPlace) → slice_get (order ++ head st n ∷ []) i ≡ Some x → slice_get (order ++ head st n ∷ []) j ≡ Some y → IsTrue (must_precede st.lanes x y) → i < j
  pairs-more i j x y a b first = ⊎_elim (λ old. ⊎_elim (both old) (last old) (slice-last order (head st n) y j b)) (λ new. ⊎_elim (before new) (twice new) (slice-last order (head st n) y j b)) (slice-last order (head st n) x i a)
    where
      both : slice_get order i ≡ Some x → slice_get order j ≡ Some y → i < j
      both s t = kept.pairs i j x y s t first

      last : slice_get order i ≡ Some x → (j ≡ length order) × (y ≡ head st n) → i < j
      last s t = let at = slice_get_within order i x s in omega (arith, at, t.0)

      before : (i ≡ length order) × (x ≡ head st n) → slice_get order j ≡ Some y → i < j
      before s t = absurd (fresh (kept.closed (head st n) y (contains-at order j y t) go.next (subst (λ z. IsTrue (must_precede st.lanes z y)) s.1 first)))

      twice : (i ≡ length order) × (x ≡ head st n) → (j ≡ length order) × (y ≡ head st n) → i < j
      twice s t =
          let loop : must_precede st.lanes (head st n) (head st n) ≡ true = subst (λ z. must_precede st.lanes z (head st n) ≡ true) s.1 (subst (λ z. must_precede st.lanes x z ≡ true) t.1 first) in
          let no = irreflexive st.lanes (head st n) in absurd (cc (sym no ∙ loop))

  all-more : IsPermutation (taken 0 st.lanes (passed_on st n).fronts) (order ++ head st n ∷ [])
  all-more =
      let x = head st n in
      let more : IsPermutation (taken 0 st.lanes (passed_on st n).fronts) (x ∷ taken 0 st.lanes st.fronts) = subst (λ k. IsPermutation (taken 0 st.lanes (passed_on st n).fronts) (record_place k (front st n) ∷ taken 0 st.lanes st.fronts)) (omega arith) (taken-more 0 st.lanes st.fronts n among within.1) in
      IsPermutation-trans _ _ _ more (IsPermutation-trans _ _ _ (IsPermutation-cons x _ _ kept.all) (IsPermutation-sym _ _ (IsPermutation-to_front order x)))

  pub kept-more : Kept (passed_on st n) (order ++ head st n ∷ [])
  kept-more = record {
    each = length-set st.fronts n (front st n + 1) ∙ kept.each;
    all = all-more;
    stand = stand-more;
    passed = passed-more;
    lowest = goes-more st.lanes [] order (head st n) kept.lowest goes-next;
    closed = closed-more;
    pairs = pairs-more;
  }

-- fewer records are left behind the next one
pub fewer : (st : LaneFronts) (n : ℕ) → length st.fronts ≡ length st.lanes → HasNext st n → left st.lanes (passed_on st n).fronts < left st.lanes st.fronts
fewer st n each next = let at = lane-of st.lanes n (front st n) next in left-less st.lanes st.fronts n (omega (arith, at.0, each)) at.1

-- an order in which no lane has a record left
module _ (st : LaneFronts) (order : List RecordPlace) (kept : Kept st order) (none : (n : ℕ) → HasNext st n → ⊥) where
  at-end : (n : ℕ) → length (get_or st.lanes n []) ≤ front st n
  at-end n = ⊎_elim (λ less. absurd (none n (record-test st.lanes n (front st n) ∙ lt-ltb (front st n) (length (get_or st.lanes n [])) less))) (λ le. le) (cases_lt (front st n) (length (get_or st.lanes n [])))

  pub has-all : (x : RecordPlace) → IsTrue (is_record st.lanes x) → Contains order x
  has-all x is = let at = (lane-of st.lanes x.lane x.at is).1 in let end = at-end x.lane in kept.passed x is (omega (arith, at, end))

  pub is-order : IsLowestOrder st.lanes order
  unfolding places
  is-order = record {
    all = subst (λ (z : List RecordPlace). IsPermutation z order) (taken-all 0 st.lanes st.fronts kept.each at-end) kept.all;
    before = kept.pairs;
    lowest = kept.lowest;
  }
