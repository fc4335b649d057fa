-- How the order of all records and the lanes of the sources grow.
use Rattle.std.proofs.Common.{◌≡◌, ℕ, zero, suc, ◌+◌, ◌-◌, ◌<◌, ◌≤◌, ◌==◌, nat_le, Bool, true, false, ◌&&◌, cond, List, [], ◌∷◌, ◌++◌, map, length, take, drop, refl, sym, ◌∙◌, ap, subst, arith, inl, inr, Option, Some, None, append_assoc, append-nil}
use Rattle.std.specs.List.{count_by, list_all, enumerate_from, find}
use Rattle.std.specs.Option.{option_map, is_some}
use Rattle.std.proofs.lemmas.Bool.{and_from, and_parts}
use Rattle.std.proofs.lemmas.Bool.Decides.{nat_tests}
use Rattle.std.proofs.lemmas.List.{map-append}
use Rattle.std.proofs.lemmas.List.Sums.{sum_by-cons}
use Rattle.qp_model.specs.declared.stimulus.Stim.{Stim}
use Rattle.qp_model.specs.declared.stimulus.Stim.TheVariants as stim
use Rattle.qp_model.specs.declared.systems.System.{System}
use Rattle.qp_model.specs.declared.systems.ObjectDef.{ObjectDef}
use Rattle.qp_model.specs.declared.bodies.Body.TheVariants as body
use Rattle.qp_model.specs.Record.{Item}
use Rattle.qp_model.specs.Told.{Told, plain}
use Rattle.qp_model.specs.Kernels.{sim}
use Rattle.qp_model.specs.Sources.{SourceRuns, AllDone, EndsIn}
use Rattle.qp_model.specs.OneOrder.{Placed, Turn, stim_of, is_stim, begun, acted_last, all_empty, may_act, stimuli_after, turned, acts_next, enters, leaves}
use Rattle.qp_calls.specs.LaneView.{Happening}
use Rattle.qp_model_order.specs.RunOrder.{placed}
use Rattle.qp_model_order.specs.Placing.{all_placed, AreBehind, look_item}
use Rattle.qp_model_order.specs.Stimulus.{source_items}
use Rattle.qp_model_order.proofs.OrderLaws.{stimuli_are_their_own}
use Rattle.qp_model_order.proofs.StimulusForm.{items-append}
use Rattle.qp_kernel.specs.Happenings.{run_order, rises, told_by_source, lanes_from, begun_by, placed_of}
use Rattle.qp_model.proofs.NumberLemmas.{count-append}

-- what a test counts
abbrev pub one : Bool → ℕ
one b = cond b 1 0

pub count-cons : {A : Type 0} (p : A → Bool) (x : A) (xs : List A) → count_by p (x ∷ xs) ≡ cond (p x) 1 0 + count_by p xs
count-cons p x xs = sum_by-cons (λ a. cond (p a) 1 0) x xs

abbrev pub is_stim_told : Told → Bool
is_stim_told t = is_some (stim_of t.body)

-- lane 0 has no part in what a source began
placed-none : (n : ℕ) (is : List Item) → 0 < n → count_by (λ (x : Placed). is_stim x && (x.lane == n)) (all_placed 0 is) ≡ 0
placed-none n [] some = refl
placed-none n (i ∷ is) some =
    let other : (0 == n) ≡ false = grind (arith, nat_tests) in
    let none : (is_some (stim_of i.body) && (0 == n)) ≡ false = rw other (and-false (is_some (stim_of i.body))) in
    let first = count-cons (λ (x : Placed). is_stim x && (x.lane == n)) (record { lane = 0; item = i }) (all_placed 0 is) in
    let here = ap one none in
    let later = placed-none n is some in
    omega (arith, first, here, later)
  where
    and-false : (b : Bool) → (b && false) ≡ false
    and-false true = refl
    and-false false = refl

placed-own : (lane n : ℕ) (g : List Told)
    → count_by (λ (x : Placed). is_stim x && (x.lane == n)) (all_placed lane (source_items g)) ≡ count_by is_stim_told (cond (lane == n) g [])
placed-own lane n g = go (lane == n) refl g
  where
    go : (b : Bool) → (lane == n) ≡ b → (h : List Told) → count_by (λ (x : Placed). is_stim x && (x.lane == n)) (all_placed lane (source_items h)) ≡ count_by is_stim_told (cond b h [])
    go true is [] = refl
    go false is [] = refl
    go true is (t ∷ ts) =
        count-cons (λ (x : Placed). is_stim x && (x.lane == n)) (record { lane = lane; item = record { of = 0; body = t.body } }) (all_placed lane (source_items ts))
        ∙ rw (is, and_from (is_some (stim_of t.body)), go true is ts) (sym (count-cons is_stim_told t ts))
      where
        and_from : (b : Bool) → (b && true) ≡ b
        and_from true = refl
        and_from false = refl
    go false is (t ∷ ts) =
        count-cons (λ (x : Placed). is_stim x && (x.lane == n)) (record { lane = lane; item = record { of = 0; body = t.body } }) (all_placed lane (source_items ts))
        ∙ rw (is, and-false (is_some (stim_of t.body)), go false is ts) refl
      where
        and-false : (b : Bool) → (b && false) ≡ false
        and-false true = refl
        and-false false = refl

-- a source began as many stimuli as its lane has
pub begun-told : (n from : ℕ) (lane : List Item) (hs : List Happening) → 0 < n → begun (run_order from lane hs) n ≡ count_by is_stim_told (told_by_source n hs)
unfolding begun run_order told_by_source
begun-told n from lane [] some = placed-none n lane some
begun-told n from lane (h ∷ hs) some =
    let ahead = all_placed 0 (take (h.at - from) lane) in
    let behind = run_order h.at (drop (h.at - from) lane) hs in
    let p : Placed → Bool = λ x. is_stim x && (x.lane == n) in
    let mine : List Told = cond (h.source == n) h.told [] in
    let none : count_by p ahead ≡ 0 = placed-none n (take (h.at - from) lane) some in
    let own : count_by p (placed_of h) ≡ count_by is_stim_told mine = placed-own h.source n h.told in
    let later : count_by p behind ≡ count_by is_stim_told (told_by_source n hs) = begun-told n h.at (drop (h.at - from) lane) hs some in
    let front : count_by p (ahead ++ placed_of h) ≡ count_by is_stim_told mine = let parts = count-append p ahead (placed_of h) in omega (arith, parts, none, own) in
    let whole : begun (run_order from lane (h ∷ hs)) n ≡ count_by p (ahead ++ placed_of h) + count_by p behind = count-append p (ahead ++ placed_of h) behind in
    whole ∙ rw (front, later) (sym (count-append is_stim_told mine (told_by_source n hs)))

-- the records of a stimulus have no `stim`
none-behind : (g : List Told) → AreBehind false (source_items g) → count_by is_stim_told g ≡ 0
none-behind [] h = refl
none-behind (t ∷ ts) h =
    let first = count-cons is_stim_told t ts in
    let here = ap (λ (o : Option (ℕ × ℕ)). one (is_some o)) h.0 in
    let later = none-behind ts h.2 in
    omega (arith, first, here, later)

-- a source whose lane has done these stimuli has a `stim` of each
pub runs-count : (sys : System) (k : ℕ) (done : List Stim) (g : List Told) → SourceRuns sys sim k done AllDone g → count_by is_stim_told g ≡ length done
unfolding SourceRuns EndsIn
runs-count sys k [] g h = ap (count_by is_stim_told) h.0
runs-count sys k (s ∷ ss) g (inl h) = let wrong = h.1 in absurd (cc)
runs-count sys k (s ∷ ss) g (inr (inl h)) = absurd (never s h.1 h.4)
  where
    never : (s : Stim) (one : List Told) → EndsIn sys sim s AllDone one → ⊥
    never (stim.Post to ev margin reserve) one e = e
    never _ one e = e
runs-count sys k (s ∷ ss) g (inr (inr h)) =
    let one = h.1 in
    let rest = h.2 in
    let none = none-behind one ((stimuli_are_their_own sys s false).0 one h.5).behind in
    let later = runs-count sys (k + 1) ss rest h.6 in
    let first = count-cons is_stim_told (plain (body.Stim k h.0)) (one ++ rest) in
    let both = count-append is_stim_told one rest in
    ap (count_by is_stim_told) h.3 ∙ omega (arith, first, both, none, later)

-- Where happenings stand.

pub rises-most : (n : ℕ) (hs : List Happening) (most : ℕ) → rises n hs most ≡ true → n ≤ most
unfolding rises
rises-most n [] most h = grind (arith, nat_tests, h)
rises-most n (g ∷ hs) most h =
    let parts = and_parts (nat_le n g.at) (rises g.at hs most) h in
    let first : nat_le n g.at ≡ true = parts.0 in
    let later = rises-most g.at hs most parts.1 in
    grind (arith, nat_tests, first, later)

pub rises-more : (n : ℕ) (hs : List Happening) (few most : ℕ) → few ≤ most → rises n hs few ≡ true → rises n hs most ≡ true
unfolding rises
rises-more n [] few most le h = grind (arith, nat_tests, le, h)
rises-more n (g ∷ hs) few most le h =
    let parts = and_parts (nat_le n g.at) (rises g.at hs few) h in
    and_from _ _ parts.0 (rises-more g.at hs few most le parts.1)

pub rises-happens : (n : ℕ) (hs : List Happening) (h : Happening) → rises n hs h.at ≡ true → rises n (hs ++ h ∷ []) h.at ≡ true
unfolding rises
rises-happens n [] h r = let self : nat_le h.at h.at ≡ true = grind (arith, nat_tests) in and_from _ _ r self
rises-happens n (g ∷ hs) h r =
    let parts = and_parts (nat_le n g.at) (rises g.at hs h.at) r in
    and_from _ _ parts.0 (rises-happens g.at hs h parts.1)

take-front : {A : Type 0} (k : ℕ) (xs ys : List A) → k ≤ length xs → take k (xs ++ ys) ≡ take k xs
take-front zero xs ys le = refl
take-front (suc k) [] ys le = absurd (omega (arith, le))
take-front (suc k) (x ∷ xs) ys le = ap (λ zs. x ∷ zs) (take-front k xs ys (omega (arith, le)))

drop-front : {A : Type 0} (k : ℕ) (xs ys : List A) → k ≤ length xs → drop k (xs ++ ys) ≡ drop k xs ++ ys
drop-front zero xs ys le = refl
drop-front (suc k) [] ys le = absurd (omega (arith, le))
drop-front (suc k) (x ∷ xs) ys le = drop-front k xs ys (omega (arith, le))

length-left : {A : Type 0} (k : ℕ) (xs : List A) → k ≤ length xs → k + length (drop k xs) ≡ length xs
length-left zero xs le = omega arith
length-left (suc k) [] le = absurd (omega (arith, le))
length-left (suc k) (x ∷ xs) le = let later = length-left k xs (omega (arith, le)) in omega (arith, later)

take-all_of : {A : Type 0} (xs : List A) → (take (length xs) xs ≡ xs) × (drop (length xs) xs ≡ [])
take-all_of [] = (refl, refl)
take-all_of (x ∷ xs) = let later = take-all_of xs in (ap (λ ys. x ∷ ys) later.0, later.1)

-- records of the lane come to the end of the order
pub order-more : (n : ℕ) (lane is : List Item) (hs : List Happening) → rises n hs (n + length lane) ≡ true
    → run_order n (lane ++ is) hs ≡ run_order n lane hs ++ all_placed 0 is
unfolding run_order rises
order-more n lane is [] r = map-append (placed 0) lane is
order-more n lane is (h ∷ hs) r =
    let parts = and_parts (nat_le n h.at) (rises h.at hs (n + length lane)) r in
    let first : nat_le n h.at ≡ true = parts.0 in
    let most = rises-most h.at hs (n + length lane) parts.1 in
    let ahead : n ≤ h.at = grind (arith, nat_tests, first) in
    let few : h.at - n ≤ length lane = omega (arith, ahead, most) in
    let left = length-left (h.at - n) lane few in
    let same : h.at + length (drop (h.at - n) lane) ≡ n + length lane = omega (arith, ahead, left) in
    let later = order-more h.at (drop (h.at - n) lane) is hs (subst (λ k. rises h.at hs k ≡ true) (sym same) parts.1) in
    let front : List Placed = all_placed 0 (take (h.at - n) lane) ++ placed_of h in
    rw (take-front (h.at - n) lane is few, drop-front (h.at - n) lane is few, later) (sym (append_assoc front (run_order h.at (drop (h.at - n) lane) hs) (all_placed 0 is)))

-- and so does what happens behind all of them
pub order-happens : (n : ℕ) (lane : List Item) (hs : List Happening) (h : Happening) → rises n hs (n + length lane) ≡ true → h.at ≡ n + length lane
    → run_order n lane (hs ++ h ∷ []) ≡ run_order n lane hs ++ placed_of h
unfolding run_order rises
order-happens n lane [] h r at =
    let here : h.at - n ≡ length lane = omega (arith, at) in
    let all = take-all_of lane in
    rw (here, all.0, all.1) (append-nil (all_placed 0 lane ++ placed_of h))
order-happens n lane (g ∷ hs) h r at =
    let parts = and_parts (nat_le n g.at) (rises g.at hs (n + length lane)) r in
    let first : nat_le n g.at ≡ true = parts.0 in
    let most = rises-most g.at hs (n + length lane) parts.1 in
    let ahead : n ≤ g.at = grind (arith, nat_tests, first) in
    let few : g.at - n ≤ length lane = omega (arith, ahead, most) in
    let left = length-left (g.at - n) lane few in
    let same : g.at + length (drop (g.at - n) lane) ≡ n + length lane = omega (arith, ahead, left) in
    let later = order-happens g.at (drop (g.at - n) lane) hs h (subst (λ k. rises g.at hs k ≡ true) (sym same) parts.1) (at ∙ sym same) in
    let front : List Placed = all_placed 0 (take (g.at - n) lane) ++ placed_of g in
    rw later (sym (append_assoc front (run_order g.at (drop (g.at - n) lane) hs) (placed_of h)))

-- The lanes of the sources.

pub told-happens : (n : ℕ) (hs : List Happening) (h : Happening) → told_by_source n (hs ++ h ∷ []) ≡ told_by_source n hs ++ cond (h.source == n) h.told []
unfolding told_by_source
told-happens n [] h = append-nil (cond (h.source == n) h.told [])
told-happens n (g ∷ hs) h = rw (told-happens n hs h) (sym (append_assoc (cond (g.source == n) g.told []) (told_by_source n hs) (cond (h.source == n) h.told [])))

pub begun-happens : (n : ℕ) (hs : List Happening) (h : Happening) → begun_by n (hs ++ h ∷ []) ≡ begun_by n hs + one (h.source == n)
unfolding begun_by
begun-happens n [] h = omega arith
begun-happens n (g ∷ hs) h = let later = begun-happens n hs h in omega (arith, later)

-- the lanes of other sources stay
lanes-other : (n : ℕ) (plan : List (List Stim)) (hs : List Happening) (h : Happening) → h.source < n → lanes_from n plan (hs ++ h ∷ []) ≡ lanes_from n plan hs
unfolding lanes_from
lanes-other n [] hs h lt = refl
lanes-other n (ss ∷ more) hs h lt =
    let other : (h.source == n) ≡ false = grind (arith, nat_tests, lt) in
    let same : told_by_source n (hs ++ h ∷ []) ≡ told_by_source n hs = told-happens n hs h ∙ rw other (append-nil (told_by_source n hs)) in
    rw (same, lanes-other (n + 1) more hs h (omega (arith, lt))) refl

-- The lane of one source grows, and no other.
pub record Grown (n : ℕ) (plan : List (List Stim)) (hs : List Happening) (h : Happening) : Type 0 where
  pub front : List (List Item)
  pub here : List Item
  pub back : List (List Item)
  pub counted : n + length front ≡ h.source
  pub old : lanes_from n plan hs ≡ front ++ here ∷ back
  pub new : lanes_from n plan (hs ++ h ∷ []) ≡ front ++ (here ++ source_items h.told) ∷ back

pub lanes-grow : (n : ℕ) (plan : List (List Stim)) (hs : List Happening) (h : Happening) → n ≤ h.source → h.source < n + length plan → Grown n plan hs h
unfolding lanes_from
lanes-grow n [] hs h le lt = absurd (omega (arith, le, lt))
lanes-grow n (ss ∷ more) hs h le lt = go (h.source == n) refl (λ above. lanes-grow (n + 1) more hs h above (omega (arith, lt)))
  where
    go : (b : Bool) → (h.source == n) ≡ b → (n + 1 ≤ h.source → Grown (n + 1) more hs h) → Grown n (ss ∷ more) hs h
    go true is behind =
        let same : h.source ≡ n = grind (arith, nat_tests, is) in
        let own : source_items (told_by_source n (hs ++ h ∷ [])) ≡ source_items (told_by_source n hs) ++ source_items h.told =
        ap source_items (told-happens n hs h) ∙ rw is (items-append (told_by_source n hs) h.told) in
        record {
          front = [];
          here = source_items (told_by_source n hs);
          back = lanes_from (n + 1) more hs;
          counted = omega (arith, same);
          old = refl;
          new = rw (own, lanes-other (n + 1) more hs h (omega (arith, same))) refl;
        }
    go false is behind =
        let other : n + 1 ≤ h.source = grind (arith, nat_tests, is, le) in
        let later = behind other in
        let same : told_by_source n (hs ++ h ∷ []) ≡ told_by_source n hs = told-happens n hs h ∙ rw is (append-nil (told_by_source n hs)) in
        let counted = later.counted in
        record {
          front = source_items (told_by_source n hs) ∷ later.front;
          here = later.here;
          back = later.back;
          counted = omega (arith, counted);
          old = rw later.old refl;
          new = rw (same, later.new) refl;
        }

-- A look is no matter of which source acts.

left-same : (f g : ℕ → ℕ) → ((n : ℕ) → f n ≡ g n) → (xs : List (ℕ × List Stim))
    → map {B = ℕ × List Stim} (λ x. (x.0, drop (f x.0) x.1)) xs ≡ map {B = ℕ × List Stim} (λ x. (x.0, drop (g x.0) x.1)) xs
left-same f g same [] = refl
left-same f g same (x ∷ xs) = rw (same x.0, left-same f g same xs) refl

abbrev turn_at : ℕ → ℕ → Turn
turn_at source place = record { source = source; place = place }

turn-same : (f g : ℕ → ℕ) → ((n : ℕ) → f n ≡ g n) → (o : Option (ℕ × List Stim))
    → option_map (λ x. turn_at x.0 (f x.0 + 1)) o ≡ option_map (λ x. turn_at x.0 (g x.0 + 1)) o
turn-same f g same None = refl
turn-same f g same (Some x) = rw (same x.0) refl

acted-more : (last : ℕ) (xs : List Placed) (y : Placed) → is_stim y ≡ false → acted_last last (xs ++ y ∷ []) ≡ acted_last last xs
unfolding acted_last
acted-more last [] y none = rw none refl
acted-more last (x ∷ xs) y none = acted-more (cond (is_stim x) x.lane last) xs y none

count-more : (p : Placed → Bool) (xs : List Placed) (y : Placed) → p y ≡ false → count_by p (xs ++ y ∷ []) ≡ count_by p xs
count-more p xs y none =
    let parts = count-append p xs (y ∷ []) in
    let last = count-cons p y [] in
    let none_here = ap one none in
    let nil : count_by p [] ≡ 0 = refl in
    omega (arith, parts, last, none_here, nil)

-- what neither begins a stimulus nor comes to a queue nor leaves it
pub record IsIdleRecord (y : Placed) : Type 0 where
  pub stim : is_stim y ≡ false
  pub enters : (o : ℕ) → enters o y.item ≡ false
  pub leaves : (o : ℕ) → leaves o y.item ≡ false

pub empty-more : (sys : System) (xs : List Placed) (y : Placed) → IsIdleRecord y → all_empty sys (xs ++ y ∷ []) ≡ all_empty sys xs
unfolding all_empty
empty-more sys xs y idle = go sys.objects
  where
    go : (ds : List ObjectDef)
        → list_all (λ d. count_by (λ x. enters d.priority x.item) (xs ++ y ∷ []) == count_by (λ x. leaves d.priority x.item) (xs ++ y ∷ [])) ds
        ≡ list_all (λ d. count_by (λ x. enters d.priority x.item) xs == count_by (λ x. leaves d.priority x.item) xs) ds
    go [] = refl
    go (d ∷ ds) =
        rw (count-more (λ x. enters d.priority x.item) xs y (idle.enters d.priority), count-more (λ x. leaves d.priority x.item) xs y (idle.leaves d.priority), go ds) refl

pub acts-more : (sys : System) (stimuli : List (List Stim)) (xs : List Placed) (y : Placed) (base : Bool) → IsIdleRecord y
    → acts_next sys stimuli (xs ++ y ∷ []) base ≡ acts_next sys stimuli xs base
unfolding acts_next stimuli_after begun
acts-more sys stimuli xs y base idle =
    rw (acted-more 0 xs y idle.stim, empty-more sys xs y idle, left-same (begun (xs ++ y ∷ [])) (begun xs) same (enumerate_from 1 stimuli))
    (turn-same (begun (xs ++ y ∷ [])) (begun xs) same
    (find (λ x. may_act (base && all_empty sys xs) x.1) (turned (acted_last 0 xs) (map {B = ℕ × List Stim} (λ x. (x.0, drop (begun xs x.0) x.1)) (enumerate_from 1 stimuli)))))
  where
    none : (b : Bool) → b ≡ false → (c : Bool) → (b && c) ≡ false
    none false e c = refl
    none true e c = absurd (cc)

    same : (n : ℕ) → begun (xs ++ y ∷ []) n ≡ begun xs n
    same n = count-more (λ x. is_stim x && (x.lane == n)) xs y (none (is_stim y) idle.stim (y.lane == n))

pub look-idle : (lane n floor : ℕ) → IsIdleRecord (placed lane (look_item n floor))
look-idle lane n floor = record { stim = refl; enters = λ o. refl; leaves = λ o. and-none (0 == o) }
  where
    and-none : (b : Bool) → (b && false) ≡ false
    and-none true = refl
    and-none false = refl
