-- The number of an object's time event names a time event of the system, and the object's own.
use Rattle.std.proofs.Common.{◌≡◌, ℕ, zero, suc, ◌+◌, ◌-◌, ◌<◌, ◌≤◌, ◌==◌, nat_lt, Bool, true, false, List, [], ◌∷◌, ◌++◌, length, map, get_or, ◌⊎◌, inl, inr, Some, None, refl, sym, ◌∙◌, ap, subst, arith, length-append, ◌/◌, ◌^◌}
use Rattle.std.specs.declared.option.Option.{Option}
use Rattle.std.specs.Option.{option_map, option_map_or}
use Rattle.std.specs.List.{AllByRecursion, count_by, filter, find, flat_map, slice_get}
use Rattle.std.proofs.lemmas.Bool.{lt-ltb, le-ltb}
use Rattle.std.proofs.lemmas.List.Elements.{filter-append}
use Rattle.std.proofs.lemmas.List.Sums.{length-filter}
use Rattle.std.proofs.lemmas.Bool.Decides.{nat_tests}
use Rattle.std.proofs.lemmas.Option.{none-some, same_Some, slice_get-map, slice_get_cases, slice_get_within}
use Rattle.std.proofs.Math.Nat.{pow-succ', mul-div_cancel_left}
use Rattle.qp_chart.specs.declared.checked.Timer.{Timer}
use Rattle.qp_chart.specs.declared.checked.Chart.{Chart}
use Rattle.qp_model.specs.declared.systems.ObjectDef.{ObjectDef}
use Rattle.qp_model.specs.declared.systems.TimerDef.{TimerDef}
use Rattle.qp_model.specs.declared.systems.System.{System}
use Rattle.qp_model.specs.Laws.{Ascend}
use Rattle.qp_model.specs.Parts.{timer_number}
use Rattle.qp_model.specs.Sites.{object_at}
use Rattle.qp_model.specs.Sound.{IsSound, timer_of, timers_of}

-- the number names a time event, and the object's
pub record IsNumberOf (timers : List TimerDef) (o n : ℕ) : Type 0 where
  pub some : 0 < n
  pub few : n ≤ length timers
  pub timer : TimerDef
  pub there : slice_get timers (n - 1) ≡ Some timer
  pub owner : timer.object ≡ o

pub every : {A : Type 0} (P Q : A → Type 0) → ((x : A) → P x → Q x) → (xs : List A) → AllByRecursion P xs → AllByRecursion Q xs
every P Q step [] h = tt
every P Q step (x ∷ xs) h = (step x h.0, every P Q step xs h.1)

pub every-append : {A : Type 0} (P : A → Type 0) (xs ys : List A) → AllByRecursion P xs → AllByRecursion P ys → AllByRecursion P (xs ++ ys)
every-append P [] ys h k = k
every-append P (x ∷ xs) ys h k = (h.0, every-append P xs ys h.1 k)

pub count-append : {A : Type 0} (p : A → Bool) (xs ys : List A) → count_by p (xs ++ ys) ≡ count_by p xs + count_by p ys
count-append p xs ys =
    let parts : length (filter p (xs ++ ys)) ≡ length (filter p xs ++ filter p ys) = ap length (filter-append p xs ys) in
    omega (arith, parts, length-append (filter p xs) (filter p ys), length-filter p (xs ++ ys), length-filter p xs, length-filter p ys)

filter-all : {A : Type 0} (p : A → Bool) (xs : List A) → AllByRecursion (λ x. p x ≡ true) xs → filter p xs ≡ xs
filter-all p [] h = refl
filter-all p (x ∷ xs) h = rw h.0 (ap (λ ys. x ∷ ys) (filter-all p xs h.1))

filter-none : {A : Type 0} (p : A → Bool) (xs : List A) → AllByRecursion (λ x. p x ≡ false) xs → filter p xs ≡ []
filter-none p [] h = refl
filter-none p (x ∷ xs) h = rw h.0 (filter-none p xs h.1)

count-all : {A : Type 0} (p : A → Bool) (xs : List A) → AllByRecursion (λ x. p x ≡ true) xs → count_by p xs ≡ length xs
count-all p xs h = sym (length-filter p xs) ∙ ap length (filter-all p xs h)

count-none : {A : Type 0} (p : A → Bool) (xs : List A) → AllByRecursion (λ x. p x ≡ false) xs → count_by p xs ≡ 0
count-none p xs h = sym (length-filter p xs) ∙ ap length (filter-none p xs h)

get-front : {A : Type 0} (xs ys : List A) (i : ℕ) (x : A) → slice_get xs i ≡ Some x → slice_get (xs ++ ys) i ≡ Some x
get-front [] ys i x h = absurd (none-some x h)
get-front (y ∷ xs) ys zero x h = h
get-front (y ∷ xs) ys (suc i) x h = get-front xs ys i x h

get-behind : {A : Type 0} (xs ys : List A) (i : ℕ) → slice_get (xs ++ ys) (length xs + i) ≡ slice_get ys i
get-behind {A} [] ys i = let none : length {A = A} [] + i ≡ i = omega arith in rw none refl
get-behind (x ∷ xs) ys i = let next : length (x ∷ xs) + i ≡ suc (length xs + i) = omega arith in rw next (get-behind xs ys i)

-- the object that is found is one of the list
found-above : (p o : ℕ) (object : ObjectDef) (ds : List ObjectDef) → AllByRecursion (λ d. p < d.priority) ds → find (λ d. d.priority == o) ds ≡ Some object → p < o
found-above p o object [] h found = absurd (none-some object found)
found-above p o object (d ∷ ds) h found = by (found-above p o object ds h.1) (d.priority == o) refl
  where
    by : (find (λ x. x.priority == o) ds ≡ Some object → p < o) → (b : Bool) → (d.priority == o) ≡ b → p < o
    by behind true test = let is : d.priority ≡ o = grind (arith, nat_tests, test) in omega (arith, is, h.0)
    by behind false test = behind (rw test at found)

-- the object that is found has the priority
found-is : (o : ℕ) (object : ObjectDef) (ds : List ObjectDef) → find (λ d. d.priority == o) ds ≡ Some object → object.priority ≡ o
found-is o object [] found = absurd (none-some object found)
found-is o object (d ∷ ds) found = by (found-is o object ds) (d.priority == o) refl
  where
    by : (find (λ x. x.priority == o) ds ≡ Some object → object.priority ≡ o) → (b : Bool) → (d.priority == o) ≡ b → object.priority ≡ o
    by behind true test =
        let same : d ≡ object = same_Some d object (rw test at found) in
        let is : d.priority ≡ o = grind (arith, nat_tests, test) in
        subst (λ x. x.priority ≡ o) same is
    by behind false test = behind (rw test at found)

module _ (charts : List Chart) where
  of-its : (d : ObjectDef) (ts : List Timer) → AllByRecursion (λ t. t.object ≡ d.priority) (map (timer_of d) ts)
  of-its d [] = tt
  of-its d (t ∷ ts) = (refl, of-its d ts)

  -- an object's time events are its own
  its-own : (d : ObjectDef) → AllByRecursion (λ t. t.object ≡ d.priority) (timers_of charts d)
  its-own d = by (slice_get charts (d.chart - 1))
    where
      by : (c : Option Chart) → AllByRecursion (λ t. t.object ≡ d.priority) (option_map_or (λ chart. map (timer_of d) chart.timer) c [])
      by None = tt
      by (Some c) = of-its d c.timer

  -- those of later objects are of later objects
  later : (o : ℕ) (ds : List ObjectDef) → AllByRecursion (λ d. o < d.priority) ds → AllByRecursion (λ t. nat_lt t.object o ≡ false) (flat_map (timers_of charts) ds)
  later o [] h = tt
  later o (d ∷ ds) h =
      every-append (λ t. nat_lt t.object o ≡ false) (timers_of charts d) (flat_map (timers_of charts) ds)
      (every (λ t. t.object ≡ d.priority) (λ t. nat_lt t.object o ≡ false) (λ t is. le-ltb t.object o (omega (arith, is, h.0))) (timers_of charts d) (its-own d))
      (later o ds h.1)

  module _ (o place : ℕ) (object : ObjectDef) (chart : Chart) (timer : Timer) (its : slice_get charts (object.chart - 1) ≡ Some chart) (at : slice_get chart.timer place ≡ Some timer) where
    here : slice_get (timers_of charts object) place ≡ Some (timer_of object timer)
    here = rw its (slice_get-map (timer_of object) chart.timer place ∙ ap (option_map (timer_of object)) at)

    -- before it stand those of the objects before, and of its own those before it
    placed : (ds : List ObjectDef) → Ascend ds → find (λ d. d.priority == o) ds ≡ Some object
        → slice_get (flat_map (timers_of charts) ds) (count_by (λ t. nat_lt t.object o) (flat_map (timers_of charts) ds) + place) ≡ Some (timer_of object timer)
    placed [] h found = absurd (none-some object found)
    placed (d ∷ ds) h found = by (placed ds h.2) (d.priority == o) refl
      where
        first : List TimerDef
        first = timers_of charts d

        rest : List TimerDef
        rest = flat_map (timers_of charts) ds

        both : count_by (λ t. nat_lt t.object o) (first ++ rest) ≡ count_by (λ t. nat_lt t.object o) first + count_by (λ t. nat_lt t.object o) rest
        both = count-append (λ t. nat_lt t.object o) first rest

        by : (find (λ x. x.priority == o) ds ≡ Some object → slice_get rest (count_by (λ t. nat_lt t.object o) rest + place) ≡ Some (timer_of object timer))
            → (b : Bool) → (d.priority == o) ≡ b → slice_get (first ++ rest) (count_by (λ t. nat_lt t.object o) (first ++ rest) + place) ≡ Some (timer_of object timer)
        by after true test =
            let is : d.priority ≡ o = grind (arith, nat_tests, test) in
            let same : d ≡ object = same_Some d object (rw test at found) in
            let own : count_by (λ t. nat_lt t.object o) first ≡ 0 =
            count-none (λ t. nat_lt t.object o) first (every (λ t. t.object ≡ d.priority) (λ t. nat_lt t.object o ≡ false) (λ t e. le-ltb t.object o (omega (arith, e, is))) first (its-own d)) in
            let others : count_by (λ t. nat_lt t.object o) rest ≡ 0 = count-none (λ t. nat_lt t.object o) rest (later o ds (every (λ x. d.priority < x.priority) (λ x. o < x.priority) (λ x e. omega (arith, e, is)) ds h.1)) in
            let none : count_by (λ t. nat_lt t.object o) (first ++ rest) + place ≡ place = omega (arith, both, own, others) in
            rw none (get-front first rest place (timer_of object timer) (subst (λ x. slice_get (timers_of charts x) place ≡ Some (timer_of object timer)) (sym same) here))
        by after false test =
            let before : d.priority < o = found-above d.priority o object ds h.1 (rw test at found) in
            let own : count_by (λ t. nat_lt t.object o) first ≡ length first =
            count-all (λ t. nat_lt t.object o) first (every (λ t. t.object ≡ d.priority) (λ t. nat_lt t.object o ≡ true) (λ t e. lt-ltb t.object o (omega (arith, e, before))) first (its-own d)) in
            let behind : count_by (λ t. nat_lt t.object o) (first ++ rest) + place ≡ length first + (count_by (λ t. nat_lt t.object o) rest + place) = omega (arith, both, own) in
            rw behind (get-behind first rest (count_by (λ t. nat_lt t.object o) rest + place) ∙ after (rw test at found))

-- of a sound system, the number of each place of an object's chart names a time event of the object
pub number-owned : (sys : System) → IsSound sys → (o place : ℕ) (object : ObjectDef) (chart : Chart) → object_at sys o ≡ Some object → slice_get sys.charts (object.chart - 1) ≡ Some chart
    → 1 ≤ place → place ≤ length chart.timer → IsNumberOf sys.timers o (timer_number sys.timers o place)
unfolding object_at timer_number
number-owned sys sound o zero object chart found its some few = absurd (omega (arith, some))
number-owned sys sound o (suc place) object chart found its some few = by (slice_get_cases chart.timer place).1
  where
    index : count_by (λ t. nat_lt t.object o) sys.timers + suc place - 1 ≡ count_by (λ t. nat_lt t.object o) sys.timers + place
    index = omega arith

    by : ((x : Timer) × (place < length chart.timer) × (slice_get chart.timer place ≡ Some x) × (get_or chart.timer place x ≡ x)) ⊎ ((length chart.timer ≤ place) × (slice_get chart.timer place ≡ None)) → IsNumberOf sys.timers o (timer_number sys.timers o (suc place))
    by (inr past) = absurd (omega (arith, few, past.0))
    by (inl (timer, within, at, same)) =
        let there : slice_get sys.timers (count_by (λ t. nat_lt t.object o) sys.timers + place) ≡ Some (timer_of object timer) =
        subst (λ ts. slice_get ts (count_by (λ t. nat_lt t.object o) ts + place) ≡ Some (timer_of object timer)) (sym sound.numbered) (placed sys.charts o place object chart timer its at sys.objects sound.ascend found) in
        let inside = slice_get_within sys.timers (count_by (λ t. nat_lt t.object o) sys.timers + place) (timer_of object timer) there in
        record {
          some = omega arith;
          few = omega (arith, inside);
          timer = timer_of object timer;
          there = rw index there;
          owner = found-is o object sys.objects found;
        }

-- numbers
pub not-zero : (p : ℕ) → 0 < p → (p == 0) ≡ false
not-zero p h = grind (arith, nat_tests)

pub one-more : (m n : ℕ) → nat_lt (1 + m) (suc n) ≡ nat_lt m n
one-more m n = grind (arith, nat_tests)

pub eqb-sym : (m n : ℕ) → (m == n) ≡ (n == m)
eqb-sym m n = go (m == n) refl
  where
    go : (b : Bool) → (m == n) ≡ b → b ≡ (n == m)
    go true e = let f : (n == m) ≡ true = grind (arith, nat_tests) in sym f
    go false e = let f : (n == m) ≡ false = grind (arith, nat_tests) in sym f

-- half of a power of two
pub bit-suc : (k : ℕ) → 2 ^ suc k / 2 ≡ 2 ^ k
bit-suc k = ap (λ n. n / 2) (pow-succ' 2 k) ∙ mul-div_cancel_left (2 ^ k) (omega arith)
