-- Which fault comes first.
use Rattle.std.proofs.Common.{◌≡◌, ℕ, ◌+◌, ◌<◌, ◌≤◌, Bool, true, false, List, [], ◌∷◌, ◌++◌, length, map, take, drop, get_or, Option, Some, None, Result, Ok, Err, IfErr, refl, sym, ◌∙◌, ap}
use Rattle.std.specs.Option.{option_or, option_and_then}
use Rattle.std.proofs.lemmas.List.{drop_more, at_drop_all, take_more, map-append}
use Rattle.qp_chart_names.specs.declared.fault.ChartFault.{ChartFault}
use Rattle.qp_chart_names.specs.declared.fault.ChartFault.TheVariants.{Memory, At}
use Rattle.qp_chart_names.specs.Faults.{Fault, fault, fault_if, first_in, IsChartFault, first_of}
use Rattle.qp_chart_names.specs.NameFaults.{undeclared, undeclared_key}
use Rattle.qp_chart_names.specs.Pairs.{Corresponds}
use Rattle.qp_chart_names.specs.RawNumbers.{Refers}
use Rattle.qp_chart_names.specs.declared.place.Part.{Part}

-- what is found first is the first fault
pub found-here : (o later : Option Fault) (e : ChartFault) → IsChartFault o e → IsChartFault (option_or o later) e
found-here o later Memory h = tt
found-here o later (At c p) h = rw h refl

-- where nothing is found first, what is found later
pub found-later : (o later : Option Fault) (e : ChartFault) → o ≡ None → IsChartFault later e → IsChartFault (option_or o later) e
found-later o later Memory none h = tt
found-later o later (At c p) none h = rw none h

-- the first of some faults
pub found-first : (o : Option Fault) (os : List (Option Fault)) (e : ChartFault) → IsChartFault o e → IsChartFault (first_of (o ∷ os)) e
unfolding first_of
found-first o os e h = found-here o (first_of os) e h

-- where nothing is found first, what is found later
pub found-next : (o : Option Fault) (os : List (Option Fault)) (e : ChartFault) → o ≡ None → IsChartFault (first_of os) e → IsChartFault (first_of (o ∷ os)) e
unfolding first_of
found-next o os e none h = found-later o (first_of os) e none h

pub none-next : (o : Option Fault) (os : List (Option Fault)) → o ≡ None → first_of os ≡ None → first_of (o ∷ os) ≡ None
unfolding first_of
none-next o os none rest = rw none rest

pub none-last : first_of [] ≡ None
unfolding first_of
none-last = refl

-- a declared name is no fault
pub undeclared-None : {o : Option ℕ} {n : ℕ} (place : List Part) → o ≡ Some n → undeclared o place ≡ None
undeclared-None place e = rw e refl

pub undeclared_key-None : (number : List ℕ → Option ℕ) (key : Option (List ℕ)) (to : Option ℕ) (place : List Part) → Refers number key to → undeclared_key number key place ≡ None
undeclared_key-None number None to place h = refl
undeclared_key-None number (Some name) None place h = absurd h
undeclared_key-None number (Some name) (Some n) place h = undeclared-None place h

-- a test that holds gives its fault, and one that fails none
pub fault_if-true : (test : Bool) (code : ℕ) (path : List Part) (e : ChartFault) → true ≡ test → IsChartFault (fault code path) e → IsChartFault (fault_if test code path) e
fault_if-true test code path e holds h = rw (← holds) h

pub fault_if-false : (test : Bool) (code : ℕ) (path : List Part) → false ≡ test → fault_if test code path ≡ None
fault_if-false test code path fails = rw (← fails) refl

module _ {A : Type 0} (f : ℕ → A → Option Fault) (xs : List A) where
  first_in-next : (i : ℕ) (x : A) → i < length xs → x ≡ get_or xs i x → first_in f (i + 1) (drop i xs) ≡ option_or (f (i + 1) x) (first_in f ((i + 1) + 1) (drop (i + 1) xs))
  unfolding first_in
  first_in-next i x inside is =
      let item : drop i xs ≡ x ∷ drop (i + 1) xs = drop_more xs i x inside ∙ ap (λ y. y ∷ drop (i + 1) xs) (sym is) in
      rw item refl

  -- the things before the i-th have no fault
  abbrev pub Passed : ℕ → Type 0
  Passed i = first_in f 1 xs ≡ first_in f (i + 1) (drop i xs)

  pub passed-none : Passed 0
  passed-none = refl

  pub passed-one : (i : ℕ) (x : A) → Passed i → i < length xs → x ≡ get_or xs i x → f (i + 1) x ≡ None → Passed (i + 1)
  passed-one i x passed inside is none = passed ∙ first_in-next i x inside is ∙ ap (λ o. option_or o (first_in f ((i + 1) + 1) (drop (i + 1) xs))) none

  pub found-at : (i : ℕ) (x : A) (e : ChartFault) → Passed i → i < length xs → x ≡ get_or xs i x → IsChartFault (f (i + 1) x) e → IsChartFault (first_in f 1 xs) e
  found-at i x e passed inside is h = rw (passed ∙ first_in-next i x inside is) (found-here _ _ e h)

  pub passed-all : (i : ℕ) → Passed i → length xs ≤ i → first_in f 1 xs ≡ None
  unfolding first_in
  passed-all i passed end = passed ∙ at_drop_all (first_in f (i + 1)) xs i end

-- one more of each list
pub Corresponds-append : {A B : Type 0} (R : A → B → Type 0) (xs : List A) (ys : List B) (x : A) (y : B) → Corresponds R xs ys → R x y → Corresponds R (xs ++ x ∷ []) (ys ++ y ∷ [])
unfolding Corresponds
Corresponds-append R [] [] x y h r = (r, tt)
Corresponds-append R [] (y' ∷ ys) x y h r = absurd h
Corresponds-append R (x' ∷ xs) [] x y h r = absurd h
Corresponds-append R (x' ∷ xs) (y' ∷ ys) x y h r = (h.0, Corresponds-append R xs ys x y h.1 r)

pub Corresponds-more : {A B : Type 0} (R : A → B → Type 0) (xs : List A) (ys : List B) (i : ℕ) (x : A) (y : B) → i < length xs → x ≡ get_or xs i x → Corresponds R (take i xs) ys → R x y → Corresponds R (take (i + 1) xs) (ys ++ y ∷ [])
Corresponds-more R xs ys i x y inside is h r =
    let item : take (i + 1) xs ≡ take i xs ++ x ∷ [] = take_more xs i x inside ∙ ap (λ z. take i xs ++ z ∷ []) (sym is) in
    rw item (Corresponds-append R (take i xs) ys x y h r)

pub Corresponds-none : {A B : Type 0} (R : A → B → Type 0) → Corresponds R [] []
unfolding Corresponds
Corresponds-none R = tt

-- one more of each list, where the first list is read off another
pub Corresponds-map : {X A B : Type 0} (f : X → A) (R : A → B → Type 0) (xs : List X) (ys : List B) (i : ℕ) (x : X) (y : B)
    → i < length xs → x ≡ get_or xs i x → Corresponds R (map f (take i xs)) ys → R (f x) y → Corresponds R (map f (take (i + 1) xs)) (ys ++ y ∷ [])
Corresponds-map f R xs ys i x y inside is h r =
    let item : take (i + 1) xs ≡ take i xs ++ x ∷ [] = take_more xs i x inside ∙ ap (λ z. take i xs ++ z ∷ []) (sym is) in
    let items : map f (take (i + 1) xs) ≡ map f (take i xs) ++ f x ∷ [] = ap (map f) item ∙ map-append f (take i xs) (x ∷ []) in
    rw items (Corresponds-append R (map f (take i xs)) ys (f x) y h r)

-- what a refusal says, and what follows from it
pub IfErr-weaker : {T E : Type 0} (r : Result T E) (P Q : E → Type 0) → ((e : E) → P e → Q e) → IfErr r P → IfErr r Q
IfErr-weaker (Ok x) P Q h p = tt
IfErr-weaker (Err e) P Q h p = h e p

-- what an optional key names
pub Refers-is : (number : List ℕ → Option ℕ) (key : Option (List ℕ)) (to : Option ℕ) → Refers number key to → option_and_then (λ (name : (List ℕ)). number name) key ≡ to
Refers-is number None None h = refl
Refers-is number None (Some n) h = absurd h
Refers-is number (Some name) None h = absurd h
Refers-is number (Some name) (Some n) h = h

-- one more of a list that is read off another
pub map-more : {X A : Type 0} (f : X → A) (xs : List X) (ys : List A) (i : ℕ) (x : X) (y : A) → i < length xs → x ≡ get_or xs i x → ys ≡ map f (take i xs) → y ≡ f x → ys ++ y ∷ [] ≡ map f (take (i + 1) xs)
map-more f xs ys i x y inside is so_far this =
    let item : take (i + 1) xs ≡ take i xs ++ x ∷ [] = take_more xs i x inside ∙ ap (λ z. take i xs ++ z ∷ []) (sym is) in
    let items : map f (take (i + 1) xs) ≡ map f (take i xs) ++ f x ∷ [] = ap (map f) item ∙ map-append f (take i xs) (x ∷ []) in
    rw (items, so_far, this) refl
