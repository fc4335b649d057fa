-- Which fault comes first.
use Rattle.std.proofs.Common.{◌≡◌, ℕ, ◌+◌, ◌<◌, ◌≤◌, Bool, true, false, List, [], ◌∷◌, ◌++◌, length, map, take, drop, get_or, Some, None, Ok, Err, refl, sym, ◌∙◌, ap}
use Rattle.std.specs.declared.option.Option.{Option}
use Rattle.std.specs.declared.result.Result.{Result}
use Rattle.std.specs.Option.{option_or}
use Rattle.std.proofs.lemmas.List.{drop_more, drop_all, take_more, map-append}
use Rattle.qp_chart_names.specs.declared.place.Part.{Part}
use Rattle.qp_chart_names.specs.Faults.{Fault, fault_if, first_of, first_in}
use Rattle.std.specs.Prelude.{All}
use Rattle.qp_chart_names.specs.declared.raw.RawChart.{RawChart}
use Rattle.qp_chart_names.specs.declared.raw.Names.{Names}
use Rattle.qp_chart_names.specs.Readable.{IsReadable}
use Rattle.qp_system_tables.specs.Few.{IsFewChart}
use Rattle.qp_system_tables.specs.declared.fault.SystemFault.{SystemFault}
use Rattle.qp_system_tables.specs.declared.fault.SystemFault.TheVariants.{Memory, NotToml, At}
use Rattle.qp_chart_names.specs.declared.place.Part.TheVariants.{Key, Pos}
use Rattle.qp_chart_names.specs.Keys.{POOL, SIZE}
use Rattle.qp_chart_names.specs.Codes.{RANGE}
use Rattle.qp_chart_names.proofs.FaultLemmas.{none-next, none-last}
use Rattle.qp_model.specs.declared.systems.PoolDef.{PoolDef}
use Rattle.qp_system.specs.Between.{first_behind, sizes_fault, is_not_above}
use Rattle.qp_system.specs.Passes.{IsFirstFault, Passes}
use Rattle.qp_system_tables.specs.Refused.{fault_at}

-- what is found first is the first fault
pub first-here : (o later : Option Fault) (e : SystemFault) → IsFirstFault o e → IsFirstFault (option_or o later) e
first-here o later Memory h = tt
first-here o later NotToml h = h
first-here o later (At c p) h = rw h refl

-- where nothing is found first, what is found later
pub first-later : (o later : Option Fault) (e : SystemFault) → o ≡ None → IsFirstFault later e → IsFirstFault (option_or o later) e
first-later o later e none h = rw none h

-- the first of some faults
pub first-head : (o : Option Fault) (os : List (Option Fault)) (e : SystemFault) → IsFirstFault o e → IsFirstFault (first_of (o ∷ os)) e
unfolding first_of
first-head o os e h = first-here o (first_of os) e h

pub first-tail : (o : Option Fault) (os : List (Option Fault)) (e : SystemFault) → o ≡ None → IsFirstFault (first_of os) e → IsFirstFault (first_of (o ∷ os)) e
unfolding first_of
first-tail o os e none h = first-later o (first_of os) e none h

-- a test that holds gives its fault, and one that fails none
pub fault_if-holds : (test : Bool) (code : ℕ) (path : List Part) (e : SystemFault) → test ≡ true → e ≡ fault_at code path → IsFirstFault (fault_if test code path) e
fault_if-holds test code path e holds h = rw (h, holds) refl

pub fault_if-fails : (test : Bool) (code : ℕ) (path : List Part) → test ≡ false → fault_if test code path ≡ None
fault_if-fails test code path fails = rw fails refl

module _ {A : Type 0} (f : List A → ℕ → A → Option Fault) (xs : List A) where
  -- what is left from the i-th thing on
  abbrev pub rest : ℕ → Option Fault
  rest i = first_behind f (take i xs) (i + 1) (drop i xs)

  pub rest-next : (i : ℕ) (x : A) → i < length xs → x ≡ get_or xs i x → rest i ≡ option_or (f (take i xs) (i + 1) x) (rest (i + 1))
  unfolding first_behind
  rest-next i x inside is =
      let item : drop i xs ≡ x ∷ drop (i + 1) xs = drop_more xs i x inside ∙ ap (λ y. y ∷ drop (i + 1) xs) (sym is) in
      let front : take (i + 1) xs ≡ take i xs ++ x ∷ [] = take_more xs i x inside ∙ ap (λ z. take i xs ++ z ∷ []) (sym is) in
      rw (item, front) refl

  -- the things before the i-th have no fault
  abbrev pub Clear : ℕ → Type 0
  Clear i = first_behind f [] 1 xs ≡ rest i

  pub clear-none : Clear 0
  clear-none = refl

  pub clear-one : (i : ℕ) (x : A) → Clear i → i < length xs → x ≡ get_or xs i x → f (take i xs) (i + 1) x ≡ None → Clear (i + 1)
  clear-one i x clear inside is none = clear ∙ rest-next i x inside is ∙ ap (λ o. option_or o (rest (i + 1))) none

  pub first-at : (i : ℕ) (x : A) (e : SystemFault) → Clear i → i < length xs → x ≡ get_or xs i x → IsFirstFault (f (take i xs) (i + 1) x) e
      → IsFirstFault (first_behind f [] 1 xs) e
  first-at i x e clear inside is h = rw (clear ∙ rest-next i x inside is) (first-here _ (rest (i + 1)) e h)

  pub clear-all : (i : ℕ) → Clear i → length xs ≤ i → first_behind f [] 1 xs ≡ None
  unfolding first_behind
  clear-all i clear end = clear ∙ ap (λ (l : List A). first_behind f (take i xs) (i + 1) l) (drop_all i xs end)

module _ (xs : List PoolDef) where
  sizes-next : (i : ℕ) (before : Option ℕ) (d : PoolDef) → i < length xs
      → sizes_fault (i + 1) before (drop i xs)
      ≡ option_or (fault_if (is_not_above before (get_or xs i d).size) RANGE (Key POOL ∷ Pos (i + 1) ∷ Key SIZE ∷ [])) (sizes_fault ((i + 1) + 1) (Some (get_or xs i d).size) (drop (i + 1) xs))
  unfolding sizes_fault
  sizes-next i before d inside = let item : drop i xs ≡ get_or xs i d ∷ drop (i + 1) xs = drop_more xs i d inside in rw item refl

  -- a size that is above the one before it
  pub sizes-one : (i : ℕ) (before : Option ℕ) (d : PoolDef) (whole : Option Fault) → whole ≡ sizes_fault (i + 1) before (drop i xs) → i < length xs
      → is_not_above before (get_or xs i d).size ≡ false → whole ≡ sizes_fault ((i + 1) + 1) (Some (get_or xs i d).size) (drop (i + 1) xs)
  sizes-one i before d whole so_far inside above =
      so_far ∙ sizes-next i before d inside
      ∙ ap (λ b. option_or (fault_if b RANGE (Key POOL ∷ Pos (i + 1) ∷ Key SIZE ∷ [])) (sizes_fault ((i + 1) + 1) (Some (get_or xs i d).size) (drop (i + 1) xs))) above

  -- a size that isn't
  pub sizes-at : (i : ℕ) (before : Option ℕ) (d : PoolDef) (whole : Option Fault) (e : SystemFault) → whole ≡ sizes_fault (i + 1) before (drop i xs) → i < length xs
      → is_not_above before (get_or xs i d).size ≡ true → e ≡ fault_at RANGE (Key POOL ∷ Pos (i + 1) ∷ Key SIZE ∷ []) → IsFirstFault whole e
  sizes-at i before d whole e so_far inside not_above h =
      rw (so_far ∙ sizes-next i before d inside) (first-here _ (sizes_fault ((i + 1) + 1) (Some (get_or xs i d).size) (drop (i + 1) xs)) e (fault_if-holds _ _ _ e not_above h))

  pub sizes-all : (i : ℕ) (before : Option ℕ) (whole : Option Fault) → whole ≡ sizes_fault (i + 1) before (drop i xs) → length xs ≤ i → whole ≡ None
  unfolding sizes_fault
  sizes-all i before whole so_far end = so_far ∙ ap (λ (l : List PoolDef). sizes_fault (i + 1) before l) (drop_all i xs end)

-- what is left to pass
pub passes-tail : {X : Type 0} (o : Option Fault) (os : List (Option Fault)) (r : Result X SystemFault) → o ≡ None → Passes (first_of os) r → Passes (first_of (o ∷ os)) r
passes-tail o os (Ok x) none h = none-next o os none h
passes-tail o os (Err e) none h = first-tail o os e none h

pub passes-last : {X : Type 0} (o : Option Fault) (r : Result X SystemFault) → Passes o r → Passes (first_of (o ∷ [])) r
passes-last o (Ok x) h = none-next o [] h none-last
passes-last o (Err e) h = first-head o [] e h

module _ {A : Type 0} (f : ℕ → A → Option Fault) (xs : List A) where
  -- what is left from the i-th thing on, each seen by itself
  abbrev pub left : ℕ → Option Fault
  left i = first_in f (i + 1) (drop i xs)

  left-next : (i : ℕ) (x : A) → i < length xs → x ≡ get_or xs i x → left i ≡ option_or (f (i + 1) x) (left (i + 1))
  unfolding first_in
  left-next i x inside is =
      let item : drop i xs ≡ x ∷ drop (i + 1) xs = drop_more xs i x inside ∙ ap (λ y. y ∷ drop (i + 1) xs) (sym is) in
      rw item refl

  -- the things before the i-th have no fault by themselves
  abbrev pub Passed : ℕ → Type 0
  Passed i = first_in f 1 xs ≡ left i

  pub passed-none : Passed 0
  passed-none = refl

  pub passed-one : (i : ℕ) (x : A) → Passed i → i < length xs → x ≡ get_or xs i x → f (i + 1) x ≡ None → Passed (i + 1)
  passed-one i x passed inside is none = passed ∙ left-next i x inside is ∙ ap (λ o. option_or o (left (i + 1))) none

  pub passed-at : (i : ℕ) (x : A) (e : SystemFault) → Passed i → i < length xs → x ≡ get_or xs i x → IsFirstFault (f (i + 1) x) e → IsFirstFault (first_in f 1 xs) e
  passed-at i x e passed inside is h = rw (passed ∙ left-next i x inside is) (first-here _ (left (i + 1)) e h)

  pub passed-all : (i : ℕ) → Passed i → length xs ≤ i → first_in f 1 xs ≡ None
  unfolding first_in
  passed-all i passed end = passed ∙ ap (λ (l : List A). first_in f (i + 1) l) (drop_all i xs end)

-- one more of a list that is read off another
pub map-more : {X A : Type 0} (f : X → A) (xs : List X) (ys : List A) (i : ℕ) (x : X) → i < length xs → x ≡ get_or xs i x → ys ≡ map f (take i xs) → ys ++ f x ∷ [] ≡ map f (take (i + 1) xs)
map-more f xs ys i x inside is so_far =
    let front : take (i + 1) xs ≡ take i xs ++ x ∷ [] = take_more xs i x inside ∙ ap (λ z. take i xs ++ z ∷ []) (sym is) in
    let fronts : map f (take (i + 1) xs) ≡ map f (take i xs) ++ f x ∷ [] = ap (map f) front ∙ map-append f (take i xs) (x ∷ []) in
    rw (fronts, so_far) refl

-- charts of few members may be checked, whatever they may name outside themselves
readable-one : (names : Names) (c : RawChart) → length names.signals ≤ 200 → length names.objects ≤ 32 → IsFewChart c → IsReadable names c
readable-one names c signals objects h = record { signals = signals; objects = objects; init_do = h.init_do; vars = h.vars; timers = h.timers; states = h.states; each = h.each }

pub readable-all : (names : Names) (cs : List RawChart) → length names.signals ≤ 200 → length names.objects ≤ 32 → All IsFewChart cs → All (IsReadable names) cs
readable-all names cs signals objects h = λ k d inside. readable-one names (get_or cs k d) signals objects (h k d inside)
