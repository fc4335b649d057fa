-- The source that the order of the records lets act is the one that is chosen by counts.
use Rattle.std.proofs.Common.{◌≡◌, ℕ, zero, suc, ◌+◌, ◌-◌, ◌<◌, ◌≤◌, ◌==◌, nat_lt, Bool, true, false, ◌&&◌, ◌||◌, List, [], ◌∷◌, ◌++◌, length, take, drop, get_or, refl, sym, ◌∙◌, ap, subst, arith, Option, Some, None, if◌then◌else◌}
use Rattle.std.specs.List.{count_by, enumerate_from, find, list_all, list_any}
use Rattle.std.specs.Option.{is_some, option_map}
use Rattle.std.proofs.lemmas.Bool.{and_parts, or_parts, and_right}
use Rattle.std.proofs.lemmas.Bool.Decides.{nat_tests}
use Rattle.std.proofs.lemmas.List.{get_or_append_left, get_or-append-add, get_or-drop, get_or-map, get_or-take, length-map, take-append-drop}
use Rattle.std.proofs.lemmas.List.FromFn.{get_or-enumerate_from, length-enumerate_from}
use Rattle.std.proofs.lemmas.List.Folds.{list_any-append}
use Rattle.qp_model.specs.declared.stimulus.Stim.{Stim}
use Rattle.qp_model.specs.declared.systems.System.{System}
use Rattle.qp_model.specs.Record.{Item}
use Rattle.qp_model.specs.Told.{Told, ToldItem}
use Rattle.qp_model.specs.OneOrder.{Placed, Turn, acted_last, acts_next, all_empty, begun, is_stim, stimuli_after, may_act, stim_of, turned}
use Rattle.qp_model.proofs.ListLemmas.{and-true}
use Rattle.qp_calls.specs.Counting.{one_if, times}
use Rattle.qp_calls.specs.LaneView.{LaneView, Happening}
use Rattle.qp_model_order.specs.Placing.{all_placed}
use Rattle.qp_model_order.specs.SourceRun.{untold_all}
use Rattle.qp_model_order.specs.Stimulus.{source_items}
use Rattle.qp_plain_sound.proofs.EntryCounts.{count-times}
use Rattle.qp_plain_sound.proofs.Times.{times-append}
use Rattle.qp_kernel.specs.Happenings.{begun_by, has_no_stim, placed_of, run_order}
use Rattle.qp_kernel_runs.specs.SimHolds.{BegunCounts, is_whole, last_source}
use Rattle.qp_kernel_runs.specs.Choosing.{IsChosen, left_of, place_after}

-- The first of a list.

find-first : {X : Type 0} (p : X → Bool) (xs : List X) (k : ℕ) (d : X) → k < length xs → p (get_or xs k d) ≡ true → ((i : ℕ) → i < k → p (get_or xs i d) ≡ false)
    → find p xs ≡ Some (get_or xs k d)
find-first p [] k d lt may before = absurd (omega (arith, lt))
find-first p (x ∷ xs) zero d lt may before = rw may refl
find-first p (x ∷ xs) (suc k) d lt may before =
    let not : p x ≡ false = before 0 (omega arith) in
    let on = find-first p xs k d (omega (arith, lt)) may (λ i less. before (suc i) (omega (arith, less))) in
    rw not on

find-none : {X : Type 0} (p : X → Bool) (xs : List X) (d : X) → ((i : ℕ) → i < length xs → p (get_or xs i d) ≡ false) → find p xs ≡ None
find-none p [] d all = refl
find-none p (x ∷ xs) d all =
    let not : p x ≡ false = all 0 (omega arith) in
    let on = find-none p xs d (λ i less. all (suc i) (omega (arith, less))) in
    rw not on

-- a list that is turned, place by place
length-turned : {A : Type 0} (n : ℕ) (xs : List A) → length (turned n xs) ≡ length xs
length-turned n xs = omega (arith, length-both (drop n xs) (take n xs), length-both (take n xs) (drop n xs), ap length (take-append-drop n xs))
  where
    length-both : {A : Type 0} (xs ys : List A) → length (xs ++ ys) ≡ length xs + length ys
    length-both [] ys = omega arith
    length-both (x ∷ xs) ys = omega (arith, length-both xs ys)

length-drop : {A : Type 0} (n : ℕ) (xs : List A) → length (drop n xs) ≡ length xs - n
length-drop zero xs = omega arith
length-drop (suc n) [] = omega arith
length-drop (suc n) (x ∷ xs) = length-drop n xs ∙ omega arith

get_or-turned : {A : Type 0} (n i : ℕ) (xs : List A) (d : A) → n ≤ length xs → i < length xs → get_or (turned n xs) i d ≡ get_or xs (place_after n (length xs) i) d
get_or-turned n i xs d few less = go (nat_lt (n + i) (length xs)) refl
  where
    go : (u : Bool) → nat_lt (n + i) (length xs) ≡ u → get_or (turned n xs) i d ≡ get_or xs (if u then n + i else n + i - length xs) d
    go true h =
        let lt : n + i < length xs = grind (arith, nat_tests) in
        get_or_append_left (drop n xs) (take n xs) d i (omega (arith, lt, length-drop n xs)) ∙ get_or-drop n xs i d
    go false h =
        let le : length xs ≤ n + i = grind (arith, nat_tests) in
        let place : i ≡ length (drop n xs) + (n + i - length xs) = omega (arith, le, few, less, length-drop n xs) in
        ap (λ k. get_or (drop n xs ++ take n xs) k d) place ∙ get_or-append-add (drop n xs) (take n xs) (n + i - length xs) d
        ∙ get_or-take n xs (n + i - length xs) d (omega (arith, le, few, less))

-- The stimuli in the order.

abbrev pub StimLess : List Item → Type 0
StimLess is = list_any (λ i. is_some (stim_of i.body)) is ≡ false

stimless-parts : (n : ℕ) (is : List Item) → StimLess is → StimLess (take n is) × StimLess (drop n is)
stimless-parts n is h =
    or_parts (list_any (λ i. is_some (stim_of i.body)) (take n is)) (list_any (λ i. is_some (stim_of i.body)) (drop n is))
    (sym (list_any-append (λ i. is_some (stim_of i.body)) (take n is) (drop n is)) ∙ ap (list_any (λ i. is_some (stim_of i.body))) (take-append-drop n is) ∙ h)

untold-stimless : (ts : List ToldItem) → list_any (λ t. is_some (stim_of t.told.body)) ts ≡ false → StimLess (untold_all ts)
untold-stimless [] h = refl
untold-stimless (t ∷ ts) h = let parts = or_parts (is_some (stim_of t.told.body)) (list_any (λ t. is_some (stim_of t.told.body)) ts) h in rw parts.0 (untold-stimless ts parts.1)

acted-append : (last : ℕ) (xs ys : List Placed) → acted_last last (xs ++ ys) ≡ acted_last (acted_last last xs) ys
unfolding acted_last
acted-append last [] ys = refl
acted-append last (x ∷ xs) ys = acted-append (if is_stim x then x.lane else last) xs ys

acted-lane : (last : ℕ) (is : List Item) → StimLess is → acted_last last (all_placed 0 is) ≡ last
unfolding acted_last
acted-lane last [] h = refl
acted-lane last (i ∷ is) h = let parts = or_parts (is_some (stim_of i.body)) (list_any (λ i. is_some (stim_of i.body)) is) h in
    ap (λ u. acted_last (if u then 0 else last) (all_placed 0 is)) parts.0 ∙ acted-lane last is parts.1

acted-told : (n last : ℕ) (g : List Told) → acted_last last (all_placed n (source_items g)) ≡ (if list_any (λ t. is_some (stim_of t.body)) g then n else last)
unfolding acted_last
acted-told n last [] = refl
acted-told n last (t ∷ g) = go (is_some (stim_of t.body)) (list_any (λ t. is_some (stim_of t.body)) g) (λ k. acted-told n k g)
  where
    go : (u x : Bool) → ((k : ℕ) → acted_last k (all_placed n (source_items g)) ≡ (if x then n else k))
        → acted_last (if u then n else last) (all_placed n (source_items g)) ≡ (if u || x then n else last)
    go true true ih = ih n
    go true false ih = ih n
    go false x ih = ih last

none-times : {X : Type 0} (p : X → Bool) (xs : List X) → list_any p xs ≡ false → times p xs ≡ 0
unfolding times
none-times p [] h = refl
none-times p (x ∷ xs) h = let parts = or_parts (p x) (list_any p xs) h in rw parts.0 (omega (arith, none-times p xs parts.1))

one-stim : (h : Happening) → is_whole h ≡ true → times (λ t. is_some (stim_of t.body)) h.told ≡ 1
one-stim h whole =
    let is : count_by (λ t. is_some (stim_of t.body)) h.told ≡ 1 = grind (arith, nat_tests) in
    sym (count-times (λ (t : Told). is_some (stim_of t.body)) h.told) ∙ is

acted-whole : (last : ℕ) (h : Happening) → is_whole h ≡ true → acted_last last (placed_of h) ≡ h.source
acted-whole last h whole = acted-told h.source last h.told ∙ go (list_any (λ t. is_some (stim_of t.body)) h.told) refl
  where
    go : (u : Bool) → list_any (λ t. is_some (stim_of t.body)) h.told ≡ u → (if u then h.source else last) ≡ h.source
    go true e = refl
    go false e = absurd (omega (arith, one-stim h whole, none-times (λ (t : Told). is_some (stim_of t.body)) h.told e))

-- the source that acted last
pub acted-order : (last n : ℕ) (lane : List Item) (hs : List Happening) → StimLess lane → list_all is_whole hs ≡ true → acted_last last (run_order n lane hs) ≡ last_source last hs
unfolding run_order last_source
acted-order last n lane [] none whole = acted-lane last lane none
acted-order last n lane (h ∷ hs) none whole =
    let parts = and_parts _ _ whole in
    let halves = stimless-parts (h.at - n) lane none in
    acted-append last (all_placed 0 (take (h.at - n) lane) ++ placed_of h) (run_order h.at (drop (h.at - n) lane) hs)
    ∙ ap (λ k. acted_last k (run_order h.at (drop (h.at - n) lane) hs))
    (acted-append last (all_placed 0 (take (h.at - n) lane)) (placed_of h) ∙ acted-whole (acted_last last (all_placed 0 (take (h.at - n) lane))) h parts.0)
    ∙ acted-order h.source h.at (drop (h.at - n) lane) hs halves.1 parts.1

zero-not : (k : ℕ) → (zero == suc k) ≡ false
zero-not k = grind (arith, nat_tests)

begun-lane : (k : ℕ) (is : List Item) → times (λ x. is_stim x && (x.lane == suc k)) (all_placed 0 is) ≡ 0
unfolding times
begun-lane k [] = refl
begun-lane k (i ∷ is) = rw (zero-not k, (and_right (is_some (stim_of i.body)) false refl)) (omega (arith, begun-lane k is))

begun-told : (n s : ℕ) (g : List Told) → times (λ x. is_stim x && (x.lane == s)) (all_placed n (source_items g)) ≡ (if n == s then times (λ t. is_some (stim_of t.body)) g else 0)
unfolding times
begun-told n s g = go (n == s) refl g
  where
    go : (u : Bool) → (n == s) ≡ u → (g : List Told) → times (λ x. is_stim x && (x.lane == s)) (all_placed n (source_items g)) ≡ (if u then times (λ t. is_some (stim_of t.body)) g else 0)
    go true e [] = refl
    go true e (t ∷ g) =
        let here : one_if (is_some (stim_of t.body) && (n == s)) ≡ one_if (is_some (stim_of t.body)) = ap (λ b. one_if (is_some (stim_of t.body) && b)) e ∙ ap one_if (and-true (is_some (stim_of t.body))) in
        omega (arith, here, go true e g)
    go false e [] = refl
    go false e (t ∷ g) =
        let here : one_if (is_some (stim_of t.body) && (n == s)) ≡ 0 = ap (λ b. one_if (is_some (stim_of t.body) && b)) e ∙ ap one_if (and_right (is_some (stim_of t.body)) false refl) in
        omega (arith, here, go false e g)

begun-order : (k n : ℕ) (lane : List Item) (hs : List Happening) → list_all is_whole hs ≡ true → times (λ x. is_stim x && (x.lane == suc k)) (run_order n lane hs) ≡ begun_by (suc k) hs
unfolding run_order begun_by
begun-order k n lane [] whole = begun-lane k lane
begun-order k n lane (h ∷ hs) whole =
    let p : Placed → Bool = λ x. is_stim x && (x.lane == suc k) in
    let parts = and_parts _ _ whole in
    let here : times p (placed_of h) ≡ (if h.source == suc k then 1 else 0) =
    begun-told h.source (suc k) h.told ∙ ap (λ m. if h.source == suc k then m else 0) (one-stim h parts.0) in
    times-append p (all_placed 0 (take (h.at - n) lane) ++ placed_of h) (run_order h.at (drop (h.at - n) lane) hs)
    ∙ omega (arith, times-append p (all_placed 0 (take (h.at - n) lane)) (placed_of h), begun-lane k (take (h.at - n) lane), here, begun-order k h.at (drop (h.at - n) lane) hs parts.1)

-- how many stimuli each source has begun
pub begun-is : (k n : ℕ) (lane : List Item) (hs : List Happening) → list_all is_whole hs ≡ true → begun (run_order n lane hs) (k + 1) ≡ begun_by (k + 1) hs
unfolding begun
begun-is k n lane hs whole =
    let same : k + 1 ≡ suc k = omega arith in
    let p : Placed → Bool = λ x. is_stim x && (x.lane == suc k) in
    ap (begun (run_order n lane hs)) same ∙ count-times p (run_order n lane hs) ∙ begun-order k n lane hs whole ∙ ap (λ j. begun_by j hs) (sym same)

-- The choice.
module _ (plan : List (List Stim)) (counted : List ℕ) (last : ℕ) (before : List Placed) (few : last ≤ length plan)
    (same : (k : ℕ) → k < length plan → begun before (k + 1) ≡ get_or counted k 0) where
  nothing_left : ℕ × List Stim
  nothing_left = (0, [])

  length-left : length (stimuli_after before plan) ≡ length plan
  unfolding stimuli_after
  length-left = length-map (enumerate_from 1 plan) (λ x. (x.0, drop (begun before x.0) x.1)) ∙ length-enumerate_from 1 plan

  left-at : (k : ℕ) → k < length plan → get_or (stimuli_after before plan) k nothing_left ≡ (k + 1, left_of plan counted k)
  unfolding stimuli_after nothing_left
  left-at k lt =
      let f : ℕ × List Stim → ℕ × List Stim = λ x. (x.0, drop (begun before x.0) x.1) in
      let within : k < length (enumerate_from 1 plan) = omega (arith, lt, length-enumerate_from 1 plan) in
      let place : 1 + k ≡ k + 1 = omega arith in
      get_or-map f (enumerate_from 1 plan) k (0, []) (0, []) within ∙ ap f (get_or-enumerate_from 1 plan k (0, []) lt)
      ∙ ap (λ j. f (j, get_or plan k [])) place ∙ ap (λ m. (k + 1, drop m (get_or plan k []))) (same k lt)

  place-few : (i : ℕ) → i < length plan → place_after last (length plan) i < length plan
  place-few i lt = go (nat_lt (last + i) (length plan)) refl
    where
      go : (u : Bool) → nat_lt (last + i) (length plan) ≡ u → (if u then last + i else last + i - length plan) < length plan
      go true h = grind (arith, nat_tests)
      go false h =
          let le : length plan ≤ last + i = grind (arith, nat_tests) in
          omega (arith, le, few, lt)

  turned-at : (i : ℕ) → i < length plan → get_or (turned last (stimuli_after before plan)) i nothing_left ≡ (place_after last (length plan) i + 1, left_of plan counted (place_after last (length plan) i))
  turned-at i lt =
      get_or-turned last i (stimuli_after before plan) nothing_left (omega (arith, few, length-left)) (omega (arith, lt, length-left))
      ∙ ap (λ n. get_or (stimuli_after before plan) (place_after last n i) nothing_left) length-left
      ∙ left-at (place_after last (length plan) i) (place-few i lt)

  length-all : length (turned last (stimuli_after before plan)) ≡ length plan
  length-all = length-turned last (stimuli_after before plan) ∙ length-left

  abbrev turn_of : ℕ × List Stim → Turn
  turn_of x = record { source = x.0; place = begun before x.0 + 1 }

  abbrev place_of : ℕ → Turn
  place_of j = record { source = j + 1; place = get_or counted j 0 + 1 }

  first-is : (rests : Bool) (chosen : Option ℕ) → IsChosen rests plan counted last chosen
      → option_map turn_of (find (λ x. may_act rests x.1) (turned last (stimuli_after before plan))) ≡ option_map place_of chosen
  first-is rests None none =
      let found = find-none (λ x. may_act rests x.1) (turned last (stimuli_after before plan)) nothing_left
      (λ i lt. let less : i < length plan = omega (arith, lt, length-all) in ap (λ x. may_act rests x.1) (turned-at i less) ∙ none i less) in
      ap (option_map turn_of) found
  first-is rests (Some j) h =
      let at = turned-at h.turn h.few in
      let found = find-first (λ x. may_act rests x.1) (turned last (stimuli_after before plan)) h.turn nothing_left (omega (arith, h.few, length-all))
      (ap (λ x. may_act rests x.1) at ∙ h.may)
      (λ i lt. let less : i < length plan = omega (arith, lt, h.few) in ap (λ x. may_act rests x.1) (turned-at i less) ∙ h.before i lt) in
      let source : place_after last (length plan) h.turn ≡ j = sym h.its in
      let within : j < length plan = subst (λ k. k < length plan) source (place-few h.turn h.few) in
      ap (option_map turn_of) found ∙ ap (λ x. Some (turn_of x)) at ∙ ap (λ k. Some (turn_of (k + 1, left_of plan counted k))) source
      ∙ ap (λ m. Some (record { source = j + 1; place = m + 1 })) (same j within)

pub acts-chosen : (sys : System) (plan : List (List Stim)) (counted : List ℕ) (last : ℕ) (hs : List Happening) (v : LaneView) (base : Bool) (chosen : Option ℕ)
    → length counted ≡ length plan → last ≤ length plan → BegunCounts plan counted last hs → has_no_stim v
    → IsChosen (base && all_empty sys (run_order 0 (untold_all v.told) hs)) plan counted last chosen
    → acts_next sys plan (run_order 0 (untold_all v.told) hs) base ≡ option_map (λ j. record { source = j + 1; place = get_or counted j 0 + 1 }) chosen
unfolding acts_next
acts-chosen sys plan counted last hs v base chosen lengths few counts none is =
    let before : List Placed = run_order 0 (untold_all v.told) hs in
    let acted : acted_last 0 before ≡ last = acted-order 0 0 (untold_all v.told) hs (untold-stimless v.told none) counts.whole ∙ sym counts.last_is in
    let begun_same : (k : ℕ) → k < length plan → begun before (k + 1) ≡ get_or counted k 0 = λ k lt. begun-is k 0 (untold_all v.told) hs counts.whole ∙ sym (counts.begun_are k lt) in
    ap (λ n. option_map (λ x. record { source = x.0; place = begun before x.0 + 1 }) (find (λ x. may_act (base && all_empty sys before) x.1) (turned n (stimuli_after before plan)))) acted
    ∙ first-is plan counted last before few begun_same (base && all_empty sys before) chosen is
