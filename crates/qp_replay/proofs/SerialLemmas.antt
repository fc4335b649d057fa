-- The records of an order are those of the lanes, so what is known of the words holds of them.
use Rattle.std.proofs.Common.{◌≡◌, ◌∙◌, ℕ, suc, ◌+◌, ◌<◌, ◌==◌, nat_lt, nat_le, Bool, true, false, not, ◌&&◌, ◌||◌, cond, Option, Some, None, List, [], ◌∷◌, ◌++◌, length, take, IsTrue, refl, sym, ap, arith}
use Rattle.std.specs.Prelude.{slice_get, IsPermutation}
use Rattle.std.specs.List.{filter, list_all, sum_by, cons_option}
use Rattle.std.proofs.lemmas.Bool.{and_from, and_parts}
use Rattle.std.proofs.lemmas.Bool.Decides.{nat_tests}
use Rattle.std.proofs.lemmas.List.Elements.{filter_map-append}
use Rattle.std.proofs.lemmas.List.Sorted.{sum_by-IsPermutation}
use Rattle.std.proofs.lemmas.List.Sums.{sum_by-cons}
use Rattle.qp_model.specs.declared.record.Rec.{Rec}
use Rattle.qp_model.specs.declared.words.Word.{Word}
use Rattle.qp_model.specs.declared.words.Word.TheVariants as word
use Rattle.qp_model.specs.declared.systems.System.{System}
use Rattle.qp_model.specs.declared.bodies.Body.{Body}
use Rattle.qp_model.specs.Record.{Item, item_of}
use Rattle.qp_model.specs.History.{Touch, Draws, Shows, Neither, touch, all_items, drawn_as, drawn_below, hist, is_numbered, lane_items, same_word, total}
use Rattle.qp_model.specs.Machine.{Machine, after, is_shown, shown_by}
use Rattle.qp_model.specs.Places.{RecordPlace, in_order, is_next, item_at, items_at, must_precede, places, places_from, places_in, touch_at, touch_first}
use Rattle.qp_model.specs.WordLaw.{Keeps, Words}
use Rattle.qp_model.proofs.ListLemmas.{all_below_at, filter-none}
use Rattle.qp_model.proofs.HistoryLemmas.{length-hist}
use Rattle.qp_replay.specs.Laws.{NamedOrdersAreSerial}
use Rattle.qp_replay.specs.Numbers.{TouchKnownWords, has_word, is_next_where, is_on, numbers_stand}
use Rattle.qp_replay.specs.Orders.{IsLowestOrder}
use Rattle.qp_replay.specs.Replaying.{IsReplayAnswer, IsReplay}
use Rattle.qp_replay.specs.Remaining.{record_place}
use Rattle.qp_replay.specs.declared.places.Replayed.{Replayed}
use Rattle.qp_replay.specs.declared.places.Replayed.TheVariants.{Order, Cycle}
use Rattle.qp_replay.proofs.NumberLemmas.{Inv, all-numbered, drawn, draws_above, is_sorted, list_all-two, marks_to, none_first}

-- the records at all places are all records
shift-in : (l : List Rec) (ls : List (List Rec)) (n at : ℕ) (rs : List Rec) → items_at (l ∷ ls) (places_in (suc n) at rs) ≡ items_at ls (places_in n at rs)
unfolding items_at places_in item_at
shift-in l ls n at [] = refl
shift-in l ls n at (r ∷ rs) = ap (cons_option (item_at ls (record_place n at))) (shift-in l ls n (suc at) rs)

shift : (l : List Rec) (ls : List (List Rec)) (n : ℕ) (qs : List (List Rec)) → items_at (l ∷ ls) (places_from (suc n) qs) ≡ items_at ls (places_from n qs)
unfolding items_at places_from
shift l ls n [] = refl
shift l ls n (q ∷ qs) =
    filter_map-append (item_at (l ∷ ls)) (places_in (suc n) 0 q) (places_from (suc (suc n)) qs)
    ∙ (λ i. shift-in l ls n 0 q i ++ shift l ls (suc n) qs i)
    ∙ sym (filter_map-append (item_at ls) (places_in n 0 q) (places_from (suc n) qs))

shift-at : (r : Rec) (l : List Rec) (ls : List (List Rec)) (at : ℕ) (rs : List Rec) → items_at ((r ∷ l) ∷ ls) (places_in 0 (suc at) rs) ≡ items_at (l ∷ ls) (places_in 0 at rs)
unfolding items_at places_in item_at
shift-at r l ls at [] = refl
shift-at r l ls at (x ∷ xs) = ap (cons_option (item_at (l ∷ ls) (record_place 0 at))) (shift-at r l ls (suc at) xs)

lane-at : (l : List Rec) (ls : List (List Rec)) → items_at (l ∷ ls) (places_in 0 0 l) ≡ lane_items l
unfolding items_at places_in item_at lane_items
lane-at [] ls = refl
lane-at (r ∷ rs) ls = ap (λ is. item_of r ∷ is) (shift-at r rs ls 0 rs ∙ lane-at rs ls)

pub items-places : (lanes : List (List Rec)) → items_at lanes (places_from 0 lanes) ≡ all_items lanes
unfolding items_at places_from all_items
items-places [] = refl
items-places (l ∷ ls) = filter_map-append (item_at (l ∷ ls)) (places_in 0 0 l) (places_from 1 ls) ∙ (λ i. lane-at l ls i ++ (shift l ls 0 ls ∙ items-places ls) i)

-- how many records of an order pass a test
hit : (Item → Bool) → Option Item → ℕ
hit p None = 0
hit p (Some i) = cond (p i) 1 0

count-at : (lanes : List (List Rec)) (p : Item → Bool) (xs : List RecordPlace) → length (filter p (items_at lanes xs)) ≡ sum_by (λ x. hit p (item_at lanes x)) xs
unfolding items_at hit
count-at lanes p [] = refl
count-at lanes p (x ∷ xs) = go (item_at lanes x) ∙ ap (λ n. hit p (item_at lanes x) + n) (count-at lanes p xs) ∙ sym (sum_by-cons (λ x. hit p (item_at lanes x)) x xs)
  where
    go : (o : Option Item) → length (filter p (cons_option o (items_at lanes xs))) ≡ hit p o + length (filter p (items_at lanes xs))
    go None = omega arith
    go (Some i) = one (p i)
      where
        one : (b : Bool) → length (cond b (i ∷ filter p (items_at lanes xs)) (filter p (items_at lanes xs))) ≡ cond b 1 0 + length (filter p (items_at lanes xs))
        one true = omega arith
        one false = omega arith

-- none fails the test
none-fails : (q : Item → Bool) (is : List Item) → length (filter (λ i. not (q i)) is) ≡ 0 → list_all q is ≡ true
none-fails q [] none = refl
none-fails q (i ∷ is) none = go (q i) refl none (λ e. none-fails q is e)
  where
    go : (b : Bool) → q i ≡ b → length (cond (not b) (i ∷ filter (λ i. not (q i)) is) (filter (λ i. not (q i)) is)) ≡ 0 → (length (filter (λ i. not (q i)) is) ≡ 0 → list_all q is ≡ true) → (q i && list_all q is) ≡ true
    go true e none remaining = and_from _ _ e (remaining none)
    go false e none remaining = absurd (omega (arith, none))

module _ (lanes : List (List Rec)) (order : List RecordPlace) (all : IsPermutation (places lanes) order) where
  pub same-count : (p : Item → Bool) → length (filter p (items_at lanes order)) ≡ length (filter p (all_items lanes))
  unfolding places
  same-count p = count-at lanes p order ∙ sum_by-IsPermutation (λ x. hit p (item_at lanes x)) (places lanes) order all ∙ sym (count-at lanes p (places lanes)) ∙ ap (λ is. length (filter p is)) (items-places lanes)

  pub all-of : (q : Item → Bool) → list_all q (all_items lanes) ≡ true → list_all q (items_at lanes order) ≡ true
  all-of q h = none-fails q (items_at lanes order) (same-count (λ i. not (q i)) ∙ ap length (filter-none (λ i. not (q i)) q (all_items lanes) (λ i e. ap not e) h))

-- the records of an order don't stand before those behind which they must stand
not-first : (lanes : List (List Rec)) (x y : RecordPlace) → (IsTrue (must_precede lanes x y) → ⊥) → touch_first (touch_at (item_at lanes x)) (touch_at (item_at lanes y)) ≡ false
unfolding must_precede
not-first lanes x y never = go ((x.lane == y.lane) && nat_lt x.at y.at) (touch_first (touch_at (item_at lanes x)) (touch_at (item_at lanes y))) never
  where
    go : (a b : Bool) → ((a || b) ≡ true → ⊥) → b ≡ false
    go a false never = refl
    go true true never = absurd (never refl)
    go false true never = absurd (never refl)

none-behind : (lanes : List (List Rec)) (t : Touch) (ys : List RecordPlace) → ((j : ℕ) (y : RecordPlace) → slice_get ys j ≡ Some y → touch_first (touch_at (item_at lanes y)) t ≡ false) → none_first t (items_at lanes ys) ≡ true
unfolding items_at
none-behind lanes t [] each = refl
none-behind lanes t (y ∷ ys) each = go (item_at lanes y) (each 0 y refl) (none-behind lanes t ys (λ j z at. each (suc j) z at))
  where
    go : (o : Option Item) → touch_first (touch_at o) t ≡ false → none_first t (items_at lanes ys) ≡ true → none_first t (cons_option o (items_at lanes ys)) ≡ true
    go None h remaining = remaining
    go (Some i) h remaining = and_from _ _ (ap not h) remaining

pub sorted-items : (lanes : List (List Rec)) (xs : List RecordPlace) → ((i j : ℕ) (x y : RecordPlace) → slice_get xs i ≡ Some x → slice_get xs j ≡ Some y → IsTrue (must_precede lanes x y) → i < j) → is_sorted (items_at lanes xs) ≡ true
unfolding items_at
sorted-items lanes [] pairs = refl
sorted-items lanes (x ∷ xs) pairs =
    go (item_at lanes x) refl (sorted-items lanes xs (λ i j a b at bt first. let less = pairs (suc i) (suc j) a b at bt first in omega (arith, less)))
  where
    go : (o : Option Item) → item_at lanes x ≡ o → is_sorted (items_at lanes xs) ≡ true → is_sorted (cons_option o (items_at lanes xs)) ≡ true
    go None is remaining = remaining
    go (Some i) is remaining =
        and_from _ _
        (none-behind lanes (touch i) xs (λ j y at. ap (λ o. touch_first (touch_at (item_at lanes y)) (touch_at o)) (sym is) ∙ not-first lanes y x (λ first. let less = pairs (suc j) 0 y x at refl first in omega (arith, less))))
        remaining

-- what the law of words says of one word's numbers
numbered-inv : {S : Type 0} (m : Machine S) (w : Word) (lanes : List (List Rec)) (order : List RecordPlace) → IsPermutation (places lanes) order → Keeps S m w lanes → Inv w (total w (all_items lanes)) [] (items_at lanes order)
unfolding is_numbered is_shown shown_by total drawn
numbered-inv m w lanes order all keeps =
    let items = all_items lanes in
    let T = total w items in
    let parts = and_parts _ _ keeps.numbers in
    let below : list_all (λ i. drawn_below w T (touch i)) items ≡ true = parts.0 in
    let shown : list_all (λ i. shown_by m w (hist w items) i.body (touch i)) items ≡ true = keeps.shown in
    record {
      once = λ n less. same-count lanes order all (λ i. drawn_as w n (touch i)) ∙ eq (length (filter (λ i. drawn_as w n (touch i)) items)) (all_below_at T (λ n. length (filter (λ i. drawn_as w n (touch i)) items) == 1) parts.1 n less);
      within = all-of lanes order all (λ i. marks_to w T (touch i)) (list_all-two (λ i. drawn_below w T (touch i)) (λ i. shown_by m w (hist w items) i.body (touch i)) (λ i. marks_to w T (touch i)) items (λ i d s. to i.body (touch i) d s) below shown);
      low = refl;
      high = all-of lanes order all (λ i. draws_above w 0 (touch i)) (list_all-two (λ i. drawn_below w T (touch i)) (λ i. drawn_below w T (touch i)) (λ i. draws_above w 0 (touch i)) items (λ i d s. above (touch i) d) below below);
      part = omega arith;
    }
  where
    eq : (n : ℕ) → (n == 1) ≡ true → n ≡ 1
    eq n h = grind (arith, nat_tests, h)

    size : length (hist w (all_items lanes)) ≡ total w (all_items lanes)
    size = length-hist w (all_items lanes) keeps.numbers

    to : (b : Body) (t : Touch) → drawn_below w (total w (all_items lanes)) t ≡ true → shown_by m w (hist w (all_items lanes)) b t ≡ true → marks_to w (total w (all_items lanes)) t ≡ true
    to b (Draws v k) d s = go (same_word v w) d
      where
        go : (same : Bool) → (not same || (nat_lt 0 k && nat_le k (total w (all_items lanes)))) ≡ true → (not same || nat_le k (total w (all_items lanes))) ≡ true
        go false h = refl
        go true h = (and_parts _ _ h).1
    to b (Shows v k) d s = go (same_word v w) s
      where
        go : (same : Bool) → cond same (nat_le k (length (hist w (all_items lanes))) && m.says (after m (take k (hist w (all_items lanes)))) b) true ≡ true → (not same || nat_le k (total w (all_items lanes))) ≡ true
        go false h = refl
        go true h = ap (nat_le k) (sym size) ∙ (and_parts _ _ h).0
    to b Neither d s = refl

    above : (t : Touch) → drawn_below w (total w (all_items lanes)) t ≡ true → draws_above w 0 t ≡ true
    above (Draws v k) d = go (same_word v w) d
      where
        go : (same : Bool) → (not same || (nat_lt 0 k && nat_le k (total w (all_items lanes)))) ≡ true → (not same || nat_lt 0 k) ≡ true
        go false h = refl
        go true h = (and_parts _ _ h).0
    above (Shows v k) d = refl
    above Neither d = refl

-- in an order of all records each record on a word of the system has its number, where the words keep their law
pub numbers-hold : (sys : System) (lanes : List (List Rec)) (order : List RecordPlace) → Words sys lanes → IsLowestOrder lanes order → numbers_stand (has_word sys) [] (items_at lanes order) ≡ true
numbers-hold sys lanes order words is =
    all-numbered (has_word sys) (λ w. total w (all_items lanes)) [] (items_at lanes order) each (record { behind = nothing (items_at lanes order); sorted = sorted-items lanes order is.before })
  where
    nothing : (is : List Item) → list_all (λ k. list_all (λ a. not (touch_first (touch k) (touch a))) []) is ≡ true
    nothing [] = refl
    nothing (i ∷ is) = nothing is

    each : (w : Word) → has_word sys w ≡ true → Inv w (total w (all_items lanes)) [] (items_at lanes order)
    each (word.Pool p) h = numbered-inv _ (word.Pool p) lanes order is.all (words.pools p h)
    each (word.Block p b) h = numbered-inv _ (word.Block p b) lanes order is.all (words.blocks p b h)
    each (word.Queue a) h = numbered-inv _ (word.Queue a) lanes order is.all (words.queues a h)
    each (word.Signal s) h = numbered-inv _ (word.Signal s) lanes order is.all (words.signals s h)
    each (word.Timer t) h = numbered-inv _ (word.Timer t) lanes order is.all (words.timers t h)

-- where each record is on a word that passes the test, all numbers are those of their words' operations
all-in-order : (test : Word → Bool) (A B : List Item) → list_all (λ i. is_on test (touch i)) B ≡ true → numbers_stand test A B ≡ true → in_order A B ≡ true
unfolding in_order is_next numbers_stand
all-in-order test A [] on stand = refl
all-in-order test A (i ∷ B) on stand =
    let here = and_parts (is_on test (touch i)) (list_all (λ i. is_on test (touch i)) B) on in
    let next = and_parts (is_next_where test A (touch i)) (numbers_stand test (A ++ i ∷ []) B) stand in
    and_from _ _ (one (touch i) here.0 next.0) (all-in-order test (A ++ i ∷ []) B here.1 next.1)
  where
    one : (t : Touch) → is_on test t ≡ true → is_next_where test A t ≡ true → is_next A t ≡ true
    one (Draws w m) known next = ap (λ b. not b || is_next A (Draws w m)) (sym known) ∙ next
    one (Shows w m) known next = ap (λ b. not b || is_next A (Shows w m)) (sym known) ∙ next
    one Neither known next = refl

pub named-serial : NamedOrdersAreSerial
named-serial sys lanes order named is numbers = record {
  all = is.all;
  before = is.before;
  numbers = all-in-order (has_word sys) [] (items_at lanes order) (all-of lanes order is.all (λ i. is_on (has_word sys) (touch i)) named) numbers;
}

-- what is answered of any lanes says more where their words keep their law and no record touches another word
pub serial-also : (sys : System) (lanes : List (List Rec)) → Words sys lanes → TouchKnownWords sys lanes → (a : Replayed) → IsReplayAnswer lanes a → IsReplay lanes a
serial-also sys lanes words named (Order order) h = (h, named-serial sys lanes order named h.0 (numbers-hold sys lanes order words h.0))
serial-also sys lanes words named (Cycle cycle) h = h
