-- The records of a lane as a loop comes to them.
use Rattle.std.proofs.Common.{◌≡◌, ◌∙◌, ℕ, ◌+◌, ◌<◌, Bool, cond, List, [], ◌∷◌, ◌++◌, map, length, take, drop, get_or, ap, sym, refl, append-nil}
use Rattle.std.specs.List.{count_by, list_any, list_all}
use Rattle.std.proofs.lemmas.List.Folds.{list_all-map, fold-map}
use Rattle.std.proofs.lemmas.List.{drop_more, take_more, map-append}
use Rattle.qp_model.specs.declared.record.Rec.{Rec}
use Rattle.qp_model.specs.Record.{Item, item_of}
use Rattle.qp_model.specs.History.{lane_items, all_items}
use Rattle.qp_model.proofs.WordLemmas.{all_items-append}
use Rattle.qp_model.proofs.NumberLemmas.{count-append}
use Rattle.qp_model.proofs.ListLemmas.{list_any-map}

module _ {X Y : Type 0} (f : X → Y) (xs : List X) (i : ℕ) (x : X) (inside : i < length xs) (is : x ≡ get_or xs i x) where
  pub map-from : map f (drop i xs) ≡ f x ∷ map f (drop (i + 1) xs)
  map-from = ap (map f) (drop_more xs i x inside) ∙ ap (λ y. f y ∷ map f (drop (i + 1) xs)) (sym is)

  pub map-up_to : map f (take (i + 1) xs) ≡ map f (take i xs) ++ f x ∷ []
  map-up_to = ap (map f) (take_more xs i x inside) ∙ map-append f (take i xs) (get_or xs i x ∷ []) ∙ ap (λ y. map f (take i xs) ++ f y ∷ []) (sym is)

module _ (lane : List Rec) (i : ℕ) (r : Rec) (inside : i < length lane) (is : r ≡ get_or lane i r) where
  pub items-from : lane_items (drop i lane) ≡ item_of r ∷ lane_items (drop (i + 1) lane)
  unfolding lane_items
  items-from = map-from item_of lane i r inside is

  pub items-up_to : lane_items (take (i + 1) lane) ≡ lane_items (take i lane) ++ item_of r ∷ []
  unfolding lane_items
  items-up_to = map-up_to item_of lane i r inside is

pub items-none : lane_items [] ≡ []
unfolding lane_items
items-none = refl

-- tests of a lane's records are tests of what they say
pub count_by-map : {X Y : Type 0} (p : Y → Bool) (f : X → Y) (xs : List X) → count_by p (map f xs) ≡ count_by (λ x. p (f x)) xs
count_by-map p f xs = fold-map (λ a y. a + cond (p y) 1 0) f 0 xs

pub items-count : (p : Item → Bool) (lane : List Rec) → count_by (λ r. p (item_of r)) lane ≡ count_by p (lane_items lane)
unfolding lane_items
items-count p lane = sym (count_by-map p item_of lane)

pub items-any : (p : Item → Bool) (lane : List Rec) → list_any (λ r. p (item_of r)) lane ≡ list_any p (lane_items lane)
unfolding lane_items
items-any p lane = sym (list_any-map p item_of lane)

pub items-all : (p : Item → Bool) (lane : List Rec) → list_all (λ r. p (item_of r)) lane ≡ list_all p (lane_items lane)
unfolding lane_items
items-all p lane = sym (list_all-map p item_of lane)

-- the records of one lane more
pub all_items-up_to : (lanes : List (List Rec)) (i : ℕ) (lane : List Rec) → i < length lanes → lane ≡ get_or lanes i lane
    → all_items (take (i + 1) lanes) ≡ all_items (take i lanes) ++ lane_items lane
unfolding all_items
all_items-up_to lanes i lane inside is =
    ap all_items (take_more lanes i lane inside) ∙ all_items-append (take i lanes) (get_or lanes i lane ∷ [])
    ∙ ap (λ l. all_items (take i lanes) ++ l) (append-nil (lane_items (get_or lanes i lane)) ∙ ap lane_items (sym is))

pub all_items-count : (p : Item → Bool) (lanes : List (List Rec)) (i : ℕ) (lane : List Rec) → i < length lanes → lane ≡ get_or lanes i lane
    → count_by p (all_items (take (i + 1) lanes)) ≡ count_by p (all_items (take i lanes)) + count_by p (lane_items lane)
all_items-count p lanes i lane inside is = ap (count_by p) (all_items-up_to lanes i lane inside is) ∙ count-append p (all_items (take i lanes)) (lane_items lane)
