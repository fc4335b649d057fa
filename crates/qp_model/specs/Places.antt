-- The places of a journal's records: which must stand before which, and the orders in which one thread could have made them.
use Rattle.std.specs.Prelude.{◌≡◌, ℕ, suc, ◌==◌, ◌<◌, nat_lt, nat_le, Bool, true, false, ◌&&◌, ◌||◌, List, [], ◌∷◌, ◌++◌, slice_get, IsTrue, Some, None}
use Rattle.std.specs.declared.option.Option.{Option}
use Rattle.std.specs.List.{filter_map}
use Rattle.std.specs.Option.{option_and_then}
use Rattle.std.specs.Prelude.{IsPermutation}
use Rattle.qp_model.specs.declared.record.Rec.{Rec}
use Rattle.qp_model.specs.Record.{Item, item_of}
use Rattle.qp_model.specs.History.{Touch, Draws, Shows, Neither, touch, same_word, total}

-- a lane, and a place in it, both from 0
pub record RecordPlace : Type 0 where
  pub lane : ℕ
  pub at : ℕ

unfoldable pub item_at : List (List Rec) → RecordPlace → Option Item
unfolding item_of
item_at lanes x = option_and_then (λ lane. option_and_then (λ r. Some (item_of r)) (slice_get lane x.at)) (slice_get lanes x.lane)

-- what the first does to a word asks that it stands before the second: it draws a lower number, or a number of those that the second
-- shows, or it shows none of the second's
abbrev pub touch_first : Touch → Touch → Bool
touch_first (Draws v mark) (Draws w other) = same_word v w && nat_lt mark other
touch_first (Draws v mark) (Shows w other) = same_word v w && nat_le mark other
touch_first (Shows v mark) (Draws w other) = same_word v w && nat_lt mark other
touch_first _ _ = false

abbrev pub touch_at : Option Item → Touch
touch_at None = Neither
touch_at (Some i) = touch i

-- the record at x must stand before the one at y
unfoldable pub must_precede : List (List Rec) → RecordPlace → RecordPlace → Bool
unfolding item_at
must_precede lanes x y = ((x.lane == y.lane) && nat_lt x.at y.at) || touch_first (touch_at (item_at lanes x)) (touch_at (item_at lanes y))

unfoldable pub places_in : ℕ → ℕ → List Rec → List RecordPlace
places_in lane at [] = []
places_in lane at (r ∷ rs) = record { lane = lane; at = at } ∷ places_in lane (suc at) rs

unfoldable pub places_from : ℕ → List (List Rec) → List RecordPlace
unfolding places_in
places_from lane [] = []
places_from lane (l ∷ ls) = places_in lane 0 l ++ places_from (suc lane) ls

-- the places of all records
unfoldable pub places : List (List Rec) → List RecordPlace
unfolding places_from
places lanes = places_from 0 lanes

-- a number drawn or shown is the number of the word's operations before it
unfoldable pub is_next : List Item → Touch → Bool
unfolding total
is_next before (Draws w mark) = mark == suc (total w before)
is_next before (Shows w mark) = mark == total w before
is_next before Neither = true

-- each number drawn or shown is that
unfoldable pub in_order : List Item → List Item → Bool
unfolding is_next
in_order before [] = true
in_order before (i ∷ is) = is_next before (touch i) && in_order (before ++ i ∷ []) is

-- the records at these places
unfoldable pub items_at : List (List Rec) → List RecordPlace → List Item
unfolding item_at
items_at lanes order = filter_map (λ x. item_at lanes x) order

-- An order of all records, each once, in which each stands behind those that must stand before it, and each number drawn or shown is that
-- of its word's operations before it.
pub record IsSerial (lanes : List (List Rec)) (order : List RecordPlace) : Type 0 where
  pub all : IsPermutation (places lanes) order
  pub before : (i j : ℕ) (x y : RecordPlace) → slice_get order i ≡ Some x → slice_get order j ≡ Some y → IsTrue (must_precede lanes x y) → i < j
  pub numbers : IsTrue (in_order [] (items_at lanes order))
