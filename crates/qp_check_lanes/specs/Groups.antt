-- Records put into groups by a key.
use Rattle.std.specs.Prelude.{ℕ, zero, suc, ◌==◌, Bool, false, List, [], ◌∷◌, ◌++◌, Some, None}
use Rattle.std.specs.declared.option.Option.{Option}
use Rattle.std.specs.List.{filter}
use Rattle.qp_model.specs.Record.{Item}

-- the key is this one
abbrev pub has_key : ℕ → Option ℕ → Bool
has_key k None = false
has_key k (Some n) = n == k

-- the records of a key, in their order
unfoldable pub of_key : (Item → Option ℕ) → ℕ → List Item → List Item
of_key key k items = filter (λ i. has_key k (key i)) items

-- the records of each of so many keys from this one on
unfoldable pub grouped_from : (Item → Option ℕ) → ℕ → ℕ → List Item → List (List Item)
unfolding of_key
grouped_from key k zero items = []
grouped_from key k (suc n) items = of_key key k items ∷ grouped_from key (suc k) n items

-- the records of each key below a size
unfoldable pub grouped : (Item → Option ℕ) → ℕ → List Item → List (List Item)
unfolding grouped_from
grouped key size items = grouped_from key 0 size items

-- so many groups, each empty
unfoldable pub empty_groups : ℕ → List (List Item)
empty_groups zero = []
empty_groups (suc n) = [] ∷ empty_groups n

-- one record more in group k, if there is one
unfoldable pub put_at : ℕ → Item → List (List Item) → List (List Item)
put_at k i [] = []
put_at zero i (g ∷ gs) = (g ++ i ∷ []) ∷ gs
put_at (suc k) i (g ∷ gs) = g ∷ put_at k i gs

-- the groups one after another
abbrev pub groups_joined : List (List Item) → List Item
groups_joined [] = []
groups_joined (g ∷ gs) = g ++ groups_joined gs
