-- What the tries of a lane were seen to end with.
use Rattle.std.specs.Prelude.{◌≡◌, ℕ, Bool, false, List, [], ◌∷◌, ◌++◌, Some, None}
use Rattle.std.specs.declared.option.Option.{Option}
use Rattle.std.specs.List.{list_any, filter_map}
use Rattle.std.specs.Cmp.Lexicographic.{slice_cmp}
use Rattle.std.specs.Ordering.{nat_cmp}
use Rattle.std.specs.BTreeSet.{BTreeSet, contains}
use Rattle.qp_model.specs.Record.{Item}
use Rattle.qp_model.specs.Sources.{entry_seen, same_list}

-- the queues with an entry that these records show
unfoldable pub entries_seen : List Item → List (List ℕ)
entries_seen items = filter_map (λ i. entry_seen i.body) items

-- the set has these and no others
unfoldable pub SetHolds : BTreeSet (List ℕ) → List (List ℕ) → Type 0
SetHolds set xs = (q : List ℕ) → contains (slice_cmp nat_cmp) set q ≡ list_any (same_list q) xs

-- one more, if there is one, and whether it stood there
abbrev pub with_seen : List (List ℕ) → Option (List ℕ) → List (List ℕ)
with_seen xs None = xs
with_seen xs (Some x) = xs ++ x ∷ []

abbrev pub repeats : List (List ℕ) → Option (List ℕ) → Bool
repeats xs None = false
repeats xs (Some x) = list_any (same_list x) xs
