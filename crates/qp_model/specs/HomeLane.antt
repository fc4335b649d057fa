-- The lane of an object that takes in a thread of its own.
use Rattle.std.specs.Prelude.{ℕ, ◌+◌, ◌==◌, Bool, true, not, ◌&&◌, List, [], ◌∷◌, length, Some, None}
use Rattle.std.specs.declared.option.Option.{Option}
use Rattle.std.specs.List.{list_any, filter_map}
use Rattle.qp_model.specs.declared.bodies.Body.{Body}
use Rattle.qp_model.specs.declared.bodies.Body.TheVariants as item
use Rattle.qp_model.specs.Record.{Item}

-- a record of o, `seen` of its queue where it has taken just its budget, or a `spill` that cuts the lane; p is the record's object
abbrev pub is_at_home : ℕ → Bool → Bool → ℕ → Body → Bool
is_at_home o spent cut p (item.Seen q f l m) = (p == 0) && (q == o) && spent
is_at_home o spent cut p (item.Spill len) = (p == 0) && cut
is_at_home o spent cut p b = p == o

abbrev pub count_taken : ℕ → Body → ℕ
count_taken n (item.Took f l m e) = n + 1
count_taken n b = n

-- each record is one of these; n events have been taken before them, and only the last record of a lane that may be cut cuts it
unfoldable pub are_at_home : ℕ → ℕ → Bool → ℕ → List Item → Bool
are_at_home o budget cuts n [] = true
are_at_home o budget cuts n (i ∷ is) =
    is_at_home o (n == budget) (cuts && (length is == 0)) i.of i.body && are_at_home o budget cuts (count_taken n i.body) is

abbrev pub nil_counts : Body → Option (ℕ × ℕ × ℕ)
nil_counts (item.Nil f l m) = Some (f, l, m)
nil_counts _ = None

abbrev pub seen_counts : Body → Option (ℕ × ℕ × ℕ)
seen_counts (item.Seen p f l m) = Some (f, l, m)
seen_counts _ = None

-- no two of the counts are the same
unfoldable pub all_differ : List (ℕ × ℕ × ℕ) → Bool
all_differ [] = true
all_differ (x ∷ xs) = not (list_any (λ y. (x.0 == y.0) && (x.1 == y.1) && (x.2 == y.2)) xs) && all_differ xs

-- the lane has such records alone, no two `nil` show the same counts, and no two `seen` do
unfoldable pub is_home_lane : ℕ → ℕ → Bool → List Item → Bool
unfolding all_differ are_at_home
is_home_lane o budget cuts lane =
    are_at_home o budget cuts 0 lane
    && all_differ (filter_map (λ i. nil_counts i.body) lane)
    && all_differ (filter_map (λ i. seen_counts i.body) lane)
