-- Counts of records, each by its number.
use Rattle.std.specs.Prelude.{◌≡◌, ℕ, ◌+◌, ◌<◌, ◌≤◌, ◌==◌, nat_lt, min, Bool, true, ◌&&◌, List, length, get_or, slice_get, slice_set, if◌then◌else◌, Some, None}
use Rattle.std.specs.declared.option.Option.{Option}
use Rattle.std.specs.List.{count_by}
use Rattle.qp_model.specs.declared.bodies.Body.{Body}
use Rattle.qp_model.specs.declared.bodies.Body.TheVariants as body
use Rattle.qp_model.specs.OutputSummary.{is_back_of, is_done_record, is_new_of, is_took}
use Rattle.qp_model.specs.Record.{Item}
use Rattle.qp_summary.specs.declared.turns.TurnCounts.{TurnCounts}
use Rattle.qp_summary.specs.declared.blocks.Blocks.{Blocks}

-- the highest count
abbrev pub most : ℕ
most = 18446744073709551615

-- so many counts, of nothing
abbrev pub AreNone : ℕ → List ℕ → Type 0
AreNone size counts = (length counts ≡ size) × ((k n : ℕ) → slice_get counts k ≡ Some n → n ≡ 0)

-- one more of this number, where there is a count for it
abbrev pub with_one_more : List ℕ → ℕ → List ℕ
with_one_more counts k = if nat_lt k (length counts) then slice_set counts k (min (get_or counts k 0 + 1) most) else counts

-- the count of a number, exactly where there is one for it, and it is below the highest
abbrev pub IsCountAt : List ℕ → ℕ → Option ℕ → Type 0
IsCountAt counts k None = (n : ℕ) → slice_get counts k ≡ Some n → most ≤ n
IsCountAt counts k (Some n) = (slice_get counts k ≡ Some n) × (n < most)

-- there are so many counts, and each is that of the items that pass the test of its number, or the highest where they are more
pub record AreCounts (size : ℕ) (test : ℕ → Item → Bool) (counts : List ℕ) (items : List Item) : Type 0 where
  pub many : length counts ≡ size
  pub each : (k n : ℕ) → slice_get counts k ≡ Some n → n ≡ min (count_by (test k) items) most

-- a count of items that pass the test
pub record IsCount (test : Item → Bool) (items : List Item) (n : ℕ) : Type 0 where
  pub is : n ≡ count_by test items
  pub less : n < most

-- the count of items that pass the test, exactly where it is counted and below the highest
abbrev pub IsTold : Bool → (Item → Bool) → List Item → Option ℕ → Type 0
IsTold with_one_more test items None = with_one_more ≡ true → most ≤ count_by test items
IsTold with_one_more test items (Some n) = (with_one_more ≡ true) × IsCount test items n

-- the object takes an event, and is done
abbrev pub took_of : ℕ → Item → Bool
took_of o i = (i.of == o) && is_took i.body

abbrev pub done_of : ℕ → Item → Bool
done_of o i = (i.of == o) && is_done_record i.body

-- the pool that gives a block, and the one that gets one back
abbrev pub giver : Body → Option ℕ
giver (body.New p n b from sig pars) = Some p
giver _ = None

abbrev pub taker : Body → Option ℕ
taker (body.Back p n b to) = Some p
taker _ = None

-- the pool gives a block, and gets one back
abbrev pub pool_gives : ℕ → Item → Bool
pool_gives p i = is_new_of p i.body

abbrev pub pool_gets_back : ℕ → Item → Bool
pool_gets_back p i = is_back_of p i.body

pub record AreTurns (t : TurnCounts) (items : List Item) : Type 0 where
  pub taken : AreCounts 33 took_of t.taken items
  pub done : AreCounts 33 done_of t.done items

-- for pools below this number
pub record AreBlocks (size : ℕ) (b : Blocks) (items : List Item) : Type 0 where
  pub given : AreCounts size pool_gives b.given items
  pub back : AreCounts size pool_gets_back b.back items
