-- How a run ended, and what the end asks of the lanes.
use Rattle.std.specs.Prelude.{ℕ, suc, ◌+◌, ◌==◌, nat_lt, nat_le, Bool, true, false, not, ◌&&◌, ◌||◌, List, [], ◌∷◌, length, if◌then◌else◌, IsTrue, Some, None}
use Rattle.std.specs.declared.option.Option.{Option}
use Rattle.std.specs.List.{list_all, list_any, count_by}
use Rattle.qp_chart.specs.StateTree.{has}
use Rattle.qp_model.specs.declared.record.Rec.{Rec}
use Rattle.qp_model.specs.declared.words.Word.TheVariants as word
use Rattle.qp_model.specs.declared.systems.System.{System}
use Rattle.qp_model.specs.declared.journals.Journal.{Journal}
use Rattle.qp_model.specs.declared.bodies.Entry.{Entry}
use Rattle.qp_model.specs.declared.bodies.Body.{Body}
use Rattle.qp_model.specs.declared.bodies.Body.TheVariants as body
use Rattle.qp_model.specs.Record.{Item}
use Rattle.qp_model.specs.Lists.{all_below}
use Rattle.qp_model.specs.History.{lane_items, all_items, hist}
use Rattle.qp_model.specs.Machine.{after}
use Rattle.qp_model.specs.FreeBlocks.{free_blocks}
use Rattle.qp_model.specs.References.{references}
use Rattle.qp_model.specs.Line.{line}
use Rattle.qp_model.specs.Sites.{ring_of, blocks_of}
use Rattle.qp_model.specs.Home.{home_of}
use Rattle.qp_model.specs.Ends.{is_assert, is_spent, is_spill, is_end, ends_last, quiet, end_asserted, spent}

-- the end stated is that of the records: asserted where an `assert` stands, else spent where a `spent` or `spill` stands, else quiet
abbrev pub end_of : List Item → ℕ
end_of items =
    if list_any (λ i. is_assert i.body) items then end_asserted else (if list_any (λ i. is_end i.body) items then spent else quiet)

-- a `spill` states the number of records before it in its lane, which exceeds 999,992
abbrev pub spill_states : ℕ → Body → Bool
spill_states n (body.Spill len) = (len == n) && nat_lt 999992 n
spill_states n _ = true

unfoldable pub spills_state : ℕ → List Item → Bool
spills_state n [] = true
spills_state n (i ∷ is) = spill_states n i.body && spills_state (n + 1) is

-- a lane has at most 1,000,000 records besides a `spill`
unfoldable pub has_room : List Item → Bool
has_room lane = nat_le (count_by (λ i. not (is_spill i.body)) lane) 1000000

-- the object whose queue the record shows with an entry
abbrev pub shown_entry : Item → Option ℕ
shown_entry i = seen i.body
  where
    seen : Body → Option ℕ
    seen (body.Seen p f l m) = if (i.of == 0) && nat_lt m (f + l) then Some p else None
    seen _ = None

-- how many entries o has taken
abbrev pub takes_of : ℕ → Item → Bool
takes_of o i = took i.body && (i.of == o)
  where
    took : Body → Bool
    took (body.Took f l m e) = true
    took _ = false

unfoldable pub took_count : List Item → ℕ → ℕ
took_count items o = count_by (takes_of o) items

-- a `spent o` stands in the home lane of o, and o has taken just its budget
abbrev pub spent_right : System → Journal → ℕ → Item → Bool
spent_right sys j n i = not (is_spent i.body) || ((home_of sys j i.of == n) && (took_count (all_items j.lanes) i.of == j.budget))

abbrev pub is_its_object : ℕ → Option ℕ → Bool
is_its_object o None = false
is_its_object o (Some p) = p == o

-- each `spent o` comes right after a `seen` of the queue of o that shows an entry; `shown` is what the record before shows
unfoldable pub spents_follow : Option ℕ → List Item → Bool
spents_follow shown [] = true
spents_follow shown (i ∷ is) = (not (is_spent i.body) || is_its_object i.of shown) && spents_follow (shown_entry i) is

-- the `spent` records of the lanes from number n on
unfoldable pub spents_hold : System → Journal → ℕ → List (List Rec) → Bool
unfolding all_items home_of lane_items spents_follow took_count
spents_hold sys j n [] = true
spents_hold sys j n (lane ∷ lanes) =
    list_all (spent_right sys j n) (lane_items lane) && spents_follow None (lane_items lane) && spents_hold sys j (n + 1) lanes

-- every queue is empty in the end
unfoldable pub lines_empty : System → List Item → Bool
unfolding after hist ring_of
lines_empty sys items = list_all (λ d. length (after (line (ring_of sys d.priority)) (hist (word.Queue d.priority) items)).entries == 0) sys.objects

-- the references of these entries to a block
unfoldable pub names_on : ℕ → ℕ → List Entry → List ℕ
names_on p b [] = []
names_on p b (e ∷ es) = if (e.pool == p) && (e.block == b) then e.name ∷ names_on p b es else names_on p b es

abbrev pub same_numbers : List ℕ → List ℕ → Bool
same_numbers xs ys = (length xs == length ys) && list_all (λ x. has ys x) xs && list_all (λ y. has xs y) ys

-- a block is free in the end, or its references are exactly those of the deferred entries
unfoldable pub block_rests : System → List Item → List Entry → ℕ → ℕ → Bool
unfolding after hist names_on
block_rests sys items deferred p b =
    has (after (free_blocks (blocks_of sys p)) (hist (word.Pool p) items)).free b
    || same_numbers (after references (hist (word.Block p b) items)).names (names_on p b deferred)

unfoldable pub blocks_rest : System → List Item → List Entry → Bool
unfolding all_below block_rests
blocks_rest sys items deferred = all_below (length sys.pools) (λ k. all_below (blocks_of sys (suc k)) (block_rests sys items deferred (suc k)))

-- What the end asks: it is as stated, nothing follows the records that end a lane, each of these stands where it may, lanes and budgets
-- are kept, and in a quiet end every queue is empty and each block is free or held by deferred entries alone.
pub record HasEnd (sys : System) (j : Journal) (deferred : List Entry) : Type 0 where
  pub stated : IsTrue (j.end == end_of (all_items j.lanes))
  pub last : IsTrue (list_all (λ lane. ends_last (lane_items lane)) j.lanes)
  pub spents : IsTrue (spents_hold sys j 0 j.lanes)
  pub spills : IsTrue (list_all (λ lane. spills_state 0 (lane_items lane)) j.lanes)
  pub room : IsTrue (list_all (λ lane. has_room (lane_items lane)) j.lanes)
  pub budgets : IsTrue (list_all (λ d. nat_le (took_count (all_items j.lanes) d.priority) j.budget) sys.objects)
  pub queues : IsTrue (not (j.end == quiet) || lines_empty sys (all_items j.lanes))
  pub blocks : IsTrue (not (j.end == quiet) || blocks_rest sys (all_items j.lanes) deferred)
