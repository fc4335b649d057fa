-- Looks, lanes and the start keep the rule of the event table, and what its end tells.
use Rattle.std.specs.Prelude.{◌≡◌, ◌≢◌, ℕ, ◌+◌, ◌-◌, ◌<◌, ◌≤◌, List, [], ◌∷◌, ◌++◌, Bool, length, cond, slice_index, slice_set, IsTrue}
use mathlib.Core.Option.{some}
use lib.ListN.{get_elem?}
use Rattle.qp_model.specs.declared.record.Rec.{Rec}
use Rattle.qp_model.specs.declared.bodies.Body.TheVariants.{Short, NoBlock, Nil, Seen, Full, NoEntry, NoLifo}
use Rattle.qp_model.specs.declared.systems.System.{System}
use Rattle.qp_model.specs.Record.{item_of}
use Rattle.qp_model.specs.WordLaw.{Words, is_pool, is_block, is_object}
use Rattle.qp_table.specs.Counting.{Each, many}
use Rattle.qp_table.specs.Rule.{pool_at, block_at, queue_at, cell_at, Fitting, Shows, Idle, is_number, is_ref, is_serve, Holds}
use Rattle.qp_table.specs.After.{FromAnyState, HasRoom, ref, glanced, noted, read_from, learned, empty_view, onlooker, granting, granted, passing, handing, handed, views_joined, newcomer}
use Rattle.qp_table.specs.declared.view.Serve.{Serve}
use Rattle.qp_table.specs.declared.view.View.{View}
use Rattle.qp_table.specs.QueueLaws.{f_in, l_in, m_in, queue_word, cells_of}
use Rattle.qp_table.specs.Whole.{IsWholeView, Unused, first_now, later_lanes}

-- any view may look at a numbered word
abbrev pub LooksKeepTheRule : Type 0
LooksKeepTheRule = FromAnyState (λ sys words views holds id v. (w : ℕ) → w < 4488 → Holds sys words (slice_set views id (glanced v w (slice_index words w))))

-- and, at a block's word, reads where the life of the block begins
abbrev pub ReadsKeepTheRule : Type 0
ReadsKeepTheRule = FromAnyState (λ sys words views holds id v. (p b : ℕ) → block_at p b < 4488 → Holds sys words (slice_set views id (read_from v (block_at p b) (slice_index words (block_at p b)) p b)))

-- a look at a pool with a record of what it shows
abbrev pub ShownPoolsKeepTheRule : Type 0
ShownPoolsKeepTheRule = FromAnyState
    (λ sys words views holds id v. (o p reserve : ℕ) (r : Rec) → HasRoom v → IsTrue (is_pool sys p) → length (holds.now.pool p).free ≤ reserve
    → item_of r ≡ record { of = o; body = Short p (holds.now.pool p).count (length (holds.now.pool p).free) reserve } → Holds sys words (slice_set views id (noted v (pool_at p) (slice_index words (pool_at p)) r)))

abbrev pub EmptyPoolsKeepTheRule : Type 0
EmptyPoolsKeepTheRule = FromAnyState
    (λ sys words views holds id v. (o p : ℕ) (r : Rec) → HasRoom v → IsTrue (is_pool sys p) → length (holds.now.pool p).free ≡ 0 → item_of r ≡ record { of = o; body = NoBlock p (holds.now.pool p).count 0 }
    → Holds sys words (slice_set views id (noted v (pool_at p) (slice_index words (pool_at p)) r)))

-- a look at a queue with a record of its counts: of any, of an empty queue, of one with at most the margin free, and of a full one
abbrev pub NotedQueue : List ℕ → List View → ℕ → View → ℕ → Rec → List View
NotedQueue words views id v a r = slice_set views id (noted v (queue_at a) (queue_word words a) r)

abbrev pub SeenQueuesKeepTheRule : Type 0
SeenQueuesKeepTheRule = FromAnyState
    (λ sys words views holds id v. (o a : ℕ) (r : Rec) → HasRoom v → IsTrue (is_object sys a) → item_of r ≡ record { of = o; body = Seen a (f_in (queue_word words a)) (l_in (queue_word words a)) (m_in (queue_word words a)) } → Holds sys words (NotedQueue words views id v a r))

abbrev pub EmptyQueuesKeepTheRule : Type 0
EmptyQueuesKeepTheRule = FromAnyState
    (λ sys words views holds id v. (a : ℕ) (r : Rec) → HasRoom v → IsTrue (is_object sys a) → f_in (queue_word words a) + l_in (queue_word words a) ≡ m_in (queue_word words a)
    → item_of r ≡ record { of = a; body = Nil (f_in (queue_word words a)) (l_in (queue_word words a)) (m_in (queue_word words a)) } → Holds sys words (NotedQueue words views id v a r))

abbrev pub FullQueuesKeepTheRule : Type 0
FullQueuesKeepTheRule = FromAnyState
    (λ sys words views holds id v. (o a margin : ℕ) (r : Rec) → HasRoom v → IsTrue (is_object sys a) → cells_of sys a - (f_in (queue_word words a) + l_in (queue_word words a) - m_in (queue_word words a)) ≤ margin
    → item_of r ≡ record { of = o; body = Full a (f_in (queue_word words a)) (l_in (queue_word words a)) (m_in (queue_word words a)) margin } → Holds sys words (NotedQueue words views id v a r))

abbrev pub NoEntryKeepsTheRule : Type 0
NoEntryKeepsTheRule = FromAnyState
    (λ sys words views holds id v. (o a : ℕ) (r : Rec) → HasRoom v → IsTrue (is_object sys a) → f_in (queue_word words a) + l_in (queue_word words a) - m_in (queue_word words a) ≡ cells_of sys a
    → item_of r ≡ record { of = o; body = NoEntry a (f_in (queue_word words a)) (l_in (queue_word words a)) (m_in (queue_word words a)) } → Holds sys words (NotedQueue words views id v a r))

abbrev pub NoLastInKeepsTheRule : Type 0
NoLastInKeepsTheRule = FromAnyState
    (λ sys words views holds id v. (o a : ℕ) (r : Rec) → HasRoom v → IsTrue (is_object sys a) → f_in (queue_word words a) + l_in (queue_word words a) - m_in (queue_word words a) ≡ cells_of sys a
    → item_of r ≡ record { of = o; body = NoLifo a (f_in (queue_word words a)) (l_in (queue_word words a)) (m_in (queue_word words a)) } → Holds sys words (NotedQueue words views id v a r))

-- who holds a reference learns the event of its life, and knows it from then on
abbrev pub HoldersLearnTheEvent : Type 0
HoldersLearnTheEvent = FromAnyState (λ sys words views holds id v. (p b k : ℕ) → IsTrue (is_block sys p b) → 0 < many (is_ref p b k) v.hands → Holds sys words (slice_set views id (learned v (ref p b k) (holds.now.content p b))))

-- a view with nothing may be added
abbrev pub NewViewsKeepTheRule : Type 0
NewViewsKeepTheRule = (sys : System) (words : List ℕ) (views : List View) → Holds sys words views → Holds sys words (views ++ empty_view ∷ [])

-- two views
abbrev pub FromTwoViews : ((sys : System) (words : List ℕ) (views : List View) → Holds sys words views → ℕ → View → ℕ → View → Type 0) → Type 0
FromTwoViews P = FromAnyState (λ sys words views holds id v. (other : ℕ) (w : View) → other ≢ id → get_elem? views other ≡ some w → P sys words views holds id v other w)

-- one that has nothing sees what the other has seen
abbrev pub OnlookersKeepTheRule : Type 0
OnlookersKeepTheRule = FromTwoViews (λ sys words views holds id v other w. w ≡ empty_view → Holds sys words (slice_set (slice_set views id v) other (onlooker v)))

-- a lane number that was never handed out goes to the other
abbrev pub GrantsKeepTheRule : Type 0
GrantsKeepTheRule = FromTwoViews
    (λ sys words views holds id v other w. (n : ℕ) → n < 49 → 0 < many (is_number n) v.lane_numbers → (length v.logs ≡ 0 → Idle v) → Holds sys words (slice_set (slice_set views id (granting n v)) other (granted n w)))

-- objects without takes and last-in posts go to the other
abbrev pub HandOversKeepTheRule : Type 0
HandOversKeepTheRule = FromTwoViews
    (λ sys words views holds id v other w. (t : Serve → Bool) → Each (Unused v.takes) (passing t v.serves) → Holds sys words (slice_set (slice_set views id (handing t v)) other (handed t v w)))

-- all goes to one of them
abbrev pub JoinsKeepTheRule : Type 0
JoinsKeepTheRule = FromTwoViews (λ sys words views holds id v other w. Holds sys words (slice_set (slice_set views id (views_joined v w)) other empty_view))

-- the first words, and a view that has lane 0 and all objects, meet the rule
abbrev pub StartMeetsTheRule : Type 0
StartMeetsTheRule = (sys : System) (words : List ℕ) (xs : List Serve) → Fitting sys → Shows sys words (first_now sys) → ((a j : ℕ) → IsTrue (is_object sys a) → j < cells_of sys a → slice_index words (cell_at a j) ≡ 0)
    → ((a : ℕ) → many (is_serve a) xs ≡ cond (is_object sys a) 1 0) → Each (λ (x : Serve). (x.lifos ≡ 0) × (x.takes ≡ 0)) xs → Holds sys words (newcomer later_lanes xs ∷ [])

-- all lanes' records meet the law of words, between any two steps
abbrev pub RecordsAreLawful : Type 0
RecordsAreLawful = (sys : System) (words : List ℕ) (views : List View) (holds : Holds sys words views) → Words sys holds.lanes

-- the view with all lanes knows the whole
abbrev pub WholeIsKnown : Type 0
WholeIsKnown = FromAnyState (λ sys words views holds id v. length v.logs + length v.lane_numbers ≡ 49 → IsWholeView sys v)
