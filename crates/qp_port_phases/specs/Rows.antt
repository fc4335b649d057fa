-- How many rows of looks without a step the first lane has, and how many `settle`s are done.
use Rattle.std.specs.Prelude.{◌≡◌, ◌⊎◌, ℕ, ◌+◌, ◌<◌, ◌≤◌, Bool, false, List, [], ◌∷◌, if◌then◌else◌, ⊤, IsTrue}
use Rattle.std.specs.List.{list_any}
use Rattle.qp_model.specs.WordLaw.{is_object}
use Rattle.qp_model.specs.declared.words.Word.TheVariants as word
use Rattle.qp_calls.specs.LaneView.{LaneView, Counts}
use Rattle.qp_calls.specs.Clauses.{AreOwn}
use Rattle.qp_port_phases.specs.declared.lanes.Passed.{Passed}
use Rattle.qp_port_phases.specs.declared.lanes.Passed.TheVariants as passed

-- What is counted of a worker: its rows of looks that came to their end without a step, the `settle`s that it has passed, and whether memory was
-- refused to it, after which nothing is known of its lane.
pub record Numbers : Type 0 where
  pub rows : ℕ
  pub settles : ℕ
  pub lost : Bool

-- the lane has just seen the queue of p with an entry
pub record LaneSeesEntry (v : LaneView) (p : ℕ) : Type 0 where
  pub f : ℕ
  pub l : ℕ
  pub m : ℕ
  pub some : m < f + l
  pub mark : v.mark (word.Queue p) ≡ f + l + m
  pub shown : v.shown (word.Queue p) ≡ Counts f l m
  pub own : AreOwn p l m v

-- what a turn may change: it comes to the end of one row without a step at most, and of none where an entry was seen
pub record CountsOn (v : LaneView) (m n : Numbers) : Type 0 where
  pub lost : n.lost ≡ false → m.lost ≡ false
  pub settles : n.lost ≡ false → m.settles ≤ n.settles
  pub rows : n.lost ≡ false → n.rows ≤ m.rows + 1
  pub pending : n.lost ≡ false → (p : ℕ) → IsTrue (is_object v.sys p) → LaneSeesEntry v p → n.rows ≤ m.rows

-- what a try to pass a `settle` may change, where so many are passed
pub record CountsBy (k : ℕ) (m n : Numbers) : Type 0 where
  pub lost : n.lost ≡ false → m.lost ≡ false
  pub settles : n.lost ≡ false → m.settles + k ≤ n.settles
  pub rows : n.lost ≡ false → n.rows ≤ m.rows

abbrev pub PassCounts : Numbers → Numbers → Passed → Type 0
PassCounts m n passed.Yes = CountsBy 1 m n
PassCounts m n _ = CountsBy 0 m n

abbrev pub one_where : Bool → ℕ
one_where b = if b then 1 else 0

-- Of all workers.

unfoldable pub all_settles : {T : Type 0} → (T → Numbers) → List T → ℕ
all_settles numbers [] = 0
all_settles numbers (x ∷ xs) = (numbers x).settles + all_settles numbers xs

abbrev pub any_lost : {T : Type 0} → (T → Numbers) → List T → Bool
any_lost numbers xs = list_any (λ x. (numbers x).lost) xs

-- what tries of all lanes to pass a `settle` may change, where one was passed or none
pub record TriesCount {T : Type 0} (numbers : T → Numbers) (some : Bool) (xs ys : List T) : Type 0 where
  pub lost : any_lost numbers ys ≡ false → any_lost numbers xs ≡ false
  pub settles : any_lost numbers ys ≡ false → all_settles numbers xs + one_where some ≤ all_settles numbers ys

-- the first has at most so many rows without a step more than all have passed `settle`s, where memory was refused to none
abbrev pub HasFewRows : {T : Type 0} → (T → Numbers) → ℕ → List T → Type 0
HasFewRows numbers more [] = ⊤
HasFewRows numbers more (first ∷ others) = any_lost numbers (first ∷ others) ≡ false → (numbers first).rows ≤ all_settles numbers (first ∷ others) + more

-- the first has just seen a queue with an entry
abbrev pub FirstSees : {T : Type 0} → (T → LaneView) → List ℕ → List T → Type 0
FirstSees view objects [] = ⊥
FirstSees view objects (first ∷ others) = (p : ℕ) × IsTrue (is_object (view first).sys p) × LaneSeesEntry (view first) p

-- there is cause for a phase: one row more is allowed, or the first lane sees an entry
abbrev pub PhaseHasCause : {T : Type 0} → (T → Numbers) → (T → LaneView) → List ℕ → List T → Type 0
PhaseHasCause numbers view objects xs = HasFewRows numbers 0 xs ⊎ (HasFewRows numbers 1 xs × FirstSees view objects xs)
