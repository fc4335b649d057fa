-- The laws of the end of a run with threads.
use Rattle.std.specs.Prelude.{◌≡◌, ℕ, ◌+◌, ◌≤◌, nat_le, true, List, [], ◌∷◌, slice_get, IsTrue, Some, ⊤}
use Rattle.std.specs.List.{flat_map, list_all}
use Rattle.qp_model.specs.declared.journals.Journal.{Journal}
use Rattle.qp_model.specs.declared.record.Rec.{Rec}
use Rattle.qp_model.specs.declared.systems.System.{System}
use Rattle.qp_model.specs.declared.words.Word.{Word}
use Rattle.qp_model.specs.declared.words.Word.TheVariants as word
use Rattle.qp_model.specs.declared.bodies.Entry.{Entry}
use Rattle.qp_model.specs.End.{lines_empty, blocks_rest}
use Rattle.qp_model.specs.History.{all_items, is_numbered, lane_items, marks, total}
use Rattle.qp_model.specs.WordLaw.{is_object}
use Rattle.qp_calls.specs.Counting.{count_of}
use Rattle.qp_calls.specs.Deferring.{tokens_in}
use Rattle.qp_calls.specs.LaneView.{Counts, LaneView}
use Rattle.qp_calls.specs.Tokens.{Token}
use Rattle.qp_plain_sound.specs.WordStates.{line_in}
use Rattle.qp_port_law.specs.Sealed.{IsLaneAt, SealsLanes, hands_of_all}

-- where no record of any lane has a mark above this, the word has no more operations
abbrev pub HistoriesAreSeen : Type 0
HistoriesAreSeen =
    (w : Word) (lanes : List (List Rec)) (most : ℕ) → is_numbered w (all_items lanes) ≡ true
    → ((n : ℕ) (lane : List Rec) → slice_get lanes n ≡ Some lane → list_all (λ m. nat_le m most) (marks w (lane_items lane)) ≡ true)
    → total w (all_items lanes) ≤ most

-- a lane that has seen as much of the queue as each other, and saw it empty
pub record IsLastLook (vs : List LaneView) (a : ℕ) (v0 : LaneView) : Type 0 where
  pub below : (n : ℕ) (v : LaneView) → IsLaneAt vs n v → v.mark (word.Queue a) ≤ v0.mark (word.Queue a)
  pub f : ℕ
  pub l : ℕ
  pub m : ℕ
  pub says : v0.shown (word.Queue a) ≡ Counts f l m
  pub none : f + l ≤ m

-- a queue that it saw so is empty over the whole history
abbrev pub QueuesAreEmpty : Type 0
QueuesAreEmpty =
    (sys : System) (kernel budget : ℕ) (vs : List LaneView) (j : Journal) (k a : ℕ) (v0 : LaneView) → SealsLanes sys kernel budget vs j
    → IsLaneAt vs k v0 → IsTrue (is_object sys a) → IsLastLook vs a v0 → (line_in sys j.lanes a).entries ≡ []

-- each lane has the references of these entries in its hands
abbrev pub HandsAre : List (List Entry) → List LaneView → Type 0
HandsAre [] [] = ⊤
HandsAre (es ∷ more) (v ∷ vs) = ((t : Token) → count_of t v.hands ≡ count_of t (tokens_in es)) × HandsAre more vs
HandsAre _ _ = ⊥

-- so all hands together have those of all of them
abbrev pub HandsAddUp : Type 0
HandsAddUp =
    (entries : List (List Entry)) (vs : List LaneView) → HandsAre entries vs
    → (t : Token) → count_of t (hands_of_all vs) ≡ count_of t (tokens_in (flat_map (λ es. es) entries))

-- Where a lane saw every queue empty last, and each lane has just deferred entries in its hands, a run may end: every queue is empty, and each
-- block is free or has the references of deferred entries alone.
abbrev pub QuietRunsRest : Type 0
QuietRunsRest =
    (sys : System) (kernel budget : ℕ) (vs : List LaneView) (j : Journal) (k : ℕ) (v0 : LaneView) (deferred : List (List Entry)) → SealsLanes sys kernel budget vs j
    → IsLaneAt vs k v0 → ((a : ℕ) → IsTrue (is_object sys a) → IsLastLook vs a v0) → HandsAre deferred vs
    → IsTrue (lines_empty sys (all_items j.lanes)) × IsTrue (blocks_rest sys (all_items j.lanes) (flat_map (λ es. es) deferred))
