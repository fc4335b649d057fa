-- Where each block of a world stands, and what its end asks.
use Rattle.std.specs.Prelude.{◌≡◌, ◌≢◌, ℕ, ◌+◌, ◌≤◌, ◌==◌, Bool, true, false, ◌⊎◌, List, [], IsTrue, IsFalse}
use Rattle.qp_chart.specs.StateTree.{has}
use Rattle.qp_model.specs.declared.record.Rec.{Rec}
use Rattle.qp_model.specs.declared.systems.System.{System}
use Rattle.qp_model.specs.declared.bodies.Entry.{Entry}
use Rattle.qp_model.specs.WordLaw.{is_object}
use Rattle.qp_calls.specs.Tokens.{Token, Held, Loose}
use Rattle.qp_calls.specs.Counting.{times, count_of}
use Rattle.qp_calls.specs.Deferring.{tokens_in}
use Rattle.qp_plain_sound.specs.WordStates.{pool_in, refs_in, line_in}
use Rattle.qp_plain_sound.specs.Sound.{queued}

-- how often a reference stands in the hands and the queues together
abbrev pub stands_in : System → List (List Rec) → List Token → Token → ℕ
stands_in sys lanes hands t = count_of t hands + queued sys lanes t

-- it is free, and nothing of it stands anywhere
pub record IsFree (sys : System) (lanes : List (List Rec)) (hands : List Token) (p b : ℕ) : Type 0 where
  pub free : IsTrue (has (pool_in sys lanes p).free b)
  pub loose : (u : Bool) → count_of (Loose p b u) hands ≡ 0
  pub referred : (r : ℕ) → stands_in sys lanes hands (Held p b r) ≡ 0

-- it is one block in the hands, without a reference
pub record IsLoose (sys : System) (lanes : List (List Rec)) (hands : List Token) (p b : ℕ) : Type 0 where
  pub given : IsFalse (has (pool_in sys lanes p).free b)
  pub loose : count_of (Loose p b false) hands + count_of (Loose p b true) hands ≡ 1
  pub referred : (r : ℕ) → stands_in sys lanes hands (Held p b r) ≡ 0

-- it has references, and they are exactly those of the entries in the queues and of the hands, each once
pub record IsReferred (sys : System) (lanes : List (List Rec)) (hands : List Token) (p b : ℕ) : Type 0 where
  pub given : IsFalse (has (pool_in sys lanes p).free b)
  pub some : (refs_in lanes p b).names ≢ []
  pub loose : (u : Bool) → count_of (Loose p b u) hands ≡ 0
  pub referred : (r : ℕ) → stands_in sys lanes hands (Held p b r) ≡ times (λ x. x == r) (refs_in lanes p b).names
  pub once : (r : ℕ) → times (λ x. x == r) (refs_in lanes p b).names ≤ 1

abbrev pub BlockStands : System → List (List Rec) → List Token → ℕ → ℕ → Type 0
BlockStands sys lanes hands p b = (IsFree sys lanes hands p b ⊎ IsLoose sys lanes hands p b) ⊎ IsReferred sys lanes hands p b

-- every queue is empty, and the hands are these deferred entries
pub record OnlyDeferred (sys : System) (lanes : List (List Rec)) (hands : List Token) (deferred : List Entry) : Type 0 where
  pub queues : (a : ℕ) → IsTrue (is_object sys a) → (line_in sys lanes a).entries ≡ []
  pub hands_are : (t : Token) → count_of t hands ≡ count_of t (tokens_in deferred)
