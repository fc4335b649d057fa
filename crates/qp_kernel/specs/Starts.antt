-- The records of a lane's starts, and those behind them.
use Rattle.std.specs.Prelude.{◌≡◌, ℕ, zero, suc, List, [], ◌∷◌, if◌then◌else◌}
use Rattle.qp_model.specs.declared.bodies.Body.TheVariants as body
use Rattle.qp_model.specs.declared.words.Word.{Word}
use Rattle.qp_model.specs.History.{marks}
use Rattle.qp_model.specs.Record.{Item}
use Rattle.qp_model.specs.OutputSummary.{is_done_record}

-- the records of a lane up to the end of the n-th start or step in it, all where there are fewer
abbrev pub up_to : ℕ → List Item → List Item
up_to zero is = []
up_to (suc n) [] = []
up_to (suc n) (i ∷ is) = i ∷ (if is_done_record i.body then up_to n is else up_to (suc n) is)

-- and those behind
abbrev pub behind_starts : ℕ → List Item → List Item
behind_starts zero is = is
behind_starts (suc n) [] = []
behind_starts (suc n) (i ∷ is) = if is_done_record i.body then behind_starts n is else behind_starts (suc n) is

-- how many starts and steps come to their end
abbrev pub dones : List Item → ℕ
dones [] = 0
dones (i ∷ is) = if is_done_record i.body then suc (dones is) else dones is

-- these are just so many starts, each to its end
abbrev pub AreStarts : ℕ → List Item → Type 0
AreStarts n is = (behind_starts n is ≡ []) × (dones is ≡ n)

-- behind so many starts, or what came of them, stands nothing that draws a number or shows a word
abbrev pub IsStartAlone : ℕ → List Item → Type 0
IsStartAlone n is = (w : Word) → marks w (behind_starts n is) ≡ []
