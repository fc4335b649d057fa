-- What a word holds after its operations, and which operations are allowed.
use Rattle.std.specs.Prelude.{ℕ, nat_le, Bool, true, ◌&&◌, List, [], ◌∷◌, length, take, if◌then◌else◌}
use Rattle.std.specs.List.{list_all}
use Rattle.qp_model.specs.declared.words.Word.{Word}
use Rattle.qp_model.specs.declared.bodies.Body.{Body}
use Rattle.qp_model.specs.Record.{Item}
use Rattle.qp_model.specs.History.{Touch, Draws, Shows, Neither, touch, same_word, hist}

pub record Machine (S : Type 0) : Type 0 where
  -- what the word holds at first
  pub first : S
  -- what it holds after an operation, taken as the record states it
  pub next : S → Item → S
  -- where an operation is allowed
  pub may : S → Item → Bool
  -- how many operations it had
  pub count : S → ℕ
  -- what a record that shows the word says of it
  pub says : S → Body → Bool

unfoldable pub after_from : {S : Type 0} → Machine S → S → List Item → S
after_from m s [] = s
after_from m s (i ∷ is) = after_from m (m.next s i) is

-- what the word holds after these operations
unfoldable pub after : {S : Type 0} → Machine S → List Item → S
unfolding after_from
after m history = after_from m m.first history

unfoldable pub allowed_from : {S : Type 0} → Machine S → S → List Item → Bool
allowed_from m s [] = true
allowed_from m s (i ∷ is) = m.may s i && allowed_from m (m.next s i) is

-- each operation is allowed in its turn
unfoldable pub is_allowed : {S : Type 0} → Machine S → List Item → Bool
unfolding allowed_from
is_allowed m history = allowed_from m m.first history

-- where the record shows w, its mark is within the history, and it says what the word held there
unfoldable pub shown_by : {S : Type 0} → Machine S → Word → List Item → Body → Touch → Bool
unfolding after
shown_by m w history b (Shows v mark) = if same_word v w then nat_le mark (length history) && m.says (after m (take mark history)) b else true
shown_by m w history b (Draws v mark) = true
shown_by m w history b Neither = true

-- all that is shown of w is as its history gives it
unfoldable pub is_shown : {S : Type 0} → Machine S → Word → List Item → Bool
unfolding hist shown_by
is_shown m w items = list_all (λ i. shown_by m w (hist w items) i.body (touch i)) items
