-- What a word holds, run over its history beside what is shown of it.
use Rattle.std.specs.Prelude.{ℕ, Bool, true, ◌&&◌, List, [], ◌∷◌}
use Rattle.std.specs.List.{list_all}
use Rattle.qp_model.specs.declared.bodies.Body.{Body}
use Rattle.qp_model.specs.Record.{Item}
use Rattle.qp_model.specs.Machine.{Machine}

-- a record by its object and what it says
abbrev pub item_said : ℕ → Body → Item
item_said o b = record { of = o; body = b }

-- the records say what the word holds
abbrev pub all_say : {S : Type 0} → Machine S → S → List Item → Bool
all_say m s shown = list_all (λ i. m.says s i.body) shown

-- before each operation, and after the last, the records of that place say what the word holds there
unfoldable pub shows_from : {S : Type 0} → Machine S → S → List Item → List (List Item) → Bool
shows_from m s history [] = true
shows_from m s [] (g ∷ gs) = all_say m s g
shows_from m s (i ∷ is) (g ∷ gs) = all_say m s g && shows_from m (m.next s i) is gs
