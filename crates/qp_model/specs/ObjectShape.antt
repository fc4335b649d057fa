-- The records of one object, whatever its chart is: a start, and then steps.
use Rattle.std.specs.Prelude.{◌≡◌, ℕ, Bool, true, false, not, ◌&&◌, ◌⊎◌, List, [], ◌∷◌, ◌++◌, IsTrue, Some, None}
use Rattle.std.specs.List.{list_all}
use Rattle.qp_model.specs.declared.systems.System.{System}
use Rattle.qp_model.specs.declared.bodies.Entry.{Entry}
use Rattle.qp_model.specs.declared.bodies.Body.{Body}
use Rattle.qp_model.specs.declared.bodies.Body.TheVariants as item
use Rattle.qp_model.specs.Told.{Told, Known, plain}
use Rattle.qp_model.specs.Ends.{is_assert}
use Rattle.qp_model.specs.Shapes.{Drops}
use Rattle.qp_model.specs.Sequence.{Sequence}
use Rattle.qp_model.specs.Groups.{Groups, BreaksOff}
use Rattle.qp_model.specs.Course.{Cut, Whole, Stopped, Anywhere}

-- the start group: `begin`, groups, `done`
unfoldable pub StartGroup : System → ℕ → List Told → Type 0
unfolding Groups
StartGroup sys o bs = (g : List Told) × Groups sys o None g × (bs ≡ plain item.Begin ∷ (g ++ (plain item.Done ∷ [])))

-- a start that its own assertion breaks off
unfoldable pub BrokenStart : System → ℕ → List Told → Type 0
BrokenStart sys o bs = (g : List Told) × BreaksOff sys o None false g × (bs ≡ plain item.Begin ∷ g)

-- which row handles the event, or that none does
abbrev pub is_head : Body → Bool
is_head (item.Run s k) = true
is_head item.Unhandled = true
is_head _ = false

-- a `took` of an entry, whether or not the entry has an event
abbrev pub takes : ℕ → ℕ → ℕ → Entry → Known → Told
takes f l m e known = record { body = item.Took f l m e; known = known }

-- a step's first two records
unfoldable pub StepHead : Entry → List Told → Type 0
StepHead e bs = (f l m : ℕ) × (known : Known) × (head : Body) × IsTrue (is_head head) × (bs ≡ takes f l m e known ∷ plain head ∷ [])

-- a step group: `took`, its handler, groups, `done`, and the release of the entry taken
unfoldable pub StepGroup : System → ℕ → List Told → Type 0
unfolding Drops Groups StepHead
StepGroup sys o bs =
    (e : Entry) × (head g rel : List Told) × StepHead e head × Groups sys o (Some e) g × Drops e rel × (bs ≡ head ++ (g ++ (plain item.Done ∷ rel)))

-- a step that breaks off before its `done`
unfoldable pub BrokenStep : System → ℕ → List Told → Type 0
unfolding StepHead
BrokenStep sys o bs = (e : Entry) × (head g : List Told) × StepHead e head × BreaksOff sys o (Some e) true g × (bs ≡ head ++ g)

-- a turn of the object: a step, or, where its own thread takes, a queue found empty, or looked at in the place of a take
pub data IsTurn (sys : System) (o : ℕ) (nils : Bool) (g : List Told) : Type 0 where
  Dispatches : StepGroup sys o g → IsTurn sys o nils g
  FindsEmpty : (f l m : ℕ) → IsTrue nils → g ≡ plain (item.Nil f l m) ∷ [] → IsTurn sys o nils g
  LooksOnly : (p f l m : ℕ) → IsTrue nils → g ≡ plain (item.Seen p f l m) ∷ [] → IsTurn sys o nils g

-- what may stand behind whole turns: nothing, `spent`, or, where the list may be cut, a step that breaks off
pub data IsTail (sys : System) (o : ℕ) (cuts : Bool) (g : List Told) : Type 0 where
  Ends : g ≡ [] → IsTail sys o cuts g
  OutOfBudget : g ≡ plain item.Spent ∷ [] → IsTail sys o cuts g
  BreaksStep : IsTrue cuts → BrokenStep sys o g → IsTail sys o cuts g

-- a start and then turns, or, where the list may be cut, a start that breaks off
unfoldable pub ObjectGroups : System → ℕ → Bool → Bool → List Told → Type 0
unfolding BrokenStart Sequence StartGroup
ObjectGroups sys o nils cuts bs =
    (IsTrue cuts × BrokenStart sys o bs)
    ⊎ ((start turns tail : List Told) × StartGroup sys o start × Sequence (IsTurn sys o nils) turns × IsTail sys o cuts tail
    × (bs ≡ start ++ (turns ++ tail)))

-- with its cut: a list that isn't cut has neither a start nor a step that breaks off, also where its own assertion stands in it; one
-- that stops may also be empty, where the object hasn't started; a `spill` leaves any front
unfoldable pub CutGroups : System → ℕ → Bool → Cut → List Told → Type 0
unfolding ObjectGroups
CutGroups sys o nils Whole bs = ObjectGroups sys o nils false bs
CutGroups sys o nils Stopped bs = (bs ≡ []) ⊎ ObjectGroups sys o nils true bs
CutGroups sys o nils Anywhere bs = (back : List Told) × ((bs ++ back ≡ []) ⊎ ObjectGroups sys o nils true (bs ++ back))

abbrev pub nothing_after : Bool → List Told → Bool
nothing_after asserted [] = true
nothing_after true (t ∷ ts) = false
nothing_after false (t ∷ ts) = true

-- nothing follows an assertion
unfoldable pub asserts_last : List Told → Bool
asserts_last [] = true
asserts_last (t ∷ ts) = nothing_after (is_assert t.body) ts && asserts_last ts

-- no assertion is among the records
abbrev pub asserts_none : List Told → Bool
asserts_none ts = list_all (λ t. not (is_assert t.body)) ts

-- the shape of an object's records; `nils` tells whether its looks at its queue are recorded among them
pub record HasShape (sys : System) (o : ℕ) (nils : Bool) (cut : Cut) (bs : List Told) : Type 0 where
  pub groups : CutGroups sys o nils cut bs
  pub last : IsTrue (asserts_last bs)
