-- An object's records, read turn by turn, over any actions, lasts and releases.
use Rattle.std.specs.Prelude.{◌≡◌, ℕ, Bool, true, false, List, [], ◌∷◌, ◌++◌, IsTrue, Some, None}
use Rattle.std.specs.declared.option.Option.{Option}
use Rattle.qp_model.specs.declared.bodies.Entry.{Entry}
use Rattle.qp_model.specs.declared.bodies.Body.{Body}
use Rattle.qp_model.specs.declared.bodies.Body.TheVariants as item
use Rattle.qp_model.specs.Told.{Told, Known, plain}
use Rattle.qp_model.specs.Sequence.{Sequence}
use Rattle.qp_model.specs.ObjectShape.{StepHead, takes}
use Rattle.qp_check_shapes.specs.GroupsRead.{IsElement, Breaks}

-- what an object's records are made of, while it works on an entry: actions, what may stand last behind them, and the entry's release
pub record Kinds : Type 1 where
  pub act : Option Entry → List Told → Type 0
  pub last : Option Entry → List Told → Type 0
  -- the same of a start
  pub first : List Told → Type 0
  pub release : Entry → List Told → Type 0
  -- whether a start or a step may break off
  pub cuts : Bool
  -- whether a step may end between its first two records, or in its release
  pub anywhere : Bool

-- groups, `done`, and more
unfoldable pub GroupsThenDone : (List Told → Type 0) → (List Told → Type 0) → List Told → Type 0
unfolding Sequence
GroupsThenDone W M bs = (g more : List Told) × Sequence (IsElement W) g × M more × (bs ≡ g ++ (plain item.Done ∷ more))

-- a queue found empty, or looked at in the place of a take
abbrev pub looks_at_queue : Body → Bool
looks_at_queue (item.Nil f l m) = true
looks_at_queue (item.Seen p f l m) = true
looks_at_queue _ = false

-- a step, or such a look
pub data IsTurnOf (act : Option Entry → List Told → Type 0) (release : Entry → List Told → Type 0) (nils : Bool) (bs : List Told) : Type 0 where
  Steps : (e : Entry) (head body : List Told) → StepHead e head → GroupsThenDone (act (Some e)) (release e) body → bs ≡ head ++ body → IsTurnOf act release nils bs
  Finds : (b : Body) → IsTrue (looks_at_queue b) → IsTrue nils → bs ≡ plain b ∷ [] → IsTurnOf act release nils bs

-- a front of a release
unfoldable pub FrontOf : (List Told → Type 0) → List Told → Type 0
FrontOf P bs = (back : List Told) × P (bs ++ back)

-- what may stand behind whole turns
pub data IsTailOf (k : Kinds) (bs : List Told) : Type 0 where
  EndsHere : bs ≡ [] → IsTailOf k bs
  IsSpent : bs ≡ plain item.Spent ∷ [] → IsTailOf k bs
  BreaksOffIn : (e : Entry) (head body : List Told) → IsTrue k.cuts → StepHead e head → Breaks (k.act (Some e)) (k.last (Some e)) body → bs ≡ head ++ body → IsTailOf k bs
  TakesOnly : (f l m : ℕ) (e : Entry) (known : Known) → IsTrue k.anywhere → bs ≡ takes f l m e known ∷ [] → IsTailOf k bs
  ReleasesOnly : (e : Entry) (head body : List Told) → IsTrue k.anywhere → StepHead e head → GroupsThenDone (k.act (Some e)) (FrontOf (k.release e)) body → bs ≡ head ++ body
      → IsTailOf k bs

-- turns, and a tail
unfoldable pub TurnsOf : Kinds → Bool → List Told → Type 0
unfolding Sequence
TurnsOf k nils bs = (turns tail : List Told) × Sequence (IsTurnOf k.act k.release nils) turns × IsTailOf k tail × (bs ≡ turns ++ tail)

-- a start and then turns, or a start that breaks off
pub data IsObjectList (k : Kinds) (nils : Bool) (bs : List Told) : Type 0 where
  Starts : (body : List Told) → GroupsThenDone (k.act None) (TurnsOf k nils) body → bs ≡ plain item.Begin ∷ body → IsObjectList k nils bs
  BreaksStart : (body : List Told) → IsTrue k.cuts → Breaks (k.act None) k.first body → bs ≡ plain item.Begin ∷ body → IsObjectList k nils bs

-- what may stand behind a step's first two records, where it isn't whole
pub data IsStepEnd (k : Kinds) (e : Entry) (body : List Told) : Type 0 where
  BreaksIt : IsTrue k.cuts → Breaks (k.act (Some e)) (k.last (Some e)) body → IsStepEnd k e body
  ReleasesIt : IsTrue k.anywhere → GroupsThenDone (k.act (Some e)) (FrontOf (k.release e)) body → IsStepEnd k e body

-- what may stand behind a start's `begin`
pub data IsStartEnd (k : Kinds) (nils : Bool) (body : List Told) : Type 0 where
  GoesOn : GroupsThenDone (k.act None) (TurnsOf k nils) body → IsStartEnd k nils body
  BreaksFirst : IsTrue k.cuts → Breaks (k.act None) k.first body → IsStartEnd k nils body
