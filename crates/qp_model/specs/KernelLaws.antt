-- What the kernel lane says of the order of steps, in the words of the subject.
use Rattle.std.specs.Prelude.{◌≡◌, ℕ, ◌+◌, ◌<◌, ◌≤◌, List, [], ◌∷◌, ◌++◌, ⊤}
use Rattle.std.specs.List.{AllByRecursion}
use Rattle.qp_model.specs.declared.systems.System.{System}
use Rattle.qp_model.specs.declared.bodies.Entry.{Entry}
use Rattle.qp_model.specs.declared.bodies.Body.TheVariants as body
use Rattle.qp_model.specs.Record.{Item}
use Rattle.qp_model.specs.KernelLane.{role_of, under_way_after, ceiling_of, floor_in, above}

-- the objects whose steps are under way after these records, the innermost first
unfoldable pub under_way : List ℕ → List Item → List ℕ
unfolding role_of
under_way running [] = running
under_way running (i ∷ is) = under_way (under_way_after running i.of (role_of i.body)) is

-- the number of the last `lock` or `unlock` of these records
unfoldable pub ceiling_on : ℕ → List Item → ℕ
unfolding role_of
ceiling_on ceiling [] = ceiling
ceiling_on ceiling (i ∷ is) = ceiling_on (ceiling_of ceiling (role_of i.body)) is

-- the floor after these records of lane 0
unfoldable pub floor_after : System → ℕ → List Item → ℕ
unfolding ceiling_on floor_in under_way
floor_after sys kernel before = floor_in sys kernel (under_way [] before) (ceiling_on 0 before)

-- a `seen` of an empty queue
abbrev pub IsEmptyLook : Item → Type 0
IsEmptyLook i = (p f l m : ℕ) × (i ≡ record { of = 0; body = body.Seen p f l m }) × (f + l ≤ m)

-- these records end with a look at the floor that stands there, and its last `seen` is of the queue of o and shows an entry
unfoldable pub EndsInLook : ℕ → List Item → ℕ → Type 0
EndsInLook floor before o =
    (front empties : List Item) × (n f l m : ℕ)
    × (before ≡ front ++ record { of = 0; body = body.Look n floor } ∷ empties ++ record { of = 0; body = body.Seen o f l m } ∷ [])
    × AllByRecursion IsEmptyLook empties × (m < f + l)

-- a step begins only right after a look that showed an entry of its queue, and only where its object is above the floor
unfoldable pub StepsBeginAbove : System → ℕ → List Item → Type 0
unfolding EndsInLook floor_after
StepsBeginAbove sys kernel lane =
    (before after : List Item) (o f l m : ℕ) (e : Entry) → lane ≡ before ++ record { of = o; body = body.Took f l m e } ∷ after
    → EndsInLook (floor_after sys kernel before) before o × (floor_after sys kernel before < o)

-- no step begins within another
unfoldable pub StepsStandAlone : List Item → Type 0
unfolding under_way
StepsStandAlone lane =
    (before after : List Item) (o f l m : ℕ) (e : Entry) → lane ≡ before ++ record { of = o; body = body.Took f l m e } ∷ after → under_way [] before ≡ []

-- `seen` of these objects in turn, each with an empty queue
abbrev pub SeesEach : List ℕ → List Item → Type 0
SeesEach [] [] = ⊤
SeesEach (p ∷ ps) (i ∷ is) = (f l m : ℕ) × (i ≡ record { of = 0; body = body.Seen p f l m }) × (f + l ≤ m) × SeesEach ps is
SeesEach _ _ = ⊥

-- the kernel rests only right after a look at the base that saw the queue of every object above 0 empty
unfoldable pub RestsWhereAllAreEmpty : System → List Item → Type 0
unfolding above
RestsWhereAllAreEmpty sys lane =
    (before after : List Item) (n : ℕ) → lane ≡ before ++ record { of = 0; body = body.Rest n } ∷ after
    → (front empties : List Item) × (k : ℕ) × (before ≡ front ++ record { of = 0; body = body.Look k 0 } ∷ empties) × SeesEach (above sys 0) empties
