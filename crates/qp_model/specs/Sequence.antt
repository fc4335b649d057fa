-- Lists made of parts, one after another.
use Rattle.std.specs.Prelude.{◌≡◌, List, [], ◌∷◌, ◌++◌}

-- the parts joined, in order
unfoldable pub joined : {X : Type 0} → List (List X) → List X
joined [] = []
joined (part ∷ parts) = part ++ joined parts

-- each of the parts is one of these
unfoldable pub EachPart : {X : Type 0} → (List X → Type 0) → List (List X) → Type 0
EachPart P [] = Unit {0}
EachPart P (part ∷ parts) = P part × EachPart P parts

-- the list is such parts, one after another
unfoldable pub Sequence : {X : Type 0} → (List X → Type 0) → List X → Type 0
unfolding EachPart joined
Sequence {X} P xs = (parts : List (List X)) × EachPart P parts × (xs ≡ joined parts)
