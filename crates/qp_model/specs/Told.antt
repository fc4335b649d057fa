-- A record with what the lane that made it knows and the record doesn't state.
use Rattle.std.specs.Prelude.{ℕ, Bool, List}
use Rattle.qp_model.specs.declared.bodies.Entry.{Entry}
use Rattle.qp_model.specs.declared.bodies.Body.{Body}
use Rattle.qp_model.specs.declared.bodies.Body.TheVariants.{Took, New, Dec, Lock, Same}
use Rattle.qp_model.specs.Record.{Item}

-- an event: its signal and its parameters
pub record Event : Type 0 where
  pub sig : ℕ
  pub pars : List ℕ

-- what is known beside a record
pub data Known : Type 0 where
  Nothing : Known
  -- the event of the entry taken
  OfEvent : (ev : Event) → Known
  -- the blocks that were free before a block was given out
  Free : (n : ℕ) → Known
  -- the references that were left when one was dropped
  Left : (n : ℕ) → Known
  -- the ceiling before it was raised
  Former : (ceiling : ℕ) → Known
  -- whether the object subscribes
  Member : (is : Bool) → Known

-- the record alone is `body`
pub record Told : Type 0 where
  pub body : Body
  pub known : Known

-- a record that states all
abbrev pub plain : Body → Told
plain b = record { body = b; known = Nothing }

-- a `took` with its event
abbrev pub told_took : ℕ → ℕ → ℕ → Entry → Event → Told
told_took f l m e ev = record { body = Took f l m e; known = OfEvent ev }

-- a `new` with the blocks that were free before it
abbrev pub told_new : ℕ → ℕ → ℕ → ℕ → ℕ → List ℕ → ℕ → Told
told_new p n b from sig pars free = record { body = New p n b from sig pars; known = Free free }

-- a `dec` with the references that it left
abbrev pub dropped : ℕ → ℕ → ℕ → ℕ → ℕ → Told
dropped p b d k left = record { body = Dec p b d k; known = Left left }

-- a `lock` with the ceiling before it in its lane
abbrev pub raised : ℕ → ℕ → Told
raised ceiling former = record { body = Lock ceiling; known = Former former }

-- a `same` with whether its object subscribes
abbrev pub same_in : ℕ → ℕ → Bool → Told
same_in sig n is = record { body = Same sig n; known = Member is }

-- a record as told, with the object that it is of
pub record ToldItem : Type 0 where
  pub of : ℕ
  pub told : Told

abbrev pub for_object : ℕ → Told → ToldItem
for_object o t = record { of = o; told = t }

-- a record without what is known beside it
abbrev pub untold : ToldItem → Item
untold t = record { of = t.of; body = t.told.body }
