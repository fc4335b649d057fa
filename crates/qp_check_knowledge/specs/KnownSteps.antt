-- The operations that give a block out or back, by how many of its own it had then.
use Rattle.std.specs.Prelude.{◌≡◌, ℕ, nat_le, List, [], ◌∷◌, if◌then◌else◌, Some, None}
use Rattle.std.specs.declared.option.Option.{Option}
use Rattle.std.specs.List.Sorted.{IsNonDecreasingBy}
use Rattle.qp_model.specs.declared.bodies.Body.{Body}
use Rattle.qp_model.specs.declared.bodies.Body.TheVariants.{New, Back}
use Rattle.qp_model.specs.Record.{Item}
use Rattle.qp_model.specs.Told.{Event}

-- how many operations the block had when it was given out or back
abbrev pub from_of : Body → ℕ
from_of (New p n c from sig pars) = from
from_of (Back p n c to) = to
from_of _ = 0

-- the event of a block that is given out; one that is given back has none
abbrev pub given_event : Body → Option Event
given_event (New p n c from sig pars) = Some (record { sig = sig; pars = pars })
given_event _ = None

abbrev pub given_from : ℕ → Option Event → Body → Option Event
given_from r e c = if nat_le (from_of c) r then given_event c else e

-- the event of the last of these operations at or before this number of the block's own
unfoldable pub last_from : ℕ → Option Event → List Item → Option Event
last_from r e [] = e
last_from r e (i ∷ is) = last_from r (given_from r e i.body) is

-- the steps tell the same of every number, and their numbers rise
pub record AreSteps (given steps : List Item) : Type 0 where
  pub same : (r : ℕ) → last_from r None steps ≡ last_from r None given
  pub rise : IsNonDecreasingBy (λ i. from_of i.body) steps
