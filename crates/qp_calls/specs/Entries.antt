-- Entries that are made, posted and dropped: the parts of groups.
use Rattle.std.specs.Prelude.{◌≡◌, ℕ, ◌+◌, ◌≤◌, Bool, true, false, List, [], IsTrue, IsFalse, Some, None, Ok, Err}
use Rattle.std.specs.declared.option.Option.{Option}
use Rattle.std.specs.declared.result.Result.{Result}
use Rattle.qp_model.specs.declared.bodies.Entry as model
use Rattle.qp_model.specs.Told.{Told, Event}
use Rattle.qp_model.specs.Calls.{Answer, Granted, Refused, Flushed, AtQueue, AtPool, AtTimer, AtTicks, AtFront}
use Rattle.qp_model.specs.Sites.{ring_of}
use Rattle.qp_model.specs.Parts.{sizes_of}
use Rattle.qp_model.specs.Shapes.{Drops, MakesNew, MakesAgain, NoBlockFor, Posts, PostsFront}
use Rattle.qp_calls.specs.declared.did.Did.{Did}
use Rattle.qp_calls.specs.declared.did.Did.TheVariants as did
use Rattle.qp_calls.specs.declared.tokens.HeldEntry.{HeldEntry}
use Rattle.qp_calls.specs.Tokens.{with_entry, without_entry}
use Rattle.qp_calls.specs.LaneView.{LaneView, Grows}
use Rattle.qp_calls.specs.Clauses.{EntryStands, entry_of}

-- what a group says of an answer
abbrev pub did_of : Answer → Did
did_of Granted = did.Value 1
did_of Refused = did.Value 0
did_of (Flushed n) = did.Value n
did_of AtQueue = did.Assert 1
did_of AtPool = did.Assert 2
did_of AtTimer = did.Assert 3
did_of AtTicks = did.Assert 4
did_of AtFront = did.Assert 5

abbrev pub is_value : Did → Bool
is_value (did.Value n) = true
is_value (did.Assert code) = false

-- a refusal answers 0 where a margin or a reserve was asked for, and else is this assertion
abbrev pub Refuses : Option ℕ → ℕ → Did → Type 0
Refuses (Some k) code d = d ≡ did.Value 0
Refuses None code d = d ≡ did.Assert code

-- the reference of an entry was dropped
pub record Released (e : model.Entry) (old new : LaneView) : Type 0 where
  pub g : List Told
  pub grows : Grows g old new
  pub drops : Drops e g
  pub hands : new.hands ≡ without_entry e old.hands

-- the same with at most two records
pub record Release (e : model.Entry) (old new : LaneView) : Type 0 where
  pub released : Released e old new
  pub spare : old.spare ≤ new.spare + 2

-- an entry that found no room was dropped, or left where that is an assertion
abbrev pub Unposted : Option ℕ → model.Entry → LaneView → LaneView → Type 0
Unposted (Some k) e old new = Released e old new
Unposted None e old new = new ≡ old

-- another entry of the same event was made, with a reference of its own
pub record Again (e : model.Entry) (made : HeldEntry) (old new : LaneView) : Type 0 where
  pub head : List Told
  pub grows : Grows head old new
  pub again : MakesAgain e head (entry_of made)
  pub stands : EntryStands made new
  pub hands : new.hands ≡ with_entry (entry_of made) old.hands
  pub spare : old.spare ≤ new.spare + 1

-- a new event got its entry
pub record Made (fixed : Bool) (ev : Event) (reserve : Option ℕ) (made : HeldEntry) (old new : LaneView) : Type 0 where
  pub head : List Told
  pub grows : Grows head old new
  pub makes : MakesNew fixed (sizes_of old.sys) ev.sig ev.pars reserve head (entry_of made)
  pub stands : EntryStands made new
  pub hands : new.hands ≡ with_entry (entry_of made) old.hands
  pub spare : old.spare ≤ new.spare + 2

-- too few blocks were there for it
pub record Unmade (fixed : Bool) (ev : Event) (reserve : Option ℕ) (d : Did) (old new : LaneView) : Type 0 where
  pub answer : Answer
  pub g : List Told
  pub said : d ≡ did_of answer
  pub grows : Grows g old new
  pub none : NoBlockFor fixed (sizes_of old.sys) ev.pars reserve answer g
  pub hands : new.hands ≡ old.hands

abbrev pub MakesEntry : Bool → Event → Option ℕ → LaneView → LaneView → Result HeldEntry Did → Type 0
MakesEntry fixed ev reserve old new (Ok made) = Made fixed ev reserve made old new
MakesEntry fixed ev reserve old new (Err d) = Unmade fixed ev reserve d old new

-- an entry was posted, as after an empty head
pub record PostsEntry (to : ℕ) (margin : Option ℕ) (e : model.Entry) (d : Did) (old new : LaneView) : Type 0 where
  pub answer : Answer
  pub g : List Told
  pub said : d ≡ did_of answer
  pub grows : Grows g old new
  pub fits : Posts (ring_of old.sys to) to margin [] e answer g
  pub hands : IsTrue (is_value d) → new.hands ≡ without_entry e old.hands

-- the same last-in
pub record PostsFirst (e : model.Entry) (d : Did) (old new : LaneView) : Type 0 where
  pub answer : Answer
  pub g : List Told
  pub said : d ≡ did_of answer
  pub grows : Grows g old new
  pub fits : PostsFront old.by [] e answer g
  pub hands : IsTrue (is_value d) → new.hands ≡ without_entry e old.hands
  pub left : IsFalse (is_value d) → new.hands ≡ old.hands
  pub spare : old.spare ≤ new.spare + 1
