-- Publications.
use Rattle.std.specs.Prelude.{◌≡◌, ◌≢◌, ◌⊎◌, ℕ, ◌+◌, ◌<◌, ◌≤◌, Bool, List, [], ◌∷◌, ◌++◌, IsTrue, None, Ok, Err}
use Rattle.std.specs.declared.option.Option.{Option}
use Rattle.std.specs.declared.result.Result.{Result}
use Rattle.std.specs.List.{list_all}
use Rattle.qp_model.specs.declared.systems.System.{System}
use Rattle.qp_model.specs.declared.bodies.Entry as model
use Rattle.qp_model.specs.declared.bodies.Body.TheVariants as item
use Rattle.qp_model.specs.Told.{Told, Event, plain}
use Rattle.qp_model.specs.Calls as call
use Rattle.qp_model.specs.Calls.{Answer, Granted, AtQueue}
use Rattle.qp_model.specs.Parts.{is_static, members, sizes_of}
use Rattle.qp_model.specs.Sites.{ring_of}
use Rattle.qp_model.specs.Shapes.{Fits, Drops, MakesNew, PostsOne, PostsToAll, PostsUpTo, PublishesFirst, PublishesLast}
use Rattle.qp_model.specs.WordLaw.{is_object}
use Rattle.qp_model.specs.Stops as stop
use Rattle.qp_calls.specs.declared.answers.RoomFault.{RoomFault}
use Rattle.qp_calls.specs.declared.did.Did.{Did}
use Rattle.qp_calls.specs.declared.did.Did.TheVariants as did
use Rattle.qp_calls.specs.declared.publication.Publication.{Publication}
use Rattle.qp_calls.specs.declared.publication.Begun.{Begun}
use Rattle.qp_calls.specs.declared.publication.Begun.TheVariants as begun
use Rattle.qp_calls.specs.declared.tokens.HeldEntry.{HeldEntry}
use Rattle.qp_calls.specs.Tokens.{with_entry, without_entry}
use Rattle.qp_calls.specs.LaneView.{LaneView, Grows}
use Rattle.qp_calls.specs.Clauses.{IsFault, EntryStands, entry_of}
use Rattle.qp_calls.specs.Entries.{Unmade, did_of, is_value}
use Rattle.qp_calls.specs.Groups.{CallAnswers, Refused}

-- every member is an object
abbrev pub MembersAreObjects : System → ℕ → Type 0
MembersAreObjects sys set = IsTrue (list_all (λ a. is_object sys a) (members set))

-- a new event got its entry, and its subscribers were read
pub record Announced (fixed : Bool) (ev : Event) (reserve : Option ℕ) (made : HeldEntry) (set : ℕ) (old new : LaneView) : Type 0 where
  pub head : List Told
  pub number : ℕ
  pub grows : Grows (head ++ (plain (item.Pub ev.sig number set) ∷ [])) old new
  pub makes : MakesNew fixed (sizes_of old.sys) ev.sig ev.pars reserve head (entry_of made)
  pub stands : EntryStands made new
  pub hands : new.hands ≡ with_entry (entry_of made) old.hands
  pub objects : MembersAreObjects new.sys set
  pub spare : old.spare ≤ new.spare + 3

abbrev pub Announces : Bool → Event → Option ℕ → LaneView → LaneView → Result (HeldEntry × ℕ) Did → Type 0
Announces fixed ev reserve old new (Ok made) = Announced fixed ev reserve made.0 made.1 old new
Announces fixed ev reserve old new (Err d) = Unmade fixed ev reserve d old new

-- these notes came, at most one
pub record Marks (g : List Told) (old new : LaneView) : Type 0 where
  pub grows : Grows g old new
  pub hands : new.hands ≡ old.hands
  pub spare : old.spare ≤ new.spare + 1

-- the event of an entry was posted to one member, or its queue had no free entry
pub record PostsAgain (e : model.Entry) (to : ℕ) (d : Did) (old new : LaneView) : Type 0 where
  pub answer : Answer
  pub g : List Told
  pub said : d ≡ did_of answer
  pub grows : Grows g old new
  pub fits : PostsOne (ring_of old.sys to) e to answer g
  pub hands : IsTrue (is_value d) → new.hands ≡ old.hands

-- A handler's publication.

-- It has begun. A handler raises the ceiling where there are members: as no source does, which is object 0.
pub record BeginsGoing (ev : Event) (reserve : Option ℕ) (ceiling : ℕ) (p : Publication) (old new : LaneView) : Type 0 where
  pub g : List Told
  pub grows : Grows g old new
  pub fits : PublishesFirst (is_static old.sys ev.sig) (sizes_of old.sys) 1 ev.sig ev.pars reserve
      (entry_of p.entry) ceiling (members p.all) g
  pub left : p.left ≡ p.all
  pub former : p.former ≡ ceiling
  pub objects : MembersAreObjects new.sys p.all
  pub stands : EntryStands p.entry new
  pub hands : new.hands ≡ with_entry (entry_of p.entry) old.hands

abbrev pub Begins : Event → Option ℕ → ℕ → LaneView → LaneView → Result Begun RoomFault → Type 0
Begins ev reserve ceiling old new (Ok (begun.Going p)) = BeginsGoing ev reserve ceiling p old new
Begins ev reserve ceiling old new (Ok (begun.Did d)) = Unmade (is_static old.sys ev.sig) ev reserve d old new
Begins ev reserve ceiling old new (Err fault) = Refused fault old new

-- it was posted to the highest member left
pub record GoesOnGoing (p q : Publication) (old new : LaneView) : Type 0 where
  pub to : ℕ
  pub others : List ℕ
  pub first : members p.left ≡ to ∷ others
  pub rest : members q.left ≡ others
  pub same : q ≡ record p { left = q.left }
  pub g : List Told
  pub grows : Grows g old new
  pub fits : PostsOne (ring_of old.sys to) (entry_of p.entry) to Granted g
  pub stands : EntryStands q.entry new
  pub hands : new.hands ≡ old.hands

-- or that one's queue had no free entry
pub record GoesOnAssert (p : Publication) (d : Did) (old new : LaneView) : Type 0 where
  pub to : ℕ
  pub others : List ℕ
  pub first : members p.left ≡ to ∷ others
  pub said : d ≡ did.Assert 1
  pub g : List Told
  pub grows : Grows g old new
  pub fits : PostsOne (ring_of old.sys to) (entry_of p.entry) to AtQueue g

abbrev pub PublishingGoesOn : Publication → LaneView → LaneView → Result Begun RoomFault → Type 0
PublishingGoesOn p old new (Ok (begun.Going q)) = GoesOnGoing p q old new
PublishingGoesOn p old new (Ok (begun.Did d)) = GoesOnAssert p d old new
PublishingGoesOn p old new (Err fault) = Refused fault old new

-- it has ended
pub record EndsGoing (p : Publication) (d : Did) (old new : LaneView) : Type 0 where
  pub said : d ≡ did.Value 1
  pub g : List Told
  pub grows : Grows g old new
  pub fits : PublishesLast 1 (entry_of p.entry) p.former (members p.all) g
  pub hands : new.hands ≡ without_entry (entry_of p.entry) old.hands

abbrev pub EndsPublication : Publication → LaneView → LaneView → Result Did RoomFault → Type 0
EndsPublication p old new (Ok d) = EndsGoing p d old new
EndsPublication p old new (Err fault) = Refused fault old new

-- A source's publication.

-- the event of an entry was posted to all members, and the entry dropped
pub record PostsWhole (e : model.Entry) (all : ℕ) (old new : LaneView) : Type 0 where
  pub posts : List Told
  pub last : List Told
  pub grows : Grows (posts ++ last) old new
  pub fits : PostsToAll (λ a. ring_of old.sys a) e (members all) posts
  pub drops : Drops e last
  pub hands : new.hands ≡ without_entry e old.hands

-- or to those before one whose queue had no free entry
pub record PostsUpToFull (e : model.Entry) (all : ℕ) (old new : LaneView) : Type 0 where
  pub g : List Told
  pub grows : Grows g old new
  pub fits : PostsUpTo (λ a. ring_of old.sys a) e (members all) g

-- or to some, before `room` refused: a post or the release of the entry is missing
pub record PostsCut (e : model.Entry) (all : ℕ) (old new : LaneView) : Type 0 where
  pub g : List Told
  pub rest : List Told
  pub grows : Grows g old new
  pub fits : PostsToAll (λ a. ring_of old.sys a) e (members all) (g ++ rest)
  pub some : (0 < e.pool) ⊎ (rest ≢ [])

abbrev pub PostsAll : model.Entry → ℕ → LaneView → LaneView → Result Did RoomFault → Type 0
PostsAll e all old new (Ok (did.Value n)) = (n ≡ 1) × PostsWhole e all old new
PostsAll e all old new (Ok (did.Assert code)) = (code ≡ stop.no_entry) × PostsUpToFull e all old new
PostsAll e all old new (Err fault) = PostsCut e all old new × IsFault new fault

-- the posts so far
pub record PostsSome (e : model.Entry) (all left : ℕ) (old new : LaneView) : Type 0 where
  pub sent : List ℕ
  pub posts : List Told
  pub split : members all ≡ sent ++ members left
  pub grows : Grows posts old new
  pub fits : PostsToAll (λ a. ring_of old.sys a) e sent posts
  pub hands : new.hands ≡ old.hands

-- what was added is a front of a publication, of which something is missing
pub record PublishCut (ev : Event) (reserve : Option ℕ) (old new : LaneView) : Type 0 where
  pub answer : Answer
  pub g : List Told
  pub rest : List Told
  pub grows : Grows g old new
  pub fits : Fits old.sys 0 None (call.Publish ev.sig ev.pars reserve) answer (g ++ rest)
  pub some : rest ≢ []

abbrev pub PublishesAll : Event → Option ℕ → LaneView → LaneView → Result Did RoomFault → Type 0
PublishesAll ev reserve old new (Ok d) = CallAnswers old.sys 0 None (call.Publish ev.sig ev.pars reserve) d old new
PublishesAll ev reserve old new (Err fault) = PublishCut ev reserve old new × IsFault new fault
