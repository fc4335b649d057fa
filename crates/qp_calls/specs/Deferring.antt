-- Deferred lists, and what groups of calls do to them.
use Rattle.std.specs.Prelude.{◌≡◌, ℕ, ◌+◌, ◌<◌, ◌≤◌, nat_lt, Bool, List, [], ◌∷◌, ◌++◌, map, length, IsTrue, IsFalse, Ok, Err, Some, None}
use Rattle.std.specs.declared.option.Option.{Option}
use Rattle.std.specs.declared.result.Result.{Result}
use Rattle.std.specs.List.{list_all}
use Rattle.qp_model.specs.declared.systems.System.{System}
use Rattle.qp_model.specs.declared.bodies.Entry as model
use Rattle.qp_model.specs.declared.bodies.Body.TheVariants as item
use Rattle.qp_model.specs.Told.{Told, plain}
use Rattle.qp_model.specs.Calls as call
use Rattle.qp_model.specs.Calls.{Call, Answer}
use Rattle.qp_model.specs.Parts.{is_static}
use Rattle.qp_model.specs.Deferral.{KeepsDeferred, kept_after}
use Rattle.qp_model.specs.Shapes.{Fits, Drops, Recalls, Flushes}
use Rattle.qp_calls.specs.declared.answers.RoomFault.{RoomFault}
use Rattle.qp_calls.specs.declared.deferred.Deferred.{Deferred}
use Rattle.qp_calls.specs.declared.did.Did.{Did}
use Rattle.qp_calls.specs.declared.tokens.HeldEntry.{HeldEntry}
use Rattle.qp_calls.specs.declared.tokens.HeldEntry.TheVariants as token
use Rattle.qp_calls.specs.Tokens.{Token, with_entry, without_entry}
use Rattle.qp_calls.specs.Counting.{count_of}
use Rattle.qp_calls.specs.LaneView.{LaneView, Grows}
use Rattle.qp_calls.specs.Clauses.{IsFault, entry_of}
use Rattle.qp_calls.specs.Entries.{did_of, is_value}
use Rattle.qp_calls.specs.Groups.{Refused}

-- the references of entries
abbrev pub tokens_in : List model.Entry → List Token
tokens_in [] = []
tokens_in (e ∷ es) = with_entry e (tokens_in es)

-- the list as records state it
abbrev pub kept_in : Deferred → List model.Entry
kept_in list = map entry_of list.entries.items

abbrev pub is_named : System → HeldEntry → Bool
is_named sys (token.Static sig) = is_static sys sig
is_named sys (token.Pool h) = nat_lt 0 h.pool

-- the entries of a list may be handed in, each for itself
pub record StandAll (entries : List HeldEntry) (v : LaneView) : Type 0 where
  pub named : IsTrue (list_all (λ e. is_named v.sys e) entries)
  pub counts : (t : Token) → count_of t (tokens_in (map entry_of entries)) ≤ count_of t v.hands

-- the hands change as the list does
abbrev pub ChangeAlike : List model.Entry → List model.Entry → LaneView → LaneView → Type 0
ChangeAlike kept more old new =
    (t : Token) → count_of t new.hands + count_of t (tokens_in kept) ≡ count_of t old.hands + count_of t (tokens_in more)

-- the records of a call fit its answer, and the list is as they leave it
pub record AnswersKept (now : Option model.Entry) (c : Call) (d : Did) (kept more : Deferred) (old new : LaneView) : Type 0 where
  pub answer : Answer
  pub g : List Told
  pub said : d ≡ did_of answer
  pub grows : Grows g old new
  pub fits : Fits old.sys old.by now c answer g
  pub room : more.entries.capacity ≡ kept.entries.capacity
  pub keeps : KeepsDeferred kept.entries.capacity c g (kept_in kept) (kept_in more)
  pub hands : IsTrue (is_value d) → ChangeAlike (kept_in kept) (kept_in more) old new
  pub stand : StandAll more.entries.items new

-- the call answers, or `room` refused and nothing changed
abbrev pub DefersCall : Option model.Entry → Call → Deferred → Deferred → LaneView → LaneView → Result Did RoomFault → Type 0
DefersCall now c kept more old new (Ok d) = AnswersKept now c d kept more old new
DefersCall now c kept more old new (Err fault) = (more ≡ kept) × Refused fault old new

-- the oldest entry of a list was posted last-in, or found no entry; it is dropped, or left where that is an assertion
pub record RecallsOne (k : model.Entry) (d : Did) (old new : LaneView) : Type 0 where
  pub answer : Answer
  pub g : List Told
  pub said : d ≡ did_of answer
  pub grows : Grows (plain (item.Recall k) ∷ g) old new
  pub fits : Recalls old.by answer (plain (item.Recall k) ∷ g)
  pub calm : (room : ℕ) (kept : List model.Entry) → kept_after room kept g ≡ Some kept
  pub hands : IsTrue (is_value d) → new.hands ≡ without_entry k old.hands
  pub left : IsFalse (is_value d) → (t : Token) → count_of t old.hands ≤ count_of t new.hands

-- the oldest entry of a list was dropped
pub record FlushesEntry (kept more : Deferred) (old new : LaneView) : Type 0 where
  pub k : HeldEntry
  pub rel : List Told
  pub grows : Grows (plain (item.Flush (entry_of k)) ∷ rel) old new
  pub drops : Drops (entry_of k) rel
  pub items : kept.entries.items ≡ k ∷ more.entries.items
  pub room : more.entries.capacity ≡ kept.entries.capacity
  pub hands : new.hands ≡ without_entry (entry_of k) old.hands

abbrev pub FlushesOne : Deferred → Deferred → LaneView → LaneView → Result (Unit {0}) RoomFault → Type 0
FlushesOne kept more old new (Ok u) = FlushesEntry kept more old new
FlushesOne kept more old new (Err fault) = (more ≡ kept) × Refused fault old new

-- so many entries were dropped, the oldest first
pub record FlushesSome (n : ℕ) (kept more : Deferred) (old new : LaneView) : Type 0 where
  pub g : List Told
  pub grows : Grows g old new
  pub flushes : Flushes n g
  pub count : length kept.entries.items ≡ n + length more.entries.items
  pub room : more.entries.capacity ≡ kept.entries.capacity
  pub keeps : kept_after kept.entries.capacity (kept_in kept) g ≡ Some (kept_in more)
  pub hands : ChangeAlike (kept_in kept) (kept_in more) old new
  pub stand : StandAll more.entries.items new

-- Some of the list was flushed, the oldest first, before `room` refused, and some is left: a front of what a whole flush could add.
pub record FlushCut (kept more : Deferred) (old new : LaneView) : Type 0 where
  pub left : 0 < length more.entries.items
  pub answer : Answer
  pub g : List Told
  pub rest : List Told
  pub grows : Grows g old new
  pub fits : Fits old.sys old.by None call.Flush answer (g ++ rest)
  pub room : more.entries.capacity ≡ kept.entries.capacity
  pub keeps : kept_after kept.entries.capacity (kept_in kept) g ≡ Some (kept_in more)
  pub hands : ChangeAlike (kept_in kept) (kept_in more) old new
  pub stand : StandAll more.entries.items new

abbrev pub FlushesAll : Deferred → Deferred → LaneView → LaneView → Result Did RoomFault → Type 0
FlushesAll kept more old new (Ok d) = AnswersKept None call.Flush d kept more old new
FlushesAll kept more old new (Err fault) = FlushCut kept more old new × IsFault new fault
