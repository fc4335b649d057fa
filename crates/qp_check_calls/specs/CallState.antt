-- What is left to be read of the records of a call.
use Rattle.std.specs.Prelude.{ℕ, List}
use Rattle.std.specs.declared.option.Option.{Option}
use Rattle.qp_model.specs.declared.bodies.Entry.{Entry}
use Rattle.qp_model.specs.Calls.{Call, Answer}

-- what comes behind a part of a call
pub data Behind : Type 0 where
  -- nothing: the call ends with this answer
  Ends : (answer : Answer) → Behind
  -- the rest of a flush of so many entries
  FlushesOn : (total : ℕ) → Behind
  -- the posts of a publication to these members, and its end; the ceiling before it was raised, where it was
  PublishesOn : (own : Entry) (former : Option ℕ) (others : List ℕ) → Behind

-- where a call puts an entry
pub data Goal : Type 0 where
  ToQueue : (to : ℕ) (margin : Option ℕ) (behind : Behind) → Goal
  -- last-in; behind it a recall releases the entry that was deferred
  ToFront : (recalled : Option Entry) → Goal
  ToDeferred : Goal
  -- to each subscriber of the signal
  ToSet : (sig : ℕ) → Goal

pub data CallStage : Type 0 where
  -- the first record of a call that is no flush; the room is the capacity of the deferred list
  Begins : (room : ℕ) (x : Call) → CallStage
  -- a reference of a block, for an entry with this goal
  Refers : (p b : ℕ) (goal : Goal) → CallStage
  -- an entry is put where the goal says
  Puts : (goal : Goal) (e : Entry) → CallStage
  -- the ceiling is raised before the posts to these members
  Raises : (own : Entry) (a : ℕ) (others : List ℕ) → CallStage
  -- the ceiling is restored to this one
  Restores : (own : Entry) (former : ℕ) → CallStage
  -- an entry's reference is dropped
  Drops : (e : Entry) (behind : Behind) → CallStage
  -- a block comes back behind operation d
  Returns : (p b d : ℕ) (behind : Behind) → CallStage
  -- the next entry of a flush
  Flushes : (total : ℕ) → CallStage
  -- nothing
  Whole : (answer : Answer) → CallStage

-- the stage of a call, and the deferred list before its next record
pub record CallState : Type 0 where
  pub stage : CallStage
  pub kept : List Entry
