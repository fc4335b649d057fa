-- What contracts see of a lane, and how it grows.
use Rattle.std.specs.Prelude.{◌≡◌, ℕ, ◌+◌, ◌≤◌, ◌==◌, Bool, true, false, ◌&&◌, ◌||◌, List, [], ◌∷◌, ◌++◌, map, length, if◌then◌else◌, IsTrue, ⊤, Some, None}
use Rattle.std.specs.declared.option.Option.{Option}
use Rattle.std.specs.List.{AllByRecursion, list_any}
use Rattle.qp_model.specs.declared.stimulus.Stim.{Stim}
use Rattle.qp_model.specs.declared.words.Word.{Word}
use Rattle.qp_model.specs.declared.words.Word.TheVariants as word
use Rattle.qp_model.specs.declared.systems.System.{System}
use Rattle.qp_model.specs.declared.bodies.Entry.{Entry}
use Rattle.qp_model.specs.declared.bodies.Body.{Body}
use Rattle.qp_model.specs.declared.bodies.Body.TheVariants.{Took, New, Lifo}
use Rattle.qp_model.specs.Told.{Told, ToldItem, Event, for_object}
use Rattle.qp_model.specs.History.{touch_of, mark_of, same_word}
use Rattle.qp_model.specs.Knowing.{ceiling_after}
use Rattle.qp_model.specs.Sites.{blocks_of}
use Rattle.qp_model.specs.OneOrder.{Placed}
use Rattle.qp_calls.specs.Tokens.{Token, token_of, stands, handles, hands_after}

-- what the word of a pool, a block or a queue showed
pub data Shown : Type 0 where
  FreeBlocks : (n : ℕ) → Shown
  References : (n : ℕ) → Shown
  Counts : (f l m : ℕ) → Shown
  -- nothing is kept of the words of signals and timers
  NotShown : Shown

-- last-in posts and takes of one queue
pub record Own : Type 0 where
  pub l : ℕ
  pub m : ℕ

-- a stimulus that a look of the lane let happen in the lane of its source: how many records the lane had then, the source, and the records
pub record Happening : Type 0 where
  pub at : ℕ
  pub source : ℕ
  pub told : List Told

-- the spare of a lane, and its codes
pub record Purse : Type 0 where
  pub spare : ℕ
  pub stops : List ℕ
  pub answered : List ℕ

abbrev pub no_code : List ℕ → Bool
no_code [] = true
no_code (c ∷ cs) = false

-- the codes among answers, of which 0 tells of none
abbrev pub codes_in : List ℕ → List ℕ
codes_in [] = []
codes_in (c ∷ cs) = if c == 0 then codes_in cs else c ∷ codes_in cs

-- the lane neither handed in a code nor found one
abbrev pub is_codeless : Purse → Bool
is_codeless p = no_code p.stops && no_code p.answered

-- the other lanes of a world of one thread, by their numbers: what they tell, and their purses. The lane itself has nothing here.
pub record Aside : Type 0 where
  pub told : List (List ToldItem)
  pub purses : List Purse

pub record LaneView : Type 0 where
  -- The name of the table in which the lane stands: lanes of one world have the same. Each call keeps it, and the number of the lane, so that code over any
  -- lanes can hand one back to the table that it came from. A world of one thread has no name.
  pub world : List ℕ
  -- the system for which the lane was made
  pub sys : System
  pub told : List ToldItem
  pub spare : ℕ
  -- the object for which records are added, 0 for none
  pub by : ℕ
  pub serves : ℕ → Bool
  -- the codes handed to `stop`, and those that `stopped` answered
  pub stops : List ℕ
  pub answered : List ℕ
  -- how often the lane asked whether the run stops
  pub asked : ℕ
  -- the most operations of a word that the lane knows of, and what the word showed after them
  pub mark : Word → ℕ
  pub shown : Word → Shown
  -- the last-in posts and the takes of a queue that the lane serves
  pub own : ℕ → Own
  -- the event of an entry that the lane knows
  pub event : Entry → Event
  pub hands : List Token
  -- where sources act in the looks of the lane: the stimuli of each, and what has happened
  pub plan : List (List Stim)
  pub happened : List Happening
  -- in a world of one thread: the number of this lane, all records in the order in which they were made, and the other lanes, which no call
  -- of this lane changes. The log of a lane with a thread of its own has its own records.
  pub lane : ℕ
  pub log : List Placed
  pub aside : Aside

-- what a word shows before its first operation
abbrev pub first_shown : System → Word → Shown
first_shown sys (word.Pool p) = FreeBlocks (blocks_of sys p)
first_shown sys (word.Block p b) = References 0
first_shown sys (word.Queue a) = Counts 0 0 0
first_shown sys _ = NotShown

-- a lane that has done nothing yet
pub record IsNew (v : LaneView) : Type 0 where
  pub told : v.told ≡ []
  pub by : v.by ≡ 0
  pub stops : v.stops ≡ []
  pub answered : v.answered ≡ []
  pub asked : v.asked ≡ 0
  pub mark : (w : Word) → v.mark w ≡ 0
  pub shown : (w : Word) → v.shown w ≡ first_shown v.sys w
  pub own : (a : ℕ) → v.own a ≡ record { l = 0; m = 0 }
  pub hands : v.hands ≡ []
  pub happened : v.happened ≡ []

-- The marks.

abbrev pub mark_or : ℕ → Option ℕ → ℕ
mark_or n None = n
mark_or n (Some k) = k

-- a block that is given out shows its own word too
abbrev pub shown_from : Word → Body → Option ℕ
shown_from w (New p n b from sig pars) = if same_word (word.Block p b) w then Some from else None
shown_from w _ = None

-- the mark of a word after a record
unfoldable pub mark_by : Word → ℕ → ToldItem → ℕ
mark_by w n t = mark_or (mark_or n (mark_of w (touch_of t.of t.told.body))) (shown_from w t.told.body)

unfoldable pub mark_after : Word → ℕ → List ToldItem → ℕ
unfolding mark_by
mark_after w n [] = n
mark_after w n (t ∷ ts) = mark_after w (mark_by w n t) ts

-- a mark between what a lane knew of its word before it, and what it knows behind it
abbrev pub IsBetween : ℕ → ℕ → Option ℕ → Type 0
IsBetween low high None = ⊤
IsBetween low high (Some k) = (low ≤ k) × (k ≤ high)

-- so are the marks of these records on a word
abbrev pub AreBetween : Word → ℕ → ℕ → List ToldItem → Type 0
AreBetween w low high ts = AllByRecursion (λ t. IsBetween low high (mark_of w (touch_of t.of t.told.body))) ts

-- The last-in posts and takes of a queue.

abbrev pub own_of : ℕ → Own → ℕ → Body → Own
own_of a c o (Took f l m e) = if o == a then record { l = c.l; m = c.m + 1 } else c
own_of a c o (Lifo f l m e) = if o == a then record { l = c.l + 1; m = c.m } else c
own_of a c o _ = c

unfoldable pub own_after : ℕ → Own → List ToldItem → Own
own_after a c [] = c
own_after a c (t ∷ ts) = own_after a (own_of a c t.of t.told.body) ts

-- the ceiling of the lane: the number of its last `lock` or `unlock`, or 0
unfoldable pub ceiling_in : ℕ → List ToldItem → ℕ
ceiling_in c [] = c
ceiling_in c (t ∷ ts) = ceiling_in (ceiling_after c t.told.body) ts

-- a record of these handles this reference
abbrev pub handled_in : Token → List ToldItem → Bool
handled_in x ts = list_any (λ t. handles x t.told.body) ts

-- the lane knows the event of a static entry, of a reference in its hands, and of one that a record of its own or of another lane handled
unfoldable pub is_known : LaneView → Entry → Bool
unfolding stands
is_known v e =
    (e.pool == 0) || stands (token_of e) v.hands || handled_in (token_of e) v.told || list_any (handled_in (token_of e)) v.aside.told

-- a record as the log has it
abbrev pub placed_by : ℕ → ToldItem → Placed
placed_by lane t = record { lane = lane; item = record { of = t.of; body = t.told.body } }

-- These records come to the end of the lane. All but the spare follows from them.
pub record Gains (ts : List ToldItem) (old new : LaneView) : Type 0 where
  pub world : new.world ≡ old.world
  pub sys : new.sys ≡ old.sys
  pub told : new.told ≡ old.told ++ ts
  pub by : new.by ≡ old.by
  pub serves : (o : ℕ) → new.serves o ≡ old.serves o
  pub stops : new.stops ≡ old.stops
  pub answered : new.answered ≡ old.answered
  pub asked : new.asked ≡ old.asked
  pub mark : (w : Word) → new.mark w ≡ mark_after w (old.mark w) ts
  pub rise : (w : Word) → old.mark w ≤ new.mark w
  pub between : (w : Word) → AreBetween w (old.mark w) (new.mark w) ts
  pub shown : (w : Word) → new.mark w ≡ old.mark w → new.shown w ≡ old.shown w
  pub own : (a : ℕ) → new.own a ≡ own_after a (old.own a) ts
  pub event : (e : Entry) → IsTrue (is_known old e) → new.event e ≡ old.event e
  pub hands : new.hands ≡ hands_after old.hands ts
  pub plan : new.plan ≡ old.plan
  pub happened : new.happened ≡ old.happened
  pub lane : new.lane ≡ old.lane
  pub log : new.log ≡ old.log ++ map (placed_by old.lane) ts
  pub aside : new.aside ≡ old.aside

-- the same of records of object o, and of the object set by `by`
abbrev pub GrowsOf : ℕ → List Told → LaneView → LaneView → Type 0
GrowsOf o g old new = Gains (map (for_object o) g) old new

abbrev pub Grows : List Told → LaneView → LaneView → Type 0
Grows g old new = Gains (map (for_object old.by) g) old new

-- the same, by the spare of the lane
pub record AddsOf (o : ℕ) (g : List Told) (old new : LaneView) : Type 0 where
  pub grows : GrowsOf o g old new
  pub spare : new.spare + length g ≡ old.spare

abbrev pub AddsTold : List Told → LaneView → LaneView → Type 0
AddsTold g old new = AddsOf old.by g old new

-- only the spare may grow
pub record Roomier (old new : LaneView) : Type 0 where
  pub same : new ≡ record old { spare = new.spare }
  pub more : old.spare ≤ new.spare

-- the object set by `by` changes
abbrev pub Sets : ℕ → LaneView → LaneView → Type 0
Sets o old new = new ≡ record old { by = o }

-- the lane looks at a word and adds no record: its mark of the word may rise
pub record Looks (w : Word) (n : ℕ) (x : Shown) (old new : LaneView) : Type 0 where
  pub world : new.world ≡ old.world
  pub sys : new.sys ≡ old.sys
  pub told : new.told ≡ old.told
  pub spare : new.spare ≡ old.spare
  pub by : new.by ≡ old.by
  pub serves : (o : ℕ) → new.serves o ≡ old.serves o
  pub stops : new.stops ≡ old.stops
  pub answered : new.answered ≡ old.answered
  pub asked : new.asked ≡ old.asked
  pub here : new.mark w ≡ n
  pub rise : old.mark w ≤ n
  pub mark : (v : Word) → same_word w v ≡ false → new.mark v ≡ old.mark v
  pub says : new.shown w ≡ x
  pub shown : (v : Word) → new.mark v ≡ old.mark v → new.shown v ≡ old.shown v
  pub own : (a : ℕ) → new.own a ≡ old.own a
  pub event : (e : Entry) → IsTrue (is_known old e) → new.event e ≡ old.event e
  pub hands : new.hands ≡ old.hands
  pub plan : new.plan ≡ old.plan
  pub happened : new.happened ≡ old.happened
  pub lane : new.lane ≡ old.lane
  pub log : new.log ≡ old.log
  pub aside : new.aside ≡ old.aside

-- The lane went on: its records come behind those that it had, it knows of no word less, and each mark of the new records lies between what it
-- knew of the word and what it knows.
pub record AdvancesBy (told : List ToldItem) (mark : Word → ℕ) (told' : List ToldItem) (mark' : Word → ℕ) : Type 0 where
  pub more : List ToldItem
  pub grows : told' ≡ told ++ more
  pub rise : (w : Word) → mark w ≤ mark' w
  pub between : (w : Word) → AreBetween w (mark w) (mark' w) more

abbrev pub Advances : LaneView → LaneView → Type 0
Advances v w = AdvancesBy v.told v.mark w.told w.mark
