-- What each call of a lane does.
use Rattle.std.specs.Prelude.{◌≡◌, ℕ, zero, suc, ◌+◌, ◌-◌, ◌<◌, ◌≤◌, ◌==◌, nat_lt, Bool, true, false, ◌&&◌, List, [], ◌∷◌, length, slice_get, get_or, IsTrue, IsFalse, Some, None, Ok, Err, ⊤, if◌then◌else◌}
use Rattle.std.specs.declared.option.Option.{Option}
use Rattle.std.specs.declared.result.Result.{Result}
use Rattle.std.specs.Bool.{MatchBool}
use Rattle.std.specs.List.{list_all}
use Rattle.std.specs.Option.{unwrap_or}
use Rattle.qp_base.specs.declared.event.Ev.{Ev}
use Rattle.qp_model.specs.declared.words.Word.{Word}
use Rattle.qp_model.specs.declared.words.Word.TheVariants as word
use Rattle.qp_model.specs.declared.systems.System.{System}
use Rattle.qp_model.specs.declared.systems.TimerDef.{TimerDef}
use Rattle.qp_model.specs.declared.bodies.Entry as model
use Rattle.qp_model.specs.declared.bodies.Body.{Body}
use Rattle.qp_model.specs.declared.bodies.Body.TheVariants.{Nil, Seen, Short, Inc, Back, Post, Lifo, Full, Pub, Sub, Unsub, Arm, Disarm, Rearm, Idle, Tick, Fire, NoEntry, NoBlock, Armed, NoLifo}
use Rattle.qp_model.specs.Record.{entry}
use Rattle.qp_model.specs.Told.{Told, ToldItem, Event, plain, told_took, told_new, dropped, same_in}
use Rattle.qp_model.specs.Sites.{ring_of}
use Rattle.qp_model.specs.Parts.{is_static, room_before, sizes_of, members, params_of}
use Rattle.qp_model.specs.WordLaw.{is_object}
use Rattle.qp_calls.specs.declared.tokens.Fresh.{Fresh}
use Rattle.qp_calls.specs.declared.tokens.HeldEntry.{HeldEntry}
use Rattle.qp_calls.specs.declared.tokens.HeldEntry.TheVariants as token
use Rattle.qp_calls.specs.declared.answers.RoomFault.{RoomFault}
use Rattle.qp_calls.specs.declared.answers.RoomFault.TheVariants as fault
use Rattle.qp_calls.specs.declared.answers.Counts as counts
use Rattle.qp_calls.specs.declared.answers.Give.{Give}
use Rattle.qp_calls.specs.declared.answers.Give.TheVariants as give
use Rattle.qp_calls.specs.declared.answers.Dec.{Dec}
use Rattle.qp_calls.specs.declared.answers.Dec.TheVariants as dec
use Rattle.qp_calls.specs.declared.answers.Claim.{Claim}
use Rattle.qp_calls.specs.declared.answers.Claim.TheVariants as claim
use Rattle.qp_calls.specs.declared.answers.Take.{Take}
use Rattle.qp_calls.specs.declared.answers.Take.TheVariants as take
use Rattle.qp_calls.specs.declared.answers.Arm as arming
use Rattle.qp_calls.specs.declared.answers.Arm.TheVariants as armed
use Rattle.qp_calls.specs.declared.answers.Tick as ticking
use Rattle.qp_calls.specs.declared.answers.Tick.TheVariants as ticked
use Rattle.qp_calls.specs.Tokens.{Hold, Held, Loose, stands}
use Rattle.qp_calls.specs.LaneView.{LaneView, Shown, FreeBlocks, References, Counts, NotShown, AddsTold, AddsOf, Looks, is_codeless}

-- Tokens and entries.

-- an entry as records state it
unfoldable pub entry_of : HeldEntry → model.Entry
entry_of (token.Static sig) = entry 0 sig 0
entry_of (token.Pool h) = entry h.pool h.block h.name

-- tokens that may be handed in: they stand in the hands
abbrev pub StandsHold : Hold → LaneView → Type 0
StandsHold h v = (0 < h.pool) × IsTrue (stands (Held h.pool h.block h.name) v.hands)

abbrev pub StandsFresh : Fresh → LaneView → Type 0
StandsFresh f v = (0 < f.pool) × IsTrue (stands (Loose f.pool f.block f.used) v.hands)

abbrev pub EntryStands : HeldEntry → LaneView → Type 0
EntryStands (token.Static sig) v = IsTrue (is_static v.sys sig)
EntryStands (token.Pool h) v = StandsHold h v

-- Events.

abbrev pub event_of : Ev → Event
event_of ev = record { sig = ev.sig; pars = ev.pars.items }

-- an event of the system
pub record IsEvent (sys : System) (ev : Event) : Type 0 where
  pub from : 4 ≤ ev.sig
  pub within : ev.sig < length sys.signals + 4
  pub params : length ev.pars ≡ params_of sys ev.sig

-- the blocks of the pool have room for the event
pub record FitsPool (sys : System) (pool : ℕ) (ev : Event) : Type 0 where
  pub event : IsEvent sys ev
  pub some : 0 < pool
  pub there : pool ≤ length sys.pools
  pub size : length ev.pars ≤ get_or (sizes_of sys) (pool - 1) 0

-- Tries: a call makes at most one more than others made operations on the word in it, by which the mark rose; `own` is 1
-- where it drew a number itself.
pub record FewTries (w : Word) (own before after : ℕ) (old new : LaneView) : Type 0 where
  pub up : before ≤ after
  pub few : after + old.mark w + own ≤ before + 1 + new.mark w

-- a number of the word was drawn, and the word then showed this
pub record Draws (w : Word) (x : Shown) (old new : LaneView) : Type 0 where
  pub up : old.mark w < new.mark w
  pub says : new.shown w ≡ x

-- Room.

-- the lane has no room for eight more records, or memory was refused where it has
abbrev pub IsFault : LaneView → RoomFault → Type 0
IsFault v fault.Memory = length v.told + 8 ≤ 1000000
IsFault v (fault.LaneFull len) = (len ≡ length v.told) × (1000000 < len + 8)

-- a lane is full exactly where it has no room for eight more records
abbrev pub Faults : LaneView → Result (Unit {0}) RoomFault → Type 0
Faults old (Ok u) = length old.told + 8 ≤ 1000000
Faults old (Err f) = IsFault old f

-- Blocks and references.

-- a block was given out, of which no reference stands, with more blocks free before it than the reserve
pub record GivesOut (pool : ℕ) (reserve : Option ℕ) (ev : Event) (f : Fresh) (old new : LaneView) : Type 0 where
  pub number : ℕ
  pub from : ℕ
  pub free : ℕ
  pub adds : AddsTold (told_new pool number f.block from ev.sig ev.pars free ∷ []) old new
  pub its_pool : f.pool ≡ pool
  pub unused : IsFalse f.used
  pub enough : IsTrue (nat_lt (unwrap_or reserve 0) free)
  pub draws : Draws (word.Pool pool) (FreeBlocks (free - 1)) old new
  pub was : old.mark (word.Pool pool) ≡ number → old.shown (word.Pool pool) ≡ FreeBlocks free
  pub bare : new.shown (word.Block pool f.block) ≡ References 0

-- the record of too few free blocks
abbrev pub shortage_of : Option ℕ → ℕ → ℕ → ℕ → Body
shortage_of (Some r) pool n free = Short pool n free r
shortage_of None pool n free = NoBlock pool n free

pub record GivesNone (pool : ℕ) (reserve : Option ℕ) (n free : ℕ) (old new : LaneView) : Type 0 where
  pub adds : AddsTold (plain (shortage_of reserve pool n free) ∷ []) old new
  pub few : free ≤ unwrap_or reserve 0
  pub says : new.shown (word.Pool pool) ≡ FreeBlocks free

abbrev pub GivesBlock : ℕ → Option ℕ → Event → LaneView → LaneView → Give → Type 0
GivesBlock pool reserve ev old new (give.Given f) = GivesOut pool reserve ev f old new
GivesBlock pool reserve ev old new (give.Short n free) = GivesNone pool reserve n free old new

abbrev pub draws_given : Give → ℕ
draws_given (give.Given f) = 1
draws_given (give.Short n free) = 0

-- a reference is made, after which so many stand
pub record Makes (p b count : ℕ) (old new : LaneView) (h : Hold) : Type 0 where
  pub adds : AddsTold (plain (Inc p b h.name) ∷ []) old new
  pub its_pool : h.pool ≡ p
  pub its_block : h.block ≡ b
  pub draws : Draws (word.Block p b) (References count) old new

-- another reference is made, and nothing in the hands but this changes
pub record MakesMore (h : Hold) (old new : LaneView) (made : Hold) : Type 0 where
  pub others : ℕ
  pub makes : Makes h.pool h.block (suc others) old new made
  pub hands : new.hands ≡ Held h.pool h.block made.name ∷ old.hands

-- the reference is dropped, and so many are left
pub record DropsOne (h : Hold) (left : ℕ) (old new : LaneView) : Type 0 where
  pub number : ℕ
  pub adds : AddsTold (dropped h.pool h.block number h.name left ∷ []) old new
  pub draws : Draws (word.Block h.pool h.block) (References left) old new

-- the block is used and loose where none is left
abbrev pub LetsGo : Hold → LaneView → LaneView → Dec → Type 0
LetsGo h old new dec.Kept = (others : ℕ) × DropsOne h (suc others) old new
LetsGo h old new (dec.Last f) = DropsOne h 0 old new × (f.pool ≡ h.pool) × (f.block ≡ h.block) × IsTrue f.used

-- the block comes back, after as many operations as the lane knows of it
pub record GoesBack (f : Fresh) (old new : LaneView) : Type 0 where
  pub number : ℕ
  pub others : ℕ
  pub adds : AddsTold (plain (Back f.pool number f.block (old.mark (word.Block f.pool f.block))) ∷ []) old new
  pub draws : Draws (word.Pool f.pool) (FreeBlocks (suc others)) old new

-- Queues.

-- on a lane that serves the object, the last-in posts and takes of its queue are the lane's own
abbrev pub AreOwn : ℕ → ℕ → ℕ → LaneView → Type 0
AreOwn a l m v = IsTrue (v.serves a) → (l ≡ (v.own a).l) × (m ≡ (v.own a).m)

-- what a call showed of the queue of a
pub record ShowsQueue (a f l m : ℕ) (new : LaneView) : Type 0 where
  pub says : new.shown (word.Queue a) ≡ Counts f l m
  pub own : AreOwn a l m new

-- an entry is posted; before it more entries were free than the margin
pub record PostsIt (to : ℕ) (e : HeldEntry) (margin : Option ℕ) (old new : LaneView) : Type 0 where
  pub f : ℕ
  pub l : ℕ
  pub m : ℕ
  pub adds : AddsTold (plain (Post to f l m (entry_of e)) ∷ []) old new
  pub enough : IsTrue (nat_lt (unwrap_or margin 0) (room_before (ring_of old.sys to) f l m))
  pub up : old.mark (word.Queue to) < new.mark (word.Queue to)
  pub shows : ShowsQueue to f l m new

-- the record of a post that finds too few free entries
abbrev pub refusal_of : Option ℕ → ℕ → ℕ → ℕ → ℕ → Body
refusal_of (Some k) to f l m = Full to f l m k
refusal_of None to f l m = NoEntry to f l m

pub record PostsNot (to : ℕ) (e same : HeldEntry) (margin : Option ℕ) (f l m : ℕ) (old new : LaneView) : Type 0 where
  pub adds : AddsTold (plain (refusal_of margin to f l m) ∷ []) old new
  pub given_back : same ≡ e
  pub few : ring_of old.sys to + 1 - (f + l - m) ≤ unwrap_or margin 0
  pub shows : ShowsQueue to f l m new

abbrev pub ClaimsEntry : ℕ → HeldEntry → Option ℕ → LaneView → LaneView → Claim → Type 0
ClaimsEntry to e margin old new claim.Done = PostsIt to e margin old new
ClaimsEntry to e margin old new (claim.Short same f l m) = PostsNot to e same margin f l m old new

abbrev pub draws_claimed : Claim → ℕ
draws_claimed claim.Done = 1
draws_claimed (claim.Short same f l m) = 0

-- a last-in post to the object's own queue, which had a free entry
pub record PutsFront (e : HeldEntry) (old new : LaneView) : Type 0 where
  pub f : ℕ
  pub l : ℕ
  pub m : ℕ
  pub adds : AddsTold (plain (Lifo f l m (entry_of e)) ∷ []) old new
  pub enough : f + (l - 1) - m ≤ ring_of old.sys old.by
  pub up : old.mark (word.Queue old.by) < new.mark (word.Queue old.by)
  pub shows : ShowsQueue old.by f l m new

pub record PutsNot (e same : HeldEntry) (f l m : ℕ) (old new : LaneView) : Type 0 where
  pub adds : AddsTold (plain (NoLifo old.by f l m) ∷ []) old new
  pub given_back : same ≡ e
  pub full : f + l - m ≡ ring_of old.sys old.by + 1
  pub shows : ShowsQueue old.by f l m new

abbrev pub ClaimsFront : HeldEntry → LaneView → LaneView → Claim → Type 0
ClaimsFront e old new claim.Done = PutsFront e old new
ClaimsFront e old new (claim.Short same f l m) = PutsNot e same f l m old new

-- a static event has its signal and no parameters
abbrev pub EventIs : HeldEntry → LaneView → Type 0
EventIs (token.Static sig) v = v.event (entry 0 sig 0) ≡ record { sig = sig; pars = [] }
EventIs (token.Pool h) v = ⊤

-- the front entry is taken; its event is one of the system
pub record TakesIt (me : ℕ) (e : HeldEntry) (old new : LaneView) : Type 0 where
  pub f : ℕ
  pub l : ℕ
  pub m : ℕ
  pub adds : AddsOf me (told_took f l m (entry_of e) (new.event (entry_of e)) ∷ []) old new
  pub some : m ≤ f + l
  pub up : old.mark (word.Queue me) < new.mark (word.Queue me)
  pub stands : EntryStands e new
  pub event : IsEvent new.sys (new.event (entry_of e))
  pub fixed : EventIs e new
  pub shows : ShowsQueue me f l m new

-- the counts that the lane's last `nil` of the queue of `me` showed
abbrev pub nil_by : ℕ → Shown → ℕ → Body → Shown
nil_by me x o (Nil f l m) = if o == me then Counts f l m else x
nil_by me x o _ = x

unfoldable pub last_nil : ℕ → Shown → List ToldItem → Shown
last_nil me x [] = x
last_nil me x (t ∷ ts) = last_nil me (nil_by me x t.of t.told.body) ts

abbrev pub same_counts : Shown → ℕ → ℕ → ℕ → Bool
same_counts (Counts f l m) g k n = (f == g) && (l == k) && (m == n)
same_counts _ g k n = false

-- the queue is empty, which the lane tells unless its last `nil` of it showed the same
pub record TakesNone (me f l m : ℕ) (old new : LaneView) : Type 0 where
  pub adds : MatchBool (same_counts (last_nil me NotShown old.told) f l m)
      (Looks (word.Queue me) (f + l + m) (Counts f l m) old new) (AddsOf me (plain (Nil f l m) ∷ []) old new)
  pub empty : f + l ≡ m
  pub shows : ShowsQueue me f l m new

abbrev pub Takes : ℕ → LaneView → LaneView → Take → Type 0
Takes me old new (take.Taken e) = TakesIt me e old new
Takes me old new (take.Empty f l m) = TakesNone me f l m old new

abbrev pub Sees : ℕ → LaneView → LaneView → counts.Counts → Type 0
Sees p old new c = AddsOf 0 (plain (Seen p c.f c.l c.m) ∷ []) old new × ShowsQueue p c.f c.l c.m new × (c.m ≤ c.f + c.l)

abbrev pub Counted : ℕ → LaneView → LaneView → counts.Counts → Type 0
Counted p old new c = Looks (word.Queue p) (c.f + c.l + c.m) (Counts c.f c.l c.m) old new × ShowsQueue p c.f c.l c.m new × (c.m ≤ c.f + c.l)

-- Signals.

-- a number of the word was drawn by this record
abbrev pub AddsDrawn : Word → (ℕ → Told) → LaneView → LaneView → Type 0
AddsDrawn w t old new = (n : ℕ) × AddsTold (t n ∷ []) old new × (old.mark w < new.mark w)

-- the answer tells whether the set changed
abbrev pub Subscribing : ℕ → LaneView → LaneView → Bool → Type 0
Subscribing sig old new true = AddsDrawn (word.Signal sig) (λ n. plain (Sub sig n)) old new
Subscribing sig old new false = (n : ℕ) × AddsTold (same_in sig n true ∷ []) old new

abbrev pub Unsubscribing : ℕ → LaneView → LaneView → Bool → Type 0
Unsubscribing sig old new true = AddsDrawn (word.Signal sig) (λ n. plain (Unsub sig n)) old new
Unsubscribing sig old new false = (n : ℕ) × AddsTold (same_in sig n false ∷ []) old new

-- the set shown, whose members are objects of the system
abbrev pub ReadsSubscribers : ℕ → LaneView → LaneView → ℕ → Type 0
ReadsSubscribers sig old new set =
    (n : ℕ) × AddsTold (plain (Pub sig n set) ∷ []) old new × IsTrue (list_all (λ a. is_object new.sys a) (members set))

-- Time events.

-- a timer of the object set by `by`
pub record Owns (v : LaneView) (t : ℕ) : Type 0 where
  pub some : 0 < t
  pub timer : TimerDef
  pub there : slice_get v.sys.timers (t - 1) ≡ Some timer
  pub owner : timer.object ≡ v.by

abbrev pub CallArms : ℕ → ℕ → ℕ → LaneView → LaneView → arming.Arm → Type 0
CallArms t ticks interval old new armed.Done = AddsDrawn (word.Timer t) (λ n. plain (Arm t n ticks interval)) old new
CallArms t ticks interval old new (armed.Armed n c) = AddsTold (plain (Armed t n c) ∷ []) old new × (0 < c)

abbrev pub draws_armed : arming.Arm → ℕ
draws_armed armed.Done = 1
draws_armed (armed.Armed n c) = 0

-- the answer is the former counter
abbrev pub CallDisarms : ℕ → LaneView → LaneView → ℕ → Type 0
CallDisarms t old new zero = (n : ℕ) × AddsTold (plain (Idle t n) ∷ []) old new
CallDisarms t old new (suc c) = AddsDrawn (word.Timer t) (λ n. plain (Disarm t n (suc c))) old new

abbrev pub draws_disarmed : ℕ → ℕ
draws_disarmed zero = 0
draws_disarmed (suc c) = 1

abbrev pub CallRearms : ℕ → ℕ → LaneView → LaneView → ℕ → Type 0
CallRearms t ticks old new former = AddsDrawn (word.Timer t) (λ n. plain (Rearm t n former ticks)) old new

-- a tick that changes the word is no object's
abbrev pub TickedTo : ℕ → (ℕ → Told) → LaneView → LaneView → Type 0
TickedTo t told old new =
    (n : ℕ) × AddsOf 0 (told n ∷ []) old new × (old.mark (word.Timer t) < new.mark (word.Timer t))

abbrev pub AnswersTick : ℕ → LaneView → LaneView → ticking.Tick → Type 0
AnswersTick t old new ticked.Idle = (n : ℕ) × AddsTold (plain (Idle t n) ∷ []) old new
AnswersTick t old new ticked.Down = (counter : ℕ) × (0 < counter) × TickedTo t (λ n. plain (Tick t n counter)) old new
AnswersTick t old new ticked.Fired = (reload : ℕ) × TickedTo t (λ n. plain (Fire t n reload)) old new

abbrev pub draws_ticked : ticking.Tick → ℕ
draws_ticked ticked.Idle = 0
draws_ticked ticked.Down = 1
draws_ticked ticked.Fired = 1

-- Stopping.

-- the code handed to `stop`
abbrev pub Stops : ℕ → LaneView → LaneView → Type 0
Stops code old new = new ≡ record old { stops = code ∷ old.stops }

-- The lane has asked once more. The code found, which is the one found before; nothing was found before and nothing handed in where none is found, by no lane of the world
abbrev pub Stopped : LaneView → LaneView → Option ℕ → Type 0
Stopped old new None =
    (new ≡ record old { asked = suc old.asked }) × (old.stops ≡ []) × (old.answered ≡ []) × IsTrue (list_all is_codeless old.aside.purses)
Stopped old new (Some code) =
    (new ≡ record old { answered = code ∷ old.answered; asked = suc old.asked }) × (0 < code) × (code ≤ 7)
    × IsTrue (list_all (λ c. c == code) old.answered)
