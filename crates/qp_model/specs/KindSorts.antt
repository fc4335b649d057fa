-- The sort of a kind, and what it says of the records of that kind.
use Rattle.std.specs.Prelude.{ℕ, Bool, true, false, not, ◌&&◌, ◌||◌, List, slice_get, IsTrue}
use Rattle.std.specs.Option.{unwrap_or}
use Rattle.qp_model.specs.declared.bodies.Body.{Body}
use Rattle.qp_model.specs.declared.bodies.Body.TheVariants as body
use Rattle.qp_model.specs.Record.{body_at}
use Rattle.qp_model.specs.Notes.{is_note}
use Rattle.qp_model.specs.Ends.{is_assert}
use Rattle.qp_model.specs.Kinds.{Sort, Head, Note, Call, ByCode, sorts, BEGIN, TOOK, NIL, SEEN, RUN, NONE, EXIT, ENTER, INIT, SAY, DONE, NEW, SHORT, INC, DEC, BACK, POST, LIFO, FULL, PUB, LOCK, UNLOCK, DEFER, NODEFER, RECALL, NORECALL, FLUSH, SUB, UNSUB, SAME, ARM, DISARM, REARM, IDLE, TICK, FIRE, STIM, SETTLE, ASSERT, SPENT, SPILL, LOOK, REST}

-- the sort of a kind; what is no kind is no record either, as a head isn't
unfoldable pub sort_of : ℕ → Sort
sort_of kind = unwrap_or (slice_get sorts kind) Head

abbrev pub is_malformed : Body → Bool
is_malformed body.Malformed = true
is_malformed _ = false

-- the kind of the records that say this; 0 for what no record says
abbrev pub kind_in : Body → ℕ
kind_in body.Begin = BEGIN
kind_in (body.Took f l m e) = TOOK
kind_in (body.Nil f l m) = NIL
kind_in (body.Seen p f l m) = SEEN
kind_in (body.Run s k) = RUN
kind_in body.Unhandled = NONE
kind_in (body.Exit s) = EXIT
kind_in (body.Enter s) = ENTER
kind_in (body.Init s) = INIT
kind_in (body.Say v) = SAY
kind_in body.Done = DONE
kind_in (body.New p n b from sig pars) = NEW
kind_in (body.Short p n free reserve) = SHORT
kind_in (body.Inc p b r) = INC
kind_in (body.Dec p b d k) = DEC
kind_in (body.Back p n b to) = BACK
kind_in (body.Post a f l m e) = POST
kind_in (body.Lifo f l m e) = LIFO
kind_in (body.Full a f l m margin) = FULL
kind_in (body.Pub sig n set) = PUB
kind_in (body.Lock c) = LOCK
kind_in (body.Unlock c) = UNLOCK
kind_in (body.Defer e) = DEFER
kind_in body.NoDefer = NODEFER
kind_in (body.Recall e) = RECALL
kind_in body.NoRecall = NORECALL
kind_in (body.Flush e) = FLUSH
kind_in (body.Sub sig n) = SUB
kind_in (body.Unsub sig n) = UNSUB
kind_in (body.Same sig n) = SAME
kind_in (body.Arm t n ticks interval) = ARM
kind_in (body.Disarm t n former) = DISARM
kind_in (body.Rearm t n former ticks) = REARM
kind_in (body.Idle t n) = IDLE
kind_in (body.Tick t n c) = TICK
kind_in (body.Fire t n reload) = FIRE
kind_in (body.Stim i k) = STIM
kind_in body.Settle = SETTLE
kind_in (body.NoEntry a f l m) = ASSERT
kind_in (body.NoBlock p n free) = ASSERT
kind_in (body.Armed t n c) = ASSERT
kind_in (body.BadTicks t ticks interval) = ASSERT
kind_in (body.NoLifo a f l m) = ASSERT
kind_in body.Spent = SPENT
kind_in (body.Spill n) = SPILL
kind_in (body.Look k floor) = LOOK
kind_in (body.Rest k) = REST
kind_in body.Malformed = 0

-- a record of this sort may say so
abbrev pub is_of_sort : Sort → Body → Bool
is_of_sort Head b = false
is_of_sort Note b = is_note b
is_of_sort Call b = not (is_note b) && not (is_assert b)
is_of_sort ByCode b = is_assert b

-- whatever its numbers, a record says what its sort allows, or nothing
abbrev pub SortsHold : Type 0
SortsHold = (kind : ℕ) (nums : List ℕ) → IsTrue (is_malformed (body_at kind nums) || is_of_sort (sort_of kind) (body_at kind nums))
