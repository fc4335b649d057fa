-- What a record leaves to be read of a call's records.
use Rattle.std.specs.Prelude.{ℕ, zero, suc, ◌+◌, ◌==◌, nat_lt, max, Bool, true, false, not, ◌&&◌, List, [], ◌∷◌, ◌++◌, length, drop, if◌then◌else◌, Some, None, is_none}
use Rattle.std.specs.declared.option.Option.{Option}
use Rattle.std.specs.Option.{unwrap_or, option_map}
use Rattle.qp_model.specs.declared.systems.System.{System}
use Rattle.qp_model.specs.declared.bodies.Entry.{Entry}
use Rattle.qp_model.specs.declared.bodies.Body.{Body}
use Rattle.qp_model.specs.declared.bodies.Body.TheVariants as item
use Rattle.qp_model.specs.Record.{entry}
use Rattle.qp_model.specs.Line.{same_entry}
use Rattle.qp_model.specs.Told.{Told, Known, Nothing, Free, Left, Former, Member}
use Rattle.qp_model.specs.Calls as call
use Rattle.qp_model.specs.Calls.{Call, Answer, Granted, Refused, Flushed, AtQueue, AtPool, AtTimer, AtTicks, AtFront}
use Rattle.qp_model.specs.Sites.{ring_of}
use Rattle.qp_model.specs.Sources.{same_list}
use Rattle.qp_model.specs.Parts.{is_static, sizes_of, first_pool, room_before, members, timer_number}
use Rattle.qp_model.specs.Shapes.{ticks_fit}
use Rattle.qp_check_calls.specs.CallState.{Behind, Ends, FlushesOn, PublishesOn, Goal, ToQueue, ToFront, ToDeferred, ToSet, CallStage, Begins, Refers, Puts, Raises, Restores, Drops, Returns, Flushes, Whole, CallState}

-- this stage, where a test is passed
abbrev pub only : Bool → CallStage → Option CallStage
only passed s = if passed then Some s else None

-- the option has this number
abbrev pub is_of : Option ℕ → ℕ → Bool
is_of None n = false
is_of (Some k) n = k == n

-- the one of an event that is static, or the other
abbrev pub by_pool : ℕ → CallStage → CallStage → CallStage
by_pool zero still pooled = still
by_pool (suc p) still pooled = pooled

-- the release of an entry; a static event has none, and what is behind it comes at once
abbrev pub released : Entry → CallStage → Behind → CallStage
released e at_once behind = by_pool e.pool at_once (Drops e behind)

-- another entry of an event; of a static one it needs no reference
abbrev pub again : Goal → Entry → CallStage
again goal e = by_pool e.pool (Puts goal e) (Refers e.pool e.block goal)

-- the end of a publication: a ceiling that was raised is restored, and its own reference is released
abbrev pub restored : Entry → Option ℕ → CallStage
restored own None = released own (Whole Granted) (Ends Granted)
restored own (Some former) = Restores own former

-- the posts of a publication to these members, and its end
abbrev pub publishes_on : Entry → Option ℕ → List ℕ → CallStage
publishes_on own former [] = restored own former
publishes_on own former (a ∷ others) = again (ToQueue a None (PublishesOn own former others)) own

-- the posts of a publication behind its `pub`; a handler's raises the ceiling before them, and a source is object 0
abbrev pub raises : ℕ → Entry → List ℕ → CallStage
raises o own [] = restored own None
raises zero own (a ∷ others) = publishes_on own None (a ∷ others)
raises (suc o) own (a ∷ others) = Raises own a others

-- the flush of these entries
abbrev pub flushes_on : ℕ → List Entry → CallStage
flushes_on total [] = Whole (Flushed total)
flushes_on total (k ∷ ks) = Flushes total

-- what is behind a part of a call
abbrev pub goes_on : List Entry → Behind → CallStage
goes_on kept (Ends answer) = Whole answer
goes_on kept (FlushesOn total) = flushes_on total kept
goes_on kept (PublishesOn own former others) = publishes_on own former others

-- a reference is made
abbrev pub refer_next : ℕ → ℕ → Goal → Body → Known → Option CallStage
refer_next p b goal (item.Inc q c r) Nothing = only ((q == p) && (c == b)) (Puts goal (entry p b r))
refer_next p b goal body known = None

-- an entry is posted, or released where the margin isn't free, or assertion 1 comes
unfoldable pub queue_next : List Entry → ℕ → ℕ → Option ℕ → Behind → Entry → Body → Known → Option CallStage
unfolding room_before
queue_next kept ring to margin behind e (item.Post a f l m x) Nothing =
    only ((a == to) && same_entry x e && nat_lt (unwrap_or margin 0) (room_before ring f l m)) (goes_on kept behind)
queue_next kept ring to margin behind e (item.Full a f l m k) Nothing =
    only ((a == to) && is_of margin k) (released e (Whole Refused) (Ends Refused))
queue_next kept ring to margin behind e (item.NoEntry a f l m) Nothing = only ((a == to) && is_none margin) (Whole AtQueue)
queue_next kept ring to margin behind e body known = None

-- behind a last-in post
abbrev pub fronted : Option Entry → CallStage
fronted None = Whole Granted
fronted (Some k) = released k (Whole Granted) (Ends Granted)

abbrev pub front_next : ℕ → Option Entry → Entry → Body → Known → Option CallStage
front_next o recalled e (item.Lifo f l m x) Nothing = only (same_entry x e) (fronted recalled)
front_next o recalled e (item.NoLifo a f l m) Nothing = only (a == o) (Whole AtFront)
front_next o recalled e body known = None

abbrev pub deferred_next : Entry → Body → Known → Option CallStage
deferred_next e (item.Defer x) Nothing = only (same_entry x e) (Whole Granted)
deferred_next e body known = None

unfoldable pub set_next : ℕ → ℕ → Entry → Body → Known → Option CallStage
unfolding members
set_next o sig e (item.Pub s n set) Nothing = only (s == sig) (raises o e (members set))
set_next o sig e body known = None

-- an entry is put where the goal says
unfoldable pub put_next : System → ℕ → List Entry → Goal → Entry → Body → Known → Option CallStage
unfolding queue_next ring_of set_next
put_next sys o kept (ToQueue to margin behind) e body known = queue_next kept (ring_of sys to) to margin behind e body known
put_next sys o kept (ToFront recalled) e body known = front_next o recalled e body known
put_next sys o kept ToDeferred e body known = deferred_next e body known
put_next sys o kept (ToSet sig) e body known = set_next o sig e body known

abbrev pub raise_next : Entry → ℕ → List ℕ → Body → Known → Option CallStage
raise_next own a others (item.Lock ceiling) (Former former) = only (ceiling == max former a) (publishes_on own (Some former) (a ∷ others))
raise_next own a others body known = None

abbrev pub restore_next : Entry → ℕ → Body → Known → Option CallStage
restore_next own former (item.Unlock ceiling) Nothing = only (ceiling == former) (released own (Whole Granted) (Ends Granted))
restore_next own former body known = None

-- the block comes back exactly where no reference is left
abbrev pub left_over : List Entry → Entry → ℕ → Behind → ℕ → CallStage
left_over kept e d behind zero = Returns e.pool e.block d behind
left_over kept e d behind (suc left) = goes_on kept behind

abbrev pub drop_next : List Entry → Entry → Behind → Body → Known → Option CallStage
drop_next kept e behind (item.Dec p b d k) (Left left) =
    only ((p == e.pool) && (b == e.block) && (k == e.name)) (left_over kept e d behind left)
drop_next kept e behind body known = None

abbrev pub return_next : List Entry → ℕ → ℕ → ℕ → Behind → Body → Known → Option CallStage
return_next kept p b d behind (item.Back q n c to) Nothing = only ((q == p) && (c == b) && (to == d + 1)) (goes_on kept behind)
return_next kept p b d behind body known = None

-- the oldest entry is flushed
abbrev pub flushed_next : ℕ → Entry → List Entry → Body → Known → Option CallStage
flushed_next total k others (item.Flush e) Nothing = only (same_entry k e) (released k (flushes_on total others) (FlushesOn total))
flushed_next total k others body known = None

abbrev pub flush_next : List Entry → ℕ → Body → Known → Option CallStage
flush_next [] total body known = None
flush_next (k ∷ others) total body known = flushed_next total k others body known

-- a block is given out for an event that isn't static, or too few are there
unfoldable pub block_next : List ℕ → ℕ → List ℕ → Option ℕ → Goal → Body → Known → Option CallStage
unfolding first_pool
block_next sizes sig pars reserve goal (item.New p n b from s ps) (Free free) =
    only (is_of (first_pool sizes (length pars)) p && (s == sig) && same_list ps pars && nat_lt (unwrap_or reserve 0) free) (Refers p b goal)
block_next sizes sig pars reserve goal (item.NoBlock p n free) Nothing =
    only (is_of (first_pool sizes (length pars)) p && is_none reserve) (Whole AtPool)
block_next sizes sig pars reserve goal (item.Short p n free r) Nothing =
    only (is_of (first_pool sizes (length pars)) p && is_of reserve r) (Whole Refused)
block_next sizes sig pars reserve goal body known = None

-- a new event, static or not
unfoldable pub new_next : Bool → System → ℕ → List Entry → ℕ → List ℕ → Option ℕ → Goal → Body → Known → Option CallStage
unfolding block_next put_next sizes_of
new_next true sys o kept sig pars reserve goal body known = put_next sys o kept goal (entry 0 sig 0) body known
new_next false sys o kept sig pars reserve goal body known = block_next (sizes_of sys) sig pars reserve goal body known

-- another entry of an event
unfoldable pub event_next : ℕ → System → ℕ → List Entry → Goal → Entry → Body → Known → Option CallStage
unfolding put_next
event_next zero sys o kept goal e body known = put_next sys o kept goal e body known
event_next (suc p) sys o kept goal e body known = refer_next e.pool e.block goal body known

-- the same of the entry that a step works on; a start has none
unfoldable pub now_next : System → ℕ → Option Entry → List Entry → Goal → Body → Known → Option CallStage
unfolding event_next
now_next sys o None kept goal body known = None
now_next sys o (Some e) kept goal body known = event_next e.pool sys o kept goal e body known

abbrev pub full_next : Body → Known → Option CallStage
full_next item.NoDefer Nothing = Some (Whole Refused)
full_next body known = None

-- the entry that a step works on is deferred where the list has room
unfoldable pub defer_next : Bool → System → ℕ → Option Entry → List Entry → Body → Known → Option CallStage
unfolding now_next
defer_next true sys o now kept body known = now_next sys o now kept ToDeferred body known
defer_next false sys o now kept body known = full_next body known

abbrev pub none_next : Body → Known → Option CallStage
none_next item.NoRecall Nothing = Some (Whole Refused)
none_next body known = None

abbrev pub recalled_next : Entry → Body → Known → Option CallStage
recalled_next k (item.Recall e) Nothing = only (same_entry k e) (again (ToFront (Some k)) k)
recalled_next k body known = None

-- the oldest entry is recalled
abbrev pub recall_next : List Entry → Body → Known → Option CallStage
recall_next [] body known = none_next body known
recall_next (k ∷ others) body known = recalled_next k body known

abbrev pub subscribe_next : ℕ → Body → Known → Option CallStage
subscribe_next sig (item.Sub s n) Nothing = only (s == sig) (Whole Granted)
subscribe_next sig (item.Same s n) (Member true) = only (s == sig) (Whole Refused)
subscribe_next sig body known = None

abbrev pub unsubscribe_next : ℕ → Body → Known → Option CallStage
unsubscribe_next sig (item.Unsub s n) Nothing = only (s == sig) (Whole Granted)
unsubscribe_next sig (item.Same s n) (Member false) = only (s == sig) (Whole Refused)
unsubscribe_next sig body known = None

unfoldable pub arm_next : ℕ → ℕ → ℕ → Body → Known → Option CallStage
unfolding ticks_fit
arm_next t ticks interval (item.Arm u n k i) Nothing =
    only ((u == t) && (k == ticks) && (i == interval) && ticks_fit ticks interval) (Whole Granted)
arm_next t ticks interval (item.Armed u n c) Nothing = only ((u == t) && ticks_fit ticks interval) (Whole AtTimer)
arm_next t ticks interval (item.BadTicks u k i) Nothing =
    only ((u == t) && (k == ticks) && (i == interval) && not (ticks_fit ticks interval)) (Whole AtTicks)
arm_next t ticks interval body known = None

-- the answer tells whether the former counter isn't 0
abbrev pub was_armed : ℕ → Answer
was_armed zero = Refused
was_armed (suc former) = Granted

unfoldable pub rearm_next : ℕ → ℕ → Body → Known → Option CallStage
unfolding ticks_fit
rearm_next t ticks (item.Rearm u n former k) Nothing = only ((u == t) && (k == ticks) && ticks_fit ticks 0) (Whole (was_armed former))
rearm_next t ticks (item.BadTicks u k i) Nothing = only ((u == t) && (k == ticks) && (i == 0) && not (ticks_fit ticks 0)) (Whole AtTicks)
rearm_next t ticks body known = None

abbrev pub disarm_next : ℕ → Body → Known → Option CallStage
disarm_next t (item.Disarm u n former) Nothing = only (u == t) (Whole Granted)
disarm_next t (item.Idle u n) Nothing = only (u == t) (Whole Refused)
disarm_next t body known = None

-- the first record of a call
unfoldable pub begin_next : System → ℕ → Option Entry → List Entry → ℕ → Call → Body → Known → Option CallStage
unfolding arm_next defer_next is_static new_next now_next rearm_next timer_number
begin_next sys o now kept room (call.Post to sig pars margin reserve) body known =
    new_next (is_static sys sig) sys o kept sig pars reserve (ToQueue to margin (Ends Granted)) body known
begin_next sys o now kept room (call.Lifo sig pars reserve) body known =
    new_next (is_static sys sig) sys o kept sig pars reserve (ToFront None) body known
begin_next sys o now kept room (call.Forward to margin) body known = now_next sys o now kept (ToQueue to margin (Ends Granted)) body known
begin_next sys o now kept room (call.Publish sig pars reserve) body known =
    new_next (is_static sys sig) sys o kept sig pars reserve (ToSet sig) body known
begin_next sys o now kept room call.Defer body known = defer_next (nat_lt (length kept) room) sys o now kept body known
begin_next sys o now kept room call.Recall body known = recall_next kept body known
begin_next sys o now kept room call.Flush body known = None
begin_next sys o now kept room (call.Subscribe sig) body known = subscribe_next sig body known
begin_next sys o now kept room (call.Unsubscribe sig) body known = unsubscribe_next sig body known
begin_next sys o now kept room (call.Arm t ticks interval) body known = arm_next (timer_number sys.timers o t) ticks interval body known
begin_next sys o now kept room (call.Rearm t ticks) body known = rearm_next (timer_number sys.timers o t) ticks body known
begin_next sys o now kept room (call.Disarm t) body known = disarm_next (timer_number sys.timers o t) body known

-- the stage behind a record, where it fits; the list is the one before the record
unfoldable pub stage_next : System → ℕ → Option Entry → List Entry → CallStage → Body → Known → Option CallStage
unfolding begin_next put_next
stage_next sys o now kept (Begins room x) body known = begin_next sys o now kept room x body known
stage_next sys o now kept (Refers p b goal) body known = refer_next p b goal body known
stage_next sys o now kept (Puts goal e) body known = put_next sys o kept goal e body known
stage_next sys o now kept (Raises own a others) body known = raise_next own a others body known
stage_next sys o now kept (Restores own former) body known = restore_next own former body known
stage_next sys o now kept (Drops e behind) body known = drop_next kept e behind body known
stage_next sys o now kept (Returns p b d behind) body known = return_next kept p b d behind body known
stage_next sys o now kept (Flushes total) body known = flush_next kept total body known
stage_next sys o now kept (Whole answer) body known = None

-- the deferred list after a record that fits
abbrev pub list_after : List Entry → Body → List Entry
list_after kept (item.Defer e) = kept ++ e ∷ []
list_after kept (item.Recall e) = drop 1 kept
list_after kept (item.Flush e) = drop 1 kept
list_after kept body = kept

-- what is left behind a record, where it fits
unfoldable pub call_state_next : System → ℕ → Option Entry → CallState → Told → Option CallState
unfolding stage_next
call_state_next sys o now rest t =
    option_map (λ s. record { stage = s; kept = list_after rest.kept t.body }) (stage_next sys o now rest.kept rest.stage t.body t.known)

-- the stage of a call that begins; a flush of no entry is whole at once
abbrev pub stage_begin : ℕ → List Entry → Call → CallStage
stage_begin room kept call.Flush = flushes_on (length kept) kept
stage_begin room kept x = Begins room x

-- a call that begins with this deferred list, whose capacity is the room
abbrev pub call_state_begin : ℕ → List Entry → Call → CallState
call_state_begin room kept x = record { stage = stage_begin room kept x; kept = kept }

-- the answer of a call that is whole
abbrev pub stage_answer : CallStage → Option Answer
stage_answer (Whole answer) = Some answer
stage_answer s = None
