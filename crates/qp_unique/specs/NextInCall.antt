-- The record by which a call goes on, by what the words hold.
use Rattle.std.specs.Prelude.{ℕ, zero, suc, ◌+◌, ◌-◌, ◌==◌, nat_lt, max, Bool, true, false, List, [], ◌∷◌, length, if◌then◌else◌, Some, None}
use Rattle.std.specs.declared.option.Option.{Option}
use Rattle.std.specs.Option.{unwrap_or, option_map}
use Rattle.qp_chart.specs.StateTree.{has}
use Rattle.qp_model.specs.declared.systems.System.{System}
use Rattle.qp_model.specs.declared.bodies.Entry.{Entry}
use Rattle.qp_model.specs.declared.bodies.Body.TheVariants as item
use Rattle.qp_model.specs.Record.{entry}
use Rattle.qp_model.specs.Told.{Told, plain, told_new, dropped, raised, same_in}
use Rattle.qp_model.specs.Calls as call
use Rattle.qp_model.specs.Calls.{Call, Granted}
use Rattle.qp_model.specs.Sites.{ring_of}
use Rattle.qp_model.specs.Parts.{is_static, sizes_of, first_pool, room_before, timer_number}
use Rattle.qp_model.specs.Shapes.{ticks_fit}
use Rattle.qp_model.specs.Lists.{without_one}
use Rattle.qp_model.specs.FreeBlocks.{Pool}
use Rattle.qp_model.specs.Line.{Line}
use Rattle.qp_model.specs.Subscribers.{bits_of_set}
use Rattle.qp_model.specs.TimeEvents.{Clock}
use Rattle.qp_check_calls.specs.CallState.{Ends, Goal, ToQueue, ToFront, ToDeferred, ToSet, CallStage, Begins, Refers, Puts, Raises, Restores, Drops, Returns, Flushes, Whole}
use Rattle.qp_unique.specs.Held.{WordsHeld}

-- a post that finds too few entries free is refused, or asserted where it asks for no margin
abbrev pub refused_at : Line → ℕ → Option ℕ → Told
refused_at s to None = plain (item.NoEntry to s.f s.l s.m)
refused_at s to (Some margin) = plain (item.Full to s.f s.l s.m margin)

-- a post
unfoldable pub post_told : ℕ → Line → ℕ → Option ℕ → Entry → Told
unfolding room_before
post_told ring s to margin e =
    if nat_lt (unwrap_or margin 0) (room_before ring (s.f + 1) s.l s.m) then plain (item.Post to (s.f + 1) s.l s.m e) else refused_at s to margin

-- a last-in post to the object's own queue
abbrev pub lifo_told : ℕ → Line → ℕ → Entry → Told
lifo_told ring s o e = if s.f + s.l - s.m == ring + 1 then plain (item.NoLifo o s.f s.l s.m) else plain (item.Lifo s.f (s.l + 1) s.m e)

-- an entry is put where the goal says
unfoldable pub put_told : System → WordsHeld → ℕ → Goal → Entry → Told
unfolding post_told ring_of
put_told sys h o (ToQueue to margin behind) e = post_told (ring_of sys to) (h.lines to) to margin e
put_told sys h o (ToFront recalled) e = lifo_told (ring_of sys o) (h.lines o) o e
put_told sys h o ToDeferred e = plain (item.Defer e)
put_told sys h o (ToSet sig) e = plain (item.Pub sig (h.sets sig).count (bits_of_set (h.sets sig).members))

-- a reference is made
abbrev pub refer_told : WordsHeld → ℕ → ℕ → Told
refer_told h p b = plain (item.Inc p b (h.blocks p b).count)

-- an entry's reference is dropped
abbrev pub drop_told : WordsHeld → Entry → Told
drop_told h e = dropped e.pool e.block (h.blocks e.pool e.block).count e.name (length (without_one e.name (h.blocks e.pool e.block).names))

-- a block comes back
abbrev pub return_told : WordsHeld → ℕ → ℕ → ℕ → Told
return_told h p b d = plain (item.Back p (h.pools p).count b (d + 1))

abbrev pub first_of_list : List ℕ → ℕ
first_of_list [] = 0
first_of_list (b ∷ bs) = b

-- too few blocks are free: a refusal where a reserve is asked for, else assertion 2
abbrev pub short_told : Pool → ℕ → Option ℕ → Told
short_told s p None = plain (item.NoBlock p s.count (length s.free))
short_told s p (Some reserve) = plain (item.Short p s.count (length s.free) reserve)

-- the least free block is given out
abbrev pub block_told : WordsHeld → ℕ → ℕ → List ℕ → Option ℕ → Told
block_told h p sig pars reserve =
    if nat_lt (unwrap_or reserve 0) (length (h.pools p).free)
    then told_new p (h.pools p).count (first_of_list (h.pools p).free) (h.lives p (first_of_list (h.pools p).free)).edge sig pars (length (h.pools p).free)
    else short_told (h.pools p) p reserve

-- a new event, static or not
unfoldable pub new_told : Bool → System → WordsHeld → ℕ → ℕ → List ℕ → Option ℕ → Goal → Option Told
unfolding first_pool put_told sizes_of
new_told true sys h o sig pars reserve goal = Some (put_told sys h o goal (entry 0 sig 0))
new_told false sys h o sig pars reserve goal = option_map (λ p. block_told h p sig pars reserve) (first_pool (sizes_of sys) (length pars))

-- another entry of an event
unfoldable pub again_told : ℕ → System → WordsHeld → ℕ → Goal → Entry → Told
unfolding put_told
again_told zero sys h o goal e = put_told sys h o goal e
again_told (suc p) sys h o goal e = refer_told h e.pool e.block

unfoldable pub now_told : System → WordsHeld → ℕ → Option Entry → Goal → Option Told
unfolding again_told
now_told sys h o now goal = option_map (λ e. again_told e.pool sys h o goal e) now

unfoldable pub defer_told : Bool → System → WordsHeld → ℕ → Option Entry → Option Told
unfolding now_told
defer_told true sys h o now = now_told sys h o now ToDeferred
defer_told false sys h o now = Some (plain item.NoDefer)

abbrev pub recall_told : List Entry → Told
recall_told [] = plain item.NoRecall
recall_told (k ∷ others) = plain (item.Recall k)

-- an object that is in the set needn't subscribe, and one that isn't needn't go
abbrev pub subscribe_told : WordsHeld → ℕ → ℕ → Told
subscribe_told h o sig = if has (h.sets sig).members o then same_in sig (h.sets sig).count true else plain (item.Sub sig (h.sets sig).count)

abbrev pub unsubscribe_told : WordsHeld → ℕ → ℕ → Told
unsubscribe_told h o sig = if has (h.sets sig).members o then plain (item.Unsub sig (h.sets sig).count) else same_in sig (h.sets sig).count false

-- a timer that is armed isn't armed again, and none is with values that no timer takes
unfoldable pub arm_told : Clock → ℕ → ℕ → ℕ → Told
unfolding ticks_fit
arm_told s t ticks interval =
    if ticks_fit ticks interval then (if s.counter == 0 then plain (item.Arm t s.count ticks interval) else plain (item.Armed t s.count s.counter))
    else plain (item.BadTicks t ticks interval)

unfoldable pub rearm_told : Clock → ℕ → ℕ → Told
unfolding ticks_fit
rearm_told s t ticks = if ticks_fit ticks 0 then plain (item.Rearm t s.count s.counter ticks) else plain (item.BadTicks t ticks 0)

abbrev pub disarm_told : Clock → ℕ → Told
disarm_told s t = if s.counter == 0 then plain (item.Idle t s.count) else plain (item.Disarm t s.count s.counter)

-- the first record of a call
unfoldable pub begin_told : System → WordsHeld → ℕ → Option Entry → List Entry → ℕ → Call → Option Told
unfolding arm_told defer_told is_static new_told now_told rearm_told timer_number
begin_told sys h o now kept room (call.Post to sig pars margin reserve) = new_told (is_static sys sig) sys h o sig pars reserve (ToQueue to margin (Ends Granted))
begin_told sys h o now kept room (call.Lifo sig pars reserve) = new_told (is_static sys sig) sys h o sig pars reserve (ToFront None)
begin_told sys h o now kept room (call.Forward to margin) = now_told sys h o now (ToQueue to margin (Ends Granted))
begin_told sys h o now kept room (call.Publish sig pars reserve) = new_told (is_static sys sig) sys h o sig pars reserve (ToSet sig)
begin_told sys h o now kept room call.Defer = defer_told (nat_lt (length kept) room) sys h o now
begin_told sys h o now kept room call.Recall = Some (recall_told kept)
begin_told sys h o now kept room call.Flush = None
begin_told sys h o now kept room (call.Subscribe sig) = Some (subscribe_told h o sig)
begin_told sys h o now kept room (call.Unsubscribe sig) = Some (unsubscribe_told h o sig)
begin_told sys h o now kept room (call.Arm t ticks interval) = Some (arm_told (h.clocks (timer_number sys.timers o t)) (timer_number sys.timers o t) ticks interval)
begin_told sys h o now kept room (call.Rearm t ticks) = Some (rearm_told (h.clocks (timer_number sys.timers o t)) (timer_number sys.timers o t) ticks)
begin_told sys h o now kept room (call.Disarm t) = Some (disarm_told (h.clocks (timer_number sys.timers o t)) (timer_number sys.timers o t))

-- the oldest deferred entry is flushed
abbrev pub flush_told : List Entry → Option Told
flush_told [] = None
flush_told (k ∷ others) = Some (plain (item.Flush k))

-- the next record of a call of o over this entry, with this deferred list; none where the call is whole
unfoldable pub stage_told : System → WordsHeld → ℕ → Option Entry → List Entry → CallStage → Option Told
unfolding begin_told put_told
stage_told sys h o now kept (Begins room x) = begin_told sys h o now kept room x
stage_told sys h o now kept (Refers p b goal) = Some (refer_told h p b)
stage_told sys h o now kept (Puts goal e) = Some (put_told sys h o goal e)
stage_told sys h o now kept (Raises own a others) = Some (raised (max h.ceiling a) h.ceiling)
stage_told sys h o now kept (Restores own former) = Some (plain (item.Unlock former))
stage_told sys h o now kept (Drops e behind) = Some (drop_told h e)
stage_told sys h o now kept (Returns p b d behind) = Some (return_told h p b d)
stage_told sys h o now kept (Flushes total) = flush_told kept
stage_told sys h o now kept (Whole answer) = None
