-- A call that has what it asks for stays open.
use Rattle.std.proofs.Common.{◌≡◌, ℕ, zero, suc, ◌+◌, ◌==◌, nat_lt, max, Bool, true, false, not, ◌&&◌, List, [], ◌∷◌, ◌++◌, length, Some, None, is_none, IsTrue, refl, subst}
use Rattle.std.specs.declared.option.Option.{Option}
use Rattle.std.specs.Option.{option_map, unwrap_or}
use Rattle.qp_model.specs.declared.systems.System.{System}
use Rattle.qp_model.specs.declared.bodies.Entry.{Entry}
use Rattle.qp_model.specs.declared.bodies.Body.{Body}
use Rattle.qp_model.specs.declared.bodies.Body.TheVariants as item
use Rattle.qp_model.specs.Record.{entry}
use Rattle.qp_model.specs.Line.{same_entry}
use Rattle.qp_model.specs.Sources.{same_list}
use Rattle.qp_model.specs.Told.{Known, Nothing, Free, Left, Former, Member}
use Rattle.qp_model.specs.Calls as call
use Rattle.qp_model.specs.Calls.{Call, Answer, Granted, Refused, AtQueue, AtTimer, AtTicks, AtFront}
use Rattle.qp_model.specs.Sites.{ring_of}
use Rattle.qp_model.specs.Parts.{is_static, sizes_of, first_pool, room_before, members, timer_number}
use Rattle.qp_model.specs.Shapes.{ticks_fit}
use Rattle.qp_check_calls.specs.CallState.{Behind, Ends, FlushesOn, PublishesOn, Goal, ToQueue, ToFront, ToDeferred, ToSet, CallStage, Begins, Refers, Puts, Raises, Restores, Drops, Returns, Flushes, Whole}
use Rattle.qp_check_calls.specs.CallStateNext.{only, is_of, by_pool, released, again, restored, publishes_on, raises, flushes_on, goes_on, refer_next, queue_next, fronted, front_next, deferred_next, set_next, put_next, raise_next, restore_next, left_over, drop_next, return_next, flush_next, block_next, new_next, event_next, now_next, full_next, defer_next, recall_next, subscribe_next, unsubscribe_next, arm_next, was_armed, rearm_next, disarm_next, begin_next, stage_next, list_after, call_state_next}
use Rattle.qp_check_calls.specs.Reads.{stage_open, IsOpen, call_able}
use Rattle.qp_check_calls.specs.CallStateLaws.{OpenBegin, OpenNext}

module _ (sys : System) (now : Option Entry) where
  abbrev Opens : List Entry → CallStage → Type 0
  Opens kept s = stage_open sys now kept s ≡ true

  only-open : (kept : List Entry) (passed : Bool) (s next : CallStage) → Opens kept s → only passed s ≡ Some next → Opens kept next
  only-open kept true s next h is = let same : s ≡ next = cc in subst (λ x. Opens kept x) same h
  only-open kept false s next h is = absurd (cc)

  pool-open : (kept : List Entry) (p : ℕ) (s r : CallStage) → Opens kept s → Opens kept r → Opens kept (by_pool p s r)
  pool-open kept zero s r h k = h
  pool-open kept (suc p) s r h k = k

  again-open : (kept : List Entry) (goal : Goal) (e : Entry) → Opens kept (again goal e)
  unfolding stage_open
  again-open kept goal e = pool-open kept e.pool _ _ refl refl

  release-open : (kept : List Entry) (e : Entry) (b : Answer) → Opens kept (released e (Whole b) (Ends b))
  unfolding stage_open
  release-open kept e b = pool-open kept e.pool _ _ refl refl

  restored-open : (kept : List Entry) (own : Entry) (former : Option ℕ) → Opens kept (restored own former)
  unfolding stage_open
  restored-open kept own None = release-open kept own Granted
  restored-open kept own (Some former) = refl

  publishes-open : (kept : List Entry) (own : Entry) (former : Option ℕ) (ms : List ℕ) → Opens kept (publishes_on own former ms)
  publishes-open kept own former [] = restored-open kept own former
  publishes-open kept own former (m ∷ others) = again-open kept _ own

  raises-open : (kept : List Entry) (o : ℕ) (own : Entry) (ms : List ℕ) → Opens kept (raises o own ms)
  unfolding stage_open
  raises-open kept o own [] = restored-open kept own None
  raises-open kept zero own (m ∷ others) = publishes-open kept own None (m ∷ others)
  raises-open kept (suc o) own (m ∷ others) = refl

  flushes-open : (kept : List Entry) (total : ℕ) → Opens kept (flushes_on total kept)
  unfolding stage_open
  flushes-open [] total = refl
  flushes-open (x ∷ xs) total = refl

  goes-open : (kept : List Entry) (behind : Behind) → Opens kept (goes_on kept behind)
  unfolding stage_open
  goes-open kept (Ends b) = refl
  goes-open kept (FlushesOn total) = flushes-open kept total
  goes-open kept (PublishesOn own former others) = publishes-open kept own former others

  left-open : (kept : List Entry) (e : Entry) (d : ℕ) (behind : Behind) (left : ℕ) → Opens kept (left_over kept e d behind left)
  unfolding stage_open
  left-open kept e d behind zero = refl
  left-open kept e d behind (suc left) = goes-open kept behind

  fronted-open : (kept : List Entry) (recalled : Option Entry) → Opens kept (fronted recalled)
  unfolding stage_open
  fronted-open kept None = refl
  fronted-open kept (Some k) = release-open kept k Granted

  whole-open : (kept : List Entry) (b : Answer) → Opens kept (Whole b)
  unfolding stage_open
  whole-open kept b = refl

  refer-open : (kept : List Entry) (p b : ℕ) (goal : Goal) (body : Body) (known : Known) (next : CallStage) → refer_next p b goal body known ≡ Some next
      → Opens (list_after kept body) next
  unfolding stage_open
  refer-open kept p b goal (item.Inc q c r) Nothing next h = only-open kept ((q == p) && (c == b)) _ next refl h
  refer-open kept p b goal body known next h = absurd (cc)

  queue-open : (kept : List Entry) (ring to : ℕ) (margin : Option ℕ) (behind : Behind) (e : Entry) (body : Body) (known : Known) (next : CallStage)
      → queue_next kept ring to margin behind e body known ≡ Some next → Opens (list_after kept body) next
  unfolding queue_next
  queue-open kept ring to margin behind e (item.Post a f l m x) Nothing next h =
      only-open kept ((a == to) && same_entry x e && nat_lt (unwrap_or margin 0) (room_before ring f l m)) _ next (goes-open kept behind) h
  queue-open kept ring to margin behind e (item.Full a f l m k) Nothing next h = only-open kept ((a == to) && is_of margin k) _ next (release-open kept e Refused) h
  queue-open kept ring to margin behind e (item.NoEntry a f l m) Nothing next h = only-open kept ((a == to) && is_none margin) _ next (whole-open kept AtQueue) h
  queue-open kept ring to margin behind e body known next h = absurd (cc)

  front-open : (kept : List Entry) (o : ℕ) (recalled : Option Entry) (e : Entry) (body : Body) (known : Known) (next : CallStage)
      → front_next o recalled e body known ≡ Some next → Opens (list_after kept body) next
  front-open kept o recalled e (item.Lifo f l m x) Nothing next h = only-open kept (same_entry x e) _ next (fronted-open kept recalled) h
  front-open kept o recalled e (item.NoLifo a f l m) Nothing next h = only-open kept (a == o) _ next (whole-open kept AtFront) h
  front-open kept o recalled e body known next h = absurd (cc)

  deferred-open : (kept : List Entry) (e : Entry) (body : Body) (known : Known) (next : CallStage) → deferred_next e body known ≡ Some next → Opens (list_after kept body) next
  deferred-open kept e (item.Defer x) Nothing next h = only-open (kept ++ x ∷ []) (same_entry x e) _ next (whole-open (kept ++ x ∷ []) Granted) h
  deferred-open kept e body known next h = absurd (cc)

  set-open : (kept : List Entry) (o sig : ℕ) (e : Entry) (body : Body) (known : Known) (next : CallStage) → set_next o sig e body known ≡ Some next
      → Opens (list_after kept body) next
  unfolding set_next
  set-open kept o sig e (item.Pub s n set) Nothing next h = only-open kept (s == sig) _ next (raises-open kept o e (members set)) h
  set-open kept o sig e body known next h = absurd (cc)

  put-open : (o : ℕ) (kept : List Entry) (goal : Goal) (e : Entry) (body : Body) (known : Known) (next : CallStage) → put_next sys o kept goal e body known ≡ Some next
      → Opens (list_after kept body) next
  unfolding put_next
  put-open o kept (ToQueue to margin behind) e body known next h = queue-open kept (ring_of sys to) to margin behind e body known next h
  put-open o kept (ToFront recalled) e body known next h = front-open kept o recalled e body known next h
  put-open o kept ToDeferred e body known next h = deferred-open kept e body known next h
  put-open o kept (ToSet sig) e body known next h = set-open kept o sig e body known next h

  raise-open : (kept : List Entry) (own : Entry) (a : ℕ) (others : List ℕ) (body : Body) (known : Known) (next : CallStage) → raise_next own a others body known ≡ Some next
      → Opens (list_after kept body) next
  raise-open kept own a others (item.Lock ceiling) (Former former) next h =
      only-open kept (ceiling == max former a) _ next (publishes-open kept own (Some former) (a ∷ others)) h
  raise-open kept own a others body known next h = absurd (cc)

  restore-open : (kept : List Entry) (own : Entry) (former : ℕ) (body : Body) (known : Known) (next : CallStage) → restore_next own former body known ≡ Some next
      → Opens (list_after kept body) next
  restore-open kept own former (item.Unlock ceiling) Nothing next h = only-open kept (ceiling == former) _ next (release-open kept own Granted) h
  restore-open kept own former body known next h = absurd (cc)

  drop-open : (kept : List Entry) (e : Entry) (behind : Behind) (body : Body) (known : Known) (next : CallStage) → drop_next kept e behind body known ≡ Some next
      → Opens (list_after kept body) next
  drop-open kept e behind (item.Dec p b d k) (Left left) next h =
      only-open kept ((p == e.pool) && (b == e.block) && (k == e.name)) _ next (left-open kept e d behind left) h
  drop-open kept e behind body known next h = absurd (cc)

  return-open : (kept : List Entry) (p b d : ℕ) (behind : Behind) (body : Body) (known : Known) (next : CallStage) → return_next kept p b d behind body known ≡ Some next
      → Opens (list_after kept body) next
  return-open kept p b d behind (item.Back q n c to) Nothing next h = only-open kept ((q == p) && (c == b) && (to == d + 1)) _ next (goes-open kept behind) h
  return-open kept p b d behind body known next h = absurd (cc)

  flush-open : (kept : List Entry) (total : ℕ) (body : Body) (known : Known) (next : CallStage) → flush_next kept total body known ≡ Some next
      → Opens (list_after kept body) next
  unfolding stage_open
  flush-open [] total body known next h = absurd (cc)
  flush-open (k ∷ others) total (item.Flush e) Nothing next h =
      only-open others (same_entry k e) _ next (pool-open others k.pool _ _ (flushes-open others total) refl) h
  flush-open (k ∷ others) total body known next h = absurd (cc)

  block-open : (kept : List Entry) (sizes : List ℕ) (sig : ℕ) (pars : List ℕ) (reserve : Option ℕ) (goal : Goal) (body : Body) (known : Known) (next : CallStage)
      → block_next sizes sig pars reserve goal body known ≡ Some next → Opens (list_after kept body) next
  unfolding block_next stage_open
  block-open kept sizes sig pars reserve goal (item.New p n b from s ps) (Free free) next h =
      only-open kept (is_of (first_pool sizes (length pars)) p && (s == sig) && same_list ps pars && nat_lt (unwrap_or reserve 0) free) _ next refl h
  block-open kept sizes sig pars reserve goal (item.NoBlock p n free) Nothing next h =
      only-open kept (is_of (first_pool sizes (length pars)) p && is_none reserve) _ next refl h
  block-open kept sizes sig pars reserve goal (item.Short p n free r) Nothing next h =
      only-open kept (is_of (first_pool sizes (length pars)) p && is_of reserve r) _ next refl h
  block-open kept sizes sig pars reserve goal body known next h = absurd (cc)

  new-open : (fixed : Bool) (o : ℕ) (kept : List Entry) (sig : ℕ) (pars : List ℕ) (reserve : Option ℕ) (goal : Goal) (body : Body) (known : Known) (next : CallStage)
      → new_next fixed sys o kept sig pars reserve goal body known ≡ Some next → Opens (list_after kept body) next
  unfolding new_next
  new-open true o kept sig pars reserve goal body known next h = put-open o kept goal (entry 0 sig 0) body known next h
  new-open false o kept sig pars reserve goal body known next h = block-open kept (sizes_of sys) sig pars reserve goal body known next h

  now-open : (had : Option Entry) (o : ℕ) (kept : List Entry) (goal : Goal) (body : Body) (known : Known) (next : CallStage) → now_next sys o had kept goal body known ≡ Some next
      → Opens (list_after kept body) next
  unfolding now_next event_next
  now-open None o kept goal body known next h = absurd (cc)
  now-open (Some e) o kept goal body known next h = by e.pool h
    where
      by : (p : ℕ) → event_next p sys o kept goal e body known ≡ Some next → Opens (list_after kept body) next
      by zero h = put-open o kept goal e body known next h
      by (suc p) h = refer-open kept e.pool e.block goal body known next h

  full-open : (kept : List Entry) (body : Body) (known : Known) (next : CallStage) → full_next body known ≡ Some next → Opens (list_after kept body) next
  full-open kept item.NoDefer Nothing next h = only-open kept true (Whole Refused) next (whole-open kept Refused) h
  full-open kept body known next h = absurd (cc)

  defer-open : (free : Bool) (o : ℕ) (kept : List Entry) (body : Body) (known : Known) (next : CallStage) → defer_next free sys o now kept body known ≡ Some next
      → Opens (list_after kept body) next
  unfolding defer_next
  defer-open true o kept body known next h = now-open now o kept ToDeferred body known next h
  defer-open false o kept body known next h = full-open kept body known next h

  recall-open : (kept : List Entry) (body : Body) (known : Known) (next : CallStage) → recall_next kept body known ≡ Some next → Opens (list_after kept body) next
  recall-open [] item.NoRecall Nothing next h = only-open [] true (Whole Refused) next (whole-open [] Refused) h
  recall-open [] body known next h = absurd (cc)
  recall-open (k ∷ others) (item.Recall e) Nothing next h = only-open others (same_entry k e) _ next (again-open others (ToFront (Some k)) k) h
  recall-open (k ∷ others) body known next h = absurd (cc)

  subscribe-open : (kept : List Entry) (sig : ℕ) (body : Body) (known : Known) (next : CallStage) → subscribe_next sig body known ≡ Some next → Opens (list_after kept body) next
  subscribe-open kept sig (item.Sub s n) Nothing next h = only-open kept (s == sig) _ next (whole-open kept Granted) h
  subscribe-open kept sig (item.Same s n) (Member true) next h = only-open kept (s == sig) _ next (whole-open kept Refused) h
  subscribe-open kept sig body known next h = absurd (cc)

  unsubscribe-open : (kept : List Entry) (sig : ℕ) (body : Body) (known : Known) (next : CallStage) → unsubscribe_next sig body known ≡ Some next
      → Opens (list_after kept body) next
  unsubscribe-open kept sig (item.Unsub s n) Nothing next h = only-open kept (s == sig) _ next (whole-open kept Granted) h
  unsubscribe-open kept sig (item.Same s n) (Member false) next h = only-open kept (s == sig) _ next (whole-open kept Refused) h
  unsubscribe-open kept sig body known next h = absurd (cc)

  arm-open : (kept : List Entry) (t ticks interval : ℕ) (body : Body) (known : Known) (next : CallStage) → arm_next t ticks interval body known ≡ Some next
      → Opens (list_after kept body) next
  unfolding arm_next
  arm-open kept t ticks interval (item.Arm u n k i) Nothing next h =
      only-open kept ((u == t) && (k == ticks) && (i == interval) && ticks_fit ticks interval) _ next (whole-open kept Granted) h
  arm-open kept t ticks interval (item.Armed u n c) Nothing next h = only-open kept ((u == t) && ticks_fit ticks interval) _ next (whole-open kept AtTimer) h
  arm-open kept t ticks interval (item.BadTicks u k i) Nothing next h =
      only-open kept ((u == t) && (k == ticks) && (i == interval) && not (ticks_fit ticks interval)) _ next (whole-open kept AtTicks) h
  arm-open kept t ticks interval body known next h = absurd (cc)

  rearm-open : (kept : List Entry) (t ticks : ℕ) (body : Body) (known : Known) (next : CallStage) → rearm_next t ticks body known ≡ Some next → Opens (list_after kept body) next
  unfolding rearm_next
  rearm-open kept t ticks (item.Rearm u n former k) Nothing next h =
      only-open kept ((u == t) && (k == ticks) && ticks_fit ticks 0) _ next (whole-open kept (was_armed former)) h
  rearm-open kept t ticks (item.BadTicks u k i) Nothing next h =
      only-open kept ((u == t) && (k == ticks) && (i == 0) && not (ticks_fit ticks 0)) _ next (whole-open kept AtTicks) h
  rearm-open kept t ticks body known next h = absurd (cc)

  disarm-open : (kept : List Entry) (t : ℕ) (body : Body) (known : Known) (next : CallStage) → disarm_next t body known ≡ Some next → Opens (list_after kept body) next
  disarm-open kept t (item.Disarm u n former) Nothing next h = only-open kept (u == t) _ next (whole-open kept Granted) h
  disarm-open kept t (item.Idle u n) Nothing next h = only-open kept (u == t) _ next (whole-open kept Refused) h
  disarm-open kept t body known next h = absurd (cc)

  begin-open : (o : ℕ) (kept : List Entry) (room : ℕ) (x : Call) (body : Body) (known : Known) (next : CallStage) → begin_next sys o now kept room x body known ≡ Some next
      → Opens (list_after kept body) next
  unfolding begin_next
  begin-open o kept room (call.Post to sig pars margin reserve) body known next h = new-open (is_static sys sig) o kept sig pars reserve _ body known next h
  begin-open o kept room (call.Lifo sig pars reserve) body known next h = new-open (is_static sys sig) o kept sig pars reserve _ body known next h
  begin-open o kept room (call.Forward to margin) body known next h = now-open now o kept _ body known next h
  begin-open o kept room (call.Publish sig pars reserve) body known next h = new-open (is_static sys sig) o kept sig pars reserve _ body known next h
  begin-open o kept room call.Defer body known next h = defer-open (nat_lt (length kept) room) o kept body known next h
  begin-open o kept room call.Recall body known next h = recall-open kept body known next h
  begin-open o kept room call.Flush body known next h = absurd (cc)
  begin-open o kept room (call.Subscribe sig) body known next h = subscribe-open kept sig body known next h
  begin-open o kept room (call.Unsubscribe sig) body known next h = unsubscribe-open kept sig body known next h
  begin-open o kept room (call.Arm t ticks interval) body known next h = arm-open kept (timer_number sys.timers o t) ticks interval body known next h
  begin-open o kept room (call.Rearm t ticks) body known next h = rearm-open kept (timer_number sys.timers o t) ticks body known next h
  begin-open o kept room (call.Disarm t) body known next h = disarm-open kept (timer_number sys.timers o t) body known next h

  stage-open : (o : ℕ) (kept : List Entry) (s : CallStage) (body : Body) (known : Known) (next : CallStage) → stage_next sys o now kept s body known ≡ Some next
      → Opens (list_after kept body) next
  unfolding stage_next
  stage-open o kept (Begins room x) body known next h = begin-open o kept room x body known next h
  stage-open o kept (Refers p b goal) body known next h = refer-open kept p b goal body known next h
  stage-open o kept (Puts goal e) body known next h = put-open o kept goal e body known next h
  stage-open o kept (Raises own a others) body known next h = raise-open kept own a others body known next h
  stage-open o kept (Restores own former) body known next h = restore-open kept own former body known next h
  stage-open o kept (Drops e behind) body known next h = drop-open kept e behind body known next h
  stage-open o kept (Returns p b d behind) body known next h = return-open kept p b d behind body known next h
  stage-open o kept (Flushes total) body known next h = flush-open kept total body known next h
  stage-open o kept (Whole b) body known next h = absurd (cc)

pub open-begin : OpenBegin
unfolding IsOpen stage_open call_able
open-begin sys now room kept (call.Post to sig pars margin reserve) h = h
open-begin sys now room kept (call.Lifo sig pars reserve) h = h
open-begin sys now room kept (call.Forward to margin) h = h
open-begin sys now room kept (call.Publish sig pars reserve) h = h
open-begin sys now room kept call.Flush h = flushes-open sys now kept (length kept)
open-begin sys now room kept x h = h

pub open-next : OpenNext
unfolding call_state_next IsOpen
open-next sys o now rest next t h = by (stage_next sys o now rest.kept rest.stage t.body t.known) refl h
  where
    by : (r : Option CallStage) → stage_next sys o now rest.kept rest.stage t.body t.known ≡ r
        → option_map (λ s. record { stage = s; kept = list_after rest.kept t.body }) r ≡ Some next → IsTrue (stage_open sys now next.kept next.stage)
    by None is h = absurd (cc)
    by (Some s) is h =
        let same : record { stage = s; kept = list_after rest.kept t.body } ≡ next = cc in
        subst (λ x. IsTrue (stage_open sys now x.kept x.stage)) same (stage-open sys now o rest.kept rest.stage t.body t.known s is)
