-- Each agenda can be done to its end, whatever was done before: so a list that stops early is the front of a whole one.
use Rattle.std.proofs.Common.{◌≡◌, ℕ, zero, suc, ◌<◌, ◌≤◌, nat_lt, Bool, true, false, ◌&&◌, ◌||◌, List, [], ◌∷◌, ◌++◌, length, max, slice_set, refl, ◌∙◌, subst, inl, inr, ◌⊎◌, Option, Some, None, is_some, arith, length-append}
use Rattle.std.specs.Bool.{IsTrue}
use Rattle.std.specs.List.{list_all}
use Rattle.std.proofs.lemmas.Bool.Decides.{nat_tests}
use Rattle.std.proofs.lemmas.List.{length-map}
use Rattle.qp_chart.specs.Expr.{Names}
use Rattle.qp_chart.specs.declared.actions.Plain.{Plain}
use Rattle.qp_chart.specs.declared.actions.Plain.TheVariants as action
use Rattle.qp_chart.specs.Task.{Task, Begin, Run, Unhandled, Exit, Enter, Init, Done, Do, Raise, Restore}
use Rattle.qp_model.specs.declared.systems.System.{System}
use Rattle.qp_model.specs.declared.bodies.Entry.{Entry}
use Rattle.qp_model.specs.declared.bodies.Body.TheVariants as item
use Rattle.qp_model.specs.Record.{entry}
use Rattle.qp_model.specs.Told.{Told, plain, dropped, raised}
use Rattle.qp_model.specs.Calls as call
use Rattle.qp_model.specs.Calls.{Call, Answer, Granted, Refused, Flushed, AtQueue, AtPool, AtFront, AtTicks, Deed, Sets, Says, Calls, deed_of, is_assertion, ok_after, values_of}
use Rattle.qp_model.specs.Parts.{is_static, sizes_of, first_pool, timer_number}
use Rattle.qp_model.specs.Shapes.{Fits, MakesNew, MakesAgain, MakesAgainNow, again_by, Posts, PostsFront, PostsNew, PostsNewFront, Forwards, NoBlockFor, Drops, releases_by, Flushes, ticks_fit, Publishes, PublishesFirst, PublishesLast, Defers, Recalls, Subscribes, Unsubscribes, Arms, Rearms, Disarms}
use Rattle.qp_model.specs.Deferral.{keep, kept_after, KeepsDeferred}
use Rattle.qp_model.specs.Pieces.{Piece, Tell, Point, pieces_of}
use Rattle.qp_model.specs.Acts.{Config, Actor, Moment, DoesCall, DoesDeed, DoesTask, Does, Notes, names_of}
use Rattle.qp_model.specs.Able.{has_pool, is_able, task_able}
use Rattle.qp_model.proofs.LineLemmas.{same_entry-refl}

-- the records of some answer, which leave the deferred list within its capacity
record Answered (sys : System) (a : Actor) (now : Option Entry) (x : Call) (kept : List Entry) : Type 0 where
  answer : Answer
  records : List Told
  new : List Entry
  fits : Fits sys a.o now x answer records
  keeps : KeepsDeferred a.room x records kept new
  within : length new ≤ a.room

-- a call has what it asks for
CallAble : System → Option Entry → Call → Type 0
CallAble sys now (call.Post to sig pars margin reserve) = IsTrue (has_pool sys sig (length pars))
CallAble sys now (call.Lifo sig pars reserve) = IsTrue (has_pool sys sig (length pars))
CallAble sys now (call.Publish sig pars reserve) = IsTrue (has_pool sys sig (length pars))
CallAble sys now (call.Forward to margin) = IsTrue (is_some now)
CallAble sys now call.Defer = IsTrue (is_some now)
CallAble sys now x = Unit {0}

-- what a release of the entry may be
pub release : ℕ → Entry → List Told
release zero e = []
release (suc p) e = dropped e.pool e.block 0 e.name 1 ∷ []

pub release_drops : (p : ℕ) (e : Entry) → releases_by p e (release p e)
unfolding release releases_by
release_drops zero e = refl
release_drops (suc p) e = inl (0, 0, refl)

-- another entry of an event
pub again_any : (old : Entry) → (head : List Told) × (e : Entry) × MakesAgain old head e
unfolding MakesAgain
again_any old = by_pool old.pool
  where
    by_pool : (p : ℕ) → (head : List Told) × (e : Entry) × again_by p old head e
    by_pool zero = ([], old, (refl, refl))
    by_pool (suc p) = (plain (item.Inc old.pool old.block 0) ∷ [], entry old.pool old.block 0, (0, refl, refl))

-- a new reference leaves the deferred list
pub kept-again : (room : ℕ) (kept : List Entry) (old : Entry) (head rest : List Told) (e : Entry) → MakesAgain old head e
    → kept_after room kept (head ++ rest) ≡ kept_after room kept rest
unfolding MakesAgain kept_after keep
kept-again room kept old head rest e h = by_pool old.pool h
  where
    by_pool : (p : ℕ) → again_by p old head e → kept_after room kept (head ++ rest) ≡ kept_after room kept rest
    by_pool zero h = rw h.0 refl
    by_pool (suc p) h = rw h.1 refl

-- a release leaves the deferred list
kept-release : (room : ℕ) (kept : List Entry) (p : ℕ) (e : Entry) (rest : List Told)
    → kept_after room kept (release p e ++ rest) ≡ kept_after room kept rest
unfolding release kept_after keep
kept-release room kept zero e rest = refl
kept-release room kept (suc p) e rest = refl

flush_all : List Entry → List Told
flush_all [] = []
flush_all (e ∷ es) = plain (item.Flush e) ∷ (release e.pool e ++ flush_all es)

flushes_all : (es : List Entry) → Flushes (length es) (flush_all es)
unfolding flush_all Flushes Drops
flushes_all [] = refl
flushes_all (e ∷ es) = (e, release e.pool e, flush_all es, release_drops e.pool e, flushes_all es, refl)

keeps_none : (room : ℕ) (es : List Entry) → kept_after room es (flush_all es) ≡ Some []
unfolding flush_all kept_after keep
keeps_none room [] = refl
keeps_none room (e ∷ es) = rw (same_entry-refl e) (kept-release room es e.pool e (flush_all es) ∙ keeps_none room es)

-- a pool that is there has a number
pub pool_number : (o : Option ℕ) → is_some o ≡ true → (p : ℕ) × (o ≡ Some p)
pool_number None h = absurd (cc)
pool_number (Some p) h = (p, refl)

module _ (sys : System) (a : Actor) (now : Option Entry) (kept : List Entry) (within : length kept ≤ a.room) where
  -- no block was free, or too few
  no_block : (sig : ℕ) (pars : List ℕ) (reserve : Option ℕ) → is_static sys sig ≡ false → has_pool sys sig (length pars) ≡ true
      → (answer : Answer) × (g : List Told) × NoBlockFor (is_static sys sig) (sizes_of sys) pars reserve answer g × ((answer ≡ AtPool) ⊎ (answer ≡ Refused))
  unfolding has_pool NoBlockFor
  no_block sig pars reserve pooled h = by_reserve reserve
    where
      pool : (p : ℕ) × (first_pool (sizes_of sys) (length pars) ≡ Some p)
      pool = pool_number (first_pool (sizes_of sys) (length pars)) (subst (λ b. (b || is_some (first_pool (sizes_of sys) (length pars))) ≡ true) pooled h)

      by_reserve : (reserve : Option ℕ)
          → (answer : Answer) × (g : List Told) × NoBlockFor (is_static sys sig) (sizes_of sys) pars reserve answer g × ((answer ≡ AtPool) ⊎ (answer ≡ Refused))
      by_reserve None = (AtPool, plain (item.NoBlock pool.0 0 0) ∷ [], (pool.0, 0, 0, pooled, pool.1, refl), inl refl)
      by_reserve (Some r) = (Refused, plain (item.Short pool.0 0 0 r) ∷ [], (pool.0, 0, 0, pooled, pool.1, refl), inr refl)

  post_any : (to sig : ℕ) (pars : List ℕ) (margin reserve : Option ℕ) → has_pool sys sig (length pars) ≡ true
      → Answered sys a now (call.Post to sig pars margin reserve) kept
  unfolding Fits PostsNew MakesNew Posts Drops KeepsDeferred
  post_any to sig pars margin reserve h = by_static (is_static sys sig) refl margin
    where
      by_static : (b : Bool) → is_static sys sig ≡ b → (margin : Option ℕ) → Answered sys a now (call.Post to sig pars margin reserve) kept
      by_static true is None = record {
        answer = AtQueue;
        records = plain (item.NoEntry to 0 0 0) ∷ [];
        new = kept;
        fits = inr ([], entry 0 sig 0, rw is (refl, refl), (0, 0, 0, refl));
        keeps = refl;
        within = within;
      }
      by_static true is (Some k) = record {
        answer = Refused;
        records = plain (item.Full to 0 0 0 k) ∷ [];
        new = kept;
        fits = inr ([], entry 0 sig 0, rw is (refl, refl), (0, 0, 0, [], refl, refl));
        keeps = refl;
        within = within;
      }
      by_static false is margin =
          let no = no_block sig pars reserve is h in
          record { answer = no.0; records = no.1; new = kept; fits = inl no.2; keeps = refl; within = within }

  lifo_any : (sig : ℕ) (pars : List ℕ) (reserve : Option ℕ) → has_pool sys sig (length pars) ≡ true → Answered sys a now (call.Lifo sig pars reserve) kept
  unfolding Fits PostsNewFront MakesNew PostsFront KeepsDeferred
  lifo_any sig pars reserve h = by_static (is_static sys sig) refl
    where
      by_static : (b : Bool) → is_static sys sig ≡ b → Answered sys a now (call.Lifo sig pars reserve) kept
      by_static true is = record {
        answer = AtFront;
        records = plain (item.NoLifo a.o 0 0 0) ∷ [];
        new = kept;
        fits = inr ([], entry 0 sig 0, rw is (refl, refl), (0, 0, 0, refl));
        keeps = refl;
        within = within;
      }
      by_static false is =
          let no = no_block sig pars reserve is h in
          record { answer = no.0; records = no.1; new = kept; fits = inl no.2; keeps = refl; within = within }

  publish_any : (sig : ℕ) (pars : List ℕ) (reserve : Option ℕ) → has_pool sys sig (length pars) ≡ true
      → Answered sys a now (call.Publish sig pars reserve) kept
  unfolding Fits Publishes PublishesFirst PublishesLast MakesNew Drops KeepsDeferred
  publish_any sig pars reserve h = by_static (is_static sys sig) refl
    where
      by_static : (b : Bool) → is_static sys sig ≡ b → Answered sys a now (call.Publish sig pars reserve) kept
      by_static true is = record {
        answer = Granted;
        records = plain (item.Pub sig 0 0) ∷ [];
        new = kept;
        fits = (
          entry 0 sig 0,
          0,
          [],
          plain (item.Pub sig 0 0) ∷ [],
          [],
          [],
          ([], 0, 0, rw is (refl, refl), refl, refl),
          refl,
          ([], refl, refl),
          refl,
        );
        keeps = refl;
        within = within;
      }
      by_static false is = let no = no_block sig pars reserve is h in refused no.0 no.1 no.3 no.2
        where
          refused : (answer : Answer) (g : List Told) → ((answer ≡ AtPool) ⊎ (answer ≡ Refused))
              → NoBlockFor (is_static sys sig) (sizes_of sys) pars reserve answer g → Answered sys a now (call.Publish sig pars reserve) kept
          refused answer g (inl e) k = record {
            answer = AtPool;
            records = g;
            new = kept;
            fits = subst (λ x. NoBlockFor (is_static sys sig) (sizes_of sys) pars reserve x g) e k;
            keeps = refl;
            within = within;
          }
          refused answer g (inr e) k = record {
            answer = Refused;
            records = g;
            new = kept;
            fits = subst (λ x. NoBlockFor (is_static sys sig) (sizes_of sys) pars reserve x g) e k;
            keeps = refl;
            within = within;
          }

  forward_any : (to : ℕ) (margin : Option ℕ) → is_some now ≡ true → Answered sys a now (call.Forward to margin) kept
  unfolding Fits Forwards MakesAgainNow Posts Drops KeepsDeferred
  forward_any to margin = by_now now
    where
      by_margin : (e : Entry) (margin : Option ℕ) → Answered sys a (Some e) (call.Forward to margin) kept
      by_margin e None =
          let made = again_any e in
          record {
            answer = AtQueue;
            records = made.0 ++ (plain (item.NoEntry to 0 0 0) ∷ []);
            new = kept;
            fits = (made.0, made.1, made.2, (0, 0, 0, refl));
            keeps = refl;
            within = within;
          }
      by_margin e (Some k) =
          let made = again_any e in
          record {
            answer = Refused;
            records = made.0 ++ (plain (item.Full to 0 0 0 k) ∷ release made.1.pool made.1);
            new = kept;
            fits = (made.0, made.1, made.2, (0, 0, 0, release made.1.pool made.1, refl, release_drops made.1.pool made.1));
            keeps = refl;
            within = within;
          }

      by_now : (now : Option Entry) → is_some now ≡ true → Answered sys a now (call.Forward to margin) kept
      by_now None h = absurd (cc)
      by_now (Some e) h = by_margin e margin

  -- the list has room, or is full
  defer_any : is_some now ≡ true → Answered sys a now call.Defer kept
  unfolding Fits Defers MakesAgainNow KeepsDeferred kept_after keep
  defer_any = by_now now
    where
      by_room : (e : Entry) (b : Bool) → nat_lt (length kept) a.room ≡ b → Answered sys a (Some e) call.Defer kept
      by_room e false is = record {
        answer = Refused;
        records = plain item.NoDefer ∷ [];
        new = kept;
        fits = refl;
        keeps = rw is refl;
        within = within;
      }
      by_room e true is =
          let made = again_any e in
          let shorter : length kept < a.room = grind (arith, nat_tests) in
          record {
            answer = Granted;
            records = made.0 ++ (plain (item.Defer made.1) ∷ []);
            new = kept ++ made.1 ∷ [];
            fits = (made.0, made.1, made.2, refl);
            keeps = kept-again a.room kept e made.0 (plain (item.Defer made.1) ∷ []) made.1 made.2 ∙ rw is refl;
            within = omega (arith, length-append kept (made.1 ∷ []), shorter);
          }

      by_now : (now : Option Entry) → is_some now ≡ true → Answered sys a now call.Defer kept
      by_now None h = absurd (cc)
      by_now (Some e) h = by_room e (nat_lt (length kept) a.room) refl

  -- the oldest entry is recalled, but its post finds no room; or there is none
  recall_any : Answered sys a now call.Recall kept
  unfolding Fits Recalls PostsFront KeepsDeferred kept_after keep
  recall_any = by_list kept within
    where
      by_list : (kept : List Entry) → length kept ≤ a.room → Answered sys a now call.Recall kept
      by_list [] within = record { answer = Refused; records = plain item.NoRecall ∷ []; new = []; fits = refl; keeps = refl; within = within }
      by_list (e ∷ es) within =
          let made = again_any e in
          record {
            answer = AtFront;
            records = plain (item.Recall e) ∷ (made.0 ++ (plain (item.NoLifo a.o 0 0 0) ∷ []));
            new = es;
            fits = (e, made.1, made.0, made.0 ++ (plain (item.NoLifo a.o 0 0 0) ∷ []), made.2, (0, 0, 0, refl), refl);
            keeps = rw (same_entry-refl e) (kept-again a.room es e made.0 (plain (item.NoLifo a.o 0 0 0) ∷ []) made.1 made.2);
            within = omega arith;
          }

  -- a call whose one record is no matter of the deferred list
  simple : (x : Call) (answer : Answer) (b : Told) → Fits sys a.o now x answer (b ∷ []) → KeepsDeferred a.room x (b ∷ []) kept kept → Answered sys a now x kept
  simple x answer b fits keeps = record { answer = answer; records = b ∷ []; new = kept; fits = fits; keeps = keeps; within = within }

  arm_any : (t ticks interval : ℕ) → Answered sys a now (call.Arm t ticks interval) kept
  unfolding Fits Arms KeepsDeferred
  arm_any t ticks interval = by_fit (ticks_fit ticks interval) refl
    where
      by_fit : (b : Bool) → ticks_fit ticks interval ≡ b → Answered sys a now (call.Arm t ticks interval) kept
      by_fit true is = simple _ Granted (plain (item.Arm (timer_number sys.timers a.o t) 0 ticks interval)) ((0, refl), is) refl
      by_fit false is = simple _ AtTicks (plain (item.BadTicks (timer_number sys.timers a.o t) ticks interval)) (refl, rw is refl) refl

  rearm_any : (t ticks : ℕ) → Answered sys a now (call.Rearm t ticks) kept
  unfolding Fits Rearms KeepsDeferred
  rearm_any t ticks = by_fit (ticks_fit ticks 0) refl
    where
      by_fit : (b : Bool) → ticks_fit ticks 0 ≡ b → Answered sys a now (call.Rearm t ticks) kept
      by_fit true is = simple _ Refused (plain (item.Rearm (timer_number sys.timers a.o t) 0 0 ticks)) ((0, refl), is) refl
      by_fit false is = simple _ AtTicks (plain (item.BadTicks (timer_number sys.timers a.o t) ticks 0)) (refl, rw is refl) refl

  call_any : (x : Call) → CallAble sys now x → Answered sys a now x kept
  unfolding CallAble Fits Subscribes Unsubscribes Disarms KeepsDeferred
  call_any (call.Post to sig pars margin reserve) h = post_any to sig pars margin reserve h
  call_any (call.Lifo sig pars reserve) h = lifo_any sig pars reserve h
  call_any (call.Forward to margin) h = forward_any to margin h
  call_any (call.Publish sig pars reserve) h = publish_any sig pars reserve h
  call_any call.Defer h = defer_any h
  call_any call.Recall h = recall_any
  call_any call.Flush h = record {
    answer = Flushed (length kept);
    records = flush_all kept;
    new = [];
    fits = flushes_all kept;
    keeps = (keeps_none a.room kept, refl);
    within = omega arith;
  }
  call_any (call.Subscribe sig) h = simple _ Granted (plain (item.Sub sig 0)) (0, refl) refl
  call_any (call.Unsubscribe sig) h = simple _ Granted (plain (item.Unsub sig 0)) (0, refl) refl
  call_any (call.Arm t ticks interval) h = arm_any t ticks interval
  call_any (call.Rearm t ticks) h = rearm_any t ticks
  call_any (call.Disarm t) h = simple _ Refused (plain (item.Idle (timer_number sys.timers a.o t) 0)) (0, refl) refl

-- an action that has what it asks for makes a call that has
DeedAble : System → Option Entry → Deed → Type 0
DeedAble sys now (Calls x) = CallAble sys now x
DeedAble sys now d = Unit {0}

deed-able : (sys : System) (now : Option Entry) (names : Names) (p : Plain) → is_able sys (is_some now) p ≡ true → DeedAble sys now (deed_of names p)
unfolding is_able deed_of DeedAble CallAble values_of
deed-able sys now names (action.Post to sig pars margin reserve) h = rw length-map h
deed-able sys now names (action.Lifo sig pars reserve) h = rw length-map h
deed-able sys now names (action.Forward to margin) h = h
deed-able sys now names (action.Publish sig pars reserve) h = rw length-map h
deed-able sys now names action.Defer h = h
deed-able sys now names _ h = tt

-- the first of a list that passes a test, and its rest
pub able-first : (f : Task → Bool) (t : Task) (ts : List Task) → list_all f (t ∷ ts) ≡ true → f t ≡ true
able-first f t ts h = by (f t) h
  where
    by : (b : Bool) → (b && list_all f ts) ≡ true → b ≡ true
    by true h = refl
    by false h = h

pub able-rest : (f : Task → Bool) (t : Task) (ts : List Task) → list_all f (t ∷ ts) ≡ true → list_all f ts ≡ true
able-rest f t ts h = by (f t) h
  where
    by : (b : Bool) → (b && list_all f ts) ≡ true → list_all f ts ≡ true
    by true h = h
    by false h = absurd (cc)

module _ (sys : System) (a : Actor) (at : Moment) (ts : List Task) (c : Config) (within : length c.kept ≤ a.room)
    (later : (d : Config) → length d.kept ≤ a.room → (ps : List Piece) × (end : Option Config) × Does sys a at ts d ps end) where
  -- a call is done, and then the rest
  call_then : (x : Call) → CallAble sys at.entry x
      → (ps : List Piece) × (end : Option Config) × DoesCall sys a at.entry c (λ d rest. Does sys a at ts d rest end) (end ≡ None) x ps
  unfolding DoesCall
  call_then x able = by_answer (call_any sys a at.entry c.kept within x able)
    where
      by_answer : Answered sys a at.entry x c.kept
          → (ps : List Piece) × (end : Option Config) × DoesCall sys a at.entry c (λ d rest. Does sys a at ts d rest end) (end ≡ None) x ps
      by_answer y = by_assertion (is_assertion y.answer) refl
        where
          by_assertion : (b : Bool) → is_assertion y.answer ≡ b
              → (ps : List Piece) × (end : Option Config) × DoesCall sys a at.entry c (λ d rest. Does sys a at ts d rest end) (end ≡ None) x ps
          by_assertion true is = (pieces_of x y.records, None, (y.answer, y.records, y.new, y.fits, y.keeps, rw is (refl, refl)))
          by_assertion false is =
              let rest = later (record c { ok = ok_after y.answer c.ok; kept = y.new }) y.within in
              (pieces_of x y.records ++ (Point ∷ rest.0), rest.1, (y.answer, y.records, y.new, y.fits, y.keeps, rw is (rest.0, refl, rest.2)))

  deed_then : (d : Deed) → DeedAble sys at.entry d
      → (ps : List Piece) × (end : Option Config) × DoesDeed sys a at.entry c (λ d rest. Does sys a at ts d rest end) (end ≡ None) d ps
  unfolding DoesDeed DeedAble
  deed_then (Sets var value) able = let rest = later (record c { vars = slice_set c.vars var value }) within in (Point ∷ rest.0, rest.1, (rest.0, refl, rest.2))
  deed_then (Says value) able = let rest = later c within in (Tell (plain (item.Say value)) ∷ Point ∷ rest.0, rest.1, (rest.0, refl, rest.2))
  deed_then (Calls x) able = call_then x able

  note_then : (t : Told) → (ps : List Piece) × (end : Option Config) × Notes t (λ rest. Does sys a at ts c rest end) ps
  note_then t = let rest = later c within in (Tell t ∷ rest.0, rest.1, (rest.0, refl, rest.2))

  -- a task is done, and then the rest
  task_then : (t : Task) → task_able sys (is_some at.entry) t ≡ true
      → (ps : List Piece) × (end : Option Config) × DoesTask sys a at c (λ d rest. Does sys a at ts d rest end) (end ≡ None) t ps
  unfolding DoesTask task_able
  task_then (Do p) able = deed_then (deed_of (names_of a c at.event) p) (deed-able sys at.entry (names_of a c at.event) p able)
  task_then (Raise ceiling) able =
      let rest = later (record c { former = 0 }) within in (Tell (raised (max 0 ceiling) 0) ∷ rest.0, rest.1, (0, (rest.0, refl, rest.2)))
  task_then Restore able =
      let rest = later c within in (Tell (plain (item.Unlock c.former)) ∷ Point ∷ rest.0, rest.1, (Point ∷ rest.0, refl, (rest.0, refl, rest.2)))
  task_then Begin able = note_then (plain item.Begin)
  task_then (Run s k) able = note_then (plain (item.Run s k))
  task_then Unhandled able = note_then (plain item.Unhandled)
  task_then (Exit s) able = note_then (plain (item.Exit s))
  task_then (Enter s) able = note_then (plain (item.Enter s))
  task_then (Init s) able = note_then (plain (item.Init s))
  task_then Done able = note_then (plain item.Done)

-- an agenda that has what it asks for can be done to its end, where the deferred list is within its capacity
pub completes : (sys : System) (a : Actor) (at : Moment) (ts : List Task) (c : Config) → list_all (task_able sys (is_some at.entry)) ts ≡ true
    → length c.kept ≤ a.room → (ps : List Piece) × (end : Option Config) × Does sys a at ts c ps end
unfolding Does
completes sys a at [] c able within = ([], Some c, (refl, refl))
completes sys a at (t ∷ ts) c able within =
    task_then sys a at ts c within (λ d less. completes sys a at ts d (able-rest (task_able sys (is_some at.entry)) t ts able) less) t
    (able-first (task_able sys (is_some at.entry)) t ts able)
