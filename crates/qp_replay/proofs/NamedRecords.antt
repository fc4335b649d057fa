-- Each record of a lawful journal touches no word but the system's.
use Rattle.std.proofs.Common.{◌≡◌, ◌∙◌, ℕ, zero, suc, ◌+◌, ◌-◌, ◌/◌, ◌%◌, ◌^◌, ◌<◌, ◌≤◌, ◌==◌, nat_lt, nat_le, Bool, true, false, not, ◌&&◌, ◌||◌, List, [], ◌∷◌, ◌++◌, length, take, drop, filter, refl, sym, ap, subst, arith, cond, ◌⊎◌, inl, inr, Option, Some, None, IsTrue}
use Rattle.std.specs.List.{AllByRecursion, find, list_all}
use Rattle.std.specs.Prelude.{⊤, is_some}
use Rattle.std.specs.Int.{bit_at}
use Rattle.std.proofs.lemmas.Bool.{and_from, and_parts}
use Rattle.std.proofs.lemmas.Bool.Decides.{nat_tests}
use Rattle.std.proofs.lemmas.List.{take-append-drop}
use Rattle.std.proofs.lemmas.Option.{slice_get_within}
use Rattle.qp_chart.specs.Expr.{Names}
use Rattle.qp_chart.specs.StateTree.{has}
use Rattle.qp_chart.specs.Task.{Task, Begin, Run, Unhandled, Exit, Enter, Init, Done, Do, Raise, Restore}
use Rattle.qp_chart.specs.declared.actions.Plain.{Plain}
use Rattle.qp_chart.specs.declared.actions.Plain.TheVariants as action
use Rattle.qp_chart.specs.declared.checked.Chart.{Chart}
use Rattle.qp_chart.specs.declared.expression.Bound.{Bound}
use Rattle.qp_model.specs.declared.record.Rec.{Rec}
use Rattle.qp_model.specs.declared.stimulus.Stim.{Stim}
use Rattle.qp_model.specs.declared.stimulus.Stim.TheVariants as stim
use Rattle.qp_model.specs.declared.words.Word.{Word}
use Rattle.qp_model.specs.declared.words.Word.TheVariants as word
use Rattle.qp_model.specs.declared.systems.System.{System}
use Rattle.qp_model.specs.declared.systems.ObjectDef.{ObjectDef}
use Rattle.qp_model.specs.declared.journals.Journal.{Journal}
use Rattle.qp_model.specs.declared.bodies.Entry.{Entry}
use Rattle.qp_model.specs.declared.bodies.Body.{Body}
use Rattle.qp_model.specs.declared.bodies.Body.TheVariants as item
use Rattle.qp_model.specs.Record.{Item}
use Rattle.qp_model.specs.Told.{Told, Event, OfEvent}
use Rattle.qp_model.specs.Lists.{is_first}
use Rattle.qp_model.specs.History.{Touch, Draws, Shows, Neither, touch, touch_of, drawn_as, drawn_on, drawn_below, all_items, hist, numbered, is_numbered, total}
use Rattle.qp_model.specs.Machine.{after, after_from, allowed_from, is_allowed, is_shown, shown_by}
use Rattle.qp_model.specs.FreeBlocks.{Pool, free_blocks, pool_may, pool_next}
use Rattle.qp_model.specs.Subscribers.{Subscribers, subscribers, subscribers_next, bits_of_set}
use Rattle.qp_model.specs.Knowing.{event_known, event_of_entry, given_by, known_of, last_given, life_event, told}
use Rattle.qp_model.specs.Calls.{deed_of, object_of, values_of}
use Rattle.qp_model.specs.Parts.{members, members_below, timer_number}
use Rattle.qp_model.specs.Sites.{blocks_of, object_at}
use Rattle.qp_model.specs.Sound.{IsSound, IsSoundObject}
use Rattle.qp_model.specs.SoundChart.{IsSoundEvent, IsSoundPlain}
use Rattle.qp_model.specs.WordLaw.{Keeps, Words, is_block, is_object, is_pool, is_signal, is_timer}
use Rattle.qp_model.specs.Course.{chart_at}
use Rattle.qp_model.specs.Lawful.{Lawful, facts_of}
use Rattle.qp_model.proofs.HistoryLemmas.{drawn_as-on}
use Rattle.qp_model.proofs.ListLemmas.{list_all-has, every-two, every-parts, every-test, all-with, all-without, all-counted}
use Rattle.qp_model.proofs.MachineLemmas.{is_allowed-front}
use Rattle.qp_model.proofs.NumberLemmas.{number-owned, every-append}
use Rattle.qp_stim.specs.Rules as rule
use Rattle.qp_stim.specs.Rules.{StimuliFit}
use Rattle.qp_calls.specs.Counting.{one_if}
use Rattle.qp_calls.specs.declared.tokens.HeldEntry as token
use Rattle.qp_calls.specs.declared.tokens.HeldEntry.TheVariants as hand
use Rattle.qp_calls.specs.Tokens.{Token}
use Rattle.qp_plain_sound.specs.Sound.{is_event}
use Rattle.qp_plain_sound.proofs.CallEvents.{event-to}
use Rattle.qp_plain_sound.proofs.SetLemmas.{bits-has, set-apart}
use Rattle.qp_dispatch.specs.SoundFor.{HasTimer, IsObjectWithTimers, MayAct, MayTask}
use Rattle.qp_dispatch.specs.Resume.{CanTakeSteps}
use Rattle.qp_dispatch.proofs.Naming.{declared, receives, sound-event}
use Rattle.qp_dispatch.proofs.SoundAble.{sound-ready}
use Rattle.qp_replay.specs.Laws.{LawfulRecordsAreNamed}
use Rattle.qp_replay.specs.Numbers.{has_word, is_on}
use Rattle.qp_replay.proofs.CallRecords.{Claims, Has, HasTouched, Named, Rules, Uses, first-there}
use Rattle.qp_replay.proofs.CourseRecords.{ChartNames, DeedNames, TaskNames}
use Rattle.qp_replay.proofs.LaneRecords.{found-one}
use Rattle.qp_replay.proofs.OwnerRecords.{all-fine}
use Rattle.qp_replay.proofs.SourceRecords.{StimNames, any-object, event-signal, fits-event}

-- What the system has.
abbrev pub system_names : System → Named
system_names sys = record {
  Object = λ a. IsTrue (is_object sys a);
  Signal = λ sig. IsTrue (is_signal sys sig);
  Timer = λ t. IsTrue (is_timer sys t);
  Event = λ sig pars. IsTrue (is_event sys (record { sig = sig; pars = pars }));
}

-- stimuli that fit the system name what it has
stim-names : (sys : System) (s : Stim) → rule.StimulusFits sys s → StimNames (system_names sys) s
stim-names sys (stim.Post to ev margin reserve) fit = (any-object sys to fit.object, fits-event sys ev reserve fit.event)
stim-names sys (stim.Publish ev reserve) fit = (event-signal sys ev reserve fit, fits-event sys ev reserve fit)
stim-names sys _ fit = tt

pub stimuli-names : (sys : System) (stimuli : List (List Stim)) → StimuliFit sys stimuli → AllByRecursion (AllByRecursion (StimNames (system_names sys))) stimuli
stimuli-names sys stimuli fit = each stimuli fit.stimuli
  where
    source : (ss : List Stim) → AllByRecursion (rule.StimulusFits sys) ss → AllByRecursion (StimNames (system_names sys)) ss
    source [] h = tt
    source (s ∷ ss) h = (stim-names sys s h.0, source ss h.1)

    each : (sources : List (List Stim)) → AllByRecursion (AllByRecursion (rule.StimulusFits sys)) sources → AllByRecursion (AllByRecursion (StimNames (system_names sys))) sources
    each [] h = tt
    each (ss ∷ more) h = (source ss h.0, each more h.1)

-- The actions of an object's chart name what the system has.

timer-there : (sys : System) (me place : ℕ) → HasTimer sys me place → IsTrue (is_timer sys (timer_number sys.timers me place))
timer-there sys me place h =
    let low = h.some in
    let within = slice_get_within sys.timers (timer_number sys.timers me place - 1) h.timer h.there in
    let some : nat_lt 0 (timer_number sys.timers me place) ≡ true = grind (arith, nat_tests, low) in
    let few : nat_le (timer_number sys.timers me place) (length sys.timers) ≡ true = grind (arith, nat_tests, low, within) in
    and_from _ _ some few

event-of : (sys : System) (chart : Chart) (inside : Option ℕ) (sig : ℕ) (pars : List Bound) (reserve : Option ℕ) (names : Names) → IsSoundEvent sys chart inside sig pars reserve
    → IsTrue (is_event sys (record { sig = sig; pars = values_of names pars }))
event-of sys chart inside sig pars reserve names e = event-to sys _ (sound-event sys chart inside sig pars reserve names _ e refl)

deed-names : (sys : System) (me : ℕ) (at_hand : Option token.HeldEntry) (p : Plain) → MayAct sys me at_hand p → (names : Names) → names.me ≡ me → DeedNames (system_names sys) sys me (deed_of names p)
unfolding deed_of IsSoundPlain
deed-names sys me at_hand (action.Set var value) may names is = tt
deed-names sys me at_hand (action.Say value) may names is = tt
deed-names sys me at_hand (action.Post to sig pars margin reserve) may names is = (
  subst (λ o. IsTrue (is_object sys (object_of o to))) (sym is) (receives sys me may.chart to may.home may.plain.0),
  event-of sys may.chart may.inside sig pars reserve names may.plain.1,
)
deed-names sys me at_hand (action.Lifo sig pars reserve) may names is = (may.home.object, event-of sys may.chart may.inside sig pars reserve names may.plain)
deed-names sys me at_hand (action.Forward to margin) may names is = subst (λ o. IsTrue (is_object sys (object_of o to))) (sym is) (receives sys me may.chart to may.home may.plain.0)
deed-names sys me at_hand (action.Publish sig pars reserve) may names is =
    (declared sys sig (may.plain.signal, may.plain.is_signal), event-of sys may.chart may.inside sig pars reserve names may.plain)
deed-names sys me at_hand action.Defer may names is = tt
deed-names sys me at_hand action.Recall may names is = may.home.object
deed-names sys me at_hand action.Flush may names is = tt
deed-names sys me at_hand (action.Subscribe sig) may names is = (declared sys sig may.plain, may.home.object)
deed-names sys me at_hand (action.Unsubscribe sig) may names is = declared sys sig may.plain
deed-names sys me at_hand (action.Arm t ticks interval) may names is = timer-there sys me t (may.home.timers t may.plain.0.0 may.plain.0.1)
deed-names sys me at_hand (action.Rearm t ticks) may names is = timer-there sys me t (may.home.timers t may.plain.0.0 may.plain.0.1)
deed-names sys me at_hand (action.Disarm t) may names is = timer-there sys me t (may.home.timers t may.plain.0 may.plain.1)

tasks-name : (sys : System) (me : ℕ) (at_hand : Option token.HeldEntry) (ts : List Task) → AllByRecursion (MayTask sys me at_hand) ts → AllByRecursion (TaskNames (system_names sys) sys me) ts
tasks-name sys me at_hand [] h = tt
tasks-name sys me at_hand (t ∷ ts) h = (one_if t h.0, tasks-name sys me at_hand ts h.1)
  where
    one_if : (t : Task) → MayTask sys me at_hand t → TaskNames (system_names sys) sys me t
    one_if (Do p) may = deed-names sys me at_hand p may
    one_if Begin may = tt
    one_if (Run s k) may = tt
    one_if Unhandled may = tt
    one_if (Exit s) may = tt
    one_if (Enter s) may = tt
    one_if (Init s) may = tt
    one_if Done may = tt
    one_if (Raise c) may = tt
    one_if Restore may = tt

-- and they may be done
chart-ready : (sys : System) → IsSound sys → (d : ObjectDef) → object_at sys d.priority ≡ Some d → (chart : Chart) → chart_at sys d.chart ≡ Some chart → CanTakeSteps sys d.priority chart
unfolding is_object object_at
chart-ready sys sound d found chart its = sound-ready sys d.priority chart (d.chart - 1) home its
  where
    object : is_some (find (λ x. x.priority == d.priority) sys.objects) ≡ true
    object = rw found refl

    priority : 1 ≤ d.priority
    priority =
        let one_if = found-one (λ x. 1 ≤ x.priority) d.priority sys.objects (some sys.objects sound.objects) object in
        let low = one_if.3 in omega (arith, low, one_if.2)
      where
        some : (ds : List ObjectDef) → AllByRecursion (IsSoundObject sys.charts) ds → AllByRecursion (λ x. 1 ≤ x.priority) ds
        some [] h = tt
        some (x ∷ xs) h = (h.0.some_priority, some xs h.1)

    home : IsObjectWithTimers sys d.priority chart
    home = record {
      sound = sound;
      some = omega (arith, priority);
      object = object;
      timers = λ place some few.
          let n = number-owned sys sound d.priority place d chart found its some few in
          record { some = n.some; few = let most = sound.few_timers in omega (arith, n.few, most); timer = n.timer; there = n.there; owner = n.owner };
    }

pub chart-names : (sys : System) → IsSound sys → (d : ObjectDef) → object_at sys d.priority ≡ Some d → (chart : Chart) → chart_at sys d.chart ≡ Some chart → ChartNames (system_names sys) sys d.priority chart
chart-names sys sound d found chart its =
    let ready : CanTakeSteps sys d.priority chart = chart-ready sys sound d found chart its in
    record {
      start = tasks-name sys d.priority None _ ready.start;
      steps = λ leaf names sig. tasks-name sys d.priority (Some (hand.Static 0)) _ (ready.steps (hand.Static 0) leaf names sig);
    }

-- Lists.

-- what holds of each element, for each of these
all-each : {A : Type 0} {B : Type 0} (P : B → A → Type 0) (xs : List A) → ((b : B) → AllByRecursion (P b) xs) → AllByRecursion (λ x. (b : B) → P b x) xs
all-each P [] h = tt
all-each P (x ∷ xs) h = ((λ b. (h b).0), all-each P xs (λ b. (h b).1))

pub all-from : {A : Type 0} (p : A → Bool) (xs : List A) → list_all p xs ≡ true → AllByRecursion (λ x. p x ≡ true) xs
all-from p [] h = tt
all-from p (x ∷ xs) h = let parts = and_parts (p x) (list_all p xs) h in (parts.0, all-from p xs parts.1)

-- those that pass
all-passed : {A : Type 0} (P Q : A → Type 0) (f : A → Bool) → ((x : A) → f x ≡ true → P x → Q x) → (xs : List A) → AllByRecursion P xs → AllByRecursion Q (filter f xs)
all-passed P Q f go [] h = tt
all-passed P Q f go (x ∷ xs) h = by (f x) refl (all-passed P Q f go xs h.1)
  where
    by : (b : Bool) → f x ≡ b → AllByRecursion Q (filter f xs) → AllByRecursion Q (cond b (x ∷ filter f xs) (filter f xs))
    by true e k = (go x e h.0, k)
    by false e k = k

-- where those that pass have it, each that passes has it
pub all-passing : {A : Type 0} (P : A → Type 0) (f : A → Bool) (xs : List A) → AllByRecursion P (filter f xs) → AllByRecursion (λ x. f x ≡ true → P x) xs
all-passing P f [] h = tt
all-passing P f (x ∷ xs) h = by (f x) refl h (all-passing P f xs)
  where
    by : (b : Bool) → f x ≡ b → AllByRecursion P (cond b (x ∷ filter f xs) (filter f xs)) → (AllByRecursion P (filter f xs) → AllByRecursion (λ x. f x ≡ true → P x) xs)
        → (f x ≡ true → P x) × AllByRecursion (λ x. f x ≡ true → P x) xs
    by true e k more = ((λ on. k.0), more k.1)
    by false e k more = ((λ on. absurd (cc)), more k)

-- A word's history has its operations.

numbered-all : (P Q : Item → Type 0) (w : Word) (items : List Item) → ((i : Item) → drawn_on w (touch i) ≡ true → P i → Q i) → AllByRecursion P items → (n : ℕ) → AllByRecursion Q (numbered w items n)
unfolding numbered
numbered-all P Q w items go h zero = tt
numbered-all P Q w items go h (suc n) =
    every-append Q (numbered w items n) (filter (λ i. drawn_as w n (touch i)) items) (numbered-all P Q w items go h n)
    (all-passed P Q (λ i. drawn_as w n (touch i)) (λ i e p. go i (drawn_as-on w n (touch i) e) p) items h)

hist-all : (P Q : Item → Type 0) (w : Word) (items : List Item) → ((i : Item) → drawn_on w (touch i) ≡ true → P i → Q i) → AllByRecursion P items → AllByRecursion Q (hist w items)
unfolding hist
hist-all P Q w items go h = numbered-all P Q w items go h (total w items)

numbered-part : (P : Item → Type 0) (w : Word) (items : List Item) (n m : ℕ) → AllByRecursion P (numbered w items m) → n < m → AllByRecursion P (filter (λ i. drawn_as w n (touch i)) items)
unfolding numbered
numbered-part P w items n zero h less = absurd (omega (arith, less))
numbered-part P w items n (suc m) h less =
    let parts = every-parts P (numbered w items m) (filter (λ i. drawn_as w m (touch i)) items) h in
    go (n == m) refl parts.1 (numbered-part P w items n m parts.0)
  where
    go : (b : Bool) → (n == m) ≡ b → AllByRecursion P (filter (λ i. drawn_as w m (touch i)) items) → (n < m → AllByRecursion P (filter (λ i. drawn_as w n (touch i)) items))
        → AllByRecursion P (filter (λ i. drawn_as w n (touch i)) items)
    go true e last more = let is : n ≡ m = grind (arith, nat_tests, e) in subst (λ k. AllByRecursion P (filter (λ i. drawn_as w k (touch i)) items)) (sym is) last
    go false e last more = let below : n < m = grind (arith, nat_tests, e, less) in more below

hist-has : (P : Item → Type 0) (w : Word) (items : List Item) → AllByRecursion P (hist w items) → (n : ℕ) → n < total w items → AllByRecursion (λ i. drawn_as w n (touch i) ≡ true → P i) items
unfolding hist
hist-has P w items h n within = all-passing P (λ i. drawn_as w n (touch i)) items (numbered-part P w items n (total w items) h within)

-- A pool of the system gives out its own blocks.

first-passes : (p : ℕ → Bool) (b : ℕ) (xs : List ℕ) → is_first b xs ≡ true → list_all p xs ≡ true → p b ≡ true
first-passes p b [] e h = absurd (cc)
first-passes p b (x ∷ xs) e h = let is : x ≡ b = grind (arith, nat_tests, e) in subst (λ y. p y ≡ true) is (and_parts _ _ h).0

-- a block that is given out is one of the pool
abbrev gives_own : ℕ → Body → Bool
gives_own blocks (item.New q n b from sig pars) = nat_lt b blocks
gives_own blocks _ = true

gives-step : (blocks : ℕ) (s : Pool) (b : Body) → list_all (λ x. nat_lt x blocks) s.free ≡ true → pool_may blocks s b ≡ true
    → (gives_own blocks b ≡ true) × (list_all (λ x. nat_lt x blocks) (pool_next s b).free ≡ true)
gives-step blocks s (item.New p n b from sig pars) h may =
    (first-passes (λ x. nat_lt x blocks) b s.free (and_parts _ _ may).1 h, all-without (λ x. nat_lt x blocks) b s.free h)
gives-step blocks s (item.Back p n b to) h may = (refl, all-with (λ x. nat_lt x blocks) b s.free h (and_parts _ _ (and_parts _ _ may).0).1)
gives-step blocks s b h may = (absurd (cc), absurd (cc))

gives-from : (blocks : ℕ) (s : Pool) (is : List Item) → list_all (λ x. nat_lt x blocks) s.free ≡ true → allowed_from (free_blocks blocks) s is ≡ true
    → AllByRecursion (λ i. gives_own blocks i.body ≡ true) is
unfolding allowed_from
gives-from blocks s [] h allowed = tt
gives-from blocks s (i ∷ is) h allowed =
    let parts = and_parts (pool_may blocks s i.body) (allowed_from (free_blocks blocks) (pool_next s i.body) is) allowed in
    let step = gives-step blocks s i.body h parts.0 in
    (step.0, gives-from blocks (pool_next s i.body) is step.1 parts.1)

gives-all : (blocks : ℕ) (history : List Item) → is_allowed (free_blocks blocks) history ≡ true → AllByRecursion (λ i. gives_own blocks i.body ≡ true) history
unfolding is_allowed
gives-all blocks history allowed = gives-from blocks (free_blocks blocks).first history (all-counted blocks 0 blocks (omega arith)) allowed

-- What holds of each record at once: the pool of a block that is given out is the system's, and so is an object that subscribes.

abbrev pub FirstFine : System → ℕ → Body → Type 0
FirstFine sys o (item.New p n b from sig pars) = IsTrue (is_pool sys p)
FirstFine sys o (item.Sub sig n) = IsTrue (is_object sys o)
FirstFine sys o _ = ⊤

pub all-unit : (xs : List ℕ) → AllByRecursion (λ a. ⊤) xs
all-unit [] = tt
all-unit (x ∷ xs) = (tt, all-unit xs)

-- nothing more is claimed, and nothing known
abbrev bare : System → Claims
bare sys = record {
  names = system_names sys;
  Pool = λ p. ⊤;
  Block = λ p b. ⊤;
  Good = λ e. ⊤;
  New = λ p sig pars. IsTrue (is_pool sys p);
  Member = λ a. ⊤;
  Rests = ⊤;
  Knows = λ t. ⊤;
}

first-rules : (sys : System) → Rules sys (bare sys)
first-rules sys = record {
  object = λ a is. is;
  timer = λ t is. is;
  pool = λ p is. tt;
  new = λ p sig pars first event. first-there sys (length pars) p first;
  made = λ p n b from sig free pars pool known. tt;
  good = λ p b r block. tt;
  block = λ e some good. tt;
  static = λ sig is. tt;
  takes = λ f l m e ev known. tt;
  member = λ a is. tt;
  subscribed = λ sig n set signal known. all-unit (members set);
}

first-fine : (sys : System) (o : ℕ) (H : List Token) (b : Body) → Uses o (bare sys) H b → FirstFine sys o b
first-fine sys o H (item.New p n b from sig pars) uses = uses
first-fine sys o H (item.Sub sig n) uses = uses.1
first-fine sys o H b uses = tt

-- The subscribers of a signal are objects where each that subscribed was one.

module _ (sys : System) where
  set-step : (s : Subscribers) (o : ℕ) (b : Body) → FirstFine sys o b → list_all (is_object sys) s.members ≡ true → list_all (is_object sys) (subscribers_next s o b).members ≡ true
  set-step s o (item.Sub sig n) fine all = and_from _ _ fine (all-without (is_object sys) o s.members all)
  set-step s o (item.Unsub sig n) fine all = all-without (is_object sys) o s.members all
  set-step s o b fine all = all

  set-objects : (s : Subscribers) (is : List Item) → AllByRecursion (λ i. FirstFine sys i.of i.body) is → list_all (is_object sys) s.members ≡ true
      → list_all (is_object sys) (after_from subscribers s is).members ≡ true
  unfolding after_from
  set-objects s [] fine all = all
  set-objects s (i ∷ is) fine all = set-objects (subscribers_next s i.of i.body) is fine.1 (set-step s i.of i.body fine.0 all)

  -- the members that the bits of a set tell
  told-members : (set : ℕ) → ((k : ℕ) → bit_at set k ≡ 1 → is_object sys (suc k) ≡ true) → (n : ℕ) → AllByRecursion (λ a. IsTrue (is_object sys a)) (members_below n set)
  unfolding members_below
  told-members set h zero = tt
  told-members set h (suc n) = go ((set / 2 ^ n) % 2 == 1) refl (told-members set h n)
    where
      go : (u : Bool) → ((set / 2 ^ n) % 2 == 1) ≡ u → AllByRecursion (λ a. IsTrue (is_object sys a)) (members_below n set)
          → AllByRecursion (λ a. IsTrue (is_object sys a)) (cond u (suc n ∷ members_below n set) (members_below n set))
      go true e later = let set_is : set / 2 ^ n % 2 ≡ 1 = grind (arith, nat_tests) in (h n set_is, later)
      go false e later = later

  one-true : (u : Bool) → one_if u ≡ 1 → u ≡ true
  one-true true e = refl
  one-true false e = absurd (omega (arith, e))

  members-own : (history : List Item) (set : ℕ) → is_allowed subscribers history ≡ true → AllByRecursion (λ i. FirstFine sys i.of i.body) history
      → bits_of_set (after subscribers history).members ≡ set → AllByRecursion (λ a. IsTrue (is_object sys a)) (members set)
  unfolding members after
  members-own history set allowed fine is =
      let ms : List ℕ = (after subscribers history).members in
      let all : list_all (is_object sys) ms ≡ true = set-objects subscribers.first history fine refl in
      told-members set
      (λ k bit. list_all-has (is_object sys) ms (suc k) all
      (one-true (has ms (suc k)) (sym (bits-has ms (set-apart history allowed) k) ∙ ap (λ x. bit_at x k) is ∙ bit)))
      32

  -- What is known of a record for sure.

  pub record SureBody (b : Body) : Type 0 where
    pub blocks : (p n c from sig : ℕ) (pars : List ℕ) → b ≡ item.New p n c from sig pars → IsTrue (is_pool sys p) → IsTrue (is_block sys p c)
    pub subscribed : (sig n set : ℕ) → b ≡ item.Pub sig n set → IsTrue (is_signal sys sig) → AllByRecursion (λ a. IsTrue (is_object sys a)) (members set)

  module _ (lanes : List (List Rec)) (words : Words sys lanes) (fine : AllByRecursion (λ i. FirstFine sys i.of i.body) (all_items lanes)) where
    abbrev OwnBlock : ℕ → Item → Type 0
    OwnBlock p i = (n c from sig : ℕ) (pars : List ℕ) → i.body ≡ item.New p n c from sig pars → IsTrue (is_block sys p c)

    pool-owns : (p : ℕ) → IsTrue (is_pool sys p) → AllByRecursion (OwnBlock p) (all_items lanes)
    unfolding is_numbered is_block
    pool-owns p h =
        every-two (λ i. drawn_below (word.Pool p) all (touch i) ≡ true) (λ i. (m : ℕ) → m < all → drawn_as (word.Pool p) m (touch i) ≡ true → gives_own (blocks_of sys p) i.body ≡ true) (OwnBlock p)
        (λ i low high n c from sig pars is. own i.of i.body n c from sig pars is low high)
        (all_items lanes) below given_ones
      where
        all : ℕ
        all = total (word.Pool p) (all_items lanes)

        keeps : Keeps Pool (free_blocks (blocks_of sys p)) (word.Pool p) lanes
        keeps = words.pools p h

        below : AllByRecursion (λ i. drawn_below (word.Pool p) all (touch i) ≡ true) (all_items lanes)
        below = all-from (λ i. drawn_below (word.Pool p) all (touch i)) (all_items lanes) (and_parts _ _ keeps.numbers).0

        given_ones : AllByRecursion (λ i. (m : ℕ) → m < all → drawn_as (word.Pool p) m (touch i) ≡ true → gives_own (blocks_of sys p) i.body ≡ true) (all_items lanes)
        given_ones =
            all-each (λ m i. m < all → drawn_as (word.Pool p) m (touch i) ≡ true → gives_own (blocks_of sys p) i.body ≡ true) (all_items lanes)
            (λ m. all-each (λ less i. drawn_as (word.Pool p) m (touch i) ≡ true → gives_own (blocks_of sys p) i.body ≡ true) (all_items lanes)
            (λ less. hist-has (λ i. gives_own (blocks_of sys p) i.body ≡ true) (word.Pool p) (all_items lanes) (gives-all (blocks_of sys p) (hist (word.Pool p) (all_items lanes)) keeps.allowed) m less))

        self : (p == p) ≡ true
        self = grind (arith, nat_tests)

        own : (o : ℕ) (b : Body) (n c from sig : ℕ) (pars : List ℕ) → b ≡ item.New p n c from sig pars → drawn_below (word.Pool p) all (touch_of o b) ≡ true
            → ((m : ℕ) → m < all → drawn_as (word.Pool p) m (touch_of o b) ≡ true → gives_own (blocks_of sys p) b ≡ true) → IsTrue (is_pool sys p && nat_lt c (blocks_of sys p))
        own o b n c from sig pars is low high =
            let there : (not (p == p) || (nat_lt 0 (suc n) && nat_le (suc n) all)) ≡ true = subst (λ x. drawn_below (word.Pool p) all (touch_of o x) ≡ true) is low in
            let limit : (nat_lt 0 (suc n) && nat_le (suc n) all) ≡ true = subst (λ u. (not u || (nat_lt 0 (suc n) && nat_le (suc n) all)) ≡ true) self there in
            let within : nat_le (suc n) all ≡ true = (and_parts (nat_lt 0 (suc n)) (nat_le (suc n) all) limit).1 in
            let less : n < all = grind (arith, nat_tests, within) in
            let next : (suc n == suc n) ≡ true = grind (arith, nat_tests) in
            let drawn : drawn_as (word.Pool p) n (touch_of o b) ≡ true = subst (λ x. drawn_as (word.Pool p) n (touch_of o x) ≡ true) (sym is) (and_from (p == p) (suc n == suc n) self next) in
            and_from _ _ h (subst (λ x. gives_own (blocks_of sys p) x ≡ true) is (high n less drawn))

    abbrev OwnSet : ℕ → Item → Type 0
    OwnSet sig i = (n set : ℕ) → i.body ≡ item.Pub sig n set → AllByRecursion (λ a. IsTrue (is_object sys a)) (members set)

    signal-owns : (sig : ℕ) → IsTrue (is_signal sys sig) → AllByRecursion (OwnSet sig) (all_items lanes)
    unfolding is_shown shown_by
    signal-owns sig h =
        every-two (λ i. shown_by subscribers (word.Signal sig) history i.body (touch i) ≡ true) (λ i. FirstFine sys i.of i.body) (OwnSet sig) (λ i shows first n set is. own i.of i.body n set is shows) (all_items lanes)
        (all-from (λ i. shown_by subscribers (word.Signal sig) history i.body (touch i)) (all_items lanes) keeps.shown) fine
      where
        history : List Item
        history = hist (word.Signal sig) (all_items lanes)

        keeps : Keeps Subscribers subscribers (word.Signal sig) lanes
        keeps = words.signals sig h

        history_fine : AllByRecursion (λ i. FirstFine sys i.of i.body) history
        history_fine = hist-all (λ i. FirstFine sys i.of i.body) (λ i. FirstFine sys i.of i.body) (word.Signal sig) (all_items lanes) (λ i on f. f) fine

        self : (sig == sig) ≡ true
        self = grind (arith, nat_tests)

        own : (o : ℕ) (b : Body) (n set : ℕ) → b ≡ item.Pub sig n set → shown_by subscribers (word.Signal sig) history b (touch_of o b) ≡ true → AllByRecursion (λ a. IsTrue (is_object sys a)) (members set)
        own o b n set is shows =
            let there : shown_by subscribers (word.Signal sig) history (item.Pub sig n set) (Shows (word.Signal sig) n) ≡ true =
            subst (λ x. shown_by subscribers (word.Signal sig) history x (touch_of o x) ≡ true) is shows in
            let says = shown (sig == sig) self there in
            let same : bits_of_set (after subscribers (take n history)).members ≡ set = grind (arith, nat_tests, says) in
            let whole : is_allowed subscribers (take n history ++ drop n history) ≡ true = subst (λ x. is_allowed subscribers x ≡ true) (sym (take-append-drop n history)) keeps.allowed in
            let parts = every-parts (λ i. FirstFine sys i.of i.body) (take n history) (drop n history)
            (subst (AllByRecursion (λ i. FirstFine sys i.of i.body)) (sym (take-append-drop n history)) history_fine) in
            members-own (take n history) set (is_allowed-front subscribers (take n history) (drop n history) whole) parts.0 same
          where
            shown : (u : Bool) → u ≡ true
                → cond u (nat_le n (length history) && (bits_of_set (after subscribers (take n history)).members == set)) true ≡ true
                → (bits_of_set (after subscribers (take n history)).members == set) ≡ true
            shown true e h = (and_parts _ _ h).1
            shown false e h = absurd (cc)

    pub sure : AllByRecursion (λ i. SureBody i.body) (all_items lanes)
    sure =
        every-two (λ i. (p : ℕ) → IsTrue (is_pool sys p) → OwnBlock p i) (λ i. (sig : ℕ) → IsTrue (is_signal sys sig) → OwnSet sig i) (λ i. SureBody i.body)
        (λ i own told. record { blocks = λ p n c from sig pars is h. own p h n c from sig pars is; subscribed = λ sig n set is h. told sig h n set is })
        (all_items lanes)
        (all-each (λ p i. IsTrue (is_pool sys p) → OwnBlock p i) (all_items lanes) (λ p. all-each (λ h i. OwnBlock p i) (all_items lanes) (λ h. pool-owns p h)))
        (all-each (λ sig i. IsTrue (is_signal sys sig) → OwnSet sig i) (all_items lanes) (λ sig. all-each (λ h i. OwnSet sig i) (all_items lanes) (λ h. signal-owns sig h)))

    -- Entries of the system: static ones, and those of its blocks.

    abbrev OfSystem : Entry → Type 0
    OfSystem e = (e.pool ≡ 0) ⊎ IsTrue (is_block sys e.pool e.block)

    abbrev NewIn : ℕ → Item → Type 0
    NewIn p i = (q n c from sig : ℕ) (pars : List ℕ) → i.body ≡ item.New q n c from sig pars → IsTrue (is_block sys p c)

    given-has : (p b r : ℕ) (ev : Event) (e : Option Event) (is : List Item) → AllByRecursion (NewIn p) is → last_given b r e is ≡ Some ev → (e ≡ Some ev) ⊎ IsTrue (is_block sys p b)
    unfolding last_given
    given-has p b r ev e [] all h = inl h
    given-has p b r ev e (i ∷ is) all h = elim (given-has p b r ev (given_by b r e i.body) is all.1 h) [ inl first ↦ step i.body refl first | inr block ↦ inr block ]
      where
        step : (c : Body) → i.body ≡ c → given_by b r e c ≡ Some ev → (e ≡ Some ev) ⊎ IsTrue (is_block sys p b)
        step (item.New q n d from sig pars) at k = go ((d == b) && nat_le from r) refl k
          where
            go : (u : Bool) → ((d == b) && nat_le from r) ≡ u → cond u (Some (record { sig = sig; pars = pars })) e ≡ Some ev → (e ≡ Some ev) ⊎ IsTrue (is_block sys p b)
            go true on k =
                let test : (d == b) ≡ true = (and_parts (d == b) (nat_le from r) on).0 in
                let same : d ≡ b = grind (arith, nat_tests, test) in
                inr (subst (λ x. IsTrue (is_block sys p x)) same (all.0 q n d from sig pars at))
            go false on k = inl k
        step (item.Back q n d to) at k = go ((d == b) && nat_le to r) k
          where
            go : (u : Bool) → cond u None e ≡ Some ev → (e ≡ Some ev) ⊎ IsTrue (is_block sys p b)
            go true k = absurd (cc)
            go false k = inl k
        step c at k = inl k

    -- an entry that has an event is one of these
    event-good : (e : Entry) (ev : Event) → event_of_entry (record { sys = sys; items = all_items lanes }) e ≡ Some ev → OfSystem e
    unfolding event_of_entry life_event
    event-good e ev h = by_pool (e.pool == 0) refl h
      where
        new_in : (i : Item) → drawn_on (word.Pool e.pool) (touch i) ≡ true → FirstFine sys i.of i.body × SureBody i.body → NewIn e.pool i
        new_in i on known q n c from sig pars is =
            let test : (q == e.pool) ≡ true = subst (λ x. drawn_on (word.Pool e.pool) (touch_of i.of x) ≡ true) is on in
            let same : q ≡ e.pool = grind (arith, nat_tests, test) in
            let pool : IsTrue (is_pool sys q) = subst (FirstFine sys i.of) is known.0 in
            subst (λ x. IsTrue (is_block sys x c)) same (known.1.blocks q n c from sig pars is pool)

        pairs : AllByRecursion (λ i. FirstFine sys i.of i.body × SureBody i.body) (all_items lanes)
        pairs = every-two (λ i. FirstFine sys i.of i.body) (λ i. SureBody i.body) (λ i. FirstFine sys i.of i.body × SureBody i.body) (λ i f s. (f, s)) (all_items lanes) fine sure

        found : last_given e.block e.name None (hist (word.Pool e.pool) (all_items lanes)) ≡ Some ev → OfSystem e
        found h =
            elim (given-has e.pool e.block e.name ev None (hist (word.Pool e.pool) (all_items lanes))
            (hist-all (λ i. FirstFine sys i.of i.body × SureBody i.body) (NewIn e.pool) (word.Pool e.pool) (all_items lanes) new_in pairs) h) [ inl none ↦ absurd (cc) | inr block ↦ inr block ]

        by_pool : (u : Bool) → (e.pool == 0) ≡ u
            → cond u (Some (record { sig = e.block; pars = [] }))
            (cond (nat_lt e.name (length (hist (word.Block e.pool e.block) (all_items lanes)))) (last_given e.block e.name None (hist (word.Pool e.pool) (all_items lanes))) None)
            ≡ Some ev
            → OfSystem e
        by_pool true on h = inl (grind (arith, nat_tests, on))
        by_pool false on h = by_number (nat_lt e.name (length (hist (word.Block e.pool e.block) (all_items lanes)))) h
          where
            by_number : (u : Bool) → cond u (last_given e.block e.name None (hist (word.Pool e.pool) (all_items lanes))) None ≡ Some ev → OfSystem e
            by_number true h = found h
            by_number false h = absurd (cc)

    -- What is known beside a record, and what follows for it.

    record KnowsTold (t : Told) : Type 0 where
      sure_of : SureBody t.body
      event : (f l m : ℕ) (e : Entry) (ev : Event) → t.body ≡ item.Took f l m e → t.known ≡ OfEvent ev → event_of_entry (record { sys = sys; items = all_items lanes }) e ≡ Some ev

    known-event : (o : Option Event) (ev : Event) → event_known o ≡ OfEvent ev → o ≡ Some ev
    known-event None ev h = absurd (cc)
    known-event (Some x) ev h = let same : x ≡ ev = cc in ap (λ y. Some y) same

    told-knows : (o c : ℕ) (b : Body) → SureBody b → KnowsTold (told (record { sys = sys; items = all_items lanes }) o c b)
    unfolding told known_of
    told-knows o c b sure_of = record {
      sure_of = sure_of;
      event = λ f l m e ev is known.
          known-event (event_of_entry (record { sys = sys; items = all_items lanes }) e) ev (subst (λ x. known_of (record { sys = sys; items = all_items lanes }) o c x ≡ OfEvent ev) is known);
    }

    block-there : (e : Entry) → 0 < e.pool → OfSystem e → IsTrue (is_block sys e.pool e.block)
    block-there e some (inl none) = absurd (omega (arith, some, none))
    block-there e some (inr block) = block

    pool-there : (p b : ℕ) → IsTrue (is_block sys p b) → IsTrue (is_pool sys p)
    unfolding is_block
    pool-there p b h = (and_parts (is_pool sys p) (nat_lt b (blocks_of sys p)) h).0

    -- blocks and members are the system's
    abbrev known_named : Claims
    known_named = record {
      names = system_names sys;
      Pool = λ p. IsTrue (is_pool sys p);
      Block = λ p b. IsTrue (is_block sys p b);
      Good = OfSystem;
      New = λ p sig pars. IsTrue (is_pool sys p);
      Member = λ a. IsTrue (is_object sys a);
      Rests = ⊤;
      Knows = KnowsTold;
    }

    rules : Rules sys known_named
    rules = record {
      object = λ a is. is;
      timer = λ t is. is;
      pool = λ p is. is;
      new = λ p sig pars first event. first-there sys (length pars) p first;
      made = λ p n b from sig free pars pool known. known.sure_of.blocks p n b from sig pars refl pool;
      good = λ p b r block. inr block;
      block = λ e some good. block-there e some good;
      static = λ sig is. inl refl;
      takes = λ f l m e ev known. event-good e ev (known.event f l m e ev refl refl);
      member = λ a is. is;
      subscribed = λ sig n set signal known. known.sure_of.subscribed sig n set refl signal;
    }

    uses-named : (o : ℕ) (H : List Token) (b : Body) → Uses o known_named H b → is_on (has_word sys) (touch_of o b) ≡ true
    uses-named o H (item.New p n b from sig pars) uses = uses
    uses-named o H item.Malformed uses = absurd uses
    uses-named o H (item.Rest k) uses = refl
    uses-named o H (item.Inc p b r) uses = uses.0
    uses-named o H (item.Dec p b d k) uses = uses.0
    uses-named o H (item.Back p n b to) uses = pool-there p b uses.0
    uses-named o H (item.Post a f l m e) uses = uses.0
    uses-named o H (item.Lifo f l m e) uses = uses.0
    uses-named o H (item.Sub sig n) uses = uses.0
    uses-named o H (item.Arm t n ticks interval) uses = uses.0
    uses-named o H (item.Rearm t n former ticks) uses = uses.0
    uses-named o H b uses = touched (touch_of o b) uses
      where
        has : (w : Word) → Has known_named w → has_word sys w ≡ true
        has (word.Pool p) h = h
        has (word.Block p b) h = h
        has (word.Queue a) h = h
        has (word.Signal sig) h = h
        has (word.Timer t) h = h

        touched : (t : Touch) → HasTouched known_named t → is_on (has_word sys) t ≡ true
        touched (Draws w mark) h = has w h
        touched (Shows w mark) h = has w h
        touched Neither h = refl

units : (is : List Item) → AllByRecursion (λ i. ⊤) is
units [] = tt
units (i ∷ is) = (tt, units is)

pub none-known : (is : List Item) → AllByRecursion (λ i. (c : ℕ) → ⊤) is
none-known [] = tt
none-known (i ∷ is) = ((λ c. tt), none-known is)

first-records : (sys : System) (stimuli : List (List Stim)) (j : Journal) → IsSound sys → StimuliFit sys stimuli → Lawful sys stimuli j → AllByRecursion (λ i. FirstFine sys i.of i.body) (all_items j.lanes)
first-records sys stimuli j sound fit lawful = all-fine sys stimuli j (bare sys) (first-rules sys) (λ qv. tt) sound (stimuli-names sys stimuli fit) lawful (chart-names sys sound) (FirstFine sys) (first-fine sys) (none-known (all_items j.lanes))

-- of each record of a lawful journal: its block is one of the pool's, and the members that it shows are objects
pub sure-records : (sys : System) (stimuli : List (List Stim)) (j : Journal) → IsSound sys → StimuliFit sys stimuli → Lawful sys stimuli j → AllByRecursion (λ i. SureBody sys i.body) (all_items j.lanes)
sure-records sys stimuli j sound fit lawful = sure sys j.lanes lawful.words (first-records sys stimuli j sound fit lawful)

pub named-records : LawfulRecordsAreNamed
unfolding facts_of
named-records sys stimuli j sound fit lawful =
    let first = first-records sys stimuli j sound fit lawful in
    every-test (λ i. is_on (has_word sys) (touch i)) (all_items j.lanes)
    (all-fine sys stimuli j (known_named sys j.lanes lawful.words first) (rules sys j.lanes lawful.words first) (λ qv. tt) sound (stimuli-names sys stimuli fit) lawful (chart-names sys sound) (λ o b. is_on (has_word sys) (touch_of o b) ≡ true)
    (uses-named sys j.lanes lawful.words first)
    (every-two (λ i. SureBody sys i.body) (λ i. ⊤) (λ i. (c : ℕ) → KnowsTold sys j.lanes lawful.words first (told (record { sys = sys; items = all_items j.lanes }) i.of c i.body))
    (λ i s t c. told-knows sys j.lanes lawful.words first i.of c i.body s) (all_items j.lanes) (sure sys j.lanes lawful.words first) (units (all_items j.lanes))))
