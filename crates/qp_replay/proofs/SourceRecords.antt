-- The records of a source, for the tokens that they use: each stimulus gives back what it made, but for what it posts.
use Rattle.std.proofs.Common.{◌≡◌, ◌∙◌, ℕ, zero, suc, ◌+◌, ◌-◌, ◌<◌, ◌≤◌, ◌==◌, nat_lt, nat_le, Bool, true, false, List, [], ◌∷◌, ◌++◌, length, refl, sym, ap, subst, arith, ◌⊎◌, inl, inr, Option, Some, None, IsTrue, cond}
use Rattle.std.specs.Bool.{MatchBool}
use Rattle.std.specs.List.{AllByRecursion, Any, find}
use Rattle.std.specs.Option.{option_map_or}
use Rattle.std.specs.Prelude.{⊤, slice_get, is_some, map}
use Rattle.std.proofs.lemmas.Bool.{and_from}
use Rattle.std.proofs.lemmas.Bool.Decides.{nat_tests}
use Rattle.std.proofs.lemmas.Option.{slice_get_within, slice_get-get_or}
use Rattle.qp_base.specs.declared.event.Ev.{Ev}
use Rattle.qp_model.specs.declared.stimulus.Stim.{Stim}
use Rattle.qp_model.specs.declared.stimulus.Stim.TheVariants as stim
use Rattle.qp_model.specs.declared.systems.System.{System}
use Rattle.qp_model.specs.declared.systems.ObjectDef.{ObjectDef}
use Rattle.qp_model.specs.declared.systems.TimerDef.{TimerDef}
use Rattle.qp_model.specs.declared.bodies.Body.TheVariants as item
use Rattle.qp_model.specs.Record.{entry}
use Rattle.qp_model.specs.Told.{Told, plain}
use Rattle.qp_model.specs.Calls as call
use Rattle.qp_model.specs.Parts.{is_static, params_of}
use Rattle.qp_model.specs.Sites.{object_at, ring_of}
use Rattle.qp_model.specs.Sound.{IsSound, IsSoundTimer}
use Rattle.qp_model.specs.WordLaw.{is_object, is_signal}
use Rattle.qp_model.specs.Sources.{CallFits, TicksOne, FiresInVain, Ticks, SeesEmpty, SeesEntry, Tries, priorities, Settles, StimFits, SourceEnd, AfterTry, AtAssert, InStimulus, EndsIn, SourceRuns}
use Rattle.qp_stim.specs.Rules as rule
use Rattle.qp_calls.specs.Tokens.{Token, hands_by}
use Rattle.qp_plain_sound.specs.Sound.{is_event}
use Rattle.qp_replay.proofs.CallRecords.{Claims, Leads, Named, Lin, Rules, leads-append, leads-less, leads-nil, leads-same, lin-append, lin-front, other-leads, post-one, still}

-- an object of the list is found by its priority
pub found-at : (o k : ℕ) (ds : List ObjectDef) (d : ObjectDef) → slice_get ds k ≡ Some d → d.priority ≡ o → is_some (find (λ x. x.priority == o) ds) ≡ true
found-at o k [] d at is = absurd (cc)
found-at o k (x ∷ xs) d at is = go k at (x.priority == o) refl (λ n later. found-at o n xs d later is)
  where
    go : (k : ℕ) → slice_get (x ∷ xs) k ≡ Some d → (b : Bool) → (x.priority == o) ≡ b → ((n : ℕ) → slice_get xs n ≡ Some d → is_some (find (λ x. x.priority == o) xs) ≡ true)
        → is_some (cond b (Some x) (find (λ x. x.priority == o) xs)) ≡ true
    go k at true e later = refl
    go zero at false e later =
        let first : x ≡ d = cc in
        let same : x.priority ≡ o = ap (λ y. y.priority) first ∙ is in
        let yes : (x.priority == o) ≡ true = grind (arith, nat_tests, same) in
        absurd (cc)
    go (suc n) at false e later = later n at

pub any-object : (sys : System) (o : ℕ) → Any (λ d. d.priority ≡ o) sys.objects → IsTrue (is_object sys o)
unfolding is_object object_at
any-object sys o (k, d, within, at, is) = found-at o k sys.objects d (slice_get-get_or sys.objects k d within ∙ ap (λ x. Some x) at) is

pub event-signal : (sys : System) (ev : Ev) (reserve : Option ℕ) → rule.EventFits sys ev reserve → IsTrue (is_signal sys ev.sig)
event-signal sys ev reserve h =
    let within = slice_get_within sys.signals (ev.sig - 4) h.def h.declared in
    let four : nat_le 4 ev.sig ≡ true = (let low = h.above_reserved in grind (arith, nat_tests, low)) in
    let few : nat_lt ev.sig (length sys.signals + 4) ≡ true = (let low = h.above_reserved in grind (arith, nat_tests, low, within)) in
    and_from _ _ four few

-- objects by their priorities, each of which is one of the system
pub own-objects : (sys : System) → AllByRecursion (λ o. IsTrue (is_object sys o)) (priorities sys)
unfolding is_object object_at
own-objects sys = go 0 sys.objects (λ n d at. subst (λ m. slice_get sys.objects m ≡ Some d) (from_none n) at)
  where
    from_none : (n : ℕ) → n ≡ 0 + n
    from_none n = omega arith

    next : (k n : ℕ) → k + suc n ≡ suc k + n
    next k n = omega arith

    go : (k : ℕ) (ds : List ObjectDef) → ((n : ℕ) (d : ObjectDef) → slice_get ds n ≡ Some d → slice_get sys.objects (k + n) ≡ Some d)
        → AllByRecursion (λ o. IsTrue (is_some (find (λ d. d.priority == o) sys.objects))) (map (λ d. d.priority) ds)
    go k [] at = tt
    go k (d ∷ ds) at =
        (found-at d.priority (k + 0) sys.objects d (at 0 d refl) refl, go (suc k) ds (λ n x here. subst (λ m. slice_get sys.objects m ≡ Some x) (next k n) (at (suc n) x here)))

-- an event that fits the system is one of it
pub fits-event : (sys : System) (ev : Ev) (reserve : Option ℕ) → rule.EventFits sys ev reserve → IsTrue (is_event sys (record { sig = ev.sig; pars = ev.pars.items }))
fits-event sys ev reserve h =
    let low = h.above_reserved in
    let within = slice_get_within sys.signals (ev.sig - 4) h.def h.declared in
    let four : nat_le 4 ev.sig ≡ true = grind (arith, nat_tests, low) in
    let few : nat_lt ev.sig (length sys.signals + 4) ≡ true = grind (arith, nat_tests, low, within) in
    let params : params_of sys ev.sig ≡ h.def.params = ap (λ o. option_map_or (λ d. d.params) o 0) h.declared in
    let count : (length ev.pars.items == params_of sys ev.sig) ≡ true = (let n = h.count in grind (arith, nat_tests, n, params)) in
    and_from _ _ (and_from _ _ four few) count

-- the timers from number t on, each of which posts its static signal to an object
record Timers (sys : System) (t : ℕ) (ds : List TimerDef) : Type 0 where
  some : 0 < t
  last : t + length ds ≡ length sys.timers + 1
  objects : AllByRecursion (λ d. IsTrue (is_object sys d.object) × (is_static sys d.sig ≡ true)) ds

all-timers : (sys : System) → IsSound sys → Timers sys 1 sys.timers
unfolding is_object is_static
all-timers sys sound = record { some = omega arith; last = omega arith; objects = go sys.timers sound.timers }
  where
    static : (d : TimerDef) → IsSoundTimer sys d → is_static sys d.sig ≡ true
    static d h =
        let low = h.from_four in
        let four : nat_le 4 d.sig ≡ true = grind (arith, nat_tests, low) in
        let fixed : option_map_or (λ x. x.fixed) (slice_get sys.signals (d.sig - 4)) false ≡ true = ap (λ o. option_map_or (λ x. x.fixed) o false) h.is_signal ∙ h.static in
        and_from _ _ four fixed

    go : (ds : List TimerDef) → AllByRecursion (IsSoundTimer sys) ds → AllByRecursion (λ d. IsTrue (is_object sys d.object) × (is_static sys d.sig ≡ true)) ds
    go [] h = tt
    go (d ∷ ds) h = ((rw h.0.is_owner refl, static d h.0), go ds h.1)

-- what a stimulus names
abbrev pub StimNames : Named → Stim → Type 0
StimNames N (stim.Post to ev margin reserve) = N.Object to × N.Event ev.sig ev.pars.items
StimNames N (stim.Publish ev reserve) = N.Signal ev.sig × N.Event ev.sig ev.pars.items
StimNames N _ = ⊤

module _ (sys : System) (sound : IsSound sys) (P : Claims) (rules : Rules sys P) where
  -- the records may be made with nothing at hand, and leave nothing
  abbrev Alone : List Told → Type 0
  Alone g = Leads sys 0 P (λ t. 0) g (λ t. 0)

  same : (g h : List Told) → g ≡ h → Alone h → Alone g
  same g h is c = leads-same sys 0 P (λ t. 0) (λ t. 0) g h is c

  then : (g h : List Told) → Alone g → Alone h → Alone (g ++ h)
  then g h c k = leads-append sys 0 P (λ t. 0) (λ t. 0) (λ t. 0) g h c (λ known. k)

  timer : (t : ℕ) (d : TimerDef) (ds : List TimerDef) → Timers sys t (d ∷ ds) → P.names.Timer t
  timer t d ds h =
      let some : nat_lt 0 t ≡ true = (let low = h.some in grind (arith, nat_tests, low)) in
      let within : t ≤ length sys.timers = omega (arith, h.last) in
      let few : nat_le t (length sys.timers) ≡ true = grind (arith, nat_tests, within) in
      rules.timer t (and_from _ _ some few)

  posts : (a f l m sig : ℕ) → IsTrue (is_object sys a) → is_static sys sig ≡ true → Alone (plain (item.Post a f l m (entry 0 sig 0)) ∷ [])
  posts a f l m sig object static =
      leads-less sys 0 P (λ t. 0 + 0) (λ t. 0) (λ t. 0) (λ t. 0) (plain (item.Post a f l m (entry 0 sig 0)) ∷ []) (λ t. omega arith) (λ t. omega arith)
      (post-one sys 0 P rules a f l m (entry 0 sig 0) (λ t. 0) (rules.member a (rules.object a object)) (rules.static sig static))

  one-alone : (ring t : ℕ) (d : TimerDef) (g : List Told) → P.names.Timer t → IsTrue (is_object sys d.object) × (is_static sys d.sig ≡ true) → TicksOne ring t d g → Alone g
  unfolding TicksOne hands_by
  one-alone ring t d g is object (inl (n, at)) = same g _ at (still sys 0 P (λ t. 0) (plain (item.Idle t n)) (λ H. is) (λ H. refl))
  one-alone ring t d g is object (inr (inl (n, counter, at))) = same g _ at (still sys 0 P (λ t. 0) (plain (item.Tick t n counter)) (λ H. is) (λ H. refl))
  one-alone ring t d g is object (inr (inr (n, reload, f, l, m, at, room))) =
      same g _ at
      (then (plain (item.Fire t n reload) ∷ []) (plain (item.Post d.object f l m (entry 0 d.sig 0)) ∷ []) (still sys 0 P (λ t. 0) (plain (item.Fire t n reload)) (λ H. is) (λ H. refl))
      (posts d.object f l m d.sig object.0 object.1))

  vain-alone : (t : ℕ) (d : TimerDef) (g : List Told) → P.names.Timer t → IsTrue (is_object sys d.object) → FiresInVain t d g → Alone g
  unfolding FiresInVain hands_by
  vain-alone t d g is object (n, reload, f, l, m, at) =
      same g _ at
      (then (plain (item.Fire t n reload) ∷ []) (plain (item.NoEntry d.object f l m) ∷ []) (still sys 0 P (λ t. 0) (plain (item.Fire t n reload)) (λ H. is) (λ H. refl))
      (still sys 0 P (λ t. 0) (plain (item.NoEntry d.object f l m)) (λ H. rules.member d.object (rules.object d.object object)) (λ H. refl)))

  ticks-alone : (rate t : ℕ) (ds : List TimerDef) (asserted : Bool) (g : List Told) → Timers sys t ds → Ticks sys rate t ds asserted g → Alone g
  unfolding Ticks
  ticks-alone rate t [] asserted g timers (at, is) = same g [] at (leads-nil sys 0 P (λ t. 0))
  ticks-alone rate t (d ∷ ds) asserted g timers h = go (d.rate == rate) h (λ g k. ticks-alone rate (t + 1) ds asserted g later k)
    where
      later : Timers sys (t + 1) ds
      later = record { some = omega arith; last = omega (arith, timers.last); objects = timers.objects.1 }

      go : (b : Bool)
          → MatchBool b
          (((asserted ≡ true) × FiresInVain t d g)
          ⊎ ((one rest : List Told) × (g ≡ one ++ rest) × TicksOne (ring_of sys d.object) t d one × Ticks sys rate (t + 1) ds asserted rest))
          (Ticks sys rate (t + 1) ds asserted g)
          → ((g : List Told) → Ticks sys rate (t + 1) ds asserted g → Alone g) → Alone g
      go true (inl (is, vain)) more = vain-alone t d g (timer t d ds timers) timers.objects.0.0 vain
      go true (inr (one, rest, at, ticks, others)) more = same g (one ++ rest) at (then one rest (one-alone (ring_of sys d.object) t d one (timer t d ds timers) timers.objects.0 ticks) (more rest others))
      go false h more = more g h

  looks : (o f l m : ℕ) (rest : List Told) → IsTrue (is_object sys o) → Alone rest → Alone (plain (item.Seen o f l m) ∷ rest)
  unfolding hands_by
  looks o f l m rest object c = then (plain (item.Seen o f l m) ∷ []) rest (still sys 0 P (λ t. 0) (plain (item.Seen o f l m)) (λ H. rules.object o object) (λ H. refl)) c

  settle : (rest : List Told) → Alone rest → Alone (plain item.Settle ∷ rest)
  unfolding hands_by
  settle rest c = then (plain item.Settle ∷ []) rest (still sys 0 P (λ t. 0) (plain item.Settle) (λ H. tt) (λ H. refl)) c

  empty-alone : (os : List ℕ) (g : List Told) → AllByRecursion (λ o. IsTrue (is_object sys o)) os → SeesEmpty os g → Alone g
  unfolding SeesEmpty
  empty-alone [] g objects h = same g [] h (leads-nil sys 0 P (λ t. 0))
  empty-alone (o ∷ os) g objects (f, l, m, rest, at, is, others) = same g _ at (looks o f l m rest objects.0 (empty-alone os rest objects.1 others))

  entry-alone : (os : List ℕ) (g : List Told) → AllByRecursion (λ o. IsTrue (is_object sys o)) os → SeesEntry os g → Alone g
  unfolding SeesEntry
  entry-alone [] g objects h = absurd h
  entry-alone (o ∷ os) g objects (f, l, m, rest, at, inl (is, others)) = same g _ at (looks o f l m rest objects.0 (entry-alone os rest objects.1 others))
  entry-alone (o ∷ os) g objects (f, l, m, rest, at, inr (some, last)) = same g _ at (looks o f l m rest objects.0 (same rest [] last (leads-nil sys 0 P (λ t. 0))))

  tries-alone : (n : ℕ) (g : List Told) → Tries (priorities sys) n g → Alone g
  unfolding Tries
  tries-alone zero g h = same g [] h (leads-nil sys 0 P (λ t. 0))
  tries-alone (suc n) g (one, rest, at, sees, others) = same g _ at (settle (one ++ rest) (then one rest (entry-alone (priorities sys) one (own-objects sys) sees) (tries-alone n rest others)))

  settles-alone : (kernel : ℕ) (g : List Told) → Settles sys kernel g → Alone g
  unfolding Settles
  settles-alone kernel g (n, tries, last, at, tried, may, sees) =
      same g _ at (then tries (plain item.Settle ∷ last) (tries-alone n tries tried) (settle last (empty-alone (priorities sys) last (own-objects sys) sees)))

  -- the records of a stimulus
  stim-alone : (kernel : ℕ) (s : Stim) (asserted : Bool) (g : List Told) → StimNames P.names s → StimFits sys kernel s asserted g → Alone g
  unfolding StimFits CallFits
  stim-alone kernel (stim.Post to ev margin reserve) asserted g fit (answer, fits, is) =
      leads-less sys 0 P (λ t. 0 + 0) (λ t. 0) (λ t. 0 + 0) (λ t. 0) g (λ t. omega arith) (λ t. omega arith)
      (other-leads sys 0 P rules None (call.Post to ev.sig ev.pars.items margin reserve) answer g (λ t. 0) refl fit tt (λ p b u. refl) fits)
  stim-alone kernel (stim.Publish ev reserve) asserted g fit (answer, fits, is) =
      leads-less sys 0 P (λ t. 0 + 0) (λ t. 0) (λ t. 0 + 0) (λ t. 0) g (λ t. omega arith) (λ t. omega arith)
      (other-leads sys 0 P rules None (call.Publish ev.sig ev.pars.items reserve) answer g (λ t. 0) refl fit tt (λ p b u. refl) fits)
  stim-alone kernel (stim.Tick rate) asserted g fit h = ticks-alone rate 1 sys.timers asserted g (all-timers sys sound) h
  stim-alone kernel stim.Settle asserted g fit h = settles-alone kernel g h.0

  -- a front of the records may be made with empty hands
  abbrev Front : List Told → Type 0
  Front g = (H : List Token) → Lin sys 0 P H g

  front-of : (g : List Told) → Alone g → Front g
  front-of g c H = (c H (λ t. omega arith)).0

  part : (kernel : ℕ) (s : Stim) (g : List Told) → StimNames P.names s → (back : List Told) (asserted : Bool) → StimFits sys kernel s asserted (g ++ back) → Front g
  part kernel s g fit back asserted h H = lin-front sys 0 P H g back (front-of (g ++ back) (stim-alone kernel s asserted (g ++ back) fit h) H)

  ends-front : (kernel : ℕ) (s : Stim) (end : SourceEnd) (g : List Told) → StimNames P.names s → EndsIn sys kernel s end g → Front g
  unfolding EndsIn
  ends-front kernel stim.Settle AfterTry g fit (n, tries, may) = front-of g (tries-alone (suc n) g tries)
  ends-front kernel s AtAssert g fit h = front-of g (stim-alone kernel s true g fit h)
  ends-front kernel s InStimulus g fit (back, some, asserted, h) = part kernel s g fit back asserted h
  ends-front kernel s end g fit h = absurd h

  behind-stim : (k look : ℕ) (g rest : List Told) → g ≡ plain (item.Stim k look) ∷ rest → Front rest → Front g
  unfolding hands_by
  behind-stim k look g rest at front H = subst (Lin sys 0 P H) (sym at) (tt, λ known. front H)

  -- the records of a source
  pub source-lin : (kernel k : ℕ) (ss : List Stim) (end : SourceEnd) (g : List Told) → AllByRecursion (StimNames P.names) ss → SourceRuns sys kernel k ss end g → Front g
  unfolding SourceRuns
  source-lin kernel k [] end g fit h = front-of g (same g [] h.0 (leads-nil sys 0 P (λ t. 0)))
  source-lin kernel k (s ∷ ss) end g fit (inl h) = front-of g (same g [] h.0 (leads-nil sys 0 P (λ t. 0)))
  source-lin kernel k (s ∷ ss) end g fit (inr (inl (look, one, at, may, ends))) = behind-stim k look g one at (ends-front kernel s end one fit.0 ends)
  source-lin kernel k (s ∷ ss) end g fit (inr (inr (look, one, rest, at, may, fits, runs))) =
      let first = stim-alone kernel s false one fit.0 fits in
      behind-stim k look g (one ++ rest) at (λ H. lin-append sys 0 P H one rest (front-of one first H) (λ known. source-lin kernel (k + 1) ss end rest fit.1 runs _))
