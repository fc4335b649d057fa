-- The lane of a source: its stimuli in order, each with the records that fit it.
use Rattle.std.specs.Prelude.{◌≡◌, ◌≢◌, ℕ, zero, suc, ◌+◌, ◌==◌, ◌<◌, nat_lt, Bool, true, false, not, ◌&&◌, ◌||◌, ◌⊎◌, List, [], ◌∷◌, ◌++◌, map, if◌then◌else◌, IsTrue, Some, None}
use Rattle.std.specs.declared.option.Option.{Option}
use Rattle.std.specs.Bool.{MatchBool}
use Rattle.std.specs.List.{list_all, list_any, filter, filter_map}
use Rattle.qp_model.specs.declared.stimulus.Stim.{Stim}
use Rattle.qp_model.specs.declared.stimulus.Stim.TheVariants as stim
use Rattle.qp_model.specs.declared.systems.TimerDef.{TimerDef}
use Rattle.qp_model.specs.declared.systems.System.{System}
use Rattle.qp_model.specs.declared.bodies.Body.{Body}
use Rattle.qp_model.specs.declared.bodies.Body.TheVariants as body
use Rattle.qp_model.specs.Record.{Item, entry}
use Rattle.qp_model.specs.Told.{Told, plain}
use Rattle.qp_model.specs.Knowing.{Facts, records_of}
use Rattle.qp_model.specs.Calls as call
use Rattle.qp_model.specs.Calls.{Call, Answer, is_assertion}
use Rattle.qp_model.specs.Sites.{ring_of}
use Rattle.qp_model.specs.Parts.{room_before}
use Rattle.qp_model.specs.Shapes.{Fits}
use Rattle.qp_model.specs.Ends.{is_spill, spills_in, may_cut, spills_cut}
use Rattle.qp_model.specs.Kernels.{may_try}

-- the records of a call that a source makes, which ends in an assertion or doesn't
unfoldable pub CallFits : System → Call → Bool → List Told → Type 0
unfolding Fits
CallFits sys x asserted g = (answer : Answer) × Fits sys 0 None x answer g × (is_assertion answer ≡ asserted)

-- a tick of timer t: it is idle, or its counter falls, or it fires and its signal is posted to its object
unfoldable pub TicksOne : ℕ → ℕ → TimerDef → List Told → Type 0
unfolding room_before
TicksOne ring t d g =
    ((n : ℕ) × (g ≡ plain (body.Idle t n) ∷ []))
    ⊎ ((n counter : ℕ) × (g ≡ plain (body.Tick t n counter) ∷ []))
    ⊎ ((n reload f l m : ℕ) × (g ≡ plain (body.Fire t n reload) ∷ plain (body.Post d.object f l m (entry 0 d.sig 0)) ∷ [])
    × IsTrue (nat_lt 0 (room_before ring f l m)))

-- it fires, and the queue of its object has no entry
unfoldable pub FiresInVain : ℕ → TimerDef → List Told → Type 0
FiresInVain t d g = (n reload f l m : ℕ) × (g ≡ plain (body.Fire t n reload) ∷ plain (body.NoEntry d.object f l m) ∷ [])

-- a tick of a rate, for its timers from number t on, ascending
unfoldable pub Ticks : System → ℕ → ℕ → List TimerDef → Bool → List Told → Type 0
unfolding FiresInVain TicksOne ring_of
Ticks sys rate t [] asserted g = (g ≡ []) × (asserted ≡ false)
Ticks sys rate t (d ∷ ds) asserted g =
    MatchBool (d.rate == rate)
    (((asserted ≡ true) × FiresInVain t d g)
    ⊎ ((one rest : List Told) × (g ≡ one ++ rest) × TicksOne (ring_of sys d.object) t d one × Ticks sys rate (t + 1) ds asserted rest))
    (Ticks sys rate (t + 1) ds asserted g)

-- the queue of each object in turn is seen empty
unfoldable pub SeesEmpty : List ℕ → List Told → Type 0
SeesEmpty [] g = g ≡ []
SeesEmpty (o ∷ os) g = (f l m : ℕ) × (rest : List Told) × (g ≡ plain (body.Seen o f l m) ∷ rest) × (f + l ≡ m) × SeesEmpty os rest

-- the same up to the first that shows an entry
unfoldable pub SeesEntry : List ℕ → List Told → Type 0
SeesEntry [] g = ⊥
SeesEntry (o ∷ os) g =
    (f l m : ℕ) × (rest : List Told) × (g ≡ plain (body.Seen o f l m) ∷ rest) × (((f + l ≡ m) × SeesEntry os rest) ⊎ ((m < f + l) × (rest ≡ [])))

-- so many tries of a `settle`
unfoldable pub Tries : List ℕ → ℕ → List Told → Type 0
unfolding SeesEntry
Tries os zero g = g ≡ []
Tries os (suc n) g = (one rest : List Told) × (g ≡ plain body.Settle ∷ (one ++ rest)) × SeesEntry os one × Tries os n rest

abbrev pub priorities : System → List ℕ
priorities sys = map (λ d. d.priority) sys.objects

-- a `settle` that is done; in `qk` and `port` tries may stand before it
unfoldable pub Settles : System → ℕ → List Told → Type 0
unfolding SeesEmpty Tries
Settles sys kernel g =
    (n : ℕ) × (tries last : List Told) × (g ≡ tries ++ (plain body.Settle ∷ last)) × Tries (priorities sys) n tries
    × (IsTrue (may_try kernel) ⊎ (n ≡ 0)) × SeesEmpty (priorities sys) last

-- the records of a stimulus behind its `stim`
unfoldable pub StimFits : System → ℕ → Stim → Bool → List Told → Type 0
unfolding CallFits Settles Ticks
StimFits sys kernel (stim.Post to ev margin reserve) asserted g = CallFits sys (call.Post to ev.sig ev.pars.items margin reserve) asserted g
StimFits sys kernel (stim.Publish ev reserve) asserted g = CallFits sys (call.Publish ev.sig ev.pars.items reserve) asserted g
StimFits sys kernel (stim.Tick rate) asserted g = Ticks sys rate 1 sys.timers asserted g
StimFits sys kernel stim.Settle asserted g = Settles sys kernel g × (asserted ≡ false)

-- where the records of a source end
pub data SourceEnd : Type 0 where
  -- every stimulus is done
  AllDone : SourceEnd
  BeforeStimulus : SourceEnd
  AfterTry : SourceEnd
  AtAssert : SourceEnd
  -- within the records of a stimulus
  InStimulus : SourceEnd

-- the records of the last stimulus, which isn't whole
unfoldable pub EndsIn : System → ℕ → Stim → SourceEnd → List Told → Type 0
unfolding StimFits Tries
EndsIn sys kernel stim.Settle AfterTry g = (n : ℕ) × Tries (priorities sys) (suc n) g × IsTrue (may_try kernel)
EndsIn sys kernel s AtAssert g = StimFits sys kernel s true g
EndsIn sys kernel s InStimulus g = (back : List Told) × (back ≢ []) × (asserted : Bool) × StimFits sys kernel s asserted (g ++ back)
EndsIn sys kernel s end g = ⊥

-- the look's number in a `stim` is 0 in a run with threads
abbrev pub look_may : ℕ → ℕ → Bool
look_may kernel look = not (may_try kernel) || (look == 0)

-- the stimuli from place k on, each as `stim` with its place and its records
unfoldable pub SourceRuns : System → ℕ → ℕ → List Stim → SourceEnd → List Told → Type 0
unfolding EndsIn StimFits
SourceRuns sys kernel k [] end g = (g ≡ []) × (end ≡ AllDone)
SourceRuns sys kernel k (s ∷ ss) end g =
    ((g ≡ []) × (end ≡ BeforeStimulus))
    ⊎ ((look : ℕ) × (one : List Told) × (g ≡ plain (body.Stim k look) ∷ one) × IsTrue (look_may kernel look) × EndsIn sys kernel s end one)
    ⊎ ((look : ℕ) × (one rest : List Told) × (g ≡ plain (body.Stim k look) ∷ (one ++ rest)) × IsTrue (look_may kernel look)
    × StimFits sys kernel s false one × SourceRuns sys kernel (k + 1) ss end rest)

-- a `seen` of a queue with an entry, which ends a try
abbrev pub entry_seen : Body → Option (List ℕ)
entry_seen (body.Seen p f l m) = if nat_lt m (f + l) then Some (p ∷ f ∷ l ∷ m ∷ []) else None
entry_seen _ = None

abbrev pub same_list : List ℕ → List ℕ → Bool
same_list [] [] = true
same_list (x ∷ xs) (y ∷ ys) = (x == y) && same_list xs ys
same_list _ _ = false

-- no two of them are the same
unfoldable pub none_twice : List (List ℕ) → Bool
none_twice [] = true
none_twice (x ∷ xs) = not (list_any (same_list x) xs) && none_twice xs

-- a lane may end before all is done only where the run stopped early, and within a stimulus only by a `spill`
abbrev pub may_end : ℕ → Bool → SourceEnd → Bool
may_end end spills AllDone = true
may_end end spills InStimulus = may_cut end && spills
may_end end spills _ = may_cut end

-- what the records of a source tell, without its `spill`
unfoldable pub source_records : Facts → List Item → List Told
unfolding records_of
source_records w lane = records_of w 0 0 (filter (λ i. not (is_spill i.body)) lane)

-- the lane of a source: its records have no object, a `spill` stands only as the last of them and where the run stopped early, the others
-- are its stimuli in order, and no two tries end with the same `seen`
pub record IsSourceLane (w : Facts) (kernel end : ℕ) (ss : List Stim) (lane : List Item) : Type 0 where
  pub alone : IsTrue (list_all (λ i. i.of == 0) lane)
  pub spills : IsTrue (spills_cut end lane)
  pub tries : IsTrue (none_twice (filter_map (λ i. entry_seen i.body) lane))
  pub stimuli : (stop : SourceEnd) × SourceRuns w.sys kernel 1 ss stop (source_records w lane) × IsTrue (may_end end (spills_in lane) stop)
