-- The records of the last stimulus of a source, which isn't whole.
use Rattle.std.proofs.Common.{◌≡◌, ◌≢◌, ℕ, suc, Bool, true, false, cond, List, [], ◌∷◌, ◌++◌, Some, None, refl, subst}
use Rattle.std.specs.Prelude.{IsTrue}
use Rattle.qp_model.specs.declared.stimulus.Stim.{Stim}
use Rattle.qp_model.specs.declared.stimulus.Stim.TheVariants as stim
use Rattle.qp_model.specs.declared.systems.System.{System}
use Rattle.qp_model.specs.Told.{Told}
use Rattle.qp_model.specs.Calls as call
use Rattle.qp_model.specs.Kernels.{may_try}
use Rattle.qp_model.specs.Sources.{StimFits, EndsIn, SourceEnd, AllDone, BeforeStimulus, AfterTry, AtAssert, InStimulus, Tries, priorities}
use Rattle.qp_check_calls.specs.Decides.{Decides}
use Rattle.qp_check_calls.specs.Reads.{call_able}
use Rattle.qp_check_calls.specs.CallStateNext.{call_state_begin}
use Rattle.qp_check_ends.specs.TickState.{Reaching, dues}
use Rattle.qp_check_ends.specs.SettleState.{Before}
use Rattle.qp_check_ends.specs.Underway.{Underway, Calling, Ticking, Settling, call_begin, underway_begin, underway_next, underway_asserted, underway_tried, underway_open}
use Rattle.qp_check_ends.proofs.RecordLemmas.{decides}
use Rattle.qp_check_ends.proofs.SettleEndLemmas.{TriedFits}
use Rattle.qp_check_ends.proofs.CallLemmas.{CallLaws}
use Rattle.qp_check_ends.proofs.UnderwayLemmas.{UnderwayFits, IsUnderway, TriedOn, begin-whole, begin-sound, next-whole, next-sound, asserted-end, open-end, tried-on, tried-on-whole, tried-on-sound}

-- what is left of a stimulus ends so
unfoldable pub EndsOf : System → ℕ → Underway → SourceEnd → List Told → Type 0
EndsOf sys kernel u AfterTry g = TriedOn sys kernel u g
EndsOf sys kernel u AtAssert g = UnderwayFits sys kernel u true g
EndsOf sys kernel u InStimulus g = (back : List Told) × (back ≢ []) × (asserted : Bool) × UnderwayFits sys kernel u asserted (g ++ back)
EndsOf sys kernel u stop g = ⊥

-- the flags of a stimulus under way
abbrev pub ends_flag : ℕ → Underway → SourceEnd → Bool
ends_flag kernel u AfterTry = underway_tried kernel u
ends_flag kernel u AtAssert = underway_asserted u
ends_flag kernel u InStimulus = underway_open u
ends_flag kernel u stop = false

module _ (laws : CallLaws) (sys : System) (kernel : ℕ) where
  settle-tried : (g : List Told) → ((n : ℕ) × Tries (priorities sys) (suc n) g × IsTrue (may_try kernel))
      → (u : Underway) × (underway_begin sys stim.Settle ≡ Some u) × TriedOn sys kernel u g
  unfolding underway_begin TriedOn TriedFits
  settle-tried g h = (Settling (Before false), refl, h)

  tried-settle : (s : Stim) (u : Underway) (g : List Told) → underway_begin sys s ≡ Some u → TriedOn sys kernel u g → EndsIn sys kernel s AfterTry g
  unfolding underway_begin TriedOn TriedFits EndsIn call_begin
  tried-settle (stim.Post to ev margin reserve) u g e h = absurd (by (call_able sys None (call.Post to ev.sig ev.pars.items margin reserve)) e)
    where
      by : (able : Bool) → cond able (Some (Calling (call_state_begin 0 [] (call.Post to ev.sig ev.pars.items margin reserve)))) None ≡ Some u → ⊥
      by true k = let same : u ≡ Calling (call_state_begin 0 [] (call.Post to ev.sig ev.pars.items margin reserve)) = cc in subst (λ u. TriedOn sys kernel u g) same h
      by false k = cc
  tried-settle (stim.Publish ev reserve) u g e h = absurd (by (call_able sys None (call.Publish ev.sig ev.pars.items reserve)) e)
    where
      by : (able : Bool) → cond able (Some (Calling (call_state_begin 0 [] (call.Publish ev.sig ev.pars.items reserve)))) None ≡ Some u → ⊥
      by true k = let same : u ≡ Calling (call_state_begin 0 [] (call.Publish ev.sig ev.pars.items reserve)) = cc in subst (λ u. TriedOn sys kernel u g) same h
      by false k = cc
  tried-settle (stim.Tick rate) u g e h = let same : u ≡ Ticking (Reaching (dues rate 1 sys.timers)) = cc in absurd (subst (λ u. TriedOn sys kernel u g) same h)
  tried-settle stim.Settle u g e h = let same : u ≡ Settling (Before false) = cc in subst (λ u. TriedOn sys kernel u g) same h

  -- the records of the last stimulus, whichever it is
  assert-is : (s : Stim) (g : List Told) → EndsIn sys kernel s AtAssert g → StimFits sys kernel s true g
  unfolding EndsIn
  assert-is (stim.Post to ev margin reserve) g h = h
  assert-is (stim.Publish ev reserve) g h = h
  assert-is (stim.Tick rate) g h = h
  assert-is stim.Settle g h = h

  is-assert : (s : Stim) (g : List Told) → StimFits sys kernel s true g → EndsIn sys kernel s AtAssert g
  unfolding EndsIn
  is-assert (stim.Post to ev margin reserve) g h = h
  is-assert (stim.Publish ev reserve) g h = h
  is-assert (stim.Tick rate) g h = h
  is-assert stim.Settle g h = h

  within-is : (s : Stim) (g : List Told) → EndsIn sys kernel s InStimulus g → (back : List Told) × (back ≢ []) × (asserted : Bool) × StimFits sys kernel s asserted (g ++ back)
  unfolding EndsIn
  within-is (stim.Post to ev margin reserve) g h = h
  within-is (stim.Publish ev reserve) g h = h
  within-is (stim.Tick rate) g h = h
  within-is stim.Settle g h = h

  is-within : (s : Stim) (g : List Told) → ((back : List Told) × (back ≢ []) × (asserted : Bool) × StimFits sys kernel s asserted (g ++ back)) → EndsIn sys kernel s InStimulus g
  unfolding EndsIn
  is-within (stim.Post to ev margin reserve) g h = h
  is-within (stim.Publish ev reserve) g h = h
  is-within (stim.Tick rate) g h = h
  is-within stim.Settle g h = h

  none-done : (s : Stim) (g : List Told) → EndsIn sys kernel s AllDone g → ⊥
  unfolding EndsIn
  none-done (stim.Post to ev margin reserve) g h = h
  none-done (stim.Publish ev reserve) g h = h
  none-done (stim.Tick rate) g h = h
  none-done stim.Settle g h = h

  none-before : (s : Stim) (g : List Told) → EndsIn sys kernel s BeforeStimulus g → ⊥
  unfolding EndsIn
  none-before (stim.Post to ev margin reserve) g h = h
  none-before (stim.Publish ev reserve) g h = h
  none-before (stim.Tick rate) g h = h
  none-before stim.Settle g h = h

  -- a stimulus begins
  pub ends-begin : (s : Stim) (stop : SourceEnd) (g : List Told) → EndsIn sys kernel s stop g → (u : Underway) × (underway_begin sys s ≡ Some u) × EndsOf sys kernel u stop g
  unfolding EndsIn EndsOf
  ends-begin (stim.Post to ev margin reserve) AfterTry g h = absurd h
  ends-begin (stim.Publish ev reserve) AfterTry g h = absurd h
  ends-begin (stim.Tick rate) AfterTry g h = absurd h
  ends-begin stim.Settle AfterTry g h = settle-tried g h
  ends-begin s AtAssert g h = begin-whole laws sys kernel s true g (assert-is s g h)
  ends-begin s InStimulus g h =
      let within = within-is s g h in
      let some = begin-whole laws sys kernel s within.2 (g ++ within.0) within.3 in (some.0, some.1, (within.0, within.1, within.2, some.2))
  ends-begin s AllDone g h = absurd (none-done s g h)
  ends-begin s BeforeStimulus g h = absurd (none-before s g h)

  pub ends-begun : (s : Stim) (u : Underway) (stop : SourceEnd) (g : List Told) → underway_begin sys s ≡ Some u → EndsOf sys kernel u stop g → EndsIn sys kernel s stop g
  unfolding EndsIn EndsOf
  ends-begun s u AfterTry g e h = tried-settle s u g e h
  ends-begun s u AtAssert g e h = is-assert s g (begin-sound laws sys kernel s u true g e h)
  ends-begun s u InStimulus g e h = is-within s g (h.0, h.1, h.2, begin-sound laws sys kernel s u h.2 (g ++ h.0) e h.3)
  ends-begun s u AllDone g e h = absurd h
  ends-begun s u BeforeStimulus g e h = absurd h

  -- it reads one record
  pub ends-whole : (u : Underway) (stop : SourceEnd) (t : Told) (g : List Told) → EndsOf sys kernel u stop (t ∷ g)
      → (next : Underway) × (underway_next sys kernel u t ≡ Some next) × EndsOf sys kernel next stop g
  unfolding EndsOf
  ends-whole u AfterTry t g h = tried-on-whole laws sys kernel u t g h
  ends-whole u AtAssert t g h = next-whole laws sys kernel u true t g h
  ends-whole u InStimulus t g h = let some = next-whole laws sys kernel u h.2 t (g ++ h.0) h.3 in (some.0, some.1, (h.0, h.1, h.2, some.2))
  ends-whole u AllDone t g h = absurd h
  ends-whole u BeforeStimulus t g h = absurd h

  pub ends-sound : (u next : Underway) (stop : SourceEnd) (t : Told) (g : List Told) → underway_next sys kernel u t ≡ Some next → EndsOf sys kernel next stop g
      → EndsOf sys kernel u stop (t ∷ g)
  unfolding EndsOf
  ends-sound u next AfterTry t g e h = tried-on-sound laws sys kernel u next t g e h
  ends-sound u next AtAssert t g e h = next-sound laws sys kernel u next true t g e h
  ends-sound u next InStimulus t g e h = (h.0, h.1, h.2, next-sound laws sys kernel u next h.2 t (g ++ h.0) e h.3)
  ends-sound u next AllDone t g e h = absurd h
  ends-sound u next BeforeStimulus t g e h = absurd h

  -- nothing follows
  pub ends-end : (u : Underway) (stop : SourceEnd) → IsUnderway sys u → Decides (ends_flag kernel u stop) (EndsOf sys kernel u stop [])
  unfolding EndsOf
  ends-end u AfterTry is = tried-on laws sys kernel u
  ends-end u AtAssert is = asserted-end laws sys kernel u
  ends-end u InStimulus is = open-end laws sys kernel u is
  ends-end u AllDone is = decides false ⊥ (λ e. absurd (cc)) (λ e h. h)
  ends-end u BeforeStimulus is = decides false ⊥ (λ e. absurd (cc)) (λ e h. h)
