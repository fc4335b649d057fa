-- Where the records of a source may end.
use Rattle.std.proofs.Common.{◌≡◌, ◌≢◌, ℕ, Bool, true, false, ◌&&◌, List, [], ◌∷◌, ◌++◌, Some, None, refl, sym, subst, inl, inr, ◌⊎◌}
use Rattle.std.specs.declared.option.Option.{Option}
use Rattle.qp_model.specs.declared.stimulus.Stim.{Stim}
use Rattle.qp_model.specs.declared.systems.System.{System}
use Rattle.qp_model.specs.Told.{Told}
use Rattle.qp_model.specs.Sources.{SourceEnd, AllDone, BeforeStimulus, AfterTry, AtAssert, InStimulus, SourceRuns}
use Rattle.qp_check_calls.specs.Decides.{Decides}
use Rattle.qp_check_ends.specs.Underway.{Underway, underway_done}
use Rattle.qp_check_ends.specs.SourceState.{SourceState, Between, Within, source_next, between_stops, source_stops, source_after, stops_after}
use Rattle.qp_check_ends.proofs.RecordLemmas.{none-first, decides, decides-same}
use Rattle.qp_check_ends.proofs.CallLemmas.{CallLaws}
use Rattle.qp_check_ends.proofs.UnderwayLemmas.{UnderwayFits, IsUnderway, done-end}
use Rattle.qp_check_ends.proofs.EndsLemmas.{EndsOf, ends_flag, ends-end}
use Rattle.qp_check_ends.proofs.SourceLemmas.{RunsWithin, EndsWithin, RunsOn, RunsOf, IsSound, source-whole, source-sound, source-opens}

-- both of two
decides-both : (a b : Bool) (P Q : Type 0) → Decides a P → Decides b Q → Decides (a && b) (P × Q)
unfolding Decides
decides-both true true P Q p q = (p, q)
decides-both true false P Q p q = λ h. q h.1
decides-both false b P Q p q = λ h. p h.0

-- no stimulus is left, or some
none-runs : (sys : System) (kernel k : ℕ) (stop : SourceEnd) → Decides (between_stops [] stop) (SourceRuns sys kernel k [] stop [])
unfolding SourceRuns
none-runs sys kernel k AllDone = decides true _ (λ e. (refl, refl)) (λ e. absurd (cc))
none-runs sys kernel k BeforeStimulus = decides false _ (λ e. absurd (cc)) (λ e h. let other : BeforeStimulus ≡ AllDone = h.1 in cc)
none-runs sys kernel k AfterTry = decides false _ (λ e. absurd (cc)) (λ e h. let other : AfterTry ≡ AllDone = h.1 in cc)
none-runs sys kernel k AtAssert = decides false _ (λ e. absurd (cc)) (λ e h. let other : AtAssert ≡ AllDone = h.1 in cc)
none-runs sys kernel k InStimulus = decides false _ (λ e. absurd (cc)) (λ e h. let other : InStimulus ≡ AllDone = h.1 in cc)

some-before : (sys : System) (kernel k : ℕ) (s : Stim) (left : List Stim) (stop : SourceEnd) → SourceRuns sys kernel k (s ∷ left) stop [] → stop ≡ BeforeStimulus
unfolding SourceRuns
some-before sys kernel k s left stop (inl h) = h.1
some-before sys kernel k s left stop (inr (inl h)) = absurd (none-first _ _ (sym h.2))
some-before sys kernel k s left stop (inr (inr h)) = absurd (none-first _ _ (sym h.3))

some-runs : (sys : System) (kernel k : ℕ) (s : Stim) (left : List Stim) (stop : SourceEnd) → Decides (between_stops (s ∷ left) stop) (SourceRuns sys kernel k (s ∷ left) stop [])
unfolding SourceRuns
some-runs sys kernel k s left BeforeStimulus = decides true _ (λ e. inl (refl, refl)) (λ e. absurd (cc))
some-runs sys kernel k s left AllDone = decides false _ (λ e. absurd (cc)) (λ e h. let other = some-before sys kernel k s left AllDone h in cc)
some-runs sys kernel k s left AfterTry = decides false _ (λ e. absurd (cc)) (λ e h. let other = some-before sys kernel k s left AfterTry h in cc)
some-runs sys kernel k s left AtAssert = decides false _ (λ e. absurd (cc)) (λ e h. let other = some-before sys kernel k s left AtAssert h in cc)
some-runs sys kernel k s left InStimulus = decides false _ (λ e. absurd (cc)) (λ e h. let other = some-before sys kernel k s left InStimulus h in cc)

between-end : (sys : System) (kernel k : ℕ) (left : List Stim) (stop : SourceEnd) → Decides (between_stops left stop) (SourceRuns sys kernel k left stop [])
between-end sys kernel k [] stop = none-runs sys kernel k stop
between-end sys kernel k (s ∷ left) stop = some-runs sys kernel k s left stop

-- a source ends between stimuli in two ways
runs-where : (sys : System) (kernel k : ℕ) (left : List Stim) (stop : SourceEnd) → SourceRuns sys kernel k left stop [] → (stop ≡ AllDone) ⊎ (stop ≡ BeforeStimulus)
unfolding SourceRuns
runs-where sys kernel k [] stop h = inl h.1
runs-where sys kernel k (s ∷ left) stop h = inr (some-before sys kernel k s left stop h)

module _ (laws : CallLaws) (sys : System) (kernel : ℕ) where
  -- none of the records of a stimulus, and none behind it
  none-on : (u : Underway) (k : ℕ) (left : List Stim) (stop : SourceEnd) (one rest : List Told) → [] ≡ one ++ rest → UnderwayFits sys kernel u false one
      → SourceRuns sys kernel k left stop rest → UnderwayFits sys kernel u false [] × SourceRuns sys kernel k left stop []
  none-on u k left stop [] rest e fits runs = (fits, subst (SourceRuns sys kernel k left stop) (sym e) runs)
  none-on u k left stop (t ∷ one) rest e fits runs = absurd (cc)

  -- it ends within the stimulus
  within-stop : (u : Underway) (k : ℕ) (left : List Stim) (stop : SourceEnd) → (stop ≢ AllDone) → (stop ≢ BeforeStimulus) → IsUnderway sys u
      → Decides (ends_flag kernel u stop) (RunsWithin sys kernel u k left stop [])
  within-stop u k left stop some other is =
      decides-same (ends_flag kernel u stop) (EndsOf sys kernel u stop []) _ (λ h. EndsWithin h) back (ends-end laws sys kernel u stop is)
    where
      none : (stop ≡ AllDone) ⊎ (stop ≡ BeforeStimulus) → ⊥
      none (inl e) = some e
      none (inr e) = other e

      back : RunsWithin sys kernel u k left stop [] → EndsOf sys kernel u stop []
      back (EndsWithin h) = h
      back (RunsOn one rest e fits runs) = absurd (none (runs-where sys kernel k left stop (none-on u k left stop one rest e fits runs).1))

  -- it ends behind the stimulus
  behind-stop : (u : Underway) (k : ℕ) (left : List Stim) (stop : SourceEnd) → (EndsOf sys kernel u stop [] → ⊥)
      → Decides (underway_done u && between_stops left stop) (RunsWithin sys kernel u k left stop [])
  behind-stop u k left stop never =
      decides-same (underway_done u && between_stops left stop) (UnderwayFits sys kernel u false [] × SourceRuns sys kernel k left stop []) _
      (λ h. RunsOn [] [] refl h.0 h.1) back
      (decides-both (underway_done u) (between_stops left stop) _ _ (done-end laws sys kernel u) (between-end sys kernel k left stop))
    where
      back : RunsWithin sys kernel u k left stop [] → UnderwayFits sys kernel u false [] × SourceRuns sys kernel k left stop []
      back (EndsWithin h) = absurd (never h)
      back (RunsOn one rest e fits runs) = none-on u k left stop one rest e fits runs

  within-end : (u : Underway) (k : ℕ) (left : List Stim) (stop : SourceEnd) → IsUnderway sys u
      → Decides (source_stops kernel (Within u k left) stop) (RunsWithin sys kernel u k left stop [])
  unfolding EndsOf
  within-end u k left AfterTry is = within-stop u k left AfterTry (λ e. cc) (λ e. cc) is
  within-end u k left AtAssert is = within-stop u k left AtAssert (λ e. cc) (λ e. cc) is
  within-end u k left InStimulus is = within-stop u k left InStimulus (λ e. cc) (λ e. cc) is
  within-end u k left AllDone is = behind-stop u k left AllDone (λ h. h)
  within-end u k left BeforeStimulus is = behind-stop u k left BeforeStimulus (λ h. h)

  source-end : (rest : SourceState) (stop : SourceEnd) → IsSound sys rest → Decides (source_stops kernel rest stop) (RunsOf sys kernel rest stop [])
  unfolding RunsOf IsSound
  source-end (Between k left) stop is = between-end sys kernel k left stop
  source-end (Within u k left) stop is = within-end u k left stop is

  none-after : (g : List Told) → source_after sys kernel None g ≡ None
  unfolding source_after
  none-after [] = refl
  none-after (t ∷ g) = refl

  -- a reader that reads all records says where they may end
  pub after-stops : (g : List Told) (rest : SourceState) (stop : SourceEnd) → IsSound sys rest
      → Decides (stops_after kernel (source_after sys kernel (Some rest) g) stop) (RunsOf sys kernel rest stop g)
  unfolding source_after
  after-stops [] rest stop is = source-end rest stop is
  after-stops (t ∷ g) rest stop is = by (source_next sys kernel rest t) refl (λ next sound. after-stops g next stop sound)
    where
      by : (r : Option SourceState) → source_next sys kernel rest t ≡ r
          → ((next : SourceState) → IsSound sys next → Decides (stops_after kernel (source_after sys kernel (Some next) g) stop) (RunsOf sys kernel next stop g))
          → Decides (stops_after kernel (source_after sys kernel r g) stop) (RunsOf sys kernel rest stop (t ∷ g))
      by None e behind =
          rw none-after (decides false _ (λ e. absurd (cc)) (λ f h. let some = source-whole laws sys kernel rest stop t g h in let is_some = some.1 in cc))
      by (Some next) e behind =
          decides-same _ (RunsOf sys kernel next stop g) _ (source-sound laws sys kernel rest stop t g next e) back (behind next (source-opens laws sys kernel rest t next e))
        where
          back : RunsOf sys kernel rest stop (t ∷ g) → RunsOf sys kernel next stop g
          back h =
              let some = source-whole laws sys kernel rest stop t g h in
              let same : some.0 ≡ next = cc in
              subst (λ n. RunsOf sys kernel n stop g) same some.2

  pub lane-stops : (k : ℕ) (ss : List Stim) (stop : SourceEnd) (g : List Told)
      → Decides (stops_after kernel (source_after sys kernel (Some (Between k ss)) g) stop) (SourceRuns sys kernel k ss stop g)
  unfolding RunsOf IsSound
  lane-stops k ss stop g = after-stops g (Between k ss) stop tt
