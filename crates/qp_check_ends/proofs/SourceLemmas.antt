-- What is left of a source reads its records one by one.
use Rattle.std.proofs.Common.{◌≡◌, ℕ, ◌+◌, ◌==◌, Bool, true, false, cond, ◌&&◌, List, [], ◌∷◌, ◌++◌, Some, None, refl, sym, ◌∙◌, ap, subst, inl, inr, arith}
use Rattle.std.specs.Prelude.{⊤}
use Rattle.std.specs.Option.{option_map}
use Rattle.std.proofs.lemmas.Bool.Decides.{nat_tests}
use Rattle.std.specs.declared.option.Option.{Option}
use Rattle.qp_model.specs.declared.stimulus.Stim.{Stim}
use Rattle.qp_model.specs.declared.systems.System.{System}
use Rattle.qp_model.specs.declared.bodies.Body.{Body}
use Rattle.qp_model.specs.declared.bodies.Body.TheVariants as body
use Rattle.qp_model.specs.Told.{Told, Known, Nothing, plain}
use Rattle.qp_model.specs.Sources.{SourceEnd, SourceRuns, look_may}
use Rattle.qp_model.proofs.LineLemmas.{same_number}
use Rattle.qp_check_calls.specs.Decides.{Decides}
use Rattle.qp_check_ends.specs.Underway.{Underway, underway_begin, underway_next, underway_done}
use Rattle.qp_check_ends.specs.SourceState.{SourceState, Between, Within, stim_next, stimulus_goes_on, source_next}
use Rattle.qp_model.proofs.RecordLemmas.{told-is}
use Rattle.qp_check_ends.proofs.RecordLemmas.{mapped, first-is, none-first}
use Rattle.qp_check_ends.proofs.CallLemmas.{CallLaws}
use Rattle.qp_check_ends.proofs.UnderwayLemmas.{UnderwayFits, IsUnderway, begin-whole, begin-sound, begin-opens, next-whole, next-sound, next-opens, done-end}
use Rattle.qp_check_ends.proofs.EndsLemmas.{EndsOf, ends-begin, ends-begun, ends-whole, ends-sound}
use Rattle.qp_check_ends.proofs.StimLemmas.{underway-stim}

-- what is left of a stimulus, and the stimuli behind it
pub data RunsWithin (sys : System) (kernel : ℕ) (u : Underway) (k : ℕ) (left : List Stim) (stop : SourceEnd) (g : List Told) : Type 0 where
  EndsWithin : EndsOf sys kernel u stop g → RunsWithin sys kernel u k left stop g
  RunsOn : (one rest : List Told) → g ≡ one ++ rest → UnderwayFits sys kernel u false one → SourceRuns sys kernel k left stop rest → RunsWithin sys kernel u k left stop g

-- the records of what is left of a source
unfoldable pub RunsOf : System → ℕ → SourceState → SourceEnd → List Told → Type 0
RunsOf sys kernel (Between k left) stop g = SourceRuns sys kernel k left stop g
RunsOf sys kernel (Within u k left) stop g = RunsWithin sys kernel u k left stop g

-- a stimulus under way may be read on
unfoldable pub IsSound : System → SourceState → Type 0
IsSound sys (Between k left) = ⊤
IsSound sys (Within u k left) = IsUnderway sys u

-- the `stim` of the next stimulus
pub data Stimulated (sys : System) (kernel k : ℕ) (left : List Stim) (t : Told) (next : SourceState) : Type 0 where
  Begins : (look : ℕ) (s : Stim) (behind : List Stim) (u : Underway) → left ≡ s ∷ behind → t ≡ plain (body.Stim k look) → look_may kernel look ≡ true
      → underway_begin sys s ≡ Some u → next ≡ Within u (k + 1) behind → Stimulated sys kernel k left t next

stim-is : (sys : System) (kernel k : ℕ) (left : List Stim) (t : Told) (next : SourceState) → stim_next sys kernel k left t.body t.known ≡ Some next
    → Stimulated sys kernel k left t next
unfolding stim_next
stim-is sys kernel k [] t next h = absurd (cc)
stim-is sys kernel k (s ∷ behind) t next h = by t.body t.known refl refl h
  where
    by : (b : Body) (known : Known) → t.body ≡ b → t.known ≡ known → stim_next sys kernel k (s ∷ behind) b known ≡ Some next → Stimulated sys kernel k (s ∷ behind) t next
    by (body.Stim i look) Nothing is_body is_known e = go ((i == k) && look_may kernel look) refl e
      where
        go : (test : Bool) → ((i == k) && look_may kernel look) ≡ test → cond test (option_map (λ u. Within u (k + 1) behind) (underway_begin sys s)) None ≡ Some next
            → Stimulated sys kernel k (s ∷ behind) t next
        go true both e =
            let same : i ≡ k = grind (arith, nat_tests) in
            let may : look_may kernel look ≡ true = grind (arith, nat_tests) in
            let some = mapped (λ u. Within u (k + 1) behind) (underway_begin sys s) next e in
            Begins look s behind some.0 refl (told-is t _ _ is_body is_known ∙ ap (λ i. plain (body.Stim i look)) same) may some.1 some.2
        go false both e = absurd (cc)
    by b known is_body is_known e = absurd (cc)

is-stim : (sys : System) (kernel k : ℕ) (s : Stim) (behind : List Stim) (t : Told) (look : ℕ) (u : Underway) → t ≡ plain (body.Stim k look) → look_may kernel look ≡ true
    → underway_begin sys s ≡ Some u → stim_next sys kernel k (s ∷ behind) t.body t.known ≡ Some (Within u (k + 1) behind)
unfolding stim_next
is-stim sys kernel k s behind t look u is may e =
    ap (λ (t : Told). stim_next sys kernel k (s ∷ behind) t.body t.known) is ∙ rw (same_number k, may, e) refl

module _ (laws : CallLaws) (sys : System) (kernel : ℕ) where
  abbrev pub Reads : SourceState → Told → SourceEnd → List Told → Type 0
  Reads rest t stop g = (next : SourceState) × (source_next sys kernel rest t ≡ Some next) × RunsOf sys kernel next stop g

  -- the next stimulus begins
  pub stim-whole : (k : ℕ) (left : List Stim) (stop : SourceEnd) (t : Told) (g : List Told) → SourceRuns sys kernel k left stop (t ∷ g)
      → (next : SourceState) × (look : ℕ) × (t ≡ plain (body.Stim k look)) × (stim_next sys kernel k left t.body t.known ≡ Some next) × RunsOf sys kernel next stop g
  unfolding SourceRuns RunsOf
  stim-whole k [] stop t g h = absurd (none-first t g h.0)
  stim-whole k (s ∷ left) stop t g (inl h) = absurd (none-first t g h.0)
  stim-whole k (s ∷ left) stop t g (inr (inl h)) =
      let is = first-is _ _ _ _ h.2 in
      let some = ends-begin laws sys kernel s stop h.1 h.4 in
      (Within some.0 (k + 1) left, h.0, is.0, is-stim sys kernel k s left t h.0 some.0 is.0 h.3 some.1, EndsWithin (subst (EndsOf sys kernel some.0 stop) (sym is.1) some.2))
  stim-whole k (s ∷ left) stop t g (inr (inr h)) =
      let is = first-is _ _ _ _ h.3 in
      let some = begin-whole laws sys kernel s false h.1 h.5 in
      (Within some.0 (k + 1) left, h.0, is.0, is-stim sys kernel k s left t h.0 some.0 is.0 h.4 some.1, RunsOn h.1 h.2 is.1 some.2 h.6)

  stim-back : (k : ℕ) (left : List Stim) (stop : SourceEnd) (t : Told) (g : List Told) (next : SourceState) → Stimulated sys kernel k left t next → RunsOf sys kernel next stop g
      → SourceRuns sys kernel k left stop (t ∷ g)
  unfolding SourceRuns RunsOf
  stim-back k left stop t g next (Begins look s behind u is first may e next_is) h =
      subst (λ ss. SourceRuns sys kernel k ss stop (t ∷ g)) (sym is) (by (subst (λ n. RunsOf sys kernel n stop g) next_is h))
    where
      by : RunsWithin sys kernel u (k + 1) behind stop g → SourceRuns sys kernel k (s ∷ behind) stop (t ∷ g)
      by (EndsWithin ends) = inr (inl (look, g, ap (λ t. t ∷ g) first, may, ends-begun laws sys kernel s u stop g e ends))
      by (RunsOn one rest split fits runs) =
          let whole : t ∷ g ≡ plain (body.Stim k look) ∷ (one ++ rest) = cc in
          inr (inr (look, one, rest, whole, may, begin-sound laws sys kernel s u false one e fits, runs))

  pub stim-sound : (k : ℕ) (left : List Stim) (stop : SourceEnd) (t : Told) (g : List Told) (next : SourceState) → stim_next sys kernel k left t.body t.known ≡ Some next
      → RunsOf sys kernel next stop g → SourceRuns sys kernel k left stop (t ∷ g)
  stim-sound k left stop t g next e h = stim-back k left stop t g next (stim-is sys kernel k left t next e) h

  -- a stimulus that is done, and the next one
  within-done : (u : Underway) (k : ℕ) (left : List Stim) (stop : SourceEnd) (t : Told) (g : List Told) → UnderwayFits sys kernel u false []
      → SourceRuns sys kernel k left stop (t ∷ g) → Reads (Within u k left) t stop g
  unfolding source_next stimulus_goes_on Decides
  within-done u k left stop t g fits runs =
      let some = stim-whole k left stop t g runs in
      let shut : underway_next sys kernel u t ≡ None = ap (underway_next sys kernel u) some.2 ∙ underway-stim sys k some.1 kernel u in
      let done : underway_done u ≡ true = by (underway_done u) (done-end laws sys kernel u) in
      (some.0, ap (stimulus_goes_on sys kernel u k left t) shut ∙ rw done some.3, some.4)
    where
      by : (b : Bool) → Decides b (UnderwayFits sys kernel u false []) → b ≡ true
      by true d = refl
      by false d = absurd (d fits)

  within-on : (u next : Underway) (k : ℕ) (left : List Stim) (stop : SourceEnd) (t : Told) (g : List Told) → underway_next sys kernel u t ≡ Some next
      → RunsWithin sys kernel next k left stop g → Reads (Within u k left) t stop g
  unfolding source_next stimulus_goes_on RunsOf
  within-on u next k left stop t g e h = (Within next k left, ap (stimulus_goes_on sys kernel u k left t) e, h)

  within-whole : (u : Underway) (k : ℕ) (left : List Stim) (stop : SourceEnd) (t : Told) (g : List Told) → RunsWithin sys kernel u k left stop (t ∷ g)
      → Reads (Within u k left) t stop g
  within-whole u k left stop t g (EndsWithin ends) =
      let some = ends-whole laws sys kernel u stop t g ends in within-on u some.0 k left stop t g some.1 (EndsWithin some.2)
  within-whole u k left stop t g (RunsOn [] rest split fits runs) = within-done u k left stop t g fits (subst (SourceRuns sys kernel k left stop) (sym split) runs)
  within-whole u k left stop t g (RunsOn (o ∷ os) rest split fits runs) =
      let is = first-is t o g (os ++ rest) split in
      let some = next-whole laws sys kernel u false t os (subst (λ o. UnderwayFits sys kernel u false (o ∷ os)) (sym is.0) fits) in
      within-on u some.0 k left stop t g some.1 (RunsOn os rest is.1 some.2 runs)

  pub source-whole : (rest : SourceState) (stop : SourceEnd) (t : Told) (g : List Told) → RunsOf sys kernel rest stop (t ∷ g) → Reads rest t stop g
  unfolding RunsOf source_next
  source-whole (Between k left) stop t g h = let some = stim-whole k left stop t g h in (some.0, some.3, some.4)
  source-whole (Within u k left) stop t g h = within-whole u k left stop t g h

  -- and only such
  within-sound : (u : Underway) (k : ℕ) (left : List Stim) (stop : SourceEnd) (t : Told) (g : List Told) (next : SourceState)
      → stimulus_goes_on sys kernel u k left t (underway_next sys kernel u t) ≡ Some next → RunsOf sys kernel next stop g → RunsWithin sys kernel u k left stop (t ∷ g)
  unfolding stimulus_goes_on RunsOf Decides
  within-sound u k left stop t g next e h = by (underway_next sys kernel u t) refl e
    where
      on : (v : Underway) → underway_next sys kernel u t ≡ Some v → RunsWithin sys kernel v k left stop g → RunsWithin sys kernel u k left stop (t ∷ g)
      on v is (EndsWithin ends) = EndsWithin (ends-sound laws sys kernel u v stop t g is ends)
      on v is (RunsOn one rest split fits runs) = RunsOn (t ∷ one) rest (ap (λ us. t ∷ us) split) (next-sound laws sys kernel u v false t one is fits) runs

      done : (b : Bool) → Decides b (UnderwayFits sys kernel u false []) → cond b (stim_next sys kernel k left t.body t.known) None ≡ Some next
          → RunsWithin sys kernel u k left stop (t ∷ g)
      done true d e = RunsOn [] (t ∷ g) refl d (stim-sound k left stop t g next e h)
      done false d e = absurd (cc)

      by : (v : Option Underway) → underway_next sys kernel u t ≡ v → stimulus_goes_on sys kernel u k left t v ≡ Some next → RunsWithin sys kernel u k left stop (t ∷ g)
      by (Some v) is e = let same : next ≡ Within v k left = cc in on v is (subst (λ n. RunsOf sys kernel n stop g) same h)
      by None is e = done (underway_done u) (done-end laws sys kernel u) e

  pub source-sound : (rest : SourceState) (stop : SourceEnd) (t : Told) (g : List Told) (next : SourceState) → source_next sys kernel rest t ≡ Some next
      → RunsOf sys kernel next stop g → RunsOf sys kernel rest stop (t ∷ g)
  unfolding RunsOf source_next
  source-sound (Between k left) stop t g next e h = stim-sound k left stop t g next e h
  source-sound (Within u k left) stop t g next e h = within-sound u k left stop t g next e h

  -- each record leaves it so
  stim-opens : (k : ℕ) (left : List Stim) (t : Told) (next : SourceState) → Stimulated sys kernel k left t next → IsSound sys next
  unfolding IsSound
  stim-opens k left t next (Begins look s behind u is first may e next_is) = subst (IsSound sys) (sym next_is) (begin-opens laws sys kernel s u e)

  pub source-opens : (rest : SourceState) (t : Told) (next : SourceState) → source_next sys kernel rest t ≡ Some next → IsSound sys next
  unfolding source_next stimulus_goes_on IsSound
  source-opens (Between k left) t next e = stim-opens k left t next (stim-is sys kernel k left t next e)
  source-opens (Within u k left) t next e = by (underway_next sys kernel u t) refl e
    where
      done : (b : Bool) → cond b (stim_next sys kernel k left t.body t.known) None ≡ Some next → IsSound sys next
      done true e = stim-opens k left t next (stim-is sys kernel k left t next e)
      done false e = absurd (cc)

      by : (v : Option Underway) → underway_next sys kernel u t ≡ v → stimulus_goes_on sys kernel u k left t v ≡ Some next → IsSound sys next
      by (Some v) is e = let same : next ≡ Within v k left = cc in subst (IsSound sys) (sym same) (next-opens laws sys kernel u v t is)
      by None is e = done (underway_done u) e
