-- The machine of a source, as the definition of its next record sees it.
use Rattle.std.proofs.Common.{◌≡◌, ◌∙◌, ℕ, ◌+◌, ◌<◌, ◌≤◌, Bool, true, false, cond, List, [], ◌∷◌, length, drop, get_or, Some, None, refl, sym, ap, subst}
use Rattle.std.specs.Option.{option_map}
use Rattle.std.specs.declared.option.Option.{Option}
use Rattle.std.proofs.lemmas.List.{drop_more, drop_all}
use Rattle.qp_model.specs.declared.stimulus.Stim.{Stim}
use Rattle.qp_model.specs.declared.systems.System.{System}
use Rattle.qp_model.specs.declared.bodies.Body.{Body}
use Rattle.qp_model.specs.declared.bodies.Body.TheVariants as body
use Rattle.qp_model.specs.Told.{Told, Known, Nothing, plain}
use Rattle.qp_model.specs.Sources.{SourceEnd, AllDone, BeforeStimulus, AfterTry, AtAssert, InStimulus, SourceRuns}
use Rattle.qp_check_calls.specs.Decides.{Decides}
use Rattle.qp_check_ends.specs.Underway.{Underway, underway_next, underway_done}
use Rattle.qp_check_ends.specs.SourceState.{SourceState, Between, Within, stim_next, stim_told, stimulus_goes_on, is_ready, within_next, source_next, source_after, stops_after}
use Rattle.qp_check_ends.specs.AsSource.{as_underway, source_rest, stops_at}
use Rattle.qp_check_ends.specs.declared.underway.Underway as declared_underway
use Rattle.qp_check_ends.specs.declared.stops.Stops.{Stops}
use Rattle.qp_model.proofs.RecordLemmas.{told-is}
use Rattle.qp_check_ends.proofs.StimLemmas.{underway-stim}
use Rattle.qp_check_ends.proofs.LawLemmas.{call-laws}
use Rattle.qp_check_ends.proofs.StopLemmas.{lane-stops}

-- a `stim`, and another record
abbrev place_in : Option (ℕ × ℕ) → ℕ
place_in None = 0
place_in (Some p) = p.0

abbrev look_in : Option (ℕ × ℕ) → ℕ
look_in None = 0
look_in (Some p) = p.1

stim-is : (t : Told) (i look : ℕ) → Some (i, look) ≡ stim_told t.body t.known → t ≡ plain (body.Stim i look)
stim-is t i look h = by t.body t.known refl refl h
  where
    by : (b : Body) (known : Known) → t.body ≡ b → t.known ≡ known → Some (i, look) ≡ stim_told b known → t ≡ plain (body.Stim i look)
    by (body.Stim j k) Nothing is_body is_known e =
        let place : i ≡ j = ap place_in e in
        let number : look ≡ k = ap look_in e in
        let whole : t ≡ plain (body.Stim j k) = told-is t _ _ is_body is_known in
        cc
    by b known is_body is_known e = absurd (cc)

other-next : (sys : System) (kernel k : ℕ) (left : List Stim) (b : Body) (known : Known) → None ≡ stim_told b known → stim_next sys kernel k left b known ≡ None
unfolding stim_next
other-next sys kernel k [] b known h = refl
other-next sys kernel k (s ∷ left) (body.Stim i look) Nothing h = absurd (cc)
other-next sys kernel k (s ∷ left) b known h = refl

module _ (sys : System) (kernel : ℕ) (under : Option declared_underway.Underway) (k : ℕ) (left : List Stim) (t : Told) where
  stim-goes : (i look : ℕ) (u : Underway) → t ≡ plain (body.Stim i look)
      → source_next sys kernel (Within u k left) t ≡ cond (underway_done u) (stim_next sys kernel k left (body.Stim i look) Nothing) None
  unfolding source_next stimulus_goes_on
  stim-goes i look u is =
      ap (λ (t : Told). stimulus_goes_on sys kernel u k left t (underway_next sys kernel u t)) is
      ∙ ap (stimulus_goes_on sys kernel u k left (plain (body.Stim i look))) (underway-stim sys i look kernel u)

  between-goes : (i look : ℕ) → t ≡ plain (body.Stim i look) → source_next sys kernel (Between k left) t ≡ stim_next sys kernel k left (body.Stim i look) Nothing
  unfolding source_next
  between-goes i look is = ap (λ (t : Told). stim_next sys kernel k left t.body t.known) is

  -- the next stimulus begins
  pub reads-begin : (i look : ℕ) → Some (i, look) ≡ stim_told t.body t.known → is_ready (source_rest sys under k left) ≡ true
      → source_next sys kernel (source_rest sys under k left) t ≡ stim_next sys kernel k left (body.Stim i look) Nothing
  reads-begin i look h ready = by under ready
    where
      is : t ≡ plain (body.Stim i look)
      is = stim-is t i look h

      between : source_next sys kernel (Between k left) t ≡ stim_next sys kernel k left (body.Stim i look) Nothing
      between = between-goes i look is

      by : (under : Option declared_underway.Underway) → is_ready (source_rest sys under k left) ≡ true
          → source_next sys kernel (source_rest sys under k left) t ≡ stim_next sys kernel k left (body.Stim i look) Nothing
      by None ready = between
      by (Some u) ready = stim-goes i look (as_underway sys u) is ∙ ap (λ b. cond b (stim_next sys kernel k left (body.Stim i look) Nothing) None) ready

  pub reads-unready : (i look : ℕ) → Some (i, look) ≡ stim_told t.body t.known → is_ready (source_rest sys under k left) ≡ false → None ≡ source_next sys kernel (source_rest sys under k left) t
  reads-unready i look h busy = by under busy
    where
      by : (under : Option declared_underway.Underway) → is_ready (source_rest sys under k left) ≡ false → None ≡ source_next sys kernel (source_rest sys under k left) t
      by None busy = absurd (cc)
      by (Some u) busy =
          sym (stim-goes i look (as_underway sys u) (stim-is t i look h) ∙ ap (λ b. cond b (stim_next sys kernel k left (body.Stim i look) Nothing) None) busy)

  -- the stimulus under way goes on
  pub reads-on : None ≡ stim_told t.body t.known → source_next sys kernel (source_rest sys under k left) t ≡ within_next sys kernel (source_rest sys under k left) t
  unfolding source_next within_next stimulus_goes_on
  reads-on h = by under
    where
      none : stim_next sys kernel k left t.body t.known ≡ None
      none = other-next sys kernel k left t.body t.known h

      done : (b : Bool) → cond b (stim_next sys kernel k left t.body t.known) None ≡ None
      done true = none
      done false = refl

      go : (u : Underway) (o : Option Underway) → stimulus_goes_on sys kernel u k left t o ≡ option_map (λ next. Within next k left) o
      go u None = done (underway_done u)
      go u (Some next) = refl

      by : (under : Option declared_underway.Underway) → source_next sys kernel (source_rest sys under k left) t ≡ within_next sys kernel (source_rest sys under k left) t
      by None = none
      by (Some u) = go (as_underway sys u) (underway_next sys kernel (as_underway sys u) t)

-- the records from a place on
module _ (sys : System) (kernel : ℕ) (told : List Told) (i : ℕ) where
  pub after-more : (t : Told) → i < length told → t ≡ get_or told i t → (rest : SourceState)
      → source_after sys kernel (Some rest) (drop i told) ≡ source_after sys kernel (source_next sys kernel rest t) (drop (i + 1) told)
  unfolding source_after
  after-more t inside is rest =
      ap (source_after sys kernel (Some rest)) (drop_more told i t inside ∙ ap (λ x. x ∷ drop (i + 1) told) (sym is))

  pub after-end : length told ≤ i → (rest : SourceState) → source_after sys kernel (Some rest) (drop i told) ≡ Some rest
  unfolding source_after
  after-end past rest = ap (source_after sys kernel (Some rest)) (drop_all i told past)

pub after-none : (sys : System) (kernel : ℕ) (g : List Told) → source_after sys kernel None g ≡ None
unfolding source_after
after-none sys kernel [] = refl
after-none sys kernel (t ∷ g) = refl

-- a source's records end where its machine says
pub stops-decide : (sys : System) (kernel : ℕ) (ss : List Stim) (told : List Told) (stops : Stops) (rest : Option SourceState)
    → rest ≡ source_after sys kernel (Some (Between 1 ss)) told → (stop : SourceEnd) → stops_at stops stop ≡ stops_after kernel rest stop
    → Decides (stops_at stops stop) (SourceRuns sys kernel 1 ss stop told)
stops-decide sys kernel ss told stops rest is stop flag =
    subst (λ b. Decides b (SourceRuns sys kernel 1 ss stop told)) (sym (flag ∙ ap (λ r. stops_after kernel r stop) is)) (lane-stops call-laws sys kernel 1 ss stop told)

pub none-flag : (stop : SourceEnd)
    → stops_at (record { all_done = false; before_stimulus = false; after_try = false; at_assert = false; in_stimulus = false }) stop ≡ false
none-flag AllDone = refl
none-flag BeforeStimulus = refl
none-flag AfterTry = refl
none-flag AtAssert = refl
none-flag InStimulus = refl
