-- What a rest reads, a record at a time, and that an open one reads something.
use Rattle.std.proofs.Common.{◌≡◌, ◌↔◌, ℕ, List, [], ◌∷◌, Some, None, refl, sym, ap, subst, MatchOption}
use Rattle.std.specs.declared.option.Option.{Option}
use Rattle.std.specs.Option.{option_map}
use Rattle.qp_model.specs.declared.systems.System.{System}
use Rattle.qp_model.specs.declared.bodies.Entry.{Entry}
use Rattle.qp_model.specs.Told.{Told}
use Rattle.qp_model.specs.Calls.{Answer}
use Rattle.qp_check_calls.specs.CallState.{CallStage, Whole, CallState}
use Rattle.qp_check_calls.specs.CallStateNext.{stage_next, list_after, call_state_next}
use Rattle.qp_check_calls.specs.Reads.{IsRestOfCall}
use Rattle.qp_check_calls.specs.CallStateLaws.{ReadsNext, ReadsEnd, ReadsWhole}

pub reads-end : ReadsEnd
unfolding IsRestOfCall
reads-end sys o now rest answer kept = (λ h. h, λ h. h)

pub reads-next : ReadsNext
unfolding IsRestOfCall
reads-next sys o now rest answer kept t g = (out (call_state_next sys o now rest t) refl, λ h. into (call_state_next sys o now rest t) h.0 h.1 h.2)
  where
    out : (r : Option CallState) → call_state_next sys o now rest t ≡ r → MatchOption r ⊥ (λ next. IsRestOfCall sys o now next answer kept g)
        → (next : CallState) × (call_state_next sys o now rest t ≡ Some next) × IsRestOfCall sys o now next answer kept g
    out None is h = absurd h
    out (Some next) is h = (next, is, h)

    into : (r : Option CallState) (next : CallState) → r ≡ Some next → IsRestOfCall sys o now next answer kept g → MatchOption r ⊥ (λ next. IsRestOfCall sys o now next answer kept g)
    into None next is h = absurd (cc)
    into (Some other) next is h = let same : next ≡ other = cc in subst (λ x. IsRestOfCall sys o now x answer kept g) same h

-- what is read at a stage, with the deferred list before it
abbrev pub At : System → ℕ → Option Entry → List Entry → CallStage → Answer → List Entry → List Told → Type 0
At sys o now kept s a k g = IsRestOfCall sys o now (record { stage = s; kept = kept }) a k g

module _ (sys : System) (o : ℕ) (now : Option Entry) where
  pub at-step : (kept : List Entry) (s next : CallStage) (a : Answer) (k : List Entry) (t : Told) (g : List Told)
      → stage_next sys o now kept s t.body t.known ≡ Some next → At sys o now (list_after kept t.body) next a k g → At sys o now kept s a k (t ∷ g)
  unfolding call_state_next
  at-step kept s next a k t g is h =
      (reads-next sys o now (record { stage = s; kept = kept }) a k t g).1 (record { stage = next; kept = list_after kept t.body }, rw is refl, h)

  pub at-stepped : (kept : List Entry) (s : CallStage) (a : Answer) (k : List Entry) (t : Told) (g : List Told) → At sys o now kept s a k (t ∷ g)
      → (next : CallStage) × (stage_next sys o now kept s t.body t.known ≡ Some next) × At sys o now (list_after kept t.body) next a k g
  unfolding call_state_next
  at-stepped kept s a k t g h =
      let one = (reads-next sys o now (record { stage = s; kept = kept }) a k t g).0 h in by (stage_next sys o now kept s t.body t.known) refl one.0 one.1 one.2
    where
      by : (r : Option CallStage) → stage_next sys o now kept s t.body t.known ≡ r → (next : CallState)
          → option_map (λ s. record { stage = s; kept = list_after kept t.body }) r ≡ Some next → IsRestOfCall sys o now next a k g
          → (next : CallStage) × (stage_next sys o now kept s t.body t.known ≡ Some next) × At sys o now (list_after kept t.body) next a k g
      by None is next e h = absurd (cc)
      by (Some s) is next e h =
          let same : next ≡ record { stage = s; kept = list_after kept t.body } = cc in (s, is, subst (λ x. IsRestOfCall sys o now x a k g) same h)

  pub at-end : (kept : List Entry) (a : Answer) → At sys o now kept (Whole a) a kept []
  unfolding IsRestOfCall
  at-end kept a = refl

  pub at-ended : (kept : List Entry) (s : CallStage) (a : Answer) (k : List Entry) → At sys o now kept s a k [] → (s ≡ Whole a) × (kept ≡ k)
  unfolding IsRestOfCall
  at-ended kept s a k h = (ap (λ r. r.stage) h, ap (λ r. r.kept) h)

  -- a whole call
  pub at-whole : (kept : List Entry) (b a : Answer) (k : List Entry) (g : List Told) → At sys o now kept (Whole b) a k g
      ↔ ((g ≡ []) × (a ≡ b) × (k ≡ kept))
  unfolding stage_next
  at-whole kept b a k g = (out g, λ h. into h.0 h.1 h.2)
    where
      out : (g : List Told) → At sys o now kept (Whole b) a k g → (g ≡ []) × (a ≡ b) × (k ≡ kept)
      out [] h = let one = at-ended kept (Whole b) a k h in (refl, cc, sym one.1)
      out (t ∷ g) h = let one = at-stepped kept (Whole b) a k t g h in absurd (cc (one.1))

      into : g ≡ [] → a ≡ b → k ≡ kept → At sys o now kept (Whole b) a k g
      into e p q = rw (e, p, q) (at-end kept b)

pub reads-whole : ReadsWhole
reads-whole sys o now own answer had kept g h = (at-whole sys o now had own answer kept g).0 h
