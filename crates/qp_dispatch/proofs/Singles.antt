-- Calls of one record.
use Rattle.std.proofs.Common.{◌≡◌, ℕ, zero, suc, ◌-◌, ◌<◌, nat_lt, Bool, true, false, ◌&&◌, [], ◌∷◌, refl, sym, ◌∙◌, subst, arith, None}
use Rattle.std.proofs.lemmas.Bool.{and_parts, ltb-true}
use Rattle.qp_model.specs.declared.record.Rec.{Rec}
use Rattle.qp_model.specs.declared.bodies.Body.TheVariants.{BadTicks, Arm, Armed, Rearm, Disarm, Idle, Sub, Unsub}
use Rattle.qp_model.specs.Record.{item_of}
use Rattle.qp_model.specs.Told.{plain, same_in}
use Rattle.qp_model.specs.Calls as call
use Rattle.qp_model.specs.Calls.{Granted, Refused, AtTimer, AtTicks}
use Rattle.qp_model.specs.Parts.{timer_number}
use Rattle.qp_model.specs.Shapes.{Fits, Subscribes, Unsubscribes, Arms, Rearms, Disarms, ticks_fit}
use Rattle.qp_calls.specs.declared.did.Did.TheVariants as did
use Rattle.qp_calls.specs.declared.answers.Arm.TheVariants as armed
use Rattle.qp_calls.specs.Tokens.{hands_after, hands_by}
use Rattle.qp_calls.specs.LaneView.{LaneView, AddsTold, GrowsOf, Roomier, ceiling_in}
use Rattle.qp_calls.specs.Notes.{MayNote, spare_after, told_note, note_told}
use Rattle.qp_calls.specs.Clauses as clause
use Rattle.qp_calls.specs.Groups.{CallAnswers}
use Rattle.qp_calls.proofs.Answering.{answers-room}
use Rattle.qp_model.proofs.RecordLemmas.{body-is, of-is}

-- assertion 4 may be noted
pub may-refuse : (me t ticks interval : ℕ) (r : Rec) (v : LaneView) → item_of r ≡ record { of = me; body = BadTicks t ticks interval } → ticks_fit ticks interval ≡ false → 0 < v.spare → MayNote r v
unfolding MayNote
may-refuse me t ticks interval r v is bad some = rw (body-is me (BadTicks t ticks interval) r is) (bad, some)

pub refused : (me t ticks interval : ℕ) (r : Rec) (v w : LaneView) → item_of r ≡ record { of = me; body = BadTicks t ticks interval } → v.by ≡ me → 0 < v.spare
    → GrowsOf r.of (told_note r v) v w → w.spare ≡ spare_after r v.spare → AddsTold (plain (BadTicks t ticks interval) ∷ []) v w
unfolding told_note spare_after
refused me t ticks interval r v w is by some grown spare =
    let body = body-is me (BadTicks t ticks interval) r is in
    let mine : r.of ≡ v.by = of-is me (BadTicks t ticks interval) r is ∙ sym by in
    let less : w.spare ≡ v.spare - 1 = spare ∙ rw body refl in
    record {
      grows = subst (λ x. GrowsOf x (plain (BadTicks t ticks interval) ∷ []) v w) mine (subst (λ x. GrowsOf r.of (note_told (ceiling_in 0 v.told) x ∷ []) v w) body grown);
      spare = omega (arith, less, some);
    }

-- a timer takes these values
pub record TicksFit (ticks interval : ℕ) : Type 0 where
  pub some : 0 < ticks
  pub ticks_few : ticks < 65536
  pub interval_few : interval < 65536

pub fit-parts : (ticks interval : ℕ) → ticks_fit ticks interval ≡ true → TicksFit ticks interval
unfolding ticks_fit
fit-parts ticks interval h =
    let last = and_parts (nat_lt 0 ticks && nat_lt ticks 65536) (nat_lt interval 65536) h in
    let first = and_parts (nat_lt 0 ticks) (nat_lt ticks 65536) last.0 in
    record { some = ltb-true 0 ticks first.0; ticks_few = ltb-true ticks 65536 first.1; interval_few = ltb-true interval 65536 last.1 }

-- Subscriptions.

pub sub-granted : (sig : ℕ) (b : Bool) (a r w : LaneView) → b ≡ true → Roomier a r → clause.Subscribing sig r w b → CallAnswers a.sys a.by None (call.Subscribe sig) (did.Value 1) a w
unfolding Fits Subscribes hands_after hands_by
sub-granted sig b a r w is room h =
    let k : clause.Subscribing sig r w true = subst (λ x. clause.Subscribing sig r w x) is h in
    answers-room None (call.Subscribe sig) (did.Value 1) a r w room
    (record { answer = Granted; g = plain (Sub sig k.0) ∷ []; said = refl; grows = k.1.grows; fits = (k.0, refl); hands = λ y. k.1.grows.hands })

pub sub-same : (sig : ℕ) (b : Bool) (a r w : LaneView) → b ≡ false → Roomier a r → clause.Subscribing sig r w b → CallAnswers a.sys a.by None (call.Subscribe sig) (did.Value 0) a w
unfolding Fits Subscribes hands_after hands_by
sub-same sig b a r w is room h =
    let k : clause.Subscribing sig r w false = subst (λ x. clause.Subscribing sig r w x) is h in
    answers-room None (call.Subscribe sig) (did.Value 0) a r w room
    (record { answer = Refused; g = same_in sig k.0 true ∷ []; said = refl; grows = k.1.grows; fits = (k.0, refl); hands = λ y. k.1.grows.hands })

pub unsub-granted : (sig : ℕ) (b : Bool) (a r w : LaneView) → b ≡ true → Roomier a r → clause.Unsubscribing sig r w b → CallAnswers a.sys a.by None (call.Unsubscribe sig) (did.Value 1) a w
unfolding Fits Unsubscribes hands_after hands_by
unsub-granted sig b a r w is room h =
    let k : clause.Unsubscribing sig r w true = subst (λ x. clause.Unsubscribing sig r w x) is h in
    answers-room None (call.Unsubscribe sig) (did.Value 1) a r w room
    (record { answer = Granted; g = plain (Unsub sig k.0) ∷ []; said = refl; grows = k.1.grows; fits = (k.0, refl); hands = λ y. k.1.grows.hands })

pub unsub-same : (sig : ℕ) (b : Bool) (a r w : LaneView) → b ≡ false → Roomier a r → clause.Unsubscribing sig r w b → CallAnswers a.sys a.by None (call.Unsubscribe sig) (did.Value 0) a w
unfolding Fits Unsubscribes hands_after hands_by
unsub-same sig b a r w is room h =
    let k : clause.Unsubscribing sig r w false = subst (λ x. clause.Unsubscribing sig r w x) is h in
    answers-room None (call.Unsubscribe sig) (did.Value 0) a r w room
    (record { answer = Refused; g = same_in sig k.0 false ∷ []; said = refl; grows = k.1.grows; fits = (k.0, refl); hands = λ y. k.1.grows.hands })

-- Time events. The lane knows the timer by its number in the system.

module _ (t place : ℕ) (a r w : LaneView) (number : t ≡ timer_number a.sys.timers a.by place) (room : Roomier a r) where
  here : t ≡ timer_number r.sys.timers r.by place
  here = rw room.same number

  pub arm-refused : (ticks interval : ℕ) → ticks_fit ticks interval ≡ false → AddsTold (plain (BadTicks t ticks interval) ∷ []) r w
      → CallAnswers a.sys a.by None (call.Arm place ticks interval) (did.Assert 4) a w
  unfolding Fits Arms
  arm-refused ticks interval bad h =
      answers-room None (call.Arm place ticks interval) (did.Assert 4) a r w room
      (record {
        answer = AtTicks;
        g = plain (BadTicks t ticks interval) ∷ [];
        said = refl;
        grows = h.grows;
        fits = rw (bad, sym here) (refl, refl);
        hands = λ y. absurd (cc);
      })

  pub arm-done : (ticks interval : ℕ) → ticks_fit ticks interval ≡ true → clause.CallArms t ticks interval r w armed.Done → CallAnswers a.sys a.by None (call.Arm place ticks interval) (did.Value 1) a w
  unfolding Fits Arms hands_after hands_by
  arm-done ticks interval good h =
      answers-room None (call.Arm place ticks interval) (did.Value 1) a r w room
      (record {
        answer = Granted;
        g = plain (Arm t h.0 ticks interval) ∷ [];
        said = refl;
        grows = h.1.grows;
        fits = rw (good, sym here) ((h.0, refl), refl);
        hands = λ y. h.1.grows.hands;
      })

  pub arm-armed : (ticks interval n c : ℕ) → ticks_fit ticks interval ≡ true → clause.CallArms t ticks interval r w (armed.Armed n c)
      → CallAnswers a.sys a.by None (call.Arm place ticks interval) (did.Assert 3) a w
  unfolding Fits Arms
  arm-armed ticks interval n c good h =
      answers-room None (call.Arm place ticks interval) (did.Assert 3) a r w room
      (record {
        answer = AtTimer;
        g = plain (Armed t n c) ∷ [];
        said = refl;
        grows = h.0.grows;
        fits = rw (good, sym here) ((n, c, refl), refl);
        hands = λ y. absurd (cc);
      })

  pub rearm-refused : (ticks : ℕ) → ticks_fit ticks 0 ≡ false → AddsTold (plain (BadTicks t ticks 0) ∷ []) r w → CallAnswers a.sys a.by None (call.Rearm place ticks) (did.Assert 4) a w
  unfolding Fits Rearms
  rearm-refused ticks bad h =
      answers-room None (call.Rearm place ticks) (did.Assert 4) a r w room
      (record {
        answer = AtTicks;
        g = plain (BadTicks t ticks 0) ∷ [];
        said = refl;
        grows = h.grows;
        fits = rw (bad, sym here) (refl, refl);
        hands = λ y. absurd (cc);
      })

  pub rearm-none : (ticks former : ℕ) → ticks_fit ticks 0 ≡ true → former ≡ 0 → clause.CallRearms t ticks r w former → CallAnswers a.sys a.by None (call.Rearm place ticks) (did.Value 0) a w
  unfolding Fits Rearms hands_after hands_by
  rearm-none ticks former good none h =
      let k : clause.CallRearms t ticks r w 0 = subst (λ x. clause.CallRearms t ticks r w x) none h in
      answers-room None (call.Rearm place ticks) (did.Value 0) a r w room
      (record {
        answer = Refused;
        g = plain (Rearm t k.0 0 ticks) ∷ [];
        said = refl;
        grows = k.1.grows;
        fits = rw (good, sym here) ((k.0, refl), refl);
        hands = λ y. k.1.grows.hands;
      })

  pub rearm-some : (ticks former : ℕ) → ticks_fit ticks 0 ≡ true → (former ≡ 0 → ⊥) → clause.CallRearms t ticks r w former → CallAnswers a.sys a.by None (call.Rearm place ticks) (did.Value 1) a w
  unfolding Fits Rearms hands_after hands_by
  rearm-some ticks zero good some h = absurd (some refl)
  rearm-some ticks (suc former) good some h =
      answers-room None (call.Rearm place ticks) (did.Value 1) a r w room
      (record {
        answer = Granted;
        g = plain (Rearm t h.0 (suc former) ticks) ∷ [];
        said = refl;
        grows = h.1.grows;
        fits = rw (good, sym here) ((h.0, former, refl), refl);
        hands = λ y. h.1.grows.hands;
      })

  pub disarm-none : (former : ℕ) → former ≡ 0 → clause.CallDisarms t r w former → CallAnswers a.sys a.by None (call.Disarm place) (did.Value 0) a w
  unfolding Fits Disarms hands_after hands_by
  disarm-none former none h =
      let k : clause.CallDisarms t r w 0 = subst (λ x. clause.CallDisarms t r w x) none h in
      answers-room None (call.Disarm place) (did.Value 0) a r w room
      (record {
        answer = Refused;
        g = plain (Idle t k.0) ∷ [];
        said = refl;
        grows = k.1.grows;
        fits = rw (sym here) (k.0, refl);
        hands = λ y. k.1.grows.hands;
      })

  pub disarm-some : (former : ℕ) → (former ≡ 0 → ⊥) → clause.CallDisarms t r w former → CallAnswers a.sys a.by None (call.Disarm place) (did.Value 1) a w
  unfolding Fits Disarms hands_after hands_by
  disarm-some zero some h = absurd (some refl)
  disarm-some (suc former) some h =
      answers-room None (call.Disarm place) (did.Value 1) a r w room
      (record {
        answer = Granted;
        g = plain (Disarm t h.0 (suc former)) ∷ [];
        said = refl;
        grows = h.1.grows;
        fits = rw (sym here) (h.0, suc former, refl);
        hands = λ y. h.1.grows.hands;
      })

-- the timer's number by the object for which the lane works
pub number-mine : (t me place : ℕ) (v : LaneView) → v.by ≡ me → t ≡ timer_number v.sys.timers me place → t ≡ timer_number v.sys.timers v.by place
number-mine t me place v by is = rw by is

pub by-roomier : (me : ℕ) (a r : LaneView) → Roomier a r → a.by ≡ me → me ≡ r.by
by-roomier me a r room by = rw room.same (sym by)
