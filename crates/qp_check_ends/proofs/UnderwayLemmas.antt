-- What is left of a stimulus, and the records that it reads.
use Rattle.std.proofs.Common.{◌≡◌, ◌≢◌, ℕ, Bool, true, false, cond, List, [], ◌∷◌, Some, None, refl, sym, ap, subst}
use Rattle.std.specs.Prelude.{⊤}
use Rattle.std.specs.Option.{option_map}
use Rattle.qp_model.specs.declared.stimulus.Stim.{Stim}
use Rattle.qp_model.specs.declared.stimulus.Stim.TheVariants as stim
use Rattle.qp_model.specs.declared.systems.System.{System}
use Rattle.qp_model.specs.Told.{Told}
use Rattle.qp_model.specs.Calls as call
use Rattle.qp_model.specs.Calls.{Call}
use Rattle.qp_model.specs.Sources.{CallFits, StimFits}
use Rattle.qp_check_calls.specs.Decides.{Decides}
use Rattle.qp_check_calls.specs.CallStateNext.{call_state_begin, call_state_next}
use Rattle.qp_check_calls.specs.Reads.{IsOpen, call_able}
use Rattle.qp_check_ends.specs.TickState.{Reaching, dues, tick_next}
use Rattle.qp_check_ends.specs.SettleState.{Before, settle_next, settle_done, settle_open}
use Rattle.qp_check_ends.specs.Underway.{Underway, Calling, Ticking, Settling, call_begin, underway_begin, underway_next, underway_done, underway_asserted, underway_tried, underway_open}
use Rattle.qp_check_ends.proofs.RecordLemmas.{mapped, decides, decides-same}
use Rattle.qp_check_ends.proofs.SettleLemmas.{SettleFits, settle-whole, settle-sound}
use Rattle.qp_check_ends.proofs.SettleEndLemmas.{settle-end, settle-open, TriedFits, tried-whole, tried-sound, tried-end}
use Rattle.qp_check_ends.proofs.TickLemmas.{TickFits, tick-whole, tick-sound, ticks-due, due-back}
use Rattle.qp_check_ends.proofs.TickEndLemmas.{tick-end, tick-asserted, tick-open}
use Rattle.qp_check_ends.proofs.CallLemmas.{CallLaws, CallLeft, is_sent, call-whole, call-sound, left-whole, left-sound, left-done, left-asserted, left-open}

-- the records of what is left of a stimulus, which end in an assertion or don't
unfoldable pub UnderwayFits : System → ℕ → Underway → Bool → List Told → Type 0
UnderwayFits sys kernel (Calling rest) asserted g = CallLeft sys rest asserted g
UnderwayFits sys kernel (Ticking rest) asserted g = TickFits sys rest asserted g
UnderwayFits sys kernel (Settling rest) asserted g = SettleFits sys kernel rest g × (asserted ≡ false)

unfoldable pub TriedOn : System → ℕ → Underway → List Told → Type 0
TriedOn sys kernel (Settling rest) g = TriedFits sys kernel rest g
TriedOn sys kernel u g = ⊥

-- what is left of a call may be read on
unfoldable pub IsUnderway : System → Underway → Type 0
IsUnderway sys (Calling rest) = IsOpen sys None rest
IsUnderway sys (Ticking rest) = ⊤
IsUnderway sys (Settling rest) = ⊤

-- what is left begins as the records of its stimulus
module _ (laws : CallLaws) (sys : System) (kernel : ℕ) where
  -- a stimulus begins
  abbrev pub Begun : Stim → Bool → List Told → Type 0
  Begun s asserted g = (u : Underway) × (underway_begin sys s ≡ Some u) × UnderwayFits sys kernel u asserted g

  call-begun : (x : Call) (asserted : Bool) (g : List Told) → is_sent x ≡ true → CallFits sys x asserted g
      → (u : Underway) × (call_begin sys x ≡ Some u) × UnderwayFits sys kernel u asserted g
  unfolding call_begin UnderwayFits
  call-begun x asserted g sent h =
      let some = call-whole laws sys x asserted g sent h in
      let able : call_able sys None x ≡ true = some.0 in
      (Calling (call_state_begin 0 [] x), rw able refl, some.1)

  call-back : (x : Call) (u : Underway) → call_begin sys x ≡ Some u → (call_able sys None x ≡ true) × (u ≡ Calling (call_state_begin 0 [] x))
  unfolding call_begin
  call-back x u h = by (call_able sys None x) refl h
    where
      by : (able : Bool) → call_able sys None x ≡ able → cond able (Some (Calling (call_state_begin 0 [] x))) None ≡ Some u
          → (call_able sys None x ≡ true) × (u ≡ Calling (call_state_begin 0 [] x))
      by true is k = (is, cc)
      by false is k = absurd (cc)

  pub begin-whole : (s : Stim) (asserted : Bool) (g : List Told) → StimFits sys kernel s asserted g → Begun s asserted g
  unfolding StimFits underway_begin UnderwayFits TickFits SettleFits
  begin-whole (stim.Post to ev margin reserve) asserted g h = call-begun (call.Post to ev.sig ev.pars.items margin reserve) asserted g refl h
  begin-whole (stim.Publish ev reserve) asserted g h = call-begun (call.Publish ev.sig ev.pars.items reserve) asserted g refl h
  begin-whole (stim.Tick rate) asserted g h = (Ticking (Reaching (dues rate 1 sys.timers)), refl, ticks-due sys rate 1 sys.timers asserted g h)
  begin-whole stim.Settle asserted g h = (Settling (Before false), refl, h)

  call-is : (x : Call) (u : Underway) (asserted : Bool) (g : List Told) → call_begin sys x ≡ Some u → UnderwayFits sys kernel u asserted g → CallFits sys x asserted g
  unfolding UnderwayFits
  call-is x u asserted g e h =
      call-sound laws sys x asserted g (subst (λ u. UnderwayFits sys kernel u asserted g) (call-back x u e).1 h)

  begin-is : (u own : Underway) (asserted : Bool) (g : List Told) → Some own ≡ Some u → UnderwayFits sys kernel u asserted g → UnderwayFits sys kernel own asserted g
  begin-is u own asserted g e h = let same : u ≡ own = cc in subst (λ u. UnderwayFits sys kernel u asserted g) same h

  pub begin-sound : (s : Stim) (u : Underway) (asserted : Bool) (g : List Told) → underway_begin sys s ≡ Some u → UnderwayFits sys kernel u asserted g → StimFits sys kernel s asserted g
  unfolding StimFits underway_begin UnderwayFits TickFits SettleFits
  begin-sound (stim.Post to ev margin reserve) u asserted g e h = call-is (call.Post to ev.sig ev.pars.items margin reserve) u asserted g e h
  begin-sound (stim.Publish ev reserve) u asserted g e h = call-is (call.Publish ev.sig ev.pars.items reserve) u asserted g e h
  begin-sound (stim.Tick rate) u asserted g e h =
      due-back sys rate 1 sys.timers asserted g (begin-is u (Ticking (Reaching (dues rate 1 sys.timers))) asserted g e h)
  begin-sound stim.Settle u asserted g e h = begin-is u (Settling (Before false)) asserted g e h

  call-opens : (x : Call) (u : Underway) → call_begin sys x ≡ Some u → IsUnderway sys u
  unfolding IsUnderway
  call-opens x u e = let back = call-back x u e in subst (IsUnderway sys) (sym back.1) (laws.open_begin sys None 0 [] x back.0)

  pub begin-opens : (s : Stim) (u : Underway) → underway_begin sys s ≡ Some u → IsUnderway sys u
  unfolding IsUnderway underway_begin
  begin-opens (stim.Post to ev margin reserve) u e = call-opens (call.Post to ev.sig ev.pars.items margin reserve) u e
  begin-opens (stim.Publish ev reserve) u e = call-opens (call.Publish ev.sig ev.pars.items reserve) u e
  begin-opens (stim.Tick rate) u e = let same : u ≡ Ticking (Reaching (dues rate 1 sys.timers)) = cc in subst (IsUnderway sys) (sym same) tt
  begin-opens stim.Settle u e = let same : u ≡ Settling (Before false) = cc in subst (IsUnderway sys) (sym same) tt

  -- it reads one record
  pub next-whole : (u : Underway) (asserted : Bool) (t : Told) (g : List Told) → UnderwayFits sys kernel u asserted (t ∷ g)
      → (next : Underway) × (underway_next sys kernel u t ≡ Some next) × UnderwayFits sys kernel next asserted g
  unfolding UnderwayFits underway_next
  next-whole (Calling rest) asserted t g h =
      let some = left-whole laws sys rest asserted t g h in (Calling some.0, ap (option_map Calling) some.1, some.2)
  next-whole (Ticking rest) asserted t g h =
      let some = tick-whole sys rest asserted t g h in (Ticking some.0, ap (option_map Ticking) some.1, some.2)
  next-whole (Settling rest) asserted t g h =
      let some = settle-whole sys kernel rest t g h.0 in (Settling some.0, ap (option_map Settling) some.1, (some.2, h.1))

  pub next-sound : (u next : Underway) (asserted : Bool) (t : Told) (g : List Told) → underway_next sys kernel u t ≡ Some next
      → UnderwayFits sys kernel next asserted g → UnderwayFits sys kernel u asserted (t ∷ g)
  unfolding UnderwayFits underway_next
  next-sound (Calling rest) next asserted t g e h =
      let some = mapped Calling (call_state_next sys 0 None rest t) next e in
      left-sound laws sys rest some.0 asserted t g some.1 (subst (λ u. UnderwayFits sys kernel u asserted g) some.2 h)
  next-sound (Ticking rest) next asserted t g e h =
      let some = mapped Ticking (tick_next sys rest t) next e in
      tick-sound sys rest asserted t g some.0 some.1 (subst (λ u. UnderwayFits sys kernel u asserted g) some.2 h)
  next-sound (Settling rest) next asserted t g e h =
      let some = mapped Settling (settle_next sys kernel rest t) next e in
      let fits = subst (λ u. UnderwayFits sys kernel u asserted g) some.2 h in
      (settle-sound sys kernel rest t g some.0 some.1 fits.0, fits.1)

  pub next-opens : (u next : Underway) (t : Told) → underway_next sys kernel u t ≡ Some next → IsUnderway sys next
  unfolding IsUnderway underway_next
  next-opens (Calling rest) next t e =
      let some = mapped Calling (call_state_next sys 0 None rest t) next e in
      subst (IsUnderway sys) (sym some.2) (laws.open_next sys 0 None rest some.0 t some.1)
  next-opens (Ticking rest) next t e = let some = mapped Ticking (tick_next sys rest t) next e in subst (IsUnderway sys) (sym some.2) tt
  next-opens (Settling rest) next t e = let some = mapped Settling (settle_next sys kernel rest t) next e in subst (IsUnderway sys) (sym some.2) tt

  -- how it may end
  pub done-end : (u : Underway) → Decides (underway_done u) (UnderwayFits sys kernel u false [])
  unfolding UnderwayFits
  done-end (Calling rest) = left-done laws sys rest
  done-end (Ticking rest) = tick-end sys rest
  done-end (Settling rest) = decides-same (settle_done rest) (SettleFits sys kernel rest []) _ (λ h. (h, refl)) (λ h. h.0) (settle-end sys kernel rest)

  pub asserted-end : (u : Underway) → Decides (underway_asserted u) (UnderwayFits sys kernel u true [])
  unfolding UnderwayFits
  asserted-end (Calling rest) = left-asserted laws sys rest
  asserted-end (Ticking rest) = tick-asserted sys rest
  asserted-end (Settling rest) = decides false _ (λ e. absurd (cc)) (λ e h. let other : true ≡ false = h.1 in cc)

  pub open-end : (u : Underway) → IsUnderway sys u
      → Decides (underway_open u) ((back : List Told) × (back ≢ []) × (asserted : Bool) × UnderwayFits sys kernel u asserted back)
  unfolding UnderwayFits IsUnderway
  open-end (Calling rest) is = left-open laws sys rest is
  open-end (Ticking rest) is = tick-open sys rest
  open-end (Settling rest) is =
      decides-same (settle_open rest) _ _ (λ h. (h.0, h.1, false, (h.2, refl))) (λ h. (h.0, h.1, h.3.0)) (settle-open sys kernel rest)

  -- tries of a `settle`, the last of which has ended
  pub tried-on : (u : Underway) → Decides (underway_tried kernel u) (TriedOn sys kernel u [])
  unfolding TriedOn
  tried-on (Calling rest) = decides false ⊥ (λ e. absurd (cc)) (λ e h. h)
  tried-on (Ticking rest) = decides false ⊥ (λ e. absurd (cc)) (λ e h. h)
  tried-on (Settling rest) = tried-end sys kernel rest

  pub tried-on-whole : (u : Underway) (t : Told) (g : List Told) → TriedOn sys kernel u (t ∷ g)
      → (next : Underway) × (underway_next sys kernel u t ≡ Some next) × TriedOn sys kernel next g
  unfolding TriedOn underway_next
  tried-on-whole (Calling rest) t g h = absurd h
  tried-on-whole (Ticking rest) t g h = absurd h
  tried-on-whole (Settling rest) t g h = let some = tried-whole sys kernel rest t g h in (Settling some.0, ap (option_map Settling) some.1, some.2)

  pub tried-on-sound : (u next : Underway) (t : Told) (g : List Told) → underway_next sys kernel u t ≡ Some next → TriedOn sys kernel next g → TriedOn sys kernel u (t ∷ g)
  unfolding TriedOn underway_next
  tried-on-sound (Calling rest) next t g e h = let some = mapped Calling (call_state_next sys 0 None rest t) next e in subst (λ u. TriedOn sys kernel u g) some.2 h
  tried-on-sound (Ticking rest) next t g e h = let some = mapped Ticking (tick_next sys rest t) next e in subst (λ u. TriedOn sys kernel u g) some.2 h
  tried-on-sound (Settling rest) next t g e h =
      let some = mapped Settling (settle_next sys kernel rest t) next e in
      tried-sound sys kernel rest t g some.0 some.1 (subst (λ u. TriedOn sys kernel u g) some.2 h)
