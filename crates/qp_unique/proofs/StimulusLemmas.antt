-- By what the words hold, a stimulus goes on by one record alone.
use Rattle.std.proofs.Common.{◌≡◌, ℕ, ◌+◌, ◌-◌, ◌==◌, nat_lt, Bool, true, false, ◌&&◌, List, [], ◌∷◌, cond, Some, None, refl, sym, subst, ap, arith}
use Rattle.std.proofs.lemmas.Bool.Decides.{nat_tests}
use Rattle.qp_model.specs.declared.systems.System.{System}
use Rattle.qp_model.specs.declared.bodies.Body.{Body}
use Rattle.qp_model.specs.declared.bodies.Body.TheVariants as body
use Rattle.qp_model.specs.Record.{entry}
use Rattle.qp_model.specs.Line.{same_entry}
use Rattle.qp_model.specs.Told.{Told, Known, Nothing, plain}
use Rattle.qp_model.specs.Sites.{ring_of}
use Rattle.qp_model.specs.Sources.{priorities}
use Rattle.qp_model.specs.Parts.{room_before}
use Rattle.qp_model.proofs.RecordLemmas.{same_entry-is}
use Rattle.qp_check_calls.specs.CallStateNext.{call_state_next, stage_next}
use Rattle.qp_check_ends.specs.TickState.{Due, TickState, Reaching, Fired, Vain, ring_had_room, tick_next, reach_next, fired_next}
use Rattle.qp_check_ends.specs.SettleState.{SettleState, Before, Seeing, settle_next, before_next, settle_seen_next, behind_seen}
use Rattle.qp_check_ends.specs.Underway.{Underway, Calling, Ticking, Settling, underway_next}
use Rattle.qp_unique.specs.Held.{WordsHeld, IsCounted, MayComeNext, comes_next}
use Rattle.qp_unique.specs.NextInCall.{post_told}
use Rattle.qp_unique.specs.NextInSource.{reach_told, tick_told, seen_of_held, settle_told, underway_told}
use Rattle.qp_unique.specs.Laws.{StimulusGoesOnAlone}
use Rattle.qp_unique.proofs.CallLemmas.{call_goes_on_alone, post-granted, post-asserted}
use Rattle.qp_model.proofs.KernelLaneLemmas.{granted}
use Rattle.qp_model.proofs.ListLemmas.{mapped}

abbrev tells : Body → Known → Told
tells b k = record { body = b; known = k }

module _ (sys : System) (h : WordsHeld) where
  reach-alone : (x : Due) (left : List Due) (b : Body) (k : Known) (later : TickState) → reach_next x left b k ≡ Some later → comes_next sys h 0 b ≡ true
      → reach_told (h.clocks x.t) x.t ≡ tells b k
  unfolding comes_next
  reach-alone x left (body.Idle t n) Nothing later is comes =
      let e1 : t ≡ x.t = let test : (t == x.t) ≡ true = (granted _ _ _ is).0 in grind (arith, nat_tests) in
      let off : ((h.clocks t).counter == 0) ≡ true = grind (arith, nat_tests) in
      let e2 : n ≡ (h.clocks t).count = grind (arith, nat_tests) in
      rw (sym e1, off, e2) refl
  reach-alone x left (body.Tick t n counter) Nothing later is comes =
      let e1 : t ≡ x.t = let test : (t == x.t) ≡ true = (granted _ _ _ is).0 in grind (arith, nat_tests) in
      let e2 : n ≡ (h.clocks t).count = grind (arith, nat_tests) in
      let e3 : (h.clocks t).counter ≡ counter + 1 = grind (arith, nat_tests) in
      let some : nat_lt 0 counter ≡ true = grind (arith, nat_tests) in
      let on : ((h.clocks t).counter == 0) ≡ false = grind (arith, nat_tests) in
      let more : ((h.clocks t).counter == 1) ≡ false = grind (arith, nat_tests) in
      let e4 : (h.clocks t).counter - 1 ≡ counter = omega (arith, e3) in
      rw (sym e1, on, more, e2, e4) refl
  reach-alone x left (body.Fire t n reload) Nothing later is comes =
      let e1 : t ≡ x.t = let test : (t == x.t) ≡ true = (granted _ _ _ is).0 in grind (arith, nat_tests) in
      let e2 : n ≡ (h.clocks t).count = grind (arith, nat_tests) in
      let one : ((h.clocks t).counter == 1) ≡ true = grind (arith, nat_tests) in
      let on : ((h.clocks t).counter == 0) ≡ false = grind (arith, nat_tests) in
      let e3 : reload ≡ (h.clocks t).interval = grind (arith, nat_tests) in
      rw (sym e1, on, one, e2, e3) refl
  reach-alone x left b k later is comes = absurd (cc)

  fired-alone : (object sig : ℕ) (left : List Due) (b : Body) (k : Known) (later : TickState) → fired_next (ring_of sys object) object sig left b k ≡ Some later
      → comes_next sys h 0 b ≡ true → post_told (ring_of sys object) (h.lines object) object None (entry 0 sig 0) ≡ tells b k
  unfolding ring_had_room
  fired-alone object sig left (body.Post a f l m e) Nothing later is comes =
      let test : ((a == object) && same_entry e (entry 0 sig 0) && ring_had_room (ring_of sys object) f l m) ≡ true = (granted _ _ _ is).0 in
      let e1 : a ≡ object = grind (arith, nat_tests) in
      let same : same_entry e (entry 0 sig 0) ≡ true = grind (arith, nat_tests) in
      let e2 : e ≡ entry 0 sig 0 = same_entry-is e (entry 0 sig 0) same in
      let free : nat_lt 0 (room_before (ring_of sys object) f l m) ≡ true = grind (arith, nat_tests) in
      let whole = post-granted sys h 0 a f l m e None comes (rw e1 free) in
      subst (λ y. post_told (ring_of sys y) (h.lines y) y None (entry 0 sig 0) ≡ plain (body.Post a f l m e)) e1
      (subst (λ y. post_told (ring_of sys a) (h.lines a) a None y ≡ plain (body.Post a f l m e)) e2 whole)
  fired-alone object sig left (body.NoEntry a f l m) Nothing later is comes =
      let e1 : a ≡ object = let test : (a == object) ≡ true = (granted _ _ _ is).0 in grind (arith, nat_tests) in
      subst (λ y. post_told (ring_of sys y) (h.lines y) y None (entry 0 sig 0) ≡ plain (body.NoEntry a f l m)) e1 (post-asserted sys h 0 a f l m (entry 0 sig 0) comes)
  fired-alone object sig left b k later is comes = absurd (cc)

  tick-alone : (s later : TickState) (b : Body) (k : Known) → tick_next sys s (tells b k) ≡ Some later → comes_next sys h 0 b ≡ true → tick_told sys h s ≡ Some (tells b k)
  unfolding tick_next tick_told
  tick-alone (Reaching []) later b k is comes = absurd (cc)
  tick-alone (Reaching (x ∷ left)) later b k is comes = ap Some (reach-alone x left b k later is comes)
  tick-alone (Fired object sig left) later b k is comes = ap Some (fired-alone object sig left b k later is comes)
  tick-alone Vain later b k is comes = absurd (cc)

  before-alone : (objects : List ℕ) (b : Body) (k : Known) (later : SettleState) → before_next objects b k ≡ Some later → plain body.Settle ≡ tells b k
  before-alone objects body.Settle Nothing later is = refl
  before-alone objects b k later is = absurd (cc)

  seen-alone : (kernel p : ℕ) (left : List ℕ) (b : Body) (k : Known) (later : SettleState) → settle_seen_next kernel p left b k ≡ Some later → comes_next sys h 0 b ≡ true
      → seen_of_held h p ≡ tells b k
  unfolding comes_next
  seen-alone kernel p left (body.Seen q f l m) Nothing later is comes = by (q == p) refl is
    where
      by : (same : Bool) → (q == p) ≡ same → cond same (behind_seen kernel left (f + l) m) None ≡ Some later → seen_of_held h p ≡ tells (body.Seen q f l m) Nothing
      by true same is =
          let e1 : q ≡ p = grind (arith, nat_tests) in
          let e2 : f ≡ (h.lines q).f = grind (arith, nat_tests) in
          let e3 : l ≡ (h.lines q).l = grind (arith, nat_tests) in
          let e4 : m ≡ (h.lines q).m = grind (arith, nat_tests) in
          rw (sym e1, e2, e3, e4) refl
      by false same is = absurd (cc)
  seen-alone kernel p left b k later is comes = absurd (cc)

  settle-alone : (kernel : ℕ) (s later : SettleState) (b : Body) (k : Known) → settle_next sys kernel s (tells b k) ≡ Some later → comes_next sys h 0 b ≡ true
      → settle_told h s ≡ Some (tells b k)
  unfolding settle_next
  settle-alone kernel (Before tried) later b k is comes = ap Some (before-alone (priorities sys) b k later is)
  settle-alone kernel (Seeing []) later b k is comes = absurd (cc)
  settle-alone kernel (Seeing (p ∷ left)) later b k is comes = ap Some (seen-alone kernel p left b k later is comes)

  underway-alone : (kernel : ℕ) (u later : Underway) (t : Told) → IsCounted h → MayComeNext sys h 0 t → underway_next sys kernel u t ≡ Some later → underway_told sys h u ≡ Some t
  unfolding underway_next underway_told call_state_next
  underway-alone kernel (Calling rest) later t counted comes is =
      let x = mapped _ (call_state_next sys 0 None rest t) later is in
      let y = mapped _ (stage_next sys 0 None rest.kept rest.stage t.body t.known) x.0 x.1 in
      call_goes_on_alone sys h 0 None rest.kept rest.stage y.0 t counted comes y.1
  underway-alone kernel (Ticking rest) later t counted comes is =
      let x = mapped _ (tick_next sys rest t) later is in tick-alone rest x.0 t.body t.known x.1 comes.may
  underway-alone kernel (Settling rest) later t counted comes is =
      let x = mapped _ (settle_next sys kernel rest t) later is in settle-alone kernel rest x.0 t.body t.known x.1 comes.may

pub stimulus_goes_on_alone : StimulusGoesOnAlone
stimulus_goes_on_alone sys h kernel u later t counted comes is = underway-alone sys h kernel u later t counted comes is
