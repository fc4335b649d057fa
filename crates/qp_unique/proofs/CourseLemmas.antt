-- By what the words hold, an object's course goes on by one piece alone.
use Rattle.std.proofs.Common.{◌≡◌, ℕ, ◌+◌, max, true, List, [], ◌∷◌, Some, None, refl, sym, ◌∙◌, subst, ap, arith}
use Rattle.std.proofs.lemmas.Bool.Decides.{nat_tests}
use Rattle.std.specs.declared.option.Option.{Option}
use Rattle.std.specs.Option.{option_map}
use Rattle.qp_model.specs.declared.systems.System.{System}
use Rattle.qp_model.specs.declared.bodies.Entry.{Entry}
use Rattle.qp_model.specs.declared.bodies.Body.TheVariants as item
use Rattle.qp_model.specs.Line.{is_front}
use Rattle.qp_model.specs.Told.{Told, Event, OfEvent, Former, plain, raised, told_took, dropped}
use Rattle.qp_model.specs.Knowing.{event_known}
use Rattle.qp_model.specs.Pieces.{Tell, Point}
use Rattle.qp_model.specs.Acts.{Actor}
use Rattle.qp_model.proofs.RecordLemmas.{same_entry-is}
use Rattle.qp_check_calls.specs.CallStateNext.{call_state_next, stage_next}
use Rattle.qp_check_course.specs.Note.{body_of_note, entry_and_event_taken, dropped_by, raised_from}
use Rattle.qp_check_course.specs.Goes.{moment_of}
use Rattle.qp_check_course.specs.Machine.{State, Between, Telling, Raising, AtPoint, InCall, AtPost, Releasing, Returning, Asserted, state_next, tell_next, point_next}
use Rattle.qp_check_course.proofs.NoteLemmas.{tells-is, raised-is, taken-is, dropped-is, back-is}
use Rattle.qp_unique.specs.Held.{WordsHeld, IsCounted, MayComeNext, comes_next, known_then}
use Rattle.qp_unique.specs.NextInCourse.{took_told, piece_told, PieceComes}
use Rattle.qp_unique.specs.Laws.{CourseGoesOnAlone}
use Rattle.qp_unique.proofs.CallLemmas.{call_goes_on_alone, dropped-alone, returned-alone}
use Rattle.qp_model.proofs.KernelLaneLemmas.{granted}
use Rattle.qp_model.proofs.ListLemmas.{mapped}

module _ (sys : System) (h : WordsHeld) (a : Actor) (counted : IsCounted h) where
  -- the front entry is taken
  took-alone : (f l m : ℕ) (e : Entry) (ev : Event) → MayComeNext sys h a.o (told_took f l m e ev) → took_told h (h.lines a.o) (h.lines a.o).entries ≡ Some (told_took f l m e ev)
  unfolding comes_next known_then
  took-alone f l m e ev comes =
      let test : comes_next sys h a.o (item.Took f l m e) ≡ true = comes.may in
      let e1 : f ≡ (h.lines a.o).f = grind (arith, nat_tests) in
      let e2 : l ≡ (h.lines a.o).l = grind (arith, nat_tests) in
      let e3 : m ≡ (h.lines a.o).m + 1 = grind (arith, nat_tests) in
      let front : is_front e (h.lines a.o).entries ≡ true = grind (arith, nat_tests) in
      let event : h.events e ≡ Some ev = event-is (h.events e) comes.known in
      by (h.lines a.o).entries front e1 e2 e3 event
    where
      event-is : (x : Option Event) → OfEvent ev ≡ event_known x → x ≡ Some ev
      event-is None is = absurd (cc)
      event-is (Some w) is = cc

      by : (xs : List Entry) → is_front e xs ≡ true → f ≡ (h.lines a.o).f → l ≡ (h.lines a.o).l → m ≡ (h.lines a.o).m + 1 → h.events e ≡ Some ev
          → took_told h (h.lines a.o) xs ≡ Some (told_took f l m e ev)
      by [] front e1 e2 e3 event = absurd (cc)
      by (x ∷ others) front e1 e2 e3 event = let e4 : x ≡ e = same_entry-is x e front in rw (e4, event, sym e1, sym e2, sym e3) refl

  tell-alone : (s later : State) (t : Told) → MayComeNext sys h a.o t → tell_next sys a s t ≡ Some later → piece_told sys h a s ≡ Some (Tell t)
  unfolding tell_next piece_told call_state_next known_then
  tell-alone (Between c) later t comes is =
      let x = mapped _ (entry_and_event_taken t.body t.known) later is in
      let at = taken-is x.0.0 x.0.1 t.body t.known x.1 in
      let whole : t ≡ told_took at.0 at.1 at.2 x.0.0 x.0.1 = at.3 in
      let same = took-alone at.0 at.1 at.2 x.0.0 x.0.1 (subst (MayComeNext sys h a.o) whole comes) in
      ap (option_map Tell) same ∙ ap (λ y. Some (Tell y)) (sym whole)
  tell-alone (Telling way n ends ts leaf c) later t comes is =
      let at = tells-is n t.body t.known (granted _ _ _ is).0 in
      let whole : t ≡ plain (body_of_note n) = at in
      ap (λ y. Some (Tell y)) (sym whole)
  tell-alone (Raising way ceiling ts leaf c) later t comes is =
      let x = mapped _ (raised_from ceiling t.body t.known) later is in
      let whole : t ≡ raised (max x.0 ceiling) x.0 = raised-is ceiling x.0 t.body t.known x.1 in
      let moved : MayComeNext sys h a.o (raised (max x.0 ceiling) x.0) = subst (MayComeNext sys h a.o) whole comes in
      let same : x.0 ≡ h.ceiling = former-is x.0 moved.known in
      ap (λ y. Some (Tell y)) (sym (whole ∙ ap (λ n. raised (max n ceiling) n) same))
    where
      former-is : (n : ℕ) → Former n ≡ Former h.ceiling → n ≡ h.ceiling
      former-is n e = cc
  tell-alone (InCall way inner rest ts leaf c) later t comes is =
      let x = mapped _ (call_state_next sys a.o (moment_of way).entry rest t) later is in
      let y = mapped _ (stage_next sys a.o (moment_of way).entry rest.kept rest.stage t.body t.known) x.0 x.1 in
      ap (option_map Tell) (call_goes_on_alone sys h a.o (moment_of way).entry rest.kept rest.stage y.0 t counted comes y.1)
  tell-alone (Releasing e c) later t comes is =
      let x = mapped _ (dropped_by e t.body t.known) later is in
      let whole : t ≡ dropped e.pool e.block x.0.0 e.name x.0.1 = dropped-is e x.0 t.body t.known x.1 in
      let same = dropped-alone sys h a.o e x.0.0 x.0.1 (subst (MayComeNext sys h a.o) whole comes) in
      ap (λ y. Some (Tell y)) (same ∙ sym whole)
  tell-alone (Returning p b d c) later t comes is =
      let x = back-is p b d t.body t.known (granted _ _ _ is).0 in
      let whole : t ≡ plain (item.Back p x.0 b (d + 1)) = x.1 in
      let same = returned-alone sys h a.o p b d x.0 (subst (MayComeNext sys h a.o) whole comes) in
      ap (λ y. Some (Tell y)) (same ∙ sym whole)
  tell-alone Asserted later t comes is = absurd (cc)
  tell-alone _ later t comes is = absurd (cc)

  point-alone : (s later : State) → point_next a s ≡ Some later → piece_told sys h a s ≡ Some Point
  unfolding point_next piece_told
  point-alone (AtPoint ev e ts leaf c) later is = refl
  point-alone (AtPost way rest ts leaf c) later is = refl
  point-alone s later is = absurd (cc)

pub course_goes_on_alone : CourseGoesOnAlone
unfolding state_next PieceComes
course_goes_on_alone sys h a s later (Tell t) counted comes is = tell-alone sys h a counted s later t comes is
course_goes_on_alone sys h a s later Point counted comes is = point-alone sys h a counted s later is
