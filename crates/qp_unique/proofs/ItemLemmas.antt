-- Two runs that have come equally far go on by the same record of lane 0.
use Rattle.std.proofs.Common.{◌≡◌, ◌∙◌, ◌⊎◌, ℕ, ◌==◌, Bool, true, false, ◌||◌, List, [], ◌∷◌, ◌++◌, Some, None, refl, sym, ap, subst, arith}
use Rattle.std.proofs.lemmas.Bool.Decides.{nat_tests}
use Rattle.std.specs.declared.option.Option.{Option}
use Rattle.std.specs.Option.{option_and_then, option_map_or, unwrap_or, is_some}
use Rattle.std.specs.List.{list_any, AllByRecursion}
use Rattle.qp_chart.specs.declared.checked.Chart.{Chart}
use Rattle.qp_model.specs.declared.stimulus.Stim.{Stim}
use Rattle.qp_model.specs.declared.systems.System.{System}
use Rattle.qp_model.specs.declared.systems.ObjectDef.{ObjectDef}
use Rattle.qp_model.specs.declared.bodies.Body.{Body}
use Rattle.qp_model.specs.declared.bodies.Body.TheVariants as body
use Rattle.qp_model.specs.Record.{Item}
use Rattle.qp_model.specs.Knowing.{told}
use Rattle.qp_model.specs.Ends.{is_spill, is_turn_mark, spills_in}
use Rattle.qp_model.specs.Sites.{object_at}
use Rattle.qp_model.specs.WordLaw.{is_object}
use Rattle.qp_model.specs.Pieces.{Piece, Tell, ends_at_point}
use Rattle.qp_model.specs.Acts.{Actor}
use Rattle.qp_model.specs.Course.{actor, first_config}
use Rattle.qp_model.specs.KernelLane.{role_of, Setting, Reading, lane_next, lane_on, unread}
use Rattle.qp_model.specs.Points.{pieces_at, pieces_in}
use Rattle.qp_model.specs.OneOrder.{Placed, with_stimuli, parts_of_look, look_of}
use Rattle.qp_model.proofs.KernelRowLemmas.{lane_on-then, pieces_in-then}
use Rattle.qp_check_course.specs.Machine.{State, start_state, state_after, state_next as piece_next, tell_next}
use Rattle.qp_model_order.specs.RunOrder.{placed}
use Rattle.qp_unique.specs.Held.{MayComeNext}
use Rattle.qp_unique.specs.NextInCourse.{piece_told, PieceComes}
use Rattle.qp_unique.proofs.CourseLemmas.{course_goes_on_alone}
use Rattle.qp_unique.proofs.KernelLemmas.{Slot, IsOwned, slot-of}
use Rattle.qp_unique.proofs.StackLemmas.{IsBounded, IsObject, found-in}
use Rattle.qp_unique.proofs.Sides.{Mode, Side, Along, EndsOwn, in_kernel, order_of, held_to, MayEnd}

-- a test that no element passes
pub none-at : {A : Type 0} (p : A → Bool) (xs : List A) (x : A) (ys : List A) → list_any p (xs ++ x ∷ ys) ≡ false → (p x ≡ false) × (list_any p ys ≡ false)
none-at p [] x ys h = by (p x) h
  where
    by : (b : Bool) → (b || list_any p ys) ≡ false → (b ≡ false) × (list_any p ys ≡ false)
    by true h = absurd (cc)
    by false h = (refl, h)
none-at p (z ∷ xs) x ys h = none-at p xs x ys (by (p z) h)
  where
    by : (b : Bool) → (b || list_any p (xs ++ x ∷ ys)) ≡ false → list_any p (xs ++ x ∷ ys) ≡ false
    by true h = absurd (cc)
    by false h = h

-- a course in two parts
pub run-split : (sys : System) (a : Actor) (s end : State) (ps qs : List Piece) → state_after sys a s (ps ++ qs) ≡ Some end
    → (mid : State) × (state_after sys a s ps ≡ Some mid) × (state_after sys a mid qs ≡ Some end)
unfolding state_after
run-split sys a s end [] qs h = (s, refl, h)
run-split sys a s end (p ∷ ps) qs h = by (piece_next sys a s p) h (λ later more. run-split sys a later end ps qs more)
  where
    by : (o : Option State) → option_and_then (λ later. state_after sys a later (ps ++ qs)) o ≡ Some end
        → ((later : State) → state_after sys a later (ps ++ qs) ≡ Some end → (mid : State) × (state_after sys a later ps ≡ Some mid) × (state_after sys a mid qs ≡ Some end))
        → (mid : State) × (option_and_then (λ later. state_after sys a later ps) o ≡ Some mid) × (state_after sys a mid qs ≡ Some end)
    by None h more = absurd (cc)
    by (Some later) h more = more later h

pub run-first : (sys : System) (a : Actor) (s end : State) (p : Piece) (qs : List Piece) → state_after sys a s (p ∷ qs) ≡ Some end → (later : State) × (piece_next sys a s p ≡ Some later)
unfolding state_after
run-first sys a s end p qs h = by (piece_next sys a s p) refl h
  where
    by : (o : Option State) → piece_next sys a s p ≡ o → option_and_then (λ later. state_after sys a later qs) o ≡ Some end → (later : State) × (piece_next sys a s p ≡ Some later)
    by None e h = absurd (cc)
    by (Some later) e h = (later, e)

module _ (sys : System) (charts : (p : ℕ) (d : ObjectDef) → object_at sys p ≡ Some d → Chart) (stimuli : List (List Stim)) (mode : Mode)
    (bounded : IsBounded sys) (positive : (p : ℕ) → IsObject sys p → p ≡ 0 → ⊥) where
  -- an object with this priority
  pub named : (p : ℕ) → IsObject sys p → (d : ObjectDef) × (object_at sys p ≡ Some d) × (d.priority ≡ p)
  unfolding is_object object_at
  named p h = by (object_at sys p) refl h
    where
      anything : (ds : List ObjectDef) → AllByRecursion (λ (d : ObjectDef). Unit {0}) ds
      anything [] = tt
      anything (d ∷ ds) = (tt, anything ds)

      by : (o : Option ObjectDef) → object_at sys p ≡ o → is_some o ≡ true → (d : ObjectDef) × (object_at sys p ≡ Some d) × (d.priority ≡ p)
      by None e h = absurd (cc)
      by (Some d) e h =
          let passes : (d.priority == p) ≡ true = (found-in (λ x. x.priority == p) sys.objects d e (λ d. Unit {0}) (anything sys.objects)).1 in
          let same : d.priority ≡ p = grind (arith, nat_tests) in
          (d, e, same)

  -- one run, at a record of lane 0
  module _ (a : Side sys charts stimuli mode) (xs : List Placed) (front : List Item) (i : Item) (la : List Item) (k : Reading)
      (h : Along sys charts stimuli mode a xs front (i ∷ la) k) where
    abbrev pub rule : Setting
    rule = in_kernel mode.kernel sys a.has

    after-read : lane_on rule k (i ∷ la) ≡ Some a.last
    after-read = sym (lane_on-then rule (unread sys) k front (i ∷ la) h.read) ∙ ap (lane_on rule (unread sys)) (sym h.lane) ∙ a.read

    pub step : (next : Reading) × (lane_next rule k i ≡ Some next) × (lane_on rule next la ≡ Some a.last)
    unfolding lane_on
    step = by (lane_next rule k i) refl after-read
      where
        by : (r : Option Reading) → lane_next rule k i ≡ r → option_and_then (λ n. lane_on rule n la) r ≡ Some a.last
            → (next : Reading) × (lane_next rule k i ≡ Some next) × (lane_on rule next la ≡ Some a.last)
        by None e h = absurd (cc)
        by (Some next) e h = (next, e, h)

    pub unspilt-here : (is_spill i.body ≡ false) × (spills_in la ≡ false)
    unspilt-here = none-at (λ j. is_spill j.body) front i la (subst (λ l. spills_in l ≡ false) h.lane a.unspilt)

    pub slot : Slot rule k step.0 i
    slot = slot-of rule mode.one k step.0 i unspilt-here.0 step.1

    pub order-here : order_of sys charts stimuli mode a
        ≡ xs ++ placed 0 i ∷ (option_map_or (λ l. parts_of_look 1 l.0 a.cuts a.sources) (look_of i.body) [] ++ with_stimuli a.cuts a.sources la)
    unfolding with_stimuli
    order-here = h.order

    pub comes-here : (c : ℕ) → MayComeNext sys (held_to sys c xs) i.of (told a.w i.of c i.body)
    comes-here c = a.comes xs (placed 0 i) _ c order-here

    pub pieces-here : (p : ℕ) → pieces_in a.w rule p (unread sys) a.lane0
        ≡ pieces_in a.w rule p (unread sys) front ++ (pieces_at a.w p k i ++ pieces_in a.w rule p step.0 la)
    unfolding pieces_in
    pieces-here p =
        ap (pieces_in a.w rule p (unread sys)) h.lane ∙ pieces_in-then a.w rule p (unread sys) k front (i ∷ la) h.read
        ∙ ap (λ r. pieces_in a.w rule p (unread sys) front ++ (pieces_at a.w p k i ++ pieces_in a.w rule p (unwrap_or r k) la)) step.1

    -- an object's course up to this record, and from it on
    pub course-here : (p : ℕ) (d : ObjectDef) (is : object_at sys p ≡ Some d)
        → (mid end : State) × (state_after sys (actor d (charts p d is)) (start_state (actor d (charts p d is)) (first_config d)) (pieces_in a.w rule p (unread sys) front) ≡ Some mid)
        × (state_after sys (actor d (charts p d is)) mid (pieces_at a.w p k i ++ pieces_in a.w rule p step.0 la) ≡ Some end)
        × (MayEnd (ends_at_point (pieces_in a.w rule p (unread sys) front ++ (pieces_at a.w p k i ++ pieces_in a.w rule p step.0 la))) end ⊎ EndsOwn p a.lane0)
    course-here p d is =
        let whole = a.course p d is in
        let moved = subst (λ ps. state_after sys (actor d (charts p d is)) (start_state (actor d (charts p d is)) (first_config d)) ps ≡ Some whole.0) (pieces-here p) whole.1 in
        let split = run-split sys (actor d (charts p d is)) (start_state (actor d (charts p d is)) (first_config d)) whole.0 (pieces_in a.w rule p (unread sys) front) _ moved in
        (split.0, whole.0, split.1, split.2, subst (λ ps. MayEnd (ends_at_point ps) whole.0 ⊎ EndsOwn p a.lane0) (pieces-here p) whole.2)

    -- a record of the object whose start or step is under way is none of a turn without a step
    pub own-unmarked : IsObject sys i.of → IsOwned (role_of i.body) → is_turn_mark i.body ≡ false
    unfolding role_of is_object
    own-unmarked its own = by i.body refl own
      where
        there : object_at sys i.of ≡ None → ⊥
        there none = let no : is_some (object_at sys i.of) ≡ false = rw none refl in let wrong : true ≡ false = sym its ∙ no in cc

        by : (b : Body) → i.body ≡ b → IsOwned (role_of b) → is_turn_mark b ≡ false
        by (body.Nil f l m) e own = absurd (a.unmarked front i la h.lane there f l m e)
        by body.Spent e own = absurd own
        by b e own = refl

    pub tells-at : (p : ℕ) → i.of ≡ p → is_turn_mark i.body ≡ false → pieces_at a.w p k i ≡ Tell (told a.w p k.ceiling i.body) ∷ []
    unfolding pieces_at
    tells-at p of unmarked = let same : (i.of == p) ≡ true = grind (arith, nat_tests) in rw (same, unmarked) refl

    -- it is the piece that comes next in the object's course
    pub told-next : (p : ℕ) (d : ObjectDef) (is : object_at sys p ≡ Some d) → d.priority ≡ p → i.of ≡ p → is_turn_mark i.body ≡ false
        → (mid : State) × (state_after sys (actor d (charts p d is)) (start_state (actor d (charts p d is)) (first_config d)) (pieces_in a.w rule p (unread sys) front) ≡ Some mid)
        × (piece_told sys (held_to sys k.ceiling xs) (actor d (charts p d is)) mid ≡ Some (Tell (told a.w p k.ceiling i.body)))
        × ((later : State) × (tell_next sys (actor d (charts p d is)) mid (told a.w p k.ceiling i.body) ≡ Some later))
    unfolding PieceComes piece_next
    told-next p d is owner of unmarked =
        let at = course-here p d is in
        let first : state_after sys (actor d (charts p d is)) at.0 (Tell (told a.w p k.ceiling i.body) ∷ pieces_in a.w rule p step.0 la) ≡ Some at.1 =
        subst (λ ps. state_after sys (actor d (charts p d is)) at.0 (ps ++ pieces_in a.w rule p step.0 la) ≡ Some at.1) (tells-at p of unmarked) at.3 in
        let later = run-first sys (actor d (charts p d is)) at.0 at.1 (Tell (told a.w p k.ceiling i.body)) _ first in
        let comes : MayComeNext sys (held_to sys k.ceiling xs) d.priority (told a.w p k.ceiling i.body) =
        subst (λ o. MayComeNext sys (held_to sys k.ceiling xs) o (told a.w p k.ceiling i.body)) (sym owner)
        (subst (λ o. MayComeNext sys (held_to sys k.ceiling xs) o (told a.w o k.ceiling i.body)) of (comes-here k.ceiling)) in
        (at.0, at.2, course_goes_on_alone sys (held_to sys k.ceiling xs) (actor d (charts p d is)) at.0 later.0 (Tell (told a.w p k.ceiling i.body)) (a.counted xs _ k.ceiling h.order) comes later.1, (later.0, later.1))
