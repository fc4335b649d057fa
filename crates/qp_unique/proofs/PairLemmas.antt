-- Two runs that have come equally far go on by the same record of lane 0.
use Rattle.std.proofs.Common.{◌≡◌, ◌∙◌, ℕ, ◌+◌, ◌<◌, ◌==◌, true, false, not, List, [], ◌∷◌, ◌++◌, Some, None, refl, sym, ap, subst, inl, inr, ◌⊎◌, arith, append-nil}
use Rattle.std.proofs.lemmas.Bool.{ne_eqb}
use Rattle.std.proofs.lemmas.Bool.Decides.{nat_tests}
use Rattle.std.specs.declared.option.Option.{Option}
use Rattle.std.specs.Option.{unwrap_or}
use Rattle.std.specs.List.{count_by, AllByRecursion}
use Rattle.qp_chart.specs.declared.checked.Chart.{Chart}
use Rattle.qp_model.specs.declared.stimulus.Stim.{Stim}
use Rattle.qp_model.specs.declared.systems.System.{System}
use Rattle.qp_model.specs.declared.systems.ObjectDef.{ObjectDef}
use Rattle.qp_model.specs.declared.bodies.Entry.{Entry}
use Rattle.qp_model.specs.declared.bodies.Body.{Body}
use Rattle.qp_model.specs.declared.bodies.Body.TheVariants as body
use Rattle.qp_model.specs.Record.{Item}
use Rattle.qp_model.specs.Told.{Told}
use Rattle.qp_model.specs.Knowing.{Facts, told, known_of}
use Rattle.qp_model.specs.Ends.{is_turn_mark}
use Rattle.qp_model.specs.End.{takes_of}
use Rattle.qp_model.specs.Sites.{object_at}
use Rattle.qp_model.specs.Line.{Line, counts_are}
use Rattle.qp_model.specs.Pieces.{Piece, Tell, Point, ends_at_point}
use Rattle.qp_model.specs.Course.{actor, first_config}
use Rattle.qp_model.specs.KernelLane.{Drops, Looks, role_of, Setting, floor_in, Upcoming, Inside, Looking, Chosen, Ended, Resting, Again, Over, Halted, Reading, lane_next, unread}
use Rattle.qp_model.specs.Points.{pieces_at, pieces_in, begins_row}
use Rattle.qp_model.specs.OneOrder.{Placed}
use Rattle.qp_check_course.specs.Machine.{State, start_state, state_after, state_next as piece_next, tell_next}
use Rattle.qp_model_order.specs.RunOrder.{placed}
use Rattle.qp_unique.specs.Held.{WordsHeld, comes_next}
use Rattle.qp_unique.specs.NextInCourse.{piece_told, PieceComes}
use Rattle.qp_unique.proofs.CourseLemmas.{course_goes_on_alone}
use Rattle.qp_unique.proofs.KernelLemmas.{Slot, Starts, Runs, Releases, IsLook, IsSeen, IsTook, IsSpent, IsRest, IsOwned, item-is}
use Rattle.qp_unique.proofs.StackLemmas.{IsBounded, IsObject, Below, Descends, PlaceStacked, NotOf, Away, away-looked, below-not}
use Rattle.qp_unique.proofs.AwayLemmas.{away-pieces, BeginsTook, MustRelease, must-release}
use Rattle.qp_unique.proofs.StepLemmas.{starts-only, runs-only, ended-only, look-only, seen-only, chosen-only, rest-only, over-none, LookHere}
use Rattle.qp_unique.proofs.ItemLemmas.{run-first, named, step, unspilt-here, slot, order-here, comes-here, course-here, own-unmarked, told-next}
use Rattle.qp_unique.proofs.Sides.{Mode, Side, Agree, EndsOwn, in_kernel, order_of, held_to, MayEnd}
use Rattle.qp_model.proofs.AbleLemmas.{some-same}

-- a look behind the release of p leaves p with no step under way
away-after : (s : Setting) (k next : Reading) (i : Item) (p : ℕ) → Slot s k next i → k.place ≡ Ended p → (role_of i.body ≡ Drops → ⊥) → NotOf k.running p → k.unstarted ≡ [] → Away p next
away-after s k next i p (Starts q more vs of own r place left looks) at look not started = absurd (let no : [] ≡ q ∷ more = sym started ∙ vs in cc)
away-after s k next i p (Runs q others none place r of own went) at look not started = absurd (let no : Inside ≡ Ended p = sym place ∙ at in cc)
away-after s k next i p (Releases q none place of role is) at look not started = absurd (look role)
away-after s k next i p (IsLook none may item is) at look not started = subst (Away p) is (away-looked s (record k { looks = k.looks + 1 }) _ p none not)
away-after s k next i p (IsSeen q others f l m none place item is) at look not started = absurd (let no : Ended p ≡ Looking q others = sym at ∙ place in cc)
away-after s k next i p (IsTook q f l m e none place item is) at look not started = absurd (let no : Ended p ≡ Chosen q = sym at ∙ place in cc)
away-after s k next i p (IsSpent q none place item is) at look not started = absurd (let no : Ended p ≡ Chosen q = sym at ∙ place in cc)
away-after s k next i p (IsRest none place item is) at look not started = absurd (let no : Ended p ≡ Resting = sym at ∙ place in cc)

told-role : (w : Facts) (p c : ℕ) (d : Body) → role_of d ≡ Drops → role_of (told w p c d).body ≡ Drops
unfolding told
told-role w p c d h = h

-- an entry taken, or the budget spent
abbrev TakesOrEnds : ℕ → Item → Type 0
TakesOrEnds p i = ((f l m : ℕ) × (e : Entry) × (i ≡ record { of = p; body = body.Took f l m e })) ⊎ (i ≡ record { of = p; body = body.Spent })

tell-is : {t u : Told} → Tell t ≡ Tell u → t ≡ u
tell-is e = cc

-- a course from its beginning
abbrev run_of : System → ObjectDef → Chart → List Piece → Option State
run_of sys d chart ps = state_after sys (actor d chart) (start_state (actor d chart) (first_config d)) ps

-- nothing goes on by an entry taken where a release is to come
left-took : (sys : System) (d : ObjectDef) (chart : Chart) (w : Facts) (s : Setting) (one two end : State) (p : ℕ) (some : p ≡ 0 → ⊥) (more : List Piece)
    → MustRelease sys (actor d chart) one → two ≡ one → state_after sys (actor d chart) two more ≡ Some end
    → ((c f l m : ℕ) × (e : Entry) × (rest : List Piece) × (more ≡ Tell (told w p c (body.Took f l m e)) ∷ rest)) → ⊥
unfolding state_after told piece_next
left-took sys d chart w s one two end p some more must same went (c, f, l, m, e, rest, took) =
    let moved = subst (λ ps. state_after sys (actor d chart) two ps ≡ Some end) took went in
    let later = run-first sys (actor d chart) two end (Tell (told w p c (body.Took f l m e))) rest moved in
    let next : tell_next sys (actor d chart) one (told w p c (body.Took f l m e)) ≡ Some later.0 =
    subst (λ z. tell_next sys (actor d chart) z (told w p c (body.Took f l m e)) ≡ Some later.0) same later.1 in
    let no : None ≡ Some later.0 = sym (must.untaken f l m e (known_of w p c (body.Took f l m e))) ∙ next in
    cc

-- a list that ends with a record of p has a piece of it
own-last : (w : Facts) (s : Setting) (p : ℕ) (i : Item) → i.of ≡ p → is_turn_mark i.body ≡ false → (us : List Item) (k : Reading) → pieces_in w s p k (us ++ i ∷ []) ≡ [] → ⊥
unfolding pieces_in pieces_at
own-last w s p i own unmarked [] k none =
    let self : (i.of == p) ≡ true = grind (arith, nat_tests) in
    let first : pieces_at w p k i ≡ Tell (told w p k.ceiling i.body) ∷ [] = rw (self, unmarked) refl in
    let no : Tell (told w p k.ceiling i.body) ∷ [] ≡ [] = ap (λ ps. ps ++ []) (sym first) ∙ none in
    cc
own-last w s p i own unmarked (u ∷ us) k none =
    own-last w s p i own unmarked us (unwrap_or (lane_next s k u) k) (behind-none (pieces_at w p k u) (pieces_in w s p (unwrap_or (lane_next s k u) k) (us ++ i ∷ [])) none)
  where
    behind-none : (ps qs : List Piece) → ps ++ qs ≡ [] → qs ≡ []
    behind-none [] qs h = h
    behind-none (p ∷ ps) qs h = absurd (cc)

-- a record of no object isn't the last of p
ends-behind : (p : ℕ) → (p ≡ 0 → ⊥) → (front : List Item) (ib : Item) (lb : List Item) → ib.of ≡ 0 → (us : List Item) (i : Item) → front ++ ib ∷ lb ≡ us ++ i ∷ [] → i.of ≡ p
    → (vs : List Item) × (lb ≡ vs ++ i ∷ [])
ends-behind p some [] ib [] of [] i is own = let same : ib ≡ i = cc in absurd (some (sym own ∙ ap (λ (x : Item). x.of) (sym same) ∙ of))
ends-behind p some [] ib (l ∷ lb) of [] i is own = absurd (cc)
ends-behind p some [] ib lb of (u ∷ us) i is own = (us, cc)
ends-behind p some (f ∷ front) ib lb of [] i is own = absurd (let rest : front ++ ib ∷ lb ≡ [] = cc in none front rest)
  where
    none : (xs : List Item) → xs ++ ib ∷ lb ≡ [] → ⊥
    none [] h = cc
    none (x ∷ xs) h = cc
ends-behind p some (f ∷ front) ib lb of (u ∷ us) i is own =
    let rest : front ++ ib ∷ lb ≡ us ++ i ∷ [] = cc in
    ends-behind p some front ib lb of us i rest own

-- no list ends where a release is to come, or goes on by an entry taken
left : (sys : System) (d : ObjectDef) (chart : Chart) (w : Facts) (s : Setting) (one two end : State) (p : ℕ) (some : p ≡ 0 → ⊥) (before more : List Piece)
    → MustRelease sys (actor d chart) one → two ≡ one → state_after sys (actor d chart) two more ≡ Some end → MayEnd (ends_at_point (before ++ more)) end
    → ends_at_point before ≡ false → BeginsTook w s p some more → ⊥
unfolding state_after told piece_next
left sys d chart w s one two end p some before more must same went may tail (inl none) =
    let stays : state_after sys (actor d chart) two [] ≡ Some end = subst (λ ps. state_after sys (actor d chart) two ps ≡ Some end) none went in
    let last : end ≡ one = sym (some-same stays) ∙ same in
    let ends : MayEnd (ends_at_point before) one =
    subst (λ z. MayEnd (ends_at_point before) z) last (subst (λ ps. MayEnd (ends_at_point ps) end) (append-nil before) (subst (λ ps. MayEnd (ends_at_point (before ++ ps)) end) none may)) in
    by ends
  where
    by : MayEnd (ends_at_point before) one → ⊥
    by (inl e) = let no : true ≡ false = sym e ∙ must.unended in cc
    by (inr (inl e)) = let no : true ≡ false = sym e ∙ must.unpointed in cc
    by (inr (inr e)) = let no : true ≡ false = sym e ∙ tail in cc
left sys d chart w s one two end p some before more must same went may tail (inr took) = left-took sys d chart w s one two end p some more must same went took

-- a record by another name for it
order-as : (sys : System) (charts : (p : ℕ) (d : ObjectDef) → object_at sys p ≡ Some d → Chart) (stimuli : List (List Stim)) (mode : Mode) (c : Side sys charts stimuli mode)
    (xs : List Placed) (i j : Item) (ys : List Placed) → i ≡ j → order_of sys charts stimuli mode c ≡ xs ++ placed 0 i ∷ ys → order_of sys charts stimuli mode c ≡ xs ++ placed 0 j ∷ ys
order-as sys charts stimuli mode c xs i j ys e h = h ∙ ap (λ x. xs ++ placed 0 x ∷ ys) e

module _ (sys : System) (charts : (p : ℕ) (d : ObjectDef) → object_at sys p ≡ Some d → Chart) (stimuli : List (List Stim)) (mode : Mode)
    (bounded : IsBounded sys) (positive : (p : ℕ) → IsObject sys p → p ≡ 0 → ⊥) where
  pub swapped : (a b : Side sys charts stimuli mode) (xs : List Placed) (front la lb : List Item) (k : Reading)
      → Agree sys charts stimuli mode a b xs front la lb k → Agree sys charts stimuli mode b a xs front lb la k
  swapped a b xs front la lb k g =
      record { one = g.two; two = g.one; stacked = g.stacked; looks = sym g.looks; pieces = λ p. sym (g.pieces p); told_so = λ i h. sym (g.told_so i h) }

  module _ (a b : Side sys charts stimuli mode) (xs : List Placed) (front : List Item) (ia ib : Item) (la lb : List Item) (k : Reading)
      (g : Agree sys charts stimuli mode a b xs front (ia ∷ la) (ib ∷ lb) k) where
    abbrev held : WordsHeld
    held = held_to sys k.ceiling xs

    tells-same : (p : ℕ) → IsObject sys p → ia.of ≡ p → ib.of ≡ p → is_turn_mark ia.body ≡ false → is_turn_mark ib.body ≡ false → ia ≡ ib
    unfolding told
    tells-same p its ofa ofb unmarked_a unmarked_b =
        let d = named sys charts stimuli mode bounded positive p its in
        let one = told-next sys charts stimuli mode bounded positive a xs front ia la k g.one p d.0 d.1 d.2 ofa unmarked_a in
        let two = told-next sys charts stimuli mode bounded positive b xs front ib lb k g.two p d.0 d.1 d.2 ofb unmarked_b in
        let mids : Some one.0 ≡ Some two.0 =
        sym one.1 ∙ ap (state_after sys (actor d.0 (charts p d.0 d.1)) (start_state (actor d.0 (charts p d.0 d.1)) (first_config d.0))) (g.pieces p) ∙ two.1 in
        let same : one.0 ≡ two.0 = some-same mids in
        let told_both : Some (Tell (told a.w p k.ceiling ia.body)) ≡ Some (Tell (told b.w p k.ceiling ib.body)) =
        sym one.2 ∙ ap (piece_told sys held (actor d.0 (charts p d.0 d.1))) same ∙ two.2 in
        let whole : told a.w p k.ceiling ia.body ≡ told b.w p k.ceiling ib.body = tell-is (some-same told_both) in
        item-is ia ib.of ib.body (ofa ∙ sym ofb) (ap (λ (t : Told). t.body) whole)

    -- where a record of p comes no look does, while its step is under way
    tells-point : (p : ℕ) (outer : List ℕ) → IsObject sys p → ia.of ≡ p → is_turn_mark ia.body ≡ false → k.place ≡ Inside → k.running ≡ p ∷ outer
        → LookHere (in_kernel mode.kernel sys b.has) k (step sys charts stimuli mode bounded positive b xs front ib lb k g.two).0 ib → ⊥
    unfolding pieces_at PieceComes
    tells-point p outer its of unmarked at runs look =
        let d = named sys charts stimuli mode bounded positive p its in
        let one = told-next sys charts stimuli mode bounded positive a xs front ia la k g.one p d.0 d.1 d.2 of unmarked in
        let two = course-here sys charts stimuli mode bounded positive b xs front ib lb k g.two p d.0 d.1 in
        let other : (0 == p) ≡ false = ne_eqb 0 p (λ e. positive p its (sym e)) in
        let self : (p == p) ≡ true = grind (arith, nat_tests) in
        let begins : begins_row p k.place k.running true ≡ true = rw (at, runs) self in
        let point : pieces_at b.w p k ib ≡ Point ∷ [] = ap (pieces_at b.w p k) look ∙ rw (other, begins) refl in
        let mids : Some one.0 ≡ Some two.0 =
        sym one.1 ∙ ap (run_of sys d.0 (charts p d.0 d.1)) (g.pieces p) ∙ two.2 in
        let same : two.0 ≡ one.0 = sym (some-same mids) in
        let first = subst (λ ps. state_after sys (actor d.0 (charts p d.0 d.1)) two.0 (ps ++ pieces_in b.w (in_kernel mode.kernel sys b.has) p (step sys charts stimuli mode bounded positive b xs front ib lb k g.two).0 lb) ≡ Some two.1) point two.3 in
        let later = run-first sys (actor d.0 (charts p d.0 d.1)) two.0 two.1 Point _ first in
        let alone = course_goes_on_alone sys held (actor d.0 (charts p d.0 d.1)) two.0 later.0 Point (b.counted xs _ k.ceiling g.two.order) tt later.1 in
        let both : Some (Tell (told a.w p k.ceiling ia.body)) ≡ Some Point = sym one.2 ∙ ap (piece_told sys held (actor d.0 (charts p d.0 d.1))) (sym same) ∙ alone in
        cc

    -- nor while its release is to come
    releases-look : (p : ℕ) → IsObject sys p → ia.of ≡ p → role_of ia.body ≡ Drops → k.unstarted ≡ [] → k.place ≡ Ended p → NotOf k.running p
        → LookHere (in_kernel mode.kernel sys b.has) k (step sys charts stimuli mode bounded positive b xs front ib lb k g.two).0 ib → ⊥
    unfolding pieces_at role_of
    releases-look p its of role started at not look =
        let d = named sys charts stimuli mode bounded positive p its in
        let unmarked : is_turn_mark ia.body ≡ false = own-unmarked sys charts stimuli mode bounded positive a xs front ia la k g.one (subst (IsObject sys) (sym of) its) (rw role tt) in
        let one = told-next sys charts stimuli mode bounded positive a xs front ia la k g.one p d.0 d.1 d.2 of unmarked in
        let two = course-here sys charts stimuli mode bounded positive b xs front ib lb k g.two p d.0 d.1 in
        let must : MustRelease sys (actor d.0 (charts p d.0 d.1)) one.0 =
        must-release sys (actor d.0 (charts p d.0 d.1)) one.0 one.3.0 (told a.w p k.ceiling ia.body) (told-role a.w p k.ceiling ia.body role) one.3.1 in
        let other : (0 == p) ≡ false = ne_eqb 0 p (λ e. positive p its (sym e)) in
        let begins : begins_row p k.place k.running true ≡ false = rw at refl in
        let none : pieces_at b.w p k ib ≡ [] = ap (pieces_at b.w p k) look ∙ rw (other, begins) refl in
        let mids : Some one.0 ≡ Some two.0 = sym one.1 ∙ ap (run_of sys d.0 (charts p d.0 d.1)) (g.pieces p) ∙ two.2 in
        let same : two.0 ≡ one.0 = sym (some-same mids) in
        let there = step sys charts stimuli mode bounded positive b xs front ib lb k g.two in
        let not_drops : role_of ib.body ≡ Drops → ⊥ = λ e. (let wrong : Looks (k.looks + 1) (floor_in sys mode.kernel k.running k.ceiling) ≡ Drops = ap (λ (x : Item). role_of x.body) (sym look) ∙ e in cc) in
        let away = away-after (in_kernel mode.kernel sys b.has) k there.0 ib p (slot sys charts stimuli mode bounded positive b xs front ib lb k g.two) at not_drops not started in
        let more = away-pieces b.w (in_kernel mode.kernel sys b.has) p (positive p its) mode.one lb there.0 b.last away
        (unspilt-here sys charts stimuli mode bounded positive b xs front ib lb k g.two).1 there.2 in
        let went = subst (λ ps. state_after sys (actor d.0 (charts p d.0 d.1)) two.0 (ps ++ pieces_in b.w (in_kernel mode.kernel sys b.has) p there.0 lb) ≡ Some two.1) none two.3 in
        let may = subst (λ ps. MayEnd (ends_at_point (pieces_in b.w (in_kernel mode.kernel sys b.has) p (unread sys) front ++ (ps ++ pieces_in b.w (in_kernel mode.kernel sys b.has) p there.0 lb))) two.1 ⊎ EndsOwn p b.lane0) none two.4 in
        by d.0 d.1 must same went more may there.0 refl
      where
        by : (d : ObjectDef) (is : object_at sys p ≡ Some d) {one two end : State} → MustRelease sys (actor d (charts p d is)) one → two ≡ one
            → {more : List Piece} → state_after sys (actor d (charts p d is)) two more ≡ Some end → BeginsTook b.w (in_kernel mode.kernel sys b.has) p (positive p its) more
            → (MayEnd (ends_at_point (pieces_in b.w (in_kernel mode.kernel sys b.has) p (unread sys) front ++ more)) end ⊎ EndsOwn p b.lane0) → (next : Reading) → more ≡ pieces_in b.w (in_kernel mode.kernel sys b.has) p next lb → ⊥
        by d is {one} {two} {end} must same {more} went took (inl may) next are =
            left sys d (charts p d is) b.w (in_kernel mode.kernel sys b.has) one two end p (positive p its) (pieces_in b.w (in_kernel mode.kernel sys b.has) p (unread sys) front) more must same went may (g.two.tail p at) took
        by d is {one} {two} {end} must same {more} went (inr took) (inr last) next are = left-took sys d (charts p d is) b.w (in_kernel mode.kernel sys b.has) one two end p (positive p its) more must same went took
        by d is {one} {two} {end} must same {more} went (inl none) (inr (us, i, split, own, unmarked)) next are =
            let behind = ends-behind p (positive p its) front ib lb (ap (λ (x : Item). x.of) look) us i (sym g.two.lane ∙ split) own in
            own-last b.w (in_kernel mode.kernel sys b.has) p i own unmarked behind.0 next (ap (pieces_in b.w (in_kernel mode.kernel sys b.has) p next) (sym behind.1) ∙ sym are ∙ none)

    -- both see the queue of p as it is
    seen-same : (p f l m f2 l2 m2 : ℕ) → ia ≡ record { of = 0; body = body.Seen p f l m } → ib ≡ record { of = 0; body = body.Seen p f2 l2 m2 } → ia ≡ ib
    unfolding comes_next told
    seen-same p f l m f2 l2 m2 at bt =
        let one : comes_next sys held 0 (body.Seen p f l m) ≡ true =
        subst (λ (x : Item). comes_next sys held x.of x.body ≡ true) at (comes-here sys charts stimuli mode bounded positive a xs front ia la k g.one k.ceiling).may in
        let two : comes_next sys held 0 (body.Seen p f2 l2 m2) ≡ true =
        subst (λ (x : Item). comes_next sys held x.of x.body ≡ true) bt (comes-here sys charts stimuli mode bounded positive b xs front ib lb k g.two k.ceiling).may in
        at ∙ by (held.lines p) one two ∙ sym bt
      where
        by : (s : Line) → (counts_are f l m s) ≡ true → (counts_are f2 l2 m2 s) ≡ true → ◌≡◌ {A = Item} (record { of = 0; body = body.Seen p f l m }) (record { of = 0; body = body.Seen p f2 l2 m2 })
        by s one two =
            let e1 : f ≡ f2 = grind (arith, nat_tests) in
            let e2 : l ≡ l2 = grind (arith, nat_tests) in
            let e3 : m ≡ m2 = grind (arith, nat_tests) in
            ap (λ x. record { of = 0; body = body.Seen p x l m }) e1 ∙ ap (λ x. record { of = 0; body = body.Seen p f2 x m }) e2 ∙ ap (λ x. record { of = 0; body = body.Seen p f2 l2 x }) e3

    -- an object that takes an entry is within its budget
    took-spent : (p f l m : ℕ) (e : Entry) → IsObject sys p → ia ≡ record { of = p; body = body.Took f l m e } → ib ≡ record { of = p; body = body.Spent } → ⊥
    took-spent p f l m e its at bt =
        let d = named sys charts stimuli mode bounded positive p its in
        let less : count_by (λ (z : Placed). takes_of p z.item) xs < mode.budget =
        a.within xs p f l m e _ (order-as sys charts stimuli mode a xs ia _ _ at (order-here sys charts stimuli mode bounded positive a xs front ia la k g.one))
        (positive p its) (λ none. let no : None ≡ Some d.0 = sym none ∙ d.1 in cc) in
        let full : count_by (λ (z : Placed). takes_of p z.item) xs ≡ mode.budget =
        b.spent xs p _ (order-as sys charts stimuli mode b xs ib _ _ bt (order-here sys charts stimuli mode bounded positive b xs front ib lb k g.two)) (positive p its) in
        omega (arith, less, full)

    took-unmarked : (i : Item) (p f l m : ℕ) (e : Entry) → i ≡ record { of = p; body = body.Took f l m e } → (i.of ≡ p) × (is_turn_mark i.body ≡ false)
    took-unmarked i p f l m e at = (ap (λ (x : Item). x.of) at, ap (λ (x : Item). is_turn_mark x.body) at)

    abbrev SlotA : Type 0
    SlotA = Slot (in_kernel mode.kernel sys a.has) k (step sys charts stimuli mode bounded positive a xs front ia la k g.one).0 ia

    abbrev SlotB : Type 0
    SlotB = Slot (in_kernel mode.kernel sys b.has) k (step sys charts stimuli mode bounded positive b xs front ib lb k g.two).0 ib

    abbrev lookA : Type 0
    lookA = LookHere (in_kernel mode.kernel sys a.has) k (step sys charts stimuli mode bounded positive a xs front ia la k g.one).0 ia

    abbrev lookB : Type 0
    lookB = LookHere (in_kernel mode.kernel sys b.has) k (step sys charts stimuli mode bounded positive b xs front ib lb k g.two).0 ib

    looks-same : lookA → lookB → ia ≡ ib
    looks-same one two = one ∙ sym two

    owned-unmarked-a : (p : ℕ) → IsObject sys p → ia.of ≡ p → IsOwned (role_of ia.body) → is_turn_mark ia.body ≡ false
    owned-unmarked-a p its of own = own-unmarked sys charts stimuli mode bounded positive a xs front ia la k g.one (subst (IsObject sys) (sym of) its) own

    owned-unmarked-b : (p : ℕ) → IsObject sys p → ib.of ≡ p → IsOwned (role_of ib.body) → is_turn_mark ib.body ≡ false
    owned-unmarked-b p its of own = own-unmarked sys charts stimuli mode bounded positive b xs front ib lb k g.two (subst (IsObject sys) (sym of) its) own

module _ (sys : System) (charts : (p : ℕ) (d : ObjectDef) → object_at sys p ≡ Some d → Chart) (stimuli : List (List Stim)) (mode : Mode)
    (bounded : IsBounded sys) (positive : (p : ℕ) → IsObject sys p → p ≡ 0 → ⊥)
    (a b : Side sys charts stimuli mode) (xs : List Placed) (front : List Item) (ia ib : Item) (la lb : List Item) (k : Reading)
    (g : Agree sys charts stimuli mode a b xs front (ia ∷ la) (ib ∷ lb) k) where
  back : Agree sys charts stimuli mode b a xs front (ib ∷ lb) (ia ∷ la) k
  back = swapped sys charts stimuli mode bounded positive a b xs front (ia ∷ la) (ib ∷ lb) k g

  slot-a : SlotA sys charts stimuli mode bounded positive a b xs front ia ib la lb k g
  slot-a = slot sys charts stimuli mode bounded positive a xs front ia la k g.one

  slot-b : SlotB sys charts stimuli mode bounded positive a b xs front ia ib la lb k g
  slot-b = slot sys charts stimuli mode bounded positive b xs front ib lb k g.two

  tells-both : (p : ℕ) → IsObject sys p → (ia.of ≡ p) × IsOwned (role_of ia.body) → (ib.of ≡ p) × IsOwned (role_of ib.body) → ia ≡ ib
  tells-both p its one two =
      tells-same sys charts stimuli mode bounded positive a b xs front ia ib la lb k g p its one.0 two.0
      (owned-unmarked-a sys charts stimuli mode bounded positive a b xs front ia ib la lb k g p its one.0 one.1)
      (owned-unmarked-b sys charts stimuli mode bounded positive a b xs front ia ib la lb k g p its two.0 two.1)

  running-same : k.unstarted ≡ [] → (p : ℕ) (outer : List ℕ) → k.place ≡ Inside → k.running ≡ p ∷ outer → ia ≡ ib
  running-same started p outer at state_after =
      let its : IsObject sys p = (subst (Descends sys) state_after g.stacked.running).0 in
      by its (runs-only (in_kernel mode.kernel sys a.has) k _ ia started p outer at state_after slot-a) (runs-only (in_kernel mode.kernel sys b.has) k _ ib started p outer at state_after slot-b)
    where
      by : IsObject sys p → ((ia.of ≡ p) × IsOwned (role_of ia.body)) ⊎ lookA sys charts stimuli mode bounded positive a b xs front ia ib la lb k g
          → ((ib.of ≡ p) × IsOwned (role_of ib.body)) ⊎ lookB sys charts stimuli mode bounded positive a b xs front ia ib la lb k g → ia ≡ ib
      by its (inl one) (inl two) = tells-both p its one two
      by its (inl one) (inr two) =
          absurd (tells-point sys charts stimuli mode bounded positive a b xs front ia ib la lb k g p outer its one.0
          (owned-unmarked-a sys charts stimuli mode bounded positive a b xs front ia ib la lb k g p its one.0 one.1) at state_after two)
      by its (inr one) (inl two) =
          absurd (tells-point sys charts stimuli mode bounded positive b a xs front ib ia lb la k back p outer its two.0
          (owned-unmarked-b sys charts stimuli mode bounded positive a b xs front ia ib la lb k g p its two.0 two.1) at state_after one)
      by its (inr one) (inr two) = looks-same sys charts stimuli mode bounded positive a b xs front ia ib la lb k g one two

  released-same : k.unstarted ≡ [] → (p : ℕ) → k.place ≡ Ended p → ia ≡ ib
  released-same started p at =
      let place : IsObject sys p × Below sys k.running p = subst (PlaceStacked sys k.running) at g.stacked.place in
      by place (ended-only (in_kernel mode.kernel sys a.has) k _ ia started p at slot-a) (ended-only (in_kernel mode.kernel sys b.has) k _ ib started p at slot-b)
    where
      by : IsObject sys p × Below sys k.running p → ((ia.of ≡ p) × (role_of ia.body ≡ Drops)) ⊎ lookA sys charts stimuli mode bounded positive a b xs front ia ib la lb k g
          → ((ib.of ≡ p) × (role_of ib.body ≡ Drops)) ⊎ lookB sys charts stimuli mode bounded positive a b xs front ia ib la lb k g → ia ≡ ib
      by place (inl one) (inl two) = tells-both p place.0 (one.0, rw one.1 tt) (two.0, rw two.1 tt)
      by place (inl one) (inr two) =
          absurd (releases-look sys charts stimuli mode bounded positive a b xs front ia ib la lb k g p place.0 one.0 one.1 started at (below-not sys k.running p place.1) two)
      by place (inr one) (inl two) =
          absurd (releases-look sys charts stimuli mode bounded positive b a xs front ib ia lb la k back p place.0 two.0 two.1 started at (below-not sys k.running p place.1) one)
      by place (inr one) (inr two) = looks-same sys charts stimuli mode bounded positive a b xs front ia ib la lb k g one two

  chosen-same : k.unstarted ≡ [] → (p : ℕ) → k.place ≡ Chosen p → ia ≡ ib
  chosen-same started p at =
      let place : IsObject sys p × Below sys k.running p = subst (PlaceStacked sys k.running) at g.stacked.place in
      by place.0 (chosen-only (in_kernel mode.kernel sys a.has) k _ ia started p at slot-a) (chosen-only (in_kernel mode.kernel sys b.has) k _ ib started p at slot-b)
    where
      by : IsObject sys p → TakesOrEnds p ia → TakesOrEnds p ib → ia ≡ ib
      by its (inl (f, l, m, e, one)) (inl (f2, l2, m2, e2, two)) =
          let ua = took-unmarked sys charts stimuli mode bounded positive a b xs front ia ib la lb k g ia p f l m e one in
          let ub = took-unmarked sys charts stimuli mode bounded positive a b xs front ia ib la lb k g ib p f2 l2 m2 e2 two in
          tells-same sys charts stimuli mode bounded positive a b xs front ia ib la lb k g p its ua.0 ub.0 ua.1 ub.1
      by its (inl (f, l, m, e, one)) (inr two) = absurd (took-spent sys charts stimuli mode bounded positive a b xs front ia ib la lb k g p f l m e its one two)
      by its (inr one) (inl (f, l, m, e, two)) = absurd (took-spent sys charts stimuli mode bounded positive b a xs front ib ia lb la k back p f l m e its two one)
      by its (inr one) (inr two) = one ∙ sym two

  placed-same : k.unstarted ≡ [] → (place : Upcoming) → k.place ≡ place → ia ≡ ib
  placed-same started Inside at = by k.running refl
    where
      by : (os : List ℕ) → k.running ≡ os → ia ≡ ib
      by [] state_after =
          looks-same sys charts stimuli mode bounded positive a b xs front ia ib la lb k g
          (look-only (in_kernel mode.kernel sys a.has) k _ ia started (inr (at, state_after)) slot-a) (look-only (in_kernel mode.kernel sys b.has) k _ ib started (inr (at, state_after)) slot-b)
      by (p ∷ outer) state_after = running-same started p outer at state_after
  placed-same started (Looking p others) at =
      let one = seen-only (in_kernel mode.kernel sys a.has) k _ ia started p others at slot-a in
      let two = seen-only (in_kernel mode.kernel sys b.has) k _ ib started p others at slot-b in
      seen-same sys charts stimuli mode bounded positive a b xs front ia ib la lb k g p one.0 one.1 one.2 two.0 two.1 two.2 one.3 two.3
  placed-same started (Chosen p) at = chosen-same started p at
  placed-same started (Ended p) at = released-same started p at
  placed-same started Resting at =
      rest-only (in_kernel mode.kernel sys a.has) k _ ia started at slot-a ∙ sym (rest-only (in_kernel mode.kernel sys b.has) k _ ib started at slot-b)
  placed-same started Again at =
      looks-same sys charts stimuli mode bounded positive a b xs front ia ib la lb k g
      (look-only (in_kernel mode.kernel sys a.has) k _ ia started (inl at) slot-a) (look-only (in_kernel mode.kernel sys b.has) k _ ib started (inl at) slot-b)
  placed-same started Over at = absurd (over-none (in_kernel mode.kernel sys a.has) k _ ia started (inl at) slot-a)
  placed-same started Halted at = absurd (over-none (in_kernel mode.kernel sys a.has) k _ ia started (inr at) slot-a)

  -- they go on by the same record
  pub same-item : ia ≡ ib
  same-item = by k.unstarted refl
    where
      by : (us : List ℕ) → k.unstarted ≡ us → ia ≡ ib
      by [] started = placed-same started k.place refl
      by (p ∷ others) us =
          let its : IsObject sys p = (subst (AllByRecursion (IsObject sys)) us g.stacked.unstarted).0 in
          tells-both p its (starts-only (in_kernel mode.kernel sys a.has) k _ ia p others us slot-a) (starts-only (in_kernel mode.kernel sys b.has) k _ ib p others us slot-b)
