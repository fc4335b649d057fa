-- The records of a course that stopped at a point have the shape of an object's records that broke off.
use Rattle.std.proofs.Common.{◌≡◌, ℕ, max, Bool, true, false, List, [], ◌∷◌, ◌++◌, map, refl, sym, ◌∙◌, ap, subst, inl, inr, ◌⊎◌, Option, Some, None, append_assoc, append-nil}
use Rattle.std.specs.Bool.{MatchBool, IsTrue}
use Rattle.qp_chart.specs.declared.actions.Plain.{Plain}
use Rattle.qp_chart.specs.Task.{Task, Run, Unhandled, Done, Do, Restore}
use Rattle.qp_chart.specs.Agenda.{step_plan}
use Rattle.qp_model.specs.declared.systems.System.{System}
use Rattle.qp_model.specs.declared.systems.ObjectDef.{ObjectDef}
use Rattle.qp_chart.specs.declared.checked.Chart.{Chart}
use Rattle.qp_model.specs.declared.bodies.Entry.{Entry}
use Rattle.qp_model.specs.declared.bodies.Body.{Body}
use Rattle.qp_model.specs.declared.bodies.Body.TheVariants as item
use Rattle.qp_model.specs.Told.{Told, OfEvent, plain, raised, told_took}
use Rattle.qp_model.specs.Calls as call
use Rattle.qp_model.specs.Calls.{Call, Answer, Deed, Sets, Says, Calls, deed_of, ok_after, is_assertion}
use Rattle.qp_model.specs.Shapes.{Fits, FitsAny}
use Rattle.qp_model.specs.Pieces.{Piece, Tell, Point, records_in, tell, piece_of, with_points, pieces_of, ends_at_point, begins_at_point}
use Rattle.qp_model.specs.Acts.{Config, Actor, Moment, Later, DoesCall, DoesDeed, DoesTask, Does, names_of}
use Rattle.qp_model.specs.Step.{Step, StepBehind, Closes, moment}
use Rattle.qp_model.specs.Course.{Starts, Steps, Course, Follows, FollowsAs, FollowsThrough, FollowsThroughAs, FollowsTo, Cut, Whole, Stopped, Anywhere, actor, first_config, chart_at}
use Rattle.qp_model.specs.Groups.{IsAction, SaysValue, Actions, IsGroup, IsMove, IsLocked, Groups, is_post, ends_in_post, IsLast, Stops, StopsInPublication, BreaksOff, Plainly, UnderCeiling}
use Rattle.qp_model.specs.ObjectShape.{StepHead, is_head, BrokenStep, ObjectGroups, CutGroups}
use Rattle.qp_model.proofs.SequenceLemmas.{sequence-none, sequence-one, sequence-append}
use Rattle.qp_model.proofs.BlockLemmas.{Block, Exits, Enters, Inits, Acts, Locks, Blocks, spread, step-blocks}
use Rattle.qp_model.proofs.GroupLemmas.{call-action, call-asserts, bare-append, bare-pieces_of, actions-groups, breaks-cons}
use Rattle.qp_model.proofs.ShapeLemmas.{StepShape, StartShape, Turned, step-shape, starts-shape, no-turns, turn-more, broken, started, course-shape, course-whole}

-- a list stops at a point: it ends with one, or goes on with one
abbrev pub AtPoint : List Piece → List Piece → Type 0
AtPoint front back = IsTrue (ends_at_point front) ⊎ IsTrue (begins_at_point back)

pub first-same : {X : Type 0} {x y : X} {xs ys : List X} → x ∷ xs ≡ y ∷ ys → x ≡ y
first-same e = cc

pub rest-same : {X : Type 0} {x y : X} {xs ys : List X} → x ∷ xs ≡ y ∷ ys → xs ≡ ys
rest-same e = cc

-- two ways to cut one list in two
split : {X : Type 0} (xs ys zs ws : List X) → xs ++ ys ≡ zs ++ ws
    → ((m : List X) × (zs ≡ xs ++ m) × (ys ≡ m ++ ws)) ⊎ ((m : List X) × (xs ≡ zs ++ m) × (ws ≡ m ++ ys))
split [] ys zs ws e = inl (zs, refl, e)
split (x ∷ xs) ys [] ws e = inr (x ∷ xs, refl, sym e)
split (x ∷ xs) ys (z ∷ zs) ws e = more (split xs ys zs ws (rest-same e))
  where
    more : (((m : List _) × (zs ≡ xs ++ m) × (ys ≡ m ++ ws)) ⊎ ((m : List _) × (xs ≡ zs ++ m) × (ws ≡ m ++ ys)))
        → ((m : List _) × (z ∷ zs ≡ x ∷ xs ++ m) × (ys ≡ m ++ ws)) ⊎ ((m : List _) × (x ∷ xs ≡ z ∷ zs ++ m) × (ws ≡ m ++ ys))
    more (inl k) = let same : x ≡ z = first-same e in inl (k.0, rw (sym same) (ap (λ us. x ∷ us) k.1), k.2)
    more (inr k) = let same : x ≡ z = first-same e in inr (k.0, rw same (ap (λ us. z ∷ us) k.1), k.2)

at-tail : (p : Piece) (front back : List Piece) → AtPoint (p ∷ front) back → AtPoint front back
unfolding ends_at_point
at-tail p [] back h = inl refl
at-tail p (q ∷ front) back (inr h) = inr h
at-tail Point (q ∷ front) back (inl h) = inl h
at-tail (Tell t) (q ∷ front) back (inl h) = inl h

at-append : (xs front back : List Piece) → AtPoint (xs ++ front) back → AtPoint front back
at-append [] front back h = h
at-append (x ∷ xs) front back h = at-append xs front back (at-tail x (xs ++ front) back h)

-- only the first piece of what follows matters
at-head : (front : List Piece) (q : Piece) (m n : List Piece) → AtPoint front (q ∷ m) → AtPoint front (q ∷ n)
at-head front q m n (inl h) = inl h
at-head front Point m n (inr h) = inr h
at-head front (Tell t) m n (inr h) = inr h

-- records without points have no point to stop at
tells-cut : (g : List Told) (front : List Piece) (q : Piece) (m : List Piece) → tell g ≡ front ++ (q ∷ m) → AtPoint front (q ∷ m) → front ≡ []
unfolding ends_at_point
tells-cut g [] q m e h = refl
tells-cut [] (p ∷ front) q m e h = absurd (cc)
tells-cut (t ∷ g) (p ∷ []) q m e h = absurd (none g (rest-same e) (subst (λ x. AtPoint (x ∷ []) (q ∷ m)) (sym (first-same e)) h))
  where
    none : (g : List Told) → tell g ≡ q ∷ m → AtPoint (Tell t ∷ []) (q ∷ m) → ⊥
    none [] e h = cc
    none (u ∷ g) e (inl h) = cc
    none (u ∷ g) e (inr h) = let no : begins_at_point (Tell u ∷ m) ≡ true = subst (λ x. begins_at_point (x ∷ m) ≡ true) (sym (first-same e)) h in cc
tells-cut (t ∷ g) (p ∷ r ∷ front) q m e h = let wrong : r ∷ front ≡ [] = tells-cut g (r ∷ front) q m (rest-same e) (at-tail p (r ∷ front) (q ∷ m) h) in absurd (cc)

-- a record is a post, with a point behind it, or isn't
post_cases : (t : Told) → ((is_post t.body ≡ true) × (piece_of t t.body ≡ Tell t ∷ Point ∷ [])) ⊎ (piece_of t t.body ≡ Tell t ∷ [])
post_cases t = by t.body
  where
    by : (b : Body) → ((is_post b ≡ true) × (piece_of t b ≡ Tell t ∷ Point ∷ [])) ⊎ (piece_of t b ≡ Tell t ∷ [])
    by (item.Post a f l m e) = inl (refl, refl)
    by b = inr refl

-- no records, or the first one
with_points-head : (g : List Told) (q : Piece) (m : List Piece) → with_points g ≡ q ∷ m → begins_at_point (q ∷ m) ≡ true → ⊥
unfolding with_points
with_points-head [] q m e h = cc
with_points-head (t ∷ g) q m e h = by (post_cases t)
  where
    at : Tell t ≡ q → ⊥
    at same = let no : begins_at_point (Tell t ∷ m) ≡ true = subst (λ x. begins_at_point (x ∷ m) ≡ true) (sym same) h in cc

    by : (((is_post t.body ≡ true) × (piece_of t t.body ≡ Tell t ∷ Point ∷ [])) ⊎ (piece_of t t.body ≡ Tell t ∷ [])) → ⊥
    by (inl k) = at (first-same (ap (λ us. us ++ with_points g) (sym k.1) ∙ e))
    by (inr k) = at (first-same (ap (λ us. us ++ with_points g) (sym k) ∙ e))

-- what stands before the cut begins with a record
bare-begins : (g : List Told) (front : List Piece) (q : Piece) (m : List Piece) → with_points g ≡ front ++ (q ∷ m) → (front ≡ []) ⊎ ((u : Told) × (us : List Told) × (records_in front ≡ u ∷ us))
unfolding with_points records_in
bare-begins g [] q m e = inl refl
bare-begins [] (p ∷ front) q m e = absurd (cc)
bare-begins (t ∷ g) (p ∷ front) q m e = inr (by (post_cases t))
  where
    at : Tell t ≡ p → (u : Told) × (us : List Told) × (records_in (p ∷ front) ≡ u ∷ us)
    at same = (t, records_in front, ap (λ x. records_in (x ∷ front)) (sym same))

    by : (((is_post t.body ≡ true) × (piece_of t t.body ≡ Tell t ∷ Point ∷ [])) ⊎ (piece_of t t.body ≡ Tell t ∷ []))
        → (u : Told) × (us : List Told) × (records_in (p ∷ front) ≡ u ∷ us)
    by (inl k) = at (first-same (ap (λ us. us ++ with_points g) (sym k.1) ∙ e))
    by (inr k) = at (first-same (ap (λ us. us ++ with_points g) (sym k) ∙ e))

-- a publication that is cut at a point inside is cut behind a post
points-cut : (g : List Told) (front : List Piece) (q : Piece) (m : List Piece) → with_points g ≡ front ++ (q ∷ m) → AtPoint front (q ∷ m)
    → (front ≡ []) ⊎ (ends_in_post (records_in front) ≡ true)
unfolding with_points records_in ends_in_post ends_at_point
points-cut g [] q m e h = inl refl
points-cut [] (p ∷ front) q m e h = absurd (cc)
points-cut (t ∷ g) (p ∷ front) q m e h =
    inr (by (λ f k. points-cut g f q m k) (post_cases t))
  where
    -- a record before what ends in a post
    longer : (t : Told) (f : List Piece) → ((f ≡ []) ⊎ ((u : Told) × (us : List Told) × (records_in f ≡ u ∷ us))) → ends_in_post (records_in f) ≡ true → ends_in_post (t ∷ records_in f) ≡ true
    longer t f (inl is) k = let no : ends_in_post (records_in []) ≡ true = subst (λ x. ends_in_post (records_in x) ≡ true) is k in absurd (cc)
    longer t f (inr s) k = subst (λ x. ends_in_post (t ∷ x) ≡ true) (sym s.2) (subst (λ x. ends_in_post x ≡ true) s.2 k)

    by : ((f : List Piece) → with_points g ≡ f ++ (q ∷ m) → AtPoint f (q ∷ m) → (f ≡ []) ⊎ (ends_in_post (records_in f) ≡ true))
        → (((is_post t.body ≡ true) × (piece_of t t.body ≡ Tell t ∷ Point ∷ [])) ⊎ (piece_of t t.body ≡ Tell t ∷ [])) → ends_in_post (records_in (p ∷ front)) ≡ true
    by later (inl k) = by_front front whole h
      where
        whole : Tell t ∷ Point ∷ with_points g ≡ p ∷ (front ++ (q ∷ m))
        whole = ap (λ us. us ++ with_points g) (sym k.1) ∙ e

        same : Tell t ≡ p
        same = first-same whole

        alone : (f : List Piece) → records_in f ≡ [] → ends_in_post (records_in (p ∷ f)) ≡ true
        alone f is = subst (λ x. ends_in_post (records_in (x ∷ f)) ≡ true) same (subst (λ us. ends_in_post (t ∷ us) ≡ true) (sym is) k.0)

        by_front : (f : List Piece) → Tell t ∷ Point ∷ with_points g ≡ p ∷ (f ++ (q ∷ m)) → AtPoint (p ∷ f) (q ∷ m) → ends_in_post (records_in (p ∷ f)) ≡ true
        by_front [] w h = alone [] refl
        by_front (r ∷ f) w h = either (later f (rest-same (rest-same w)) (at-tail r f (q ∷ m) (at-tail p (r ∷ f) (q ∷ m) h)))
          where
            point : Point ≡ r
            point = first-same (rest-same w)

            is_f : records_in (r ∷ f) ≡ records_in f
            is_f = ap (λ x. records_in (x ∷ f)) (sym point)

            either : ((f ≡ []) ⊎ (ends_in_post (records_in f) ≡ true)) → ends_in_post (records_in (p ∷ r ∷ f)) ≡ true
            either (inl is) = alone (r ∷ f) (is_f ∙ ap records_in is)
            either (inr l) =
                subst (λ x. ends_in_post (records_in (x ∷ r ∷ f)) ≡ true) same
                (subst (λ us. ends_in_post (t ∷ us) ≡ true) (sym is_f) (longer t f (bare-begins g f q m (rest-same (rest-same w))) l))
    by later (inr k) = by_front front whole h
      where
        whole : Tell t ∷ with_points g ≡ p ∷ (front ++ (q ∷ m))
        whole = ap (λ us. us ++ with_points g) (sym k) ∙ e

        by_front : (f : List Piece) → Tell t ∷ with_points g ≡ p ∷ (f ++ (q ∷ m)) → AtPoint (p ∷ f) (q ∷ m) → ends_in_post (records_in (p ∷ f)) ≡ true
        by_front [] w (inl h) = let no : ends_at_point (Tell t ∷ []) ≡ true = subst (λ x. ends_at_point (x ∷ []) ≡ true) (sym (first-same w)) h in absurd (cc)
        by_front [] w (inr h) = absurd (with_points-head g q m (rest-same w) h)
        by_front (r ∷ f) w h = either (later (r ∷ f) (rest-same w) (at-tail p (r ∷ f) (q ∷ m) h))
          where
            either : ((r ∷ f ≡ []) ⊎ (ends_in_post (records_in (r ∷ f)) ≡ true)) → ends_in_post (records_in (p ∷ r ∷ f)) ≡ true
            either (inl is) = absurd (cc)
            either (inr l) =
                subst (λ x. ends_in_post (records_in (x ∷ r ∷ f)) ≡ true) (first-same w) (longer t (r ∷ f) (bare-begins g (r ∷ f) q m (rest-same w)) l)

module _ (sys : System) (a : Actor) (at : Moment) where
  -- a call that is cut at a point inside
  pieces-cut : (x : Call) (answer : Answer) (g : List Told) (front : List Piece) (q : Piece) (m : List Piece) → Fits sys a.o at.entry x answer g
      → pieces_of x g ≡ front ++ (q ∷ m) → AtPoint front (q ∷ m) → IsLast sys a.o at.entry true (records_in front)
  unfolding FitsAny pieces_of records_in
  pieces-cut x answer g front q m fits e h = by x fits e
    where
      stops : front ≡ [] → IsLast sys a.o at.entry true (records_in front)
      stops is = Stops refl (ap records_in is)

      published : (sig : ℕ) (pars : List ℕ) (reserve : Option ℕ) → FitsAny sys a.o at.entry (call.Publish sig pars reserve) answer g → with_points g ≡ front ++ (q ∷ m)
          → ((front ≡ []) ⊎ (ends_in_post (records_in front) ≡ true)) → IsLast sys a.o at.entry true (records_in front)
      published sig pars reserve fits e (inl is) = stops is
      published sig pars reserve fits e (inr last) =
          StopsInPublication sig pars reserve answer (records_in (q ∷ m)) refl (subst (λ us. FitsAny sys a.o at.entry (call.Publish sig pars reserve) answer us) whole fits) last
        where
          whole : g ≡ records_in front ++ records_in (q ∷ m)
          whole = sym (bare-pieces_of (call.Publish sig pars reserve) g) ∙ ap records_in e ∙ bare-append front (q ∷ m)

      by : (x : Call) → Fits sys a.o at.entry x answer g → pieces_of x g ≡ front ++ (q ∷ m) → IsLast sys a.o at.entry true (records_in front)
      by (call.Publish sig pars reserve) fits e = published sig pars reserve fits e (points-cut g front q m e h)
      by _ fits e = stops (tells-cut g front q m e h)

  -- whole actions stand before the cut, and then it is cut in what is to come
  abbrev pub ActionsOn : Config → Later → List Piece → List Piece → List Piece → Type 0
  ActionsOn c later front back tail =
      (g : List Told) × (d : Config) × (more body : List Piece) × Actions sys a.o at.entry g × (d.former ≡ c.former)
      × (records_in front ≡ g ++ records_in more) × later d body × (more ++ back ≡ body ++ tail) × AtPoint more back

  -- actions, the last of them cut
  abbrev pub ActionsCut : List Piece → Type 0
  ActionsCut front = (inner last : List Told) × Actions sys a.o at.entry inner × IsLast sys a.o at.entry true last × (records_in front ≡ inner ++ last)

  no_actions : Actions sys a.o at.entry []
  unfolding Actions
  no_actions = sequence-none (IsAction sys a.o at.entry)

  one_action : (g : List Told) → IsAction sys a.o at.entry g → Actions sys a.o at.entry g
  unfolding Actions
  one_action g h = sequence-one (IsAction sys a.o at.entry) g h

  nothing_yet : ActionsCut []
  unfolding records_in
  nothing_yet = ([], [], no_actions, Stops refl refl, refl)

  whole_action : (g : List Told) (front : List Piece) → IsAction sys a.o at.entry g → records_in front ≡ g → ActionsCut front
  whole_action g front h is = (g, [], one_action g h, Stops refl refl, is ∙ sym (append-nil g))

  call-cut : (c : Config) (later : Later) (failed : Type 0) (x : Call) (body front back tail : List Piece) → DoesCall sys a at.entry c later failed x body → (failed → tail ≡ [])
      → front ++ back ≡ body ++ tail → AtPoint front back → ActionsOn c later front back tail ⊎ ActionsCut front
  unfolding DoesCall records_in
  call-cut c later failed x body front back tail h gone e at_point = by_assertion (is_assertion h.0) refl h.5
    where
      makes : is_assertion h.0 ≡ false → IsAction sys a.o at.entry h.1
      makes is = call-action sys a.o at.entry x h.0 h.1 h.3 is

      -- the whole call stands before the cut
      complete : front ≡ pieces_of x h.1 → records_in front ≡ h.1
      complete is = ap records_in is ∙ bare-pieces_of x h.1

      asserted : is_assertion h.0 ≡ true → (back : List Piece) → front ++ back ≡ pieces_of x h.1 → AtPoint front back → ActionsCut front
      asserted is [] whole here = ([], h.1, no_actions, call-asserts sys a.o at.entry true x h.0 h.1 h.3 is, complete (sym (append-nil front) ∙ whole))
      asserted is (q ∷ m) whole here = ([], records_in front, no_actions, pieces-cut x h.0 h.1 front q m h.3 (sym whole) here, refl)

      by_split : is_assertion h.0 ≡ false → (rest : List Piece) → later (record c { ok = ok_after h.0 c.ok; kept = h.2 }) rest
          → ((m : List Piece) × (pieces_of x h.1 ≡ front ++ m) × (back ≡ m ++ (Point ∷ (rest ++ tail)))) ⊎ ((m : List Piece) × (front ≡ pieces_of x h.1 ++ m) × (Point ∷ (rest ++ tail) ≡ m ++ back))
          → ActionsOn c later front back tail ⊎ ActionsCut front
      by_split is rest next (inl k) = inr (inside k.0 k.1 k.2)
        where
          inside : (m : List Piece) → pieces_of x h.1 ≡ front ++ m → back ≡ m ++ (Point ∷ (rest ++ tail)) → ActionsCut front
          inside [] whole behind = whole_action h.1 front (makes is) (complete (sym (whole ∙ append-nil front)))
          inside (q ∷ m) whole behind =
              let here : AtPoint front (q ∷ m ++ (Point ∷ (rest ++ tail))) = subst (λ us. AtPoint front us) behind at_point in
              ([], records_in front, no_actions, pieces-cut x h.0 h.1 front q m h.3 whole (at-head front q (m ++ (Point ∷ (rest ++ tail))) m here), refl)
      by_split is rest next (inr k) = outside k.0 k.1 k.2
        where
          outside : (m : List Piece) → front ≡ pieces_of x h.1 ++ m → Point ∷ (rest ++ tail) ≡ m ++ back → ActionsOn c later front back tail ⊎ ActionsCut front
          outside [] whole behind = inr (whole_action h.1 front (makes is) (complete (whole ∙ append-nil (pieces_of x h.1))))
          outside (p ∷ m) whole behind =
              let point : Point ≡ p = first-same behind in
              let here : AtPoint (pieces_of x h.1 ++ (p ∷ m)) back = subst (λ us. AtPoint us back) whole at_point in
              inl (
                h.1,
                record c { ok = ok_after h.0 c.ok; kept = h.2 },
                m,
                rest,
                one_action h.1 (makes is),
                refl,
                ap records_in whole ∙ bare-append (pieces_of x h.1) (p ∷ m) ∙ ap (λ us. us ++ records_in (p ∷ m)) (bare-pieces_of x h.1) ∙ ap (λ y. h.1 ++ records_in (y ∷ m)) (sym point),
                next,
                sym (rest-same behind),
                at-tail p m back (at-append (pieces_of x h.1) (p ∷ m) back here),
              )

      by_assertion : (b : Bool) → is_assertion h.0 ≡ b
          → MatchBool b ((body ≡ pieces_of x h.1) × failed) ((rest : List Piece) × (body ≡ pieces_of x h.1 ++ (Point ∷ rest)) × later (record c { ok = ok_after h.0 c.ok; kept = h.2 }) rest)
          → ActionsOn c later front back tail ⊎ ActionsCut front
      by_assertion true is k = inr (asserted is back (e ∙ ap (λ us. us ++ tail) k.0 ∙ ap (λ us. pieces_of x h.1 ++ us) (gone k.1) ∙ append-nil (pieces_of x h.1)) at_point)
      by_assertion false is k =
          by_split is k.0 k.2 (split front back (pieces_of x h.1) (Point ∷ (k.0 ++ tail)) (e ∙ ap (λ us. us ++ tail) k.1 ∙ append_assoc (pieces_of x h.1) (Point ∷ k.0) tail))

  deed-cut : (c : Config) (later : Later) (failed : Type 0) (d : Deed) (body front back tail : List Piece) → DoesDeed sys a at.entry c later failed d body → (failed → tail ≡ [])
      → front ++ back ≡ body ++ tail → AtPoint front back → ActionsOn c later front back tail ⊎ ActionsCut front
  unfolding DoesDeed records_in
  deed-cut c later failed (Sets var value) body front back tail h gone e here = by_front front (e ∙ ap (λ us. us ++ tail) h.1) here
    where
      by_front : (front : List Piece) → front ++ back ≡ Point ∷ (h.0 ++ tail) → AtPoint front back → ActionsOn c later front back tail ⊎ ActionsCut front
      by_front [] e here = inr nothing_yet
      by_front (p ∷ f) e here = inl ([], _, f, h.0, no_actions, refl, ap (λ x. records_in (x ∷ f)) (first-same e), h.2, rest-same e, at-tail p f back here)
  deed-cut c later failed (Says value) body front back tail h gone e here = by_front front (e ∙ ap (λ us. us ++ tail) h.1) here
    where
      said : IsAction sys a.o at.entry (plain (item.Say value) ∷ [])
      said = SaysValue value refl

      by_front : (front : List Piece) → front ++ back ≡ Tell (plain (item.Say value)) ∷ Point ∷ (h.0 ++ tail) → AtPoint front back → ActionsOn c later front back tail ⊎ ActionsCut front
      by_front [] e here = inr nothing_yet
      by_front (p ∷ []) e here = inr (whole_action (plain (item.Say value) ∷ []) (p ∷ []) said (ap (λ x. records_in (x ∷ [])) (first-same e)))
      by_front (p ∷ q ∷ f) e here = inl (
        plain (item.Say value) ∷ [],
        c,
        f,
        h.0,
        one_action (plain (item.Say value) ∷ []) said,
        refl,
        ap (λ x. records_in (x ∷ q ∷ f)) (first-same e) ∙ ap (λ x. records_in (Tell (plain (item.Say value)) ∷ x ∷ f)) (first-same (rest-same e)),
        h.2,
        rest-same (rest-same e),
        at-tail q f back (at-tail p (q ∷ f) back here),
      )
  deed-cut c later failed (Calls x) body front back tail h gone e here = call-cut c later failed x body front back tail h gone e here

  -- actions before the cut
  actions-before : (g : List Told) (front more : List Piece) → Actions sys a.o at.entry g → records_in front ≡ g ++ records_in more → ActionsCut more → ActionsCut front
  unfolding Actions
  actions-before g front more acts is k =
      (g ++ k.0, k.1, sequence-append (IsAction sys a.o at.entry) g k.0 acts k.2, k.3, is ∙ ap (λ us. g ++ us) k.4 ∙ sym (append_assoc g k.0 k.1))

  plains-cut : (acts : List Plain) (ts : List Task) (c : Config) (body : List Piece) (end : Option Config) (front back tail : List Piece) → Does sys a at (map Do acts ++ ts) c body end
      → (end ≡ None → tail ≡ []) → front ++ back ≡ body ++ tail → AtPoint front back → ActionsOn c (λ d rest. Does sys a at ts d rest end) front back tail ⊎ ActionsCut front
  unfolding Does DoesTask Actions
  plains-cut [] ts c body end front back tail h gone e here = inl ([], c, front, body, sequence-none (IsAction sys a.o at.entry), refl, refl, h, e, here)
  plains-cut (p ∷ acts) ts c body end front back tail h gone e here =
      either (λ d more rest k e here. plains-cut acts ts d rest end more back tail k gone e here)
      (deed-cut c (λ d rest. Does sys a at (map Do acts ++ ts) d rest end) (end ≡ None) (deed_of (names_of a c at.event) p) body front back tail h gone e here)
    where
      either : ((d : Config) (more rest : List Piece) → Does sys a at (map Do acts ++ ts) d rest end → more ++ back ≡ rest ++ tail → AtPoint more back
          → ActionsOn d (λ f rest. Does sys a at ts f rest end) more back tail ⊎ ActionsCut more)
          → ActionsOn c (λ d rest. Does sys a at (map Do acts ++ ts) d rest end) front back tail ⊎ ActionsCut front
          → ActionsOn c (λ d rest. Does sys a at ts d rest end) front back tail ⊎ ActionsCut front
      either later (inr k) = inr k
      either later (inl k) = next (later k.1 k.2 k.3 k.7 k.8 k.9)
        where
          next : ActionsOn k.1 (λ f rest. Does sys a at ts f rest end) k.2 back tail ⊎ ActionsCut k.2
              → ActionsOn c (λ d rest. Does sys a at ts d rest end) front back tail ⊎ ActionsCut front
          next (inl n) = inl (
            k.0 ++ n.0,
            n.1,
            n.2,
            n.3,
            sequence-append (IsAction sys a.o at.entry) k.0 n.0 k.4 n.4,
            n.5 ∙ k.5,
            k.6 ∙ ap (λ us. k.0 ++ us) n.6 ∙ sym (append_assoc k.0 n.0 (records_in n.2)),
            n.7,
            n.8,
            n.9,
          )
          next (inr n) = inr (actions-before k.0 front k.2 k.4 k.6 n)

  -- whole groups stand before the cut, and then it is cut in what is to come
  abbrev pub GroupsOn : Later → List Piece → List Piece → List Piece → Type 0
  GroupsOn later front back tail =
      (g : List Told) × (d : Config) × (more body : List Piece) × Groups sys a.o at.entry g
      × (records_in front ≡ g ++ records_in more) × later d body × (more ++ back ≡ body ++ tail) × AtPoint more back

  abbrev pub GroupsCut : List Piece → Type 0
  GroupsCut front = BreaksOff sys a.o at.entry true (records_in front)

  groups-before : (g : List Told) (front more : List Piece) → Groups sys a.o at.entry g → records_in front ≡ g ++ records_in more → GroupsCut more → GroupsCut front
  groups-before g front more gs is k = subst (λ us. BreaksOff sys a.o at.entry true us) (sym is) (breaks-cons sys a at true g (records_in more) gs k)

  no_groups : Groups sys a.o at.entry []
  unfolding Groups
  no_groups = sequence-none (IsGroup sys a.o at.entry)

  one_group : (g : List Told) → IsGroup sys a.o at.entry g → Groups sys a.o at.entry g
  unfolding Groups
  one_group g h = sequence-one (IsGroup sys a.o at.entry) g h

  none_yet : GroupsCut []
  unfolding records_in
  none_yet = Plainly [] [] no_groups (Stops refl refl) refl

  -- behind whole groups
  either-before : (later : Later) (g : List Told) (front more back tail : List Piece) → Groups sys a.o at.entry g → records_in front ≡ g ++ records_in more
      → GroupsOn later more back tail ⊎ GroupsCut more → GroupsOn later front back tail ⊎ GroupsCut front
  unfolding Groups
  either-before later g front more back tail gs is (inl k) = inl (
    g ++ k.0,
    k.1,
    k.2,
    k.3,
    sequence-append (IsGroup sys a.o at.entry) g k.0 gs k.4,
    is ∙ ap (λ us. g ++ us) k.5 ∙ sym (append_assoc g k.0 (records_in k.2)),
    k.6,
    k.7,
    k.8,
  )
  either-before later g front more back tail gs is (inr k) = inr (groups-before g front more gs is k)

  -- a note, and then the cut in what is to come
  note-cut : (later : Later) (t : Told) (body front back tail : List Piece) → IsGroup sys a.o at.entry (t ∷ []) → front ++ back ≡ (Tell t ∷ body) ++ tail → AtPoint front back
      → ((more : List Piece) → more ++ back ≡ body ++ tail → AtPoint more back → GroupsOn later more back tail ⊎ GroupsCut more) → GroupsOn later front back tail ⊎ GroupsCut front
  unfolding records_in
  note-cut later t body [] back tail one e here go = inr none_yet
  note-cut later t body (p ∷ f) back tail one e here go =
      either-before later (t ∷ []) (p ∷ f) f back tail (one_group (t ∷ []) one) (ap (λ x. records_in (x ∷ f)) (first-same e)) (go f (rest-same e) (at-tail p f back here))

  blocks-cut : (bs : List Block) (ts : List Task) (c : Config) (body : List Piece) (end : Option Config) (front back tail : List Piece) → Does sys a at (spread bs ++ ts) c body end
      → (end ≡ None → tail ≡ []) → front ++ back ≡ body ++ tail → AtPoint front back → GroupsOn (λ d rest. Does sys a at ts d rest end) front back tail ⊎ GroupsCut front
  unfolding spread Does DoesTask Actions Groups records_in
  blocks-cut [] ts c body end front back tail h gone e here = inl ([], c, front, body, sequence-none (IsGroup sys a.o at.entry), refl, h, e, here)
  blocks-cut (Exits s ∷ bs) ts c body end front back tail h gone e here =
      note-cut (λ d rest. Does sys a at ts d rest end) (plain (item.Exit s)) h.0 front back tail (IsMove (item.Exit s) refl refl) (e ∙ ap (λ us. us ++ tail) h.1) here
      (λ more eq at_more. blocks-cut bs ts c h.0 end more back tail h.2 gone eq at_more)
  blocks-cut (Enters s ∷ bs) ts c body end front back tail h gone e here =
      note-cut (λ d rest. Does sys a at ts d rest end) (plain (item.Enter s)) h.0 front back tail (IsMove (item.Enter s) refl refl) (e ∙ ap (λ us. us ++ tail) h.1) here
      (λ more eq at_more. blocks-cut bs ts c h.0 end more back tail h.2 gone eq at_more)
  blocks-cut (Inits s ∷ bs) ts c body end front back tail h gone e here =
      note-cut (λ d rest. Does sys a at ts d rest end) (plain (item.Init s)) h.0 front back tail (IsMove (item.Init s) refl refl) (e ∙ ap (λ us. us ++ tail) h.1) here
      (λ more eq at_more. blocks-cut bs ts c h.0 end more back tail h.2 gone eq at_more)
  blocks-cut (Acts p ∷ bs) ts c body end front back tail h gone e here =
      either (λ d more rest k e here. blocks-cut bs ts d rest end more back tail k gone e here)
      (deed-cut c (λ d rest. Does sys a at (spread bs ++ ts) d rest end) (end ≡ None) (deed_of (names_of a c at.event) p) body front back tail h gone e here)
    where
      either : ((d : Config) (more rest : List Piece) → Does sys a at (spread bs ++ ts) d rest end → more ++ back ≡ rest ++ tail → AtPoint more back
          → GroupsOn (λ f rest. Does sys a at ts f rest end) more back tail ⊎ GroupsCut more)
          → ActionsOn c (λ d rest. Does sys a at (spread bs ++ ts) d rest end) front back tail ⊎ ActionsCut front
          → GroupsOn (λ d rest. Does sys a at ts d rest end) front back tail ⊎ GroupsCut front
      either later (inr k) = inr (subst (λ us. BreaksOff sys a.o at.entry true us) (sym k.4) (Plainly k.0 k.1 (actions-groups sys a.o at.entry k.0 k.2) k.3 refl))
      either later (inl k) =
          either-before (λ d rest. Does sys a at ts d rest end) k.0 front k.2 back tail (actions-groups sys a.o at.entry k.0 k.4) k.6 (later k.1 k.2 k.3 k.7 k.8 k.9)
  blocks-cut (Locks ceiling acts ∷ bs) ts c body end front back tail h gone e here =
      by_front (λ d more rest k eq at_more. blocks-cut bs ts d rest end more back tail k gone eq at_more) front (e ∙ ap (λ us. us ++ tail) h.1.1) here
    where
      inner : Does sys a at (map Do acts ++ (Restore ∷ (spread bs ++ ts))) (record c { former = h.0 }) h.1.0 end
      inner = subst (λ us. Does sys a at us (record c { former = h.0 }) h.1.0 end) (append_assoc (map Do acts) (Restore ∷ spread bs) ts) h.1.2

      raises : Told
      raises = raised (max h.0 ceiling) h.0

      -- cut under the ceiling
      under : (p : Piece) (f : List Piece) (g last : List Told) → Tell raises ≡ p → Actions sys a.o at.entry g → IsLast sys a.o at.entry true last → records_in f ≡ g ++ last → GroupsCut (p ∷ f)
      under p f g last same acts l is =
          UnderCeiling h.0 ceiling [] g last no_groups acts l (ap (λ x. records_in (x ∷ f)) (sym same) ∙ ap (λ us. raises ∷ us) is)

      behind : (p : Piece) (f : List Piece) → Tell raises ≡ p
          → ((d : Config) (more rest : List Piece) → Does sys a at (spread bs ++ ts) d rest end → more ++ back ≡ rest ++ tail → AtPoint more back
          → GroupsOn (λ f rest. Does sys a at ts f rest end) more back tail ⊎ GroupsCut more)
          → ActionsOn (record c { former = h.0 }) (λ d rest. Does sys a at (Restore ∷ (spread bs ++ ts)) d rest end) f back tail ⊎ ActionsCut f
          → GroupsOn (λ d rest. Does sys a at ts d rest end) (p ∷ f) back tail ⊎ GroupsCut (p ∷ f)
      behind p f same later (inr k) = inr (under p f k.0 k.1 same k.2 k.3 k.4)
      behind p f same later (inl k) = by_more k.2 k.6 (k.8 ∙ ap (λ us. us ++ tail) (k.7.1 ∙ ap (λ us. Tell (plain (item.Unlock k.1.former)) ∷ us) k.7.2.1)) k.9
        where
          locked : List Told
          locked = raises ∷ (k.0 ++ (plain (item.Unlock h.0) ∷ []))

          is_locked : IsGroup sys a.o at.entry locked
          is_locked = IsLocked h.0 ceiling k.0 k.4 refl

          by_more : (more : List Piece) → records_in f ≡ k.0 ++ records_in more → more ++ back ≡ Tell (plain (item.Unlock k.1.former)) ∷ Point ∷ (k.7.2.0 ++ tail) → AtPoint more back
              → GroupsOn (λ d rest. Does sys a at ts d rest end) (p ∷ f) back tail ⊎ GroupsCut (p ∷ f)
          by_more [] is e here = inr (under p f k.0 [] same k.4 (Stops refl refl) is)
          by_more (q ∷ m) is e here = by_rest m (rest-same e) (at-tail q m back here) whole
            where
              unlock : records_in (q ∷ m) ≡ plain (item.Unlock h.0) ∷ records_in m
              unlock = ap (λ x. records_in (x ∷ m)) (first-same e) ∙ ap (λ x. plain (item.Unlock x) ∷ records_in m) k.5

              whole : records_in (p ∷ f) ≡ locked ++ records_in m
              whole =
                  ap (λ x. records_in (x ∷ f)) (sym same) ∙ ap (λ us. raises ∷ us)
                  (is ∙ ap (λ us. k.0 ++ us) unlock ∙ sym (append_assoc k.0 (plain (item.Unlock h.0) ∷ []) (records_in m)))

              by_rest : (m : List Piece) → m ++ back ≡ Point ∷ (k.7.2.0 ++ tail) → AtPoint m back → records_in (p ∷ f) ≡ locked ++ records_in m
                  → GroupsOn (λ d rest. Does sys a at ts d rest end) (p ∷ f) back tail ⊎ GroupsCut (p ∷ f)
              by_rest [] e here whole = inr (subst (λ us. BreaksOff sys a.o at.entry true us) (sym whole) (Plainly locked [] (one_group locked is_locked) (Stops refl refl) refl))
              by_rest (r ∷ n) e here whole =
                  either-before (λ d rest. Does sys a at ts d rest end) locked (p ∷ f) n back tail (one_group locked is_locked)
                  (whole ∙ ap (λ x. locked ++ records_in (x ∷ n)) (first-same e))
                  (later k.1 n k.7.2.0 k.7.2.2 (rest-same e) (at-tail r n back here))

      by_front : ((d : Config) (more rest : List Piece) → Does sys a at (spread bs ++ ts) d rest end → more ++ back ≡ rest ++ tail → AtPoint more back
          → GroupsOn (λ f rest. Does sys a at ts f rest end) more back tail ⊎ GroupsCut more)
          → (front : List Piece) → front ++ back ≡ Tell raises ∷ (h.1.0 ++ tail) → AtPoint front back → GroupsOn (λ d rest. Does sys a at ts d rest end) front back tail ⊎ GroupsCut front
      by_front later [] e here = inr none_yet
      by_front later (p ∷ f) e here =
          behind p f (sym (first-same e)) later
          (plains-cut acts (Restore ∷ (spread bs ++ ts)) (record c { former = h.0 }) h.1.0 end f back tail inner gone (rest-same e) (at-tail p f back here))

module _ (sys : System) (a : Actor) where
  -- a step that is cut at a point has broken off, or it is whole
  pub step-cut : (e : Entry) (c : Config) (ps : List Piece) (end : Option Config) (p : Piece) (f back : List Piece) → Step sys a e c ps end
      → (p ∷ f) ++ back ≡ ps → AtPoint (p ∷ f) back → BrokenStep sys a.o (records_in (p ∷ f)) ⊎ (back ≡ [])
  unfolding Step StepBehind Closes Blocks Does DoesTask BrokenStep StepHead records_in ends_at_point
  step-cut e c ps end p f back h eq here = by_blocks (step-blocks a.chart c.leaf (names_of a c h.3) h.3.sig)
    where
      body : List Piece
      body = h.6.0

      rel : List Told
      rel = h.6.1

      mid : Option Config
      mid = h.6.2

      took : Told
      took = told_took h.0 h.1 h.2 e h.3

      split_took : p ∷ (f ++ back) ≡ Tell took ∷ (body ++ tell rel)
      split_took = eq ∙ h.5 ∙ ap (λ us. Tell took ∷ us) h.6.5

      gone : mid ≡ None → tell rel ≡ []
      gone is = ap tell (subst (λ m. Closes e m rel) is h.6.4)

      by_blocks : (head : Task) × (ts : List Task) × ((head ≡ Unhandled) ⊎ ((s k : ℕ) × (head ≡ Run s k))) × Blocks ts
          × ((step_plan a.chart c.leaf (names_of a c h.3) h.3.sig).tasks ≡ head ∷ (ts ++ (Done ∷ [])))
          → BrokenStep sys a.o (records_in (p ∷ f)) ⊎ (back ≡ [])
      by_blocks b = by_head b.2 (subst (λ us. Does sys a (moment h.3 e) us c body mid) b.4 h.6.3)
        where
          -- behind the handler's note
          after_head : (head : Body) → is_head head ≡ true → (rest : List Piece) → body ≡ Tell (plain head) ∷ rest
              → Does sys a (moment h.3 e) (b.1 ++ (Done ∷ [])) c rest mid → BrokenStep sys a.o (records_in (p ∷ f)) ⊎ (back ≡ [])
          after_head head is rest note does = by_front f (rest-same split_took ∙ ap (λ us. us ++ tell rel) note) here
            where
              starts : List Told
              starts = took ∷ plain head ∷ []

              heads : StepHead e starts
              heads = (h.0, h.1, h.2, OfEvent h.3, head, is, refl)

              at_took : (back : List Piece) → back ≡ Tell (plain head) ∷ (rest ++ tell rel) → AtPoint (p ∷ []) back → ⊥
              at_took back same (inl k) = let wrong : ends_at_point (Tell took ∷ []) ≡ true = subst (λ x. ends_at_point (x ∷ []) ≡ true) (first-same split_took) k in cc
              at_took back same (inr k) = let wrong : begins_at_point (Tell (plain head) ∷ (rest ++ tell rel)) ≡ true = subst (λ x. begins_at_point x ≡ true) same k in cc

              by_front : (f : List Piece) → f ++ back ≡ Tell (plain head) ∷ (rest ++ tell rel) → AtPoint (p ∷ f) back → BrokenStep sys a.o (records_in (p ∷ f)) ⊎ (back ≡ [])
              by_front [] eq here = absurd (at_took back eq here)
              by_front (q ∷ m) eq here =
                  either (blocks-cut sys a (moment h.3 e) b.3.0 (Done ∷ []) c rest mid m back (tell rel) (subst (λ us. Does sys a (moment h.3 e) (us ++ (Done ∷ [])) c rest mid) b.3.1 does) gone (rest-same eq) inner)
                where
                  inner : AtPoint m back
                  inner = at-tail q m back (at-tail p (q ∷ m) back here)

                  all : records_in (p ∷ q ∷ m) ≡ starts ++ records_in m
                  all = ap (λ x. records_in (x ∷ q ∷ m)) (first-same split_took) ∙ ap (λ x. took ∷ records_in (x ∷ m)) (first-same eq)

                  broke : BreaksOff sys a.o (Some e) true (records_in m) → BrokenStep sys a.o (records_in (p ∷ q ∷ m))
                  broke k = (e, starts, records_in m, heads, k, all)

                  either : GroupsOn sys a (moment h.3 e) (λ d more. Does sys a (moment h.3 e) (Done ∷ []) d more mid) m back (tell rel) ⊎ GroupsCut sys a (moment h.3 e) m
                      → BrokenStep sys a.o (records_in (p ∷ q ∷ m)) ⊎ (back ≡ [])
                  either (inr k) = inl (broke k)
                  either (inl k) = by_more k.2 k.5 (k.7 ∙ ap (λ us. us ++ tell rel) (k.6.1 ∙ ap (λ us. Tell (plain item.Done) ∷ us) k.6.2.0)) k.8
                    where
                      by_more : (more : List Piece) → records_in m ≡ k.0 ++ records_in more → more ++ back ≡ Tell (plain item.Done) ∷ tell rel → AtPoint more back
                          → BrokenStep sys a.o (records_in (p ∷ q ∷ m)) ⊎ (back ≡ [])
                      by_more [] is eq here = inl (broke (subst (λ us. BreaksOff sys a.o (Some e) true us) (sym is) (Plainly k.0 [] k.4 (Stops refl refl) refl)))
                      by_more (r ∷ n) is eq here = inr (by_back back eq here)
                        where
                          by_back : (back : List Piece) → (r ∷ n) ++ back ≡ Tell (plain item.Done) ∷ tell rel → AtPoint (r ∷ n) back → back ≡ []
                          by_back [] eq here = refl
                          by_back (x ∷ xs) eq here = let wrong : r ∷ n ≡ [] = tells-cut (plain item.Done ∷ rel) (r ∷ n) x xs (sym eq) here in absurd (cc)

          by_head : ((b.0 ≡ Unhandled) ⊎ ((s k : ℕ) × (b.0 ≡ Run s k))) → Does sys a (moment h.3 e) (b.0 ∷ (b.1 ++ (Done ∷ []))) c body mid → BrokenStep sys a.o (records_in (p ∷ f)) ⊎ (back ≡ [])
          by_head (inl is) does =
              let note = subst (λ x. Does sys a (moment h.3 e) (x ∷ (b.1 ++ (Done ∷ []))) c body mid) is does in
              after_head item.Unhandled refl note.0 note.1 note.2
          by_head (inr is) does =
              let note = subst (λ x. Does sys a (moment h.3 e) (x ∷ (b.1 ++ (Done ∷ []))) c body mid) is.2 does in
              after_head (item.Run is.0 is.1) refl note.0 note.1 note.2

  empty-front : {X : Type 0} (front back : List X) → front ++ back ≡ [] → front ≡ []
  empty-front [] back e = refl
  empty-front (x ∷ front) back e = absurd (cc)

  -- nothing follows a step that broke off
  nothing-after : (es : List Entry) (ps : List Piece) (end : Option Config) → Steps sys a es None ps end → ps ≡ []
  unfolding Steps
  nothing-after [] ps end k = k.0
  nothing-after (x ∷ xs) ps end k = absurd k

  -- one step that is whole, and nothing behind it
  one-step : (nils : Bool) (mid : Option Config) (one : List Told) → StepShape sys a.o mid one → Turned sys a nils one
  unfolding StepShape
  one-step nils (Some d) one h = subst (λ us. Turned sys a nils us) (append-nil one) (turn-more sys a nils one [] h (no-turns sys a nils))
  one-step nils None one h = subst (λ us. Turned sys a nils us) (append-nil one) (broken sys a nils one [] h refl)

  -- steps that stopped at a point
  pub steps-cut : (nils : Bool) (es : List Entry) (c : Option Config) (ps : List Piece) (end : Option Config) (front back : List Piece) → Steps sys a es c ps end
      → front ++ back ≡ ps → AtPoint front back → Turned sys a nils (records_in front)
  unfolding Steps StepShape records_in
  steps-cut nils [] c ps end front back h eq here =
      subst (λ us. Turned sys a nils (records_in us)) (sym (empty-front front back (eq ∙ h.0))) (no-turns sys a nils)
  steps-cut nils (e ∷ es) None ps end front back h eq here = absurd h
  steps-cut nils (e ∷ es) (Some c) ps end front back h eq here =
      either (λ m k at_m. steps-cut nils es h.2 h.1 end m back h.5 k at_m) (split front back h.0 h.1 (eq ∙ h.3))
    where
      inside : (front m : List Piece) → h.0 ≡ front ++ m → back ≡ m ++ h.1 → AtPoint front back → Turned sys a nils (records_in front)
      inside front [] is behind here =
          let same : h.0 ≡ front = is ∙ append-nil front in
          subst (λ us. Turned sys a nils (records_in us)) same (one-step nils h.2 (records_in h.0) (step-shape sys a e c h.0 h.2 h.4))
      inside [] (q ∷ m) is behind here = no-turns sys a nils
      inside (p ∷ f) (q ∷ m) is behind here =
          let at_m : AtPoint (p ∷ f) (q ∷ m) = at-head (p ∷ f) q (m ++ h.1) m (subst (λ us. AtPoint (p ∷ f) us) behind here) in
          by_step (step-cut e c h.0 h.2 p f (q ∷ m) h.4 (sym is) at_m)
        where
          by_step : BrokenStep sys a.o (records_in (p ∷ f)) ⊎ (q ∷ m ≡ []) → Turned sys a nils (records_in (p ∷ f))
          by_step (inl k) = one-step nils None (records_in (p ∷ f)) k
          by_step (inr k) = absurd (cc)

      outside : (mid : Option Config) → StepShape sys a.o mid (records_in h.0) → Steps sys a es mid h.1 end → (m : List Piece) → front ≡ h.0 ++ m → h.1 ≡ m ++ back
          → Turned sys a nils (records_in m) → Turned sys a nils (records_in front)
      outside (Some d) shape rest m is behind k =
          subst (λ us. Turned sys a nils us) (sym (ap records_in is ∙ bare-append h.0 m)) (turn-more sys a nils (records_in h.0) (records_in m) shape k)
      outside None shape rest m is behind k =
          let gone : m ≡ [] = empty-front m back (sym behind ∙ nothing-after es h.1 end rest) in
          subst (λ us. Turned sys a nils us) (sym (ap records_in is ∙ bare-append h.0 m)) (broken sys a nils (records_in h.0) (records_in m) shape (ap records_in gone))

      either : ((m : List Piece) → m ++ back ≡ h.1 → AtPoint m back → Turned sys a nils (records_in m))
          → ((m : List Piece) × (h.0 ≡ front ++ m) × (back ≡ m ++ h.1)) ⊎ ((m : List Piece) × (front ≡ h.0 ++ m) × (h.1 ≡ m ++ back)) → Turned sys a nils (records_in front)
      either later (inl k) = inside front k.0 k.1 k.2 here
      either later (inr k) =
          let at_m : AtPoint k.0 back = at-append h.0 k.0 back (subst (λ us. AtPoint us back) k.1 here) in
          outside h.2 (step-shape sys a e c h.0 h.2 h.4) h.5 k.0 k.1 k.2 (later k.0 (sym k.2) at_m)

  -- a course that stopped at a point: its object hasn't started, or its records have the shape of an object's that broke off
  pub course-cut : (nils : Bool) (first : Config) (es : List Entry) (ps : List Piece) (end : Option Config) (front back : List Piece) → Course sys a first es ps end
      → front ++ back ≡ ps → AtPoint front back → (records_in front ≡ []) ⊎ ObjectGroups sys a.o nils true (records_in front)
  unfolding Course StartShape ObjectGroups records_in Starts
  course-cut nils first es ps end front back h eq here = either (split front back h.0 h.1 (eq ∙ h.3))
    where
      whole : (mid : Option Config) → StartShape sys a.o mid (records_in h.0) → ObjectGroups sys a.o nils true (records_in h.0)
      whole (Some d) shape = subst (λ us. ObjectGroups sys a.o nils true us) (append-nil (records_in h.0)) (started sys a nils (records_in h.0) [] shape (no-turns sys a nils))
      whole None shape = inl (refl, shape)

      inside : (m : List Piece) → h.0 ≡ front ++ m → back ≡ m ++ h.1 → (records_in front ≡ []) ⊎ ObjectGroups sys a.o nils true (records_in front)
      inside [] is behind =
          let same : h.0 ≡ front = is ∙ append-nil front in
          inr (subst (λ us. ObjectGroups sys a.o nils true (records_in us)) same (whole h.2 (starts-shape sys a first h.0 h.2 h.4)))
      inside (q ∷ m) is behind =
          let at_m : AtPoint front (q ∷ m) = at-head front q (m ++ h.1) m (subst (λ us. AtPoint front us) behind here) in
          inl (ap records_in (tells-cut (records_in h.4.0) front q m (sym h.4.3 ∙ is) at_m))

      outside : (mid : Option Config) → StartShape sys a.o mid (records_in h.0) → Steps sys a es mid h.1 end → (m : List Piece) → front ≡ h.0 ++ m → h.1 ≡ m ++ back → AtPoint m back
          → ObjectGroups sys a.o nils true (records_in front)
      outside (Some d) shape rest m is behind at_m =
          subst (λ us. ObjectGroups sys a.o nils true us) (sym (ap records_in is ∙ bare-append h.0 m))
          (started sys a nils (records_in h.0) (records_in m) shape (steps-cut nils es (Some d) h.1 end m back rest (sym behind) at_m))
      outside None shape rest m is behind at_m =
          let gone : m ≡ [] = empty-front m back (sym behind ∙ nothing-after es h.1 end rest) in
          subst (λ us. ObjectGroups sys a.o nils true us) (sym (ap records_in is ∙ bare-append h.0 m ∙ ap (λ us. records_in h.0 ++ records_in us) gone ∙ append-nil (records_in h.0))) (inl (refl, shape))

      either : ((m : List Piece) × (h.0 ≡ front ++ m) × (back ≡ m ++ h.1)) ⊎ ((m : List Piece) × (front ≡ h.0 ++ m) × (h.1 ≡ m ++ back))
          → (records_in front ≡ []) ⊎ ObjectGroups sys a.o nils true (records_in front)
      either (inl k) = inside k.0 k.1 k.2
      either (inr k) = inr (outside h.2 (starts-shape sys a first h.0 h.2 h.4) h.5 k.0 k.1 k.2 (at-append h.0 k.0 back (subst (λ us. AtPoint us back) k.1 here)))

-- what follows its chart has the groups of an object, with the same cut
pub follows-groups : (sys : System) (d : ObjectDef) (nils : Bool) (cut : Cut) (ps : List Piece) → FollowsTo sys d cut ps → CutGroups sys d.priority nils cut (records_in ps)
unfolding FollowsTo Follows FollowsAs FollowsThrough FollowsThroughAs CutGroups
follows-groups sys d nils Whole ps h = by_chart (chart_at sys d.chart) h
  where
    by_chart : (o : Option Chart) → FollowsThroughAs sys d o ps → ObjectGroups sys d.priority nils false (records_in ps)
    by_chart None k = absurd k
    by_chart (Some chart) k = course-whole sys (actor d chart) nils false (first_config d) k.1 k.0 ps k.2
follows-groups sys d nils Stopped ps h = by_chart (chart_at sys d.chart) h.1
  where
    by_chart : (o : Option Chart) → FollowsAs sys d o (ps ++ h.0) → (records_in ps ≡ []) ⊎ ObjectGroups sys d.priority nils true (records_in ps)
    by_chart None k = absurd k
    by_chart (Some chart) k = course-cut sys (actor d chart) nils (first_config d) k.0 (ps ++ h.0) k.1 ps h.0 k.2 refl h.2
follows-groups sys d nils Anywhere ps h = (records_in h.0, inr (subst (λ us. ObjectGroups sys d.priority nils true us) (bare-append ps h.0) (by_chart (chart_at sys d.chart) h.1)))
  where
    by_chart : (o : Option Chart) → FollowsAs sys d o (ps ++ h.0) → ObjectGroups sys d.priority nils true (records_in (ps ++ h.0))
    by_chart None k = absurd k
    by_chart (Some chart) k = course-shape sys (actor d chart) nils (first_config d) k.0 (ps ++ h.0) k.1 k.2
