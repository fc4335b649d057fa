-- Nothing follows an assertion among the records of an object.
use Rattle.std.proofs.Common.{◌≡◌, ℕ, Bool, true, false, not, ◌&&◌, ◌||◌, List, [], ◌∷◌, ◌++◌, refl, sym, subst, inl, inr, ◌⊎◌, Option, Some, None, append-nil, ◌∙◌, ◌+◌, ◌≤◌, cond, length, arith}
use Rattle.std.specs.Bool.{MatchBool}
use Rattle.std.specs.List.{list_all, count_by}
use Rattle.std.proofs.lemmas.Bool.{and_parts}
use Rattle.std.proofs.lemmas.List.Sums.{sum_by-cons}
use Rattle.qp_model.specs.declared.systems.System.{System}
use Rattle.qp_model.specs.declared.systems.ObjectDef.{ObjectDef}
use Rattle.qp_model.specs.declared.bodies.Entry.{Entry}
use Rattle.qp_model.specs.declared.bodies.Body.{Body}
use Rattle.qp_model.specs.declared.bodies.Body.TheVariants as item
use Rattle.qp_model.specs.Told.{Told, plain, raised}
use Rattle.qp_model.specs.Calls as call
use Rattle.qp_model.specs.Calls.{Answer, is_assertion}
use Rattle.qp_model.specs.Shapes.{Drops}
use Rattle.qp_model.specs.Pieces.{Piece, records_in}
use Rattle.qp_model.specs.Course.{Cut, Whole, Stopped, Anywhere, FollowsTo}
use Rattle.qp_model.specs.Sequence.{joined, EachPart, Sequence}
use Rattle.qp_model.specs.Groups.{IsAction, SaysValue, MakesCall, Actions, IsGroup, IsMove, IsAct, IsLocked, is_move, Groups, IsLast, Asserts, Stops, StopsInPublication, BreaksOff, Plainly, UnderCeiling}
use Rattle.qp_model.specs.ObjectShape.{StartGroup, BrokenStart, StepHead, is_head, StepGroup, BrokenStep, IsTurn, Dispatches, FindsEmpty, LooksOnly, IsTail, Ends, OutOfBudget, BreaksStep, ObjectGroups, CutGroups, nothing_after, asserts_last, asserts_none, HasShape}
use Rattle.qp_model.proofs.FitsLemmas.{is_calm, is_deferral, Usual, usual, Ending, Answers, any-usual, calm-drops, all-append}
use Rattle.qp_model.proofs.CutLemmas.{follows-groups}
use Rattle.qp_model.specs.Record.{Item}
use Rattle.qp_model.specs.Ends.{is_assert, ends_last, is_end, is_spent, is_spill}

-- none of the records is an assertion
abbrev pub Quiet : List Told → Type 0
Quiet g = asserts_none g ≡ true

-- an assertion can only be the last
abbrev pub Last : List Told → Type 0
Last g = asserts_last g ≡ true

pub quiet-append : (g h : List Told) → Quiet g → Quiet h → Quiet (g ++ h)
quiet-append g h a b = all-append (λ t. not (is_assert t.body)) g h a b

-- usual records are no assertions
quiet-usual : (g : List Told) → Usual g → Quiet g
unfolding is_calm is_deferral
quiet-usual [] h = refl
quiet-usual (t ∷ g) h = by t.body h (quiet-usual g)
  where
    by : (b : Body) → ((is_calm b || is_deferral b) && list_all (λ t. is_calm t.body || is_deferral t.body) g) ≡ true
        → (list_all (λ t. is_calm t.body || is_deferral t.body) g ≡ true → list_all (λ t. not (is_assert t.body)) g ≡ true)
        → (not (is_assert b) && list_all (λ t. not (is_assert t.body)) g) ≡ true
    by (item.NoEntry a f l m) h go = absurd (cc)
    by (item.NoBlock p n free) h go = absurd (cc)
    by (item.Armed t n c) h go = absurd (cc)
    by (item.BadTicks t ticks interval) h go = absurd (cc)
    by (item.NoLifo a f l m) h go = absurd (cc)
    by (item.New p n b from sig pars) h go = go h
    by (item.Short p n free reserve) h go = go h
    by (item.Inc p b r) h go = go h
    by (item.Dec p b d k) h go = go h
    by (item.Back p n b to) h go = go h
    by (item.Post a f l m e) h go = go h
    by (item.Lifo f l m e) h go = go h
    by (item.Full a f l m margin) h go = go h
    by (item.Pub sig n set) h go = go h
    by (item.Lock c) h go = go h
    by (item.Unlock c) h go = go h
    by (item.Sub sig n) h go = go h
    by (item.Unsub sig n) h go = go h
    by (item.Same sig n) h go = go h
    by (item.Arm t n ticks interval) h go = go h
    by (item.Disarm t n former) h go = go h
    by (item.Rearm t n former ticks) h go = go h
    by (item.Idle t n) h go = go h
    by (item.Defer e) h go = go h
    by item.NoDefer h go = go h
    by (item.Recall e) h go = go h
    by item.NoRecall h go = go h
    by (item.Flush e) h go = go h
    by b h go = absurd (cc)

-- quiet records change nothing in front
last-quiet : (g h : List Told) → Quiet g → Last h → Last (g ++ h)
unfolding asserts_last
last-quiet [] h a k = k
last-quiet (t ∷ g) h a k = by (is_assert t.body) a (last-quiet g h)
  where
    open_end : (ts : List Told) → nothing_after false ts ≡ true
    open_end [] = refl
    open_end (x ∷ ts) = refl

    by : (b : Bool) → (not b && list_all (λ t. not (is_assert t.body)) g) ≡ true → (Quiet g → Last h → Last (g ++ h)) → (nothing_after b (g ++ h) && asserts_last (g ++ h)) ≡ true
    by true a go = absurd (cc)
    by false a go = rw (open_end (g ++ h)) (go a k)

-- a front of such records is such
last-front : (g h : List Told) → Last (g ++ h) → Last g
unfolding asserts_last
last-front [] h k = refl
last-front (t ∷ g) h k = by (is_assert t.body) g k (last-front g h)
  where
    by : (b : Bool) (g : List Told) → (nothing_after b (g ++ h) && asserts_last (g ++ h)) ≡ true → (Last (g ++ h) → Last g) → (nothing_after b g && asserts_last g) ≡ true
    by b [] k go = refl
    by true (x ∷ g) k go = absurd (cc)
    by false (x ∷ g) k go = go k

nil_last : Last []
unfolding asserts_last
nil_last = refl

-- a call's records
answers-quiet : (answer : Answer) (g : List Told) → is_assertion answer ≡ false → Answers Usual answer g → Quiet g
unfolding Answers
answers-quiet answer g is h = quiet-usual g (subst (λ b. MatchBool b (Ending Usual answer g) (Usual g)) is h)

ending-last : (answer : Answer) (g : List Told) → Ending Usual answer g → Last g
unfolding Ending asserts_last
ending-last answer g h = subst (λ us. Last us) (sym h.4) (last-quiet h.0 (h.1 ∷ []) (quiet-usual h.0 h.2) (alone (is_assert h.1.body)))
  where
    alone : (b : Bool) → (nothing_after b [] && true) ≡ true
    alone b = refl

answers-last : (answer : Answer) (g : List Told) → Answers Usual answer g → Last g
unfolding Answers
answers-last answer g h = by (is_assertion answer) h
  where
    by : (b : Bool) → MatchBool b (Ending Usual answer g) (Usual g) → Last g
    by true h = ending-last answer g h
    by false h = subst (λ us. Last us) (append-nil g) (last-quiet g [] (quiet-usual g h) nil_last)

quiet-parts : (P : List Told → Type 0) → ((g : List Told) → P g → Quiet g) → (gs : List (List Told)) → EachPart P gs → Quiet (joined gs)
unfolding EachPart joined
quiet-parts P each [] h = refl
quiet-parts P each (g ∷ gs) h = quiet-append g (joined gs) (each g h.0) (quiet-parts P each gs h.1)

quiet-sequence : (P : List Told → Type 0) → ((g : List Told) → P g → Quiet g) → (g : List Told) → Sequence P g → Quiet g
unfolding Sequence
quiet-sequence P each g h = subst (λ us. Quiet us) (sym h.2) (quiet-parts P each h.0 h.1)

module _ (sys : System) (o : ℕ) (now : Option Entry) where
  action-quiet : (g : List Told) → IsAction sys o now g → Quiet g
  action-quiet g (SaysValue value is) = rw is refl
  action-quiet g (MakesCall x answer fits is) = answers-quiet answer g is (any-usual sys o now x answer g fits)

  actions-quiet : (g : List Told) → Actions sys o now g → Quiet g
  unfolding Actions
  actions-quiet g h = quiet-sequence (IsAction sys o now) action-quiet g h

  group-quiet : (g : List Told) → IsGroup sys o now g → Quiet g
  group-quiet g (IsMove b move is) = subst (λ us. Quiet us) (sym is) (by b move)
    where
      by : (b : Body) → is_move b ≡ true → Quiet (plain b ∷ [])
      by (item.Exit s) h = refl
      by (item.Enter s) h = refl
      by (item.Init s) h = refl
      by b h = absurd (cc)
  group-quiet g (IsAct h) = action-quiet g h
  group-quiet g (IsLocked former ceiling inner acts is) =
      subst (λ us. Quiet us) (sym is) (quiet-append inner (plain (item.Unlock former) ∷ []) (actions-quiet inner acts) refl)

  groups-quiet : (g : List Told) → Groups sys o now g → Quiet g
  unfolding Groups
  groups-quiet g h = quiet-sequence (IsGroup sys o now) group-quiet g h

  last-last : (stops : Bool) (g : List Told) → IsLast sys o now stops g → Last g
  last-last stops g (Asserts x answer fits is) = answers-last answer g (any-usual sys o now x answer g fits)
  last-last stops g (Stops on is) = subst (λ us. Last us) (sym is) nil_last
  last-last stops g (StopsInPublication sig pars reserve answer back on fits post) =
      last-front g back (answers-last answer (g ++ back) (any-usual sys o now (call.Publish sig pars reserve) answer (g ++ back) fits))

  breaks-last : (stops : Bool) (g : List Told) → BreaksOff sys o now stops g → Last g
  breaks-last stops g (Plainly whole last gs l is) = subst (λ us. Last us) (sym is) (last-quiet whole last (groups-quiet whole gs) (last-last stops last l))
  breaks-last stops g (UnderCeiling former ceiling whole inner last gs acts l is) =
      subst (λ us. Last us) (sym is)
      (last-quiet whole (raised _ former ∷ (inner ++ last)) (groups-quiet whole gs)
      (last-quiet (raised _ former ∷ inner) last (actions-quiet inner acts) (last-last stops last l)))

module _ (sys : System) (o : ℕ) where
  drops-quiet : (e : Entry) (rel : List Told) → Drops e rel → Quiet rel
  drops-quiet e rel h = quiet-usual rel (usual rel (calm-drops e rel h))

  head-quiet : (e : Entry) (g : List Told) → StepHead e g → Quiet g
  unfolding StepHead
  head-quiet e g h = subst (λ us. Quiet us) (sym h.6) (by h.4 h.5)
    where
      by : (b : Body) → is_head b ≡ true → (not (is_assert b) && true) ≡ true
      by (item.Run s k) is = refl
      by item.Unhandled is = refl
      by b is = absurd (cc)

  step-quiet : (g : List Told) → StepGroup sys o g → Quiet g
  unfolding StepGroup
  step-quiet g h =
      subst (λ us. Quiet us) (sym h.7)
      (quiet-append h.1 (h.2 ++ (plain item.Done ∷ h.3)) (head-quiet h.0 h.1 h.4)
      (quiet-append h.2 (plain item.Done ∷ h.3) (groups-quiet sys o (Some h.0) h.2 h.5) (drops-quiet h.0 h.3 h.6)))

  turn-quiet : (nils : Bool) (g : List Told) → IsTurn sys o nils g → Quiet g
  turn-quiet nils g (Dispatches h) = step-quiet g h
  turn-quiet nils g (FindsEmpty f l m on is) = rw is refl
  turn-quiet nils g (LooksOnly p f l m on is) = rw is refl

  pub start-quiet : (g : List Told) → StartGroup sys o g → Quiet g
  unfolding StartGroup
  start-quiet g h = subst (λ us. Quiet us) (sym h.2) (quiet-append h.0 (plain item.Done ∷ []) (groups-quiet sys o None h.0 h.1) refl)

  pub turns-quiet : (nils : Bool) (g : List Told) → Sequence (IsTurn sys o nils) g → Quiet g
  turns-quiet nils g h = quiet-sequence (IsTurn sys o nils) (turn-quiet nils) g h

  tail-last : (cuts : Bool) (g : List Told) → IsTail sys o cuts g → Last g
  unfolding BrokenStep asserts_last
  tail-last cuts g (Ends is) = subst (λ us. Last us) (sym is) refl
  tail-last cuts g (OutOfBudget is) = subst (λ us. Last us) (sym is) refl
  tail-last cuts g (BreaksStep on h) =
      subst (λ us. Last us) (sym h.5) (last-quiet h.1 h.2 (head-quiet h.0 h.1 h.3) (breaks-last sys o (Some h.0) true h.2 h.4))

  -- nothing follows an assertion
  pub groups-last : (nils cuts : Bool) (bs : List Told) → ObjectGroups sys o nils cuts bs → Last bs
  unfolding ObjectGroups BrokenStart StartGroup asserts_last
  groups-last nils cuts bs (inl k) =
      let h = k.1 in
      subst (λ us. Last us) (sym h.2) (last-quiet (plain item.Begin ∷ []) h.0 refl (breaks-last sys o None false h.0 h.1))
  groups-last nils cuts bs (inr h) =
      subst (λ us. Last us) (sym h.6)
      (last-quiet h.0 (h.1 ++ h.2) (start-quiet h.0 h.3) (last-quiet h.1 h.2 (turns-quiet nils h.1 h.4) (tail-last cuts h.2 h.5)))

  pub cut-last : (nils : Bool) (cut : Cut) (bs : List Told) → CutGroups sys o nils cut bs → Last bs
  unfolding CutGroups asserts_last
  cut-last nils Whole bs h = groups-last nils false bs h
  cut-last nils Stopped bs (inl h) = subst (λ us. Last us) (sym h) refl
  cut-last nils Stopped bs (inr h) = groups-last nils true bs h
  cut-last nils Anywhere bs h = last-front bs h.0 (by h.1)
    where
      by : ((bs ++ h.0 ≡ []) ⊎ ObjectGroups sys o nils true (bs ++ h.0)) → Last (bs ++ h.0)
      by (inl is) = subst (λ us. Last us) (sym is) refl
      by (inr k) = groups-last nils true (bs ++ h.0) k

  -- groups make the shape
  pub shape-groups : (nils : Bool) (cut : Cut) (bs : List Told) → CutGroups sys o nils cut bs → HasShape sys o nils cut bs
  shape-groups nils cut bs h = record { groups = h; last = cut-last nils cut bs h }

-- what follows its chart has the shape of an object's records, with the same cut
pub follows-shape : (sys : System) (d : ObjectDef) (nils : Bool) (cut : Cut) (ps : List Piece) → FollowsTo sys d cut ps → HasShape sys d.priority nils cut (records_in ps)
follows-shape sys d nils cut ps h = shape-groups sys d.priority nils cut (records_in ps) (follows-groups sys d nils cut ps h)

-- at most one `spill` stands in a lane
pub no-spill : (x y z : Bool) → not (x || y || z) ≡ true → z ≡ false
no-spill true y z h = absurd (cc)
no-spill false true z h = absurd (cc)
no-spill false false true h = absurd (cc)
no-spill false false false h = refl

pub lane-long : (lane : List Item) → ends_last lane ≡ true → length lane ≤ count_by (λ i. not (is_spill i.body)) lane + 1
unfolding ends_last
lane-long [] last = omega arith
lane-long (i ∷ []) last = omega arith
lane-long (i ∷ j ∷ is) last =
    let parts = and_parts (not (is_end i.body)) (ends_last (j ∷ is)) last in
    let none : is_spill i.body ≡ false = no-spill (is_assert i.body) (is_spent i.body) (is_spill i.body) parts.0 in
    let remaining = lane-long (j ∷ is) parts.1 in
    let more : count_by (λ i. not (is_spill i.body)) (i ∷ j ∷ is) ≡ 1 + count_by (λ i. not (is_spill i.body)) (j ∷ is) =
    sum_by-cons (λ i. cond (not (is_spill i.body)) 1 0) i (j ∷ is) ∙ rw none refl in
    omega (arith, remaining, more)
