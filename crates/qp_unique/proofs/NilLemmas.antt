-- In the shape of an object without a thread of its own no queue is found empty.
use Rattle.std.proofs.Common.{◌≡◌, ℕ, Bool, true, false, not, ◌&&◌, ◌||◌, List, [], ◌∷◌, ◌++◌, refl, sym, subst, inl, inr, Some, None}
use Rattle.std.specs.Bool.{MatchBool}
use Rattle.std.specs.declared.option.Option.{Option}
use Rattle.std.specs.List.{list_all}
use Rattle.std.proofs.lemmas.Bool.{and_from, and_parts}
use Rattle.qp_model.specs.declared.systems.System.{System}
use Rattle.qp_model.specs.declared.bodies.Entry.{Entry}
use Rattle.qp_model.specs.declared.bodies.Body.{Body}
use Rattle.qp_model.specs.declared.bodies.Body.TheVariants as item
use Rattle.qp_model.specs.Told.{Told}
use Rattle.qp_model.specs.Ends.{is_nil}
use Rattle.qp_model.specs.Calls.{Answer, is_assertion}
use Rattle.qp_model.specs.Sequence.{Sequence, EachPart, joined}
use Rattle.qp_model.specs.Shapes.{Drops}
use Rattle.qp_model.specs.Groups.{is_move, IsAction, SaysValue, MakesCall, Actions, IsGroup, IsMove, IsAct, IsLocked, Groups, IsLast, Asserts, Stops, StopsInPublication, BreaksOff, Plainly, UnderCeiling}
use Rattle.qp_model.specs.ObjectShape.{StartGroup, BrokenStart, is_head, StepHead, StepGroup, BrokenStep, IsTurn, Dispatches, FindsEmpty, LooksOnly, IsTail, Ends, OutOfBudget, BreaksStep, ObjectGroups, CutGroups}
use Rattle.qp_model.specs.Course.{Cut, Whole, Stopped, Anywhere}
use Rattle.qp_model.proofs.FitsLemmas.{is_calm, is_deferral, Usual, usual, assertion_of, Ending, Answers, calm-drops, any-usual, all-append}

-- no record of these finds the queue empty
abbrev pub Nilless : List Told → Type 0
Nilless g = list_all (λ t. not (is_nil t.body)) g ≡ true

nilless-append : (g h : List Told) → Nilless g → Nilless h → Nilless (g ++ h)
nilless-append g h a b = all-append (λ t. not (is_nil t.body)) g h a b

pub nilless-front : (g h : List Told) → Nilless (g ++ h) → Nilless g
nilless-front [] h a = refl
nilless-front (t ∷ g) h a = by (not (is_nil t.body)) a (λ b. nilless-front g h b)
  where
    by : (b : Bool) → (b && list_all (λ t. not (is_nil t.body)) (g ++ h)) ≡ true → (Nilless (g ++ h) → Nilless g) → (b && list_all (λ t. not (is_nil t.body)) g) ≡ true
    by true a later = later a
    by false a later = absurd (cc)

nilless-same : {g h : List Told} → g ≡ h → Nilless h → Nilless g
nilless-same {g} {h} e k = subst Nilless (sym e) k

calm-not : (b : Body) → (is_calm b || is_deferral b) ≡ true → not (is_nil b) ≡ true
unfolding is_calm is_deferral
calm-not (item.Nil f l m) h = absurd (cc)
calm-not b h = refl

pub usual-nilless : (g : List Told) → Usual g → Nilless g
usual-nilless [] h = refl
usual-nilless (t ∷ g) h =
    let parts = and_parts (is_calm t.body || is_deferral t.body) _ h in and_from (not (is_nil t.body)) _ (calm-not t.body parts.0) (usual-nilless g parts.1)

assert-not : (b : Body) (answer : Answer) → assertion_of b ≡ Some answer → not (is_nil b) ≡ true
assert-not (item.Nil f l m) answer h = absurd (cc)
assert-not b answer h = refl

answers-nilless : (answer : Answer) (g : List Told) → Answers Usual answer g → Nilless g
unfolding Answers Ending
answers-nilless answer g h = by (is_assertion answer) h
  where
    by : (b : Bool) → MatchBool b (Ending Usual answer g) (Usual g) → Nilless g
    by true k = nilless-same k.4 (nilless-append k.0 (k.1 ∷ []) (usual-nilless k.0 k.2) (and_from (not (is_nil k.1.body)) true (assert-not k.1.body answer k.3) refl))
    by false k = usual-nilless g k

drops-nilless : (e : Entry) (g : List Told) → Drops e g → Nilless g
drops-nilless e g h = usual-nilless g (usual g (calm-drops e g h))

-- parts of such records
parts-nilless : (P : List Told → Type 0) → ((g : List Told) → P g → Nilless g) → (parts : List (List Told)) → EachPart P parts → Nilless (joined parts)
unfolding EachPart joined
parts-nilless P each [] h = refl
parts-nilless P each (p ∷ parts) h = nilless-append p (joined parts) (each p h.0) (parts-nilless P each parts h.1)

sequence-nilless : (P : List Told → Type 0) → ((g : List Told) → P g → Nilless g) → (g : List Told) → Sequence P g → Nilless g
unfolding Sequence
sequence-nilless P each g (parts, all, is) = nilless-same is (parts-nilless P each parts all)

move-not : (b : Body) → is_move b ≡ true → not (is_nil b) ≡ true
move-not (item.Nil f l m) h = absurd (cc)
move-not b h = refl

module _ (sys : System) (o : ℕ) (now : Option Entry) where
  action-nilless : (g : List Told) → IsAction sys o now g → Nilless g
  action-nilless g (SaysValue value is) = nilless-same is refl
  action-nilless g (MakesCall x answer fits not_assertion) = answers-nilless answer g (any-usual sys o now x answer g fits)

  actions-nilless : (g : List Told) → Actions sys o now g → Nilless g
  unfolding Actions
  actions-nilless g h = sequence-nilless (IsAction sys o now) action-nilless g h

  group-nilless : (g : List Told) → IsGroup sys o now g → Nilless g
  group-nilless g (IsMove b move is) = nilless-same is (and_from (not (is_nil b)) true (move-not b move) refl)
  group-nilless g (IsAct act) = action-nilless g act
  group-nilless g (IsLocked former ceiling inner acts is) = nilless-same is (nilless-append inner _ (actions-nilless inner acts) refl)

  groups-nilless : (g : List Told) → Groups sys o now g → Nilless g
  unfolding Groups
  groups-nilless g h = sequence-nilless (IsGroup sys o now) group-nilless g h

  last-nilless : (stops : Bool) (g : List Told) → IsLast sys o now stops g → Nilless g
  last-nilless stops g (Asserts x answer fits asserted) = answers-nilless answer g (any-usual sys o now x answer g fits)
  last-nilless stops g (Stops may is) = nilless-same is refl
  last-nilless stops g (StopsInPublication sig pars reserve answer back may fits post) = nilless-front g back (answers-nilless answer (g ++ back) (any-usual sys o now _ answer (g ++ back) fits))

  breaks-nilless : (stops : Bool) (g : List Told) → BreaksOff sys o now stops g → Nilless g
  breaks-nilless stops g (Plainly whole last groups ends is) = nilless-same is (nilless-append whole last (groups-nilless whole groups) (last-nilless stops last ends))
  breaks-nilless stops g (UnderCeiling former ceiling whole inner last groups acts ends is) =
      nilless-same is (nilless-append whole _ (groups-nilless whole groups) (nilless-append inner last (actions-nilless inner acts) (last-nilless stops last ends)))

head-not : (b : Body) → is_head b ≡ true → not (is_nil b) ≡ true
head-not (item.Nil f l m) h = absurd (cc)
head-not b h = refl

module _ (sys : System) (o : ℕ) where
  step-head : (e : Entry) (g : List Told) → StepHead e g → Nilless g
  unfolding StepHead
  step-head e g (f, l, m, known, head, is_it, is) = nilless-same is (and_from (not (is_nil head)) true (head-not head is_it) refl)

  turn-nilless : (g : List Told) → IsTurn sys o false g → Nilless g
  unfolding StepGroup
  turn-nilless g (Dispatches (e, head, body, rel, heads, groups, drops, is)) =
      nilless-same is (nilless-append head _ (step-head e head heads) (nilless-append body _ (groups-nilless sys o (Some e) body groups) (drops-nilless e rel drops)))
  turn-nilless g (FindsEmpty f l m nils is) = absurd (cc)
  turn-nilless g (LooksOnly p f l m nils is) = absurd (cc)

  tail-nilless : (cuts : Bool) (g : List Told) → IsTail sys o cuts g → Nilless g
  unfolding BrokenStep
  tail-nilless cuts g (Ends is) = nilless-same is refl
  tail-nilless cuts g (OutOfBudget is) = nilless-same is refl
  tail-nilless cuts g (BreaksStep may (e, head, body, heads, breaks, is)) =
      nilless-same is (nilless-append head body (step-head e head heads) (breaks-nilless sys o (Some e) true body breaks))

  object-nilless : (cuts : Bool) (g : List Told) → ObjectGroups sys o false cuts g → Nilless g
  unfolding ObjectGroups BrokenStart StartGroup
  object-nilless cuts g (inl (may, (body, breaks, is))) = nilless-same is (breaks-nilless sys o None false body breaks)
  object-nilless cuts g (inr (start, turns, tail, (body, groups, begins), all, ends, is)) =
      nilless-same is
      (nilless-append start _ (nilless-same begins (nilless-append body _ (groups-nilless sys o None body groups) refl))
      (nilless-append turns tail (sequence-nilless (IsTurn sys o false) turn-nilless turns all) (tail-nilless cuts tail ends)))

  pub cut-nilless : (cut : Cut) (g : List Told) → CutGroups sys o false cut g → Nilless g
  unfolding CutGroups
  cut-nilless Whole g h = object-nilless false g h
  cut-nilless Stopped g (inl none) = nilless-same none refl
  cut-nilless Stopped g (inr h) = object-nilless true g h
  cut-nilless Anywhere g (back, inl none) = nilless-front g back (nilless-same none refl)
  cut-nilless Anywhere g (back, inr h) = nilless-front g back (object-nilless true (g ++ back) h)
