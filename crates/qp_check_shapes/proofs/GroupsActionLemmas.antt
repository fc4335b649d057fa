-- Actions and groups as parts that aren't empty, each way.
use Rattle.std.proofs.Common.{◌≡◌, ℕ, zero, suc, Bool, true, false, ◌⊎◌, inl, inr, List, [], ◌∷◌, ◌++◌, Some, None, refl, sym, ◌∙◌, ap, subst, append-nil}
use Rattle.std.specs.declared.option.Option.{Option}
use Rattle.qp_model.specs.declared.systems.System.{System}
use Rattle.qp_model.specs.declared.bodies.Entry.{Entry}
use Rattle.qp_model.specs.declared.bodies.Body.TheVariants as item
use Rattle.qp_model.specs.Told.{Told, plain}
use Rattle.qp_model.specs.Calls as call
use Rattle.qp_model.specs.Calls.{Call, Answer, Granted, Refused, Flushed, AtQueue, AtPool, AtTimer, AtTicks, AtFront, is_assertion}
use Rattle.qp_model.specs.Shapes.{Fits, FitsAny, PostsNew, Publishes, NoBlockFor, Flushes}
use Rattle.qp_model.specs.Sequence.{Sequence}
use Rattle.qp_model.specs.Groups.{IsAction, SaysValue, MakesCall, Actions, IsGroup, IsMove, IsAct, IsLocked, Groups, IsLast, BreaksOff, Plainly, UnderCeiling}
use Rattle.qp_check_shapes.specs.ShapeUnit as unit
use Rattle.qp_check_shapes.specs.ShapeAction.{IsWhole, OfUnit, OfPublication, IsCut}
use Rattle.qp_check_shapes.specs.GroupsRead.{IsElement, Notes, Acts, Locks, RaisesOnly, IsEnd, EndsPlainly, EndsUnder, Breaks}
use Rattle.qp_check_shapes.proofs.GroupsSequenceLemmas.{sequence-none, sequence-one, sequence-more, sequence-map}

-- as many flushed entries are as many parts
flush-wholes : (sys : System) (o : ℕ) (now : Option Entry) (n : ℕ) (g : List Told) → Flushes n g → Sequence (IsWhole sys o now) g
unfolding Flushes
flush-wholes sys o now zero g h = subst (Sequence (IsWhole sys o now)) (sym h) (sequence-none (IsWhole sys o now))
flush-wholes sys o now (suc n) g h =
    let one : IsWhole sys o now (plain (item.Flush h.0) ∷ h.1) = OfUnit (unit.FlushesOne (h.0, h.1, [], h.3, refl, ap (λ us. plain (item.Flush h.0) ∷ us) (sym (append-nil h.1)))) in
    subst (Sequence (IsWhole sys o now)) (sym h.5) (sequence-more (IsWhole sys o now) (plain (item.Flush h.0) ∷ h.1) h.2 one (flush-wholes sys o now n h.2 h.4))

-- a publication that isn't cut is whole, or is refused as a post is
pub publish-whole : (sys : System) (o : ℕ) (now : Option Entry) (sig : ℕ) (pars : List ℕ) (reserve : Option ℕ) (answer : Answer) (g : List Told)
    → FitsAny sys o now (call.Publish sig pars reserve) answer g → is_assertion answer ≡ false → IsWhole sys o now g
unfolding FitsAny Fits Publishes NoBlockFor PostsNew
publish-whole sys o now sig pars reserve Granted g h calm = OfPublication sig pars reserve h
publish-whole sys o now sig pars reserve Refused g h calm = OfUnit (unit.MakesCall (call.Post 0 sig pars None reserve) Refused refl (inl h) refl)
publish-whole sys o now sig pars None (Flushed n) g h calm = absurd h
publish-whole sys o now sig pars (Some r) (Flushed n) g h calm = absurd h
publish-whole sys o now sig pars reserve _ g h calm = absurd (cc)

-- a publication is whole, or it is cut
pub publish-either : (sys : System) (o : ℕ) (now : Option Entry) (sig : ℕ) (pars : List ℕ) (reserve : Option ℕ) (answer : Answer) (g : List Told)
    → FitsAny sys o now (call.Publish sig pars reserve) answer g → IsWhole sys o now g ⊎ IsCut sys o now g
publish-either sys o now sig pars reserve answer g h = by (is_assertion answer) refl
  where
    by : (b : Bool) → is_assertion answer ≡ b → IsWhole sys o now g ⊎ IsCut sys o now g
    by true is = inr (call.Publish sig pars reserve, answer, h, is)
    by false is = inl (publish-whole sys o now sig pars reserve answer g h is)

-- an action is any number of parts
pub action-wholes : (sys : System) (o : ℕ) (now : Option Entry) (g : List Told) → IsAction sys o now g → Sequence (IsWhole sys o now) g
unfolding FitsAny Fits
action-wholes sys o now g (SaysValue value is) = sequence-one (IsWhole sys o now) g (OfUnit (unit.SaysValue value is))
action-wholes sys o now g (MakesCall x answer h calm) = by x answer h calm
  where
    one : (x : Call) (answer : Answer) → unit.is_unit_call x ≡ true → FitsAny sys o now x answer g → is_assertion answer ≡ false → Sequence (IsWhole sys o now) g
    one x answer single h calm = sequence-one (IsWhole sys o now) g (OfUnit (unit.MakesCall x answer single h calm))

    by : (x : Call) (answer : Answer) → FitsAny sys o now x answer g → is_assertion answer ≡ false → Sequence (IsWhole sys o now) g
    by (call.Post to sig pars margin reserve) answer h calm = one (call.Post to sig pars margin reserve) answer refl h calm
    by (call.Lifo sig pars reserve) answer h calm = one (call.Lifo sig pars reserve) answer refl h calm
    by (call.Forward to margin) answer h calm = one (call.Forward to margin) answer refl h calm
    by (call.Publish sig pars reserve) answer h calm = sequence-one (IsWhole sys o now) g (publish-whole sys o now sig pars reserve answer g h calm)
    by call.Defer answer h calm = one call.Defer answer refl h calm
    by call.Recall answer h calm = one call.Recall answer refl h calm
    by call.Flush (Flushed n) h calm = flush-wholes sys o now n g h
    by call.Flush Granted h calm = absurd h
    by call.Flush Refused h calm = absurd h
    by call.Flush AtQueue h calm = absurd h
    by call.Flush AtPool h calm = absurd h
    by call.Flush AtTimer h calm = absurd h
    by call.Flush AtTicks h calm = absurd h
    by call.Flush AtFront h calm = absurd h
    by other answer h calm = one other answer refl h calm

pub whole-action : (sys : System) (o : ℕ) (now : Option Entry) (g : List Told) → IsWhole sys o now g → IsAction sys o now g
unfolding FitsAny Fits
whole-action sys o now g (OfUnit (unit.SaysValue value is)) = SaysValue value is
whole-action sys o now g (OfUnit (unit.MakesCall x answer single h calm)) = MakesCall x answer h calm
whole-action sys o now g (OfUnit (unit.FlushesOne h)) = MakesCall call.Flush (Flushed 1) h refl
whole-action sys o now g (OfPublication sig pars reserve h) = MakesCall (call.Publish sig pars reserve) Granted h refl

pub actions-wholes : (sys : System) (o : ℕ) (now : Option Entry) (g : List Told) → Actions sys o now g → Sequence (IsWhole sys o now) g
unfolding Actions
actions-wholes sys o now g s = sequence-map (IsAction sys o now) (IsWhole sys o now) (action-wholes sys o now) g s

pub wholes-actions : (sys : System) (o : ℕ) (now : Option Entry) (g : List Told) → Sequence (IsWhole sys o now) g → Actions sys o now g
unfolding Actions
wholes-actions sys o now g s =
    sequence-map (IsWhole sys o now) (IsAction sys o now) (λ g w. sequence-one (IsAction sys o now) g (whole-action sys o now g w)) g s

-- groups are elements, any number of them
group-elements : (sys : System) (o : ℕ) (now : Option Entry) (g : List Told) → IsGroup sys o now g → Sequence (IsElement (IsWhole sys o now)) g
group-elements sys o now g (IsMove b h is) = sequence-one (IsElement (IsWhole sys o now)) g (Notes b h is)
group-elements sys o now g (IsAct a) =
    sequence-map (IsWhole sys o now) (IsElement (IsWhole sys o now)) (λ g w. sequence-one (IsElement (IsWhole sys o now)) g (Acts w)) g (action-wholes sys o now g a)
group-elements sys o now g (IsLocked former ceiling inner s is) = sequence-one (IsElement (IsWhole sys o now)) g (Locks former ceiling inner (actions-wholes sys o now inner s) is)

element-group : (sys : System) (o : ℕ) (now : Option Entry) (g : List Told) → IsElement (IsWhole sys o now) g → IsGroup sys o now g
element-group sys o now g (Notes b h is) = IsMove b h is
element-group sys o now g (Acts w) = IsAct (whole-action sys o now g w)
element-group sys o now g (Locks former ceiling inner s is) = IsLocked former ceiling inner (wholes-actions sys o now inner s) is

pub groups-elements : (sys : System) (o : ℕ) (now : Option Entry) (g : List Told) → Groups sys o now g → Sequence (IsElement (IsWhole sys o now)) g
unfolding Groups
groups-elements sys o now g s = sequence-map (IsGroup sys o now) (IsElement (IsWhole sys o now)) (group-elements sys o now) g s

pub elements-groups : (sys : System) (o : ℕ) (now : Option Entry) (g : List Told) → Sequence (IsElement (IsWhole sys o now)) g → Groups sys o now g
unfolding Groups
elements-groups sys o now g s =
    sequence-map (IsElement (IsWhole sys o now)) (IsGroup sys o now) (λ g w. sequence-one (IsGroup sys o now) g (element-group sys o now g w)) g s

-- a break, each way
pub off-breaks : (sys : System) (o : ℕ) (now : Option Entry) (stops : Bool) (g : List Told) → BreaksOff sys o now stops g → Breaks (IsWhole sys o now) (IsLast sys o now stops) g
unfolding Breaks
off-breaks sys o now stops g (Plainly whole last s l is) = (whole, last, groups-elements sys o now whole s, EndsPlainly l, is)
off-breaks sys o now stops g (UnderCeiling former ceiling whole inner last s u l is) =
    (whole, _, groups-elements sys o now whole s, EndsUnder (RaisesOnly former ceiling inner last (actions-wholes sys o now inner u) l refl), is)

pub breaks-off : (sys : System) (o : ℕ) (now : Option Entry) (stops : Bool) (g : List Told) → Breaks (IsWhole sys o now) (IsLast sys o now stops) g → BreaksOff sys o now stops g
unfolding Breaks
breaks-off sys o now stops g b = by b.3 b.4
  where
    by : IsEnd (IsWhole sys o now) (IsLast sys o now stops) b.1 → g ≡ b.0 ++ b.1 → BreaksOff sys o now stops g
    by (EndsPlainly l) is = Plainly b.0 b.1 (elements-groups sys o now b.0 b.2) l is
    by (EndsUnder (RaisesOnly former ceiling inner last s l e)) is =
        UnderCeiling former ceiling b.0 inner last (elements-groups sys o now b.0 b.2) (wholes-actions sys o now inner s) l (is ∙ ap (λ us. b.0 ++ us) e)
