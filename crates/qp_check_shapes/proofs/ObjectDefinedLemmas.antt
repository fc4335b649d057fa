-- An object's records as they are read, and as they are defined.
use Rattle.std.proofs.Common.{◌≡◌, ℕ, Bool, true, false, inl, inr, List, [], ◌∷◌, ◌++◌, Some, None, refl, sym, ◌∙◌, ap, append_assoc}
use Rattle.std.proofs.lemmas.Bool.{false≢true}
use Rattle.qp_model.specs.declared.systems.System.{System}
use Rattle.qp_model.specs.declared.bodies.Body.{Body}
use Rattle.qp_model.specs.declared.bodies.Body.TheVariants as item
use Rattle.qp_model.specs.Told.{Told, plain}
use Rattle.qp_model.specs.Shapes.{Drops}
use Rattle.qp_model.specs.Groups.{IsLast}
use Rattle.qp_model.specs.ObjectShape.{StartGroup, BrokenStart, StepGroup, BrokenStep, IsTurn, Dispatches, FindsEmpty, LooksOnly, IsTail, Ends, OutOfBudget, BreaksStep, ObjectGroups}
use Rattle.qp_check_shapes.specs.ShapeAction.{IsWhole}
use Rattle.qp_check_shapes.specs.ObjectRead.{Kinds, GroupsThenDone, looks_at_queue, IsTurnOf, Steps, Finds, IsTailOf, EndsHere, IsSpent, BreaksOffIn, TakesOnly, ReleasesOnly, TurnsOf, IsObjectList, Starts, BreaksStart}
use Rattle.qp_check_shapes.proofs.GroupsSequenceLemmas.{sequence-one, sequence-map}
use Rattle.qp_check_shapes.proofs.GroupsActionLemmas.{groups-elements, elements-groups, off-breaks, breaks-off}

-- the lists that are whole or stop
abbrev pub kinds_of : System → ℕ → Bool → Kinds
kinds_of sys o cuts = record { act = IsWhole sys o; last = λ now. IsLast sys o now cuts; first = IsLast sys o None false; release = Drops; cuts = cuts; anywhere = false }

-- a turn, each way
pub turn-of : (sys : System) (o : ℕ) (nils : Bool) (g : List Told) → IsTurn sys o nils g → IsTurnOf (IsWhole sys o) Drops nils g
unfolding StepGroup GroupsThenDone
turn-of sys o nils g (Dispatches s) = Steps s.0 s.1 (s.2 ++ (plain item.Done ∷ s.3)) s.4 (s.2, s.3, groups-elements sys o (Some s.0) s.2 s.5, s.6, refl) s.7
turn-of sys o nils g (FindsEmpty a b c h is) = Finds (item.Nil a b c) refl h is
turn-of sys o nils g (LooksOnly p a b c h is) = Finds (item.Seen p a b c) refl h is

pub of-turn : (sys : System) (o : ℕ) (nils : Bool) (g : List Told) → IsTurnOf (IsWhole sys o) Drops nils g → IsTurn sys o nils g
unfolding StepGroup GroupsThenDone
of-turn sys o nils g (Steps e head body h c is) =
    Dispatches (e, head, c.0, c.1, h, elements-groups sys o (Some e) c.0 c.2, c.3, is ∙ ap (λ us. head ++ us) c.4)
of-turn sys o nils g (Finds b look h is) = by b look is
  where
    by : (b : Body) → looks_at_queue b ≡ true → g ≡ plain b ∷ [] → IsTurn sys o nils g
    by (item.Nil f l m) look is = FindsEmpty f l m h is
    by (item.Seen p f l m) look is = LooksOnly p f l m h is
    by b look is = absurd (false≢true look)

pub tail-of : (sys : System) (o : ℕ) (cuts : Bool) (g : List Told) → IsTail sys o cuts g → IsTailOf (kinds_of sys o cuts) g
unfolding BrokenStep
tail-of sys o cuts g (Ends is) = EndsHere is
tail-of sys o cuts g (OutOfBudget is) = IsSpent is
tail-of sys o true g (BreaksStep on s) = BreaksOffIn s.0 s.1 s.2 refl s.3 (off-breaks sys o (Some s.0) true s.2 s.4) s.5
tail-of sys o false g (BreaksStep on s) = absurd (cc)

pub of-tail : (sys : System) (o : ℕ) (cuts : Bool) (g : List Told) → IsTailOf (kinds_of sys o cuts) g → IsTail sys o cuts g
unfolding BrokenStep
of-tail sys o cuts g (EndsHere is) = Ends is
of-tail sys o cuts g (IsSpent is) = OutOfBudget is
of-tail sys o true g (BreaksOffIn e head body on h b is) = BreaksStep refl (e, head, body, h, breaks-off sys o (Some e) true body b, is)
of-tail sys o false g (BreaksOffIn e head body on h b is) = absurd (cc)
of-tail sys o cuts g (TakesOnly f l m e known any is) = absurd (cc)
of-tail sys o cuts g (ReleasesOnly e head body any h c is) = absurd (cc)

-- the whole list, each way
pub object-of : (sys : System) (o : ℕ) (nils cuts : Bool) (bs : List Told) → ObjectGroups sys o nils cuts bs → IsObjectList (kinds_of sys o cuts) nils bs
unfolding ObjectGroups BrokenStart StartGroup GroupsThenDone TurnsOf
object-of sys o nils cuts bs (inl s) = BreaksStart s.1.0 s.0 (off-breaks sys o None false s.1.0 s.1.1) s.1.2
object-of sys o nils cuts bs (inr s) =
    let more : List Told = s.1 ++ s.2 in
    let turns = sequence-map (IsTurn sys o nils) (IsTurnOf (IsWhole sys o) Drops nils) (λ g t. sequence-one (IsTurnOf (IsWhole sys o) Drops nils) g (turn-of sys o nils g t)) s.1 s.4 in
    Starts (s.3.0 ++ (plain item.Done ∷ more)) (s.3.0, more, groups-elements sys o None s.3.0 s.3.1, (s.1, s.2, turns, tail-of sys o cuts s.2 s.5, refl), refl)
    (s.6 ∙ ap (λ us. us ++ more) s.3.2 ∙ ap (λ us. plain item.Begin ∷ us) (append_assoc s.3.0 (plain item.Done ∷ []) more))

pub of-object : (sys : System) (o : ℕ) (nils cuts : Bool) (bs : List Told) → IsObjectList (kinds_of sys o cuts) nils bs → ObjectGroups sys o nils cuts bs
unfolding ObjectGroups BrokenStart StartGroup GroupsThenDone TurnsOf
of-object sys o nils cuts bs (BreaksStart body on b is) = inl (on, (body, breaks-off sys o None false body b, is))
of-object sys o nils cuts bs (Starts body c is) =
    let turns =
    sequence-map (IsTurnOf (IsWhole sys o) Drops nils) (IsTurn sys o nils) (λ g t. sequence-one (IsTurn sys o nils) g (of-turn sys o nils g t)) c.3.0 c.3.2 in
    inr (
      plain item.Begin ∷ (c.0 ++ (plain item.Done ∷ [])),
      c.3.0,
      c.3.1,
      (c.0, elements-groups sys o None c.0 c.2, refl),
      turns,
      of-tail sys o cuts c.3.1 c.3.3,
      is ∙ ap (λ us. plain item.Begin ∷ us) (c.4 ∙ ap (λ us. c.0 ++ (plain item.Done ∷ us)) c.3.4 ∙ sym (append_assoc c.0 (plain item.Done ∷ []) (c.3.0 ++ c.3.1))),
    )
