-- Whole actions, and what may stand last behind them, keep the laws of parts and lasts.
use Rattle.std.proofs.Common.{◌≡◌, ℕ, Bool, true, false, ◌⊎◌, inl, inr, List, [], ◌∷◌, ◌++◌, Some, None, refl, sym, ◌∙◌, ap, subst, append_assoc, append-nil}
use Rattle.std.specs.declared.option.Option.{Option}
use Rattle.qp_model.specs.declared.systems.System.{System}
use Rattle.qp_model.specs.declared.bodies.Entry.{Entry}
use Rattle.qp_model.specs.Told.{Told}
use Rattle.qp_model.specs.Calls as call
use Rattle.qp_model.specs.Calls.{Call, Answer, Granted, Refused, Flushed, AtQueue, AtPool, AtTimer, AtTicks, AtFront, is_assertion}
use Rattle.qp_model.specs.Shapes.{Fits, FitsAny, PostsNew, Publishes, NoBlockFor}
use Rattle.qp_model.specs.Groups.{IsLast, Asserts, Stops, StopsInPublication}
use Rattle.qp_model.specs.Course.{Cut, Whole, Stopped, Anywhere}
use Rattle.qp_model.proofs.ListLemmas.{nil-front}
use Rattle.qp_check_shapes.specs.declared.shape_stage.PublishStage.TheVariants as stage
use Rattle.qp_check_shapes.specs.ShapeUnit as unit
use Rattle.qp_check_shapes.specs.ShapeUnit.{behind_unit}
use Rattle.qp_check_shapes.specs.ShapeAssertion as asserted
use Rattle.qp_check_shapes.specs.ShapeAssertion.{behind_assertion}
use Rattle.qp_check_shapes.specs.ShapePublication.{stage_after}
use Rattle.qp_check_shapes.specs.ShapeAction.{IsWhole, OfUnit, OfPublication, IsCut, IsFront}
use Rattle.qp_check_shapes.specs.GroupsRead.{is_outer}
use Rattle.qp_check_shapes.specs.GroupsLast.{LastOf}
use Rattle.qp_check_shapes.proofs.ShapeWholeLemmas.{unit-whole}
use Rattle.qp_check_shapes.proofs.ShapeAssertionLemmas.{assertion-whole}
use Rattle.qp_check_shapes.proofs.ShapeRunLemmas.{end_of}
use Rattle.qp_check_shapes.proofs.ShapeReadLemmas.{start-whole}
use Rattle.qp_check_shapes.proofs.GroupsApartLemmas.{assertion-apart, outer-apart}
use Rattle.qp_check_shapes.proofs.GroupsPublicationLemmas.{run-same, run-filled, run-inner, run-apart}
use Rattle.qp_check_shapes.proofs.GroupsActionLemmas.{publish-either}
use Rattle.qp_check_shapes.proofs.GroupsReadLemmas.{Parts, Lasts}

-- records that a reader of the front takes all, or those of a publication that ends so
data Taken (read : List Told → Option (List Told)) (sys : System) (o : ℕ) (b : Bool) (g : List Told) : Type 0 where
  Reads : ((rest : List Told) → read (g ++ rest) ≡ Some rest) → Taken read sys o b g
  Runs : stage_after sys o g stage.Start ≡ Some (end_of b) → Taken read sys o b g

whole-taken : (sys : System) (o : ℕ) (now : Option Entry) (g : List Told) → IsWhole sys o now g → Taken (behind_unit sys o now) sys o true g
unfolding FitsAny Fits
whole-taken sys o now g (OfUnit u) = Reads (λ rest. unit-whole sys o now g rest u)
whole-taken sys o now g (OfPublication sig pars reserve h) = Runs (start-whole sys o sig pars reserve true g h)

cut-taken : (sys : System) (o : ℕ) (now : Option Entry) (g : List Told) → IsCut sys o now g → Taken (behind_assertion sys o now) sys o false g
unfolding FitsAny Fits Publishes NoBlockFor PostsNew
cut-taken sys o now g c = by c.0 c.1 c.2 c.3
  where
    one : (x : Call) (answer : Answer) → unit.is_unit_call x ≡ true → FitsAny sys o now x answer g → is_assertion answer ≡ true → Taken (behind_assertion sys o now) sys o false g
    one x answer single h asserts = Reads (λ rest. assertion-whole sys o now g rest (asserted.Asserts x answer single h asserts))

    by : (x : Call) (answer : Answer) → FitsAny sys o now x answer g → is_assertion answer ≡ true → Taken (behind_assertion sys o now) sys o false g
    by (call.Post to sig pars margin reserve) answer h a = one (call.Post to sig pars margin reserve) answer refl h a
    by (call.Lifo sig pars reserve) answer h a = one (call.Lifo sig pars reserve) answer refl h a
    by (call.Forward to margin) answer h a = one (call.Forward to margin) answer refl h a
    by (call.Publish sig pars reserve) AtQueue h a = Runs (start-whole sys o sig pars reserve false g h)
    by (call.Publish sig pars reserve) AtPool h a = one (call.Post 0 sig pars None reserve) AtPool refl (inl h) refl
    by (call.Publish sig pars None) AtTimer h a = absurd h
    by (call.Publish sig pars (Some r)) AtTimer h a = absurd h
    by (call.Publish sig pars None) AtTicks h a = absurd h
    by (call.Publish sig pars (Some r)) AtTicks h a = absurd h
    by (call.Publish sig pars None) AtFront h a = absurd h
    by (call.Publish sig pars (Some r)) AtFront h a = absurd h
    by (call.Publish sig pars reserve) Granted h a = absurd (cc)
    by (call.Publish sig pars reserve) Refused h a = absurd (cc)
    by (call.Publish sig pars reserve) (Flushed n) h a = absurd (cc)
    by call.Defer answer h a = one call.Defer answer refl h a
    by call.Recall answer h a = one call.Recall answer refl h a
    by call.Flush Granted h a = absurd h
    by call.Flush Refused h a = absurd h
    by call.Flush (Flushed n) h a = absurd (cc)
    by call.Flush AtQueue h a = absurd h
    by call.Flush AtPool h a = absurd h
    by call.Flush AtTimer h a = absurd h
    by call.Flush AtTicks h a = absurd h
    by call.Flush AtFront h a = absurd h
    by other answer h a = one other answer refl h a

unit-inner : (sys : System) (o : ℕ) (now : Option Entry) (b : Bool) (t : Told) (ts : List Told) → Taken (behind_unit sys o now) sys o b (t ∷ ts) → is_outer t.body ≡ true → ⊥
unit-inner sys o now b t ts (Runs r) out = run-inner sys o b t ts r out
unit-inner sys o now b t ts (Reads r) out =
    let none : behind_unit sys o now ((t ∷ ts) ++ []) ≡ None = (outer-apart sys o now t (ts ++ []) out).0 in
    let some : behind_unit sys o now ((t ∷ ts) ++ []) ≡ Some [] = r [] in cc

cut-inner : (sys : System) (o : ℕ) (now : Option Entry) (b : Bool) (t : Told) (ts : List Told) → Taken (behind_assertion sys o now) sys o b (t ∷ ts) → is_outer t.body ≡ true → ⊥
cut-inner sys o now b t ts (Runs r) out = run-inner sys o b t ts r out
cut-inner sys o now b t ts (Reads r) out =
    let none : behind_assertion sys o now ((t ∷ ts) ++ []) ≡ None = (outer-apart sys o now t (ts ++ []) out).1 in
    let some : behind_assertion sys o now ((t ∷ ts) ++ []) ≡ Some [] = r [] in cc

whole-unique : (sys : System) (o : ℕ) (now : Option Entry) (g gs h hs : List Told) → Taken (behind_unit sys o now) sys o true g → Taken (behind_unit sys o now) sys o true h → g ++ gs ≡ h ++ hs → gs ≡ hs
whole-unique sys o now g gs h hs (Reads x) (Reads y) is =
    let one : behind_unit sys o now (g ++ gs) ≡ Some gs = x gs in
    let two : behind_unit sys o now (h ++ hs) ≡ Some hs = y hs in
    let both : behind_unit sys o now (g ++ gs) ≡ behind_unit sys o now (h ++ hs) = ap (behind_unit sys o now) is in cc
whole-unique sys o now g gs h hs (Reads x) (Runs y) is =
    let one : behind_unit sys o now (g ++ gs) ≡ Some gs = x gs in
    let two : behind_unit sys o now (h ++ hs) ≡ None = (run-apart sys o now true h hs y).0 in
    let both : behind_unit sys o now (g ++ gs) ≡ behind_unit sys o now (h ++ hs) = ap (behind_unit sys o now) is in absurd (cc)
whole-unique sys o now g gs h hs (Runs x) (Reads y) is =
    let one : behind_unit sys o now (g ++ gs) ≡ None = (run-apart sys o now true g gs x).0 in
    let two : behind_unit sys o now (h ++ hs) ≡ Some hs = y hs in
    let both : behind_unit sys o now (g ++ gs) ≡ behind_unit sys o now (h ++ hs) = ap (behind_unit sys o now) is in absurd (cc)
whole-unique sys o now g gs h hs (Runs x) (Runs y) is = (run-same sys o stage.Start true true g gs h hs x y is).0

-- whole actions are parts
pub whole-parts : (sys : System) (o : ℕ) (now : Option Entry) → Parts is_outer (IsWhole sys o now)
whole-parts sys o now = record {
  filled = λ w. filled (whole-taken sys o now [] w);
  unique = λ g gs h hs w v is. whole-unique sys o now g gs h hs (whole-taken sys o now g w) (whole-taken sys o now h v) is;
  inner = λ t ts w out. unit-inner sys o now true t ts (whole-taken sys o now (t ∷ ts) w) out;
}
  where
    filled : Taken (behind_unit sys o now) sys o true [] → ⊥
    filled (Reads r) = let some : None ≡ Some [] = r [] in cc
    filled (Runs r) = run-filled sys o true r

-- no whole action begins a call that ends in its assertion
taken-apart : (sys : System) (o : ℕ) (now : Option Entry) (g h hs : List Told) → Taken (behind_assertion sys o now) sys o false g → Taken (behind_unit sys o now) sys o true h → g ≡ h ++ hs → ⊥
taken-apart sys o now g h hs (Reads x) (Reads y) is =
    let some : behind_assertion sys o now g ≡ Some [] = subst (λ us. behind_assertion sys o now us ≡ Some []) (append-nil g) (x []) in
    let none : behind_unit sys o now g ≡ None = assertion-apart sys o now g [] some in
    let two : behind_unit sys o now (h ++ hs) ≡ Some hs = y hs in
    let both : behind_unit sys o now g ≡ behind_unit sys o now (h ++ hs) = ap (behind_unit sys o now) is in cc
taken-apart sys o now g h hs (Reads x) (Runs y) is =
    let some : behind_assertion sys o now g ≡ Some [] = subst (λ us. behind_assertion sys o now us ≡ Some []) (append-nil g) (x []) in
    let two : behind_assertion sys o now (h ++ hs) ≡ None = (run-apart sys o now true h hs y).1 in
    let both : behind_assertion sys o now g ≡ behind_assertion sys o now (h ++ hs) = ap (behind_assertion sys o now) is in cc
taken-apart sys o now g h hs (Runs x) (Reads y) is =
    let none : behind_unit sys o now g ≡ None = subst (λ us. behind_unit sys o now us ≡ None) (append-nil g) (run-apart sys o now false g [] x).0 in
    let two : behind_unit sys o now (h ++ hs) ≡ Some hs = y hs in
    let both : behind_unit sys o now g ≡ behind_unit sys o now (h ++ hs) = ap (behind_unit sys o now) is in cc
taken-apart sys o now g h hs (Runs x) (Runs y) is =
    let ends : false ≡ true = (run-same sys o stage.Start false true g [] h hs x y (append-nil g ∙ is)).1 in cc

pub cut-apart : (sys : System) (o : ℕ) (now : Option Entry) (g h hs : List Told) → IsCut sys o now g → IsWhole sys o now h → g ≡ h ++ hs → ⊥
cut-apart sys o now g h hs c w is = taken-apart sys o now g h hs (cut-taken sys o now g c) (whole-taken sys o now h w) is

-- behind a whole action at the front of a front nothing stands
front-behind : (sys : System) (o : ℕ) (now : Option Entry) (f back g rest : List Told) → IsWhole sys o now (f ++ back) ⊎ IsCut sys o now (f ++ back) → IsWhole sys o now g → f ≡ g ++ rest → rest ≡ []
front-behind sys o now f back g rest (inl w) v is =
    nil-front rest back
    ((whole-parts sys o now).unique g (rest ++ back) (f ++ back) [] v w (sym (append_assoc g rest back) ∙ ap (λ us. us ++ back) (sym is) ∙ sym (append-nil (f ++ back))))
front-behind sys o now f back g rest (inr c) v is = absurd (cut-apart sys o now (f ++ back) g (rest ++ back) c v (ap (λ us. us ++ back) is ∙ append_assoc g rest back))

front-inner : (sys : System) (o : ℕ) (now : Option Entry) (t : Told) (ts back : List Told) → IsWhole sys o now (t ∷ (ts ++ back)) ⊎ IsCut sys o now (t ∷ (ts ++ back)) → is_outer t.body ≡ true → ⊥
front-inner sys o now t ts back (inl w) out = (whole-parts sys o now).inner t (ts ++ back) w out
front-inner sys o now t ts back (inr c) out = cut-inner sys o now false t (ts ++ back) (cut-taken sys o now (t ∷ (ts ++ back)) c) out

last-lasts-of : (sys : System) (o : ℕ) (stops : Bool) (now : Option Entry) → Lasts is_outer (IsWhole sys o now) (IsLast sys o now stops)
last-lasts-of sys o stops now = record { behind = behind; inner = inner }
  where
    none : (rest g : List Told) → [] ≡ g ++ rest → rest ≡ []
    none rest [] is = sym is
    none rest (t ∷ ts) is = absurd (cc)

    behind : (last g rest : List Told) → IsLast sys o now stops last → IsWhole sys o now g → last ≡ g ++ rest → IsLast sys o now stops rest
    behind last g rest (Asserts x answer h asserts) w is = absurd (cut-apart sys o now last g rest (x, answer, h, asserts) w is)
    behind last g rest (Stops may e) w is = Stops may (none rest g (sym e ∙ is))
    behind last g rest (StopsInPublication sig pars reserve answer back may h ends) w is =
        Stops may (front-behind sys o now last back g rest (publish-either sys o now sig pars reserve answer (last ++ back) h) w is)

    inner : (t : Told) (ts : List Told) → IsLast sys o now stops (t ∷ ts) → is_outer t.body ≡ true → ⊥
    inner t ts (Asserts x answer h asserts) out = cut-inner sys o now false t ts (cut-taken sys o now (t ∷ ts) (x, answer, h, asserts)) out
    inner t ts (Stops may e) out = cc
    inner t ts (StopsInPublication sig pars reserve answer back may h ends) out =
        front-inner sys o now t ts back (publish-either sys o now sig pars reserve answer (t ∷ (ts ++ back)) h) out

-- what may stand last by the cut keeps the laws of lasts
pub last-lasts : (sys : System) (o : ℕ) (cut : Cut) (now : Option Entry) → Lasts is_outer (IsWhole sys o now) (LastOf sys o cut now)
unfolding LastOf
last-lasts sys o Whole now = last-lasts-of sys o false now
last-lasts sys o Stopped now = last-lasts-of sys o true now
last-lasts sys o Anywhere now = record { behind = behind; inner = inner }
  where
    none : (rest g : List Told) → [] ≡ g ++ rest → rest ≡ []
    none rest [] is = sym is
    none rest (t ∷ ts) is = absurd (cc)

    behind : (last g rest : List Told) → (last ≡ []) ⊎ IsFront sys o now last → IsWhole sys o now g → last ≡ g ++ rest → (rest ≡ []) ⊎ IsFront sys o now rest
    behind last g rest (inl e) w is = inl (none rest g (sym e ∙ is))
    behind last g rest (inr f) w is = inl (front-behind sys o now last f.0 g rest f.1 w is)

    inner : (t : Told) (ts : List Told) → (t ∷ ts ≡ []) ⊎ IsFront sys o now (t ∷ ts) → is_outer t.body ≡ true → ⊥
    inner t ts (inl e) out = cc
    inner t ts (inr f) out = front-inner sys o now t ts f.0 f.1 out
