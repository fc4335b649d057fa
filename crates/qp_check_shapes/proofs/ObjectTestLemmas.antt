-- What is tested of an object's list.
use Rattle.std.proofs.Common.{◌≡◌, ℕ, suc, ◌==◌, Bool, true, false, ◌&&◌, ◌⊎◌, inl, inr, List, [], ◌∷◌, ◌++◌, length, IsTrue, Some, None, refl, sym, ◌∙◌, ap, subst, arith}
use Rattle.std.proofs.lemmas.Bool.{and_parts, false≢true}
use Rattle.std.proofs.lemmas.Bool.Decides.{nat_tests}
use Rattle.qp_check_calls.specs.Decides.{Decides}
use Rattle.qp_model.specs.declared.bodies.Entry.{Entry}
use Rattle.qp_model.specs.declared.bodies.Body.{Body}
use Rattle.qp_model.specs.declared.bodies.Body.TheVariants as item
use Rattle.qp_model.specs.Told.{Told, Known, Nothing, plain}
use Rattle.qp_model.specs.ObjectShape.{StepHead, takes}
use Rattle.qp_check_shapes.specs.GroupsRead.{ReadsAll, IsElement, Breaks, is_close, is_outer}
use Rattle.qp_check_shapes.specs.GroupsFirst.{behind_done}
use Rattle.qp_check_shapes.specs.ObjectRead.{Kinds, GroupsThenDone, IsTurnOf, IsTailOf, EndsHere, IsSpent, BreaksOffIn, TakesOnly, ReleasesOnly, TurnsOf, FrontOf, IsObjectList, Starts, BreaksStart, IsStepEnd, BreaksIt, ReleasesIt, IsStartEnd, GoesOn, BreaksFirst}
use Rattle.qp_check_shapes.specs.ObjectFirst.{entry_taken_first, behind_head, spent_first, is_spent_list, behind_begin}
use Rattle.qp_check_shapes.proofs.GroupsDecideLemmas.{decides-as}
use Rattle.qp_check_shapes.proofs.GroupsReadLemmas.{Parts, reads-close}
use Rattle.qp_check_shapes.proofs.GroupsElementLemmas.{element-parts}
use Rattle.qp_check_shapes.proofs.GroupsFirstLemmas.{done-is}
use Rattle.qp_check_shapes.proofs.ObjectReadLemmas.{KindLaws, break-open, turns-tail, tail-turns}
use Rattle.qp_check_shapes.proofs.ObjectTurnLemmas.{taken-is, step-is, step-told, begin-is}
use Rattle.qp_model.proofs.RecordLemmas.{told-is}

-- a test by what it tells, each way
pub decides-by : (P : Type 0) (b : Bool) → (b ≡ true → P) → (P → b ≡ true) → Decides b P
unfolding Decides
decides-by P true f g = f refl
decides-by P false f g = λ p. let no_test : false ≡ true = g p in cc

closed-more : (W M : List Told → Type 0) → Parts is_outer W → (told rest : List Told) → ReadsAll (IsElement W) told rest → GroupsThenDone W M told → (more : List Told) × M more × (rest ≡ plain item.Done ∷ more)
unfolding GroupsThenDone
closed-more W M laws told rest reads c =
    (c.1, c.3, reads-close is_close (IsElement W) (element-parts W laws) told rest reads c.0 (plain item.Done) c.1 c.2 refl c.4)

-- groups that are closed, and what is behind their `done`
pub closes-decided : (W M : List Told → Type 0) → Parts is_outer W → (told rest more : List Told) (b : Bool) → ReadsAll (IsElement W) told rest → Some more ≡ behind_done rest
    → Decides b (M more) → Decides b (GroupsThenDone W M told)
unfolding GroupsThenDone
closes-decided W M laws told rest more b reads done d = decides-as (M more) (GroupsThenDone W M told) b to from d
  where
    first : rest ≡ plain item.Done ∷ more
    first = done-is rest more (sym done)

    to : M more → GroupsThenDone W M told
    to m = (reads.whole, more, reads.parts, m, reads.is ∙ ap (λ us. reads.whole ++ us) first)

    from : GroupsThenDone W M told → M more
    from c =
        let close = closed-more W M laws told rest reads c in
        let both : plain item.Done ∷ close.0 ≡ plain item.Done ∷ more = sym close.2 ∙ first in
        let same : close.0 ≡ more = cc in subst M same close.1

pub closes-not : (W M : List Told → Type 0) → Parts is_outer W → (told rest : List Told) → ReadsAll (IsElement W) told rest → None ≡ behind_done rest → GroupsThenDone W M told → ⊥
closes-not W M laws told rest reads none c =
    let close = closed-more W M laws told rest reads c in
    let some : behind_done rest ≡ Some close.0 = ap behind_done close.2 in cc

-- the end of a step
pub end-breaks-off : (k : Kinds) (e : Entry) (body : List Told) → k.cuts ≡ true → Decides true (Breaks (k.act (Some e)) (k.last (Some e)) body) → Decides true (IsStepEnd k e body)
unfolding Decides
end-breaks-off k e body on d = BreaksIt on d

pub end-releases : (k : Kinds) (e : Entry) (body : List Told) (b : Bool) → k.anywhere ≡ true → Decides false (Breaks (k.act (Some e)) (k.last (Some e)) body)
    → Decides b (GroupsThenDone (k.act (Some e)) (FrontOf (k.release e)) body) → Decides b (IsStepEnd k e body)
unfolding Decides
end-releases k e body b any not_broken d = decides-as (GroupsThenDone (k.act (Some e)) (FrontOf (k.release e)) body) (IsStepEnd k e body) b (λ c. ReleasesIt any c) from d
  where
    from : IsStepEnd k e body → GroupsThenDone (k.act (Some e)) (FrontOf (k.release e)) body
    from (BreaksIt on h) = absurd (not_broken h)
    from (ReleasesIt h c) = c

pub end-not : (k : Kinds) (e : Entry) (body : List Told) → k.anywhere ≡ false → Decides false (Breaks (k.act (Some e)) (k.last (Some e)) body) → Decides false (IsStepEnd k e body)
unfolding Decides
end-not k e body not_any not_broken = never
  where
    never : IsStepEnd k e body → ⊥
    never (BreaksIt on h) = not_broken h
    never (ReleasesIt h c) = cc

-- a step that may not be cut ends nowhere else
pub end-uncut : (k : Kinds) (e : Entry) (body : List Told) → k.cuts ≡ false → k.anywhere ≡ false → Decides false (IsStepEnd k e body)
unfolding Decides
end-uncut k e body uncut not_any = never
  where
    never : IsStepEnd k e body → ⊥
    never (BreaksIt on h) = cc
    never (ReleasesIt any c) = cc

-- the tail
step-told-in : (told head body : List Told) (e d : Entry) → Some e ≡ entry_taken_first told → StepHead d head → told ≡ head ++ body → (d ≡ e) × (behind_head told ≡ Some body)
step-told-in told head body e d taken_is h is =
    let tells = step-told d head body h in
    let entry : entry_taken_first told ≡ Some d = ap entry_taken_first is ∙ tells.0 in
    (cc, ap behind_head is ∙ tells.1)

pub tail-steps : (k : Kinds) (told body : List Told) (e : Entry) (b : Bool) → Some e ≡ entry_taken_first told → Some body ≡ behind_head told → Decides b (IsStepEnd k e body) → Decides b (IsTailOf k told)
tail-steps k told body e b taken_is head_is d = decides-as (IsStepEnd k e body) (IsTailOf k told) b to from d
  where
    to : IsStepEnd k e body → IsTailOf k told
    to (BreaksIt on h) = let step = step-is told body e (sym taken_is) (sym head_is) in BreaksOffIn e step.0 body on step.1 h step.2
    to (ReleasesIt any c) = let step = step-is told body e (sym taken_is) (sym head_is) in ReleasesOnly e step.0 body any step.1 c step.2

    from : IsTailOf k told → IsStepEnd k e body
    from (EndsHere is) = let none : entry_taken_first told ≡ None = ap entry_taken_first is in absurd (cc)
    from (IsSpent is) = let none : entry_taken_first told ≡ None = ap entry_taken_first is in absurd (cc)
    from (TakesOnly f l m d known any is) = let none : behind_head told ≡ None = ap behind_head is in absurd (cc)
    from (BreaksOffIn d head more on h c is) =
        let same = step-told-in told head more e d taken_is h is in
        let both : Some body ≡ Some more = head_is ∙ same.1 in
        let behind : more ≡ body = cc in
        BreaksIt on (subst (λ us. Breaks (k.act (Some e)) (k.last (Some e)) us) behind (subst (λ x. Breaks (k.act (Some x)) (k.last (Some x)) more) same.0 c))
    from (ReleasesOnly d head more any h c is) =
        let same = step-told-in told head more e d taken_is h is in
        let both : Some body ≡ Some more = head_is ∙ same.1 in
        let behind : more ≡ body = cc in
        ReleasesIt any (subst (λ us. GroupsThenDone (k.act (Some e)) (FrontOf (k.release e)) us) behind (subst (λ x. GroupsThenDone (k.act (Some x)) (FrontOf (k.release x)) more) same.0 c))

pub tail-takes : (k : Kinds) (told : List Told) (e : Entry) (b : Bool) → Some e ≡ entry_taken_first told → None ≡ behind_head told → b ≡ (k.anywhere && (length told == 1)) → Decides b (IsTailOf k told)
tail-takes k told e b taken_is none b_is = decides-by (IsTailOf k told) b sound whole
  where
    single : (told : List Told) → Some e ≡ entry_taken_first told → (length told == 1) ≡ true → (f l m : ℕ) × (known : Known) × (told ≡ takes f l m e known ∷ [])
    single [] h one = absurd (cc)
    single (t ∷ []) h one = let first = taken-is t e (sym h) in (first.0, first.1, first.2, first.3, ap (λ x. x ∷ []) first.4)
    single (t ∷ u ∷ rest) h one = absurd (more (length rest) one)
      where
        more : (n : ℕ) → (suc (suc n) == 1) ≡ true → ⊥
        more n h = let e : suc (suc n) ≡ 1 = grind (arith, nat_tests) in omega arith

    sound : b ≡ true → IsTailOf k told
    sound h =
        let tests = and_parts k.anywhere (length told == 1) (sym b_is ∙ h) in
        let one = single told taken_is tests.1 in TakesOnly one.0 one.1 one.2 e one.3 tests.0 one.4

    whole : IsTailOf k told → b ≡ true
    whole (EndsHere is) = let no_entry : entry_taken_first told ≡ None = ap entry_taken_first is in absurd (cc)
    whole (IsSpent is) = let no_entry : entry_taken_first told ≡ None = ap entry_taken_first is in absurd (cc)
    whole (TakesOnly f l m d known any is) = let one : (length told == 1) ≡ true = ap (λ us. length us == 1) is in b_is ∙ rw (any, one) refl
    whole (BreaksOffIn d head more on h c is) = let same = step-told-in told head more e d taken_is h is in let both : None ≡ Some more = none ∙ same.1 in absurd (cc)
    whole (ReleasesOnly d head more any h c is) = let same = step-told-in told head more e d taken_is h is in let both : None ≡ Some more = none ∙ same.1 in absurd (cc)

-- no records behind
pub empty-rest : (ts : List Told) → (length ts == 0) ≡ true → ts ≡ []
empty-rest [] h = refl
empty-rest (t ∷ ts) h = absurd (more (length ts) h)
  where
    more : (n : ℕ) → (suc n == 0) ≡ true → ⊥
    more n h = let e : suc n ≡ 0 = grind (arith, nat_tests) in omega arith

spent-is : (told : List Told) → is_spent_list told ≡ true → (told ≡ []) ⊎ (told ≡ plain item.Spent ∷ [])
spent-is [] h = inl refl
spent-is (t ∷ ts) h = inr (by t.body t.known refl refl h)
  where
    by : (body : Body) (known : Known) → t.body ≡ body → t.known ≡ known → spent_first body known ts ≡ true → t ∷ ts ≡ plain item.Spent ∷ []
    by item.Spent Nothing is_body is_known h =
        let whole : t ≡ plain item.Spent = told-is t _ _ is_body is_known in let behind : ts ≡ [] = empty-rest ts h in ap (λ u. u ∷ ts) whole ∙ ap (λ us. plain item.Spent ∷ us) behind
    by body known is_body is_known h = absurd (false≢true h)

pub tail-else : (k : Kinds) (told : List Told) (b : Bool) → None ≡ entry_taken_first told → b ≡ is_spent_list told → Decides b (IsTailOf k told)
tail-else k told b none b_is = decides-by (IsTailOf k told) b sound whole
  where
    by : (told ≡ []) ⊎ (told ≡ plain item.Spent ∷ []) → IsTailOf k told
    by (inl is) = EndsHere is
    by (inr is) = IsSpent is

    sound : b ≡ true → IsTailOf k told
    sound h = by (spent-is told (sym b_is ∙ h))

    entry : (d : Entry) (head more : List Told) → StepHead d head → told ≡ head ++ more → b ≡ true
    entry d head more h is = let some : entry_taken_first told ≡ Some d = ap entry_taken_first is ∙ (step-told d head more h).0 in absurd (cc)

    whole : IsTailOf k told → b ≡ true
    whole (EndsHere is) = b_is ∙ ap is_spent_list is
    whole (IsSpent is) = b_is ∙ ap is_spent_list is
    whole (TakesOnly f l m d known any is) = let some : entry_taken_first told ≡ Some d = ap entry_taken_first is in absurd (cc)
    whole (BreaksOffIn d head more on h c is) = entry d head more h is
    whole (ReleasesOnly d head more any h c is) = entry d head more h is

-- behind a start's `begin`
pub start-goes : (k : Kinds) (nils : Bool) → KindLaws k → (told rest more left : List Told) (b : Bool) → ReadsAll (IsElement (k.act None)) told rest → Some more ≡ behind_done rest
    → ReadsAll (IsTurnOf k.act k.release nils) more left → Decides b (IsTailOf k left) → Decides b (IsStartEnd k nils told)
start-goes k nils laws told rest more left b reads done turns d =
    decides-as (GroupsThenDone (k.act None) (TurnsOf k nils) told) (IsStartEnd k nils told) b (λ c. GoesOn c) from
    (closes-decided (k.act None) (TurnsOf k nils) (laws.acts None) told rest more b reads done
    (decides-as (IsTailOf k left) (TurnsOf k nils more) b (tail-turns k nils more left turns) (turns-tail k nils laws more left turns) d))
  where
    first : rest ≡ plain item.Done ∷ more
    first = done-is rest more (sym done)

    from : IsStartEnd k nils told → GroupsThenDone (k.act None) (TurnsOf k nils) told
    from (GoesOn c) = c
    from (BreaksFirst on h) =
        absurd (break-open (k.act None) k.first (laws.acts None) laws.firsts told reads.whole more h reads.parts (reads.is ∙ ap (λ us. reads.whole ++ us) first))

pub start-breaks : (k : Kinds) (nils : Bool) → KindLaws k → (told rest : List Told) (b : Bool) → ReadsAll (IsElement (k.act None)) told rest → None ≡ behind_done rest
    → Decides b (IsTrue k.cuts × Breaks (k.act None) k.first told) → Decides b (IsStartEnd k nils told)
start-breaks k nils laws told rest b reads none d =
    decides-as (IsTrue k.cuts × Breaks (k.act None) k.first told) (IsStartEnd k nils told) b (λ h. BreaksFirst h.0 h.1) from d
  where
    from : IsStartEnd k nils told → IsTrue k.cuts × Breaks (k.act None) k.first told
    from (GoesOn c) = absurd (closes-not (k.act None) (TurnsOf k nils) (laws.acts None) told rest reads none c)
    from (BreaksFirst on h) = (on, h)

-- the whole list
pub object-decided : (k : Kinds) (nils : Bool) (told rest : List Told) (b : Bool) → Some rest ≡ behind_begin told → Decides b (IsStartEnd k nils rest) → Decides b (IsObjectList k nils told)
object-decided k nils told rest b begins d = decides-as (IsStartEnd k nils rest) (IsObjectList k nils told) b to from d
  where
    first : told ≡ plain item.Begin ∷ rest
    first = begin-is told rest begins

    to : IsStartEnd k nils rest → IsObjectList k nils told
    to (GoesOn c) = Starts rest c first
    to (BreaksFirst on h) = BreaksStart rest on h first

    from : IsObjectList k nils told → IsStartEnd k nils rest
    from (Starts body c is) =
        let both : plain item.Begin ∷ body ≡ plain item.Begin ∷ rest = sym is ∙ first in
        let same : body ≡ rest = cc in GoesOn (subst (GroupsThenDone (k.act None) (TurnsOf k nils)) same c)
    from (BreaksStart body on h is) =
        let both : plain item.Begin ∷ body ≡ plain item.Begin ∷ rest = sym is ∙ first in
        let same : body ≡ rest = cc in BreaksFirst on (subst (Breaks (k.act None) k.first) same h)

pub object-not : (k : Kinds) (nils : Bool) (told : List Told) → None ≡ behind_begin told → IsObjectList k nils told → ⊥
object-not k nils told none (Starts body c is) = let some : behind_begin told ≡ Some body = ap behind_begin is in cc
object-not k nils told none (BreaksStart body on h is) = let some : behind_begin told ≡ Some body = ap behind_begin is in cc
