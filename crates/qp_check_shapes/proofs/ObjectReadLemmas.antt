-- An object's turns are read from the front in one way, and what is left is its tail.
use Rattle.std.proofs.Common.{◌≡◌, ℕ, Bool, true, false, ◌⊎◌, inl, inr, List, [], ◌∷◌, ◌++◌, Some, None, refl, sym, ◌∙◌, ap, subst, append_assoc, append-nil}
use Rattle.std.specs.declared.option.Option.{Option}
use Rattle.qp_model.specs.declared.bodies.Entry.{Entry}
use Rattle.qp_model.specs.declared.bodies.Body.{Body}
use Rattle.qp_model.specs.declared.bodies.Body.TheVariants as item
use Rattle.qp_model.specs.Told.{Told, Known, plain}
use Rattle.qp_model.specs.Sequence.{Sequence}
use Rattle.qp_model.specs.ObjectShape.{StepHead, is_head, takes}
use Rattle.qp_model.proofs.ListLemmas.{nil-front}
use Rattle.qp_check_shapes.specs.GroupsRead.{ReadsAll, IsElement, Breaks, is_close, is_outer}
use Rattle.qp_check_shapes.specs.ObjectRead.{Kinds, GroupsThenDone, looks_at_queue, IsTurnOf, Steps, Finds, FrontOf, IsTailOf, EndsHere, IsSpent, BreaksOffIn, TakesOnly, ReleasesOnly, TurnsOf}
use Rattle.qp_check_shapes.proofs.GroupsReadLemmas.{Parts, Lasts, compare, outer-behind, reads-last, no-close}
use Rattle.qp_check_shapes.proofs.GroupsElementLemmas.{element-parts, end-lasts}

-- the laws of what an object's records are made of
pub record KindLaws (k : Kinds) : Type 0 where
  pub acts : (now : Option Entry) → Parts is_outer (k.act now)
  pub lasts : (now : Option Entry) → Lasts is_outer (k.act now) (k.last now)
  pub firsts : Lasts is_outer (k.act None) k.first
  pub releases : (e : Entry) (g gs h hs : List Told) → k.release e g → k.release e h → g ++ gs ≡ h ++ hs → gs ≡ hs

-- groups that are closed go on in one way behind their `done`
done-same : (W : List Told → Type 0) → Parts is_outer W → (g gs h hs : List Told) → Sequence (IsElement W) g → Sequence (IsElement W) h
    → g ++ (plain item.Done ∷ gs) ≡ h ++ (plain item.Done ∷ hs) → gs ≡ hs
done-same W laws g gs h hs s u is = by (compare is_close (IsElement W) (element-parts W laws) g (plain item.Done ∷ gs) h (plain item.Done ∷ hs) s u is)
  where
    by : ((m : List Told) × Sequence (IsElement W) m × (plain item.Done ∷ gs ≡ m ++ (plain item.Done ∷ hs)))
        ⊎ ((m : List Told) × Sequence (IsElement W) m × (plain item.Done ∷ hs ≡ m ++ (plain item.Done ∷ gs))) → gs ≡ hs
    by (inl c) =
        let e : plain item.Done ∷ gs ≡ plain item.Done ∷ hs = outer-behind is_close (IsElement W) (element-parts W laws) (plain item.Done) gs c.0 (plain item.Done ∷ hs) refl c.1 c.2 in cc
    by (inr c) =
        let e : plain item.Done ∷ hs ≡ plain item.Done ∷ gs = outer-behind is_close (IsElement W) (element-parts W laws) (plain item.Done) hs c.0 (plain item.Done ∷ gs) refl c.1 c.2 in cc

-- groups that break off aren't closed
pub break-open : (W L : List Told → Type 0) → Parts is_outer W → Lasts is_outer W L → (body g more : List Told) → Breaks W L body → Sequence (IsElement W) g
    → body ≡ g ++ (plain item.Done ∷ more) → ⊥
unfolding Breaks
break-open W L laws lasts body g more b s is =
    no-close is_close (IsElement W) _ (element-parts W laws) (end-lasts W L laws lasts) b.0 b.1 g (plain item.Done) more b.2 b.3 s refl (sym b.4 ∙ is)

-- the first two records of a step, with what is behind
head-is : (e : Entry) (head body : List Told) → StepHead e head
    → (f l m : ℕ) × (known : Known) × (b : Body) × (is_head b ≡ true) × (head ++ body ≡ takes f l m e known ∷ plain b ∷ body)
unfolding StepHead
head-is e head body h = (h.0, h.1, h.2, h.3, h.4, h.5, ap (λ us. us ++ body) h.6)

-- two steps in front of one list take the same entry, and their bodies stand in front of one list
heads-same : (d e : Entry) (head other gs hs : List Told) → StepHead d head → StepHead e other → head ++ gs ≡ other ++ hs → (d ≡ e) × (gs ≡ hs)
heads-same d e head other gs hs h u is =
    let one = head-is d head gs h in
    let two = head-is e other hs u in
    let all : takes one.0 one.1 one.2 d one.3 ∷ plain one.4 ∷ gs ≡ takes two.0 two.1 two.2 e two.3 ∷ plain two.4 ∷ hs = sym one.6 ∙ is ∙ two.6 in
    let firsts : takes one.0 one.1 one.2 d one.3 ≡ takes two.0 two.1 two.2 e two.3 = cc in
    let body : item.Took one.0 one.1 one.2 d ≡ item.Took two.0 two.1 two.2 e = ap (λ (x : Told). x.body) firsts in
    (cc, cc)

-- a step doesn't begin with a record that isn't a `took`
head-not : (e : Entry) (head gs hs : List Told) (b : Body) → StepHead e head → ((f l m : ℕ) → item.Took f l m e ≡ b → ⊥) → head ++ gs ≡ plain b ∷ hs → ⊥
head-not e head gs hs b h other is =
    let one = head-is e head gs h in
    let all : takes one.0 one.1 one.2 e one.3 ∷ plain one.4 ∷ gs ≡ plain b ∷ hs = sym one.6 ∙ is in
    let first : takes one.0 one.1 one.2 e one.3 ≡ plain b = cc in
    other one.0 one.1 one.2 (ap (λ (x : Told). x.body) first)

abbrev pub nothing-outer : Body → Bool
nothing-outer b = false

turn-filled-in : (act : Option Entry → List Told → Type 0) (release : Entry → List Told → Type 0) (nils : Bool) (rest g : List Told) → IsTurnOf act release nils g → [] ≡ g ++ rest → ⊥
turn-filled-in act release nils rest g (Steps e head body h c e1) is =
    let one = head-is e head (body ++ rest) h in
    let all : [] ≡ takes one.0 one.1 one.2 e one.3 ∷ plain one.4 ∷ (body ++ rest) = is ∙ ap (λ us. us ++ rest) e1 ∙ append_assoc head body rest ∙ one.6 in cc
turn-filled-in act release nils rest g (Finds b look h e1) is = let all : [] ≡ plain b ∷ rest = is ∙ ap (λ us. us ++ rest) e1 in cc

pub turn-filled-at : (act : Option Entry → List Told → Type 0) (release : Entry → List Told → Type 0) (nils : Bool) → IsTurnOf act release nils [] → ⊥
turn-filled-at act release nils t = turn-filled-in act release nils [] [] t refl

turn-filled : (k : Kinds) (nils : Bool) (rest g : List Told) → IsTurnOf k.act k.release nils g → [] ≡ g ++ rest → ⊥
turn-filled k nils rest g t is = turn-filled-in k.act k.release nils rest g t is

-- two bodies in front of one list
bodies-same : (k : Kinds) → KindLaws k → (d e : Entry) (b gs c hs : List Told) → d ≡ e → GroupsThenDone (k.act (Some d)) (k.release d) b → GroupsThenDone (k.act (Some e)) (k.release e) c
    → b ++ gs ≡ c ++ hs → gs ≡ hs
unfolding GroupsThenDone
bodies-same k laws d e b gs c hs same x y is =
    let z : GroupsThenDone (k.act (Some e)) (k.release e) b = subst (λ u. GroupsThenDone (k.act (Some u)) (k.release u) b) same x in
    let left : b ++ gs ≡ z.0 ++ (plain item.Done ∷ (z.1 ++ gs)) = ap (λ us. us ++ gs) z.4 ∙ append_assoc z.0 (plain item.Done ∷ z.1) gs in
    let right : c ++ hs ≡ y.0 ++ (plain item.Done ∷ (y.1 ++ hs)) = ap (λ us. us ++ hs) y.4 ∙ append_assoc y.0 (plain item.Done ∷ y.1) hs in
    laws.releases e z.1 gs y.1 hs z.3 y.3 (done-same (k.act (Some e)) (laws.acts (Some e)) z.0 (z.1 ++ gs) y.0 (y.1 ++ hs) z.2 y.2 (sym left ∙ is ∙ right))

-- a look isn't a `took`
pub look-not : (b : Body) → looks_at_queue b ≡ true → (f l m : ℕ) (e : Entry) → item.Took f l m e ≡ b → ⊥
look-not b look f l m e is = let test : looks_at_queue (item.Took f l m e) ≡ true = subst (λ x. looks_at_queue x ≡ true) (sym is) look in cc

-- a turn that looks is one record
finds-same : (k : Kinds) (nils : Bool) (b : Body) (gs h hs : List Told) → looks_at_queue b ≡ true → IsTurnOf k.act k.release nils h → plain b ∷ gs ≡ h ++ hs → gs ≡ hs
finds-same k nils b gs h hs look (Steps e head body u c e1) is =
    absurd (head-not e head (body ++ hs) gs b u (λ f l m. look-not b look f l m e) (sym (is ∙ ap (λ us. us ++ hs) e1 ∙ append_assoc head body hs)))
finds-same k nils b gs h hs look (Finds x y n e1) is = let all : plain b ∷ gs ≡ plain x ∷ hs = is ∙ ap (λ us. us ++ hs) e1 in cc

-- turns are parts
pub turn-parts : (k : Kinds) (nils : Bool) → KindLaws k → Parts nothing-outer (IsTurnOf k.act k.release nils)
turn-parts k nils laws = record { filled = λ t. turn-filled k nils [] [] t refl; unique = unique; inner = λ t ts w h. never h }
  where
    never : false ≡ true → ⊥
    never h = cc

    unique : (g gs h hs : List Told) → IsTurnOf k.act k.release nils g → IsTurnOf k.act k.release nils h → g ++ gs ≡ h ++ hs → gs ≡ hs
    unique g gs h hs (Finds b look n e1) u is = finds-same k nils b gs h hs look u (sym (ap (λ us. us ++ gs) e1) ∙ is)
    unique g gs h hs (Steps e head body s c e1) (Finds b look n e2) is =
        sym (finds-same k nils b hs g gs look (Steps e head body s c e1) (sym (is ∙ ap (λ us. us ++ hs) e2)))
    unique g gs h hs (Steps d head body s c e1) (Steps e other more u b e2) is =
        let left : g ++ gs ≡ head ++ (body ++ gs) = ap (λ us. us ++ gs) e1 ∙ append_assoc head body gs in
        let right : h ++ hs ≡ other ++ (more ++ hs) = ap (λ us. us ++ hs) e2 ∙ append_assoc other more hs in
        let same = heads-same d e head other (body ++ gs) (more ++ hs) s u (sym left ∙ is ∙ right) in
        bodies-same k laws d e body gs more hs same.0 c b same.1

-- behind a turn at the front of a tail is a tail
pub tail-behind : (k : Kinds) (nils : Bool) → KindLaws k → (last g rest : List Told) → IsTailOf k last → IsTurnOf k.act k.release nils g → last ≡ g ++ rest → IsTailOf k rest
unfolding GroupsThenDone FrontOf
tail-behind k nils laws last g rest (EndsHere e) u is = absurd (turn-filled k nils rest g u (sym e ∙ is))
tail-behind k nils laws last g rest (IsSpent e) (Finds b look n e1) is =
    let all : plain item.Spent ∷ [] ≡ plain b ∷ rest = sym e ∙ is ∙ ap (λ us. us ++ rest) e1 in
    let first : plain item.Spent ≡ plain b = cc in
    let body : item.Spent ≡ b = ap (λ (x : Told). x.body) first in
    let test : looks_at_queue item.Spent ≡ true = subst (λ x. looks_at_queue x ≡ true) (sym body) look in absurd (cc)
tail-behind k nils laws last g rest (IsSpent e) (Steps d head body s c e1) is =
    absurd (head-not d head (body ++ rest) [] item.Spent s (λ f l m e. cc) (sym (sym e ∙ is ∙ ap (λ us. us ++ rest) e1 ∙ append_assoc head body rest)))
tail-behind k nils laws last g rest (BreaksOffIn e head body on s b e1) (Finds x look n e2) is =
    absurd (head-not e head body rest x s (λ f l m. look-not x look f l m e) (sym e1 ∙ is ∙ ap (λ us. us ++ rest) e2))
tail-behind k nils laws last g rest (BreaksOffIn e head body on s b e1) (Steps d other more u c e2) is =
    let same = heads-same e d head other body (more ++ rest) s u (sym e1 ∙ is ∙ ap (λ us. us ++ rest) e2 ∙ append_assoc other more rest) in
    let z : GroupsThenDone (k.act (Some e)) (k.release e) more = subst (λ x. GroupsThenDone (k.act (Some x)) (k.release x) more) (sym same.0) c in
    absurd
    (break-open (k.act (Some e)) (k.last (Some e)) (laws.acts (Some e)) (laws.lasts (Some e)) body z.0 (z.1 ++ rest) b z.2
    (same.1 ∙ ap (λ us. us ++ rest) z.4 ∙ append_assoc z.0 (plain item.Done ∷ z.1) rest))
tail-behind k nils laws last g rest (TakesOnly f l m e known any e1) (Finds x look n e2) is =
    let all : takes f l m e known ∷ [] ≡ plain x ∷ rest = sym e1 ∙ is ∙ ap (λ us. us ++ rest) e2 in
    let first : takes f l m e known ≡ plain x = cc in
    absurd (look-not x look f l m e (ap (λ (t : Told). t.body) first))
tail-behind k nils laws last g rest (TakesOnly f l m e known any e1) (Steps d head body s c e2) is =
    let one = head-is d head (body ++ rest) s in
    let all : takes f l m e known ∷ [] ≡ takes one.0 one.1 one.2 d one.3 ∷ plain one.4 ∷ (body ++ rest) = sym e1 ∙ is ∙ ap (λ us. us ++ rest) e2 ∙ append_assoc head body rest ∙ one.6 in
    absurd (cc)
tail-behind k nils laws last g rest (ReleasesOnly e head body any s b e1) (Finds x look n e2) is =
    absurd (head-not e head body rest x s (λ f l m. look-not x look f l m e) (sym e1 ∙ is ∙ ap (λ us. us ++ rest) e2))
tail-behind k nils laws last g rest (ReleasesOnly e head body any s b e1) (Steps d other more u c e2) is =
    let same = heads-same e d head other body (more ++ rest) s u (sym e1 ∙ is ∙ ap (λ us. us ++ rest) e2 ∙ append_assoc other more rest) in
    let z : GroupsThenDone (k.act (Some e)) (k.release e) more = subst (λ x. GroupsThenDone (k.act (Some x)) (k.release x) more) (sym same.0) c in
    let front : b.1 ≡ z.1 ++ rest =
    done-same (k.act (Some e)) (laws.acts (Some e)) b.0 b.1 z.0 (z.1 ++ rest) b.2 z.2
    (sym b.4 ∙ same.1 ∙ ap (λ us. us ++ rest) z.4 ∙ append_assoc z.0 (plain item.Done ∷ z.1) rest) in
    let none : rest ++ b.3.0 ≡ [] =
    laws.releases e z.1 (rest ++ b.3.0) (b.1 ++ b.3.0) [] z.3 b.3.1
    (sym (append_assoc z.1 rest b.3.0) ∙ ap (λ us. us ++ b.3.0) (sym front) ∙ sym (append-nil (b.1 ++ b.3.0))) in
    EndsHere (nil-front rest b.3.0 none)

-- the tail is what is left, where all turns in front are read
pub turns-tail : (k : Kinds) (nils : Bool) → KindLaws k → (told rest : List Told) → ReadsAll (IsTurnOf k.act k.release nils) told rest → TurnsOf k nils told → IsTailOf k rest
unfolding TurnsOf
turns-tail k nils laws told rest reads u =
    reads-last nothing-outer (IsTurnOf k.act k.release nils) (IsTailOf k) (turn-parts k nils laws) (tail-behind k nils laws) told rest reads u.0 u.1 u.2 u.3 u.4

pub tail-turns : (k : Kinds) (nils : Bool) (told rest : List Told) → ReadsAll (IsTurnOf k.act k.release nils) told rest → IsTailOf k rest → TurnsOf k nils told
unfolding TurnsOf
tail-turns k nils told rest reads u = (reads.whole, rest, reads.parts, u, reads.is)
