-- What is left of a step at a scheduling point still closes with `done`.
use Rattle.std.proofs.Common.{◌≡◌, ℕ, ◌+◌, ◌-◌, true, not, List, [], ◌∷◌, ◌++◌, refl, sym, subst, inr, Option, Some, None, arith, append_assoc, append-nil}
use Rattle.std.specs.Prelude.{IsTrue, nat_lt, pos}
use Rattle.std.proofs.lemmas.Bool.{lt-ltb, and_parts}
use Rattle.qp_chart.specs.Task.{Task}
use Rattle.qp_model.specs.declared.systems.System.{System}
use Rattle.qp_model.specs.declared.bodies.Body.TheVariants as item
use Rattle.qp_model.specs.Told.{Told, plain}
use Rattle.qp_model.specs.Parts.{room_before}
use Rattle.qp_model.specs.Sites.{ring_of}
use Rattle.qp_model.specs.Shapes.{Posts, PostsOne, PublishesLast, restoring}
use Rattle.qp_model.specs.Pieces.{Piece, Tell, Point, tell}
use Rattle.qp_model.specs.Acts.{Actor, Config, Does, Moment}
use Rattle.qp_model.specs.Step.{DoesLeft, GoesOnPublishing, Publishing, Remainder}
use Rattle.qp_model.specs.Standing.{AgendaReaches}
use Rattle.qp_model.proofs.Completes.{again_any, release, release_drops}
use Rattle.qp_kernel.specs.Stages.{closes, is_done_task}
use Rattle.qp_kernel.proofs.TurnLemmas.{left-form}

-- the last of two lists that are the same
last-same : {A : Type 0} (xs ys : List A) (x y : A) → xs ++ x ∷ [] ≡ ys ++ y ∷ [] → x ≡ y
last-same [] [] x y h = cc
last-same [] (b ∷ []) x y h = absurd (cc)
last-same [] (b ∷ c ∷ ys) x y h = absurd (cc)
last-same (a ∷ []) [] x y h = absurd (cc)
last-same (a ∷ b ∷ xs) [] x y h = absurd (cc)
last-same (a ∷ xs) (b ∷ ys) x y h = let rest : xs ++ x ∷ [] ≡ ys ++ y ∷ [] = cc in last-same xs ys x y rest

-- a publication under way can be done, and ends with its point
publishing-done : (sys : System) (a : Actor) (c : Config) (p : Publishing) (posts : List ℕ) (at : Moment)
    → (ps : List Piece) × (d : Config) × GoesOnPublishing sys a c p posts (λ x rest. Does sys a at [] x rest (Some d)) (Some d ≡ None) (ps ++ Point ∷ [])
unfolding GoesOnPublishing Does PostsOne Posts PublishesLast room_before
publishing-done sys a c p [] at =
    let last : List Told = restoring a.o p.former p.members ++ release p.entry.pool p.entry in
    (tell last, record c { ok = pos 1 }, (last, [], (release p.entry.pool p.entry, release_drops p.entry.pool p.entry, refl), refl, (refl, refl)))
publishing-done sys a c p (to ∷ others) at =
    let made = again_any p.entry in
    let g : List Told = made.0 ++ (plain (item.Post to 0 0 0 made.1) ∷ []) in
    let rest = publishing-done sys a c p others at in
    (tell g ++ (Point ∷ rest.0), rest.1, inr (g, rest.0 ++ Point ∷ [], (made.0, made.1, made.2, (0, 0, 0, refl, room (ring_of sys to))), append_assoc (tell g) (Point ∷ rest.0) (Point ∷ []), rest.2))
  where
    room : (ring : ℕ) → IsTrue (nat_lt 0 (ring + 1 - 0))
    room ring = lt-ltb 0 (ring + 1 - 0) (omega arith)

-- so something is left
some-left : (sys : System) (a : Actor) (at : Moment) (left later : Remainder) (c d : Config) (g : List Told) → closes left.tasks ≡ true → later.tasks ≡ [] → AgendaReaches sys a at left c (tell g ++ Point ∷ []) later d → ⊥
unfolding AgendaReaches DoesLeft Does
some-left sys a at left later c d g closing none reaches = by later.publishing refl
  where
    never : (ps : List Piece) (mid : Option Config) → DoesLeft sys a at left.publishing left.posts left.tasks c (ps ++ Point ∷ []) mid → ⊥
    never ps mid h =
        let form = left-form sys a at left.publishing left.posts left.tasks c (ps ++ Point ∷ []) mid closing h in
        let same : Point ≡ Tell form.last = last-same ps form.front Point (Tell form.last) form.whole in cc

    by : (u : Option Publishing) → later.publishing ≡ u → ⊥
    by None is = never (tell g) (Some d) (subst (λ ps. DoesLeft sys a at left.publishing left.posts left.tasks c ps (Some d)) (append-nil (tell g ++ Point ∷ [])) (reaches [] (Some d) (rw (is, none) (refl, refl))))
    by (Some p) is =
        let all = publishing-done sys a d p later.posts at in
        never ((tell g ++ Point ∷ []) ++ all.0) (Some all.1)
        (subst (λ ps. DoesLeft sys a at left.publishing left.posts left.tasks c ps (Some all.1)) (sym (append_assoc (tell g ++ Point ∷ []) all.0 (Point ∷ [])))
        (reaches (all.0 ++ Point ∷ []) (Some all.1) (rw (is, none) all.2)))

closes-behind : (done rest : List Task) → (rest ≡ [] → ⊥) → closes (done ++ rest) ≡ true → closes rest ≡ true
closes-behind [] rest some h = h
closes-behind (t ∷ []) [] some h = absurd (some refl)
closes-behind (t ∷ []) (u ∷ us) some h = (and_parts (not (is_done_task t)) (closes (u ∷ us)) h).1
closes-behind (t ∷ u ∷ us) rest some h = closes-behind (u ∷ us) rest some (and_parts (not (is_done_task t)) (closes ((u ∷ us) ++ rest)) h).1

pub closes-left : (sys : System) (a : Actor) (at : Moment) (left later : Remainder) (c d : Config) (g : List Told) (done : List Task) → closes left.tasks ≡ true → left.tasks ≡ done ++ later.tasks
    → AgendaReaches sys a at left c (tell g ++ Point ∷ []) later d → closes later.tasks ≡ true
closes-left sys a at left later c d g done closing split reaches =
    closes-behind done later.tasks (λ none. some-left sys a at left later c d g closing none reaches) (subst (λ ts. closes ts ≡ true) split closing)
