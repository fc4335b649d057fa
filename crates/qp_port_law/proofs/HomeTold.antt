-- A home lane as it is told.
use Rattle.std.proofs.Common.{◌≡◌, ℕ, ◌==◌, Bool, true, false, ◌&&◌, cond, List, [], ◌∷◌, map, refl, ◌∙◌}
use Rattle.std.specs.List.{count_by, filter}
use Rattle.qp_model.specs.declared.bodies.Body.{Body}
use Rattle.qp_model.specs.declared.bodies.Body.TheVariants as body
use Rattle.qp_model.specs.Record.{Item}
use Rattle.qp_model.specs.Told.{for_object}
use Rattle.qp_model.specs.Knowing.{Facts, told, ceiling_after, told_lane}
use Rattle.qp_model.specs.Home.{as_own, is_look_at}
use Rattle.qp_model.specs.End.{takes_of}
use Rattle.qp_model.proofs.TakenLemmas.{takes_for}
use Rattle.qp_kernel.proofs.ZeroLemmas.{count-cons}
use Rattle.qp_port_law.specs.Homes.{own_look}

-- what is told of a look doesn't depend on whose record it is
look-told : (w : Facts) (o p c : ℕ) (b : Body) → is_look_at o b ≡ true → told w o c b ≡ told w p c b
unfolding told
look-told w o p c (body.Seen q f l m) h = refl
look-told w o p c b h = absurd (cc)

pub own-looks : (w : Facts) (o c : ℕ) (is : List Item) → told_lane w c (map (as_own o) is) ≡ map (own_look o) (told_lane w c is)
unfolding told_lane
own-looks w o c [] = refl
own-looks w o c (i ∷ is) = go (i.of == 0) (is_look_at o i.body) refl (own-looks w o (ceiling_after c i.body) is)
  where
    go : (a b : Bool) → is_look_at o i.body ≡ b → told_lane w (ceiling_after c i.body) (map (as_own o) is) ≡ map (own_look o) (told_lane w (ceiling_after c i.body) is)
        → told_lane w c (cond (a && b) (record { of = o; body = i.body }) i ∷ map (as_own o) is)
        ≡ cond (a && b) (record { of = o; told = told w i.of c i.body }) (for_object i.of (told w i.of c i.body)) ∷ map (own_look o) (told_lane w (ceiling_after c i.body) is)
    go true true e later = let same = look-told w o i.of c i.body e in rw (later, same) refl
    go true false e later = rw later refl
    go false b e later = rw later refl

takes-same : (o : ℕ) (i : Item) → takes_of o i ≡ takes_for o i
takes-same o i = by i.body (i.of == o)
  where
    by : (b : Body) (v : Bool) → takes_of o (record { of = i.of; body = b }) ≡ takes_for o (record { of = i.of; body = b })
    by (body.Took f l m e) v = and-true (i.of == o)
      where
        and-true : (b : Bool) → b ≡ (b && true)
        and-true true = refl
        and-true false = refl
    by _ v = and-false (i.of == o)
      where
        and-false : (b : Bool) → false ≡ (b && false)
        and-false true = refl
        and-false false = refl

-- where no record takes for o, none is counted
pub takes-none : (o : ℕ) (is : List Item) → filter (takes_for o) is ≡ [] → count_by (takes_of o) is ≡ 0
takes-none o [] h = refl
takes-none o (i ∷ is) h = go (takes_for o i) refl h (takes-none o is)
  where
    go : (b : Bool) → takes_for o i ≡ b → cond b (i ∷ filter (takes_for o) is) (filter (takes_for o) is) ≡ [] → (filter (takes_for o) is ≡ [] → count_by (takes_of o) is ≡ 0)
        → count_by (takes_of o) (i ∷ is) ≡ 0
    go true e h later = absurd (cc)
    go false e h later = count-cons (takes_of o) i is (takes-same o i ∙ e) ∙ later h
