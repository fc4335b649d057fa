-- The records of a home lane, one list behind another.
use Rattle.std.proofs.Common.{◌≡◌, ℕ, ◌+◌, ◌<◌, ◌==◌, Bool, true, false, not, ◌&&◌, cond, List, [], ◌∷◌, ◌++◌, map, length, refl, sym, ◌∙◌, ap, subst, inl, inr, arith, None}
use Rattle.std.specs.Prelude.{⊤, ◌⊎◌}
use Rattle.std.specs.List.{count_by, filter, filter_map}
use Rattle.std.proofs.lemmas.Bool.{and_from, and_parts}
use Rattle.std.proofs.lemmas.Bool.Decides.{nat_tests}
use Rattle.std.proofs.lemmas.List.{map-append}
use Rattle.std.proofs.lemmas.List.Elements.{filter-append, filter_map-append}
use Rattle.qp_model.specs.declared.bodies.Body.{Body}
use Rattle.qp_model.specs.declared.bodies.Body.TheVariants as body
use Rattle.qp_model.specs.Record.{Item}
use Rattle.qp_model.specs.Told.{Told, ToldItem, for_object}
use Rattle.qp_model.specs.Knowing.{told_alone}
use Rattle.qp_model.specs.Ends.{is_assert, is_end, is_turn_mark, is_spent, is_spill, ends_last}
use Rattle.qp_model.specs.End.{took_count, takes_of}
use Rattle.qp_model.specs.Home.{is_look_at}
use Rattle.qp_model.specs.HomeLane.{are_at_home, is_at_home, count_taken, nil_counts, seen_counts}
use Rattle.qp_model.specs.KernelLane.{role_of, Drops}
use Rattle.qp_model.specs.Lawful.{dispatched}
use Rattle.qp_model.specs.ObjectShape.{asserts_last, nothing_after}
use Rattle.qp_model.proofs.KernelRowLemmas.{IsOwnRole}
use Rattle.qp_model.proofs.NumberLemmas.{count-append}
use Rattle.qp_model_order.specs.SourceRun.{untold_all}
use Rattle.qp_model_order.proofs.CalmLemmas.{IsMild}
use Rattle.qp_model_order.proofs.SourceLanes.{untold-append}
use Rattle.qp_calls.specs.LaneView.{Shown}
use Rattle.qp_calls.specs.Clauses.{last_nil, nil_by}
use Rattle.qp_kernel.specs.ZeroEnds.{own_told}
use Rattle.qp_kernel.proofs.BareLemmas.{own-append, no-assert}
use Rattle.qp_kernel.proofs.ToldPieces.{AreOwn}
use Rattle.qp_kernel.proofs.ZeroLemmas.{AreDrops, count-cons}
use Rattle.qp_port_law.specs.Homes.{home_told, own_look}
use Rattle.qp_port_law.specs.HomeLanes.{nils_in, looks_in}
use Rattle.qp_model.proofs.LineLemmas.{same_number}

pub other-zero : (o : ℕ) → 0 < o → ((o == 0) ≡ false) × ((0 == o) ≡ false)
other-zero o some = (grind (arith, nat_tests, some), grind (arith, nat_tests, some))

-- how many entries have been taken behind these records
abbrev pub taken_after : ℕ → List Item → ℕ
taken_after n [] = n
taken_after n (i ∷ is) = taken_after (count_taken n i.body) is

-- a record at home is at home where the lane may be cut
home-one : (o : ℕ) (spent cut : Bool) (p : ℕ) (b : Body) → is_at_home o spent false p b ≡ true → is_at_home o spent cut p b ≡ true
home-one o spent cut p (body.Spill len) h = absurd (let parts = and_parts (p == 0) false h in let wrong = parts.1 in cc)
home-one o spent cut p _ h = h

pub at-home_then : (o budget : ℕ) (cuts : Bool) (n : ℕ) (xs ys : List Item) → are_at_home o budget false n xs ≡ true → are_at_home o budget cuts (taken_after n xs) ys ≡ true
    → are_at_home o budget cuts n (xs ++ ys) ≡ true
unfolding are_at_home
at-home_then o budget cuts n [] ys h k = k
at-home_then o budget cuts n (x ∷ xs) ys h k =
    let parts = and_parts (is_at_home o (n == budget) false x.of x.body) (are_at_home o budget false (count_taken n x.body) xs) h in
    and_from _ _ (home-one o (n == budget) (cuts && (length (xs ++ ys) == 0)) x.of x.body parts.0) (at-home_then o budget cuts (count_taken n x.body) xs ys parts.1 k)

-- the entries of the object are counted
takes-one : (o n : ℕ) (spent : Bool) (p : ℕ) (b : Body) → is_at_home o spent false p b ≡ true → count_taken n b ≡ n + cond (takes_of o (record { of = p; body = b })) 1 0
takes-one o n spent p (body.Took f l m e) h = rw h refl
takes-one o n spent p _ h = omega arith

pub taken-count : (o budget n : ℕ) (is : List Item) → are_at_home o budget false n is ≡ true → taken_after n is ≡ n + took_count is o
unfolding are_at_home took_count
taken-count o budget n [] h = omega arith
taken-count o budget n (i ∷ is) h =
    let parts = and_parts (is_at_home o (n == budget) false i.of i.body) (are_at_home o budget false (count_taken n i.body) is) h in
    let later = taken-count o budget (count_taken n i.body) is parts.1 in
    let here = takes-one o n (n == budget) i.of i.body parts.0 in
    let both = count-append (takes_of o) (i ∷ []) is in
    let one : count_by (takes_of o) (i ∷ []) ≡ cond (takes_of o i) 1 0 = by (takes_of o i) refl in
    omega (arith, later, here, both, one)
  where
    by : (b : Bool) → takes_of o i ≡ b → count_by (takes_of o) (i ∷ []) ≡ cond b 1 0
    by true e = rw e refl
    by false e = rw e refl

-- a record of a start or of the inside of a step, or of its end
abbrev pub is_step : Body → Bool
is_step (body.Took f l m e) = false
is_step (body.Nil f l m) = false
is_step (body.Seen p f l m) = false
is_step body.Spent = false
is_step (body.Spill n) = false
is_step _ = true

abbrev pub AreInside : List Told → Type 0
AreInside [] = ⊤
AreInside (t ∷ ts) = (is_step t.body ≡ true) × AreInside ts

own-step : (b : Body) → IsOwnRole (role_of b) → is_turn_mark b ≡ false → is_step b ≡ true
unfolding role_of
own-step (body.Took f l m e) h mark = absurd h
own-step (body.Nil f l m) h mark = absurd (cc)
own-step (body.Seen p f l m) h mark = absurd h
own-step body.Spent h mark = absurd h
own-step (body.Spill n) h mark = absurd h
own-step _ h mark = refl

pub own-inside : (g : List Told) → AreOwn g → AreInside g
own-inside [] h = tt
own-inside (t ∷ ts) h = (own-step t.body h.0 h.1, own-inside ts h.2)

drop-step : (b : Body) → role_of b ≡ Drops → is_step b ≡ true
unfolding role_of
drop-step (body.Dec p b d k) h = refl
drop-step (body.Back p n b to) h = refl
drop-step _ h = absurd (cc)

pub drops-inside : (g : List Told) → AreDrops g → AreInside g
drops-inside [] h = tt
drops-inside (t ∷ ts) h = (drop-step t.body h.0, drops-inside ts h.1)

pub inside-then : (xs ys : List Told) → AreInside xs → AreInside ys → AreInside (xs ++ ys)
inside-then [] ys a b = b
inside-then (x ∷ xs) ys a b = (a.0, inside-then xs ys a.1 b)

-- such a record of o
pub record Inside (o : ℕ) (b : Body) : Type 0 where
  pub home : (spent cut : Bool) → is_at_home o spent cut o b ≡ true
  pub taken : (n : ℕ) → count_taken n b ≡ n
  pub takes : takes_of o (record { of = o; body = b }) ≡ false
  pub nil : nil_counts b ≡ None
  pub seen : seen_counts b ≡ None
  pub mark : is_turn_mark b ≡ false
  pub spent : is_spent b ≡ false
  pub spill : is_spill b ≡ false
  pub last : (x : Shown) → nil_by o x o b ≡ x

step-inside : (o : ℕ) (b : Body) → is_step b ≡ true → Inside o b
step-inside o (body.Took f l m e) h = absurd (cc)
step-inside o (body.Nil f l m) h = absurd (cc)
step-inside o (body.Seen p f l m) h = absurd (cc)
step-inside o body.Spent h = absurd (cc)
step-inside o (body.Spill n) h = absurd (cc)
step-inside o _ h = record {
  home = λ spent cut. same_number o;
  taken = λ n. refl;
  takes = refl;
  nil = refl;
  seen = refl;
  mark = refl;
  spent = refl;
  spill = refl;
  last = λ x. refl;
}

-- records of the inside, as they stand in the lane of o
abbrev pub of_it : ℕ → List Told → List ToldItem
of_it o g = map (for_object o) g

pub inside-home : (o budget : ℕ) (cuts : Bool) (n : ℕ) (g : List Told) → AreInside g → are_at_home o budget cuts n (untold_all (of_it o g)) ≡ true
unfolding are_at_home
inside-home o budget cuts n [] h = refl
inside-home o budget cuts n (t ∷ ts) h =
    let one = step-inside o t.body h.0 in
    and_from _ _ (one.home (n == budget) (cuts && (length (untold_all (of_it o ts)) == 0)))
    (subst (λ k. are_at_home o budget cuts k (untold_all (of_it o ts)) ≡ true) (sym (one.taken n)) (inside-home o budget cuts n ts h.1))

pub inside-takes : (o : ℕ) (g : List Told) → AreInside g → took_count (untold_all (of_it o g)) o ≡ 0
unfolding took_count
inside-takes o [] h = refl
inside-takes o (t ∷ ts) h = count-cons (takes_of o) (record { of = o; body = t.body }) (untold_all (of_it o ts)) (step-inside o t.body h.0).takes ∙ inside-takes o ts h.1

pub inside-nils : (o : ℕ) (g : List Told) → AreInside g → nils_in (of_it o g) ≡ []
inside-nils o [] h = refl
inside-nils o (t ∷ ts) h = let none = (step-inside o t.body h.0).nil in rw none (inside-nils o ts h.1)

pub inside-looks : (o : ℕ) (g : List Told) → AreInside g → looks_in (of_it o g) ≡ []
inside-looks o [] h = refl
inside-looks o (t ∷ ts) h = let none = (step-inside o t.body h.0).seen in rw none (inside-looks o ts h.1)

pub inside-last : (o : ℕ) (x : Shown) (g : List Told) → AreInside g → last_nil o x (of_it o g) ≡ x
unfolding last_nil
inside-last o x [] h = refl
inside-last o x (t ∷ ts) h = ap (λ y. last_nil o y (of_it o ts)) ((step-inside o t.body h.0).last x) ∙ inside-last o x ts h.1

pub inside-dispatched : (o : ℕ) (g : List Told) → AreInside g → dispatched g ≡ g
inside-dispatched o [] h = refl
inside-dispatched o (t ∷ ts) h = let none = (step-inside o t.body h.0).mark in rw (none, inside-dispatched o ts h.1) refl

pub inside-mild : (o : ℕ) (g : List Told) → AreInside g → IsMild (untold_all (of_it o g))
inside-mild o [] h = tt
inside-mild o (t ∷ ts) h = let one = step-inside o t.body h.0 in (one.spent, one.spill, inside-mild o ts h.1)

-- what is told of the object, and with its looks at its own queue
pub own-of : (o : ℕ) (g : List Told) → own_told o (of_it o g) ≡ g
own-of o [] = refl
own-of o (t ∷ ts) = let self = same_number o in rw (self, own-of o ts) refl

pub home-of : (o : ℕ) (g : List Told) → 0 < o → home_told o (of_it o g) ≡ g
home-of o [] some = refl
home-of o (t ∷ ts) some = let self = same_number o in let other = (other-zero o some).0 in rw (other, self, home-of o ts some) refl

pub home-append : (o : ℕ) (ts us : List ToldItem) → home_told o (ts ++ us) ≡ home_told o ts ++ home_told o us
home-append o ts us = ap (own_told o) (map-append (own_look o) ts us) ∙ own-append o (map (own_look o) ts) (map (own_look o) us)

pub dispatched-append : (xs ys : List Told) → dispatched (xs ++ ys) ≡ dispatched xs ++ dispatched ys
dispatched-append xs ys = filter-append (λ t. not (is_turn_mark t.body)) xs ys

pub nils-append : (ts us : List ToldItem) → nils_in (ts ++ us) ≡ nils_in ts ++ nils_in us
nils-append ts us = ap (filter_map (λ i. nil_counts i.body)) (untold-append ts us) ∙ filter_map-append (λ i. nil_counts i.body) (untold_all ts) (untold_all us)

pub looks-append : (ts us : List ToldItem) → looks_in (ts ++ us) ≡ looks_in ts ++ looks_in us
looks-append ts us = ap (filter_map (λ i. seen_counts i.body)) (untold-append ts us) ∙ filter_map-append (λ i. seen_counts i.body) (untold_all ts) (untold_all us)

pub last-append : (o : ℕ) (x : Shown) (ts us : List ToldItem) → last_nil o x (ts ++ us) ≡ last_nil o (last_nil o x ts) us
unfolding last_nil
last-append o x [] us = refl
last-append o x (t ∷ ts) us = last-append o (nil_by o x t.of t.told.body) ts us

none-after : (ts : List Told) → nothing_after false ts ≡ true
none-after [] = refl
none-after (t ∷ ts) = refl

home-cons : (o : ℕ) (t : ToldItem) (ts : List ToldItem) → (home_told o (t ∷ ts) ≡ t.told ∷ home_told o ts) ⊎ (home_told o (t ∷ ts) ≡ home_told o ts)
home-cons o t ts = go ((t.of == 0) && is_look_at o t.told.body) refl
  where
    rest : List ToldItem
    rest = filter (λ x. x.of == o) (map (own_look o) ts)

    own : (b : Bool) → (told_alone (cond b (t ∷ filter (λ x. x.of == o) (map (own_look o) ts)) (filter (λ x. x.of == o) (map (own_look o) ts))) ≡ t.told ∷ home_told o ts)
        ⊎ (told_alone (cond b (t ∷ filter (λ x. x.of == o) (map (own_look o) ts)) (filter (λ x. x.of == o) (map (own_look o) ts))) ≡ home_told o ts)
    own true = inl refl
    own false = inr refl

    go : (a : Bool) → ((t.of == 0) && is_look_at o t.told.body) ≡ a → (home_told o (t ∷ ts) ≡ t.told ∷ home_told o ts) ⊎ (home_told o (t ∷ ts) ≡ home_told o ts)
    go true e = let self = same_number o in inl (rw (e, self) refl)
    go false e = rw e (own (t.of == o))

not-true : (b : Bool) → not b ≡ true → b ≡ false
not-true true h = absurd (cc)
not-true false h = refl

pub ends-asserts : (o : ℕ) (ts : List ToldItem) → ends_last (untold_all ts) ≡ true → asserts_last (home_told o ts) ≡ true
unfolding ends_last asserts_last
ends-asserts o [] h = refl
ends-asserts o (t ∷ []) h = by (home-cons o t [])
  where
    by : (home_told o (t ∷ []) ≡ t.told ∷ []) ⊎ (home_told o (t ∷ []) ≡ []) → asserts_last (home_told o (t ∷ [])) ≡ true
    by (inl e) = ap asserts_last e
    by (inr e) = ap asserts_last e
ends-asserts o (t ∷ u ∷ us) h =
    let parts = and_parts (not (is_end t.told.body)) (ends_last (untold_all (u ∷ us))) h in
    by (no-assert t.told.body (not-true (is_end t.told.body) parts.0)) (ends-asserts o (u ∷ us) parts.1) (home-cons o t (u ∷ us))
  where
    by : is_assert t.told.body ≡ false → asserts_last (home_told o (u ∷ us)) ≡ true
        → (home_told o (t ∷ u ∷ us) ≡ t.told ∷ home_told o (u ∷ us)) ⊎ (home_told o (t ∷ u ∷ us) ≡ home_told o (u ∷ us)) → asserts_last (home_told o (t ∷ u ∷ us)) ≡ true
    by none later (inl e) =
        ap asserts_last e ∙ and_from (nothing_after (is_assert t.told.body) (home_told o (u ∷ us))) (asserts_last (home_told o (u ∷ us)))
        (ap (λ b. nothing_after b (home_told o (u ∷ us))) none ∙ none-after (home_told o (u ∷ us))) later
    by none later (inr e) = ap asserts_last e ∙ later
