-- The order of a run with one thread: where a record of lane 0 stands in it, and that each record is one of the lanes'.
use Rattle.std.proofs.Common.{◌≡◌, ◌∙◌, ℕ, ◌+◌, ◌<◌, Bool, true, false, cond, List, [], ◌∷◌, ◌++◌, map, refl, sym, ap, arith, Option, Some, None, append_assoc}
use Rattle.std.specs.List.{AllByRecursion, filter}
use Rattle.std.specs.Option.{option_map_or}
use Rattle.qp_model.specs.Ends.{is_spill}
use Rattle.qp_model.specs.OneOrder.{Placed, belongs, look_of, part_of_look, parts_of_look, spills_from, with_stimuli}
use Rattle.qp_model.specs.Record.{Item}
use Rattle.qp_model_order.specs.RunOrder.{placed}
use Rattle.qp_model.proofs.NumberLemmas.{every-append}
use Rattle.qp_model.proofs.ListLemmas.{every-there}

-- ---- each of these is so

one-or-none : {A : Type 0} (P : A → Type 0) (b : Bool) (x : A) → P x → AllByRecursion P (cond b (x ∷ []) [])
one-or-none P true x h = (h, tt)
one-or-none P false x h = tt

-- a fact of each record of the lanes is one of each record of the order
module _ (P : Item → Type 0) where
  abbrev pub OfRecord : Placed → Type 0
  OfRecord x = P x.item

  part-all : (lane k : ℕ) (cuts within : Bool) (is : List Item) → AllByRecursion P is → AllByRecursion OfRecord (part_of_look lane k cuts within is)
  unfolding part_of_look
  part-all lane k cuts within [] h = tt
  part-all lane k cuts within (i ∷ is) h =
      every-append OfRecord _ _ (one-or-none OfRecord (belongs k cuts within i.body) (placed lane i) h.0) (part-all lane k cuts (belongs k cuts within i.body) is h.1)

  parts-all : (lane k : ℕ) (cuts : Bool) (sources : List (List Item)) → AllByRecursion (AllByRecursion P) sources → AllByRecursion OfRecord (parts_of_look lane k cuts sources)
  unfolding parts_of_look
  parts-all lane k cuts [] h = tt
  parts-all lane k cuts (l ∷ ls) h = every-append OfRecord _ _ (part-all lane k cuts false l h.0) (parts-all (lane + 1) k cuts ls h.1)

  behind-all : (cuts : Bool) (sources : List (List Item)) (o : Option (ℕ × ℕ)) → AllByRecursion (AllByRecursion P) sources
      → AllByRecursion OfRecord (option_map_or (λ l. parts_of_look 1 l.0 cuts sources) o [])
  behind-all cuts sources None h = tt
  behind-all cuts sources (Some l) h = parts-all 1 l.0 cuts sources h

  pub stimuli-all : (cuts : Bool) (sources : List (List Item)) (is : List Item) → AllByRecursion (AllByRecursion P) sources → AllByRecursion P is
      → AllByRecursion OfRecord (with_stimuli cuts sources is)
  unfolding with_stimuli
  stimuli-all cuts sources [] h k = tt
  stimuli-all cuts sources (i ∷ is) h k =
      (k.0, every-append OfRecord _ _ (behind-all cuts sources (look_of i.body) h) (stimuli-all cuts sources is h k.1))

-- ---- a record of lane 0 stands among those of lane 0

abbrev IsOfSource : Placed → Type 0
IsOfSource x = 0 < x.lane

part-source : (lane k : ℕ) (cuts within : Bool) (is : List Item) → 0 < lane → AllByRecursion IsOfSource (part_of_look lane k cuts within is)
unfolding part_of_look
part-source lane k cuts within [] some = tt
part-source lane k cuts within (i ∷ is) some =
    every-append IsOfSource _ _ (one-or-none IsOfSource (belongs k cuts within i.body) (placed lane i) some) (part-source lane k cuts (belongs k cuts within i.body) is some)

parts-source : (lane k : ℕ) (cuts : Bool) (sources : List (List Item)) → 0 < lane → AllByRecursion IsOfSource (parts_of_look lane k cuts sources)
unfolding parts_of_look
parts-source lane k cuts [] some = tt
parts-source lane k cuts (l ∷ ls) some =
    every-append IsOfSource _ _ (part-source lane k cuts false l some) (parts-source (lane + 1) k cuts ls (omega (arith, some)))

behind-source : (cuts : Bool) (sources : List (List Item)) (o : Option (ℕ × ℕ)) → AllByRecursion IsOfSource (option_map_or (λ l. parts_of_look 1 l.0 cuts sources) o [])
behind-source cuts sources None = tt
behind-source cuts sources (Some l) = parts-source 1 l.0 cuts sources (omega arith)

spill-source : (lane : ℕ) (is : List Item) → 0 < lane → AllByRecursion IsOfSource (map (λ i. placed lane i) is)
spill-source lane [] some = tt
spill-source lane (i ∷ is) some = (some, spill-source lane is some)

pub spills-source : (lane : ℕ) (sources : List (List Item)) → 0 < lane → AllByRecursion IsOfSource (spills_from lane sources)
unfolding spills_from
spills-source lane [] some = tt
spills-source lane (l ∷ ls) some =
    every-append IsOfSource _ _ (spill-source lane (filter (λ i. is_spill i.body) l) some) (spills-source (lane + 1) ls (omega (arith, some)))

-- it stands behind all records of sources
record Behind (sources ys before : List Placed) (x : Placed) (behind : List Placed) : Type 0 where
  rest : List Placed
  front : before ≡ sources ++ rest
  at : ys ≡ rest ++ x ∷ behind

stands-behind : (sources ys before : List Placed) (i : Item) (behind : List Placed) → AllByRecursion IsOfSource sources
    → sources ++ ys ≡ before ++ placed 0 i ∷ behind → Behind sources ys before (placed 0 i) behind
stands-behind [] ys before i behind of is = record { rest = before; front = refl; at = is }
stands-behind (s ∷ sources) ys [] i behind of is = let same : s ≡ placed 0 i = cc in let wrong : 0 < 0 = rw same at of.0 in absurd (omega (arith, wrong))
stands-behind (s ∷ sources) ys (b ∷ before) i behind of is =
    let first : s ≡ b = cc in
    let others : sources ++ ys ≡ before ++ placed 0 i ∷ behind = cc in
    let found = stands-behind sources ys before i behind of.1 others in
    record { rest = found.rest; front = ap (λ x. x ∷ before) (sym first) ∙ ap (λ xs. s ∷ xs) found.front; at = found.at }

none-there : (sources before : List Placed) (i : Item) (behind : List Placed) → AllByRecursion IsOfSource sources → sources ≡ before ++ placed 0 i ∷ behind → ⊥
none-there sources before i behind of is =
    let there : AllByRecursion IsOfSource (before ++ placed 0 i ∷ behind) = rw is at of in
    let wrong : 0 < 0 = every-there IsOfSource before (placed 0 i) behind there in
    omega (arith, wrong)

-- where a record of lane 0 stands in the order, lane 0 is parted there
pub record Parted (cuts : Bool) (sources : List (List Item)) (lane0 : List Item) (before : List Placed) (i : Item) : Type 0 where
  pub front : List Item
  pub back : List Item
  pub lane : lane0 ≡ front ++ i ∷ back
  pub merged : before ≡ with_stimuli cuts sources front

pub parted : (cuts : Bool) (sources : List (List Item)) (lane0 : List Item) (tail before : List Placed) (i : Item) (behind : List Placed)
    → AllByRecursion IsOfSource tail → with_stimuli cuts sources lane0 ++ tail ≡ before ++ placed 0 i ∷ behind → Parted cuts sources lane0 before i
unfolding with_stimuli
parted cuts sources [] tail before i behind of is = absurd (none-there tail before i behind of is)
parted cuts sources (j ∷ js) tail [] i behind of is =
    let same : placed 0 j ≡ placed 0 i = cc in
    let item : j ≡ i = ap (λ (x : Placed). x.item) same in
    record { front = []; back = js; lane = rw item refl; merged = refl }
parted cuts sources (j ∷ js) tail (b ∷ before) i behind of is =
    let own : List Placed = option_map_or (λ l. parts_of_look 1 l.0 cuts sources) (look_of j.body) [] in
    let first : placed 0 j ≡ b = cc in
    let others : (own ++ with_stimuli cuts sources js) ++ tail ≡ before ++ placed 0 i ∷ behind = cc in
    let found = stands-behind own (with_stimuli cuts sources js ++ tail) before i behind (behind-source cuts sources (look_of j.body))
    (sym (append_assoc own (with_stimuli cuts sources js) tail) ∙ others) in
    let next = parted cuts sources js tail found.rest i behind of found.at in
    record {
      front = j ∷ next.front;
      back = next.back;
      lane = ap (λ ks. j ∷ ks) next.lane;
      merged = ap (λ x. x ∷ before) (sym first) ∙ ap (λ xs. placed 0 j ∷ xs) (found.front ∙ ap (λ xs. own ++ xs) next.merged);
    }
