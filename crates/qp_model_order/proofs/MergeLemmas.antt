-- Lane 0 with each stimulus behind its look, when records come to a lane.
use Rattle.std.proofs.Common.{◌≡◌, ℕ, suc, ◌+◌, ◌==◌, Bool, true, false, cond, List, [], ◌∷◌, ◌++◌, length, refl, sym, ◌∙◌, ap, arith, Option, Some, None, append_assoc, append-nil}
use Rattle.std.specs.List.{list_any}
use Rattle.std.specs.Option.{option_map_or}
use Rattle.std.proofs.lemmas.Bool.{or_parts}
use Rattle.std.proofs.lemmas.Bool.Decides.{nat_tests}
use Rattle.qp_model.specs.declared.bodies.Body.{Body}
use Rattle.qp_model.specs.declared.bodies.Body.TheVariants as body
use Rattle.qp_model.specs.Record.{Item}
use Rattle.qp_model.specs.OneOrder.{Turn, is_stim_at, look_of, belongs, part_of_look, parts_of_look, with_stimuli}
use Rattle.qp_model_order.specs.RunOrder.{placed, has_stim}
use Rattle.qp_model_order.specs.Placing.{look_item, stim_item, all_placed, LooksNone, AreBehind}

-- a look with another number, or no look
abbrev pub OtherLook : ℕ → Option (ℕ × ℕ) → Type 0
OtherLook k None = Unit {0}
OtherLook k (Some x) = (k == x.0) ≡ false

abbrev pub LooksOther : ℕ → List Item → Type 0
LooksOther k [] = Unit {0}
LooksOther k (i ∷ is) = OtherLook k (look_of i.body) × LooksOther k is

-- lane 0 and one record more
pub stimuli-append : (cuts : Bool) (sources : List (List Item)) (lane0 more : List Item)
    → with_stimuli cuts sources (lane0 ++ more) ≡ with_stimuli cuts sources lane0 ++ with_stimuli cuts sources more
unfolding with_stimuli
stimuli-append cuts sources [] more = refl
stimuli-append cuts sources (j ∷ js) more =
    let own = option_map_or (λ x. parts_of_look 1 x.0 cuts sources) (look_of j.body) [] in
    ap (λ ps. placed 0 j ∷ own ++ ps) (stimuli-append cuts sources js more)
    ∙ ap (λ ps. placed 0 j ∷ ps) (sym (append_assoc own (with_stimuli cuts sources js) (with_stimuli cuts sources more)))

pub stimuli-none : (cuts : Bool) (sources : List (List Item)) (is : List Item) → LooksNone is → with_stimuli cuts sources is ≡ all_placed 0 is
unfolding with_stimuli
stimuli-none cuts sources [] h = refl
stimuli-none cuts sources (i ∷ is) h = rw (h.0, stimuli-none cuts sources is h.1) refl

-- Of a look that has no `stim` nothing is taken.
stimless : (k : ℕ) (cuts : Bool) (b : Body) → is_stim_at k b ≡ false → belongs k cuts false b ≡ false
stimless k cuts (body.Stim p n) h = h
stimless k cuts _ h = refl

pub part-none : (lane k : ℕ) (cuts : Bool) (is : List Item) → list_any (λ i. is_stim_at k i.body) is ≡ false → part_of_look lane k cuts false is ≡ []
unfolding part_of_look
part-none lane k cuts [] h = refl
part-none lane k cuts (i ∷ is) h =
    let parts = or_parts (is_stim_at k i.body) (list_any (λ j. is_stim_at k j.body) is) h in
    rw (stimless k cuts i.body parts.0) (part-none lane k cuts is parts.1)

pub parts-none : (lane k : ℕ) (cuts : Bool) (sources : List (List Item)) → has_stim sources k ≡ false → parts_of_look lane k cuts sources ≡ []
unfolding parts_of_look
parts-none lane k cuts [] h = refl
parts-none lane k cuts (l ∷ ls) h =
    let parts = or_parts (list_any (λ i. is_stim_at k i.body) l) (has_stim ls k) h in
    rw (part-none lane k cuts l parts.0, parts-none (lane + 1) k cuts ls parts.1) refl

pub behind-all : (lane k : ℕ) (cuts : Bool) (is : List Item) → AreBehind cuts is → part_of_look lane k cuts true is ≡ all_placed lane is
unfolding part_of_look
behind-all lane k cuts [] h = refl
behind-all lane k cuts (i ∷ is) h = rw (h.0, h.1, behind-all lane k cuts is h.2) refl

pub behind-none : (lane k : ℕ) (cuts : Bool) (is : List Item) → AreBehind cuts is → part_of_look lane k cuts false is ≡ []
unfolding part_of_look
behind-none lane k cuts [] h = refl
behind-none lane k cuts (i ∷ is) h = rw (h.0, behind-none lane k cuts is h.2) refl

-- the lanes before one, that one, and those behind it
pub parts-split : (lane k : ℕ) (cuts : Bool) (front : List (List Item)) (l : List Item) (back : List (List Item))
    → parts_of_look lane k cuts (front ++ l ∷ back) ≡ parts_of_look lane k cuts front ++ (part_of_look (lane + length front) k cuts false l ++ parts_of_look (lane + length front + 1) k cuts back)
unfolding parts_of_look
parts-split lane k cuts [] l back = let zero_more : lane + 0 ≡ lane = omega arith in rw zero_more refl
parts-split lane k cuts (f ∷ front) l back =
    let next : lane + suc (length front) ≡ (lane + 1) + length front = omega arith in
    ap (λ ps. part_of_look lane k cuts false f ++ ps) (parts-split (lane + 1) k cuts front l back)
    ∙ rw next (sym (append_assoc (part_of_look lane k cuts false f) (parts_of_look (lane + 1) k cuts front) (part_of_look ((lane + 1) + length front) k cuts false l ++ parts_of_look ((lane + 1) + length front + 1) k cuts back)))

abbrev pub within_after : ℕ → Bool → Bool → List Item → Bool
within_after k cuts within [] = within
within_after k cuts within (i ∷ is) = within_after k cuts (belongs k cuts within i.body) is

pub part-append : (lane k : ℕ) (cuts within : Bool) (l more : List Item)
    → part_of_look lane k cuts within (l ++ more) ≡ part_of_look lane k cuts within l ++ part_of_look lane k cuts (within_after k cuts within l) more
unfolding part_of_look
part-append lane k cuts within [] more = refl
part-append lane k cuts within (i ∷ is) more =
    let one = cond (belongs k cuts within i.body) (placed lane i ∷ []) [] in
    ap (λ ps. one ++ ps) (part-append lane k cuts (belongs k cuts within i.body) is more)
    ∙ sym (append_assoc one (part_of_look lane k cuts (belongs k cuts within i.body) is) (part_of_look lane k cuts (within_after k cuts (belongs k cuts within i.body) is) more))

block-own : (lane k p : ℕ) (cuts within : Bool) (g : List Item) → AreBehind cuts g → part_of_look lane k cuts within (stim_item p k ∷ g) ≡ all_placed lane (stim_item p k ∷ g)
unfolding part_of_look
block-own lane k p cuts within g h = let self : (k == k) ≡ true = grind (arith, nat_tests) in rw (self, behind-all lane k cuts g h) refl

block-other : (lane n k p : ℕ) (cuts within : Bool) (g : List Item) → (k == n) ≡ false → AreBehind cuts g → part_of_look lane n cuts within (stim_item p k ∷ g) ≡ []
unfolding part_of_look
block-other lane n k p cuts within g other h = rw (other, behind-none lane n cuts g h) refl

module _ (cuts : Bool) (front : List (List Item)) (l : List Item) (back : List (List Item)) (p k : ℕ) (g : List Item) (behind : AreBehind cuts g) where
  abbrev pub old_sources : List (List Item)
  old_sources = front ++ l ∷ back

  abbrev pub new_sources : List (List Item)
  new_sources = front ++ (l ++ stim_item p k ∷ g) ∷ back

  parts-other : (n : ℕ) → (k == n) ≡ false → parts_of_look 1 n cuts new_sources ≡ parts_of_look 1 n cuts old_sources
  parts-other n other =
      parts-split 1 n cuts front (l ++ stim_item p k ∷ g) back
      ∙ rw (part-append (1 + length front) n cuts false l (stim_item p k ∷ g), block-other (1 + length front) n k p cuts (within_after n cuts false l) g other behind, append-nil (part_of_look (1 + length front) n cuts false l))
      (sym (parts-split 1 n cuts front l back))

  parts-own : has_stim front k ≡ false → list_any (λ i. is_stim_at k i.body) l ≡ false → has_stim back k ≡ false
      → parts_of_look 1 k cuts new_sources ≡ all_placed (1 + length front) (stim_item p k ∷ g)
  parts-own before here after =
      parts-split 1 k cuts front (l ++ stim_item p k ∷ g) back
      ∙ rw (part-append (1 + length front) k cuts false l (stim_item p k ∷ g), parts-none 1 k cuts front before, part-none (1 + length front) k cuts l here, parts-none (1 + length front + 1) k cuts back after, block-own (1 + length front) k p cuts (within_after k cuts false l) g behind)
      (append-nil (all_placed (1 + length front) (stim_item p k ∷ g)))

  -- the looks before have what they had
  pub stimuli-other : (lane0 : List Item) → LooksOther k lane0 → with_stimuli cuts new_sources lane0 ≡ with_stimuli cuts old_sources lane0
  unfolding with_stimuli
  stimuli-other [] h = refl
  stimuli-other (j ∷ js) h = rw (stimuli-other js h.1) (ap (λ ps. placed 0 j ∷ ps ++ with_stimuli cuts old_sources js) (by (look_of j.body) h.0))
    where
      by : (o : Option (ℕ × ℕ)) → OtherLook k o → option_map_or (λ x. parts_of_look 1 x.0 cuts new_sources) o [] ≡ option_map_or (λ x. parts_of_look 1 x.0 cuts old_sources) o []
      by None h = refl
      by (Some x) h = parts-other x.0 h

  -- the last look has the stimulus
  pub stimulus-merged : (lane0 : List Item) (floor : ℕ) → LooksOther k lane0 → has_stim front k ≡ false → list_any (λ i. is_stim_at k i.body) l ≡ false → has_stim back k ≡ false
      → with_stimuli cuts new_sources (lane0 ++ look_item k floor ∷ []) ≡ with_stimuli cuts old_sources lane0 ++ placed 0 (look_item k floor) ∷ all_placed (1 + length front) (stim_item p k ∷ g)
  unfolding with_stimuli
  stimulus-merged lane0 floor others before here after =
      stimuli-append cuts new_sources lane0 (look_item k floor ∷ [])
      ∙ rw (stimuli-other lane0 others, parts-own before here after, append-nil (all_placed (1 + length front) (stim_item p k ∷ g))) refl

  -- the stimulus that stands in the look
  turn : Turn
  turn = record { source = 1 + length front; place = p }
