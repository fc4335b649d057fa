-- Which stimulus stands in a look, and whether it is the one that acts there, when a stimulus comes.
use Rattle.std.proofs.Common.{◌≡◌, ℕ, suc, ◌+◌, ◌==◌, Bool, true, false, ◌&&◌, cond, List, [], ◌∷◌, ◌++◌, length, refl, sym, ◌∙◌, ap, subst, arith, Option, Some, None, append_assoc, append-nil}
use Rattle.std.specs.List.{list_any, filter_map}
use Rattle.std.specs.Option.{option_map_or}
use Rattle.std.proofs.lemmas.Bool.{and_from, and_parts, or_parts}
use Rattle.std.proofs.lemmas.List.Elements.{filter_map-append}
use Rattle.std.proofs.lemmas.Bool.Decides.{nat_tests}
use Rattle.qp_model.specs.declared.stimulus.Stim.{Stim}
use Rattle.qp_model.specs.declared.systems.System.{System}
use Rattle.qp_model.specs.declared.bodies.Body.{Body}
use Rattle.qp_model.specs.declared.bodies.Body.TheVariants as body
use Rattle.qp_model.specs.Record.{Item}
use Rattle.qp_model.specs.OneOrder.{Placed, Turn, stim_of, is_stim_at, look_of, turns_at, acts_next, is_turn, look_right, looks_right, items_placed}
use Rattle.qp_model_order.specs.RunOrder.{placed, has_stim, is_right, all_right, thread_of}
use Rattle.qp_model_order.specs.Placing.{LooksNone, AreBehind, all_placed, stim_item}
use Rattle.qp_model_order.proofs.MergeLemmas.{OtherLook, LooksOther}

abbrev pub turn_by : ℕ → ℕ → Item → Option Turn
turn_by lane k i = option_map_or (λ s. cond (s.1 == k) (Some (record { source = lane; place = s.0 })) None) (stim_of i.body) None

abbrev pub turns_in : ℕ → ℕ → List Item → List Turn
turns_in lane k is = filter_map (turn_by lane k) is

no-turn : (lane k : ℕ) (b : Body) → is_stim_at k b ≡ false → turn_by lane k (record { of = 0; body = b }) ≡ None
no-turn lane k (body.Stim p n) h = rw h refl
no-turn lane k _ h = refl

pub turns_in-none : (lane k : ℕ) (is : List Item) → list_any (λ i. is_stim_at k i.body) is ≡ false → turns_in lane k is ≡ []
turns_in-none lane k [] h = refl
turns_in-none lane k (i ∷ is) h =
    let parts = or_parts (is_stim_at k i.body) (list_any (λ j. is_stim_at k j.body) is) h in
    rw (no-turn lane k i.body parts.0, turns_in-none lane k is parts.1) refl

pub turns-none : (lane k : ℕ) (sources : List (List Item)) → has_stim sources k ≡ false → turns_at lane k sources ≡ []
unfolding turns_at
turns-none lane k [] h = refl
turns-none lane k (l ∷ ls) h =
    let parts = or_parts (list_any (λ i. is_stim_at k i.body) l) (has_stim ls k) h in
    rw (turns_in-none lane k l parts.0, turns-none (lane + 1) k ls parts.1) refl

pub turns-split : (lane k : ℕ) (front : List (List Item)) (l : List Item) (back : List (List Item))
    → turns_at lane k (front ++ l ∷ back) ≡ turns_at lane k front ++ (turns_in (lane + length front) k l ++ turns_at (lane + length front + 1) k back)
unfolding turns_at
turns-split lane k [] l back = let zero_more : lane + 0 ≡ lane = omega arith in rw zero_more refl
turns-split lane k (f ∷ front) l back =
    let next : lane + suc (length front) ≡ (lane + 1) + length front = omega arith in
    ap (λ ps. turns_in lane k f ++ ps) (turns-split (lane + 1) k front l back)
    ∙ rw next (sym (append_assoc (turns_in lane k f) (turns_at (lane + 1) k front) (turns_in ((lane + 1) + length front) k l ++ turns_at ((lane + 1) + length front + 1) k back)))

behind-turns : (lane k : ℕ) (cuts : Bool) (g : List Item) → AreBehind cuts g → turns_in lane k g ≡ []
behind-turns lane k cuts [] h = refl
behind-turns lane k cuts (i ∷ is) h = rw (h.0, behind-turns lane k cuts is h.2) refl

module _ (cuts : Bool) (front : List (List Item)) (l : List Item) (back : List (List Item)) (p k : ℕ) (g : List Item) (behind : AreBehind cuts g) where
  abbrev before_it : List (List Item)
  before_it = front ++ l ∷ back

  abbrev with_it : List (List Item)
  with_it = front ++ (l ++ stim_item p k ∷ g) ∷ back

  pub turns-other : (n : ℕ) → (k == n) ≡ false → turns_at 1 n with_it ≡ turns_at 1 n before_it
  turns-other n other =
      let none : turns_in (1 + length front) n (stim_item p k ∷ g) ≡ [] = rw (other, behind-turns (1 + length front) n cuts g behind) refl in
      turns-split 1 n front (l ++ stim_item p k ∷ g) back
      ∙ rw (filter_map-append (turn_by (1 + length front) n) l (stim_item p k ∷ g), none, append-nil (turns_in (1 + length front) n l))
      (sym (turns-split 1 n front l back))

  pub turns-own : has_stim front k ≡ false → list_any (λ i. is_stim_at k i.body) l ≡ false → has_stim back k ≡ false → turns_at 1 k with_it ≡ record { source = 1 + length front; place = p } ∷ []
  turns-own before here after =
      let self : (k == k) ≡ true = grind (arith, nat_tests) in
      let own : turns_in (1 + length front) k (stim_item p k ∷ g) ≡ record { source = 1 + length front; place = p } ∷ [] = rw (self, behind-turns (1 + length front) k cuts g behind) refl in
      turns-split 1 k front (l ++ stim_item p k ∷ g) back
      ∙ rw (filter_map-append (turn_by (1 + length front) k) l (stim_item p k ∷ g), own, turns-none 1 k front before, turns_in-none (1 + length front) k l here, turns-none (1 + length front + 1) k back after) refl

  -- looks with other numbers have what they had
  pub right-other : (sys : System) (stimuli : List (List Stim)) (before xs : List Placed) → LooksOther k (items_placed xs) → all_right sys stimuli with_it before xs ≡ all_right sys stimuli before_it before xs
  unfolding all_right
  right-other sys stimuli before [] h = refl
  right-other sys stimuli before (x ∷ xs) h = rw (right-other sys stimuli (before ++ x ∷ []) xs h.1, by (look_of x.item.body) h.0) refl
    where
      by : (o : Option (ℕ × ℕ)) → OtherLook k o → is_right sys stimuli with_it before o ≡ is_right sys stimuli before_it before o
      by None h = refl
      by (Some y) h = ap (λ ts. is_turn (acts_next sys stimuli before (y.1 == 0)) ts) (turns-other y.0 h)

-- looks and more of them
pub right-append : (sys : System) (stimuli : List (List Stim)) (sources : List (List Item)) (before xs ys : List Placed)
    → all_right sys stimuli sources before (xs ++ ys) ≡ (all_right sys stimuli sources before xs && all_right sys stimuli sources (before ++ xs) ys)
unfolding all_right
right-append sys stimuli sources before [] ys = rw (append-nil before) refl
right-append sys stimuli sources before (x ∷ xs) ys =
    rw (right-append sys stimuli sources (before ++ x ∷ []) xs ys, append_assoc before (x ∷ []) xs)
    (sym (and-assoc (is_right sys stimuli sources before (look_of x.item.body)) (all_right sys stimuli sources (before ++ x ∷ []) xs) (all_right sys stimuli sources (before ++ x ∷ xs) ys)))
  where
    and-assoc : (a b c : Bool) → ((a && b) && c) ≡ (a && (b && c))
    and-assoc true b c = refl
    and-assoc false b c = refl

-- records without a look ask for nothing
pub right-none : (sys : System) (stimuli : List (List Stim)) (sources : List (List Item)) (before : List Placed) (lane : ℕ) (is : List Item) → LooksNone is
    → all_right sys stimuli sources before (all_placed lane is) ≡ true
unfolding all_right
right-none sys stimuli sources before lane [] h = refl
right-none sys stimuli sources before lane (i ∷ is) h = rw h.0 (right-none sys stimuli sources (before ++ placed lane i ∷ []) lane is h.1)

-- where all looks are right, so they are by the law, and the later ones may be judged alone
pub right-looks : (sys : System) (stimuli : List (List Stim)) (lane0 : List Item) (sources : List (List Item)) (cuts : Bool) (before xs ys : List Placed)
    → all_right sys stimuli sources before xs ≡ true → looks_right (thread_of sys stimuli lane0 sources cuts) (before ++ xs) ys ≡ true
    → looks_right (thread_of sys stimuli lane0 sources cuts) before (xs ++ ys) ≡ true
unfolding all_right looks_right look_right
right-looks sys stimuli lane0 sources cuts before [] ys h k = subst (λ z. looks_right (thread_of sys stimuli lane0 sources cuts) z ys ≡ true) (append-nil before) k
right-looks sys stimuli lane0 sources cuts before (x ∷ xs) ys h k =
    let parts = and_parts (is_right sys stimuli sources before (look_of x.item.body)) (all_right sys stimuli sources (before ++ x ∷ []) xs) h in
    and_from _ _ (by (look_of x.item.body) parts.0)
    (right-looks sys stimuli lane0 sources cuts (before ++ x ∷ []) xs ys parts.1 (subst (λ z. looks_right (thread_of sys stimuli lane0 sources cuts) z ys ≡ true) (sym (append_assoc before (x ∷ []) xs)) k))
  where
    by : (o : Option (ℕ × ℕ)) → is_right sys stimuli sources before o ≡ true → look_right (thread_of sys stimuli lane0 sources cuts) before (xs ++ ys) o ≡ true
    by None h = refl
    by (Some l) h = rw h refl
