-- One operation of a walk over a history.
use Rattle.std.proofs.Common.{◌≡◌, ℕ, ◌+◌, ◌≤◌, Bool, true, false, ◌&&◌, List, [], ◌∷◌, refl, ap, sym, ◌∙◌, arith}
use Rattle.qp_model.specs.declared.bodies.Body.{Body}
use Rattle.qp_model.specs.Record.{Item}
use Rattle.qp_model.specs.Machine.{Machine, after_from, allowed_from}
use Rattle.qp_check_lanes.specs.WordState.{item_said, all_say, shows_from}

pub count-step : {S : Type 0} (m n : Machine S) → n ≡ m → (s t : S) (i : ℕ) → n.count t ≤ n.count s + 1 → m.count s ≤ i → m.count t ≤ i + 1
count-step m n same s t i le within =
    let a : n.count t ≡ m.count t = ap (λ k. k.count t) same in
    let b : n.count s ≡ m.count s = ap (λ k. k.count s) same in
    omega arith

module _ {S : Type 0} (m n : Machine S) (same : n ≡ m) (s : S) (o : ℕ) (b c : Body) (read : c ≡ b) where
  may-is : n.may s (item_said o c) ≡ m.may s (item_said o b)
  may-is = rw (same, read) refl

  next-is : n.next s (item_said o c) ≡ m.next s (item_said o b)
  next-is = rw (same, read) refl

  module _ (whole : Bool) (left rest : List Item) (begins : left ≡ item_said o b ∷ rest) (goes : whole ≡ allowed_from m s left) where
    allowed-step : whole ≡ (m.may s (item_said o b) && allowed_from m (m.next s (item_said o b)) rest)
    unfolding allowed_from
    allowed-step = goes ∙ ap (allowed_from m s) begins

    -- an operation that isn't allowed
    pub allowed-not : false ≡ n.may s (item_said o c) → false ≡ whole
    allowed-not refused = sym (allowed-step ∙ ap (λ x. x && allowed_from m (m.next s (item_said o b)) rest) (sym (refused ∙ may-is)))

    -- one that is
    pub allowed-next : true ≡ n.may s (item_said o c) → (t : S) → t ≡ n.next s (item_said o c) → whole ≡ allowed_from m t rest
    allowed-next granted t is =
        allowed-step
        ∙ ap (λ x. x && allowed_from m (m.next s (item_said o b)) rest) (sym (granted ∙ may-is))
        ∙ ap (λ u. allowed_from m u rest) (sym (is ∙ next-is))

  module _ (whole : Bool) (left rest : List Item) (shown later : List (List Item)) (g : List Item) (begins : left ≡ item_said o b ∷ rest) (shows : shown ≡ g ∷ later) (goes : whole ≡ shows_from m s left shown) where
    shows-step : whole ≡ (all_say m s g && shows_from m (m.next s (item_said o b)) rest later)
    unfolding shows_from
    shows-step = goes ∙ ap (λ is. shows_from m s is shown) begins ∙ ap (shows_from m s (item_said o b ∷ rest)) shows

    say-is : all_say n s g ≡ all_say m s g
    say-is = ap (λ k. all_say k s g) same

    -- what is shown before an operation isn't so
    pub shows-not : false ≡ all_say n s g → false ≡ whole
    shows-not refused = sym (shows-step ∙ ap (λ x. x && shows_from m (m.next s (item_said o b)) rest later) (sym (refused ∙ say-is)))

    -- it is so
    pub shows-next : true ≡ all_say n s g → (t : S) → t ≡ n.next s (item_said o c) → whole ≡ shows_from m t rest later
    shows-next granted t is =
        shows-step
        ∙ ap (λ x. x && shows_from m (m.next s (item_said o b)) rest later) (sym (granted ∙ say-is))
        ∙ ap (λ u. shows_from m u rest later) (sym (is ∙ next-is))

-- behind the last operation
pub shows-last : {S : Type 0} (m n : Machine S) → n ≡ m → (s : S) (whole : Bool) (left : List Item) (shown : List (List Item)) (g : List Item) → left ≡ [] → shown ≡ g ∷ [] → whole ≡ shows_from m s left shown → all_say n s g ≡ whole
unfolding shows_from
shows-last m n same s whole left shown g none shows goes =
    ap (λ k. all_say k s g) same ∙ sym (goes ∙ ap (λ is. shows_from m s is shown) none ∙ ap (shows_from m s []) shows)

-- one operation of a walk
pub run-next : {S : Type 0} (m n : Machine S) → n ≡ m → (s : S) (o : ℕ) (b c : Body) → c ≡ b → (whole : S) (left rest : List Item) → left ≡ item_said o b ∷ rest → whole ≡ after_from m s left
    → (t : S) → t ≡ n.next s (item_said o c) → whole ≡ after_from m t rest
unfolding after_from
run-next m n same s o b c read whole left rest begins goes t is =
    let next : n.next s (item_said o c) ≡ m.next s (item_said o b) = rw (same, read) refl in
    goes ∙ ap (after_from m s) begins ∙ ap (λ u. after_from m u rest) (sym (is ∙ next))
