-- Floors of words through the phases.
use Rattle.std.proofs.Common.{◌≡◌, ℕ, ◌≤◌, List, [], length, ◌∷◌, ◌++◌, Option, Some, None, sym, ◌∙◌, ap, arith, append-nil, append_assoc}
use Rattle.qp_model.specs.declared.words.Word.{Word}
use Rattle.qp_model.specs.History.{mark_of, touch_of}
use Rattle.qp_model.specs.Told.{ToldItem}
use Rattle.qp_model.proofs.NumberLemmas.{every-append}
use Rattle.qp_calls.specs.LaneView.{Advances, AreBetween, IsBetween, LaneView}
use Rattle.qp_port_phases.specs.Floors.{AddsFrom, AllAdd, AllOver, AllUnder, AreFrom, HasFloor, IsFrom, IsLevel, SameTold}
use Rattle.qp_port_phases.specs.Lanes.{SameEach}

from-one : (floor low high : ℕ) (o : Option ℕ) → floor ≤ low → IsBetween low high o → IsFrom floor o
from-one floor low high None le h = tt
from-one floor low high (Some k) le h = omega (arith, le, h.0)

pub from-between : (w : Word) (floor low high : ℕ) (ts : List ToldItem) → floor ≤ low → AreBetween w low high ts → AreFrom w floor ts
from-between w floor low high [] le h = tt
from-between w floor low high (t ∷ ts) le h = (from-one floor low high (mark_of w (touch_of t.of t.told.body)) le h.0, from-between w floor low high ts le h.1)

-- a lane that knows of as much goes on
adds-then : (floor : Word → ℕ) (u v w : LaneView) → AddsFrom floor u v → ((x : Word) → floor x ≤ v.mark x) → Advances v w → AddsFrom floor u w
adds-then floor u v w a over b = record {
  more = a.more ++ b.more;
  grows = b.grows ∙ ap (λ l. l ++ b.more) a.grows ∙ append_assoc u.told a.more b.more;
  from = λ x. every-append (λ t. IsFrom (floor x) (mark_of x (touch_of t.of t.told.body))) a.more b.more (a.from x) (from-between x (floor x) (v.mark x) (w.mark x) b.more (over x) (b.between x));
}

module _ {T : Type 0} (view : T → LaneView) where
  module _ (Same : T → T → Type 0) (advances : (a b : T) → Same a b → Advances (view a) (view b)) where
    all-then : (floor : Word → ℕ) (xs ys zs : List T) → AllAdd view floor xs ys → AllOver view floor ys → SameEach Same ys zs → AllAdd view floor xs zs
    all-then floor [] [] [] a over same = tt
    all-then floor (x ∷ xs) (y ∷ ys) (z ∷ zs) a over same = (adds-then floor (view x) (view y) (view z) a.0 over.0 (advances y z same.0), all-then floor xs ys zs a.1 over.1 same.1)
    all-then floor [] (y ∷ ys) zs a over same = absurd a
    all-then floor (x ∷ xs) [] zs a over same = absurd a
    all-then floor [] [] (z ∷ zs) a over same = absurd same
    all-then floor (x ∷ xs) (y ∷ ys) [] a over same = absurd same

    pub over-then : (floor : Word → ℕ) (ys zs : List T) → AllOver view floor ys → SameEach Same ys zs → AllOver view floor zs
    over-then floor [] [] over same = tt
    over-then floor (y ∷ ys) (z ∷ zs) over same = ((λ w. let a = over.0 w in let b = (advances y z same.0).rise w in omega (arith, a, b)), over-then floor ys zs over.1 same.1)
    over-then floor [] (z ∷ zs) over same = absurd same
    over-then floor (y ∷ ys) [] over same = absurd same

    pub under-before : (floor : Word → ℕ) (xs ys : List T) → SameEach Same xs ys → AllUnder view floor ys → AllUnder view floor xs
    under-before floor [] [] same h = tt
    under-before floor (x ∷ xs) (y ∷ ys) same h = ((λ w. let a = h.0 w in let b = (advances x y same.0).rise w in omega (arith, a, b)), under-before floor xs ys same.1 h.1)
    under-before floor [] (y ∷ ys) same h = absurd same
    under-before floor (x ∷ xs) [] same h = absurd same

    pub floor-then : (xs ys zs : List T) → HasFloor view xs ys → SameEach Same ys zs → HasFloor view xs zs
    floor-then xs ys zs h same = record { floor = h.floor; under = h.under; adds = all-then h.floor xs ys zs h.adds h.over same; over = over-then h.floor ys zs h.over same }

  pub told-then : (xs ys zs : List T) → SameTold view xs ys → SameTold view ys zs → SameTold view xs zs
  told-then [] [] [] a b = tt
  told-then (x ∷ xs) (y ∷ ys) (z ∷ zs) a b = (b.0 ∙ a.0, told-then xs ys zs a.1 b.1)
  told-then [] (y ∷ ys) zs a b = absurd a
  told-then (x ∷ xs) [] zs a b = absurd a
  told-then [] [] (z ∷ zs) a b = absurd b
  told-then (x ∷ xs) (y ∷ ys) [] a b = absurd b

  none-added : (floor : Word → ℕ) (xs ys : List T) → SameTold view xs ys → AllAdd view floor xs ys
  none-added floor [] [] same = tt
  none-added floor (x ∷ xs) (y ∷ ys) same = (record { more = []; grows = same.0 ∙ sym (append-nil (view x).told); from = λ w. tt }, none-added floor xs ys same.1)
  none-added floor [] (y ∷ ys) same = absurd same
  none-added floor (x ∷ xs) [] same = absurd same

  pub floor-level : (xs ys : List T) → IsLevel view xs ys → HasFloor view xs ys
  floor-level xs ys h = record { floor = h.floor; under = h.under; adds = none-added h.floor xs ys h.told; over = h.over }

-- where there is no lane
pub level-none : {T : Type 0} (view : T → LaneView) (xs : List T) → length xs ≡ 0 → IsLevel view xs xs
level-none view [] e = record { floor = λ w. 0; under = tt; over = tt; told = tt }
level-none view (x ∷ xs) e = absurd (omega (arith, e))
