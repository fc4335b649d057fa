-- Lists of seats and their views.
use Rattle.std.proofs.Common.{◌≡◌, ℕ, zero, suc, ◌<◌, ◌≢◌, ◌==◌, List, [], ◌∷◌, ◌++◌, Bool, true, false, not, cond, ◌&&◌, ◌||◌, length, set, get_or, slice_get, refl, sym, ap, subst, ◌∙◌, arith, eqb-true, Some, None}
use Rattle.std.proofs.lemmas.Option.{slice_get-get_or}
use Rattle.std.proofs.lemmas.Bool.{and_parts}
use Rattle.std.proofs.lemmas.List.Quantifiers.{position-Some}
use Rattle.std.specs.List.{list_any, list_all, filter, position}
use mathlib.Core.Option.{some, some-ne-none}
use lib.ListN.{get_elem?}
use Rattle.qp_model.specs.declared.record.Rec.{Rec}
use Rattle.qp_model.specs.declared.systems.System.{System}
use Rattle.qp_model.specs.declared.words.Word.{Word}
use Rattle.qp_model.specs.declared.words.Word.TheVariants as word
use Rattle.std.specs.declared.option.Option.{Option}
use Rattle.qp_table.specs.Counting.{Each}
use Rattle.qp_table.specs.Rule.{on_queue}
use Rattle.qp_table.specs.After.{logged, passing, failing}
use Rattle.qp_table.specs.declared.view.SeatLog.{SeatLog}
use Rattle.qp_table.specs.declared.view.CellPlace.{CellPlace}
use Rattle.qp_table.specs.declared.view.Serve.{Serve}
use Rattle.qp_table.specs.declared.view.View.{View}
use Rattle.qp_table.specs.Whole.{Unused}
use Rattle.qp_core_steps.specs.Seats.{as_view}
use Rattle.qp_core_steps.specs.Blocks.{give_ended}
use Rattle.qp_core_steps.specs.Looks.{looked}
use Rattle.qp_core.specs.Standing.{AreViews, is_own}
use Rattle.qp_core.specs.State.{stands_as, is_unused, may_pass, in_part, out_part}
use Rattle.qp_core_steps.specs.Steps.{Steps_one}
use Rattle.qp_core_steps.specs.declared.seats.Seat.{Seat}
use Rattle.qp_core_steps.specs.declared.ops.Op.{Op}
use Rattle.qp_core_steps.specs.declared.ops.Op.TheVariants as op
use Rattle.qp_core_steps.proofs.ListLemmas.{none-many}

module _ {A : Type 0} where
  pub each-at : (P : A → Type 0) (xs : List A) (i : ℕ) (x : A) → Each P xs → slice_get xs i ≡ Some x → P x
  each-at P [] i x all e = absurd (cc)
  each-at P (y ∷ xs) zero x all e = let is : y ≡ x = cc in subst P is all.0
  each-at P (y ∷ xs) (suc i) x all e = each-at P xs i x all.1 e

  pub each-set : (P : A → Type 0) (xs : List A) (i : ℕ) (y : A) → Each P xs → P y → Each P (set xs i y)
  each-set P [] i y all one = tt
  each-set P (x ∷ xs) zero y all one = (one, all.1)
  each-set P (x ∷ xs) (suc i) y all one = (all.0, each-set P xs i y all.1 one)

  pub any-set : (t : A → Bool) (xs : List A) (i : ℕ) (x y : A) → slice_get xs i ≡ Some x → t y ≡ t x → list_any t (set xs i y) ≡ list_any t xs
  any-set t [] i x y e same = refl
  any-set t (z ∷ xs) zero x y e same = let is : z ≡ x = cc in ap (λ b. b || list_any t xs) (same ∙ ap t (sym is))
  any-set t (z ∷ xs) (suc i) x y e same = ap (λ b. t z || b) (any-set t xs i x y e same)

  pub any-snoc : (t : A → Bool) (xs : List A) (y : A) → list_any t (xs ++ y ∷ []) ≡ false → (list_any t xs ≡ false) × (t y ≡ false)
  any-snoc t [] y h = go (t y) h
    where
      go : (b : Bool) → (b || false) ≡ false → (false ≡ false) × (b ≡ false)
      go true h = absurd (cc)
      go false h = (refl, refl)
  any-snoc t (x ∷ xs) y h = go (t x) h (any-snoc t xs y)
    where
      go : (b : Bool) → (b || list_any t (xs ++ y ∷ [])) ≡ false → (list_any t (xs ++ y ∷ []) ≡ false → (list_any t xs ≡ false) × (t y ≡ false)) → ((b || list_any t xs) ≡ false) × (t y ≡ false)
      go true h rest = absurd (cc)
      go false h rest = rest h

  pub get-set-else : (xs : List A) (i j : ℕ) (y : A) → i ≢ j → slice_get (set xs j y) i ≡ slice_get xs i
  get-set-else [] i j y ne = refl
  get-set-else (x ∷ xs) zero zero y ne = absurd (ne refl)
  get-set-else (x ∷ xs) zero (suc j) y ne = refl
  get-set-else (x ∷ xs) (suc i) zero y ne = refl
  get-set-else (x ∷ xs) (suc i) (suc j) y ne = get-set-else xs i j y (λ e. ne (ap suc e))

  pub at-below : (xs : List A) (i : ℕ) (x : A) → get_elem? xs i ≡ some x → i < length xs
  at-below [] i x e = absurd (some-ne-none x (sym e))
  at-below (y ∷ xs) zero x e = omega arith
  at-below (y ∷ xs) (suc i) x e = let l = at-below xs i x e in omega arith

-- Views of seats
pub at-view : (xs : List Seat) (vs : List View) → AreViews xs vs → (i : ℕ) (x : Seat) → slice_get xs i ≡ Some x → get_elem? vs i ≡ some (as_view x)
at-view [] [] a i x e = absurd (cc)
at-view [] (v ∷ vs) a i x e = absurd a
at-view (y ∷ xs) [] a i x e = absurd a
at-view (y ∷ xs) (v ∷ vs) a zero x e = let is : y ≡ x = cc in ap some (a.0 ∙ ap as_view is)
at-view (y ∷ xs) (v ∷ vs) a (suc i) x e = at-view xs vs a.1 i x e

pub set-view : (xs : List Seat) (vs : List View) → AreViews xs vs → (i : ℕ) (y : Seat) → AreViews (set xs i y) (set vs i (as_view y))
set-view [] [] a i y = tt
set-view [] (v ∷ vs) a i y = absurd a
set-view (x ∷ xs) [] a i y = absurd a
set-view (x ∷ xs) (v ∷ vs) a zero y = (refl, a.1)
set-view (x ∷ xs) (v ∷ vs) a (suc i) y = (a.0, set-view xs vs a.1 i y)

pub snoc-view : (xs : List Seat) (vs : List View) → AreViews xs vs → (y : Seat) → AreViews (xs ++ y ∷ []) (vs ++ as_view y ∷ [])
snoc-view [] [] a y = (refl, tt)
snoc-view [] (v ∷ vs) a y = absurd a
snoc-view (x ∷ xs) [] a y = absurd a
snoc-view (x ∷ xs) (v ∷ vs) a y = (a.0, snoc-view xs vs a.1 y)

-- Own logs
pub own-some : (n : ℕ) (gs : List SeatLog) → is_own n gs ≡ true → 0 < length gs
own-some n [] h = absurd (cc)
own-some n (g ∷ gs) h = omega arith

pub own-more : (n : ℕ) (gs hs : List SeatLog) → is_own n gs ≡ true → is_own n (gs ++ hs) ≡ true
own-more n [] hs h = absurd (cc)
own-more n (g ∷ gs) hs h = h

own-logged : (n : ℕ) (r : Rec) (gs : List SeatLog) → is_own n (logged r gs) ≡ is_own n gs
own-logged n r [] = refl
own-logged n r (g ∷ gs) = refl

-- a seat that is found by its number
pub found : (n : ℕ) (xs : List Seat) (i : ℕ) (x : Seat) → position (stands_as n) xs ≡ Some i → slice_get xs i ≡ Some x → (x.stands ≡ true) × (x.number ≡ n)
found n xs i x at here =
    let p = position-Some (stands_as n) xs i x at in
    let g = slice_get-get_or xs i x p.0 in
    let is : get_or xs i x ≡ x = cc in
    let b = and_parts x.stands (x.number == n) (subst (λ (z : Seat). stands_as n z ≡ true) is p.1) in
    (b.0, eqb-true x.number n b.1)

-- A step leaves who the seat is
pub record Same (x x' : Seat) : Type 0 where
  pub number : x'.number ≡ x.number
  pub stands : x'.stands ≡ x.stands
  pub own : (n : ℕ) → is_own n x'.logs ≡ is_own n x.logs

same-kept : (x y x' : Seat) → x' ≡ y → y.number ≡ x.number → y.stands ≡ x.stands → y.logs ≡ x.logs → Same x x'
same-kept x y x' e a b c = record { number = ap (λ (z : Seat). z.number) e ∙ a; stands = ap (λ (z : Seat). z.stands) e ∙ b; own = λ n. ap (λ (z : Seat). is_own n z.logs) e ∙ ap (is_own n) c }

same-logged : (x y x' : Seat) (r : Rec) → x' ≡ y → y.number ≡ x.number → y.stands ≡ x.stands → y.logs ≡ logged r x.logs → Same x x'
same-logged x y x' r e a b c = record { number = ap (λ (z : Seat). z.number) e ∙ a; stands = ap (λ (z : Seat). z.stands) e ∙ b; own = λ n. ap (λ (z : Seat). is_own n z.logs) e ∙ (ap (is_own n) c ∙ own-logged n r x.logs) }

same-looked : (words : List ℕ) (x x' : Seat) (w : Word) (rec : Option Rec) → x' ≡ looked words x w rec → Same x x'
same-looked words x x' w (Some r) e = same-logged x (looked words x w (Some r)) x' r e refl refl refl
same-looked words x x' (word.Pool p) None e = same-kept x (looked words x (word.Pool p) None) x' e refl refl refl
same-looked words x x' (word.Block p b) None e = same-kept x (looked words x (word.Block p b) None) x' e refl refl refl
same-looked words x x' (word.Queue a) None e = same-kept x (looked words x (word.Queue a) None) x' e refl refl refl
same-looked words x x' (word.Signal a) None e = same-kept x (looked words x (word.Signal a) None) x' e refl refl refl
same-looked words x x' (word.Timer a) None e = same-kept x (looked words x (word.Timer a) None) x' e refl refl refl

same-ended : (more : Bool) (p b : ℕ) (x y x' : Seat) (r : Rec) → x' ≡ give_ended more p b y → y.number ≡ x.number → y.stands ≡ x.stands → y.logs ≡ logged r x.logs → Same x x'
same-ended true p b x y x' r e c d f = same-logged x y x' r e c d f
same-ended false p b x y x' r e c d f = same-logged x (give_ended false p b y) x' r e c d f

pub steps-same : (sys : System) (words : List ℕ) (x : Seat) (words' : List ℕ) (x' : Seat) (o : Op) → Steps_one sys words x o words' x' → Same x x'
steps-same sys words x words' x' (op.Give p ev) m = same-logged x _ x' m.0 m.3 refl refl refl
steps-same sys words x words' x' (op.Fill p b j n) m = same-kept x _ x' m.1 refl refl refl
steps-same sys words x words' x' (op.Make p b) m = same-ended _ p b x _ x' m.0 m.3 refl refl refl
steps-same sys words x words' x' (op.Drop p b k) m = same-logged x _ x' m.0 m.3 refl refl refl
steps-same sys words x words' x' (op.Back p b) m = same-logged x _ x' m.0 m.3 refl refl refl
steps-same sys words x words' x' (op.Look w rec) m = same-looked words x x' w rec m.1
steps-same sys words x words' x' (op.Read p b j) m = same-kept x x x' m.1 refl refl refl
steps-same sys words x words' x' (op.Peek a) m = same-kept x x x' m.1 refl refl refl
steps-same sys words x words' x' (op.Split into set) m = absurd m
steps-same sys words x words' x' (op.Join from) m = absurd m
steps-same sys words x words' x' (op.Claim a p b k) m = same-logged x _ x' m.0 m.3 refl refl refl
steps-same sys words x words' x' (op.Lay a) m = same-kept x _ x' m.3 refl refl refl
steps-same sys words x words' x' (op.Empty a) m = same-kept x _ x' m.1 refl refl refl
steps-same sys words x words' x' (op.Free a) m = same-logged x _ x' m.0 m.5 refl refl refl
steps-same sys words x words' x' (op.Lifo a p b k) m = same-logged x _ x' m.0 m.3 refl refl refl

-- Objects in a set
pub failing-is : (among : ℕ) (xs : List Serve) → failing (in_part among) xs ≡ filter (out_part among) xs
failing-is among [] = refl
failing-is among (x ∷ xs) = go (in_part among x) (failing-is among xs)
  where
    go : (b : Bool) → failing (in_part among) xs ≡ filter (out_part among) xs → cond b (failing (in_part among) xs) (x ∷ failing (in_part among) xs) ≡ cond (not b) (x ∷ filter (out_part among) xs) (filter (out_part among) xs)
    go true rest = rest
    go false rest = ap (λ ys. x ∷ ys) rest

pub passing-is : (among : ℕ) (xs : List Serve) → passing (in_part among) xs ≡ filter (in_part among) xs
passing-is among [] = refl
passing-is among (x ∷ xs) = go (in_part among x) (passing-is among xs)
  where
    go : (b : Bool) → passing (in_part among) xs ≡ filter (in_part among) xs → cond b (x ∷ passing (in_part among) xs) (passing (in_part among) xs) ≡ cond b (x ∷ filter (in_part among) xs) (filter (in_part among) xs)
    go true rest = ap (λ ys. x ∷ ys) rest
    go false rest = rest

unused-is : (takes : List CellPlace) (x : Serve) → is_unused takes x ≡ true → Unused takes x
unused-is takes x h =
    let a = and_parts ((x.lifos == 0) && (x.takes == 0)) (not (list_any (on_queue x.object) takes)) h in
    let b = and_parts (x.lifos == 0) (x.takes == 0) a.0 in
    record { lifos = eqb-true x.lifos 0 b.0; takes_made = eqb-true x.takes 0 b.1; still = none-many (on_queue x.object) takes (off (list_any (on_queue x.object) takes) a.1) }
  where
    off : (b : Bool) → not b ≡ true → b ≡ false
    off true e = sym e
    off false e = refl

pub all-unused : (takes : List CellPlace) (among : ℕ) (xs : List Serve) → list_all (may_pass takes among) xs ≡ true → Each (Unused takes) (passing (in_part among) xs)
all-unused takes among [] h = tt
all-unused takes among (x ∷ xs) h =
    let b = and_parts (may_pass takes among x) (list_all (may_pass takes among) xs) h in go (in_part among x) b.0 (all-unused takes among xs b.1)
  where
    go : (b : Bool) → (not b || is_unused takes x) ≡ true → Each (Unused takes) (passing (in_part among) xs) → Each (Unused takes) (cond b (x ∷ passing (in_part among) xs) (passing (in_part among) xs))
    go true e rest = (unused-is takes x e, rest)
    go false e rest = rest
