-- What a step of any seat does, and that the rule stands after it.
use Rattle.std.proofs.Common.{◌≡◌, ℕ, zero, suc, ◌+◌, ◌<◌, ◌≢◌, ◌==◌, List, [], ◌∷◌, ◌++◌, Bool, true, false, not, ◌&&◌, length, set, take, get_or, slice_get, refl, sym, ap, subst, ◌∙◌, arith, eq-eqb, ne_eqb, Option, Some, Ok, Err, is_some}
use Rattle.std.specs.Bool.{MatchBool}
use Rattle.std.specs.declared.result.Result.{Result}
use Rattle.std.proofs.lemmas.Option.{slice_get-get_or, slice_get_read}
use Rattle.std.proofs.lemmas.Bool.{and_parts}
use Rattle.std.proofs.lemmas.List.{set_comm}
use Rattle.std.proofs.lemmas.List.Quantifiers.{position-Some}
use Rattle.std.specs.List.{list_any, list_all, filter, position}
use Rattle.std.specs.Option.{option_map_or}
use Rattle.qp_model.specs.declared.systems.System.{System}
use Rattle.qp_model.proofs.ListLemmas.{take-next}
use Rattle.qp_base.specs.declared.faults.Memory.{Memory}
use Rattle.qp_table.specs.declared.view.Serve.{Serve}
use Rattle.qp_core_steps.specs.Words.{StepsAs}
use Rattle.qp_core_steps.specs.Keeps.{HasOwn, StepKeeps}
use Rattle.qp_core.specs.Standing.{has_number, TableHolds}
use Rattle.qp_core.specs.State.{stands_as, seat_in, bare_seat, serves_set, may_pass, may_split, out_part, giving_up, split_off, may_join, joining, Joins, StepsSeat, may_change, Changes, may_apply, Applies}
use Rattle.qp_core_steps.specs.Steps.{may_step, Steps_one}
use Rattle.qp_core.specs.Runs.{HoldsOf, CoreRuns, LeadsTo, RefusesStep}
use Rattle.qp_core_steps.specs.declared.seats.Seat.{Seat}
use Rattle.qp_core.specs.declared.state.CoreState.{CoreState}
use Rattle.qp_core_steps.specs.declared.ops.Op.{Op}
use Rattle.qp_core_steps.specs.declared.ops.Op.TheVariants as op
use Rattle.qp_core.proofs.SeatLemmas.{get-set-else, found, steps-same}
use Rattle.qp_core.proofs.TableLemmas.{has-own, step-holds, join-holds, split-holds}

-- Lists

module _ {A : Type 0} where
  set-longer : (xs ys : List A) (i : ℕ) (x y : A) → slice_get xs i ≡ Some x → set (xs ++ ys) i y ≡ set xs i y ++ ys
  set-longer [] ys i x y e = absurd (cc)
  set-longer (z ∷ xs) ys zero x y e = refl
  set-longer (z ∷ xs) ys (suc i) x y e = ap (λ zs. z ∷ zs) (set-longer xs ys i x y e)

  get-longer : (xs ys : List A) (i : ℕ) (x : A) → slice_get xs i ≡ Some x → slice_get (xs ++ ys) i ≡ Some x
  get-longer [] ys i x e = absurd (cc)
  get-longer (z ∷ xs) ys zero x e = e
  get-longer (z ∷ xs) ys (suc i) x e = get-longer xs ys i x e

  set-twice : (xs : List A) (i : ℕ) (x y : A) → set (set xs i x) i y ≡ set xs i y
  set-twice [] i x y = refl
  set-twice (z ∷ xs) zero x y = refl
  set-twice (z ∷ xs) (suc i) x y = ap (λ zs. z ∷ zs) (set-twice xs i x y)

  set-same : (xs : List A) (i : ℕ) (x : A) → slice_get xs i ≡ Some x → set xs i x ≡ xs
  set-same [] i x e = refl
  set-same (z ∷ xs) zero x e = let is : z ≡ x = cc in ap (λ y. y ∷ xs) (sym is)
  set-same (z ∷ xs) (suc i) x e = ap (λ zs. z ∷ zs) (set-same xs i x e)

-- A seat is split off

split-made : (seats pushed after : List Seat) (at : ℕ) (x : Seat) (kept : List Serve) (part : Seat) → slice_get seats at ≡ Some x → pushed ≡ seats ++ part ∷ [] → ((z : Seat) → slice_get pushed at ≡ Some z → after ≡ set pushed at (record z { serves = kept }))
    → after ≡ set seats at (record x { serves = kept }) ++ part ∷ []
split-made seats pushed after at x kept part here e puts =
    puts x (subst (λ ys. slice_get ys at ≡ Some x) (sym e) (get-longer seats (part ∷ []) at x here)) ∙ (ap (λ ys. set ys at (record x { serves = kept })) e ∙ set-longer seats (part ∷ []) at x (record x { serves = kept }) here)

pub split-ok : (seats pushed after : List Seat) (at lanes into among : ℕ) (z x : Seat) (may : Bool) (kept : List Serve) (part : Seat) → slice_get seats at ≡ Some z → may ≡ may_split seats z into among → may ≡ true → part ≡ split_off lanes into among z → kept ≡ filter (out_part among) z.serves
    → pushed ≡ seats ++ part ∷ [] → ((y : Seat) → slice_get pushed at ≡ Some y → after ≡ set pushed at (record y { serves = kept })) → slice_get seats at ≡ Some x
    → (true ≡ may_split seats x into among) × (after ≡ set seats at (giving_up among x) ++ split_off lanes into among x ∷ [])
split-ok seats pushed after at lanes into among z x may kept part there may_is yes_is part_is kept_is pushed_is puts here =
    let same : z ≡ x = cc in
    let kept_as : kept ≡ filter (out_part among) x.serves = kept_is ∙ ap (λ (y : Seat). filter (out_part among) y.serves) same in
    let part_as : part ≡ split_off lanes into among x = part_is ∙ ap (split_off lanes into among) same in
    let made = split-made seats pushed after at x kept part here pushed_is puts in
    let ends : set seats at (record x { serves = kept }) ++ part ∷ [] ≡ set seats at (giving_up among x) ++ split_off lanes into among x ∷ [] = λ k. set seats at (record x { serves = kept_as k }) ++ part_as k ∷ [] in
    (sym yes_is ∙ (may_is ∙ ap (λ (y : Seat). may_split seats y into among) same), made ∙ ends)

-- A seat is taken over

apart-of : (seats : List Seat) (at there from : ℕ) (x y : Seat) → slice_get seats at ≡ Some x → (x.number ≡ from → ⊥) → slice_get seats there ≡ Some y → y.number ≡ from → at ≢ there
apart-of seats at there from x y here ne elsewhere is e = let f : slice_get seats there ≡ Some x = subst (λ k. slice_get seats k ≡ Some x) e here in let same : x ≡ y = cc in ne (ap (λ (z : Seat). z.number) same ∙ is)

module _ (seats s1 s2 : List Seat) (at there from : ℕ) (z x y b c d : Seat) (p : Option ℕ) (found_z : slice_get seats at ≡ Some z) (ne_z : z.number ≡ from → ⊥) (p_is : p ≡ position (stands_as from) seats) (p_at : p ≡ Some there) (elsewhere : slice_get seats there ≡ Some y) (h1 : s1 ≡ set seats there b) (first : slice_get s1 at ≡ Some c)
    (h2 : s2 ≡ set s1 at d) (here : slice_get seats at ≡ Some x) where
  z-is : z ≡ x
  z-is = cc

  ne-x : x.number ≡ from → ⊥
  ne-x e = ne_z (ap (λ (w : Seat). w.number) z-is ∙ e)

  is : position (stands_as from) seats ≡ Some there
  is = sym p_is ∙ p_at

  apart : at ≢ there
  apart = apart-of seats at there from x y here ne-x elsewhere (found from seats there y is elsewhere).1

  c-is : c ≡ x
  c-is = let g = get-set-else seats at there b apart in let f : slice_get (set seats there b) at ≡ Some c = subst (λ ys. slice_get ys at ≡ Some c) h1 first in cc

  pub join-ok : (e : Seat) (s3 : List Seat) → b ≡ bare_seat from false → e ≡ joining c y → s3 ≡ set s2 at e → (true ≡ may_join seats x from) × Joins seats at x from s3
  join-ok e s3 b_is e_is h3 =
      let n : (x.number == from) ≡ false = ne_eqb x.number from ne-x in
      let may : may_join seats x from ≡ true = ap (λ o. not (x.number == from) && is_some o) is ∙ ap (λ t. not t && true) n in
      let ends : set s1 at e ≡ set (set seats there (bare_seat from false)) at (joining x y) = (λ k. set (h1 k) at (e_is k)) ∙ (λ k. set (set seats there (b_is k)) at (joining (c-is k) y)) in
      (sym may, (there, y, is, elsewhere, h3 ∙ (ap (λ ys. set ys at e) h2 ∙ (set-twice s1 at d e ∙ ends))))

  pub join-err : (e f : Seat) (s3 s4 : List Seat) → e ≡ c → f ≡ y → s3 ≡ set s2 at e → s4 ≡ set s3 there f → s4 ≡ seats
  join-err e f s3 s4 e_is f_is h3 h4 =
      let back : s3 ≡ set (set seats there b) at x = h3 ∙ (ap (λ ys. set ys at e) h2 ∙ (set-twice s1 at d e ∙ (λ k. set (h1 k) at ((e_is ∙ c-is) k)))) in
      let both : s4 ≡ set (set (set seats there b) at x) there y = h4 ∙ (λ k. set (back k) there (f_is k)) in
      both ∙ (set_comm (set seats there b) at there x y apart ∙ (ap (λ ys. set ys at x) (set-twice seats there b y ∙ set-same seats there y elsewhere) ∙ set-same seats at x here))

-- A seat takes a step by itself

pub step-at-made : (sys : System) (lanes : ℕ) (words : List ℕ) (seats s1 s2 : List Seat) (at : ℕ) (z b x' x : Seat) (o : Op) (words' : List ℕ) (r : Result Bool Memory) → slice_get seats at ≡ Some z → s1 ≡ set seats at b → s2 ≡ set s1 at x'
    → StepsAs (may_step sys lanes words z o) (Steps_one sys words z o words' x') ((words' ≡ words) × (x' ≡ z)) r → (HasOwn lanes z → StepKeeps sys words z words' x') → slice_get seats at ≡ Some x → StepsSeat sys lanes words seats at x o words' s2 r
step-at-made sys lanes words seats s1 s2 at z b x' x o words' r there h1 h2 one kept here =
    let same : z ≡ x = cc in
    let t : StepsAs (may_step sys lanes words x o) (Steps_one sys words x o words' x') ((words' ≡ words) × (x' ≡ x)) r = subst (λ (y : Seat). StepsAs (may_step sys lanes words y o) (Steps_one sys words y o words' x') ((words' ≡ words) × (x' ≡ y)) r) same one in
    let k : HasOwn lanes x → StepKeeps sys words x words' x' = subst (λ (y : Seat). HasOwn lanes y → StepKeeps sys words y words' x') same kept in
    (x', h2 ∙ (ap (λ ys. set ys at x') h1 ∙ set-twice seats at b x'), t, k)

-- Steps

steps-map : (may may' : Bool) (made made' same same' : Type 0) → may' ≡ may → (made → made') → (same → same') → (r : Result Bool Memory) → StepsAs may made same r → StepsAs may' made' same' r
steps-map may may' made made' same same' e f g (Ok true) h = (h.0 ∙ sym e, f h.1)
steps-map may may' made made' same same' e f g (Ok false) h = (h.0 ∙ sym e, g h.1)
steps-map may may' made made' same same' e f g (Err u) h = g h

steps-then : (may : Bool) (made same P : Type 0) → (may ≡ true → made → P) → (same → P) → (r : Result Bool Memory) → StepsAs may made same r → P
steps-then may made same P f g (Ok true) h = f (sym h.0) h.1
steps-then may made same P f g (Ok false) h = g h.1
steps-then may made same P f g (Err u) h = g h

module _ (s : CoreState) (n at : ℕ) (place : position (stands_as n) s.seats ≡ Some at) where
  abbrev x : Seat
  x = get_or s.seats at (bare_seat 0 false)

  pub within : at < length s.seats
  within = (position-Some (stands_as n) s.seats at (bare_seat 0 false) place).0

  pub here : slice_get s.seats at ≡ Some x
  here = slice_get-get_or s.seats at (bare_seat 0 false) within

  stands : (x.stands ≡ true) × (x.number ≡ n)
  stands = found n s.seats at x place here

  may-is : (o : Op) → may_apply s n o ≡ may_change s x o
  may-is o = ap (λ p. option_map_or (λ z. may_change s z o) (seat_in s.seats p) false) place ∙ ap (λ q. option_map_or (λ z. may_change s z o) q false) here

  module _ (seats' : List Seat) (r : Result Bool Memory) where
    abbrev s' : CoreState
    s' = record s { seats = seats' }

    -- Split
    module _ (lanes into among : ℕ) (lanes_is : lanes ≡ s.lanes)
        (g : (z : Seat) → slice_get s.seats at ≡ Some z → StepsAs (may_split s.seats z into among) (seats' ≡ set s.seats at (giving_up among z) ++ split_off lanes into among z ∷ []) (seats' ≡ s.seats) r) where
      h : StepsAs (may_split s.seats x into among) (seats' ≡ set s.seats at (giving_up among x) ++ split_off s.lanes into among x ∷ []) (seats' ≡ s.seats) r
      h = subst (λ n. StepsAs (may_split s.seats x into among) (seats' ≡ set s.seats at (giving_up among x) ++ split_off n into among x ∷ []) (seats' ≡ s.seats) r) lanes_is (g x here)

      split-step : StepsAs (may_apply s n (op.Split into among)) (Applies s n (op.Split into among) s') (s' ≡ s) r
      split-step = steps-map (may_split s.seats x into among) (may_apply s n (op.Split into among)) (seats' ≡ set s.seats at (giving_up among x) ++ split_off s.lanes into among x ∷ []) (Applies s n (op.Split into among) s') (seats' ≡ s.seats) (s' ≡ s)
          (may-is (op.Split into among)) (λ e. (at, x, place, here, ap (λ ys. record s { seats = ys }) e)) (λ e. ap (λ ys. record s { seats = ys }) e) r h

      pub split-one : (o : Op) → o ≡ op.Split into among → StepsAs (may_apply s n o) (Applies s n o s') (s' ≡ s) r
      split-one o is = subst (λ z. StepsAs (may_apply s n z) (Applies s n z s') (s' ≡ s) r) (sym is) split-step

      pub split-kept : HoldsOf s → HoldsOf s'
      split-kept t = steps-then (may_split s.seats x into among) (seats' ≡ set s.seats at (giving_up among x) ++ split_off s.lanes into among x ∷ []) (seats' ≡ s.seats) (HoldsOf s')
          (λ may e. let a = and_parts (not (list_any (has_number into) s.seats) && serves_set 32 among x.serves) (list_all (may_pass x.takes among) x.serves) may in
          let b = and_parts (not (list_any (has_number into) s.seats)) (serves_set 32 among x.serves) a.0 in
          subst (TableHolds s.sys.now s.lanes s.words) (sym e) (split-holds s.sys.now s.lanes s.words s.seats t at x here into among (off (list_any (has_number into) s.seats) b.0) a.1))
          (λ e. subst (TableHolds s.sys.now s.lanes s.words) (sym e) t) r h
        where
          off : (b : Bool) → not b ≡ true → b ≡ false
          off true e = sym e
          off false e = refl

    -- Join
    module _ (from : ℕ) (h : (z : Seat) → slice_get s.seats at ≡ Some z → StepsAs (may_join s.seats z from) (Joins s.seats at z from seats') (seats' ≡ s.seats) r) where
      join-step : StepsAs (may_apply s n (op.Join from)) (Applies s n (op.Join from) s') (s' ≡ s) r
      join-step = steps-map (may_join s.seats x from) (may_apply s n (op.Join from)) (Joins s.seats at x from seats') (Applies s n (op.Join from) s') (seats' ≡ s.seats) (s' ≡ s)
          (may-is (op.Join from)) (λ e. (at, x, place, here, (e, refl))) (λ e. ap (λ ys. record s { seats = ys }) e) r (h x here)

      pub join-one : (o : Op) → o ≡ op.Join from → StepsAs (may_apply s n o) (Applies s n o s') (s' ≡ s) r
      join-one o is = subst (λ z. StepsAs (may_apply s n z) (Applies s n z s') (s' ≡ s) r) (sym is) join-step

      pub join-kept : HoldsOf s → HoldsOf s'
      join-kept t = steps-then (may_join s.seats x from) (Joins s.seats at x from seats') (seats' ≡ s.seats) (HoldsOf s')
          (λ may e. let a = and_parts (not (x.number == from)) (is_some (position (stands_as from) s.seats)) may in
          let f = found from s.seats e.0 e.1 e.2 e.3 in
          subst (TableHolds s.sys.now s.lanes s.words) (sym e.4)
          (join-holds s.sys.now s.lanes s.words s.seats t at x here e.0 e.1 e.3 (λ same. away (x.number == from) a.0 (number-of e.0 e.1 e.3 f.1 same)) from f.1))
          (λ e. subst (TableHolds s.sys.now s.lanes s.words) (sym e) t) r (h x here)
        where
          away : (b : Bool) → not b ≡ true → b ≡ true → ⊥
          away true e i = absurd (cc)
          away false e i = absurd (cc)

          number-of : (j : ℕ) (y : Seat) → slice_get s.seats j ≡ Some y → y.number ≡ from → j ≡ at → (x.number == from) ≡ true
          number-of j y there number same = let f : slice_get s.seats at ≡ Some y = subst (λ k. slice_get s.seats k ≡ Some y) same there in let i = here in
              let is : x ≡ y = cc in eq-eqb x.number from (ap (λ (z : Seat). z.number) is ∙ number)

  -- A step by itself
  module _ (sys : System) (lanes : ℕ) (sys_is : sys ≡ s.sys.now) (lanes_is : lanes ≡ s.lanes) (o : Op) (no_split : (into among : ℕ) → o ≡ op.Split into among → ⊥) (no_join : (from : ℕ) → o ≡ op.Join from → ⊥) (words' : List ℕ) (seats' : List Seat) (r : Result Bool Memory)
      (g : (z : Seat) → slice_get s.seats at ≡ Some z → StepsSeat sys lanes s.words s.seats at z o words' seats' r) where
    abbrev after : CoreState
    after = record s { words = words'; seats = seats' }

    by-it : StepsSeat s.sys.now s.lanes s.words s.seats at x o words' seats' r
    by-it = subst (λ y. StepsSeat y s.lanes s.words s.seats at x o words' seats' r) sys_is (subst (λ m. StepsSeat sys m s.words s.seats at x o words' seats' r) lanes_is (g x here))

    own-is : (o : Op) → ((into among : ℕ) → o ≡ op.Split into among → ⊥) → ((from : ℕ) → o ≡ op.Join from → ⊥)
        → (may_change s x o ≡ may_step s.sys.now s.lanes s.words x o) × ((x' : Seat) → Steps_one s.sys.now s.words x o words' x' → after ≡ record s { words = words'; seats = set s.seats at x' } → Changes s at x o after)
    own-is (op.Give p ev) a b = (refl, λ x' m e. (words', x', m, e))
    own-is (op.Fill p b j v) a c = (refl, λ x' m e. (words', x', m, e))
    own-is (op.Make p b) a c = (refl, λ x' m e. (words', x', m, e))
    own-is (op.Drop p b k) a c = (refl, λ x' m e. (words', x', m, e))
    own-is (op.Back p b) a c = (refl, λ x' m e. (words', x', m, e))
    own-is (op.Look w rec) a c = (refl, λ x' m e. (words', x', m, e))
    own-is (op.Read p b j) a c = (refl, λ x' m e. (words', x', m, e))
    own-is (op.Peek q) a c = (refl, λ x' m e. (words', x', m, e))
    own-is (op.Split into among) a c = absurd (a into among refl)
    own-is (op.Join from) a c = absurd (c from refl)
    own-is (op.Claim q p b k) a c = (refl, λ x' m e. (words', x', m, e))
    own-is (op.Lay q) a c = (refl, λ x' m e. (words', x', m, e))
    own-is (op.Empty q) a c = (refl, λ x' m e. (words', x', m, e))
    own-is (op.Free q) a c = (refl, λ x' m e. (words', x', m, e))
    own-is (op.Lifo q p b k) a c = (refl, λ x' m e. (words', x', m, e))

    pub own-one : StepsAs (may_apply s n o) (Applies s n o after) (after ≡ s) r
    own-one = go by-it
      where
        go : StepsSeat s.sys.now s.lanes s.words s.seats at x o words' seats' r → StepsAs (may_apply s n o) (Applies s n o after) (after ≡ s) r
        go k = steps-map (may_step s.sys.now s.lanes s.words x o) (may_apply s n o) (Steps_one s.sys.now s.words x o words' k.0) (Applies s n o after) ((words' ≡ s.words) × (k.0 ≡ x)) (after ≡ s)
            (may-is o ∙ (own-is o no_split no_join).0) (λ m. (at, x, place, here, (own-is o no_split no_join).1 k.0 m (ap (λ ys. record s { words = words'; seats = ys }) k.1)))
            (λ e. let back : seats' ≡ s.seats = k.1 ∙ (ap (λ z. set s.seats at z) e.1 ∙ set-same s.seats at x here) in λ j. record s { words = e.0 j; seats = back j }) r k.2

    pub own-kept : HoldsOf s → HoldsOf after
    own-kept t = go by-it
      where
        go : StepsSeat s.sys.now s.lanes s.words s.seats at x o words' seats' r → HoldsOf after
        go k = steps-then (may_step s.sys.now s.lanes s.words x o) (Steps_one s.sys.now s.words x o words' k.0) ((words' ≡ s.words) × (k.0 ≡ x)) (HoldsOf after)
            (λ may m. subst (TableHolds s.sys.now s.lanes words') (sym k.1)
            (step-holds s.sys.now s.lanes s.words s.seats t at x here words' k.0 (k.3 (has-own s.sys.now s.lanes s.words s.seats t at x here stands.0)) (steps-same s.sys.now s.words x words' k.0 o m)))
            (λ e. let back : seats' ≡ s.seats = k.1 ∙ (ap (λ z. set s.seats at z) e.1 ∙ set-same s.seats at x here) in subst (λ (z : List ℕ × List Seat). TableHolds s.sys.now s.lanes z.0 z.1) (λ j. (sym e.0 j, sym back j)) t) r k.2

-- Runs of schedules

pub runs-snoc : (s : CoreState) (steps : List (ℕ × Op)) (t : CoreState) (n : ℕ) (o : Op) (u : CoreState) → CoreRuns s steps t → may_apply t n o ≡ true → Applies t n o u → CoreRuns s (steps ++ (n, o) ∷ []) u
runs-snoc s [] t n o u e may made = (u, subst (λ z. may_apply z n o ≡ true) e may, subst (λ z. Applies z n o u) e made, refl)
runs-snoc s (x ∷ steps) t n o u e may made = (e.0, e.1, e.2, runs-snoc e.0 steps t n o u e.3 may made)

module _ (sys : System) (lanes : ℕ) (steps : List (ℕ × Op)) (i : ℕ) (step : ℕ × Op) (below : i < length steps) (is : step ≡ get_or steps i step) (s s' : CoreState) (r : Result Bool Memory) (b : Bool) (reached : LeadsTo sys lanes (take i steps) s) (one : StepsAs (may_apply s step.0 step.1) (Applies s step.0 step.1 s') (s' ≡ s) r) (r_is : r ≡ Ok b) where
  at-step : slice_get steps i ≡ Some step
  at-step = slice_get_read steps (length steps) i step refl below is

  outcome : (b ≡ may_apply s step.0 step.1) × MatchBool b (Applies s step.0 step.1 s') (s' ≡ s)
  outcome = subst (λ q. StepsAs (may_apply s step.0 step.1) (Applies s step.0 step.1 s') (s' ≡ s) q) r_is one

  pub refused : b ≡ false → RefusesStep sys lanes steps i
  refused e = (s, step.0, step.1, reached, at-step, sym outcome.0 ∙ e)

  pub reached-more : (HoldsOf s → HoldsOf s') → b ≡ true → LeadsTo sys lanes (take (i + 1) steps) s'
  reached-more kept e =
      let made : Applies s step.0 step.1 s' = subst (λ q. MatchBool q (Applies s step.0 step.1 s') (s' ≡ s)) e outcome.1 in
      let next : suc i ≡ i + 1 = omega arith in
      (reached.0, reached.1, subst (λ ys. CoreRuns reached.0 ys s') (take-next steps i step at-step ∙ ap (λ k. take k steps) next) (runs-snoc reached.0 (take i steps) s step.0 step.1 s' reached.2 (sym outcome.0 ∙ e) made), kept reached.3)
