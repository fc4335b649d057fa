-- Rows without a step and passed `settle`s, through looks, tries and turns.
use Rattle.std.proofs.Common.{◌≡◌, ℕ, ◌+◌, ◌≤◌, Bool, true, false, not, ◌||◌, List, [], ◌∷◌, refl, sym, ◌∙◌, ap, subst, inl, inr, arith}
use Rattle.std.specs.Prelude.{IsTrue}
use Rattle.qp_model.specs.WordLaw.{is_object}
use Rattle.qp_calls.specs.LaneView.{LaneView}
use Rattle.qp_port_phases.specs.Lanes.{KeepEach}
use Rattle.qp_port_phases.specs.Rows.{CountsBy, CountsOn, PhaseHasCause, HasFewRows, Numbers, LaneSeesEntry, TriesCount, all_settles, any_lost, one_where}
use Rattle.qp_port_phases.specs.Turns.{TurnEach}

or-none : (a b : Bool) → (a || b) ≡ false → (a ≡ false) × (b ≡ false)
or-none true b h = absurd (cc)
or-none false b h = (refl, h)

none-or : (a b : Bool) → a ≡ false → b ≡ false → (a || b) ≡ false
none-or a b none h = rw none h

either : (a b : Bool) → one_where (a || b) ≤ one_where a + one_where b
either true true = omega arith
either true false = omega arith
either false true = omega arith
either false false = omega arith

few-one : (b : Bool) → one_where b ≤ 1
few-one true = omega arith
few-one false = omega arith

module _ {T : Type 0} (numbers : T → Numbers) where
  -- lanes that were met
  module _ (Ready : T → Type 0) (Same : T → T → Type 0) (waits remains : T → Bool) where
    pub keep-settles : (xs ys : List T) → KeepEach Ready Same waits remains numbers xs ys → all_settles numbers ys ≡ all_settles numbers xs
    unfolding all_settles
    keep-settles [] [] h = refl
    keep-settles (x ∷ xs) (y ∷ ys) h = let one = ap (λ n. n.settles) h.0.numbers_still in let rest = keep-settles xs ys h.1 in omega (arith, one, rest)
    keep-settles [] (y ∷ ys) h = absurd h
    keep-settles (x ∷ xs) [] h = absurd h

    pub keep-lost : (xs ys : List T) → KeepEach Ready Same waits remains numbers xs ys → any_lost numbers ys ≡ any_lost numbers xs
    keep-lost [] [] h = refl
    keep-lost (x ∷ xs) (y ∷ ys) h = rw (ap (λ n. n.lost) h.0.numbers_still) (ap (λ b. (numbers x).lost || b) (keep-lost xs ys h.1))
    keep-lost [] (y ∷ ys) h = absurd h
    keep-lost (x ∷ xs) [] h = absurd h

    pub keep-few : (more : ℕ) (x y : T) (xs ys : List T) → numbers y ≡ numbers x → KeepEach Ready Same waits remains numbers xs ys → HasFewRows numbers more (x ∷ xs) → HasFewRows numbers more (y ∷ ys)
    unfolding all_settles
    keep-few more x y xs ys same keep few none =
        let parts = or-none (numbers y).lost (any_lost numbers ys) none in
        let before : any_lost numbers (x ∷ xs) ≡ false = none-or (numbers x).lost (any_lost numbers xs) (ap (λ n. n.lost) (sym same) ∙ parts.0) (sym (keep-lost xs ys keep) ∙ parts.1) in
        let was = few before in
        let rows = ap (λ n. n.rows) same in
        let own = ap (λ n. n.settles) same in
        let rest = keep-settles xs ys keep in
        omega (arith, was, rows, own, rest)

    pub kept-few : (more : ℕ) (xs ys : List T) → KeepEach Ready Same waits remains numbers xs ys → HasFewRows numbers more xs → HasFewRows numbers more ys
    kept-few more [] [] keep few = tt
    kept-few more (x ∷ xs) (y ∷ ys) keep few = keep-few more x y xs ys keep.0.numbers_still keep.1 few
    kept-few more [] (y ∷ ys) keep few = absurd keep
    kept-few more (x ∷ xs) [] keep few = absurd keep

  few-same : (more : ℕ) (x y : T) (xs : List T) → numbers y ≡ numbers x → HasFewRows numbers more (x ∷ xs) → HasFewRows numbers more (y ∷ xs)
  unfolding all_settles
  few-same more x y xs same few = subst (λ (n : Numbers). (n.lost || any_lost numbers xs) ≡ false → n.rows ≤ (n.settles + all_settles numbers xs) + more) (sym same) few

  -- the first has the same numbers, and sees what it saw
  pub cause-same : (view : T → LaneView) (objects : List ℕ) (x y : T) (xs : List T) → numbers y ≡ numbers x → view y ≡ view x → PhaseHasCause numbers view objects (x ∷ xs) → PhaseHasCause numbers view objects (y ∷ xs)
  cause-same view objects x y xs same still (inl few) = inl (few-same 0 x y xs same few)
  cause-same view objects x y xs same still (inr (few, sees)) = inr (few-same 1 x y xs same few, subst (λ (v : LaneView). (p : ℕ) × IsTrue (is_object v.sys p) × LaneSeesEntry v p) (sym still) sees)

  -- tries to pass a `settle`
  pub tries-none : TriesCount numbers false [] []
  unfolding all_settles
  tries-none = record { lost = λ h. h; settles = λ h. omega arith }

  pub tries-more : (a b : Bool) (x y : T) (xs ys : List T) → CountsBy (one_where a) (numbers x) (numbers y) → TriesCount numbers b xs ys → TriesCount numbers (a || b) (x ∷ xs) (y ∷ ys)
  unfolding all_settles
  tries-more a b x y xs ys one more = record {
    lost = λ none. let parts = or-none (numbers y).lost (any_lost numbers ys) none in none-or (numbers x).lost (any_lost numbers xs) (one.lost parts.0) (more.lost parts.1);
    settles = λ none.
        let parts = or-none (numbers y).lost (any_lost numbers ys) none in
        let here = one.settles parts.0 in
        let there = more.settles parts.1 in
        let few = either a b in
        omega (arith, here, there, few);
  }

  -- they leave rows as they were
  tried : (more : ℕ) (some : Bool) (x y : T) (xs ys zs : List T) → numbers y ≡ numbers x → TriesCount numbers some xs ys → all_settles numbers zs ≡ all_settles numbers ys → any_lost numbers zs ≡ any_lost numbers ys
      → HasFewRows numbers more (x ∷ xs) → any_lost numbers (y ∷ zs) ≡ false → (numbers y).rows + one_where some ≤ all_settles numbers (y ∷ zs) + more
  unfolding all_settles
  tried more some x y xs ys zs same tries settles lost few none =
      let parts = or-none (numbers y).lost (any_lost numbers zs) none in
      let late : any_lost numbers ys ≡ false = sym lost ∙ parts.1 in
      let before : any_lost numbers (x ∷ xs) ≡ false = none-or (numbers x).lost (any_lost numbers xs) (ap (λ n. n.lost) (sym same) ∙ parts.0) (tries.lost late) in
      let was = few before in
      let rows = ap (λ n. n.rows) same in
      let own = ap (λ n. n.settles) same in
      let rest = tries.settles late in
      omega (arith, was, rows, own, rest, settles)

  pub tried-few : (more : ℕ) (some : Bool) (x y : T) (xs ys zs : List T) → numbers y ≡ numbers x → TriesCount numbers some xs ys → all_settles numbers zs ≡ all_settles numbers ys → any_lost numbers zs ≡ any_lost numbers ys
      → HasFewRows numbers more (x ∷ xs) → HasFewRows numbers more (y ∷ zs)
  tried-few more some x y xs ys zs same tries settles lost few none = let all = tried more some x y xs ys zs same tries settles lost few none in omega (arith, all)

  -- there is cause for a phase: a `settle` was passed, none has been run, or an entry was seen
  pub caused : (view : T → LaneView) (objects : List ℕ) (some begun empty : Bool) (x y : T) (xs ys zs : List T) → numbers y ≡ numbers x → TriesCount numbers some xs ys → all_settles numbers zs ≡ all_settles numbers ys
      → any_lost numbers zs ≡ any_lost numbers ys → HasFewRows numbers (one_where begun) (x ∷ xs) → (empty ≡ false → (p : ℕ) × IsTrue (is_object (view y).sys p) × LaneSeesEntry (view y) p)
      → (some || not begun || not empty) ≡ true → PhaseHasCause numbers view objects (y ∷ zs)
  caused view objects true begun empty x y xs ys zs same tries settles lost few sees cause =
      inl (λ none. let all = tried (one_where begun) true x y xs ys zs same tries settles lost few none in let one = few-one begun in omega (arith, all, one))
  caused view objects false false empty x y xs ys zs same tries settles lost few sees cause = inl (tried-few 0 false x y xs ys zs same tries settles lost few)
  caused view objects false true false x y xs ys zs same tries settles lost few sees cause = inr (tried-few 1 false x y xs ys zs same tries settles lost few, sees refl)
  caused view objects false true true x y xs ys zs same tries settles lost few sees cause = absurd (cc)

  -- more rows than enough
  pub few-more : (begun : Bool) (xs : List T) → HasFewRows numbers (one_where begun) xs → HasFewRows numbers 1 xs
  few-more begun [] few = tt
  few-more begun (x ∷ xs) few = λ none. let has = few none in let one = few-one begun in omega (arith, has, one)

  -- turns
  module _ (view : T → LaneView) (Turned : T → T → Type 0) (law : (a b : T) → Turned a b → CountsOn (view a) (numbers a) (numbers b)) where
    went-lost : (xs ys : List T) → TurnEach Turned xs ys → any_lost numbers ys ≡ false → any_lost numbers xs ≡ false
    went-lost [] [] h none = refl
    went-lost (x ∷ xs) (y ∷ ys) h none =
        let parts = or-none (numbers y).lost (any_lost numbers ys) none in
        none-or (numbers x).lost (any_lost numbers xs) ((law x y h.0).lost parts.0) (went-lost xs ys h.1 parts.1)
    went-lost [] (y ∷ ys) h none = absurd h
    went-lost (x ∷ xs) [] h none = absurd h

    went-settles : (xs ys : List T) → TurnEach Turned xs ys → any_lost numbers ys ≡ false → all_settles numbers xs ≤ all_settles numbers ys
    unfolding all_settles
    went-settles [] [] h none = omega arith
    went-settles (x ∷ xs) (y ∷ ys) h none =
        let parts = or-none (numbers y).lost (any_lost numbers ys) none in
        let one = (law x y h.0).settles parts.0 in
        let rest = went-settles xs ys h.1 parts.1 in
        omega (arith, one, rest)
    went-settles [] (y ∷ ys) h none = absurd h
    went-settles (x ∷ xs) [] h none = absurd h

    pub went-few : (objects : List ℕ) (xs ys : List T) → TurnEach Turned xs ys → PhaseHasCause numbers view objects xs → HasFewRows numbers 1 ys
    unfolding all_settles
    went-few objects [] [] h cause = tt
    went-few objects (x ∷ xs) (y ∷ ys) h (inl few) = λ none.
        let parts = or-none (numbers y).lost (any_lost numbers ys) none in
        let on = law x y h.0 in
        let was = few (none-or (numbers x).lost (any_lost numbers xs) (on.lost parts.0) (went-lost xs ys h.1 parts.1)) in
        let one = on.rows parts.0 in
        let own = on.settles parts.0 in
        let rest = went-settles xs ys h.1 parts.1 in
        omega (arith, was, one, own, rest)
    went-few objects (x ∷ xs) (y ∷ ys) h (inr (few, (p, is, sees))) = λ none.
        let parts = or-none (numbers y).lost (any_lost numbers ys) none in
        let on = law x y h.0 in
        let was = few (none-or (numbers x).lost (any_lost numbers xs) (on.lost parts.0) (went-lost xs ys h.1 parts.1)) in
        let none_more = on.pending parts.0 p is sees in
        let own = on.settles parts.0 in
        let rest = went-settles xs ys h.1 parts.1 in
        omega (arith, was, none_more, own, rest)
    went-few objects [] (y ∷ ys) h cause = absurd h
    went-few objects (x ∷ xs) [] h cause = absurd h
