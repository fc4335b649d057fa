-- Each kind's records say what is of the kind, and so of its sort.
use Rattle.std.proofs.Common.{◌≡◌, ℕ, zero, suc, ◌+◌, Bool, true, false, ◌||◌, ◌==◌, cond, List, [], ◌∷◌, refl, subst, arith}
use Rattle.std.specs.List.{slice_get}
use Rattle.std.proofs.lemmas.Bool.Decides.{nat_tests}
use Rattle.qp_model.specs.declared.bodies.Body.{Body}
use Rattle.qp_model.specs.declared.bodies.Body.TheVariants as body
use Rattle.qp_model.specs.declared.bodies.Body.TheVariants.{NoEntry, NoBlock, Armed, BadTicks, NoLifo, Malformed}
use Rattle.qp_model.specs.Record.{entry, never, plain_body, one, two, three, four, five, six, seven, new_form, asserted, forms, read_by, body_at}
use Rattle.qp_model.specs.KindSorts.{kind_in, sort_of, is_malformed, is_of_sort, SortsHold}
use Rattle.qp_model.specs.Ends.{is_turn_mark}
use Rattle.qp_model.specs.OutputSummary.{is_took}

-- nothing is said, or what is of the kind
abbrev Fits : ℕ → Body → Type 0
Fits k b = (is_malformed b || (kind_in b == k)) ≡ true

-- a form gives such records, whatever the numbers
abbrev Gives : ℕ → (List ℕ → Body) → Type 0
Gives k form = (nums : List ℕ) → Fits k (form nums)

-- so do the forms from this kind on
abbrev AllGive : ℕ → List (List ℕ → Body) → Type 0
AllGive k [] = Unit {0}
AllGive k (f ∷ fs) = Gives k f × AllGive (suc k) fs

never-gives : (k : ℕ) → Gives k never
never-gives k nums = refl

bare-gives : (k : ℕ) (x : Body) → Fits k x → Gives k (plain_body x)
bare-gives k x h [] = h
bare-gives k x h (y ∷ ys) = refl

one-gives : (k : ℕ) (x : ℕ → Body) → ((a : ℕ) → Fits k (x a)) → Gives k (one x)
one-gives k x h [] = refl
one-gives k x h (a ∷ []) = h a
one-gives k x h (a ∷ y ∷ ys) = refl

two-gives : (k : ℕ) (x : ℕ → ℕ → Body) → ((a b : ℕ) → Fits k (x a b)) → Gives k (two x)
two-gives k x h [] = refl
two-gives k x h (a ∷ []) = refl
two-gives k x h (a ∷ b ∷ []) = h a b
two-gives k x h (a ∷ b ∷ y ∷ ys) = refl

three-gives : (k : ℕ) (x : ℕ → ℕ → ℕ → Body) → ((a b c : ℕ) → Fits k (x a b c)) → Gives k (three x)
three-gives k x h [] = refl
three-gives k x h (a ∷ []) = refl
three-gives k x h (a ∷ b ∷ []) = refl
three-gives k x h (a ∷ b ∷ c ∷ []) = h a b c
three-gives k x h (a ∷ b ∷ c ∷ y ∷ ys) = refl

four-gives : (k : ℕ) (x : ℕ → ℕ → ℕ → ℕ → Body) → ((a b c d : ℕ) → Fits k (x a b c d)) → Gives k (four x)
four-gives k x h [] = refl
four-gives k x h (a ∷ []) = refl
four-gives k x h (a ∷ b ∷ []) = refl
four-gives k x h (a ∷ b ∷ c ∷ []) = refl
four-gives k x h (a ∷ b ∷ c ∷ d ∷ []) = h a b c d
four-gives k x h (a ∷ b ∷ c ∷ d ∷ y ∷ ys) = refl

five-gives : (k : ℕ) (x : ℕ → ℕ → ℕ → ℕ → ℕ → Body) → ((a b c d e : ℕ) → Fits k (x a b c d e)) → Gives k (five x)
five-gives k x h [] = refl
five-gives k x h (a ∷ []) = refl
five-gives k x h (a ∷ b ∷ []) = refl
five-gives k x h (a ∷ b ∷ c ∷ []) = refl
five-gives k x h (a ∷ b ∷ c ∷ d ∷ []) = refl
five-gives k x h (a ∷ b ∷ c ∷ d ∷ e ∷ []) = h a b c d e
five-gives k x h (a ∷ b ∷ c ∷ d ∷ e ∷ y ∷ ys) = refl

six-gives : (k : ℕ) (x : ℕ → ℕ → ℕ → ℕ → ℕ → ℕ → Body) → ((a b c d e f : ℕ) → Fits k (x a b c d e f)) → Gives k (six x)
six-gives k x h [] = refl
six-gives k x h (a ∷ []) = refl
six-gives k x h (a ∷ b ∷ []) = refl
six-gives k x h (a ∷ b ∷ c ∷ []) = refl
six-gives k x h (a ∷ b ∷ c ∷ d ∷ []) = refl
six-gives k x h (a ∷ b ∷ c ∷ d ∷ e ∷ []) = refl
six-gives k x h (a ∷ b ∷ c ∷ d ∷ e ∷ f ∷ []) = h a b c d e f
six-gives k x h (a ∷ b ∷ c ∷ d ∷ e ∷ f ∷ y ∷ ys) = refl

seven-gives : (k : ℕ) (x : ℕ → ℕ → ℕ → ℕ → ℕ → ℕ → ℕ → Body) → ((a b c d e f g : ℕ) → Fits k (x a b c d e f g)) → Gives k (seven x)
seven-gives k x h [] = refl
seven-gives k x h (a ∷ []) = refl
seven-gives k x h (a ∷ b ∷ []) = refl
seven-gives k x h (a ∷ b ∷ c ∷ []) = refl
seven-gives k x h (a ∷ b ∷ c ∷ d ∷ []) = refl
seven-gives k x h (a ∷ b ∷ c ∷ d ∷ e ∷ []) = refl
seven-gives k x h (a ∷ b ∷ c ∷ d ∷ e ∷ f ∷ []) = refl
seven-gives k x h (a ∷ b ∷ c ∷ d ∷ e ∷ f ∷ g ∷ []) = h a b c d e f g
seven-gives k x h (a ∷ b ∷ c ∷ d ∷ e ∷ f ∷ g ∷ y ∷ ys) = refl

given-gives : Gives 15 new_form
given-gives [] = refl
given-gives (a ∷ []) = refl
given-gives (a ∷ b ∷ []) = refl
given-gives (a ∷ b ∷ c ∷ []) = refl
given-gives (a ∷ b ∷ c ∷ d ∷ []) = refl
given-gives (a ∷ b ∷ c ∷ d ∷ e ∷ pars) = refl

asserted-gives : Gives 42 asserted
asserted-gives [] = refl
asserted-gives (code ∷ []) = refl
asserted-gives (code ∷ a ∷ []) = refl
asserted-gives (code ∷ a ∷ b ∷ []) = refl
asserted-gives (code ∷ a ∷ b ∷ c ∷ []) = go (code == 2) (code == 3) (code == 4)
  where
    go : (u v w : Bool) → Fits 42 (cond u (NoBlock a b c) (cond v (Armed a b c) (cond w (BadTicks a b c) Malformed)))
    go true v w = refl
    go false true w = refl
    go false false true = refl
    go false false false = refl
asserted-gives (code ∷ a ∷ b ∷ c ∷ d ∷ []) = go (code == 1) (code == 5)
  where
    go : (u v : Bool) → Fits 42 (cond u (NoEntry a b c d) (cond v (NoLifo a b c d) Malformed))
    go true v = refl
    go false true = refl
    go false false = refl
asserted-gives (code ∷ a ∷ b ∷ c ∷ d ∷ e ∷ rest) = refl

all-give : AllGive 0 forms
all-give = (
  never-gives 0,
  (
    never-gives 1,
    (
      never-gives 2,
      (
        never-gives 3,
        (
          bare-gives 4 body.Begin refl,
          (
            six-gives 5 (λ f l m p b r. body.Took f l m (entry p b r)) (λ a b c d e f. refl),
            (
              three-gives 6 body.Nil (λ a b c. refl),
              (
                four-gives 7 body.Seen (λ a b c d. refl),
                (
                  two-gives 8 body.Run (λ a b. refl),
                  (
                    bare-gives 9 body.Unhandled refl,
                    (
                      one-gives 10 body.Exit (λ a. refl),
                      (
                        one-gives 11 body.Enter (λ a. refl),
                        (
                          one-gives 12 body.Init (λ a. refl),
                          (
                            one-gives 13 body.Say (λ a. refl),
                            (
                              bare-gives 14 body.Done refl,
                              (
                                given-gives,
                                (
                                  four-gives 16 body.Short (λ a b c d. refl),
                                  (
                                    three-gives 17 body.Inc (λ a b c. refl),
                                    (
                                      four-gives 18 body.Dec (λ a b c d. refl),
                                      (
                                        four-gives 19 body.Back (λ a b c d. refl),
                                        (
                                          seven-gives 20 (λ a f l m p b r. body.Post a f l m (entry p b r)) (λ a b c d e f g. refl),
                                          (
                                            six-gives 21 (λ f l m p b r. body.Lifo f l m (entry p b r)) (λ a b c d e f. refl),
                                            (
                                              five-gives 22 body.Full (λ a b c d e. refl),
                                              (
                                                three-gives 23 body.Pub (λ a b c. refl),
                                                (
                                                  one-gives 24 body.Lock (λ a. refl),
                                                  (
                                                    one-gives 25 body.Unlock (λ a. refl),
                                                    (
                                                      three-gives 26 (λ p b r. body.Defer (entry p b r)) (λ a b c. refl),
                                                      (
                                                        bare-gives 27 body.NoDefer refl,
                                                        (
                                                          three-gives 28 (λ p b r. body.Recall (entry p b r)) (λ a b c. refl),
                                                          (
                                                            bare-gives 29 body.NoRecall refl,
                                                            (
                                                              three-gives 30 (λ p b r. body.Flush (entry p b r)) (λ a b c. refl),
                                                              (
                                                                two-gives 31 body.Sub (λ a b. refl),
                                                                (
                                                                  two-gives 32 body.Unsub (λ a b. refl),
                                                                  (
                                                                    two-gives 33 body.Same (λ a b. refl),
                                                                    (
                                                                      four-gives 34 body.Arm (λ a b c d. refl),
                                                                      (
                                                                        three-gives 35 body.Disarm (λ a b c. refl),
                                                                        (
                                                                          four-gives 36 body.Rearm (λ a b c d. refl),
                                                                          (
                                                                            two-gives 37 body.Idle (λ a b. refl),
                                                                            (
                                                                              three-gives 38 body.Tick (λ a b c. refl),
                                                                              (
                                                                                three-gives 39 body.Fire (λ a b c. refl),
                                                                                (
                                                                                  two-gives 40 body.Stim (λ a b. refl),
                                                                                  (
                                                                                    bare-gives 41 body.Settle refl,
                                                                                    (
                                                                                      asserted-gives,
                                                                                      (
                                                                                        bare-gives 43 body.Spent refl,
                                                                                        (
                                                                                          one-gives 44 body.Spill (λ a. refl),
                                                                                          (
                                                                                            two-gives 45 body.Look (λ a b. refl),
                                                                                            (
                                                                                              one-gives 46 body.Rest (λ a. refl),
                                                                                              tt,
                                                                                            ),
                                                                                          ),
                                                                                        ),
                                                                                      ),
                                                                                    ),
                                                                                  ),
                                                                                ),
                                                                              ),
                                                                            ),
                                                                          ),
                                                                        ),
                                                                      ),
                                                                    ),
                                                                  ),
                                                                ),
                                                              ),
                                                            ),
                                                          ),
                                                        ),
                                                      ),
                                                    ),
                                                  ),
                                                ),
                                              ),
                                            ),
                                          ),
                                        ),
                                      ),
                                    ),
                                  ),
                                ),
                              ),
                            ),
                          ),
                        ),
                      ),
                    ),
                  ),
                ),
              ),
            ),
          ),
        ),
      ),
    ),
  ),
)

one-of : (from : ℕ) (fs : List (List ℕ → Body)) (k : ℕ) (nums : List ℕ) → AllGive from fs → Fits (from + k) (read_by (slice_get fs k) nums)
one-of from [] k nums h = refl
one-of from (f ∷ fs) zero nums h = let same : from + 0 ≡ from = omega arith in rw same (h.0 nums)
one-of from (f ∷ fs) (suc k) nums h = let same : from + suc k ≡ suc from + k = omega arith in rw same (one-of (suc from) fs k nums h.1)

-- whatever its numbers, a record says what is of its kind, or nothing
pub kinds_hold : (kind : ℕ) (nums : List ℕ) → (is_malformed (body_at kind nums) || (kind_in (body_at kind nums) == kind)) ≡ true
unfolding body_at
kinds_hold kind nums =
    let same : 0 + kind ≡ kind = omega arith in
    subst (λ k. Fits k (read_by (slice_get forms kind) nums)) same (one-of 0 forms kind nums all-give)

-- what is said is of the sort of its kind
of-sort : (b : Body) → (is_malformed b || is_of_sort (sort_of (kind_in b)) b) ≡ true
unfolding sort_of
of-sort body.Malformed = refl
of-sort _ = refl

pub sorts_hold : SortsHold
sorts_hold kind nums = go (body_at kind nums) (kinds_hold kind nums)
  where
    go : (b : Body) → (is_malformed b || (kind_in b == kind)) ≡ true → (is_malformed b || is_of_sort (sort_of kind) b) ≡ true
    go b tells = by (is_malformed b) refl
      where
        by : (nothing : Bool) → is_malformed b ≡ nothing → (is_malformed b || is_of_sort (sort_of kind) b) ≡ true
        by true is = rw is refl
        by false is =
            let same : (kind_in b == kind) ≡ true = rw is at tells in
            let kinds : kind_in b ≡ kind = grind (arith, nat_tests, same) in
            subst (λ k. (is_malformed b || is_of_sort (sort_of k) b) ≡ true) kinds (of-sort b)

-- a mark of a turn is no `took`
pub mark-is-no-take : (b : Body) → is_turn_mark b ≡ true → is_took b ≡ false
mark-is-no-take (body.Took f l m e) h = absurd (cc)
mark-is-no-take _ h = refl
