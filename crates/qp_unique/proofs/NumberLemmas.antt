-- What a record says has its numbers.
use Rattle.std.proofs.Common.{◌≡◌, ℕ, zero, suc, Bool, true, false, ◌==◌, cond, List, [], ◌∷◌, refl, sym, ap}
use Rattle.std.specs.Prelude.{slice_get, MatchBool}
use Rattle.std.proofs.lemmas.Bool.{eqb-true}
use Rattle.qp_model.specs.declared.record.Rec.{Rec}
use Rattle.qp_model.specs.declared.bodies.Body.{Body}
use Rattle.qp_model.specs.declared.bodies.Body.TheVariants as body
use Rattle.qp_model.specs.KindSorts.{is_malformed}
use Rattle.qp_model.specs.Record.{entry, never, plain_body, one, two, three, four, five, six, seven, new_form, asserted, forms, read_by, body_at, body_of}

-- the numbers of the records that say this
abbrev pub nums_in : Body → List ℕ
nums_in body.Begin = []
nums_in (body.Took f l m e) = f ∷ l ∷ m ∷ e.pool ∷ e.block ∷ e.name ∷ []
nums_in (body.Nil f l m) = f ∷ l ∷ m ∷ []
nums_in (body.Seen p f l m) = p ∷ f ∷ l ∷ m ∷ []
nums_in (body.Run s k) = s ∷ k ∷ []
nums_in body.Unhandled = []
nums_in (body.Exit s) = s ∷ []
nums_in (body.Enter s) = s ∷ []
nums_in (body.Init s) = s ∷ []
nums_in (body.Say v) = v ∷ []
nums_in body.Done = []
nums_in (body.New p n b from sig pars) = p ∷ n ∷ b ∷ from ∷ sig ∷ pars
nums_in (body.Short p n free reserve) = p ∷ n ∷ free ∷ reserve ∷ []
nums_in (body.Inc p b r) = p ∷ b ∷ r ∷ []
nums_in (body.Dec p b d k) = p ∷ b ∷ d ∷ k ∷ []
nums_in (body.Back p n b to) = p ∷ n ∷ b ∷ to ∷ []
nums_in (body.Post a f l m e) = a ∷ f ∷ l ∷ m ∷ e.pool ∷ e.block ∷ e.name ∷ []
nums_in (body.Lifo f l m e) = f ∷ l ∷ m ∷ e.pool ∷ e.block ∷ e.name ∷ []
nums_in (body.Full a f l m margin) = a ∷ f ∷ l ∷ m ∷ margin ∷ []
nums_in (body.Pub sig n set) = sig ∷ n ∷ set ∷ []
nums_in (body.Lock c) = c ∷ []
nums_in (body.Unlock c) = c ∷ []
nums_in (body.Defer e) = e.pool ∷ e.block ∷ e.name ∷ []
nums_in body.NoDefer = []
nums_in (body.Recall e) = e.pool ∷ e.block ∷ e.name ∷ []
nums_in body.NoRecall = []
nums_in (body.Flush e) = e.pool ∷ e.block ∷ e.name ∷ []
nums_in (body.Sub sig n) = sig ∷ n ∷ []
nums_in (body.Unsub sig n) = sig ∷ n ∷ []
nums_in (body.Same sig n) = sig ∷ n ∷ []
nums_in (body.Arm t n ticks interval) = t ∷ n ∷ ticks ∷ interval ∷ []
nums_in (body.Disarm t n former) = t ∷ n ∷ former ∷ []
nums_in (body.Rearm t n former ticks) = t ∷ n ∷ former ∷ ticks ∷ []
nums_in (body.Idle t n) = t ∷ n ∷ []
nums_in (body.Tick t n c) = t ∷ n ∷ c ∷ []
nums_in (body.Fire t n reload) = t ∷ n ∷ reload ∷ []
nums_in (body.Stim i k) = i ∷ k ∷ []
nums_in body.Settle = []
nums_in (body.NoEntry a f l m) = 1 ∷ a ∷ f ∷ l ∷ m ∷ []
nums_in (body.NoBlock p n free) = 2 ∷ p ∷ n ∷ free ∷ []
nums_in (body.Armed t n c) = 3 ∷ t ∷ n ∷ c ∷ []
nums_in (body.BadTicks t ticks interval) = 4 ∷ t ∷ ticks ∷ interval ∷ []
nums_in (body.NoLifo a f l m) = 5 ∷ a ∷ f ∷ l ∷ m ∷ []
nums_in body.Spent = []
nums_in (body.Spill n) = n ∷ []
nums_in (body.Look k floor) = k ∷ floor ∷ []
nums_in (body.Rest k) = k ∷ []
nums_in body.Malformed = []

-- nothing is said, or what has these numbers
abbrev pub HasNumbers : Body → List ℕ → Type 0
HasNumbers b nums = MatchBool (is_malformed b) (Unit {0}) (nums_in b ≡ nums)

-- a form gives such records, whatever the numbers
abbrev Gives : (List ℕ → Body) → Type 0
Gives form = (nums : List ℕ) → HasNumbers (form nums) nums

-- so do all of them
abbrev AllGive : List (List ℕ → Body) → Type 0
AllGive [] = Unit {0}
AllGive (f ∷ fs) = Gives f × AllGive fs

never-gives : Gives never
never-gives nums = tt

bare-gives : (x : Body) → HasNumbers x [] → Gives (plain_body x)
bare-gives x h [] = h
bare-gives x h (y ∷ ys) = tt

one-gives : (x : ℕ → Body) → ((a : ℕ) → HasNumbers (x a) (a ∷ [])) → Gives (one x)
one-gives x h [] = tt
one-gives x h (a ∷ []) = h a
one-gives x h (a ∷ y ∷ ys) = tt

two-gives : (x : ℕ → ℕ → Body) → ((a b : ℕ) → HasNumbers (x a b) (a ∷ b ∷ [])) → Gives (two x)
two-gives x h [] = tt
two-gives x h (a ∷ []) = tt
two-gives x h (a ∷ b ∷ []) = h a b
two-gives x h (a ∷ b ∷ y ∷ ys) = tt

three-gives : (x : ℕ → ℕ → ℕ → Body) → ((a b c : ℕ) → HasNumbers (x a b c) (a ∷ b ∷ c ∷ [])) → Gives (three x)
three-gives x h [] = tt
three-gives x h (a ∷ []) = tt
three-gives x h (a ∷ b ∷ []) = tt
three-gives x h (a ∷ b ∷ c ∷ []) = h a b c
three-gives x h (a ∷ b ∷ c ∷ y ∷ ys) = tt

four-gives : (x : ℕ → ℕ → ℕ → ℕ → Body) → ((a b c d : ℕ) → HasNumbers (x a b c d) (a ∷ b ∷ c ∷ d ∷ [])) → Gives (four x)
four-gives x h [] = tt
four-gives x h (a ∷ []) = tt
four-gives x h (a ∷ b ∷ []) = tt
four-gives x h (a ∷ b ∷ c ∷ []) = tt
four-gives x h (a ∷ b ∷ c ∷ d ∷ []) = h a b c d
four-gives x h (a ∷ b ∷ c ∷ d ∷ y ∷ ys) = tt

five-gives : (x : ℕ → ℕ → ℕ → ℕ → ℕ → Body) → ((a b c d e : ℕ) → HasNumbers (x a b c d e) (a ∷ b ∷ c ∷ d ∷ e ∷ [])) → Gives (five x)
five-gives x h [] = tt
five-gives x h (a ∷ []) = tt
five-gives x h (a ∷ b ∷ []) = tt
five-gives x h (a ∷ b ∷ c ∷ []) = tt
five-gives x h (a ∷ b ∷ c ∷ d ∷ []) = tt
five-gives x h (a ∷ b ∷ c ∷ d ∷ e ∷ []) = h a b c d e
five-gives x h (a ∷ b ∷ c ∷ d ∷ e ∷ y ∷ ys) = tt

six-gives : (x : ℕ → ℕ → ℕ → ℕ → ℕ → ℕ → Body) → ((a b c d e f : ℕ) → HasNumbers (x a b c d e f) (a ∷ b ∷ c ∷ d ∷ e ∷ f ∷ [])) → Gives (six x)
six-gives x h [] = tt
six-gives x h (a ∷ []) = tt
six-gives x h (a ∷ b ∷ []) = tt
six-gives x h (a ∷ b ∷ c ∷ []) = tt
six-gives x h (a ∷ b ∷ c ∷ d ∷ []) = tt
six-gives x h (a ∷ b ∷ c ∷ d ∷ e ∷ []) = tt
six-gives x h (a ∷ b ∷ c ∷ d ∷ e ∷ f ∷ []) = h a b c d e f
six-gives x h (a ∷ b ∷ c ∷ d ∷ e ∷ f ∷ y ∷ ys) = tt

seven-gives : (x : ℕ → ℕ → ℕ → ℕ → ℕ → ℕ → ℕ → Body) → ((a b c d e f g : ℕ) → HasNumbers (x a b c d e f g) (a ∷ b ∷ c ∷ d ∷ e ∷ f ∷ g ∷ [])) → Gives (seven x)
seven-gives x h [] = tt
seven-gives x h (a ∷ []) = tt
seven-gives x h (a ∷ b ∷ []) = tt
seven-gives x h (a ∷ b ∷ c ∷ []) = tt
seven-gives x h (a ∷ b ∷ c ∷ d ∷ []) = tt
seven-gives x h (a ∷ b ∷ c ∷ d ∷ e ∷ []) = tt
seven-gives x h (a ∷ b ∷ c ∷ d ∷ e ∷ f ∷ []) = tt
seven-gives x h (a ∷ b ∷ c ∷ d ∷ e ∷ f ∷ g ∷ []) = h a b c d e f g
seven-gives x h (a ∷ b ∷ c ∷ d ∷ e ∷ f ∷ g ∷ y ∷ ys) = tt

given-gives : Gives new_form
given-gives [] = tt
given-gives (a ∷ []) = tt
given-gives (a ∷ b ∷ []) = tt
given-gives (a ∷ b ∷ c ∷ []) = tt
given-gives (a ∷ b ∷ c ∷ d ∷ []) = tt
given-gives (a ∷ b ∷ c ∷ d ∷ e ∷ pars) = refl

asserted-gives : Gives asserted
asserted-gives [] = tt
asserted-gives (code ∷ []) = tt
asserted-gives (code ∷ a ∷ []) = tt
asserted-gives (code ∷ a ∷ b ∷ []) = tt
asserted-gives (code ∷ a ∷ b ∷ c ∷ []) = go (code == 2) (code == 3) (code == 4) refl refl refl
  where
    go : (u v w : Bool) → (code == 2) ≡ u → (code == 3) ≡ v → (code == 4) ≡ w
        → HasNumbers (cond u (body.NoBlock a b c) (cond v (body.Armed a b c) (cond w (body.BadTicks a b c) body.Malformed))) (code ∷ a ∷ b ∷ c ∷ [])
    go true v w is other third = ap (λ n. n ∷ a ∷ b ∷ c ∷ []) (sym (eqb-true code 2 is))
    go false true w other is third = ap (λ n. n ∷ a ∷ b ∷ c ∷ []) (sym (eqb-true code 3 is))
    go false false true other third is = ap (λ n. n ∷ a ∷ b ∷ c ∷ []) (sym (eqb-true code 4 is))
    go false false false other third is = tt
asserted-gives (code ∷ a ∷ b ∷ c ∷ d ∷ []) = go (code == 1) (code == 5) refl refl
  where
    go : (u v : Bool) → (code == 1) ≡ u → (code == 5) ≡ v → HasNumbers (cond u (body.NoEntry a b c d) (cond v (body.NoLifo a b c d) body.Malformed)) (code ∷ a ∷ b ∷ c ∷ d ∷ [])
    go true v is other = ap (λ n. n ∷ a ∷ b ∷ c ∷ d ∷ []) (sym (eqb-true code 1 is))
    go false true other is = ap (λ n. n ∷ a ∷ b ∷ c ∷ d ∷ []) (sym (eqb-true code 5 is))
    go false false other is = tt
asserted-gives (code ∷ a ∷ b ∷ c ∷ d ∷ e ∷ rest) = tt

all-give : AllGive forms
all-give = (
  never-gives,
  (
    never-gives,
    (
      never-gives,
      (
        never-gives,
        (
          bare-gives body.Begin refl,
          (
            six-gives (λ f l m p b r. body.Took f l m (entry p b r)) (λ a b c d e f. refl),
            (
              three-gives body.Nil (λ a b c. refl),
              (
                four-gives body.Seen (λ a b c d. refl),
                (
                  two-gives body.Run (λ a b. refl),
                  (
                    bare-gives body.Unhandled refl,
                    (
                      one-gives body.Exit (λ a. refl),
                      (
                        one-gives body.Enter (λ a. refl),
                        (
                          one-gives body.Init (λ a. refl),
                          (
                            one-gives body.Say (λ a. refl),
                            (
                              bare-gives body.Done refl,
                              (
                                given-gives,
                                (
                                  four-gives body.Short (λ a b c d. refl),
                                  (
                                    three-gives body.Inc (λ a b c. refl),
                                    (
                                      four-gives body.Dec (λ a b c d. refl),
                                      (
                                        four-gives body.Back (λ a b c d. refl),
                                        (
                                          seven-gives (λ a f l m p b r. body.Post a f l m (entry p b r)) (λ a b c d e f g. refl),
                                          (
                                            six-gives (λ f l m p b r. body.Lifo f l m (entry p b r)) (λ a b c d e f. refl),
                                            (
                                              five-gives body.Full (λ a b c d e. refl),
                                              (
                                                three-gives body.Pub (λ a b c. refl),
                                                (
                                                  one-gives body.Lock (λ a. refl),
                                                  (
                                                    one-gives body.Unlock (λ a. refl),
                                                    (
                                                      three-gives (λ p b r. body.Defer (entry p b r)) (λ a b c. refl),
                                                      (
                                                        bare-gives body.NoDefer refl,
                                                        (
                                                          three-gives (λ p b r. body.Recall (entry p b r)) (λ a b c. refl),
                                                          (
                                                            bare-gives body.NoRecall refl,
                                                            (
                                                              three-gives (λ p b r. body.Flush (entry p b r)) (λ a b c. refl),
                                                              (
                                                                two-gives body.Sub (λ a b. refl),
                                                                (
                                                                  two-gives body.Unsub (λ a b. refl),
                                                                  (
                                                                    two-gives body.Same (λ a b. refl),
                                                                    (
                                                                      four-gives body.Arm (λ a b c d. refl),
                                                                      (
                                                                        three-gives body.Disarm (λ a b c. refl),
                                                                        (
                                                                          four-gives body.Rearm (λ a b c d. refl),
                                                                          (
                                                                            two-gives body.Idle (λ a b. refl),
                                                                            (
                                                                              three-gives body.Tick (λ a b c. refl),
                                                                              (
                                                                                three-gives body.Fire (λ a b c. refl),
                                                                                (
                                                                                  two-gives body.Stim (λ a b. refl),
                                                                                  (
                                                                                    bare-gives body.Settle refl,
                                                                                    (
                                                                                      asserted-gives,
                                                                                      (
                                                                                        bare-gives body.Spent refl,
                                                                                        (
                                                                                          one-gives body.Spill (λ a. refl),
                                                                                          (
                                                                                            two-gives body.Look (λ a b. refl),
                                                                                            (
                                                                                              one-gives body.Rest (λ a. refl),
                                                                                              tt,
                                                                                            ),
                                                                                          ),
                                                                                        ),
                                                                                      ),
                                                                                    ),
                                                                                  ),
                                                                                ),
                                                                              ),
                                                                            ),
                                                                          ),
                                                                        ),
                                                                      ),
                                                                    ),
                                                                  ),
                                                                ),
                                                              ),
                                                            ),
                                                          ),
                                                        ),
                                                      ),
                                                    ),
                                                  ),
                                                ),
                                              ),
                                            ),
                                          ),
                                        ),
                                      ),
                                    ),
                                  ),
                                ),
                              ),
                            ),
                          ),
                        ),
                      ),
                    ),
                  ),
                ),
              ),
            ),
          ),
        ),
      ),
    ),
  ),
)

one-of : (fs : List (List ℕ → Body)) (k : ℕ) (nums : List ℕ) → AllGive fs → HasNumbers (read_by (slice_get fs k) nums) nums
one-of [] k nums h = tt
one-of (f ∷ fs) zero nums h = h.0 nums
one-of (f ∷ fs) (suc k) nums h = one-of fs k nums h.1

pub has-nums : (r : Rec) → HasNumbers (body_of r) r.nums.items
unfolding body_of body_at
has-nums r = one-of forms r.kind r.nums.items all-give
