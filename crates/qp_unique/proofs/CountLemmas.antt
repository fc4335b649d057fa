-- A record in range: it says something that its form knows, with as many numbers as its kind has.
use Rattle.std.proofs.Common.{◌≡◌, ℕ, zero, suc, ◌+◌, ◌≤◌, ◌==◌, nat_le, Bool, true, false, not, ◌&&◌, ◌||◌, cond, List, [], ◌∷◌, map, length, refl, ◌∙◌, ap, subst, Option, Some, None, slice_get, slice_index, arith}
use Rattle.std.specs.List.{list_all}
use Rattle.std.proofs.lemmas.Bool.{and_from, and_parts, not-true, or_right}
use Rattle.std.proofs.lemmas.Bool.Decides.{nat_tests}
use Rattle.std.proofs.lemmas.List.{length-map}
use Rattle.qp_model.specs.declared.bodies.Body.{Body}
use Rattle.qp_model.specs.declared.bodies.Body.TheVariants as body
use Rattle.qp_model.specs.Kinds.{BEGIN, NEW, ASSERT, LOOK, REST}
use Rattle.qp_model.specs.declared.record.Rec.{Rec}
use Rattle.qp_model.specs.Output.{is_record_in_range, is_lane_in_range, last_id}
use Rattle.qp_model.specs.Record.{Item, entry, never, plain_body, one, two, three, four, five, six, seven, new_form, asserted, forms, body_at, body_of, item_of}
use Rattle.qp_model.specs.Vocabulary.{counts, has_count}

-- what a record may say; `rests` tells whether that is a `rest` too
abbrev pub is_said_by : Bool → Body → Bool
is_said_by rests body.Malformed = false
is_said_by rests (body.Rest k) = rests
is_said_by rests (body.New p n b from sig pars) = nat_le (length pars) 8
is_said_by rests _ = true

-- the form that knows it
abbrev pub form_for : Bool → ℕ
form_for rests = cond rests 2 1

pub or-both : (r a b : Bool) → (r || a) ≡ true → (r || b) ≡ true → (r || (a && b)) ≡ true
or-both true a b h k = refl
or-both false a b h k = and_from a b h k

-- a kind that form 1 knows
known-kind : (rests : Bool) (k : ℕ) → nat_le k LOOK ≡ true → nat_le k (last_id (form_for rests)) ≡ true
known-kind true k h = grind (arith, nat_tests, h)
known-kind false k h = h

module _ (rests : Bool) where
  -- how many numbers the forms of the table take
  bare-length : (x : Body) (nums : List ℕ) → is_said_by rests (plain_body x nums) ≡ true → length nums ≡ 0
  bare-length x [] h = refl
  bare-length x (a ∷ nums) h = absurd (cc)

  one-length : (x : ℕ → Body) (nums : List ℕ) → is_said_by rests (one x nums) ≡ true → length nums ≡ 1
  one-length x (a ∷ []) h = refl
  one-length x _ h = absurd (cc)

  two-length : (x : ℕ → ℕ → Body) (nums : List ℕ) → is_said_by rests (two x nums) ≡ true → length nums ≡ 2
  two-length x (a ∷ b ∷ []) h = refl
  two-length x _ h = absurd (cc)

  three-length : (x : ℕ → ℕ → ℕ → Body) (nums : List ℕ) → is_said_by rests (three x nums) ≡ true → length nums ≡ 3
  three-length x (a ∷ b ∷ c ∷ []) h = refl
  three-length x _ h = absurd (cc)

  four-length : (x : ℕ → ℕ → ℕ → ℕ → Body) (nums : List ℕ) → is_said_by rests (four x nums) ≡ true → length nums ≡ 4
  four-length x (a ∷ b ∷ c ∷ d ∷ []) h = refl
  four-length x _ h = absurd (cc)

  five-length : (x : ℕ → ℕ → ℕ → ℕ → ℕ → Body) (nums : List ℕ) → is_said_by rests (five x nums) ≡ true → length nums ≡ 5
  five-length x (a ∷ b ∷ c ∷ d ∷ e ∷ []) h = refl
  five-length x _ h = absurd (cc)

  six-length : (x : ℕ → ℕ → ℕ → ℕ → ℕ → ℕ → Body) (nums : List ℕ) → is_said_by rests (six x nums) ≡ true → length nums ≡ 6
  six-length x (a ∷ b ∷ c ∷ d ∷ e ∷ f ∷ []) h = refl
  six-length x _ h = absurd (cc)

  seven-length : (x : ℕ → ℕ → ℕ → ℕ → ℕ → ℕ → ℕ → Body) (nums : List ℕ) → is_said_by rests (seven x nums) ≡ true → length nums ≡ 7
  seven-length x (a ∷ b ∷ c ∷ d ∷ e ∷ f ∷ g ∷ []) h = refl
  seven-length x _ h = absurd (cc)

  -- a record of this kind with these numbers is in range
  IsCounted : ℕ → (List ℕ → Body) → Type 0
  IsCounted k form =
      (o : ℕ) (nums : List ℕ) → is_said_by rests (form nums) ≡ true → ((nat_le BEGIN k && nat_le k (last_id (form_for rests)) && has_count k (o ∷ nums)) ≡ true) × ((rests || not (k == REST)) ≡ true)

  -- a kind that takes so many numbers
  takes : ℕ → ℕ → Bool
  takes k n = nat_le BEGIN k && nat_le k LOOK && not (k == NEW) && not (k == ASSERT) && not (k == REST) && (suc n == slice_index counts k)

  counted : (k n : ℕ) (form : List ℕ → Body) → ((nums : List ℕ) → is_said_by rests (form nums) ≡ true → length nums ≡ n) → takes k n ≡ true → IsCounted k form
  unfolding IsCounted takes
  counted k n form lengths t o nums h =
      let a = and_parts _ (suc n == slice_index counts k) t in
      let b = and_parts _ (not (k == REST)) a.0 in
      let c = and_parts _ (not (k == ASSERT)) b.0 in
      let d = and_parts _ (not (k == NEW)) c.0 in
      let no_new = not-true (k == NEW) d.1 in
      let no_assert = not-true (k == ASSERT) c.1 in
      let count : has_count k (o ∷ nums) ≡ true = rw (no_new, no_assert) (ap (λ m. suc m == slice_index counts k) (lengths nums h) ∙ a.1) in
      let ends = and_parts (nat_le BEGIN k) (nat_le k LOOK) d.0 in
      (and_from _ _ (and_from _ _ ends.0 (known-kind rests k ends.1)) count, or_right rests _ b.1)

  -- a form that no such record has
  uncounted : (k : ℕ) (form : List ℕ → Body) → ((nums : List ℕ) → is_said_by rests (form nums) ≡ false) → IsCounted k form
  unfolding IsCounted
  uncounted k form none o nums h = absurd (let no = none nums in cc)

  -- a new event: five numbers and at most eight parameters
  given-counted : IsCounted 15 new_form
  unfolding IsCounted
  given-counted o (p ∷ n ∷ b ∷ from ∷ sig ∷ pars) h =
      let few : length pars ≤ 8 = grind (arith, nat_tests, h) in
      let least : nat_le 6 (suc (suc (suc (suc (suc (suc (length pars))))))) ≡ true = grind (arith, nat_tests) in
      let most : nat_le (suc (suc (suc (suc (suc (suc (length pars))))))) 14 ≡ true = grind (arith, nat_tests, few) in
      (and_from _ _ (known-kind rests 15 refl) (and_from _ _ least most), or_right rests true refl)
  given-counted o _ h = absurd (cc)

  -- an assertion: as many numbers as its code has
  asserted-counted : IsCounted 42 asserted
  unfolding IsCounted
  asserted-counted o (code ∷ a ∷ b ∷ c ∷ []) h = (and_from _ _ (known-kind rests 42 refl) (by (code == 1) (code == 5) (code == 2) (code == 3) (code == 4) h), or_right rests true refl)
    where
      by : (x y u v w : Bool) → is_said_by rests (cond u (body.NoBlock a b c) (cond v (body.Armed a b c) (cond w (body.BadTicks a b c) body.Malformed))) ≡ true
          → (((x || y) && false) || ((u || v || w) && true)) ≡ true
      by true true true v w h = refl
      by true false true v w h = refl
      by false true true v w h = refl
      by false false true v w h = refl
      by true true false true w h = refl
      by true false false true w h = refl
      by false true false true w h = refl
      by false false false true w h = refl
      by true true false false true h = refl
      by true false false false true h = refl
      by false true false false true h = refl
      by false false false false true h = refl
      by x y false false false h = absurd (cc)
  asserted-counted o (code ∷ a ∷ f ∷ l ∷ m ∷ []) h = (and_from _ _ (known-kind rests 42 refl) (by (code == 1) (code == 5) (code == 2) (code == 3) (code == 4) h), or_right rests true refl)
    where
      by : (x y u v w : Bool) → is_said_by rests (cond x (body.NoEntry a f l m) (cond y (body.NoLifo a f l m) body.Malformed)) ≡ true
          → (((x || y) && true) || ((u || v || w) && false)) ≡ true
      by true y u v w h = refl
      by false true u v w h = refl
      by false false u v w h = absurd (cc)
  asserted-counted o _ h = absurd (cc)

  rest-counted : IsCounted 46 (one body.Rest)
  unfolding IsCounted
  rest-counted o (k ∷ []) h = rw h (refl, refl)
  rest-counted o _ h = absurd (cc)

  not-any : (nums : List ℕ) → is_said_by rests (never nums) ≡ false
  not-any nums = refl

  -- the forms from this kind on
  AllCounted : ℕ → List (List ℕ → Body) → Type 0
  unfolding IsCounted
  AllCounted k [] = Unit {0}
  AllCounted k (form ∷ more) = IsCounted k form × AllCounted (k + 1) more

  counted-at : (k : ℕ) (table : List (List ℕ → Body)) (i : ℕ) (form : List ℕ → Body) → AllCounted k table → slice_get table i ≡ Some form → IsCounted (k + i) form
  unfolding AllCounted
  counted-at k [] i form all is = absurd (cc)
  counted-at k (f ∷ table) zero form all is =
      let same : f ≡ form = cc in
      let here : k ≡ k + 0 = omega arith in
      subst (λ n. IsCounted n form) here (subst (IsCounted k) same all.0)
  counted-at k (f ∷ table) (suc i) form all is =
      let next : (k + 1) + i ≡ k + suc i = omega arith in
      subst (λ n. IsCounted n form) next (counted-at (k + 1) table i form all.1 is)

  then : {A B : Type 0} → A → B → A × B
  then a b = (a, b)

  forms-counted : AllCounted 0 forms
  unfolding AllCounted takes
  forms-counted =
      then (uncounted 0 never not-any)
      (then (uncounted 1 never not-any)
      (then (uncounted 2 never not-any)
      (then (uncounted 3 never not-any)
      (then (counted 4 0 (plain_body body.Begin) (bare-length body.Begin) refl)
      (then (counted 5 6 (six (λ f l m p b r. body.Took f l m (entry p b r))) (six-length (λ f l m p b r. body.Took f l m (entry p b r))) refl)
      (then (counted 6 3 (three body.Nil) (three-length body.Nil) refl)
      (then (counted 7 4 (four body.Seen) (four-length body.Seen) refl)
      (then (counted 8 2 (two body.Run) (two-length body.Run) refl)
      (then (counted 9 0 (plain_body body.Unhandled) (bare-length body.Unhandled) refl)
      (then (counted 10 1 (one body.Exit) (one-length body.Exit) refl)
      (then (counted 11 1 (one body.Enter) (one-length body.Enter) refl)
      (then (counted 12 1 (one body.Init) (one-length body.Init) refl)
      (then (counted 13 1 (one body.Say) (one-length body.Say) refl)
      (then (counted 14 0 (plain_body body.Done) (bare-length body.Done) refl)
      (then given-counted
      (then (counted 16 4 (four body.Short) (four-length body.Short) refl)
      (then (counted 17 3 (three body.Inc) (three-length body.Inc) refl)
      (then (counted 18 4 (four body.Dec) (four-length body.Dec) refl)
      (then (counted 19 4 (four body.Back) (four-length body.Back) refl)
      (then (counted 20 7 (seven (λ a f l m p b r. body.Post a f l m (entry p b r))) (seven-length (λ a f l m p b r. body.Post a f l m (entry p b r))) refl)
      (then (counted 21 6 (six (λ f l m p b r. body.Lifo f l m (entry p b r))) (six-length (λ f l m p b r. body.Lifo f l m (entry p b r))) refl)
      (then (counted 22 5 (five body.Full) (five-length body.Full) refl)
      (then (counted 23 3 (three body.Pub) (three-length body.Pub) refl)
      (then (counted 24 1 (one body.Lock) (one-length body.Lock) refl)
      (then (counted 25 1 (one body.Unlock) (one-length body.Unlock) refl)
      (then (counted 26 3 (three (λ p b r. body.Defer (entry p b r))) (three-length (λ p b r. body.Defer (entry p b r))) refl)
      (then (counted 27 0 (plain_body body.NoDefer) (bare-length body.NoDefer) refl)
      (then (counted 28 3 (three (λ p b r. body.Recall (entry p b r))) (three-length (λ p b r. body.Recall (entry p b r))) refl)
      (then (counted 29 0 (plain_body body.NoRecall) (bare-length body.NoRecall) refl)
      (then (counted 30 3 (three (λ p b r. body.Flush (entry p b r))) (three-length (λ p b r. body.Flush (entry p b r))) refl)
      (then (counted 31 2 (two body.Sub) (two-length body.Sub) refl)
      (then (counted 32 2 (two body.Unsub) (two-length body.Unsub) refl)
      (then (counted 33 2 (two body.Same) (two-length body.Same) refl)
      (then (counted 34 4 (four body.Arm) (four-length body.Arm) refl)
      (then (counted 35 3 (three body.Disarm) (three-length body.Disarm) refl)
      (then (counted 36 4 (four body.Rearm) (four-length body.Rearm) refl)
      (then (counted 37 2 (two body.Idle) (two-length body.Idle) refl)
      (then (counted 38 3 (three body.Tick) (three-length body.Tick) refl)
      (then (counted 39 3 (three body.Fire) (three-length body.Fire) refl)
      (then (counted 40 2 (two body.Stim) (two-length body.Stim) refl)
      (then (counted 41 0 (plain_body body.Settle) (bare-length body.Settle) refl)
      (then asserted-counted
      (then (counted 43 0 (plain_body body.Spent) (bare-length body.Spent) refl)
      (then (counted 44 1 (one body.Spill) (one-length body.Spill) refl)
      (then (counted 45 2 (two body.Look) (two-length body.Look) refl)
      (then rest-counted tt))))))))))))))))))))))))))))))))))))))))))))))

  -- what a record says, by the form of its kind
  abbrev said : Option (List ℕ → Body) → List ℕ → Body
  said None nums = body.Malformed
  said (Some form) nums = form nums

  record-counted : (r : Rec) → is_said_by rests (body_of r) ≡ true → ((nat_le BEGIN r.kind && nat_le r.kind (last_id (form_for rests)) && has_count r.kind (r.of ∷ r.nums.items)) ≡ true) × ((rests || not (r.kind == REST)) ≡ true)
  unfolding body_of body_at IsCounted
  record-counted r h = go (slice_get forms r.kind) refl h
    where
      go : (o : Option (List ℕ → Body)) → slice_get forms r.kind ≡ o → is_said_by rests (said o r.nums.items) ≡ true
          → ((nat_le BEGIN r.kind && nat_le r.kind (last_id (form_for rests)) && has_count r.kind (r.of ∷ r.nums.items)) ≡ true) × ((rests || not (r.kind == REST)) ≡ true)
      go None was flat = absurd (cc)
      go (Some form) was flat =
          let here : 0 + r.kind ≡ r.kind = omega arith in
          (subst (λ n. IsCounted n form) here (counted-at 0 forms r.kind form forms-counted was)) r.of r.nums.items flat

-- an item of an object that says so
abbrev pub is_kept_by : Bool → Item → Bool
is_kept_by rests i = nat_le i.of 32 && is_said_by rests i.body

records-kept : (rests : Bool) (rs : List Rec) → list_all (is_kept_by rests) (map item_of rs) ≡ true
    → (list_all (is_record_in_range (form_for rests)) rs ≡ true) × ((rests || list_all (λ r. not (r.kind == REST)) rs) ≡ true)
unfolding item_of
records-kept rests [] h = (refl, or_right rests true refl)
records-kept rests (r ∷ rs) h =
    let here = and_parts (nat_le r.of 32) (is_said_by rests (body_of r)) (and_parts _ _ h).0 in
    let rest = records-kept rests rs (and_parts _ _ h).1 in
    let one_here = record-counted rests r here.1 in
    (and_from _ _ (and_from _ _ one_here.0 here.0) rest.0, or-both rests _ _ one_here.1 rest.1)

-- a lane of such items is in range and has its form
pub lane-kept : (rests : Bool) (rs : List Rec) → list_all (is_kept_by rests) (map item_of rs) ≡ true → length (map item_of rs) ≤ 1000001
    → (is_lane_in_range (form_for rests) rs ≡ true) × ((rests || list_all (λ r. not (r.kind == REST)) rs) ≡ true)
lane-kept rests rs all short =
    let parts = records-kept rests rs all in
    let same : length (map item_of rs) ≡ length rs = length-map rs item_of in
    let few : nat_le (length rs) 1000001 ≡ true = grind (arith, nat_tests, same, short) in
    (and_from _ _ few parts.0, parts.1)
