-- Where nothing follows the records that end a lane, the last records tell the outcome.
use Rattle.std.proofs.Common.{◌≡◌, ℕ, zero, suc, ◌-◌, nat_lt, Bool, true, false, not, ◌&&◌, ◌||◌, cond, List, [], ◌∷◌, length, slice_get, refl, sym, ◌∙◌, ap, Some, None, arith}
use Rattle.std.specs.declared.option.Option.{Option}
use Rattle.std.specs.Option.{option_map_or, unwrap_or}
use Rattle.std.specs.List.{find, list_all, list_any, position, prefix_len}
use Rattle.qp_model.specs.declared.bodies.Body.{Body}
use Rattle.qp_model.specs.declared.bodies.Body.TheVariants as body
use Rattle.qp_model.specs.declared.journals.Journal.{Journal}
use Rattle.qp_model.specs.declared.record.Rec.{Rec}
use Rattle.qp_model.specs.Ends.{ends_last, is_assert, is_end, is_spent, is_spill}
use Rattle.qp_model.specs.History.{lane_items}
use Rattle.qp_model.specs.Home.{lane_at}
use Rattle.qp_model.specs.Record.{Item, body_of, item_of}
use Rattle.qp_kernel_end.specs.LastRecords.{last_asserted_at, last_rec_code, last_rec_is, last_rec, last_outcome}
use Rattle.qp_kernel_end.specs.Outcome.{asserted_at, asserts, code_in, code_of, is_asserted, is_spent_lane, outcome_of, runs_out, spent_at}

-- in a lane like this nothing follows a record that ends it
abbrev Ends : List Rec → Type 0
Ends lane = ends_last (lane_items lane) ≡ true

last-behind : (r s : Rec) (lane : List Rec) → last_rec (r ∷ s ∷ lane) ≡ last_rec (s ∷ lane)
last-behind r s lane =
    let place : length (r ∷ s ∷ lane) - 1 ≡ suc (length (s ∷ lane) - 1) = omega arith in
    ap (λ i. slice_get (r ∷ s ∷ lane) i) place

ends-head : (i j : Item) (is : List Item) → ends_last (i ∷ j ∷ is) ≡ true → (is_end i.body ≡ false) × (ends_last (j ∷ is) ≡ true)
unfolding ends_last
ends-head i j is h = by (is_end i.body) (ends_last (j ∷ is)) h
  where
    by : (a b : Bool) → (not a && b) ≡ true → (a ≡ false) × (b ≡ true)
    by true b wrong = absurd (cc)
    by false b h = (refl, h)

ends-behind : (r s : Rec) (lane : List Rec) → Ends (r ∷ s ∷ lane) → (is_end (body_of r) ≡ false) × Ends (s ∷ lane)
unfolding item_of lane_items
ends-behind r s lane h = ends-head (item_of r) (item_of s) (lane_items lane) h

-- a test that only such records pass
abbrev IsOfEnds : (Rec → Bool) → Type 0
IsOfEnds test = (r : Rec) → is_end (body_of r) ≡ false → test r ≡ false

any-last : (test : Rec → Bool) → IsOfEnds test → (lane : List Rec) → Ends lane → list_any test lane ≡ last_rec_is test lane
any-last test of [] h = refl
any-last test of (r ∷ []) h = by (test r)
  where
    by : (b : Bool) → (b || false) ≡ b
    by true = refl
    by false = refl
any-last test of (r ∷ s ∷ lane) h =
    let behind = ends-behind r s lane h in
    ap (λ b. b || list_any test (s ∷ lane)) (of r behind.0)
    ∙ any-last test of (s ∷ lane) behind.1
    ∙ sym (ap (λ x. option_map_or test x false) (last-behind r s lane))

-- a test has its first place where one has that agrees with it in each of these lanes
prefix-same : (f g : List Rec → Bool) → ((lane : List Rec) → Ends lane → f lane ≡ g lane) → (lanes : List (List Rec)) → list_all (λ lane. ends_last (lane_items lane)) lanes ≡ true
    → prefix_len (λ x. not (f x)) lanes ≡ prefix_len (λ x. not (g x)) lanes
prefix-same f g same [] h = refl
prefix-same f g same (lane ∷ lanes) h = by (ends_last (lane_items lane)) (list_all (λ lane. ends_last (lane_items lane)) lanes) h (same lane) (prefix-same f g same lanes)
  where
    by : (a b : Bool) → (a && b) ≡ true → (a ≡ true → f lane ≡ g lane) → (b ≡ true → prefix_len (λ x. not (f x)) lanes ≡ prefix_len (λ x. not (g x)) lanes)
        → prefix_len (λ x. not (f x)) (lane ∷ lanes) ≡ prefix_len (λ x. not (g x)) (lane ∷ lanes)
    by true true h one more = rw (one refl, more refl) refl
    by true false h one more = absurd (cc)
    by false b h one more = absurd (cc)

position-same : (f g : List Rec → Bool) → ((lane : List Rec) → Ends lane → f lane ≡ g lane) → (lanes : List (List Rec)) → list_all (λ lane. ends_last (lane_items lane)) lanes ≡ true
    → position f lanes ≡ position g lanes
position-same f g same lanes h = ap (λ n. cond (nat_lt n (length lanes)) (Some n) None) (prefix-same f g same lanes h)

asserts-end : IsOfEnds asserts
unfolding asserts
asserts-end r h = by (is_assert (body_of r)) (is_spent (body_of r)) (is_spill (body_of r)) h
  where
    by : (a b c : Bool) → (a || b || c) ≡ false → a ≡ false
    by true b c wrong = absurd (cc)
    by false b c h = refl

runs_out-end : IsOfEnds runs_out
unfolding runs_out
runs_out-end r h = by (is_assert (body_of r)) (is_spent (body_of r)) (is_spill (body_of r)) h
  where
    by : (a b c : Bool) → (a || b || c) ≡ false → (b || c) ≡ false
    by true b c wrong = absurd (cc)
    by false b c h = h

-- a record that is no assertion has code 0
code-none : (b : Body) → is_assert b ≡ false → code_of b ≡ 0
code-none (body.NoEntry a f l m) h = absurd (cc)
code-none (body.NoBlock p n free) h = absurd (cc)
code-none (body.Armed t n c) h = absurd (cc)
code-none (body.BadTicks t n i) h = absurd (cc)
code-none (body.NoLifo a f l m) h = absurd (cc)
code-none _ h = refl

code-last : (lane : List Rec) → Ends lane → code_in lane ≡ last_rec_code lane
unfolding code_in last_rec_code asserts
code-last [] h = refl
code-last (r ∷ []) h = by (asserts r) refl
  where
    by : (b : Bool) → asserts r ≡ b → option_map_or (λ x. code_of (body_of x)) (cond b (Some r) None) 0 ≡ code_of (body_of r)
    by true e = refl
    by false e = sym (code-none (body_of r) e)
code-last (r ∷ s ∷ lane) h =
    let behind = ends-behind r s lane h in
    ap (λ b. option_map_or (λ x. code_of (body_of x)) (cond b (Some r) (find asserts (s ∷ lane))) 0) (asserts-end r behind.0)
    ∙ code-last (s ∷ lane) behind.1
    ∙ sym (ap (λ x. option_map_or (λ y. code_of (body_of y)) x 0) (last-behind r s lane))

at-all : (lanes : List (List Rec)) (n : ℕ) → list_all (λ lane. ends_last (lane_items lane)) lanes ≡ true → Ends (unwrap_or (slice_get lanes n) [])
unfolding ends_last lane_items
at-all [] n h = refl
at-all (lane ∷ lanes) n h = by (ends_last (lane_items lane)) (list_all (λ lane. ends_last (lane_items lane)) lanes) h refl (at-all lanes)
  where
    by : (a b : Bool) → (a && b) ≡ true → ends_last (lane_items lane) ≡ a → ((m : ℕ) → b ≡ true → Ends (unwrap_or (slice_get lanes m) [])) → Ends (unwrap_or (slice_get (lane ∷ lanes) n) [])
    by true true h one more = at n
      where
        at : (m : ℕ) → Ends (unwrap_or (slice_get (lane ∷ lanes) m) [])
        at zero = one
        at (suc m) = more m refl
    by true false h one more = absurd (cc)
    by false b h one more = absurd (cc)

module _ (j : Journal) (last : list_all (λ lane. ends_last (lane_items lane)) j.lanes ≡ true) where
  asserted-same : (o : Option ℕ) → asserted_at j o ≡ last_asserted_at j o
  asserted-same (Some n) = rw (code-last (lane_at j n) (at-all j.lanes n last)) refl
  asserted-same None = ap spent_at (position-same is_spent_lane (last_rec_is runs_out) (any-last runs_out runs_out-end) j.lanes last)

  pub last-tells : last_outcome j ≡ outcome_of j
  unfolding last_outcome outcome_of
  last-tells =
      sym (ap (asserted_at j) (position-same is_asserted (last_rec_is asserts) (any-last asserts asserts-end) j.lanes last)
      ∙ asserted-same (position (last_rec_is asserts) j.lanes))
