-- What has been read so far, as items.
use Rattle.std.proofs.Common.{◌≡◌, ◌∙◌, ℕ, suc, ◌+◌, ◌≤◌, Bool, true, false, List, [], ◌∷◌, ◌++◌, map, length, Option, Some, None, Result, Ok, Err, cond, refl, sym, ap, append_assoc, append-nil, arith}
use Rattle.std.specs.Prelude.{◌==◌, ◌&&◌, ◌⊎◌, nat_le}
use Rattle.std.specs.List.{list_all}
use Rattle.std.proofs.lemmas.Bool.{eqb-true, and_from, and_parts}
use Rattle.qp_model.specs.Kinds.{QP, LANE, END_LINE}
use Rattle.qp_model.specs.declared.record.Rec.{Rec}
use Rattle.qp_model.specs.Output.{JournalItem, item, record_item, items_of_lane, items_of_lanes, last_kernel, is_lane_in_range, is_end_status}
use Rattle.qp_text.specs.declared.progress.Reading.{Reading}
use Rattle.qp_text.specs.Progress.{all_lanes, nothing_read, begin_reading}
use Rattle.qp_text.specs.TextLaw.{records_have_64_bits}

-- the items of the last line, if it was read
abbrev pub end_items : Option ℕ → List JournalItem
end_items None = []
end_items (Some status) = item END_LINE (status ∷ []) ∷ []

-- the items that have been read
abbrev pub taken : Reading → List JournalItem
taken p = cond p.begun (item QP (p.form ∷ p.kernel ∷ p.budget ∷ []) ∷ items_of_lanes 0 (all_lanes p) ++ end_items p.end) []

-- what was read is in range
pub record Ranged (p : Reading) : Type 0 where
  pub form : (p.form ≡ 1) ⊎ (p.form ≡ 2)
  pub kernel : nat_le p.kernel (last_kernel p.form) ≡ true
  pub low : nat_le 1 p.budget ≡ true
  pub high : nat_le p.budget 1000000 ≡ true
  pub lanes : list_all (is_lane_in_range p.form) (all_lanes p) ≡ true
  pub bits : records_have_64_bits (all_lanes p) ≡ true
  pub count : length (all_lanes p) ≤ 49
  pub ended : (status : ℕ) → p.end ≡ Some status → (is_end_status status ≡ true) × (p.lane ≡ None)

-- one lane more
pub lanes-more : (k : ℕ) (lanes : List (List Rec)) (lane : List Rec)
    → items_of_lanes k (lanes ++ lane ∷ []) ≡ items_of_lanes k lanes ++ items_of_lane (k + length lanes) lane
lanes-more k [] lane =
    let here : k ≡ k + 0 = omega arith in
    append-nil (items_of_lane k lane) ∙ ap (λ n. items_of_lane n lane) here
lanes-more k (x ∷ lanes) lane =
    let there : (k + 1) + length lanes ≡ k + suc (length lanes) = omega arith in
    ap (λ t. items_of_lane k x ++ t) (lanes-more (k + 1) lanes lane ∙ ap (λ n. items_of_lanes (k + 1) lanes ++ items_of_lane n lane) there)
    ∙ sym (append_assoc (items_of_lane k x) (items_of_lanes (k + 1) lanes) (items_of_lane (k + suc (length lanes)) lane))

map-more : (lane : List Rec) (r : Rec) → map record_item (lane ++ r ∷ []) ≡ map record_item lane ++ record_item r ∷ []
map-more [] r = refl
map-more (x ∷ lane) r = ap (λ t. record_item x ∷ t) (map-more lane r)

-- one record more in the last lane
pub records-more : (lanes : List (List Rec)) (lane : List Rec) (r : Rec)
    → items_of_lanes 0 (lanes ++ (lane ++ r ∷ []) ∷ []) ≡ items_of_lanes 0 (lanes ++ lane ∷ []) ++ record_item r ∷ []
records-more lanes lane r =
    lanes-more 0 lanes (lane ++ r ∷ [])
    ∙ ap (λ t. items_of_lanes 0 lanes ++ (item LANE ((0 + length lanes) ∷ []) ∷ t)) (map-more lane r)
    ∙ sym (append_assoc (items_of_lanes 0 lanes) (items_of_lane (0 + length lanes) lane) (record_item r ∷ []))
    ∙ ap (λ t. t ++ record_item r ∷ []) (sym (lanes-more 0 lanes lane))

-- a test of all but the last
pub all-front : {X : Type 0} (test : X → Bool) (xs : List X) (x : X) → list_all test (xs ++ x ∷ []) ≡ true → (list_all test xs ≡ true) × (test x ≡ true)
all-front test [] x all = (refl, (and_parts (test x) true all).0)
all-front test (y ∷ xs) x all =
    let both = and_parts (test y) (list_all test (xs ++ x ∷ [])) all in
    let front = all-front test xs x both.1 in
    (and_from (test y) (list_all test xs) both.0 front.0, front.1)

-- what one item more does to a reading
pub record Takes (p q : Reading) (form : ℕ) (i : JournalItem) : Type 0 where
  pub begun : q.begun ≡ true
  pub form_is : q.form ≡ form
  pub ranged : Ranged q
  pub items : taken q ≡ taken p ++ i ∷ []

-- the first line
pub begin-is : (form : ℕ) (nums : List ℕ) (q : Reading) → (form ≡ 1) ⊎ (form ≡ 2) → begin_reading nothing_read form nums ≡ Ok q → Takes nothing_read q form (item QP nums)
begin-is form (stated ∷ kernel ∷ budget ∷ []) q known is =
    go ((stated == form) && nat_le kernel (last_kernel form) && nat_le 1 budget && nat_le budget 1000000) refl is where
      go : (fits : Bool) → ((stated == form) && nat_le kernel (last_kernel form) && nat_le 1 budget && nat_le budget 1000000) ≡ fits
          → cond {A = Result Reading ℕ} fits (Ok (record nothing_read { begun = true; form = form; kernel = kernel; budget = budget })) (Err 6) ≡ Ok q
          → Takes nothing_read q form (item QP (stated ∷ kernel ∷ budget ∷ []))
      go false fits is = absurd cc
      go true fits is =
          let three = and_parts ((stated == form) && nat_le kernel (last_kernel form) && nat_le 1 budget) (nat_le budget 1000000) fits in
          let two = and_parts ((stated == form) && nat_le kernel (last_kernel form)) (nat_le 1 budget) three.0 in
          let one = and_parts (stated == form) (nat_le kernel (last_kernel form)) two.0 in
          let this : record nothing_read { begun = true; form = form; kernel = kernel; budget = budget } ≡ q = cc in
          rw (← this) record {
            begun = refl;
            form_is = refl;
            ranged = record { form = known; kernel = one.1; low = two.1; high = three.1; lanes = refl; bits = refl; count = omega arith; ended = λ status end. absurd cc };
            items = rw (eqb-true stated form one.0) refl;
          }
begin-is form [] q known is = absurd cc
begin-is form (a ∷ []) q known is = absurd cc
begin-is form (a ∷ b ∷ []) q known is = absurd cc
begin-is form (a ∷ b ∷ c ∷ d ∷ nums) q known is = absurd cc
