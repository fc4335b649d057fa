-- An item that is taken stands behind those that were taken before.
use Rattle.std.proofs.Common.{◌≡◌, ◌∙◌, ℕ, ◌^◌, ◌≤◌, Bool, true, false, List, [], ◌∷◌, ◌++◌, length, Option, Some, None, Result, Ok, Err, cond, refl, sym, ap, append-nil, zero-add, length-append, arith, inl, inr}
use Rattle.std.proofs.lemmas.Bool.Decides.{nat_tests}
use Rattle.std.specs.Prelude.{◌==◌, ◌&&◌, ◌⊎◌, nat_le, nat_lt, option_to_list}
use Rattle.std.specs.List.{list_all}
use Rattle.std.specs.Option.{is_some}
use Rattle.std.proofs.lemmas.Bool.{eqb-true, le-leb, leb-true, ltb-true, and_from, and_parts}
use Rattle.qp_model.specs.Kinds.{QP, LANE, END_LINE, BEGIN}
use Rattle.qp_model.specs.declared.record.Rec.{Rec}
use Rattle.qp_model.specs.Vocabulary.{has_count}
use Rattle.qp_model.specs.Output.{JournalItem, item, record_item, items_of_lanes, last_id, is_record_in_range, is_lane_in_range, is_end_status}
use Rattle.qp_text.specs.declared.progress.Reading.{Reading}
use Rattle.qp_text.specs.Progress.{all_lanes, nothing_read, begin_reading, open_lane, close, add_record, go_on, take_item}
use Rattle.qp_text.specs.TextLaw.{has_64_bits, lane_has_64_bits, record_has_64_bits}
use Rattle.qp_text.proofs.TakenLaw.{Ranged, Takes, begin-is, lanes-more, records-more, taken, all-front}
use Rattle.qp_model.proofs.ListLemmas.{all-push}

-- one record more in a lane
lane-grows : (form : ℕ) (lane : List Rec) (id o : ℕ) (nums : List ℕ) → BEGIN ≤ id → id ≤ last_id form → has_count id (o ∷ nums) ≡ true
    → nat_le o 32 ≡ true → nat_lt (length lane) 1000001 ≡ true → is_lane_in_range form lane ≡ true
    → is_lane_in_range form (lane ++ record { kind = id; of = o; nums = record { items = nums } } ∷ []) ≡ true
lane-grows form lane id o nums first past count small room lane_fits =
    let r : Rec = record { kind = id; of = o; nums = record { items = nums } } in
    let lane_parts = and_parts (nat_le (length lane) 1000001) (list_all (is_record_in_range form) lane) lane_fits in
    let longer : nat_le (length (lane ++ r ∷ [])) 1000001 ≡ true =
    le-leb _ _ (omega (arith, length-append lane (r ∷ []), ltb-true (length lane) 1000001 room)) in
    let kind : (nat_le BEGIN id && nat_le id (last_id form)) ≡ true = and_from (nat_le BEGIN id) (nat_le id (last_id form)) (le-leb _ _ first) (le-leb _ _ past) in
    let fits : is_record_in_range form r ≡ true =
    and_from (nat_le BEGIN id && nat_le id (last_id form) && has_count id (o ∷ nums)) (nat_le o 32)
    (and_from (nat_le BEGIN id && nat_le id (last_id form)) (has_count id (o ∷ nums)) kind count) small in
    and_from (nat_le (length (lane ++ r ∷ [])) 1000001) (list_all (is_record_in_range form) (lane ++ r ∷ []))
    longer (all-push (is_record_in_range form) lane r lane_parts.1 fits)

-- a reading under way, with no last line yet
module _ (p : Reading) (begun : p.begun ≡ true) (unended : p.end ≡ None) (ranged : Ranged p) where
  -- the items of a reading with no last line
  before : taken p ≡ item QP (p.form ∷ p.kernel ∷ p.budget ∷ []) ∷ items_of_lanes 0 (all_lanes p)
  before = rw (begun, unended) (ap (λ t. item QP (p.form ∷ p.kernel ∷ p.budget ∷ []) ∷ t) (append-nil (items_of_lanes 0 (all_lanes p))))

  pub open_lane-is : (nums : List ℕ) (q : Reading) → open_lane p nums ≡ Ok q → Takes p q p.form (item LANE nums)
  open_lane-is [] q is = absurd cc
  open_lane-is (a ∷ b ∷ nums) q is = absurd cc
  open_lane-is (number ∷ []) q is = go (number == length (all_lanes p)) refl (nat_le number 48) refl is where
    go : (next : Bool) → (number == length (all_lanes p)) ≡ next → (few : Bool) → nat_le number 48 ≡ few
        → cond {A = Result Reading ℕ} next (cond {A = Result Reading ℕ} few (Ok (record p { lanes = all_lanes p; lane = Some [] })) (Err 6)) (Err 4) ≡ Ok q
        → Takes p q p.form (item LANE (number ∷ []))
    go false next few_is few is = absurd cc
    go true next false few is = absurd cc
    go true next true few is =
        let this : record p { lanes = all_lanes p; lane = Some [] } ≡ q = cc in
        rw (← this) record {
          begun = begun;
          form_is = refl;
          ranged = record {
            form = ranged.form;
            kernel = ranged.kernel;
            low = ranged.low;
            high = ranged.high;
            lanes = all-push (is_lane_in_range p.form) (all_lanes p) [] ranged.lanes refl;
            bits = all-push lane_has_64_bits (all_lanes p) [] ranged.bits refl;
            count = omega (arith, length-append (all_lanes p) ([] ∷ []), leb-true number 48 few, eqb-true number (length (all_lanes p)) next);
            ended = λ status end. let none = rw unended at end in absurd cc;
          };
          items =
              rw (begun, unended) (ap (λ t. item QP (p.form ∷ p.kernel ∷ p.budget ∷ []) ∷ t)
              (append-nil (items_of_lanes 0 (all_lanes p ++ [] ∷ [])) ∙ lanes-more 0 (all_lanes p) []
              ∙ ap (λ n. items_of_lanes 0 (all_lanes p) ++ item LANE (n ∷ []) ∷ []) (zero-add (length (all_lanes p)) ∙ sym (eqb-true number (length (all_lanes p)) next))))
              ∙ ap (λ t. t ++ item LANE (number ∷ []) ∷ []) (sym before);
        }

  pub close-is : (nums : List ℕ) (q : Reading) → close p nums ≡ Ok q → Takes p q p.form (item END_LINE nums)
  close-is [] q is = absurd cc
  close-is (a ∷ b ∷ nums) q is = absurd cc
  close-is (status ∷ []) q is = go (is_end_status status) refl is where
    go : (fits : Bool) → is_end_status status ≡ fits
        → cond {A = Result Reading ℕ} fits (Ok (record p { lanes = all_lanes p; lane = None; end = Some status })) (Err 6) ≡ Ok q
        → Takes p q p.form (item END_LINE (status ∷ []))
    go false fits is = absurd cc
    go true fits is =
        let this : record p { lanes = all_lanes p; lane = None; end = Some status } ≡ q = cc in
        rw (← this) record {
          begun = begun;
          form_is = refl;
          ranged = record {
            form = ranged.form;
            kernel = ranged.kernel;
            low = ranged.low;
            high = ranged.high;
            lanes = rw (append-nil (all_lanes p)) ranged.lanes;
            bits = rw (append-nil (all_lanes p)) ranged.bits;
            count = rw (append-nil (all_lanes p)) ranged.count;
            ended = λ other end. (let same : status ≡ other = cc in rw (← same) fits, refl);
          };
          items =
              rw (begun, append-nil (all_lanes p)) refl ∙ ap (λ t. t ++ item END_LINE (status ∷ []) ∷ []) (sym before);
        }

  pub add_record-is : (id : ℕ) (nums : List ℕ) (q : Reading) → BEGIN ≤ id → id ≤ last_id p.form → has_count id nums ≡ true → has_64_bits nums ≡ true
      → (lane : Option (List Rec)) → p.lane ≡ lane → add_record p id nums lane ≡ Ok q → Takes p q p.form (item id nums)
  add_record-is id nums q first past count bits None here is = absurd cc
  add_record-is id [] q first past count bits (Some lane) here is = absurd cc
  add_record-is id (o ∷ nums) q first past count bits (Some lane) here is = go (nat_le o 32 && nat_lt (length lane) 1000001) refl is where
    go : (fits : Bool) → (nat_le o 32 && nat_lt (length lane) 1000001) ≡ fits
        → cond {A = Result Reading ℕ} fits (Ok (record p { lane = Some (lane ++ record { kind = id; of = o; nums = record { items = nums } } ∷ []) })) (Err 6) ≡ Ok q
        → Takes p q p.form (item id (o ∷ nums))
    go false fits is = absurd cc
    go true fits is =
        let r : Rec = record { kind = id; of = o; nums = record { items = nums } } in
        let head : JournalItem = item QP (p.form ∷ p.kernel ∷ p.budget ∷ []) in
        let both = and_parts (nat_le o 32) (nat_lt (length lane) 1000001) fits in
        let whole : list_all (is_lane_in_range p.form) (p.lanes ++ lane ∷ []) ≡ true = rw here at ranged.lanes in
        let few : length (p.lanes ++ lane ∷ []) ≤ 49 = rw here at ranged.count in
        let front = all-front (is_lane_in_range p.form) p.lanes lane whole in
        let bits_front = all-front lane_has_64_bits p.lanes lane (rw here at ranged.bits) in
        let grown = lane-grows p.form lane id o nums first past count both.0 both.1 front.1 in
        let this : record p { lane = Some (lane ++ record { kind = id; of = o; nums = record { items = nums } } ∷ []) } ≡ q = cc in
        rw (← this) record {
          begun = begun;
          form_is = refl;
          ranged = record {
            form = ranged.form;
            kernel = ranged.kernel;
            low = ranged.low;
            high = ranged.high;
            lanes = all-push (is_lane_in_range p.form) p.lanes (lane ++ r ∷ []) front.0 grown;
            bits = all-push lane_has_64_bits p.lanes (lane ++ r ∷ []) bits_front.0 (all-push record_has_64_bits lane r bits_front.1 (and_parts (nat_lt o (2 ^ 64)) (has_64_bits nums) bits).1);
            count = omega (arith, few, length-append p.lanes (lane ∷ []), length-append p.lanes ((lane ++ r ∷ []) ∷ []));
            ended = λ status end. let none = rw unended at end in absurd cc;
          };
          items =
              rw (begun, unended) (ap (λ t. head ∷ t) (append-nil (items_of_lanes 0 (p.lanes ++ (lane ++ r ∷ []) ∷ [])) ∙ records-more p.lanes lane r))
              ∙ ap (λ t. t ++ record_item r ∷ []) (sym (before ∙ ap (λ o. head ∷ items_of_lanes 0 (p.lanes ++ option_to_list o)) here));
        }

module _ (p q : Reading) (i : JournalItem) (begun : p.begun ≡ true) (ranged : Ranged p) (first : 1 ≤ i.id) (past : i.id ≤ last_id p.form)
    (count : has_count i.id i.nums ≡ true) (bits : has_64_bits i.nums ≡ true) where
  -- by the last line, and by what the item is
  go_on-by : (ended : Option ℕ) → p.end ≡ ended → (is_qp is_lane is_end : Bool) → (i.id == QP) ≡ is_qp → (i.id == LANE) ≡ is_lane → (i.id == END_LINE) ≡ is_end
      → cond {A = Result Reading ℕ} (is_some ended) (Err 4) (cond {A = Result Reading ℕ} is_qp (Err 4)
      (cond {A = Result Reading ℕ} is_lane (open_lane p i.nums) (cond {A = Result Reading ℕ} is_end (close p i.nums) (add_record p i.id i.nums p.lane)))) ≡ Ok q
      → Takes p q p.form i
  go_on-by (Some status) end is_qp is_lane is_end qp lane last is = absurd cc
  go_on-by None end true is_lane is_end qp lane last is = absurd cc
  go_on-by None end false true is_end qp lane last is =
      let this : item LANE i.nums ≡ i = ap (λ id. item id i.nums) (sym (eqb-true i.id LANE lane)) in
      rw (← this) (open_lane-is p begun end ranged i.nums q is)
  go_on-by None end false false true qp lane last is =
      let this : item END_LINE i.nums ≡ i = ap (λ id. item id i.nums) (sym (eqb-true i.id END_LINE last)) in
      rw (← this) (close-is p begun end ranged i.nums q is)
  go_on-by None end false false false qp lane last is =
      let record_kind : BEGIN ≤ i.id = grind (arith, nat_tests) in
      add_record-is p begun end ranged i.id i.nums q record_kind past count bits p.lane refl is

  -- an item after the first
  pub go_on-is : go_on p i ≡ Ok q → Takes p q p.form i
  go_on-is is = go_on-by p.end refl (i.id == QP) (i.id == LANE) (i.id == END_LINE) refl refl refl is

-- a reading has begun, or nothing has been read
abbrev pub Good : Reading → Type 0
Good p = ((p.begun ≡ true) × Ranged p) ⊎ (p ≡ nothing_read)

take_first : (form : ℕ) (q : Reading) (i : JournalItem) → (form ≡ 1) ⊎ (form ≡ 2) → take_item form nothing_read i ≡ Ok q → Takes nothing_read q form i
take_first form q i known is = go (i.id == QP) refl is where
  go : (is_qp : Bool) → (i.id == QP) ≡ is_qp → cond {A = Result Reading ℕ} is_qp (begin_reading nothing_read form i.nums) (Err 4) ≡ Ok q → Takes nothing_read q form i
  go false qp is = absurd cc
  go true qp is =
      let this : item QP i.nums ≡ i = ap (λ id. item id i.nums) (sym (eqb-true i.id QP qp)) in
      rw (← this) (begin-is form i.nums q known is)

-- what holds under a test that holds
cond-taken : {A : Type 0} (b : Bool) (x y z : A) → b ≡ true → cond b x y ≡ z → x ≡ z
cond-taken true x y z holds is = is
cond-taken false x y z holds is = absurd cc

-- an item in the reading's form
pub take_item-is : (form : ℕ) (p q : Reading) (i : JournalItem) → Good p → (p.begun ≡ true → p.form ≡ form) → (form ≡ 1) ⊎ (form ≡ 2)
    → 1 ≤ i.id → i.id ≤ last_id form → has_count i.id i.nums ≡ true → has_64_bits i.nums ≡ true → take_item form p i ≡ Ok q → Takes p q form i
take_item-is form p q i (inl good) same known first past count bits is =
    let form_is = same good.0 in
    rw (← form_is) (go_on-is p q i good.0 good.1 first (rw form_is past) count bits (cond-taken p.begun (go_on p i) (cond {A = Result Reading ℕ} (i.id == QP) (begin_reading p form i.nums) (Err 4)) (Ok q) good.0 is))
take_item-is form p q i (inr start) same known first past count bits is = rw start (take_first form q i known (rw start at is))
