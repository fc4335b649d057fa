-- Records and lanes in front of a text.
use Rattle.std.proofs.Common.{◌≡◌, ◌∙◌, ℕ, ◌+◌, ◌≤◌, Bool, true, List, [], ◌∷◌, ◌++◌, map, length, refl, sym, ap, append_assoc, append-nil, zero-add, arith}
use Rattle.std.specs.Prelude.{◌&&◌, nat_le}
use Rattle.std.specs.List.{list_all}
use Rattle.std.proofs.lemmas.Bool.{and_from, le-leb}
use Rattle.std.proofs.lemmas.Grind.{flat_map-append}
use Rattle.std.proofs.lemmas.List.Folds.{list_all-append}
use Rattle.qp_model.specs.Kinds.{LANE}
use Rattle.qp_model.specs.declared.record.Rec.{Rec}
use Rattle.qp_model.specs.Output.{item, items_of_lane, items_of_lanes, record_item}
use Rattle.qp_model.specs.OutputText.{line_text, lines_text}
use Rattle.qp_text_scan.specs.Readable.{is_readable, is_readable_lane}

-- a test of one more
pub all-more : {X : Type 0} (test : X → Bool) (xs : List X) (x : X) → list_all test xs ≡ true → test x ≡ true → list_all test (xs ++ x ∷ []) ≡ true
all-more test xs x front last = list_all-append test xs (x ∷ []) ∙ and_from (list_all test xs) (test x && true) front (and_from (test x) true last refl)

-- the lines of one record more
records-lines : (form : ℕ) (lane : List Rec) (r : Rec)
    → lines_text form (map record_item (lane ++ r ∷ [])) ≡ lines_text form (map record_item lane) ++ line_text form (record_item r)
records-lines form [] r = append-nil (line_text form (record_item r))
records-lines form (x ∷ lane) r =
    let one = line_text form (record_item x) in
    ap (λ t. one ++ t) (records-lines form lane r) ∙ sym (append_assoc one (lines_text form (map record_item lane)) (line_text form (record_item r)))

-- one record more in front of what is left
pub records-more : (form : ℕ) (lane : List Rec) (r : Rec) (text rest behind : List ℕ) → text ≡ lines_text form (map record_item lane) ++ rest
    → rest ≡ line_text form (record_item r) ++ behind → text ≡ lines_text form (map record_item (lane ++ r ∷ [])) ++ behind
records-more form lane r text rest behind so_far next =
    let before = lines_text form (map record_item lane) in
    let one = line_text form (record_item r) in
    so_far ∙ ap (λ t. before ++ t) next ∙ sym (ap (λ t. t ++ behind) (records-lines form lane r) ∙ append_assoc before one behind)

-- one lane more
lanes-items : (k : ℕ) (lanes : List (List Rec)) (lane : List Rec)
    → items_of_lanes k (lanes ++ lane ∷ []) ≡ items_of_lanes k lanes ++ items_of_lane (k + length lanes) lane
lanes-items k [] lane =
    let here : k ≡ k + 0 = omega arith in
    append-nil (items_of_lane k lane) ∙ ap (λ n. items_of_lane n lane) here
lanes-items k (x ∷ lanes) lane =
    let there : (k + 1) + length lanes ≡ k + length (x ∷ lanes) = omega arith in
    ap (λ t. items_of_lane k x ++ t) (lanes-items (k + 1) lanes lane ∙ ap (λ n. items_of_lanes (k + 1) lanes ++ items_of_lane n lane) there)
    ∙ sym (append_assoc (items_of_lane k x) (items_of_lanes (k + 1) lanes) (items_of_lane (k + length (x ∷ lanes)) lane))

-- one lane more in front of what is left
pub lanes-more : (form number : ℕ) (lanes : List (List Rec)) (lane : List Rec) (text rest records behind : List ℕ) → number ≡ length lanes
    → text ≡ lines_text form (items_of_lanes 0 lanes) ++ rest → rest ≡ line_text form (item LANE (number ∷ [])) ++ records
    → records ≡ lines_text form (map record_item lane) ++ behind → text ≡ lines_text form (items_of_lanes 0 (lanes ++ lane ∷ [])) ++ behind
lanes-more form number lanes lane text rest records behind count so_far head lines =
    let before = lines_text form (items_of_lanes 0 lanes) in
    let first = line_text form (item LANE (number ∷ [])) in
    let all = lines_text form (map record_item lane) in
    let this : lines_text form (items_of_lanes 0 (lanes ++ lane ∷ [])) ≡ before ++ (first ++ all) =
    ap (lines_text form) (lanes-items 0 lanes lane ∙ ap (λ n. items_of_lanes 0 lanes ++ items_of_lane n lane) (zero-add (length lanes) ∙ sym count))
    ∙ flat_map-append (line_text form) (items_of_lanes 0 lanes) (items_of_lane number lane) in
    so_far ∙ ap (λ t. before ++ t) (head ∙ ap (λ t. first ++ t) lines ∙ sym (append_assoc first all behind))
    ∙ sym (ap (λ t. t ++ behind) this ∙ append_assoc before (first ++ all) behind)

-- records that can be read are a lane that can be, where they are few enough
pub lane-holds : (form : ℕ) (lane : List Rec) → length lane ≤ 1000001 → list_all (is_readable form) lane ≡ true → is_readable_lane form lane ≡ true
lane-holds form lane few all = and_from (nat_le (length lane) 1000001) (list_all (is_readable form) lane) (le-leb (length lane) 1000001 few) all
