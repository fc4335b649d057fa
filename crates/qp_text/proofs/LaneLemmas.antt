-- The items of lanes, one lane after another.
use Rattle.std.proofs.Common.{◌≡◌, ◌∙◌, ℕ, zero, suc, ◌+◌, ◌<◌, List, [], ◌∷◌, ◌++◌, length, take, drop, get_or, sym, ap, append_assoc, append-nil, add-one, zero-add, arith}
use Rattle.std.proofs.lemmas.Grind.{flat_map-append}
use Rattle.qp_model.specs.declared.record.Rec.{Rec}
use Rattle.qp_model.specs.Output.{items_of_lane, items_of_lanes}
use Rattle.qp_model.specs.OutputText.{line_text, lines_text}

-- one lane more
pub lanes-next : (k : ℕ) (lanes : List (List Rec)) (i : ℕ) (lane : List Rec) → i < length lanes → lane ≡ get_or lanes i lane
    → items_of_lanes k (take (suc i) lanes) ≡ items_of_lanes k (take i lanes) ++ items_of_lane (k + i) lane
lanes-next k [] i lane inside is = absurd (omega arith)
lanes-next k (x ∷ lanes) zero lane inside is =
    let here : k ≡ k + 0 = omega arith in
    rw is (append-nil (items_of_lane k x) ∙ ap (λ n. items_of_lane n x) here)
lanes-next k (x ∷ lanes) (suc i) lane inside is =
    let there : (k + 1) + i ≡ k + suc i = omega arith in
    ap (λ items. items_of_lane k x ++ items) (lanes-next (k + 1) lanes i lane (omega arith) is ∙ ap (λ n. items_of_lanes (k + 1) (take i lanes) ++ items_of_lane n lane) there)
    ∙ sym (append_assoc (items_of_lane k x) (items_of_lanes (k + 1) (take i lanes)) (items_of_lane (k + suc i) lane))

-- the lanes up to this one, and those behind it
pub lanes-around : (k : ℕ) (lanes : List (List Rec)) (i : ℕ) (lane : List Rec) → i < length lanes → lane ≡ get_or lanes i lane
    → items_of_lanes k lanes ≡ (items_of_lanes k (take i lanes) ++ items_of_lane (k + i) lane) ++ items_of_lanes (k + suc i) (drop (suc i) lanes)
lanes-around k [] i lane inside is = absurd (omega arith)
lanes-around k (x ∷ lanes) zero lane inside is =
    let here : k ≡ k + 0 = omega arith in
    let there : k + 1 ≡ k + suc 0 = omega arith in
    rw is (ap (λ n. items_of_lane n x ++ items_of_lanes (k + 1) lanes) here ∙ ap (λ n. items_of_lane (k + 0) x ++ items_of_lanes n lanes) there)
lanes-around k (x ∷ lanes) (suc i) lane inside is =
    let there : (k + 1) + i ≡ k + suc i = omega arith in
    let behind : (k + 1) + suc i ≡ k + suc (suc i) = omega arith in
    ap (λ items. items_of_lane k x ++ items) (lanes-around (k + 1) lanes i lane (omega arith) is)
    ∙ rw (there, behind) (simp append_assoc)

module _ (form : ℕ) (lanes : List (List Rec)) (i : ℕ) (lane : List Rec) (inside : i < length lanes) (is : lane ≡ get_or lanes i lane) where
  -- the lines of one lane more
  pub lines-next : lines_text form (items_of_lanes 0 (take (i + 1) lanes))
      ≡ lines_text form (items_of_lanes 0 (take i lanes)) ++ lines_text form (items_of_lane i lane)
  lines-next =
      rw (add-one, lanes-next 0 lanes i lane inside is, zero-add)
      (flat_map-append (line_text form) (items_of_lanes 0 (take i lanes)) (items_of_lane i lane))

  -- the lines of the lanes up to this one, and of those behind it
  pub lines-around : lines_text form (items_of_lanes 0 lanes)
      ≡ (lines_text form (items_of_lanes 0 (take i lanes)) ++ lines_text form (items_of_lane i lane))
      ++ lines_text form (items_of_lanes (0 + suc i) (drop (suc i) lanes))
  lines-around =
      ap (lines_text form) (lanes-around 0 lanes i lane inside is)
      ∙ flat_map-append (line_text form) (items_of_lanes 0 (take i lanes) ++ items_of_lane (0 + i) lane) (items_of_lanes (0 + suc i) (drop (suc i) lanes))
      ∙ ap (λ t. t ++ lines_text form (items_of_lanes (0 + suc i) (drop (suc i) lanes)))
      (rw zero-add (flat_map-append (line_text form) (items_of_lanes 0 (take i lanes)) (items_of_lane i lane)))
