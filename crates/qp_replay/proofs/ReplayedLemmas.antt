-- Each place of what a replay answers is that of a record.
use Rattle.std.proofs.Common.{◌≡◌, ◌∙◌, ℕ, zero, suc, ◌<◌, true, List, [], ◌∷◌, ◌++◌, decimal, length, map, get_or, Option, Some, None, refl, ap, append_assoc, arith}
use Rattle.std.specs.Prelude.{IsTrue, is_some, slice_get}
use Rattle.std.specs.List.{AllByRecursion, list_all}
use Rattle.std.specs.Option.{option_and_then}
use Rattle.std.proofs.lemmas.Bool.{and_parts}
use Rattle.qp_model.specs.declared.record.Rec.{Rec}
use Rattle.std.proofs.lemmas.Option.{get_or_from_slice_get}
use Rattle.qp_model.specs.Output.{is_lane_in_range, is_record_in_range, record_item}
use Rattle.qp_model.specs.OutputText.{line_text}
use Rattle.qp_model.specs.Places.{RecordPlace, item_at}
use Rattle.qp_model.specs.Record.{item_of}
use Rattle.qp_replay.specs.Orders.{GoesNextEach, is_record}
use Rattle.qp_replay.specs.Replaying.{IsReplayAnswer, IsReplay}
use Rattle.qp_replay.specs.declared.places.Replayed.{Replayed}
use Rattle.qp_replay.specs.declared.places.Replayed.TheVariants.{Order, Cycle}
use Rattle.qp_replay.specs.Text.{AreRecords, place_line}
use Rattle.qp_model.proofs.AbleLemmas.{all-get}

goes-stand : (lanes : List (List Rec)) (before xs : List RecordPlace) → GoesNextEach lanes before xs → AllByRecursion (λ x. IsTrue (is_record lanes x)) xs
goes-stand lanes before [] goes = tt
goes-stand lanes before (x ∷ xs) goes = (goes.0.stands, goes-stand lanes (before ++ x ∷ []) xs goes.1)

pub answer-stands : (lanes : List (List Rec)) (r : Replayed) → IsReplayAnswer lanes r → AreRecords lanes r
answer-stands lanes (Order xs) (order, none) = goes-stand lanes [] xs order.lowest
answer-stands lanes (Cycle xs) cycle = cycle.stand

-- the record at a place
pub record Found (lanes : List (List Rec)) (x : RecordPlace) : Type 0 where
  pub lane : List Rec
  pub found : Rec
  pub lane_is : slice_get lanes x.lane ≡ Some lane
  pub is : slice_get lane x.at ≡ Some found

pub found-at : (lanes : List (List Rec)) (x : RecordPlace) → IsTrue (is_record lanes x) → Found lanes x
unfolding is_record item_at
found-at lanes x there = by (slice_get lanes x.lane) refl there
  where
    in_lane : (lane : List Rec) → slice_get lanes x.lane ≡ Some lane → (o : Option Rec) → slice_get lane x.at ≡ o
        → IsTrue (is_some (option_and_then (λ r. Some (item_of r)) o)) → Found lanes x
    in_lane lane e None f there = absurd (cc)
    in_lane lane e (Some r) f there = record { lane = lane; found = r; lane_is = e; is = f }

    by : (o : Option (List Rec)) → slice_get lanes x.lane ≡ o
        → IsTrue (is_some (option_and_then (λ lane. option_and_then (λ r. Some (item_of r)) (slice_get lane x.at)) o)) → Found lanes x
    by None e there = absurd (cc)
    by (Some lane) e there = in_lane lane e (slice_get lane x.at) refl there

-- which is read by its lane and its place there
pub found-is : (lanes : List (List Rec)) (x : RecordPlace) (f : Found lanes x) (l : List Rec) (r : Rec) → l ≡ get_or lanes x.lane l → r ≡ get_or l x.at r
    → r ≡ f.found
found-is lanes x f l r is at =
    let lane : l ≡ f.lane = is ∙ get_or_from_slice_get lanes x.lane f.lane l f.lane_is in
    at ∙ ap (λ k. get_or k x.at r) lane ∙ get_or_from_slice_get f.lane x.at f.found r f.is

pub place-line : (form : ℕ) (lanes : List (List Rec)) (x : RecordPlace) (f : Found lanes x)
    → place_line form lanes x ≡ decimal x.lane ++ 32 ∷ line_text form (record_item f.found)
unfolding place_line
place-line form lanes x f = rw (f.lane_is, f.is) refl

-- a fact of each of a list's images
pub image-at : {A B : Type 0} (P : B → Type 0) (f : A → B) (xs : List A) (i : ℕ) (d : A) → AllByRecursion P (map f xs) → i < length xs → P (f (get_or xs i d))
image-at P f [] i d all within = absurd (omega (arith, within))
image-at P f (x ∷ xs) zero d all within = all.0
image-at P f (x ∷ xs) (suc i) d all within = image-at P f xs i d all.1 (omega (arith, within))

-- is in range where all lanes are
pub found-range : (form : ℕ) (lanes : List (List Rec)) (x : RecordPlace) (f : Found lanes x) → list_all (is_lane_in_range form) lanes ≡ true
    → is_record_in_range form f.found ≡ true
found-range form lanes x f all =
    all-get (is_record_in_range form) f.lane x.at f.found
    (and_parts _ _ (all-get (is_lane_in_range form) lanes x.lane f.lane all f.lane_is)).1 f.is

pub replay-stands : (lanes : List (List Rec)) (r : Replayed) → IsReplay lanes r → AreRecords lanes r
replay-stands lanes (Order xs) is = answer-stands lanes (Order xs) is.0
replay-stands lanes (Cycle xs) is = answer-stands lanes (Cycle xs) is

-- a word, a space, a number and a newline
pub head-bytes : (word number : List ℕ) → ((word ++ 32 ∷ []) ++ number) ++ 10 ∷ [] ≡ word ++ 32 ∷ number ++ 10 ∷ []
head-bytes word number = ap (λ xs. xs ++ 10 ∷ []) (append_assoc word (32 ∷ []) number)
