-- What is written of a replay.
use Rattle.std.specs.Prelude.{ℕ, codes, decimal, List, [], ◌∷◌, ◌++◌, length, IsTrue}
use Rattle.std.specs.List.{AllByRecursion, flat_map}
use Rattle.std.specs.Option.{option_map_or}
use Rattle.qp_model.specs.declared.record.Rec.{Rec}
use Rattle.qp_model.specs.Output.{record_item}
use Rattle.qp_model.specs.OutputText.{line_text}
use Rattle.qp_model.specs.Places.{RecordPlace}
use Rattle.qp_replay.specs.Orders.{is_record}
use Rattle.qp_replay.specs.declared.places.Replayed.{Replayed}
use Rattle.qp_replay.specs.declared.places.Replayed.TheVariants.{Order, Cycle}
use Rattle.qp_replay.specs.RerunLaws.{record_at}

-- the line of a place: the lane, a space and the line of the record
unfoldable pub place_line : ℕ → List (List Rec) → RecordPlace → List ℕ
place_line form lanes x = decimal x.lane ++ 32 ∷ option_map_or (λ r. line_text form (record_item r)) (record_at lanes x) []

-- the first line: the word, a space and how many places follow
abbrev pub head_line : List ℕ → ℕ → List ℕ
head_line word count = word ++ 32 ∷ decimal count ++ 10 ∷ []

-- and then a line for each place
abbrev pub places_text : List ℕ → ℕ → List (List Rec) → List RecordPlace → List ℕ
places_text word form lanes xs = head_line word (length xs) ++ flat_map (place_line form lanes) xs

abbrev pub replayed_text : ℕ → List (List Rec) → Replayed → List ℕ
replayed_text form lanes (Order xs) = places_text (codes "order") form lanes xs
replayed_text form lanes (Cycle xs) = places_text (codes "cycle") form lanes xs

-- each place is that of a record
abbrev pub AreRecords : List (List Rec) → Replayed → Type 0
AreRecords lanes (Order xs) = AllByRecursion (λ x. IsTrue (is_record lanes x)) xs
AreRecords lanes (Cycle xs) = AllByRecursion (λ x. IsTrue (is_record lanes x)) xs
