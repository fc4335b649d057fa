-- The records of stimuli by their looks, lane by lane.
use Rattle.std.proofs.Common.{◌≡◌, ◌∙◌, ℕ, ◌+◌, ◌<◌, ◌≤◌, Bool, true, false, cond, List, [], ◌∷◌, ◌++◌, map, length, take, drop, get_or, ap, sym, refl, append_assoc, append-nil, Some, None}
use Rattle.std.specs.declared.option.Option.{Option}
use Rattle.std.specs.Option.{option_map, option_map_or}
use Rattle.std.specs.List.{filter}
use Rattle.std.proofs.lemmas.List.{at_drop_all, map-append}
use Rattle.std.proofs.lemmas.List.Elements.{filter-append}
use Rattle.qp_model.specs.declared.record.Rec.{Rec}
use Rattle.qp_model.specs.Record.{Item, item_of}
use Rattle.qp_model.specs.History.{lane_items}
use Rattle.qp_model.specs.Ends.{is_spill}
use Rattle.qp_model.specs.OneOrder.{Placed, belongs, look_of, part_of_look, parts_of_look, spills_from, with_stimuli}
use Rattle.qp_check_kernel.specs.StimulusIndex.{lane_with_parts}
use Rattle.qp_check_lanes.proofs.ItemLemmas.{items-from, items-up_to, items-none, map-from}

abbrev place : ℕ → Rec → Placed
place lane r = record { lane = lane; item = item_of r }

module _ (lane k : ℕ) (cuts : Bool) (records : List Rec) (i : ℕ) (r : Rec) (inside : i < length records) (is : r ≡ get_or records i r) where
  part_of_look-one : (within : Bool) → part_of_look lane k cuts within (lane_items (drop i records))
      ≡ cond (belongs k cuts within (item_of r).body) (place lane r ∷ []) [] ++ part_of_look lane k cuts (belongs k cuts within (item_of r).body) (lane_items (drop (i + 1) records))
  unfolding part_of_look
  part_of_look-one within = ap (part_of_look lane k cuts within) (items-from records i r inside is)

  -- a record is put where it belongs
  pub part-put : (within now : Bool) (old new all : List Placed) → now ≡ belongs k cuts within (item_of r).body → new ≡ old ++ cond now (place lane r ∷ []) []
      → old ++ part_of_look lane k cuts within (lane_items (drop i records)) ≡ all
      → new ++ part_of_look lane k cuts now (lane_items (drop (i + 1) records)) ≡ all
  part-put within now old new all here put before =
      let one : part_of_look lane k cuts within (lane_items (drop i records))
      ≡ cond now (place lane r ∷ []) [] ++ part_of_look lane k cuts now (lane_items (drop (i + 1) records)) = rw here (part_of_look-one within) in
      ap (λ l. l ++ part_of_look lane k cuts now (lane_items (drop (i + 1) records))) put
      ∙ append_assoc old (cond now (place lane r ∷ []) []) (part_of_look lane k cuts now (lane_items (drop (i + 1) records)))
      ∙ ap (λ l. old ++ l) (sym one) ∙ before

pub part-end : (lane k : ℕ) (cuts within : Bool) (old all : List Placed) (records : List Rec) (i : ℕ) → length records ≤ i
    → old ++ part_of_look lane k cuts within (lane_items (drop i records)) ≡ all → old ≡ all
unfolding part_of_look
part-end lane k cuts within old all records i h before =
    sym (append-nil old) ∙ ap (λ l. old ++ l) (sym (at_drop_all (λ l. part_of_look lane k cuts within (lane_items l)) records i h ∙ ap (part_of_look lane k cuts within) items-none)) ∙ before

module _ (k : ℕ) (cuts : Bool) (lanes : List (List Rec)) (i : ℕ) (lane read : List Rec) (inside : i < length lanes) (is : lane ≡ get_or lanes i lane) (same : read ≡ lane) where
  -- a lane is put
  pub parts-put : (old new all : List Placed) → new ≡ old ++ part_of_look (i + 1) k cuts false (lane_items read)
      → old ++ parts_of_look (i + 1) k cuts (map (λ l. lane_items l) (drop i lanes)) ≡ all
      → new ++ parts_of_look (i + 1 + 1) k cuts (map (λ l. lane_items l) (drop (i + 1) lanes)) ≡ all
  unfolding parts_of_look
  parts-put old new all put before =
      let part = part_of_look (i + 1) k cuts false (lane_items lane) in
      let rest = parts_of_look (i + 1 + 1) k cuts (map (λ l. lane_items l) (drop (i + 1) lanes)) in
      let one : parts_of_look (i + 1) k cuts (map (λ l. lane_items l) (drop i lanes)) ≡ part ++ rest =
      ap (parts_of_look (i + 1) k cuts) (map-from (λ l. lane_items l) lanes i lane inside is) in
      ap (λ l. l ++ rest) (put ∙ ap (λ l. old ++ part_of_look (i + 1) k cuts false (lane_items l)) same) ∙ append_assoc old part rest ∙ ap (λ l. old ++ l) (sym one) ∙ before

pub parts-end : (k : ℕ) (cuts : Bool) (old all : List Placed) (lanes : List (List Rec)) (i : ℕ) → length lanes ≤ i
    → old ++ parts_of_look (i + 1) k cuts (map (λ l. lane_items l) (drop i lanes)) ≡ all → old ≡ all
unfolding parts_of_look
parts-end k cuts old all lanes i h before =
    sym (append-nil old) ∙ ap (λ l. old ++ l) (sym (at_drop_all (λ l. parts_of_look (i + 1) k cuts (map (λ x. lane_items x) l)) lanes i h)) ∙ before

module _ (parts : ℕ → List Placed) (records : List Rec) (i : ℕ) (r : Rec) (inside : i < length records) (is : r ≡ get_or records i r) where
  -- a record of lane 0 is put, and those of its look
  pub look-put : (old put new all : List Placed) (look : Option ℕ) → put ≡ old ++ place 0 r ∷ [] → look ≡ option_map (λ l. l.0) (look_of (item_of r).body)
      → new ≡ put ++ option_map_or parts look [] → old ++ lane_with_parts parts (lane_items (drop i records)) ≡ all
      → new ++ lane_with_parts parts (lane_items (drop (i + 1) records)) ≡ all
  unfolding lane_with_parts
  look-put old put new all look e f g before =
      let own = option_map_or parts look [] in
      let rest = lane_with_parts parts (lane_items (drop (i + 1) records)) in
      let one : lane_with_parts parts (lane_items (drop i records)) ≡ place 0 r ∷ own ++ rest =
      ap (lane_with_parts parts) (items-from records i r inside is) ∙ ap (λ l. place 0 r ∷ option_map_or parts l [] ++ rest) (sym f) in
      ap (λ l. l ++ rest) (g ∙ ap (λ l. l ++ own) e) ∙ append_assoc (old ++ place 0 r ∷ []) own rest ∙ append_assoc old (place 0 r ∷ []) (own ++ rest)
      ∙ ap (λ l. old ++ l) (sym one) ∙ before

pub look-end : (parts : ℕ → List Placed) (records : List Rec) (i : ℕ) (old all : List Placed) → length records ≤ i
    → old ++ lane_with_parts parts (lane_items (drop i records)) ≡ all → old ≡ all
unfolding lane_with_parts
look-end parts records i old all h before =
    sym (append-nil old) ∙ ap (λ l. old ++ l) (sym (at_drop_all (λ l. lane_with_parts parts (lane_items l)) records i h ∙ ap (lane_with_parts parts) items-none)) ∙ before

-- where the records of each look are those of its stimulus
pub with_parts-is : (parts : ℕ → List Placed) (cuts : Bool) (sources : List (List Item)) → ((k : ℕ) → parts k ≡ parts_of_look 1 k cuts sources)
    → (lane : List Item) → lane_with_parts parts lane ≡ with_stimuli cuts sources lane
unfolding lane_with_parts with_stimuli
with_parts-is parts cuts sources e [] = refl
with_parts-is parts cuts sources e (i ∷ is) =
    rw (with_parts-is parts cuts sources e is) (ap (λ l. record { lane = 0; item = i } ∷ l ++ with_stimuli cuts sources is) (go (look_of i.body)))
  where
    go : (look : Option (ℕ × ℕ)) → option_map_or parts (option_map (λ l. l.0) look) [] ≡ option_map_or (λ l. parts_of_look 1 l.0 cuts sources) look []
    go None = refl
    go (Some l) = e l.0

module _ (lane : ℕ) (records : List Rec) (i : ℕ) (r : Rec) (inside : i < length records) (is : r ≡ get_or records i r) where
  pub spill-put : (first old new : List Placed) (wanted : Bool) → wanted ≡ is_spill (item_of r).body → new ≡ old ++ cond wanted (place lane r ∷ []) []
      → old ≡ first ++ map (λ x. record { lane = lane; item = x }) (filter (λ x. is_spill x.body) (lane_items (take i records)))
      → new ≡ first ++ map (λ x. record { lane = lane; item = x }) (filter (λ x. is_spill x.body) (lane_items (take (i + 1) records)))
  spill-put first old new wanted e f before =
      let placed : Item → Placed = λ x. record { lane = lane; item = x } in
      let front = filter (λ x. is_spill x.body) (lane_items (take i records)) in
      let more : map placed (filter (λ x. is_spill x.body) (lane_items (take (i + 1) records))) ≡ map placed front ++ map placed (filter (λ x. is_spill x.body) (item_of r ∷ [])) =
      ap (λ l. map placed (filter (λ x. is_spill x.body) l)) (items-up_to records i r inside is)
      ∙ ap (map placed) (filter-append (λ x. is_spill x.body) (lane_items (take i records)) (item_of r ∷ [])) ∙ map-append placed front (filter (λ x. is_spill x.body) (item_of r ∷ [])) in
      let one : map placed (filter (λ x. is_spill x.body) (item_of r ∷ [])) ≡ cond wanted (place lane r ∷ []) [] = rw e (go (is_spill (item_of r).body)) in
      f ∙ ap (λ l. l ++ cond wanted (place lane r ∷ []) []) before ∙ append_assoc first (map placed front) (cond wanted (place lane r ∷ []) [])
      ∙ ap (λ l. first ++ l) (ap (λ l. map placed front ++ l) (sym one) ∙ sym more)
    where
      go : (b : Bool) → map (λ x. record { lane = lane; item = x }) (cond b (item_of r ∷ []) []) ≡ cond b (place lane r ∷ []) []
      go true = refl
      go false = refl

pub spill-none : (lane : ℕ) (first : List Placed) → first ≡ first ++ map (λ x. record { lane = lane; item = x }) (filter (λ x. is_spill x.body) (lane_items []))
spill-none lane first = sym (ap (λ l. first ++ map (λ x. record { lane = lane; item = x }) (filter (λ x. is_spill x.body) l)) items-none ∙ append-nil first)

module _ (lanes : List (List Rec)) (i : ℕ) (lane read : List Rec) (inside : i < length lanes) (is : lane ≡ get_or lanes i lane) (same : read ≡ lane) where
  pub spills-put : (old new all : List Placed) → new ≡ old ++ map (λ x. record { lane = i + 1; item = x }) (filter (λ x. is_spill x.body) (lane_items read))
      → old ++ spills_from (i + 1) (map (λ l. lane_items l) (drop i lanes)) ≡ all
      → new ++ spills_from (i + 1 + 1) (map (λ l. lane_items l) (drop (i + 1) lanes)) ≡ all
  unfolding spills_from
  spills-put old new all put before =
      let part : List Rec → List Placed = λ l. map (λ x. record { lane = i + 1; item = x }) (filter (λ x. is_spill x.body) (lane_items l)) in
      let rest = spills_from (i + 1 + 1) (map (λ l. lane_items l) (drop (i + 1) lanes)) in
      let one : spills_from (i + 1) (map (λ l. lane_items l) (drop i lanes)) ≡ part lane ++ rest =
      ap (spills_from (i + 1)) (map-from (λ l. lane_items l) lanes i lane inside is) in
      ap (λ l. l ++ rest) (put ∙ ap (λ l. old ++ part l) same) ∙ append_assoc old (part lane) rest ∙ ap (λ l. old ++ l) (sym one) ∙ before

pub spills-end : (old all : List Placed) (lanes : List (List Rec)) (i : ℕ) → length lanes ≤ i → old ++ spills_from (i + 1) (map (λ l. lane_items l) (drop i lanes)) ≡ all → old ≡ all
unfolding spills_from
spills-end old all lanes i h before =
    sym (append-nil old) ∙ ap (λ l. old ++ l) (sym (at_drop_all (λ l. spills_from (i + 1) (map (λ x. lane_items x) l)) lanes i h)) ∙ before
