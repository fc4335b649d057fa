-- A record that says something is told by what it says: its kind and its numbers are those of its item.
use Rattle.std.proofs.Common.{◌≡◌, Bool, true, false, List, [], ◌∷◌, map, refl}
use Rattle.std.specs.List.{list_all}
use Rattle.std.proofs.lemmas.Bool.{and_parts, eqb-true}
use Rattle.qp_model.specs.declared.record.Rec.{Rec}
use Rattle.qp_model.specs.KindSorts.{is_malformed, kind_in}
use Rattle.qp_model.specs.Record.{Item, body_of, item_of}
use Rattle.qp_model.specs.History.{lane_items}
use Rattle.qp_model.proofs.TellingKindLemmas.{kinds_tell}
use Rattle.qp_unique.proofs.NumberLemmas.{nums_in, has-nums}

-- the record that says this for this object
abbrev pub rec_in : Item → Rec
rec_in i = record { kind = kind_in i.body; of = i.of; nums = record { items = nums_in i.body } }

body-of : (r : Rec) → is_malformed (item_of r).body ≡ false → is_malformed (body_of r) ≡ false
unfolding item_of
body-of r says = says

record-of : (r : Rec) → is_malformed (body_of r) ≡ false → rec_in (item_of r) ≡ r
unfolding item_of
record-of r says =
    let tells = kinds_tell r in
    let kind : kind_in (body_of r) ≡ r.kind = eqb-true _ _ (rw says at tells) in
    let has = has-nums r in
    let nums : nums_in (body_of r) ≡ r.nums.items = rw says at has in
    λ n. record { kind = kind n; of = r.of; nums = record { items = nums n } }

-- and so the records of lanes in which each says something
module _ (p : Item → Bool) (says : (i : Item) → p i ≡ true → is_malformed i.body ≡ false) where
  lane-of : (lane : List Rec) → list_all p (lane_items lane) ≡ true → map rec_in (lane_items lane) ≡ lane
  unfolding lane_items
  lane-of [] all = refl
  lane-of (r ∷ lane) all =
      let parts = and_parts (p (item_of r)) _ all in
      λ n. record-of r (body-of r (says (item_of r) parts.0)) n ∷ lane-of lane parts.1 n

  pub lanes-of : (lanes : List (List Rec)) → list_all (λ lane. list_all p (lane_items lane)) lanes ≡ true → map (map rec_in) (map (λ lane. lane_items lane) lanes) ≡ lanes
  lanes-of [] all = refl
  lanes-of (lane ∷ lanes) all = let parts = and_parts (list_all p (lane_items lane)) _ all in λ n. lane-of lane parts.0 n ∷ lanes-of lanes parts.1 n
