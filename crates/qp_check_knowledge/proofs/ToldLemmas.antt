-- The records of an object as told, found in a walk over its lane.
use Rattle.std.proofs.Common.{◌≡◌, ◌∙◌, ℕ, ◌+◌, ◌<◌, ◌≤◌, ◌==◌, Bool, true, false, not, ◌&&◌, cond, List, [], ◌∷◌, ◌++◌, length, drop, get_or, ap, sym, refl, append_assoc, append-nil}
use Rattle.std.specs.List.{filter}
use Rattle.std.proofs.lemmas.List.{at_drop_all}
use Rattle.qp_model.specs.declared.record.Rec.{Rec}
use Rattle.qp_model.specs.declared.bodies.Body.{Body}
use Rattle.qp_model.specs.declared.bodies.Body.TheVariants.{Spill}
use Rattle.qp_model.specs.Record.{Item, item_of}
use Rattle.qp_model.specs.History.{lane_items}
use Rattle.qp_model.specs.Told.{Told}
use Rattle.qp_model.specs.Ends.{is_spill}
use Rattle.qp_model.specs.Knowing.{Facts, ceiling_after, records_of, told}
use Rattle.qp_model.specs.Home.{is_look_at, own_items}
use Rattle.qp_model.specs.Sources.{source_records}
use Rattle.qp_check_knowledge.specs.Looks.{as_look_of}
use Rattle.qp_check_lanes.proofs.ItemLemmas.{items-from, items-none}

-- the records of a lane that count as those of o, one after another
own-next : (looks : Bool) (o : ℕ) (i : Item) (is : List Item) → own_items looks o (i ∷ is) ≡ as_look_of looks o i ∷ own_items looks o is
unfolding own_items
own-next false o i is = refl
own-next true o i is = refl

own-none : (looks : Bool) (o : ℕ) → own_items looks o [] ≡ []
unfolding own_items
own-none false o = refl
own-none true o = refl

counted-body : (looks : Bool) (o : ℕ) (i : Item) → (as_look_of looks o i).body ≡ i.body
counted-body false o i = refl
counted-body true o i = by ((i.of == 0) && is_look_at o i.body)
  where
    by : (b : Bool) → (cond b (record { of = o; body = i.body }) i).body ≡ i.body
    by true = refl
    by false = refl

-- all records of o alone
pub own-plain : (o : ℕ) (is : List Item) → own_items false o is ≡ is
unfolding own_items
own-plain o is = refl

-- a record of o is told
abbrev pub told_if : Facts → ℕ → ℕ → Item → List Told
told_if w o ceiling i = cond (i.of == o) (told w o ceiling i.body ∷ []) []

module _ (w : Facts) (o : ℕ) where
  records-next : (ceiling : ℕ) (i : Item) (is : List Item) → records_of w o ceiling (i ∷ is) ≡ told_if w o ceiling i ++ records_of w o (ceiling_after ceiling i.body) is
  unfolding records_of
  records-next ceiling i is = go (i.of == o)
    where
      go : (b : Bool) → cond b (told w o ceiling i.body ∷ records_of w o (ceiling_after ceiling i.body) is) (records_of w o (ceiling_after ceiling i.body) is)
          ≡ cond b (told w o ceiling i.body ∷ []) [] ++ records_of w o (ceiling_after ceiling i.body) is
      go true = refl
      go false = refl

  module _ (looks : Bool) (ceiling : ℕ) (lane : List Rec) (i : ℕ) (now all : List Told) (before : now ++ records_of w o ceiling (own_items looks o (lane_items (drop i lane))) ≡ all) where
    pub told-step : (r : Rec) → i < length lane → r ≡ get_or lane i r → (new : List Told) (after : ℕ)
        → new ≡ now ++ cond ((as_look_of looks o (item_of r)).of == o) (told w o ceiling (item_of r).body ∷ []) []
        → after ≡ ceiling_after ceiling (item_of r).body → new ++ records_of w o after (own_items looks o (lane_items (drop (i + 1) lane))) ≡ all
    told-step r inside is new after put next =
        let mine = as_look_of looks o (item_of r) in
        let left = own_items looks o (lane_items (drop (i + 1) lane)) in
        let same : mine.body ≡ (item_of r).body = counted-body looks o (item_of r) in
        let rest = records_of w o (ceiling_after ceiling mine.body) left in
        let told_it : new ≡ now ++ told_if w o ceiling mine = put ∙ ap (λ b. now ++ cond (mine.of == o) (told w o ceiling b ∷ []) []) (sym same) in
        let all_left : own_items looks o (lane_items (drop i lane)) ≡ mine ∷ left =
        ap (own_items looks o) (items-from lane i r inside is) ∙ own-next looks o (item_of r) (lane_items (drop (i + 1) lane)) in
        ap (λ c. new ++ records_of w o c left) (next ∙ ap (ceiling_after ceiling) (sym same))
        ∙ ap (λ l. l ++ rest) told_it ∙ append_assoc now (told_if w o ceiling mine) rest
        ∙ ap (λ l. now ++ l) (sym (ap (records_of w o ceiling) all_left ∙ records-next ceiling mine left))
        ∙ before

    pub told-end : length lane ≤ i → now ≡ all
    unfolding records_of
    told-end h =
        let none : records_of w o ceiling (own_items looks o (lane_items (drop i lane))) ≡ [] =
        at_drop_all (λ l. records_of w o ceiling (own_items looks o (lane_items l))) lane i h ∙ ap (λ l. records_of w o ceiling (own_items looks o l)) items-none ∙ ap (records_of w o ceiling) (own-none looks o) in
        sym (append-nil now) ∙ ap (λ l. now ++ l) (sym none) ∙ before

  spill-ceiling : (ceiling : ℕ) (b : Body) → is_spill b ≡ true → ceiling_after ceiling b ≡ ceiling
  spill-ceiling ceiling (Spill n) h = refl
  spill-ceiling ceiling _ h = cc

  -- a `spill` leaves what is told of the others
  spills-aside : (ceiling : ℕ) (lane : List Item) → filter (λ t. not (is_spill t.body)) (records_of w o ceiling lane) ≡ records_of w o ceiling (filter (λ i. not (is_spill i.body)) lane)
  unfolding records_of told
  spills-aside ceiling [] = refl
  spills-aside ceiling (i ∷ is) = go (is_spill i.body) refl (i.of == o) refl (spills-aside (ceiling_after ceiling i.body) is)
    where
      go : (s : Bool) → is_spill i.body ≡ s → (b : Bool) → (i.of == o) ≡ b
          → filter (λ t. not (is_spill t.body)) (records_of w o (ceiling_after ceiling i.body) is) ≡ records_of w o (ceiling_after ceiling i.body) (filter (λ i. not (is_spill i.body)) is)
          → filter (λ t. not (is_spill t.body)) (cond b (told w o ceiling i.body ∷ records_of w o (ceiling_after ceiling i.body) is) (records_of w o (ceiling_after ceiling i.body) is))
          ≡ records_of w o ceiling (cond (not s) (i ∷ filter (λ i. not (is_spill i.body)) is) (filter (λ i. not (is_spill i.body)) is))
      go true e true f h = rw e (h ∙ ap (λ c. records_of w o c (filter (λ i. not (is_spill i.body)) is)) (spill-ceiling ceiling i.body e))
      go true e false f h = h ∙ ap (λ c. records_of w o c (filter (λ i. not (is_spill i.body)) is)) (spill-ceiling ceiling i.body e)
      go false e true f h = rw (e, f) (ap (λ l. told w o ceiling i.body ∷ l) h)
      go false e false f h = rw f h

pub source-records : (w : Facts) (lane : List Item) → filter (λ t. not (is_spill t.body)) (records_of w 0 0 lane) ≡ source_records w lane
unfolding source_records
source-records w lane = spills-aside w 0 0 lane
