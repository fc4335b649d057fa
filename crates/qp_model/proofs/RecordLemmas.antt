-- What crates prove of records: entries that are the same, what a record says, and the records of a lane as a loop comes to them.
use Rattle.std.proofs.Common.{◌≡◌, ◌∙◌, ℕ, suc, ◌+◌, ◌<◌, ◌≤◌, true, List, [], ◌∷◌, ◌++◌, map, length, take, drop, get_or, ap, sym, refl, arith}
use Rattle.std.proofs.lemmas.Bool.Decides.{nat_tests}
use Rattle.std.proofs.lemmas.List.{drop_more, drop_all, take_more, map-append, take-append-drop}
use Rattle.qp_model.specs.declared.record.Rec.{Rec}
use Rattle.qp_model.specs.declared.bodies.Entry.{Entry}
use Rattle.qp_model.specs.declared.bodies.Body.{Body}
use Rattle.qp_model.specs.Record.{Item, body_of, entry, item_of}
use Rattle.qp_model.specs.Told.{Told, Known}
use Rattle.qp_model.specs.Line.{same_entry}
use Rattle.qp_model.specs.History.{lane_items}
pub use Rattle.qp_model.proofs.LineLemmas.{same_number, same_entry-refl}

pub same_entry-is : (d e : Entry) → same_entry d e ≡ true → d ≡ e
same_entry-is d e h =
    let e1 : d.pool ≡ e.pool = grind (arith, nat_tests) in
    let e2 : d.block ≡ e.block = grind (arith, nat_tests) in
    let e3 : d.name ≡ e.name = grind (arith, nat_tests) in
    let left : d ≡ entry d.pool d.block d.name = refl in
    let right : e ≡ entry e.pool e.block e.name = refl in
    cc

-- a record by what it says and what is known
pub told-is : (t : Told) (body : Body) (known : Known) → t.body ≡ body → t.known ≡ known → t ≡ record { body = body; known = known }
told-is t body known is_body is_known = let whole : t ≡ record { body = t.body; known = t.known } = refl in cc

-- a record by its item
pub body-is : (o : ℕ) (b : Body) (r : Rec) → item_of r ≡ record { of = o; body = b } → body_of r ≡ b
unfolding item_of
body-is o b r is = ap (λ (i : Item). i.body) is

pub of-is : (o : ℕ) (b : Body) (r : Rec) → item_of r ≡ record { of = o; body = b } → r.of ≡ o
unfolding item_of
of-is o b r is = ap (λ (i : Item). i.of) is

-- as many items as records
pub lane-length : (lane : List Rec) → length (lane_items lane) ≡ length lane
unfolding lane_items
lane-length [] = refl
lane-length (r ∷ lane) = ap suc (lane-length lane)

-- one record more of a lane
module _ (lane : List Rec) (i : ℕ) (r : Rec) (inside : i < length lane) (is : r ≡ get_or lane i r) where
  pub items-from : lane_items (drop i lane) ≡ item_of r ∷ lane_items (drop (i + 1) lane)
  unfolding lane_items
  items-from = ap (map item_of) (drop_more lane i r inside) ∙ ap (λ y. item_of y ∷ map item_of (drop (i + 1) lane)) (sym is)

  pub items-up_to : lane_items (take (i + 1) lane) ≡ lane_items (take i lane) ++ item_of r ∷ []
  unfolding lane_items
  items-up_to =
      ap (map item_of) (take_more lane i r inside) ∙ map-append item_of (take i lane) (get_or lane i r ∷ [])
      ∙ ap (λ y. map item_of (take i lane) ++ item_of y ∷ []) (sym is)

pub items-past : (lane : List Rec) (i : ℕ) → length lane ≤ i → lane_items (drop i lane) ≡ []
unfolding lane_items
items-past lane i h = ap (map item_of) (drop_all i lane h)

pub items-split : (lane : List Rec) (i : ℕ) → lane_items lane ≡ lane_items (take i lane) ++ lane_items (drop i lane)
unfolding lane_items
items-split lane i = sym (ap (map item_of) (take-append-drop i lane)) ∙ map-append item_of (take i lane) (drop i lane)

-- a record more
pub lane_items-more : (rs : List Rec) (r : Rec) → lane_items (rs ++ r ∷ []) ≡ lane_items rs ++ item_of r ∷ []
unfolding lane_items
lane_items-more rs r = map-append item_of rs (r ∷ [])
