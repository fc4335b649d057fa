-- The tests of a run with one thread, and what is asked of it.
use Rattle.std.proofs.Common.{◌≡◌, ◌∙◌, ◌↔◌, ℕ, Bool, true, not, ◌&&◌, ◌||◌, List, [], ◌∷◌, map, None, IsTrue, ap, sym, refl}
use Rattle.std.specs.Option.{option_map_or}
use Rattle.std.specs.List.{list_all, list_any}
use Rattle.std.specs.Cmp.Derive.{both_true as both}
use Rattle.std.proofs.Math.Path.{fun_ext}
use Rattle.std.proofs.lemmas.Bool.{and_parts}
use Rattle.std.proofs.lemmas.List.Folds.{list_all-map}
use Rattle.qp_chart.specs.StateTree.{has}
use Rattle.qp_model.specs.declared.record.Rec.{Rec}
use Rattle.qp_model.specs.Record.{Item, item_of}
use Rattle.qp_model.specs.History.{lane_items}
use Rattle.qp_model.specs.Ends.{ends_last, spills_in}
use Rattle.qp_model.specs.Places.{in_order}
use Rattle.qp_model.specs.OneOrder.{OneThread, Placed, IsOneOrder, is_turn, is_free, last_is_free, look_numbers, looks_right, order, stim_of, stims_placed, turns_at}
use Rattle.qp_model.proofs.ListLemmas.{list_any-map}
use Rattle.qp_check_kernel.specs.declared.stimulus_index.Placed as code
use Rattle.qp_check_kernel.specs.AsPlaced.{as_placed, said_at}
use Rattle.qp_check_kernel.specs.OrderTurns.{turns_in}
use Rattle.qp_check_kernel.specs.OneOrder.{last_of, has_no_turn}
use Rattle.qp_check_lanes.proofs.ItemLemmas.{items-all}

-- each `stim` stands in a look
pub placed-is : (sources : List (List Rec)) (numbers : List ℕ) (f : ℕ → Bool) → ((k : ℕ) → f k ≡ has numbers k)
    → list_all (λ lane. list_all (λ q. option_map_or (λ s. f s.1) (stim_of (item_of q).body) true) lane) sources
    ≡ list_all (λ lane. list_all (λ (i : Item). option_map_or (λ s. has numbers s.1) (stim_of i.body) true) lane) (map (λ lane. lane_items lane) sources)
placed-is sources numbers f e =
    let test : Item → Bool = λ i. option_map_or (λ s. has numbers s.1) (stim_of i.body) true in
    let same : f ≡ has numbers = fun_ext e in
    ap (λ (g : ℕ → Bool). list_all (λ lane. list_all (λ q. option_map_or (λ s. g s.1) (stim_of (item_of q).body) true) lane) sources) same
    ∙ ap (λ (g : List Rec → Bool). list_all g sources) (fun_ext (λ lane. items-all test lane))
    ∙ sym (list_all-map (list_all test) (λ lane. lane_items lane) sources)

-- the last look is free
pub last_is_free-is : (r : OneThread) (ks : List ℕ) → last_is_free r ks ≡ option_map_or (is_free r) (last_of ks) true
unfolding last_is_free
last_is_free-is r [] = refl
last_is_free-is r (k ∷ []) = refl
last_is_free-is r (k ∷ n ∷ ks) = last_is_free-is r (n ∷ ks)

pub free-is : (r : OneThread) (parts : ℕ → List Placed) → ((k : ℕ) → turns_in (parts k) ≡ turns_at 1 k r.sources) → (ks : List ℕ)
    → option_map_or (has_no_turn parts) (last_of ks) true ≡ last_is_free r ks
free-is r parts e ks =
    let same : has_no_turn parts ≡ is_free r = fun_ext (λ k. ap (is_turn None) (e k)) in
    ap (λ (f : ℕ → Bool). option_map_or f (last_of ks) true) same ∙ sym (last_is_free-is r ks)

pub items-said : (xs : List code.Placed) → map (λ (x : Placed). x.item) (map as_placed xs) ≡ map said_at xs
items-said [] = refl
items-said (x ∷ xs) = ap (λ l. said_at x ∷ l) (items-said xs)

pub late-is : (sources : List (List Rec)) → list_any (λ lane. spills_in (lane_items lane)) sources ≡ list_any spills_in (map (λ lane. lane_items lane) sources)
late-is sources = sym (list_any-map spills_in (λ lane. lane_items lane) sources)

module _ (r : OneThread) (placed stands free : Bool) (xs : List Placed) (is : xs ≡ order r.cuts r.lane0 r.sources)
    (p : placed ≡ stims_placed r) (s : stands ≡ (looks_right r [] xs && in_order [] (map (λ x. x.item) xs) && ends_last (map (λ x. x.item) xs)))
    (f : free ≡ (r.cuts || not (list_any spills_in r.sources) || last_is_free r (look_numbers r.lane0))) where
  to : IsTrue (placed && stands && free) → IsOneOrder r
  to h =
      let all = and_parts _ _ h in
      let first = and_parts _ _ all.0 in
      let ended = and_parts _ _ (rw s at first.1) in
      let turned = and_parts _ _ ended.0 in
      record {
        placed = sym p ∙ first.0;
        turns = ap (λ l. looks_right r [] l) (sym is) ∙ turned.0;
        numbers = ap (λ l. in_order [] (map (λ x. x.item) l)) (sym is) ∙ turned.1;
        ends = ap (λ l. ends_last (map (λ x. x.item) l)) (sym is) ∙ ended.1;
        free = sym f ∙ all.1;
      }

  from : IsOneOrder r → IsTrue (placed && stands && free)
  from h =
      let turned : looks_right r [] xs ≡ true = ap (λ l. looks_right r [] l) is ∙ h.turns in
      let numbered : in_order [] (map (λ x. x.item) xs) ≡ true = ap (λ l. in_order [] (map (λ x. x.item) l)) is ∙ h.numbers in
      let ended : ends_last (map (λ x. x.item) xs) ≡ true = ap (λ l. ends_last (map (λ x. x.item) l)) is ∙ h.ends in
      both (both (p ∙ h.placed) (s ∙ both (both turned numbered) ended)) (f ∙ h.free)

  pub one-order : IsTrue (placed && stands && free) ↔ IsOneOrder r
  one-order = (to, from)
