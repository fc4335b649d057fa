-- The looks of lane 0, record by record.
use Rattle.std.proofs.Common.{◌≡◌, ◌∙◌, ℕ, ◌+◌, ◌<◌, ◌==◌, Bool, ◌||◌, List, [], ◌∷◌, ◌++◌, length, take, get_or, Some, None, ap, sym, refl, append-nil}
use Rattle.std.specs.declared.option.Option.{Option}
use Rattle.std.specs.Option.{option_map, option_or}
use Rattle.std.specs.List.{filter_map}
use Rattle.std.proofs.Math.Bool.{or-false}
use Rattle.std.proofs.lemmas.List.Elements.{filter_map-append}
use Rattle.std.proofs.lemmas.List.Folds.{list_any-append}
use Rattle.qp_chart.specs.StateTree.{has}
use Rattle.qp_model.specs.declared.record.Rec.{Rec}
use Rattle.qp_model.specs.Record.{item_of}
use Rattle.qp_model.specs.History.{lane_items}
use Rattle.qp_model.specs.OneOrder.{look_of, look_numbers}
use Rattle.qp_check_lanes.specs.Options.{is_this_number}
use Rattle.qp_check_kernel.specs.OneOrder.{last_of}
use Rattle.qp_check_lanes.proofs.ItemLemmas.{items-up_to, items-none}

last_of-snoc : (ks : List ℕ) (k : ℕ) → last_of (ks ++ k ∷ []) ≡ Some k
last_of-snoc [] k = refl
last_of-snoc (x ∷ []) k = refl
last_of-snoc (x ∷ y ∷ ks) k = last_of-snoc (y ∷ ks) k

pub look_numbers-none : look_numbers (lane_items []) ≡ []
look_numbers-none = ap look_numbers items-none

module _ (lane : List Rec) (i : ℕ) (r : Rec) (inside : i < length lane) (is : r ≡ get_or lane i r) (look : Option ℕ) (says : look ≡ option_map (λ l. l.0) (look_of (item_of r).body)) where
  look_numbers-more : look_numbers (lane_items (take (i + 1) lane)) ≡ look_numbers (lane_items (take i lane)) ++ filter_map (λ k. k) (look ∷ [])
  look_numbers-more =
      ap look_numbers (items-up_to lane i r inside is) ∙ filter_map-append (λ x. option_map (λ l. l.0) (look_of x.body)) (lane_items (take i lane)) (item_of r ∷ [])
      ∙ ap (λ o. look_numbers (lane_items (take i lane)) ++ filter_map (λ k. k) (o ∷ [])) (sym says)

  pub looks-more : (k : ℕ) (new old : Bool) → new ≡ (old || is_this_number k look) → old ≡ has (look_numbers (lane_items (take i lane))) k
      → new ≡ has (look_numbers (lane_items (take (i + 1) lane))) k
  looks-more k new old e f =
      let front = look_numbers (lane_items (take i lane)) in
      e ∙ ap (λ b. b || is_this_number k look) f ∙ ap (λ b. has front k || b) (go look)
      ∙ sym (ap (λ l. has l k) look_numbers-more ∙ list_any-append (λ y. y == k) front (filter_map (λ x. x) (look ∷ [])))
    where
      go : (o : Option ℕ) → is_this_number k o ≡ has (filter_map (λ x. x) (o ∷ [])) k
      go None = refl
      go (Some n) = sym (or-false (n == k))

  pub last-more : (new old : Option ℕ) → new ≡ option_or look old → old ≡ last_of (look_numbers (lane_items (take i lane))) → new ≡ last_of (look_numbers (lane_items (take (i + 1) lane)))
  last-more new old e f = e ∙ ap (option_or look) f ∙ go look ∙ ap last_of (sym look_numbers-more)
    where
      go : (o : Option ℕ) → option_or o (last_of (look_numbers (lane_items (take i lane)))) ≡ last_of (look_numbers (lane_items (take i lane)) ++ filter_map (λ x. x) (o ∷ []))
      go None = ap last_of (sym (append-nil (look_numbers (lane_items (take i lane)))))
      go (Some n) = sym (last_of-snoc (look_numbers (lane_items (take i lane))) n)
