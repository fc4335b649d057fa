-- The looks of a lane's `stim` records.
use Rattle.std.proofs.Common.{◌≡◌, ◌∙◌, ℕ, ◌+◌, ◌<◌, Bool, ◌||◌, List, [], ◌∷◌, length, take, get_or, ap, sym}
use Rattle.std.specs.List.{list_any}
use Rattle.std.proofs.Math.Bool.{or-false, or_assoc}
use Rattle.std.proofs.lemmas.List.Folds.{list_any-append}
use Rattle.qp_model.specs.declared.record.Rec.{Rec}
use Rattle.qp_model.specs.Record.{item_of}
use Rattle.qp_model.specs.History.{lane_items}
use Rattle.qp_model.specs.OneOrder.{is_stim_at}
use Rattle.std.specs.declared.option.Option.{Option}
use Rattle.qp_check_lanes.specs.Options.{is_this_number}
use Rattle.qp_check_lanes.proofs.ItemLemmas.{items-up_to, items-none}

module _ (lane : List Rec) (i : ℕ) (r : Rec) (inside : i < length lane) (is : r ≡ get_or lane i r) (k : ℕ) where
  -- one record more
  pub stim-more : list_any (λ x. is_stim_at k x.body) (lane_items (take (i + 1) lane)) ≡ (list_any (λ x. is_stim_at k x.body) (lane_items (take i lane)) || is_stim_at k (item_of r).body)
  stim-more = ap (list_any (λ x. is_stim_at k x.body)) (items-up_to lane i r inside is) ∙ list_any-append (λ x. is_stim_at k x.body) (lane_items (take i lane)) (item_of r ∷ []) ∙ ap (λ b. list_any (λ x. is_stim_at k x.body) (lane_items (take i lane)) || b) (or-false (is_stim_at k (item_of r).body))

  -- the look of the record is added
  pub stim-added : (new now old : Bool) (look : Option ℕ) → new ≡ (now || is_this_number k look) → now ≡ (old || list_any (λ x. is_stim_at k x.body) (lane_items (take i lane)))
      → is_stim_at k (item_of r).body ≡ is_this_number k look → new ≡ (old || list_any (λ x. is_stim_at k x.body) (lane_items (take (i + 1) lane)))
  stim-added new now old look e f g =
      e ∙ ap (λ b. b || is_this_number k look) f ∙ or_assoc old (list_any (λ x. is_stim_at k x.body) (lane_items (take i lane))) (is_this_number k look)
      ∙ ap (λ b. old || b) (ap (λ b. list_any (λ x. is_stim_at k x.body) (lane_items (take i lane)) || b) (sym g) ∙ sym stim-more)

pub stim-none : (k : ℕ) (b : Bool) → b ≡ (b || list_any (λ x. is_stim_at k x.body) (lane_items []))
stim-none k b = sym (ap (λ l. b || list_any (λ x. is_stim_at k x.body) l) items-none ∙ or-false b)
