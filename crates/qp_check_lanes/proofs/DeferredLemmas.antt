-- A deferred list kept by a lane's records.
use Rattle.std.proofs.Common.{◌≡◌, ◌∙◌, ℕ, ◌+◌, ◌<◌, ◌≤◌, ◌==◌, Bool, true, false, cond, List, [], ◌∷◌, ◌++◌, length, drop, get_or, Some, None, ap, sym, refl, append_assoc, append-nil}
use Rattle.std.proofs.Math.Path.{fun_ext}
use Rattle.std.proofs.lemmas.List.{at_drop_all, drop_more}
use Rattle.std.specs.declared.option.Option.{Option}
use Rattle.std.specs.Option.{option_and_then, unwrap_or}
use Rattle.qp_model.specs.declared.record.Rec.{Rec}
use Rattle.qp_model.specs.declared.bodies.Entry.{Entry}
use Rattle.qp_model.specs.declared.systems.ObjectDef.{ObjectDef}
use Rattle.qp_model.specs.declared.systems.System.{System}
use Rattle.qp_model.specs.declared.journals.Journal.{Journal}
use Rattle.qp_model.specs.Record.{Item, item_of}
use Rattle.qp_model.specs.History.{lane_items}
use Rattle.qp_model.specs.Knowing.{Facts, records_of, ceiling_after, told}
use Rattle.qp_model.specs.Home.{by_object}
use Rattle.qp_model.specs.Lawful.{deferred_of, facts_of}
use Rattle.qp_model.specs.Deferral.{keep, kept_after}
use Rattle.qp_check_lanes.specs.Options.{allowed}
use Rattle.qp_check_lanes.specs.Deferral.{keep_own, kept_on}
use Rattle.qp_check_lanes.proofs.ItemLemmas.{items-from, items-none}

-- what the lane tells beside its records doesn't matter
pub kept_on-told : (w : Facts) (room o ceiling : ℕ) (kept : List Entry) (lane : List Item) → kept_on room o kept lane ≡ kept_after room kept (records_of w o ceiling lane)
unfolding kept_on kept_after records_of told
kept_on-told w room o ceiling kept [] = refl
kept_on-told w room o ceiling kept (i ∷ is) = go (i.of == o) (λ k. kept_on-told w room o (ceiling_after ceiling i.body) k is)
  where
    go : (b : Bool) → ((k : List Entry) → kept_on room o k is ≡ kept_after room k (records_of w o (ceiling_after ceiling i.body) is))
        → option_and_then (λ next. kept_on room o next is) (cond b (keep room kept i.body) (Some kept))
        ≡ kept_after room kept (cond b (told w o ceiling i.body ∷ records_of w o (ceiling_after ceiling i.body) is) (records_of w o (ceiling_after ceiling i.body) is))
    go true rest = ap (λ f. option_and_then f (keep room kept i.body)) (fun_ext rest)
    go false rest = rest kept

module _ (room o : ℕ) (kept : List Entry) (lane : List Rec) (i : ℕ) (r : Rec) (inside : i < length lane) (is : r ≡ get_or lane i r) where
  kept_on-one : kept_on room o kept (lane_items (drop i lane)) ≡ option_and_then (λ next. kept_on room o next (lane_items (drop (i + 1) lane))) (keep_own room o kept (item_of r))
  unfolding kept_on
  kept_on-one = ap (kept_on room o kept) (items-from lane i r inside is)

  pub kept_on-kept : (next : List Entry) (b : Bool) → allowed b next ≡ keep_own room o kept (item_of r) → b ≡ true
      → kept_on room o kept (lane_items (drop i lane)) ≡ kept_on room o next (lane_items (drop (i + 1) lane))
  kept_on-kept next b e h =
      kept_on-one ∙ ap (λ (x : Option (List Entry)). option_and_then (λ n. kept_on room o n (lane_items (drop (i + 1) lane))) x) (sym e ∙ ap (λ v. allowed v next) h)

  pub kept_on-refused : (next : List Entry) (b : Bool) → allowed b next ≡ keep_own room o kept (item_of r) → b ≡ false → kept_on room o kept (lane_items (drop i lane)) ≡ None
  kept_on-refused next b e h =
      kept_on-one ∙ ap (λ (x : Option (List Entry)). option_and_then (λ n. kept_on room o n (lane_items (drop (i + 1) lane))) x) (sym e ∙ ap (λ v. allowed v next) h)

pub kept_on-end : (room o : ℕ) (kept : List Entry) (lane : List Rec) (i : ℕ) → length lane ≤ i → kept_on room o kept (lane_items (drop i lane)) ≡ Some kept
unfolding kept_on
kept_on-end room o kept lane i h = at_drop_all (λ l. kept_on room o kept (lane_items l)) lane i h ∙ ap (kept_on room o kept) items-none

-- the deferred entries of these objects, one after another
module _ (sys : System) (j : Journal) (ds : List ObjectDef) (i : ℕ) where
  pub deferred-put : (d : ObjectDef) → i < length ds → d ≡ get_or ds i d → (old new all : List Entry) (list : Option (List Entry))
      → new ≡ old ++ unwrap_or list [] → list ≡ kept_after d.defer [] (by_object (facts_of sys j) j d.priority)
      → old ++ deferred_of sys j (drop i ds) ≡ all → new ++ deferred_of sys j (drop (i + 1) ds) ≡ all
  unfolding deferred_of
  deferred-put d inside is old new all list put kept before =
      let rest = deferred_of sys j (drop (i + 1) ds) in
      let own : ObjectDef → List Entry = λ x. unwrap_or (kept_after x.defer [] (by_object (facts_of sys j) j x.priority)) [] in
      let one : deferred_of sys j (drop i ds) ≡ own d ++ rest = ap (deferred_of sys j) (drop_more ds i d inside) ∙ ap (λ x. own x ++ rest) (sym is) in
      ap (λ l. l ++ rest) (put ∙ ap (λ o. old ++ unwrap_or o []) kept) ∙ append_assoc old (own d) rest ∙ ap (λ l. old ++ l) (sym one) ∙ before

  pub deferred-end : (old all : List Entry) → length ds ≤ i → old ++ deferred_of sys j (drop i ds) ≡ all → old ≡ all
  unfolding deferred_of
  deferred-end old all h before = sym (append-nil old) ∙ ap (λ l. old ++ l) (sym (at_drop_all (deferred_of sys j) ds i h)) ∙ before
