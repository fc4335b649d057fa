-- The outcome of a lawful journal is its end.
use Rattle.std.proofs.Common.{◌≡◌, ℕ, suc, ◌+◌, nat_lt, Bool, true, false, not, ◌||◌, cond, List, [], ◌∷◌, length, refl, sym, ◌∙◌, ap, ap₂, Some, None, arith}
use Rattle.std.specs.declared.option.Option.{Option}
use Rattle.std.specs.Option.{is_some}
use Rattle.std.specs.List.{list_any, position, prefix_len}
use Rattle.std.proofs.lemmas.Bool.Decides.{nat_tests}
use Rattle.std.proofs.lemmas.List.Folds.{list_any-append}
use Rattle.qp_model.specs.declared.record.Rec.{Rec}
use Rattle.qp_model.specs.declared.journals.Journal.{Journal}
use Rattle.qp_model.specs.Ends.{is_assert, is_spent, is_spill, is_end, spent, quiet}
use Rattle.qp_model.specs.End.{end_of}
use Rattle.qp_model.specs.History.{all_items, lane_items}
use Rattle.qp_model.specs.Lawful.{EndHolds, deferred_of}
use Rattle.qp_model.specs.Record.{Item, item_of}
use Rattle.qp_model.proofs.NumberLemmas.{one-more}
use Rattle.qp_model.proofs.ListLemmas.{list_any-map}
use Rattle.qp_kernel_end.specs.Laws.{OutcomeIsTheEnd}
use Rattle.qp_kernel_end.specs.Outcome.{asserted_at, asserts, end_by, is_asserted, is_spent_lane, outcome_of, runs_out, spent_at}

-- where one test holds nowhere, another holds where either does
any-other : {A : Type 0} (f g h : A → Bool) (xs : List A) → list_any f xs ≡ false → list_any (λ x. f x || g x || h x) xs ≡ list_any (λ x. g x || h x) xs
any-other f g h [] none = refl
any-other f g h (x ∷ xs) none = by (f x) none (any-other f g h xs)
  where
    by : (b : Bool) → (b || list_any f xs) ≡ false → (list_any f xs ≡ false → list_any (λ x. f x || g x || h x) xs ≡ list_any (λ x. g x || h x) xs)
        → ((b || g x || h x) || list_any (λ x. f x || g x || h x) xs) ≡ ((g x || h x) || list_any (λ x. g x || h x) xs)
    by true wrong rest = absurd (cc)
    by false none rest = ap (λ b. (g x || h x) || b) (rest none)

-- a list has a first place where a test holds exactly where it holds somewhere
prefix-any : {A : Type 0} (p : A → Bool) (xs : List A) → nat_lt (prefix_len (λ x. not (p x)) xs) (length xs) ≡ list_any p xs
prefix-any p [] = refl
prefix-any p (x ∷ xs) = by (p x) (prefix-any p xs)
  where
    by : (b : Bool) → nat_lt (prefix_len (λ x. not (p x)) xs) (length xs) ≡ list_any p xs
        → nat_lt (cond (not b) (1 + prefix_len (λ x. not (p x)) xs) 0) (suc (length xs)) ≡ (b || list_any p xs)
    by true rest = grind (arith, nat_tests)
    by false rest = one-more (prefix_len (λ x. not (p x)) xs) (length xs) ∙ rest

position-any : {A : Type 0} (p : A → Bool) (xs : List A) → is_some (position p xs) ≡ list_any p xs
position-any p xs = by (nat_lt (prefix_len (λ x. not (p x)) xs) (length xs)) ∙ prefix-any p xs
  where
    by : (b : Bool) → is_some (cond b (Some (prefix_len (λ x. not (p x)) xs)) None) ≡ b
    by true = refl
    by false = refl

-- a test of the items of all lanes
items-any : (p : Item → Bool) (lanes : List (List Rec)) → list_any p (all_items lanes) ≡ list_any (λ lane. list_any (λ r. p (item_of r)) lane) lanes
unfolding all_items lane_items
items-any p [] = refl
items-any p (lane ∷ lanes) = list_any-append p (lane_items lane) (all_items lanes) ∙ ap₂ (λ a b. a || b) (list_any-map p item_of lane) (items-any p lanes)

module _ (j : Journal) where
  abbrev items : List Item
  items = all_items j.lanes

  asserted-any : is_some (position is_asserted j.lanes) ≡ list_any (λ i. is_assert i.body) items
  unfolding asserts item_of
  asserted-any = position-any is_asserted j.lanes ∙ sym (items-any (λ i. is_assert i.body) j.lanes)

  spent-any : is_some (position is_spent_lane j.lanes) ≡ list_any (λ i. is_spent i.body || is_spill i.body) items
  unfolding runs_out item_of
  spent-any = position-any is_spent_lane j.lanes ∙ sym (items-any (λ i. is_spent i.body || is_spill i.body) j.lanes)

  spent-end : (m : Option ℕ) (e : Bool) → is_some m ≡ e → end_by (spent_at m) ≡ cond e spent quiet
  spent-end (Some n) e is = rw (sym is) refl
  spent-end None e is = rw (sym is) refl

  asserted-end : (o : Option ℕ) → is_some o ≡ list_any (λ i. is_assert i.body) items → end_by (asserted_at j o) ≡ end_of items
  asserted-end (Some n) is = rw (sym is) refl
  asserted-end None is =
      let ends = spent-any ∙ sym (any-other (λ i. is_assert i.body) (λ i. is_spent i.body) (λ i. is_spill i.body) items (sym is)) in
      spent-end (position is_spent_lane j.lanes) (list_any (λ i. is_end i.body) items) ends ∙ rw (sym is) refl

  pub its-end : end_by (outcome_of j) ≡ end_of items
  unfolding outcome_of
  its-end = asserted-end (position is_asserted j.lanes) asserted-any

pub outcome-end : OutcomeIsTheEnd
unfolding EndHolds deferred_of
outcome-end sys stimuli j h =
    let stated : j.end ≡ end_of (all_items j.lanes) = grind (arith, nat_tests, h.end.stated) in
    its-end j ∙ sym stated
