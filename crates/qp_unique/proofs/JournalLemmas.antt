-- A lawful journal of a run with one thread: its lanes, and its order without a `spill`.
use Rattle.std.proofs.Common.{◌≡◌, ◌∙◌, ◌⊎◌, inl, inr, ℕ, zero, suc, ◌+◌, ◌==◌, Bool, true, false, not, ◌&&◌, ◌||◌, cond, List, [], ◌∷◌, ◌++◌, map, length, drop, Some, None, refl, sym, ap, subst, arith, append-nil}
use Rattle.std.specs.Prelude.{⊤}
use Rattle.std.proofs.lemmas.Bool.{and_parts}
use Rattle.std.proofs.lemmas.Bool.Decides.{nat_tests}
use Rattle.std.proofs.lemmas.List.{append_assoc, map-append}
use Rattle.std.specs.declared.option.Option.{Option}
use Rattle.std.proofs.lemmas.List.Elements.{filter-append}
use Rattle.std.specs.Option.{option_map_or, unwrap_or, is_some}
use Rattle.std.specs.Bool.{MatchBool}
use Rattle.std.specs.List.{slice_get, cons_option, filter, filter_map, list_any, AllByRecursion}
use Rattle.qp_model.specs.declared.record.Rec.{Rec}
use Rattle.qp_model.specs.declared.stimulus.Stim.{Stim}
use Rattle.qp_model.specs.declared.systems.System.{System}
use Rattle.qp_model.specs.declared.journals.Journal.{Journal}
use Rattle.qp_model.specs.Record.{Item}
use Rattle.qp_model.specs.declared.bodies.Body.{Body}
use Rattle.qp_model.specs.declared.bodies.Body.TheVariants as body
use Rattle.qp_model.specs.KernelLane.{Reading}
use Rattle.qp_model.specs.Ends.{is_assert, is_spent, is_spill, is_end, spills_in, spills_cut, ends_last}
use Rattle.qp_model.specs.History.{all_items, lane_items}
use Rattle.qp_model.specs.Home.{lane_at}
use Rattle.qp_model.specs.Kernels.{port, has_one_order}
use Rattle.qp_model.specs.Places.{in_order}
use Rattle.qp_model.specs.OneOrder.{Placed, OneThread, IsOneOrder, with_stimuli, parts_of_look, part_of_look, belongs, look_of, stim_of, order, spills_from, looks_right, look_right, turns_at, acts_next, is_turn, no_look, is_free, items_placed}
use Rattle.qp_model.specs.Lawful.{Lawful, KernelHolds, OrderHolds, SourceLanes, reading_holds, source_lanes, lanes_before, one_thread}
use Rattle.qp_model_order.specs.RunOrder.{placed}
use Rattle.qp_model_order.specs.Placing.{look_item}
use Rattle.qp_unique.specs.Tidy.{unspilt_order, unspilt}
use Rattle.qp_unique.proofs.LookLemmas.{lane_turn, turn_if, turns-none}
use Rattle.qp_unique.proofs.Sides.{HasKernel, no-port}
use Rattle.qp_model.proofs.HistoryLemmas.{in_order-front}
use Rattle.qp_model.proofs.NumberLemmas.{every-append}
use Rattle.qp_model.proofs.ListLemmas.{every-parts, list_all-front}
use Rattle.qp_model.proofs.LastLemmas.{no-spill}

-- the lanes of a run with one thread
pub lanes-split : (lanes : List (List Rec)) (n : ℕ) → length lanes ≡ 1 + n → (l : List Rec) × (ls : List (List Rec)) × (lanes ≡ l ∷ ls) × (length ls ≡ n)
lanes-split [] n h = absurd (let no : 0 ≡ 1 + n = h in omega (arith, no))
lanes-split (l ∷ ls) n h = let size : suc (length ls) ≡ 1 + n = h in (l, ls, refl, omega (arith, size))

-- no `spill` among them
pub unspilt-each : (is : List Item) → list_any (λ i. is_spill i.body) is ≡ false → AllByRecursion (λ i. is_spill i.body ≡ false) is
unspilt-each [] h = tt
unspilt-each (i ∷ is) h = by (is_spill i.body) refl h (λ k. unspilt-each is k)
  where
    by : (b : Bool) → is_spill i.body ≡ b → (b || list_any (λ i. is_spill i.body) is) ≡ false → (list_any (λ i. is_spill i.body) is ≡ false → AllByRecursion (λ i. is_spill i.body ≡ false) is)
        → (is_spill i.body ≡ false) × AllByRecursion (λ i. is_spill i.body ≡ false) is
    by true e h later = absurd (cc)
    by false e h later = (e, later h)

pub each-unspilt : (is : List Item) → AllByRecursion (λ i. is_spill i.body ≡ false) is → spills_in is ≡ false
each-unspilt [] h = refl
each-unspilt (i ∷ is) h = rw h.0 (each-unspilt is h.1)

-- the lanes of sources have what all records have
pub each-lane : (P : Item → Type 0) (ls : List (List Rec)) → AllByRecursion P (all_items ls) → AllByRecursion (λ l. AllByRecursion P l) (map (λ lane. lane_items lane) ls)
unfolding all_items
each-lane P [] h = tt
each-lane P (l ∷ ls) h = let parts = every-parts P (lane_items l) (all_items ls) h in (parts.0, each-lane P ls parts.1)

pub lane-each : (P : List Item → Type 0) (front : List (List Item)) (l : List Item) (back all : List (List Item)) → all ≡ front ++ l ∷ back → AllByRecursion P all → P l
lane-each P front l back all is h = (every-parts P front (l ∷ back) (subst (AllByRecursion P) is h)).1.0

module _ (P : Item → Type 0) where
  part-all : (lane k : ℕ) (cuts within : Bool) (is : List Item) → AllByRecursion P is → AllByRecursion P (items_placed (part_of_look lane k cuts within is))
  unfolding part_of_look
  part-all lane k cuts within [] h = tt
  part-all lane k cuts within (i ∷ is) h = by (belongs k cuts within i.body) (λ now. part-all lane k cuts now is h.1)
    where
      by : (b : Bool) → ((now : Bool) → AllByRecursion P (items_placed (part_of_look lane k cuts now is))) → AllByRecursion P (items_placed (cond b (placed lane i ∷ []) [] ++ part_of_look lane k cuts b is))
      by true later = (h.0, later true)
      by false later = later false

  pub parts-all : (lane k : ℕ) (cuts : Bool) (sources : List (List Item)) → AllByRecursion (λ l. AllByRecursion P l) sources → AllByRecursion P (items_placed (parts_of_look lane k cuts sources))
  unfolding parts_of_look
  parts-all lane k cuts [] h = tt
  parts-all lane k cuts (l ∷ ls) h =
      subst (AllByRecursion P) (sym (map-append (λ (x : Placed). x.item) (part_of_look lane k cuts false l) (parts_of_look (lane + 1) k cuts ls)))
      (every-append P _ _ (part-all lane k cuts false l h.0) (parts-all (lane + 1) k cuts ls h.1))

  pub order-all : (cuts : Bool) (sources : List (List Item)) (lane0 : List Item) → AllByRecursion P lane0 → AllByRecursion (λ l. AllByRecursion P l) sources
      → AllByRecursion P (items_placed (with_stimuli cuts sources lane0))
  unfolding with_stimuli
  order-all cuts sources [] h all = tt
  order-all cuts sources (i ∷ is) h all = (
    h.0,
    subst (AllByRecursion P) (sym (map-append (λ (x : Placed). x.item) (own (look_of i.body)) (with_stimuli cuts sources is)))
        (every-append P _ _ (look (look_of i.body)) (order-all cuts sources is h.1 all)),
  )
    where
      own : Option (ℕ × ℕ) → List Placed
      own o = option_map_or (λ (l : ℕ × ℕ). parts_of_look 1 l.0 cuts sources) o []

      look : (o : Option (ℕ × ℕ)) → AllByRecursion P (items_placed (own o))
      look None = tt
      look (Some l) = parts-all 1 l.0 cuts sources all

-- each look has the stimulus that acts in it
looks-at : (r : OneThread) (before xs : List Placed) (x : Placed) (ys : List Placed) → looks_right r before (xs ++ x ∷ ys) ≡ true → look_right r (before ++ xs) ys (look_of x.item.body) ≡ true
unfolding looks_right
looks-at r before [] x ys h = rw (append-nil before) (and_parts _ _ h).0
looks-at r before (z ∷ xs) x ys h =
    subst (λ zs. look_right r zs ys (look_of x.item.body) ≡ true) (append_assoc before (z ∷ []) xs) (looks-at r (before ++ z ∷ []) xs x ys (and_parts _ _ h).1)

-- nothing follows what ends a run
pub ends-before : (xs : List Item) (x : Item) (ys : List Item) → ends_last (xs ++ x ∷ ys) ≡ true → list_any (λ i. is_end i.body) xs ≡ false
unfolding ends_last
ends-before [] x ys h = refl
ends-before (i ∷ []) x ys h = let parts = and_parts _ _ h in by (is_end i.body) parts.0
  where
    by : (b : Bool) → not b ≡ true → (b || false) ≡ false
    by true e = absurd (cc)
    by false e = refl
ends-before (i ∷ j ∷ xs) x ys h = let parts = and_parts _ _ h in by (is_end i.body) parts.0 (ends-before (j ∷ xs) x ys parts.1)
  where
    by : (b : Bool) → not b ≡ true → list_any (λ i. is_end i.body) (j ∷ xs) ≡ false → (b || list_any (λ i. is_end i.body) (j ∷ xs)) ≡ false
    by true e h = absurd (cc)
    by false e h = h

pub any-placed : (xs : List Placed) → list_any (λ (i : Item). is_end i.body) (items_placed xs) ≡ list_any (λ (z : Placed). is_end z.item.body) xs
any-placed [] = refl
any-placed (x ∷ xs) = ap (λ b. is_end x.item.body || b) (any-placed xs)

held-open : (sys : System) (stimuli : List (List Stim)) (j : Journal) → OrderHolds sys stimuli j → (cuts : Bool) × IsOneOrder (one_thread sys stimuli j cuts)
unfolding OrderHolds
held-open sys stimuli j h = (h.0, h.2)

-- ---- lanes and their order without a `spill`

pub kept-each : (P : Item → Type 0) (is : List Item) → AllByRecursion P is → AllByRecursion P (unspilt is)
kept-each P [] h = tt
kept-each P (i ∷ is) h = by (not (is_spill i.body)) (kept-each P is h.1)
  where
    by : (b : Bool) → AllByRecursion P (unspilt is) → AllByRecursion P (cond b (i ∷ unspilt is) (unspilt is))
    by true rest = (h.0, rest)
    by false rest = rest

pub kept-none : (is : List Item) → AllByRecursion (λ i. is_spill i.body ≡ false) (unspilt is)
kept-none [] = tt
kept-none (i ∷ is) = by (is_spill i.body) refl (kept-none is)
  where
    by : (b : Bool) → is_spill i.body ≡ b → AllByRecursion (λ i. is_spill i.body ≡ false) (unspilt is) → AllByRecursion (λ i. is_spill i.body ≡ false) (cond (not b) (i ∷ unspilt is) (unspilt is))
    by true e rest = rest
    by false e rest = (e, rest)

pub lanes-kept : (P : Item → Type 0) (ls : List (List Item)) → AllByRecursion (λ l. AllByRecursion P l) ls → AllByRecursion (λ l. AllByRecursion P l) (map (λ lane. unspilt lane) ls)
lanes-kept P [] h = tt
lanes-kept P (l ∷ ls) h = (kept-each P l h.0, lanes-kept P ls h.1)

pub lanes-none : (ls : List (List Item)) → AllByRecursion (λ l. AllByRecursion (λ i. is_spill i.body ≡ false) l) (map (λ lane. unspilt lane) ls)
lanes-none [] = tt
lanes-none (l ∷ ls) = (kept-none l, lanes-none ls)

-- a lane whose `spill` stands last
pub cut-shape : (end : ℕ) (is : List Item) → spills_cut end is ≡ true → (is ≡ unspilt is) ⊎ ((s : Item) × (is_spill s.body ≡ true) × (is ≡ unspilt is ++ s ∷ []))
unfolding spills_cut
cut-shape end [] h = inl refl
cut-shape end (i ∷ []) h = by (is_spill i.body) refl
  where
    by : (b : Bool) → is_spill i.body ≡ b → (i ∷ [] ≡ cond (not b) (i ∷ []) []) ⊎ ((s : Item) × (is_spill s.body ≡ true) × (i ∷ [] ≡ cond (not b) (i ∷ []) [] ++ s ∷ []))
    by true e = inr (i, e, refl)
    by false e = inl refl
cut-shape end (i ∷ j ∷ is) h =
    let parts = and_parts (not (is_spill i.body)) _ h in
    by (is_spill i.body) parts.0 (cut-shape end (j ∷ is) parts.1)
  where
    by : (b : Bool) → not b ≡ true → (j ∷ is ≡ unspilt (j ∷ is)) ⊎ ((s : Item) × (is_spill s.body ≡ true) × (j ∷ is ≡ unspilt (j ∷ is) ++ s ∷ []))
        → (i ∷ j ∷ is ≡ cond (not b) (i ∷ unspilt (j ∷ is)) (unspilt (j ∷ is))) ⊎ ((s : Item) × (is_spill s.body ≡ true) × (i ∷ j ∷ is ≡ cond (not b) (i ∷ unspilt (j ∷ is)) (unspilt (j ∷ is)) ++ s ∷ []))
    by true first h = absurd (cc)
    by false first (inl same) = inl (ap (λ us. i ∷ us) same)
    by false first (inr (s, is_one, split)) = inr (s, is_one, ap (λ us. i ∷ us) split)

-- what is kept and what follows it
pub kept-front : (end : ℕ) (is : List Item) → spills_cut end is ≡ true → (rest : List Item) × (is ≡ unspilt is ++ rest)
kept-front end is h = by (cut-shape end is h)
  where
    by : (is ≡ unspilt is) ⊎ ((s : Item) × (is_spill s.body ≡ true) × (is ≡ unspilt is ++ s ∷ [])) → (rest : List Item) × (is ≡ unspilt is ++ rest)
    by (inl same) = ([], same ∙ sym (append-nil (unspilt is)))
    by (inr (s, is_one, split)) = (s ∷ [], split)

pub spill-no_look : (b : Body) → is_spill b ≡ true → look_of b ≡ None
spill-no_look (body.Look n floor) h = absurd (cc)
spill-no_look b h = refl

spill-no_stim : (b : Body) → is_spill b ≡ true → stim_of b ≡ None
spill-no_stim (body.Stim p n) h = absurd (cc)
spill-no_stim b h = refl

abbrev kept : List Placed → List Placed
kept zs = filter (λ (z : Placed). not (is_spill z.item.body)) zs

kept-append : (xs ys : List Placed) → kept (xs ++ ys) ≡ kept xs ++ kept ys
kept-append xs ys = filter-append (λ (z : Placed). not (is_spill z.item.body)) xs ys

part-on : (lane k : ℕ) (cuts within : Bool) (i : Item) (is : List Item) → is_spill i.body ≡ false
    → ((now : Bool) → kept (part_of_look lane k cuts now is) ≡ part_of_look lane k true now (unspilt is)) → kept (part_of_look lane k cuts within (i ∷ is)) ≡ part_of_look lane k true within (unspilt (i ∷ is))
unfolding part_of_look
part-on lane k cuts within i is e later =
    let now = belongs k cuts within i.body in
    kept-append (cond now (placed lane i ∷ []) []) (part_of_look lane k cuts now is)
    ∙ ap (λ us. us ++ kept (part_of_look lane k cuts now is)) (own now)
    ∙ ap (λ us. cond now (placed lane i ∷ []) [] ++ us) (later now)
    ∙ ap (λ b. cond b (placed lane i ∷ []) [] ++ part_of_look lane k true b (unspilt is)) (same (stim_of i.body) (is_spill i.body) e)
    ∙ sym (ap (λ us. part_of_look lane k true within us) whole)
  where
    whole : unspilt (i ∷ is) ≡ i ∷ unspilt is
    whole = rw e refl

    own : (b : Bool) → kept (cond b (placed lane i ∷ []) []) ≡ cond b (placed lane i ∷ []) []
    own true = rw e refl
    own false = refl

    or-true : (c : Bool) → (c || true) ≡ true
    or-true true = refl
    or-true false = refl

    same : (o : Option (ℕ × ℕ)) (b : Bool) → b ≡ false → option_map_or (λ s. s.1 == k) o (within && (cuts || not b)) ≡ option_map_or (λ s. s.1 == k) o (within && (true || not b))
    same None b e = rw (e, or-true cuts) refl
    same (Some s) b e = refl

part-kept : (lane k end : ℕ) (cuts within : Bool) (is : List Item) → spills_cut end is ≡ true → kept (part_of_look lane k cuts within is) ≡ part_of_look lane k true within (unspilt is)
unfolding part_of_look spills_cut
part-kept lane k end cuts within [] h = refl
part-kept lane k end cuts within (i ∷ []) h = by (is_spill i.body) refl
  where
    out : (now : Bool) → is_spill i.body ≡ true → kept (cond now (placed lane i ∷ []) [] ++ []) ≡ []
    out true e = rw e refl
    out false e = refl

    by : (b : Bool) → is_spill i.body ≡ b → kept (part_of_look lane k cuts within (i ∷ [])) ≡ part_of_look lane k true within (unspilt (i ∷ []))
    by true e = let none : unspilt (i ∷ []) ≡ [] = rw e refl in out (belongs k cuts within i.body) e ∙ sym (ap (λ us. part_of_look lane k true within us) none)
    by false e = part-on lane k cuts within i [] e (λ now. refl)
part-kept lane k end cuts within (i ∷ j ∷ is) h =
    let parts = and_parts (not (is_spill i.body)) _ h in
    part-on lane k cuts within i (j ∷ is) (by (is_spill i.body) parts.0) (λ now. part-kept lane k end cuts now (j ∷ is) parts.1)
  where
    by : (b : Bool) → not b ≡ true → b ≡ false
    by true h = absurd (cc)
    by false h = refl

parts-kept : (lane k end : ℕ) (cuts : Bool) (ls : List (List Item)) → AllByRecursion (λ l. spills_cut end l ≡ true) ls → kept (parts_of_look lane k cuts ls) ≡ parts_of_look lane k true (map (λ lane. unspilt lane) ls)
unfolding parts_of_look
parts-kept lane k end cuts [] h = refl
parts-kept lane k end cuts (l ∷ ls) h =
    kept-append (part_of_look lane k cuts false l) (parts_of_look (lane + 1) k cuts ls)
    ∙ (λ n. part-kept lane k end cuts false l h.0 n ++ parts-kept (lane + 1) k end cuts ls h.1 n)

order-kept : (end : ℕ) (cuts : Bool) (sources : List (List Item)) (lane0 : List Item) → AllByRecursion (λ l. spills_cut end l ≡ true) sources
    → kept (with_stimuli cuts sources lane0) ≡ with_stimuli true (map (λ lane. unspilt lane) sources) (unspilt lane0)
unfolding with_stimuli
order-kept end cuts sources [] h = refl
order-kept end cuts sources (i ∷ is) h = by (is_spill i.body) refl (order-kept end cuts sources is h)
  where
    own : Option (ℕ × ℕ) → Bool → List (List Item) → List Placed
    own o cuts ls = option_map_or (λ (l : ℕ × ℕ). parts_of_look 1 l.0 cuts ls) o []

    parts : (o : Option (ℕ × ℕ)) → kept (own o cuts sources) ≡ own o true (map (λ lane. unspilt lane) sources)
    parts None = refl
    parts (Some l) = parts-kept 1 l.0 end cuts sources h

    by : (b : Bool) → is_spill i.body ≡ b → kept (with_stimuli cuts sources is) ≡ with_stimuli true (map (λ lane. unspilt lane) sources) (unspilt is)
        → cond (not b) (placed 0 i ∷ kept (own (look_of i.body) cuts sources ++ with_stimuli cuts sources is)) (kept (own (look_of i.body) cuts sources ++ with_stimuli cuts sources is))
        ≡ with_stimuli true (map (λ lane. unspilt lane) sources) (cond (not b) (i ∷ unspilt is) (unspilt is))
    by true e later = ap (λ (o : Option (ℕ × ℕ)). kept (own o cuts sources ++ with_stimuli cuts sources is)) (spill-no_look i.body e) ∙ later
    by false e later =
        ap (λ us. placed 0 i ∷ us) (kept-append (own (look_of i.body) cuts sources) (with_stimuli cuts sources is) ∙ (λ n. parts (look_of i.body) n ++ later n))

spills-kept : (lane : ℕ) (ls : List (List Item)) → kept (spills_from lane ls) ≡ []
unfolding spills_from
spills-kept lane [] = refl
spills-kept lane (l ∷ ls) =
    kept-append (map (placed lane) (filter (λ i. is_spill i.body) l)) (spills_from (lane + 1) ls)
    ∙ ap (λ us. us ++ kept (spills_from (lane + 1) ls)) (own l) ∙ spills-kept (lane + 1) ls
  where
    own : (is : List Item) → kept (map (placed lane) (filter (λ i. is_spill i.body) is)) ≡ []
    own [] = refl
    own (i ∷ is) = by (is_spill i.body) refl (own is)
      where
        by : (b : Bool) → is_spill i.body ≡ b → kept (map (placed lane) (filter (λ i. is_spill i.body) is)) ≡ []
            → kept (map (placed lane) (cond b (i ∷ filter (λ i. is_spill i.body) is) (filter (λ i. is_spill i.body) is))) ≡ []
        by true e h = rw e h
        by false e h = h

-- where nothing follows a `spill`, it stands last
ends-kept : (zs : List Placed) → ends_last (items_placed zs) ≡ true → zs ≡ kept zs ++ filter (λ (z : Placed). is_spill z.item.body) zs
unfolding ends_last
ends-kept [] h = refl
ends-kept (z ∷ []) h = by (is_spill z.item.body)
  where
    by : (b : Bool) → z ∷ [] ≡ cond (not b) (z ∷ []) [] ++ cond b (z ∷ []) []
    by true = refl
    by false = refl
ends-kept (z ∷ w ∷ zs) h =
    let parts = and_parts (not (is_end z.item.body)) _ h in
    by (is_spill z.item.body) (no-spill (is_assert z.item.body) (is_spent z.item.body) (is_spill z.item.body) parts.0) (ends-kept (w ∷ zs) parts.1)
  where
    by : (b : Bool) → b ≡ false → w ∷ zs ≡ kept (w ∷ zs) ++ filter (λ (z : Placed). is_spill z.item.body) (w ∷ zs)
        → z ∷ w ∷ zs ≡ cond (not b) (z ∷ kept (w ∷ zs)) (kept (w ∷ zs)) ++ cond b (z ∷ filter (λ (z : Placed). is_spill z.item.body) (w ∷ zs)) (filter (λ (z : Placed). is_spill z.item.body) (w ∷ zs))
    by true e later = absurd (cc)
    by false e later = ap (λ us. z ∷ us) later

-- a `spill` is no stimulus
turns-of : (lane n : ℕ) (is : List Item) → filter_map (lane_turn lane n) (unspilt is) ≡ filter_map (lane_turn lane n) is
turns-of lane n [] = refl
turns-of lane n (i ∷ is) = by (is_spill i.body) refl (turns-of lane n is)
  where
    by : (b : Bool) → is_spill i.body ≡ b → filter_map (lane_turn lane n) (unspilt is) ≡ filter_map (lane_turn lane n) is
        → filter_map (lane_turn lane n) (cond (not b) (i ∷ unspilt is) (unspilt is)) ≡ cons_option (lane_turn lane n i) (filter_map (lane_turn lane n) is)
    by false e h = ap (λ us. cons_option (lane_turn lane n i) us) h
    by true e h =
        let none : lane_turn lane n i ≡ None = ap (λ (o : Option (ℕ × ℕ)). option_map_or (turn_if lane n) o None) (spill-no_stim i.body e) in
        h ∙ sym (ap (λ o. cons_option o (filter_map (lane_turn lane n) is)) none)

pub turns-kept : (lane n : ℕ) (ls : List (List Item)) → turns_at lane n (map (λ lane. unspilt lane) ls) ≡ turns_at lane n ls
unfolding turns_at
turns-kept lane n [] = refl
turns-kept lane n (l ∷ ls) = λ k. turns-of lane n l k ++ turns-kept (lane + 1) n ls k

pub drop-at : (xs : List (List Rec)) (n : ℕ) (r : List Rec) (rs : List (List Rec)) → drop n xs ≡ r ∷ rs → (unwrap_or (slice_get xs n) [] ≡ r) × (drop (n + 1) xs ≡ rs)
drop-at [] zero r rs h = absurd (cc)
drop-at [] (suc n) r rs h = absurd (cc)
drop-at (x ∷ xs) zero r rs h = let first : x ≡ r = cc in let rest : xs ≡ rs = cc in (first, rest)
drop-at (x ∷ xs) (suc n) r rs h =
    let later = drop-at xs n r rs h in
    let next : suc n + 1 ≡ suc (n + 1) = omega arith in
    (later.0, ap (λ k. drop k (x ∷ xs)) next ∙ later.1)

-- in each source's lane a `spill` stands last
sources-cut : (sys : System) (j : Journal) (n : ℕ) (sss : List (List Stim)) (recs : List (List Rec)) → drop n j.lanes ≡ recs → length recs ≡ length sss → SourceLanes sys j n sss
    → AllByRecursion (λ l. spills_cut j.end l ≡ true) (map (λ lane. lane_items lane) recs)
unfolding SourceLanes
sources-cut sys j n [] [] at size lanes = tt
sources-cut sys j n [] (r ∷ recs) at size lanes = absurd (let no : suc (length recs) ≡ 0 = size in omega (arith, no))
sources-cut sys j n (ss ∷ sss) [] at size lanes = absurd (let no : 0 ≡ suc (length sss) = size in omega (arith, no))
sources-cut sys j n (ss ∷ sss) (r ∷ recs) at size lanes =
    let fewer : suc (length recs) ≡ suc (length sss) = size in
    let here = drop-at j.lanes n r recs at in (
      subst (λ l. spills_cut j.end (lane_items l) ≡ true) here.0 lanes.0.spills,
      sources-cut sys j (n + 1) sss recs here.1 (omega (arith, fewer)) lanes.1,
    )

zero-cut : (j : Journal) (lane : List Item) (settles : ℕ) (o : Option Reading) → reading_holds j lane settles o ≡ true → spills_cut j.end lane ≡ true
zero-cut j lane settles None h = absurd (cc)
zero-cut j lane settles (Some k) h = (and_parts _ _ (and_parts _ _ h).0).1

-- What a lawful journal of a run with one thread is.
pub record Threaded (sys : System) (stimuli : List (List Stim)) (j : Journal) : Type 0 where
  pub first : List Rec
  pub others : List (List Rec)
  pub lanes : j.lanes ≡ first ∷ others
  pub size : length others ≡ length stimuli
  pub zero_is : lane_at j 0 ≡ first
  pub sources_are : source_lanes sys j ≡ map (λ lane. lane_items lane) others
  pub zero_cut : spills_cut j.end (lane_items (lane_at j 0)) ≡ true
  pub sources_cut : AllByRecursion (λ l. spills_cut j.end l ≡ true) (source_lanes sys j)
  pub kernel : KernelHolds sys j
  pub cuts : Bool
  pub ordered : IsOneOrder (one_thread sys stimuli j cuts)

-- its lanes without a `spill`
abbrev pub kept_zero : Journal → List Item
kept_zero j = unspilt (lane_items (lane_at j 0))

abbrev pub kept_sources : System → Journal → List (List Item)
kept_sources sys j = map (λ lane. unspilt lane) (source_lanes sys j)

-- a lane ended with a `spill`
abbrev pub has_spilt : System → Journal → Bool
has_spilt sys j = spills_in (lane_items (lane_at j 0)) || list_any spills_in (source_lanes sys j)

module _ (sys : System) (stimuli : List (List Stim)) (j : Journal) (law : Lawful sys stimuli j) {kernel : ℕ} (single : HasKernel kernel j) where
  pub threaded : Threaded sys stimuli j
  unfolding source_lanes
  threaded =
      let no_port : (j.kernel == port) ≡ false = no-port single in
      let before : lanes_before sys j ≡ 1 = rw no_port refl in
      let count : (length j.lanes == lanes_before sys j + length stimuli) ≡ true = law.sources.count in
      let size : length j.lanes ≡ 1 + length stimuli = subst (λ n. length j.lanes ≡ n + length stimuli) before (grind (arith, nat_tests)) in
      let split = lanes-split j.lanes (length stimuli) size in
      let one : has_one_order j.kernel ≡ true = ap has_one_order single.is ∙ single.one in
      let held = subst (λ b. MatchBool b (OrderHolds sys stimuli j) ⊤) one law.sources.order in
      let opened = held-open sys stimuli j held in
      let kernel : KernelHolds sys j = subst (λ b. MatchBool b ⊤ (KernelHolds sys j)) no_port law.kernel in
      let are : source_lanes sys j ≡ map (λ lane. lane_items lane) split.1 =
      ap (λ (x : List (List Rec)). map (λ lane. lane_items lane) (drop (lanes_before sys j) x)) split.2 ∙ ap (λ n. map (λ lane. lane_items lane) (drop n (split.0 ∷ split.1))) before in
      record {
        first = split.0;
        others = split.1;
        lanes = split.2;
        size = split.3;
        zero_is = ap (λ (x : List (List Rec)). unwrap_or (slice_get x 0) []) split.2;
        sources_are = are;
        zero_cut = zero-cut j (lane_items (lane_at j 0)) _ _ kernel.lane;
        sources_cut = subst (AllByRecursion (λ l. spills_cut j.end l ≡ true)) (sym are)
            (sources-cut sys j 1 stimuli split.1 (ap (drop 1) split.2) split.3 (subst (λ n. SourceLanes sys j n stimuli) before law.sources.lanes));
        kernel = kernel;
        cuts = opened.0;
        ordered = opened.1;
      }

module _ (sys : System) (stimuli : List (List Stim)) (j : Journal) (t : Threaded sys stimuli j) where
  pub all-split : all_items j.lanes ≡ lane_items t.first ++ all_items t.others
  unfolding all_items
  all-split = ap all_items t.lanes

  pub lane0-is : lane_items (lane_at j 0) ≡ lane_items t.first
  lane0-is = ap lane_items t.zero_is

  pub raw-zero : (P : Item → Type 0) → AllByRecursion P (all_items j.lanes) → AllByRecursion P (lane_items (lane_at j 0))
  raw-zero P h = subst (AllByRecursion P) (sym lane0-is) (every-parts P (lane_items t.first) (all_items t.others) (subst (AllByRecursion P) all-split h)).0

  pub raw-sources : (P : Item → Type 0) → AllByRecursion P (all_items j.lanes) → AllByRecursion (λ l. AllByRecursion P l) (source_lanes sys j)
  raw-sources P h =
      subst (AllByRecursion (λ l. AllByRecursion P l)) (sym t.sources_are) (each-lane P t.others (every-parts P (lane_items t.first) (all_items t.others) (subst (AllByRecursion P) all-split h)).1)

  -- each record of the order is one of the lanes
  pub inside : (P : Item → Type 0) → AllByRecursion P (all_items j.lanes) → AllByRecursion P (items_placed (unspilt_order sys j))
  unfolding unspilt_order
  inside P h = order-all P true (kept_sources sys j) (kept_zero j) (kept-each P (lane_items (lane_at j 0)) (raw-zero P h)) (lanes-kept P (source_lanes sys j) (raw-sources P h))

  -- the law book's order, and what of it isn't in this one
  abbrev law_order : List Placed
  law_order = order t.cuts (lane_items (lane_at j 0)) (source_lanes sys j)

  abbrev last_spill : List Placed
  last_spill = filter (λ (z : Placed). is_spill z.item.body) law_order

  order-is : law_order ≡ unspilt_order sys j ++ last_spill
  unfolding order unspilt_order one_thread
  order-is =
      ends-kept law_order t.ordered.ends
      ∙ ap (λ us. us ++ last_spill)
      (kept-append (with_stimuli t.cuts (source_lanes sys j) (lane_items (lane_at j 0))) (cond t.cuts [] (spills_from 1 (source_lanes sys j)))
      ∙ ap (λ us. kept (with_stimuli t.cuts (source_lanes sys j) (lane_items (lane_at j 0))) ++ us) (by t.cuts) ∙ append-nil _
      ∙ order-kept j.end t.cuts (source_lanes sys j) (lane_items (lane_at j 0)) t.sources_cut)
    where
      by : (b : Bool) → kept (cond b [] (spills_from 1 (source_lanes sys j))) ≡ []
      by true = refl
      by false = spills-kept 1 (source_lanes sys j)

  pub in-order : in_order [] (items_placed (unspilt_order sys j)) ≡ true
  unfolding one_thread
  in-order =
      in_order-front [] (items_placed (unspilt_order sys j)) (items_placed last_spill)
      (subst (λ xs. in_order [] xs ≡ true) (ap items_placed order-is ∙ map-append (λ (z : Placed). z.item) (unspilt_order sys j) last_spill) t.ordered.numbers)

  pub ends-run : (xs : List Placed) (x : Placed) (ys : List Placed) → unspilt_order sys j ≡ xs ++ x ∷ ys → list_any (λ (z : Placed). is_end z.item.body) xs ≡ false
  unfolding one_thread
  ends-run xs x ys is =
      let here : law_order ≡ xs ++ x ∷ (ys ++ last_spill) = order-is ∙ ap (λ us. us ++ last_spill) is ∙ append_assoc xs (x ∷ ys) last_spill in
      let split : items_placed law_order ≡ items_placed xs ++ x.item ∷ items_placed (ys ++ last_spill) = ap items_placed here ∙ map-append (λ (z : Placed). z.item) xs (x ∷ (ys ++ last_spill)) in
      sym (any-placed xs) ∙ ends-before (items_placed xs) x.item (items_placed (ys ++ last_spill)) (subst (λ zs. ends_last zs ≡ true) split t.ordered.ends)

  -- a look has the stimulus that acts in it, or none; then a lane ended with a `spill`, and no look follows
  pub turn-at : (xs : List Placed) (n floor : ℕ) (ys : List Placed) → unspilt_order sys j ≡ xs ++ placed 0 (look_item n floor) ∷ ys
      → (is_turn (acts_next sys stimuli xs (floor == 0)) (turns_at 1 n (kept_sources sys j)) ≡ true)
      ⊎ ((has_spilt sys j ≡ true) × (no_look ys ≡ true) × (turns_at 1 n (kept_sources sys j) ≡ []))
  unfolding one_thread look_right
  turn-at xs n floor ys is =
      let here : law_order ≡ xs ++ placed 0 (look_item n floor) ∷ (ys ++ last_spill) = order-is ∙ ap (λ us. us ++ last_spill) is ∙ append_assoc xs (placed 0 (look_item n floor) ∷ ys) last_spill in
      let whole = subst (λ zs. looks_right (one_thread sys stimuli j t.cuts) [] zs ≡ true) here t.ordered.turns in
      by (is_turn (acts_next sys stimuli xs (floor == 0)) (turns_at 1 n (source_lanes sys j))) (has_spilt sys j) (no_look (ys ++ last_spill)) (is_free (one_thread sys stimuli j t.cuts) n)
      refl refl refl refl (looks-at (one_thread sys stimuli j t.cuts) [] xs (placed 0 (look_item n floor)) (ys ++ last_spill) whole)
    where
      by : (b c d e : Bool) → is_turn (acts_next sys stimuli xs (floor == 0)) (turns_at 1 n (source_lanes sys j)) ≡ b → has_spilt sys j ≡ c → no_look (ys ++ last_spill) ≡ d
          → is_turn None (turns_at 1 n (source_lanes sys j)) ≡ e → (b || (c && d && e)) ≡ true
          → (is_turn (acts_next sys stimuli xs (floor == 0)) (turns_at 1 n (kept_sources sys j)) ≡ true)
          ⊎ ((has_spilt sys j ≡ true) × (no_look ys ≡ true) × (turns_at 1 n (kept_sources sys j) ≡ []))
      by true c d e right spilt last free h = inl (ap (λ ts. is_turn (acts_next sys stimuli xs (floor == 0)) ts) (turns-kept 1 n (source_lanes sys j)) ∙ right)
      by false true true true right spilt last free h =
          inr (spilt, list_all-front (λ (x : Placed). not (is_some (look_of x.item.body))) ys last_spill last, turns-kept 1 n (source_lanes sys j) ∙ turns-none _ free)
      by false false d e right spilt last free h = absurd (cc)
      by false true false e right spilt last free h = absurd (cc)
      by false true true false right spilt last free h = absurd (cc)
