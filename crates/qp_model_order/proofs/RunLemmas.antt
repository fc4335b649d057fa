-- The order of a run, look by look.
use Rattle.std.proofs.Common.{◌≡◌, ℕ, suc, ◌+◌, ◌<◌, ◌≤◌, ◌==◌, nat_le, Bool, true, false, not, ◌&&◌, ◌||◌, cond, List, [], ◌∷◌, ◌++◌, length, refl, sym, ◌∙◌, ap, subst, arith, Option, Some, None, append_assoc, append-nil}
use Rattle.std.specs.List.{list_any, filter, AllByRecursion}
use Rattle.std.specs.Option.{option_map_or}
use Rattle.std.proofs.lemmas.Bool.{and_from, or_parts}
use Rattle.std.proofs.lemmas.List.{map-append}
use Rattle.std.proofs.lemmas.List.Elements.{filter_map-append, filter-append}
use Rattle.std.proofs.lemmas.List.Folds.{list_any-append}
use Rattle.std.proofs.lemmas.Bool.Decides.{nat_tests}
use Rattle.qp_chart.specs.StateTree.{has}
use Rattle.qp_model.specs.declared.stimulus.Stim.{Stim}
use Rattle.qp_model.specs.declared.systems.System.{System}
use Rattle.qp_model.specs.Record.{Item}
use Rattle.qp_model.specs.Ends.{is_spill, is_end, ends_last, spills_in}
use Rattle.qp_model.specs.OneOrder.{Placed, OneThread, is_stim_at, look_of, part_of_look, parts_of_look, with_stimuli, spills_from, order, turns_at, acts_next, is_turn, look_right, looks_right, stims_placed, look_numbers, last_is_free, is_free, items_placed}
use Rattle.qp_model_order.specs.RunOrder.{placed, has_stim, is_right, all_right, stims_up_to, thread_of, RunsInOrder, EndsInOrder}
use Rattle.qp_model_order.proofs.CalmLemmas.{calm-ends_last}
use Rattle.qp_model_order.specs.Placing.{LooksNone, AreBehind, all_placed, stim_item, look_item, spill_item}
use Rattle.qp_model_order.proofs.MergeLemmas.{within_after, part-append, parts-split, stimuli-append, stimuli-none, parts-none, stimulus-merged}
use Rattle.qp_model_order.proofs.TurnLemmas.{turn_by, turns_in, turns-split, turns-none, turns-own, right-other, right-append, right-none, right-looks}
use Rattle.qp_model_order.proofs.StimLemmas.{any-front, any-both, up_to-more, looks-other, numbers-none, numbers-append, items-placed, stims_pass, stims-more, stims-block, stims-mute, stims-none}
use Rattle.qp_model.proofs.FitsLemmas.{all-append}
use Rattle.qp_model.proofs.ListLemmas.{has-last}

-- nothing has been recorded yet
pub order-new : (sys : System) (stimuli : List (List Stim)) (sources : List (List Item)) → AllByRecursion (λ l. l ≡ []) sources → RunsInOrder sys stimuli 0 [] sources []
unfolding with_stimuli all_right stims_placed
order-new sys stimuli sources empty = record {
  merged = λ cuts. refl;
  turns = refl;
  counted = refl;
  seen = refl;
  stims = pass (λ k. nat_le k 0) sources empty;
  stand = pass (has []) sources empty;
  calm = refl;
  quiet = none sources empty;
}
  where
    pass : (p : ℕ → Bool) (ls : List (List Item)) → AllByRecursion (λ l. l ≡ []) ls → stims_pass p ls ≡ true
    pass p [] h = refl
    pass p (l ∷ ls) h = rw (h.0, pass p ls h.1) refl

    none : (ls : List (List Item)) → AllByRecursion (λ l. l ≡ []) ls → list_any spills_in ls ≡ false
    none [] h = refl
    none (l ∷ ls) h = rw (h.0, none ls h.1) refl

no-spill_placed : (lane : ℕ) (is : List Item) → spills_in is ≡ false → all_placed lane (filter (λ i. is_spill i.body) is) ≡ []
no-spill_placed lane [] h = refl
no-spill_placed lane (i ∷ is) h = let parts = or_parts (is_spill i.body) (spills_in is) h in rw parts.0 (no-spill_placed lane is parts.1)

-- where no `spill` stands none is put at the end
pub spills-none : (lane : ℕ) (sources : List (List Item)) → list_any spills_in sources ≡ false → spills_from lane sources ≡ []
unfolding spills_from
spills-none lane [] h = refl
spills-none lane (l ∷ ls) h =
    let parts = or_parts (spills_in l) (list_any spills_in ls) h in
    rw (no-spill_placed lane l parts.0, spills-none (lane + 1) ls parts.1) refl

spill-part : (lane k : ℕ) (l : List Item) (size : ℕ) → part_of_look lane k false false (l ++ spill_item size ∷ []) ≡ part_of_look lane k false false l
unfolding part_of_look
spill-part lane k l size = part-append lane k false false l (spill_item size ∷ []) ∙ ap (λ x. part_of_look lane k false false l ++ x) (alone (within_after k false false l)) ∙ append-nil (part_of_look lane k false false l)
  where
    alone : (b : Bool) → cond (b && false) (placed lane (spill_item size) ∷ []) [] ++ [] ≡ []
    alone true = refl
    alone false = refl

-- a `spill` that cuts no stimulus is taken into no look
spill-parts : (k : ℕ) (front : List (List Item)) (l : List Item) (back : List (List Item)) (size : ℕ)
    → parts_of_look 1 k false (front ++ (l ++ spill_item size ∷ []) ∷ back) ≡ parts_of_look 1 k false (front ++ l ∷ back)
spill-parts k front l back size =
    parts-split 1 k false front (l ++ spill_item size ∷ []) back ∙ rw (spill-part (1 + length front) k l size) (sym (parts-split 1 k false front l back))

spill-merged : (front : List (List Item)) (l : List Item) (back : List (List Item)) (size : ℕ) (lane0 : List Item)
    → with_stimuli false (front ++ (l ++ spill_item size ∷ []) ∷ back) lane0 ≡ with_stimuli false (front ++ l ∷ back) lane0
unfolding with_stimuli
spill-merged front l back size [] = refl
spill-merged front l back size (j ∷ js) = rw (spill-merged front l back size js) (ap (λ ps. placed 0 j ∷ ps ++ with_stimuli false (front ++ l ∷ back) js) (by (look_of j.body)))
  where
    by : (o : Option (ℕ × ℕ)) → option_map_or (λ x. parts_of_look 1 x.0 false (front ++ (l ++ spill_item size ∷ []) ∷ back)) o [] ≡ option_map_or (λ x. parts_of_look 1 x.0 false (front ++ l ∷ back)) o []
    by None = refl
    by (Some x) = spill-parts x.0 front l back size

spill-turns : (k : ℕ) (front : List (List Item)) (l : List Item) (back : List (List Item)) (size : ℕ)
    → turns_at 1 k (front ++ (l ++ spill_item size ∷ []) ∷ back) ≡ turns_at 1 k (front ++ l ∷ back)
spill-turns k front l back size =
    turns-split 1 k front (l ++ spill_item size ∷ []) back
    ∙ rw (filter_map-append (turn_by (1 + length front) k) l (spill_item size ∷ []), append-nil (turns_in (1 + length front) k l)) (sym (turns-split 1 k front l back))

spill-right : (sys : System) (stimuli : List (List Stim)) (front : List (List Item)) (l : List Item) (back : List (List Item)) (size : ℕ) (before xs : List Placed)
    → all_right sys stimuli (front ++ (l ++ spill_item size ∷ []) ∷ back) before xs ≡ all_right sys stimuli (front ++ l ∷ back) before xs
unfolding all_right
spill-right sys stimuli front l back size before [] = refl
spill-right sys stimuli front l back size before (x ∷ xs) = rw (spill-right sys stimuli front l back size (before ++ x ∷ []) xs, by (look_of x.item.body)) refl
  where
    by : (o : Option (ℕ × ℕ)) → is_right sys stimuli (front ++ (l ++ spill_item size ∷ []) ∷ back) before o ≡ is_right sys stimuli (front ++ l ∷ back) before o
    by None = refl
    by (Some y) = ap (λ ts. is_turn (acts_next sys stimuli before (y.1 == 0)) ts) (spill-turns y.0 front l back size)

spill-any : (front : List (List Item)) (l : List Item) (back : List (List Item)) (size : ℕ) → list_any spills_in (front ++ (l ++ spill_item size ∷ []) ∷ back) ≡ true
spill-any front l back size =
    list_any-append spills_in front ((l ++ spill_item size ∷ []) ∷ back)
    ∙ rw (list_any-append (λ i. is_spill i.body) l (spill_item size ∷ [])) (all (list_any spills_in front) (list_any (λ i. is_spill i.body) l))
  where
    all : (a b : Bool) → (a || ((b || true) || list_any spills_in back)) ≡ true
    all true b = refl
    all false true = refl
    all false false = refl

-- it is put at the end
spills-one : (lane : ℕ) (front : List (List Item)) (l : List Item) (back : List (List Item)) (size : ℕ) → list_any spills_in (front ++ l ∷ back) ≡ false
    → spills_from lane (front ++ (l ++ spill_item size ∷ []) ∷ back) ≡ placed (lane + length front) (spill_item size) ∷ []
unfolding spills_from
spills-one lane [] l back size h =
    let parts = or_parts (spills_in l) (list_any spills_in back) h in
    let zero_more : lane + 0 ≡ lane = omega arith in
    rw (filter-append (λ i. is_spill i.body) l (spill_item size ∷ []), spills-none (lane + 1) back parts.1, zero_more)
    (ap (λ x. x ++ []) (map-append (placed lane) (filter (λ i. is_spill i.body) l) (spill_item size ∷ []) ∙ ap (λ x. x ++ placed lane (spill_item size) ∷ []) (no-spill_placed lane l parts.0)))
spills-one lane (f ∷ front) l back size h =
    let parts = or_parts (spills_in f) (list_any spills_in (front ++ l ∷ back)) h in
    let next : lane + suc (length front) ≡ (lane + 1) + length front = omega arith in
    rw (no-spill_placed lane f parts.0, next) (spills-one (lane + 1) front l back size parts.1)

-- the last look
last-free : (r : OneThread) (ns : List ℕ) (n : ℕ) → last_is_free r (ns ++ n ∷ []) ≡ is_free r n
unfolding last_is_free
last-free r [] n = refl
last-free r (m ∷ []) n = refl
last-free r (m ∷ k ∷ ns) n = last-free r (k ∷ ns) n

has-more : (ns ms : List ℕ) (k : ℕ) → has ns k ≡ true → has (ns ++ ms) k ≡ true
has-more ns ms k h = list_any-append (λ y. y == k) ns ms ∙ rw h refl

-- where no `spill` may cut a stimulus, none stands in it
pub behind-any : (cuts : Bool) (g : List Item) → AreBehind false g → AreBehind cuts g
behind-any cuts [] h = tt
behind-any cuts (i ∷ is) h = (h.0, or-any cuts (not (is_spill i.body)) h.1, behind-any cuts is h.2)
  where
    or-any : (a b : Bool) → b ≡ true → (a || b) ≡ true
    or-any true b h = refl
    or-any false b h = h

spill-none : (g : List Item) → AreBehind false g → spills_in g ≡ false
spill-none [] h = refl
spill-none (i ∷ is) h = rw (not-true (is_spill i.body) h.1, spill-none is h.2) refl
  where
    not-true : (b : Bool) → not b ≡ true → b ≡ false
    not-true true h = absurd (cc)
    not-true false h = refl

module _ (sys : System) (stimuli : List (List Stim)) (looks : ℕ) (lane0 : List Item) (sources : List (List Item)) (xs : List Placed) (old : RunsInOrder sys stimuli looks lane0 sources xs) where
  items-more : (lane : ℕ) (is : List Item) → items_placed (xs ++ all_placed lane is) ≡ items_placed xs ++ is
  items-more lane is = map-append (λ x. x.item) xs (all_placed lane is) ∙ ap (λ js. items_placed xs ++ js) (items-placed lane is)

  stand-more : (more : List Item) → stims_pass (has (look_numbers lane0)) sources ≡ true → stims_pass (has (look_numbers (lane0 ++ more))) sources ≡ true
  stand-more more h =
      stims-more (has (look_numbers lane0)) (has (look_numbers (lane0 ++ more))) sources
      (λ k is. rw (numbers-append lane0 more) (has-more (look_numbers lane0) (look_numbers more) k is)) h

  -- Records of lane 0 come that are no looks.
  pub order-zero : (is : List Item) → LooksNone is → list_any (λ i. is_end i.body) is ≡ false → RunsInOrder sys stimuli looks (lane0 ++ is) sources (xs ++ all_placed 0 is)
  unfolding stims_placed
  order-zero is none calm = record {
    merged = λ cuts. stimuli-append cuts sources lane0 is ∙ rw (old.merged cuts, stimuli-none cuts sources is none) refl;
    turns = right-append sys stimuli sources [] xs (all_placed 0 is) ∙ rw (old.turns, right-none sys stimuli sources xs 0 is none) refl;
    counted = rw (numbers-append lane0 is, numbers-none is none, append-nil (look_numbers lane0)) old.counted;
    seen = rw (items-more 0 is, numbers-append (items_placed xs) is, numbers-none is none, append-nil (look_numbers (items_placed xs))) old.seen;
    stims = old.stims;
    stand = stand-more is old.stand;
    calm = rw (items-more 0 is) (any-both (λ i. is_end i.body) (items_placed xs) is old.calm calm);
    quiet = old.quiet;
  }

  -- A look comes in which no source may act.
  pub order-look : (n floor : ℕ) → n ≡ looks + 1 → acts_next sys stimuli xs (floor == 0) ≡ None → RunsInOrder sys stimuli n (lane0 ++ look_item n floor ∷ []) sources (xs ++ placed 0 (look_item n floor) ∷ [])
  unfolding with_stimuli all_right stims_placed
  order-look n floor next nobody =
      let later : looks < n = omega (arith, next) in
      let most : looks ≤ n = omega (arith, next) in
      let free : has_stim sources n ≡ false = stims-none looks n sources later old.stims in
      let own : nat_le n n ≡ true = grind (arith, nat_tests) in
      record {
        merged = λ cuts. stimuli-append cuts sources lane0 (look_item n floor ∷ []) ∙ rw (old.merged cuts, parts-none 1 n cuts sources free) refl;
        turns = right-append sys stimuli sources [] xs (placed 0 (look_item n floor) ∷ []) ∙ rw (old.turns, nobody, turns-none 1 n sources free) refl;
        counted = rw (numbers-append lane0 (look_item n floor ∷ [])) (all-append (λ k. nat_le k n) (look_numbers lane0) (n ∷ []) (up_to-more looks n (look_numbers lane0) most old.counted) (and_from _ _ own refl));
        seen =
            rw (map-append (λ x. x.item) xs (placed 0 (look_item n floor) ∷ []), numbers-append (items_placed xs) (look_item n floor ∷ []))
            (all-append (λ k. nat_le k n) (look_numbers (items_placed xs)) (n ∷ []) (up_to-more looks n (look_numbers (items_placed xs)) most old.seen) (and_from _ _ own refl));
        stims = stims-more (λ k. nat_le k looks) (λ k. nat_le k n) sources (λ k h. let few : nat_le k looks ≡ true = h in grind (arith, nat_tests, few, most)) old.stims;
        stand = stand-more (look_item n floor ∷ []) old.stand;
        calm = rw (map-append (λ x. x.item) xs (placed 0 (look_item n floor) ∷ [])) (any-both (λ i. is_end i.body) (items_placed xs) (look_item n floor ∷ []) old.calm refl);
        quiet = old.quiet;
      }

  -- A look comes with the stimulus of the source that acts: its `stim` and its records, which end no lane.
  module _ (front : List (List Item)) (l : List Item) (back : List (List Item)) (are : sources ≡ front ++ l ∷ back) (n floor p : ℕ) (next : n ≡ looks + 1)
      (acts : acts_next sys stimuli xs (floor == 0) ≡ Some (record { source = 1 + length front; place = p })) (g : List Item) (lookless : LooksNone g) where
    abbrev pub with_stimulus : List (List Item)
    with_stimulus = front ++ (l ++ stim_item p n ∷ g) ∷ back

    abbrev pub with_look : List Placed
    with_look = xs ++ placed 0 (look_item n floor) ∷ all_placed (1 + length front) (stim_item p n ∷ g)

    later : looks < n
    later = omega (arith, next)

    stims-are : stims_up_to looks (front ++ l ∷ back) ≡ true
    stims-are = subst (λ x. stims_up_to looks x ≡ true) are old.stims

    none-here : (has_stim front n ≡ false) × (list_any (λ i. is_stim_at n i.body) l ≡ false) × (has_stim back n ≡ false)
    none-here =
        let all = stims-none looks n (front ++ l ∷ back) later stims-are in
        let parts = any-front (λ lane. list_any (λ i. is_stim_at n i.body) lane) front (l ∷ back) all in
        let rest = or_parts (list_any (λ i. is_stim_at n i.body) l) (has_stim back n) parts.1 in
        (parts.0, rest.0, rest.1)

    merged-with : (cuts : Bool) → AreBehind cuts g → with_stimuli cuts with_stimulus (lane0 ++ look_item n floor ∷ []) ≡ with_look
    merged-with cuts behind =
        stimulus-merged cuts front l back p n g behind lane0 floor (looks-other looks n lane0 later old.counted) none-here.0 none-here.1 none-here.2
        ∙ ap (λ ps. ps ++ placed 0 (look_item n floor) ∷ all_placed (1 + length front) (stim_item p n ∷ g)) (ap (λ x. with_stimuli cuts x lane0) (sym are) ∙ old.merged cuts)

    turns-with : (cuts : Bool) → AreBehind cuts g → all_right sys stimuli with_stimulus [] with_look ≡ true
    unfolding all_right
    turns-with cuts behind =
        let before : all_right sys stimuli with_stimulus [] xs ≡ true =
        right-other cuts front l back p n g behind sys stimuli [] xs (looks-other looks n (items_placed xs) later old.seen) ∙ ap (λ x. all_right sys stimuli x [] xs) (sym are) ∙ old.turns in
        let self : (1 + length front == 1 + length front) ≡ true = grind (arith, nat_tests) in
        let place : (p == p) ≡ true = grind (arith, nat_tests) in
        let behind_it = right-none sys stimuli with_stimulus (xs ++ placed 0 (look_item n floor) ∷ []) (1 + length front) (stim_item p n ∷ g) (refl, lookless) in
        right-append sys stimuli with_stimulus [] xs (placed 0 (look_item n floor) ∷ all_placed (1 + length front) (stim_item p n ∷ g))
        ∙ rw (before, acts, turns-own cuts front l back p n g behind none-here.0 none-here.1 none-here.2, self, place) behind_it

    items-with : items_placed with_look ≡ items_placed xs ++ look_item n floor ∷ stim_item p n ∷ g
    items-with = map-append (λ x. x.item) xs (placed 0 (look_item n floor) ∷ all_placed (1 + length front) (stim_item p n ∷ g)) ∙ ap (λ js. items_placed xs ++ look_item n floor ∷ js) (items-placed (1 + length front) (stim_item p n ∷ g))

    stand-with : (cuts : Bool) → AreBehind cuts g → stims_pass (has (look_numbers (lane0 ++ look_item n floor ∷ []))) with_stimulus ≡ true
    unfolding stims_placed
    stand-with cuts behind =
        stims-block (has (look_numbers (lane0 ++ look_item n floor ∷ []))) cuts front l back p n g behind
        (rw (numbers-append lane0 (look_item n floor ∷ [])) (has-last (look_numbers lane0) n))
        (subst (λ x. stims_pass (has (look_numbers (lane0 ++ look_item n floor ∷ []))) x ≡ true) are (stand-more (look_item n floor ∷ []) old.stand))

    quiet-block : AreBehind false g → list_any spills_in with_stimulus ≡ false
    quiet-block behind =
        let whole : list_any spills_in (front ++ l ∷ back) ≡ false = subst (λ x. list_any spills_in x ≡ false) are old.quiet in
        let parts = any-front spills_in front (l ∷ back) whole in
        let rest = or_parts (spills_in l) (list_any spills_in back) parts.1 in
        let lane : spills_in (l ++ stim_item p n ∷ g) ≡ false = any-both (λ i. is_spill i.body) l (stim_item p n ∷ g) rest.0 (spill-none g behind) in
        any-both spills_in front ((l ++ stim_item p n ∷ g) ∷ back) parts.0 (rw (lane, rest.1) refl)

    pub order-stimulus : AreBehind false g → list_any (λ i. is_end i.body) g ≡ false → RunsInOrder sys stimuli n (lane0 ++ look_item n floor ∷ []) with_stimulus with_look
    unfolding stims_placed
    order-stimulus behind calm =
        let most : looks ≤ n = omega (arith, next) in
        let own : nat_le n n ≡ true = grind (arith, nat_tests) in
        record {
          merged = λ cuts. merged-with cuts (behind-any cuts g behind);
          turns = turns-with false behind;
          counted = rw (numbers-append lane0 (look_item n floor ∷ [])) (all-append (λ k. nat_le k n) (look_numbers lane0) (n ∷ []) (up_to-more looks n (look_numbers lane0) most old.counted) (and_from _ _ own refl));
          seen =
              rw (items-with, numbers-append (items_placed xs) (look_item n floor ∷ stim_item p n ∷ g), numbers-none g lookless)
              (all-append (λ k. nat_le k n) (look_numbers (items_placed xs)) (n ∷ []) (up_to-more looks n (look_numbers (items_placed xs)) most old.seen) (and_from _ _ own refl));
          stims =
              stims-block (λ k. nat_le k n) false front l back p n g behind own
              (stims-more (λ k. nat_le k looks) (λ k. nat_le k n) (front ++ l ∷ back) (λ k h. let few : nat_le k looks ≡ true = h in grind (arith, nat_tests, few, most)) stims-are);
          stand = stand-with false behind;
          calm = rw items-with (any-both (λ i. is_end i.body) (items_placed xs) (look_item n floor ∷ stim_item p n ∷ g) old.calm calm);
          quiet = quiet-block behind;
        }

    ends-with : ends_last g ≡ true → ends_last (items_placed with_look) ≡ true
    unfolding ends_last
    ends-with ends = rw items-with (calm-ends_last (items_placed xs) (look_item n floor ∷ stim_item p n ∷ g) old.calm (behind g ends))
      where
        behind : (g : List Item) → ends_last g ≡ true → ends_last (look_item n floor ∷ stim_item p n ∷ g) ≡ true
        behind [] h = refl
        behind (i ∷ is) h = h

    looks-with : (cuts : Bool) → AreBehind cuts g → looks_right (thread_of sys stimuli (lane0 ++ look_item n floor ∷ []) with_stimulus cuts) [] with_look ≡ true
    unfolding looks_right
    looks-with cuts behind =
        subst (λ z. looks_right (thread_of sys stimuli (lane0 ++ look_item n floor ∷ []) with_stimulus cuts) [] z ≡ true) (append-nil with_look)
        (right-looks sys stimuli (lane0 ++ look_item n floor ∷ []) with_stimulus cuts [] with_look [] (turns-with cuts behind) refl)

    -- The run ends in a look with its stimulus, by an assertion among its records.
    pub ends-asserted : AreBehind false g → ends_last g ≡ true → EndsInOrder sys stimuli (lane0 ++ look_item n floor ∷ []) with_stimulus false with_look
    unfolding order stims_placed
    ends-asserted behind ends = record {
      merged = rw (merged-with false behind, spills-none 1 with_stimulus (quiet-block behind)) (append-nil with_look);
      stand = stand-with false behind;
      turns = looks-with false behind;
      ends = ends-with ends;
      free = rw (quiet-block behind) refl;
    }

    -- The run ends in a look with its stimulus, which a `spill` cuts.
    pub ends-cut : AreBehind true g → ends_last g ≡ true → EndsInOrder sys stimuli (lane0 ++ look_item n floor ∷ []) with_stimulus true with_look
    unfolding order stims_placed
    ends-cut behind ends = record {
      merged = rw (merged-with true behind) (append-nil with_look);
      stand = stand-with true behind;
      turns = looks-with true behind;
      ends = ends-with ends;
      free = refl;
    }

  -- The run ends by records of lane 0, or with none more.
  pub ends-zero : (is : List Item) → LooksNone is → ends_last is ≡ true → EndsInOrder sys stimuli (lane0 ++ is) sources false (xs ++ all_placed 0 is)
  unfolding order stims_placed looks_right
  ends-zero is none ends = record {
    merged = rw (stimuli-append false sources lane0 is, old.merged false, stimuli-none false sources is none, spills-none 1 sources old.quiet) (append-nil (xs ++ all_placed 0 is));
    stand = stand-more is old.stand;
    turns =
        subst (λ z. looks_right (thread_of sys stimuli (lane0 ++ is) sources false) [] z ≡ true) (append-nil (xs ++ all_placed 0 is))
        (right-looks sys stimuli (lane0 ++ is) sources false [] (xs ++ all_placed 0 is) []
        (right-append sys stimuli sources [] xs (all_placed 0 is) ∙ rw (old.turns, right-none sys stimuli sources xs 0 is none) refl) refl);
    ends = rw (items-more 0 is) (calm-ends_last (items_placed xs) is old.calm ends);
    free = rw old.quiet refl;
  }

  -- The run ends in a look in which a source has no room for its stimulus: its `spill` stands last.
  pub ends-full : (front : List (List Item)) (l : List Item) (back : List (List Item)) (n floor size : ℕ) → sources ≡ front ++ l ∷ back → n ≡ looks + 1
      → EndsInOrder sys stimuli (lane0 ++ look_item n floor ∷ []) (front ++ (l ++ spill_item size ∷ []) ∷ back) false
      (xs ++ placed 0 (look_item n floor) ∷ placed (1 + length front) (spill_item size) ∷ [])
  unfolding order stims_placed looks_right look_right with_stimuli ends_last
  ends-full front l back n floor size are next =
      let later : looks < n = omega (arith, next) in
      let spilled = front ++ (l ++ spill_item size ∷ []) ∷ back in
      let ys = placed 0 (look_item n floor) ∷ placed (1 + length front) (spill_item size) ∷ [] in
      let thread = thread_of sys stimuli (lane0 ++ look_item n floor ∷ []) spilled false in
      let stims_are : stims_up_to looks (front ++ l ∷ back) ≡ true = subst (λ x. stims_up_to looks x ≡ true) are old.stims in
      let quiet : list_any spills_in (front ++ l ∷ back) ≡ false = subst (λ x. list_any spills_in x ≡ false) are old.quiet in
      let free : has_stim spilled n ≡ false = stims-none looks n spilled later (stims-mute (λ k. nat_le k looks) true front l back (spill_item size ∷ []) (refl, refl, tt) stims_are) in
      let none : turns_at 1 n spilled ≡ [] = turns-none 1 n spilled free in
      let before : with_stimuli false spilled lane0 ≡ xs = spill-merged front l back size lane0 ∙ ap (λ x. with_stimuli false x lane0) (sym are) ∙ old.merged false in
      let right : all_right sys stimuli spilled [] xs ≡ true = spill-right sys stimuli front l back size [] xs ∙ ap (λ x. all_right sys stimuli x [] xs) (sym are) ∙ old.turns in
      let any : list_any spills_in spilled ≡ true = spill-any front l back size in
      let either = spill-or (spills_in (lane0 ++ look_item n floor ∷ [])) in
      record {
        merged = rw (stimuli-append false spilled lane0 (look_item n floor ∷ []), before, parts-none 1 n false spilled free, spills-one 1 front l back size quiet) (append_assoc xs (placed 0 (look_item n floor) ∷ []) (placed (1 + length front) (spill_item size) ∷ []));
        stand =
            stims-mute (has (look_numbers (lane0 ++ look_item n floor ∷ []))) true front l back (spill_item size ∷ []) (refl, refl, tt)
            (subst (λ x. stims_pass (has (look_numbers (lane0 ++ look_item n floor ∷ []))) x ≡ true) are (stand-more (look_item n floor ∷ []) old.stand));
        turns =
            right-looks sys stimuli (lane0 ++ look_item n floor ∷ []) spilled false [] xs ys right
            (rw (any, none, either) (or-last (is_turn (acts_next sys stimuli xs (floor == 0)) [])));
        ends =
            rw (map-append (λ x. x.item) xs ys)
            (calm-ends_last (items_placed xs) (look_item n floor ∷ spill_item size ∷ []) old.calm refl);
        free = rw (any, numbers-append lane0 (look_item n floor ∷ []), last-free thread (look_numbers lane0) n, none) refl;
      }
    where
      spill-or : (b : Bool) → (b || true) ≡ true
      spill-or true = refl
      spill-or false = refl

      or-last : (b : Bool) → ((b || (true && true && true)) && true) ≡ true
      or-last true = refl
      or-last false = refl
