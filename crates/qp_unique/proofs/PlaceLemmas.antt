-- Records in one order, lane by lane: their places are a serial order, where each number is that of its word's operations before it.
use Rattle.std.proofs.Common.{◌≡◌, ◌∙◌, ℕ, zero, suc, ◌+◌, ◌<◌, ◌≤◌, ◌==◌, nat_lt, Bool, true, false, ◌&&◌, ◌||◌, cond, List, [], ◌∷◌, ◌++◌, map, length, filter, get_or, set, replicate, Some, refl, sym, ap, subst, arith, append-nil, append_assoc, length-append, get_or-set_same, get_or-set_other, length-set, ⊎_elim}
use Rattle.std.specs.Prelude.{slice_get, IsPermutation}
use Rattle.std.specs.List.{cons_option}
use Rattle.std.specs.Option.{option_map, option_and_then}
use Rattle.std.proofs.lemmas.Bool.{cases_eq, and_parts}
use Rattle.std.proofs.lemmas.Bool.Decides.{nat_tests}
use Rattle.std.proofs.lemmas.List.{map-append}
use Rattle.std.proofs.lemmas.List.Sorted.{IsPermutation-cons, IsPermutation-refl, IsPermutation-sym, IsPermutation-to_front, IsPermutation-trans}
use Rattle.qp_model.specs.declared.record.Rec.{Rec}
use Rattle.qp_model.specs.declared.words.Word.{Word}
use Rattle.qp_model.specs.Record.{Item, item_of}
use Rattle.qp_model.specs.History.{Touch, Draws, Shows, Neither, touch, drawn_on, lane_items, total}
use Rattle.qp_model.specs.OneOrder.{Placed, items_placed}
use Rattle.qp_model.specs.Places.{IsSerial, RecordPlace, in_order, is_next, item_at, items_at, must_precede, places, touch_at, touch_first}
use Rattle.qp_model.proofs.KnowingLemmas.{same_word-is}
use Rattle.qp_replay.specs.Remaining.{record_place}
use Rattle.qp_replay.proofs.OrderLemmas.{irreflexive, taken, taken-all, taken-more, taken-none}
use Rattle.qp_replay.specs.RerunLaws.{placed_at, record_at}
use Rattle.qp_replay.proofs.Along.{get-lane}
use Rattle.qp_unique.proofs.SourceSteps.{lane_in-append}
use Rattle.qp_unique.proofs.Sides.{lane_in}
use Rattle.qp_model.proofs.LineLemmas.{same_number}
use Rattle.qp_model.proofs.HistoryLemmas.{same_word-refl, in_order-at, total-append}
use Rattle.qp_model.proofs.RecordLemmas.{lane-length}

-- the place of a record behind these
abbrev pub place_behind : List Placed → Placed → RecordPlace
place_behind xs z = record_place z.lane (length (lane_in xs z.lane))

-- the places of records, behind others
abbrev pub places_of : List Placed → List Placed → List RecordPlace
places_of xs [] = []
places_of xs (z ∷ zs) = place_behind xs z ∷ places_of (xs ++ z ∷ []) zs

pub places_of-append : (before xs ys : List Placed) → places_of before (xs ++ ys) ≡ places_of before xs ++ places_of (before ++ xs) ys
places_of-append before [] ys = ap (λ zs. places_of zs ys) (sym (append-nil before))
places_of-append before (x ∷ xs) ys =
    ap (λ ps. place_behind before x ∷ ps) (places_of-append (before ++ x ∷ []) xs ys ∙ ap (λ zs. places_of (before ++ x ∷ []) xs ++ places_of zs ys) (append_assoc before (x ∷ []) xs))

-- what stands at a place of them
places_of-at : (before zs : List Placed) (k : ℕ) (x : RecordPlace) → slice_get (places_of before zs) k ≡ Some x
    → (us : List Placed) × (u : Placed) × (vs : List Placed) × (zs ≡ us ++ u ∷ vs) × (x ≡ place_behind (before ++ us) u)
places_of-at before [] k x at = absurd (cc)
places_of-at before (z ∷ zs) zero x at = let same : place_behind before z ≡ x = cc in ([], z, zs, refl, sym same ∙ ap (λ us. place_behind us z) (sym (append-nil before)))
places_of-at before (z ∷ zs) (suc k) x at =
    let more = places_of-at (before ++ z ∷ []) zs k x at in
    (z ∷ more.0, more.1, more.2, ap (λ us. z ∷ us) more.3, more.4 ∙ ap (λ us. place_behind us more.1) (append_assoc before (z ∷ []) more.0))

-- a lane with a record more
lane-one : (xs : List Placed) (z : Placed) (ys : List Placed) → lane_in (xs ++ z ∷ ys) z.lane ≡ lane_in xs z.lane ++ z.item ∷ lane_in ys z.lane
lane-one xs z ys =
    lane_in-append xs (z ∷ ys) z.lane
    ∙ ap (λ b. lane_in xs z.lane ++ map (λ (x : Placed). x.item) (cond b (z ∷ filter (λ x. x.lane == z.lane) ys) (filter (λ x. x.lane == z.lane) ys))) (same_number z.lane)

lane-grows : (xs : List Placed) (z : Placed) → length (lane_in (xs ++ z ∷ []) z.lane) ≡ length (lane_in xs z.lane) + 1
lane-grows xs z = ap length (lane-one xs z []) ∙ length-append (lane_in xs z.lane) (z.item ∷ [])

lane-keeps : (xs : List Placed) (z : Placed) (a : ℕ) → (z.lane == a) ≡ false → lane_in (xs ++ z ∷ []) a ≡ lane_in xs a
lane-keeps xs z a other =
    lane_in-append xs (z ∷ []) a ∙ ap (λ b. lane_in xs a ++ map (λ (x : Placed). x.item) (cond b (z ∷ []) [])) other ∙ append-nil (lane_in xs a)

-- a record of a lane that reads so
at-length : (l : List Rec) (xs : List Item) (i : Item) (ys : List Item) → lane_items l ≡ xs ++ i ∷ ys → (r : Rec) × (slice_get l (length xs) ≡ Some r) × (item_of r ≡ i) × (length xs < length l)
unfolding lane_items
at-length [] [] i ys h = absurd (cc)
at-length [] (x ∷ xs) i ys h = absurd (cc)
at-length (r ∷ l) [] i ys h = let same : item_of r ≡ i = cc in (r, refl, same, omega arith)
at-length (r ∷ l) (x ∷ xs) i ys h =
    let rest : map item_of l ≡ xs ++ i ∷ ys = cc in
    let more = at-length l xs i ys rest in
    (more.0, more.1, more.2, let less = more.3 in omega (arith, less))

within-lanes : (lanes : List (List Rec)) (a : ℕ) → 0 < length (get_or lanes a []) → a < length lanes
within-lanes [] a h = absurd (omega (arith, h))
within-lanes (l ∷ ls) zero h = omega arith
within-lanes (l ∷ ls) (suc a) h = let less = within-lanes ls a h in omega (arith, less)

-- The lanes are those of the records in their order.
module _ (lanes : List (List Rec)) (all : List Placed) (are : (a : ℕ) → lane_in all a ≡ lane_items (get_or lanes a [])) where
  -- the record at a place
  pub record Here (xs : List Placed) (z : Placed) : Type 0 where
    pub r : Rec
    pub is : record_at lanes (place_behind xs z) ≡ Some r
    pub item : item_of r ≡ z.item
    pub lane : z.lane < length lanes
    pub within : length (lane_in xs z.lane) < length (get_or lanes z.lane [])

  pub here : (xs : List Placed) (z : Placed) (ys : List Placed) → all ≡ xs ++ z ∷ ys → Here xs z
  here xs z ys split =
      let lane = sym (are z.lane) ∙ ap (λ us. lane_in us z.lane) split ∙ lane-one xs z ys in
      let at = at-length (get_or lanes z.lane []) (lane_in xs z.lane) z.item (lane_in ys z.lane) lane in
      let less = at.3 in
      let inside = within-lanes lanes z.lane (omega (arith, less)) in
      record { r = at.0; is = ap (λ o. option_and_then (λ lane. slice_get lane (length (lane_in xs z.lane))) o) (get-lane lanes z.lane inside) ∙ at.1; item = at.2; lane = inside; within = at.3 }

  pub item-here : (xs : List Placed) (z : Placed) (ys : List Placed) → all ≡ xs ++ z ∷ ys → item_at lanes (place_behind xs z) ≡ Some z.item
  unfolding item_at
  item-here xs z ys split =
      let h = here xs z ys split in
      ap (λ o. option_and_then (λ lane. option_and_then (λ r. Some (item_of r)) (slice_get lane (length (lane_in xs z.lane)))) o) (get-lane lanes z.lane h.lane)
      ∙ ap (λ o. option_and_then (λ r. Some (item_of r)) o) (sym (ap (λ o. option_and_then (λ lane. slice_get lane (length (lane_in xs z.lane))) o) (get-lane lanes z.lane h.lane)) ∙ h.is)
      ∙ ap Some h.item

  -- they are the records at their places
  pub placed-back : (xs zs ys : List Placed) → all ≡ xs ++ (zs ++ ys) → placed_at lanes (places_of xs zs) ≡ zs
  unfolding placed_at
  placed-back xs [] ys split = refl
  placed-back xs (z ∷ zs) ys split =
      let h = here xs z (zs ++ ys) split in
      ap (λ o. cons_option (option_map (λ r. record { lane = z.lane; item = item_of r }) o) (placed_at lanes (places_of (xs ++ z ∷ []) zs))) h.is
      ∙ ap (λ i. record { lane = z.lane; item = i } ∷ placed_at lanes (places_of (xs ++ z ∷ []) zs)) h.item
      ∙ ap (λ us. z ∷ us) (placed-back (xs ++ z ∷ []) zs ys (split ∙ sym (append_assoc xs (z ∷ []) (zs ++ ys))))

  pub items-back : (xs zs : List Placed) → all ≡ xs ++ zs → items_at lanes (places_of xs zs) ≡ items_placed zs
  unfolding items_at
  items-back xs [] split = refl
  items-back xs (z ∷ zs) split =
      ap (λ o. cons_option o (items_at lanes (places_of (xs ++ z ∷ []) zs))) (item-here xs z zs split)
      ∙ ap (λ us. z.item ∷ us) (items-back (xs ++ z ∷ []) zs (split ∙ sym (append_assoc xs (z ∷ []) zs)))

  -- how far the lanes stand in a front of the order
  record Taken (xs : List Placed) (done : List RecordPlace) : Type 0 where
    fronts : List ℕ
    each : length fronts ≡ length lanes
    counts : (a : ℕ) → a < length lanes → get_or fronts a 0 ≡ length (lane_in xs a)
    same : IsPermutation (taken 0 lanes fronts) done

  abbrev zeros : ℕ → List ℕ
  zeros size = replicate size 0

  none-at-first : (size a : ℕ) → ◌≡◌ {A = ℕ} (get_or (zeros size) a 0) 0
  none-at-first zero a = refl
  none-at-first (suc size) zero = refl
  none-at-first (suc size) (suc a) = none-at-first size a

  size-is : (size : ℕ) → length (zeros size) ≡ size
  size-is zero = refl
  size-is (suc size) = ap suc (size-is size)

  taken-first : Taken [] []
  taken-first = record {
    fronts = replicate (length lanes) 0;
    each = size-is (length lanes);
    counts = λ a less. none-at-first (length lanes) a;
    same = subst (λ l. IsPermutation l []) (sym (taken-none 0 lanes (length lanes))) (IsPermutation-refl []);
  }

  taken-next : (xs : List Placed) (done : List RecordPlace) (z : Placed) (zs : List Placed) → all ≡ xs ++ z ∷ zs → Taken xs done → Taken (xs ++ z ∷ []) (done ++ place_behind xs z ∷ [])
  taken-next xs done z zs split t =
      let h = here xs z zs split in
      let size = t.each in
      let at = t.counts z.lane h.lane in
      let inside = h.lane in
      let within = h.within in
      let less : z.lane < length t.fronts = omega (arith, size, inside) in
      let more : IsPermutation (taken 0 lanes (set t.fronts z.lane (get_or t.fronts z.lane 0 + 1))) (record_place (0 + z.lane) (get_or t.fronts z.lane 0) ∷ taken 0 lanes t.fronts) =
      taken-more 0 lanes t.fronts z.lane less (omega (arith, at, within)) in
      let number : 0 + z.lane ≡ z.lane = omega arith in
      let moved = subst (λ n. IsPermutation (taken 0 lanes (set t.fronts z.lane (get_or t.fronts z.lane 0 + 1))) (record_place n (length (lane_in xs z.lane)) ∷ taken 0 lanes t.fronts)) number
      (subst (λ k. IsPermutation (taken 0 lanes (set t.fronts z.lane (get_or t.fronts z.lane 0 + 1))) (record_place (0 + z.lane) k ∷ taken 0 lanes t.fronts)) at more) in
      record {
        fronts = set t.fronts z.lane (get_or t.fronts z.lane 0 + 1);
        each = length-set t.fronts z.lane (get_or t.fronts z.lane 0 + 1) ∙ size;
        counts = λ a few. ⊎_elim (own a) (other a few) (cases_eq z.lane a);
        same = IsPermutation-trans _ _ _ moved
            (IsPermutation-trans _ _ _ (IsPermutation-cons (place_behind xs z) _ _ t.same) (IsPermutation-sym _ _ (IsPermutation-to_front done (place_behind xs z))));
      }
    where
      own : (a : ℕ) → z.lane ≡ a → get_or (set t.fronts z.lane (get_or t.fronts z.lane 0 + 1)) a 0 ≡ length (lane_in (xs ++ z ∷ []) a)
      own a same =
          let h = here xs z zs split in
          let inside = h.lane in
          let size = t.each in
          subst (λ b. get_or (set t.fronts z.lane (get_or t.fronts z.lane 0 + 1)) b 0 ≡ length (lane_in (xs ++ z ∷ []) b)) same
          (get_or-set_same t.fronts z.lane (get_or t.fronts z.lane 0 + 1) 0 (omega (arith, size, inside)) ∙ ap (λ n. n + 1) (t.counts z.lane h.lane) ∙ sym (lane-grows xs z))

      other : (a : ℕ) → a < length lanes → (z.lane ≡ a → ⊥) → get_or (set t.fronts z.lane (get_or t.fronts z.lane 0 + 1)) a 0 ≡ length (lane_in (xs ++ z ∷ []) a)
      other a few ne =
          let test : (z.lane == a) ≡ false = grind (arith, nat_tests, ne) in
          get_or-set_other t.fronts z.lane a (get_or t.fronts z.lane 0 + 1) 0 (λ e. ne (sym e)) ∙ t.counts a few ∙ ap length (sym (lane-keeps xs z a test))

  taken-on : (xs : List Placed) (done : List RecordPlace) (zs : List Placed) → all ≡ xs ++ zs → Taken xs done → Taken all (done ++ places_of xs zs)
  taken-on xs done [] split t = subst (Taken all) (sym (append-nil done)) (subst (λ us. Taken us done) (sym (split ∙ append-nil xs)) t)
  taken-on xs done (z ∷ zs) split t =
      subst (Taken all) (append_assoc done (place_behind xs z ∷ []) (places_of (xs ++ z ∷ []) zs))
      (taken-on (xs ++ z ∷ []) (done ++ place_behind xs z ∷ []) zs (split ∙ sym (append_assoc xs (z ∷ []) zs)) (taken-next xs done z zs split t))

  pub places-all : IsPermutation (places lanes) (places_of [] all)
  unfolding places
  places-all =
      let t = taken-on [] [] all refl taken-first in
      subst (λ us. IsPermutation us (places_of [] all)) (taken-all 0 lanes t.fronts t.each (λ a. whole t a)) t.same
    where
      missing : (ls : List (List Rec)) (a : ℕ) → length ls ≤ a → length (get_or ls a []) ≡ 0
      missing [] a h = refl
      missing (l ∷ ls) zero h = absurd (omega (arith, h))
      missing (l ∷ ls) (suc a) h = missing ls a (omega (arith, h))

      whole : (t : Taken all (places_of [] all)) (a : ℕ) → length (get_or lanes a []) ≤ get_or t.fronts a 0
      whole t a = by (nat_lt a (length lanes)) refl
        where
          by : (b : Bool) → nat_lt a (length lanes) ≡ b → length (get_or lanes a []) ≤ get_or t.fronts a 0
          by true e =
              let less : a < length lanes = grind (arith, nat_tests) in
              let at = t.counts a less in
              let same : length (lane_in all a) ≡ length (get_or lanes a []) = ap length (are a) ∙ lane-length (get_or lanes a []) in
              omega (arith, at, same)
          by false e =
              let most : length lanes ≤ a = grind (arith, nat_tests) in
              let none = missing lanes a most in
              omega (arith, none)

  -- Where each number is that of the operations before it, a record stands behind those that must stand before it.
  module _ (numbers : in_order [] (items_placed all) ≡ true) where
    number-at : (xs : List Placed) (z : Placed) (ys : List Placed) → all ≡ xs ++ z ∷ ys → is_next (items_placed xs) (touch z.item) ≡ true
    number-at xs z ys split =
        in_order-at [] (items_placed xs) z.item (items_placed ys) (subst (λ us. in_order [] us ≡ true) (ap items_placed split ∙ map-append (λ (x : Placed). x.item) xs (z ∷ ys)) numbers)

    -- no later record must stand before an earlier one
    touch-later : (xs : List Item) (i : Item) (ys : List Item) (k : Item) → is_next xs (touch i) ≡ true → is_next (xs ++ i ∷ ys) (touch k) ≡ true → touch_first (touch k) (touch i) ≡ true → ⊥
    unfolding is_next total
    touch-later xs i ys k one two first = by (touch i) (touch k) refl one two first
      where
        counts : (w : Word) → total w (xs ++ i ∷ ys) ≡ total w xs + total w (i ∷ ys)
        counts w = total-append w xs (i ∷ ys)

        more : (w : Word) (mark : ℕ) → touch i ≡ Draws w mark → 1 ≤ total w (i ∷ ys)
        more w mark is =
            let on : drawn_on w (touch i) ≡ true = rw is (same_word-refl w) in
            let size : length (cond (drawn_on w (touch i)) (i ∷ filter (λ j. drawn_on w (touch j)) ys) (filter (λ j. drawn_on w (touch j)) ys)) ≡ suc (length (filter (λ j. drawn_on w (touch j)) ys)) = rw on refl in
            omega (arith, size)

        by : (t u : Touch) → touch i ≡ t → is_next xs t ≡ true → is_next (xs ++ i ∷ ys) u ≡ true → touch_first u t ≡ true → ⊥
        by (Draws w mark) (Draws v other) is one two first =
            let parts = and_parts _ _ first in
            let same : v ≡ w = same_word-is v w parts.0 in
            let low : mark ≡ suc (total w xs) = grind (arith, nat_tests) in
            let test : (other == suc (total w (xs ++ i ∷ ys))) ≡ true = subst (λ x. (other == suc (total x (xs ++ i ∷ ys))) ≡ true) same two in
            let high : other ≡ suc (total w (xs ++ i ∷ ys)) = grind (arith, nat_tests) in
            let less : other < mark = let t : nat_lt other mark ≡ true = parts.1 in grind (arith, nat_tests) in
            omega (arith, low, high, less, counts w)
        by (Draws w mark) (Shows v other) is one two first =
            let parts = and_parts _ _ first in
            let same : v ≡ w = same_word-is v w parts.0 in
            let low : mark ≡ suc (total w xs) = grind (arith, nat_tests) in
            let test : (other == total w (xs ++ i ∷ ys)) ≡ true = subst (λ x. (other == total x (xs ++ i ∷ ys)) ≡ true) same two in
            let high : other ≡ total w (xs ++ i ∷ ys) = grind (arith, nat_tests) in
            let less : other < mark = let t : nat_lt other mark ≡ true = parts.1 in grind (arith, nat_tests) in
            let drawn = more w mark is in
            omega (arith, low, high, less, counts w, drawn)
        by (Shows w mark) (Draws v other) is one two first =
            let parts = and_parts _ _ first in
            let same : v ≡ w = same_word-is v w parts.0 in
            let low : mark ≡ total w xs = grind (arith, nat_tests) in
            let test : (other == suc (total w (xs ++ i ∷ ys))) ≡ true = subst (λ x. (other == suc (total x (xs ++ i ∷ ys))) ≡ true) same two in
            let high : other ≡ suc (total w (xs ++ i ∷ ys)) = grind (arith, nat_tests) in
            let less : other ≤ mark = grind (arith, nat_tests) in
            omega (arith, low, high, less, counts w)
        by (Shows w mark) (Shows v other) is one two first = cc
        by _ Neither is one two first = cc
        by Neither _ is one two first = cc

    none-before : (xs : List Placed) (z : Placed) (us : List Placed) (u : Placed) (vs : List Placed) → all ≡ xs ++ z ∷ (us ++ u ∷ vs)
        → must_precede lanes (place_behind (xs ++ z ∷ us) u) (place_behind xs z) ≡ true → ⊥
    unfolding must_precede
    none-before xs z us u vs split first =
        by ((u.lane == z.lane) && nat_lt (length (lane_in (xs ++ z ∷ us) u.lane)) (length (lane_in xs z.lane))) refl first
      where
        later : all ≡ (xs ++ z ∷ us) ++ u ∷ vs
        later = split ∙ sym (append_assoc xs (z ∷ us) (u ∷ vs))

        by : (b : Bool) → ((u.lane == z.lane) && nat_lt (length (lane_in (xs ++ z ∷ us) u.lane)) (length (lane_in xs z.lane))) ≡ b
            → (b || touch_first (touch_at (item_at lanes (place_behind (xs ++ z ∷ us) u))) (touch_at (item_at lanes (place_behind xs z)))) ≡ true → ⊥
        by true e h =
            let parts = and_parts _ _ e in
            let same : u.lane ≡ z.lane = let t : (u.lane == z.lane) ≡ true = parts.0 in grind (arith, nat_tests) in
            let less : length (lane_in (xs ++ z ∷ us) u.lane) < length (lane_in xs z.lane) = let t : nat_lt (length (lane_in (xs ++ z ∷ us) u.lane)) (length (lane_in xs z.lane)) ≡ true = parts.1 in grind (arith, nat_tests) in
            let long = ap (λ a. length (lane_in (xs ++ z ∷ us) a)) same in
            let split_at = ap length (lane_in-append xs (z ∷ us) z.lane) ∙ length-append (lane_in xs z.lane) (lane_in (z ∷ us) z.lane) in
            omega (arith, less, long, split_at)
        by false e h =
            let touches : touch_first (touch u.item) (touch z.item) ≡ true =
            ap (λ o. touch_first (touch_at o) (touch z.item)) (sym (item-here (xs ++ z ∷ us) u vs later))
            ∙ ap (λ o. touch_first (touch_at (item_at lanes (place_behind (xs ++ z ∷ us) u))) (touch_at o)) (sym (item-here xs z (us ++ u ∷ vs) split)) ∙ h in
            let next = subst (λ is. is_next is (touch u.item) ≡ true) (map-append (λ (x : Placed). x.item) xs (z ∷ us)) (number-at (xs ++ z ∷ us) u vs later) in
            touch-later (items_placed xs) z.item (items_placed us) u.item (number-at xs z (us ++ u ∷ vs) split) next touches

    pairs : (xs zs : List Placed) → all ≡ xs ++ zs → (i k : ℕ) (x y : RecordPlace) → slice_get (places_of xs zs) i ≡ Some x → slice_get (places_of xs zs) k ≡ Some y
        → must_precede lanes x y ≡ true → i < k
    pairs xs [] split i k x y at_x at_y first = absurd (cc)
    pairs xs (z ∷ zs) split zero zero x y at_x at_y first =
        let same : x ≡ y = cc in
        let loop = subst (λ p. must_precede lanes p y ≡ true) same first in
        let no : true ≡ false = sym loop ∙ irreflexive lanes y in
        absurd (cc)
    pairs xs (z ∷ zs) split zero (suc k) x y at_x at_y first = omega arith
    pairs xs (z ∷ zs) split (suc i) zero x y at_x at_y first =
        let at = places_of-at (xs ++ z ∷ []) zs i x at_x in
        let it : x ≡ place_behind (xs ++ z ∷ at.0) at.1 = at.4 ∙ ap (λ us. place_behind us at.1) (append_assoc xs (z ∷ []) at.0) in
        let its : place_behind xs z ≡ y = cc in
        let there = subst (λ p. must_precede lanes x p ≡ true) (sym its) first in
        let both = subst (λ p. must_precede lanes p (place_behind xs z) ≡ true) it there in
        absurd (none-before xs z at.0 at.1 at.2 (split ∙ ap (λ us. xs ++ z ∷ us) at.3) both)
    pairs xs (z ∷ zs) split (suc i) (suc k) x y at_x at_y first =
        let less = pairs (xs ++ z ∷ []) zs (split ∙ sym (append_assoc xs (z ∷ []) zs)) i k x y at_x at_y first in omega (arith, less)

    -- so the places are a serial order
    pub places-serial : IsSerial lanes (places_of [] all)
    places-serial = record {
      all = places-all;
      before = λ i k x y at_x at_y first. pairs [] all refl i k x y at_x at_y first;
      numbers = subst (λ is. in_order [] is ≡ true) (sym (items-back [] all refl)) numbers;
    }
