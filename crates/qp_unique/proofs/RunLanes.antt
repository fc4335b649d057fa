-- The lanes of sources in the order of a run with one thread.
use Rattle.std.proofs.Common.{◌≡◌, ◌∙◌, ◌⊎◌, inl, inr, ℕ, suc, ◌+◌, ◌==◌, Bool, true, false, ◌&&◌, ◌||◌, cond, List, [], ◌∷◌, ◌++◌, map, length, get_or, Some, None, refl, sym, ap, subst, arith, append-nil}
use Rattle.std.proofs.lemmas.Bool.{ne_eqb}
use Rattle.std.proofs.lemmas.Bool.Decides.{nat_tests}
use Rattle.std.proofs.lemmas.List.{append_assoc}
use Rattle.std.specs.declared.option.Option.{Option}
use Rattle.std.specs.Option.{option_map_or}
use Rattle.std.specs.List.{filter, list_all, list_any}
use Rattle.qp_model.specs.declared.stimulus.Stim.{Stim}
use Rattle.qp_model.specs.declared.systems.System.{System}
use Rattle.qp_model.specs.declared.bodies.Body.{Body}
use Rattle.qp_model.specs.declared.bodies.Body.TheVariants as body
use Rattle.qp_model.specs.Record.{Item}
use Rattle.qp_model.specs.Knowing.{Facts, told, records_of, ceiling_over}
use Rattle.qp_model.specs.Ends.{is_spill, spills_in}
use Rattle.qp_model.specs.OneOrder.{Placed, Turn, with_stimuli, parts_of_look, turns_at, acts_next, is_turn, begun, look_of, stim_of, is_stim_at}
use Rattle.qp_check_ends.specs.SourceState.{SourceState, Between, Within, source_next, source_after}
use Rattle.qp_model_order.proofs.MergeLemmas.{stimuli-append}
use Rattle.qp_model_order.specs.RunOrder.{placed, has_stim}
use Rattle.qp_model_order.specs.Placing.{look_item, all_placed, stim_item}
use Rattle.qp_model_order.proofs.NumberLemmas.{acts-place}
use Rattle.qp_unique.proofs.KernelLemmas.{item-is}
use Rattle.qp_unique.proofs.LookLemmas.{begins, begun_in, up_to_stim, from_stim, stim-split, stim-first, begun-append, same-front, StimFirst, turnless, one-turn, look-free, look-stimulated, turns-none, turns-one, stim-at}
use Rattle.qp_unique.proofs.ItemLemmas.{none-at}
use Rattle.qp_unique.proofs.SourceSteps.{lane_in-append, lane_in-own, lane_in-other, begun-is, place_of, place-after, stim-read, other-read, stim-some, stim-is, alone, alone-at, after-split, after-first, record-first, no-stim}
use Rattle.qp_model.proofs.KnowingLemmas.{records_of-append}
use Rattle.qp_unique.proofs.Sides.{Lined, IsFront, lane_in, lined_order}

pub look-body : (b : Body) (l : ℕ × ℕ) → look_of b ≡ Some l → b ≡ body.Look l.0 l.1
look-body (body.Look n floor) l h = ap (λ o. by o) h
  where
    by : Option (ℕ × ℕ) → Body
    by None = body.Look 0 0
    by (Some x) = body.Look x.0 x.1
look-body b l h = absurd (cc)

-- a front of a lane that ends before the next stimulus, and the one before this stimulus
fronts-same : (one rest before : List Item) (stim : Item) (behind : List Item) → one ++ rest ≡ before ++ stim ∷ behind → StimFirst rest → begins stim ≡ true → begun_in one ≡ begun_in before
    → (one ≡ before) × (rest ≡ stim ∷ behind)
fronts-same one [] before stim behind is first stim_is counts =
    let whole : begun_in one ≡ begun_in before + begun_in (stim ∷ behind) =
    ap begun_in (sym (append-nil one) ∙ is) ∙ begun-append before (stim ∷ behind) in
    let more : begun_in (stim ∷ behind) ≡ 1 + begun_in behind = rw stim_is refl in
    absurd (omega (arith, whole, more, counts))
fronts-same one (y ∷ rest) before stim behind is first stim_is counts =
    let same = same-front one before y stim rest behind is first stim_is counts in
    let ys : y ≡ stim = same.1 in
    let rests : rest ≡ behind = same.2 in
    (same.0, ap (λ x. x ∷ rest) ys ∙ ap (λ zs. stim ∷ zs) rests)

-- the one element that passes
only-place : {A : Type 0} (test : A → Bool) (us vs : List A) (x y : A) (ps qs : List A) → us ++ x ∷ ps ≡ vs ++ y ∷ qs → test x ≡ true → list_any test vs ≡ false → list_any test qs ≡ false
    → (length us ≡ length vs) × (x ≡ y)
only-place test [] [] x y ps qs is passes front back = (refl, cc)
only-place test [] (v ∷ vs) x y ps qs is passes front back =
    let same : x ≡ v = cc in
    let yes : test v ≡ true = subst (λ z. test z ≡ true) same passes in
    let no : (true || list_any test vs) ≡ false = subst (λ b. (b || list_any test vs) ≡ false) yes front in
    absurd (cc)
only-place test (u ∷ us) [] x y ps qs is passes front back =
    let rest : us ++ x ∷ ps ≡ qs = cc in
    let none = none-at test us x ps (subst (λ zs. list_any test zs ≡ false) (sym rest) back) in
    let no : true ≡ false = sym passes ∙ none.0 in
    absurd (cc)
only-place test (u ∷ us) (v ∷ vs) x y ps qs is passes front back =
    let rest : us ++ x ∷ ps ≡ vs ++ y ∷ qs = cc in
    let later = only-place test us vs x y ps qs rest passes (or-rest (test v) (list_any test vs) front) back in
    (ap suc later.0, later.1)
  where
    or-rest : (a b : Bool) → (a || b) ≡ false → b ≡ false
    or-rest true b h = absurd (cc)
    or-rest false b h = h

alone-front : (xs ys : List Item) → alone (xs ++ ys) → alone xs
alone-front [] ys h = refl
alone-front (x ∷ xs) ys h = by (x.of == 0) h (λ k. alone-front xs ys k)
  where
    by : (b : Bool) → (b && list_all (λ i. i.of == 0) (xs ++ ys)) ≡ true → (alone (xs ++ ys) → alone xs) → (b && list_all (λ i. i.of == 0) xs) ≡ true
    by true h later = later h
    by false h later = absurd (cc)

-- a place of a list is one element's
split-same : (xs ys : List (List Item)) (x y : List Item) (us vs : List (List Item)) → xs ++ x ∷ us ≡ ys ++ y ∷ vs → length xs ≡ length ys → x ≡ y
split-same [] [] x y us vs is size = cc
split-same [] (z ∷ ys) x y us vs is size = absurd (let no : 0 ≡ suc (length ys) = size in omega (arith, no))
split-same (z ∷ xs) [] x y us vs is size = absurd (let no : suc (length xs) ≡ 0 = size in omega (arith, no))
split-same (z ∷ xs) (z2 ∷ ys) x y us vs is size =
    let rest : xs ++ x ∷ us ≡ ys ++ y ∷ vs = cc in
    let fewer : suc (length xs) ≡ suc (length ys) = size in
    split-same xs ys x y us vs rest (omega (arith, fewer))

stim-any : (n : ℕ) (before : List Item) (stim : Item) (behind : List Item) (p : ℕ) → stim_of stim.body ≡ Some (p, n) → list_any (λ i. is_stim_at n i.body) (before ++ stim ∷ behind) ≡ true
stim-any n [] stim behind p h = let self : (n == n) ≡ true = grind (arith, nat_tests) in let e : is_stim_at n stim.body ≡ true = stim-at n p n stim.body h ∙ self in rw e refl
stim-any n (x ∷ before) stim behind p h = by (is_stim_at n x.body) (stim-any n before stim behind p h)
  where
    by : (b : Bool) → list_any (λ i. is_stim_at n i.body) (before ++ stim ∷ behind) ≡ true → (b || list_any (λ i. is_stim_at n i.body) (before ++ stim ∷ behind)) ≡ true
    by true h = refl
    by false h = h

any-lane : (n : ℕ) (front : List (List Item)) (l : List Item) (back : List (List Item)) → list_any (λ i. is_stim_at n i.body) l ≡ true → has_stim (front ++ l ∷ back) n ≡ true
any-lane n [] l back h = rw h refl
any-lane n (x ∷ front) l back h = by (list_any (λ i. is_stim_at n i.body) x) (any-lane n front l back h)
  where
    by : (b : Bool) → has_stim (front ++ l ∷ back) n ≡ true → (b || has_stim (front ++ l ∷ back) n) ≡ true
    by true h = refl
    by false h = h

-- the first record of a source is a `stim`
pub first-stim : (sys : System) (kernel : ℕ) (w : Facts) (i : Item) (next : SourceState) (ss : List Stim) → source_next sys kernel (Between 1 ss) (told w 0 0 i.body) ≡ Some next → begins i ≡ true
first-stim sys kernel w i next ss h = by (begins i) refl
  where
    by : (b : Bool) → begins i ≡ b → begins i ≡ true
    by true e = e
    by false e = absurd (let other = other-read sys kernel w 0 (Between 1 ss) next i.body (no-stim i.body e) h in let no : Between 1 ss ≡ Within other.0 other.2 other.3 = other.4 in cc)

-- the records of a lane, behind a record of lane 0 and some of one source
pub lane-with : (xs : List Placed) (i : Item) (m : ℕ) (gs : List Item) (j : ℕ) → (j ≡ 0 → ⊥) → lane_in (xs ++ placed 0 i ∷ all_placed (1 + m) gs) j ≡ lane_in xs j ++ lane_in (all_placed (1 + m) gs) j
lane-with xs i m gs j some =
    let other : (0 == j) ≡ false = ne_eqb 0 j (λ e. some (sym e)) in
    lane_in-append xs (placed 0 i ∷ all_placed (1 + m) gs) j ∙ ap (λ b. lane_in xs j ++ map (λ (x : Placed). x.item) (cond b (placed 0 i ∷ filter (λ x. x.lane == j) (all_placed (1 + m) gs)) (filter (λ x. x.lane == j) (all_placed (1 + m) gs)))) other

pub lane-own : (xs : List Placed) (i : Item) (m : ℕ) (gs : List Item) → lane_in (xs ++ placed 0 i ∷ all_placed (1 + m) gs) (1 + m) ≡ lane_in xs (1 + m) ++ gs
lane-own xs i m gs = lane-with xs i m gs (1 + m) (λ e. omega (arith, e)) ∙ ap (λ ys. lane_in xs (1 + m) ++ ys) (lane_in-own (1 + m) gs)

pub lane-other : (xs : List Placed) (i : Item) (m : ℕ) (gs : List Item) (j : ℕ) → (j ≡ 0 → ⊥) → (1 + m == j) ≡ false → lane_in (xs ++ placed 0 i ∷ all_placed (1 + m) gs) j ≡ lane_in xs j
lane-other xs i m gs j some other =
    lane-with xs i m gs j some ∙ ap (λ ys. lane_in xs j ++ ys) (lane_in-other (1 + m) j gs other) ∙ append-nil (lane_in xs j)

lane-through : (xs : List Placed) (i : Item) (m : ℕ) (gs : List Item) (ys : List Placed)
    → lane_in (xs ++ placed 0 i ∷ (all_placed (1 + m) gs ++ ys)) (1 + m) ≡ lane_in xs (1 + m) ++ (gs ++ lane_in ys (1 + m))
lane-through xs i m gs ys =
    ap (λ zs. lane_in zs (1 + m)) (sym (append_assoc xs (placed 0 i ∷ all_placed (1 + m) gs) ys))
    ∙ lane_in-append (xs ++ placed 0 i ∷ all_placed (1 + m) gs) ys (1 + m) ∙ ap (λ zs. zs ++ lane_in ys (1 + m)) (lane-own xs i m gs)
    ∙ append_assoc (lane_in xs (1 + m)) gs (lane_in ys (1 + m))

pub above-zero : (m : ℕ) → 1 + m ≡ 0 → ⊥
above-zero m e = omega (arith, e)

module _ (sys : System) (stimuli : List (List Stim)) where
  -- the stimulus of a look, in the lane of its source
  pub record Stimulated (a : Lined sys stimuli) (xs : List Placed) (n m : ℕ) (place : ℕ) : Type 0 where
    pub before : List (List Item)
    pub lane : List Item
    pub behind : List (List Item)
    pub are : a.sources ≡ before ++ lane ∷ behind
    pub at : length before ≡ m
    pub more : List Item
    pub is : lane ≡ lane_in xs (1 + m) ++ stim_item place n ∷ more
    pub parts : parts_of_look 1 n a.cuts a.sources ≡ all_placed (1 + m) (stim_item place n ∷ up_to_stim more)
    pub has_it : a.has n ≡ true

  module _ (a : Lined sys stimuli) (xs : List Placed) (n : ℕ) (floor : ℕ) (ys : List Placed)
      (order : lined_order sys stimuli a ≡ xs ++ placed 0 (look_item n floor) ∷ ys)
      (fronts : (before : List (List Item)) (l : List Item) (behind : List (List Item)) → a.sources ≡ before ++ l ∷ behind → IsFront xs (1 + length before) l) where
    -- no source's lane has a stimulus there
    pub freed : turns_at 1 n a.sources ≡ [] → (parts_of_look 1 n a.cuts a.sources ≡ []) × (a.has n ≡ false)
    freed turns = (look-free n a.cuts a.sources turns, a.has_is n ∙ turnless 1 n a.sources turns)

    -- no source acts
    pub unstimulated : acts_next sys stimuli xs (floor == 0) ≡ None → (parts_of_look 1 n a.cuts a.sources ≡ []) × (a.has n ≡ false)
    unstimulated none = freed (by (a.turn xs n floor ys order))
      where
        by : (is_turn (acts_next sys stimuli xs (floor == 0)) (turns_at 1 n a.sources) ≡ true) ⊎ (turns_at 1 n a.sources ≡ []) → turns_at 1 n a.sources ≡ []
        by (inl right) = turns-none _ (subst (λ t. is_turn t (turns_at 1 n a.sources) ≡ true) none right)
        by (inr free) = free

    acted : (t : Turn) → acts_next sys stimuli xs (floor == 0) ≡ Some t → is_turn (acts_next sys stimuli xs (floor == 0)) (turns_at 1 n a.sources) ≡ true
        → (m : ℕ) × (1 + m ≡ t.source) × Stimulated a xs n m t.place
    acted t acts right =
        let turns = turns-one t (turns_at 1 n a.sources) (subst (λ z. is_turn z (turns_at 1 n a.sources) ≡ true) acts right) in
        let one = one-turn 1 n a.sources turns.0 turns.1 in
        let it = one.its in
        let m = length one.front in
        let source : 1 + m ≡ t.source = sym it.source ∙ turns.2 in
        let own = a.source one.front one.own one.back one.are in
        let alone_own = alone-at it.before it.stim it.behind (subst alone it.is own.0) in
        let read : source_after sys a.kernel (Some (Between 1 (get_or stimuli m []))) (records_of a.w 0 0 (it.before ++ it.stim ∷ it.behind)) ≡ Some own.1 =
        subst (λ l. source_after sys a.kernel (Some (Between 1 (get_or stimuli m []))) (records_of a.w 0 0 l) ≡ Some own.1) it.is own.3 in
        let split = after-split sys a.kernel (Between 1 (get_or stimuli m [])) own.1 (records_of a.w 0 0 it.before) (records_of a.w 0 (ceiling_over 0 it.before) (it.stim ∷ it.behind))
        (subst (λ ts. source_after sys a.kernel (Some (Between 1 (get_or stimuli m []))) ts ≡ Some own.1) (records_of-append a.w 0 0 it.before (it.stim ∷ it.behind)) read) in
        let next = after-first sys a.kernel split.0 own.1 (told a.w 0 (ceiling_over 0 it.before) it.stim.body) _
        (subst (λ ts. source_after sys a.kernel (Some split.0) ts ≡ Some own.1) (record-first a.w (ceiling_over 0 it.before) it.stim it.behind alone_own.0) split.2) in
        let stim_body : it.stim.body ≡ body.Stim turns.0.place n = stim-is it.stim.body turns.0.place n it.begins_it in
        let reads = stim-read sys a.kernel a.w (ceiling_over 0 it.before) split.0 next.0 turns.0.place n
        (subst (λ d. source_next sys a.kernel split.0 (told a.w 0 (ceiling_over 0 it.before) d) ≡ Some next.0) stim_body next.1) in
        let placed_at : place_of split.0 ≡ 1 + begun_in it.before =
        place-after sys a.kernel a.w 0 (Between 1 (get_or stimuli m [])) split.0 it.before (alone-front it.before (it.stim ∷ it.behind) (subst alone it.is own.0)) split.1 in
        let front = fronts one.front one.own one.back one.are in
        let first : begins it.stim ≡ true = rw it.begins_it refl in
        let so_many : t.place ≡ begun xs t.source + 1 = acts-place sys stimuli xs (floor == 0) t acts in
        let there : begun xs t.source ≡ begun_in (lane_in xs (1 + m)) = begun-is xs t.source ∙ ap (λ j. begun_in (lane_in xs j)) (sym source) in
        let number : turns.0.place ≡ place_of split.0 = reads.0 in
        let turn_place : turns.0.place ≡ t.place = turns.3 in
        let counts : begun_in (lane_in xs (1 + m)) ≡ begun_in it.before = omega (arith, so_many, there, number, turn_place, placed_at) in
        let same = fronts-same (lane_in xs (1 + m)) front.rest it.before it.stim it.behind (sym front.is ∙ it.is) front.first first counts in
        let whole : it.stim ≡ stim_item t.place n = item-is it.stim 0 _ alone_own.0 (stim_body ∙ ap (λ p. body.Stim p n) turn_place) in
        let unspilt : spills_in it.behind ≡ false =
        (none-at (λ i. is_spill i.body) it.before it.stim it.behind (subst (λ l. spills_in l ≡ false) it.is (a.unspilt_sources one.front one.own one.back one.are))).1 in (
          m,
          source,
          record {
            before = one.front;
            lane = one.own;
            behind = one.back;
            are = one.are;
            at = refl;
            more = it.behind;
            is = it.is ∙ ap (λ l. l ++ it.stim ∷ it.behind) (sym same.0) ∙ ap (λ x. lane_in xs (1 + m) ++ x ∷ it.behind) whole;
            parts = look-stimulated n a.cuts a.sources turns.0 one unspilt ∙ ap (λ x. all_placed (1 + m) (x ∷ up_to_stim it.behind)) whole;
            has_it = a.has_is n ∙ ap (λ ls. has_stim ls n) one.are
                ∙ any-lane n one.front one.own one.back (ap (list_any (λ i. is_stim_at n i.body)) it.is ∙ stim-any n it.before it.stim it.behind turns.0.place it.begins_it);
          },
        )

    -- a source acts, or its stimulus is lacking
    pub stimulated : (t : Turn) → acts_next sys stimuli xs (floor == 0) ≡ Some t → ((m : ℕ) × (1 + m ≡ t.source) × Stimulated a xs n m t.place) ⊎ (turns_at 1 n a.sources ≡ [])
    stimulated t acts = by (a.turn xs n floor ys order)
      where
        by : (is_turn (acts_next sys stimuli xs (floor == 0)) (turns_at 1 n a.sources) ≡ true) ⊎ (turns_at 1 n a.sources ≡ [])
            → ((m : ℕ) × (1 + m ≡ t.source) × Stimulated a xs n m t.place) ⊎ (turns_at 1 n a.sources ≡ [])
        by (inl right) = inl (acted t acts right)
        by (inr free) = inr free

  module _ (a : Lined sys stimuli) (xs : List Placed) (i : Item) where
    -- the fronts of the lanes behind a record of lane 0 alone
    pub front-same : (j : ℕ) (l : List Item) → (j ≡ 0 → ⊥) → IsFront xs j l → IsFront (xs ++ placed 0 i ∷ []) j l
    front-same j l some h = record { rest = h.rest; is = h.is ∙ ap (λ ys. ys ++ h.rest) (sym (lane-with xs i 0 [] j some ∙ append-nil (lane_in xs j))); first = h.first }

    -- and behind one with its stimulus
    module _ (n m place : ℕ) (sc : Stimulated a xs n m place) where
      pub front-on : (gs : List Item) → stim_item place n ∷ up_to_stim sc.more ≡ gs
          → (before : List (List Item)) (l : List Item) (behind : List (List Item)) → a.sources ≡ before ++ l ∷ behind → IsFront xs (1 + length before) l
          → IsFront (xs ++ placed 0 i ∷ all_placed (1 + m) gs) (1 + length before) l
      front-on gs ends before l behind is h = by (length before == m) refl
        where
          by : (d : Bool) → (length before == m) ≡ d → IsFront (xs ++ placed 0 i ∷ all_placed (1 + m) gs) (1 + length before) l
          by true e =
              let size : length before ≡ m = grind (arith, nat_tests) in
              let lane : sc.lane ≡ l = split-same sc.before before sc.lane l sc.behind behind (sym sc.are ∙ is) (sc.at ∙ sym size) in
              let whole : l ≡ lane_in xs (1 + m) ++ (gs ++ from_stim sc.more) =
              sym lane ∙ sc.is ∙ ap (λ us. lane_in xs (1 + m) ++ stim_item place n ∷ us) (sym (stim-split sc.more)) ∙ ap (λ us. lane_in xs (1 + m) ++ (us ++ from_stim sc.more)) ends in
              subst (λ x. IsFront (xs ++ placed 0 i ∷ all_placed (1 + m) gs) (1 + x) l) (sym size)
              (record {
                rest = from_stim sc.more;
                is = whole ∙ sym (append_assoc (lane_in xs (1 + m)) gs (from_stim sc.more)) ∙ ap (λ us. us ++ from_stim sc.more) (sym (lane-own xs i m gs));
                first = stim-first sc.more;
              })
          by false e =
              let other : (1 + m == 1 + length before) ≡ false = ne_eqb (1 + m) (1 + length before) (λ x. let same : length before ≡ m = omega (arith, x) in let yes : (length before == m) ≡ true = grind (arith, nat_tests) in cc) in
              record { rest = h.rest; is = h.is ∙ ap (λ ys. ys ++ h.rest) (sym (lane-other xs i m gs (1 + length before) (above-zero (length before)) other)); first = h.first }

  module _ (a : Lined sys stimuli) where
    -- the number of a stimulus in its lane
    place-in : (before : List (List Item)) (l : List Item) (behind : List (List Item)) → a.sources ≡ before ++ l ∷ behind → (front : List Item) (st : Item) (more : List Item) → l ≡ front ++ st ∷ more
        → (p n : ℕ) → st.body ≡ body.Stim p n → p ≡ 1 + begun_in front
    place-in before l behind is front st more split p n stim =
        let source = a.source before l behind is in
        let start = Between 1 (get_or stimuli (length before) []) in
        let own = alone-at front st more (subst alone split source.0) in
        let read : source_after sys a.kernel (Some start) (records_of a.w 0 0 (front ++ st ∷ more)) ≡ Some source.1 =
        subst (λ x. source_after sys a.kernel (Some start) (records_of a.w 0 0 x) ≡ Some source.1) split source.3 in
        let two = after-split sys a.kernel start source.1 (records_of a.w 0 0 front) (records_of a.w 0 (ceiling_over 0 front) (st ∷ more))
        (subst (λ ts. source_after sys a.kernel (Some start) ts ≡ Some source.1) (records_of-append a.w 0 0 front (st ∷ more)) read) in
        let next = after-first sys a.kernel two.0 source.1 (told a.w 0 (ceiling_over 0 front) st.body) _
        (subst (λ ts. source_after sys a.kernel (Some two.0) ts ≡ Some source.1) (record-first a.w (ceiling_over 0 front) st more own.0) two.2) in
        let reads = stim-read sys a.kernel a.w (ceiling_over 0 front) two.0 next.0 p n
        (subst (λ d. source_next sys a.kernel two.0 (told a.w 0 (ceiling_over 0 front) d) ≡ Some next.0) stim next.1) in
        let place : place_of two.0 ≡ 1 + begun_in front = place-after sys a.kernel a.w 0 start two.0 front (alone-front front (st ∷ more) (subst alone split source.0)) two.1 in
        reads.0 ∙ place

    -- no stimulus is left over
    left-over : (before : List (List Item)) (l : List Item) (behind : List (List Item)) → a.sources ≡ before ++ l ∷ behind → (front : List Item) (st : Item) (more : List Item) → l ≡ front ++ st ∷ more
        → begins st ≡ true → front ≡ lane_in (lined_order sys stimuli a) (1 + length before) → ⊥
    unfolding with_stimuli
    left-over before l behind is front st more split first whole =
        let stim = stim-some st.body first in
        let look = a.placed_so before l behind is front st more split stim.0 stim.1 stim.2 in
        let n = stim.1 in
        let xs = with_stimuli a.cuts a.sources look.0 in
        let order : lined_order sys stimuli a ≡ xs ++ placed 0 (look_item n look.1) ∷ (parts_of_look 1 n a.cuts a.sources ++ with_stimuli a.cuts a.sources look.2) =
        ap (with_stimuli a.cuts a.sources) look.3 ∙ stimuli-append a.cuts a.sources look.0 (look_item n look.1 ∷ look.2) in
        let here : list_any (λ i. is_stim_at n i.body) l ≡ true =
        ap (list_any (λ i. is_stim_at n i.body)) split ∙ stim-any n front st more stim.0 (ap stim_of stim.2) in
        let some : has_stim a.sources n ≡ true = ap (λ ls. has_stim ls n) is ∙ any-lane n before l behind here in
        by n look.1 xs _ order stim.0 stim.2 here some (acts_next sys stimuli xs (look.1 == 0)) refl
      where
        right : (n floor : ℕ) (xs ys : List Placed) → lined_order sys stimuli a ≡ xs ++ placed 0 (look_item n floor) ∷ ys → has_stim a.sources n ≡ true
            → is_turn (acts_next sys stimuli xs (floor == 0)) (turns_at 1 n a.sources) ≡ true
        right n floor xs ys order some = on (a.turn xs n floor ys order)
          where
            on : (is_turn (acts_next sys stimuli xs (floor == 0)) (turns_at 1 n a.sources) ≡ true) ⊎ (turns_at 1 n a.sources ≡ []) → is_turn (acts_next sys stimuli xs (floor == 0)) (turns_at 1 n a.sources) ≡ true
            on (inl h) = h
            on (inr free) = absurd (let no : true ≡ false = sym some ∙ turnless 1 n a.sources free in cc)

        by : (n floor : ℕ) (xs ys : List Placed) → lined_order sys stimuli a ≡ xs ++ placed 0 (look_item n floor) ∷ (parts_of_look 1 n a.cuts a.sources ++ ys)
            → (p : ℕ) → st.body ≡ body.Stim p n → list_any (λ i. is_stim_at n i.body) l ≡ true → has_stim a.sources n ≡ true
            → (t : Option Turn) → acts_next sys stimuli xs (floor == 0) ≡ t → ⊥
        by n floor xs ys order p stim here some None acts =
            let turns : turns_at 1 n a.sources ≡ [] = turns-none _ (subst (λ t. is_turn t (turns_at 1 n a.sources) ≡ true) acts (right n floor xs _ order some)) in
            let no : true ≡ false = sym some ∙ turnless 1 n a.sources turns in
            cc
        by n floor xs ys order p stim here some (Some t) acts =
            let turns = turns-one t (turns_at 1 n a.sources) (subst (λ z. is_turn z (turns_at 1 n a.sources) ≡ true) acts (right n floor xs _ order some)) in
            let one = one-turn 1 n a.sources turns.0 turns.1 in
            let it = one.its in
            let lanes = only-place (list_any (λ i. is_stim_at n i.body)) before one.front l one.own behind one.back (sym is ∙ one.are) here one.none_front one.none_back in
            let at_n : is_stim_at n st.body ≡ true = let self : (n == n) ≡ true = grind (arith, nat_tests) in stim-at n p n st.body (ap stim_of stim) ∙ self in
            let same = only-place (λ (i : Item). is_stim_at n i.body) front it.before st it.stim more it.behind (sym split ∙ lanes.1 ∙ it.is) at_n it.none_before it.none_behind in
            let places : ◌≡◌ {A = Option (ℕ × ℕ)} (Some (p, n)) (Some (turns.0.place, n)) = sym (ap stim_of stim) ∙ ap (λ (i : Item). stim_of i.body) same.1 ∙ it.begins_it in
            let place : p ≡ turns.0.place = ap (λ (o : Option (ℕ × ℕ)). option_map_or (λ (x : ℕ × ℕ). x.0) o 0) places in
            let source : 1 + length before ≡ t.source = ap (λ k. 1 + k) lanes.0 ∙ sym it.source ∙ turns.2 in
            let acted : t.place ≡ begun xs t.source + 1 = acts-place sys stimuli xs (floor == 0) t acts in
            let so_many : begun xs t.source ≡ begun_in (lane_in xs (1 + length before)) = begun-is xs t.source ∙ ap (λ j. begun_in (lane_in xs j)) (sym source) in
            let number : p ≡ 1 + begun_in front = place-in before l behind is front st more split p n stim in
            let unspilt : spills_in it.behind ≡ false =
            (none-at (λ i. is_spill i.body) it.before it.stim it.behind (subst (λ x. spills_in x ≡ false) it.is (a.unspilt_sources one.front one.own one.back one.are))).1 in
            let parts : parts_of_look 1 n a.cuts a.sources ≡ all_placed (1 + length before) (it.stim ∷ up_to_stim it.behind) =
            look-stimulated n a.cuts a.sources turns.0 one unspilt ∙ ap (λ k. all_placed (1 + k) (it.stim ∷ up_to_stim it.behind)) (sym lanes.0) in
            let lane : lane_in (lined_order sys stimuli a) (1 + length before) ≡ lane_in xs (1 + length before) ++ ((it.stim ∷ up_to_stim it.behind) ++ lane_in ys (1 + length before)) =
            ap (λ zs. lane_in zs (1 + length before)) order
            ∙ ap (λ ps. lane_in (xs ++ placed 0 (look_item n floor) ∷ (ps ++ ys)) (1 + length before)) parts
            ∙ lane-through xs (look_item n floor) (length before) (it.stim ∷ up_to_stim it.behind) ys in
            let first_it : begins it.stim ≡ true = rw it.begins_it refl in
            let more_begun : begun_in (lane_in (lined_order sys stimuli a) (1 + length before))
            ≡ begun_in (lane_in xs (1 + length before)) + begun_in ((it.stim ∷ up_to_stim it.behind) ++ lane_in ys (1 + length before)) =
            ap begun_in lane ∙ begun-append (lane_in xs (1 + length before)) _ in
            let at_least : begun_in ((it.stim ∷ up_to_stim it.behind) ++ lane_in ys (1 + length before)) ≡ 1 + begun_in (up_to_stim it.behind ++ lane_in ys (1 + length before)) = rw first_it refl in
            let fronts : begun_in front ≡ begun_in (lane_in (lined_order sys stimuli a) (1 + length before)) = ap begun_in whole in
            omega (arith, number, place, acted, so_many, more_begun, at_least, fronts, turns.3)

    -- each source's lane stands in the order, all of it
    pub lane-whole : (before : List (List Item)) (l : List Item) (behind : List (List Item)) → a.sources ≡ before ++ l ∷ behind → IsFront (lined_order sys stimuli a) (1 + length before) l
        → l ≡ lane_in (lined_order sys stimuli a) (1 + length before)
    lane-whole before l behind is front = by front.rest front.is front.first
      where
        by : (rest : List Item) → l ≡ lane_in (lined_order sys stimuli a) (1 + length before) ++ rest → StimFirst rest → l ≡ lane_in (lined_order sys stimuli a) (1 + length before)
        by [] split first = split ∙ append-nil (lane_in (lined_order sys stimuli a) (1 + length before))
        by (st ∷ more) split first = absurd (left-over before l behind is (lane_in (lined_order sys stimuli a) (1 + length before)) st more split first refl)

    -- what stands of the lanes of sources before a place of the order
    abbrev Fronts : List Placed → Type 0
    Fronts xs = (before : List (List Item)) (l : List Item) (behind : List (List Item)) → a.sources ≡ before ++ l ∷ behind → IsFront xs (1 + length before) l

    first-stims : Fronts []
    unfolding records_of
    first-stims before l behind is = record { rest = l; is = refl; first = by l is (a.source before l behind is).0 }
      where
        by : (l : List Item) → a.sources ≡ before ++ l ∷ behind → alone l → StimFirst l
        by [] is own = tt
        by (i ∷ l) is own =
            let source = a.source before (i ∷ l) behind is in
            let at = alone-at [] i l own in
            let next = after-first sys a.kernel (Between 1 (get_or stimuli (length before) [])) source.1 (told a.w 0 0 i.body) _
            (subst (λ ts. source_after sys a.kernel (Some (Between 1 (get_or stimuli (length before) []))) ts ≡ Some source.1) (record-first a.w 0 i l at.0) source.3) in
            first-stim sys a.kernel a.w i next.0 (get_or stimuli (length before) []) next.1

    -- in an order in which each look is of no object
    module _ (looks : (xs : List Item) (i : Item) (ys : List Item) → a.lane0 ≡ xs ++ i ∷ ys → (n floor : ℕ) → i.body ≡ body.Look n floor → i ≡ look_item n floor) where
      walk : (la front : List Item) (xs : List Placed) → a.lane0 ≡ front ++ la → lined_order sys stimuli a ≡ xs ++ with_stimuli a.cuts a.sources la → Fronts xs → Fronts (lined_order sys stimuli a)
      unfolding with_stimuli
      walk [] front xs lane order fronts = subst Fronts (sym (order ∙ append-nil xs)) fronts
      walk (i ∷ la) front xs lane order fronts = by (look_of i.body) refl (λ ys is at. walk la (front ++ i ∷ []) ys (lane ∙ sym (append_assoc front (i ∷ []) la)) is at)
        where
          with_parts : List Placed → List Placed
          with_parts ps = xs ++ placed 0 i ∷ (ps ++ with_stimuli a.cuts a.sources la)

          Onward : Type 0
          Onward = (ys : List Placed) → lined_order sys stimuli a ≡ ys ++ with_stimuli a.cuts a.sources la → Fronts ys → Fronts (lined_order sys stimuli a)

          alone-on : Onward → lined_order sys stimuli a ≡ with_parts [] → Fronts (lined_order sys stimuli a)
          alone-on on is =
              on (xs ++ placed 0 i ∷ []) (is ∙ sym (append_assoc xs (placed 0 i ∷ []) _))
              (λ before l behind at. front-same a xs i (1 + length before) l (above-zero (length before)) (fronts before l behind at))

          look-on : (n floor : ℕ) → Onward → lined_order sys stimuli a ≡ with_parts (parts_of_look 1 n a.cuts a.sources) → i ≡ look_item n floor
              → (t : Option Turn) → acts_next sys stimuli xs (floor == 0) ≡ t → Fronts (lined_order sys stimuli a)
          look-on n floor on is whole None acts =
              let free = unstimulated a xs n floor _ (is ∙ ap (λ x. xs ++ placed 0 x ∷ (parts_of_look 1 n a.cuts a.sources ++ with_stimuli a.cuts a.sources la)) whole) fronts acts in
              alone-on on (is ∙ ap with_parts free.0)
          look-on n floor on is whole (Some t) acts =
              from (stimulated a xs n floor _ (is ∙ ap (λ x. xs ++ placed 0 x ∷ (parts_of_look 1 n a.cuts a.sources ++ with_stimuli a.cuts a.sources la)) whole) fronts t acts)
            where
              from : ((m : ℕ) × (1 + m ≡ t.source) × Stimulated a xs n m t.place) ⊎ (turns_at 1 n a.sources ≡ []) → Fronts (lined_order sys stimuli a)
              from (inl it) =
                  let gs = stim_item t.place n ∷ up_to_stim it.2.more in
                  on (xs ++ placed 0 i ∷ all_placed (1 + it.0) gs) (is ∙ ap with_parts it.2.parts ∙ sym (append_assoc xs (placed 0 i ∷ all_placed (1 + it.0) gs) _))
                  (λ before l behind at. front-on a xs i n it.0 t.place it.2 gs refl before l behind at (fronts before l behind at))
              from (inr turns) = alone-on on (is ∙ ap with_parts (look-free n a.cuts a.sources turns))

          by : (o : Option (ℕ × ℕ)) → look_of i.body ≡ o → Onward → Fronts (lined_order sys stimuli a)
          by None e on = alone-on on (order ∙ ap (λ (o : Option (ℕ × ℕ)). with_parts (option_map_or (λ (l : ℕ × ℕ). parts_of_look 1 l.0 a.cuts a.sources) o [])) e)
          by (Some (n, floor)) e on =
              look-on n floor on (order ∙ ap (λ (o : Option (ℕ × ℕ)). with_parts (option_map_or (λ (l : ℕ × ℕ). parts_of_look 1 l.0 a.cuts a.sources) o [])) e)
              (looks front i la lane n floor (look-body i.body (n, floor) e)) (acts_next sys stimuli xs (floor == 0)) refl

      -- each source's lane stands in it, all of it
      pub lane-stands : (before : List (List Item)) (l : List Item) (behind : List (List Item)) → a.sources ≡ before ++ l ∷ behind → l ≡ lane_in (lined_order sys stimuli a) (1 + length before)
      lane-stands before l behind is = lane-whole before l behind is (walk a.lane0 [] [] refl refl first-stims before l behind is)
