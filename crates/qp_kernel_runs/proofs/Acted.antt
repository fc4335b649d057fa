-- The world behind a source that acted.
use Rattle.std.proofs.Common.{◌≡◌, ◌≢◌, ℕ, zero, suc, ◌+◌, ◌<◌, ◌≤◌, ◌==◌, nat_lt, Bool, true, false, not, cond, ◌||◌, List, [], ◌∷◌, ◌++◌, map, length, drop, get_or, slice_set, refl, sym, ◌∙◌, ap, subst, arith, length-append}
use Rattle.std.specs.List.{list_all, list_any, count_by}
use Rattle.std.specs.Option.{is_some}
use Rattle.std.proofs.lemmas.Bool.{and_parts, eqb-false, eqb-true, not-true}
use Rattle.std.proofs.lemmas.Bool.Decides.{nat_tests}
use Rattle.std.proofs.lemmas.List.{map-append, append-nil, length-map, length-set, get_or-set_same, get_or-set_other, drop_all}
use Rattle.qp_model.specs.declared.stimulus.Stim.{Stim}
use Rattle.qp_model.specs.declared.systems.System.{System}
use Rattle.qp_model.specs.declared.bodies.Body.TheVariants as body
use Rattle.qp_model.specs.Told.{Told, ToldItem, plain, for_object, untold}
use Rattle.qp_model.specs.History.{lane_items}
use Rattle.qp_model.specs.Ends.{is_spill}
use Rattle.qp_model.specs.OneOrder.{stim_of}
use Rattle.qp_model.specs.Sources.{StimFits}
use Rattle.qp_model.specs.Kernels.{sim}
use Rattle.qp_calls.specs.LaneView.{LaneView, Happening, placed_by}
use Rattle.qp_calls.specs.Notes.{spills_told}
use Rattle.qp_model_order.specs.Placing.{AreBehind}
use Rattle.qp_model_order.specs.SourceRun.{untold_all}
use Rattle.qp_model_order.specs.Stimulus.{source_items}
use Rattle.qp_model_order.proofs.OrderLaws.{stimuli_are_their_own}
use Rattle.qp_kernel.specs.Happenings.{run_order, rises, told_by_source, lane_told, begun_by}
use Rattle.qp_kernel.proofs.HappeningLemmas.{one as as_one, count-cons, order-happens, rises-happens, told-happens, begun-happens}
use Rattle.qp_calls_log.specs.declared.log.Log.{Log}
use Rattle.qp_plain.specs.declared.world.PlainWorld.{PlainWorld}
use Rattle.qp_plain.specs.Book.{lists_of, logs_of}
use Rattle.qp_plain.specs.Books.{log_recs}
use Rattle.qp_plain.specs.LaneLaws.{told-length}
use Rattle.qp_calls_log.proofs.LogLemmas.{length-kinds}
use Rattle.qp_plain.proofs.Holding.{any-default}
use Rattle.qp_plain_sound.specs.Log.{lane_recs}
use Rattle.qp_plain_sound.specs.Sound.{facts_in}
use Rattle.qp_kernel_runs.proofs.Worlds.{tolds, told-of}
use Rattle.qp_calls_stimulus.specs.declared.doing.Stimulated.{Stimulated}
use Rattle.qp_calls_stimulus.specs.declared.doing.Stimulated.TheVariants as stimulated
use Rattle.qp_calls_stimulus.specs.Stimulating as stimulating
use Rattle.qp_kernel_runs.specs.Acting.{is_halt}
use Rattle.qp_kernel_runs.specs.Choosing.{left_of}
use Rattle.qp_kernel_runs.specs.SimHolds.{SimHolds, BegunCounts, is_whole, is_unspilled, last_source}
use Rattle.qp_kernel_runs.specs.Visiting.{VisitLeaves, Amounts, OtherHasStopped}
use Rattle.qp_kernel_runs.proofs.OrderLemmas.{placed-untold}
use Rattle.qp_model.proofs.LineLemmas.{same_number}
use Rattle.qp_model.proofs.ListLemmas.{all-push}
use Rattle.qp_model.proofs.RecordLemmas.{lane-length}

-- The records of a whole stimulus.
none-stim : (g : List Told) → AreBehind false (source_items g) → count_by (λ t. is_some (stim_of t.body)) g ≡ 0
none-stim [] h = refl
none-stim (t ∷ ts) h =
    let first = count-cons (λ (u : Told). is_some (stim_of u.body)) t ts in
    let here = ap (λ (b : Bool). as_one b) (ap is_some h.0) in
    let later = none-stim ts h.2 in
    omega (arith, first, here, later)

none-spill : (g : List Told) → AreBehind false (source_items g) → list_any (λ t. is_spill t.body) g ≡ false
none-spill [] h = refl
none-spill (t ∷ ts) h = go (is_spill t.body) h.1 (none-spill ts h.2)
  where
    go : (u : Bool) → (false || not u) ≡ true → list_any (λ t. is_spill t.body) ts ≡ false → (u || list_any (λ t. is_spill t.body) ts) ≡ false
    go true e k = absurd (cc)
    go false e k = k

module _ (sys : System) (s : Stim) (place look : ℕ) (one : List Told) (fits : StimFits sys sim s false one) where
  behind : AreBehind false (source_items one)
  behind = ((stimuli_are_their_own sys s false).0 one fits).behind

  pub whole-one : (at source : ℕ) → is_whole (record { at = at; source = source; told = stimulating.begun_records place look one }) ≡ true
  whole-one at source =
      let first = count-cons (λ (u : Told). is_some (stim_of u.body)) (plain (body.Stim place look)) one in
      let none = none-stim one behind in
      let sum : count_by (λ (u : Told). is_some (stim_of u.body)) (stimulating.begun_records place look one) ≡ 1 = omega (arith, first, none) in
      ap (λ n. n == 1) sum

  pub unspilled-one : (at source : ℕ) → is_unspilled (record { at = at; source = source; told = stimulating.begun_records place look one }) ≡ true
  unspilled-one at source = ap not (none-spill one behind)

-- the source that acted last is the last
last-more : (n : ℕ) (hs : List Happening) (h : Happening) → last_source n (hs ++ h ∷ []) ≡ h.source
unfolding last_source
last-more n [] h = refl
last-more n (x ∷ hs) h = last-more x.source hs h

-- each source has as many records as it has begun stimuli
pub begun-few : (n : ℕ) (hs : List Happening) → list_all is_whole hs ≡ true → begun_by n hs ≤ length (told_by_source n hs)
unfolding begun_by told_by_source
begun-few n [] h = omega arith
begun-few n (x ∷ hs) h =
    let parts = and_parts _ _ h in
    let later = begun-few n hs parts.1 in
    let both = length-append (cond (x.source == n) x.told []) (told_by_source n hs) in
    let here = go (x.source == n) x.told parts.0 in
    omega (arith, later, both, here)
  where
    go : (u : Bool) (g : List Told) → (count_by (λ t. is_some (stim_of t.body)) g == 1) ≡ true → cond u 1 0 ≤ length (cond u g [])
    go false g e = omega arith
    go true [] e = absurd (cc)
    go true (t ∷ ts) e = omega arith

-- no `spill` stands in the lane of a source whose stimuli came whole
pub none-spilled : (n : ℕ) (hs : List Happening) → list_all is_unspilled hs ≡ true → spills_told (lane_told n hs) ≡ false
unfolding told_by_source
none-spilled n [] h = refl
none-spilled n (x ∷ hs) h =
    let parts = and_parts _ _ h in
    ap spills_told (map-append (for_object 0) (cond (x.source == n) x.told []) (told_by_source n hs))
    ∙ joined (cond (x.source == n) x.told []) (lane_told n hs) (go (x.source == n) x.told parts.0) (none-spilled n hs parts.1)
  where
    go : (u : Bool) (g : List Told) → not (list_any (λ t. is_spill t.body) g) ≡ true → list_any (λ t. is_spill t.body) (cond u g []) ≡ false
    go false g e = refl
    go true g e = not-true _ e

    joined : (g : List Told) (ts : List ToldItem) → list_any (λ t. is_spill t.body) g ≡ false → spills_told ts ≡ false → spills_told (map (for_object 0) g ++ ts) ≡ false
    joined [] ts a b = b
    joined (t ∷ g) ts a b = ors (is_spill t.body) _ a (λ k. joined g ts k b)
      where
        ors : (u v : Bool) {w : Bool} → (u || v) ≡ false → (v ≡ false → w ≡ false) → (u || w) ≡ false
        ors true v a f = absurd (cc)
        ors false v a f = f a

-- a lane is at most that long
one-few : (g : Log) → length (log_recs g) ≤ 1000001
one-few g = let all = length-kinds (lane_items g.recs.items) in let n = lane-length g.recs.items in omega (arith, all, n, g.few, g.spills)

lane-few : (gs : List Log) (k : ℕ) → length (get_or (map log_recs gs) k []) ≤ 1000001
lane-few [] k = omega arith
lane-few (g ∷ gs) zero = one-few g
lane-few (g ∷ gs) (suc k) = lane-few gs k

pub told-few : (w : PlainWorld) (k : ℕ) → length (get_or (tolds w) k []) ≤ 1000001
told-few w k =
    let few = lane-few (logs_of w.book) k in
    let told = ap length (told-of w k) ∙ told-length (facts_in w.sys.now (lists_of w.book)) 0 (lane_items (lane_recs (lists_of w.book) k)) in
    let items = lane-length (lane_recs (lists_of w.book) k) in
    omega (arith, few, told, items)

pub within-drop : {A : Type 0} (n : ℕ) (xs ys : List A) (y : A) → drop n xs ≡ y ∷ ys → n < length xs
within-drop n [] ys y e = absurd (cc (sym (drop_all n [] (omega arith)) ∙ e))
within-drop zero (x ∷ xs) ys y e = omega arith
within-drop (suc n) (x ∷ xs) ys y e = let k = within-drop n xs ys y e in omega (arith, k)

apart : (n j : ℕ) → (n == j) ≡ false → (j + 1 == n + 1) ≡ false
apart n j e = grind (arith, nat_tests)

pub drop-get : {A : Type 0} (n : ℕ) (xs : List A) (d : A) → n < length xs → (ys : List A) × (drop n xs ≡ get_or xs n d ∷ ys)
drop-get n [] d lt = absurd (omega (arith, lt))
drop-get zero (x ∷ xs) d lt = (xs, refl)
drop-get (suc n) (x ∷ xs) d lt = drop-get n xs d (omega (arith, lt))

within-some : {A : Type 0} (n : ℕ) (xs : List A) → drop n xs ≢ [] → n < length xs
within-some n [] some = absurd (some (drop_all n [] (omega arith)))
within-some zero (x ∷ xs) some = omega arith
within-some (suc n) (x ∷ xs) some = let k = within-some n xs some in omega (arith, k)

-- the stimulus that is read is the first that is left
pub record IsNext (plan : List (List Stim)) (counted : List ℕ) (j n : ℕ) (s : Stim) : Type 0 where
  pub left : List Stim
  pub its : left_of plan counted j ≡ s ∷ left
  pub number : n ≡ get_or counted j 0

pub next-is : (plan : List (List Stim)) (counted : List ℕ) (j n : ℕ) (xs : List Stim) (s : Stim) → xs ≡ get_or plan j xs → n ≡ get_or counted j n → s ≡ get_or xs n s
    → j < length plan → length counted ≡ length plan → left_of plan counted j ≢ [] → IsNext plan counted j n s
next-is plan counted j n xs s there at here lt long some =
    let list : xs ≡ get_or plan j [] = any-default plan j xs [] lt there in
    let number : n ≡ get_or counted j 0 = any-default counted j n 0 (omega (arith, lt, long)) at in
    let few : n < length xs = subst (λ l. n < length l) (sym list) (subst (λ k. k < length (get_or plan j [])) (sym number) (within-some (get_or counted j 0) (get_or plan j []) some)) in
    let found = drop-get n xs s few in
    record {
      left = found.0;
      its = ap (λ k. drop k (get_or plan j [])) (sym number) ∙ ap (drop n) (sym list) ∙ found.1 ∙ ap (λ x. x ∷ found.0) (sym here);
      number = number;
    }

module _ (plan : List (List Stim)) (counted : List ℕ) (last : ℕ) (hs : List Happening) (v w : LaneView) (old : SimHolds plan counted last false hs v)
    (sys : System) (s : Stim) (left : List Stim) (j look place : ℕ) (lt : j < length plan) (its : left_of plan counted j ≡ s ∷ left) (place_is : place ≡ get_or counted j 0 + 1)
    (g : List Told) (leaves : VisitLeaves (j + 1) g v w) where
  abbrev h : Happening
  h = record { at = length v.told; source = j + 1; told = g }

  abbrev next : List ℕ
  next = slice_set counted j place

  rises_told : rises 0 hs (0 + length (untold_all v.told)) ≡ true
  rises_told = let n = length-map v.told untold in subst (λ k. rises 0 hs k ≡ true) (omega (arith, n)) old.rises

  lane_more : (n : ℕ) → lane_told n (hs ++ h ∷ []) ≡ lane_told n hs ++ map (for_object 0) (cond (j + 1 == n) g [])
  lane_more n = ap (map (for_object 0)) (told-happens n hs h) ∙ map-append (for_object 0) (told_by_source n hs) (cond (j + 1 == n) g [])

  sources_now : (n : ℕ) → 0 < n → n ≤ length plan → (u : Bool) → (n == j + 1) ≡ u → get_or w.aside.told n [] ≡ lane_told n (hs ++ h ∷ [])
  sources_now n some few true e =
      let is : n ≡ j + 1 = grind (arith, nat_tests) in
      ap (λ k. get_or w.aside.told k []) is ∙ leaves.told ∙ ap (λ l. l ++ map (for_object 0) g) (old.sources (j + 1) (omega arith) (omega (arith, lt)))
      ∙ sym (lane_more (j + 1) ∙ ap (λ u. lane_told (j + 1) hs ++ map (for_object 0) (cond u g [])) (same_number (j + 1)))
      ∙ ap (λ k. lane_told k (hs ++ h ∷ [])) (sym is)
  sources_now n some few false e =
      let off : (j + 1 == n) ≡ false = grind (arith, nat_tests) in
      leaves.others n (eqb-false n (j + 1) e) ∙ old.sources n some few
      ∙ sym (lane_more n ∙ ap (λ u. lane_told n hs ++ map (for_object 0) (cond u g [])) off ∙ append-nil (lane_told n hs))

  begun_now : BegunCounts plan counted last hs → (n : ℕ) → n < length plan → (u : Bool) → (n == j) ≡ u → get_or next n 0 ≡ begun_by (n + 1) (hs ++ h ∷ [])
  begun_now c n few true e =
      let is : n ≡ j = eqb-true n j e in
      let room : j < length counted = let long = old.counted in omega (arith, long, lt) in
      let more = begun-happens (j + 1) hs h in
      let self : as_one (j + 1 == j + 1) ≡ 1 = ap as_one (same_number (j + 1)) in
      let was = c.begun_are j lt in
      let here : get_or next j 0 ≡ place = get_or-set_same counted j place 0 room in
      ap (λ k. get_or next k 0) is ∙ omega (arith, here, place_is, was, more, self) ∙ ap (λ k. begun_by (k + 1) (hs ++ h ∷ [])) (sym is)
  begun_now c n few false e =
      let more = begun-happens (n + 1) hs h in
      let off : as_one (j + 1 == n + 1) ≡ 0 = ap as_one (apart n j e) in
      let was = c.begun_are n few in
      let here : get_or next n 0 ≡ get_or counted n 0 = get_or-set_other counted j n place 0 (eqb-false n j e) in
      omega (arith, here, was, more, off)

  few_now : BegunCounts plan counted last hs → (n : ℕ) → n < length plan → (u : Bool) → (n == j) ≡ u → get_or next n 0 ≤ length (get_or plan n [])
  few_now c n few true e =
      let is : n ≡ j = eqb-true n j e in
      let room : j < length counted = let long = old.counted in omega (arith, long, lt) in
      let here : get_or next j 0 ≡ place = get_or-set_same counted j place 0 room in
      let one = within-drop (get_or counted j 0) (get_or plan j []) left s its in
      subst (λ k. get_or next k 0 ≤ length (get_or plan k [])) (sym is) (omega (arith, here, place_is, one))
  few_now c n few false e =
      let here : get_or next n 0 ≡ get_or counted n 0 = get_or-set_other counted j n place 0 (eqb-false n j e) in
      let was = c.few n few in
      omega (arith, here, was)

  counts_now : (one : List Told) → g ≡ stimulating.begun_records place look one → StimFits sys sim s false one → BegunCounts plan next (j + 1) (hs ++ h ∷ [])
  counts_now one is fits =
      let c = old.counts refl in
      record {
        whole = all-push is_whole hs h c.whole (subst (λ l. is_whole (record { at = length v.told; source = j + 1; told = l }) ≡ true) (sym is) (whole-one sys s place look one fits (length v.told) (j + 1)));
        calm = all-push is_unspilled hs h c.calm (subst (λ l. is_unspilled (record { at = length v.told; source = j + 1; told = l }) ≡ true) (sym is) (unspilled-one sys s place look one fits (length v.told) (j + 1)));
        sources = all-push (λ x. nat_lt 0 x.source) hs h c.sources (above j);
        begun_are = λ n few. begun_now c n few (n == j) refl;
        few = λ n few. few_now c n few (n == j) refl;
        last_is = sym (last-more 0 hs h);
      }
    where
      above : (k : ℕ) → nat_lt 0 (k + 1) ≡ true
      above k = grind (arith, nat_tests)

  module _ (answer : Stimulated) (had : ℕ) (amounts : Amounts sys s place look had g v w answer) where
    counts_of : (x : Stimulated) → Amounts sys s place look had g v w x → is_halt x ≡ false → BegunCounts plan next (j + 1) (hs ++ h ∷ [])
    counts_of stimulated.Done k e = counts_now k.0 k.1 (k.2 sim)
    counts_of stimulated.Tried k e = absurd k
    counts_of stimulated.Stopped k e = absurd (cc)
    counts_of stimulated.Memory k e = absurd (cc)

    halts_of : (x : Stimulated) → Amounts sys s place look had g v w x → is_halt x ≡ true → OtherHasStopped w
    halts_of stimulated.Done k e = absurd (cc)
    halts_of stimulated.Tried k e = absurd k
    halts_of stimulated.Stopped k e = k.0
    halts_of stimulated.Memory k e = k

    pub holds-after : SimHolds plan next (j + 1) (is_halt answer) (hs ++ h ∷ []) w
    holds-after = record {
      home = leaves.lane ∙ old.home;
      lanes = leaves.lanes ∙ old.lanes;
      purses = leaves.purses ∙ old.purses;
      counted = length-set counted j place ∙ old.counted;
      recent = omega (arith, lt);
      order =
          leaves.log ∙ ap (λ l. l ++ map (placed_by (j + 1)) (map (for_object 0) g)) old.order
          ∙ ap (λ l. run_order 0 (untold_all v.told) hs ++ l) (placed-untold (j + 1) (map (for_object 0) g))
          ∙ sym (order-happens 0 (untold_all v.told) hs h rises_told (let n = length-map v.told untold in omega (arith, n)))
          ∙ ap (λ t. run_order 0 (untold_all t) (hs ++ h ∷ [])) (sym leaves.kept.told);
      sources = λ n some few. sources_now n some few (n == j + 1) refl;
      rises = subst (λ t. rises 0 (hs ++ h ∷ []) (length t) ≡ true) (sym leaves.kept.told) (rises-happens 0 hs h old.rises);
      counts = counts_of answer amounts;
      halts = halts_of answer amounts;
    }
