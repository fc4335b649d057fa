-- The order of a run stays by records of lane 0, by looks and by what happens in them, to its end.
use Rattle.std.proofs.Common.{◌≡◌, ℕ, zero, suc, ◌+◌, ◌-◌, ◌<◌, ◌≤◌, ◌==◌, Bool, true, false, ◌⊎◌, List, [], ◌∷◌, ◌++◌, map, length, take, drop, get_or, refl, sym, ◌∙◌, ap, subst, arith, inl, inr, Some, None, append_assoc, append-nil}
use Rattle.std.specs.List.{count_by, list_any}
use Rattle.std.specs.Option.{is_some}
use Rattle.std.proofs.lemmas.Bool.Decides.{nat_tests}
use Rattle.std.proofs.lemmas.List.{map-append, length-append, length-map}
use Rattle.qp_model.specs.declared.stimulus.Stim.{Stim}
use Rattle.qp_model.specs.declared.systems.System.{System}
use Rattle.qp_model.specs.declared.bodies.Body.TheVariants as body
use Rattle.qp_model.specs.Record.{Item}
use Rattle.qp_model.specs.Told.{Told, ToldItem, plain, for_object, untold}
use Rattle.qp_model.specs.Kernels.{sim}
use Rattle.qp_model.specs.Knowing.{told_alone}
use Rattle.qp_model.specs.Ends.{is_end, may_cut, ends_last}
use Rattle.qp_model.specs.Sources.{StimFits}
use Rattle.qp_model.specs.OneOrder.{acts_next, begun, stim_of}
use Rattle.qp_model.proofs.KnowingLemmas.{told-source}
use Rattle.qp_calls.specs.LaneView.{LaneView, Gains, Happening}
use Rattle.qp_model_order.specs.RunOrder.{placed, has_stim, RunsInOrder, EndsInOrder}
use Rattle.qp_model_order.specs.Placing.{all_placed, look_item, spill_item, LooksNone}
use Rattle.qp_model_order.specs.SourceRun.{untold_all, SourceGoes, SourceEnds}
use Rattle.qp_model_order.specs.Stimulus.{source_items}
use Rattle.qp_model_order.proofs.OrderLaws.{zero_comes_last, free_look_comes_last, stimulus_comes_last, order_ends_in_zero, order_ends_in_stimulus, order_ends_in_full_lane, stimuli_are_their_own, one_look_changes}
use Rattle.qp_model_order.proofs.SourceLanes.{source_lane_goes_on, source_lane_is_whole, source_lane_stops}
use Rattle.qp_model_order.proofs.StimulusForm.{items-append}
use Rattle.qp_model_order.proofs.NumberLemmas.{acts-place}
use Rattle.qp_kernel.specs.Happenings.{IsInOrder, IsOrderEnded, SourcesMarch, SourcesHalt, begun_by, has_no_stim, lane_told, lanes_from, lanes_of, lane_order, rises, told_by_source}
use Rattle.qp_kernel.specs.Interrupting.{Acts, Comes, FindsNoRoom, Happens, HappensInPart, HappensToFail, HasNone, IsStopped, is_unset, source_stimuli}
use Rattle.qp_kernel.specs.Turning.{look_told}
use Rattle.qp_kernel.proofs.HappeningLemmas.{acts-more, begun-happens, begun-told, lanes-grow, look-idle, order-happens, order-more, rises-happens, rises-more, runs-count, told-happens}

-- happenings stand within the records of their lane
pub within : (v : LaneView) → rises 0 v.happened (length v.told) ≡ true → rises 0 v.happened (0 + length (untold_all v.told)) ≡ true
within v h = let long : 0 + length (untold_all v.told) ≡ length v.told = let same = length-map v.told untold in omega (arith, same) in subst (λ k. rises 0 v.happened k ≡ true) (sym long) h

-- records of lane 0, none of which is a look
pub in_order-grows : (sys : System) (looks : ℕ) (ts : List ToldItem) (v w : LaneView) → Gains ts v w → LooksNone (untold_all ts) → list_any (λ i. is_end i.body) (untold_all ts) ≡ false
    → IsInOrder sys looks v → IsInOrder sys looks w
in_order-grows sys looks ts v w gains none calm h = record {
  order =
      rw (gains.plan, gains.told, gains.happened, map-append untold v.told ts, order-more 0 (untold_all v.told) (untold_all ts) v.happened (within v h.rises))
      (zero_comes_last sys v.plan looks (untold_all v.told) (lanes_of v) (lane_order v) h.order (untold_all ts) none calm);
  sources = rw (gains.plan, gains.happened) h.sources;
  rises = rw (gains.happened, gains.told) (rises-more 0 v.happened (length v.told) (length (v.told ++ ts)) (let long = length-append v.told ts in omega (arith, long)) h.rises);
}

-- the order, with a look at its end
pub order-looked : (v u : LaneView) (n floor : ℕ) → Gains (look_told n floor ∷ []) v u → rises 0 v.happened (length v.told) ≡ true
    → lane_order u ≡ lane_order v ++ placed 0 (look_item n floor) ∷ []
order-looked v u n floor gains h =
    rw (gains.told, gains.happened, map-append untold v.told (look_told n floor ∷ [])) (order-more 0 (untold_all v.told) (look_item n floor ∷ []) v.happened (within v h))

-- A look in which no source may act.
pub in_order-looks : (sys : System) (looks n floor : ℕ) (base : Bool) (v u w : LaneView) → v.sys ≡ sys → Gains (look_told n floor ∷ []) v u → HasNone true base u w
    → n ≡ looks + 1 → base ≡ (floor == 0) → has_no_stim u → IsInOrder sys looks v → IsInOrder sys n w
in_order-looks sys looks n floor base v u w of gains none next same no_stim h =
    let order = order-looked v u n floor gains h.rises in
    let asked : acts_next u.sys u.plan (lane_order u) base ≡ None = none.none refl no_stim in
    let nobody : acts_next sys v.plan (lane_order v) (floor == 0) ≡ None =
    sym (acts-more sys v.plan (lane_order v) (placed 0 (look_item n floor)) (floor == 0) (look-idle 0 n floor))
    ∙ ap (λ xs. acts_next sys v.plan xs (floor == 0)) (sym order)
    ∙ ap (λ b. acts_next sys v.plan (lane_order u) b) (sym same)
    ∙ ap (λ p. acts_next sys p (lane_order u) base) (sym gains.plan)
    ∙ ap (λ s. acts_next s u.plan (lane_order u) base) (sym (gains.sys ∙ of))
    ∙ asked in
    let looked = free_look_comes_last sys v.plan looks (untold_all v.told) (lanes_of v) (lane_order v) h.order n floor next nobody in
    let kept = none.untouched.kept in
    record {
      order =
          rw (kept.plan, kept.told, none.happened, gains.plan, gains.told, gains.happened, map-append untold v.told (look_told n floor ∷ []), order-more 0 (untold_all v.told) (look_item n floor ∷ []) v.happened (within v h.rises)) looked;
      sources = rw (kept.plan, none.happened, gains.plan, gains.happened) h.sources;
      rises =
          rw (none.happened, kept.told, gains.happened, gains.told)
          (rises-more 0 v.happened (length v.told) (length (v.told ++ look_told n floor ∷ [])) (let long = length-append v.told (look_told n floor ∷ []) in omega (arith, long)) h.rises);
    }

-- What a source has done, where its next stimulus stands.

drop-nil : {A : Type 0} (k : ℕ) → drop {A = A} k [] ≡ []
drop-nil zero = refl
drop-nil (suc k) = refl

next-taken : (b k : ℕ) (ss : List Stim) (s : Stim) (left : List Stim) → length (take b ss) ≡ k → drop k ss ≡ s ∷ left
    → (take (suc b) ss ≡ take b ss ++ s ∷ []) × (take b ss ++ s ∷ left ≡ ss)
next-taken zero k ss s left len is =
    let here : ss ≡ s ∷ left = subst (λ j. drop j ss ≡ s ∷ left) (sym len) is in
    (ap (take 1) here, sym here)
next-taken (suc b) k [] s left len is = absurd (cc (drop-nil {A = Stim} k))
next-taken (suc b) zero (x ∷ xs) s left len is = absurd (omega (arith, len))
next-taken (suc b) (suc k) (x ∷ xs) s left len is =
    let later = next-taken b k xs s left (omega (arith, len)) is in
    (ap (λ ys. x ∷ ys) later.0, ap (λ ys. x ∷ ys) later.1)

lane-happens : (n : ℕ) (hs : List Happening) (h : Happening) → (h.source == n) ≡ true → lane_told n (hs ++ h ∷ []) ≡ lane_told n hs ++ map (for_object 0) h.told
lane-happens n hs h is = ap (map (for_object 0)) (told-happens n hs h ∙ rw is refl) ∙ map-append (for_object 0) (told_by_source n hs) h.told

lane-still : (n : ℕ) (hs : List Happening) (h : Happening) → (h.source == n) ≡ false → lane_told n (hs ++ h ∷ []) ≡ lane_told n hs
lane-still n hs h is = ap (map (for_object 0)) (told-happens n hs h ∙ rw is (append-nil (told_by_source n hs)))

-- the source of a stimulus that acts has done those before it
pub record Ready (ss : List Stim) (hs : List Happening) (source place : ℕ) (s : Stim) (left : List Stim) : Type 0 where
  pub counted : 1 + length (take (begun_by source hs) ss) ≡ place
  pub next : take (suc (begun_by source hs)) ss ≡ take (begun_by source hs) ss ++ s ∷ []
  pub all : take (begun_by source hs) ss ++ s ∷ left ≡ ss

ready : (sys : System) (v : LaneView) (base : Bool) (source place : ℕ) (s : Stim) (a : Acts v base source place s) → v.sys ≡ sys → has_no_stim v
    → (ss : List Stim) → source_stimuli v.plan source ≡ ss → SourceGoes sys sim (take (begun_by source v.happened) ss) (lane_told source v.happened) → Ready ss v.happened source place s a.left
ready sys v base source place s a of no_stim ss is goes =
    let counts : place ≡ begun (lane_order v) source + 1 = acts-place v.sys v.plan (lane_order v) base (record { source = source; place = place }) (a.next no_stim) in
    let told : begun (lane_order v) source ≡ count_by (λ (t : Told). is_some (stim_of t.body)) (told_by_source source v.happened) = begun-told source 0 (untold_all v.told) v.happened a.some in
    let runs : count_by (λ (t : Told). is_some (stim_of t.body)) (told_by_source source v.happened) ≡ length (take (begun_by source v.happened) ss) =
    ap (count_by (λ (t : Told). is_some (stim_of t.body))) (sym (told-source (told_by_source source v.happened))) ∙ runs-count sys 1 (take (begun_by source v.happened) ss) (told_alone (lane_told source v.happened)) goes.runs in
    let len : length (take (begun_by source v.happened) ss) ≡ place - 1 = omega (arith, counts, told, runs) in
    let parts = next-taken (begun_by source v.happened) (place - 1) ss s a.left len (subst (λ xs. drop (place - 1) xs ≡ s ∷ a.left) is a.its) in
    record { counted = omega (arith, counts, told, runs); next = parts.0; all = parts.1 }

-- what is taken and what is left
whole : (b : ℕ) (ss : List Stim) → drop b ss ≡ [] → take b ss ≡ ss
whole zero ss is = sym is
whole (suc b) [] is = refl
whole (suc b) (x ∷ xs) is = ap (λ ys. x ∷ ys) (whole b xs is)

parted : (b : ℕ) (ss : List Stim) (s : Stim) (left : List Stim) → drop b ss ≡ s ∷ left → take b ss ++ s ∷ left ≡ ss
parted zero ss s left is = sym is
parted (suc b) [] s left is = absurd (cc)
parted (suc b) (x ∷ xs) s left is = ap (λ ys. x ∷ ys) (parted b xs s left is)

-- where sources may stay
module _ (sys : System) (end : ℕ) (cuts : Bool) (may : may_cut end ≡ true) where
  -- a source that has come so far may stay there
  stays : (ss : List Stim) (b : ℕ) (told : List ToldItem) → SourceGoes sys sim (take b ss) told → SourceEnds sys sim end cuts ss told
  stays ss b told goes = go (drop b ss) refl
    where
      go : (rest : List Stim) → drop b ss ≡ rest → SourceEnds sys sim end cuts ss told
      go [] is = source_lane_is_whole sys end cuts ss told (subst (λ xs. SourceGoes sys sim xs told) (whole b ss is) goes)
      go (s ∷ left) is = subst (λ xs. SourceEnds sys sim end cuts xs told) (parted b ss s left is) ((source_lane_stops sys end (take b ss) told may goes s left).0 cuts)

  pub march-halts : (hs : List Happening) (n : ℕ) (plan : List (List Stim)) → SourcesMarch sys n plan hs → SourcesHalt sys end cuts n plan hs
  unfolding SourcesMarch SourcesHalt
  march-halts hs n [] m = tt
  march-halts hs n (ss ∷ rest) m = (stays ss (begun_by n hs) (lane_told n hs) m.0, march-halts hs (n + 1) rest m.1)

-- Where all sources are, when one of them has done more.
module _ (sys : System) (hs : List Happening) (h : Happening) where
  abbrev more : List Happening
  more = hs ++ h ∷ []

  march-still : (n : ℕ) (plan : List (List Stim)) → h.source < n → SourcesMarch sys n plan hs → SourcesMarch sys n plan more
  unfolding SourcesMarch
  march-still n [] lt m = tt
  march-still n (ss ∷ rest) lt m =
      let other : (h.source == n) ≡ false = grind (arith, nat_tests, lt) in
      let count : begun_by n more ≡ begun_by n hs = begun-happens n hs h ∙ rw other (omega arith) in
      (rw (lane-still n hs h other, count) m.0, march-still (n + 1) rest (omega (arith, lt)) m.1)

  march-grows : (n : ℕ) (plan : List (List Stim)) → n ≤ h.source → h.source < n + length plan
      → ((ss : List Stim) → get_or plan (h.source - n) [] ≡ ss → SourceGoes sys sim (take (begun_by h.source hs) ss) (lane_told h.source hs)
      → SourceGoes sys sim (take (suc (begun_by h.source hs)) ss) (lane_told h.source hs ++ map (for_object 0) h.told))
      → SourcesMarch sys n plan hs → SourcesMarch sys n plan more
  unfolding SourcesMarch
  march-grows n [] le lt own m = absurd (omega (arith, le, lt))
  march-grows n (ss ∷ rest) le lt own m = go (h.source == n) refl (λ above. march-grows (n + 1) rest above (omega (arith, lt)) (λ xs is. own xs (past above ∙ is)) m.1)
    where
      past : n + 1 ≤ h.source → get_or (ss ∷ rest) (h.source - n) [] ≡ get_or rest (h.source - (n + 1)) []
      past above = let step : h.source - n ≡ suc (h.source - (n + 1)) = omega (arith, above) in ap (λ k. get_or (ss ∷ rest) k []) step

      go : (b : Bool) → (h.source == n) ≡ b → (n + 1 ≤ h.source → SourcesMarch sys (n + 1) rest more) → SourcesMarch sys n (ss ∷ rest) more
      go true is later =
          let same : h.source ≡ n = grind (arith, nat_tests, is) in
          let none : h.source - n ≡ 0 = omega (arith, same) in
          let goes = own ss (ap (λ k. get_or (ss ∷ rest) k []) none) (subst (λ k. SourceGoes sys sim (take (begun_by k hs) ss) (lane_told k hs)) (sym same) m.0) in
          let here : SourceGoes sys sim (take (suc (begun_by n hs)) ss) (lane_told n hs ++ map (for_object 0) h.told) = subst (λ k. SourceGoes sys sim (take (suc (begun_by k hs)) ss) (lane_told k hs ++ map (for_object 0) h.told)) same goes in
          let count : begun_by n more ≡ suc (begun_by n hs) = begun-happens n hs h ∙ rw is (omega arith) in
          (rw (lane-happens n hs h is, count) here, march-still (n + 1) rest (omega (arith, same)) m.1)
      go false is later =
          let count : begun_by n more ≡ begun_by n hs = begun-happens n hs h ∙ rw is (omega arith) in
          (rw (lane-still n hs h is, count) m.0, later (grind (arith, nat_tests, is, le)))

  module _ (end : ℕ) (cuts : Bool) (may : may_cut end ≡ true) where
    halt-still : (n : ℕ) (plan : List (List Stim)) → h.source < n → SourcesMarch sys n plan hs → SourcesHalt sys end cuts n plan more
    unfolding SourcesMarch SourcesHalt
    halt-still n [] lt m = tt
    halt-still n (ss ∷ rest) lt m =
        let other : (h.source == n) ≡ false = grind (arith, nat_tests, lt) in
        (rw (lane-still n hs h other) (stays sys end cuts may ss (begun_by n hs) (lane_told n hs) m.0), halt-still (n + 1) rest (omega (arith, lt)) m.1)

    halt-grows : (n : ℕ) (plan : List (List Stim)) → n ≤ h.source → h.source < n + length plan
        → ((ss : List Stim) → get_or plan (h.source - n) [] ≡ ss → SourceGoes sys sim (take (begun_by h.source hs) ss) (lane_told h.source hs)
        → SourceEnds sys sim end cuts ss (lane_told h.source hs ++ map (for_object 0) h.told))
        → SourcesMarch sys n plan hs → SourcesHalt sys end cuts n plan more
    unfolding SourcesMarch SourcesHalt
    halt-grows n [] le lt own m = absurd (omega (arith, le, lt))
    halt-grows n (ss ∷ rest) le lt own m = go (h.source == n) refl (λ above. halt-grows (n + 1) rest above (omega (arith, lt)) (λ xs is. own xs (past above ∙ is)) m.1)
      where
        past : n + 1 ≤ h.source → get_or (ss ∷ rest) (h.source - n) [] ≡ get_or rest (h.source - (n + 1)) []
        past above = let step : h.source - n ≡ suc (h.source - (n + 1)) = omega (arith, above) in ap (λ k. get_or (ss ∷ rest) k []) step

        go : (b : Bool) → (h.source == n) ≡ b → (n + 1 ≤ h.source → SourcesHalt sys end cuts (n + 1) rest more) → SourcesHalt sys end cuts n (ss ∷ rest) more
        go true is later =
            let same : h.source ≡ n = grind (arith, nat_tests, is) in
            let none : h.source - n ≡ 0 = omega (arith, same) in
            let ends = own ss (ap (λ k. get_or (ss ∷ rest) k []) none) (subst (λ k. SourceGoes sys sim (take (begun_by k hs) ss) (lane_told k hs)) (sym same) m.0) in
            let here : SourceEnds sys sim end cuts ss (lane_told n hs ++ map (for_object 0) h.told) = subst (λ k. SourceEnds sys sim end cuts ss (lane_told k hs ++ map (for_object 0) h.told)) same ends in
            (rw (lane-happens n hs h is) here, halt-still (n + 1) rest (omega (arith, same)) m.1)
        go false is later = (rw (lane-still n hs h is) (stays sys end cuts may ss (begun_by n hs) (lane_told n hs) m.0), later (grind (arith, nat_tests, is, le)))

-- What a look let happen.

-- happenings stay within the lane, with the look
risen : (v u : LaneView) (n floor : ℕ) → Gains (look_told n floor ∷ []) v u → rises 0 v.happened (length v.told) ≡ true → rises 0 u.happened (length u.told) ≡ true
risen v u n floor gains h =
    rw (gains.happened, gains.told) (rises-more 0 v.happened (length v.told) (length (v.told ++ look_told n floor ∷ [])) (let long = length-append v.told (look_told n floor ∷ []) in omega (arith, long)) h)

-- the order, with the look and what happened in it
order-came : (v u w : LaneView) (n floor source : ℕ) (g : List Told) → Gains (look_told n floor ∷ []) v u → rises 0 v.happened (length v.told) ≡ true
    → w.told ≡ u.told → Comes source g u w → lane_order w ≡ (lane_order v ++ placed 0 (look_item n floor) ∷ []) ++ all_placed source (source_items g)
order-came v u w n floor source g gains h told comes =
    rw (told, comes)
    (order-happens 0 (untold_all u.told) u.happened (record { at = length u.told; source = source; told = g }) (within u (risen v u n floor gains h)) (let long = length-map u.told untold in omega (arith, long))
    ∙ ap (λ xs. xs ++ all_placed source (source_items g)) (order-looked v u n floor gains h))

-- A look in which a stimulus happened.
pub record HasHappened (sys : System) (n : ℕ) (v w : LaneView) : Type 0 where
  pub order : IsInOrder sys n w
  pub own : has_stim (lanes_of w) n ≡ true
  pub others : (k : ℕ) → (n == k) ≡ false → has_stim (lanes_of w) k ≡ has_stim (lanes_of v) k

pub in_order-happens : (sys : System) (looks n floor : ℕ) (base : Bool) (v u w : LaneView) → v.sys ≡ sys → Gains (look_told n floor ∷ []) v u → Happens n base u w
    → n ≡ looks + 1 → base ≡ (floor == 0) → has_no_stim u → IsInOrder sys looks v → HasHappened sys n v w
in_order-happens sys looks n floor base v u w of gains hap next same no_stim h =
    let a = hap.acts in
    let kept = hap.untouched.kept in
    let hs : List Happening = v.happened in
    let g : List Told = plain (body.Stim hap.place n) ∷ hap.one in
    let one : Happening = record { at = length u.told; source = hap.source; told = g } in
    let few : hap.source < 1 + length v.plan = let le : hap.source ≤ length v.plan = subst (λ p. hap.source ≤ length p) gains.plan a.few in omega (arith, le) in
    let grown = lanes-grow 1 v.plan hs one (let some = a.some in omega (arith, some)) few in
    let counted = grown.counted in
    let seat : 1 + length grown.front ≡ hap.source = counted in
    let sys_is : u.sys ≡ sys = gains.sys ∙ of in
    let asked : acts_next sys v.plan (lane_order v) (floor == 0) ≡ Some (record { source = 1 + length grown.front; place = hap.place }) =
    sym (acts-more sys v.plan (lane_order v) (placed 0 (look_item n floor)) (floor == 0) (look-idle 0 n floor))
    ∙ ap (λ xs. acts_next sys v.plan xs (floor == 0)) (sym (order-looked v u n floor gains h.rises))
    ∙ ap (λ b. acts_next sys v.plan (lane_order u) b) (sym same)
    ∙ ap (λ p. acts_next sys p (lane_order u) base) (sym gains.plan)
    ∙ ap (λ s. acts_next s u.plan (lane_order u) base) (sym sys_is)
    ∙ a.next no_stim
    ∙ ap (λ k. Some (record { source = k; place = hap.place })) (sym seat) in
    let fits : StimFits sys sim hap.s false hap.one = subst (λ s. StimFits s sim hap.s false hap.one) sys_is hap.fits in
    let items = (stimuli_are_their_own sys hap.s false).0 hap.one fits in
    let came = stimulus_comes_last sys v.plan looks (untold_all v.told) grown.front grown.here grown.back (lane_order v)
    (subst (λ ls. RunsInOrder sys v.plan looks (untold_all v.told) ls (lane_order v)) grown.old h.order) n floor hap.place (source_items hap.one)
    (record { next = next; acts = asked; lookless = items.lookless }) items.behind (items.calm refl) in
    let happened : w.happened ≡ hs ++ one ∷ [] = hap.comes ∙ rw gains.happened refl in
    let lanes : lanes_of w ≡ grown.front ++ (grown.here ++ source_items g) ∷ grown.back =
    ap (λ p. lanes_from 1 p w.happened) (kept.plan ∙ gains.plan) ∙ ap (lanes_from 1 v.plan) happened ∙ grown.new in
    let order : lane_order w ≡ lane_order v ++ placed 0 (look_item n floor) ∷ all_placed (1 + length grown.front) (source_items g) =
    order-came v u w n floor hap.source g gains h.rises kept.told hap.comes
    ∙ append_assoc (lane_order v) (placed 0 (look_item n floor) ∷ []) (all_placed hap.source (source_items g))
    ∙ ap (λ k. lane_order v ++ placed 0 (look_item n floor) ∷ all_placed k (source_items g)) (sym seat) in
    let told_is : untold_all w.told ≡ untold_all v.told ++ look_item n floor ∷ [] = ap untold_all (kept.told ∙ gains.told) ∙ map-append untold v.told (look_told n floor ∷ []) in
    let changes = one_look_changes grown.front grown.here grown.back n hap.place (source_items hap.one) false items.behind in
    record {
      order = record {
        order =
            subst (λ p. RunsInOrder sys p n (untold_all w.told) (lanes_of w) (lane_order w)) (sym (kept.plan ∙ gains.plan))
            (subst (λ is. RunsInOrder sys v.plan n is (lanes_of w) (lane_order w)) (sym told_is)
            (subst (λ ls. RunsInOrder sys v.plan n (untold_all v.told ++ look_item n floor ∷ []) ls (lane_order w)) (sym lanes)
            (subst (λ xs. RunsInOrder sys v.plan n (untold_all v.told ++ look_item n floor ∷ []) (grown.front ++ (grown.here ++ source_items g) ∷ grown.back) xs) (sym order) came)));
        sources = rw (kept.plan, gains.plan, happened) (march-grows sys hs one 1 v.plan (let some = a.some in omega (arith, some)) few
            (λ ss is goes.
            let r = ready sys u base hap.source hap.place hap.s a sys_is no_stim ss (ap (λ p. get_or p (hap.source - 1) []) gains.plan ∙ is)
            (subst (λ xs. SourceGoes sys sim (take (begun_by hap.source xs) ss) (lane_told hap.source xs)) (sym gains.happened) goes) in
            let next_is : take (suc (begun_by hap.source hs)) ss ≡ take (begun_by hap.source hs) ss ++ hap.s ∷ [] = subst (λ xs. take (suc (begun_by hap.source xs)) ss ≡ take (begun_by hap.source xs) ss ++ hap.s ∷ []) gains.happened r.next in
            let place_is : 1 + length (take (begun_by hap.source hs) ss) ≡ hap.place = subst (λ xs. 1 + length (take (begun_by hap.source xs) ss) ≡ hap.place) gains.happened r.counted in
            rw (next_is, sym place_is) (source_lane_goes_on sys (take (begun_by hap.source hs) ss) (lane_told hap.source hs) goes hap.s n hap.one fits))
            h.sources);
        rises = rw (hap.comes, kept.told) (rises-happens 0 u.happened one (risen v u n floor gains h.rises));
      };
      own = ap (λ ls. has_stim ls n) lanes ∙ changes.0;
      others = λ k other. ap (λ ls. has_stim ls k) lanes ∙ changes.1 k other ∙ ap (λ ls. has_stim ls k) (sym grown.old);
    }

-- The run stops early.

pub none-last : ends_last [] ≡ true
unfolding ends_last
none-last = refl

-- in lane 0, by records none of which is a look
pub order-ends : (sys : System) (looks end : ℕ) (ts : List ToldItem) (v w : LaneView) → may_cut end ≡ true → Gains ts v w → LooksNone (untold_all ts) → ends_last (untold_all ts) ≡ true
    → IsInOrder sys looks v → IsOrderEnded sys end w
order-ends sys looks end ts v w may gains none last h = record {
  cuts = false;
  order =
      rw (gains.plan, gains.told, gains.happened, map-append untold v.told ts, order-more 0 (untold_all v.told) (untold_all ts) v.happened (within v h.rises))
      (order_ends_in_zero sys v.plan looks (untold_all v.told) (lanes_of v) (lane_order v) h.order (untold_all ts) none last);
  sources = rw (gains.plan, gains.happened) (march-halts sys end false may v.happened 1 v.plan h.sources);
}

-- where it stands, with no record more
pub order-halts : (sys : System) (looks end : ℕ) (v w : LaneView) → may_cut end ≡ true → w.told ≡ v.told → w.plan ≡ v.plan → w.happened ≡ v.happened → IsInOrder sys looks v → IsOrderEnded sys end w
order-halts sys looks end v w may told plan happened h =
    let ends = order_ends_in_zero sys v.plan looks (untold_all v.told) (lanes_of v) (lane_order v) h.order [] tt none-last in
    record {
      cuts = false;
      order =
          rw (plan, told, happened)
          (subst (λ is. EndsInOrder sys v.plan is (lanes_of v) false (lane_order v)) (append-nil (untold_all v.told))
          (subst (λ xs. EndsInOrder sys v.plan (untold_all v.told ++ []) (lanes_of v) false xs) (append-nil (lane_order v)) ends));
      sources = rw (plan, happened) (march-halts sys end false may v.happened 1 v.plan h.sources);
    }

-- in a look, whose stimulus came in part, or failed, or found no room
module _ (sys : System) (looks n floor end : ℕ) (base : Bool) (v u w : LaneView) (of : v.sys ≡ sys) (gains : Gains (look_told n floor ∷ []) v u) (told : w.told ≡ u.told) (plan : w.plan ≡ u.plan)
    (next : n ≡ looks + 1) (same : base ≡ (floor == 0)) (no_stim : has_no_stim u) (may : may_cut end ≡ true) (h : IsInOrder sys looks v) where
  sys_is : u.sys ≡ sys
  sys_is = gains.sys ∙ of

  told_is : untold_all w.told ≡ untold_all v.told ++ look_item n floor ∷ []
  told_is = ap untold_all (told ∙ gains.told) ∙ map-append untold v.told (look_told n floor ∷ [])

  asks : (source place : ℕ) (s : Stim) → Acts u base source place s → acts_next sys v.plan (lane_order v) (floor == 0) ≡ Some (record { source = source; place = place })
  asks source place s a =
      sym (acts-more sys v.plan (lane_order v) (placed 0 (look_item n floor)) (floor == 0) (look-idle 0 n floor))
      ∙ ap (λ xs. acts_next sys v.plan xs (floor == 0)) (sym (order-looked v u n floor gains h.rises))
      ∙ ap (λ b. acts_next sys v.plan (lane_order u) b) (sym same)
      ∙ ap (λ p. acts_next sys p (lane_order u) base) (sym gains.plan)
      ∙ ap (λ s. acts_next s u.plan (lane_order u) base) (sym sys_is)
      ∙ a.next no_stim

  -- what is told of a source whose stimulus is its next
  is-ready : (source place : ℕ) (s : Stim) (a : Acts u base source place s) (ss : List Stim) → get_or v.plan (source - 1) [] ≡ ss
      → SourceGoes sys sim (take (begun_by source v.happened) ss) (lane_told source v.happened) → Ready ss v.happened source place s a.left
  is-ready source place s a ss is goes =
      subst (λ xs. Ready ss xs source place s a.left) gains.happened
      (ready sys u base source place s a sys_is no_stim ss (ap (λ p. get_or p (source - 1) []) gains.plan ∙ is)
      (subst (λ xs. SourceGoes sys sim (take (begun_by source xs) ss) (lane_told source xs)) (sym gains.happened) goes))

  -- so it ends, by what the stimulus came to
  ended : (cuts : Bool) (source place : ℕ) (s : Stim) (a : Acts u base source place s) (g : List Told) → Comes source g u w
      → ((front : List (List Item)) (here : List Item) (back : List (List Item)) → 1 + length front ≡ source → RunsInOrder sys v.plan looks (untold_all v.told) (front ++ here ∷ back) (lane_order v)
      → acts_next sys v.plan (lane_order v) (floor == 0) ≡ Some (record { source = 1 + length front; place = place })
      → EndsInOrder sys v.plan (untold_all v.told ++ look_item n floor ∷ []) (front ++ (here ++ source_items g) ∷ back) cuts (lane_order v ++ placed 0 (look_item n floor) ∷ all_placed (1 + length front) (source_items g)))
      → ((ss : List Stim) → Ready ss v.happened source place s a.left → SourceGoes sys sim (take (begun_by source v.happened) ss) (lane_told source v.happened)
      → SourceEnds sys sim end cuts ss (lane_told source v.happened ++ map (for_object 0) g))
      → IsOrderEnded sys end w
  ended cuts source place s a g comes by-order by-source =
      let one : Happening = record { at = length u.told; source = source; told = g } in
      let some : 1 ≤ source = let lt = a.some in omega (arith, lt) in
      let few : source < 1 + length v.plan = let le : source ≤ length v.plan = subst (λ p. source ≤ length p) gains.plan a.few in omega (arith, le) in
      let grown = lanes-grow 1 v.plan v.happened one some few in
      let seat : 1 + length grown.front ≡ source = grown.counted in
      let happened : w.happened ≡ v.happened ++ one ∷ [] = comes ∙ rw gains.happened refl in
      let lanes : lanes_of w ≡ grown.front ++ (grown.here ++ source_items g) ∷ grown.back =
      ap (λ p. lanes_from 1 p w.happened) (plan ∙ gains.plan) ∙ ap (lanes_from 1 v.plan) happened ∙ grown.new in
      let order : lane_order w ≡ lane_order v ++ placed 0 (look_item n floor) ∷ all_placed (1 + length grown.front) (source_items g) =
      order-came v u w n floor source g gains h.rises told comes
      ∙ append_assoc (lane_order v) (placed 0 (look_item n floor) ∷ []) (all_placed source (source_items g))
      ∙ ap (λ k. lane_order v ++ placed 0 (look_item n floor) ∷ all_placed k (source_items g)) (sym seat) in
      let came = by-order grown.front grown.here grown.back seat (subst (λ ls. RunsInOrder sys v.plan looks (untold_all v.told) ls (lane_order v)) grown.old h.order)
      (asks source place s a ∙ ap (λ k. Some (record { source = k; place = place })) (sym seat)) in
      record {
        cuts = cuts;
        order =
            subst (λ p. EndsInOrder sys p (untold_all w.told) (lanes_of w) cuts (lane_order w)) (sym (plan ∙ gains.plan))
            (subst (λ is. EndsInOrder sys v.plan is (lanes_of w) cuts (lane_order w)) (sym told_is)
            (subst (λ ls. EndsInOrder sys v.plan (untold_all v.told ++ look_item n floor ∷ []) ls cuts (lane_order w)) (sym lanes)
            (subst (λ xs. EndsInOrder sys v.plan (untold_all v.told ++ look_item n floor ∷ []) (grown.front ++ (grown.here ++ source_items g) ∷ grown.back) cuts xs) (sym order) came)));
        sources = rw (plan, gains.plan, happened)
            (halt-grows sys v.happened one end cuts may 1 v.plan some few (λ ss is goes. by-source ss (is-ready source place s a ss is goes) goes) h.sources);
      }

  pub order-stops : IsStopped n base u w → is_unset u ≡ true → IsOrderEnded sys end w
  order-stops stop unset = go stop.why
    where
      go : ((w.happened ≡ u.happened) × (is_unset u ≡ false)) ⊎ HappensToFail n base u w ⊎ HappensInPart n base u w ⊎ FindsNoRoom base u w → IsOrderEnded sys end w
      go (inl found) = let wrong : true ≡ false = sym unset ∙ found.1 in absurd (cc)
      go (inr (inl f)) =
          let fits : StimFits sys sim f.s true f.one = subst (λ x. StimFits x sim f.s true f.one) sys_is f.fits in
          let items = (stimuli_are_their_own sys f.s true).0 f.one fits in
          ended false f.source f.place f.s f.acts (plain (body.Stim f.place n) ∷ f.one) f.comes
          (λ front here back seat order acts.
          order_ends_in_stimulus sys v.plan looks (untold_all v.told) front here back (lane_order v) order n floor f.place (source_items f.one) false
          (record { next = next; acts = acts; lookless = items.lookless }) items.behind items.ends)
          (λ ss r goes.
          subst (λ xs. SourceEnds sys sim end false xs (lane_told f.source v.happened ++ map (for_object 0) (plain (body.Stim f.place n) ∷ f.one))) r.all
          (rw (sym r.counted) ((source_lane_stops sys end (take (begun_by f.source v.happened) ss) (lane_told f.source v.happened) may goes f.s f.acts.left).2 false n f.one fits)))
      go (inr (inr (inl f))) =
          let fits : StimFits sys sim f.s f.asserted (f.one ++ f.back) = subst (λ x. StimFits x sim f.s f.asserted (f.one ++ f.back)) sys_is f.fits in
          let items = (stimuli_are_their_own sys f.s f.asserted).1 f.one f.back f.size f.some fits in
          let told_g : source_items (f.one ++ plain (body.Spill f.size) ∷ []) ≡ source_items f.one ++ spill_item f.size ∷ [] = items-append f.one (plain (body.Spill f.size) ∷ []) in
          let long : length (lane_told f.source v.happened) ≡ length (told_by_source f.source u.happened) = length-map (told_by_source f.source v.happened) (for_object 0) ∙ ap (λ hs. length (told_by_source f.source hs)) (sym gains.happened) in
          let states = f.states in
          ended true f.source f.place f.s f.acts (plain (body.Stim f.place n) ∷ (f.one ++ plain (body.Spill f.size) ∷ [])) f.comes
          (λ front here back seat order acts.
          rw told_g (order_ends_in_stimulus sys v.plan looks (untold_all v.told) front here back (lane_order v) order n floor f.place (source_items f.one ++ spill_item f.size ∷ []) true
          (record { next = next; acts = acts; lookless = items.lookless }) items.behind items.ends))
          (λ ss r goes.
          subst (λ xs. SourceEnds sys sim end true xs (lane_told f.source v.happened ++ map (for_object 0) (plain (body.Stim f.place n) ∷ (f.one ++ plain (body.Spill f.size) ∷ [])))) r.all
          (rw (map-append (for_object 0) f.one (plain (body.Spill f.size) ∷ []), sym r.counted)
          ((source_lane_stops sys end (take (begun_by f.source v.happened) ss) (lane_told f.source v.happened) may goes f.s f.acts.left).3 n f.size f.one f.back f.asserted f.some fits (omega (arith, states, long)) f.full)))
      go (inr (inr (inr f))) =
          let long : length (lane_told f.source v.happened) ≡ length (told_by_source f.source u.happened) = length-map (told_by_source f.source v.happened) (for_object 0) ∙ ap (λ hs. length (told_by_source f.source hs)) (sym gains.happened) in
          let states = f.states in
          ended false f.source f.place f.s f.acts (plain (body.Spill f.size) ∷ []) f.comes
          (λ front here back seat order acts. order_ends_in_full_lane sys v.plan looks (untold_all v.told) front here back (lane_order v) order n floor f.size next)
          (λ ss r goes.
          subst (λ xs. SourceEnds sys sim end false xs (lane_told f.source v.happened ++ map (for_object 0) (plain (body.Spill f.size) ∷ []))) r.all
          ((source_lane_stops sys end (take (begun_by f.source v.happened) ss) (lane_told f.source v.happened) may goes f.s f.acts.left).1 f.size (omega (arith, states, long)) f.full))
