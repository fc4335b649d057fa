-- The rule over a list of seats stands where a seat takes a step, and where seats are split off and joined.
use Rattle.std.proofs.Common.{◌≡◌, ℕ, suc, ◌<◌, ◌≢◌, ◌==◌, nat_lt, List, [], ◌∷◌, ◌++◌, Bool, true, false, cond, length, set, slice_get, refl, sym, ap, subst, ◌∙◌, arith, eqb, eq-eqb, eqb-true, MatchOption, Option, Some, None}
use Rattle.std.proofs.lemmas.Bool.Decides.{nat_tests}
use Rattle.std.proofs.lemmas.List.{set_comm, length-set}
use Rattle.std.specs.List.{list_any, list_all, position}
use mathlib.Core.Option.{some}
use lib.ListN.{get_elem?}
use Rattle.atomic_table.proofs.Lists.{set_again, at_longer, at_last}
use Rattle.qp_model.specs.declared.systems.System.{System}
use Rattle.qp_table.specs.Counting.{many, without}
use Rattle.qp_table.specs.Rule.{is_number, Holds}
use Rattle.qp_table.specs.After.{empty_view, onlooker, granted, handing, handed}
use Rattle.qp_table.specs.declared.view.Glance.{Glance}
use Rattle.qp_table.specs.declared.view.SeatLog.{SeatLog}
use Rattle.qp_table.specs.declared.view.View.{View}
use Rattle.qp_table.proofs.Counting.{each-snoc, many-without}
use Rattle.qp_table.proofs.Tokens.{b2n}
use Rattle.qp_table.proofs.Lanes.{adds-nothing, looks-on, grants, hands-over, joins, set-last, set-longer}
use Rattle.qp_core_steps.specs.Seats.{as_view}
use Rattle.qp_core_steps.specs.Keeps.{HasOwn, StepKeeps}
use Rattle.qp_core.specs.Standing.{bank, is_own, OwnsLog, has_number, TableHolds}
use Rattle.qp_core.specs.State.{stands_as, bare_seat, may_pass, SetsBy, in_part, giving_up, first_logs, split_off, joining}
use Rattle.qp_core_steps.specs.declared.seats.Seat.{Seat}
use Rattle.qp_core.proofs.SeatLemmas.{each-at, each-set, any-set, any-snoc, get-set-else, at-below, at-view, set-view, snoc-view, own-some, own-more, Same, failing-is, passing-is, all-unused}

module _ (sys : System) (lanes : ℕ) (words : List ℕ) (seats : List Seat) (t : TableHolds sys lanes words seats) (i : ℕ) (x : Seat) (at : slice_get seats i ≡ Some x) where
  pub has-own : x.stands ≡ true → HasOwn lanes x
  has-own stands below = own-some x.number x.logs (each-at (OwnsLog lanes) seats i x t.own at stands below)

  at-id : get_elem? t.views i ≡ some (as_view x)
  at-id = at-view seats t.views t.seats_are i x at

  pub step-holds : (words' : List ℕ) (x' : Seat) → StepKeeps sys words x words' x' → Same x x' → TableHolds sys lanes words' (set seats i x')
  step-holds words' x' keeps same =
      let k = keeps (bank t.lane_numbers ∷ t.views) (suc i) t.holds at-id in
      record {
        lane_numbers = t.lane_numbers;
        views = set t.views i (as_view x');
        holds = k;
        seats_are = set-view seats t.views t.seats_are i x';
        own = each-set (OwnsLog lanes) seats i x' t.own
            (λ stands below. same.own x'.number ∙ (ap (λ n. is_own n x.logs) same.number
            ∙ each-at (OwnsLog lanes) seats i x t.own at (sym same.stands ∙ stands) (ap (λ n. nat_lt n lanes) (sym same.number) ∙ below)));
        later = λ n l gone. t.later n l (sym (any-set (has_number n) seats i x x' at (ap (λ m. m == n) same.number)) ∙ gone);
        few = t.few;
      }

  -- The seat of number j is taken over
  pub join-holds : (j : ℕ) (y : Seat) → slice_get seats j ≡ Some y → j ≢ i → (from : ℕ) → y.number ≡ from → TableHolds sys lanes words (set (set seats j (bare_seat from false)) i (joining x y))
  join-holds j y there apart from number =
      let w = at-view seats t.views t.seats_are j y there in
      let v = at-view seats t.views t.seats_are i x at in
      let h : Holds sys words (bank t.lane_numbers ∷ set (set t.views i (as_view (joining x y))) j (as_view (bare_seat from false))) =
      joins sys words (bank t.lane_numbers ∷ t.views) t.holds (suc i) (as_view x) v (suc j) (as_view y) (λ e. apart (omega arith)) w in
      let swapped = set_comm t.views i j (as_view (joining x y)) (as_view (bare_seat from false)) (λ e. apart (sym e)) in
      record {
        lane_numbers = t.lane_numbers;
        views = set (set t.views j (as_view (bare_seat from false))) i (as_view (joining x y));
        holds = subst (λ vs. Holds sys words (bank t.lane_numbers ∷ vs)) swapped h;
        seats_are = set-view (set seats j (bare_seat from false)) (set t.views j (as_view (bare_seat from false))) (set-view seats t.views t.seats_are j (bare_seat from false)) i (joining x y);
        own = each-set (OwnsLog lanes) (set seats j (bare_seat from false)) i (joining x y) (each-set (OwnsLog lanes) seats j (bare_seat from false) t.own (λ stands below. absurd (cc)))
            (λ stands below. own-more x.number x.logs y.logs (each-at (OwnsLog lanes) seats i x t.own at stands below));
        later = λ n l gone. t.later n l (sym (any-set (has_number n) seats j y (bare_seat from false) there (ap (λ m. m == n) (sym number)))
            ∙ (sym (any-set (has_number n) (set seats j (bare_seat from false)) i x (joining x y) (get-set-else seats i j (bare_seat from false) (λ e. apart (sym e)) ∙ at) refl) ∙ gone));
        few = t.few;
      }

-- a view that has seen something, and has these logs
abbrev Began : List Glance → List SeatLog → View
Began s gs = record empty_view { logs = gs; seen = s }

-- the lane number goes to the new view where it is one of the lanes, and all other numbers stay
pub record Granted (sys : System) (words : List ℕ) (views : List View) (rest : List ℕ) (s : List Glance) (into : ℕ) (gs : List SeatLog) : Type 0 where
  pub left : List ℕ
  pub holds : Holds sys words (bank left ∷ (views ++ Began s gs ∷ []))
  pub others : (k : ℕ) → (into == k) ≡ false → many (is_number k) left ≡ many (is_number k) rest

module _ (sys : System) (words : List ℕ) (views : List View) (rest : List ℕ) (i : ℕ) (v : View) (at : get_elem? views i ≡ some v) (holds : Holds sys words (bank rest ∷ views)) where
  -- a view is added that has seen what another has
  looking : Holds sys words (bank rest ∷ (views ++ Began v.seen [] ∷ []))
  looking =
      let h = looks-on sys words (bank rest ∷ (views ++ empty_view ∷ [])) (adds-nothing sys words (bank rest ∷ views) holds) (suc i) v (at_longer views (empty_view ∷ []) i v at) (suc (length views)) empty_view
      (λ e. let l = at-below views i v at in absurd (omega arith)) (at_last views empty_view (length views) refl) refl in
      let same = set_again (views ++ empty_view ∷ []) i v (at_longer views (empty_view ∷ []) i v at) in
      subst (λ vs. Holds sys words (bank rest ∷ vs)) (ap (λ vs. set vs (length views) (onlooker v)) same ∙ set-last views empty_view (onlooker v)) h

  granting-lane : (into : ℕ) → into < 49 → 0 < many (is_number into) rest → Granted sys words views rest v.seen into (record { number = into; recs = [] } ∷ [])
  granting-lane into few mine =
      let h = grants sys words (bank rest ∷ (views ++ Began v.seen [] ∷ [])) looking 0 (bank rest) refl (suc (length views)) (Began v.seen []) (λ e. absurd (omega arith)) (at_last views (Began v.seen []) (length views) refl) into few mine
      (λ none. record { fresh = refl; used = refl; hands = refl; gives = refl; fills = refl; claims = refl; takes = refl }) in
      record {
        left = without (λ k. eqb k into) rest;
        holds = subst (λ vs. Holds sys words (bank (without (λ k. eqb k into) rest) ∷ vs)) (set-last views (Began v.seen []) (granted into (Began v.seen []))) h;
        others = λ k ne. let m = many-without (is_number into) (is_number k) (eqb into k) (λ z e. ap (λ y. eqb y k) (eqb-true z into e)) rest mine in let z = ap b2n ne in omega arith;
      }

  pub granted-lane : (lanes into : ℕ) (b : Bool) → nat_lt into lanes ≡ b → (b ≡ true → (into < 49) × (0 < many (is_number into) rest)) → Granted sys words views rest v.seen into (cond b (record { number = into; recs = [] } ∷ []) [])
  granted-lane lanes into true is mine = let m = mine refl in granting-lane into m.0 m.1
  granted-lane lanes into false is mine = record { left = rest; holds = looking; others = λ k ne. refl }

module _ (sys : System) (lanes : ℕ) (words : List ℕ) (seats : List Seat) (t : TableHolds sys lanes words seats) (i : ℕ) (x : Seat) (at : slice_get seats i ≡ Some x) (into objects : ℕ) (unknown : list_any (has_number into) seats ≡ false) (unused : list_all (may_pass x.takes objects) x.serves ≡ true) where
  abbrev s : List Glance
  s = x.seen.list

  at-x : get_elem? t.views i ≡ some (as_view x)
  at-x = at-view seats t.views t.seats_are i x at

  lane : Granted sys words t.views t.lane_numbers s into (first_logs lanes into)
  lane = granted-lane sys words t.views t.lane_numbers i (as_view x) at-x t.holds lanes into (nat_lt into lanes) refl (λ below. let few = t.few in ((let l : nat_lt into lanes ≡ true = below in grind (arith, nat_tests)), t.later into below unknown))

  pub split-holds : TableHolds sys lanes words (set seats i (giving_up objects x) ++ split_off lanes into objects x ∷ [])
  split-holds =
      let n = length t.views in
      let w = Began s (first_logs lanes into) in
      let p = in_part objects in
      let below = at-below t.views i (as_view x) at-x in
      let longer = at_longer t.views (w ∷ []) i (as_view x) at-x in
      let h = hands-over sys words (bank lane.left ∷ (t.views ++ w ∷ [])) lane.holds (suc i) (as_view x) longer (suc n) w (λ e. absurd (omega arith)) (at_last t.views w n refl) p
      (all-unused x.takes objects x.serves unused) in
      let first : set (t.views ++ w ∷ []) i (handing p (as_view x)) ≡ set t.views i (handing p (as_view x)) ++ w ∷ [] = set-longer t.views (w ∷ []) i (as_view x) (handing p (as_view x)) at-x in
      let size : n ≡ length (set t.views i (handing p (as_view x))) = sym (length-set t.views i (handing p (as_view x))) in
      let last : set (set (t.views ++ w ∷ []) i (handing p (as_view x))) n (handed p (as_view x) w) ≡ set t.views i (handing p (as_view x)) ++ handed p (as_view x) w ∷ [] =
      (λ k. set (first k) (size k) (handed p (as_view x) w)) ∙ set-last (set t.views i (handing p (as_view x))) w (handed p (as_view x) w) in
      let kept : handing p (as_view x) ≡ as_view (giving_up objects x) = λ k. record (as_view x) { serves = failing-is objects x.serves k } in
      let given : handed p (as_view x) w ≡ as_view (split_off lanes into objects x) = λ k. record w { serves = passing-is objects x.serves k } in
      record {
        lane_numbers = lane.left;
        views = set t.views i (as_view (giving_up objects x)) ++ as_view (split_off lanes into objects x) ∷ [];
        holds = subst (λ vs. Holds sys words (bank lane.left ∷ vs)) (last ∙ (λ k. set t.views i (kept k) ++ given k ∷ [])) h;
        seats_are = snoc-view (set seats i (giving_up objects x)) (set t.views i (as_view (giving_up objects x))) (set-view seats t.views t.seats_are i (giving_up objects x)) (split_off lanes into objects x);
        own = each-snoc (OwnsLog lanes) (set seats i (giving_up objects x)) (split_off lanes into objects x) (each-set (OwnsLog lanes) seats i (giving_up objects x) t.own (each-at (OwnsLog lanes) seats i x t.own at))
            (λ stands below. subst (λ b. is_own into (cond b (record { number = into; recs = [] } ∷ []) []) ≡ true) (sym below) (eq-eqb into into refl));
        later = λ k l gone. let g = any-snoc (has_number k) (set seats i (giving_up objects x)) (split_off lanes into objects x) gone in
            let m = t.later k l (sym (any-set (has_number k) seats i x (giving_up objects x) at refl) ∙ g.0) in let e = lane.others k g.1 in omega arith;
        few = t.few;
      }

-- whose records are added is no part of the rule
pub sets-by-holds : (sys : System) (lanes : ℕ) (words : List ℕ) (seats : List Seat) (n o former : ℕ) (seats' : List Seat) → SetsBy seats n o former seats' → TableHolds sys lanes words seats → TableHolds sys lanes words seats'
sets-by-holds sys lanes words seats n o former seats' h t = go (position (stands_as n) seats) h
  where
    keeps-by : (x : Seat) → StepKeeps sys words x words (record x { by = o })
    keeps-by x views id holds at_id = subst (Holds sys words) (sym (set_again views id (as_view x) at_id)) holds

    go : (p : Option ℕ) → MatchOption p ((former ≡ 0) × (seats' ≡ seats)) (λ i. (x : Seat) × (slice_get seats i ≡ Some x) × (former ≡ x.by) × (seats' ≡ set seats i (record x { by = o }))) → TableHolds sys lanes words seats'
    go None e = subst (TableHolds sys lanes words) (sym e.1) t
    go (Some i) e = let x = e.0 in let h = step-holds sys lanes words seats t i e.0 e.1 words (record e.0 { by = o }) (keeps-by e.0) (record { number = refl; stands = refl; own = λ n. refl }) in
        subst (TableHolds sys lanes words) (sym e.3) h
