-- What a world of `sim` leaves.
use Rattle.std.proofs.Common.{◌≡◌, ◌≢◌, ℕ, ◌==◌, nat_lt, Bool, true, false, ◌&&◌, ◌||◌, List, [], ◌∷◌, map, get_or, refl, sym, ◌∙◌, ap, subst, arith}
use Rattle.std.specs.List.{list_all, list_any, count_by}
use Rattle.std.proofs.lemmas.Bool.{and_from, and_parts, or_right, le-leb}
use Rattle.std.proofs.lemmas.Bool.Decides.{nat_tests}
use Rattle.std.proofs.lemmas.List.{length-map}
use Rattle.qp_model.specs.declared.record.Rec.{Rec}
use Rattle.qp_model.specs.History.{lane_items}
use Rattle.qp_model.specs.End.{has_room}
use Rattle.qp_model.specs.OneOrder.{enters, leaves}
use Rattle.qp_calls.specs.Notes.{stop_code}
use Rattle.qp_plain_sound.specs.View.{view_of}
use Rattle.qp_plain_sound.proofs.EntryCounts.{entered-counts, left-counts}
use Rattle.qp_calls_log.specs.declared.log.Log.{Log}
use Rattle.qp_calls.specs.LaneView.{codes_in}
use Rattle.qp_plain.specs.declared.world.PlainWorld.{PlainWorld}
use Rattle.qp_plain.specs.Book.{lists_of, logs_of}
use Rattle.qp_plain.specs.Books.{log_recs}
use Rattle.qp_plain.specs.Ended.{IsEnded}
use Rattle.qp_calls.specs.LaneLaws.{is_caused_in}
use Rattle.qp_plain.specs.World.{was_handed, StopIs}
use Rattle.qp_plain.proofs.Stopping.{nothing-handed, all-answered}
use Rattle.qp_kernel_runs.specs.declared.world.SimWorld.{SimWorld}
use Rattle.qp_kernel_runs.specs.SimEnded.{IsSimEnded, has_cause}
use Rattle.qp_kernel_runs.proofs.Worlds.{tells, tolds, told-here, told-of, told-other, lane-is, long, long-aside}

all-room : (gs : List Log) → list_all (λ lane. has_room (lane_items lane)) (map log_recs gs) ≡ true
unfolding has_room
all-room [] = refl
all-room (g ∷ gs) = and_from _ _ (le-leb _ _ (omega (arith, g.few))) (all-room gs)

-- a code that was handed in has its record
any-all : (p : ℕ → Bool) (c : ℕ) (xs : List ℕ) → list_any (λ x. x == c) xs ≡ true → list_all p xs ≡ true → p c ≡ true
any-all p c [] h all = absurd (cc)
any-all p c (x ∷ xs) h all = go (x == c) refl h (any-all p c xs)
  where
    go : (u : Bool) → (x == c) ≡ u → (u || list_any (λ x. x == c) xs) ≡ true → (list_any (λ x. x == c) xs ≡ true → list_all p xs ≡ true → p c ≡ true) → p c ≡ true
    go true e k later = let same : x ≡ c = grind (arith, nat_tests) in subst (λ y. p y ≡ true) same (and_parts _ _ all).0
    go false e k later = later k (and_parts _ _ all).1

any-caused : (c : ℕ) (gs : List Log) → list_any (was_handed c) gs ≡ true → has_cause (map log_recs gs) c ≡ true
any-caused c [] h = absurd (cc)
any-caused c (g ∷ gs) h = go (was_handed c g) refl h (any-caused c gs)
  where
    here : (u v x y : Bool) → (u || (v && x)) ≡ true → (u || (x || y)) ≡ true
    here true v x y k = refl
    here false true true y k = refl
    here false true false y k = absurd (cc)
    here false false x y k = absurd (cc)

    later : (u x y : Bool) → (u || y) ≡ true → (u || (x || y)) ≡ true
    later true x y k = refl
    later false x y k = or_right x y k

    go : (u : Bool) → was_handed c g ≡ u → (u || list_any (was_handed c) gs) ≡ true → (list_any (was_handed c) gs ≡ true → has_cause (map log_recs gs) c ≡ true)
        → has_cause (map log_recs (g ∷ gs)) c ≡ true
    go true e k next = here (c == 7) (nat_lt 0 c) (list_any (λ i. stop_code i.body == c) (lane_items g.recs.items)) _ (any-all (is_caused_in (lane_items g.recs.items)) c g.stops.list e g.causes)
    go false e k next = later (c == 7) _ _ (next k)

all-same : (p : ℕ → Bool) (c : ℕ) (xs : List ℕ) → p c ≡ true → list_all (λ x. x == c) xs ≡ true → list_all p xs ≡ true
all-same p c [] here h = refl
all-same p c (x ∷ xs) here h =
    let parts = and_parts _ _ h in
    let is : (x == c) ≡ true = parts.0 in
    let same : x ≡ c = grind (arith, nat_tests) in
    and_from _ _ (subst (λ y. p y ≡ true) (sym same) here) (all-same p c xs here parts.1)

found-caused : (w : PlainWorld) → list_all (λ code. has_cause (lists_of w.book) code) (codes_in w.book.here.answered.list) ≡ true
found-caused w = go (w.stop == 0) refl
  where
    go : (u : Bool) → (w.stop == 0) ≡ u → list_all (λ code. has_cause (lists_of w.book) code) (codes_in w.book.here.answered.list) ≡ true
    go true e =
        let none : w.stop ≡ 0 = grind (arith, nat_tests) in
        let empty = nothing-handed w.book w.book.within (subst (λ x. StopIs x (logs_of w.book)) none w.stops) in
        ap (list_all (λ code. has_cause (lists_of w.book) code)) empty.1
    go false e =
        let some : w.stop ≢ 0 = λ k. let wrong : (w.stop == 0) ≡ true = grind (arith, nat_tests) in absurd (cc) in
        let handed : list_any (was_handed w.stop) (logs_of w.book) ≡ true = subst (λ u. (u || list_any (was_handed w.stop) (logs_of w.book)) ≡ true) e w.stops.handed in
        all-same (has_cause (lists_of w.book)) w.stop (codes_in w.book.here.answered.list) (any-caused w.stop (logs_of w.book) handed) (all-answered w.stop w.book some w.book.within w.stops)

module _ (s : SimWorld) where
  at : s.plain.book.at ≡ 0
  at = sym (lane-is s.plain) ∙ s.holds.home

  ends : IsSimEnded s (lists_of s.plain.book)
  unfolding view_of
  ends = record {
    order = s.plain.book.order.items;
    world = s.plain.holds.world;
    count = sym (length-map (lists_of s.plain.book) (tells s.plain)) ∙ long s.plain ∙ sym (long-aside s.plain) ∙ s.holds.lanes;
    zero = sym (told-of s.plain 0) ∙ ap (λ k. get_or (tolds s.plain) k []) (sym at) ∙ sym (told-here s.plain);
    sources = λ n some few.
        let many = sym (length-map (lists_of s.plain.book) (tells s.plain)) ∙ long s.plain ∙ sym (long-aside s.plain) ∙ s.holds.lanes in
        sym (told-of s.plain n) ∙ sym (told-other s.plain n (λ e. let here = at in omega (arith, here, e, some)))
        ∙ s.holds.sources n some (omega (arith, few, many));
    log = s.holds.order;
    hands = refl;
    shown = λ w. refl;
    entered = λ a object. ap (count_by (λ x. enters a x.item)) (sym s.holds.order) ∙ entered-counts s.plain.sys.now (lists_of s.plain.book) s.plain.book.order.items s.plain.holds.world a object;
    left = λ a object. ap (count_by (λ x. leaves a x.item)) (sym s.holds.order) ∙ left-counts s.plain.sys.now (lists_of s.plain.book) s.plain.book.order.items s.plain.holds.world a object;
    room = all-room (logs_of s.plain.book);
    stop = found-caused s.plain;
  }

  pub sim-ends : (lanes : List (List Rec)) → IsEnded s.plain lanes → IsSimEnded s lanes
  sim-ends lanes ended = subst (IsSimEnded s) (sym ended.lanes_are) ends
