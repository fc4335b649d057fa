-- What a stimulus in the lane of its source comes to.
use Rattle.std.proofs.Common.{◌≡◌, ◌≢◌, ◌⊎◌, ℕ, ◌+◌, ◌<◌, false, ◌&&◌, List, [], ◌∷◌, ◌++◌, map, length, drop, get_or, refl, sym, ◌∙◌, ap, subst, arith, inl, inr, IsTrue, length-append}
use Rattle.std.proofs.lemmas.List.{map-append, length-map}
use Rattle.std.proofs.Math.Seq.{drop-append_seam}
use Rattle.qp_model.specs.declared.stimulus.Stim.{Stim}
use Rattle.qp_model.specs.declared.stimulus.Stim.TheVariants as stim
use Rattle.qp_model.specs.declared.systems.System.{System}
use Rattle.qp_model.specs.declared.words.Word.{Word}
use Rattle.qp_model.specs.declared.words.Word.TheVariants as word
use Rattle.qp_model.specs.declared.bodies.Body.TheVariants as body
use Rattle.qp_model.specs.Record.{Item}
use Rattle.qp_model.specs.Told.{Told, ToldItem, plain, for_object}
use Rattle.qp_model.specs.History.{touch, drawn_on, total}
use Rattle.qp_model.specs.Knowing.{told_alone}
use Rattle.qp_model.specs.Sources.{SeesEntry, priorities}
use Rattle.qp_model.specs.WordLaw.{is_object}
use Rattle.qp_calls.specs.LaneView.{LaneView, Happening, Counts, Gains, Grows, placed_by, is_codeless, no_code}
use Rattle.qp_calls.specs.Clauses.{Stops}
use Rattle.qp_calls.proofs.Growing.{gains-then}
use Rattle.qp_model.specs.OneOrder.{items_placed}
use Rattle.qp_plain_sound.specs.View.{view_of}
use Rattle.qp_plain_sound.proofs.LogTotals.{total-log}
use Rattle.qp_plain.specs.declared.world.PlainWorld.{PlainWorld}
use Rattle.qp_plain.specs.Book.{lists_of}
use Rattle.qp_plain.specs.NewWorld.{GoesTo, chosen, lanes_in}
use Rattle.qp_plain.specs.WorldView.{world_view}
use Rattle.qp_kernel.specs.Happenings.{lane_told, told_by_source}
use Rattle.qp_calls_stimulus.specs.declared.doing.Stimulated.{Stimulated}
use Rattle.qp_calls_stimulus.specs.declared.doing.Stimulated.TheVariants as stimulated
use Rattle.qp_calls.specs.Halting.{HaltsFull}
use Rattle.qp_calls_stimulus.specs.Stimulating.{Stimulates, KeepsOwn, StimulusHappens, StimulusTries, StimulusAsserts, Spills, Exhausts, begun_records}
use Rattle.qp_kernel_runs.specs.Newest.{newest}
use Rattle.qp_kernel_runs.specs.Visiting.{Rests, OtherHasStopped, Amounts, Visits}
use Rattle.qp_kernel_runs.proofs.Worlds.{tolds, told-here, told-other, lane-is, own_purse}
use Rattle.qp_kernel_runs.proofs.Beside.{Went, before, behind, lane_there, tolds_first, source-leaves, source-stopped}
use Rattle.qp_model.proofs.HistoryLemmas.{no-total, total-append}
use Rattle.qp_model.proofs.KnowingLemmas.{told-source}

went-gains : (ts : List ToldItem) (v w : LaneView) → Gains ts v w → KeepsOwn v w → Went ts v w
went-gains ts v w g own = record {
  sys = g.sys;
  told = g.told;
  serves = g.serves;
  rise = g.rise;
  shown = g.shown;
  own = own;
  event = g.event;
  plan = g.plan;
  lane = g.lane;
  log = g.log;
  aside = g.aside;
}

went-stops : (ts : List ToldItem) (v mid w : LaneView) (code : ℕ) → Gains ts v mid → Stops code mid w → KeepsOwn v w → Went ts v w
went-stops ts v mid w code g e own = record {
  sys = ap (λ x. x.sys) e ∙ g.sys;
  told = ap (λ x. x.told) e ∙ g.told;
  serves = λ o. ap (λ x. x.serves o) e ∙ g.serves o;
  rise = λ x. let same = ap (λ u. u.mark x) e in let up = g.rise x in omega (arith, same, up);
  shown = λ x k. ap (λ u. u.shown x) e ∙ g.shown x (sym (ap (λ u. u.mark x) e) ∙ k);
  own = own;
  event = λ x known. ap (λ u. u.event x) e ∙ g.event x known;
  plan = ap (λ x. x.plan) e ∙ g.plan;
  lane = ap (λ x. x.lane) e ∙ g.lane;
  log = ap (λ x. x.log) e ∙ g.log;
  aside = ap (λ x. x.aside) e ∙ g.aside;
}

coded : (code : ℕ) (mid : LaneView) (w : PlainWorld) → Stops code mid (world_view w) → is_codeless (own_purse w) ≡ false
coded code mid w e = ap (λ xs. no_code xs && no_code (world_view w).answered) (ap (λ x. x.stops) e)

-- Looks draw no number.
total-off : (x : Word) (i : Item) (is : List Item) → drawn_on x (touch i) ≡ false → total x (i ∷ is) ≡ total x is
unfolding total
total-off x i is e = rw e refl

placed_items : ℕ → List Told → List Item
placed_items lane g = items_placed (map (placed_by lane) (map (for_object 0) g))

looks-none : (x : Word) (lane : ℕ) (os : List ℕ) (g : List Told) → SeesEntry os g → total x (placed_items lane g) ≡ 0
unfolding SeesEntry placed_items
looks-none x lane [] g h = absurd h
looks-none x lane (o ∷ os) g h =
    ap (λ g. total x (placed_items lane g)) h.4
    ∙ total-off x (record { of = 0; body = body.Seen o h.0 h.1 h.2 }) (placed_items lane h.3) refl
    ∙ by h.5 (λ k. looks-none x lane os h.3 k)
  where
    by : ((h.0 + h.1 ≡ h.2) × SeesEntry os h.3) ⊎ ((h.2 < h.0 + h.1) × (h.3 ≡ [])) → (SeesEntry os h.3 → total x (placed_items lane h.3) ≡ 0) → total x (placed_items lane h.3) ≡ 0
    by (inl k) later = later k.1
    by (inr k) later = ap (λ g. total x (placed_items lane g)) k.1 ∙ no-total x

silent : (x : Word) (lane place look : ℕ) (one : List Told) → total x (placed_items lane one) ≡ 0 → total x (placed_items lane (begun_records place look (plain body.Settle ∷ one))) ≡ 0
unfolding placed_items
silent x lane place look one none =
    total-off x (record { of = 0; body = body.Stim place look }) (items_placed (map (placed_by lane) (map (for_object 0) (plain body.Settle ∷ one)))) refl
    ∙ total-off x (record { of = 0; body = body.Settle }) (items_placed (map (placed_by lane) (map (for_object 0) one))) refl ∙ none

-- a mark is the number of operations in the log
mark-log : (w : PlainWorld) (x : Word) → (world_view w).mark x ≡ total x (items_placed (world_view w).log)
unfolding view_of
mark-log w x = sym (total-log x (lists_of w.book) w.book.order.items w.holds.world.orders)

same-counts : (f l m g k n : ℕ) → Counts f l m ≡ Counts g k n → (f ≡ g) × (l ≡ k) × (m ≡ n)
same-counts f l m g k n e =
    let one : f ≡ g = cc in
    let two : l ≡ k = cc in
    let three : m ≡ n = cc in
    (one, two, three)

-- the world after a stimulus, in the lane of its source and then in lane 0
module _ (source former : ℕ) (a b c d e f : PlainWorld) (home : chosen a ≡ 0) (some : 0 < source) (few : source < lanes_in a) (go : GoesTo source a b)
    (set : world_view c ≡ record (world_view b) { by = 0 }) (was : former ≡ (world_view b).by) (reset : world_view e ≡ record (world_view d) { by = former }) (back : GoesTo 0 e f)
    (sys : System) (s : Stim) (place look : ℕ) (hs more : List Happening) (tells : get_or (world_view a).aside.told source [] ≡ lane_told source hs)
    (then : more ≡ hs ++ newest hs (world_view d) ∷ []) (rests : s ≡ stim.Settle → Rests (world_view a)) (made : (world_view a).sys ≡ sys) (own : KeepsOwn (world_view c) (world_view d)) where
  away : 0 ≢ source
  away q = omega (arith, some, q)

  abbrev had : ℕ
  had = length (get_or (world_view a).aside.told source [])

  abbrev Comes : Stimulated → Type 0
  Comes answer = Visits source sys s place look hs more (world_view a) (world_view f) answer

  module _ (g : List Told) (went : Went (map (for_object 0) g) (world_view c) (world_view d)) where
    in_lane : chosen c ≡ source
    in_lane = lane_there source former a b c d e f home some go set was reset back (map (for_object 0) g) went

    all_told : tolds c ≡ tolds a
    all_told = tolds_first source former a b c d e f home some go set was reset back (map (for_object 0) g) went

    told_there : (world_view c).told ≡ get_or (world_view a).aside.told source []
    told_there =
        told-here c ∙ ap (λ k. get_or (tolds c) k []) in_lane ∙ ap (λ xs. get_or xs source []) all_told
        ∙ sym (told-other a source (λ q. away (sym (q ∙ home))))

    zero_there : get_or (world_view d).aside.told 0 [] ≡ (world_view a).told
    zero_there =
        ap (λ x. get_or x.told 0 []) went.aside ∙ told-other c 0 (λ q. away (q ∙ in_lane)) ∙ ap (λ xs. get_or xs 0 []) all_told
        ∙ ap (λ k. get_or (tolds a) k []) (sym home) ∙ sym (told-here a)

    at_source : (world_view d).lane ≡ source
    at_source = went.lane ∙ lane-is c ∙ in_lane

    beyond : drop (length (told_by_source source hs)) (told_alone (lane_told source hs ++ map (for_object 0) g)) ≡ g
    beyond =
        ap (drop (length (told_by_source source hs)))
        (map-append (λ t. t.told) (lane_told source hs) (map (for_object 0) g) ∙ ap (λ l. l ++ told_alone (map (for_object 0) g)) (told-source (told_by_source source hs)) ∙ ap (λ l. told_by_source source hs ++ l) (told-source g))
        ∙ drop-append_seam (told_by_source source hs) g

    its : newest hs (world_view d) ≡ record { at = length (world_view a).told; source = source; told = g }
    unfolding newest
    its =
        ap (λ n. record { at = n; source = (world_view d).lane; told = drop (length (told_by_source (world_view d).lane hs)) (told_alone (world_view d).told) }) (ap length zero_there)
        ∙ ap (λ k. record { at = length (world_view a).told; source = k; told = drop (length (told_by_source k hs)) (told_alone (world_view d).told) }) at_source
        ∙ ap (λ l. record { at = length (world_view a).told; source = source; told = drop (length (told_by_source source hs)) (told_alone l) })
        (went.told ∙ ap (λ l. l ++ map (for_object 0) g) (told_there ∙ tells))
        ∙ ap (λ l. record { at = length (world_view a).told; source = source; told = l }) beyond

    comes : (answer : Stimulated) → Amounts sys s place look had g (world_view a) (world_view f) answer → Comes answer
    comes answer amounts = record {
      g = g;
      leaves = source-leaves source former a b c d e f home some go set was reset back (map (for_object 0) g) went g refl;
      more_are = then ∙ ap (λ h. hs ++ h ∷ []) its;
      amounts = amounts;
    }

    seen_stopped : is_codeless (own_purse d) ≡ false → OtherHasStopped (world_view f)
    seen_stopped code = source-stopped source former a b c d e f home some go set was reset back (map (for_object 0) g) went code few

    hands_kept : (world_view d).hands ≡ (world_view c).hands → (world_view f).hands ≡ (world_view a).hands
    hands_kept same =
        (behind source former a b c d e f home some go set was reset back (map (for_object 0) g) went).hands ∙ same
        ∙ (before source former a b c d e f home some go set was reset back (map (for_object 0) g) went).hands

    shown_first : (x : Word) → (world_view c).shown x ≡ (world_view a).shown x
    shown_first x = (before source former a b c d e f home some go set was reset back (map (for_object 0) g) went).shown x

    marks_stay : (x : Word) → total x (placed_items (world_view c).lane g) ≡ 0 → (world_view d).mark x ≡ (world_view c).mark x
    unfolding placed_items
    marks_stay x none =
        let more_items : items_placed (world_view d).log ≡ items_placed (world_view c).log ++ placed_items (world_view c).lane g =
        ap items_placed went.log ∙ map-append (λ p. p.item) (world_view c).log (map (placed_by (world_view c).lane) (map (for_object 0) g)) in
        let sum = total-append x (items_placed (world_view c).log) (placed_items (world_view c).lane g) in
        let all = ap (total x) more_items in
        mark-log d x ∙ omega (arith, sum, all, none) ∙ sym (mark-log c x)

  for-none : (g : List Told) (w : LaneView) → Grows g (world_view c) w → Gains (map (for_object 0) g) (world_view c) w
  for-none g w grows = subst (λ o. Gains (map (for_object o) g) (world_view c) w) (ap (λ v. v.by) set) grows

  whole : StimulusHappens sys s place look (world_view c) (world_view d) → Comes stimulated.Done
  whole h =
      let went = went-gains (map (for_object 0) (begun_records place look h.one)) (world_view c) (world_view d) (for-none (begun_records place look h.one) (world_view d) h.grows) own in
      comes (begun_records place look h.one) went stimulated.Done (h.one, refl, h.fits, hands_kept (begun_records place look h.one) went h.hands)

  failed : StimulusAsserts sys s place look (world_view c) (world_view d) → Comes stimulated.Stopped
  failed h =
      let went = went-stops (map (for_object 0) (begun_records place look h.one)) (world_view c) h.mid (world_view d) h.code (for-none (begun_records place look h.one) h.mid h.grows) h.stops own in
      comes (begun_records place look h.one) went stimulated.Stopped
      (seen_stopped (begun_records place look h.one) went (coded h.code h.mid d h.stops), inl (record { one = h.one; is = refl; fits = h.fits }))

  spilled : Spills sys s place look (world_view c) (world_view d) → Comes stimulated.Stopped
  spilled h =
      let one = begun_records place look h.one in
      let size = length h.mid.told in
      let last : List Told = plain (body.Spill size) ∷ [] in
      let first : Gains (map (for_object 0) one) (world_view c) h.mid = for-none one h.mid h.grows in
      let both : Gains (map (for_object 0) (one ++ last)) (world_view c) h.halts.full =
      subst (λ l. Gains l (world_view c) h.halts.full) (sym (map-append (for_object 0) one last))
      (gains-then (map (for_object 0) one) (map (for_object 0) last) (world_view c) h.mid h.halts.full first h.halts.spills) in
      let went = went-stops (map (for_object 0) (one ++ last)) (world_view c) h.halts.full (world_view d) 6 both h.halts.stops own in
      let long : size ≡ length (world_view c).told + length (map (for_object 0) one) = ap length first.told ∙ length-append (world_view c).told (map (for_object 0) one) in
      let mapped = length-map one (for_object 0) in
      let there = ap length (told_there (one ++ last) went) in
      comes (one ++ last) went stimulated.Stopped (
        seen_stopped (one ++ last) went (coded 6 h.halts.full d h.halts.stops),
        inr (inl (record {
          one = h.one;
          back = h.back;
          asserted = h.asserted;
          size = size;
          is = refl;
          fits = h.fits;
          some = h.some;
          states = omega (arith, long, mapped, there);
          full = h.halts.few;
        })),
      )

  full : HaltsFull (world_view c) (world_view d) → Comes stimulated.Stopped
  full h =
      let g : List Told = plain (body.Spill (length (world_view c).told)) ∷ [] in
      let went = went-stops (map (for_object 0) g) (world_view c) h.full (world_view d) 6 h.spills h.stops own in
      let there = ap length (told_there g went) in
      comes g went stimulated.Stopped
      (seen_stopped g went (coded 6 h.full d h.stops), inr (inr (record { is = ap (λ n. plain (body.Spill n) ∷ []) there; full = subst (λ n. 999992 < n) there h.few })))

  exhausted : Exhausts (world_view c) (world_view d) → Comes stimulated.Memory
  exhausted h =
      let went = went-stops (map (for_object 0) h.g) (world_view c) h.mid (world_view d) 7 (for-none h.g h.mid h.grows) h.dry.stops own in
      comes h.g went stimulated.Memory (seen_stopped h.g went (coded 7 h.mid d h.dry.stops))

  -- a `settle` finds no entry
  never : StimulusTries sys s place look (world_view c) (world_view d) → ⊥
  never h =
      let g = begun_records place look (plain body.Settle ∷ h.one) in
      let went = went-gains (map (for_object 0) g) (world_view c) (world_view d) (for-none g (world_view d) h.grows) own in
      let x = word.Queue h.found.object in
      let none : total x (placed_items (world_view c).lane g) ≡ 0 = silent x (world_view c).lane place look h.one (looks-none x (world_view c).lane (priorities sys) h.one h.fits) in
      let rest = rests h.settle h.found.object (subst (λ y. IsTrue (is_object y h.found.object)) (sym made) h.found.its) in
      let same = same-counts h.found.counts.f h.found.counts.l h.found.counts.m rest.0 rest.1 rest.2
      (sym h.found.sees.1.says ∙ went.shown x (marks_stay g went x none) ∙ shown_first g went x ∙ rest.3) in
      let more = h.found.some in
      absurd (omega (arith, same.0, same.1, same.2, rest.4, more))

  pub visited : (answer : Stimulated) → Stimulates sys s place look (world_view c) (world_view d) answer → Comes answer
  visited stimulated.Done h = whole h
  visited stimulated.Tried h = absurd (never h)
  visited stimulated.Stopped (inl h) = failed h
  visited stimulated.Stopped (inr (inl h)) = spilled h
  visited stimulated.Stopped (inr (inr h)) = full h
  visited stimulated.Memory h = exhausted h
