-- A lawful journal of `port` can be written: its lanes have records of objects of at most 32 alone, or of none.
use Rattle.std.proofs.Common.{◌≡◌, ◌∙◌, ℕ, suc, ◌+◌, ◌≤◌, ◌==◌, Bool, true, false, not, ◌&&◌, ◌||◌, List, [], ◌∷◌, ◌++◌, length, drop, refl, sym, ap, subst, arith, append_assoc, append-nil}
use Rattle.std.specs.Prelude.{slice_get}
use Rattle.std.specs.Option.{unwrap_or}
use Rattle.std.specs.List.{AllByRecursion}
use Rattle.std.proofs.lemmas.Bool.{and_parts}
use Rattle.std.proofs.lemmas.Bool.Decides.{nat_tests}
use Rattle.qp_model.specs.declared.bodies.Body.{Body}
use Rattle.qp_model.specs.declared.bodies.Body.TheVariants as item
use Rattle.qp_model.specs.declared.journals.Journal.{Journal}
use Rattle.qp_model.specs.declared.record.Rec.{Rec}
use Rattle.qp_model.specs.declared.stimulus.Stim.{Stim}
use Rattle.qp_model.specs.declared.systems.ObjectDef.{ObjectDef}
use Rattle.qp_model.specs.declared.systems.System.{System}
use Rattle.qp_model.specs.Record.{Item}
use Rattle.qp_model.specs.History.{lane_items}
use Rattle.qp_model.specs.Home.{lane_at, home_of}
use Rattle.qp_model.specs.HomeLane.{are_at_home, is_at_home, is_home_lane, count_taken}
use Rattle.qp_model.specs.Kernels.{port}
use Rattle.qp_model.specs.Ends.{may_cut}
use Rattle.qp_model.specs.Lawful.{ObjectHolds, SourceLanes, lanes_before}
use Rattle.qp_model.specs.Sound.{IsSound}
use Rattle.qp_model.specs.Laws.{Ascend}
use Rattle.qp_model.proofs.HomeLemmas.{AreBelow, below-next}
use Rattle.qp_model.proofs.TakenLemmas.{drop-head}
use Rattle.qp_port_law.proofs.HomePlaces.{home-at, next-count}
use Rattle.qp_model.proofs.MeaningLemmas.{none_below}
use Rattle.qp_unique.proofs.FormLemmas.{IsLow, its-form, sources-low}
use Rattle.qp_unique.specs.PortFormLaws.{PortHasForms}

none-low : (p : ℕ) → (p == 0) ≡ true → p ≤ 32
none-low p is = let none : p ≡ 0 = grind (arith, nat_tests, is) in omega (arith, none)

own-low : (p o : ℕ) → o ≤ 32 → (p == o) ≡ true → p ≤ 32
own-low p o low is = let same : p ≡ o = grind (arith, nat_tests, is) in omega (arith, low, same)

record-low : (o : ℕ) (spent cut : Bool) (p : ℕ) (b : Body) → o ≤ 32 → is_at_home o spent cut p b ≡ true → p ≤ 32
record-low o spent cut p (item.Seen q f l m) low h = none-low p (and_parts (p == 0) (q == o) (and_parts _ spent h).0).0
record-low o spent cut p (item.Spill len) low h = none-low p (and_parts (p == 0) cut h).0
record-low o spent cut p _ low h = own-low p o low h

-- the lane of an object has its records, and others of none
lane-low : (o budget : ℕ) (cuts : Bool) (n : ℕ) (is : List Item) → o ≤ 32 → are_at_home o budget cuts n is ≡ true → IsLow is
unfolding are_at_home
lane-low o budget cuts n [] low h = tt
lane-low o budget cuts n (i ∷ is) low h =
    let parts = and_parts (is_at_home o (n == budget) (cuts && (length is == 0)) i.of i.body) _ h in
    (record-low o (n == budget) (cuts && (length is == 0)) i.of i.body low parts.0, lane-low o budget cuts (count_taken n i.body) is low parts.1)

home-low : (o budget : ℕ) (cuts : Bool) (is : List Item) → o ≤ 32 → is_home_lane o budget cuts is ≡ true → IsLow is
unfolding is_home_lane
home-low o budget cuts is low h = lane-low o budget cuts 0 is low (and_parts _ _ (and_parts _ _ h).0).0

-- so has an empty one
empty-low : (l : List Rec) → length l ≡ 0 → IsLow (lane_items l)
unfolding lane_items
empty-low [] e = tt
empty-low (r ∷ rs) e = absurd (omega (arith, e))

module _ (sys : System) (stimuli : List (List Stim)) (j : Journal) (is_port : j.kernel ≡ port) where
  object-low : (d : ObjectDef) (l : List Rec) → d.priority ≤ 32 → lane_at j (home_of sys j d.priority) ≡ l → ObjectHolds sys j d → IsLow (lane_items l)
  object-low d l low home holds =
      let asked : (not (j.kernel == port) || is_home_lane d.priority j.budget (may_cut j.end) (lane_items (lane_at j (home_of sys j d.priority)))) ≡ true = holds.shapes.home in
      let there : (not (port == port) || is_home_lane d.priority j.budget (may_cut j.end) (lane_items (lane_at j (home_of sys j d.priority)))) ≡ true =
      subst (λ k. (not (k == port) || is_home_lane d.priority j.budget (may_cut j.end) (lane_items (lane_at j (home_of sys j d.priority)))) ≡ true) is_port asked in
      home-low d.priority j.budget (may_cut j.end) (lane_items l) low (subst (λ x. is_home_lane d.priority j.budget (may_cut j.end) (lane_items x) ≡ true) home there)

  -- the lanes of these objects, and then those of the sources
  homes-low : (front ds : List ObjectDef) (n : ℕ) (ls : List (List Rec)) → front ++ ds ≡ sys.objects → n ≡ length front + 1 → drop n j.lanes ≡ ls → length ls ≡ length ds + length stimuli
      → AreBelow front ds → Ascend ds → AllByRecursion (λ d. d.priority ≤ 32) ds → AllByRecursion (ObjectHolds sys j) ds → SourceLanes sys j (length sys.objects + 1) stimuli
      → AllByRecursion (λ lane. IsLow (lane_items lane)) ls
  homes-low front [] n ls at here lanes len below rise low holds sources =
      let all : front ≡ sys.objects = sym (append-nil front) ∙ at in
      let place : length sys.objects + 1 ≡ n = ap (λ xs. length xs + 1) (sym all) ∙ sym here in
      sources-low sys j ls n stimuli lanes (subst (λ k. SourceLanes sys j k stimuli) place sources) (omega (arith, len))
  homes-low front (d ∷ ds) n [] at here lanes len below rise low holds sources = absurd (omega (arith, len))
  homes-low front (d ∷ ds) n (l ∷ ls) at here lanes len below rise low holds sources =
      let behind = drop-head n j.lanes l ls lanes in
      let home : lane_at j (home_of sys j d.priority) ≡ l = ap (lane_at j) (home-at sys j is_port front d ds at below.0 ∙ sym here) ∙ ap (λ x. unwrap_or x []) behind.0 in (
        object-low d l low.0 home holds.0,
        homes-low (front ++ d ∷ []) ds (n + 1) ls (append_assoc front (d ∷ []) ds ∙ at) (next-count front d n here) behind.1 (omega (arith, len)) (below-next front d ds below.1 rise.1) rise.2
            low.1 holds.1 sources,
      )

  -- the first lane is empty
  all-low : (lanes : List (List Rec)) → j.lanes ≡ lanes → length j.lanes ≡ length sys.objects + 1 + length stimuli → length (lane_at j 0) ≡ 0 → IsSound sys
      → AllByRecursion (ObjectHolds sys j) sys.objects → SourceLanes sys j (length sys.objects + 1) stimuli → AllByRecursion (λ lane. IsLow (lane_items lane)) j.lanes
  all-low [] at count empty sound holds sources = let none : length j.lanes ≡ 0 = ap length at in absurd (omega (arith, count, none))
  all-low (l ∷ ls) at count empty sound holds sources =
      let whole : length j.lanes ≡ suc (length ls) = ap length at in
      let rest : length ls ≡ length sys.objects + length stimuli = omega (arith, count, whole) in
      let first : lane_at j 0 ≡ l = ap (λ x. unwrap_or (slice_get x 0) []) at in
      subst (AllByRecursion (λ lane. IsLow (lane_items lane))) (sym at)
      (empty-low l (ap length (sym first) ∙ empty), homes-low [] sys.objects 1 ls refl refl (ap (drop 1) at) rest (none_below sys.objects) sound.ascend sound.priorities holds sources)

pub written-port : PortHasForms
written-port sys stimuli j sound few is some most h =
    let before : lanes_before sys j ≡ length sys.objects + 1 = rw is refl in
    let counted : length j.lanes ≡ lanes_before sys j + length stimuli = grind (arith, nat_tests, h.sources.count) in
    let count : length j.lanes ≡ length sys.objects + 1 + length stimuli = counted ∙ ap (λ n. n + length stimuli) before in
    let asked : (not (port == port) || (length (lane_at j 0) == 0)) ≡ true = subst (λ k. (not (k == port) || (length (lane_at j 0) == 0)) ≡ true) is h.sources.empty in
    let empty : length (lane_at j 0) ≡ 0 = grind (arith, nat_tests, asked) in
    its-form sys stimuli j sound few false port is h refl refl
    (all-low sys stimuli j is j.lanes refl count empty sound h.objects (subst (λ n. SourceLanes sys j n stimuli) before h.sources.lanes)) (omega (arith, count, few, sound.few_objects)) some most
