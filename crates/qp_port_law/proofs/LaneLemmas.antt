-- Lanes by their places, and what they have together.
use Rattle.std.proofs.Common.{◌≡◌, ℕ, suc, ◌+◌, List, [], ◌∷◌, ◌++◌, map, length, drop, refl, sym, ◌∙◌, ap, subst, arith, Some, append_assoc}
use Rattle.std.specs.Prelude.{slice_get}
use Rattle.std.specs.Option.{unwrap_or}
use Rattle.std.specs.List.{count_by, flat_map}
use Rattle.std.proofs.lemmas.List.{length-append}
use Rattle.qp_model.specs.declared.record.Rec.{Rec}
use Rattle.qp_model.specs.declared.stimulus.Stim.{Stim}
use Rattle.qp_model.specs.declared.systems.System.{System}
use Rattle.qp_model.specs.declared.systems.ObjectDef.{ObjectDef}
use Rattle.qp_model.specs.declared.journals.Journal.{Journal}
use Rattle.qp_model.specs.declared.bodies.Entry.{Entry}
use Rattle.qp_model.specs.Record.{Item}
use Rattle.qp_model.specs.Acts.{Config}
use Rattle.qp_model.specs.History.{all_items, lane_items}
use Rattle.qp_model.specs.Home.{lane_at}
use Rattle.qp_model.specs.Knowing.{told_lane}
use Rattle.qp_model.specs.Lawful.{facts_of, is_settle}
use Rattle.qp_model.proofs.NumberLemmas.{count-append}
use Rattle.qp_model.proofs.TakenLemmas.{drop-head}
use Rattle.qp_model_order.specs.SourceRun.{untold_all}
use Rattle.qp_model_order.proofs.SourceLanes.{untold-lane}
use Rattle.qp_calls.specs.Counting.{count_of}
use Rattle.qp_calls.specs.LaneView.{LaneView}
use Rattle.qp_kernel.specs.Laws.{kept_by}
use Rattle.qp_port_law.specs.QuietLaws.{HandsAre}
use Rattle.qp_port_law.specs.Sealed.{IsLaneAt, SealsLanes}
use Rattle.qp_port_law.specs.Homes.{HomeEnds}
use Rattle.qp_port_law.specs.HomesRest.{HomesRest, RestsWith}
use Rattle.qp_port_law.specs.PortRun.{HomesEnd, SourcesLeave}
use Rattle.qp_port_law.specs.SourcesLeft.{SourceLeaves}
use Rattle.qp_port_law.specs.Lanes.{AreAtRest, HaveNone, HomesAre, SourcesAre, settles_in}

there : {A : Type 0} (front : List A) (x : A) (rest : List A) → slice_get (front ++ x ∷ rest) (length front) ≡ Some x
there [] x rest = refl
there (y ∷ front) x rest = there front x rest

-- each object and each source has just one
pub homes-count : (sys : System) (budget end : ℕ) (ds : List ObjectDef) (vs : List LaneView) → HomesAre sys budget end ds vs → length vs ≡ length ds
homes-count sys budget end [] [] h = refl
homes-count sys budget end (d ∷ ds) (v ∷ vs) h = ap suc (homes-count sys budget end ds vs h.1)
homes-count sys budget end [] (v ∷ vs) h = absurd h
homes-count sys budget end (d ∷ ds) [] h = absurd h

pub sources-count : (sys : System) (kernel end : ℕ) (more : List (List Stim)) (vs : List LaneView) → SourcesAre sys kernel end more vs → length vs ≡ length more
sources-count sys kernel end [] [] h = refl
sources-count sys kernel end (ss ∷ more) (v ∷ vs) h = ap suc (sources-count sys kernel end more vs h.1)
sources-count sys kernel end [] (v ∷ vs) h = absurd h
sources-count sys kernel end (ss ∷ more) [] h = absurd h

-- what all hands have
pub none-in : (vs : List LaneView) → HaveNone vs → HandsAre (map (λ v. []) vs) vs
none-in [] h = tt
none-in (v ∷ vs) h = ((λ t. ap (count_of t) h.0), none-in vs h.1)

pub kept-in : (sys : System) (keeps : ℕ → Config) (ds : List ObjectDef) (homes sources : List LaneView) → AreAtRest sys keeps ds homes → HaveNone sources
    → HandsAre (map (λ d. (keeps d.priority).kept) ds ++ map (λ v. []) sources) (homes ++ sources)
kept-in sys keeps [] [] sources h none = none-in sources none
kept-in sys keeps (d ∷ ds) (v ∷ homes) sources h none = (h.1, kept-in sys keeps ds homes sources h.2 none)
kept-in sys keeps [] (v ∷ homes) sources h none = absurd h
kept-in sys keeps (d ∷ ds) [] sources h none = absurd h

pub flat-none : (vs : List LaneView) → flat_map (λ (es : List Entry). es) (map (λ v. []) vs) ≡ []
flat-none [] = refl
flat-none (v ∷ vs) = flat-none vs

pub flat-kept : (keeps : ℕ → Config) (ds : List ObjectDef) (vs : List LaneView) → flat_map (λ (es : List Entry). es) (map (λ d. (keeps d.priority).kept) ds ++ map (λ v. []) vs) ≡ kept_by keeps ds
flat-kept keeps [] vs = flat-none vs
flat-kept keeps (d ∷ ds) vs = ap (λ es. (keeps d.priority).kept ++ es) (flat-kept keeps ds vs)

module _ (sys : System) (kernel budget : ℕ) (vs : List LaneView) (j : Journal) (seals : SealsLanes sys kernel budget vs j) where
  -- a lane at its place, as it is told
  pub at-place : (front : List LaneView) (v : LaneView) (rest : List LaneView) → vs ≡ front ++ v ∷ rest → told_lane (facts_of sys j) 0 (lane_items (lane_at j (length front))) ≡ v.told
  at-place front v rest is = seals.told (length front) v (subst (λ us. IsLaneAt us (length front) v) (sym is) (there front v rest))

  next-place : (front : List LaneView) (v : LaneView) → length (front ++ v ∷ []) ≡ length front + 1
  next-place front v = length-append front (v ∷ [])

  pub next-front : (front : List LaneView) (v : LaneView) (rest : List LaneView) → vs ≡ front ++ v ∷ rest → vs ≡ (front ++ v ∷ []) ++ rest
  next-front front v rest is = is ∙ sym (append_assoc front (v ∷ []) rest)

  pub homes-end : (front : List LaneView) (ds : List ObjectDef) (homes back : List LaneView) → vs ≡ front ++ (homes ++ back) → HomesAre sys budget j.end ds homes → HomesEnd sys j (length front) ds
  unfolding HomesEnd
  homes-end front [] [] back is h = tt
  homes-end front (d ∷ ds) (v ∷ homes) back is h = (
    subst (λ b. HomeEnds sys d b j.end (told_lane (facts_of sys j) 0 (lane_items (lane_at j (length front))))) (sym seals.budget_is)
        (subst (HomeEnds sys d budget j.end) (sym (at-place front v (homes ++ back) is)) h.0),
    subst (λ n. HomesEnd sys j n ds) (next-place front v) (homes-end (front ++ v ∷ []) ds homes back (next-front front v (homes ++ back) is) h.1),
  )
  homes-end front [] (v ∷ homes) back is h = absurd h
  homes-end front (d ∷ ds) [] back is h = absurd h

  pub homes-rest : (keeps : ℕ → Config) (front : List LaneView) (ds : List ObjectDef) (homes back : List LaneView) → vs ≡ front ++ (homes ++ back) → AreAtRest sys keeps ds homes → HomesRest sys j keeps (length front) ds
  unfolding HomesRest
  homes-rest keeps front [] [] back is h = tt
  homes-rest keeps front (d ∷ ds) (v ∷ homes) back is h = (
    subst (RestsWith sys d (keeps d.priority)) (sym (at-place front v (homes ++ back) is)) h.0,
    subst (λ n. HomesRest sys j keeps n ds) (next-place front v) (homes-rest keeps (front ++ v ∷ []) ds homes back (next-front front v (homes ++ back) is) h.2),
  )
  homes-rest keeps front [] (v ∷ homes) back is h = absurd h
  homes-rest keeps front (d ∷ ds) [] back is h = absurd h

  pub sources-leave : (front : List LaneView) (more : List (List Stim)) (sources : List LaneView) → vs ≡ front ++ sources → SourcesAre sys kernel j.end more sources → SourcesLeave sys j (length front) more
  unfolding SourcesLeave
  sources-leave front [] [] is h = tt
  sources-leave front (ss ∷ more) (v ∷ sources) is h = (
    subst (λ k. SourceLeaves sys k j.end ss (told_lane (facts_of sys j) 0 (lane_items (lane_at j (length front))))) (sym seals.kernel_is)
        (subst (SourceLeaves sys kernel j.end ss) (sym (at-place front v sources is)) h.0),
    subst (λ n. SourcesLeave sys j n more) (next-place front v) (sources-leave (front ++ v ∷ []) more sources (next-front front v sources is) h.1),
  )
  sources-leave front [] (v ∷ sources) is h = absurd h
  sources-leave front (ss ∷ more) [] is h = absurd h

  -- a lane has the `settle` records that it tells
  settles-from : (n : ℕ) (ls : List (List Rec)) (us : List LaneView) → drop n j.lanes ≡ ls → drop n vs ≡ us → length ls ≡ length us → count_by (λ i. is_settle i.body) (all_items ls) ≡ settles_in us
  unfolding all_items
  settles-from n [] [] at told len = refl
  settles-from n [] (u ∷ us) at told len = absurd (omega (arith, len))
  settles-from n (l ∷ ls) [] at told len = absurd (omega (arith, len))
  settles-from n (l ∷ ls) (u ∷ us) at told len =
      let behind = drop-head n j.lanes l ls at in
      let other = drop-head n vs u us told in
      let here_l : lane_at j n ≡ l = ap (λ x. unwrap_or x []) behind.0 in
      let items : untold_all u.told ≡ lane_items l =
      ap untold_all (sym (seals.told n u other.0)) ∙ untold-lane (facts_of sys j) 0 (lane_items (lane_at j n)) ∙ ap lane_items here_l in
      let shorter : length ls ≡ length us = omega (arith, len) in
      let later = settles-from (n + 1) ls us behind.1 other.1 shorter in
      let both = count-append (λ i. is_settle i.body) (lane_items l) (all_items ls) in
      let first : count_by (λ (i : Item). is_settle i.body) (lane_items l) ≡ count_by (λ (i : Item). is_settle i.body) (untold_all u.told) = ap (count_by (λ i. is_settle i.body)) (sym items) in
      omega (arith, both, first, later)

  pub settles-all : count_by (λ i. is_settle i.body) (all_items j.lanes) ≡ settles_in vs
  settles-all = settles-from 0 j.lanes vs refl refl seals.count
