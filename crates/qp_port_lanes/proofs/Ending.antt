-- How passing a `settle` ends.
use Rattle.std.proofs.Common.{◌≡◌, ℕ, suc, ◌+◌, ◌-◌, ◌≤◌, Bool, true, false, List, [], ◌∷◌, ◌++◌, length, map, cond, refl, sym, ◌∙◌, ap, subst, inr, arith, append_assoc}
use Rattle.std.specs.List.{AllByRecursion, count_by, filter}
use Rattle.std.proofs.lemmas.List.{map-append}
use Rattle.std.proofs.lemmas.List.Sums.{length-filter}
use Rattle.qp_model.specs.declared.bodies.Body.TheVariants as body
use Rattle.qp_model.specs.Lawful.{is_settle}
use Rattle.qp_model.specs.Told.{Told, ToldItem, for_object, plain, untold}
use Rattle.qp_model.proofs.NumberLemmas.{count-append}
use Rattle.qp_model_order.specs.SourceRun.{untold_all}
use Rattle.qp_model.specs.declared.systems.System.{System}
use Rattle.qp_model.specs.Sources.{SeesEmpty, SeesEntry, priorities}
use Rattle.qp_calls.specs.declared.answers.Counts as counts
use Rattle.qp_calls.specs.LaneView.{Grows, GrowsOf, LaneView, Roomier}
use Rattle.qp_calls.specs.Halting.{HaltsDry, HaltsFull}
use Rattle.qp_calls.specs.Notes.{spills_told}
use Rattle.qp_calls_stimulus.specs.Settling.{SeesNone, SeesSome, SettleCut}
use Rattle.qp_kernel_turns.specs.Halting.{asked_once}
use Rattle.qp_port_lanes.specs.declared.cursor.Cursor.{Cursor}
use Rattle.qp_model.specs.Kernels.{sim}
use Rattle.qp_port_lanes.specs.CursorAt.{IsCursorAt, IsSourceAt, stimuli_done, mine, tries_in}
use Rattle.qp_port_phases.specs.Passing.{AddsLook}
use Rattle.qp_port_lanes.specs.Passing.{FindsEntry, FindsNone, Glances, GoesAlong, HasPassed, IsClear, Opens, SeesAllEmpty, ShowsEntry, StarvesThere, StopsThere, opening_of, settles_of}
use Rattle.qp_port_lanes.proofs.Going.{unspilled-told}
use Rattle.qp_port_lanes.proofs.Along.{along-gains, along-glances, along-room, along-then}
use Rattle.qp_port_lanes.proofs.Finding.{finds-cut}
use Rattle.qp_port_lanes.proofs.Tries.{cut-is-plain, plain-seen}
use Rattle.qp_port_lanes.proofs.Settling.{cut-calm, cut-hands, cut-leaves, settled-at, shows-now, tried-at}
use Rattle.qp_port_lanes.proofs.Waiting.{full-stops, full-there, starves-there, stops-behind}

clear-room : (v w : LaneView) → Roomier (asked_once v) w → (p : ℕ) → IsClear v p → IsClear w p
clear-room v w room p k = record { f = k.f; l = k.l; m = k.m; mark = rw room.same k.mark; shown = rw room.same k.shown; empty = k.empty }

all-clear : (v w : LaneView) → ((p : ℕ) → IsClear v p → IsClear w p) → (os : List ℕ) → AllByRecursion (IsClear v) os → AllByRecursion (IsClear w) os
all-clear v w still [] h = tt
all-clear v w still (o ∷ os) h = (still o h.0, all-clear v w still os h.1)

-- `settle` records of a lane that goes on
settles-more : (xs ys : List ToldItem) → settles_of (xs ++ ys) ≡ settles_of xs + settles_of ys
settles-more xs ys = ap (count_by (λ i. is_settle i.body)) (map-append untold xs ys) ∙ count-append (λ i. is_settle i.body) (untold_all xs) (untold_all ys)

settles-some : (o : ℕ) (one : List Told) → 1 ≤ settles_of (map (for_object o) (plain body.Settle ∷ one))
settles-some o one =
    let count = length-filter (λ i. is_settle i.body) (untold_all (map (for_object o) (plain body.Settle ∷ one))) in
    let some : 1 ≤ length (filter (λ i. is_settle i.body) (untold_all (map (for_object o) (plain body.Settle ∷ one)))) = omega arith in
    omega (arith, count, some)

-- It is under way: looks that added nothing, room, and perhaps the `stim`.
module _ (sys : System) (x y : Cursor) (v0 v1 v2 w : LaneView) (at : IsCursorAt sys x v0) (glances : Glances v0 v1) (clear : AllByRecursion (IsClear v1) (priorities sys)) (room : Roomier (asked_once v1) v2) (opens : Opens sys x y v2 w) where
  so_far : GoesAlong v0 w
  so_far = along-then v0 v1 w (along-glances v0 v1 glances) (along-then v1 v2 w (along-room v1 v2 room) opens.along)

  -- the question behind the looks is one more than those before
  asked_more : suc v0.asked ≤ w.asked
  asked_more = let one = ap (λ r. r.asked) room.same in let two = glances.asked in let three = opens.along.asked in omega (arith, one, two, three)

  few_done : stimuli_done x ≤ x.begun
  few_done = by x.settling
    where
      by : (b : Bool) → cond b (x.begun - 1) x.begun ≤ x.begun
      by true = omega arith
      by false = omega arith

  still_clear : AllByRecursion (IsClear w) (priorities sys)
  still_clear = all-clear v1 w (λ p k. opens.clear p (clear-room v1 v2 room p k)) (priorities sys) clear

  first : SeesAllEmpty sys v0
  first = record { then = v1; glances = glances; clear = clear }

  adds : (Fits : List Told → Type 0) (one : List Told) (u : LaneView) → Grows (plain body.Settle ∷ one) w u → Fits one → AddsLook Fits (opening_of x) v0 u
  adds Fits one u grows fits =
      let its : GrowsOf 0 (plain body.Settle ∷ one) w u = subst (λ o. GrowsOf o (plain body.Settle ∷ one) w u) opens.here.none grows in
      let former : v2.told ≡ v0.told = ap (λ r. r.told) room.same ∙ glances.told in
      record {
        one = one;
        told =
            its.told ∙ ap (λ ts. ts ++ map (for_object 0) (plain body.Settle ∷ one)) (opens.opened ∙ ap (λ ts. ts ++ map (for_object 0) (opening_of x)) former)
            ∙ append_assoc v0.told (map (for_object 0) (opening_of x)) (map (for_object 0) (plain body.Settle ∷ one))
            ∙ ap (λ ts. v0.told ++ ts) (sym (map-append (for_object 0) (opening_of x) (plain body.Settle ∷ one)));
        fits = fits;
      }

  pub passes-yes : (u : LaneView) → SeesNone (priorities sys) w u → HasPassed sys x (record y { settling = false }) v0 u
  passes-yes u seen =
      subst (λ (z : Cursor). HasPassed sys x (record z { settling = false }) v0 u) (sym opens.cursor)
      (record {
        stays = record {
          at = record {
            fits = at.fits;
            some = at.some;
            there = at.there;
            begun = λ e. absurd (cc);
            at = settled-at sys (mine x) (stimuli_done x) w opens.here u seen;
            asked = let few = few_done in let more = asked_more in let had = at.asked in let last = seen.grows.asked in omega (arith, few, more, had, last);
          };
          stim = refl;
          source = refl;
          lane = refl;
          along = along-then v0 w u so_far (along-gains _ w u seen.grows seen.hands);
        };
        calm = refl;
        one = refl;
        first = first;
        adds = adds (SeesEmpty (priorities sys)) seen.one u seen.grows seen.fits;
        settled =
            let before = settles-more v0.told so_far.ts in
            let told = ap settles_of so_far.told in
            let last = settles-more w.told (map (for_object w.by) (plain body.Settle ∷ seen.one)) in
            let now = ap settles_of seen.grows.told in
            let some = settles-some w.by seen.one in
            omega (arith, before, told, last, now, some);
      })

  same-count : stimuli_done x + 1 - 1 ≡ stimuli_done x
  same-count = omega arith

  pub passes-found : (u : LaneView) (p : ℕ) (c : counts.Counts) → (h : SeesSome sys w u) × (h.found.object ≡ p) × (h.found.counts ≡ c) → FindsEntry sys p c x y v0 u
  passes-found u p c h =
      subst (λ (z : Cursor). FindsEntry sys p c x z v0 u) (sym opens.cursor)
      (record {
        stays = record {
          at = record {
            fits = at.fits;
            some = at.some;
            there = at.there;
            begun = λ e. omega arith;
            at = subst (λ n. IsSourceAt sys (mine x) n true u) (sym same-count) (tried-at sys (mine x) (stimuli_done x) w opens.here u h.0 still_clear);
            asked = let few = few_done in let more = asked_more in let had = at.asked in let last = h.0.grows.asked in omega (arith, few, more, had, last);
          };
          stim = refl;
          source = refl;
          lane = refl;
          along = along-then v0 w u so_far (along-gains _ w u h.0.grows h.0.hands);
        };
        same = same-count;
        stands = refl;
        shows =
            subst (λ q. ShowsEntry sys q c u) h.1
            (subst (λ d. ShowsEntry sys h.0.found.object d u) h.2 (shows-now sys (mine x) (stimuli_done x) w opens.here u h.0 still_clear));
        told = inr (record { first = first; adds = adds (SeesEntry (priorities sys)) h.0.one u h.0.grows h.0.fits; under_way = refl });
      })

  module _ (u : LaneView) (cut : SettleCut sys w u) where
    behind : GoesAlong v0 u
    behind = along-then v0 w u so_far (along-gains _ w u cut.grows (cut-hands sys (mine x) (stimuli_done x) w opens.here u u cut))

    same : stimuli_done y ≡ stimuli_done x
    same = ap stimuli_done opens.cursor ∙ same-count

    opening_none : tries_in (map (for_object 0) (opening_of x)) ≡ []
    opening_none = by x.settling
      where
        by : (b : Bool) → tries_in (map (for_object 0) (cond b [] (plain (body.Stim (stimuli_done x + 1) 0) ∷ []))) ≡ []
        by true = refl
        by false = refl

    finds : FindsNone sys v0 u
    finds =
        let former : v2.told ≡ v0.told = ap (λ r. r.told) room.same ∙ glances.told in
        finds-cut sys v0 w u (opening_of x) cut.g cut.rest (opens.opened ∙ ap (λ ts. ts ++ map (for_object 0) (opening_of x)) former) opening_none
        (plain-seen cut.g (cut-is-plain sys cut.g cut.rest cut.some (cut.fits sim))) (cut.fits sim) (subst (λ o. GrowsOf o cut.g w u) opens.here.none cut.grows) still_clear

    pub cut-unspilled : spills_told u.told ≡ false
    cut-unspilled = unspilled-told u.told (cut-calm sys (mine x) (stimuli_done x) w opens.here u u cut)

    pub cut-stops : (z : LaneView) → HaltsFull u z → StopsThere sys x y v0 z
    cut-stops z full =
        let stops = stops-behind sys x v0 u z behind
        (full-stops sys x u z (λ kernel end may early. cut-leaves sys (mine x) (stimuli_done x) w opens.here u z cut kernel end may early full) full) in
        full-there sys x y v0 u z behind finds full same (record { leaves = stops.leaves; why = stops.why; ts = stops.ts; told = stops.told; keeps = stops.keeps })

    pub cut-starves : (z : LaneView) → HaltsDry u z → StarvesThere sys x y v0 z
    cut-starves z dry = starves-there sys x y v0 u z behind finds dry same
