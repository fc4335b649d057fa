-- A lawful journal has few lanes, and each is short.
use Rattle.std.proofs.Common.{◌≡◌, ◌+◌, ◌^◌, ◌≤◌, ◌<◌, ◌==◌, Bool, true, false, not, cond, ℕ, zero, suc, List, [], ◌∷◌, ◌++◌, length, get_or, sym, subst, arith}
use Rattle.std.specs.List.{AllByRecursion, count_by, list_all}
use Rattle.std.proofs.lemmas.Bool.{and_parts}
use Rattle.std.proofs.lemmas.Bool.Decides.{nat_tests}
use Rattle.qp_model.specs.declared.record.Rec.{Rec}
use Rattle.qp_model.specs.declared.stimulus.Stim.{Stim}
use Rattle.qp_model.specs.declared.systems.System.{System}
use Rattle.qp_model.specs.declared.journals.Journal.{Journal}
use Rattle.qp_model.specs.History.{lane_items}
use Rattle.qp_model.specs.Kernels.{port}
use Rattle.qp_model.specs.Ends.{ends_last, is_spill}
use Rattle.qp_model.specs.End.{has_room}
use Rattle.qp_model.specs.Lawful.{EndHolds, Lawful, lanes_before}
use Rattle.qp_model.specs.Sound.{IsSound}
use Rattle.qp_replay.specs.Remaining.{IsSmall}
use Rattle.qp_model.proofs.RecordLemmas.{lane-length}
use Rattle.qp_model.proofs.LastLemmas.{lane-long}

pub short-more : (ls : List (List Rec)) (l : List Rec) → AllByRecursion (λ l. length l < 2 ^ 32) ls → length l < 2 ^ 32 → AllByRecursion (λ l. length l < 2 ^ 32) (ls ++ l ∷ [])
short-more [] l all short = (short, tt)
short-more (x ∷ xs) l all short = (all.0, short-more xs l all.1 short)

pub short-at : (ls : List (List Rec)) (k : ℕ) (l : List Rec) → k < length ls → l ≡ get_or ls k l → AllByRecursion (λ x. length x < 2 ^ 32) ls → length l < 2 ^ 32
short-at [] k l lt is all = absurd (omega (arith, lt))
short-at (x ∷ xs) zero l lt is all = subst (λ (z : List Rec). length z < 2 ^ 32) (sym is) all.0
short-at (x ∷ xs) (suc k) l lt is all = short-at xs k l (omega (arith, lt)) is all.1

lanes-short : (lanes : List (List Rec)) → list_all (λ lane. ends_last (lane_items lane)) lanes ≡ true → list_all (λ lane. has_room (lane_items lane)) lanes ≡ true → AllByRecursion (λ l. length l < 2 ^ 32) lanes
unfolding has_room
lanes-short [] last room = tt
lanes-short (l ∷ ls) last room =
    let ends = and_parts (ends_last (lane_items l)) (list_all (λ lane. ends_last (lane_items lane)) ls) last in
    let has = and_parts (has_room (lane_items l)) (list_all (λ lane. has_room (lane_items lane)) ls) room in
    let long = lane-long (lane_items l) ends.0 in
    let few : count_by (λ i. not (is_spill i.body)) (lane_items l) ≤ 1000000 = grind (arith, nat_tests, has.0) in
    let same : length (lane_items l) ≡ length l = lane-length l in
    (omega (arith, long, few, same), lanes-short ls ends.1 has.1)

pub small-journal : (sys : System) (stimuli : List (List Stim)) (j : Journal) → IsSound sys → length stimuli ≤ 16 → Lawful sys stimuli j → IsSmall j.lanes
unfolding EndHolds
small-journal sys stimuli j sound few lawful = record {
  count =
      let many : length j.lanes ≡ lanes_before sys j + length stimuli = grind (arith, nat_tests, lawful.sources.count) in
      let before = go (j.kernel == port) in
      omega (arith, many, before, few);
  lengths = lanes-short j.lanes lawful.end.last lawful.end.room;
}
  where
    go : (b : Bool) → cond b (length sys.objects + 1) 1 ≤ 33
    go true = omega (arith, sound.few_objects)
    go false = omega arith
