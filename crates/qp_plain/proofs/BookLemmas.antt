-- A book when a record comes to the lane chosen.
use Rattle.std.proofs.Common.{◌≡◌, ℕ, ◌+◌, ◌<◌, ◌≤◌, List, [], ◌∷◌, ◌++◌, length, map, slice_set, sym, ◌∙◌, ap, arith}
use Rattle.std.proofs.lemmas.List.{length-set, length-map, get_or-set_same}
use Rattle.std.proofs.lemmas.List.Sums.{sum_by-set, get_or-le-sum_by}
use Rattle.qp_model.specs.declared.record.Rec.{Rec}
use Rattle.qp_model.proofs.ListLemmas.{slice_set-twice}
use Rattle.qp_plain_sound.specs.Step.{Grown}
use Rattle.qp_calls_log.specs.declared.log.Log.{Log}
use Rattle.qp_plain.specs.Books.{places_of, log_recs, all_logs, all_places}
use Rattle.qp_plain.specs.LaneLaws.{lists-are, lane-here}

-- what the lane chosen has room for is a part of what all have
pub places-here : (others : List Log) (at : ℕ) (here : Log) → at < length others → places_of here ≤ all_places (all_logs others at here)
places-here others at here lt =
    let long : at < length (slice_set others at here) = rw (length-set others at here) lt in
    let le = get_or-le-sum_by places_of (slice_set others at here) at here long in
    let is = ap places_of (get_or-set_same others at here here lt) in
    omega (arith, le, is)

-- the lane chosen changes
pub places-change : (others : List Log) (at : ℕ) (here next : Log) → at < length others
    → all_places (all_logs others at next) + places_of here ≡ all_places (all_logs others at here) + places_of next
places-change others at here next lt =
    let a = sum_by-set places_of others at next here lt in
    let b = sum_by-set places_of others at here here lt in
    omega (arith, a, b)

pub grown-here : (others : List Log) (at : ℕ) (here next : Log) (r : Rec) (order longer : List ℕ) → at < length others → log_recs next ≡ log_recs here ++ r ∷ []
    → longer ≡ order ++ at ∷ [] → Grown (map log_recs (all_logs others at here)) order at r (map log_recs (all_logs others at next)) longer
grown-here others at here next r order longer lt is next_order = record {
  within = rw (length-map (slice_set others at here) log_recs, length-set others at here) lt;
  lanes_are =
      lists-are others at next ∙ ap (slice_set (map log_recs others) at) is ∙ sym (slice_set-twice (map log_recs others) at (log_recs here) (log_recs here ++ r ∷ []))
      ∙ ap (λ xs. slice_set xs at (log_recs here ++ r ∷ [])) (sym (lists-are others at here))
      ∙ ap (λ (l : List Rec). slice_set (map log_recs (all_logs others at here)) at (l ++ r ∷ [])) (sym (lane-here others at here lt));
  order_is = next_order;
}

-- where it holds the same records
pub lists-same : (others : List Log) (at : ℕ) (here next : Log) → log_recs next ≡ log_recs here → map log_recs (all_logs others at next) ≡ map log_recs (all_logs others at here)
lists-same others at here next is = lists-are others at next ∙ ap (slice_set (map log_recs others) at) is ∙ sym (lists-are others at here)
