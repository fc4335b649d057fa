-- Codes that a lane hands in and finds.
use Rattle.std.proofs.Common.{◌≡◌, ℕ, zero, suc, ◌<◌, ◌≤◌, ◌==◌, List, ◌∷◌, length, true, false, IsTrue, Option, Some, None, refl, sym, ap, subst, ◌∙◌, arith}
use Rattle.std.proofs.lemmas.Bool.Decides.{nat_tests}
use Rattle.std.specs.Option.{unwrap_or}
use Rattle.std.specs.List.{list_all}
use Rattle.qp_calls.specs.LaneView.{LaneView, codes_in}
use Rattle.qp_calls.specs.Notes.{MayStop}
use Rattle.qp_calls.specs.Clauses.{Stops, Stopped}
use Rattle.qp_calls_log.specs.declared.log.Log.{Log}
use Rattle.qp_calls.specs.LaneLaws.{is_caused_in}
use Rattle.qp_calls_log.proofs.NoteLemmas as note
use Rattle.qp_model.specs.History.{lane_items}
use Rattle.atomic_table.specs.Seated.{TableId}
use Rattle.qp_table.specs.Lane.{lane_of}
use Rattle.qp_side.specs.declared.view.SideView.{SideView}
use Rattle.qp_side.specs.Calls.{SideHandsIn, FindsCode}
use Rattle.qp_shared_lane.specs.declared.lane.LaneState.{LaneState}
use Rattle.qp_shared_lane.specs.Holds.{LaneHolds}
use Rattle.qp_shared_lane.specs.Lane.{lane_with, world_of_lane, world_of, state_view}
use Rattle.qp_shared_lane.proofs.LawLemmas.{logs_keep_the_lane, lanes_tell_their_logs}

module _ (l : LaneState) (code : ℕ) (may : MayStop code (state_view l)) where
  pub within : (0 < code) × (code ≤ 7)
  within = note.code-within (state_view l) code may

  pub caused : is_caused_in (lane_items l.log.recs.items) code ≡ true
  caused = note.stop-caused l.log (state_view l) code (lanes_tell_their_logs (world_of_lane l) l.sys.now l.by l.count l.ceiling l.log l.numbers.list l.seat.me.0 l.side.seat.me.0 l.holds) may

code-more : (code : ℕ) (xs : List ℕ) → 0 < code → codes_in (code ∷ xs) ≡ code ∷ codes_in xs
code-more zero xs some = absurd (omega (arith, some))
code-more (suc n) xs some = let is : (suc n == 0) ≡ false = grind (arith, nat_tests) in rw is refl

module _ (l : LaneState) (z : SideView) where
  abbrev s : SideView
  s = l.side.seat.me.0

  -- the lane with this log
  abbrev pub lane_then : Log → TableId → LaneView
  lane_then h side = lane_with (world_of l.words.now.shared.table_id side l.count) l.sys.now l.by h l.numbers.list l.seat.me.0 z

  module _ (h : Log) (recs : h.recs.items ≡ l.log.recs.items) (spare : h.spare ≡ l.log.spare) (side : TableId) (same : side ≡ l.side.words.now.shared.table_id) where
    pub handed : (code : ℕ) → SideHandsIn code s z → h.stops.list ≡ code ∷ l.log.stops.list → h.answered.list ≡ l.log.answered.list → LaneHolds l.sys.now l.count l.ceiling h l.numbers.list l.seat.me.0 z × Stops code (state_view l) (lane_then h side)
    unfolding lane_of
    handed code is stops answered =
        let k = logs_keep_the_lane (world_of_lane l) l.sys.now l.by l.count l.ceiling l.log l.numbers.list l.seat.me.0 s h z l.holds recs (ap (λ (x : SideView). x.view) is)
        (stops ∙ (ap (λ xs. code ∷ xs) l.holds.stops ∙ sym (ap (λ (x : SideView). x.stops) is))) (ap codes_in answered ∙ (l.holds.answered ∙ sym (ap (λ (x : SideView). x.answered) is))) in
        (k.holds, subst (λ x. Stops code (state_view l) (lane_then h x)) (sym same) (k.is ∙ (λ i. record (state_view l) { spare = spare i; stops = stops i; answered = codes_in (answered i); asked = length (answered i) })))

    -- what the log has then, of a word that holds this answer
    codes-then : (r : Option ℕ) → FindsCode s z r → h.answered.list ≡ unwrap_or r 0 ∷ l.log.answered.list → codes_in h.answered.list ≡ z.answered
    codes-then None is answered = ap codes_in answered ∙ (l.holds.answered ∙ sym (ap (λ (x : SideView). x.answered) is.0))
    codes-then (Some code) is answered = ap codes_in answered ∙ (code-more code l.log.answered.list is.1 ∙ (ap (λ xs. code ∷ xs) l.holds.answered ∙ sym (ap (λ (x : SideView). x.answered) is.0)))

    stops-then : (r : Option ℕ) → FindsCode s z r → h.stops.list ≡ l.log.stops.list → h.stops.list ≡ z.stops
    stops-then None is stops = stops ∙ (l.holds.stops ∙ sym (ap (λ (x : SideView). x.stops) is.0))
    stops-then (Some code) is stops = stops ∙ (l.holds.stops ∙ sym (ap (λ (x : SideView). x.stops) is.0))

    view-then : (r : Option ℕ) → FindsCode s z r → z.view ≡ s.view
    view-then None is = ap (λ (x : SideView). x.view) is.0
    view-then (Some code) is = ap (λ (x : SideView). x.view) is.0

    asked-by : (r : Option ℕ) → FindsCode s z r → h.stops.list ≡ l.log.stops.list → h.answered.list ≡ unwrap_or r 0 ∷ l.log.answered.list → Stopped (state_view l) (lane_then h l.side.words.now.shared.table_id) r
    unfolding lane_of
    asked-by None is stops answered =
        let k = logs_keep_the_lane (world_of_lane l) l.sys.now l.by l.count l.ceiling l.log l.numbers.list l.seat.me.0 s h z l.holds recs (view-then None is) (stops-then None is stops) (codes-then None is answered) in (
          k.is ∙ (λ i. record (state_view l) { spare = spare i; stops = stops i; answered = codes_in (answered i); asked = length (answered i) }),
          l.holds.stops ∙ is.1,
          l.holds.answered ∙ is.2,
          refl,
        )
    asked-by (Some code) is stops answered =
        let k = logs_keep_the_lane (world_of_lane l) l.sys.now l.by l.count l.ceiling l.log l.numbers.list l.seat.me.0 s h z l.holds recs (view-then (Some code) is) (stops-then (Some code) is stops) (codes-then (Some code) is answered) in (
          k.is ∙ (λ i. record (state_view l) { spare = spare i; stops = stops i; answered = (ap codes_in answered ∙ code-more code l.log.answered.list is.1) i; asked = length (answered i) }),
          is.1,
          is.2,
          subst (λ xs. IsTrue (list_all (λ c. c == code) xs)) (sym l.holds.answered) is.3,
        )

    -- A question, and what it found.
    pub asked : (r : Option ℕ) → FindsCode s z r → h.stops.list ≡ l.log.stops.list → h.answered.list ≡ unwrap_or r 0 ∷ l.log.answered.list → LaneHolds l.sys.now l.count l.ceiling h l.numbers.list l.seat.me.0 z × Stopped (state_view l) (lane_then h side) r
    asked r is stops answered = (
      (logs_keep_the_lane (world_of_lane l) l.sys.now l.by l.count l.ceiling l.log l.numbers.list l.seat.me.0 s h z l.holds recs (view-then r is) (stops-then r is stops) (codes-then r is answered)).holds,
      subst (λ x. Stopped (state_view l) (lane_then h x) r) (sym same) (asked-by r is stops answered),
    )
