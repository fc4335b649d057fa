-- The event of a reference in the hands, read in place.
use Rattle.std.proofs.Common.{◌≡◌, ℕ, suc, ◌+◌, ◌%◌, ◌<◌, ◌≤◌, ◌∷◌, length, min, sym, ap, subst, ◌∙◌, arith, Some}
use Rattle.std.specs.Prelude.{slice_get, slice_index}
use Rattle.std.proofs.lemmas.Option.{slice_get-get_or}
use Rattle.qp_model.specs.Record.{entry}
use Rattle.qp_model.specs.Told.{Event}
use Rattle.qp_table.specs.Rule.{IsContent}
use Rattle.qp_table.specs.After.{ref}
use Rattle.qp_table.specs.declared.view.View.{View}
use Rattle.qp_calls.specs.Clauses.{IsEvent}
use Rattle.qp_calls.specs.Tokens.{Hold}
use Rattle.qp_table.specs.Lane.{lane_of, event_seen}
use Rattle.qp_table.specs.Told.{ReadTold}
use Rattle.qp_shared_lane.specs.declared.lane.LaneState.{LaneState}
use Rattle.qp_shared_lane.specs.Holds.{LaneHolds}
use Rattle.qp_shared_lane.specs.Used.{HasEnds}
use Rattle.qp_shared_lane.proofs.Used.{ends-same}
use Rattle.qp_shared_lane.specs.Lane.{world_of_lane, lane_with, state_view}

-- a look that leaves the view
module _ (l : LaneState) (u : View) (same : u ≡ l.seat.me.0) where
  pub still-ended : HasEnds l.ends.at u.used
  still-ended = ends-same l.ends.at l.seat.me.0 u (ap (λ (z : View). z.used) same) l.ended

  pub still-holds : LaneHolds l.sys.now l.count l.ceiling l.log l.numbers.list u l.side.seat.me.0
  still-holds = subst (λ (z : View). LaneHolds l.sys.now l.count l.ceiling l.log l.numbers.list z l.side.seat.me.0) (sym same) l.holds

  pub still-view : lane_with (world_of_lane l) l.sys.now l.by l.log l.numbers.list u l.side.seat.me.0 ≡ state_view l
  still-view = ap (λ (z : View). lane_with (world_of_lane l) l.sys.now l.by l.log l.numbers.list z l.side.seat.me.0) same

module _ (l : LaneState) (h : Hold) (p b k : ℕ) (same : record { pool = p; block = b; name = k } ≡ h) (u : View) (n j : ℕ) (told : ReadTold l.words.now.shared.key p b k j l.seat.me.0 n u) where
  abbrev ev : Event
  ev = event_seen l.seat.me.0.contents (ref h.pool h.block h.name)

  told-of : ReadTold l.sys.now h.pool h.block h.name j l.seat.me.0 n u
  told-of = subst (λ (x : Hold). ReadTold l.sys.now x.pool x.block x.name j l.seat.me.0 n u) same (subst (λ s. ReadTold s p b k j l.seat.me.0 n u) l.key told)

  pub read-same : u ≡ l.seat.me.0
  read-same = told.0

  content : IsContent l.sys.now ev.sig ev.pars
  content = told-of.1

  pub event-is : IsEvent l.sys.now ((state_view l).event (entry h.pool h.block h.name))
  unfolding lane_of
  event-is = record { from = content.from; within = content.within; params = content.params }

  pub sig-is : j ≡ 0 → n % 65536 ≡ ((state_view l).event (entry h.pool h.block h.name)).sig
  unfolding lane_of
  sig-is first = let value : n ≡ ev.sig = told-of.2 (omega arith) ∙ ap (get-at) first in let w = content.within in let f = l.holds.fitting.few_signals in omega arith
    where
      get-at : ℕ → ℕ
      get-at i = slice_index (ev.sig ∷ ev.pars) i

  pub par-is : (i : ℕ) → j ≡ min i 7 + 1 → i < length ((state_view l).event (entry h.pool h.block h.name)).pars → slice_get ((state_view l).event (entry h.pool h.block h.name)).pars i ≡ Some n
  unfolding lane_of
  par-is i place lt =
      let few : length ev.pars ≤ 8 = (let a = content.params in let c = l.holds.fitting.params ev.sig in omega arith) in
      let at : j ≡ suc i = omega arith in
      let value : n ≡ slice_index (ev.sig ∷ ev.pars) (suc i) = told-of.2 (omega arith) ∙ ap (λ x. slice_index (ev.sig ∷ ev.pars) x) at in
      slice_get-get_or ev.pars i 0 lt ∙ ap Some (sym value)
