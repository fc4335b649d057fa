-- Room, and notes.
use Rattle.std.proofs.Common.{◌≡◌, ℕ, ◌≤◌, ◌||◌, List, [], ◌∷◌, Bool, true, false, length, map, refl, sym, ap, subst, ◌∙◌, arith}
use Rattle.qp_model.specs.declared.record.Rec.{Rec}
use Rattle.qp_model.specs.declared.bodies.Entry.{Entry}
use Rattle.qp_model.specs.declared.bodies.Body.{Body}
use Rattle.qp_model.specs.declared.bodies.Body.TheVariants.{Took, New, Dec, Lock, Same, Spill}
use Rattle.qp_model.specs.Record.{item_of, body_of}
use Rattle.qp_model.specs.Ends.{is_spill}
use Rattle.qp_model.specs.History.{touch_of}
use Rattle.qp_model.specs.Told.{ToldItem, Event, for_object}
use Rattle.qp_model.specs.Knowing.{ceiling_after}
use Rattle.qp_model.proofs.RecordLemmas.{lane-length}
use Rattle.qp_calls.specs.LaneView.{LaneView, Roomier, GrowsOf, Gains, codes_in, handled_in, ceiling_in}
use Rattle.qp_calls.specs.Notes.{IsNote, MayNote, note_told as noted_as, told_note}
use Rattle.qp_calls.specs.Tokens.{Token, hands_after, handles}
use Rattle.qp_calls_log.specs.declared.log.Log.{Log}
use Rattle.qp_calls_log.specs.LaneLaws.{TellsLog, told-items}
use Rattle.qp_calls_log.proofs.NoteLemmas.{note-off, note-hands, note-handles}
use Rattle.qp_table.specs.Lane.{lane_of, told_as}
use Rattle.qp_shared_lane.specs.declared.lane.LaneState.{LaneState}
use Rattle.qp_shared_lane.specs.Holds.{LaneHolds, FormerIs}
use Rattle.qp_shared_lane.specs.Lane.{world_of_lane, lane_with, state_view}
use Rattle.qp_shared_lane.specs.More.{IsPut, IsNoted}
use Rattle.qp_shared_lane.specs.Laws.{LaneGainsRecord, LogKept}
use Rattle.qp_shared_lane.proofs.LawLemmas.{notes_keep_the_lane, logs_keep_the_lane, lanes_tell_their_logs}

pub tells : (l : LaneState) → TellsLog l.log (state_view l)
tells l = lanes_tell_their_logs (world_of_lane l) l.sys.now l.by l.count l.ceiling l.log l.numbers.list l.seat.me.0 l.side.seat.me.0 l.holds

pub told-long : (l : LaneState) → length (state_view l).told ≡ length l.log.recs.items
told-long l = told-items l.log (state_view l) (tells l) ∙ lane-length l.log.recs.items

-- Room.

module _ (l : LaneState) (g : Log) (recs : g.recs.items ≡ l.log.recs.items) (stops : g.stops.list ≡ l.log.stops.list) (answered : g.answered.list ≡ l.log.answered.list) where
  kept : LogKept (world_of_lane l) l.sys.now l.by l.count l.ceiling l.log l.numbers.list l.seat.me.0 l.side.seat.me.0 g l.side.seat.me.0
  kept = logs_keep_the_lane (world_of_lane l) l.sys.now l.by l.count l.ceiling l.log l.numbers.list l.seat.me.0 l.side.seat.me.0 g l.side.seat.me.0 l.holds recs refl (stops ∙ l.holds.stops) (ap codes_in answered ∙ l.holds.answered)

  pub room-holds : LaneHolds l.sys.now l.count l.ceiling g l.numbers.list l.seat.me.0 l.side.seat.me.0
  room-holds = kept.holds

  pub room-view : lane_with (world_of_lane l) l.sys.now l.by g l.numbers.list l.seat.me.0 l.side.seat.me.0 ≡ record (state_view l) { spare = g.spare }
  unfolding lane_of
  room-view = kept.is ∙ (λ i. record (state_view l) { spare = g.spare; stops = stops i; answered = codes_in (answered i); asked = length (answered i) })

  pub roomier : l.log.spare ≤ g.spare → Roomier (state_view l) (lane_with (world_of_lane l) l.sys.now l.by g l.numbers.list l.seat.me.0 l.side.seat.me.0)
  unfolding lane_of
  roomier more = record { same = room-view; more = more }

  pub room-refused : g.spare ≡ l.log.spare → lane_with (world_of_lane l) l.sys.now l.by g l.numbers.list l.seat.me.0 l.side.seat.me.0 ≡ state_view l
  unfolding lane_of
  room-refused same = room-view ∙ ap (λ n. record (state_view l) { spare = n }) same

pub stays : (l : LaneState) → Roomier (state_view l) (state_view l)
unfolding lane_of
stays l = record { same = refl; more = omega arith }

-- Notes.

pub spill-of : (r : Rec) (b : Bool) → is_spill (body_of r) ≡ b → is_spill (item_of r).body ≡ b
unfolding item_of
spill-of r b e = e

-- a note as its lane tells it
note-known : (v : LaneView) (b : Body) → IsNote b v → (ev : Entry → Event) (o n : ℕ) → told_as ev (record { of = o; body = b }) n ≡ for_object o (noted_as n b)
note-known v (Took f l m e) h ev o n = let wrong : false ≡ true = h.0 in absurd (cc)
note-known v (New p k b from sig pars) h ev o n = let wrong : false ≡ true = h.0 in absurd (cc)
note-known v (Dec p b d k) h ev o n = let wrong : false ≡ true = h.0 in absurd (cc)
note-known v (Same sig k) h ev o n = let wrong : false ≡ true = h.0 in absurd (cc)
note-known v (Lock c) h ev o n = refl
note-known v _ h ev o n = refl

spill-known : (b : Body) → is_spill b ≡ true → (ev : Entry → Event) (o n c : ℕ) → told_as ev (record { of = o; body = b }) n ≡ for_object o (noted_as c b)
spill-known (Spill k) h ev o n c = refl
spill-known _ h ev o n c = absurd (cc)

noted-body : (c : ℕ) (b : Body) → (noted_as c b).body ≡ b
noted-body c (Lock x) = refl
noted-body c _ = refl

noted-former : (c : ℕ) (b : Body) → FormerIs c (noted_as c b).body (noted_as c b).known
noted-former c (Lock x) = refl
noted-former c _ = tt

module _ (l : LaneState) (r : Rec) (may : MayNote r (state_view l)) where
  abbrev note : ToldItem
  note = for_object r.of (noted_as l.ceiling (body_of r))

  ceiling-is : ceiling_in 0 (state_view l).told ≡ l.ceiling
  unfolding lane_of
  ceiling-is = l.holds.ceiling_is

  pub noted-is : map (for_object r.of) (told_note r (state_view l)) ≡ note ∷ []
  unfolding told_note
  noted-is = ap (λ c. for_object r.of (noted_as c (body_of r)) ∷ []) ceiling-is

  body-is : note.told.body ≡ body_of r
  body-is = noted-body l.ceiling (body_of r)

  is-noted : (n : ℕ) → ((ev : Entry → Event) → told_as ev (item_of r) n ≡ note) → IsNoted r n l.ceiling note
  unfolding item_of hands_after
  is-noted n told = record {
    told = told;
    off = ap (touch_of r.of) body-is ∙ note-off (state_view l) r may;
    moves = λ hands. ap (hands_after hands) (sym noted-is) ∙ note-hands (state_view l) r may hands;
    handles_none = λ x. first x (handles x note.told.body) (ap (handled_in x) (sym noted-is) ∙ note-handles (state_view l) r may x);
    former = noted-former l.ceiling (body_of r);
  }
    where
      first : (x : Token) (b : Bool) → (b || false) ≡ false → b ≡ false
      first x true h = absurd (cc)
      first x false h = refl

  pub plain-told : (ev : Entry → Event) → told_as ev (item_of r) l.ceiling ≡ note
  unfolding MayNote item_of
  plain-told ev = note-known (state_view l) (body_of r) may ev r.of l.ceiling

  pub spill-told : is_spill (item_of r).body ≡ true → (ev : Entry → Event) → told_as ev (item_of r) 0 ≡ note
  unfolding item_of
  spill-told is ev = spill-known (body_of r) is ev r.of 0 l.ceiling

  module _ (g : Log) (more : List ℕ) (n : ℕ) (put : IsPut r n l.log l.numbers.list g more) (told : (ev : Entry → Event) → told_as ev (item_of r) n ≡ note) (after : ℕ) (after_is : after ≡ ceiling_after l.ceiling (body_of r)) where
    note-kept : LaneGainsRecord (world_of_lane l) l.sys.now l.by l.count l.ceiling l.log l.numbers.list l.seat.me.0 l.side.seat.me.0 g more l.seat.me.0 l.side.seat.me.0 (ceiling_after l.ceiling note.told.body) note
    note-kept = notes_keep_the_lane (world_of_lane l) l.sys.now l.by l.count l.ceiling l.log l.numbers.list l.seat.me.0 l.side.seat.me.0 g more r n note l.holds put (is-noted n told)

    pub note-holds : LaneHolds l.sys.now l.count after g more l.seat.me.0 l.side.seat.me.0
    note-holds = subst (λ c. LaneHolds l.sys.now l.count c g more l.seat.me.0 l.side.seat.me.0) (ap (ceiling_after l.ceiling) body-is ∙ sym after_is) note-kept.holds

    pub note-grows : GrowsOf r.of (told_note r (state_view l)) (state_view l) (lane_with (world_of_lane l) l.sys.now l.by g more l.seat.me.0 l.side.seat.me.0)
    note-grows = subst (λ (ts : List ToldItem). Gains ts (state_view l) (lane_with (world_of_lane l) l.sys.now l.by g more l.seat.me.0 l.side.seat.me.0)) (sym noted-is) note-kept.gains
