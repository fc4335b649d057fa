-- What a call has of its lane.
use Rattle.std.proofs.Common.{◌≡◌, ℕ, ◌<◌, sym, subst, arith, IsTrue, true, false}
use Rattle.qp_table.specs.Counting.{many}
use Rattle.qp_table.specs.Rule.{is_ref, is_spot}
use Rattle.qp_table.specs.After.{HasRoom, ref}
use Rattle.qp_calls.specs.Tokens.{Hold, Held, Loose, stands}
use Rattle.qp_calls.specs.Clauses.{StandsHold, StandsFresh}
use Rattle.qp_calls.specs.declared.tokens.Fresh.{Fresh}
use Rattle.qp_table.specs.Lane.{lane_of, has_content, is_read}
use Rattle.qp_table.proofs.Hands.{read-has, read-small}
use Rattle.qp_table.specs.Asked.{is_begun}
use Rattle.qp_table.specs.Told.{HasPlace}
use Rattle.qp_shared_lane.specs.declared.lane.LaneState.{LaneState}
use Rattle.qp_shared_lane.specs.Lane.{state_view}
use Rattle.qp_shared_lane.proofs.LawLemmas.{spare_gives_room, hands_stand}

module _ (l : LaneState) where
  pub spare-is : 0 < (state_view l).spare → 0 < l.log.spare
  unfolding lane_of
  spare-is h = h

  pub room : 0 < (state_view l).spare → HasRoom l.seat.me.0
  room h = (spare_gives_room l.sys.now l.count l.ceiling l.log l.numbers.list l.seat.me.0 l.side.seat.me.0 l.holds (spare-is h)).table

  -- a reference in the hands
  pub held : (h : Hold) → StandsHold h (state_view l) → 0 < many (is_ref h.pool h.block h.name) l.seat.me.0.hands
  unfolding lane_of
  held h is = hands_stand l.sys.now l.count l.ceiling l.log l.numbers.list l.seat.me.0 l.side.seat.me.0 l.holds (Held h.pool h.block h.name) is.1

  pub held-read : (h : Hold) → StandsHold h (state_view l) → IsTrue (is_read l.seat.me.0.contents (ref h.pool h.block h.name))
  held-read h is = (l.holds.read (ref h.pool h.block h.name) (held h is)).0

  pub held-place : (h : Hold) → StandsHold h (state_view l) → HasPlace h.pool h.block
  held-place h is = let z = read-small l.seat.me.0.contents (ref h.pool h.block h.name) (held-read h is) in (is.0, z.0, z.1)

  pub held-known : (h : Hold) → StandsHold h (state_view l) → IsTrue (has_content l.seat.me.0.contents (ref h.pool h.block h.name))
  held-known h is = read-has l.seat.me.0.contents (ref h.pool h.block h.name) (held-read h is)

  -- a block in the hands
  pub fresh : (f : Fresh) → StandsFresh f (state_view l) → f.used ≡ false → 0 < many (is_spot f.pool f.block) l.seat.me.0.fresh
  unfolding lane_of
  fresh f is new = let z = hands_stand l.sys.now l.count l.ceiling l.log l.numbers.list l.seat.me.0 l.side.seat.me.0 l.holds (Loose f.pool f.block false) in z (subst (λ b. IsTrue (stands (Loose f.pool f.block b) (state_view l).hands)) new is.1)

  pub used : (f : Fresh) → StandsFresh f (state_view l) → f.used ≡ true → 0 < many (is_spot f.pool f.block) l.seat.me.0.used
  unfolding lane_of
  used f is old = let z = hands_stand l.sys.now l.count l.ceiling l.log l.numbers.list l.seat.me.0 l.side.seat.me.0 l.holds (Loose f.pool f.block true) in z (subst (λ b. IsTrue (stands (Loose f.pool f.block b) (state_view l).hands)) old is.1)

  -- whose give is finished
  pub begun : (f : Fresh) → StandsFresh f (state_view l) → f.used ≡ false → 0 < many (is_begun f.pool f.block) l.seat.me.0.gives
  begun f is new = let z = fresh f is new in let n = l.holds.still.begun f.pool f.block in omega arith

  pub fresh-place : (f : Fresh) → StandsFresh f (state_view l) → f.used ≡ false → HasPlace f.pool f.block
  fresh-place f is new = let z = fresh f is new in l.holds.placed f.pool f.block (omega arith)

  pub used-place : (f : Fresh) → StandsFresh f (state_view l) → f.used ≡ true → HasPlace f.pool f.block
  used-place f is old = let z = used f is old in l.holds.placed f.pool f.block (omega arith)

-- A token by its parts.

pub hold-is : (p b k : ℕ) (h : Hold) → p ≡ h.pool → b ≡ h.block → k ≡ h.name → record { pool = p; block = b; name = k } ≡ h
hold-is p b k h x y z = (λ i. record { pool = x i; block = y i; name = z i })

pub fresh-is : (p b : ℕ) (f : Fresh) → p ≡ f.pool → b ≡ f.block → record { pool = p; block = b; used = f.used } ≡ f
fresh-is p b f x y = (λ i. record { pool = x i; block = y i; used = f.used })

-- the same of a used block, by what was read of its token
pub used-by : (l : LaneState) (f : Fresh) (p b : ℕ) → p ≡ f.pool → b ≡ f.block → StandsFresh f (state_view l) → f.used ≡ true → HasPlace p b × (0 < many (is_spot p b) l.seat.me.0.used)
used-by l f p b x y is old = subst (λ (z : Fresh). HasPlace z.pool z.block × (0 < many (is_spot z.pool z.block) l.seat.me.0.used)) (sym (fresh-is p b f x y)) (used-place l f is old, used l f is old)
