-- A seat of the lanes has room for a record.
use Rattle.std.proofs.Common.{◌≡◌, ℕ, ◌<◌, nat_lt, List, [], ◌∷◌, true, length, refl, arith}
use Rattle.std.proofs.lemmas.Bool.Decides.{nat_tests}
use Rattle.qp_table.specs.Counting.{sum_over}
use Rattle.qp_table.specs.After.{HasRoom}
use Rattle.qp_table.specs.declared.view.SeatLog.{SeatLog}
use Rattle.qp_core_steps.specs.Seats.{as_view, seat_records}
use Rattle.qp_core_steps.specs.declared.seats.Seat.{Seat}

own-first : (x : Seat) (gs : List SeatLog) → x.logs ≡ gs → 0 < length gs → sum_over (λ (g : SeatLog). length g.recs) x.logs < 1000001 → HasRoom (as_view x)
own-first x [] e pos few = absurd (omega arith)
own-first x (g ∷ gs) e pos few = record { own = g; others = gs; is = e; room = few }

pub has-room : (lanes : ℕ) (x : Seat) → (nat_lt x.number lanes ≡ true → 0 < length x.logs) → (nat_lt x.number lanes ≡ true) × (nat_lt (seat_records x) 1000001 ≡ true) → HasRoom (as_view x)
has-room lanes x own fits = let test : nat_lt (seat_records x) 1000001 ≡ true = fits.1 in own-first x x.logs refl (own fits.0) (grind (arith, nat_tests))
