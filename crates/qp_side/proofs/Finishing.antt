-- The seats of a list, taken over from its end.
use Rattle.std.proofs.Common.{◌≡◌, ◌+◌, List, [], ◌∷◌, ◌++◌, length, map, sum_by, sym, ap, ◌∙◌, arith, length-append}
use Rattle.std.proofs.lemmas.List.{map-append}
use Rattle.std.proofs.lemmas.List.Sums.{sum_by-append}
use Rattle.qp_table.specs.Counting.{Each}
use Rattle.qp_side.specs.Told.{both_of}
use Rattle.qp_side.specs.declared.view.SideView.{SideView}
use Rattle.qp_side.specs.Seat.{rights}
use Rattle.qp_side.specs.Ending.{joined_last}
use Rattle.qp_side.specs.declared.seat.SideSeat.{SideSeat}
use Rattle.qp_side.proofs.EndLemmas.{joined-snoc}

abbrev pub view_of : SideSeat → SideView
view_of s = s.seat.me.0

module _ (v u : SideView) (xs ys : List SideSeat) (s : SideSeat) (items : ys ≡ xs ++ s ∷ []) (both : u ≡ both_of v (view_of s)) where
  pub joined-next : joined_last u (map view_of xs) ≡ joined_last v (map view_of ys)
  joined-next = ap (λ z. joined_last z (map view_of xs)) both ∙ (sym (joined-snoc v (map view_of xs) (view_of s)) ∙ ap (joined_last v) (sym (ap (map view_of) items ∙ map-append view_of xs (s ∷ []))))

  pub rights-next : rights u + sum_by (λ (x : SideSeat). rights (view_of x)) xs ≡ rights v + sum_by (λ (x : SideSeat). rights (view_of x)) ys
  rights-next =
      let a = ap rights both in
      let b = length-append v.view.logs (view_of s).view.logs in
      let c = length-append v.view.lane_numbers (view_of s).view.lane_numbers in
      let d = ap (sum_by (λ (x : SideSeat). rights (view_of x))) items in
      let e = sum_by-append (λ (x : SideSeat). rights (view_of x)) xs (s ∷ []) in omega arith

pub one-each : (xs : List SideSeat) → Each (λ (w : SideView). length w.view.logs ≡ 1) (map view_of xs)
one-each [] = tt
one-each (x ∷ xs) = (x.lane, one-each xs)
