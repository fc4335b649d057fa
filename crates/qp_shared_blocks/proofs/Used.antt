-- What a lane remembers of its used blocks, at each call.
use Rattle.std.proofs.Common.{◌≡◌, ◌≢◌, ℕ, ◌+◌, ◌-◌, ◌*◌, ◌/◌, ◌%◌, ◌<◌, List, [], ◌∷◌, ◌++◌, Bool, cond, slice_index, Option, Some, None, sym, ap, subst, ◌∙◌, arith, eqb, ne_eqb}
use Rattle.qp_model.specs.declared.systems.System.{System}
use Rattle.qp_table.specs.Counting.{many}
use Rattle.qp_table.specs.Rule.{is_spot, is_spot_at}
use Rattle.qp_table.specs.After.{spot}
use Rattle.qp_table.specs.declared.view.Spot.{Spot}
use Rattle.qp_table.specs.declared.view.View.{View}
use Rattle.qp_table.proofs.Tokens.{at-some}
use Rattle.qp_table.specs.Told.{DropTold, FirstTold, HasPlace}
use Rattle.qp_shared_loops.specs.declared.gives.Life.{Life}
use Rattle.qp_shared_loops.specs.Ends.{GiveEnds}
use Rattle.qp_shared_lane.specs.Used.{HasEnds}
use Rattle.qp_shared_lane.proofs.Used.{ends-same, ends-fewer, ends-more}
use Rattle.qp_shared_blocks.specs.Ends.{AnotherTold, ReturnTold}

-- the end that is remembered of a used block is that of its life
pub end-known : (at : List ℕ) (used : List Spot) (p b m : ℕ) → HasEnds at used → HasPlace p b → 0 < many (is_spot p b) used → m ≡ slice_index at (32 * p + b) → 0 < many (is_spot_at p b m) used
end-known at used p b m has place some is = let a = at-some p b used some in subst (λ n. 0 < many (is_spot_at p b n) used) (sym (is ∙ has p b a.0 place.1 place.2 a.1)) a.1

-- the last reference to a block is dropped
pub last-ended : (sys : System) (o p b k : ℕ) (v u : View) (n : ℕ) (at more : List ℕ) → DropTold sys o p b k v n u → HasPlace p b → n % 4294967296 - 1 ≡ 0
    → slice_index more (32 * p + b) ≡ n / 4294967296 + 1 → ((i : ℕ) → i ≢ 32 * p + b → slice_index more i ≡ slice_index at i) → HasEnds at v.used → HasEnds more u.used
last-ended sys o p b k v u n at more told place last here others has =
    let some_left : 0 < n % 4294967296 = told.2 in
    let low : (n + 4294967295) % 4294967296 ≡ 0 = omega arith in
    let end : (n + 4294967295) / 4294967296 ≡ n / 4294967296 + 1 = omega arith in
    let used : u.used ≡ v.used ++ spot p b (n / 4294967296 + 1) ∷ [] = ap (λ (z : View). z.used) told.0 ∙ (λ i. cond {A = List Spot} (eqb (low i) 0) (v.used ++ spot p b (end i) ∷ []) v.used) in
    subst (HasEnds more) (sym used) (ends-more at more p b (n / 4294967296 + 1) v.used place.1 place.2 told.3 here others has)

-- one of several is dropped
pub kept-ended : (sys : System) (o p b k : ℕ) (v u : View) (n : ℕ) (at : List ℕ) → DropTold sys o p b k v n u → n % 4294967296 - 1 ≢ 0 → HasEnds at v.used → HasEnds at u.used
kept-ended sys o p b k v u n at told more_left has =
    let some_left : 0 < n % 4294967296 = told.2 in
    let high : (n + 4294967295) % 4294967296 ≢ 0 = λ e. more_left (omega arith) in
    ends-same at v u (ap (λ (z : View). z.used) told.0 ∙ ap (λ (t : Bool). cond {A = List Spot} t (v.used ++ spot p b ((n + 4294967295) / 4294967296) ∷ []) v.used) (ne_eqb _ 0 high)) has

pub first-ended : (sys : System) (o p b : ℕ) (v u : View) (n : ℕ) (at : List ℕ) → FirstTold sys o p b v n u → HasEnds at v.used → HasEnds at u.used
first-ended sys o p b v u n at told has = ends-same at v u (ap (λ (z : View). z.used) told.1) has

pub another-ended : (sys : System) (o p b : ℕ) (v u : View) (n : ℕ) (at : List ℕ) → AnotherTold sys o p b v n u → HasEnds at v.used → HasEnds at u.used
another-ended sys o p b v u n at told has = ends-same at v u (ap (λ (z : View). z.used) told.0.1) has

pub back-ended : (sys : System) (o p b m : ℕ) (v u : View) (n : ℕ) (at : List ℕ) → ReturnTold sys o p b m v n u → HasEnds at v.used → HasEnds at u.used
back-ended sys o p b m v u n at told has = subst (HasEnds at) (sym (ap (λ (z : View). z.used) told.0.0)) (ends-fewer at (is_spot p b) v.used has)

give-used : (sys : System) (p o : ℕ) (reserve : Option ℕ) (sig : ℕ) (pars : List ℕ) (v : View) (x : ℕ) (q : Option Life) (u : View) → GiveEnds sys p o reserve sig pars v x q u → u.used ≡ v.used
give-used sys p o reserve sig pars v x (Some life) u ends = ap (λ (z : View). z.used) ends.is
give-used sys p o reserve sig pars v x None u ends = ap (λ (z : View). z.used) ends.is

pub give-ended : (sys : System) (p o : ℕ) (reserve : Option ℕ) (sig : ℕ) (pars : List ℕ) (v : View) (x : ℕ) (q : Option Life) (u : View) (at : List ℕ) → GiveEnds sys p o reserve sig pars v x q u → HasEnds at v.used → HasEnds at u.used
give-ended sys p o reserve sig pars v x q u at ends has = ends-same at v u (give-used sys p o reserve sig pars v x q u ends) has
