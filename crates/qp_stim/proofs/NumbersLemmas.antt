-- Numbers digit by digit.
use Rattle.std.proofs.Common.{◌≡◌, ℕ, ◌+◌, ◌-◌, ◌*◌, ◌^◌, ◌<◌, ◌≤◌, cond, List, ◌∷◌, length, drop, get_or, Some, None, ap, arith, add-one}
use Rattle.std.proofs.Math.Seq.{drop-cons}
use Rattle.std.proofs.lemmas.Bool.{le-ltb, lt-ltb}
use Rattle.qp_chart_text.specs.Tokens.{value_after}
use Rattle.qp_model.specs.WordOf.{fitting_number}
use Rattle.qp_chart_text.proofs.TokenLemmas.{value_above}

pub held-large : (n : ℕ) → 2 ^ 64 ≤ n → fitting_number n ≡ None
held-large n h = ap (λ b. cond b (Some n) None) (le-ltb n (2 ^ 64) h)

pub held-small : (n : ℕ) → n < 2 ^ 64 → fitting_number n ≡ Some n
held-small n h = ap (λ b. cond b (Some n) None) (lt-ltb n (2 ^ 64) h)

-- one digit more is read
pub decimal_from-drop : (n i : ℕ) (ds : List ℕ) → i < length ds → value_after n (drop i ds) ≡ value_after (n * 10 + (get_or ds i 0 - 48)) (drop (i + 1) ds)
decimal_from-drop n i ds h =
    let first : drop i ds ≡ get_or ds i 0 ∷ drop (i + 1) ds = rw add-one (drop-cons ds i 0 h) in
    ap (value_after n) first

-- a number that has passed 64 bits stays there
pub held-overflow : (n i : ℕ) (ds : List ℕ) → i < length ds → 2 ^ 64 ≤ n * 10 + (get_or ds i 0 - 48) → fitting_number (value_after n (drop i ds)) ≡ None
held-overflow n i ds h large =
    let grows = value_above (n * 10 + (get_or ds i 0 - 48)) (drop (i + 1) ds) in
    let same = decimal_from-drop n i ds h in
    held-large (value_after n (drop i ds)) (omega (arith, same, grows, large))
