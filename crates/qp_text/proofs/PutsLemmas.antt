-- Puts one after another.
use Rattle.std.proofs.Common.{◌≡◌, ◌∙◌, ℕ, suc, ◌+◌, ◌<◌, List, ◌++◌, length, take, drop, get_or, Option, Some, None, Result, Ok, Err, refl, sym, ap, append_assoc, length-append, arith}
use Rattle.std.proofs.Math.Seq.{take-append-add}
use Rattle.std.proofs.lemmas.List.{take-append-le}
use Rattle.std.specs.List.{flat_map}
use Rattle.qp_base.specs.Sink.{appended, AppendsPrefix}
use Rattle.qp_text.specs.Puts.{Puts}
use Rattle.qp_text.proofs.PieceLemmas.{pieces-around, pieces-next}

pub appended-twice : (w : Option (List ℕ)) (a b : List ℕ) → appended (appended w a) b ≡ appended w (a ++ b)
appended-twice None a b = refl
appended-twice (Some w) a b = ap Some (append_assoc w a b)

-- some of the bytes behind those that were written before
pub prefix-then : (a b : List ℕ) (w0 w1 w2 : Option (List ℕ)) → w1 ≡ appended w0 a → AppendsPrefix w1 b w2 → AppendsPrefix w0 (a ++ b) w2
prefix-then a b w0 w1 w2 written p = (
  length a + p.0,
  simp length-append (omega (arith, p.1)),
  p.2 ∙ rw (written, take-append-add a b p.0) (appended-twice w0 a (take p.0 b)),
)

-- some of the bytes, with more to write
pub prefix-longer : (a b : List ℕ) (w0 w1 : Option (List ℕ)) → AppendsPrefix w0 a w1 → AppendsPrefix w0 (a ++ b) w1
prefix-longer a b w0 w1 p =
    (p.0, simp length-append (omega (arith, p.1)), p.2 ∙ ap (appended w0) (sym (take-append-le p.0 a b p.1)))

-- what was written before, and then what this call writes
pub Puts-then : {T E : Type 0} (result : Result T E) (a b : List ℕ) (w0 w1 w2 : Option (List ℕ)) (f0 f1 f2 : ℕ)
    → w1 ≡ appended w0 a → f1 ≡ f0 → Puts result b w1 w2 f1 f2 → Puts result (a ++ b) w0 w2 f0 f2
Puts-then (Ok _) a b w0 w1 w2 f0 f1 f2 written stands puts = (puts.0 ∙ rw written (appended-twice w0 a b), puts.1 ∙ stands)
Puts-then (Err _) a b w0 w1 w2 f0 f1 f2 written stands puts = (prefix-then a b w0 w1 w2 written puts.0, rw (← stands) puts.1)

module _ {X : Type 0} (f : X → List ℕ) (xs : List X) (i : ℕ) (x : X) (inside : i < length xs) (is : x ≡ get_or xs i x) (w0 w1 w2 : Option (List ℕ))
    (written : w1 ≡ appended w0 (flat_map f (take i xs))) where
  -- one of many pieces is written, after the pieces before it
  pub pieces-put : w2 ≡ appended w1 (f x) → w2 ≡ appended w0 (flat_map f (take (i + 1) xs))
  pieces-put put = put ∙ rw written (appended-twice w0 (flat_map f (take i xs)) (f x)) ∙ ap (appended w0) (sym (pieces-next f xs i x inside is))

  -- some of its bytes are written, and the call fails
  pub pieces-cut : AppendsPrefix w1 (f x) w2 → AppendsPrefix w0 (flat_map f xs) w2
  pieces-cut p =
      rw (pieces-around f xs i x inside is)
      (prefix-longer (flat_map f (take i xs) ++ f x) (flat_map f (drop (suc i) xs)) w0 w2 (prefix-then (flat_map f (take i xs)) (f x) w0 w1 w2 written p))
