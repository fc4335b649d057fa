-- What several writes append.
use Rattle.std.proofs.Common.{◌≡◌, ℕ, ◌+◌, ◌-◌, ◌≤◌, List, length, take, drop, Option, Some, None, append_assoc, arith, length-drop, length-take-le, ◌∙◌}
use Rattle.std.proofs.Math.Seq.{take-add}
use Rattle.std.proofs.lemmas.List.{take-take}
use Rattle.std.specs.Io.KnownBytes.{Appends, Keeps}

-- what is left after `done` of the bytes
abbrev pub rest : List ℕ → ℕ → List ℕ
rest bytes done = take (length bytes - done) (drop done bytes)

pub length-rest : (bytes : List ℕ) (done : ℕ) → length (rest bytes done) ≡ length bytes - done
length-rest bytes done = length-take-le (length bytes - done) (drop done bytes) (omega (arith, length-drop done bytes))

-- one more write takes the next n bytes
pub Appends-next : (a b c : Option (List ℕ)) (bytes : List ℕ) (done n : ℕ) → n ≤ length (rest bytes done)
    → Appends a b (take done bytes) → Appends b c (take n (rest bytes done)) → Appends a c (take (done + n) bytes)
Appends-next None b c bytes done n fits before next = tt
Appends-next (Some a) None c bytes done n fits before next = absurd before
Appends-next (Some a) (Some b) None bytes done n fits before next = absurd next
Appends-next (Some a) (Some b) (Some c) bytes done n fits before next =
    let cut : take n (rest bytes done) ≡ take n (drop done bytes) = take-take n (length bytes - done) (drop done bytes) (omega (arith, fits, length-rest bytes done)) in
    next ∙ (rw (before, cut, take-add, append_assoc))

-- a write that fails takes nothing
pub Appends-keep : (a b c : Option (List ℕ)) (bytes : List ℕ) → Appends a b bytes → Keeps b c → Appends a c bytes
Appends-keep None b c bytes before kept = tt
Appends-keep (Some a) None c bytes before kept = absurd before
Appends-keep (Some a) (Some b) None bytes before kept = absurd kept
Appends-keep (Some a) (Some b) (Some c) bytes before kept = rw kept before
