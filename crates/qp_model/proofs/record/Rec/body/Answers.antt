use Rattle.std.proofs.Common.{◌≡◌, ◌≤◌, ◌<◌, ℕ, zero, suc, List, refl, arith}
use Rattle.std.specs.Prelude.{slice_get, None}
use Rattle.std.proofs.lemmas.Option.{slice_get_past}
use Rattle.qp_model.specs.declared.bodies.Body.TheVariants.{Malformed}
use Rattle.qp_model.specs.Record.{forms, body_at, body_of}
use Rattle.qp_model.proofs.record.Rec.body.Goals as goal
use Rattle.qp_model.proofs.record.Rec.body.Goals.{in_default-via-then-self-lt4, in_default-via-else-self-lt4+else-self-lt15+else-self-lt25+else-self-lt42+else-self-lt47}

-- the table begins with the heads
low : (k : ℕ) (nums : List ℕ) → k < 4 → Malformed ≡ body_at k nums
unfolding body_at
low zero nums h = refl
low (suc zero) nums h = refl
low (suc (suc zero)) nums h = refl
low (suc (suc (suc zero))) nums h = refl
low (suc (suc (suc (suc k)))) nums h = absurd (omega arith)

-- and ends with `rest`
high : (k : ℕ) (nums : List ℕ) → 47 ≤ k → Malformed ≡ body_at k nums
unfolding body_at
high k nums h = let past : slice_get forms k ≡ None = slice_get_past forms k h in rw past refl

pub returns-in_default : goal.returns-in_default
unfolding body_of
returns-in_default c =
    elim c.in_default.branch [
      | in_default-via-then-self-lt4 w ↦ low c.args.self.now.kind c.args.self.now.nums.items (omega arith)
      | in_default-via-else-self-lt4+else-self-lt15+else-self-lt25+else-self-lt42+else-self-lt47 w ↦ high c.args.self.now.kind c.args.self.now.nums.items (omega arith)
    ]
