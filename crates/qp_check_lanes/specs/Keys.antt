-- Keys of ordered tables: three numbers, the first of them first.
use Rattle.std.specs.Prelude.{ℕ, ◌==◌, Bool, ◌&&◌}
use Rattle.std.specs.Ordering.{nat_cmp, ordering_then}
use Rattle.std.specs.declared.cmp.Ordering.{Ordering}
use Rattle.qp_model.specs.declared.words.Word.{Word}
use Rattle.qp_model.specs.declared.words.Word.TheVariants as word

abbrev pub key_cmp : ℕ × ℕ × ℕ → ℕ × ℕ × ℕ → Ordering
key_cmp x y = ordering_then (ordering_then (nat_cmp x.0 y.0) (nat_cmp x.1 y.1)) (nat_cmp x.2 y.2)

-- the keys are the same
abbrev pub same_key : ℕ × ℕ × ℕ → ℕ × ℕ × ℕ → Bool
same_key x y = (x.0 == y.0) && (x.1 == y.1) && (x.2 == y.2)

-- the kind of a word, and its numbers
abbrev pub key_of : Word → ℕ × ℕ × ℕ
key_of (word.Pool p) = (0, p, 0)
key_of (word.Block p b) = (1, p, b)
key_of (word.Queue a) = (2, a, 0)
key_of (word.Signal s) = (3, s, 0)
key_of (word.Timer t) = (4, t, 0)
