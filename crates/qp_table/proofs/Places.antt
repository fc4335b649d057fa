-- Words have different places, and what a lane has seen of them grows with its glances.
use Rattle.std.proofs.Common.{◌≡◌, ℕ, ◌==◌, List, [], ◌∷◌, ◌++◌, true, cond, refl, ap, arith, eqb, IsTrue, eqb-true}
use Rattle.std.proofs.lemmas.Bool.{and_parts}
use Rattle.qp_model.specs.declared.systems.System.{System}
use Rattle.qp_model.specs.declared.words.Word.{Word}
use Rattle.qp_model.specs.declared.words.Word.TheVariants as word
use Rattle.qp_model.specs.History.{same_word}
use Rattle.qp_model.proofs.LineLemmas.{same_number}
use Rattle.qp_table.specs.Rule.{Fitting}
use Rattle.qp_table.specs.declared.view.Glance.{Glance}
use Rattle.qp_table.specs.Words.{place_of, is_here, later, latest}

same-number : (a b : ℕ) → (a == b) ≡ true → a ≡ b
same-number a b e = eqb-true a b e

-- words that aren't the same have different places
pub apart : (sys : System) → Fitting sys → (w x : Word) → IsTrue (is_here sys w) → IsTrue (is_here sys x) → place_of w ≡ place_of x → w ≡ x
apart sys fits (word.Pool p) (word.Pool q) a b e = ap word.Pool (omega arith)
apart sys fits (word.Pool p) (word.Block q c) a b e = let z = fits.small p a in let z0 = z.0 in absurd (omega arith)
apart sys fits (word.Pool p) (word.Queue c) a b e = let z = fits.small p a in let z0 = z.0 in absurd (omega arith)
apart sys fits (word.Pool p) (word.Signal c) a b e = absurd (cc)
apart sys fits (word.Pool p) (word.Timer c) a b e = absurd (cc)
apart sys fits (word.Block p b) (word.Pool q) a c e = let z = fits.small q c in let z0 = z.0 in absurd (omega arith)
apart sys fits (word.Block p b) (word.Block q c) a d e =
    let z = fits.pools p b a in let z1 = z.1 in let z2 = z.2 in let y = fits.pools q c d in let y1 = y.1 in let y2 = y.2 in
    let ep : p ≡ q = omega arith in let eb : b ≡ c = omega arith in (λ i. word.Block (ep i) (eb i))
apart sys fits (word.Block p b) (word.Queue c) a d e = let z = fits.pools p b a in let z1 = z.1 in let z2 = z.2 in absurd (omega arith)
apart sys fits (word.Block p b) (word.Signal c) a d e = absurd (cc)
apart sys fits (word.Block p b) (word.Timer c) a d e = absurd (cc)
apart sys fits (word.Queue c) (word.Pool q) a b e = let z = fits.small q b in let z0 = z.0 in absurd (omega arith)
apart sys fits (word.Queue c) (word.Block q d) a b e = let z = fits.pools q d b in let z1 = z.1 in let z2 = z.2 in absurd (omega arith)
apart sys fits (word.Queue c) (word.Queue d) a b e = ap word.Queue (omega arith)
apart sys fits (word.Queue c) (word.Signal d) a b e = absurd (cc)
apart sys fits (word.Queue c) (word.Timer d) a b e = absurd (cc)
apart sys fits (word.Signal c) x a b e = absurd (cc)
apart sys fits (word.Timer c) x a b e = absurd (cc)

pub same-itself : (w : Word) → same_word w w ≡ true
same-itself (word.Pool p) = same_number p
same-itself (word.Block p b) = rw (same_number p, same_number b) refl
same-itself (word.Queue a) = same_number a
same-itself (word.Signal s) = same_number s
same-itself (word.Timer t) = same_number t

pub same-is : (w x : Word) → same_word w x ≡ true → w ≡ x
same-is (word.Pool p) (word.Pool q) e = ap word.Pool (same-number p q e)
same-is (word.Pool p) (word.Block q c) e = absurd (cc)
same-is (word.Pool p) (word.Queue q) e = absurd (cc)
same-is (word.Pool p) (word.Signal q) e = absurd (cc)
same-is (word.Pool p) (word.Timer q) e = absurd (cc)
same-is (word.Block p b) (word.Pool q) e = absurd (cc)
same-is (word.Block p b) (word.Block q c) e = let z = and_parts (p == q) (b == c) e in (λ i. word.Block (same-number p q z.0 i) (same-number b c z.1 i))
same-is (word.Block p b) (word.Queue q) e = absurd (cc)
same-is (word.Block p b) (word.Signal q) e = absurd (cc)
same-is (word.Block p b) (word.Timer q) e = absurd (cc)
same-is (word.Queue p) (word.Pool q) e = absurd (cc)
same-is (word.Queue p) (word.Block q c) e = absurd (cc)
same-is (word.Queue p) (word.Queue q) e = ap word.Queue (same-number p q e)
same-is (word.Queue p) (word.Signal q) e = absurd (cc)
same-is (word.Queue p) (word.Timer q) e = absurd (cc)
same-is (word.Signal p) (word.Pool q) e = absurd (cc)
same-is (word.Signal p) (word.Block q c) e = absurd (cc)
same-is (word.Signal p) (word.Queue q) e = absurd (cc)
same-is (word.Signal p) (word.Signal q) e = ap word.Signal (same-number p q e)
same-is (word.Signal p) (word.Timer q) e = absurd (cc)
same-is (word.Timer p) (word.Pool q) e = absurd (cc)
same-is (word.Timer p) (word.Block q c) e = absurd (cc)
same-is (word.Timer p) (word.Queue q) e = absurd (cc)
same-is (word.Timer p) (word.Signal q) e = absurd (cc)
same-is (word.Timer p) (word.Timer q) e = ap word.Timer (same-number p q e)

-- a glance more
pub latest-more : (w x : ℕ) (seen : List Glance) (g : Glance) → latest w x (seen ++ g ∷ []) ≡ cond (eqb g.word w) (later w (latest w x seen) g.value) (latest w x seen)
unfolding latest
latest-more w x [] g = refl
latest-more w x (h ∷ seen) g = latest-more w (cond (eqb h.word w) (later w x h.value) x) seen g
