use Rattle.std.proofs.Common.{◌≡◌, ◌-◌, ◌≤◌, List, ℕ, length, take, drop, replicate, ◌++◌, arith, sym, ◌∙◌, subst}
use Rattle.std.specs.Prelude.{IsUtf8}
use Rattle.std.proofs.lemmas.List.{length-append, length-drop, drop-replicate}
use Rattle.std.proofs.Math.Seq.{drop-append_seam, take-append_seam}
use Rattle.qp_chart_text.proofs.names.Name.from.Goals as goal

-- a short text with zeros behind it
roomy : (text : List ℕ) → length text ≤ 24 → IsUtf8 text
    → (length text ≤ 24) × (length (text ++ drop (length text) (replicate 24 0)) ≡ 24)
    × (drop (length text) (text ++ drop (length text) (replicate 24 0)) ≡ replicate (24 - length text) 0)
    × ∥ IsUtf8 (take (length text) (text ++ drop (length text) (replicate 24 0))) ∥₁
roomy text few utf8 =
    let zeros : List ℕ = replicate 24 0 in
    let room : List ℕ = drop (length text) zeros in (
      few,
      omega (arith, length-append text room, length-drop (length text) zeros, few),
      drop-append_seam text room ∙ drop-replicate (length text) 24 0,
      ∣ subst IsUtf8 (sym (take-append_seam text room)) utf8 ∣₁,
    )

pub invariant_of-result : goal.invariant_of-result
invariant_of-result c =
    let text = c.args.text.now in
    let same : c.copy_from_slice.new.self ≡ text = c.copy_from_slice.ensures.after ∙ c.as_bytes.ensures.value in
    let whole = roomy text c.if-n-gt24.false c.utf8.text in
    rw same whole
