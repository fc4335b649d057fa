-- Output that was gathered, and what of it went on.
use Rattle.std.proofs.Common.{◌≡◌, ℕ, ◌+◌, ◌-◌, ◌≤◌, List, [], ◌++◌, length, take, Option, Some, None, IfSome, inl, inr, refl, sym, subst, ◌∙◌, ap, arith, length-append, length-take-le}
use Rattle.std.specs.Option.{ForSome}
use Rattle.std.proofs.Math.Seq.{take-append-add, take-append_seam}
use Rattle.std.proofs.lemmas.List.{append-nil, take-take, take_all}
use Rattle.qp_base.specs.Gathering.{IsBegun, sink_told as told_by}
use Rattle.qp_base.specs.Sink.{AppendsPrefix, appended}
use Rattle.qp_base.specs.declared.course.Course.{Course}
use Rattle.qp_base.specs.declared.course.Course.TheVariants.{Open}
use Rattle.qp_base.proofs.GatheringLemmas.{told-all}
use Rattle.qp_run_parts.specs.declared.status.Status.{Status}
use Rattle.qp_run_parts.specs.declared.status.Status.TheVariants.{Done, Asserted, Spent, WriteFault}
use Rattle.qp_run_parts.specs.Conversions.{Held, PrintsOne}
use Rattle.qp_run_parts.specs.Verdict.{Agrees, AnswersWords, Count, Counts, HasCause, HasRisen, IsCall, IsOutput, IsPutFor, Noted, Prints, AnswerStands, Stream, still_count}
use Rattle.qp_commands.specs.WordTable.{Asked}
use Rattle.qp_run_parts.proofs.CallLemmas.{call-stands}
use Rattle.qp_run_parts.proofs.VerdictLemmas.{prefix-whole}

-- at first what was put is what the sink below had got
pub first-told : (course : Course) (gone : ℕ) (held : List ℕ) (below : Option (List ℕ)) → course ≡ Open → held ≡ [] → told_by course gone held below ≡ below
first-told course gone held below going empty = rw (going, empty) (told-all below gone)

-- a count that stood at zero didn't rise
zero-stands : (n : Count) → n.before ≡ 0 → n.after ≡ 0 → HasRisen n → ⊥
zero-stands n before after risen = omega (arith, before, after, risen)

-- why a call was answered so, told by another count of the output
cause-kept : (n : Counts) (out : Count) (answer : Status) → (HasRisen n.out → ⊥) → HasCause n answer → HasCause (record n { out = out }) answer
cause-kept n out WriteFault none (inl risen) = absurd (none risen)
cause-kept n out WriteFault none (inr risen) = inr risen
cause-kept n out answer none cause = cause

-- a failed write needs no word of the files
fault-agrees : (held : Option Held) (asked : Option Asked) → IfSome held (λ h. Agrees h asked WriteFault)
fault-agrees None asked = tt
fault-agrees (Some h) asked = inl refl

-- any words are answered by a failed write
fault-words : (asked : Option Asked) → AnswersWords asked WriteFault
fault-words None = inr (inr refl)
fault-words (Some asked) = λ e. cc

-- where bytes behind others begin with a list that has the others, the list is the others and a part of the bytes
begun-part : (old w whole rest : List ℕ) (k : ℕ) → length old ≤ length w → k ≤ length whole → old ++ take k whole ≡ w ++ rest
    → (j : ℕ) × (j ≤ length whole) × (w ≡ old ++ take j whole)
begun-part old w whole rest k grown some is =
    let d : ℕ = length w - length old in
    let total : length old + k ≡ length w + length rest =
    sym (length-append old (take k whole) ∙ ap (λ n. length old + n) (length-take-le k whole some)) ∙ ap length is ∙ length-append w rest in
    let short : d ≤ k = omega (arith, total, grown) in
    let reached : length w ≡ length old + d = omega (arith, grown) in (
      d,
      omega (arith, short, some),
      sym (take-append_seam w rest) ∙ sym (ap (take (length w)) is) ∙ ap (λ n. take n (old ++ take k whole)) reached
          ∙ take-append-add old (take k whole) d ∙ ap (λ l. old ++ l) (take-take d k whole short),
    )

-- where a part of some bytes was put, what went on is a part of them too
part-kept : (old all new : Option (List ℕ)) (first : ℕ) (course : Course) (gone : ℕ) (held whole : List ℕ) → IfSome old (λ w. length w ≡ first)
    → ForSome new (λ w. first ≤ length w) → told_by course gone held new ≡ all → IsBegun new all → AppendsPrefix old whole all → AppendsPrefix old whole new
unfolding told_by
part-kept None all None first course gone held whole was grown same begun (k, some, is) = (0, omega arith, refl)
part-kept None all (Some w) first course gone held whole was grown same begun (k, some, is) = absurd (rw is at begun)
part-kept (Some o) all None first course gone held whole was grown same begun (k, some, is) =
    let never : ⊥ = cc in
    absurd never
part-kept (Some o) all (Some w) first course gone held whole was grown same begun (k, some, is) =
    let (rest, both) = rw is at begun in
    let (j, few, got) = begun-part o w whole rest k (omega (arith, was, grown w refl)) some both in
    (j, few, ap Some got)

-- no bytes behind others
none-behind : (old : Option (List ℕ)) (j : ℕ) → appended old (take j []) ≡ old
none-behind None j = refl
none-behind (Some o) j = ap Some (ap (λ l. o ++ l) (take_all j [] (omega arith)) ∙ append-nil o)

-- what was printed is a part of an output
failed : (IsWhole : Status → List ℕ → Type 0) (old new : Option (List ℕ)) (told : Status) → PrintsOne IsWhole old new told → PrintsOne IsWhole old new WriteFault
failed IsWhole old new Done (whole, is, got) = inr (Done, whole, is, prefix-whole old new whole got)
failed IsWhole old new (Asserted code lane) (whole, is, got) = inr (Asserted code lane, whole, is, prefix-whole old new whole got)
failed IsWhole old new (Spent lane) (whole, is, got) = inr (Spent lane, whole, is, prefix-whole old new whole got)
failed IsWhole old new WriteFault prints = prints
failed IsWhole old new told prints = inl prints

module _ (IsWhole : Status → List ℕ → Type 0) (old all new : Option (List ℕ)) (first : ℕ) (course : Course) (gone : ℕ) (held : List ℕ) (was : IfSome old (λ w. length w ≡ first))
    (grown : ForSome new (λ w. first ≤ length w)) (same : told_by course gone held new ≡ all) (begun : IsBegun new all) where
  kept : (whole : List ℕ) → AppendsPrefix old whole all → AppendsPrefix old whole new
  kept whole part = part-kept old all new first course gone held whole was grown same begun part

  nothing : all ≡ old → new ≡ old
  nothing is =
      let (j, few, got) = kept [] (0, omega arith, is ∙ sym (none-behind old 0)) in
      got ∙ none-behind old j

  fault-kept : PrintsOne IsWhole old all WriteFault → PrintsOne IsWhole old new WriteFault
  fault-kept (inl is) = inl (nothing is)
  fault-kept (inr (told, whole, is, part)) = inr (told, whole, is, kept whole part)

  -- where what was gathered didn't go on whole, a part of an output went on
  part-printed : (told : Status) → PrintsOne IsWhole old all told → PrintsOne IsWhole old new WriteFault
  part-printed told prints = fault-kept (failed IsWhole old all told prints)

module _ (held : Option Held) (asked : Option Asked) (n : Counts) (output note : Stream) (told answer : Status) (put : Stream) where
  -- a call of which all that was put has gone on
  pub whole-call : (out : Count) → put.before ≡ output.before → output.after ≡ put.after → out.before ≡ 0 → out.after ≡ 0
      → IfSome held (λ h. Agrees h asked told) → AnswersWords asked told → HasCause (record n { out = out; notes = still_count }) told → Prints held asked put.before put.after told
      → AnswerStands n.notes told answer → Noted asked (IsPutFor told) n.notes note.before note.after answer → IsCall held asked n output note answer
  whole-call out first last before after agrees words cause prints stands noted =
      let caused : HasCause (record n { notes = still_count }) told = cause-kept (record n { out = out; notes = still_count }) n.out told (zero-stands out before after) cause in
      let printed : Prints held asked output.before output.after told =
      subst (λ w. Prints held asked w output.after told) first (subst (λ w. Prints held asked put.before w told) (sym last) prints) in
      call-stands held asked n output note told answer agrees words caused printed stands noted

  -- a call of which a part has gone on
  pub part-call : (first : ℕ) (course : Course) (gone : ℕ) (left : List ℕ) → put.before ≡ output.before → IfSome output.before (λ w. length w ≡ first)
      → ForSome output.after (λ w. first ≤ length w) → told_by course gone left output.after ≡ put.after → IsBegun output.after put.after → HasRisen n.out
      → Prints held asked put.before put.after told → AnswerStands n.notes WriteFault answer → Noted asked (IsPutFor WriteFault) n.notes note.before note.after answer
      → IsCall held asked n output note answer
  part-call first course gone left same_first was grown same begun risen prints stands noted =
      let printed : Prints held asked output.before output.after WriteFault =
      part-printed (IsOutput held asked) output.before put.after output.after first course gone left was grown same begun told
      (subst (λ w. Prints held asked w put.after told) same_first prints) in
      call-stands held asked n output note WriteFault answer (fault-agrees held asked) (fault-words asked) (inl risen) printed stands noted
