-- Which sealed journal a call leaves.
use Rattle.std.proofs.Common.{◌≡◌, ◌∙◌, ℕ, Bool, true, false, ◌&&◌, cond, List, Option, Some, None, refl, sym, ap, subst, inl, inr}
use Rattle.std.specs.Prelude.{IfOk, IfSome, IsOkAnd, MatchBool, MatchResult, Ok, Err, Result}
use Rattle.std.proofs.lemmas.Bool.{false≢true}
use Rattle.qp_model.specs.declared.journals.Journal.{Journal}
use Rattle.qp_model.specs.declared.stimulus.Stim.{Stim}
use Rattle.qp_model.specs.declared.systems.System.{System}
use Rattle.qp_wait_runs.specs.Handed.{WasSealedFor}
use Rattle.qp_commands.specs.declared.values.KernelName.{KernelName}
use Rattle.qp_commands.specs.declared.values.Output.{Output}
use Rattle.qp_commands.specs.WordTable.{Asked, check, decode, generate, has_threads, migrate, number_of_form, replay, run}
use Rattle.qp_run_parts.specs.declared.status.Status.{Status}
use Rattle.qp_run_parts.specs.declared.status.Status.TheVariants as status
use Rattle.qp_run_parts.specs.declared.status.Status.TheVariants.{Memory, WriteFault}
use Rattle.qp_run_parts.specs.Conversions.{Held}
use Rattle.qp_run_parts.specs.Printed.{IsPrinted, IsRunUnder, PrintsOf}
use Rattle.qp_run_parts.specs.declared.ran.Ran.{Ran}
use Rattle.qp_run_parts.specs.Sealed.{IsSealed, IsSealedRun, Seals, SealsOne, is_run_ended, kept_seal, sealed_in}
use Rattle.qp_run_parts.specs.Verdict.{Count, AnswerStands, Stream, is_refusal}

abbrev pub no_journal : Option Journal
no_journal = None

-- none is left where the call didn't end as a run does
pub none-left : (threads : Bool) (answer : Status) (X : Type 0) → is_run_ended answer ≡ false → MatchBool (threads && is_run_ended answer) X (no_journal ≡ None)
none-left true answer X other = rw other refl
none-left false answer X other = refl

-- what is left, by another word for it
pub left-as : (threads : Bool) (answer : Status) (P Q : Journal → Type 0) (seal : Option Journal) → ((j : Journal) → P j → Q j) → SealsOne threads answer P seal → SealsOne threads answer Q seal
left-as threads answer P Q seal each left = by (threads && is_run_ended answer) left
  where
    by : (b : Bool) → MatchBool b ((j : Journal) × (seal ≡ Some j) × P j) (seal ≡ None) → MatchBool b ((j : Journal) × (seal ≡ Some j) × Q j) (seal ≡ None)
    by true (j, is, p) = (j, is, each j p)
    by false none = none

-- ---- of a run

-- a run with threads that has ended was sealed for its system
pub sealed-on : {T E : Type 0} (sys : System) (journal : T → Journal) (threaded : T → Ran) → ((x : T) → sealed_in (threaded x) ≡ Some (journal x)) → (r : Result T E) (s : Result Ran E)
    → MatchResult r (λ x. IsOkAnd s (λ y. y ≡ threaded x)) (λ e. s ≡ Err e) → IfOk r (λ x. WasSealedFor sys (journal x)) → IfOk s (λ y. IfSome (sealed_in y) (WasSealedFor sys))
sealed-on sys journal threaded is (Ok x) (Ok y) at was = subst (λ o. IfSome o (WasSealedFor sys)) (sym (ap sealed_in at ∙ is x)) was
sealed-on sys journal threaded is (Ok x) (Err e) at was = tt
sealed-on sys journal threaded is (Err d) (Ok y) at was = absurd (cc)
sealed-on sys journal threaded is (Err d) (Err e) at was = tt

module _ (sys : System) (sources : List (List Stim)) (kernel : KernelName) (budget : ℕ) (output : Output) (form : ℕ) (old new : Option (List ℕ)) where
  -- the journal that was printed
  printed-one : (j : Journal) (faults faults' : ℕ) (answer : Status) → IsRunUnder kernel sys sources budget j → WasSealedFor sys j → is_run_ended answer ≡ true
      → IsPrinted (PrintsOf output form sys j) old new faults faults' answer → IsSealedRun sys sources kernel budget output form old new answer j
  unfolding IsPrinted
  printed-one j faults faults' answer is was ended (inl (memory, same)) = absurd (false≢true (sym (ap is_run_ended memory) ∙ ended))
  printed-one j faults faults' answer is was ended (inr (told, whole, prints, inl (same, got))) =
      record { run = is; sealed = was; whole = whole; prints = subst (λ s. PrintsOf output form sys j s whole) (sym same) prints; got = got }
  printed-one j faults faults' answer is was ended (inr (told, whole, prints, inr (failed, part, rose))) = absurd (false≢true (sym (ap is_run_ended failed) ∙ ended))

  pub run-left : (j : Journal) (faults faults' : ℕ) (answer : Status) (sealed seal : Option Journal) → IsRunUnder kernel sys sources budget j → IfSome sealed (WasSealedFor sys)
      → IsPrinted (PrintsOf output form sys j) old new faults faults' answer → sealed ≡ cond (has_threads kernel) (Some j) None → seal ≡ kept_seal answer sealed
      → SealsOne (has_threads kernel) answer (IsSealedRun sys sources kernel budget output form old new answer) seal
  run-left j faults faults' answer sealed seal is was printed its kept =
      by (has_threads kernel) (is_run_ended answer) refl (kept ∙ ap (λ o. cond (is_run_ended answer) o None) its) (subst (λ o. IfSome o (WasSealedFor sys)) its was)
    where
      by : (threads ended : Bool) → is_run_ended answer ≡ ended → seal ≡ cond ended (cond threads (Some j) None) None → IfSome (cond threads (Some j) None) (WasSealedFor sys)
          → MatchBool (threads && ended) ((j : Journal) × (seal ≡ Some j) × IsSealedRun sys sources kernel budget output form old new answer j) (seal ≡ None)
      by true true ended same here = (j, same, printed-one j faults faults' answer is here ended printed)
      by true false ended same here = same
      by false true ended same here = same
      by false false ended same here = same

-- ---- of the call

-- a refusal leaves none
pub refused-left : (threads : Bool) (answer : Status) (X : Type 0) → is_refusal answer ≡ true → MatchBool (threads && is_run_ended answer) X (no_journal ≡ None)
refused-left threads answer X refuses = none-left threads answer X (other answer refuses)
  where
    other : (answer : Status) → is_refusal answer ≡ true → is_run_ended answer ≡ false
    other status.Done refuses = absurd (false≢true refuses)
    other (status.Asserted code lane) refuses = absurd (false≢true refuses)
    other (status.Spent lane) refuses = absurd (false≢true refuses)
    other status.WriteFault refuses = refl
    other status.Words refuses = refl
    other (status.Absent file) refuses = refl
    other (status.TooLong file len) refuses = refl
    other (status.Refused file code place) refuses = refl
    other status.Memory refuses = refl
    other status.ReadFault refuses = refl
    other (status.Unlawful definition site) refuses = refl

-- once its line was put
module _ (n : Count) (told answer : Status) (stands : AnswerStands n told answer) where
  one-stands : (threads : Bool) (IsIt : Status → Journal → Type 0) (seal : Option Journal) → SealsOne threads told (IsIt told) seal → SealsOne threads answer (IsIt answer) (kept_seal answer seal)
  one-stands threads IsIt seal left = by stands
    where
      closed : (s : Status) (threads ended : Bool) → ended ≡ false → MatchBool (threads && ended) ((j : Journal) × (cond ended seal None ≡ Some j) × IsIt s j) (cond ended seal None ≡ None)
      closed s threads true other = absurd (false≢true (sym other))
      closed s true false other = refl
      closed s false false other = refl

      none : (s : Status) → is_run_ended s ≡ false → answer ≡ s → SealsOne threads answer (IsIt answer) (kept_seal answer seal)
      none s other is = subst (λ a. SealsOne threads a (IsIt a) (kept_seal a seal)) (sym is) (closed s threads (is_run_ended s) other)

      kept : (threads ended : Bool) → MatchBool (threads && ended) ((j : Journal) × (seal ≡ Some j) × IsIt told j) (seal ≡ None)
          → MatchBool (threads && ended) ((j : Journal) × (cond ended seal None ≡ Some j) × IsIt told j) (cond ended seal None ≡ None)
      kept true true left = left
      kept true false left = refl
      kept false true left = left
      kept false false left = refl

      by : AnswerStands n told answer → SealsOne threads answer (IsIt answer) (kept_seal answer seal)
      by (inl same) = subst (λ a. SealsOne threads a (IsIt a) (kept_seal a seal)) (sym same) (kept threads (is_run_ended told) left)
      by (inr (inl (memory, names))) = none Memory refl memory
      by (inr (inr (failed, rose, other))) = none WriteFault refl failed

  none-stands : (seal : Option Journal) → seal ≡ None → kept_seal answer seal ≡ None
  none-stands seal none = by (is_run_ended answer)
    where
      by : (b : Bool) → cond b seal None ≡ None
      by true = none
      by false = refl

  pub seals-stand : (held : Option Held) (asked : Option Asked) (output : Stream) (seal : Option Journal) → Seals held asked output told seal → Seals held asked output answer (kept_seal answer seal)
  seals-stand held None output seal left = none-stands seal left
  seals-stand held (Some (run w)) output seal left =
      one-stands (has_threads w.kernel) (IsSealed held w.system w.stimuli w.kernel w.budget w.out (number_of_form w.form) output.before output.after) seal left
  seals-stand held (Some (decode w)) output seal left = none-stands seal left
  seals-stand held (Some (migrate w)) output seal left = none-stands seal left
  seals-stand held (Some (check w)) output seal left = none-stands seal left
  seals-stand held (Some (replay w)) output seal left = none-stands seal left
  seals-stand held (Some (generate w)) output seal left = none-stands seal left

-- a call that didn't end as a run does leaves none
pub unended-seals : (held : Option Held) (asked : Option Asked) (output : Stream) (answer : Status) → is_run_ended answer ≡ false → Seals held asked output answer None
unended-seals held None output answer other = refl
unended-seals held (Some (run w)) output answer other = none-left (has_threads w.kernel) answer _ other
unended-seals held (Some (decode w)) output answer other = refl
unended-seals held (Some (migrate w)) output answer other = refl
unended-seals held (Some (check w)) output answer other = refl
unended-seals held (Some (replay w)) output answer other = refl
unended-seals held (Some (generate w)) output answer other = refl

-- nor does one that failed, whatever its line comes to
pub failed-seals : (held : Option Held) (asked : Option Asked) (output : Stream) (n : Count) (told answer : Status) → is_run_ended told ≡ false → AnswerStands n told answer
    → Seals held asked output answer None
failed-seals held asked output n told answer other stands = unended-seals held asked output answer (ended stands)
  where
    ended : AnswerStands n told answer → is_run_ended answer ≡ false
    ended (inl same) = ap is_run_ended same ∙ other
    ended (inr (inl (memory, names))) = ap is_run_ended memory
    ended (inr (inr (failed, rose, done))) = ap is_run_ended failed

-- what was left of a call whose output has gone on whole, once its line was put
pub whole-seals : (held : Option Held) (asked : Option Asked) (output put : Stream) (n : Count) (told answer : Status) (seal : Option Journal)
    → put.before ≡ output.before → output.after ≡ put.after → AnswerStands n told answer → Seals held asked put told seal → Seals held asked output answer (kept_seal answer seal)
whole-seals held asked output put n told answer seal first last stands left =
    seals-stand n told answer stands held asked output seal
    (subst (λ w. Seals held asked (record { before = w; after = output.after }) told seal) first
    (subst (λ w. Seals held asked (record { before = put.before; after = w }) told seal) (sym last) left))
