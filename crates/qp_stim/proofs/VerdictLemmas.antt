-- The reader's verdict on a line is the line's.
use Rattle.std.proofs.Common.{◌≡◌, ℕ, ◌+◌, ◌^◌, ◌<◌, ◌≤◌, ◌⊎◌, inl, inr, Bool, true, false, cond, not, ◌&&◌, ◌||◌, ◌==◌, nat_lt, nat_le, List, length, Some, None, Ok, Err, refl, sym, ◌∙◌, ap, arith, is_some}
use Rattle.std.specs.declared.option.Option.{Option}
use Rattle.std.specs.declared.result.Result.{Result}
use Rattle.std.specs.Option.{option_map, IfSome}
use Rattle.std.proofs.Math.Bool.{and_comm}
use Rattle.std.proofs.lemmas.Bool.Decides.{nat_tests}
use Rattle.arrayvec.specs.ArrayVec.{ArrayVec}
use Rattle.qp_model.specs.declared.stimulus.Stim.TheVariants as stim
use Rattle.qp_stim.specs.declared.heard.Heard.{Heard}
use Rattle.qp_stim.specs.declared.names.Signal.{Signal}
use Rattle.qp_stim.specs.declared.verdict.LineStep.{LineStep}
use Rattle.qp_stim.specs.declared.verdict.LineStep.TheVariants.{Skips, Opens, Adds}
use Rattle.qp_stim.specs.Parts.{is_skipped}
use Rattle.qp_stim.specs.Names.{Dictionary, FewParams}
use Rattle.qp_stim.specs.Grammar.{Said, said_of}
use Rattle.qp_stim.specs.Grammar as line
use Rattle.qp_stim.specs.Codes.{exceeds, all_fit, source_stands, post_step, publish_step, source_step, step_said, step_if, step_of}
use Rattle.qp_stim.specs.Reading.{no_pars, with_pars, heard_of, small_of, admits, post_verdict, publish_verdict, is_next_source, tick_verdict, verdict_on}
use Rattle.qp_model.specs.WordOf.{fitting_number}
use Rattle.qp_model.specs.Results.{◌>>=◌}
use Rattle.qp_stim.proofs.NumbersLemmas.{held-small, held-large}
use Rattle.qp_stim.proofs.ParsLemmas.{admits-pars}

held_cases : (n : ℕ) → ((n < 2 ^ 64) × (fitting_number n ≡ Some n)) ⊎ ((2 ^ 64 ≤ n) × (fitting_number n ≡ None))
held_cases n = elim (below n) [ inl lt ↦ inl (lt, held-small n lt) | inr ge ↦ inr (ge, held-large n ge) ]
  where
    below : (n : ℕ) → (n < 2 ^ 64) ⊎ (2 ^ 64 ≤ n)
    below n = grind arith

large_is_not_next : (sources n : ℕ) → 2 ^ 64 ≤ n → false ≡ ((n == sources + 1) && nat_le n 16)
large_is_not_next sources n h = let past : nat_le n 16 ≡ false = grind (arith, nat_tests) in ap (λ b. b && (n == sources + 1)) (sym past) ∙ and_comm (nat_le n 16) (n == sources + 1)

is_next-held : (sources n : ℕ) → is_next_source sources (fitting_number n) ≡ ((n == sources + 1) && nat_le n 16)
is_next-held sources n =
    elim (held_cases n) [
      | inl h ↦ ap (is_next_source sources) h.1 ∙ and_comm (nat_le n 16) (n == sources + 1)
      | inr h ↦ ap (is_next_source sources) h.1 ∙ large_is_not_next sources n h.0
    ]

small_if : (n : ℕ) (b : Bool) → nat_le n 255 ≡ b → cond {A = Result (Option ℕ) ℕ} (nat_le n 255) (Ok (Some n)) (Err 3) ≡ cond (nat_lt 255 n) (Err 3) (Ok (Some n))
small_if n true h = grind (arith, nat_tests)
small_if n false h = grind (arith, nat_tests)

large_if : (n : ℕ) → 2 ^ 64 ≤ n → Err 3 ≡ cond {A = Result (Option ℕ) ℕ} (nat_lt 255 n) (Err 3) (Ok (Some n))
large_if n h = let past : nat_lt 255 n ≡ true = grind (arith, nat_tests) in ap (λ b. cond {A = Result (Option ℕ) ℕ} b (Err 3) (Ok (Some n))) (sym past)

small_of-held : (m : Option ℕ) → small_of (option_map fitting_number m) ≡ cond (exceeds 255 m) (Err 3) (Ok m)
small_of-held None = refl
small_of-held (Some n) =
    elim (held_cases n) [
      | inl h ↦ ap (λ x. small_of (Some x)) h.1 ∙ small_if n (nat_le n 255) refl
      | inr h ↦ ap (λ x. small_of (Some x)) h.1 ∙ large_if n h.0
    ]

large_tick : (sources n : ℕ) → 2 ^ 64 ≤ n → Err 3 ≡ source_stands sources (nat_lt 3 n) false (Adds (stim.Tick n))
large_tick sources n h = let past : nat_lt 3 n ≡ true = grind (arith, nat_tests) in ap (λ b. source_stands sources b false (Adds (stim.Tick n))) (sym past)

tick_verdict-held : (sources n : ℕ) → tick_verdict sources (fitting_number n) ≡ source_stands sources (nat_lt 3 n) false (Adds (stim.Tick n))
unfolding tick_verdict
tick_verdict-held sources n =
    elim (held_cases n) [
      | inl h ↦ ap (tick_verdict sources) h.1
      | inr h ↦ ap (tick_verdict sources) h.1 ∙ large_tick sources n h.0
    ]

join_codes : (sources : ℕ) (margin reserve unfit fixed wrong : Bool) (step : LineStep)
    → cond margin (Err 3) (cond reserve (Err 3) (source_stands sources (unfit || fixed) wrong step)) ≡ source_stands sources (margin || ((unfit || reserve) || fixed)) wrong step
join_codes sources true reserve unfit fixed wrong step = refl
join_codes sources false true true fixed wrong step = refl
join_codes sources false true false fixed wrong step = refl
join_codes sources false false true fixed wrong step = refl
join_codes sources false false false fixed wrong step = refl

bind_small : {A : Type 0} (b : Bool) (m : Option ℕ) (f : Option ℕ → Result A ℕ) → ((cond b (Err 3) (Ok m)) >>= f) ≡ cond b (Err 3) (f m)
bind_small true m f = refl
bind_small false m f = refl

pub post_verdict-held : (sources : ℕ) (to : Option ℕ) (signal : Option Signal) (pars : List ℕ) (margin reserve : Option ℕ) → IfSome signal (λ s. s.params ≤ 8)
    → post_verdict sources to (record { signal = signal; pars = with_pars no_pars pars }) (option_map fitting_number margin) (option_map fitting_number reserve) ≡ post_step sources to signal pars margin reserve
unfolding post_verdict post_step
post_verdict-held sources None None pars margin reserve few = refl
post_verdict-held sources None (Some signal) pars margin reserve few = refl
post_verdict-held sources (Some to) None pars margin reserve few = refl
post_verdict-held sources (Some to) (Some signal) pars margin reserve few =
    let made : Option ℕ → Option ℕ → ArrayVec ℕ → LineStep = λ m r kept. Adds (stim.Post to (record { sig = signal.number; pars = kept }) m r) in
    let P = with_pars no_pars pars in
    ap (λ x. x >>= λ m. small_of (option_map fitting_number reserve) >>= λ r. admits sources signal P r (made m r P.kept)) (small_of-held margin)
    ∙ bind_small (exceeds 255 margin) margin (λ m. small_of (option_map fitting_number reserve) >>= λ r. admits sources signal P r (made m r P.kept))
    ∙ ap (λ x. cond (exceeds 255 margin) (Err 3) (x >>= λ r. admits sources signal P r (made margin r P.kept))) (small_of-held reserve)
    ∙ ap (λ x. cond (exceeds 255 margin) (Err 3) x) (bind_small (exceeds 255 reserve) reserve (λ r. admits sources signal P r (made margin r P.kept)))
    ∙ ap (λ x. cond (exceeds 255 margin) (Err 3) (cond (exceeds 255 reserve) (Err 3) x)) (admits-pars sources signal pars reserve (made margin reserve) few)
    ∙ join_codes sources (exceeds 255 margin) (exceeds 255 reserve) (not (all_fit pars)) (signal.fixed && is_some reserve) (not (length pars == signal.params))
    (made margin reserve (record { items = pars }))

pub publish_verdict-held : (sources : ℕ) (signal : Option Signal) (pars : List ℕ) (reserve : Option ℕ) → IfSome signal (λ s. s.params ≤ 8)
    → publish_verdict sources (record { signal = signal; pars = with_pars no_pars pars }) (option_map fitting_number reserve) ≡ publish_step sources signal pars reserve
unfolding publish_verdict publish_step
publish_verdict-held sources None pars reserve few = refl
publish_verdict-held sources (Some signal) pars reserve few =
    let made : Option ℕ → ArrayVec ℕ → LineStep = λ r kept. Adds (stim.Publish (record { sig = signal.number; pars = kept }) r) in
    let P = with_pars no_pars pars in
    ap (λ x. x >>= λ r. admits sources signal P r (made r P.kept)) (small_of-held reserve)
    ∙ bind_small (exceeds 255 reserve) reserve (λ r. admits sources signal P r (made r P.kept))
    ∙ ap (λ x. cond (exceeds 255 reserve) (Err 3) x) (admits-pars sources signal pars reserve (made reserve) few)
    ∙ join_codes sources false (exceeds 255 reserve) (not (all_fit pars)) (signal.fixed && is_some reserve) (not (length pars == signal.params))
    (made reserve (record { items = pars }))

-- on a line in the grammar
pub verdict_on-heard : (names : Dictionary) (sources : ℕ) (said : Said) → FewParams names → verdict_on sources (heard_of names said) ≡ step_said names sources said
unfolding step_said source_step
verdict_on-heard names sources (line.Source n) few = ap (λ b. cond b (Ok Opens) (Err 4)) (is_next-held sources n)
verdict_on-heard names sources (line.Post o e margin reserve) few = post_verdict-held sources (names.object o) (names.signal e.signal) e.pars margin reserve (few e.signal)
verdict_on-heard names sources (line.Publish e reserve) few = publish_verdict-held sources (names.signal e.signal) e.pars reserve (few e.signal)
verdict_on-heard names sources (line.Tick n) few = tick_verdict-held sources n
verdict_on-heard names sources line.Settle few = refl

said_by_some : (names : Dictionary) (sources : ℕ) (said : Option Said) (heard : Heard) → FewParams names → option_map (heard_of names) said ≡ Some heard
    → verdict_on sources heard ≡ step_if names sources said
said_by_some names sources None heard few h = cc
said_by_some names sources (Some said) heard few h =
    let same : heard_of names said ≡ heard = cc in ap (verdict_on sources) (sym same) ∙ verdict_on-heard names sources said few

said_by_none : (names : Dictionary) (sources : ℕ) (said : Option Said) → option_map (heard_of names) said ≡ None → Err 1 ≡ step_if names sources said
said_by_none names sources None h = refl
said_by_none names sources (Some said) h = cc

-- a line that says something
pub step_of-said : (names : Dictionary) (sources : ℕ) (text : List ℕ) (heard : Heard) → FewParams names → is_skipped text ≡ false
    → option_map (heard_of names) (said_of text) ≡ Some heard → verdict_on sources heard ≡ step_of names sources text
unfolding step_of
step_of-said names sources text heard few says h =
    said_by_some names sources (said_of text) heard few h ∙ ap (λ b. cond b (Ok Skips) (step_if names sources (said_of text))) (sym says)

-- a line that isn't in the grammar
pub step_of-none : (names : Dictionary) (sources : ℕ) (text : List ℕ) → is_skipped text ≡ false → option_map (heard_of names) (said_of text) ≡ None
    → Err 1 ≡ step_of names sources text
unfolding step_of
step_of-none names sources text says h =
    said_by_none names sources (said_of text) h ∙ ap (λ b. cond b (Ok Skips) (step_if names sources (said_of text))) (sym says)

-- a line that is skipped
pub step_of-skipped : (names : Dictionary) (sources : ℕ) (text : List ℕ) → is_skipped text ≡ true → Ok Skips ≡ step_of names sources text
unfolding step_of
step_of-skipped names sources text skipped = ap (λ b. cond b (Ok Skips) (step_if names sources (said_of text))) (sym skipped)
