-- The numbers of a call are in their limits: a budget from 1 to 1,000,000, and what is made from 1 to 1,000.
use Rattle.std.proofs.Common.{◌≡◌, ℕ, Bool, true, false, ◌&&◌, cond, nat_le, codes, List, [], ◌∷◌, Option, Some, None, option_and_then, option_map, refl, sym, ◌<◌, ◌≤◌, arith}
use Rattle.std.specs.Prelude.{IfSome}
use Rattle.std.specs.Str.{bytes_eq}
use Rattle.std.proofs.lemmas.Bool.{and_from, and_parts}
use Rattle.std.proofs.lemmas.Bool.Decides.{nat_tests}
use Rattle.clap.specs.Words.{Row, Text, first_of}
use Rattle.qp_text.specs.Numbers.{number_of_decimal}
use Rattle.qp_commands.specs.declared.values.KernelName.{KernelName}
use Rattle.qp_commands.specs.declared.values.Output.{Output}
use Rattle.qp_commands.specs.declared.values.Kind.{Kind}
use Rattle.qp_commands.specs.declared.values.Form.{Form}
use Rattle.qp_commands.specs.declared.values.Form.TheVariants.{Two}
use Rattle.qp_commands.specs.WordTable.{Asked, CheckWords, asked_by, budget_in, check, command_in, decode_app, decode_in, decode_with, default_form, files_app, files_in, form_fit, form_in, form_under, found_in, generate_app, generate_in, generate_with, is_form_of, is_in_limits, kernel_named, kind_named, made_in, migrate_app, migrate_in, migrate_with, output_in, replay, run_app, run_in, run_with, within}

is_to : ℕ → ℕ → Bool
is_to most n = nat_le 1 n && nat_le n most

within-is : (most n : ℕ) → IfSome (within most n) (λ b. is_to most b ≡ true)
unfolding is_to
within-is most n = by (nat_le 1 n && nat_le n most) refl
  where
    by : (b : Bool) → (nat_le 1 n && nat_le n most) ≡ b → IfSome (cond b (Some n) None) (λ b. (nat_le 1 b && nat_le b most) ≡ true)
    by true is = is
    by false is = tt

read-within : (most : ℕ) (n : Option ℕ) → IfSome (option_and_then (within most) n) (λ b. is_to most b ≡ true)
read-within most None = tt
read-within most (Some n) = within-is most n

budget-within : (o : Option Text) → IfSome (budget_in o) (λ b. is_to 1000000 b ≡ true)
unfolding budget_in is_to
budget-within None = refl
budget-within (Some word) = read-within 1000000 (number_of_decimal word)

made-within : (o : Option Text) → IfSome (made_in o) (λ n. is_to 1000 n ≡ true)
unfolding made_in
made-within None = tt
made-within (Some word) = read-within 1000 (number_of_decimal word)

InLimits : Option Asked → Type 0
InLimits asked = IfSome asked (λ a. is_in_limits a ≡ true)

none-run : (b : Option ℕ) (o : Option Output) (f : Option Form) (s t : Option Text) → InLimits (run_with None b o f s t)
unfolding run_with InLimits
none-run b o f s t = tt

some-run : (k : KernelName) (b : Option ℕ) (o : Option Output) (f : Option Form) (s t : Option Text) → IfSome b (λ b. is_to 1000000 b ≡ true)
    → IfSome f (λ f. is_form_of k f ≡ true) → InLimits (run_with (Some k) b o f s t)
unfolding run_with is_to InLimits
some-run k None o f s t is fits = tt
some-run k (Some b) None f s t is fits = tt
some-run k (Some b) (Some o) None s t is fits = tt
some-run k (Some b) (Some o) (Some f) None t is fits = tt
some-run k (Some b) (Some o) (Some f) (Some s) None is fits = tt
some-run k (Some b) (Some o) (Some f) (Some s) (Some t) is fits = and_from _ _ is fits

fit-is : (k : KernelName) (f : Form) → IfSome (form_fit k f) (λ f. is_form_of k f ≡ true)
fit-is k f = by (is_form_of k f) refl
  where
    by : (b : Bool) → is_form_of k f ≡ b → IfSome (cond b (Some f) None) (λ f. is_form_of k f ≡ true)
    by true is = is
    by false is = tt

read-fit : (k : KernelName) (f : Option Form) → IfSome (option_and_then (form_fit k) f) (λ f. is_form_of k f ≡ true)
read-fit k None = tt
read-fit k (Some f) = fit-is k f

form-fits : (k : KernelName) (o : Option Text) → IfSome (form_under k o) (λ f. is_form_of k f ≡ true)
unfolding form_under
form-fits k o = read-fit k (form_in (default_form k) o)

run-has : (k : Option KernelName) (b : Option ℕ) (o : Option Output) (word s t : Option Text) → IfSome b (λ b. is_to 1000000 b ≡ true)
    → InLimits (run_with k b o (option_and_then (λ k. form_under k word) k) s t)
run-has None b o word s t is = none-run b o None s t
run-has (Some k) b o word s t is = some-run k b o (form_under k word) s t is (form-fits k word)

decode-has : (frames : Option Text) → InLimits (decode_with frames)
unfolding decode_with InLimits
decode-has None = tt
decode-has (Some frames) = refl

migrate-has : (k : Option Kind) (f : Option Form) (file : Option Text) → InLimits (migrate_with k f file)
unfolding migrate_with InLimits
migrate-has None f file = tt
migrate-has (Some k) None file = tt
migrate-has (Some k) (Some f) None = tt
migrate-has (Some k) (Some f) (Some file) = refl

check-has : (o : Option CheckWords) → InLimits (option_map check o)
unfolding InLimits
check-has None = tt
check-has (Some w) = refl

replay-has : (o : Option CheckWords) → InLimits (option_map replay o)
unfolding InLimits
replay-has None = tt
replay-has (Some w) = refl

generate-has : (n : Option ℕ) → IfSome n (λ n. is_to 1000 n ≡ true) → InLimits (generate_with n)
unfolding generate_with is_to InLimits
generate-has None is = tt
generate-has (Some n) is = is

then-has : (read : List Row → Option Asked) → ((rows : List Row) → InLimits (read rows)) → (found : Option (List Row)) → InLimits (option_and_then read found)
unfolding InLimits
then-has read each None = tt
then-has read each (Some rows) = each rows

if-has : (b : Bool) (x y : Option Asked) → InLimits x → InLimits y → InLimits (cond b x y)
if-has true x y h k = h
if-has false x y h k = k

none-has : InLimits None
unfolding InLimits
none-has = tt

asked-has : (word : Text) (words : List Text) → InLimits (asked_by word words)
unfolding asked_by
asked-has word words =
    if-has (bytes_eq word (codes "run")) _ _
    (then-has run_in (λ rows. run-has (kernel_named (first_of (codes "kernel") rows)) _ (output_in (first_of (codes "out") rows)) (first_of (codes "form") rows) _ _ (budget-within (first_of (codes "budget") rows))) (found_in run_app words))
    (if-has (bytes_eq word (codes "decode")) _ _ (then-has decode_in (λ rows. decode-has (first_of (codes "frames") rows)) (found_in decode_app words))
    (if-has (bytes_eq word (codes "migrate")) _ _ (then-has migrate_in (λ rows. migrate-has (kind_named (first_of (codes "from") rows)) (form_in Two (first_of (codes "to") rows)) _) (found_in migrate_app words))
    (if-has (bytes_eq word (codes "check")) _ _ (check-has (option_and_then files_in (found_in (files_app (codes "check")) words)))
    (if-has (bytes_eq word (codes "replay")) _ _ (replay-has (option_and_then files_in (found_in (files_app (codes "replay")) words)))
    (if-has (bytes_eq word (codes "gen")) _ _ (then-has generate_in (λ rows. generate-has (made_in (first_of (codes "number") rows)) (made-within (first_of (codes "number") rows))) (found_in generate_app words)) none-has)))))

-- what words ask for is in its limits
command-has : (words : List Text) → InLimits (command_in words)
unfolding command_in
command-has [] = none-has
command-has (word ∷ rest) = asked-has word (word ∷ rest)

pub asked-limits : (words : List Text) (asked : Asked) → Some asked ≡ command_in words → is_in_limits asked ≡ true
unfolding InLimits
asked-limits words asked is = let has = command-has words in rw (sym is) at has

-- both bounds of a number
pub limit-some : (most n : ℕ) → (nat_le 1 n && nat_le n most) ≡ true → 0 < n
limit-some most n is = let least = (and_parts (nat_le 1 n) (nat_le n most) is).0 in grind (arith, nat_tests, least)

pub limit-few : (most n : ℕ) → (nat_le 1 n && nat_le n most) ≡ true → n ≤ most
limit-few most n is = let few = (and_parts (nat_le 1 n) (nat_le n most) is).1 in grind (arith, nat_tests, few)
