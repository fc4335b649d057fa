-- Variables one after another.
use Rattle.std.proofs.Common.{◌≡◌, ℕ, ◌+◌, ◌<◌, ◌≤◌, List, [], ◌∷◌, ◌++◌, length, map, drop, get_or, Some, None, Ok, Err, refl, sym, ◌∙◌, ap, add-one, Bor, string_bytes, String, Global, ℤ}
use Rattle.std.specs.declared.result.Result.{Result}
use Rattle.std.specs.Option.{option_map}
use Rattle.std.proofs.Math.Seq.{drop-cons}
use Rattle.std.proofs.lemmas.List.{append-nil, drop_all}
use Rattle.toml.specs.Data.{as_integer}
use Rattle.toml.specs.View.{view, members_view}
use Rattle.toml.specs.declared.value.Value.{Value}
use Rattle.qp_chart_names.specs.declared.place.Part.{Part}
use Rattle.qp_chart_names.specs.Faults.{Fault}
use Rattle.qp_system_tables.specs.declared.fault.SystemFault.{SystemFault}
use Rattle.qp_model.specs.Results.{◌>>=◌}
use Rattle.qp_system_tables.specs.Values.{allowed_name, named_vars, all_integers}
use Rattle.qp_system_tables.specs.Refused.{ReadFails}
use Rattle.qp_system_tables.specs.Front.{with_front}
use Rattle.qp_system_tables.proofs.FrontLemmas.{Fails-through, with_front-more, with_front-end, option-front-more, option-front-none}

-- a variable as the reader has it in hand
abbrev pub Pair : Type 0
Pair = Bor (List ℕ) × ℤ

abbrev pub pair_view : Pair → List ℕ × ℤ
pair_view x = (x.0.now, x.1)

named-first : (place : List Part) (i : ℕ) (vars : List Pair) (d : Pair) → i < length vars
    → named_vars place (map pair_view (drop i vars)) ≡ named_vars place (pair_view (get_or vars i d) ∷ map pair_view (drop (i + 1) vars))
named-first place i vars d h =
    let first : drop i vars ≡ get_or vars i d ∷ drop (i + 1) vars = rw add-one (drop-cons vars i d h) in
    ap (λ (l : List Pair). named_vars place (map pair_view l)) first

named-Err : (place : List Part) (var : List ℕ × ℤ) (more : List (List ℕ × ℤ)) (f : Fault) → allowed_name place var.0 ≡ Err f → named_vars place (var ∷ more) ≡ Err f
unfolding named_vars
named-Err place var more f h = ap (λ r. r >>= λ name. named_vars place more >>= λ vars. Ok ((name, var.1) ∷ vars)) h

named-Ok : (place : List Part) (var : List ℕ × ℤ) (more : List (List ℕ × ℤ)) (name : List ℕ) → allowed_name place var.0 ≡ Ok name
    → named_vars place (var ∷ more) ≡ (named_vars place more >>= λ vars. Ok ((name, var.1) ∷ vars))
unfolding named_vars
named-Ok place var more name h = ap (λ r. r >>= λ n. named_vars place more >>= λ vars. Ok ((n, var.1) ∷ vars)) h

named-end : (place : List Part) → named_vars place [] ≡ Ok []
unfolding named_vars
named-end place = refl

-- a variable whose key is no name
pub named-refused : (place : List Part) (front : List (List ℕ × ℤ)) (i : ℕ) (vars : List Pair) (d : Pair) (e : SystemFault) (whole : Result (List (List ℕ × ℤ)) Fault)
    → i < length vars → with_front front (named_vars place (map pair_view (drop i vars))) ≡ whole → ReadFails e (allowed_name place (get_or vars i d).0.now) → ReadFails e whole
named-refused place front i vars d e whole h invariant refused =
    Fails-through e (allowed_name place (get_or vars i d).0.now) whole refused
    (λ f found.
    sym invariant
    ∙ ap (with_front front) (named-first place i vars d h ∙ named-Err place (pair_view (get_or vars i d)) (map pair_view (drop (i + 1) vars)) f found))

-- a variable that is read
pub named-read : (place : List Part) (items new : List ((List ℕ) × ℤ)) (name : (List ℕ)) (i : ℕ) (vars : List Pair) (d : Pair)
    (whole : Result (List (List ℕ × ℤ)) Fault) → i < length vars → with_front items (named_vars place (map pair_view (drop i vars))) ≡ whole
    → allowed_name place (get_or vars i d).0.now ≡ Ok name → new ≡ items ++ (name, (get_or vars i d).1) ∷ []
    → with_front new (named_vars place (map pair_view (drop (i + 1) vars))) ≡ whole
named-read place items new name i vars d whole h invariant found pushed =
    let more = map pair_view (drop (i + 1) vars) in
    let value = (get_or vars i d).1 in
    ap (λ f. with_front f (named_vars place more))
    pushed
    ∙ sym (ap (with_front items) (named-first place i vars d h ∙ named-Ok place (pair_view (get_or vars i d)) more name found)
    ∙ with_front-more items (name, value) (named_vars place more))
    ∙ invariant

-- all variables are read
pub named-last : (place : List Part) (front : List (List ℕ × ℤ)) (i : ℕ) (vars : List Pair) → length vars ≤ i
    → with_front front (named_vars place (map pair_view (drop i vars))) ≡ Ok front
named-last place front i vars h =
    ap (λ (l : List Pair). with_front front (named_vars place (map pair_view l))) (drop_all i vars h)
    ∙ ap (with_front front) (named-end place)
    ∙ with_front-end front

-- a member more
pub integers-turn : (front : List (List ℕ × ℤ)) (name : String Global) (value : Value) (z : ℤ) (rest : List (String Global × Value)) (left : List (String Global × Value))
    → left ≡ (name, value) ∷ rest → as_integer (view value) ≡ Some z
    → option_map (λ more. (front ++ (string_bytes name, z) ∷ []) ++ more) (all_integers (members_view rest)) ≡ option_map (λ more. front ++ more) (all_integers (members_view left))
unfolding all_integers
integers-turn front name value z rest left is found =
    let first : option_map (λ (y : ℤ). (string_bytes name, y)) (as_integer (view value)) ≡ Some (string_bytes name, z) =
    ap (option_map (λ (y : ℤ). (string_bytes name, y))) found in
    option-front-more front (option_map (λ (y : ℤ). (string_bytes name, y)) (as_integer (view value))) (string_bytes name, z) (all_integers (members_view rest)) first
    ∙ ap (λ (l : List (String Global × Value)). option_map (λ (more : List (List ℕ × ℤ)). front ++ more) (all_integers (members_view l))) (sym is)

-- a member that is no integer
pub integers-none : (front : List (List ℕ × ℤ)) (name : String Global) (value : Value) (rest left : List (String Global × Value)) → left ≡ (name, value) ∷ rest
    → as_integer (view value) ≡ None → None ≡ option_map (λ more. front ++ more) (all_integers (members_view left))
unfolding all_integers
integers-none front name value rest left is found =
    let first : option_map (λ (y : ℤ). (string_bytes name, y)) (as_integer (view value)) ≡ None = ap (option_map (λ (y : ℤ). (string_bytes name, y))) found in
    sym (option-front-none front (option_map (λ (y : ℤ). (string_bytes name, y)) (as_integer (view value))) (all_integers (members_view rest)) first)
    ∙ ap (λ (l : List (String Global × Value)). option_map (λ (more : List (List ℕ × ℤ)). front ++ more) (all_integers (members_view l))) (sym is)

-- no member is left
pub integers-last : (front : List (List ℕ × ℤ)) (left : List (String Global × Value)) → left ≡ [] → Some front ≡ option_map (λ more. front ++ more) (all_integers (members_view left))
unfolding all_integers
integers-last front left is =
    ap (λ (l : List (List ℕ × ℤ)). Some l) (sym (append-nil front))
    ∙ ap (λ (l : List (String Global × Value)). option_map (λ (more : List (List ℕ × ℤ)). front ++ more) (all_integers (members_view l))) (sym is)
