-- The place of a name in a list of names.
use Rattle.std.proofs.Common.{◌≡◌, ◌<◌, ◌+◌, ℕ, true, false, List, [], ◌∷◌, length, get_or, Some, None, refl, ap, sym, ◌∙◌, cond, ◌||◌, slice_get, option_map, map-id}
use Rattle.std.proofs.lemmas.List.{length-map}
use Rattle.std.specs.List.{list_any, position, position_from}
use Rattle.std.specs.Cmp.Lexicographic.{same_text}
use Rattle.std.proofs.lemmas.List.Quantifiers.{position-Some}
use Rattle.std.proofs.lemmas.List.Folds.{list_any_at}
use Rattle.std.proofs.lemmas.Iterator.Adapters.{position_from-zero}
use Rattle.std.proofs.lemmas.Option.{slice_get-map, slice_get-get_or}
use Rattle.qp_chart_text.specs.Terms.{Word}
use Rattle.qp_chart.specs.Binding.{named, bound_in, Binds}
use Rattle.qp_chart_names.specs.Known.{has_name, words, is_among, knows, reaches}
use Rattle.qp_chart.specs.Expr.{InRange}
use Rattle.qp_chart_names.proofs.KnownLemmas.{any_named}
use Rattle.qp_chart_text.specs.Terms.{Var}
use Rattle.qp_chart.specs.Tree as bound
use Rattle.std.specs.Option.{unwrap_or}

no_place_from : (name : Word) (k : ℕ) (vars : List (List ℕ)) → position_from (has_name name) k vars ≡ None → list_any (has_name name) vars ≡ false
no_place_from name k [] h = refl
no_place_from name k (v ∷ vars) h =
    elim (has_name name v) as (λ b. cond b (Some k) (position_from (has_name name) (k + 1) vars) ≡ None → (b || list_any (has_name name) vars) ≡ false) [ true ↦ λ e. cc | false ↦ λ e. no_place_from name (k + 1) vars e ] h

pub no_place : (name : Word) (vars : List (List ℕ)) → position (has_name name) vars ≡ None → is_among (words vars) name ≡ false
no_place name vars h = sym (any_named name vars) ∙ no_place_from name 0 vars (sym (position_from-zero (has_name name) vars) ∙ h)

empty_name : (List ℕ)
empty_name = []

pub place_bytes : (name : Word) (vars : List (List ℕ)) (v : ℕ) → position (has_name name) vars ≡ Some v → slice_get (words vars) v ≡ Some name
place_bytes name vars v h =
    let found = position-Some (has_name name) vars v empty_name h in
    slice_get-map (λ n. n) vars v
    ∙ ap (option_map (λ n. n)) (slice_get-get_or vars v empty_name found.0)
    ∙ ap Some (same_text (get_or vars v empty_name) name (sym found.1))

pub place_within : (name : Word) (vars : List (List ℕ)) (v : ℕ) → position (has_name name) vars ≡ Some v → v < length vars
place_within name vars v h = (position-Some (has_name name) vars v empty_name h).0

pub place_known : (name : Word) (vars : List (List ℕ)) (v : ℕ) → position (has_name name) vars ≡ Some v → is_among (words vars) name ≡ true
place_known name vars v h =
    let found = position-Some (has_name name) vars v empty_name h in
    sym (any_named name vars) ∙ list_any_at (has_name name) vars v empty_name found.0 found.1

-- a variable is bound to its place
pub binds_place : (name : Word) (vars : List (List ℕ)) (params v : ℕ) → position (has_name name) vars ≡ Some v → Binds (words vars) params (Var name) (bound.Var v)
unfolding knows reaches named bound_in InRange
binds_place name vars params v h =
    record {
      made = ap (λ vs. option_map (λ v. bound.Var v) (position (has_name name) vs)) (map-id vars) ∙ ap (option_map (λ v. bound.Var v)) h;
      same = ap (λ o. Var (unwrap_or o [])) (place_bytes name vars v h);
      in_range = rw (length-map) (place_within name vars v h);
      known = place_known name vars v h;
      reached = refl;
    }
