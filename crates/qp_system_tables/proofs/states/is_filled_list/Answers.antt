use Rattle.std.proofs.Common.{◌≡◌, ◌∙◌, ap, sym, suc, not, ◌==◌, false, length, List, [], ◌∷◌, refl, ℕ, arith, Bor, Vec}
use Rattle.std.proofs.lemmas.Bool.Decides.{nat_tests}
use Rattle.std.specs.Option.{option_map, option_map_or}
use Rattle.std.specs.declared.option.Option.{Option}
use Rattle.std.specs.declared.alloc.Global.{Global}
use Rattle.toml.specs.Data.{Items}
use Rattle.toml.specs.View.{view, items_view, array_view}
use Rattle.toml.specs.declared.value.Value.{Value}
use Rattle.qp_system_tables.specs.Tables.{is_filled, has_items}
use Rattle.qp_system_tables.proofs.states.is_filled_list.Goals as goal

abbrev Array : Type 0
Array = Vec Value Global

positive : (n : ℕ) → false ≡ (suc n == 0)
positive n = grind (arith, nat_tests)

filled : (vs : List Value) → not (length vs == 0) ≡ is_filled (items_view vs)
filled [] = refl
filled (v ∷ vs) = ap not (sym (positive (length vs)))

pub returns-in-Some-as_array : goal.returns-in-Some-as_array
returns-in-Some-as_array c =
    let items = c.in-Some-as_array.items.now in
    ap not (c.is_empty.ensures ∙ ap (λ (l : List Value). length l == 0) c.as_slice.ensures.value)
    ∙ filled items.items
    ∙ ap (λ (o : Option Items). option_map_or is_filled o false) (sym (ap (option_map (λ (v : Bor Array). array_view v.now)) c.in-Some-as_array.is) ∙ c.as_array.ensures)
    ∙ ap (λ (o : Option (Bor Value)). has_items (option_map (λ v. view v.now) o)) (sym c.in-Some.is)
