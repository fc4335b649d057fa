use Rattle.std.proofs.Common.{◌≡◌, ◌∙◌, ◌++◌, ◌∷◌, [], ap, sym, map, List, ℕ, ℤ, rules, w64, string_bytes}
use Rattle.std.specs.Option.{option_map}
use Rattle.std.proofs.lemmas.Int.{to_z-of_z}
use Rattle.std.proofs.lemmas.List.{map-append}
use Rattle.toml.specs.View.{members_view}
use mir.Val.{SFits, to_z, of_z}
use Rattle.qp_system_tables.specs.Values.{all_integers}
use Rattle.qp_system_tables.proofs.VarsLemmas.{pair_view, integers-turn, integers-none, integers-last}
use Rattle.qp_system_tables.proofs.vars.integers.Goals as goal

pub returns-in-None-as_integer : goal.returns-in-None-as_integer
returns-in-None-as_integer c =
    integers-none (map pair_view c.loop-name.vars.items) c.in-Some.name.now c.in-Some.value.now c.next.new.self c.loop-name.name-iterator c.in-Some.ensures.steps
    (sym c.as_integer.ensures ∙ c.in-None-as_integer.is)
    ∙ c.loop-name.invariant.same

pub loop-name-preserved : goal.loop-name-preserved
loop-name-preserved c =
    let z = c.in-Some-as_integer.first in
    let fits : SFits w64 z = search rules in
    let front = map pair_view c.loop-name.vars.items in
    let more = all_integers (members_view c.next.new.self) in
    let pushed : map pair_view c.push.new.self.items ≡ front ++ (string_bytes c.in-Some.name.now, z) ∷ [] =
    ap (map pair_view) c.in_ok-push-in-Some-as_integer.ensures.items
    ∙ map-append pair_view c.loop-name.vars.items ((c.as_str.result, to_z w64 (of_z w64 z)) ∷ [])
    ∙ ap (λ (y : ℤ). front ++ (c.as_str.result.now, y) ∷ []) (to_z-of_z w64 z fits)
    ∙ ap (λ (name : List ℕ). front ++ (name, z) ∷ []) c.as_str.ensures.value in
    record {
      can = tt;
      finite = tt;
      same =
          ap (λ (f : List (List ℕ × ℤ)). option_map (λ (rest : List (List ℕ × ℤ)). f ++ rest) more) pushed
          ∙ integers-turn front c.in-Some.name.now c.in-Some.value.now z c.next.new.self c.loop-name.name-iterator c.in-Some.ensures.steps
          (sym c.as_integer.ensures ∙ c.in-Some-as_integer.is)
          ∙ c.loop-name.invariant.same;
    }

pub returns : goal.returns
returns c = integers-last (map pair_view c.loop-name.vars.items) c.loop-name.name-iterator c.in-None.ensures.steps.0 ∙ c.loop-name.invariant.same
