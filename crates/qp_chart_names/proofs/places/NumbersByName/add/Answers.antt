use Rattle.std.proofs.Common.{◌≡◌, ℕ, List, true, false, not, cond, Some, sym, ap, ◌∙◌}
use Rattle.std.specs.Option.{is_some}
use Rattle.std.specs.Str.{bytes_eq}
use Rattle.std.proofs.lemmas.Map.Text.{is_eq-slice_cmp}
use Rattle.qp_chart_names.specs.Numbering.{number_of_name}
use Rattle.qp_chart_names.proofs.NumberingLemmas.{keeps-known, adds-new}
use Rattle.qp_chart_names.proofs.places.NumbersByName.add.Goals as goal

pub returns-then-contains_key : goal.returns-then-contains_key
unfolding number_of_name
returns-then-contains_key c =
    let old = number_of_name c.args.self.now in
    let name : List ℕ = c.args.name.now in
    let known : is_some (old name) ≡ true = sym c.contains_key.ensures ∙ c.if-contains_key.true in
    record { fresh = ap not (sym known); numbers = keeps-known old name c.args.number known }

pub returns : goal.returns
unfolding number_of_name
returns c =
    let old = number_of_name c.args.self.now in
    let new = number_of_name (record { map = c.insert.new.self }) in
    let name : List ℕ = c.args.name.now in
    let unknown : is_some (old name) ≡ false = sym c.contains_key.ensures ∙ c.if-contains_key.false in
    let steps : (q : List ℕ) → new q ≡ cond (bytes_eq name q) (Some c.args.number) (old q) = λ q.
    c.in_ok-insert.ensures.updates.0 q ∙ ap (λ b. cond b (Some c.args.number) (old q)) (is_eq-slice_cmp name q) in
    record { fresh = ap not (sym unknown); numbers = adds-new old new name c.args.number unknown steps }
