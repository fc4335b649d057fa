use Rattle.std.proofs.Common.{◌≡◌, ◌∙◌, is_some, refl, ℕ, List, Some, None, Bor}
use Rattle.std.specs.declared.option.Option.{Option}
use Rattle.std.specs.Option.{option_map}
use Rattle.qp_stim.proofs.PartsLemmas.{parts_left-empty}
use Rattle.qp_stim.proofs.tokens.Tokens.is_empty.Goals as goal

is_some-now : (r : Option (Bor (List ℕ))) → is_some (option_map (λ (x : Bor (List ℕ)). x.now) r) ≡ is_some r
is_some-now None = refl
is_some-now (Some x) = refl

pub returns : goal.returns
returns c = parts_left-empty 32 (option_map (λ x. x.now) c.args.self.rest) c.is_none.result (is_some-now c.args.self.rest ∙ c.is_none.ensures)
