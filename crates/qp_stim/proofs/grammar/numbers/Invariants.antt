use Rattle.std.proofs.Common.{◌≡◌, ◌+◌, length}
use Rattle.std.specs.Option.{option_map, option_map_or}
use Rattle.qp_stim.specs.Parts.{split_at_separator}
use Rattle.qp_stim.specs.Grammar.{numbers_of_tokens}
use Rattle.qp_stim.specs.Reading.{parts_left, no_pars, with_pars}
use Rattle.qp_stim.proofs.grammar.numbers.Given as goal

abbrev pub invariant-loop-rest : goal.invariant-loop-rest
invariant-loop-rest l =
    option_map (with_pars l.pars) (numbers_of_tokens (parts_left 44 (option_map (λ r. r.now) l.rest))) ≡ option_map (with_pars no_pars) (numbers_of_tokens (split_at_separator 44 l.body))

abbrev pub decreases-loop-rest : goal.decreases-loop-rest
decreases-loop-rest l = option_map_or (λ r. length r.now + 1) l.rest 0
