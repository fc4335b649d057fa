use Rattle.std.proofs.Common.{[], ◌∷◌, sym, subst}
use Rattle.qp_table.specs.Rule.{Holds}
use Rattle.qp_table.specs.After.{newcomer}
use Rattle.qp_table.specs.Whole.{later_lanes}
use Rattle.qp_table.specs.First.{first_serves}
use Rattle.qp_table.proofs.LawLemmas.{sound_systems_start}
use Rattle.qp_shared_words.proofs.first.new_words.Goals as goal

pub of_words-requires : goal.of_words-requires
of_words-requires c = subst (λ ws. Holds c.args.sys.now ws (newcomer later_lanes (first_serves c.args.sys.now 32) ∷ [])) (sym c.as_slice.ensures.value)
    (sound_systems_start c.args.sys.now c.in_ok-words.words.items c.requires.sound c.in_ok-words.ensures.wide c.in_ok-words.ensures.each)
