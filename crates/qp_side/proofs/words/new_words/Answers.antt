use Rattle.std.proofs.Common.{[], ◌∷◌, sym, subst}
use Rattle.qp_model.specs.Lists.{count_up}
use Rattle.qp_table.specs.First.{first_serves}
use Rattle.qp_side.specs.Rule.{SideHolds}
use Rattle.qp_side.specs.Told.{side_root}
use Rattle.qp_side.proofs.SeatLemmas.{starts}
use Rattle.qp_side.proofs.words.new_words.Goals as goal

pub of_words-requires : goal.of_words-requires
of_words-requires c = subst (λ ws. SideHolds c.args.sys.now ws (side_root (count_up 0 49) (first_serves c.args.sys.now 32) ∷ [])) (sym c.as_slice.ensures.value)
    (starts c.args.sys.now c.in_ok-words.words.items c.requires.sound c.in_ok-words.ensures.wide c.in_ok-words.ensures.each)
