use Rattle.qp_plain_sound.proofs.LawLemmas.{by-the_book}
use Rattle.qp_plain_sound.proofs.laws.views_are_by_the_book.Goals as goal

pub returns : goal.returns
returns c = by-the_book
