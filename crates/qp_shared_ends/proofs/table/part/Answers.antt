use Rattle.qp_shared_ends.proofs.table.part.Goals as goal

pub split_seat-requires : goal.split_seat-requires
split_seat-requires g c = (c.requires.own.0, c.requires.own.1, λ s h at. c.requires.keeps s.words s.views h at)
