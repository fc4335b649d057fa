use Rattle.std.proofs.Common.{◌∙◌, ◌++◌, ◌∷◌, [], ◌==◌, cond, ap, sym, append_assoc}
use Rattle.qp_model.specs.Record.{item_of}
use Rattle.qp_model.specs.Pieces.{Point}
use Rattle.qp_check_kernel.specs.LaneState.{as_reading}
use Rattle.qp_check_knowledge.specs.Knowledge.{known_facts}
use Rattle.qp_check.specs.ObjectPieces.{is_it, listed, own_piece, pieces_of_object, point_of}
use Rattle.qp_check.proofs.PieceLemmas.{pieces-are}
use Rattle.qp_check.proofs.pieces.put_record.Goals as goal

pub returns : goal.returns
unfolding item_of
returns c o =
    let w = known_facts c.args.knowledge.now in
    let k = as_reading c.args.reading.now in
    let i = item_of c.args.r.now in
    let old = pieces_of_object c.args.pieces.now o in
    let told = cond (o == i.of) (listed (own_piece w k.ceiling i)) [] in
    c.in_ok-put_point.ensures o
    ∙ ap (λ l. l ++ cond (is_it o c.point_of.result) (Point ∷ []) []) (c.in_ok-put_piece.ensures o ∙ ap (λ x. old ++ cond (o == i.of) (listed x) []) c.in_ok-own.ensures)
    ∙ ap (λ x. (old ++ told) ++ cond (is_it o x) (Point ∷ []) []) c.point_of.ensures
    ∙ append_assoc old told (cond (is_it o (point_of k i)) (Point ∷ []) [])
    ∙ ap (λ l. old ++ l) (sym (pieces-are w o k i))
