use Rattle.std.proofs.Common.{◌≡◌, ◌∙◌, length, ap, sym, arith}
use Rattle.std.proofs.lemmas.List.{length-map}
use Rattle.std.specs.List.{flat_map}
use Rattle.qp_replay.specs.declared.marks.At.{At}
use Rattle.qp_replay.specs.Remaining.{record_place}
use Rattle.qp_replay.specs.Text.{head_line, place_line}
use Rattle.qp_text.proofs.PutsLemmas.{Puts-then}
use Rattle.qp_replay.proofs.writing.put_list.Goals as goal

pub returns : goal.returns
returns g c =
    let images : length c.args.places.now ≡ length c.places.inside.items.items =
    ap length (sym c.places.view_is) ∙ length-map c.places.inside.items.items (λ (x : At). record_place x.lane x.place) in
    let count : c.len.result ≡ length c.args.places.now = omega (arith, images, c.len.ensures, c.places.inside.items.ok.0) in
    rw (← count)
    (Puts-then c.put_places.result (head_line c.args.word.now c.len.result) (flat_map (place_line c.args.form c.args.lanes.now) c.args.places.now)
    _ _ _ _ _ _ c.in_ok-put_head.ensures.0 c.in_ok-put_head.ensures.1 c.put_places.ensures)
