use Rattle.std.proofs.Common.{◌≡◌, ◌∙◌, List, ℕ, map, ap, sym, subst}
use Rattle.std.specs.List.{AllByRecursion, flat_map}
use Rattle.std.specs.Prelude.{IsTrue}
use Rattle.std.proofs.lemmas.Result.{err_from_is_err_and}
use Rattle.std.proofs.lemmas.List.{get_or_default}
use Rattle.std.proofs.lemmas.List.Folds.{flat_map-map}
use Rattle.qp_base.specs.Sink.{appended}
use Rattle.qp_model.specs.declared.record.Rec.{Rec}
use Rattle.qp_model.specs.Places.{RecordPlace}
use Rattle.qp_replay.specs.declared.marks.At.{At}
use Rattle.qp_replay.specs.Orders.{is_record}
use Rattle.qp_replay.specs.Remaining.{record_place}
use Rattle.qp_replay.specs.Text.{place_line}
use Rattle.qp_text.proofs.PieceLemmas.{pieces-all}
use Rattle.qp_text.proofs.PutsLemmas.{pieces-cut, pieces-put}
use Rattle.qp_replay.proofs.ReplayedLemmas.{image-at}
use Rattle.qp_replay.proofs.writing.put_places.Goals as goal

-- the line of a place
abbrev line : ℕ → List (List Rec) → At → List ℕ
line form lanes x = place_line form lanes (record_place x.lane x.place)

lines : (form : ℕ) (lanes : List (List Rec)) (xs : List At) → flat_map (place_line form lanes) (map (λ x. record_place x.lane x.place) xs) ≡ flat_map (line form lanes) xs
lines form lanes xs = flat_map-map (place_line form lanes) (λ x. record_place x.lane x.place) xs

pub put_place-requires-clause-stands : goal.put_place-requires-clause-stands
put_place-requires-clause-stands g c =
    let Stands : RecordPlace → Type 0 = λ x. IsTrue (is_record c.args.lanes.now x) in
    let all : AllByRecursion Stands (map (λ (x : At). record_place x.lane x.place) c.places.inside.items.items) =
    subst (AllByRecursion Stands) (sym c.places.view_is) c.requires.stand in
    let read : AllByRecursion Stands (map (λ (x : At). record_place x.lane x.place) c.deref-at-items.result.now) =
    subst (λ xs. AllByRecursion Stands (map (λ (x : At). record_place x.lane x.place) xs)) (sym c.deref-at-items.ensures.value) all in
    image-at Stands (λ (x : At). record_place x.lane x.place) c.deref-at-items.result.now c.loop-at.at-index _ read c.loop-at-test.true

pub returns-in_err-put_place : goal.returns-in_err-put_place
returns-in_err-put_place g c =
    let p = err_from_is_err_and c.from_residual.result c.from_residual.ensures.1 in
    rw (p.1, ← c.places.view_is, lines c.args.form c.args.lanes.now c.places.inside.items.items, ← c.deref-at-items.ensures.value) (
      pieces-cut (line c.args.form c.args.lanes.now) _ _ _ c.loop-at-test.true (get_or_default _ _ _ _ c.loop-at-test.true) _ _ _ c.loop-at.invariant.written c.in_err-put_place.ensures.0,
      rw (← c.loop-at.invariant.faults) c.in_err-put_place.ensures.1,
    )

pub loop-at-preserved : goal.loop-at-preserved
loop-at-preserved g c = record {
  written = pieces-put (line c.args.form c.args.lanes.now) _ _ _ c.loop-at-test.true (get_or_default _ _ _ _ c.loop-at-test.true) _ _ _ c.loop-at.invariant.written c.in_ok-put_place.ensures.0;
  faults = c.in_ok-put_place.ensures.1 ∙ c.loop-at.invariant.faults;
}

pub returns : goal.returns
returns g c =
    rw (← c.places.view_is, lines c.args.form c.args.lanes.now c.places.inside.items.items, ← c.deref-at-items.ensures.value) (
      c.loop-at.invariant.written ∙ ap (appended (g.K.Sink.written c.args.out.now)) (pieces-all (line c.args.form c.args.lanes.now) _ _ c.loop-at-test.false),
      c.loop-at.invariant.faults,
    )
