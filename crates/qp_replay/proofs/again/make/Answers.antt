use Rattle.std.proofs.Common.{◌∙◌, length, get_or, ap, arith}
use Rattle.qp_replay.specs.Remaining.{record_place}
use Rattle.qp_replay.proofs.Rerunning.{goes-to, is-made, is-sound, is-within, lane-within, may-repeat, place-within, record-read, remains, same-lanes, same-system}
use Rattle.qp_replay.proofs.again.make.Goals as goal

pub index-lane-requires : goal.index-lane-requires
index-lane-requires c =
    let goes = c.requires in
    omega (arith, lane-within c.args.lanes.now c.args.at.lane c.args.at.place goes.rec goes.there, ap length c.lanes.view_is, c.lanes.inside.items.ok.0)

pub index-requires : goal.index-requires
index-requires c =
    let goes = c.requires in
    let lane = c.index-lane.ensures ∙ ap (λ l. get_or l c.args.at.lane c.index-lane.result.now) c.lanes.view_is in
    let less = place-within c.args.lanes.now c.args.at.lane c.args.at.place goes.rec goes.there c.index-lane.result.now lane in
    omega (arith, less, ap length c.lane.view_is, c.lane.inside.items.ok.0)

pub go-requires : goal.go-requires
go-requires c = c.requires.lane

pub place_for-requires : goal.place_for-requires
place_for-requires c =
    let goes = c.requires in
    let lane = c.index-lane.ensures ∙ ap (λ l. get_or l c.args.at.lane c.index-lane.result.now) c.lanes.view_is in
    let item = c.index.ensures ∙ ap (λ l. get_or l c.args.at.place c.index.result.now) c.lane.view_is in
    let is = c.copy_of-rec.ensures ∙ record-read c.args.lanes.now c.args.at.lane c.args.at.place goes.rec goes.there c.index-lane.result.now c.index.result.now lane item in
    let chosen = goes-to c.args.world.now c.go.new.self c.args.at.lane c.go.ensures.goes in
    record { few = is-within c.args.lanes.now (record_place c.args.at.lane c.args.at.place) c.args.world.now goes c.copy_of-rec.result is c.go.new.self chosen }

pub repeat-requires-clause-sound : goal.repeat-requires-clause-sound
repeat-requires-clause-sound c =
    let goes = c.requires in
    let lane = c.index-lane.ensures ∙ ap (λ l. get_or l c.args.at.lane c.index-lane.result.now) c.lanes.view_is in
    let item = c.index.ensures ∙ ap (λ l. get_or l c.args.at.place c.index.result.now) c.lane.view_is in
    let is = c.copy_of-rec.ensures ∙ record-read c.args.lanes.now c.args.at.lane c.args.at.place goes.rec goes.there c.index-lane.result.now c.index.result.now lane item in
    let chosen = goes-to c.args.world.now c.go.new.self c.args.at.lane c.go.ensures.goes in
    let there = remains c.args.world.now c.go.new.self c.place_for.new.self c.args.at.lane chosen c.in_ok-place_for.ensures.keeps in
    is-sound c.args.lanes.now (record_place c.args.at.lane c.args.at.place) c.args.world.now goes c.copy_of-rec.result is c.place_for.new.self there

pub repeat-requires-clause-next : goal.repeat-requires-clause-next
repeat-requires-clause-next c =
    let goes = c.requires in
    let lane = c.index-lane.ensures ∙ ap (λ l. get_or l c.args.at.lane c.index-lane.result.now) c.lanes.view_is in
    let item = c.index.ensures ∙ ap (λ l. get_or l c.args.at.place c.index.result.now) c.lane.view_is in
    let is = c.copy_of-rec.ensures ∙ record-read c.args.lanes.now c.args.at.lane c.args.at.place goes.rec goes.there c.index-lane.result.now c.index.result.now lane item in
    let chosen = goes-to c.args.world.now c.go.new.self c.args.at.lane c.go.ensures.goes in
    let there = remains c.args.world.now c.go.new.self c.place_for.new.self c.args.at.lane chosen c.in_ok-place_for.ensures.keeps in
    may-repeat c.args.lanes.now (record_place c.args.at.lane c.args.at.place) c.args.world.now goes c.copy_of-rec.result is c.place_for.new.self there

pub returns-clause-made : goal.returns-clause-made
returns-clause-made c =
    let goes = c.requires in
    let lane = c.index-lane.ensures ∙ ap (λ l. get_or l c.args.at.lane c.index-lane.result.now) c.lanes.view_is in
    let item = c.index.ensures ∙ ap (λ l. get_or l c.args.at.place c.index.result.now) c.lane.view_is in
    let is = c.copy_of-rec.ensures ∙ record-read c.args.lanes.now c.args.at.lane c.args.at.place goes.rec goes.there c.index-lane.result.now c.index.result.now lane item in
    let chosen = goes-to c.args.world.now c.go.new.self c.args.at.lane c.go.ensures.goes in
    let there = remains c.args.world.now c.go.new.self c.place_for.new.self c.args.at.lane chosen c.in_ok-place_for.ensures.keeps in
    is-made c.args.lanes.now (record_place c.args.at.lane c.args.at.place) c.args.world.now goes c.copy_of-rec.result is c.place_for.new.self there c.repeat.new.self c.repeat.ensures

pub returns-clause-sys : goal.returns-clause-sys
returns-clause-sys c =
    let goes = c.requires in
    let lane = c.index-lane.ensures ∙ ap (λ l. get_or l c.args.at.lane c.index-lane.result.now) c.lanes.view_is in
    let item = c.index.ensures ∙ ap (λ l. get_or l c.args.at.place c.index.result.now) c.lane.view_is in
    let is = c.copy_of-rec.ensures ∙ record-read c.args.lanes.now c.args.at.lane c.args.at.place goes.rec goes.there c.index-lane.result.now c.index.result.now lane item in
    let chosen = goes-to c.args.world.now c.go.new.self c.args.at.lane c.go.ensures.goes in
    let there = remains c.args.world.now c.go.new.self c.place_for.new.self c.args.at.lane chosen c.in_ok-place_for.ensures.keeps in
    same-system c.args.lanes.now (record_place c.args.at.lane c.args.at.place) c.args.world.now goes c.copy_of-rec.result is c.place_for.new.self there c.repeat.new.self c.repeat.ensures

pub returns-clause-lanes : goal.returns-clause-lanes
returns-clause-lanes c =
    let goes = c.requires in
    let lane = c.index-lane.ensures ∙ ap (λ l. get_or l c.args.at.lane c.index-lane.result.now) c.lanes.view_is in
    let item = c.index.ensures ∙ ap (λ l. get_or l c.args.at.place c.index.result.now) c.lane.view_is in
    let is = c.copy_of-rec.ensures ∙ record-read c.args.lanes.now c.args.at.lane c.args.at.place goes.rec goes.there c.index-lane.result.now c.index.result.now lane item in
    let chosen = goes-to c.args.world.now c.go.new.self c.args.at.lane c.go.ensures.goes in
    let there = remains c.args.world.now c.go.new.self c.place_for.new.self c.args.at.lane chosen c.in_ok-place_for.ensures.keeps in
    same-lanes c.args.lanes.now (record_place c.args.at.lane c.args.at.place) c.args.world.now goes c.copy_of-rec.result is c.place_for.new.self there c.repeat.new.self c.repeat.ensures
