use Rattle.std.proofs.Common.{◌∙◌, map, suc, take, ap, sym, add-one}
use Rattle.std.proofs.lemmas.List.{take-map}
use Rattle.qp_replay.specs.Remaining.{record_place}
use Rattle.qp_replay.proofs.places.Places.cut_behind.Goals as goal

pub returns : goal.returns
returns c = ap (λ l. map (λ x. record_place x.lane x.place) l) (c.truncate.ensures.items ∙ ap (λ n. take n c.self.inside.items.items) (add-one c.args.n)) ∙ sym (take-map (λ x. record_place x.lane x.place) (suc c.args.n) c.self.inside.items.items) ∙ ap (take (suc c.args.n)) c.self.view_is
