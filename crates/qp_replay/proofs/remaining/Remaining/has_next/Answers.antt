use Rattle.std.proofs.Common.{◌≡◌, ◌∙◌, ◌<◌, [], nat_lt, length, get_or, ap, sym, arith}
use Rattle.std.proofs.lemmas.List.{get_or_default}
use Rattle.qp_replay.specs.Orders.{is_record}
use Rattle.qp_replay.specs.Remaining.{front, head}
use Rattle.qp_replay.proofs.RemainingLemmas.{record-test}
use Rattle.qp_replay.proofs.remaining.Remaining.has_next.Goals as goal

pub returns : goal.returns
returns c =
    let st = c.args.self.now in
    let lane = c.args.lane in
    let within : lane < length c.self.inside.fronts.items = omega (arith, c.requires, ap (λ s. length s.lanes) c.self.view_is, c.self.invariant.each) in
    let at : c.index.result.now ≡ front st lane = c.index.ensures ∙ get_or_default c.self.inside.fronts.items lane c.index.result.now 0 within ∙ ap (λ s. front s lane) c.self.view_is in
    let long : c.length_of.result ≡ length (get_or st.lanes lane []) = c.length_of.ensures ∙ ap (λ s. length (get_or s.lanes lane [])) c.self.view_is in
    let same : nat_lt c.index.result.now c.length_of.result ≡ is_record st.lanes (head st lane) =
    ap (λ k. nat_lt k c.length_of.result) at ∙ ap (nat_lt (front st lane)) long ∙ sym (record-test st.lanes lane (front st lane)) in
    (λ h. sym same ∙ h, λ h. same ∙ h)
