use Rattle.std.proofs.Common.{◌≡◌, ◌∙◌, ◌+◌, true, false, ap, sym, refl, length, arith}
use Rattle.std.specs.List.{list_all}
use Rattle.std.proofs.lemmas.Result.{IfOk-weaker}
use Rattle.qp_model.specs.Record.{item_of}
use Rattle.qp_model.specs.History.{touch}
use Rattle.qp_check_words.specs.Marks.{shown_key, shows_within}
use Rattle.qp_check_lanes.specs.Groups.{grouped}
use Rattle.qp_check_lanes.proofs.WalkLemmas.{length_seen}
use Rattle.qp_check_lanes.proofs.GroupLemmas.{length-grouped}
use Rattle.qp_check_words.specs.Judging.{shown_of}
use Rattle.qp_check_words.proofs.judging.shows.Goals as goal

pub is_shown-requires-clause-places : goal.is_shown-requires-clause-places
is_shown-requires-clause-places g c =
    let long = ap length c.in_ok-shown.ensures ∙ length-grouped shown_key (c.len-count.result + 1) c.args.touched.now in
    let seen = length_seen (λ r. item_of r.now) c.history.view_is refl in
    omega (arith, long, seen, c.len-count.ensures, c.history.inside.items.ok.0)

pub returns-then-not-all_within : goal.returns-then-not-all_within
unfolding shown_of
returns-then-not-all_within g c =
    let seen = length_seen (λ r. item_of r.now) c.history.view_is refl in
    let long : c.len-count.result ≡ length c.args.history.now = omega (arith, seen, c.len-count.ensures, c.history.inside.items.ok.0) in
    let fails : list_all (λ i. shows_within (length c.args.history.now) (touch i)) c.args.touched.now ≡ false =
    ap (λ n. list_all (λ i. shows_within n (touch i)) c.args.touched.now) (sym long) ∙ sym c.if-not-all_within.ensures in
    rw fails refl

pub returns : goal.returns
unfolding shown_of
returns g c =
    let seen = length_seen (λ r. item_of r.now) c.history.view_is refl in
    let long : c.len-count.result ≡ length c.args.history.now = omega (arith, seen, c.len-count.ensures, c.history.inside.items.ok.0) in
    let holds : list_all (λ i. shows_within (length c.args.history.now) (touch i)) c.args.touched.now ≡ true =
    ap (λ n. list_all (λ i. shows_within n (touch i)) c.args.touched.now) (sym long) ∙ sym c.if-not-all_within.ensures in
    let found = c.in_ok-shown.ensures ∙ ap (λ n. grouped shown_key (n + 1) c.args.touched.now) long in
    IfOk-weaker c.is_shown.result _ _ (λ b is. rw (holds, ← found) is) c.is_shown.ensures
