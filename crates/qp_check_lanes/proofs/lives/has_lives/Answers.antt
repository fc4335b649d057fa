use Rattle.std.proofs.Common.{◌≡◌, ◌∙◌, ◌<◌, ◌==◌, ◌||◌, ℕ, false, ap, sym, arith, length, get_or}
use Rattle.qp_chart.specs.StateTree.{has}
use Rattle.qp_model.specs.Lives.{edges, lives_cover}
use Rattle.qp_check_lanes.specs.BlockLives.{are_empty, are_referred}
use Rattle.qp_check_lanes.proofs.BlockLifeLemmas.{lives-not_allowed, lives-not_empty, lives-not_covered, lives-referred, length-empties}
use Rattle.qp_check_lanes.proofs.lives.has_lives.Goals as goal

pub returns-in-None : goal.returns-in-None
returns-in-None c = λ block given. lives-not_allowed block c.args.b c.args.own.now c.args.flags.now given c.in-None.ensures

pub returns-then-not-are_empty : goal.returns-then-not-are_empty
returns-then-not-are_empty c = λ block given.
    lives-not_empty block c.args.b c.args.own.now c.args.flags.now given
    (sym (c.if-not-are_empty.ensures ∙ ap (are_empty c.args.flags.now) (c.deref.ensures.value ∙ c.in_ok-edges.ensures)))

pub returns-then-not-covers : goal.returns-then-not-covers
unfolding lives_cover
returns-then-not-covers c = λ block given.
    let count : c.saturating_sub-count.result ≡ length block = omega (arith, c.saturating_sub-count.ensures, ap length given, length-empties block) in
    lives-not_covered block c.args.b c.args.own.now c.args.flags.now given
    (sym (c.if-not-covers.ensures ∙ ap (λ n. c.in-Some.life.out || (c.in-Some.life.edge == n)) count ∙ ap (λ s. s.out || (s.edge == length block)) c.in-Some.ensures.1))

pub returns : goal.returns
unfolding lives_cover
returns c = λ block given.
    let b = c.args.b in
    let own = c.args.own.now in
    let flags = c.args.flags.now in
    let places = c.deref.ensures.value ∙ c.in_ok-edges.ensures in
    let places2 = c.deref-2.ensures.value ∙ c.in_ok-edges.ensures in
    let count : c.saturating_sub-count.result ≡ length block = omega (arith, c.saturating_sub-count.ensures, ap length given, length-empties block) in
    let long : length c.deref-3.result.now ≡ c.saturating_sub-count.result = ap length c.deref-3.ensures.value ∙ c.in_ok-marks.ensures.0 in
    let marked : (n : ℕ) → n < length c.deref-3.result.now → get_or c.deref-3.result.now n false ≡ has (edges b own) n =
    λ n lt. ap (λ xs. get_or xs n false) c.deref-3.ensures.value ∙ c.in_ok-marks.ensures.1 n (omega (arith, lt, long)) ∙ ap (λ xs. has xs n) places2 in
    c.are_referred.ensures (edges b own) marked
    ∙ ap (λ n. are_referred flags n (edges b own)) (long ∙ count)
    ∙ lives-referred block b own flags given c.in-Some.ensures.0
    (sym (c.if-not-are_empty.ensures ∙ ap (are_empty flags) places))
    (sym (c.if-not-covers.ensures ∙ ap (λ n. c.in-Some.life.out || (c.in-Some.life.edge == n)) count ∙ ap (λ s. s.out || (s.edge == length block)) c.in-Some.ensures.1))
