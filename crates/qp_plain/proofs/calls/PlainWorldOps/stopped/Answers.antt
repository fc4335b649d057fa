use Rattle.std.proofs.Common.{◌≡◌, ◌≢◌, ◌==◌, ℕ, suc, Bool, true, false, if◌then◌else◌, List, ◌∷◌, length, refl, sym, ◌∙◌, ap, subst, arith, Some, None}
use Rattle.std.proofs.lemmas.Bool.Decides.{nat_tests}
use Rattle.qp_calls.specs.LaneView.{codes_in}
use Rattle.qp_plain_sound.specs.View.{view_of}
use Rattle.qp_plain.specs.declared.book.Book.{Book}
use Rattle.qp_plain.specs.declared.world.PlainWorld.{PlainWorld}
use Rattle.qp_plain.specs.Book.{lists_of, purses_of}
use Rattle.qp_plain.specs.World.{WorldHolds}
use Rattle.qp_plain.specs.WorldView.{world_view}
use Rattle.qp_plain.proofs.Calling.{view_with, purses-same}
use Rattle.qp_plain.specs.Book.{BookAnswers, logs_of}
use Rattle.qp_plain.specs.World.{StopIs}
use Rattle.qp_plain.proofs.Stopping.{stop-asked, nothing-handed, purses-codeless, all-answered}
use Rattle.qp_calls.specs.Clauses.{Stopped}
use Rattle.qp_plain.proofs.calls.PlainWorldOps.stopped.Goals as goal

moved : (w : PlainWorld) (b : Book) → lists_of b ≡ lists_of w.book → b.order.items ≡ w.book.order.items
    → WorldHolds w.sys.now (lists_of b) b.order.items w.pools.items w.blocks.items w.cells.items w.queues.items w.signals.items w.timers.items
moved w b lists order =
    subst (λ ls. WorldHolds w.sys.now ls b.order.items w.pools.items w.blocks.items w.cells.items w.queues.items w.signals.items w.timers.items) (sym lists)
    (subst (λ xs. WorldHolds w.sys.now (lists_of w.book) xs w.pools.items w.blocks.items w.cells.items w.queues.items w.signals.items w.timers.items) (sym order) w.holds)

same-view : (w : PlainWorld) (b : Book) (stops answered : List ℕ) → lists_of b ≡ lists_of w.book → b.order.items ≡ w.book.order.items → b.at ≡ w.book.at → b.here.spare ≡ w.book.here.spare
    → b.here.stops.list ≡ stops → b.here.answered.list ≡ answered → b.others.items ≡ w.book.others.items
    → view_with w b ≡ view_of w.sys.now (lists_of w.book) w.book.order.items w.book.at w.book.here.spare w.by stops answered (purses_of w.book)
same-view w b stops answered lists order at spare s a others =
    ap (λ x. view_of w.sys.now x b.order.items b.at b.here.spare w.by b.here.stops.list b.here.answered.list (purses_of b)) lists
    ∙ ap (λ x. view_of w.sys.now (lists_of w.book) x b.at b.here.spare w.by b.here.stops.list b.here.answered.list (purses_of b)) order
    ∙ ap (λ x. view_of w.sys.now (lists_of w.book) w.book.order.items x b.here.spare w.by b.here.stops.list b.here.answered.list (purses_of b)) at
    ∙ ap (λ x. view_of w.sys.now (lists_of w.book) w.book.order.items w.book.at x w.by b.here.stops.list b.here.answered.list (purses_of b)) spare
    ∙ ap (λ x. view_of w.sys.now (lists_of w.book) w.book.order.items w.book.at w.book.here.spare w.by x b.here.answered.list (purses_of b)) s
    ∙ ap (λ x. view_of w.sys.now (lists_of w.book) w.book.order.items w.book.at w.book.here.spare w.by stops x (purses_of b)) a
    ∙ ap (λ x. view_of w.sys.now (lists_of w.book) w.book.order.items w.book.at w.book.here.spare w.by stops answered x) (purses-same w.book b others at)

nothing : (w : PlainWorld) (b : Book) → BookAnswers w.stop w.book b → w.stop ≡ 0 → Stopped (world_view w) (view_with w b) None
unfolding view_of
nothing w b h none =
    let empty = nothing-handed w.book w.book.within (subst (λ x. StopIs x (logs_of w.book)) none w.stops) in (
      same-view w b w.book.here.stops.list (w.stop ∷ w.book.here.answered.list) h.lists h.order h.at h.spare h.stops h.answered h.others
          ∙ ap (λ n. view_of w.sys.now (lists_of w.book) w.book.order.items w.book.at w.book.here.spare w.by w.book.here.stops.list (n ∷ w.book.here.answered.list) (purses_of w.book)) none,
      empty.0,
      empty.1,
      purses-codeless w.book (subst (λ x. StopIs x (logs_of w.book)) none w.stops),
    )

is-set : (n : ℕ) → (n == 0) ≡ false → n ≢ 0
is-set n e zero = let wrong : (0 == 0) ≡ false = subst (λ k. (k == 0) ≡ false) zero e in absurd (cc)

found : (w : PlainWorld) (b : Book) → BookAnswers w.stop w.book b → (w.stop == 0) ≡ false → Stopped (world_view w) (view_with w b) (Some w.stop)
unfolding view_of
found w b h some = (
  same-view w b w.book.here.stops.list (w.stop ∷ w.book.here.answered.list) h.lists h.order h.at h.spare h.stops h.answered h.others
      ∙ ap (λ z. record (world_view w) { answered = if z then codes_in w.book.here.answered.list else w.stop ∷ codes_in w.book.here.answered.list; asked = suc (length w.book.here.answered.list) }) some,
  grind (arith, nat_tests, some),
  w.stops.few,
  all-answered w.stop w.book (is-set w.stop some) w.book.within w.stops,
)

either : (w : PlainWorld) (b : Book) → BookAnswers w.stop w.book b → (z : Bool) → (w.stop == 0) ≡ z → Stopped (world_view w) (view_with w b) (if z then None else Some w.stop)
either w b h true e = nothing w b h (grind (arith, nat_tests, e))
either w b h false e = found w b h e

pub invariant_of-self : goal.invariant_of-self
invariant_of-self c =
    let w = c.args.self.now in
    let h = c.answer.ensures in
    record { holds = moved w c.answer.new.self h.lists h.order; stops = stop-asked w.stop w.book c.answer.new.self h w.book.within w.stops }

pub returns : goal.returns
returns c =
    let w = c.args.self.now in
    subst (Stopped (world_view w) (view_with w c.answer.new.self)) (sym c.code_of.ensures) (either w c.answer.new.self c.answer.ensures (w.stop == 0) refl)
