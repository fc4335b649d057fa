-- Calls on signals.
use Rattle.std.proofs.Common.{◌≡◌, ℕ, ◌+◌, ◌-◌, ◌/◌, ◌^◌, ◌==◌, Bool, true, false, List, slice_set, refl, sym, ◌∙◌, ap, arith, IsTrue}
use Rattle.std.specs.Int.{bit_at}
use Rattle.qp_chart.specs.StateTree.{has}
use Rattle.qp_model.specs.declared.record.Rec.{Rec}
use Rattle.qp_model.specs.declared.bodies.Body.TheVariants.{Pub, Sub, Unsub, Same}
use Rattle.qp_model.specs.Record.{item_of}
use Rattle.qp_model.specs.WordLaw.{is_object, is_signal}
use Rattle.qp_calls.specs.Clauses.{Subscribing, Unsubscribing, ReadsSubscribers}
use Rattle.qp_plain_words.specs.declared.signal.SignalWord.{SignalWord}
use Rattle.qp_plain_words.proofs.SetLemmas.{has-bit, set-put, members-put, set-take}
use Rattle.qp_plain_sound.specs.May.{May, HasSignalOps}
use Rattle.qp_plain_sound.specs.WordStates.{set_in}
use Rattle.qp_plain_sound.proofs.CallSides.{subscribe-changes, subscribe-keeps, unsubscribe-changes, unsubscribe-keeps, subscribers-read}
use Rattle.qp_plain.specs.declared.book.Book.{Book}
use Rattle.qp_plain.specs.declared.world.PlainWorld.{PlainWorld}
use Rattle.qp_plain.specs.Book.{BookGains, lists_of}
use Rattle.qp_plain.specs.Tables.{SignalIs}
use Rattle.qp_plain.specs.World.{WorldHolds}
use Rattle.qp_plain.specs.WorldView.{world_view}
use Rattle.qp_plain.proofs.Calling.{step_at, view_with, extends}
use Rattle.qp_plain.proofs.Turns.{now-seen, quiet, signal-moves}

module _ (w : PlainWorld) (b : Book) (r : Rec) (gains : BookGains r w.book b) (g n : ℕ) (q : SignalWord) (h : IsTrue (is_signal w.sys.now g)) (q_is : SignalIs q (set_in (lists_of w.book) g)) (n_is : n ≡ q.ops) where
  abbrev With : List SignalWord → Type 0
  With signals = WorldHolds w.sys.now (lists_of b) b.order.items w.pools.items w.blocks.items w.cells.items w.queues.items signals w.timers.items

  abbrev members : List ℕ
  members = (set_in (lists_of w.book) g).members

  now : HasSignalOps w.sys.now (lists_of w.book) g n
  now = record { signal = h; number = n_is ∙ q_is.ops }

  module _ (mine : IsTrue (is_object w.sys.now w.by)) where
    -- the bit of the object tells whether it is a member
    pub member : (v : Bool) → v ≡ (bit_at q.set (w.by - 1) == 1) → has members w.by ≡ v
    member v is =
        let in_range = w.holds.limits.objects w.by mine in
        has-bit members q_is.members w.by in_range.0 in_range.1 ∙ ap (λ x. bit_at x (w.by - 1) == 1) (sym q_is.set) ∙ sym is

    pub put-holds : (next : SignalWord) → item_of r ≡ record { of = w.by; body = Sub g n } → has members w.by ≡ false → next.ops ≡ q.ops + 1 → next.set ≡ q.set + 2 ^ w.by / 2
        → With (slice_set w.signals.items (g - 4) next)
    unfolding May
    put-holds next says out ops set =
        let in_range = w.holds.limits.objects w.by mine in
        signal-moves w b r gains w.by (Sub g n) says (now, out, mine) g n next h refl (n_is ∙ q_is.ops)
        (record {
          ops = ops ∙ ap (λ x. x + 1) q_is.ops;
          set = set ∙ ap (λ x. x + 2 ^ w.by / 2) q_is.set ∙ sym (set-put members w.by out);
          members = members-put members w.by in_range.0 in_range.1 q_is.members out;
        })

    pub take-holds : (next : SignalWord) → item_of r ≡ record { of = w.by; body = Unsub g n } → has members w.by ≡ true → next.ops ≡ q.ops + 1 → next.set + 2 ^ w.by / 2 ≡ q.set
        → With (slice_set w.signals.items (g - 4) next)
    unfolding May
    take-holds next says there ops set =
        let t = set-take members w.by q_is.members there in
        signal-moves w b r gains w.by (Unsub g n) says (now, there) g n next h refl (n_is ∙ q_is.ops)
        (record {
          ops = ops ∙ ap (λ x. x + 1) q_is.ops;
          set = omega (arith, set, t.bits, q_is.set);
          members = t.members;
        })

  pub same-holds : item_of r ≡ record { of = w.by; body = Same g n } → With w.signals.items
  unfolding May
  same-holds says = quiet w b r gains w.by (Same g n) says now (λ v. refl)

  pub read-holds : item_of r ≡ record { of = w.by; body = Pub g n q.set } → With w.signals.items
  unfolding May
  read-holds says = quiet w b r gains w.by (Pub g n q.set) says (now, q_is.set) (λ v. refl)

  module _ (less : b.here.spare + 1 ≡ w.book.here.spare) where
    pub put-it : IsTrue (is_object w.sys.now w.by) → item_of r ≡ record { of = w.by; body = Sub g n } → has members w.by ≡ false → Subscribing g (world_view w) (view_with w b) true
    put-it mine says out = now-seen w b r gains (λ v. Subscribing g (world_view w) v true) (subscribe-changes (step_at w b r) g n (extends w b r w.by (Sub g n) gains less says) now mine out)

    pub put-not : item_of r ≡ record { of = w.by; body = Same g n } → has members w.by ≡ true → Subscribing g (world_view w) (view_with w b) false
    put-not says there = now-seen w b r gains (λ v. Subscribing g (world_view w) v false) (subscribe-keeps (step_at w b r) g n (extends w b r w.by (Same g n) gains less says) now there)

    pub take-it : item_of r ≡ record { of = w.by; body = Unsub g n } → has members w.by ≡ true → Unsubscribing g (world_view w) (view_with w b) true
    take-it says there = now-seen w b r gains (λ v. Unsubscribing g (world_view w) v true) (unsubscribe-changes (step_at w b r) g n (extends w b r w.by (Unsub g n) gains less says) now there)

    pub take-not : item_of r ≡ record { of = w.by; body = Same g n } → has members w.by ≡ false → Unsubscribing g (world_view w) (view_with w b) false
    take-not says out = now-seen w b r gains (λ v. Unsubscribing g (world_view w) v false) (unsubscribe-keeps (step_at w b r) g n (extends w b r w.by (Same g n) gains less says) now out)

    pub read-it : item_of r ≡ record { of = w.by; body = Pub g n q.set } → ReadsSubscribers g (world_view w) (view_with w b) q.set
    read-it says = now-seen w b r gains (λ v. ReadsSubscribers g (world_view w) v q.set) (subscribers-read (step_at w b r) g n q.set (extends w b r w.by (Pub g n q.set) gains less says) now q_is.set)
