-- Calls on queues.
use Rattle.std.proofs.Common.{◌≡◌, ℕ, suc, ◌+◌, ◌-◌, ◌<◌, ◌≤◌, true, false, List, [], ◌∷◌, ◌++◌, length, drop, slice_set, refl, sym, ◌∙◌, ap, subst, arith, IsTrue, IsFalse, Option, Some, None}
use Rattle.std.specs.Option.{unwrap_or}
use Rattle.qp_model.specs.declared.record.Rec.{Rec}
use Rattle.qp_model.specs.declared.words.Word.TheVariants as word
use Rattle.qp_model.specs.declared.bodies.Entry as model
use Rattle.qp_model.specs.declared.bodies.Body.{Body}
use Rattle.qp_model.specs.declared.bodies.Body.TheVariants.{Took, Nil, Seen, Post, Lifo, NoLifo}
use Rattle.qp_model.specs.Record.{item_of}
use Rattle.qp_model.specs.History.{Draws, touch_of, drawn_on}
use Rattle.qp_model.specs.Line.{line_next}
use Rattle.qp_model.specs.declared.words.Word.{Word}
use Rattle.qp_model.specs.Sites.{ring_of}
use Rattle.qp_model.specs.WordLaw.{is_object}
use Rattle.qp_calls.specs.declared.tokens.HeldEntry.{HeldEntry}
use Rattle.qp_calls.specs.declared.answers.Claim.TheVariants as claim
use Rattle.qp_calls.specs.declared.answers.Take.TheVariants as take
use Rattle.qp_calls.specs.declared.answers.Counts as counts
use Rattle.qp_calls.specs.LaneView.{NotShown}
use Rattle.qp_calls.specs.Clauses.{ClaimsEntry, ClaimsFront, Takes, Sees, EntryStands, entry_of, refusal_of, last_nil, same_counts}
use Rattle.qp_plain_words.specs.Queue.{Queue, is_token}
use Rattle.qp_plain_sound.specs.May.{May, IsQueue}
use Rattle.qp_plain_sound.specs.Step.{MayCome}
use Rattle.qp_plain_sound.specs.WordStates.{line_in}
use Rattle.qp_plain_sound.proofs.CallQueues.{claim-done, claim-refused, lifo-done, lifo-refused, seen-done, take-tells_none}
use Rattle.qp_plain_sound.proofs.CallEvents.{take-done}
use Rattle.qp_plain.specs.declared.book.Book.{Book}
use Rattle.qp_plain.specs.declared.world.PlainWorld.{PlainWorld}
use Rattle.qp_plain.specs.Book.{BookGains, lists_of}
use Rattle.qp_plain.specs.World.{WorldHolds}
use Rattle.qp_plain.specs.WorldView.{world_view}
use Rattle.qp_plain.proofs.Calling.{step_at, view_with, extends}
use Rattle.qp_plain.proofs.Mays.{owned, refusal-may, room-is, named-good, front-good}
use Rattle.qp_plain.proofs.Turns.{now-seen, quiet, queue-moves}

module _ (w : PlainWorld) (b : Book) (r : Rec) (gains : BookGains r w.book b) (a f l m : ℕ) (q : Queue) (h : IsTrue (is_object w.sys.now a))
    (q_is : q ≡ record { line = line_in w.sys.now (lists_of w.book) a; ring = ring_of w.sys.now a }) (f_is : f ≡ q.line.f) (l_is : l ≡ q.line.l) (m_is : m ≡ q.line.m) where
  abbrev With : List Queue → Type 0
  With queues = WorldHolds w.sys.now (lists_of b) b.order.items w.pools.items w.blocks.items w.cells.items queues w.signals.items w.timers.items

  pub line_is : q.line ≡ line_in w.sys.now (lists_of w.book) a
  line_is = ap (λ x. x.line) q_is

  pub ring_is : q.ring ≡ ring_of w.sys.now a
  ring_is = ap (λ x. x.ring) q_is

  pub now : IsQueue w.sys.now (lists_of w.book) a f l m
  now = record { object = h; firsts = f_is ∙ ap (λ x. x.f) line_is; lasts = l_is ∙ ap (λ x. x.l) line_is; takes = m_is ∙ ap (λ x. x.m) line_is }

  -- a record that draws on it
  pub moved-holds : (o n : ℕ) (body : Body) (next : Queue) → item_of r ≡ record { of = o; body = body } → MayCome (step_at w b r) o body → touch_of o body ≡ Draws (word.Queue a) n
      → n ≡ suc (f + l + m) → next.ring ≡ q.ring → next.line ≡ line_next q.line body → With (slice_set w.queues.items a next)
  moved-holds o n body next says may draws count ring line =
      let queue = now in
      let sum : n ≡ suc ((line_in w.sys.now (lists_of w.book) a).f + (line_in w.sys.now (lists_of w.book) a).l + (line_in w.sys.now (lists_of w.book) a).m) = omega (arith, count, queue.firsts, queue.lasts, queue.takes) in
      queue-moves w b r gains o body says may a n next h draws sum
      (ap (λ x. record { line = x; ring = next.ring }) (line ∙ ap (λ x. line_next x body) line_is) ∙ ap (λ x. record { line = line_next (line_in w.sys.now (lists_of w.book) a) body; ring = x }) (ring ∙ ring_is))

  -- a look
  pub seen-holds : item_of r ≡ record { of = 0; body = Seen a f l m } → With w.queues.items
  unfolding May
  seen-holds says = quiet w b r gains 0 (Seen a f l m) says now (λ v. refl)

  few-in : (margin : Option ℕ) → q.ring + 1 - length q.line.entries ≤ unwrap_or margin 0 → ring_of w.sys.now a + 1 - length (line_in w.sys.now (lists_of w.book) a).entries ≤ unwrap_or margin 0
  few-in margin few =
      subst (λ x. x + 1 - length (line_in w.sys.now (lists_of w.book) a).entries ≤ unwrap_or margin 0) ring_is (subst (λ x. q.ring + 1 - length x.entries ≤ unwrap_or margin 0) line_is few)

  pub claim-not-holds : (margin : Option ℕ) → item_of r ≡ record { of = w.by; body = refusal_of margin a f l m } → q.ring + 1 - length q.line.entries ≤ unwrap_or margin 0 → With w.queues.items
  claim-not-holds margin says few = quiet w b r gains w.by (refusal_of margin a f l m) says (refusal-may w b r a f l m margin now (few-in margin few)) (λ v. off v margin)
    where
      off : (v : Word) (k : Option ℕ) → drawn_on v (touch_of w.by (refusal_of k a f l m)) ≡ false
      off v (Some k) = refl
      off v None = refl

  room-in : length q.line.entries ≤ q.ring → length (line_in w.sys.now (lists_of w.book) a).entries ≤ ring_of w.sys.now a
  room-in le = subst (λ x. length (line_in w.sys.now (lists_of w.book) a).entries ≤ x) ring_is (subst (λ x. length x.entries ≤ q.ring) line_is le)

  pub claim-holds : (e : HeldEntry) (next : Queue) → item_of r ≡ record { of = w.by; body = Post a (f + 1) l m (entry_of e) } → EntryStands e (world_view w) → length q.line.entries ≤ q.ring
      → next.ring ≡ q.ring → next.line ≡ record q.line { entries = q.line.entries ++ entry_of e ∷ []; f = q.line.f + 1 } → With (slice_set w.queues.items a next)
  unfolding May
  claim-holds e next says stand room ring line =
      moved-holds w.by (f + 1 + l + m) (Post a (f + 1) l m (entry_of e)) next says (f, refl, record { queue = now; room = room-in room; owned = owned w e stand }) refl (omega arith) ring line

  pub lifo-not-holds : w.by ≡ a → item_of r ≡ record { of = w.by; body = NoLifo a f l m } → length q.line.entries ≡ q.ring + 1 → With w.queues.items
  unfolding May
  lifo-not-holds mine says full =
      let is = room-is w a f l m now in
      let all : length (line_in w.sys.now (lists_of w.book) a).entries ≡ ring_of w.sys.now a + 1 = ap (λ x. length x.entries) (sym line_is) ∙ full ∙ ap (λ x. x + 1) ring_is in
      quiet w b r gains w.by (NoLifo a f l m) says (now, omega (arith, all, is.counted)) (λ v. refl)

  pub lifo-holds : (e : HeldEntry) (next : Queue) → w.by ≡ a → item_of r ≡ record { of = w.by; body = Lifo f (l + 1) m (entry_of e) } → EntryStands e (world_view w) → length q.line.entries ≤ q.ring
      → next.ring ≡ q.ring → next.line ≡ record q.line { entries = entry_of e ∷ q.line.entries; l = q.line.l + 1 } → With (slice_set w.queues.items a next)
  unfolding May
  lifo-holds e next mine says stand room ring line =
      moved-holds a (f + (l + 1) + m) (Lifo f (l + 1) m (entry_of e)) next (says ∙ ap (λ x. record { of = x; body = Lifo f (l + 1) m (entry_of e) }) mine)
      (l, refl, record { queue = now; room = room-in room; owned = owned w e stand }) refl (omega arith) ring line

  front-in : (e : model.Entry) (others : List model.Entry) → q.line.entries ≡ e ∷ others → (line_in w.sys.now (lists_of w.book) a).entries ≡ e ∷ others
  front-in e others front = ap (λ x. x.entries) (sym line_is) ∙ front

  pub take-holds : (e : HeldEntry) (next : Queue) → item_of r ≡ record { of = a; body = Took f l (m + 1) (entry_of e) } → q.line.entries ≡ entry_of e ∷ next.line.entries
      → next.ring ≡ q.ring → next.line ≡ record q.line { entries = next.line.entries; m = q.line.m + 1 } → With (slice_set w.queues.items a next)
  unfolding May
  take-holds e next says front ring line =
      moved-holds a (f + l + (m + 1)) (Took f l (m + 1) (entry_of e)) next says (m, refl, record { queue = now; others = next.line.entries; front = front-in (entry_of e) next.line.entries front }) refl (omega arith) ring
      (line ∙ ap (λ x. record q.line { entries = x; m = q.line.m + 1 }) (sym (ap (drop 1) front)))

  pub nil-holds : item_of r ≡ record { of = a; body = Nil f l m } → q.line.entries ≡ [] → With w.queues.items
  unfolding May
  nil-holds says empty =
      let is = room-is w a f l m now in
      let none : length (line_in w.sys.now (lists_of w.book) a).entries ≡ 0 = ap (λ x. length x.entries) (sym line_is) ∙ ap length empty in
      quiet w b r gains a (Nil f l m) says (now, omega (arith, none, is.counted)) (λ v. refl)

  module _ (less : b.here.spare + 1 ≡ w.book.here.spare) where
    pub seen-it : (c : counts.Counts) → f ≡ c.f → l ≡ c.l → m ≡ c.m → item_of r ≡ record { of = 0; body = Seen a c.f c.l c.m } → Sees a (world_view w) (view_with w b) c
    seen-it c ff ll mm says =
        now-seen w b r gains (λ v. Sees a (world_view w) v c)
        (seen-done (step_at w b r) a c (extends w b r 0 (Seen a c.f c.l c.m) gains less says)
        (record { object = h; firsts = sym ff ∙ now.firsts; lasts = sym ll ∙ now.lasts; takes = sym mm ∙ now.takes }))

    -- an entry is posted
    pub claim-it : (e : HeldEntry) (margin : Option ℕ) → item_of r ≡ record { of = w.by; body = Post a (f + 1) l m (entry_of e) } → EntryStands e (world_view w)
        → unwrap_or margin 0 < q.ring + 1 - length q.line.entries → ClaimsEntry a e margin (world_view w) (view_with w b) claim.Done
    claim-it e margin says stand enough =
        now-seen w b r gains (λ v. ClaimsEntry a e margin (world_view w) v claim.Done)
        (claim-done (step_at w b r) a f l m e margin (extends w b r w.by (Post a (f + 1) l m (entry_of e)) gains less says) stand now
        (subst (λ x. unwrap_or margin 0 < x + 1 - length (line_in w.sys.now (lists_of w.book) a).entries) ring_is (subst (λ x. unwrap_or margin 0 < q.ring + 1 - length x.entries) line_is enough)))

    -- or not
    pub claim-not : (e : HeldEntry) (margin : Option ℕ) → item_of r ≡ record { of = w.by; body = refusal_of margin a f l m }
        → q.ring + 1 - length q.line.entries ≤ unwrap_or margin 0 → ClaimsEntry a e margin (world_view w) (view_with w b) (claim.Short e f l m)
    claim-not e margin says few =
        now-seen w b r gains (λ v. ClaimsEntry a e margin (world_view w) v (claim.Short e f l m))
        (claim-refused (step_at w b r) a f l m e margin (extends w b r w.by (refusal_of margin a f l m) gains less says) now (few-in margin few))

    pub lifo-it : (e : HeldEntry) → w.by ≡ a → item_of r ≡ record { of = w.by; body = Lifo f (l + 1) m (entry_of e) } → EntryStands e (world_view w)
        → length q.line.entries ≤ q.ring → ClaimsFront e (world_view w) (view_with w b) claim.Done
    lifo-it e mine says stand room =
        now-seen w b r gains (λ v. ClaimsFront e (world_view w) v claim.Done)
        (lifo-done (step_at w b r) f l m e (extends w b r w.by (Lifo f (l + 1) m (entry_of e)) gains less says) stand
        (subst (λ x. IsQueue w.sys.now (lists_of w.book) x f l m) (sym mine) now)
        (subst (λ x. length (line_in w.sys.now (lists_of w.book) x).entries ≤ ring_of w.sys.now x) (sym mine) (room-in room)))

    pub lifo-not : (e : HeldEntry) → w.by ≡ a → item_of r ≡ record { of = w.by; body = NoLifo a f l m } → length q.line.entries ≡ q.ring + 1 → ClaimsFront e (world_view w) (view_with w b) (claim.Short e f l m)
    lifo-not e mine says full =
        now-seen w b r gains (λ v. ClaimsFront e (world_view w) v (claim.Short e f l m))
        (lifo-refused (step_at w b r) f l m e (extends w b r w.by (NoLifo w.by f l m) gains less (says ∙ ap (λ x. record { of = w.by; body = NoLifo x f l m }) (sym mine)))
        (subst (λ x. IsQueue w.sys.now (lists_of w.book) x f l m) (sym mine) now)
        (subst (λ x. length (line_in w.sys.now (lists_of w.book) x).entries ≡ ring_of w.sys.now x + 1) (sym mine) (ap (λ x. length x.entries) (sym line_is) ∙ full ∙ ap (λ x. x + 1) ring_is)))

    pub take-it : (e : HeldEntry) (others : List model.Entry) → is_token e ≡ true → item_of r ≡ record { of = a; body = Took f l (m + 1) (entry_of e) } → q.line.entries ≡ entry_of e ∷ others
        → Takes a (world_view w) (view_with w b) (take.Taken e)
    take-it e others token says front =
        now-seen w b r gains (λ v. Takes a (world_view w) v (take.Taken e))
        (take-done (step_at w b r) a f l m e others (extends w b r a (Took f l (m + 1) (entry_of e)) gains less says)
        (named-good w e token (front-good w a (entry_of e) others h (front-in (entry_of e) others front))) now (front-in (entry_of e) others front))

    pub take-none : item_of r ≡ record { of = a; body = Nil f l m } → q.line.entries ≡ [] → IsFalse (same_counts (last_nil a NotShown (world_view w).told) f l m)
        → Takes a (world_view w) (view_with w b) (take.Empty f l m)
    take-none says empty untold =
        now-seen w b r gains (λ v. Takes a (world_view w) v (take.Empty f l m))
        (take-tells_none (step_at w b r) a f l m (extends w b r a (Nil f l m) gains less says) now (ap (λ x. x.entries) (sym line_is) ∙ empty) untold)
