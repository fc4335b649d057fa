-- Events of entries; a take does what its clause says.
use Rattle.std.proofs.Common.{◌≡◌, ℕ, suc, ◌+◌, ◌-◌, ◌<◌, ◌≤◌, ◌==◌, nat_lt, nat_le, true, false, ◌&&◌, List, [], ◌∷◌, length, slice_get, refl, sym, ◌∙◌, ap, subst, arith, IsTrue, Option, Some, None}
use Rattle.std.specs.Option.{option_map_or}
use Rattle.std.proofs.lemmas.Bool.{and_from, and_parts, le-leb, lt-ltb}
use Rattle.std.proofs.lemmas.Bool.Decides.{nat_tests}
use Rattle.std.proofs.lemmas.Option.{slice_get_within, same_Some}
use Rattle.qp_chart.specs.StateTree.{has}
use Rattle.qp_model.specs.declared.record.Rec.{Rec}
use Rattle.qp_model.specs.declared.words.Word.TheVariants as word
use Rattle.qp_model.specs.declared.systems.System.{System}
use Rattle.qp_model.specs.declared.bodies.Entry as model
use Rattle.qp_model.specs.declared.bodies.Body.{Body}
use Rattle.qp_model.specs.declared.bodies.Body.TheVariants.{Took}
use Rattle.qp_model.specs.Record.{entry}
use Rattle.qp_model.specs.Told.{Event, told_took}
use Rattle.qp_model.specs.History.{Draws, touch_of, total, all_items}
use Rattle.qp_model.specs.Line.{Line}
use Rattle.qp_model.specs.Parts.{is_static, params_of}
use Rattle.qp_model.specs.Knowing.{event_of_entry, event_known, known_of, told}
use Rattle.qp_model.specs.WordLaw.{is_object, is_block}
use Rattle.qp_calls.specs.declared.tokens.HeldEntry.{HeldEntry}
use Rattle.qp_calls.specs.declared.tokens.HeldEntry.TheVariants as token
use Rattle.qp_calls.specs.Tokens.{Hold, Held, stands, with_entry}
use Rattle.qp_calls.specs.Clauses.{EntryStands, EventIs, IsEvent, entry_of}
use Rattle.qp_calls.specs.Deferring.{is_named}
use Rattle.qp_calls.proofs.HandLemmas.{held-first}
use Rattle.qp_calls.proofs.Releasing.{with-pool}
use Rattle.qp_plain_sound.specs.WordStates.{line_in, refs_in, cell_in}
use Rattle.qp_plain_sound.specs.Sound.{SoundWorld, facts_in, hands_in, is_event, names_block}
use Rattle.qp_plain_sound.specs.May.{May, IsQueue}
use Rattle.qp_plain_sound.specs.View.{view_of, event_in}
use Rattle.qp_plain_sound.specs.Step.{WorldStep, Extends, MayCome, behind, hands_before}
use Rattle.qp_plain_sound.specs.Calls.{TakeIsDone, EventIsRead, HeldHasEvent}
use Rattle.qp_plain_sound.proofs.Times.{all-stands}
use Rattle.qp_plain_sound.proofs.Standing.{held-stands, referred-out}
use Rattle.qp_plain_sound.proofs.NextLemmas.{queue_total}
use Rattle.qp_plain_sound.proofs.LaterLemmas.{front-made, front-stands}
use Rattle.qp_plain_sound.proofs.CallParts.{adds, draws-up, hands-after, line-after, event_of-same}
use Rattle.qp_plain_sound.proofs.CallQueues.{shows, room-is}
use Rattle.qp_model.proofs.LineLemmas.{same_number}

-- an entry has an event of the system
pub record HasEvent (sys : System) (lanes : List (List Rec)) (e : model.Entry) : Type 0 where
  pub its : Event
  pub is_its : event_of_entry (facts_in sys lanes) e ≡ Some its
  pub good : IsTrue (is_event sys its)

pub event-from : (sys : System) (ev : Event) → IsTrue (is_event sys ev) → IsEvent sys ev
event-from sys ev h =
    let two = and_parts (nat_le 4 ev.sig && nat_lt ev.sig (length sys.signals + 4)) (length ev.pars == params_of sys ev.sig) h in
    let first = and_parts (nat_le 4 ev.sig) (nat_lt ev.sig (length sys.signals + 4)) two.0 in
    let low : nat_le 4 ev.sig ≡ true = first.0 in
    let high : nat_lt ev.sig (length sys.signals + 4) ≡ true = first.1 in
    let params : (length ev.pars == params_of sys ev.sig) ≡ true = two.1 in
    record { from = grind (arith, nat_tests); within = grind (arith, nat_tests); params = grind (arith, nat_tests) }

pub event-to : (sys : System) (ev : Event) → IsEvent sys ev → IsTrue (is_event sys ev)
event-to sys ev h =
    and_from _ _ (and_from _ _ (le-leb 4 ev.sig h.from) (lt-ltb ev.sig (length sys.signals + 4) h.within)) (same-true (length ev.pars) (params_of sys ev.sig) h.params)
  where
    same-true : (x y : ℕ) → x ≡ y → (x == y) ≡ true
    same-true x y k = grind (arith, nat_tests)

-- static events
static-good : (sys : System) (sig : ℕ) → params_of sys sig ≡ 0 → is_static sys sig ≡ true → IsTrue (is_event sys (record { sig = sig; pars = [] }))
unfolding is_static
static-good sys sig bare h = go (slice_get sys.signals (sig - 4)) refl (and_parts _ _ h).1
  where
    go : (d : Option _) → slice_get sys.signals (sig - 4) ≡ d → option_map_or (λ x. x.fixed) d false ≡ true → IsTrue (is_event sys (record { sig = sig; pars = [] }))
    go None e k = absurd (cc)
    go (Some d) e k =
        let low : nat_le 4 sig ≡ true = (and_parts _ _ h).0 in
        let from : 4 ≤ sig = grind (arith, nat_tests) in
        let within = slice_get_within sys.signals (sig - 4) d e in
        event-to sys (record { sig = sig; pars = [] }) (record { from = from; within = omega (arith, within, from); params = sym bare })

module _ (sys : System) (lanes : List (List Rec)) (order : List ℕ) (world : SoundWorld sys lanes order) where
  -- the event of a reference that stands is what its block has
  reference-event : (p b n : ℕ) → IsTrue (is_block sys p b) → has (refs_in lanes p b).names n ≡ true → (ev : Event) × (cell_in lanes p b ≡ Some ev) × IsTrue (is_event sys ev)
  reference-event p b n h stands = go (cell_in lanes p b) refl ((world.sound.event p b h).good (referred-out sys lanes (hands_in sys lanes order) world.sound p b h n stands))
    where
      go : (o : Option Event) → cell_in lanes p b ≡ o → IsTrue (option_map_or (is_event sys) o false) → (ev : Event) × (cell_in lanes p b ≡ Some ev) × IsTrue (is_event sys ev)
      go None e k = absurd (cc)
      go (Some ev) e k = (ev, e, k)

  pub reference-has : (p b n : ℕ) → IsTrue (is_block sys p b) → has (refs_in lanes p b).names n ≡ true → HasEvent sys lanes (entry p b n)
  reference-has p b n h stands =
      let e = reference-event p b n h stands in
      record { its = e.0; is_its = (world.sound.event p b h).same n stands ∙ e.1; good = e.2 }

  -- the front entry of a queue has one
  pub front-has : (a : ℕ) (e : HeldEntry) (others : List model.Entry) → IsTrue (is_object sys a) → (line_in sys lanes a).entries ≡ entry_of e ∷ others → IsTrue (is_named sys e) → HasEvent sys lanes (entry_of e)
  unfolding entry_of event_of_entry
  front-has a (token.Static sig) others h front named =
      record { its = record { sig = sig; pars = [] }; is_its = refl; good = static-good sys sig (world.bare sig named) named }
  front-has a (token.Pool k) others h front named =
      let some : 0 < k.pool = grind (arith, nat_tests) in
      let at = front-stands sys lanes (hands_in sys lanes order) world.sound a (entry k.pool k.block k.name) others h (world.few a h) some front in
      reference-has k.pool k.block k.name at.0 at.1

  pub held-has : (h : Hold) → IsTrue (stands (Held h.pool h.block h.name) (hands_in sys lanes order)) → (ev : Event) × (cell_in lanes h.pool h.block ≡ Some ev) × IsTrue (is_event sys ev)
  held-has h stand =
      let block = all-stands (names_block sys) (Held h.pool h.block h.name) (hands_in sys lanes order) world.sound.tokens stand in
      reference-event h.pool h.block h.name block (held-stands sys lanes (hands_in sys lanes order) world.sound h.pool h.block block h.name stand)

  pub held-same : (h : Hold) → IsTrue (stands (Held h.pool h.block h.name) (hands_in sys lanes order)) → event_of_entry (facts_in sys lanes) (entry h.pool h.block h.name) ≡ cell_in lanes h.pool h.block
  held-same h stand =
      let block = all-stands (names_block sys) (Held h.pool h.block h.name) (hands_in sys lanes order) world.sound.tokens stand in
      (world.sound.event h.pool h.block block).same h.name (held-stands sys lanes (hands_in sys lanes order) world.sound h.pool h.block block h.name stand)

-- the event of an entry that has one
pub event-its : (sys : System) (lanes : List (List Rec)) (e : model.Entry) (ev : Event) → event_of_entry (facts_in sys lanes) e ≡ Some ev → event_in sys lanes e ≡ ev
unfolding event_in
event-its sys lanes e ev is = rw is refl

pub held-event : HeldHasEvent
unfolding view_of
held-event sys lanes order at spare by stops answered purses h world stand = let e = held-has sys lanes order world h stand.1 in (e.0, e.1)

pub event-read : EventIsRead
unfolding view_of
event-read sys lanes order at spare by stops answered purses h ev world stand cell =
    let e = held-has sys lanes order world h stand.1 in
    let same : e.0 ≡ ev = same_Some e.0 ev (sym e.1 ∙ cell) in
    (event-its sys lanes (entry h.pool h.block h.name) ev (held-same sys lanes order world h stand.1 ∙ cell), subst (IsEvent sys) same (event-from sys e.0 e.2))

-- The front entry is taken.
module _ (s : WorldStep) (me f l m : ℕ) (e : HeldEntry) (others : List model.Entry) (ext : Extends s me (Took f l (m + 1) (entry_of e))) (named : IsTrue (is_named s.sys e))
    (q : IsQueue s.sys s.lanes me f l m) (front : (line_in s.sys s.lanes me).entries ≡ entry_of e ∷ others) where
  abbrev took : Body
  took = Took f l (m + 1) (entry_of e)

  may : MayCome s me took
  unfolding May
  may = (m, refl, record { queue = q; others = others; front = front })

  draws : touch_of me took ≡ Draws (word.Queue me) (suc (total (word.Queue me) (all_items s.lanes)))
  draws =
      let t = queue_total s.sys s.lanes ext.world.sound.words (hands_before s) me f l m q in
      ap (Draws (word.Queue me)) (omega (arith, t))

  has_event : HasEvent s.sys s.lanes (entry_of e)
  has_event = front-has s.sys s.lanes s.order ext.world me e others q.object front named

  event_now : event_of_entry (facts_in s.sys s.more) (entry_of e) ≡ Some has_event.its
  event_now =
      event_of-same s me took ext.world ext.grown ext.says may (entry_of e)
      (front-made s.sys s.lanes (hands_before s) ext.world.sound me (entry_of e) others q.object (ext.world.few me q.object) front)
      ∙ has_event.is_its

  event_is : event_in s.sys s.more (entry_of e) ≡ has_event.its
  event_is = event-its s.sys s.more (entry_of e) has_event.its event_now

  took_told : (c : ℕ) → told (facts_in s.sys s.more) me c took ≡ told_took f l (m + 1) (entry_of e) (event_in s.sys s.more (entry_of e))
  unfolding told known_of
  took_told c = ap (λ x. record { body = took; known = event_known x }) event_now ∙ ap (told_took f l (m + 1) (entry_of e)) (sym event_is)

  took_line : line_in s.sys s.more me ≡ record { entries = (line_in s.sys s.more me).entries; f = f; l = l; m = m + 1 }
  took_line = with_counts (line-after s me took ext.world ext.grown ext.says may me q.object draws)
    where
      with_counts : {n : Line} {es : List model.Entry}
          → n ≡ record { entries = es; f = (line_in s.sys s.lanes me).f; l = (line_in s.sys s.lanes me).l; m = (line_in s.sys s.lanes me).m + 1 }
          → n ≡ record { entries = n.entries; f = f; l = l; m = m + 1 }
      with_counts is = is ∙ rw (is, q.firsts, q.lasts, q.takes) refl

  hands_now : hands_in s.sys s.more s.longer ≡ with_entry (entry_of e) (hands_before s)
  unfolding known_of
  hands_now = hands-after s me took ext.world ext.grown ext.says may

took-stands : (s : WorldStep) (e : HeldEntry) → IsTrue (is_named s.sys e) → hands_in s.sys s.more s.longer ≡ with_entry (entry_of e) (hands_before s) → EntryStands e (behind s)
unfolding view_of entry_of
took-stands s (token.Static sig) named hands = named
took-stands s (token.Pool h) named hands =
    let some : 0 < h.pool = grind (arith, nat_tests) in
    (some, subst (λ ts. IsTrue (stands (Held h.pool h.block h.name) ts)) (sym (hands ∙ with-pool h.pool h.block h.name (hands_before s) some)) (held-first h.pool h.block h.name (hands_before s)))

took-fixed : (s : WorldStep) (e : HeldEntry) → EventIs e (behind s)
unfolding view_of event_in event_of_entry
took-fixed s (token.Static sig) = refl
took-fixed s (token.Pool h) = tt

pub take-done : TakeIsDone
unfolding view_of
take-done s me f l m e others ext named q front =
    let counted = room-is s me f l m ext.world q in
    let long : length (line_in s.sys s.lanes me).entries ≡ suc (length others) = ap length front in
    let had = has_event s me f l m e others ext named q front in
    record {
      f = f;
      l = l;
      m = m + 1;
      adds = adds s me (Took f l (m + 1) (entry_of e)) ext.world ext.grown ext.says (may s me f l m e others ext named q front) ext.less _ (took_told s me f l m e others ext named q front);
      some = omega (arith, counted.0, long);
      up = draws-up s me (Took f l (m + 1) (entry_of e)) ext.world ext.grown ext.says (may s me f l m e others ext named q front) (word.Queue me) (same_number me) (draws s me f l m e others ext named q front);
      stands = took-stands s e named (hands_now s me f l m e others ext named q front);
      event = subst (IsEvent s.sys) (sym (event_is s me f l m e others ext named q front)) (event-from s.sys had.its had.good);
      fixed = took-fixed s e;
      shows = shows s me f l (m + 1) s.sys s.more s.longer s.left (took_line s me f l m e others ext named q front);
    }
