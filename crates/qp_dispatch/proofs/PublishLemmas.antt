-- A handler's publication, part by part.
use Rattle.std.proofs.Common.{◌≡◌, ℕ, zero, suc, ◌<◌, Bool, true, false, List, [], ◌∷◌, ◌++◌, map, length, refl, sym, ◌∙◌, ap, subst, arith, Option, Some, None, append_assoc, append-nil, is_some, Ok}
use Rattle.std.specs.Prelude.{pos}
use Rattle.std.specs.List.{list_all}
use Rattle.std.specs.Option.{unwrap_or}
use Rattle.std.proofs.lemmas.Bool.{and_parts}
use Rattle.std.proofs.lemmas.List.{map-append}
use Rattle.qp_chart.specs.Expr.{Names}
use Rattle.qp_chart.specs.declared.expression.Bound.{Bound}
use Rattle.qp_chart.specs.declared.actions.Plain.TheVariants as action
use Rattle.qp_chart.specs.Task as task
use Rattle.qp_model.specs.declared.systems.System.{System}
use Rattle.qp_model.specs.declared.bodies.Entry as model
use Rattle.qp_model.specs.declared.bodies.Body.TheVariants as item
use Rattle.qp_model.specs.Told.{Told, Event, plain, raised, for_object}
use Rattle.qp_model.specs.Calls as call
use Rattle.qp_model.specs.Calls.{Calls, Answer, Granted, Refused, AtPool, deed_of, ok_after, values_of}
use Rattle.qp_model.specs.Parts.{is_static, sizes_of, members}
use Rattle.qp_model.specs.Sites.{ring_of}
use Rattle.qp_model.specs.WordLaw.{is_object}
use Rattle.qp_model.specs.Shapes.{Fits, NoBlockFor, Publishes, Posts, PostsOne, PublishesFirst, PublishesLast, raising, restoring}
use Rattle.qp_model.specs.Deferral.{KeepsDeferred}
use Rattle.qp_model.specs.Pieces.{Point, tell, with_points, pieces_of}
use Rattle.qp_model.specs.Acts.{Moment}
use Rattle.qp_model.specs.Step.{DoesLeft, tasks_left, publishing_left}
use Rattle.qp_model.specs.Standing.{AgendaReaches}
use Rattle.qp_model.proofs.ReachLemmas.{reaches-call, reaches-publish, reaches-post, reaches-published, does_left-asserted, does_left-cut}
use Rattle.qp_calls.specs.declared.tokens.HeldEntry.{HeldEntry}
use Rattle.qp_calls.specs.declared.publication.Publication.{Publication}
use Rattle.qp_calls.specs.declared.publication.Begun.{Begun}
use Rattle.qp_calls.specs.declared.publication.Begun.TheVariants as begun
use Rattle.qp_calls.specs.declared.did.Did.{Did}
use Rattle.qp_calls.specs.declared.did.Did.TheVariants as did
use Rattle.qp_calls.specs.Tokens.{with_entry, without_entry}
use Rattle.qp_calls.specs.Counting.{times}
use Rattle.qp_calls.specs.LaneView.{LaneView, Grows, ceiling_in}
use Rattle.qp_calls.specs.Notes.{spills_told}
use Rattle.qp_calls.specs.Clauses.{EntryStands, entry_of}
use Rattle.qp_calls.specs.Entries.{Unmade}
use Rattle.qp_calls.specs.Raising.{raised_to}
use Rattle.qp_calls.specs.Publishing.{MembersAreObjects, Begins, BeginsGoing, PublishingGoesOn, GoesOnGoing, GoesOnAssert, EndsGoing}
use Rattle.qp_calls.specs.Deferring.{ChangeAlike, is_named, kept_in}
use Rattle.qp_calls.proofs.Announcing.{members-none}
use Rattle.qp_calls.proofs.CountLemmas.{count-with, count-without, stand-same, stands-in, stands-named}
use Rattle.qp_calls.proofs.NoteLemmas.{last-snoc, ceiling-append}
use Rattle.qp_dispatch.specs.declared.lasting.Lasting.{Lasting}
use Rattle.qp_dispatch.specs.declared.part.Under.{Under}
use Rattle.qp_dispatch.specs.declared.work.Work.{Work}
use Rattle.qp_dispatch.specs.Lasts.{config_of, actor_of, entry_in, moment_of_work, names_at}
use Rattle.qp_dispatch.specs.Acting.{ActionKeeps}
use Rattle.qp_dispatch.specs.Parts.{PartGoes, Asserts, IsPublishing, held_by, publishing_of}
use Rattle.qp_dispatch.proofs.Quiet.{Quiet, no_block-quiet, one-quiet, quiet-append, quiet-ceiling, quiet-drops, quiet-new, quiet-spillless, spills-append, Spillless, spillless-append}
use Rattle.qp_dispatch.proofs.Rising.{mild-rise, one-mild}
use Rattle.qp_dispatch.proofs.CallLemmas.{stand-risen, value-no, value-yes}
use Rattle.qp_dispatch.proofs.ActLemmas.{calm-quiet, counts-join, last-asserted, ok-value, stand-change}
use Rattle.qp_dispatch.proofs.PartLemmas.{stand-without}
use Rattle.qp_model.proofs.ListLemmas.{list_all-front, all-push}

-- A publication's notes are those of any object.

first-any : (o : ℕ) (fixed : Bool) (sizes : List ℕ) (sig : ℕ) (pars : List ℕ) (reserve : Option ℕ) (e : model.Entry) (former : ℕ) (ms : List ℕ) (g : List Told) → 0 < o
    → PublishesFirst fixed sizes 1 sig pars reserve e former ms g → PublishesFirst fixed sizes o sig pars reserve e former ms g
unfolding PublishesFirst raising
first-any zero fixed sizes sig pars reserve e former ms g some h = absurd (omega (arith, some))
first-any (suc o) fixed sizes sig pars reserve e former [] g some h = h
first-any (suc o) fixed sizes sig pars reserve e former (a ∷ others) g some h = h

last-any : (o : ℕ) (e : model.Entry) (former : ℕ) (ms : List ℕ) (g : List Told) → 0 < o → PublishesLast 1 e former ms g → PublishesLast o e former ms g
unfolding PublishesLast restoring
last-any zero e former ms g some h = absurd (omega (arith, some))
last-any (suc o) e former [] g some h = h
last-any (suc o) e former (a ∷ others) g some h = h

-- What the lane has after them.

raised-ceiling : (o c : ℕ) (ms : List ℕ) → ceiling_in c (map (for_object o) (raising 1 c ms)) ≡ unwrap_or (raised_to c ms) c
unfolding raising ceiling_in
raised-ceiling o c [] = refl
raised-ceiling o c (a ∷ others) = refl

raising-calm : (c : ℕ) (ms : List ℕ) → Spillless (raising 1 c ms)
unfolding raising
raising-calm c [] = refl
raising-calm c (a ∷ others) = refl

restoring-calm : (c : ℕ) (ms : List ℕ) → Spillless (restoring 1 c ms)
unfolding restoring
restoring-calm c [] = refl
restoring-calm c (a ∷ others) = refl

-- quiet records, and the ceiling raised
record Raises (c : ℕ) (ms : List ℕ) (g : List Told) : Type 0 where
  front : List Told
  quiet : Quiet front
  is : g ≡ front ++ raising 1 c ms

raises-first : (fixed : Bool) (sizes : List ℕ) (sig : ℕ) (pars : List ℕ) (reserve : Option ℕ) (e : model.Entry) (c : ℕ) (ms : List ℕ) (g : List Told)
    → PublishesFirst fixed sizes 1 sig pars reserve e c ms g → Raises c ms g
unfolding PublishesFirst
raises-first fixed sizes sig pars reserve e c ms g h = record {
  front = h.0 ++ plain (item.Pub sig h.1 h.2) ∷ [];
  quiet = quiet-append h.0 (plain (item.Pub sig h.1 h.2) ∷ []) (quiet-new fixed sizes sig pars reserve h.0 e h.3) refl;
  is = h.5 ∙ sym (append_assoc h.0 (plain (item.Pub sig h.1 h.2) ∷ []) (raising 1 c ms));
}

first-lane : (c : ℕ) (ms : List ℕ) (g : List Told) (v w : LaneView) → Raises c ms g → Grows g v w → c ≡ ceiling_in 0 v.told → unwrap_or (raised_to c ms) c ≡ ceiling_in 0 w.told
first-lane c ms g v w h grows is =
    let told : w.told ≡ (v.told ++ map (for_object v.by) h.front) ++ map (for_object v.by) (raising 1 c ms) =
    grows.told ∙ ap (λ y. v.told ++ map (for_object v.by) y) h.is ∙ ap (λ y. v.told ++ y) (map-append (for_object v.by) h.front (raising 1 c ms))
    ∙ sym (append_assoc v.told (map (for_object v.by) h.front) (map (for_object v.by) (raising 1 c ms))) in
    let before : ceiling_in 0 (v.told ++ map (for_object v.by) h.front) ≡ c = quiet-ceiling v.by v.told h.front h.quiet ∙ sym is in
    sym
    (ap (λ y. ceiling_in 0 y) told ∙ ceiling-append 0 (v.told ++ map (for_object v.by) h.front) (map (for_object v.by) (raising 1 c ms))
    ∙ ap (λ y. ceiling_in y (map (for_object v.by) (raising 1 c ms))) before ∙ raised-ceiling v.by c ms)

first-spills : (c : ℕ) (ms : List ℕ) (g : List Told) (v w : LaneView) → Raises c ms g → Grows g v w → spills_told v.told ≡ false → spills_told w.told ≡ false
first-spills c ms g v w h grows none =
    let calm : Spillless g = subst (λ x. Spillless x) (sym h.is) (spillless-append h.front (raising 1 c ms) (quiet-spillless h.front h.quiet) (raising-calm c ms)) in
    rw grows.told (spills-append v.by v.told g none calm)

-- the ceiling restored, and quiet records
record Restores (c : ℕ) (ms : List ℕ) (g : List Told) : Type 0 where
  rel : List Told
  quiet : Quiet rel
  is : g ≡ restoring 1 c ms ++ rel

restores-last : (e : model.Entry) (c : ℕ) (ms : List ℕ) (g : List Told) → PublishesLast 1 e c ms g → Restores c ms g
unfolding PublishesLast
restores-last e c ms g h = record { rel = h.0; quiet = quiet-drops e h.0 h.1; is = h.2 }

-- whether the ceiling was raised
restored-ceiling : (o c x y : ℕ) (ms : List ℕ) (raised : Bool) → raised ≡ is_some (raised_to c ms) → (raised ≡ true → y ≡ c) → (raised ≡ false → y ≡ x)
    → ceiling_in x (map (for_object o) (restoring 1 c ms)) ≡ y
unfolding restoring ceiling_in
restored-ceiling o c x y [] raised is was not = sym (not is)
restored-ceiling o c x y (a ∷ others) raised is was not = sym (was is)

last-lane : (c x y : ℕ) (ms : List ℕ) (raised : Bool) (g : List Told) (v w : LaneView) → Restores c ms g → Grows g v w → raised ≡ is_some (raised_to c ms) → (raised ≡ true → y ≡ c)
    → (raised ≡ false → y ≡ x) → x ≡ ceiling_in 0 v.told → y ≡ ceiling_in 0 w.told
last-lane c x y ms raised g v w h grows is was not here =
    let told : w.told ≡ (v.told ++ map (for_object v.by) (restoring 1 c ms)) ++ map (for_object v.by) h.rel =
    grows.told ∙ ap (λ z. v.told ++ map (for_object v.by) z) h.is ∙ ap (λ z. v.told ++ z) (map-append (for_object v.by) (restoring 1 c ms) h.rel)
    ∙ sym (append_assoc v.told (map (for_object v.by) (restoring 1 c ms)) (map (for_object v.by) h.rel)) in
    sym
    (ap (λ z. ceiling_in 0 z) told ∙ quiet-ceiling v.by (v.told ++ map (for_object v.by) (restoring 1 c ms)) h.rel h.quiet
    ∙ ceiling-append 0 v.told (map (for_object v.by) (restoring 1 c ms)) ∙ ap (λ z. ceiling_in z (map (for_object v.by) (restoring 1 c ms))) (sym here)
    ∙ restored-ceiling v.by c x y ms raised is was not)

last-spills : (c : ℕ) (ms : List ℕ) (g : List Told) (v w : LaneView) → Restores c ms g → Grows g v w → spills_told v.told ≡ false → spills_told w.told ≡ false
last-spills c ms g v w h grows none =
    let calm : Spillless g = subst (λ x. Spillless x) (sym h.is) (spillless-append (restoring 1 c ms) h.rel (restoring-calm c ms) (quiet-spillless h.rel h.quiet)) in
    rw grows.told (spills-append v.by v.told g none calm)

-- What the object holds.

one-more : (es : List HeldEntry) (e : HeldEntry) (v w : LaneView) → w.hands ≡ with_entry (entry_of e) v.hands → ChangeAlike (map entry_of (es ++ [])) (map entry_of (es ++ e ∷ [])) v w
unfolding times
one-more es e v w hands t =
    let more = count-with t (entry_of e) v.hands in
    let alone = count-with t (entry_of e) [] in
    rw hands (omega (arith, more, alone, counts-join t es [], counts-join t es (e ∷ [])))

pub one-less : (es : List HeldEntry) (e : HeldEntry) (v w : LaneView) → EntryStands e v → w.hands ≡ without_entry (entry_of e) v.hands → ChangeAlike (map entry_of (es ++ e ∷ [])) (map entry_of (es ++ [])) v w
unfolding times
one-less es e v w stands hands t =
    let less = count-without t (entry_of e) v.hands (stands-in e v stands) in
    let alone = count-with t (entry_of e) [] in
    rw hands (omega (arith, less, alone, counts-join t es [], counts-join t es (e ∷ [])))

keeps-same : (k : Lasting) (n : ℕ) → ActionKeeps k (record k { ok = pos n })
keeps-same k n = record { leaf = refl; room = refl; few = λ few. few }

-- The call.

pub publish-deed : (me : ℕ) (k : Lasting) (work : Work) (sig : ℕ) (pars given : List Bound) (reserve : Option ℕ) (env : Names) (ev : Event) → given ≡ pars → env ≡ names_at me k work
    → ev ≡ record { sig = sig; pars = values_of env given } → deed_of (names_at me k work) (action.Publish sig pars reserve) ≡ Calls (call.Publish ev.sig ev.pars reserve)
unfolding deed_of
publish-deed me k work sig pars given reserve env ev list same is = rw (is, list, same) refl

module _ (me : ℕ) (k : Lasting) (work : Work) (sig : ℕ) (pars : List Bound) (reserve : Option ℕ) (ev : Event) (v w : LaneView)
    (deed : deed_of (names_at me k work) (action.Publish sig pars reserve) ≡ Calls (call.Publish ev.sig ev.pars reserve)) (mine : v.by ≡ me) (some : 0 < me) where
  -- it begins
  pub goes-publish : (p : Publication) (c : ℕ) → BeginsGoing ev reserve c p v w
      → PartGoes me (moment_of_work work) (task.Do (action.Publish sig pars reserve) ∷ []) [] c (unwrap_or (raised_to p.former (members p.all)) c) k None k (Some (record { publication = p; ceiling = c })) v w
  unfolding publishing_left
  goes-publish p c h =
      let fits : PublishesFirst (is_static v.sys ev.sig) (sizes_of v.sys) 1 ev.sig ev.pars reserve (entry_of p.entry) p.former (members p.all) h.g =
      subst (λ x. PublishesFirst (is_static v.sys ev.sig) (sizes_of v.sys) 1 ev.sig ev.pars reserve (entry_of p.entry) x (members p.all) h.g) (sym h.former) h.fits in
      let raises = raises-first (is_static v.sys ev.sig) (sizes_of v.sys) ev.sig ev.pars reserve (entry_of p.entry) c (members p.all) h.g h.fits in
      let alike = one-more k.list.entries.items p.entry v w h.hands in
      let left : members p.left ≡ members p.all = ap members h.left in
      record {
        g = h.g;
        grows = h.grows;
        reaches = λ chart ts leaf.
            rw (append-nil (tell h.g), left)
            (reaches-publish v.sys (actor_of me chart k) (moment_of_work work) ts leaf (config_of k) (action.Publish sig pars reserve) ev.sig ev.pars reserve
            (record { entry = entry_of p.entry; former = p.former; members = members p.all }) h.g deed
            (first-any me (is_static v.sys ev.sig) (sizes_of v.sys) ev.sig ev.pars reserve (entry_of p.entry) p.former (members p.all) h.g some fits));
        lane = λ here. rw h.former (first-lane c (members p.all) h.g v w raises h.grows here);
        spills = first-spills c (members p.all) h.g v w raises h.grows;
        keeps = record { leaf = refl; room = refl; few = λ few. few };
        hands = alike;
        stand = λ others all.
            stand-change (k.list.entries.items ++ []) (k.list.entries.items ++ p.entry ∷ []) others v w alike
            (all-push (λ e. is_named w.sys e) k.list.entries.items p.entry
            (rw h.grows.sys (list_all-front (λ e. is_named v.sys e) k.list.entries.items [] (list_all-front (λ e. is_named v.sys e) (k.list.entries.items ++ []) others all.named))) (stands-named p.entry w h.stands))
            h.grows.sys all;
        publishing = (rw h.left h.objects, sym h.former);
      }

  -- or there were too few blocks
  none-fits : (answer : Answer) (g : List Told) → NoBlockFor (is_static v.sys ev.sig) (sizes_of v.sys) ev.pars reserve answer g
      → Fits v.sys v.by (entry_in work.entry) (call.Publish ev.sig ev.pars reserve) answer g × (pieces_of (call.Publish ev.sig ev.pars reserve) g ≡ tell g)
  unfolding Fits Publishes NoBlockFor pieces_of with_points
  none-fits answer g h = by reserve answer h
    where
      by : (r : Option ℕ) (answer : Answer) → NoBlockFor (is_static v.sys ev.sig) (sizes_of v.sys) ev.pars r answer g
          → Publishes (is_static v.sys ev.sig) (sizes_of v.sys) (ring_of v.sys) v.by ev.sig ev.pars r answer g × (with_points g ≡ tell g)
      by None AtPool h = (h, rw h.5 refl)
      by (Some r) Refused h = (h, rw h.5 refl)
      by r _ h = absurd h

  unmade-call : (answer : Answer) (g : List Told) → NoBlockFor (is_static v.sys ev.sig) (sizes_of v.sys) ev.pars reserve answer g → KeepsDeferred k.list.entries.capacity (call.Publish ev.sig ev.pars reserve) g (kept_in k.list) (kept_in k.list)
  unfolding KeepsDeferred
  unmade-call answer g h = refl

  pub goes-refused : (c n : ℕ) → Unmade (is_static v.sys ev.sig) ev reserve (did.Value n) v w
      → PartGoes me (moment_of_work work) (task.Do (action.Publish sig pars reserve) ∷ []) (Point ∷ []) c c k None (record k { ok = pos n }) None v w
  goes-refused c n h =
      let fit = none-fits h.answer h.g h.none in
      let quiet = no_block-quiet (is_static v.sys ev.sig) (sizes_of v.sys) ev.pars reserve h.answer h.g h.none in
      let calm = calm-quiet h.g v w h.grows quiet in
      let here : Fits v.sys me (entry_in work.entry) (call.Publish ev.sig ev.pars reserve) h.answer h.g =
      subst (λ o. Fits v.sys o (entry_in work.entry) (call.Publish ev.sig ev.pars reserve) h.answer h.g) mine fit.0 in
      record {
        g = h.g;
        grows = h.grows;
        reaches = λ chart ts leaf.
            subst (λ o. AgendaReaches v.sys (actor_of me chart k) (moment_of_work work) (tasks_left (task.Do (action.Publish sig pars reserve) ∷ ts) leaf) (config_of k) (tell h.g ++ Point ∷ []) (tasks_left ts leaf) (record (config_of k) { ok = o })) (ok-value h.answer n k.ok h.said)
            (subst (λ ps. AgendaReaches v.sys (actor_of me chart k) (moment_of_work work) (tasks_left (task.Do (action.Publish sig pars reserve) ∷ ts) leaf) (config_of k) (ps ++ Point ∷ []) (tasks_left ts leaf) (record (config_of k) { ok = ok_after h.answer k.ok })) fit.1
            (reaches-call v.sys (actor_of me chart k) (moment_of_work work) ts leaf (config_of k) (action.Publish sig pars reserve) (call.Publish ev.sig ev.pars reserve) h.answer h.g (kept_in k.list) deed here
            (unmade-call h.answer h.g h.none) (value-yes h.answer (did.Value n) h.said refl)));
        lane = λ at. at ∙ sym calm.ceiling;
        spills = calm.spills;
        keeps = keeps-same k n;
        hands = λ t. rw h.hands refl;
        stand = λ others all. stand-same (held_by k None ++ others) v w all h.hands h.grows.sys;
        publishing = tt;
      }

  pub asserts-publish : (code : ℕ) → Unmade (is_static v.sys ev.sig) ev reserve (did.Assert code) v w
      → Asserts me (moment_of_work work) (task.Do (action.Publish sig pars reserve) ∷ []) code k None k None v w
  unfolding tasks_left
  asserts-publish code h =
      let fit = none-fits h.answer h.g h.none in
      let last = last-asserted v.sys v.by (entry_in work.entry) (call.Publish ev.sig ev.pars reserve) h.answer code h.g v w fit.0 h.said h.grows in
      let here : Fits v.sys me (entry_in work.entry) (call.Publish ev.sig ev.pars reserve) h.answer h.g =
      subst (λ o. Fits v.sys o (entry_in work.entry) (call.Publish ev.sig ev.pars reserve) h.answer h.g) mine fit.0 in
      record {
        g = h.g;
        grows = h.grows;
        does = λ chart ts leaf.
            subst (λ ps. DoesLeft v.sys (actor_of me chart k) (moment_of_work work) None [] (task.Do (action.Publish sig pars reserve) ∷ ts) (config_of k) ps None) fit.1
            (does_left-asserted v.sys (actor_of me chart k) (moment_of_work work) ts leaf (config_of k) (action.Publish sig pars reserve) (call.Publish ev.sig ev.pars reserve) h.answer h.g (kept_in k.list) deed here
            (unmade-call h.answer h.g h.none) (value-no h.answer (did.Assert code) h.said refl));
        some = last.0;
        last = last.1;
        stand = λ others all. stand-same (held_by k None ++ others) v w all h.hands h.grows.sys;
      }

-- Its posts, and its end.

objects-rest : (sys : System) (a b to : ℕ) (others : List ℕ) → members a ≡ to ∷ others → members b ≡ others → MembersAreObjects sys a → MembersAreObjects sys b
objects-rest sys a b to others first rest all =
    let here : list_all (λ x. is_object sys x) (to ∷ others) ≡ true = subst (λ ms. list_all (λ x. is_object sys x) ms ≡ true) first all in
    rw rest (and_parts (is_object sys to) (list_all (λ x. is_object sys x) others) here).1

-- the highest member left was posted to
pub goes-post : (me c : ℕ) (at : Moment) (k : Lasting) (u : Under) (q : Publication) (v w : LaneView) → IsPublishing (Some u) v → GoesOnGoing u.publication q v w
    → PartGoes me at [] (Point ∷ []) c c k (Some u) k (Some (record { publication = q; ceiling = u.ceiling })) v w
goes-post me c at k u q v w publishing h =
    let p = u.publication in
    let calm = calm-quiet h.g v w h.grows (one-quiet (ring_of v.sys h.to) (entry_of p.entry) h.to Granted h.g h.fits) in
    let entry : q.entry ≡ p.entry = ap (λ (x : Publication). x.entry) h.same in
    let all_is : q.all ≡ p.all = ap (λ (x : Publication). x.all) h.same in
    let former : q.former ≡ p.former = ap (λ (x : Publication). x.former) h.same in
    record {
      g = h.g;
      grows = h.grows;
      reaches = λ chart ts leaf.
          rw (h.first, h.rest, entry, all_is, former)
          (reaches-post v.sys (actor_of me chart k) at ts leaf (config_of k) (publishing_of u) h.to h.others h.g h.fits);
      lane = λ here. here ∙ sym calm.ceiling;
      spills = calm.spills;
      keeps = record { leaf = refl; room = refl; few = λ few. few };
      hands = λ t. rw (h.hands, entry) refl;
      stand = λ others all. rw entry (stand-same (held_by k (Some u) ++ others) v w all h.hands h.grows.sys);
      publishing = (subst (λ s. MembersAreObjects s q.left) (sym h.grows.sys) (objects-rest v.sys p.left q.left h.to h.others h.first h.rest publishing.0), publishing.1 ∙ sym former);
    }

-- or its queue had no free entry
pub asserts-post : (me code : ℕ) (at : Moment) (k : Lasting) (u : Under) (v w : LaneView) → GoesOnAssert u.publication (did.Assert code) v w → Asserts me at [] code k (Some u) k None v w
unfolding publishing_left PostsOne Posts
asserts-post me code at k u v w h =
    let mild = one-mild (ring_of v.sys h.to) (entry_of u.publication.entry) h.to h.g h.fits in
    let one : code ≡ 1 = let e : did.Assert code ≡ did.Assert 1 = h.said in cc in
    let front = map (for_object v.by) h.fits.0 in
    let last = for_object v.by (plain (item.NoEntry h.to h.fits.3.0 h.fits.3.1 h.fits.3.2)) in
    let told : w.told ≡ (v.told ++ front) ++ last ∷ [] =
    h.grows.told ∙ ap (λ y. v.told ++ map (for_object v.by) y) h.fits.3.3
    ∙ ap (λ y. v.told ++ y) (map-append (for_object v.by) h.fits.0 (plain (item.NoEntry h.to h.fits.3.0 h.fits.3.1 h.fits.3.2) ∷ []))
    ∙ sym (append_assoc v.told front (last ∷ [])) in
    record {
      g = h.g;
      grows = h.grows;
      does = λ chart ts leaf. rw h.first (does_left-cut v.sys (actor_of me chart k) at ts leaf (config_of k) (publishing_of u) h.to h.others h.g h.fits);
      some = rw one (omega arith);
      last = rw (told, one) (last-snoc (v.told ++ front) last);
      stand = λ others all.
          stand-risen ((k.list.entries.items ++ []) ++ others) v w (stand-without k.list.entries.items (u.publication.entry ∷ []) others v all) (mild-rise h.g v w mild h.grows) h.grows.sys;
    }

-- the publication has ended
pub goes-published : (me c later : ℕ) (at : Moment) (k : Lasting) (p : Publication) (former : ℕ) (d : Did) (raised : Bool) (v w : LaneView) → 0 < me → p.left ≡ 0 → former ≡ p.former → EntryStands p.entry v
    → raised ≡ is_some (raised_to p.former (members p.all)) → (raised ≡ true → later ≡ former) → (raised ≡ false → later ≡ c) → EndsGoing p d v w
    → PartGoes me at [] (Point ∷ []) c later k (Some (record { publication = p; ceiling = former })) (record k { ok = pos 1 }) None v w
goes-published me c later at k p former d raised v w some left same stands is was not h =
    let restores = restores-last (entry_of p.entry) p.former (members p.all) h.g h.fits in
    let alike = one-less k.list.entries.items p.entry v w stands h.hands in
    let none : members p.left ≡ [] = members-none p.left left in
    record {
      g = h.g;
      grows = h.grows;
      reaches = λ chart ts leaf.
          rw none
          (reaches-published v.sys (actor_of me chart k) at ts leaf (config_of k) (record { entry = entry_of p.entry; former = p.former; members = members p.all }) h.g
          (last-any me (entry_of p.entry) p.former (members p.all) h.g some h.fits));
      lane = last-lane p.former c later (members p.all) raised h.g v w restores h.grows is (λ e. was e ∙ same) not;
      spills = last-spills p.former (members p.all) h.g v w restores h.grows;
      keeps = keeps-same k 1;
      hands = alike;
      stand = λ others all.
          stand-change (k.list.entries.items ++ p.entry ∷ []) (k.list.entries.items ++ []) others v w alike
          (rw (append-nil k.list.entries.items, h.grows.sys) (list_all-front (λ e. is_named v.sys e) k.list.entries.items (p.entry ∷ []) (list_all-front (λ e. is_named v.sys e) (k.list.entries.items ++ p.entry ∷ []) others all.named)))
          h.grows.sys all;
      publishing = tt;
    }

-- What a call that began or went on answered.

pub going-on : (p q : Publication) (b : Begun) (v w : LaneView) → b ≡ begun.Going q → PublishingGoesOn p v w (Ok b) → GoesOnGoing p q v w
going-on p q b v w is h = subst (λ x. PublishingGoesOn p v w (Ok x)) is h

pub going-assert : (p : Publication) (b : Begun) (d : Did) (code : ℕ) (v w : LaneView) → b ≡ begun.Did d → d ≡ did.Assert code → PublishingGoesOn p v w (Ok b) → GoesOnAssert p (did.Assert code) v w
going-assert p b d code v w is said h = let k : GoesOnAssert p d v w = subst (λ x. PublishingGoesOn p v w (Ok x)) is h in subst (λ x. GoesOnAssert p x v w) said k

pub begun-going : (ev : Event) (reserve : Option ℕ) (c : ℕ) (q : Publication) (b : Begun) (v w : LaneView) → b ≡ begun.Going q → Begins ev reserve c v w (Ok b) → BeginsGoing ev reserve c q v w
begun-going ev reserve c q b v w is h = subst (λ x. Begins ev reserve c v w (Ok x)) is h

pub begun-did : (ev : Event) (reserve : Option ℕ) (c : ℕ) (b : Begun) (d e : Did) (v w : LaneView) → b ≡ begun.Did d → d ≡ e → Begins ev reserve c v w (Ok b) → Unmade (is_static v.sys ev.sig) ev reserve e v w
begun-did ev reserve c b d e v w is said h =
    let k : Unmade (is_static v.sys ev.sig) ev reserve d v w = subst (λ x. Begins ev reserve c v w (Ok x)) is h in
    subst (λ x. Unmade (is_static v.sys ev.sig) ev reserve x v w) said k

-- fewer members are left
pub fewer-post : (p q : Publication) (v w : LaneView) → GoesOnGoing p q v w → length (members q.left) < length (members p.left)
fewer-post p q v w h = rw (h.first, h.rest) (omega arith)
