-- Actions, as the calls that they make.
use Rattle.std.proofs.Common.{◌≡◌, ℕ, ◌+◌, ◌<◌, ◌≤◌, ◌==◌, nat_lt, Bool, true, false, List, [], ◌∷◌, ◌++◌, map, length, drop, refl, sym, ◌∙◌, ap, subst, arith, inl, inr, Option, Some, None, Ok, Err, append_assoc, if◌then◌else◌}
use Rattle.std.specs.Prelude.{ℤ, pos}
use Rattle.std.specs.List.{list_all}
use Rattle.std.specs.Option.{option_and_then}
use Rattle.std.specs.declared.result.Result.{Result}
use Rattle.std.proofs.lemmas.Bool.{and_parts}
use Rattle.std.proofs.lemmas.Bool.Decides.{nat_tests}
use Rattle.std.proofs.lemmas.List.{map-append, length-append}
use Rattle.std.specs.Prelude.{slice_set}
use Rattle.std.specs.Int.{w64, cast_unsigned}
use mir.Val.{SFits, of_z, to_z}
use Rattle.std.proofs.lemmas.Int.{to_z-of_z}
use Rattle.qp_chart.specs.Expr.{Names, value_of}
use Rattle.qp_chart.specs.declared.expression.Bound.{Bound}
use Rattle.qp_chart.specs.declared.actions.Plain.{Plain}
use Rattle.qp_chart.specs.declared.actions.Plain.TheVariants as action
use Rattle.qp_chart.specs.declared.checked.Chart.{Chart}
use Rattle.qp_chart.specs.Task.{Task, Do}
use Rattle.qp_model.specs.declared.systems.System.{System}
use Rattle.qp_model.specs.declared.bodies.Entry as model
use Rattle.qp_model.specs.declared.bodies.Body.{Body}
use Rattle.qp_model.specs.declared.bodies.Body.TheVariants as item
use Rattle.qp_model.specs.Told.{Told, plain, for_object}
use Rattle.qp_model.specs.Calls as call
use Rattle.qp_model.specs.Calls.{Call, Calls, bits_of, Answer, Granted, Refused, Flushed, AtQueue, AtPool, AtTimer, AtTicks, AtFront, deed_of, ok_after, is_assertion}
use Rattle.qp_model.specs.Shapes.{Fits, Flushes}
use Rattle.qp_model.specs.Deferral.{keep, kept_after, KeepsDeferred}
use Rattle.qp_model.specs.Line.{is_front}
use Rattle.qp_model.specs.Pieces.{Point, tell, pieces_of}
use Rattle.qp_model.specs.Acts.{Moment}
use Rattle.qp_model.specs.Step.{DoesLeft, tasks_left}
use Rattle.qp_model.specs.Standing.{AgendaReaches}
use Rattle.qp_model.proofs.ReachLemmas.{reaches-call, reaches-say, reaches-set, does_left-asserted}
use Rattle.qp_model.proofs.FitsLemmas.{all-append, fits-usual, Answers, Usual, Ending, assertion_of}
use Rattle.qp_calls.specs.declared.answers.RoomFault.{RoomFault}
use Rattle.qp_calls.specs.declared.deferred.Deferred.{Deferred}
use Rattle.qp_calls.specs.declared.did.Did.{Did}
use Rattle.qp_calls.specs.declared.did.Did.TheVariants as did
use Rattle.qp_calls.specs.declared.tokens.HeldEntry.{HeldEntry}
use Rattle.qp_calls.specs.Tokens.{Token, Held, Loose, hands_after, hands_by}
use Rattle.qp_calls.specs.Counting.{times, count_of}
use Rattle.qp_calls.specs.LaneView.{LaneView, Grows}
use Rattle.qp_calls.specs.Notes.{last_code, stop_code}
use Rattle.qp_calls.specs.Clauses.{entry_of}
use Rattle.qp_calls.specs.Entries.{did_of}
use Rattle.qp_calls.specs.Deferring.{AnswersKept, FlushCut, StandAll, ChangeAlike, kept_in, tokens_in, is_named}
use Rattle.qp_calls.proofs.CountLemmas.{count-with, stand-same}
use Rattle.qp_calls.proofs.Growing.{gains-none}
use Rattle.qp_calls.proofs.NoteLemmas.{last-snoc}
use Rattle.qp_dispatch.specs.declared.act.Acted.{Acted}
use Rattle.qp_dispatch.specs.declared.lasting.Lasting.{Lasting}
use Rattle.qp_dispatch.specs.declared.work.Work.{Work}
use Rattle.qp_dispatch.specs.CallsDone.{CallCut, CallDone, is_single}
use Rattle.qp_dispatch.specs.Lasts.{config_of, actor_of, moment_of_work, names_at, entry_in}
use Rattle.qp_dispatch.specs.Acting.{ActsTo, ActDone, ActAsserts, ActCut, Calm, OkTakes}
use Rattle.qp_dispatch.proofs.Quiet.{Quiet, fits-quiet, quiet-front, quiet-ceiling, quiet-spillless, spills-append}
use Rattle.qp_dispatch.proofs.Rising.{Mild, fits-mild, mild-rise, mild-kept}
use Rattle.qp_dispatch.proofs.CallLemmas.{tokens-loose, value-no, value-yes}
use Rattle.qp_dispatch.proofs.Finishing.{Finishes, flush-finish}

-- What a lane has after quiet records.

pub calm-quiet : (g : List Told) (v w : LaneView) → Grows g v w → Quiet g → Calm v w
calm-quiet g v w grows q = record {
  ceiling = rw grows.told (quiet-ceiling v.by v.told g q);
  spills = λ none. rw grows.told (spills-append v.by v.told g none (quiet-spillless g q));
}

pub calm-none : (v : LaneView) → Calm v v
calm-none v = record { ceiling = refl; spills = λ none. none }

-- Entries of two lists together.

pub tokens-join : (t : Token) (es fs : List model.Entry) → count_of t (tokens_in (es ++ fs)) ≡ count_of t (tokens_in es) + count_of t (tokens_in fs)
unfolding times
tokens-join t [] fs = omega arith
tokens-join t (e ∷ es) fs =
    let front = count-with t e (tokens_in (es ++ fs)) in
    let back = count-with t e (tokens_in es) in
    omega (arith, front, back, tokens-join t es fs)

pub all-right : {X : Type 0} (f : X → Bool) (xs ys : List X) → list_all f (xs ++ ys) ≡ true → list_all f ys ≡ true
all-right f [] ys h = h
all-right f (x ∷ xs) ys h = all-right f xs ys (and_parts (f x) (list_all f (xs ++ ys)) h).1

pub counts-join : (t : Token) (es fs : List HeldEntry) → count_of t (tokens_in (map entry_of (es ++ fs))) ≡ count_of t (tokens_in (map entry_of es)) + count_of t (tokens_in (map entry_of fs))
counts-join t es fs = ap (λ x. count_of t (tokens_in x)) (map-append entry_of es fs) ∙ tokens-join t (map entry_of es) (map entry_of fs)

-- the hands changed as one of the lists did: what stood beside it still does
pub stand-change : (es ds fs : List HeldEntry) (v w : LaneView) → ChangeAlike (map entry_of es) (map entry_of ds) v w → list_all (λ e. is_named w.sys e) ds ≡ true → w.sys ≡ v.sys
    → StandAll (es ++ fs) v → StandAll (ds ++ fs) w
stand-change es ds fs v w alike named sys all = record {
  named = all-append (λ e. is_named w.sys e) ds fs named (rw sys (all-right (λ e. is_named v.sys e) es fs all.named));
  counts = λ t. omega (arith, alike t, counts-join t es fs, counts-join t ds fs, all.counts t);
}

stand-alike : (es ds fs : List HeldEntry) (v w : LaneView) → ChangeAlike (map entry_of es) (map entry_of ds) v w → StandAll ds w → w.sys ≡ v.sys
    → StandAll (es ++ fs) v → StandAll (ds ++ fs) w
stand-alike es ds fs v w alike more sys all = stand-change es ds fs v w alike more.named sys all

-- no reference left the hands, and none came to the list
pub stand-mild : (es ds fs : List HeldEntry) (v w : LaneView) → ((p b r : ℕ) → count_of (Held p b r) v.hands ≤ count_of (Held p b r) w.hands)
    → ((t : Token) → count_of t (tokens_in (map entry_of ds)) ≤ count_of t (tokens_in (map entry_of es))) → StandAll ds w → w.sys ≡ v.sys
    → StandAll (es ++ fs) v → StandAll (ds ++ fs) w
stand-mild es ds fs v w more less stand sys all = record {
  named = all-append (λ e. is_named w.sys e) ds fs stand.named (rw sys (all-right (λ e. is_named v.sys e) es fs all.named));
  counts = by;
}
  where
    by : (t : Token) → count_of t (tokens_in (map entry_of (ds ++ fs))) ≤ count_of t w.hands
    by (Held p b r) =
        omega (arith, more p b r, less (Held p b r), counts-join (Held p b r) es fs, counts-join (Held p b r) ds fs, all.counts (Held p b r))
    by (Loose p b u) = omega (arith, tokens-loose p b u (map entry_of (ds ++ fs)))

-- The deferred list within its capacity.

keep-few : (room : ℕ) (kept more : List model.Entry) (b : Body) → keep room kept b ≡ Some more → length kept ≤ room → length more ≤ room
unfolding keep
keep-few room kept more b is few = go b is
  where
    shorter : (es : List model.Entry) → length es ≤ room → length (drop 1 es) ≤ room
    shorter [] h = h
    shorter (e ∷ es) h = omega (arith, h)

    same : {ds es : List model.Entry} → Some ds ≡ Some es → length ds ≤ room → length es ≤ room
    same {ds} {es} e h = let s : ds ≡ es = cc in subst (λ x. length x ≤ room) s h

    front : (u : Bool) → (if u then Some (drop 1 kept) else None) ≡ Some more → length more ≤ room
    front true e = same e (shorter kept few)
    front false e = absurd (cc)

    last : (e : model.Entry) (u : Bool) → nat_lt (length kept) room ≡ u → (if u then Some (kept ++ e ∷ []) else None) ≡ Some more → length more ≤ room
    last e true lt is = same is (one_more e (lt-of lt))
      where
        lt-of : nat_lt (length kept) room ≡ true → length kept < room
        lt-of h = grind (arith, nat_tests)

        one_more : (e : model.Entry) → length kept < room → length (kept ++ e ∷ []) ≤ room
        one_more e h = simp length-append (omega (arith, h))
    last e false lt is = absurd (cc)

    full : (u : Bool) → (if u then None else Some kept) ≡ Some more → length more ≤ room
    full true e = absurd (cc)
    full false e = same e few

    empty : (u : Bool) → (if u then Some kept else None) ≡ Some more → length more ≤ room
    empty true e = same e few
    empty false e = absurd (cc)

    go : (b : Body) → keep room kept b ≡ Some more → length more ≤ room
    go (item.Defer e) is = last e (nat_lt (length kept) room) refl is
    go item.NoDefer is = full (nat_lt (length kept) room) is
    go (item.Recall e) is = front (is_front e kept) is
    go (item.Flush e) is = front (is_front e kept) is
    go item.NoRecall is = empty (length kept == 0) is
    go _ is = same is few

pub kept-few : (room : ℕ) (kept more : List model.Entry) (g : List Told) → kept_after room kept g ≡ Some more → length kept ≤ room → length more ≤ room
unfolding kept_after
kept-few room kept more [] is few = let same : kept ≡ more = cc in subst (λ x. length x ≤ room) same few
kept-few room kept more (t ∷ g) is few = go (keep room kept t.body) refl (λ next. kept-few room next more g) is
  where
    go : (o : Option (List model.Entry)) → keep room kept t.body ≡ o
        → ((next : List model.Entry) → kept_after room next g ≡ Some more → length next ≤ room → length more ≤ room)
        → option_and_then (λ rest. kept_after room rest g) o ≡ Some more → length more ≤ room
    go None k ih e = absurd (cc)
    go (Some next) k ih e = ih next e (keep-few room kept next t.body k few)

keeps-few : (room : ℕ) (x : Call) (g : List Told) (kept more : List model.Entry) → KeepsDeferred room x g kept more → length kept ≤ room → length more ≤ room
unfolding KeepsDeferred
keeps-few room call.Defer g kept more h few = kept-few room kept more g h few
keeps-few room call.Recall g kept more h few = kept-few room kept more g h few
keeps-few room call.Flush g kept more h few = kept-few room kept more g h.0 few
keeps-few room _ g kept more h few = subst (λ x. length x ≤ room) (sym h) few

-- mild records take the list at most something
keeps-mild : (room : ℕ) (x : Call) (g : List Told) (kept more : List model.Entry) → Mild g → KeepsDeferred room x g kept more → (t : Token)
    → count_of t (tokens_in more) ≤ count_of t (tokens_in kept)
unfolding KeepsDeferred
keeps-mild room call.Defer g kept more m h t = mild-kept t room kept more g m h
keeps-mild room call.Recall g kept more m h t = mild-kept t room kept more g m h
keeps-mild room call.Flush g kept more m h t = mild-kept t room kept more g m h.0
keeps-mild room _ g kept more m h t = subst (λ x. count_of t (tokens_in x) ≤ count_of t (tokens_in kept)) (sym h) (omega arith)

-- Answers.

-- what `ok` becomes by a value
pub ok-value : (answer : Answer) (n : ℕ) (ok : ℤ) → did.Value n ≡ did_of answer → ok_after answer ok ≡ pos n
ok-value Granted n ok said = let same : n ≡ 1 = cc in rw same refl
ok-value Refused n ok said = let same : n ≡ 0 = cc in rw same refl
ok-value (Flushed m) n ok said = let same : n ≡ m = cc in rw same refl
ok-value _ n ok said = absurd (cc)

pub pieces-single : (x : Call) (g : List Told) → is_single x ≡ true → pieces_of x g ≡ tell g
unfolding pieces_of
pieces-single (call.Publish sig pars reserve) g h = absurd (cc)
pieces-single _ g h = refl

-- the code of an assertion's record
pub stop-code : (b : Body) (answer : Answer) (code : ℕ) → assertion_of b ≡ Some answer → did.Assert code ≡ did_of answer → (0 < code) × (stop_code b ≡ code)
stop-code (item.NoEntry a f l m) answer code is said = let same : answer ≡ AtQueue = cc in let d : did.Assert code ≡ did.Assert 1 = rw same at said in let n : code ≡ 1 = cc in rw n (omega arith, refl)
stop-code (item.NoBlock p n free) answer code is said = let same : answer ≡ AtPool = cc in let d : did.Assert code ≡ did.Assert 2 = rw same at said in let n : code ≡ 2 = cc in rw n (omega arith, refl)
stop-code (item.Armed t n c) answer code is said = let same : answer ≡ AtTimer = cc in let d : did.Assert code ≡ did.Assert 3 = rw same at said in let n : code ≡ 3 = cc in rw n (omega arith, refl)
stop-code (item.BadTicks t ticks interval) answer code is said = let same : answer ≡ AtTicks = cc in let d : did.Assert code ≡ did.Assert 4 = rw same at said in let n : code ≡ 4 = cc in rw n (omega arith, refl)
stop-code (item.NoLifo a f l m) answer code is said = let same : answer ≡ AtFront = cc in let d : did.Assert code ≡ did.Assert 5 = rw same at said in let n : code ≡ 5 = cc in rw n (omega arith, refl)
stop-code _ answer code is said = absurd (cc)

-- the lane ends in the assertion of the call
pub last-asserted : (sys : System) (o : ℕ) (now : Option model.Entry) (x : Call) (answer : Answer) (code : ℕ) (g : List Told) (v w : LaneView) → Fits sys o now x answer g
    → did.Assert code ≡ did_of answer → Grows g v w → (0 < code) × (last_code w.told ≡ code)
unfolding Answers Ending
last-asserted sys o now x answer code g v w h said grows =
    let ending : Ending Usual answer g = by (value-no answer (did.Assert code) said refl) (fits-usual sys o now x answer g h) in
    let code_is = stop-code ending.1.body answer code ending.3 said in
    let told : w.told ≡ (v.told ++ map (for_object v.by) ending.0) ++ for_object v.by ending.1 ∷ [] =
    grows.told ∙ ap (λ y. v.told ++ map (for_object v.by) y) ending.4 ∙ ap (λ y. v.told ++ y) (map-append (for_object v.by) ending.0 (ending.1 ∷ []))
    ∙ sym (append_assoc v.told (map (for_object v.by) ending.0) (for_object v.by ending.1 ∷ [])) in
    (code_is.0, rw told (last-snoc (v.told ++ map (for_object v.by) ending.0) (for_object v.by ending.1) ∙ code_is.1))
  where
    by : is_assertion answer ≡ true → Answers Usual answer g → Ending Usual answer g
    by is k = rw is at k

module _ (me : ℕ) (k : Lasting) (work : Work) (p : Plain) (x : Call) (v w : LaneView)
    (is : deed_of (names_at me k work) p ≡ Calls x) (single : is_single x ≡ true) (mine : v.by ≡ me) where
  -- the actions that the call does
  reached : (n : ℕ) (answer : Answer) (g : List Told) (kept : List model.Entry) → did.Value n ≡ did_of answer
      → Fits v.sys v.by (entry_in work.entry) x answer g → KeepsDeferred k.list.entries.capacity x g (kept_in k.list) kept → (chart : Chart) (ts : List Task) (leaf : ℕ)
      → AgendaReaches v.sys (actor_of me chart k) (moment_of_work work) (tasks_left (Do p ∷ ts) leaf) (config_of k) (tell g ++ Point ∷ []) (tasks_left ts leaf)
      (record (config_of k) { ok = pos n; kept = kept })
  reached n answer g kept said h keeps chart ts leaf =
      let here : Fits v.sys me (entry_in work.entry) x answer g = subst (λ o. Fits v.sys o (entry_in work.entry) x answer g) mine h in
      let go = reaches-call v.sys (actor_of me chart k) (moment_of_work work) ts leaf (config_of k) p x answer g kept is here keeps (value-yes answer (did.Value n) said refl) in
      subst (λ o. AgendaReaches v.sys (actor_of me chart k) (moment_of_work work) (tasks_left (Do p ∷ ts) leaf) (config_of k) (tell g ++ Point ∷ []) (tasks_left ts leaf) (record (config_of k) { ok = o; kept = kept })) (ok-value answer n k.ok said)
      (subst (λ ps. AgendaReaches v.sys (actor_of me chart k) (moment_of_work work) (tasks_left (Do p ∷ ts) leaf) (config_of k) (ps ++ Point ∷ []) (tasks_left ts leaf) (record (config_of k) { ok = ok_after answer k.ok; kept = kept })) (pieces-single x g single) go)

  pub act-done : (n : ℕ) (list : Deferred) → AnswersKept (entry_in work.entry) x (did.Value n) k.list list v w → ActDone me (moment_of_work work) p k (record k { list = list; ok = pos n }) v w
  act-done n list h = record {
    g = h.g;
    grows = h.grows;
    reaches = reached n h.answer h.g (kept_in list) h.said h.fits h.keeps;
    calm = calm-quiet h.g v w h.grows (fits-quiet v.sys v.by (entry_in work.entry) x h.answer h.g single h.fits);
    keeps = record { leaf = refl; room = h.room; few = keeps-few k.list.entries.capacity x h.g (kept_in k.list) (kept_in list) h.keeps };
    hands = h.hands refl;
    stand = λ others all. stand-alike k.list.entries.items list.entries.items others v w (h.hands refl) h.stand h.grows.sys all;
  }

  pub act-asserts : (code : ℕ) (list : Deferred) → AnswersKept (entry_in work.entry) x (did.Assert code) k.list list v w
      → ActAsserts me (moment_of_work work) p code k (record k { list = list }) v w
  act-asserts code list h =
      let asserted = value-no h.answer (did.Assert code) h.said refl in
      let mild = fits-mild v.sys v.by (entry_in work.entry) x h.answer h.g single asserted h.fits in
      let last = last-asserted v.sys v.by (entry_in work.entry) x h.answer code h.g v w h.fits h.said h.grows in
      let here : Fits v.sys me (entry_in work.entry) x h.answer h.g = subst (λ o. Fits v.sys o (entry_in work.entry) x h.answer h.g) mine h.fits in
      record {
        g = h.g;
        grows = h.grows;
        does = λ chart ts.
            subst (λ ps. DoesLeft v.sys (actor_of me chart k) (moment_of_work work) None [] (Do p ∷ ts) (config_of k) ps None) (pieces-single x h.g single)
            (does_left-asserted v.sys (actor_of me chart k) (moment_of_work work) ts 0 (config_of k) p x h.answer h.g (kept_in list) is here h.keeps asserted);
        some = last.0;
        last = last.1;
        stand = λ others all.
            stand-mild k.list.entries.items list.entries.items others v w (mild-rise h.g v w mild h.grows)
            (keeps-mild k.list.entries.capacity x h.g (kept_in k.list) (kept_in list) mild h.keeps) h.stand h.grows.sys all;
      }

-- a flush that was cut
pub cut-flush : (me : ℕ) (k : Lasting) (work : Work) (p : Plain) (list : Deferred) (v w : LaneView) → deed_of (names_at me k work) p ≡ Calls call.Flush → v.by ≡ me
    → FlushCut k.list list v w → ActCut me (moment_of_work work) p k (record k { list = list }) v w
unfolding Fits KeepsDeferred
cut-flush me k work p list v w is mine h =
    let finish : Finishes k.list.entries.capacity (kept_in k.list) h.g = by h.answer h.fits in
    record {
      g = h.g;
      grows = h.grows;
      front =
          inr (
          record {
            rest = finish.rest;
            after = record (config_of k) { ok = pos finish.count; kept = [] };
            few = omega arith;
            reaches = reached me k work p call.Flush v w is refl mine finish.count (Flushed finish.count) (h.g ++ finish.rest) [] refl (fits_flush finish.count (h.g ++ finish.rest) finish.flushes) (keeps_flush (h.g ++ finish.rest) finish.none);
          }
          );
      calm = calm-quiet h.g v w h.grows (quiet-front h.g h.rest (fits-quiet v.sys v.by None call.Flush h.answer (h.g ++ h.rest) refl h.fits));
      stand = λ others all. stand-alike k.list.entries.items list.entries.items others v w h.hands h.stand h.grows.sys all;
    }
  where
    by : (answer : Answer) → Fits v.sys v.by None call.Flush answer (h.g ++ h.rest) → Finishes k.list.entries.capacity (kept_in k.list) h.g
    by (Flushed n) f = flush-finish k.list.entries.capacity n (kept_in k.list) (kept_in list) h.g h.rest f h.keeps
    by _ f = absurd f

    fits_flush : (n : ℕ) (g : List Told) → Flushes n g → Fits v.sys v.by (entry_in work.entry) call.Flush (Flushed n) g
    fits_flush n g f = f

    keeps_flush : (g : List Told) → kept_after k.list.entries.capacity (kept_in k.list) g ≡ Some [] → KeepsDeferred k.list.entries.capacity call.Flush g (kept_in k.list) []
    keeps_flush g e = (e, refl)

-- nothing was done
pub cut-none : (me : ℕ) (k m : Lasting) (at : Moment) (p : Plain) (v w : LaneView) → m ≡ k → w ≡ v → ActCut me at p k m v w
cut-none me k m at p v w same still =
    rw (same, still)
    (record { g = []; grows = gains-none v; front = inl refl; calm = calm-none v; stand = λ others all. all })

-- an assignment
pub act-set : (me : ℕ) (k : Lasting) (work : Work) (p : Plain) (var : ℕ) (value : Bound) (vars : List ℤ) (x : ℤ) (env : Names) (v : LaneView) → p ≡ action.Set var value → env ≡ names_at me k work
    → x ≡ value_of env value → SFits w64 x → vars ≡ slice_set k.vars var (to_z w64 (of_z w64 x)) → ActDone me (moment_of_work work) p k (record k { vars = vars }) v v
unfolding deed_of
act-set me k work p var value vars x env v is same x_is fits set =
    let value_is : x ≡ value_of (names_at me k work) value = x_is ∙ ap (λ n. value_of n value) same in
    let new : vars ≡ slice_set k.vars var (value_of (names_at me k work) value) = set ∙ ap (λ z. slice_set k.vars var z) (to_z-of_z w64 x fits ∙ value_is) in
    record {
      g = [];
      grows = gains-none v;
      reaches = λ chart ts leaf.
          subst (λ xs. AgendaReaches v.sys (actor_of me chart k) (moment_of_work work) (tasks_left (Do p ∷ ts) leaf) (config_of k) (Point ∷ []) (tasks_left ts leaf) (record (config_of k) { vars = xs })) (sym new)
          (reaches-set v.sys (actor_of me chart k) (moment_of_work work) ts leaf (config_of k) p var (value_of (names_at me k work) value) (rw is refl));
      calm = calm-none v;
      keeps = record { leaf = refl; room = refl; few = λ few. few };
      hands = λ t. refl;
      stand = λ others all. all;
    }

-- `say`
pub act-said : (me : ℕ) (k : Lasting) (work : Work) (p : Plain) (value : Bound) (x : ℤ) (env : Names) (v w : LaneView) → p ≡ action.Say value → env ≡ names_at me k work
    → x ≡ value_of env value → SFits w64 x → Grows (plain (item.Say (cast_unsigned w64 (to_z w64 (of_z w64 x)))) ∷ []) v w → ActDone me (moment_of_work work) p k k v w
unfolding deed_of hands_after hands_by
act-said me k work p value x env v w is same x_is fits grown =
    let value_is : to_z w64 (of_z w64 x) ≡ value_of (names_at me k work) value = to_z-of_z w64 x fits ∙ x_is ∙ ap (λ n. value_of n value) same in
    let grows : Grows (plain (item.Say (bits_of (value_of (names_at me k work) value))) ∷ []) v w = subst (λ z. Grows (plain (item.Say (cast_unsigned w64 z)) ∷ []) v w) value_is grown in
    record {
      g = plain (item.Say (bits_of (value_of (names_at me k work) value))) ∷ [];
      grows = grows;
      reaches = λ chart ts leaf. reaches-say v.sys (actor_of me chart k) (moment_of_work work) ts leaf (config_of k) p (bits_of (value_of (names_at me k work) value)) (rw is refl);
      calm = calm-quiet (plain (item.Say (bits_of (value_of (names_at me k work) value))) ∷ []) v w grows refl;
      keeps = record { leaf = refl; room = refl; few = λ few. few };
      hands = λ t. rw grows.hands refl;
      stand = λ others all. stand-same (k.list.entries.items ++ others) v w all grows.hands grows.sys;
    }

-- what an action's call makes of the object
pub settled : (me : ℕ) (k m n : Lasting) (work : Work) (p : Plain) (x : Call) (answer : Result Did RoomFault) (a : Acted) (v w : LaneView)
    → deed_of (names_at me k work) p ≡ Calls x → is_single x ≡ true → v.by ≡ me → m ≡ record k { list = m.list }
    → CallDone (entry_in work.entry) x k.list m.list v w answer → OkTakes m n answer a → ActsTo me (moment_of_work work) p k n v w a
settled me k m n work p x (Ok (did.Value y)) a v w is single mine rest h s =
    let new : n ≡ record k { list = m.list; ok = pos y } = s.1 ∙ rw rest refl in
    rw (s.0, new) (act-done me k work p x v w is single mine y m.list h)
settled me k m n work p x (Ok (did.Assert code)) a v w is single mine rest h s =
    let new : n ≡ record k { list = m.list } = s.1 ∙ rest in
    rw (s.0, new) (act-asserts me k work p x v w is single mine code m.list h)
settled me k m n work p x (Err fault) a v w is single mine rest h s =
    let new : n ≡ record k { list = m.list } = s.1 ∙ rest in
    rw (s.0, new) (by x is h.0, h.1)
  where
    by : (x : Call) → deed_of (names_at me k work) p ≡ Calls x → CallCut x k.list m.list v w → ActCut me (moment_of_work work) p k (record k { list = m.list }) v w
    by call.Flush is h = cut-flush me k work p m.list v w is mine h
    by _ is h = cut-none me k (record k { list = m.list }) (moment_of_work work) p v w (rw h.0 refl) h.1
