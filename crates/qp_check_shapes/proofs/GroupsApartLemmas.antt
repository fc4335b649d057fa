-- Units, calls that end in their assertions, and publications don't begin with one another.
use Rattle.std.proofs.Common.{◌≡◌, ℕ, ◌==◌, nat_lt, Bool, true, false, not, cond, ◌&&◌, List, [], ◌∷◌, length, Some, None, refl}
use Rattle.std.specs.declared.option.Option.{Option}
use Rattle.std.proofs.lemmas.Option.{none-some}
use Rattle.std.proofs.lemmas.Bool.{false≢true}
use Rattle.qp_model.specs.declared.systems.System.{System}
use Rattle.qp_model.specs.declared.bodies.Entry.{Entry}
use Rattle.qp_model.specs.declared.bodies.Body.{Body}
use Rattle.qp_model.specs.declared.bodies.Body.TheVariants as item
use Rattle.qp_model.specs.Record.{entry}
use Rattle.qp_model.specs.Told.{Told, Known, Nothing, Free, Member, plain, told_new}
use Rattle.qp_model.specs.Parts.{is_static, sizes_of}
use Rattle.qp_check_shapes.specs.ShapeUnit.{goes_to, works_on, again_first, behind_again, new_first, behind_entry, reference_first, behind_new, lifo_first, behind_lifo, recalled_first, behind_reference, behind_recall, plain_first, given_first, member_first, unit_first, behind_unit}
use Rattle.qp_check_shapes.specs.ShapeAssertion.{no_entry_first, behind_no_entry, no_lifo_first, behind_no_lifo, cut_first, behind_cut, new_cut_first, behind_new_cut, recall_cut_first, behind_recall_reference, behind_recall_cut, plain_cut, given_cut, assertion_first, behind_assertion}
use Rattle.qp_check_shapes.specs.GroupsRead.{is_outer}
use Rattle.qp_check_shapes.proofs.ShapeSoundLemmas.{passed}

-- no reader goes on where it answers nothing
either-none : (b : Bool) (r : Option (List Told)) → r ≡ None → cond b r None ≡ None
either-none true r h = h
either-none false r h = refl

-- where a post finds no entry, none is read
no_entry-again : (sys : System) (e : Entry) (ts r : List Told) → behind_no_entry ts ≡ Some r → behind_again sys e ts ≡ None
no_entry-again sys e [] r h = refl
no_entry-again sys e (t ∷ ts) r h = by t.body t.known h
  where
    by : (body : Body) (known : Known) → no_entry_first body known ts ≡ Some r → again_first sys e body known ts ≡ None
    by (item.NoEntry a f l m) Nothing h = refl
    by body known h = absurd (none-some _ h)

cut-entry : (sys : System) (o : ℕ) (e : Entry) (ts r : List Told) → behind_cut o ts ≡ Some r → behind_entry sys e ts ≡ None
cut-entry sys o e [] r h = refl
cut-entry sys o e (t ∷ ts) r h = by t.body t.known h
  where
    by : (body : Body) (known : Known) → cut_first o body known ts ≡ Some r → new_first sys e body known ts ≡ None
    by (item.NoEntry a f l m) Nothing h = refl
    by (item.NoLifo a f l m) Nothing h = refl
    by body known h = absurd (none-some _ h)

no_lifo-lifo : (o : ℕ) (k e : Entry) (ts r : List Told) → behind_no_lifo o ts ≡ Some r → behind_lifo k e ts ≡ None
no_lifo-lifo o k e [] r h = refl
no_lifo-lifo o k e (t ∷ ts) r h = by t.body t.known h
  where
    by : (body : Body) (known : Known) → no_lifo_first o body known ts ≡ Some r → lifo_first k e body known ts ≡ None
    by (item.NoLifo a f l m) Nothing h = refl
    by body known h = absurd (none-some _ h)

new-apart : (sys : System) (o p b : ℕ) (ts r : List Told) → behind_new_cut o p b ts ≡ Some r → behind_new sys p b ts ≡ None
new-apart sys o p b [] r h = refl
new-apart sys o p b (t ∷ ts) r h = by t.body t.known h
  where
    by : (body : Body) (known : Known) → new_cut_first o p b body known ts ≡ Some r → reference_first sys p b body known ts ≡ None
    by (item.Inc q c n) Nothing h = either-none ((q == p) && (c == b)) (behind_entry sys (entry p b n) ts) (cut-entry sys o (entry p b n) ts r (passed _ _ r h).1)
    by body known h = absurd (none-some _ h)

reference-apart : (o : ℕ) (k : Entry) (ts r : List Told) → behind_recall_reference o k ts ≡ Some r → behind_reference k ts ≡ None
reference-apart o k [] r h = refl
reference-apart o k (t ∷ ts) r h = by t.body t.known h
  where
    by : (body : Body) (known : Known) → recall_cut_first o k body known ts ≡ Some r → recalled_first k body known ts ≡ None
    by (item.Inc p b n) Nothing h = either-none ((p == k.pool) && (b == k.block)) (behind_lifo k (entry p b n) ts) (no_lifo-lifo o k (entry p b n) ts r (passed _ _ r h).1)
    by body known h = absurd (none-some _ h)

recall-apart : (o : ℕ) (k : Entry) (ts r : List Told) → behind_recall_cut o k ts ≡ Some r → behind_recall k ts ≡ None
unfolding behind_recall behind_recall_cut
recall-apart o k ts r h = by (k.pool == 0) h
  where
    by : (static : Bool) → cond static (behind_no_lifo o ts) (behind_recall_reference o k ts) ≡ Some r → cond static (behind_lifo k k ts) (behind_reference k ts) ≡ None
    by true h = no_lifo-lifo o k k ts r h
    by false h = reference-apart o k ts r h

-- no unit begins a call that ends in its assertion
pub assertion-apart : (sys : System) (o : ℕ) (now : Option Entry) (told r : List Told) → behind_assertion sys o now told ≡ Some r → behind_unit sys o now told ≡ None
unfolding plain_first plain_cut given_first given_cut
assertion-apart sys o now [] r h = absurd (cc)
assertion-apart sys o now (t ∷ ts) r h = by t.known t.body h
  where
    alone : (body : Body) → plain_cut sys o now body ts ≡ Some r → plain_first sys o now body ts ≡ None
    alone (item.NoEntry a f l m) h = refl
    alone (item.NoLifo a f l m) h = refl
    alone (item.NoBlock p n free) h = refl
    alone (item.Armed u n counter) h = refl
    alone (item.BadTicks u ticks interval) h = refl
    alone (item.Inc p b n) h = either-none (works_on now p b) (behind_again sys (entry p b n) ts) (no_entry-again sys (entry p b n) ts r (passed _ _ r h).1)
    alone (item.Recall k) h = recall-apart o k ts r h
    alone body h = absurd (none-some _ h)

    made : (free : ℕ) (body : Body) → given_cut sys o free body ts ≡ Some r → given_first sys free body ts ≡ None
    made free (item.New p n b from sig pars) h =
        either-none (nat_lt 0 free && goes_to (sizes_of sys) (length pars) p && not (is_static sys sig)) (behind_new sys p b ts)
        (new-apart sys o p b ts r (passed (nat_lt 0 free && goes_to (sizes_of sys) (length pars) p && not (is_static sys sig)) (behind_new_cut o p b ts) r h).1)
    made free body h = absurd (none-some _ h)

    by : (known : Known) (body : Body) → assertion_first sys o now body known ts ≡ Some r → unit_first sys o now body known ts ≡ None
    by Nothing body h = alone body h
    by (Free free) body h = made free body h
    by known body h = absurd (none-some _ h)

-- an outer record begins neither
outer-plain : (sys : System) (o : ℕ) (now : Option Entry) (ts : List Told) (body : Body) → is_outer body ≡ true → (plain_first sys o now body ts ≡ None) × (plain_cut sys o now body ts ≡ None)
unfolding plain_first plain_cut
outer-plain sys o now ts (item.Unlock ceiling) h = (refl, refl)
outer-plain sys o now ts item.Done h = (refl, refl)
outer-plain sys o now ts (item.Lock ceiling) h = (refl, refl)
outer-plain sys o now ts (item.Exit s) h = (refl, refl)
outer-plain sys o now ts (item.Enter s) h = (refl, refl)
outer-plain sys o now ts (item.Init s) h = (refl, refl)
outer-plain sys o now ts body h = absurd (false≢true h)

outer-given : (sys : System) (o free : ℕ) (ts : List Told) (body : Body) → is_outer body ≡ true → (given_first sys free body ts ≡ None) × (given_cut sys o free body ts ≡ None)
unfolding given_first given_cut
outer-given sys o free ts (item.Unlock ceiling) h = (refl, refl)
outer-given sys o free ts item.Done h = (refl, refl)
outer-given sys o free ts (item.Lock ceiling) h = (refl, refl)
outer-given sys o free ts (item.Exit s) h = (refl, refl)
outer-given sys o free ts (item.Enter s) h = (refl, refl)
outer-given sys o free ts (item.Init s) h = (refl, refl)
outer-given sys o free ts body h = absurd (false≢true h)

outer-member : (ts : List Told) (body : Body) → is_outer body ≡ true → member_first body ts ≡ None
outer-member ts (item.Unlock ceiling) h = refl
outer-member ts item.Done h = refl
outer-member ts (item.Lock ceiling) h = refl
outer-member ts (item.Exit s) h = refl
outer-member ts (item.Enter s) h = refl
outer-member ts (item.Init s) h = refl
outer-member ts body h = absurd (false≢true h)

pub outer-apart : (sys : System) (o : ℕ) (now : Option Entry) (t : Told) (ts : List Told) → is_outer t.body ≡ true
    → (behind_unit sys o now (t ∷ ts) ≡ None) × (behind_assertion sys o now (t ∷ ts) ≡ None)
outer-apart sys o now t ts h = by t.known
  where
    by : (known : Known) → (unit_first sys o now t.body known ts ≡ None) × (assertion_first sys o now t.body known ts ≡ None)
    by Nothing = outer-plain sys o now ts t.body h
    by (Free free) = outer-given sys o free ts t.body h
    by (Member is) = (outer-member ts t.body h, refl)
    by known = (refl, refl)

-- nor does a set that is shown, at once or behind a new block
pub shown-apart : (sys : System) (o : ℕ) (now : Option Entry) (sig n set : ℕ) (rest : List Told)
    → (behind_unit sys o now (plain (item.Pub sig n set) ∷ rest) ≡ None) × (behind_assertion sys o now (plain (item.Pub sig n set) ∷ rest) ≡ None)
unfolding plain_first plain_cut
shown-apart sys o now sig n set rest = (refl, refl)

pub given-apart : (sys : System) (o : ℕ) (now : Option Entry) (p n k from sig free q c r s m set : ℕ) (pars : List ℕ) (rest : List Told)
    → (behind_unit sys o now (told_new p n k from sig pars free ∷ plain (item.Inc q c r) ∷ plain (item.Pub s m set) ∷ rest) ≡ None)
    × (behind_assertion sys o now (told_new p n k from sig pars free ∷ plain (item.Inc q c r) ∷ plain (item.Pub s m set) ∷ rest) ≡ None)
unfolding given_first given_cut
given-apart sys o now p n k from sig free q c r s m set pars rest = (
  either-none (nat_lt 0 free && goes_to (sizes_of sys) (length pars) p && not (is_static sys sig)) _ (either-none ((q == p) && (c == k)) None refl),
  either-none (nat_lt 0 free && goes_to (sizes_of sys) (length pars) p && not (is_static sys sig)) _ (either-none ((q == p) && (c == k)) None refl),
)
