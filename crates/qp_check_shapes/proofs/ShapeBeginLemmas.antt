-- Fronts of units, and of calls that end in their assertions, each way.
use Rattle.std.proofs.Common.{◌≡◌, ℕ, ◌==◌, nat_lt, true, not, ◌&&◌, ◌||◌, List, [], ◌∷◌, ◌++◌, length, Some, refl, inl, inr, ◌⊎◌}
use Rattle.std.specs.declared.option.Option.{Option}
use Rattle.std.proofs.lemmas.Bool.{and_parts, or_left, and_from, or_right, false≢true}
use Rattle.std.proofs.lemmas.Option.{none-some}
use Rattle.qp_model.specs.declared.systems.System.{System}
use Rattle.qp_model.specs.declared.bodies.Entry.{Entry}
use Rattle.qp_model.specs.declared.bodies.Body.{Body}
use Rattle.qp_model.specs.declared.bodies.Body.TheVariants as item
use Rattle.qp_model.specs.Record.{entry}
use Rattle.qp_model.specs.Told.{Told, Known, Nothing, Free, Member, plain}
use Rattle.qp_model.specs.Parts.{is_static, sizes_of}
use Rattle.qp_check_shapes.specs.ShapeUnit.{is_used, goes_to, had_room, is_static_entry, is_static_now, works_on, works_on_static, some_static, behind_again, behind_new, plain_first, given_first, member_first, unit_first, behind_unit}
use Rattle.qp_check_shapes.specs.ShapeAssertion.{behind_no_entry, behind_new_cut, plain_cut, given_cut, assertion_first, behind_assertion}
use Rattle.qp_check_shapes.specs.ShapePublication.{is_nothing_behind}
use Rattle.qp_check_shapes.specs.ShapeFront.{again_front, new_front, plain_front, given_front, unit_front_first, unit_front}
use Rattle.qp_check_shapes.proofs.ShapeSoundLemmas.{passed}
use Rattle.qp_check_shapes.proofs.ShapeFrontLemmas.{Front, Leaf, leaf-whole, done-either, lift, release-front-sound, release-front-whole, again-sound, again-whole, new-sound, new-whole}
use Rattle.qp_check_shapes.proofs.ShapeRecallLemmas.{recall-sound, recall-whole}

-- a first record that states all
plain-sound : (sys : System) (o : ℕ) (now : Option Entry) (body : Body) (ts : List Told) → plain_front sys o now body ts ≡ true → Front (plain_first sys o now body) (plain_cut sys o now body) ts
unfolding plain_front plain_first plain_cut
plain-sound sys o now (item.Inc p b r) ts h =
    let tests = and_parts (works_on now p b) (again_front sys o (entry p b r) ts) h in
    lift (works_on now p b) (behind_again sys (entry p b r)) behind_no_entry ts tests.0 (again-sound sys o (entry p b r) ts tests.1)
plain-sound sys o now (item.Recall k) ts h = recall-sound sys o k ts h
plain-sound sys o now (item.Flush k) ts h = let rel = release-front-sound sys o k ts h in (rel.0, inl rel.1)
plain-sound sys o now body ts h = done-either (plain_first sys o now body) (plain_cut sys o now body) ts h

-- it is the only record of a unit,
leaf-unit : (sys : System) (o : ℕ) (now : Option Entry) (body : Body) (ts back : List Told) → Leaf (plain_first sys o now body) → plain_first sys o now body (ts ++ back) ≡ Some []
    → (is_nothing_behind (plain_first sys o now body ts) || is_nothing_behind (plain_cut sys o now body ts)) ≡ true
leaf-unit sys o now body ts back leaf h = or_left (is_nothing_behind (plain_first sys o now body ts)) (is_nothing_behind (plain_cut sys o now body ts)) (leaf-whole (plain_first sys o now body) ts back leaf h)

plain-unit : (sys : System) (o : ℕ) (now : Option Entry) (body : Body) (ts back : List Told) → plain_first sys o now body (ts ++ back) ≡ Some [] → plain_front sys o now body ts ≡ true
unfolding plain_front plain_first plain_cut
plain-unit sys o now (item.Inc p b r) ts back h =
    let tests = passed (works_on now p b) (behind_again sys (entry p b r) (ts ++ back)) [] h in
    and_from (works_on now p b) (again_front sys o (entry p b r) ts) tests.0 (again-whole sys o (entry p b r) ts back (inl tests.1))
plain-unit sys o now (item.Recall k) ts back h = recall-whole sys o k ts back (inl h)
plain-unit sys o now (item.Flush k) ts back h = release-front-whole sys o k ts back h
plain-unit sys o now (item.Say value) ts back h = leaf-unit sys o now (item.Say value) ts back (true, λ rest. refl) h
plain-unit sys o now (item.Sub sig n) ts back h = leaf-unit sys o now (item.Sub sig n) ts back (true, λ rest. refl) h
plain-unit sys o now (item.Unsub sig n) ts back h = leaf-unit sys o now (item.Unsub sig n) ts back (true, λ rest. refl) h
plain-unit sys o now item.NoDefer ts back h = leaf-unit sys o now item.NoDefer ts back (true, λ rest. refl) h
plain-unit sys o now item.NoRecall ts back h = leaf-unit sys o now item.NoRecall ts back (true, λ rest. refl) h
plain-unit sys o now (item.Short p n free r) ts back h = leaf-unit sys o now (item.Short p n free r) ts back (is_used (sizes_of sys) p, λ rest. refl) h
plain-unit sys o now (item.Arm t n ticks interval) ts back h = leaf-unit sys o now (item.Arm t n ticks interval) ts back (true, λ rest. refl) h
plain-unit sys o now (item.Rearm t n former ticks) ts back h = leaf-unit sys o now (item.Rearm t n former ticks) ts back (true, λ rest. refl) h
plain-unit sys o now (item.Disarm t n former) ts back h = leaf-unit sys o now (item.Disarm t n former) ts back (true, λ rest. refl) h
plain-unit sys o now (item.Idle t n) ts back h = leaf-unit sys o now (item.Idle t n) ts back (true, λ rest. refl) h
plain-unit sys o now (item.Post a f l m e) ts back h =
    leaf-unit sys o now (item.Post a f l m e) ts back (had_room sys a f l m && (is_static_entry sys e || is_static_now now e), λ rest. refl) h
plain-unit sys o now (item.Full a f l m k) ts back h = leaf-unit sys o now (item.Full a f l m k) ts back (some_static sys || works_on_static now, λ rest. refl) h
plain-unit sys o now (item.Lifo f l m e) ts back h = leaf-unit sys o now (item.Lifo f l m e) ts back (is_static_entry sys e, λ rest. refl) h
plain-unit sys o now (item.Defer e) ts back h = leaf-unit sys o now (item.Defer e) ts back (is_static_now now e, λ rest. refl) h
plain-unit sys o now body ts back h = absurd (none-some _ h)

-- or of an assertion
leaf-cut : (sys : System) (o : ℕ) (now : Option Entry) (body : Body) (ts back : List Told) → Leaf (plain_cut sys o now body) → plain_cut sys o now body (ts ++ back) ≡ Some []
    → (is_nothing_behind (plain_first sys o now body ts) || is_nothing_behind (plain_cut sys o now body ts)) ≡ true
leaf-cut sys o now body ts back leaf h = or_right (is_nothing_behind (plain_first sys o now body ts)) (is_nothing_behind (plain_cut sys o now body ts)) (leaf-whole (plain_cut sys o now body) ts back leaf h)

plain-asserted : (sys : System) (o : ℕ) (now : Option Entry) (body : Body) (ts back : List Told) → plain_cut sys o now body (ts ++ back) ≡ Some [] → plain_front sys o now body ts ≡ true
unfolding plain_front plain_first plain_cut
plain-asserted sys o now (item.Inc p b r) ts back h =
    let tests = passed (works_on now p b) (behind_no_entry (ts ++ back)) [] h in
    and_from (works_on now p b) (again_front sys o (entry p b r) ts) tests.0 (again-whole sys o (entry p b r) ts back (inr tests.1))
plain-asserted sys o now (item.Recall k) ts back h = recall-whole sys o k ts back (inr h)
plain-asserted sys o now (item.NoEntry a f l m) ts back h = leaf-cut sys o now (item.NoEntry a f l m) ts back (some_static sys || works_on_static now, λ rest. refl) h
plain-asserted sys o now (item.NoLifo a f l m) ts back h = leaf-cut sys o now (item.NoLifo a f l m) ts back (some_static sys && (a == o), λ rest. refl) h
plain-asserted sys o now (item.NoBlock p n free) ts back h = leaf-cut sys o now (item.NoBlock p n free) ts back (is_used (sizes_of sys) p, λ rest. refl) h
plain-asserted sys o now (item.Armed t n counter) ts back h = leaf-cut sys o now (item.Armed t n counter) ts back (true, λ rest. refl) h
plain-asserted sys o now (item.BadTicks t ticks interval) ts back h =
    leaf-cut sys o now (item.BadTicks t ticks interval) ts back (true, λ rest. refl) h
plain-asserted sys o now body ts back h = absurd (none-some _ h)

-- a block given out
given-sound : (sys : System) (o free : ℕ) (body : Body) (ts : List Told) → given_front sys o free body ts ≡ true → Front (given_first sys free body) (given_cut sys o free body) ts
unfolding given_front given_first given_cut
given-sound sys o free (item.New p n b from sig pars) ts h =
    let tests = and_parts (nat_lt 0 free && goes_to (sizes_of sys) (length pars) p && not (is_static sys sig)) (new_front sys o p b ts) h in
    lift (nat_lt 0 free && goes_to (sizes_of sys) (length pars) p && not (is_static sys sig)) (behind_new sys p b) (behind_new_cut o p b) ts tests.0 (new-sound sys o p b ts tests.1)
given-sound sys o free body ts h = absurd (false≢true h)

given-whole : (sys : System) (o free : ℕ) (body : Body) (ts back : List Told) → (given_first sys free body (ts ++ back) ≡ Some []) ⊎ (given_cut sys o free body (ts ++ back) ≡ Some []) → given_front sys o free body ts ≡ true
unfolding given_front given_first given_cut
given-whole sys o free (item.New p n b from sig pars) ts back (inl h) =
    let tests = passed (nat_lt 0 free && goes_to (sizes_of sys) (length pars) p && not (is_static sys sig)) (behind_new sys p b (ts ++ back)) [] h in
    and_from (nat_lt 0 free && goes_to (sizes_of sys) (length pars) p && not (is_static sys sig)) (new_front sys o p b ts) tests.0 (new-whole sys o p b ts back (inl tests.1))
given-whole sys o free (item.New p n b from sig pars) ts back (inr h) =
    let tests = passed (nat_lt 0 free && goes_to (sizes_of sys) (length pars) p && not (is_static sys sig)) (behind_new_cut o p b (ts ++ back)) [] h in
    and_from (nat_lt 0 free && goes_to (sizes_of sys) (length pars) p && not (is_static sys sig)) (new_front sys o p b ts) tests.0 (new-whole sys o p b ts back (inr tests.1))
given-whole sys o free body ts back (inl h) = absurd (cc)
given-whole sys o free body ts back (inr h) = absurd (cc)

first-sound : (sys : System) (o : ℕ) (now : Option Entry) (body : Body) (known : Known) (ts : List Told) → unit_front_first sys o now body known ts ≡ true
    → Front (unit_first sys o now body known) (assertion_first sys o now body known) ts
unfolding unit_front_first
first-sound sys o now body Nothing ts h = plain-sound sys o now body ts h
first-sound sys o now body (Free free) ts h = given-sound sys o free body ts h
first-sound sys o now body (Member is) ts h = done-either (unit_first sys o now body (Member is)) (assertion_first sys o now body (Member is)) ts h
first-sound sys o now body known ts h = absurd (false≢true h)

member-whole : (body : Body) (ts back : List Told) → member_first body (ts ++ back) ≡ Some [] → is_nothing_behind (member_first body ts) ≡ true
member-whole (item.Same sig n) ts back h = leaf-whole (member_first (item.Same sig n)) ts back (true, λ rest. refl) h
member-whole body ts back h = absurd (none-some _ h)

first-whole : (sys : System) (o : ℕ) (now : Option Entry) (body : Body) (known : Known) (ts back : List Told)
    → (unit_first sys o now body known (ts ++ back) ≡ Some []) ⊎ (assertion_first sys o now body known (ts ++ back) ≡ Some []) → unit_front_first sys o now body known ts ≡ true
unfolding unit_front_first
first-whole sys o now body Nothing ts back (inl h) = plain-unit sys o now body ts back h
first-whole sys o now body Nothing ts back (inr h) = plain-asserted sys o now body ts back h
first-whole sys o now body (Free free) ts back h = given-whole sys o free body ts back h
first-whole sys o now body (Member is) ts back (inl h) = or_left (is_nothing_behind (member_first body ts)) (is_nothing_behind (assertion_first sys o now body (Member is) ts)) (member-whole body ts back h)
first-whole sys o now body known ts back (inl h) = absurd (cc)
first-whole sys o now body known ts back (inr h) = absurd (cc)

-- fronts of units and of calls that assert
pub unit-front-sound : (sys : System) (o : ℕ) (now : Option Entry) (told : List Told) → unit_front sys o now told ≡ true → Front (behind_unit sys o now) (behind_assertion sys o now) told
unfolding unit_front plain_first
unit-front-sound sys o now [] h = (plain (item.Say 0) ∷ [], inl refl)
unit-front-sound sys o now (t ∷ ts) h = first-sound sys o now t.body t.known ts h

pub unit-front-whole : (sys : System) (o : ℕ) (now : Option Entry) (told back : List Told)
    → (behind_unit sys o now (told ++ back) ≡ Some []) ⊎ (behind_assertion sys o now (told ++ back) ≡ Some []) → unit_front sys o now told ≡ true
unfolding unit_front
unit-front-whole sys o now [] back h = refl
unit-front-whole sys o now (t ∷ ts) back h = first-whole sys o now t.body t.known ts back h
