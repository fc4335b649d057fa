-- An entry has the event of the life that holds its reference.
use Rattle.std.proofs.Common.{◌≡◌, ℕ, ◌<◌, ◌≤◌, ◌==◌, nat_lt, nat_le, Bool, true, false, not, ◌&&◌, ◌||◌, cond, List, [], ◌∷◌, ◌++◌, length, refl, ◌∙◌, ap, subst, ◌⊎◌, inl, inr, Option, Some, None, arith, ◌↔◌}
use Rattle.std.specs.Option.{unwrap_or}
use Rattle.std.specs.List.{list_all, filter_map, cons_option}
use Rattle.std.proofs.lemmas.Bool.{and_parts}
use Rattle.std.proofs.lemmas.Bool.Decides.{nat_tests}
use Rattle.qp_model.specs.declared.record.Rec.{Rec}
use Rattle.qp_model.specs.declared.systems.System.{System}
use Rattle.qp_model.specs.declared.words.Word.TheVariants as word
use Rattle.qp_model.specs.declared.bodies.Body.{Body}
use Rattle.qp_model.specs.declared.bodies.Body.TheVariants.{New, Back}
use Rattle.qp_model.specs.Record.{Item, entry}
use Rattle.qp_model.specs.Told.{Event}
use Rattle.qp_model.specs.History.{hist, all_items}
use Rattle.qp_model.specs.Machine.{after, allowed_from, is_allowed}
use Rattle.qp_model.specs.Lives.{Life, life_of, life_next, life_may, edge_of, edges, edges_empty, refs_at, is_empty, HasLives}
use Rattle.qp_model.specs.Knowing.{given_by, last_given, life_event, event_of_entry, event_known}
use Rattle.qp_model.specs.WordLaw.{Words, is_pool, is_block}
use Rattle.qp_model.specs.Sites.{blocks_of}
use Rattle.qp_model.specs.Promises as promise
use Rattle.qp_model.specs.Promises.{operations, back_of, life_end, LiesInLife}
use Rattle.qp_model.proofs.MachineLemmas.{is_allowed-rest}
use Rattle.qp_model.proofs.LineLemmas.{same_number}
use Rattle.qp_model.proofs.PromiseLemmas.{numbered_once}

module _ (b r : ℕ) where
  given-append : (e : Option Event) (xs ys : List Item) → last_given b r e (xs ++ ys) ≡ last_given b r (last_given b r e xs) ys
  unfolding last_given
  given-append e [] ys = refl
  given-append e (x ∷ xs) ys = given-append (given_by b r e x.body) xs ys

  -- behind an edge above r no operation changes the event
  given-past : (e : Option Event) (s : Life) (is : List Item) → allowed_from (life_of b) s is ≡ true → r < s.edge → last_given b r e is ≡ e
  unfolding allowed_from last_given
  given-past e s [] h past = refl
  given-past e s (i ∷ is) h past = go i.body (λ t h past. given-past e t is h past) (and_parts _ _ h).0 (and_parts _ _ h).1
    where
      go : (c : Body) → ((t : Life) → allowed_from (life_of b) t is ≡ true → r < t.edge → last_given b r e is ≡ e)
          → life_may b s c ≡ true → allowed_from (life_of b) (life_next b s c) is ≡ true → last_given b r (given_by b r e c) is ≡ e
      go (New p n c from sig pars) later may rest = at (c == b) may rest
        where
          at : (same : Bool) → (not same || (not s.out && (from == s.edge))) ≡ true
              → allowed_from (life_of b) (cond same (record { out = true; edge = from }) s) is ≡ true
              → last_given b r (cond (same && nat_le from r) (Some (record { sig = sig; pars = pars })) e) is ≡ e
          at true may rest =
              let begins : (from == s.edge) ≡ true = (and_parts _ _ may).1 in
              let above : nat_le from r ≡ false = grind (arith, nat_tests, past, begins) in
              rw above (later (record { out = true; edge = from }) rest (grind (arith, nat_tests, past, begins)))
          at false may rest = later s rest past
      go (Back p n c to) later may rest = at (c == b) may rest
        where
          at : (same : Bool) → (not same || (s.out && nat_lt s.edge to)) ≡ true
              → allowed_from (life_of b) (cond same (record { out = false; edge = to }) s) is ≡ true
              → last_given b r (cond (same && nat_le to r) None e) is ≡ e
          at true may rest =
              let ends : nat_lt s.edge to ≡ true = (and_parts _ _ may).1 in
              let above : nat_le to r ≡ false = grind (arith, nat_tests, past, ends) in
              rw above (later (record { out = false; edge = to }) rest (grind (arith, nat_tests, past, ends)))
          at false may rest = later s rest past
      go _ later may rest = later s rest past

  -- while the block is out, the event is that of its life up to the life's end
  given-out : (e : Option Event) (whole : ℕ) (s : Life) (is : List Item) → allowed_from (life_of b) s is ≡ true → s.out ≡ true → r < life_end b whole is
      → last_given b r e is ≡ e
  unfolding allowed_from last_given life_end
  given-out e whole s [] h out going = refl
  given-out e whole s (i ∷ is) h out going = go i.body (λ h going. given-out e whole s is h out going) (and_parts _ _ h).0 (and_parts _ _ h).1 going
    where
      go : (c : Body) → (allowed_from (life_of b) s is ≡ true → r < life_end b whole is → last_given b r e is ≡ e)
          → life_may b s c ≡ true → allowed_from (life_of b) (life_next b s c) is ≡ true → r < unwrap_or (back_of b c) (life_end b whole is)
          → last_given b r (given_by b r e c) is ≡ e
      go (New p n c from sig pars) later may rest going = at (c == b) may rest
        where
          at : (same : Bool) → (not same || (not s.out && (from == s.edge))) ≡ true
              → allowed_from (life_of b) (cond same (record { out = true; edge = from }) s) is ≡ true
              → last_given b r (cond (same && nat_le from r) (Some (record { sig = sig; pars = pars })) e) is ≡ e
          at true may rest = let wrong : (not true && (from == s.edge)) ≡ true = rw out at may in absurd (cc)
          at false may rest = later rest going
      go (Back p n c to) later may rest going = at (c == b) may rest going
        where
          at : (same : Bool) → (not same || (s.out && nat_lt s.edge to)) ≡ true
              → allowed_from (life_of b) (cond same (record { out = false; edge = to }) s) is ≡ true → r < unwrap_or (cond same (Some to) None) (life_end b whole is)
              → last_given b r (cond (same && nat_le to r) None e) is ≡ e
          at true may rest going =
              let above : nat_le to r ≡ false = grind (arith, nat_tests, going) in
              rw above (given-past e (record { out = false; edge = to }) is rest going)
          at false may rest going = later rest going
      go _ later may rest going = later rest going

-- a life ends within the history of its block
end-within : (b : ℕ) (block is : List Item) → edges_empty b is block ≡ true → life_end b (length block) is ≤ length block
unfolding edges_empty edges life_end
end-within b block [] h = omega arith
end-within b block (i ∷ is) h = go i.body (λ h. end-within b block is h) h
  where
    go : (c : Body)
        → (list_all (λ n. nat_le n (length block) && is_empty (refs_at n block)) (filter_map (λ i. edge_of b i.body) is) ≡ true → life_end b (length block) is ≤ length block)
        → list_all (λ n. nat_le n (length block) && is_empty (refs_at n block)) (cons_option (edge_of b c) (filter_map (λ i. edge_of b i.body) is)) ≡ true
        → unwrap_or (back_of b c) (life_end b (length block) is) ≤ length block
    go (New p n c from sig pars) later h = at (c == b) h
      where
        at : (same : Bool)
            → list_all (λ n. nat_le n (length block) && is_empty (refs_at n block)) (cons_option (cond same (Some from) None) (filter_map (λ i. edge_of b i.body) is)) ≡ true
            → life_end b (length block) is ≤ length block
        at true h = later (and_parts _ _ h).1
        at false h = later h
    go (Back p n c to) later h = at (c == b) h
      where
        at : (same : Bool)
            → list_all (λ n. nat_le n (length block) && is_empty (refs_at n block)) (cons_option (cond same (Some to) None) (filter_map (λ i. edge_of b i.body) is)) ≡ true
            → unwrap_or (cond same (Some to) None) (life_end b (length block) is) ≤ length block
        at true h =
            let within : nat_le to (length block) ≡ true = (and_parts _ _ (and_parts _ _ h).0).0 in
            grind (arith, nat_tests, within)
        at false h = later h
    go _ later h = later h

-- where a `new` with the event is found, behind which number r stays in the life that it begins
record LifeHas (b r whole : ℕ) (ev : Event) (is : List Item) : Type 0 where
  earlier : List Item
  later : List Item
  by : ℕ
  pool : ℕ
  number : ℕ
  from : ℕ
  given : is ≡ earlier ++ record { of = by; body = New pool number b from ev.sig ev.pars } ∷ later
  begun : from ≤ r
  going : r < life_end b whole later

module _ (b r whole : ℕ) (ev : Event) (within : r < whole) where
  further : (i : Item) (is : List Item) → LifeHas b r whole ev is → LifeHas b r whole ev (i ∷ is)
  further i is f = record {
    earlier = i ∷ f.earlier;
    later = f.later;
    by = f.by;
    pool = f.pool;
    number = f.number;
    from = f.from;
    given = ap (λ xs. i ∷ xs) f.given;
    begun = f.begun;
    going = f.going;
  }

  -- the event comes from a `new` among the operations, or it was that before them, and its life goes on
  found-in : (e : Option Event) (is : List Item) → last_given b r e is ≡ Some ev → LifeHas b r whole ev is ⊎ ((e ≡ Some ev) × (r < life_end b whole is))
  unfolding last_given life_end
  found-in e [] h = inr (h, within)
  found-in e (i ∷ is) h = elim (found-in (given_by b r e i.body) is h) [ inl f ↦ inl (further i is f) | inr k ↦ here i k.0 k.1 ]
    where
      here : (i : Item) → given_by b r e i.body ≡ Some ev → r < life_end b whole is
          → LifeHas b r whole ev (i ∷ is) ⊎ ((e ≡ Some ev) × (r < unwrap_or (back_of b i.body) (life_end b whole is)))
      here i h going = by_body i.body refl h
        where
          same_item : (c : Body) → i.body ≡ c → i ≡ record { of = i.of; body = c }
          same_item c e = ap (λ c. record { of = i.of; body = c }) e

          by_body : (c : Body) → i.body ≡ c → given_by b r e c ≡ Some ev
              → LifeHas b r whole ev (i ∷ is) ⊎ ((e ≡ Some ev) × (r < unwrap_or (back_of b c) (life_end b whole is)))
          by_body (New p n c from sig pars) is_body h = at (c == b) refl (nat_le from r) refl h
            where
              at : (same : Bool) → (c == b) ≡ same → (begun : Bool) → nat_le from r ≡ begun
                  → cond (same && begun) (Some (record { sig = sig; pars = pars })) e ≡ Some ev
                  → LifeHas b r whole ev (i ∷ is) ⊎ ((e ≡ Some ev) × (r < life_end b whole is))
              at true is_b true is_begun h =
                  let is_block : c ≡ b = grind (arith, nat_tests) in
                  let is_event : record { sig = sig; pars = pars } ≡ ev = cc in
                  inl
                  (record {
                    earlier = [];
                    later = is;
                    by = i.of;
                    pool = p;
                    number = n;
                    from = from;
                    given = ap (λ x. x ∷ is)
                        (same_item (New p n c from sig pars) is_body
                        ∙ ap (λ c. record { of = i.of; body = New p n c from sig pars }) is_block
                        ∙ ap (λ (v : Event). record { of = i.of; body = New p n b from v.sig v.pars }) is_event);
                    begun = grind (arith, nat_tests);
                    going = going;
                  })
              at true is_b false is_begun h = inr (h, going)
              at false is_b begun is_begun h = inr (h, going)
          by_body (Back p n c to) is_body h = at (c == b) (nat_le to r) refl h
            where
              at : (same : Bool) (ended : Bool) → nat_le to r ≡ ended → cond (same && ended) None e ≡ Some ev
                  → LifeHas b r whole ev (i ∷ is) ⊎ ((e ≡ Some ev) × (r < unwrap_or (cond same (Some to) None) (life_end b whole is)))
              at true true is_ended h = absurd (cc)
              at true false is_ended h = inr (h, grind (arith, nat_tests))
              at false ended is_ended h = inr (h, going)
          by_body _ is_body h = inr (h, going)

-- the edges behind some operations are edges
edges-behind : (b : ℕ) (block xs ys : List Item) → edges_empty b (xs ++ ys) block ≡ true → edges_empty b ys block ≡ true
unfolding edges_empty edges
edges-behind b block [] ys h = h
edges-behind b block (x ∷ xs) ys h = edges-behind b block xs ys (behind (edge_of b x.body) h)
  where
    behind : (o : Option ℕ) → list_all (λ n. nat_le n (length block) && is_empty (refs_at n block)) (cons_option o (filter_map (λ i. edge_of b i.body) (xs ++ ys))) ≡ true
        → list_all (λ n. nat_le n (length block) && is_empty (refs_at n block)) (filter_map (λ i. edge_of b i.body) (xs ++ ys)) ≡ true
    behind None h = h
    behind (Some x) h = (and_parts _ _ h).1

-- a number that lies in a life of the event has it
life-gives : (p b r : ℕ) (ev : Event) (pool block : List Item) → HasLives b pool block → LiesInLife p b r ev pool block
    → (r < length block) × (last_given b r None pool ≡ Some ev)
unfolding allowed_from last_given
life-gives p b r ev pool block lives l =
    let i : Item = record { of = l.by; body = New p l.number b l.from ev.sig ev.pars } in
    let split : is_allowed (life_of b) (l.earlier ++ i ∷ l.later) ≡ true = subst (λ h. is_allowed (life_of b) h ≡ true) l.given lives.alternate in
    let rest : allowed_from (life_of b) (after (life_of b) l.earlier) (i ∷ l.later) ≡ true = is_allowed-rest (life_of b) l.earlier (i ∷ l.later) split in
    let behind : allowed_from (life_of b) (record { out = true; edge = l.from }) l.later ≡ true =
    subst (λ same. allowed_from (life_of b) (cond same (record { out = true; edge = l.from }) (after (life_of b) l.earlier)) l.later ≡ true) (same_number b) (and_parts _ _ rest).1 in
    let some : edges_empty b (l.earlier ++ i ∷ l.later) block ≡ true = subst (λ h. edges_empty b h block ≡ true) l.given lives.empty in
    let later_edges : edges_empty b l.later block ≡ true = edges-behind b block (i ∷ []) l.later (edges-behind b block l.earlier (i ∷ l.later) some) in
    let within : life_end b (length block) l.later ≤ length block = end-within b block l.later later_edges in
    let begun : nat_le l.from r ≡ true = grind (arith, nat_tests, l.begun) in
    let begins : given_by b r (last_given b r None l.earlier) i.body ≡ Some ev = rw (same_number b, begun) refl in (
      omega (arith, l.going, within),
      ap (last_given b r None) l.given ∙ given-append b r None l.earlier (i ∷ l.later) ∙ ap (λ e. last_given b r e l.later) begins
          ∙ given-out b r (Some ev) (length block) (record { out = true; edge = l.from }) l.later behind refl l.going,
    )

module _ (sys : System) (lanes : List (List Rec)) (words : Words sys lanes) (p b r : ℕ) (ev : Event) (is_in : is_block sys p b ≡ true) where
  in_pool : is_pool sys p ≡ true
  unfolding is_block
  in_pool = (and_parts (is_pool sys p) (nat_lt b (blocks_of sys p)) is_in).0

  life-of : LiesInLife p b r ev (operations (word.Pool p) lanes) (operations (word.Block p b) lanes)
      → life_event (record { sys = sys; items = all_items lanes }) p b r ≡ Some ev
  unfolding operations life_event
  life-of l =
      let gives = life-gives p b r ev (hist (word.Pool p) (all_items lanes)) (hist (word.Block p b) (all_items lanes)) (words.lives p b is_in) l in
      let below : nat_lt r (length (hist (word.Block p b) (all_items lanes))) ≡ true = grind (arith, nat_tests, gives.0) in
      rw below gives.1

  of-pool : LifeHas b r (length (operations (word.Block p b) lanes)) ev (operations (word.Pool p) lanes)
      → LiesInLife p b r ev (operations (word.Pool p) lanes) (operations (word.Block p b) lanes)
  of-pool f =
      let i : Item = record { of = f.by; body = New f.pool f.number b f.from ev.sig ev.pars } in
      let drawn = (numbered_once (word.Pool p) lanes (words.pools p in_pool).numbers).placed f.earlier f.later i f.given in
      let same : (f.pool == p) ≡ true = (and_parts _ _ drawn).0 in
      let is : f.pool ≡ p = grind (arith, nat_tests, same) in
      record {
        earlier = f.earlier;
        later = f.later;
        by = f.by;
        number = f.number;
        from = f.from;
        given = f.given ∙ ap (λ q. f.earlier ++ record { of = f.by; body = New q f.number b f.from ev.sig ev.pars } ∷ f.later) is;
        begun = f.begun;
        going = f.going;
      }

  of-life : life_event (record { sys = sys; items = all_items lanes }) p b r ≡ Some ev
      → LiesInLife p b r ev (operations (word.Pool p) lanes) (operations (word.Block p b) lanes)
  unfolding operations life_event
  of-life h = go (nat_lt r (length (hist (word.Block p b) (all_items lanes)))) refl h
    where
      found : r < length (hist (word.Block p b) (all_items lanes)) → last_given b r None (hist (word.Pool p) (all_items lanes)) ≡ Some ev
          → LiesInLife p b r ev (hist (word.Pool p) (all_items lanes)) (hist (word.Block p b) (all_items lanes))
      found within h =
          elim (found-in b r (length (hist (word.Block p b) (all_items lanes))) ev within None (hist (word.Pool p) (all_items lanes)) h) [
            | inl f ↦ of-pool f
            | inr k ↦ let never : None ≡ Some ev = k.0 in absurd (cc)
          ]

      go : (below : Bool) → nat_lt r (length (hist (word.Block p b) (all_items lanes))) ≡ below
          → cond below (last_given b r None (hist (word.Pool p) (all_items lanes))) None ≡ Some ev
          → LiesInLife p b r ev (hist (word.Pool p) (all_items lanes)) (hist (word.Block p b) (all_items lanes))
      go true is h = let lt : r < length (hist (word.Block p b) (all_items lanes)) = grind (arith, nat_tests, is) in found lt h
      go false is h = absurd (cc)

  pub event-is : (event_of_entry (record { sys = sys; items = all_items lanes }) (entry p b r) ≡ Some ev)
      ↔ LiesInLife p b r ev (operations (word.Pool p) lanes) (operations (word.Block p b) lanes)
  unfolding event_of_entry
  event-is =
      let above : nat_lt 0 p ≡ true = (and_parts _ _ in_pool).0 in
      let pooled : (p == 0) ≡ false = grind (arith, nat_tests, above) in
      rw pooled (of-life, life-of)

pub event_is_of_its_life : promise.EventIsOfItsLife
event_is_of_its_life sys lanes words p b is_in r ev = event-is sys lanes words p b r ev is_in

-- what is known of an event tells it
pub event_known-same : (a b : Option Event) → event_known a ≡ event_known b → a ≡ b
event_known-same None None h = refl
event_known-same None (Some y) h = absurd (cc)
event_known-same (Some x) None h = absurd (cc)
event_known-same (Some x) (Some y) h = cc
