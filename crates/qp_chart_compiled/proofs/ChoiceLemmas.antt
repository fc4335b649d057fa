-- Rows that are offered one after another.
use Rattle.std.proofs.Common.{◌≡◌, ℕ, zero, suc, ◌+◌, ◌-◌, ◌<◌, ◌≤◌, Bool, true, false, List, [], ◌∷◌, ◌++◌, length, get_or, take, drop, refl, sym, ◌∙◌, ap, subst, Some, arith, append_assoc, append-nil, length-append, length-drop, add-one, drop-cons}
use Rattle.std.specs.List.{filter}
use Rattle.std.proofs.lemmas.List.{drop_all, drop-append-le, take-append-le}
use Rattle.std.proofs.lemmas.List.Elements.{filter-append}
use Rattle.std.proofs.lemmas.Option.{slice_get_read}
use Rattle.qp_chart.specs.Task.{Task}
use Rattle.qp_chart.specs.declared.checked.Row.{Row}
use Rattle.qp_chart.specs.declared.checked.Chart.{Chart}
use Rattle.qp_chart_names.specs.Pairs.{Corresponds}
use Rattle.qp_chart.specs.StateTree.{state_at}
use Rattle.qp_chart.specs.Handler.{Handler, rows_of}
use Rattle.qp_chart.specs.Drill as drill
use Rattle.qp_chart.specs.Agenda.{handled, ended}
use Rattle.qp_chart_compiled.specs.declared.agenda.Plan.{Plan}
use Rattle.qp_chart_compiled.specs.declared.choice.Choice.{Choice}
use Rattle.qp_chart_compiled.specs.Codes.{row_at}
use Rattle.qp_chart_compiled.specs.Rows.{rows_from, rows_on, leaves_rest}
use Rattle.qp_chart_compiled.specs.Compiled.{IsPlan, IsChoice, between}
use Rattle.qp_chart_compiled.specs.Building.{AppendsTasks, Places, Offers}

-- tasks behind the others change nothing between two places
pub between-stays : (from to : ℕ) (ts more : List Task) → to ≤ length ts → between from to (ts ++ more) ≡ between from to ts
between-stays from to ts more h = by (to - from) refl
  where
    by : (n : ℕ) → to - from ≡ n → take n (drop from (ts ++ more)) ≡ take n (drop from ts)
    by zero e = refl
    by (suc n) e =
        ap (λ us. take (suc n) us) (drop-append-le from ts more (omega (arith, e, h)))
        ∙ take-append-le (suc n) (drop from ts) more (omega (arith, e, h, length-drop from ts))

pub extends-trans : (a b c : List Task) → AppendsTasks a b → AppendsTasks b c → AppendsTasks a c
extends-trans a b c one two = (one.0 ++ two.0, two.1 ∙ ap (λ ts. ts ++ two.0) one.1 ∙ append_assoc a one.0 two.0)

pub plan-stays : (a b : List Task) (whole : drill.Plan) (plan : Plan) → AppendsTasks a b → IsPlan a whole plan → IsPlan b whole plan
plan-stays a b whole plan more h =
    record {
      inside = omega (arith, h.inside, ap length more.1, length-append a more.0);
      tasks = ap (λ ts. between plan.agenda.from plan.agenda.to ts) more.1 ∙ between-stays plan.agenda.from plan.agenda.to a more.0 h.inside ∙ h.tasks;
      leaf = h.leaf;
    }

module _ (chart : Chart) (leaf : ℕ) where
  -- choices stay choices
  pub choices-stay : (a b : List Task) → AppendsTasks a b → (hs : List Handler) (xs : List Choice) → Corresponds (IsChoice chart a leaf) hs xs → Corresponds (IsChoice chart b leaf) hs xs
  unfolding Corresponds
  choices-stay a b more [] [] h = tt
  choices-stay a b more [] (x ∷ xs) h = absurd h
  choices-stay a b more (y ∷ ys) [] h = absurd h
  choices-stay a b more (y ∷ ys) (x ∷ xs) h =
      (record { state = h.0.state; place = h.0.place; row = h.0.row; plan = plan-stays a b _ x.plan more h.0.plan }, choices-stay a b more ys xs h.1)

  corresponds-more : (ts : List Task) (hs rows : List Handler) (xs ys : List Choice) → Corresponds (IsChoice chart ts leaf) hs xs → Corresponds (IsChoice chart ts leaf) rows ys
      → Corresponds (IsChoice chart ts leaf) (hs ++ rows) (xs ++ ys)
  unfolding Corresponds
  corresponds-more ts [] rows [] ys h k = k
  corresponds-more ts [] rows (x ∷ xs) ys h k = absurd h
  corresponds-more ts (z ∷ zs) rows [] ys h k = absurd h
  corresponds-more ts (z ∷ zs) rows (x ∷ xs) ys h k = (h.0, corresponds-more ts zs rows xs ys h.1 k)

  -- nothing is offered
  offers-none : (ts : List Task) (xs : List Choice) → Offers chart leaf [] ts ts xs xs
  offers-none ts xs = record { more = ([], sym (append-nil ts)); choices = λ hs h. rw (append-nil hs) h }

  -- one after another
  offers-then : (one two : List Handler) (a b c : List Task) (xs ys zs : List Choice) → Offers chart leaf one a b xs ys → Offers chart leaf two b c ys zs → Offers chart leaf (one ++ two) a c xs zs
  offers-then one two a b c xs ys zs h k =
      record {
        more = extends-trans a b c h.more k.more;
        choices = λ hs p. subst (λ rows. Corresponds (IsChoice chart c leaf) rows zs) (append_assoc hs one two) (k.choices (hs ++ one) (h.choices hs p));
      }

  -- one row, where it is for a signal of the class
  pub offers-row : (q : Handler → Bool) (s at k : ℕ) (row : Row) (plan : Plan) (a b : List Task) (xs ys : List Choice) → q (record { state = s; place = at + 1; row = row }) ≡ true → k ≡ at + 1
      → row_at chart s (at + 1) ≡ Some row → Places (ended (handled chart leaf (Some (record { state = s; place = k; row = row })))) a b plan
      → ys ≡ xs ++ record { state = s; place = k; plan = plan } ∷ [] → Offers chart leaf (filter q (record { state = s; place = at + 1; row = row } ∷ [])) a b xs ys
  unfolding Corresponds
  offers-row q s at k row plan a b xs ys in_it same is h e =
      rw in_it (record {
        more = h.more;
        choices = λ hs p. rw e (corresponds-more b hs _ xs _ (choices-stay a b h.more hs xs p) (record { state = refl; place = same; row = is; plan = rw same at h.placed }, tt));
      })

  pub offers-no_row : (q : Handler → Bool) (h : Handler) (ts : List Task) (xs : List Choice) → q h ≡ false → Offers chart leaf (filter q (h ∷ [])) ts ts xs xs
  offers-no_row q h ts xs out = rw out (offers-none ts xs)

  -- some rows are offered, and some are left
  pub record Offering (rows left : List Handler) (old new : List Task) (before after : List Choice) : Type 0 where
    pub done : List Handler
    pub offers : Offers chart leaf done old new before after
    pub is : done ++ left ≡ rows

  pub offering-all : (rows left : List Handler) (ts : List Task) (xs : List Choice) → left ≡ rows → Offering rows left ts ts xs xs
  offering-all rows left ts xs e = record { done = []; offers = offers-none ts xs; is = e }

  pub offering-less : (rows left one rest : List Handler) (a b c : List Task) (xs ys zs : List Choice) → left ≡ one ++ rest → Offers chart leaf one b c ys zs
      → Offering rows left a b xs ys → Offering rows rest a c xs zs
  offering-less rows left one rest a b c xs ys zs e k h =
      record {
        done = h.done ++ one;
        offers = offers-then h.done one a b c xs ys zs h.offers k;
        is = append_assoc h.done one rest ∙ ap (λ hs. h.done ++ hs) (sym e) ∙ h.is;
      }

  pub offering-end : (rows left : List Handler) (a b : List Task) (xs ys : List Choice) → left ≡ [] → Offering rows left a b xs ys → Offers chart leaf rows a b xs ys
  offering-end rows left a b xs ys e h =
      subst (λ hs. Offers chart leaf hs a b xs ys) (sym (append-nil h.done) ∙ ap (λ hs. h.done ++ hs) (sym e) ∙ h.is) h.offers

-- the rows of a class that are left of a state's
abbrev pub rows_left : (width rest s i : ℕ) → List Row → List Handler
rows_left width rest s i rows = filter (leaves_rest width rest) (rows_from s (i + 1) (drop i rows))

row-left : (s i : ℕ) (rows : List Row) (row : Row) → i < length rows → row ≡ get_or rows i row
    → rows_from s (i + 1) (drop i rows) ≡ record { state = s; place = i + 1; row = row } ∷ rows_from s (i + 1 + 1) (drop (i + 1) rows)
unfolding rows_from
row-left s i rows row h is =
    let rest : drop i rows ≡ row ∷ drop (i + 1) rows = rw add-one (drop-cons rows i row h ∙ ap (λ y. y ∷ drop (suc i) rows) (sym is)) in
    ap (λ rs. rows_from s (i + 1) rs) rest

pub row-next : (width rest s i : ℕ) (rows : List Row) (row : Row) → i < length rows → row ≡ get_or rows i row
    → rows_left width rest s i rows ≡ filter (leaves_rest width rest) (record { state = s; place = i + 1; row = row } ∷ []) ++ rows_left width rest s (i + 1) rows
row-next width rest s i rows row h is =
    ap (λ hs. filter (leaves_rest width rest) hs) (row-left s i rows row h is)
    ∙ filter-append (leaves_rest width rest) (record { state = s; place = i + 1; row = row } ∷ []) (rows_from s (i + 1 + 1) (drop (i + 1) rows))

pub rows-end : (width rest s i : ℕ) (rows : List Row) → length rows ≤ i → rows_left width rest s i rows ≡ []
unfolding rows_from
rows-end width rest s i rows h = ap (λ rs. filter (leaves_rest width rest) (rows_from s (i + 1) rs)) (drop_all i rows h)

-- the row of a place
pub row-is : (chart : Chart) (s i : ℕ) (rows : List Row) (row : Row) → rows ≡ rows_of (state_at chart s) → i < length rows → row ≡ get_or rows i row → row_at chart s (i + 1) ≡ Some row
unfolding row_at
row-is chart s i rows row e h item =
    let place : (i + 1) - 1 ≡ i = omega arith in
    rw (← e, place) (slice_get_read rows (length rows) i row refl h item)

-- the rows of a class that are left on a path
abbrev pub rows_beyond : Chart → (width rest i : ℕ) → List ℕ → List Handler
rows_beyond chart width rest i path = filter (leaves_rest width rest) (rows_on chart (drop i path))

pub state-in : (chart : Chart) (width rest i s : ℕ) (path : List ℕ) → i < length path → s ≡ get_or path i 0
    → rows_beyond chart width rest i path ≡ filter (leaves_rest width rest) (rows_from s 1 (rows_of (state_at chart s))) ++ rows_beyond chart width rest (i + 1) path
unfolding rows_on
state-in chart width rest i s path h is =
    let left : drop i path ≡ s ∷ drop (i + 1) path = rw add-one (drop-cons path i 0 h ∙ ap (λ y. y ∷ drop (suc i) path) (sym is)) in
    ap (λ p. filter (leaves_rest width rest) (rows_on chart p)) left
    ∙ filter-append (leaves_rest width rest) (rows_from s 1 (rows_of (state_at chart s))) (rows_on chart (drop (i + 1) path))

pub path-end : (chart : Chart) (width rest i : ℕ) (path : List ℕ) → length path ≤ i → rows_beyond chart width rest i path ≡ []
unfolding rows_on
path-end chart width rest i path h = ap (λ p. filter (leaves_rest width rest) (rows_on chart p)) (drop_all i path h)
