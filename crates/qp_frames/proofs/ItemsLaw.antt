-- A journal in range, item by item: its items are taken one after another, as the lines of its text are.
use Rattle.std.proofs.Common.{◌≡◌, ◌∙◌, ℕ, ◌+◌, true, List, [], ◌∷◌, ◌++◌, Option, Some, None, Result, Ok, Err, refl, sym, ap, append_assoc, append-nil, arith, inl, inr}
use Rattle.std.specs.Prelude.{◌⊎◌}
use Rattle.std.proofs.lemmas.Fmt.{decimal_digit}
use Rattle.qp_model.specs.Kinds.{QP}
use Rattle.qp_model.specs.declared.journals.Journal.{Journal}
use Rattle.qp_model.specs.Output.{JournalItem, item, items_of}
use Rattle.qp_model.specs.OutputText.{lines_text, text}
use Rattle.qp_text.specs.declared.progress.Reading.{Reading}
use Rattle.qp_text.specs.Parts.{split}
use Rattle.qp_text.specs.LineItem.{form_of_line, form_of_parts, item_of_line}
use Rattle.qp_text.specs.Progress.{all_lanes, nothing_read, journal_of, take_item}
use Rattle.qp_text.specs.ReadText.{after_line, finish, form_at, last_part, read_parts, read_text, take_line, take_read}
use Rattle.qp_text.specs.TextLaw.{IsWritable}
use Rattle.qp_text.proofs.ItemLaw.{item_of_line-is}
use Rattle.qp_text.proofs.LineText.{IsItem, bare_line, line-free, line-parts, line-read}
use Rattle.qp_text.proofs.ProgressLaw.{Good, take_item-is}
use Rattle.qp_text.proofs.ReadLemmas.{read-next, split-cons}
use Rattle.qp_text.proofs.SplitLemmas.{split-first}
use Rattle.qp_text.proofs.TakenLaw.{taken}
use Rattle.qp_text.proofs.TextLaw.{form-known, ok-pair}
use Rattle.qp_text.proofs.TextRead.{reading_is_exact}

-- what follows a value, if there is one
abbrev pub and_next : {A B E : Type 0} → Result A E → (A → Result B E) → Result B E
and_next (Ok a) next = next a
and_next (Err e) next = Err e

-- items in a form, taken one after another
abbrev pub take_items : ℕ → Reading → List JournalItem → Result Reading ℕ
take_items form p [] = Ok p
take_items form p (i ∷ items) = and_next (take_item form p i) (λ q. take_items form q items)

-- each is an item of the form
abbrev pub AllItems : ℕ → List JournalItem → Type 0
AllItems form [] = Unit {0}
AllItems form (i ∷ items) = IsItem form i × AllItems form items

-- these items lead from here to a journal in its form
pub record Leads (p : Reading) (v : ℕ) (j : Journal) (items : List JournalItem) : Type 0 where
  pub fits : AllItems v items
  pub reading : Reading
  pub status : ℕ
  pub taken : take_items v p items ≡ Ok reading
  pub ended : reading.end ≡ Some status
  pub form : reading.form ≡ v
  pub journal : journal_of reading status ≡ j

-- a reading under way in this form
pub record Under (form : ℕ) (p : Reading) : Type 0 where
  pub good : Good p
  pub begun : p.begun ≡ true
  pub form_is : p.form ≡ form
  pub known : (form ≡ 1) ⊎ (form ≡ 2)

-- one item more
pub under-next : (form : ℕ) (p q : Reading) (i : JournalItem) → Under form p → IsItem form i → take_item form p i ≡ Ok q
    → Under form q × (taken q ≡ taken p ++ i ∷ [])
under-next form p q i under is takes =
    let shown = take_item-is form p q i under.good (λ begun. under.form_is) under.known is.first is.past is.count is.fits takes in
    (record { good = inl (shown.begun, shown.ranged); begun = shown.begun; form_is = shown.form_is; known = under.known }, shown.items)

-- the first item
pub under-first : (form : ℕ) (q : Reading) (i : JournalItem) → (form ≡ 1) ⊎ (form ≡ 2) → IsItem form i → take_item form nothing_read i ≡ Ok q
    → Under form q × (taken q ≡ i ∷ [])
under-first form q i known is takes =
    let shown = take_item-is form nothing_read q i (inr refl) (λ begun. absurd cc) known is.first is.past is.count is.fits takes in
    (record { good = inl (shown.begun, shown.ranged); begun = shown.begun; form_is = shown.form_is; known = known }, shown.items)

-- it states the form
pub first-states : (form : ℕ) (q : Reading) (i : JournalItem) → (form ≡ 1) ⊎ (form ≡ 2) → IsItem form i → take_item form nothing_read i ≡ Ok q
    → i ≡ item QP (form ∷ q.kernel ∷ q.budget ∷ [])
first-states form q i known is takes =
    let under = under-first form q i known is takes in
    let all = rw (under.0.begun, under.0.form_is) at under.1 in
    cc

-- an item that is taken, and those behind it
pub taken-cons : (form : ℕ) (p q : Reading) (i : JournalItem) (items : List JournalItem) → take_items form p (i ∷ items) ≡ Ok q
    → (r : Reading) × (take_item form p i ≡ Ok r) × (take_items form r items ≡ Ok q)
taken-cons form p q i items is = go (take_item form p i) refl is where
  go : (read : Result Reading ℕ) → take_item form p i ≡ read → and_next read (λ r. take_items form r items) ≡ Ok q
      → (r : Reading) × (take_item form p i ≡ Ok r) × (take_items form r items ≡ Ok q)
  go (Ok r) read is = (r, read, is)
  go (Err code) read is = absurd cc

pub leads-tail : (v : ℕ) (p : Reading) (j : Journal) (i : JournalItem) (items : List JournalItem) → Leads p v j (i ∷ items)
    → (q : Reading) × IsItem v i × (take_item v p i ≡ Ok q) × Leads q v j items
leads-tail v p j i items leads =
    let first = taken-cons v p leads.reading i items leads.taken in
    let rest : Leads first.0 v j items = record {
      fits = leads.fits.1;
      reading = leads.reading;
      status = leads.status;
      taken = first.2;
      ended = leads.ended;
      form = leads.form;
      journal = leads.journal;
    } in
    (first.0, leads.fits.0, first.1, rest)

-- some item leads to a journal
pub leads-some : {A : Type 0} (v : ℕ) (j : Journal) → Leads nothing_read v j [] → A
leads-some v j leads =
    let same : nothing_read ≡ leads.reading = let all = leads.taken in cc in
    let none = rw (← same) at leads.ended in absurd cc

-- a reading's items, after more of them
under-all : (form : ℕ) (p q : Reading) (items : List JournalItem) → Under form p → AllItems form items → take_items form p items ≡ Ok q
    → Under form q × (taken q ≡ taken p ++ items)
under-all form p q [] under fits is =
    let same : p ≡ q = cc in
    rw (← same) (under, sym (append-nil (taken p)))
under-all form p q (i ∷ items) under fits is =
    let first = taken-cons form p q i items is in
    let next = under-next form p first.0 i under fits.0 first.1 in
    let all = under-all form first.0 q items next.0 fits.1 first.2 in
    (all.0, all.1 ∙ ap (λ t. t ++ items) next.1 ∙ append_assoc (taken p) (i ∷ []) items)

-- the items that lead to a journal are the journal's
ended-items : (v : ℕ) (q : Reading) (status : ℕ) → Under v q → q.end ≡ Some status → taken q ≡ items_of v (journal_of q status)
ended-items v q status under end = go under.good where
  go : Good q → taken q ≡ items_of v (journal_of q status)
  go (inr start) = let none = rw start at end in absurd cc
  go (inl good) =
      let last = good.1.ended status end in
      let lanes_are : all_lanes q ≡ q.lanes = rw last.1 (append-nil q.lanes) in
      rw (under.begun, end, lanes_are, under.form_is) refl

pub leads-items : (v : ℕ) (j : Journal) (items : List JournalItem) → (v ≡ 1) ⊎ (v ≡ 2) → Leads nothing_read v j items → items_of v j ≡ items
leads-items v j [] known leads = leads-some v j leads
leads-items v j (i ∷ items) known leads =
    let first = leads-tail v nothing_read j i items leads in
    let under = under-first v first.0 i known first.1 first.2 in
    let rest = first.3 in
    let all = under-all v first.0 rest.reading items under.0 rest.fits rest.taken in
    ap (items_of v) (sym rest.journal) ∙ sym (ended-items v rest.reading rest.status all.0 rest.ended) ∙ all.1 ∙ ap (λ t. t ++ items) under.1

-- a line that is taken is one of an item that is taken
line-item : (at form : ℕ) (p q : Reading) (line : List ℕ) → at ≡ form → take_read at p (item_of_line at line) ≡ Ok q
    → (i : JournalItem) × IsItem form i × (take_item form p i ≡ Ok q)
line-item at form p q line same is = rw (← same) (go (item_of_line at line) refl is) where
  go : (read : Result JournalItem ℕ) → item_of_line at line ≡ read → take_read at p read ≡ Ok q → (i : JournalItem) × IsItem at i × (take_item at p i ≡ Ok q)
  go (Err code) read is = absurd cc
  go (Ok i) read is =
      let shown = item_of_line-is at line i read in
      (i, record { first = shown.first; past = shown.past; count = shown.count; fits = shown.fits }, is)

-- a line that is taken, and the lines behind it
after_line-is : (number v : ℕ) (j : Journal) (read : Result Reading ℕ) (next : Reading → Result (ℕ × Journal) (ℕ × ℕ)) → after_line number read next ≡ Ok (v, j)
    → (q : Reading) × (read ≡ Ok q) × (next q ≡ Ok (v, j))
after_line-is number v j (Ok q) next is = (q, refl, is)
after_line-is number v j (Err code) next is = absurd cc

-- the end of a text
finish-is : (number v : ℕ) (p : Reading) (j : Journal) (ended : Option ℕ) → p.end ≡ ended → finish number p ended ≡ Ok (v, j) → Leads p v j []
finish-is number v p j None end is = absurd cc
finish-is number v p j (Some status) end is =
    let same = ok-pair p.form v (journal_of p status) j is in
    record { fits = tt; reading = p; status = status; taken = refl; ended = end; form = same.0; journal = same.1 }

last_part-is : (number v : ℕ) (p : Reading) (j : Journal) (part : List ℕ) → last_part number p part ≡ Ok (v, j) → Leads p v j []
last_part-is number v p j [] is = finish-is number v p j p.end refl is
last_part-is number v p j (b ∷ part) is = absurd cc

-- an item before those that lead to a journal
leads-cons : (form v : ℕ) (p q : Reading) (j : Journal) (i : JournalItem) (items : List JournalItem) → form ≡ v → IsItem form i → take_item form p i ≡ Ok q
    → Leads q v j items → Leads p v j (i ∷ items)
leads-cons form v p q j i items same is takes leads = record {
  fits = (rw (← same) is, leads.fits);
  reading = leads.reading;
  status = leads.status;
  taken = let first = rw same at takes in rw first leads.taken;
  ended = leads.ended;
  form = leads.form;
  journal = leads.journal;
}

-- the lines from here on are those of items
read_parts-items : (form number v : ℕ) (p : Reading) (j : Journal) (part : List ℕ) (parts : List (List ℕ)) → Under form p
    → read_parts number p (part ∷ parts) ≡ Ok (v, j) → (form ≡ v) × (items : List JournalItem) × Leads p v j items
read_parts-items form number v p j part [] under is =
    let leads = last_part-is number v p j part is in
    let same : p ≡ leads.reading = let all = leads.taken in cc in
    (sym under.form_is ∙ ap (λ (q : Reading). q.form) same ∙ leads.form, [], leads)
read_parts-items form number v p j line (part ∷ parts) under is =
    let form_is : form_at p line ≡ form = rw under.begun under.form_is in
    let read = after_line-is number v j (take_line p line) (λ q. read_parts (number + 1) q (part ∷ parts)) is in
    let i = line-item (form_at p line) form p read.0 line form_is read.1 in
    let next = under-next form p read.0 i.0 under i.1 i.2 in
    let rest = read_parts-items form (number + 1) v read.0 j part parts next.0 read.2 in
    (rest.0, i.0 ∷ rest.1, leads-cons form v p read.0 j i.0 rest.1 rest.0 i.1 i.2 rest.2)

known-same : (form v : ℕ) → form ≡ v → (form ≡ 1) ⊎ (form ≡ 2) → (v ≡ 1) ⊎ (v ≡ 2)
known-same form v same known = rw same at known

-- a text that is read is that of items
read_text-items : (v : ℕ) (j : Journal) (bytes : List ℕ) → read_text bytes ≡ Ok (v, j) → ((v ≡ 1) ⊎ (v ≡ 2)) × (items : List JournalItem) × Leads nothing_read v j items
read_text-items v j bytes is = let parts = split-cons 10 bytes in go parts.0 parts.1 (rw parts.2 at is) where
  go : (part : List ℕ) (parts : List (List ℕ)) → read_parts 1 nothing_read (part ∷ parts) ≡ Ok (v, j)
      → ((v ≡ 1) ⊎ (v ≡ 2)) × (items : List JournalItem) × Leads nothing_read v j items
  go part [] is = leads-some v j (last_part-is 1 v nothing_read j part is)
  go line (part ∷ parts) is =
      let form = form_of_line line in
      let read = after_line-is 1 v j (take_line nothing_read line) (λ q. read_parts 2 q (part ∷ parts)) is in
      let i = line-item form form nothing_read read.0 line refl read.1 in
      let known = form-known (split 32 line) in
      let under = under-first form read.0 i.0 known i.1 i.2 in
      let rest = read_parts-items form 2 v read.0 j part parts under.0 read.2 in
      (known-same form v rest.0 known, i.0 ∷ rest.1, leads-cons form v nothing_read read.0 j i.0 rest.1 rest.0 i.1 i.2 rest.2)

-- the line of an item that is taken
line-taken : (form number : ℕ) (p q : Reading) (i : JournalItem) (rest : List ℕ) → IsItem form i → form_at p (bare_line form i) ≡ form → take_item form p i ≡ Ok q
    → read_parts number p (split 10 ((bare_line form i ++ 10 ∷ []) ++ rest)) ≡ read_parts (number + 1) q (split 10 rest)
line-taken form number p q i rest is form_is takes =
    let line = bare_line form i in
    let taken : take_line p line ≡ Ok q = ap (λ f. take_read f p (item_of_line f line)) form_is ∙ ap (take_read form p) (line-read form i is) ∙ takes in
    ap (λ bytes. read_parts number p (split 10 bytes)) (append_assoc line (10 ∷ []) rest)
    ∙ ap (read_parts number p) (split-first 10 line rest (line-free form i is))
    ∙ read-next number p q line rest taken

-- the lines of items that lead to a journal are read
items-read : (number v : ℕ) (p : Reading) (j : Journal) (items : List JournalItem) → Under v p → Leads p v j items
    → read_parts number p (split 10 (lines_text v items)) ≡ Ok (v, j)
items-read number v p j [] under leads =
    let same : p ≡ leads.reading = let all = leads.taken in cc in
    rw (same, leads.ended, leads.form, leads.journal) refl
items-read number v p j (i ∷ items) under leads =
    let first = leads-tail v p j i items leads in
    let form_is : form_at p (bare_line v i) ≡ v = rw under.begun under.form_is in
    line-taken v number p first.0 i (lines_text v items) first.1 form_is first.2
    ∙ items-read (number + 1) v first.0 j items (under-next v p first.0 i under first.1 first.2).0 first.3

-- the first line states the form
form-stated : (form kernel budget : ℕ) → (form ≡ 1) ⊎ (form ≡ 2) → IsItem form (item QP (form ∷ kernel ∷ budget ∷ []))
    → form_of_line (bare_line form (item QP (form ∷ kernel ∷ budget ∷ []))) ≡ form
form-stated form kernel budget (inl one) = rw one (stated kernel budget) where
  stated : (kernel budget : ℕ) → IsItem 1 (item QP (1 ∷ kernel ∷ budget ∷ [])) → form_of_line (bare_line 1 (item QP (1 ∷ kernel ∷ budget ∷ []))) ≡ 1
  stated kernel budget is = ap form_of_parts (line-parts 1 (item QP (1 ∷ kernel ∷ budget ∷ [])) is) ∙ rw (decimal_digit 1 (omega arith)) refl
form-stated form kernel budget (inr two) = rw two (stated kernel budget) where
  stated : (kernel budget : ℕ) → IsItem 2 (item QP (2 ∷ kernel ∷ budget ∷ [])) → form_of_line (bare_line 2 (item QP (2 ∷ kernel ∷ budget ∷ []))) ≡ 2
  stated kernel budget is = ap form_of_parts (line-parts 2 (item QP (2 ∷ kernel ∷ budget ∷ [])) is) ∙ rw (decimal_digit 2 (omega arith)) refl

-- the lines of all items that lead to a journal are read
leads-text : (v : ℕ) (j : Journal) (items : List JournalItem) → (v ≡ 1) ⊎ (v ≡ 2) → Leads nothing_read v j items → read_text (lines_text v items) ≡ Ok (v, j)
leads-text v j [] known leads = leads-some v j leads
leads-text v j (i ∷ items) known leads =
    let first = leads-tail v nothing_read j i items leads in
    let q = first.0 in
    let head = first-states v q i known first.1 first.2 in
    let stated : form_of_line (bare_line v i) ≡ v = rw head (form-stated v q.kernel q.budget known (rw head at first.1)) in
    line-taken v 1 nothing_read q i (lines_text v items) first.1 stated first.2
    ∙ items-read 2 v q j items (under-first v q i known first.1 first.2).0 first.3

-- the items of a journal in range lead to it
pub writable-leads : (v : ℕ) (j : Journal) → IsWritable v j → ((v ≡ 1) ⊎ (v ≡ 2)) × Leads nothing_read v j (items_of v j)
writable-leads v j is =
    let some = read_text-items v j (text v j) ((reading_is_exact v j (text v j)).1 (is, refl)) in
    (some.0, rw (leads-items v j some.1 some.0 some.2) some.2)

-- a journal to which items lead is in range
pub leads-writable : (v : ℕ) (j : Journal) (items : List JournalItem) → (v ≡ 1) ⊎ (v ≡ 2) → Leads nothing_read v j items → IsWritable v j
leads-writable v j items known leads = ((reading_is_exact v j (lines_text v items)).0 (leads-text v j items known leads)).0
