-- A first line, lanes and a last line are the text of a journal in range.
use Rattle.std.proofs.Common.{◌≡◌, ◌∙◌, ℕ, zero, suc, ◌+◌, ◌≤◌, Bool, true, false, List, [], ◌∷◌, ◌++◌, map, length, Ok, refl, sym, ap, append-nil, arith, inl, inr}
use Rattle.std.specs.Prelude.{◌==◌, ◌&&◌, ◌⊎◌, decimal, not, nat_le}
use Rattle.std.specs.List.{list_all}
use Rattle.std.proofs.lemmas.Bool.{eqb-true, le-leb, leb-true, and_from, and_parts}
use Rattle.std.proofs.lemmas.Bool.Decides.{nat_tests}
use Rattle.std.proofs.lemmas.Grind.{flat_map-append}
use Rattle.qp_model.specs.Kinds.{BEGIN, END_LINE, QP, REST}
use Rattle.qp_model.specs.declared.record.Rec.{Rec}
use Rattle.qp_model.specs.declared.journals.Journal.{Journal}
use Rattle.qp_model.specs.Vocabulary.{has_count, word_text}
use Rattle.qp_model.specs.Output.{JournalItem, has_form, has_no_rest, is_end_status, is_lane_in_range, is_record_in_range, item, items_of_lanes, last_kernel}
use Rattle.qp_model.specs.OutputText.{after_spaces, line_text, lines_text, text}
use Rattle.qp_text.specs.ReadText.{read_text}
use Rattle.qp_text.specs.TextLaw.{IsWritable, lane_has_64_bits, record_has_64_bits}
use Rattle.qp_text.proofs.TextRead.{reading_is_exact}
use Rattle.qp_text_scan.specs.Readable.{IsHead, is_readable, is_readable_lane}
use Rattle.qp_text_scan.proofs.LineLemmas.{line-front, number_texts-other, numbers-more}

-- two tests of all
all-both : {X : Type 0} (p q : X → Bool) (xs : List X) → list_all (λ x. p x && q x) xs ≡ true → (list_all p xs ≡ true) × (list_all q xs ≡ true)
all-both p q [] all = (refl, refl)
all-both p q (x ∷ xs) all =
    let both = and_parts (p x && q x) (list_all (λ y. p y && q y) xs) all in
    let here = and_parts (p x) (q x) both.0 in
    let later = all-both p q xs both.1 in
    (and_from (p x) (list_all p xs) here.0 later.0, and_from (q x) (list_all q xs) here.1 later.1)

-- a test that another one gives
all-given : {X : Type 0} (p q : X → Bool) → ((x : X) → p x ≡ true → q x ≡ true) → (xs : List X) → list_all p xs ≡ true → list_all q xs ≡ true
all-given p q given [] all = refl
all-given p q given (x ∷ xs) all =
    let both = and_parts (p x) (list_all p xs) all in
    and_from (q x) (list_all q xs) (given x both.0) (all-given p q given xs both.1)

-- a lane that can be read is in range, with numbers of 64 bits
lane-both : (form : ℕ) (lane : List Rec) → is_readable_lane form lane ≡ true → (is_lane_in_range form lane ≡ true) × (lane_has_64_bits lane ≡ true)
lane-both form lane readable =
    let parts = and_parts (nat_le (length lane) 1000001) (list_all (is_readable form) lane) readable in
    let both = all-both (is_record_in_range form) record_has_64_bits lane parts.1 in
    (and_from (nat_le (length lane) 1000001) (list_all (is_record_in_range form) lane) parts.0 both.0, both.1)

-- records in range for form 1 have none that form 1 doesn't know
record-no_rest : (r : Rec) → is_record_in_range 1 r ≡ true → not (r.kind == REST) ≡ true
record-no_rest r fits =
    let three = and_parts (nat_le BEGIN r.kind && nat_le r.kind 45 && has_count r.kind (r.of ∷ r.nums.items)) (nat_le r.of 32) fits in
    let two = and_parts (nat_le BEGIN r.kind && nat_le r.kind 45) (has_count r.kind (r.of ∷ r.nums.items)) three.0 in
    let one = and_parts (nat_le BEGIN r.kind) (nat_le r.kind 45) two.0 in
    let small : r.kind ≤ 45 = leb-true r.kind 45 one.1 in
    let other : (r.kind == REST) ≡ false = grind (arith, nat_tests) in
    rw other refl

lane-no_rest : (lane : List Rec) → is_lane_in_range 1 lane ≡ true → list_all (λ (r : Rec). not (r.kind == REST)) lane ≡ true
lane-no_rest lane fits =
    all-given (is_record_in_range 1) (λ (r : Rec). not (r.kind == REST)) record-no_rest lane
    (and_parts (nat_le (length lane) 1000001) (list_all (is_record_in_range 1) lane) fits).1

form-holds : (form : ℕ) (j : Journal) → (form ≡ 1) ⊎ (form ≡ 2) → j.kernel ≤ last_kernel form → list_all (is_lane_in_range form) j.lanes ≡ true
    → has_form form j ≡ true
form-holds form j (inr two) kernel lanes = rw two refl
form-holds form j (inl one) kernel lanes =
    let low : j.kernel ≤ 2 = rw one at kernel in
    let other : (j.kernel == 3) ≡ false = grind (arith, nat_tests) in
    let no_rest : has_no_rest j.lanes ≡ true =
    all-given (is_lane_in_range 1) (list_all (λ (r : Rec). not (r.kind == REST))) lane-no_rest j.lanes (rw one at lanes) in
    rw (one, other) no_rest

-- what is read
abbrev whole : ℕ → ℕ → List (List Rec) → ℕ → Journal
whole kernel budget lanes status = record { kernel = kernel; budget = budget; lanes = lanes; end = status }

module _ (form kernel budget : ℕ) (lanes : List (List Rec)) (status : ℕ) where
  -- it is a journal in range
  writable : IsHead form kernel budget → list_all (is_readable_lane form) lanes ≡ true → length lanes ≤ 49 → is_end_status status ≡ true
      → IsWritable form (whole kernel budget lanes status)
  writable head readable count ended =
      let j = whole kernel budget lanes status in
      let fits = all-given (is_readable_lane form) (is_lane_in_range form) (λ lane is. (lane-both form lane is).0) lanes readable in
      let one = nat_le kernel (last_kernel form) in
      let two = nat_le 1 budget in
      let three = nat_le budget 1000000 in
      record {
        shape = form-holds form j head.is_form head.is_kernel fits;
        range =
            and_from (one && two && three && is_end_status status && nat_le (length lanes) 49) (list_all (is_lane_in_range form) lanes)
            (and_from (one && two && three && is_end_status status) (nat_le (length lanes) 49)
            (and_from (one && two && three) (is_end_status status)
            (and_from (one && two) three (and_from one two (le-leb kernel (last_kernel form) head.is_kernel) (le-leb 1 budget head.least)) (le-leb budget 1000000 head.most)) ended)
            (le-leb (length lanes) 49 count)) fits;
        bits = all-given (is_readable_lane form) lane_has_64_bits (λ lane is. (lane-both form lane is).1) lanes readable;
      }

  -- and this is its text
  text-is : (bytes one two : List ℕ) → bytes ≡ line_text form (item QP (form ∷ kernel ∷ budget ∷ [])) ++ one
      → one ≡ lines_text form (items_of_lanes 0 lanes) ++ two → two ≡ line_text form (item END_LINE (status ∷ []))
      → text form (whole kernel budget lanes status) ≡ bytes
  text-is bytes one two first middle end =
      let head = line_text form (item QP (form ∷ kernel ∷ budget ∷ [])) in
      let last = item END_LINE (status ∷ []) in
      let lines = lines_text form (items_of_lanes 0 lanes) in
      sym (first ∙ ap (λ t. head ++ t) (middle ∙ ap (λ t. lines ++ t) (end ∙ sym (append-nil (line_text form last)))
      ∙ sym (flat_map-append (line_text form) (items_of_lanes 0 lanes) (last ∷ []))))

  -- so the bytes are read as this journal
  pub scanned : (bytes one two : List ℕ) → IsHead form kernel budget → list_all (is_readable_lane form) lanes ≡ true → length lanes ≤ 49
      → is_end_status status ≡ true → bytes ≡ line_text form (item QP (form ∷ kernel ∷ budget ∷ [])) ++ one
      → one ≡ lines_text form (items_of_lanes 0 lanes) ++ two → two ≡ line_text form (item END_LINE (status ∷ []))
      → read_text bytes ≡ Ok (form, whole kernel budget lanes status)
  scanned bytes one two head readable count ended first middle end =
      (reading_is_exact form (whole kernel budget lanes status) bytes).1
      (writable head readable count ended, text-is bytes one two first middle end)

-- the first line by its parts
pub head-front : (id stated kernel budget : ℕ) (text one two three four rest : List ℕ) → id ≡ QP → text ≡ word_text id ++ one → one ≡ 32 ∷ decimal stated ++ two
    → two ≡ 32 ∷ decimal kernel ++ three → three ≡ 32 ∷ decimal budget ++ four → four ≡ 10 ∷ rest
    → (form : ℕ) → text ≡ line_text form (item QP (stated ∷ kernel ∷ budget ∷ [])) ++ rest
head-front id stated kernel budget text one two three four rest is word first second third newline form =
    let all = numbers-more (stated ∷ kernel ∷ []) budget one three four (numbers-more (stated ∷ []) kernel one two three (numbers-more [] stated one one two refl first) second) third in
    let nums = stated ∷ kernel ∷ budget ∷ [] in
    line-front form QP nums text one rest (rw is at word)
    (all ∙ ap (λ t. after_spaces (map decimal nums) ++ t) newline ∙ ap (λ texts. after_spaces texts ++ 10 ∷ rest) (sym (number_texts-other form QP nums (λ same. omega (arith, same)))))

-- what it states is in range
pub head-holds : (form kernel budget : ℕ) → 1 ≤ form → form ≤ 2 → kernel ≤ form + 1 → 1 ≤ budget → budget ≤ 1000000 → IsHead form kernel budget
head-holds zero kernel budget first last fits least most = absurd (omega (arith, first))
head-holds (suc zero) kernel budget first last fits least most = record { is_form = inl refl; is_kernel = omega (arith, fits); least = least; most = most }
head-holds (suc (suc zero)) kernel budget first last fits least most = record { is_form = inr refl; is_kernel = omega (arith, fits); least = least; most = most }
head-holds (suc (suc (suc n))) kernel budget first last fits least most = absurd (omega (arith, last))

-- nothing stands behind the last line
pub end-front : (form : ℕ) (i : JournalItem) (bytes rest : List ℕ) → bytes ≡ line_text form i ++ rest → (length rest == 0) ≡ true
    → bytes ≡ line_text form i
end-front form i bytes [] is none = is ∙ append-nil (line_text form i)
end-front form i bytes (b ∷ rest) is none = absurd (omega (arith, eqb-true (length (b ∷ rest)) 0 none))
