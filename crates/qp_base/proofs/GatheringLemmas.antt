-- What goes on from a sink that gathers.
use Rattle.std.proofs.Common.{◌≡◌, ℕ, ◌+◌, ◌-◌, ◌^◌, ◌≤◌, List, [], ◌++◌, length, take, drop, Option, Some, None, IfSome, Result, Ok, Err, OnOk, OnErr, refl, sym, ◌∙◌, ap, subst, arith, append_assoc, length-append, length-take-le}
use Rattle.std.specs.Option.{ForSome}
use Rattle.std.proofs.lemmas.List.{append-nil, take-append-le, take_all, take-append-drop}
use Rattle.qp_base.specs.Sink.{AppendsPrefix, appended}
use Rattle.qp_base.specs.Gathering.{GoesDown, IsBegun, Went, in_64_bits, put_of, sink_told, torn_part, whole_part}
use Rattle.qp_base.specs.declared.course.Course.{Course}
use Rattle.qp_base.specs.declared.course.Course.TheVariants.{Open, Torn, Stopped}

-- at first just what the sink below had got went on
pub first-goes : (below : Option (List ℕ)) (gone first : ℕ) (held : List ℕ) → IfSome below (λ w. length w ≡ first) → gone ≡ first + 0 → GoesDown Open gone held below
unfolding GoesDown Went
first-goes None gone first held had is = tt
first-goes (Some w) gone first held had is = omega (arith, had, is)

pub first-grown : (below : Option (List ℕ)) (first : ℕ) → IfSome below (λ w. length w ≡ first) → ForSome below (λ w. first ≤ length w)
first-grown None first had = λ w is. cc
first-grown (Some v) first had = λ w is. let same : v ≡ w = cc in omega (arith, had, ap length same)

-- what went on stays
pub grown-by : (below after : Option (List ℕ)) (first : ℕ) (bytes : List ℕ) → ForSome below (λ w. first ≤ length w) → after ≡ appended below bytes → ForSome after (λ w. first ≤ length w)
grown-by None after first bytes grown is = λ w got. cc
grown-by (Some v) after first bytes grown is = λ w got. let same : v ++ bytes ≡ w = cc in omega (arith, length-append v bytes, grown v refl, ap length same)

pub grown-part : (below after : Option (List ℕ)) (first : ℕ) (bytes : List ℕ) → ForSome below (λ w. first ≤ length w) → AppendsPrefix below bytes after → ForSome after (λ w. first ≤ length w)
grown-part below after first bytes grown (k, some, is) = grown-by below after first (take k bytes) grown is

-- counting on
counted-on : (m n gone all : ℕ) → in_64_bits m ≡ in_64_bits gone → all ≡ m + n → in_64_bits all ≡ in_64_bits (gone + n)
counted-on m n gone all count is = omega (arith, count, is)

-- a whole piece went on
pub went-on : (below after : Option (List ℕ)) (gone n : ℕ) (held left bytes : List ℕ) → GoesDown Open gone held below → after ≡ appended below bytes → in_64_bits n ≡ in_64_bits (gone + length bytes) → GoesDown Open n left after
unfolding GoesDown Went
went-on None after gone n held left bytes goes is count = rw is tt
went-on (Some w) after gone n held left bytes goes is count = rw is (counted-on (length w) (length bytes) gone (length (w ++ bytes)) goes (length-append w bytes) ∙ sym count)

-- what is put stays what it is while what is held goes on
pub told-on : (below after : Option (List ℕ)) (gone n : ℕ) (held : List ℕ) → after ≡ appended below held → sink_told Open n [] after ≡ sink_told Open gone held below
unfolding sink_told put_of
told-on None after gone n held is = rw is refl
told-on (Some w) after gone n held is = rw is (ap Some (append-nil (w ++ held)))

-- bytes that go on while nothing is held are put
pub told-over : (below after : Option (List ℕ)) (gone n : ℕ) (bytes : List ℕ) → after ≡ appended below bytes → sink_told Open n [] after ≡ appended (sink_told Open gone [] below) bytes
unfolding sink_told put_of
told-over None after gone n bytes is = rw is refl
told-over (Some w) after gone n bytes is = rw is (ap Some (append-nil (w ++ bytes) ∙ ap (λ l. l ++ bytes) (sym (append-nil w))))

-- bytes that are held are put
pub told-held : (below : Option (List ℕ)) (gone : ℕ) (held bytes : List ℕ) → sink_told Open gone (held ++ bytes) below ≡ appended (sink_told Open gone held below) bytes
unfolding sink_told put_of
told-held None gone held bytes = refl
told-held (Some w) gone held bytes = ap Some (sym (append_assoc w held bytes))

-- where nothing is held, what was put went on
pub told-all : (below : Option (List ℕ)) (gone : ℕ) → sink_told Open gone [] below ≡ below
unfolding sink_told put_of
told-all None gone = refl
told-all (Some w) gone = ap Some (append-nil w)

-- no byte is a part of the bytes
pub none-appended : (below : Option (List ℕ)) (bytes : List ℕ) → AppendsPrefix below bytes below
none-appended None bytes = (0, omega arith, refl)
none-appended (Some w) bytes = (0, omega arith, ap Some (sym (append-nil w)))

-- how many bytes of a torn piece went on
torn-count : (m k gone all : ℕ) → in_64_bits m ≡ in_64_bits gone → k ≤ 65536 → all ≡ m + k → in_64_bits (all + (2 ^ 64 - in_64_bits gone)) ≡ k
torn-count m k gone all count few is = omega (arith, count, few, is)

-- what went on before a torn piece
torn-whole : (gone k : ℕ) (w held : List ℕ) → in_64_bits (length w) ≡ in_64_bits gone → length held ≤ 65536 → k ≤ length held
    → (torn_part gone (w ++ take k held) ≡ k) × (whole_part gone (w ++ take k held) ≡ w)
torn-whole gone k w held count few some =
    let all : length (w ++ take k held) ≡ length w + k = omega (arith, length-append w (take k held), length-take-le k held some) in
    let part : torn_part gone (w ++ take k held) ≡ k = torn-count (length w) k gone (length (w ++ take k held)) count (omega (arith, few, some)) all in
    let before : length (w ++ take k held) - torn_part gone (w ++ take k held) ≡ length w = omega (arith, all, part) in (
      part,
      ap (λ n. take n (w ++ take k held)) before ∙ take-append-le (length w) w (take k held) (omega arith) ∙ take_all (length w) w (omega arith),
    )

-- of a torn piece some went on
pub torn-goes : (below after : Option (List ℕ)) (gone : ℕ) (held : List ℕ) → length held ≤ 65536 → GoesDown Open gone held below → AppendsPrefix below held after → GoesDown Torn gone held after
unfolding GoesDown Went
torn-goes None after gone held few goes (k, some, is) = rw is tt
torn-goes (Some w) after gone held few goes (k, some, is) =
    let (part, before) = torn-whole gone k w held goes few some in
    rw is (rw (before, part) refl)

-- a torn piece was put whole
pub torn-told : (below after : Option (List ℕ)) (gone : ℕ) (held : List ℕ) → length held ≤ 65536 → GoesDown Open gone held below → AppendsPrefix below held after
    → sink_told Torn gone held after ≡ sink_told Open gone held below
unfolding GoesDown Went sink_told put_of
torn-told None after gone held few goes (k, some, is) = rw is refl
torn-told (Some w) after gone held few goes (k, some, is) = ap (λ o. sink_told Torn gone held o) is ∙ ap (λ l. Some (l ++ held)) (torn-whole gone k w held goes few some).1

-- of bytes that didn't go on whole some were put
pub stopped-told : (below after : Option (List ℕ)) (gone n : ℕ) (left bytes : List ℕ) → AppendsPrefix below bytes after → AppendsPrefix (sink_told Open gone [] below) bytes (sink_told Stopped n left after)
unfolding sink_told put_of
stopped-told None after gone n left bytes (k, few, is) = (k, few, rw is refl)
stopped-told (Some w) after gone n left bytes (k, few, is) = (k, few, rw is (ap (λ l. Some (l ++ take k bytes)) (sym (append-nil w))))

pub stopped-goes : (after : Option (List ℕ)) (gone : ℕ) (held : List ℕ) → GoesDown Stopped gone held after
unfolding GoesDown Went
stopped-goes None gone held = tt
stopped-goes (Some w) gone held = tt

-- what went on is the first part of what was put
pub begun : (course : Course) (gone : ℕ) (held : List ℕ) (below : Option (List ℕ)) → GoesDown course gone held below → IsBegun below (sink_told course gone held below)
unfolding GoesDown Went sink_told put_of
begun course gone held None goes = tt
begun Open gone held (Some w) goes = (held, refl)
begun Stopped gone held (Some w) goes = ([], sym (append-nil w))
begun Torn gone held (Some w) goes =
    let m : ℕ = torn_part gone w in
    let whole : take m held ++ drop m held ≡ held = take-append-drop m held in (
      drop m held,
      ap (λ l. whole_part gone w ++ l) (sym whole) ∙ sym (append_assoc (whole_part gone w) (take m held) (drop m held)) ∙ ap (λ l. l ++ drop m held) (sym goes),
    )

-- while all went on, it doesn't matter what is held
pub held-goes : (course : Course) (gone : ℕ) (held left : List ℕ) (below : Option (List ℕ)) → course ≡ Open → GoesDown course gone held below → GoesDown course gone left below
unfolding GoesDown Went
held-goes course gone held left None going goes = tt
held-goes course gone held left (Some w) going goes = rw going (rw going at goes)

-- the same lemmas, where the course is told by its name
pub went : (course : Course) (below after : Option (List ℕ)) (gone n : ℕ) (held left bytes : List ℕ) → course ≡ Open → GoesDown course gone held below → after ≡ appended below bytes → in_64_bits n ≡ in_64_bits (gone + length bytes)
    → GoesDown course n left after
went course below after gone n held left bytes going goes is count =
    subst (λ c. GoesDown c n left after) (sym going) (went-on below after gone n held left bytes (subst (λ c. GoesDown c gone held below) going goes) is count)

pub torn : (course : Course) (below after : Option (List ℕ)) (gone : ℕ) (held : List ℕ) → course ≡ Open → length held ≤ 65536 → GoesDown course gone held below → AppendsPrefix below held after
    → GoesDown Torn gone held after
torn course below after gone held going few goes some = torn-goes below after gone held few (subst (λ c. GoesDown c gone held below) going goes) some

pub torn-put : (course : Course) (below after : Option (List ℕ)) (gone : ℕ) (held : List ℕ) → course ≡ Open → length held ≤ 65536 → GoesDown course gone held below → AppendsPrefix below held after
    → sink_told Torn gone held after ≡ sink_told course gone held below
torn-put course below after gone held going few goes some =
    torn-told below after gone held few (subst (λ c. GoesDown c gone held below) going goes) some ∙ ap (λ c. sink_told c gone held below) (sym going)

pub on-put : (course : Course) (below after : Option (List ℕ)) (gone n : ℕ) (held left : List ℕ) → course ≡ Open → left ≡ [] → after ≡ appended below held → sink_told course n left after ≡ sink_told course gone held below
on-put course below after gone n held left going empty is = rw (going, empty) (told-on below after gone n held is)

pub over-put : (course : Course) (below after : Option (List ℕ)) (gone n : ℕ) (held bytes : List ℕ) → course ≡ Open → held ≡ [] → after ≡ appended below bytes
    → sink_told course n held after ≡ appended (sink_told course gone held below) bytes
over-put course below after gone n held bytes going empty is = rw (going, empty) (told-over below after gone n bytes is)

pub held-put : (course : Course) (below : Option (List ℕ)) (gone : ℕ) (held left bytes : List ℕ) → course ≡ Open → left ≡ held ++ bytes → sink_told course gone left below ≡ appended (sink_told course gone held below) bytes
held-put course below gone held left bytes going is = rw (going, is) (told-held below gone held bytes)

pub stopped-put : (course : Course) (below after : Option (List ℕ)) (gone n : ℕ) (held left bytes : List ℕ) → course ≡ Open → held ≡ [] → AppendsPrefix below bytes after
    → AppendsPrefix (sink_told course gone held below) bytes (sink_told Stopped n left after)
stopped-put course below after gone n held left bytes going empty some = rw (going, empty) (stopped-told below after gone n left bytes some)

pub flushed : (course : Course) (gone : ℕ) (held : List ℕ) (below all : Option (List ℕ)) → sink_told course gone held below ≡ all → course ≡ Open → held ≡ [] → below ≡ all
flushed course gone held below all same going empty =
    sym (told-all below gone) ∙ ap (λ c. sink_told c gone [] below) (sym going) ∙ ap (λ h. sink_told course gone h below) (sym empty) ∙ same

-- a count that goes on in 64 bits, behind what was there at first
pub count-on : (first gone after n : ℕ) → after ≡ in_64_bits (gone + n) → in_64_bits (first + after) ≡ in_64_bits (first + gone + n)
count-on first gone after n is = omega (arith, is)

-- facts that hold where a result is Ok, or an error
pub on-ok : {A E : Type 0} (r : Result A E) (P Q R : Type 0) → (P → Q → R) → OnOk r P → OnOk r Q → OnOk r R
on-ok (Ok x) P Q R step p q = step p q
on-ok (Err e) P Q R step p q = tt

pub on-err : {A E : Type 0} (r : Result A E) (P : Type 0) → P → OnErr r P
on-err (Ok x) P p = tt
on-err (Err e) P p = p

-- of bytes that didn't go on whole some were put, also where the failure is counted then
pub stopped : {A E : Type 0} (r : Result A E) (course later : Course) (below there after : Option (List ℕ)) (gone n : ℕ) (held left bytes : List ℕ) → course ≡ Open → held ≡ [] → AppendsPrefix below bytes there
    → later ≡ Stopped → after ≡ there → OnErr r (AppendsPrefix (sink_told course gone held below) bytes (sink_told later n left after))
stopped r course later below there after gone n held left bytes going empty some is same =
    on-err r (AppendsPrefix (sink_told course gone held below) bytes (sink_told later n left after))
    (rw (is, same) (stopped-put course below there gone n held left bytes going empty some))
