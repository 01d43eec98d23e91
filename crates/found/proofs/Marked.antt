-- The text of a set's marks, mark by mark, and how long a line is at most.
use Rattle.std.proofs.Common.{◌≡◌, ℕ, zero, suc, ◌+◌, ◌-◌, ◌*◌, ◌^◌, ◌<◌, ◌≤◌, Bool, true, false, cond, List, [], ◌∷◌, ◌++◌, length, codes, decimal, flat_map, sym, refl, ap, ◌∙◌, append-nil, append_assoc, arith}
use Rattle.std.proofs.lemmas.List.Concat.{flat_map-append}
use Rattle.std.proofs.lemmas.List.{length-append}
use Rattle.std.proofs.lemmas.Fmt.{length-decimal-le}
use Rattle.marks.specs.Numbers.{most_marks, bit_of}
use Rattle.marks.specs.Sets.{has, bits_below}
use Rattle.marks.proofs.Enumerated.{bits_start, bits_more}
use Rattle.found.specs.Lines.{mark_text, marks_text, line_text, fault_text, end_text}

-- a mark and a blank
abbrev pub word : ℕ → List ℕ
word b = decimal (b + 1) ++ codes " "

-- the text is each mark's word
pub marked : (set n : ℕ) → marks_text set n ≡ flat_map word (bits_below n set)
unfolding marks_text
marked set zero = sym (ap (flat_map word) (bits_start set))
marked set (suc n) =
    let e : suc n ≡ n + 1 = omega arith in
    rw (marked set n) (sym (ap (λ k. flat_map word (bits_below k set)) e ∙ ap (flat_map word) (bits_more set n)
    ∙ flat_map-append word (bits_below n set) (cond (has set n) (n ∷ []) []) ∙ ap (λ (l : List ℕ). flat_map word (bits_below n set) ++ l) (by (has set n))))
  where
    by : (t : Bool) → flat_map word (cond t (n ∷ []) []) ≡ cond t (word n) []
    by true = append-nil (word n)
    by false = refl

-- each mark takes at most three bytes
pub marks_short : (set n : ℕ) → n ≤ 99 → length (marks_text set n) ≤ 3 * n
unfolding marks_text
marks_short set zero h = omega arith
marks_short set (suc n) h = omega (arith, marks_short set n (omega arith), by (has set n), length-append (marks_text set n) (mark_text set n))
  where
    by : (t : Bool) → length (cond t (word n) []) ≤ 3
    by true = omega (arith, length-append (decimal (n + 1)) (codes " "), length-decimal-le 2 (n + 1) (omega arith) (omega arith) (omega arith))
    by false = omega arith

-- what was written, and the words of the marks that are left, are the text of the whole set
pub record Partly (set left : ℕ) (written : List ℕ) : Type 0 where
  pub whole : written ++ flat_map word (bits_below most_marks left) ≡ marks_text set most_marks
  pub short : length written ≤ 96

partly : (set left : ℕ) (written : List ℕ) → written ++ flat_map word (bits_below most_marks left) ≡ marks_text set most_marks → Partly set left written
partly set left written e =
    record { whole = e; short = omega (arith, ap length e, length-append written (flat_map word (bits_below most_marks left)), marks_short set most_marks (omega arith)) }

pub at_start : (set : ℕ) → Partly set set []
at_start set = partly set set [] (sym (marked set most_marks))

pub next_mark : {set left rest n : ℕ} {written : List ℕ} → 0 < n → Partly set left written → bits_below most_marks left ≡ bit_of n ∷ bits_below most_marks rest
    → Partly set rest ((written ++ decimal n) ++ codes " ")
next_mark {set = set} {rest = rest} {n = n} {written = written} some p e =
    let back : n - 1 + 1 ≡ n = omega arith in
    partly set rest ((written ++ decimal n) ++ codes " ")
    (ap (λ m. ((written ++ decimal m) ++ codes " ") ++ flat_map word (bits_below most_marks rest)) (sym back) ∙ (simp append_assoc)
    ∙ ap (λ bits. written ++ flat_map word bits) (sym e) ∙ p.whole)

-- a number of 64 bits has at most twenty digits
digits_short : (n : ℕ) → n < 2 ^ 64 → length (decimal n) ≤ 20
digits_short n h = length-decimal-le 20 n (omega arith) (omega arith) h

-- no line is longer than 109 bytes
pub line_short : (set support : ℕ) → support < 2 ^ 32 → length (line_text set support) ≤ 109
line_short set support h =
    simp length-append (omega (arith, marks_short set most_marks (omega arith), length-decimal-le 10 support (omega arith) (omega arith) (omega arith)))

pub end_short : (sets opened : ℕ) → sets < 2 ^ 64 → opened < 2 ^ 64 → length (end_text sets opened) ≤ 109
end_short sets opened h l = simp length-append (omega (arith, digits_short sets h, digits_short opened l))

pub fault_short : (number line column : ℕ) → number < 2 ^ 64 → line < 2 ^ 64 → column < 2 ^ 64 → length (fault_text number line column) ≤ 109
fault_short number line column n l c = simp length-append (omega (arith, digits_short number n, digits_short line l, digits_short column c))
