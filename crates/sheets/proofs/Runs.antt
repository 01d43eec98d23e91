-- A run of digits: the first part of what begins with a digit.
use Rattle.std.proofs.Common.{◌≡◌, ℕ, suc, ◌+◌, ◌-◌, ◌<◌, ◌≤◌, Bool, true, false, cond, not, ◌==◌, ltb, List, [], ◌∷◌, ◌++◌, length, get_or, take, drop, fold, Some, None, Option, ◌⊎◌, inl, inr, sym, refl, ap, ◌∙◌, subst, arith}
use Rattle.std.specs.Char.{is_ascii_digit}
use Rattle.std.specs.List.{position_or_len}
use Rattle.std.specs.Option.{unwrap_or}
use Rattle.std.proofs.Math.Seq.{take-add}
use Rattle.std.proofs.lemmas.List.{take-append-drop, take_all, drop-drop, length-drop, length-take-le, drop_more}
use Rattle.std.proofs.lemmas.List.Sums.{fold-append}
use Rattle.std.proofs.lemmas.Bool.{cases_lt, lt-ltb, le-ltb}
use Rattle.std.proofs.lemmas.Bool.Decides.{nat_tests}
use Rattle.sheets.specs.Cutting.{Digits, Gap, Break, Odd, Part, PartAt, blank, line_end, part_of_byte, led_by, parts_of, line_after, column_after}

-- the byte is no digit
abbrev pub stray : ℕ → Bool
stray b = not (is_ascii_digit b)

-- how a line and a column go on
abbrev next_line : ℕ → ℕ → ℕ
next_line line b = cond (b == line_end) (line + 1) line

abbrev next_column : ℕ → ℕ → ℕ
next_column column b = cond (b == line_end) 1 (column + 1)

pub digit_in_line : (b : ℕ) → is_ascii_digit b ≡ true → (b == line_end) ≡ false
digit_in_line b d = grind (arith, nat_tests)

-- the first k bytes are digits, and the first part
pub record Run (bytes : List ℕ) (k : ℕ) : Type 0 where
  pub first : parts_of bytes ≡ Digits (take k bytes) ∷ parts_of (drop k bytes)
  pub some : 0 < k
  pub inside : k ≤ length bytes
  pub lines : (line : ℕ) → fold next_line line (take k bytes) ≡ line
  pub columns : (column : ℕ) → fold next_column column (take k bytes) ≡ column + k

-- a digit before a byte that is none is a number of its own
pub alone : (b c : ℕ) (parts : List Part) → led_by b (part_of_byte c ∷ parts) ≡ Digits (b ∷ []) ∷ part_of_byte c ∷ parts
alone b c parts = by (c == blank) (c == line_end)
  where
    by : (s t : Bool) → led_by b (cond s Gap (cond t Break (Odd c)) ∷ parts) ≡ Digits (b ∷ []) ∷ cond s Gap (cond t Break (Odd c)) ∷ parts
    by true t = refl
    by false true = refl
    by false false = refl

pub run : (b : ℕ) (bytes : List ℕ) → is_ascii_digit b ≡ true → Run (b ∷ bytes) (suc (position_or_len stray bytes))
run b [] d = record {
  first = rw d refl;
  some = omega arith;
  inside = omega arith;
  lines = λ line. rw (digit_in_line b d) refl;
  columns = λ column. rw (digit_in_line b d) refl;
}
run b (c ∷ bytes) d = by (is_ascii_digit c) refl (run c bytes)
  where
    by : (t : Bool) → is_ascii_digit c ≡ t → (is_ascii_digit c ≡ true → Run (c ∷ bytes) (suc (position_or_len stray bytes))) → Run (b ∷ c ∷ bytes) (suc (position_or_len stray (c ∷ bytes)))
    by true e rest =
        let r = rest e in
        let k = suc (position_or_len stray bytes) in
        let more : position_or_len stray (c ∷ bytes) ≡ k = rw e (omega arith) in
        let long : Run (b ∷ c ∷ bytes) (suc k) = record {
          first = rw d (ap (led_by b) r.first);
          some = omega arith;
          inside = omega (arith, r.inside);
          lines = λ line. let e : next_line line b ≡ line = rw (digit_in_line b d) refl in ap (λ l. fold next_line l (take k (c ∷ bytes))) e ∙ r.lines line;
          columns = λ column.
              let e : next_column column b ≡ column + 1 = rw (digit_in_line b d) refl in
              ap (λ l. fold next_column l (take k (c ∷ bytes))) e ∙ r.columns (column + 1) ∙ (omega arith);
        } in
        subst (λ n. Run (b ∷ c ∷ bytes) (suc n)) (sym more) long
    by false e rest =
        let none : position_or_len stray (c ∷ bytes) ≡ 0 = rw e refl in
        let short : Run (b ∷ c ∷ bytes) 1 = record {
          first = rw (d, e) (alone b c (parts_of bytes));
          some = omega arith;
          inside = omega arith;
          lines = λ line. rw (digit_in_line b d) refl;
          columns = λ column. rw (digit_in_line b d) refl;
        } in
        subst (λ n. Run (b ∷ c ∷ bytes) (suc n)) (sym none) short

-- where a run begins in a text
pub record RunFrom (text : List ℕ) (at k : ℕ) : Type 0 where
  pub part : PartAt text at (at + k) (Digits (take k (take (length text - at) (drop at text))))
  pub line : line_after (take at text) ≡ line_after (take (at + k) text)
  pub column : column_after (take at text) + k ≡ column_after (take (at + k) text)
  pub inside : at + k ≤ length text

run_from : (text : List ℕ) (at k : ℕ) → at < length text → Run (drop at text) k → RunFrom text at k
run_from text at k h r =
    let size = length-drop at text in
    let fits : k ≤ length (drop at text) = r.inside in
    let whole : take (length text - at) (drop at text) ≡ drop at text = take_all (length text - at) (drop at text) (omega arith) in
    let front : take (at + k) text ≡ take at text ++ take k (drop at text) = take-add at k text in
    let rest : drop k (drop at text) ≡ drop (at + k) text = drop-drop k at text in
    record {
      part = record {
        first = rw (whole, sym rest) r.first;
        bytes = rw (whole, sym rest) (sym (take-append-drop k (drop at text)));
        ends = rw whole (omega (arith, length-take-le k (drop at text) fits));
        inside = omega arith;
      };
      line = sym (ap line_after front ∙ fold-append next_line 1 (take at text) (take k (drop at text)) ∙ r.lines (line_after (take at text)));
      column = sym (ap column_after front ∙ fold-append next_column 1 (take at text) (take k (drop at text)) ∙ r.columns (column_after (take at text)));
      inside = omega arith;
    }

-- the first place, or the length where there is none
settled : (size m : ℕ) (r : Option ℕ) (n : ℕ) → m ≤ size → r ≡ cond (ltb m size) (Some m) None → n ≡ unwrap_or r size → n ≡ m
settled size m r n h e is = is ∙ ap (λ o. unwrap_or o size) e ∙ by (cases_lt m size)
  where
    by : (m < size) ⊎ (size ≤ m) → unwrap_or (cond (ltb m size) (Some m) None) size ≡ m
    by (inl lt) = rw (lt-ltb m size lt) refl
    by (inr ge) = rw (le-ltb m size ge) (omega arith)

-- a search for the first byte that is no digit finds where the run ends
pub found : (text : List ℕ) (at : ℕ) (r : Option ℕ) (n : ℕ) → at < length text → is_ascii_digit (get_or text at 0) ≡ true
    → r ≡ cond (ltb (position_or_len stray (take (length text - at) (drop at text))) (length (take (length text - at) (drop at text))))
    (Some (position_or_len stray (take (length text - at) (drop at text)))) None
    → n ≡ unwrap_or r (length (take (length text - at) (drop at text))) → RunFrom text at n
found text at r n h d e is =
    let b = get_or text at 0 in
    let rest = drop (at + 1) text in
    let size = length-drop at text in
    let whole : take (length text - at) (drop at text) ≡ b ∷ rest = take_all (length text - at) (drop at text) (omega arith) ∙ drop_more text at 0 h in
    let far = run b rest d in
    let count : position_or_len stray (b ∷ rest) ≡ suc (position_or_len stray rest) = rw d (omega arith) in
    let same : n ≡ position_or_len stray (b ∷ rest) =
    settled (length (b ∷ rest)) (position_or_len stray (b ∷ rest)) r n (omega (arith, far.inside)) (e ∙ (λ i. cond (ltb (position_or_len stray (whole i)) (length (whole i))) (Some (position_or_len stray (whole i))) None)) (is ∙ ap (λ l. unwrap_or r (length l)) whole) in
    run_from text at n h (subst (λ l. Run l n) (sym (drop_more text at 0 h)) (subst (Run (b ∷ rest)) (sym (same ∙ count)) far))
