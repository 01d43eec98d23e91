-- The words that a table is turned into.
use Rattle.std.proofs.Common.{◌≡◌, ℕ, ◌+◌, ◌-◌, ◌*◌, ◌/◌, ◌%◌, ◌^◌, ◌<◌, ◌≤◌, Bool, true, false, cond, not, ◌&&◌, ◌||◌, eqb, ltb, ◌≢◌, ◌⊎◌, List, length, get_or, take, set, Some, None, sym, refl, ap, ◌∙◌, subst, ap₂, inl, inr, ⊎_elim, add-mul, div-add-mod', arith}
use lib.Bits.{and_le_l}
use Rattle.std.proofs.lemmas.Nat.{div-mul-add, mod-mul-add, mul-le}
use Rattle.std.proofs.lemmas.List.FromFn.{length-map-range_with_len, get_or-map-range_with_len, fill_by_all}
use Rattle.std.proofs.lemmas.List.{get_or_past, get_or-take, length-take, get_or-set_same, get_or-set_other, ext_get_or}
use Rattle.std.proofs.lemmas.Bool.{cases_lt, cases_eq, cases_order, lt-ltb, le-ltb, eq-eqb, ne_eqb}
use Rattle.marks.specs.declared.refusal.Reason.TheVariants.{WordCount}
use Rattle.marks.specs.Refusals.{unplaced}
use Rattle.marks.specs.Sets.{has, no_marks, minus, with_bit, without_bit, PartOf}
use Rattle.marks.specs.Members.{has_none}
use Rattle.marks.specs.Parts.{has_with, has_minus, has_without, same_members, part_has}
use Rattle.marks.proofs.Picks.{has_picked, picked_same, picked_empty, picked_own}
use Rattle.marks.proofs.Places.{first_number_none}
use Rattle.tables.specs.Columns.{word_bits, words_per_mark, column_has, column_rows, past_count, columns_refusal, columns_meaning, turned_word, turned, put_word, turn_refusal}
use Rattle.tables.specs.Meaning.{Meaning, Proper, count_of}
use Rattle.tables.specs.Columned.{column_count, column_at, columns_same}
use Rattle.tables.proofs.Spills.{accepted}

-- ---- one row put in, mark by mark

-- the word of the mark at bit b that has a bit for the place t
abbrev pub slot : ℕ → ℕ → ℕ → ℕ
slot per t b = b * per + t / word_bits

-- the words of the mark at bit b are among those of n marks
pub marks_words : (per n b : ℕ) → b < n → b * per + per ≤ n * per
marks_words per n b low =
    let more : (b + 1) * per ≤ n * per = mul-le (b + 1) per n per (omega arith) (omega arith) in
    omega (arith, add-mul b 1 per)

slot_below : (per t n b : ℕ) → b < n → t / word_bits < per → slot per t b < n * per
slot_below per t n b low inside = omega (arith, marks_words per n b low)

module _ (per t row : ℕ) (inside : t / word_bits < per) (fits : row < 2 ^ 32) where
  slot_mark : (b : ℕ) → slot per t b / per ≡ b
  slot_mark b = div-mul-add b per (t / word_bits) inside

  slot_block : (b : ℕ) → slot per t b % per ≡ t / word_bits
  slot_block b = mod-mul-add b per (t / word_bits) inside

  -- no other word of its block is the mark's
  other_mark : (b i : ℕ) → i ≢ slot per t b → i % per ≡ t / word_bits → i / per ≡ b → ⊥
  other_mark b i ne e f = ne (sym (div-add-mod' i per) ∙ ap₂ (λ x y. x * per + y) f e)

  pub put_none : (i word : ℕ) → put_word per t (minus row row) i word ≡ word
  put_none i word =
      let none : has (minus row row) (i / per) ≡ false = has_minus row row (i / per) fits fits ∙ grind arith in
      ap (λ b. cond (b && eqb (i % per) (t / word_bits)) (with_bit word (t % word_bits)) word) none

  pub put_all : (rest i word : ℕ) → rest ≡ 0 → put_word per t (minus row rest) i word ≡ put_word per t row i word
  put_all rest i word e =
      let same : minus row rest ≡ row = ap (minus row) e ∙ same_members (minus row 0) row (λ b. has_minus row 0 b fits (omega arith) ∙ rw (has_none b) (grind arith)) in
      ap (λ r. put_word per t r i word) same

  -- one mark more
  module _ (rest b : ℕ) (held : has rest b ≡ true) (part : PartOf rest row) (small : rest < 2 ^ 32) (low : b < 32) where
    before_slot : (word : ℕ) → put_word per t (minus row rest) (slot per t b) word ≡ word
    before_slot word =
        let none : has (minus row rest) (slot per t b / per) ≡ false = ap (has (minus row rest)) (slot_mark b) ∙ has_minus row rest b fits small ∙ rw held (grind arith) in
        ap (λ x. cond (x && eqb (slot per t b % per) (t / word_bits)) (with_bit word (t % word_bits)) word) none

    less : without_bit rest b < 2 ^ 32
    less = omega (arith, and_le_l rest (2 ^ 32 - 1 - 2 ^ b))

    after_slot : (word : ℕ) → put_word per t (minus row (without_bit rest b)) (slot per t b) word ≡ with_bit word (t % word_bits)
    after_slot word =
        let gone : has (without_bit rest b) b ≡ false = has_without rest b b small low ∙ rw (eq-eqb b b refl) (grind arith) in
        let some : has (minus row (without_bit rest b)) (slot per t b / per) ≡ true =
        ap (has (minus row (without_bit rest b))) (slot_mark b) ∙ has_minus row (without_bit rest b) b fits less ∙ rw (part_has rest row b part held, gone) in
        let block : eqb (slot per t b % per) (t / word_bits) ≡ true = eq-eqb (slot per t b % per) (t / word_bits) (slot_block b) in
        ap₂ (λ x y. cond (x && y) (with_bit word (t % word_bits)) word) some block

    elsewhere : (i word : ℕ) → i ≢ slot per t b → put_word per t (minus row rest) i word ≡ put_word per t (minus row (without_bit rest b)) i word
    elsewhere i word ne = by (cases_eq (i % per) (t / word_bits))
      where
        by : (i % per ≡ t / word_bits) ⊎ (i % per ≡ t / word_bits → ⊥) → put_word per t (minus row rest) i word ≡ put_word per t (minus row (without_bit rest b)) i word
        by (inl e) =
            let same : has (without_bit rest b) (i / per) ≡ has rest (i / per) =
            has_without rest b (i / per) small low ∙ rw (ne_eqb b (i / per) (λ f. other_mark b i ne e (sym f))) (grind arith) in
            let both : has (minus row rest) (i / per) ≡ has (minus row (without_bit rest b)) (i / per) =
            has_minus row rest (i / per) fits small ∙ rw (sym same) (sym (has_minus row (without_bit rest b) (i / per) fits less)) in
            ap (λ x. cond (x && eqb (i % per) (t / word_bits)) (with_bit word (t % word_bits)) word) both
        by (inr e) =
            let out : eqb (i % per) (t / word_bits) ≡ false = ne_eqb (i % per) (t / word_bits) e in
            let none : (x : Bool) → (x && eqb (i % per) (t / word_bits)) ≡ false = λ x. rw out (grind arith) in
            ap (λ x. cond x (with_bit word (t % word_bits)) word) (none (has (minus row rest) (i / per)) ∙ sym (none (has (minus row (without_bit rest b)) (i / per))))

    pub put_more : (words old : List ℕ) (size : ℕ) → slot per t b < length words
        → ((i : ℕ) → i < size → get_or words i 0 ≡ put_word per t (minus row rest) i (get_or old i 0)) → slot per t b < size
        → (i : ℕ) → i < size → get_or (set words (slot per t b) (with_bit (get_or words (slot per t b) 0) (t % word_bits))) i 0 ≡ put_word per t (minus row (without_bit rest b)) i (get_or old i 0)
    put_more words old size l f s i h = by (cases_eq i (slot per t b))
      where
        new : ℕ
        new = with_bit (get_or words (slot per t b) 0) (t % word_bits)

        by : (i ≡ slot per t b) ⊎ (i ≡ slot per t b → ⊥)
            → get_or (set words (slot per t b) (with_bit (get_or words (slot per t b) 0) (t % word_bits))) i 0 ≡ put_word per t (minus row (without_bit rest b)) i (get_or old i 0)
        by (inl e) =
            ap (λ j. get_or (set words (slot per t b) (with_bit (get_or words (slot per t b) 0) (t % word_bits))) j 0) e
            ∙ get_or-set_same words (slot per t b) (with_bit (get_or words (slot per t b) 0) (t % word_bits)) 0 l
            ∙ ap (λ w. with_bit w (t % word_bits)) (f (slot per t b) s ∙ before_slot (get_or old (slot per t b) 0))
            ∙ sym (after_slot (get_or old (slot per t b) 0)) ∙ ap (λ j. put_word per t (minus row (without_bit rest b)) j (get_or old j 0)) (sym e)
        by (inr e) =
            get_or-set_other words (slot per t b) i (with_bit (get_or words (slot per t b) 0) (t % word_bits)) 0 e ∙ f i h ∙ elsewhere i (get_or old i 0) e

-- ---- one row more of a table

-- a row of the first k
first_in : (rows : List ℕ) (k x : ℕ) → x < k → get_or (take k rows) x 0 ≡ get_or rows x 0
first_in rows k x h = get_or-take k rows x 0 h

first_past : (rows : List ℕ) (k x : ℕ) → k ≤ x → get_or (take k rows) x 0 ≡ 0
first_past rows k x h = get_or_past (take k rows) x 0 (omega (arith, length-take k rows))

module _ (per : ℕ) (rows : List ℕ) (k i : ℕ) where
  old_has : (j : ℕ) → has (turned_word per (take k rows) i) j ≡ (ltb j word_bits && has (get_or (take k rows) (i % per * word_bits + j) 0) (i / per))
  old_has j = has_picked (λ j. has (get_or (take k rows) (i % per * word_bits + j) 0) (i / per)) word_bits j

  new_has : (j : ℕ) → has (turned_word per (take (k + 1) rows) i) j ≡ (ltb j word_bits && has (get_or (take (k + 1) rows) (i % per * word_bits + j) 0) (i / per))
  new_has j = has_picked (λ j. has (get_or (take (k + 1) rows) (i % per * word_bits + j) 0) (i / per)) word_bits j

  -- where the charge has no bit in the word, or the bit is another, nothing changes
  same_bit : (j : ℕ) → (j < word_bits → i % per * word_bits + j ≡ k → ⊥) → has (turned_word per (take k rows) i) j ≡ has (turned_word per (take (k + 1) rows) i) j
  same_bit j ne = old_has j ∙ ⊎_elim low (λ h. rw (le-ltb j word_bits h)) (cases_lt j word_bits) ∙ sym (new_has j)
    where
      row_same : j < word_bits → get_or (take k rows) (i % per * word_bits + j) 0 ≡ get_or (take (k + 1) rows) (i % per * word_bits + j) 0
      row_same h = by (cases_order (i % per * word_bits + j) k)
        where
          by : (i % per * word_bits + j ≡ k) ⊎ ((i % per * word_bits + j < k) ⊎ (k < i % per * word_bits + j))
              → get_or (take k rows) (i % per * word_bits + j) 0 ≡ get_or (take (k + 1) rows) (i % per * word_bits + j) 0
          by (inl e) = absurd (ne h e)
          by (inr (inl l)) = first_in rows k (i % per * word_bits + j) l ∙ sym (first_in rows (k + 1) (i % per * word_bits + j) (omega arith))
          by (inr (inr l)) = first_past rows k (i % per * word_bits + j) (omega arith) ∙ sym (first_past rows (k + 1) (i % per * word_bits + j) (omega arith))

      low : j < word_bits → (ltb j word_bits && has (get_or (take k rows) (i % per * word_bits + j) 0) (i / per))
          ≡ (ltb j word_bits && has (get_or (take (k + 1) rows) (i % per * word_bits + j) 0) (i / per))
      low h = ap (λ row. ltb j word_bits && has row (i / per)) (row_same h)

  pub turned_more : put_word per k (get_or rows k 0) i (turned_word per (take k rows) i) ≡ turned_word per (take (k + 1) rows) i
  turned_more = by (cases_eq (i % per) (k / word_bits))
    where
      -- the bit of the charge itself
      own : i % per ≡ k / word_bits → has (turned_word per (take (k + 1) rows) i) (k % word_bits) ≡ has (get_or rows k 0) (i / per)
      own e =
          let here : i % per * word_bits + k % word_bits ≡ k = omega arith in
          new_has (k % word_bits)
          ∙ rw (lt-ltb (k % word_bits) word_bits (omega arith)) (ap (λ x. has (get_or (take (k + 1) rows) x 0) (i / per)) here ∙ ap (λ row. has row (i / per)) (first_in rows (k + 1) k (omega arith)))

      before : i % per ≡ k / word_bits → has (turned_word per (take k rows) i) (k % word_bits) ≡ false
      before e =
          let here : i % per * word_bits + k % word_bits ≡ k = omega arith in
          old_has (k % word_bits)
          ∙ rw (lt-ltb (k % word_bits) word_bits (omega arith)) (ap (λ x. has (get_or (take k rows) x 0) (i / per)) here ∙ ap (λ row. has row (i / per)) (first_past rows k k (omega arith)) ∙ has_none (i / per))

      in_block : i % per ≡ k / word_bits → (held : Bool) → has (get_or rows k 0) (i / per) ≡ held
          → cond held (with_bit (turned_word per (take k rows) i) (k % word_bits)) (turned_word per (take k rows) i) ≡ turned_word per (take (k + 1) rows) i
      in_block e true h = same_members (with_bit (turned_word per (take k rows) i) (k % word_bits)) (turned_word per (take (k + 1) rows) i) at
        where
          at : (j : ℕ) → has (with_bit (turned_word per (take k rows) i) (k % word_bits)) j ≡ has (turned_word per (take (k + 1) rows) i) j
          at j = has_with (turned_word per (take k rows) i) (k % word_bits) j ∙ ⊎_elim here there (cases_eq (k % word_bits) j)
            where
              here : k % word_bits ≡ j → (has (turned_word per (take k rows) i) j || eqb (k % word_bits) j) ≡ has (turned_word per (take (k + 1) rows) i) j
              here f =
                  let t : has (turned_word per (take (k + 1) rows) i) j ≡ true = subst (λ x. has (turned_word per (take (k + 1) rows) i) x ≡ true) f (own e ∙ h) in
                  rw (eq-eqb (k % word_bits) j f, t) (grind arith)

              there : (k % word_bits ≡ j → ⊥) → (has (turned_word per (take k rows) i) j || eqb (k % word_bits) j) ≡ has (turned_word per (take (k + 1) rows) i) j
              there f = rw (ne_eqb (k % word_bits) j f, same_bit j (λ l x. f (omega arith))) (grind arith)
      in_block e false h = same_members (turned_word per (take k rows) i) (turned_word per (take (k + 1) rows) i) at
        where
          at : (j : ℕ) → has (turned_word per (take k rows) i) j ≡ has (turned_word per (take (k + 1) rows) i) j
          at j = ⊎_elim here (λ f. same_bit j (λ l x. f (omega arith))) (cases_eq (k % word_bits) j)
            where
              here : k % word_bits ≡ j → has (turned_word per (take k rows) i) j ≡ has (turned_word per (take (k + 1) rows) i) j
              here f = subst (λ x. has (turned_word per (take k rows) i) x ≡ has (turned_word per (take (k + 1) rows) i) x) f (before e ∙ sym (own e ∙ h))

      by : (i % per ≡ k / word_bits) ⊎ (i % per ≡ k / word_bits → ⊥) → put_word per k (get_or rows k 0) i (turned_word per (take k rows) i) ≡ turned_word per (take (k + 1) rows) i
      by (inl e) =
          ap (λ x. cond (has (get_or rows k 0) (i / per) && x) (with_bit (turned_word per (take k rows) i) (k % word_bits)) (turned_word per (take k rows) i)) (eq-eqb (i % per) (k / word_bits) e)
          ∙ ap (λ x. cond x (with_bit (turned_word per (take k rows) i) (k % word_bits)) (turned_word per (take k rows) i)) (whole (has (get_or rows k 0) (i / per)))
          ∙ in_block e (has (get_or rows k 0) (i / per)) refl
        where
          whole : (x : Bool) → (x && true) ≡ x
          whole true = refl
          whole false = refl
      by (inr e) =
          ap (λ x. cond (has (get_or rows k 0) (i / per) && x) (with_bit (turned_word per (take k rows) i) (k % word_bits)) (turned_word per (take k rows) i)) (ne_eqb (i % per) (k / word_bits) e)
          ∙ ap (λ x. cond x (with_bit (turned_word per (take k rows) i) (k % word_bits)) (turned_word per (take k rows) i)) (none (has (get_or rows k 0) (i / per)))
          ∙ same_members (turned_word per (take k rows) i) (turned_word per (take (k + 1) rows) i) (λ j. same_bit j (λ l x. e (omega arith)))
        where
          none : (x : Bool) → (x && false) ≡ false
          none true = refl
          none false = refl

-- before the first charge
pub turned_none : (per : ℕ) (rows : List ℕ) (i : ℕ) → turned_word per (take 0 rows) i ≡ 0
turned_none per rows i =
    picked_empty (λ j. has (get_or (take 0 rows) (i % per * word_bits + j) 0) (i / per)) word_bits
    (λ j h. ap (λ row. has row (i / per)) (first_past rows 0 (i % per * word_bits + j) (omega arith)) ∙ has_none (i / per))

-- ---- columns over the words of a table

module _ (m : Meaning) (proper : Proper m) where
  pub turned_length : length (turned m) ≡ m.width * words_per_mark (count_of m)
  unfolding turned
  turned_length = length-map-range_with_len (turned_word (words_per_mark (count_of m)) m.rows) 0 (m.width * words_per_mark (count_of m))

  turned_at : (i : ℕ) → i < m.width * words_per_mark (count_of m) → get_or (turned m) i 0 ≡ turned_word (words_per_mark (count_of m)) m.rows i
  unfolding turned
  turned_at i h = get_or-map-range_with_len (turned_word (words_per_mark (count_of m)) m.rows) 0 (m.width * words_per_mark (count_of m)) i i 0 h (omega arith)

  -- each bit is the table's
  turned_bit : (b t : ℕ) → b < m.width → t / word_bits < words_per_mark (count_of m)
      → column_has (turned m) (words_per_mark (count_of m)) b t ≡ has (get_or m.rows t 0) b
  turned_bit b t low inside =
      let per = words_per_mark (count_of m) in
      let h : slot per t b < m.width * per = slot_below per t m.width b low inside in
      let x : (b * per + t / word_bits) % per * word_bits + t % word_bits ≡ t =
      ap (λ j. j * word_bits + t % word_bits) (mod-mul-add b per (t / word_bits) inside) ∙ (let e : t / word_bits * word_bits + t % word_bits ≡ t = omega arith in e) in
      ap (λ w. has w (t % word_bits)) (turned_at (b * per + t / word_bits) h)
      ∙ has_picked (λ k. has (get_or m.rows ((b * per + t / word_bits) % per * word_bits + k) 0) ((b * per + t / word_bits) / per)) word_bits (t % word_bits)
      ∙ rw (lt-ltb (t % word_bits) word_bits (omega arith))
      (ap₂ (λ y b. has (get_or m.rows y 0) b) x (div-mul-add b per (t / word_bits) inside))

  pub turned_accepted : columns_refusal (turned m) m.width (count_of m) ≡ None
  turned_accepted =
      accepted (turned m) m.width (count_of m) proper.few turned_length
      (first_number_none (λ b. not (eqb (past_count (turned m) (count_of m) b) no_marks)) m.width (λ b low. ap (λ s. not (eqb s no_marks)) (none b low)))
    where
      none : (b : ℕ) → b < m.width → past_count (turned m) (count_of m) b ≡ no_marks
      none b low =
          picked_empty (λ k. column_has (turned m) (words_per_mark (count_of m)) b (count_of m + k)) (words_per_mark (count_of m) * word_bits - count_of m)
          (λ k h. turned_bit b (count_of m + k) low (omega arith) ∙ ap (λ row. has row b) (get_or_past m.rows (count_of m + k) 0 (omega arith)) ∙ has_none b)

  turned_rows_same : column_rows (turned m) m.width (count_of m) ≡ m.rows
  turned_rows_same =
      ext_get_or 0 (column_rows (turned m) m.width (count_of m)) m.rows (column_count (turned m) m.width (count_of m))
      (λ t h. let l : t < count_of m = omega (arith, column_count (turned m) m.width (count_of m)) in
      column_at (turned m) m.width (count_of m) t l
      ∙ picked_same (λ b. column_has (turned m) (words_per_mark (count_of m)) b t) (has (get_or m.rows t 0)) m.width (λ b low. turned_bit b t low (omega arith))
      ∙ picked_own (get_or m.rows t 0) m.width (proper.within t))

  pub turned_same : columns_meaning (turned m) m.width (count_of m) ≡ m
  turned_same =
      columns_same (turned m) m.width (count_of m) proper.wide proper.few ∙ ap (λ rows. record { width = m.width; rows = rows }) turned_rows_same

-- words that hold each of the table's words are the table's
pub turned_whole : (m : Meaning) (words : List ℕ) → length words ≡ m.width * words_per_mark (count_of m)
    → ((i : ℕ) → i < m.width * words_per_mark (count_of m) → get_or words i 0 ≡ turned_word (words_per_mark (count_of m)) m.rows i) → words ≡ turned m
unfolding turned
turned_whole m words e f = fill_by_all (turned_word (words_per_mark (count_of m)) m.rows) words (m.width * words_per_mark (count_of m)) 0 e f

-- ---- when a table is not turned

pub turn_refused : (m : Meaning) (size : ℕ) → (size ≡ m.width * words_per_mark (count_of m) → ⊥) → turn_refusal m size ≡ Some (unplaced WordCount)
unfolding turn_refusal
turn_refused m size other = rw (ne_eqb size (m.width * words_per_mark (count_of m)) other)

pub turn_accepted : (m : Meaning) (size : ℕ) → size ≡ m.width * words_per_mark (count_of m) → turn_refusal m size ≡ None
unfolding turn_refusal
turn_accepted m size same = rw (eq-eqb size (m.width * words_per_mark (count_of m)) same)
